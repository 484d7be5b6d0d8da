-- Boards whose steps are packed far enough ahead of a turn.
use Rattle.std.proofs.Common.{◌≡◌, ℕ, ◌+◌, ◌*◌, ◌≤◌, arith, inl, inr}
use Rattle.std.proofs.Math.Nat.{div-add-mod}
use Rattle.std.proofs.lemmas.Nat.{mod_below}
use Rattle.std.proofs.lemmas.Bool.{cases_lt}
use Rattle.plan_types.specs.Clock.{turn_ns}
use Rattle.clock_line.proofs.Turns.{tick_over-mono}
use Rattle.section_feed.specs.declared.board.BoardStream.{BoardStream}
use Rattle.section_feed.specs.Feeding.{packed_of, turn_of}
use Rattle.section_feed.specs.Going.{IsAhead}

-- they are packed further
pub ahead-packed : (turn : ℕ) (b : BoardStream) → IsAhead turn b → turn + 252 ≤ packed_of b
ahead-packed turn b is = elim (cases_lt (turn + 251) (packed_of b)) as (λ _. turn + 252 ≤ packed_of b) [
  | inl more ↦ omega arith
  | inr less ↦ (
      let ahead = is.ahead in
      let up = tick_over-mono b.lines.first 0 b.lines.held (packed_of b * turn_ns) ((turn + 251) * turn_ns) (omega arith) in
      let low = b.lasting.valid.freq_low in
      let some = div-add-mod (b.lines.first.freq * 25) 1_000_000 in
      let r = mod_below (b.lines.first.freq * 25) 1_000_000 (omega arith) in
      absurd (omega arith))
]

-- and so they are where they are packed by six turns further
pub packed-ahead : (turn : ℕ) (b : BoardStream) → turn_of b ≡ turn → turn + 257 ≤ packed_of b → IsAhead turn b
packed-ahead turn b next packed = record {
  ahead = (
      let begun = b.begun_next in
      let apart = b.lasting.apart.turns (turn + 251) (omega arith) in
      let up = tick_over-mono b.lines.first 0 b.lines.held ((turn + 251 + 6) * turn_ns) (packed_of b * turn_ns) (omega arith) in
      omega arith);
}
