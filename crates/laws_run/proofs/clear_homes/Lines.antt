-- The clock lines of a board in a run in which axes home: they track it until any turn before that up to which they do, and turns begin by those that the
-- reactor knows as by all.
use Rattle.std.proofs.Common.{◌≡◌, ℕ, suc, ◌+◌, ◌-◌, ◌*◌, ◌^◌, ◌<◌, ◌≤◌, inl, inr, List, [], ◌∷◌, length, map, refl, ap, sym, ◌∙◌, subst, arith}
use Rattle.laws_board.proofs.Names.{leb_tells, length-map, Machine, Held, turn_ns, Clocks, lines_tick, clocks_at, AreKept, Switch, noted, Came, known_by}
use Rattle.plan_types.specs.Clock.{run_turns}
use Rattle.plan_types.specs.Lines.{last_from}
use Rattle.clock_line.proofs.Turns.{turn-after, turn_within}
use Rattle.laws_board.specs.sections.Parts.{AreTracked}
use Rattle.laws_homing.specs.home_parts.Known.{KnowsLately}
use Rattle.motion_work.specs.Known.{held_by, lines_by}
use Rattle.laws_homing.proofs.home_parts.Held.{clocks_by, kept_by, tick_known, ticks_by}
use Rattle.laws_homing.specs.clear_groups.Sections.{KnowsLines}

pub tracked_by : (own : ℕ → ℕ) (clocks : Clocks) (ready until : ℕ) (k : AreTracked own clocks ready) → until ≤ k.until → (x : AreTracked own clocks ready) × (x.until ≡ until)
tracked_by own clocks ready until k far =
    let x : AreTracked own clocks ready = record {
      until = until;
      kept = k.kept;
      behind = λ n low soon. k.behind n low (omega (arith, soon, far));
      ahead = λ n low soon. k.ahead n low (omega (arith, soon, far));
    } in
    (x, refl)

pub lines_known : (m : Machine) (switches : List Switch) (clocks : List Clocks) (start : ℕ) (came : List Came) → length clocks ≡ length m.boards → ((b : ℕ) → b < length m.boards → AreKept (clocks_at clocks b)) → KnowsLately m switches clocks came
    → KnowsLines m switches start (λ b. clocks_at clocks b) came
lines_known m switches clocks start [] count kept k = tt
lines_known m switches clocks start (c ∷ before) count kept k = (
  λ past h is at b low.
      let n = length before + 276 in
      let same = k.0 past in
      let size : length (map (lines_by n) clocks) ≡ length clocks = length-map clocks (lines_by n) in
      let all = kept b low in (
        subst (λ (cs : List Clocks). b < length cs) (sym same) (omega (arith, low, count, size)),
        record {
          kept = subst AreKept (sym (ap (λ (cs : List Clocks). clocks_at cs b) same ∙ clocks_by n clocks b)) (kept_by n (clocks_at clocks b) all);
          ticks = λ turn soon. tick_known (noted m c.note (known_by m switches before)).clocks clocks n b turn same all soon;
        },
      ),
  lines_known m switches clocks start before count kept k.1,
)

-- of those that hold by a turn the last one does
last_by : (turn from : ℕ) (held : List Held) → from ≤ turn * turn_ns → last_from from (held_by turn held) ≤ turn * turn_ns
last_by turn from [] early = early
last_by turn from (h ∷ held) early = elim (leb_tells (suc (turn * turn_ns)) h.from) [
  | inl p ↦ rw p.0 (last_by turn from held early)
  | inr p ↦ rw p.0 (last_by turn h.from held (let by = p.1 in omega (arith, by)))
]

-- and by them a round of the 32-bit clock fits between a turn before it and the last one of a run
pub round_by : (clocks : Clocks) (most turn : ℕ) → AreKept clocks → turn ≤ most → clocks.first.at ≤ most * turn_ns → most < 2 ^ 43 → lines_tick clocks (turn * turn_ns) < 2 ^ 61
    → lines_tick (lines_by most clocks) (turn * turn_ns) + 2 ^ 32 ≤ lines_tick (lines_by most clocks) (run_turns * turn_ns)
round_by clocks most turn kept low early few small =
    let known = lines_by most clocks in
    let tick = lines_tick known (turn * turn_ns) + (2 ^ 32 - 1) in
    let same = ticks_by most clocks (turn * turn_ns) kept (omega (arith, low)) in
    let last = last_by most clocks.first.at clocks.held early in
    let within = turn_within known tick in
    let after = turn-after known tick (run_turns - 1) (kept_by most clocks kept) (omega (arith, within, last, few, same, small)) in
    omega (arith, after)
