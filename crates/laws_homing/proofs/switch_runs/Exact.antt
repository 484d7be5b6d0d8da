-- Where a board takes the homing command in time, a section's readings begin exactly at the tick at which it starts.
use Rattle.std.proofs.Common.{◌≡◌, ℕ, ◌+◌, ◌*◌, ◌/◌, ◌^◌, ◌<◌, ◌≤◌, List, [], ◌∷◌, ◌++◌, length, Some, refl, ap, sym, ◌∙◌, subst, arith, inl, inr, append_assoc, length-append}
use Rattle.std.specs.Prelude.{slice_index_or}
use Rattle.laws_board.proofs.Names.{leb_tells, Level, BoardClock, AxisDef, Machine, nearest, turn_ns, Clocks, lines_tick, board_at, clocks_at, turn_tick, AreKept, Sampling, Switch, low, noted, Came, known_by, LinkState}
use Rattle.board_step.proofs.Whole.{nearest_is}
use Rattle.board_trig.specs.Sampling.{IsTriggerTick}
use Rattle.laws_homing.specs.home_parts.Answers.{ArePastConnecting}
use Rattle.laws_homing.specs.home_parts.Known.{KnowsLately}
use Rattle.laws_homing.proofs.home_parts.Held.{tick_known}
use Rattle.laws_homing.specs.missed_groups.Ticks.{IsSwitchTick}
use Rattle.laws_homing.proofs.missed_groups.Homing.{Sampled, sampled_is}
use Rattle.laws_homing.specs.switch_runs.Reading.{IsComplete}
use Rattle.laws_homing.specs.switch_runs.Taken.{TookHome}
use Rattle.laws_homing.specs.home_runs.Sections.{TakesSetUp, queued_in_turns}
use Rattle.laws_homing.proofs.home_runs.Staying.{taken_later}
use Rattle.laws_homing.proofs.home_runs.Windows.{begun}
use Rattle.laws_homing.proofs.fired_runs.Rested.{queue_later}
use Rattle.laws_board.specs.turns.Turns.{AreBoardTurns, BoardTurn, stands_after}
use Rattle.laws_board.proofs.sections.Lists.{cuts}
use Rattle.laws_homing.specs.switch_runs.Runs.{KnewSo, readings}

-- the lines by which a section is set up give its start the tick that all lines give it
pub knew_tick : (m : Machine) (switches : List Switch) (b ready at start axis : ℕ) (lines : Clocks) (clocks : List Clocks) (came : List Came) → start ≤ at + 276 → ready < at → AreKept (clocks_at clocks b) → ArePastConnecting m switches ready came
    → KnowsLately m switches clocks came → KnewSo m switches b at start axis lines came → lines_tick lines (start * turn_ns) ≡ lines_tick (clocks_at clocks b) (start * turn_ns)
knew_tick m switches b ready at start axis lines clocks [] soon late kept past knows knew = absurd knew
knew_tick m switches b ready at start axis lines clocks (c ∷ before) soon late kept past knows (inl k) =
    let turn = k.0 in
    ap (λ (l : Clocks). lines_tick l (start * turn_ns)) k.1.lines_are
    ∙ tick_known (noted m c.note (known_by m switches before)).clocks clocks (length before + 276) b start (knows.0 (past.0 (omega (arith, turn, late)))) kept (omega (arith, turn, soon))
knew_tick m switches b ready at start axis lines clocks (c ∷ before) soon late kept past knows (inr k) = knew_tick m switches b ready at start axis lines clocks before soon late kept past.1 knows.1 k

same_sampling : (x y : Sampling) → Some x ≡ Some y → x ≡ y
same_sampling x y e = cc

-- readings whose command a board took at a tick less than half a round in front of their own begin exactly there
pub exact_tick : (m : Machine) (b start : ℕ) (axis : AxisDef) (clocks : Clocks) (pins : List (List Level)) (base now tick : ℕ) → 0 < (board_at m b).freq / 10_000 → lines_tick clocks (start * turn_ns) ≡ base → base < 2 ^ 64
    → now ≤ base → base ≤ now + 2 ^ 31 → IsComplete (slice_index_or pins axis.pin []) (readings m b axis (low (turn_tick clocks start))) now tick → IsSwitchTick m pins b axis base tick
exact_tick m b start axis clocks pins base now tick some is small before near k =
    let same : turn_tick clocks start ≡ base = omega (arith, is, small) in
    let at : nearest now (low (turn_tick clocks start)) ≡ base = subst (λ (n : ℕ). nearest now (low n) ≡ base) (sym same) (nearest_is now (low base) base (omega (arith, before), near) (omega arith)) in
    let begun = same_sampling (Sampled m clocks b start axis (Unit {0}) pins base now at before some) k.sampling k.begun in
    subst (λ (y : Sampling). IsTriggerTick (slice_index_or pins axis.pin []) y tick) (sym begun ∙ sampled_is m clocks b start axis (Unit {0}) pins base now at before some) k.complete

-- and what is read from there on is what the command has it read
pub exact_back : (m : Machine) (b start : ℕ) (axis : AxisDef) (clocks : Clocks) (pins : List (List Level)) (base now tick : ℕ) → 0 < (board_at m b).freq / 10_000 → lines_tick clocks (start * turn_ns) ≡ base → base < 2 ^ 64
    → now ≤ base → base ≤ now + 2 ^ 31 → IsSwitchTick m pins b axis base tick → IsComplete (slice_index_or pins axis.pin []) (readings m b axis (low (turn_tick clocks start))) now tick
exact_back m b start axis clocks pins base now tick some is small before near hit =
    let same : turn_tick clocks start ≡ base = omega (arith, is, small) in
    let at : nearest now (low (turn_tick clocks start)) ≡ base = subst (λ (n : ℕ). nearest now (low n) ≡ base) (sym same) (nearest_is now (low base) base (omega (arith, before), near) (omega arith)) in
    record {
      sampling = Sampled m clocks b start axis (Unit {0}) pins base now at before some;
      begun = refl;
      complete = subst (λ (y : Sampling). IsTriggerTick (slice_index_or pins axis.pin []) y tick) (sym (sampled_is m clocks b start axis (Unit {0}) pins base now at before some)) hit;
    }

-- of two parts of some turns the shorter one is part of the longer
pub front_part : (xs ys us vs : List BoardTurn) → xs ++ ys ≡ us ++ vs → length ys ≤ length vs → (d : List BoardTurn) × (vs ≡ d ++ ys)
front_part xs ys us vs e low = elim (cuts xs ys us vs e) [
  | inr p ↦ (p.0 ∷ p.1, p.3)
  | inl p ↦ ([], none p.0 (let size = ap length p.2 ∙ length-append p.0 vs in omega (arith, size, low)) p.2)
]
  where
    none : (m : List BoardTurn) → length m ≡ 0 → ys ≡ m ++ vs → vs ≡ ys
    none [] n same = sym same
    none (x ∷ m) n same = absurd (omega (arith, n))

-- a board that takes the set-up of a section in time takes its command before the section's start
pub took_early : (clock : BoardClock) (first : LinkState) (start turn : ℕ) (turns : List BoardTurn) → AreBoardTurns clock first turns → TakesSetUp first start turns → TookHome first start turns turn → turn < start
took_early clock first start turn turns are s k = elim (leb_tells (turn + 1) start) [ inl p ↦ (let low = p.1 in omega (arith, low)) | inr p ↦ absurd (late p.1) ]
  where
    late : start < turn + 1 → ⊥
    late high =
        let old = s.late ++ s.past in
        let new = k.since ++ k.early in
        let now : turns ≡ (k.later ++ k.took ∷ []) ++ new = k.taken_in ∙ sym (append_assoc k.later (k.took ∷ []) new) in
        let in_time = s.in_time in
        let at = k.at in
        let d = front_part s.window old (k.later ++ k.took ∷ []) new (sym s.are ∙ now) (omega (arith, high, in_time, at)) in
        let mine : AreBoardTurns clock first (d.0 ++ old) = subst (AreBoardTurns clock first) d.1 (begun clock first (k.later ++ k.took ∷ []) new (subst (AreBoardTurns clock first) now are)) in
        let grown = taken_later clock first d.0 old mine in
        let queued = s.queued in
        let set_up = k.set_up in
        let e = front_part k.up (k.order ∷ k.early) (s.window ++ s.late) s.past (sym k.ordered_in ∙ s.are ∙ sym (append_assoc s.window s.late s.past)) (omega (arith, queued, set_up)) in
        let more = queue_later e.0 (k.order ∷ k.early) in
        let n_past = ap (λ (z : List BoardTurn). length (queued_in_turns z)) e.1 ∙ ap length more.1 ∙ length-append (queued_in_turns (k.order ∷ k.early)) more.0 in
        let n_took = sym (length-append (queued_in_turns s.past) s.more) ∙ ap length s.took in
        let n_new = ap (λ (z : List BoardTurn). length (stands_after first z).core.taken) d.1 ∙ ap length grown.1 ∙ length-append (stands_after first old).core.taken grown.0 in
        let ordered = k.ordered in
        let not_yet = k.not_yet in
        omega (arith, n_past, n_took, n_new, ordered, not_yet)
