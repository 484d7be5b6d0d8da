use Rattle.std.proofs.Common.{◌≡◌, ℕ, ◌+◌, ◌*◌, ◌^◌, ◌<◌, ◌≤◌, ◌++◌, [], ◌∷◌, List, All, get_or, length, drop, max, arith, refl, ap, sym, ◌∙◌, append_assoc, append-nil, true, false}
use Rattle.plan_types.specs.Plan.{no_step}
use Rattle.plan_types.specs.Clock.{tick_limit}
use Rattle.plan_types.specs.declared.plan.Gear.{Gear}
use Rattle.plan_types.specs.declared.plan.Planned.{Planned}
use Rattle.plan_types.specs.declared.plan.Segment.{Segment}
use Rattle.plan_types.specs.Lines.{Clocks, lines_board}
use Rattle.step_ticks.specs.Due.{IsDropped, IsKept, is_due}
use Rattle.step_ticks.specs.Ticks.{IsBetween}
use Rattle.step_ticks.specs.Streaming.{AreSteps}
use Rattle.step_ticks.proofs.Giving.{give-one, drop-two, asked-later, exactly, past-all}
use Rattle.step_ticks.proofs.Rising.{on-board-between}
use Rattle.step_ticks.proofs.stream.StepStream.take.Invariants.{Gives}
use Rattle.step_ticks.proofs.stream.StepStream.take.Goals as goal

gives-one : (gear : Gear) (clocks : Clocks) (reach end last_end first from last next until dropped t : ℕ) (all steps new one two three : List Planned) (a : Planned) → Gives gear clocks reach end last_end first from last next until dropped all steps → one ≡ all → two ≡ all → three ≡ all → next < length one → a ≡ get_or two next no_step → is_due reach until end (get_or one next no_step) ≡ true → IsKept reach three next → t ≡ max (lines_board clocks a.tick) (last + 4) → lines_board clocks a.tick < tick_limit → new ≡ steps ++ record { tick = t; up = a.up } ∷ [] → Gives gear clocks reach end last_end first from t (next + 1) until dropped all new
gives-one gear clocks reach end last_end first from last next until dropped t all steps new one two three a gives e1 e2 e3 inside is due kept at low made =
    let h = rw e1 at inside in
    let due' = rw e1 at due in
    let is' = rw e2 at is in
    let kept' = rw e3 at kept in
    let small = gives.small in
    let due_a : is_due reach until end a ≡ true = ap (is_due reach until end) is' ∙ due' in
    record {
      given = λ base segments asked out up g. (
          let r = give-one gear clocks reach end last_end last next all a base segments until (out ++ steps) t (gives.given base segments asked out up g) h is' due_a kept' at in
          rw made (rw append_assoc at r));
      within = omega arith;
      small = rw at (omega arith);
    }

drops-two : (gear : Gear) (clocks : Clocks) (reach end last_end first from last next until dropped : ℕ) (all steps three : List Planned) → Gives gear clocks reach end last_end first from last next until dropped all steps → three ≡ all → IsDropped reach three next → Gives gear clocks reach end last_end first from last (next + 2) until dropped all steps
drops-two gear clocks reach end last_end first from last next until dropped all steps three gives e3 pair =
    let pair' : IsDropped reach all next = rw e3 at pair in
    let two = pair'.two in
    let small = gives.small in
    record {
      given = λ base segments asked out up g. drop-two gear clocks reach end last_end last next all base segments until (out ++ steps) (gives.given base segments asked out up g) pair';
      within = omega arith;
      small = omega arith;
    }

on_board_at : (clocks : Clocks) (end next : ℕ) (all one two : List Planned) (a : Planned) → All (IsBetween clocks end) all → (0 < length all → lines_board clocks end < tick_limit) → one ≡ all → two ≡ all → next < length one → a ≡ get_or two next no_step → lines_board clocks a.tick < tick_limit
on_board_at clocks end next all one two a between small e1 e2 inside is =
    let h = rw e1 at inside in
    let is' = rw e2 at is in
    rw is' (on-board-between clocks end (get_or all next no_step) (between next no_step h) (small (omega arith)))

pub next_tick-last-requires-clause-on_board : goal.next_tick-last-requires-clause-on_board
next_tick-last-requires-clause-on_board c =
    let s = c.args.self.now in
    on_board_at s.lines s.last_end c.loop-self.next s.raw.items c.deref.result.now c.deref-in-loop-self.result.now c.step_at-step.result s.between s.on_board c.deref.ensures.value c.deref-in-loop-self.ensures.value (c.is_due.ensures.inside c.loop-self-test.true) c.step_at-step.ensures

pub loop-self-preserved-then-is_dropped : goal.loop-self-preserved-then-is_dropped
loop-self-preserved-then-is_dropped c =
    let s = c.args.self.now in
    drops-two s.gear s.lines s.reach s.end s.last_end s.last s.next c.loop-self.last c.loop-self.next c.args.until s.dropped s.raw.items c.loop-self.steps.items _ c.loop-self.invariant c.deref-in-loop-self-2.ensures.value (c.is_dropped.ensures.dropped c.if-is_dropped.true)

pub loop-self-preserved : goal.loop-self-preserved
loop-self-preserved c =
    let s = c.args.self.now in
    let low = on_board_at s.lines s.last_end c.loop-self.next s.raw.items c.deref.result.now c.deref-in-loop-self.result.now c.step_at-step.result s.between s.on_board c.deref.ensures.value c.deref-in-loop-self.ensures.value (c.is_due.ensures.inside c.loop-self-test.true) c.step_at-step.ensures in
    gives-one s.gear s.lines s.reach s.end s.last_end s.last s.next c.loop-self.last c.loop-self.next c.args.until s.dropped c.next_tick-last.result s.raw.items c.loop-self.steps.items c.push.new.self.items c.deref.result.now c.deref-in-loop-self.result.now c.deref-in-loop-self-2.result.now c.step_at-step.result c.loop-self.invariant c.deref.ensures.value c.deref-in-loop-self.ensures.value c.deref-in-loop-self-2.ensures.value (c.is_due.ensures.inside c.loop-self-test.true) c.step_at-step.ensures (c.is_due.ensures.due c.loop-self-test.true) (c.is_dropped.ensures.kept c.if-is_dropped.false) c.next_tick-last.ensures.value low c.in_ok-push.ensures.items

pub returns-clause-due : goal.returns-clause-due
returns-clause-due c = λ base segments asked out up steps. (
    let s = c.args.self.now in
    let given = c.loop-self.invariant.given base segments asked out up steps in
    let late = rw c.deref.ensures.value at (c.is_due.ensures.later c.loop-self-test.false) in
    (exactly s.gear s.lines s.reach s.end s.last_end c.loop-self.last c.loop-self.next s.raw.items base segments c.args.until (out ++ c.loop-self.steps.items) given late, given))

pub returns-clause-past : goal.returns-clause-past
returns-clause-past c = λ base segments asked out up steps room. (
    let s = c.args.self.now in
    let given = c.loop-self.invariant.given base segments asked out up steps in
    let late = rw c.deref.ensures.value at (c.is_due.ensures.later c.loop-self-test.false) in
    record { known = omega arith; waits = past-all s.reach c.args.until s.end s.raw.items c.loop-self.next given.rising late room })
