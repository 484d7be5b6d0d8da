use Rattle.std.proofs.Common.{◌++◌, [], List, refl, sym, subst, ◌∙◌, arith}
use Rattle.step_feed.specs.Fed.{IsStuck, releases_behind}
use Rattle.step_feed.specs.Pacing.{at_turn}
use Rattle.step_feed.specs.Units.{StepUnit}
use Rattle.step_feed.proofs.Feds.{fed-turn, none-taken, one-more, one-longer}
use Rattle.step_feed.proofs.stream.FeedStream.take.Goals as goal

pub loop-unit-init : goal.loop-unit-init
loop-unit-init c =
    let items = c.in_ok-units.ensures.items in
    let some = c.in_ok-units.ensures.capacity in
    ((λ pushed released fed. rw (items, none-taken released) fed), refl, refl, omega arith, rw items (omega arith), some, refl)

pub release-requires-clause-used : goal.release-requires-clause-used
release-requires-clause-used c = c.loop-unit.invariant.3

pub loop-unit-preserved : goal.loop-unit-preserved
loop-unit-preserved c =
    let was = c.loop-unit.invariant in
    let e = c.in-Some.ensures in
    let n = c.args.self.now.next in
    let u = c.in-Some.unit in
    let bytes = c.unit_bytes-used.ensures.value in
    let items = c.add_unit.ensures.items in
    let room = c.add_unit.ensures.capacity in
    let longer = one-longer c.loop-unit.units.items u in (
      (λ pushed released fed.
          let before = was.0 pushed released fed in
          let more = e.fed pushed (released ++ at_turn n c.loop-unit.units.items) before in
          rw (bytes, items, one-more n released c.loop-unit.units.items u) (rw was.1 at more)),
      e.next ∙ was.1,
      e.first ∙ was.2,
      omega arith,
      rw items (omega arith),
      omega arith,
      e.slots ∙ was.6,
    )

pub overflow_add-self-2 : goal.overflow_add-self-2
overflow_add-self-2 c =
    let was = c.loop-unit.invariant in
    let e = c.in_default.ensures in
    let same = e.next in
    let n = was.1 in
    let t = c.requires.turn in
    omega arith

pub returns-then-is_empty-clause-taken : goal.returns-then-is_empty-clause-taken
returns-then-is_empty-clause-taken c = λ pushed released fed.
    let s = c.args.self.now in
    let stuck = subst (λ (w : List StepUnit). IsStuck c.args.lines.now s.slots s.next (releases_behind [] released) w) (sym (c.if-is_empty.ensures refl)) tt in
    rw (c.new.ensures.items, none-taken released) (fed-turn c.args.lines.now s.slots s.next 0 s.rings.items s.waiting.items s.first pushed released stuck fed)

pub returns-clause-taken : goal.returns-clause-taken
returns-clause-taken c = λ pushed released fed.
    let was = c.loop-unit.invariant in
    let e = c.in_default.ensures in
    let s = c.loop-unit.self in
    let here = was.0 pushed released fed in
    let done = fed-turn c.args.lines.now s.slots s.next c.loop-unit.used s.rings.items s.waiting.items s.first pushed (released ++ at_turn c.args.self.now.next c.loop-unit.units.items) (e.stuck pushed (released ++ at_turn c.args.self.now.next c.loop-unit.units.items) here) here in
    rw (e.unchanged, c.requires.turn) done

pub returns-clause-next : goal.returns-clause-next
returns-clause-next c =
    let was = c.loop-unit.invariant in
    let same = c.in_default.ensures.next in
    let n = was.1 in
    let t = c.requires.turn in
    omega arith

pub returns-clause-first : goal.returns-clause-first
returns-clause-first c = c.in_default.ensures.first ∙ c.loop-unit.invariant.2

pub returns-clause-slots : goal.returns-clause-slots
returns-clause-slots c = c.in_default.ensures.slots ∙ c.loop-unit.invariant.6
