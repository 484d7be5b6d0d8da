use Rattle.std.proofs.Common.{◌≡◌, ◌+◌, ◌≤◌, inl, inr, length, take, slice_index_or, ap, arith, sym, ◌∙◌}
use Rattle.step_feed.specs.Pacing.{releases, turn_limit}
use Rattle.step_feed.proofs.Feds.{feeds-first, feeds-more, no_unit, one-further, one-longer-turns, taken-length}
use Rattle.std.proofs.lemmas.List.{take_all}
use Rattle.step_feed.proofs.Together.{paced-up}
use Rattle.step_feed.proofs.whole.feed.Goals as goal

pub loop-unit-init : goal.loop-unit-init
loop-unit-init c =
    let s = c.new-stream.result in
    let e = c.new-stream.ensures in
    let none = c.in_ok-turns.ensures.items in
    let within : s.next ≤ turn_limit = let n = e.next in let f = c.requires.first in omega arith in
    (feeds-first c.args.lines.now c.args.slots c.args.first s.next s.rings.items s.waiting.items c.in_ok-turns.turns.items s.first (rw e.slots at e.fed c.args.lines.now) e.none_waits none e.first e.next, ap length none, e.slots, e.first, omega arith, e.none_waits, within)

pub loop-unit-preserved : goal.loop-unit-preserved
loop-unit-preserved c =
    let was = c.loop-unit.invariant in
    let s = c.loop-unit.stream in
    let t = c.place_unit.new.self in
    let i = c.loop-unit.unit-index in
    let us = c.args.units.now in
    let e = c.in_ok-used.ensures in
    let turns = c.loop-unit.turns.items in
    let u = slice_index_or us i no_unit in
    let more = one-further us i c.loop-unit-test.true in
    let longer = c.in_ok-push.ensures.items in
    let same = taken-length us i c.loop-unit-test.true ∙ sym was.1 in
    let fed = e.placed (take i us) (releases (take i us) turns) (rw was.3 was.0.at_last) (rw (was.2, was.3, was.5) was.0.fed) in
    let here = rw (e.slots ∙ was.2, e.first ∙ was.3, e.none_waits) at fed in
    let within : t.next ≤ turn_limit + (i + 1) = let w = was.6 in elim e.next [ inl one ↦ omega arith | inr small ↦ omega arith ] in
    (feeds-more c.args.lines.now c.args.slots c.args.first t.next c.in_ok-used.used t.rings.items (take i us) (take (i + 1) us) turns c.push.new.self.items u same more (rw c.next_turn.ensures at longer) here, rw longer (one-longer-turns turns c.next_turn.result ∙ ap (λ n. n + 1) was.1), e.slots ∙ was.2, e.first ∙ was.3, e.bytes, e.none_waits, within)

pub invariant_of-result : goal.invariant_of-result
invariant_of-result c =
    let was = c.loop-unit.invariant in
    let us = c.args.units.now in
    let turns = c.loop-unit.turns.items in
    let all : take c.loop-unit.unit-index us ≡ us = take_all c.loop-unit.unit-index us c.loop-unit-test.false in
    let items = c.in_ok-from_slice.ensures.items in
    let end = c.loop-unit.auto.unit-index-end in
    let done = c.loop-unit-test.false in
    let given = was.1 in
    let same : length us ≡ length turns = omega arith in
    record {
      same = rw items same;
      up = paced-up c.args.lines.now c.args.slots c.args.first us turns same (rw all at was.0.fed.paced);
    }
