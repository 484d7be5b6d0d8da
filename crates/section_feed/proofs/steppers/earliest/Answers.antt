use Rattle.std.proofs.Common.{◌<◌, arith, ap, ◌∙◌, IfSome, not}
use Rattle.section_feed.proofs.Merging.{best-found, best-kept, best-passed, none-less, some-less}
use Rattle.section_feed.proofs.steppers.earliest.Goals.{in-Some+then-is_none, then-is_none-via-then-is_none, then-is_none-via-else-is_none+then-first-least, in-Some+else-is_none+else-first-least, in_default}
use Rattle.section_feed.proofs.steppers.earliest.Goals as goal

pub loop-place-preserved : goal.loop-place-preserved
loop-place-preserved c =
    let due = c.args.due in
    let place = c.loop-place.place in
    let steppers = c.args.steppers.now in
    let one = c.index-steppers-place.result in
    let inv = c.loop-place.invariant in
    elim c.match-first_by.branch [
      | in-Some+then-is_none w ↦ (
          let s = w.in-Some.ensures.some in
          let less : IfSome c.loop-place.best (λ p. w.in-Some.first < c.loop-place.least) = elim w.then-is_none.branch [
            | then-is_none-via-then-is_none v ↦ none-less due place steppers one c.loop-place.best (λ p. w.in-Some.first < c.loop-place.least) (w.is_none.ensures ∙ ap not v.if-is_none.true)
            | then-is_none-via-else-is_none+then-first-least v ↦ some-less due place steppers one c.loop-place.best (w.in-Some.first < c.loop-place.least) v.if-first-least.true
          ] in
          rw (w.best-is, w.least-is) (best-found due place steppers one c.loop-place.best c.loop-place.least w.in-Some.first s.0 s.1 inv c.loop-place-test.true c.index-steppers-place.is s.2 s.3 s.4 less))
      | in-Some+else-is_none+else-first-least w ↦ (
          let s = w.in-Some.ensures.some in
          rw (w.best-is, w.least-is) (best-kept due place steppers one c.loop-place.best c.loop-place.least s.0 s.1 (w.is_none.ensures ∙ ap not w.if-is_none.false) inv c.loop-place-test.true c.index-steppers-place.is s.2 (let f = w.if-first-least.false in let e = s.4 in omega arith)))
      | in_default w ↦ rw (w.best-is, w.least-is) (best-passed due place steppers one c.loop-place.best c.loop-place.least inv c.loop-place-test.true c.index-steppers-place.is w.in_default.ensures.none)
    ]
