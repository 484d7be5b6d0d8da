use Rattle.std.proofs.Common.{◌≡◌, ℕ, ◌+◌, ◌<◌, ◌∙◌, List, [], ◌∷◌, ◌++◌, length, drop, get_or, map, sym, ap, arith}
use Rattle.std.proofs.lemmas.List.{drop_more}
use Rattle.std.proofs.lemmas.List.Sums.{sum_by-drop_more}
use Rattle.plan_types.specs.declared.plan.Move.{Move}
use Rattle.plan_types.specs.declared.plan.Part.{Part}
use Rattle.plan_types.specs.declared.plan.Segment.{Segment}
use Rattle.plan_types.specs.Sections.{TimedPart, duration, segment_of, timed}
use Rattle.plan_types.proofs.MoveBounds.{move_length-small}
use Rattle.section_plan.specs.Runs.{part_at}
use Rattle.section_plan.proofs.Timings.{made-more, timed-none, timed-some}
use Rattle.section_plan.proofs.parts.push_parts.Goals.{then-part-ne0+in_ok-push, else-part-ne0}
use Rattle.section_plan.proofs.parts.push_parts.Goals as goal

abbrev no_part : Part
no_part = record { d = 0; v0 = 0; v1 = 0; ns = 0 }

pub overflow_add-before : goal.overflow_add-before
overflow_add-before c =
    let more = sum_by-drop_more (λ (p : Part). p.d) c.args.parts.now c.loop-part.part-index no_part (omega arith) in
    let small = move_length-small c.args.one.now c.requires.valid in
    let is = c.requires.valid.length_is in
    let sum = c.loop-part.invariant.before_is in
    omega arith

module _ (F : TimedPart → Segment) (m : Move) (before begin i : ℕ) (xs : List Part) (made new whole : List Segment) (h : i < length xs) (so_far : made ++ map F (timed m before begin (drop i xs)) ≡ whole) where
  -- a part of no distance has no segment, another one has its own
  part-none : (get_or xs i no_part).d ≡ 0 → new ≡ made → new ++ map F (timed m (before + (get_or xs i no_part).d) (begin + (get_or xs i no_part).ns) (drop (i + 1) xs)) ≡ whole
  part-none none is =
      let split = ap (timed m before begin) (drop_more xs i no_part h) ∙ timed-none m before begin (get_or xs i no_part) (drop (i + 1) xs) none in
      rw is (ap (λ ts. made ++ map F ts) (sym split) ∙ so_far)

  part-some : 0 < (get_or xs i no_part).d → new ≡ made ++ F (part_at m (get_or xs i no_part) before begin) ∷ []
      → new ++ map F (timed m (before + (get_or xs i no_part).d) (begin + (get_or xs i no_part).ns) (drop (i + 1) xs)) ≡ whole
  part-some some is =
      let split = ap (timed m before begin) (drop_more xs i no_part h) ∙ timed-some m before begin (get_or xs i no_part) (drop (i + 1) xs) some in
      made-more F made new (timed m before begin (drop i xs)) (part_at m (get_or xs i no_part) before begin ∷ []) _ whole so_far split is

pub loop-part-preserved : goal.loop-part-preserved
loop-part-preserved c =
    let drive = c.args.drive.now in let F = segment_of drive.corexy drive.number drive.line in
    let xs = c.args.parts.now in let i = c.loop-part.part-index in let p = get_or xs i no_part in let before = c.loop-part.invariant in
    let h : i < length xs = omega arith in let split = drop_more xs i no_part h in
    let far = sum_by-drop_more (λ (q : Part). q.d) xs i no_part h in
    let late : duration (drop i xs) ≡ p.ns + duration (drop (i + 1) xs) = ap duration split in
    let took = c.time_of-time.ensures.value in let way = before.before_is in let time = before.time_is in let begun = before.begun in
    record {
      whole = rw took (elim c.if-part-ne0.branch [
        | then-part-ne0+in_ok-push w ↦ part-some F c.args.one.now c.loop-part.before c.loop-part.time i xs c.loop-part.made.items c.if-part-ne0.made.items _ h before.whole (omega (arith, w.if-part-ne0.true))
            (ap (λ v. v.items) w.made-is ∙ (w.in_ok-push.ensures.items ∙ ap (λ s. c.loop-part.made.items ++ s ∷ []) w.segment.ensures))
        | else-part-ne0 w ↦ part-none F c.args.one.now c.loop-part.before c.loop-part.time i xs c.loop-part.made.items c.if-part-ne0.made.items _ h before.whole w.if-part-ne0.false (ap (λ v. v.items) w.made-is)
      ]);
      before_is = omega arith;
      time_is = omega arith;
      begun = omega arith;
    }
