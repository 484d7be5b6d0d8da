use Rattle.std.proofs.Common.{◌∙◌, ◌++◌, ◌∷◌, [], List, ap, arith, length, length-append, subst, sym}
use Rattle.std.specs.Prelude.{slice_index_or}
use Rattle.step_feed.specs.Units.{StepUnit}
use Rattle.motion_stream.specs.Rows.{units_in}
use Rattle.motion_stream.proofs.Rowing.{AreJoining, empty_is, joined_none, joining_all, joining_more, joining_none, made_at}
use Rattle.motion_stream.proofs.rows.merged.Goals as goal

pub loop-init : goal.loop-init
loop-init c = record {
  joining = subst (λ (rows : List (List (List StepUnit))). AreJoining c.args.boards c.args.one.items c.args.two.items c.args.one.items c.args.two.items rows) (sym c.new-rows.ensures.items) (joining_none c.args.boards c.args.one.items c.args.two.items);
  count = ap (λ (rows : List (List (List StepUnit))). length rows) c.new-rows.ensures.items;
}

pub loop-preserved : goal.loop-preserved
loop-preserved c =
    let i = c.loop.invariant in
    let front = c.next_row-front.ensures in
    let behind = c.next_row-behind.ensures in
    let are = c.in_ok-push_back.ensures.items in
    record {
      joining = joining_more c.args.boards c.args.one.items c.args.two.items c.loop.one.items c.loop.two.items c.loop.rows.items c.next_row-front.new.rows.items c.next_row-behind.new.rows.items c.push_back.new.self.items c.in_ok-row.row i.joining front.rest behind.rest are
          (λ b lt. made_at (λ x. units_in c.as_slice.result.now x ++ units_in c.as_slice-in-loop.result.now x) c.args.boards b c.in_ok-row.row c.in_ok-row.ensures lt
          ∙ ap (λ (r : List (List StepUnit)). units_in r b ++ units_in c.as_slice-in-loop.result.now b) (c.as_slice.ensures ∙ front.row) ∙ ap (λ (r : List (List StepUnit)). units_in (slice_index_or c.loop.one.items 0 []) b ++ units_in r b) (c.as_slice-in-loop.ensures ∙ behind.row));
      count = let n = i.count in let l = ap (λ (rows : List (List (List StepUnit))). length rows) are ∙ length-append c.loop.rows.items (c.in_ok-row.row ∷ []) in omega (arith, n, l);
    }

pub returns : goal.returns
returns c =
    let i = c.loop.invariant in
    let n = i.count in
    let most = c.max-most.ensures in
    let one = c.args.one.ok in
    let two = c.args.two.ok in
    let a = c.len.ensures in
    let b = c.len-2.ensures in
    let t = c.loop-test.false in
    joining_all c.args.boards c.args.one.items c.args.two.items c.loop.one.items c.loop.two.items c.loop.rows.items i.joining (omega (arith, n, most, one, two, a, b, t)) (omega (arith, n, most, one, two, a, b, t))

pub returns-then-is_empty : goal.returns-then-is_empty
returns-then-is_empty c = joined_none c.args.boards c.args.one.items c.args.two.items (empty_is c.args.one.len c.args.one.items c.if-is_empty.ensures c.args.one.ok.0)
