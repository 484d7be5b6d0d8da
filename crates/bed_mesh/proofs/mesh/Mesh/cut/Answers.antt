use Rattle.std.proofs.Common.{◌∙◌, ◌∷◌, [], ap, sym, arith, length, length-append}
use Rattle.bed_mesh.specs.Cuts.{place_behind}
use Rattle.bed_mesh.proofs.Ways.{all_on_the_way, at_target}
use Rattle.bed_mesh.proofs.Cutting.{cut_more}
use Rattle.bed_mesh.proofs.mesh.Mesh.cut.Goals as goal

pub loop-number-preserved : goal.loop-number-preserved
loop-number-preserved c =
    let n = ap length c.in_ok-push.ensures.items ∙ length-append c.loop-number.ends.items (c.place_behind.result ∷ []) in
    let fewer = c.in-Some.ensures.fewer in
    let few = c.loop-number.invariant.few in
    record {
      so_far = cut_more (place_behind c.args.m.now) c.loop-number.ends.items _ _ _ _ _ _ c.in_ok-push.ensures.items c.place_behind.ensures.value c.in-Some.ensures.first c.loop-number.invariant.so_far;
      near = all_on_the_way c.args.m.now _ _ _ c.loop-number.invariant.near c.place_behind.ensures.near c.in_ok-push.ensures.items;
      valid = c.next_cut.ensures.valid;
      whole = c.next_cut.ensures.whole ∙ c.loop-number.invariant.whole;
      few = omega arith;
    }

pub returns-clause-near : goal.returns-clause-near
returns-clause-near c = all_on_the_way c.args.m.now _ _ _ c.loop-number.invariant.near (at_target c.args.m.now) c.in_ok-push-2.ensures.items
