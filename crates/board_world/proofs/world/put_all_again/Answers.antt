use Rattle.std.proofs.Common.{◌∙◌, ◌%◌, ◌+◌, [], ap, arith}
use Rattle.std.specs.Prelude.{slice_index_or}
use Rattle.block_frame.specs.Block.{block_text}
use Rattle.link_core.specs.Host.{Host, acked_of}
use Rattle.board_world.proofs.Resending.{next_again, next_put, every_again}
use Rattle.board_world.proofs.world.put_all_again.Goals as goal

pub loop-i-preserved : goal.loop-i-preserved
loop-i-preserved c =
    let host = c.args.host.now in
    let old = c.loop-i in
    let text = c.again.ensures.block ∙ ap (λ (x : Host). block_text ((acked_of x + old.i) % 16) (slice_index_or x.contents old.i [])) old.invariant.host in
    record {
      host = next_again host old.host c.again.new.self old.i old.invariant.host c.again.ensures.after;
      down = next_put (acked_of host) old.i host.contents c.args.down.now old.down c.put.new.self c.again.result.items (omega (arith, c.loop-i-test.true, c.outstanding-i-end.ensures.number)) old.invariant.down text
          c.in_ok-put.ensures;
    }

pub returns-clause-host : goal.returns-clause-host
returns-clause-host c = every_again c.args.host.now c.loop-i.host c.loop-i.i (omega (arith, c.loop-i-test.false, c.outstanding-i-end.ensures.puts)) c.loop-i.invariant.host
