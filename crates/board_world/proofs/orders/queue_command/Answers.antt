use Rattle.std.proofs.Common.{Err, ap, ◌∙◌}
use Rattle.msg_code.specs.Table.{row_of}
use Rattle.link_core.specs.Host.{with_queued}
use Rattle.board_world.proofs.Queueing.{known, written_is, one_queued, is_read}
use Rattle.board_world.proofs.orders.queue_command.Goals as goal

pub unreachable-requires : goal.unreachable-requires
unreachable-requires c =
    known c.args.formats.now.formats (row_of c.args.c.now) c.requires (c.encode.ensures.unknown.0 (c.in-Err.is ∙ ap (λ e. Err e) c.in-Err.ensures.only_unknown))

pub returns-clause-host : goal.returns-clause-host
returns-clause-host c =
    let text = c.as_slice.ensures.value ∙ written_is c.args.formats.now.formats c.args.c.now c.in-Ok.text.items c.requires c.in-Ok.ensures.ok in
    c.in_ok-queue-in-Ok.ensures.ok ∙ ap (λ t. with_queued c.args.host.now t c.closes.result) text ∙ one_queued c.args.host.now c.args.c.now c.closes.result c.closes.ensures

pub returns-clause-read : goal.returns-clause-read
returns-clause-read c = is_read c.args.formats.now.formats c.args.c.now c.in-Ok.text.items c.requires c.in-Ok.ensures.ok c.in-Ok.ensures.reads
