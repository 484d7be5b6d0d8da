use Rattle.std.proofs.Common.{rules}
use Rattle.session_run.proofs.Telling.{said-all}
use Rattle.session_run.proofs.tell.say.Goals as goal

pub returns-then-is_err-clause-said : goal.returns-then-is_err-clause-said
returns-then-is_err-clause-said g c =
    said-all c.args.machine.now c.args.lines.now _ _ c.gather.new.buffer.items c.args.kept.now c.gather.new.kept c.args.counts.now.items c.gather.new.counts.items (search rules) (search rules) c.in_ok-gather.ensures.kept c.in_ok-gather.ensures.counted

pub returns-clause-said : goal.returns-clause-said
returns-clause-said g c =
    said-all c.args.machine.now c.args.lines.now _ _ c.gather.new.buffer.items c.args.kept.now c.gather.new.kept c.args.counts.now.items c.gather.new.counts.items (search rules) (search rules) c.in_ok-gather.ensures.kept c.in_ok-gather.ensures.counted
