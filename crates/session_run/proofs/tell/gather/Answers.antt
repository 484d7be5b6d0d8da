use Rattle.std.proofs.Common.{◌+◌, ◌∙◌, false, rules}
use Rattle.report_text.specs.declared.line.ReportLine.TheVariants.{Machine}
use Rattle.session_run.proofs.Telling.{counted-one, counted-whole, kept-one, kept-whole, said-unwritten, text-one, text-whole}
use Rattle.session_run.proofs.tell.gather.Goals as goal

pub returns-in_err-keep-clause-said : goal.returns-in_err-keep-clause-said
returns-in_err-keep-clause-said c written =
    said-unwritten c.args.machine.now c.args.lines.now c.loop-line.line-index written c.args.kept.now c.keep.new.kept c.args.counts.now.items c.keep.new.counts.items (search rules ∙ c.loop-line.invariant.kept) (search rules ∙ c.loop-line.invariant.counted)

pub returns-then-is_err-clause-said : goal.returns-then-is_err-clause-said
returns-then-is_err-clause-said c written =
    let i = c.loop-line.line-index in let lines = c.args.lines.now in
    said-unwritten c.args.machine.now lines (i + 1) written c.args.kept.now c.keep.new.kept c.args.counts.now.items c.keep.new.counts.items (kept-one c.args.kept.now c.loop-line.kept c.keep.new.kept lines i (Machine false 0 0) (search rules) c.loop-line.invariant.kept c.in_ok-keep.ensures.kept) (counted-one c.args.counts.now.items c.loop-line.counts.items c.keep.new.counts.items lines i (Machine false 0 0) (search rules) c.loop-line.invariant.counted c.in_ok-keep.ensures.counted)

pub loop-line-preserved : goal.loop-line-preserved
loop-line-preserved c = record {
  text = text-one c.args.machine.now c.args.buffer.now.items c.loop-line.buffer.items c.put.new.out.items c.args.lines.now c.loop-line.line-index (Machine false 0 0) (search rules) c.loop-line.invariant.text (search rules);
  kept = kept-one c.args.kept.now c.loop-line.kept c.keep.new.kept c.args.lines.now c.loop-line.line-index _ (search rules) c.loop-line.invariant.kept c.in_ok-keep.ensures.kept;
  counted = counted-one c.args.counts.now.items c.loop-line.counts.items c.keep.new.counts.items c.args.lines.now c.loop-line.line-index _ (search rules) c.loop-line.invariant.counted c.in_ok-keep.ensures.counted;
}

pub returns-clause-said : goal.returns-clause-said
returns-clause-said c written = said-unwritten c.args.machine.now c.args.lines.now c.loop-line.line-index written c.args.kept.now c.loop-line.kept c.args.counts.now.items c.loop-line.counts.items c.loop-line.invariant.kept c.loop-line.invariant.counted

pub returns-clause-text : goal.returns-clause-text
returns-clause-text c = text-whole c.args.machine.now c.args.buffer.now.items c.loop-line.buffer.items c.args.lines.now c.loop-line.line-index (search rules) c.loop-line.invariant.text

pub returns-clause-kept : goal.returns-clause-kept
returns-clause-kept c = kept-whole c.args.kept.now c.loop-line.kept c.args.lines.now c.loop-line.line-index (search rules) c.loop-line.invariant.kept

pub returns-clause-counted : goal.returns-clause-counted
returns-clause-counted c = counted-whole c.args.counts.now.items c.loop-line.counts.items c.args.lines.now c.loop-line.line-index (search rules) c.loop-line.invariant.counted
