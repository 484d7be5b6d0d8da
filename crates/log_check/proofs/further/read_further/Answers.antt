use Rattle.std.proofs.Common.{sym, ◌∙◌}
use Rattle.text_core.specs.Lines.{lines_of}
use Rattle.log_check.proofs.Furthers.{found-all, found-more, furthers, said-furthers}
use Rattle.log_check.proofs.further.read_further.Goals as goal

pub loop-rest-preserved : goal.loop-rest-preserved
loop-rest-preserved c = record {
  whole = found-more c.args.machine.now c.first_line.result.0.now (lines_of c.loop-rest.rest.now) (lines_of c.first_line.result.1.now) c.loop-rest.found.items c.look_at.new.found.items (furthers c.args.machine.now (lines_of c.args.text.now))
      c.loop-rest.invariant.whole c.first_line.ensures.lines c.in_ok-look_at.ensures.value;
  early = c.in_ok-look_at.ensures.early;
}

pub returns-clause-value : goal.returns-clause-value
returns-clause-value c =
    found-all c.args.machine.now c.loop-rest.rest.now c.loop-rest.found.items (furthers c.args.machine.now (lines_of c.args.text.now)) c.loop-rest.invariant.whole (sym c.is_empty.ensures ∙ c.loop-rest-test.false)
    ∙ sym (said-furthers c.args.machine.now 1 (lines_of c.args.text.now))
