use Rattle.std.proofs.Common.{◌≤◌, ◌+◌, ◌∙◌, [], ap, refl, sym, subst, arith, length}
use Rattle.plan_types.specs.declared.cause.Cause.TheVariants as cause
use Rattle.text_core.specs.Lines.{lines_of}
use Rattle.text_core.specs.Words.{words_of, worded_lines}
use Rattle.log_check.specs.Points.{Point, point}
use Rattle.log_check.specs.Steps.{IsSoundPoint, point_of}
use Rattle.log_check.specs.Verdicts.{log_verdict, worded}
use Rattle.log_check.specs.Behind.{further_said}
use Rattle.log_check.proofs.Checking.{IsTold, told-cause, told-lines, took-all, took-misfit, took-more}
use Rattle.log_check.proofs.Sounding.{start-sound}
use Rattle.log_check.proofs.check.check_log.Goals as goal

pub loop-line-init : goal.loop-line-init
unfolding log_verdict
loop-line-init c =
    let m = c.args.machine.now in
    let at = c.in_ok-stand.ensures in
    let Sound : Point → Type 0 = λ p. IsSoundPoint m p in
    let Begun : Point → Type 0 = λ p. p.begun ≤ length c.args.sections.now in
    let Few : Point → Type 0 = λ p. length p.plans ≤ 16 in
    record {
      sofar = record { lines = []; at = at ∙ ap (λ f. point m c.args.sections.now f []) c.in_ok-further.ensures.value; told_is = c.new-out.ensures.items; more = refl };
      sound = subst Sound (sym at) (start-sound m c.args.sections.now c.in_ok-further.further.items c.in_ok-further.ensures.early);
      begun = subst Begun (sym at) (omega arith);
      few = subst Few (sym at) (omega arith);
      small = omega (arith, c.requires.size);
    }

pub loop-line-preserved : goal.loop-line-preserved
loop-line-preserved c =
    let took = c.in_ok-kind.ensures in
    let none = c.in_default-2.is in
    record {
      sofar = took-more c.args.machine.now c.args.sections.now (further_said c.args.machine.now (worded c.args.text.now)) (point_of c.loop-line.stand) (point_of c.take.new.stand) c.loop-line.out.items c.take.new.out.items c.loop-line.last c.in-Some.line.number
          (words_of c.in-Some.line.words.now) (worded_lines 35 c.loop-line.number (lines_of c.loop-line.rest.now)) (worded_lines 35 (c.in-Some.line.number + 1) (lines_of c.in-Some.line.rest.now)) (log_verdict c.args.machine.now c.args.sections.now c.args.text.now) c.in_ok-kind.field-0
          c.loop-line.invariant.sofar c.in-Some.ensures.some took.took none;
      sound = rw none at took.sound;
      begun = took.begun;
      few = took.few;
      small = omega (arith, c.in-Some.ensures.small, c.loop-line.invariant.small);
    }

misfit : (c : goal.After-drop-stand-in-Some-2-6) → IsTold c.args.machine.now c.args.sections.now (further_said c.args.machine.now (worded c.args.text.now)) (point_of c.take.new.stand) c.take.new.out.items (cause.Misfit c.in-Some.line.number c.in-Some-2.kind) (log_verdict c.args.machine.now c.args.sections.now c.args.text.now)
misfit c = took-misfit c.args.machine.now c.args.sections.now (further_said c.args.machine.now (worded c.args.text.now)) (point_of c.loop-line.stand) (point_of c.take.new.stand) c.loop-line.out.items c.take.new.out.items c.loop-line.last c.in-Some.line.number
    (words_of c.in-Some.line.words.now) (worded_lines 35 c.loop-line.number (lines_of c.loop-line.rest.now)) (worded_lines 35 (c.in-Some.line.number + 1) (lines_of c.in-Some.line.rest.now)) (log_verdict c.args.machine.now c.args.sections.now c.args.text.now) c.in_ok-kind.field-0 c.in-Some-2.kind
    c.loop-line.invariant.sofar c.in-Some.ensures.some c.in_ok-kind.ensures.took c.in-Some-2.is

pub returns-in-Some-2-clause-cause : goal.returns-in-Some-2-clause-cause
returns-in-Some-2-clause-cause c = told-cause c.args.machine.now c.args.sections.now (point_of c.take.new.stand) c.take.new.out.items (cause.Misfit c.in-Some.line.number c.in-Some-2.kind) c.args.text.now c.close.result c.close.ensures.cause (misfit c)

pub returns-in-Some-2-clause-lines : goal.returns-in-Some-2-clause-lines
returns-in-Some-2-clause-lines c = told-lines c.args.machine.now c.args.sections.now (point_of c.take.new.stand) c.take.new.out.items (cause.Misfit c.in-Some.line.number c.in-Some-2.kind) c.args.text.now c.close.result c.close.ensures.lines (misfit c)

all : (c : goal.After-drop-stand-7) → IsTold c.args.machine.now c.args.sections.now (further_said c.args.machine.now (worded c.args.text.now)) (point_of c.loop-line.stand) c.loop-line.out.items c.cause_at_end.result (log_verdict c.args.machine.now c.args.sections.now c.args.text.now)
all c = took-all c.args.machine.now c.args.sections.now (further_said c.args.machine.now (worded c.args.text.now)) (point_of c.loop-line.stand) c.loop-line.out.items c.loop-line.last (worded_lines 35 c.loop-line.number (lines_of c.loop-line.rest.now)) (log_verdict c.args.machine.now c.args.sections.now c.args.text.now) c.cause_at_end.result
    c.loop-line.invariant.sofar (c.in_default.ensures.none) c.cause_at_end.ensures

pub returns-clause-cause : goal.returns-clause-cause
returns-clause-cause c = told-cause c.args.machine.now c.args.sections.now (point_of c.loop-line.stand) c.loop-line.out.items c.cause_at_end.result c.args.text.now c.close-2.result c.close-2.ensures.cause (all c)

pub returns-clause-lines : goal.returns-clause-lines
returns-clause-lines c = told-lines c.args.machine.now c.args.sections.now (point_of c.loop-line.stand) c.loop-line.out.items c.cause_at_end.result c.args.text.now c.close-2.result c.close-2.ensures.lines (all c)
