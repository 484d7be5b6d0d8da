use Rattle.log_check.specs.Steps.{point_of}
use Rattle.log_check.proofs.Sounding.{section-plannable}
use Rattle.std.proofs.Common.{◌≡◌, None}
use Rattle.log_check.specs.Faults.{fault_at}
use Rattle.log_check.specs.Steps.{point_of}
use Rattle.log_text.specs.declared.line.LogLine.{LogLine}
use Rattle.log_text.specs.declared.line.LogLine.TheVariants as line
use Rattle.log_text.specs.There.{IsThere}
use Rattle.std.proofs.Common.{subst}
use Rattle.log_check.proofs.check.advance.Goals as goal

pub begin-requires-clause-can : goal.begin-requires-clause-can
begin-requires-clause-can c =
    let m = c.args.machine.now in
    let p = point_of c.args.stand.now in
    let l : c.args.line.now ≡ line.Section c.in-Section.section c.in-Section.turn c.in-Section.kind = c.in-Section.is in
    let At : LogLine → Type 0 = λ k. fault_at m c.args.sections.now p k ≡ None in
    let Named : LogLine → Type 0 = λ k. IsThere m k in
    section-plannable m c.args.sections.now p c.in-Section.section c.in-Section.turn c.in-Section.kind c.requires.machine c.requires.sections c.requires.sound (subst Named l c.requires.there) (subst At l c.requires.fits)
