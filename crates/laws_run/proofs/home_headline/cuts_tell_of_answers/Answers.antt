use Rattle.laws_run.proofs.home_headline.Cuts.{told_cut, told_none, told_section}
use Rattle.laws_run.proofs.home_headline.cuts_tell_of_answers.Goals as goal

pub returns : goal.returns
returns c = record { told = told_cut; section = told_section; none = told_none }
