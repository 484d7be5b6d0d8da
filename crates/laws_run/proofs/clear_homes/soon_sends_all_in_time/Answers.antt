use Rattle.laws_run.proofs.clear_homes.Through.{exact_all, soon_all}
use Rattle.laws_run.proofs.clear_homes.soon_sends_all_in_time.Goals as goal

pub returns : goal.returns
returns c = record { soon = λ m text planned sends. soon_all m text planned sends; exact = λ m text planned exact sends. exact_all m text planned exact sends }
