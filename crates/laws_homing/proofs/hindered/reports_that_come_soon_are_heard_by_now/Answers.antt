use Rattle.laws_homing.proofs.hindered.Soon.{heard_by_now}
use Rattle.laws_homing.proofs.hindered.reports_that_come_soon_are_heard_by_now.Goals as goal

pub returns : goal.returns
returns g = λ m switches pins entries b from start members lines c before turns order r latest homes knows front now past.
    heard_by_now m switches pins entries b from start members lines order c before turns r latest homes knows front (now, past)
