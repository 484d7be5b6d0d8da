-- A homing section that was told starts before the turn of its last planned step, or in it.
use Rattle.std.proofs.Common.{◌≡◌, ℕ, ◌≤◌, List, ◌∷◌, ◌++◌, length, Some, subst, arith, rules}
use Rattle.laws_board.proofs.Names.{Machine, Home, AreStarted, Started, Told, MotionTurn}
use Rattle.laws_board.specs.plans.Planned.{Plans}
use Rattle.laws_board.proofs.plans.Cutting.{homed_of}
use Rattle.laws_board.proofs.plans.Running.{started_in}
use Rattle.laws_run.proofs.home_headline.Uncut.{planned_at}

pub starts_by : (m : Machine) (ts : List MotionTurn) (p : Plans m (length m.boards) ts) (t : Told) → p.seen.told ≡ Some t → (past : List Started) (s : Started) (later : List Started) (axis : ℕ) → p.seen.begun ≡ past ++ s ∷ later → s.section.kind ≡ Home axis → s.start ≤ s.last
starts_by m ts p t told past s later axis cut home = search (rules, homed_of, planned_at, started_in)
