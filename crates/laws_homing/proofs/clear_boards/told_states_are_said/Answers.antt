use Rattle.laws_homing.proofs.home_runs.Spelled.{same_kind, state_told}
use Rattle.laws_homing.proofs.clear_boards.told_states_are_said.Goals as goal

pub returns : goal.returns
returns c = record { kind = λ c told t. same_kind c told t; same = λ a b r k oid can reason clock la lb lr lk t. state_told a b r k oid can reason clock la lb lr lk t }
