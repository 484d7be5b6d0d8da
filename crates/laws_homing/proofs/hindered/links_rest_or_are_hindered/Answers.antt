use Rattle.laws_homing.proofs.hindered.Resting.{rests_or, some_or}
use Rattle.laws_homing.proofs.hindered.links_rest_or_are_hindered.Goals as goal

pub returns : goal.returns
returns g = record { link = λ from to turns low. rests_or from to turns low; links = λ from to members all low. some_or from to members all low }
