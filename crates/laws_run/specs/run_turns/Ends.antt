-- In which turn a homing section of a run ends.
use Rattle.std.specs.Prelude.{◌≡◌, ℕ, List, [], ◌∷◌, ◌++◌, length}
use Rattle.plan_types.specs.declared.machine.Machine.{Machine}
use Rattle.wire_scene.specs.declared.scene.Switch.{Switch}
use Rattle.motion_work.specs.Seen.{Started}
use Rattle.session_work.specs.declared.table.ReactorTurn.{ReactorTurn}
use Rattle.session_run.specs.Boards.{came_from, came_in}
use Rattle.laws_run.specs.home_headline.Cuts.{TellsAnswer}

-- A homing section, of a number and an axis, ends with its answer: in the turn of the reactor in which it
-- ends, of some that are counted from 0, it is the section that is known; its group answers that its switch
-- closed; and the one line of the turn that tells of a switch is the section's, of its axis's endstop, at the
-- tick of the answer.
pub record EndsWithAnswer (m : Machine) (switches : List Switch) (turns : List ReactorTurn) (number axis : ℕ)
    (s : Started) : Type 0 where
  pub past : List ReactorTurn
  pub turn : ReactorTurn
  pub later : List ReactorTurn
  pub are : turns ≡ past ++ turn ∷ later
  pub end : length past ≡ s.end
  pub tells : TellsAnswer m switches (came_in turn) (came_from [] past) turn.lines
  pub number_is : tells.homing.section ≡ number
  pub axis_is : tells.homing.axis ≡ axis
  pub start_is : tells.homing.start ≡ s.start
