-- The lines of a report that tell of a switch.
use Rattle.std.specs.Prelude.{◌≡◌, ◌⊎◌, ℕ, ◌+◌, List, [], ◌∷◌, ◌++◌, Some, length}
use Rattle.std.specs.List.{flat_map}
use Rattle.plan_types.specs.declared.machine.Machine.{Machine}
use Rattle.plan_types.specs.declared.plan.SectionKind.TheVariants.{Home}
use Rattle.plan_types.specs.Machines.{axis_at}
use Rattle.wire_scene.specs.declared.scene.Switch.{Switch}
use Rattle.trigger_group.specs.declared.order.End.TheVariants.{Endstop}
use Rattle.axis_homing.specs.declared.homing.Homing.{Homing}
use Rattle.axis_homing.specs.Homing.{answer_in, hears_all}
use Rattle.axis_homing.specs.Rising.{members_of}
use Rattle.host_reactor.specs.declared.ordered.Phase.TheVariants.{Running}
use Rattle.host_reactor.specs.Notes.{noted}
use Rattle.host_reactor.specs.Reactor.{cut_line}
use Rattle.host_reactor.specs.Runs.{Came, known_by, last_reacted}
use Rattle.report_text.specs.declared.line.ReportLine.{ReportLine}
use Rattle.report_text.specs.declared.line.ReportLine.TheVariants as report
use Rattle.motion_work.specs.Seen.{Started}
use Rattle.session_run.specs.Boards.{came_in}
use Rattle.laws_homing.specs.switch_runs.Reports.{WasReported}
use Rattle.session_work.specs.declared.table.ReactorTurn.{ReactorTurn}
use Rattle.laws_run.specs.clear_homes.First.{NoneExpired}

-- a line, where it tells that the switch of a homing section closed
abbrev pub cut_in : ReportLine → List ReportLine
cut_in (report.Cut section board pin tick from) = report.Cut section board pin tick from ∷ []
cut_in _ = []

-- the lines of some that tell it
abbrev pub cuts_of : List ReportLine → List ReportLine
cuts_of lines = flat_map cut_in lines

-- A turn of the reactor tells that a switch closed: the group of the homing section that is known answers so,
-- at a tick, and the one such line of the turn is that of the section, of its axis's endstop, at this tick.
pub record TellsCut (m : Machine) (switches : List Switch) (c : Came) (before : List Came) : Type 0 where
  pub homing : Homing
  pub known : (noted m c.note (known_by m switches before)).homing ≡ Some homing
  pub tick : ℕ
  pub answer : answer_in (length before) homing.start
      (hears_all (noted m c.note (known_by m switches before)).clocks c.states homing).group ≡ Some (Endstop tick)
  pub lines : cuts_of (last_reacted m switches c before).ordered.lines
      ≡ cut_line m switches homing.section (axis_at m homing.axis) (Some tick)

-- Lines of a turn of the reactor tell that a switch closed: the group of the homing section that is known
-- answers so, at a tick, and the one such line is that of the section, of its axis's endstop, at this tick.
-- The endstop's board told so, by its switch, in a state that came in this turn or one before it, at this
-- tick, which is in a turn from the section's start on. All members told that they triggered, none since its
-- timeout passed in a turn up to the section's last one.
pub record TellsAnswer (m : Machine) (switches : List Switch) (c : Came) (before : List Came)
    (lines : List ReportLine) : Type 0 where
  pub homing : Homing
  pub known : (noted m c.note (known_by m switches before)).homing ≡ Some homing
  pub tick : ℕ
  pub answer : answer_in (length before) homing.start
      (hears_all (noted m c.note (known_by m switches before)).clocks c.states homing).group ≡ Some (Endstop tick)
  pub turn : ℕ
  pub told : WasReported m switches (axis_at m homing.axis).board homing.start
      (record { reason = 1; tick = tick; turn = turn }) (c ∷ before)
  pub unexpired : NoneExpired (λ b f. WasReported m switches b homing.start f (c ∷ before)) homing.group.last
      (members_of homing.group)
  pub lines_are : cuts_of lines ≡ cut_line m switches homing.section (axis_at m homing.axis) (Some tick)

-- They tell of none: the run is connecting or stopping, or no group answers so.
pub record TellsNoAnswer (m : Machine) (switches : List Switch) (c : Came) (before : List Came)
    (lines : List ReportLine) : Type 0 where
  pub none : (homing : Homing) (tick : ℕ) → (noted m c.note (known_by m switches before)).phase ≡ Running →
      (noted m c.note (known_by m switches before)).homing ≡ Some homing →
      answer_in (length before) homing.start
      (hears_all (noted m c.note (known_by m switches before)).clocks c.states homing).group ≡ Some (Endstop tick) → ⊥
  pub lines_are : cuts_of lines ≡ []

-- Each of some turns of the reactor, behind what came to it before, tells of a switch exactly where a group
-- answers that it closed.
abbrev pub TellAnswers : Machine → List Switch → List Came → List ReactorTurn → Type 0
TellAnswers m switches before [] = Unit {0}
TellAnswers m switches before (t ∷ ts) =
    (TellsAnswer m switches (came_in t) before t.lines ⊎ TellsNoAnswer m switches (came_in t) before t.lines)
    × TellAnswers m switches (came_in t ∷ before) ts

-- A homing section of those that were begun, by its number and its axis, ended in a turn.
pub record EndsIn (begun : List Started) (k number axis : ℕ) : Type 0 where
  pub past : List Started
  pub s : Started
  pub later : List Started
  pub cut : begun ≡ past ++ s ∷ later
  pub number_is : number ≡ length past
  pub home : s.section.kind ≡ Home axis
  pub end : s.end ≡ k

-- A homing section ended in a turn, whose lines tell of one switch: that of the section's axis, with the
-- section's number, at a tick.
pub record TellsSwitch (m : Machine) (switches : List Switch) (begun : List Started) (k : ℕ) (lines : List ReportLine)
    : Type 0 where
  pub number : ℕ
  pub axis : ℕ
  pub ended : EndsIn begun k number axis
  pub tick : ℕ
  pub lines_are : cuts_of lines ≡ cut_line m switches number (axis_at m axis) (Some tick)

-- No homing section ended in a turn, and its lines tell of no switch.
pub record TellsNone (begun : List Started) (k : ℕ) (lines : List ReportLine) : Type 0 where
  pub none : (number axis : ℕ) → EndsIn begun k number axis → ⊥
  pub lines_are : cuts_of lines ≡ []

-- so in each of some turns, of which this is the first one's number: they tell of a switch where a homing
-- section ended, and else of none
abbrev pub TellEnds : Machine → List Switch → List Started → ℕ → List ReactorTurn → Type 0
TellEnds m switches begun k [] = Unit {0}
TellEnds m switches begun k (t ∷ ts) =
    (TellsSwitch m switches begun k t.lines ⊎ TellsNone begun k t.lines) × TellEnds m switches begun (k + 1) ts
