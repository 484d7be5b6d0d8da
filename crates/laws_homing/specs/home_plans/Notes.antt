-- The notes of a planner that come to the reactor, and the homing sections that they begin.
use Rattle.std.specs.Prelude.{◌≡◌, ◌≤◌, ◌++◌, ℕ, zero, suc, List, [], ◌∷◌, All, length, map, true, Option, Some, None}
use Rattle.plan_types.specs.declared.machine.Machine.{Machine}
use Rattle.msg_code.specs.declared.talk.Note.{Note}
use Rattle.msg_code.specs.declared.talk.NoteNews.{NoteNews}
use Rattle.wire_scene.specs.declared.scene.Switch.{Switch}
use Rattle.axis_homing.specs.declared.homing.Homing.{Homing}
use Rattle.plan_types.specs.declared.plan.SectionKind.TheVariants.{Home}
use Rattle.plan_types.specs.Lines.{Clocks}
use Rattle.plan_types.specs.Sections.{clocks_at}
use Rattle.clock_line.specs.Early.{turn_tick}
use Rattle.section_units.specs.Sections.{base_of}
use Rattle.motion_work.specs.Puts.{begun_notes}
use Rattle.motion_work.specs.Seen.{Started}
use Rattle.motion_work.specs.Turns.{done_notes}
use Rattle.host_reactor.specs.declared.ordered.Phase.TheVariants.{Connecting}
use Rattle.host_reactor.specs.Runs.{Came, known_by, last_reacted}
use Rattle.host_reactor.specs.Notes.{noted}
use Rattle.laws_board.specs.turns.Turns.{BoardTurn}
use Rattle.laws_board.specs.sections.Homes.{IsControlIn, RunSection}
use Rattle.laws_homing.specs.home_runs.Words.{BeginsNone, TellsHomed}

-- the note that came in a turn is that of the planner's turn before, which tells of these sections
abbrev pub IsNoteOf : List Started → ℕ → Option Note → Type 0
IsNoteOf begun zero note = note ≡ None
IsNoteOf begun (suc k) note =
    (n : Note) × (read : List NoteNews) × (note ≡ Some n)
    × (n.news ≡ done_notes k 0 begun ++ (begun_notes k 0 begun ++ read)) × BeginsNone read

-- so in each of some turns
abbrev pub CameNotes : List Started → List Came → Type 0
CameNotes begun [] = Unit {0}
CameNotes begun (c ∷ before) = IsNoteOf begun (length before) c.note × CameNotes begun before

-- in some turns from a number on a run is past connecting, and no word tells of an answer
abbrev pub IsSilentFrom : Machine → List Switch → ℕ → List Came → Type 0
IsSilentFrom m switches from [] = Unit {0}
IsSilentFrom m switches from (c ∷ before) =
    (from ≤ length before →
    ((known_by m switches before).phase ≡ Connecting → ⊥)
    × (TellsHomed (last_reacted m switches c before).ordered.word.news → ⊥))
    × IsSilentFrom m switches from before

-- a homing section that is known is one of some that were begun: it starts with it, and has its number, its
-- axis and its last turn
abbrev pub WasBegun : List Started → Option Homing → Type 0
WasBegun begun None = Unit {0}
WasBegun begun (Some h) =
    (past : List Started) × (s : Started) × (later : List Started) × (axis : ℕ) × (begun ≡ past ++ s ∷ later)
    × (s.section.kind ≡ Home axis) × (h.start ≡ s.start) × (h.group.start ≡ s.start) × (h.section ≡ length past)
    × (h.axis ≡ axis) × (h.group.last ≡ s.last)

-- the controls of a board in some turns are those of a run in which axes home
abbrev pub HoldControlsIn : Clocks → List RunSection → List BoardTurn → Type 0
HoldControlsIn clocks ss [] = Unit {0}
HoldControlsIn clocks ss (t ∷ before) =
    All (IsControlIn clocks ss (length before)) t.control.commands × HoldControlsIn clocks ss before

-- What a board has of each section that was begun: it homes where the section does, and starts in the same turn.
pub record ShowsSections (part : Started → RunSection) (begun : List Started) (ss : List RunSection) : Type 0 where
  pub are : ss ≡ map part begun
  pub homes : (s : Started) (axis : ℕ) → s.section.kind ≡ Home axis → (part s).homes ≡ true
  pub start : (s : Started) → (part s).section.start ≡ s.start

-- in some turns behind connecting the homing section that the reactor knows starts, by the clock lines that
-- it knows of a board then, at the same tick as by all of them
abbrev pub KnowBases : Machine → List Switch → ℕ → Clocks → (Started → RunSection) → List Came → Type 0
KnowBases m switches b clocks part [] = Unit {0}
KnowBases m switches b clocks part (c ∷ before) =
    (((known_by m switches before).phase ≡ Connecting → ⊥) → (h : Homing) (s : Started) →
    (noted m c.note (known_by m switches before)).homing ≡ Some h → h.start ≡ s.start →
    turn_tick (clocks_at (noted m c.note (known_by m switches before)).clocks b) h.start
    ≡ base_of clocks (part s).section)
    × KnowBases m switches b clocks part before
