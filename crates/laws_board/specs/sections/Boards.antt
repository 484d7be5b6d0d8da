-- A run of several boards: each has its link, and the sections of all start and end in the same turns.
use Rattle.std.specs.Prelude.{◌≡◌, ℕ, ◌+◌, ◌-◌, ◌<◌, ◌≤◌, List, [], ◌∷◌, take, drop}
use Rattle.plan_types.specs.declared.machine.BoardDef.{BoardDef}
use Rattle.plan_types.specs.declared.levels.Level.{Level}
use Rattle.plan_types.specs.declared.plan.Pulse.{Pulse}
use Rattle.plan_types.specs.Lines.{Clocks}
use Rattle.msg_code.specs.declared.talk.State.{State}
use Rattle.section_units.specs.Sections.{BoardSection}
use Rattle.board_world.specs.World.{new_world}
use Rattle.link_work.specs.Turn.{Orders}
use Rattle.laws_board.specs.sections.Links.{pulses_in}

-- the turns in which a section starts and ends
pub record Times : Type 0 where
  pub start : ℕ
  pub end : ℕ

-- a board in a run: what is known of it, its sections, and in each turn what its link was given and what it told
pub record OnBoard : Type 0 where
  pub board : BoardDef
  -- the levels of its pins
  pub pins : List (List Level)
  -- its clock lines
  pub clocks : Clocks
  pub sections : List BoardSection
  pub orders : List Orders
  pub states : List State

-- the pulses that a board told in the turns from one on and before another
abbrev pub told_in : ℕ → ℕ → OnBoard → List Pulse
told_in from to x = pulses_in (take (to - from) (drop from x.states))

-- the next section, where there is one, starts behind a turn
abbrev pub NextStart : ℕ → List Times → Type 0
NextStart turn [] = Unit {0}
NextStart turn (t ∷ ts) = turn < t.start

-- sections that are five turns over by a turn: all their steps are made
abbrev pub AreEnded : ℕ → List Times → Type 0
AreEnded turn [] = Unit {0}
AreEnded turn (t ∷ ts) = (t.end + 5 ≤ turn) × AreEnded turn ts

-- Turns of a run: from the one before a section's start on, and before another, which is at least one before
-- the start of the next section.
pub record IsWindow (turns from to : ℕ) (t : Times) (later : List Times) : Type 0 where
  pub begins : from + 1 ≡ t.start
  pub order : from ≤ to
  pub within : to ≤ turns
  pub next : NextStart to later
