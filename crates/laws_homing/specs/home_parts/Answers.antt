-- The words of the reactor's turns that tell of answers, and those that a planner took.
use Rattle.std.specs.Prelude.{◌≡◌, ◌⊎◌, ◌<◌, ◌≤◌, ◌+◌, ℕ, true, List, [], ◌∷◌, ◌++◌, length, map}
use Rattle.plan_types.specs.declared.levels.Level.{Level}
use Rattle.plan_types.specs.declared.machine.Machine.{Machine}
use Rattle.plan_types.specs.declared.plan.SectionKind.TheVariants.{Home}
use Rattle.plan_types.specs.Machines.{axis_at, board_at}
use Rattle.msg_code.specs.declared.talk.WordMsg.{WordMsg}
use Rattle.wire_scene.specs.declared.scene.Entry.{Entry}
use Rattle.wire_scene.specs.declared.scene.Switch.{Switch}
use Rattle.link_work.specs.Stands.{first_state}
use Rattle.trigger_group.specs.Group.{unseen}
use Rattle.trigger_group.specs.Kept.{may_be}
use Rattle.axis_homing.specs.Homing.{members_from}
use Rattle.host_reactor.specs.declared.ordered.Phase.TheVariants.{Connecting}
use Rattle.host_reactor.specs.Runs.{Came, GoesOn, known_by, last_reacted}
use Rattle.laws_board.specs.turns.Turns.{BoardTurn}
use Rattle.motion_work.specs.Seen.{Started}
use Rattle.motion_work.specs.Told.{tells_homed}
use Rattle.session_work.specs.declared.table.MotionTurn.{MotionTurn}
use Rattle.session_work.specs.Rows.{item}
use Rattle.laws_board.specs.plans.Planned.{Plans, words_in}
use Rattle.laws_homing.specs.home_runs.Sections.{TakesSetUp}
use Rattle.laws_homing.specs.home_runs.Words.{TellsHomed}
use Rattle.laws_homing.specs.home_plans.Notes.{CameNotes}

-- the word of a turn tells that a homing group answered
abbrev pub TellsIn : Machine → List Switch → ℕ → List Came → Type 0
TellsIn m switches turn [] = ⊥
TellsIn m switches turn (c ∷ before) =
    ((length before ≡ turn) × TellsHomed (last_reacted m switches c before).ordered.word.news)
    ⊎ TellsIn m switches turn before

-- no word tells of an answer in turns from one on and before another
abbrev pub TellNone : Machine → List Switch → ℕ → ℕ → List Came → Type 0
TellNone m switches from to [] = Unit {0}
TellNone m switches from to (c ∷ before) =
    (from ≤ length before → length before < to → TellsHomed (last_reacted m switches c before).ordered.word.news → ⊥)
    × TellNone m switches from to before

-- each word, of some that were taken, that has the place of one of these turns is the word of that turn
abbrev pub AreOfTurns : Machine → List Switch → List WordMsg → List Came → Type 0
AreOfTurns m switches words [] = Unit {0}
AreOfTurns m switches words (c ∷ before) =
    ((w : WordMsg) → item (length before) words ≡ w ∷ [] → w ≡ (last_reacted m switches c before).ordered.word)
    × AreOfTurns m switches words before

-- Turns of a reactor that took the notes that a planner made, as the planner heard its words; those that it
-- heard behind them tell of no answer. The planner may have made one turn less than the reactor.
pub record IsPlannedBy (m : Machine) (switches : List Switch) (n : ℕ) (ts : List MotionTurn) (p : Plans m n ts)
    (came : List Came) : Type 0 where
  pub goes_on : GoesOn m switches came
  pub notes : CameNotes p.seen.begun came
  pub words : AreOfTurns m switches (words_in (p.made ++ p.last)) came
  pub others : (place : ℕ) (w : WordMsg) → length came ≤ place → item place (words_in (p.made ++ p.last)) ≡ w ∷ [] →
      tells_homed w.news ≡ true → ⊥
  pub long : length came ≤ length p.made + 1

-- behind a turn a run is past connecting
abbrev pub ArePastConnecting : Machine → List Switch → ℕ → List Came → Type 0
ArePastConnecting m switches ready [] = Unit {0}
ArePastConnecting m switches ready (c ∷ before) =
    (ready < length before → (known_by m switches before).phase ≡ Connecting → ⊥)
    × ArePastConnecting m switches ready before

-- the group of each of these sections that homes may be formed: its turns are in order and in range, and not
-- too many steppers move
abbrev pub MayHome : Machine → List Started → Type 0
MayHome m [] = Unit {0}
MayHome m (s ∷ begun) =
    ((axis : ℕ) → s.section.kind ≡ Home axis →
    may_be (map unseen (members_from m (axis_at m axis) s.moving 0 m.boards)) s.start s.last ≡ true) × MayHome m begun

-- a board took the set-up of each of these homing sections that ends in its turns in time
abbrev pub TakeSetUps : Machine → List (List Level) → List Entry → ℕ → List Started → List BoardTurn → Type 0
TakeSetUps m pins entries b [] turns = Unit {0}
TakeSetUps m pins entries b (s ∷ begun) turns =
    ((axis : ℕ) → s.section.kind ≡ Home axis → (later past : List BoardTurn) → turns ≡ later ++ past →
    length past ≡ s.end → TakesSetUp (first_state (board_at m b) pins b entries) s.start past)
    × TakeSetUps m pins entries b begun turns
