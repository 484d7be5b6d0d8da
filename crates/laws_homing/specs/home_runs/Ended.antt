-- A homing section from the note that begins it up to the word that tells of its answer.
use Rattle.std.specs.Prelude.{◌≡◌, ◌⊎◌, ◌≤◌, ◌+◌, ◌++◌, ℕ, List, ◌∷◌, Option, None, Some, length, true}
use Rattle.plan_types.specs.declared.levels.Level.{Level}
use Rattle.plan_types.specs.declared.machine.Machine.{Machine}
use Rattle.plan_types.specs.Machines.{board_at}
use Rattle.wire_scene.specs.declared.scene.Entry.{Entry}
use Rattle.wire_scene.specs.declared.scene.Switch.{Switch}
use Rattle.link_work.specs.Stands.{first_state}
use Rattle.trigger_group.specs.declared.order.Member.{Member}
use Rattle.host_reactor.specs.Notes.{news_of}
use Rattle.host_reactor.specs.Runs.{Came, last_reacted, state_at}
use Rattle.laws_board.specs.turns.Turns.{BoardTurn, latest_state}
use Rattle.laws_board.specs.clocks.Runs.{IsInRun}
use Rattle.laws_board.specs.sections.Homes.{RunSection}
use Rattle.laws_homing.specs.home_runs.Sections.{TakesSetUp}
use Rattle.laws_homing.specs.home_runs.Words.{BeginsNone, IsBegunIn, TellsHomed}
use Rattle.laws_homing.specs.fired_runs.Since.{IsReadSo}

-- A homing section of a board in a run, by what the reactor took and told: a note began it, which was taken
-- 254 turns before its start or earlier; in the turn in which it ends, and the run goes on, the first word
-- since told of its answer; and the board took its set-up in time, or what it told is read as the ticks since
-- which its trigger can't trigger.
pub record IsToldIn (m : Machine) (switches : List Switch) (pins : List (List Level)) (entries : List Entry)
    (b start end : ℕ) (turns : List BoardTurn) : Type 0 where
  pub came : Came
  pub before : List Came
  pub later : List BoardTurn
  pub past : List BoardTurn
  pub are : turns ≡ later ++ past
  pub long : length past ≡ end
  pub run_is : IsInRun m switches pins entries b before past
  pub states : state_at b came.states ≡ latest_state past
  pub goes_on : (last_reacted m switches came before).ordered.end ≡ None
  pub begin : ℕ
  pub members : List Member
  pub begun : IsBegunIn m switches begin start members before
  pub soon : begin + 254 ≤ start
  pub far : start ≤ end
  pub none : BeginsNone (news_of came.note)
  pub homed : TellsHomed (last_reacted m switches came before).ordered.word.news
  pub fires : TakesSetUp (first_state (board_at m b) pins b entries) start past ⊎ IsReadSo m switches b came before past

-- The parts of a board's steps that are begun in some turns stop with homing sections of the board that were
-- told of by the end of these turns: each such part is begun 254 to 252 turns before the start of one.
abbrev pub AreToldIn : Machine → List Switch → List (List Level) → List Entry → ℕ → (ℕ → Option ℕ) → List RunSection →
    List BoardTurn → Type 0
AreToldIn m switches pins entries b stops ss turns =
    (turn end : ℕ) → stops turn ≡ Some end → end ≤ length turns →
    (past : List RunSection) × (s : RunSection) × (later : List RunSection) × (ss ≡ past ++ s ∷ later)
    × (s.homes ≡ true) × (s.section.end ≡ end) × (s.section.start ≤ turn + 254) × (turn + 252 ≤ s.section.start)
    × IsToldIn m switches pins entries b s.section.start end turns
