-- The homing sections of a run in a scene without entries, as their boards are set up.
use Rattle.std.specs.Prelude.{◌≡◌, ◌⊎◌, ◌<◌, ◌≤◌, ◌+◌, ℕ, List, [], ◌∷◌, None, Some, length, min}
use Rattle.plan_types.specs.declared.levels.Level.{Level}
use Rattle.plan_types.specs.declared.machine.Machine.{Machine}
use Rattle.plan_types.specs.Clock.{board_tick, clock_of, run_turns}
use Rattle.plan_types.specs.Lines.{Clocks}
use Rattle.plan_types.specs.Machines.{board_at}
use Rattle.wire_scene.specs.declared.scene.Entry.{Entry}
use Rattle.wire_scene.specs.declared.scene.Switch.{Switch}
use Rattle.laws_board.specs.turns.Turns.{BoardTurn, latest_state}
use Rattle.laws_board.specs.sections.Parts.{AreTracked}
use Rattle.trigger_group.specs.declared.order.Member.{Member}
use Rattle.axis_homing.specs.declared.homing.Homing.{Homing}
use Rattle.host_reactor.specs.declared.ordered.Phase.TheVariants.{Connecting}
use Rattle.host_reactor.specs.Notes.{news_of, noted}
use Rattle.host_reactor.specs.Runs.{Came, GoesOn, HaveStates, known_by, state_at}
use Rattle.laws_homing.specs.home_runs.Told.{IsMember}
use Rattle.laws_homing.specs.home_runs.Words.{BeginsNone}
use Rattle.laws_homing.specs.clear_groups.Sections.{AreOfTurn, IsClearSection, IsFollowed, IsPlain, KnowsLines, turns_of}
use Rattle.laws_homing.specs.clear_groups.SetUp.{IsNewIn}

-- The set-up of a homing section in two turns, of which the second one is 250 turns before its start: the
-- section was known before them, and its group was new as they began; the section's clock lines follow its
-- boards until a turn, or until its end.
pub record IsSetUp (m : Machine) (switches : List Switch) (pins : ℕ → List (List Level)) (entries : List Entry)
    (lines : ℕ → Clocks) (ready until start : ℕ) (c d e : Came) (past : List Came) (i j : ℕ → BoardTurn)
    (js : List (ℕ → BoardTurn)) : Type 0 where
  pub from : ℕ
  pub last : ℕ
  pub members : List Member
  pub section : IsClearSection m switches pins entries lines from start members c (d ∷ e ∷ past) (i ∷ j ∷ js)
  pub followed : (b : ℕ) → IsMember b members → IsFollowed m b (lines b) ready start last until
  pub early : from ≤ length past
  pub begins : ready + 4 ≤ length past
  pub goes : start ≤ last
  pub first : AreOfTurn (length past + 1) d.states
  pub second : AreOfTurn (length past + 2) c.states
  pub new : IsNewIn m switches start last members e past

-- so is each homing section of some turns, with clock lines of its own, by its start; and none is set up in
-- the first turn
abbrev pub AreSetUp : (m : Machine) (switches : List Switch) (pins : ℕ → List (List Level)) (entries : List Entry)
    (lines : ℕ → ℕ → Clocks) (ready until : ℕ) → List Came → List (ℕ → BoardTurn) → Type 0
AreSetUp m switches pins entries lines ready until (c ∷ d ∷ e ∷ past) (i ∷ j ∷ js) =
    ((h : Homing) → (noted m d.note (known_by m switches (e ∷ past))).homing ≡ Some h →
    h.group.start ≡ length (e ∷ past) + 250 →
    IsSetUp m switches pins entries (lines h.group.start) ready until h.group.start c d e past i j js)
    × AreSetUp m switches pins entries lines ready until (d ∷ e ∷ past) (j ∷ js)
AreSetUp m switches pins entries lines ready until (c ∷ d ∷ []) all =
    (h : Homing) → (noted m d.note (known_by m switches [])).homing ≡ Some h → h.group.start ≡ 250 → ⊥
AreSetUp m switches pins entries lines ready until came all = Unit {0}

-- clock lines track a board from a turn on until another at least, or until the turn behind a section's last
-- one, where that is sooner
abbrev pub IsTracked : (m : Machine) (b : ℕ) (clocks : Clocks) (ready last until : ℕ) → Type 0
IsTracked m b clocks ready last until =
    (k : AreTracked (λ n. board_tick (clock_of (board_at m b)) n) clocks ready) × (min (last + 1) until ≤ k.until)
    × (k.until < run_turns)

-- A homing section that is begun in a turn, by what the reactor knows of it then: past connecting, where the
-- clock lines hold, 251 turns before its start or earlier, which is 255 turns behind the turn from which they
-- hold; and its own clock lines track each board until a turn, or until the one behind its last one.
pub record IsBegunWell (m : Machine) (switches : List Switch) (lines : ℕ → ℕ → Clocks) (ready until : ℕ)
    (before : List Came) (h : Homing) : Type 0 where
  pub connected : (known_by m switches before).phase ≡ Connecting → ⊥
  pub late : ready ≤ length before
  pub soon : length before + 251 ≤ h.start
  pub far : ready + 255 ≤ h.start
  pub goes : h.start ≤ h.group.last
  pub tracked : (b : ℕ) → b < length m.boards → IsTracked m b (lines h.start b) ready h.group.last until

-- Each note begins no section, or it begins one where no homing section is known, and so, where it is a homing section.
abbrev pub BeginsWell : Machine → List Switch → (lines : ℕ → ℕ → Clocks) → (ready until : ℕ) → List Came → Type 0
BeginsWell m switches lines ready until [] = Unit {0}
BeginsWell m switches lines ready until (c ∷ before) =
    (BeginsNone (news_of c.note)
    ⊎ (((known_by m switches before).homing ≡ None)
    × ((h : Homing) → (noted m c.note (known_by m switches before)).homing ≡ Some h →
    IsBegunWell m switches lines ready until before h)))
    × BeginsWell m switches lines ready until before

-- A run of all boards together up to a turn, in a scene without entries: every board goes on with the
-- reactor; where a homing section is known, turns begin by the clock lines that it knows as by the section's
-- own ones, by its start; each state comes in the turn behind its own; and homing sections are begun well.
pub record IsClearRun (m : Machine) (switches : List Switch) (pins : ℕ → List (List Level)) (entries : List Entry)
    (lines : ℕ → ℕ → Clocks) (ready until : ℕ) (c : Came) (before : List Came) (all : List (ℕ → BoardTurn))
    : Type 0 where
  pub goes_on : GoesOn m switches before
  pub long : length all ≡ length before
  pub have : HaveStates m (c ∷ before)
  pub begins : BeginsWell m switches lines ready until (c ∷ before)
  pub knows : (start : ℕ) → KnowsLines m switches start (lines start) (c ∷ before)
  pub plain : (b : ℕ) → b < length m.boards → IsPlain m switches (pins b) entries b before (turns_of b all)
  pub states : (b : ℕ) → b < length m.boards → state_at b c.states ≡ latest_state (turns_of b all)

-- no note of some turns begins a section
abbrev pub BeginNone : List Came → Type 0
BeginNone [] = Unit {0}
BeginNone (c ∷ before) = BeginsNone (news_of c.note) × BeginNone before
