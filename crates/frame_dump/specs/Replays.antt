-- What a board makes of a trace.
use Rattle.std.specs.Prelude.{◌≡◌, ℕ, ◌+◌, Bool, true, false, List, [], ◌∷◌, ◌++◌}
use Rattle.block_frame.specs.declared.Found.{Found}
use Rattle.block_frame.specs.declared.Found.TheVariants.{Block, Skip, NeedMore, Bad}
use Rattle.plan_types.specs.Clock.{board_tick, clock_of}
use Rattle.plan_types.specs.declared.machine.BoardDef.{BoardDef}
use Rattle.plan_types.specs.declared.plan.BoardState.{BoardState}
use Rattle.plan_types.specs.declared.plan.Pulse.{Pulse}
use Rattle.msg_dict.specs.Dictionary.{Named}
use Rattle.msg_dict.specs.Own.{own_formats}
use Rattle.msg_code.specs.declared.cmd.Cmd.{Cmd}
use Rattle.board_sim.specs.Rig.{Rig, new_rig, passes, takes_all}
use Rattle.board_sim.specs.Turn.{Holds}
use Rattle.frame_dump.specs.declared.trace.TraceTurn.{TraceTurn}
use Rattle.frame_dump.specs.Things.{Thing, AreIn, all_taken, is_taken, taken_behind}

-- the commands of a content, where it is taken: up to where none can be read
abbrev pub GivesContent : List Named → Bool → List ℕ → List Cmd → Type 0
GivesContent es true content cs = Holds es content cs
GivesContent es false content cs = cs ≡ []

-- the commands of a thing, behind so many taken blocks: those of a block that is taken
abbrev pub Gives : List Named → ℕ → Found → List Cmd → Type 0
Gives es taken (Block number content) cs = GivesContent es (is_taken taken number) content.items cs
Gives es taken Skip cs = cs ≡ []
Gives es taken NeedMore cs = cs ≡ []
Gives es taken Bad cs = cs ≡ []

-- the commands of several things, in order
abbrev pub GiveAll : List Named → ℕ → List Thing → List Cmd → Type 0
GiveAll es taken [] cs = cs ≡ []
GiveAll es taken (t ∷ ts) cs =
    (first rest : List Cmd) × (cs ≡ first ++ rest) × Gives es taken t.found first
    × GiveAll es (taken_behind taken t.found) ts rest

-- a turn, and the commands of the blocks that are taken in it
pub record Given : Type 0 where
  pub turn : ℕ
  pub commands : List Cmd

-- the commands that turns give, one turn behind the other, where some bytes wait already and so many blocks were taken
abbrev pub AreGiven : List Named → ℕ → Bool → List ℕ → List TraceTurn → List Given → Type 0
AreGiven es taken dropping waiting [] gs = gs ≡ []
AreGiven es taken dropping waiting (t ∷ turns) [] = ⊥
AreGiven es taken dropping waiting (t ∷ turns) (g ∷ gs) =
    (things : List Thing) × (left : List ℕ) × (drops : Bool) × (g.turn ≡ t.turn)
    × AreIn t.turn dropping (waiting ++ t.bytes) things left drops × GiveAll es taken things g.commands
    × AreGiven es (all_taken taken things) drops left turns gs

-- a board after a time, and the pulses that it made in it
pub record Played : Type 0 where
  pub rig : Rig
  pub pulses : List Pulse

-- time passes on a board up to its own tick of a turn
abbrev pub plays_to : BoardDef → ℕ → Rig → Played
plays_to b turn r =
    let done = passes r (board_tick (clock_of b) turn) in record { rig = done.rig; pulses = done.pulses }

-- what a board did, with pulses that it made before
abbrev pub with_pulses : List Pulse → Played → Played
with_pulses before p = record { rig = p.rig; pulses = before ++ p.pulses }

-- A board whose last turn is this one takes the commands of each further turn at its own tick of that turn,
-- and runs for 1,001 turns behind the last one.
abbrev pub plays : BoardDef → ℕ → Rig → List Given → Played
plays b last r [] = plays_to b (last + 1_001) r
plays b last r (g ∷ gs) =
    let before = plays_to b g.turn r in
    with_pulses before.pulses (plays b g.turn (takes_all before.rig g.commands).rig gs)

-- the replay of a trace on a new board all of whose pins are low: its pulses and its state in the end
pub record IsReplay (b : BoardDef) (turns : List TraceTurn) (pulses : List Pulse) (state : BoardState) : Type 0 where
  pub given : List Given
  pub are : AreGiven own_formats 0 false [] turns given
  pub pulses_are : pulses ≡ (plays b 0 (new_rig b []) given).pulses
  pub state_is : state ≡ (plays b 0 (new_rig b []) given).rig.controller.state
