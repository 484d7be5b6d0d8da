-- A run of the planner, the links of all boards and the reactor.
use Rattle.std.specs.Prelude.{◌≡◌, ℕ, ◌+◌, List, [], ◌∷◌}
use Rattle.io_core.specs.declared.traits.Files.{Ghosts as Files}
use Rattle.io_core.specs.declared.traits.Sink.{Ghosts as Sink}
use Rattle.plan_types.specs.declared.machine.Machine.{Machine}
use Rattle.plan_types.specs.declared.machine.BoardDef.{BoardDef}
use Rattle.plan_types.specs.Clock.{clock_of}
use Rattle.wire_scene.specs.declared.scene.Scene.{Scene}
use Rattle.link_work.specs.Ends.{spoiled_turns}
use Rattle.link_work.specs.Stands.{SeenLink, StandsFor, first_state}
use Rattle.link_work.specs.Switches.{pins_of}
use Rattle.host_reactor.specs.Reactor.{Run, first_run}
use Rattle.motion_stream.specs.Motions.{IsPlannerOf}
use Rattle.motion_stream.specs.Seen.{nothing_seen}
use Rattle.session_lanes.specs.declared.near.Told.{Told}
use Rattle.session_run.specs.declared.tell.Kept.{Kept}
use Rattle.session_run.specs.Desks.{IsToldRun}
use Rattle.session_run.specs.declared.motion.Planning.{Planning}
use Rattle.session_run.specs.Machines.{planner, link, reactor}

-- a link on which nothing has happened, of the board with this number
pub record IsFirstLink (s : Scene) (i : ℕ) (b : BoardDef) (l : SeenLink) : Type 0 where
  pub stands : StandsFor l (first_state b (pins_of b i s.switches) i s.entries)
  pub clock : l.clock ≡ clock_of b
  pub turn : l.turn ≡ 0
  pub spoiled : l.spoiled ≡ spoiled_turns []
  pub held : l.held ≡ []

-- one for each of these boards, of which the first has a number
abbrev pub AreFirstLinks : Scene → ℕ → List BoardDef → List SeenLink → Type 0
AreFirstLinks s i [] [] = Unit {0}
AreFirstLinks s i [] (l ∷ links) = ⊥
AreFirstLinks s i (b ∷ boards) [] = ⊥
AreFirstLinks s i (b ∷ boards) (l ∷ links) = IsFirstLink s i b l × AreFirstLinks s (i + 1) boards links

-- The planner, the links and the reactor of this machine in this scene made a run, over the file of a name
-- and an output: what there was of these and of what is kept before it, and behind it.
pub record RunsOver {F S : Type 0} (f : Files F) (o : Sink S) (m : Machine) (s : Scene) (name : List ℕ) (files : F)
    (out : S) (kept : Kept) (t : Told Run) (files' : F) (out' : S) (kept' : Kept) : Type 0 where
  pub planning : Planning
  pub fresh : IsPlannerOf planning.motion nothing_seen
  pub printer : planning.motion.machine ≡ m
  pub links : List SeenLink
  pub first : AreFirstLinks s 0 m.boards links
  pub runs : IsToldRun planner link reactor f o m name planning links (first_run m s.switches) files out kept t files'
      out' kept'
