-- The planner, a link and the reactor as machines of a run.
use Rattle.std.specs.Prelude.{◌≡◌, length}
use Rattle.host_reactor.specs.Reactor.{Run}
use Rattle.link_work.specs.Stands.{SeenLink}
use Rattle.motion_stream.specs.Motions as motion
use Rattle.session_work.specs.declared.machines.LinkMachine.{Ghosts as Link}
use Rattle.session_work.specs.declared.machines.MotionMachine.{Ghosts as Motion}
use Rattle.session_work.specs.declared.machines.ReactorMachine.{Ghosts as Reactor}
use Rattle.session_run.specs.declared.motion.Planning.{Planning}
use Rattle.session_run.specs.Links as links
use Rattle.session_run.specs.Reactors as reactors

-- the planner, as a machine
abbrev pub planner : Motion Planning
planner = record {
  boards = λ p. length p.motion.machine.boards;
  wants = λ p k. motion.wants p.motion k;
  hungry = λ p k. motion.hungry p.motion k;
  can = λ p k. motion.CanTurnPlanner p.motion k;
  hears = λ p w q. motion.Hears p.motion w q.motion;
  reads = λ p piece q. motion.TakesText p.motion piece.bytes piece.end q.motion;
  turns = λ p k batches note q. motion.CanTurnPlanner p.motion k × motion.Makes p.motion k batches note q.motion;
}

-- a link, as a machine
abbrev pub link : Link SeenLink
link = record { can = links.CanTurnLink; turns = links.TurnsLink }

-- the reactor, as a machine
abbrev pub reactor : Reactor Run
reactor = record {
  boards = λ h. length h.machine.boards;
  can = reactors.CanTurnReactor;
  turns = reactors.TurnsReactor;
  stops = reactors.Stops;
  free = reactors.IsFree;
}
