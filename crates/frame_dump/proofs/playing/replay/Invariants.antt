use Rattle.std.proofs.Common.{◌≡◌, ℕ, length}
use Rattle.frame_dump.specs.Played.{PlayedSofar, StandsAt}
use Rattle.frame_dump.specs.Traces.{AreTurns}
use Rattle.frame_dump.proofs.playing.replay.Given as goal

abbrev pub invariant-loop-rest : goal.invariant-loop-rest
invariant-loop-rest l = record {
  sofar : PlayedSofar l.board l.fn.trace l.rest l.simulated l.pulses.items;
  stands : StandsAt l.board l.simulated.station.rig.controller.tick l.rest;
  rise : (low : ℕ) × AreTurns low l.rest;
  state : l.state ≡ l.simulated.station.rig.controller.state;
}

abbrev pub decreases-loop-rest : goal.decreases-loop-rest
decreases-loop-rest l = length l.rest
