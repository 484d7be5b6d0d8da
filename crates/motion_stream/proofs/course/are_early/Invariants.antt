use Rattle.std.proofs.Common.{ℕ, ◌<◌, ◌^◌}
use Rattle.plan_types.specs.Sections.{clocks_at}
use Rattle.motion_stream.proofs.course.are_early.Given as goal

abbrev pub invariant-loop-own : goal.invariant-loop-own
invariant-loop-own l = (b : ℕ) → b < l.own-index → (clocks_at l.lines b).first.clock < 2 ^ 62
