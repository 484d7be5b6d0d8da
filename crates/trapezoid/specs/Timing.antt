-- What holds of every part of a move, whatever its speeds.
use Rattle.std.specs.Prelude.{◌≡◌, ◌+◌, ◌*◌, ◌<◌, ◌≤◌, ◌^◌, ◌↔◌}
use Rattle.plan_types.specs.declared.plan.Part.{Part}

-- a part takes some time exactly where it has some distance, and no more time than its two speeds allow
pub record IsTimed (p : Part) : Type 0 where
  pub still : (p.d ≡ 0) ↔ (p.ns ≡ 0)
  pub runs : 0 < p.v0 + p.v1
  pub v0_small : p.v0 ≤ 1_000_000_000
  pub v1_small : p.v1 ≤ 1_000_000_000
  pub in_time : p.ns * (p.v0 + p.v1) ≤ 2 * p.d * 1_000_000_000
  pub ns_small : p.ns < 2 ^ 63
