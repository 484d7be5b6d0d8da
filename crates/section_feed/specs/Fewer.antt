-- Clock lines of a board of which the first ones are known, and plans by them.
use Rattle.std.specs.Prelude.{◌≡◌, ◌⊎◌, ℕ, ◌*◌, ◌<◌, ◌≤◌, List, [], ◌∷◌, ◌++◌, length}
use Rattle.plan_types.specs.declared.machine.Machine.{Machine}
use Rattle.plan_types.specs.declared.plan.Held.{Held}
use Rattle.plan_types.specs.declared.plan.Move.{Move}
use Rattle.plan_types.specs.declared.plan.Planned.{Planned}
use Rattle.plan_types.specs.Clock.{turn_ns}
use Rattle.plan_types.specs.Lines.{Clocks}
use Rattle.plan_types.specs.Machines.{stepper_at}
use Rattle.plan_types.specs.Sections.{base_tick, clocks_at, stepper_plan}

-- further lines hold from behind the beginning of a turn on
abbrev pub HoldBehind : ℕ → List Held → Type 0
HoldBehind turn [] = Unit {0}
HoldBehind turn (h ∷ held) = (turn * turn_ns < h.from) × HoldBehind turn held

-- the lines of a board are the first ones of others, which hold from behind the beginning of a turn on
pub record AreFirstLines (short long : Clocks) (turn : ℕ) : Type 0 where
  pub first : short.first ≡ long.first
  pub rest : List Held
  pub are : long.held ≡ short.held ++ rest
  pub behind : HoldBehind turn rest

-- two plans of a stepper that are the same up to a tick: step by step, or from a step on at that tick or later
abbrev pub AreSameTo : ℕ → List Planned → List Planned → Type 0
AreSameTo bound [] [] = Unit {0}
AreSameTo bound [] (q ∷ qs) = ⊥
AreSameTo bound (p ∷ ps) [] = ⊥
AreSameTo bound (p ∷ ps) (q ∷ qs) = ((p ≡ q) ⊎ ((bound ≤ p.tick) × (bound ≤ q.tick))) × AreSameTo bound ps qs

-- The plans of a stepper in a section by two boards' clock lines have the same start, are the same up to a
-- tick, and have as many steps.
pub record PlansAgree (m : Machine) (short long : List Clocks) (moves : List Move) (start s bound : ℕ) : Type 0 where
  pub freq : (clocks_at short (stepper_at m s).board).first.freq ≡ (clocks_at long (stepper_at m s).board).first.freq
  pub base : base_tick m short start s ≡ base_tick m long start s
  pub same : AreSameTo bound (stepper_plan m short moves start s) (stepper_plan m long moves start s)
  pub count : length (stepper_plan m short moves start s) ≡ length (stepper_plan m long moves start s)
