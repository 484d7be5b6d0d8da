-- The ticks that a unit's commands mean are those that it stands for.
use Rattle.std.proofs.Common.{◌≡◌, ℕ, zero, suc, ℤ, pos, negsuc, ◌+◌, List, [], ◌∷◌, ◌++◌, map, refl, ap, ◌∙◌}
use Rattle.std.specs.List.{range_with_len}
use Rattle.plan_types.specs.declared.plan.Triple.{Triple}
use Rattle.plan_types.specs.Packing.{tick_at}
use Rattle.laws_board.proofs.Names.{Meant, plain, unit_orders, reset_commands, dir_commands, step_command, StepUnit}
use Rattle.board_world.specs.Orders.{tick_of, ticks_on, unit_ticks}
use Rattle.section_units.specs.Sections.{ticks_meant}

same_tick : (first : ℕ) (t : Triple) (i : ℕ) → tick_of first t i ≡ tick_at first t.interval t.add i
same_tick first t i = by_add t.add where
  by_add : (a : ℤ) → tick_of first (record t { add = a }) i ≡ tick_at first t.interval a i
  by_add (pos a) = refl
  by_add (negsuc a) = refl

same_ticks : (first : ℕ) (t : Triple) (i n : ℕ) → ticks_on first t i n ≡ map (tick_at first t.interval t.add) (range_with_len i n)
same_ticks first t i zero = refl
same_ticks first t i (suc n) = ap (λ x. x ∷ ticks_on first t (i + 1) n) (same_tick first t i) ∙ ap (λ x. tick_at first t.interval t.add i ∷ x) (same_ticks first t (i + 1) n)

pub ticks_are : (u : StepUnit) → unit_ticks u ≡ ticks_meant u
unfolding unit_ticks
ticks_are u = same_ticks u.first u.triple 0 u.triple.count

-- the last command of a unit, and all of them
abbrev pub step_meant : StepUnit → Meant
step_meant u = record { command = step_command u; ticks = ticks_meant u }

pub orders_are : (u : StepUnit) → unit_orders u ≡ map plain (reset_commands u.stepper u.reset) ++ (map plain (dir_commands u.stepper u.up) ++ step_meant u ∷ [])
orders_are u =
    let Of : List ℕ → List Meant = λ ts. map plain (reset_commands u.stepper u.reset) ++ (map plain (dir_commands u.stepper u.up) ++ record { command = step_command u; ticks = ts } ∷ []) in
    ap Of (ticks_are u)
