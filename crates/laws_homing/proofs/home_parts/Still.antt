-- A stepper that a move does not move has no planned steps.
use Rattle.std.proofs.Common.{◌≡◌, ℕ, ◌+◌, ◌*◌, Bool, true, false, cond, ℤ, pos, ◌+ℤ◌, ◌-ℤ◌, ◌*ℤ◌, List, [], ◌∷◌, ◌++◌, map, unsigned_abs, int_lt, refl, ap, sym, ◌∙◌, subst, arith, append-nil, rules}
use Rattle.std.specs.Prelude.{◌==◌, ◌||◌}
use Rattle.std.proofs.lemmas.Int.{ints}
use Rattle.std.specs.List.{range_with_len}
use Rattle.laws_board.proofs.Names.{Machine, Line, Move, Planned, turn_ns, Clocks, stepper_at, clocks_at, stepper_plan}
use Rattle.plan_types.specs.declared.plan.Gear.{Gear}
use Rattle.plan_types.specs.declared.plan.Part.{Part}
use Rattle.plan_types.specs.declared.plan.Segment.{Segment}
use Rattle.plan_types.specs.Moves.{coordinate}
use Rattle.plan_types.specs.Parts.{parts}
use Rattle.plan_types.specs.Plan.{cancel_reach, filtered, on_board, spaced}
use Rattle.plan_types.specs.Sections.{TimedPart, base_tick, section_parts, segment_of, timed, timed_moves}
use Rattle.plan_types.specs.Speeds.{greatest_speeds}
use Rattle.plan_types.specs.Steps.{counts_passed, half_step_count, place, raw_step, raw_steps, segment_steps}
use Rattle.motion_work.specs.Homes.{one_moving}
use Rattle.std.proofs.lemmas.Bool.{or_parts}
use Rattle.gcode_program.proofs.Homing.{still as self_none}

-- numbers that are not less than one another
int_same : (a b : ℤ) → int_lt a b ≡ false → int_lt b a ≡ false → a ≡ b
int_same a b e f = grind (arith, ints, e, f)

from_bool : (b : Bool) → (◌≡◌ {A = ℕ} (cond b 1 0) 0) → b ≡ false
from_bool true e = absurd (let f : (◌≡◌ {A = ℕ} 1 0) = e in omega (arith, f))
from_bool false e = refl

pub unmoved : (corexy : Bool) (one : Move) (drive : ℕ) → one_moving corexy one drive ≡ 0 → coordinate corexy drive one.to ≡ coordinate corexy drive one.from
unmoved corexy one drive e = search (rules, or_parts, int_lt, from_bool, int_same)

-- the parts of a move are of it
abbrev AreOf : Move → List TimedPart → Type 0
AreOf one [] = Unit {0}
AreOf one (t ∷ ts) = (t.move ≡ one) × AreOf one ts

timed_of : (one : Move) (before begin : ℕ) (ps : List Part) → AreOf one (timed one before begin ps)
timed_of one before begin [] = tt
timed_of one before begin (p ∷ ps) = by (p.d == 0) (timed_of one (before + p.d) (begin + p.ns) ps)
  where
    by : (b : Bool) → AreOf one (timed one (before + p.d) (begin + p.ns) ps)
        → AreOf one (cond b (timed one (before + p.d) (begin + p.ns) ps) (record { move = one; part = p; before = before; begin = begin } ∷ timed one (before + p.d) (begin + p.ns) ps))
    by true rest = rest
    by false rest = (refl, rest)

parts_of : (cruise : ℕ) (one : Move) (speeds : List ℕ) (begin : ℕ) → AreOf one (timed_moves cruise (one ∷ []) speeds begin)
parts_of cruise one [] begin = tt
parts_of cruise one (g ∷ []) begin = tt
parts_of cruise one (g ∷ h ∷ speeds) begin = subst (AreOf one) (sym (append-nil (timed one 0 begin (parts one g h cruise)))) (timed_of one 0 begin (parts one g h cruise))

place_stays : (s : Segment) (x y : ℕ) → s.dp ≡ pos 0 → place s x ≡ place s y
place_stays s x y e = search (rules, ints)

none_passed : (g : Gear) (s : Segment) (x y : ℕ) → s.dp ≡ pos 0 → counts_passed g s x y ≡ 0
none_passed g s x y e = search (rules, place_stays, unsigned_abs, self_none)

no_steps : (g : Gear) (f : ℕ) (s : Segment) → s.dp ≡ pos 0 → segment_steps g f s ≡ []
no_steps g f s e = ap (λ n. map (raw_step g f s) (range_with_len 1 n)) (none_passed g s s.before (s.before + s.d) e)

sub_self : (a b : ℤ) → a ≡ b → a -ℤ b ≡ pos 0
sub_self a b e = grind (arith, ints, e)

none_raw : (g : Gear) (f : ℕ) (corexy : Bool) (drive : ℕ) (line : Line) (one : Move) (ts : List TimedPart) → coordinate corexy drive one.to ≡ coordinate corexy drive one.from → AreOf one ts → raw_steps g f (map (segment_of corexy drive line) ts) ≡ []
none_raw g f corexy drive line one [] e a = refl
none_raw g f corexy drive line one (t ∷ ts) e a =
    let s = segment_of corexy drive line t in
    let at : coordinate corexy drive t.move.to ≡ coordinate corexy drive t.move.from = ap (λ (x : Move). coordinate corexy drive x.to) a.0 ∙ e ∙ sym (ap (λ (x : Move). coordinate corexy drive x.from) a.0) in
    let still : s.dp ≡ pos 0 = sub_self (coordinate corexy drive t.move.to) (coordinate corexy drive t.move.from) at in
    ap (λ (xs : List Planned). xs ++ raw_steps g f (map (segment_of corexy drive line) ts)) (no_steps g f s still) ∙ none_raw g f corexy drive line one ts e a.1

pub no_plan : (m : Machine) (clocks : List Clocks) (one : Move) (turn s : ℕ) → one_moving m.corexy one (stepper_at m s).drive ≡ 0 → stepper_plan m clocks (one ∷ []) turn s ≡ []
no_plan m clocks one turn s e = search (rules, stepper_at, clocks_at, none_raw, unmoved, parts_of, turn_ns)
