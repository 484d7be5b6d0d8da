-- The item of a board among those of all boards.
use Rattle.std.proofs.Common.{◌≡◌, ℕ, zero, suc, ◌<◌, Bool, true, false, cond, List, [], ◌∷◌, length, Option, Some, None, refl, ap, sym, ◌∙◌, arith}
use Rattle.std.specs.Prelude.{◌||◌}
use Rattle.laws_board.proofs.Names.{Cause, Machine, Note, State, Control, ReportLine, Switch, Known, noted, news_of, is_out, first_lines, first_cause, reacts, unless_ended, state_at, item}
use Rattle.plan_types.specs.declared.cause.Cause.TheVariants as cause
use Rattle.host_reactor.specs.Running.{any_out, late, or_cause}
use Rattle.laws_board.specs.turns.Turns.{control_at}
use Rattle.plan_types.proofs.Facts.{second_of_neither}
use Rattle.laws_homing.proofs.missed_groups.Told.{same_state}
use Rattle.host_reactor.proofs.Freed.{first-false}

pub item_some : {A : Type 0} → (b : ℕ) (xs : List A) → b < length xs → (x : A) × (item b xs ≡ x ∷ [])
item_some b [] l = absurd (omega arith)
item_some zero (x ∷ xs) l = (x, refl)
item_some (suc b) (x ∷ xs) l = item_some b xs (omega arith)

pub item_control : (b : ℕ) (xs : List Control) → control_at b xs ≡ item b xs
item_control b [] = refl
item_control zero (x ∷ xs) = refl
item_control (suc b) (x ∷ xs) = item_control b xs

-- no state of a turn that goes on wants memory
either_none : (b : Bool) (o : Option Cause) → cond b (Some cause.Memory) o ≡ None → b ≡ false
either_none true o e = cc
either_none false o e = refl

ended_none : (o : Option Cause) (m : Machine) (switches : List Switch) (r : Known) (k : ℕ) (states : List State) (lines : List ReportLine) → (unless_ended o m switches r k states lines).ordered.end ≡ None → o ≡ None
ended_none (Some c) m switches r k states lines e = cc
ended_none None m switches r k states lines e = refl

pub none_out : (m : Machine) (switches : List Switch) (r : Known) (k : ℕ) (states : List State) (note : Option Note) → (reacts m switches r k states note).ordered.end ≡ None → any_out states ≡ false
none_out m switches r k states note e =
    let s = noted m note r in
    let cause = ended_none (first_cause (is_out note) s.stopped states) m switches s k states (first_lines m s k (news_of note) states) e in
    second_of_neither (is_out note) (any_out states) (either_none (is_out note || any_out states) _ cause)

pub one_out : (b : ℕ) (states : List State) (s : State) → any_out states ≡ false → item b states ≡ s ∷ [] → s.out ≡ false
one_out b [] s e f = cc
one_out zero (x ∷ states) s e f = let same : x ≡ s = cc in ap (λ (y : State). y.out) (sym same) ∙ first-false x.out (any_out states) e
one_out (suc b) (x ∷ states) s e f = one_out b states s (second_of_neither x.out (any_out states) e) f

-- a turn that ends no run for want of memory: neither the planner nor a link wanted any
first_clear : (b : Bool) (o : Option Cause) (m : Machine) (switches : List Switch) (r : Known) (k : ℕ) (states : List State) (lines : List ReportLine)
    → ((unless_ended (cond b (Some cause.Memory) o) m switches r k states lines).ordered.end ≡ Some cause.Memory → ⊥) → b ≡ false
first_clear true o m switches r k states lines h = absurd (h refl)
first_clear false o m switches r k states lines h = refl

pub in_memory : (m : Machine) (switches : List Switch) (r : Known) (k : ℕ) (states : List State) (note : Option Note) → ((reacts m switches r k states note).ordered.end ≡ Some cause.Memory → ⊥) → (is_out note ≡ false) × (any_out states ≡ false)
in_memory m switches r k states note h =
    let s = noted m note r in
    let clear = first_clear (is_out note || any_out states) (or_cause s.stopped (late 0 states)) m switches s k states (first_lines m s k (news_of note) states) h in
    (first-false (is_out note) (any_out states) clear, second_of_neither (is_out note) (any_out states) clear)
