-- Units can be paced, whatever was released before them.
use Rattle.std.proofs.Common.{◌≡◌, ℕ, zero, suc, ◌+◌, ◌-◌, ◌≤◌, Bool, true, false, cond, max, eqb, Option, Some, None, List, [], ◌∷◌, ◌++◌, All, arith, refl, ap, subst, inl, inr}
use Rattle.std.specs.Prelude.{nat_le, nat_lt, ◌&&◌, ◌%◌, ◌^◌, slice_index_or}
use Rattle.std.specs.Int.{cast_unsigned, w32}
use Rattle.std.proofs.lemmas.Bool.{cases_Bool, le-leb, leb-true, le-ltb, lt-ltb, ltb-true, ne_eqb, and_from}
use Rattle.std.proofs.lemmas.List.Elements.{All-cons, All-head, All-nil}
use Rattle.plan_types.specs.Lines.{Clocks}
use Rattle.plan_types.specs.Numbers.{first_from}
use Rattle.clock_line.proofs.Firsts.{first_from-below, first_from-passes, first_from-step}
use Rattle.step_feed.specs.Fed.{IsNoSooner, releases_behind, last_release}
use Rattle.step_feed.specs.Pacing.{ArePaced, HasRoom, IsReleased, Release, bytes_in, lead, one_pending, over_turn, pending, turn_bytes, units_of}
use Rattle.step_feed.specs.Units.{StepUnit, dir_bytes, queue_bytes, reset_bytes, unit_bytes}
use Rattle.step_feed.proofs.Counts.{count_bounds}
use Rattle.plan_types.proofs.Facts.{first_of_both, second_of_both}

pub dir-small : (stepper : ℕ) (up : Option Bool) → dir_bytes stepper up ≤ 7
dir-small stepper None = omega arith
dir-small stepper (Some up) = let b = count_bounds stepper in omega arith

pub reset-small : (stepper : ℕ) (reset : Option ℕ) → reset_bytes stepper reset ≤ 11
reset-small stepper None = omega arith
reset-small stepper (Some clock) = let b = count_bounds stepper in let c = count_bounds (clock % 2 ^ 32) in omega arith

unit-small : (u : StepUnit) → unit_bytes u ≤ turn_bytes
unfolding unit_bytes queue_bytes
unit-small u =
    let a = count_bounds u.stepper in
    let b = count_bounds u.triple.interval in
    let c = count_bounds u.triple.count in
    let d = count_bounds (cast_unsigned w32 u.triple.add) in
    let e = dir-small u.stepper u.up in
    let f = reset-small u.stepper u.reset in
    omega arith

-- whether there is room in a turn
abbrev room-test : Clocks → ℕ → List Release → StepUnit → ℕ → Bool
room-test clocks slots before u k = nat_le u.due (k + lead) && (nat_le (bytes_in k before + unit_bytes u) turn_bytes && nat_lt (pending clocks u.stepper k before) slots)

test-room : (clocks : Clocks) (slots : ℕ) (before : List Release) (u : StepUnit) (k : ℕ) → room-test clocks slots before u k ≡ true → HasRoom clocks slots before u k
test-room clocks slots before u k h =
    let one = nat_le u.due (k + lead) in
    let two = nat_le (bytes_in k before + unit_bytes u) turn_bytes in
    let three = nat_lt (pending clocks u.stepper k before) slots in
    let rest = second_of_both one (two && three) h in
    record {
      due = leb-true u.due (k + lead) (first_of_both one (two && three) h);
      bytes = leb-true (bytes_in k before + unit_bytes u) turn_bytes (first_of_both two three rest);
      steps = ltb-true (pending clocks u.stepper k before) slots (second_of_both two three rest);
    }

room-tested : (clocks : Clocks) (slots : ℕ) (before : List Release) (u : StepUnit) (k : ℕ) → HasRoom clocks slots before u k → room-test clocks slots before u k ≡ true
room-tested clocks slots before u k h =
    let one = nat_le u.due (k + lead) in
    let two = nat_le (bytes_in k before + unit_bytes u) turn_bytes in
    let three = nat_lt (pending clocks u.stepper k before) slots in
    and_from one (two && three) (le-leb u.due (k + lead) h.due) (and_from two three (le-leb (bytes_in k before + unit_bytes u) turn_bytes h.bytes) (lt-ltb (pending clocks u.stepper k before) slots h.steps))

-- a turn from which on nothing of some releases counts
far : Clocks → List Release → ℕ
far clocks [] = 0
far clocks (r ∷ rs) = max (max (r.turn + 1) (over_turn clocks r.unit.last)) (far clocks rs)

no-bytes : (clocks : Clocks) (k : ℕ) (rs : List Release) → far clocks rs ≤ k → bytes_in k rs ≡ 0
unfolding far
no-bytes clocks k [] h = refl
no-bytes clocks k (r ∷ rs) h =
    let e = ne_eqb r.turn k (λ same. absurd (omega arith)) in
    let i = no-bytes clocks k rs (omega arith) in
    rw e (omega arith)

same-both : (b : Bool) (x y : ℕ) → x ≡ 0 → y ≡ 0 → cond b x 0 + y ≡ 0
same-both true x y e f = omega arith
same-both false x y e f = omega arith

no-pending : (clocks : Clocks) (s k : ℕ) (rs : List Release) → far clocks rs ≤ k → pending clocks s k rs ≡ 0
unfolding far
no-pending clocks s k [] h = refl
no-pending clocks s k (r ∷ rs) h =
    let e : nat_lt k (over_turn clocks r.unit.last) ≡ false = le-ltb k (over_turn clocks r.unit.last) (omega arith) in
    let one : one_pending clocks k r.unit.last ≡ 0 = rw e refl in
    same-both (eqb r.unit.stepper s) (one_pending clocks k r.unit.last) (pending clocks s k rs) one (no-pending clocks s k rs (omega arith))

from-low : (p : ℕ → Bool) (n count : ℕ) → n ≤ first_from p n count
unfolding first_from
from-low p n zero = omega arith
from-low p n (suc count) = elim (cases_Bool (p n)) [
  | inl here ↦ (let e = first_from-step p n count true here in omega arith)
  | inr not_here ↦ (let e = first_from-step p n count false not_here in let w = from-low p (n + 1) count in omega arith)
]

-- the turn of a unit behind others
pub record HasTurn (clocks : Clocks) (slots from : ℕ) (before : List Release) (u : StepUnit) : Type 0 where
  pub turn : ℕ
  pub released : IsReleased clocks slots from before (record { unit = u; turn = turn })

has-turn : (clocks : Clocks) (slots from : ℕ) (before : List Release) (u : StepUnit) → 1 ≤ slots → HasTurn clocks slots from before u
has-turn clocks slots from before u some =
    let p = room-test clocks slots before u in
    let last = max from (max u.due (far clocks before)) in
    let count = suc (last - from) in
    let bytes = no-bytes clocks last before (omega arith) in
    let steps = no-pending clocks u.stepper last before (omega arith) in
    let small = unit-small u in
    let room : HasRoom clocks slots before u last = record { due = omega arith; bytes = omega arith; steps = omega arith } in
    let passes = first_from-passes p count from last (omega arith) (omega arith) (room-tested clocks slots before u last room) in
    record {
      turn = first_from p from count;
      released = record {
        after = from-low p from count;
        room = test-room clocks slots before u (first_from p from count) passes;
        first = λ k low h. first_from-below p count from k low (room-tested clocks slots before u k h);
      };
    }

-- the releases of units from a turn on, behind others
pub record AreReleasedFrom (clocks : Clocks) (slots from : ℕ) (before : List Release) (us : List StepUnit) : Type 0 where
  pub releases : List Release
  pub units : units_of releases ≡ us
  pub paced : ArePaced clocks slots from before releases

pub can-pace : (clocks : Clocks) (slots from : ℕ) (before : List Release) (us : List StepUnit) → 1 ≤ slots → AreReleasedFrom clocks slots from before us
can-pace clocks slots from before [] some = record { releases = []; units = refl; paced = tt }
can-pace clocks slots from before (u ∷ us) some =
    let here = has-turn clocks slots from before u some in
    let r : Release = record { unit = u; turn = here.turn } in
    let rest = can-pace clocks slots here.turn (r ∷ before) us some in
    record { releases = r ∷ rest.releases; units = ap (λ vs. u ∷ vs) rest.units; paced = (here.released, rest.paced) }

pub paced-join : (clocks : Clocks) (slots from : ℕ) (before rs qs : List Release) → ArePaced clocks slots from before rs → ArePaced clocks slots (last_release from rs) (releases_behind before rs) qs → ArePaced clocks slots from before (rs ++ qs)
paced-join clocks slots from before [] qs a b = b
paced-join clocks slots from before (r ∷ rs) qs a b = (a.0, paced-join clocks slots r.turn (r ∷ before) rs qs a.1 b)

-- releases from a turn on are not before it
paced-from : (clocks : Clocks) (slots from next : ℕ) (before rs : List Release) → ArePaced clocks slots from before rs → next ≤ from → All (λ r. next ≤ r.turn) rs
paced-from clocks slots from next before [] paced low = All-nil (λ (r : Release). next ≤ r.turn)
paced-from clocks slots from next before (r ∷ rs) paced low =
    let a = paced.0.after in
    All-cons (λ (r : Release). next ≤ r.turn) r rs (omega arith) (paced-from clocks slots r.turn next (r ∷ before) rs paced.1 (omega arith))

first-from : (clocks : Clocks) (slots from next : ℕ) (before : List Release) (r : Release) (rs : List Release) → ArePaced clocks slots from before (r ∷ rs) → next ≤ r.turn → All (λ r. next ≤ r.turn) (r ∷ rs)
first-from clocks slots from next before r rs paced low = All-cons (λ (r : Release). next ≤ r.turn) r rs low (paced-from clocks slots r.turn next (r ∷ before) rs paced.1 low)

-- where there was no room for the first before a turn, or it is due 250 turns behind it, none is released before that turn
pub none-sooner : (clocks : Clocks) (slots from next : ℕ) (before rs : List Release) (waiting more : List StepUnit) → ArePaced clocks slots from before rs → units_of rs ≡ waiting ++ more → IsNoSooner clocks slots next from before waiting → All (λ u. next + lead ≤ u.due) more → All (λ r. next ≤ r.turn) rs
none-sooner clocks slots from next before [] waiting more paced e sooner later = All-nil (λ (r : Release). next ≤ r.turn)
none-sooner clocks slots from next before (r ∷ rs) (w ∷ waiting) more paced e sooner later =
    let head : r.unit ≡ w = ap (λ vs. slice_index_or vs 0 r.unit) e in
    first-from clocks slots from next before r rs paced (sooner r.turn paced.0.after (subst (λ u. HasRoom clocks slots before u r.turn) head paced.0.room))
none-sooner clocks slots from next before (r ∷ rs) [] [] paced e sooner later = absurd (clash e)
  where
    clash : r.unit ∷ units_of rs ≡ [] → ⊥
    clash x = cc
none-sooner clocks slots from next before (r ∷ rs) [] (m ∷ more) paced e sooner later =
    let head : r.unit.due ≡ m.due = ap (λ vs. (slice_index_or vs 0 r.unit).due) e in
    let due = paced.0.room.due in
    let late : next + lead ≤ m.due = All-head (λ (u : StepUnit). next + lead ≤ u.due) m more later in
    first-from clocks slots from next before r rs paced (omega arith)
