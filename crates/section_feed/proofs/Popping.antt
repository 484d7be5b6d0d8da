-- One stepper gives a unit, and the others stay.
use Rattle.std.proofs.Common.{◌≡◌, ℕ, ◌<◌, List, [], ◌∷◌, ◌++◌, length, get_or, set, arith, sym, ◌∙◌, subst, Bool, Option, Some, None, IfSome, IfNone, inl, inr}
use Rattle.std.proofs.Math.Logic.{∥∥₁_map, ∥∥₁_elim, ∥∥₁_prop}
use Rattle.std.proofs.Props.{props}
use Rattle.std.proofs.lemmas.Bool.{cases_eq}
use Rattle.std.proofs.lemmas.List.{append-nil, length-set, get_or-set_same, get_or-set_other}
use Rattle.plan_types.specs.declared.plan.Planned.{Planned}
use Rattle.plan_types.specs.Lines.{Clocks}
use Rattle.clock_line.specs.Kept.{AreKept}
use Rattle.plan_types.specs.Sections.{TimedPart}
use Rattle.step_feed.specs.Units.{StepUnit}
use Rattle.section_stream.specs.declared.stepper.StepperStream.{StepperStream}
use Rattle.section_stream.specs.Pieces.{Piece}
use Rattle.section_stream.specs.Steppers.{IsCaughtUp, IsDueFrom, IsStepperOf, stepper_clocks, kind_of, known_of, planned_turn}
use Rattle.section_feed.specs.Boards.{AreUpTo, IsLasting, IsUpTo}
use Rattle.section_feed.specs.Changes.{GoOn, StepperGoesOn}
use Rattle.section_feed.proofs.Boarding.{gave-on, kept-on, still-on, go-on-none, go-on-twice}
use Rattle.section_feed.proofs.Lasts.{kept-lasting}
use Rattle.section_feed.proofs.Changing.{any-default}

-- what stays of a stepper that may give a unit
pub record IsSame (old new : StepperStream) : Type 0 where
  pub known : known_of new ≡ known_of old
  pub lines : stepper_clocks new ≡ stepper_clocks old
  pub turn : planned_turn new ≡ planned_turn old
  pub kind : kind_of new ≡ kind_of old
  pub caught : (t : ℕ) → IsCaughtUp t old → IsCaughtUp t new
  pub due : (low : ℕ) → AreKept (stepper_clocks old) → IsDueFrom low old → IsDueFrom low new

-- on a board of one line its units are due as before
due-on : (clocks : Clocks) (goes : Bool) (time turn place : ℕ) (old new : StepperStream) → IsLasting clocks → IsUpTo clocks goes time turn place old → IsSame old new → (low : ℕ) → IsDueFrom low old → IsDueFrom low new
due-on clocks goes time turn place old new lasting up same low = same.due low (subst AreKept (sym up.clocks_are) (kept-lasting clocks lasting))

-- one stepper goes on as it may, and the others too
pub goes-at : (R : ℕ → StepperStream → StepperStream → Type 0) (steppers : List StepperStream) (place : ℕ) (old new : StepperStream) → place < length steppers → old ≡ get_or steppers place old → R place old new → ((k : ℕ) (d : StepperStream) → k < length steppers → (k ≡ place → ⊥) → R k (get_or steppers k d) (get_or steppers k d))
    → (k : ℕ) (d : StepperStream) → k < length steppers → R k (get_or steppers k d) (get_or (set steppers place new) k d)
goes-at R steppers place old new inside is here others k d l =
    elim (cases_eq k place) as (λ _. R k (get_or steppers k d) (get_or (set steppers place new) k d)) [
      | inl same ↦ rw same (
          let e = get_or-set_same steppers place new d inside in
          let o : old ≡ get_or steppers place d = is ∙ any-default {A = StepperStream} (λ n x y. Unit {0}) steppers place old d inside in
          rw e (subst (λ (z : StepperStream). R place z new) o here))
      | inr other ↦ (let e = get_or-set_other steppers place k new d other in rw e (others k d l other))
    ]

popped-on : (clocks : Clocks) (goes : Bool) (time turn place : ℕ) (u : StepUnit) (steppers : List StepperStream) (old new : StepperStream) → IsLasting clocks → AreUpTo clocks goes time turn steppers → place < length steppers → old ≡ get_or steppers place old → IsSame old new → u.stepper ≡ (kind_of old).oid
    → ((base : ℕ) (parts : List TimedPart) (out : List Planned) (pieces : List Piece) (given : List StepUnit) → IsStepperOf old base parts out pieces given → IsStepperOf new base parts out pieces (given ++ u ∷ []))
    → GoOn clocks goes time turn [] (u ∷ []) steppers (set steppers place new)
popped-on clocks goes time turn place u steppers old new lasting all inside is same own gave =
    let up : IsUpTo clocks goes time turn place old = subst (IsUpTo clocks goes time turn place) (sym is) (all.each place old inside) in
    let number : u.stepper ≡ place = own ∙ up.number in
    record {
      same = length-set steppers place new;
      each = goes-at (StepperGoesOn clocks goes time turn [] (u ∷ [])) steppers place old new inside is (gave-on clocks goes time turn place u old new up same.known (same.caught turn) same.lines same.turn same.kind (due-on clocks goes time turn place old new lasting up same) own gave)
          (λ k d l other. still-on clocks goes time turn k u (get_or steppers k d) (all.each k d l) (λ e. other (sym e ∙ number)));
    }

pub popped-some : (clocks : Clocks) (goes : Bool) (time turn place : ℕ) (r : Option StepUnit) (steppers : List StepperStream) (old new : StepperStream) → IsLasting clocks → ∥ AreUpTo clocks goes time turn steppers ∥₁ → place < length steppers → old ≡ get_or steppers place old → IsSame old new → IfSome r (λ u. u.stepper ≡ (kind_of old).oid)
    → IfSome r (λ u. (base : ℕ) (parts : List TimedPart) (out : List Planned) (pieces : List Piece) (given : List StepUnit) → IsStepperOf old base parts out pieces given → IsStepperOf new base parts out pieces (given ++ u ∷ []))
    → IfSome r (λ u. ∥ GoOn clocks goes time turn [] (u ∷ []) steppers (set steppers place new) ∥₁)
popped-some clocks goes time turn place None steppers old new lasting all inside is same own gave = tt
popped-some clocks goes time turn place (Some u) steppers old new lasting all inside is same own gave = ∥∥₁_map all (λ up. popped-on clocks goes time turn place u steppers old new lasting up inside is same own gave)

pub popped-none : (clocks : Clocks) (goes : Bool) (time turn place : ℕ) (r : Option StepUnit) (steppers : List StepperStream) (old new : StepperStream) → IsLasting clocks → ∥ AreUpTo clocks goes time turn steppers ∥₁ → place < length steppers → old ≡ get_or steppers place old → IsSame old new
    → IfNone r ((base : ℕ) (parts : List TimedPart) (out : List Planned) (pieces : List Piece) (given : List StepUnit) → IsStepperOf old base parts out pieces given → IsStepperOf new base parts out pieces given)
    → IfNone r (∥ GoOn clocks goes time turn [] [] steppers (set steppers place new) ∥₁)
popped-none clocks goes time turn place (Some u) steppers old new lasting all inside is same kept = tt
popped-none clocks goes time turn place None steppers old new lasting all inside is same kept = ∥∥₁_map all (λ up. (
    let own : IsUpTo clocks goes time turn place old = subst (IsUpTo clocks goes time turn place) (sym is) (up.each place old inside) in
    let none = go-on-none clocks goes time turn steppers up in
    let here : StepperGoesOn clocks goes time turn [] [] place old new = kept-on clocks goes goes time turn place old new own (λ e. (let k = own.known e in let s = same.known in omega arith)) (λ e. (let k = own.reaches e in let s = same.known in omega arith)) (λ e. (let k = own.over e in let s = same.known in omega arith)) (same.caught turn) same.lines same.turn same.kind (due-on clocks goes time turn place old new lasting own same) kept in
    record {
      same = length-set steppers place new;
      each = goes-at (StepperGoesOn clocks goes time turn [] []) steppers place old new inside is here (λ k d l other. none.each k d l);
    }))

pub popped-own : (clocks : Clocks) (goes : Bool) (time turn place : ℕ) (r : Option StepUnit) (steppers : List StepperStream) (old : StepperStream) → ∥ AreUpTo clocks goes time turn steppers ∥₁ → place < length steppers → old ≡ get_or steppers place old → IfSome r (λ u. u.stepper ≡ (kind_of old).oid) → IfSome r (λ u. u.stepper < length steppers)
popped-own clocks goes time turn place None steppers old all inside is own = tt
popped-own clocks goes time turn place (Some u) steppers old all inside is own = ∥∥₁_elim all (hlevel props) (λ up. (
    let here : IsUpTo clocks goes time turn place old = subst (IsUpTo clocks goes time turn place) (sym is) (up.each place old inside) in
    let n = here.number in
    let o : u.stepper ≡ (kind_of old).oid = own in
    omega arith))

pub if-none : (r : Option StepUnit) (P : Type 0) → P → IfNone r P
if-none None P p = p
if-none (Some u) P p = tt

pub on-joined : (clocks : Clocks) (goes : Bool) (time turn : ℕ) (one two : List StepUnit) (a b c : List StepperStream) → ∥ GoOn clocks goes time turn [] one a b ∥₁ → ∥ GoOn clocks goes time turn [] two b c ∥₁ → ∥ GoOn clocks goes time turn [] (one ++ two) a c ∥₁
on-joined clocks goes time turn one two a b c p q = ∥∥₁_elim p ∥∥₁_prop (λ x. ∥∥₁_map q (go-on-twice clocks goes time turn one two a b c x))

pub on-still : (clocks : Clocks) (goes : Bool) (time turn : ℕ) (one : List StepUnit) (a b c : List StepperStream) → ∥ GoOn clocks goes time turn [] one a b ∥₁ → ∥ GoOn clocks goes time turn [] [] b c ∥₁ → ∥ GoOn clocks goes time turn [] one a c ∥₁
on-still clocks goes time turn one a b c p q = subst (λ us. ∥ GoOn clocks goes time turn [] us a c ∥₁) (append-nil one) (on-joined clocks goes time turn one [] a b c p q)
