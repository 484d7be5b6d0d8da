-- A homing group that answers that no switch closed: none of its members is known to have expired in time, and no endstop's board to have read its switch.
use Rattle.std.proofs.Common.{◌≡◌, ℕ, ◌≤◌, ◌==◌, Bool, true, false, cond, List, [], ◌∷◌, map, Option, Some, None, refl, ap, ◌∙◌, subst, arith, inl, inr}
use Rattle.std.specs.Prelude.{◌&&◌, nat_le}
use Rattle.laws_board.proofs.Names.{eqb_tells, leb_tells, End, Fired, Seen, GroupState, all_fired, answer_in, both_parts, and_from}
use Rattle.trigger_group.specs.declared.order.End.TheVariants.{Endstop, Expired, NoSwitch}
use Rattle.trigger_group.specs.Group.{answer, ended, expired, first_expired, first_switched, has_fired, or_else, or_none, switched}
use Rattle.laws_homing.specs.home_runs.Told.{IsMember}
use Rattle.laws_homing.specs.missed_groups.Ticks.{IsReader}
use Rattle.laws_homing.proofs.missed_groups.Told.{Each, KnownIn}

-- an answer that says something else
abbrev IsOther : Option End → Type 0
IsOther None = Unit {0}
IsOther (Some NoSwitch) = ⊥
IsOther (Some end) = Unit {0}

expired_if : (c : Bool) (board turn : ℕ) → IsOther (cond c (Some (Expired board turn)) None)
expired_if true board turn = tt
expired_if false board turn = tt

expired_other : (last board : ℕ) (o : Option Fired) → IsOther (expired last board o)
expired_other last board None = tt
expired_other last board (Some f) = expired_if ((f.reason == 2) && nat_le f.turn last) board f.turn

switched_if : (c : Bool) (tick : ℕ) → IsOther (cond c (Some (Endstop tick)) None)
switched_if true tick = tt
switched_if false tick = tt

switched_other : (e : Bool) (o : Option Fired) → IsOther (switched e o)
switched_other e None = tt
switched_other e (Some f) = switched_if (e && (f.reason == 1)) f.tick

either_other : (x y : Option End) → IsOther x → IsOther y → IsOther (or_else x y)
either_other None y a b = b
either_other (Some z) y a b = a

all_expired_other : (last : ℕ) (xs : List Seen) → IsOther (first_expired last xs)
all_expired_other last [] = tt
all_expired_other last (x ∷ xs) = either_other (expired last x.member.board x.fired) (first_expired last xs) (expired_other last x.member.board x.fired) (all_expired_other last xs)

all_switched_other : (xs : List Seen) → IsOther (first_switched xs)
all_switched_other [] = tt
all_switched_other (x ∷ xs) = either_other (switched x.member.endstop x.fired) (first_switched xs) (switched_other x.member.endstop x.fired) (all_switched_other xs)

none_of : (x y : Option End) → IsOther x → IsOther y → or_none (or_else x y) ≡ NoSwitch → (x ≡ None) × (y ≡ None)
none_of None None a b e = (refl, refl)
none_of None (Some z) a b e = absurd (let f : z ≡ NoSwitch = e in subst (λ (w : End). IsOther (Some w)) f b)
none_of (Some z) y a b e = absurd (let f : z ≡ NoSwitch = e in subst (λ (w : End). IsOther (Some w)) f a)

pub else_none : (x y : Option End) → or_else x y ≡ None → (x ≡ None) × (y ≡ None)
else_none None y e = (refl, e)
else_none (Some z) y e = absurd (cc)

-- the parts of the answer
pub record Missed (last : ℕ) (xs : List Seen) : Type 0 where
  pub all : all_fired xs ≡ true
  pub unexpired : first_expired last xs ≡ None
  pub unswitched : first_switched xs ≡ None

ended_if : (c : Bool) (x : End) → cond c (Some x) None ≡ Some NoSwitch → (c ≡ true) × (x ≡ NoSwitch)
ended_if true x e = (refl, cc)
ended_if false x e = absurd (let f : None ≡ Some NoSwitch = e in cc)

in_if : (c : Bool) (o : Option End) → cond c o None ≡ Some NoSwitch → o ≡ Some NoSwitch
in_if true o e = e
in_if false o e = absurd (let f : None ≡ Some NoSwitch = e in cc)

pub missed : (k start : ℕ) (g : GroupState) → answer_in k start g ≡ Some NoSwitch → Missed g.last g.members
missed k start g e =
    let x = ended_if (all_fired g.members) (answer g) (in_if (nat_le start k) (ended g) e) in
    let y = none_of (first_expired g.last g.members) (first_switched g.members) (all_expired_other g.last g.members) (all_switched_other g.members) x.1 in
    record { all = x.0; unexpired = y.0; unswitched = y.1 }

pub rest_missed : (last : ℕ) (x : Seen) (xs : List Seen) → Missed last (x ∷ xs) → Missed last xs
rest_missed last x xs k = record {
  all = (both_parts (has_fired x.fired) (all_fired xs) k.all).1;
  unexpired = (else_none (expired last x.member.board x.fired) (first_expired last xs) k.unexpired).1;
  unswitched = (else_none (switched x.member.endstop x.fired) (first_switched xs) k.unswitched).1;
}

pub fired_some : (o : Option Fired) → has_fired o ≡ true → (f : Fired) × (o ≡ Some f)
fired_some None e = absurd (cc)
fired_some (Some f) e = (f, refl)

-- no member expired in time
pub none_expired : (last board : ℕ) (o : Option Fired) (f : Fired) → o ≡ Some f → expired last board o ≡ None → f.reason ≡ 2 → f.turn ≤ last → ⊥
none_expired last board None f e none two early = cc
none_expired last board (Some g) f e none two early =
    let same : g ≡ f = cc in
    let reason : (g.reason == 2) ≡ true = (elim (eqb_tells g.reason 2) [ inl p ↦ p.0 | inr p ↦ absurd (p.1 (ap (λ (z : Fired). z.reason) same ∙ two)) ]) in
    let turn : nat_le g.turn last ≡ true = (elim (leb_tells g.turn last) [ inl p ↦ p.0 | inr p ↦ absurd (let l = p.1 in let s = ap (λ (z : Fired). z.turn) same in omega (arith, l, s, early)) ]) in
    let If : Bool → Type 0 = λ c. cond c (Some (Expired board g.turn)) None ≡ None in
    let bad : Some (Expired board g.turn) ≡ None = subst If (and_from (g.reason == 2) (nat_le g.turn last) reason turn) none in
    cc

-- so one that is known to have triggered in time did so by its readings
pub known_read : (last : ℕ) (xs : List Seen) → Missed last xs → KnownIn last xs → (W : ℕ → Fired → Type 0) (own : ℕ) → Each W own xs → (b : ℕ) × (f : Fired) × IsMember b (map (λ (x : Seen). x.member) xs) × (f.reason ≡ 1) × W b f
known_read last [] k known W own each = absurd known
known_read last (x ∷ xs) k (inl now) W own each = elim now.3 [
  | inl one ↦ (x.member.board, now.0, inl refl, one, each.0.0 now.0 now.1)
  | inr two ↦ absurd (none_expired last x.member.board x.fired now.0 now.1 (else_none (expired last x.member.board x.fired) (first_expired last xs) k.unexpired).0 two now.2)
]
known_read last (x ∷ xs) k (inr more) W own each = let y = known_read last xs (rest_missed last x xs k) more W own each.1 in (y.0, y.1, inr y.2, y.3, y.4)

-- and the endstop's board not
pub none_switched : (e : Bool) (o : Option Fired) (f : Fired) → e ≡ true → o ≡ Some f → switched e o ≡ None → f.reason ≡ 1 → ⊥
none_switched e None f is_end is none one = cc
none_switched e (Some g) f is_end is none one =
    let same : g ≡ f = cc in
    let reason : (g.reason == 1) ≡ true = (elim (eqb_tells g.reason 1) [ inl p ↦ p.0 | inr p ↦ absurd (p.1 (ap (λ (z : Fired). z.reason) same ∙ one)) ]) in
    let If : Bool → Type 0 = λ c. cond c (Some (Endstop g.tick)) None ≡ None in
    let bad : Some (Endstop g.tick) ≡ None = subst If (and_from e (g.reason == 1) is_end reason) none in
    cc

pub reader_fired : (last b : ℕ) (xs : List Seen) → Missed last xs → IsReader b (map (λ (x : Seen). x.member) xs) → (W : ℕ → Fired → Type 0) (own : ℕ) → Each W own xs → (f : Fired) × ((f.reason ≡ 1) → ⊥) × W b f
reader_fired last b [] k reads W own each = absurd reads
reader_fired last b (x ∷ xs) k (inl here) W own each =
    let some = fired_some x.fired (both_parts (has_fired x.fired) (all_fired xs) k.all).0 in (
      some.0,
      (λ one. none_switched x.member.endstop x.fired some.0 here.1 some.1 (else_none (switched x.member.endstop x.fired) (first_switched xs) k.unswitched).0 one),
      subst (λ (n : ℕ). W n some.0) here.0 (each.0.0 some.0 some.1),
    )
reader_fired last b (x ∷ xs) k (inr more) W own each = reader_fired last b xs (rest_missed last x xs k) more W own each.1
