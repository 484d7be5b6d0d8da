-- What no triple covers.
use Rattle.std.proofs.Common.{◌≡◌, ℕ, ◌+◌, ◌*◌, ◌^◌, ◌<◌, ◌≤◌, List, length, arith, ap, inl, inr}
use Rattle.std.proofs.Math.Nat.{mul-le-mul_left}
use Rattle.std.proofs.lemmas.Bool.{cases_lt}
use Rattle.plan_types.specs.declared.plan.Window.{Window}
use Rattle.step_pack.specs.declared.Bounds.{Bounds}
use Rattle.step_pack.specs.declared.Verdict.{Verdict}
use Rattle.step_pack.specs.declared.Verdict.TheVariants.{Whole, TooGreat, TooSmall, Own}
use Rattle.plan_types.specs.Packing.{window_at}
use Rattle.step_pack.specs.Bounds.{triangle, Meets, AreBounds, NoneMeets, IsReach, IsMost, IsMostWithin}
use Rattle.step_pack.proofs.Numbers.{two-triangle}

-- the first of these steps
first_steps : {behind : ℕ} {ws : List Window} {n o i : ℕ} (p : ℕ) → p ≤ n → Meets behind ws n n n o i → Meets behind ws p p p o i
first_steps p less m = record {
  some = m.some;
  small = m.small;
  not_early = λ k below. m.not_early k (omega arith);
  not_late = λ k below. m.not_late k (omega arith);
  near = λ k below. m.near k (omega arith);
}

pub reached : (behind : ℕ) (ws : List Window) (bend place : ℕ) (b : Bounds) → place ≤ length ws → place ≤ 65_535 → AreBounds behind ws place place place bend b
    → ((k : ℕ) → k < place → (window_at ws k).up ≡ (window_at ws 0).up) → IsReach behind ws bend b.greatest place
reached behind ws bend place b within small is one_way = record {
  within = within;
  count_small = small;
  meets = let order = is.order in is.all b.greatest order (omega arith);
  one_way = one_way;
}

pub stopped_most : (behind : ℕ) (ws : List Window) (bend place : ℕ) (v : Verdict) → NoneMeets behind ws (place + 1) (place + 1) (place + 1) bend v → IsMost behind ws bend v place
stopped_most behind ws bend place v none o i n rules is = elim (cases_lt place n) [
  | inl more ↦ absurd (none o i rules (first_steps (place + 1) (omega arith) is.meets))
  | inr fine ↦ fine
]

pub turned_most : (behind : ℕ) (ws : List Window) (bend place : ℕ) → ((window_at ws place).up ≡ (window_at ws 0).up → ⊥) → IsMost behind ws bend Whole place
turned_most behind ws bend place turned o i n rules is = elim (cases_lt place n) [
  | inl more ↦ absurd (turned (is.one_way place more))
  | inr fine ↦ fine
]

too_far : (low behind place o i : ℕ) → place < 65_535 → i < 2 ^ 32 → i + o * place < 2 ^ 32 + 1024 * place
    → low + 1024 * triangle place ≤ behind + (place + 1) * i + o * triangle place → low < behind + 2 ^ 48
too_far low behind place o i small si near early =
    let two = two-triangle place in
    let times : o * (2 * triangle place) ≡ o * (place * (place + 1)) = ap (λ x. o * x) two in
    let sum : 2 * i + o * place ≤ 2 ^ 33 + 1024 * place = omega (arith, si, near) in
    let all = mul-le-mul_left (place + 1) sum in
    omega (arith, two, times, all, early, small)

pub far_most : (behind : ℕ) (ws : List Window) (bend place : ℕ) → place < 65_535 → behind + 2 ^ 48 ≤ (window_at ws place).low → IsMost behind ws bend Whole place
far_most behind ws bend place small far o i n rules is = elim (cases_lt place n) [
  | inl more ↦ absurd (let m = is.meets in let near = too_far (window_at ws place).low behind place o i small m.small (m.near place more) (m.not_early place more) in omega (arith, near, far))
  | inr fine ↦ fine
]

pub end_most : (behind : ℕ) (ws : List Window) (bend end : ℕ) → ((n : ℕ) → n ≤ length ws → n ≤ 65_535 → n ≤ end) → IsMost behind ws bend Whole end
end_most behind ws bend end all o i n rules is = all n is.within is.count_small

pub great_within : (behind : ℕ) (ws : List Window) (low probe less end high most found : ℕ) → probe ≤ end + less → IsMost behind ws probe (TooGreat less) found → found ≤ most
    → IsMostWithin behind ws low end most → IsMostWithin behind ws low high most
great_within behind ws low probe less end high most found near is order rest o i n from below reach = elim (cases_lt o end) [
  | inl lower ↦ rest o i n from lower reach
  | inr over ↦ (let h = is o i n (omega arith) reach in omega (arith, h))
]

pub small_within : (behind : ℕ) (ws : List Window) (low probe more start high most found : ℕ) → start ≤ probe + more + 1 → IsMost behind ws probe (TooSmall more) found → found ≤ most
    → IsMostWithin behind ws start high most → IsMostWithin behind ws low high most
small_within behind ws low probe more start high most found near is order rest o i n from below reach = elim (cases_lt o start) [
  | inl under ↦ (let h = is o i n (omega arith) reach in omega (arith, h))
  | inr higher ↦ rest o i n (omega arith) below reach
]

pub own_within : (behind : ℕ) (ws : List Window) (low probe high most found lower : ℕ) → IsMost behind ws probe Own found → found ≤ lower → lower ≤ most
    → IsMostWithin behind ws low probe lower → IsMostWithin behind ws (probe + 1) high most → IsMostWithin behind ws low high most
own_within behind ws low probe high most found lower is less more below above o i n from under reach = elim (cases_lt o probe) [
  | inl lesser ↦ (let h = below o i n from lesser reach in omega (arith, h))
  | inr over ↦ elim (cases_lt probe o) [
    | inl higher ↦ above o i n (omega arith) under reach
    | inr not ↦ (let e : o ≡ probe = omega arith in let h = is o i n e reach in omega (arith, h))
  ]
]
