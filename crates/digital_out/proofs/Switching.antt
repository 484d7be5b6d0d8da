-- Refreshed commands can be carried out, and change the level where the wants do.
use Rattle.std.proofs.Common.{◌≡◌, ℕ, ◌+◌, ◌-◌, ◌<◌, ◌≤◌, ◌^◌, Bool, true, false, not, List, [], ◌∷◌, ◌++◌, All, refl, sym, ap, subst, ◌∙◌, arith, true≢false}
use Rattle.std.proofs.lemmas.List.Elements.{All-append, All-cons, All-head, All-nil, All-tail}
use Rattle.plan_types.specs.Clock.{tick_limit}
use Rattle.digital_out.specs.declared.want.Want.{Want}
use Rattle.digital_out.specs.Carried.{AreInTime, CanCarry}
use Rattle.digital_out.specs.Refreshes.{AreBehindBy, AreOns, AreRefreshed, off_behind, off_by, wanted}
use Rattle.digital_out.specs.Rising.{Alternate, WantsRiseFrom}
use Rattle.digital_out.specs.Wants.{changes}

lower : (a b : ℕ) (ws : List Want) → a ≤ b → WantsRiseFrom b ws → WantsRiseFrom a ws
lower a b [] le h = tt
lower a b (w ∷ ws) le h = let first = h.0 in (omega (arith, first, le), h.1)

ons_rise : (every from until : ℕ) (ons rest : List Want) → 0 < every → from < until → AreOns every from until ons → WantsRiseFrom until rest → WantsRiseFrom (from + 1) (ons ++ rest)
ons_rise every from until [] rest some lt are h = lower (from + 1) until rest (omega (arith, lt)) h
ons_rise every from until (o ∷ os) rest some lt are h =
    let next = are.1 in
    subst (λ (w : Want). WantsRiseFrom (from + 1) (w ∷ os ++ rest)) (sym are.0) (omega (arith, some), ons_rise every (from + every) until os rest some next are.2 h)

pub refreshed_rise : (every low : ℕ) (wants list : List Want) → 0 < every → WantsRiseFrom low wants → AreRefreshed every wants list → WantsRiseFrom low list
refreshed_rise every low [] list some rise is = rw is tt
refreshed_rise every low (w ∷ []) list some rise is =
    let rest : is.1 ≡ [] = is.4 in
    rw (is.2, rest) (rise.0, alone w.on is.0 is.3)
  where
    alone : (b : Bool) (behind : List Want) → AreBehindBy b every w.tick [] behind → WantsRiseFrom (w.tick + 1) (behind ++ [])
    alone true behind h = rw h (omega (arith, some), (omega (arith, some), tt))
    alone false behind h = rw h tt
refreshed_rise every low (w ∷ v ∷ ws) list some rise is =
    let below : w.tick < v.tick = (let x = rise.1.0 in omega (arith, x)) in
    let first : WantsRiseFrom v.tick is.1 = refreshed_rise every v.tick (v ∷ ws) is.1 some (omega arith, rise.1.1) is.4 in
    rw is.2 (rise.0, between w.on is.0 is.1 is.3 below first)
  where
    between : (b : Bool) (behind rest : List Want) → AreBehindBy b every w.tick (v ∷ ws) behind → w.tick < v.tick → WantsRiseFrom v.tick rest → WantsRiseFrom (w.tick + 1) (behind ++ rest)
    between true behind rest h lt r = ons_rise every w.tick v.tick behind rest some lt h r
    between false behind rest h lt r = rw h (lower (w.tick + 1) v.tick rest (omega (arith, lt)) r)

module _ (top : ℕ) where
  Below : Want → Type 0
  Below w = w.tick < top

  ons_small : (every from until : ℕ) (ons : List Want) → until ≤ top → AreOns every from until ons → All (λ w. w.tick < top) ons
  ons_small every from until [] le are = All-nil (λ (w : Want). w.tick < top)
  ons_small every from until (o ∷ os) le are =
      let next = are.1 in
      let tick = ap (λ (w : Want). w.tick) are.0 in
      All-cons (λ (w : Want). w.tick < top) o os (omega (arith, next, le, tick)) (ons_small every (from + every) until os le are.2)

  behind_small : (every : ℕ) (w : Want) (ws behind : List Want) (b : Bool) → w.tick + every + every < top → All (λ v. v.tick + every + every < top) ws → AreBehindBy b every w.tick ws behind → All (λ v. v.tick < top) behind
  behind_small every w ws behind false lt small h = rw h (All-nil (λ (v : Want). v.tick < top))
  behind_small every w [] behind true lt small h =
      let P : Want → Type 0 = λ v. v.tick < top in
      rw h (All-cons P (wanted (w.tick + every) true) (wanted (w.tick + every + every) false ∷ []) (omega (arith, lt)) (All-cons P (wanted (w.tick + every + every) false) [] lt (All-nil P)))
  behind_small every w (v ∷ ws) behind true lt small h =
      let Later : Want → Type 0 = λ x. x.tick + every + every < top in
      let first = All-head Later v ws small in
      ons_small every w.tick v.tick behind (omega (arith, first)) h

  pub refreshed_small : (every : ℕ) (wants list : List Want) → All (λ w. w.tick + every + every < top) wants → AreRefreshed every wants list → All (λ w. w.tick < top) list
  refreshed_small every [] list small is = rw is (All-nil (λ (w : Want). w.tick < top))
  refreshed_small every (w ∷ ws) list small is =
      let P : Want → Type 0 = λ v. v.tick < top in
      let Later : Want → Type 0 = λ x. x.tick + every + every < top in
      let first = All-head Later w ws small in
      let others = All-tail Later w ws small in
      rw is.2 (All-cons P w (is.0 ++ is.1) (omega (arith, first)) (All-append P is.0 is.1 (behind_small every w ws is.0 w.on first others is.3) (refreshed_small every ws is.1 others is.4)))

off_any : (longest a b : ℕ) (ws : List Want) → AreInTime longest false a ws → AreInTime longest false b ws
off_any longest a b [] h = h
off_any longest a b (w ∷ ws) h = (tt, h.1)

ons_in_time : (longest every from : ℕ) (ons rest : List Want) (v : Want) → every ≤ longest → AreOns every from v.tick ons → AreInTime longest v.on v.tick rest → AreInTime longest true from (ons ++ v ∷ rest)
ons_in_time longest every from [] rest v le are h = (omega (arith, are, le), h)
ons_in_time longest every from (o ∷ os) rest v le are h =
    subst (λ (w : Want). AreInTime longest true from (w ∷ os ++ v ∷ rest)) (sym are.0) (omega (arith, le), ons_in_time longest every (from + every) os rest v le are.2 h)

-- what the commands of some wants begin with
first_of : (every : ℕ) (w : Want) (ws list : List Want) → AreRefreshed every (w ∷ ws) list → (tail : List Want) × (list ≡ w ∷ tail)
first_of every w ws list is = (is.0 ++ is.1, is.2)

pub refreshed_in_time : (longest every : ℕ) (wants list : List Want) → every + every ≤ longest → AreRefreshed every wants list → AreInTime longest false 0 list
refreshed_in_time longest every [] list le is = rw is refl
refreshed_in_time longest every (w ∷ []) list le is =
    let rest : is.1 ≡ [] = is.4 in
    rw (is.2, rest) (tt, alone w.on is.0 is.3)
  where
    alone : (b : Bool) (behind : List Want) → AreBehindBy b every w.tick [] behind → AreInTime longest b w.tick (behind ++ [])
    alone true behind h = rw h (omega (arith, le), (omega (arith, le), refl))
    alone false behind h = rw h refl
refreshed_in_time longest every (w ∷ v ∷ ws) list le is =
    let first = first_of every v ws is.1 is.4 in
    let later : AreInTime longest false 0 (v ∷ first.0) = subst (λ (ls : List Want). AreInTime longest false 0 ls) first.1 (refreshed_in_time longest every (v ∷ ws) is.1 le is.4) in
    rw (is.2, first.1) (tt, between w.on is.0 first.0 is.3 later)
  where
    between : (b : Bool) (behind tail : List Want) → AreBehindBy b every w.tick (v ∷ ws) behind → AreInTime longest false 0 (v ∷ tail) → AreInTime longest b w.tick (behind ++ v ∷ tail)
    between true behind tail h later = ons_in_time longest every w.tick behind tail v (omega (arith, le)) h later.1
    between false behind tail h later = rw h (off_any longest 0 w.tick (v ∷ tail) later)

-- further commands that hold the output on change nothing
ons_same : (every from until : ℕ) (ons rest : List Want) → AreOns every from until ons → changes true (ons ++ rest) ≡ changes true rest
ons_same every from until [] rest are = refl
ons_same every from until (o ∷ os) rest are = subst (λ (w : Want). changes true (w ∷ os ++ rest) ≡ changes true rest) (sym are.0) (ons_same every (from + every) until os rest are.2)

changed : (level b : Bool) (w : Want) (ws : List Want) → w.on ≡ b → b ≡ not level → changes level (w ∷ ws) ≡ w ∷ changes b ws
changed true true w ws is other = absurd (true≢false other)
changed true false w ws is other = rw is refl
changed false true w ws is other = rw is refl
changed false false w ws is other = absurd (true≢false (sym other))

pub refreshed_changes : (every : ℕ) (level : Bool) (wants list : List Want) → Alternate level wants → AreRefreshed every wants list → changes level list ≡ wants ++ off_behind every wants
refreshed_changes every true [] list alternate is = rw is refl
refreshed_changes every false [] list alternate is = rw is refl
refreshed_changes every level (w ∷ []) list alternate is =
    let rest : is.1 ≡ [] = is.4 in
    rw is.2 (changed level w.on w (is.0 ++ is.1) refl alternate.0 ∙ ap (λ (us : List Want). w ∷ us) (subst (λ (us : List Want). changes w.on (is.0 ++ us) ≡ off_by every w.tick w.on) (sym rest) (alone w.on is.0 is.3)))
  where
    alone : (b : Bool) (behind : List Want) → AreBehindBy b every w.tick [] behind → changes b (behind ++ []) ≡ off_by every w.tick b
    alone true behind h = rw h refl
    alone false behind h = rw h refl
refreshed_changes every level (w ∷ v ∷ ws) list alternate is =
    let later = refreshed_changes every w.on (v ∷ ws) is.1 alternate.1 is.4 in
    rw is.2 (changed level w.on w (is.0 ++ is.1) refl alternate.0 ∙ ap (λ (us : List Want). w ∷ us) (between w.on is.0 is.1 is.3 ∙ later))
  where
    between : (b : Bool) (behind rest : List Want) → AreBehindBy b every w.tick (v ∷ ws) behind → changes b (behind ++ rest) ≡ changes b rest
    between true behind rest h = ons_same every w.tick v.tick behind rest h
    between false behind rest h = rw h refl

-- the commands of wants can be carried out
pub can_carry : (every longest : ℕ) (wants list : List Want) → 0 < every → every + every ≤ longest → every + every < 2 ^ 31 → WantsRiseFrom 0 wants → All (λ w. w.tick < tick_limit - 2 ^ 32) wants → AreRefreshed every wants list → CanCarry longest list
can_carry every longest wants list some le few rise small is =
    let room : All (λ w. w.tick + every + every < tick_limit - 1) wants = λ k d lt. (let x = small k d lt in omega (arith, x, few)) in
    let below = refreshed_small (tick_limit - 1) every wants list room is in
    record { rise = refreshed_rise every 0 wants list some rise is; small = λ k d lt. (let x = below k d lt in omega (arith, x)); in_time = refreshed_in_time longest every wants list le is }
