-- Where few turns of each busy stretch are spoiled, a board takes soon what was queued.
use Rattle.std.proofs.Common.{◌≡◌, ℕ, suc, ◌+◌, ◌-◌, ◌^◌, ◌<◌, ◌≤◌, List, [], ◌∷◌, ◌++◌, length, take, drop, refl, ap, sym, ◌∙◌, subst, arith, append_assoc, append-nil, length-append, inl, inr, rules}
use Rattle.laws_board.proofs.Names.{flat_map-append, take-append-drop, leb_tells, flat_map, BoardDef, BoardClock, Level, Entry, Meant, Core, AllKeepLimits, queued_in, first_state, IsTurn, LinkState, Orders, cons_same}
use Rattle.std.proofs.lemmas.List.{length-drop}
use Rattle.link_work.specs.Ends.{EndSo, Ended, last_link, spoiled}
use Rattle.link_work.specs.Taking.{command_place}
use Rattle.link_work.proofs.Late.{late_command, limits_first, limits_split, ordered_after}
use Rattle.laws_board.specs.sections.Events.{AreOwn}
use Rattle.laws_board.proofs.sections.Linking.{own_few}

-- a list that begins another one, by its length
pub begins : {X : Type 0} (ps qs ts rest : List X) → ts ++ rest ≡ ps ++ qs → length ps ≤ length ts → (more : List X) × (ps ++ more ≡ ts)
begins [] qs ts rest e h = (ts, refl)
begins (p ∷ ps) qs [] rest e h = absurd (omega (arith, h))
begins (p ∷ ps) qs (t ∷ ts) rest e h =
    let same = cons_same t p (ts ++ rest) (ps ++ qs) e in
    let more = begins ps qs ts rest same.1 (omega (arith, h)) in
    (more.0, ap (λ x. p ∷ x) more.1 ∙ ap (λ x. x ∷ ts) (sym same.0))

pub take_all : {X : Type 0} (xs ys : List X) → take (length xs) (xs ++ ys) ≡ xs
take_all [] ys = refl
take_all (x ∷ xs) ys = ap (λ z. x ∷ z) (take_all xs ys)

-- what is queued in one more turn is taken
one_taken : (b : BoardDef) (pins : List (List Level)) (board : ℕ) (entries : List Entry) (clock : BoardClock) (n : ℕ) (before after : List Orders) (o : Orders) (ends : List Ended)
    → AllKeepLimits (before ++ o ∷ []) → EndSo clock 0 (before ++ o ∷ after) (first_state b pins board entries) ends → spoiled ends ≤ n → n ≤ length after
    → length (flat_map queued_in before) ≤ length (last_link (first_state b pins board entries) ends).core.taken
    → length (flat_map queued_in (before ++ o ∷ [])) ≤ length (last_link (first_state b pins board entries) ends).core.taken
one_taken b pins board entries clock n before after o ends limits e few room sofar = search (rules, first_state, flat_map, queued_in, flat_map-append, append-nil, length-append, leb_tells, late_command)

-- and in some, where these keep the limits
most_taken : (b : BoardDef) (pins : List (List Level)) (board : ℕ) (entries : List Entry) (clock : BoardClock) (n : ℕ) (before xs ys all : List Orders) (ends : List Ended) → all ≡ before ++ (xs ++ ys)
    → AllKeepLimits (before ++ xs) → EndSo clock 0 all (first_state b pins board entries) ends → spoiled ends ≤ n → n ≤ length ys
    → length (flat_map queued_in before) ≤ length (last_link (first_state b pins board entries) ends).core.taken
    → length (flat_map queued_in (before ++ xs)) ≤ length (last_link (first_state b pins board entries) ends).core.taken
most_taken b pins board entries clock n before [] ys all ends cut limits e few room h =
    let Most : List Orders → Type 0 = λ x. length (flat_map queued_in x) ≤ length (last_link (first_state b pins board entries) ends).core.taken in
    subst Most (sym (append-nil before)) h
most_taken b pins board entries clock n before (o ∷ xs) ys all ends cut limits e few room h =
    let Most : List Orders → Type 0 = λ x. length (flat_map queued_in x) ≤ length (last_link (first_state b pins board entries) ends).core.taken in
    let Limits : List Orders → Type 0 = λ x. AllKeepLimits x in
    let Ends : List Orders → Type 0 = λ x. EndSo clock 0 x (first_state b pins board entries) ends in
    let next = one_taken b pins board entries clock n before (xs ++ ys) o ends (limits_first before xs o limits) (subst Ends cut e) few (omega (arith, length-append xs ys, room)) h in
    let rest = most_taken b pins board entries clock n (before ++ o ∷ []) xs ys all ends (cut ∙ sym (append_assoc before (o ∷ []) (xs ++ ys))) (subst Limits (sym (append_assoc before (o ∷ []) xs)) limits) e few room next in
    subst Most (append_assoc before (o ∷ []) xs) rest

-- behind some turns all is taken that was queued in the first ones, n turns before or earlier, where these keep the limits
pub most_at : (b : BoardDef) (pins : List (List Level)) (board : ℕ) (entries : List Entry) (clock : BoardClock) (n k : ℕ) (done : List Orders) (ends : List Ended) → k ≤ length done - n → AllKeepLimits (take k done)
    → EndSo clock 0 done (first_state b pins board entries) ends → spoiled ends ≤ n → length (flat_map queued_in (take k done)) ≤ length (last_link (first_state b pins board entries) ends).core.taken
most_at b pins board entries clock n k done ends back limits e few =
    let h : Core = (last_link (first_state b pins board entries) ends).core in
    let cut : done ≡ take k done ++ drop k done = sym (take-append-drop k done) in
    let Most : ℕ → Type 0 = λ i. length (flat_map queued_in (take i done)) ≤ length h.taken in
    elim (leb_tells n (length done)) [
      | inl p ↦ most_taken b pins board entries clock n [] (take k done) (drop k done) done ends cut limits e few (omega (arith, length-drop k done, p.1, back)) (omega arith)
      | inr p ↦ let none : 0 ≡ k = omega (arith, p.1, back) in subst Most none (omega arith)
    ]

pub soon_at : (b : BoardDef) (pins : List (List Level)) (board : ℕ) (entries : List Entry) (clock : BoardClock) (n : ℕ) (done : List Orders) (ends : List Ended) → AllKeepLimits done
    → EndSo clock 0 done (first_state b pins board entries) ends → spoiled ends ≤ n
    → (more : List Meant) × (flat_map queued_in (take (length done - n) done) ++ more ≡ (last_link (first_state b pins board entries) ends).core.taken)
soon_at b pins board entries clock n done ends limits e few =
    let k = length done - n in
    let xs = take k done in
    let ys = drop k done in
    let h : Core = (last_link (first_state b pins board entries) ends).core in
    let cut : done ≡ xs ++ ys = sym (take-append-drop k done) in
    let most = most_at b pins board entries clock n k done ends (omega arith) (limits_split xs ys (subst AllKeepLimits cut limits)).0 e few in
    let o = ordered_after b pins board entries clock done ends e in
    let i = length h.link.taken in
    let taken : h.taken ++ drop i h.queued ≡ flat_map queued_in xs ++ flat_map queued_in ys =
    ap (λ x. x ++ drop i h.queued) o.0.first ∙ take-append-drop i h.queued ∙ o.1 ∙ ap (flat_map queued_in) cut ∙ flat_map-append queued_in xs ys in
    begins (flat_map queued_in xs) (flat_map queued_in ys) h.taken (drop i h.queued) taken most

-- one more turn that ends
pub end_snoc : (clock : BoardClock) (turn k : ℕ) (os : List Orders) (o : Orders) (l : LinkState) (ends : List Ended) (mid : LinkState) → k ≡ turn + length os → EndSo clock turn os l ends
    → IsTurn clock k o (last_link l ends) mid → EndSo clock turn (os ++ o ∷ []) l (ends ++ record { turn = k; link = mid } ∷ [])
end_snoc clock turn k [] o l [] mid long e t =
    let same : k ≡ turn = omega (arith, long) in
    let At : ℕ → Type 0 = λ i. IsTurn clock i o l mid in
    (same, subst At same t, refl)
end_snoc clock turn k [] o l (x ∷ ends) mid long e t = absurd (omega (arith, ap length e))
end_snoc clock turn k (y ∷ os) o l [] mid long e t = absurd e
end_snoc clock turn k (y ∷ os) o l (x ∷ ends) mid long e t = (e.0, e.1, end_snoc clock (turn + 1) k os o x.link ends mid (omega (arith, long)) e.2 t)

-- so many turns are less than half a round of the 32-bit clock
pub ten_seconds : (b : BoardDef) (turns : ℕ) (own : ℕ → ℕ) (n m : ℕ) → AreOwn b turns own → n + m ≤ 10_700 → (k : ℕ) → own (k + (n + m + 2)) < own k + 2 ^ 31
ten_seconds b turns own n m o small k = omega (arith, own_few b turns own o (n + m + 2) k, small)
