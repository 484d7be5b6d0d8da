-- How many pulses there are between two ticks.
use Rattle.std.proofs.Common.{◌≡◌, ℕ, ◌≤◌, List, [], ◌∷◌, ◌++◌, length, refl, ap, sym, ◌∙◌, arith, inl, inr, append-nil, length-append}
use Rattle.std.specs.Prelude.{nat_le, if◌then◌else◌}
use Rattle.laws_board.proofs.Names.{leb_tells, Planned, Pulse, Fits}
use Rattle.laws_board.proofs.sections.Entering.{AreEarly}
use Rattle.laws_board.proofs.sections.Spans.{AreLate, from_append, from_early, from_late, from_tick, late_append, late_down}

-- those before a tick
abbrev to_tick : ℕ → List Pulse → List Pulse
to_tick x [] = []
to_tick x (p ∷ ps) = if nat_le x p.tick then to_tick x ps else p ∷ to_tick x ps

to_append : (x : ℕ) (ps qs : List Pulse) → to_tick x (ps ++ qs) ≡ to_tick x ps ++ to_tick x qs
to_append x [] qs = refl
to_append x (p ∷ ps) qs = elim (leb_tells x p.tick) [ inl h ↦ rw h.0 (to_append x ps qs) | inr h ↦ rw h.0 (ap (λ t. p ∷ t) (to_append x ps qs)) ]

to_early : (x : ℕ) (ps : List Pulse) → AreEarly x ps → to_tick x ps ≡ ps
to_early x [] a = refl
to_early x (p ∷ ps) a = elim (leb_tells x p.tick) [ inl h ↦ absurd (omega (arith, h.1, a.0)) | inr h ↦ rw h.0 (ap (λ t. p ∷ t) (to_early x ps a.1)) ]

to_late : (x : ℕ) (ps : List Pulse) → AreLate x ps → to_tick x ps ≡ []
to_late x [] a = refl
to_late x (p ∷ ps) a = elim (leb_tells x p.tick) [ inl h ↦ rw h.0 (to_late x ps a.1) | inr h ↦ absurd (omega (arith, h.1, a.0)) ]

-- of pulses in three parts, cut at two ticks, the middle has those between them
pub middle_many : (low high : ℕ) (a m z early steps more : List Pulse) → low ≤ high → AreEarly low a → AreLate low m → AreEarly high m → AreLate high z → AreLate low steps → AreEarly high steps → a ++ (m ++ z) ≡ early ++ (steps ++ more)
    → length steps ≤ length m
middle_many low high a m z early steps more order one two three four five six same =
    let left : to_tick high (from_tick low (a ++ (m ++ z))) ≡ m =
    ap (to_tick high) (from_append low a (m ++ z) ∙ ap (λ x. x ++ from_tick low (m ++ z)) (from_early low a one) ∙ from_late low (m ++ z) (late_append low m z two (late_down high low z order four)))
    ∙ to_append high m z ∙ ap (λ x. x ++ to_tick high z) (to_early high m three) ∙ ap (λ x. m ++ x) (to_late high z four) ∙ append-nil m in
    let e = from_tick low early in
    let r = from_tick low more in
    let right : to_tick high (from_tick low (early ++ (steps ++ more))) ≡ to_tick high e ++ (steps ++ to_tick high r) =
    ap (to_tick high) (from_append low early (steps ++ more) ∙ ap (λ x. e ++ x) (from_append low steps more ∙ ap (λ x. x ++ r) (from_late low steps five)))
    ∙ to_append high e (steps ++ r) ∙ ap (λ x. to_tick high e ++ x) (to_append high steps r ∙ ap (λ x. x ++ to_tick high r) (to_early high steps six)) in
    let all : m ≡ to_tick high e ++ (steps ++ to_tick high r) = sym left ∙ ap (λ x. to_tick high (from_tick low x)) same ∙ right in
    let long = ap length all ∙ length-append (to_tick high e) (steps ++ to_tick high r) in
    let more_long = length-append steps (to_tick high r) in
    omega (arith, long, more_long)

pub fits_many : (freq before : ℕ) (ps : List Pulse) (plan : List Planned) → Fits freq before ps plan → length ps ≤ length plan
fits_many freq before [] plan f = omega arith
fits_many freq before (p ∷ ps) [] f = absurd f
fits_many freq before (p ∷ ps) (s ∷ plan) f = let rest = fits_many freq s.tick ps plan f.1 in omega (arith, rest)
