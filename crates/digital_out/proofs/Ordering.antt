-- Wants in order.
use Rattle.std.proofs.Common.{◌≡◌, ℕ, zero, suc, ◌+◌, ◌==◌, ◌<◌, ◌≤◌, Bool, true, false, not, cond, List, [], ◌∷◌, All, length, map, get_or, refl, sym, subst, arith}
use Rattle.std.proofs.lemmas.Bool.Decides.{nat_tests}
use Rattle.std.proofs.lemmas.List.Elements.{All-cons, All-head, All-nil, All-tail}
use Rattle.plan_types.specs.Numbers.{UpFrom}
use Rattle.clock_line.proofs.Holding.{tick-mono}
use Rattle.plan_types.specs.declared.plan.Line.{Line}
use Rattle.plan_types.specs.Clock.{tick}
use Rattle.digital_out.specs.declared.want.Want.{Want}
use Rattle.digital_out.specs.declared.word.FanWord.{FanWord}
use Rattle.digital_out.specs.Ends.{AreWordsFrom}
use Rattle.digital_out.specs.Rising.{Alternate, AreRising, NeverFall, WantsRiseFrom}
use Rattle.digital_out.specs.Wants.{changes, is_last, last_ones, want_at}

-- a time of an ordered list is not before another that stands before it
at_least : (low : ℕ) (times : List ℕ) (j : ℕ) → UpFrom low times → j < length times → low ≤ get_or times j 0
at_least low [] j h lt = absurd (omega arith)
at_least low (t ∷ times) zero h lt = h.0
at_least low (t ∷ times) (suc j) h lt = let later = at_least t times j h.1 (omega (arith, lt)) in let first = h.0 in omega (arith, later, first)

ordered_at : (low : ℕ) (times : List ℕ) (i j : ℕ) → UpFrom low times → i ≤ j → j < length times → get_or times i 0 ≤ get_or times j 0
ordered_at low [] i j h le lt = absurd (omega arith)
ordered_at low (t ∷ times) zero zero h le lt = omega arith
ordered_at low (t ∷ times) zero (suc j) h le lt = at_least t times j h.1 (omega (arith, lt))
ordered_at low (t ∷ times) (suc i) zero h le lt = absurd (omega arith)
ordered_at low (t ∷ times) (suc i) (suc j) h le lt = ordered_at t times i j h.1 (omega (arith, le)) (omega (arith, lt))

-- what the lines want, one behind the other, does not fall
wants_from : (line : Line) (times : List ℕ) (from most : ℕ) (words : List FanWord) → UpFrom 0 times → most < length times → AreWordsFrom from most words
    → NeverFall (tick line (get_or times from 0)) (map (want_at line times) words)
wants_from line times from most [] h lt are = tt
wants_from line times from most (w ∷ words) h lt are =
    let first = are.0 in
    let last = are.1 in
    (tick-mono line (get_or times from 0) (get_or times w.moves 0) (ordered_at 0 times from w.moves h first (omega (arith, last, lt))), wants_from line times w.moves most words h lt are.2)

lower : (a b : ℕ) (ws : List Want) → a ≤ b → NeverFall b ws → NeverFall a ws
lower a b [] le h = tt
lower a b (w ∷ ws) le h = let first = h.0 in (omega (arith, first, le), h.1)

pub wants_never_fall : (line : Line) (times : List ℕ) (most : ℕ) (words : List FanWord) → UpFrom 0 times → most < length times → AreWordsFrom 0 most words → NeverFall 0 (map (want_at line times) words)
wants_never_fall line times most words h lt are = lower 0 (tick line (get_or times 0 0)) (map (want_at line times) words) (omega arith) (wants_from line times 0 most words h lt are)

pub words_there : (low most count : ℕ) (words : List FanWord) → AreWordsFrom low most words → most < count → All (λ w. w.moves < count) words
words_there low most count [] are lt = All-nil (λ (w : FanWord). w.moves < count)
words_there low most count (w ∷ words) are lt = let last = are.1 in All-cons (λ (w : FanWord). w.moves < count) w words (omega (arith, last, lt)) (words_there w.moves most count words are.2 lt)

differ : (a b : ℕ) → not (a == b) ≡ true → a ≤ b → a < b
differ a b h le = grind (arith, nat_tests)

last_by : (low : ℕ) (w v : Want) (ws : List Want) (b : Bool) → is_last w (v ∷ ws) ≡ b → NeverFall low (w ∷ v ∷ ws) → ((from : ℕ) → from ≤ v.tick → WantsRiseFrom from (last_ones (v ∷ ws)))
    → WantsRiseFrom low (cond b (w ∷ last_ones (v ∷ ws)) (last_ones (v ∷ ws)))
last_by low w v ws true e h later = (h.0, later (w.tick + 1) (let lt = differ w.tick v.tick e h.1.0 in omega (arith, lt)))
last_by low w v ws false e h later = let first = h.0 in let next = h.1.0 in later low (omega (arith, first, next))

-- of wants that don't fall the last ones at their ticks rise
pub last_rise : (low : ℕ) (ws : List Want) → NeverFall low ws → WantsRiseFrom low (last_ones ws)
last_rise low [] h = tt
last_rise low (w ∷ []) h = (h.0, tt)
last_rise low (w ∷ v ∷ ws) h = last_by low w v ws (is_last w (v ∷ ws)) refl h (λ from le. last_rise from (v ∷ ws) (le, h.1.1))

rise_lower : (a b : ℕ) (ws : List Want) → a ≤ b → WantsRiseFrom b ws → WantsRiseFrom a ws
rise_lower a b [] le h = tt
rise_lower a b (w ∷ ws) le h = let first = h.0 in (omega (arith, first, le), h.1)

-- a want is kept or left out before others
kept : (low : ℕ) (w : Want) (with_it without : List Want) (b : Bool) → low ≤ w.tick → WantsRiseFrom (w.tick + 1) with_it → WantsRiseFrom (w.tick + 1) without → WantsRiseFrom low (cond b (w ∷ with_it) without)
kept low w with_it without true le a b = (le, a)
kept low w with_it without false le a b = rise_lower low (w.tick + 1) without (omega (arith, le)) b

left : (low : ℕ) (w : Want) (with_it without : List Want) (b : Bool) → low ≤ w.tick → WantsRiseFrom (w.tick + 1) with_it → WantsRiseFrom (w.tick + 1) without → WantsRiseFrom low (cond b without (w ∷ with_it))
left low w with_it without true le a b = rise_lower low (w.tick + 1) without (omega (arith, le)) b
left low w with_it without false le a b = (le, a)

-- wants that change the level rise where all do
pub changes_rise : (level : Bool) (low : ℕ) (ws : List Want) → WantsRiseFrom low ws → WantsRiseFrom low (changes level ws)
changes_rise true low [] h = tt
changes_rise false low [] h = tt
changes_rise true low (w ∷ ws) h = left low w (changes false ws) (changes true ws) w.on h.0 (changes_rise false (w.tick + 1) ws h.1) (changes_rise true (w.tick + 1) ws h.1)
changes_rise false low (w ∷ ws) h = kept low w (changes true ws) (changes false ws) w.on h.0 (changes_rise true (w.tick + 1) ws h.1) (changes_rise false (w.tick + 1) ws h.1)

alternate_on : (w : Want) (with_it without : List Want) (b : Bool) → w.on ≡ b → Alternate true with_it → Alternate false without → Alternate false (cond b (w ∷ with_it) without)
alternate_on w with_it without true e a b = (e, subst (λ (l : Bool). Alternate l with_it) (sym e) a)
alternate_on w with_it without false e a b = b

alternate_off : (w : Want) (with_it without : List Want) (b : Bool) → w.on ≡ b → Alternate false with_it → Alternate true without → Alternate true (cond b without (w ∷ with_it))
alternate_off w with_it without true e a b = b
alternate_off w with_it without false e a b = (e, subst (λ (l : Bool). Alternate l with_it) (sym e) a)

pub changes_alternate : (level : Bool) (ws : List Want) → Alternate level (changes level ws)
changes_alternate true [] = tt
changes_alternate false [] = tt
changes_alternate true (w ∷ ws) = alternate_off w (changes false ws) (changes true ws) w.on refl (changes_alternate false ws) (changes_alternate true ws)
changes_alternate false (w ∷ ws) = alternate_on w (changes true ws) (changes false ws) w.on refl (changes_alternate true ws) (changes_alternate false ws)

module _ (P : Want → Type 0) where
  pick : (b : Bool) (xs ys : List Want) → All P xs → All P ys → All P (cond b xs ys)
  pick true xs ys a b = a
  pick false xs ys a b = b

  pub all_last : (ws : List Want) → All P ws → All P (last_ones ws)
  all_last [] h = All-nil P
  all_last (w ∷ ws) h =
      let later = all_last ws (All-tail P w ws h) in
      pick (is_last w ws) (w ∷ last_ones ws) (last_ones ws) (All-cons P w (last_ones ws) (All-head P w ws h) later) later

  pub all_changes : (level : Bool) (ws : List Want) → All P ws → All P (changes level ws)
  all_changes true [] h = All-nil P
  all_changes false [] h = All-nil P
  all_changes true (w ∷ ws) h =
      let off = all_changes false ws (All-tail P w ws h) in
      let on = all_changes true ws (All-tail P w ws h) in
      pick w.on (changes true ws) (w ∷ changes false ws) on (All-cons P w (changes false ws) (All-head P w ws h) off)
  all_changes false (w ∷ ws) h =
      let off = all_changes false ws (All-tail P w ws h) in
      let on = all_changes true ws (All-tail P w ws h) in
      pick w.on (w ∷ changes true ws) (changes false ws) (All-cons P w (changes true ws) (All-head P w ws h) on) off

-- what lines want is small where all times are
pub wants_small : (line : Line) (times : List ℕ) (top : ℕ) (words : List FanWord) → All (λ t. tick line t < top) times → All (λ w. w.moves < length times) words → All (λ w. w.tick < top) (map (want_at line times) words)
wants_small line times top [] small there = All-nil (λ (w : Want). w.tick < top)
wants_small line times top (w ∷ words) small there =
    let Within : FanWord → Type 0 = λ v. v.moves < length times in
    All-cons (λ (v : Want). v.tick < top) (want_at line times w) (map (want_at line times) words) (small w.moves 0 (All-head Within w words there)) (wants_small line times top words small (All-tail Within w words there))

-- the wants of lines rise, are small where all times are, and change the level
pub record AreGood (top : ℕ) (ws : List Want) : Type 0 where
  pub rise : AreRising ws
  pub small : All (λ w. w.tick < top) ws
  pub alternate : Alternate false ws

pub are_good : (line : Line) (times : List ℕ) (most top : ℕ) (words : List FanWord) (wants : List Want) → wants ≡ changes false (last_ones (map (want_at line times) words)) → UpFrom 0 times → most < length times → AreWordsFrom 0 most words
    → All (λ t. tick line t < top) times → AreGood top wants
are_good line times most top words wants is ordered count are small =
    let all = map (want_at line times) words in
    let Small : Want → Type 0 = λ w. w.tick < top in
    rw is (record {
      rise = changes_rise false 0 (last_ones all) (last_rise 0 all (wants_never_fall line times most words ordered count are));
      small = all_changes Small false (last_ones all) (all_last Small all (wants_small line times top words small (words_there 0 most (length times) words are count)));
      alternate = changes_alternate false (last_ones all);
    })
