-- The last element of a place, behind one more element.
use Rattle.std.proofs.Common.{◌≡◌, ℕ, ◌<◌, ◌==◌, ◌&&◌, Bool, true, false, cond, List, [], ◌∷◌, ◌++◌, Option, Some, None, option_map, refl, sym, ap, arith, ◌∙◌}
use Rattle.std.proofs.lemmas.List.{get_or-replicate}
use Rattle.wire_scene.specs.Scenes.{or_earlier, last_where}
use Rattle.wire_scene.specs.Marks.{mark_place, marked, no_marks, SetsMark, Remember}

before_cond : {A : Type 0} (v : Bool) (x : A) (o e : Option A) → or_earlier (cond v (Some x) o) e ≡ cond v (Some x) (or_earlier o e)
before_cond true x o e = refl
before_cond false x o e = refl

pub last_more : {A : Type 0} (test : A → Bool) (xs : List A) (x : A) → last_where test (xs ++ x ∷ []) ≡ cond (test x) (Some x) (last_where test xs)
last_more test [] x = refl
last_more test (y ∷ ys) x = ap (λ o. or_earlier o (cond (test y) (Some y) None)) (last_more test ys x) ∙ before_cond (test x) x (last_where test ys) (cond (test y) (Some y) None)

pub map_cond : {A : Type 0} (mark : A → ℕ) (v : Bool) (x : A) (o : Option A) → option_map mark (cond v (Some x) o) ≡ cond v (Some (mark x)) (option_map mark o)
map_cond mark true x o = refl
map_cond mark false x o = refl

pub remember_more : {A : Type 0} (is_at : ℕ → ℕ → A → Bool) (mark : A → ℕ) (old new : List (Option ℕ)) (xs : List A) (x : A) (board place : ℕ) → Remember is_at mark old xs
    → SetsMark old new board place (mark x) → ((b p : ℕ) → is_at b p x ≡ ((board == b) && (place == p))) → Remember is_at mark new (xs ++ x ∷ [])
remember_more is_at mark old new xs x board place known sets same b p hb hp = sets b p hp
    ∙ ap (λ (v : Bool). cond v (Some (mark x)) (marked old b p)) (sym (same b p))
    ∙ ap (λ (o : Option ℕ). cond (is_at b p x) (Some (mark x)) o) (known b p hb hp)
    ∙ sym (map_cond mark (is_at b p x) x (last_where (is_at b p) xs))
    ∙ ap (option_map mark) (sym (last_more (is_at b p) xs x))

none_at : (b p : ℕ) → b < 8 → p < 256 → marked no_marks b p ≡ None
unfolding no_marks
none_at b p hb hp = get_or-replicate 2048 (mark_place b p) None None (omega arith)

pub remember_of_none : {A : Type 0} (is_at : ℕ → ℕ → A → Bool) (mark : A → ℕ) (marks : List (Option ℕ)) (xs : List A) → marks ≡ no_marks → xs ≡ [] → Remember is_at mark marks xs
remember_of_none is_at mark marks xs is none b p hb hp = rw (is, none) (none_at b p hb hp)
