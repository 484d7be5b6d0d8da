-- A file that is added behind others.
use Rattle.std.proofs.Common.{◌≡◌, ◌≢◌, ℕ, List, [], ◌∷◌, ◌++◌, Option, Some, Bool, true, false, cond, refl, ap, sym, ◌∙◌}
use Rattle.std.specs.Prelude.{MatchBool}
use Rattle.std.specs.Str.{bytes_eq}
use Rattle.std.specs.Cmp.Lexicographic.{told_text}
use Rattle.io_core.specs.declared.stored.MemFile.{MemFile}
use Rattle.io_core.specs.Stored.{stored_or}

swapped : (A : Type 0) (p q : Bool) (x y z : A) → cond p (cond q x y) (cond q x z) ≡ cond q x (cond p y z)
swapped A true true x y z = refl
swapped A true false x y z = refl
swapped A false true x y z = refl
swapped A false false x y z = refl

pub stored_or-append : (other : Option (List ℕ)) (files : List MemFile) (f : MemFile) (name : List ℕ) → stored_or other (files ++ f ∷ []) name ≡ cond (bytes_eq f.name.items name) (Some f.bytes.items) (stored_or other files name)
stored_or-append other [] f name = refl
stored_or-append other (g ∷ files) f name =
    let one = stored_or-append (Some g.bytes.items) files f name in
    let two = stored_or-append other files f name in
    rw one (rw two (swapped _ (bytes_eq g.name.items name) (bytes_eq f.name.items name) _ _ _))

choose : (b : Bool) (xs ys : List ℕ) → MatchBool b (xs ≡ ys) (xs ≢ ys) → xs ≡ ys → b ≡ true
choose true xs ys m e = refl
choose false xs ys m e = absurd (m e)

refuse : (b : Bool) (xs ys : List ℕ) → MatchBool b (xs ≡ ys) (xs ≢ ys) → xs ≢ ys → b ≡ false
refuse true xs ys m n = absurd (n m)
refuse false xs ys m n = refl

pub same_name : (xs ys : List ℕ) → xs ≡ ys → bytes_eq xs ys ≡ true
same_name xs ys e = choose (bytes_eq xs ys) xs ys (told_text xs ys (bytes_eq xs ys) refl) e

pub other_name : (xs ys : List ℕ) → xs ≢ ys → bytes_eq xs ys ≡ false
other_name xs ys n = refuse (bytes_eq xs ys) xs ys (told_text xs ys (bytes_eq xs ys) refl) n
