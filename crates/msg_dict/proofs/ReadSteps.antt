-- Lemmas on the loops that read a dictionary.
use Rattle.std.proofs.Common.{◌≡◌, ℕ, zero, suc, Bool, true, false, not, ◌&&◌, List, [], ◌∷◌, ◌++◌, Option, Some, None, drop, map, refl, ap, sym, ◌∙◌, append_assoc}
use Rattle.msg_dict.specs.declared.format.Format.{Format}
use Rattle.msg_dict.specs.Kept.{format_of}
use Rattle.msg_dict.specs.Dictionary.{Named, has_number, numbers_differ}
use Rattle.msg_dict.specs.Reading.{with_format}
use Rattle.plan_types.proofs.Facts.{and_false}

-- what was found, behind what was seen before
abbrev pub prefixed : List Named → Option (List Named) → Option (List Named)
prefixed seen None = None
prefixed seen (Some ns) = Some (seen ++ ns)

pub prefixed_more : (seen : List Named) (name : List ℕ) (id : ℕ) (o : Option (List Named))
    → prefixed seen (with_format name (Some id) o) ≡ prefixed (seen ++ record { name = name; number = id } ∷ []) o
prefixed_more seen name id None = refl
prefixed_more seen name id (Some ns) = ap (λ (x : List Named). Some x) (sym (append_assoc seen (record { name = name; number = id } ∷ []) ns))

pub map_added : (xs : List Format) (f : Format) → map format_of (xs ++ f ∷ []) ≡ map format_of xs ++ format_of f ∷ []
map_added [] f = refl
map_added (x ∷ xs) f = ap (λ (l : List Named). format_of x ∷ l) (map_added xs f)

-- one more format is added
pub added : (xs ys : List Format) (f : Format) (e : Named) (old seen : List Named) → ys ≡ xs ++ f ∷ [] → format_of f ≡ e → map format_of xs ≡ old ++ seen
    → map format_of ys ≡ old ++ (seen ++ e ∷ [])
added xs ys f e old seen push same before =
    ap (λ (l : List Format). map format_of l) push ∙ map_added xs f ∙ ap (λ (l : List Named). l ++ format_of f ∷ []) before
    ∙ ap (λ (n : Named). (old ++ seen) ++ n ∷ []) same ∙ append_assoc old seen (e ∷ [])

pub negated : (b c : Bool) → c ≡ not b → c ≡ false → b ≡ true
negated true c e f = refl
negated false c e f = cc

-- an identifier that stands behind a format too stands twice
pub repeated : (xs : List Format) (k : ℕ) (f : Format) (rest : List Format) → drop k xs ≡ f ∷ rest → has_number f.id (map format_of rest) ≡ true
    → numbers_differ (map format_of xs) ≡ false
repeated xs zero f rest e h = rw e (ap (λ b. not b && numbers_differ (map format_of rest)) h)
repeated [] (suc k) f rest e h = cc
repeated (x ∷ xs) (suc k) f rest e h =
    ap (λ b. not (has_number x.id (map format_of xs)) && b) (repeated xs k f rest e h) ∙ and_false (not (has_number x.id (map format_of xs)))
