-- A text without the blanks at its ends.
use Rattle.std.specs.Prelude.{ℕ, List, [], ◌∷◌, ◌==◌, if◌then◌else◌}
use Rattle.text_core.specs.Bytes.{is_blank, behind}

-- a byte before a text without blanks at its end: nothing, where both are
abbrev pub before_trimmed : ℕ → List ℕ → List ℕ
before_trimmed b [] = if is_blank b then [] else b ∷ []
before_trimmed b (c ∷ cs) = b ∷ c ∷ cs

-- the text without the blanks at its end
abbrev pub trimmed_end : List ℕ → List ℕ
trimmed_end [] = []
trimmed_end (b ∷ bs) = before_trimmed b (trimmed_end bs)

-- the text without the blanks at both ends
abbrev pub trimmed : List ℕ → List ℕ
trimmed text = trimmed_end (behind is_blank text)

-- the text without a CR at its end
abbrev pub without_return : List ℕ → List ℕ
without_return [] = []
without_return (b ∷ []) = if b == 13 then [] else b ∷ []
without_return (b ∷ c ∷ cs) = b ∷ without_return (c ∷ cs)
