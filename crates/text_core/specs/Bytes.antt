-- Kinds of bytes, and what stands before and behind them in a text.
use Rattle.std.specs.Prelude.{ℕ, ◌+◌, ◌-◌, Bool, true, false, List, [], ◌∷◌, ◌&&◌, ◌||◌, ◌==◌, nat_le, if◌then◌else◌, map}
use Rattle.std.specs.Str.{bytes_eq}

-- a space or a tab
abbrev pub is_blank : ℕ → Bool
is_blank b = (b == 32) || (b == 9)

-- a digit 0 to 9
abbrev pub is_digit : ℕ → Bool
is_digit b = nat_le 48 b && nat_le b 57

-- a small letter of ASCII as its capital; every other byte as it is
abbrev pub capital : ℕ → ℕ
capital b = if nat_le 97 b && nat_le b 122 then b - 32 else b

-- a capital of ASCII as its small letter; every other byte as it is
abbrev pub small : ℕ → ℕ
small b = if nat_le 65 b && nat_le b 90 then b + 32 else b

-- a letter of ASCII
abbrev pub is_letter : ℕ → Bool
is_letter b = nat_le 65 (capital b) && nat_le (capital b) 90

-- a plus or a minus
abbrev pub is_sign : ℕ → Bool
is_sign b = (b == 43) || (b == 45)

-- a point
abbrev pub is_point : ℕ → Bool
is_point b = b == 46

-- the bytes at the front that pass the test
abbrev pub front : (ℕ → Bool) → List ℕ → List ℕ
front test [] = []
front test (b ∷ bs) = if test b then b ∷ front test bs else []

-- what stands behind the bytes at the front that pass the test
abbrev pub behind : (ℕ → Bool) → List ℕ → List ℕ
behind test [] = []
behind test (b ∷ bs) = if test b then behind test bs else b ∷ bs

-- what stands before the first of these bytes; the whole text where there is none
abbrev pub before : ℕ → List ℕ → List ℕ
before end [] = []
before end (b ∷ bs) = if b == end then [] else b ∷ before end bs

-- the text is not empty, and its first byte passes the test
abbrev pub begins : (ℕ → Bool) → List ℕ → Bool
begins test [] = false
begins test (b ∷ bs) = test b

-- the text is empty, or its first byte passes the test
abbrev pub ends_or_begins : (ℕ → Bool) → List ℕ → Bool
ends_or_begins test [] = true
ends_or_begins test (b ∷ bs) = test b

-- the text without its first byte, where that passes the test
abbrev pub without : (ℕ → Bool) → List ℕ → List ℕ
without test [] = []
without test (b ∷ bs) = if test b then bs else b ∷ bs

-- the two texts are one where capitals count as small letters
abbrev pub same_small : List ℕ → List ℕ → Bool
same_small text name = bytes_eq (map small text) (map small name)

-- a text or a word, as its bytes
abbrev pub Text : Type 0
Text = List ℕ
