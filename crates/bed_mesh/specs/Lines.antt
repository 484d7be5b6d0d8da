-- The lines of a mesh that a move has still to come to.
use Rattle.std.specs.Prelude.{◌≡◌, ℕ, ◌+◌, ◌*◌, ◌<◌, ◌≤◌, ◌^◌, ◌==◌, min, pos, List, [], ◌∷◌, Option, Some, None, if◌then◌else◌}
use Rattle.bed_mesh.specs.declared.cut.Ahead.{Ahead}
use Rattle.bed_mesh.specs.declared.cut.Cuts.{Cuts}
use Rattle.bed_mesh.specs.Cuts.{between, rungs, scaled, united}

-- the numbers of parts at which a move crosses lines of a grid
abbrev pub numbers : Ahead → List ℕ
numbers a = scaled a.parts (between a.span (rungs (pos a.next) a.step a.left))

-- those at which it crosses lines of x or y
abbrev pub cut_numbers : Cuts → List ℕ
cut_numbers c = united (numbers c.x) (numbers c.y)

-- lines ahead of a move's start, apart from one another
pub record AreAhead (a : Ahead) : Type 0 where
  pub ahead : 0 < a.next
  pub apart : 0 < a.step
  pub some_parts : 0 < a.parts
  pub near : a.next + 500_000_000 * a.left ≤ 2 ^ 62
  pub step_small : a.step ≤ 500_000_000
  pub span_small : a.span ≤ 1_500_000_000
  pub parts_few : a.parts ≤ 1_500_000_000

-- lines of x and y ahead of a move's start, whose parts are those of the whole move
pub record AreCuts (c : Cuts) : Type 0 where
  pub x : AreAhead c.x
  pub y : AreAhead c.y
  pub x_inside : c.x.span * c.x.parts ≤ c.whole
  pub y_inside : c.y.span * c.y.parts ≤ c.whole

-- a list's first number
abbrev pub first_number : List ℕ → Option ℕ
first_number [] = None
first_number (n ∷ ns) = Some n

-- a list without its first number, where it is this one
abbrev pub passed : ℕ → List ℕ → List ℕ
passed n [] = []
passed n (u ∷ us) = if u == n then us else u ∷ us

-- the lesser of two numbers, or the one that there is
abbrev pub least : Option ℕ → Option ℕ → Option ℕ
least None y = y
least (Some n) None = Some n
least (Some n) (Some k) = Some (min n k)

-- a list's first number, and what is behind it
abbrev pub IsFirstNumber : Option ℕ → List ℕ → List ℕ → Type 0
IsFirstNumber None numbers rest = numbers ≡ []
IsFirstNumber (Some n) numbers rest = numbers ≡ n ∷ rest
