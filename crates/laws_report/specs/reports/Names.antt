-- The names of a machine, as a report can show them among its other words.
use Rattle.std.specs.Prelude.{◌≡◌, ◌≢◌, ◌&&◌, ◌||◌, ◌==◌, ℕ, Bool, true, false, List, All, AllPairs, length, nat_lt, if◌then◌else◌}
use Rattle.std.specs.List.{list_all}
use Rattle.plan_types.specs.declared.machine.Machine.{Machine}

-- a byte that may stand in a word: no blank, no end of a line, and no `#`
abbrev pub is_plain : ℕ → Bool
is_plain b = if (b == 32) || (b == 9) || (b == 10) || (b == 13) || (b == 35) then false else true

-- a word: one or more such bytes
abbrev pub is_word : List ℕ → Bool
is_word text = nat_lt 0 (length text) && list_all is_plain text

-- A machine whose boards, pins and steppers have words for names, no two boards the same, and no two steppers.
pub record HasNames (m : Machine) : Type 0 where
  pub boards : All (λ b. is_word b.name ≡ true) m.boards
  pub pins : All (λ b. All (λ p. is_word p ≡ true) b.pins) m.boards
  pub steppers : All (λ s. is_word s.name ≡ true) m.steppers
  pub boards_differ : AllPairs (λ b c. b.name ≢ c.name) m.boards
  pub steppers_differ : AllPairs (λ s t. s.name ≢ t.name) m.steppers
