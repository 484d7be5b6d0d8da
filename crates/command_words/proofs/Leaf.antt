-- A subcommand's operands: words that are no flags go to them in order.
use Rattle.std.proofs.Common.{◌≡◌, ◌==◌, ℕ, Bool, true, false, not, refl, sym, List, [], ◌∷◌, Some, None, codes, true≢false}
use Rattle.std.specs.Prelude.{find, slice_index_or}
use Rattle.clap.specs.Walk.{Held, Names, Row, Rule, Text, Walk, answers_to, arg_by_index, idle, is_empty, nothing_held, rows_after, to_positional, value, walked, word_met}
use Rattle.clap.specs.Simple.{Shape, built, with_subcommand}
use Rattle.clap.specs.Faults.{level_fault, step_fault, turn_fault, walk_fault, word_fault, defaults_fault}
use Rattle.command_words.specs.Forms.{is_name}
use Rattle.command_words.specs.Commands.{bare, of_two, of_three, of_all_three}
use Rattle.clap.specs.declared.parser.matches.ValueSource.TheVariants.{CommandLine}
use Rattle.clap.specs.declared.builder.value_parser.Reading.TheVariants as reading

no_dash : (b : Bool) → not b ≡ true → b ≡ false
no_dash true e = absurd (true≢false (sym e))
no_dash false e = refl

pub first_is : (x : ℕ) (xs : Text) → is_name (x ∷ xs) ≡ true → (x == 45) ≡ false
first_is x xs e = no_dash (x == 45) e

-- where a walk stands between two words of which none is a flag
abbrev pub standing : Held → ℕ → Walk
standing h position = record { held = h; waiting = idle; position = position; is_trailing = false; stopped = None }

pub value_word : (c : List Rule) (names : Names) (position : ℕ) (word : Text) (h : Held) → is_name word ≡ true → find (answers_to word) names ≡ None
    → word_met c names false idle position word h ≡ (h, value)
value_word c names position [] h ok none = absurd (true≢false (sym ok))
value_word c names position (x ∷ xs) h ok none = rw (none, first_is x xs ok, first_is x xs ok) refl

pub no_fault : (s : Shape) (names : Names) (word : Text) (h : Held) → is_name word ≡ true → find (answers_to word) names ≡ None
    → word_fault s names false idle word h ≡ []
no_fault s names [] h ok none = absurd (true≢false (sym ok))
no_fault s names (x ∷ xs) h ok none = rw (none, first_is x xs ok, first_is x xs ok) refl

pub walked_value : (c : List Rule) (names : Names) (h : Held) (position : ℕ) (word : Text) → is_name word ≡ true → find (answers_to word) names ≡ None
    → walked c names (standing h position) word ≡ to_positional c (arg_by_index c position) word (standing h position) h
unfolding walked
walked_value c names h position word ok none = rw (value_word c names position word h ok none) refl

pub turn_value : (s : Shape) (names : Names) (h : Held) (position : ℕ) (word : Text) → is_name word ≡ true → find (answers_to word) names ≡ None
    → turn_fault s names (standing h position) word ≡ step_fault s position h value
turn_value s names h position word ok none = rw (value_word s.rules names position word h ok none, no_fault s names word h ok none) refl

-- the built form of a subcommand with two operands, and with three
abbrev pub leaf_two : Text → Shape
leaf_two name = slice_index_or (built (with_subcommand bare (of_two name).top)).subs 0 (of_two name).top

abbrev pub leaf_three : Text → Shape
leaf_three name = slice_index_or (built (with_subcommand bare (of_three name).top)).subs 0 (of_three name).top

abbrev pub leaf_all : Text → Shape
leaf_all name = slice_index_or (built (with_subcommand bare (of_all_three name).top)).subs 0 (of_all_three name).top

-- the matches of operands
abbrev pub row : Text → Text → Row
row id word = record { id = id; values = word ∷ []; count = None; source = Some CommandLine; reading = reading.AsWritten }

-- what is held behind each operand
abbrev held_one : Text → Held
held_one a = record { rows = []; pending = Some (codes "first", a ∷ []); skip = 0 }

abbrev held_two : Text → Text → Held
held_two a b = record { rows = row (codes "first") a ∷ []; pending = Some (codes "second", b ∷ []); skip = 0 }

abbrev held_three : Text → Text → Text → Held
held_three a b c = record { rows = row (codes "first") a ∷ row (codes "second") b ∷ []; pending = Some (codes "third", c ∷ []); skip = 0 }

abbrev pub rows_two : Text → Text → List Row
rows_two a b = row (codes "first") a ∷ row (codes "second") b ∷ []

abbrev pub rows_three : Text → Text → Text → List Row
rows_three a b c = row (codes "first") a ∷ row (codes "second") b ∷ row (codes "third") c ∷ []

module _ (n : Text) where
  two-step_one : (a : Text) → is_name a ≡ true → walked (leaf_two n).rules [] (standing nothing_held 1) a ≡ standing (held_one a) 2
  two-step_one a ok = walked_value (leaf_two n).rules [] nothing_held 1 a ok refl

  two-step_two : (a b : Text) → is_name b ≡ true → walked (leaf_two n).rules [] (standing (held_one a) 2) b ≡ standing (held_two a b) 3
  two-step_two a b ok = walked_value (leaf_two n).rules [] (held_one a) 2 b ok refl

  pub two-rows : (a b : Text) → is_name a ≡ true → is_name b ≡ true → rows_after (leaf_two n).rules [] (a ∷ b ∷ []) ≡ rows_two a b
  two-rows a b ok ok_b = rw (two-step_one a ok, two-step_two a b ok_b) refl

  pub two-pass : (a b : Text) → is_name a ≡ true → is_name b ≡ true → level_fault (leaf_two n) [] nothing_held (a ∷ b ∷ []) false [] ≡ []
  unfolding walk_fault defaults_fault
  two-pass a b ok ok_b =
      rw (two-step_one a ok, two-step_two a b ok_b, turn_value (leaf_two n) [] nothing_held 1 a ok refl, turn_value (leaf_two n) [] (held_one a) 2 b ok_b refl) refl

  pub two-none_fails : is_empty (level_fault (leaf_two n) [] nothing_held [] false []) ≡ false
  unfolding walk_fault defaults_fault
  two-none_fails = refl

  pub two-one_fails : (a : Text) → is_name a ≡ true → is_empty (level_fault (leaf_two n) [] nothing_held (a ∷ []) false []) ≡ false
  unfolding walk_fault defaults_fault
  two-one_fails a ok = rw (two-step_one a ok, turn_value (leaf_two n) [] nothing_held 1 a ok refl) refl

  pub two-three_fail : (a b c : Text) (rest : List Text) → is_name a ≡ true → is_name b ≡ true → is_name c ≡ true
      → is_empty (level_fault (leaf_two n) [] nothing_held (a ∷ b ∷ c ∷ rest) false []) ≡ false
  unfolding walk_fault defaults_fault
  two-three_fail a b c rest ok ok_b ok_c =
      rw (two-step_one a ok, two-step_two a b ok_b, turn_value (leaf_two n) [] nothing_held 1 a ok refl, turn_value (leaf_two n) [] (held_one a) 2 b ok_b refl, turn_value (leaf_two n) [] (held_two a b) 3 c ok_c refl) refl

module _ (n : Text) where
  step_one : (a : Text) → is_name a ≡ true → walked (leaf_three n).rules [] (standing nothing_held 1) a ≡ standing (held_one a) 2
  step_one a ok = walked_value (leaf_three n).rules [] nothing_held 1 a ok refl

  step_two : (a b : Text) → is_name b ≡ true → walked (leaf_three n).rules [] (standing (held_one a) 2) b ≡ standing (held_two a b) 3
  step_two a b ok = walked_value (leaf_three n).rules [] (held_one a) 2 b ok refl

  step_three : (a b c : Text) → is_name c ≡ true → walked (leaf_three n).rules [] (standing (held_two a b) 3) c ≡ standing (held_three a b c) 4
  step_three a b c ok = walked_value (leaf_three n).rules [] (held_two a b) 3 c ok refl

  pub rows_of_two : (a b : Text) → is_name a ≡ true → is_name b ≡ true → rows_after (leaf_three n).rules [] (a ∷ b ∷ []) ≡ rows_two a b
  rows_of_two a b ok ok_b = rw (step_one a ok, step_two a b ok_b) refl

  pub rows_of_three : (a b c : Text) → is_name a ≡ true → is_name b ≡ true → is_name c ≡ true → rows_after (leaf_three n).rules [] (a ∷ b ∷ c ∷ []) ≡ rows_three a b c
  rows_of_three a b c ok ok_b ok_c = rw (step_one a ok, step_two a b ok_b, step_three a b c ok_c) refl

pub none_fails : (n : Text) → is_empty (level_fault (leaf_three n) [] nothing_held [] false []) ≡ false
unfolding walk_fault defaults_fault
none_fails n = refl

pub one_fails : (n a : Text) → is_name a ≡ true → is_empty (level_fault (leaf_three n) [] nothing_held (a ∷ []) false []) ≡ false
unfolding walk_fault defaults_fault
one_fails n a ok = rw (step_one n a ok, turn_value (leaf_three n) [] nothing_held 1 a ok refl) refl

pub two_pass : (n a b : Text) → is_name a ≡ true → is_name b ≡ true → level_fault (leaf_three n) [] nothing_held (a ∷ b ∷ []) false [] ≡ []
unfolding walk_fault defaults_fault
two_pass n a b ok ok_b =
    rw (step_one n a ok, step_two n a b ok_b, turn_value (leaf_three n) [] nothing_held 1 a ok refl, turn_value (leaf_three n) [] (held_one a) 2 b ok_b refl) refl

pub three_pass : (n a b c : Text) → is_name a ≡ true → is_name b ≡ true → is_name c ≡ true → level_fault (leaf_three n) [] nothing_held (a ∷ b ∷ c ∷ []) false [] ≡ []
unfolding walk_fault defaults_fault
three_pass n a b c ok ok_b ok_c =
    rw (step_one n a ok, step_two n a b ok_b, step_three n a b c ok_c, turn_value (leaf_three n) [] nothing_held 1 a ok refl, turn_value (leaf_three n) [] (held_one a) 2 b ok_b refl, turn_value (leaf_three n) [] (held_two a b) 3 c ok_c refl) refl

pub four_fail : (n a b c d : Text) (rest : List Text) → is_name a ≡ true → is_name b ≡ true → is_name c ≡ true → is_name d ≡ true
    → is_empty (level_fault (leaf_three n) [] nothing_held (a ∷ b ∷ c ∷ d ∷ rest) false []) ≡ false
unfolding walk_fault defaults_fault
four_fail n a b c d rest ok ok_b ok_c ok_d =
    rw (step_one n a ok, step_two n a b ok_b, step_three n a b c ok_c, turn_value (leaf_three n) [] nothing_held 1 a ok refl, turn_value (leaf_three n) [] (held_one a) 2 b ok_b refl, turn_value (leaf_three n) [] (held_two a b) 3 c ok_c refl, turn_value (leaf_three n) [] (held_three a b c) 4 d ok_d refl) refl

module _ (n : Text) where
  all-step_one : (a : Text) → is_name a ≡ true → walked (leaf_all n).rules [] (standing nothing_held 1) a ≡ standing (held_one a) 2
  all-step_one a ok = walked_value (leaf_all n).rules [] nothing_held 1 a ok refl

  all-step_two : (a b : Text) → is_name b ≡ true → walked (leaf_all n).rules [] (standing (held_one a) 2) b ≡ standing (held_two a b) 3
  all-step_two a b ok = walked_value (leaf_all n).rules [] (held_one a) 2 b ok refl

  all-step_three : (a b c : Text) → is_name c ≡ true → walked (leaf_all n).rules [] (standing (held_two a b) 3) c ≡ standing (held_three a b c) 4
  all-step_three a b c ok = walked_value (leaf_all n).rules [] (held_two a b) 3 c ok refl

  pub all-rows : (a b c : Text) → is_name a ≡ true → is_name b ≡ true → is_name c ≡ true → rows_after (leaf_all n).rules [] (a ∷ b ∷ c ∷ []) ≡ rows_three a b c
  all-rows a b c ok ok_b ok_c = rw (all-step_one a ok, all-step_two a b ok_b, all-step_three a b c ok_c) refl

  pub all-pass : (a b c : Text) → is_name a ≡ true → is_name b ≡ true → is_name c ≡ true → level_fault (leaf_all n) [] nothing_held (a ∷ b ∷ c ∷ []) false [] ≡ []
  unfolding walk_fault defaults_fault
  all-pass a b c ok ok_b ok_c =
      rw (all-step_one a ok, all-step_two a b ok_b, all-step_three a b c ok_c, turn_value (leaf_all n) [] nothing_held 1 a ok refl, turn_value (leaf_all n) [] (held_one a) 2 b ok_b refl, turn_value (leaf_all n) [] (held_two a b) 3 c ok_c refl) refl

  pub all-none_fails : is_empty (level_fault (leaf_all n) [] nothing_held [] false []) ≡ false
  unfolding walk_fault defaults_fault
  all-none_fails = refl

  pub all-one_fails : (a : Text) → is_name a ≡ true → is_empty (level_fault (leaf_all n) [] nothing_held (a ∷ []) false []) ≡ false
  unfolding walk_fault defaults_fault
  all-one_fails a ok = rw (all-step_one a ok, turn_value (leaf_all n) [] nothing_held 1 a ok refl) refl

  pub all-two_fail : (a b : Text) → is_name a ≡ true → is_name b ≡ true → is_empty (level_fault (leaf_all n) [] nothing_held (a ∷ b ∷ []) false []) ≡ false
  unfolding walk_fault defaults_fault
  all-two_fail a b ok ok_b =
      rw (all-step_one a ok, all-step_two a b ok_b, turn_value (leaf_all n) [] nothing_held 1 a ok refl, turn_value (leaf_all n) [] (held_one a) 2 b ok_b refl) refl

  pub all-four_fail : (a b c d : Text) (rest : List Text) → is_name a ≡ true → is_name b ≡ true → is_name c ≡ true → is_name d ≡ true
      → is_empty (level_fault (leaf_all n) [] nothing_held (a ∷ b ∷ c ∷ d ∷ rest) false []) ≡ false
  unfolding walk_fault defaults_fault
  all-four_fail a b c d rest ok ok_b ok_c ok_d =
      rw (all-step_one a ok, all-step_two a b ok_b, all-step_three a b c ok_c, turn_value (leaf_all n) [] nothing_held 1 a ok refl, turn_value (leaf_all n) [] (held_one a) 2 b ok_b refl, turn_value (leaf_all n) [] (held_two a b) 3 c ok_c refl, turn_value (leaf_all n) [] (held_three a b c) 4 d ok_d refl) refl
