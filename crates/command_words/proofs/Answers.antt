-- From the subcommand and its operands to what the words ask for.
use Rattle.std.proofs.Common.{◌≡◌, ◌∙◌, ◌&&◌, ◌||◌, ◌⊎◌, subst, ◌==◌, ◌<◌, ◌^◌, arith, inl, inr, length, ℕ, Bool, true, false, refl, sym, ap, List, [], ◌∷◌, Option, Some, None, codes, map, true≢false, cond}
use Rattle.command_words.proofs.Top.{Outcome, both, is_simple_program, outcome_of}
use Rattle.std.specs.Str.{bytes_eq}
use Rattle.std.specs.List.{list_all}
use Rattle.std.specs.Prelude.{option_and_then, option_map, Box, IsSome, nat_le}
use Rattle.std.specs.Box.{box_value}
use Rattle.std.specs.Char.{digit_value}
use Rattle.std.specs.Str.Parse.{AllDigits, IsNumeral, digits_value, without_leading_plus}
use Rattle.std.proofs.lemmas.Bool.Decides.{nat_tests}
use Rattle.text_core.specs.Bytes.{is_digit, Text}
use Rattle.clap.specs.Words.{App, HasMatchesOf, IsAmong, Kinds, Row, first_of, is_simple, is_simple_and_free, subcommand_rows_of, fault_of, subcommand_of, subcommand_rows}
use Rattle.clap.specs.Walk.{is_empty}
use Rattle.clap.specs.declared.error.kind.ErrorKind.{ErrorKind}
use Rattle.clap.specs.declared.error.kind.ErrorKind.TheVariants.{OutOfMemory}
use Rattle.clap.specs.declared.parser.matches.ArgMatches.{ArgMatches}
use Rattle.clap.specs.declared.parser.matches.ArgMatches.TheViews.{out-SubCommand}
use Rattle.clap.specs.declared.parser.matches.SubCommand.{SubCommand}
use Rattle.command_words.specs.Commands.{program}
use Rattle.std.proofs.lemmas.Slice.Eq.{bytes_eq-Decides}
use Rattle.command_words.specs.Forms.{Asked, asked, form_of, form_of_two, form_of_three, is_name, is_numeral, bounded_number}
use Rattle.command_words.specs.Calls.{Call, call_of, call_in, called_form, takes_two, takes_three}
use Rattle.std.proofs.lemmas.Bool.{or_parts}

-- equality of texts has no order
pub turned : (a b : Text) → bytes_eq a b ≡ bytes_eq b a
turned a b = go (bytes_eq a b) (bytes_eq b a) refl refl
  where
    go : (x y : Bool) → bytes_eq a b ≡ x → bytes_eq b a ≡ y → x ≡ y
    go true true e f = refl
    go false false e f = refl
    go true false e f = sym ((bytes_eq-Decides b a).1 (sym ((bytes_eq-Decides a b).0 e))) ∙ f
    go false true e f = sym e ∙ (bytes_eq-Decides a b).1 (sym ((bytes_eq-Decides b a).0 f))

of_two_call : (w a b : Text) (t : Bool) → takes_two w ≡ t → form_of_two w a b ≡ option_and_then called_form (cond t (Some (w, Some a ∷ Some b ∷ None ∷ [])) None)
of_two_call w a b true e = refl
of_two_call w a b false e =
    let parts = or_parts (bytes_eq (codes "run") w) (bytes_eq (codes "make") w || bytes_eq (codes "fan") w) e in
    let more = or_parts (bytes_eq (codes "make") w) (bytes_eq (codes "fan") w) parts.1 in
    rw (turned w (codes "run"), turned w (codes "make"), turned w (codes "fan"), parts.0, more.0, more.1) refl

of_three_call : (w a b c : Text) (t : Bool) → takes_three w ≡ t → form_of_three w a b c ≡ option_and_then called_form (cond t (Some (w, Some a ∷ Some b ∷ Some c ∷ [])) None)
of_three_call w a b c true e = refl
of_three_call w a b c false e =
    let parts = or_parts (bytes_eq (codes "run") w) (bytes_eq (codes "check") w || (bytes_eq (codes "dump") w || (bytes_eq (codes "replay") w || bytes_eq (codes "mesh") w))) e in
    let others = or_parts (bytes_eq (codes "check") w) (bytes_eq (codes "dump") w || (bytes_eq (codes "replay") w || bytes_eq (codes "mesh") w)) parts.1 in
    let more = or_parts (bytes_eq (codes "dump") w) (bytes_eq (codes "replay") w || bytes_eq (codes "mesh") w) others.1 in
    let last = or_parts (bytes_eq (codes "replay") w) (bytes_eq (codes "mesh") w) more.1 in
    rw (turned w (codes "run"), turned w (codes "check"), turned w (codes "dump"), turned w (codes "replay"), turned w (codes "mesh"), parts.0, others.0, more.0, last.0, last.1) refl

-- a test of each text in a list of values
pub all_map : {A : Type 0} (p : Text → Bool) (f : A → Text) (xs : List A) → list_all p (map f xs) ≡ list_all (λ x. p (f x)) xs
all_map p f [] = refl
all_map p f (x ∷ xs) = ap (λ b. p (f x) && b) (all_map p f xs)

pub forms : (ws : List Text) → form_of ws ≡ option_and_then called_form (call_of ws)
forms [] = refl
forms (w ∷ []) = refl
forms (w ∷ a ∷ []) = refl
forms (w ∷ a ∷ b ∷ []) = of_two_call w a b (takes_two w) refl
forms (w ∷ a ∷ b ∷ c ∷ []) = of_three_call w a b c (takes_three w) refl
forms (w ∷ a ∷ b ∷ c ∷ d ∷ rest) = refl

-- what a parse that passed found is the call
pub found_call : (ws : List Text) → Outcome ws → fault_of program ws ≡ [] → call_in (subcommand_of program ws) ≡ call_of ws
found_call ws (inl p) none = rw (p.3, p.4) refl
found_call ws (inr p) none = absurd (true≢false (ap is_empty (sym none) ∙ p.0))

pub no_call : (ws : List Text) → Outcome ws → is_empty (fault_of program ws) ≡ false → call_of ws ≡ None
no_call ws (inl p) some = absurd (true≢false (ap is_empty (sym p.2) ∙ some))
no_call ws (inr p) some = p.1

abbrev call_with : Text → Option Text → Option Text → Option Text → Call
call_with name first second third = (name, first ∷ second ∷ third ∷ [])

abbrev rows_in : Option (Text × List Row) → Option (List Row)
rows_in = option_map (λ p. p.1)

abbrev name_in : Option (Text × List Row) → Option Text
name_in = option_map (λ p. p.0)

-- the name and the operands of a parse's subcommand
pub called_is : (found : Option (Text × List Row)) (name : Text) (rows : List Row) (first second third : Option Text) → Some name ≡ name_in found
    → Some rows ≡ rows_in found → first ≡ first_of (codes "first") rows → second ≡ first_of (codes "second") rows → third ≡ first_of (codes "third") rows
    → Some (call_with name first second third) ≡ call_in found
called_is None name rows first second third n r f g h = cc
called_is (Some p) name rows first second third n r f g h =
    let is_name : name ≡ p.0 = cc in
    let is_rows : rows ≡ p.1 = cc in
    rw (f, g, h, is_name, is_rows) refl

pub name_is : {Z : Type 0} (o : Option (Box SubCommand Z)) → option_map (λ (b : Box SubCommand Z). (out-SubCommand (box_value b)).name.now) o ≡ name_in (subcommand_rows o)
name_is None = refl
name_is (Some b) = refl

digit_is : (b : ℕ) → is_digit b ≡ true → digit_value b < 10
digit_is b e = grind (arith, nat_tests)

digits_are : (ds : List ℕ) → list_all is_digit ds ≡ true → AllDigits 10 ds
digits_are [] e = tt
digits_are (d ∷ ds) e = let p = both (is_digit d) (list_all is_digit ds) e in (digit_is d p.0, digits_are ds p.1)

no_plus : (text : List ℕ) → list_all is_digit text ≡ true → without_leading_plus text ≡ text
no_plus [] e = refl
no_plus (d ∷ ds) e = let p = both (is_digit d) (list_all is_digit ds) e in
    let other : (d == 43) ≡ false = grind (arith, nat_tests) in
    rw other refl

pub too_large : (text : List ℕ) (limit : ℕ) → 0 < length text → list_all is_digit text ≡ true → limit < 2 ^ 64
    → ((IsNumeral 10 (without_leading_plus text) × (digits_value 10 (without_leading_plus text) < 2 ^ 64)) → ⊥) → nat_le (digits_value 10 text) limit ≡ false
too_large text limit some digits small not_one =
    let no_number : (digits_value 10 text < 2 ^ 64) → ⊥ = λ h. not_one (rw (no_plus text digits) ((some, digits_are text digits), h)) in
    grind (arith, nat_tests)

pub none_of : (most limit : ℕ) (text : List ℕ) → nat_le (digits_value 10 text) limit ≡ false → None ≡ bounded_number most limit text
none_of most limit text e = go (is_numeral most text)
  where
    go : (b : Bool) → None ≡ cond (b && nat_le (digits_value 10 text) limit) (Some (digits_value 10 text)) None
    go true = rw e refl
    go false = refl

module _ (a : App) (ws : List Text) (is : a ≡ program) (ok : list_all is_name ws ≡ true) where
  fault_is : fault_of a ws ≡ fault_of program ws
  fault_is = ap (λ (x : App). fault_of x ws) is

  free : is_simple_and_free a ≡ true
  free = ap is_simple_and_free is ∙ is_simple_program

  pub ok_call : (m : ArgMatches) → (is_simple_and_free a ≡ true → fault_of a ws ≡ []) → HasMatchesOf a ws m → call_in (subcommand_rows_of m) ≡ call_of ws
  ok_call m none found =
      let simple : is_simple a ≡ true = ap is_simple is in
      ap call_in ((found simple).1 ∙ ap (λ (x : App). subcommand_of x ws) is) ∙ found_call ws (outcome_of ws ok) (sym fault_is ∙ none free)

  pub some_call : (is_simple_and_free a ≡ true → fault_of a ws ≡ []) → IsSome (call_of ws)
  some_call none = elim (outcome_of ws ok) [
    | inl p ↦ let P : Option Call → Type 0 = λ o. IsSome o in subst P (sym p.4) refl
    | inr p ↦ absurd (true≢false (ap is_empty (sym (sym fault_is ∙ none free)) ∙ p.0))
  ]

  pub err_call : (k : ErrorKind) → (is_simple_and_free a ≡ true → (k ≡ OutOfMemory) ⊎ IsAmong k (fault_of a ws)) → (k ≡ OutOfMemory → ⊥) → call_of ws ≡ None
  err_call k fails other = elim (outcome_of ws ok) [
    | inl p ↦ elim (fails free) [
      | inl m ↦ absurd (other m)
      | inr among ↦ let P : Kinds → Type 0 = λ kinds. IsAmong k kinds in absurd (subst P (fault_is ∙ p.2) among)
    ]
    | inr p ↦ p.1
  ]

-- what the words ask for
pub asked_is : (ws : List Text) (call : Call) (answer : Option Asked) → list_all is_name ws ≡ true → call_of ws ≡ Some call → answer ≡ called_form call → asked ws ≡ answer
asked_is ws call answer ok is form = rw (ok, forms ws, is, form) refl

pub none_asked : (ws : List Text) → list_all is_name ws ≡ false → asked ws ≡ None
none_asked ws e = rw e refl

pub nothing_asked : (ws : List Text) → list_all is_name ws ≡ true → call_of ws ≡ None → asked ws ≡ None
nothing_asked ws ok none = rw (ok, forms ws, none) refl
