-- The dictionaries of a configuration's boards are short: nothing in a pin's name is escaped.
use Rattle.std.proofs.Common.{◌≡◌, ℕ, ◌<◌, ◌≤◌, ◌++◌, ◌&&◌, nat_lt, nat_le, true, false, List, [], ◌∷◌, length, Ok, refl, sym, ap, ◌∙◌, inl, inr, arith, length-append, rules}
use Rattle.std.specs.List.{list_all}
use Rattle.std.proofs.lemmas.Bool.{agree_below_at, and_parts, cases_lt, false≢true, leb-true}
use Rattle.json.specs.Print.{escape, escape_byte, quoted}
use Rattle.json.proofs.Printed.Strings.{escape_byte_plain}
use Rattle.laws_board.proofs.Names.{Machine, board_at}
use Rattle.board_sim.specs.Board.{new_controller}
use Rattle.cfg_lines.specs.Values.{is_pin_byte, is_pin_name}
use Rattle.cfg_text.specs.Reading.{machine_of_text}
use Rattle.laws_board.specs.causes.Short.{HaveShortDictionaries}
use Rattle.laws_board.proofs.causes.ConfiguredBoards.{AreShortNames, boards_small}
use Rattle.laws_board.proofs.causes.DictionaryText.{AreShort, short_text}

-- a pin's byte stands for itself
none_below : (b : ℕ) → is_pin_byte b ≡ true → b < 45 → ⊥
none_below b e below = false≢true (sym (agree_below_at is_pin_byte (λ _. false) 45 b refl below) ∙ e)

no_backslash : (b : ℕ) → is_pin_byte b ≡ true → b ≡ 92 → ⊥
no_backslash b e same = false≢true (sym (ap is_pin_byte same) ∙ e)

byte_kept : (b : ℕ) → is_pin_byte b ≡ true → escape_byte b ≡ b ∷ []
byte_kept b e = search (rules, cases_lt, none_below, escape_byte_plain, no_backslash)

name_kept : (name : List ℕ) → list_all is_pin_byte name ≡ true → escape name ≡ name
name_kept [] e = refl
name_kept (b ∷ name) e =
    let parts = and_parts (is_pin_byte b) (list_all is_pin_byte name) e in
    ap (λ (l : List ℕ). l ++ escape name) (byte_kept b parts.0) ∙ ap (λ (l : List ℕ). b ∷ l) (name_kept name parts.1)

name_short : (name : List ℕ) → is_pin_name name ≡ true → length (quoted name) ≤ 18
name_short name e = search (rules, and_parts, nat_lt, nat_le, list_all, leb-true, name_kept, length-append)

names_short : (names : List (List ℕ)) → AreShortNames names → AreShort names
names_short [] h = tt
names_short (name ∷ names) h = (name_short name h.0, names_short names h.1)

pub short_dictionaries : (text : List ℕ) (m : Machine) → machine_of_text text ≡ Ok m → HaveShortDictionaries m
unfolding new_controller
short_dictionaries text m e b below =
    let small = boards_small text m e b below in
    short_text (board_at m b) small.freq small.few (names_short (board_at m b).pins small.short)
