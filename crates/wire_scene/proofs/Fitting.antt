-- What a line says is of the machine.
use Rattle.std.proofs.Common.{◌≡◌, ℕ, ◌+◌, ◌<◌, ◌≤◌, ◌^◌, Bool, true, false, cond, List, [], ◌∷◌, length, nat_le, ◌&&◌, Option, Some, None, refl, arith, codes}
use Rattle.std.specs.Prelude.{⊤}
use Rattle.std.proofs.lemmas.Bool.Decides.{nat_tests}
use Rattle.std.specs.Str.{bytes_eq}
use Rattle.text_core.specs.Words.{words_of}
use Rattle.plan_types.specs.declared.machine.Machine.{Machine}
use Rattle.plan_types.specs.declared.machine.BoardDef.{BoardDef}
use Rattle.text_core.specs.Bytes.{before}
use Rattle.text_core.specs.Trims.{without_return}
use Rattle.text_core.specs.Numbers.{is_natural, value_of}
use Rattle.wire_scene.specs.declared.scene.Way.{Way}
use Rattle.wire_scene.specs.declared.scene.Way.TheVariants.{Down, Up}
use Rattle.wire_scene.specs.declared.scene.Deed.{Deed}
use Rattle.wire_scene.specs.declared.scene.Deed.TheVariants.{Drop, Repeat, Garble}
use Rattle.wire_scene.specs.declared.line.Item.{Item}
use Rattle.wire_scene.specs.declared.line.Item.TheVariants.{OnLine, AtPin, Wrong}
use Rattle.plan_types.specs.declared.cause.SceneKind.TheVariants.{BadLine}
use Rattle.wire_scene.specs.Words.{number_in}
use Rattle.wire_scene.specs.Entries.{board_from, pin_from, pins_on, delayed, garbled, deed_in, on_line, entry_item, line_item, connect_item, level_in, moment, moment_of, at_pin, at_board, pin_item, switch_item, meant_by}
use Rattle.wire_scene.specs.Valid.{IsValidDeed, IsValidEntry, IsValidSwitch}
use Rattle.wire_scene.specs.Reading.{items}

either : {A : Type 0} (P : A → Type 0) (b : Bool) (x y : A) → P x → P y → P (cond b x y)
either P true x y p q = p
either P false x y p q = q

-- an option holds nothing, or what passes the test
abbrev Each : {A : Type 0} → (A → Type 0) → Option A → Type 0
Each P None = ⊤
Each P (Some x) = P x

weaker : {A : Type 0} (P Q : A → Type 0) (o : Option A) → ((x : A) → P x → Q x) → Each P o → Each Q o
weaker P Q None f p = tt
weaker P Q (Some x) f p = f x p

where_true : {A : Type 0} (P : A → Type 0) (b : Bool) (x : A) → (b ≡ true → P x) → Each P (cond b (Some x) None)
where_true P true x f = f refl
where_true P false x f = tt

board_below : (k : ℕ) (boards : List BoardDef) (name : List ℕ) → Each (λ n. n < k + length boards) (board_from k boards name)
board_below k [] name = tt
board_below k (b ∷ boards) name = either (Each (λ n. n < k + length (b ∷ boards))) (bytes_eq b.name name) (Some k) (board_from (k + 1) boards name) (omega arith)
    (weaker (λ n. n < k + 1 + length boards) (λ n. n < k + length (b ∷ boards)) (board_from (k + 1) boards name) (λ n less. omega (arith, less)) (board_below (k + 1) boards name))

pin_below : (k : ℕ) (pins : List (List ℕ)) (name : List ℕ) → Each (λ n. n < k + length pins) (pin_from k pins name)
pin_below k [] name = tt
pin_below k (p ∷ pins) name = either (Each (λ n. n < k + length (p ∷ pins))) (bytes_eq p name) (Some k) (pin_from (k + 1) pins name) (omega arith)
    (weaker (λ n. n < k + 1 + length pins) (λ n. n < k + length (p ∷ pins)) (pin_from (k + 1) pins name) (λ n less. omega (arith, less)) (pin_below (k + 1) pins name))

board_there : (boards : List BoardDef) (name : List ℕ) → Each (λ n. n < length boards) (board_from 0 boards name)
board_there boards name = weaker (λ n. n < 0 + length boards) (λ n. n < length boards) (board_from 0 boards name) (λ n less. omega (arith, less)) (board_below 0 boards name)

pin_there : (pins : List (List ℕ)) (name : List ℕ) → Each (λ n. n < length pins) (pin_from 0 pins name)
pin_there pins name = weaker (λ n. n < 0 + length pins) (λ n. n < length pins) (pin_from 0 pins name) (λ n less. omega (arith, less)) (pin_below 0 pins name)

abbrev IsWithin : ℕ → ℕ → ℕ → Type 0
IsWithin low high n = (low ≤ n) × (n ≤ high)

within : (a : Bool) (low high n : ℕ) → (a && nat_le low n && nat_le n high) ≡ true → IsWithin low high n
within a low high n h = (grind (arith, nat_tests), grind (arith, nat_tests))

number_within : (low high : ℕ) (word : List ℕ) → Each (IsWithin low high) (number_in low high word)
number_within low high word = where_true (IsWithin low high) (is_natural word && nat_le low (value_of word) && nat_le (value_of word) high) (value_of word) (within (is_natural word) low high (value_of word))

-- what happens to a block
delayed_valid : (turns : Option ℕ) → Each (IsWithin 1 100_000) turns → Each IsValidDeed (delayed turns)
delayed_valid None fit = tt
delayed_valid (Some n) fit = fit

garbled_valid : (at xor : Option ℕ) → Each (IsWithin 1 255) xor → Each IsValidDeed (garbled at xor)
garbled_valid None xor fit = tt
garbled_valid (Some a) None fit = tt
garbled_valid (Some a) (Some x) fit = fit

deed_valid : (words : List (List ℕ)) → Each IsValidDeed (deed_in words)
deed_valid [] = tt
deed_valid (w ∷ []) = either (Each IsValidDeed) (bytes_eq w (codes "drop")) (Some Drop) (cond (bytes_eq w (codes "repeat")) (Some Repeat) None) tt (where_true IsValidDeed (bytes_eq w (codes "repeat")) Repeat (λ e. tt))
deed_valid (w ∷ t ∷ []) = either (Each IsValidDeed) (bytes_eq w (codes "delay")) (delayed (number_in 1 100_000 t)) None (delayed_valid (number_in 1 100_000 t) (number_within 1 100_000 t)) tt
deed_valid (w ∷ a ∷ x ∷ []) =
    either (Each IsValidDeed) (bytes_eq w (codes "garble")) (garbled (number_in 0 18_446_744_073_709_551_615 a) (number_in 1 255 x)) None
    (garbled_valid (number_in 0 18_446_744_073_709_551_615 a) (number_in 1 255 x) (number_within 1 255 x)) tt
deed_valid (w ∷ a ∷ x ∷ u ∷ us) = tt

-- an entry that a line says is one of the machine
abbrev pub IsFit : Machine → Item → Type 0
IsFit m (OnLine e) = IsValidEntry m e
IsFit m (AtPin s) = IsValidSwitch m s
IsFit m item = ⊤

on_line_fit : (m : Machine) (board : Option ℕ) (way : Way) (connecting : Bool) (number : ℕ) (deed : Deed) → Each (λ n. n < length m.boards) board → IsValidDeed deed → IsFit m (on_line board way connecting number deed)
on_line_fit m None way connecting number deed below valid = tt
on_line_fit m (Some b) way connecting number deed below valid = record { board = below; deed = valid }

entry_fit : (m : Machine) (way : Way) (connecting : Bool) (board : List ℕ) (number : Option ℕ) (deed : Option Deed) → Each IsValidDeed deed → IsFit m (entry_item m.boards way connecting board number deed)
entry_fit m way connecting board None deed valid = tt
entry_fit m way connecting board (Some n) None valid = tt
entry_fit m way connecting board (Some n) (Some d) valid = on_line_fit m (board_from 0 m.boards board) way connecting n d (board_there m.boards board) valid

line_fit : (m : Machine) (way : Way) (connecting : Bool) (words : List (List ℕ)) → IsFit m (line_item m.boards way connecting words)
line_fit m way connecting [] = tt
line_fit m way connecting (board ∷ []) = tt
line_fit m way connecting (board ∷ number ∷ deed) = entry_fit m way connecting board (number_in 0 18_446_744_073_709_551_615 number) (deed_in deed) (deed_valid deed)

-- a tick and a level
abbrev HasTick : ℕ × Bool → Type 0
HasTick moment = moment.0 < 2 ^ 63

moment_fit : (tick : Option ℕ) (level : Option Bool) → Each (IsWithin 0 9_223_372_036_854_775_807) tick → Each HasTick (moment tick level)
moment_fit None level fit = tt
moment_fit (Some t) None fit = tt
moment_fit (Some t) (Some l) fit = let up : t ≤ 9_223_372_036_854_775_807 = fit.1 in omega (arith, up)

moments_fit : (words : List (List ℕ)) → Each HasTick (moment_of words)
moments_fit [] = tt
moments_fit (t ∷ []) = tt
moments_fit (t ∷ l ∷ []) = moment_fit (number_in 0 9_223_372_036_854_775_807 t) (level_in l) (number_within 0 9_223_372_036_854_775_807 t)
moments_fit (t ∷ l ∷ u ∷ us) = tt

pin_fit : (m : Machine) (line board : ℕ) (pin : Option ℕ) (at : ℕ × Bool) → 1 ≤ line → board < length m.boards → Each (λ n. n < length (pins_on m.boards board)) pin → HasTick at → IsFit m (at_pin line board pin at)
pin_fit m line board None at first below there tick = tt
pin_fit m line board (Some p) at first below there tick = record { board = below; pin = there; tick = tick; line = first }

board_fit : (m : Machine) (line : ℕ) (board : Option ℕ) (pin : List ℕ) (at : ℕ × Bool) → 1 ≤ line → Each (λ n. n < length m.boards) board → HasTick at → IsFit m (at_board m.boards line board pin at)
board_fit m line None pin at first below tick = tt
board_fit m line (Some b) pin at first below tick = pin_fit m line b (pin_from 0 (pins_on m.boards b) pin) at first below (pin_there (pins_on m.boards b) pin) tick

named_fit : (m : Machine) (line : ℕ) (board pin : List ℕ) (at : Option (ℕ × Bool)) → 1 ≤ line → Each HasTick at → IsFit m (pin_item m.boards line board pin at)
named_fit m line board pin None first tick = tt
named_fit m line board pin (Some at) first tick = board_fit m line (board_from 0 m.boards board) pin at first (board_there m.boards board) tick

switch_fit : (m : Machine) (line : ℕ) (words : List (List ℕ)) → 1 ≤ line → IsFit m (switch_item m.boards line words)
switch_fit m line [] first = tt
switch_fit m line (board ∷ []) first = tt
switch_fit m line (board ∷ pin ∷ words) first = named_fit m line board pin (moment_of words) first (moments_fit words)

connect_fit : (m : Machine) (words : List (List ℕ)) → IsFit m (connect_item m.boards words)
connect_fit m [] = tt
connect_fit m (w ∷ ws) =
    let at_up : Item = cond (bytes_eq w (codes "up")) (line_item m.boards Up true ws) (Wrong BadLine) in
    either (IsFit m) (bytes_eq w (codes "down")) (line_item m.boards Down true ws) at_up (line_fit m Down true ws)
    (either (IsFit m) (bytes_eq w (codes "up")) (line_item m.boards Up true ws) (Wrong BadLine) (line_fit m Up true ws) tt)

words_fit : (m : Machine) (line : ℕ) (words : List (List ℕ)) → 1 ≤ line → IsFit m (meant_by m.boards line words)
words_fit m line [] first = tt
words_fit m line (w ∷ ws) first = let at_switch : Item = cond (bytes_eq w (codes "switch")) (switch_item m.boards line ws) (Wrong BadLine) in
    let at_connect : Item = cond (bytes_eq w (codes "connect")) (connect_item m.boards ws) at_switch in
    let at_up : Item = cond (bytes_eq w (codes "up")) (line_item m.boards Up false ws) at_connect in
    either (IsFit m) (bytes_eq w (codes "down")) (line_item m.boards Down false ws) at_up (line_fit m Down false ws)
    (either (IsFit m) (bytes_eq w (codes "up")) (line_item m.boards Up false ws) at_connect (line_fit m Up false ws)
    (either (IsFit m) (bytes_eq w (codes "connect")) (connect_item m.boards ws) at_switch (connect_fit m ws)
    (either (IsFit m) (bytes_eq w (codes "switch")) (switch_item m.boards line ws) (Wrong BadLine) (switch_fit m line ws first) tt)))

abbrev pub AreFit : Machine → List Item → Type 0
AreFit m [] = ⊤
AreFit m (item ∷ items) = IsFit m item × AreFit m items

pub items_fit : (m : Machine) (number : ℕ) (lines : List (List ℕ)) → 1 ≤ number → AreFit m (items m.boards number lines)
items_fit m number [] first = tt
items_fit m number (line ∷ lines) first = (words_fit m number (words_of (before 35 (without_return line))) first, items_fit m (number + 1) lines (omega (arith, first)))
