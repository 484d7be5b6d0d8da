-- The switches of a scene that is read from a text have line numbers of 64 bits.
use Rattle.std.proofs.Common.{◌≡◌, ◌∙◌, ℕ, suc, ◌+◌, ◌^◌, ◌<◌, ◌≤◌, Bool, true, false, List, [], ◌∷◌, ◌++◌, All, length, refl, ap, sym, subst, arith, inl, inr, Option, Some, None, rules}
use Rattle.std.specs.Prelude.{Result, Ok, Err, codes, if◌then◌else◌}
use Rattle.std.specs.Str.{bytes_eq}
use Rattle.laws_board.proofs.Names.{leb_tells, All-cons, All-nil, BoardDef, Machine, Scene, Switch, Down, Up}
use Rattle.text_core.specs.Words.{words_of}
use Rattle.plan_types.specs.declared.cause.SceneKind.TheVariants.{TooLarge}
use Rattle.text_core.specs.Bytes.{before}
use Rattle.text_core.specs.Lines.{lines_of}
use Rattle.text_core.specs.Trims.{without_return}
use Rattle.wire_scene.specs.declared.fault.SceneFault.{SceneFault}
use Rattle.wire_scene.specs.declared.fault.SceneFault.TheVariants.{At}
use Rattle.wire_scene.specs.declared.line.Item.{Item}
use Rattle.wire_scene.specs.declared.line.Item.TheVariants.{Nothing, OnLine, AtPin, Wrong}
use Rattle.wire_scene.specs.declared.scene.Deed.{Deed}
use Rattle.wire_scene.specs.declared.scene.Way.{Way}
use Rattle.wire_scene.specs.Entries.{at_board, at_pin, board_from, connect_item, deed_in, entry_item, line_item, meant, meant_by, moment_of, on_line, pin_from, pin_item, pins_on, switch_item}
use Rattle.wire_scene.specs.Reading.{first_fault, items, scene_of_text, scene_of, switch_of, switches_among, scene_unless}
use Rattle.wire_scene.specs.Words.{number_in}
use Rattle.laws_report.specs.reports.Read.{IsSceneFor}
use Rattle.laws_run.proofs.run_limits.Few.{lines_few}

-- what a line says of a pin has the number of the line
abbrev IsAt : ℕ → Item → Type 0
IsAt n (AtPin s) = s.line ≡ n
IsAt n _ = Unit {0}

either_at : (n : ℕ) (b : Bool) (x y : Item) → IsAt n x → IsAt n y → IsAt n (if b then x else y)
either_at n true x y h g = h
either_at n false x y h g = g

pin_at : (n board : ℕ) (pin : Option ℕ) (moment : ℕ × Bool) → IsAt n (at_pin n board pin moment)
pin_at n board None moment = tt
pin_at n board (Some pin) moment = refl

on_board_at : (boards : List BoardDef) (n : ℕ) (board : Option ℕ) (pin : List ℕ) (moment : ℕ × Bool) → IsAt n (at_board boards n board pin moment)
on_board_at boards n None pin moment = tt
on_board_at boards n (Some board) pin moment = pin_at n board (pin_from 0 (pins_on boards board) pin) moment

moment_at : (boards : List BoardDef) (n : ℕ) (board pin : List ℕ) (moment : Option (ℕ × Bool)) → IsAt n (pin_item boards n board pin moment)
moment_at boards n board pin None = tt
moment_at boards n board pin (Some moment) = on_board_at boards n (board_from 0 boards board) pin moment

switch_at : (boards : List BoardDef) (n : ℕ) (words : List (List ℕ)) → IsAt n (switch_item boards n words)
switch_at boards n words = search (rules, moment_at)

-- an entry of a line is none of a pin
deed_at : (n : ℕ) (board : Option ℕ) (way : Way) (connecting : Bool) (number : ℕ) (deed : Deed) → IsAt n (on_line board way connecting number deed)
deed_at n None way connecting number deed = tt
deed_at n (Some board) way connecting number deed = tt

entry_at : (boards : List BoardDef) (n : ℕ) (way : Way) (connecting : Bool) (board : List ℕ) (number : Option ℕ) (deed : Option Deed) → IsAt n (entry_item boards way connecting board number deed)
entry_at boards n way connecting board number deed = search (rules, deed_at)

way_at : (boards : List BoardDef) (n : ℕ) (way : Way) (connecting : Bool) (words : List (List ℕ)) → IsAt n (line_item boards way connecting words)
way_at boards n way connecting words = search (rules, entry_at)

connect_at : (boards : List BoardDef) (n : ℕ) (words : List (List ℕ)) → IsAt n (connect_item boards words)
connect_at boards n words = search (rules, either_at, bytes_eq, way_at)

words_at : (boards : List BoardDef) (n : ℕ) (words : List (List ℕ)) → IsAt n (meant_by boards n words)
words_at boards n [] = tt
words_at boards n (word ∷ words) =
    either_at n (bytes_eq word (codes "down")) _ _ (way_at boards n Down false words)
    (either_at n (bytes_eq word (codes "up")) _ _ (way_at boards n Up false words)
    (either_at n (bytes_eq word (codes "connect")) _ _ (connect_at boards n words)
    (either_at n (bytes_eq word (codes "switch")) _ _ (switch_at boards n words) tt)))

-- so the switches among lines have no greater number than the last line
abbrev AreUnder : ℕ → List Switch → Type 0
AreUnder n switches = All (λ w. w.line < n) switches

item_under : (n limit : ℕ) (item : Item) (switches : List Switch) → n < limit → IsAt n item → AreUnder limit switches → AreUnder limit (switch_of item ++ switches)
item_under n limit (AtPin s) switches low at under = All-cons (λ (w : Switch). w.line < limit) s switches (omega (arith, low, at)) under
item_under n limit c switches low at under = under

items_under : (boards : List BoardDef) (n limit : ℕ) (lines : List (List ℕ)) → n + length lines ≤ limit → AreUnder limit (switches_among (items boards n lines))
items_under boards n limit [] low = All-nil (λ (w : Switch). w.line < limit)
items_under boards n limit (line ∷ lines) low =
    item_under n limit (meant boards n line) (switches_among (items boards (n + 1) lines)) (omega (arith, low)) (words_at boards n (words_of (before 35 (without_return line)))) (items_under boards (n + 1) limit lines (omega (arith, low)))

-- and one that is read has at most 16 MiB
read_is : (o : Option SceneFault) (x s : Scene) → scene_unless o x ≡ Ok s → x ≡ s
read_is None x s e = cc
read_is (Some fault) x s e = cc

pub read_under : (m : Machine) (text : List ℕ) (s : Scene) → scene_of_text m text ≡ Ok s → All (λ w. w.line < 2 ^ 64) s.switches
unfolding scene_of_text
read_under m text s e = elim (leb_tells (suc 16_777_216) (length text)) [
  | inl p ↦
      let all = items m.boards 1 (lines_of text) in
      let At_size : Bool → Result Scene SceneFault = λ b. if b then Err (At 0 TooLarge) else scene_unless (first_fault [] [] 1 all) (scene_of all) in
      let f : Err (At 0 TooLarge) ≡ Ok s = sym (ap At_size p.0) ∙ e in
      cc
  | inr p ↦
      let all = items m.boards 1 (lines_of text) in
      let At_size : Bool → Result Scene SceneFault = λ b. if b then Err (At 0 TooLarge) else scene_unless (first_fault [] [] 1 all) (scene_of all) in
      let is = read_is (first_fault [] [] 1 all) (scene_of all) s (sym (ap At_size p.0) ∙ e) in
      let few = lines_few text in
      subst (λ (x : Scene). AreUnder (2 ^ 64) x.switches) is (items_under m.boards 1 (2 ^ 64) (lines_of text) (omega (arith, few, p.1)))
]

-- so the switches of any scene of a run
pub scene_under : (m : Machine) (s : Scene) → IsSceneFor m s → All (λ w. w.line < 2 ^ 64) s.switches
scene_under m s (inl e) = subst (λ (x : Scene). All (λ w. w.line < 2 ^ 64) x.switches) (sym e) (All-nil (λ (w : Switch). w.line < 2 ^ 64))
scene_under m s (inr r) = read_under m r.0 s r.1
