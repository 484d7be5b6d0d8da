-- A scene that is read is valid.
use Rattle.std.proofs.Common.{◌≡◌, ℕ, ◌+◌, ◌<◌, ◌≤◌, ◌==◌, ◌&&◌, Bool, true, false, cond, List, [], ◌∷◌, ◌++◌, length, nat_le, nat_lt, get_or, Option, Some, None, Result, Ok, Err, All, refl, ap, subst, arith, length-append, ◌∙◌}
use Rattle.std.proofs.lemmas.Bool.{and_parts, eqb-true}
use Rattle.std.proofs.lemmas.Bool.Decides.{nat_tests}
use Rattle.std.proofs.lemmas.List.{append-nil, append_assoc}
use Rattle.std.proofs.lemmas.List.Elements.{All-push, All-nil}
use Rattle.plan_types.specs.Numbers.{is_above}
use Rattle.text_core.specs.Lines.{lines_of}
use Rattle.plan_types.specs.declared.cause.SceneKind.{SceneKind}
use Rattle.plan_types.specs.declared.cause.SceneKind.TheVariants.{TooMany, TooLarge}
use Rattle.plan_types.specs.declared.machine.Machine.{Machine}
use Rattle.wire_scene.specs.declared.fault.SceneFault.{SceneFault}
use Rattle.wire_scene.specs.declared.fault.SceneFault.TheVariants.{At}
use Rattle.wire_scene.specs.declared.scene.Entry.{Entry}
use Rattle.wire_scene.specs.declared.scene.Switch.{Switch}
use Rattle.wire_scene.specs.declared.scene.Scene.{Scene}
use Rattle.wire_scene.specs.declared.line.Item.{Item}
use Rattle.wire_scene.specs.declared.line.Item.TheVariants.{Nothing, OnLine, AtPin, Wrong}
use Rattle.wire_scene.specs.Scenes.{is_on, is_of, way_number, last_number, last_tick}
use Rattle.wire_scene.specs.Reading.{items, line_entry, switch_of, entries_among, switches_among, refusal, fault_of, or_later, first_fault, scene_of, scene_unless, scene_of_text}
use Rattle.wire_scene.specs.Valid.{IsValidEntry, IsValidSwitch, IsValidScene}
use Rattle.wire_scene.proofs.Rising.{AreTopped, IsBelow, Rise, IsAbove, last_mark, topped_none, topped_more, rise_more}
use Rattle.wire_scene.proofs.Fitting.{IsFit, AreFit, items_fit}

abbrev number_of : Entry → ℕ
number_of e = e.number

abbrev tick_of : Switch → ℕ
tick_of s = s.tick

-- what holds of the entries so far
record AreGood (m : Machine) (es : List Entry) (ss : List Switch) : Type 0 where
  few : length es + length ss ≤ 100_000
  entries : All (IsValidEntry m) es
  switches : All (IsValidSwitch m) ss
  numbers_rise : Rise is_on number_of es
  numbers_top : AreTopped is_on number_of es
  ticks_rise : Rise is_of tick_of ss
  ticks_top : AreTopped is_of tick_of ss

few_left : (full : Bool) (count : ℕ) → full ≡ nat_le 100_000 count → cond full (Some TooMany) None ≡ None → count < 100_000
few_left true count is none = cc
few_left false count is none = grind (arith, nat_tests)

none_refused : (rising : Bool) (count : ℕ) → refusal rising count ≡ None → (rising ≡ true) × (count < 100_000)
none_refused true count none = (refl, few_left (nat_le 100_000 count) count refl none)
none_refused false count none = cc

entry_above : (es : List Entry) (e : Entry) → is_above e.number (last_number e.board (way_number e.connecting e.way) es) ≡ true → IsAbove is_on number_of es e
entry_above es e over b p here = let parts : ((e.board == b) ≡ true) × ((way_number e.connecting e.way == p) ≡ true) = and_parts (e.board == b) (way_number e.connecting e.way == p) here in
    subst (λ (n : ℕ). is_above e.number (last_mark is_on number_of n p es) ≡ true) (eqb-true e.board b parts.0)
    (subst (λ (n : ℕ). is_above e.number (last_mark is_on number_of e.board n es) ≡ true) (eqb-true (way_number e.connecting e.way) p parts.1) over)

switch_above : (ss : List Switch) (s : Switch) → is_above s.tick (last_tick s.board s.pin ss) ≡ true → IsAbove is_of tick_of ss s
switch_above ss s over b p here = let parts : ((s.board == b) ≡ true) × ((s.pin == p) ≡ true) = and_parts (s.board == b) (s.pin == p) here in
    subst (λ (n : ℕ). is_above s.tick (last_mark is_of tick_of n p ss) ≡ true) (eqb-true s.board b parts.0)
    (subst (λ (n : ℕ). is_above s.tick (last_mark is_of tick_of s.board n ss) ≡ true) (eqb-true s.pin p parts.1) over)

with_entry : (m : Machine) (es : List Entry) (ss : List Switch) (e : Entry) → IsValidEntry m e → IsAbove is_on number_of es e → length es + length ss < 100_000 → AreGood m es ss → AreGood m (es ++ e ∷ []) ss
with_entry m es ss e fit over room good = let size : length (es ++ e ∷ []) ≡ length es + 1 = length-append es (e ∷ []) in record {
  few = omega (arith, size, room);
  entries = All-push (IsValidEntry m) es e good.entries fit;
  switches = good.switches;
  numbers_rise = rise_more is_on number_of es e good.numbers_top over good.numbers_rise;
  numbers_top = topped_more is_on number_of es e good.numbers_top over;
  ticks_rise = good.ticks_rise;
  ticks_top = good.ticks_top;
}

with_switch : (m : Machine) (es : List Entry) (ss : List Switch) (s : Switch) → IsValidSwitch m s → IsAbove is_of tick_of ss s → length es + length ss < 100_000 → AreGood m es ss → AreGood m es (ss ++ s ∷ [])
with_switch m es ss s fit over room good = let size : length (ss ++ s ∷ []) ≡ length ss + 1 = length-append ss (s ∷ []) in record {
  few = omega (arith, size, room);
  entries = good.entries;
  switches = All-push (IsValidSwitch m) ss s good.switches fit;
  numbers_rise = good.numbers_rise;
  numbers_top = good.numbers_top;
  ticks_rise = rise_more is_of tick_of ss s good.ticks_top over good.ticks_rise;
  ticks_top = topped_more is_of tick_of ss s good.ticks_top over;
}

-- one more line
line_more : (m : Machine) (es : List Entry) (ss : List Switch) (item : Item) → IsFit m item → fault_of es ss item ≡ None → AreGood m es ss → AreGood m (es ++ line_entry item) (ss ++ switch_of item)
line_more m es ss Nothing fit none good = rw (append-nil es, append-nil ss) good
line_more m es ss (Wrong kind) fit none good = cc
line_more m es ss (OnLine e) fit none good = let parts = none_refused (is_above e.number (last_number e.board (way_number e.connecting e.way) es)) (length es + length ss) none in
    rw (append-nil ss) (with_entry m es ss e fit (entry_above es e parts.0) parts.1 good)
line_more m es ss (AtPin s) fit none good = let parts = none_refused (is_above s.tick (last_tick s.board s.pin ss)) (length es + length ss) none in
    rw (append-nil es) (with_switch m es ss s fit (switch_above ss s parts.0) parts.1 good)

no_fault : (number : ℕ) (kind : Option SceneKind) (later : Option SceneFault) → or_later number kind later ≡ None → (kind ≡ None) × (later ≡ None)
no_fault number None later none = (refl, none)
no_fault number (Some kind) later none = cc

lines_more : (m : Machine) (es : List Entry) (ss : List Switch) (number : ℕ) (its : List Item) → AreFit m its → first_fault es ss number its ≡ None → AreGood m es ss → AreGood m (es ++ entries_among its) (ss ++ switches_among its)
lines_more m es ss number [] fit none good = rw (append-nil es, append-nil ss) good
lines_more m es ss number (item ∷ its) fit none good = let parts = no_fault number (fault_of es ss item) (first_fault (es ++ line_entry item) (ss ++ switch_of item) (number + 1) its) none in
    let later : AreGood m ((es ++ line_entry item) ++ entries_among its) ((ss ++ switch_of item) ++ switches_among its)
    = lines_more m (es ++ line_entry item) (ss ++ switch_of item) (number + 1) its fit.1 parts.1 (line_more m es ss item fit.0 parts.0 good) in
    subst (λ (xs : List Entry). AreGood m xs (ss ++ (switch_of item ++ switches_among its))) (append_assoc es (line_entry item) (entries_among its))
    (subst (λ (xs : List Switch). AreGood m ((es ++ line_entry item) ++ entries_among its) xs) (append_assoc ss (switch_of item) (switches_among its)) later)

none_good : (m : Machine) → AreGood m [] []
none_good m = record {
  few = omega arith;
  entries = All-nil (IsValidEntry m);
  switches = All-nil (IsValidSwitch m);
  numbers_rise = λ i j d before within. absurd (omega arith);
  numbers_top = topped_none is_on number_of;
  ticks_rise = λ i j d before within. absurd (omega arith);
  ticks_top = topped_none is_of tick_of;
}

both : (b w c v : ℕ) → b ≡ c → w ≡ v → ((b == c) && (w == v)) ≡ true
both b w c v boards places = grind (arith, nat_tests)

entry_below : (d e : Entry) → IsBelow is_on number_of d e → d.board ≡ e.board → d.way ≡ e.way → d.connecting ≡ e.connecting → d.number < e.number
entry_below d e below boards ways times =
    let same : way_number d.connecting d.way ≡ way_number e.connecting e.way = ap (way_number d.connecting) ways ∙ ap (λ b. way_number b e.way) times in
    below e.board (way_number e.connecting e.way) (both d.board (way_number d.connecting d.way) e.board (way_number e.connecting e.way) boards same) (both e.board (way_number e.connecting e.way) e.board (way_number e.connecting e.way) refl refl)

switch_below : (s t : Switch) → IsBelow is_of tick_of s t → s.board ≡ t.board → s.pin ≡ t.pin → s.tick < t.tick
switch_below s t below boards pins = below t.board t.pin (both s.board s.pin t.board t.pin boards pins) (both t.board t.pin t.board t.pin refl refl)

good_scene : (m : Machine) (es : List Entry) (ss : List Switch) → AreGood m es ss → IsValidScene m (record { entries = es; switches = ss })
good_scene m es ss good = record {
  few = good.few;
  entries = good.entries;
  switches = good.switches;
  numbers_rise = λ i j d before within. entry_below (get_or es i d) (get_or es j d) (good.numbers_rise i j d before within);
  ticks_rise = λ i j d before within. switch_below (get_or ss i d) (get_or ss j d) (good.ticks_rise i j d before within);
}

all_good : (m : Machine) (lines : List (List ℕ)) → first_fault [] [] 1 (items m.boards 1 lines) ≡ None → IsValidScene m (scene_of (items m.boards 1 lines))
all_good m lines none = let its : List Item = items m.boards 1 lines in
    good_scene m (entries_among its) (switches_among its) (lines_more m [] [] 1 its (items_fit m 1 lines (omega arith)) none (none_good m))

-- the scene of an answer
abbrev scene_in : Scene → Result Scene SceneFault → Scene
scene_in other (Ok scene) = scene
scene_in other (Err fault) = other

of_answer : (large : Bool) (first : Option SceneFault) (all scene : Scene) → cond large (Err (At 0 TooLarge)) (scene_unless first all) ≡ Ok scene → (first ≡ None) × (all ≡ scene)
of_answer true first all scene is = cc
of_answer false None all scene is = (refl, ap (scene_in all) is)
of_answer false (Some fault) all scene is = cc

-- every scene that is read is valid
pub valid : (m : Machine) (text : List ℕ) (scene : Scene) → scene_of_text m text ≡ Ok scene → IsValidScene m scene
unfolding scene_of_text
valid m text scene is = let lines : List (List ℕ) = lines_of text in
    let parts : (first_fault [] [] 1 (items m.boards 1 lines) ≡ None) × (scene_of (items m.boards 1 lines) ≡ scene)
    = of_answer (nat_lt 16_777_216 (length text)) (first_fault [] [] 1 (items m.boards 1 lines)) (scene_of (items m.boards 1 lines)) scene is in
    subst (λ (s : Scene). IsValidScene m s) parts.1 (all_good m lines parts.0)
