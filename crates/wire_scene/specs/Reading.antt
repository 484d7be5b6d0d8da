-- The reading of a scene: its first fault, or its entries.
use Rattle.std.specs.Prelude.{◌≡◌, ℕ, ◌+◌, Bool, List, [], ◌∷◌, ◌++◌, if◌then◌else◌, nat_lt, nat_le, length, Option, Some, None, Result, Ok, Err, ⊤}
use Rattle.plan_types.specs.Numbers.{is_above}
use Rattle.text_core.specs.Lines.{lines_of}
use Rattle.plan_types.specs.declared.cause.SceneKind.{SceneKind}
use Rattle.plan_types.specs.declared.cause.SceneKind.TheVariants.{NotRising, TooMany, TooLarge}
use Rattle.plan_types.specs.declared.machine.Machine.{Machine}
use Rattle.plan_types.specs.declared.machine.BoardDef.{BoardDef}
use Rattle.wire_scene.specs.declared.fault.SceneFault.{SceneFault}
use Rattle.wire_scene.specs.declared.fault.SceneFault.TheVariants.{At, Memory}
use Rattle.wire_scene.specs.declared.scene.Entry.{Entry}
use Rattle.wire_scene.specs.declared.scene.Switch.{Switch}
use Rattle.wire_scene.specs.declared.scene.Scene.{Scene}
use Rattle.wire_scene.specs.declared.line.Item.{Item}
use Rattle.wire_scene.specs.declared.line.Item.TheVariants.{Nothing, OnLine, AtPin, Wrong}
use Rattle.wire_scene.specs.Entries.{meant}
use Rattle.wire_scene.specs.Scenes.{way_number, last_number, last_tick}

-- what the lines say, one by one, where the first has this number
abbrev pub items : List BoardDef → ℕ → List (List ℕ) → List Item
items boards number [] = []
items boards number (line ∷ lines) = meant boards number line ∷ items boards (number + 1) lines

-- the entry of a line, where it is one of a block
abbrev pub line_entry : Item → List Entry
line_entry (OnLine e) = e ∷ []
line_entry item = []

-- the switch of a line, where it is one of a switch
abbrev pub switch_of : Item → List Switch
switch_of (AtPin s) = s ∷ []
switch_of item = []

-- the entries of lines among them, in order
abbrev pub entries_among : List Item → List Entry
entries_among [] = []
entries_among (item ∷ items) = line_entry item ++ entries_among items

-- the entries of pins among them, in order
abbrev pub switches_among : List Item → List Switch
switches_among [] = []
switches_among (item ∷ items) = switch_of item ++ switches_among items

-- the fault of an entry behind so many: its number has to rise, and there are at most 100,000
abbrev pub refusal : Bool → ℕ → Option SceneKind
refusal rising count = if rising then (if nat_le 100_000 count then Some TooMany else None) else Some NotRising

-- the fault of a line behind these entries
abbrev pub fault_of : List Entry → List Switch → Item → Option SceneKind
fault_of entries switches Nothing = None
fault_of entries switches (Wrong kind) = Some kind
fault_of entries switches (OnLine e) =
    refusal (is_above e.number (last_number e.board (way_number e.connecting e.way) entries))
    (length entries + length switches)
fault_of entries switches (AtPin s) =
    refusal (is_above s.tick (last_tick s.board s.pin switches)) (length entries + length switches)

-- the fault of a line of this number, where it has one, else the first of the later lines
abbrev pub or_later : ℕ → Option SceneKind → Option SceneFault → Option SceneFault
or_later number None later = later
or_later number (Some kind) later = Some (At number kind)

-- line by line from the top, the first fault
abbrev pub first_fault : List Entry → List Switch → ℕ → List Item → Option SceneFault
first_fault entries switches number [] = None
first_fault entries switches number (item ∷ items) =
    or_later number (fault_of entries switches item)
    (first_fault (entries ++ line_entry item) (switches ++ switch_of item) (number + 1) items)

-- the scene that lines say
abbrev pub scene_of : List Item → Scene
scene_of items = record { entries = entries_among items; switches = switches_among items }

-- a scene, unless there is a fault
abbrev pub scene_unless : Option SceneFault → Scene → Result Scene SceneFault
scene_unless None scene = Ok scene
scene_unless (Some fault) scene = Err fault

-- the scene that lines say, or their first fault
abbrev pub reading_of : List Item → Result Scene SceneFault
reading_of items = scene_unless (first_fault [] [] 1 items) (scene_of items)

-- the scene of a text, or its first fault
unfoldable pub scene_of_text : Machine → List ℕ → Result Scene SceneFault
scene_of_text m text =
    if nat_lt 16_777_216 (length text) then Err (At 0 TooLarge) else reading_of (items m.boards 1 (lines_of text))

-- a reader's answer is this, but for want of memory
abbrev pub AnswersScene : Result Scene SceneFault → Result Scene SceneFault → Type 0
AnswersScene (Ok scene) wanted = wanted ≡ Ok scene
AnswersScene (Err (Memory error)) wanted = ⊤
AnswersScene (Err (At line kind)) wanted = wanted ≡ Err (At line kind)
