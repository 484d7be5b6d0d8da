-- What a line of a scene says by itself: nothing, an entry, or a fault.
use Rattle.std.specs.Prelude.{ℕ, ◌+◌, Bool, true, false, List, [], ◌∷◌, if◌then◌else◌, Option, Some, None, codes, slice_index_or, nat_lt}
use Rattle.std.specs.Str.{bytes_eq}
use Rattle.text_core.specs.Words.{words_of}
use Rattle.plan_types.specs.declared.cause.SceneKind.TheVariants.{BadLine, UnknownBoard}
use Rattle.plan_types.specs.declared.machine.BoardDef.{BoardDef}
use Rattle.plan_types.specs.Machines.{no_board}
use Rattle.text_core.specs.Bytes.{before}
use Rattle.text_core.specs.Trims.{without_return}
use Rattle.wire_scene.specs.declared.scene.Way.{Way}
use Rattle.wire_scene.specs.declared.scene.Way.TheVariants.{Down, Up}
use Rattle.wire_scene.specs.declared.scene.Deed.{Deed}
use Rattle.wire_scene.specs.declared.scene.Deed.TheVariants.{Drop, Repeat, Delay, Garble}
use Rattle.wire_scene.specs.declared.line.Item.{Item}
use Rattle.wire_scene.specs.declared.line.Item.TheVariants.{Nothing, OnLine, AtPin, Wrong}
use Rattle.wire_scene.specs.Words.{number_in}

-- the number of the first board of a name, where they are counted from k on
abbrev pub board_from : ℕ → List BoardDef → List ℕ → Option ℕ
board_from k [] name = None
board_from k (b ∷ boards) name = if bytes_eq b.name name then Some k else board_from (k + 1) boards name

-- the number of a pin among names, where they are counted from k on
abbrev pub pin_from : ℕ → List (List ℕ) → List ℕ → Option ℕ
pin_from k [] name = None
pin_from k (p ∷ pins) name = if bytes_eq p name then Some k else pin_from (k + 1) pins name

-- the pins that the configuration names on a board
abbrev pub pins_on : List BoardDef → ℕ → List (List ℕ)
pins_on boards board = (slice_index_or boards board no_board).pins

-- what happens to a block by a word alone: it is lost, or comes twice
abbrev pub plain_deed : List ℕ → Option Deed
plain_deed word =
    if bytes_eq word (codes "drop") then Some Drop else (if bytes_eq word (codes "repeat") then Some Repeat else None)

-- a block comes so many turns later, where their number is read
abbrev pub delayed : Option ℕ → Option Deed
delayed None = None
delayed (Some turns) = Some (Delay turns)

-- a delay of 1 to 100,000 turns
abbrev pub delay : List ℕ → List ℕ → Option Deed
delay word turns = if bytes_eq word (codes "delay") then delayed (number_in 1 100_000 turns) else None

-- a byte of a block is changed, where its place and what it is changed by are read
abbrev pub garbled : Option ℕ → Option ℕ → Option Deed
garbled (Some at) (Some xor) = Some (Garble at xor)
garbled (Some at) None = None
garbled None xor = None

-- a change of a byte, at any place, by xor with 1 to 255
abbrev pub garble : List ℕ → List ℕ → List ℕ → Option Deed
garble word at xor =
    if bytes_eq word (codes "garble") then garbled (number_in 0 18_446_744_073_709_551_615 at) (number_in 1 255 xor)
    else None

-- what happens to a block: `drop`, `repeat`, `delay` and a number of turns, or `garble`, a place and a number
abbrev pub deed_in : List (List ℕ) → Option Deed
deed_in [] = None
deed_in (word ∷ []) = plain_deed word
deed_in (word ∷ turns ∷ []) = delay word turns
deed_in (word ∷ at ∷ xor ∷ []) = garble word at xor
deed_in (word ∷ at ∷ xor ∷ more ∷ words) = None

-- an entry of a line; a fault where its board isn't there
abbrev pub on_line : Option ℕ → Way → Bool → ℕ → Deed → Item
on_line None way connecting number deed = Wrong UnknownBoard
on_line (Some board) way connecting number deed =
    OnLine (record { board = board; way = way; connecting = connecting; number = number; deed = deed })

-- what a line of a scene says of a block, by its board, its number and what happens to it
abbrev pub entry_item : List BoardDef → Way → Bool → List ℕ → Option ℕ → Option Deed → Item
entry_item boards way connecting board (Some number) (Some deed) =
    on_line (board_from 0 boards board) way connecting number deed
entry_item boards way connecting board (Some number) None = Wrong BadLine
entry_item boards way connecting board None deed = Wrong BadLine

-- what stands behind `down` or `up`: a board, the number of a block, and what happens to it
abbrev pub line_item : List BoardDef → Way → Bool → List (List ℕ) → Item
line_item boards way connecting [] = Wrong BadLine
line_item boards way connecting (board ∷ []) = Wrong BadLine
line_item boards way connecting (board ∷ number ∷ deed) =
    entry_item boards way connecting board (number_in 0 18_446_744_073_709_551_615 number) (deed_in deed)

-- a level: the one digit 0 or 1
abbrev pub level_in : List ℕ → Option Bool
level_in word =
    if bytes_eq word (codes "0") then Some false else (if bytes_eq word (codes "1") then Some true else None)

-- a tick and the level of a switch from it on, where both are read
abbrev pub moment : Option ℕ → Option Bool → Option (ℕ × Bool)
moment (Some tick) (Some level) = Some (tick, level)
moment (Some tick) None = None
moment None level = None

-- a tick below 2^63, and the level from it on
abbrev pub moment_of : List (List ℕ) → Option (ℕ × Bool)
moment_of [] = None
moment_of (tick ∷ []) = None
moment_of (tick ∷ level ∷ []) = moment (number_in 0 9_223_372_036_854_775_807 tick) (level_in level)
moment_of (tick ∷ level ∷ more ∷ words) = None

-- an entry of a pin; a fault where the board has no such pin
abbrev pub at_pin : ℕ → ℕ → Option ℕ → ℕ × Bool → Item
at_pin line board None moment = Wrong BadLine
at_pin line board (Some pin) moment =
    AtPin (record { board = board; pin = pin; tick = moment.0; level = moment.1; line = line })

-- what a line of a scene says of a switch, where the machine has the board
abbrev pub at_board : List BoardDef → ℕ → Option ℕ → List ℕ → ℕ × Bool → Item
at_board boards line None pin moment = Wrong UnknownBoard
at_board boards line (Some board) pin moment = at_pin line board (pin_from 0 (pins_on boards board) pin) moment

-- what a line of a scene says of a switch, by the names of its board and its pin
abbrev pub pin_item : List BoardDef → ℕ → List ℕ → List ℕ → Option (ℕ × Bool) → Item
pin_item boards line board pin None = Wrong BadLine
pin_item boards line board pin (Some moment) = at_board boards line (board_from 0 boards board) pin moment

-- what stands behind `switch`: a board, one of its pins, a tick and a level
abbrev pub switch_item : List BoardDef → ℕ → List (List ℕ) → Item
switch_item boards line [] = Wrong BadLine
switch_item boards line (board ∷ []) = Wrong BadLine
switch_item boards line (board ∷ pin ∷ words) = pin_item boards line board pin (moment_of words)

-- behind `connect`: `down` or `up`, and what stands behind it
abbrev pub connect_item : List BoardDef → List (List ℕ) → Item
connect_item boards [] = Wrong BadLine
connect_item boards (word ∷ words) =
    if bytes_eq word (codes "down") then line_item boards Down true words
    else (if bytes_eq word (codes "up") then line_item boards Up true words
    else Wrong BadLine)

-- what the words of a scene's line say: of a block, of one while connecting, or of a switch
abbrev pub meant_by : List BoardDef → ℕ → List (List ℕ) → Item
meant_by boards line [] = Nothing
meant_by boards line (word ∷ words) =
    if bytes_eq word (codes "down") then line_item boards Down false words
    else (if bytes_eq word (codes "up") then line_item boards Up false words
    else (if bytes_eq word (codes "connect") then connect_item boards words
    else (if bytes_eq word (codes "switch") then switch_item boards line words
    else Wrong BadLine)))

-- what a line says; its comment and a CR at its end are no part of it
abbrev pub meant : List BoardDef → ℕ → List ℕ → Item
meant boards line text = meant_by boards line (words_of (before 35 (without_return text)))

-- the board of an entry has a number below this
abbrev pub is_on_boards : ℕ → Item → Bool
is_on_boards count (OnLine e) = nat_lt e.board count
is_on_boards count (AtPin s) = nat_lt s.board count
is_on_boards count item = true
