-- What a scene says of a line or a pin.
use Rattle.std.specs.Prelude.{◌≡◌, ◌<◌, AllPairs, ℕ, Bool, true, false, List, [], ◌∷◌, ◌&&◌, ◌==◌, if◌then◌else◌, nat_le, Option, Some, None, option_map}
use Rattle.plan_types.specs.declared.levels.Level.{Level}
use Rattle.wire_scene.specs.declared.scene.Way.{Way}
use Rattle.wire_scene.specs.declared.scene.Way.TheVariants.{Down, Up}
use Rattle.wire_scene.specs.declared.scene.Entry.{Entry}
use Rattle.wire_scene.specs.declared.scene.Switch.{Switch}

-- a value, else an earlier one
abbrev pub or_earlier : {A : Type 0} → Option A → Option A → Option A
or_earlier None earlier = earlier
or_earlier (Some x) earlier = Some x

-- the last element that passes the test
abbrev pub last_where : {A : Type 0} → (A → Bool) → List A → Option A
last_where test [] = None
last_where test (x ∷ xs) = or_earlier (last_where test xs) (if test x then Some x else None)

-- a direction, while connecting or not, as a number
abbrev pub way_number : Bool → Way → ℕ
way_number false Down = 0
way_number false Up = 1
way_number true Down = 2
way_number true Up = 3

-- the entry is of this line and time, or this pin
abbrev pub is_on : ℕ → ℕ → Entry → Bool
is_on board way e = (e.board == board) && (way_number e.connecting e.way == way)

-- the entry is of this pin
abbrev pub is_of : ℕ → ℕ → Switch → Bool
is_of board pin s = (s.board == board) && (s.pin == pin)

-- the number of the last entry of a line and time
abbrev pub last_number : ℕ → ℕ → List Entry → Option ℕ
last_number board way entries = option_map (λ (e : Entry). e.number) (last_where (is_on board way) entries)

-- the tick of the last entry of a pin
abbrev pub last_tick : ℕ → ℕ → List Switch → Option ℕ
last_tick board pin switches = option_map (λ (s : Switch). s.tick) (last_where (is_of board pin) switches)

-- the last entry of a pin at or before a tick
abbrev pub last_switch : ℕ → ℕ → ℕ → List Switch → Option Switch
last_switch board pin tick switches = last_where (λ s. is_of board pin s && nat_le s.tick tick) switches

-- the ticks and levels of a pin's entries
abbrev pub levels_of : ℕ → ℕ → List Switch → List Level
levels_of board pin [] = []
levels_of board pin (s ∷ switches) =
    if is_of board pin s then record { tick = s.tick; level = s.level } ∷ levels_of board pin switches
    else levels_of board pin switches

-- for each pin the ticks of its entries rise
abbrev pub SwitchesRise : List Switch → Type 0
SwitchesRise switches = AllPairs (λ (s t : Switch). s.board ≡ t.board → s.pin ≡ t.pin → s.tick < t.tick) switches

-- its level: 0 where there is none
abbrev pub level_of : Option Switch → Bool
level_of None = false
level_of (Some s) = s.level

-- its line of the scene's text: 0 where there is none
abbrev pub line_of : Option Switch → ℕ
line_of None = 0
line_of (Some s) = s.line

-- on each line, while connecting and later, the numbers of the entries rise
abbrev pub NumbersRise : List Entry → Type 0
NumbersRise entries =
    AllPairs (λ (d e : Entry). d.board ≡ e.board → d.way ≡ e.way → d.connecting ≡ e.connecting → d.number < e.number)
    entries
