-- A line, on which blocks are under way in the order in which they were put, and what the scene's entries do to them.
use Rattle.std.specs.Prelude.{◌≡◌, ℕ, ◌+◌, ◌-◌, ◌%◌, ◌==◌, ◌<◌, ◌≤◌, ◌&&◌, Bool, true, false, List, [], ◌∷◌, ◌++◌, Option, Some, None, length, max, nat_lt, nat_le, if◌then◌else◌, bit_xor, slice_index, slice_set}
use Rattle.block_frame.specs.Spoils.{is_found_out}
use Rattle.wire_scene.specs.declared.scene.Entry.{Entry}
use Rattle.wire_scene.specs.declared.scene.Deed.{Deed}
use Rattle.wire_scene.specs.declared.scene.Deed.TheVariants.{Drop, Repeat, Delay, Garble}
use Rattle.wire_scene.specs.declared.scene.Way.{Way}
use Rattle.wire_scene.specs.declared.scene.Way.TheVariants.{Down, Up}
use Rattle.wire_scene.specs.declared.wire.Fate.{Fate}
use Rattle.wire_scene.specs.declared.wire.Fate.TheVariants.{Lost, Last, Stays, Garbled}

-- a block under way, what comes of it, the turn in which it is due, and what happens to it then
pub record Copy : Type 0 where
  pub bytes : List ℕ
  pub comes : List ℕ
  pub due : ℕ
  pub fate : Fate

-- a line: its entries for blocks that aren't put yet, the number of the next block, the turn in which the last one is
-- due, from which turn on the uses of entries are more than four turns ago, and the blocks under way
pub record Line : Type 0 where
  -- the entries for blocks that aren't put yet
  pub entries : List Entry
  -- those for the time behind connecting, while that lasts
  pub later : List Entry
  pub connected : Bool
  -- the number of the next block, which is counted while there are entries
  pub number : ℕ
  -- the turn in which the last block is due
  pub last : ℕ
  -- from this turn on, each turn in which an entry was used is more than four turns ago
  pub calm : ℕ
  -- the blocks under way, the oldest first
  pub copies : List Copy

-- whether two ways are one
abbrev pub same_way : Way → Way → Bool
same_way Down Down = true
same_way Up Up = true
same_way Down Up = false
same_way Up Down = false

-- two times are both while connecting, or both after it
abbrev pub same_time : Bool → Bool → Bool
same_time true time = time
same_time false true = false
same_time false false = true

-- the entries of a line, while connecting or later
abbrev pub entries_of : ℕ → Way → Bool → List Entry → List Entry
entries_of board way connecting [] = []
entries_of board way connecting (e ∷ es) =
    if (e.board == board) && same_way e.way way && same_time e.connecting connecting
    then e ∷ entries_of board way connecting es
    else entries_of board way connecting es

-- the numbers of entries rise, from a number on
abbrev pub RiseFrom : ℕ → List Entry → Type 0
RiseFrom n [] = Unit {0}
RiseFrom n (e ∷ es) = (n ≤ e.number) × RiseFrom (e.number + 1) es

-- what happens to a block: the first entry with its number says it
abbrev pub deed_of : ℕ → List Entry → Option Deed
deed_of n [] = None
deed_of n (e ∷ es) = if e.number == n then Some e.deed else deed_of n es

-- the entries for the blocks behind one
abbrev pub entries_behind : ℕ → List Entry → List Entry
entries_behind n [] = []
entries_behind n (e ∷ es) = if nat_lt n e.number then e ∷ entries_behind n es else entries_behind n es

-- the number behind another, where there are entries
abbrev pub number_behind : ℕ → List Entry → ℕ
number_behind n [] = n
number_behind n (e ∷ es) = n + 1

-- by how many turns a block comes later
abbrev pub delay_of : Option Deed → ℕ
delay_of None = 0
delay_of (Some Drop) = 0
delay_of (Some Repeat) = 0
delay_of (Some (Delay turns)) = turns
delay_of (Some (Garble at xor)) = 0

-- of the bytes behind the first, the one at this place, counted around, is xored with this number
abbrev pub changed : ℕ → ℕ → List ℕ → List ℕ
changed at xor bytes =
    if nat_lt 1 (length bytes)
    then slice_set bytes (1 + at % (length bytes - 1)) (bit_xor (slice_index bytes (1 + at % (length bytes - 1))) xor)
    else bytes

-- what comes of a block
abbrev pub comes_of : Option Deed → List ℕ → List ℕ
comes_of None bytes = bytes
comes_of (Some Drop) bytes = bytes
comes_of (Some Repeat) bytes = bytes
comes_of (Some (Delay turns)) bytes = bytes
comes_of (Some (Garble at xor)) bytes = changed at xor bytes

-- what happens to it then: one that is changed, and not found out, is lost
abbrev pub fate_of : Option Deed → List ℕ → Fate
fate_of None bytes = Last
fate_of (Some Drop) bytes = Lost
fate_of (Some Repeat) bytes = Stays
fate_of (Some (Delay turns)) bytes = Last
fate_of (Some (Garble at xor)) bytes = if is_found_out (changed at xor bytes) then Garbled else Lost

-- from which turn on the uses of entries are more than four turns ago, once an entry, or none, was used
abbrev pub calm_from : ℕ → ℕ → Option Deed → ℕ
calm_from calm turn None = calm
calm_from calm turn (Some deed) = max calm (turn + 5)

-- a line without blocks, with its entries for the time while connecting and for later
abbrev pub empty_line : List Entry → List Entry → Line
empty_line connecting entries =
    record { entries = connecting; later = entries; connected = false; number = 0; last = 0; calm = 0; copies = [] }

-- the line of a board
abbrev pub new_line : ℕ → Way → List Entry → Line
new_line board way entries = empty_line (entries_of board way true entries) (entries_of board way false entries)

-- connecting has ended: blocks count from 0 anew, by the entries for later
abbrev pub connect_if : Bool → Line → Line
connect_if true l = l
connect_if false l = record l { entries = l.later; later = []; connected = true; number = 0 }

-- connecting has ended: blocks count from 0 anew, by the entries for later
abbrev pub connect : Line → Line
connect l = connect_if l.connected l

-- a block is put on a line, to which this happens: it isn't due before the blocks in front of it
abbrev pub put_with : Line → ℕ → List ℕ → Option Deed → Line
put_with l turn bytes deed = record {
  entries = entries_behind l.number l.entries;
  later = l.later;
  connected = l.connected;
  number = number_behind l.number (entries_behind l.number l.entries);
  last = max l.last (turn + delay_of deed);
  calm = calm_from l.calm turn deed;
  copies =
      l.copies
      ++ record {
        bytes = bytes;
        comes = comes_of deed bytes;
        due = max l.last (turn + delay_of deed);
        fate = fate_of deed bytes;
      } ∷ [];
}

-- a block is put on a line in a turn
abbrev pub put_on : Line → ℕ → List ℕ → Line
put_on l turn bytes = put_with l turn bytes (deed_of l.number l.entries)

-- whether the oldest block is due in a turn
abbrev pub is_oldest_due : ℕ → List Copy → Bool
is_oldest_due turn [] = false
is_oldest_due turn (c ∷ cs) = nat_le c.due turn

-- what is under way after a block was due: one that arrives twice stays, and arrives once more
abbrev pub copies_left_by : Fate → Copy → List Copy → List Copy
copies_left_by Lost c cs = cs
copies_left_by Last c cs = cs
copies_left_by Stays c cs = record { bytes = c.bytes; comes = c.comes; due = c.due; fate = Last } ∷ cs
copies_left_by Garbled c cs = cs

-- the same, of the oldest block
abbrev pub copies_left : List Copy → List Copy
copies_left [] = []
copies_left (c ∷ cs) = copies_left_by c.fate c cs

-- what is due in a turn next has happened, where something is
abbrev pub after_due : Line → ℕ → Line
after_due l turn = if is_oldest_due turn l.copies then record l { copies = copies_left l.copies } else l

-- how often a block is due
abbrev pub dues_of : Fate → ℕ
dues_of Lost = 1
dues_of Last = 1
dues_of Stays = 2
dues_of Garbled = 1

-- how often something is due on a line, until nothing is under way
abbrev pub dues_left : List Copy → ℕ
dues_left [] = 0
dues_left (c ∷ cs) = dues_of c.fate + dues_left cs

-- the garbled blocks among these are found out
abbrev pub AreFoundOut : List Copy → Type 0
AreFoundOut [] = Unit {0}
AreFoundOut (c ∷ cs) = (c.fate ≡ Garbled → is_found_out c.comes ≡ true) × AreFoundOut cs

-- what comes of the oldest block, and what happens to it
abbrev pub IsOldest : List Copy → List ℕ → Fate → Type 0
IsOldest [] bytes fate = ⊥
IsOldest (c ∷ cs) bytes fate = (bytes ≡ c.comes) × (fate ≡ c.fate)

-- a line is quiet in a turn: nothing is under way, and each turn in which an entry was used is more than four
-- turns before it
pub record IsQuiet (l : Line) (turn : ℕ) : Type 0 where
  pub nothing : l.copies ≡ []
  pub calm : l.calm ≤ turn
