-- Which words a planner wants, and when it asks for more of the text, by what it has seen.
use Rattle.std.specs.Prelude.{◌≡◌, ◌⊎◌, ℕ, ◌+◌, ◌-◌, ◌*◌, ◌<◌, ◌≤◌, ◌&&◌, Bool, false, List, [], ◌∷◌, ◌++◌, drop, nat_le, nat_lt, Option, Some, None, if◌then◌else◌}
use Rattle.gcode_program.specs.declared.items.Item.{Item}
use Rattle.gcode_program.specs.declared.items.Item.TheVariants as items
use Rattle.gcode_program.specs.declared.reader.Reader.{Reader}
use Rattle.gcode_program.specs.Items.{items_in, items_of, moves_in}
use Rattle.gcode_program.specs.Reader.{IsAll}
use Rattle.gcode_program.specs.Readers.{IsReaderOf, section_with, stop_of}
use Rattle.plan_types.specs.declared.machine.Machine.{Machine}
use Rattle.plan_types.specs.declared.plan.Move.{Move}
use Rattle.plan_types.specs.declared.plan.ReadEnd.{ReadEnd}
use Rattle.plan_types.specs.Clock.{turn_ns}
use Rattle.plan_types.specs.Sections.{end_time, is_home}
use Rattle.plan_types.specs.Speeds.{greatest_speeds}
use Rattle.section_stream.specs.Looking.{IsFuture}
use Rattle.motion_work.specs.Seen.{Started, ready_after}
use Rattle.motion_work.specs.Told.{Told}
use Rattle.motion_stream.specs.Seen.{Going, Seen, sections_in}
use Rattle.motion_stream.specs.Texts.{MayBecome}

-- a section that goes on homes, has started by turn k, and so waits for its answer
abbrev pub awaits : Option Going → ℕ → Bool
awaits None k = false
awaits (Some g) k = is_home g.kind && nat_le g.start k

-- The word that must be taken before the batches of turn k, by what is known of connecting: while connecting,
-- and while a homing section that has started waits for its answer, that of the same turn; else that of 64
-- turns before, where there is one.
abbrev pub wanted_by : Option Told → Option Going → ℕ → Option ℕ
wanted_by None going k = Some k
wanted_by (Some t) going k = if awaits going k then Some k else (if nat_lt k 64 then None else Some (k - 64))

-- the word that the planner takes before it makes a turn, where it takes one
abbrev pub wanted : Seen → ℕ → Option ℕ
wanted seen k = wanted_by seen.told seen.going k

-- The reading of a text so far goes on: it has not ended, no `M112` and no refused line was read; and these
-- things were told of it.
pub record IsReadOn (m : Machine) (text : List ℕ) (ended : Bool) (told : List Item) : Type 0 where
  pub unended : ended ≡ false
  pub reader : Reader
  pub is : IsReaderOf reader m text told
  pub goes : stop_of reader ≡ None

-- It is over: whatever follows, the text tells these things, and is read to this end.
pub record IsReadOut (m : Machine) (text : List ℕ) (ended : Bool) : Type 0 where
  pub end : ReadEnd
  pub told : List Item
  pub all : (whole : List ℕ) → MayBecome ended text whole → IsAll m whole end told

-- The section that is planned next has no end in what was told: it has not begun there, or it goes on, and
-- only moves of it were told.
abbrev pub HasNoEnd : List Started → Option Going → List Item → Type 0
HasNoEnd begun None told = told ≡ items_of (sections_in begun)
HasNoEnd begun (Some g) told = told ≡ items_of (sections_in begun) ++ items.Begin g.kind g.dwell ∷ moves_in g.moves

-- it has its end there
abbrev pub HasEnd : List Started → Going → List Item → Type 0
HasEnd begun g told =
    (rest : List Item)
    × (told ≡ items_of (sections_in begun) ++ (items_in (section_with g.kind g.moves g.dwell) ++ rest))

-- The first ones of a section's moves end at a time, and the others follow from there, whatever moves come.
pub record AreSettled (m : Machine) (g : Going) (time : ℕ) : Type 0 where
  pub count : ℕ
  pub ends : (all : List Move) → IsFuture g.goes g.moves all →
      end_time m.cruise all (greatest_speeds all m.scv) (g.start * turn_ns)
      ≡ end_time m.cruise (drop count all) (drop count (greatest_speeds all m.scv)) time

-- It may not reach turn k + 261: connecting ended, and it may start before that turn; or the settled moves of
-- the one that goes on end before it.
abbrev pub IsShort : Machine → Option Told → List Started → Option Going → ℕ → Type 0
IsShort m told begun None k = (t : Told) × (told ≡ Some t) × (ready_after t.first begun < k + 261)
IsShort m told begun (Some g) k = (time : ℕ) × AreSettled m g time × (time < (k + 261) * turn_ns)

-- More of the text is lacking before the batches of turn k: it is read on, the section that is planned next
-- has no end in it, and nothing of it was told yet, or that section may not reach turn k + 261.
pub record Lacks (m : Machine) (seen : Seen) (k : ℕ) : Type 0 where
  pub told : List Item
  pub read : IsReadOn m seen.text seen.ended told
  pub no_end : HasNoEnd seen.begun seen.going told
  pub short : (told ≡ []) ⊎ IsShort m seen.told seen.begun seen.going k

-- What is needed for turn k was read: connecting goes on; or the next section has begun in what was told, or
-- starts behind turn k + 260; or the one that goes on has its end, or its settled moves reach turn k + 261.
abbrev pub HasEnough : Machine → Option Told → List Started → Option Going → List Item → ℕ → Type 0
HasEnough m None begun going told k = Unit {0}
HasEnough m (Some t) begun None told k =
    ((i : Item) × (rest : List Item) × (told ≡ items_of (sections_in begun) ++ i ∷ rest))
    ⊎ (k + 261 ≤ ready_after t.first begun)
HasEnough m (Some t) begun (Some g) told k =
    HasEnd begun g told ⊎ ((time : ℕ) × AreSettled m g time × ((k + 261) * turn_ns ≤ time))

-- so the reading of the text is over, or what is needed was read
abbrev pub IsSated : Machine → Seen → ℕ → Type 0
IsSated m seen k =
    IsReadOut m seen.text seen.ended
    ⊎ ((told : List Item) × IsReadOn m seen.text seen.ended told × HasEnough m seen.told seen.begun seen.going told k)
