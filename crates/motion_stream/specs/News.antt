-- The news of a turn.
use Rattle.std.specs.Prelude.{◌≡◌, ℕ, ◌+◌, Bool, true, false, List, [], ◌∷◌, Option, Some, None}
use Rattle.gcode_program.specs.declared.items.Item.{Item}
use Rattle.gcode_program.specs.declared.items.Item.TheVariants as items
use Rattle.msg_code.specs.declared.talk.NoteNews.{NoteNews}
use Rattle.msg_code.specs.declared.talk.NoteNews.TheVariants as news
use Rattle.plan_types.specs.declared.plan.ReadEnd.{ReadEnd}
use Rattle.motion_stream.specs.declared.course.Course.{Course}
use Rattle.motion_stream.specs.Rows.{NoneWaits}
use Rattle.motion_stream.specs.declared.course.Open.TheVariants as opens

-- how many sections begin among some things
abbrev pub begins_in : List Item → ℕ
begins_in [] = 0
begins_in (items.Begin kind dwell ∷ rest) = 1 + begins_in rest
begins_in (other ∷ rest) = begins_in rest

-- how the text was read, once that is known, where it was not told yet
abbrev pub read_news : Bool → Option ReadEnd → ℕ → Option NoteNews
read_news told None sections = None
read_news true (Some end) sections = None
read_news false (Some end) sections = Some (news.Read end sections)

-- All that a text told was begun and ended, and on none of so many boards a unit waits for a later turn: so
-- how it was read is told.
pub record HasPutAll (boards : ℕ) (c : Course) : Type 0 where
  pub nothing : c.current ≡ opens.Nothing
  pub ended : c.goes ≡ false
  pub items : c.source.items.items ≡ []
  pub ahead : NoneWaits boards c.ahead.items

-- some news tell how the text was read
abbrev pub tells_read : List NoteNews → Bool
tells_read [] = false
tells_read (news.Read end sections ∷ ns) = true
tells_read (other ∷ ns) = tells_read ns

-- whether it was told behind a turn
abbrev pub read_after : Bool → Option ReadEnd → Bool
read_after told None = told
read_after told (Some end) = true

-- news that tell neither a further clock line nor how the text was read
abbrev pub IsPlain : Option NoteNews → Type 0
IsPlain None = Unit {0}
IsPlain (Some (news.Line board line from)) = ⊥
IsPlain (Some (news.Read end sections)) = ⊥
IsPlain (Some other) = Unit {0}
