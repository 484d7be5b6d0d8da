-- A turn, step by step.
use Rattle.std.specs.Prelude.{◌≡◌, ◌⊎◌, ℕ, ◌+◌, ◌<◌, ◌≤◌, true, List, [], ◌∷◌, ◌++◌, drop, length, map, slice_index_or, Option, Some, None}
use Rattle.gcode_program.specs.declared.items.Item.{Item}
use Rattle.gcode_program.specs.declared.items.Item.TheVariants as items
use Rattle.plan_types.specs.declared.plan.SectionKind.{SectionKind}
use Rattle.msg_code.specs.declared.talk.NoteNews.{NoteNews}
use Rattle.msg_code.specs.declared.talk.NoteNews.TheVariants as news
use Rattle.msg_code.specs.declared.unit.Batch.{Batch}
use Rattle.plan_types.specs.declared.machine.Machine.{Machine}
use Rattle.step_feed.specs.Units.{StepUnit}
use Rattle.motion_work.specs.Begins.{news_items}
use Rattle.motion_work.specs.Feeds.{batches_at}
use Rattle.motion_work.specs.Seen.{Started}
use Rattle.motion_work.specs.Turns.{done_notes}
use Rattle.motion_stream.specs.declared.course.Course.{Course}
use Rattle.motion_stream.specs.declared.course.Open.TheVariants as opens
use Rattle.motion_stream.specs.Courses.{IsCourseBy, IsCourseOf}
use Rattle.motion_stream.specs.Puts.{SectionsGoOn, IsNew}
use Rattle.motion_stream.specs.Rows.{batches_of}
use Rattle.motion_stream.specs.Seen.{AreWhole, Seen}

-- a machine went on to the next turn, and these are the batches of the one before
pub record HasPassed (m : Machine) (old new : Course) (own : List (List StepUnit)) (batches : List Batch) : Type 0 where
  pub are : batches ≡ batches_of (length m.boards) old.next (slice_index_or old.ahead.items 0 []) own
  pub ahead : new.ahead.items ≡ drop 1 old.ahead.items
  pub others : new ≡ record old { ahead = new.ahead; next = old.next + 1 }

-- where no section goes on and none has begun in the text, the next one starts behind turn k + 260
abbrev pub IsFed : Course → ℕ → Type 0
IsFed c k =
    c.current ≡ opens.Nothing → c.connected ≡ true → c.source.end ≡ None → c.source.items.items ≡ [] → k + 261 ≤ c.ready

-- Turn k went by: nothing but units came to what was seen, and by any whole sections that it may become these
-- are the batches, and this is the news of a section that ends in it.
pub record IsPassed (m : Machine) (old new : Seen) (k : ℕ) (batches : List Batch) (done : Option NoteNews)
    : Type 0 where
  pub text : new.text ≡ old.text
  pub ended : new.ended ≡ old.ended
  pub read : new.read ≡ old.read
  pub told : new.told ≡ old.told
  pub fresh : new.fresh ≡ old.fresh
  pub next : new.next ≡ old.next + 1
  pub sections : SectionsGoOn k old.begun old.going new.begun new.going
  pub whole : (all : List Started) → AreWhole m new.told new.next new.begun new.going all →
      AreWhole m old.told old.next old.begun old.going all
  pub batches_are : (all : List Started) → AreWhole m new.told new.next new.begun new.going all →
      batches ≡ batches_at (length m.boards) k (map (λ s. s.boards) all)
  pub done_is : (all : List Started) → AreWhole m new.told new.next new.begun new.going all →
      news_items done ≡ done_notes k 0 all

-- a machine lets turn k go by
abbrev pub Advances : Machine → Course → ℕ → List Batch → Option NoteNews → Course → Type 0
Advances m old k batches done new =
    (seen : Seen) → IsCourseBy m old seen (k + 260) (k + 261) →
    (next : Seen) × IsPassed m seen next k batches done × IsCourseBy m new next (k + 260) (k + 261)

-- the next section has begun in the text, is of a kind, and starts in a turn, which is not behind another
pub record IsSectionDue (c : Course) (turn : ℕ) (kind : SectionKind) (start : ℕ) : Type 0 where
  pub nothing : c.current ≡ opens.Nothing
  pub connected : c.connected ≡ true
  pub dwell : ℕ
  pub rest : List Item
  pub items_are : c.source.items.items ≡ items.Begin kind dwell ∷ rest
  pub start_is : start ≡ c.ready + dwell
  pub soon : start ≤ turn

-- no section is due
abbrev pub IsNotDue : Course → ℕ → Type 0
IsNotDue c turn =
    c.current ≡ opens.Nothing → c.connected ≡ true → (kind : SectionKind) (dwell : ℕ) (rest : List Item) →
    c.source.items.items ≡ items.Begin kind dwell ∷ rest → turn < c.ready + dwell

-- whole sections as before, or one more that is begun in turn k, and its news
pub record IsOneMore (k place : ℕ) (s : Started) (m : Machine) (start : Option NoteNews) : Type 0 where
  pub new : IsNew m k s
  pub told : start ≡ Some (news.Start place s.section.kind s.start s.last s.moving)

-- the sections that were begun up to a turn: those of before, and at most one more, of which the note tells
pub record AreBegun (m : Machine) (old : Seen) (k : ℕ) (start : Option NoteNews) (all : List Started) : Type 0 where
  pub before : List Started
  pub whole : AreWhole m old.told old.next old.begun old.going before
  pub are : ((all ≡ before) × (start ≡ None))
      ⊎ ((s : Started) × (all ≡ before ++ s ∷ []) × IsOneMore k (length before) s m start)

-- in turn k a section may have been begun
pub record IsBegun (m : Machine) (old new : Seen) (k : ℕ) (start : Option NoteNews) : Type 0 where
  pub text : new.text ≡ old.text
  pub ended : new.ended ≡ old.ended
  pub read : new.read ≡ old.read
  pub told : new.told ≡ old.told
  pub fresh : new.fresh ≡ old.fresh
  pub next : new.next ≡ old.next
  pub sections : SectionsGoOn k old.begun old.going new.begun new.going
  pub grown : (all : List Started) → AreWhole m new.told new.next new.begun new.going all → AreBegun m old k start all

-- a machine begins the next section, where that is due in turn k
abbrev pub BeginsSection : Machine → Course → ℕ → Option NoteNews → Course → Type 0
BeginsSection m old k start new =
    (seen : Seen) → IsCourseBy m old seen (k + 260) (k + 261) →
    (next : Seen) × IsBegun m seen next k start × IsCourseOf m new next
