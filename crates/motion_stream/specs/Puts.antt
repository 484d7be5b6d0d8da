-- What a motion machine has put, told by whole sections of any text that its own may become.
use Rattle.std.specs.Prelude.{◌≡◌, ◌⊎◌, ℕ, ◌+◌, ◌<◌, ◌≤◌, ◌||◌, true, false, All, List, [], ◌∷◌, ◌++◌, length, slice_index_or, Option, Some}
use Rattle.gcode_program.specs.Programs.{program_sections}
use Rattle.msg_code.specs.declared.talk.Note.{Note}
use Rattle.msg_code.specs.declared.talk.NoteNews.{NoteNews}
use Rattle.msg_code.specs.declared.unit.Batch.{Batch}
use Rattle.plan_types.specs.declared.machine.Machine.{Machine}
use Rattle.step_feed.specs.Pacing.{batch_at}
use Rattle.motion_work.specs.Further.{WereHeard, told_on}
use Rattle.motion_work.specs.Puts.{ArePut, IsPut, Put}
use Rattle.motion_work.specs.Seen.{AreMoves, AreOut, Started}
use Rattle.motion_work.specs.Told.{Told}
use Rattle.motion_stream.specs.News.{tells_read}
use Rattle.motion_stream.specs.Seen.{AreWhole, Going, MayBe, Seen}
use Rattle.motion_stream.specs.Texts.{IsReadOver, MayBecome}
use Rattle.motion_stream.specs.Uptakes.{IsNotLost}

-- All that was put before a machine's next turn is told by whole sections, whatever text follows, and each of
-- them was begun in one of these turns.
pub record ArePutBy (m : Machine) (seen : Seen) (ps : List Put) : Type 0 where
  pub count : length ps ≡ seen.next
  pub put : (whole : List ℕ) (all : List Started) → MayBe m seen whole all → ArePut m whole all 0 ps
  pub started : (whole : List ℕ) (all : List Started) → MayBe m seen whole all →
      All (λ s. s.start < seen.next + 260) all

-- a section that is begun in turn k: it starts 260 turns later, and has no units by then
pub record IsNew (m : Machine) (k : ℕ) (s : Started) : Type 0 where
  pub start : s.start ≡ k + 260
  pub late : s.start ≤ s.end
  pub none : (b j : ℕ) → b < length m.boards → j ≤ k → batch_at j (slice_index_or s.boards b []) ≡ []

-- What comes to the sections that were begun, and to the one that goes on behind them, in turn k: some of
-- moves come to be known whole; and one that goes on then did so before, or is begun in the turn.
pub record SectionsGoOn (k : ℕ) (begun : List Started) (going : Option Going) (after : List Started) (on : Option Going)
    : Type 0 where
  pub more : List Started
  pub are : after ≡ begun ++ more
  pub moves : AreMoves more
  pub goes : (g : Going) → on ≡ Some g →
      (g.start ≡ k + 260) ⊎ ((h : Going) × (going ≡ Some h) × (g.kind ≡ h.kind) × (g.start ≡ h.start))

-- whole sections as before turn k, and maybe one more that is begun in it
pub record AreGrown (m : Machine) (seen : Seen) (k : ℕ) (all : List Started) : Type 0 where
  pub old : List Started
  pub whole : AreWhole m seen.told seen.next seen.begun seen.going old
  pub are : (all ≡ old) ⊎ ((s : Started) × (all ≡ old ++ s ∷ []) × IsNew m k s)

-- How the text was read is told in turn k exactly where that is known and was not told before, and by that
-- turn all sections of the text ended and none of their units waits for a later one.
pub record TellsReading (m : Machine) (old new : Seen) (k : ℕ) (news : List NoteNews) : Type 0 where
  pub read : new.read ≡ (old.read || tells_read news)
  pub once : tells_read news ≡ true → old.read ≡ false
  pub out : tells_read news ≡ true → (whole : List ℕ) → MayBecome old.ended old.text whole →
      AreOut (length m.boards) k (length (program_sections m whole)) new.begun
  pub told : old.read ≡ false → IsReadOver m old.text old.ended → (whole : List ℕ) → MayBecome old.ended old.text whole
      → AreOut (length m.boards) k (length (program_sections m whole)) new.begun → tells_read news ≡ true

-- What was seen behind turn k, with this news: the same text, and the same sections, of which one more may
-- have been begun, and more was released. Further clock lines that the news tell hold; words told them since
-- the turn before. Of each board of which one was told since then that it may have, one is taken up. How the
-- text was read is told in its turn.
pub record IsSeenBehind (m : Machine) (old new : Seen) (k : ℕ) (news : List NoteNews) : Type 0 where
  pub text : new.text ≡ old.text
  pub ended : new.ended ≡ old.ended
  pub told : new.told ≡ told_on news old.told
  pub fresh : new.fresh ≡ []
  pub heard : WereHeard old.fresh news
  pub taken : (t : Told) → old.told ≡ Some t → All (IsNotLost m t.clocks k news) old.fresh
  pub next : new.next ≡ old.next + 1
  pub sections : SectionsGoOn k old.begun old.going new.begun new.going
  pub reading : TellsReading m old new k news
  pub grown : (all : List Started) → AreWhole m new.told new.next new.begun new.going all → AreGrown m old k all

-- the sections that were begun before turn k start before turn k + 260
abbrev pub HaveBegun : Machine → Seen → ℕ → Type 0
HaveBegun m seen k =
    (all : List Started) → AreWhole m seen.told seen.next seen.begun seen.going all → All (λ s. s.start < k + 260) all

-- What is put in turn k is told by whole sections of any text that what was seen behind it may become.
abbrev pub IsPutOf : Machine → Seen → Seen → ℕ → List Batch → Note → Type 0
IsPutOf m old new k batches note =
    HaveBegun m old k → (whole : List ℕ) (all : List Started) → MayBe m new whole all →
    IsPut m whole all k (record { batches = batches; note = note })
