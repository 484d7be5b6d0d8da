-- What a motion machine has put in all turns so far.
use Rattle.std.specs.Prelude.{◌≡◌, ◌⊎◌, ℕ, ◌+◌, ◌==◌, ◌++◌, List, [], ◌∷◌, length, map, if◌then◌else◌}
use Rattle.gcode_program.specs.Programs.{program_end, program_sections}
use Rattle.msg_code.specs.declared.talk.Note.{Note}
use Rattle.msg_code.specs.declared.talk.NoteNews.{NoteNews}
use Rattle.msg_code.specs.declared.talk.NoteNews.TheVariants as news
use Rattle.msg_code.specs.declared.unit.Batch.{Batch}
use Rattle.plan_types.specs.declared.machine.Machine.{Machine}
use Rattle.motion_work.specs.Feeds.{batches_at}
use Rattle.motion_work.specs.Further.{AreFurther}
use Rattle.motion_work.specs.Seen.{AreOut, Started}
use Rattle.motion_work.specs.Turns.{done_notes}

-- the batches of a turn, one for each board, and its note
pub record Put : Type 0 where
  pub batches : List Batch
  pub note : Note

-- the sections, from a number on, that are begun in a turn: 260 turns before they start
abbrev pub begun_notes : ℕ → ℕ → List Started → List NoteNews
begun_notes k i [] = []
begun_notes k i (s ∷ ss) =
    if s.start == k + 260 then news.Start i s.section.kind s.start s.last s.moving ∷ begun_notes k (i + 1) ss
    else begun_notes k (i + 1) ss

-- how the text was read, or nothing
abbrev pub IsReadNews : Machine → List ℕ → List NoteNews → Type 0
IsReadNews m text told =
    (told ≡ []) ⊎ (told ≡ news.Read (program_end m text) (length (program_sections m text)) ∷ [])

-- What was put in turn k, told by the text and all sections: each board's batch has what the sections release
-- in that turn, and the note tells the sections that end in it and those that are begun in it, maybe how the
-- text was read, once all its sections ended and none of their units waits, and behind all else the further
-- clock lines of boards that were taken up.
pub record IsPut (m : Machine) (text : List ℕ) (begun : List Started) (k : ℕ) (p : Put) : Type 0 where
  pub batches_are : p.batches ≡ batches_at (length m.boards) k (map (λ s. s.boards) begun)
  pub turn : p.note.turn ≡ k
  pub read : List NoteNews
  pub is_read : IsReadNews m text read
  pub out : (read ≡ []) ⊎ AreOut (length m.boards) k (length (program_sections m text)) begun
  pub further : List NoteNews
  pub are_further : AreFurther k further
  pub news_are : p.note.news ≡ done_notes k 0 begun ++ (begun_notes k 0 begun ++ (read ++ further))

-- what was put in some turns one behind the other, from turn k on
abbrev pub ArePut : Machine → List ℕ → List Started → ℕ → List Put → Type 0
ArePut m text begun k [] = Unit {0}
ArePut m text begun k (p ∷ ps) = IsPut m text begun k p × ArePut m text begun (k + 1) ps
