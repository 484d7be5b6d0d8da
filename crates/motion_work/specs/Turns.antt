-- What a motion machine gives in a turn, and how it goes on.
use Rattle.std.specs.Prelude.{ℕ, ◌+◌, ◌==◌, List, [], ◌∷◌, if◌then◌else◌}
use Rattle.msg_code.specs.declared.talk.NoteNews.{NoteNews}
use Rattle.msg_code.specs.declared.talk.NoteNews.TheVariants as news
use Rattle.motion_work.specs.Seen.{Started}

-- the sections, from a number on, that end in a turn
abbrev pub done_notes : ℕ → ℕ → List Started → List NoteNews
done_notes k i [] = []
done_notes k i (s ∷ ss) = if s.end == k then news.Done i k ∷ done_notes k (i + 1) ss else done_notes k (i + 1) ss

-- sections that are begun, from a number on
abbrev pub start_notes : ℕ → List Started → List NoteNews
start_notes i [] = []
start_notes i (s ∷ ss) = news.Start i s.section.kind s.start s.last s.moving ∷ start_notes (i + 1) ss
