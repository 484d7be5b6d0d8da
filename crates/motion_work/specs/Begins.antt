-- News of a section.
use Rattle.std.specs.Prelude.{ℕ, ◌+◌, ◌-◌, ◌==◌, ◌&&◌, Bool, List, [], ◌∷◌, Option, Some, None, if◌then◌else◌}
use Rattle.msg_code.specs.declared.talk.NoteNews.{NoteNews}
use Rattle.msg_code.specs.declared.talk.NoteNews.TheVariants as news

-- news that there may be, as a list
abbrev pub news_items : Option NoteNews → List NoteNews
news_items None = []
news_items (Some n) = n ∷ []

-- the last of so many sections ends in a turn, behind which the next one may start 260 turns later
abbrev pub done_news : Bool → ℕ → ℕ → ℕ → Option NoteNews
done_news goes ready place k = if goes && ready == k + 260 then Some (news.Done (place - 1) k) else None
