-- What the motion machine's notes tell.
use Rattle.std.specs.Prelude.{Bool, true, false, List, [], ◌∷◌, Option, Some, None}
use Rattle.msg_code.specs.declared.talk.Note.{Note}
use Rattle.msg_code.specs.declared.talk.NoteNews.{NoteNews}
use Rattle.msg_code.specs.declared.talk.NoteNews.TheVariants as news
use Rattle.host_reactor.specs.declared.ordered.Known.{Known}
use Rattle.plan_types.specs.declared.machine.Machine.{Machine}
use Rattle.board_asking.specs.Asking.{more}
use Rattle.board_asking.specs.Clocks.{added_at}
use Rattle.axis_homing.specs.Homing.{homing_of}

-- what a reactor knows behind one piece of news: that a section was begun, that one ended, how the text was
-- read, or a further clock line of a board
abbrev pub known_behind : Machine → Known → NoteNews → Known
known_behind m r (news.Start section kind turn last moving) =
    record r {
      begun = Some (record { section = section; kind = kind; turn = turn });
      homing = homing_of m section kind turn last moving;
    }
known_behind m r (news.Done section turn) = record r { done = more r.done; ended = turn }
known_behind m r (news.Read end sections) = record r { reading = Some (record { end = end; sections = sections }) }
known_behind m r (news.Line board line from) = record r { clocks = added_at board from line r.clocks }

-- what it knows behind some news, told one after the other
abbrev pub told_all : Machine → List NoteNews → Known → Known
told_all m [] r = r
told_all m (n ∷ ns) r = told_all m ns (known_behind m r n)

-- what it knows behind the note of a turn, if one came: its news, and the next turn whose note may have some
abbrev pub noted : Machine → Option Note → Known → Known
noted m None r = r
noted m (Some note) r = record (told_all m note.news r) { clear = note.clear }

-- the news of a note; where none came, none
abbrev pub news_of : Option Note → List NoteNews
news_of None = []
news_of (Some note) = note.news

-- news of further clock lines alone
abbrev pub are_lines : List NoteNews → Bool
are_lines [] = true
are_lines (news.Line board line from ∷ ns) = are_lines ns
are_lines (other ∷ ns) = false

-- a note tells that the motion machine wanted memory
abbrev pub is_out : Option Note → Bool
is_out None = false
is_out (Some note) = note.out
