-- A homing section from the note that begins it on.
use Rattle.std.specs.Prelude.{◌≡◌, ◌<◌, ◌≤◌, ℕ, List, [], ◌∷◌, length}
use Rattle.plan_types.specs.declared.machine.Machine.{Machine}
use Rattle.msg_code.specs.declared.talk.NoteNews.{NoteNews}
use Rattle.msg_code.specs.declared.talk.NoteNews.TheVariants as news
use Rattle.msg_code.specs.declared.talk.WordNews.{WordNews}
use Rattle.msg_code.specs.declared.talk.WordNews.TheVariants as word
use Rattle.wire_scene.specs.declared.scene.Switch.{Switch}
use Rattle.trigger_group.specs.declared.order.Member.{Member}
use Rattle.host_reactor.specs.declared.ordered.Phase.TheVariants.{Connecting}
use Rattle.host_reactor.specs.Notes.{noted, news_of}
use Rattle.host_reactor.specs.Runs.{Came, known_by, last_reacted}
use Rattle.laws_homing.specs.home_runs.Sections.{IsOf}

-- a note begins no section
abbrev pub BeginsNone : List NoteNews → Type 0
BeginsNone [] = Unit {0}
BeginsNone (news.Start section kind turn last moving ∷ ns) = ⊥
BeginsNone (n ∷ ns) = BeginsNone ns

-- a word tells that a group answered
abbrev pub TellsHomed : List WordNews → Type 0
TellsHomed [] = ⊥
TellsHomed (word.Homed ∷ ns) = Unit {0}
TellsHomed (n ∷ ns) = TellsHomed ns

-- in some turns from a number on: in the first one, past connecting, a homing section with this start and
-- these members is known by the note; no later note begins a section; and no word tells of an answer
abbrev pub IsBegunIn : Machine → List Switch → ℕ → ℕ → List Member → List Came → Type 0
IsBegunIn m switches from start members [] = Unit {0}
IsBegunIn m switches from start members (c ∷ before) =
    (length before ≡ from →
    ((known_by m switches before).phase ≡ Connecting → ⊥)
    × IsOf start members (noted m c.note (known_by m switches before)).homing)
    × (from < length before → BeginsNone (news_of c.note))
    × (from ≤ length before → TellsHomed (last_reacted m switches c before).ordered.word.news → ⊥)
    × IsBegunIn m switches from start members before
