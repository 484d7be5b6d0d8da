-- Up to which turn the notes begin and end no section.
use Rattle.std.specs.Prelude.{◌≡◌, ◌⊎◌, ℕ, ◌+◌, ◌-◌, ◌/◌, ◌<◌, ◌≤◌, ◌&&◌, ◌||◌, All, Bool, true, false, List, [], ◌∷◌, ◌++◌, is_none, is_some, not, max, min, nat_lt, Some, None, if◌then◌else◌}
use Rattle.gcode_program.specs.declared.items.Item.{Item}
use Rattle.gcode_program.specs.declared.items.Item.TheVariants as items
use Rattle.gcode_program.specs.Programs.{program_sections}
use Rattle.msg_code.specs.declared.talk.NoteNews.{NoteNews}
use Rattle.msg_code.specs.declared.talk.NoteNews.TheVariants as news
use Rattle.plan_types.specs.declared.machine.Machine.{Machine}
use Rattle.plan_types.specs.declared.plan.Section.{Section}
use Rattle.plan_types.specs.Clock.{turn_ns}
use Rattle.section_feed.specs.declared.section.SectionStream.{SectionStream}
use Rattle.section_feed.specs.Queues.{settled_to}
use Rattle.section_feed.specs.Sections.{queue_of}
use Rattle.motion_work.specs.Seen.{Started, ready_after}
use Rattle.motion_work.specs.Told.{Told}
use Rattle.motion_stream.specs.declared.course.Course.{Course}
use Rattle.motion_stream.specs.declared.course.Open.{Open}
use Rattle.motion_stream.specs.declared.course.Open.TheVariants as opens
use Rattle.motion_stream.specs.Motions.{is_nothing_left}
use Rattle.motion_stream.specs.Seen.{AreWhole, Seen, sections_in}
use Rattle.motion_stream.specs.Texts.{MayBecome}

-- no turn of a run is as late
abbrev pub never : ℕ
never = 18_446_744_073_709_551_615

-- the turn in which the settled moves of a section end
abbrev pub settled_turn : SectionStream → ℕ
settled_turn s = if nat_lt (settled_to (queue_of s) / turn_ns) never then settled_to (queue_of s) / turn_ns else 0

-- the first turn in which the next section may be begun, by what waits of the text
abbrev pub next_begin : ℕ → List Item → ℕ
next_begin ready [] = ready - 260
next_begin ready (items.Begin kind dwell ∷ rest) = min never (ready + dwell) - 260
next_begin ready (other ∷ rest) = ready - 260

-- where no section goes on whose end is not known: that in which the last one ends; or in which the next one is begun
abbrev pub idle_clear : Course → ℕ
idle_clear c =
    if c.goes then c.ready - 260
    else (if c.connected
    then (if (is_nothing_left c.source.items.items && is_some c.source.end) && c.read then never
    else max (next_begin c.ready c.source.items.items) c.next)
    else c.next)

-- it is not told in the next turn how the text was read
abbrev pub tells_nothing : Course → Bool
tells_nothing c = c.read || (c.goes || (is_none c.source.end || not (is_nothing_left c.source.items.items)))

-- The first turn whose note may begin or end a section: of a homing section its start; of a section of moves
-- the turn in which those end that are settled.
abbrev pub clear_by : Course → Open → ℕ
clear_by c opens.Nothing = idle_clear c
clear_by c (opens.Goes s homes) = if homes then max c.next c.start else max (settled_turn s) c.next

-- the first later turn whose note may begin or end a section
abbrev pub clear_of : Course → ℕ
clear_of c = clear_by c c.current

-- it ends before a turn, or in another one or later
abbrev pub EndsOutside : ℕ → ℕ → Started → Type 0
EndsOutside next n s = (s.end < next) ⊎ (n ≤ s.end)

-- Turns are clear up to n, from the next one on, whatever text and answers follow: none of the sections that
-- were begun ends in them, and none of the text's sections behind these is begun in them, 260 turns before it
-- starts.
pub record IsClearTo (m : Machine) (seen : Seen) (n : ℕ) : Type 0 where
  pub ends : (all : List Started) → AreWhole m seen.told seen.next seen.begun seen.going all →
      All (EndsOutside seen.next n) all
  pub begins : (t : Told) (whole : List ℕ) (all : List Started) (others : List Section) (s : Section) →
      seen.told ≡ Some t → MayBecome seen.ended seen.text whole →
      AreWhole m seen.told seen.next seen.begun seen.going all →
      program_sections m whole ≡ sections_in all ++ s ∷ others → n + 260 ≤ ready_after t.first all + s.dwell
  pub unheard : seen.told ≡ None → n ≤ seen.next

-- news of a section, that it begins or ends
abbrev pub is_of_section : NoteNews → Bool
is_of_section (news.Read end sections) = false
is_of_section (news.Line board line from) = false
is_of_section other = true

-- some of the news tell of a section
abbrev pub tells_sections : List NoteNews → Bool
tells_sections [] = false
tells_sections (n ∷ ns) = is_of_section n || tells_sections ns
