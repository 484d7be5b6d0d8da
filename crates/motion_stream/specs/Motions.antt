-- The motion machine, as its callers see it.
use Rattle.std.specs.Prelude.{◌≡◌, ℕ, ◌+◌, ◌-◌, ◌*◌, ◌^◌, ◌<◌, ◌&&◌, Bool, true, false, is_none, List, [], ◌∷◌, ◌++◌, length, map, nat_le, nat_lt, Option, Some, None, if◌then◌else◌}
use Rattle.std.specs.List.{range_with_len}
use Rattle.gcode_program.specs.declared.items.Item.{Item}
use Rattle.gcode_program.specs.Readers.{section_with}
use Rattle.msg_code.specs.declared.talk.Note.{Note}
use Rattle.msg_code.specs.declared.talk.WordMsg.{WordMsg}
use Rattle.msg_code.specs.declared.unit.Batch.{Batch}
use Rattle.plan_types.specs.declared.machine.Machine.{Machine}
use Rattle.plan_types.specs.Clock.{turn_ns}
use Rattle.plan_types.specs.Sections.{clocks_at, is_home}
use Rattle.plan_types.specs.declared.plan.Move.{Move}
use Rattle.section_stream.specs.Looking.{IsFuture}
use Rattle.section_feed.specs.Queues.{is_taking, settled_to}
use Rattle.section_feed.specs.Sections.{queue_of}
use Rattle.motion_work.specs.Seen.{Started}
use Rattle.motion_work.specs.declared.told.BoardLine.{BoardLine}
use Rattle.motion_work.specs.Told.{Told, heard, lines_in, tells_homed}
use Rattle.motion_stream.specs.declared.course.Course.{Course}
use Rattle.motion_stream.specs.declared.course.Open.{Open}
use Rattle.motion_stream.specs.declared.course.Open.TheVariants as opens
use Rattle.motion_stream.specs.Courses.{IsCourseOf}
use Rattle.motion_stream.specs.Puts.{IsSeenBehind, IsPutOf}
use Rattle.motion_stream.specs.Seen.{Going, Seen}
use Rattle.motion_stream.specs.Texts.{ended_after, text_after}

-- a machine on a printer, and where it is
pub record Planner : Type 0 where
  pub machine : Machine
  pub course : Course

-- it has seen this
abbrev pub IsPlannerOf : Planner → Seen → Type 0
IsPlannerOf p seen = IsCourseOf p.machine p.course seen

-- a homing section waits for its answer in a turn
abbrev pub waits_by : Open → ℕ → ℕ → Bool
waits_by opens.Nothing start k = false
waits_by (opens.Goes s homes) start k = homes && nat_le start k

-- The word that must be taken before the batches of turn k: while connecting, and while a homing section
-- waits for its answer, that of the same turn, else that of 64 turns before.
abbrev pub wants : Planner → ℕ → Option ℕ
wants p k =
    if p.course.connected
    then (if waits_by p.course.current p.course.start k then Some k else (if nat_lt k 64 then None else Some (k - 64)))
    else Some k

-- nothing waits
abbrev pub is_nothing_left : List Item → Bool
is_nothing_left [] = true
is_nothing_left (i ∷ is) = false

-- Of what is needed for turn k something is not read: of a section that goes on the moves that are settled
-- end before turn k + 261; or the next section has not begun in the text, and may start by turn k + 260.
abbrev pub lacks : Course → Open → ℕ → Bool
lacks c (opens.Goes s homes) k = is_taking (queue_of s) && nat_lt (settled_to (queue_of s)) ((k + 261) * turn_ns)
lacks c opens.Nothing k = c.connected && is_nothing_left c.source.items.items && nat_lt c.ready (k + 261)

-- It needs more of the text before the batches of turn k: the first piece, and else as long as it is not
-- known how the text is read and something is lacking.
abbrev pub hungers : Course → ℕ → Bool
hungers c k = is_none c.source.end && (if c.source.opened then lacks c c.current k else true)

-- the planner asks for text before it makes a turn
abbrev pub hungry : Planner → ℕ → Bool
hungry p k = hungers p.course k

-- the boards' clock lines have ticks for a run
abbrev pub AreEarly : Machine → Course → Type 0
AreEarly m c =
    c.connected ≡ true → (b : ℕ) → b < length m.boards → (clocks_at c.lines.each.items b).first.clock < 2 ^ 62

-- turn k is its next one, and nothing in it passes a limit
pub record CanTurnPlanner (p : Planner) (k : ℕ) : Type 0 where
  pub next : p.course.next ≡ k
  pub small : k < 2 ^ 42
  pub early : AreEarly p.machine p.course

-- what was seen behind a piece of the text, by which moves were added to a section that goes on
abbrev pub read_on : Seen → List ℕ → Bool → Option Going → Seen
read_on seen bytes end going =
    record {
      text = text_after seen.text seen.ended bytes;
      ended = ended_after seen.ended end;
      read = seen.read;
      told = seen.told;
      fresh = seen.fresh;
      next = seen.next;
      begun = seen.begun;
      going = going;
    }

-- a section that goes on, of which more moves were read, and maybe its end
pub record IsLonger (old new : Going) : Type 0 where
  pub kind : new.kind ≡ old.kind
  pub dwell : new.dwell ≡ old.dwell
  pub start : new.start ≡ old.start
  pub last : new.last ≡ old.last
  pub moving : new.moving ≡ old.moving
  pub released : new.released ≡ old.released
  pub moves : (all : List Move) → IsFuture new.goes new.moves all → IsFuture old.goes old.moves all

-- the section that goes on is still that one, with more moves, or there is none
abbrev pub IsMore : Option Going → Option Going → Type 0
IsMore None None = Unit {0}
IsMore None (Some new) = ⊥
IsMore (Some old) None = ⊥
IsMore (Some old) (Some new) = IsLonger old new

-- a word may tell the boards' clocks, that a homing group answered, and further clock lines of boards
abbrev pub with_lines : Machine → Seen → WordMsg → Seen
with_lines m seen w = record {
  text = seen.text;
  ended = seen.ended;
  read = seen.read;
  told = heard m seen.next w seen.told;
  fresh = seen.fresh;
  next = seen.next;
  begun = seen.begun;
  going = seen.going;
}

-- A section that goes on as it is where it ends in a turn: it has the moves that were read and the units that
-- were released.
abbrev pub started_until : Machine → ℕ → Going → Started
started_until m next g = record {
  section = section_with g.kind g.moves g.dwell;
  start = g.start;
  end = next;
  last = g.last;
  moving = g.moving;
  boards = map g.released (range_with_len 0 (length m.boards));
}

-- The section that an answer ends, where the batches of turn `next` are made next: the one that goes on,
-- where it homes and has started. Else the answer is passed over.
abbrev pub hears_answer : Machine → ℕ → Option Going → Option Started
hears_answer m next None = None
hears_answer m next (Some g) = if is_home g.kind && nat_le g.start next then Some (started_until m next g) else None

-- the sections that are known whole, and the one that goes on, behind that
abbrev pub begun_with : List Started → Option Started → List Started
begun_with begun None = begun
begun_with begun (Some s) = begun ++ s ∷ []

-- the section that goes on, unless it has ended
abbrev pub going_with : Option Going → Option Started → Option Going
going_with going None = going
going_with going (Some s) = None

-- the section that a word ends
abbrev pub ended_in : Machine → Seen → WordMsg → Option Started
ended_in m seen w = if tells_homed w.news then hears_answer m seen.next seen.going else None

-- what was seen behind a word that may end a homing section
abbrev pub with_answer : Machine → Seen → WordMsg → Seen
with_answer m seen w = record {
  text = seen.text;
  ended = seen.ended;
  read = seen.read;
  told = seen.told;
  fresh = seen.fresh;
  next = seen.next;
  begun = begun_with seen.begun (ended_in m seen w);
  going = going_with seen.going (ended_in m seen w);
}

-- The further lines that a word tells are kept until the next turn, once connecting ended; before it they are
-- passed over.
abbrev pub lines_kept : Option Told → List BoardLine → List BoardLine
lines_kept None ls = []
lines_kept (Some t) ls = ls

-- what was seen behind the further clock lines of a word
abbrev pub with_further : Seen → WordMsg → Seen
with_further seen w = record {
  text = seen.text;
  ended = seen.ended;
  read = seen.read;
  told = seen.told;
  fresh = seen.fresh ++ lines_kept seen.told (lines_in w.news);
  next = seen.next;
  begun = seen.begun;
  going = seen.going;
}

-- what was seen behind a word whose further lines are passed over, and behind one of which all is taken
abbrev pub with_heed : Machine → Seen → WordMsg → Seen
with_heed m seen w = with_answer m (with_lines m seen w) w

-- what was seen behind a word
abbrev pub with_word : Machine → Seen → WordMsg → Seen
with_word m seen w = with_further (with_heed m seen w) w

-- it takes a word
abbrev pub Hears : Planner → WordMsg → Planner → Type 0
Hears old w new =
    (new.machine ≡ old.machine)
    × ((seen : Seen) → IsPlannerOf old seen → IsPlannerOf new (with_word old.machine seen w))

-- it takes a piece of the text
abbrev pub TakesText : Planner → List ℕ → Bool → Planner → Type 0
TakesText old bytes end new =
    (new.machine ≡ old.machine)
    × ((seen : Seen) → IsPlannerOf old seen →
    (going : Option Going) × IsMore seen.going going × IsPlannerOf new (read_on seen bytes end going))

-- a turn from what was seen
abbrev pub TurnsCourse : Machine → Course → ℕ → List Batch → Note → Course → Type 0
TurnsCourse m old k batches note new =
    (seen : Seen) → IsCourseOf m old seen →
    (next : Seen) × IsSeenBehind m seen next k note.news × IsPutOf m seen next k batches note × IsCourseOf m new next

-- it makes turn k
abbrev pub Makes : Planner → ℕ → List Batch → Note → Planner → Type 0
Makes old k batches note new = (new.machine ≡ old.machine)
    × TurnsCourse old.machine old.course k batches note new.course
