-- How a motion machine takes up further clock lines of boards.
use Rattle.std.specs.Prelude.{◌≡◌, ◌⊎◌, ℕ, ◌+◌, ◌<◌, All, List, [], ◌∷◌, ◌++◌, length, slice_index_or, Some}
use Rattle.msg_code.specs.declared.talk.NoteNews.{NoteNews}
use Rattle.msg_code.specs.declared.talk.NoteNews.TheVariants as news
use Rattle.plan_types.specs.declared.machine.Machine.{Machine}
use Rattle.plan_types.specs.declared.plan.Line.{Line}
use Rattle.section_feed.specs.Boards.{MayTake}
use Rattle.section_feed.specs.Going.{most_ahead}
use Rattle.section_feed.specs.Lined.{HasLine}
use Rattle.section_feed.specs.Sections.{boards_of, next_of, sets_of}
use Rattle.section_feed.specs.Sets.{BoardSet}
use Rattle.section_feed.specs.declared.section.SectionStream.{SectionStream}
use Rattle.motion_work.specs.declared.told.BoardLine.{BoardLine}
use Rattle.motion_work.specs.Further.{AreFurther, WasHeard, WereHeard, told_on}
use Rattle.motion_work.specs.Told.{Told}
use Rattle.plan_types.specs.Lines.{Clocks}
use Rattle.plan_types.specs.Sections.{clocks_at}
use Rattle.motion_stream.specs.declared.course.Course.{Course}
use Rattle.motion_stream.specs.declared.course.Open.{Open}
use Rattle.motion_stream.specs.declared.course.Open.TheVariants as opens
use Rattle.motion_stream.specs.Courses.{IsCourseBy, IsCourseOf}
use Rattle.motion_stream.specs.Seen.{Seen}

-- a section that goes on may take up a line on a board, which holds from a turn on
pub record MayAdd (s : SectionStream) (board turn : ℕ) (line : Line) : Type 0 where
  pub there : board < boards_of s
  pub may : (d : BoardSet) → MayTake (slice_index_or (sets_of s) board d).clocks turn line
  pub behind : next_of s + most_ahead < turn

-- a further clock line may be added to the section that goes on, if one does
abbrev pub MayAddTo : Open → ℕ → ℕ → Line → Type 0
MayAddTo (opens.Goes s homes) board turn line = MayAdd s board turn line
MayAddTo other board turn line = Unit {0}

-- it took it up, if one goes on
abbrev pub AddsTo : ℕ → ℕ → Line → Open → Open → Type 0
AddsTo board turn line (opens.Goes s homes) new =
    (t : SectionStream) × (new ≡ opens.Goes t homes) × HasLine board turn line s t
AddsTo board turn line opens.Nothing new = new ≡ opens.Nothing

-- what a machine has seen where these news of further lines are told
abbrev pub lined : Seen → List NoteNews → Seen
lined seen further =
    record {
      text = seen.text;
      ended = seen.ended;
      read = seen.read;
      told = told_on further seen.told;
      fresh = seen.fresh;
      next = seen.next;
      begun = seen.begun;
      going = seen.going;
    }

-- and where none was told since the last turn
abbrev pub emptied : Seen → Seen
emptied seen =
    record {
      text = seen.text;
      ended = seen.ended;
      read = seen.read;
      told = seen.told;
      fresh = [];
      next = seen.next;
      begun = seen.begun;
      going = seen.going;
    }

-- Of some lines that were heard of a machine has taken each up before turn k, or passed it over; some news
-- were told before.
pub record HasTold (m : Machine) (seen : Seen) (heard_of : List BoardLine) (k : ℕ) (old new : List NoteNews)
    (c : Course) : Type 0 where
  pub more : List NoteNews
  pub are : new ≡ old ++ more
  pub further : AreFurther k more
  pub heard : WereHeard heard_of more
  pub is : IsCourseBy m c (lined seen more) (k + 260) (k + 261)

-- the planner takes a further clock line up in a turn, or passes it over
abbrev pub TakesOne : Machine → Course → ℕ → BoardLine → List NoteNews → List NoteNews → Course → Type 0
TakesOne m c k one old new next =
    (seen : Seen) (heard_of : List BoardLine) → WasHeard one.board one.line heard_of →
    IsCourseBy m c seen (k + 260) (k + 261) → HasTold m seen heard_of k old new next

-- so of some lines
abbrev pub TakesEach : Machine → Course → ℕ → List BoardLine → List NoteNews → List NoteNews → Course → Type 0
TakesEach m c k waiting old new next =
    (seen : Seen) (heard_of : List BoardLine) → All (λ l. WasHeard l.board l.line heard_of) waiting →
    IsCourseBy m c seen (k + 260) (k + 261) → HasTold m seen heard_of k old new next

-- some news tell a further clock line of a board
abbrev pub TellsOf : ℕ → List NoteNews → Type 0
TellsOf board [] = ⊥
TellsOf board (news.Line b line from ∷ ns) = (b ≡ board) ⊎ TellsOf board ns
TellsOf board (other ∷ ns) = TellsOf board ns

-- A line that waits is taken up in turn k where its board may have it then, or the news tell another one of that board.
abbrev pub IsNotLost : Machine → List Clocks → ℕ → List NoteNews → BoardLine → Type 0
IsNotLost m clocks k told l =
    l.board < length m.boards → MayTake (clocks_at clocks l.board) (k + 277) l.line → TellsOf l.board told

-- Lines were taken up, by some boards' lines before and behind it, and some news before and behind it: what
-- was told stays, and a board of which none is told has the lines that it had.
pub record TakesMore (old new : List Clocks) (before told : List NoteNews) : Type 0 where
  pub stay : (b : ℕ) → TellsOf b before → TellsOf b told
  pub same : (b : ℕ) → TellsOf b told ⊎ (clocks_at new b ≡ clocks_at old b)

-- A machine took up further clock lines before turn k, and this is the news of them: words told each since
-- the turn before, and it holds from turn k + 277 on. None is left out: of each board of which a line was
-- told since the turn before that it may have, one is taken up. Then no line waits.
pub record HasTakenUp (m : Machine) (seen : Seen) (k : ℕ) (further : List NoteNews) (new : Course) : Type 0 where
  pub further_are : AreFurther k further
  pub heard : WereHeard seen.fresh further
  pub taken : (t : Told) → seen.told ≡ Some t → All (IsNotLost m t.clocks k further) seen.fresh
  pub is : IsCourseBy m new (lined (emptied seen) further) (k + 260) (k + 261)

-- the planner takes up what further clock lines it heard
abbrev pub TakesUp : Machine → Course → ℕ → List NoteNews → Course → Type 0
TakesUp m old k further new = (seen : Seen) → IsCourseOf m old seen → HasTakenUp m seen k further new
