-- What a planner put in the turns of a run.
use Rattle.std.specs.Prelude.{◌≡◌, ◌⊎◌, ℕ, ◌+◌, ◌^◌, ◌<◌, ◌≤◌, Bool, true, false, All, List, [], ◌∷◌, ◌++◌, length, map, Option, None, Some}
use Rattle.gcode_program.specs.Programs.{program_sections}
use Rattle.msg_code.specs.declared.talk.Note.{Note}
use Rattle.msg_code.specs.declared.talk.NoteNews.{NoteNews}
use Rattle.msg_code.specs.declared.talk.Piece.{Piece}
use Rattle.msg_code.specs.declared.talk.WordMsg.{WordMsg}
use Rattle.msg_code.specs.declared.unit.Batch.{Batch}
use Rattle.plan_types.specs.declared.machine.Machine.{Machine}
use Rattle.plan_types.specs.declared.plan.Section.{Section}
use Rattle.plan_types.specs.declared.plan.SectionKind.TheVariants.{Home}
use Rattle.plan_types.specs.Lines.{Clocks}
use Rattle.plan_types.specs.Sections.{clocks_at}
use Rattle.clock_line.specs.Kept.{AreKept}
use Rattle.motion_work.specs.Puts.{ArePut, Put}
use Rattle.motion_work.specs.Seen.{AreBoardClocks, AreStarted, Started}
use Rattle.motion_work.specs.declared.told.BoardLine.{BoardLine}
use Rattle.motion_work.specs.Further.{WereHeard, told_on}
use Rattle.motion_work.specs.Told.{Told, heard, lines_in}
use Rattle.motion_stream.specs.Motions as motion
use Rattle.motion_stream.specs.Motions.{CanTurnPlanner, Hears, Makes, Planner, TakesText, lines_kept}
use Rattle.motion_stream.specs.Texts.{MayBecome}
use Rattle.motion_stream.specs.Uptakes.{IsNotLost}
use Rattle.motion_stream.specs.Wholes.{AreSentIn}
use Rattle.session_work.specs.declared.machines.MotionMachine.{Ghosts as Motion}
use Rattle.session_work.specs.declared.table.MotionTurn.{MotionTurn}
use Rattle.session_work.specs.Bares.{bare_batch, bare_note}
use Rattle.session_work.specs.Rows.{copies, gather}
use Rattle.laws_board.specs.plans.Answers.{EndByWords, TookNoneAhead}

-- A machine of a run is a planner, as this function shows it: it wants the words that that wants and is
-- hungry as that is, and what it hears, reads and makes, that does.
pub record IsPlanning {M : Type 0} (g : Motion M) (view : M → Planner) : Type 0 where
  pub wants : (x : M) (k : ℕ) → g.wants x k ≡ motion.wants (view x) k
  pub hungry : (x : M) (k : ℕ) → g.hungry x k ≡ motion.hungry (view x) k
  pub hears : (x y : M) (w : WordMsg) → g.hears x w y → Hears (view x) w (view y)
  pub reads : (x y : M) (p : Piece) → g.reads x p y → TakesText (view x) p.bytes p.end (view y)
  pub turns : (x y : M) (k : ℕ) (batches : List Batch) (note : Note) → g.turns x k batches note y →
      CanTurnPlanner (view x) k × Makes (view x) k batches note (view y)

-- a planner, as a machine of a run
abbrev pub planning : Motion Planner
planning = record {
  boards = λ p. length p.machine.boards;
  wants = λ p k. motion.wants p k;
  hungry = λ p k. motion.hungry p k;
  can = λ p k. CanTurnPlanner p k;
  hears = λ p w q. Hears p w q;
  reads = λ p piece q. TakesText p piece.bytes piece.end q;
  turns = λ p k batches note q. CanTurnPlanner p k × Makes p k batches note q;
}

-- what was put in a turn, and in some
abbrev pub put_of : MotionTurn → Put
put_of t = record { batches = t.batches; note = t.note }

-- what was put in some turns
abbrev pub puts_of : List MotionTurn → List Put
puts_of ts = map put_of ts

-- what was read of a text: its bytes so far, and whether it ended
pub record ReadText : Type 0 where
  pub bytes : List ℕ
  pub ended : Bool

-- nothing was read of a text
abbrev pub nothing_read : ReadText
nothing_read = record { bytes = []; ended = false }

-- what is read behind a piece
abbrev pub read_on : ReadText → Piece → ReadText
read_on r p = record { bytes = r.bytes ++ p.bytes; ended = p.end }

-- and behind some
abbrev pub read_all : ReadText → List Piece → ReadText
read_all r [] = r
read_all r (p ∷ ps) = read_all (read_on r p) ps

-- what was read in some turns
abbrev pub read_by : ReadText → List MotionTurn → ReadText
read_by r [] = r
read_by r (t ∷ ts) = read_by (read_all r t.pieces) ts

-- what is known of connecting behind some words that are taken in a turn
abbrev pub connecting_heard : Machine → ℕ → List WordMsg → Option Told → Option Told
connecting_heard m k [] told = told
connecting_heard m k (w ∷ ws) told = connecting_heard m k ws (heard m k w told)

-- what is known of it behind a turn, by its words and by the further clock lines that its note tells
abbrev pub told_behind : Machine → ℕ → MotionTurn → Option Told → Option Told
told_behind m k t told = told_on t.note.news (connecting_heard m k t.words told)

-- and behind some turns, of which this is the first one's number
abbrev pub told_of : Machine → ℕ → List MotionTurn → Option Told → Option Told
told_of m k [] told = told
told_of m k (t ∷ ts) told = told_of m (k + 1) ts (told_behind m k t told)

-- In turns from a number on, before which so many words were taken, as far as a word has the number of its
-- place: the word of 64 turns before or a later one is taken in each; and where nothing is known of
-- connecting yet, that of the same turn.
abbrev pub TookInTime : Machine → ℕ → ℕ → List MotionTurn → Option Told → Type 0
TookInTime m k taken [] told = Unit {0}
TookInTime m k taken (t ∷ ts) told =
    (connecting_heard m k t.words told ≡ None → k < taken + length t.words) × (k < taken + length t.words + 64)
    × TookInTime m (k + 1) (taken + length t.words) ts (told_behind m k t told)

-- where the boards' clock lines are known, their ticks begin in range
abbrev pub BeginInRange : Machine → Option Told → Type 0
BeginInRange m None = Unit {0}
BeginInRange m (Some t) = (b : ℕ) → b < length m.boards → (clocks_at t.clocks b).first.clock < 2 ^ 62

-- so in some turns, of which this is the first one's number, behind the words of each
abbrev pub AllInRange : Machine → ℕ → List MotionTurn → Option Told → Type 0
AllInRange m k [] told = Unit {0}
AllInRange m k (t ∷ ts) told =
    BeginInRange m (connecting_heard m k t.words told) × AllInRange m (k + 1) ts (told_behind m k t told)

-- in a turn nothing is put but bare messages, for so many boards
abbrev pub IsBare : ℕ → ℕ → MotionTurn → Type 0
IsBare n k t =
    (halted : Bool) × (out : Bool) × (t.batches ≡ copies n (bare_batch k halted)) × (t.note ≡ bare_note k out)

-- so in some turns, of which this is the first one's number
abbrev pub AreBare : ℕ → ℕ → List MotionTurn → Type 0
AreBare n k [] = Unit {0}
AreBare n k (t ∷ ts) = IsBare n k t × AreBare n (k + 1) ts

-- What the turns of a planner are told by: a text, what is known of connecting, and the first sections of the
-- text, those that were begun.
pub record PlannerInput : Type 0 where
  pub text : List ℕ
  pub told : Option Told
  pub begun : List Started

-- some sections that were begun are the first ones of a text
abbrev pub AreFirstOf : Machine → List ℕ → List Started → Type 0
AreFirstOf m text begun = (others : List Section) × (program_sections m text ≡ map (λ s. s.section) begun ++ others)

-- no section is begun before the boards' clock lines are known; then they start one behind the other
abbrev pub AreToldBy : Machine → Option Told → List Started → Type 0
AreToldBy m None begun = begun ≡ []
AreToldBy m (Some t) begun = AreStarted m t.clocks t.first begun

-- the lines of each board of a machine hold one after the other, where its ticks begin in range
abbrev pub AreAllKept : Machine → List Clocks → Type 0
AreAllKept m clocks =
    (b : ℕ) → b < length m.boards → (clocks_at clocks b).first.clock < 2 ^ 62 → AreKept (clocks_at clocks b)

-- what holds of the boards' clock lines, where they are known, and of the first turn in which a section may start
abbrev pub AreKnown : Machine → Option Told → Type 0
AreKnown m None = Unit {0}
AreKnown m (Some t) = AreBoardClocks m t.clocks t.first × AreAllKept m t.clocks × (1_260 ≤ t.first)

-- the last of some sections that were begun homes, and starts by a turn
pub record LastHomes (k : ℕ) (begun : List Started) : Type 0 where
  pub past : List Started
  pub s : Started
  pub are : begun ≡ past ++ s ∷ []
  pub axis : ℕ
  pub home : s.section.kind ≡ Home axis
  pub by : s.start ≤ k

-- one of some words ends the run
abbrev pub AnyEnds : List WordMsg → Type 0
AnyEnds [] = ⊥
AnyEnds (w ∷ ws) = (w.end ≡ true) ⊎ AnyEnds ws

-- one of some pieces of the text says that no more can be read, and was read behind the last of so many words
abbrev pub AnyStops : ℕ → List Piece → Type 0
AnyStops heard [] = ⊥
AnyStops heard (p ∷ ps) = ((p.stop ≡ true) × (p.turn + 1 ≡ heard)) ⊎ AnyStops heard ps

-- In turn k, before which so many words were taken, no more of the text could be read. Where the word of turn
-- k itself was taken in it, nothing was known of connecting, or the last section homes and had started.
pub record IsUnread (k taken : ℕ) (told : Option Told) (begun : List Started) (t : MotionTurn) : Type 0 where
  pub stops : AnyStops (taken + length t.words) t.pieces
  pub low : taken + length t.words ≤ k + 1
  pub early : taken + length t.words ≡ k + 1 → (told ≡ None) ⊎ LastHomes k begun

-- Why nothing but bare messages is put from a turn on: no word follows, memory was wanted, or no more of the
-- text could be read. In this last case alone the planner still heard the words of the first of these turns,
-- its last one.
abbrev pub StopsAt : ℕ → ℕ → Option Told → List Started → List MotionTurn → List MotionTurn → Type 0
StopsAt k taken told begun [] last = last ≡ []
StopsAt k taken told begun (t ∷ ts) last =
    ((AnyEnds t.words ⊎ (t.note.out ≡ true)) × (last ≡ [])) ⊎ (IsUnread k taken told begun t × (last ≡ t ∷ []))

-- the words that were taken in some turns
abbrev pub words_in : List MotionTurn → List WordMsg
words_in ts = gather (λ t. t.words) ts

-- The further clock lines that some words tell which are taken in a turn, those of the word by which
-- connecting ended and of the words behind it among them. Those of words before it are passed over.
abbrev pub fresh_in : Machine → ℕ → List WordMsg → Option Told → List BoardLine
fresh_in m k [] told = []
fresh_in m k (w ∷ ws) told = lines_kept (heard m k w told) (lines_in w.news) ++ fresh_in m k ws (heard m k w told)

-- once the boards' clock lines are known: of each board of which one of some further lines was told that the
-- board may have in a turn, the news of its note tell one as taken up
abbrev pub LoseNone : Machine → ℕ → List NoteNews → List BoardLine → Option Told → Type 0
LoseNone m k news fresh None = Unit {0}
LoseNone m k news fresh (Some told) = All (IsNotLost m told.clocks k news) fresh

-- In each of some turns, of which this is the first one's number: the further lines that the note tells as
-- taken up are of those that words told which were taken in that turn, and of each board of which these tell
-- one that it may have, one is taken up.
abbrev pub TakeUpLines : Machine → ℕ → List MotionTurn → Option Told → Type 0
TakeUpLines m k [] told = Unit {0}
TakeUpLines m k (t ∷ ts) told =
    WereHeard (fresh_in m k t.words told) t.note.news
    × LoseNone m k t.note.news (fresh_in m k t.words told) (connecting_heard m k t.words told)
    × TakeUpLines m (k + 1) ts (told_behind m k t told)

-- Turns of a planner from turn k on, behind these that were put, this text, this that was told and so many
-- words. The first turns are those of the planner: all that was put by their end is told by a text that goes
-- on with what was read of it, and its first sections, each of which was begun in one of these turns, and of
-- which those that home end by the word that tells of their answer, in one of these turns or in the next one,
-- where no more of the text could be read in it; what was put of a section is in order, with triples that
-- cover as many steps as one can; no word is taken ahead of its turn; further clock lines are taken up in the
-- turn in which the word that tells them is taken, and of each board of which one is told that it may have,
-- one is taken up. From the first turn on in which memory was wanted, or no text could be read, or nothing
-- was to follow, all is bare.
pub record PlansFrom (m : Machine) (n k : ℕ) (before : List Put) (text : ReadText) (told : Option Told) (taken : ℕ)
    (ts : List MotionTurn) : Type 0 where
  pub seen : PlannerInput
  pub made : List MotionTurn
  pub bare : List MotionTurn
  pub last : List MotionTurn
  pub are : ts ≡ made ++ bare
  pub goes_on : MayBecome (read_by text made).ended (read_by text made).bytes seen.text
  pub of_text : AreFirstOf m seen.text seen.begun
  pub sections : AreToldBy m seen.told seen.begun
  pub known : AreKnown m seen.told
  pub put : ArePut m seen.text seen.begun 0 (before ++ puts_of made)
  pub sent : AreSentIn m seen.told (length (before ++ puts_of made)) seen.begun
  pub lines : TakeUpLines m k made told
  pub started : All (λ s. s.start < length (before ++ puts_of made) + 260) seen.begun
  pub small : length (before ++ puts_of made) ≤ 2 ^ 42
  pub told_is : seen.told ≡ told_of m k made told
  pub in_time : TookInTime m k taken made told
  pub in_range : AllInRange m k made told
  pub ahead : TookNoneAhead k taken made
  pub answers : EndByWords k taken (made ++ last) seen.begun
  pub are_bare : AreBare n (k + length made) bare
  pub stops : StopsAt (k + length made) (taken + length (words_in made)) seen.told seen.begun bare last

-- turns of a planner to which nothing was told before
abbrev pub Plans : Machine → ℕ → List MotionTurn → Type 0
Plans m n ts = PlansFrom m n 0 [] nothing_read None 0 ts

-- what was read of a text in any of the first ones of some turns is its beginning, and all of it where it ended
abbrev pub AreReadInOrder : ReadText → List MotionTurn → List ℕ → Type 0
AreReadInOrder text ts whole =
    (front rest : List MotionTurn) → ts ≡ front ++ rest →
    MayBecome (read_by text front).ended (read_by text front).bytes whole
