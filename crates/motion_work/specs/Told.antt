-- What words tell of the boards' clocks.
use Rattle.std.specs.Prelude.{ℕ, ◌*◌, ◌%◌, ◌^◌, ◌==◌, ◌&&◌, ◌||◌, Bool, true, false, List, [], ◌∷◌, map, max, nat_le, nat_lt, Option, Some, None, if◌then◌else◌}
use Rattle.plan_types.specs.Sections.{first_start}
use Rattle.msg_code.specs.declared.talk.WordMsg.{WordMsg}
use Rattle.msg_code.specs.declared.talk.WordNews.{WordNews}
use Rattle.msg_code.specs.declared.talk.WordNews.TheVariants as news
use Rattle.plan_types.specs.declared.machine.BoardDef.{BoardDef}
use Rattle.plan_types.specs.declared.machine.Machine.{Machine}
use Rattle.plan_types.specs.declared.plan.Line.{Line}
use Rattle.plan_types.specs.Clock.{turn_ns}
use Rattle.plan_types.specs.Lines.{Clocks, one_line}
use Rattle.motion_work.specs.declared.told.BoardLine.{BoardLine}

-- a line that a board may have when connecting ended in a turn: of its frequency, and from the beginning of a
-- turn that is not a later one
abbrev pub is_fit : BoardDef → ℕ → Line → Bool
is_fit b turn l = l.freq == b.freq && nat_le l.at (turn * turn_ns) && l.at % 1_000_000 == 0

-- one for each board
abbrev pub are_fit : List BoardDef → ℕ → List Line → Bool
are_fit [] turn [] = true
are_fit [] turn (l ∷ lines) = false
are_fit (b ∷ boards) turn [] = false
are_fit (b ∷ boards) turn (l ∷ lines) = is_fit b turn l && are_fit boards turn lines

-- the clock lines that a piece of news tells
abbrev pub clocks_in_news : Machine → ℕ → WordNews → Option (List Clocks)
clocks_in_news m turn (news.Lines lines) = if are_fit m.boards turn lines then Some (map one_line lines) else None
clocks_in_news m turn other = None

-- the first of two that is told
abbrev pub first_told : Option (List Clocks) → Option (List Clocks) → Option (List Clocks)
first_told (Some clocks) later = Some clocks
first_told None later = later

-- the first ones that some news tell
abbrev pub told_in : Machine → ℕ → List WordNews → Option (List Clocks)
told_in m turn [] = None
told_in m turn (n ∷ ns) = first_told (clocks_in_news m turn n) (told_in m turn ns)

-- a piece of news is that a homing group answered, its switch closed
abbrev pub is_homed : WordNews → Bool
is_homed news.Homed = true
is_homed other = false

-- some news tell it
abbrev pub tells_homed : List WordNews → Bool
tells_homed [] = false
tells_homed (n ∷ ns) = is_homed n || tells_homed ns

-- no word of a run has this turn or a later one
abbrev pub word_limit : ℕ
word_limit = 2 ^ 61

-- the clock lines that a word tells
abbrev pub told_of : Machine → WordMsg → Option (List Clocks)
told_of m w = if nat_lt w.turn word_limit then told_in m w.turn w.news else None

-- Connecting ended: the clock lines of the boards, and the first turn in which a section may start.
pub record Told : Type 0 where
  pub first : ℕ
  pub clocks : List Clocks

-- where clock lines were told, connecting ended in a turn
abbrev pub told_at : ℕ → Option (List Clocks) → Option Told
told_at turn None = None
told_at turn (Some clocks) = Some (record { first = first_start turn; clocks = clocks })

-- What is known of connecting behind a word, where the batches of turn `next` are made next. The first lines
-- that are told hold.
abbrev pub heard : Machine → ℕ → WordMsg → Option Told → Option Told
heard m next w (Some told) = Some told
heard m next w None = told_at (max next w.turn) (told_of m w)

-- the further clock lines that some news tell, each of one board
abbrev pub lines_in : List WordNews → List BoardLine
lines_in [] = []
lines_in (news.Line board line ∷ ns) = record { board = board; line = line } ∷ lines_in ns
lines_in (other ∷ ns) = lines_in ns
