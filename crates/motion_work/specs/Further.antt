-- Further clock lines of boards, as notes tell them.
use Rattle.std.specs.Prelude.{◌≡◌, ◌⊎◌, ℕ, ◌+◌, ◌*◌, Bool, true, false, List, [], ◌∷◌, Option, Some, None, set}
use Rattle.clock_line.specs.Kept.{added}
use Rattle.msg_code.specs.declared.talk.NoteNews.{NoteNews}
use Rattle.msg_code.specs.declared.talk.NoteNews.TheVariants as news
use Rattle.plan_types.specs.declared.plan.Line.{Line}
use Rattle.plan_types.specs.Clock.{turn_ns}
use Rattle.plan_types.specs.Lines.{Clocks}
use Rattle.plan_types.specs.Sections.{clocks_at}
use Rattle.motion_work.specs.declared.told.BoardLine.{BoardLine}
use Rattle.motion_work.specs.Told.{Told}

-- the lines of all boards, of which one has one more, from a time on
abbrev pub noted_line : ℕ → Line → ℕ → List Clocks → List Clocks
noted_line board line from clocks = set clocks board (added (clocks_at clocks board) from line)

-- the lines of all boards behind some news
abbrev pub noted_lines : List NoteNews → List Clocks → List Clocks
noted_lines [] clocks = clocks
noted_lines (news.Line board line from ∷ ns) clocks = noted_lines ns (noted_line board line from clocks)
noted_lines (other ∷ ns) clocks = noted_lines ns clocks

-- what is known of connecting behind them
abbrev pub told_on : List NoteNews → Option Told → Option Told
told_on ns None = None
told_on ns (Some told) = Some (record { first = told.first; clocks = noted_lines ns told.clocks })

-- a line of a board is one of some
abbrev pub WasHeard : ℕ → Line → List BoardLine → Type 0
WasHeard board line [] = ⊥
WasHeard board line (l ∷ ls) = ((l.board ≡ board) × (l.line ≡ line)) ⊎ WasHeard board line ls

-- News of further lines that a note of turn k tells: each holds from turn k + 277 on.
abbrev pub AreFurther : ℕ → List NoteNews → Type 0
AreFurther k [] = Unit {0}
AreFurther k (news.Line board line from ∷ ns) = (from ≡ (k + 277) * turn_ns) × AreFurther k ns
AreFurther k (other ∷ ns) = ⊥

-- all further lines that some news tell were heard of
abbrev pub WereHeard : List BoardLine → List NoteNews → Type 0
WereHeard heard [] = Unit {0}
WereHeard heard (news.Line board line from ∷ ns) = WasHeard board line heard × WereHeard heard ns
WereHeard heard (other ∷ ns) = WereHeard heard ns
