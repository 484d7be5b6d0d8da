-- The lines of a dump.
use Rattle.std.specs.Prelude.{◌≡◌, ℕ, ◌+◌, ◌%◌, ◌==◌, ◌<◌, List, [], ◌∷◌, ◌++◌, length, false, if◌then◌else◌}
use Rattle.block_frame.specs.declared.Found.{Found}
use Rattle.block_frame.specs.declared.Found.TheVariants.{Block, Skip, NeedMore, Bad}
use Rattle.msg_dict.specs.Dictionary.{Named}
use Rattle.msg_code.specs.Text.{IsText, Joins, Refuses}
use Rattle.frame_dump.specs.declared.line.DumpLine.{DumpLine}
use Rattle.frame_dump.specs.declared.line.DumpLine.TheVariants as line
use Rattle.frame_dump.specs.declared.trace.TraceTurn.{TraceTurn}
use Rattle.frame_dump.specs.Things.{Thing, AreThings, taken_behind}

-- The lines of a block's content: a command, and those of what follows it; or what is left, where no command
-- can be read.
abbrev pub AreContent : List Named → List ℕ → List DumpLine → Type 0
AreContent es content [] = content ≡ []
AreContent es content (line.Command c ∷ lines) = Joins (λ t. IsText es c t) (λ t. AreContent es t lines) content
AreContent es content (line.Rest bytes kind ∷ lines) =
    (0 < length content) × (bytes ≡ length content) × Refuses es content kind × (lines ≡ [])
AreContent es content (line.Skip turn ∷ lines) = ⊥
AreContent es content (line.Bad turn bytes ∷ lines) = ⊥
AreContent es content (line.Block turn number taken ∷ lines) = ⊥
AreContent es content (line.Open bytes ∷ lines) = ⊥

-- the lines of a block in a turn, where a number is expected
abbrev pub IsBlockIn : List Named → ℕ → ℕ → ℕ → List ℕ → List DumpLine → Type 0
IsBlockIn es turn number expected content lines =
    (inner : List DumpLine) × AreContent es content inner
    × (lines ≡ line.Block turn number (number == expected) ∷ inner)

-- what is expected behind a block of a number
abbrev pub end_behind : ℕ → ℕ → ℕ
end_behind expected number = if number == expected then (expected + 1) % 16 else expected

-- the lines of what is found in a turn, behind so many taken blocks; a block that isn't taken has its commands too
abbrev pub Shows : List Named → ℕ → ℕ → Found → ℕ → List DumpLine → Type 0
Shows es taken turn (Block number content) count lines =
    IsBlockIn es turn number (taken % 16) content.items lines
Shows es taken turn Skip count lines = lines ≡ line.Skip turn ∷ []
Shows es taken turn Bad count lines = lines ≡ line.Bad turn count ∷ []
Shows es taken turn NeedMore count lines = ⊥

-- the lines of several things
abbrev pub ShowAll : List Named → ℕ → List Thing → List DumpLine → Type 0
ShowAll es taken [] lines = lines ≡ []
ShowAll es taken (t ∷ ts) lines =
    (first rest : List DumpLine) × (lines ≡ first ++ rest) × Shows es taken t.turn t.found t.count first
    × ShowAll es (taken_behind taken t.found) ts rest

-- the line of the bytes that wait in the end, where there are some
abbrev pub open_lines : List ℕ → List DumpLine
open_lines [] = []
open_lines (b ∷ bytes) = line.Open (length (b ∷ bytes)) ∷ []

-- the dump of a trace: the lines of its things, and of the bytes that wait in the end
pub record IsDump (es : List Named) (turns : List TraceTurn) (lines : List DumpLine) : Type 0 where
  pub things : List Thing
  pub waits : List ℕ
  pub shown : List DumpLine
  pub are : AreThings false [] turns things waits
  pub shows : ShowAll es 0 things shown
  pub lines_are : lines ≡ shown ++ open_lines waits

-- lines of a kind were added behind others
abbrev pub AddsLines : (List DumpLine → Type 0) → List DumpLine → List DumpLine → Type 0
AddsLines Are before after = (more : List DumpLine) × Are more × (after ≡ before ++ more)
