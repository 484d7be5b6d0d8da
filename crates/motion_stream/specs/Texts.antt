-- A text that is read in pieces.
use Rattle.std.specs.Prelude.{◌≡◌, ℕ, Bool, true, false, List, [], ◌++◌, Some, None}
use Rattle.plan_types.specs.declared.machine.Machine.{Machine}
use Rattle.plan_types.specs.declared.plan.ReadEnd.{ReadEnd}
use Rattle.gcode_program.specs.declared.items.Item.{Item}
use Rattle.gcode_program.specs.Reader.{IsAll}
use Rattle.gcode_program.specs.Readers.{IsReaderOf, stop_of}
use Rattle.motion_stream.specs.declared.source.Source.{Source}

-- what a text may become of which this was read: once it ended it stays, and else more may follow
abbrev pub MayBecome : Bool → List ℕ → List ℕ → Type 0
MayBecome true text whole = whole ≡ text
MayBecome false text whole = (more : List ℕ) × (whole ≡ text ++ more)

-- what was read of a text behind one more piece, and whether it ended; nothing comes behind the end
abbrev pub text_after : List ℕ → Bool → List ℕ → List ℕ
text_after text true bytes = text
text_after text false bytes = text ++ bytes

-- whether a text has ended behind a piece
abbrev pub ended_after : Bool → Bool → Bool
ended_after true end = true
ended_after false end = end

-- Of a text that was read these things were told and taken, and those that wait stand behind them. Where the
-- reading goes on, that is what the reader told, and nothing before the first piece; once it is over, these
-- are all that the text tells, whatever follows.
pub record IsSourceOf (m : Machine) (s : Source) (text : List ℕ) (ended : Bool) (told : List Item) : Type 0 where
  pub ended_is : s.ended ≡ ended
  pub goes : s.end ≡ None → (ended ≡ false) × IsReaderOf s.reader m text (told ++ s.items.items)
  pub reads : s.end ≡ None → stop_of s.reader ≡ None
  pub first : s.end ≡ None → s.opened ≡ false → told ++ s.items.items ≡ []
  pub over : (e : ReadEnd) → s.end ≡ Some e → (whole : List ℕ) → MayBecome ended text whole →
      IsAll m whole e (told ++ s.items.items)

-- It is known how a text is read of which this was read, and which may have ended: no reading of it goes on.
abbrev pub IsReadOver : Machine → List ℕ → Bool → Type 0
IsReadOver m text ended = (s : Source) (told : List Item) → IsSourceOf m s text ended told → s.end ≡ None → ⊥

-- A source that went on: what it told behind it stands behind what waits; where the reading is over, nothing does.
pub record HasGrown (old new : Source) : Type 0 where
  pub more : List Item
  pub are : new.items.items ≡ old.items.items ++ more
  pub over : (e : ReadEnd) → old.end ≡ Some e → (more ≡ []) × (new.end ≡ Some e)
