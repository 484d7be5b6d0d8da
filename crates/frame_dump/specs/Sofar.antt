-- A trace that is listed while it is read.
use Rattle.std.specs.Prelude.{◌≡◌, ℕ, ◌+◌, ◌%◌, ◌≤◌, Bool, List, ◌∷◌, ◌++◌, length, drop, false, [], Option, Some, None, Result, Ok, Err}
use Rattle.msg_dict.specs.Dictionary.{Named}
use Rattle.frame_dump.specs.declared.line.DumpLine.{DumpLine}
use Rattle.frame_dump.specs.declared.trace.TraceTurn.{TraceTurn}
use Rattle.frame_dump.specs.Things.{Thing, AreIn, AreThings, all_taken}
use Rattle.frame_dump.specs.Dumps.{ShowAll}
use Rattle.frame_dump.specs.declared.fault.TraceFault.{TraceFault}
use Rattle.frame_dump.specs.Traces.{hex_bytes}

-- all that stands in the bytes of a turn was listed, behind so many taken blocks, and these bytes are left
pub record ListsLine (es : List Named) (turn taken : ℕ) (dropping : Bool) (bytes : List ℕ) (before : List DumpLine)
    (left : List ℕ) (drops : Bool) (expected : ℕ) (after : List DumpLine) : Type 0 where
  pub things : List Thing
  pub lines : List DumpLine
  pub are : AreIn turn dropping bytes things left drops
  pub shows : ShowAll es taken things lines
  pub number : expected ≡ all_taken taken things % 16
  pub added : after ≡ before ++ lines

-- of the bytes of a turn the first ones, so many, were listed
pub record LineSofar (es : List Named) (turn taken : ℕ) (dropping : Bool) (bytes : List ℕ) (before : List DumpLine)
    (at : ℕ) (drops : Bool) (expected : ℕ) (after : List DumpLine) : Type 0 where
  pub things : List Thing
  pub lines : List DumpLine
  pub within : at ≤ length bytes
  pub more : (ts : List Thing) (left : List ℕ) (last : Bool) → AreIn turn drops (drop at bytes) ts left last →
      AreIn turn dropping bytes (things ++ ts) left last
  pub shows : ShowAll es taken things lines
  pub number : expected ≡ all_taken taken things % 16
  pub added : after ≡ before ++ lines

-- the first turns of a trace were listed, and these are left
pub record DumpSofar (es : List Named) (turns rest : List TraceTurn) (waiting : List ℕ) (drops : Bool) (expected : ℕ)
    (lines : List DumpLine) : Type 0 where
  pub things : List Thing
  pub more : (ts : List Thing) (waits : List ℕ) → AreThings drops waiting rest ts waits →
      AreThings false [] turns (things ++ ts) waits
  pub shows : ShowAll es 0 things lines
  pub number : expected ≡ all_taken 0 things % 16

-- bytes before others, where those are spelled
abbrev pub with_bytes : List ℕ → Option (List ℕ) → Option (List ℕ)
with_bytes front None = None
with_bytes front (Some bytes) = Some (front ++ bytes)

-- the first pairs of some digits were read
pub record BytesSofar (digits old new rest : List ℕ) : Type 0 where
  pub front : List ℕ
  pub added : new ≡ old ++ front
  pub bytes : with_bytes front (hex_bytes rest) ≡ hex_bytes digits

-- turns before others, where those are read
abbrev pub with_turns : List TraceTurn → Result (List TraceTurn) TraceFault → Result (List TraceTurn) TraceFault
with_turns front (Ok turns) = Ok (front ++ turns)
with_turns front (Err fault) = Err fault

-- the least number that may follow a turn, and the least that may follow several
abbrev pub low_behind : Option ℕ → ℕ
low_behind None = 0
low_behind (Some last) = last + 1

-- the least number that a turn behind these may have
abbrev pub low_after : ℕ → List TraceTurn → ℕ
low_after low [] = low
low_after low (t ∷ turns) = low_after (t.turn + 1) turns
