-- The reading of a trace: its first fault, or its turns.
use Rattle.std.specs.Prelude.{◌≡◌, ℕ, ◌+◌, ◌-◌, ◌*◌, ◌≤◌, ◌&&◌, List, [], ◌∷◌, codes, length, nat_lt, nat_le, if◌then◌else◌, Option, Some, None, Result, Ok, Err, Vec, ⊤}
use Rattle.std.specs.Str.{bytes_eq}
use Rattle.plan_types.specs.Numbers.{is_above}
use Rattle.text_core.specs.Bytes.{capital, is_digit, Text}
use Rattle.text_core.specs.Lines.{lines_of}
use Rattle.text_core.specs.Numbers.{is_natural, value_of}
use Rattle.text_core.specs.Words.{worded_lines}
use Rattle.plan_types.specs.declared.cause.TraceKind.{TraceKind}
use Rattle.plan_types.specs.declared.cause.TraceKind.TheVariants.{BadLine, NotRising, TooLarge}
use Rattle.frame_dump.specs.declared.fault.TraceFault.{TraceFault}
use Rattle.frame_dump.specs.declared.fault.TraceFault.TheVariants.{At, Memory}
use Rattle.frame_dump.specs.declared.trace.TraceTurn.{TraceTurn}

-- the value of a hexadecimal digit, in capital or small letters
abbrev pub hex_value : ℕ → Option ℕ
hex_value b =
    if is_digit b then Some (b - 48)
    else (if nat_le 65 (capital b) && nat_le (capital b) 70 then Some (capital b - 55) else None)

-- the byte of two digits, the high one first
abbrev pub byte_of : Option ℕ → Option ℕ → Option ℕ
byte_of None low = None
byte_of (Some high) None = None
byte_of (Some high) (Some low) = Some (16 * high + low)

-- a byte before others, where all are read
abbrev pub before_bytes : Option ℕ → Option (List ℕ) → Option (List ℕ)
before_bytes None bytes = None
before_bytes (Some b) None = None
before_bytes (Some b) (Some bytes) = Some (b ∷ bytes)

-- the bytes that pairs of hexadecimal digits spell
abbrev pub hex_bytes : Text → Option (List ℕ)
hex_bytes [] = Some []
hex_bytes (a ∷ []) = None
hex_bytes (a ∷ b ∷ digits) = before_bytes (byte_of (hex_value a) (hex_value b)) (hex_bytes digits)

-- the bytes of a turn, spelled by 2 to 2,048 digits
abbrev pub content_of : Text → Option (List ℕ)
content_of word = if nat_le 2 (length word) && nat_le (length word) 2_048 then hex_bytes word else None

-- the number of a turn: decimal digits, at most 10^9
abbrev pub turn_number : Text → Option ℕ
turn_number word = if is_natural word && nat_le (value_of word) 1_000_000_000 then Some (value_of word) else None

-- a turn of a trace, where its number and its bytes are read
abbrev pub turn_with : Option ℕ → Option (List ℕ) → Option TraceTurn
turn_with None content = None
turn_with (Some turn) None = None
turn_with (Some turn) (Some content) = Some (record { turn = turn; bytes = content })

-- what the words of a line say: `turn`, a number and the bytes of that turn
abbrev pub trace_turn : List Text → Option TraceTurn
trace_turn (word ∷ number ∷ digits ∷ []) =
    if bytes_eq word (codes "turn") then turn_with (turn_number number) (content_of digits) else None
trace_turn other = None

-- a turn has to be above the last one
abbrev pub rising : Option ℕ → Option TraceTurn → Result TraceTurn TraceKind
rising last None = Err BadLine
rising last (Some t) = if is_above t.turn last then Ok t else Err NotRising

-- a turn before others, or the first fault among those
abbrev pub with_first : TraceTurn → Result (List TraceTurn) TraceFault → Result (List TraceTurn) TraceFault
with_first t (Ok turns) = Ok (t ∷ turns)
with_first t (Err fault) = Err fault

-- a turn that was read from the line of this number, and the later ones; or its fault
abbrev pub then_turns : ℕ → Result TraceTurn TraceKind → (ℕ → Result (List TraceTurn) TraceFault) →
    Result (List TraceTurn) TraceFault
then_turns number (Ok t) later = with_first t (later t.turn)
then_turns number (Err kind) later = Err (At number kind)

-- the turns of lines that have words, behind a turn of this number, or the first fault among them
abbrev pub turns_from : Option ℕ → List (ℕ × List Text) → Result (List TraceTurn) TraceFault
turns_from last [] = Ok []
turns_from last (line ∷ lines) =
    then_turns line.0 (rising last (trace_turn line.1)) (λ turn. turns_from (Some turn) lines)

-- the turns of a text, or its first fault; `#` begins a comment
unfoldable pub trace_of_text : Text → Result (List TraceTurn) TraceFault
trace_of_text text =
    if nat_lt 16_777_216 (length text) then Err (At 0 TooLarge) else turns_from None (worded_lines 35 1 (lines_of text))

-- the numbers of turns rise from one on that is allowed, up to 10^9
abbrev pub AreTurns : ℕ → List TraceTurn → Type 0
AreTurns low [] = Unit {0}
AreTurns low (t ∷ turns) = (low ≤ t.turn) × (t.turn ≤ 1_000_000_000) × AreTurns (t.turn + 1) turns

-- a reader's answer is this, but for want of memory
abbrev pub AnswersTrace : Result (List TraceTurn) TraceFault → Result (List TraceTurn) TraceFault → Type 0
AnswersTrace (Ok turns) wanted = wanted ≡ Ok turns
AnswersTrace (Err Memory) wanted = ⊤
AnswersTrace (Err (At line kind)) wanted = wanted ≡ Err (At line kind)

-- a line's fault is of this kind, but for want of memory
abbrev pub IsFaultAt : ℕ → Result TraceTurn TraceKind → TraceFault → Type 0
IsFaultAt number wanted Memory = ⊤
IsFaultAt number wanted (At line kind) = (line ≡ number) × (wanted ≡ Err kind)

-- the same of a reader of turns
abbrev pub AnswersTurns : {Z : Type 0} → Result (Vec TraceTurn Z) TraceFault → Result (List TraceTurn) TraceFault →
    Type 0
AnswersTurns (Ok turns) wanted = wanted ≡ Ok turns.items
AnswersTurns (Err Memory) wanted = ⊤
AnswersTurns (Err (At line kind)) wanted = wanted ≡ Err (At line kind)
