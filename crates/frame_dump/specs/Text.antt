-- The text of a dump and of a replay.
use Rattle.std.specs.Prelude.{ℕ, ℤ, ◌+◌, ◌/◌, ◌%◌, Bool, true, false, List, [], ◌∷◌, ◌++◌, codes, decimal, nat_lt, if◌then◌else◌}
use Rattle.std.specs.Fmt.{signed_decimal}
use Rattle.report_text.specs.Text.{direction_word}
use Rattle.text_core.specs.Bytes.{before}
use Rattle.plan_types.specs.declared.plan.BoardState.{BoardState}
use Rattle.plan_types.specs.declared.plan.BoardState.TheVariants.{Running, Shut}
use Rattle.plan_types.specs.declared.plan.Pulse.{Pulse}
use Rattle.msg_dict.specs.Table.{format_text}
use Rattle.msg_code.specs.declared.cmd.Cmd.{Cmd}
use Rattle.msg_code.specs.declared.cmd.Cmd.TheVariants as cmd
use Rattle.msg_code.specs.declared.CodeFault.{CodeFault}
use Rattle.msg_code.specs.declared.CodeFault.TheVariants as fault
use Rattle.msg_code.specs.declared.Param.{Param}
use Rattle.msg_code.specs.declared.Param.TheVariants as param
use Rattle.msg_code.specs.Table.{params_of, row_of}
use Rattle.report_text.specs.Pieces.{joined}
use Rattle.frame_dump.specs.declared.line.DumpLine.{DumpLine}
use Rattle.frame_dump.specs.declared.line.DumpLine.TheVariants as line

-- a hexadecimal digit, in capitals
abbrev pub hex_digit : ℕ → ℕ
hex_digit n = if nat_lt n 10 then 48 + n else 55 + n

-- bytes, each as two hexadecimal digits
abbrev pub hex_text : List ℕ → List ℕ
hex_text [] = []
hex_text (b ∷ bytes) = hex_digit (b / 16) ∷ hex_digit (b % 16) ∷ hex_text bytes

-- the name of a command: its format up to the first blank
abbrev pub command_name : Cmd → List ℕ
command_name c = before 32 (format_text (row_of c))

-- the text of a parameter: a number in decimal digits, bytes in hexadecimal ones
abbrev pub param_text : Param → List ℕ
param_text (param.Number n) = decimal n
param_text (param.Bytes bytes) = hex_text bytes.items

-- parameters, each behind a blank
abbrev pub params_text : List Param → List ℕ
params_text [] = []
params_text (p ∷ ps) = 32 ∷ param_text p ++ params_text ps

-- the parameters of steps, of which the last has its sign
abbrev pub steps_text : ℕ → ℕ → ℕ → ℤ → List ℕ
steps_text oid interval count add =
    joined (codes " " ∷ decimal oid ∷ codes " " ∷ decimal interval ∷ codes " " ∷ decimal count ∷ codes " "
    ∷ signed_decimal add ∷ [])

-- the parameters of a command, each behind a blank
abbrev pub arguments_text : Cmd → List ℕ
arguments_text (cmd.QueueStep oid interval count add) = steps_text oid interval count add
arguments_text c = params_text (params_of c)

-- the line of a command
abbrev pub command_text : Cmd → List ℕ
command_text c = joined (codes "cmd " ∷ command_name c ∷ arguments_text c ∷ codes "\n" ∷ [])

-- the end of a block's line: whether the board took it
abbrev pub taken_word : Bool → List ℕ
taken_word true = codes " taken\n"
taken_word false = codes " dropped\n"

-- why no command is read
abbrev pub kind_word : CodeFault → List ℕ
kind_word fault.UnknownId = codes " UnknownId\n"
kind_word fault.Short = codes " Short\n"
kind_word fault.UnknownName = codes " UnknownName\n"

-- the text of a line of a dump, with its line feed
abbrev pub line_text : DumpLine → List ℕ
line_text (line.Skip turn) = joined (codes "skip " ∷ decimal turn ∷ codes "\n" ∷ [])
line_text (line.Bad turn bytes) = joined (codes "bad " ∷ decimal turn ∷ codes " " ∷ decimal bytes ∷ codes "\n" ∷ [])
line_text (line.Block turn number taken) =
    joined (codes "block " ∷ decimal turn ∷ codes " " ∷ decimal number ∷ taken_word taken ∷ [])
line_text (line.Command c) = command_text c
line_text (line.Rest bytes kind) = joined (codes "rest " ∷ decimal bytes ∷ kind_word kind ∷ [])
line_text (line.Open bytes) = joined (codes "open " ∷ decimal bytes ∷ codes "\n" ∷ [])

-- the text of a dump: its lines in order
abbrev pub dump_text : List DumpLine → List ℕ
dump_text [] = []
dump_text (l ∷ lines) = line_text l ++ dump_text lines

-- the line of a pulse of a board
abbrev pub pulse_text : List ℕ → Pulse → List ℕ
pulse_text board p =
    joined
    (codes "pulse " ∷ board ∷ codes " " ∷ decimal p.stepper ∷ codes " " ∷ decimal p.tick ∷ direction_word p.up ∷ [])

-- the lines of several pulses of a board
abbrev pub pulses_text : List ℕ → List Pulse → List ℕ
pulses_text board [] = []
pulses_text board (p ∷ ps) = pulse_text board p ++ pulses_text board ps

-- the line of a board's state
abbrev pub state_text : BoardState → List ℕ
state_text Running = codes "state running\n"
state_text (Shut reason tick first) =
    joined
    (codes "state shut " ∷ decimal reason ∷ codes " " ∷ decimal tick ∷ codes " " ∷ decimal first ∷ codes "\n" ∷ [])

-- the text of a replay: the pulses in order, and then the state
abbrev pub replay_text : List ℕ → List Pulse → BoardState → List ℕ
replay_text board pulses state = pulses_text board pulses ++ state_text state
