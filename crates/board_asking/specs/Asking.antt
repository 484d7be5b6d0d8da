-- What a board is asked, what answers, and when it is asked again.
use Rattle.std.specs.Prelude.{ℕ, ◌+◌, ◌-◌, ◌*◌, ◌%◌, ◌^◌, ◌==◌, ◌&&◌, Bool, true, false, List, [], ◌∷◌, length, drop, map, nat_le, nat_lt, min, Option, Some, None, if◌then◌else◌}
use Rattle.clock_line.specs.declared.sample.Sample.{Sample}
use Rattle.clock_line.specs.Samples.{better}
use Rattle.msg_code.specs.declared.cmd.Cmd.{Cmd}
use Rattle.msg_code.specs.declared.cmd.Cmd.TheVariants as cmd
use Rattle.msg_code.specs.declared.talk.News.{News}
use Rattle.msg_code.specs.declared.talk.State.{State}
use Rattle.board_asking.specs.declared.asking.Stage.{Stage}
use Rattle.board_asking.specs.declared.asking.Stage.TheVariants.{Identify, Uptime, Configure, Config, Connected}
use Rattle.board_asking.specs.declared.asking.Put.{Put}
use Rattle.board_asking.specs.declared.asking.Asking.{Asking}
use Rattle.board_asking.specs.declared.setup.Setup.{Setup}
use Rattle.board_asking.specs.Machine.{control_bytes, fitting, setup_command}

-- one more; what is counted here stays far below 2 ^ 64
abbrev pub more : ℕ → ℕ
more n = min (n + 1) (2 ^ 64 - 1)

-- a board that was asked nothing
abbrev pub new_asking : Asking
new_asking =
    record {
      stage = Identify 0;
      since = None;
      missed = 0;
      first = 0;
      owed = 0;
      put = None;
      samples = 0;
      best = None;
      waits = false;
    }

-- a block that ends with a `get_uptime` was put on the line in a turn
abbrev pub was_put : ℕ → Asking → ℕ → Asking
was_put turn a number = record a { owed = a.owed - 1; put = Some (record { number = number; turn = turn }) }

-- so for each of some blocks that were put in a turn, by their numbers
abbrev pub were_put : ℕ → List ℕ → Asking → Asking
were_put turn [] a = a
were_put turn (n ∷ ns) a = were_put turn ns (was_put turn a n)

-- an answer counts that comes by the third turn after the asking was queued
abbrev pub is_in_time : ℕ → Option ℕ → Bool
is_in_time turn None = false
is_in_time turn (Some since) = nat_le (turn - since) 3

-- a block stands right behind the one that was put
abbrev pub is_behind : Option Put → ℕ → Bool
is_behind None number = false
is_behind (Some put) number = number == put.number + 1

-- a clock comes in the block behind that of the last `get_uptime`, and none is still to be put on the line
abbrev pub tells_clock : Asking → ℕ → Bool
tells_clock a number = (a.owed == 0) && is_behind a.put number

-- the turn in which a block was put
abbrev pub put_turn : Option Put → ℕ
put_turn None = 0
put_turn (Some put) = put.turn

-- the sample that an answer in a turn gives
abbrev pub sample_of : Asking → ℕ → ℕ → ℕ → Sample
sample_of a turn high clock = record { sent = put_turn a.put; got = turn; clock = high * 2 ^ 32 + clock }

-- the better of two samples, where there is a first one
abbrev pub best_of : Option Sample → Sample → Sample
best_of None s = s
best_of (Some best) s = better best s

-- the asking that is out is answered, and the next stage is this one
abbrev pub settled : Asking → Stage → Asking
settled a stage = record a { stage = stage; since = None; missed = 0 }

-- the dictionary comes in pieces of 40 bytes, and ends with a shorter one
abbrev pub after_piece : Asking → ℕ → ℕ → Asking
after_piece a offset size = settled a (if nat_lt size 40 then Uptime else Identify ((offset + 40) % 2 ^ 32))

-- eight samples are taken
abbrev pub after_clock : Asking → Sample → Asking
after_clock a s =
    record (settled a (if nat_le 8 (more a.samples) then Configure 0 else Uptime)) {
      samples = more a.samples;
      best = Some (best_of a.best s);
    }

-- an asking behind a piece of the dictionary, where it is the piece that was asked for
abbrev pub if_piece : Asking → ℕ → ℕ → ℕ → Option Asking
if_piece a offset of size = if offset == of then Some (after_piece a offset size) else None

-- an asking behind a clock, where it answers the last `get_uptime`
abbrev pub if_clock : ℕ → Asking → ℕ → ℕ → ℕ → Option Asking
if_clock turn a number high clock =
    if tells_clock a number then Some (after_clock a (sample_of a turn high clock)) else None

-- once a board is connected, an answer gives the newest sample
abbrev pub after_drift : Asking → Sample → Asking
after_drift a s = record (settled a Connected) { best = Some s }

-- so once the board is connected
abbrev pub if_drift : ℕ → Asking → ℕ → ℕ → ℕ → Option Asking
if_drift turn a number high clock =
    if tells_clock a number then Some (after_drift a (sample_of a turn high clock)) else None

-- an asking behind the board's word that its configuration is complete
abbrev pub if_configured : Asking → ℕ → Option Asking
if_configured a is_config = if is_config == 1 then Some (settled a Connected) else None

-- what an answer that came in a turn makes of an asking, where it answers it
abbrev pub answered : ℕ → Asking → Stage → ℕ → Cmd → Option Asking
answered turn a (Identify offset) number (cmd.IdentifyResponse of bytes) = if_piece a offset of (length bytes.items)
answered turn a Uptime number (cmd.Uptime high clock) = if_clock turn a number high clock
answered turn a Config number (cmd.Config is_config crc is_shutdown move_count) = if_configured a is_config
answered turn a Connected number (cmd.Uptime high clock) = if_drift turn a number high clock
answered turn a stage number answer = None

-- an asking that was answered, else another one
abbrev pub or_asking : Option Asking → Asking → Asking
or_asking None a = a
or_asking (Some a) b = a

-- the first of the news that answers
abbrev pub hears_first : ℕ → List News → Asking → Asking
hears_first turn [] a = a
hears_first turn (n ∷ news) a = or_asking (answered turn a a.stage n.number n.answer) (hears_first turn news a)

-- what the state of a turn makes of an asking
abbrev pub listens : Asking → State → Asking
listens a s =
    let b = were_put s.turn s.asked a in
    (if is_in_time s.turn b.since then hears_first s.turn s.news b else b)

-- nothing of a configuration is left to be queued
abbrev pub is_over : List Setup → Bool
is_over [] = true
is_over (s ∷ ss) = false

-- the stage behind a turn: once all of the configuration is queued, the board is asked for it
abbrev pub ready_stage : List Setup → Stage → Stage
ready_stage setups (Configure n) = if is_over (drop n setups) then Config else Configure n
ready_stage setups stage = stage

-- an asking as a turn begins, with its stage
abbrev pub ready : List Setup → Asking → Asking
ready setups a = record a { stage = ready_stage setups a.stage }

-- a board is asked where nothing is out, or what is out was queued four turns ago
abbrev pub is_question_due : ℕ → Option ℕ → Bool
is_question_due k None = true
is_question_due k (Some since) = nat_le 4 (k - since)

-- a question is out
abbrev pub is_out : Option ℕ → Bool
is_out None = false
is_out (Some since) = true

-- what a board is asked in a stage
abbrev pub question : Stage → List Cmd
question (Identify offset) = cmd.Identify offset 40 ∷ []
question Uptime = cmd.GetUptime ∷ []
question (Configure n) = []
question Config = cmd.GetConfig ∷ []
question Connected = []

-- a stage asks for the clock
abbrev pub asks_clock : Stage → Bool
asks_clock Uptime = true
asks_clock stage = false

-- the commands to a board in turn k
abbrev pub asks : List Setup → ℕ → Asking → Stage → List Cmd
asks setups k a (Configure n) = map setup_command (fitting control_bytes (drop n setups))
asks setups k a stage = if is_question_due k a.since then question stage else []

-- the board was asked in turn k: anew, or again
abbrev pub asked : ℕ → Asking → Asking
asked k a = record a {
  since = Some k;
  missed = if is_out a.since then more a.missed else 0;
  first = if is_out a.since then a.first else k;
  owed = if asks_clock a.stage then more a.owed else a.owed;
}

-- the asking behind that
abbrev pub after_asks : List Setup → ℕ → Asking → Stage → Asking
after_asks setups k a (Configure n) =
    record a { stage = Configure (min (n + length (fitting control_bytes (drop n setups))) (2 ^ 64 - 1)) }
after_asks setups k a Connected = a
after_asks setups k a stage = if is_question_due k a.since then asked k a else a

-- the eighth asking in a row is unanswered
abbrev pub gives_up : ℕ → Asking → Bool
gives_up k a = is_out a.since && (is_question_due k a.since && nat_le 7 a.missed)

-- a stage is the last one
abbrev pub is_connected : Stage → Bool
is_connected Connected = true
is_connected stage = false
