-- Boards whose clocks drift are asked for them again and again.
use Rattle.std.specs.Prelude.{ℕ, zero, suc, ℤ, pos, negsuc, ◌+◌, ◌-◌, ◌%◌, ◌==◌, ◌&&◌, Bool, true, false, not, List, [], ◌∷◌, ◌++◌, nat_le, nat_lt, Option, Some, None, if◌then◌else◌}
use Rattle.plan_types.specs.declared.machine.Machine.{Machine}
use Rattle.plan_types.specs.declared.cause.Cause.{Cause}
use Rattle.plan_types.specs.declared.cause.Cause.TheVariants as cause
use Rattle.plan_types.specs.Machines.{board_at}
use Rattle.msg_code.specs.declared.cmd.Cmd.{Cmd}
use Rattle.msg_code.specs.declared.cmd.Cmd.TheVariants as cmd
use Rattle.msg_code.specs.declared.talk.WordNews.{WordNews}
use Rattle.msg_code.specs.declared.talk.WordNews.TheVariants as word
use Rattle.msg_code.specs.Bytes.{command_bytes}
use Rattle.board_asking.specs.declared.asking.Asking.{Asking}
use Rattle.board_asking.specs.Asking.{more, is_out}
use Rattle.board_asking.specs.Connecting.{board_line}
use Rattle.board_asking.specs.Machine.{control_bytes}

-- a drift, in parts per million, is not 0
abbrev pub drifts : ℤ → Bool
drifts (pos zero) = false
drifts (pos (suc n)) = true
drifts (negsuc n) = true

-- four turns passed without an answer that counts
abbrev pub is_unanswered : ℕ → Option ℕ → Bool
is_unanswered k None = false
is_unanswered k (Some since) = k - since == 4

-- 200 askings in a row are unanswered
abbrev pub gives_up : ℕ → Asking → Bool
gives_up k a = is_unanswered k a.since && nat_le 199 a.missed

-- the least board of which 200 askings in a row are unanswered
abbrev pub stale : ℕ → ℕ → List Asking → Option Cause
stale k b [] = None
stale k b (a ∷ askings) = if gives_up k a then Some (cause.Stale b a.first) else stale k (b + 1) askings

-- a drifting board is asked in each thousandth turn, and again where it didn't answer
abbrev pub is_asked_now : Bool → ℕ → Option ℕ → Bool
is_asked_now drifting k since = drifting && (not (is_out since) && (k % 1_000 == 0))

-- an asking as a running turn goes on: it waits to go out where the last one got no answer, or where the
-- board drifts and its turn has come
abbrev pub waits_in : Bool → ℕ → Asking → Asking
waits_in drifting k a =
    if is_unanswered k a.since then record a { missed = more a.missed; waits = true }
    else (if is_asked_now drifting k a.since then record a { waits = true } else a)

-- so the askings of the boards, from a board on
abbrev pub waiting : Machine → ℕ → ℕ → List Asking → List Asking
waiting m k b [] = []
waiting m k b (a ∷ askings) = waits_in (drifts (board_at m b).drift) k a ∷ waiting m k (b + 1) askings

-- the bytes of some commands
abbrev pub bytes_of : List Cmd → ℕ
bytes_of [] = 0
bytes_of (c ∷ cs) = command_bytes c + bytes_of cs

-- the asking stands behind the other controls of the turn, where these leave room
abbrev pub asks_now : List Cmd → Asking → Bool
asks_now commands a = a.waits && nat_lt (bytes_of commands) control_bytes

-- the question for a board's clock behind these commands, where it waits and there is room
abbrev pub clock_question : List Cmd → Asking → List Cmd
clock_question commands a = if asks_now commands a then cmd.GetUptime ∷ [] else []

-- an asking behind a turn in which these commands go to the board: it is out where its question stood behind
-- them
abbrev pub after_question : ℕ → List Cmd → Asking → Asking
after_question k commands a =
    if asks_now commands a
    then record a { since = Some k; first = if a.missed == 0 then k else a.first; owed = more a.owed; waits = false }
    else a

-- the further clock line of a board whose asking was answered between these two
abbrev pub new_line : Machine → ℕ → Asking → Asking → List WordNews
new_line m b before after =
    if is_out before.since && not (is_out after.since) then word.Line b (board_line m b after) ∷ [] else []

-- so the further clock lines of the boards, from a board on
abbrev pub new_lines : Machine → ℕ → List Asking → List Asking → List WordNews
new_lines m b [] after = []
new_lines m b (a ∷ before) [] = []
new_lines m b (a ∷ before) (c ∷ after) = new_line m b a c ++ new_lines m (b + 1) before after
