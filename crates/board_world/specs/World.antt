-- A board and its link as a machine over whole numbers: what may happen, and what each event does.
use Rattle.std.specs.Prelude.{ℕ, Bool, true, false, List, [], ◌∷◌, ◌++◌, length, take, drop, map, nat_lt, nat_le, ◌==◌, slice_index_or, if◌then◌else◌}
use Rattle.plan_types.specs.declared.machine.BoardDef.{BoardDef}
use Rattle.plan_types.specs.declared.plan.BoardState.{BoardState}
use Rattle.plan_types.specs.declared.plan.BoardState.TheVariants.{Running, Shut}
use Rattle.plan_types.specs.declared.plan.Pulse.{Pulse}
use Rattle.link_core.specs.Core.{Link, Command}
use Rattle.link_core.specs.Core as link
use Rattle.link_core.specs.Core.{Event as LinkEvent}
use Rattle.link_core.specs.Core.Event.{Put as LinkPut, Control as LinkControl, Send as LinkSend, Resend as LinkResend, Arrive as LinkArrive, Repeat as LinkRepeat, Lose as LinkLose, Garble as LinkGarble, Reply_comes as LinkReply, Lose_reply as LinkLoseReply, Pass as LinkPass, Turn as LinkTurn}
use Rattle.msg_dict.specs.Own.{own_formats}
use Rattle.msg_code.specs.declared.cmd.Cmd.{Cmd}
use Rattle.msg_code.specs.declared.cmd.Cmd.TheVariants as cmd
use Rattle.msg_code.specs.Text.{command_text}
use Rattle.plan_types.specs.declared.levels.Level.{Level}
use Rattle.board_sim.specs.Rig.{Rig, new_rig, takes_all, passes}
use Rattle.board_sim.specs.Turn.{says_shut}
use Rattle.board_sim.specs.Fair.{Meant, commands_of, AreFair}
use Rattle.board_sim.specs.Halted.{meant_behind}
use Rattle.board_world.specs.declared.event.Event.{Event}
use Rattle.board_world.specs.declared.event.Event.TheVariants.{Put, Control, Send, Resend, Arrive, Lose, Garble, Repeat, Reply, LoseReply, Pass}
use Rattle.board_world.specs.Orders.{plain, units_orders}

-- the state: the link's numbers, blocks and replies; the commands queued and those taken; the board with its triggers;
-- whether the board told of bad bytes since the last good block; the pulses made, those of the last time that it was
-- run on, and those that are meant
pub record Core : Type 0 where
  -- the numbers, blocks and replies of the link
  pub link : Link
  -- the commands that were queued, and those that the board took, in order
  pub queued : List Meant
  pub taken : List Meant
  -- the board, with its steppers and triggers at whole ticks
  pub board : Rig
  -- whether a changed block came to it since the last block
  pub spoilt : Bool
  -- the pulses that it made, those of the last time that it was run on, and those that the units which it
  -- took mean: of a stepper that was halted, the rest of its units before its next reset is left out
  pub made : List Pulse
  pub last : List Pulse
  pub meant : List Pulse

-- what a board does: the board after it, its answers, and its pulses
pub record Deed : Type 0 where
  pub board : Rig
  pub answers : List Cmd
  pub pulses : List Pulse

-- a command that is the last of its block: the question for the uptime
abbrev pub closes : Cmd → Bool
closes cmd.GetUptime = true
closes _ = false

-- the bytes of a command, and the command for the link
abbrev pub wire_text : Cmd → List ℕ
wire_text c = command_text own_formats c

-- a command as the link carries it
abbrev pub on_wire : Meant → Command
on_wire m = record { bytes = wire_text m.command; closes = closes m.command }

-- the commands of a block, where the board expects it: the next ones that were queued, as many as it has
abbrev pub block_of : Core → List ℕ → List Meant
block_of h [] = []
block_of h (n ∷ ns) =
    if n == h.link.accepted then take (length (slice_index_or h.link.blocks n [])) (drop (length h.link.taken) h.queued)
    else []

-- the commands that the board takes in an event: those of the oldest block under way, where it arrives
abbrev pub takes_in : Core → Event → List Meant
takes_in h Arrive = block_of h h.link.down
takes_in h Repeat = block_of h h.link.down
takes_in h _ = []

-- the commands that an event queues
abbrev pub orders_of : Event → List Meant
orders_of (Put b) = units_orders b.units
orders_of (Control c) = map plain c.commands
orders_of _ = []

-- the state in which a board went into its present turn: a shutdown at the present tick came in this turn
abbrev pub shut_before : BoardState → ℕ → BoardState
shut_before Running now = Running
shut_before (Shut reason tick first) now = if nat_lt tick now then Shut reason tick first else Running

-- a board takes commands, each at its present tick
abbrev pub obeys : Rig → List Meant → Deed
obeys b ms =
    let done = takes_all b (commands_of ms) in
    record { board = done.rig; answers = done.answers; pulses = [] }

-- a board runs to t, and tells what its triggers tell; one that was shut down before says so again
abbrev pub says : Rig → ℕ → List Cmd
says b t = (passes b t).answers ++ says_shut (shut_before b.controller.state b.controller.tick) b.controller.tick t

-- a board runs to a tick, and tells what its triggers tell; one that was shut down before says so again
abbrev pub board_runs : Rig → ℕ → Deed
board_runs b t =
    let done = passes b t in
    record { board = done.rig; answers = says b t; pulses = done.pulses }

-- what the board does in an event
abbrev pub does : Core → Event → Deed
does h (Pass t) = board_runs h.board t
does h e = obeys h.board (takes_in h e)

-- the pulses of the last time that the board was run on
abbrev pub last_by : Core → Event → List Pulse
last_by h (Pass t) = if nat_le h.board.controller.tick t then (board_runs h.board t).pulses else h.last
last_by h e = h.last

-- a value, or another one where no block is under way
abbrev pub unless_none : List ℕ → Bool → Bool → Bool
unless_none [] some none = none
unless_none (n ∷ ns) some none = some

-- whether a changed block came to a board since the last block
abbrev pub spoilt_by : Core → Event → Bool
spoilt_by h Arrive = unless_none h.link.down false h.spoilt
spoilt_by h Repeat = unless_none h.link.down false h.spoilt
spoilt_by h Garble = unless_none h.link.down true h.spoilt
spoilt_by h _ = h.spoilt

-- what happens to the link in an event
abbrev pub link_event : Core → Event → LinkEvent
link_event h (Put b) = LinkPut (map on_wire (orders_of (Put b)))
link_event h (Control c) = LinkControl (map on_wire (orders_of (Control c)))
link_event h Send = LinkSend
link_event h Resend = LinkResend
link_event h Arrive = LinkArrive (map wire_text (does h Arrive).answers)
link_event h Repeat = LinkRepeat (map wire_text (does h Repeat).answers)
link_event h Lose = LinkLose
link_event h Garble = LinkGarble h.spoilt
link_event h Reply = LinkReply
link_event h LoseReply = LinkLoseReply
link_event h (Pass t) = LinkPass (map wire_text (does h (Pass t)).answers)

-- the state after an event
abbrev pub after_event : Core → Event → Core
after_event h e = record {
  link = link.happens h.link (link_event h e);
  queued = h.queued ++ orders_of e;
  taken = h.taken ++ takes_in h e;
  board = (does h e).board;
  spoilt = spoilt_by h e;
  made = h.made ++ (does h e).pulses;
  last = last_by h e;
  meant = meant_behind h.board h.made h.meant (takes_in h e);
}

-- the state once a turn began
abbrev pub in_turn : Core → ℕ → Core
in_turn h turn = record h { link = link.happens h.link (LinkTurn turn) }

-- an event, or that a turn begins
pub data Step : Type 0 where
  Do : Event → Step
  Turn : ℕ → Step

-- the state after a step
abbrev pub world_after : Core → Step → Core
world_after h (Do e) = after_event h e
world_after h (Turn turn) = in_turn h turn

-- the state after a list of steps
abbrev pub run_world : List Step → Core → Core
run_world [] h = h
run_world (s ∷ steps) h = run_world steps (world_after h s)

-- a board to which nothing was told, whose pins have these levels, and a link on which nothing was sent
abbrev pub new_world : BoardDef → List (List Level) → Core
new_world b pins =
    record {
      link = link.new_link;
      queued = [];
      taken = [];
      board = new_rig b pins;
      spoilt = false;
      made = [];
      last = [];
      meant = [];
    }

-- the units that the board takes are fair, each when it is taken
abbrev pub IsFairAt : Core → Step → Type 0
IsFairAt h (Do e) = AreFair h.board (takes_in h e)
IsFairAt h (Turn turn) = Unit {0}

-- the units that the board takes are fair, each when it is taken
abbrev pub AllFair : Core → List Step → Type 0
AllFair h [] = Unit {0}
AllFair h (s ∷ steps) = IsFairAt h s × AllFair (world_after h s) steps

-- the commands that a step queues
abbrev pub queued_by : Step → List Meant
queued_by (Do e) = orders_of e
queued_by (Turn turn) = []
