-- Homing: the group of a section is told of the boards' reports, and its orders become commands.
use Rattle.std.specs.Prelude.{◌≡◌, ℕ, ◌+◌, ◌*◌, ◌/◌, ◌%◌, ◌^◌, ◌==◌, ◌&&◌, ◌||◌, Bool, not, List, [], ◌∷◌, ◌++◌, nat_le, nat_lt, Option, Some, None, if◌then◌else◌}
use Rattle.msg_code.specs.Units.{bit}
use Rattle.plan_types.specs.declared.machine.Machine.{Machine}
use Rattle.plan_types.specs.declared.machine.BoardDef.{BoardDef}
use Rattle.plan_types.specs.declared.machine.StepperDef.{StepperDef}
use Rattle.plan_types.specs.declared.machine.AxisDef.{AxisDef}
use Rattle.plan_types.specs.declared.plan.TrigState.{TrigState}
use Rattle.plan_types.specs.declared.plan.SectionKind.{SectionKind}
use Rattle.plan_types.specs.declared.plan.SectionKind.TheVariants.{Moves, Home}
use Rattle.plan_types.specs.declared.cause.Cause.TheVariants as cause
use Rattle.plan_types.specs.Board.{nearest}
use Rattle.plan_types.specs.Lines.{Clocks}
use Rattle.plan_types.specs.Machines.{axis_at, board_at, stepper_at}
use Rattle.clock_line.specs.Early.{turn_tick, turn_in_run}
use Rattle.msg_code.specs.declared.cmd.Cmd.{Cmd}
use Rattle.msg_code.specs.declared.cmd.Cmd.TheVariants as cmd
use Rattle.msg_code.specs.declared.talk.News.{News}
use Rattle.msg_code.specs.declared.talk.State.{State}
use Rattle.trigger_group.specs.declared.order.Member.{Member}
use Rattle.trigger_group.specs.declared.order.Ctl.{Ctl}
use Rattle.trigger_group.specs.declared.order.Order.{Order}
use Rattle.trigger_group.specs.declared.order.Order.TheVariants as order
use Rattle.trigger_group.specs.declared.order.End.{End}
use Rattle.trigger_group.specs.declared.order.End.TheVariants as end
use Rattle.trigger_group.specs.Group.{GroupState, came, ended, orders, turned_group, by_host, by_switch, by_timeout}
use Rattle.trigger_group.specs.Kept.{group_where}
use Rattle.axis_homing.specs.declared.homing.Homing.{Homing}
use Rattle.axis_homing.specs.declared.homing.HomingTurn.{HomingTurn}
use Rattle.board_asking.specs.Machine.{trigger_of, endstop_pins}

-- of the steppers that move, a bit for each, those of a board
abbrev pub moving_on : ℕ → ℕ → List StepperDef → ℕ
moving_on b word [] = 0
moving_on b word (s ∷ ss) = (if (s.board == b) && (word % 2 == 1) then 1 else 0) + 2 * moving_on b (word / 2) ss

-- a board is a member where a stepper of it moves or the endstop is on it
abbrev pub member_where : ℕ → Bool → ℕ → List Member
member_where b endstop moving =
    if endstop || nat_lt 0 moving then record { board = b; endstop = endstop; moving = moving } ∷ [] else []

-- the members, from a board on
abbrev pub members_from : Machine → AxisDef → ℕ → ℕ → List BoardDef → List Member
members_from m axis moving b [] = []
members_from m axis moving b (d ∷ boards) =
    member_where b (axis.board == b) (moving_on b moving m.steppers) ++ members_from m axis moving (b + 1) boards

-- the homing of a section that starts in a turn, where its members may be a group
abbrev pub homing_with : ℕ → ℕ → ℕ → Option GroupState → Option Homing
homing_with section axis turn None = None
homing_with section axis turn (Some group) =
    Some (record { section = section; axis = axis; start = turn; group = group })

-- the homing of a section of which a note tells
abbrev pub homing_of : Machine → ℕ → SectionKind → ℕ → ℕ → ℕ → Option Homing
homing_of m section Moves turn last moving = None
homing_of m section (Home axis) turn last moving =
    homing_with section axis turn (group_where (members_from m (axis_at m axis) moving 0 m.boards) turn last)

-- a group behind a report at a tick of a board, where that tick lies in a turn of the run
abbrev pub came_at : ℕ → TrigState → ℕ → Option ℕ → GroupState → GroupState
came_at b s tick None g = g
came_at b s tick (Some turn) g = came b s tick turn g

-- a report counts at the tick nearest to that of the turn of the state that brought it, in the turn of that tick
abbrev pub hears_report : Clocks → ℕ → ℕ → TrigState → GroupState → GroupState
hears_report clocks b turn s g =
    let at = nearest (turn_tick clocks turn) s.clock in
    came_at b s at (turn_in_run clocks at) g

-- a group behind an answer of a board: a trigger's report is heard, and nothing else is
abbrev pub hears_answer : Clocks → ℕ → ℕ → Cmd → GroupState → GroupState
hears_answer clocks b turn (cmd.TrsyncState oid can_trigger reason clock) g =
    hears_report clocks b turn (record { can = not (can_trigger == 0); reason = reason; clock = clock }) g
hears_answer clocks b turn answer g = g

-- a group behind the answers of a board that came in a turn, one after the other
abbrev pub hears_news : Clocks → ℕ → ℕ → List News → GroupState → GroupState
hears_news clocks b turn [] g = g
hears_news clocks b turn (n ∷ news) g = hears_news clocks b turn news (hears_answer clocks b turn n.answer g)

-- a state of a turn before that in front of the start tells of an earlier section
abbrev pub hears_state : Clocks → ℕ → ℕ → State → GroupState → GroupState
hears_state clocks b start s g = if nat_le start (s.turn + 1) then hears_news clocks b s.turn s.news g else g

-- a group behind the states of the boards, from a board on
abbrev pub hears_states : List Clocks → ℕ → ℕ → List State → GroupState → GroupState
hears_states [] b start states g = g
hears_states (c ∷ clocks) b start [] g = g
hears_states (c ∷ clocks) b start (s ∷ states) g = hears_states clocks (b + 1) start states (hears_state c b start s g)

-- the group answers from the start on
abbrev pub answer_in : ℕ → ℕ → GroupState → Option End
answer_in k start g = if nat_le start k then ended g else None

-- of a tick the wire carries 32 bits
abbrev pub low : ℕ → ℕ
low tick = tick % 2 ^ 32

-- the place of a pin among some pins, the first one at this place
abbrev pub place_from : ℕ → ℕ → List ℕ → ℕ
place_from place pin [] = place
place_from place pin (p ∷ pins) = if p == pin then place else place_from (place + 1) pin pins

-- the command of an order to a board: the clocks are those of the start, reports come every 5 turns, and the endstop is
-- read every 100 µs, and four times 15 µs apart where it has the level
abbrev pub order_command : Machine → Clocks → ℕ → ℕ → AxisDef → Order → Cmd
order_command m clocks b start axis (order.Reset i) =
    cmd.ResetStepClock (stepper_at m i).oid (low (turn_tick clocks start))
order_command m clocks b start axis (order.Stop i) = cmd.StepperStopOnTrigger (stepper_at m i).oid (trigger_of m b)
order_command m clocks b start axis order.Start =
    cmd.TrsyncStart (trigger_of m b) (low (turn_tick clocks start)) ((board_at m b).freq * 5 / 1_000) by_timeout
order_command m clocks b start axis (order.Timeout turn) =
    cmd.TrsyncSetTimeout (trigger_of m b) (low (turn_tick clocks turn))
order_command m clocks b start axis order.Home =
    cmd.EndstopHome (place_from (trigger_of m b + 1) axis.pin (endstop_pins m b)) (low (turn_tick clocks start))
    ((board_at m b).freq * 15 / 1_000_000) 4 ((board_at m b).freq / 10_000) (bit axis.pressed) (trigger_of m b)
    by_switch
order_command m clocks b start axis order.Trigger = cmd.TrsyncTrigger (trigger_of m b) by_host

-- the command that an order becomes, where it goes to this board
abbrev pub command_to : Machine → Clocks → ℕ → ℕ → AxisDef → Ctl → List Cmd
command_to m clocks b start axis c = if c.board == b then order_command m clocks b start axis c.what ∷ [] else []

-- the commands of a turn's orders to a board
abbrev pub commands_to : Machine → Clocks → ℕ → ℕ → AxisDef → List Ctl → List Cmd
commands_to m clocks b start axis [] = []
commands_to m clocks b start axis (c ∷ ctls) =
    command_to m clocks b start axis c ++ commands_to m clocks b start axis ctls

-- what homing does in a turn, by the answer
abbrev pub by_answer : ℕ → Homing → Option End → HomingTurn
by_answer k h None =
    record {
      section = h.section;
      start = h.start;
      axis = h.axis;
      ctls = record { items = orders h.group k };
      cut = None;
      end = None;
    }
by_answer k h (Some (end.Endstop tick)) =
    record {
      section = h.section;
      start = h.start;
      axis = h.axis;
      ctls = record { items = [] };
      cut = Some tick;
      end = None;
    }
by_answer k h (Some end.NoSwitch) =
    record {
      section = h.section;
      start = h.start;
      axis = h.axis;
      ctls = record { items = [] };
      cut = None;
      end = Some (cause.NoSwitch h.section);
    }
by_answer k h (Some (end.Expired b turn)) =
    record {
      section = h.section;
      start = h.start;
      axis = h.axis;
      ctls = record { items = [] };
      cut = None;
      end = Some (cause.Expired b turn);
    }

-- the homing section behind a turn, by the group's answer: while it has none, the group as it is after the
-- turn
abbrev pub goes_on_homing : ℕ → Homing → Option End → Option Homing
goes_on_homing k h None = Some (record h { group = turned_group h.group k })
goes_on_homing k h (Some end) = None

-- a section's group behind the boards' states
abbrev pub hears_all : List Clocks → List State → Homing → Homing
hears_all clocks states h = record h { group = hears_states clocks 0 h.start states h.group }

-- what homing does in a turn, behind the boards' states: nothing, where no axis homes
abbrev pub homing_turn : List Clocks → ℕ → List State → Option Homing → HomingTurn
homing_turn clocks k states None =
    record { section = 0; start = 0; axis = 0; ctls = record { items = [] }; cut = None; end = None }
homing_turn clocks k states (Some h) = let g = hears_all clocks states h in by_answer k g (answer_in k g.start g.group)

-- the homing section behind a turn; none once its group answered
abbrev pub homing_after : List Clocks → ℕ → List State → Option Homing → Option Homing
homing_after clocks k states None = None
homing_after clocks k states (Some h) =
    let g = hears_all clocks states h in goes_on_homing k g (answer_in k g.start g.group)

-- a homing section and its group start in the same turn
abbrev pub StartsTogether : Option Homing → Type 0
StartsTogether None = Unit {0}
StartsTogether (Some h) = h.group.start ≡ h.start
