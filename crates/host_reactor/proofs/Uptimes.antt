-- At most one command of a control asks for the clock.
use Rattle.std.proofs.Common.{◌≡◌, ◌≤◌, ℕ, ◌+◌, Bool, true, false, cond, List, [], ◌∷◌, ◌++◌, map, drop, refl, ap, arith}
use Rattle.std.specs.Prelude.{nat_le, ◌-◌, ◌==◌}
use Rattle.plan_types.specs.declared.machine.Machine.{Machine}
use Rattle.plan_types.specs.declared.machine.AxisDef.{AxisDef}
use Rattle.plan_types.specs.Lines.{Clocks}
use Rattle.msg_code.specs.declared.cmd.Cmd.{Cmd}
use Rattle.msg_code.specs.declared.cmd.Cmd.TheVariants as cmd
use Rattle.msg_code.specs.Bytes.{command_bytes}
use Rattle.trigger_group.specs.declared.order.Ctl.{Ctl}
use Rattle.trigger_group.specs.declared.order.Order.{Order}
use Rattle.trigger_group.specs.declared.order.Order.TheVariants as order
use Rattle.board_asking.specs.declared.asking.Asking.{Asking}
use Rattle.board_asking.specs.declared.asking.Stage.{Stage}
use Rattle.board_asking.specs.declared.asking.Stage.TheVariants.{Identify, Uptime, Configure, Config, Connected}
use Rattle.board_asking.specs.declared.setup.Setup.{Setup}
use Rattle.board_asking.specs.declared.setup.Setup.TheVariants.{Oids, Stepper, Trsync, Endstop, Finish}
use Rattle.board_asking.specs.Machine.{setup_command, fitting, control_bytes}
use Rattle.board_asking.specs.Asking.{asks, is_question_due}
use Rattle.axis_homing.specs.Homing.{order_command, command_to, commands_to}
use Rattle.board_asking.specs.Drift.{asks_now, clock_question}
use Rattle.host_reactor.specs.Laws.{is_uptime, uptimes}

pub append : (xs ys : List Cmd) → uptimes (xs ++ ys) ≡ uptimes xs + uptimes ys
append [] ys = omega arith
append (x ∷ xs) ys = let i = append xs ys in omega arith

kept-none : (b : Bool) (s : Setup) (rest : List Setup) → uptimes (map setup_command rest) ≡ 0 → uptimes (map setup_command (cond b (s ∷ rest) [])) ≡ 0
kept-none false s rest h = refl
kept-none true (Oids n) rest h = omega arith
kept-none true (Stepper a b c) rest h = omega arith
kept-none true (Trsync n) rest h = omega arith
kept-none true (Endstop a b) rest h = omega arith
kept-none true Finish rest h = omega arith

fitting-none : (room : ℕ) (ss : List Setup) → uptimes (map setup_command (fitting room ss)) ≡ 0
fitting-none room [] = refl
fitting-none room (s ∷ ss) =
    kept-none (nat_le (command_bytes (setup_command s)) room) s (fitting (room - command_bytes (setup_command s)) ss) (fitting-none (room - command_bytes (setup_command s)) ss)

where-few : (b : Bool) (cs : List Cmd) → uptimes cs ≤ 1 → uptimes (cond b cs []) ≤ 1
where-few true cs h = h
where-few false cs h = omega arith

pub asks-few : (setups : List Setup) (k : ℕ) (a : Asking) (stage : Stage) → uptimes (asks setups k a stage) ≤ 1
asks-few setups k a (Identify offset) = where-few (is_question_due k a.since) (cmd.Identify offset 40 ∷ []) (omega arith)
asks-few setups k a Uptime = where-few (is_question_due k a.since) (cmd.GetUptime ∷ []) (omega arith)
asks-few setups k a (Configure n) = let e = fitting-none control_bytes (drop n setups) in omega arith
asks-few setups k a Config = where-few (is_question_due k a.since) (cmd.GetConfig ∷ []) (omega arith)
asks-few setups k a Connected = where-few (is_question_due k a.since) [] (omega arith)

to-none : (b : Bool) (c : Cmd) → is_uptime c ≡ false → uptimes (cond b (c ∷ []) []) ≡ 0
to-none false c h = refl
to-none true c h = ap (λ (x : Bool). cond x 1 0 + 0) h

order-none : (m : Machine) (clocks : Clocks) (b start : ℕ) (axis : AxisDef) (o : Order) → is_uptime (order_command m clocks b start axis o) ≡ false
order-none m clocks b start axis (order.Reset i) = refl
order-none m clocks b start axis (order.Stop i) = refl
order-none m clocks b start axis order.Start = refl
order-none m clocks b start axis (order.Timeout t) = refl
order-none m clocks b start axis order.Home = refl
order-none m clocks b start axis order.Trigger = refl

pub commands-none : (m : Machine) (clocks : Clocks) (b start : ℕ) (axis : AxisDef) (ctls : List Ctl) → uptimes (commands_to m clocks b start axis ctls) ≡ 0
commands-none m clocks b start axis [] = refl
commands-none m clocks b start axis (c ∷ ctls) =
    let first = to-none (c.board == b) (order_command m clocks b start axis c.what) (order-none m clocks b start axis c.what) in
    let both = append (command_to m clocks b start axis c) (commands_to m clocks b start axis ctls) in
    let rest = commands-none m clocks b start axis ctls in
    omega arith

pub question-few : (commands : List Cmd) (a : Asking) → uptimes (clock_question commands a) ≤ 1
question-few commands a = where-few (asks_now commands a) (cmd.GetUptime ∷ []) (omega arith)
