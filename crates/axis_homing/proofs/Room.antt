-- The commands of a homing group's orders to a board have at most 42 bytes in a turn.
use Rattle.std.proofs.Common.{◌≡◌, ◌≤◌, ◌<◌, ◌⊎◌, inl, inr, ℕ, zero, suc, ◌+◌, ◌-◌, ◌*◌, ◌/◌, ◌%◌, ◌^◌, Bool, true, false, cond, List, [], ◌∷◌, ◌++◌, length, take, drop, map, get_or, Option, Some, None, refl, ap, ◌∙◌, arith}
use Rattle.std.specs.Prelude.{◌==◌, ◌&&◌, nat_lt, not, AllPairs}
use Rattle.std.proofs.lemmas.Bool.{lt-leb, ltb-true, ltb-false, eqb-true}
use Rattle.std.proofs.lemmas.Bool.Decides.{nat_tests}
use Rattle.std.proofs.lemmas.List.{length-take, length-drop, get_or_past}
use Rattle.std.proofs.lemmas.List.Sums.{count_by-le-length}
use Rattle.msg_code.specs.Units.{bit}
use Rattle.plan_types.specs.declared.machine.Machine.{Machine}
use Rattle.plan_types.specs.declared.machine.BoardDef.{BoardDef}
use Rattle.plan_types.specs.declared.machine.StepperDef.{StepperDef}
use Rattle.plan_types.specs.declared.machine.AxisDef.{AxisDef}
use Rattle.plan_types.specs.Machines.{IsValidMachine, board_at, stepper_at, no_board, no_stepper}
use Rattle.plan_types.specs.Lines.{Clocks}
use Rattle.vlq_code.specs.Spelling.{byte_count, needs_more}
use Rattle.msg_code.specs.declared.cmd.Cmd.{Cmd}
use Rattle.msg_code.specs.declared.cmd.Cmd.TheVariants as cmd
use Rattle.msg_code.specs.Bytes.{command_bytes}
use Rattle.msg_code.proofs.Counts.{count_bounds}
use Rattle.trigger_group.specs.declared.order.Member.{Member}
use Rattle.trigger_group.specs.declared.order.Ctl.{Ctl}
use Rattle.trigger_group.specs.declared.order.Order.{Order}
use Rattle.trigger_group.specs.declared.order.Order.TheVariants.{Reset, Stop, Start, Timeout, Home, Trigger}
use Rattle.trigger_group.specs.declared.seen.Seen.{Seen}
use Rattle.trigger_group.specs.declared.seen.Fired.{Fired}
use Rattle.trigger_group.specs.declared.round.Round.{Round}
use Rattle.trigger_group.specs.declared.round.Round.TheVariants.{Resets, Starts, Homes, Timeouts, Relays}
use Rattle.trigger_group.specs.declared.round.Phase.{Phase}
use Rattle.trigger_group.specs.declared.round.Phase.TheVariants.{Sends, Goes, Rests}
use Rattle.trigger_group.specs.Group.{GroupState, bits, first_timeout, steppers, to_board, reset, stop, unless_fired, orders_to, round_of, limit, relay_in, relays_in, all_fired, goes, orders_of_group, orders, phase}
use Rattle.board_asking.specs.Machine.{trigger_of, steppers_on, endstop_pins, pins_of, is_among}
use Rattle.board_asking.specs.Drift.{bytes_of}
use Rattle.axis_homing.specs.Homing.{low, place_from, order_command, command_to, commands_to}
use Rattle.axis_homing.specs.Rising.{IsRising}
use Rattle.axis_homing.specs.Room.{MayFill}
use Rattle.trigger_group.proofs.Setup.{length_word, few_steppers}

-- numbers of one, two and three bytes
count-one : (n : ℕ) → n < 96 → byte_count n ≤ 1
count-one n h =
    let e : needs_more 1 n ≡ false = lt-leb (2 ^ (7 * 1)) ((n + 2 ^ (7 * 1 - 2)) % 2 ^ 32) (omega arith) in
    let f : byte_count n ≡ 1 = ap (λ (b : Bool). cond b (cond (needs_more 2 n) (cond (needs_more 3 n) (cond (needs_more 4 n) 5 4) 3) 2) 1) e in
    omega arith

at-most-two : (a : Bool) → cond a 2 1 ≤ 2
at-most-two true = omega arith
at-most-two false = omega arith

count-two : (n : ℕ) → n < 12_288 → byte_count n ≤ 2
count-two n h =
    let e : needs_more 2 n ≡ false = lt-leb (2 ^ (7 * 2)) ((n + 2 ^ (7 * 2 - 2)) % 2 ^ 32) (omega arith) in
    let f : byte_count n ≡ cond (needs_more 1 n) 2 1 = ap (λ (b : Bool). cond (needs_more 1 n) (cond b (cond (needs_more 3 n) (cond (needs_more 4 n) 5 4) 3) 2) 1) e in
    let g = at-most-two (needs_more 1 n) in
    omega arith

at-most-three : (a b : Bool) → cond a (cond b 3 2) 1 ≤ 3
at-most-three true true = omega arith
at-most-three true false = omega arith
at-most-three false b = omega arith

count-three : (n : ℕ) → n < 1_572_864 → byte_count n ≤ 3
count-three n h =
    let e : needs_more 3 n ≡ false = lt-leb (2 ^ (7 * 3)) ((n + 2 ^ (7 * 3 - 2)) % 2 ^ 32) (omega arith) in
    let f : byte_count n ≡ cond (needs_more 1 n) (cond (needs_more 2 n) 3 2) 1 = ap (λ (b : Bool). cond (needs_more 1 n) (cond (needs_more 2 n) (cond b (cond (needs_more 4 n) 5 4) 3) 2) 1) e in
    let g = at-most-three (needs_more 1 n) (needs_more 2 n) in
    omega arith

-- the commands of homing
reset-bytes : (oid clock : ℕ) → oid < 96 → command_bytes (cmd.ResetStepClock oid clock) ≤ 7
unfolding command_bytes
reset-bytes oid clock h = let a = count-one oid h in let b = (count_bounds clock).1 in omega arith

stop-bytes : (oid trigger : ℕ) → oid < 96 → trigger < 96 → command_bytes (cmd.StepperStopOnTrigger oid trigger) ≤ 3
unfolding command_bytes
stop-bytes oid trigger h i = let a = count-one oid h in let b = count-one trigger i in omega arith

start-bytes : (oid clock ticks : ℕ) → oid < 96 → ticks < 1_572_864 → command_bytes (cmd.TrsyncStart oid clock ticks 2) ≤ 11
unfolding command_bytes
start-bytes oid clock ticks h i = let a = count-one oid h in let b = (count_bounds clock).1 in let c = count-three ticks i in let d = count-one 2 (omega arith) in omega arith

timeout-bytes : (oid clock : ℕ) → oid < 96 → command_bytes (cmd.TrsyncSetTimeout oid clock) ≤ 7
unfolding command_bytes
timeout-bytes oid clock h = let a = count-one oid h in let b = (count_bounds clock).1 in omega arith

home-bytes : (oid clock sample rest level trigger : ℕ) → oid < 96 → sample < 12_288 → rest < 1_572_864 → level < 96 → trigger < 96
    → command_bytes (cmd.EndstopHome oid clock sample 4 rest level trigger 1) ≤ 16
unfolding command_bytes
home-bytes oid clock sample rest level trigger h i j k l =
    let a = count-one oid h in
    let b = (count_bounds clock).1 in
    let c = count-two sample i in
    let d = count-one 4 (omega arith) in
    let e = count-three rest j in
    let f = count-one level k in
    let g = count-one trigger l in
    let o = count-one 1 (omega arith) in
    omega arith

trigger-bytes : (oid : ℕ) → oid < 96 → command_bytes (cmd.TrsyncTrigger oid 3) ≤ 3
unfolding command_bytes
trigger-bytes oid h = let a = count-one oid h in let b = count-one 3 (omega arith) in omega arith

-- the objects of a valid machine
pub either-few : (c : Bool) → cond c 1 0 ≤ 1
either-few true = omega arith
either-few false = omega arith

pub on-few : (b : ℕ) (ss : List StepperDef) → steppers_on b ss ≤ length ss
on-few b [] = omega arith
on-few b (s ∷ ss) = let h = on-few b ss in let e = either-few (s.board == b) in omega arith

trigger-few : (m : Machine) (b : ℕ) → IsValidMachine m → trigger_of m b ≤ 16
trigger-few m b v = let h = on-few b m.steppers in let f = v.steppers_few in omega arith

pins-either : (c : Bool) (pins more : List ℕ) → length more ≤ length pins + 1 → length (cond c more pins) ≤ length pins + 1
pins-either true pins more h = h
pins-either false pins more h = omega arith

one-pin : (pins : List ℕ) (p : ℕ) → length (pins ++ p ∷ []) ≤ length pins + 1
one-pin [] p = omega arith
one-pin (x ∷ pins) p = let h = one-pin pins p in omega arith

pub pins-few : (b : ℕ) (axes : List AxisDef) (pins : List ℕ) → length (pins_of b axes pins) ≤ length pins + length axes
pins-few b [] pins = omega arith
pins-few b (a ∷ axes) pins =
    let c = (a.board == b) && not (is_among a.pin pins) in
    let h = pins-few b axes (cond c (pins ++ a.pin ∷ []) pins) in
    let e = pins-either c pins (pins ++ a.pin ∷ []) (one-pin pins a.pin) in
    omega arith

place-either : (c : Bool) (x y limit : ℕ) → x ≤ limit → y ≤ limit → cond c x y ≤ limit
place-either true x y limit h i = h
place-either false x y limit h i = i

pub place-few : (place pin : ℕ) (pins : List ℕ) → place_from place pin pins ≤ place + length pins
place-few place pin [] = omega arith
place-few place pin (p ∷ pins) =
    let h = place-few (place + 1) pin pins in
    place-either (p == pin) place (place_from (place + 1) pin pins) (place + length (p ∷ pins)) (omega arith) (omega arith)

endstop-few : (m : Machine) (b pin : ℕ) → IsValidMachine m → place_from (trigger_of m b + 1) pin (endstop_pins m b) < 96
endstop-few m b pin v =
    let t = trigger-few m b v in
    let p = place-few (trigger_of m b + 1) pin (endstop_pins m b) in
    let q = pins-few b m.axes [] in
    let three = v.axes_three in
    omega arith

oid-by : (c : Bool) (m : Machine) (i : ℕ) → IsValidMachine m → nat_lt i (length m.steppers) ≡ c → (stepper_at m i).oid < 96
oid-by true m i v e =
    let l = ltb-true i (length m.steppers) e in
    let o = (v.steppers i l).oid in
    let c = count_by-le-length (λ (t : StepperDef). t.board == (stepper_at m i).board) (take i m.steppers) in
    let t = length-take i m.steppers in
    let f = v.steppers_few in
    omega arith
oid-by false m i v e =
    let l = ltb-false i (length m.steppers) e in
    let o : (stepper_at m i).oid ≡ 0 = ap (λ (s : StepperDef). s.oid) (get_or_past m.steppers i no_stepper (omega arith)) in
    omega arith

freq-by : (c : Bool) (m : Machine) (b : ℕ) → IsValidMachine m → nat_lt b (length m.boards) ≡ c → (board_at m b).freq ≤ 200_000_000
freq-by true m b v e =
    let l = ltb-true b (length m.boards) e in
    (v.boards b no_board l).freq.high
freq-by false m b v e =
    let l = ltb-false b (length m.boards) e in
    let o : (board_at m b).freq ≡ 1_000_000 = ap (λ (d : BoardDef). d.freq) (get_or_past m.boards b no_board (omega arith)) in
    omega arith

flag-few : (c : Bool) → bit c < 96
flag-few true = omega arith
flag-few false = omega arith

-- the most bytes of an order
abbrev most : Order → ℕ
most (Reset i) = 7
most (Stop i) = 3
most Start = 11
most (Timeout turn) = 7
most Home = 16
most Trigger = 3

pub order-few : (m : Machine) (clocks : Clocks) (b start : ℕ) (axis : AxisDef) (o : Order) → IsValidMachine m → command_bytes (order_command m clocks b start axis o) ≤ most o
order-few m clocks b start axis (Reset i) v = reset-bytes (stepper_at m i).oid _ (oid-by (nat_lt i (length m.steppers)) m i v refl)
order-few m clocks b start axis (Stop i) v = let t = trigger-few m b v in stop-bytes (stepper_at m i).oid (trigger_of m b) (oid-by (nat_lt i (length m.steppers)) m i v refl) (omega arith)
order-few m clocks b start axis Start v =
    let t = trigger-few m b v in
    let f = freq-by (nat_lt b (length m.boards)) m b v refl in
    start-bytes (trigger_of m b) _ ((board_at m b).freq * 5 / 1_000) (omega arith) (omega arith)
order-few m clocks b start axis (Timeout turn) v = let t = trigger-few m b v in timeout-bytes (trigger_of m b) _ (omega arith)
order-few m clocks b start axis Home v =
    let t = trigger-few m b v in
    let f = freq-by (nat_lt b (length m.boards)) m b v refl in
    home-bytes (place_from (trigger_of m b + 1) axis.pin (endstop_pins m b)) _ ((board_at m b).freq * 15 / 1_000_000) ((board_at m b).freq / 10_000) (bit axis.pressed) (trigger_of m b)
    (endstop-few m b axis.pin v) (omega arith) (omega arith) (flag-few axis.pressed) (omega arith)
order-few m clocks b start axis Trigger v = let t = trigger-few m b v in trigger-bytes (trigger_of m b) (omega arith)

-- the bytes of some orders' commands
abbrev Cost : Machine → Clocks → ℕ → ℕ → AxisDef → List Ctl → ℕ
Cost m clocks b start axis cs = bytes_of (commands_to m clocks b start axis cs)

pub bytes-append : (xs ys : List Cmd) → bytes_of (xs ++ ys) ≡ bytes_of xs + bytes_of ys
bytes-append [] ys = omega arith
bytes-append (x ∷ xs) ys = let h = bytes-append xs ys in omega arith

part-either : (c : Bool) (x : Cmd) (limit : ℕ) → command_bytes x ≤ limit → bytes_of (cond c (x ∷ []) []) ≤ limit
part-either true x limit h = omega arith
part-either false x limit h = omega arith

cost-one : (m : Machine) (clocks : Clocks) (b start : ℕ) (axis : AxisDef) (c : Ctl) (cs : List Ctl) → IsValidMachine m
    → Cost m clocks b start axis (c ∷ cs) ≤ most c.what + Cost m clocks b start axis cs
cost-one m clocks b start axis c cs v =
    let e = bytes-append (command_to m clocks b start axis c) (commands_to m clocks b start axis cs) in
    let p = part-either (c.board == b) (order_command m clocks b start axis c.what) (most c.what) (order-few m clocks b start axis c.what v) in
    omega arith

cost-append : (m : Machine) (clocks : Clocks) (b start : ℕ) (axis : AxisDef) (xs ys : List Ctl)
    → Cost m clocks b start axis (xs ++ ys) ≡ Cost m clocks b start axis xs + Cost m clocks b start axis ys
cost-append m clocks b start axis [] ys = omega arith
cost-append m clocks b start axis (c ∷ xs) ys =
    let h = cost-append m clocks b start axis xs ys in
    let e = bytes-append (command_to m clocks b start axis c) (commands_to m clocks b start axis (xs ++ ys)) in
    let f = bytes-append (command_to m clocks b start axis c) (commands_to m clocks b start axis xs) in
    omega arith

-- orders to another board cost nothing
cost-other : (m : Machine) (clocks : Clocks) (b start : ℕ) (axis : AxisDef) (c : Ctl) (cs : List Ctl) → (c.board == b) ≡ false
    → Cost m clocks b start axis (c ∷ cs) ≡ Cost m clocks b start axis cs
cost-other m clocks b start axis c cs e =
    ap (λ (x : Bool). bytes_of (cond x (order_command m clocks b start axis c.what ∷ []) [] ++ commands_to m clocks b start axis cs)) e

resets-other : (m : Machine) (clocks : Clocks) (b start : ℕ) (axis : AxisDef) (s : Seen) (is : List ℕ) → (s.member.board == b) ≡ false → Cost m clocks b start axis (map (reset s) is) ≡ 0
resets-other m clocks b start axis s [] e = refl
resets-other m clocks b start axis s (i ∷ is) e = cost-other m clocks b start axis (reset s i) (map (reset s) is) e ∙ resets-other m clocks b start axis s is e

stops-other : (m : Machine) (clocks : Clocks) (b start : ℕ) (axis : AxisDef) (s : Seen) (is : List ℕ) → (s.member.board == b) ≡ false → Cost m clocks b start axis (map (stop s) is) ≡ 0
stops-other m clocks b start axis s [] e = refl
stops-other m clocks b start axis s (i ∷ is) e = cost-other m clocks b start axis (stop s i) (map (stop s) is) e ∙ stops-other m clocks b start axis s is e

home-other : (c : Bool) (m : Machine) (clocks : Clocks) (b start : ℕ) (axis : AxisDef) (s : Seen) → (s.member.board == b) ≡ false → Cost m clocks b start axis (cond c (to_board s Home ∷ []) []) ≡ 0
home-other true m clocks b start axis s e = cost-other m clocks b start axis (to_board s Home) [] e
home-other false m clocks b start axis s e = refl

relay-other : (o : Option Fired) (m : Machine) (clocks : Clocks) (b start : ℕ) (axis : AxisDef) (s : Seen) → (s.member.board == b) ≡ false → Cost m clocks b start axis (unless_fired o (to_board s Trigger ∷ [])) ≡ 0
relay-other None m clocks b start axis s e = cost-other m clocks b start axis (to_board s Trigger) [] e
relay-other (Some f) m clocks b start axis s e = refl

round-other : (m : Machine) (clocks : Clocks) (b start : ℕ) (axis : AxisDef) (round : Round) (s : Seen) → (s.member.board == b) ≡ false → Cost m clocks b start axis (orders_to round s) ≡ 0
round-other m clocks b start axis (Resets row) s e = resets-other m clocks b start axis s (take 6 (drop (row * 6) (steppers s))) e
round-other m clocks b start axis (Starts turn) s e =
    cost-other m clocks b start axis (to_board s Start) (to_board s (Timeout turn) ∷ map (stop s) (take 8 (steppers s))) e
    ∙ cost-other m clocks b start axis (to_board s (Timeout turn)) (map (stop s) (take 8 (steppers s))) e
    ∙ stops-other m clocks b start axis s (take 8 (steppers s)) e
round-other m clocks b start axis Homes s e =
    let a = cost-append m clocks b start axis (map (stop s) (drop 8 (steppers s))) (cond s.member.endstop (to_board s Home ∷ []) []) in
    let h = stops-other m clocks b start axis s (drop 8 (steppers s)) e in
    let i = home-other s.member.endstop m clocks b start axis s e in
    omega arith
round-other m clocks b start axis (Timeouts turn) s e = cost-other m clocks b start axis (to_board s (Timeout turn)) [] e
round-other m clocks b start axis Relays s e = relay-other s.fired m clocks b start axis s e

-- the orders of a round to one board
resets-cost : (m : Machine) (clocks : Clocks) (b start : ℕ) (axis : AxisDef) (s : Seen) (is : List ℕ) → IsValidMachine m → Cost m clocks b start axis (map (reset s) is) ≤ 7 * length is
resets-cost m clocks b start axis s [] v = omega arith
resets-cost m clocks b start axis s (i ∷ is) v =
    let h = resets-cost m clocks b start axis s is v in
    let o = cost-one m clocks b start axis (reset s i) (map (reset s) is) v in
    omega arith

stops-cost : (m : Machine) (clocks : Clocks) (b start : ℕ) (axis : AxisDef) (s : Seen) (is : List ℕ) → IsValidMachine m → Cost m clocks b start axis (map (stop s) is) ≤ 3 * length is
stops-cost m clocks b start axis s [] v = omega arith
stops-cost m clocks b start axis s (i ∷ is) v =
    let h = stops-cost m clocks b start axis s is v in
    let o = cost-one m clocks b start axis (stop s i) (map (stop s) is) v in
    omega arith

home-cost : (c : Bool) (m : Machine) (clocks : Clocks) (b start : ℕ) (axis : AxisDef) (s : Seen) → IsValidMachine m → Cost m clocks b start axis (cond c (to_board s Home ∷ []) []) ≤ 16
home-cost true m clocks b start axis s v = let o = cost-one m clocks b start axis (to_board s Home) [] v in omega arith
home-cost false m clocks b start axis s v = omega arith

relay-cost : (o : Option Fired) (m : Machine) (clocks : Clocks) (b start : ℕ) (axis : AxisDef) (s : Seen) → IsValidMachine m → Cost m clocks b start axis (unless_fired o (to_board s Trigger ∷ [])) ≤ 3
relay-cost None m clocks b start axis s v = let o = cost-one m clocks b start axis (to_board s Trigger) [] v in omega arith
relay-cost (Some f) m clocks b start axis s v = omega arith

bit-few : (c : Bool) (i : ℕ) (rest : List ℕ) → length (cond c (i ∷ []) [] ++ rest) ≤ 1 + length rest
bit-few true i rest = omega arith
bit-few false i rest = omega arith

-- the most bytes of a round's orders to one board; behind two rows of resets at most four are left
abbrev most_of : Round → ℕ
most_of (Resets zero) = 42
most_of (Resets (suc zero)) = 42
most_of (Resets (suc (suc row))) = 28
most_of (Starts turn) = 42
most_of Homes = 40
most_of (Timeouts turn) = 7
most_of Relays = 3

row-cost : (m : Machine) (clocks : Clocks) (b start : ℕ) (axis : AxisDef) (row : ℕ) (s : Seen) → IsValidMachine m → Cost m clocks b start axis (orders_to (Resets row) s) ≤ 42
row-cost m clocks b start axis row s v =
    let h = resets-cost m clocks b start axis s (take 6 (drop (row * 6) (steppers s))) v in
    let l = length-take 6 (drop (row * 6) (steppers s)) in
    omega arith

round-one : (m : Machine) (clocks : Clocks) (b start : ℕ) (axis : AxisDef) (round : Round) (s : Seen) → IsValidMachine m → Cost m clocks b start axis (orders_to round s) ≤ most_of round
round-one m clocks b start axis (Resets zero) s v = row-cost m clocks b start axis zero s v
round-one m clocks b start axis (Resets (suc zero)) s v = row-cost m clocks b start axis (suc zero) s v
round-one m clocks b start axis (Resets (suc (suc row))) s v =
    let h = resets-cost m clocks b start axis s (take 6 (drop (suc (suc row) * 6) (steppers s))) v in
    let l = length-take 6 (drop (suc (suc row) * 6) (steppers s)) in
    let d = length-drop (suc (suc row) * 6) (steppers s) in
    let f = few_steppers s in
    omega arith
round-one m clocks b start axis (Starts turn) s v =
    let h = stops-cost m clocks b start axis s (take 8 (steppers s)) v in
    let l = length-take 8 (steppers s) in
    let one = cost-one m clocks b start axis (to_board s Start) (to_board s (Timeout turn) ∷ map (stop s) (take 8 (steppers s))) v in
    let two = cost-one m clocks b start axis (to_board s (Timeout turn)) (map (stop s) (take 8 (steppers s))) v in
    omega arith
round-one m clocks b start axis Homes s v =
    let a = cost-append m clocks b start axis (map (stop s) (drop 8 (steppers s))) (cond s.member.endstop (to_board s Home ∷ []) []) in
    let h = stops-cost m clocks b start axis s (drop 8 (steppers s)) v in
    let i = home-cost s.member.endstop m clocks b start axis s v in
    let l = length-drop 8 (steppers s) in
    let f = few_steppers s in
    omega arith
round-one m clocks b start axis (Timeouts turn) s v = let o = cost-one m clocks b start axis (to_board s (Timeout turn)) [] v in omega arith
round-one m clocks b start axis Relays s v = relay-cost s.fired m clocks b start axis s v

-- at most one member is on a board
abbrev NoneOn : ℕ → List Seen → Type 0
NoneOn b [] = Unit {0}
NoneOn b (s ∷ ss) = ((s.member.board == b) ≡ false) × NoneOn b ss

abbrev OneOn : ℕ → List Seen → Type 0
OneOn b [] = Unit {0}
OneOn b (s ∷ ss) = ((s.member.board == b) ≡ true → NoneOn b ss) × OneOn b ss

none-cost : (m : Machine) (clocks : Clocks) (b start : ℕ) (axis : AxisDef) (round : Round) (ss : List Seen) → NoneOn b ss → Cost m clocks b start axis (round_of round ss) ≡ 0
none-cost m clocks b start axis round [] n = refl
none-cost m clocks b start axis round (s ∷ ss) (e, n) =
    let a = cost-append m clocks b start axis (orders_to round s) (round_of round ss) in
    let h = round-other m clocks b start axis round s e in
    let i = none-cost m clocks b start axis round ss n in
    omega arith

round-by : (c : Bool) (m : Machine) (clocks : Clocks) (b start : ℕ) (axis : AxisDef) (round : Round) (s : Seen) (ss : List Seen) → IsValidMachine m → (s.member.board == b) ≡ c
    → ((s.member.board == b) ≡ true → NoneOn b ss) → Cost m clocks b start axis (round_of round ss) ≤ most_of round → Cost m clocks b start axis (round_of round (s ∷ ss)) ≤ most_of round
round-by true m clocks b start axis round s ss v e n h =
    let a = cost-append m clocks b start axis (orders_to round s) (round_of round ss) in
    let i = none-cost m clocks b start axis round ss (n e) in
    let o = round-one m clocks b start axis round s v in
    omega arith
round-by false m clocks b start axis round s ss v e n h =
    let a = cost-append m clocks b start axis (orders_to round s) (round_of round ss) in
    let i = round-other m clocks b start axis round s e in
    omega arith

round-cost : (m : Machine) (clocks : Clocks) (b start : ℕ) (axis : AxisDef) (round : Round) (ss : List Seen) → IsValidMachine m → OneOn b ss → Cost m clocks b start axis (round_of round ss) ≤ most_of round
round-cost m clocks b start axis (Resets row) [] v o = omega arith
round-cost m clocks b start axis (Starts turn) [] v o = omega arith
round-cost m clocks b start axis Homes [] v o = omega arith
round-cost m clocks b start axis (Timeouts turn) [] v o = omega arith
round-cost m clocks b start axis Relays [] v o = omega arith
round-cost m clocks b start axis round (s ∷ ss) v (n, o) = round-by (s.member.board == b) m clocks b start axis round s ss v refl n (round-cost m clocks b start axis round ss v o)

cost-either : (c : Bool) (m : Machine) (clocks : Clocks) (b start : ℕ) (axis : AxisDef) (xs : List Ctl) (limit : ℕ) → Cost m clocks b start axis xs ≤ limit → Cost m clocks b start axis (cond c xs []) ≤ limit
cost-either true m clocks b start axis xs limit h = h
cost-either false m clocks b start axis xs limit h = omega arith

goes-cost : (m : Machine) (clocks : Clocks) (b start : ℕ) (axis : AxisDef) (g : GroupState) (turn : ℕ) → IsValidMachine m → OneOn b g.members → Cost m clocks b start axis (goes g turn) ≤ 10
goes-cost m clocks b start axis g turn v o =
    let xs = cond (nat_lt g.sent (limit g)) (round_of (Timeouts (limit g)) g.members) [] in
    let ys = cond (relays_in (relay_in g turn) turn) (round_of Relays g.members) [] in
    let a = cost-append m clocks b start axis xs ys in
    let x = cost-either (nat_lt g.sent (limit g)) m clocks b start axis (round_of (Timeouts (limit g)) g.members) 7 (round-cost m clocks b start axis (Timeouts (limit g)) g.members v o) in
    let y = cost-either (relays_in (relay_in g turn) turn) m clocks b start axis (round_of Relays g.members) 3 (round-cost m clocks b start axis Relays g.members v o) in
    omega arith

cost-unless : (c : Bool) (m : Machine) (clocks : Clocks) (b start : ℕ) (axis : AxisDef) (xs : List Ctl) (limit : ℕ) → Cost m clocks b start axis xs ≤ limit → Cost m clocks b start axis (cond c [] xs) ≤ limit
cost-unless true m clocks b start axis xs limit h = omega arith
cost-unless false m clocks b start axis xs limit h = h

most-fits : (round : Round) → most_of round ≤ 42
most-fits (Resets zero) = omega arith
most-fits (Resets (suc zero)) = omega arith
most-fits (Resets (suc (suc row))) = omega arith
most-fits (Starts turn) = omega arith
most-fits Homes = omega arith
most-fits (Timeouts turn) = omega arith
most-fits Relays = omega arith

phase-cost : (p : Phase) (m : Machine) (clocks : Clocks) (b start : ℕ) (axis : AxisDef) (g : GroupState) (turn : ℕ) → IsValidMachine m → OneOn b g.members
    → Cost m clocks b start axis (orders_of_group p g turn) ≤ 42
phase-cost (Sends round) m clocks b start axis g turn v o = let h = round-cost m clocks b start axis round g.members v o in let f = most-fits round in omega arith
phase-cost Goes m clocks b start axis g turn v o =
    let h = goes-cost m clocks b start axis g turn v o in
    cost-unless (all_fired g.members) m clocks b start axis (goes g turn) 42 (omega arith)
phase-cost Rests m clocks b start axis g turn v o = omega arith

eq-false : (a b : ℕ) → b < a → (a == b) ≡ false
eq-false a b h = grind (arith, nat_tests)

-- members whose boards rise are apart
above-none : (b low : ℕ) (ss : List Seen) → low ≡ b → ((j : ℕ) (d : Member) → j < length (map (λ (s : Seen). s.member) ss) → low < (get_or (map (λ (s : Seen). s.member) ss) j d).board) → NoneOn b ss
above-none b low [] e h = tt
above-none b low (s ∷ ss) e h =
    let l : low < s.member.board = h 0 s.member (omega arith) in
    (eq-false s.member.board b (omega arith), above-none b low ss e (λ j d k. h (suc j) d (omega arith)))

rising-one : (b : ℕ) (ss : List Seen) → AllPairs (λ (x y : Member). x.board < y.board) (map (λ (s : Seen). s.member) ss) → OneOn b ss
rising-one b [] h = tt
rising-one b (s ∷ ss) h = (
  λ e. above-none b s.member.board ss (eqb-true s.member.board b e) (λ j d k. h 0 (suc j) d (omega arith) (omega arith)),
  rising-one b ss (λ i j d l k. h (suc i) (suc j) d (omega arith) (omega arith)),
)

pub fits : (m : Machine) (clocks : Clocks) (b start : ℕ) (axis : AxisDef) (g : GroupState) (turn : ℕ) → IsValidMachine m → IsRising g
    → bytes_of (commands_to m clocks b start axis (orders g turn)) ≤ 42
fits m clocks b start axis g turn v r = phase-cost (phase g.start g.last turn) m clocks b start axis g turn v (rising-one b g.members r)

-- a phase that is none of the three that may fill a control leaves room
left-room : (X : Type 0) (r0 r1 r2 starts homes now : Bool) (m : Machine) (clocks : Clocks) (b start : ℕ) (axis : AxisDef) (g : GroupState) (turn first : ℕ) → IsValidMachine m → OneOn b g.members
    → (r0 ≡ true → X) → (r1 ≡ true → X) → (starts ≡ true → X)
    → (Cost m clocks b start axis (orders_of_group (cond r0 (Sends (Resets 0)) (cond r1 (Sends (Resets 1)) (cond r2 (Sends (Resets 2)) (cond starts (Sends (Starts first)) (cond homes (Sends Homes) (cond now Goes Rests)))))) g turn) < 42) ⊎ X
left-room X true r1 r2 starts homes now m clocks b start axis g turn first v o f h i = inr (f refl)
left-room X false true r2 starts homes now m clocks b start axis g turn first v o f h i = inr (h refl)
left-room X false false true starts homes now m clocks b start axis g turn first v o f h i = inl (let c = round-cost m clocks b start axis (Resets 2) g.members v o in omega arith)
left-room X false false false true homes now m clocks b start axis g turn first v o f h i = inr (i refl)
left-room X false false false false true now m clocks b start axis g turn first v o f h i = inl (let c = round-cost m clocks b start axis Homes g.members v o in omega arith)
left-room X false false false false false true m clocks b start axis g turn first v o f h i =
    inl (let c = cost-unless (all_fired g.members) m clocks b start axis (goes g turn) 10 (goes-cost m clocks b start axis g turn v o) in omega arith)
left-room X false false false false false false m clocks b start axis g turn first v o f h i = inl (omega arith)

pub leaves-room : (m : Machine) (clocks : Clocks) (b start : ℕ) (axis : AxisDef) (g : GroupState) (turn : ℕ) → IsValidMachine m → IsRising g
    → (bytes_of (commands_to m clocks b start axis (orders g turn)) < 42) ⊎ MayFill g.start turn
leaves-room m clocks b start axis g turn v r =
    let left = g.start - turn in
    left-room (MayFill g.start turn) (left == 254) (left == 253) (left == 252) (left == 251) (left == 250) (left == 0) m clocks b start axis g turn (first_timeout g.start g.last) v (rising-one b g.members r)
    (λ e. let f = eqb-true left 254 e in inl (omega arith))
    (λ e. let f = eqb-true left 253 e in inr (inl (omega arith)))
    (λ e. let f = eqb-true left 251 e in inr (inr (omega arith)))
