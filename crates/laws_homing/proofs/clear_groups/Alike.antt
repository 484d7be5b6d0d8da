-- Clock lines by which turns begin at the same ticks as by others: what follows the others follows them, and what is sent by them is the same.
use Rattle.std.proofs.Common.{◌≡◌, ℕ, ◌+◌, ◌-◌, ◌*◌, ◌/◌, ◌^◌, ◌≤◌, ◌==◌, min, cond, Bool, true, false, List, [], ◌∷◌, ◌++◌, map, refl, ap, ◌∙◌, arith}
use Rattle.std.specs.Prelude.{drop, take}
use Rattle.msg_code.specs.Units.{bit}
use Rattle.laws_board.proofs.Names.{AxisDef, Machine, Clocks, axis_at, board_at, stepper_at, turn_tick, Cmd, trigger_of, Ctl, Order, Homes, Starts, Seen, GroupState, round_of, steppers, Homing, command_to, commands_to, low, order_command}
use Rattle.msg_code.specs.declared.cmd.Cmd.TheVariants as cmd
use Rattle.board_asking.specs.Machine.{endstop_pins}
use Rattle.trigger_group.specs.declared.order.Order.TheVariants as order
use Rattle.trigger_group.specs.Group.{orders, orders_to, stop, to_board}
use Rattle.axis_homing.specs.Homing.{place_from}
use Rattle.laws_board.specs.sections.Parts.{AreTracked}
use Rattle.laws_homing.specs.clear_boards.Ordered.{IsOrdered}
use Rattle.laws_homing.specs.clear_groups.Sections.{IsAlike, IsFollowed}

-- the tick at which a turn begins, as far as 64 bits go
pub turn_alike : (known lines : Clocks) (most turn : ℕ) → IsAlike most known lines → turn ≤ most → turn_tick known turn ≡ turn_tick lines turn
turn_alike known lines most turn a low_so = ap (λ (n : ℕ). min n (2 ^ 64 - 1)) (a.ticks turn low_so)

-- a clock that the others track
pub tracked_alike : (own : ℕ → ℕ) (known lines : Clocks) (ready most : ℕ) → (k : AreTracked own lines ready) → IsAlike (most + 1) known lines → (x : AreTracked own known ready) × (x.until ≡ min k.until most)
tracked_alike own known lines ready most k a =
    let x : AreTracked own known ready = record {
      until = min k.until most;
      kept = a.kept;
      behind = λ n late soon. (let b = k.behind n late (omega (arith, soon)) in let is = a.ticks (n + 1) (omega (arith, soon)) in omega (arith, b, is));
      ahead = λ n late soon. (let b = k.ahead n late (omega (arith, soon)) in let is = a.ticks n (omega (arith, soon)) in omega (arith, b, is));
    } in
    (x, refl)

-- a board that they follow, until a turn before the last of those that begin alike
pub followed_alike : (m : Machine) (b : ℕ) (known lines : Clocks) (ready start last till near most : ℕ) → IsFollowed m b lines ready start last till → IsAlike (most + 1) known lines → start ≤ near → near ≤ last → near + 1 ≤ most → IsFollowed m b known ready start near till
followed_alike m b known lines ready start last till near most f a goes_so near_so far =
    let x = tracked_alike _ known lines ready most f.tracked a in
    let is = x.1 in
    let ends = f.ends in
    let in_run = f.in_run in
    record {
      tracked = x.0;
      begins = f.begins;
      goes = goes_so;
      ends = omega (arith, is, ends, near_so, far);
      in_run = omega (arith, is, in_run);
      ticks = f.ticks;
      rises = f.rises;
      reports = f.reports;
      trigger = f.trigger;
      spaced = f.spaced;
    }

-- a timeout that is ordered is of a turn up to one
abbrev pub IsBy : ℕ → Order → Type 0
IsBy most (order.Timeout turn) = turn ≤ most
IsBy most what = Unit {0}

abbrev pub AreBy : ℕ → List Ctl → Type 0
AreBy most [] = Unit {0}
AreBy most (c ∷ ctls) = IsBy most c.what × AreBy most ctls

by_both : (most : ℕ) (xs ys : List Ctl) → AreBy most xs → AreBy most ys → AreBy most (xs ++ ys)
by_both most [] ys a b = b
by_both most (x ∷ xs) ys a b = (a.0, by_both most xs ys a.1 b)

stops_by : (most : ℕ) (x : Seen) (ks : List ℕ) → AreBy most (map (stop x) ks)
stops_by most x [] = tt
stops_by most x (k ∷ ks) = (tt, stops_by most x ks)

home_by : (most : ℕ) (x : Seen) (b : Bool) → AreBy most (cond b (to_board x order.Home ∷ []) [])
home_by most x true = (tt, tt)
home_by most x false = tt

pub starts_by : (most timeout : ℕ) (xs : List Seen) → timeout ≤ most → AreBy most (round_of (Starts timeout) xs)
starts_by most timeout [] low_so = tt
starts_by most timeout (x ∷ xs) low_so =
    by_both most (orders_to (Starts timeout) x) (round_of (Starts timeout) xs) (tt, (low_so, stops_by most x (take 8 (steppers x)))) (starts_by most timeout xs low_so)

pub homes_by : (most : ℕ) (xs : List Seen) → AreBy most (round_of Homes xs)
homes_by most [] = tt
homes_by most (x ∷ xs) =
    by_both most (orders_to Homes x) (round_of Homes xs) (by_both most (map (stop x) (drop 8 (steppers x))) (cond x.member.endstop (to_board x order.Home ∷ []) []) (stops_by most x (drop 8 (steppers x))) (home_by most x x.member.endstop))
    (homes_by most xs)

-- the commands of orders
one_alike : (m : Machine) (known lines : Clocks) (b start most : ℕ) (axis : AxisDef) (what : Order) → IsAlike most known lines → start ≤ most → IsBy most what → order_command m known b start axis what ≡ order_command m lines b start axis what
one_alike m known lines b start most axis (order.Reset i) a low_so by = ap (λ (n : ℕ). cmd.ResetStepClock (stepper_at m i).oid (low n)) (turn_alike known lines most start a low_so)
one_alike m known lines b start most axis order.Start a low_so by = ap (λ (n : ℕ). cmd.TrsyncStart (trigger_of m b) (low n) ((board_at m b).freq * 5 / 1_000) 2) (turn_alike known lines most start a low_so)
one_alike m known lines b start most axis (order.Timeout turn) a low_so by = ap (λ (n : ℕ). cmd.TrsyncSetTimeout (trigger_of m b) (low n)) (turn_alike known lines most turn a by)
one_alike m known lines b start most axis order.Home a low_so by =
    ap (λ (n : ℕ). cmd.EndstopHome (place_from (trigger_of m b + 1) axis.pin (endstop_pins m b)) (low n) ((board_at m b).freq * 15 / 1_000_000) 4 ((board_at m b).freq / 10_000) (bit axis.pressed) (trigger_of m b) 1)
    (turn_alike known lines most start a low_so)
one_alike m known lines b start most axis c a low_so by = refl

commands_alike : (m : Machine) (known lines : Clocks) (b start most : ℕ) (axis : AxisDef) (ctls : List Ctl) → IsAlike most known lines → start ≤ most → AreBy most ctls → commands_to m known b start axis ctls ≡ commands_to m lines b start axis ctls
commands_alike m known lines b start most axis [] a low_so by = refl
commands_alike m known lines b start most axis (c ∷ ctls) a low_so by =
    ap (λ (x : Cmd). cond (c.board == b) (x ∷ []) [] ++ commands_to m known b start axis ctls) (one_alike m known lines b start most axis c.what a low_so by.0)
    ∙ ap (λ (cs : List Cmd). command_to m lines b start axis c ++ cs) (commands_alike m known lines b start most axis ctls a low_so by.1)

pub ordered_alike : (m : Machine) (known lines : Clocks) (b most : ℕ) (h : Homing) (turn : ℕ) (g : GroupState) (commands : List Cmd) → IsAlike most known lines → h.start ≤ most → AreBy most (orders g turn) → IsOrdered m known b h turn g commands
    → IsOrdered m lines b h turn g commands
ordered_alike m known lines b most h turn g commands a low_so by o = record {
  tail = o.tail;
  are = o.are ∙ ap (λ (cs : List Cmd). cs ++ o.tail) (commands_alike m known lines b h.start most (axis_at m h.axis) (orders g turn) a low_so by);
  behind = o.behind;
  none = o.none;
}
