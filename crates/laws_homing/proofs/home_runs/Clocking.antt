-- The clocks of the steppers that move in a homing section are set by its set-up.
use Rattle.std.proofs.Common.{◌≡◌, ℕ, zero, suc, ◌+◌, ◌-◌, ◌*◌, ◌/◌, ◌%◌, ◌<◌, ◌≤◌, ◌==◌, ◌⊎◌, inl, inr, Bool, true, false, cond, List, [], ◌∷◌, ◌++◌, length, map, take, drop, Option, Some, None, refl, ap, sym, ◌∙◌, subst, arith}
use Rattle.laws_board.proofs.Names.{eq-eqb, leb_tells, take-append-drop, Level, AxisDef, Machine, Clocks, axis_at, board_at, stepper_at, turn_tick, Cmd, State, Control, Entry, Switch, orders, Orders, BoardSection, End, Member, Sends, Seen, phase, round_of, steppers, unseen, Homing, answer_in, by_answer, command_to, commands_to, hears_all, homing_turn, low, members_of, Asking, clock_question, drifts, waits_in, Known, Connecting, noted, Reacted, homing_commands, stop_command, stops, Came, known_by, last_reacted, states-kept}
use Rattle.std.proofs.lemmas.List.{length-drop}
use Rattle.msg_code.specs.declared.cmd.Cmd.TheVariants as cmd
use Rattle.trigger_group.specs.declared.round.Phase.{Phase}
use Rattle.trigger_group.specs.declared.round.Round.TheVariants.{Resets}
use Rattle.trigger_group.specs.Group.{bits, orders_of_group, orders_to, reset}
use Rattle.laws_board.specs.turns.Turns.{BoardTurn}
use Rattle.laws_board.specs.clocks.Runs as clock_runs
use Rattle.laws_board.specs.clocks.Runs.{IsInRun}
use Rattle.laws_board.specs.clocks.Samples.{IsAmong}
use Rattle.laws_board.proofs.clocks.Controls.{states_start}
use Rattle.laws_board.proofs.clocks.Lines.{as_long, noted_phase, run_before, turn_of}
use Rattle.laws_board.proofs.clocks.Links.{among_both}
use Rattle.laws_board.proofs.clocks.Orders.{order_length}
use Rattle.laws_board.proofs.clocks.Turning.{Asks, BoardTurned, Ends, Runs}
use Rattle.laws_board.specs.sections.Homes.{SomeSets, SetsIn}
use Rattle.laws_homing.specs.home_runs.Sections.{HomesFrom, IsOf, Moves}
use Rattle.laws_homing.proofs.home_runs.Controlling.{connecting_not}
use Rattle.laws_homing.proofs.home_runs.Setting.{commands_both, steppers_are}
use Rattle.laws_homing.proofs.home_runs.Settled.{later_orders}
use Rattle.trigger_group.proofs.Setup.{length_word, few_steppers}
use Rattle.host_reactor.proofs.Idle.{not-yet}

sets_front : (oid : ℕ) (xs ys : List Cmd) → SomeSets oid xs → SomeSets oid (xs ++ ys)
sets_front oid [] ys k = absurd k
sets_front oid (x ∷ xs) ys (inl k) = inl k
sets_front oid (x ∷ xs) ys (inr k) = inr (sets_front oid xs ys k)

sets_behind : (oid : ℕ) (xs ys : List Cmd) → SomeSets oid ys → SomeSets oid (xs ++ ys)
sets_behind oid [] ys k = k
sets_behind oid (x ∷ xs) ys k = inr (sets_behind oid xs ys k)

-- a row of resets
resets_set : (m : Machine) (clocks : Clocks) (b start : ℕ) (axis : AxisDef) (x : Seen) (s : ℕ) (ks : List ℕ) → x.member.board ≡ b → IsAmong s ks → SomeSets (stepper_at m s).oid (commands_to m clocks b start axis (map (reset x) ks))
resets_set m clocks b start axis x s [] same is = absurd is
resets_set m clocks b start axis x s (k ∷ ks) same (inl e) =
    let i = (stepper_at m s).oid in
    let rest = commands_to m clocks b start axis (map (reset x) ks) in
    subst (λ (t : Bool). SomeSets i (cond t (cmd.ResetStepClock (stepper_at m k).oid (low (turn_tick clocks start)) ∷ []) [] ++ rest)) (sym (eq-eqb x.member.board b same)) (inl (ap (λ (n : ℕ). (stepper_at m n).oid) e))
resets_set m clocks b start axis x s (k ∷ ks) same (inr is) =
    sets_behind (stepper_at m s).oid (command_to m clocks b start axis (reset x k)) (commands_to m clocks b start axis (map (reset x) ks)) (resets_set m clocks b start axis x s ks same is)

-- a stepper of a board in a row
abbrev RowOf : ℕ → ℕ → ℕ → List Member → Type 0
RowOf b s row [] = ⊥
RowOf b s row (x ∷ ms) = ((x.board ≡ b) × IsAmong s (take 6 (drop (row * 6) (steppers (unseen x))))) ⊎ RowOf b s row ms

round_sets : (m : Machine) (clocks : Clocks) (b start : ℕ) (axis : AxisDef) (row : ℕ) (xs : List Seen) (s : ℕ) → RowOf b s row (map (λ (y : Seen). y.member) xs) → SomeSets (stepper_at m s).oid (commands_to m clocks b start axis (round_of (Resets row) xs))
round_sets m clocks b start axis row [] s is = absurd is
round_sets m clocks b start axis row (x ∷ xs) s (inl is) =
    let i = (stepper_at m s).oid in
    let there = subst (λ (l : List ℕ). IsAmong s (take 6 (drop (row * 6) l))) (steppers_are x) is.1 in
    subst (λ (l : List Cmd). SomeSets i l) (sym (commands_both m clocks b start axis (orders_to (Resets row) x) (round_of (Resets row) xs)))
    (sets_front i (commands_to m clocks b start axis (orders_to (Resets row) x)) (commands_to m clocks b start axis (round_of (Resets row) xs)) (resets_set m clocks b start axis x s (take 6 (drop (row * 6) (steppers x))) is.0 there))
round_sets m clocks b start axis row (x ∷ xs) s (inr is) =
    let i = (stepper_at m s).oid in
    subst (λ (l : List Cmd). SomeSets i l) (sym (commands_both m clocks b start axis (orders_to (Resets row) x) (round_of (Resets row) xs)))
    (sets_behind i (commands_to m clocks b start axis (orders_to (Resets row) x)) (commands_to m clocks b start axis (round_of (Resets row) xs)) (round_sets m clocks b start axis row xs s is))

among_all : (s n : ℕ) (ks : List ℕ) → length ks ≤ n → IsAmong s ks → IsAmong s (take n ks)
among_all s n [] l is = absurd is
among_all s zero (k ∷ ks) l is = absurd (omega (arith, l))
among_all s (suc n) (k ∷ ks) l (inl e) = inl e
among_all s (suc n) (k ∷ ks) l (inr is) = inr (among_all s n ks (omega (arith, l)) is)

drop_twice : (ks : List ℕ) → drop 6 (drop 6 ks) ≡ drop 12 ks
drop_twice [] = refl
drop_twice (a ∷ []) = refl
drop_twice (a ∷ b ∷ []) = refl
drop_twice (a ∷ b ∷ c ∷ []) = refl
drop_twice (a ∷ b ∷ c ∷ d ∷ []) = refl
drop_twice (a ∷ b ∷ c ∷ d ∷ e ∷ []) = refl
drop_twice (a ∷ b ∷ c ∷ d ∷ e ∷ f ∷ ks) = refl

in_rows : (s : ℕ) (ks : List ℕ) → length ks ≤ 16 → IsAmong s ks → (row : ℕ) × (row ≤ 2) × IsAmong s (take 6 (drop (row * 6) ks))
in_rows s ks few is = elim (among_both s (take 6 ks) (drop 6 ks) (subst (λ (l : List ℕ). IsAmong s l) (sym (take-append-drop 6 ks)) is)) [
  | inl first ↦ (0, omega arith, first)
  | inr rest ↦ elim (among_both s (take 6 (drop 6 ks)) (drop 6 (drop 6 ks)) (subst (λ (l : List ℕ). IsAmong s l) (sym (take-append-drop 6 (drop 6 ks))) rest)) [
    | inl second ↦ (1, omega arith, second)
    | inr last ↦
        let few_left : length (drop 12 ks) ≤ 6 = let e = length-drop 12 ks in omega (arith, e, few) in
        (2, omega arith, among_all s 6 (drop 12 ks) few_left (subst (λ (l : List ℕ). IsAmong s l) (drop_twice ks) last))
  ]
]

row_of : (b s : ℕ) (ms : List Member) → Moves b s ms → (row : ℕ) × (row ≤ 2) × RowOf b s row ms
row_of b s [] is = absurd is
row_of b s (x ∷ ms) (inl is) = let r = in_rows s (steppers (unseen x)) (few_steppers (unseen x)) is.1 in (r.0, r.1, inl (is.0, r.2))
row_of b s (x ∷ ms) (inr is) = let r = row_of b s ms is in (r.0, r.1, inr r.2)

-- the turn of a row
row_phase : (start last k row : ℕ) → row ≤ 2 → start + row ≡ k + 254 → phase start last k ≡ Sends (Resets row)
row_phase start last k zero l e = let left : start - k ≡ 254 = omega (arith, e) in rw left refl
row_phase start last k (suc zero) l e = let left : start - k ≡ 253 = omega (arith, e) in rw left refl
row_phase start last k (suc (suc zero)) l e = let left : start - k ≡ 252 = omega (arith, e) in rw left refl
row_phase start last k (suc (suc (suc n))) l e = absurd (omega (arith, l))

group_sets : (m : Machine) (own : Clocks) (b k : ℕ) (g : Homing) (s row : ℕ) → answer_in k g.start g.group ≡ None → phase g.group.start g.group.last k ≡ Sends (Resets row) → RowOf b s row (members_of g.group)
    → SomeSets (stepper_at m s).oid (homing_commands m (by_answer k g (answer_in k g.start g.group)) own b)
group_sets m own b k g s row none is inside =
    let i = (stepper_at m s).oid in
    let By : Option End → Type 0 = λ o. SomeSets i (homing_commands m (by_answer k g o) own b) in
    let In : Phase → Type 0 = λ p. SomeSets i (commands_to m own b g.start (axis_at m g.axis) (orders_of_group p g.group k)) in
    subst By (sym none) (subst In (sym is) (round_sets m own b g.start (axis_at m g.axis) row g.group.members s inside))

row_sets : (m : Machine) (all : List Clocks) (states : List State) (own : Clocks) (b k : ℕ) (h : Homing) (s row : ℕ) → h.start ≡ h.group.start → row ≤ 2 → h.group.start + row ≡ k + 254 → RowOf b s row (members_of h.group)
    → SomeSets (stepper_at m s).oid (homing_commands m (homing_turn all k states (Some h)) own b)
row_sets m all states own b k h s row together few e inside =
    let g = hears_all all states h in
    let at : g.group.start ≡ h.group.start = states_start all 0 h.start states h.group in
    group_sets m own b k g s row (not-yet k g.start g.group (omega (arith, e, together, few))) (row_phase g.group.start g.group.last k row few (omega (arith, at, e)))
    (subst (λ (l : List Member). RowOf b s row l) (sym (states-kept all 0 h.start states h.group)) inside)

control_sets : (m : Machine) (b s row : ℕ) (c : Came) (r : Known) (k start : ℕ) (ms : List Member) (a : Asking) (x : Reacted) (t : BoardTurn) (o : Option Homing) → r.homing ≡ o → IsOf start ms o → row ≤ 2 → start + row ≡ k + 254 → RowOf b s row ms
    → (r.phase ≡ Connecting → ⊥) → BoardTurned m r b k c.states a x t.control → SomeSets (stepper_at m s).oid t.control.commands
control_sets m b s row c r k start ms a x t o is of few e inside n (Asks p g) = absurd (n p)
control_sets m b s row c r k start ms a x t o is of few e inside n (Ends p g) = absurd (n p)
control_sets m b s row c r k start ms a x t None is of few e inside n (Runs p g) = absurd of
control_sets m b s row c r k start ms a x t (Some h) is of few e inside n (Runs p g) =
    let i = (stepper_at m s).oid in
    let waits = waits_in (drifts (board_at m b).drift) k a in
    let commands = homing_commands m (homing_turn r.clocks k c.states r.homing) g.own b in
    let Home : Option Homing → Type 0 = λ y. SomeSets i (homing_commands m (homing_turn r.clocks k c.states y) g.own b) in
    let at = of.1 in
    let home : SomeSets i commands = subst Home (sym is) (row_sets m r.clocks c.states g.own b k h s row (of.0 ∙ sym of.1) few (omega (arith, at, e)) (subst (λ (l : List Member). RowOf b s row l) (sym of.2) inside)) in
    subst (λ (y : Control). SomeSets i y.commands) (sym g.control_is) (sets_front i commands (clock_question commands waits ++ stop_command (stops g.stop)) home)

turn_clocks : (m : Machine) (switches : List Switch) (pins : List (List Level)) (entries : List Entry) (b s row : ℕ) (c : Came) (before : List Came) (t : BoardTurn) (turns : List BoardTurn) (start : ℕ) (ms : List Member)
    → IsInRun m switches pins entries b (c ∷ before) (t ∷ turns) → ((known_by m switches before).phase ≡ Connecting → ⊥) → IsOf start ms (noted m c.note (known_by m switches before)).homing → row ≤ 2 → start + row ≡ length before + 254
    → RowOf b s row ms → SomeSets (stepper_at m s).oid t.control.commands
turn_clocks m switches pins entries b s row c before t turns start ms r n of few e inside =
    let x = turn_of m switches pins entries b c before t turns r in
    let known = known_by m switches before in
    control_sets m b s row c (noted m c.note known) (length before) start ms x.a (last_reacted m switches c before) t (noted m c.note known).homing refl of few e inside
    (connecting_not (noted m c.note known) known (noted_phase m c.note known) n) x.turned

-- over turns
sets_on : (oid : ℕ) (s : BoardSection) (turn : ℕ) (os ps : List Orders) → SetsIn oid s turn os → SetsIn oid s turn (os ++ ps)
sets_on oid s turn [] ps k = absurd k
sets_on oid s turn (o ∷ os) ps (inl k) = inl k
sets_on oid s turn (o ∷ os) ps (inr k) = inr (sets_on oid s (turn + 1) os ps k)

sets_last : (oid : ℕ) (s : BoardSection) (turn n : ℕ) (os : List Orders) (o : Orders) → n ≡ turn + length os → s.start ≤ n + 254 → n + 252 ≤ s.start → SomeSets oid o.control.commands → SetsIn oid s turn (os ++ o ∷ [])
sets_last oid s turn n [] o e soon late k = inl (omega (arith, e, soon), omega (arith, e, late), k)
sets_last oid s turn n (x ∷ os) o e soon late k = inr (sets_last oid s (turn + 1) n os o (omega (arith, e)) soon late k)

run_clocks : (m : Machine) (switches : List Switch) (pins : List (List Level)) (entries : List Entry) (b s row from start : ℕ) (ms : List Member) (section : BoardSection) (came : List Came) (turns : List BoardTurn)
    → IsInRun m switches pins entries b came turns → HomesFrom m switches from start ms came → from + 254 ≡ start → section.start ≡ start → row ≤ 2 → RowOf b s row ms → start + row < length turns + 254
    → SetsIn (stepper_at m s).oid section 0 (clock_runs.orders_in turns)
run_clocks m switches pins entries b s row from start ms section [] [] r homes e same few inside far = absurd (omega (arith, e, far))
run_clocks m switches pins entries b s row from start ms section [] (t ∷ turns) r homes e same few inside far = absurd r.both
run_clocks m switches pins entries b s row from start ms section (c ∷ before) [] r homes e same few inside far = absurd r.both
run_clocks m switches pins entries b s row from start ms section (c ∷ before) (t ∷ turns) r homes e same few inside far =
    let i = (stepper_at m s).oid in
    let long = as_long m switches b before turns r.both.2 in
    let o = orders t.control t.batch in
    let old = run_before m switches pins entries b c before t turns r in
    elim (leb_tells (suc (start + row)) (length turns + 254)) [
      | inl p ↦ sets_on i section 0 (clock_runs.orders_in turns) (o ∷ []) (run_clocks m switches pins entries b s row from start ms section before turns old homes.1 e same few inside p.1)
      | inr p ↦
          let q = p.1 in
          let at : start + row ≡ length before + 254 = omega (arith, q, far, long) in
          let now = homes.0 (omega (arith, at, e)) in
          let n = order_length turns in
          sets_last i section 0 (length turns) (clock_runs.orders_in turns) o (omega (arith, n)) (omega (arith, at, long, same, few)) (omega (arith, at, long, same, few))
          (turn_clocks m switches pins entries b s row c before t turns start ms r now.0 now.1 few at inside)
    ]

pub clocks_set : (m : Machine) (switches : List Switch) (pins : List (List Level)) (entries : List Entry) (b s from start : ℕ) (ms : List Member) (section : BoardSection) (came : List Came) (later past : List BoardTurn)
    → IsInRun m switches pins entries b came past → HomesFrom m switches from start ms came → from + 254 ≡ start → section.start ≡ start → Moves b s ms → start ≤ length past + 251
    → SetsIn (stepper_at m s).oid section 0 (clock_runs.orders_in (later ++ past))
clocks_set m switches pins entries b s from start ms section came later past r homes e same moves far =
    let i = (stepper_at m s).oid in
    let row = row_of b s ms moves in
    let few = row.1 in
    let more = later_orders later past in
    subst (λ (os : List Orders). SetsIn i section 0 os) (sym more.1)
    (sets_on i section 0 (clock_runs.orders_in past) more.0 (run_clocks m switches pins entries b s row.0 from start ms section came past r homes e same few row.2 (omega (arith, far, few))))
