-- A board is sent the commands of a homing section in order, and takes them so.
use Rattle.std.proofs.Common.{◌≡◌, ◌≢◌, ℕ, zero, suc, ◌+◌, ◌-◌, ◌*◌, ◌/◌, ◌%◌, ◌<◌, ◌≤◌, ◌==◌, ◌&&◌, ◌⊎◌, inl, inr, Bool, true, false, cond, List, [], ◌∷◌, ◌++◌, length, map, take, drop, get_or, Option, Some, None, refl, ap, sym, ◌∙◌, subst, arith, append_assoc, append-nil, length-append}
use Rattle.std.specs.Prelude.{max}
use Rattle.laws_board.proofs.Names.{eq-eqb, eqb_tells, append_cancel_left, take-append-drop, Level, AxisDef, Machine, Clocks, axis_at, board_at, stepper_at, Cmd, State, Control, Unit as StepUnit, Entry, Switch, Meant, commands_of, units_orders, queued_in, first_state, orders, Ctl, End, Member, Sends, Homes, Starts, Seen, first_timeout, phase, round_of, steppers, unseen, Homing, by_answer, commands_to, hears_all, homing_turn, order_command, members_of, Asking, asks_now, clock_question, drifts, waits_in, trigger_of, Known, Connecting, noted, Reacted, homing_commands, stop_command, stops, Came, known_by, last_reacted, states-kept}
use Rattle.msg_code.specs.declared.cmd.Cmd.TheVariants as cmd
use Rattle.trigger_group.specs.declared.order.Order.TheVariants as order
use Rattle.trigger_group.specs.declared.round.Phase.{Phase}
use Rattle.trigger_group.specs.declared.round.Round.{Round}
use Rattle.trigger_group.specs.declared.round.Round.TheVariants.{Resets}
use Rattle.trigger_group.specs.Group.{bits, orders_of_group, orders_to, reset, stop, to_board}
use Rattle.trigger_group.specs.Kept.{BoardsRise}
use Rattle.axis_homing.specs.Rising.{HomingRises}
use Rattle.laws_board.specs.turns.Turns.{BoardTurn, stands_after}
use Rattle.laws_board.specs.clocks.Runs.{IsInRun}
use Rattle.laws_board.specs.clocks.Samples.{IsAmong}
use Rattle.laws_board.proofs.clocks.Controls.{states_start}
use Rattle.laws_board.proofs.clocks.Links.{among_both}
use Rattle.laws_board.proofs.clocks.Lines.{as_long, noted_phase, run_before, turn_of}
use Rattle.laws_board.proofs.clocks.Turning.{Asks, BoardTurned, Ends, Runs}
use Rattle.laws_homing.specs.home_runs.Guards.{AreCalm, IsCalm}
use Rattle.laws_homing.specs.home_runs.Sections.{HomesFrom, IsOf, Moves, SetNone, SetNoneFrom, queued_in_turns}
use Rattle.laws_homing.specs.home_runs.Settled.{SendNoneIn, SetNoClockFrom}
use Rattle.laws_homing.specs.home_runs.SetUps.{AreSetUpInOrder, IsInOrder, far_by}
use Rattle.laws_homing.proofs.home_runs.Controlling.{connecting_not, phase_homes, phase_starts, turn_calm}
use Rattle.laws_homing.proofs.home_runs.Joining.{all_queued, known_rises, noted_rises}
use Rattle.laws_homing.proofs.home_runs.Setting.{AllTo, NotOn, above_not, commands_both, orders_are_to, rise_behind, steppers_are}
use Rattle.laws_homing.proofs.home_runs.Settled.{clock_from}
use Rattle.laws_homing.proofs.home_runs.Staging.{commands_both as meant_both}
use Rattle.laws_homing.proofs.home_runs.Whole.{brings_calm, turn_commands, units_calm}
use Rattle.laws_homing.proofs.home_runs.Windows.{ordered_after}
use Rattle.trigger_group.proofs.Setup.{length_word, few_steppers}
use Rattle.plan_types.proofs.Facts.{not_equal}
use Rattle.host_reactor.proofs.Idle.{not-yet}

-- how far some commands bring it
abbrev pub far_all : ℕ → ℕ → ℕ → List Cmd → ℕ
far_all i j far [] = far
far_all i j far (c ∷ cs) = far_all i j (far_by i j far c) cs

-- some commands that come in order, and bring it so far
record Goes (i j : ℕ) (P : ℕ → Type 0) (far : ℕ) (cs : List Cmd) : Type 0 where
  order : AreSetUpInOrder i j far cs
  far_is : P (far_all i j far cs)

far_both : (i j far : ℕ) (xs ys : List Cmd) → far_all i j far (xs ++ ys) ≡ far_all i j (far_all i j far xs) ys
far_both i j far [] ys = refl
far_both i j far (x ∷ xs) ys = far_both i j (far_by i j far x) xs ys

order_both : (i j far : ℕ) (xs ys : List Cmd) → AreSetUpInOrder i j far xs → AreSetUpInOrder i j (far_all i j far xs) ys → AreSetUpInOrder i j far (xs ++ ys)
order_both i j far [] ys a b = b
order_both i j far (x ∷ xs) ys a b = (a.0, order_both i j (far_by i j far x) xs ys a.1 b)

pub order_front : (i j far : ℕ) (xs ys : List Cmd) → AreSetUpInOrder i j far (xs ++ ys) → AreSetUpInOrder i j far xs
order_front i j far [] ys a = tt
order_front i j far (x ∷ xs) ys a = (a.0, order_front i j (far_by i j far x) xs ys a.1)

pub order_rest : (i j far : ℕ) (xs ys : List Cmd) → AreSetUpInOrder i j far (xs ++ ys) → AreSetUpInOrder i j (far_all i j far xs) ys
order_rest i j far [] ys a = a
order_rest i j far (x ∷ xs) ys a = order_rest i j (far_by i j far x) xs ys a.1

goes_both : (i j : ℕ) (P Q : ℕ → Type 0) (far : ℕ) (xs ys : List Cmd) → Goes i j P far xs → ((now : ℕ) → P now → Goes i j Q now ys) → Goes i j Q far (xs ++ ys)
goes_both i j P Q far xs ys g more =
    let rest = more (far_all i j far xs) g.far_is in
    record { order = order_both i j far xs ys g.order rest.order; far_is = subst Q (sym (far_both i j far xs ys)) rest.far_is }

-- what changes nothing
abbrev IsQuiet : Cmd → Type 0
IsQuiet cmd.GetUptime = Unit {0}
IsQuiet cmd.EmergencyStop = Unit {0}
IsQuiet (cmd.EndstopHome oid clock sample count rest value other reason) = Unit {0}
IsQuiet c = ⊥

abbrev AreQuiet : List Cmd → Type 0
AreQuiet [] = Unit {0}
AreQuiet (c ∷ cs) = IsQuiet c × AreQuiet cs

quiet_stays : (i j far : ℕ) (c : Cmd) → IsQuiet c → IsInOrder i j far c × (far_by i j far c ≡ far)
quiet_stays i j far cmd.GetUptime q = (tt, refl)
quiet_stays i j far cmd.EmergencyStop q = (tt, refl)
quiet_stays i j far (cmd.EndstopHome oid clock sample count rest value other reason) q = (tt, refl)
quiet_stays i j far c q = absurd q

quiet_goes : (i j : ℕ) (P : ℕ → Type 0) (far : ℕ) (cs : List Cmd) → AreQuiet cs → P far → Goes i j P far cs
quiet_goes i j P far [] q p = record { order = tt; far_is = p }
quiet_goes i j P far (c ∷ cs) q p =
    let one = quiet_stays i j far c q.0 in
    let rest = quiet_goes i j P (far_by i j far c) cs q.1 (subst P (sym one.1) p) in
    record { order = (one.0, rest.order); far_is = rest.far_is }

question_quiet : (commands : List Cmd) (a : Asking) (s : Bool) → AreQuiet (clock_question commands a ++ stop_command s)
question_quiet commands a s = both (asks_now commands a) s
  where
    both : (x y : Bool) → AreQuiet (cond x (cmd.GetUptime ∷ []) [] ++ stop_command y)
    both true true = (tt, (tt, tt))
    both true false = (tt, tt)
    both false true = (tt, tt)
    both false false = tt

-- behind the set-up what is calm is in order
abbrev IsBound : ℕ → Type 0
IsBound far = far ≡ 4

either_way : (t : Bool) (m n : ℕ) → m ≡ n → cond t m n ≡ n
either_way true m n e = e
either_way false m n e = refl

calm_stays : (i j : ℕ) (c : Cmd) → IsCalm i j c → IsInOrder i j 4 c × (far_by i j 4 c ≡ 4)
calm_stays i j (cmd.ResetStepClock oid clock) calm = (λ e. absurd (calm e), ap (λ (b : Bool). cond b 1 4) (not_equal oid i calm))
calm_stays i j (cmd.TrsyncStart oid clock every reason) calm = (λ e. absurd (calm e), ap (λ (b : Bool). cond b 2 4) (not_equal oid j calm))
calm_stays i j (cmd.TrsyncSetTimeout oid clock) calm = (λ e. omega arith, either_way (oid == j) (max 4 3) 4 refl)
calm_stays i j (cmd.StepperStopOnTrigger oid other) calm = (λ e. omega arith, either_way ((oid == i) && (other == j)) 4 4 refl)
calm_stays i j (cmd.QueueStep oid interval count add) calm = (λ e. refl, refl)
calm_stays i j c calm = (tt, refl)

calm_goes : (i j far : ℕ) (ms : List Meant) → AreCalm i j ms → IsBound far → Goes i j IsBound far (commands_of ms)
calm_goes i j far [] calm bound = record { order = tt; far_is = bound }
calm_goes i j far (m ∷ ms) calm bound =
    let one = calm_stays i j m.command calm.0 in
    let rest = calm_goes i j (far_by i j far m.command) ms calm.1 (ap (λ (n : ℕ). far_by i j n m.command) bound ∙ one.1) in
    record { order = (subst (λ (n : ℕ). IsInOrder i j n m.command) (sym bound) one.0, rest.order); far_is = rest.far_is }

-- the commands of orders to a member, and to others
mine : (m : Machine) (clocks : Clocks) (b start : ℕ) (axis : AxisDef) (c : Ctl) (rest : List Ctl) → c.board ≡ b
    → commands_to m clocks b start axis (c ∷ rest) ≡ order_command m clocks b start axis c.what ∷ commands_to m clocks b start axis rest
mine m clocks b start axis c rest same = ap (λ (t : Bool). cond t (order_command m clocks b start axis c.what ∷ []) [] ++ commands_to m clocks b start axis rest) (eq-eqb c.board b same)

none_to : (m : Machine) (clocks : Clocks) (b c start : ℕ) (axis : AxisDef) (ctls : List Ctl) → AllTo c ctls → c ≢ b → commands_to m clocks b start axis ctls ≡ []
none_to m clocks b c start axis [] a d = refl
none_to m clocks b c start axis (x ∷ ctls) a d =
    ap (λ (t : Bool). cond t (order_command m clocks b start axis x.what ∷ []) [] ++ commands_to m clocks b start axis ctls) (not_equal x.board b (λ e. d (sym a.0 ∙ e))) ∙ none_to m clocks b c start axis ctls a.1 d

none_round : (m : Machine) (clocks : Clocks) (b start : ℕ) (axis : AxisDef) (round : Round) (xs : List Seen) → NotOn b xs → commands_to m clocks b start axis (round_of round xs) ≡ []
none_round m clocks b start axis round [] n = refl
none_round m clocks b start axis round (x ∷ xs) n =
    commands_both m clocks b start axis (orders_to round x) (round_of round xs)
    ∙ ap (λ (l : List Cmd). l ++ commands_to m clocks b start axis (round_of round xs)) (none_to m clocks b x.member.board start axis (orders_to round x) (orders_are_to round x) n.0) ∙ none_round m clocks b start axis round xs n.1

-- the clock of a stepper is set, where something is so
abbrev IsClocked : Type 0 → ℕ → Type 0
IsClocked C far = (far ≤ 1) × (C → far ≡ 1)

clocked_next : (t : Bool) (C D : Type 0) (far : ℕ) → IsClocked C far → (D → t ≡ true) → IsClocked (C ⊎ D) (cond t 1 far)
clocked_next true C D far k d = (omega arith, λ x. refl)
clocked_next false C D far k d = (k.0, λ x. elim x [ inl c ↦ k.1 c | inr y ↦ let e : false ≡ true = d y in absurd (cc) ])

regroup : (A B C : Type 0) → A ⊎ (B ⊎ C) → (A ⊎ B) ⊎ C
regroup A B C (inl a) = inl (inl a)
regroup A B C (inr (inl b)) = inl (inr b)
regroup A B C (inr (inr c)) = inr c

resets_go : (m : Machine) (clocks : Clocks) (b start : ℕ) (axis : AxisDef) (y : Seen) (s : ℕ) (ks : List ℕ) (C : Type 0) (far : ℕ) → y.member.board ≡ b → IsClocked C far
    → Goes (stepper_at m s).oid (trigger_of m b) (IsClocked (C ⊎ IsAmong s ks)) far (commands_to m clocks b start axis (map (reset y) ks))
resets_go m clocks b start axis y s [] C far same k = record { order = tt; far_is = (k.0, λ x. elim x [ inl c ↦ k.1 c | inr none ↦ absurd none ]) }
resets_go m clocks b start axis y s (n ∷ ks) C far same k =
    let i = (stepper_at m s).oid in
    let j = trigger_of m b in
    let c = order_command m clocks b start axis (order.Reset n) in
    let next = clocked_next ((stepper_at m n).oid == i) C (n ≡ s) far k (λ e. eq-eqb (stepper_at m n).oid i (ap (λ (x : ℕ). (stepper_at m x).oid) e)) in
    let rest = resets_go m clocks b start axis y s ks (C ⊎ (n ≡ s)) (far_by i j far c) same next in
    subst (λ (l : List Cmd). Goes i j (IsClocked (C ⊎ IsAmong s (n ∷ ks))) far l) (sym (mine m clocks b start axis (reset y n) (map (reset y) ks) same))
    (record { order = (λ e. k.0, rest.order); far_is = (rest.far_is.0, λ x. rest.far_is.1 (regroup C (n ≡ s) (IsAmong s ks) x)) })

-- it is bound, where something is so
abbrev IsStopped : Type 0 → ℕ → Type 0
IsStopped C far = (3 ≤ far) × (far ≤ 4) × (C → far ≡ 4)

stopped_next : (t : Bool) (C D : Type 0) (far : ℕ) → IsStopped C far → (D → t ≡ true) → IsStopped (C ⊎ D) (cond t 4 far)
stopped_next true C D far k d = (omega arith, omega arith, λ x. refl)
stopped_next false C D far k d = (k.0, k.1, λ x. elim x [ inl c ↦ k.2 c | inr y ↦ let e : false ≡ true = d y in absurd (cc) ])

stops_go : (m : Machine) (clocks : Clocks) (b start : ℕ) (axis : AxisDef) (y : Seen) (s : ℕ) (ks : List ℕ) (C : Type 0) (far : ℕ) → y.member.board ≡ b → IsStopped C far
    → Goes (stepper_at m s).oid (trigger_of m b) (IsStopped (C ⊎ IsAmong s ks)) far (commands_to m clocks b start axis (map (stop y) ks))
stops_go m clocks b start axis y s [] C far same k = record { order = tt; far_is = (k.0, k.1, λ x. elim x [ inl c ↦ k.2 c | inr none ↦ absurd none ]) }
stops_go m clocks b start axis y s (n ∷ ks) C far same k =
    let i = (stepper_at m s).oid in
    let j = trigger_of m b in
    let c = order_command m clocks b start axis (order.Stop n) in
    let next = stopped_next (((stepper_at m n).oid == i) && (j == j)) C (n ≡ s) far k
    (λ e. ap (λ (x : Bool). x && (j == j)) (eq-eqb (stepper_at m n).oid i (ap (λ (x : ℕ). (stepper_at m x).oid) e)) ∙ eq-eqb j j refl) in
    let rest = stops_go m clocks b start axis y s ks (C ⊎ (n ≡ s)) (far_by i j far c) same next in
    subst (λ (l : List Cmd). Goes i j (IsStopped (C ⊎ IsAmong s (n ∷ ks))) far l) (sym (mine m clocks b start axis (stop y n) (map (stop y) ks) same))
    (record { order = (λ e. k.0, rest.order); far_is = (rest.far_is.0, rest.far_is.1, λ x. rest.far_is.2 (regroup C (n ≡ s) (IsAmong s ks) x)) })

more_stopped : (C D : Type 0) (far : ℕ) → (D → C) → IsStopped C far → IsStopped D far
more_stopped C D far f k = (k.0, k.1, λ d. k.2 (f d))

goes_as : (i j : ℕ) (P Q : ℕ → Type 0) (far : ℕ) (cs : List Cmd) → ((now : ℕ) → P now → Q now) → Goes i j P far cs → Goes i j Q far cs
goes_as i j P Q far cs f g = record { order = g.order; far_is = f (far_all i j far cs) g.far_is }

starts_go : (m : Machine) (clocks : Clocks) (b start timeout : ℕ) (axis : AxisDef) (y : Seen) (s : ℕ) (far : ℕ) → y.member.board ≡ b → far ≡ 1
    → Goes (stepper_at m s).oid (trigger_of m b) (IsStopped (IsAmong s (take 8 (steppers y)))) far (commands_to m clocks b start axis (orders_to (Starts timeout) y))
starts_go m clocks b start timeout axis y s far same one =
    let i = (stepper_at m s).oid in
    let j = trigger_of m b in
    let ks = take 8 (steppers y) in
    let P : ℕ → Type 0 = IsStopped (IsAmong s ks) in
    let yes : (j == j) ≡ true = eq-eqb j j refl in
    let begin = order_command m clocks b start axis order.Start in
    let time = order_command m clocks b start axis (order.Timeout timeout) in
    let stops = commands_to m clocks b start axis (map (stop y) ks) in
    let three : far_by i j 2 time ≡ 3 = ap (λ (t : Bool). cond t (max 2 3) 2) yes in
    let two : far_by i j far begin ≡ 2 = ap (λ (t : Bool). cond t 2 far) yes in
    let last : Goes i j P 3 stops =
    goes_as i j (IsStopped (⊥ ⊎ IsAmong s ks)) P 3 stops (λ now. more_stopped (⊥ ⊎ IsAmong s ks) (IsAmong s ks) now (λ x. inr x)) (stops_go m clocks b start axis y s ks ⊥ 3 same (omega arith, omega arith, λ x. absurd x)) in
    let at_three : Goes i j P (far_by i j 2 time) stops = subst (λ (n : ℕ). Goes i j P n stops) (sym three) last in
    let timed : Goes i j P 2 (time ∷ stops) = record { order = (λ e. omega arith, at_three.order); far_is = at_three.far_is } in
    let at_two : Goes i j P (far_by i j far begin) (time ∷ stops) = subst (λ (n : ℕ). Goes i j P n (time ∷ stops)) (sym two) timed in
    subst (λ (l : List Cmd). Goes i j P far l)
    (sym (mine m clocks b start axis (to_board y order.Start) (to_board y (order.Timeout timeout) ∷ map (stop y) ks) same ∙ ap (λ (l : List Cmd). begin ∷ l) (mine m clocks b start axis (to_board y (order.Timeout timeout)) (map (stop y) ks) same)))
    (record { order = (λ e. one, at_two.order); far_is = at_two.far_is })

homes_go : (m : Machine) (clocks : Clocks) (b start : ℕ) (axis : AxisDef) (y : Seen) (s : ℕ) (C : Type 0) (far : ℕ) → y.member.board ≡ b → IsStopped C far
    → Goes (stepper_at m s).oid (trigger_of m b) (IsStopped (C ⊎ IsAmong s (drop 8 (steppers y)))) far (commands_to m clocks b start axis (orders_to Homes y))
homes_go m clocks b start axis y s C far same k =
    let i = (stepper_at m s).oid in
    let j = trigger_of m b in
    let ks = drop 8 (steppers y) in
    let stops = map (stop y) ks in
    let reads = cond y.member.endstop (to_board y order.Home ∷ []) [] in
    let P : ℕ → Type 0 = IsStopped (C ⊎ IsAmong s ks) in
    subst (λ (l : List Cmd). Goes i j P far l) (sym (commands_both m clocks b start axis stops reads))
    (goes_both i j P P far (commands_to m clocks b start axis stops) (commands_to m clocks b start axis reads) (stops_go m clocks b start axis y s ks C far same k)
    (λ now p. quiet_goes i j P now (commands_to m clocks b start axis reads) (quiet y.member.endstop) p))
  where
    quiet : (e : Bool) → AreQuiet (commands_to m clocks b start axis (cond e (to_board y order.Home ∷ []) []))
    quiet true = subst AreQuiet (sym (mine m clocks b start axis (to_board y order.Home) [] same)) (tt, tt)
    quiet false = tt

-- the steppers of a board that move
abbrev movers_of : ℕ → List Member → List ℕ
movers_of b [] = []
movers_of b (x ∷ ms) = cond (x.board == b) (steppers (unseen x)) (movers_of b ms)

above_not_this : (b s : ℕ) (x : Member) (ms : List Member) → BoardsRise (x ∷ ms) → Moves b s ms → x.board ≢ b
above_not_this b s x [] rise is = absurd is
above_not_this b s x (y ∷ ms) rise (inl is) = λ e. let less = rise 0 1 x (omega arith) (omega arith) in absurd (omega (arith, less, e, is.0))
above_not_this b s x (y ∷ ms) rise (inr is) = above_not_this b s x ms (λ a c d l w. skip a c d l w) is
  where
    skip : (a c : ℕ) (d : Member) → a < c → c < length (x ∷ ms) → (get_or (x ∷ ms) a d).board < (get_or (x ∷ ms) c d).board
    skip zero zero d l w = absurd (omega (arith, l))
    skip zero (suc c) d l w = rise 0 (suc (suc c)) d (omega arith) (omega (arith, w))
    skip (suc a) zero d l w = absurd (omega (arith, l))
    skip (suc a) (suc c) d l w = rise (suc (suc a)) (suc (suc c)) d (omega (arith, l)) (omega (arith, w))

-- the member of a board on which a stepper moves
record OnBoard (b s : ℕ) (xs : List Seen) : Type 0 where
  seen : Seen
  on : seen.member.board ≡ b
  among : IsAmong s (movers_of b (map (λ (x : Seen). x.member) xs))
  few : length (movers_of b (map (λ (x : Seen). x.member) xs)) ≤ 16
  are : steppers seen ≡ movers_of b (map (λ (x : Seen). x.member) xs)
  sole : (m : Machine) (clocks : Clocks) (start : ℕ) (axis : AxisDef) (round : Round) → commands_to m clocks b start axis (round_of round xs) ≡ commands_to m clocks b start axis (orders_to round seen)

on_board : (b s : ℕ) (xs : List Seen) → BoardsRise (map (λ (x : Seen). x.member) xs) → Moves b s (map (λ (x : Seen). x.member) xs) → OnBoard b s xs
on_board b s [] rise is = absurd is
on_board b s (x ∷ xs) rise (inl is) =
    let ms = map (λ (y : Seen). y.member) xs in
    let here : movers_of b (x.member ∷ ms) ≡ steppers (unseen x.member) = ap (λ (t : Bool). cond t (steppers (unseen x.member)) (movers_of b ms)) (eq-eqb x.member.board b is.0) in
    let not_on : NotOn b xs = subst (λ (n : ℕ). NotOn n xs) is.0 (above_not x.member.board xs (λ k d l. rise 0 (suc k) d (omega arith) (omega (arith, l)))) in
    record {
      seen = x;
      on = is.0;
      among = subst (λ (l : List ℕ). IsAmong s l) (sym here) is.1;
      few = subst (λ (l : List ℕ). length l ≤ 16) (sym here) (few_steppers (unseen x.member));
      are = sym (steppers_are x) ∙ sym here;
      sole = λ m clocks start axis round. commands_both m clocks b start axis (orders_to round x) (round_of round xs)
          ∙ ap (λ (l : List Cmd). commands_to m clocks b start axis (orders_to round x) ++ l) (none_round m clocks b start axis round xs not_on) ∙ append-nil (commands_to m clocks b start axis (orders_to round x));
    }
on_board b s (x ∷ xs) rise (inr is) =
    let ms = map (λ (y : Seen). y.member) xs in
    let other = above_not_this b s x.member ms rise is in
    let rest = on_board b s xs (rise_behind x.member ms rise) is in
    let later : movers_of b (x.member ∷ ms) ≡ movers_of b ms = ap (λ (t : Bool). cond t (steppers (unseen x.member)) (movers_of b ms)) (not_equal x.member.board b other) in
    record {
      seen = rest.seen;
      on = rest.on;
      among = subst (λ (l : List ℕ). IsAmong s l) (sym later) rest.among;
      few = subst (λ (l : List ℕ). length l ≤ 16) (sym later) rest.few;
      are = rest.are ∙ sym later;
      sole = λ m clocks start axis round. commands_both m clocks b start axis (orders_to round x) (round_of round xs)
          ∙ ap (λ (l : List Cmd). l ++ commands_to m clocks b start axis (round_of round xs)) (none_to m clocks b x.member.board start axis (orders_to round x) (orders_are_to round x) other) ∙ rest.sole m clocks start axis round;
    }

-- a part of some steppers
first_or : (A B C D : Type 0) → (B → C ⊎ D) → A ⊎ B → (A ⊎ C) ⊎ D
first_or A B C D f (inl a) = inl (inl a)
first_or A B C D f (inr b) = elim (f b) [ inl c ↦ inl (inr c) | inr d ↦ inr d ]

among_take : (s n k : ℕ) (ks : List ℕ) → IsAmong s (take (n + k) ks) → IsAmong s (take n ks) ⊎ IsAmong s (take k (drop n ks))
among_take s zero k ks is = inr (subst (λ (n : ℕ). IsAmong s (take n ks)) (plain k) is)
  where
    plain : (k : ℕ) → 0 + k ≡ k
    plain k = omega arith
among_take s (suc n) k [] is =
    let next : suc n + k ≡ suc (n + k) = omega arith in
    absurd (subst (λ (l : ℕ). IsAmong s (take l [])) next is)
among_take s (suc n) k (x ∷ ks) is =
    let next : suc n + k ≡ suc (n + k) = omega arith in
    first_or (x ≡ s) (IsAmong s (take (n + k) ks)) (IsAmong s (take n ks)) (IsAmong s (take k (drop n ks))) (among_take s n k ks) (subst (λ (l : ℕ). IsAmong s (take l (x ∷ ks))) next is)

among_all : (s n : ℕ) (ks : List ℕ) → length ks ≤ n → IsAmong s ks → IsAmong s (take n ks)
among_all s n [] few is = absurd is
among_all s zero (x ∷ ks) few is = absurd (omega (arith, few))
among_all s (suc n) (x ∷ ks) few (inl e) = inl e
among_all s (suc n) (x ∷ ks) few (inr is) = inr (among_all s n ks (omega (arith, few)) is)

-- how far a stepper is set up once so many turns of a section passed
abbrev IsFar : ℕ → List ℕ → ℕ → ℕ → Type 0
IsFar s ks turns far = (turns ≤ 3 → IsClocked (IsAmong s (take (turns * 6) ks)) far) × (turns ≡ 4 → IsStopped (IsAmong s (take 8 ks)) far) × (5 ≤ turns → far ≡ 4)

-- the phases of the first rounds
phase_first : (start last k : ℕ) → start ≡ k + 254 → phase start last k ≡ Sends (Resets 0)
phase_first start last k e = let left : start - k ≡ 254 = omega (arith, e) in rw left refl

phase_second : (start last k : ℕ) → start ≡ k + 253 → phase start last k ≡ Sends (Resets 1)
phase_second start last k e = let left : start - k ≡ 253 = omega (arith, e) in rw left refl

phase_third : (start last k : ℕ) → start ≡ k + 252 → phase start last k ≡ Sends (Resets 2)
phase_third start last k e = let left : start - k ≡ 252 = omega (arith, e) in rw left refl

-- a round's commands
abbrev HomeGoes : Machine → ℕ → ℕ → (ℕ → Type 0) → ℕ → List Clocks → ℕ → List State → Clocks → Homing → Type 0
HomeGoes m b s P far all k states own h = Goes (stepper_at m s).oid (trigger_of m b) P far (homing_commands m (homing_turn all k states (Some h)) own b)

home_goes : (m : Machine) (all : List Clocks) (states : List State) (own : Clocks) (b k s : ℕ) (h : Homing) (ms : List Member) (round : ℕ → Round) (P : ℕ → Type 0) (far start : ℕ) → IsOf start ms (Some h) → k < start → BoardsRise ms → Moves b s ms
    → ((last : ℕ) → phase start last k ≡ Sends (round last))
    → ((y : Seen) (from : ℕ) (axis : AxisDef) → y.member.board ≡ b → steppers y ≡ movers_of b ms → IsAmong s (movers_of b ms) → length (movers_of b ms) ≤ 16
    → Goes (stepper_at m s).oid (trigger_of m b) P far (commands_to m own b from axis (orders_to (round (hears_all all states h).group.last) y)))
    → HomeGoes m b s P far all k states own h
home_goes m all states own b k s h ms round P far start of early rise moves is goes =
    let i = (stepper_at m s).oid in
    let j = trigger_of m b in
    let g = hears_all all states h in
    let members : members_of g.group ≡ ms = states-kept all 0 h.start states h.group ∙ of.2 in
    let begin : g.group.start ≡ start = states_start all 0 h.start states h.group ∙ of.1 in
    let on = on_board b s g.group.members (subst BoardsRise (sym members) rise) (subst (λ (l : List Member). Moves b s l) (sym members) moves) in
    let begun = of.0 in
    let By : Option End → Type 0 = λ o. Goes i j P far (homing_commands m (by_answer k g o) own b) in
    let In : Phase → Type 0 = λ p. Goes i j P far (commands_to m own b g.start (axis_at m g.axis) (orders_of_group p g.group k)) in
    let phase_is : phase g.group.start g.group.last k ≡ Sends (round g.group.last) = ap (λ (n : ℕ). phase n g.group.last k) begin ∙ is g.group.last in
    subst By (sym (not-yet k g.start g.group (omega (arith, early, begun))))
    (subst In (sym phase_is)
    (subst (λ (l : List Cmd). Goes i j P far l) (sym (on.sole m own g.start (axis_at m g.axis) (round g.group.last))) (goes on.seen g.start (axis_at m g.axis) on.on (on.are ∙ ap (movers_of b) members)
    (subst (λ (l : List Member). IsAmong s (movers_of b l)) members on.among) (subst (λ (l : List Member). length (movers_of b l) ≤ 16) members on.few))))

home_starts : (m : Machine) (all : List Clocks) (states : List State) (own : Clocks) (b k s : ℕ) (h : Homing) (ms : List Member) (P : ℕ → Type 0) (far start : ℕ) → IsOf start ms (Some h) → k < start → BoardsRise ms → Moves b s ms
    → start ≡ k + 251
    → ((y : Seen) (timeout from : ℕ) (axis : AxisDef) → y.member.board ≡ b → steppers y ≡ movers_of b ms → IsAmong s (movers_of b ms) → length (movers_of b ms) ≤ 16
    → Goes (stepper_at m s).oid (trigger_of m b) P far (commands_to m own b from axis (orders_to (Starts timeout) y)))
    → HomeGoes m b s P far all k states own h
home_starts m all states own b k s h ms P far start of early rise moves at goes =
    let last = (hears_all all states h).group.last in
    home_goes m all states own b k s h ms (λ n. Starts (first_timeout start n)) P far start of early rise moves (λ n. phase_starts start n k at) (λ y from axis on are among few. goes y (first_timeout start last) from axis on are among few)

-- a control's commands
control_goes : (P : ℕ → Type 0) (far : ℕ) (m : Machine) (b s : ℕ) (c : Came) (r : Known) (k start : ℕ) (ms : List Member) (a : Asking) (x : Reacted) (t : BoardTurn) (o : Option Homing) → r.homing ≡ o → IsOf start ms o
    → (r.phase ≡ Connecting → ⊥) → BoardTurned m r b k c.states a x t.control → ((h : Homing) (own : Clocks) → IsOf start ms (Some h) → HomeGoes m b s P far r.clocks k c.states own h)
    → Goes (stepper_at m s).oid (trigger_of m b) P far t.control.commands
control_goes P far m b s c r k start ms a x t o is of n (Asks p g) goes = absurd (n p)
control_goes P far m b s c r k start ms a x t o is of n (Ends p g) goes = absurd (n p)
control_goes P far m b s c r k start ms a x t None is of n (Runs p g) goes = absurd of
control_goes P far m b s c r k start ms a x t (Some h) is of n (Runs p g) goes =
    let i = (stepper_at m s).oid in
    let j = trigger_of m b in
    let waits = waits_in (drifts (board_at m b).drift) k a in
    let commands = homing_commands m (homing_turn r.clocks k c.states r.homing) g.own b in
    let Home : Option Homing → Type 0 = λ y. Goes i j P far (homing_commands m (homing_turn r.clocks k c.states y) g.own b) in
    subst (λ (y : Control). Goes i j P far y.commands) (sym g.control_is)
    (goes_both i j P P far commands (clock_question commands waits ++ stop_command (stops g.stop)) (subst Home (sym is) (goes h g.own of))
    (λ now p. quiet_goes i j P now (clock_question commands waits ++ stop_command (stops g.stop)) (question_quiet commands waits (stops g.stop)) p))

turn_goes : (P : ℕ → Type 0) (far : ℕ) (m : Machine) (switches : List Switch) (pins : List (List Level)) (entries : List Entry) (b s : ℕ) (c : Came) (before : List Came) (t : BoardTurn) (turns : List BoardTurn) (start : ℕ) (ms : List Member)
    → IsInRun m switches pins entries b (c ∷ before) (t ∷ turns) → ((known_by m switches before).phase ≡ Connecting → ⊥) → IsOf start ms (noted m c.note (known_by m switches before)).homing
    → ((h : Homing) (own : Clocks) → IsOf start ms (Some h) → HomeGoes m b s P far (noted m c.note (known_by m switches before)).clocks (length before) c.states own h)
    → Goes (stepper_at m s).oid (trigger_of m b) P far t.control.commands
turn_goes P far m switches pins entries b s c before t turns start ms r n of goes =
    let x = turn_of m switches pins entries b c before t turns r in
    let known = known_by m switches before in
    let now = noted m c.note known in
    control_goes P far m b s c now (length before) start ms x.a (last_reacted m switches c before) t now.homing refl of (connecting_not now known (noted_phase m c.note known) n) x.turned goes

-- a turn of a section
which_turn : (d : ℕ) → (d ≡ 0) ⊎ ((d ≡ 1) ⊎ ((d ≡ 2) ⊎ ((d ≡ 3) ⊎ ((d ≡ 4) ⊎ (5 ≤ d)))))
which_turn d = grind arith

clocked_on : (m : Machine) (own : Clocks) (b s d from : ℕ) (axis : AxisDef) (y : Seen) (ks : List ℕ) (far : ℕ) → y.member.board ≡ b → steppers y ≡ ks → d ≤ 2 → IsFar s ks d far
    → Goes (stepper_at m s).oid (trigger_of m b) (IsFar s ks (d + 1)) far (commands_to m own b from axis (orders_to (Resets d) y))
clocked_on m own b s d from axis y ks far on are few k =
    let i = (stepper_at m s).oid in
    let j = trigger_of m b in
    let C = IsAmong s (take (d * 6) ks) in
    let row = take 6 (drop (d * 6) ks) in
    let front : (d + 1) * 6 ≡ d * 6 + 6 = omega arith in
    subst (λ (l : List ℕ). Goes i j (IsFar s ks (d + 1)) far (commands_to m own b from axis (map (reset y) (take 6 (drop (d * 6) l))))) (sym are)
    (goes_as i j (IsClocked (C ⊎ IsAmong s row)) (IsFar s ks (d + 1)) far (commands_to m own b from axis (map (reset y) row))
    (λ now p. (λ l. (p.0, λ is. p.1 (among_take s (d * 6) 6 ks (subst (λ (n : ℕ). IsAmong s (take n ks)) front is))), λ e. absurd (omega (arith, e, few)), λ e. absurd (omega (arith, e, few))))
    (resets_go m own b from axis y s row C far on (k.0 (omega (arith, few)))))

-- what a turn brings without units
no_units : (t : BoardTurn) → t.batch.units ≡ [] → commands_of (queued_in (orders t.control t.batch)) ≡ t.control.commands
no_units t none = turn_commands t ∙ ap (λ (us : List StepUnit). t.control.commands ++ commands_of (units_orders us)) none ∙ append-nil t.control.commands

abbrev TurnGoes : Machine → ℕ → ℕ → List Member → ℕ → ℕ → BoardTurn → Type 0
TurnGoes m b s ms d far t = Goes (stepper_at m s).oid (trigger_of m b) (IsFar s (movers_of b ms) (d + 1)) far (commands_of (queued_in (orders t.control t.batch)))

abbrev ControlGoes : Machine → ℕ → ℕ → List Member → ℕ → ℕ → BoardTurn → Type 0
ControlGoes m b s ms d far t = Goes (stepper_at m s).oid (trigger_of m b) (IsFar s (movers_of b ms) (d + 1)) far t.control.commands

alone : (m : Machine) (b s : ℕ) (ms : List Member) (d far : ℕ) (t : BoardTurn) → t.batch.units ≡ [] → ControlGoes m b s ms d far t → TurnGoes m b s ms d far t
alone m b s ms d far t none g = subst (λ (l : List Cmd). Goes (stepper_at m s).oid (trigger_of m b) (IsFar s (movers_of b ms) (d + 1)) far l) (sym (no_units t none)) g

reset_turn : (m : Machine) (switches : List Switch) (pins : List (List Level)) (entries : List Entry) (b s : ℕ) (c : Came) (before : List Came) (t : BoardTurn) (turns : List BoardTurn) (start d far : ℕ) (ms : List Member)
    → IsInRun m switches pins entries b (c ∷ before) (t ∷ turns) → ((known_by m switches before).phase ≡ Connecting → ⊥) → IsOf start ms (noted m c.note (known_by m switches before)).homing → BoardsRise ms → Moves b s ms
    → start + d ≡ length before + 254 → IsFar s (movers_of b ms) d far → d ≤ 2 → ((last : ℕ) → phase start last (length before) ≡ Sends (Resets d)) → ControlGoes m b s ms d far t
reset_turn m switches pins entries b s c before t turns start d far ms r n of rise moves at k few phase_is =
    let P : ℕ → Type 0 = IsFar s (movers_of b ms) (d + 1) in
    turn_goes P far m switches pins entries b s c before t turns start ms r n of
    (λ h own o. home_goes m (noted m c.note (known_by m switches before)).clocks c.states own b (length before) s h ms (λ n. Resets d) P far start o (omega (arith, at, few)) rise moves phase_is
    (λ y from axis on are among all. clocked_on m own b s d from axis y (movers_of b ms) far on are few k))

start_turn : (m : Machine) (switches : List Switch) (pins : List (List Level)) (entries : List Entry) (b s : ℕ) (c : Came) (before : List Came) (t : BoardTurn) (turns : List BoardTurn) (start d far : ℕ) (ms : List Member)
    → IsInRun m switches pins entries b (c ∷ before) (t ∷ turns) → ((known_by m switches before).phase ≡ Connecting → ⊥) → IsOf start ms (noted m c.note (known_by m switches before)).homing → BoardsRise ms → Moves b s ms
    → start + d ≡ length before + 254 → IsFar s (movers_of b ms) d far → d ≡ 3 → ControlGoes m b s ms d far t
start_turn m switches pins entries b s c before t turns start d far ms r n of rise moves at k three =
    let ks = movers_of b ms in
    let P : ℕ → Type 0 = IsFar s ks (d + 1) in
    turn_goes P far m switches pins entries b s c before t turns start ms r n of
    (λ h own o. any_timeout h own o)
  where
    any_timeout : (h : Homing) (own : Clocks) → IsOf start ms (Some h) → HomeGoes m b s (IsFar s (movers_of b ms) (d + 1)) far (noted m c.note (known_by m switches before)).clocks (length before) c.states own h
    any_timeout h own o =
        let all = (noted m c.note (known_by m switches before)).clocks in
        let g = hears_all all c.states h in
        let ks = movers_of b ms in
        home_starts m all c.states own b (length before) s h ms (IsFar s ks (d + 1)) far start o (omega (arith, at, three)) rise moves (omega (arith, at, three))
        (λ y timeout from axis on are among all_few.
        let one : far ≡ 1 = (k.0 (omega (arith, three))).1 (among_all s (d * 6) ks (omega (arith, all_few, three)) among) in
        goes_as (stepper_at m s).oid (trigger_of m b) (IsStopped (IsAmong s (take 8 (steppers y)))) (IsFar s ks (d + 1)) far (commands_to m own b from axis (orders_to (Starts timeout) y))
        (λ now p. (λ l. absurd (omega (arith, l, three)), λ e. subst (λ (l : List ℕ). IsStopped (IsAmong s (take 8 l)) now) are p, λ l. absurd (omega (arith, l, three))))
        (starts_go m own b from timeout axis y s far on one))

home_turn : (m : Machine) (switches : List Switch) (pins : List (List Level)) (entries : List Entry) (b s : ℕ) (c : Came) (before : List Came) (t : BoardTurn) (turns : List BoardTurn) (start d far : ℕ) (ms : List Member)
    → IsInRun m switches pins entries b (c ∷ before) (t ∷ turns) → ((known_by m switches before).phase ≡ Connecting → ⊥) → IsOf start ms (noted m c.note (known_by m switches before)).homing → BoardsRise ms → Moves b s ms
    → start + d ≡ length before + 254 → IsFar s (movers_of b ms) d far → d ≡ 4 → SetNone (stepper_at m s).oid t.batch.units → TurnGoes m b s ms d far t
home_turn m switches pins entries b s c before t turns start d far ms r n of rise moves at k four none =
    let i = (stepper_at m s).oid in
    let j = trigger_of m b in
    let ks = movers_of b ms in
    let us = units_orders t.batch.units in
    let controls = turn_goes IsBound far m switches pins entries b s c before t turns start ms r n of
    (λ h own o. home_goes m (noted m c.note (known_by m switches before)).clocks c.states own b (length before) s h ms (λ x. Homes) IsBound far start o (omega (arith, at, four)) rise moves
    (λ last. phase_homes start last (length before) (omega (arith, at, four)))
    (λ y from axis on are among few.
    let C = IsAmong s (take 8 ks) in
    let either = among_both s (take 8 ks) (drop 8 ks) (subst (λ (l : List ℕ). IsAmong s l) (sym (take-append-drop 8 ks)) among) in
    goes_as i j (IsStopped (C ⊎ IsAmong s (drop 8 (steppers y)))) IsBound far (commands_to m own b from axis (orders_to Homes y))
    (λ now p. p.2 (subst (λ (l : List ℕ). C ⊎ IsAmong s (drop 8 l)) (sym are) either)) (homes_go m own b from axis y s C far on (k.1 four)))) in
    let all = goes_both i j IsBound IsBound far t.control.commands (commands_of us) controls (λ now p. calm_goes i j now us (units_calm i j t.batch.units none) p) in
    subst (λ (l : List Cmd). Goes i j (IsFar s ks (d + 1)) far l) (sym (turn_commands t))
    (goes_as i j IsBound (IsFar s ks (d + 1)) far (t.control.commands ++ commands_of us) (λ now p. (λ l. absurd (omega (arith, l, four)), λ e. absurd (omega (arith, e, four)), λ l. p)) all)

late_turn : (m : Machine) (switches : List Switch) (pins : List (List Level)) (entries : List Entry) (b s : ℕ) (c : Came) (before : List Came) (t : BoardTurn) (turns : List BoardTurn) (start d far : ℕ) (ms : List Member)
    → IsInRun m switches pins entries b (c ∷ before) (t ∷ turns) → ((known_by m switches before).phase ≡ Connecting → ⊥) → IsOf start ms (noted m c.note (known_by m switches before)).homing
    → start + d ≡ length before + 254 → IsFar s (movers_of b ms) d far → 5 ≤ d → SetNone (stepper_at m s).oid t.batch.units → TurnGoes m b s ms d far t
late_turn m switches pins entries b s c before t turns start d far ms r n of at k five none =
    let i = (stepper_at m s).oid in
    let j = trigger_of m b in
    let new = queued_in (orders t.control t.batch) in
    let calm = brings_calm i j t (turn_calm i j m switches pins entries b c before t turns start ms r n of (omega (arith, at, five))) none in
    goes_as i j IsBound (IsFar s (movers_of b ms) (d + 1)) far (commands_of new) (λ now p. (λ l. absurd (omega (arith, l, five)), λ e. absurd (omega (arith, e, five)), λ l. p)) (calm_goes i j far new calm (k.2 five))

section_turn : (m : Machine) (switches : List Switch) (pins : List (List Level)) (entries : List Entry) (b s : ℕ) (c : Came) (before : List Came) (t : BoardTurn) (turns : List BoardTurn) (start d far : ℕ) (ms : List Member)
    → IsInRun m switches pins entries b (c ∷ before) (t ∷ turns) → ((known_by m switches before).phase ≡ Connecting → ⊥) → IsOf start ms (noted m c.note (known_by m switches before)).homing → BoardsRise ms → Moves b s ms
    → start + d ≡ length before + 254 → IsFar s (movers_of b ms) d far → (d ≤ 3 → t.batch.units ≡ []) → SetNone (stepper_at m s).oid t.batch.units → TurnGoes m b s ms d far t
section_turn m switches pins entries b s c before t turns start d far ms r n of rise moves at k sends none =
    let Reset : (d ≤ 2) → ((last : ℕ) → phase start last (length before) ≡ Sends (Resets d)) → TurnGoes m b s ms d far t =
    λ few is. alone m b s ms d far t (sends (omega (arith, few))) (reset_turn m switches pins entries b s c before t turns start d far ms r n of rise moves at k few is) in
    elim (which_turn d) [
      | inl e ↦ Reset (omega (arith, e)) (λ last. phase_first start last (length before) (omega (arith, at, e)) ∙ ap (λ (x : ℕ). Sends (Resets x)) (sym e))
      | inr x1 ↦ elim x1 [
        | inl e ↦ Reset (omega (arith, e)) (λ last. phase_second start last (length before) (omega (arith, at, e)) ∙ ap (λ (x : ℕ). Sends (Resets x)) (sym e))
        | inr x2 ↦ elim x2 [
          | inl e ↦ Reset (omega (arith, e)) (λ last. phase_third start last (length before) (omega (arith, at, e)) ∙ ap (λ (x : ℕ). Sends (Resets x)) (sym e))
          | inr x3 ↦ elim x3 [
            | inl e ↦ alone m b s ms d far t (sends (omega (arith, e))) (start_turn m switches pins entries b s c before t turns start d far ms r n of rise moves at k e)
            | inr x4 ↦ elim x4 [
              | inl e ↦ home_turn m switches pins entries b s c before t turns start d far ms r n of rise moves at k e none
              | inr e ↦ late_turn m switches pins entries b s c before t turns start d far ms r n of at k e none
            ]
          ]
        ]
      ]
    ]

rise_of : (start : ℕ) (ms : List Member) (o : Option Homing) → IsOf start ms o → HomingRises o → BoardsRise ms
rise_of start ms None of rise = absurd of
rise_of start ms (Some h) of rise = subst BoardsRise of.2 rise

-- what was queued in some turns of a section comes in order
record QueuedSo (i j : ℕ) (P : ℕ → Type 0) (later early : List BoardTurn) : Type 0 where
  new : List Meant
  is : queued_in_turns (later ++ early) ≡ queued_in_turns early ++ new
  goes : Goes i j P 0 (commands_of new)

long_both : (later early : List BoardTurn) → length (later ++ early) ≡ length later + length early
long_both later early = length-append later early

queued_so : (m : Machine) (switches : List Switch) (pins : List (List Level)) (entries : List Entry) (b s : ℕ) (came : List Came) (later early : List BoardTurn) (from start : ℕ) (ms : List Member)
    → IsInRun m switches pins entries b came (later ++ early) → HomesFrom m switches from start ms came → from + 254 ≡ start → Moves b s ms → SetNoneFrom (stepper_at m s).oid from (later ++ early) → SendNoneIn from (from + 4) (later ++ early)
    → length early ≡ from → QueuedSo (stepper_at m s).oid (trigger_of m b) (IsFar s (movers_of b ms) (length later)) later early
queued_so m switches pins entries b s came [] early from start ms r homes at moves sets sends long =
    record { new = []; is = sym (append-nil (queued_in_turns early)); goes = record { order = tt; far_is = (λ l. (omega arith, λ is. absurd is), λ e. absurd (omega (arith, e)), λ l. absurd (omega (arith, l))) } }
queued_so m switches pins entries b s [] (t ∷ later) early from start ms r homes at moves sets sends long = absurd r.both
queued_so m switches pins entries b s (c ∷ before) (t ∷ later) early from start ms r homes at moves sets sends long =
    let i = (stepper_at m s).oid in
    let j = trigger_of m b in
    let turns = later ++ early in
    let known = known_by m switches before in
    let old = run_before m switches pins entries b c before t turns r in
    let past = queued_so m switches pins entries b s before later early from start ms old homes.1 at moves sets.1 sends.1 long in
    let both = long_both later early in
    let same = as_long m switches b before turns old.both in
    let late : from ≤ length turns = omega (arith, both, long) in
    let now = homes.0 (omega (arith, late, same)) in
    let rise = rise_of start ms (noted m c.note known).homing now.1 (noted_rises m c.note known (known_rises m switches before old.goes_on)) in
    let P : ℕ → Type 0 = IsFar s (movers_of b ms) (length later) in
    let Q : ℕ → Type 0 = IsFar s (movers_of b ms) (length later + 1) in
    let one : (far : ℕ) → P far → Goes i j Q far (commands_of (queued_in (orders t.control t.batch))) =
    λ far p. section_turn m switches pins entries b s c before t turns start (length later) far ms r now.0 now.1 rise moves (omega (arith, at, both, long, same)) p
    (λ few. sends.0 late (omega (arith, few, both, long))) (sets.0 late) in
    let new = queued_in (orders t.control t.batch) in
    let next : length later + 1 ≡ suc (length later) = omega arith in
    record {
      new = past.new ++ new;
      is = ap (λ (l : List Meant). l ++ new) past.is ∙ append_assoc (queued_in_turns early) past.new new;
      goes = subst (λ (l : List Cmd). Goes i j (IsFar s (movers_of b ms) (suc (length later))) 0 l) (sym (meant_both past.new new))
          (subst (λ (n : ℕ). Goes i j (IsFar s (movers_of b ms) n) 0 (commands_of past.new ++ commands_of new)) next (goes_both i j P Q 0 (commands_of past.new) (commands_of new) past.goes one));
    }

-- and what was taken of it
pub taken_in_order : (m : Machine) (switches : List Switch) (pins : List (List Level)) (entries : List Entry) (b s : ℕ) (came : List Came) (later early : List BoardTurn) (from start : ℕ) (ms : List Member) (own : List Meant)
    → IsInRun m switches pins entries b came (later ++ early) → HomesFrom m switches from start ms came → from + 254 ≡ start → Moves b s ms → SetNoClockFrom from (later ++ early) → SendNoneIn from (from + 4) (later ++ early)
    → length early ≡ from → (stands_after (first_state (board_at m b) pins b entries) (later ++ early)).core.taken ≡ queued_in_turns early ++ own → AreSetUpInOrder (stepper_at m s).oid (trigger_of m b) 0 (commands_of own)
taken_in_order m switches pins entries b s came later early from start ms own r homes at moves sets sends long took =
    let i = (stepper_at m s).oid in
    let j = trigger_of m b in
    let d = board_at m b in
    let turns = later ++ early in
    let h = (stands_after (first_state d pins b entries) turns).core in
    let all = queued_so m switches pins entries b s came later early from start ms r homes at moves (clock_from i from turns sets) sends long in
    let o = ordered_after d pins b entries turns r.turns_are in
    let left = drop (length h.link.taken) h.queued in
    let rest : h.taken ++ left ≡ h.queued = ap (λ (x : List Meant). x ++ left) o.first ∙ take-append-drop (length h.link.taken) h.queued in
    let both : own ++ left ≡ all.new =
    append_cancel_left (queued_in_turns early) (own ++ left) all.new
    (sym (append_assoc (queued_in_turns early) own left) ∙ ap (λ (x : List Meant). x ++ left) (sym took) ∙ rest ∙ all_queued d pins b entries turns r.turns_are ∙ all.is) in
    order_front i j 0 (commands_of own) (commands_of left)
    (subst (λ (l : List Cmd). AreSetUpInOrder i j 0 l) (meant_both own left) (subst (λ (l : List Meant). AreSetUpInOrder i j 0 (commands_of l)) (sym both) all.goes.order))
