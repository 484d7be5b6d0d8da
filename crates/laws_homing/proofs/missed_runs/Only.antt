-- In a turn in which a homing section is known a board is sent no command that begins readings but the section's own.
use Rattle.std.proofs.Common.{◌≡◌, ℕ, ◌<◌, ◌⊎◌, inl, inr, Bool, true, false, cond, List, [], ◌∷◌, ◌++◌, length, map, Option, Some, None, refl, ap, sym, ◌∙◌, subst, arith, append_assoc, length-append, rules}
use Rattle.std.specs.Prelude.{◌==◌}
use Rattle.laws_board.proofs.Names.{append_cancel_left, Level, Machine, Clocks, axis_at, board_at, clocks_at, Cmd, State, Control, Entry, Switch, Meant, plain, units_orders, Asking, clock_question, drifts, waits_in, queued_in, orders, Ctl, End, Order, Homing, answer_in, by_answer, command_to, commands_to, hears_all, homing_turn, order_command, Known, Connecting, noted, Reacted, homing_commands, stop_command, stops, Came, known_by, last_reacted, cons_same}
use Rattle.trigger_group.specs.declared.order.End.TheVariants as end
use Rattle.trigger_group.specs.declared.order.Order.TheVariants as order
use Rattle.laws_board.specs.turns.Turns.{BoardTurn}
use Rattle.laws_board.specs.clocks.Runs.{IsInRun}
use Rattle.laws_board.proofs.clocks.Answers.{Each, each_both}
use Rattle.laws_board.proofs.clocks.Lines.{noted_phase, turn_of}
use Rattle.laws_board.proofs.clocks.Turning.{Asks, BoardTurned, Ends, Runs}
use Rattle.laws_board.proofs.sections.Lists.{cuts}
use Rattle.laws_homing.specs.home_runs.Sections.{queued_in_turns}
use Rattle.laws_homing.specs.switch_runs.Taken.{AreBlind, IsBlind}
use Rattle.laws_homing.proofs.switch_runs.Ordering.{lines_at}
use Rattle.laws_homing.proofs.fired_runs.Rested.{queue_later}
use Rattle.laws_homing.proofs.fired_runs.Sight.{question_blind, units_blind}

-- the command with which a section begins readings
abbrev pub HomeOf : Machine → ℕ → Clocks → ℕ → ℕ → Cmd
HomeOf m b own start axis = order_command m own b start (axis_at m axis) order.Home

-- a command begins no readings, or is this one
abbrev Is : Cmd → Cmd → Type 0
Is home c = IsBlind c ⊎ (c ≡ home)

each_so : (home : Cmd) (cs : List Cmd) → Each IsBlind cs → Each (Is home) cs
each_so home [] k = tt
each_so home (c ∷ cs) k = (inl k.0, each_so home cs k.1)

order_is : (m : Machine) (b : ℕ) (own : Clocks) (start axis : ℕ) (o : Order) → Is (HomeOf m b own start axis) (order_command m own b start (axis_at m axis) o)
order_is m b own start axis order.Home = inr refl
order_is m b own start axis c = inl tt

ctls_are : (m : Machine) (b : ℕ) (own : Clocks) (start axis : ℕ) (ctls : List Ctl) → Each (Is (HomeOf m b own start axis)) (commands_to m own b start (axis_at m axis) ctls)
ctls_are m b own start axis [] = tt
ctls_are m b own start axis (c ∷ ctls) =
    each_both (Is (HomeOf m b own start axis)) (command_to m own b start (axis_at m axis) c) (commands_to m own b start (axis_at m axis) ctls) (one (c.board == b)) (ctls_are m b own start axis ctls)
  where
    one : (t : Bool) → Each (Is (HomeOf m b own start axis)) (cond t (order_command m own b start (axis_at m axis) c.what ∷ []) [])
    one true = (order_is m b own start axis c.what, tt)
    one false = tt

answer_is : (m : Machine) (b k : ℕ) (own : Clocks) (h : Homing) (o : Option End) → Each (Is (HomeOf m b own h.start h.axis)) (homing_commands m (by_answer k h o) own b)
answer_is m b k own h o = search (rules, ctls_are, by_answer)

control_is : (m : Machine) (b k : ℕ) (r : Known) (states : List State) (a : Asking) (x : Reacted) (c : Control) (h : Homing) → (r.phase ≡ Connecting → ⊥) → r.homing ≡ Some h → BoardTurned m r b k states a x c
    → Each (Is (HomeOf m b (clocks_at r.clocks b) h.start h.axis)) c.commands
control_is m b k r states a x c h open_it is (Asks p g) = absurd (open_it p)
control_is m b k r states a x c h open_it is (Ends p g) = absurd (open_it p)
control_is m b k r states a x c h open_it is (Runs p g) =
    let home = HomeOf m b (clocks_at r.clocks b) h.start h.axis in
    let waits = waits_in (drifts (board_at m b).drift) k a in
    let commands = homing_commands m (homing_turn r.clocks k states r.homing) g.own b in
    let rest = clock_question commands waits ++ stop_command (stops g.stop) in
    let heard = hears_all r.clocks states h in
    let At : Option Homing → Type 0 = λ o. Each (Is (HomeOf m b g.own h.start h.axis)) (homing_commands m (homing_turn r.clocks k states o) g.own b) in
    let first : Each (Is (HomeOf m b g.own h.start h.axis)) commands = subst At (sym is) (answer_is m b k g.own heard (answer_in k heard.start heard.group)) in
    let own : Each (Is home) commands = subst (λ (l : Clocks). Each (Is (HomeOf m b l h.start h.axis)) commands) (lines_at b r.clocks g.own g.own_is) first in
    subst (λ (y : Control). Each (Is home) y.commands) (sym g.control_is) (each_both (Is home) commands rest own (each_so home rest (question_blind commands waits (stops g.stop))))

-- what comes to it in the turn
abbrev AllAre : Cmd → List Meant → Type 0
AllAre home [] = Unit {0}
AllAre home (m ∷ ms) = Is home m.command × AllAre home ms

are_both : (home : Cmd) (xs ys : List Meant) → AllAre home xs → AllAre home ys → AllAre home (xs ++ ys)
are_both home [] ys a k = k
are_both home (x ∷ xs) ys a k = (a.0, are_both home xs ys a.1 k)

plain_are : (home : Cmd) (cs : List Cmd) → Each (Is home) cs → AllAre home (map plain cs)
plain_are home [] k = tt
plain_are home (c ∷ cs) k = (k.0, plain_are home cs k.1)

blind_are : (home : Cmd) (ms : List Meant) → AreBlind ms → AllAre home ms
blind_are home [] k = tt
blind_are home (m ∷ ms) k = (inl k.0, blind_are home ms k.1)

turn_are : (m : Machine) (switches : List Switch) (pins : List (List Level)) (entries : List Entry) (b : ℕ) (c : Came) (before : List Came) (t : BoardTurn) (turns : List BoardTurn) (h : Homing) → IsInRun m switches pins entries b (c ∷ before) (t ∷ turns)
    → ((known_by m switches before).phase ≡ Connecting → ⊥) → (noted m c.note (known_by m switches before)).homing ≡ Some h
    → AllAre (HomeOf m b (clocks_at (noted m c.note (known_by m switches before)).clocks b) h.start h.axis) (queued_in (orders t.control t.batch))
turn_are m switches pins entries b c before t turns h r open_it is =
    let x = turn_of m switches pins entries b c before t turns r in
    let known = known_by m switches before in
    let n = noted m c.note known in
    let home = HomeOf m b (clocks_at n.clocks b) h.start h.axis in
    are_both home (map plain t.control.commands) (units_orders t.batch.units)
    (plain_are home t.control.commands (control_is m b (length before) n c.states x.a (last_reacted m switches c before) t.control h (λ p. open_it (sym (noted_phase m c.note known) ∙ p)) is x.turned)) (blind_are home (units_orders t.batch.units) (units_blind t.batch.units))

one_of : (home : Cmd) (ms front : List Meant) (x : Meant) (rest : List Meant) → AllAre home ms → ms ≡ front ++ x ∷ rest → (IsBlind x.command → ⊥) → x.command ≡ home
one_of home ms front x rest all e reads = by front (subst (AllAre home) e all)
  where
    by : (xs : List Meant) → AllAre home (xs ++ x ∷ rest) → x.command ≡ home
    by [] k = elim k.0 [ inl blind ↦ absurd (reads blind) | inr same ↦ same ]
    by (y ∷ xs) k = by xs k.1

-- so the command that begins readings, of those that were queued in a turn and behind it
pub home_is : (m : Machine) (switches : List Switch) (pins : List (List Level)) (entries : List Entry) (b : ℕ) (c : Came) (before : List Came) (up : List BoardTurn) (t : BoardTurn) (turns : List BoardTurn) (h : Homing)
    → IsInRun m switches pins entries b (c ∷ before) (t ∷ turns) → ((known_by m switches before).phase ≡ Connecting → ⊥) → (noted m c.note (known_by m switches before)).homing ≡ Some h
    → (front : List Meant) (home : Meant) (rest : List Meant) → queued_in_turns (up ++ t ∷ turns) ≡ queued_in_turns turns ++ (front ++ home ∷ rest) → length (queued_in_turns turns ++ front) < length (queued_in_turns (t ∷ turns)) → (IsBlind home.command → ⊥)
    → home.command ≡ HomeOf m b (clocks_at (noted m c.note (known_by m switches before)).clocks b) h.start h.axis
home_is m switches pins entries b c before up t turns h r open_it is front home rest queue ordered reads =
    let new = queued_in (orders t.control t.batch) in
    let more = queue_later up (t ∷ turns) in
    let both : new ++ more.0 ≡ front ++ home ∷ rest =
    append_cancel_left (queued_in_turns turns) (new ++ more.0) (front ++ home ∷ rest) (sym (append_assoc (queued_in_turns turns) new more.0) ∙ sym more.1 ∙ queue) in
    let long = length-append (queued_in_turns turns) front in
    let longer = length-append (queued_in_turns turns) new in
    elim (cuts new more.0 front (home ∷ rest) both) [
      | inl p ↦ absurd (let size = ap length p.1 ∙ length-append new p.0 in omega (arith, size, long, longer, ordered))
      | inr p ↦
          let heads = cons_same home p.0 rest (p.1 ++ more.0) p.3 in
          one_of (HomeOf m b (clocks_at (noted m c.note (known_by m switches before)).clocks b) h.start h.axis) new front home p.1 (turn_are m switches pins entries b c before t turns h r open_it is)
          (p.2 ∙ ap (λ (z : Meant). front ++ z ∷ p.1) (sym heads.0)) reads
    ]
