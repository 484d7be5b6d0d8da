-- What the reactor orders of one board, over the turns of a run.
use Rattle.std.proofs.Common.{◌≡◌, ℕ, true, false, List, ◌∷◌, length, Option, refl, sym, ◌∙◌, subst}
use Rattle.std.specs.List.{All}
use Rattle.laws_board.proofs.Names.{Level, Machine, board_at, Control, Entry, Switch, Asking, ready, drifts, waits_in, configuration, Homing, homing_turn, Known, Phase, Connecting, noted, Reacted, homing_commands, stops, Came, known_by, last_reacted}
use Rattle.host_reactor.specs.declared.ordered.Phase.TheVariants.{Running}
use Rattle.laws_board.specs.turns.Turns.{BoardTurn}
use Rattle.laws_board.specs.clocks.Ordered.{MayOrder}
use Rattle.laws_board.specs.clocks.Runs.{IsInRun}
use Rattle.laws_board.proofs.clocks.Controls.{EachMay, all_may, may_ask, may_home, may_run}
use Rattle.laws_board.proofs.clocks.Lines.{noted_phase, turn_of}
use Rattle.laws_board.proofs.clocks.Turning.{Asks, BoardTurned, Ends, Runs}
use Rattle.laws_board.proofs.causes.Ended.{running_not}

abbrev MayAll : Option Homing → ℕ → Control → Type 0
MayAll h k c = EachMay h k c.commands

turn_may : (m : Machine) (b : ℕ) (c : Came) (r : Known) (k : ℕ) (a : Asking) (x : Reacted) (t : BoardTurn) → BoardTurned m r b k c.states a x t.control → MayAll r.homing k t.control
turn_may m b c r k a x t (Asks p g) =
    let ready_a = ready (configuration m b) a in
    subst (λ (y : Control). MayAll r.homing k y) (sym g.control_is) (may_ask r.homing k k (configuration m b) ready_a ready_a.stage)
turn_may m b c r k a x t (Ends p g) = subst (λ (y : Control). MayAll r.homing k y) (sym g.control_is) tt
turn_may m b c r k a x t (Runs p g) =
    let waits = waits_in (drifts (board_at m b).drift) k a in
    let commands = homing_commands m (homing_turn r.clocks k c.states r.homing) g.own b in
    subst (λ (y : Control). MayAll r.homing k y) (sym g.control_is)
    (may_run r.homing k commands waits (stops g.stop) (may_home m r.clocks k c.states r.homing g.own b))

pub may_order : (m : Machine) (switches : List Switch) (pins : List (List Level)) (entries : List Entry) (b : ℕ) (c : Came) (before : List Came) (t : BoardTurn) (turns : List BoardTurn)
    → IsInRun m switches pins entries b (c ∷ before) (t ∷ turns) → All (MayOrder (noted m c.note (known_by m switches before)).homing (length before)) t.control.commands
may_order m switches pins entries b c before t turns r =
    let s = turn_of m switches pins entries b c before t turns r in
    let n = noted m c.note (known_by m switches before) in
    all_may n.homing (length before) t.control.commands (turn_may m b c n (length before) s.a (last_reacted m switches c before) t s.turned)

-- what else a control tells
abbrev Tells : Phase → ℕ → Control → Type 0
Tells p k c = (c.turn ≡ k) × (c.end ≡ false) × (p ≡ Connecting → c.connected ≡ false) × ((p ≡ Connecting → ⊥) → c.connected ≡ true)

turn_tells : (m : Machine) (b : ℕ) (c : Came) (r : Known) (k : ℕ) (a : Asking) (x : Reacted) (t : BoardTurn) → BoardTurned m r b k c.states a x t.control → Tells r.phase k t.control
turn_tells m b c r k a x t (Asks p g) = subst (λ (y : Control). Tells r.phase k y) (sym g.control_is) (refl, refl, λ e. refl, λ n. absurd (n p))
turn_tells m b c r k a x t (Ends p g) = subst (λ (y : Control). Tells r.phase k y) (sym g.control_is) (refl, refl, λ e. refl, λ n. absurd (n p))
turn_tells m b c r k a x t (Runs p g) = subst (λ (y : Control). Tells r.phase k y) (sym g.control_is) (refl, refl, λ e. absurd (running_not (sym p ∙ e)), λ n. refl)

pub tells : (m : Machine) (switches : List Switch) (pins : List (List Level)) (entries : List Entry) (b : ℕ) (c : Came) (before : List Came) (t : BoardTurn) (turns : List BoardTurn)
    → IsInRun m switches pins entries b (c ∷ before) (t ∷ turns) → Tells (known_by m switches before).phase (length before) t.control
tells m switches pins entries b c before t turns r =
    let s = turn_of m switches pins entries b c before t turns r in
    let n = noted m c.note (known_by m switches before) in
    subst (λ (p : Phase). Tells p (length before) t.control) (noted_phase m c.note (known_by m switches before))
    (turn_tells m b c n (length before) s.a (last_reacted m switches c before) t s.turned)
