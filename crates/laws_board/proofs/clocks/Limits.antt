-- The bytes of a control.
use Rattle.std.proofs.Common.{◌≡◌, ℕ, zero, suc, ◌≤◌, Bool, cond, List, [], ◌∷◌, map, length, refl, ap, arith}
use Rattle.laws_board.proofs.Names.{Level, Machine, IsValidMachine, Cmd, Control, Entry, Switch, plain, Stopping, Came, known_by, last_reacted}
use Rattle.msg_code.specs.declared.cmd.Cmd.TheVariants as cmd
use Rattle.msg_code.proofs.Counted.{bytes_of as counted}
use Rattle.board_world.specs.World.{closes, on_wire}
use Rattle.link_work.specs.Limits.{bytes_in, closing_in}
use Rattle.board_asking.specs.Drift.{bytes_of}
use Rattle.host_reactor.specs.Laws.{AskOnce, FitIn, is_uptime, uptimes}
use Rattle.host_reactor.proofs.Fitting.{all-fit, plain-fit}
use Rattle.host_reactor.proofs.Once.{once}
use Rattle.laws_board.specs.turns.Turns.{BoardTurn, control_at}
use Rattle.laws_board.specs.clocks.Runs.{IsInRun}

fits_at : (limit b : ℕ) (controls : List Control) (c : Control) → FitIn limit controls → control_at b controls ≡ c ∷ [] → bytes_of c.commands ≤ limit
fits_at limit b [] c f e = cc
fits_at limit zero (x ∷ controls) c f e = let same : x ≡ c = cc in let k = f.0 in omega (arith, ap (λ (y : Control). bytes_of y.commands) same)
fits_at limit (suc b) (x ∷ controls) c f e = fits_at limit b controls c f.1 e

once_at : (b : ℕ) (controls : List Control) (c : Control) → AskOnce controls → control_at b controls ≡ c ∷ [] → uptimes c.commands ≤ 1
once_at b [] c f e = cc
once_at zero (x ∷ controls) c f e = let same : x ≡ c = cc in let k = f.0 in omega (arith, ap (λ (y : Control). uptimes y.commands) same)
once_at (suc b) (x ∷ controls) c f e = once_at b controls c f.1 e

bytes_same : (cs : List Cmd) → bytes_in (map on_wire (map plain cs)) ≡ bytes_of cs
bytes_same [] = refl
bytes_same (c ∷ cs) = let i = bytes_same cs in omega (arith, counted c)

pub closes_same : (c : Cmd) → closes c ≡ is_uptime c
closes_same cmd.GetUptime = refl
closes_same c = refl

closing_same : (cs : List Cmd) → closing_in (map on_wire (map plain cs)) ≡ uptimes cs
closing_same [] = refl
closing_same (c ∷ cs) = let i = closing_same cs in let e = ap {B = ℕ} (λ (b : Bool). cond b 1 0) (closes_same c) in omega arith

pub control_bytes : (m : Machine) (switches : List Switch) (pins : List (List Level)) (entries : List Entry) (b : ℕ) (c : Came) (before : List Came) (t : BoardTurn) (turns : List BoardTurn) → IsValidMachine m
    → IsInRun m switches pins entries b (c ∷ before) (t ∷ turns) → bytes_in (map on_wire (map plain t.control.commands)) ≤ 43
control_bytes m switches pins entries b c before t turns v r =
    let fit = fits_at 43 b (last_reacted m switches c before).ordered.controls t.control (all-fit m switches c before v) r.both.1 in
    omega (arith, bytes_same t.control.commands)

pub plain_bytes : (m : Machine) (switches : List Switch) (pins : List (List Level)) (entries : List Entry) (b : ℕ) (c : Came) (before : List Came) (t : BoardTurn) (turns : List BoardTurn) → IsValidMachine m
    → IsInRun m switches pins entries b (c ∷ before) (t ∷ turns) → ((line : ℕ) → (known_by m switches (c ∷ before)).phase ≡ Stopping line → ⊥) → bytes_in (map on_wire (map plain t.control.commands)) ≤ 42
plain_bytes m switches pins entries b c before t turns v r n =
    let fit = fits_at 42 b (last_reacted m switches c before).ordered.controls t.control (plain-fit m switches c before v n) r.both.1 in
    omega (arith, bytes_same t.control.commands)

pub control_closing : (m : Machine) (switches : List Switch) (pins : List (List Level)) (entries : List Entry) (b : ℕ) (c : Came) (before : List Came) (t : BoardTurn) (turns : List BoardTurn)
    → IsInRun m switches pins entries b (c ∷ before) (t ∷ turns) → closing_in (map on_wire (map plain t.control.commands)) ≤ 1
control_closing m switches pins entries b c before t turns r =
    let fit = once_at b (last_reacted m switches c before).ordered.controls t.control (once m switches (known_by m switches before) (length before) c.states c.note) r.both.1 in
    omega (arith, closing_same t.control.commands)
