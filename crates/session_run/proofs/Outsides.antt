-- What a run does to what lies outside: a relation that holds over no lines, that goes on from lines to further lines,
-- and that each write and each read keeps, holds from the start of a run to its end over all its lines.
use Rattle.std.proofs.Common.{◌≡◌, ℕ, ◌+◌, List, [], ◌∷◌, ◌++◌, Bool, Option, Some, None, Result, sym, ap, subst, ⊎_elim, append-nil}
use Rattle.plan_types.specs.declared.cause.Cause.{Cause}
use Rattle.session_work.specs.declared.machines.ReactorMachine.{Ghosts as Reactor}
use Rattle.session_work.specs.declared.machines.Outside.{Ghosts as Out}
use Rattle.msg_code.specs.declared.talk.Piece.{Piece}
use Rattle.report_text.specs.declared.line.ReportLine.{ReportLine}
use Rattle.session_work.specs.declared.head.Head.{Head}
use Rattle.session_work.specs.declared.table.ReactorTurn.{ReactorTurn}
use Rattle.session_work.specs.Heads.{Served, ServeStep, ReactorStep}
use Rattle.session_work.specs.Turns.{Goes}
use Rattle.session_run.specs.Desks.{reported_lines}

module _ {A O : Type 0} (a : Reactor A) (o : Out O) (R : O → List ReportLine → O → Type 0) (same : (x : O) → R x [] x) (then : (x y z : O) (s t : List ReportLine) → R x s y → R y t z → R x (s ++ t) z)
    (writes : (x : O) (lines : List ReportLine) (y : O) (out : Bool) → o.writes x lines y out → R x lines y) (serves : (x : O) (n : ℕ) (r : Result Piece Cause) (y : O) → o.serves x n r y → R x [] y) where
  as_same : (x y : O) → y ≡ x → R x [] y
  as_same x y e = subst (R x []) (sym e) (same x)

  served : (turn k : ℕ) (x : Head A O) (ps : List Piece) (y : Head A O) → Goes (λ _. ServeStep a.stops o.serves turn) k x ps y → R x.outside [] y.outside
  served turn k x [] y g = as_same x.outside y.outside (ap (λ (h : Head A O). h.outside) (sym g))
  served turn k x (p ∷ ps) y g =
      then x.outside g.0.outside y.outside [] [] (⊎_elim (λ s. serves x.outside p.number _ g.0.outside s.0) (λ s. serves x.outside p.number _ g.0.outside s.1) g.1) (served turn (k + 1) g.0 ps y g.2)

  served_or_not : (turn : ℕ) (x : Head A O) (e : Option Cause) (ps : List Piece) (y : Head A O) → Served a o turn x e ps y → R x.outside [] y.outside
  served_or_not turn x None ps y g = served turn 0 x ps y g
  served_or_not turn x (Some c) ps y g = as_same x.outside y.outside (ap (λ (h : Head A O). h.outside) (sym g.1))

  one : (n k : ℕ) (x : Head A O) (t : ReactorTurn) (y : Head A O) → ReactorStep a o n k x t y → R x.outside t.lines y.outside
  one n k x t y s =
      subst (λ l. R x.outside l y.outside) (append-nil t.lines)
      (then x.outside s.0.outside y.outside t.lines [] (⊎_elim (λ z. ⊎_elim (λ v. writes x.outside t.lines s.0.outside _ v.0) (λ v. writes x.outside t.lines s.0.outside _ v.0) z.1.2.1) (λ z. subst (λ l. R x.outside l s.0.outside) (sym z.2) (as_same x.outside s.0.outside z.4)) s.1.1)
      (served_or_not k s.0 t.end t.pieces y s.2))

  pub outside_goes : (n k : ℕ) (x : Head A O) (ts : List ReactorTurn) (y : Head A O) → Goes (ReactorStep a o n) k x ts y → R x.outside (reported_lines ts) y.outside
  outside_goes n k x [] y g = as_same x.outside y.outside (ap (λ (h : Head A O). h.outside) (sym g))
  outside_goes n k x (t ∷ ts) y g = then x.outside g.0.outside y.outside t.lines (reported_lines ts) (one n k x t g.0 g.1) (outside_goes n (k + 1) g.0 ts y g.2)
