-- One level of the run in threads.
use Rattle.std.proofs.Common.{◌≡◌, ℕ, zero, suc, ◌+◌, ◌<◌, false, Bool, List, [], ◌∷◌, ◌++◌, length, get_or, refl, sym, ap, subst, ◌∙◌, arith, append-nil}
use Rattle.session_work.specs.declared.ends.Lanes.{Lanes}
use Rattle.session_work.specs.declared.machines.LinkMachine.{Ghosts as Link}
use Rattle.session_work.specs.declared.machines.MotionMachine.{Ghosts as Motion}
use Rattle.session_work.specs.declared.machines.ReactorMachine.{Ghosts as Reactor}
use Rattle.session_work.specs.declared.machines.Outside.{Ghosts as Out}
use Rattle.session_work.specs.declared.head.Head.{Head}
use Rattle.session_work.specs.declared.link.LinkDone.{LinkDone}
use Rattle.session_lanes.specs.declared.near.Reached.{Reached}
use Rattle.session_lanes.specs.declared.near.Home.{Home}
use Rattle.session_lanes.specs.Levels.{AreLinks, IsHome, IsReached}
use Rattle.session_work.specs.Links.{IsLinkAt}

module _ {L : Type 0} (l : Link L) (lanes : Lanes) where
  -- the first of them at its lanes, with the machine that it began with
  pub ready_at : (j : ℕ) (d : LinkDone L) (ds : List (LinkDone L)) (start : L) → AreLinks l j lanes (d ∷ ds) → start ≡ d.machine → IsLinkAt l.turns 0 lanes j start d
  ready_at j d ds start all e = let here : j + 0 ≡ j = omega arith in subst (λ (y : ℕ × L). IsLinkAt l.turns 0 lanes y.0 y.1 d) (λ i. (here i, sym e i)) (all 0 d (omega arith))

  pub later_links : (j : ℕ) (d : LinkDone L) (ds : List (LinkDone L)) → AreLinks l j lanes (d ∷ ds) → AreLinks l (j + 1) lanes ds
  later_links j d ds all i x low = let here : j + suc i ≡ (j + 1) + i = omega arith in
      subst (λ n. IsLinkAt l.turns 0 lanes n (get_or ds i x).machine (get_or ds i x)) here (all (suc i) x (omega (arith, low)))

module _ {M L A O : Type 0} (m : Motion M) (l : Link L) (a : Reactor A) (o : Out O) where
  pub reached_as : (n j : ℕ) (lanes : Lanes) (s s' : M) (ls ls' : List L) (h h' : Head A O) (r : Reached M L A O)
      → s ≡ s' → ls ≡ ls' → h ≡ h' → IsReached m l a o n j lanes s ls h r → IsReached m l a o n j lanes s' ls' h' r
  reached_as n j lanes s s' ls ls' h h' r es el eh x = subst (λ (y : M × List L × Head A O). IsReached m l a o n j lanes y.0 y.1 y.2 r) (λ i. (es i, el i, eh i)) x

module _ {M L A O : Type 0} where
  pub home_as : (n j : ℕ) (lanes : Lanes) (s s' : M) (ls ls' : List L) (h h' : Head A O) (x : Home M L A O)
      → s ≡ s' → ls ≡ ls' → h ≡ h' → IsHome n j lanes s ls h x → IsHome n j lanes s' ls' h' x
  home_as n j lanes s s' ls ls' h h' x es el eh was = subst (λ (y : M × List L × Head A O). IsHome n j lanes y.0 y.1 y.2 x) (λ i. (es i, el i, eh i)) was
