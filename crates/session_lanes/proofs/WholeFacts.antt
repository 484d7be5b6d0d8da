-- From the parts of a run to the whole.
use Rattle.std.proofs.Common.{◌≡◌, ℕ, zero, suc, ◌+◌, ◌<◌, List, [], ◌∷◌, ◌++◌, length, get_or, map, refl, sym, ap, subst, ◌∙◌, arith}
use Rattle.std.proofs.lemmas.List.{get_or_default, length-map}
use Rattle.session_work.specs.declared.ends.Lanes.{Lanes}
use Rattle.session_work.specs.declared.hands.Hand.{Hand}
use Rattle.session_work.specs.declared.machines.LinkMachine.{Ghosts as Link}
use Rattle.session_work.specs.declared.machines.MotionMachine.{Ghosts as Motion}
use Rattle.session_work.specs.declared.machines.ReactorMachine.{Ghosts as Reactor}
use Rattle.session_work.specs.declared.machines.Outside.{Ghosts as Out}
use Rattle.session_work.specs.declared.head.Head.{Head}
use Rattle.session_work.specs.declared.link.LinkDone.{LinkDone}
use Rattle.session_lanes.specs.declared.near.Near.{Near}
use Rattle.session_work.specs.Alone.{AreHands}
use Rattle.session_lanes.specs.Levels.{AreLinks}
use Rattle.session_work.specs.Links.{IsLinkAt}
use Rattle.session_lanes.specs.Runs.{IsNear, IsRun, Met, AreLogs}

get_or_map : {A B : Type 0} (f : A → B) (xs : List A) (j : ℕ) (d : A) → get_or (map f xs) j (f d) ≡ f (get_or xs j d)
get_or_map f [] j d = refl
get_or_map f (x ∷ xs) zero d = refl
get_or_map f (x ∷ xs) (suc j) d = get_or_map f xs j d

-- links before turn 0, with the machines that they begin with
pub hands_new : {L : Type 0} (l : Link L) (lanes : Lanes) (ds : List (LinkDone L)) (hs : List (Hand L))
    → AreLinks l 0 lanes ds → map (λ h. h.done) hs ≡ ds → map (λ h. h.start.value) hs ≡ map (λ d. d.machine) ds → AreHands l 0 lanes hs
hands_new {L} l lanes ds hs all done starts j h low =
    let many : length (map (λ (x : Hand L). x.done) hs) ≡ length hs = length-map hs (λ (x : Hand L). x.done) in let same = ap length done in
    let inside : j < length ds = omega arith in
    let link : get_or ds j h.done ≡ (get_or hs j h).done = ap (λ xs. get_or xs j h.done) (sym done) ∙ get_or_map (λ (x : Hand L). x.done) hs j h in
    let long : length (map (λ (d : LinkDone L). d.machine) ds) ≡ length ds = length-map ds (λ (d : LinkDone L). d.machine) in
    let start : (get_or hs j h).start.value ≡ (get_or ds j h.done).machine =
    sym (get_or_map (λ (x : Hand L). x.start.value) hs j h) ∙ (ap (λ xs. get_or xs j h.start.value) starts
    ∙ (get_or_default (map (λ (d : LinkDone L). d.machine) ds) j h.start.value h.done.machine (omega arith) ∙ get_or_map (λ (d : LinkDone L). d.machine) ds j h.done)) in
    let e : 0 + j ≡ j = omega arith in
    let there = subst (λ n. IsLinkAt l.turns 0 lanes n (get_or ds j h.done).machine (get_or ds j h.done)) e (all j h.done inside) in
    subst (λ (y : L × LinkDone L). IsLinkAt l.turns 0 lanes j y.0 y.1) (λ i. (sym start i, link i)) there

module _ {M L A O : Type 0} (m : Motion M) (l : Link L) (a : Reactor A) (o : Out O) where
  pub run_of : (n : ℕ) (lanes : Lanes) (s s' : M) (ls ls' : List L) (h h' : Head A O) (x : Near A O)
      → s ≡ s' → ls ≡ ls' → h ≡ h' → n ≡ length ls' → IsNear m l a o n 0 lanes s ls h x → IsRun m l a o s' ls' h' x.ran
  run_of n lanes s s' ls ls' h h' x es el eh en near = (
    near.0,
    near.1,
    near.2,
    near.3,
    subst (λ (y : ℕ × M × Head A O). Met m l a o near.0 near.1 near.2 near.3 y.0 y.1 y.2 x.ran) (λ i. (en i, es i, eh i)) near.4,
    subst (λ y. AreLogs m l a o near.0 near.1 near.2 near.3 0 y x.ran.links.items) el near.5,
  )
