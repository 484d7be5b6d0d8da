-- One lane more.
use Rattle.std.proofs.Common.{◌≡◌, ℕ, zero, suc, ◌+◌, ◌<◌, List, [], ◌∷◌, ◌++◌, length, get_or, subst, sym, arith}
use Rattle.std.proofs.lemmas.List.{length-append}
use Rattle.lane_queue.specs.declared.ends.Lane.{Lane}
use Rattle.session_work.specs.declared.ends.Lanes.{Lanes}
use Rattle.lane_queue.specs.declared.passes.SendPass.{SendPass}
use Rattle.lane_queue.specs.declared.passes.TakePass.{TakePass}
use Rattle.session_work.specs.declared.machines.LinkMachine.{Ghosts as Link}
use Rattle.session_work.specs.declared.link.LinkDone.{LinkDone}
use Rattle.session_work.specs.declared.table.LinkTurn.{LinkTurn}
use Rattle.session_lanes.specs.declared.lanes.AllLanes.{AllLanes}
use Rattle.session_lanes.specs.Lanes.{AreLanes, IsNewRow, AreNewSends, AreNewTakes}
use Rattle.session_lanes.specs.Levels.{AreLinks}
use Rattle.session_work.specs.Links.{IsLinkAt}
use Rattle.session_work.specs.Rows.{Each, HasPut, HasTaken, gather}
use Rattle.session_work.proofs.Each.{each_push}

pub row_next : {T : Type 0} (n : ℕ) (lanes : List (Lane T)) (sends : List (SendPass T)) (takes : List (TakePass T)) (l : Lane T) (s : SendPass T) (t : TakePass T)
    → IsNewRow n lanes sends takes → HasPut [] l s → HasTaken [] l t → IsNewRow (n + 1) (lanes ++ l ∷ []) (sends ++ s ∷ []) (takes ++ t ∷ [])
row_next n lanes sends takes l s t r hs ht =
    let a = length-append lanes (l ∷ []) in let b = length-append sends (s ∷ []) in let c = length-append takes (t ∷ []) in
    let r0 = r.0 in let r1 = r.1 in let r2 = r.2 in (
      omega arith,
      omega arith,
      omega arith,
      each_push (HasPut []) lanes sends l s (omega arith) r.3 hs,
      each_push (HasTaken []) lanes takes l t (omega arith) r.4 ht,
    )

-- a link more before those from the next board on
pub link_before : {L : Type 0} (l : Link L) (j : ℕ) (lanes : Lanes) (d : LinkDone L) (ds : List (LinkDone L))
    → IsLinkAt l.turns 0 lanes j d.machine d → AreLinks l (j + 1) lanes ds → AreLinks l j lanes (d ∷ ds)
link_before l j lanes d ds here later zero x low = let e : j ≡ j + 0 = omega arith in subst (λ n. IsLinkAt l.turns 0 lanes n d.machine d) e here
link_before l j lanes d ds here later (suc i) x low = let e : (j + 1) + i ≡ j + suc i = omega arith in
    subst (λ n. IsLinkAt l.turns 0 lanes n (get_or ds i x).machine (get_or ds i x)) e (later i x (omega (arith, low)))

-- without the last
pub each_below : {A B : Type 0} (P : A → B → Type 0) (xs : List A) (old new : List B) (at : ℕ) → ((k : ℕ) (d : B) → k < at → get_or new k d ≡ get_or old k d) → length new ≡ at → length old ≡ at + 1 → Each P xs old → Each P xs new
each_below P xs old new at same size was all j x y low = subst (P (get_or xs j x)) (sym (same j y (omega (arith, low, size)))) (all j x y (omega (arith, low, size, was)))

-- the last
pub each_at : {A B : Type 0} (P : A → B → Type 0) (xs : List A) (old : List B) (at : ℕ) (y : B) (x : A) → length old ≡ at + 1 → y ≡ get_or old at y → Each P xs old → P (get_or xs at x) y
each_at P xs old at y x was is all = subst (P (get_or xs at x)) (sym is) (all at x y (omega (arith, was)))

-- what the workers have of lanes is known by the lanes
abbrev with_lanes : AllLanes → Lanes → Lanes
with_lanes own x = record { words = record { ref_ptr = x.words.ref_ptr; now = own.words }; notes = record { ref_ptr = x.notes.ref_ptr; now = own.notes }; asks = record { ref_ptr = x.asks.ref_ptr; now = own.asks }; pieces = record { ref_ptr = x.pieces.ref_ptr; now = own.pieces }; controls = record { ref_ptr = x.controls.ref_ptr; now = own.controls.items }; batches = record { ref_ptr = x.batches.ref_ptr; now = own.batches.items }; states = record { ref_ptr = x.states.ref_ptr; now = own.states.items } }

pub same_lanes : (P : Lanes → Type 0) (own : AllLanes) (x : Lanes) → AreLanes own x → P (with_lanes own x) → P x
same_lanes P own x e h = subst P (λ i. record { words = record { ref_ptr = x.words.ref_ptr; now = sym e.0 i }; notes = record { ref_ptr = x.notes.ref_ptr; now = sym e.1 i }; asks = record { ref_ptr = x.asks.ref_ptr; now = sym e.2 i }; pieces = record { ref_ptr = x.pieces.ref_ptr; now = sym e.3 i }; controls = record { ref_ptr = x.controls.ref_ptr; now = sym e.4 i }; batches = record { ref_ptr = x.batches.ref_ptr; now = sym e.5 i }; states = record { ref_ptr = x.states.ref_ptr; now = sym e.6 i } }) h

pub links_at : {L : Type 0} (l : Link L) (x y : Lanes) (ds : List (LinkDone L)) → x.controls.now ≡ y.controls.now → x.batches.now ≡ y.batches.now → x.states.now ≡ y.states.now → AreLinks l 0 x ds → AreLinks l 0 y ds
links_at l x y ds ec eb es all i d low = let h = all i d low in let done = get_or ds i d in (
  h.0,
  h.1,
  (
    (λ c. subst (λ ls. HasTaken (gather (λ (t : LinkTurn). t.control ∷ []) h.0 ++ []) (get_or ls (0 + i) c) done.control_pass) ec (h.2.0 c)),
    (λ b. subst (λ ls. HasTaken (gather (λ (t : LinkTurn). t.batch ∷ []) h.0) (get_or ls (0 + i) b) done.batch_pass) eb (h.2.1 b)),
    (λ s. subst (λ ls. HasPut (gather (λ (t : LinkTurn). t.state ∷ []) h.0) (get_or ls (0 + i) s) done.state_pass) es (h.2.2 s)),
    h.2.3,
  ),
)
