-- The links of a run on one thread, the last one first.
use Rattle.std.proofs.Common.{◌≡◌, ℕ, ◌+◌, ◌<◌, List, [], ◌∷◌, ◌++◌, length, get_or, map, refl, sym, ap, subst, ◌∙◌, arith}
use Rattle.std.proofs.lemmas.List.{get_or_append_left, get_or_default, get_or_push, length-append}
use Rattle.session_work.specs.declared.ends.Lanes.{Lanes}
use Rattle.session_work.specs.declared.hands.Hand.{Hand}
use Rattle.session_work.specs.declared.machines.LinkMachine.{Ghosts as Link}
use Rattle.session_work.specs.Alone.{IsHandAt, AreHands}

pub map_push : {A B : Type 0} (f : A → B) (xs : List A) (x : A) (ys : List B) → map f (xs ++ x ∷ []) ++ ys ≡ map f xs ++ f x ∷ ys
map_push f [] x ys = refl
map_push f (z ∷ xs) x ys = ap (λ bs. f z ∷ bs) (map_push f xs x ys)

module _ {L : Type 0} (l : Link L) (k : ℕ) (lanes : Lanes) where
  pub hands_front : (hs : List (Hand L)) (h : Hand L) → AreHands l k lanes (hs ++ h ∷ []) → AreHands l k lanes hs
  hands_front hs h all j d low = let long = length-append hs (h ∷ []) in
      subst (IsHandAt l k lanes j) (get_or_append_left hs (h ∷ []) d j low) (all j d (omega arith))

  pub hands_last : (hs : List (Hand L)) (h : Hand L) (j : ℕ) → j ≡ length hs → AreHands l k lanes (hs ++ h ∷ []) → IsHandAt l k lanes j h
  hands_last hs h j e all = let long = length-append hs (h ∷ []) in
      subst (IsHandAt l k lanes j) (get_or_push hs h h j (sym e)) (all j h (omega arith))
