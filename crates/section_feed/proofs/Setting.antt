-- What stays the same of boards.
use Rattle.std.proofs.Common.{◌≡◌, ℕ, suc, ◌<◌, false, true, Bool, List, [], ◌∷◌, All, length, map, get_or, arith, ap, sym, ◌∙◌, refl}
use Rattle.plan_types.specs.Lines.{Clocks}
use Rattle.section_feed.specs.declared.board.BoardStream.{BoardStream}
use Rattle.section_feed.specs.declared.queue.MoveQueue.{MoveQueue}
use Rattle.section_feed.specs.Changes.{AreChanged}
use Rattle.section_feed.specs.Queues.{IsDrawn, is_taking, waiting_in}
use Rattle.section_feed.specs.Going.{IsOpen}
use Rattle.section_feed.specs.Ended.{AreEnded}
use Rattle.section_feed.specs.Sets.{BoardSet, goes_of, set_of}

abbrev pub set_with : Clocks → ℕ → ℕ → ℕ → BoardSet
set_with clocks first slots count = record { clocks = clocks; first = first; slots = slots; count = count }

pub set-same : (clocks : Clocks) (first first' slots slots' count count' : ℕ) → first' ≡ first → slots' ≡ slots → count' ≡ count → set_with clocks first' slots' count' ≡ set_with clocks first slots count
set-same clocks first first' slots slots' count count' a b c = rw (a, b, c)

-- the sets of boards that changed otherwise
pub sets-same : (R : ℕ → BoardStream → BoardStream → Type 0) → ((k : ℕ) (o n : BoardStream) → R k o n → set_of n ≡ set_of o) → (old new : List BoardStream) → AreChanged R old new → map set_of new ≡ map set_of old
sets-same R same [] [] c = refl
sets-same R same [] (n ∷ ns) c = absurd (let l = c.same in omega arith)
sets-same R same (o ∷ os) [] c = absurd (let l = c.same in omega arith)
sets-same R same (o ∷ os) (n ∷ ns) c =
    let l = c.same in
    let head : set_of n ≡ set_of o = same 0 o n (c.each 0 o (omega arith)) in
    let tail = sets-same (λ k. R (suc k)) (λ k. same (suc k)) os ns (record { same = omega arith; each = λ k d h. c.each (suc k) d (omega arith) }) in
    ap (λ x. x ∷ map set_of ns) head ∙ ap (λ xs. set_of o ∷ xs) tail

pub sets-on : (R : ℕ → BoardStream → BoardStream → Type 0) → ((k : ℕ) (o n : BoardStream) → R k o n → set_of n ≡ set_of o) → (all old new : List BoardStream) → old ≡ all → AreChanged R old new → map set_of new ≡ map set_of all
sets-on R same all old new is c = sets-same R same old new c ∙ ap (map set_of) is

-- no board knows of an end where there is none
pub ended-none : (boards : List BoardStream) (queue : MoveQueue) → boards ≡ [] → AreEnded boards queue
ended-none boards queue none = rw none (record { each = λ b d h over. absurd (omega arith) })

-- all may know it once all moves were drawn
pub ended-drawn : (boards : List BoardStream) (queue : MoveQueue) → IsDrawn queue → AreEnded boards queue
ended-drawn boards queue drawn = record { each = λ b d h over. drawn }

-- no more boards know it
pub ended-on : (R : ℕ → BoardStream → BoardStream → Type 0) → ((k : ℕ) (o n : BoardStream) → R k o n → goes_of n ≡ goes_of o) → (all old new : List BoardStream) (queue : MoveQueue) → old ≡ all → AreChanged R old new → AreEnded all queue → AreEnded new queue
ended-on R same all old new queue is c ended =
    let l = c.same in
    let e = ap (λ (bs : List BoardStream). length bs) is in
    record {
      each = λ b d h over. ended.each b d (omega arith) (
          ap (λ (bs : List BoardStream). goes_of (get_or bs b d)) (sym is) ∙ sym (same b (get_or old b d) (get_or new b d) (c.each b d (omega arith))) ∙ over);
    }

-- none knows it as long as moves may come, or wait
pub ended-open : (boards : List BoardStream) (old new : MoveQueue) → is_taking old ≡ true → AreEnded boards old → AreEnded boards new
ended-open boards old new taking ended = record { each = λ b d h over. absurd (closed (is_taking old) taking (ended.each b d h over).over) }
  where
    closed : (t : Bool) → t ≡ true → t ≡ false → ⊥
    closed true e f = cc
    closed false e f = cc

pub ended-waiting : (boards : List BoardStream) (old new : MoveQueue) → 0 < waiting_in old → AreEnded boards old → AreEnded boards new
ended-waiting boards old new waits ended = record { each = λ b d h over. absurd (let n = (ended.each b d h over).none in omega arith) }

pub open-waiting : (boards : List BoardStream) (queue : MoveQueue) → 0 < waiting_in queue → AreEnded boards queue → All IsOpen boards
open-waiting boards queue waits ended = λ b d h. record { goes = is-open (goes_of (get_or boards b d)) (λ over. (let n = (ended.each b d h over).none in omega arith)) }
  where
    is-open : (t : Bool) → (t ≡ false → ⊥) → t ≡ true
    is-open true over = refl
    is-open false over = absurd (over refl)
