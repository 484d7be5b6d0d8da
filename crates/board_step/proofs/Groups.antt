-- Lemmas on the groups that commands stand for.
use Rattle.std.proofs.Common.{◌≡◌, ℕ, Bool, Option, ◌+◌, ◌-◌, ◌<◌, List, [], ◌∷◌, ◌++◌, length, suc, Some, None, refl, ap, sym, ◌∙◌, arith, length-append}
use Rattle.circular_buffer.specs.Buffer.{Buffer, buffer, keep_last}
use Rattle.board_step.specs.declared.Queued.{Queued}
use Rattle.board_step.specs.declared.Current.{Current}
use Rattle.plan_types.specs.declared.plan.Triple.{Triple}
use Rattle.plan_types.specs.Board.{Group, end_of, last_of, nearest}
use Rattle.board_step.specs.Steps.{Pending, ticks_at, first_tick, with_ticks}
use Rattle.board_step.specs.Kept.{group_of, groups_behind, groups_of, current_ticks}

pub length_behind : (tick : ℕ) (qs : List Queued) → length (groups_behind tick qs) ≡ length qs
length_behind tick [] = refl
length_behind tick (q ∷ qs) = ap (λ n. suc n) (length_behind (last_of tick (group_of (tick + q.interval) q).ticks) qs)

pub length_groups : (c : Current) (qs : List Queued) → length (groups_of (Some c) qs) ≡ length qs + 1
length_groups c qs = omega (arith, length_behind (last_of 0 (current_ticks c)) qs)

pub behind_push : (tick : ℕ) (qs : List Queued) (q : Queued)
    → groups_behind tick (qs ++ q ∷ []) ≡ groups_behind tick qs ++ group_of (end_of tick (groups_behind tick qs) + q.interval) q ∷ []
behind_push tick [] q = refl
behind_push tick (p ∷ qs) q =
    let first = group_of (tick + p.interval) p in
    ap (λ gs. first ∷ gs) (behind_push (last_of tick first.ticks) qs q)

pub groups_push : (last : ℕ) (c : Current) (qs : List Queued) (q : Queued)
    → groups_of (Some c) (qs ++ q ∷ []) ≡ groups_of (Some c) qs ++ group_of (end_of last (groups_of (Some c) qs) + q.interval) q ∷ []
groups_push last c qs q =
    let first : Group = record { up = c.up; ticks = current_ticks c } in
    ap (λ gs. first ∷ gs) (behind_push (last_of 0 (current_ticks c)) qs q)

pub keeps_all : {X : Type 0} → (n : ℕ) (xs : List X) (x : X) → length xs < n → keep_last n (xs ++ x ∷ []) ≡ xs ++ x ∷ []
keeps_all n xs x h = let none : length (xs ++ x ∷ []) - n ≡ 0 = omega (arith, length-append xs (x ∷ [])) in rw none refl

abbrev pub pending : Bool → Bool → ℕ → List Group → ℕ → Pending
pending halted up last groups slots = record { halted = halted; up = up; last = last; groups = groups; slots = slots }

abbrev pub queued : Triple → Bool → Queued
queued t up = record { interval = t.interval; more = t.count - 1; add = t.add; up = up }

-- a queue after a triple is added behind the one that runs
pub pushed : (old : Pending) (halted up : Bool) (last : ℕ) (o : Option Current) (c : Current) (b new : Buffer Queued) (now : ℕ) (t : Triple)
    → o ≡ Some c
    → pending halted up last (groups_of o b.items) b.capacity ≡ old
    → new ≡ buffer (keep_last b.capacity (b.items ++ queued t up ∷ [])) b.capacity
    → length b.items < b.capacity
    → pending halted up last (groups_of o new.items) new.capacity
    ≡ with_ticks old (ticks_at (first_tick now old.last t.interval old.groups) t)
pushed old halted up last o c b new now t runs view after room =
    let q = queued t up in
    let items : new.items ≡ b.items ++ q ∷ [] = ap (λ (n : Buffer Queued). n.items) after ∙ keeps_all b.capacity b.items q room in
    let slots : new.capacity ≡ b.capacity = ap (λ (n : Buffer Queued). n.capacity) after in
    rw (sym view, runs, items, slots) (ap (λ gs. pending halted up last gs b.capacity) (groups_push last c b.items q))

-- a queue after a triple is added where no step pends
pub begun : (old : Pending) (halted up : Bool) (last : ℕ) (o : Option Current) (c : Current) (b : Buffer Queued) (now first : ℕ) (t : Triple)
    → o ≡ None
    → b.items ≡ []
    → pending halted up last (groups_of o b.items) b.capacity ≡ old
    → first ≡ nearest now (last + t.interval)
    → current_ticks c ≡ (group_of first (queued t up)).ticks
    → c.up ≡ up
    → pending halted up last (groups_of (Some c) b.items) b.capacity ≡ with_ticks old (ticks_at (first_tick now old.last t.interval old.groups) t)
begun old halted up last o c b now first t none empty view is ticks dir = rw (sym view, none, empty, ticks, dir, is) refl
