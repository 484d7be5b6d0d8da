-- A homing group that hears all its members renews their timeouts.
use Rattle.std.proofs.Common.{◌≡◌, ℕ, ◌+◌, ◌-◌, ◌<◌, ◌≤◌, ◌==◌, Bool, true, false, List, [], ◌∷◌, ◌++◌, max, min, nat_lt, ap, sym, ◌∙◌, subst, arith, ◌⊎◌, inl, inr}
use Rattle.std.specs.Prelude.{if◌then◌else◌}
use Rattle.std.specs.List.{Contains}
use Rattle.std.proofs.lemmas.List.Elements.{Contains-append_left}
use Rattle.laws_board.proofs.Names.{leb_tells, Ctl, Homes, Starts, Goes, Rests, Sends, Seen, GroupState, turned_group, all_fired, first_timeout, phase, relay_in, relays_in, round_of}
use Rattle.trigger_group.specs.declared.order.Order.TheVariants.{Timeout}
use Rattle.trigger_group.specs.declared.round.Round.TheVariants.{Relays, Resets, Timeouts}
use Rattle.trigger_group.specs.declared.round.Phase.{Phase}
use Rattle.trigger_group.specs.Group.{after_in, goes, heard_of, least_heard, limit, orders, orders_of_group, to_board}
use Rattle.trigger_group.proofs.Answering.{either, first_there, none_there, there_more}
use Rattle.laws_homing.specs.clear_boards.Renewed.{HeardFrom}
use Rattle.plan_types.proofs.Facts.{is_less}

least_from : (start u least : ℕ) (ms : List Seen) → u ≤ least → HeardFrom start u ms → u ≤ least_heard start least ms
least_from start u least [] l h = l
least_from start u least (m ∷ ms) l h = let here = h.0 in least_from start u (min least (heard_of start m.heard)) ms (omega (arith, l, here)) h.1

limit_from : (g : GroupState) (u : ℕ) → HeardFrom g.start u g.members → (u + 25 ≤ limit g) ⊎ (g.last + 1 ≤ limit g)
limit_from g u h = elim (leb_tells u g.last) [
  | inl p ↦
      let least = least_heard g.start g.last g.members in
      let low = least_from g.start u g.last g.members p.1 h in
      elim (leb_tells (least + 25) (g.last + 1)) [ inl q ↦ inl (let l = q.1 in omega (arith, l, low)) | inr q ↦ inr (let l = q.1 in omega (arith, l)) ]
  | inr p ↦
      let least = least_heard g.start g.last g.members in
      let far = p.1 in
      let low = least_from g.start g.last g.last g.members (omega arith) (less g.start g.last u g.members (omega (arith, far)) h) in
      inr (omega (arith, low))
]
  where
    less : (start v w : ℕ) (ms : List Seen) → v ≤ w → HeardFrom start w ms → HeardFrom start v ms
    less start v w [] l k = tt
    less start v w (m ∷ ms) l k = let here = k.0 in (omega (arith, here, l), less start v w ms l k.1)

-- from the start on it goes
pub phase_goes : (start last turn : ℕ) → start ≤ turn → phase start last turn ≡ Goes
phase_goes start last turn low =
    let e : start - turn ≡ 0 = omega (arith, low) in
    let By : ℕ → Phase = λ n.
    if n == 254 then Sends (Resets 0)
    else (if n == 253 then Sends (Resets 1)
    else (if n == 252 then Sends (Resets 2)
    else (if n == 251 then Sends (Starts (first_timeout start last))
    else (if n == 250 then Sends Homes
    else (if n == 0 then Goes else Rests))))) in
    ap By e

pub after_is : (g : GroupState) (turn : ℕ) → g.start ≤ turn → all_fired g.members ≡ false → (turned_group g turn).sent ≡ max g.sent (limit g)
after_is g turn low fired =
    ap (λ (p : Phase). (after_in p g turn).sent) (phase_goes g.start g.last turn low)
    ∙ ap (λ (b : Bool). (if b then g else record g { sent = max g.sent (limit g); relay = relay_in g turn }).sent) fired

pub orders_are : (g : GroupState) (turn : ℕ) → g.start ≤ turn → all_fired g.members ≡ false → orders g turn ≡ goes g turn
orders_are g turn low fired = ap (λ (p : Phase). orders_of_group p g turn) (phase_goes g.start g.last turn low) ∙ ap (λ (b : Bool). if b then [] else goes g turn) fired

pub renewed : (g : GroupState) (turn u : ℕ) → g.start ≤ turn → HeardFrom g.start u g.members → all_fired g.members ≡ false → (u + 25 ≤ (turned_group g turn).sent) ⊎ (g.last + 1 ≤ (turned_group g turn).sent)
renewed g turn u low h fired =
    let is = after_is g turn low fired in
    elim (limit_from g u h) [ inl l ↦ inl (omega (arith, l, is)) | inr l ↦ inr (omega (arith, l, is)) ]

-- each member is sent it
in_round : (t : ℕ) (m : Seen) (ms : List Seen) → Contains ms m → Contains (round_of (Timeouts t) ms) (to_board m (Timeout t))
in_round t m [] c = absurd (none_there m c)
in_round t m (x ∷ ms) c = elim (either x m ms c) [
  | inl e ↦ let At : Seen → Type 0 = λ y. Contains (to_board x (Timeout t) ∷ round_of (Timeouts t) ms) (to_board y (Timeout t)) in subst At e (first_there (to_board x (Timeout t)) (round_of (Timeouts t) ms))
  | inr k ↦ there_more (to_board x (Timeout t)) (to_board m (Timeout t)) (round_of (Timeouts t) ms) (in_round t m ms k)
]

pub sent_all : (g : GroupState) (turn : ℕ) (m : Seen) → g.start ≤ turn → all_fired g.members ≡ false → Contains g.members m → g.sent < (turned_group g turn).sent → Contains (orders g turn) (to_board m (Timeout (turned_group g turn).sent))
sent_all g turn m low fired c grew =
    let is = after_is g turn low fired in
    let more : g.sent < limit g = omega (arith, is, grew) in
    let same : limit g ≡ (turned_group g turn).sent = omega (arith, is, more) in
    let others = if relays_in (relay_in g turn) turn then round_of Relays g.members else [] in
    let first : (if nat_lt g.sent (limit g) then round_of (Timeouts (limit g)) g.members else []) ≡ round_of (Timeouts (limit g)) g.members =
    ap (λ (b : Bool). if b then round_of (Timeouts (limit g)) g.members else []) (is_less g.sent (limit g) more) in
    let are : orders g turn ≡ round_of (Timeouts (limit g)) g.members ++ others = orders_are g turn low fired ∙ ap (λ (x : List Ctl). x ++ others) first in
    let At : ℕ → Type 0 = λ t. Contains (round_of (Timeouts (limit g)) g.members ++ others) (to_board m (Timeout t)) in
    let there : At (limit g) = Contains-append_left (round_of (Timeouts (limit g)) g.members) others (to_board m (Timeout (limit g))) (in_round (limit g) m g.members c) in
    let All : List Ctl → Type 0 = λ x. Contains x (to_board m (Timeout (turned_group g turn).sent)) in
    subst All (sym are) (subst At same there)
