-- When the pulses of a section are all there.
use Rattle.std.proofs.Common.{◌≡◌, ℕ, suc, Bool, ◌+◌, ◌≤◌, List, [], ◌∷◌, ◌++◌, length, map, refl, ap, ◌∙◌, arith, inl, inr}
use Rattle.laws_board.proofs.Names.{map-append, eqb_tells, flat_map, Pulse, only, Orders, queued_in}
use Rattle.plan_types.specs.Numbers.{UpFrom}
use Rattle.plan_types.specs.Board.{Group, last_of, steps_of, pending_steps}
use Rattle.plan_types.specs.Plan.{pulse_of}
use Rattle.board_sim.specs.Fair.{GroupsRiseFrom}
use Rattle.laws_board.specs.sections.Known.{Sent, sent_at, sent_in, orders_sent}
use Rattle.laws_board.proofs.sections.Counts.{last_least}
use Rattle.laws_board.proofs.sections.Lists.{orders_append, orders_at, orders_long}
use Rattle.laws_board.proofs.sections.Entering.{AreEarly}
use Rattle.laws_board.proofs.sections.Spans.{AreLate, late_append}
use Rattle.plan_types.proofs.Facts.{none_long}

-- steps that pend are not before now
pub up_late : (x low oid : ℕ) (up : Bool) (ts : List ℕ) → x ≤ low → UpFrom low ts → AreLate x (map (pulse_of oid) (steps_of up ts))
up_late x low oid up [] h u = tt
up_late x low oid up (t ∷ ts) h u = (omega (arith, h, u.0), up_late x t oid up ts (omega (arith, h, u.0)) u.1)

pub rise_late : (x low oid : ℕ) (gs : List Group) → x ≤ low → GroupsRiseFrom low gs → AreLate x (map (pulse_of oid) (pending_steps gs))
rise_late x low oid [] h r = tt
rise_late x low oid (g ∷ gs) h r =
    rw (map-append (pulse_of oid) (steps_of g.up g.ticks) (pending_steps gs))
    (late_append x (map (pulse_of oid) (steps_of g.up g.ticks)) (map (pulse_of oid) (pending_steps gs)) (up_late x low oid g.up g.ticks h r.1)
    (rise_late x (last_of low g.ticks) oid gs (omega (arith, h, last_least low low g.ticks r.1 r.0)) r.2))

-- what is queued before a turn, as commands
pub sent_orders : (turn : ℕ) (os : List Orders) → orders_sent (sent_in turn os) ≡ flat_map queued_in os
sent_orders turn [] = refl
sent_orders turn (o ∷ os) =
    orders_append (sent_at turn (queued_in o)) (sent_in (turn + 1) os) ∙ ap (λ x. x ++ orders_sent (sent_in (turn + 1) os)) (orders_at turn (queued_in o))
    ∙ ap (λ x. queued_in o ++ x) (sent_orders (turn + 1) os)

pub late_front : (x : ℕ) (ps qs : List Pulse) → AreLate x (ps ++ qs) → AreLate x ps
late_front x [] qs a = tt
late_front x (p ∷ ps) qs a = (a.0, late_front x ps qs a.1)

pub no_time : (x : ℕ) (ps : List Pulse) → AreEarly x ps → AreLate x ps → ps ≡ []
no_time x [] a b = refl
no_time x (p ∷ ps) a b = absurd (omega (arith, a.0, b.0))

-- a first pulse, of its stepper
pub first_of_own : (p : Pulse) (ps : List Pulse) → only p.stepper (p ∷ ps) ≡ p ∷ only p.stepper ps
first_of_own p ps = elim (eqb_tells p.stepper p.stepper) [ inl h ↦ rw h.0 refl | inr h ↦ absurd (h.1 refl) ]
