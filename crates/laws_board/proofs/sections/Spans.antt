-- The pulses of each section, and when they are all there.
use Rattle.std.proofs.Common.{◌≡◌, ℕ, ◌+◌, ◌-◌, ◌*◌, ◌<◌, ◌≤◌, List, [], ◌∷◌, ◌++◌, length, All, refl, ap, sym, ◌∙◌, subst, arith, inl, inr, append_assoc}
use Rattle.laws_board.proofs.Names.{All-nil, All-cons, All-head, All-tail, leb_tells, BoardDef, Pulse, Planned, turn_ns, Clocks, lines_tick, Fits, only, Core, Orders, queued_in, BoardSection, base_of, section_steps}
use Rattle.std.specs.Prelude.{nat_le, if◌then◌else◌}
use Rattle.plan_types.specs.Plan.{AreSpaced}
use Rattle.laws_board.specs.sections.Events.{AreTicks}
use Rattle.laws_board.specs.sections.Known.{Sent, sent_at, sent_in, unknown, known_from, known_steppers}
use Rattle.section_units.specs.Sections.{IsSection}
use Rattle.laws_board.specs.sections.Parts.{AreTracked}
use Rattle.laws_board.specs.sections.Runs.{Begins}
use Rattle.laws_board.proofs.sections.Taking.{IsFront, all_grow}
use Rattle.laws_board.proofs.sections.Lists.{cuts, known_append}
use Rattle.laws_board.proofs.sections.Clocks.{ticks_up, ticks_rise}
use Rattle.laws_board.proofs.sections.Running.{Plan, Holds}
use Rattle.laws_board.proofs.sections.Sectioning.{Splits}
use Rattle.laws_board.proofs.sections.Entering.{AreEarly, early_fits}
use Rattle.laws_board.proofs.sections.Passes.{AreBetween}

-- the plan of a run
abbrev pub plan_of : (b : BoardDef) (own : ℕ → ℕ) (sent : List Sent) (ss : List BoardSection) (n : ℕ) → AreTicks own → Splits own b.slots n sent (λ oid. unknown) (λ oid. []) [] ss → Plan
plan_of b own sent ss n ticks x = record { own = own; slots = b.slots; front = x.front; tail = x.tail; up = ticks_up own ticks; good = x.good; lost = x.lost }

-- of each stepper the steps that are meant are a front of those of the sections, in order
pub meant_front : (p : Plan) (turn : ℕ) (sent : List Sent) (h : Core) → Holds p turn sent h → (oid : ℕ) → IsFront (only oid h.meant) (known_steppers p.front oid).steps
meant_front p turn sent h k oid = elim k.state [
  | inl r ↦
      let e : known_steppers p.front oid ≡ known_from oid (known_steppers r.done oid) r.more = ap (λ x. known_steppers x oid) (sym r.front_is) ∙ known_append oid unknown r.done r.more in
      rw (r.meant oid, e) (all_grow oid (known_steppers r.done oid) r.more)
  | inr e ↦ e.meant oid
]

-- Of lists of pulses, those from a tick on.
abbrev pub from_tick : ℕ → List Pulse → List Pulse
from_tick x [] = []
from_tick x (p ∷ ps) = if nat_le x p.tick then p ∷ from_tick x ps else from_tick x ps

pub from_append : (x : ℕ) (ps qs : List Pulse) → from_tick x (ps ++ qs) ≡ from_tick x ps ++ from_tick x qs
from_append x [] qs = refl
from_append x (p ∷ ps) qs = elim (leb_tells x p.tick) [ inl h ↦ rw h.0 (ap (λ t. p ∷ t) (from_append x ps qs)) | inr h ↦ rw h.0 (from_append x ps qs) ]

pub from_early : (x : ℕ) (ps : List Pulse) → AreEarly x ps → from_tick x ps ≡ []
from_early x [] a = refl
from_early x (p ∷ ps) a = elim (leb_tells x p.tick) [ inl h ↦ absurd (omega (arith, h.1, a.0)) | inr h ↦ rw h.0 (from_early x ps a.1) ]

-- pulses from a tick on
abbrev pub AreLate : ℕ → List Pulse → Type 0
AreLate x [] = Unit {0}
AreLate x (p ∷ ps) = (x ≤ p.tick) × AreLate x ps

pub from_late : (x : ℕ) (ps : List Pulse) → AreLate x ps → from_tick x ps ≡ ps
from_late x [] a = refl
from_late x (p ∷ ps) a = elim (leb_tells x p.tick) [ inl h ↦ rw h.0 (ap (λ t. p ∷ t) (from_late x ps a.1)) | inr h ↦ absurd (omega (arith, h.1, a.0)) ]

pub late_append : (x : ℕ) (ps qs : List Pulse) → AreLate x ps → AreLate x qs → AreLate x (ps ++ qs)
late_append x [] qs a b = b
late_append x (p ∷ ps) qs a b = (a.0, late_append x ps qs a.1 b)

pub early_append : (x : ℕ) (ps qs : List Pulse) → AreEarly x ps → AreEarly x qs → AreEarly x (ps ++ qs)
early_append x [] qs a b = b
early_append x (p ∷ ps) qs a b = (a.0, early_append x ps qs a.1 b)

pub early_up : (x y : ℕ) (ps : List Pulse) → x ≤ y → AreEarly x ps → AreEarly y ps
early_up x y [] h a = tt
early_up x y (p ∷ ps) h a = (omega (arith, h, a.0), early_up x y ps h a.1)

pub late_down : (x y : ℕ) (ps : List Pulse) → y ≤ x → AreLate x ps → AreLate y ps
late_down x y [] h a = tt
late_down x y (p ∷ ps) h a = (omega (arith, h, a.0), late_down x y ps h a.1)

pub between_early : (low high : ℕ) (ps : List Pulse) → AreBetween low high ps → AreEarly high ps
between_early low high [] a = tt
between_early low high (p ∷ ps) a = (a.1, between_early low high ps a.2)

pub between_late : (low high : ℕ) (ps : List Pulse) → AreBetween low high ps → AreLate low ps
between_late low high [] a = tt
between_late low high (p ∷ ps) a = (a.0, between_late low high ps a.2)

pub early_behind : (x : ℕ) (ps qs : List Pulse) → AreEarly x (ps ++ qs) → AreEarly x qs
early_behind x [] qs a = a
early_behind x (p ∷ ps) qs a = early_behind x ps qs a.1

-- Where a list of pulses was cut at two ticks, and a list that it begins as well, its middle begins the other's.
pub middle_begins : (low high : ℕ) (made new rest past own later : List Pulse) → AreEarly low made → AreLate low new → AreEarly high new → AreEarly low past → AreLate low own → AreLate low later → AreLate high later
    → (made ++ new) ++ rest ≡ past ++ (own ++ later) → Begins new own
middle_begins low high made new rest past own later a b c d e f g same =
    let left : from_tick low ((made ++ new) ++ rest) ≡ new ++ from_tick low rest =
    from_append low (made ++ new) rest ∙ ap (λ x. x ++ from_tick low rest) (from_append low made new ∙ ap (λ x. x ++ from_tick low new) (from_early low made a) ∙ from_late low new b) in
    let right : from_tick low (past ++ (own ++ later)) ≡ own ++ later =
    from_append low past (own ++ later) ∙ ap (λ x. x ++ from_tick low (own ++ later)) (from_early low past d) ∙ from_late low (own ++ later) (late_append low own later e f) in
    elim (cuts new (from_tick low rest) own later (sym left ∙ ap (from_tick low) same ∙ right)) [
      | inl p ↦ (p.0, sym p.1)
      | inr p ↦
          let At : List Pulse → Type 0 = λ x. AreEarly high x in
          let On : List Pulse → Type 0 = λ x. AreLate high x in
          let low_one = early_behind high own (p.0 ∷ p.1) (subst At p.2 c) in
          let high_one = subst On p.3 g in
          absurd (omega (arith, low_one.0, high_one.0))
    ]

-- The steps of sections, and the board's ticks.
pub section_early : (own : ℕ → ℕ) (clocks : Clocks) (freq slots ready n oid : ℕ) (s : BoardSection) → AreTicks own → (tracked : AreTracked own clocks ready) → IsSection clocks freq slots s → ready ≤ s.end → s.end < tracked.until → s.end + 5 ≤ n
    → AreEarly (own n) (section_steps oid s)
section_early own clocks freq slots ready n oid s ticks tracked i low soon over =
    let bound = lines_tick clocks ((s.end + 1) * turn_ns) in
    let e : s.end + 1 + 4 ≡ s.end + 5 = omega arith in
    let ahead = rw e at (tracked.ahead (s.end + 1) (omega (arith, low)) (omega (arith, soon))) in
    early_up bound (own n) (section_steps oid s) (omega (arith, ahead, ticks_rise own ticks (s.end + 5) n over))
    (early_fits freq bound (base_of clocks s) (section_steps oid s) (s.plan oid) (i.fits oid) (i.within oid))

pub late_fits : (freq x before : ℕ) (ps : List Pulse) (plan : List Planned) → x ≤ before → Fits freq before ps plan → AreSpaced before plan → AreLate x ps
late_fits freq x before [] plan h f a = tt
late_fits freq x before (p ∷ ps) [] h f a = absurd f
late_fits freq x before (p ∷ ps) (s ∷ plan) h f a = (omega (arith, h, f.0.not_early, a.0), late_fits freq x s.tick ps plan (omega (arith, h, a.0)) f.1 a.1)

pub all_split : {X : Type 0} (P : X → Type 0) (xs ys : List X) → All P (xs ++ ys) → All P xs × All P ys
all_split P [] ys a = (All-nil P, a)
all_split P (x ∷ xs) ys a =
    let rest = all_split P xs ys (All-tail P x (xs ++ ys) a) in
    (All-cons P x xs (All-head P x (xs ++ ys) a) rest.0, rest.1)

pub sent_in_append : (turn : ℕ) (os ps : List Orders) → sent_in turn (os ++ ps) ≡ sent_in turn os ++ sent_in (turn + length os) ps
sent_in_append turn [] ps = let e : turn + 0 ≡ turn = omega arith in rw e refl
sent_in_append turn (o ∷ os) ps =
    let e : turn + 1 + length os ≡ turn + length (o ∷ os) = omega arith in
    ap (λ x. sent_at turn (queued_in o) ++ x) (sent_in_append (turn + 1) os ps ∙ ap (λ n. sent_in (turn + 1) os ++ sent_in n ps) e)
    ∙ sym (append_assoc (sent_at turn (queued_in o)) (sent_in (turn + 1) os) (sent_in (turn + length (o ∷ os)) ps))

pub fits_front : (freq before : ℕ) (ps qs : List Pulse) (plan : List Planned) → Fits freq before (ps ++ qs) plan → Fits freq before ps plan
fits_front freq before [] qs plan f = tt
fits_front freq before (p ∷ ps) qs [] f = absurd f
fits_front freq before (p ∷ ps) qs (s ∷ plan) f = (f.0, fits_front freq s.tick ps qs plan f.1)
