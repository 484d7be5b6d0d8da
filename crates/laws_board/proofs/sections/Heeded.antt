-- The units that a board is sent of its sections, cut before the first one that is five turns late.
use Rattle.std.proofs.Common.{◌≡◌, ℕ, false, ◌+◌, ◌-◌, ◌*◌, ◌^◌, ◌<◌, ◌≤◌, List, [], ◌∷◌, ◌++◌, length, All, refl, ap, sym, ◌∙◌, subst, arith, inl, inr, append-nil}
use Rattle.laws_board.proofs.Names.{eqb_tells, All-head, All-tail, Level, BoardDef, turn_ns, Clocks, lines_tick, Step, new_world, StepUnit, Release, batch_at, units_of, Orders, BoardSection, base_of, of_stepper, section_steps}
use Rattle.step_feed.specs.Pacing.{ArePaced}
use Rattle.section_units.specs.Late.{LateOneByOne}
use Rattle.section_units.specs.Merged.{AreBehind, AreInOrder}
use Rattle.section_units.specs.Sections.{IsSection}
use Rattle.section_units.specs.Sent.{AreSentTo}
use Rattle.section_units.proofs.Fronting.{of_front, paced_front}
use Rattle.section_units.proofs.Lateness.{late_one_by_one}
use Rattle.laws_board.specs.sections.Events.{AreTicks, AreTurnsOf}
use Rattle.laws_board.specs.sections.Known.{sent_in}
use Rattle.laws_board.specs.sections.Parts.{AreInARow, AreOrdersOf, AreTracked, IsBoardRun}
use Rattle.laws_board.specs.sections.Timely.{AllTimely, TakesSoon}
use Rattle.laws_board.proofs.sections.Beginning.{run_splits}
use Rattle.laws_board.proofs.sections.Clocks.{ticks_up}
use Rattle.laws_board.proofs.sections.Entering.{all_inside, begun_inside, early_fits}
use Rattle.laws_board.proofs.sections.Heeding.{soon_enough, timed_timely}
use Rattle.laws_board.proofs.sections.Lasting.{tell_each}
use Rattle.laws_board.proofs.sections.Latest.{AreInRank, AreRanked, FirstsFrom, IsRanked, IsWalked, sections_cut}
use Rattle.laws_board.proofs.sections.Limiting.{paced_few}
use Rattle.laws_board.proofs.sections.Releasing.{AreFrom, paced_from}
use Rattle.laws_board.proofs.sections.Sectioning.{HeadLater, section_from, units_at}
use Rattle.laws_board.proofs.sections.Seeking.{TellFirst, begun_tell}
use Rattle.laws_board.proofs.sections.Shutting.{IsTimed, timed}
use Rattle.laws_board.proofs.sections.Waiting.{AreInside, Frame}
use Rattle.section_feed.proofs.Telling.{batch-join}

-- the first ones of a list
inside_front : (f : Frame) (rs qs : List Release) → AreInside f (rs ++ qs) → AreInside f rs
inside_front f [] qs a = tt
inside_front f (r ∷ rs) qs a = (a.0, inside_front f rs qs a.1)

from_front : (k : ℕ) (rs qs : List Release) → AreFrom k (rs ++ qs) → AreFrom k rs
from_front k [] qs a = tt
from_front k (r ∷ rs) qs a = (a.0, from_front k rs qs a.1)

tell_front : (us vs : List StepUnit) → TellFirst (us ++ vs) → TellFirst us
tell_front [] vs a = tt
tell_front (u ∷ us) vs a = (a.0, tell_front us vs a.1)

-- releases in the order of their turns and of their first steps
firsts_behind : (u : StepUnit) (rs : List Release) → AreBehind u (units_of rs) → ((oid : ℕ) → TellFirst (of_stepper oid (units_of rs))) → FirstsFrom u.first rs
firsts_behind u [] b t = tt
firsts_behind u (r ∷ rs) b t =
    let told = tell_each r rs t in
    let first = told.0 in
    (elim b.0 [ inl less ↦ omega (arith, less, first) | inr same ↦ (let eq = same.0 in omega (arith, eq, first)) ], firsts_behind u rs b.1 told.1)

in_rank : (f : Frame) (from : ℕ) (before rs : List Release) → AreInside f rs → ((oid : ℕ) → TellFirst (of_stepper oid (units_of rs))) → ArePaced f.clocks f.slots from before rs → AreInOrder (units_of rs) → AreInRank f rs
in_rank f from before [] i t p o = tt
in_rank f from before (r ∷ rs) i t p o =
    let told = tell_each r rs t in
    (i.0, told.0, paced_from f.clocks f.slots r.turn (r ∷ before) rs p.1, firsts_behind r.unit rs o.0 told.1, in_rank f r.turn (r ∷ before) rs i.1 told.1 p.1 o.1)

-- a section that has releases has slots
some_slots : (clocks : Clocks) (slots from : ℕ) (before rs : List Release) → ArePaced clocks slots from before rs → (1 ≤ slots → LateOneByOne rs) → LateOneByOne rs
some_slots clocks slots from before [] p h = tt
some_slots clocks slots from before (r ∷ rs) p h = h (omega (arith, p.0.room.steps))

-- what is sent of sections
abbrev pub sents : (clocks : Clocks) (freq turns : ℕ) (ss : List BoardSection) → All (AreSentTo clocks freq turns) ss → List BoardSection
sents clocks freq turns [] a = []
sents clocks freq turns (s ∷ ss) a =
    let P : BoardSection → Type 0 = λ x. AreSentTo clocks freq turns x in
    (record s { releases = (All-head P s ss a).sent }) ∷ sents clocks freq turns ss (All-tail P s ss a)

is_ranked : (own : ℕ → ℕ) (clocks : Clocks) (freq slots ready turns : ℕ) (ticks : AreTicks own) (tracked : AreTracked own clocks ready) (e : ℕ) (s : BoardSection) → ready ≤ e → e + 260 ≤ s.start → s.start ≤ s.end → s.end < tracked.until
    → IsSection clocks freq slots s → (h : AreSentTo clocks freq turns s) → IsRanked own clocks slots ready ticks tracked e (record s { releases = h.sent })
is_ranked own clocks freq slots ready turns ticks tracked e s low row order limit i h =
    let after : ready + 260 ≤ s.start = omega (arith, low, row) in
    let f : Frame = record { own = own; clocks = clocks; slots = slots; ready = ready; start = s.start; end = s.end; ticks = ticks; tracked = tracked; after = after; order = order; limit = limit } in
    let bound = lines_tick clocks ((s.end + 1) * turn_ns) in
    let inside = all_inside f s.releases (λ oid. begun_inside f false oid false (of_stepper oid (units_of s.releases)) (i.begun oid)
    (early_fits freq bound (base_of clocks s) (section_steps oid s) (s.plan oid) (i.fits oid) (i.within oid))) in
    let told : (oid : ℕ) → TellFirst (of_stepper oid (units_of h.sent)) = λ oid.
    (let Told : List Release → Type 0 = λ rs. TellFirst (of_stepper oid (units_of rs)) in
    let Of : List StepUnit → Type 0 = λ us. TellFirst us in
    tell_front (of_stepper oid (units_of h.sent)) (of_stepper oid (units_of h.later)) (subst Of (of_front oid h.sent h.later)
    (subst Told h.are (begun_tell false clocks (base_of clocks s) (of_stepper oid (units_of s.releases)) (i.begun oid))))) in
    let Paced : List Release → Type 0 = λ rs. ArePaced clocks slots i.from [] rs in
    let Inside : List Release → Type 0 = λ rs. AreInside f rs in
    let From : List Release → Type 0 = λ rs. AreFrom (s.start - 250) rs in
    let paced = paced_front clocks slots i.from [] h.sent h.later (subst Paced h.are i.paced) in
    record {
      after = after;
      order = order;
      limit = limit;
      row = row;
      rank = in_rank f i.from [] h.sent (inside_front f h.sent h.later (subst Inside h.are inside)) told paced h.is.in_order;
      from = from_front (s.start - 250) h.sent h.later (subst From h.are (section_from clocks freq slots (s.start - 250) s i (omega (arith, after))));
      late = some_slots clocks slots i.from [] h.sent paced (λ some. late_one_by_one clocks freq slots turns s tracked.kept some i h);
      few = λ k. (let few = paced_few clocks slots i.from k [] h.sent paced (omega arith) in omega (arith, few));
    }

are_ranked : (own : ℕ → ℕ) (clocks : Clocks) (freq slots ready turns : ℕ) (ticks : AreTicks own) (tracked : AreTracked own clocks ready) (e : ℕ) (ss : List BoardSection) → ready ≤ e → All (IsSection clocks freq slots) ss → AreInARow tracked.until e ss
    → (a : All (AreSentTo clocks freq turns) ss) → AreRanked own clocks slots ready ticks tracked e (sents clocks freq turns ss a)
are_ranked own clocks freq slots ready turns ticks tracked e [] low i row a = tt
are_ranked own clocks freq slots ready turns ticks tracked e (s ∷ ss) low i row a =
    let P : BoardSection → Type 0 = λ x. AreSentTo clocks freq turns x in
    let Q : BoardSection → Type 0 = λ x. IsSection clocks freq slots x in (
      is_ranked own clocks freq slots ready turns ticks tracked e s low row.0 row.1 row.2 (All-head Q s ss i) (All-head P s ss a),
      are_ranked own clocks freq slots ready turns ticks tracked s.end ss (omega (arith, low, row.0, row.1)) (All-tail Q s ss i) row.3 (All-tail P s ss a),
    )

-- before the turn it is all that is released
none_behind : (k turns : ℕ) (rs : List Release) → All (λ (r : Release). turns ≤ r.turn) rs → k < turns → batch_at k rs ≡ []
none_behind k turns [] a h = refl
none_behind k turns (r ∷ rs) a h =
    let P : Release → Type 0 = λ q. turns ≤ q.turn in
    let first = All-head P r rs a in
    elim (eqb_tells r.turn k) [ inl p ↦ absurd (omega (arith, p.1, first, h)) | inr p ↦ rw p.0 (none_behind k turns rs (All-tail P r rs a) h) ]

same_units : (clocks : Clocks) (freq turns k : ℕ) (ss : List BoardSection) (a : All (AreSentTo clocks freq turns) ss) → k < turns → units_at k ss ≡ units_at k (sents clocks freq turns ss a)
same_units clocks freq turns k [] a h = refl
same_units clocks freq turns k (s ∷ ss) a h =
    let P : BoardSection → Type 0 = λ x. AreSentTo clocks freq turns x in
    let x = All-head P s ss a in
    let one : batch_at k s.releases ≡ batch_at k x.sent =
    ap (batch_at k) x.are ∙ batch-join k x.sent x.later ∙ ap (λ us. batch_at k x.sent ++ us) (none_behind k turns x.later x.behind h) ∙ append-nil (batch_at k x.sent) in
    ap (λ us. us ++ units_at k ss) one ∙ ap (λ us. batch_at k x.sent ++ us) (same_units clocks freq turns k ss (All-tail P s ss a) h)

orders_to : (ss ts : List BoardSection) (turns turn : ℕ) (os : List Orders) → ((k : ℕ) → k < turns → units_at k ss ≡ units_at k ts) → turn + length os ≤ turns → AreOrdersOf ss turn os → AreOrdersOf ts turn os
orders_to ss ts turns turn [] e within h = tt
orders_to ss ts turns turn (o ∷ os) e within h = (h.0, h.1 ∙ e turn (omega (arith, within)), orders_to ss ts turns (turn + 1) os e (omega (arith, within)) h.2)

-- a whole run
head_first : (own : ℕ → ℕ) (clocks : Clocks) (slots ready : ℕ) (ticks : AreTicks own) (tracked : AreTracked own clocks ready) (e : ℕ) (ss : List BoardSection) → AreRanked own clocks slots ready ticks tracked e ss → HeadLater 0 ss
head_first own clocks slots ready ticks tracked e [] r = tt
head_first own clocks slots ready ticks tracked e (s ∷ ss) r = let row = r.0.row in omega (arith, row)

-- what is queued is cut, and what the cut is of
pub run_walked : (own : ℕ → ℕ) (clocks : Clocks) (freq slots ready n turns : ℕ) (ss : List BoardSection) (os : List Orders) → AreTicks own → IsBoardRun own clocks freq slots ready ss os → All (AreSentTo clocks freq turns) ss → length os ≤ turns → ((k : ℕ) → own (k + (n + 7)) < own k + 2 ^ 31)
    → (w : IsWalked own n 0 os) × (x : IsTimed own slots n (sent_in 0 os)) × (length x.front ≤ length w.cut.front)
run_walked own clocks freq slots ready n turns ss os ticks r sent within far =
    let e : n + 5 + 2 ≡ n + 7 = omega arith in
    let Far : ℕ → Type 0 = λ m. (k : ℕ) → own (k + m) < own k + 2 ^ 31 in
    let x = run_splits own clocks freq slots ready ss os ticks r in
    let ts = sents clocks freq turns ss sent in
    let ranked = are_ranked own clocks freq slots ready turns ticks r.tracked ready ss (omega arith) r.sections r.row sent in
    let w = sections_cut own clocks slots ready ticks r.tracked n ready ts (subst Far (sym e) far) ranked os 0 (head_first own clocks slots ready ticks r.tracked ready ts ranked)
    (orders_to ss ts turns 0 os (λ k h. same_units clocks freq turns k ss sent h) (omega (arith, within)) r.orders) in
    let t = timed own (ticks_up own ticks) slots n os x.front x.tail x.is x.good x.lost w.cut in
    (w, t.0, t.1)

pub taken_soon : (b : BoardDef) (pins : List (List Level)) (own : ℕ → ℕ) (clocks : Clocks) (ready n turns : ℕ) (ss : List BoardSection) (os : List Orders) (steps : List Step) (t : AreTurnsOf own 0 os steps) → AreTicks own → own 0 ≡ b.start
    → IsBoardRun own clocks b.freq b.slots ready ss os → All (AreSentTo clocks b.freq turns) ss → length os ≤ turns → ((k : ℕ) → own (k + (n + 7)) < own k + 2 ^ 31) → TakesSoon n os own 0 os steps (new_world b pins) t → AllTimely (new_world b pins) steps
taken_soon b pins own clocks ready n turns ss os steps t ticks first r sent within far soon =
    let x = (run_walked own clocks b.freq b.slots ready n turns ss os ticks r sent within far).1 in
    timed_timely b pins own n os steps t ticks first x (soon_enough n (length x.front) os own 0 os steps (new_world b pins) t (omega arith) soon)
