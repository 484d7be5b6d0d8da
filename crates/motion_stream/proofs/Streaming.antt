-- A turn of a section whose moves still come.
use Rattle.std.proofs.Common.{◌≡◌, ℕ, zero, suc, ◌+◌, ◌<◌, ◌≤◌, ◌^◌, Bool, true, false, List, [], ◌∷◌, ◌++◌, drop, length, append-nil, length-append, refl, ap, sym, subst, ◌∙◌, arith, inr}
use Rattle.std.proofs.Math.Logic.{∥∥₁_elim, ∥∥₁_map, ∥∥₁_prop}
use Rattle.std.proofs.lemmas.List.FromFn.{length-map-range_with_len}
use Rattle.std.specs.Prelude.{All, Option, Some, None, slice_index_or}
use Rattle.msg_code.specs.declared.unit.Batch.{Batch}
use Rattle.plan_types.specs.declared.machine.Machine.{Machine}
use Rattle.plan_types.specs.declared.plan.Move.{Move}
use Rattle.plan_types.specs.declared.plan.SectionKind.TheVariants.{Moves}
use Rattle.plan_types.specs.Sections.{for_each_stepper, latest, section_end, stepper_end, is_home}
use Rattle.section_feed.specs.declared.section.SectionStream.{SectionStream}
use Rattle.section_feed.specs.Going.{IsPackedTo}
use Rattle.section_feed.specs.On.{IsSectionOn}
use Rattle.section_feed.specs.AllBoards.{ArePast}
use Rattle.section_feed.specs.Queues.{IsDrawn, begin_in, cruise_in, is_taking}
use Rattle.section_feed.specs.Rests.{AreAllRested}
use Rattle.section_feed.specs.Sections.{IsLeft, IsSectionOf, boards_in, boards_of, next_of, queue_of, sets_of}
use Rattle.section_feed.proofs.Ends.{section-ends}
use Rattle.section_feed.proofs.Leaving.{section-left}
use Rattle.section_feed.proofs.Following.{section-on, section-sent}
use Rattle.section_feed.proofs.Telling.{batch-behind, batch-earlier, batch-here, batch-join, batch-other, batch-own, before-more}
use Rattle.section_stream.specs.Looking.{IsFuture}
use Rattle.section_units.specs.Plans.{AreSentOn, IsOnBoard}
use Rattle.motion_work.proofs.Sending.{sent_more}
use Rattle.section_units.specs.Sections.{AreBefore}
use Rattle.step_feed.specs.Pacing.{Release, at_turn, batch_at}
use Rattle.step_feed.specs.Units.{StepUnit}
use Rattle.motion_work.specs.Feeds.{units_at}
use Rattle.motion_work.specs.Seen.{AreDone, IsOpen, IsPlanned, Started, planning_lines}
use Rattle.motion_work.specs.Told.{Told}
use Rattle.motion_work.specs.Turns.{done_notes}
use Rattle.motion_work.proofs.Turning.{done_later, end_after, other_done, ready_more, started_more}
use Rattle.motion_stream.specs.declared.course.Course.{Course}
use Rattle.motion_stream.specs.declared.course.Open.TheVariants as opens
use Rattle.motion_stream.proofs.Laid.{laid_later, laid_more}
use Rattle.section_feed.proofs.Laid.{section-laid}
use Rattle.motion_stream.specs.Courses.{AreAhead, IsConnected, IsCourseBy, BeginsNoEarlier, IsGoing, IsGoingOn, IsLaid, GoesAs, MovesOn, KnowsConnecting, row_at}
use Rattle.motion_stream.specs.Gone.{HasDrawn, HasEnded, HasGivenRows, released_in}
use Rattle.motion_stream.specs.Rows.{AreJoined, batches_of, units_in}
use Rattle.motion_stream.specs.Motions.{started_until}
use Rattle.motion_stream.specs.Seen.{AreWhole, EndsBy, Going, IsContinued, Seen, count_of, items_read, moves_end}
use Rattle.motion_stream.proofs.ByKind.{all_of, answered_board, answered_items, continued_sooner, ends_late, ends_sooner, goes_by, moves_kind, whole_moves}
use Rattle.motion_stream.specs.Steps.{IsPassed}
use Rattle.motion_stream.proofs.Drawing.{IsKept, ahead_next, batches_are, behind, boards_in_all, course_on, front_units, later_easy, no_units, same_go, told_kept, units_snoc}
use Rattle.motion_stream.proofs.Rowing.{no_row}
use Rattle.motion_stream.proofs.Taking.{same_released, section_on}
use Rattle.section_stream.specs.Steppers.{StepperKind}
use Rattle.plan_types.proofs.Facts.{none_some, some_same}

-- whole sections of one that goes on
pub record IsLast (m : Machine) (next : ℕ) (begun : List Started) (g : Going) (all : List Started) : Type 0 where
  pub s : Started
  pub are : all ≡ begun ++ s ∷ []
  pub is : IsContinued m next g s

pub last_is : (m : Machine) (told : Option Told) (next : ℕ) (begun all : List Started) (going : Option Going) (t : Told) (g : Going) → told ≡ Some t → going ≡ Some g → AreWhole m told next begun going all → IsLast m next begun g all
last_is m None next begun all going t g told goes w = absurd (none_some t told)
last_is m (Some x) next begun all None t g told goes w = absurd (none_some g goes)
last_is m (Some x) next begun all (Some y) t g told goes w =
    record { s = w.0; are = w.1; is = subst (λ (z : Going). IsContinued m next z w.0) (some_same y g goes) w.2 }

pub is_last : (m : Machine) (told : Option Told) (next : ℕ) (begun all : List Started) (going : Option Going) (t : Told) (g : Going) → told ≡ Some t → going ≡ Some g → IsLast m next begun g all → AreWhole m told next begun going all
is_last m None next begun all going t g told goes l = absurd (none_some t told)
is_last m (Some x) next begun all None t g told goes l = absurd (none_some g goes)
is_last m (Some x) next begun all (Some y) t g told goes l =
    (l.s, l.are, subst (λ (z : Going). IsContinued m next z l.s) (sym (some_same y g goes)) l.is)

-- a section that goes on does not end by the next turn
pub not_done : (m : Machine) (k next : ℕ) (begun : List Started) (g : Going) (s : Started) → AreDone k begun → k < next → IsContinued m next g s → [] ≡ done_notes k 0 (begun ++ s ∷ [])
not_done m k next begun g s done before is =
    let l = ends_late g.kind m next s is.ends in
    sym (other_done k 0 begun s done (λ x. omega (arith, x, before, l)))

-- a turn before the first one of a section
pub before_passed : (m : Machine) (old new : Course) (s : SectionStream) (homes : Bool) (seen : Seen) (k : ℕ) (batches : List Batch) → IsGoingOn m s homes old seen.told seen.begun seen.going → IsCourseBy m old seen (k + 260) (k + 261) → IsKept old new → new.ready ≡ old.ready → new.start ≡ old.start → new.next ≡ old.next + 1
    → k ≡ old.next → old.next < 2 ^ 42 → old.next + 250 < old.start → new.ahead.items ≡ drop 1 old.ahead.items → batches ≡ batches_of (length m.boards) old.next (slice_index_or old.ahead.items 0 []) []
    → (IsGoingOn m s homes new seen.told seen.begun seen.going → IsGoing m new.current new seen.told seen.begun seen.going) → BeginsNoEarlier new.current (k + 260) (k + 261) new
    → (next : Seen) × IsPassed m seen next k batches None × IsCourseBy m new next (k + 260) (k + 261)
before_passed m old new s homes seen k batches i h kept ready start next at small far ahead are goes early =
    let g = i.g in
    let begins = i.start_is in
    let front = slice_index_or old.ahead.items 0 [] in
    let ahead_is : AreAhead m old.ahead.items k seen.begun = subst (λ n. AreAhead m old.ahead.items n seen.begun) (sym at) i.ahead in
    let none : (b : ℕ) → g.released b ≡ [] = i.fresh (omega (arith, far, begins)) in
    let done : AreDone k seen.begun = subst (λ n. AreDone n seen.begun) (sym at) i.done in
    let known : (n : ℕ) (all : List Started) → AreWhole m seen.told n seen.begun seen.going all → IsLast m n seen.begun g all = λ n all w. last_is m seen.told n seen.begun all seen.going i.t g i.told_is i.is w in
    let its = i.next in
    let same = h.next in (
      behind seen seen.begun seen.going,
      record {
        text = refl;
        ended = refl;
        read = refl;
        told = refl;
        fresh = refl;
        next = refl;
        sections = same_go k seen.begun seen.going;
        whole = λ all w.
            let l = known (seen.next + 1) all w in
            is_last m seen.told seen.next seen.begun all seen.going i.t g i.told_is i.is (record { s = l.s; are = l.are; is = continued_sooner m seen.next (seen.next + 1) g l.s (omega arith) l.is });
        batches_are = λ all w.
            let l = known (seen.next + 1) all w in
            batches_are m k front [] (boards_in_all all) batches (are ∙ ap (λ n. batches_of (length m.boards) n front []) (sym at))
            (λ b lt. ap (λ us. units_in front b ++ us) (no_units b ∙ sym (l.is.same b k lt (omega (arith, at, same)) ∙ ap (batch_at k) (none b))) ∙ ap (λ us. us ++ batch_at k (slice_index_or l.s.boards b [])) (front_units m old.ahead.items k b seen.begun ahead_is lt)
            ∙ sym (units_snoc seen.begun l.s b k) ∙ ap (λ x. units_at b k (boards_in_all x)) (sym l.are));
        done_is = λ all w.
            let l = known (seen.next + 1) all w in
            not_done m k (seen.next + 1) seen.begun g l.s done (omega (arith, at, same)) l.is ∙ ap (done_notes k 0) (sym l.are);
      },
      course_on m old new seen seen.begun seen.going (k + 260) (k + 261) h kept next small refl (told_kept m old new seen.told seen.begun seen.going kept ready (omega (arith, next)) h.told) refl
          (goes (record {
            g = g;
            is = i.is;
            homes_is = i.homes_is;
            t = i.t;
            told_is = i.told_is;
            on = i.on;
            start = i.start;
            start_is = start ∙ i.start_is;
            soon = let x = i.soon in omega (arith, x, next);
            takes = i.takes;
            next = omega (arith, its, next, far, begins);
            done = subst (λ n. AreDone n seen.begun) (sym next) (done_later old.next (old.next + 1) seen.begun (omega arith) i.done);
            goes_as = goes_by g.kind m i.t.clocks old.next new.next g g (λ off all f. let e = end_after m i.t.clocks all g.start in omega (arith, e, next, far, begins)) refl refl refl refl refl i.goes_as;
            fresh = λ e. none;
            rested = λ e. absurd (omega (arith, e, next, far, begins));
            before = λ b. subst (AreBefore new.next) (sym (none b)) tt;
            ahead = ahead_next m old.ahead.items new.ahead.items old.next new.next seen.begun ahead next i.ahead;
          })) early,
    )

-- units of one more turn
abbrev pub more_released : Going → ℕ → List (List StepUnit) → ℕ → List Release
more_released g k own b = g.released b ++ at_turn k (slice_index_or own b [])

abbrev pub going_more : Going → ℕ → List (List StepUnit) → Going
going_more g k own = record { kind = g.kind; dwell = g.dwell; start = g.start; moves = g.moves; goes = g.goes; last = g.last; moving = g.moving; released = more_released g k own }

-- what it has behind it, it has before it
drawn_sooner : (m : Machine) (k next : ℕ) (g : Going) (own : List (List StepUnit)) (x : Started) → k ≡ next → IsContinued m (next + 1) (going_more g k own) x → IsContinued m next g x
drawn_sooner m k next g own x at c = record {
  section = c.section;
  moves = c.moves;
  start = c.start;
  ends = ends_sooner g.kind m next (next + 1) x (omega arith) c.ends;
  last = c.last;
  moving = c.moving;
  same = λ b j lt below. c.same b j lt (omega (arith, below)) ∙ batch-earlier j k (g.released b) (slice_index_or own b []) (omega (arith, below, at));
}

-- a turn whose units a section gives, and behind which it goes on
pub drawn_passed : (m : Machine) (old new : Course) (s later : SectionStream) (homes : Bool) (own : List (List StepUnit)) (seen : Seen) (k : ℕ) (batches : List Batch) → IsGoingOn m s homes old seen.told seen.begun seen.going → IsCourseBy m old seen (k + 260) (k + 261) → IsKept old new → new.ready ≡ old.ready → new.start ≡ old.start
    → new.next ≡ old.next + 1 → k ≡ old.next → old.next < 2 ^ 42 → old.start ≤ old.next + 250 → new.ahead.items ≡ drop 1 old.ahead.items → batches ≡ batches_of (length m.boards) old.next (slice_index_or old.ahead.items 0 []) own
    → HasDrawn s later k own → All (IsPackedTo (next_of later + 251)) (boards_in later) → (homes ≡ false → IsLeft later)
    → ((begun : List Started) (going : Option Going) → IsGoingOn m later homes new seen.told begun going → IsGoing m new.current new seen.told begun going) → BeginsNoEarlier new.current (k + 260) (k + 261) new
    → (next : Seen) × IsPassed m seen next k batches None × IsCourseBy m new next (k + 260) (k + 261)
drawn_passed m old new s later homes own seen k batches i h kept ready start next at small near ahead are drawn packed left goes early =
    let g = i.g in
    let g' = going_more g k own in
    let begins = i.start_is in
    let front = slice_index_or old.ahead.items 0 [] in
    let ahead_is : AreAhead m old.ahead.items k seen.begun = subst (λ n. AreAhead m old.ahead.items n seen.begun) (sym at) i.ahead in
    let done : AreDone k seen.begun = subst (λ n. AreDone n seen.begun) (sym at) i.done in
    let before : (b : ℕ) → AreBefore k (g.released b) = λ b. subst (λ n. AreBefore n (g.released b)) (sym at) (i.before b) in
    let known : (all : List Started) → AreWhole m seen.told (seen.next + 1) seen.begun (Some g') all → IsLast m (seen.next + 1) seen.begun g' all = λ all w. last_is m seen.told (seen.next + 1) seen.begun all (Some g') i.t g' i.told_is refl w in
    let same = h.next in
    let on = drawn.on m i.t.clocks g.start homes g.moves g.released i.on in
    let takes : is_taking (queue_of later) ≡ g.goes = drawn.takes ∙ i.takes in
    let after : is_home g.kind ≡ false → (all : List Move) → IsFuture g.goes g.moves all → new.next + 1 ≤ section_end m i.t.clocks all g.start = λ off all f.
    let turn = drawn.next in
    let l = section-left m i.t.clocks g.start homes later g.moves all (more_released g k own) (next_of later + 251) on (subst (λ t. IsFuture t g.moves all) (sym takes) f) packed (omega (arith, turn, at, small)) (left (i.homes_is ∙ off)) in
    omega (arith, l, turn, next, at) in (
      behind seen seen.begun (Some g'),
      record {
        text = refl;
        ended = refl;
        read = refl;
        told = refl;
        fresh = refl;
        next = refl;
        sections = record { more = []; are = sym (append-nil seen.begun); moves = tt; goes = λ x e. (let same = some_same x g' (sym e) in inr (g, i.is, ap (λ (y : Going). y.kind) same, ap (λ (y : Going). y.start) same)) };
        whole = λ all w.
            let l = known all w in
            is_last m seen.told seen.next seen.begun all seen.going i.t g i.told_is i.is (record { s = l.s; are = l.are; is = drawn_sooner m k seen.next g own l.s (at ∙ same) l.is });
        batches_are = λ all w.
            let l = known all w in
            batches_are m k front own (boards_in_all all) batches (are ∙ ap (λ n. batches_of (length m.boards) n front own) (sym at))
            (λ b lt. ap (λ us. units_in front b ++ us) (sym (l.is.same b k lt (omega (arith, at, same)) ∙ batch-here k (g.released b) (slice_index_or own b []) (before b))) ∙ ap (λ us. us ++ batch_at k (slice_index_or l.s.boards b [])) (front_units m old.ahead.items k b seen.begun ahead_is lt)
            ∙ sym (units_snoc seen.begun l.s b k) ∙ ap (λ x. units_at b k (boards_in_all x)) (sym l.are));
        done_is = λ all w.
            let l = known all w in
            not_done m k (seen.next + 1) seen.begun g' l.s done (omega (arith, at, same)) l.is ∙ ap (done_notes k 0) (sym l.are);
      },
      course_on m old new seen seen.begun (Some g') (k + 260) (k + 261) h kept next small (ap (items_read seen.begun) (sym i.is)) (told_more seen.told h.told) (ap (count_of seen.begun) (sym i.is))
          (goes seen.begun (Some g') (record {
            g = g';
            is = refl;
            homes_is = i.homes_is;
            t = i.t;
            told_is = i.told_is;
            on = on;
            start = i.start;
            start_is = start ∙ i.start_is;
            soon = let x = i.soon in omega (arith, x, next);
            takes = takes;
            next = let n = drawn.next in omega (arith, n, next, at, near, begins);
            done = subst (λ n. AreDone n seen.begun) (sym next) (done_later old.next (old.next + 1) seen.begun (omega arith) i.done);
            goes_as = goes_by g.kind m i.t.clocks old.next new.next g g' after refl refl refl refl refl i.goes_as;
            fresh = λ e. absurd (omega (arith, e, next, near, begins));
            rested = λ e. drawn.rested;
            before = λ b. subst (λ n. AreBefore n (more_released g k own b)) (let e : k + 1 ≡ new.next = omega (arith, at, next) in e) (before-more k (g.released b) (slice_index_or own b []) (before b));
            ahead = ahead_next m old.ahead.items new.ahead.items old.next new.next seen.begun ahead next i.ahead;
          })) early,
    )
  where
    told_more : (told : Option Told) → KnowsConnecting m old told seen.begun seen.going → KnowsConnecting m new told seen.begun (Some (going_more i.g k own))
    told_more None t = absurd (none_some i.g (sym t.2 ∙ i.is))
    told_more (Some t) c = record {
      connected = kept.connected ∙ c.connected;
      lines = ap (λ x. x.each.items) kept.lines ∙ c.lines;
      ready = λ e. absurd (none_some (going_more i.g k own) (sym e));
      started = c.started;
      sent = c.sent;
      clocks = c.clocks;
      laid = laid_later m t.clocks (old.next + 268) (new.next + 268) seen.begun (omega (arith, next)) c.laid;
      first = c.first;
      late = c.late;
    }

-- the units of rows, turn by turn
rows_before : (turn : ℕ) (rows : List (List (List StepUnit))) (b k : ℕ) → k < turn → batch_at k (released_in turn rows b) ≡ []
rows_before turn [] b k lt = refl
rows_before turn (row ∷ rows) b k lt =
    batch-join k (at_turn turn (slice_index_or row b [])) (released_in (turn + 1) rows b) ∙ ap (λ us. us ++ batch_at k (released_in (turn + 1) rows b)) (batch-other k turn (slice_index_or row b []) lt) ∙ rows_before (turn + 1) rows b k (omega (arith, lt))

at_behind : (turn k : ℕ) (us : List StepUnit) → turn < k → batch_at k (at_turn turn us) ≡ []
at_behind turn k us lt = batch-behind k k (at_turn turn us) (omega arith) (all_before us) where
  all_before : (us : List StepUnit) → AreBefore k (at_turn turn us)
  all_before [] = tt
  all_before (u ∷ us) = (lt, all_before us)

rows_at : (turn : ℕ) (rows : List (List (List StepUnit))) (b i : ℕ) → batch_at (turn + i) (released_in turn rows b) ≡ row_at rows i b
rows_at turn [] b i = sym (no_row [] i b (omega arith))
rows_at turn (row ∷ rows) b zero =
    let e : turn + 0 ≡ turn = omega arith in
    rw e (batch-join turn (at_turn turn (slice_index_or row b [])) (released_in (turn + 1) rows b) ∙ ap (λ us. us ++ batch_at turn (released_in (turn + 1) rows b)) (batch-own turn (slice_index_or row b []))
    ∙ ap (λ us. slice_index_or row b [] ++ us) (rows_before (turn + 1) rows b turn (omega arith)) ∙ append-nil (slice_index_or row b []))
rows_at turn (row ∷ rows) b (suc i) =
    let e : turn + suc i ≡ turn + 1 + i = omega arith in
    rw e (batch-join (turn + 1 + i) (at_turn turn (slice_index_or row b [])) (released_in (turn + 1) rows b) ∙ ap (λ us. us ++ batch_at (turn + 1 + i) (released_in (turn + 1) rows b)) (at_behind turn (turn + 1 + i) (slice_index_or row b []) (omega arith)) ∙ rows_at (turn + 1) rows b i)

-- a section whose end is known, as it was begun
abbrev pub all_released : Going → ℕ → List (List StepUnit) → List (List (List StepUnit)) → ℕ → List Release
all_released g k own rows b = more_released g k own b ++ released_in (k + 1) rows b

abbrev pub going_all : Going → ℕ → List (List StepUnit) → List (List (List StepUnit)) → Going
going_all g k own rows = record { kind = g.kind; dwell = g.dwell; start = g.start; moves = g.moves; goes = g.goes; last = g.last; moving = g.moving; released = all_released g k own rows }

abbrev pub closed : Machine → Going → ℕ → List (List StepUnit) → List (List (List StepUnit)) → ℕ → Started
closed m g k own rows end = started_until m end (going_all g k own rows)

closed_board : (m : Machine) (g : Going) (k : ℕ) (own : List (List StepUnit)) (rows : List (List (List StepUnit))) (end b : ℕ) → b < length m.boards → slice_index_or (closed m g k own rows end).boards b [] ≡ all_released g k own rows b
closed_board m g k own rows end b lt = answered_board m end (going_all g k own rows) b lt

-- a turn whose units a section gives, and behind which its end is known
pub ended_passed : (m : Machine) (old new : Course) (s later last : SectionStream) (homes : Bool) (own : List (List StepUnit)) (rows : List (List (List StepUnit))) (end : ℕ) (seen : Seen) (k : ℕ) (batches : List Batch) → homes ≡ false → IsGoingOn m s homes old seen.told seen.begun seen.going → IsCourseBy m old seen (k + 260) (k + 261) → IsKept old new
    → new.next ≡ old.next + 1 → k ≡ old.next → old.next < 2 ^ 42 → batches ≡ batches_of (length m.boards) old.next (slice_index_or old.ahead.items 0 []) own → HasDrawn s later k own → (e : ℕ) × IsDrawn (queue_of later) × ArePast e (boards_in later) → HasGivenRows later last (k + 1) rows → HasEnded last end
    → new.ready ≡ end + 260 → new.goes ≡ true → new.current ≡ opens.Nothing → AreJoined (length m.boards) (drop 1 old.ahead.items) rows new.ahead.items
    → (next : Seen) × IsPassed m seen next k batches None × IsCourseBy m new next (k + 260) (k + 261)
ended_passed m old new s later last homes own rows end seen k batches off i h kept next at small are drawn past given ended ready goes nothing joined =
    let g = i.g in
    let t = i.t in
    let front = slice_index_or old.ahead.items 0 [] in
    let x = closed m g k own rows end in
    let begun = seen.begun ++ x ∷ [] in
    let same = h.next in
    let ahead_is : AreAhead m old.ahead.items k seen.begun = subst (λ n. AreAhead m old.ahead.items n seen.begun) (sym at) i.ahead in
    let done : AreDone k seen.begun = subst (λ n. AreDone n seen.begun) (sym at) i.done in
    let before : (b : ℕ) → AreBefore k (g.released b) = λ b. subst (λ n. AreBefore n (g.released b)) (sym at) (i.before b) in
    let over : g.goes ≡ false = sym (given.takes ∙ drawn.takes ∙ i.takes) ∙ ended.drawn.over in
    let kind : g.kind ≡ Moves = moves_kind g.kind (sym i.homes_is ∙ off) in
    let goes_as : MovesOn m t.clocks old.next g = subst (λ k. GoesAs k m t.clocks old.next g) kind i.goes_as in
    let begins : IsSectionOn m t.clocks g.start false s g.moves g.released = subst (λ b. IsSectionOn m t.clocks g.start b s g.moves g.released) off i.on in
    let gives : IsSectionOn m t.clocks g.start false later g.moves (more_released g k own) = drawn.on m t.clocks g.start false g.moves g.released begins in
    let on : IsSectionOn m t.clocks g.start false last g.moves (all_released g k own rows) = given.on m t.clocks g.start false g.moves (more_released g k own) gives in
    let end_is : end ≡ section_end m t.clocks g.moves g.start = section-ends m t.clocks g.start false last g.moves (all_released g k own rows) end on ended.drawn ended.past ended.value in
    let late : k + 1 ≤ end = (let l = goes_as.late g.moves (whole_moves g.goes g.moves) in omega (arith, l, at, end_is)) in
    let starts : g.start ≤ end = (let e = end_after m t.clocks g.moves g.start in omega (arith, e, end_is)) in
    let known : IsConnected m old t seen.begun seen.going = connected seen.told i.told_is h.told in
    let same_all : (all : List Started) → AreWhole m seen.told (seen.next + 1) begun None all → all ≡ begun = λ all w. w in
    let board : (b : ℕ) → b < length m.boards → slice_index_or x.boards b [] ≡ all_released g k own rows b = λ b lt. closed_board m g k own rows end b lt in
    let early : (b j : ℕ) → b < length m.boards → j ≤ k → batch_at j (slice_index_or x.boards b []) ≡ batch_at j (more_released g k own b) = λ b j lt le.
    ap (batch_at j) (board b lt) ∙ batch-join j (more_released g k own b) (released_in (k + 1) rows b) ∙ ap (λ us. batch_at j (more_released g k own b) ++ us) (rows_before (k + 1) rows b j (omega (arith, le))) ∙ append-nil (batch_at j (more_released g k own b)) in
    let start = i.start in
    let first = known.late in (
      behind seen begun None,
      record {
        text = refl;
        ended = refl;
        read = refl;
        told = refl;
        fresh = refl;
        next = refl;
        sections = record { more = x ∷ []; are = refl; moves = (kind, tt); goes = λ y e. absurd (none_some y e) };
        whole = λ all w. is_last m seen.told seen.next seen.begun all seen.going t g i.told_is i.is (record {
          s = x;
          are = w;
          is = record {
            section = refl;
            moves = whole_moves g.goes g.moves;
            start = refl;
            ends = subst (λ z. EndsBy z m seen.next x) (sym kind) (let low : moves_end m g.moves g.start ≤ end = omega (arith, end_is) in low, omega (arith, late, at, same), ended.small);
            last = refl;
            moving = refl;
            same = λ b j lt below. early b j lt (omega (arith, below, at, same)) ∙ batch-earlier j k (g.released b) (slice_index_or own b []) (omega (arith, below, at, same));
          };
        });
        batches_are = λ all w.
            batches_are m k front own (boards_in_all all) batches (are ∙ ap (λ n. batches_of (length m.boards) n front own) (sym at))
            (λ b lt. ap (λ us. units_in front b ++ us) (sym (early b k lt (omega arith) ∙ batch-here k (g.released b) (slice_index_or own b []) (before b))) ∙ ap (λ us. us ++ batch_at k (slice_index_or x.boards b [])) (front_units m old.ahead.items k b seen.begun ahead_is lt)
            ∙ sym (units_snoc seen.begun x b k) ∙ ap (λ ss. units_at b k (boards_in_all ss)) (sym w));
        done_is = λ all w. sym (ap (done_notes k 0) w ∙ other_done k 0 seen.begun x done (λ e. omega (arith, e, late)));
      },
      course_on m old new seen begun None (k + 260) (k + 261) h kept next small (answered_items seen.begun g x over refl ∙ ap (items_read seen.begun) (sym i.is)) (told_more seen.told i.told_is x refl end_is known kind goes_as gives on late starts ready)
          (length-append seen.begun (x ∷ []) ∙ ap (count_of seen.begun) (sym i.is))
          (subst (λ o. IsGoing m o new seen.told begun None) (sym nothing) (record {
            none = refl;
            goes = subst (λ b. IsOpen b new.next begun) (sym goes) (seen.begun, x, refl, subst (λ n. AreDone n seen.begun) (sym next) (done_later old.next (old.next + 1) seen.begun (omega arith) i.done), omega (arith, late, next, at), starts);
            ahead = record {
              units = λ j b lt.
                  let e : new.next + j ≡ k + 1 + j = omega (arith, next, at) in
                  let gone : batch_at (k + 1 + j) (more_released g k own b) ≡ [] = batch-behind (k + 1 + j) (k + 1) (more_released g k own b) (omega arith) (before-more k (g.released b) (slice_index_or own b []) (before b)) in
                  let rest : batch_at (k + 1 + j) (slice_index_or x.boards b []) ≡ row_at rows j b = ap (batch_at (k + 1 + j)) (board b lt) ∙ batch-join (k + 1 + j) (more_released g k own b) (released_in (k + 1) rows b) ∙ ap (λ us. us ++ batch_at (k + 1 + j) (released_in (k + 1) rows b)) gone ∙ rows_at (k + 1) rows b j in
                  let others : units_at b (k + 1 + j) (boards_in_all seen.begun) ≡ row_at (drop 1 old.ahead.items) j b = (ahead_next m old.ahead.items (drop 1 old.ahead.items) k (k + 1) seen.begun refl refl ahead_is).units j b lt in
                  ap (λ n. units_at b n (boards_in_all begun)) e ∙ units_snoc seen.begun x b (k + 1 + j) ∙ ap (λ us. us ++ batch_at (k + 1 + j) (slice_index_or x.boards b [])) others ∙ ap (λ us. row_at (drop 1 old.ahead.items) j b ++ us) rest ∙ sym (joined.units j b lt);
            };
          }))
          (subst (λ o. BeginsNoEarlier o (k + 260) (k + 261) new) (sym nothing) (λ c. later_easy (k + 260) (k + 261) new.ready new.source.end new.source.items.items (omega (arith, ready, late)) (omega (arith, ready, late)))),
    )
  where
    connected : (told : Option Told) → told ≡ Some i.t → KnowsConnecting m old told seen.begun seen.going → IsConnected m old i.t seen.begun seen.going
    connected None e c = absurd (none_some i.t e)
    connected (Some u) e c = subst (λ (z : Told). IsConnected m old z seen.begun seen.going) (some_same u i.t e) c

    told_more : (told : Option Told) → told ≡ Some i.t → (x : Started) → x ≡ closed m i.g k own rows end → end ≡ section_end m i.t.clocks i.g.moves i.g.start → IsConnected m old i.t seen.begun seen.going → i.g.kind ≡ Moves → MovesOn m i.t.clocks old.next i.g → IsSectionOn m i.t.clocks i.g.start false later i.g.moves (more_released i.g k own) → IsSectionOn m i.t.clocks i.g.start false last i.g.moves (all_released i.g k own rows) → k + 1 ≤ end → i.g.start ≤ end → new.ready ≡ end + 260
        → KnowsConnecting m new told (seen.begun ++ closed m i.g k own rows end ∷ []) None
    told_more None e x xs end_is c kind moves gives on late starts ready = absurd (none_some i.t e)
    told_more (Some u) e x xs end_is c kind moves gives on late starts ready = subst (λ (z : Told). IsConnected m new z (seen.begun ++ closed m i.g k own rows end ∷ []) None) (sym (some_same u i.t e)) (record {
      connected = kept.connected ∙ c.connected;
      lines = ap (λ l. l.each.items) kept.lines ∙ c.lines;
      ready = λ n. ready ∙ sym (ready_more i.t.first seen.begun (closed m i.g k own rows end));
      started = ∥∥₁_elim c.started ∥∥₁_prop (λ all. ∥∥₁_map (all_of (λ b. IsOnBoard m i.t.clocks i.g.moves i.g.start b (all_released i.g k own rows b)) (length m.boards)
          (λ b lt. section-on m i.t.clocks i.g.start false last i.g.moves (all_released i.g k own rows) end b on ended.drawn ended.released ended.past ended.value lt)) (λ each. started_more m i.t.clocks i.t.first seen.begun (closed m i.g k own rows end) all (record {
            start = i.start;
            planned = subst (λ z. IsPlanned z m i.t.clocks (closed m i.g k own rows end)) (sym kind) (record {
              end = end_is;
              known = ended.small;
              last = moves.last;
              moving = moves.moving;
              boards = record {
                count = length-map-range_with_len (all_released i.g k own rows) 0 (length m.boards);
                each = λ b lt. subst (IsOnBoard m i.t.clocks i.g.moves i.g.start b) (sym (closed_board m i.g k own rows end b lt)) (each b lt);
              };
            });
          })));
      sent = ∥∥₁_elim c.sent ∥∥₁_prop (λ all. ∥∥₁_map (all_of (λ b. AreSentOn m i.t.clocks i.g.moves i.g.start b (all_released i.g k own rows b)) (length m.boards)
          (λ b lt. section-sent m i.t.clocks i.g.start false last i.g.moves i.g.moves (all_released i.g k own rows) b on (whole_moves (is_taking (queue_of last)) i.g.moves) lt)) (λ each. sent_more m i.t.clocks seen.begun (closed m i.g k own rows end) all
          (λ b lt. subst (λ z. AreSentOn m (planning_lines z end i.t.clocks) i.g.moves i.g.start b (slice_index_or (closed m i.g k own rows end).boards b [])) (sym kind) (subst (AreSentOn m i.t.clocks i.g.moves i.g.start b) (sym (closed_board m i.g k own rows end b lt)) (each b lt)))));
      clocks = c.clocks;
      laid = laid_more m i.t.clocks (new.next + 268) seen.begun (closed m i.g k own rows end) (laid_later m i.t.clocks (old.next + 268) (new.next + 268) seen.begun (omega (arith, next)) c.laid) (
          let soon = i.soon in
          let laid = section-laid m i.t.clocks i.g.start false later i.g.moves (more_released i.g k own) past.0 gives past.1 past.2 in
          let its = drawn.next in
          let low : i.g.start ≤ new.next + 268 = omega (arith, soon, next) in
          let last_low : latest (for_each_stepper m (stepper_end m i.t.clocks i.g.moves i.g.start)) ≤ new.next + 268 = omega (arith, laid, its, soon, next, at) in
          subst (λ z. IsLaid z m i.t.clocks (new.next + 268) (closed m i.g k own rows end)) (sym kind) (low, last_low));
      first = c.first;
      late = let r = ready_more i.t.first seen.begun (closed m i.g k own rows end) in let st = i.start in let f = c.late in omega (arith, r, st, f, starts);
    })

-- what a section gives for a turn
pub has_drawn : (old new : SectionStream) (k : ℕ) (own : List (List StepUnit)) → next_of old ≡ k → is_taking (queue_of new) ≡ is_taking (queue_of old) → next_of new ≡ next_of old + 1 → AreAllRested (next_of new + 250) (boards_in new) → boards_of new ≡ boards_of old → sets_of new ≡ sets_of old
    → cruise_in (queue_of new) ≡ cruise_in (queue_of old) → begin_in (queue_of new) ≡ begin_in (queue_of old)
    → ((scv : ℕ) (moves : List Move) (kinds : ℕ → ℕ → StepperKind) (base : ℕ → ℕ) (released : ℕ → List Release) → IsSectionOf old scv moves kinds base released → IsSectionOf new scv moves kinds base (λ x. released x ++ at_turn (next_of old) (slice_index_or own x [])))
    → HasDrawn old new k own
has_drawn old new k own at takes next rested boards sets cruise begin on = record {
  on = λ m clocks start homing moves released i. same_released m clocks start homing new moves (λ x. released x ++ at_turn (next_of old) (slice_index_or own x [])) (λ x. released x ++ at_turn k (slice_index_or own x [])) (λ x. ap (λ t. released x ++ at_turn t (slice_index_or own x [])) at)
      (section_on m clocks start homing old new moves moves released (λ x. released x ++ at_turn (next_of old) (slice_index_or own x [])) boards sets cruise begin (λ scv kinds base j. on scv moves kinds base released j) i);
  takes = takes;
  next = next ∙ ap (λ n. n + 1) at;
  rested = rested;
}
