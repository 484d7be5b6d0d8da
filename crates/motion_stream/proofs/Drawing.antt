-- A turn that goes by.
use Rattle.std.proofs.Common.{◌≡◌, ℕ, zero, suc, ◌+◌, ◌<◌, ◌≤◌, ◌^◌, Bool, true, false, not, List, [], ◌∷◌, ◌++◌, drop, length, map, append-nil, refl, ap, sym, subst, ◌∙◌, arith, inr}
use Rattle.std.proofs.lemmas.List.{map-append}
use Rattle.std.proofs.lemmas.List.Concat.{flat_map-append}
use Rattle.std.specs.List.{flat_map}
use Rattle.std.specs.Prelude.{◌&&◌, Option, Some, None, nat_eq, slice_index_or}
use Rattle.gcode_program.specs.declared.items.Item.{Item}
use Rattle.gcode_program.specs.declared.items.Item.TheVariants as items
use Rattle.msg_code.specs.declared.talk.NoteNews.{NoteNews}
use Rattle.msg_code.specs.declared.unit.Batch.{Batch}
use Rattle.plan_types.specs.declared.machine.Machine.{Machine}
use Rattle.plan_types.specs.declared.plan.ReadEnd.{ReadEnd}
use Rattle.section_feed.specs.declared.section.SectionStream.{SectionStream}
use Rattle.section_feed.specs.Sections.{next_of}
use Rattle.step_feed.specs.Pacing.{Release, batch_at}
use Rattle.step_feed.specs.Units.{StepUnit}
use Rattle.plan_types.specs.declared.plan.Held.{Held}
use Rattle.plan_types.specs.Sections.{clocks_at}
use Rattle.motion_work.specs.Known.{AreHeldBy}
use Rattle.motion_work.specs.Begins.{done_news, news_items}
use Rattle.motion_work.specs.Feeds.{batches_at, units_at}
use Rattle.motion_work.specs.Seen.{IsOpen, Started, ready_after}
use Rattle.motion_work.specs.Told.{Told}
use Rattle.motion_work.specs.Turns.{done_notes}
use Rattle.motion_work.proofs.Putting.{same_on}
use Rattle.motion_work.proofs.Turning.{done_are, none_behind, open_next, ready_more}
use Rattle.motion_work.specs.declared.told.BoardLine.{BoardLine}
use Rattle.motion_stream.specs.declared.course.BoardLines.{BoardLines}
use Rattle.motion_stream.specs.declared.course.Course.{Course}
use Rattle.motion_stream.specs.declared.course.Open.{Open}
use Rattle.motion_stream.specs.declared.course.Open.TheVariants as opens
use Rattle.motion_stream.proofs.Rowing.{row_first}
use Rattle.motion_stream.proofs.Laid.{laid_later}
use Rattle.motion_stream.specs.Courses.{AreAhead, IsCourseBy, IsCourseOf, BeginsNoEarlier, IsGoing, IsGoingOn, IsIdle, IsLater, KnowsConnecting, IsUptake, row_at}
use Rattle.motion_stream.specs.Rows.{batches_of, units_in}
use Rattle.motion_stream.specs.Puts.{SectionsGoOn}
use Rattle.motion_stream.specs.Seen.{AreWhole, Going, Seen, count_of, items_read}
use Rattle.motion_stream.specs.Steps.{Advances, HasPassed, IsFed, IsPassed}
use Rattle.motion_stream.specs.Texts.{IsSourceOf}
use Rattle.plan_types.proofs.Facts.{true_false, some_same, none_some}

-- the boards of sections
abbrev pub boards_in_all : List Started → List (List (List Release))
boards_in_all begun = map (λ s. s.boards) begun

-- the units of one section more
pub units_snoc : (begun : List Started) (s : Started) (b k : ℕ) → units_at b k (boards_in_all (begun ++ s ∷ [])) ≡ units_at b k (boards_in_all begun) ++ batch_at k (slice_index_or s.boards b [])
units_snoc begun s b k =
    let f : List (List Release) → List StepUnit = λ x. batch_at k (slice_index_or x b []) in
    let old = boards_in_all begun in
    ap (flat_map f) (map-append (λ (x : Started). x.boards) begun (s ∷ [])) ∙ flat_map-append f old (s.boards ∷ []) ∙ ap (λ x. flat_map f old ++ x) (append-nil (f s.boards))

-- rows in the next turn
pub ahead_next : (m : Machine) (rows more : List (List (List StepUnit))) (next later : ℕ) (begun : List Started) → more ≡ drop 1 rows → later ≡ next + 1 → AreAhead m rows next begun → AreAhead m more later begun
ahead_next m rows more next later begun is at h = record {
  units = λ i b lt. ap (λ k. units_at b k (boards_in_all begun)) (let e : later + i ≡ next + (i + 1) = omega (arith, at) in e) ∙ h.units (i + 1) b lt
      ∙ sym (ap (λ rs. row_at rs i b) is ∙ row_first rows i b);
}

-- the batches of a turn
pub batches_are : (m : Machine) (k : ℕ) (front own : List (List StepUnit)) (sections : List (List (List Release))) (batches : List Batch) → batches ≡ batches_of (length m.boards) k front own
    → ((b : ℕ) → b < length m.boards → units_in front b ++ units_in own b ≡ units_at b k sections) → batches ≡ batches_at (length m.boards) k sections
batches_are m k front own sections batches is same =
    let B : List StepUnit → Batch = λ us. record { turn = k; units = us; end = false } in
    is ∙ same_on (λ b. B (units_in front b ++ units_in own b)) (λ b. B (units_at b k sections)) 0 (length m.boards) (length m.boards) (omega arith) (λ b lt. ap B (same b lt))

pub front_units : (m : Machine) (rows : List (List (List StepUnit))) (k b : ℕ) (begun : List Started) → AreAhead m rows k begun → b < length m.boards → units_in (slice_index_or rows 0 []) b ≡ units_at b k (boards_in_all begun)
front_units m rows k b begun h lt = sym (h.units 0 b lt) ∙ ap (λ x. units_at b x (boards_in_all begun)) (let e : k + 0 ≡ k = omega arith in e)

pub no_units : (b : ℕ) → units_in [] b ≡ []
no_units zero = refl
no_units (suc b) = refl

-- whole sections where none goes on
pub whole_none : (m : Machine) (told : Option Told) (next : ℕ) (begun all : List Started) (going : Option Going) → going ≡ None → AreWhole m told next begun going all → all ≡ begun
whole_none m told next begun all None e h = h
whole_none m told next begun all (Some g) e h = absurd (none_some g (sym e))

-- what is the same behind a turn
pub record IsKept (old new : Course) : Type 0 where
  pub source : new.source ≡ old.source
  pub read : new.read ≡ old.read
  pub connected : new.connected ≡ old.connected
  pub lines : new.lines ≡ old.lines
  pub place : new.place ≡ old.place

pub told_kept : (m : Machine) (old new : Course) (told : Option Told) (begun : List Started) (going : Option Going) → IsKept old new → new.ready ≡ old.ready → old.next ≤ new.next → KnowsConnecting m old told begun going → KnowsConnecting m new told begun going
told_kept m old new None begun going kept ready later h = (kept.connected ∙ h.0, h.1, h.2)
told_kept m old new (Some t) begun going kept ready later h = record {
  connected = kept.connected ∙ h.connected;
  lines = ap (λ x. x.each.items) kept.lines ∙ h.lines;
  ready = λ e. ready ∙ h.ready e;
  started = h.started;
  sent = h.sent;
  clocks = h.clocks;
  laid = laid_later m t.clocks (old.next + 268) (new.next + 268) begun (omega (arith, later)) h.laid;
  first = h.first;
  late = h.late;
}

-- the next section starts later
later_fed : (k ready : ℕ) (end : Option ReadEnd) (its : List Item) → (end ≡ None → its ≡ [] → k + 261 ≤ ready) → IsLater (k + 260) (k + 260) ready end its → IsLater (k + 260) (k + 261) ready end its
later_fed k ready None [] fed h = fed refl refl
later_fed k ready (Some e) [] fed h = tt
later_fed k ready None (items.Begin kind dwell ∷ its) fed h = h
later_fed k ready (Some e) (items.Begin kind dwell ∷ its) fed h = h
later_fed k ready None (items.Move one ∷ its) fed h = tt
later_fed k ready (Some e) (items.Move one ∷ its) fed h = tt
later_fed k ready None (items.End ∷ its) fed h = tt
later_fed k ready (Some e) (items.End ∷ its) fed h = tt

pub later_easy : (turn free ready : ℕ) (end : Option ReadEnd) (its : List Item) → turn ≤ ready → free ≤ ready → IsLater turn free ready end its
later_easy turn free ready None [] le lf = lf
later_easy turn free ready (Some e) [] le lf = tt
later_easy turn free ready None (items.Begin kind dwell ∷ its) le lf = omega (arith, le)
later_easy turn free ready (Some e) (items.Begin kind dwell ∷ its) le lf = omega (arith, le)
later_easy turn free ready None (items.Move one ∷ its) le lf = tt
later_easy turn free ready (Some e) (items.Move one ∷ its) le lf = tt
later_easy turn free ready None (items.End ∷ its) le lf = tt
later_easy turn free ready (Some e) (items.End ∷ its) le lf = tt

-- what waits to be taken up, where the lines are the same
pub uptake_kept : (old new : Course) (free later : ℕ) (fresh : List BoardLine) → new.connected ≡ old.connected → new.lines ≡ old.lines → later ≡ free → IsUptake old free fresh → IsUptake new later fresh
uptake_kept old new free later fresh on same at u = record {
  waiting = ap (λ x. x.waiting.items) same ∙ u.waiting;
  none = λ off. u.none (sym on ∙ off);
  held =
      let Held_by : BoardLines → Type 0 = λ x. (b : ℕ) → b < length x.each.items → AreHeldBy (free + 16) (clocks_at x.each.items b).held in
      let Until : ℕ → Type 0 = λ n. (b : ℕ) → b < length new.lines.each.items → AreHeldBy (n + 16) (clocks_at new.lines.each.items b).held in
      subst Until (sym at) (subst Held_by (sym same) u.held);
}

-- the lines that were taken up hold by later turns
pub held_later : (a b : ℕ) (held : List Held) → a ≤ b → AreHeldBy a held → AreHeldBy b held
held_later a b [] le h = tt
held_later a b (x ∷ held) le h = ((let early = h.0 in omega (arith, early, le)), held_later a b held le h.1)

-- where the next section does not start by turn k + 260, or has begun in the text
pub fed_on : (m : Machine) (c : Course) (seen : Seen) (k : ℕ) → c.next ≡ k → IsFed c k → IsCourseOf m c seen → IsCourseBy m c seen (k + 260) (k + 261)
fed_on m c seen k at fed h =
    let few = h.few in
    record {
      machine = h.machine;
      source = h.source;
      read = h.read;
      told = h.told;
      next = h.next;
      small = h.small;
      place = h.place;
      few = omega (arith, few, at);
      going = h.going;
      early = by c.current refl (subst (λ n. BeginsNoEarlier c.current (n + 260) (n + 260) c) at h.early);
      uptake = record { waiting = h.uptake.waiting; none = h.uptake.none; held = λ b lt. held_later (c.next + 260 + 16) (k + 261 + 16) (clocks_at c.lines.each.items b).held (omega (arith, at)) (h.uptake.held b lt) };
    }
  where
    by : (o : Open) → c.current ≡ o → BeginsNoEarlier o (k + 260) (k + 260) c → BeginsNoEarlier o (k + 260) (k + 261) c
    by opens.Nothing e early = λ on. later_fed k c.ready c.source.end c.source.items.items (fed e on) (early on)
    by (opens.Goes s homes) e early = early

-- what was seen behind a turn
abbrev pub behind : Seen → List Started → Option Going → Seen
behind seen begun going = record { text = seen.text; ended = seen.ended; read = seen.read; told = seen.told; fresh = seen.fresh; next = seen.next + 1; begun = begun; going = going }

pub course_on : (m : Machine) (old new : Course) (seen : Seen) (begun : List Started) (going : Option Going) (turn free : ℕ) → IsCourseBy m old seen turn free → IsKept old new → new.next ≡ old.next + 1 → old.next < 2 ^ 42
    → items_read begun going ≡ items_read seen.begun seen.going → KnowsConnecting m new seen.told begun going → count_of begun going ≡ count_of seen.begun seen.going → IsGoing m new.current new seen.told begun going → BeginsNoEarlier new.current turn free new
    → IsCourseBy m new (behind seen begun going) turn free
course_on m old new seen begun going turn free h kept next small same told count goes early =
    let place = h.few in
    let p = kept.place in
    record {
      machine = h.machine;
      source = subst (λ s. IsSourceOf m s seen.text seen.ended (items_read begun going)) (sym kept.source) (subst (λ (is : List Item). IsSourceOf m old.source seen.text seen.ended is) (sym same) h.source);
      read = kept.read ∙ h.read;
      told = told;
      next = next ∙ ap (λ n. n + 1) h.next;
      small = omega (arith, next, small);
      place = kept.place ∙ h.place ∙ sym count;
      few = omega (arith, place, p);
      going = goes;
      early = early;
      uptake = uptake_kept old new free free seen.fresh kept.connected kept.lines refl h.uptake;
    }

-- the same sections go on
pub same_go : (k : ℕ) (begun : List Started) (going : Option Going) → SectionsGoOn k begun going begun going
same_go k begun going = record { more = []; are = sym (append-nil begun); moves = tt; goes = λ g e. inr (g, e, refl, refl) }

-- no section goes on
pub idle_passed : (m : Machine) (old new : Course) (seen : Seen) (k : ℕ) (batches : List Batch) (done : Option NoteNews) → IsCourseBy m old seen (k + 260) (k + 261) → old.current ≡ opens.Nothing → new.current ≡ opens.Nothing → IsKept old new → new.ready ≡ old.ready
    → new.goes ≡ (old.goes && not (nat_eq old.ready (k + 260))) → new.next ≡ old.next + 1 → k ≡ old.next → old.next < 2 ^ 42 → new.ahead.items ≡ drop 1 old.ahead.items → batches ≡ batches_of (length m.boards) old.next (slice_index_or old.ahead.items 0 []) []
    → done ≡ done_news old.goes old.ready old.place k → (next : Seen) × IsPassed m seen next k batches done × IsCourseBy m new next (k + 260) (k + 261)
idle_passed m old new seen k batches done h nothing after kept ready goes next at small ahead are news =
    let idle : IsIdle m old seen.begun seen.going = subst (λ o. IsGoing m o old seen.told seen.begun seen.going) nothing h.going in
    let none = idle.none in
    let same : k ≡ seen.next = at ∙ h.next in
    let open_is : IsOpen old.goes k seen.begun = subst (λ n. IsOpen old.goes n seen.begun) (sym at) idle.goes in
    let last : (past : List Started) (s : Started) → seen.begun ≡ past ++ s ∷ [] → old.ready ≡ s.end + 260 = λ past s e. last_ready seen.told h.told past s e in
    let place : old.place ≡ length seen.begun = h.place ∙ ap (count_of seen.begun) none in
    let all_is : (n : ℕ) (all : List Started) → AreWhole m seen.told n seen.begun seen.going all → all ≡ seen.begun = λ n all w. whole_none m seen.told n seen.begun all seen.going none w in
    let ahead_is : AreAhead m old.ahead.items k seen.begun = subst (λ n. AreAhead m old.ahead.items n seen.begun) (sym at) idle.ahead in
    let early_old : old.connected ≡ true → IsLater (k + 260) (k + 261) old.ready old.source.end old.source.items.items = subst (λ o. BeginsNoEarlier o (k + 260) (k + 261) old) nothing h.early in (
      behind seen seen.begun seen.going,
      record {
        text = refl;
        ended = refl;
        read = refl;
        told = refl;
        fresh = refl;
        next = refl;
        sections = same_go k seen.begun seen.going;
        whole = λ all w. back seen.going none all w;
        batches_are = λ all w.
            batches_are m k (slice_index_or old.ahead.items 0 []) [] (boards_in_all all) batches (are ∙ ap (λ n. batches_of (length m.boards) n (slice_index_or old.ahead.items 0 []) []) (sym at))
            (λ b lt. ap (λ us. units_in (slice_index_or old.ahead.items 0 []) b ++ us) (no_units b) ∙ append-nil (units_in (slice_index_or old.ahead.items 0 []) b) ∙ front_units m old.ahead.items k b seen.begun ahead_is lt ∙ ap (λ x. units_at b k (boards_in_all x)) (sym (all_is (seen.next + 1) all w)));
        done_is = λ all w. ap news_items news ∙ done_are old.goes k old.ready old.place seen.begun open_is last place ∙ ap (done_notes k 0) (sym (all_is (seen.next + 1) all w));
      },
      course_on m old new seen seen.begun seen.going (k + 260) (k + 261) h kept next small refl (told_kept m old new seen.told seen.begun seen.going kept ready (omega (arith, next)) h.told) refl
          (subst (λ o. IsGoing m o new seen.told seen.begun seen.going) (sym after) (record {
            none = none;
            goes = subst (λ n. IsOpen new.goes n seen.begun) (ap (λ n. n + 1) at ∙ sym next) (subst (λ g. IsOpen g (k + 1) seen.begun) (sym goes) (open_next old.goes k old.ready seen.begun open_is last));
            ahead = ahead_next m old.ahead.items new.ahead.items old.next new.next seen.begun ahead next idle.ahead;
          }))
          (subst (λ o. BeginsNoEarlier o (k + 260) (k + 261) new) (sym after) (λ on.
          subst (λ s. IsLater (k + 260) (k + 261) new.ready s.end s.items.items) (sym kept.source) (subst (λ r. IsLater (k + 260) (k + 261) r old.source.end old.source.items.items) (sym ready)
          (early_old (sym kept.connected ∙ on))))),
    )
  where
    last_ready : (told : Option Told) → KnowsConnecting m old told seen.begun seen.going → (past : List Started) (s : Started) → seen.begun ≡ past ++ s ∷ [] → old.ready ≡ s.end + 260
    last_ready None t past s e = absurd (none_behind past s (sym t.1 ∙ e))
    last_ready (Some t) i past s e =
        let idle : IsIdle m old seen.begun seen.going = subst (λ o. IsGoing m o old seen.told seen.begun seen.going) nothing h.going in
        i.ready idle.none ∙ ap (ready_after t.first) e ∙ ready_more t.first past s

    back : (going : Option Going) → going ≡ None → (all : List Started) → AreWhole m seen.told (seen.next + 1) seen.begun going all → AreWhole m seen.told seen.next seen.begun going all
    back None e all w = w
    back (Some g) e all w = absurd (none_some g (sym e))

-- what passes
pub passed_kept : (m : Machine) (old new : Course) (own : List (List StepUnit)) (batches : List Batch) → HasPassed m old new own batches → IsKept old new
passed_kept m old new own batches p = record {
  source = ap (λ (c : Course). c.source) p.others;
  read = ap (λ (c : Course). c.read) p.others;
  connected = ap (λ (c : Course). c.connected) p.others;
  lines = ap (λ (c : Course). c.lines) p.others;
  place = ap (λ (c : Course). c.place) p.others;
}

pub kept_after : (a b c : Course) → IsKept a b → IsKept b c → IsKept a c
kept_after a b c h k = record {
  source = k.source ∙ h.source;
  read = k.read ∙ h.read;
  connected = k.connected ∙ h.connected;
  lines = k.lines ∙ h.lines;
  place = k.place ∙ h.place;
}

pub idle_by : (m : Machine) (old mid new : Course) (own : List (List StepUnit)) (seen : Seen) (k : ℕ) (batches : List Batch) (done : Option NoteNews) → HasPassed m mid new own batches → own ≡ [] → IsKept old mid → mid.ready ≡ old.ready → mid.goes ≡ (old.goes && not (nat_eq old.ready (k + 260))) → mid.current ≡ old.current
    → mid.ahead ≡ old.ahead → mid.next ≡ old.next → old.current ≡ opens.Nothing → k ≡ old.next → old.next < 2 ^ 42 → done ≡ done_news old.goes old.ready old.place k → IsCourseBy m old seen (k + 260) (k + 261) → (next : Seen) × IsPassed m seen next k batches done × IsCourseBy m new next (k + 260) (k + 261)
idle_by m old mid new own seen k batches done p nil kept ready goes current ahead next nothing at small news h =
    let e = p.others in
    idle_passed m old new seen k batches done h nothing (ap (λ (c : Course). c.current) e ∙ current ∙ nothing) (kept_after old mid new kept (passed_kept m mid new own batches p)) (ap (λ (c : Course). c.ready) e ∙ ready) (ap (λ (c : Course). c.goes) e ∙ goes) (ap (λ (c : Course). c.next) e ∙ ap (λ n. n + 1) next) at small
    (p.ahead ∙ ap (λ a. drop 1 a.items) ahead) (p.are ∙ ap (λ n. batches_of (length m.boards) n (slice_index_or mid.ahead.items 0 []) own) next ∙ ap (λ a. batches_of (length m.boards) old.next (slice_index_or a.items 0 []) own) ahead ∙ ap (batches_of (length m.boards) old.next (slice_index_or old.ahead.items 0 [])) nil) news

pub next_is : (m : Machine) (c : Course) (s : SectionStream) (homes : Bool) (told : Option Told) (begun : List Started) (going : Option Going) → IsGoingOn m s homes c told begun going → c.start ≤ c.next + 250 → next_of s ≡ c.next
next_is m c s homes told begun going i near = let n = i.next in let b = i.start_is in omega (arith, n, b, near)
