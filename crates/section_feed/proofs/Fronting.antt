-- The units that a board has released are the first ones of the section's.
use Rattle.std.proofs.Common.{◌≡◌, ℕ, ◌+◌, ◌*◌, ◌<◌, ◌≤◌, List, [], ◌∷◌, ◌++◌, All, length, get_or, drop, arith, ap, sym, ◌∙◌, subst, Bool, true, false, refl, append_assoc}
use Rattle.std.proofs.Math.Logic.{∥∥₁_map, ∥∥₁_elim, ∥∥₁_prop}
use Rattle.std.proofs.lemmas.List.{append-nil, drop_all}
use Rattle.std.proofs.lemmas.List.Elements.{All-append, All-nil}
use Rattle.plan_types.specs.declared.plan.Move.{Move}
use Rattle.plan_types.specs.Clock.{tick}
use Rattle.plan_types.specs.Lines.{Clocks}
use Rattle.plan_types.specs.Clock.{turn_ns}
use Rattle.plan_types.specs.declared.plan.Planned.{Planned}
use Rattle.plan_types.specs.Lines.{lines_tick, lines_turn}
use Rattle.plan_types.specs.Sections.{TimedPart, duration, end_time, timed, timed_moves}
use Rattle.plan_types.specs.Speeds.{greatest_speeds}
use Rattle.clock_line.specs.Kept.{AreKept}
use Rattle.clock_line.proofs.Holding.{tick-mono}
use Rattle.step_feed.specs.declared.stream.FeedStream.{FeedStream}
use Rattle.step_feed.specs.Units.{StepUnit}
use Rattle.step_feed.specs.Pacing.{Release, units_of}
use Rattle.step_feed.specs.Streams.{stream_start, slots_of}
use Rattle.section_units.specs.Fronts.{AreFirstOfBy}
use Rattle.section_units.specs.Sections.{steps_said, of_stepper}
use Rattle.plan_types.specs.Packing.{open_windows}
use Rattle.plan_types.specs.Plan.{max_error}
use Rattle.section_units.specs.Sent.{AreLongestOf}
use Rattle.section_units.proofs.Fronting.{first_front}
use Rattle.section_units.proofs.Longest.{longest_front}
use Rattle.section_stream.specs.declared.ready.Ready.{Ready}
use Rattle.section_stream.specs.declared.stepper.StepperStream.{StepperStream}
use Rattle.section_stream.specs.Looking.{IsFuture}
use Rattle.section_stream.specs.Moving.{given_count}
use Rattle.section_stream.specs.Steppers.{StepperKind, stepper_clocks, kind_of, known_of}
use Rattle.section_stream.proofs.Fronts.{future-here}
use Rattle.section_stream.proofs.Cutting.{given-longest}
use Rattle.section_stream.proofs.Keeping.{units-kept}
use Rattle.section_stream.proofs.Later.{rest-later}
use Rattle.section_stream.proofs.Staying.{moves-after, timed-after}
use Rattle.section_feed.specs.declared.board.BoardStream.{BoardStream}
use Rattle.section_feed.specs.declared.queue.MoveQueue.{MoveQueue}
use Rattle.section_feed.specs.declared.section.SectionStream.{SectionStream}
use Rattle.section_feed.specs.AllBoards.{ArePast, AreReleased}
use Rattle.section_feed.specs.Boards.{AreUpTo, IsUpTo}
use Rattle.section_feed.specs.Feeding.{AreFeeding, IsBoardOf, count_of, first_of, lines_of_board, slots_in, fed_time}
use Rattle.section_feed.specs.Fronts.{IsBoardFront, front_parts}
use Rattle.section_feed.specs.Ordering.{AreInOrderFrom, order_of}
use Rattle.section_feed.specs.Rests.{AreRested}
use Rattle.section_feed.specs.Queues.{IsDrawn, IsQueueOf, begin_in, cruise_in, drawn_to, is_taking, waiting_end, waiting_parts}
use Rattle.section_feed.specs.Sections.{IsSectionOf, boards_in, boards_of, queue_of, sets_of}
use Rattle.section_feed.specs.Sets.{BoardSet, goes_of, set_of}
use Rattle.section_feed.specs.Wholes.{IsReleased, IsSetTo, sent_plan}
use Rattle.section_feed.proofs.Lasts.{kept-lasting}
use Rattle.section_feed.proofs.Sectioning.{at-mapped}
use Rattle.section_units.proofs.Merging.{of_append}

-- of no units none are the first ones
pub none-front : (xs ys : List StepUnit) → xs ++ ys ≡ [] → xs ≡ []
none-front [] ys e = refl
none-front (x ∷ xs) ys e = absurd (clash e)
  where
    clash : x ∷ (xs ++ ys) ≡ [] → ⊥
    clash p = cc

order-front : (before : ℕ) (xs ys : List StepUnit) → AreInOrderFrom before (xs ++ ys) → AreInOrderFrom before xs
order-front before [] ys h = tt
order-front before (x ∷ xs) ys h = (h.0, order-front (order_of x) xs ys h.1)

-- parts that begin at a time or later
after-known : (clocks : Clocks) (goes : Bool) (time turn place : ℕ) (s : StepperStream) (more : List TimedPart) → IsUpTo clocks goes time turn place s → (goes ≡ false → more ≡ []) → All (λ t. time ≤ t.begin) more → All (λ t. known_of s ≤ tick (stepper_clocks s).first t.begin) more
after-known clocks true time turn place s more up none after = λ k d l. (
    let h = after k d l in
    let known : known_of s ≤ tick clocks.first time = up.known refl in
    let m = tick-mono clocks.first time (get_or more k d).begin h in
    subst (λ (c : Clocks). known_of s ≤ tick c.first (get_or more k d).begin) (sym up.clocks_are) (omega arith))
after-known clocks false time turn place s more up none after = rw (none refl) (All-nil (λ (t : TimedPart). known_of s ≤ tick (stepper_clocks s).first t.begin))

-- all units that a stepper has given are the first ones of its plan
pub one-pushed : (homing : Bool) (clocks : Clocks) (goes : Bool) (time turn : ℕ) (steppers : List StepperStream) (feed : FeedStream) (order freq : ℕ) (kinds : ℕ → StepperKind) (base : ℕ) (parts more : List TimedPart) (released : List Release) (d : StepperStream) (oid : ℕ) → oid < length steppers → AreUpTo clocks goes time turn steppers → (goes ≡ false → more ≡ []) → All (λ t. time ≤ t.begin) more
    → ((k : ℕ) → k < length steppers → IsSetTo homing freq base (kinds k)) → (f : AreFeeding steppers feed clocks order kinds base parts released) → AreFirstOfBy homing clocks freq oid base (sent_plan (kinds oid) clocks base (parts ++ more)) (of_stepper oid f.units)
one-pushed homing clocks goes time turn steppers feed order freq kinds base parts more released d oid h up none after set f =
    let one = get_or steppers oid d in
    let here = up.each oid d h in
    let kind = f.kinds_are.each oid d h in
    let given = f.given.each oid d h in
    let is = set oid h in
    let all = parts ++ more in
    let units = of_stepper oid f.units in
    let r = units-kept homing one freq base parts more given.out given.pieces units (ap (λ (k : StepperKind). k.reset) kind ∙ is.reset) (ap (λ (k : StepperKind). k.early) kind ∙ is.early) given.stepper (after-known clocks goes time turn oid one more here none after) in
    let a = subst (λ (k : Clocks). AreFirstOfBy homing k freq (kind_of one).oid base (sent_plan (kind_of one) k base all) units) here.clocks_are r in
    let b = subst (λ o. AreFirstOfBy homing clocks freq o base (sent_plan (kind_of one) clocks base all) units) here.number a in
    subst (λ (k : StepperKind). AreFirstOfBy homing clocks freq oid base (sent_plan k clocks base all) units) kind b

-- and their triples cover as many steps as one can
one-longest : (homing : Bool) (clocks : Clocks) (goes : Bool) (time turn : ℕ) (steppers : List StepperStream) (feed : FeedStream) (order freq : ℕ) (kinds : ℕ → StepperKind) (base : ℕ) (parts more : List TimedPart) (released : List Release) (d : StepperStream) (oid : ℕ) → oid < length steppers → AreUpTo clocks goes time turn steppers → (goes ≡ false → more ≡ []) → All (λ t. time ≤ t.begin) more
    → ((k : ℕ) → k < length steppers → IsSetTo homing freq base (kinds k)) → AreKept clocks → (f : AreFeeding steppers feed clocks order kinds base parts released) → AreLongestOf clocks freq base (sent_plan (kinds oid) clocks base (parts ++ more)) (of_stepper oid (units_of released))
one-longest homing clocks goes time turn steppers feed order freq kinds base parts more released d oid h up none after set kept f =
    let one = get_or steppers oid d in
    let here = up.each oid d h in
    let kind = f.kinds_are.each oid d h in
    let given = f.given.each oid d h in
    let is = set oid h in
    let all = parts ++ more in
    let units = of_stepper oid f.units in
    let packed = here.packed in
    let past = given.past in
    let r = given-longest one freq base 0 turn parts more given.out given.pieces units (ap (λ (k : StepperKind). k.early) kind ∙ is.early) given.stepper (after-known clocks goes time turn oid one more here none after)
    (subst AreKept (sym here.clocks_are) kept) here.caught_up given.in_turns (omega (arith, packed, past)) in
    let a = subst (λ (k : Clocks). AreLongestOf k freq base (sent_plan (kind_of one) k base all) units) here.clocks_are r in
    let b = subst (λ (k : StepperKind). AreLongestOf clocks freq base (sent_plan k clocks base all) units) kind a in
    let split : units ≡ of_stepper oid (units_of released) ++ of_stepper oid feed.waiting.items = ap (of_stepper oid) f.fed.pushed_is ∙ of_append oid (units_of released) feed.waiting.items in
    let plan = sent_plan (kinds oid) clocks base all in
    longest_front clocks base (open_windows (max_error freq) base plan) plan (of_stepper oid (units_of released)) (of_stepper oid feed.waiting.items) (subst (λ us. AreLongestOf clocks freq base plan us) split b)

-- the other steps of its plan are due in a turn or later
pub one-rested : (homing : Bool) (clocks : Clocks) (goes : Bool) (time turn : ℕ) (steppers : List StepperStream) (feed : FeedStream) (order freq low : ℕ) (kinds : ℕ → StepperKind) (base : ℕ) (parts more : List TimedPart) (released : List Release) (d : StepperStream) (oid : ℕ) → oid < length steppers → AreUpTo clocks goes time turn steppers → (goes ≡ false → more ≡ []) → All (λ t. time ≤ t.begin) more
    → ((k : ℕ) → k < length steppers → IsSetTo homing freq base (kinds k)) → AreKept clocks → AreRested low steppers → (f : AreFeeding steppers feed clocks order kinds base parts released)
    → All (λ q. low ≤ lines_turn clocks q.tick) (drop (length (steps_said oid false (of_stepper oid f.units))) (sent_plan (kinds oid) clocks base (parts ++ more)))
one-rested homing clocks goes time turn steppers feed order freq low kinds base parts more released d oid h up none after set kept rested f =
    let one = get_or steppers oid d in
    let here = up.each oid d h in
    let kind = f.kinds_are.each oid d h in
    let given = f.given.each oid d h in
    let is = set oid h in
    let all = parts ++ more in
    let units = of_stepper oid f.units in
    let rest = rested.each oid d h in
    let same = sym here.clocks_are in
    let r = rest-later homing one freq base rest.turn low parts more given.out given.pieces units (ap (λ (k : StepperKind). k.reset) kind ∙ is.reset) (ap (λ (k : StepperKind). k.early) kind ∙ is.early) given.stepper (after-known clocks goes time turn oid one more here none after)
    (subst AreKept same kept) rest.caught rest.late rest.start in
    let P : Clocks → ℕ → StepperKind → Type 0 = λ k o kd. All (λ (q : Planned). low ≤ lines_turn k q.tick) (drop (length (steps_said o false units)) (sent_plan kd k base all)) in
    let a : P clocks (kind_of one).oid (kind_of one) = subst (λ (k : Clocks). P k (kind_of one).oid (kind_of one)) here.clocks_are r in
    let b : P clocks oid (kind_of one) = subst (λ o. P clocks o (kind_of one)) here.number a in
    subst (λ (k : StepperKind). P clocks oid k) kind b

one-front : (homing : Bool) (clocks : Clocks) (goes : Bool) (time turn : ℕ) (steppers : List StepperStream) (feed : FeedStream) (order freq : ℕ) (kinds : ℕ → StepperKind) (base : ℕ) (parts more : List TimedPart) (released : List Release) (d : StepperStream) (oid : ℕ) → oid < length steppers → AreUpTo clocks goes time turn steppers → (goes ≡ false → more ≡ []) → All (λ t. time ≤ t.begin) more
    → ((k : ℕ) → k < length steppers → IsSetTo homing freq base (kinds k)) → AreFeeding steppers feed clocks order kinds base parts released → AreFirstOfBy homing clocks freq oid base (sent_plan (kinds oid) clocks base (parts ++ more)) (of_stepper oid (units_of released))
one-front homing clocks goes time turn steppers feed order freq kinds base parts more released d oid h up none after set f =
    let all = parts ++ more in
    let units = of_stepper oid f.units in
    let c = one-pushed homing clocks goes time turn steppers feed order freq kinds base parts more released d oid h up none after set f in
    let split : units ≡ of_stepper oid (units_of released) ++ of_stepper oid feed.waiting.items = ap (of_stepper oid) f.fed.pushed_is ∙ of_append oid (units_of released) feed.waiting.items in
    first_front homing clocks freq oid base (sent_plan (kinds oid) clocks base all) (of_stepper oid (units_of released)) (of_stepper oid feed.waiting.items) (subst (λ us. AreFirstOfBy homing clocks freq oid base (sent_plan (kinds oid) clocks base all) us) split c)

fed-front : (homing : Bool) (clocks : Clocks) (goes : Bool) (time turn : ℕ) (steppers : List StepperStream) (feed : FeedStream) (order freq : ℕ) (kinds : ℕ → StepperKind) (base : ℕ) (parts more : List TimedPart) (released : List Release) → AreUpTo clocks goes time turn steppers → (goes ≡ false → more ≡ []) → All (λ t. time ≤ t.begin) more
    → ((k : ℕ) → k < length steppers → IsSetTo homing freq base (kinds k)) → AreKept clocks → AreFeeding steppers feed clocks order kinds base parts released → IsBoardFront homing clocks freq (slots_of feed) (stream_start feed) base kinds (length steppers) (parts ++ more) released
fed-front homing clocks goes time turn steppers feed order freq kinds base parts more released up none after set kept f = record {
  units = λ oid h. each steppers oid h refl;
  others = λ oid h. none-front (of_stepper oid (units_of released)) (of_stepper oid feed.waiting.items) (sym (ap (of_stepper oid) f.fed.pushed_is ∙ of_append oid (units_of released) feed.waiting.items) ∙ f.given.others oid h);
  in_order = order-front 0 (units_of released) feed.waiting.items (subst (AreInOrderFrom 0) f.fed.pushed_is f.in_order);
  longest = λ oid h. long steppers oid h refl;
  paced = f.fed.paced;
}
  where
    each : (ss : List StepperStream) (oid : ℕ) → oid < length ss → ss ≡ steppers → AreFirstOfBy homing clocks freq oid base (sent_plan (kinds oid) clocks base (parts ++ more)) (of_stepper oid (units_of released))
    each [] oid h is = absurd (omega arith)
    each (s ∷ ss) oid h is = one-front homing clocks goes time turn steppers feed order freq kinds base parts more released s oid (subst (λ (xs : List StepperStream). oid < length xs) is h) up none after set f

    long : (ss : List StepperStream) (oid : ℕ) → oid < length ss → ss ≡ steppers → AreLongestOf clocks freq base (sent_plan (kinds oid) clocks base (parts ++ more)) (of_stepper oid (units_of released))
    long [] oid h is = absurd (omega arith)
    long (s ∷ ss) oid h is = one-longest homing clocks goes time turn steppers feed order freq kinds base parts more released s oid (subst (λ (xs : List StepperStream). oid < length xs) is h) up none after set kept f

pub board-front : (homing : Bool) (b : BoardStream) (freq : ℕ) (kinds : ℕ → StepperKind) (base : ℕ) (parts more : List TimedPart) (released : List Release) → (goes_of b ≡ false → more ≡ []) → All (λ t. fed_time b ≤ t.begin) more
    → ((k : ℕ) → k < count_of b → IsSetTo homing freq base (kinds k)) → IsBoardOf b kinds base parts released → ∥ IsBoardFront homing (lines_of_board b) freq (slots_in b) (first_of b) base kinds (count_of b) (parts ++ more) released ∥₁
board-front homing b freq kinds base parts more released none after set was =
    ∥∥₁_elim b.up_to ∥∥₁_prop (λ up. ∥∥₁_map was (fed-front homing b.lines b.goes b.time b.turn b.steppers.items b.feed b.order freq kinds base parts more released up none after set (kept-lasting b.lines b.lasting)))

-- the moves that wait begin when those end that were drawn
pub waiting-later : (t low : ℕ) (rs : List Ready) → low ≤ t → low ≤ waiting_end t rs
waiting-later t low [] h = h
waiting-later t low (r ∷ rs) h = waiting-later (t + duration r.parts) low rs (omega arith)

waiting-after : (t low : ℕ) (rs : List Ready) → low ≤ t → All (λ p. low ≤ p.begin) (waiting_parts t rs)
waiting-after t low [] h = All-nil (λ (p : TimedPart). low ≤ p.begin)
waiting-after t low (r ∷ rs) h = All-append (λ (p : TimedPart). low ≤ p.begin) (timed r.one 0 t r.parts) (waiting_parts (t + duration r.parts) rs) (timed-after r.one 0 t low r.parts h) (waiting-after (t + duration r.parts) low rs (omega arith))

-- what comes behind the parts that were drawn
pub record AreLeft (q : MoveQueue) (scv : ℕ) (all : List Move) (parts more : List TimedPart) : Type 0 where
  pub whole : timed_moves (cruise_in q) all (greatest_speeds all scv) (begin_in q) ≡ parts ++ more
  pub after : All (λ t. drawn_to q ≤ t.begin) more
  pub none : IsDrawn q → more ≡ []

no-ready : (rs : List Ready) (t : ℕ) → length rs ≡ 0 → waiting_parts t rs ≡ []
no-ready [] t h = refl
no-ready (r ∷ rs) t h = absurd (omega arith)

pub queue-left : (q : MoveQueue) (scv : ℕ) (moves all : List Move) (parts : List TimedPart) → IsQueueOf q scv moves parts → IsFuture (is_taking q) moves all → (more : List TimedPart) × AreLeft q scv all parts more
queue-left q scv moves all parts h future =
    let count = given_count q.moves in
    let time = q.moves.time in
    let left = drop count all in
    let speeds = drop count (greatest_speeds all scv) in
    let rest = timed_moves q.moves.cruise left speeds time in
    let waits = waiting_parts q.drawn q.ready.items in
    let front = (h.moves_are.front all future).parts_are in
    let low : q.drawn ≤ time = (let e = h.ends in let w = waiting-later q.drawn q.drawn q.ready.items (omega arith) in omega arith) in (
      waits ++ rest,
      record {
        whole = front ∙ ap (λ ps. ps ++ rest) h.split ∙ append_assoc parts waits rest;
        after = All-append (λ (t : TimedPart). q.drawn ≤ t.begin) waits rest (waiting-after q.drawn q.drawn q.ready.items (omega arith)) (moves-after q.moves.cruise left speeds time q.drawn low);
        none = λ drawn. (
            let same : all ≡ moves = subst (λ (g : Bool). IsFuture g moves all) drawn.over future in
            let given = drawn.given in
            let pushed = h.moves_are.pushed_is in
            let none : left ≡ [] = drop_all count all (let l = ap (λ (ms : List Move). length ms) same in omega arith) in
            ap (λ ws. ws ++ rest) (no-ready q.ready.items q.drawn drawn.none) ∙ ap (λ ms. timed_moves q.moves.cruise ms speeds time) none);
      },
    )

pub section-front : (homing : Bool) (s : SectionStream) (scv : ℕ) (moves all : List Move) (kinds : ℕ → ℕ → StepperKind) (base : ℕ → ℕ) (released : ℕ → List Release) (b freq : ℕ) (d : BoardSet) → IsSectionOf s scv moves kinds base released → IsFuture (is_taking (queue_of s)) moves all → b < boards_of s
    → ((k : ℕ) → k < (get_or (sets_of s) b d).count → IsSetTo homing freq (base b) (kinds b k))
    → ∥ IsBoardFront homing (get_or (sets_of s) b d).clocks freq (get_or (sets_of s) b d).slots (get_or (sets_of s) b d).first (base b) (kinds b) (get_or (sets_of s) b d).count (front_parts s scv all) (released b) ∥₁
section-front homing s scv moves all kinds base released b freq d h future inside set = go s.boards.items refl
  where
    go : (boards : List BoardStream) → boards ≡ s.boards.items → ∥ IsBoardFront homing (get_or (sets_of s) b d).clocks freq (get_or (sets_of s) b d).slots (get_or (sets_of s) b d).first (base b) (kinds b) (get_or (sets_of s) b d).count (front_parts s scv all) (released b) ∥₁
    go [] is = absurd (let l = ap (λ (bs : List BoardStream). length bs) is in omega arith)
    go (x ∷ xs) is =
        let one = get_or s.boards.items b x in
        let left = queue-left s.queue scv moves all h.parts h.queue future in
        let own = left.1 in
        let at : get_or (sets_of s) b d ≡ set_of one = at-mapped s.boards.items b d x inside in
        let time = h.boards.times b x inside in
        let r = board-front homing one freq (kinds b) (base b) h.parts left.0 (released b) (λ over. own.none (s.ended.each b x inside over)) (subst (λ (t : ℕ). All (λ p. t ≤ p.begin) left.0) (sym time) own.after)
        (λ k l. set k (subst (λ (st : BoardSet). k < st.count) (sym at) l)) (h.boards.each b x inside) in
        let here = subst (λ ps. ∥ IsBoardFront homing (lines_of_board one) freq (slots_in one) (first_of one) (base b) (kinds b) (count_of one) ps (released b) ∥₁) (sym own.whole) r in
        subst (λ (st : BoardSet). ∥ IsBoardFront homing st.clocks freq st.slots st.first (base b) (kinds b) st.count (front_parts s scv all) (released b) ∥₁) (sym at) here

-- all moves were drawn
pub drawn-parts : (s : SectionStream) (scv : ℕ) (moves : List Move) (kinds : ℕ → ℕ → StepperKind) (base : ℕ → ℕ) (released : ℕ → List Release) (h : IsSectionOf s scv moves kinds base released) → IsDrawn (queue_of s) → h.parts ≡ front_parts s scv moves
drawn-parts s scv moves kinds base released h drawn =
    let left = queue-left s.queue scv moves moves h.parts h.queue (future-here (is_taking s.queue) moves) in
    sym (left.1.whole ∙ ap (λ ps. h.parts ++ ps) (left.1.none drawn) ∙ append-nil h.parts)

waiting-none : (rs : List Ready) (t : ℕ) → length rs ≡ 0 → waiting_end t rs ≡ t
waiting-none [] t h = refl
waiting-none (r ∷ rs) t h = absurd (omega arith)

pub drawn-time : (s : SectionStream) (scv : ℕ) (moves : List Move) (kinds : ℕ → ℕ → StepperKind) (base : ℕ → ℕ) (released : ℕ → List Release) → IsSectionOf s scv moves kinds base released → IsDrawn (queue_of s) → drawn_to (queue_of s) ≡ end_time (cruise_in (queue_of s)) moves (greatest_speeds moves scv) (begin_in (queue_of s))
drawn-time s scv moves kinds base released h drawn =
    let q = s.queue in
    let count = given_count q.moves in
    let pushed = h.queue.moves_are.pushed_is in
    let given = drawn.given in
    let none : drop count moves ≡ [] = drop_all count moves (omega arith) in
    let front = (h.queue.moves_are.front moves (future-here (is_taking q) moves)).end_is in
    sym (waiting-none q.ready.items q.drawn drawn.none) ∙ sym h.queue.ends ∙ sym (front ∙ ap (λ ms. end_time q.moves.cruise ms (drop count (greatest_speeds moves scv)) q.moves.time) none)

pub section-released : (homing : Bool) (s : SectionStream) (scv : ℕ) (moves : List Move) (kinds : ℕ → ℕ → StepperKind) (base : ℕ → ℕ) (released : ℕ → List Release) (b freq : ℕ) (d : BoardSet) → IsSectionOf s scv moves kinds base released → IsDrawn (queue_of s) → AreReleased (boards_in s) → b < boards_of s
    → ((k : ℕ) → k < (get_or (sets_of s) b d).count → IsSetTo homing freq (base b) (kinds b k))
    → ∥ IsReleased homing (get_or (sets_of s) b d).clocks freq (get_or (sets_of s) b d).slots (get_or (sets_of s) b d).first (base b) (kinds b) (get_or (sets_of s) b d).count (front_parts s scv moves) (released b) ∥₁
section-released homing s scv moves kinds base released b freq d h drawn all inside set = go s.boards.items refl
  where
    go : (boards : List BoardStream) → boards ≡ s.boards.items → ∥ IsReleased homing (get_or (sets_of s) b d).clocks freq (get_or (sets_of s) b d).slots (get_or (sets_of s) b d).first (base b) (kinds b) (get_or (sets_of s) b d).count (front_parts s scv moves) (released b) ∥₁
    go [] is = absurd (let l = ap (λ (bs : List BoardStream). length bs) is in omega arith)
    go (x ∷ xs) is =
        let one = get_or s.boards.items b x in
        let at : get_or (sets_of s) b d ≡ set_of one = at-mapped s.boards.items b d x inside in
        let r = all.each b x inside homing freq (kinds b) (base b) h.parts (released b) (λ k l. set k (subst (λ (st : BoardSet). k < st.count) (sym at) l)) (h.boards.each b x inside) in
        let here = subst (λ ps. ∥ IsReleased homing (lines_of_board one) freq (slots_in one) (first_of one) (base b) (kinds b) (count_of one) ps (released b) ∥₁) (drawn-parts s scv moves kinds base released h drawn) r in
        subst (λ (st : BoardSet). ∥ IsReleased homing st.clocks freq st.slots st.first (base b) (kinds b) st.count (front_parts s scv moves) (released b) ∥₁) (sym at) here

pub section-past : (s : SectionStream) (scv : ℕ) (moves : List Move) (kinds : ℕ → ℕ → StepperKind) (base : ℕ → ℕ) (released : ℕ → List Release) (b turn oid later : ℕ) (d : BoardSet) → IsSectionOf s scv moves kinds base released → IsDrawn (queue_of s) → ArePast turn (boards_in s) → b < boards_of s
    → oid < (get_or (sets_of s) b d).count → turn < later → All (λ q. q.tick < lines_tick (get_or (sets_of s) b d).clocks (later * turn_ns)) (sent_plan (kinds b oid) (get_or (sets_of s) b d).clocks (base b) (front_parts s scv moves))
section-past s scv moves kinds base released b turn oid later d h drawn past inside own after = go s.boards.items refl
  where
    go : (boards : List BoardStream) → boards ≡ s.boards.items → All (λ q. q.tick < lines_tick (get_or (sets_of s) b d).clocks (later * turn_ns)) (sent_plan (kinds b oid) (get_or (sets_of s) b d).clocks (base b) (front_parts s scv moves))
    go [] is = absurd (let l = ap (λ (bs : List BoardStream). length bs) is in omega arith)
    go (x ∷ xs) is =
        let one = get_or s.boards.items b x in
        let at : get_or (sets_of s) b d ≡ set_of one = at-mapped s.boards.items b d x inside in
        let r = (past.each b x inside).within (kinds b) (base b) h.parts (released b) (h.boards.each b x inside) oid (subst (λ (st : BoardSet). oid < st.count) at own) later after in
        let here = subst (λ ps. All (λ (q : Planned). q.tick < lines_tick (lines_of_board one) (later * turn_ns)) (sent_plan (kinds b oid) (lines_of_board one) (base b) ps)) (drawn-parts s scv moves kinds base released h drawn) r in
        subst (λ (st : BoardSet). All (λ (q : Planned). q.tick < lines_tick st.clocks (later * turn_ns)) (sent_plan (kinds b oid) st.clocks (base b) (front_parts s scv moves))) (sym at) here
