-- The turn in which a section ends.
use Rattle.std.proofs.Common.{◌≡◌, Option, Some, None, ℕ, zero, suc, ◌+◌, ◌*◌, ◌/◌, ◌<◌, ◌≤◌, Bool, true, eqb, max, List, [], ◌∷◌, length, map, get_or, arith, ap, sym, ◌∙◌, refl, subst, inl, inr, drop}
use Rattle.std.proofs.lemmas.Bool.{eq-eqb}
use Rattle.std.proofs.lemmas.Bool.Decides.{eqb_tells}
use Rattle.std.proofs.lemmas.List.FromFn.{get_or-map-range_with_len, length-map-range_with_len}
use Rattle.std.specs.List.{range_with_len}
use Rattle.step_ticks.specs.Streaming.{last_step_tick}
use Rattle.plan_types.specs.declared.machine.Machine.{Machine}
use Rattle.plan_types.specs.declared.machine.StepperDef.{StepperDef}
use Rattle.plan_types.specs.declared.plan.Move.{Move}
use Rattle.plan_types.specs.declared.plan.Planned.{Planned}
use Rattle.plan_types.specs.Clock.{turn_ns}
use Rattle.plan_types.specs.Lines.{Clocks, lines_tick, lines_turn}
use Rattle.plan_types.specs.Machines.{no_stepper, stepper_at}
use Rattle.plan_types.specs.Plan.{planned_steps}
use Rattle.plan_types.specs.Sections.{clocks_at, duration, end_time, for_each_stepper, last_turn, latest, section_end, section_parts, section_plans, segment_of, stepper_end, stepper_plan, timed_moves}
use Rattle.plan_types.specs.Speeds.{greatest_speeds}
use Rattle.step_feed.specs.Pacing.{Release}
use Rattle.section_units.specs.Merged.{plan_at}
use Rattle.section_units.specs.Plans.{board_plans}
use Rattle.section_units.specs.Units.{as_sent}
use Rattle.section_stream.specs.Looking.{IsFuture}
use Rattle.section_stream.specs.Moving.{given_count}
use Rattle.section_stream.specs.declared.stepper.StepperStream.{StepperStream}
use Rattle.section_stream.specs.Pieces.{IsLastOf}
use Rattle.section_stream.specs.Steppers.{packed_step}
use Rattle.section_stream.proofs.Stretches.{last-sent}
use Rattle.section_feed.specs.declared.board.BoardStream.{BoardStream}
use Rattle.section_feed.specs.declared.section.SectionStream.{SectionStream}
use Rattle.section_feed.specs.AllBoards.{ArePast, latest_packed}
use Rattle.section_feed.specs.Feeding.{count_of, lines_of_board}
use Rattle.section_feed.specs.Fronts.{front_parts}
use Rattle.section_feed.specs.Kinds.{board_kinds, steppers_on}
use Rattle.section_feed.specs.On.{IsSectionOn}
use Rattle.section_feed.specs.Queues.{IsDrawn, drawn_to, is_taking, settled_to}
use Rattle.section_feed.specs.Released.{last_in, steppers_in}
use Rattle.section_feed.specs.Sections.{boards_in, boards_of, queue_of}
use Rattle.section_feed.specs.Sets.{BoardSet, set_of, start_set}
use Rattle.section_feed.specs.Wholes.{sent_plan, turn_where}
use Rattle.section_feed.proofs.Fronting.{drawn-parts, drawn-time}
use Rattle.section_feed.proofs.Lasting.{latest-from, latest-within}
use Rattle.section_feed.proofs.Sectioning.{at-mapped}

-- the stepper at a place of a machine has a place among those of its board
pub record HasPlace (ss own : List StepperDef) (s : ℕ) : Type 0 where
  pub place : ℕ
  pub inside : place < length own
  pub same : get_or own place no_stepper ≡ get_or ss s no_stepper

place-first : (x : StepperDef) (ss own : List StepperDef) → HasPlace (x ∷ ss) (x ∷ own) 0
place-first x ss own = record { place = 0; inside = omega arith; same = refl }

place-later : (x : StepperDef) (ss own : List StepperDef) (s : ℕ) → HasPlace ss own s → HasPlace (x ∷ ss) (x ∷ own) (suc s)
place-later x ss own s r = record { place = suc r.place; inside = (let i = r.inside in omega arith); same = r.same }

place-other : (x : StepperDef) (ss own : List StepperDef) (s : ℕ) → HasPlace ss own s → HasPlace (x ∷ ss) own (suc s)
place-other x ss own s r = record { place = r.place; inside = r.inside; same = r.same }

pub has-place : (b : ℕ) (ss : List StepperDef) (s : ℕ) → s < length ss → (get_or ss s no_stepper).board ≡ b → HasPlace ss (steppers_on b ss) s
has-place b [] s h own = absurd (omega arith)
has-place b (x ∷ ss) zero h own = let t : eqb x.board b ≡ true = eq-eqb x.board b own in rw t (place-first x ss (steppers_on b ss))
has-place b (x ∷ ss) (suc s) h own =
    let r = has-place b ss s (omega arith) own in
    elim (eqb_tells x.board b) [ inl p ↦ rw p.0 (place-later x ss (steppers_on b ss) s r) | inr p ↦ rw p.0 (place-other x ss (steppers_on b ss) s r) ]

-- and each of a board's steppers is one of the machine's, with its plan
pub record HasNumber (b : ℕ) (ss : List StepperDef) (plans : List (List Planned)) (own : List StepperDef) (others : List (List Planned)) (k : ℕ) : Type 0 where
  pub number : ℕ
  pub inside : number < length ss
  pub board : (get_or ss number no_stepper).board ≡ b
  pub same : get_or own k no_stepper ≡ get_or ss number no_stepper
  pub plan : plan_at others k ≡ as_sent (get_or ss number no_stepper).inverted (get_or plans number [])

number-next : (b : ℕ) (x : StepperDef) (ss : List StepperDef) (p : List Planned) (plans : List (List Planned)) (own : List StepperDef) (others : List (List Planned)) (j k : ℕ) (y : StepperDef) (q : List Planned) → HasNumber b ss plans own others j → get_or own j no_stepper ≡ y → plan_at others j ≡ q → (own' : List StepperDef) (others' : List (List Planned)) → get_or own' k no_stepper ≡ y → plan_at others' k ≡ q → HasNumber b (x ∷ ss) (p ∷ plans) own' others' k
number-next b x ss p plans own others j k y q r own_is plan_is own' others' e f = record {
  number = suc r.number;
  inside = (let i = r.inside in omega arith);
  board = r.board;
  same = e ∙ sym own_is ∙ r.same;
  plan = f ∙ sym plan_is ∙ r.plan;
}

number-first : (b : ℕ) (x : StepperDef) (ss : List StepperDef) (p : List Planned) (plans : List (List Planned)) (own : List StepperDef) (others : List (List Planned)) (k : ℕ) → k < length (x ∷ own) → x.board ≡ b → ((j : ℕ) → j < length own → HasNumber b ss plans own others j) → HasNumber b (x ∷ ss) (p ∷ plans) (x ∷ own) (as_sent x.inverted p ∷ others) k
number-first b x ss p plans own others zero h is all = record { number = 0; inside = omega arith; board = is; same = refl; plan = refl }
number-first b x ss p plans own others (suc k) h is all = number-next b x ss p plans own others k (suc k) (get_or own k no_stepper) (plan_at others k) (all k (omega arith)) refl refl (x ∷ own) (as_sent x.inverted p ∷ others) refl refl

pub has-number : (b : ℕ) (ss : List StepperDef) (plans : List (List Planned)) (k : ℕ) → length plans ≡ length ss → k < length (steppers_on b ss) → HasNumber b ss plans (steppers_on b ss) (board_plans b ss plans) k
has-number b [] plans k long h = absurd (omega arith)
has-number b (x ∷ ss) [] k long h = absurd (omega arith)
has-number b (x ∷ ss) (p ∷ plans) k long h =
    elim (eqb_tells x.board b) [
      | inl q ↦ (let h' = rw q.0 at h in rw q.0 (number-first b x ss p plans (steppers_on b ss) (board_plans b ss plans) k h' q.1 (λ j l. has-number b ss plans j (omega arith) l)))
      | inr q ↦ (let h' = rw q.0 at h in rw q.0 (number-next b x ss p plans (steppers_on b ss) (board_plans b ss plans) k k _ _ (has-number b ss plans k (omega arith) h') refl refl (steppers_on b ss) (board_plans b ss plans) refl refl))
    ]

pub plans-many : (b : ℕ) (ss : List StepperDef) (plans : List (List Planned)) → length plans ≡ length ss → length (board_plans b ss plans) ≡ length (steppers_on b ss)
plans-many b [] [] long = refl
plans-many b [] (p ∷ plans) long = absurd (omega arith)
plans-many b (x ∷ ss) [] long = absurd (omega arith)
plans-many b (x ∷ ss) (p ∷ plans) long =
    let later = plans-many b ss plans (omega arith) in
    elim (eqb_tells x.board b) [ inl q ↦ rw q.0 (omega (arith, later)) | inr q ↦ rw q.0 later ]

-- the plan of a stepper, by its place on its board or by its number
plan-as : Machine → Clocks → List Move → ℕ → StepperDef → List Planned
plan-as m own moves turn def = as_sent def.inverted (planned_steps def.gear own (map (segment_of m.corexy def.drive own.first) (section_parts m moves turn)) (lines_tick own (turn * turn_ns)))

pub plan-is : (m : Machine) (clocks : List Clocks) (moves : List Move) (turn b k s : ℕ) (homing : Bool) → get_or (steppers_on b m.steppers) k no_stepper ≡ stepper_at m s → (stepper_at m s).board ≡ b
    → sent_plan (board_kinds m (clocks_at clocks b) b turn homing k) (clocks_at clocks b) (lines_tick (clocks_at clocks b) (turn * turn_ns)) (section_parts m moves turn) ≡ as_sent (stepper_at m s).inverted (stepper_plan m clocks moves turn s)
unfolding plan-as
plan-is m clocks moves turn b k s homing same own =
    let one : plan-as m (clocks_at clocks b) moves turn (get_or (steppers_on b m.steppers) k no_stepper) ≡ plan-as m (clocks_at clocks b) moves turn (stepper_at m s) = ap (plan-as m (clocks_at clocks b) moves turn) same in
    let two : plan-as m (clocks_at clocks b) moves turn (stepper_at m s) ≡ plan-as m (clocks_at clocks (stepper_at m s).board) moves turn (stepper_at m s) = ap (λ n. plan-as m (clocks_at clocks n) moves turn (stepper_at m s)) (sym own) in
    one ∙ two

-- the turn of the last step
pub last-some : (clocks : Clocks) (base : ℕ) (s : Planned) (steps : List Planned) → last_turn clocks (s ∷ steps) ≡ lines_turn clocks (last_step_tick base (s ∷ steps))
last-some clocks base s [] = refl
last-some clocks base s (t ∷ steps) = last-some clocks s.tick t steps

last-where : (clocks : Clocks) (inverted : Bool) (base : ℕ) (o : Option ℕ) (plan : List Planned) → IsLastOf o base (as_sent inverted plan) → turn_where clocks o ≡ last_turn clocks plan
last-where clocks inverted base None [] is = refl
last-where clocks inverted base None (x ∷ plan) is = absurd (let e = is in cc)
last-where clocks inverted base (Some t) [] is = absurd (is.1 refl)
last-where clocks inverted base (Some t) (x ∷ plan) is = ap (lines_turn clocks) (is.0 ∙ last-sent inverted base (x ∷ plan)) ∙ sym (last-some clocks base x plan)

-- moves end when they begin or later
pub end-after : (cruise : ℕ) (moves : List Move) (speeds : List ℕ) (begin : ℕ) → begin ≤ end_time cruise moves speeds begin
end-after cruise [] speeds begin = omega arith
end-after cruise (m ∷ ms) [] begin = omega arith
end-after cruise (m ∷ ms) (g ∷ []) begin = omega arith
end-after cruise (m ∷ ms) (g ∷ h ∷ speeds) begin =
    let l = end-after cruise ms (h ∷ speeds) (begin + duration (Rattle.plan_types.specs.Parts.parts m g h cruise)) in
    omega arith

-- what a stepper of a section packed last
last-of : (m : Machine) (clocks : List Clocks) (moves : List Move) (turn b k s : ℕ) (homing : Bool) (packed : Option ℕ) → get_or (steppers_on b m.steppers) k no_stepper ≡ stepper_at m s → (stepper_at m s).board ≡ b
    → IsLastOf packed (lines_tick (clocks_at clocks b) (turn * turn_ns)) (sent_plan (board_kinds m (clocks_at clocks b) b turn homing k) (clocks_at clocks b) (lines_tick (clocks_at clocks b) (turn * turn_ns)) (section_parts m moves turn))
    → turn_where (clocks_at clocks b) packed ≡ stepper_end m clocks moves turn s
last-of m clocks moves turn b k s homing packed same own is =
    let here = clocks_at clocks b in
    let base = lines_tick here (turn * turn_ns) in
    let plan = stepper_plan m clocks moves turn s in
    last-where here (stepper_at m s).inverted base packed plan (subst (IsLastOf packed base) (plan-is m clocks moves turn b k s homing same own) is) ∙ ap (λ n. last_turn (clocks_at clocks n) plan) (sym own)

pub section-parts : (m : Machine) (clocks : List Clocks) (turn : ℕ) (homing : Bool) (s : SectionStream) (moves all : List Move) (released : ℕ → List Release) → IsSectionOn m clocks turn homing s moves released → front_parts s m.scv all ≡ section_parts m all turn
section-parts m clocks turn homing s moves all released on =
    ap (λ c. timed_moves c all (greatest_speeds all m.scv) s.queue.moves.begin) on.cruise ∙ ap (λ t. timed_moves m.cruise all (greatest_speeds all m.scv) t) on.begin

-- what stays the same of a board of the section
pub set-of : (m : Machine) (clocks : List Clocks) (turn : ℕ) (homing : Bool) (s : SectionStream) (moves : List Move) (released : ℕ → List Release) (b : ℕ) (d : BoardStream) → IsSectionOn m clocks turn homing s moves released → b < boards_of s → set_of (get_or (boards_in s) b d) ≡ start_set m clocks turn b
set-of m clocks turn homing s moves released b d on h =
    let l = on.boards in
    sym (at-mapped (boards_in s) b (set_of d) d h) ∙ on.sets b (set_of d) (omega arith)

-- the steps that the steppers of a board packed last
board-last : (m : Machine) (clocks : List Clocks) (turn : ℕ) (homing : Bool) (s : SectionStream) (moves : List Move) (released : ℕ → List Release) (e b k : ℕ) (d : BoardStream) (t : StepperStream) → IsSectionOn m clocks turn homing s moves released → IsDrawn (queue_of s) → ArePast e (boards_in s) → b < boards_of s → k < length (steppers_on b m.steppers)
    → IsLastOf (packed_step (get_or (steppers_in (get_or (boards_in s) b d)) k t)) (lines_tick (clocks_at clocks b) (turn * turn_ns)) (sent_plan (board_kinds m (clocks_at clocks b) b turn homing k) (clocks_at clocks b) (lines_tick (clocks_at clocks b) (turn * turn_ns)) (section_parts m moves turn))
board-last m clocks turn homing s moves released e b k d t on drawn past h own =
    let one = get_or (boards_in s) b d in
    let own_clocks = clocks_at clocks b in
    let base = lines_tick own_clocks (turn * turn_ns) in
    let kinds = board_kinds m own_clocks b turn homing in
    let set = set-of m clocks turn homing s moves released b d on h in
    let count : k < count_of one = (let c = ap (λ (x : BoardSet). x.count) set in omega arith) in
    let lines : lines_of_board one ≡ own_clocks = ap (λ (x : BoardSet). x.clocks) set in
    let parts : on.section.parts ≡ section_parts m moves turn = drawn-parts s m.scv moves _ _ released on.section drawn ∙ section-parts m clocks turn homing s moves moves released on in
    let packed = packed_step (get_or (steppers_in one) k t) in
    subst (λ ps. IsLastOf packed base (sent_plan (kinds k) own_clocks base ps)) parts
    (subst (λ (c : Clocks). IsLastOf packed base (sent_plan (kinds k) c base on.section.parts)) lines
    ((past.each b d h).packed kinds base on.section.parts (released b) (on.section.boards.each b d h) k t count))

-- the turn of each stepper's last step is told
pub end-above : (m : Machine) (clocks : List Clocks) (turn : ℕ) (homing : Bool) (s : SectionStream) (moves : List Move) (released : ℕ → List Release) (e n : ℕ) → IsSectionOn m clocks turn homing s moves released → IsDrawn (queue_of s) → ArePast e (boards_in s) → n < length m.steppers → stepper_end m clocks moves turn n ≤ latest_packed (boards_in s)
end-above m clocks turn homing s moves released e n on drawn past h =
    let b = (stepper_at m n).board in
    let there : b < length m.boards = (on.machine.steppers n h).board in
    let l = on.boards in
    let inside : b < boards_of s = omega arith in
    let place = has-place b m.steppers n h refl in
    latest-from last_in (boards_in s) b (stepper_end m clocks moves turn n) inside (λ d. (
    let one = get_or (boards_in s) b d in
    let set = set-of m clocks turn homing s moves released b d on inside in
    let count = ap (λ (x : BoardSet). x.count) set in
    let lines : lines_of_board one ≡ clocks_at clocks b = ap (λ (x : BoardSet). x.clocks) set in
    latest-from (λ t. turn_where (lines_of_board one) (packed_step t)) (steppers_in one) place.place (stepper_end m clocks moves turn n) (let i = place.inside in omega arith) (λ t. (
    let r = last-of m clocks moves turn b place.place n homing (packed_step (get_or (steppers_in one) place.place t)) place.same refl (board-last m clocks turn homing s moves released e b place.place d t on drawn past inside place.inside) in
    subst (λ (c : Clocks). stepper_end m clocks moves turn n ≤ turn_where c (packed_step (get_or (steppers_in one) place.place t))) (sym lines) (omega arith)))))

-- and no later one
end-below : (m : Machine) (clocks : List Clocks) (turn : ℕ) (homing : Bool) (s : SectionStream) (moves : List Move) (released : ℕ → List Release) (e n : ℕ) → IsSectionOn m clocks turn homing s moves released → IsDrawn (queue_of s) → ArePast e (boards_in s) → turn ≤ n → ((i : ℕ) → i < length m.steppers → stepper_end m clocks moves turn i ≤ n) → latest_packed (boards_in s) ≤ n
end-below m clocks turn homing s moves released e n on drawn past late all =
    let l = on.boards in
    latest-within last_in (boards_in s) n (λ b d inside. (
    let one = get_or (boards_in s) b d in
    let set = set-of m clocks turn homing s moves released b d on inside in
    let count = ap (λ (x : BoardSet). x.count) set in
    let lines : lines_of_board one ≡ clocks_at clocks b = ap (λ (x : BoardSet). x.clocks) set in
    latest-within (λ t. turn_where (lines_of_board one) (packed_step t)) (steppers_in one) n (λ k t h. (
    let own : k < length (steppers_on b m.steppers) = omega arith in
    let number = has-number b m.steppers (section_plans m clocks moves turn) k (length-map-range_with_len (stepper_plan m clocks moves turn) 0 (length m.steppers)) own in
    let r = last-of m clocks moves turn b k number.number homing (packed_step (get_or (steppers_in one) k t)) number.same number.board (board-last m clocks turn homing s moves released e b k d t on drawn past inside own) in
    let end = all number.number number.inside in
    subst (λ (c : Clocks). turn_where c (packed_step (get_or (steppers_in one) k t)) ≤ n) (sym lines) (omega arith)))))

pub map-same : (xs : List ℕ) → map (λ (x : ℕ). x) xs ≡ xs
map-same [] = refl
map-same (x ∷ xs) = ap (λ ys. x ∷ ys) (map-same xs)

-- no stepper's plan ends behind the section
pub end-most : (m : Machine) (clocks : List Clocks) (moves : List Move) (turn n : ℕ) → n < length m.steppers → stepper_end m clocks moves turn n ≤ latest (for_each_stepper m (stepper_end m clocks moves turn))
end-most m clocks moves turn n h =
    let f = stepper_end m clocks moves turn in
    let steppers = length m.steppers in
    let all = for_each_stepper m f in
    let long = length-map-range_with_len f 0 steppers in
    let l = latest-from (λ (x : ℕ). x) all n (f n) (omega arith) (λ d. (let q = get_or-map-range_with_len f 0 steppers n n d h (omega arith) in omega arith)) in
    let same = map-same all in
    rw same at l

-- the moves of a section end when those that are settled do, or later
pub moves-later : (m : Machine) (clocks : List Clocks) (turn : ℕ) (homing : Bool) (s : SectionStream) (moves all : List Move) (released : ℕ → List Release) → IsSectionOn m clocks turn homing s moves released → IsFuture (is_taking (queue_of s)) moves all → settled_to (queue_of s) / turn_ns ≤ end_time m.cruise all (greatest_speeds all m.scv) (turn * turn_ns) / turn_ns
moves-later m clocks turn homing s moves all released on future =
    let q = s.queue in
    let count = given_count q.moves in
    let end = end_time m.cruise all (greatest_speeds all m.scv) (turn * turn_ns) in
    let front = (on.section.queue.moves_are.front all future).end_is in
    let same : end_time q.moves.cruise all (greatest_speeds all m.scv) q.moves.begin ≡ end = ap (λ c. end_time c all (greatest_speeds all m.scv) q.moves.begin) on.cruise ∙ ap (λ t. end_time m.cruise all (greatest_speeds all m.scv) t) on.begin in
    let after = end-after q.moves.cruise (drop count all) (drop count (greatest_speeds all m.scv)) q.moves.time in
    let order : q.moves.time ≤ end = omega arith in
    omega (arith, order)

-- and so does the section
pub section-later : (m : Machine) (clocks : List Clocks) (turn : ℕ) (homing : Bool) (s : SectionStream) (moves all : List Move) (released : ℕ → List Release) → IsSectionOn m clocks turn homing s moves released → IsFuture (is_taking (queue_of s)) moves all → settled_to (queue_of s) / turn_ns ≤ section_end m clocks all turn
section-later m clocks turn homing s moves all released on future = let l = moves-later m clocks turn homing s moves all released on future in omega (arith, l)

pub section-ends : (m : Machine) (clocks : List Clocks) (turn : ℕ) (homing : Bool) (s : SectionStream) (moves : List Move) (released : ℕ → List Release) (e : ℕ) → IsSectionOn m clocks turn homing s moves released → IsDrawn (queue_of s) → ArePast e (boards_in s) → e ≡ max (drawn_to (queue_of s) / turn_ns) (latest_packed (boards_in s)) → e ≡ section_end m clocks moves turn
section-ends m clocks turn homing s moves released e on drawn past is =
    let f = stepper_end m clocks moves turn in
    let steppers = length m.steppers in
    let end = end_time m.cruise moves (greatest_speeds moves m.scv) (turn * turn_ns) in
    let time : drawn_to (queue_of s) ≡ end = drawn-time s m.scv moves _ _ released on.section drawn ∙ ap (λ c. end_time c moves (greatest_speeds moves m.scv) s.queue.moves.begin) on.cruise ∙ ap (λ t. end_time m.cruise moves (greatest_speeds moves m.scv) t) on.begin in
    let after = end-after m.cruise moves (greatest_speeds moves m.scv) (turn * turn_ns) in
    let each : (i : ℕ) (d : ℕ) → i < steppers → get_or (map f (range_with_len 0 steppers)) i d ≡ f i = λ i d h. get_or-map-range_with_len f 0 steppers i i d h (omega arith) in
    let long = length-map-range_with_len f 0 steppers in
    let all = for_each_stepper m f in
    let same : map (λ (x : ℕ). x) all ≡ all = map-same all in
    let up : (i : ℕ) → i < steppers → f i ≤ latest all = end-most m clocks moves turn in
    let down : latest all ≤ max (end / turn_ns) (latest_packed (boards_in s)) = (let l = latest-within (λ (x : ℕ). x) all (max (end / turn_ns) (latest_packed (boards_in s))) (λ i d h. (let q = each i d (omega arith) in let a = end-above m clocks turn homing s moves released e i on drawn past (omega arith) in omega arith)) in rw same at l) in
    let below = end-below m clocks turn homing s moves released e (max (end / turn_ns) (latest all)) on drawn past (omega arith) (λ i h. (let u = up i h in omega arith)) in
    is ∙ ap (λ t. max (t / turn_ns) (latest_packed (boards_in s))) time ∙ omega arith
