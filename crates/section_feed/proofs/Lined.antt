-- A section on one of whose boards one more line holds.
use Rattle.std.proofs.Common.{◌≡◌, ℕ, zero, suc, ◌*◌, ◌<◌, Bool, cond, List, [], ◌∷◌, length, map, get_or, set, arith, ap, refl, sym, ◌∙◌, subst, inl, inr}
use Rattle.std.specs.Prelude.{Some, None}
use Rattle.std.proofs.lemmas.Bool.{cases_eq}
use Rattle.std.proofs.lemmas.List.{get_or-set_same, get_or-set_other, length-set}
use Rattle.plan_types.specs.declared.machine.Machine.{Machine}
use Rattle.plan_types.specs.declared.plan.Line.{Line}
use Rattle.plan_types.specs.declared.plan.Move.{Move}
use Rattle.plan_types.specs.Clock.{turn_ns}
use Rattle.plan_types.specs.Lines.{Clocks, lines_tick}
use Rattle.plan_types.specs.Machines.{board_at, no_stepper}
use Rattle.plan_types.specs.Sections.{TimedPart, clocks_at}
use Rattle.clock_line.specs.Kept.{added}
use Rattle.step_feed.specs.Pacing.{Release}
use Rattle.section_stream.specs.Steppers.{StepperKind, kind_from}
use Rattle.section_stream.proofs.Adding.{added-before}
use Rattle.section_feed.specs.declared.board.BoardStream.{BoardStream}
use Rattle.section_feed.specs.declared.queue.MoveQueue.{MoveQueue}
use Rattle.section_feed.specs.declared.section.SectionStream.{SectionStream}
use Rattle.section_feed.specs.Boards.{MayStart, MayTake}
use Rattle.section_feed.specs.Feeding.{IsBoardOf, count_of, first_of, lines_of_board, slots_in, fed_time, turn_of}
use Rattle.section_feed.specs.Kinds.{board_kinds, steppers_on}
use Rattle.section_feed.specs.Lined.{HasLine, line_at, with_line}
use Rattle.section_feed.specs.On.{IsSectionOn}
use Rattle.section_feed.specs.Queues.{begin_in, cruise_in}
use Rattle.section_feed.specs.Released.{steppers_in}
use Rattle.section_feed.specs.Rests.{AreAllRested, AreRested}
use Rattle.section_feed.specs.Sections.{AreBoards, sets_of}
use Rattle.section_feed.specs.Sets.{BoardSet, goes_of, set_from, set_of, start_set}
use Rattle.section_feed.proofs.Changing.{any-default}
use Rattle.section_feed.proofs.Lasts.{added-lasts}
use Rattle.section_feed.proofs.Sectioning.{at-mapped}

-- what holds of all elements of a list, where one of them has changed
pub set-each : {A : Type 0} (P : ℕ → A → Type 0) (xs : List A) (place : ℕ) (x : A) → ((k : ℕ) (d : A) → k < length xs → P k (get_or xs k d)) → P place x → (k : ℕ) (d : A) → k < length (set xs place x) → P k (get_or (set xs place x) k d)
set-each P xs place x all here k d h =
    let n = length-set xs place x in
    elim (cases_eq k place) as (λ _. P k (get_or (set xs place x) k d)) [
      | inl same ↦ subst (λ i. P i (get_or (set xs place x) i d)) (sym same) (subst (P place) (sym (get_or-set_same xs place x d (omega arith))) here)
      | inr other ↦ subst (P k) (sym (get_or-set_other xs place k x d other)) (all k d (omega arith))
    ]

-- a board took up a line
pub record IsBoardLined (turn : ℕ) (line : Line) (old new : BoardStream) : Type 0 where
  pub on : (kinds : ℕ → StepperKind) (base : ℕ) (parts : List TimedPart) (released : List Release) → IsBoardOf old kinds base parts released → IsBoardOf new kinds base parts released
  pub lines : lines_of_board new ≡ added (lines_of_board old) (turn * turn_ns) line
  pub time : fed_time new ≡ fed_time old
  pub next : turn_of new ≡ turn_of old
  pub first : first_of new ≡ first_of old
  pub slots : slots_in new ≡ slots_in old
  pub count : count_of new ≡ count_of old
  pub goes : goes_of new ≡ goes_of old
  pub rested : (low : ℕ) → low < turn → ∥ AreRested low (steppers_in old) ∥₁ → ∥ AreRested low (steppers_in new) ∥₁

pub set-lined : (turn : ℕ) (line : Line) (old new : BoardStream) → IsBoardLined turn line old new → set_of new ≡ with_line turn line (set_of old)
set-lined turn line old new h =
    ap (λ (k : Clocks). set_with k (first_of new) (slots_in new) (count_of new)) h.lines ∙ ap (λ n. set_with k' n (slots_in new) (count_of new)) h.first ∙ ap (λ n. set_with k' (first_of old) n (count_of new)) h.slots ∙ ap (λ n. set_with k' (first_of old) (slots_in old) n) h.count
  where
    k' : Clocks
    k' = added (lines_of_board old) (turn * turn_ns) line

    set_with : Clocks → ℕ → ℕ → ℕ → BoardSet
    set_with clocks first slots count = record { clocks = clocks; first = first; slots = slots; count = count }

pub boards-lined : (xs : List BoardStream) (place turn : ℕ) (line : Line) (old new : BoardStream) (time : ℕ) (kinds : ℕ → ℕ → StepperKind) (base : ℕ → ℕ) (parts : List TimedPart) (released : ℕ → List Release) → place < length xs → old ≡ get_or xs place old → IsBoardLined turn line old new → AreBoards xs time kinds base parts released → AreBoards (set xs place new) time kinds base parts released
boards-lined xs place turn line old new time kinds base parts released inside is h are =
    let was : IsBoardOf old (kinds place) (base place) parts (released place) = subst (λ (b : BoardStream). IsBoardOf b (kinds place) (base place) parts (released place)) (sym is) (are.each place old inside) in
    let at : fed_time old ≡ time = ap fed_time is ∙ are.times place old inside in
    record {
      each = set-each (λ b x. IsBoardOf x (kinds b) (base b) parts (released b)) xs place new are.each (h.on (kinds place) (base place) parts (released place) was);
      times = set-each (λ b x. fed_time x ≡ time) xs place new are.times (h.time ∙ at);
    }

pub rested-lined : (xs : List BoardStream) (place turn low : ℕ) (line : Line) (old new : BoardStream) → place < length xs → old ≡ get_or xs place old → low < turn → IsBoardLined turn line old new → AreAllRested low xs → AreAllRested low (set xs place new)
rested-lined xs place turn low line old new inside is before h all =
    let own : ∥ AreRested low (steppers_in old) ∥₁ = subst (λ (b : BoardStream). ∥ AreRested low (steppers_in b) ∥₁) (sym is) (all.each place old inside) in
    record { each = set-each (λ k x. ∥ AreRested low (steppers_in x) ∥₁) xs place new all.each (h.rested low before own) }

-- what stays the same of the boards
pub sets-here : (xs : List BoardStream) (place turn : ℕ) (line : Line) (old new : BoardStream) (d : BoardSet) → place < length xs → old ≡ get_or xs place old → IsBoardLined turn line old new → get_or (map set_of (set xs place new)) place d ≡ with_line turn line (get_or (map set_of xs) place d)
sets-here xs place turn line old new d inside is h =
    let n = length-set xs place new in
    at-mapped (set xs place new) place d new (omega arith) ∙ ap set_of (get_or-set_same xs place new new inside) ∙ set-lined turn line old new h ∙ ap (λ (b : BoardStream). with_line turn line (set_of b)) is ∙ ap (with_line turn line) (sym (at-mapped xs place d old inside))

pub sets-others : (xs : List BoardStream) (place b : ℕ) (new : BoardStream) (d : BoardSet) → (b ≡ place → ⊥) → get_or (map set_of (set xs place new)) b d ≡ get_or (map set_of xs) b d
sets-others [] place b new d other = refl
sets-others (x ∷ xs) zero zero new d other = absurd (other refl)
sets-others (x ∷ xs) zero (suc b) new d other = refl
sets-others (x ∷ xs) (suc place) zero new d other = refl
sets-others (x ∷ xs) (suc place) (suc b) new d other = sets-others xs place b new d (λ e. other (ap suc e))

-- the section of a machine by the lines with it
kinds-by : Machine → Line → ℕ → Bool → ℕ → ℕ → StepperKind
kinds-by m first b homing base k = kind_from m.corexy (get_or (steppers_on b m.steppers) k no_stepper) first (cond homing None (Some base))

at-line : (P : ℕ → Clocks → Type 0) (clocks : List Clocks) (b turn : ℕ) (line : Line) → ((k : ℕ) → k < length clocks → P k (clocks_at clocks k)) → P b (added (clocks_at clocks b) (turn * turn_ns) line) → (k : ℕ) → k < length clocks → P k (clocks_at (line_at clocks b turn line) k)
at-line P clocks b turn line all here k h =
    let x = added (clocks_at clocks b) (turn * turn_ns) line in
    let n = length-set clocks b x in
    set-each P clocks b x (λ i d l. subst (P i) (any-default {A = Clocks} (λ i y z. Unit {0}) clocks i _ d l) (all i l)) here k _ (omega arith)

pub section-lined : (m : Machine) (clocks : List Clocks) (start : ℕ) (homing : Bool) (old new : SectionStream) (moves : List Move) (released : ℕ → List Release) (b turn : ℕ) (line : Line) → IsSectionOn m clocks start homing old moves released → b < length m.boards → start < turn → MayTake (clocks_at clocks b) turn line → HasLine b turn line old new → IsSectionOn m (line_at clocks b turn line) start homing new moves released
unfolding kinds-by
section-lined m clocks start homing old new moves released b turn line on inside before may h =
    let own = clocks_at clocks b in
    let many = on.count in
    let count = on.boards in
    let was = h.on m.scv moves (λ k. board_kinds m (clocks_at clocks k) k start homing) (λ k. lines_tick (clocks_at clocks k) (start * turn_ns)) released on.section in
    let at = on.may_start b inside in
    let e = added-before own (turn * turn_ns) line (start * turn_ns) (omega arith) in
    let is : clocks_at (line_at clocks b turn line) b ≡ added own (turn * turn_ns) line = get_or-set_same clocks b (added own (turn * turn_ns) line) _ (omega arith) in
    record {
      machine = on.machine;
      count = length-set clocks b (added own (turn * turn_ns) line) ∙ on.count;
      freq = λ k l. at-line (λ i c. c.first.freq ≡ (board_at m i).freq) clocks b turn line (λ i n. on.freq i (omega arith)) (on.freq b inside) k (omega arith);
      lead = on.lead;
      may_start = λ k l. at-line (λ i c. MayStart c start) clocks b turn line (λ i n. on.may_start i (omega arith)) (record { lasting = added-lasts own turn line at.lasting may; begun = at.begun; turn_small = at.turn_small }) k (omega arith);
      section = record {
        parts = was.parts;
        queue = was.queue;
        boards = record {
          each = λ k d l. at-line (λ i c. IsBoardOf (get_or new.boards.items i d) (board_kinds m c i start homing) (lines_tick c (start * turn_ns)) was.parts (released i)) clocks b turn line
              (λ i n. was.boards.each i d (let x = h.boards in omega arith))
              (subst (λ t. IsBoardOf (get_or new.boards.items b d) (kinds-by m own.first b homing t) t was.parts (released b)) (sym e) (was.boards.each b d (let x = h.boards in omega arith)))
              k (let x = h.boards in omega arith);
          times = was.boards.times;
        };
      };
      boards = h.boards ∙ on.boards;
      sets = λ k d l. elim (cases_eq k b) as (λ _. get_or (sets_of new) k d ≡ start_set m (line_at clocks b turn line) start k) [
        | inl same ↦ subst (λ i. get_or (sets_of new) i d ≡ start_set m (line_at clocks b turn line) start i) (sym same) (h.here d ∙ ap (with_line turn line) (on.sets b d inside) ∙ ap (λ (c : Clocks). set_from m c start b) (sym is))
        | inr other ↦ h.others k d other ∙ on.sets k d l ∙ ap (λ (c : Clocks). set_from m c start k) (sym (get_or-set_other clocks b k (added own (turn * turn_ns) line) _ other))
      ];
      cruise = ap (λ (q : MoveQueue). cruise_in q) h.queue ∙ on.cruise;
      begin = ap (λ (q : MoveQueue). begin_in q) h.queue ∙ on.begin;
    }
