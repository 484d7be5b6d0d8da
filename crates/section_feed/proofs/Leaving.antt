-- A section of which something is left ends in the turn up to which its boards are packed, or later.
use Rattle.std.proofs.Common.{◌≡◌, ◌⊎◌, ℕ, ◌*◌, ◌/◌, ◌<◌, ◌≤◌, ◌^◌, Bool, true, false, List, [], ◌∷◌, length, get_or, arith, ap, sym, ◌∙◌, refl, subst, All, inl, inr}
use Rattle.std.proofs.Props.{props}
use Rattle.std.proofs.Math.Logic.{∥∥₁_elim}
use Rattle.std.proofs.lemmas.List.FromFn.{length-map-range_with_len}
use Rattle.plan_types.specs.declared.machine.Machine.{Machine}
use Rattle.plan_types.specs.declared.plan.Line.{Line}
use Rattle.plan_types.specs.declared.plan.Move.{Move}
use Rattle.plan_types.specs.declared.plan.Planned.{Planned}
use Rattle.plan_types.specs.Clock.{turn_ns}
use Rattle.plan_types.specs.Lines.{Clocks, lines_tick}
use Rattle.plan_types.specs.Machines.{stepper_at}
use Rattle.plan_types.specs.Sections.{TimedPart, clocks_at, last_turn, section_end, section_parts, section_plans, stepper_plan}
use Rattle.step_feed.specs.declared.stream.FeedStream.{FeedStream}
use Rattle.step_feed.specs.Pacing.{Release}
use Rattle.section_units.specs.Units.{as_sent}
use Rattle.section_stream.specs.declared.stepper.StepperStream.{StepperStream}
use Rattle.section_stream.specs.Fronts.{HasStepsLeft}
use Rattle.section_stream.specs.Looking.{IsFuture}
use Rattle.section_stream.specs.Steppers.{StepperKind, stepper_clocks, kind_of, packed_to}
use Rattle.section_stream.proofs.Later.{left-late, packed-late}
use Rattle.section_feed.specs.declared.board.BoardStream.{BoardStream}
use Rattle.section_feed.specs.declared.section.SectionStream.{SectionStream}
use Rattle.section_feed.specs.Boards.{AreUpTo, IsLasting}
use Rattle.section_feed.specs.Feeding.{AreFeeding, lines_of_board}
use Rattle.section_feed.specs.Going.{IsPackedTo}
use Rattle.section_feed.specs.Kinds.{board_kinds, steppers_on}
use Rattle.section_feed.specs.Left.{AreLeft, IsOutside}
use Rattle.section_feed.specs.On.{IsSectionOn}
use Rattle.section_feed.specs.Queues.{IsDrawn, drawn_to, is_taking, settled_to}
use Rattle.section_feed.specs.Released.{steppers_in}
use Rattle.section_feed.specs.Sections.{IsLeft, boards_in, boards_of, queue_of}
use Rattle.section_feed.specs.Sets.{BoardSet, goes_of}
use Rattle.section_feed.specs.Wholes.{sent_plan}
use Rattle.section_feed.proofs.Ends.{end-most, has-number, plan-is, section-later, section-parts, set-of}
use Rattle.section_feed.proofs.Fronting.{drawn-parts, waiting-later}
use Rattle.section_feed.proofs.Lasts.{kept-lasting, lines-small}
use Rattle.section_feed.proofs.Opening.{sent-turn}

-- what was drawn ends when the settled moves do, or before
drawn-settled : (m : Machine) (clocks : List Clocks) (turn : ℕ) (homing : Bool) (s : SectionStream) (moves : List Move) (released : ℕ → List Release) → IsSectionOn m clocks turn homing s moves released → drawn_to (queue_of s) ≤ settled_to (queue_of s)
drawn-settled m clocks turn homing s moves released on =
    let q = s.queue in
    let e = on.section.queue.ends in
    let w = waiting-later q.drawn q.drawn q.ready.items (omega arith) in
    omega (arith, e, w)

-- a section whose moves were drawn up to a turn ends in it or later
drawn-late : (m : Machine) (clocks : List Clocks) (turn : ℕ) (homing : Bool) (s : SectionStream) (moves all : List Move) (released : ℕ → List Release) (k : ℕ) → IsSectionOn m clocks turn homing s moves released → IsFuture (is_taking (queue_of s)) moves all → k * turn_ns ≤ drawn_to (queue_of s) → k ≤ section_end m clocks all turn
drawn-late m clocks turn homing s moves all released k on future h =
    let d = drawn-settled m clocks turn homing s moves released on in
    let l = section-later m clocks turn homing s moves all released on future in
    let here : k ≤ settled_to (queue_of s) / turn_ns = omega (arith, h, d) in
    omega (arith, here, l)

-- so does one that more moves may come for, where a board is packed up to a turn
open-late : (m : Machine) (clocks : List Clocks) (turn : ℕ) (homing : Bool) (s : SectionStream) (moves all : List Move) (released : ℕ → List Release) (k b : ℕ) (d : BoardStream) → IsSectionOn m clocks turn homing s moves released → IsFuture (is_taking (queue_of s)) moves all → All (IsPackedTo k) (boards_in s) → b < boards_of s → goes_of (get_or (boards_in s) b d) ≡ true → k ≤ section_end m clocks all turn
open-late m clocks turn homing s moves all released k b d on future packed inside goes =
    let one = get_or (boards_in s) b d in
    let ahead = one.ahead goes in
    let to = (packed b d inside).packed in
    let time = on.section.boards.times b d inside in
    drawn-late m clocks turn homing s moves all released k on future (omega (arith, ahead, to, time))

-- a step that is left to a stepper is in a turn of the plan up to which it is packed, or later
stepper-late : (clocks : Clocks) (goes : Bool) (time turn k start place : ℕ) (s : StepperStream) (steppers : List StepperStream) (feed : FeedStream) (order : ℕ) (kinds : ℕ → StepperKind) (parts : List TimedPart) (released : List Release) → IsLasting clocks → start < 2 ^ 44 → k < 2 ^ 44 → k ≤ turn → AreUpTo clocks goes time turn steppers
    → AreFeeding steppers feed clocks order kinds (lines_tick clocks (start * turn_ns)) parts released → place < length steppers → HasStepsLeft (get_or steppers place s) ⊎ IsOutside clocks (packed_to (get_or steppers place s)) → k ≤ last_turn clocks (sent_plan (kinds place) clocks (lines_tick clocks (start * turn_ns)) parts)
stepper-late clocks goes time turn k start place s steppers feed order kinds parts released lasting soon small to up f inside left =
    let one = get_or steppers place s in
    let base = lines_tick clocks (start * turn_ns) in
    let u = up.each place s inside in
    let given = f.given.each place s inside in
    let kind = f.kinds_are.each place s inside in
    let same : sent_plan (kind_of one) (stepper_clocks one) base parts ≡ sent_plan (kinds place) clocks base parts = ap (λ (c : Clocks). sent_plan (kind_of one) c base parts) u.clocks_are ∙ ap (λ (q : StepperKind). sent_plan q clocks base parts) kind in
    let kept = kept-lasting clocks lasting in
    let kept_here = subst Rattle.clock_line.specs.Kept.AreKept (sym u.clocks_are) kept in
    let Here : Clocks → List Planned → Type 0 = λ c steps. k ≤ last_turn c steps in
    let plan = sent_plan (kind_of one) (stepper_clocks one) base parts in
    let done : k ≤ last_turn (stepper_clocks one) plan → k ≤ last_turn clocks (sent_plan (kinds place) clocks base parts) = λ h. subst (Here clocks) same (subst (λ (c : Clocks). Here c plan) u.clocks_are h) in
    elim left as (λ _. k ≤ last_turn clocks (sent_plan (kinds place) clocks base parts)) [
      | inl steps ↦ done (let l = left-late one base turn parts given.out given.pieces _ given.stepper kept_here u.caught_up steps in omega (arith, l, to))
      | inr (inl low) ↦ (
          let from = one.from in
          let line = ap (λ (l : Line). l.clock) (one.line ∙ ap (λ (c : Clocks). c.first) u.clocks_are) in
          absurd (omega (arith, from, line, low)))
      | inr (inr high) ↦ (
          let small_base = lines-small clocks (start * turn_ns) lasting (omega arith) in
          let small_cut = lines-small clocks (k * turn_ns) lasting (omega arith) in
          let cut : lines_tick (stepper_clocks one) (k * turn_ns) ≤ packed_to one = subst (λ (c : Clocks). lines_tick c (k * turn_ns) ≤ packed_to one) (sym u.clocks_are) (omega (arith, small_cut, high)) in
          done (packed-late one base k parts given.out given.pieces _ given.stepper kept_here (omega (arith, small_base, high)) cut))
    ]

-- the plan of a board's stepper ends when the section does, or before
plan-most : (m : Machine) (clocks : List Clocks) (moves : List Move) (turn b place k : ℕ) (homing : Bool) → place < length (steppers_on b m.steppers) → k ≤ last_turn (clocks_at clocks b) (sent_plan (board_kinds m (clocks_at clocks b) b turn homing place) (clocks_at clocks b) (lines_tick (clocks_at clocks b) (turn * turn_ns)) (section_parts m moves turn))
    → k ≤ section_end m clocks moves turn
plan-most m clocks moves turn b place k homing inside h =
    let own = clocks_at clocks b in
    let n = has-number b m.steppers (section_plans m clocks moves turn) place (length-map-range_with_len (stepper_plan m clocks moves turn) 0 (length m.steppers)) inside in
    let plan = stepper_plan m clocks moves turn n.number in
    let is = plan-is m clocks moves turn b place n.number homing n.same n.board in
    let most = end-most m clocks moves turn n.number n.inside in
    let board : (stepper_at m n.number).board ≡ b = n.board in
    let end = ap (λ i. last_turn (clocks_at clocks i) plan) board in
    let sent = sent-turn own (stepper_at m n.number).inverted plan in
    let here : k ≤ last_turn own (as_sent (stepper_at m n.number).inverted plan) = subst (λ (steps : List Planned). k ≤ last_turn own steps) is h in
    omega (arith, here, sent, end, most)

-- a step is left to a stepper of a board that was given all moves
board-late : (m : Machine) (clocks : List Clocks) (turn : ℕ) (homing : Bool) (s : SectionStream) (moves : List Move) (released : ℕ → List Release) (k b : ℕ) (d : BoardStream) → IsSectionOn m clocks turn homing s moves released → IsDrawn (queue_of s) → All (IsPackedTo k) (boards_in s) → k < 2 ^ 44 → b < boards_of s → AreLeft (lines_of_board (get_or (boards_in s) b d)) (steppers_in (get_or (boards_in s) b d)) → k ≤ section_end m clocks moves turn
board-late m clocks turn homing s moves released k b d on drawn packed small inside left =
    let one = get_or (boards_in s) b d in
    let own = clocks_at clocks b in
    let base = lines_tick own (turn * turn_ns) in
    let kinds = board_kinds m own b turn homing in
    let l = on.boards in
    let may = on.may_start b (omega arith) in
    let start = may.turn_small in
    let set = set-of m clocks turn homing s moves released b d on inside in
    let count = ap (λ (x : BoardSet). x.count) set in
    let lines : lines_of_board one ≡ own = ap (λ (x : BoardSet). x.clocks) set in
    let there = left.inside in
    let to = (packed b d inside).packed in
    let parts : on.section.parts ≡ section_parts m moves turn = drawn-parts s m.scv moves _ _ released on.section drawn ∙ section-parts m clocks turn homing s moves moves released on in
    let Late : Clocks → List TimedPart → Type 0 = λ c ps. k ≤ last_turn c (sent_plan (kinds left.place) c base ps) in
    let late : Late own on.section.parts = go (steppers_in one) refl in
    plan-most m clocks moves turn b left.place k homing (omega (arith, there, count)) (subst (Late own) parts late)
  where
    go : (ss : List StepperStream) → ss ≡ steppers_in (get_or (boards_in s) b d) → k ≤ last_turn (clocks_at clocks b) (sent_plan (board_kinds m (clocks_at clocks b) b turn homing left.place) (clocks_at clocks b) (lines_tick (clocks_at clocks b) (turn * turn_ns)) on.section.parts)
    go [] is = absurd (let n = ap (λ (xs : List StepperStream). length xs) is in let i = left.inside in omega (arith, n, i))
    go (t ∷ ts) is =
        let one = get_or (boards_in s) b d in
        let own = clocks_at clocks b in
        let l = on.boards in
        let may = on.may_start b (omega arith) in
        let start = may.turn_small in
        let set = set-of m clocks turn homing s moves released b d on inside in
        let lines : lines_of_board one ≡ own = ap (λ (x : BoardSet). x.clocks) set in
        let to = (packed b d inside).packed in
        ∥∥₁_elim one.up_to (hlevel props) (λ up. ∥∥₁_elim (on.section.boards.each b d inside) (hlevel props) (λ f.
        stepper-late own one.goes one.time one.turn k turn left.place t one.steppers.items one.feed one.order (board_kinds m own b turn homing) on.section.parts (released b) may.lasting (omega arith) small to
        (subst (λ (c : Clocks). AreUpTo c one.goes one.time one.turn one.steppers.items) lines up)
        (subst (λ (c : Clocks). AreFeeding one.steppers.items one.feed c one.order (board_kinds m own b turn homing) (lines_tick own (turn * turn_ns)) on.section.parts (released b)) lines f)
        left.inside (subst (λ (c : Clocks). HasStepsLeft (get_or one.steppers.items left.place t) ⊎ IsOutside c (packed_to (get_or one.steppers.items left.place t))) lines (left.left t))))

pub section-left : (m : Machine) (clocks : List Clocks) (turn : ℕ) (homing : Bool) (s : SectionStream) (moves all : List Move) (released : ℕ → List Release) (k : ℕ) → IsSectionOn m clocks turn homing s moves released → IsFuture (is_taking (queue_of s)) moves all → All (IsPackedTo k) (boards_in s) → k < 2 ^ 44 → IsLeft s → k ≤ section_end m clocks all turn
section-left m clocks turn homing s moves all released k on future packed small left = go s.boards.items refl
  where
    on-board : (b : ℕ) (d : BoardStream) (goes : Bool) → b < boards_of s → goes_of (get_or (boards_in s) b d) ≡ goes → (goes ≡ false → k ≤ section_end m clocks all turn) → k ≤ section_end m clocks all turn
    on-board b d true inside is over = open-late m clocks turn homing s moves all released k b d on future packed inside is
    on-board b d false inside is over = over refl

    go : (boards : List BoardStream) → boards ≡ s.boards.items → k ≤ section_end m clocks all turn
    go [] is = absurd (let l = ap (λ (bs : List BoardStream). length bs) is in let n = on.boards in let some = on.machine.boards_some in omega arith)
    go (x ∷ xs) is =
        let some = ap (λ (bs : List BoardStream). length bs) is in
        elim left as (λ _. k ≤ section_end m clocks all turn) [
          | inl more ↦ on-board 0 x (goes_of (get_or (boards_in s) 0 x)) (omega arith) refl (λ over. absurd (more (s.ended.each 0 x (omega arith) over)))
          | inr (inl long) ↦ drawn-late m clocks turn homing s moves all released k on future (omega arith)
          | inr (inr steps) ↦ (
              let inside = steps.inside in
              on-board steps.board x (goes_of (get_or (boards_in s) steps.board x)) inside refl (λ over. (
              let drawn = s.ended.each steps.board x inside over in
              let same : all ≡ moves = subst (λ (g : Bool). IsFuture g moves all) drawn.over future in
              subst (λ (ms : List Move). k ≤ section_end m clocks ms turn) (sym same) (board-late m clocks turn homing s moves released k steps.board x on drawn packed small inside (steps.left x)))))
        ]
