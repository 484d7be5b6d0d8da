-- A board's part of a run, from what the planner put.
use Rattle.std.proofs.Common.{◌≡◌, ◌≢◌, ℕ, ◌+◌, ◌<◌, ◌≤◌, List, [], ◌∷◌, ◌++◌, length, map, take, All, Some, subst}
use Rattle.std.specs.Prelude.{slice_index_or}
use Rattle.laws_board.proofs.Names.{Machine, length-map, All-cons, All-nil, Clocks, board_at, clocks_at, of_stepper, units_of, Orders, parts_on, AreStarted, Started, Told, MotionTurn, gather, item}
use Rattle.section_units.specs.Sections.{IsSection}
use Rattle.section_units.specs.Plans.{AreSentToOn}
use Rattle.section_units.specs.Sent.{AreSentTo}
use Rattle.laws_board.specs.sections.Parts.{AreOrdersOf, AreTracked, IsBoardRun, MakesIn}
use Rattle.motion_work.specs.Seen.{AreMoves, AreSentBy, planning_lines, part_on}
use Rattle.motion_stream.specs.Wholes.{AreSentIn}
use Rattle.motion_work.proofs.Boardwise as boardwise
use Rattle.laws_board.specs.plans.Given.{EndBefore, TookBatches, TookControls}
use Rattle.laws_board.specs.plans.Planned.{AreToldBy, Plans, put_of, puts_of}
use Rattle.laws_board.proofs.plans.Giving.{given, in_a_row}

pub orders_are : (m : Machine) (ts : List MotionTurn) (p : Plans m (length m.boards) ts) (t : Told) (b : ℕ) (os : List Orders) → b < length m.boards → length os ≤ length p.made → TookBatches b ts os → TookControls os
    → AreOrdersOf (parts_on m t.clocks p.seen.begun b) 0 os
orders_are m ts p t b os small long took controls =
    let At : List MotionTurn → Type 0 = λ x. map (λ (o : Orders). o.batch) os ++ took.0 ≡ gather (λ (y : MotionTurn). item b y.batches) x in
    given m p.seen.text t.clocks p.seen.begun b 0 p.made p.bare os took.0 small p.put long (subst At p.are took.1) controls

pub started_in : (m : Machine) (ts : List MotionTurn) (p : Plans m (length m.boards) ts) (t : Told) → p.seen.told ≡ Some t → AreStarted m t.clocks t.first p.seen.begun
started_in m ts p t told = subst (λ o. AreToldBy m o p.seen.begun) told p.sections

pub sections_are : (m : Machine) (ts : List MotionTurn) (p : Plans m (length m.boards) ts) (t : Told) (b : ℕ) → b < length m.boards → p.seen.told ≡ Some t → AreMoves p.seen.begun
    → All (IsSection (clocks_at t.clocks b) (board_at m b).freq (board_at m b).slots) (parts_on m t.clocks p.seen.begun b)
sections_are m ts p t b small told moves = boardwise.sections_are m t.clocks t.first p.seen.begun b (started_in m ts p t told) moves small

-- what boards are sent of the sections in the planner's turns
pub all_sent : (m : Machine) (n : ℕ) (ts : List MotionTurn) (p : Plans m n ts) (t : Told) → p.seen.told ≡ Some t → AreSentBy m t.clocks (length p.made) p.seen.begun
all_sent m n ts p t told =
    let here : AreSentBy m t.clocks (length (puts_of p.made)) p.seen.begun = subst (λ o. AreSentIn m o (length (puts_of p.made)) p.seen.begun) told p.sent in
    subst (λ k. AreSentBy m t.clocks k p.seen.begun) (length-map p.made put_of) here

-- where none homes, a board is sent them by all its clock lines
pub sent_on : (m : Machine) (clocks : List Clocks) (next b : ℕ) (begun : List Started) → b < length m.boards → AreMoves begun → AreSentBy m clocks next begun → All (AreSentTo (clocks_at clocks b) (board_at m b).freq next) (parts_on m clocks begun b)
sent_on m clocks next b [] small moves h = All-nil (AreSentTo (clocks_at clocks b) (board_at m b).freq next)
sent_on m clocks next b (s ∷ begun) small moves h =
    let one = subst (λ kind. AreSentToOn m (planning_lines kind s.end clocks) s.section.moves s.start b next (slice_index_or s.boards b [])) moves.0 (h.0 b small) in
    All-cons (AreSentTo (clocks_at clocks b) (board_at m b).freq next) (part_on m clocks s b) (parts_on m clocks begun b)
    (record { sent = one.sent; later = one.later; are = one.are; behind = one.behind; is = record { in_order = one.is.in_order; longest = one.is.longest } })
    (sent_on m clocks next b begun small moves.1 h.1)

pub run_is : (m : Machine) (ts : List MotionTurn) (p : Plans m (length m.boards) ts) (t : Told) (b ready : ℕ) (own : ℕ → ℕ) (os : List Orders) → b < length m.boards → p.seen.told ≡ Some t → AreMoves p.seen.begun → length os ≤ length p.made
    → TookBatches b ts os → TookControls os → (k : AreTracked own (clocks_at t.clocks b) ready) → ready + 260 ≤ t.first → EndBefore k.until (parts_on m t.clocks p.seen.begun b)
    → (ready ≤ length os → (oid : ℕ) → All (λ s. of_stepper oid (units_of s.releases) ≢ [] → MakesIn oid (take ready os)) (parts_on m t.clocks p.seen.begun b))
    → IsBoardRun own (clocks_at t.clocks b) (board_at m b).freq (board_at m b).slots ready (parts_on m t.clocks p.seen.begun b) os
run_is m ts p t b ready own os small told moves long took controls k early ends made =
    record {
      tracked = k;
      sections = sections_are m ts p t b small told moves;
      row = in_a_row k.until ready t.first (parts_on m t.clocks p.seen.begun b) (boardwise.apart m t.clocks t.first p.seen.begun b (started_in m ts p t told)) early ends;
      orders = orders_are m ts p t b os small long took controls;
      made = made;
    }
