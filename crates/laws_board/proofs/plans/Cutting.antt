-- A homing section on a board that ends in a turn: the units that are released before it.
use Rattle.std.proofs.Common.{ℕ, true, ◌+◌, ◌<◌, ◌≤◌, List, [], Option, Some, ◌≡◌, subst, arith}
use Rattle.laws_board.proofs.Names.{Machine, Move, SectionKind, Home, Clocks, board_at, clocks_at, AreKept, AreBefore, Release, Started}
use Rattle.plan_types.specs.Sections.{section_end}
use Rattle.section_feed.proofs.Staying.{plan-before}
use Rattle.section_feed.proofs.Taken.{steps-before}
use Rattle.section_units.specs.Fronts.{IsFrontBy}
use Rattle.section_units.specs.Merged.{plan_at, section_of}
use Rattle.section_units.specs.Plans.{IsFrontOnBy, plans_on, section_on}
use Rattle.section_units.proofs.Fronting.{section_front}
use Rattle.laws_board.specs.sections.Homes.{IsHomingIn}
use Rattle.motion_work.specs.Homes.{before_turn}
use Rattle.motion_work.specs.Seen.{IsHomed, IsPlanned}
use Rattle.motion_work.proofs.Sending.{cut_front}
use Rattle.motion_work.proofs.Turning.{end_after}

pub homed_of : (m : Machine) (clocks : List Clocks) (s : Started) (kind : SectionKind) (axis : ℕ) → kind ≡ Home axis → IsPlanned kind m clocks s → IsHomed m clocks s
homed_of m clocks s kind axis e h = let At : SectionKind → Type 0 = λ k. IsPlanned k m clocks s in subst At e h

-- units of a homing section that are the first ones of its plan
pub homing_cut : (m : Machine) (clocks : List Clocks) (moves : List Move) (b until start end : ℕ) (cut : List Release) (stops : ℕ → Option ℕ) → AreKept (clocks_at clocks b) → IsFrontOnBy true m clocks moves start b cut → AreBefore end cut
    → section_end m clocks moves start < until → ((turn : ℕ) → start ≤ turn + 254 → turn + 252 ≤ start → stops turn ≡ Some end)
    → IsHomingIn (clocks_at clocks b) (board_at m b).freq (board_at m b).slots until stops (section_of start end (plans_on m clocks moves start b) cut)
homing_cut m clocks moves b until start end cut stops kept f before limit stop =
    let planned = section_end m clocks moves start in
    record {
      spaced = f.spaced;
      last = planned;
      order = end_after m clocks moves start;
      limit = limit;
      within = λ oid. plan-before m clocks moves start b (planned + 1) oid (steps-before m clocks moves start b (planned + 1) kept (omega arith));
      begun = f.begun;
      fits = f.fits;
      from = f.from;
      exact = f.exact;
      paced = f.paced;
      released = before;
      stop = stop;
    }

-- and so are those of them that are released before a turn
pub cut_first : (m : Machine) (clocks : List Clocks) (moves : List Move) (b turn start : ℕ) (rs : List Release) → IsFrontOnBy true m clocks moves start b rs → IsFrontOnBy true m clocks moves start b (before_turn turn rs)
cut_first m clocks moves b turn start rs f =
    let freq = (board_at m b).freq in
    let slots = (board_at m b).slots in
    let cut = cut_front (clocks_at clocks b) slots turn f.from [] rs f.paced in
    let Front : List Release → Type 0 = λ x. IsFrontBy true (clocks_at clocks b) freq slots (section_on m clocks moves start b x) in
    section_front true (clocks_at clocks b) freq slots start (section_end m clocks moves start) (plan_at (plans_on m clocks moves start b)) (before_turn turn rs) cut.0 (subst Front cut.1 f)
