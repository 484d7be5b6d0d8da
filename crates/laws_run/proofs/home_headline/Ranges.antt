-- The ticks at which sections start are in range, and the groups of those that home may be formed.
use Rattle.std.proofs.Common.{◌≡◌, ℕ, zero, suc, ◌+◌, ◌*◌, ◌^◌, ◌<◌, ◌≤◌, ℤ, true, List, [], ◌∷◌, All, length, map, Some, refl, ◌∙◌, subst, arith, inl, inr, rules}
use Rattle.laws_board.proofs.Names.{leb_tells, All-head, All-tail, BoardDef, Machine, board_tick, clock_of, Clocks, IsValidMachine, axis_at, board_at, Seen, unseen, members_from, AreStarted, Started, Told, MotionTurn}
use Rattle.plan_types.specs.Clock.{own_tick}
use Rattle.plan_types.specs.Machines.{IsValidBoard}
use Rattle.trigger_group.specs.Kept.{may_be, movers}
use Rattle.motion_work.specs.Seen.{IsHomed}
use Rattle.laws_board.specs.sections.Events.{AreOwn}
use Rattle.laws_board.specs.sections.Parts.{AreTracked}
use Rattle.laws_board.proofs.sections.Linking.{own_ticks}
use Rattle.laws_board.proofs.orders.Going.{own_on}
use Rattle.laws_board.specs.plans.Planned.{AreKnown, Plans}
use Rattle.laws_board.proofs.plans.Cutting.{homed_of}
use Rattle.laws_board.proofs.plans.Running.{started_in}
use Rattle.laws_run.proofs.clock_ages.Own.{Own}
use Rattle.laws_board.specs.plans.Rows.{AreInARow}
use Rattle.laws_homing.specs.home_parts.Answers.{MayHome}
use Rattle.laws_homing.specs.home_parts.Cuts.{AreOverBefore}
use Rattle.laws_homing.proofs.home_parts.Cut.{over_late}
use Rattle.laws_homing.specs.home_parts.Known.{StartInRange}
use Rattle.laws_homing.proofs.home_parts.Bits.{movers_few}

-- a board's own ticks
own_first : (start freq : ℕ) (d : ℤ) → own_tick start freq d 0 ≡ start
unfolding own_tick
own_first start freq d = omega arith

own_far : (own : ℕ → ℕ) (k : ℕ) → ((j : ℕ) → own (j + 1) ≤ own j + 200_041) → own k ≤ own 0 + k * 200_041
own_far own zero few = omega arith
own_far own (suc k) few =
    let next : k + 1 ≡ suc k = omega arith in
    let one = subst (λ (n : ℕ). own n ≤ own k + 200_041) next (few k) in
    let rec = own_far own k few in
    omega (arith, one, rec)

all_small : (d : BoardDef) (turns : ℕ) (own : ℕ → ℕ) → IsValidBoard d → AreOwn d turns own → (k : ℕ) → k < 2 ^ 42 + 300 → own k < 2 ^ 61
all_small d turns own v o k soon =
    let first = o.same 0 (omega arith) ∙ own_first d.start d.freq d.drift in
    let start = v.start in
    let far = own_far own k o.few in
    omega (arith, first, start, far, soon)

pub own_small : (d : BoardDef) → IsValidBoard d → (k : ℕ) → k < 2 ^ 42 + 300 → board_tick (clock_of d) k < 2 ^ 61
own_small d v k soon = all_small d 0 (board_tick (clock_of d)) v (own_ticks d 0 v) k soon

pub on_small : (m : Machine) (b turns : ℕ) → IsValidBoard (board_at m b) → (k : ℕ) → k < 2 ^ 42 + 300 → Own m b turns k < 2 ^ 61
on_small m b turns v k soon = all_small (board_at m b) 0 (Own m b turns) v (own_on (board_at m b) 0 (turns + 349) v (omega arith)) k soon

-- the ticks of the starts
pub range_all : (m : Machine) (all : List Clocks) (own : ℕ → ℕ) (clocks : Clocks) (ready at : ℕ) (begun : List Started) → (k : AreTracked own clocks ready) → ((j : ℕ) → j < 2 ^ 42 + 300 → own j < 2 ^ 61) → ready ≤ at → AreInARow at begun → AreOverBefore m all k.until begun
    → All (λ s. s.start < 2 ^ 42 + 260) begun → StartInRange clocks begun
range_all m all own clocks ready at [] k small early row ends soon = tt
range_all m all own clocks ready at (s ∷ begun) k small early row ends soon =
    let P : Started → Type 0 = λ x. x.start < 2 ^ 42 + 260 in
    let start = row.0 in
    let order = row.1 in
    let end = ends.0 in
    let after = over_late s.section.kind m all s order in
    let here = All-head P s begun soon in
    let low = k.ahead s.start (omega (arith, early, start)) (omega (arith, end, after)) in
    let most = small (s.start + 4) (omega (arith, here)) in
    (omega (arith, low, most), range_all m all own clocks ready (s.end + 260) begun k small (omega (arith, early, start, order)) row.2 ends.1 (All-tail P s begun soon))

-- a group may be formed
may_true : (ms : List Seen) (start last : ℕ) → 254 ≤ start → start ≤ last → last < 2 ^ 63 → movers ms ≤ 16 → may_be ms start last ≡ true
may_true ms start last a b c d = search (rules, leb_tells)

one_may : (m : Machine) (v : IsValidMachine m) (clocks : List Clocks) (s : Started) (axis : ℕ) → IsHomed m clocks s → 254 ≤ s.start → may_be (map unseen (members_from m (axis_at m axis) s.moving 0 m.boards)) s.start s.last ≡ true
one_may m v clocks s axis h early = search (rules, movers_few, axis_at, may_true, unseen, members_from)

may_from : (m : Machine) (v : IsValidMachine m) (clocks : List Clocks) (at : ℕ) (begun : List Started) → 254 ≤ at → AreStarted m clocks at begun → MayHome m begun
may_from m v clocks at [] late h = tt
may_from m v clocks at (s ∷ begun) late h =
    let start = h.0.start in (
      λ axis home. one_may m v clocks s axis (homed_of m clocks s s.section.kind axis home h.0.planned) (omega (arith, late, start)),
      may_from m v clocks (s.end + 260) begun (omega arith) h.1,
    )

pub may_all : (m : Machine) (v : IsValidMachine m) (ts : List MotionTurn) (p : Plans m (length m.boards) ts) (t : Told) → p.seen.told ≡ Some t → MayHome m p.seen.begun
may_all m v ts p t told = let known = subst (AreKnown m) told p.known in let late = known.2 in may_from m v t.clocks t.first p.seen.begun (omega (arith, late)) (started_in m ts p t told)

-- sections start soon
starts_low : (n : ℕ) (begun : List Started) → n ≤ 2 ^ 42 → All (λ s. s.start < n + 260) begun → All (λ s. s.start < 2 ^ 42 + 260) begun
starts_low n begun low h = λ i d lt. let x = h i d lt in omega (arith, x, low)

pub starts_soon : (m : Machine) (n : ℕ) (ts : List MotionTurn) (p : Plans m n ts) → All (λ s. s.start < 2 ^ 42 + 260) p.seen.begun
starts_soon m n ts p = starts_low _ p.seen.begun p.small p.started
