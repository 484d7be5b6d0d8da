-- What the controls of a board hold while the planner's sections go on.
use Rattle.std.proofs.Common.{◌≡◌, ℕ, ◌+◌, ◌-◌, ◌*◌, ◌^◌, ◌<◌, ◌≤◌, List, [], ◌∷◌, ◌++◌, All, length, min, Some, refl, ap, sym, ◌∙◌, subst, arith}
use Rattle.laws_board.proofs.Names.{Level, Machine, turn_ns, Clocks, lines_tick, IsValidMachine, clocks_at, turn_tick, AreKept, Entry, Switch, orders, Orders, noted, Came, GoesOn, known_by, Started, Told, MotionTurn}
use Rattle.plan_types.specs.Sections.{is_home}
use Rattle.laws_board.specs.turns.Turns.{BoardTurn}
use Rattle.laws_board.specs.clocks.Runs.{IsInRun, orders_in}
use Rattle.laws_board.proofs.clocks.Orders.{order_length}
use Rattle.laws_board.specs.sections.Homes.{IsControlIn, RunSection}
use Rattle.laws_board.specs.plans.Homed.{TookControlsIn}
use Rattle.laws_board.specs.plans.Planned.{Plans}
use Rattle.laws_homing.specs.home_plans.Notes.{CameNotes, HoldControlsIn, KnowBases, ShowsSections, WasBegun}
use Rattle.laws_homing.proofs.home_plans.Controlling.{all_hold}
use Rattle.laws_homing.proofs.home_plans.Knowing.{now_was}
use Rattle.laws_homing.specs.home_parts.Answers.{IsPlannedBy}
use Rattle.laws_homing.specs.home_parts.Cuts.{cut_on, cuts_on}
use Rattle.laws_homing.specs.home_parts.Known.{KnowsLately, StartInRange}
use Rattle.laws_homing.proofs.home_parts.Held.{tick_known}
use Rattle.laws_homing.proofs.home_parts.Known.{known_start}

-- the controls of turns, in order
took_both : (clocks : Clocks) (ss : List RunSection) (k : ℕ) (xs : List Orders) (o : Orders) → TookControlsIn clocks ss k xs → All (IsControlIn clocks ss (k + length xs)) o.control.commands → TookControlsIn clocks ss k (xs ++ o ∷ [])
took_both clocks ss k [] o h a =
    let e : k + 0 ≡ k = omega arith in
    let At : ℕ → Type 0 = λ n. All (IsControlIn clocks ss n) o.control.commands in
    (subst At e a, tt)
took_both clocks ss k (x ∷ xs) o h a =
    let e : k + length (x ∷ xs) ≡ k + 1 + length xs = omega arith in
    let At : ℕ → Type 0 = λ n. All (IsControlIn clocks ss n) o.control.commands in
    (h.0, took_both clocks ss (k + 1) xs o h.1 (subst At e a))

pub took_all : (clocks : Clocks) (ss : List RunSection) (turns : List BoardTurn) → HoldControlsIn clocks ss turns → TookControlsIn clocks ss 0 (orders_in turns)
took_all clocks ss [] h = tt
took_all clocks ss (t ∷ before) h =
    let e : length before ≡ 0 + length (orders_in before) = (let n = order_length before in omega (arith, n)) in
    let At : ℕ → Type 0 = λ n. All (IsControlIn clocks ss n) t.control.commands in
    took_both clocks ss 0 (orders_in before) (orders t.control t.batch) (took_all clocks ss before h.1) (subst At e h.0)

pub range_at : (clocks : Clocks) (xs : List Started) (s : Started) (later : List Started) → StartInRange clocks (xs ++ s ∷ later) → lines_tick clocks (s.start * turn_ns) < 2 ^ 64
range_at clocks [] s later h = h.0
range_at clocks (x ∷ xs) s later h = range_at clocks xs s later h.1

least_first : (x y : ℕ) → x ≤ y → min x y ≡ x
least_first x y h = omega (arith, h)

module _ (m : Machine) (switches : List Switch) (b : ℕ) (ts : List MotionTurn) (p : Plans m (length m.boards) ts) (t : Told) (until : ℕ)
    (range : StartInRange (clocks_at t.clocks b) p.seen.begun) (kept : AreKept (clocks_at t.clocks b)) where
  bases : (came : List Came) → GoesOn m switches came → CameNotes p.seen.begun came → KnowsLately m switches t.clocks came → KnowBases m switches b (clocks_at t.clocks b) (cut_on m t.clocks until b) came
  bases [] g notes knows = tt
  bases (c ∷ before) g notes knows = (
    λ past h s e same.
        let was : WasBegun p.seen.begun (Some h) = subst (WasBegun p.seen.begun) e (now_was m switches p.seen.begun c before g.1 notes) in
        let start = was.6 in
        let Range : List Started → Type 0 = λ ss. StartInRange (clocks_at t.clocks b) ss in
        let in_range = range_at (clocks_at t.clocks b) was.0 was.1 was.2 (subst Range was.4 range) in
        let Tick : ℕ → Type 0 = λ n. lines_tick (clocks_at t.clocks b) (n * turn_ns) < 2 ^ 64 in
        let low = subst Tick (sym start) in_range in
        let own = clocks_at t.clocks b in
        let soon = known_start m switches p.seen.begun c before h g.1 notes e in
        let now = tick_known (noted m c.note (known_by m switches before)).clocks t.clocks (length before + 276) b h.start (knows.0 past) kept (omega (arith, soon)) in
        let whole : turn_tick own h.start ≡ lines_tick own (h.start * turn_ns) = least_first (lines_tick own (h.start * turn_ns)) (2 ^ 64 - 1) (omega (arith, low)) in
        ap (λ n. min n (2 ^ 64 - 1)) now ∙ whole ∙ ap (λ n. lines_tick own (n * turn_ns)) same,
    bases before g.1 notes.1 knows.1,
  )

pub hold_all : (m : Machine) (switches : List Switch) (pins : List (List Level)) (entries : List Entry) (b until : ℕ) (ts : List MotionTurn) (p : Plans m (length m.boards) ts) (t : Told) (came : List Came) (turns : List BoardTurn) → IsValidMachine m
    → IsPlannedBy m switches (length m.boards) ts p came → StartInRange (clocks_at t.clocks b) p.seen.begun → AreKept (clocks_at t.clocks b)
    → KnowsLately m switches t.clocks came → IsInRun m switches pins entries b came turns → HoldControlsIn (clocks_at t.clocks b) (cuts_on m t.clocks until p.seen.begun b) turns
hold_all m switches pins entries b until ts p t came turns v by range kept knows run =
    let shows : ShowsSections (cut_on m t.clocks until b) p.seen.begun (cuts_on m t.clocks until p.seen.begun b) = record { are = refl; homes = λ s axis e. ap is_home e; start = λ s. refl } in
    all_hold m switches pins entries b (clocks_at t.clocks b) (cut_on m t.clocks until b) p.seen.begun (cuts_on m t.clocks until p.seen.begun b) came turns v run by.notes shows (bases m switches b ts p t until range kept came by.goes_on by.notes knows)

pub controls_held : (m : Machine) (switches : List Switch) (pins : List (List Level)) (entries : List Entry) (b until : ℕ) (ts : List MotionTurn) (p : Plans m (length m.boards) ts) (t : Told) (came : List Came) (turns : List BoardTurn) → IsValidMachine m
    → IsPlannedBy m switches (length m.boards) ts p came → StartInRange (clocks_at t.clocks b) p.seen.begun → AreKept (clocks_at t.clocks b)
    → KnowsLately m switches t.clocks came → IsInRun m switches pins entries b came turns → TookControlsIn (clocks_at t.clocks b) (cuts_on m t.clocks until p.seen.begun b) 0 (orders_in turns)
controls_held m switches pins entries b until ts p t came turns v by range kept knows run =
    took_all (clocks_at t.clocks b) (cuts_on m t.clocks until p.seen.begun b) turns (hold_all m switches pins entries b until ts p t came turns v by range kept knows run)
