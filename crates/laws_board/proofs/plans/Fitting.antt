-- The pulses that a report tells of a section fit the stepper's plan of it.
use Rattle.std.proofs.Common.{◌≡◌, ℕ, zero, suc, inl, inr, ◌+◌, ◌-◌, ◌<◌, not, Bool, true, false, List, [], ◌∷◌, ◌++◌, drop, get_or, length, take, refl, ap, sym, ◌∙◌, subst, arith, append-nil}
use Rattle.laws_board.proofs.Names.{eqb_tells, map-append, flat_map, Machine, Move, Planned, Pulse, Clocks, IsValidMachine, stepper_at, Fits, stepper_plan, State, only, machine_line, Started, ReactorTurn, gather, item}
use Rattle.std.proofs.lemmas.List.FromFn.{length-map-range_with_len, get_or-map-range_with_len}
use Rattle.plan_types.specs.Machines.{no_stepper}
use Rattle.plan_types.specs.Sections.{section_plans}
use Rattle.section_units.specs.Units.{as_sent, sent}
use Rattle.board_sim.proofs.Steps.{only-append}
use Rattle.laws_board.specs.sections.Boards.{OnBoard, told_in}
use Rattle.laws_board.specs.sections.Links.{pulses_in}
use Rattle.host_reactor.specs.Report.{turned}
use Rattle.section_units.specs.Plans.{plans_on}
use Rattle.section_units.specs.Merged.{plan_at}
use Rattle.laws_board.specs.plans.Boards.{TookStates, as_told, lines_between}
use Rattle.laws_board.specs.plans.Lines.{TellTurns, TellsTurn, pulses_of, starts_at}
use Rattle.laws_board.proofs.plans.Placing.{count_is, own_plan, states_pulses}
use Rattle.laws_board.proofs.plans.Telling.{pulses_append}
use Rattle.plan_types.proofs.Facts.{not_not}

turned_back : (inverted up x : Bool) → up ≡ sent inverted x → turned inverted up ≡ x
turned_back true up x e = ap not e ∙ not_not x
turned_back false up x e = e

pub fits_told : (m : Machine) (place freq before : ℕ) (ps : List Pulse) (plan : List Planned) → Fits freq before ps (as_sent (stepper_at m place).inverted plan) → Fits freq before (as_told m place ps) plan
fits_told m place freq before [] plan f = tt
fits_told m place freq before (p ∷ ps) [] f = absurd f
fits_told m place freq before (p ∷ ps) (s ∷ plan) f = (
  record { direction = turned_back (stepper_at m place).inverted p.up s.up f.0.direction; not_early = f.0.not_early; not_late = f.0.not_late },
  fits_told m place freq s.tick ps plan f.1,
)

-- the pulses of a turn
no_machine : (m : Machine) (place k : ℕ) → pulses_of place (machine_line m k) ≡ []
no_machine m place k = elim (eqb_tells k 0) [ inl p ↦ rw p.0 refl | inr p ↦ rw p.0 refl ]

no_starts : (place k i : ℕ) (ss : List Started) → pulses_of place (starts_at k i ss) ≡ []
no_starts place k i [] = refl
no_starts place k i (s ∷ ss) = elim (eqb_tells s.start k) [ inl p ↦ rw p.0 (no_starts place k (i + 1) ss) | inr p ↦ rw p.0 (no_starts place k (i + 1) ss) ]

told_append : (m : Machine) (place : ℕ) (ps qs : List Pulse) → as_told m place (ps ++ qs) ≡ as_told m place ps ++ as_told m place qs
told_append m place ps qs = map-append (λ (p : Pulse). record { tick = p.tick; stepper = place; up = turned (stepper_at m place).inverted p.up }) ps qs

turn_pulses : (m : Machine) (v : IsValidMachine m) (place k : ℕ) (begun : List Started) (t : ReactorTurn) (s : State) → place < length m.steppers → TellsTurn m begun k t
    → item (stepper_at m place).board t.states ≡ s ∷ [] → pulses_of place t.lines ≡ as_told m place (only (stepper_at m place).oid s.pulses)
turn_pulses m v place k begun t s h tells took =
    let own = as_told m place (only (stepper_at m place).oid s.pulses) in
    let b = (stepper_at m place).board in
    let zero_more : 0 + b ≡ b = omega arith in
    ap (pulses_of place) tells.are ∙ pulses_append place (machine_line m k) (starts_at k 0 begun ++ tells.rest)
    ∙ ap (λ x. x ++ pulses_of place (starts_at k 0 begun ++ tells.rest)) (no_machine m place k)
    ∙ pulses_append place (starts_at k 0 begun) tells.rest ∙ ap (λ x. x ++ pulses_of place tells.rest) (no_starts place k 0 begun)
    ∙ tells.pulses place ∙ states_pulses m v place 0 b t.states h zero_more
    ∙ ap (λ x. flat_map (λ (y : State). as_told m place (only (stepper_at m place).oid y.pulses)) x) took ∙ append-nil own

-- and of some
pub turns_pulses : (m : Machine) (v : IsValidMachine m) (place k : ℕ) (begun : List Started) (rs : List ReactorTurn) (states : List State) → place < length m.steppers → TellTurns m begun k rs
    → TookStates (stepper_at m place).board rs states → pulses_of place (gather (λ t. t.lines) rs) ≡ as_told m place (only (stepper_at m place).oid (pulses_in states))
turns_pulses m v place k begun [] states h tells took = ap (λ x. as_told m place (only (stepper_at m place).oid (pulses_in x))) (sym took)
turns_pulses m v place k begun (t ∷ rs) [] h tells took = absurd took
turns_pulses m v place k begun (t ∷ rs) (s ∷ states) h tells took =
    let o = (stepper_at m place).oid in
    pulses_append place t.lines (gather (λ (x : ReactorTurn). x.lines) rs)
    ∙ ap (λ x. x ++ pulses_of place (gather (λ (y : ReactorTurn). y.lines) rs)) (turn_pulses m v place k begun t s h tells.0 took.0)
    ∙ ap (λ x. as_told m place (only o s.pulses) ++ x) (turns_pulses m v place (k + 1) begun rs states h tells.1 took.1)
    ∙ sym (ap (as_told m place) (only-append o s.pulses (pulses_in states)) ∙ told_append m place (only o s.pulses) (only o (pulses_in states)))

-- turns from one on, and the first ones
drop_tells : (m : Machine) (begun : List Started) (k n : ℕ) (rs : List ReactorTurn) → TellTurns m begun k rs → TellTurns m begun (k + n) (drop n rs)
drop_tells m begun k zero rs t = let e : k ≡ k + 0 = omega arith in let At : ℕ → Type 0 = λ i. TellTurns m begun i rs in subst At e t
drop_tells m begun k (suc n) [] t = tt
drop_tells m begun k (suc n) (r ∷ rs) t =
    let e : k + 1 + n ≡ k + suc n = omega arith in
    let At : ℕ → Type 0 = λ i. TellTurns m begun i (drop n rs) in
    subst At e (drop_tells m begun (k + 1) n rs t.1)

take_tells : (m : Machine) (begun : List Started) (k n : ℕ) (rs : List ReactorTurn) → TellTurns m begun k rs → TellTurns m begun k (take n rs)
take_tells m begun k zero rs t = tt
take_tells m begun k (suc n) [] t = tt
take_tells m begun k (suc n) (r ∷ rs) t = (t.0, take_tells m begun (k + 1) n rs t.1)

drop_took : (b n : ℕ) (rs : List ReactorTurn) (states : List State) → TookStates b rs states → TookStates b (drop n rs) (drop n states)
drop_took b zero rs states t = t
drop_took b (suc n) [] states t = ap (drop (suc n)) t
drop_took b (suc n) (r ∷ rs) [] t = absurd t
drop_took b (suc n) (r ∷ rs) (s ∷ states) t = drop_took b n rs states t.1

take_took : (b n : ℕ) (rs : List ReactorTurn) (states : List State) → TookStates b rs states → TookStates b (take n rs) (take n states)
take_took b zero rs states t = refl
take_took b (suc n) [] states t = ap (take (suc n)) t
take_took b (suc n) (r ∷ rs) [] t = absurd t
take_took b (suc n) (r ∷ rs) (s ∷ states) t = (t.0, take_took b n rs states t.1)

-- the pulses between two turns
pub between : (m : Machine) (v : IsValidMachine m) (place from to : ℕ) (begun : List Started) (rs : List ReactorTurn) (x : OnBoard) → place < length m.steppers → TellTurns m begun 1 rs
    → TookStates (stepper_at m place).board rs x.states → pulses_of place (lines_between from to rs) ≡ as_told m place (only (stepper_at m place).oid (told_in from to x))
between m v place from to begun rs x h tells took =
    let b = (stepper_at m place).board in
    turns_pulses m v place (1 + from) begun (take (to - from) (drop from rs)) (take (to - from) (drop from x.states)) h
    (take_tells m begun (1 + from) (to - from) (drop from rs) (drop_tells m begun 1 from rs tells)) (take_took b (to - from) (drop from rs) (drop from x.states) (drop_took b from rs x.states took))

-- the plan of a stepper in a section
pub plan_is : (m : Machine) (v : IsValidMachine m) (clocks : List Clocks) (moves : List Move) (start place : ℕ) → place < length m.steppers
    → plan_at (plans_on m clocks moves start (stepper_at m place).board) (stepper_at m place).oid ≡ as_sent (stepper_at m place).inverted (stepper_plan m clocks moves start place)
plan_is m v clocks moves start place h =
    let s = stepper_at m place in
    let plans = section_plans m clocks moves start in
    let many : length plans ≡ length m.steppers = length-map-range_with_len (stepper_plan m clocks moves start) 0 (length m.steppers) in
    let own : get_or plans place [] ≡ stepper_plan m clocks moves start place = get_or-map-range_with_len (stepper_plan m clocks moves start) 0 (length m.steppers) place place [] h (omega arith) in
    ap (λ n. plan_at (plans_on m clocks moves start s.board) n) ((v.steppers place h).oid ∙ count_is s.board (take place m.steppers))
    ∙ own_plan s.board m.steppers plans place no_stepper h (omega (arith, h, many)) refl ∙ ap (as_sent s.inverted) own
