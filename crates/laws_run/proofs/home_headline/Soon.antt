-- The pulses that a report tells up to a turn, in a run in which axes home, are before the tick that the board's clock lines have a few turns later.
use Rattle.std.proofs.Common.{◌≡◌, ◌∙◌, ℕ, ◌+◌, ◌*◌, ◌<◌, ◌≤◌, All, List, [], ◌∷◌, sym, subst, arith}
use Rattle.laws_board.proofs.Names.{append_cancel_left, All-cons, All-nil, BoardDef, Machine, Pulse, board_tick, clock_of, turn_ns, Clocks, lines_tick, IsValidMachine, board_at, stepper_at, clocks_at, Entry, only, run_world, new_world, Started, ReactorTurn}
use Rattle.plan_types.specs.Plan.{max_error}
use Rattle.section_feed.specs.Boards.{IsLasting}
use Rattle.laws_board.specs.sections.Boards.{OnBoard, told_in}
use Rattle.laws_board.specs.sections.Homes.{IsHomeBoard, RunSection}
use Rattle.laws_board.specs.sections.Parts.{AreTracked}
use Rattle.laws_board.proofs.sections.Entering.{AreEarly}
use Rattle.laws_board.proofs.sections.HomeBoards.{cut_at}
use Rattle.laws_board.proofs.sections.HomeSpans.{halves}
use Rattle.laws_board.proofs.sections.Spans.{between_early, early_up}
use Rattle.laws_board.specs.plans.Boards.{as_told, lines_between}
use Rattle.laws_board.specs.plans.Lines.{TellTurns, pulses_of}
use Rattle.laws_board.proofs.plans.Fitting.{between}
use Rattle.laws_homing.specs.home_parts.Reports.{IsHomeStepper}

-- what a board told in some turns was made before its own tick as the last of them ended
told_before : (place : ℕ) (entries : List Entry) (ready turns from to : ℕ) (ss : List RunSection) (x : OnBoard) → IsHomeBoard place entries ready turns ss x → from ≤ to → to ≤ turns → (oid : ℕ)
    → AreEarly (board_tick (clock_of x.board) to) (only oid (told_in from to x))
told_before place entries ready turns from to ss x k order within oid =
    let c = cut_at x place entries ready from to turns ss k order within in
    let h = halves x.board x.pins k.own x.clocks ready k.stops ss c.before c.during c.behind c.first c.second c.span in
    let made = (run_world c.first (new_world x.board x.pins)).made in
    let same : h.new.0 ≡ told_in from to x = append_cancel_left made h.new.0 (told_in from to x) (sym h.new.1 ∙ c.made) in
    let Own : List Pulse → Type 0 = λ ps. AreEarly (k.own to) (only oid ps) in
    let At : ℕ → Type 0 = λ n. AreEarly (k.own n) (only oid h.new.0) in
    let early = subst Own same (subst At c.to_is (between_early _ _ (only oid h.new.0) (h.new.2 oid))) in
    subst (λ (n : ℕ). AreEarly n (only oid (told_in from to x))) (k.own_is.same to within) early

told_early : (m : Machine) (place x : ℕ) (ps : List Pulse) → AreEarly x ps → AreEarly x (as_told m place ps)
told_early m place x [] early = tt
told_early m place x (p ∷ ps) early = (early.0, told_early m place x ps early.1)

all_early : (e x y : ℕ) (ps : List Pulse) → x + e ≤ y → AreEarly x ps → All (λ p. p.tick + e < y) ps
all_early e x y [] apart early = All-nil (λ (p : Pulse). p.tick + e < y)
all_early e x y (p ∷ ps) apart early = let soon = early.0 in All-cons (λ (q : Pulse). q.tick + e < y) p ps (omega (arith, soon, apart)) (all_early e x y ps apart early.1)

-- The pulses that a report tells in some turns: by as many ticks as a step may be early they are before the tick that the board's clock lines have
-- in the seventh turn behind the last of these.
pub home_soon : (m : Machine) (v : IsValidMachine m) (begun : List Started) (rs : List ReactorTurn) (entries : List Entry) (ready until turns from to place : ℕ) (x : OnBoard) (clocks : List Clocks) → TellTurns m begun 1 rs
    → IsHomeStepper m clocks begun rs entries ready until turns place x → from ≤ to → to ≤ turns → (k : AreTracked (board_tick (clock_of (board_at m (stepper_at m place).board))) (clocks_at clocks (stepper_at m place).board) ready) → ready ≤ to → to ≤ k.until
    → IsLasting (clocks_at clocks (stepper_at m place).board) → (clocks_at clocks (stepper_at m place).board).first.freq ≡ (board_at m (stepper_at m place).board).freq → (clocks_at clocks (stepper_at m place).board).first.at ≤ (to + 1) * turn_ns
    → All (λ p. p.tick + max_error (board_at m (stepper_at m place).board).freq < lines_tick (clocks_at clocks (stepper_at m place).board) ((to + 7) * turn_ns)) (pulses_of place (lines_between from to rs))
home_soon m v begun rs entries ready until turns from to place x clocks tells on order within k late soon lasting same at =
    let b = (stepper_at m place).board in
    let o = (stepper_at m place).oid in
    let line = clocks_at clocks b in
    let freq = (board_at m b).freq in
    let own = only o (told_in from to x) in
    let bound = lines_tick line ((to + 1) * turn_ns) in
    let Board : BoardDef → Type 0 = λ d. AreEarly (board_tick (clock_of d) to) own in
    let made = subst Board on.board (told_before b entries ready turns from to _ x on.is order within o) in
    let early = early_up (board_tick (clock_of (board_at m b)) to) bound own (k.behind to late soon) made in
    let told : AreEarly bound (pulses_of place (lines_between from to rs)) = subst (λ (y : List Pulse). AreEarly bound y) (sym (between m v place from to begun rs x on.there tells on.states)) (told_early m place bound own early) in
    let Error : ℕ → Type 0 = λ n. bound + max_error n ≤ lines_tick line ((to + 1 + 6) * turn_ns) in
    let Turn : ℕ → Type 0 = λ n. bound + max_error freq ≤ lines_tick line (n * turn_ns) in
    let seven : to + 1 + 6 ≡ to + 7 = omega arith in
    let apart = subst Turn seven (subst Error same (lasting.apart.turns (to + 1) at)) in
    all_early (max_error freq) bound (lines_tick line ((to + 7) * turn_ns)) (pulses_of place (lines_between from to rs)) apart told
