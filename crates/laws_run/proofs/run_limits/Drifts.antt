-- The further clock lines of a run tell ticks that the boards may have.
use Rattle.std.proofs.Common.{◌≡◌, ℕ, ◌+◌, ◌*◌, ◌^◌, ◌<◌, ◌≤◌, Bool, true, false, List, [], ◌∷◌, ◌++◌, length, Some, sym, refl, subst, arith, inl, inr, rules}
use Rattle.std.specs.Prelude.{◌==◌, if◌then◌else◌}
use Rattle.laws_board.proofs.Names.{eqb_tells, BoardClock, Machine, Held, Line, clock_of, turn_ns, IsValidMachine, board_at, clocks_at, ReportLine, Scene, Told, MotionTurn, ReactorTurn}
use Rattle.plan_types.specs.Clock.{own_tick}
use Rattle.report_text.specs.declared.line.ReportLine.TheVariants as report
use Rattle.clock_line.specs.Samples.{ppm_size}
use Rattle.host_reactor.specs.Report.{turn_at}
use Rattle.laws_board.specs.turns.Turns.{BoardTurn}
use Rattle.laws_board.specs.clocks.Samples.{IsSampled}
use Rattle.laws_board.proofs.clocks.Clear.{told_before}
use Rattle.laws_board.proofs.clocks.Lines.{as_long}
use Rattle.session_run.specs.Boards.{came_from}
use Rattle.laws_board.specs.orders.Renewed.{AreSampled}
use Rattle.laws_run.specs.lanes.Boards.{IsInWhole, turns_behind}
use Rattle.laws_board.specs.plans.Lines.{drifts_of, held_lines}
use Rattle.laws_board.specs.plans.Planned.{Plans}
use Rattle.laws_run.specs.run_headline.Further.{AreNamed, TellFurther}
use Rattle.laws_run.specs.run_headline.Timely.{link_of}
use Rattle.laws_run.proofs.run_headline.Boarded.{Ready, lined, run_of, valid_at}
use Rattle.laws_run.proofs.run_headline.Facts.{came_long}
use Rattle.laws_run.specs.run_limits.Limits.{DriftsLow, greatest_tick}
use Rattle.laws_run.proofs.run_limits.Own.{own_few}
use Rattle.laws_homing.proofs.clear_groups.Noted.{drift_small}

-- the tick that a line tells which is that of a sample
clock_low : (clock : BoardClock) (turns : List BoardTurn) (line : Line) → clock.start ≤ 2 ^ 40 → clock.freq ≤ 200_000_000 → ppm_size clock.drift ≤ 200 → length turns ≤ 2 ^ 63 → IsSampled clock turns line → line.clock ≤ greatest_tick (turn_at line.at)
clock_low clock turns line low high few small x = search (rules, told_before, own_few, turn_ns)

-- so those of a board
held_low : (clock : BoardClock) (turns : List BoardTurn) (b : ℕ) (held : List Held) → clock.start ≤ 2 ^ 40 → clock.freq ≤ 200_000_000 → ppm_size clock.drift ≤ 200 → length turns ≤ 2 ^ 63 → AreSampled clock turns held → DriftsLow (held_lines b held)
held_low clock turns b [] low high few small sampled = tt
held_low clock turns b (h ∷ held) low high few small sampled = (clock_low clock turns h.line low high few small sampled.0, held_low clock turns b held low high few small sampled.1)

first_sampled : (clock : BoardClock) (turns : List BoardTurn) (told rest : List Held) → AreSampled clock turns (told ++ rest) → AreSampled clock turns told
first_sampled clock turns [] rest sampled = tt
first_sampled clock turns (h ∷ told) rest sampled = (sampled.0, first_sampled clock turns told rest sampled.1)

-- and those of all boards
rest_low : (t : Bool) (board sent clock from : ℕ) (lines : List ReportLine) → DriftsLow ((if t then report.Drift board sent clock from ∷ [] else []) ++ lines) → DriftsLow lines
rest_low true board sent clock from lines low = low.1
rest_low false board sent clock from lines low = low

all_low : (m : Machine) (lines : List ReportLine) → ((b : ℕ) → b < length m.boards → DriftsLow (drifts_of b lines)) → AreNamed m lines → DriftsLow lines
all_low m [] each names = tt
all_low m (report.Drift board sent clock from ∷ lines) each names =
    let self : (board == board) ≡ true = elim (eqb_tells board board) [ inl p ↦ p.0 | inr p ↦ absurd (p.1 refl) ] in
    let own : DriftsLow (report.Drift board sent clock from ∷ drifts_of board lines) = subst (λ (t : Bool). DriftsLow ((if t then report.Drift board sent clock from ∷ [] else []) ++ drifts_of board lines)) self (each board names.0) in
    (own.0, all_low m lines (λ b low. rest_low (board == b) board sent clock from (drifts_of b lines) (each b low)) names.1)
all_low m (report.Machine corexy boards steppers ∷ lines) each names = all_low m lines each names
all_low m (report.Board board freq turn tick ∷ lines) each names = all_low m lines each names
all_low m (report.Section i turn kind ∷ lines) each names = all_low m lines each names
all_low m (report.Pulse board stepper tick up ∷ lines) each names = all_low m lines each names
all_low m (report.Cut i board pin tick from ∷ lines) each names = all_low m lines each names
all_low m (report.Lines accepted passed ∷ lines) each names = all_low m lines each names
all_low m (report.Out board pin tick on ∷ lines) each names = all_low m lines each names
all_low m (report.Made seed moves ∷ lines) each names = all_low m lines each names
all_low m (report.Count stepper pulses ∷ lines) each names = all_low m lines each names
all_low m (report.Fit section stepper pulses planned early late ∷ lines) each names = all_low m lines each names
all_low m (report.End c ∷ lines) each names = all_low m lines each names

module _ (m : Machine) (v : IsValidMachine m) (s : Scene) (ts : List MotionTurn) (p : Plans m (length m.boards) ts) (t : Told) (first : ReactorTurn) (rest : List ReactorTurn) (end : ReactorTurn) (told : p.seen.told ≡ Some t) (r : Ready m v s ts p t first rest end told)
    (boards : (b : ℕ) → b < length m.boards → IsInWhole m s.switches b (clock_of (board_at m b)) (link_of m s b) ts first (rest ++ end ∷ [])) (few : length rest < 2 ^ 63) where
  board_drifts : (b : ℕ) (told_held rest_held : List Held) → b < length m.boards → (clocks_at t.clocks b).held ≡ told_held ++ rest_held → DriftsLow (held_lines b told_held)
  board_drifts b told_held rest_held h are =
      let clock = clock_of (board_at m b) in
      let w = boards b h in
      let turns = turns_behind [] w.made in
      let valid = valid_at m.boards b h v.boards in
      let sampled : AreSampled clock turns (told_held ++ rest_held) = subst (λ (x : List Held). AreSampled clock turns x) are (lined m v s ts p t first rest end told b r w h).sampled in
      let long = as_long m s.switches b (came_from [] (first ∷ rest)) turns (run_of m v s ts p t first rest end told b w h).both in
      let size = came_long [] (first ∷ rest) in
      held_low clock turns b told_held valid.start valid.freq.high (drift_small (board_at m b).drift valid.drift_low valid.drift_high) (omega (arith, long, size, few)) (first_sampled clock turns told_held rest_held sampled)

  pub drifts_low : (last : ℕ) (lines : List ReportLine) → TellFurther m t.clocks last lines → DriftsLow lines
  drifts_low last lines tells = all_low m lines (λ b h. (let x = tells.further b h in subst DriftsLow (sym x.lines_are) (board_drifts b x.told x.rest h x.are))) tells.named
