-- The boards' lines tell ticks that the boards may have.
use Rattle.std.proofs.Common.{◌≡◌, ℕ, suc, ◌+◌, ◌-◌, ◌*◌, ◌/◌, ◌^◌, ◌<◌, ◌≤◌, List, [], ◌∷◌, ◌++◌, All, length, Some, ap, sym, ◌∙◌, subst, arith, rules}
use Rattle.std.proofs.Math.Nat.{div-le_of_le-mul, mul-le-mul}
use Rattle.laws_board.proofs.Names.{All-head, BoardClock, Machine, Line, clock_of, tick, turn_ns, Clocks, IsValidMachine, board_at, clocks_at, Scene, pins_of, Came, Told, MotionTurn, ReactorTurn}
use Rattle.plan_types.specs.Clock.{own_tick}
use Rattle.msg_code.specs.declared.talk.WordNews.{WordNews}
use Rattle.clock_line.specs.Samples.{ppm_size}
use Rattle.laws_board.specs.turns.Turns.{BoardTurn}
use Rattle.laws_board.specs.clocks.Runs.{IsInRun}
use Rattle.laws_board.specs.clocks.Samples.{IsSampled, lines_told}
use Rattle.laws_board.proofs.clocks.Clear.{told_before}
use Rattle.laws_board.proofs.clocks.Lines.{as_long, told_lines}
use Rattle.session_run.specs.Boards.{came_from, came_in}
use Rattle.laws_run.specs.lanes.Boards.{IsInWhole, turns_behind}
use Rattle.laws_run.specs.run_ends.Boards.{lines_at}
use Rattle.laws_board.specs.plans.Planned.{Plans}
use Rattle.laws_run.specs.run_headline.Timely.{link_of}
use Rattle.laws_run.proofs.run_headline.Boarded.{Ready, first_same, run_of, valid_at}
use Rattle.laws_run.proofs.run_headline.Fronts.{front_of, one_less}
use Rattle.laws_run.proofs.run_headline.Words.{line_is}
use Rattle.laws_run.specs.run_limits.Limits.{AreLow, greatest_tick, start_limit}
use Rattle.laws_run.proofs.run_limits.Own.{own_few}
use Rattle.laws_homing.proofs.clear_groups.Noted.{drift_small}

-- the line of a sample that was got before a turn
line_low : (clock : BoardClock) (turns : List BoardTurn) (line : Line) (ready : ℕ) → clock.start ≤ 2 ^ 40 → clock.freq ≤ 200_000_000 → ppm_size clock.drift ≤ 200 → length turns ≤ ready → IsSampled clock turns line → tick line (ready * turn_ns) ≤ greatest_tick ready
line_low clock turns line ready low high few soon x = search (rules, told_before, own_few, mul-le-mul, div-le_of_le-mul, tick, turn_ns)

-- the clock line of a board of a run, where connecting ended in a turn of it
pub board_low : (m : Machine) (v : IsValidMachine m) (s : Scene) (ts : List MotionTurn) (p : Plans m (length m.boards) ts) (t : Told) (first : ReactorTurn) (rest : List ReactorTurn) (end : ReactorTurn) (told : p.seen.told ≡ Some t)
    → (r : Ready m v s ts p t first rest end told) (b : ℕ) → IsInWhole m s.switches b (clock_of (board_at m b)) (link_of m s b) ts first (rest ++ end ∷ []) → b < length m.boards
    → tick (clocks_at t.clocks b).first (t.first * turn_ns) ≤ greatest_tick t.first
board_low m v s ts p t first rest end told r b w h =
    let clock = clock_of (board_at m b) in
    let pins = pins_of (board_at m b) b s.switches in
    let valid = valid_at m.boards b h v.boards in
    let before = came_from [] r.past in
    let Run : List Came → Type 0 = λ c. IsInRun m s.switches pins s.entries b c (turns_behind [] w.made) in
    let run = run_of m v s ts p t first rest end told b w h in
    let f = front_of m v s.switches pins s.entries b (came_in r.turn ∷ before) r.later (turns_behind [] w.made) (subst Run r.came_is run) in
    let l = one_less m v s.switches pins s.entries b (came_in r.turn) before f.front f.run in
    let long : length before ≡ length l.1 = as_long m s.switches b before l.1 l.4.both in
    let early = r.early in
    let line = line_is (length before) b m.boards r.is.lines r.is.fit h in
    let all = told_lines m s.switches pins s.entries b (came_in r.turn) before l.0 l.1 l.3 in
    let Sampled : List Line → Type 0 = λ ls. All (IsSampled clock l.1) ls in
    let News : List WordNews → Type 0 = λ ns. All (IsSampled clock l.1) (lines_told b ns) in
    let some = subst Sampled (ap (λ ls. ls ++ []) line.1) (subst News r.is.news all) in
    let own : IsSampled clock l.1 line.0 = All-head (IsSampled clock l.1) line.0 [] some in
    let is : line.0 ≡ (clocks_at t.clocks b).first = ap (λ (c : Clocks). c.first) (sym line.2 ∙ ap (λ cs. clocks_at cs b) (sym r.is.clocks_are)) ∙ sym (first_same m v s ts p t first rest end told b r h) in
    let Low : Line → Type 0 = λ x. tick x (t.first * turn_ns) ≤ greatest_tick t.first in
    subst Low is (line_low clock l.1 line.0 t.first valid.start valid.freq.high (drift_small (board_at m b).drift valid.drift_low valid.drift_high) (omega (arith, long, early)) own)

-- so the lines of all boards
pub lines_low : (ready b : ℕ) (cs : List Clocks) → ready < start_limit → ((i : ℕ) → i < length cs → tick (clocks_at cs i).first (ready * turn_ns) ≤ greatest_tick ready) → AreLow (lines_at ready b cs)
lines_low ready b [] small low = tt
lines_low ready b (c ∷ cs) small low =
    ((small, (let h : tick c.first (ready * turn_ns) ≤ greatest_tick ready = low 0 (omega arith) in omega (arith, h))), lines_low ready (b + 1) cs small (λ i lt. low (suc i) (omega (arith, lt))))
