-- The clock lines that a report prints are near the boards' clocks.
use Rattle.std.proofs.Common.{◌≡◌, ◌∙◌, ℕ, suc, ◌+◌, ◌*◌, ◌<◌, ◌≤◌, ◌^◌, Bool, true, All, List, [], ◌∷◌, ◌++◌, length, map, ap, sym, refl, subst, arith, append_assoc, length-append, rules}
use Rattle.std.proofs.Math.Seq.{get_or-append_seam}
use Rattle.std.specs.Prelude.{◌==◌, ◌-◌, ◌/◌, min, if◌then◌else◌}
use Rattle.laws_board.proofs.Names.{nat_tests, Machine, BoardClock, Held, Line, board_tick, clock_of, tick, turn_ns, Clocks, board_at, clocks_at, ReportLine}
use Rattle.clock_line.specs.Samples.{AreWithin, line_reach}
use Rattle.board_asking.specs.Connecting.{turn_tick}
use Rattle.report_text.specs.declared.line.ReportLine.TheVariants as report
use Rattle.log_text.specs.declared.line.LogLine.{LogLine}
use Rattle.log_text.specs.declared.line.LogLine.TheVariants as line
use Rattle.log_check.specs.Behind.{told_line}
use Rattle.laws_report.specs.logs.Follows.{in_order}
use Rattle.laws_board.specs.orders.Renewed.{NoneBefore}
use Rattle.host_reactor.specs.Report.{turn_at}
use Rattle.laws_board.specs.plans.Lines.{drift_in, drifts_of, held_lines}
use Rattle.laws_run.specs.run_ends.Boards.{boards_of, lines_at}
use Rattle.laws_run.specs.run_headline.Further.{AreNamed, TellsFurther}
use Rattle.laws_run.specs.run_headline.Near.{FollowsClock}
use Rattle.laws_run.specs.run_headline.Timely.{AreSound}
use Rattle.laws_run.specs.run_lines.Due.{BoardsHave}
use Rattle.laws_report.specs.reports.Logged.{logged}
use Rattle.laws_report.specs.reports.Retold.{retold}
use Rattle.laws_report.specs.page.Clocks.{AreNearBoards, IsNearBoard, IsOwnTick}
use Rattle.laws_report.specs.page.Log.{log_of}
use Rattle.laws_report.proofs.reports.Further.{HaveTurns}
use Rattle.laws_report.proofs.page.Front.{in_order_append, in_order_twice}
use Rattle.laws_report.proofs.reports.Retelling.{AreTold, tick-retold}
use Rattle.laws_report.proofs.reports.Shorts.{IsTimed, early_first, early_from, early_turns}
use Rattle.plan_types.proofs.Facts.{is_itself}

-- what a line of a log says of the clock of its board
abbrev SoNear : Machine → LogLine → Type 0
SoNear m (line.Board b turn at) = IsNearBoard (clock_of (board_at m b)) (told_line m b turn at) turn
SoNear m (line.Line b turn at from) = IsNearBoard (clock_of (board_at m b)) (told_line m b turn at) turn × IsOwnTick (clock_of (board_at m b)) turn at
SoNear m _ = Unit {0}

abbrev AllNear : Machine → List ReportLine → Type 0
AllNear m [] = Unit {0}
AllNear m (l ∷ lines) = SoNear m (logged l) × AllNear m lines

all-first : (m : Machine) (xs ys : List ReportLine) → AllNear m (xs ++ ys) → AllNear m ys
all-first m [] ys h = h
all-first m (x ∷ xs) ys h = all-first m xs ys h.1

own-drift : (m : Machine) (b sent clock from : ℕ) (lines : List ReportLine) → AllNear m (drifts_of b (report.Drift b sent clock from ∷ lines)) → SoNear m (line.Line b sent clock from)
own-drift m b sent clock from lines h = search (rules, is_itself)

later-drifts : (m : Machine) (l : ReportLine) (lines : List ReportLine) → ((b : ℕ) → b < length m.boards → AllNear m (drifts_of b (l ∷ lines))) → (b : ℕ) → b < length m.boards → AllNear m (drifts_of b lines)
later-drifts m l lines h b low = all-first m (drift_in b l) (drifts_of b lines) (h b low)

-- those of boards and those that hold further are all
gathered : (m : Machine) (lines : List ReportLine) → AreNamed m lines → AllNear m (boards_of lines) → ((b : ℕ) → b < length m.boards → AllNear m (drifts_of b lines)) → AllNear m lines
gathered m [] named boards drifts = tt
gathered m (report.Board board freq turn tick ∷ lines) named boards drifts = (boards.0, gathered m lines named boards.1 (later-drifts m (report.Board board freq turn tick) lines drifts))
gathered m (report.Drift board sent clock from ∷ lines) named boards drifts =
    (own-drift m board sent clock from lines (drifts board named.0), gathered m lines named.1 boards (later-drifts m (report.Drift board sent clock from) lines drifts))
gathered m (report.Machine corexy many steppers ∷ lines) named boards drifts = (tt, gathered m lines named boards (later-drifts m (report.Machine corexy many steppers) lines drifts))
gathered m (report.Section i turn kind ∷ lines) named boards drifts = (tt, gathered m lines named boards (later-drifts m (report.Section i turn kind) lines drifts))
gathered m (report.Pulse board stepper at up ∷ lines) named boards drifts = (tt, gathered m lines named boards (later-drifts m (report.Pulse board stepper at up) lines drifts))
gathered m (report.Cut i board pin at from ∷ lines) named boards drifts = (tt, gathered m lines named boards (later-drifts m (report.Cut i board pin at from) lines drifts))
gathered m (report.Lines accepted passed ∷ lines) named boards drifts = (tt, gathered m lines named boards (later-drifts m (report.Lines accepted passed) lines drifts))
gathered m (report.Out board pin at on ∷ lines) named boards drifts = (tt, gathered m lines named boards (later-drifts m (report.Out board pin at on) lines drifts))
gathered m (report.Made seed many ∷ lines) named boards drifts = (tt, gathered m lines named boards (later-drifts m (report.Made seed many) lines drifts))
gathered m (report.Count stepper many ∷ lines) named boards drifts = (tt, gathered m lines named boards (later-drifts m (report.Count stepper many) lines drifts))
gathered m (report.Fit section stepper many planned early late ∷ lines) named boards drifts = (tt, gathered m lines named boards (later-drifts m (report.Fit section stepper many planned early late) lines drifts))
gathered m (report.End c ∷ lines) named boards drifts = (tt, gathered m lines named boards (later-drifts m (report.End c) lines drifts))

-- a board's first line, as it is told
near-board : (clock : BoardClock) (c : Clocks) (ready : ℕ) → AreTold c ready → FollowsClock clock c.first → IsNearBoard clock (retold ready c).first ready
near-board clock c ready told f =
    let at = f.at in
    let before = told.before in
    record {
      sent = f.sent;
      got = f.got;
      before = omega (arith, at, before);
      soon = f.soon;
      near = λ k late. (
          let Near : ℕ → Type 0 = λ n. AreWithin (line_reach clock.start clock.freq clock.drift f.sent f.got k) n (board_tick clock k) in
          subst Near (sym (tick-retold c ready (k * turn_ns) told (omega (arith, late)))) (f.near k (omega (arith, late, at, before))));
      exact = λ e k late. (
          let Near : ℕ → Type 0 = λ n. (board_tick clock k ≤ n) × (n ≤ board_tick clock (k + (f.got - f.sent))) in
          subst Near (sym (tick-retold c ready (k * turn_ns) told (omega (arith, late)))) (f.exact e k (omega (arith, late, at, before))));
    }

abbrev Told_line : ℕ → ℕ → ℕ → Line
Told_line a b freq = record { at = a; clock = b; freq = freq }

same-line : (a b c freq other : ℕ) → b ≡ c → freq ≡ other → Told_line a b freq ≡ Told_line a c other
same-line a b c freq other e f = ap (λ (n : ℕ). Told_line a n freq) e ∙ ap (λ (n : ℕ). Told_line a c n) f

first-near : (m : Machine) (b : ℕ) (c : Clocks) (ready : ℕ) → AreTold c ready → c.first.freq ≡ (board_at m b).freq → tick c.first (ready * turn_ns) < 2 ^ 64 → FollowsClock (clock_of (board_at m b)) c.first → SoNear m (line.Board b ready (turn_tick c.first ready))
first-near m b c ready told freq small f = search (rules, same-line, turn_ns, tick, board_at, clock_of, near-board)

firsts-near : (m : Machine) (ready : ℕ) (all past clocks : List Clocks) (b : ℕ) → all ≡ past ++ clocks → length past ≡ b → ((i : ℕ) → i < length all → SoNear m (line.Board i ready (turn_tick (clocks_at all i).first ready))) → AllNear m (lines_at ready b clocks)
firsts-near m ready all past [] b are at each = tt
firsts-near m ready all past (c ∷ clocks) b are at each =
    let here : clocks_at all b ≡ c = ap (λ (z : List Clocks). clocks_at z b) are ∙ ap (clocks_at (past ++ c ∷ clocks)) (sym at) ∙ get_or-append_seam past c clocks _ in
    let size = ap length are ∙ length-append past (c ∷ clocks) in
    let long = length-append past (c ∷ []) in
    let So : Clocks → Type 0 = λ x. SoNear m (line.Board b ready (turn_tick x.first ready)) in
    (subst So here (each b (omega (arith, size, at))), firsts-near m ready all (past ++ c ∷ []) clocks (b + 1) (are ∙ sym (append_assoc past (c ∷ []) clocks)) (omega (arith, long, at)) each)

least : (n : ℕ) → n < 2 ^ 64 → min (n * turn_ns / turn_ns) (2 ^ 64 - 1) ≡ n
least n low = omega (arith, low)

-- a further line
line-near : (m : Machine) (b : ℕ) (h : Held) → h.line.at / turn_ns < 2 ^ 64 → FollowsClock (clock_of (board_at m b)) h.line → SoNear m (line.Line b (turn_at h.line.at) h.line.clock h.from)
line-near m b h low f =
    let clock = clock_of (board_at m b) in
    let turn : turn_at h.line.at ≡ f.sent = ap (λ (n : ℕ). min (n / turn_ns) (2 ^ 64 - 1)) f.at ∙ least f.sent (let is = ap (λ (n : ℕ). n / turn_ns) f.at in omega (arith, low, is)) in
    let at : h.line.at ≡ turn_at h.line.at * turn_ns = f.at ∙ ap (λ (n : ℕ). n * turn_ns) (sym turn) in
    let own : h.line ≡ told_line m b (turn_at h.line.at) h.line.clock = ap (λ (n : ℕ). Told_line n h.line.clock h.line.freq) at ∙ ap (λ (n : ℕ). Told_line (turn_at h.line.at * turn_ns) h.line.clock n) f.freq in
    let near : IsNearBoard clock h.line f.sent = record { sent = f.sent; got = f.got; before = omega arith; soon = f.soon; near = f.near; exact = f.exact } in
    let Near : Line → Type 0 = λ l. IsNearBoard clock l (turn_at h.line.at) in
    let At : ℕ → Type 0 = λ n. IsNearBoard clock h.line n in
    let from = f.from in
    let to = f.to in
    let soon = f.soon in
    (subst Near own (subst At (sym turn) near), (f.turn, omega (arith, turn, from), omega (arith, turn, to, soon), f.own))

lines-near : (m : Machine) (b : ℕ) (held rest : List Held) → HaveTurns held → All (λ h. FollowsClock (clock_of (board_at m b)) h.line) (held ++ rest) → AllNear m (held_lines b held)
lines-near m b [] rest turns h = tt
lines-near m b (x ∷ held) rest turns h = (line-near m b x turns.0 (h 0 x (omega arith)), lines-near m b held rest turns.1 (λ k d low. h (suc k) d (omega (arith, low))))

hold-from : (turn : ℕ) (held : List Held) → NoneBefore turn held → NoneBefore turn held
hold-from turn [] h = tt
hold-from turn (x ∷ held) h = h

-- where a line stands
found : (m : Machine) (said : List ReportLine) (before : List LogLine) (l : LogLine) (later : List LogLine) → AllNear m said → map logged said ≡ before ++ l ∷ later → SoNear m l
found m [] [] l later h e = absurd (let f : [] ≡ l ∷ later = e in cc)
found m [] (x ∷ before) l later h e = absurd (let f : [] ≡ x ∷ (before ++ l ∷ later) = e in cc)
found m (x ∷ said) [] l later h e = (let f : logged x ∷ map logged said ≡ l ∷ later = e in let same : logged x ≡ l = cc in subst (SoNear m) same h.0)
found m (x ∷ said) (y ∷ before) l later h e = (let f : logged x ∷ map logged said ≡ y ∷ (before ++ l ∷ later) = e in found m said before l later h.1 cc)

-- The clock lines that a report prints are near the boards' clocks.
pub near-boards : (m : Machine) (clocks : List Clocks) (ready last : ℕ) (said : List ReportLine) → AreSound m clocks ready → BoardsHave clocks ready said → ((b : ℕ) → b < length m.boards → IsTimed clocks ready b) → ((b : ℕ) → b < length m.boards → TellsFurther b (clocks_at clocks b).held last said) → AreNamed m said
    → AreNearBoards m (log_of said)
near-boards m clocks ready last said sound boards timed further named = record {
  boards = λ later lines b turn at e. found m said (in_order lines) (line.Board b turn at) (in_order later) all (turned later (line.Board b turn at) lines e);
  further = λ later lines b turn at from e. found m said (in_order lines) (line.Line b turn at from) (in_order later) all (turned later (line.Line b turn at from) lines e);
}
  where
    turned : (later : List LogLine) (l : LogLine) (lines : List LogLine) → log_of said ≡ later ++ l ∷ lines → map logged said ≡ in_order lines ++ l ∷ in_order later
    turned later l lines e = sym (in_order_twice (map logged said)) ∙ ap in_order e ∙ in_order_append later (l ∷ lines) ∙ append_assoc (in_order lines) (l ∷ []) (in_order later)

    first : (i : ℕ) → i < length clocks → SoNear m (line.Board i ready (turn_tick (clocks_at clocks i).first ready))
    first i below =
        let are = sound.clocks_are in
        let count = are.count in
        let inside : i < length m.boards = omega (arith, below, count) in
        let soon = timed i inside in
        let early = soon.early in
        let least = soon.low in
        let told : AreTold (clocks_at clocks i) ready = record { kept = sound.kept i inside; behind = hold-from ready (clocks_at clocks i).held (sound.behind i inside); before = are.before i inside; soon = sound.small } in
        first-near m i (clocks_at clocks i) ready told (are.freq i inside) (omega (arith, early, least)) (sound.near i inside)

    turns : (b : ℕ) (inside : b < length m.boards) → HaveTurns (further b inside).told
    turns b inside =
        let are = sound.clocks_are in
        let soon = timed b inside in
        let early = soon.early in
        let most = soon.low in
        let f = further b inside in
        let lasting = are.lasting b inside (omega (arith, early, most)) in
        let c = clocks_at clocks b in
        early_turns c.first f.told (early_first c.first f.told f.rest (early_from c [] (f.told ++ f.rest) lasting (sound.kept b inside) f.are))

    all : AllNear m said
    all =
        let Near : List ReportLine → Type 0 = λ z. AllNear m z in
        gathered m said named (subst Near (sym boards) (firsts-near m ready clocks [] clocks 0 refl refl first)) (λ b inside.
        let f = further b inside in
        let Each : List Held → Type 0 = λ z. All (λ h. FollowsClock (clock_of (board_at m b)) h.line) z in
        subst Near (sym f.lines_are) (lines-near m b f.told f.rest (turns b inside) (subst Each f.are (sound.all_near b inside))))
