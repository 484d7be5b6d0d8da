-- The report of a run over links that begins no section.
use Rattle.std.proofs.Common.{◌≡◌, ◌⊎◌, ◌∙◌, ℕ, zero, suc, ◌+◌, ◌-◌, ◌*◌, ◌^◌, ◌<◌, ◌≤◌, Bool, true, false, List, [], ◌∷◌, ◌++◌, All, length, map, ap, sym, refl, subst, arith, inl, inr, append_assoc, append-nil, length-append, rules}
use Rattle.std.specs.Prelude.{◌==◌, min, if◌then◌else◌}
use Rattle.laws_board.proofs.Names.{flat_map, flat_map-append, leb_tells, length-map, All-nil, Cause, Machine, IsOwn, Line, ReadStop, Moves, tick, turn_ns, Clocks, one_line, IsValidMachine, board_at, clocks_at, State, ReportLine, Scene, Switch, Asking, listen_all, ready_all, pins_of, Orders, Known, Connecting, noted, machine_line, Reacted, reacts, Came, known_by, Started, MotionTurn, ReactorTurn, gather, item}
use Rattle.gcode_program.specs.Programs.{program_end}
use Rattle.plan_types.specs.declared.plan.ReadStop.TheVariants as read
use Rattle.plan_types.specs.Sections.{first_start}
use Rattle.msg_code.specs.declared.talk.WordNews.TheVariants as word
use Rattle.report_text.specs.declared.line.ReportLine.TheVariants as report
use Rattle.board_asking.specs.Connecting.{board_lines, connected_lines, turn_tick}
use Rattle.host_reactor.specs.declared.ordered.Phase.TheVariants.{Running}
use Rattle.host_reactor.specs.Report.{pulse_line, pulse_lines}
use Rattle.host_reactor.specs.Running.{text_end}
use Rattle.laws_board.specs.clocks.Runs.{IsInRun}
use Rattle.laws_board.proofs.clocks.Lines.{noted_askings}
use Rattle.laws_board.proofs.clocks.Turning as turning
use Rattle.session_work.specs.Heads.{IsRow}
use Rattle.session_run.specs.Boards.{AreReactorTurns, came_from, came_in}
use Rattle.laws_run.specs.lanes.Boards.{turns_behind, orders_of, states_of}
use Rattle.laws_board.specs.plans.Boards.{TookStates}
use Rattle.laws_run.specs.lanes.Turns.{came_before}
use Rattle.laws_board.specs.plans.Given.{TookControls}
use Rattle.laws_board.specs.plans.Lines.{TellTurns, TellsTurn, head_in, heads_of, pulses_of}
use Rattle.laws_board.specs.plans.Planned.{Plans, put_of}
use Rattle.laws_board.proofs.plans.Telling.{pulses_append}
use Rattle.laws_run.specs.run_ends.Boards.{boards_of, counts_of, lines_at}
use Rattle.laws_run.specs.run_ends.Ends.{GoesThrough}
use Rattle.laws_run.proofs.run_ends.Connecting.{after_boards, as_clocks, boards_append, end_none, tells_boards}
use Rattle.laws_run.specs.run_headline.Told.{AreTold}
use Rattle.laws_run.proofs.run_headline.Boarded.{came_cut, valid_at}
use Rattle.laws_run.proofs.run_headline.Fronts.{controlled}
use Rattle.laws_run.proofs.run_headline.Plain.{AllMoves, all_moves}
use Rattle.laws_run.proofs.run_headline.Showing.{Facts, all_lines, came_long, counts_or, few, long_own, notes_before, through_long, took_notes}
use Rattle.laws_run.proofs.run_headline.Telling.{turns_told}
use Rattle.laws_run.proofs.run_lates.Unbegun.{unbegun}
use Rattle.laws_run.proofs.clear_runs.Punctual.{NoUnits}
use Rattle.laws_run.proofs.run_ends.Ending.{own_cause}
use Rattle.laws_run.specs.run_headline.Timely.{AreSound}
use Rattle.laws_run.specs.run_headline.Further.{AreNamed, BoardsFirst, TellsFurther}
use Rattle.laws_run.specs.run_lines.Due.{BoardsHave}
use Rattle.laws_run.specs.run_limits.Limits.{AreLow, greatest_tick}
use Rattle.laws_run.proofs.run_limits.Few.{read_few, stop_line}
use Rattle.log_text.specs.declared.line.LogLine.{LogLine}
use Rattle.log_text.specs.declared.line.LogLine.TheVariants as line
use Rattle.laws_report.specs.reports.Further.{AllMayStand, further_told}
use Rattle.laws_report.specs.reports.Logged.{AreOfRun, IsCauseOn, logged}
use Rattle.laws_report.specs.reports.Through.{AreHeads}
use Rattle.laws_report.proofs.reports.Faulted.{going_none, last_lines, plain_none}
use Rattle.laws_report.proofs.reports.Further.{EachFurther, IsLongFurther}
use Rattle.laws_report.proofs.reports.Shorts.{longs, shorts}
use Rattle.laws_report.proofs.reports.Standing.{are_heads, some_pulse, capped}
use Rattle.laws_report.proofs.reports.Still.{AreStill, NonePulse, still_states}
use Rattle.laws_run.proofs.run_headline.Drifts.{NoneDrifts}
use Rattle.laws_run.proofs.run_headline.Asked.{whole_by}
use Rattle.host_reactor.proofs.Rowing.{readied, listened}
use Rattle.laws_run.proofs.run_limits.Early.{machine_none}
use Rattle.laws_run.proofs.home_headline.Cuts.{uncut}

-- clock lines of boards that are there, from a number on, each of its board's frequency
abbrev HaveFreqs : Machine → ℕ → List Clocks → Type 0
HaveFreqs m b [] = Unit {0}
HaveFreqs m b (c ∷ cs) = (b < length m.boards) × (c.first.freq ≡ (board_at m b).freq) × HaveFreqs m (b + 1) cs

-- so those with which connecting ends
lines_freqs : (m : Machine) (b : ℕ) (askings : List Asking) → b + length askings ≡ length m.boards → HaveFreqs m b (map one_line (board_lines m b askings))
lines_freqs m b [] e = tt
lines_freqs m b (a ∷ askings) e = (omega (arith, e), refl, lines_freqs m (b + 1) askings (omega (arith, e)))

-- The lines of boards among some lines: each board has one, in order, of one turn, and tells its board's frequency; or there are none.
record TellsEach (m : Machine) (most : ℕ) (lines : List ReportLine) : Type 0 where
  clocks : List Clocks
  ready : ℕ
  soon : ready ≤ most
  are : boards_of lines ≡ lines_at ready 0 clocks
  freqs : HaveFreqs m 0 clocks

-- where connecting ends in a turn, its news tell the lines of the askings
pub told_lines : (m : Machine) (r : Known) (k : ℕ) (states : List State) (x : Reacted) (lines : List Line) → turning.Goes m r k states x → x.ordered.word.news ≡ word.Lines lines ∷ [] → r.phase ≡ Connecting
    → lines ≡ board_lines m 0 (ready_all m 0 (listen_all r.askings.items states))
told_lines m r k states x lines p6 p7 p8 = search (rules, ready_all, listen_all)

-- so in turns of a reactor
turns_each : (m : Machine) (switches : List Switch) (n : ℕ) (before : List Came) (rs : List ReactorTurn) → AreReactorTurns m switches before rs → length before + length rs ≤ n → TellsEach m (n + 1_260) (gather (λ t. t.lines) rs)
turns_each m switches n before [] h low = record { clocks = []; ready = 0; soon = omega arith; are = refl; freqs = tt }
turns_each m switches n before (t ∷ rs) h low =
    let r = known_by m switches before in
    let k = length before in
    let lines = gather (λ (x : ReactorTurn). x.lines) rs in
    elim (tells_boards m switches r k t.states t.note) [
      | inl q ↦
          let rest = turns_each m switches n (came_in t ∷ before) rs h.1 (omega (arith, low)) in
          let none : boards_of t.lines ≡ [] = ap boards_of h.0.lines_are ∙ q.0 in
          record {
            clocks = rest.clocks;
            ready = rest.ready;
            soon = rest.soon;
            are = boards_append t.lines lines ∙ ap (λ z. z ++ boards_of lines) none ∙ rest.are;
            freqs = rest.freqs;
          }
      | inr x ↦
          let now = noted m t.note r in
          let askings = ready_all m 0 (listen_all now.askings.items t.states) in
          let ls = board_lines m 0 askings in
          let same : x.lines ≡ ls = told_lines m now k t.states (reacts m switches r k t.states t.note) x.lines (turning.goes m switches r k t.states t.note h.0.goes_on) x.news x.before in
          let own : boards_of t.lines ≡ lines_at (first_start k) 0 (map one_line ls) = ap boards_of h.0.lines_are ∙ x.boards ∙ ap (connected_lines k 0) same ∙ as_clocks k 0 ls in
          let on : (known_by m switches (came_in t ∷ before)).phase ≡ Connecting → ⊥ = λ e. let f : Running ≡ Connecting = sym x.after ∙ e in cc in
          let none = after_boards m switches (came_in t ∷ before) rs h.1 on in
          let count : length askings ≡ length m.boards = readied m 0 (listen_all now.askings.items t.states) ∙ listened now.askings.items t.states
          ∙ ap (λ y. length y.items) (noted_askings m t.note r) ∙ (whole_by m switches before).askings in
          record {
            clocks = map one_line ls;
            ready = first_start k;
            soon = omega (arith, low);
            are = boards_append t.lines lines ∙ ap (λ z. boards_of t.lines ++ z) none ∙ append-nil (boards_of t.lines) ∙ own;
            freqs = lines_freqs m 0 askings (omega (arith, count));
          }
    ]

-- in none of some turns the reactor took pulses of a board
abbrev AllStill : ℕ → List ReactorTurn → Type 0
AllStill b [] = Unit {0}
AllStill b (t ∷ ts) = ((s : State) → item b t.states ≡ s ∷ [] → s.pulses ≡ []) × AllStill b ts

took_still : (b : ℕ) (ts : List ReactorTurn) (states : List State) → TookStates b ts states → NonePulse states → AllStill b ts
took_still b [] states took none = tt
took_still b (t ∷ ts) [] took none = absurd took
took_still b (t ∷ ts) (x ∷ states) took none =
    (λ s e. (let f : x ∷ [] ≡ s ∷ [] = sym took.0 ∙ e in let same : s ≡ x = cc in ap (λ (y : State). y.pulses) same ∙ none.0), took_still b ts states took.1 none.1)

-- so its lines tell none
states_still : (m : Machine) (b : ℕ) (states : List State) → ((j : ℕ) (s : State) → item j states ≡ s ∷ [] → s.pulses ≡ []) → pulse_lines m b states ≡ []
states_still m b [] h = refl
states_still m b (s ∷ states) h = ap (λ ps. flat_map (pulse_line m b) ps ++ pulse_lines m (b + 1) states) (h 0 s refl) ∙ states_still m (b + 1) states (λ j x e. h (suc j) x e)

no_item : (j : ℕ) (states : List State) → length states ≤ j → item j states ≡ []
no_item j [] h = refl
no_item zero (s ∷ states) h = absurd (omega (arith, h))
no_item (suc j) (s ∷ states) h = no_item j states (omega (arith, h))

machine_pulses : (m : Machine) (k place : ℕ) → pulses_of place (machine_line m k) ≡ []
machine_pulses m k place = by (k == 0) where
  by : (b : Bool) → pulses_of place (if b then report.Machine m.corexy (length m.boards) (length m.steppers) ∷ [] else []) ≡ []
  by true = refl
  by false = refl

-- some turns tell no section and no pulse
abbrev AreEmpty : List ReportLine → Type 0
AreEmpty lines = (heads_of lines ≡ []) × ((place : ℕ) → pulses_of place lines ≡ [])

-- nor one of a stepper that is there
abbrev pub AreBare : Machine → List ReportLine → Type 0
AreBare m lines = (heads_of lines ≡ []) × ((place : ℕ) → place < length m.steppers → pulses_of place lines ≡ [])

both_empty : (xs ys : List ReportLine) → AreEmpty xs → AreEmpty ys → AreEmpty (xs ++ ys)
both_empty xs ys a b =
    (flat_map-append head_in xs ys ∙ ap (λ z. z ++ heads_of ys) a.0 ∙ b.0, λ place. pulses_append place xs ys ∙ ap (λ z. z ++ pulses_of place ys) (a.1 place) ∙ b.1 place)

turn_empty : (m : Machine) (k : ℕ) (t : ReactorTurn) → TellsTurn m [] k t → ((j : ℕ) (s : State) → item j t.states ≡ s ∷ [] → s.pulses ≡ []) → AreEmpty t.lines
turn_empty m k t tells still =
    let none = states_still m 0 t.states still in
    let both = both_empty (machine_line m k) tells.rest (machine_none m k, machine_pulses m k) (tells.heads, λ place. tells.pulses place ∙ ap (pulses_of place) none) in
    subst AreEmpty (sym tells.are) both

-- a state of each board came in each of some turns
abbrev AreFull : ℕ → List ReactorTurn → Type 0
AreFull n [] = Unit {0}
AreFull n (t ∷ ts) = (length t.states ≡ n) × AreFull n ts

turns_full : (m : Machine) (switches : List Switch) (before : List Came) (rs : List ReactorTurn) (end : ReactorTurn) → 0 < length before → AreReactorTurns m switches before rs → length end.states ≡ length m.boards → AreFull (length m.boards) (rs ++ end ∷ [])
turns_full m switches before [] end some h last = (last, tt)
turns_full m switches before (t ∷ rs) end some h last = (row_count (length m.boards) (length before) t some h.0.row, turns_full m switches (came_in t ∷ before) rs end (omega arith) h.1 last)
  where
    row_count : (n k : ℕ) (x : ReactorTurn) → 0 < k → IsRow n k x.states x.note → length x.states ≡ n
    row_count n k x some (inl a) = absurd (omega (arith, some, a.0))
    row_count n k x some (inr a) = a.1

turns_empty : (m : Machine) (n k : ℕ) (ts : List ReactorTurn) → TellTurns m [] k ts → AreFull n ts → ((b : ℕ) → b < n → AllStill b ts) → AreEmpty (gather (λ t. t.lines) ts)
turns_empty m n k [] tells full still = (refl, λ place. refl)
turns_empty m n k (t ∷ ts) tells full still =
    both_empty t.lines (gather (λ (x : ReactorTurn). x.lines) ts) (turn_empty m k t tells.0 own) (turns_empty m n (k + 1) ts tells.1 full.1 (λ b h. (still b h).1))
  where
    own : (j : ℕ) (s : State) → item j t.states ≡ s ∷ [] → s.pulses ≡ []
    own j s e = elim (leb_tells (suc j) n) [
      | inl p ↦ (still j (omega (arith, p.1))).0 s e
      | inr p ↦ (let size = full.0 in absurd (let f : [] ≡ s ∷ [] = sym (no_item j t.states (omega (arith, p.1, size))) ∙ e in cc))
    ]

-- orders without units, which have the controls of a run of moves
still_given : (os : List Orders) → NoUnits os → TookControls os → AreStill os
still_given [] given controls = tt
still_given (o ∷ os) given controls = (controls.0, given.0, still_given os given.1 controls.1)

bare_run : (m : Machine) (ready b : ℕ) (cs : List Clocks) (lines : List ReportLine) → ready < 2 ^ 62 → AreTold false m lines → AreBare m lines → AreLow (counts_of lines) → EachFurther IsLongFurther (further_told (map logged lines)) → AreNamed m lines → boards_of lines ≡ lines_at ready b cs → HaveFreqs m b cs → AreOfRun m lines
bare_run m ready b cs [] soon told empty low long names boards freqs = tt
bare_run m ready b cs (report.Machine corexy many others ∷ lines) soon told empty low long names boards freqs = (told.0, bare_run m ready b cs lines soon told.1 empty low long names boards freqs)
bare_run m ready b [] (report.Board board freq turn tick ∷ lines) soon told empty low long names boards freqs = absurd (let e : report.Board board freq turn tick ∷ boards_of lines ≡ [] = boards in cc)
bare_run m ready b (c ∷ cs) (report.Board board freq turn tick ∷ lines) soon told empty low long names boards freqs =
    let e : report.Board board freq turn tick ∷ boards_of lines ≡ report.Board b c.first.freq ready (turn_tick c.first ready) ∷ lines_at ready (b + 1) cs = boards in
    let same : board ≡ b = cc in
    let own : freq ≡ c.first.freq = cc in
    let when : turn ≡ ready = cc in
    let ticks : tick ≡ turn_tick c.first ready = cc in
    let rest : boards_of lines ≡ lines_at ready (b + 1) cs = cc in
    let inside = freqs.0 in
    let freq_is : freq ≡ (board_at m board).freq = own ∙ freqs.1 ∙ ap (λ (n : ℕ). (board_at m n).freq) (sym same) in
    ((omega (arith, same, inside), freq_is, omega (arith, when, soon), subst (λ (n : ℕ). n < 2 ^ 64) (sym ticks) (capped (Rattle.plan_types.specs.Clock.tick c.first (ready * turn_ns)))), bare_run m ready (b + 1) cs lines soon told.1 empty low long names rest freqs.2)
bare_run m ready b cs (report.Section i turn kind ∷ lines) soon told empty low long names boards freqs = absurd (let e : report.Section i turn kind ∷ heads_of lines ≡ [] = empty.0 in cc)
bare_run m ready b cs (report.Pulse board stepper tick up ∷ lines) soon told empty low long names boards freqs = absurd (some_pulse board stepper tick up lines (empty.1 stepper told.0.0))
bare_run m ready b cs (report.Cut i board pin tick from ∷ lines) soon told empty low long names boards freqs = absurd (let e : false ≡ true = told.0 in cc)
bare_run m ready b cs (report.Drift board sent clock from ∷ lines) soon told empty low long names boards freqs =
    ((names.0, long.0.0, long.0.1, long.0.2), bare_run m ready b cs lines soon told.1 empty low long.1 names.1 boards freqs)
bare_run m ready b cs (report.Lines accepted passed ∷ lines) soon told empty low long names boards freqs =
    let few = low.0 in
    ((omega (arith, few.0), omega (arith, few.1)), bare_run m ready b cs lines soon told.1 empty low.1 long names boards freqs)
bare_run m ready b cs (report.Out board pin tick on ∷ lines) soon told empty low long names boards freqs = absurd told.0
bare_run m ready b cs (report.Made seed many ∷ lines) soon told empty low long names boards freqs = absurd told.0
bare_run m ready b cs (report.Count stepper pulses ∷ lines) soon told empty low long names boards freqs = absurd told.0
bare_run m ready b cs (report.Fit section stepper pulses planned early late ∷ lines) soon told empty low long names boards freqs = absurd told.0
bare_run m ready b cs (report.End c ∷ lines) soon told empty low long names boards freqs = absurd told.0

-- where no further clock line is told, none stands ill
none_stand : (m : Machine) (lines : List ReportLine) (before : List LogLine) → NoneDrifts lines → AllMayStand m before (map logged lines)
none_stand m [] before none = tt
none_stand m (report.Machine corexy boards steppers ∷ lines) before none = (tt, none_stand m lines (line.Note ∷ before) none)
none_stand m (report.Board board freq turn tick ∷ lines) before none = (tt, none_stand m lines (line.Board board turn tick ∷ before) none)
none_stand m (report.Section i turn kind ∷ lines) before none = (tt, none_stand m lines (line.Section i turn kind ∷ before) none)
none_stand m (report.Pulse board stepper tick up ∷ lines) before none = (tt, none_stand m lines (line.Pulse stepper tick up ∷ before) none)
none_stand m (report.Cut i board pin tick from ∷ lines) before none = (tt, none_stand m lines (line.Cut i ∷ before) none)
none_stand m (report.Drift board sent clock from ∷ lines) before none = absurd none
none_stand m (report.Lines accepted passed ∷ lines) before none = (tt, none_stand m lines (line.Note ∷ before) none)
none_stand m (report.Out board pin tick on ∷ lines) before none = (tt, none_stand m lines (line.Note ∷ before) none)
none_stand m (report.Made seed moves ∷ lines) before none = (tt, none_stand m lines (line.Note ∷ before) none)
none_stand m (report.Count stepper pulses ∷ lines) before none = (tt, none_stand m lines (line.Note ∷ before) none)
none_stand m (report.Fit section stepper pulses planned early late ∷ lines) before none = (tt, none_stand m lines (line.Note ∷ before) none)
none_stand m (report.End c ∷ lines) before none = (tt, none_stand m lines (line.End ∷ before) none)

none_named : (m : Machine) (lines : List ReportLine) → NoneDrifts lines → AreNamed m lines
none_named m [] none = tt
none_named m (report.Drift board sent clock from ∷ lines) none = absurd none
none_named m (report.Machine corexy boards steppers ∷ lines) none = none_named m lines none
none_named m (report.Board board freq turn tick ∷ lines) none = none_named m lines none
none_named m (report.Section i turn kind ∷ lines) none = none_named m lines none
none_named m (report.Pulse board stepper tick up ∷ lines) none = none_named m lines none
none_named m (report.Cut i board pin tick from ∷ lines) none = none_named m lines none
none_named m (report.Lines accepted passed ∷ lines) none = none_named m lines none
none_named m (report.Out board pin tick on ∷ lines) none = none_named m lines none
none_named m (report.Made seed moves ∷ lines) none = none_named m lines none
none_named m (report.Count stepper pulses ∷ lines) none = none_named m lines none
none_named m (report.Fit section stepper pulses planned early late ∷ lines) none = none_named m lines none
none_named m (report.End c ∷ lines) none = none_named m lines none

none_long : (lines : List ReportLine) → NoneDrifts lines → EachFurther IsLongFurther (further_told (map logged lines))
none_long [] none = tt
none_long (report.Machine corexy boards steppers ∷ lines) none = none_long lines none
none_long (report.Board board freq turn tick ∷ lines) none = none_long lines none
none_long (report.Section i turn kind ∷ lines) none = none_long lines none
none_long (report.Pulse board stepper tick up ∷ lines) none = none_long lines none
none_long (report.Cut i board pin tick from ∷ lines) none = none_long lines none
none_long (report.Drift board sent clock from ∷ lines) none = absurd none
none_long (report.Lines accepted passed ∷ lines) none = none_long lines none
none_long (report.Out board pin tick on ∷ lines) none = none_long lines none
none_long (report.Made seed moves ∷ lines) none = none_long lines none
none_long (report.Count stepper pulses ∷ lines) none = none_long lines none
none_long (report.Fit section stepper pulses planned early late ∷ lines) none = none_long lines none
none_long (report.End c ∷ lines) none = none_long lines none

-- The clock lines of the boards that a report without sections tells.
pub record ShowsLines (m : Machine) (lines : List ReportLine) : Type 0 where
  pub clocks : List Clocks
  pub ready : ℕ
  pub last : ℕ
  pub boards : BoardsHave clocks ready lines
  pub sound : AreSound m clocks ready
  pub first : BoardsFirst lines
  pub names : AreNamed m lines
  pub further : (b : ℕ) → b < length m.boards → TellsFurther b (clocks_at clocks b).held last lines
  pub timed : (b : ℕ) → b < length m.boards → tick (clocks_at clocks b).first (ready * turn_ns) ≤ greatest_tick ready
  pub soon : ready < 2 ^ 43

-- What a report of a run shows that has no line of a section: its lines are those of a run, those of the boards in order and notes alone, and
-- further clock lines that may stand.
pub record ShowsNone (m : Machine) (lines : List ReportLine) : Type 0 where
  pub of_run : AreOfRun m lines
  pub may : AllMayStand m [] (map logged lines)
  pub heads : AreHeads 0 lines

-- how the reading of a text stopped
stop_small : (m : Machine) (stop : ReadStop) → stop_line stop ≤ 1 + 1_073_741_824 → IsCauseOn m (text_end stop)
stop_small m read.End few = tt
stop_small m c few = omega (arith, few)

module _ (m : Machine) (v : IsValidMachine m) (s : Scene) (ts : List MotionTurn) (p : Plans m (length m.boards) ts) (end : ReactorTurn) (c : Cause) (first : ReactorTurn) (rest : List ReactorTurn) (f : Facts m s ts (first ∷ rest) end c) where
  most : length (rest ++ end ∷ []) ≤ length p.made + 1
  most = few m v s ts p end c first rest f

  last_full : length end.states ≡ length m.boards
  last_full = search (rules, came_long)

  first_none : first.states ≡ []
  first_none = by f.turns.0.row
    where
      by : IsRow (length m.boards) 0 first.states first.note → first.states ≡ []
      by (inl a) = a.1
      by (inr a) = absurd (omega (arith, a.0))

  -- the boards' lines
  lines_then : (xs : List ReactorTurn) → boards_of (gather (λ t. t.lines) (xs ++ end ∷ [])) ≡ boards_of (gather (λ t. t.lines) xs) ++ boards_of end.lines
  lines_then [] = ap boards_of (append-nil end.lines)
  lines_then (x ∷ xs) =
      let l = λ (zs : List ReactorTurn). gather (λ (t : ReactorTurn). t.lines) zs in
      boards_append x.lines (l (xs ++ end ∷ [])) ∙ ap (λ z. boards_of x.lines ++ z) (lines_then xs) ∙ sym (append_assoc (boards_of x.lines) (boards_of (l xs)) (boards_of end.lines))
      ∙ ap (λ z. z ++ boards_of end.lines) (sym (boards_append x.lines (l xs)))

  each : TellsEach m (length (first ∷ rest) + 1 + 1_260) (gather (λ t. t.lines) (first ∷ (rest ++ end ∷ [])))
  each = elim f.last [
    | inl why ↦
        let own = turns_each m s.switches (length (first ∷ rest) + 1) [] (first ∷ rest) f.turns (omega arith) in
        let last = ap boards_of f.lines_are ∙ end_none m s.switches f.known (length (came_from [] (first ∷ rest))) end.states end.note c (sym why) in
        let lines = gather (λ (t : ReactorTurn). t.lines) (first ∷ rest) in
        record { clocks = own.clocks; ready = own.ready; soon = own.soon; are = lines_then (first ∷ rest) ∙ ap (λ z. boards_of lines ++ z) last ∙ append-nil (boards_of lines) ∙ own.are; freqs = own.freqs }
    | inr g ↦ turns_each m s.switches (length (first ∷ rest) + 1) [] (first ∷ (rest ++ end ∷ [])) g.0 (omega (arith, length-append rest (end ∷ [])))
  ]

  abbrev pub All_lines : List ReportLine
  All_lines = gather (λ t. t.lines) (first ∷ (rest ++ end ∷ []))

  -- the numbers of what was read are low
  pub counts_low : AreLow (counts_of All_lines)
  counts_low =
      let read = read_few m p.seen.text in
      let deeds = read.deeds in
      let passed = read.passed in
      elim f.last [
        | inr g ↦ subst AreLow (sym (going_none m s.switches [] (first ∷ (rest ++ end ∷ [])) g.0)) tt
        | inl why ↦ elim (last_lines m s ts (first ∷ rest) end c f why) [
          | inl own_one ↦ elim (counts_or m v s ts p end c first rest f own_one (long_own m v s ts p end c first rest f own_one)) [
            | inl none ↦ subst AreLow (sym none) tt
            | inr is ↦ subst AreLow (sym is) ((omega (arith, deeds), omega (arith, passed)), tt)
          ]
          | inr plain ↦ subst AreLow (sym (plain_none m s.switches [] (first ∷ rest) end (noted m end.note f.known) (length (came_from [] (first ∷ rest))) f.turns plain)) tt
        ]
      ]

  -- the cause of one that went through has small numbers
  pub cause_on : GoesThrough c → IsCauseOn m c
  cause_on through =
      let read = read_few m p.seen.text in
      let is = (through_long m v s ts p end c first rest f through (long_own m v s ts p end c first rest f (own_cause c through))).cause_is in
      subst (λ (x : Cause). IsCauseOn m x) (sym is) (stop_small m (program_end m p.seen.text).stop read.stop)

  -- where they tell no section, no pulse and no cut
  module _ (told_all : AreTold false m All_lines) (bare : AreBare m All_lines) where
    heads : AreHeads 0 All_lines
    heads = are_heads false m each.ready 0 each.clocks All_lines told_all (uncut m All_lines told_all) bare.0 bare.1 each.are

    of_lines : EachFurther IsLongFurther (further_told (map logged All_lines)) → AreNamed m All_lines → AreOfRun m All_lines
    of_lines long names =
        let soon = each.soon in
        let made = length-map p.made put_of in
        let small = p.small in
        let many = length-append rest (end ∷ []) in
        bare_run m each.ready 0 each.clocks All_lines (omega (arith, soon, made, small, many, most)) told_all bare counts_low long names each.are each.freqs

    pub shows_none : ShowsLines m All_lines ⊎ NoneDrifts All_lines → ShowsNone m All_lines
    shows_none (inr plain) = record { of_run = of_lines (none_long All_lines plain) (none_named m All_lines plain); may = none_stand m All_lines [] plain; heads = heads }
    shows_none (inl shows) =
        let whole = sym (append-nil All_lines) in
        let long = longs m shows.clocks shows.ready shows.last All_lines [] All_lines whole heads shows.boards refl shows.sound shows.names shows.timed shows.soon shows.first shows.further in
        let short = shorts m shows.clocks shows.ready shows.last All_lines [] All_lines whole heads shows.boards refl shows.sound shows.names shows.timed shows.soon shows.first shows.further in
        record { of_run = of_lines long shows.names; may = short.may; heads = heads }

  -- where no section was begun
  module _ (none : p.seen.begun ≡ []) where
    kinds : All (λ x. x.section.kind ≡ Moves) p.seen.begun
    kinds = subst (λ (z : List Started). All (λ x. x.section.kind ≡ Moves) z) (sym none) (All-nil (λ (x : Started). x.section.kind ≡ Moves))

    moves : AllMoves (came_from [] (first ∷ rest))
    moves = all_moves m p.seen.text p.seen.begun p.made first rest kinds p.put (notes_before m v s ts p end c first rest f)

    pub told_none : IsOwn c → AreTold false m (gather (λ t. t.lines) (first ∷ (rest ++ end ∷ [])))
    told_none own_one =
        let own = f.own own_one in
        let took = took_notes m v s ts p end c first rest f (long_own m v s ts p end c first rest f own_one) in
        let before = came_from [] (first ∷ rest) in
        turns_told m s.switches [] (first ∷ rest) end f.turns tt (all_moves m p.seen.text p.seen.begun p.made first (rest ++ end ∷ []) kinds p.put took)
        (f.lines_are ∙ ap (λ (k : Known). (reacts m s.switches k (length before) end.states end.note).ordered.lines) own.0)

    -- no board makes a pulse
    board_still : (b : ℕ) → b < length m.boards → AllStill b (rest ++ end ∷ [])
    board_still b h =
        let w = f.boards b first rest h refl in
        let pins = pins_of (board_at m b) b s.switches in
        let turns = turns_behind [] w.made in
        let valid = valid_at m.boards b h v.boards in
        let run_first : IsInRun m s.switches pins s.entries b (came_before [] (first ∷ rest ++ end ∷ [])) turns = record { board = h; goes_on = w.goes_on; turns_are = w.turns_are; both = w.both; in_range = w.in_range } in
        let Run : List Came → Type 0 = λ z. IsInRun m s.switches pins s.entries b z turns in
        let run = subst Run (came_cut [] first rest end) run_first in
        let controls = subst (λ (os : List Orders). TookControls os) w.in_order (controlled m v s.switches pins s.entries b (came_from [] (first ∷ rest)) turns run moves) in
        let given = unbegun m ts p b (orders_of w.made) h none w.batches in
        took_still b (rest ++ end ∷ []) (states_of w.made) w.states (still_states (board_at m b) pins b s.entries (orders_of w.made) (states_of w.made) _ valid (still_given (orders_of w.made) given controls) w.told)

    empty : AreEmpty (gather (λ t. t.lines) (first ∷ (rest ++ end ∷ [])))
    empty =
        let tells : TellTurns m [] 0 (first ∷ (rest ++ end ∷ [])) = subst (λ (z : List Started). TellTurns m z 0 (first ∷ (rest ++ end ∷ []))) none (all_lines m v s ts p end c first rest f) in
        let full = turns_full m s.switches (came_in first ∷ []) rest end (omega arith) f.turns.1 last_full in
        both_empty first.lines (gather (λ (t : ReactorTurn). t.lines) (rest ++ end ∷ []))
        (turn_empty m 0 first tells.0 (λ j x e. absurd (let g : [] ≡ x ∷ [] = sym (ap (item j) first_none) ∙ e in cc)))
        (turns_empty m (length m.boards) 1 (rest ++ end ∷ []) tells.1 full board_still)

    pub bare_none : AreBare m All_lines
    bare_none = (empty.0, λ place h. empty.1 place)
