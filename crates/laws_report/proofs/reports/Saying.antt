-- A line of a report is read back: its text has its words, and they say what it does.
use Rattle.std.proofs.Common.{◌≡◌, ◌∙◌, ℕ, zero, suc, ◌<◌, ◌≤◌, ◌^◌, Bool, true, false, List, [], ◌∷◌, length, ap, sym, refl, arith, Option, Some, None, rules}
use Rattle.std.specs.Prelude.{◌&&◌, ◌==◌, codes, decimal, Ok, Err, if◌then◌else◌}
use Rattle.std.specs.Str.{bytes_eq}
use Rattle.laws_board.proofs.Names.{nat_tests, Cause, Machine, SectionKind, Moves, Home, IsValidMachine, board_at, stepper_at, ReportLine, and_from}
use Rattle.plan_types.specs.Clock.{run_turns}
use Rattle.text_core.specs.Bytes.{Text}
use Rattle.text_core.specs.Numbers.{value_of}
use Rattle.plan_types.specs.declared.cause.Cause.TheVariants as cause
use Rattle.plan_types.specs.declared.cause.CfgKind.{CfgKind}
use Rattle.plan_types.specs.declared.cause.CfgKind.TheVariants as cfg
use Rattle.plan_types.specs.declared.cause.LineKind.{LineKind}
use Rattle.plan_types.specs.declared.cause.LineKind.TheVariants as fault
use Rattle.plan_types.specs.declared.cause.MeshKind.{MeshKind}
use Rattle.plan_types.specs.declared.cause.MeshKind.TheVariants as mesh
use Rattle.plan_types.specs.declared.cause.MisfitKind.{MisfitKind}
use Rattle.plan_types.specs.declared.cause.MisfitKind.TheVariants as misfit
use Rattle.plan_types.specs.declared.cause.MisfitKind.TheVariants.{BadLine, Unknown}
use Rattle.plan_types.specs.declared.cause.SceneKind.{SceneKind}
use Rattle.plan_types.specs.declared.cause.SceneKind.TheVariants as scene
use Rattle.plan_types.specs.declared.cause.TraceKind.{TraceKind}
use Rattle.plan_types.specs.declared.cause.TraceKind.TheVariants as trace
use Rattle.plan_types.specs.Machines.{no_board, no_stepper}
use Rattle.report_text.specs.declared.line.ReportLine.TheVariants as report
use Rattle.report_text.specs.Text.{end_text, kinematics_word, line_text, pin_name, section_text}
use Rattle.report_text.specs.Words.{axis_word, cfg_word, line_word, mesh_word, misfit_word, scene_word, trace_word}
use Rattle.log_text.specs.declared.line.LogLine.TheVariants as line
use Rattle.log_text.specs.Names.{board_from, stepper_from}
use Rattle.log_text.specs.Said.{Said, board_freq, board_tick, board_told, board_turn, counts_passed, counts_with, cut_with, drift_from, drift_tick, drift_told, drift_turn, is_corexy, is_up, kind_said, board_said, line_said, machine_boards, machine_if, machine_with, pulse_told, pulse_with, same, section_turn, section_with}
use Rattle.log_text.specs.Words.{is_turn, labelled, number, with_words}
use Rattle.laws_report.specs.reports.Logged.{IsCauseOn, IsKind, IsOfRun, logged}
use Rattle.laws_report.specs.reports.Names.{HasNames, is_word}
use Rattle.laws_report.specs.reports.Spelled.{end_words, kind_words, sign, spaced, words_said}
use Rattle.laws_report.proofs.reports.Digits.{decimal-word, number-decimal}
use Rattle.laws_report.proofs.reports.Naming.{board-at, same-text, stepper-at}
use Rattle.laws_report.proofs.reports.Wording.{AreWords}

-- its words, with a space between any two

section-spelled : (i turn : ℕ) (kind : SectionKind) → section_text i turn kind ≡ spaced (codes "section" ∷ decimal i ∷ codes "turn" ∷ decimal turn ∷ kind_words kind) (10 ∷ [])
section-spelled i turn Moves = refl
section-spelled i turn (Home axis) = refl

end-spelled : (m : Machine) (c : Cause) → end_text m c ≡ spaced (codes "end" ∷ end_words m c) (10 ∷ [])
end-spelled m cause.Done = refl
end-spelled m c = refl

pub line-spelled : (m : Machine) (l : ReportLine) → line_text m l ≡ spaced (words_said m l) (10 ∷ [])
line-spelled m l = search (rules, section-spelled, end-spelled)

-- they are words

board-word : (m : Machine) (b : ℕ) → HasNames m → b < length m.boards → is_word (board_at m b).name ≡ true
board-word m b names inside = names.boards b no_board inside

stepper-word : (m : Machine) (s : ℕ) → HasNames m → s < length m.steppers → is_word (stepper_at m s).name ≡ true
stepper-word m s names inside = names.steppers s no_stepper inside

pin-word : (m : Machine) (b p : ℕ) → HasNames m → b < length m.boards → p < length (board_at m b).pins → is_word (pin_name m b p) ≡ true
pin-word m b p names inside pin = names.pins b no_board inside p [] pin

kinematics-word : (corexy : Bool) → is_word (kinematics_word corexy) ≡ true
kinematics-word true = refl
kinematics-word false = refl

axis-words : (axis : ℕ) → is_word (axis_word axis) ≡ true
axis-words zero = refl
axis-words (suc zero) = refl
axis-words (suc (suc n)) = refl

kind-words : (kind : SectionKind) → AreWords (kind_words kind)
kind-words Moves = (refl, tt)
kind-words (Home axis) = (refl, (axis-words axis, tt))

sign-word : (up : Bool) → is_word (sign up) ≡ true
sign-word true = refl
sign-word false = refl

cfg-word : (kind : CfgKind) → is_word (cfg_word kind) ≡ true
cfg-word cfg.BadLine = refl
cfg-word c = refl

scene-word : (kind : SceneKind) → is_word (scene_word kind) ≡ true
scene-word scene.BadLine = refl
scene-word c = refl

trace-word : (kind : TraceKind) → is_word (trace_word kind) ≡ true
trace-word trace.BadLine = refl
trace-word c = refl

mesh-word : (kind : MeshKind) → is_word (mesh_word kind) ≡ true
mesh-word mesh.BadLine = refl
mesh-word c = refl

misfit-word : (kind : MisfitKind) → is_word (misfit_word kind) ≡ true
misfit-word misfit.BadLine = refl
misfit-word c = refl

fault-word : (kind : LineKind) → is_word (line_word kind) ≡ true
fault-word fault.BadNumber = refl
fault-word c = refl

end-are-words : (m : Machine) (c : Cause) → HasNames m → IsCauseOn m c → AreWords (end_words m c)
end-are-words m (cause.Config line kind) names on = (refl, (refl, (decimal-word line on, (cfg-word kind, tt))))
end-are-words m (cause.Scene line kind) names on = (refl, (refl, (decimal-word line on, (scene-word kind, tt))))
end-are-words m (cause.Line line kind) names on = (refl, (refl, (decimal-word line on, (fault-word kind, tt))))
end-are-words m (cause.Late board first arrival spoiled spill) names on =
    (refl, (refl, (board-word m board names on.0, (decimal-word first on.1, (decimal-word arrival on.2, (decimal-word spoiled on.3, (decimal-word spill on.4, tt)))))))
end-are-words m (cause.Asked line) names on = (refl, (refl, (decimal-word line on, tt)))
end-are-words m (cause.NoSwitch section) names on = (refl, (refl, (decimal-word section on, tt)))
end-are-words m (cause.Expired board turn) names on = (refl, (refl, (board-word m board names on.0, (decimal-word turn on.1, tt))))
end-are-words m (cause.Connect board turn) names on = (refl, (refl, (board-word m board names on.0, (decimal-word turn on.1, tt))))
end-are-words m (cause.Stale board turn) names on = (refl, (refl, (board-word m board names on.0, (decimal-word turn on.1, tt))))
end-are-words m (cause.Trace line kind) names on = (refl, (refl, (decimal-word line on, (trace-word kind, tt))))
end-are-words m (cause.Mesh line kind) names on = (refl, (refl, (decimal-word line on, (mesh-word kind, tt))))
end-are-words m (cause.Misfit line kind) names on = (refl, (refl, (decimal-word line on, (misfit-word kind, tt))))
end-are-words m c names on = (refl, (refl, tt))

long-turn : (turn : ℕ) → turn < run_turns → turn < 2 ^ 64
long-turn turn low = omega (arith, low)

few-long : (n : ℕ) → n ≤ 16 → n < 2 ^ 64
few-long n few = omega (arith, few)

freq-long : (m : Machine) (b freq : ℕ) → IsValidMachine m → b < length m.boards → freq ≡ (board_at m b).freq → freq < 2 ^ 64
freq-long m b freq valid inside e = (let high = (valid.boards b no_board inside).freq.high in omega (arith, high, e))

-- the board of a stepper is there
stepper-board : (m : Machine) (s b : ℕ) → IsValidMachine m → s < length m.steppers → b ≡ (stepper_at m s).board → b < length m.boards
stepper-board m s b valid inside e = (let h = (valid.steppers s inside).board in omega (arith, h, e))

pub are-words : (m : Machine) (l : ReportLine) → IsValidMachine m → HasNames m → IsOfRun m l → AreWords (words_said m l)
are-words m (report.Machine corexy boards steppers) valid names of =
    let few_boards = valid.boards_few in
    let few_steppers = valid.steppers_few in
    let e = of.1 in
    let f = of.2 in
    (refl, (kinematics-word corexy, (refl, (decimal-word boards (few-long boards (omega arith)), (refl, (decimal-word steppers (few-long steppers (omega arith)), tt))))))
are-words m (report.Board board freq turn tick) valid names of =
    (refl, (board-word m board names of.0, (refl, (decimal-word freq (freq-long m board freq valid of.0 of.1), (refl, (decimal-word turn (long-turn turn of.2), (refl, (decimal-word tick of.3, tt))))))))
are-words m (report.Section i turn kind) valid names of = (refl, (decimal-word i of.0, (refl, (decimal-word turn (long-turn turn of.1), kind-words kind))))
are-words m (report.Pulse board stepper tick up) valid names of =
    (refl, (board-word m board names (stepper-board m stepper board valid of.0 of.1), (stepper-word m stepper names of.0, (decimal-word tick of.2, (sign-word up, tt)))))
are-words m (report.Cut i board pin tick from) valid names of =
    (refl, (decimal-word i of.0, (board-word m board names of.1, (pin-word m board pin names of.1 of.2, (decimal-word tick of.3, (decimal-word from of.4, tt))))))
are-words m (report.Drift board sent clock from) valid names of =
    (refl, (board-word m board names of.0, (refl, (decimal-word sent of.1, (refl, (decimal-word clock of.2, (refl, (decimal-word from of.3, tt))))))))
are-words m (report.Lines accepted passed) valid names of = (refl, (decimal-word accepted of.0, (refl, (decimal-word passed of.1, tt))))
are-words m (report.End c) valid names of = (refl, end-are-words m c names of)
are-words m c valid names of = absurd of

-- they say what the line does

label : (name : Text) (n : ℕ) (words : List Text) → n < 2 ^ 64 → labelled name (name ∷ decimal n ∷ words) ≡ Some (n, words)
label name n words small = search (rules, same-text, number-decimal, bytes_eq)

is-turn : (turn : ℕ) → turn < run_turns → is_turn turn ≡ true
is-turn turn low = grind (arith, nat_tests)

ok-if : (a : Bool) (said other : Said) → a ≡ true → (if a then said else other) ≡ said
ok-if true said other e = refl
ok-if false said other e = cc

machine-said : (m : Machine) (corexy : Bool) (boards steppers : ℕ) → IsValidMachine m → corexy ≡ m.corexy → boards ≡ length m.boards → steppers ≡ length m.steppers
    → line_said m (words_said m (report.Machine corexy boards steppers)) ≡ Ok line.Note
machine-said m corexy boards steppers valid c b s =
    let few_boards = valid.boards_few in
    let few_steppers = valid.steppers_few in
    let first = label (codes "boards") boards (codes "steppers" ∷ decimal steppers ∷ []) (omega arith) in
    let second = label (codes "steppers") steppers [] (omega arith) in
    let same_boards : (boards == length m.boards) ≡ true = grind (arith, nat_tests) in
    let same_steppers : (steppers == length m.steppers) ≡ true = grind (arith, nat_tests) in
    ap (machine_boards m (kinematics_word corexy)) first
    ∙ (ap (machine_with m (is_corexy (kinematics_word corexy)) boards) second
    ∙ (ap (λ (k : Option Bool). machine_with m k boards (Some (steppers, []))) (kind-back corexy)
    ∙ ap machine_if (and_from (same corexy m.corexy && (boards == length m.boards)) (steppers == length m.steppers) (and_from (same corexy m.corexy) (boards == length m.boards) (same-back corexy m.corexy c) same_boards) same_steppers))) where
      kind-back : (b : Bool) → is_corexy (kinematics_word b) ≡ Some b
      kind-back true = refl
      kind-back false = refl

      same-back : (a b : Bool) → a ≡ b → same a b ≡ true
      same-back true b e = sym e
      same-back false true e = cc
      same-back false false e = refl

board-said : (m : Machine) (board freq turn tick : ℕ) → IsValidMachine m → HasNames m → board < length m.boards → freq ≡ (board_at m board).freq → turn < run_turns → tick < 2 ^ 64
    → line_said m (words_said m (report.Board board freq turn tick)) ≡ Ok (line.Board board turn tick)
board-said m board freq turn tick valid names inside f t long =
    let name = (board_at m board).name in
    let first = label (codes "freq") freq (codes "turn" ∷ decimal turn ∷ codes "tick" ∷ decimal tick ∷ []) (freq-long m board freq valid inside f) in
    let second = label (codes "turn") turn (codes "tick" ∷ decimal tick ∷ []) (long-turn turn t) in
    let third = label (codes "tick") tick [] long in
    let same_freq : ((board_at m board).freq == freq) ≡ true = grind (arith, nat_tests) in
    ap (board_freq m name) first
    ∙ (ap (board_turn m name freq) second
    ∙ (ap (board_tick m name freq turn) third
    ∙ (ok-if (is_turn turn) (board_told m freq turn tick (board_from 0 name m.boards)) (Err BadLine) (is-turn turn t)
    ∙ (ap (board_told m freq turn tick) (board-at m.boards board no_board inside names.boards_differ)
    ∙ ok-if ((board_at m board).freq == freq) (Ok (line.Board board turn tick)) (Err Unknown) same_freq))))

section-said : (m : Machine) (i turn : ℕ) (kind : SectionKind) → i < 2 ^ 64 → turn < run_turns → IsKind kind → line_said m (words_said m (report.Section i turn kind)) ≡ Ok (line.Section i turn kind)
section-said m i turn kind long t axis = search (rules, label, long-turn, number-decimal, ok-if, is-turn)

pulse-said : (m : Machine) (board stepper tick : ℕ) (up : Bool) → IsValidMachine m → HasNames m → stepper < length m.steppers → board ≡ (stepper_at m stepper).board → tick < 2 ^ 64
    → line_said m (words_said m (report.Pulse board stepper tick up)) ≡ Ok (line.Pulse stepper tick up)
pulse-said m board stepper tick up valid names inside b long =
    let at = stepper-board m stepper board valid inside b in
    let bn = (board_at m board).name in
    let sn = (stepper_at m stepper).name in
    let same_board : ((stepper_at m stepper).board == board) ≡ true = grind (arith, nat_tests) in
    ap (λ (n : Option ℕ). pulse_with m bn sn n (is_up (sign up))) (number-decimal tick long)
    ∙ (ap (pulse_with m bn sn (Some tick)) (up-back up)
    ∙ (ap (λ (n : Option ℕ). pulse_told m tick up n (stepper_from 0 sn m.steppers)) (board-at m.boards board no_board at names.boards_differ)
    ∙ (ap (pulse_told m tick up (Some board)) (stepper-at m.steppers stepper no_stepper inside names.steppers_differ)
    ∙ ok-if ((stepper_at m stepper).board == board) (Ok (line.Pulse stepper tick up)) (Err Unknown) same_board))) where
      up-back : (b : Bool) → is_up (sign b) ≡ Some b
      up-back true = refl
      up-back false = refl

cut-said : (m : Machine) (i board pin tick from : ℕ) → HasNames m → i < 2 ^ 64 → board < length m.boards → tick < 2 ^ 64 → from < 2 ^ 64 → line_said m (words_said m (report.Cut i board pin tick from)) ≡ Ok (line.Cut i)
cut-said m i board pin tick from names a inside b c = search (rules, board_at, number-decimal, board-at)

drift-said : (m : Machine) (board sent clock from : ℕ) → HasNames m → board < length m.boards → sent < 2 ^ 64 → clock < 2 ^ 64 → from < 2 ^ 64 → line_said m (words_said m (report.Drift board sent clock from)) ≡ Ok (line.Line board sent clock from)
drift-said m board sent clock from names inside a b c =
    let name = (board_at m board).name in
    ap (drift_turn m name) (label (codes "turn") sent (codes "tick" ∷ decimal clock ∷ codes "from" ∷ decimal from ∷ []) a)
    ∙ (ap (drift_tick m name sent) (label (codes "tick") clock (codes "from" ∷ decimal from ∷ []) b)
    ∙ (ap (drift_from m name sent clock) (label (codes "from") from [] c)
    ∙ ap (drift_told sent clock from) (board-at m.boards board no_board inside names.boards_differ)))

counts-said : (m : Machine) (accepted passed : ℕ) → accepted < 2 ^ 64 → passed < 2 ^ 64 → line_said m (words_said m (report.Lines accepted passed)) ≡ Ok line.Note
counts-said m accepted passed a b = search (rules, number-decimal, label)

end-said : (m : Machine) (c : Cause) → line_said m (words_said m (report.End c)) ≡ Ok line.End
unfolding value_of
end-said m cause.Done = refl
end-said m c = refl

pub line-back-said : (m : Machine) (l : ReportLine) → IsValidMachine m → HasNames m → IsOfRun m l → line_said m (words_said m l) ≡ Ok (logged l)
line-back-said m (report.Machine corexy boards steppers) valid names of = machine-said m corexy boards steppers valid of.0 of.1 of.2
line-back-said m (report.Board board freq turn tick) valid names of = board-said m board freq turn tick valid names of.0 of.1 of.2 of.3
line-back-said m (report.Section i turn kind) valid names of = section-said m i turn kind of.0 of.1 of.2
line-back-said m (report.Pulse board stepper tick up) valid names of = pulse-said m board stepper tick up valid names of.0 of.1 of.2
line-back-said m (report.Cut i board pin tick from) valid names of = cut-said m i board pin tick from names of.0 of.1 of.3 of.4
line-back-said m (report.Drift board sent clock from) valid names of = drift-said m board sent clock from names of.0 of.1 of.2 of.3
line-back-said m (report.Lines accepted passed) valid names of = counts-said m accepted passed of.0 of.1
line-back-said m (report.End c) valid names of = end-said m c
line-back-said m c valid names of = absurd of
