-- The boards of a run, as the reactor and the planner have them.
use Rattle.std.specs.Prelude.{◌≡◌, ℕ, ◌-◌, List, [], ◌∷◌, drop, map, take}
use Rattle.plan_types.specs.declared.machine.Machine.{Machine}
use Rattle.plan_types.specs.declared.plan.Pulse.{Pulse}
use Rattle.plan_types.specs.Machines.{stepper_at}
use Rattle.msg_code.specs.declared.talk.State.{State}
use Rattle.report_text.specs.declared.line.ReportLine.{ReportLine}
use Rattle.host_reactor.specs.Report.{turned}
use Rattle.laws_board.specs.sections.Boards.{Times}
use Rattle.motion_work.specs.Seen.{Started}
use Rattle.session_work.specs.declared.table.ReactorTurn.{ReactorTurn}
use Rattle.session_work.specs.Rows.{gather, item}

-- in some turns of the reactor it took these states of a board, one in each
abbrev pub TookStates : ℕ → List ReactorTurn → List State → Type 0
TookStates b [] states = states ≡ []
TookStates b (t ∷ ts) [] = ⊥
TookStates b (t ∷ ts) (s ∷ states) = (item b t.states ≡ s ∷ []) × TookStates b ts states

-- the lines of the reactor's turns from one on and before another
abbrev pub lines_between : ℕ → ℕ → List ReactorTurn → List ReportLine
lines_between from to rs = gather (λ t. t.lines) (take (to - from) (drop from rs))

-- the turns in which sections that were begun start and end
abbrev pub times_of : List Started → List Times
times_of ss = map (λ s. record { start = s.start; end = s.end }) ss

-- the pulses of a stepper at a place as a report tells them, with their directions turned back where its wire
-- is inverted
abbrev pub as_told : Machine → ℕ → List Pulse → List Pulse
as_told m place ps =
    map (λ p. record { tick = p.tick; stepper = place; up = turned (stepper_at m place).inverted p.up }) ps
