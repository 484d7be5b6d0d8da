-- The last turn of a run that ends for a read that failed.
use Rattle.std.proofs.Common.{◌≡◌, ◌⊎◌, ◌∙◌, inl, inr, ℕ, ◌+◌, Bool, true, false, List, [], ◌∷◌, ◌++◌, length, Option, Some, None, ap, sym, refl, append-nil, rules}
use Rattle.std.specs.Prelude.{◌==◌, ◌||◌, if◌then◌else◌}
use Rattle.laws_board.proofs.Names.{flat_map, Cause, Machine, Pulse, NoteNews, State, ReportLine, Scene, Switch, Known, is_out, news_of, noted, reacts, unless_ended, first_lines, machine_line, IsOwn, Came, known_by, MotionTurn, ReactorTurn, gather}
use Rattle.plan_types.specs.declared.cause.Cause.TheVariants as cause
use Rattle.msg_code.specs.declared.talk.NoteNews.TheVariants as news
use Rattle.report_text.specs.declared.line.ReportLine.TheVariants as report
use Rattle.host_reactor.specs.declared.ordered.Begun.{Begun}
use Rattle.host_reactor.specs.Report.{drift_line, drift_lines, stepper_place, pulse_at, pulse_line, pulse_lines, section_line}
use Rattle.host_reactor.specs.Running.{any_out, late, or_cause}
use Rattle.host_reactor.proofs.Blames.{blames, note-stays}
use Rattle.session_run.specs.Boards.{AreReactorTurns, came_from, came_in}
use Rattle.laws_run.specs.run_ends.Boards.{counts_of}
use Rattle.laws_run.proofs.run_ends.Counted.{counted, counts_append, both_none, machine_none, section_none, one_drift, drift_none, one_pulse, pulses_none, states_none, first_none}
use Rattle.laws_run.proofs.run_headline.Facts.{Facts}

-- a reactor that was told to stop tells what stands in a turn whatever the phase
told_first : (b : Bool) (stopped l : Option Cause) (d : Cause) (m : Machine) (switches : List Switch) (r : Known) (k : ℕ) (states : List State) (lines : List ReportLine) → stopped ≡ Some d
    → (unless_ended (if b then Some cause.Memory else or_cause stopped l) m switches r k states lines).ordered.lines ≡ lines
told_first true stopped l d m switches r k states lines e = refl
told_first false (Some x) l d m switches r k states lines e = refl
told_first false None l d m switches r k states lines e = absurd (let f : None ≡ Some d = e in cc)

-- the last turn's lines are those that stand in a turn whatever the phase
abbrev pub EndsPlain : Machine → List ReactorTurn → ReactorTurn → Known → Type 0
EndsPlain m rs end known = end.lines ≡ first_lines m (noted m end.note known) (length (came_from [] rs)) (news_of end.note) end.states

-- so they are, where a run ends for no cause of its own
pub last_lines : (m : Machine) (s : Scene) (ts : List MotionTurn) (rs : List ReactorTurn) (end : ReactorTurn) (c : Cause) (f : Facts m s ts rs end c) → Some c ≡ (reacts m s.switches f.known (length (came_from [] rs)) end.states end.note).ordered.end
    → IsOwn c ⊎ EndsPlain m rs end f.known
last_lines m s ts rs end c f e = search (rules, blames, told_first, is_out, first_lines, news_of, note-stays, noted)

-- nor do those of turns behind which the run goes on
goes_none : (m : Machine) (switches : List Switch) (before : List Came) (t : ReactorTurn) → AreReactorTurns m switches before (t ∷ []) → counts_of t.lines ≡ []
goes_none m switches before t h = search (rules, known_by, blames, counted)

pub going_none : (m : Machine) (switches : List Switch) (before : List Came) (rs : List ReactorTurn) → AreReactorTurns m switches before rs → counts_of (gather (λ t. t.lines) rs) ≡ []
going_none m switches before [] turns = refl
going_none m switches before (t ∷ rs) turns = both_none t.lines (gather (λ (x : ReactorTurn). x.lines) rs) (goes_none m switches before t (turns.0, tt)) (going_none m switches (came_in t ∷ before) rs turns.1)

pub plain_none : (m : Machine) (switches : List Switch) (before : List Came) (rs : List ReactorTurn) (end : ReactorTurn) (known : Known) (k : ℕ) → AreReactorTurns m switches before rs → end.lines ≡ first_lines m known k (news_of end.note) end.states
    → counts_of (gather (λ t. t.lines) (rs ++ end ∷ [])) ≡ []
plain_none m switches before [] end known k turns last = ap counts_of (append-nil end.lines ∙ last) ∙ first_none m known k (news_of end.note) end.states
plain_none m switches before (t ∷ rs) end known k turns last =
    both_none t.lines (gather (λ (x : ReactorTurn). x.lines) (rs ++ end ∷ [])) (goes_none m switches before t (turns.0, tt)) (plain_none m switches (came_in t ∷ before) rs end known k turns.1 last)
