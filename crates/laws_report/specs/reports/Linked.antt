-- What a run over links shows.
use Rattle.std.specs.Prelude.{◌≡◌, ◌≢◌, ◌⊎◌, ℕ, List, [], ◌∷◌, ◌++◌, Option, Some}
use Rattle.io_core.specs.declared.traits.Files.{Ghosts as Files}
use Rattle.io_core.specs.declared.traits.Sink.{Ghosts as Sink}
use Rattle.plan_types.specs.declared.cause.Cause.{Cause}
use Rattle.plan_types.specs.declared.cause.Cause.TheVariants as cause
use Rattle.plan_types.specs.declared.machine.Machine.{Machine}
use Rattle.plan_types.specs.declared.plan.ReadStop.TheVariants as read
use Rattle.report_text.specs.declared.line.ReportLine.{ReportLine}
use Rattle.report_text.specs.declared.line.ReportLine.TheVariants as report
use Rattle.report_text.specs.Text.{report_text}
use Rattle.session_lanes.specs.declared.near.LinkLog.{LinkLog}
use Rattle.session_run.specs.Boards.{came_from}
use Rattle.session_run.specs.Reported.{IsReported}
use Rattle.wire_scene.specs.declared.scene.Scene.{Scene}
use Rattle.gcode_program.specs.Programs.{program_end}
use Rattle.host_reactor.specs.Rows.{IsOwn}
use Rattle.laws_run.specs.run_headline.Made.{IsMade, IsNamed, NoneSo}
use Rattle.laws_run.specs.home_headline.Cuts.{TellAnswers, cuts_of}
use Rattle.laws_run.specs.home_headline.Reports.{TellOfReadings}
use Rattle.laws_run.specs.run_links.Links.{AreLinksIn}
use Rattle.laws_run.specs.run_lates.Late.{AllMayTell, ComesLateIn, HasLateUnitIn}
use Rattle.laws_run.specs.run_clocks.Printed.{TellKnownLines}
use Rattle.laws_run.specs.run_ends.Boards.{boards_of}
use Rattle.laws_run.specs.run_ends.Ends.{GoesThrough}
use Rattle.laws_run.specs.run_headline.Timely.{AreOfMoves}
use Rattle.session_run.specs.Desks.{reported_lines}
use Rattle.motion_work.specs.Told.{Told as Heard}
use Rattle.laws_run.specs.home_headline.Little.{SendsOut}
use Rattle.laws_run.specs.home_headline.Near.{AllKeepUp, AllReadAsTold, AllTakeNear, ShownKeepUp, ShownTakeNear}
use Rattle.laws_run.specs.home_wholes.Own.{AllSwitchesReadTrue, AllTakeInTime, TellTriggers}
use Rattle.laws_run.specs.clear_homes.Closes.{MissesSwitch, TellFirst}
use Rattle.laws_run.specs.clear_homes.First.{IsFirstExpired, IsUnswitched}
use Rattle.laws_run.specs.hindered_runs.Hindered.{HasHinderedLink}
use Rattle.laws_run.specs.missed_switches.Missed.{Misses, NoneShut}
use Rattle.laws_run.specs.run_causes.Unanswered.{GaveNoAnswer, IsStaleSince}
use Rattle.laws_run.specs.clear_runs.Clear.{SendsAllSoon}
use Rattle.laws_report.specs.reports.Body.{cause_of}
use Rattle.laws_report.specs.reports.Checks.{check_cause}
use Rattle.laws_report.specs.reports.Homes.{ShowsBegun}
use Rattle.laws_report.specs.reports.Names.{HasNames}
use Rattle.laws_report.specs.reports.Read.{IsSceneFor}
use Rattle.laws_report.specs.page.Log.{log_of}
use Rattle.laws_report.specs.page.Report.{Shows}
use Rattle.laws_report.specs.page.Steps.{counts_planned}
use Rattle.session_work.specs.declared.table.MotionTurn.{MotionTurn}
use Rattle.session_work.specs.declared.table.ReactorTurn.{ReactorTurn}
use Rattle.laws_report.specs.reports.Promises.{IsCauseOf, sections_over}
use Rattle.laws_report.specs.reports.Times.{AreTimed}

-- The premise of what a run of a text shows: each board takes all near, in all turns, of which `end` is the last; or in
-- those before it, where the run ended for want of memory.
abbrev pub MeetPremise : Machine → Scene → List ℕ → List MotionTurn → List ReactorTurn → ReactorTurn → Cause → Type 0
MeetPremise m s text planned turns end c =
    (c ≢ cause.Memory → AllTakeNear m s text planned (turns ++ end ∷ []))
    × (c ≡ cause.Memory → ShownTakeNear m s text planned turns)

-- What is less than the premise, and enough for what a run shows: each board keeps up, in all turns; or in those before
-- the last one, where the run ended for want of memory.
abbrev pub KeepUp : Machine → Scene → List ℕ → List MotionTurn → List ReactorTurn → ReactorTurn → Cause → Type 0
KeepUp m s text planned turns end c =
    (c ≢ cause.Memory → AllKeepUp m s text planned (turns ++ end ∷ []))
    × (c ≡ cause.Memory → ShownKeepUp m s text planned turns)

-- Steps that came too late are those of a unit of the plan of a text, with its spoiled turns and its spill.
pub record AreOfUnit (m : Machine) (s : Scene) (text : List ℕ) (board first arrival spoiled spill : ℕ)
    (planned : List MotionTurn) (turns : List ReactorTurn) (end : ReactorTurn) : Type 0 where
  pub made : IsMade m s planned turns
  pub of_text : made.plans.seen.text ≡ text
  pub late : ComesLateIn m s board first arrival spoiled spill planned turns end
  pub heard : Heard
  pub known : made.plans.seen.told ≡ Some heard
  pub unit :
      HasLateUnitIn m s board first arrival spoiled spill planned turns end heard.clocks made.plans.seen.begun late

-- The homing section with this number, of those of a text, misses its switch.
pub record EndsMissed (m : Machine) (s : Scene) (text : List ℕ) (planned : List MotionTurn) (turns : List ReactorTurn)
    (end : ReactorTurn) (section : ℕ) : Type 0 where
  pub made : IsMade m s planned turns
  pub of_text : made.plans.seen.text ≡ text
  pub misses : Misses m s made.plans.seen planned turns end section

-- What the cause of a run says, by the text of its file and its turns, of which `end` is the last. It ends
-- for a board that gives no answer, or whose clock line is too old, only where its askings in a row were
-- hindered on its link; and for steps that came too late only where the board took them so in its link's last
-- turn, and they are a unit's of its plan where each board takes all near, and units of moves are sent by
-- four turns behind their section's end. It ends for a board that expired only where, by what the members of
-- the homing section's group told, it is the first of them, and the link of a member's board was hindered by
-- then, in the section or its set-up, where each board takes all near and the reports are read as what they
-- told. It ends as no switch closed only where, by what these told, none expired in time and the endstop's
-- board read no switch; and where the reports are read as what they told, and no board tells of a shutdown,
-- the section missed its switch: its readings, from where its board took their command on, show it at no tick
-- before that of the turn behind its last planned step.
abbrev pub EndsFor :
    Machine → Scene → Option (List ℕ) → List MotionTurn → List ReactorTurn → ReactorTurn → Cause → Type 0
EndsFor m s told planned turns end (cause.Connect board turn) =
    (text : List ℕ) → told ≡ Some text → ∥ GaveNoAnswer m s board turn planned turns end ∥₁
EndsFor m s told planned turns end (cause.Stale board turn) = IsStaleSince m s board turn planned turns end
EndsFor m s told planned turns end (cause.Late board first arrival spoiled spill) =
    ComesLateIn m s board first arrival spoiled spill planned turns end
    × ((text : List ℕ) → told ≡ Some text → AllTakeNear m s text planned (turns ++ end ∷ []) → SendsOut m text planned →
    ∥ AreOfUnit m s text board first arrival spoiled spill planned turns end ∥₁)
EndsFor m s told planned turns end (cause.Expired board turn) =
    IsFirstExpired m s.switches board turn turns end
    × ((text : List ℕ) → told ≡ Some text → AllTakeNear m s text planned (turns ++ end ∷ []) →
    AllReadAsTold m s planned turns end → ∥ HasHinderedLink m s board turn planned turns end ∥₁)
EndsFor m s told planned turns end (cause.NoSwitch section) =
    IsUnswitched m s.switches section turns end
    × ((text : List ℕ) → told ≡ Some text → AllReadAsTold m s planned turns end → NoneShut m end →
    ∥ EndsMissed m s text planned turns end section ∥₁)
EndsFor m s told planned turns end _ = Unit {0}

-- A run ends as no switch closed in a section, which homes, and whose switch closes too late.
pub record EndsUnswitched (m : Machine) (s : Scene) (text : List ℕ) (planned : List MotionTurn)
    (turns : List ReactorTurn) (c : Cause) : Type 0 where
  pub made : IsMade m s planned turns
  pub of_text : made.plans.seen.text ≡ text
  pub section : ℕ
  pub cause_is : c ≡ cause.NoSwitch section
  pub misses : MissesSwitch m s made.plans.seen section

-- The report of a run over links: of a planner, a link for each board and the reactor, which made the turns that
-- `reported` has, over a file of G-code and a scene, and of what was written. All else that can be said of it follows
-- from that. This is said:
pub record IsLinkReport {F S : Type 0} (f : Files F) (o : Sink S) (m : Machine) (s : Scene) (gcode : List ℕ)
    (files files' : F) (out out' : S) (c : Cause) (lines : List ReportLine) (counts : List ℕ) (links : List LinkLog)
    : Type 0 where
  -- Links, Bytes, End line, Pulses: it is that of such turns; its lines were written, and its counts are of its pulses
  pub reported : IsReported f o m s gcode files files' out out' c lines counts links
  -- Scene: it is none, or one that was read
  pub scene : IsSceneFor m s
  -- Prefix, Whole, Sections, Cuts, Clock lines, Counts: its printed lines show the file's text, as far as the run came,
  -- of moves or homing, whatever ended it
  pub shows : (text : List ℕ) → f.told files gcode ≡ Some text →
      ∥ Shows (MeetPremise m s text reported.runs.runs.0 reported.runs.runs.1 reported.runs.runs.2 reported.told.cause)
      m s text c reported.said ∥₁
  -- Begun: they show the sections that were begun, by the clock lines that the planner heard, and where each board
  -- keeps up the pulses too
  pub begun : (text : List ℕ) → f.told files gcode ≡ Some text →
      ∥ ShowsBegun (KeepUp m s text reported.runs.runs.0 reported.runs.runs.1 reported.runs.runs.2 reported.told.cause)
      m text c reported.said ∥₁
  -- Memory: where memory ran out the last turn has no lines, so all that was printed is of the turns before it
  pub memory : reported.told.cause ≡ cause.Memory → reported.runs.runs.2.lines ≡ []
  -- Boards: each board's lists in `links` hold the units of the text's sections, each in its turn, in order
  -- and with longest triples, the controls that the reactor orders, and the states of the board's turns,
  -- whose pulses its lines show
  pub boards : (text : List ℕ) → f.told files gcode ≡ Some text →
      ∥ AreLinksIn m s text reported.told.cause reported.runs.runs.0 reported.runs.runs.1 reported.runs.runs.2 links ∥₁
  -- Sections start and end in their turns, and the `board` lines are of clock lines that follow the boards' clocks
  pub times : (text : List ℕ) → f.told files gcode ≡ Some text →
      ∥ ((made : IsMade m s reported.runs.runs.0 reported.runs.runs.1) × (made.plans.seen.text ≡ text)
      × AreTimed m s reported.told.cause reported.runs.runs.0 reported.runs.runs.1 reported.runs.runs.2
      made.plans.seen) ∥₁
  pub board_lines : (reported.told.cause ≡ cause.Memory → ⊥) →
      (boards_of (reported_lines (reported.runs.runs.1 ++ reported.runs.runs.2 ∷ [])) ≡ [])
      ⊎ TellKnownLines m s.switches reported.runs.runs.1
      (reported_lines (reported.runs.runs.1 ++ reported.runs.runs.2 ∷ []))
  -- Causes: a cause of the run's own is so in the reactor's last turn, the first one that is, and in no
  -- earlier turn was any; and what each says of links, boards and switches
  pub names : IsOwn c → (c ≡ cause.Memory → ⊥) → IsNamed m s reported.runs.runs.1 reported.runs.runs.2 c
  pub earlier : NoneSo m s reported.runs.runs.1
  pub ends : EndsFor m s (f.told files gcode) reported.runs.runs.0 reported.runs.runs.1 reported.runs.runs.2 c
  -- Shutdowns: no state tells of any other but of steps that came too late and the order to stop
  pub shutdowns : (text : List ℕ) → f.told files gcode ≡ Some text → (reported.told.cause ≡ cause.Memory → ⊥) →
      AllTakeNear m s text reported.runs.runs.0 (reported.runs.runs.1 ++ reported.runs.runs.2 ∷ []) →
      ∥ AllMayTell (reported.runs.runs.1 ++ reported.runs.runs.2 ∷ []) ∥₁
  -- Answers: a turn tells of a switch exactly where the group of the homing section that is known answers
  -- that it closed, at the tick of the answer, and not the last turn; whatever tells of readings tells of
  -- complete ones; and that tick is the section's trigger tick where the reports of readings are read true
  pub answers : TellAnswers m s.switches [] reported.runs.runs.1
  pub last_cut : (text : List ℕ) → f.told files gcode ≡ Some text → cuts_of reported.runs.runs.2.lines ≡ []
  pub readings : TellOfReadings m s.switches (came_from [] reported.runs.runs.1)
  pub triggers : (text : List ℕ) → f.told files gcode ≡ Some text → (reported.told.cause ≡ cause.Memory → ⊥) →
      AllSwitchesReadTrue m s reported.runs.runs.0 (reported.runs.runs.1 ++ reported.runs.runs.2 ∷ []) →
      ∥ ((made : IsMade m s reported.runs.runs.0 reported.runs.runs.1) × (made.plans.seen.text ≡ text)
      × TellTriggers m s made.plans.seen reported.runs.runs.0 reported.runs.runs.1 reported.runs.runs.2) ∥₁
  -- First ticks: where besides the boards take the set-ups of homing sections in time, it is the first tick, from the
  -- section's start on, at which the switch closes
  pub first_ticks : (text : List ℕ) → f.told files gcode ≡ Some text → (reported.told.cause ≡ cause.Memory → ⊥) →
      AllSwitchesReadTrue m s reported.runs.runs.0 (reported.runs.runs.1 ++ reported.runs.runs.2 ∷ []) →
      AllTakeInTime m s text reported.runs.runs.0 (reported.runs.runs.1 ++ reported.runs.runs.2 ∷ []) →
      ∥ ((made : IsMade m s reported.runs.runs.0 reported.runs.runs.1) × (made.plans.seen.text ≡ text)
      × TellFirst m s made.plans.seen [] reported.runs.runs.1) ∥₁
  -- Completeness: in a scene without entries a text without a line that asks for a stop, whose units are sent
  -- soon, is run as it reads, but for want of memory and faults of files and output; unless a switch closes
  -- too late
  pub complete : (text : List ℕ) → f.told files gcode ≡ Some text →
      ((line : ℕ) → (program_end m text).stop ≡ read.Stop line → ⊥) → s.entries ≡ [] →
      SendsAllSoon m text reported.runs.runs.0 →
      ∥ IsCauseOf (cause_of (program_end m text).stop) c
      ⊎ EndsUnswitched m s text reported.runs.runs.0 reported.runs.runs.1 c ∥₁
  -- Pulses: where a run of moves went through and met its premise, each count is the number of its stepper's
  -- planned steps
  pub counted : (text : List ℕ) → f.told files gcode ≡ Some text → GoesThrough c → AreOfMoves (sections_over m text) →
      MeetPremise m s text reported.runs.runs.0 reported.runs.runs.1 reported.runs.runs.2 reported.told.cause →
      counts ≡ counts_planned m (sections_over m text) (log_of reported.said)
  -- Check: where the run went through, and met its premise or its text has no sections, the check of the printed text
  -- against the file ends with all done; the names of the machine are words, as those that a configuration gives
  pub checks : (text : List ℕ) → f.told files gcode ≡ Some text → GoesThrough c → HasNames m →
      MeetPremise m s text reported.runs.runs.0 reported.runs.runs.1 reported.runs.runs.2 reported.told.cause
      ⊎ (sections_over m text ≡ []) →
      check_cause m text (report_text m (reported.said ++ report.End c ∷ [])) ≡ cause.Done
