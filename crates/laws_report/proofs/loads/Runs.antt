-- A run of the text of a load counts the steps of its plan, and ends with all done.
use Rattle.std.proofs.Common.{◌≡◌, ◌≢◌, ◌∙◌, inl, inr, ℕ, ◌≤◌, List, [], ◌∷◌, ◌++◌, ap, sym, refl, subst, arith, Some}
use Rattle.std.proofs.Math.Logic.{∥∥₁_elim}
use Rattle.std.proofs.Props.{props}
use Rattle.laws_board.proofs.Names.{All-cons, All-nil, Cause, Machine, Move, ReadStop, Section, Moves, ReportLine, MotionTurn, ReactorTurn, Scene}
use Rattle.gcode_program.specs.Cuts.{closed}
use Rattle.gcode_program.specs.Programs.{program_end}
use Rattle.generated_load.specs.Printer.{load_machine}
use Rattle.generated_load.specs.Text.{load_text}
use Rattle.io_core.specs.declared.traits.Files.{Ghosts as Files}
use Rattle.io_core.specs.declared.traits.Sink.{Ghosts as Sink}
use Rattle.plan_types.specs.declared.cause.Cause.TheVariants as cause
use Rattle.plan_types.specs.declared.plan.ReadEnd.{ReadEnd}
use Rattle.plan_types.specs.declared.plan.ReadStop.TheVariants as read
use Rattle.session_lanes.specs.declared.near.LinkLog.{LinkLog}
use Rattle.laws_run.specs.run_ends.Ends.{GoesThrough}
use Rattle.laws_run.specs.run_headline.Timely.{AreOfMoves, HoldsNothingLong}
use Rattle.laws_run.proofs.clear_homes.Clear.{moves_close}
use Rattle.laws_report.specs.loads.Path.{load_path}
use Rattle.laws_report.specs.loads.Run.{IsLoadRun}
use Rattle.laws_report.specs.meshes.Bent.{origin}
use Rattle.laws_report.specs.reports.Body.{cause_of}
use Rattle.laws_report.specs.reports.Linked.{EndsUnswitched, IsLinkReport, MeetPremise}
use Rattle.laws_report.specs.reports.Promises.{IsCauseOf, sections_over}
use Rattle.laws_report.specs.reports.Read.{no_scene}
use Rattle.laws_report.proofs.loads.Short.{load_dictionaries}
use Rattle.laws_report.proofs.loads.Texts.{load_end, load_sections}
use Rattle.laws_report.proofs.reports.Any.{moves-near}

closed-moves : (moves : List Move) → AreOfMoves (closed 0 moves)
closed-moves [] = All-nil (λ (s : Section). s.kind ≡ Moves)
closed-moves (x ∷ moves) = let one : Section = record { kind = Moves; moves = x ∷ moves; dwell = 0 } in All-cons (λ (s : Section). s.kind ≡ Moves) one [] refl (All-nil (λ (s : Section). s.kind ≡ Moves))

-- in a scene without entries nothing is held long
clear-holds : (m : Machine) (s : Scene) (text : List ℕ) (planned : List MotionTurn) (turns : List ReactorTurn) → s.entries ≡ [] → HoldsNothingLong m s text planned turns
clear-holds m s text planned [] none = tt
clear-holds m s text planned (first ∷ rest) none = λ p t b same told inside low w. record { few = inl none }

-- a run of moves doesn't end as a switch closes too late
never-unswitched : (m : Machine) (s : Scene) (text : List ℕ) (planned : List MotionTurn) (turns : List ReactorTurn) (c : Cause) → AreOfMoves (sections_over m text) → EndsUnswitched m s text planned turns c → ⊥
never-unswitched m s text planned turns c moves ends =
    let x = ends.misses in
    let closes = moves_close m s text planned moves ends.made.plans x.told ends.of_text x.told_is x.past x.x x.later x.axis x.cut x.home in
    let soon = closes.2 in
    let late = x.late closes.0 closes.1 in
    omega (arith, soon, late)

done-or : (c : Cause) → IsCauseOf cause.Done c → c ≢ cause.Memory → c ≢ cause.ReadFault → c ≢ cause.WriteFault → c ≡ cause.Done
done-or c (inl is) memory reads writes = is
done-or c (inr (inl is)) memory reads writes = absurd (memory is)
done-or c (inr (inr (inl is))) memory reads writes = absurd (reads is)
done-or c (inr (inr (inr is))) memory reads writes = absurd (writes is)

pub load-run : {F S : Type 0} (f : Files F) (o : Sink S) (seed moves : ℕ) (name : List ℕ) (files files' : F) (out out' : S) (c : Cause) (lines : List ReportLine) (counts : List ℕ) (links : List LinkLog) → moves ≤ 2_000_000 → f.told files name ≡ Some (load_text seed moves)
    → c ≢ cause.Memory → c ≢ cause.ReadFault → c ≢ cause.WriteFault → IsLinkReport f o load_machine no_scene name files files' out out' c lines counts links → IsLoadRun f o seed moves c counts links
load-run f o seed moves name files files' out out' c lines counts links few told memory reads writes r =
    let text = load_text seed moves in
    let own = r.reported in
    let end = load_end seed moves few in
    let path = load_sections seed moves few in
    let of_moves : AreOfMoves (sections_over load_machine text) = subst AreOfMoves (sym path) (closed-moves (load_path moves seed origin)) in
    let other : own.told.cause ≢ cause.Memory = λ is. memory ((own.cause_is memory writes).2 ∙ is) in
    let near : MeetPremise load_machine no_scene text own.runs.runs.0 own.runs.runs.1 own.runs.runs.2 own.told.cause =
    (λ _. moves-near f o load_machine no_scene name files files' out out' c lines counts links r text load_dictionaries of_moves other (clear-holds load_machine no_scene text own.runs.runs.0 (own.runs.runs.1 ++ own.runs.runs.2 ∷ []) refl), λ is. absurd (other is)) in
    let stops : (program_end load_machine text).stop ≡ read.End = ap (λ (e : ReadEnd). e.stop) end in
    record {
      files = files;
      files' = files';
      out = out;
      out' = out';
      name = name;
      told = told;
      lines = lines;
      run = r;
      accepted = end;
      sections = path;
      near = near;
      planned = λ is. r.counted text told (subst GoesThrough (sym is) tt) of_moves near;
      done = λ soon. ∥∥₁_elim (r.complete text told (λ line is. (let e : read.Stop line ≡ read.End = sym is ∙ stops in cc)) refl soon) (hlevel props) (λ either. elim either [
        | inl is ↦ done-or c (subst (λ (x : ReadStop). IsCauseOf (cause_of x) c) stops is) memory reads writes
        | inr ends ↦ absurd (never-unswitched load_machine no_scene text own.runs.runs.0 own.runs.runs.1 c of_moves ends)
      ]);
    }
