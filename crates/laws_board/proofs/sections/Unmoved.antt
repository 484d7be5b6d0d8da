-- A board to which no units come makes no pulses.
use Rattle.std.proofs.Common.{◌≡◌, ℕ, ◌+◌, List, [], ◌∷◌, ◌++◌, length, refl, sym, ◌∙◌, append-nil}
use Rattle.laws_board.proofs.Names.{Level, BoardDef, Pulse, Clocks, only, Step, run_world, new_world, Orders}
use Rattle.board_sim.proofs.HaltedTime.{part_cut}
use Rattle.laws_board.specs.sections.Events.{AreTicks, AreTurnsOf}
use Rattle.laws_board.specs.sections.Known.{sent_in, known_steppers}
use Rattle.laws_board.specs.sections.Runs.{Begins}
use Rattle.laws_board.specs.sections.Parts.{IsBoardRun}
use Rattle.laws_board.specs.sections.Timely.{AllTimely}
use Rattle.laws_board.proofs.sections.Turning.{starts, turns_hold}
use Rattle.laws_board.proofs.sections.Taking.{front_front}
use Rattle.laws_board.proofs.sections.Lists.{nil_cons}
use Rattle.laws_board.proofs.sections.Beginning.{run_splits}
use Rattle.laws_board.proofs.sections.Spans.{meant_front, plan_of}
use Rattle.laws_board.proofs.sections.Wholes.{first_of_own}

pub none_own : (ps : List Pulse) → ((oid : ℕ) → only oid ps ≡ []) → ps ≡ []
none_own [] h = refl
none_own (p ∷ ps) h = absurd (nil_cons p (only p.stepper ps) (sym (sym (first_of_own p ps) ∙ h p.stepper)))

begins_none : (ps : List Pulse) → Begins ps [] → ps ≡ []
begins_none [] b = refl
begins_none (p ∷ ps) b = absurd (nil_cons p (ps ++ b.0) (sym b.1))

pub none_made : (b : BoardDef) (pins : List (List Level)) (own : ℕ → ℕ) (clocks : Clocks) (ready : ℕ) (os : List Orders) (steps : List Step) → AreTicks own → own 0 ≡ b.start → IsBoardRun own clocks b.freq b.slots ready [] os
    → AreTurnsOf own 0 os steps → AllTimely (new_world b pins) steps → (run_world steps (new_world b pins)).made ≡ []
none_made b pins own clocks ready os steps ticks first r turns timely =
    let h = run_world steps (new_world b pins) in
    let x = run_splits own clocks b.freq b.slots ready [] os ticks r in
    let p = plan_of b own (sent_in 0 os) [] (0 + length os) ticks x in
    let k = (turns_hold p 0 [] [] os steps (new_world b pins) turns (starts p b pins first refl) (append-nil (sent_in 0 os) ∙ x.is) timely).2 in
    none_own h.made (λ oid.
    let cut = part_cut h.board.controller h.made h.meant k.kept oid in
    let front = front_front (only oid h.meant) (known_steppers p.front oid).steps [] (meant_front p (0 + length os) (sent_in 0 os) h k oid) (x.steps oid) in
    begins_none (only oid h.made) (front_front (only oid h.made) (only oid h.meant) [] cut front))
