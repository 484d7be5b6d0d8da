-- The lines of a run follow the plans.
use Rattle.std.proofs.Common.{◌≡◌, ℕ, List, [], ◌∷◌, ◌++◌, length, map, take, None, refl, ap, sym, ◌∙◌, arith, inl, inr, rules}
use Rattle.laws_board.proofs.Names.{length-map, Machine, Switch, Came, known_by, Started, MotionTurn, ReactorTurn}
use Rattle.gcode_program.specs.Programs.{program_sections}
use Rattle.session_work.specs.Heads.{IsRow}
use Rattle.session_run.specs.Boards.{AreReactorTurns, came_in}
use Rattle.laws_board.specs.plans.Lines.{AreLinesOf}
use Rattle.laws_board.specs.plans.Planned.{Plans}
use Rattle.laws_board.proofs.sections.Spoiled.{take_all}

-- their lines
pub lines_are : (m : Machine) (switches : List Switch) (before : List Came) (ts : List ReactorTurn) → AreReactorTurns m switches before ts → AreLinesOf m switches before ts
lines_are m switches before [] h = tt
lines_are m switches before (t ∷ ts) h = ((known_by m switches before, refl, h.0.lines_are), lines_are m switches (came_in t ∷ before) ts h.1)

-- the notes that they took
pub row_none : (n : ℕ) (t : ReactorTurn) → IsRow n 0 t.states t.note → t.note ≡ None
row_none n t r = elim r [ inl a ↦ a.2 | inr a ↦ absurd (omega (arith, a.0)) ]

pub of_sections : (m : Machine) (ts : List MotionTurn) (p : Plans m (length m.boards) ts) → map (λ x. x.section) p.seen.begun ≡ take (length p.seen.begun) (program_sections m p.seen.text)
of_sections m ts p = search (rules, length-map, take_all)
