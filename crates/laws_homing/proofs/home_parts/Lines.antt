-- The pulses that a report tells of a section fit the stepper's plan of it, in a run in which axes home.
use Rattle.std.proofs.Common.{◌≡◌, ℕ, ◌≤◌, false, List, [], ◌∷◌, ◌++◌, length, map, ap, sym, ◌∙◌, subst}
use Rattle.laws_board.proofs.Names.{map-append, Machine, Planned, Pulse, Clocks, IsValidMachine, board_at, stepper_at, Fits, stepper_plan, base_of, of_stepper, units_of, Entry, only, Started, ReactorTurn}
use Rattle.plan_types.specs.Sections.{base_tick}
use Rattle.section_units.specs.Sections.{steps_said}
use Rattle.laws_board.specs.sections.Boards.{AreEnded, IsWindow, NextStart, OnBoard, told_in}
use Rattle.laws_board.specs.sections.Homes.{AreOverBy, IsHomeBoard, NextBehind, RunSection}
use Rattle.laws_board.proofs.sections.HomeBoards.{told_between, told_section}
use Rattle.motion_work.specs.Homes.{before_turn}
use Rattle.motion_work.specs.Seen.{part_on}
use Rattle.laws_board.specs.plans.Boards.{as_told, lines_between, times_of}
use Rattle.laws_board.specs.plans.Lines.{TellTurns, pulses_of}
use Rattle.laws_board.proofs.plans.Fitting.{between, fits_told, plan_is}
use Rattle.laws_homing.specs.home_parts.Cuts.{cut_on, cuts_on}
use Rattle.laws_homing.specs.home_parts.Reports.{IsHomeStepper}
use Rattle.laws_homing.proofs.home_parts.Cut.{fits_whole}

pub next_behind : (m : Machine) (clocks : List Clocks) (until b to : ℕ) (later : List Started) → NextStart to (times_of later) → NextBehind to (cuts_on m clocks until later b)
next_behind m clocks until b to [] n = tt
next_behind m clocks until b to (s ∷ later) n = n

over_by : (m : Machine) (clocks : List Clocks) (until b from : ℕ) (past : List Started) → AreEnded from (times_of past) → AreOverBy from (cuts_on m clocks until past b)
over_by m clocks until b from [] a = tt
over_by m clocks until b from (s ∷ past) a = (a.0, over_by m clocks until b from past a.1)

pub home_fits : (m : Machine) (v : IsValidMachine m) (clocks : List Clocks) (begun : List Started) (rs : List ReactorTurn) (entries : List Entry) (ready until turns from to place : ℕ) (x : OnBoard) (past : List Started) (s : Started) (later : List Started)
    → TellTurns m begun 1 rs → begun ≡ past ++ s ∷ later → IsHomeStepper m clocks begun rs entries ready until turns place x → IsWindow turns from to (record { start = s.start; end = s.end }) (times_of later)
    → Fits (board_at m (stepper_at m place).board).freq (base_tick m clocks s.start place) (pulses_of place (lines_between from to rs)) (stepper_plan m clocks s.section.moves s.start place)
home_fits m v clocks begun rs entries ready until turns from to place x past s later tells cut on w =
    let b = (stepper_at m place).board in
    let o = (stepper_at m place).oid in
    let c = cut_on m clocks until b s in
    let part = part_on m clocks s b in
    let sections : cuts_on m clocks until begun b ≡ cuts_on m clocks until past b ++ c ∷ cuts_on m clocks until later b = ap (map (cut_on m clocks until b)) cut ∙ map-append (cut_on m clocks until b) past (s ∷ later) in
    let Home : List RunSection → Type 0 = λ ss. IsHomeBoard b entries ready turns ss x in
    let fits = told_section b entries ready turns from to x (cuts_on m clocks until past b) c (cuts_on m clocks until later b) (subst Home sections on.is) w.begins w.order w.within (next_behind m clocks until b to later w.next) o in
    let base = base_of x.clocks part in
    let whole = fits_whole x.board.freq base (length (steps_said o false (of_stepper o (units_of (before_turn until part.releases))))) (only o (told_in from to x)) (part.plan o) fits in
    let Plan : List Planned → Type 0 = λ y. Fits x.board.freq base (only o (told_in from to x)) y in
    let planned = subst Plan (plan_is m v clocks s.section.moves s.start place on.there) whole in
    let told = fits_told m place x.board.freq base (only o (told_in from to x)) (stepper_plan m clocks s.section.moves s.start place) planned in
    let At : List Pulse → Type 0 = λ y. Fits x.board.freq base y (stepper_plan m clocks s.section.moves s.start place) in
    let pulses = subst At (sym (between m v place from to begun rs x on.there tells on.states)) told in
    let Freq : ℕ → Type 0 = λ y. Fits y base (pulses_of place (lines_between from to rs)) (stepper_plan m clocks s.section.moves s.start place) in
    let Base : Clocks → Type 0 = λ y. Fits (board_at m b).freq (base_of y part) (pulses_of place (lines_between from to rs)) (stepper_plan m clocks s.section.moves s.start place) in
    subst Base on.clocks_are (subst Freq (ap (λ y. y.freq) on.board) pulses)

pub home_none : (m : Machine) (v : IsValidMachine m) (clocks : List Clocks) (begun : List Started) (rs : List ReactorTurn) (entries : List Entry) (ready until turns from to place : ℕ) (x : OnBoard) (past later : List Started)
    → TellTurns m begun 1 rs → begun ≡ past ++ later → IsHomeStepper m clocks begun rs entries ready until turns place x → from ≤ to → to ≤ turns → AreEnded from (times_of past) → NextStart to (times_of later) → pulses_of place (lines_between from to rs) ≡ []
home_none m v clocks begun rs entries ready until turns from to place x past later tells cut on order within ended next =
    let b = (stepper_at m place).board in
    let sections : cuts_on m clocks until begun b ≡ cuts_on m clocks until past b ++ cuts_on m clocks until later b = ap (map (cut_on m clocks until b)) cut ∙ map-append (cut_on m clocks until b) past later in
    let Home : List RunSection → Type 0 = λ ss. IsHomeBoard b entries ready turns ss x in
    let none = told_between b entries ready turns from to x (cuts_on m clocks until past b) (cuts_on m clocks until later b) (subst Home sections on.is) (over_by m clocks until b from past ended) order within (next_behind m clocks until b to later next) in
    between m v place from to begun rs x on.there tells on.states ∙ ap (λ y. as_told m place (only (stepper_at m place).oid y)) none
