-- Sections whose planned steps are over soon.
use Rattle.std.proofs.Common.{ℕ, ◌+◌, ◌<◌, ◌≤◌, List, [], ◌∷◌, ◌++◌, length, arith}
use Rattle.plan_types.specs.declared.machine.Machine.{Machine}
use Rattle.plan_types.specs.declared.plan.Line.{Line}
use Rattle.plan_types.specs.declared.plan.SectionKind.{SectionKind}
use Rattle.plan_types.specs.declared.plan.SectionKind.TheVariants.{Home, Moves}
use Rattle.plan_types.specs.Lines.{Clocks}
use Rattle.plan_types.specs.Sections.{clocks_at, for_each_stepper, latest, stepper_end}
use Rattle.section_feed.specs.Boards.{IsLasting, MayTake}
use Rattle.section_feed.specs.Lined.{line_at}
use Rattle.section_feed.proofs.Lasts.{kept-lasting}
use Rattle.section_feed.proofs.Staying.{last-stays}
use Rattle.section_feed.proofs.Taken.{steps-before}
use Rattle.motion_work.specs.Seen.{Started}
use Rattle.motion_stream.specs.Courses.{AreLaid, IsLaid}

-- by a later turn
one_later : (kind : SectionKind) (m : Machine) (clocks : List Clocks) (a b : ℕ) (s : Started) → a ≤ b → IsLaid kind m clocks a s → IsLaid kind m clocks b s
one_later Moves m clocks a b s le h = let start = h.0 in let last = h.1 in (omega (arith, le, start), omega (arith, le, last))
one_later (Home axis) m clocks a b s le h = omega (arith, le, h)

pub laid_later : (m : Machine) (clocks : List Clocks) (a b : ℕ) (begun : List Started) → a ≤ b → AreLaid m clocks a begun → AreLaid m clocks b begun
laid_later m clocks a b [] le h = tt
laid_later m clocks a b (s ∷ begun) le h = (one_later s.section.kind m clocks a b s le h.0, laid_later m clocks a b begun le h.1)

-- one more
pub laid_more : (m : Machine) (clocks : List Clocks) (low : ℕ) (begun : List Started) (s : Started) → AreLaid m clocks low begun → IsLaid s.section.kind m clocks low s → AreLaid m clocks low (begun ++ s ∷ [])
laid_more m clocks low [] s h one = (one, tt)
laid_more m clocks low (x ∷ begun) s h one = (h.0, laid_more m clocks low begun s h.1 one)

-- sections of moves that start before a turn, and whose planned steps are before it, and such that homed and ended 276 turns before it
abbrev pub EndsBy : SectionKind → Machine → List Clocks → ℕ → Started → Type 0
EndsBy Moves m clocks turn s = (s.start < turn) × (latest (for_each_stepper m (stepper_end m clocks s.section.moves s.start)) < turn)
EndsBy (Home axis) m clocks turn s = s.end + 276 < turn

abbrev pub EndBy : Machine → List Clocks → ℕ → List Started → Type 0
EndBy m clocks turn [] = Unit {0}
EndBy m clocks turn (s ∷ begun) = EndsBy s.section.kind m clocks turn s × EndBy m clocks turn begun

ends_by : (kind : SectionKind) (m : Machine) (clocks : List Clocks) (low turn : ℕ) (s : Started) → IsLaid kind m clocks low s → low + 8 < turn → EndsBy kind m clocks turn s
ends_by Moves m clocks low turn s laid soon = let start = laid.0 in let last = laid.1 in (omega (arith, start, soon), omega (arith, last, soon))
ends_by (Home axis) m clocks low turn s laid soon = omega (arith, laid, soon)

pub end_by : (m : Machine) (clocks : List Clocks) (low turn : ℕ) (begun : List Started) → AreLaid m clocks low begun → low + 8 < turn → EndBy m clocks turn begun
end_by m clocks low turn [] laid soon = tt
end_by m clocks low turn (s ∷ begun) laid soon = (ends_by s.section.kind m clocks low turn s laid.0 soon, end_by m clocks low turn begun laid.1 soon)

-- where a line holds from such a turn on
one_stays : (kind : SectionKind) (m : Machine) (clocks : List Clocks) (low b turn : ℕ) (line : Line) (s : Started) → b < length clocks → IsLasting (clocks_at clocks b) → MayTake (clocks_at clocks b) turn line → EndsBy kind m clocks turn s → IsLaid kind m clocks low s → IsLaid kind m (line_at clocks b turn line) low s
one_stays Moves m clocks low b turn line s inside lasting may ends laid =
    let last = laid.1 in
    let same = last-stays m clocks s.section.moves s.start b turn line inside ends.0 lasting may (steps-before m clocks s.section.moves s.start b turn (kept-lasting (clocks_at clocks b) lasting) ends.1) in
    (laid.0, omega (arith, same, last))
one_stays (Home axis) m clocks low b turn line s inside lasting may ends laid = laid

pub laid_stay : (m : Machine) (clocks : List Clocks) (low b turn : ℕ) (line : Line) (begun : List Started) → b < length clocks → IsLasting (clocks_at clocks b) → MayTake (clocks_at clocks b) turn line → EndBy m clocks turn begun → AreLaid m clocks low begun → AreLaid m (line_at clocks b turn line) low begun
laid_stay m clocks low b turn line [] inside lasting may ends laid = tt
laid_stay m clocks low b turn line (s ∷ begun) inside lasting may ends laid = (one_stays s.section.kind m clocks low b turn line s inside lasting may ends.0 laid.0, laid_stay m clocks low b turn line begun inside lasting may ends.1 laid.1)
