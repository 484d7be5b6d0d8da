-- No section of a text has more moves than its stream takes.
use Rattle.std.proofs.Common.{◌≡◌, ℕ, ◌+◌, ◌≤◌, Bool, true, false, not, List, [], ◌∷◌, ◌++◌, length, append-nil, append_assoc, length-append, refl, ap, sym, subst, ◌∙◌, arith}
use Rattle.std.specs.Prelude.{Some, None}
use Rattle.gcode_program.specs.declared.items.Item.{Item}
use Rattle.gcode_program.specs.declared.items.Item.TheVariants as items
use Rattle.gcode_program.specs.Held.{ArePlannable}
use Rattle.gcode_program.specs.Items.{ending, items_of, moves_in}
use Rattle.gcode_program.specs.Programs.{program_sections}
use Rattle.gcode_program.specs.Readers.{section_with}
use Rattle.gcode_program.proofs.Plannable.{sections_plannable}
use Rattle.gcode_program.proofs.Sorting.{told_front, told_open}
use Rattle.plan_types.specs.declared.machine.Machine.{Machine}
use Rattle.plan_types.specs.declared.plan.Move.{Move}
use Rattle.plan_types.specs.declared.plan.Section.{Section}
use Rattle.plan_types.specs.declared.plan.SectionKind.{SectionKind}
use Rattle.plan_types.specs.Lines.{Clocks}
use Rattle.plan_types.specs.Machines.{IsValidMachine}
use Rattle.section_feed.specs.declared.section.SectionStream.{SectionStream}
use Rattle.section_feed.specs.On.{IsSectionOn}
use Rattle.section_feed.specs.Queues.{count_in, is_taking}
use Rattle.section_feed.specs.Sections.{queue_of}
use Rattle.motion_work.specs.Seen.{Started}
use Rattle.motion_stream.specs.declared.course.Course.{Course}
use Rattle.motion_stream.specs.declared.course.Open.TheVariants as opens
use Rattle.motion_stream.specs.declared.source.Source.{Source}
use Rattle.motion_stream.specs.Courses.{IsCourseBy, IsCourseOf, IsGoing, IsGoingOn}
use Rattle.motion_stream.specs.Gone.{moves_ahead}
use Rattle.motion_stream.specs.Seen.{Going, Seen, items_read, sections_in}
use Rattle.motion_stream.specs.Texts.{IsSourceOf}
use Rattle.motion_stream.proofs.Keeping.{own_text}
use Rattle.motion_stream.proofs.Wholing.{at_place, source_front}
use Rattle.plan_types.proofs.Facts.{some_same, none_is_some}

pub moves_join : (ms ns : List Move) → moves_in (ms ++ ns) ≡ moves_in ms ++ moves_in ns
moves_join [] ns = refl
moves_join (m ∷ ms) ns = ap (λ is. items.Move m ∷ is) (moves_join ms ns)

-- the moves that wait before anything else, and what stands behind them
ahead_split : (its : List Item) → (lead : List Move) × (rest : List Item) × (its ≡ moves_in lead ++ rest) × (length lead ≡ moves_ahead its)
ahead_split [] = ([], [], refl, refl)
ahead_split (items.Move one ∷ its) = let s = ahead_split its in (one ∷ s.0, s.1, ap (λ is. items.Move one ∷ is) s.2, (let l = s.3 in omega (arith, l)))
ahead_split (items.Begin kind dwell ∷ its) = ([], items.Begin kind dwell ∷ its, refl, refl)
ahead_split (items.End ∷ its) = ([], items.End ∷ its, refl, refl)

few_moves : (m : Machine) (text : List ℕ) (begun : List Started) (kind : SectionKind) (dwell : ℕ) (ms : List Move) (its more : List Item) → IsValidMachine m → items_of (program_sections m text) ≡ items_of (sections_in begun) ++ (items.Begin kind dwell ∷ (moves_in ms ++ (its ++ more))) → length ms + moves_ahead its ≤ 2_000_000
few_moves m text begun kind dwell ms its more valid e =
    let s = ahead_split its in
    let all = ms ++ s.0 in
    let joined : moves_in ms ++ (its ++ more) ≡ moves_in all ++ (s.1 ++ more) =
    ap (λ is. moves_in ms ++ (is ++ more)) s.2 ∙ ap (λ is. moves_in ms ++ is) (append_assoc (moves_in s.0) s.1 more) ∙ sym (append_assoc (moves_in ms) (moves_in s.0) (s.1 ++ more)) ∙ ap (λ is. is ++ (s.1 ++ more)) (sym (moves_join ms s.0)) in
    let f = told_front (sections_in begun) (program_sections m text) (items.Begin kind dwell ∷ (moves_in ms ++ (its ++ more))) e in
    let o = told_open f.0 kind dwell all (s.1 ++ more) (f.2 ∙ ap (λ is. items.Begin kind dwell ∷ is) joined) in
    let split : program_sections m text ≡ sections_in begun ++ section_with kind (all ++ o.0) dwell ∷ o.1 = f.1 ∙ ap (λ x. sections_in begun ++ x) o.2 in
    let plan : ArePlannable (sections_in begun ++ section_with kind (all ++ o.0) dwell ∷ o.1) = subst ArePlannable split (sections_plannable m text valid) in
    let few : length (all ++ o.0) ≤ 2_000_000 = at_place (λ (y : Section). length y.moves ≤ 2_000_000) (sections_in begun) (section_with kind (all ++ o.0) dwell) o.1 plan.few in
    let a = length-append all o.0 in
    let b = length-append ms s.0 in
    let c = s.3 in
    omega (arith, few, a, b, c)

-- a section that goes on, and what waits of the text
going_few : (m : Machine) (source : Source) (text : List ℕ) (ended : Bool) (begun : List Started) (g : Going) (goes : Bool) → g.goes ≡ goes → goes ≡ true → IsValidMachine m → IsSourceOf m source text ended (items_read begun (Some g)) → length g.moves + moves_ahead source.items.items ≤ 2_000_000
going_few m source text ended begun g false is goes valid h = absurd (clash goes) where
  clash : false ≡ true → ⊥
  clash e = cc
going_few m source text ended begun g true is goes valid h =
    let f = source_front m source text text ended (items_read begun (Some g)) h (own_text ended text) in
    let its = source.items.items in
    let own : items_read begun (Some g) ≡ items_of (sections_in begun) ++ (items.Begin g.kind g.dwell ∷ moves_in g.moves) = ap (λ b. items_of (sections_in begun) ++ (items.Begin g.kind g.dwell ∷ (moves_in g.moves ++ ending (not b)))) is ∙ ap (λ x. items_of (sections_in begun) ++ (items.Begin g.kind g.dwell ∷ x)) (append-nil (moves_in g.moves)) in
    let e : items_of (program_sections m text) ≡ items_of (sections_in begun) ++ (items.Begin g.kind g.dwell ∷ (moves_in g.moves ++ (its ++ f.0))) = f.1 ∙ ap (λ x. x ++ (its ++ f.0)) own ∙ append_assoc (items_of (sections_in begun)) (items.Begin g.kind g.dwell ∷ moves_in g.moves) (its ++ f.0) in
    few_moves m text begun g.kind g.dwell g.moves its f.0 valid e

pub waiting_few : (m : Machine) (c : Course) (s : SectionStream) (homes : Bool) (seen : Seen) (source : Source) (text : List ℕ) (ended : Bool) → c.current ≡ opens.Goes s homes → IsCourseOf m c seen → IsSourceOf m source text ended (items_read seen.begun seen.going) → is_taking (queue_of s) ≡ true → count_in (queue_of s) + moves_ahead source.items.items ≤ 2_000_000
waiting_few m c s homes seen source text ended open_is h from takes =
    let i : IsGoingOn m s homes c seen.told seen.begun seen.going = subst (λ o. IsGoing m o c seen.told seen.begun seen.going) open_is h.going in
    let few = going_few m source text ended seen.begun i.g i.g.goes refl (sym i.takes ∙ takes) h.machine (subst (λ x. IsSourceOf m source text ended (items_read seen.begun x)) i.is from) in
    let count : count_in (queue_of s) ≡ length i.g.moves = i.on.section.queue.moves_are.pushed_is in
    omega (arith, few, count)

-- the moves of a section that is begun
pub begun_few : (m : Machine) (c : Course) (seen : Seen) (turn free dwell : ℕ) (kind : SectionKind) (rest its : List Item) → IsCourseBy m c seen turn free → c.current ≡ opens.Nothing → c.source.items.items ≡ items.Begin kind dwell ∷ rest → its ≡ rest → moves_ahead its ≤ 2_000_000
begun_few m c seen turn free dwell kind rest its h nothing is same =
    let none : seen.going ≡ None = (subst (λ o. IsGoing m o c seen.told seen.begun seen.going) nothing h.going).none in
    let f = source_front m c.source seen.text seen.text seen.ended (items_read seen.begun seen.going) h.source (own_text seen.ended seen.text) in
    let e : items_of (program_sections m seen.text) ≡ items_of (sections_in seen.begun) ++ (items.Begin kind dwell ∷ (moves_in [] ++ (rest ++ f.0))) = f.1 ∙ ap (λ x. items_read seen.begun x ++ (c.source.items.items ++ f.0)) none ∙ ap (λ (x : List Item). items_of (sections_in seen.begun) ++ (x ++ f.0)) is in
    let few = few_moves m seen.text seen.begun kind dwell [] rest f.0 h.machine e in
    let ahead = ap moves_ahead same in
    omega (arith, few, ahead)

-- of a section of which none was pushed
pub none_pushed : (m : Machine) (clocks : List Clocks) (start : ℕ) (homing : Bool) (s : SectionStream) → IsSectionOn m clocks start homing s [] (λ b. []) → count_in (queue_of s) ≡ 0
none_pushed m clocks start homing s on = on.section.queue.moves_are.pushed_is
