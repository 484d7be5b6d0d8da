-- What is put in a turn, by the sections that were begun.
use Rattle.std.proofs.Common.{◌≡◌, ◌↔◌, ℕ, ◌+◌, ◌<◌, true, false, List, [], ◌∷◌, ◌++◌, get_or, length, refl, ap, sym, subst, ◌∙◌, arith, inl, inr}
use Rattle.std.proofs.Math.Logic.{∥∥₁_map}
use Rattle.std.specs.Prelude.{◌||◌, Option, Some, None}
use Rattle.gcode_program.specs.Programs.{program_sections}
use Rattle.msg_code.specs.declared.talk.Note.{Note}
use Rattle.msg_code.specs.declared.unit.Batch.{Batch}
use Rattle.plan_types.specs.declared.machine.Machine.{Machine}
use Rattle.plan_types.specs.declared.plan.SectionKind.{SectionKind}
use Rattle.plan_types.specs.declared.plan.SectionKind.TheVariants.{Home, Moves}
use Rattle.plan_types.specs.Lines.{Clocks}
use Rattle.plan_types.specs.Machines.{board_at}
use Rattle.plan_types.specs.Sections.{clocks_at, is_home}
use Rattle.section_units.specs.Plans.{IsFrontOnBy, section_on}
use Rattle.section_units.proofs.Fronting.{section_front, section_whole}
use Rattle.motion_work.specs.Homes.{before_turn}
use Rattle.motion_work.specs.Puts.{ArePut, IsPut, Put}
use Rattle.motion_work.specs.Seen.{AreOut, AreSentBy, AreStarted, IsPlanned, Started, planning_lines}
use Rattle.motion_work.specs.Told.{Told}
use Rattle.motion_work.specs.Further.{told_on}
use Rattle.motion_work.proofs.Feeding.{at_before}
use Rattle.motion_work.proofs.Sending.{cut_front}
use Rattle.motion_stream.specs.Courses.{IsCourseOf}
use Rattle.motion_stream.specs.Motions.{CanTurnPlanner, IsPlannerOf, Makes, Planner}
use Rattle.motion_stream.specs.Puts.{ArePutBy}
use Rattle.motion_stream.specs.News.{tells_read}
use Rattle.motion_stream.specs.Seen.{Seen}
use Rattle.motion_stream.specs.Texts.{MayBecome}
use Rattle.motion_stream.specs.Turns.{HaveUnits, HaveUnitsBy, IsTurnOf}
use Rattle.motion_stream.specs.Wholes.{ArePlanned, AreSentIn, IsToldOf}
use Rattle.motion_stream.proofs.Laying.{turn_kept}
use Rattle.motion_stream.proofs.Planning.{are_planned}

-- what a planned section releases on a board are the first units of its plan
planned_front : (kind : SectionKind) (m : Machine) (clocks : List Clocks) (s : Started) (b : ℕ) → b < length m.boards → IsPlanned kind m clocks s → IsFrontOnBy (is_home kind) m (planning_lines kind s.end clocks) s.section.moves s.start b (get_or s.boards b [])
planned_front Moves m clocks s b there h = section_whole false (clocks_at clocks b) (board_at m b).freq (board_at m b).slots (section_on m clocks s.section.moves s.start b (get_or s.boards b [])) (h.boards.each b there)
planned_front (Home axis) m clocks s b there h =
    let known = planning_lines (Home axis) s.end clocks in
    let moves = s.section.moves in
    let rs = get_or h.planned b [] in
    let whole = section_whole true (clocks_at known b) (board_at m b).freq (board_at m b).slots (section_on m known moves s.start b rs) (h.are.each b there) in
    elim h.boards as (λ _. IsFrontOnBy true m known moves s.start b (get_or s.boards b [])) [
      | inl w ↦ subst (λ x. IsFrontOnBy true m known moves s.start b (get_or x b [])) (sym w.1) whole
      | inr w ↦
          let cut = before_turn s.end rs in
          let is : get_or s.boards b [] ≡ cut = ap (λ x. get_or x b []) w.1 ∙ at_before s.end h.planned b in
          let split = cut_front (clocks_at known b) (board_at m b).slots s.end whole.from [] rs whole.paced in
          let front : IsFrontOnBy true m known moves s.start b cut = section_front true (clocks_at known b) (board_at m b).freq (board_at m b).slots s.start _ _ cut split.0 (subst (λ x. IsFrontOnBy true m known moves s.start b x) split.1 whole) in
          subst (IsFrontOnBy true m known moves s.start b) (sym is) front
    ]

-- so of sections one behind the other
units_by : (m : Machine) (clocks : List Clocks) (turn ready : ℕ) (begun : List Started) → AreStarted m clocks ready begun → AreSentBy m clocks turn begun → HaveUnits m clocks turn begun
units_by m clocks turn ready [] started sent = tt
units_by m clocks turn ready (s ∷ begun) started sent =
    let lines = planning_lines s.section.kind s.end clocks in (
      λ b there.
          let x = sent.0 b there in
          let all = planned_front s.section.kind m clocks s b there started.0.planned in
          record {
            sent = x.sent;
            later = x.later;
            are = x.are;
            behind = x.behind;
            planned = section_front (is_home s.section.kind) (clocks_at lines b) (board_at m b).freq (board_at m b).slots s.start _ _ x.sent x.later (subst (IsFrontOnBy (is_home s.section.kind) m lines s.section.moves s.start b) x.are all);
            longest = x.is;
          },
      units_by m clocks turn (s.end + 260) begun started.1 sent.1,
    )

units_told : (m : Machine) (told : Option Told) (turn : ℕ) (begun : List Started) → IsToldOf m told begun → AreSentIn m told turn begun → HaveUnitsBy m told turn begun
units_told m None turn begun planned sent = planned
units_told m (Some t) turn begun planned sent = units_by m t.clocks turn t.first begun planned.0 sent

-- the last of what was put
put_last : (m : Machine) (text : List ℕ) (begun : List Started) (k : ℕ) (ps : List Put) (p : Put) → ArePut m text begun k (ps ++ p ∷ []) → IsPut m text begun (k + length ps) p
put_last m text begun k [] p are = subst (λ n. IsPut m text begun n p) (let e : k ≡ k + 0 = omega arith in e) are.0
put_last m text begun k (x ∷ ps) p are = subst (λ n. IsPut m text begun n p) (let e : k + 1 + length ps ≡ k + length (x ∷ ps) = omega arith in e) (put_last m text begun (k + 1) ps p are.1)

turn_of : (m : Machine) (next : Seen) (whole : List ℕ) (told : Option Told) (k : ℕ) (ps : List Put) (p : Put) (all : List Started) → next.told ≡ told → next.next ≡ k + 1 → length ps ≡ k → ArePlanned m next whole (ps ++ p ∷ []) all → IsTurnOf m whole told k all p
turn_of m next whole told k ps p all is at count h = record {
  others = h.others;
  sections = h.sections;
  planned = subst (λ t. IsToldOf m t all) is h.told;
  started = λ i d lt. let start = h.started i d lt in omega (arith, start, at);
  due = λ t s rest known are. let due = h.due t s rest (is ∙ known) are in omega (arith, due, at);
  units = subst (λ n. HaveUnitsBy m told n all) at (subst (λ t. HaveUnitsBy m t next.next all) is (units_told m next.told next.next all h.told h.sent));
  put = subst (λ n. IsPut m whole all n p) (let e : 0 + length ps ≡ k = omega (arith, count) in e) (put_last m whole all 0 ps p h.put);
}

-- a turn
pub turn_told : (p q : Planner) (seen : Seen) (ps : List Put) (k : ℕ) (batches : List Batch) (note : Note) (whole : List ℕ) → IsPlannerOf p seen → ArePutBy p.machine seen ps → CanTurnPlanner p k → Makes p k batches note q → MayBecome seen.ended seen.text whole
    → ∥ ((begun : List Started) × IsTurnOf q.machine whole (told_on note.news seen.told) k begun (record { batches = batches; note = note })) ∥₁
turn_told p q seen ps k batches note whole of put can makes may =
    let one : Put = record { batches = batches; note = note } in
    let t = makes.1 seen of in
    let next = t.0 in
    let at : k ≡ seen.next = sym can.next ∙ of.next in
    let by : IsPlannerOf q next = subst (λ m. IsCourseOf m q.course next) (sym makes.0) t.3 in
    let puts : ArePutBy q.machine next (ps ++ one ∷ []) = subst (λ m. ArePutBy m next (ps ++ one ∷ [])) (sym makes.0) (turn_kept p.machine seen next ps k batches note at t.1 t.2 put) in
    let text : MayBecome next.ended next.text whole = subst (λ b. MayBecome b next.text whole) (sym t.1.ended) (subst (λ (x : List ℕ). MayBecome seen.ended x whole) (sym t.1.text) may) in
    ∥∥₁_map (are_planned q next (ps ++ one ∷ []) whole by puts text) (λ w. (w.0, turn_of q.machine next whole (told_on note.news seen.told) k ps one w.0 t.1.told (t.1.next ∙ ap (λ n. n + 1) (sym at)) (put.count ∙ sym at) w.1))

-- the end of a text
pub end_told : (p q : Planner) (seen : Seen) (k : ℕ) (batches : List Batch) (note : Note) → IsPlannerOf p seen → Makes p k batches note q → seen.ended ≡ true
    → (next : Seen) × IsPlannerOf q next × (next.read ≡ (seen.read || tells_read note.news)) × (tells_read note.news ≡ true ↔ ((seen.read ≡ false) × AreOut (length p.machine.boards) k (length (program_sections p.machine seen.text)) next.begun))
end_told p q seen k batches note of makes over =
    let t = makes.1 seen of in
    let r = t.1.reading in
    let may : MayBecome seen.ended seen.text seen.text = subst (λ b. MayBecome b seen.text seen.text) (sym over) refl in
    (t.0, subst (λ m. IsCourseOf m q.course t.0) (sym makes.0) t.3, r.read, (λ told. (r.once told, r.out told seen.text may), λ out. r.told out.0 (λ s told is none. clash (sym over ∙ (is.goes none).0)) seen.text may out.1))
  where
    clash : true ≡ false → ⊥
    clash e = cc
