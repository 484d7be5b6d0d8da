-- Whole sections that the text of a machine may still have.
use Rattle.std.proofs.Common.{◌≡◌, ℕ, ◌+◌, ◌^◌, ◌<◌, ◌≤◌, All, Bool, true, false, not, List, [], ◌∷◌, ◌++◌, get_or, length, map, append-nil, append_assoc, refl, ap, sym, subst, ◌∙◌, arith, inl}
use Rattle.std.proofs.Math.Logic.{∥∥₁_map}
use Rattle.std.proofs.lemmas.Grind.{merely}
use Rattle.std.proofs.lemmas.List.{map-append}
use Rattle.std.proofs.lemmas.List.Elements.{All-head, All-tail}
use Rattle.std.specs.Prelude.{Option, Some, None}
use Rattle.text_core.specs.Lines.{lines_of}
use Rattle.gcode_program.specs.declared.items.Item.{Item}
use Rattle.gcode_program.specs.declared.items.Item.TheVariants as items
use Rattle.gcode_program.specs.Items.{ending, items_in, items_of, moves_in}
use Rattle.gcode_program.specs.Held.{ArePlannable, IsShortOrNear}
use Rattle.gcode_program.specs.Programs.{program_sections}
use Rattle.gcode_program.specs.Readers.{section_with}
use Rattle.gcode_program.proofs.Lining.{told_first}
use Rattle.gcode_program.proofs.Plannable.{sections_plannable}
use Rattle.gcode_program.proofs.Sorting.{told_front, told_open}
use Rattle.plan_types.specs.declared.machine.Machine.{Machine}
use Rattle.plan_types.specs.declared.plan.Move.{Move}
use Rattle.plan_types.specs.declared.plan.ReadEnd.{ReadEnd}
use Rattle.plan_types.specs.declared.plan.Section.{Section}
use Rattle.plan_types.specs.declared.plan.SectionKind.{SectionKind}
use Rattle.plan_types.specs.declared.plan.SectionKind.TheVariants.{Home, Moves}
use Rattle.plan_types.specs.Lines.{Clocks}
use Rattle.plan_types.specs.Machines.{IsValidMachine}
use Rattle.plan_types.specs.Sections.{clocks_at, section_end, is_home}
use Rattle.plan_types.specs.Valid.{IsValidMove}
use Rattle.section_feed.specs.Boards.{MayStart}
use Rattle.section_feed.specs.declared.section.SectionStream.{SectionStream}
use Rattle.section_feed.specs.On.{IsToldBy}
use Rattle.section_feed.proofs.Telling.{told-whole}
use Rattle.section_stream.specs.Looking.{IsFuture}
use Rattle.step_feed.specs.Pacing.{Release}
use Rattle.motion_work.specs.Homes.{last_step, moving_in, no_end}
use Rattle.section_units.specs.Plans.{AreOnBoardsBy, AreSentToOn}
use Rattle.motion_work.specs.Seen.{IsHomed, IsMoved, IsPlanned, Started, planning_lines as kind_lines}
use Rattle.motion_work.specs.Known.{AreHeldBy, lines_by}
use Rattle.motion_work.specs.Told.{Told}
use Rattle.motion_work.proofs.Homing.{near_short}
use Rattle.motion_work.proofs.Staying.{lines_by_all}
use Rattle.motion_stream.proofs.Drawing.{held_later}
use Rattle.motion_stream.specs.declared.course.Course.{Course}
use Rattle.motion_stream.specs.declared.course.Open.{Open}
use Rattle.motion_stream.specs.declared.course.Open.TheVariants as opens
use Rattle.motion_stream.specs.declared.source.Source.{Source}
use Rattle.motion_stream.specs.Courses.{GoesAs, IsCourseOf, IsGoing, IsGoingOn, KnowsConnecting}
use Rattle.motion_stream.specs.Motions.{IsPlannerOf, Planner}
use Rattle.motion_stream.specs.Seen.{AreWhole, EndsBy, Going, Seen, items_read, moves_end, sections_in}
use Rattle.motion_stream.proofs.ByKind.{can}
use Rattle.motion_stream.specs.Texts.{IsSourceOf, MayBecome}
use Rattle.motion_stream.specs.Wholes.{AreOf}
use Rattle.motion_stream.proofs.Bounding.{section_known}
use Rattle.motion_stream.proofs.Streaming.{is_last}

-- what waits stands behind what was told
pub source_front : (m : Machine) (s : Source) (text whole : List ℕ) (ended : Bool) (told : List Item) → IsSourceOf m s text ended told → MayBecome ended text whole
    → (more : List Item) × (items_of (program_sections m whole) ≡ told ++ (s.items.items ++ more)) × ((e : ReadEnd) → s.end ≡ Some e → more ≡ [])
source_front m s text whole ended told h may = by s.end refl where
  on : (e : Bool) → ended ≡ e → e ≡ false → MayBecome e text whole → (more : List ℕ) × (whole ≡ text ++ more)
  on true i e may = absurd (clash e) where
    clash : true ≡ false → ⊥
    clash p = cc
  on false i e may = may

  none_some : {X : Type 0} {x : X} → None ≡ Some x → ⊥
  none_some p = cc

  by : (e : Option ReadEnd) → s.end ≡ e → (more : List Item) × (items_of (program_sections m whole) ≡ told ++ (s.items.items ++ more)) × ((x : ReadEnd) → s.end ≡ Some x → more ≡ [])
  by None e =
      let g = h.goes e in
      let more = on ended refl g.0 may in
      let r = s.reader.reading in
      let t = told_first m (text ++ more.0) r (lines_of (s.reader.carry.items ++ more.0)) (told ++ s.items.items) (g.1.read more.0) in
      (t.0, ap (λ (w : List ℕ). items_of (program_sections m w)) more.1 ∙ t.1 ∙ append_assoc told s.items.items t.0, λ x is. absurd (none_some (sym e ∙ is)))
  by (Some x) e = ([], (h.over x e whole may).items ∙ ap (λ is. told ++ is) (sym (append-nil s.items.items)), λ y is. refl)

-- what was told is the first of what the text tells, whatever follows
source_first : (m : Machine) (s : Source) (text whole : List ℕ) (ended : Bool) (told : List Item) → IsSourceOf m s text ended told → MayBecome ended text whole → (rest : List Item) × (items_of (program_sections m whole) ≡ told ++ rest)
source_first m s text whole ended told h may = let f = source_front m s text whole ended told h may in (s.items.items ++ f.0, f.1)

-- the section that goes on, among those of the text
record IsFound (begun : List Started) (g : Going) (ss : List Section) : Type 0 where
  moves : List Move
  future : IsFuture g.goes g.moves moves
  later : List Section
  are : ss ≡ sections_in begun ++ section_with g.kind moves g.dwell ∷ later

found : (begun : List Started) (g : Going) (goes : Bool) (ss : List Section) (rest : List Item) → g.goes ≡ goes → items_of ss ≡ items_read begun (Some g) ++ rest → IsFound begun g ss
found begun g true ss rest goes e =
    let own = items.Begin g.kind g.dwell ∷ (moves_in g.moves ++ ending (not g.goes)) in
    let f = told_front (sections_in begun) ss (own ++ rest) (e ∙ append_assoc (items_of (sections_in begun)) own rest) in
    let plain : own ++ rest ≡ items.Begin g.kind g.dwell ∷ (moves_in g.moves ++ rest) = ap (λ b. (items.Begin g.kind g.dwell ∷ (moves_in g.moves ++ ending (not b))) ++ rest) goes ∙ ap (λ is. (items.Begin g.kind g.dwell ∷ is) ++ rest) (append-nil (moves_in g.moves)) in
    let o = told_open f.0 g.kind g.dwell g.moves rest (f.2 ∙ plain) in
    record { moves = g.moves ++ o.0; future = subst (λ b. IsFuture b g.moves (g.moves ++ o.0)) (sym goes) (o.0, refl); later = o.1; are = f.1 ∙ ap (λ x. sections_in begun ++ x) o.2 }
found begun g false ss rest goes e =
    let own = items.Begin g.kind g.dwell ∷ (moves_in g.moves ++ ending (not g.goes)) in
    let sec = section_with g.kind g.moves g.dwell in
    let f = told_front (sections_in begun) ss (own ++ rest) (e ∙ append_assoc (items_of (sections_in begun)) own rest) in
    let plain : own ++ rest ≡ items_of (sec ∷ []) ++ rest = ap (λ b. (items.Begin g.kind g.dwell ∷ (moves_in g.moves ++ ending (not b))) ++ rest) goes ∙ ap (λ is. is ++ rest) (sym (append-nil (items_in sec))) in
    let o = told_front (sec ∷ []) f.0 rest (f.2 ∙ plain) in
    record { moves = g.moves; future = subst (λ b. IsFuture b g.moves g.moves) (sym goes) refl; later = o.0; are = f.1 ∙ ap (λ x. sections_in begun ++ x) o.1 }

-- what holds of all things holds of the one behind some
pub at_place : {X : Type 0} (P : X → Type 0) (xs : List X) (y : X) (ys : List X) → All P (xs ++ y ∷ ys) → P y
at_place P [] y ys h = All-head P y ys h
at_place P (x ∷ xs) y ys h = at_place P xs y ys (All-tail P x (xs ++ y ∷ ys) h)

-- a section of moves of a text ends before the turn that stands for none
known_end : (m : Machine) (clocks : List Clocks) (start dwell : ℕ) (moves : List Move) (whole : List ℕ) (past later : List Section) → IsValidMachine m → program_sections m whole ≡ past ++ section_with Moves moves dwell ∷ later → ((b : ℕ) → b < length m.boards → MayStart (clocks_at clocks b) start) → section_end m clocks moves start < no_end
known_end m clocks start dwell moves whole past later valid split may =
    let one = section_with Moves moves dwell in
    let all : ArePlannable (past ++ one ∷ later) = subst ArePlannable split (sections_plannable m whole valid) in
    let few : length moves ≤ 2_000_000 = at_place (λ (y : Section). length y.moves ≤ 2_000_000) past one later all.few in
    let good : All IsValidMove moves = at_place (λ (y : Section). All IsValidMove y.moves) past one later all.valid in
    let near : All IsShortOrNear moves = at_place (λ (y : Section). All IsShortOrNear y.moves) past one later all.near in
    let soon = section_known m clocks moves start valid may (near_short moves good near) few in
    omega (arith, soon)

-- the end of a whole section by its plan; of one that homes it has none
abbrev plan_end : SectionKind → Machine → List Clocks → List Move → ℕ → ℕ
plan_end Moves m clocks moves start = section_end m clocks moves start
plan_end (Home axis) m clocks moves start = no_end

-- it is planned so, and may be so
one_planned : (kind : SectionKind) (m : Machine) (clocks : List Clocks) (next : ℕ) (g : Going) (moves : List Move) (boards : List (List Release)) (x : Started) → x ≡ record { section = section_with g.kind moves g.dwell; start = g.start; end = plan_end kind m clocks moves g.start; last = g.last; moving = g.moving; boards = boards } → IsFuture g.goes g.moves moves
    → GoesAs kind m clocks next g → (kind ≡ Moves → section_end m clocks moves g.start < no_end) → g.start < no_end → map (lines_by (no_end + 276)) clocks ≡ clocks → AreOnBoardsBy (is_home kind) m clocks moves g.start boards → IsPlanned kind m clocks x
one_planned Moves m clocks next g moves boards x e future i known start held are =
    subst (IsMoved m clocks) (sym e) (record { end = refl; known = known refl; last = i.last; moving = i.moving; boards = are })
one_planned (Home axis) m clocks next g moves boards x e future i known start held are =
    let same : moves ≡ g.moves = subst (λ b. IsFuture b g.moves moves) i.whole future in
    subst (IsHomed m clocks) (sym e) (record {
      late = omega (arith, start);
      last = i.last ∙ ap (λ (ms : List Move). last_step m (map (lines_by (g.start + 17)) clocks) ms g.start) (sym same);
      soon = i.soon;
      moving = i.moving ∙ ap (moving_in m) (sym same);
      planned = boards;
      are = subst (λ (cs : List Clocks). AreOnBoardsBy true m cs moves g.start boards) (sym held) are;
      boards = inl (refl, refl);
      near = λ known. absurd (omega (arith, known));
    })

one_ends : (kind : SectionKind) (m : Machine) (clocks : List Clocks) (next : ℕ) (g : Going) (moves : List Move) (x : Started) → x.section.moves ≡ moves → x.start ≡ g.start → x.end ≡ plan_end kind m clocks moves g.start → IsFuture g.goes g.moves moves → GoesAs kind m clocks next g → (kind ≡ Moves → section_end m clocks moves g.start < no_end) → g.start < no_end → next < no_end → EndsBy kind m next x
one_ends Moves m clocks next g moves x ms st e future i known start small =
    let late = i.late moves future in
    let k = known refl in
    let over : moves_end m x.section.moves x.start ≤ x.end = (let a = ap (λ (y : List Move). moves_end m y x.start) ms in let b = ap (moves_end m moves) st in omega (arith, a, b, e)) in
    (over, omega (arith, late, e), omega (arith, k, e))
one_ends (Home axis) m clocks next g moves x ms st e future i known start small = omega (arith, st, e, start, small)

open_lines : (kind : SectionKind) (m : Machine) (clocks : List Clocks) (moves : List Move) (start : ℕ) → map (lines_by (no_end + 276)) clocks ≡ clocks → kind_lines kind (plan_end kind m clocks moves start) clocks ≡ clocks
open_lines Moves m clocks moves start held = refl
open_lines (Home axis) m clocks moves start held = held

unanswered : (kind : SectionKind) (m : Machine) (clocks : List Clocks) (moves : List Move) (start axis : ℕ) → kind ≡ Home axis → plan_end kind m clocks moves start ≡ no_end
unanswered Moves m clocks moves start axis e = absurd cc
unanswered (Home other) m clocks moves start axis e = refl

-- there are such sections
going_whole : (m : Machine) (c : Course) (s : SectionStream) (homes : Bool) (seen : Seen) (whole : List ℕ) (i : IsGoingOn m s homes c seen.told seen.begun seen.going) → c.next ≡ seen.next → c.next ≤ 2 ^ 42 → map (lines_by (no_end + 276)) i.t.clocks ≡ i.t.clocks → MayBecome seen.ended seen.text whole → IsFound seen.begun i.g (program_sections m whole) → ∥ ((all : List Started) × AreOf m seen whole all) ∥₁
going_whole m c s homes seen whole i at small held may f = ∥∥₁_map (told-whole homes m i.t.clocks f.moves i.g.start c.next i.g.released (can m s homes c seen.told seen.begun seen.going i f.moves f.future)) (λ w. made w.0 w.1) where
  made : (boards : List (List Release)) → IsToldBy homes m i.t.clocks f.moves i.g.start c.next i.g.released boards → (all : List Started) × AreOf m seen whole all
  made boards told =
      let g = i.g in
      let t = i.t in
      let soon = i.soon in
      let known : g.kind ≡ Moves → section_end m t.clocks f.moves g.start < no_end = λ kind. known_end m t.clocks g.start g.dwell f.moves whole (sections_in seen.begun) f.later i.on.machine (f.are ∙ ap (λ k. sections_in seen.begun ++ section_with k f.moves g.dwell ∷ f.later) kind) i.on.may_start in
      let x : Started = record { section = section_with g.kind f.moves g.dwell; start = g.start; end = plan_end g.kind m t.clocks f.moves g.start; last = g.last; moving = g.moving; boards = boards } in
      let are : AreOnBoardsBy (is_home g.kind) m t.clocks f.moves g.start boards = subst (λ b. AreOnBoardsBy b m t.clocks f.moves g.start boards) i.homes_is told.are in
      let tiny : g.start < no_end = omega (arith, soon, small) in (
        seen.begun ++ x ∷ [],
        record {
          may = record {
            text = may;
            sections = is_last m seen.told seen.next seen.begun (seen.begun ++ x ∷ []) seen.going t g i.told_is i.is (record {
              s = x;
              are = refl;
              is = record {
                section = refl;
                moves = f.future;
                start = refl;
                ends = subst (λ n. EndsBy g.kind m n x) at (one_ends g.kind m t.clocks c.next g f.moves x refl refl refl f.future i.goes_as known tiny (omega (arith, small)));
                last = refl;
                moving = refl;
                same = λ b k lt below. told.same b k lt (omega (arith, below, at));
              };
            });
          };
          others = f.later;
          sections = f.are ∙ sym (append_assoc (sections_in seen.begun) (section_with g.kind f.moves g.dwell ∷ []) f.later) ∙ ap (λ ss. ss ++ f.later) (sym (map-append (λ (y : Started). y.section) seen.begun (x ∷ [])));
          last = λ h e. record {
            past = seen.begun;
            s = x;
            are = refl;
            t = t;
            told_is = i.told_is;
            planned = one_planned g.kind m t.clocks c.next g f.moves boards x refl f.future i.goes_as known tiny held are;
            unanswered = λ axis kind. unanswered g.kind m t.clocks f.moves g.start axis kind;
            sent = λ b lt. subst (λ (cs : List Clocks). AreSentToOn m cs f.moves g.start b seen.next (get_or boards b [])) (sym (open_lines g.kind m t.clocks f.moves g.start held)) (subst (λ n. AreSentToOn m t.clocks f.moves g.start b n (get_or boards b [])) at (told.sent b lt));
          };
        },
      )

by_going : (m : Machine) (o : Open) (c : Course) (seen : Seen) (going : Option Going) (whole : List ℕ) → seen.going ≡ going → IsGoing m o c seen.told seen.begun seen.going → c.next ≡ seen.next → c.next ≤ 2 ^ 42 → ((t : Told) → seen.told ≡ Some t → map (lines_by (no_end + 276)) t.clocks ≡ t.clocks) → MayBecome seen.ended seen.text whole → (rest : List Item) → items_of (program_sections m whole) ≡ items_read seen.begun seen.going ++ rest → ∥ ((all : List Started) × AreOf m seen whole all) ∥₁
by_going m o c seen None whole e i at small held may rest is =
    let f = told_front (sections_in seen.begun) (program_sections m whole) rest (is ∙ ap (λ g. items_read seen.begun g ++ rest) e) in
    merely (seen.begun, record { may = record { text = may; sections = subst (λ (g : Option Going). AreWhole m seen.told seen.next seen.begun g seen.begun) (sym e) refl }; others = f.0; sections = f.1; last = λ g h. absurd (none_some (sym e ∙ h)) })
  where
    none_some : {X : Type 0} {x : X} → None ≡ Some x → ⊥
    none_some p = cc
by_going m opens.Nothing c seen (Some g) whole e i at small held may rest is = absurd (none_some (sym i.none ∙ e)) where
  none_some : {X : Type 0} {x : X} → None ≡ Some x → ⊥
  none_some p = cc
by_going m (opens.Goes s homes) c seen (Some g) whole e i at small held may rest is =
    going_whole m c s homes seen whole i at small (held i.t i.told_is) may (found seen.begun i.g i.g.goes (program_sections m whole) rest refl (is ∙ ap (λ x. items_read seen.begun x ++ rest) i.is))

-- all lines that were taken up hold by the turn of a section's end that is not known
all_taken : (m : Machine) (c : Course) (seen : Seen) (t : Told) → seen.told ≡ Some t → IsCourseOf m c seen → map (lines_by (no_end + 276)) t.clocks ≡ t.clocks
all_taken m c seen t told h = by seen.told told h.told
  where
    by : (o : Option Told) → o ≡ Some t → KnowsConnecting m c o seen.begun seen.going → map (lines_by (no_end + 276)) t.clocks ≡ t.clocks
    by None e i = absurd cc
    by (Some u) e i =
        let small = h.small in
        let same : u ≡ t = cc in
        let all : (b : ℕ) → b < length u.clocks → AreHeldBy (no_end + 276) (clocks_at u.clocks b).held =
        subst (λ (cs : List Clocks). (b : ℕ) → b < length cs → AreHeldBy (no_end + 276) (clocks_at cs b).held) i.lines
        (λ b lt. held_later (c.next + 260 + 16) (no_end + 276) (clocks_at c.lines.each.items b).held (omega (arith, small)) (h.uptake.held b lt)) in
        subst (λ (z : Told). map (lines_by (no_end + 276)) z.clocks ≡ z.clocks) same (lines_by_all u.clocks (no_end + 276) all)

pub are_there : (p : Planner) (seen : Seen) (whole : List ℕ) → IsPlannerOf p seen → MayBecome seen.ended seen.text whole → ∥ ((all : List Started) × AreOf p.machine seen whole all) ∥₁
are_there p seen whole h may =
    let r = source_first p.machine p.course.source seen.text whole seen.ended (items_read seen.begun seen.going) h.source may in
    by_going p.machine p.course.current p.course seen seen.going whole refl h.going h.next h.small (λ t told. all_taken p.machine p.course seen t told h) may r.0 r.1
