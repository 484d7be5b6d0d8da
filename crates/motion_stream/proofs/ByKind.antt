-- Sections that go on, by their kind.
use Rattle.std.proofs.Common.{◌≡◌, ℕ, zero, suc, ◌+◌, ◌*◌, ◌<◌, ◌≤◌, Bool, true, false, not, List, [], ◌∷◌, ◌++◌, length, map, append-nil, refl, ap, sym, subst, ◌∙◌, arith, inl, inr}
use Rattle.std.proofs.Math.Logic.{∥∥₁_elim, ∥∥₁_map, ∥∥₁_prop}
use Rattle.std.proofs.lemmas.Grind.{merely}
use Rattle.std.proofs.lemmas.Bool.{cases_lt}
use Rattle.std.proofs.lemmas.List.{map-append}
use Rattle.std.proofs.lemmas.List.FromFn.{get_or-map-range_with_len}
use Rattle.std.specs.Prelude.{Option, None, Some, slice_index_or}
use Rattle.gcode_program.specs.declared.items.Item.TheVariants as items
use Rattle.gcode_program.specs.Items.{ending, items_of, moves_in}
use Rattle.gcode_program.specs.Readers.{section_with}
use Rattle.gcode_program.proofs.Telling.{items_append}
use Rattle.plan_types.specs.declared.machine.Machine.{Machine}
use Rattle.plan_types.specs.declared.plan.Move.{Move}
use Rattle.plan_types.specs.declared.plan.SectionKind.{SectionKind}
use Rattle.plan_types.specs.declared.plan.SectionKind.TheVariants.{Home, Moves}
use Rattle.plan_types.specs.Lines.{Clocks}
use Rattle.plan_types.specs.Clock.{turn_ns}
use Rattle.plan_types.specs.declared.plan.Line.{Line}
use Rattle.plan_types.specs.Sections.{clocks_at, section_end, is_home}
use Rattle.plan_types.specs.Speeds.{greatest_speeds}
use Rattle.section_feed.proofs.Ends.{end-after}
use Rattle.section_feed.specs.declared.section.SectionStream.{SectionStream}
use Rattle.section_feed.specs.On.{CanComplete}
use Rattle.section_feed.specs.Sections.{next_of}
use Rattle.section_feed.proofs.Opening.{section-begun, section-open}
use Rattle.section_stream.specs.Looking.{IsFuture}
use Rattle.step_feed.specs.Pacing.{Release}
use Rattle.motion_work.specs.Homes.{last_step, moving_in}
use Rattle.motion_work.specs.Known.{lines_by}
use Rattle.motion_work.specs.Seen.{IsHomed, IsPlanned, Started, planning_lines}
use Rattle.motion_work.proofs.Staying.{lines_by_added}
use Rattle.section_feed.specs.Boards.{IsLasting, MayTake}
use Rattle.section_feed.specs.Lined.{line_at}
use Rattle.section_feed.proofs.Taken.{end-late}
use Rattle.motion_work.specs.Told.{Told}
use Rattle.motion_stream.specs.declared.course.Course.{Course}
use Rattle.motion_stream.specs.Courses.{GoesAs, HomesOn, IsGoingOn, IsLaid}
use Rattle.motion_stream.specs.Motions.{started_until}
use Rattle.motion_stream.specs.Seen.{EndsBy, Going, IsContinued, items_read, moves_end, sections_in}
use Rattle.plan_types.proofs.Facts.{true_false}

-- one that does not home is of moves, and one that does is not
pub moves_kind : (kind : SectionKind) → is_home kind ≡ false → kind ≡ Moves
moves_kind Moves e = refl
moves_kind (Home axis) e = absurd (true_false e)

-- when it may end
pub ends_sooner : (kind : SectionKind) (m : Machine) (next later : ℕ) (x : Started) → next ≤ later → EndsBy kind m later x → EndsBy kind m next x
ends_sooner Moves m next later x le e = (e.0, (let l = e.1 in omega (arith, le, l)), e.2)
ends_sooner (Home axis) m next later x le e = omega (arith, le, e)

pub ends_late : (kind : SectionKind) (m : Machine) (next : ℕ) (x : Started) → EndsBy kind m next x → next ≤ x.end
ends_late Moves m next x e = (let l = e.1 in omega (arith, l))
ends_late (Home axis) m next x e = omega (arith, e)

pub starts_late : (kind : SectionKind) (m : Machine) (next : ℕ) (x : Started) → EndsBy kind m next x → x.start ≤ x.end
starts_late Moves m next x e =
    let after = end-after m.cruise x.section.moves (greatest_speeds x.section.moves m.scv) (x.start * turn_ns) in
    let over : x.start ≤ moves_end m x.section.moves x.start = omega (arith, after) in
    let end = e.0 in
    omega (arith, over, end)
starts_late (Home axis) m next x e = omega (arith, e)

-- a whole section of it is one by an earlier turn
pub continued_sooner : (m : Machine) (next later : ℕ) (g : Going) (x : Started) → next ≤ later → IsContinued m later g x → IsContinued m next g x
continued_sooner m next later g x le c = record { section = c.section; moves = c.moves; start = c.start; ends = ends_sooner g.kind m next later x le c.ends; last = c.last; moving = c.moving; same = λ b j lt below. c.same b j lt (omega (arith, below, le)) }

-- it goes on where a turn goes by
pub goes_by : (kind : SectionKind) (m : Machine) (clocks : List Clocks) (next later : ℕ) (g h : Going) → (is_home kind ≡ false → (all : List Move) → IsFuture g.goes g.moves all → later + 1 ≤ section_end m clocks all g.start) → h.goes ≡ g.goes → h.moves ≡ g.moves
    → h.start ≡ g.start → h.last ≡ g.last → h.moving ≡ g.moving → GoesAs kind m clocks next g → GoesAs kind m clocks later h
goes_by Moves m clocks next later g h late goes moves start last moving i = record {
  late = λ all f. subst (λ n. later + 1 ≤ section_end m clocks all n) (sym start) (late refl all (subst (λ (ms : List Move). IsFuture g.goes ms all) moves (subst (λ b. IsFuture b h.moves all) goes f)));
  last = last ∙ i.last;
  moving = moving ∙ i.moving;
}
goes_by (Home axis) m clocks next later g h late goes moves start last moving i = record {
  whole = goes ∙ i.whole;
  last = last ∙ i.last ∙ ap (λ (ms : List Move). last_step m (map (lines_by (g.start + 17)) clocks) ms g.start) (sym moves) ∙ ap (λ n. last_step m (map (lines_by (n + 17)) clocks) h.moves n) (sym start);
  soon = let l = i.soon in omega (arith, l, last);
  moving = moving ∙ i.moving ∙ ap (λ (ms : List Move). moving_in m ms) (sym moves);
}

-- where nothing of it changes
pub goes_beside : (kind : SectionKind) (m : Machine) (clocks : List Clocks) (next later : ℕ) (g : Going) → later ≡ next → GoesAs kind m clocks next g → GoesAs kind m clocks later g
goes_beside kind m clocks next later g at i = subst (λ n. GoesAs kind m clocks n g) (sym at) i

-- where a board takes up a line that holds from a turn on, by which it has started long ago or may not end
pub goes_lined : (kind : SectionKind) (m : Machine) (clocks : List Clocks) (next b turn : ℕ) (line : Line) (g : Going) → b < length clocks → IsLasting (clocks_at clocks b) → MayTake (clocks_at clocks b) turn line → g.start + 17 < turn → next + 1 < turn → GoesAs kind m clocks next g
    → GoesAs kind m (line_at clocks b turn line) next g
goes_lined Moves m clocks next b turn line g inside lasting may start soon i =
    record { late = λ all f. end-late m clocks all g.start b turn (next + 1) line inside (omega (arith, start)) lasting may soon (i.late all f); last = i.last; moving = i.moving }
goes_lined (Home axis) m clocks next b turn line g inside lasting may start soon i =
    record { whole = i.whole; last = i.last ∙ ap (λ (cs : List Clocks). last_step m cs g.moves g.start) (sym (lines_by_added clocks b (g.start + 17) turn line inside start)); soon = i.soon; moving = i.moving }

-- one that took more moves is of moves
pub goes_longer : (kind : SectionKind) (m : Machine) (clocks : List Clocks) (next : ℕ) (g h : Going) → g.goes ≡ true → ((all : List Move) → IsFuture h.goes h.moves all → IsFuture g.goes g.moves all) → h.start ≡ g.start → h.last ≡ g.last → h.moving ≡ g.moving → GoesAs kind m clocks next g → GoesAs kind m clocks next h
goes_longer Moves m clocks next g h on future start last moving i = record {
  late = λ all f. subst (λ n. next + 1 ≤ section_end m clocks all n) (sym start) (i.late all (future all f));
  last = last ∙ i.last;
  moving = moving ∙ i.moving;
}
goes_longer (Home axis) m clocks next g h on future start last moving i = absurd (true_false (sym on ∙ i.whole))

-- one that homes
pub homes_on : (kind : SectionKind) (m : Machine) (clocks : List Clocks) (next : ℕ) (g : Going) → is_home kind ≡ true → GoesAs kind m clocks next g → HomesOn m clocks g
homes_on Moves m clocks next g e i = absurd (true_false (sym e))
homes_on (Home axis) m clocks next g e i = i

pub planned_home : (kind : SectionKind) (m : Machine) (clocks : List Clocks) (s : Started) → is_home kind ≡ true → IsHomed m clocks s → IsPlanned kind m clocks s
planned_home Moves m clocks s e h = absurd (true_false (sym e))
planned_home (Home axis) m clocks s e h = h

pub laid_home : (kind : SectionKind) (m : Machine) (clocks : List Clocks) (low : ℕ) (s : Started) → is_home kind ≡ true → s.end + 268 ≤ low → IsLaid kind m clocks low s
laid_home Moves m clocks low s e over = absurd (true_false (sym e))
laid_home (Home axis) m clocks low s e over = over

pub lines_home : (kind : SectionKind) (end : ℕ) (clocks : List Clocks) → is_home kind ≡ true → planning_lines kind end clocks ≡ map (lines_by (end + 276)) clocks
lines_home Moves end clocks e = absurd (true_false (sym e))
lines_home (Home axis) end clocks e = refl

-- what was released on a board becomes the whole section
pub can : (m : Machine) (s : SectionStream) (homes : Bool) (c : Course) (told : Option Told) (begun : List Started) (going : Option Going) (i : IsGoingOn m s homes c told begun going) (moves : List Move) → IsFuture i.g.goes i.g.moves moves → (b : ℕ) → b < length m.boards → ∥ CanComplete homes m i.t.clocks moves i.g.start b c.next (i.g.released b) ∥₁
can m s homes c told begun going i moves future b lt = elim (cases_lt i.g.start (c.next + 250)) [
  | inl near ↦
      let e : next_of s ≡ c.next = (let n = i.next in omega (arith, n, near)) in
      subst (λ n. ∥ CanComplete homes m i.t.clocks moves i.g.start b n (i.g.released b) ∥₁) e (section-open m i.t.clocks i.g.start homes s i.g.moves moves i.g.released b i.on (subst (λ t. IsFuture t i.g.moves moves) (sym i.takes) future) (i.rested near) lt)
  | inr far ↦
      let k = section-begun homes m i.t.clocks moves i.g.start b i.on.machine i.on.lead (i.on.may_start b lt).lasting lt in
      subst (λ (r : List Release). ∥ CanComplete homes m i.t.clocks moves i.g.start b c.next r ∥₁) (sym (i.fresh far b)) (merely (record { more = k.more; whole = k.whole; later = λ x d below. let l = k.later x d below in omega (arith, l, far); sent = k.sent }))
]

-- what holds of each of some boards, holds of all
pub all_of : (P : ℕ → Type 0) (n : ℕ) → ((b : ℕ) → b < n → ∥ P b ∥₁) → ∥ ((b : ℕ) → b < n → P b) ∥₁
all_of P zero each = merely (λ b lt. absurd (omega (arith, lt)))
all_of P (suc n) each = ∥∥₁_elim (each n (omega arith)) ∥∥₁_prop (λ last. ∥∥₁_map (all_of P n (λ b lt. each b (omega (arith, lt)))) (one_more last)) where
  one_more : P n → ((b : ℕ) → b < n → P b) → (b : ℕ) → b < suc n → P b
  one_more last before b lt = elim (cases_lt b n) [ inl below ↦ before b below | inr over ↦ (let e : n ≡ b = omega (arith, over, lt) in subst P e last) ]

-- its moves are all there are
pub whole_moves : (goes : Bool) (moves : List Move) → IsFuture goes moves moves
whole_moves true moves = ([], sym (append-nil moves))
whole_moves false moves = refl

-- where it ends with what was released
pub answered_board : (m : Machine) (next : ℕ) (g : Going) (b : ℕ) → b < length m.boards → slice_index_or (started_until m next g).boards b [] ≡ g.released b
answered_board m next g b lt = get_or-map-range_with_len g.released 0 (length m.boards) b b [] lt (let e : 0 + b ≡ b = omega arith in e)

pub answered_items : (begun : List Started) (g : Going) (s : Started) → g.goes ≡ false → s.section ≡ section_with g.kind g.moves g.dwell → items_read (begun ++ s ∷ []) None ≡ items_read begun (Some g)
answered_items begun g s over is =
    let own : items_of (s.section ∷ []) ≡ items.Begin g.kind g.dwell ∷ (moves_in g.moves ++ ending (not g.goes)) = ap (λ x. items_of (x ∷ [])) is ∙ append-nil (items.Begin g.kind g.dwell ∷ (moves_in g.moves ++ items.End ∷ [])) ∙ ap (λ e. items.Begin g.kind g.dwell ∷ (moves_in g.moves ++ ending (not e))) (sym over) in
    ap items_of (map-append (λ (x : Started). x.section) begun (s ∷ [])) ∙ items_append (sections_in begun) (s.section ∷ []) ∙ ap (λ x. items_of (sections_in begun) ++ x) own
