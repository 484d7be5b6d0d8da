-- A section that takes its moves.
use Rattle.std.proofs.Common.{◌≡◌, ℕ, ◌+◌, ◌*◌, ◌<◌, ◌≤◌, ◌^◌, Bool, true, false, not, List, [], ◌∷◌, ◌++◌, All, drop, length, refl, ap, sym, subst, ◌∙◌, append_assoc, append-nil, arith}
use Rattle.std.specs.Prelude.{slice_index_or}
use Rattle.std.proofs.lemmas.List.Elements.{All-cons, All-head, All-nil, All-tail}
use Rattle.plan_types.specs.declared.machine.Machine.{Machine}
use Rattle.plan_types.specs.declared.plan.Move.{Move}
use Rattle.plan_types.specs.Clock.{turn_ns}
use Rattle.plan_types.specs.Lines.{Clocks, lines_tick}
use Rattle.plan_types.specs.Machines.{IsValidMachine}
use Rattle.plan_types.specs.Sections.{clocks_at}
use Rattle.gcode_program.specs.declared.items.Item.{Item}
use Rattle.gcode_program.specs.declared.items.Item.TheVariants as items
use Rattle.gcode_program.specs.Held.{IsShortOrNear}
use Rattle.gcode_program.specs.Items.{IsGood, ending, moves_in}
use Rattle.plan_types.specs.Valid.{IsValidMove}
use Rattle.section_plan.specs.Runs.{IsShortMove}
use Rattle.section_feed.specs.declared.queue.MoveQueue.{MoveQueue}
use Rattle.section_feed.specs.declared.section.SectionStream.{SectionStream}
use Rattle.section_feed.specs.Boards.{MayStart}
use Rattle.section_feed.specs.Kinds.{board_kinds}
use Rattle.section_feed.specs.On.{IsSectionOn}
use Rattle.section_feed.specs.Queues.{begin_in, cruise_in, is_taking}
use Rattle.section_feed.specs.Sections.{IsSectionOf, boards_of, next_of, queue_of, sets_of}
use Rattle.section_feed.specs.Sets.{BoardSet, start_set}
use Rattle.section_feed.specs.Feeding.{IsBoardOf}
use Rattle.section_stream.specs.Steppers.{StepperKind}
use Rattle.step_feed.specs.Pacing.{Release, at_turn}
use Rattle.step_feed.specs.Units.{StepUnit}
use Rattle.motion_work.specs.Seen.{AreBoardClocks}
use Rattle.motion_work.proofs.Homing.{near_short}
use Rattle.motion_stream.specs.Gone.{HasGivenRows, HasTaken, released_in}

-- a section's stream that changed, and what was pushed and released
pub section_on : (m : Machine) (clocks : List Clocks) (turn : ℕ) (homing : Bool) (old new : SectionStream) (moves all : List Move) (released given : ℕ → List Release) → boards_of new ≡ boards_of old → sets_of new ≡ sets_of old
    → cruise_in (queue_of new) ≡ cruise_in (queue_of old) → begin_in (queue_of new) ≡ begin_in (queue_of old)
    → ((scv : ℕ) (kinds : ℕ → ℕ → StepperKind) (base : ℕ → ℕ) → IsSectionOf old scv moves kinds base released → IsSectionOf new scv all kinds base given)
    → IsSectionOn m clocks turn homing old moves released → IsSectionOn m clocks turn homing new all given
section_on m clocks turn homing old new moves all released given boards sets cruise begin on h = record {
  machine = h.machine;
  count = h.count;
  freq = h.freq;
  lead = h.lead;
  may_start = h.may_start;
  section = on m.scv (λ b. board_kinds m (clocks_at clocks b) b turn homing) (λ b. lines_tick (clocks_at clocks b) (turn * turn_ns)) h.section;
  boards = boards ∙ h.boards;
  sets = λ b d lt. ap (λ (s : List BoardSet). slice_index_or s b d) sets ∙ h.sets b d lt;
  cruise = cruise ∙ h.cruise;
  begin = begin ∙ h.begin;
}

-- the same units, board by board
pub same_released : (m : Machine) (clocks : List Clocks) (turn : ℕ) (homing : Bool) (s : SectionStream) (moves : List Move) (released given : ℕ → List Release) → ((b : ℕ) → released b ≡ given b) → IsSectionOn m clocks turn homing s moves released → IsSectionOn m clocks turn homing s moves given
same_released m clocks turn homing s moves released given same h =
    section_on m clocks turn homing s s moves moves released given refl refl refl refl (λ scv kinds base i. record {
      parts = i.parts;
      queue = i.queue;
      boards = record {
        each = λ b d lt. subst (λ (r : List Release). IsBoardOf (slice_index_or s.boards.items b d) (kinds b) (base b) i.parts r) (same b) (i.boards.each b d lt);
        times = i.boards.times;
      };
    }) h

-- a move that waits
pub good_short : (one : Move) (rest : List Item) → All IsGood (items.Move one ∷ rest) → IsShortMove one
good_short one rest h =
    let g = All-head IsGood (items.Move one) rest h in
    All-head IsShortMove one [] (near_short (one ∷ []) (one_all IsValidMove one g.0) (one_all IsShortOrNear one g.1))
  where
    one_all : (P : Move → Type 0) (x : Move) → P x → All P (x ∷ [])
    one_all P x p = All-cons P x [] p (All-nil P)

pub good_rest : (i : Item) (rest : List Item) → All IsGood (i ∷ rest) → All IsGood rest
good_rest i rest h = All-tail IsGood i rest h

-- one thing that waits is taken
pub took_none : (s : SectionStream) (waiting : List Item) → is_taking (queue_of s) ≡ true → HasTaken s s waiting waiting
took_none s waiting takes = record {
  more = [];
  ends = false;
  items_are = refl;
  takes = takes;
  on = λ m clocks turn homing moves released h. subst (λ (ms : List Move). IsSectionOn m clocks turn homing s ms released) (sym (append-nil moves)) h;
  next = refl;
  boards = refl;
}

moves_more : (ms ns : List Move) (rest : List Item) → moves_in (ms ++ ns) ++ rest ≡ moves_in ms ++ (moves_in ns ++ rest)
moves_more [] ns rest = refl
moves_more (m ∷ ms) ns rest = ap (λ is. items.Move m ∷ is) (moves_more ms ns rest)

-- and then another
pub took_more : (a b c : SectionStream) (one two three : List Item) → is_taking (queue_of b) ≡ true → HasTaken a b one two → HasTaken b c two three → HasTaken a c one three
took_more a b c one two three takes h k =
    let none : h.ends ≡ false = goes_on h.ends (sym h.takes ∙ takes) in
    let first : one ≡ moves_in h.more ++ two = h.items_are ∙ ap (λ e. (moves_in h.more ++ ending e) ++ two) none ∙ ap (λ is. is ++ two) (append-nil (moves_in h.more)) in
    record {
      more = h.more ++ k.more;
      ends = k.ends;
      items_are = first ∙ ap (λ is. moves_in h.more ++ is) (k.items_are ∙ append_assoc (moves_in k.more) (ending k.ends) three) ∙ sym (moves_more h.more k.more (ending k.ends ++ three)) ∙ sym (append_assoc (moves_in (h.more ++ k.more)) (ending k.ends) three);
      takes = k.takes;
      on = λ m clocks turn homing moves released i. subst (λ (ms : List Move). IsSectionOn m clocks turn homing c ms released) (append_assoc moves h.more k.more) (k.on m clocks turn homing (moves ++ h.more) released (h.on m clocks turn homing moves released i));
      next = k.next ∙ h.next;
      boards = k.boards ∙ h.boards;
    }
  where
    goes_on : (e : Bool) → not e ≡ true → e ≡ false
    goes_on true p = absurd cc
    goes_on false p = refl

-- rows that are given
pub rows_more : (turn at : ℕ) (rows : List (List (List StepUnit))) (row : List (List StepUnit)) (b : ℕ) → at ≡ turn + length rows → released_in turn (rows ++ row ∷ []) b ≡ released_in turn rows b ++ at_turn at (slice_index_or row b [])
rows_more turn at [] row b is = append-nil (at_turn turn (slice_index_or row b [])) ∙ ap (λ t. at_turn t (slice_index_or row b [])) (let e : turn ≡ at = omega (arith, is) in e)
rows_more turn at (r ∷ rows) row b is =
    ap (λ x. at_turn turn (slice_index_or r b []) ++ x) (rows_more (turn + 1) at rows row b (omega (arith, is))) ∙ sym (append_assoc (at_turn turn (slice_index_or r b [])) (released_in (turn + 1) rows b) (at_turn at (slice_index_or row b [])))

pub given_none : (s : SectionStream) (turn : ℕ) → HasGivenRows s s turn []
given_none s turn = record { on = λ m clocks start homing moves released h. same_released m clocks start homing s moves released (λ b. released b ++ []) (λ b. sym (append-nil (released b))) h; takes = refl }

pub given_more : (a b c : SectionStream) (turn at : ℕ) (rows all : List (List (List StepUnit))) (row : List (List StepUnit)) → HasGivenRows a b turn rows → at ≡ turn + length rows → all ≡ rows ++ row ∷ [] → is_taking (queue_of c) ≡ is_taking (queue_of b)
    → ((m : Machine) (clocks : List Clocks) (start : ℕ) (homing : Bool) (moves : List Move) (released : ℕ → List Release) → IsSectionOn m clocks start homing b moves released → IsSectionOn m clocks start homing c moves (λ x. released x ++ at_turn at (slice_index_or row x [])))
    → HasGivenRows a c turn all
given_more a b c turn at rows all row h is are takes on = record {
  on = λ m clocks start homing moves released i. same_released m clocks start homing c moves (λ x. (released x ++ released_in turn rows x) ++ at_turn at (slice_index_or row x [])) (λ x. released x ++ released_in turn all x)
      (λ x. append_assoc (released x) (released_in turn rows x) (at_turn at (slice_index_or row x [])) ∙ ap (λ y. released x ++ y) (sym (rows_more turn at rows row x is) ∙ ap (λ rs. released_in turn rs x) (sym are)))
      (on m clocks start homing moves (λ x. released x ++ released_in turn rows x) (h.on m clocks start homing moves released i));
  takes = takes ∙ h.takes;
}

-- a section may start on the boards' lines
pub may_start : (m : Machine) (clocks : List Clocks) (start b : ℕ) → AreBoardClocks m clocks start → ((x : ℕ) → x < length m.boards → (clocks_at clocks x).first.clock < 2 ^ 62) → start < 2 ^ 43 → b < length m.boards → MayStart (clocks_at clocks b) start
may_start m clocks start b h early small lt = record {
  lasting = h.lasting b lt (early b lt);
  begun = h.before b lt;
  turn_small = small;
}

-- a move is taken
pub took_move : (old new : SectionStream) (one : Move) (rest waiting left : List Item) → waiting ≡ items.Move one ∷ rest → left ≡ drop 1 waiting → is_taking (queue_of new) ≡ true → next_of new ≡ next_of old → new.boards ≡ old.boards → boards_of new ≡ boards_of old → sets_of new ≡ sets_of old
    → cruise_in (queue_of new) ≡ cruise_in (queue_of old) → begin_in (queue_of new) ≡ begin_in (queue_of old)
    → ((scv : ℕ) (moves : List Move) (kinds : ℕ → ℕ → StepperKind) (base : ℕ → ℕ) (released : ℕ → List Release) → IsSectionOf old scv moves kinds base released → IsSectionOf new scv (moves ++ one ∷ []) kinds base released) → HasTaken old new waiting left
took_move old new one rest waiting left is are takes next same boards sets cruise begin on = record {
  more = one ∷ [];
  ends = false;
  items_are = is ∙ ap (λ r. items.Move one ∷ r) (sym (are ∙ ap (drop 1) is));
  takes = takes;
  on = λ m clocks turn homing moves released h. section_on m clocks turn homing old new moves (moves ++ one ∷ []) released released boards sets cruise begin (λ scv kinds base i. on scv moves kinds base released i) h;
  next = next;
  boards = ap (λ b. b.items) same;
}

-- its end is taken
pub took_end : (old new : SectionStream) (rest waiting left : List Item) → waiting ≡ items.End ∷ rest → left ≡ drop 1 waiting → is_taking (queue_of new) ≡ false → next_of new ≡ next_of old → new.boards ≡ old.boards → boards_of new ≡ boards_of old → sets_of new ≡ sets_of old
    → cruise_in (queue_of new) ≡ cruise_in (queue_of old) → begin_in (queue_of new) ≡ begin_in (queue_of old)
    → ((scv : ℕ) (moves : List Move) (kinds : ℕ → ℕ → StepperKind) (base : ℕ → ℕ) (released : ℕ → List Release) → IsSectionOf old scv moves kinds base released → IsSectionOf new scv moves kinds base released) → HasTaken old new waiting left
took_end old new rest waiting left is are takes next same boards sets cruise begin on = record {
  more = [];
  ends = true;
  items_are = is ∙ ap (λ r. items.End ∷ r) (sym (are ∙ ap (drop 1) is));
  takes = takes;
  on = λ m clocks turn homing moves released h. subst (λ (ms : List Move). IsSectionOn m clocks turn homing new ms released) (sym (append-nil moves)) (section_on m clocks turn homing old new moves moves released released boards sets cruise begin (λ scv kinds base i. on scv moves kinds base released i) h);
  next = next;
  boards = ap (λ b. b.items) same;
}

pub left_good : (waiting left : List Item) → left ≡ drop 1 waiting → All IsGood waiting → All IsGood left
left_good [] left are h = subst (λ (is : List Item). All IsGood is) (sym are) h
left_good (i ∷ waiting) left are h = subst (λ (is : List Item). All IsGood is) (sym are) (good_rest i waiting h)

pub first_short : (one : Move) (rest waiting : List Item) → waiting ≡ items.Move one ∷ rest → All IsGood waiting → IsShortMove one
first_short one rest waiting is h = good_short one rest (subst (λ (is : List Item). All IsGood is) is h)

-- a new section
pub new_on : (m : Machine) (clocks : List Clocks) (start : ℕ) (homing : Bool) (s : SectionStream) (q : MoveQueue) → IsValidMachine m → AreBoardClocks m clocks start → ((x : ℕ) → x < length m.boards → (clocks_at clocks x).first.clock < 2 ^ 62) → 250 ≤ start → start < 2 ^ 43
    → IsSectionOf s m.scv [] (λ b. board_kinds m (clocks_at clocks b) b start homing) (λ b. lines_tick (clocks_at clocks b) (start * turn_ns)) (λ b. []) → boards_of s ≡ length m.boards → ((b : ℕ) (d : BoardSet) → b < length m.boards → slice_index_or (sets_of s) b d ≡ start_set m clocks start b)
    → queue_of s ≡ q → cruise_in q ≡ m.cruise → begin_in q ≡ start * turn_ns → IsSectionOn m clocks start homing s [] (λ b. [])
new_on m clocks start homing s q valid h early lead small section boards sets queue cruise begin = record {
  machine = valid;
  count = h.count;
  freq = h.freq;
  lead = lead;
  may_start = λ b lt. may_start m clocks start b h early small lt;
  section = section;
  boards = boards;
  sets = sets;
  cruise = ap cruise_in queue ∙ cruise;
  begin = ap begin_in queue ∙ begin;
}

-- the units of one more turn, by what a section gives
pub given_next : (a b c : SectionStream) (turn at : ℕ) (rows all : List (List (List StepUnit))) (row : List (List StepUnit)) → HasGivenRows a b turn rows → at ≡ turn + length rows → all ≡ rows ++ row ∷ [] → next_of b ≡ at → is_taking (queue_of c) ≡ is_taking (queue_of b) → boards_of c ≡ boards_of b
    → sets_of c ≡ sets_of b → cruise_in (queue_of c) ≡ cruise_in (queue_of b) → begin_in (queue_of c) ≡ begin_in (queue_of b)
    → ((scv : ℕ) (moves : List Move) (kinds : ℕ → ℕ → StepperKind) (base : ℕ → ℕ) (released : ℕ → List Release) → IsSectionOf b scv moves kinds base released → IsSectionOf c scv moves kinds base (λ x. released x ++ at_turn (next_of b) (slice_index_or row x [])))
    → HasGivenRows a c turn all
given_next a b c turn at rows all row h is are next takes boards sets cruise begin on =
    given_more a b c turn at rows all row h is are takes (λ m clocks start homing moves released i.
    same_released m clocks start homing c moves (λ x. released x ++ at_turn (next_of b) (slice_index_or row x [])) (λ x. released x ++ at_turn at (slice_index_or row x [])) (λ x. ap (λ t. released x ++ at_turn t (slice_index_or row x [])) next)
    (section_on m clocks start homing b c moves moves released (λ x. released x ++ at_turn (next_of b) (slice_index_or row x [])) boards sets cruise begin (λ scv kinds base j. on scv moves kinds base released j) i))

-- a section that took its one move and its end
pub home_on : (m : Machine) (clocks : List Clocks) (start : ℕ) (homing : Bool) (first mid last : SectionStream) (one : Move) → boards_of mid ≡ boards_of first → sets_of mid ≡ sets_of first → cruise_in (queue_of mid) ≡ cruise_in (queue_of first) → begin_in (queue_of mid) ≡ begin_in (queue_of first)
    → ((scv : ℕ) (moves : List Move) (kinds : ℕ → ℕ → StepperKind) (base : ℕ → ℕ) (released : ℕ → List Release) → IsSectionOf first scv moves kinds base released → IsSectionOf mid scv (moves ++ one ∷ []) kinds base released)
    → boards_of last ≡ boards_of mid → sets_of last ≡ sets_of mid → cruise_in (queue_of last) ≡ cruise_in (queue_of mid) → begin_in (queue_of last) ≡ begin_in (queue_of mid)
    → ((scv : ℕ) (moves : List Move) (kinds : ℕ → ℕ → StepperKind) (base : ℕ → ℕ) (released : ℕ → List Release) → IsSectionOf mid scv moves kinds base released → IsSectionOf last scv moves kinds base released)
    → IsSectionOn m clocks start homing first [] (λ b. []) → IsSectionOn m clocks start homing last (one ∷ []) (λ b. [])
home_on m clocks start homing first mid last one boards sets cruise begin pushed boards' sets' cruise' begin' finished h =
    section_on m clocks start homing mid last (one ∷ []) (one ∷ []) (λ b. []) (λ b. []) boards' sets' cruise' begin' (λ scv kinds base i. finished scv (one ∷ []) kinds base (λ b. []) i)
    (section_on m clocks start homing first mid [] (one ∷ []) (λ b. []) (λ b. []) boards sets cruise begin (λ scv kinds base i. pushed scv [] kinds base (λ b. []) i) h)
