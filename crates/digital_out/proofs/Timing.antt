-- The times at which moves end: they don't fall, and are those of the sections one behind the other.
use Rattle.std.proofs.Common.{◌≡◌, ℕ, suc, ◌+◌, ◌-◌, ◌*◌, ◌/◌, ◌<◌, ◌≤◌, ◌^◌, List, [], ◌∷◌, ◌++◌, All, length, drop, get_or, map, refl, sym, ap, subst, ◌∙◌, arith, append_assoc, append-nil, length-append, inl, inr}
use Rattle.std.proofs.Math.Nat.{div-le_of_le-mul, mul-le-mul}
use Rattle.std.proofs.lemmas.List.{drop_all, drop_more, get_or-map, length-map}
use Rattle.std.proofs.lemmas.List.Elements.{All-append, All-cons, All-head, All-nil, All-tail}
use Rattle.plan_types.specs.declared.machine.BoardDef.{BoardDef}
use Rattle.plan_types.specs.declared.machine.Machine.{Machine}
use Rattle.plan_types.specs.declared.plan.Line.{Line}
use Rattle.plan_types.specs.declared.plan.Move.{Move}
use Rattle.plan_types.specs.declared.plan.Section.{Section}
use Rattle.plan_types.specs.Clock.{tick, tick_limit, turn_ns}
use Rattle.plan_types.specs.Lines.{Clocks, one_line}
use Rattle.plan_types.specs.Machines.{IsValidBoard, IsValidMachine, board_at, no_board}
use Rattle.plan_types.specs.Parts.{parts}
use Rattle.plan_types.specs.Sections.{IsReadyLine, clocks_at, duration, end_time, section_end, turns_needed, turns_of_move, first_turn, no_section}
use Rattle.plan_types.specs.Numbers.{least_of, UpFrom}
use Rattle.plan_types.specs.Speeds.{allowed_by, caps, greatest_speeds, places, speed_change}
use Rattle.plan_types.specs.Valid.{IsValidLine, IsValidMove}
use Rattle.gcode_program.specs.Held.{ArePlannable, IsShortOrNear}
use Rattle.section_plan.specs.Ends.{move_ends}
use Rattle.section_plan.specs.Runs.{HaveOneLine, IsPlannable, IsShortMove}
use Rattle.section_plan.proofs.Boards.{one-ready}
use Rattle.section_plan.proofs.Shorts.{short-move}
use Rattle.digital_out.specs.Ends.{last_time, moves_in}
use Rattle.digital_out.specs.Wants.{own_clocks, own_line, section_ends}

-- near moves are short
near_short : (moves : List Move) → All IsValidMove moves → All IsShortOrNear moves → All IsShortMove moves
near_short moves valid near = λ k d lt. by_near (get_or moves k d) (valid k d lt) (near k d lt) where
  by_near : (m : Move) → IsValidMove m → IsShortOrNear m → IsShortMove m
  by_near m ok n = elim n [ inl reach ↦ short-move m ok reach | inr small ↦ record { valid = ok; short = omega (arith, small) } ]

-- what one section needs, and the sections behind it
pub needed_next : (sections : List Section) (i : ℕ) (d : Section) → i < length sections → turns_needed (drop i sections) ≡ (get_or sections i d).dwell + length (get_or sections i d).moves * turns_of_move + 260 + turns_needed (drop (i + 1) sections)
needed_next sections i d inside = ap turns_needed (drop_more sections i d inside)

-- a board's own line has ticks for every turn of a run
pub line_room : (b : BoardDef) (x : ℕ) → IsValidBoard b → x ≤ 60_000_520_001_260 * 1_000_000 → tick (own_line b) x < tick_limit - 2 ^ 32
line_room b x valid soon =
    let high = valid.freq.high in
    let start = valid.start in
    let one : (x - 0) * b.freq ≤ 60_000_520_001_260 * 1_000_000 * 200_000_000 = mul-le-mul {n₁ = x - 0} {m₁ = b.freq} {n₂ = 60_000_520_001_260 * 1_000_000} {m₂ = 200_000_000} (omega arith) high in
    let two : (x - 0) * b.freq / 1_000_000_000 ≤ 60_000_520_001_260 * 200_000 = div-le_of_le-mul 1_000_000_000 (omega arith) in
    omega arith

line_valid : (b : BoardDef) → IsValidBoard b → IsValidLine (own_line b)
line_valid b valid = record { freq_low = valid.freq.low; freq_high = valid.freq.high; freq_whole = valid.freq.whole; whole_turn = refl; few_turns = omega arith }

clock_at : (m : Machine) (b : ℕ) → b < length m.boards → clocks_at (own_clocks m) b ≡ one_line (own_line (board_at m b))
clock_at m b inside = get_or-map (λ (x : BoardDef). one_line (own_line x)) m.boards b no_board _ inside

ready_line : (m : Machine) (b start moves : ℕ) → IsValidMachine m → b < length m.boards → start + moves * turns_of_move ≤ 60_000_520_001_260 → IsReadyLine m (own_clocks m) start moves b
ready_line m b start moves valid inside soon =
    let board = valid.boards b no_board inside in
    let is = clock_at m b inside in
    record {
      valid = subst (λ (c : Clocks). IsValidLine c.first) (sym is) (line_valid (board_at m b) board);
      alone = ap (λ (c : Clocks). c.held) is;
      freq = ap (λ (c : Clocks). c.first.freq) is;
      before = subst (λ (c : Clocks). c.first.at ≤ start * turn_ns) (sym is) (omega arith);
      room = subst (λ (c : Clocks). tick c.first ((start + moves * turns_of_move) * turn_ns) < tick_limit - 2 ^ 32) (sym is) (line_room (board_at m b) ((start + moves * turns_of_move) * turn_ns) board (omega (arith, soon)));
    }

pub own_alone : (m : Machine) (clocks : List Clocks) → clocks ≡ own_clocks m → HaveOneLine m clocks
own_alone m clocks is = λ b inside. rw is (ap (λ (c : Clocks). c.held) (clock_at m b inside))

-- a section of plannable ones can be planned where it starts soon enough
pub section_plannable : (m : Machine) (clocks : List Clocks) (sections : List Section) (i start : ℕ) (d : Section) → IsValidMachine m → clocks ≡ own_clocks m → ArePlannable sections → i < length sections
    → start + length (get_or sections i d).moves * turns_of_move ≤ 60_000_520_001_260 → IsPlannable m clocks (get_or sections i d).moves start
section_plannable m clocks sections i start d valid is can inside soon =
    let G : List Clocks → Type 0 = λ c. IsPlannable m c (get_or sections i d).moves start in
    subst G (sym is) (record {
      machine = valid;
      boards = length-map m.boards (λ (b : BoardDef). one_line (own_line b));
      lines = λ b in_boards. one-ready m (own_clocks m) start (length (get_or sections i d).moves) b (omega (arith, soon)) (can.some i d inside) (ready_line m b start (length (get_or sections i d).moves) valid in_boards soon);
      short = near_short (get_or sections i d).moves (can.valid i d inside) (can.near i d inside);
      few = can.few i d inside;
      some = can.some i d inside;
      turn_small = omega (arith, soon);
    })

-- the ends of moves don't fall, from their beginning on, and none is behind the last
pub ends_ordered : (cruise : ℕ) (moves : List Move) (speeds : List ℕ) (begin : ℕ) → UpFrom begin (move_ends cruise moves speeds begin)
ends_ordered cruise [] speeds begin = tt
ends_ordered cruise (m ∷ ms) [] begin = tt
ends_ordered cruise (m ∷ ms) (g ∷ []) begin = tt
ends_ordered cruise (m ∷ ms) (g ∷ h ∷ speeds) begin = (omega arith, ends_ordered cruise ms (h ∷ speeds) (begin + duration (parts m g h cruise)))

end_behind : (cruise : ℕ) (moves : List Move) (speeds : List ℕ) (begin : ℕ) → begin ≤ end_time cruise moves speeds begin
end_behind cruise [] speeds begin = omega arith
end_behind cruise (m ∷ ms) [] begin = omega arith
end_behind cruise (m ∷ ms) (g ∷ []) begin = omega arith
end_behind cruise (m ∷ ms) (g ∷ h ∷ speeds) begin = omega (arith, end_behind cruise ms (h ∷ speeds) (begin + duration (parts m g h cruise)))

pub ends_before : (cruise : ℕ) (moves : List Move) (speeds : List ℕ) (begin : ℕ) → All (λ t. t ≤ end_time cruise moves speeds begin) (move_ends cruise moves speeds begin)
ends_before cruise [] speeds begin = All-nil (λ (t : ℕ). t ≤ begin)
ends_before cruise (m ∷ ms) [] begin = All-nil (λ (t : ℕ). t ≤ begin)
ends_before cruise (m ∷ ms) (g ∷ []) begin = All-nil (λ (t : ℕ). t ≤ begin)
ends_before cruise (m ∷ ms) (g ∷ h ∷ speeds) begin =
    let time = begin + duration (parts m g h cruise) in
    All-cons (λ (t : ℕ). t ≤ end_time cruise ms (h ∷ speeds) time) time (move_ends cruise ms (h ∷ speeds) time) (end_behind cruise ms (h ∷ speeds) time) (ends_before cruise ms (h ∷ speeds) time)

pub ends_counted : (cruise : ℕ) (moves : List Move) (speeds : List ℕ) (begin : ℕ) → length speeds ≡ length moves + 1 → length (move_ends cruise moves speeds begin) ≡ length moves
ends_counted cruise [] speeds begin count = refl
ends_counted cruise (m ∷ ms) [] begin count = absurd (omega (arith, count))
ends_counted cruise (m ∷ ms) (g ∷ []) begin count = absurd (omega (arith, count))
ends_counted cruise (m ∷ ms) (g ∷ h ∷ speeds) begin count = ap suc (ends_counted cruise ms (h ∷ speeds) (begin + duration (parts m g h cruise)) (omega (arith, count)))

-- times behind times
pub ordered_joined : (low mid : ℕ) (xs ys : List ℕ) → UpFrom low xs → All (λ t. t ≤ mid) xs → low ≤ mid → UpFrom mid ys → UpFrom low (xs ++ ys)
ordered_joined low mid [] ys first small below second = earlier low mid ys below second where
  earlier : (low mid : ℕ) (ys : List ℕ) → low ≤ mid → UpFrom mid ys → UpFrom low ys
  earlier low mid [] below h = tt
  earlier low mid (y ∷ ys) below h = (omega (arith, below, h.0), h.1)
ordered_joined low mid (x ∷ xs) ys first small below second =
    (first.0, ordered_joined x mid xs ys first.1 (All-tail (λ (t : ℕ). t ≤ mid) x xs small) (All-head (λ (t : ℕ). t ≤ mid) x xs small) second)

places_counted : (start : ℕ) (changes : List ℕ) → length (places start changes) ≡ suc (length changes)
places_counted start [] = refl
places_counted start (c ∷ changes) = ap suc (places_counted (start + c) changes)

speeds_counted : (moves : List Move) (scv : ℕ) → length (greatest_speeds moves scv) ≡ length moves + 1
speeds_counted moves scv =
    let changes = map speed_change moves in
    let lows = length-map (places 0 changes) (λ s. least_of (allowed_by (caps moves scv) (places 0 changes) s)) in
    let some = places_counted 0 changes in
    let same = length-map moves speed_change in
    omega (arith, lows, some, same)

-- the times so far are those of the first sections, and the next one may start in a turn
pub record EndsSofar (m : Machine) (clocks : List Clocks) (sections : List Section) (times : List ℕ) (i ready : ℕ) : Type 0 where
  pub soon : ready + turns_needed (drop i sections) ≤ 60_000_520_001_260
  pub before : All (λ t. t ≤ ready * turn_ns) times
  pub ordered : UpFrom 0 times
  pub count : length times + moves_in (drop i sections) ≡ moves_in sections + 1
  pub whole : times ++ section_ends m clocks ready (drop i sections) ≡ first_turn * turn_ns ∷ section_ends m clocks first_turn sections

pub ends_begun : (m : Machine) (clocks : List Clocks) (sections : List Section) → ArePlannable sections → EndsSofar m clocks sections (first_turn * turn_ns ∷ []) 0 first_turn
ends_begun m clocks sections can = record {
  soon = omega (arith, can.soon);
  before = All-cons (λ (t : ℕ). t ≤ first_turn * turn_ns) (first_turn * turn_ns) [] (omega arith) (All-nil (λ (t : ℕ). t ≤ first_turn * turn_ns));
  ordered = (omega arith, tt);
  count = omega arith;
  whole = refl;
}

weaker : (a b : ℕ) (ts : List ℕ) → a ≤ b → All (λ t. t ≤ a) ts → All (λ t. t ≤ b) ts
weaker a b ts below h = λ k d lt. let x = h k d lt in omega (arith, x, below)

pub ends_more : (m : Machine) (clocks : List Clocks) (sections : List Section) (times new : List ℕ) (i ready end : ℕ) (s : Section) → s ≡ get_or sections i no_section → i < length sections → EndsSofar m clocks sections times i ready
    → new ≡ times ++ move_ends m.cruise s.moves (greatest_speeds s.moves m.scv) ((ready + s.dwell) * turn_ns) → end ≡ section_end m clocks s.moves (ready + s.dwell) → end ≤ ready + s.dwell + length s.moves * turns_of_move
    → EndsSofar m clocks sections new (i + 1) (end + 260)
ends_more m clocks sections times new i ready end s is lt so added end_is late =
    let speeds = greatest_speeds s.moves m.scv in
    let start = ready + s.dwell in
    let here = move_ends m.cruise s.moves speeds (start * turn_ns) in
    let over = end_time m.cruise s.moves speeds (start * turn_ns) in
    let split : drop i sections ≡ s ∷ drop (i + 1) sections = drop_more sections i no_section lt ∙ ap (λ (x : Section). x ∷ drop (i + 1) sections) (sym is) in
    let needed : turns_needed (drop i sections) ≡ s.dwell + length s.moves * turns_of_move + 260 + turns_needed (drop (i + 1) sections) = ap turns_needed split in
    let counted = ends_counted m.cruise s.moves speeds (start * turn_ns) (speeds_counted s.moves m.scv) in
    let joined = length-append times here in
    let left : moves_in (drop i sections) ≡ length s.moves + moves_in (drop (i + 1) sections) = ap moves_in split in
    let ended : over / turn_ns ≤ end = omega (arith, end_is) in
    let behind : over ≤ (end + 260) * turn_ns = omega (arith, ended) in
    let early : ready * turn_ns ≤ start * turn_ns = omega arith in
    let first : start * turn_ns ≤ over = end_behind m.cruise s.moves speeds (start * turn_ns) in
    let ordered : UpFrom 0 (times ++ here) = ordered_joined 0 (start * turn_ns) times here so.ordered (weaker (ready * turn_ns) (start * turn_ns) times early so.before) (omega arith) (ends_ordered m.cruise s.moves speeds (start * turn_ns)) in
    let small : All (λ t. t ≤ (end + 260) * turn_ns) (times ++ here) = All-append (λ (t : ℕ). t ≤ (end + 260) * turn_ns) times here
    (weaker (ready * turn_ns) ((end + 260) * turn_ns) times (omega (arith, early, first, behind)) so.before) (weaker over ((end + 260) * turn_ns) here behind (ends_before m.cruise s.moves speeds (start * turn_ns))) in
    let Rest : List Section → Type 0 = λ rs. times ++ section_ends m clocks ready rs ≡ first_turn * turn_ns ∷ section_ends m clocks first_turn sections in
    let whole : times ++ (here ++ section_ends m clocks (section_end m clocks s.moves start + 260) (drop (i + 1) sections)) ≡ first_turn * turn_ns ∷ section_ends m clocks first_turn sections = subst Rest split so.whole in
    record {
      soon = omega (arith, so.soon, needed, late);
      before = rw added small;
      ordered = rw added ordered;
      count = rw added (omega (arith, so.count, joined, counted, left));
      whole = rw (added, end_is) (append_assoc times here (section_ends m clocks (section_end m clocks s.moves start + 260) (drop (i + 1) sections)) ∙ whole);
    }

pub ends_whole : (m : Machine) (clocks : List Clocks) (sections : List Section) (times : List ℕ) (i ready : ℕ) → length sections ≤ i → EndsSofar m clocks sections times i ready
    → (times ≡ first_turn * turn_ns ∷ section_ends m clocks first_turn sections) × (length times ≡ moves_in sections + 1) × All (λ t. t ≤ last_time) times
ends_whole m clocks sections times i ready over so =
    let none = drop_all i sections over in
    let All_of : List Section → Type 0 = λ rs. times ++ section_ends m clocks ready rs ≡ first_turn * turn_ns ∷ section_ends m clocks first_turn sections in
    let Count : List Section → Type 0 = λ rs. length times + moves_in rs ≡ moves_in sections + 1 in
    let soon = so.soon in
    (sym (append-nil times) ∙ subst All_of none so.whole, (let c = subst Count none so.count in omega (arith, c)), weaker (ready * turn_ns) last_time times (omega (arith, soon)) so.before)

-- the next section can be planned
pub next_plannable : (m : Machine) (clocks : List Clocks) (sections : List Section) (times : List ℕ) (i ready : ℕ) (s : Section) → s ≡ get_or sections i no_section → i < length sections → IsValidMachine m → clocks ≡ own_clocks m → ArePlannable sections
    → EndsSofar m clocks sections times i ready → IsPlannable m clocks s.moves (ready + s.dwell)
next_plannable m clocks sections times i ready s is lt valid own can so =
    let G : Section → Type 0 = λ x. IsPlannable m clocks x.moves (ready + x.dwell) in
    let needed = needed_next sections i no_section lt in
    let soon = so.soon in
    subst G (sym is) (section_plannable m clocks sections i _ no_section valid own can lt (omega (arith, needed, soon)))

-- one section more, whose moves and whose clock lines come by other names
pub ends_more_of : (m : Machine) (clocks own : List Clocks) (sections : List Section) (times new : List ℕ) (i ready end : ℕ) (s : Section) (moves : List Move) → s ≡ get_or sections i no_section → i < length sections → EndsSofar m clocks sections times i ready
    → moves ≡ s.moves → own ≡ clocks → new ≡ times ++ move_ends m.cruise moves (greatest_speeds moves m.scv) ((ready + s.dwell) * turn_ns) → end ≡ section_end m own moves (ready + s.dwell) → end ≤ ready + s.dwell + length moves * turns_of_move
    → EndsSofar m clocks sections new (i + 1) (end + 260)
ends_more_of m clocks own sections times new i ready end s moves is lt so same named added end_is late =
    let Added : List Move → Type 0 = λ x. new ≡ times ++ move_ends m.cruise x (greatest_speeds x m.scv) ((ready + s.dwell) * turn_ns) in
    let Ends : List Move → Type 0 = λ x. end ≡ section_end m own x (ready + s.dwell) in
    let By : List Clocks → Type 0 = λ x. end ≡ section_end m x s.moves (ready + s.dwell) in
    let Late : List Move → Type 0 = λ x. end ≤ ready + s.dwell + length x * turns_of_move in
    ends_more m clocks sections times new i ready end s is lt so (subst Added same added) (subst By named (subst Ends same end_is)) (subst Late same late)

-- the turn of an end has 64 bits
pub end_small : (m : Machine) (clocks : List Clocks) (sections : List Section) (times : List ℕ) (i ready end : ℕ) (s : Section) (moves : List Move) → s ≡ get_or sections i no_section → i < length sections → EndsSofar m clocks sections times i ready → moves ≡ s.moves → end ≤ ready + s.dwell + length moves * turns_of_move → end + 260 < 2 ^ 64
end_small m clocks sections times i ready end s moves is lt so same late =
    let needed = needed_next sections i no_section lt in
    let soon = so.soon in
    let dwell : s.dwell ≡ (get_or sections i no_section).dwell = ap (λ (x : Section). x.dwell) is in
    let count : length moves ≡ length (get_or sections i no_section).moves = ap length (same ∙ ap (λ (x : Section). x.moves) is) in
    omega (arith, needed, soon, dwell, count, late)

-- all times have small ticks on a board's own line
pub times_small : (b : BoardDef) (line : Line) (times : List ℕ) → line ≡ own_line b → IsValidBoard b → All (λ t. t ≤ last_time) times → All (λ t. tick line t < tick_limit - 2 ^ 32) times
times_small b line times is valid soon = λ k d lt. rw is (line_room b (get_or times k d) valid (soon k d lt))
