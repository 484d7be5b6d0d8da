-- A section that may start can be planned.
use Rattle.std.proofs.Common.{◌≡◌, ℕ, zero, suc, ◌+◌, ◌*◌, ◌<◌, ◌≤◌, ◌^◌, Bool, true, false, List, [], ◌∷◌, length, get_or, refl, ◌∙◌, arith}
use Rattle.std.specs.Prelude.{◌&&◌, ◌-◌, ◌==◌, nat_le, nat_lt, not}
use Rattle.std.proofs.lemmas.Bool.Decides.{nat_tests}
use Rattle.plan_types.specs.declared.machine.Machine.{Machine}
use Rattle.plan_types.specs.declared.plan.Line.{Line}
use Rattle.plan_types.specs.declared.plan.Section.{Section}
use Rattle.plan_types.specs.declared.plan.SectionKind.{SectionKind}
use Rattle.plan_types.specs.Clock.{tick, tick_limit, turn_ns}
use Rattle.plan_types.specs.declared.plan.Held.{Held}
use Rattle.plan_types.specs.Lines.{Clocks, lines_tick}
use Rattle.plan_types.specs.Machines.{IsValidMachine, stepper_at}
use Rattle.plan_types.specs.Sections.{base_tick, clocks_at, turns_of_move}
use Rattle.section_plan.specs.Runs.{IsPlannable, IsReadyAt, move_ns, steps_of_move}
use Rattle.section_plan.proofs.Boards.{base-small}
use Rattle.clock_line.specs.Kept.{AreKept}
use Rattle.log_check.specs.Faults.{has_own_room, has_room, have_room, is_roomy, may_start, ready, same_kind}
use Rattle.log_check.proofs.Furthers.{own-room}
use Rattle.log_check.specs.Points.{Point, section_at}
use Rattle.log_check.specs.Steps.{CanPlan, IsSoundPoint}
use Rattle.plan_types.proofs.Facts.{first_of_both, second_of_both}

room-at : (cs : List Clocks) (moves turn b : ℕ) (d : Clocks) → have_room cs moves turn ≡ true → b < length cs → is_roomy (get_or cs b d) moves turn ≡ true
room-at [] moves turn b d room inside = absurd (omega arith)
room-at (c ∷ cs) moves turn zero d room inside = first_of_both (is_roomy c moves turn) (have_room cs moves turn) room
room-at (c ∷ cs) moves turn (suc b) d room inside = room-at cs moves turn b d (second_of_both (is_roomy c moves turn) (have_room cs moves turn) room) (omega arith)

line-before : (l : Line) (moves turn : ℕ) → has_room l moves turn ≡ true → l.at ≤ turn * turn_ns
line-before l moves turn room =
    let h = first_of_both (nat_le l.at (turn * turn_ns)) (nat_lt (tick l ((turn + moves * turns_of_move) * turn_ns)) 12_999_999_995_705_032_704) room in
    grind (arith, nat_tests)

line-room : (l : Line) (moves turn : ℕ) → has_room l moves turn ≡ true → tick l ((turn + moves * turns_of_move) * turn_ns) < 12_999_999_995_705_032_704
line-room l moves turn room =
    let h = second_of_both (nat_le l.at (turn * turn_ns)) (nat_lt (tick l ((turn + moves * turns_of_move) * turn_ns)) 12_999_999_995_705_032_704) room in
    grind (arith, nat_tests)

own-few : (c : Clocks) (held : List Held) (moves turn : ℕ) → c.held ≡ held → AreKept c → has_room c.first moves turn ≡ true → has_own_room c held moves turn ≡ true → moves ≤ 2_000_000
    → lines_tick c (turn * turn_ns + moves * move_ns + turn_ns) + 4 * (moves * steps_of_move) + 1 < tick_limit
own-few c held moves turn is kept room own few =
    let e : not (nat_lt (12_999_999_999_999_999_998 - 4 * (moves * steps_of_move)) (lines_tick c (turn * turn_ns + moves * move_ns + turn_ns))) ≡ true = own-room c held moves turn is kept room ∙ own in
    let f : nat_lt (12_999_999_999_999_999_998 - 4 * (moves * steps_of_move)) (lines_tick c (turn * turn_ns + moves * move_ns + turn_ns)) ≡ false = no-longer (nat_lt (12_999_999_999_999_999_998 - 4 * (moves * steps_of_move)) (lines_tick c (turn * turn_ns + moves * move_ns + turn_ns))) e in
    let low : lines_tick c (turn * turn_ns + moves * move_ns + turn_ns) ≤ 12_999_999_999_999_999_998 - 4 * (moves * steps_of_move) = grind (arith, nat_tests) in
    omega (arith, low, few) where
      no-longer : (b : Bool) → not b ≡ true → b ≡ false
      no-longer true e = cc
      no-longer false e = refl

ready-at : (m : Machine) (p : Point) (moves turn b : ℕ) → IsSoundPoint m p → have_room p.clocks moves turn ≡ true → b < length p.clocks → moves ≤ 2_000_000 → IsReadyAt m p.clocks turn moves b
ready-at m p moves turn b sound room inside few =
    let told = sound.lines b inside in
    let c = clocks_at p.clocks b in
    let here = room-at p.clocks moves turn b _ room inside in
    let first = first_of_both (has_room c.first moves turn) (has_own_room c c.held moves turn) here in
    let own = second_of_both (has_room c.first moves turn) (has_own_room c c.held moves turn) here in
    let below = line-room c.first moves turn first in
    record {
      freq = told.freq;
      board = record {
        kept = told.kept;
        before = line-before c.first moves turn first;
        soon = told.soon;
        planned = omega (arith, below);
        room = own-few c c.held moves turn refl told.kept first own few;
      };
    }

-- what a section that may start has
pub record Starts (m : Machine) (sections : List Section) (p : Point) (turn : ℕ) : Type 0 where
  pub inside : p.begun < length sections
  pub boards : length p.clocks ≡ length m.boards
  pub room : have_room p.clocks (length (section_at sections p.begun).moves) turn ≡ true

pub starts : (m : Machine) (sections : List Section) (p : Point) (i turn : ℕ) (kind : SectionKind) → may_start m sections p i turn kind ≡ true → Starts m sections p turn
starts m sections p i turn kind may =
    let section = section_at sections p.begun in
    let e = have_room p.clocks (length section.moves) turn in
    let d = nat_le (ready p.cut p.begun p.start p.end + section.dwell) turn in
    let c = length p.clocks == length m.boards in
    let b = same_kind kind section.kind in
    let a = nat_lt p.begun (length sections) in
    let one = second_of_both (i == p.begun) (a && (b && (c && (d && e)))) may in
    let two = second_of_both a (b && (c && (d && e))) one in
    let three = second_of_both b (c && (d && e)) two in
    let four = second_of_both c (d && e) three in
    let inside : nat_lt p.begun (length sections) ≡ true = first_of_both a (b && (c && (d && e))) one in
    let boards : (length p.clocks == length m.boards) ≡ true = first_of_both c (d && e) three in
    record { inside = grind (arith, nat_tests); boards = grind (arith, nat_tests); room = second_of_both d e four }

pub plannable : (m : Machine) (sections : List Section) (p : Point) (turn : ℕ) → IsValidMachine m → CanPlan sections → IsSoundPoint m p → turn < 2 ^ 62 → Starts m sections p turn
    → IsPlannable m p.clocks (section_at sections p.begun).moves turn
plannable m sections p turn valid can sound soon starts =
    let count = starts.boards in
    record {
      machine = valid;
      boards = starts.boards;
      lines = λ b inside. ready-at m p (length (section_at sections p.begun).moves) turn b sound starts.room (omega (arith, count, inside)) (can.few p.begun _ starts.inside);
      short = can.short p.begun _ starts.inside;
      few = can.few p.begun _ starts.inside;
      some = can.some p.begun _ starts.inside;
      turn_small = soon;
    }

-- the board of each stepper has clock lines, and its base tick has 64 bits
pub boards-are : (m : Machine) (clocks : List Clocks) (moves : List Rattle.plan_types.specs.declared.plan.Move.Move) (turn : ℕ) → IsPlannable m clocks moves turn → (s : ℕ) → s < length m.steppers → (stepper_at m s).board < length clocks
boards-are m clocks moves turn can s inside =
    let board = (can.machine.steppers s inside).board in
    let count = can.boards in
    omega arith

pub bases-small : (m : Machine) (clocks : List Clocks) (moves : List Rattle.plan_types.specs.declared.plan.Move.Move) (turn : ℕ) → IsPlannable m clocks moves turn → (s : ℕ) → s < length m.steppers → base_tick m clocks turn s < 2 ^ 64
bases-small m clocks moves turn can s inside =
    let board = (can.lines (stepper_at m s).board (can.machine.steppers s inside).board).board in
    let small = base-small (clocks_at clocks (stepper_at m s).board) turn (length moves) board in
    omega (arith, small)
