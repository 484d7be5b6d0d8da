-- Further clock lines of boards.
use Rattle.std.proofs.Common.{◌≡◌, ℕ, zero, suc, ◌+◌, ◌-◌, ◌*◌, ◌<◌, ◌≤◌, ◌^◌, Bool, true, false, List, [], ◌∷◌, ◌++◌, All, length, refl, sym, ◌∙◌, ap, arith, append-nil, append_assoc, Option, Some, None}
use Rattle.std.specs.Prelude.{◌%◌, ◌==◌, ◌&&◌, nat_le, nat_lt, not, if◌then◌else◌, codes, Ok, Err}
use Rattle.std.specs.Str.{bytes_eq}
use Rattle.std.proofs.lemmas.Bool.Decides.{nat_tests}
use Rattle.std.proofs.lemmas.List.Elements.{All-head, All-tail}
use Rattle.clock_line.specs.Fits.{added_where, are_small, is_later, is_like, may_hold}
use Rattle.clock_line.specs.Kept.{AreKept, added}
use Rattle.clock_line.proofs.Holding.{are-added, tick-mono}
use Rattle.clock_line.proofs.Turns.{last_from-each}
use Rattle.log_text.specs.declared.line.LogLine.{LogLine}
use Rattle.log_text.specs.declared.line.LogLine.TheVariants as line
use Rattle.log_text.specs.Said.{Said, board_freq, board_line, board_tick, board_told, board_turn, counts_line, counts_passed, counts_with, cut_line, cut_with, drift_line, end_line, end_with, is_corexy, is_up, kind_said, board_said, line_said, machine_boards, machine_if, machine_line, machine_with, note_if, pulse_line, pulse_told, pulse_with, same, section_line, section_turn, section_with}
use Rattle.log_text.specs.Names.{board_from, stepper_from}
use Rattle.log_text.specs.Words.{is_turn, labelled, number}
use Rattle.plan_types.specs.declared.cause.MisfitKind.TheVariants.{BadLine, Unknown}
use Rattle.plan_types.specs.Machines.{board_at, stepper_at}
use Rattle.text_core.specs.Bytes.{before, begins, Text}
use Rattle.text_core.specs.Lines.{lines_of, with_first}
use Rattle.text_core.specs.Trims.{without_return}
use Rattle.text_core.specs.Words.{is_inside, is_none_left, line_words, words_of, worded_lines}
use Rattle.plan_types.specs.declared.machine.Machine.{Machine}
use Rattle.plan_types.specs.declared.plan.Held.{Held}
use Rattle.plan_types.specs.declared.plan.Line.{Line}
use Rattle.plan_types.specs.declared.plan.SectionKind.{SectionKind}
use Rattle.plan_types.specs.Clock.{tick, turn_ns}
use Rattle.plan_types.specs.Lines.{Clocks, last_from, lines_tick}
use Rattle.plan_types.specs.Sections.{turns_of_move}
use Rattle.section_plan.specs.Runs.{move_ns, steps_of_move}
use Rattle.section_plan.proofs.Boards.{alone-tick, room-for, tick-next}
use Rattle.log_check.specs.declared.further.Further.{Further}
use Rattle.log_check.specs.Behind.{further_of, further_said, told_line, with_further, with_one}
use Rattle.log_check.specs.Faults.{are_few, has_own_room, has_room}
use Rattle.log_check.specs.Steps.{AreClocksOfBoard}
use Rattle.plan_types.proofs.Facts.{first_of_both, second_of_both}

-- the last line is the one that was added
last-added : (from : ℕ) (held : List Held) (h : Held) → last_from from (held ++ h ∷ []) ≡ h.from
last-added from [] h = refl
last-added from (g ∷ held) h = last-added g.from held h

-- a line that may hold keeps what the lines before it have
kept-added : (c : Clocks) (from : ℕ) (l : Line) → AreKept c → may_hold c from l ≡ true → AreKept (added c from l)
kept-added c from l kept may =
    let like = first_of_both (is_like c.first l) (is_later c from l && are_small c from l) may in
    let later = first_of_both (is_later c from l) (are_small c from l) (second_of_both (is_like c.first l) (is_later c from l && are_small c from l) may) in
    let same : (l.freq == c.first.freq) ≡ true = first_of_both (l.freq == c.first.freq) (l.at % 1_000_000 == 0) like in
    let whole : (l.at % 1_000_000 == 0) ≡ true = second_of_both (l.freq == c.first.freq) (l.at % 1_000_000 == 0) like in
    let above : nat_lt (last_from 0 c.held) from ≡ true = first_of_both (nat_lt (last_from 0 c.held) from) (nat_le l.at from && nat_le c.first.at from) later in
    let both = second_of_both (nat_lt (last_from 0 c.held) from) (nat_le l.at from && nat_le c.first.at from) later in
    let own : nat_le l.at from ≡ true = first_of_both (nat_le l.at from) (nat_le c.first.at from) both in
    let first : nat_le c.first.at from ≡ true = second_of_both (nat_le l.at from) (nat_le c.first.at from) both in
    let after : last_from 0 c.held < from = grind (arith, nat_tests) in
    let h : Held = record { from = from; line = l; most = lines_tick c from; start = tick l from; plan = tick c.first from } in
    record {
      valid = kept.valid;
      held = are-added c.first c.first 0 0 c.held h kept.held (omega (arith, after)) (λ i inside. (let e = last_from-each c.first c.first 0 0 c.held kept.held i inside in omega (arith, e, after))) refl refl refl (record {
        same_freq = grind (arith, nat_tests);
        whole_freq = kept.valid.freq_whole;
        whole_turn = grind (arith, nat_tests);
        whole_start = kept.valid.whole_turn;
        before = grind (arith, nat_tests);
        first_before = grind (arith, nat_tests);
      });
    }

told-added : (m : Machine) (b : ℕ) (c : Clocks) (from : ℕ) (l : Line) → AreClocksOfBoard m c b → from < 2 ^ 64 → AreClocksOfBoard m (added_where c from l) b
told-added m b c from l told early = by (may_hold c from l) refl where
  by : (may : Bool) → may_hold c from l ≡ may → AreClocksOfBoard m (if may then added c from l else c) b
  by true e =
      let last = last-added c.first.at c.held (record { from = from; line = l; most = lines_tick c from; start = tick l from; plan = tick c.first from }) in
      record { kept = kept-added c from l told.kept e; soon = omega (arith, last, early); freq = told.freq }
  by false e = told

pub further-told : (m : Machine) (b : ℕ) (further : List Further) (c : Clocks) → AreClocksOfBoard m c b → All (λ f. f.from < 2 ^ 64) further → AreClocksOfBoard m (with_further m b further c) b
further-told m b [] c told early = told
further-told m b (f ∷ further) c told early =
    let P : Further → Type 0 = λ g. g.from < 2 ^ 64 in
    further-told m b further _ (by (f.board == b)) (All-tail P f further early) where
      by : (own : Bool) → AreClocksOfBoard m (if own then added_where c f.from (told_line m b f.turn f.tick) else c) b
      by true = told-added m b c f.from (told_line m b f.turn f.tick) told (All-head (λ (g : Further). g.from < 2 ^ 64) f further early)
      by false = told

-- where a board's one line has room, its own ticks are few enough
few-alone : (c : Clocks) (moves turn : ℕ) → c.held ≡ [] → AreKept c → c.first.at ≤ turn * turn_ns → tick c.first ((turn + moves * turns_of_move) * turn_ns) < 12_999_999_995_705_032_704
    → lines_tick c (turn * turn_ns + moves * move_ns + turn_ns) ≤ 12_999_999_999_999_999_998 - 4 * (moves * steps_of_move)
few-alone c zero turn alone kept before room =
    let e = alone-tick c (turn * turn_ns + 0 * move_ns + turn_ns) alone in
    let few = (tick-next c.first (turn * turn_ns + 0 * move_ns) kept.valid (omega (arith, before))).1 in
    let up = tick-mono c.first (turn * turn_ns + 0 * move_ns) ((turn + 0 * turns_of_move) * turn_ns) (omega arith) in
    omega (arith, e, few, up, room)
few-alone c (suc n) turn alone kept before room =
    let moves = suc n in
    let e = alone-tick c (turn * turn_ns + moves * move_ns + turn_ns) alone in
    let few = (tick-next c.first (turn * turn_ns + moves * move_ns) kept.valid (omega (arith, before))).1 in
    let more = room-for c.first turn moves kept.valid before (omega arith) in
    omega (arith, e, few, more, room)

pub own-room : (c : Clocks) (held : List Held) (moves turn : ℕ) → c.held ≡ held → AreKept c → has_room c.first moves turn ≡ true → are_few c moves turn ≡ has_own_room c held moves turn
own-room c [] moves turn alone kept room =
    let a : nat_le c.first.at (turn * turn_ns) ≡ true = first_of_both (nat_le c.first.at (turn * turn_ns)) (nat_lt (tick c.first ((turn + moves * turns_of_move) * turn_ns)) 12_999_999_995_705_032_704) room in
    let b : nat_lt (tick c.first ((turn + moves * turns_of_move) * turn_ns)) 12_999_999_995_705_032_704 ≡ true = second_of_both (nat_le c.first.at (turn * turn_ns)) (nat_lt (tick c.first ((turn + moves * turns_of_move) * turn_ns)) 12_999_999_995_705_032_704) room in
    let before : c.first.at ≤ turn * turn_ns = grind (arith, nat_tests) in
    let below : tick c.first ((turn + moves * turns_of_move) * turn_ns) < 12_999_999_995_705_032_704 = grind (arith, nat_tests) in
    let few = few-alone c moves turn alone kept before below in
    let over : nat_lt (12_999_999_999_999_999_998 - 4 * (moves * steps_of_move)) (lines_tick c (turn * turn_ns + moves * move_ns + turn_ns)) ≡ false = grind (arith, nat_tests) in
    ap not over
own-room c (h ∷ held) moves turn more kept room = refl

-- A line whose first word isn't `line` says no further clock line.
abbrev IsNone : Said → Type 0
IsNone said = further_of said ≡ None

either : (b : Bool) (x y : Said) → IsNone x → IsNone y → IsNone (if b then x else y)
either true x y h k = h
either false x y h k = k

machine-if : (b : Bool) → IsNone (machine_if b)
machine-if true = refl
machine-if false = refl

note-if : (b : Bool) → IsNone (note_if b)
note-if true = refl
note-if false = refl

machine-with : (m : Machine) (kind : Option Bool) (boards : ℕ) (steppers : Option (ℕ × List Text)) → IsNone (machine_with m kind boards steppers)
machine-with m None boards steppers = refl
machine-with m (Some corexy) boards None = refl
machine-with m (Some corexy) boards (Some s) =
    let here = same corexy m.corexy && (boards == length m.boards) && (s.0 == length m.steppers) in
    either (is_none_left s.1) (machine_if here) (Err BadLine) (machine-if here) refl

machine-boards : (m : Machine) (kind : Text) (boards : Option (ℕ × List Text)) → IsNone (machine_boards m kind boards)
machine-boards m kind None = refl
machine-boards m kind (Some b) = machine-with m (is_corexy kind) b.0 (labelled (codes "steppers") b.1)

machine-none : (m : Machine) (words : List Text) → IsNone (machine_line m words)
machine-none m [] = refl
machine-none m (kind ∷ words) = machine-boards m kind (labelled (codes "boards") words)

board-told : (m : Machine) (freq turn tick : ℕ) (b : Option ℕ) → IsNone (board_told m freq turn tick b)
board-told m freq turn tick None = refl
board-told m freq turn tick (Some b) = either ((board_at m b).freq == freq) (Ok (line.Board b turn tick)) (Err Unknown) refl refl

board-tick : (m : Machine) (name : Text) (freq turn : ℕ) (t : Option (ℕ × List Text)) → IsNone (board_tick m name freq turn t)
board-tick m name freq turn None = refl
board-tick m name freq turn (Some t) =
    let b = board_from 0 name m.boards in
    either (is_none_left t.1 && is_turn turn) (board_told m freq turn t.0 b) (Err BadLine) (board-told m freq turn t.0 b) refl

board-turn : (m : Machine) (name : Text) (freq : ℕ) (t : Option (ℕ × List Text)) → IsNone (board_turn m name freq t)
board-turn m name freq None = refl
board-turn m name freq (Some t) = board-tick m name freq t.0 (labelled (codes "tick") t.1)

board-freq : (m : Machine) (name : Text) (f : Option (ℕ × List Text)) → IsNone (board_freq m name f)
board-freq m name None = refl
board-freq m name (Some f) = board-turn m name f.0 (labelled (codes "turn") f.1)

board-none : (m : Machine) (words : List Text) → IsNone (board_line m words)
board-none m [] = refl
board-none m (name ∷ words) = board-freq m name (labelled (codes "freq") words)

section-with : (i turn : ℕ) (kind : Option SectionKind) → IsNone (section_with i turn kind)
section-with i turn None = refl
section-with i turn (Some kind) = either (is_turn turn) (Ok (line.Section i turn kind)) (Err BadLine) refl refl

section-turn : (i : Option ℕ) (t : Option (ℕ × List Text)) → IsNone (section_turn i t)
section-turn None t = refl
section-turn (Some i) None = refl
section-turn (Some i) (Some t) = section-with i t.0 (kind_said t.1)

section-none : (words : List Text) → IsNone (section_line words)
section-none [] = refl
section-none (i ∷ words) = section-turn (number i) (labelled (codes "turn") words)

pulse-told : (m : Machine) (tick : ℕ) (up : Bool) (b s : Option ℕ) → IsNone (pulse_told m tick up b s)
pulse-told m tick up None s = refl
pulse-told m tick up (Some b) None = refl
pulse-told m tick up (Some b) (Some s) = either ((stepper_at m s).board == b) (Ok (line.Pulse s tick up)) (Err Unknown) refl refl

pulse-with : (m : Machine) (board stepper : Text) (tick : Option ℕ) (up : Option Bool) → IsNone (pulse_with m board stepper tick up)
pulse-with m board stepper None up = refl
pulse-with m board stepper (Some tick) None = refl
pulse-with m board stepper (Some tick) (Some up) = pulse-told m tick up (board_from 0 board m.boards) (stepper_from 0 stepper m.steppers)

pulse-none : (m : Machine) (words : List Text) → IsNone (pulse_line m words)
pulse-none m [] = refl
pulse-none m (board ∷ []) = refl
pulse-none m (board ∷ stepper ∷ []) = refl
pulse-none m (board ∷ stepper ∷ tick ∷ []) = refl
pulse-none m (board ∷ stepper ∷ tick ∷ sign ∷ words) = either (is_none_left words) (pulse_with m board stepper (number tick) (is_up sign)) (Err BadLine) (pulse-with m board stepper (number tick) (is_up sign)) refl

known-none : (b : Option ℕ) (l : LogLine) → IsNone (Ok l) → IsNone (board_said b l)
known-none None l h = refl
known-none (Some b) l h = h

cut-with : (m : Machine) (board : Text) (i tick from : Option ℕ) → IsNone (cut_with m board i tick from)
cut-with m board None tick from = refl
cut-with m board (Some i) None from = refl
cut-with m board (Some i) (Some tick) None = refl
cut-with m board (Some i) (Some tick) (Some from) = known-none (board_from 0 board m.boards) (line.Cut i) refl

cut-none : (m : Machine) (words : List Text) → IsNone (cut_line m words)
cut-none m [] = refl
cut-none m (i ∷ []) = refl
cut-none m (i ∷ board ∷ []) = refl
cut-none m (i ∷ board ∷ pin ∷ []) = refl
cut-none m (i ∷ board ∷ pin ∷ tick ∷ []) = refl
cut-none m (i ∷ board ∷ pin ∷ tick ∷ from ∷ words) = either (is_none_left words) (cut_with m board (number i) (number tick) (number from)) (Err BadLine) (cut-with m board (number i) (number tick) (number from)) refl

counts-passed : (t : Option (ℕ × List Text)) → IsNone (counts_passed t)
counts-passed None = refl
counts-passed (Some t) = note-if (is_none_left t.1)

counts-with : (accepted : Option ℕ) (passed : Option (ℕ × List Text)) → IsNone (counts_with accepted passed)
counts-with None passed = refl
counts-with (Some accepted) passed = counts-passed passed

counts-none : (words : List Text) → IsNone (counts_line words)
counts-none [] = refl
counts-none (accepted ∷ words) = counts-with (number accepted) (labelled (codes "passed") words)

end-with : (status : Option ℕ) → IsNone (end_with status)
end-with None = refl
end-with (Some status) = refl

end-none : (words : List Text) → IsNone (end_line words)
end-none [] = refl
end-none (status ∷ words) = end-with (number status)

pub other-words : (m : Machine) (word : Text) (words : List Text) → bytes_eq word (codes "line") ≡ false → further_of (line_said m (word ∷ words)) ≡ None
other-words m word words other =
    let eight : Said = if bytes_eq word (codes "end") then end_line words else Err BadLine in
    let seven : Said = if bytes_eq word (codes "lines") then counts_line words else eight in
    let six : Said = if bytes_eq word (codes "line") then drift_line m words else seven in
    let five : Said = if bytes_eq word (codes "machine") then machine_line m words else six in
    let four : Said = if bytes_eq word (codes "board") then board_line m words else five in
    let three : Said = if bytes_eq word (codes "cut") then cut_line m words else four in
    let two : Said = if bytes_eq word (codes "section") then section_line words else three in
    let h8 : IsNone eight = either (bytes_eq word (codes "end")) (end_line words) (Err BadLine) (end-none words) refl in
    let h7 : IsNone seven = either (bytes_eq word (codes "lines")) (counts_line words) eight (counts-none words) h8 in
    let h6 : IsNone six = last (bytes_eq word (codes "line")) (drift_line m words) seven other h7 in
    let h5 : IsNone five = either (bytes_eq word (codes "machine")) (machine_line m words) six (machine-none m words) h6 in
    let h4 : IsNone four = either (bytes_eq word (codes "board")) (board_line m words) five (board-none m words) h5 in
    let h3 : IsNone three = either (bytes_eq word (codes "cut")) (cut_line m words) four (cut-none m words) h4 in
    let h2 : IsNone two = either (bytes_eq word (codes "section")) (section_line words) three (section-none words) h3 in
    either (bytes_eq word (codes "pulse")) (pulse_line m words) two (pulse-none m words) h2 where
      last : (b : Bool) (x y : Said) → b ≡ false → IsNone y → IsNone (if b then x else y)
      last true x y e h = cc
      last false x y e h = h

-- the further clock lines of some lines
abbrev pub furthers : Machine → List Text → List Further
furthers m [] = []
furthers m (l ∷ lines) = with_one (further_of (line_said m (line_words 35 l))) (furthers m lines)

-- numbers, and lines without words, are of no account
pub said-furthers : (m : Machine) (n : ℕ) (lines : List Text) → further_said m (worded_lines 35 n lines) ≡ furthers m lines
said-furthers m n [] = refl
said-furthers m n (l ∷ lines) = by (line_words 35 l) (said-furthers m (n + 1) lines) where
  by : (words : List Text) → further_said m (worded_lines 35 (n + 1) lines) ≡ furthers m lines → further_said m (if is_none_left words then worded_lines 35 (n + 1) lines else (n, words) ∷ worded_lines 35 (n + 1) lines) ≡ with_one (further_of (line_said m words)) (furthers m lines)
  by [] e = e
  by (word ∷ words) e = ap (with_one (further_of (line_said m (word ∷ words)))) e

-- the line of a pulse says none
first-kept : (b : ℕ) (bs : Text) → (b == 13) ≡ false → (rest : Text) × (without_return (b ∷ bs) ≡ b ∷ rest)
first-kept b [] e = ([], rw e refl)
first-kept b (c ∷ cs) e = (without_return (c ∷ cs), refl)

pub pulse-says-none : (m : Machine) (line : Text) → begins (λ b. b == 112) line ≡ true → further_of (line_said m (line_words 35 line)) ≡ None
pulse-says-none m [] e = cc
pulse-says-none m (b ∷ bs) e =
    let is : b ≡ 112 = grind (arith, nat_tests) in
    let rest = first-kept 112 bs refl in
    ap (λ (c : ℕ). further_of (line_said m (line_words 35 (c ∷ bs)))) is
    ∙ (ap (λ (t : Text). further_of (line_said m (words_of (before 35 t)))) rest.1
    ∙ by (begins is_inside (before 35 rest.0)) (words_of (before 35 rest.0))) where
      by : (inside : Bool) (words : List Text) → further_of (line_said m (if inside then with_first 112 words else (112 ∷ []) ∷ words)) ≡ None
      by true [] = other-words m (112 ∷ []) [] refl
      by true (w ∷ ws) = other-words m (112 ∷ w) ws refl
      by false words = other-words m (112 ∷ []) words refl

-- one line more of which the further clock lines were found
pub found-more : (m : Machine) (line : Text) (all left : List Text) (found new wanted : List Further) → found ++ furthers m all ≡ wanted → all ≡ line ∷ left → new ≡ found ++ with_one (further_of (line_said m (line_words 35 line))) [] → new ++ furthers m left ≡ wanted
found-more m line all left found new wanted sofar is added =
    ap (λ (x : List Further). x ++ furthers m left) added
    ∙ append_assoc found (with_one (further_of (line_said m (line_words 35 line))) []) (furthers m left)
    ∙ ap (λ (x : List Further). found ++ x) (onto (further_of (line_said m (line_words 35 line))) (furthers m left))
    ∙ ap (λ x. found ++ furthers m x) (sym is)
    ∙ sofar where
      onto : (f : Option Further) (rest : List Further) → with_one f [] ++ rest ≡ with_one f rest
      onto None rest = refl
      onto (Some f) rest = refl

pub found-all : (m : Machine) (rest : Text) (found wanted : List Further) → found ++ furthers m (lines_of rest) ≡ wanted → (length rest == 0) ≡ true → found ≡ wanted
found-all m [] found wanted whole over = sym (append-nil found) ∙ whole
found-all m (b ∷ bs) found wanted whole over =
    let same : (length (b ∷ bs) == 0) ≡ true = over in
    let none : length (b ∷ bs) ≡ 0 = grind (arith, nat_tests) in
    absurd (omega (arith, none))
