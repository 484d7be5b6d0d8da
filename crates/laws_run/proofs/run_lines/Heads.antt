-- Which sections have their line in a report.
use Rattle.std.proofs.Common.{◌≡◌, ◌≢◌, ℕ, zero, suc, ◌+◌, ◌<◌, ◌≤◌, ◌⊎◌, Bool, true, false, List, [], ◌∷◌, ◌++◌, All, length, map, take, refl, ap, sym, ◌∙◌, subst, arith, inl, inr, append_assoc, append-nil}
use Rattle.std.specs.Prelude.{◌==◌, if◌then◌else◌, nat_lt}
use Rattle.laws_board.proofs.Names.{eqb_tells, leb_tells, flat_map-append, All-cons, All-head, All-nil, All-tail, Cause, Machine, Section, SectionKind, Moves, Home, Clocks, ReportLine, machine_line, AreStarted, Started, ReactorTurn, gather}
use Rattle.gcode_program.specs.Programs.{program_sections}
use Rattle.plan_types.specs.Sections.{section_end}
use Rattle.report_text.specs.declared.line.ReportLine.TheVariants as report
use Rattle.motion_work.specs.Seen.{IsPlanned}
use Rattle.motion_work.proofs.Turning.{planned_late}
use Rattle.laws_board.specs.plans.Lines.{TellTurns, TellsTurn, head_in, heads_of, pulses_of, starts_at}
use Rattle.laws_board.specs.plans.Planned.{PlannerInput}
use Rattle.laws_board.proofs.plans.Beginning.{Spread, spread_of}
use Rattle.laws_run.specs.run_ends.Boards.{boards_of, lines_at}
use Rattle.laws_run.proofs.run_ends.Connecting.{boards_append}
use Rattle.laws_run.specs.run_headline.Timely.{AreOfMoves, TellBoards}
use Rattle.laws_run.proofs.run_headline.Showing.{none_at}
use Rattle.laws_run.specs.home_headline.Follow.{HaveBegunLines}
use Rattle.laws_run.specs.run_lines.Due.{AreFirst, BoardsHave, HaveTheirLines, StandApart, begun_lines, due_lines}
use Rattle.laws_run.proofs.run_lines.Further.{left_none}
use Rattle.laws_run.proofs.run_limits.Early.{machine_none}
use Rattle.laws_board.proofs.plans.Telling.{heads_append}

-- the lines of the sections that start before a turn
abbrev lines_by : ℕ → ℕ → List Started → List ReportLine
lines_by n i [] = []
lines_by n i (s ∷ ss) = if nat_lt s.start n then report.Section i s.start s.section.kind ∷ lines_by n (i + 1) ss else []

none_by : (n i x : ℕ) (ss : List Started) → Spread x ss → n ≤ x → lines_by n i ss ≡ []
none_by n i x [] s h = refl
none_by n i x (t ∷ ss) s h = elim (leb_tells (suc t.start) n) [ inl p ↦ absurd (omega (arith, p.1, s.0, h)) | inr p ↦ rw p.0 refl ]

-- a turn more
one_more : (k i x : ℕ) (ss : List Started) → Spread x ss → lines_by (k + 1) i ss ≡ lines_by k i ss ++ starts_at k i ss
one_more k i x [] s = refl
one_more k i x (t ∷ ss) s =
    let line : ℕ → ReportLine = λ n. report.Section i n t.section.kind in
    let Now : Bool → List ReportLine = λ b. if b then report.Section i t.start t.section.kind ∷ lines_by (k + 1) (i + 1) ss else [] in
    let Old : Bool → List ReportLine = λ b. if b then report.Section i t.start t.section.kind ∷ lines_by k (i + 1) ss else [] in
    let At : Bool → List ReportLine = λ b. (if b then report.Section i k t.section.kind ∷ [] else []) ++ starts_at k (i + 1) ss in
    elim (leb_tells (suc t.start) k) [
      | inl p ↦ elim (eqb_tells t.start k) [
        | inl q ↦ absurd (omega (arith, p.1, q.1))
        | inr q ↦ elim (leb_tells (suc t.start) (k + 1)) [
          | inl r ↦
              let rest = one_more k (i + 1) (t.start + 260) ss s.1 in
              ap Now r.0 ∙ ap (λ z. line t.start ∷ z) rest ∙ ap (λ z. z ++ starts_at k (i + 1) ss) (sym (ap Old p.0)) ∙ ap (λ z. lines_by k i (t ∷ ss) ++ z) (sym (ap At q.0))
          | inr r ↦ absurd (omega (arith, p.1, r.1))
        ]
      ]
      | inr p ↦ elim (eqb_tells t.start k) [
        | inl q ↦ elim (leb_tells (suc t.start) (k + 1)) [
          | inl r ↦
              let none = none_by (k + 1) (i + 1) (t.start + 260) ss s.1 (omega (arith, q.1)) in
              let after = none_at k (i + 1) (t.start + 260) ss s.1 (omega (arith, q.1)) in
              ap Now r.0 ∙ ap (λ z. line t.start ∷ z) none ∙ ap (λ n. line n ∷ []) q.1 ∙ ap (λ z. line k ∷ z) (sym after) ∙ sym (ap At q.0) ∙ ap (λ z. z ++ starts_at k i (t ∷ ss)) (sym (ap Old p.0))
          | inr r ↦ absurd (omega (arith, q.1, r.1))
        ]
        | inr q ↦ elim (leb_tells (suc t.start) (k + 1)) [
          | inl r ↦ absurd (q.1 (omega (arith, p.1, r.1)))
          | inr r ↦
              let after = none_at k (i + 1) (t.start + 260) ss s.1 (omega (arith, r.1)) in
              ap Now r.0 ∙ sym (ap At q.0 ∙ after) ∙ ap (λ z. z ++ starts_at k i (t ∷ ss)) (sym (ap Old p.0))
        ]
      ]
    ]

starts_heads : (k i : ℕ) (ss : List Started) → heads_of (starts_at k i ss) ≡ starts_at k i ss
starts_heads k i [] = refl
starts_heads k i (s ∷ ss) = by (s.start == k) (starts_heads k (i + 1) ss)
  where
    by : (b : Bool) → heads_of (starts_at k (i + 1) ss) ≡ starts_at k (i + 1) ss
        → heads_of ((if b then report.Section i k s.section.kind ∷ [] else []) ++ starts_at k (i + 1) ss) ≡ (if b then report.Section i k s.section.kind ∷ [] else []) ++ starts_at k (i + 1) ss
    by true e = ap (λ z. report.Section i k s.section.kind ∷ z) e
    by false e = e

turn_heads : (m : Machine) (ss : List Started) (k : ℕ) (t : ReactorTurn) → TellsTurn m ss k t → heads_of t.lines ≡ starts_at k 0 ss
turn_heads m ss k t h =
    ap heads_of h.are ∙ heads_append (machine_line m k) (starts_at k 0 ss ++ h.rest) ∙ ap (λ z. z ++ heads_of (starts_at k 0 ss ++ h.rest)) (machine_none m k) ∙ heads_append (starts_at k 0 ss) h.rest
    ∙ ap (λ z. z ++ heads_of h.rest) (starts_heads k 0 ss) ∙ ap (λ z. starts_at k 0 ss ++ z) h.heads ∙ append-nil (starts_at k 0 ss)

-- and of some
turns_heads : (m : Machine) (ss : List Started) (k : ℕ) (ts : List ReactorTurn) → Spread 260 ss → TellTurns m ss k ts → lines_by k 0 ss ++ heads_of (gather (λ t. t.lines) ts) ≡ lines_by (k + length ts) 0 ss
turns_heads m ss k [] spread h =
    let e : k ≡ k + 0 = omega arith in
    append-nil (lines_by k 0 ss) ∙ ap (λ n. lines_by n 0 ss) e
turns_heads m ss k (t ∷ ts) spread h =
    let lines = gather (λ (x : ReactorTurn). x.lines) ts in
    let e : k + 1 + length ts ≡ k + length (t ∷ ts) = omega arith in
    ap (λ z. lines_by k 0 ss ++ z) (heads_append t.lines lines ∙ ap (λ z. z ++ heads_of lines) (turn_heads m ss k t h.0)) ∙ sym (append_assoc (lines_by k 0 ss) (starts_at k 0 ss) (heads_of lines))
    ∙ ap (λ z. z ++ heads_of lines) (sym (one_more k 0 260 ss spread)) ∙ turns_heads m ss (k + 1) ts spread h.1 ∙ ap (λ n. lines_by n 0 ss) e

pub all_heads : (m : Machine) (ss : List Started) (ts : List ReactorTurn) → Spread 260 ss → TellTurns m ss 0 ts → heads_of (gather (λ t. t.lines) ts) ≡ lines_by (length ts) 0 ss
all_heads m ss ts spread h =
    let e : 0 + length ts ≡ length ts = omega arith in
    ap (λ z. z ++ heads_of (gather (λ (t : ReactorTurn). t.lines) ts)) (sym (none_by 0 0 260 ss spread (omega arith))) ∙ turns_heads m ss 0 ts spread h ∙ ap (λ n. lines_by n 0 ss) e

-- they are the first ones
by_first : (n i : ℕ) (ss : List Started) → AreFirst (lines_by n i ss) (begun_lines i ss)
by_first n i [] = ([], refl)
by_first n i (s ∷ ss) = one (nat_lt s.start n) (by_first n (i + 1) ss)
  where
    one : (b : Bool) → AreFirst (lines_by n (i + 1) ss) (begun_lines (i + 1) ss) → AreFirst (if b then report.Section i s.start s.section.kind ∷ lines_by n (i + 1) ss else []) (begun_lines i (s ∷ ss))
    one true r = (r.0, ap (λ z. report.Section i s.start s.section.kind ∷ z) r.1)
    one false r = (begun_lines i (s ∷ ss), refl)

-- all of them where each started
by_all : (n i : ℕ) (ss : List Started) → All (λ s. s.start < n) ss → lines_by n i ss ≡ begun_lines i ss
by_all n i [] a = refl
by_all n i (s ∷ ss) a =
    let now = All-head (λ (x : Started). x.start < n) s ss a in
    elim (leb_tells (suc s.start) n) [
      | inl p ↦ ap (λ b. if b then report.Section i s.start s.section.kind ∷ lines_by n (i + 1) ss else []) p.0 ∙ ap (λ z. report.Section i s.start s.section.kind ∷ z) (by_all n (i + 1) ss (All-tail (λ (x : Started). x.start < n) s ss a))
      | inr p ↦ absurd (omega (arith, now, p.1))
    ]

-- the lines of the sections that were begun are the first ones of the text's
moved_end : (kind : SectionKind) (m : Machine) (clocks : List Clocks) (s : Started) → kind ≡ Moves → IsPlanned kind m clocks s → s.end ≡ section_end m clocks s.section.moves s.start
moved_end Moves m clocks s e p = p.end
moved_end (Home axis) m clocks s e p = absurd (let f : Home axis ≡ Moves = e in cc)

are_due : (m : Machine) (clocks : List Clocks) (ready i : ℕ) (begun : List Started) (sections : List Section) → AreStarted m clocks ready begun → AreOfMoves sections → map (λ s. s.section) begun ≡ take (length begun) sections
    → AreFirst (begun_lines i begun) (due_lines m clocks ready i sections)
are_due m clocks ready i [] sections a moves e = (due_lines m clocks ready i sections, refl)
are_due m clocks ready i (s ∷ begun) [] a moves e = absurd (let f : s.section ∷ map (λ (x : Started). x.section) begun ≡ [] = e in cc)
are_due m clocks ready i (s ∷ begun) (x ∷ sections) a moves e =
    let first : s.section ≡ x = cc in
    let behind_it : map (λ (y : Started). y.section) begun ≡ take (length begun) sections = cc in
    let kind = ap (λ (y : Section). y.kind) first ∙ All-head (λ (y : Section). y.kind ≡ Moves) x sections moves in
    let end = moved_end s.section.kind m clocks s kind a.0.planned in
    let rest = are_due m clocks (s.end + 260) (i + 1) begun sections a.1 (All-tail (λ (y : Section). y.kind ≡ Moves) x sections moves) behind_it in
    let Rest : ℕ → Type 0 = λ n. AreFirst (begun_lines (i + 1) begun) (due_lines m clocks n (i + 1) sections) in
    let start : s.start ≡ ready + x.dwell = a.0.start ∙ ap (λ (y : Section). ready + y.dwell) first in
    let next : s.end + 260 ≡ section_end m clocks x.moves (ready + x.dwell) + 260 =
    ap (λ n. n + 260) (end ∙ ap (λ (y : Section). section_end m clocks y.moves s.start) first ∙ ap (section_end m clocks x.moves) start) in
    let behind = subst Rest next rest in
    let head : report.Section i s.start s.section.kind ≡ report.Section i (ready + x.dwell) x.kind = ap (λ n. report.Section i n s.section.kind) start ∙ ap (λ (y : Section). report.Section i (ready + x.dwell) y.kind) first in
    (behind.0, ap (λ z. report.Section i (ready + x.dwell) x.kind ∷ z) behind.1 ∙ ap (λ z. z ∷ (begun_lines (i + 1) begun ++ behind.0)) (sym head))

first_first : (xs ys zs : List ReportLine) → AreFirst xs ys → AreFirst ys zs → AreFirst xs zs
first_first xs ys zs a b = (a.0 ++ b.0, b.1 ∙ ap (λ y. y ++ b.0) a.1 ∙ append_assoc xs a.0 b.0)

-- of sections that all were begun
all_due : (m : Machine) (clocks : List Clocks) (ready i : ℕ) (begun : List Started) → AreStarted m clocks ready begun → AreOfMoves (map (λ s. s.section) begun) → begun_lines i begun ≡ due_lines m clocks ready i (map (λ s. s.section) begun)
all_due m clocks ready i [] a moves = refl
all_due m clocks ready i (s ∷ begun) a moves =
    let kind = All-head (λ (y : Section). y.kind ≡ Moves) s.section (map (λ (x : Started). x.section) begun) moves in
    let end = moved_end s.section.kind m clocks s kind a.0.planned in
    let rest = all_due m clocks (s.end + 260) (i + 1) begun a.1 (All-tail (λ (y : Section). y.kind ≡ Moves) s.section (map (λ (x : Started). x.section) begun) moves) in
    let next : s.end + 260 ≡ section_end m clocks s.section.moves (ready + s.section.dwell) + 260 = ap (λ n. n + 260) (end ∙ ap (section_end m clocks s.section.moves) a.0.start) in
    ap (λ n. report.Section i n s.section.kind ∷ begun_lines (i + 1) begun) a.0.start
    ∙ ap (λ z. report.Section i (ready + s.section.dwell) s.section.kind ∷ z) (rest ∙ ap (λ n. due_lines m clocks n (i + 1) (map (λ (x : Started). x.section) begun)) next)

starts_early : (n ready : ℕ) (m : Machine) (clocks : List Clocks) (ss : List Started) → AreStarted m clocks ready ss → All (λ s. s.end + 5 ≤ n) ss → All (λ s. s.start < n + 1) ss
starts_early n ready m clocks [] a o = All-nil (λ (s : Started). s.start < n + 1)
starts_early n ready m clocks (s ∷ ss) a o =
    let here = All-head (λ (y : Started). y.end + 5 ≤ n) s ss o in
    let order = planned_late s.section.kind m clocks s a.0.planned in
    All-cons (λ (y : Started). y.start < n + 1) s ss (omega (arith, here, order)) (starts_early n (s.end + 260) m clocks ss a.1 (All-tail (λ (y : Started). y.end + 5 ≤ n) s ss o))

-- the lines of a whole run of moves
pub due_heads : (m : Machine) (text : List ℕ) (clocks : List Clocks) (ready : ℕ) (c : Cause) (lines : List ReportLine) → HaveBegunLines m text clocks ready c lines → AreOfMoves (program_sections m text) → HaveTheirLines m text clocks ready c lines
due_heads m text clocks ready c lines h moves =
    let Of : List Section → Type 0 = λ z. AreOfMoves z in
    record {
      front = first_first (heads_of lines) (begun_lines 0 h.begun) (due_lines m clocks ready 0 (program_sections m text)) h.front (are_due m clocks ready 0 h.begun (program_sections m text) h.started moves h.of_text);
      all = λ g. let is = (h.all g).0 in (h.all g).1 ∙ all_due m clocks ready 0 h.begun h.started (subst Of (sym is) moves) ∙ ap (due_lines m clocks ready 0) is;
    }

-- What a run shows of the lines of boards and sections.
pub record ShowStarts (m : Machine) (seen : PlannerInput) (clocks : List Clocks) (ready : ℕ) (first : ReactorTurn) (rest : List ReactorTurn) : Type 0 where
  pub late : 260 ≤ ready
  pub started : AreStarted m clocks ready seen.begun
  pub boards : seen.begun ≢ [] → TellBoards clocks ready (first ∷ rest)
  pub lines : TellTurns m seen.begun 0 (first ∷ rest)
  pub early : (s : Started) (later : List Started) (past behind : List ReactorTurn) (place : ℕ) → seen.begun ≡ s ∷ later → first ∷ rest ≡ past ++ behind → length past ≤ s.start → place < length m.steppers → pulses_of place (gather (λ t. t.lines) past) ≡ []

-- the lines of the first sections that were begun
pub heads_first : (m : Machine) (clocks : List Clocks) (ready : ℕ) (begun : List Started) (turns : List ReactorTurn) → 260 ≤ ready → AreStarted m clocks ready begun → TellTurns m begun 0 turns → AreFirst (heads_of (gather (λ t. t.lines) turns)) (begun_lines 0 begun)
heads_first m clocks ready begun turns late started lines =
    let Of : List ReportLine → Type 0 = λ z. AreFirst z (begun_lines 0 begun) in
    subst Of (sym (all_heads m begun turns (spread_of m clocks ready 260 begun started late) lines)) (by_first (length turns) 0 begun)

pub first_heads : (m : Machine) (seen : PlannerInput) (clocks : List Clocks) (ready : ℕ) (first : ReactorTurn) (rest : List ReactorTurn) → ShowStarts m seen clocks ready first rest → AreFirst (heads_of (gather (λ t. t.lines) (first ∷ rest))) (begun_lines 0 seen.begun)
first_heads m seen clocks ready first rest h = heads_first m clocks ready seen.begun (first ∷ rest) h.late h.started h.lines

-- all of them where each ended
pub heads_whole : (m : Machine) (clocks : List Clocks) (ready : ℕ) (begun : List Started) (first : ReactorTurn) (rest : List ReactorTurn) → 260 ≤ ready → AreStarted m clocks ready begun → TellTurns m begun 0 (first ∷ rest)
    → All (λ s. s.end + 5 ≤ length rest) begun → heads_of (gather (λ t. t.lines) (first ∷ rest)) ≡ begun_lines 0 begun
heads_whole m clocks ready begun first rest late started lines over =
    let number : length rest + 1 ≡ length (first ∷ rest) = omega arith in
    let By : ℕ → Type 0 = λ n. All (λ s. s.start < n) begun in
    all_heads m begun (first ∷ rest) (spread_of m clocks ready 260 begun started late) lines ∙ by_all (length (first ∷ rest)) 0 begun (subst By number (starts_early (length rest) ready m clocks begun started over))

pub whole_heads : (m : Machine) (seen : PlannerInput) (clocks : List Clocks) (ready : ℕ) (first : ReactorTurn) (rest : List ReactorTurn) → ShowStarts m seen clocks ready first rest → All (λ s. s.end + 5 ≤ length rest) seen.begun
    → heads_of (gather (λ t. t.lines) (first ∷ rest)) ≡ begun_lines 0 seen.begun
whole_heads m seen clocks ready first rest h over = heads_whole m clocks ready seen.begun first rest h.late h.started h.lines over

-- where a section has its line, the boards had theirs
tells_front : (m : Machine) (ss : List Started) (k : ℕ) (xs ys : List ReactorTurn) → TellTurns m ss k (xs ++ ys) → TellTurns m ss k xs
tells_front m ss k [] ys h = tt
tells_front m ss k (x ∷ xs) ys h = (h.0, tells_front m ss (k + 1) xs ys h.1)

split : (xs ys fs bs : List ReportLine) → xs ++ ys ≡ fs ++ bs → ((z : List ReportLine) × (fs ≡ xs ++ z)) ⊎ ((z : List ReportLine) × (xs ≡ fs ++ z) × (bs ≡ z ++ ys))
split [] ys fs bs e = inl (fs, refl)
split (x ∷ xs) ys [] bs e = inr (x ∷ xs, refl, sym e)
split (x ∷ xs) ys (a ∷ fs) bs e =
    let first : x ≡ a = cc in
    let behind_it : xs ++ ys ≡ fs ++ bs = cc in
    elim (split xs ys fs bs behind_it) [
      | inl p ↦ inl (p.0, ap (λ z. z ∷ fs) (sym first) ∙ ap (λ z. x ∷ z) p.1)
      | inr p ↦ inr (p.0, ap (λ z. z ∷ xs) first ∙ ap (λ z. a ∷ z) p.1, p.2)
    ]

pub gather_lines : (xs ys : List ReactorTurn) → gather (λ t. t.lines) (xs ++ ys) ≡ gather (λ t. t.lines) xs ++ gather (λ t. t.lines) ys
gather_lines [] ys = refl
gather_lines (x ∷ xs) ys = ap (λ z. x.lines ++ z) (gather_lines xs ys) ∙ sym (append_assoc x.lines (gather (λ (t : ReactorTurn). t.lines) xs) (gather (λ (t : ReactorTurn). t.lines) ys))

by_ready : (m : Machine) (begun : List Started) (n ready : ℕ) (clocks : List Clocks) → AreStarted m clocks ready begun → n ≤ ready → lines_by n 0 begun ≡ []
by_ready m begun n ready clocks a h = none_by n 0 ready begun (spread_of m clocks ready ready begun a (omega arith)) h

pub some_first : (m : Machine) (clocks : List Clocks) (ready : ℕ) (begun : List Started) (turns : List ReactorTurn) (said more : List ReportLine) → 260 ≤ ready → AreStarted m clocks ready begun → TellTurns m begun 0 turns
    → gather (λ t. t.lines) turns ≡ said ++ more → heads_of said ≢ [] → begun ≢ []
some_first m clocks ready begun turns said more late started lines are some e =
    let heads = all_heads m begun turns (spread_of m clocks ready 260 begun started late) lines in
    some (left_none (heads_of said) (heads_of more) (sym (heads_append said more) ∙ ap heads_of (sym are) ∙ heads ∙ ap (lines_by (length turns) 0) e))

pub boards_first : (m : Machine) (clocks : List Clocks) (ready : ℕ) (begun : List Started) (turns : List ReactorTurn) (said more : List ReportLine) → 260 ≤ ready → AreStarted m clocks ready begun → TellTurns m begun 0 turns
    → (begun ≢ [] → TellBoards clocks ready turns) → gather (λ t. t.lines) turns ≡ said ++ more → heads_of said ≢ [] → BoardsHave clocks ready said
boards_first m clocks ready begun turns said more late started lines boards are some =
    let spread = spread_of m clocks ready 260 begun started late in
    let t = boards (some_first m clocks ready begun turns said more late started lines are some) in
    let Turns : List ReactorTurn → Type 0 = λ z. TellTurns m begun 0 z in
    let past_heads : heads_of (gather (λ (x : ReactorTurn). x.lines) t.past) ≡ [] =
    all_heads m begun t.past spread (tells_front m begun 0 t.past t.later (subst Turns t.are lines)) ∙ by_ready m begun (length t.past) ready clocks started t.early in
    let cut : said ++ more ≡ gather (λ (x : ReactorTurn). x.lines) t.past ++ gather (λ (x : ReactorTurn). x.lines) t.later = sym are ∙ ap (gather (λ (x : ReactorTurn). x.lines)) t.are ∙ gather_lines t.past t.later in
    elim (split said more (gather (λ (x : ReactorTurn). x.lines) t.past) (gather (λ (x : ReactorTurn). x.lines) t.later) cut) [
      | inl p ↦ absurd (some (left_none (heads_of said) (heads_of p.0) (sym (heads_append said p.0) ∙ ap heads_of (sym p.1) ∙ past_heads)))
      | inr p ↦
          let none = left_none (boards_of p.0) (boards_of more) (sym (boards_append p.0 more) ∙ ap boards_of (sym p.2) ∙ t.rest) in
          ap boards_of p.1 ∙ boards_append (gather (λ (x : ReactorTurn). x.lines) t.past) p.0 ∙ ap (λ z. boards_of (gather (λ (x : ReactorTurn). x.lines) t.past) ++ z) none
          ∙ append-nil (boards_of (gather (λ (x : ReactorTurn). x.lines) t.past)) ∙ t.lines
    ]

-- they stand before the line of the first section
machine_later : (m : Machine) (k : ℕ) → 0 < k → machine_line m k ≡ []
machine_later m k h = elim (eqb_tells k 0) [ inl p ↦ absurd (omega (arith, h, p.1)) | inr p ↦ rw p.0 refl ]

-- the turn in which the first section starts
starts_first : (m : Machine) (s : Started) (later : List Started) (t : ReactorTurn) → Spread 260 (s ∷ later) → TellsTurn m (s ∷ later) s.start t → (rest : List ReportLine) × (t.lines ≡ report.Section 0 s.start s.section.kind ∷ rest)
starts_first m s later t spread tells =
    let start = spread.0 in
    let line = report.Section 0 s.start s.section.kind in
    let Now : Bool → List ReportLine = λ b. (if b then report.Section 0 s.start s.section.kind ∷ [] else []) ++ starts_at s.start 1 later in
    let now : starts_at s.start 0 (s ∷ later) ≡ line ∷ starts_at s.start 1 later = elim (eqb_tells s.start s.start) [ inl p ↦ ap Now p.0 | inr p ↦ absurd (p.1 refl) ] in (
      starts_at s.start 1 later ++ tells.rest,
      tells.are ∙ ap (λ z. z ++ (starts_at s.start 0 (s ∷ later) ++ tells.rest)) (machine_later m s.start (omega (arith, start))) ∙ ap (λ z. z ++ tells.rest) now,
    )

-- turns up to one, and that one
record IsTurn (n : ℕ) (ts : List ReactorTurn) : Type 0 where
  past : List ReactorTurn
  turn : ReactorTurn
  behind : List ReactorTurn
  are : ts ≡ past ++ turn ∷ behind
  long : length past ≡ n

turn_at : (n : ℕ) (ts : List ReactorTurn) → n < length ts → IsTurn n ts
turn_at n [] low = absurd (omega (arith, low))
turn_at zero (t ∷ ts) low = record { past = []; turn = t; behind = ts; are = refl; long = refl }
turn_at (suc n) (t ∷ ts) low =
    let r = turn_at n ts (omega (arith, low)) in
    record { past = t ∷ r.past; turn = r.turn; behind = r.behind; are = ap (λ z. t ∷ z) r.are; long = ap suc r.long }

tells_at : (m : Machine) (ss : List Started) (k n : ℕ) (past : List ReactorTurn) (t : ReactorTurn) (behind : List ReactorTurn) → k + length past ≡ n → TellTurns m ss k (past ++ t ∷ behind) → TellsTurn m ss n t
tells_at m ss k n [] t behind e h =
    let same : k ≡ n = omega (arith, e) in
    subst (λ (i : ℕ). TellsTurn m ss i t) same h.0
tells_at m ss k n (x ∷ past) t behind e h = tells_at m ss (k + 1) n past t behind (omega (arith, e)) h.1

-- no lines behind some that are as many with them as without
none_more : (xs ys zs : List ReportLine) → xs ≡ zs → xs ++ ys ≡ zs → ys ≡ []
none_more [] ys [] e f = f
none_more [] ys (z ∷ zs) e f = absurd (let g : [] ≡ z ∷ zs = e in cc)
none_more (x ∷ xs) ys [] e f = absurd (let g : x ∷ xs ≡ [] = e in cc)
none_more (x ∷ xs) ys (z ∷ zs) e f =
    let same : xs ≡ zs = cc in
    let more : xs ++ ys ≡ zs = cc in
    none_more xs ys zs same more

module _ (m : Machine) (seen : PlannerInput) (clocks : List Clocks) (ready : ℕ) (first : ReactorTurn) (rest : List ReactorTurn) (h : ShowStarts m seen clocks ready first rest) (said more : List ReportLine)
    (are : gather (λ t. t.lines) (first ∷ rest) ≡ said ++ more) (some : heads_of said ≢ []) where
  spread : Spread 260 seen.begun
  spread = spread_of m clocks ready 260 seen.begun h.started h.late

  apart : (begun : List Started) → seen.begun ≡ begun → StandApart m clocks ready said
  apart [] e =
      let heads = all_heads m seen.begun (first ∷ rest) spread h.lines in
      absurd (some (left_none (heads_of said) (heads_of more) (sym (heads_append said more) ∙ ap heads_of (sym are) ∙ heads ∙ ap (lines_by (length (first ∷ rest)) 0) e)))
  apart (s ∷ later) e = elim (leb_tells (suc s.start) (length (first ∷ rest))) [
    | inr p ↦
        let heads = all_heads m seen.begun (first ∷ rest) spread h.lines in
        let soon : length (first ∷ rest) ≤ s.start = omega (arith, p.1) in
        let none = none_by (length (first ∷ rest)) 0 s.start (s ∷ later) (omega arith, (subst (Spread 260) e spread).1) soon in
        absurd (some (left_none (heads_of said) (heads_of more) (sym (heads_append said more) ∙ ap heads_of (sym are) ∙ heads ∙ ap (lines_by (length (first ∷ rest)) 0) e ∙ none)))
    | inl p ↦
        let t = turn_at s.start (first ∷ rest) (omega (arith, p.1)) in
        let long = t.long in
        let started = subst (λ (z : List Started). AreStarted m clocks ready z) e h.started in
        let begins = started.0.start in
        let late : ready ≤ s.start = omega (arith, begins) in
        let Turns : List ReactorTurn → Type 0 = λ z. TellTurns m seen.begun 0 z in
        let turns = subst Turns t.are h.lines in
        let own = starts_first m s later t.turn (subst (Spread 260) e spread) (subst (λ (z : List Started). TellsTurn m z s.start t.turn) e (tells_at m seen.begun 0 s.start t.past t.turn t.behind (omega (arith, long)) turns)) in
        let line = report.Section 0 s.start s.section.kind in
        let head = gather (λ (x : ReactorTurn). x.lines) t.past in
        let after = own.0 ++ gather (λ (x : ReactorTurn). x.lines) t.behind in
        let whole : gather (λ (x : ReactorTurn). x.lines) (first ∷ rest) ≡ head ++ line ∷ after =
        ap (gather (λ (x : ReactorTurn). x.lines)) t.are ∙ gather_lines t.past (t.turn ∷ t.behind) ∙ ap (λ z. head ++ (z ++ gather (λ (x : ReactorTurn). x.lines) t.behind)) own.1 in
        let none : heads_of head ≡ [] =
        all_heads m seen.begun t.past spread (tells_front m seen.begun 0 t.past (t.turn ∷ t.behind) turns) ∙ ap (lines_by (length t.past) 0) e ∙ none_by (length t.past) 0 s.start (s ∷ later) (omega arith, (subst (Spread 260) e spread).1) (omega (arith, long)) in
        let one : gather (λ (x : ReactorTurn). x.lines) (first ∷ rest) ≡ (head ++ line ∷ []) ++ after = whole ∙ sym (append_assoc head (line ∷ []) after) in
        let one_some : heads_of (head ++ line ∷ []) ≢ [] = (λ f.
        let g : line ∷ [] ≡ [] = ap (λ z. z ++ line ∷ []) (sym none) ∙ sym (heads_append head (line ∷ [])) ∙ f in cc) in
        let front = boards_first m clocks ready seen.begun (first ∷ rest) (head ++ line ∷ []) after h.late h.started h.lines h.boards one one_some in
        let told : boards_of head ≡ lines_at ready 0 clocks = sym (append-nil (boards_of head)) ∙ sym (boards_append head (line ∷ [])) ∙ front in
        let all = boards_first m clocks ready seen.begun (first ∷ rest) said more h.late h.started h.lines h.boards are some in
        behind s line head after none told all late (λ place low. h.early s later t.past (t.turn ∷ t.behind) place e t.are (omega (arith, long)) low) refl (split said more head (line ∷ after) (sym are ∙ whole))
  ]
    where
      behind : (s : Started) (line : ReportLine) (head after : List ReportLine) → heads_of head ≡ [] → boards_of head ≡ lines_at ready 0 clocks → boards_of said ≡ lines_at ready 0 clocks → ready ≤ s.start
          → ((place : ℕ) → place < length m.steppers → pulses_of place head ≡ []) → line ≡ report.Section 0 s.start s.section.kind
          → ((z : List ReportLine) × (head ≡ said ++ z)) ⊎ ((z : List ReportLine) × (said ≡ head ++ z) × (line ∷ after ≡ z ++ more)) → StandApart m clocks ready said
      behind s line head after none told all late still is (inl p) = absurd (some (left_none (heads_of said) (heads_of p.0) (sym (heads_append said p.0) ∙ ap heads_of (sym p.1) ∙ none)))
      behind s line head after none told all late still is (inr ([], e, f)) = absurd (some (ap heads_of e ∙ heads_append head [] ∙ append-nil (heads_of head) ∙ none))
      behind s line head after none told all late still is (inr (x ∷ body, e, f)) =
          let same : x ≡ line = cc in
          let are_lines : said ≡ head ++ report.Section 0 s.start s.section.kind ∷ body = e ∙ ap (λ z. head ++ z ∷ body) (same ∙ is) in
          let both : boards_of head ++ boards_of body ≡ lines_at ready 0 clocks = sym (boards_append head (report.Section 0 s.start s.section.kind ∷ body)) ∙ ap boards_of (sym are_lines) ∙ all in
          record {
            head = head;
            turn = s.start;
            kind = s.section.kind;
            body = body;
            are = are_lines;
            late = late;
            none = none;
            still = still;
            told = told;
            rest = none_more (boards_of head) (boards_of body) (lines_at ready 0 clocks) told both;
          }

  pub starts_apart : StandApart m clocks ready said
  starts_apart = apart seen.begun refl
