-- A log that checks follows the plan.
use Rattle.std.proofs.Common.{◌≡◌, ◌∙◌, ℕ, zero, suc, ◌+◌, ◌<◌, ◌≤◌, Bool, true, false, List, [], ◌∷◌, ◌++◌, length, get_or, map, ap, sym, refl, subst, arith, Option, Some, None, append-nil, rules}
use Rattle.std.specs.Prelude.{◌==◌, ◌&&◌, ◌||◌, nat_le, nat_lt, slice_index_or, Ok, Err}
use Rattle.laws_board.proofs.Names.{nat_tests, Machine, Planned, Pulse, Section, SectionKind, Moves, Home, Fits}
use Rattle.std.proofs.lemmas.List.FromFn.{get_or-map-range_with_len, length-map-range_with_len}
use Rattle.log_text.specs.declared.line.LogLine.{LogLine}
use Rattle.log_text.specs.declared.line.LogLine.TheVariants as line
use Rattle.log_text.specs.Said.{Said, line_said}
use Rattle.text_core.specs.Bytes.{Text}
use Rattle.log_check.specs.declared.tally.Tally.{Tally}
use Rattle.log_check.specs.declared.further.Further.{Further}
use Rattle.log_check.specs.Behind.{begun, clocks, further_of, further_said, is_cut, pulses, section_start, with_one}
use Rattle.log_check.specs.Faults.{fault_at, have_room, is_short, lacks, may_start, no_tally, ready, same_kind, section_fault}
use Rattle.log_check.specs.Points.{bases_by, plans, point, section_at}
use Rattle.log_check.specs.Pulses.{tally_of, tick_before}
use Rattle.log_check.specs.Verdicts.{Verdict, by_fault, by_line, end_cause, verdict}
use Rattle.log_check.proofs.Pointing.{board-first}
use Rattle.log_check.proofs.Sounding.{fault-open}
use Rattle.laws_report.specs.logs.Follows.{FitsHere, FollowsPlan, IsNextSection, IsWholeHere, all_said, base_at, freq_at, further_among, in_order, ok_line, plan_at}
use Rattle.laws_report.proofs.logs.Fitting.{fits-more, fits-none, length-in_order, pulse-fits}
use Rattle.plan_types.specs.declared.cause.Cause.TheVariants as cause
use Rattle.plan_types.specs.declared.cause.MisfitKind.{MisfitKind}
use Rattle.plan_types.specs.Plan.{IsPulseOf, no_step}
use Rattle.plan_types.specs.Sections.{base_tick, for_each_stepper}
use Rattle.std.proofs.lemmas.Bool.{or_parts}
use Rattle.plan_types.proofs.Facts.{first_of_both, second_of_both}
use Rattle.laws_run.proofs.home_wholes.Counts.{fits_many}

-- each line fits behind the lines before it
abbrev pub Fine : Machine → List Section → List Further → List LogLine → Type 0
Fine m sections further [] = Unit {0}
Fine m sections further (l ∷ before) = (fault_at m sections (point m sections further before) l ≡ None) × Fine m sections further before

-- the lines behind others fit too
pub fine-behind : (m : Machine) (sections : List Section) (further : List Further) (later before : List LogLine) → Fine m sections further (later ++ before) → Fine m sections further before
fine-behind m sections further [] before fine = fine
fine-behind m sections further (l ∷ later) before fine = fine-behind m sections further later before fine.1

pub tally-made : (m : Machine) (sections : List Section) (further : List Further) (before : List LogLine) (s : ℕ) → s < length m.steppers → (slice_index_or (point m sections further before).tallies s no_tally).made ≡ length (pulses s before)
tally-made m sections further before s inside =
    ap (λ (t : Tally). t.made) (get_or-map-range_with_len (λ (t : ℕ). tally_of (slice_index_or (plans m sections further before) t []) (pulses t before)) 0 (length m.steppers) s s no_tally inside (omega arith))

-- before the first section nothing is planned; in a section its base ticks are those of its start
pub base-is : (m : Machine) (sections : List Section) (further : List Further) (before : List LogLine) (s : ℕ) (n : ℕ) → begun before ≡ n → s < length m.steppers → 0 < length (plan_at m sections further before s) → slice_index_or (point m sections further before).bases s 0 ≡ base_at m further before s
base-is m sections further before s n p6 p7 p8 = search (rules, slice_index_or, get_or-map-range_with_len)

-- a pulse of the stepper
pulse-more : (m : Machine) (sections : List Section) (further : List Further) (before : List LogLine) (s tick : ℕ) (up : Bool) → s < length m.steppers → fault_at m sections (point m sections further before) (line.Pulse s tick up) ≡ None → FitsHere m sections further before s
    → (let p : Pulse = record { tick = tick; stepper = s; up = up } in Fits (freq_at m further before s) (base_at m further before s) (in_order (pulses s before) ++ p ∷ []) (plan_at m sections further before s))
pulse-more m sections further before s tick up inside fits here =
    let p = point m sections further before in
    let plan = plan_at m sections further before s in
    let made = (slice_index_or p.tallies s no_tally).made in
    let shown = pulse-fits (freq_at m further before s) (slice_index_or p.bases s 0) plan made s tick up (fault-open m sections p (line.Pulse s tick up) fits) in
    let low : made < length plan = shown.0 in
    let base = base-is m sections further before s (begun before) refl inside (omega (arith, low)) in
    let at : made ≡ length (in_order (pulses s before)) = tally-made m sections further before s inside ∙ sym (length-in_order (pulses s before)) in
    let G : ℕ → Type 0 = λ b. IsPulseOf (freq_at m further before s) (tick_before b plan made) (slice_index_or plan made no_step) (record { tick = tick; stepper = s; up = up }) in
    fits-more (freq_at m further before s) (base_at m further before s) (in_order (pulses s before)) plan made (record { tick = tick; stepper = s; up = up }) here at low (subst G base shown.1)

pub no-plan : (m : Machine) (sections : List Section) (further : List Further) (before : List LogLine) (s : ℕ) → begun before ≡ 0 → plan_at m sections further before s ≡ []
no-plan m sections further before s e = rw e refl

-- Prefix
pub fits-here : (m : Machine) (sections : List Section) (further : List Further) (before : List LogLine) (s : ℕ) → s < length m.steppers → Fine m sections further before → FitsHere m sections further before s
fits-here m sections further [] s inside fine = tt
fits-here m sections further (line.Note ∷ before) s inside fine = fits-here m sections further before s inside fine.1
fits-here m sections further (line.Line b turn tick from ∷ before) s inside fine = fits-here m sections further before s inside fine.1
fits-here m sections further (line.Section i turn kind ∷ before) s inside fine = tt
fits-here m sections further (line.Cut i ∷ before) s inside fine = fits-here m sections further before s inside fine.1
fits-here m sections further (line.End ∷ before) s inside fine = fits-here m sections further before s inside fine.1
fits-here m sections further (line.Board b turn tick ∷ before) s inside fine =
    let first = board-first m sections (point m sections further before) b turn tick fine.0 in
    let old = fits-here m sections further before s inside fine.1 in
    let none : plan_at m sections further before s ≡ [] = no-plan m sections further before s first in
    let none' : plan_at m sections further (line.Board b turn tick ∷ before) s ≡ [] = no-plan m sections further (line.Board b turn tick ∷ before) s first in
    let Old : List Planned → Type 0 = λ plan. Fits (freq_at m further before s) (base_at m further before s) (in_order (pulses s before)) plan in
    let New : List Planned → Type 0 = λ plan. Fits (freq_at m further (line.Board b turn tick ∷ before) s) (base_at m further (line.Board b turn tick ∷ before) s) (in_order (pulses s before)) plan in
    subst New (sym none') (fits-none (freq_at m further before s) (base_at m further before s) (freq_at m further (line.Board b turn tick ∷ before) s) (base_at m further (line.Board b turn tick ∷ before) s) (in_order (pulses s before)) (subst Old none old))
fits-here m sections further (line.Pulse t tick up ∷ before) s inside fine = by (t == s) refl (fits-here m sections further before s inside fine.1) where
  by : (same : Bool) → (t == s) ≡ same → FitsHere m sections further before s → FitsHere m sections further (line.Pulse t tick up ∷ before) s
  by true e here =
      let at : t ≡ s = grind (arith, nat_tests) in
      let fits : fault_at m sections (point m sections further before) (line.Pulse s tick up) ≡ None = subst (λ n. fault_at m sections (point m sections further before) (line.Pulse n tick up) ≡ None) at fine.0 in
      let p : Pulse = record { tick = tick; stepper = t; up = up } in
      let is : pulses s (line.Pulse t tick up ∷ before) ≡ p ∷ pulses s before = rw e refl in
      let G : List Pulse → Type 0 = λ ps. Fits (freq_at m further before s) (base_at m further before s) (in_order ps) (plan_at m sections further before s) in
      let H : ℕ → Type 0 = λ n. (let q : Pulse = record { tick = tick; stepper = n; up = up } in Fits (freq_at m further before s) (base_at m further before s) (in_order (pulses s before) ++ q ∷ []) (plan_at m sections further before s)) in
      subst G (sym is) (subst H (sym at) (pulse-more m sections further before s tick up inside fits here))
  by false e here =
      let is : pulses s (line.Pulse t tick up ∷ before) ≡ pulses s before = rw e refl in
      let G : List Pulse → Type 0 = λ ps. Fits (freq_at m further before s) (base_at m further before s) (in_order ps) (plan_at m sections further before s) in
      subst G (sym is) here

enough : (plans : List (List Planned)) (tallies : List Tally) (s : ℕ) → lacks plans tallies ≡ false → s < length plans → s < length tallies → length (get_or plans s []) ≤ (get_or tallies s no_tally).made
enough [] tallies s e in_plans in_tallies = absurd (omega arith)
enough (p ∷ plans) [] s e in_plans in_tallies = absurd (omega arith)
enough (p ∷ plans) (t ∷ tallies) zero e in_plans in_tallies =
    let h : nat_lt t.made (length p) ≡ false = (or_parts (nat_lt t.made (length p)) (lacks plans tallies) e).0 in
    grind (arith, nat_tests)
enough (p ∷ plans) (t ∷ tallies) (suc s) e in_plans in_tallies = enough plans tallies s (or_parts (nat_lt t.made (length p)) (lacks plans tallies) e).1 (omega arith) (omega arith)

-- Whole
pub whole-here : (m : Machine) (sections : List Section) (further : List Further) (before : List LogLine) (s : ℕ) → s < length m.steppers → Fine m sections further before → lacks (plans m sections further before) (point m sections further before).tallies ≡ false → IsWholeHere m sections further before s
whole-here m sections further before s inside fine e =
    let plan = plan_at m sections further before s in
    let few : length (in_order (pulses s before)) ≤ length plan = fits_many (freq_at m further before s) (base_at m further before s) (in_order (pulses s before)) plan (fits-here m sections further before s inside fine) in
    let same = length-in_order (pulses s before) in
    by (begun before) refl few same where
      by : (n : ℕ) → begun before ≡ n → length (in_order (pulses s before)) ≤ length (plan_at m sections further before s) → length (in_order (pulses s before)) ≡ length (pulses s before) → IsWholeHere m sections further before s
      by zero first few same = (let none = ap length (no-plan m sections further before s first) in omega (arith, few, same))
      by (suc n) later few same =
          let count : length (plans m sections further before) ≡ length m.steppers = rw later (length-map-range_with_len _ 0 (length m.steppers)) in
          let tallied : length (point m sections further before).tallies ≡ length m.steppers = length-map-range_with_len _ 0 (length m.steppers) in
          let most = enough (plans m sections further before) (point m sections further before).tallies s e (omega arith) (omega arith) in
          let made = tally-made m sections further before s inside in
          omega (arith, few, same, most, made)

short-of : (cut : Bool) (ps : List (List Planned)) (ts : List Tally) → cut ≡ false → is_short cut ps ts ≡ false → lacks ps ts ≡ false
short-of true ps ts e h = cc
short-of false ps ts e h = h

section-parts : (short may : Bool) → section_fault short may ≡ None → (short ≡ false) × (may ≡ true)
section-parts true may e = cc
section-parts false true e = (refl, refl)
section-parts false false e = cc

kinds-same : (a b : SectionKind) → same_kind a b ≡ true → a ≡ b
kinds-same a b p2 = search (rules, nat_tests)

-- Sections
next-here : (m : Machine) (sections : List Section) (further : List Further) (before : List LogLine) (i turn : ℕ) (kind : SectionKind) → may_start m sections (point m sections further before) i turn kind ≡ true → IsNextSection m sections further before i turn kind
next-here m sections further before i turn kind may = search (rules, nat_le, nat_lt, first_of_both, second_of_both, nat_tests, kinds-same)

-- a line among those that fit
line-fits : (m : Machine) (sections : List Section) (further : List Further) (lines later before : List LogLine) (l : LogLine) → Fine m sections further lines → lines ≡ later ++ l ∷ before → Fine m sections further (l ∷ before)
line-fits m sections further lines later before l fine is = fine-behind m sections further later (l ∷ before) (subst (λ (x : List LogLine). Fine m sections further x) is fine)

section-shows : (m : Machine) (sections : List Section) (further : List Further) (before : List LogLine) (i turn : ℕ) (kind : SectionKind) → fault_at m sections (point m sections further before) (line.Section i turn kind) ≡ None
    → (is_short (is_cut before) (plans m sections further before) (point m sections further before).tallies ≡ false) × (may_start m sections (point m sections further before) i turn kind ≡ true)
section-shows m sections further before i turn kind fits =
    section-parts (is_short (is_cut before) (plans m sections further before) (point m sections further before).tallies) (may_start m sections (point m sections further before) i turn kind) (fault-open m sections (point m sections further before) (line.Section i turn kind) fits)

follows-own : (m : Machine) (sections : List Section) (lines : List LogLine) → Fine m sections (further_among lines) lines → is_short (is_cut lines) (plans m sections (further_among lines) lines) (point m sections (further_among lines) lines).tallies ≡ false → FollowsPlan m sections lines
follows-own m sections lines fine short = search (rules, fits-here, fine-behind, line-fits, whole-here, short-of, section-shows, next-here)

pub follows : (m : Machine) (sections : List Section) (further : List Further) (lines : List LogLine) → further ≡ further_among lines → Fine m sections further lines → is_short (is_cut lines) (plans m sections further lines) (point m sections further lines).tallies ≡ false → FollowsPlan m sections lines
follows m sections further lines same fine short = subst (λ (f : List Further). Fine m sections f lines → is_short (is_cut lines) (plans m sections f lines) (point m sections f lines).tallies ≡ false → FollowsPlan m sections lines) (sym same) (follows-own m sections lines) fine short

-- a verdict that all is done: its lines fit, none is missing at the end, and they are those that were said
pub record Done (m : Machine) (sections : List Section) (further : List Further) (lines : List LogLine) (words : List (ℕ × List Text)) (v : Verdict) : Type 0 where
  pub fine : Fine m sections further v.lines
  pub short : is_short (is_cut v.lines) (plans m sections further v.lines) (point m sections further v.lines).tallies ≡ false
  pub said : map ok_line (in_order lines) ++ all_said m words ≡ map ok_line (in_order v.lines)

end-done : (last : ℕ) (short : Bool) → end_cause last short ≡ cause.Done → short ≡ false
end-done last true e = cc
end-done last false e = refl

map-more : (xs : List LogLine) (l : LogLine) (rest : List Said) → map ok_line (xs ++ l ∷ []) ++ rest ≡ map ok_line xs ++ (Ok l ∷ rest)
map-more [] l rest = refl
map-more (x ∷ xs) l rest = ap (λ (r : List Said). ok_line x ∷ r) (map-more xs l rest)

pub done : (m : Machine) (sections : List Section) (further : List Further) (last : ℕ) (lines : List LogLine) (words : List (ℕ × List Text)) → Fine m sections further lines → (verdict m sections further last lines words).cause ≡ cause.Done → Done m sections further lines words (verdict m sections further last lines words)
done m sections further last lines [] fine e = record { fine = fine; short = end-done last (is_short (is_cut lines) (plans m sections further lines) (point m sections further lines).tallies) e; said = append-nil (map ok_line (in_order lines)) }
done m sections further last lines (w ∷ words) fine e = by (line_said m w.1) refl e (λ l fine_l h. done m sections further w.0 (l ∷ lines) words fine_l h) where
  by-fault : (l : LogLine) → line_said m w.1 ≡ Ok l → (fault : Option MisfitKind) → fault_at m sections (point m sections further lines) l ≡ fault → (by_fault w.0 l lines fault (verdict m sections further w.0 (l ∷ lines) words)).cause ≡ cause.Done
      → (Fine m sections further (l ∷ lines) → (verdict m sections further w.0 (l ∷ lines) words).cause ≡ cause.Done → Done m sections further (l ∷ lines) words (verdict m sections further w.0 (l ∷ lines) words))
      → Done m sections further lines (w ∷ words) (by_fault w.0 l lines fault (verdict m sections further w.0 (l ∷ lines) words))
  by-fault l said (Some kind) is h onward = cc
  by-fault l said None is h onward =
      let more = onward (is, fine) h in
      record {
        fine = more.fine;
        short = more.short;
        said = ap (λ (s : Said). map ok_line (in_order lines) ++ (s ∷ all_said m words)) said ∙ sym (map-more (in_order lines) l (all_said m words)) ∙ more.said;
      }

  by : (said : Said) → line_said m w.1 ≡ said → (by_line m sections further w.0 lines said (λ l. verdict m sections further w.0 (l ∷ lines) words)).cause ≡ cause.Done
      → ((l : LogLine) → Fine m sections further (l ∷ lines) → (verdict m sections further w.0 (l ∷ lines) words).cause ≡ cause.Done → Done m sections further (l ∷ lines) words (verdict m sections further w.0 (l ∷ lines) words))
      → Done m sections further lines (w ∷ words) (by_line m sections further w.0 lines said (λ l. verdict m sections further w.0 (l ∷ lines) words))
  by (Err kind) is h onward = cc
  by (Ok l) is h onward = by-fault l is (fault_at m sections (point m sections further lines) l) refl h (onward l)

-- the further clock lines among some lines, which are listed in order
abbrev pub listed : List LogLine → List Further
listed [] = []
listed (l ∷ lines) = with_one (further_of (Ok l)) (listed lines)

pub said-listed : (m : Machine) (words : List (ℕ × List Text)) (ls : List LogLine) → all_said m words ≡ map ok_line ls → further_said m words ≡ listed ls
said-listed m [] [] said = refl
said-listed m [] (l ∷ ls) said = cc
said-listed m (w ∷ words) [] said = cc
said-listed m (w ∷ words) (l ∷ ls) said =
    let here : line_said m w.1 ≡ Ok l = cc in
    let others : all_said m words ≡ map ok_line ls = cc in
    ap (λ (s : Said). with_one (further_of s) (further_said m words)) here ∙ ap (with_one (further_of (Ok l))) (said-listed m words ls others)

onto-one : (f : Option Further) (xs ys : List Further) → with_one f xs ++ ys ≡ with_one f (xs ++ ys)
onto-one None xs ys = refl
onto-one (Some f) xs ys = refl

listed-more : (xs : List LogLine) (l : LogLine) → listed (xs ++ l ∷ []) ≡ listed xs ++ with_one (further_of (Ok l)) []
listed-more [] l = refl
listed-more (x ∷ xs) l = ap (with_one (further_of (Ok x))) (listed-more xs l) ∙ sym (onto-one (further_of (Ok x)) (listed xs) (with_one (further_of (Ok l)) []))

reversed : (lines : List LogLine) → listed (in_order lines) ≡ further_among lines
reversed [] = refl
reversed (l ∷ lines) = listed-more (in_order lines) l ∙ ap (λ (f : List Further). f ++ with_one (further_of (Ok l)) []) (reversed lines)

-- the further clock lines that the words say are those among the lines
pub said-among : (m : Machine) (words : List (ℕ × List Text)) (lines : List LogLine) → all_said m words ≡ map ok_line (in_order lines) → further_said m words ≡ further_among lines
said-among m words lines said = said-listed m words (in_order lines) said ∙ reversed lines
