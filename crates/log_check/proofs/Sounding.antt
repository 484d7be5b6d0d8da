-- A line that fits leads to a point that is sound.
use Rattle.std.proofs.Common.{◌≡◌, ◌≢◌, ℕ, ◌+◌, ◌<◌, ◌≤◌, ◌^◌, All, Bool, true, false, List, [], ◌∷◌, ◌++◌, length, get_or, map, set, ap, sym, refl, subst, ◌∙◌, arith, Option, Some, None, length-append}
use Rattle.std.specs.Prelude.{◌==◌, if◌then◌else◌, nat_lt, slice_index_or}
use Rattle.std.proofs.lemmas.Bool.Decides.{nat_tests}
use Rattle.std.proofs.lemmas.List.{get_or_append_left, get_or_push, get_or-set_same, get_or-set_other, length-set}
use Rattle.std.proofs.lemmas.List.FromFn.{get_or-map-range_with_len, length-map-range_with_len}
use Rattle.log_text.specs.declared.line.LogLine.{LogLine}
use Rattle.log_text.specs.declared.line.LogLine.TheVariants as line
use Rattle.log_text.specs.There.{IsThere}
use Rattle.plan_types.specs.declared.cause.MisfitKind.{MisfitKind}
use Rattle.plan_types.specs.declared.cause.MisfitKind.TheVariants as misfit
use Rattle.plan_types.specs.declared.machine.Machine.{Machine}
use Rattle.plan_types.specs.declared.plan.Planned.{Planned}
use Rattle.plan_types.specs.declared.plan.Section.{Section}
use Rattle.plan_types.specs.declared.plan.SectionKind.{SectionKind}
use Rattle.plan_types.specs.Lines.{Clocks, one_line}
use Rattle.plan_types.specs.Machines.{IsValidMachine, no_board}
use Rattle.plan_types.specs.Sections.{base_tick, clocks_at, stepper_plan}
use Rattle.plan_types.specs.Valid.{IsValidLine}
use Rattle.section_plan.specs.Runs.{IsPlannable}
use Rattle.log_check.specs.declared.further.Further.{Further}
use Rattle.log_check.specs.declared.tally.Tally.{Tally}
use Rattle.log_check.specs.Behind.{told_line, with_further}
use Rattle.log_check.specs.Faults.{fault_at, is_short, may_start, no_tally, open_fault, section_fault}
use Rattle.log_check.specs.Points.{Point, point, section_at}
use Rattle.log_check.specs.Pulses.{pulse_fault, with_pulse}
use Rattle.log_check.specs.Steps.{CanPlan, IsSoundPoint, AreClocksOfBoard, next_point, with_clock, with_made, with_section}
use Rattle.log_check.proofs.Planning.{Starts, plannable, starts}
use Rattle.log_check.proofs.Furthers.{further-told}
use Rattle.log_check.proofs.Pointing.{board-first, board-tests}
use Rattle.plan_types.proofs.Facts.{second_of_both}

-- nothing told
pub start-sound : (m : Machine) (sections : List Section) (further : List Further) → All (λ f. f.from < 2 ^ 64) further → IsSoundPoint m (point m sections further [])
start-sound m sections further early =
    let none = λ (s : ℕ). no_tally in
    record {
      tallies = length-map-range_with_len none 0 (length m.steppers);
      plans = omega arith;
      bases = refl;
      boards = λ h. absurd (omega (arith, h));
      early = early;
      lines = λ b h. absurd (omega (arith, h));
      none = λ e. refl;
      few = λ s inside. (let is : get_or (point m sections further []).tallies s no_tally ≡ no_tally = get_or-map-range_with_len none 0 (length m.steppers) s s no_tally inside (omega arith) in rw is (omega arith));
    }

-- a section that begins
pub section-sound : (m : Machine) (sections : List Section) (p : Point) (turn : ℕ) → IsSoundPoint m p → IsPlannable m p.clocks (section_at sections p.begun).moves turn → IsSoundPoint m (with_section m sections p turn)
section-sound m sections p turn sound can =
    let none = λ (s : ℕ). no_tally in
    let n = length m.steppers in
    let plan = stepper_plan m p.clocks (section_at sections p.begun).moves turn in
    let plans = length-map-range_with_len plan 0 n in
    let bases = length-map-range_with_len (base_tick m p.clocks turn) 0 n in
    record {
      tallies = length-map-range_with_len none 0 n;
      plans = omega (arith, plans);
      bases = bases ∙ sym plans;
      boards = λ h. can.boards;
      early = sound.early;
      lines = sound.lines;
      none = λ e. absurd (omega (arith, e));
      few = λ s inside. (let is : get_or (map none (Rattle.std.specs.List.range_with_len 0 n)) s no_tally ≡ no_tally = get_or-map-range_with_len none 0 n s s no_tally inside (omega arith) in rw is (omega arith));
    }

pub fault-open : (m : Machine) (sections : List Section) (p : Point) (l : LogLine) → fault_at m sections p l ≡ None → open_fault m sections p l ≡ None
fault-open m sections p l fits = by p.ended (open_fault m sections p l) fits where
  by : (ended : Bool) (x : Option MisfitKind) → (if ended then Some misfit.BadLine else x) ≡ None → x ≡ None
  by true x e = cc
  by false x e = e

may-of : (short may : Bool) → section_fault short may ≡ None → may ≡ true
may-of true may e = cc
may-of false true e = refl
may-of false false e = cc

-- what a section line that fits shows
pub section-starts : (m : Machine) (sections : List Section) (p : Point) (i turn : ℕ) (kind : SectionKind) → fault_at m sections p (line.Section i turn kind) ≡ None → Starts m sections p turn
section-starts m sections p i turn kind fits =
    starts m sections p i turn kind (may-of (is_short p.cut p.plans p.tallies) (may_start m sections p i turn kind) (fault-open m sections p (line.Section i turn kind) fits))

pub section-plannable : (m : Machine) (sections : List Section) (p : Point) (i turn : ℕ) (kind : SectionKind) → IsValidMachine m → CanPlan sections → IsSoundPoint m p → turn < 4_611_686_018_427_387_904 → fault_at m sections p (line.Section i turn kind) ≡ None
    → IsPlannable m p.clocks (section_at sections p.begun).moves turn
section-plannable m sections p i turn kind valid can sound soon fits = plannable m sections p turn valid can sound (omega (arith, soon)) (section-starts m sections p i turn kind fits)

inside-of : (freq base : ℕ) (plan : List Planned) (i tick : ℕ) (up : Bool) → pulse_fault freq base plan i tick up ≡ None → i < length plan
inside-of freq base plan i tick up fits =
    let h : nat_lt i (length plan) ≡ true = by (nat_lt i (length plan)) _ fits in
    grind (arith, nat_tests) where
      by : (b : Bool) (x : Option MisfitKind) → (if b then x else Some misfit.Extra) ≡ None → b ≡ true
      by true x e = refl
      by false x e = cc

-- a pulse that fits
pulse-inside : (m : Machine) (sections : List Section) (p : Point) (s tick : ℕ) (up : Bool) → fault_at m sections p (line.Pulse s tick up) ≡ None → (slice_index_or p.tallies s no_tally).made < length (slice_index_or p.plans s [])
pulse-inside m sections p s tick up fits = inside-of _ _ _ _ _ _ (fault-open m sections p (line.Pulse s tick up) fits)

few-made : (ts : List Tally) (plans : List (List Planned)) (s t tick : ℕ) (same : Bool) → (t == s) ≡ same → s < length ts → (get_or ts s no_tally).made < length (get_or plans s []) → (get_or ts t no_tally).made ≤ length (get_or plans t [])
    → (get_or (set ts s (with_pulse (get_or plans s []) (get_or ts s no_tally) tick)) t no_tally).made ≤ length (get_or plans t [])
few-made ts plans s t tick true e inside more few =
    let x = with_pulse (get_or plans s []) (get_or ts s no_tally) tick in
    let at : t ≡ s = grind (arith, nat_tests) in
    let is : get_or (set ts s x) s no_tally ≡ x = get_or-set_same ts s x no_tally inside in
    rw at (rw is (omega (arith, more)))
few-made ts plans s t tick false e inside more few =
    let far : t ≢ s = λ h. (let f : (t == s) ≡ false = e in grind (arith, nat_tests)) in
    let is = get_or-set_other ts s t (with_pulse (get_or plans s []) (get_or ts s no_tally) tick) no_tally far in
    rw is few

pub pulse-sound : (m : Machine) (sections : List Section) (p : Point) (s tick : ℕ) (up : Bool) → IsSoundPoint m p → s < length m.steppers → fault_at m sections p (line.Pulse s tick up) ≡ None → IsSoundPoint m (with_made p s tick)
pulse-sound m sections p s tick up sound there fits =
    let count = sound.tallies in
    record {
      tallies = length-set p.tallies s _ ∙ sound.tallies;
      plans = sound.plans;
      bases = sound.bases;
      boards = sound.boards;
      early = sound.early;
      lines = sound.lines;
      none = sound.none;
      few = λ t inside. few-made p.tallies p.plans s t tick (t == s) refl (omega (arith, there)) (pulse-inside m sections p s tick up fits) (sound.few t inside);
    }

pub line-valid : (m : Machine) (b turn tick : ℕ) → IsValidMachine m → b < length m.boards → turn < 4_611_686_018_427_387_904 → IsValidLine (told_line m b turn tick)
line-valid m b turn tick valid inside soon =
    let freq = (valid.boards b no_board inside).freq in
    record { freq_low = freq.low; freq_high = freq.high; freq_whole = freq.whole; whole_turn = grind arith; few_turns = omega (arith, soon) }

line-told : (m : Machine) (b turn tick : ℕ) → IsValidMachine m → b < length m.boards → turn < 4_611_686_018_427_387_904 → AreClocksOfBoard m (one_line (told_line m b turn tick)) b
line-told m b turn tick valid inside soon = record {
  kept = record { valid = line-valid m b turn tick valid inside soon; held = tt };
  soon = omega (arith, soon);
  freq = refl;
}

pub clock-sound : (m : Machine) (sections : List Section) (p : Point) (b turn tick : ℕ) → IsValidMachine m → IsSoundPoint m p → b < length m.boards → turn < 4_611_686_018_427_387_904 → fault_at m sections p (line.Board b turn tick) ≡ None
    → IsSoundPoint m (with_clock p (with_further m b p.further (one_line (told_line m b turn tick))) (one_line (told_line m b turn tick)))
clock-sound m sections p b turn tick valid sound there soon fits =
    let tests = board-tests m sections p b turn tick fits in
    let place : b ≡ length p.clocks = (let h : (b == length p.clocks) ≡ true = second_of_both (p.begun == 0) (b == length p.clocks) tests in grind (arith, nat_tests)) in
    let none = sound.none (board-first m sections p b turn tick fits) in
    let c = with_further m b p.further (one_line (told_line m b turn tick)) in
    let told : AreClocksOfBoard m c b = further-told m b p.further (one_line (told_line m b turn tick)) (line-told m b turn tick valid there soon) sound.early in
    record {
      tallies = sound.tallies;
      plans = sound.plans;
      bases = sound.bases;
      boards = λ h. absurd (let no = ap length none in omega (arith, h));
      early = sound.early;
      lines = λ k inside. line-at p.clocks c k (nat_lt k (length p.clocks)) refl (let long = length-append p.clocks (c ∷ []) in omega (arith, inside)) (sound.lines k) (subst (λ n. AreClocksOfBoard m c n) place told);
      none = sound.none;
      few = sound.few;
    } where
      line-at : (cs : List Clocks) (c : Clocks) (k : ℕ) (low : Bool) → nat_lt k (length cs) ≡ low → k < length cs + 1 → (k < length cs → AreClocksOfBoard m (clocks_at cs k) k) → AreClocksOfBoard m c (length cs) → AreClocksOfBoard m (clocks_at (cs ++ c ∷ []) k) k
      line-at cs c k true e inside before here =
          let under : k < length cs = grind (arith, nat_tests) in
          subst (λ x. AreClocksOfBoard m x k) (sym (get_or_append_left cs (c ∷ []) _ k under)) (before under)
      line-at cs c k false e inside before here =
          let at : k ≡ length cs = grind (arith, nat_tests) in
          let G : ℕ → Type 0 = λ n. AreClocksOfBoard m (clocks_at (cs ++ c ∷ []) n) n in
          subst G (sym at) (subst (λ x. AreClocksOfBoard m x (length cs)) (sym (get_or_push cs c _ (length cs) refl)) here)

pub next-sound : (m : Machine) (sections : List Section) (p : Point) (l : LogLine) → IsValidMachine m → CanPlan sections → IsSoundPoint m p → IsThere m l → fault_at m sections p l ≡ None → IsSoundPoint m (next_point m sections p l)
next-sound m sections p line.Note valid can sound there fits = sound
next-sound m sections p (line.Board b turn tick) valid can sound there fits = clock-sound m sections p b turn tick valid sound there.0 there.1 fits
next-sound m sections p (line.Line b turn tick from) valid can sound there fits = record { tallies = sound.tallies; plans = sound.plans; bases = sound.bases; boards = sound.boards; early = sound.early; lines = sound.lines; none = sound.none; few = sound.few }
next-sound m sections p (line.Section i turn kind) valid can sound there fits = section-sound m sections p turn sound (section-plannable m sections p i turn kind valid can sound there fits)
next-sound m sections p (line.Pulse s tick up) valid can sound there fits = pulse-sound m sections p s tick up sound there fits
next-sound m sections p (line.Cut i) valid can sound there fits = record { tallies = sound.tallies; plans = sound.plans; bases = sound.bases; boards = sound.boards; early = sound.early; lines = sound.lines; none = sound.none; few = sound.few }
next-sound m sections p line.End valid can sound there fits = record { tallies = sound.tallies; plans = sound.plans; bases = sound.bases; boards = sound.boards; early = sound.early; lines = sound.lines; none = sound.none; few = sound.few }

-- as many sections began as the text has, or fewer
pub next-begun : (m : Machine) (sections : List Section) (p : Point) (l : LogLine) → p.begun ≤ length sections → fault_at m sections p l ≡ None → (next_point m sections p l).begun ≤ length sections
next-begun m sections p line.Note few fits = few
next-begun m sections p (line.Board b turn tick) few fits = few
next-begun m sections p (line.Line b turn tick from) few fits = few
next-begun m sections p (line.Section i turn kind) few fits = let inside = (section-starts m sections p i turn kind fits).inside in omega (arith, inside)
next-begun m sections p (line.Pulse s tick up) few fits = few
next-begun m sections p (line.Cut i) few fits = few
next-begun m sections p line.End few fits = few
