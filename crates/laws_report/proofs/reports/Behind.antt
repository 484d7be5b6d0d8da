-- The lines behind that of a section.
use Rattle.std.proofs.Common.{◌≡◌, ◌≢◌, ℕ, suc, ◌+◌, ◌<◌, ◌≤◌, Bool, true, false, List, [], ◌∷◌, ◌++◌, drop, length, refl, ap, sym, ◌∙◌, arith, inl, inr, append_assoc, append-nil}
use Rattle.std.specs.Prelude.{◌-◌, ◌==◌, if◌then◌else◌}
use Rattle.laws_board.proofs.Names.{eqb-true, eqb_tells, Machine, Pulse, SectionKind, ReportLine, machine_line, Started, ReactorTurn}
use Rattle.report_text.specs.declared.line.ReportLine.TheVariants as report
use Rattle.laws_board.specs.plans.Lines.{TellTurns, head_in, heads_of, pulses_of}
use Rattle.laws_board.proofs.plans.Beginning.{Spread}
use Rattle.laws_board.proofs.plans.Telling.{pulses_append}
use Rattle.laws_report.specs.reports.Shown.{begins, lines_behind, pulses_before, pulses_in}
use Rattle.laws_report.proofs.reports.Followed.{Starts, lines_of, no_head, no_machine, quiet, starts_one}

-- a line that begins no section begins none of a number
no_begin : (i : ℕ) (l : ReportLine) → head_in l ≡ [] → begins i l ≡ false
no_begin i (report.Section section turn kind) e = absurd (let f : report.Section section turn kind ∷ [] ≡ [] = e in cc)
no_begin i c e = refl

pub behind_past : (i : ℕ) (xs ls : List ReportLine) → heads_of xs ≡ [] → lines_behind i (xs ++ ls) ≡ lines_behind i ls
behind_past i [] ls e = refl
behind_past i (x ∷ xs) ls e =
    let h = no_head x xs e in
    ap (λ b. if b then xs ++ ls else lines_behind i (xs ++ ls)) (no_begin i x h.0) ∙ behind_past i xs ls h.1

-- The lines behind that of a section, where a stepper has a pulse in them: those of the turns from its start on.
pub record Behind (m : Machine) (begun : List Started) (place k i : ℕ) (ts : List ReactorTurn) : Type 0 where
  pub past : List Started
  pub s : Started
  pub later : List Started
  pub cut : begun ≡ past ++ s ∷ later
  pub place_is : length past ≡ i
  pub from : k ≤ s.start
  pub within : s.start < k + length ts
  pub pulses : pulses_of place (lines_behind i (lines_of ts)) ≡ pulses_of place (lines_of (drop (s.start - k) ts))

module _ (m : Machine) (begun : List Started) (spread : Spread 260 begun) (place : ℕ) where
  abbrev Some_behind : ℕ → List ReportLine → Type 0
  Some_behind i lines = pulses_of place (lines_behind i lines) ≢ []

  -- the section's line stands in a later turn
  behind_later : (k i : ℕ) (t : ReactorTurn) (ts : List ReactorTurn) → lines_behind i (lines_of (t ∷ ts)) ≡ lines_behind i (lines_of ts) → Behind m begun place (k + 1) i ts → Behind m begun place k i (t ∷ ts)
  behind_later k i t ts same b =
      let from = b.from in
      let number : b.s.start - k ≡ suc (b.s.start - (k + 1)) = omega arith in
      record {
        past = b.past;
        s = b.s;
        later = b.later;
        cut = b.cut;
        place_is = b.place_is;
        from = omega arith;
        within = omega (arith, b.within);
        pulses = ap (pulses_of place) same ∙ b.pulses ∙ ap (λ n. pulses_of place (lines_of (drop n (t ∷ ts)))) (sym number);
      }

  pub behind : (k i : ℕ) (ts : List ReactorTurn) → TellTurns m begun k ts → Some_behind i (lines_of ts) → Behind m begun place k i ts
  behind k i [] tells some = absurd (some refl)
  behind k i (t ∷ ts) tells some = elim (starts_one k 0 260 begun spread) [
    | inl none ↦ on (λ more. behind (k + 1) i ts tells.1 more) (behind_past i t.lines (lines_of ts) (quiet m begun spread place k t tells.0 none))
    | inr q ↦ at (λ more. behind (k + 1) i ts tells.1 more) q
  ]
    where
      on : (Some_behind i (lines_of ts) → Behind m begun place (k + 1) i ts) → lines_behind i (lines_of (t ∷ ts)) ≡ lines_behind i (lines_of ts) → Behind m begun place k i (t ∷ ts)
      on rec same = behind_later k i t ts same (rec (λ e. some (ap (pulses_of place) same ∙ e)))

      at : (Some_behind i (lines_of ts) → Behind m begun place (k + 1) i ts) → Starts k 0 begun → Behind m begun place k i (t ∷ ts)
      at rec q = elim (eqb_tells (0 + length q.past) i) [ inl p ↦ here p.0 p.1 | inr p ↦ on rec (passed p.0) ]
        where
          rest : List ReportLine
          rest = tells.0.rest ++ lines_of ts

          are : lines_behind i (lines_of (t ∷ ts)) ≡ (if (0 + length q.past) == i then tells.0.rest ++ lines_of ts else lines_behind i (tells.0.rest ++ lines_of ts))
          are =
              let line = report.Section (0 + length q.past) k q.s.section.kind in
              let lines : lines_of (t ∷ ts) ≡ machine_line m k ++ (line ∷ (tells.0.rest ++ lines_of ts)) =
              ap (λ z. z ++ lines_of ts) (tells.0.are ∙ ap (λ z. machine_line m k ++ (z ++ tells.0.rest)) q.line) ∙ append_assoc (machine_line m k) (line ∷ tells.0.rest) (lines_of ts) in
              ap (lines_behind i) lines ∙ behind_past i (machine_line m k) (line ∷ (tells.0.rest ++ lines_of ts)) (no_machine m k).0

          passed : ((0 + length q.past) == i) ≡ false → lines_behind i (lines_of (t ∷ ts)) ≡ lines_behind i (lines_of ts)
          passed b = are ∙ ap (λ z. if z then tells.0.rest ++ lines_of ts else lines_behind i (tells.0.rest ++ lines_of ts)) b ∙ behind_past i tells.0.rest (lines_of ts) tells.0.heads

          own : pulses_of place t.lines ≡ pulses_of place tells.0.rest
          own =
              let line = report.Section (0 + length q.past) k q.s.section.kind in
              ap (pulses_of place) (tells.0.are ∙ ap (λ z. machine_line m k ++ (z ++ tells.0.rest)) q.line) ∙ pulses_append place (machine_line m k) (line ∷ tells.0.rest)
              ∙ ap (λ z. z ++ pulses_of place tells.0.rest) ((no_machine m k).1 place)

          here : ((0 + length q.past) == i) ≡ true → 0 + length q.past ≡ i → Behind m begun place k i (t ∷ ts)
          here b same =
              let zero_ahead : q.s.start - k ≡ 0 = omega (arith, q.start) in
              record {
                past = q.past;
                s = q.s;
                later = q.later;
                cut = q.cut;
                place_is = omega (arith, same);
                from = omega (arith, q.start);
                within = omega (arith, q.start);
                pulses = ap (pulses_of place) (are ∙ ap (λ z. if z then tells.0.rest ++ lines_of ts else lines_behind i (tells.0.rest ++ lines_of ts)) b) ∙ pulses_append place tells.0.rest (lines_of ts)
                    ∙ ap (λ z. z ++ pulses_of place (lines_of ts)) (sym own) ∙ sym (pulses_append place t.lines (lines_of ts)) ∙ ap (λ n. pulses_of place (lines_of (drop n (t ∷ ts)))) (sym zero_ahead);
              }

-- the sections behind one
pub next_begun : {A : Type 0} (past : List A) (x : A) (later before : List A) (y : A) (more : List A) → past ++ x ∷ later ≡ before ++ y ∷ more → length before ≡ length past + 1 → later ≡ y ∷ more
next_begun [] x later [] y more e n = absurd (omega (arith, n))
next_begun [] x later (b ∷ []) y more e n = cc
next_begun [] x later (b ∷ c ∷ before) y more e n = absurd (omega (arith, n))
next_begun (a ∷ past) x later [] y more e n = absurd (omega (arith, n))
next_begun (a ∷ past) x later (b ∷ before) y more e n = let f : past ++ x ∷ later ≡ before ++ y ∷ more = cc in next_begun past x later before y more f (omega (arith, n))

-- the first lines of a report, where a stepper has a pulse behind a section's line among them
pub behind_front : (place i : ℕ) (xs ys : List ReportLine) → pulses_of place (lines_behind i xs) ≢ [] → lines_behind i (xs ++ ys) ≡ lines_behind i xs ++ ys
behind_front place i [] ys some = absurd (some refl)
behind_front place i (x ∷ xs) ys some = by (begins i x) (λ more. behind_front place i xs ys more) some
  where
    by : (b : Bool) → (pulses_of place (lines_behind i xs) ≢ [] → lines_behind i (xs ++ ys) ≡ lines_behind i xs ++ ys) → pulses_of place (if b then xs else lines_behind i xs) ≢ []
        → (if b then xs ++ ys else lines_behind i (xs ++ ys)) ≡ (if b then xs else lines_behind i xs) ++ ys
    by true rec some = refl
    by false rec some = rec some

-- lines of sections that are numbered from a number on
abbrev pub AreNumbered : ℕ → List ReportLine → Type 0
AreNumbered k [] = Unit {0}
AreNumbered k (line ∷ lines) = ((turn : ℕ) × (kind : SectionKind) × (line ≡ report.Section k turn kind)) × AreNumbered (k + 1) lines

pub numbered_front : (k : ℕ) (xs ys : List ReportLine) → AreNumbered k (xs ++ ys) → AreNumbered k xs
numbered_front k [] ys n = tt
numbered_front k (x ∷ xs) ys n = (n.0, numbered_front (k + 1) xs ys n.1)

-- the pulses up to a section's line that stands among the first lines
before_stays : (s : ℕ) (xs ys : List ReportLine) → heads_of xs ≢ [] → pulses_before s (xs ++ ys) ≡ pulses_before s xs
before_stays s [] ys some = absurd (some refl)
before_stays s (report.Section j turn kind ∷ xs) ys some = refl
before_stays s (report.Pulse board stepper tick up ∷ xs) ys some =
    ap (λ ps. let here : Pulse = record { tick = tick; stepper = stepper; up = up } in if stepper == s then here ∷ ps else ps) (before_stays s xs ys some)
before_stays s (x ∷ xs) ys some = before_stays s xs ys some

pub in_stays : (i s other k : ℕ) (xs ys : List ReportLine) → AreNumbered k (heads_of xs) → k ≤ i → pulses_of other (lines_behind (i + 1) xs) ≢ [] → pulses_in i s (xs ++ ys) ≡ pulses_in i s xs
in_stays i s other k [] ys n low some = absurd (some refl)
in_stays i s other k (report.Section j turn kind ∷ xs) ys n low some =
    let same : j ≡ k = (let f : report.Section j turn kind ≡ report.Section k n.0.0 n.0.1 = n.0.2 in cc) in
    let more = later (j == i + 1) refl some in
    elim (eqb_tells j i) [
      | inl p ↦ ap (λ b. if b then pulses_before s (xs ++ ys) else pulses_in i s (xs ++ ys)) p.0 ∙ before_stays s xs ys (λ e. more (ap (pulses_of other) (none e))) ∙ sym (ap (λ b. if b then pulses_before s xs else pulses_in i s xs) p.0)
      | inr p ↦ ap (λ b. if b then pulses_before s (xs ++ ys) else pulses_in i s (xs ++ ys)) p.0 ∙ in_stays i s other (k + 1) xs ys n.1 (above p.1 same) more
          ∙ sym (ap (λ b. if b then pulses_before s xs else pulses_in i s xs) p.0)
    ]
  where
    none : heads_of xs ≡ [] → lines_behind (i + 1) xs ≡ []
    none e = ap (lines_behind (i + 1)) (sym (append-nil xs)) ∙ behind_past (i + 1) xs [] e

    above : (j ≡ i → ⊥) → j ≡ k → k + 1 ≤ i
    above not same = elim (eqb_tells k i) [ inl q ↦ absurd (not (same ∙ q.1)) | inr q ↦ grind arith ]

    later : (b : Bool) → (j == i + 1) ≡ b → pulses_of other (if b then xs else lines_behind (i + 1) xs) ≢ [] → pulses_of other (lines_behind (i + 1) xs) ≢ []
    later true e f = absurd (let same : j ≡ k = (let f : report.Section j turn kind ≡ report.Section k n.0.0 n.0.1 = n.0.2 in cc) in let is = eqb-true j (i + 1) e in omega (arith, same, is, low))
    later false e f = f
in_stays i s other k (x ∷ xs) ys n low some = in_stays i s other k xs ys n low some
