-- The lines of a run over links follow the plans, section by section.
use Rattle.std.proofs.Common.{◌≡◌, ℕ, zero, suc, ◌+◌, ◌<◌, ◌≤◌, ◌⊎◌, Bool, true, false, List, [], ◌∷◌, ◌++◌, map, take, drop, length, Some, None, refl, ap, sym, ◌∙◌, subst, arith, inl, inr, append_assoc, append-nil, rules}
use Rattle.std.specs.Prelude.{◌-◌, ◌==◌, if◌then◌else◌}
use Rattle.laws_board.proofs.Names.{eqb_tells, leb_tells, eqb-true, Machine, Pulse, ReportLine, machine_line, Started, ReactorTurn, gather}
use Rattle.report_text.specs.declared.line.ReportLine.TheVariants as report
use Rattle.laws_board.specs.sections.Boards.{NextStart}
use Rattle.laws_board.specs.plans.Boards.{times_of}
use Rattle.laws_board.specs.plans.Lines.{TellTurns, TellsTurn, head_in, heads_of, pulse_in, pulses_of, starts_at}
use Rattle.laws_board.proofs.plans.Beginning.{Spread}
use Rattle.laws_board.proofs.plans.Telling.{pulses_append}
use Rattle.laws_report.specs.reports.Shown.{pulses_before, pulses_in, section_turn}
use Rattle.laws_run.proofs.run_headline.Facts.{none_at}

-- lines that begin no section
pub no_head : (l : ReportLine) (ls : List ReportLine) → heads_of (l ∷ ls) ≡ [] → (head_in l ≡ []) × (heads_of ls ≡ [])
no_head (report.Section section turn kind) ls e = absurd (let f : report.Section section turn kind ∷ heads_of ls ≡ [] = e in cc)
no_head c ls e = (refl, e)

-- one such line in front of others
turn_one : (i : ℕ) (l : ReportLine) (ls : List ReportLine) → head_in l ≡ [] → section_turn i (l ∷ ls) ≡ section_turn i ls
turn_one i (report.Section section turn kind) ls e = absurd (let f : report.Section section turn kind ∷ [] ≡ [] = e in cc)
turn_one i c ls e = refl

in_one : (i s : ℕ) (l : ReportLine) (ls : List ReportLine) → head_in l ≡ [] → pulses_in i s (l ∷ ls) ≡ pulses_in i s ls
in_one i s (report.Section section turn kind) ls e = absurd (let f : report.Section section turn kind ∷ [] ≡ [] = e in cc)
in_one i s c ls e = refl

own_pulse : (s stepper tick : ℕ) (up b : Bool) (ps : List Pulse) → (stepper == s) ≡ b
    → (let here : Pulse = record { tick = tick; stepper = stepper; up = up } in if b then here ∷ ps else ps) ≡ (if b then record { tick = tick; stepper = s; up = up } ∷ [] else []) ++ ps
own_pulse s stepper tick up true ps e = ap (λ n. record { tick = tick; stepper = n; up = up } ∷ ps) (eqb-true stepper s e)
own_pulse s stepper tick up false ps e = refl

before_one : (s : ℕ) (l : ReportLine) (ls : List ReportLine) → head_in l ≡ [] → pulses_before s (l ∷ ls) ≡ pulse_in s l ++ pulses_before s ls
before_one s l ls p3 = search (rules, own_pulse)

-- and some
turn_past : (i : ℕ) (xs ls : List ReportLine) → heads_of xs ≡ [] → section_turn i (xs ++ ls) ≡ section_turn i ls
turn_past i [] ls e = refl
turn_past i (x ∷ xs) ls e = let h = no_head x xs e in turn_one i x (xs ++ ls) h.0 ∙ turn_past i xs ls h.1

in_past : (i s : ℕ) (xs ls : List ReportLine) → heads_of xs ≡ [] → pulses_in i s (xs ++ ls) ≡ pulses_in i s ls
in_past i s [] ls e = refl
in_past i s (x ∷ xs) ls e = let h = no_head x xs e in in_one i s x (xs ++ ls) h.0 ∙ in_past i s xs ls h.1

before_past : (s : ℕ) (xs ls : List ReportLine) → heads_of xs ≡ [] → pulses_before s (xs ++ ls) ≡ pulses_of s xs ++ pulses_before s ls
before_past s [] ls e = refl
before_past s (x ∷ xs) ls e =
    let h = no_head x xs e in
    before_one s x (xs ++ ls) h.0 ∙ ap (λ z. pulse_in s x ++ z) (before_past s xs ls h.1) ∙ sym (append_assoc (pulse_in s x) (pulses_of s xs) (pulses_before s ls))

-- the machine's line
pub no_machine : (m : Machine) (k : ℕ) → (heads_of (machine_line m k) ≡ []) × ((s : ℕ) → pulses_of s (machine_line m k) ≡ [])
no_machine m k = by (k == 0)
  where
    line : List ReportLine
    line = report.Machine m.corexy (length m.boards) (length m.steppers) ∷ []

    by : (b : Bool) → (heads_of (if b then report.Machine m.corexy (length m.boards) (length m.steppers) ∷ [] else []) ≡ [])
        × ((s : ℕ) → pulses_of s (if b then report.Machine m.corexy (length m.boards) (length m.steppers) ∷ [] else []) ≡ [])
    by true = (refl, λ s. refl)
    by false = (refl, λ s. refl)

pub record Starts (k i : ℕ) (ss : List Started) : Type 0 where
  pub past : List Started
  pub s : Started
  pub later : List Started
  pub cut : ss ≡ past ++ s ∷ later
  pub start : s.start ≡ k
  pub line : starts_at k i ss ≡ report.Section (i + length past) k s.section.kind ∷ []

pub starts_one : (k i x : ℕ) (ss : List Started) → Spread x ss → (starts_at k i ss ≡ []) ⊎ Starts k i ss
starts_one k i x [] h = inl refl
starts_one k i x (s ∷ ss) h = elim (eqb_tells s.start k) [
  | inl p ↦
      let zero_more : i ≡ i + 0 = omega arith in
      let here = ap (λ b. (if b then report.Section i k s.section.kind ∷ [] else []) ++ starts_at k (i + 1) ss) p.0 in
      let rest = none_at k (i + 1) (s.start + 260) ss h.1 (omega (arith, p.1)) in
      inr (record { past = []; s = s; later = ss; cut = refl; start = p.1; line = here ∙ ap (λ z. report.Section i k s.section.kind ∷ z) rest ∙ ap (λ n. report.Section n k s.section.kind ∷ []) zero_more })
  | inr p ↦
      let here = ap (λ b. (if b then report.Section i k s.section.kind ∷ [] else []) ++ starts_at k (i + 1) ss) p.0 in
      elim (starts_one k (i + 1) (s.start + 260) ss h.1) [
        | inl e ↦ inl (here ∙ e)
        | inr q ↦
            let number : i + 1 + length q.past ≡ i + length (s ∷ q.past) = omega arith in
            inr (record { past = s ∷ q.past; s = q.s; later = q.later; cut = ap (λ z. s ∷ z) q.cut; start = q.start; line = here ∙ q.line ∙ ap (λ n. report.Section n k q.s.section.kind ∷ []) number })
      ]
]

-- where sections stand apart, those behind one start later
later_spread : (x : ℕ) (past : List Started) (s : Started) (later : List Started) → Spread x (past ++ s ∷ later) → Spread (s.start + 260) later
later_spread x [] s later h = h.1
later_spread x (y ∷ past) s later h = later_spread (y.start + 260) past s later h.1

-- none starts between a section's start and the next one
pub between_starts : (k i x : ℕ) (past : List Started) (s : Started) (later : List Started) → Spread x (past ++ s ∷ later) → s.start < k → NextStart k (times_of later) → starts_at k i (past ++ s ∷ later) ≡ []
between_starts k i x [] s later h low high =
    elim (eqb_tells s.start k) [
      | inl p ↦ absurd (omega (arith, low, p.1))
      | inr p ↦ ap (λ b. (if b then report.Section i k s.section.kind ∷ [] else []) ++ starts_at k (i + 1) later) p.0 ∙ behind later h.1 high
    ]
  where
    behind : (later : List Started) → Spread (s.start + 260) later → NextStart k (times_of later) → starts_at k (i + 1) later ≡ []
    behind [] h n = refl
    behind (y ∷ later) h n = elim (eqb_tells y.start k) [
      | inl p ↦ absurd (omega (arith, n, p.1))
      | inr p ↦ ap (λ b. (if b then report.Section (i + 1) k y.section.kind ∷ [] else []) ++ starts_at k (i + 1 + 1) later) p.0 ∙ none_at k (i + 1 + 1) (y.start + 260) later h.1 (omega (arith, n))
    ]
between_starts k i x (y ∷ past) s later h low high =
    let late = start_low (y.start + 260) past s later h.1 in
    elim (eqb_tells y.start k) [
      | inl p ↦ absurd (omega (arith, low, p.1, late))
      | inr p ↦ ap (λ b. (if b then report.Section i k y.section.kind ∷ [] else []) ++ starts_at k (i + 1) (past ++ s ∷ later)) p.0 ∙ between_starts k (i + 1) (y.start + 260) past s later h.1 low high
    ]
  where
    start_low : (x : ℕ) (past : List Started) (s : Started) (later : List Started) → Spread x (past ++ s ∷ later) → x ≤ s.start
    start_low x [] s later h = h.0
    start_low x (z ∷ past) s later h = omega (arith, h.0, start_low (z.start + 260) past s later h.1)

-- the lines of some turns
abbrev pub lines_of : List ReactorTurn → List ReportLine
lines_of ts = gather (λ t. t.lines) ts

module _ (m : Machine) (begun : List Started) (spread : Spread 260 begun) (place : ℕ) where
  -- a turn in which no section starts
  pub quiet : (k : ℕ) (t : ReactorTurn) → TellsTurn m begun k t → starts_at k 0 begun ≡ [] → heads_of t.lines ≡ []
  quiet k t h e = search (rules, no_machine, machine_line, append_assoc)

  -- the pulses up to the next section
  up_to : (past : List Started) (s : Started) (later : List Started) (k n : ℕ) (ts : List ReactorTurn) → begun ≡ past ++ s ∷ later → TellTurns m begun k ts → s.start < k → n ≤ length ts
      → NextStart (k + n) (map (λ (x : Started). record { start = x.start + 1; end = x.end }) later) → ((n ≡ length ts) ⊎ Starts (k + n) 0 begun)
      → pulses_before place (lines_of ts) ≡ pulses_of place (lines_of (take n ts))
  up_to past s later k zero [] cut tells low fits next stop = refl
  up_to past s later k zero (t ∷ ts) cut tells low fits next (inl e) = absurd (omega (arith, e))
  up_to past s later k zero (t ∷ ts) cut tells low fits next (inr q) =
      let e : k + 0 ≡ k = omega arith in
      let At : ℕ → Type 0 = λ n. Starts n 0 begun in
      let here = subst At e q in
      let h = tells.0 in
      let line = report.Section (0 + length here.past) k here.s.section.kind in
      let are : lines_of (t ∷ ts) ≡ machine_line m k ++ (line ∷ (h.rest ++ lines_of ts)) =
      ap (λ z. z ++ lines_of ts) (h.are ∙ ap (λ z. machine_line m k ++ (z ++ h.rest)) here.line) ∙ append_assoc (machine_line m k) (line ∷ h.rest) (lines_of ts) in
      ap (pulses_before place) are ∙ before_past place (machine_line m k) (line ∷ (h.rest ++ lines_of ts)) (no_machine m k).0 ∙ append-nil (pulses_of place (machine_line m k)) ∙ (no_machine m k).1 place
  up_to past s later k (suc n) [] cut tells low fits next stop = absurd (omega (arith, fits))
  up_to past s later k (suc n) (t ∷ ts) cut tells low fits next stop =
      let At : List Started → Type 0 = λ z. Spread 260 z in
      let Starts_at : List Started → Type 0 = λ z. starts_at k 0 z ≡ [] in
      let none = subst Starts_at (sym cut) (between_starts k 0 260 past s later (subst At cut spread) low (not_yet later next)) in
      let free = quiet k t tells.0 none in
      let number : k + suc n ≡ k + 1 + n = omega arith in
      let Next : ℕ → Type 0 = λ i. NextStart i (map (λ (x : Started). record { start = x.start + 1; end = x.end }) later) in
      let Stop : ℕ → Type 0 = λ i. (suc n ≡ length (t ∷ ts)) ⊎ Starts i 0 begun in
      let stop_then : (n ≡ length ts) ⊎ Starts (k + 1 + n) 0 begun = elim (subst Stop number stop) [ inl e ↦ inl (omega (arith, e)) | inr q ↦ inr q ] in
      before_past place t.lines (lines_of ts) free
      ∙ ap (λ z. pulses_of place t.lines ++ z) (up_to past s later (k + 1) n ts cut tells.1 (omega (arith, low)) (omega (arith, fits)) (subst Next number next) stop_then)
      ∙ sym (pulses_append place t.lines (lines_of (take n ts)))
    where
      not_yet : (later : List Started) → NextStart (k + suc n) (map (λ (x : Started). record { start = x.start + 1; end = x.end }) later) → NextStart k (times_of later)
      not_yet [] h = tt
      not_yet (y ∷ later) h = omega (arith, h)

  -- the next section starts in a turn
  abbrev pub NextAt : ℕ → List Started → Type 0
  NextAt turn [] = ⊥
  NextAt turn (y ∷ later) = y.start ≡ turn

  -- a section's line, and the turns up to the next one's
  pub record Shown (k i turn : ℕ) (ts : List ReactorTurn) : Type 0 where
    pub past : List Started
    pub s : Started
    pub later : List Started
    pub cut : begun ≡ past ++ s ∷ later
    pub place_is : length past ≡ i
    pub start : s.start ≡ turn
    pub from : k ≤ turn
    pub many : ℕ
    pub within : turn + many ≤ k + length ts
    pub next : NextStart (turn + many) (map (λ (x : Started). record { start = x.start + 1; end = x.end }) later)
    pub some : 0 < many
    pub ends : (turn + many ≡ k + length ts) ⊎ NextAt (turn + many) later
    pub pulses : pulses_in i place (lines_of ts) ≡ pulses_of place (lines_of (take many (drop (turn - k) ts)))

  -- how many turns it is to the next one
  pub record Ahead (past : List Started) (s : Started) (later : List Started) (k room : ℕ) : Type 0 where
    pub n : ℕ
    pub fits : n ≤ room
    pub next : NextStart (k + n) (map (λ (x : Started). record { start = x.start + 1; end = x.end }) later)
    pub stop : (n ≡ room) ⊎ Starts (k + n) 0 begun
    pub ends : (n ≡ room) ⊎ NextAt (k + n) later

  pub ahead : (past : List Started) (s : Started) (later : List Started) (k room : ℕ) → begun ≡ past ++ s ∷ later → s.start + 1 ≡ k → Ahead past s later k room
  ahead past s [] k room cut e = record { n = room; fits = omega arith; next = tt; stop = inl refl; ends = inl refl }
  ahead past s (y ∷ later) k room cut e =
      let At : List Started → Type 0 = λ z. Spread 260 z in
      let apart = (later_spread 260 past s (y ∷ later) (subst At cut spread)).0 in
      elim (leb_tells (y.start - k) room) [
        | inl p ↦ record { n = y.start - k; fits = p.1; next = omega (arith, apart, e); stop = inr (found (omega (arith, apart, e))); ends = inr (omega (arith, apart, e)) }
        | inr p ↦ record { n = room; fits = omega arith; next = omega (arith, p.1, apart, e); stop = inl refl; ends = inl refl }
      ]
    where
      found : k + (y.start - k) ≡ y.start → Starts (k + (y.start - k)) 0 begun
      found same = elim (starts_one (k + (y.start - k)) 0 260 begun spread) [
        | inr q ↦ q
        | inl none ↦ absurd (not_none (k + (y.start - k)) 0 (past ++ s ∷ []) (let f : begun ≡ (past ++ s ∷ []) ++ y ∷ later = cut ∙ sym (append_assoc past (s ∷ []) (y ∷ later)) in f) (sym same) none)
      ]
        where
          not_none : (j i : ℕ) (xs : List Started) → begun ≡ xs ++ y ∷ later → y.start ≡ j → starts_at j 0 begun ≡ [] → ⊥
          not_none j i xs cut e none = some j 0 xs e (sym (ap (starts_at j 0) cut) ∙ none)
            where
              some : (j i : ℕ) (xs : List Started) → y.start ≡ j → starts_at j i (xs ++ y ∷ later) ≡ [] → ⊥
              some j i [] e none = elim (eqb_tells y.start j) [
                | inl p ↦ let f : report.Section i j y.section.kind ∷ starts_at j (i + 1) later ≡ [] = sym (ap (λ b. (if b then report.Section i j y.section.kind ∷ [] else []) ++ starts_at j (i + 1) later) p.0) ∙ none in cc
                | inr p ↦ p.1 e
              ]
              some j i (x ∷ xs) e none = some j (i + 1) xs e (tail (x.start == j) none)
                where
                  tail : (b : Bool) → (if b then report.Section i j x.section.kind ∷ [] else []) ++ starts_at j (i + 1) (xs ++ y ∷ later) ≡ [] → starts_at j (i + 1) (xs ++ y ∷ later) ≡ []
                  tail true h = absurd (let f : report.Section i j x.section.kind ∷ starts_at j (i + 1) (xs ++ y ∷ later) ≡ [] = h in cc)
                  tail false h = h

  pub shown : (k i turn : ℕ) (ts : List ReactorTurn) → TellTurns m begun k ts → section_turn i (lines_of ts) ≡ Some turn → Shown k i turn ts
  shown k i turn [] tells e = absurd (let f : None ≡ Some turn = e in cc)
  shown k i turn (t ∷ ts) tells e = elim (starts_one k 0 260 begun spread) [
    | inl none ↦ on (λ f. shown (k + 1) i turn ts tells.1 f) (quiet k t tells.0 none)
    | inr q ↦ at (λ f. shown (k + 1) i turn ts tells.1 f) q
  ]
    where
      -- the line stands in a later turn
      later_turn : (section_turn i (lines_of ts) ≡ Some turn → Shown (k + 1) i turn ts) → section_turn i (lines_of ts) ≡ Some turn → pulses_in i place (lines_of (t ∷ ts)) ≡ pulses_in i place (lines_of ts) → Shown k i turn (t ∷ ts)
      later_turn rec e same =
          let h = rec e in
          let from = h.from in
          let cut : turn - k ≡ suc (turn - (k + 1)) = omega arith in
          record {
            past = h.past;
            s = h.s;
            later = h.later;
            cut = h.cut;
            place_is = h.place_is;
            start = h.start;
            from = omega arith;
            many = h.many;
            within = omega (arith, h.within);
            next = h.next;
            some = h.some;
            ends = elim h.ends [ inl f ↦ inl (omega (arith, f)) | inr f ↦ inr f ];
            pulses = same ∙ h.pulses ∙ ap (λ n. pulses_of place (lines_of (take h.many (drop n (t ∷ ts))))) (sym cut);
          }

      on : (section_turn i (lines_of ts) ≡ Some turn → Shown (k + 1) i turn ts) → heads_of t.lines ≡ [] → Shown k i turn (t ∷ ts)
      on rec free = later_turn rec (sym (turn_past i t.lines (lines_of ts) free) ∙ e) (in_past i place t.lines (lines_of ts) free)

      at : (section_turn i (lines_of ts) ≡ Some turn → Shown (k + 1) i turn ts) → Starts k 0 begun → Shown k i turn (t ∷ ts)
      at rec q = elim (eqb_tells (0 + length q.past) i) [ inl p ↦ here p.0 p.1 | inr p ↦ later_turn rec (passed_turn p.0) (passed_in p.0) ]
        where
          line : ReportLine
          line = report.Section (0 + length q.past) k q.s.section.kind

          behind : List ReportLine
          behind = tells.0.rest ++ lines_of ts

          are : lines_of (t ∷ ts) ≡ machine_line m k ++ (report.Section (0 + length q.past) k q.s.section.kind ∷ (tells.0.rest ++ lines_of ts))
          are =
              ap (λ z. z ++ lines_of ts) (tells.0.are ∙ ap (λ z. machine_line m k ++ (z ++ tells.0.rest)) q.line)
              ∙ append_assoc (machine_line m k) (report.Section (0 + length q.past) k q.s.section.kind ∷ tells.0.rest) (lines_of ts)

          turn_is : section_turn i (lines_of (t ∷ ts)) ≡ (if (0 + length q.past) == i then Some k else section_turn i (tells.0.rest ++ lines_of ts))
          turn_is = ap (section_turn i) are ∙ turn_past i (machine_line m k) (report.Section (0 + length q.past) k q.s.section.kind ∷ (tells.0.rest ++ lines_of ts)) (no_machine m k).0

          in_is : pulses_in i place (lines_of (t ∷ ts)) ≡ (if (0 + length q.past) == i then pulses_before place (tells.0.rest ++ lines_of ts) else pulses_in i place (tells.0.rest ++ lines_of ts))
          in_is = ap (pulses_in i place) are ∙ in_past i place (machine_line m k) (report.Section (0 + length q.past) k q.s.section.kind ∷ (tells.0.rest ++ lines_of ts)) (no_machine m k).0

          passed_turn : ((0 + length q.past) == i) ≡ false → section_turn i (lines_of ts) ≡ Some turn
          passed_turn b = sym (turn_past i tells.0.rest (lines_of ts) tells.0.heads) ∙ sym (ap (λ z. if z then Some k else section_turn i (tells.0.rest ++ lines_of ts)) b) ∙ sym turn_is ∙ e

          passed_in : ((0 + length q.past) == i) ≡ false → pulses_in i place (lines_of (t ∷ ts)) ≡ pulses_in i place (lines_of ts)
          passed_in b = in_is ∙ ap (λ z. if z then pulses_before place (tells.0.rest ++ lines_of ts) else pulses_in i place (tells.0.rest ++ lines_of ts)) b ∙ in_past i place tells.0.rest (lines_of ts) tells.0.heads

          own : pulses_of place t.lines ≡ pulses_of place tells.0.rest
          own =
              ap (pulses_of place) (tells.0.are ∙ ap (λ z. machine_line m k ++ (z ++ tells.0.rest)) q.line) ∙ pulses_append place (machine_line m k) (report.Section (0 + length q.past) k q.s.section.kind ∷ tells.0.rest)
              ∙ ap (λ z. z ++ pulses_of place tells.0.rest) ((no_machine m k).1 place)

          here : ((0 + length q.past) == i) ≡ true → 0 + length q.past ≡ i → Shown k i turn (t ∷ ts)
          here b same =
              let is : Some k ≡ Some turn = sym (ap (λ z. if z then Some k else section_turn i (tells.0.rest ++ lines_of ts)) b) ∙ sym turn_is ∙ e in
              let now : k ≡ turn = cc in
              let next_turn : q.s.start + 1 ≡ k + 1 = ap (λ n. n + 1) q.start in
              let a = ahead q.past q.s q.later (k + 1) (length ts) q.cut next_turn in
              let rest = up_to q.past q.s q.later (k + 1) a.n ts q.cut tells.1 (omega (arith, q.start)) a.fits a.next a.stop in
              let zero_ahead : turn - k ≡ 0 = omega (arith, now) in
              let number : k + 1 + a.n ≡ turn + suc a.n = omega (arith, now) in
              let Next : ℕ → Type 0 = λ n. NextStart n (map (λ (x : Started). record { start = x.start + 1; end = x.end }) q.later) in
              let At_next : ℕ → Type 0 = λ n. NextAt n q.later in
              record {
                past = q.past;
                s = q.s;
                later = q.later;
                cut = q.cut;
                place_is = omega (arith, same);
                start = q.start ∙ now;
                from = omega (arith, now);
                many = suc a.n;
                within = omega (arith, a.fits, now);
                next = subst Next number a.next;
                some = omega arith;
                ends = elim a.ends [ inl f ↦ inl (omega (arith, f, now)) | inr f ↦ inr (subst At_next number f) ];
                pulses = in_is ∙ ap (λ z. if z then pulses_before place (tells.0.rest ++ lines_of ts) else pulses_in i place (tells.0.rest ++ lines_of ts)) b
                    ∙ before_past place tells.0.rest (lines_of ts) tells.0.heads ∙ ap (λ z. z ++ pulses_before place (lines_of ts)) (sym own) ∙ ap (λ z. pulses_of place t.lines ++ z) rest
                    ∙ sym (pulses_append place t.lines (lines_of (take a.n ts))) ∙ ap (λ n. pulses_of place (lines_of (take (suc a.n) (drop n (t ∷ ts))))) (sym zero_ahead);
              }
