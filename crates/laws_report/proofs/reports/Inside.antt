-- The cut lines of a run over links stand in the sections of which they tell.
use Rattle.std.proofs.Common.{◌≡◌, ◌≢◌, ℕ, zero, suc, ◌+◌, ◌<◌, ◌≤◌, ◌⊎◌, Bool, true, false, Some, None, Option, List, [], ◌∷◌, ◌++◌, map, take, drop, length, refl, ap, sym, ◌∙◌, subst, arith, inl, inr, append_assoc, append-nil, length-append, rules}
use Rattle.std.specs.Prelude.{◌-◌, ◌==◌, if◌then◌else◌}
use Rattle.laws_board.proofs.Names.{eqb_tells, leb_tells, flat_map-append, length-map, Cause, Machine, Section, SectionKind, Home, Moves, axis_at, ReportLine, Switch, machine_line, cut_line, Started, ReactorTurn}
use Rattle.std.proofs.Math.Seq.{get_or-append_seam}
use Rattle.std.proofs.lemmas.List.{length-drop, length-take-le}
use Rattle.report_text.specs.declared.line.ReportLine.TheVariants as report
use Rattle.laws_board.specs.sections.Boards.{NextStart}
use Rattle.laws_board.specs.plans.Boards.{times_of}
use Rattle.laws_board.specs.plans.Lines.{TellTurns, head_in, heads_of, starts_at}
use Rattle.laws_board.proofs.plans.Beginning.{Spread}
use Rattle.laws_run.specs.run_ends.Ends.{GoesThrough}
use Rattle.laws_run.specs.run_lines.Due.{begun_lines}
use Rattle.laws_board.specs.plans.Rows.{AreInARow}
use Rattle.laws_board.proofs.plans.Rows.{Among, row_from, row_later, row_past}
use Rattle.laws_run.specs.home_headline.Cuts.{EndsIn, TellEnds, TellsSwitch, cut_in, cuts_of}
use Rattle.laws_run.proofs.home_headline.Ended.{cut_same, home_is}
use Rattle.laws_report.specs.reports.Cuts.{HaveCuts, IsCutOf, cuts_in, lines_before, scene_line}
use Rattle.plan_types.specs.Sections.{no_section}
use Rattle.laws_report.specs.reports.Headline.{section_kind}
use Rattle.laws_report.specs.reports.Shown.{begins, lines_behind, section_turn}
use Rattle.log_check.specs.Points.{section_at}
use Rattle.laws_report.proofs.reports.Behind.{AreNumbered, behind_past, next_begun}
use Rattle.laws_report.proofs.reports.Followed.{NextAt, Starts, ahead, between_starts, lines_of, no_head, no_machine, quiet, shown, starts_one}
use Rattle.laws_board.proofs.sections.Lists.{one_place}
use Rattle.laws_run.proofs.run_lines.Further.{left_none}
use Rattle.laws_run.proofs.run_headline.Facts.{none_at}

-- a line that begins no section, before others
before_step : (l : ReportLine) (ls : List ReportLine) → head_in l ≡ [] → lines_before (l ∷ ls) ≡ l ∷ lines_before ls
before_step (report.Section section turn kind) ls e = absurd (let f : report.Section section turn kind ∷ [] ≡ [] = e in cc)
before_step c ls e = refl

upto_past : (xs ls : List ReportLine) → heads_of xs ≡ [] → lines_before (xs ++ ls) ≡ xs ++ lines_before ls
upto_past [] ls e = refl
upto_past (x ∷ xs) ls e = let h = no_head x xs e in before_step x (xs ++ ls) h.0 ∙ ap (λ z. x ∷ z) (upto_past xs ls h.1)

cuts_both : (xs ys : List ReportLine) → cuts_of (xs ++ ys) ≡ cuts_of xs ++ cuts_of ys
cuts_both xs ys = flat_map-append cut_in xs ys

machine_uncut : (m : Machine) (k : ℕ) → cuts_of (machine_line m k) ≡ []
machine_uncut m k = by (k == 0)
  where
    by : (b : Bool) → cuts_of (if b then report.Machine m.corexy (length m.boards) (length m.steppers) ∷ [] else []) ≡ []
    by true = refl
    by false = refl

-- the cut lines up to a section line that stands behind the machine's
cuts_at_start : (m : Machine) (k i turn : ℕ) (kind : SectionKind) (rest : List ReportLine) → cuts_of (lines_before (machine_line m k ++ (report.Section i turn kind ∷ rest))) ≡ []
cuts_at_start m k i turn kind rest =
    ap cuts_of (upto_past (machine_line m k) (report.Section i turn kind ∷ rest) (no_machine m k).0) ∙ ap cuts_of (append-nil (machine_line m k)) ∙ machine_uncut m k

-- the line of a section in the turn of its start
starts_here : (k i x : ℕ) (past : List Started) (s : Started) (later : List Started) → Spread x (past ++ s ∷ later) → s.start ≡ k → starts_at k i (past ++ s ∷ later) ≡ report.Section (i + length past) k s.section.kind ∷ []
starts_here k i x [] s later h e =
    let rest = none_at k (i + 1) (s.start + 260) later h.1 (omega (arith, e)) in
    let number : i ≡ i + 0 = omega arith in
    elim (eqb_tells s.start k) [
      | inl p ↦ ap (λ b. (if b then report.Section i k s.section.kind ∷ [] else []) ++ starts_at k (i + 1) later) p.0 ∙ ap (λ z. report.Section i k s.section.kind ∷ z) rest ∙ ap (λ n. report.Section n k s.section.kind ∷ []) number
      | inr p ↦ absurd (p.1 e)
    ]
starts_here k i x (y ∷ past) s later h e =
    let far = low (y.start + 260) past h.1 in
    let number : i + 1 + length past ≡ i + length (y ∷ past) = omega arith in
    elim (eqb_tells y.start k) [
      | inl p ↦ let same = p.1 in absurd (omega (arith, same, e, far))
      | inr p ↦ ap (λ b. (if b then report.Section i k y.section.kind ∷ [] else []) ++ starts_at k (i + 1) (past ++ s ∷ later)) p.0 ∙ starts_here k (i + 1) (y.start + 260) past s later h.1 e ∙ ap (λ n. report.Section n k s.section.kind ∷ []) number
    ]
  where
    low : (x : ℕ) (ys : List Started) → Spread x (ys ++ s ∷ later) → x ≤ s.start
    low x [] g = g.0
    low x (z ∷ ys) g = let a = g.0 in let b = low (z.start + 260) ys g.1 in omega (arith, a, b)

-- the cut lines of the turns up to the next section
module _ (m : Machine) (begun : List Started) (spread : Spread 260 begun) where
  cuts_up_to : (past : List Started) (s : Started) (later : List Started) (k n : ℕ) (ts : List ReactorTurn) → begun ≡ past ++ s ∷ later → TellTurns m begun k ts → s.start < k → n ≤ length ts
      → NextStart (k + n) (map (λ (x : Started). record { start = x.start + 1; end = x.end }) later) → ((n ≡ length ts) ⊎ Starts (k + n) 0 begun) → cuts_of (lines_before (lines_of ts)) ≡ cuts_of (lines_of (take n ts))
  cuts_up_to past s later k zero [] cut tells low fits next stop = refl
  cuts_up_to past s later k zero (t ∷ ts) cut tells low fits next (inl e) = absurd (omega (arith, e))
  cuts_up_to past s later k zero (t ∷ ts) cut tells low fits next (inr q) =
      let e : k + 0 ≡ k = omega arith in
      let At : ℕ → Type 0 = λ n. Starts n 0 begun in
      let here = subst At e q in
      let h = tells.0 in
      let line = report.Section (0 + length here.past) k here.s.section.kind in
      let are : lines_of (t ∷ ts) ≡ machine_line m k ++ (line ∷ (h.rest ++ lines_of ts)) =
      ap (λ z. z ++ lines_of ts) (h.are ∙ ap (λ z. machine_line m k ++ (z ++ h.rest)) here.line) ∙ append_assoc (machine_line m k) (line ∷ h.rest) (lines_of ts) in
      ap (λ z. cuts_of (lines_before z)) are ∙ cuts_at_start m k (0 + length here.past) k here.s.section.kind (h.rest ++ lines_of ts)
  cuts_up_to past s later k (suc n) [] cut tells low fits next stop = absurd (omega (arith, fits))
  cuts_up_to past s later k (suc n) (t ∷ ts) cut tells low fits next stop =
      let At : List Started → Type 0 = λ z. Spread 260 z in
      let Starts_at : List Started → Type 0 = λ z. starts_at k 0 z ≡ [] in
      let none = subst Starts_at (sym cut) (between_starts k 0 260 past s later (subst At cut spread) low (not_yet later next)) in
      let free = quiet m begun spread 0 k t tells.0 none in
      let number : k + suc n ≡ k + 1 + n = omega arith in
      let Next : ℕ → Type 0 = λ i. NextStart i (map (λ (x : Started). record { start = x.start + 1; end = x.end }) later) in
      let Stop : ℕ → Type 0 = λ i. (suc n ≡ length (t ∷ ts)) ⊎ Starts i 0 begun in
      let stop_then : (n ≡ length ts) ⊎ Starts (k + 1 + n) 0 begun = elim (subst Stop number stop) [ inl e ↦ inl (omega (arith, e)) | inr q ↦ inr q ] in
      ap cuts_of (upto_past t.lines (lines_of ts) free) ∙ cuts_both t.lines (lines_before (lines_of ts))
      ∙ ap (λ z. cuts_of t.lines ++ z) (cuts_up_to past s later (k + 1) n ts cut tells.1 (omega (arith, low)) (omega (arith, fits)) (subst Next number next) stop_then)
      ∙ sym (cuts_both t.lines (lines_of (take n ts)))
    where
      not_yet : (later : List Started) → NextStart (k + suc n) (map (λ (x : Started). record { start = x.start + 1; end = x.end }) later) → NextStart k (times_of later)
      not_yet [] h = tt
      not_yet (y ∷ later) h = omega (arith, h)

  -- the turns from a section's start up to the next one's
  pub record InTurns (past : List Started) (s : Started) (later : List Started) (k : ℕ) (ts : List ReactorTurn) : Type 0 where
    pub many : ℕ
    pub from : k ≤ s.start
    pub within : s.start + many ≤ k + length ts
    pub next : NextStart (s.start + many) (map (λ (x : Started). record { start = x.start + 1; end = x.end }) later)
    pub some : 0 < many
    pub ends : (s.start + many ≡ k + length ts) ⊎ NextAt m begun spread 0 (s.start + many) later
    pub cuts : cuts_in (length past) (lines_of ts) ≡ cuts_of (lines_of (take many (drop (s.start - k) ts)))

  -- a section's line doesn't stand in some turns, or it does
  pub in_turns : (past : List Started) (s : Started) (later : List Started) (k : ℕ) (ts : List ReactorTurn) → begun ≡ past ++ s ∷ later → TellTurns m begun k ts → k ≤ s.start
      → ((lines_behind (length past) (lines_of ts) ≡ []) × (k + length ts ≤ s.start)) ⊎ InTurns past s later k ts
  in_turns past s later k [] cut tells low = inl (refl, omega (arith, low))
  in_turns past s later k (t ∷ ts) cut tells low = elim (eqb_tells s.start k) [
    | inl p ↦ inr (here p.1)
    | inr p ↦
        let above : k + 1 ≤ s.start = elim (leb_tells (k + 1) s.start) [ inl q ↦ q.1 | inr q ↦ absurd (p.1 (let a = q.1 in omega (arith, a, low))) ] in
        there p.1 (in_turns past s later (k + 1) ts cut tells.1 above)
  ]
    where
      At : List Started → Type 0
      At z = Spread 260 z

      -- it stands in a later turn
      passed : s.start ≢ k → (q : Starts k 0 begun) → ((0 + length q.past) == length past) ≡ false
      passed not q = elim (eqb_tells (0 + length q.past) (length past)) [
        | inr p ↦ p.0
        | inl p ↦
            let place = p.1 in
            let same = one_place q.past q.s q.later past s later (sym q.cut ∙ cut) (omega (arith, place)) in
            absurd (not (ap (λ (z : Started). z.start) (sym same) ∙ q.start))
      ]

      later_on : s.start ≢ k → lines_behind (length past) (lines_of (t ∷ ts)) ≡ lines_behind (length past) (lines_of ts)
      later_on not = elim (starts_one k 0 260 begun spread) [
        | inl none ↦ behind_past (length past) t.lines (lines_of ts) (quiet m begun spread 0 k t tells.0 none)
        | inr q ↦
            let i = length past in
            let line = report.Section (0 + length q.past) k q.s.section.kind in
            let are : lines_of (t ∷ ts) ≡ machine_line m k ++ (line ∷ (tells.0.rest ++ lines_of ts)) =
            ap (λ z. z ++ lines_of ts) (tells.0.are ∙ ap (λ z. machine_line m k ++ (z ++ tells.0.rest)) q.line) ∙ append_assoc (machine_line m k) (line ∷ tells.0.rest) (lines_of ts) in
            ap (lines_behind i) are ∙ behind_past i (machine_line m k) (line ∷ (tells.0.rest ++ lines_of ts)) (no_machine m k).0
            ∙ ap (λ b. if b then tells.0.rest ++ lines_of ts else lines_behind i (tells.0.rest ++ lines_of ts)) (passed not q) ∙ behind_past i tells.0.rest (lines_of ts) tells.0.heads
      ]

      there : s.start ≢ k → ((lines_behind (length past) (lines_of ts) ≡ []) × (k + 1 + length ts ≤ s.start)) ⊎ InTurns past s later (k + 1) ts
          → ((lines_behind (length past) (lines_of (t ∷ ts)) ≡ []) × (k + length (t ∷ ts) ≤ s.start)) ⊎ InTurns past s later k (t ∷ ts)
      there not (inl x) = let far = x.1 in inl (later_on not ∙ x.0, omega (arith, far))
      there not (inr x) =
          let from = x.from in
          let within = x.within in
          let number : s.start - k ≡ suc (s.start - (k + 1)) = omega (arith, from) in
          inr (record {
            many = x.many;
            from = omega (arith, from);
            within = omega (arith, within);
            next = x.next;
            some = x.some;
            ends = elim x.ends [ inl e ↦ inl (omega (arith, e)) | inr e ↦ inr e ];
            cuts = ap (λ z. cuts_of (lines_before z)) (later_on not) ∙ x.cuts ∙ ap (λ n. cuts_of (lines_of (take x.many (drop n (t ∷ ts))))) (sym number);
          })

      -- or in this one
      here : s.start ≡ k → InTurns past s later k (t ∷ ts)
      here e =
          let i = length past in
          let kind = s.section.kind in
          let rest = tells.0.rest in
          let line = report.Section (0 + i) k kind in
          let starts : starts_at k 0 begun ≡ line ∷ [] = ap (starts_at k 0) cut ∙ starts_here k 0 260 past s later (subst At cut spread) e in
          let own : t.lines ≡ machine_line m k ++ (line ∷ rest) = tells.0.are ∙ ap (λ z. machine_line m k ++ (z ++ rest)) starts in
          let are : lines_of (t ∷ ts) ≡ machine_line m k ++ (line ∷ (rest ++ lines_of ts)) = ap (λ z. z ++ lines_of ts) own ∙ append_assoc (machine_line m k) (line ∷ rest) (lines_of ts) in
          let self : ((0 + i) == i) ≡ true = elim (eqb_tells (0 + i) i) [ inl p ↦ p.0 | inr p ↦ absurd (p.1 (omega arith)) ] in
          let behind : lines_behind i (lines_of (t ∷ ts)) ≡ rest ++ lines_of ts =
          ap (lines_behind i) are ∙ behind_past i (machine_line m k) (line ∷ (rest ++ lines_of ts)) (no_machine m k).0 ∙ ap (λ b. if b then rest ++ lines_of ts else lines_behind i (rest ++ lines_of ts)) self in
          let a = ahead m begun spread 0 past s later (k + 1) (length ts) cut (omega (arith, e)) in
          let more = cuts_up_to past s later (k + 1) a.n ts cut tells.1 (omega (arith, e)) a.fits a.next a.stop in
          let told : cuts_of t.lines ≡ cuts_of rest = ap cuts_of own ∙ cuts_both (machine_line m k) (line ∷ rest) ∙ ap (λ z. z ++ cuts_of rest) (machine_uncut m k) in
          let none_ahead : s.start - k ≡ 0 = omega (arith, e) in
          let number : k + 1 + a.n ≡ s.start + suc a.n = omega (arith, e) in
          let Next : ℕ → Type 0 = λ n. NextStart n (map (λ (x : Started). record { start = x.start + 1; end = x.end }) later) in
          let At_next : ℕ → Type 0 = λ n. NextAt m begun spread 0 n later in
          let fits = a.fits in
          record {
            many = suc a.n;
            from = omega (arith, e);
            within = omega (arith, fits, e);
            next = subst Next number a.next;
            some = omega arith;
            ends = elim a.ends [ inl f ↦ inl (omega (arith, f, e)) | inr f ↦ inr (subst At_next number f) ];
            cuts = ap (λ z. cuts_of (lines_before z)) behind ∙ ap cuts_of (upto_past rest (lines_of ts) tells.0.heads) ∙ cuts_both rest (lines_before (lines_of ts)) ∙ ap (λ z. z ++ cuts_of (lines_before (lines_of ts))) (sym told)
                ∙ ap (λ z. cuts_of t.lines ++ z) more ∙ sym (cuts_both t.lines (lines_of (take a.n ts))) ∙ ap (λ n. cuts_of (lines_of (take (suc a.n) (drop n (t ∷ ts))))) (sym none_ahead);
          }

-- sections in a row
row_behind : (at : ℕ) (past : List Started) (s : Started) (later : List Started) → AreInARow at (past ++ s ∷ later) → AreInARow (s.end + 260) later
row_behind at [] s later r = r.2
row_behind at (y ∷ past) s later r = row_behind (y.end + 260) past s later r.2

starts_behind : (to at : ℕ) (later : List Started) (x : Started) → NextStart to (map (λ (y : Started). record { start = y.start + 1; end = y.end }) later) → AreInARow at later → Among x later → to ≤ x.start
starts_behind to at [] x n r a = absurd a
starts_behind to at (y ∷ later) x n r (inl e) = let is = ap (λ (z : Started). z.start) e in omega (arith, n, is)
starts_behind to at (y ∷ later) x n r (inr a) = let far = row_later at x [] y later r a in let order = r.1 in omega (arith, n, far, order)

-- turns in which homing sections end
module _ (m : Machine) (switches : List Switch) (begun : List Started) where
  tells_drop : (n k : ℕ) (ts : List ReactorTurn) → TellEnds m switches begun k ts → TellEnds m switches begun (k + n) (drop n ts)
  tells_drop zero k [] tells = tt
  tells_drop zero k (t ∷ ts) tells = let e : k ≡ k + 0 = omega arith in subst (λ (i : ℕ). TellEnds m switches begun i (t ∷ ts)) e tells
  tells_drop (suc n) k [] tells = tt
  tells_drop (suc n) k (t ∷ ts) tells = let e : k + 1 + n ≡ k + suc n = omega arith in subst (λ (i : ℕ). TellEnds m switches begun i (drop n ts)) e (tells_drop n (k + 1) ts tells.1)

  tells_take : (n k : ℕ) (ts : List ReactorTurn) → TellEnds m switches begun k ts → TellEnds m switches begun k (take n ts)
  tells_take zero k [] tells = tt
  tells_take zero k (t ∷ ts) tells = tt
  tells_take (suc n) k [] tells = tt
  tells_take (suc n) k (t ∷ ts) tells = (tells.0, tells_take n (k + 1) ts tells.1)

  -- none ends in some turns
  ends_none : (k : ℕ) (ts : List ReactorTurn) → TellEnds m switches begun k ts → ((j number axis : ℕ) → k ≤ j → j < k + length ts → EndsIn begun j number axis → ⊥) → cuts_of (lines_of ts) ≡ []
  ends_none k [] tells never = refl
  ends_none k (t ∷ ts) tells never = elim tells.0 [
    | inl x ↦ absurd (never k x.number x.axis (omega arith) (omega arith) x.ended)
    | inr x ↦ cuts_both t.lines (lines_of ts) ∙ ap (λ z. z ++ cuts_of (lines_of ts)) x.lines_are ∙ ends_none (k + 1) ts tells.1 (λ j number axis low high e. never j number axis (omega (arith, low)) (omega (arith, high)) e)
  ]

  -- the only one that may end in some turns
  pub record IsOnly (i axis end k : ℕ) (ts : List ReactorTurn) : Type 0 where
    pub only : (j number x : ℕ) → k ≤ j → j < k + length ts → EndsIn begun j number x → (number ≡ i) × (x ≡ axis) × (j ≡ end)

  only_behind : (i axis end k : ℕ) (t : ReactorTurn) (ts : List ReactorTurn) → IsOnly i axis end k (t ∷ ts) → IsOnly i axis end (k + 1) ts
  only_behind i axis end k t ts h = record { only = λ j number x low high e. h.only j number x (omega (arith, low)) (omega (arith, high)) e }

  -- its turn
  cut_now : (i axis end k : ℕ) (t : ReactorTurn) (ts : List ReactorTurn) → TellEnds m switches begun (k + 1) ts → IsOnly i axis end k (t ∷ ts) → TellsSwitch m switches begun k t.lines → IsCutOf m switches i axis (cuts_of (lines_of (t ∷ ts)))
  cut_now i axis end k t ts tells h x =
      let o = h.only k x.number x.axis (omega arith) (omega arith) x.ended in
      let at = o.2 in
      let none = ends_none (k + 1) ts tells (λ j number a low high e. let p = h.only j number a (omega (arith, low)) (omega (arith, high)) e in let other = p.2 in omega (arith, other, at, low)) in
      let own : cuts_of t.lines ≡ cut_line m switches i (axis_at m axis) (Some x.tick) =
      x.lines_are ∙ ap (λ n. cut_line m switches n (axis_at m x.axis) (Some x.tick)) o.0 ∙ ap (λ a. cut_line m switches i (axis_at m a) (Some x.tick)) o.1 in
      (x.tick, cuts_both t.lines (lines_of ts) ∙ ap (λ z. cuts_of t.lines ++ z) none ∙ append-nil (cuts_of t.lines) ∙ own)

  ends_few : (i axis end k : ℕ) (ts : List ReactorTurn) → TellEnds m switches begun k ts → IsOnly i axis end k ts → (cuts_of (lines_of ts) ≡ []) ⊎ IsCutOf m switches i axis (cuts_of (lines_of ts))
  ends_few i axis end k [] tells h = inl refl
  ends_few i axis end k (t ∷ ts) tells h = elim tells.0 [
    | inl x ↦ inr (cut_now i axis end k t ts tells.1 h x)
    | inr x ↦
        let same : cuts_of (lines_of (t ∷ ts)) ≡ cuts_of (lines_of ts) = cuts_both t.lines (lines_of ts) ∙ ap (λ z. z ++ cuts_of (lines_of ts)) x.lines_are in
        elim (ends_few i axis end (k + 1) ts tells.1 (only_behind i axis end k t ts h)) [ inl e ↦ inl (same ∙ e) | inr c ↦ inr (c.0, same ∙ c.1) ]
  ]

  ends_one : (i axis end k : ℕ) (ts : List ReactorTurn) → TellEnds m switches begun k ts → IsOnly i axis end k ts → k ≤ end → end < k + length ts → EndsIn begun end i axis → IsCutOf m switches i axis (cuts_of (lines_of ts))
  ends_one i axis end k [] tells h low high e = absurd (omega (arith, low, high))
  ends_one i axis end k (t ∷ ts) tells h low high e = elim tells.0 [
    | inl x ↦ cut_now i axis end k t ts tells.1 h x
    | inr x ↦
        let after : k + 1 ≤ end = elim (leb_tells (k + 1) end) [ inl q ↦ q.1 | inr q ↦ absurd (let a = q.1 in let now : end ≡ k = omega (arith, a, low) in x.none i axis (subst (λ (j : ℕ). EndsIn begun j i axis) now e)) ] in
        let c = ends_one i axis end (k + 1) ts tells.1 (only_behind i axis end k t ts h) after (omega (arith, high)) e in
        (c.0, cuts_both t.lines (lines_of ts) ∙ ap (λ z. z ++ cuts_of (lines_of ts)) x.lines_are ∙ c.1)
  ]

-- all turns of a run
module _ (m : Machine) (switches : List Switch) (begun : List Started) (spread : Spread 260 begun) (at : ℕ) (row : AreInARow at begun) (ts : List ReactorTurn) (tells : TellTurns m begun 0 ts) (ends : TellEnds m switches begun 0 ts) where
  Row : List Started → Type 0
  Row z = AreInARow at z

  -- in a section's turns no other one ends
  among_turns : (past : List Started) (s : Started) (later : List Started) (to j number x : ℕ) → begun ≡ past ++ s ∷ later → NextStart to (map (λ (y : Started). record { start = y.start + 1; end = y.end }) later) → s.start ≤ j → j < to → (e : EndsIn begun j number x)
      → (length past ≡ length e.past) × (s ≡ e.s)
  unfolding Row
  among_turns past s later to j number x cut next low high e = elim (cut_same past s later e.past e.s e.later (sym cut ∙ e.cut)) [
    | inl same ↦ same
    | inr other ↦ absurd (
        let is = e.end in
        let r = subst Row cut row in
        elim other [
          | inl a ↦ let far = (row_past at e.s past s later r a).1 in omega (arith, far, is, low)
          | inr a ↦
              let far = starts_behind to (s.end + 260) later e.s next (row_behind at past s later r) a in
              let R : List Started → Type 0 = λ z. AreInARow at z in
              let order = (row_from at e.past e.s e.later (subst R e.cut row)).1 in
              omega (arith, far, order, is, high)
        ])
  ]

  -- its turns
  record Piece (s : Started) (many : ℕ) : Type 0 where
    tell : TellEnds m switches begun s.start (take many (drop (s.start - 0) ts))
    long : length (take many (drop (s.start - 0) ts)) ≡ many

  piece_of : (s : Started) (many : ℕ) → s.start + many ≤ 0 + length ts → Piece s many
  piece_of s many within =
      let place : 0 + (s.start - 0) ≡ s.start = omega arith in
      let size = length-drop (s.start - 0) ts in
      let From : ℕ → Type 0 = λ i. TellEnds m switches begun i (take many (drop (s.start - 0) ts)) in
      record {
        tell = subst From place (tells_take m switches begun many (0 + (s.start - 0)) (drop (s.start - 0) ts) (tells_drop m switches begun (s.start - 0) 0 ts ends));
        long = length-take-le many (drop (s.start - 0) ts) (omega (arith, size, within));
      }

  no_cut : (i : ℕ) → lines_behind i (lines_of ts) ≡ [] → cuts_in i (lines_of ts) ≡ []
  no_cut i e = ap (λ z. cuts_of (lines_before z)) e

  all_moves : (past : List Started) (s : Started) (later : List Started) → begun ≡ past ++ s ∷ later → s.section.kind ≡ Moves → cuts_in (length past) (lines_of ts) ≡ []
  all_moves past s later cut kind = elim (in_turns m begun spread past s later 0 ts cut tells (omega arith)) [
    | inl none ↦ no_cut (length past) none.0
    | inr x ↦
        let p = piece_of s x.many x.within in
        let long = p.long in
        x.cuts ∙ ends_none m switches begun s.start (take x.many (drop (s.start - 0) ts)) p.tell (λ j number axis low high e.
        let same = among_turns past s later (s.start + x.many) j number axis cut x.next low (omega (arith, high, long)) e in
        let f : Moves ≡ Home axis = sym kind ∙ ap (λ (z : Started). z.section.kind) same.1 ∙ e.home in
        cc)
  ]

  only_of : (past : List Started) (s : Started) (later : List Started) (axis : ℕ) → begun ≡ past ++ s ∷ later → s.section.kind ≡ Home axis → (x : InTurns m begun spread past s later 0 ts) → IsOnly m switches begun (length past) axis s.end s.start (take x.many (drop (s.start - 0) ts))
  only_of past s later axis cut home x =
      let long = (piece_of s x.many x.within).long in
      record {
        only = λ j number a low high e.
            let same = among_turns past s later (s.start + x.many) j number a cut x.next low (omega (arith, high, long)) e in (
              e.number_is ∙ sym same.0,
              home_is a axis (sym e.home ∙ ap (λ (z : Started). z.section.kind) (sym same.1) ∙ home),
              sym e.end ∙ ap (λ (z : Started). z.end) (sym same.1),
            );
      }

  all_homes : (past : List Started) (s : Started) (later : List Started) (axis : ℕ) → begun ≡ past ++ s ∷ later → s.section.kind ≡ Home axis
      → (cuts_in (length past) (lines_of ts) ≡ []) ⊎ IsCutOf m switches (length past) axis (cuts_in (length past) (lines_of ts))
  all_homes past s later axis cut home = elim (in_turns m begun spread past s later 0 ts cut tells (omega arith)) [
    | inl none ↦ inl (no_cut (length past) none.0)
    | inr x ↦
        let p = piece_of s x.many x.within in
        elim (ends_few m switches begun (length past) axis s.end s.start (take x.many (drop (s.start - 0) ts)) p.tell (only_of past s later axis cut home x)) [
          | inl e ↦ inl (x.cuts ∙ e)
          | inr c ↦ inr (c.0, x.cuts ∙ c.1)
        ]
  ]

  -- one that ended before the last turn was over
  all_one : (past : List Started) (s : Started) (later : List Started) (axis : ℕ) → begun ≡ past ++ s ∷ later → s.section.kind ≡ Home axis → s.end < length ts → IsCutOf m switches (length past) axis (cuts_in (length past) (lines_of ts))
  all_one past s later axis cut home over =
      let R : List Started → Type 0 = λ z. AreInARow at z in
      let r = subst R cut row in
      let order = (row_from at past s later r).1 in
      elim (in_turns m begun spread past s later 0 ts cut tells (omega arith)) [
        | inl none ↦ absurd (let far = none.1 in omega (arith, far, order, over))
        | inr x ↦
            let p = piece_of s x.many x.within in
            let long = p.long in
            let high : s.end < s.start + x.many = elim x.ends [ inl e ↦ omega (arith, e, over) | inr a ↦ next_far later (s.start + x.many) (row_behind at past s later r) a ] in
            let c = ends_one m switches begun (length past) axis s.end s.start (take x.many (drop (s.start - 0) ts)) p.tell (only_of past s later axis cut home x) order (omega (arith, high, long))
            (record { past = past; s = s; later = later; cut = cut; number_is = refl; home = home; end = refl }) in
            (c.0, x.cuts ∙ c.1)
      ]
    where
      next_far : (later : List Started) (to : ℕ) → AreInARow (s.end + 260) later → NextAt m begun spread 0 to later → s.end < to
      next_far [] to r a = absurd a
      next_far (y ∷ later) to r a = let far = r.0 in omega (arith, far, a)

  -- before the first section
  all_before : cuts_of (lines_before (lines_of ts)) ≡ []
  all_before = by 0 ts tells ends (λ past s later cut. omega arith)
    where
      by : (k : ℕ) (us : List ReactorTurn) → TellTurns m begun k us → TellEnds m switches begun k us → ((past : List Started) (s : Started) (later : List Started) → begun ≡ past ++ s ∷ later → k ≤ s.start) → cuts_of (lines_before (lines_of us)) ≡ []
      by k [] t e low = refl
      by k (u ∷ us) t e low = elim (starts_one k 0 260 begun spread) [
        | inr q ↦
            let line = report.Section (0 + length q.past) k q.s.section.kind in
            let are : lines_of (u ∷ us) ≡ machine_line m k ++ (line ∷ (t.0.rest ++ lines_of us)) =
            ap (λ z. z ++ lines_of us) (t.0.are ∙ ap (λ z. machine_line m k ++ (z ++ t.0.rest)) q.line) ∙ append_assoc (machine_line m k) (line ∷ t.0.rest) (lines_of us) in
            ap (λ z. cuts_of (lines_before z)) are ∙ cuts_at_start m k (0 + length q.past) k q.s.section.kind (t.0.rest ++ lines_of us)
        | inl none ↦
            let R : List Started → Type 0 = λ z. AreInARow at z in
            let S : List Started → Type 0 = λ z. Spread 260 z in
            let not_now : (past : List Started) (s : Started) (later : List Started) → begun ≡ past ++ s ∷ later → k + 1 ≤ s.start = λ past s later cut. elim (leb_tells (k + 1) s.start) [
              | inl p ↦ p.1
              | inr p ↦ absurd (
                  let high = p.1 in
                  let far = low past s later cut in
                  let f : report.Section (0 + length past) k s.section.kind ∷ [] ≡ [] = sym (ap (starts_at k 0) cut ∙ starts_here k 0 260 past s later (subst S cut spread) (omega (arith, high, far))) ∙ none in
                  cc)
            ] in
            let own : cuts_of u.lines ≡ [] = elim e.0 [
              | inr x ↦ x.lines_are
              | inl x ↦ absurd (
                  let is = x.ended.end in
                  let order = (row_from at x.ended.past x.ended.s x.ended.later (subst R x.ended.cut row)).1 in
                  let far = not_now x.ended.past x.ended.s x.ended.later x.ended.cut in
                  omega (arith, is, order, far))
            ] in
            ap cuts_of (upto_past u.lines (lines_of us) (quiet m begun spread 0 k u t.0 none)) ∙ cuts_both u.lines (lines_before (lines_of us)) ∙ ap (λ z. z ++ cuts_of (lines_before (lines_of us))) own
            ∙ by (k + 1) us t.1 e.1 not_now
      ]

-- the first lines of a report
pub turn_front : (i turn : ℕ) (xs ys : List ReportLine) → section_turn i xs ≡ Some turn → section_turn i (xs ++ ys) ≡ Some turn
turn_front i turn [] ys e = absurd (let f : None ≡ Some turn = e in cc)
turn_front i turn (report.Section j t kind ∷ xs) ys e = by (j == i) (λ f. turn_front i turn xs ys f) e
  where
    by : (b : Bool) → (section_turn i xs ≡ Some turn → section_turn i (xs ++ ys) ≡ Some turn) → (if b then Some t else section_turn i xs) ≡ Some turn → (if b then Some t else section_turn i (xs ++ ys)) ≡ Some turn
    by true rec f = f
    by false rec f = rec f
turn_front i turn (x ∷ xs) ys e = turn_front i turn xs ys e

before_front : (xs ys : List ReportLine) → (more : List ReportLine) × (lines_before (xs ++ ys) ≡ lines_before xs ++ more)
before_front [] ys = (lines_before ys, refl)
before_front (report.Section i turn kind ∷ xs) ys = ([], refl)
before_front (x ∷ xs) ys = let h = before_front xs ys in (h.0, ap (λ z. x ∷ z) h.1)

before_stays : (xs ys : List ReportLine) → heads_of xs ≢ [] → lines_before (xs ++ ys) ≡ lines_before xs
before_stays [] ys some = absurd (some refl)
before_stays (report.Section i turn kind ∷ xs) ys some = refl
before_stays (x ∷ xs) ys some = ap (λ z. x ∷ z) (before_stays xs ys some)

behind_split : (i : ℕ) (xs ys : List ReportLine) → (lines_behind i xs ≡ []) ⊎ (lines_behind i (xs ++ ys) ≡ lines_behind i xs ++ ys)
behind_split i [] ys = inl refl
behind_split i (x ∷ xs) ys = by (begins i x) (behind_split i xs ys)
  where
    by : (b : Bool) → (lines_behind i xs ≡ []) ⊎ (lines_behind i (xs ++ ys) ≡ lines_behind i xs ++ ys)
        → ((if b then xs else lines_behind i xs) ≡ []) ⊎ ((if b then xs ++ ys else lines_behind i (xs ++ ys)) ≡ (if b then xs else lines_behind i xs) ++ ys)
    by true h = inr refl
    by false h = h

-- the cut lines of a section are the first of its cut lines
cuts_front : (i : ℕ) (xs ys : List ReportLine) → (cuts_in i xs ≡ []) ⊎ ((more : List ReportLine) × (cuts_in i (xs ++ ys) ≡ cuts_in i xs ++ more))
cuts_front i xs ys = elim (behind_split i xs ys) [
  | inl e ↦ inl (ap (λ z. cuts_of (lines_before z)) e)
  | inr e ↦
      let f = before_front (lines_behind i xs) ys in
      inr (cuts_of f.0, ap (λ z. cuts_of (lines_before z)) e ∙ ap cuts_of f.1 ∙ cuts_both (lines_before (lines_behind i xs)) f.0)
]

first_one : (xs ys : List ReportLine) (l : ReportLine) → xs ++ ys ≡ l ∷ [] → (xs ≡ []) ⊎ (xs ≡ l ∷ [])
first_one [] ys l e = inl refl
first_one (x ∷ xs) ys l e =
    let f : x ∷ (xs ++ ys) ≡ l ∷ [] = e in
    let same : x ≡ l = cc in
    let rest : xs ++ ys ≡ [] = cc in
    inr (ap (λ z. z ∷ xs) same ∙ ap (λ z. l ∷ z) (left_none xs ys rest))

-- the line of the next section stands behind that of a section
pub some_behind : (i turn : ℕ) (xs : List ReportLine) → section_turn i xs ≡ Some turn → heads_of xs ≢ []
some_behind i turn [] e n = let f : None ≡ Some turn = e in cc
some_behind i turn (report.Section section at kind ∷ xs) e n = let f : report.Section section at kind ∷ heads_of xs ≡ [] = n in cc
some_behind i turn (x ∷ xs) e n = some_behind i turn xs e n

heads_behind : (i turn k : ℕ) (xs : List ReportLine) → AreNumbered k (heads_of xs) → k ≤ i → section_turn (i + 1) xs ≡ Some turn → heads_of (lines_behind i xs) ≢ []
heads_behind i turn k [] n low e = absurd (let f : None ≡ Some turn = e in cc)
heads_behind i turn k (report.Section j at kind ∷ xs) n low e =
    let same : j ≡ k = (let f : report.Section j at kind ≡ report.Section k n.0.0 n.0.1 = n.0.2 in cc) in
    let not : (j == i + 1) ≡ false = elim (eqb_tells j (i + 1)) [ inr p ↦ p.0 | inl p ↦ absurd (let is = p.1 in omega (arith, is, same, low)) ] in
    let more : section_turn (i + 1) xs ≡ Some turn = sym (ap (λ b. if b then Some at else section_turn (i + 1) xs) not) ∙ e in
    elim (eqb_tells j i) [
      | inl p ↦ subst (λ (b : Bool). heads_of (if b then xs else lines_behind i xs) ≢ []) (sym p.0) (some_behind (i + 1) turn xs more)
      | inr p ↦
          let above : k + 1 ≤ i = elim (leb_tells (k + 1) i) [ inl q ↦ q.1 | inr q ↦ absurd (p.1 (let a = q.1 in omega (arith, a, low, same))) ] in
          subst (λ (b : Bool). heads_of (if b then xs else lines_behind i xs) ≢ []) (sym p.0) (heads_behind i turn (k + 1) xs n.1 above more)
    ]
heads_behind i turn k (x ∷ xs) n low e = heads_behind i turn k xs n low e

pub numbered_begun : (k : ℕ) (ss : List Started) → AreNumbered k (begun_lines k ss)
numbered_begun k [] = tt
numbered_begun k (s ∷ ss) = ((s.start, s.section.kind, refl), numbered_begun (k + 1) ss)

-- the section of a number, of those that were begun
pub record HasPlace (begun : List Started) (j : ℕ) : Type 0 where
  pub past : List Started
  pub s : Started
  pub later : List Started
  pub cut : begun ≡ past ++ s ∷ later
  pub place : length past ≡ j

pub place_of : (begun : List Started) (j : ℕ) → j < length begun → HasPlace begun j
place_of [] j low = absurd (omega (arith, low))
place_of (s ∷ begun) zero low = record { past = []; s = s; later = begun; cut = refl; place = refl }
place_of (s ∷ begun) (suc j) low =
    let h = place_of begun j (omega (arith, low)) in
    record { past = s ∷ h.past; s = h.s; later = h.later; cut = ap (λ (z : List Started). s ∷ z) h.cut; place = ap suc h.place }

map_cut : (past : List Started) (s : Started) (later : List Started) → map (λ x. x.section) (past ++ s ∷ later) ≡ map (λ x. x.section) past ++ s.section ∷ map (λ x. x.section) later
map_cut [] s later = refl
map_cut (y ∷ past) s later = ap (λ z. y.section ∷ z) (map_cut past s later)

pub section_here : (sections more : List Section) (begun : List Started) (j : ℕ) (h : HasPlace begun j) → sections ≡ map (λ x. x.section) begun ++ more → section_at sections j ≡ h.s.section
section_here sections more begun j h are = search (rules, map_cut, append_assoc, length-map, get_or-append_seam)

pub kind_at : (sections more : List Section) (begun : List Started) (j : ℕ) (h : HasPlace begun j) → sections ≡ map (λ x. x.section) begun ++ more → section_kind sections j ≡ h.s.section.kind
kind_at sections more begun j h are = ap (λ (x : Section). x.kind) (section_here sections more begun j h are)

-- what has no line has no cuts behind it
none_behind : (i : ℕ) (lines : List ReportLine) → section_turn i lines ≡ None → cuts_in i lines ≡ []
none_behind i [] e = refl
none_behind i (report.Section j turn kind ∷ lines) e = elim (eqb_tells j i) [
  | inl p ↦ absurd (
      let At : Bool → Type 0 = λ b. (if b then Some turn else section_turn i lines) ≡ None in
      let f : Some turn ≡ None = subst At p.0 e in
      cc)
  | inr p ↦
      let At : Bool → Type 0 = λ b. (if b then Some turn else section_turn i lines) ≡ None in
      ap (λ (b : Bool). cuts_of (lines_before (if b then lines else lines_behind i lines))) p.0 ∙ none_behind i lines (subst At p.0 e)
]
none_behind i (report.Board board freq at tick ∷ lines) e = none_behind i lines e
none_behind i (report.Machine corexy boards steppers ∷ lines) e = none_behind i lines e
none_behind i (report.Pulse board stepper tick up ∷ lines) e = none_behind i lines e
none_behind i (report.Cut section board pin tick from ∷ lines) e = none_behind i lines e
none_behind i (report.Drift board sent clock from ∷ lines) e = none_behind i lines e
none_behind i (report.Lines accepted passed ∷ lines) e = none_behind i lines e
none_behind i (report.Out board pin tick on ∷ lines) e = none_behind i lines e
none_behind i (report.Made seed many ∷ lines) e = none_behind i lines e
none_behind i (report.Count stepper many ∷ lines) e = none_behind i lines e
none_behind i (report.Fit section stepper many planned early late ∷ lines) e = none_behind i lines e
none_behind i (report.End c ∷ lines) e = none_behind i lines e

-- a section that homes is there
home_inside : (sections : List Section) (i axis : ℕ) → section_kind sections i ≡ Home axis → i < length sections
home_inside [] i axis e = absurd (let f : Moves ≡ Home axis = e in cc)
home_inside (s ∷ sections) zero axis e = omega arith
home_inside (s ∷ sections) (suc i) axis e = (let h = home_inside sections i axis e in omega (arith, h))

-- so of the lines that were written
module _ (m : Machine) (switches : List Switch) (sections more : List Section) (begun : List Started) (of_text : sections ≡ map (λ x. x.section) begun ++ more) (spread : Spread 260 begun) (at : ℕ) (row : AreInARow at begun) (ts : List ReactorTurn) (tells : TellTurns m begun 0 ts)
    (ends : TellEnds m switches begun 0 ts) (c : Cause) (said rest : List ReportLine) (are : lines_of ts ≡ said ++ rest) (numbered : AreNumbered 0 (heads_of said))
    (through : GoesThrough c → (rest ≡ []) × (length sections ≡ length begun) × ((past : List Started) (s : Started) (later : List Started) → begun ≡ past ++ s ∷ later → s.end < length ts)) where
  -- a section that has its line was begun
  begun_at : (i turn : ℕ) → section_turn i said ≡ Some turn → i < length begun
  begun_at i turn e =
      let x = shown m begun spread 0 0 i turn ts tells (ap (section_turn i) are ∙ turn_front i turn said rest e) in
      let count = ap length x.cut ∙ length-append x.past (x.s ∷ x.later) in
      let place = x.place_is in
      omega (arith, count, place)

  either_at : (i : ℕ) (o : Option ℕ) → section_turn i said ≡ o → (cuts_in i said ≡ []) ⊎ HasPlace begun i
  either_at i None e = inl (none_behind i said e)
  either_at i (Some turn) e = inr (place_of begun i (begun_at i turn e))

  own_kind : (i : ℕ) (k : SectionKind) (p : HasPlace begun i) → section_kind sections i ≡ k → p.s.section.kind ≡ k
  own_kind i k p e = sym (kind_at sections more begun i p of_text) ∙ e

  pub have_cuts : HaveCuts m switches c sections said
  have_cuts = record {
    before =
        let all = all_before m switches begun spread at row ts tells ends in
        let f = before_front said rest in
        left_none (cuts_of (lines_before said)) (cuts_of f.0) (sym (ap (λ z. cuts_of (lines_before z)) are ∙ ap cuts_of f.1 ∙ cuts_both (lines_before said) f.0) ∙ all);
    moves = λ i kind. elim (either_at i (section_turn i said) refl) [ inl none ↦ none | inr p ↦ ap (λ (n : ℕ). cuts_in n said) (sym p.place) ∙ moves_at p.past p.s p.later p.cut (own_kind i Moves p kind) ];
    homes = λ i axis kind. elim (either_at i (section_turn i said) refl) [
      | inl none ↦ inl none
      | inr p ↦
          let Have : ℕ → Type 0 = λ n. (cuts_in n said ≡ []) ⊎ IsCutOf m switches n axis (cuts_in n said) in
          subst Have p.place (homes_at p.past p.s p.later axis p.cut (own_kind i (Home axis) p kind))
    ];
    ended = λ i axis kind why.
        let Next : ℕ → Type 0 = λ n. ((turn : ℕ) × (section_turn (n + 1) said ≡ Some turn)) ⊎ GoesThrough c in
        let Has : ℕ → Type 0 = λ n. IsCutOf m switches n axis (cuts_in n said) in
        let low : i < length begun = elim why [
          | inl next ↦ (let later = begun_at (i + 1) next.0 next.1 in omega (arith, later))
          | inr g ↦ (let inside = home_inside sections i axis kind in let all = (through g).1 in omega (arith, inside, all))
        ] in
        let p = place_of begun i low in
        subst Has p.place (ended_at p.past p.s p.later axis p.cut (own_kind i (Home axis) p kind) (subst Next (sym p.place) why));
  }
    where
      next_shown : (past : List Started) (s : Started) (later : List Started) (axis turn : ℕ) → begun ≡ past ++ s ∷ later → s.section.kind ≡ Home axis → section_turn (length past + 1) said ≡ Some turn → IsCutOf m switches (length past) axis (cuts_in (length past) said)
      next_shown past s later axis turn cut home e =
          let i = length past in
          let here : section_turn (i + 1) (lines_of ts) ≡ Some turn = ap (section_turn (i + 1)) are ∙ turn_front (i + 1) turn said rest e in
          let x = shown m begun spread 0 0 (i + 1) turn ts tells here in
          let place = x.place_is in
          let next = next_begun past s later x.past x.s x.later (sym cut ∙ x.cut) place in
          let R : List Started → Type 0 = λ z. AreInARow at z in
          let Behind : List Started → Type 0 = λ z. AreInARow (s.end + 260) z in
          let far = (subst Behind next (row_behind at past s later (subst R cut row))).0 in
          let start = x.start in
          let some = x.some in
          let within = x.within in
          let one = all_one m switches begun spread at row ts tells ends past s later axis cut home (omega (arith, far, start, some, within)) in
          let heads = heads_behind i turn 0 said numbered (omega arith) e in
          let split : lines_behind i (said ++ rest) ≡ lines_behind i said ++ rest = elim (behind_split i said rest) [ inr f ↦ f | inl f ↦ absurd (heads (ap heads_of f)) ] in
          let in_all : cuts_in i (lines_of ts) ≡ cuts_in i (said ++ rest) = ap (cuts_in i) are in
          let in_split : cuts_in i (said ++ rest) ≡ cuts_of (lines_before (lines_behind i said ++ rest)) = ap (λ z. cuts_of (lines_before z)) split in
          let in_said : cuts_of (lines_before (lines_behind i said ++ rest)) ≡ cuts_in i said = ap cuts_of (before_stays (lines_behind i said) rest heads) in
          let Of : List ReportLine → Type 0 = λ z. IsCutOf m switches i axis z in
          subst Of in_said (subst Of in_split (subst Of in_all one))

      moves_at : (past : List Started) (s : Started) (later : List Started) → begun ≡ past ++ s ∷ later → s.section.kind ≡ Moves → cuts_in (length past) said ≡ []
      moves_at past s later cut kind = elim (cuts_front (length past) said rest) [
        | inl e ↦ e
        | inr f ↦ left_none (cuts_in (length past) said) f.0 (sym (ap (cuts_in (length past)) are ∙ f.1) ∙ all_moves m switches begun spread at row ts tells ends past s later cut kind)
      ]

      homes_at : (past : List Started) (s : Started) (later : List Started) (axis : ℕ) → begun ≡ past ++ s ∷ later → s.section.kind ≡ Home axis → (cuts_in (length past) said ≡ []) ⊎ IsCutOf m switches (length past) axis (cuts_in (length past) said)
      homes_at past s later axis cut home = elim (cuts_front (length past) said rest) [
        | inl e ↦ inl e
        | inr f ↦
            let same = sym (ap (cuts_in (length past)) are ∙ f.1) in
            elim (all_homes m switches begun spread at row ts tells ends past s later axis cut home) [
              | inl e ↦ inl (left_none (cuts_in (length past) said) f.0 (same ∙ e))
              | inr o ↦ elim (first_one (cuts_in (length past) said) f.0 (report.Cut (length past) (axis_at m axis).board (axis_at m axis).pin o.0 (scene_line m switches axis o.0)) (same ∙ o.1)) [ inl e ↦ inl e | inr e ↦ inr (o.0, e) ]
            ]
      ]

      ended_at : (past : List Started) (s : Started) (later : List Started) (axis : ℕ) → begun ≡ past ++ s ∷ later → s.section.kind ≡ Home axis → ((turn : ℕ) × (section_turn (length past + 1) said ≡ Some turn)) ⊎ GoesThrough c → IsCutOf m switches (length past) axis (cuts_in (length past) said)
      ended_at past s later axis cut home why = elim why [
        | inr g ↦
            let one = all_one m switches begun spread at row ts tells ends past s later axis cut home ((through g).2 past s later cut) in
            let whole : lines_of ts ≡ said = are ∙ ap (λ z. said ++ z) (through g).0 ∙ append-nil said in
            (one.0, ap (cuts_in (length past)) (sym whole) ∙ one.1)
        | inl next ↦ next_shown past s later axis next.0 cut home next.1
      ]
