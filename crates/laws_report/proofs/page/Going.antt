-- The lines of a run go through the first sections of its text.
use Rattle.std.proofs.Common.{◌≡◌, ◌≢◌, ◌∙◌, ◌⊎◌, inl, inr, ℕ, suc, ◌+◌, ◌<◌, ◌≤◌, Bool, true, false, List, [], ◌∷◌, length, map, ap, sym, refl, subst, arith, Some}
use Rattle.std.specs.Prelude.{◌==◌}
use Rattle.laws_board.proofs.Names.{nat_tests, Machine, Pulse, Section, SectionKind, Clocks, stepper_at, Fits, clocks_at, stepper_plan, ReportLine}
use Rattle.plan_types.specs.Sections.{base_tick, section_end, is_home}
use Rattle.report_text.specs.declared.line.ReportLine.TheVariants as report
use Rattle.log_check.specs.Points.{section_at}
use Rattle.laws_report.specs.logs.Follows.{in_order}
use Rattle.laws_report.specs.reports.Logged.{logged}
use Rattle.laws_report.specs.reports.Within.{ready_behind}
use Rattle.laws_run.specs.home_headline.Cuts.{cuts_of}
use Rattle.laws_report.specs.reports.Cuts.{cuts_in, lines_before}
use Rattle.laws_report.specs.reports.Shown.{lines_behind, pulses_before, pulses_in, section_turn, sections_shown}
use Rattle.laws_report.specs.reports.Stands.{AreOfSections}
use Rattle.laws_report.specs.page.Log.{TellsPulseOf}
use Rattle.laws_report.proofs.reports.Bridging.{IsOneCut, is-first, is-here, is-later}
use Rattle.laws_report.proofs.page.Front.{Goes, StartsBehind}
use Rattle.plan_types.proofs.Facts.{is_equal, true_or_false}

-- Lines of sections of a text, from one of a number on, which may start in a turn or later: each is the next one, behind the start of the one before where that homes; and
-- else in its turn behind its end.
abbrev pub AreOf : Machine → List Section → List Clocks → ℕ → Bool → ℕ → List ReportLine → Type 0
AreOf m sections clocks k home soon [] = Unit {0}
AreOf m sections clocks k home soon (l ∷ lines) =
    let s = section_at sections k in
    (turn : ℕ) × (l ≡ report.Section k turn s.kind) × (k < length sections) × (soon + s.dwell ≤ turn) × (home ≡ false → soon + s.dwell ≡ turn)
    × AreOf m sections clocks (suc k) (is_home s.kind) (ready_behind (is_home s.kind) turn (section_end m clocks s.moves turn)) lines

-- a section has its line
abbrev pub IsShown : ℕ → List ReportLine → Type 0
IsShown j lines = (turn : ℕ) × (section_turn j lines ≡ Some turn)

-- What is known of the sections from a number on whose lines are to come: their pulses fit by the lines that are told, and their cut lines are
-- theirs. Where the next one is shown too, one of moves ends by these lines as it does; then, or where the run went through, one that homes has a cut line;
-- and one of moves is whole where the run went through, or behind the next one's line a pulse of the board is told.
pub record Ahead (through : Type 0) (m : Machine) (sections : List Section) (clocks lines : List Clocks) (n : ℕ) (home : Bool) (soon : ℕ) (rest : List ReportLine) : Type 0 where
  pub shown : AreOf m sections clocks n home soon (sections_shown rest)
  pub fits : (j at s : ℕ) → n ≤ j → section_turn j rest ≡ Some at → s < length m.steppers →
      Fits (clocks_at lines (stepper_at m s).board).first.freq (base_tick m lines at s) (pulses_in j s rest) (stepper_plan m lines (section_at sections j).moves at s)
  pub ends : (j at next : ℕ) → n ≤ j → section_turn j rest ≡ Some at → section_turn (suc j) rest ≡ Some next → is_home (section_at sections j).kind ≡ false →
      section_end m lines (section_at sections j).moves at ≡ section_end m clocks (section_at sections j).moves at
  pub uncut : (j at : ℕ) → n ≤ j → section_turn j rest ≡ Some at → is_home (section_at sections j).kind ≡ false → cuts_in j rest ≡ []
  pub one : (j at : ℕ) → n ≤ j → section_turn j rest ≡ Some at → (cuts_in j rest ≡ []) ⊎ IsOneCut j (cuts_in j rest)
  pub ended : (j at : ℕ) → n ≤ j → section_turn j rest ≡ Some at → through ⊎ IsShown (suc j) rest → is_home (section_at sections j).kind ≡ true → cuts_in j rest ≢ []
  pub whole : (j at s : ℕ) → n ≤ j → section_turn j rest ≡ Some at → is_home (section_at sections j).kind ≡ false → s < length m.steppers →
      through ⊎ (IsShown (suc j) rest × TellsPulseOf m (stepper_at m s).board (in_order (map logged (lines_behind (suc j) rest)))) → length (pulses_in j s rest) ≡ length (stepper_plan m lines (section_at sections j).moves at s)

-- and of the one that is open
record Now (through : Type 0) (m : Machine) (sections : List Section) (clocks lines : List Clocks) (i turn : ℕ) (cut : Bool) (total : ℕ → ℕ) (rest : List ReportLine) : Type 0 where
  end : (next : ℕ) → section_turn (suc i) rest ≡ Some next → is_home (section_at sections i).kind ≡ false → section_end m lines (section_at sections i).moves turn ≡ section_end m clocks (section_at sections i).moves turn
  uncut : is_home (section_at sections i).kind ≡ false → (cut ≡ false) × (cuts_of (lines_before rest) ≡ [])
  one : (cuts_of (lines_before rest) ≡ []) ⊎ IsOneCut i (cuts_of (lines_before rest))
  ended : through ⊎ IsShown (suc i) rest → is_home (section_at sections i).kind ≡ true → (cut ≡ true) ⊎ (cuts_of (lines_before rest) ≢ [])
  whole : (s : ℕ) → is_home (section_at sections i).kind ≡ false → s < length m.steppers → through ⊎ (IsShown (suc i) rest × TellsPulseOf m (stepper_at m s).board (in_order (map logged (lines_behind (suc i) rest)))) →
      total s ≡ length (stepper_plan m lines (section_at sections i).moves turn s)

not-at : (n j : ℕ) → suc n ≤ j → (n == j) ≡ false
not-at n j late = grind (arith, nat_tests)

-- when the next section may start
due-behind : (home cut : Bool) (turn end other dwell at : ℕ) → (home ≡ false → cut ≡ false) → (home ≡ true → cut ≡ true) → (home ≡ false → end ≡ other) → ready_behind home turn other + dwell ≤ at → (home ≡ false → ready_behind home turn other + dwell ≡ at) → StartsBehind cut turn end dwell at
due-behind true true turn end other dwell at moved stopped ends due same = (due, λ uncut. absurd (let f : true ≡ false = uncut in cc))
due-behind true false turn end other dwell at moved stopped ends due same = absurd (let e : false ≡ true = stopped refl in cc)
due-behind false true turn end other dwell at moved stopped ends due same = absurd (let e : true ≡ false = moved refl in cc)
due-behind false false turn end other dwell at moved stopped ends due same = (let e = ends refl in let f = same refl in (omega (arith, e, due), λ uncut. omega (arith, e, f)))

either-cut : (cut : Bool) (none : List ReportLine) → none ≡ [] → (cut ≡ true) ⊎ (none ≢ []) → cut ≡ true
either-cut cut none e (inl f) = f
either-cut cut none e (inr f) = absurd (f e)

module _ (through : Type 0) (m : Machine) (sections : List Section) (clocks lines : List Clocks) where
  -- the turn from which on the section behind one that started in a turn may start
  abbrev Soon : ℕ → ℕ → ℕ
  Soon i turn = ready_behind (is_home (section_at sections i).kind) turn (section_end m clocks (section_at sections i).moves turn)

  -- what is not cut doesn't home
  moving : (i : ℕ) (cut : Bool) → cut ≡ false → (is_home (section_at sections i).kind ≡ true → cut ≡ true) → is_home (section_at sections i).kind ≡ false
  moving i cut uncut stopped = elim (true_or_false (is_home (section_at sections i).kind)) [ inl h ↦ absurd (let e : false ≡ true = sym uncut ∙ stopped h in cc) | inr h ↦ h ]

  -- behind the line of a section it is the one that is open
  begun : (i j at : ℕ) (home : Bool) (soon : ℕ) (kind : SectionKind) (rest : List ReportLine) → Ahead through m sections clocks lines i home soon (report.Section j at kind ∷ rest) → j ≡ i → (Ahead through m sections clocks lines (suc i) (is_home (section_at sections i).kind) (Soon i at) rest → Now through m sections clocks lines i at false (λ s. length (pulses_before s rest)) rest → Goes through m sections lines i at false (λ s. length (pulses_before s rest)) rest) → Goes through m sections lines i at false (λ s. length (pulses_before s rest)) rest
  begun i j at home soon kind rest ahead number onward =
      let here = report.Section j at kind ∷ rest in
      let self = is_equal j i number in
      let not : (k : ℕ) → suc i ≤ k → (j == k) ≡ false = λ k late. not-at j k (omega (arith, late, number)) in
      let turns : (k : ℕ) → suc i ≤ k → section_turn k here ≡ section_turn k rest = λ k late. is-later (j == k) (Some at) (section_turn k rest) (not k late) in
      let pulses_are : (k s : ℕ) → suc i ≤ k → pulses_in k s here ≡ pulses_in k s rest = λ k s late. is-later (j == k) (pulses_before s rest) (pulses_in k s rest) (not k late) in
      let cuts_are : (k : ℕ) → suc i ≤ k → cuts_in k here ≡ cuts_in k rest = λ k late. ap (λ (z : List ReportLine). cuts_of (lines_before z)) (is-later (j == k) rest (lines_behind k rest) (not k late)) in
      let shown_so = λ (k : ℕ) (late : suc i ≤ suc k) (why : through ⊎ IsShown (suc k) rest). elim why as (λ _. through ⊎ IsShown (suc k) here) [ inl g ↦ inl g | inr x ↦ inr (x.0, turns (suc k) late ∙ x.1) ] in
      let Tells : ℕ → List ReportLine → Type 0 = λ s z. TellsPulseOf m (stepper_at m s).board (in_order (map logged z)) in
      let told_so = λ (k s : ℕ) (late : suc i ≤ suc k) (why : through ⊎ (IsShown (suc k) rest × Tells s (lines_behind (suc k) rest))). elim why as (λ _. through ⊎ (IsShown (suc k) here × Tells s (lines_behind (suc k) here))) [
        | inl g ↦ inl g
        | inr x ↦ inr ((x.0.0, turns (suc k) late ∙ x.0.1), subst (Tells s) (sym (is-later (j == suc k) rest (lines_behind (suc k) rest) (not (suc k) late))) x.1)
      ] in
      let same : report.Section j at kind ≡ report.Section i ahead.shown.0 (section_at sections i).kind = ahead.shown.1 in
      let when : ahead.shown.0 ≡ at = cc in
      let now : section_turn i here ≡ Some at = is-first (j == i) at (section_turn i rest) self in
      let cut_here : cuts_in i here ≡ cuts_of (lines_before rest) = ap (λ (z : List ReportLine). cuts_of (lines_before z)) (is-here (j == i) rest (lines_behind i rest) self) in
      onward (record {
        shown = subst (λ (n : ℕ). AreOf m sections clocks (suc i) (is_home (section_at sections i).kind) (Soon i n) (sections_shown rest)) when ahead.shown.5;
        fits = λ k t s late e inside. subst (λ (ps : List Pulse). Fits (clocks_at lines (stepper_at m s).board).first.freq (base_tick m lines t s) ps (stepper_plan m lines (section_at sections k).moves t s)) (pulses_are k s late)
            (ahead.fits k t s (omega (arith, late)) (turns k late ∙ e) inside);
        ends = λ k t next late e f. ahead.ends k t next (omega (arith, late)) (turns k late ∙ e) (turns (suc k) (omega (arith, late)) ∙ f);
        uncut = λ k t late e h. sym (cuts_are k late) ∙ ahead.uncut k t (omega (arith, late)) (turns k late ∙ e) h;
        one = λ k t late e. subst (λ (z : List ReportLine). (z ≡ []) ⊎ IsOneCut k z) (cuts_are k late) (ahead.one k t (omega (arith, late)) (turns k late ∙ e));
        ended = λ k t late e why h none. ahead.ended k t (omega (arith, late)) (turns k late ∙ e) (shown_so k (omega (arith, late)) why) h (cuts_are k late ∙ none);
        whole = λ k t s late e h inside why. sym (ap length (pulses_are k s late)) ∙ ahead.whole k t s (omega (arith, late)) (turns k late ∙ e) h inside (told_so k s (omega (arith, late)) why);
      }) (record {
        end = λ next f. ahead.ends i at next (omega arith) now (turns (suc i) (omega arith) ∙ f);
        uncut = λ h. (refl, sym cut_here ∙ ahead.uncut i at (omega arith) now h);
        one = subst (λ (z : List ReportLine). (z ≡ []) ⊎ IsOneCut i z) cut_here (ahead.one i at (omega arith) now);
        ended = λ why h. inr (λ none. ahead.ended i at (omega arith) now (shown_so i (omega arith) why) h (cut_here ∙ none));
        whole = λ s h inside why. sym (ap length (is-here (j == i) (pulses_before s rest) (pulses_in i s rest) self)) ∙ ahead.whole i at s (omega arith) now h inside (told_so i s (omega arith) why);
      })

  goes : (i turn : ℕ) (cut : Bool) (total : ℕ → ℕ) (rest : List ReportLine) → AreOfSections true rest → Ahead through m sections clocks lines (suc i) (is_home (section_at sections i).kind) (Soon i turn) rest → Now through m sections clocks lines i turn cut total rest → Goes through m sections lines i turn cut total rest
  goes i turn cut total [] behind ahead now = λ uncut s inside gone. now.whole s (moving i cut uncut (λ h. either-cut cut [] refl (now.ended (inl gone) h))) inside (inl gone)
  goes i turn cut total (report.Section j at kind ∷ rest) behind ahead now =
      let e : report.Section j at kind ≡ report.Section (suc i) ahead.shown.0 (section_at sections (suc i)).kind = ahead.shown.1 in
      let number : j ≡ suc i = cc in
      let same : kind ≡ (section_at sections (suc i)).kind = cc in
      let when : ahead.shown.0 ≡ at = cc in
      let here : section_turn (suc i) (report.Section j at kind ∷ rest) ≡ Some at = is-first (j == suc i) at (section_turn (suc i) rest) (is_equal j (suc i) number) in
      let home = is_home (section_at sections i).kind in
      let soon : Soon i turn + (section_at sections (suc i)).dwell ≤ at = subst (λ (n : ℕ). Soon i turn + (section_at sections (suc i)).dwell ≤ n) when ahead.shown.3 in
      let timely : home ≡ false → Soon i turn + (section_at sections (suc i)).dwell ≡ at = λ h. ahead.shown.4 h ∙ when in
      let due = due-behind home cut turn (section_end m lines (section_at sections i).moves turn) (section_end m clocks (section_at sections i).moves turn) (section_at sections (suc i)).dwell at
      (λ h. (now.uncut h).0) (λ h. either-cut cut [] refl (now.ended (inr (at, here)) h)) (now.end at here) soon timely in
      let fits = λ (s : ℕ) (inside : s < length m.steppers). subst (λ (ps : List Pulse). Fits (clocks_at lines (stepper_at m s).board).first.freq (base_tick m lines at s) ps (stepper_plan m lines (section_at sections (suc i)).moves at s))
      (is-here (j == suc i) (pulses_before s rest) (pulses_in (suc i) s rest) (is_equal j (suc i) number)) (ahead.fits (suc i) at s (omega arith) here inside) in
      let behind_it = is-here (j == suc i) rest (lines_behind (suc i) rest) (is_equal j (suc i) number) in
      let Tells : ℕ → List ReportLine → Type 0 = λ b z. TellsPulseOf m b (in_order (map logged z)) in
      let whole = λ (uncut : cut ≡ false) (s : ℕ) (inside : s < length m.steppers) (why : through ⊎ Tells (stepper_at m s).board rest).
      now.whole s (moving i cut uncut (λ h. either-cut cut [] refl (now.ended (inr (at, here)) h))) inside (elim why as (λ _. through ⊎ (IsShown (suc i) (report.Section j at kind ∷ rest) × Tells (stepper_at m s).board (lines_behind (suc i) (report.Section j at kind ∷ rest)))) [
        | inl gone ↦ inl gone
        | inr x ↦ inr ((at, here), subst (Tells (stepper_at m s).board) (sym behind_it) x)
      ]) in
      (number, ahead.shown.2, same, due, fits, whole, begun (suc i) j at home (Soon i turn) kind rest ahead number (λ a n. goes (suc i) at false (λ s. length (pulses_before s rest)) rest behind a n))
  goes i turn cut total (report.Pulse board stepper tick up ∷ rest) behind ahead now =
      goes i turn cut total rest behind (record { shown = ahead.shown; fits = ahead.fits; ends = ahead.ends; uncut = ahead.uncut; one = ahead.one; ended = ahead.ended; whole = ahead.whole })
      (record { end = now.end; uncut = now.uncut; one = now.one; ended = now.ended; whole = now.whole })
  goes i turn cut total (report.Cut j board pin tick from ∷ rest) behind ahead now = elim now.one [
    | inl none ↦ (let f : report.Cut j board pin tick from ∷ cuts_of (lines_before rest) ≡ [] = none in cc)
    | inr found ↦
        let f : report.Cut j board pin tick from ∷ cuts_of (lines_before rest) ≡ report.Cut i found.0 found.1 found.2 found.3 ∷ [] = found.4 in
        let same : j ≡ i = cc in
        let none : cuts_of (lines_before rest) ≡ [] = cc in
        let home : is_home (section_at sections i).kind ≡ true = elim (true_or_false (is_home (section_at sections i).kind)) [
          | inl h ↦ h
          | inr h ↦ absurd (let g : report.Cut j board pin tick from ∷ cuts_of (lines_before rest) ≡ [] = (now.uncut h).1 in cc)
        ] in (
          same,
          home,
          goes i turn true total rest behind.1 (record { shown = ahead.shown; fits = ahead.fits; ends = ahead.ends; uncut = ahead.uncut; one = ahead.one; ended = ahead.ended; whole = ahead.whole })
              (record { end = now.end; uncut = λ h. absurd (let g : true ≡ false = sym home ∙ h in cc); one = inl none; ended = λ why h. inl refl; whole = now.whole }),
        )
  ]
  goes i turn cut total (report.Machine corexy many others ∷ rest) behind ahead now =
      goes i turn cut total rest behind (record { shown = ahead.shown; fits = ahead.fits; ends = ahead.ends; uncut = ahead.uncut; one = ahead.one; ended = ahead.ended; whole = ahead.whole })
      (record { end = now.end; uncut = now.uncut; one = now.one; ended = now.ended; whole = now.whole })
  goes i turn cut total (report.Drift board sent clock from ∷ rest) behind ahead now =
      goes i turn cut total rest behind (record { shown = ahead.shown; fits = ahead.fits; ends = ahead.ends; uncut = ahead.uncut; one = ahead.one; ended = ahead.ended; whole = ahead.whole })
      (record { end = now.end; uncut = now.uncut; one = now.one; ended = now.ended; whole = now.whole })
  goes i turn cut total (report.Lines accepted passed ∷ rest) behind ahead now =
      goes i turn cut total rest behind (record { shown = ahead.shown; fits = ahead.fits; ends = ahead.ends; uncut = ahead.uncut; one = ahead.one; ended = ahead.ended; whole = ahead.whole })
      (record { end = now.end; uncut = now.uncut; one = now.one; ended = now.ended; whole = now.whole })
  goes i turn cut total (report.Board board freq at tick ∷ rest) behind ahead now = absurd behind
  goes i turn cut total (report.Out board pin tick on ∷ rest) behind ahead now = absurd behind
  goes i turn cut total (report.Made seed many ∷ rest) behind ahead now = absurd behind
  goes i turn cut total (report.Count stepper many ∷ rest) behind ahead now = absurd behind
  goes i turn cut total (report.Fit section stepper many planned early late ∷ rest) behind ahead now = absurd behind
  goes i turn cut total (report.End c ∷ rest) behind ahead now = absurd behind

  -- the lines behind that of the first section
  pub goes-on : (at : ℕ) (home : Bool) (soon : ℕ) (kind : SectionKind) (rest : List ReportLine) → AreOfSections true rest → Ahead through m sections clocks lines 0 home soon (report.Section 0 at kind ∷ rest) → Goes through m sections lines 0 at false (λ s. length (pulses_before s rest)) rest
  goes-on at home soon kind rest behind ahead = begun 0 0 at home soon kind rest ahead refl (λ a n. goes 0 at false (λ s. length (pulses_before s rest)) rest behind a n)
