-- What the first lines of a run's report tell of further clock lines.
use Rattle.std.proofs.Common.{◌≡◌, ℕ, suc, ◌+◌, ◌<◌, ◌≤◌, List, [], ◌∷◌, ◌++◌, length, take, drop, refl, ap, sym, ◌∙◌, subst, arith, inl, inr, append_assoc, append-nil, length-append}
use Rattle.laws_board.proofs.Names.{flat_map-append, take-append-drop, Machine, Held, Clocks, ReportLine, ReactorTurn, gather}
use Rattle.std.proofs.lemmas.List.{length-take-le}
use Rattle.report_text.specs.declared.line.ReportLine.TheVariants as report
use Rattle.host_reactor.specs.Report.{turn_at}
use Rattle.laws_board.proofs.sections.Lists.{cuts, nil_cons}
use Rattle.laws_board.specs.plans.Lines.{drift_in, drifts_of, held_lines}
use Rattle.laws_run.specs.run_ends.Boards.{boards_of}
use Rattle.laws_run.proofs.run_ends.Connecting.{boards_append}
use Rattle.laws_run.specs.run_headline.Further.{AreNamed, BoardsFirst, TellFurther}
use Rattle.section_feed.specs.Fewer.{HoldBehind}

pub left_none : (xs ys : List ReportLine) → xs ++ ys ≡ [] → xs ≡ []
left_none [] ys e = refl
left_none (x ∷ xs) ys e = cc

pub first_front : (xs ys : List ReportLine) → BoardsFirst (xs ++ ys) → BoardsFirst xs
first_front [] ys f = tt
first_front (report.Machine corexy boards steppers ∷ xs) ys f = first_front xs ys f
first_front (report.Board board freq turn tick ∷ xs) ys f = first_front xs ys f
first_front (report.Section i turn kind ∷ xs) ys f = first_front xs ys f
first_front (report.Pulse board stepper tick up ∷ xs) ys f = first_front xs ys f
first_front (report.Cut i board pin tick from ∷ xs) ys f = first_front xs ys f
first_front (report.Drift board sent clock from ∷ xs) ys f = (left_none (boards_of xs) (boards_of ys) (sym (boards_append xs ys) ∙ f.0), first_front xs ys f.1)
first_front (report.Lines accepted passed ∷ xs) ys f = first_front xs ys f
first_front (report.Out board pin tick on ∷ xs) ys f = first_front xs ys f
first_front (report.Made seed moves ∷ xs) ys f = first_front xs ys f
first_front (report.Count stepper pulses ∷ xs) ys f = first_front xs ys f
first_front (report.Fit section stepper pulses planned early late ∷ xs) ys f = first_front xs ys f
first_front (report.End c ∷ xs) ys f = first_front xs ys f

pub named_front : (m : Machine) (xs ys : List ReportLine) → AreNamed m (xs ++ ys) → AreNamed m xs
named_front m [] ys f = tt
named_front m (report.Machine corexy boards steppers ∷ xs) ys f = named_front m xs ys f
named_front m (report.Board board freq turn tick ∷ xs) ys f = named_front m xs ys f
named_front m (report.Section i turn kind ∷ xs) ys f = named_front m xs ys f
named_front m (report.Pulse board stepper tick up ∷ xs) ys f = named_front m xs ys f
named_front m (report.Cut i board pin tick from ∷ xs) ys f = named_front m xs ys f
named_front m (report.Drift board sent clock from ∷ xs) ys f = (f.0, named_front m xs ys f.1)
named_front m (report.Lines accepted passed ∷ xs) ys f = named_front m xs ys f
named_front m (report.Out board pin tick on ∷ xs) ys f = named_front m xs ys f
named_front m (report.Made seed moves ∷ xs) ys f = named_front m xs ys f
named_front m (report.Count stepper pulses ∷ xs) ys f = named_front m xs ys f
named_front m (report.Fit section stepper pulses planned early late ∷ xs) ys f = named_front m xs ys f
named_front m (report.End c ∷ xs) ys f = named_front m xs ys f

-- some of the lines that tell held ones tell the first of them
record Split (b : ℕ) (held : List Held) (xs ys : List ReportLine) : Type 0 where
  front : List Held
  back : List Held
  are : held ≡ front ++ back
  first : held_lines b front ≡ xs
  then : held_lines b back ≡ ys

split : (b : ℕ) (held : List Held) (xs ys : List ReportLine) → held_lines b held ≡ xs ++ ys → Split b held xs ys
split b held [] ys e = record { front = []; back = held; are = refl; first = refl; then = e }
split b [] (x ∷ xs) ys e = absurd (none e)
  where
    none : [] ≡ x ∷ (xs ++ ys) → ⊥
    none f = cc
split b (h ∷ held) (x ∷ xs) ys e =
    let head : report.Drift b (turn_at h.line.at) h.line.clock h.from ≡ x = cc in
    let tail : held_lines b held ≡ xs ++ ys = cc in
    let r = split b held xs ys tail in
    record { front = h ∷ r.front; back = r.back; are = ap (λ hs. h ∷ hs) r.are; first = ap (λ l. l ∷ held_lines b r.front) head ∙ ap (λ ls. x ∷ ls) r.first; then = r.then }

long_held : (b : ℕ) (held : List Held) → length (held_lines b held) ≡ length held
long_held b [] = refl
long_held b (h ∷ held) = ap suc (long_held b held)

-- what is left of some lines holds from behind a turn on, where more that is left of them does
hold_rest : (turn : ℕ) (xs ys us vs : List Held) → xs ++ ys ≡ us ++ vs → length xs ≤ length us → HoldBehind turn ys → HoldBehind turn vs
hold_rest turn [] ys us vs e few h = back us vs (subst (HoldBehind turn) e h)
  where
    back : (us vs : List Held) → HoldBehind turn (us ++ vs) → HoldBehind turn vs
    back [] vs h = h
    back (u ∷ us) vs h = back us vs h.1
hold_rest turn (x ∷ xs) ys [] vs e few h = absurd (omega (arith, few))
hold_rest turn (x ∷ xs) ys (u ∷ us) vs e few h = (let then : xs ++ ys ≡ us ++ vs = cc in hold_rest turn xs ys us vs then (omega (arith, few)) h)

-- The turn that some first lines of a report reach: they are those of the turns before it, and some of its own.
pub record Reach (turns : List ReactorTurn) (said rest : List ReportLine) : Type 0 where
  pub n : ℕ
  pub within : n < length turns
  pub more : List ReportLine
  pub upto : gather (λ t. t.lines) (take (suc n) turns) ≡ said ++ more
  pub part : List ReportLine
  pub from : said ≡ gather (λ t. t.lines) (take n turns) ++ part
  pub whole : rest ≡ [] → suc n ≡ length turns

pub reach : (first : ReactorTurn) (later : List ReactorTurn) (said rest : List ReportLine) → gather (λ t. t.lines) (first ∷ later) ≡ said ++ rest → Reach (first ∷ later) said rest
reach first [] said rest e = record { n = 0; within = omega arith; more = rest; upto = e; part = said; from = refl; whole = λ none. refl }
reach first (t ∷ later) said rest e =
    let lines = λ (ts : List ReactorTurn). gather (λ (z : ReactorTurn). z.lines) ts in
    elim (cuts first.lines (lines (t ∷ later)) said rest e) [
      | inl p ↦
          let r = reach t later p.0 rest p.2 in
          let within = r.within in
          record {
            n = suc r.n;
            within = omega (arith, within);
            more = r.more;
            upto = ap (λ z. first.lines ++ z) r.upto ∙ sym (append_assoc first.lines p.0 r.more) ∙ ap (λ z. z ++ r.more) (sym p.1);
            part = r.part;
            from = p.1 ∙ ap (λ z. first.lines ++ z) r.from ∙ sym (append_assoc first.lines (lines (take r.n (t ∷ later))) r.part);
            whole = λ none. ap suc (r.whole none);
          }
      | inr p ↦ record {
        n = 0;
        within = omega arith;
        more = p.0 ∷ p.1;
        upto = append-nil first.lines ∙ p.2;
        part = said;
        from = refl;
        whole = λ none. absurd (nil_cons p.0 (p.1 ++ lines (t ∷ later)) (sym none ∙ p.3));
      }
    ]

-- the first lines of a report
pub further_front : (m : Machine) (clocks : List Clocks) (turns : List ReactorTurn) (said rest : List ReportLine) (r : Reach turns said rest) → gather (λ t. t.lines) turns ≡ said ++ rest
    → ((front later : List ReactorTurn) → turns ≡ front ++ later → TellFurther m clocks (length front + 271) (gather (λ t. t.lines) front)) → TellFurther m clocks (r.n + 271) said
further_front m clocks turns said rest r are tells = record {
  first = first_front said rest (subst BoardsFirst are all.first);
  named = named_front m said rest (subst (AreNamed m) are all.named);
  further = λ b inside.
      let lines = λ (ts : List ReactorTurn). gather (λ (z : ReactorTurn). z.lines) ts in
      let t = all.further b inside in
      let front = before.further b inside in
      let s = split b t.told (drifts_of b said) (drifts_of b rest) (sym t.lines_are ∙ ap (drifts_of b) are ∙ flat_map-append (drift_in b) said rest) in
      let cut : s.front ++ (s.back ++ t.rest) ≡ front.told ++ front.rest = sym (append_assoc s.front s.back t.rest) ∙ ap (λ hs. hs ++ t.rest) (sym s.are) ∙ sym t.are ∙ front.are in
      let many = sym (long_held b s.front) ∙ ap length (s.first ∙ ap (drifts_of b) r.from ∙ flat_map-append (drift_in b) (lines (take r.n turns)) r.part) ∙ length-append (drifts_of b (lines (take r.n turns))) (drifts_of b r.part) in
      let few = sym (long_held b front.told) ∙ ap length (sym front.lines_are) in
      let size = length-take-le r.n turns (let within = r.within in omega (arith, within)) in
      let Behind : ℕ → Type 0 = λ n. HoldBehind (n + 271) front.rest in
      record {
        told = s.front;
        rest = s.back ++ t.rest;
        are = t.are ∙ ap (λ hs. hs ++ t.rest) s.are ∙ append_assoc s.front s.back t.rest;
        lines_are = sym s.first;
        later = hold_rest (r.n + 271) front.told front.rest s.front (s.back ++ t.rest) (sym cut) (omega (arith, many, few)) (subst Behind size front.later);
      };
}
  where
    all : TellFurther m clocks (length turns + 271) (gather (λ t. t.lines) turns)
    all = tells turns [] (sym (append-nil turns))

    before : TellFurther m clocks (length (take r.n turns) + 271) (gather (λ t. t.lines) (take r.n turns))
    before = tells (take r.n turns) (drop r.n turns) (sym (take-append-drop r.n turns))
