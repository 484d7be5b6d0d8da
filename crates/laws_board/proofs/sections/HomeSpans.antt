-- The pulses of each section of a run, of moves or homing.
use Rattle.std.proofs.Common.{◌≡◌, ℕ, Bool, true, false, ◌+◌, ◌-◌, ◌<◌, ◌≤◌, List, [], ◌∷◌, ◌++◌, All, length, Option, refl, ap, sym, ◌∙◌, subst, arith, append_assoc, append-nil}
use Rattle.laws_board.proofs.Names.{All-head, All-tail, Level, BoardDef, Pulse, Clocks, Fits, only, Core, Step, run_world, new_world, Orders, run_append, BoardSection, base_of, section_steps}
use Rattle.plan_types.specs.Plan.{AreSpaced}
use Rattle.board_sim.proofs.Steps.{only-append}
use Rattle.laws_board.specs.sections.Events.{AreTicks}
use Rattle.laws_board.specs.sections.Known.{sent_in}
use Rattle.laws_board.specs.sections.Parts.{AreTracked}
use Rattle.laws_board.specs.sections.Runs.{Made}
use Rattle.laws_board.specs.sections.Courses as course
use Rattle.laws_board.specs.sections.Homes.{RunSection, IsSectionBy, AreInTurn, AreFrontsIn, NextBehind, AreOverBy, IsHomeSpan}
use Rattle.laws_board.proofs.sections.Clocks.{ticks_rise, ticks_up}
use Rattle.laws_board.proofs.sections.Entering.{AreEarly}
use Rattle.laws_board.proofs.sections.Spans.{AreLate, between_early, between_late, early_append, early_up, late_append, late_fits, middle_begins, sent_in_append, all_split, fits_front}
use Rattle.laws_board.proofs.sections.Turning.{timely_front, timely_behind}
use Rattle.laws_board.proofs.sections.Windows.{Makes}
use Rattle.laws_board.proofs.sections.Wholes.{first_of_own, late_front}
use Rattle.laws_board.proofs.sections.Stepping.{Script, Keeps, heed_front, heed_behind}
use Rattle.laws_board.proofs.sections.Coursed.{begins, turns_keep}
use Rattle.laws_board.proofs.sections.Halted.{keeps_fronts}
use Rattle.laws_board.proofs.sections.Standing.{no_front}
use Rattle.laws_board.proofs.sections.Unmoved.{none_own}

-- what a run is made of
abbrev pub script_of : (b : BoardDef) (pins : List (List Level)) (own : ℕ → ℕ) (clocks : Clocks) (ready : ℕ) (stops : ℕ → Option ℕ) (ss : List RunSection) (before during behind : List Orders) (first second : List Step)
    → IsHomeSpan b pins own clocks ready stops ss before during behind first second → Script
script_of b pins own clocks ready stops ss before during behind first second r = record {
  own = own;
  stops = stops;
  slots = b.slots;
  all = sent_in 0 (before ++ (during ++ behind));
  front = r.split.front;
  tail = r.split.tail;
  are = r.split.are;
  up = ticks_up own r.ticks;
  ahead = r.run_is.ahead;
  good = r.split.good;
  lost = r.split.lost;
}

-- the two parts of a run, with their pulses
pub record Halves (own : ℕ → ℕ) (ss : List RunSection) (a d : ℕ) (start_made mid late : List Pulse) : Type 0 where
  pub sofar : Makes (own 0) (own a) start_made mid
  pub new : Makes (own a) (own d) mid late
  pub fronts : (oid : ℕ) → AreFrontsIn own oid ss (only oid late)

pub halves : (b : BoardDef) (pins : List (List Level)) (own : ℕ → ℕ) (clocks : Clocks) (ready : ℕ) (stops : ℕ → Option ℕ) (ss : List RunSection) (before during behind : List Orders) (first second : List Step)
    → IsHomeSpan b pins own clocks ready stops ss before during behind first second
    → Halves own ss (length before) (length before + length during) [] (run_world first (new_world b pins)).made (run_world (first ++ second) (new_world b pins)).made
halves b pins own clocks ready stops ss before during behind first second r =
    let p = script_of b pins own clocks ready stops ss before during behind first second r in
    let a = length before in
    let d = a + length during in
    let h0 = new_world b pins in
    let h1 = run_world first h0 in
    let s1 = sent_in 0 before in
    let s2 = sent_in a during in
    let s3 = sent_in d behind in
    let zero_more : 0 + a ≡ a = omega arith in
    let cut_two : sent_in a (during ++ behind) ≡ s2 ++ s3 = sent_in_append a during behind in
    let cut_one : sent_in 0 (before ++ (during ++ behind)) ≡ s1 ++ sent_in a (during ++ behind) =
    sent_in_append 0 before (during ++ behind) ∙ ap (λ n. s1 ++ sent_in n (during ++ behind)) zero_more in
    let whole : s1 ++ (s2 ++ s3) ≡ p.all = ap (λ x. s1 ++ x) (sym cut_two) ∙ sym cut_one in
    let more : (s1 ++ s2) ++ s3 ≡ p.all = append_assoc s1 s2 s3 ∙ whole in
    let k1 = turns_keep p 0 [] (s2 ++ s3) before first h0 r.first_turns (begins p b pins r.begin refl) whole (timely_front first second h0 r.timely) r.first_settled (heed_front p.front p.tail first second h0 r.heed) in
    let At : ℕ → Type 0 = λ n. Keeps p n n s1 h1 in
    let To : ℕ → Type 0 = λ n. Makes (own 0) (own n) [] h1.made in
    let k2 = turns_keep p a s1 s3 during second h1 r.second_turns (subst At zero_more k1.1) more (timely_behind first second h0 r.timely) r.second_settled (heed_behind p.front p.tail first second h0 r.heed) in
    let Last : Core → Type 0 = λ h. Makes (own a) (own d) h1.made h.made in
    let Front : Core → Type 0 = λ h. (oid : ℕ) → AreFrontsIn own oid ss (only oid h.made) in
    let late = sym (run_append first second h0) in
    record {
      sofar = subst To zero_more k1.2;
      new = subst Last late k2.2;
      fronts = subst Front late (λ oid. r.split.fronts oid (only oid (run_world second h1).made) (keeps_fronts p d (s1 ++ s2) (run_world second h1) k2.1 oid));
    }

-- pulses before a tick
pub before_early : (x : ℕ) (ps : List Pulse) → course.AreBefore x ps → AreEarly x ps
before_early x [] a = tt
before_early x (p ∷ ps) a = (a.0, before_early x ps a.1)

-- a section's plan, its spacing, its fit, and that its start is followed by its clock lines
pub record Planned_by (own : ℕ → ℕ) (clocks : Clocks) (freq until oid : ℕ) (s : BoardSection) : Type 0 where
  pub spaced : AreSpaced (base_of clocks s) (s.plan oid)
  pub fits : Fits freq (base_of clocks s) (section_steps oid s) (s.plan oid)
  pub soon : s.start < until

planned : (own : ℕ → ℕ) (clocks : Clocks) (freq slots until : ℕ) (stops : ℕ → Option ℕ) (oid : ℕ) (homes : Bool) (s : BoardSection) → s.start ≤ s.end → IsSectionBy homes clocks freq slots until stops s → Planned_by own clocks freq until oid s
planned own clocks freq slots until stops oid true s order i = record { spaced = i.spaced oid; fits = i.fits oid; soon = omega (arith, i.order, i.limit) }
planned own clocks freq slots until stops oid false s order i = record { spaced = i.is.spaced oid; fits = i.is.fits oid; soon = omega (arith, order, i.limit) }

steps_late : (own : ℕ → ℕ) (clocks : Clocks) (freq ready n oid : ℕ) (s : BoardSection) → AreTicks own → (tracked : AreTracked own clocks ready) → Planned_by own clocks freq tracked.until oid s → ready + 260 ≤ s.start → n < s.start
    → AreLate (own n) (section_steps oid s)
steps_late own clocks freq ready n oid s ticks tracked i low before =
    let m = s.start - 1 in
    let e : m + 1 ≡ s.start = omega (arith, before) in
    let behind = rw e at (tracked.behind m (omega (arith, low)) (omega (arith, i.soon))) in
    late_fits freq (own n) (base_of clocks s) (section_steps oid s) (s.plan oid) (omega (arith, behind, ticks_rise own ticks n m (omega (arith, before)))) i.fits i.spaced

-- what is made for sections that are over is before a tick, and for those to come behind another
pub fronts_early : (own : ℕ → ℕ) (oid n : ℕ) (ss : List RunSection) (ps : List Pulse) → AreTicks own → AreOverBy n ss → AreFrontsIn own oid ss ps → AreEarly (own n) ps
fronts_early own oid n [] ps ticks over f = rw f tt
fronts_early own oid n (s ∷ ss) ps ticks over (first, rest, is, begin, before, more) =
    let At : List Pulse → Type 0 = λ x. AreEarly (own n) x in
    subst At (sym is) (early_append (own n) first rest (early_up (own (s.section.end + 5)) (own n) first (ticks_rise own ticks (s.section.end + 5) n over.0) (before_early (own (s.section.end + 5)) first before))
    (fronts_early own oid n ss rest ticks over.1 more))

fronts_late : (own : ℕ → ℕ) (clocks : Clocks) (freq slots ready e n oid : ℕ) (stops : ℕ → Option ℕ) (ss : List RunSection) (ps : List Pulse) → AreTicks own → (tracked : AreTracked own clocks ready)
    → All (λ (s : RunSection). IsSectionBy s.homes clocks freq slots tracked.until stops s.section) ss → AreInTurn e ss → ready ≤ e → NextBehind n ss → AreFrontsIn own oid ss ps → AreLate (own n) ps
fronts_late own clocks freq slots ready e n oid stops [] ps ticks tracked i row low next f = rw f tt
fronts_late own clocks freq slots ready e n oid stops (s ∷ ss) ps ticks tracked i row low next (first, rest, is, begin, before, more) =
    let P : RunSection → Type 0 = λ (x : RunSection). IsSectionBy x.homes clocks freq slots tracked.until stops x.section in
    let At : List Pulse → Type 0 = λ x. AreLate (own n) x in
    let plan = planned own clocks freq slots tracked.until stops oid s.homes s.section row.1 (All-head P s ss i) in
    let all = steps_late own clocks freq ready n oid s.section ticks tracked plan (omega (arith, low, row.0)) next in
    subst At (sym is) (late_append (own n) first rest (late_front (own n) first begin.0 (subst At (sym begin.1) all))
    (fronts_late own clocks freq slots ready s.section.end n oid stops ss rest ticks tracked (All-tail P s ss i) row.2 (omega (arith, low, row.0, row.1)) (behind s ss row.2 (omega (arith, next, row.1))) more))
  where
    behind : (s : RunSection) (ss : List RunSection) → AreInTurn s.section.end ss → n ≤ s.section.end → NextBehind n ss
    behind s [] r h = tt
    behind s (t ∷ ss) r h = omega (arith, r.0, h)

-- fronts of sections in two parts
fronts_split : (own : ℕ → ℕ) (oid : ℕ) (xs ys : List RunSection) (ps : List Pulse) → AreFrontsIn own oid (xs ++ ys) ps → (first : List Pulse) × (rest : List Pulse) × (ps ≡ first ++ rest) × AreFrontsIn own oid xs first × AreFrontsIn own oid ys rest
fronts_split own oid [] ys ps f = ([], ps, refl, refl, f)
fronts_split own oid (s ∷ xs) ys ps (first, rest, is, begin, before, more) =
    let (one, two, are, old, new) = fronts_split own oid xs ys rest more in
    (first ++ one, two, is ∙ ap (λ x. first ++ x) are ∙ sym (append_assoc first one two), (first, one, refl, begin, before, old), new)

-- where sections stand one behind the other
row_split : (e : ℕ) (past : List RunSection) (s : RunSection) (later : List RunSection) → AreInTurn e (past ++ s ∷ later)
    → AreOverBy (s.section.start - 1) past × ((end : ℕ) × (e ≤ end) × AreInTurn end (s ∷ later))
row_split e [] s later row = (tt, (e, omega arith, row))
row_split e (t ∷ past) s later row =
    let (over, end, low, rest) = flat (row_split t.section.end past s later row.2) in
    ((omega (arith, low, rest.0), over), (end, omega (arith, low, row.0, row.1), rest))
  where
    flat : AreOverBy (s.section.start - 1) past × ((end : ℕ) × (t.section.end ≤ end) × AreInTurn end (s ∷ later)) → AreOverBy (s.section.start - 1) past × (end : ℕ) × (t.section.end ≤ end) × AreInTurn end (s ∷ later)
    flat x = (x.0, x.1.0, x.1.1, x.1.2)

over_up : (m n : ℕ) (ss : List RunSection) → m ≤ n → AreOverBy m ss → AreOverBy n ss
over_up m n [] h o = tt
over_up m n (s ∷ ss) h o = (omega (arith, o.0, h), over_up m n ss h o.1)

next_down : (m n : ℕ) (ss : List RunSection) → m ≤ n → NextBehind n ss → NextBehind m ss
next_down m n [] h x = tt
next_down m n (s ∷ ss) h x = omega (arith, x, h)

-- the pulses of a section's turns
pub section_is : (b : BoardDef) (pins : List (List Level)) (own : ℕ → ℕ) (clocks : Clocks) (ready : ℕ) (stops : ℕ → Option ℕ) (past : List RunSection) (s : RunSection) (later : List RunSection)
    (before during behind : List Orders) (first second : List Step) → IsHomeSpan b pins own clocks ready stops (past ++ s ∷ later) before during behind first second → length before + 1 ≡ s.section.start
    → NextBehind (length before + length during) later
    → (pulses : List Pulse) × Made (run_world first (new_world b pins)) (run_world (first ++ second) (new_world b pins)) pulses × ((oid : ℕ) → Fits b.freq (base_of clocks s.section) (only oid pulses) (s.section.plan oid))
section_is b pins own clocks ready stops past s later before during behind first second r begin ends =
    let a = length before in
    let d = a + length during in
    let q = halves b pins own clocks ready stops (past ++ s ∷ later) before during behind first second r in
    let P : RunSection → Type 0 = λ (x : RunSection). IsSectionBy x.homes clocks b.freq b.slots r.run_is.tracked.until stops x.section in
    let each = all_split P past (s ∷ later) r.run_is.sections in
    let (over, row) = row_split ready past s later r.run_is.row in
    let (end, low, rest) = row in
    let plan = λ (oid : ℕ). planned own clocks b.freq b.slots r.run_is.tracked.until stops oid s.homes s.section rest.1 (All-head P s later each.1) in
    let h1 = run_world first (new_world b pins) in
    let late = run_world (first ++ second) (new_world b pins) in (
      q.new.0,
      q.new.1,
      λ oid.
          let (old, mine, is, gone, here) = fronts_split own oid past (s ∷ later) (only oid late.made) (q.fronts oid) in
          let (front, more, are, begun, bound, next) = here in
          let made : only oid late.made ≡ only oid h1.made ++ only oid q.new.0 = ap (only oid) q.new.1 ∙ only-append oid h1.made q.new.0 in
          let sofar : only oid h1.made ≡ only oid q.sofar.0 = ap (only oid) q.sofar.1 in
          let Early : List Pulse → Type 0 = λ y. AreEarly (own a) y in
          let Late : List Pulse → Type 0 = λ y. AreLate (own a) y in
          let steps = steps_late own clocks b.freq ready a oid s.section r.ticks r.run_is.tracked (plan oid) (omega (arith, low, rest.0)) (omega (arith, begin)) in
          let laters = λ (n : ℕ) (h : NextBehind n later). fronts_late own clocks b.freq b.slots ready s.section.end n oid stops later more r.ticks r.run_is.tracked (All-tail P s later each.1) rest.2 (omega (arith, low, rest.0, rest.1)) h next in
          let cut = middle_begins (own a) (own d) (only oid h1.made) (only oid q.new.0) [] old front more
          (subst Early (sym sofar) (between_early (own 0) (own a) (only oid q.sofar.0) (q.sofar.2 oid))) (between_late (own a) (own d) (only oid q.new.0) (q.new.2 oid))
          (between_early (own a) (own d) (only oid q.new.0) (q.new.2 oid)) (fronts_early own oid a past old r.ticks (over_up (s.section.start - 1) a past (omega (arith, begin)) over) gone)
          (late_front (own a) front begun.0 (subst Late (sym begun.1) steps)) (laters a (next_down a d later (omega arith) ends)) (laters d ends)
          (append-nil (only oid h1.made ++ only oid q.new.0) ∙ sym made ∙ is ∙ ap (λ y. old ++ y) are) in
          let Fit : List Pulse → Type 0 = λ y. Fits b.freq (base_of clocks s.section) y (s.section.plan oid) in
          fits_front b.freq (base_of clocks s.section) (only oid q.new.0) (cut.0 ++ begun.0) (s.section.plan oid)
          (subst Fit (sym (sym (append_assoc (only oid q.new.0) cut.0 begun.0) ∙ ap (λ y. y ++ begun.0) cut.1 ∙ begun.1)) (plan oid).fits),
    )

row_behind : (e : ℕ) (past later : List RunSection) → AreInTurn e (past ++ later) → (end : ℕ) × (e ≤ end) × AreInTurn end later
row_behind e [] later row = (e, omega arith, row)
row_behind e (t ∷ past) later row =
    let (end, low, rest) = row_behind t.section.end past later row.2 in
    (end, omega (arith, low, row.0, row.1), rest)

-- between sections there are none
pub between_is : (b : BoardDef) (pins : List (List Level)) (own : ℕ → ℕ) (clocks : Clocks) (ready : ℕ) (stops : ℕ → Option ℕ) (past later : List RunSection)
    (before during behind : List Orders) (first second : List Step) → IsHomeSpan b pins own clocks ready stops (past ++ later) before during behind first second → AreOverBy (length before) past
    → NextBehind (length before + length during) later → (run_world (first ++ second) (new_world b pins)).made ≡ (run_world first (new_world b pins)).made
between_is b pins own clocks ready stops past later before during behind first second r over ends =
    let a = length before in
    let d = a + length during in
    let q = halves b pins own clocks ready stops (past ++ later) before during behind first second r in
    let P : RunSection → Type 0 = λ (x : RunSection). IsSectionBy x.homes clocks b.freq b.slots r.run_is.tracked.until stops x.section in
    let each = all_split P past later r.run_is.sections in
    let (end, low, row) = row_behind ready past later r.run_is.row in
    let h1 = run_world first (new_world b pins) in
    let late = run_world (first ++ second) (new_world b pins) in
    let none = λ (oid : ℕ).
    let (old, next, is, gone, here) = fronts_split own oid past later (only oid late.made) (q.fronts oid) in
    let made : only oid late.made ≡ only oid h1.made ++ only oid q.new.0 = ap (only oid) q.new.1 ∙ only-append oid h1.made q.new.0 in
    let sofar : only oid h1.made ≡ only oid q.sofar.0 = ap (only oid) q.sofar.1 in
    let Early : List Pulse → Type 0 = λ y. AreEarly (own a) y in
    let laters = λ (n : ℕ) (h : NextBehind n later). fronts_late own clocks b.freq b.slots ready end n oid stops later next r.ticks r.run_is.tracked each.1 row low h here in
    let cut = middle_begins (own a) (own d) (only oid h1.made) (only oid q.new.0) [] old [] next
    (subst Early (sym sofar) (between_early (own 0) (own a) (only oid q.sofar.0) (q.sofar.2 oid))) (between_late (own a) (own d) (only oid q.new.0) (q.new.2 oid))
    (between_early (own a) (own d) (only oid q.new.0) (q.new.2 oid)) (fronts_early own oid a past old r.ticks over gone) tt
    (laters a (next_down a d later (omega arith) ends)) (laters d ends)
    (append-nil (only oid h1.made ++ only oid q.new.0) ∙ sym made ∙ is) in
    no_front (only oid q.new.0) cut.0 cut.1 in
    q.new.1 ∙ ap (λ x. h1.made ++ x) (none_own q.new.0 none) ∙ append-nil h1.made
