-- The line that tells of a switch stands in the turn in which a homing section ends.
use Rattle.std.proofs.Common.{◌≡◌, ℕ, suc, ◌+◌, ◌<◌, ◌≤◌, ◌⊎◌, List, [], ◌∷◌, ◌++◌, length, Some, refl, ap, sym, ◌∙◌, subst, arith, inl, inr, length-append}
use Rattle.laws_board.proofs.Names.{Machine, Home, axis_at, Switch, Homing, cut_line, Came, GoesOn, last_reacted, Started, MotionTurn}
use Rattle.laws_board.specs.plans.Planned.{Plans}
use Rattle.laws_homing.specs.home_plans.Notes.{CameNotes, WasBegun}
use Rattle.laws_board.specs.plans.Rows.{AreInARow}
use Rattle.laws_homing.specs.home_parts.Answers.{IsPlannedBy, TellsIn}
use Rattle.laws_homing.proofs.home_parts.Ends.{ends_told, in_row, ready}
use Rattle.laws_board.proofs.plans.Rows.{Among, among_here, row_later, row_past}
use Rattle.laws_homing.proofs.home_parts.Known.{known_silent, none_tells, tells_known}
use Rattle.laws_homing.proofs.home_parts.Told.{tells_now, tells_tail}
use Rattle.laws_run.specs.home_headline.Cuts.{TellsCut, cuts_of}
use Rattle.laws_run.proofs.home_headline.Cuts.{told_cut, told_section}
use Rattle.laws_homing.proofs.fired_runs.Heard.{some_same}

-- two cuts of some sections
pub cut_same : (xs : List Started) (x : Started) (ys xs' : List Started) (x' : Started) (ys' : List Started) → xs ++ x ∷ ys ≡ xs' ++ x' ∷ ys' → (length xs ≡ length xs') × (x ≡ x') ⊎ (Among x' xs ⊎ Among x' ys)
cut_same [] x ys [] x' ys' e = let first : x ≡ x' = cc in inl (refl, first)
cut_same [] x ys (y ∷ xs') x' ys' e = let behind : ys ≡ xs' ++ x' ∷ ys' = cc in inr (inr (subst (λ (z : List Started). Among x' z) (sym behind) (among_here xs' x' ys')))
cut_same (y ∷ xs) x ys [] x' ys' e = let first : x' ≡ y = cc in inr (inl (inl first))
cut_same (y ∷ xs) x ys (z ∷ xs') x' ys' e =
    let behind : xs ++ x ∷ ys ≡ xs' ++ x' ∷ ys' = cc in
    elim (cut_same xs x ys xs' x' ys' behind) [
      | inl same ↦ inl (ap suc same.0, same.1)
      | inr other ↦ elim other [ inl a ↦ inr (inl (inr a)) | inr a ↦ inr (inr a) ]
    ]

pub goes_behind : (m : Machine) (switches : List Switch) (xs ys : List Came) → GoesOn m switches (xs ++ ys) → GoesOn m switches ys
goes_behind m switches [] ys g = g
goes_behind m switches (x ∷ xs) ys g = goes_behind m switches xs ys g.1

pub notes_behind : (begun : List Started) (xs ys : List Came) → CameNotes begun (xs ++ ys) → CameNotes begun ys
notes_behind begun [] ys n = n
notes_behind begun (x ∷ xs) ys n = notes_behind begun xs ys n.1

pub home_is : (a b : ℕ) → Home a ≡ Home b → a ≡ b
home_is a b e = cc

-- In a turn it is told that a homing section ended: the section is known, by its number, its axis and its start, and the turn's line of a switch is its.
pub record TellsEnd (m : Machine) (switches : List Switch) (number axis : ℕ) (s : Started) (c : Came) (before : List Came) : Type 0 where
  pub tells : TellsCut m switches c before
  pub number_is : tells.homing.section ≡ number
  pub axis_is : tells.homing.axis ≡ axis
  pub start_is : tells.homing.start ≡ s.start

pub tells_end : (m : Machine) (switches : List Switch) (n : ℕ) (ts : List MotionTurn) (p : Plans m n ts) (came past : List Came) (before : List Started) (s : Started) (later : List Started) (axis : ℕ) (c : Came) (ahead : List Came)
    → IsPlannedBy m switches n ts p came → p.seen.begun ≡ before ++ s ∷ later → s.section.kind ≡ Home axis → came ≡ ahead ++ c ∷ past → length past ≡ s.end → TellsEnd m switches (length before) axis s c past
tells_end m switches n ts p came past before s later axis c ahead by cut home are at =
    let Goes : List Came → Type 0 = λ z. GoesOn m switches z in
    let Notes : List Came → Type 0 = λ z. CameNotes p.seen.begun z in
    let Tells : List Came → Type 0 = λ z. TellsIn m switches s.end z in
    let goes = goes_behind m switches ahead (c ∷ past) (subst Goes are by.goes_on) in
    let notes = notes_behind p.seen.begun ahead (c ∷ past) (subst Notes are by.notes) in
    let size : length came ≡ length ahead + length (c ∷ past) = ap length are ∙ length-append ahead (c ∷ past) in
    let told = ends_told m switches n ts p came before s later axis by cut home (omega (arith, size, at)) in
    let here = tells_now m switches s.end c past at (tells_tail m switches s.end ahead (c ∷ past) (omega (arith, at)) (subst Tells are told)) in
    let x = told_cut m switches c past goes.0 here in
    let was : WasBegun p.seen.begun (Some x.homing) = told_section m switches p.seen.begun c past goes.1 notes x in
    let known = tells_known m switches c past goes.0 here in
    let same : known.0 ≡ x.homing = some_same known.0 x.homing (sym known.1 ∙ x.known) in
    let late : known.0.start ≤ length past = known.2 in
    let start : known.0.start ≡ was.1.start = ap (λ (h : Homing). h.start) same ∙ was.6 in
    let row = in_row m switches n ts p came by in
    let from = ready m switches n ts p came by in
    let Row : List Started → Type 0 = λ z. AreInARow from z in
    let found : (length before ≡ length was.0) × (s ≡ was.1) = elim (cut_same before s later was.0 was.1 was.2 (sym cut ∙ was.4)) [
      | inl e ↦ e
      | inr other ↦ absurd (elim other [
        | inl a ↦
            let far = row_past from was.1 before s later (subst Row cut row) a in
            let order = far.0 in
            let gap = far.1 in
            let own = row_start from before s later (subst Row cut row) in
            let soon : was.1.end < length came = omega (arith, gap, own, at, size) in
            let earlier = ends_told m switches n ts p came was.0 was.1 was.2 was.3 by was.4 was.5 soon in
            let Early : List Came → Type 0 = λ z. TellsIn m switches was.1.end z in
            let silent = known_silent m switches p.seen.begun c past x.homing was.1.end (was.1.end + 1) goes.1 notes x.known (let e = was.6 in omega (arith, e, order)) in
            elim (tells_tail m switches was.1.end ahead (c ∷ past) (omega (arith, gap, own, at)) (subst Early are earlier)) [
              | inl u ↦ let e = u.0 in omega (arith, e, gap, own, at)
              | inr u ↦ none_tells m switches was.1.end (was.1.end + 1) was.1.end past silent (omega arith) (omega arith) u
            ]
        | inr a ↦ let far = row_later from was.1 before s later (subst Row cut row) a in omega (arith, far, start, late, at)
      ])
    ] in
    record {
      tells = x;
      number_is = was.8 ∙ sym found.0;
      axis_is = was.9 ∙ home_is was.3 axis (sym was.5 ∙ ap (λ (z : Started). z.section.kind) (sym found.1) ∙ home);
      start_is = was.6 ∙ ap (λ (z : Started). z.start) (sym found.1);
    }
  where
    row_start : (from : ℕ) (xs : List Started) (y : Started) (ys : List Started) → AreInARow from (xs ++ y ∷ ys) → y.start ≤ y.end
    row_start from [] y ys r = r.1
    row_start from (z ∷ xs) y ys r = row_start (z.end + 260) xs y ys r.2

pub cut_ends : (m : Machine) (switches : List Switch) (n : ℕ) (ts : List MotionTurn) (p : Plans m n ts) (came past : List Came) (before : List Started) (s : Started) (later : List Started) (axis : ℕ) (c : Came) (ahead : List Came)
    → IsPlannedBy m switches n ts p came → p.seen.begun ≡ before ++ s ∷ later → s.section.kind ≡ Home axis → came ≡ ahead ++ c ∷ past → length past ≡ s.end
    → (tick : ℕ) × (cuts_of (last_reacted m switches c past).ordered.lines ≡ cut_line m switches (length before) (axis_at m axis) (Some tick))
cut_ends m switches n ts p came past before s later axis c ahead by cut home are at =
    let e = tells_end m switches n ts p came past before s later axis c ahead by cut home are at in
    let x = e.tells in
    (x.tick, x.lines ∙ ap (λ i. cut_line m switches i (axis_at m x.homing.axis) (Some x.tick)) e.number_is ∙ ap (λ i. cut_line m switches (length before) (axis_at m i) (Some x.tick)) e.axis_is)
