-- The first turns of a board's part of a run in which axes home, up to the end of a section: a run of the sections up to this one.
use Rattle.std.proofs.Common.{◌≡◌, ℕ, ◌+◌, ◌<◌, ◌≤◌, ◌⊎◌, List, [], ◌∷◌, ◌++◌, All, length, Option, refl, ap, sym, ◌∙◌, subst, arith, inl, inr, append_assoc, append-nil, length-append, false, rules}
use Rattle.std.proofs.lemmas.List.{take-append-le}
use Rattle.laws_board.proofs.Names.{All-cons, All-head, All-nil, All-tail, Clocks, Cmd, batch_at, BoardSection, AreBefore, Orders}
use Rattle.msg_code.specs.declared.cmd.Cmd.TheVariants as cmd
use Rattle.laws_board.specs.sections.Courses.{Course}
use Rattle.laws_board.specs.sections.Known.{Sent}
use Rattle.laws_board.specs.sections.Homes.{AreInTurn, AreOrdersIn, AreOverBy, AreSet, BeginLeftOf, HasUnits, IsLeftOf, IsControlIn, IsHomeRun, IsSectionBy, RunSection, SetsAny, SetsClock, SetsIn, AreReleasedIn, lost_at}
use Rattle.laws_board.specs.sections.Parts.{MakesIn}
use Rattle.laws_board.proofs.sections.HomeControls.{none_sets}
use Rattle.laws_board.proofs.sections.Spans.{all_split}
use Rattle.laws_run.proofs.home_wholes.Meaning.{later_none, units_at}

abbrev pub AllBy : Clocks → ℕ → ℕ → ℕ → (ℕ → Option ℕ) → List RunSection → Type 0
AllBy clocks freq slots until stops ss = All (λ (x : RunSection). IsSectionBy x.homes clocks freq slots until stops x.section) ss

-- sections up to one, and those behind it
row_front : (e : ℕ) (past : List RunSection) (s : RunSection) (later : List RunSection) → AreInTurn e (past ++ s ∷ later) → AreInTurn e (past ++ s ∷ [])
row_front e [] s later row = (row.0, row.1, tt)
row_front e (t ∷ past) s later row = (row.0, row.1, row_front t.section.end past s later row.2)

pub row_later : (e : ℕ) (past : List RunSection) (s : RunSection) (later : List RunSection) → AreInTurn e (past ++ s ∷ later) → AreInTurn s.section.end later × (e + 260 ≤ s.section.start) × (s.section.start ≤ s.section.end)
row_later e [] s later row = (row.2, row.0, row.1)
row_later e (t ∷ past) s later row =
    let rest = row_later t.section.end past s later row.2 in
    (rest.0, omega (arith, rest.1, row.0, row.1), rest.2)

all_front : (clocks : Clocks) (freq slots until : ℕ) (stops : ℕ → Option ℕ) (past : List RunSection) (s : RunSection) (later : List RunSection) → AllBy clocks freq slots until stops (past ++ s ∷ later)
    → AllBy clocks freq slots until stops (past ++ s ∷ []) × AllBy clocks freq slots until stops later
all_front clocks freq slots until stops past s later i =
    let P : RunSection → Type 0 = λ (x : RunSection). IsSectionBy x.homes clocks freq slots until stops x.section in
    let cut : past ++ s ∷ later ≡ (past ++ s ∷ []) ++ later = sym (append_assoc past (s ∷ []) later) in
    all_split P (past ++ s ∷ []) later (subst (λ (x : List RunSection). All P x) cut i)

units_both : (turn : ℕ) (xs ys : List RunSection) → units_at turn (xs ++ ys) ≡ units_at turn xs ++ units_at turn ys
units_both turn [] ys = refl
units_both turn (x ∷ xs) ys = ap (λ l. batch_at turn x.section.releases ++ l) (units_both turn xs ys) ∙ sym (append_assoc (batch_at turn x.section.releases) (units_at turn xs) (units_at turn ys))

sets_either : (clocks : Clocks) (xs ys : List RunSection) (turn clock : ℕ) → SetsClock clocks (xs ++ ys) turn clock → SetsClock clocks xs turn clock ⊎ SetsClock clocks ys turn clock
sets_either clocks [] ys turn clock x = inr x
sets_either clocks (s ∷ xs) ys turn clock (inl x) = inl (inl x)
sets_either clocks (s ∷ xs) ys turn clock (inr x) = elim (sets_either clocks xs ys turn clock x) [ inl y ↦ inl (inr y) | inr y ↦ inr y ]

control_front : (clocks : Clocks) (xs later : List RunSection) (end turn : ℕ) (m : Cmd) → AreInTurn end later → turn ≤ end + 5 → IsControlIn clocks (xs ++ later) turn m → IsControlIn clocks xs turn m
control_front clocks xs later end turn m p6 p7 p8 = search (rules, sets_either, none_sets)

controls_front : (clocks : Clocks) (xs later : List RunSection) (end turn : ℕ) (cs : List Cmd) → AreInTurn end later → turn ≤ end + 5 → All (IsControlIn clocks (xs ++ later) turn) cs → All (IsControlIn clocks xs turn) cs
controls_front clocks xs later end turn [] row h a = All-nil (IsControlIn clocks xs turn)
controls_front clocks xs later end turn (c ∷ cs) row h a =
    let P : Cmd → Type 0 = λ x. IsControlIn clocks (xs ++ later) turn x in
    All-cons (λ x. IsControlIn clocks xs turn x) c cs (control_front clocks xs later end turn c row h (All-head P c cs a)) (controls_front clocks xs later end turn cs row h (All-tail P c cs a))

orders_front : (clocks : Clocks) (freq slots until end : ℕ) (stops : ℕ → Option ℕ) (xs later : List RunSection) (turn : ℕ) (os ps : List Orders) → AllBy clocks freq slots until stops later → AreInTurn end later → turn + length os ≤ end + 6
    → AreOrdersIn clocks (xs ++ later) turn (os ++ ps) → AreOrdersIn clocks xs turn os
orders_front clocks freq slots until end stops xs later turn [] ps i row h x = tt
orders_front clocks freq slots until end stops xs later turn (o ∷ os) ps i row h x =
    let none = later_none clocks freq slots until turn end stops later i row (omega (arith, h)) in (
      controls_front clocks xs later end turn o.control.commands row (omega (arith, h)) x.0,
      x.1 ∙ units_both turn xs later ∙ ap (λ l. units_at turn xs ++ l) none ∙ append-nil (units_at turn xs),
      orders_front clocks freq slots until end stops xs later (turn + 1) os ps i row (omega (arith, h)) x.2,
    )

-- clocks that are set
pub sets_front : (oid : ℕ) (s : BoardSection) (turn : ℕ) (os ps : List Orders) → s.start ≤ turn + length os + 250 → SetsIn oid s turn (os ++ ps) → SetsIn oid s turn os
sets_front oid s turn [] ps h x = absurd (omega (arith, h, late turn ps x))
  where
    late : (turn : ℕ) (ps : List Orders) → SetsIn oid s turn ps → turn + 252 ≤ s.start
    late turn [] y = absurd y
    late turn (o ∷ ps) (inl y) = y.1
    late turn (o ∷ ps) (inr y) = omega (arith, late (turn + 1) ps y)
sets_front oid s turn (o ∷ os) ps h (inl x) = inl x
sets_front oid s turn (o ∷ os) ps h (inr x) = inr (sets_front oid s (turn + 1) os ps (omega (arith, h)) x)

set_front : (oid : ℕ) (xs later : List RunSection) (os ps : List Orders) → AreSet oid (xs ++ later) 0 (os ++ ps) → AreSet oid xs 0 os
set_front oid [] later os ps a = tt
set_front oid (s ∷ xs) later os ps a = (
  λ homes some soon. let more = length-append os ps in sets_front oid s.section 0 os ps soon (a.0 homes some (omega (arith, soon, more))),
  set_front oid xs later os ps a.1,
)

units_front : (oid : ℕ) (xs later : List RunSection) → HasUnits oid xs → HasUnits oid (xs ++ later)
units_front oid [] later u = absurd u
units_front oid (s ∷ xs) later (inl u) = inl u
units_front oid (s ∷ xs) later (inr u) = inr (units_front oid xs later u)

pub any_front : (oid : ℕ) (os ps : List Orders) → SetsAny oid os → SetsAny oid (os ++ ps)
any_front oid [] ps u = absurd u
any_front oid (o ∷ os) ps (inl u) = inl u
any_front oid (o ∷ os) ps (inr u) = inr (any_front oid os ps u)

pub run_front : (own : ℕ → ℕ) (clocks : Clocks) (freq slots ready : ℕ) (stops : ℕ → Option ℕ) (past : List RunSection) (s : RunSection) (later : List RunSection) (os ps : List Orders)
    → IsHomeRun own clocks freq slots ready stops (past ++ s ∷ later) (os ++ ps) → length os ≤ s.section.end + 6 → IsHomeRun own clocks freq slots ready stops (past ++ s ∷ []) os
run_front own clocks freq slots ready stops past s later os ps r h =
    let until = r.tracked.until in
    let xs = past ++ s ∷ [] in
    let cut : past ++ s ∷ later ≡ xs ++ later = sym (append_assoc past (s ∷ []) later) in
    let i = all_front clocks freq slots until stops past s later r.sections in
    let row = row_later ready past s later r.row in
    let Orders_at : List RunSection → Type 0 = λ x. AreOrdersIn clocks x 0 (os ++ ps) in
    record {
      tracked = r.tracked;
      sections = i.0;
      row = row_front ready past s later r.row;
      orders = orders_front clocks freq slots until s.section.end stops xs later 0 os ps i.1 row.0 (omega (arith, h)) (subst Orders_at cut r.orders);
      set = λ oid. (let Set_at : List RunSection → Type 0 = λ x. AreSet oid x 0 (os ++ ps) in set_front oid xs later os ps (subst Set_at cut (r.set oid)));
      made = λ long oid u.
          let more = length-append os ps in
          let Has : List RunSection → Type 0 = λ x. HasUnits oid x in
          let all : HasUnits oid (past ++ s ∷ later) ⊎ SetsAny oid (os ++ ps) = elim u [ inl x ↦ inl (subst Has (sym cut) (units_front oid xs later x)) | inr x ↦ inr (any_front oid os ps x) ] in
          subst (λ (x : List Orders). MakesIn oid x) (take-append-le ready os ps long) (r.made (omega (arith, long, more)) oid all);
      ahead = r.ahead;
    }

pub over_front : (e n : ℕ) (past : List RunSection) (s : RunSection) (later : List RunSection) → AreInTurn e (past ++ s ∷ later) → s.section.end + 5 ≤ n → AreOverBy n (past ++ s ∷ [])
over_front e n [] s later row h = (h, tt)
over_front e n (t ∷ past) s later row h =
    let rest = row_later t.section.end past s later row.2 in
    (omega (arith, rest.1, rest.2, h), over_front t.section.end n past s later row.2 h)

-- what is released by four turns behind the ends
pub released_with : (past : List RunSection) (s : RunSection) → AreReleasedIn past → (s.homes ≡ false → AreBefore (s.section.end + 5) s.section.releases) → AreReleasedIn (past ++ s ∷ [])
released_with [] s out mine = (mine, tt)
released_with (t ∷ past) s out mine = (out.0, released_with past s out.1 mine)

-- Where the first triple stands that comes too late: before a section of moves starts, or in the fifth turn behind its
-- end; or the section's units are released soon. In these cases those of the sections before it are.
abbrev pub AreLostBy : ℕ → List Sent → Type 0
AreLostBy turn [] = ⊥
AreLostBy turn (t ∷ tail) = t.turn < turn

abbrev pub AreLostAt : ℕ → List Sent → Type 0
AreLostAt turn [] = ⊥
AreLostAt turn (t ∷ tail) = t.turn ≡ turn

abbrev pub WhereLeft : ℕ → List RunSection → RunSection → List Sent → Type 0
WhereLeft turns past s tail =
    AreLostBy s.section.start tail
    ⊎ (AreReleasedIn past × (s.section.start ≤ lost_at turns tail) × (AreLostAt (s.section.end + 5) tail ⊎ (s.section.end + 5 < turns → AreBefore (s.section.end + 5) s.section.releases)))

with_first : (turns : ℕ) (p : RunSection) (past : List RunSection) (s : RunSection) (tail : List Sent) → (p.homes ≡ false → AreBefore (p.section.end + 5) p.section.releases) → WhereLeft turns past s tail → WhereLeft turns (p ∷ past) s tail
with_first turns p past s tail mine (inl lost) = inl lost
with_first turns p past s tail mine (inr x) = inr ((mine, x.0), x.1, x.2)

left_later : (e turn : ℕ) (ss : List RunSection) (cs : ℕ → Course) (c : Cmd) → AreInTurn e ss → IsLeftOf ss cs turn c → e ≤ turn
left_later e turn [] cs c row x = absurd x
left_later e turn (s ∷ ss) cs c row (inl x) = omega (arith, x.1, row.0, row.1)
left_later e turn (s ∷ ss) cs c row (inr x) = omega (arith, left_later s.section.end turn ss cs c row.2 x.1, row.0, row.1)

pub where_left : (e turns : ℕ) (past : List RunSection) (s : RunSection) (later : List RunSection) (cs : ℕ → Course) (tail : List Sent) → AreInTurn e (past ++ s ∷ later) → s.homes ≡ false → s.section.start ≤ turns → BeginLeftOf turns (past ++ s ∷ later) cs tail
    → WhereLeft turns past s tail
where_left e turns [] s later cs [] row moves far x = inr (tt, far, inr (x.0 moves))
where_left e turns [] s later cs (t ∷ tail) row moves far (inl l) = (let turn = l.1 in let order = row.1 in inr (tt, omega (arith, turn, order), inl turn))
where_left e turns [] s later cs (t ∷ tail) row moves far (inr l) =
    let behind = left_later s.section.end t.turn later cs t.order.command row.2 l.1 in
    let order = row.1 in
    inr (tt, omega (arith, behind, order), inr (λ _. l.0 moves))
where_left e turns (p ∷ past) s later cs [] row moves far x =
    let place = row_later p.section.end past s later row.2 in
    with_first turns p past s [] (λ h. x.0 h (omega (arith, place.1, far))) (where_left p.section.end turns past s later cs [] row.2 moves far x.1)
where_left e turns (p ∷ past) s later cs (t ∷ tail) row moves far (inl l) =
    let place = row_later p.section.end past s later row.2 in
    let turn = l.1 in
    inl (omega (arith, turn, place.1))
where_left e turns (p ∷ past) s later cs (t ∷ tail) row moves far (inr l) = with_first turns p past s (t ∷ tail) l.0 (where_left p.section.end turns past s later cs (t ∷ tail) row.2 moves far l.1)
