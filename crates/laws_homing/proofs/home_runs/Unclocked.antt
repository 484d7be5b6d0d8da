-- In the turns of a homing section no unit sets a clock.
use Rattle.std.proofs.Common.{◌≡◌, ℕ, suc, ◌+◌, ◌<◌, ◌≤◌, ◌==◌, Bool, true, false, cond, List, [], ◌∷◌, ◌++◌, length, Option, None, refl, ap, sym, ◌∙◌, subst, arith}
use Rattle.laws_board.proofs.Names.{flat_map, eq-eqb, All-head, All-tail, Clocks, Unit as StepUnit, Release, batch_at, units_of, base_of, of_stepper, orders, Orders}
use Rattle.std.specs.List.{All}
use Rattle.section_units.specs.Sections.{AreBegunBy, AreChained}
use Rattle.laws_board.specs.turns.Turns.{BoardTurn}
use Rattle.laws_board.specs.clocks.Runs.{orders_in}
use Rattle.laws_board.proofs.clocks.Orders.{order_length}
use Rattle.laws_board.specs.sections.Homes.{AreInTurn, AreOrdersIn, AreSoon, IsHomingIn, IsSectionBy, RunSection}
use Rattle.laws_board.proofs.sections.HomeLimits.{past_empty}
use Rattle.laws_board.proofs.sections.Releasing.{AreFrom, from_down, none_at, paced_from}
use Rattle.laws_homing.specs.home_runs.Settled.{SendNoneIn, SetNoClock, SetNoClockFrom}
use Rattle.laws_board.proofs.sections.HomeCut.{start_behind}

none_both : (xs ys : List StepUnit) → SetNoClock xs → SetNoClock ys → SetNoClock (xs ++ ys)
none_both [] ys a b = b
none_both (x ∷ xs) ys a b = (a.0, none_both xs ys a.1 b)

-- of each stepper none
own_head : (u : StepUnit) (us : List StepUnit) → SetNoClock (of_stepper u.stepper (u ∷ us)) → u.reset ≡ None
own_head u us n =
    let At : Bool → Type 0 = λ t. SetNoClock (cond t (u ∷ of_stepper u.stepper us) (of_stepper u.stepper us)) in
    (subst At (eq-eqb u.stepper u.stepper refl) n).0

own_tail : (t : Bool) (oid : ℕ) (u : StepUnit) (us : List StepUnit) → SetNoClock (cond t (u ∷ of_stepper oid us) (of_stepper oid us)) → SetNoClock (of_stepper oid us)
own_tail true oid u us n = n.1
own_tail false oid u us n = n

all_none : (us : List StepUnit) → ((oid : ℕ) → SetNoClock (of_stepper oid us)) → SetNoClock us
all_none [] n = tt
all_none (u ∷ us) n = (own_head u us (n u.stepper), all_none us (λ oid. own_tail (u.stepper == oid) oid u us (n oid)))

chained_none : (clocks : Clocks) (last : ℕ) (us : List StepUnit) → AreChained clocks last us → SetNoClock us
chained_none clocks last [] c = tt
chained_none clocks last (u ∷ us) c = (c.0, chained_none clocks u.last us c.2)

begun_none : (clocks : Clocks) (base : ℕ) (us : List StepUnit) → AreBegunBy true clocks base us → SetNoClock us
begun_none clocks base [] b = tt
begun_none clocks base (u ∷ us) b = (b.0, chained_none clocks u.last us b.3)

either_none : (t : Bool) (u : StepUnit) (us : List StepUnit) → u.reset ≡ None → SetNoClock us → SetNoClock (cond t (u ∷ us) us)
either_none true u us e n = (e, n)
either_none false u us e n = n

batch_none : (k : ℕ) (rs : List Release) → SetNoClock (units_of rs) → SetNoClock (batch_at k rs)
batch_none k [] n = tt
batch_none k (r ∷ rs) n = either_none (r.turn == k) r.unit (batch_at k rs) n.0 (batch_none k rs n.1)

set_none : (us : List StepUnit) → us ≡ [] → SetNoClock us
set_none us e = subst SetNoClock (sym e) tt

-- of one that is to come, and one that homes
late_none : (clocks : Clocks) (slots from start k : ℕ) (rs : List Release) → AreFrom from rs → from + 250 ≡ start → k + 251 ≤ start → batch_at k rs ≡ []
late_none clocks slots from start k rs a soon l = none_at k rs (from_down (k + 1) from rs (omega (arith, soon, l)) a)

next_empty : (homes : Bool) (clocks : Clocks) (freq slots until k : ℕ) (stops : ℕ → Option ℕ) (x : RunSection) → x.homes ≡ homes → IsSectionBy homes clocks freq slots until stops x.section → k + 251 ≤ x.section.start → batch_at k x.section.releases ≡ []
next_empty true clocks freq slots until k stops x e i l = late_none clocks slots i.from x.section.start k x.section.releases (paced_from clocks slots i.from [] x.section.releases i.paced) i.exact l
next_empty false clocks freq slots until k stops x e i l = late_none clocks slots i.is.from x.section.start k x.section.releases (paced_from clocks slots i.is.from [] x.section.releases i.is.paced) i.is.exact l

home_none : (clocks : Clocks) (freq slots until k : ℕ) (stops : ℕ → Option ℕ) (x : RunSection) → IsHomingIn clocks freq slots until stops x.section → SetNoClock (batch_at k x.section.releases)
home_none clocks freq slots until k stops x i =
    batch_none k x.section.releases (all_none (units_of x.section.releases) (λ oid. begun_none clocks (base_of clocks x.section) (of_stepper oid (units_of x.section.releases)) (i.begun oid)))

abbrev Units : ℕ → List RunSection → List StepUnit
Units k ss = flat_map (λ x. batch_at k x.section.releases) ss

abbrev By : Clocks → ℕ → ℕ → ℕ → (ℕ → Option ℕ) → RunSection → Type 0
By clocks freq slots until stops x = IsSectionBy x.homes clocks freq slots until stops x.section

empty_both : (xs ys : List StepUnit) → xs ≡ [] → ys ≡ [] → xs ++ ys ≡ []
empty_both xs ys a b = ap (λ (l : List StepUnit). l ++ ys) a ∙ b

later_empty : (clocks : Clocks) (freq slots until k turn : ℕ) (stops : ℕ → Option ℕ) (ss : List RunSection) → AreInTurn turn ss → All (λ x. By clocks freq slots until stops x) ss → k < turn → Units k ss ≡ []
later_empty clocks freq slots until k turn stops [] row all l = refl
later_empty clocks freq slots until k turn stops (x ∷ ss) row all l =
    let a = row.0 in
    let b = row.1 in
    empty_both (batch_at k x.section.releases) (Units k ss) (next_empty x.homes clocks freq slots until k stops x refl (All-head (λ y. By clocks freq slots until stops y) x ss all) (omega (arith, a, l)))
    (later_empty clocks freq slots until k x.section.end stops ss row.2 (All-tail (λ y. By clocks freq slots until stops y) x ss all) (omega (arith, a, b, l)))

turn_none : (clocks : Clocks) (freq slots until by k turn : ℕ) (stops : ℕ → Option ℕ) (past : List RunSection) (s : RunSection) (later : List RunSection) → AreInTurn turn (past ++ s ∷ later)
    → All (λ x. By clocks freq slots until stops x) (past ++ s ∷ later) → AreSoon by (past ++ s ∷ later) → k ≤ by → s.homes ≡ true → s.section.start ≤ k + 254 → k < s.section.end → SetNoClock (Units k (past ++ s ∷ later))
turn_none clocks freq slots until by k turn stops [] s later row all out low homes soon early =
    let own : IsSectionBy true clocks freq slots until stops s.section = subst (λ (t : Bool). IsSectionBy t clocks freq slots until stops s.section) homes (All-head (λ y. By clocks freq slots until stops y) s later all) in
    none_both (batch_at k s.section.releases) (Units k later) (home_none clocks freq slots until k stops s own)
    (set_none (Units k later) (later_empty clocks freq slots until k s.section.end stops later row.2 (All-tail (λ y. By clocks freq slots until stops y) s later all) early))
turn_none clocks freq slots until by k turn stops (x ∷ past) s later row all out low homes soon early =
    let rest = past ++ s ∷ later in
    let a = start_behind x.section.end past s later row.2 in
    none_both (batch_at k x.section.releases) (Units k rest) (set_none (batch_at k x.section.releases) (past_empty by x.section.end k x.section.releases out.0 low (omega (arith, a, soon))))
    (turn_none clocks freq slots until by k x.section.end stops past s later row.2 (All-tail (λ y. By clocks freq slots until stops y) x rest all) out.1 low homes soon early)

-- over turns
orders_last : (clocks : Clocks) (ss : List RunSection) (turn : ℕ) (os : List Orders) (o : Orders) → AreOrdersIn clocks ss turn (os ++ o ∷ []) → AreOrdersIn clocks ss turn os × (o.batch.units ≡ Units (turn + length os) ss)
orders_last clocks ss turn [] o a = (tt, a.1 ∙ ap (λ (k : ℕ). Units k ss) (omega arith))
orders_last clocks ss turn (x ∷ os) o a =
    let rest = orders_last clocks ss (turn + 1) os o a.2 in
    let e : turn + 1 + length os ≡ turn + suc (length os) = omega arith in
    ((a.0, a.1, rest.0), rest.1 ∙ ap (λ (k : ℕ). Units k ss) e)

pub none_from : (clocks : Clocks) (freq slots until by ready from : ℕ) (stops : ℕ → Option ℕ) (past : List RunSection) (s : RunSection) (later : List RunSection) (turns : List BoardTurn) → AreInTurn ready (past ++ s ∷ later)
    → All (λ x. IsSectionBy x.homes clocks freq slots until stops x.section) (past ++ s ∷ later) → AreSoon by (past ++ s ∷ later) → s.section.end ≤ by → AreOrdersIn clocks (past ++ s ∷ later) 0 (orders_in turns) → s.homes ≡ true → from + 254 ≡ s.section.start
    → length turns ≤ s.section.end → SetNoClockFrom from turns
none_from clocks freq slots until by ready from stops past s later [] row all out low a homes e l = tt
none_from clocks freq slots until by ready from stops past s later (t ∷ before) row all out low a homes e l =
    let ss = past ++ s ∷ later in
    let both = orders_last clocks ss 0 (orders_in before) (orders t.control t.batch) a in
    let n = order_length before in
    let at : 0 + length (orders_in before) ≡ length before = omega (arith, n) in (
      λ far. subst SetNoClock (sym (both.1 ∙ ap (λ (k : ℕ). Units k ss) at)) (turn_none clocks freq slots until by (length before) ready stops past s later row all out (omega (arith, l, low)) homes (omega (arith, far, e)) (omega (arith, l))),
      none_from clocks freq slots until by ready from stops past s later before row all out low both.0 homes e (omega (arith, l)),
    )

-- In the turns of its set-up no unit is sent.
turn_empty : (clocks : Clocks) (freq slots until by k turn : ℕ) (stops : ℕ → Option ℕ) (past : List RunSection) (s : RunSection) (later : List RunSection) → AreInTurn turn (past ++ s ∷ later)
    → All (λ x. By clocks freq slots until stops x) (past ++ s ∷ later) → AreSoon by (past ++ s ∷ later) → k ≤ by → s.section.start ≤ k + 254 → k + 251 ≤ s.section.start → Units k (past ++ s ∷ later) ≡ []
turn_empty clocks freq slots until by k turn stops [] s later row all out low soon early =
    let b = row.1 in
    empty_both (batch_at k s.section.releases) (Units k later) (next_empty s.homes clocks freq slots until k stops s refl (All-head (λ y. By clocks freq slots until stops y) s later all) early)
    (later_empty clocks freq slots until k s.section.end stops later row.2 (All-tail (λ y. By clocks freq slots until stops y) s later all) (omega (arith, early, b)))
turn_empty clocks freq slots until by k turn stops (x ∷ past) s later row all out low soon early =
    let rest = past ++ s ∷ later in
    let a = start_behind x.section.end past s later row.2 in
    empty_both (batch_at k x.section.releases) (Units k rest) (past_empty by x.section.end k x.section.releases out.0 low (omega (arith, a, soon)))
    (turn_empty clocks freq slots until by k x.section.end stops past s later row.2 (All-tail (λ y. By clocks freq slots until stops y) x rest all) out.1 low soon early)

pub sends_none : (clocks : Clocks) (freq slots until by ready from : ℕ) (stops : ℕ → Option ℕ) (past : List RunSection) (s : RunSection) (later : List RunSection) (turns : List BoardTurn) → AreInTurn ready (past ++ s ∷ later)
    → All (λ x. IsSectionBy x.homes clocks freq slots until stops x.section) (past ++ s ∷ later) → AreSoon by (past ++ s ∷ later) → s.section.start ≤ by → AreOrdersIn clocks (past ++ s ∷ later) 0 (orders_in turns) → from + 254 ≡ s.section.start
    → SendNoneIn from (from + 4) turns
sends_none clocks freq slots until by ready from stops past s later [] row all out low a e = tt
sends_none clocks freq slots until by ready from stops past s later (t ∷ before) row all out low a e =
    let ss = past ++ s ∷ later in
    let both = orders_last clocks ss 0 (orders_in before) (orders t.control t.batch) a in
    let n = order_length before in
    let at : 0 + length (orders_in before) ≡ length before = omega (arith, n) in (
      λ far near. both.1 ∙ ap (λ (k : ℕ). Units k ss) at ∙ turn_empty clocks freq slots until by (length before) ready stops past s later row all out (omega (arith, near, e, low)) (omega (arith, far, e)) (omega (arith, near, e)),
      sends_none clocks freq slots until by ready from stops past s later before row all out low both.0 e,
    )
