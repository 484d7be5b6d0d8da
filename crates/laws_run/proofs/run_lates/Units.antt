-- The unit whose spoiled turns and spill are told of a late board.
use Rattle.std.proofs.Common.{◌≡◌, ℕ, zero, suc, ◌+◌, ◌-◌, ◌<◌, ◌≤◌, Bool, true, false, List, [], ◌∷◌, ◌++◌, length, map, drop, take, refl, ap, sym, ◌∙◌, subst, arith, inl, inr, append_assoc, length-append, rules}
use Rattle.std.specs.Prelude.{◌&&◌, ◌==◌, if◌then◌else◌}
use Rattle.laws_board.proofs.Names.{flat_map, eqb_tells, leb_tells, Clocks, Machine, Unit as StepUnit, Release, batch_at, BoardSection, Orders, parts_on, Started}
use Rattle.link_work.specs.declared.held.HeldUnit.{HeldUnit}
use Rattle.link_work.specs.Ends.{Ended, stretch}
use Rattle.link_work.specs.Held.{counted_to, held_from, held_in, held_unit, hold, late_by, may_be_late}
use Rattle.motion_work.specs.Homes.{before_turn}
use Rattle.motion_work.specs.Seen.{part_on}
use Rattle.laws_board.specs.sections.Homes.{AreOrdersIn, RunSection}
use Rattle.laws_board.specs.sections.Late.{IsIn, IsLateUnit}
use Rattle.laws_board.proofs.sections.Seeking.{Among, among_of, among_split}
use Rattle.laws_homing.specs.home_parts.Cuts.{cuts_on}
use Rattle.plan_types.proofs.Facts.{first_of_both}

-- what is told where it is more than the lead is of a unit
pub record IsFound (lead : ℕ) (spoiled : List ℕ) (first : ℕ) (hs : List HeldUnit) : Type 0 where
  pub held : HeldUnit
  pub among : Among held hs
  pub first_is : held.first ≡ first
  pub told : late_by lead spoiled first hs ≡ (counted_to held.due spoiled, held.spill)

found_by : (lead : ℕ) (spoiled : List ℕ) (first : ℕ) (h : HeldUnit) (hs : List HeldUnit) (b : Bool) → (lead < (late_by lead spoiled first hs).0 + (late_by lead spoiled first hs).1 → IsFound lead spoiled first hs) → may_be_late lead spoiled first h ≡ b
    → lead < (late_by lead spoiled first (h ∷ hs)).0 + (late_by lead spoiled first (h ∷ hs)).1 → IsFound lead spoiled first (h ∷ hs)
found_by lead spoiled first h hs b p6 p7 p8 = search (rules, eqb_tells, first_of_both)

pub found : (lead : ℕ) (spoiled : List ℕ) (first : ℕ) (hs : List HeldUnit) → lead < (late_by lead spoiled first hs).0 + (late_by lead spoiled first hs).1 → IsFound lead spoiled first hs
found lead spoiled first [] low = absurd (omega (arith, low))
found lead spoiled first (h ∷ hs) low = found_by lead spoiled first h hs (may_be_late lead spoiled first h) (found lead spoiled first hs) refl low

-- the turn in which it was queued
pub record IsQueued (turn : ℕ) (os : List Orders) (h : HeldUnit) : Type 0 where
  pub before : List Orders
  pub orders : Orders
  pub after : List Orders
  pub are : os ≡ before ++ orders ∷ after
  pub unit : StepUnit
  pub among : Among unit orders.batch.units
  pub is : h ≡ held_unit (turn + length before) unit

in_map : (turn : ℕ) (us : List StepUnit) (h : HeldUnit) → Among h (map (held_unit turn) us) → (u : StepUnit) × Among u us × (h ≡ held_unit turn u)
in_map turn [] h a = absurd a
in_map turn (u ∷ us) h (inl e) = (u, inl refl, e)
in_map turn (u ∷ us) h (inr a) = let r = in_map turn us h a in (r.0, inr r.1, r.2)

queued_from : (turn : ℕ) (os : List Orders) (h : HeldUnit) → Among h (held_from turn os) → IsQueued turn os h
queued_from turn [] h a = absurd a
queued_from turn (o ∷ os) h a = elim (among_split h (map (held_unit turn) o.batch.units) (held_from (turn + 1) os) a) [
  | inl p ↦
      let r = in_map turn o.batch.units h p in
      let here : turn ≡ turn + 0 = omega arith in
      record { before = []; orders = o; after = os; are = refl; unit = r.0; among = r.1; is = r.2 ∙ ap (λ n. held_unit n r.0) here }
  | inr p ↦
      let r = queued_from (turn + 1) os h p in
      let there : turn + 1 + length r.before ≡ turn + suc (length r.before) = omega arith in
      record { before = o ∷ r.before; orders = r.orders; after = r.after; are = ap (λ z. o ∷ z) r.are; unit = r.unit; among = r.among; is = r.is ∙ ap (λ n. held_unit n r.unit) there }
]

taken_all : (n : ℕ) (os : List Orders) → n ≤ length os → (take n os ++ drop n os ≡ os) × (length (take n os) ≡ n)
taken_all zero os low = (refl, refl)
taken_all (suc n) [] low = absurd (omega (arith, low))
taken_all (suc n) (o ∷ os) low = let r = taken_all n os (omega (arith, low)) in (ap (λ z. o ∷ z) r.0, ap suc r.1)

-- a unit of the busy stretch was queued in one of the turns
pub queued_in_turn : (os : List Orders) (ends : List Ended) (o : Orders) (h : HeldUnit) → Among h (hold (held_in os ends) (length os) o.batch.units) → IsQueued 0 (os ++ o ∷ []) h
queued_in_turn os ends o h a = elim (among_split h (held_in os ends) (map (held_unit (length os)) o.batch.units) a) [
  | inl p ↦
      let n = length os - length (stretch ends) in
      let r = queued_from n (drop n os) h p in
      let t = taken_all n os (omega arith) in
      let cut : os ≡ (take n os ++ r.before) ++ r.orders ∷ r.after = sym t.0 ∙ ap (λ z. take n os ++ z) r.are ∙ sym (append_assoc (take n os) r.before (r.orders ∷ r.after)) in
      let size = length-append (take n os) r.before in
      let many = t.1 in
      let place : n + length r.before ≡ 0 + length (take n os ++ r.before) = omega (arith, size, many) in
      record {
        before = take n os ++ r.before;
        orders = r.orders;
        after = r.after ++ o ∷ [];
        are = ap (λ z. z ++ o ∷ []) cut ∙ append_assoc (take n os ++ r.before) (r.orders ∷ r.after) (o ∷ []);
        unit = r.unit;
        among = r.among;
        is = r.is ∙ ap (λ z. held_unit z r.unit) place;
      }
  | inr p ↦
      let r = in_map (length os) o.batch.units h p in
      let place : length os ≡ 0 + length os = omega arith in
      record { before = os; orders = o; after = []; are = refl; unit = r.0; among = r.1; is = r.2 ∙ ap (λ z. held_unit z r.0) place }
]

-- the section that released it
in_batch : (u : StepUnit) (k : ℕ) (rs : List Release) → Among u (batch_at k rs) → (r : Release) × Among r rs × (u ≡ r.unit) × (r.turn ≡ k)
in_batch u k [] a = absurd a
in_batch u k (r ∷ rs) a = elim (eqb_tells r.turn k) [
  | inl p ↦ elim (rw p.0 at a) [ inl e ↦ (r, inl refl, e, p.1) | inr n ↦ let x = in_batch u k rs n in (x.0, inr x.1, x.2, x.3) ]
  | inr p ↦ let x = in_batch u k rs (rw p.0 at a) in (x.0, inr x.1, x.2, x.3)
]

pub record IsReleasedBy (ss : List BoardSection) (u : StepUnit) (k : ℕ) : Type 0 where
  pub section : BoardSection
  pub release : Release
  pub among : Among section ss
  pub within : Among release section.releases
  pub unit_is : u ≡ release.unit
  pub turn_is : release.turn ≡ k

pub in_sections : (u : StepUnit) (k : ℕ) (ss : List BoardSection) → Among u (flat_map (λ s. batch_at k s.releases) ss) → IsReleasedBy ss u k
in_sections u k [] a = absurd a
in_sections u k (s ∷ ss) a = elim (among_split u (batch_at k s.releases) (flat_map (λ (x : BoardSection). batch_at k x.releases) ss) a) [
  | inl p ↦ let x = in_batch u k s.releases p in record { section = s; release = x.0; among = inl refl; within = x.1; unit_is = x.2; turn_is = x.3 }
  | inr p ↦ let x = in_sections u k ss p in record { section = x.section; release = x.release; among = inr x.among; within = x.within; unit_is = x.unit_is; turn_is = x.turn_is }
]

run_sections : (k : ℕ) (ss : List RunSection) → flat_map (λ s. batch_at k s.section.releases) ss ≡ flat_map (λ s. batch_at k s.releases) (map (λ s. s.section) ss)
run_sections k [] = refl
run_sections k (s ∷ ss) = ap (λ (z : List StepUnit). batch_at k s.section.releases ++ z) (run_sections k ss)

pub units_put : (clocks : Clocks) (ss : List RunSection) (turn : ℕ) (before : List Orders) (o : Orders) (after : List Orders) → AreOrdersIn clocks ss turn (before ++ o ∷ after)
    → o.batch.units ≡ flat_map (λ s. batch_at (turn + length before) s.releases) (map (λ s. s.section) ss)
units_put clocks ss turn [] o after a =
    let here : turn ≡ turn + 0 = omega arith in
    a.1 ∙ run_sections turn ss ∙ ap (λ n. flat_map (λ (s : BoardSection). batch_at n s.releases) (map (λ (s : RunSection). s.section) ss)) here
units_put clocks ss turn (x ∷ before) o after a =
    let there : turn + 1 + length before ≡ turn + suc (length before) = omega arith in
    units_put clocks ss (turn + 1) before o after a.2 ∙ ap (λ n. flat_map (λ (s : BoardSection). batch_at n s.releases) (map (λ (s : RunSection). s.section) ss)) there

-- those of sections as far as their units are released before a turn are those of the whole sections
in_front : (r : Release) (turn : ℕ) (rs : List Release) → Among r (before_turn turn rs) → Among r rs
in_front r turn [] a = absurd a
in_front r turn (x ∷ rs) a = elim (leb_tells (suc x.turn) turn) [
  | inl p ↦ elim (rw p.0 at a) [ inl e ↦ inl e | inr n ↦ inr (in_front r turn rs n) ]
  | inr p ↦ inr (in_front r turn rs (rw p.0 at a))
]

pub of_parts : (m : Machine) (clocks : List Clocks) (turn b : ℕ) (begun : List Started) (u : StepUnit) (k : ℕ) → IsReleasedBy (map (λ s. s.section) (cuts_on m clocks turn begun b)) u k → IsReleasedBy (parts_on m clocks begun b) u k
of_parts m clocks turn b [] u k r = absurd r.among
of_parts m clocks turn b (x ∷ begun) u k r = elim r.among [
  | inl e ↦
      let In : BoardSection → Type 0 = λ z. Among r.release z.releases in
      record { section = part_on m clocks x b; release = r.release; among = inl refl; within = in_front r.release turn (part_on m clocks x b).releases (subst In e r.within); unit_is = r.unit_is; turn_is = r.turn_is }
  | inr a ↦
      let y = of_parts m clocks turn b begun u k (record { section = r.section; release = r.release; among = a; within = r.within; unit_is = r.unit_is; turn_is = r.turn_is }) in
      record { section = y.section; release = y.release; among = inr y.among; within = y.within; unit_is = y.unit_is; turn_is = y.turn_is }
]

pub is_in : {X : Type 0} (x : X) (xs : List X) → Among x xs → IsIn x xs
is_in x [] a = absurd a
is_in x (y ∷ xs) (inl e) = ([], xs, ap (λ t. t ∷ xs) (sym e))
is_in x (y ∷ xs) (inr a) = let i = is_in x xs a in (y ∷ i.0, i.1, ap (λ t. y ∷ t) i.2)

-- and so a late one
pub late_parts : (m : Machine) (clocks : List Clocks) (turn b : ℕ) (begun : List Started) (tick first : ℕ) → IsLateUnit (map (λ s. s.section) (cuts_on m clocks turn begun b)) tick first → IsLateUnit (parts_on m clocks begun b) tick first
late_parts m clocks turn b begun tick first l =
    let cuts = map (λ (s : RunSection). s.section) (cuts_on m clocks turn begun b) in
    let y = of_parts m clocks turn b begun l.release.unit l.release.turn (record { section = l.section; release = l.release; among = among_of l.section cuts l.among; within = among_of l.release l.section.releases l.within; unit_is = refl; turn_is = refl }) in
    record {
      section = y.section;
      release = y.release;
      among = is_in y.section (parts_on m clocks begun b) y.among;
      within = is_in y.release y.section.releases y.within;
      first_is = ap (λ (u : StepUnit). u.first) (sym y.unit_is) ∙ l.first_is;
      late = l.late;
    }
