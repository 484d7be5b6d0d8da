-- The units of a board's steppers, merged in their order.
use Rattle.std.proofs.Common.{◌≡◌, ◌≢◌, ℕ, ◌+◌, ◌-◌, ◌*◌, ◌<◌, ◌≤◌, Bool, List, [], ◌∷◌, ◌++◌, All, length, get_or, set, Option, Some, None, IfSome, IfNone, true, false, inl, inr, arith, refl, ap, sym, ◌∙◌, subst}
use Rattle.std.specs.Prelude.{is_some}
use Rattle.std.proofs.Props.{props}
use Rattle.std.proofs.Math.Logic.{∥∥₁_map, ∥∥₁_elim, ∥∥₁_prop}
use Rattle.std.proofs.lemmas.Grind.{merely}
use Rattle.std.proofs.lemmas.Bool.{cases_eq, cases_lt}
use Rattle.std.proofs.lemmas.List.{length-set, get_or-set_same, get_or-set_other}
use Rattle.std.proofs.lemmas.List.Elements.{All-head, All-tail}
use Rattle.plan_types.specs.Plan.{max_error}
use Rattle.plan_types.specs.Clock.{tick_limit, turn_ns}
use Rattle.plan_types.specs.Lines.{Clocks, lines_tick, lines_turn}
use Rattle.plan_types.specs.Sections.{TimedPart}
use Rattle.clock_line.specs.Kept.{AreKept}
use Rattle.clock_line.proofs.Turns.{tick_over-mono, turn-after, turn-below, turn-mono}
use Rattle.step_feed.specs.Units.{StepUnit}
use Rattle.section_stream.specs.declared.stepper.StepperStream.{StepperStream}
use Rattle.section_stream.specs.Rows.{AreInRow}
use Rattle.section_stream.specs.Steppers.{IsDueFrom, StartFrom, stepper_clocks, kind_of, packed_to, units_of}
use Rattle.section_stream.proofs.Dues.{stepper-byte, stepper-own, stepper-row}
use Rattle.section_feed.specs.Boards.{AreUpTo, IsLasting, IsUpTo}
use Rattle.section_feed.specs.Changes.{GoOn}
use Rattle.section_feed.specs.Dues.{AllStartBehind, AreDueFrom, ComesLater, HasFirst, IsTaken, StartsBehind, order_at}
use Rattle.section_feed.specs.Ordering.{AreInOrderFrom, last_order, order_of}
use Rattle.section_feed.specs.Rests.{AreAfter, AreAfterTo}
use Rattle.section_feed.proofs.Lasts.{kept-lasting}
use Rattle.section_feed.proofs.Orders.{at-added, last-order-append, order-append}
use Rattle.section_feed.proofs.Resting.{after-more, same-at}

-- the unit that waits first at the stepper of a place
record IsHead (clocks : Clocks) (place : ℕ) (u : StepUnit) : Type 0 where
  positive : 0 < u.first
  begins : u.due ≡ lines_turn clocks u.first
  ends : u.first ≤ u.last
  small : u.last < tick_limit
  number : u.stepper ≡ place
  byte : place < 256

head-is : (clocks : Clocks) (goes : Bool) (time turn place : ℕ) (s : StepperStream) (u : StepUnit) (us : List StepUnit) → IsUpTo clocks goes time turn place s → units_of s ≡ u ∷ us → IsHead clocks place u
head-is clocks goes time turn place s u us up is = ∥∥₁_elim (stepper-row s) (hlevel props) (λ r. (
    let row : AreInRow clocks 0 (packed_to s) (u ∷ us) = subst (λ (k : Clocks). AreInRow k 0 (packed_to s) (u ∷ us)) up.clocks_are (subst (λ (xs : List StepUnit). AreInRow (stepper_clocks s) 0 (packed_to s) xs) is r) in
    let own : u.stepper ≡ (kind_of s).oid = (subst (All (λ (v : StepUnit). v.stepper ≡ (kind_of s).oid)) is (stepper-own s)) 0 u (omega arith) in
    let byte = stepper-byte s in
    let number = up.number in
    record { positive = row.0.after; begins = row.0.due; ends = row.0.ends; small = row.0.small; number = own ∙ number; byte = omega arith }))

-- the unit behind it
head-next : (clocks : Clocks) (goes : Bool) (time turn place : ℕ) (s : StepperStream) (u : StepUnit) (us : List StepUnit) → IsUpTo clocks goes time turn place s → units_of s ≡ u ∷ us → StartsBehind (order_of u) us
head-next clocks goes time turn place s u [] up is = tt
head-next clocks goes time turn place s u (v ∷ us) up is = ∥∥₁_elim (stepper-row s) (hlevel props) (λ r. (
    let row : AreInRow (stepper_clocks s) 0 (packed_to s) (u ∷ v ∷ us) = subst (λ (xs : List StepUnit). AreInRow (stepper_clocks s) 0 (packed_to s) xs) is r in
    let h = head-is clocks goes time turn place s u (v ∷ us) up is in
    let ends = row.0.ends in
    let after = row.1.0.after in
    let number = h.number in
    let byte = h.byte in
    omega arith))

behind-prop : (order : ℕ) (us : List StepUnit) (x y : StartsBehind order us) → x ≡ y
behind-prop order [] x y = hlevel props
behind-prop order (u ∷ us) x y = hlevel props

-- a unit that comes later stands behind in the order
later-behind : (clocks : Clocks) (due place k : ℕ) (u : StepUnit) (vs : List StepUnit) → AreKept clocks → IsHead clocks place u → u.due ≤ due → (k ≡ place → ⊥) → ((v : StepUnit) (ws : List StepUnit) → vs ≡ v ∷ ws → IsHead clocks k v) → ComesLater due u.first place k vs → StartsBehind (order_of u) vs
later-behind clocks due place k u [] kept own soon other heads comes = tt
later-behind clocks due place k u (v ∷ ws) kept own soon other heads comes =
    let h = heads v ws refl in
    let n = own.number in
    let b = own.byte in
    let m = h.number in
    let p = own.begins in
    let q = h.begins in
    elim (cases_lt due v.due) [
      | inl late ↦ elim (cases_lt u.first v.first) [
        | inl less ↦ omega arith
        | inr over ↦ (let up = turn-mono clocks v.first u.first kept over in absurd (omega arith))
      ]
      | inr early ↦ (
          let c = comes early in
          let first = c.0 in
          elim (cases_lt k place) [
            | inl before ↦ (let less = c.1 before in omega arith)
            | inr over ↦ (let ne : k ≢ place = other in omega arith)
          ])
    ]

same-head : (u v : StepUnit) (us vs : List StepUnit) → u ∷ us ≡ v ∷ vs → u ≡ v
same-head u v us vs e = cc

-- where the unit that comes first is taken out, the others stand behind it
module _ (clocks : Clocks) (goes : Bool) (time turn due place : ℕ) (steppers : List StepperStream) (old new : StepperStream) (u : StepUnit) where
  popped-behind : IsLasting clocks → ∥ AreUpTo clocks goes time turn steppers ∥₁ → HasFirst due (length steppers) steppers place → old ≡ get_or steppers place old → units_of old ≡ u ∷ units_of new → AllStartBehind (order_of u) (set steppers place new)
  popped-behind lasting up f is waits = record {
    each = λ k d l. ∥∥₁_elim up (behind-prop _ _) (λ a. (
        let inside = f.inside in
        let len = length-set steppers place new in
        let own : IsUpTo clocks goes time turn place old = subst (IsUpTo clocks goes time turn place) (sym is) (a.each place old inside) in
        let first : u ≡ f.unit = same-head u f.unit (units_of new) f.rest (sym waits ∙ ap units_of is ∙ f.waits old) in
        let h = head-is clocks goes time turn place old u (units_of new) own waits in
        elim (cases_eq k place) as (λ _. StartsBehind (order_of u) (units_of (get_or (set steppers place new) k d))) [
          | inl same ↦ rw same (let e = get_or-set_same steppers place new d inside in rw e (head-next clocks goes time turn place old u (units_of new) own waits))
          | inr other ↦ (
              let e = get_or-set_other steppers place k new d other in
              let there = a.each k d (omega arith) in
              let comes = subst (λ (v : StepUnit). ComesLater due v.first place k (units_of (get_or steppers k d))) (sym first) (f.others k d (omega arith) (omega arith)) in
              let soon : u.due ≤ due = subst (λ (v : StepUnit). v.due ≤ due) (sym first) f.soon in
              rw e (later-behind clocks due place k u (units_of (get_or steppers k d)) (kept-lasting clocks lasting) h soon other (λ v ws is. head-is clocks goes time turn k (get_or steppers k d) v ws there is) comes))
        ]));
  }

  -- it stood behind whatever the others did
  popped-after : (order : ℕ) → place < length steppers → old ≡ get_or steppers place old → units_of old ≡ u ∷ units_of new → AllStartBehind order steppers → order < order_of u
  popped-after order inside is waits behind = subst (StartsBehind order) (ap units_of (sym is) ∙ waits) (behind.each place old inside)

  popped-taken : (low : ℕ) → ∥ AreUpTo clocks goes time turn steppers ∥₁ → HasFirst due (length steppers) steppers place → old ≡ get_or steppers place old → units_of old ≡ u ∷ units_of new → ∥ AreDueFrom low steppers ∥₁ → IsTaken clocks low due u
  popped-taken low up f is waits dues = ∥∥₁_elim up (hlevel props) (λ a. ∥∥₁_elim dues (hlevel props) (λ d. (
      let inside = f.inside in
      let own : IsUpTo clocks goes time turn place old = subst (IsUpTo clocks goes time turn place) (sym is) (a.each place old inside) in
      let first : u ≡ f.unit = same-head u f.unit (units_of new) f.rest (sym waits ∙ ap units_of is ∙ f.waits old) in
      let h = head-is clocks goes time turn place old u (units_of new) own waits in
      let from : IsDueFrom low old = subst (IsDueFrom low) (sym is) (d.each place old inside) in
      let number = h.number in
      let byte = h.byte in
      record {
        late = subst (StartFrom low) waits from.waits;
        soon = subst (λ (v : StepUnit). v.due ≤ due) (sym first) f.soon;
        begins = h.begins;
        ends = h.ends;
        small = h.small;
        byte = omega arith;
      })))

pub some-order : (clocks : Clocks) (goes : Bool) (time turn due place : ℕ) (r : Option StepUnit) (steppers : List StepperStream) (old new : StepperStream) → IsLasting clocks → ∥ AreUpTo clocks goes time turn steppers ∥₁ → HasFirst due (length steppers) steppers place → old ≡ get_or steppers place old → IfSome r (λ u. units_of old ≡ u ∷ units_of new)
    → IfSome r (λ u. (order : ℕ) → AllStartBehind order steppers → (order < order_of u) × AllStartBehind (order_of u) (set steppers place new))
some-order clocks goes time turn due place None steppers old new lasting up f is waits = tt
some-order clocks goes time turn due place (Some u) steppers old new lasting up f is waits = λ order behind. (popped-after clocks goes time turn due place steppers old new u order f.inside is waits behind, popped-behind clocks goes time turn due place steppers old new u lasting up f is waits)

pub some-taken : (clocks : Clocks) (goes : Bool) (time turn due place : ℕ) (r : Option StepUnit) (steppers : List StepperStream) (old new : StepperStream) → ∥ AreUpTo clocks goes time turn steppers ∥₁ → HasFirst due (length steppers) steppers place → old ≡ get_or steppers place old → IfSome r (λ u. units_of old ≡ u ∷ units_of new)
    → IfSome r (λ u. (low : ℕ) → ∥ AreDueFrom low steppers ∥₁ → IsTaken clocks low due u)
some-taken clocks goes time turn due place None steppers old new up f is waits = tt
some-taken clocks goes time turn due place (Some u) steppers old new up f is waits = λ low dues. popped-taken clocks goes time turn due place steppers old new u low up f is waits dues

-- one more unit behind others, in their order
pub order-more : (order : ℕ) (units : List StepUnit) (u : StepUnit) (steppers : List StepperStream) → AreInOrderFrom order units → last_order order units < order_of u → AllStartBehind (order_of u) steppers → AreInOrderFrom order (units ++ u ∷ []) × AllStartBehind (last_order order (units ++ u ∷ [])) steppers
order-more order units u steppers in_order after behind = (
  order-append order units (u ∷ []) in_order (after, tt),
  subst (λ (o : ℕ). AllStartBehind o steppers) (sym (last-order-append order units (u ∷ []))) behind,
)

-- what is due stays due
pub gone-due : (clocks : Clocks) (goes : Bool) (time turn low : ℕ) (more : List TimedPart) (units : List StepUnit) (all old new : List StepperStream) → old ≡ all → ∥ GoOn clocks goes time turn more units old new ∥₁ → ∥ AreDueFrom low all ∥₁ → ∥ AreDueFrom low new ∥₁
gone-due clocks goes time turn low more units all old new is on dues =
    let here = subst (λ (ss : List StepperStream). ∥ AreDueFrom low ss ∥₁) (sym is) dues in
    ∥∥₁_elim on ∥∥₁_prop (λ g. ∥∥₁_map here (λ d. (let l = g.same in record { each = λ k e h. (g.each k e (omega arith)).due low (d.each k e (omega arith)) })))

pub due-none : (low : ℕ) (steppers : List StepperStream) → steppers ≡ [] → ∥ AreDueFrom low steppers ∥₁
due-none low steppers none = rw none (merely (record { each = λ k d h. absurd (omega arith) }))

-- where no unit waits that is due by a turn, and all have caught up with one that begins behind the next one
pub due-after : (clocks : Clocks) (goes : Bool) (time turn due low : ℕ) (steppers : List StepperStream) → ∥ AreUpTo clocks goes time turn steppers ∥₁ → AreAfter due steppers → lines_tick clocks (low * turn_ns) + max_error clocks.first.freq ≤ lines_tick clocks (turn * turn_ns) → low ≡ due + 1 → ∥ AreDueFrom low steppers ∥₁
due-after clocks goes time turn due low steppers up after late is = ∥∥₁_map up (λ a. record {
  each = λ k d h. (
      let s = a.each k d h in
      let packed = s.packed in
      record {
        waits = subst (λ n. StartFrom n (units_of (get_or steppers k d))) (sym is) (after.each k d h);
        later = inl (record {
          to = turn;
          to_by = omega arith;
          caught_up = s.caught_up;
          behind = subst (λ (c : Clocks). lines_tick c (low * turn_ns) + max_error c.first.freq ≤ lines_tick c (turn * turn_ns)) (sym s.clocks_are) late;
        });
      });
})

-- a new stepper, in a turn with which its section begins
pub due-added : (low : ℕ) (old new : List StepperStream) (s : StepperStream) → ∥ AreDueFrom low old ∥₁ → IsDueFrom low s → new ≡ old ++ s ∷ [] → ∥ AreDueFrom low new ∥₁
due-added low old new s dues here is = ∥∥₁_map dues (λ d. rw is (record { each = λ k e h. at-added (λ n t. IsDueFrom low t) old s d.each here k e h }))

pub due-new : (clocks : Clocks) (low turn : ℕ) (s : StepperStream) → low ≤ turn → stepper_clocks s ≡ clocks → packed_to s ≡ lines_tick clocks (turn * turn_ns) → units_of s ≡ [] → IsDueFrom low s
due-new clocks low turn s order lines packed none = record {
  waits = subst (StartFrom low) (sym none) tt;
  later = inr (rw lines (let up = tick_over-mono clocks.first 0 clocks.held (low * turn_ns) (turn * turn_ns) (omega arith) in omega arith));
}

-- a unit that is due in a turn or later begins with that turn or later
turn-begins : (clocks : Clocks) (low t : ℕ) → 0 < low → low ≤ lines_turn clocks t → lines_tick clocks (low * turn_ns) ≤ t
turn-begins clocks low t some late = elim (cases_lt t (lines_tick clocks (low * turn_ns))) [
  | inl less ↦ (
      let e : low - 1 + 1 ≡ low = omega arith in
      let below = turn-below clocks t (low - 1) (rw e less) in
      absurd (omega arith))
  | inr over ↦ over
]

starts-behind : (clocks : Clocks) (low order k : ℕ) (vs : List StepUnit) → 0 < low → (0 < order → order < order_at clocks low) → ((v : StepUnit) (ws : List StepUnit) → vs ≡ v ∷ ws → IsHead clocks k v) → StartFrom low vs → StartsBehind order vs
starts-behind clocks low order k [] some handed heads start = tt
starts-behind clocks low order k (v ∷ ws) some handed heads start =
    let h = heads v ws refl in
    let positive = h.positive in
    let turn = h.begins in
    let begins = turn-begins clocks low v.first some (omega arith) in
    elim (cases_lt 0 order) [
      | inl more ↦ (let less = handed more in omega arith)
      | inr none ↦ omega arith
    ]

-- units that are due in a turn or later stand behind those of earlier turns
pub due-behind : (clocks : Clocks) (goes : Bool) (time turn low order : ℕ) (steppers : List StepperStream) → ∥ AreUpTo clocks goes time turn steppers ∥₁ → ∥ AreDueFrom low steppers ∥₁ → 0 < low → (0 < order → order < order_at clocks low) → AllStartBehind order steppers
due-behind clocks goes time turn low order steppers up dues some handed = record {
  each = λ k d h. ∥∥₁_elim up (behind-prop _ _) (λ a. ∥∥₁_elim dues (behind-prop _ _) (λ e.
      starts-behind clocks low order k (units_of (get_or steppers k d)) some handed (λ v ws is. head-is clocks goes time turn k (get_or steppers k d) v ws (a.each k d h) is) (e.each k d h).waits));
}

-- those that were taken stand before the units of the turns behind
pub taken-order : (clocks : Clocks) (low due order : ℕ) (units : List StepUnit) → AreKept clocks → low ≤ due + 1 → All (IsTaken clocks low due) units → (0 < order → order < order_at clocks (due + 1)) → 0 < last_order order units → last_order order units < order_at clocks (due + 1)
taken-order clocks low due order [] kept next taken handed = handed
taken-order clocks low due order (u ∷ us) kept next taken handed =
    let t = All-head (IsTaken clocks low due) u us taken in
    let begins = t.begins in
    let soon = t.soon in
    let byte = t.byte in
    let before = turn-after clocks u.first due kept (omega arith) in
    taken-order clocks low due (order_of u) us kept next (All-tail (IsTaken clocks low due) u us taken) (λ some. omega arith)

pub order-later : (clocks : Clocks) (low later order : ℕ) → low ≤ later → (0 < order → order < order_at clocks low) → 0 < order → order < order_at clocks later
order-later clocks low later order up handed some =
    let ticks = tick_over-mono clocks.first 0 clocks.held (low * turn_ns) (later * turn_ns) (omega arith) in
    let h = handed some in
    omega arith

-- Which stepper has the unit that comes first among those of the first places.
pub record IsBest (due count : ℕ) (steppers : List StepperStream) (best : Option ℕ) (least : ℕ) : Type 0 where
  pub some : IfSome best (λ p. (f : HasFirst due count steppers p) × (least ≡ f.unit.first))
  pub none : IfNone best (AreAfterTo due count steppers)

start-later : (due first place k : ℕ) (us : List StepUnit) → StartFrom (due + 1) us → ComesLater due first place k us
start-later due first place k [] start = tt
start-later due first place k (v ∷ vs) start = λ soon. absurd (omega arith)

comes-sooner : (due first first' place place' k : ℕ) (us : List StepUnit) → first' < first → ComesLater due first place k us → ComesLater due first' place' k us
comes-sooner due first first' place place' k [] less comes = tt
comes-sooner due first first' place place' k (v ∷ vs) less comes = λ soon. (let c = (comes soon).0 in (omega arith, λ before. omega arith))

module _ (due place : ℕ) (steppers : List StepperStream) (one : StepperStream) where
  -- the others, and the next one
  others-more : (first best : ℕ) → ((k : ℕ) (d : StepperStream) → k < place → k < length steppers → ComesLater due first best k (units_of (get_or steppers k d))) → place < length steppers → one ≡ get_or steppers place one → ComesLater due first best place (units_of one)
      → (k : ℕ) (d : StepperStream) → k < place + 1 → k < length steppers → ComesLater due first best k (units_of (get_or steppers k d))
  others-more first best others inside is here k d l h = elim (cases_lt k place) as (λ _. ComesLater due first best k (units_of (get_or steppers k d))) [
    | inl less ↦ others k d less h
    | inr over ↦ (let q : k ≡ place = omega arith in rw q (subst (λ (s : StepperStream). ComesLater due first best place (units_of s)) (same-at steppers place one d inside is) here))
  ]

  pub best-passed : (best : Option ℕ) (least : ℕ) → IsBest due place steppers best least → place < length steppers → one ≡ get_or steppers place one → StartFrom (due + 1) (units_of one) → IsBest due (place + 1) steppers best least
  best-passed None least b inside is start = record { some = tt; none = after-more due place steppers one b.none inside is start }
  best-passed (Some p) least b inside is start =
      let f = b.some.0 in
      record {
        some = (
          record {
            among = (let a = f.among in omega arith);
            inside = f.inside;
            unit = f.unit;
            rest = f.rest;
            waits = f.waits;
            soon = f.soon;
            others = others-more f.unit.first p f.others inside is (start-later due f.unit.first p place (units_of one) start);
          },
          b.some.1,
        );
        none = tt;
      }

  pub best-kept : (best : Option ℕ) (least : ℕ) (u : StepUnit) (us : List StepUnit) → is_some best ≡ true → IsBest due place steppers best least → place < length steppers → one ≡ get_or steppers place one → units_of one ≡ u ∷ us → least ≤ u.first → IsBest due (place + 1) steppers best least
  best-kept None least u us some b inside is waits over = absurd (true-false some)
    where
      true-false : false ≡ true → ⊥
      true-false e = cc
  best-kept (Some p) least u us some b inside is waits over =
      let f = b.some.0 in
      let same = b.some.1 in
      let among = f.among in
      let here : ComesLater due f.unit.first p place (u ∷ us) = λ soon. (omega arith, λ before. absurd (omega arith)) in
      record {
        some = (
          record {
            among = omega arith;
            inside = f.inside;
            unit = f.unit;
            rest = f.rest;
            waits = f.waits;
            soon = f.soon;
            others = others-more f.unit.first p f.others inside is (subst (ComesLater due f.unit.first p place) (sym waits) here);
          },
          same,
        );
        none = tt;
      }

  -- none was found before
  pub none-less : (best : Option ℕ) (P : ℕ → Type 0) → is_some best ≡ false → IfSome best P
  none-less None P none = tt
  none-less (Some p) P none = absurd (false-true none)
    where
      false-true : true ≡ false → ⊥
      false-true e = cc

  pub some-less : (best : Option ℕ) (P : Type 0) → P → IfSome best (λ p. P)
  some-less None P p = tt
  some-less (Some q) P p = p

  pub best-found : (best : Option ℕ) (least first : ℕ) (u : StepUnit) (us : List StepUnit) → IsBest due place steppers best least → place < length steppers → one ≡ get_or steppers place one → units_of one ≡ u ∷ us → u.due ≤ due → first ≡ u.first → IfSome best (λ p. first < least) → IsBest due (place + 1) steppers (Some place) first
  best-found best least first u us b inside is waits soon first_is less = record {
    some = (
      record {
        among = omega arith;
        inside = inside;
        unit = u;
        rest = us;
        waits = λ d. ap units_of (sym (same-at steppers place one d inside is)) ∙ waits;
        soon = soon;
        others = others-more u.first place (before best b less) inside is (subst (ComesLater due u.first place place) (sym waits) here);
      },
      first_is,
    );
    none = tt;
  }
    where
      here : ComesLater due u.first place place (u ∷ us)
      here = λ soon. (omega arith, λ before. absurd (omega arith))

      before : (best : Option ℕ) → IsBest due place steppers best least → IfSome best (λ p. first < least) → (k : ℕ) (d : StepperStream) → k < place → k < length steppers → ComesLater due u.first place k (units_of (get_or steppers k d))
      before None b less k d l h = start-later due u.first place k (units_of (get_or steppers k d)) (b.none.each k d l h)
      before (Some p) b less k d l h =
          let f = b.some.0 in
          let same = b.some.1 in
          let sooner : first < least = less in
          comes-sooner due f.unit.first u.first p place k (units_of (get_or steppers k d)) (omega arith) (f.others k d l h)
