-- A homing group's timeouts stay ahead of its boards, turn by turn.
use Rattle.std.proofs.Common.{◌≡◌, ℕ, ◌+◌, ◌-◌, ◌%◌, ◌<◌, ◌≤◌, ◌==◌, Bool, true, false, List, [], ◌∷◌, ◌++◌, Option, Some, None, max, refl, ap, sym, ◌∙◌, subst, arith, ◌⊎◌, inl, inr}
use Rattle.std.specs.Prelude.{◌&&◌, ◌||◌, if◌then◌else◌, nat_le, nat_lt}
use Rattle.std.specs.List.{Contains}
use Rattle.laws_board.proofs.Names.{leb_tells, Ctl, Fired, Seen, GroupState, turned_group, all_fired, first_timeout, relay_in, relays_in, round_of}
use Rattle.std.proofs.lemmas.List.Elements.{Contains-append_right}
use Rattle.trigger_group.specs.declared.order.Order.TheVariants.{Trigger}
use Rattle.trigger_group.specs.declared.round.Phase.{Phase}
use Rattle.trigger_group.specs.declared.round.Round.TheVariants.{Relays, Timeouts}
use Rattle.trigger_group.specs.Group.{after_in, any_fired_by, fired_by, goes, limit, orders, relay_begins, relay_from, to_board, unless_fired}
use Rattle.trigger_group.proofs.Answering.{either, first_there, none_there}
use Rattle.trigger_group.proofs.Knows.{after_last, after_members, after_start}
use Rattle.laws_homing.specs.clear_boards.Modes.{AllOn, HeardLately, Hears, IsAheadIn, IsIn, IsFiringKnown, IsLive, IsTimed}
use Rattle.laws_homing.specs.clear_boards.Renewed.{HeardFrom}
use Rattle.laws_homing.proofs.clear_boards.Renewed.{after_is, orders_are, phase_goes, renewed}
use Rattle.plan_types.proofs.Facts.{is_le, is_above}
use Rattle.std.proofs.lemmas.Bool.{or_parts, or_left}

-- what a turn makes of a group
pub relay_is : (g : GroupState) (turn : ℕ) → g.start ≤ turn → all_fired g.members ≡ false → (turned_group g turn).relay ≡ relay_in g turn
relay_is g turn low fired =
    ap (λ (p : Phase). (after_in p g turn).relay) (phase_goes g.start g.last turn low)
    ∙ ap (λ (b : Bool). (if b then g else record g { sent = max g.sent (limit g); relay = relay_in g turn }).relay) fired

limit_most : (g : GroupState) → limit g ≤ g.last + 1
limit_most g = omega arith

-- a timeout that was sent stays in its bounds
pub timed_after : (g : GroupState) (turn : ℕ) → g.start ≤ turn → all_fired g.members ≡ false → IsTimed g → (first_timeout g.start g.last ≤ (turned_group g turn).sent) × ((turned_group g turn).sent ≤ g.last + 1) × (g.sent ≤ (turned_group g turn).sent)
timed_after g turn low fired k =
    let is = after_is g turn low fired in
    let first = k.first in
    let most = k.most in
    let far = limit_most g in
    (omega (arith, is, first), omega (arith, is, most, far), omega (arith, is))

-- it is three turns ahead, or the last one, unless none can trigger any more
pub stays_ahead : (Dead : ℕ → Bool) (turn : ℕ) (g : GroupState) → g.start ≤ turn → all_fired g.members ≡ false → IsTimed g → IsIn Dead turn g
    → (turn + 3 ≤ (turned_group g turn).sent) ⊎ (((turned_group g turn).sent ≡ g.last + 1) ⊎ AllOn Dead g.members)
stays_ahead Dead turn g low fired k (inl far) = let s = timed_after g turn low fired k in let most = s.1 in let more = s.2 in inr (inl (omega (arith, far, most, more)))
stays_ahead Dead turn g low fired k (inr (inl dead)) = inr (inr dead)
stays_ahead Dead turn g low fired k (inr (inr (inl live))) =
    let s = timed_after g turn low fired k in
    let most = s.1 in
    let near = live.near in
    elim (renewed g turn live.least low live.heard fired) [ inl far ↦ inl (omega (arith, far, near)) | inr last ↦ inr (inl (omega (arith, last, most))) ]
stays_ahead Dead turn g low fired k (inr (inr (inr known))) =
    let s = timed_after g turn low fired k in
    let first = s.0 in
    let most = s.1 in
    let more = s.2 in
    elim known.ahead [
      | inl soon ↦ elim (leb_tells (g.start + 25) (g.last + 1)) [
        | inl p ↦ let l = p.1 in inl (omega (arith, l, first, soon))
        | inr p ↦ let l = p.1 in inr (inl (omega (arith, l, first, most)))
      ]
      | inr later ↦ elim later [ inl far ↦ inl (omega (arith, far, more)) | inr last ↦ inr (inl (omega (arith, last, more, most))) ]
    ]

pub begins_so : (g : GroupState) (turn : ℕ) → g.start + 4 ≤ turn → any_fired_by g.last g.members ≡ true → relay_begins g turn ≡ true
begins_so g turn low some = ap (λ (b : Bool). b && (any_fired_by g.last g.members || nat_le (g.last + 5) turn)) (is_le (g.start + 4) turn low) ∙ or_left (any_fired_by g.last g.members) (nat_le (g.last + 5) turn) some

pub begins_not : (g : GroupState) (turn : ℕ) → turn < g.start + 4 → relay_begins g turn ≡ false
begins_not g turn low = ap (λ (b : Bool). b && (any_fired_by g.last g.members || nat_le (g.last + 5) turn)) (is_above (g.start + 4) turn low)

neither : (a b c : Bool) → b ≡ false → c ≡ false → (a && (b || c)) ≡ false
neither true b c e f = ap (λ (x : Bool). x || c) e ∙ f
neither false b c e f = refl

begins_none : (g : GroupState) (turn : ℕ) → any_fired_by g.last g.members ≡ false → turn < g.last + 5 → relay_begins g turn ≡ false
begins_none g turn none low = neither (nat_le (g.start + 4) turn) (any_fired_by g.last g.members) (nat_le (g.last + 5) turn) none (is_above (g.last + 5) turn low)

-- the first one comes in its turn
pub relays_now : (turn : ℕ) → relays_in (Some turn) turn ≡ true
relays_now turn = let e : turn - turn ≡ 0 = omega arith in ap (λ (n : ℕ). n % 4 == 0) e

in_relays : (x : Seen) (xs : List Seen) → Contains xs x → x.fired ≡ None → Contains (round_of Relays xs) (to_board x Trigger)
in_relays x [] c none = absurd (none_there x c)
in_relays x (y ∷ ys) c none = elim (either y x ys c) [
  | inl e ↦
      let fired : y.fired ≡ None = ap (λ (z : Seen). z.fired) e ∙ none in
      let first : unless_fired y.fired (to_board y Trigger ∷ []) ≡ to_board y Trigger ∷ [] = ap (λ (o : Option Fired). unless_fired o (to_board y Trigger ∷ [])) fired in
      let At : Seen → Type 0 = λ z. Contains (unless_fired y.fired (to_board y Trigger ∷ []) ++ round_of Relays ys) (to_board z Trigger) in
      let All : List Ctl → Type 0 = λ z. Contains (z ++ round_of Relays ys) (to_board y Trigger) in
      subst At e (subst All (sym first) (first_there (to_board y Trigger) (round_of Relays ys)))
  | inr k ↦ Contains-append_right (unless_fired y.fired (to_board y Trigger ∷ [])) (round_of Relays ys) (to_board x Trigger) (in_relays x ys k none)
]

pub relayed_in : (g : GroupState) (turn : ℕ) (x : Seen) → g.start ≤ turn → all_fired g.members ≡ false → relays_in (relay_in g turn) turn ≡ true → Contains g.members x → x.fired ≡ None → Contains (orders g turn) (to_board x Trigger)
relayed_in g turn x low fired now there none =
    let are = orders_are g turn low fired in
    let front = if nat_lt g.sent (limit g) then round_of (Timeouts (limit g)) g.members else [] in
    let same : goes g turn ≡ front ++ round_of Relays g.members = ap (λ (b : Bool). front ++ (if b then round_of Relays g.members else [])) now in
    let All : List Ctl → Type 0 = λ z. Contains z (to_board x Trigger) in
    subst All (sym (are ∙ same)) (Contains-append_right front (round_of Relays g.members) (to_board x Trigger) (in_relays x g.members there none))

pub relayed : (g : GroupState) (turn : ℕ) (x : Seen) → g.start + 4 ≤ turn → all_fired g.members ≡ false → g.relay ≡ None → any_fired_by g.last g.members ≡ true → Contains g.members x → x.fired ≡ None
    → Contains (orders g turn) (to_board x Trigger)
relayed g turn x low fired relay some there none =
    let is : relay_in g turn ≡ Some turn = ap (λ (o : Option ℕ). relay_from o (relay_begins g turn) turn) relay ∙ ap (λ (b : Bool). relay_from None b turn) (begins_so g turn low some) in
    relayed_in g turn x (omega (arith, low)) fired (ap (λ (o : Option ℕ). relays_in o turn) is ∙ relays_now turn) there none

heard_all : (start last turn least : ℕ) (xs : List Seen) → turn ≡ least + 10 → any_fired_by last xs ≡ false → HeardLately start last turn xs → HeardFrom start least xs
heard_all start last turn least [] e none k = tt
heard_all start last turn least (x ∷ xs) e none k =
    let both = or_parts (fired_by last x.fired) (any_fired_by last xs) none in (
      elim k.0 [ inl near ↦ (omega (arith, near, e)) | inr fired ↦ absurd (let bad : false ≡ true = sym both.0 ∙ fired in cc) ],
      heard_all start last turn least xs e both.1 k.1,
    )

heard_low : (start last turn : ℕ) (xs : List Seen) → turn ≤ 10 → HeardFrom start 0 xs
heard_low start last turn [] l = tt
heard_low start last turn (x ∷ xs) l = (omega arith, heard_low start last turn xs l)

lives : (turn : ℕ) (g : GroupState) → g.relay ≡ None → any_fired_by g.last g.members ≡ false → HeardLately g.start g.last turn g.members → IsLive turn g
lives turn g relay none k = elim (leb_tells 10 turn) [
  | inl p ↦ let low = p.1 in record { relay = relay; none = none; least = turn - 10; near = omega (arith, low); heard = heard_all g.start g.last turn (turn - 10) g.members (omega (arith, low)) none k }
  | inr p ↦ let low = p.1 in record { relay = relay; none = none; least = 0; near = omega (arith, low); heard = heard_low g.start g.last turn g.members (omega (arith, low)) }
]

-- what a group knows to have triggered it still knows behind its turn
some_after : (g : GroupState) (turn : ℕ) → any_fired_by g.last g.members ≡ true → any_fired_by (turned_group g turn).last (turned_group g turn).members ≡ true
some_after g turn some = ap (λ (n : ℕ). any_fired_by n (turned_group g turn).members) (after_last g turn) ∙ ap (λ (xs : List Seen). any_fired_by g.last xs) (after_members g turn) ∙ some

still_none : (g h : GroupState) (turn : ℕ) → g.start ≤ turn → all_fired g.members ≡ false → Hears (turned_group g turn) h → g.relay ≡ None → relay_begins g turn ≡ false → h.relay ≡ None
still_none g h turn low fired hears relay none =
    hears.relay ∙ relay_is g turn low fired ∙ ap (λ (o : Option ℕ). relay_from o (relay_begins g turn) turn) relay ∙ ap (λ (b : Bool). relay_from None b turn) none

-- where all could trigger, all still can, or one is known to have triggered
from_live : (turn : ℕ) (g h : GroupState) (b : Bool) → any_fired_by h.last h.members ≡ b → h.relay ≡ None → turn + 1 + 3 ≤ h.sent → HeardLately h.start h.last (turn + 1) h.members → IsLive (turn + 1) h ⊎ IsFiringKnown (turn + 1) h
from_live turn g h true some relay far lately = inr (record { relay = relay; some = some; ahead = inr (inl far) })
from_live turn g h false none relay far lately = inl (lives (turn + 1) h relay none lately)

-- a group and its boards go on
pub goes_on : (Dead Later : ℕ → Bool) (turn : ℕ) (g h : GroupState) → g.start ≤ turn → all_fired g.members ≡ false → IsTimed g → Hears (turned_group g turn) h → IsIn Dead turn g
    → (AllOn Dead g.members → AllOn Later h.members)
    → (g.start + 4 ≤ turn → any_fired_by g.last g.members ≡ true → g.relay ≡ None → AllOn Later h.members)
    → (any_fired_by g.last g.members ≡ false → HeardLately h.start h.last (turn + 1) h.members) → IsIn Later (turn + 1) h
goes_on Dead Later turn g h low fired timed hears (inl far) keeps relays lately =
    let s = timed_after g turn low fired timed in
    let most = s.1 in
    let more = s.2 in
    let sent = hears.sent in
    let last = hears.last in
    let same = after_last g turn in
    inl (omega (arith, far, most, more, sent, last, same))
goes_on Dead Later turn g h low fired timed hears (inr (inl dead)) keeps relays lately = inr (inl (keeps dead))
goes_on Dead Later turn g h low fired timed hears (inr (inr (inl live))) keeps relays lately =
    let s = timed_after g turn low fired timed in
    let most = s.1 in
    let sent = hears.sent in
    let last = hears.last in
    let same = after_last g turn in
    let near = live.near in
    elim (leb_tells (turn + 4) (turned_group g turn).sent) [
      | inl p ↦
          let far = p.1 in
          let relay = still_none g h turn low fired hears live.relay (begins_none g turn live.none (omega (arith, far, most))) in
          inr (inr (from_live turn g h (any_fired_by h.last h.members) refl relay (omega (arith, far, sent)) (lately live.none)))
      | inr p ↦
          let short = p.1 in
          inl (elim (renewed g turn live.least low live.heard fired) [ inl r ↦ absurd (omega (arith, r, near, short)) | inr r ↦ omega (arith, r, most, sent, last, same) ])
    ]
goes_on Dead Later turn g h low fired timed hears (inr (inr (inr known))) keeps relays lately = elim (leb_tells (g.start + 4) turn) [
  | inl p ↦ inr (inl (relays p.1 known.some known.relay))
  | inr p ↦
      let early = p.1 in
      let start = hears.start in
      let same = after_start g turn in
      inr (inr (inr (record {
        relay = still_none g h turn low fired hears known.relay (begins_not g turn (omega (arith, early)));
        some = hears.fired (some_after g turn known.some);
        ahead = inl (omega (arith, early, start, same));
      })))
]

-- as the section starts
pub begins_in : (Dead : ℕ → Bool) (g : GroupState) → g.relay ≡ None → HeardLately g.start g.last g.start g.members → IsIn Dead g.start g
begins_in Dead g relay lately = inr (inr (by (any_fired_by g.last g.members) refl))
  where
    by : (b : Bool) → any_fired_by g.last g.members ≡ b → IsLive g.start g ⊎ IsFiringKnown g.start g
    by true some = inr (record { relay = relay; some = some; ahead = inl (omega arith) })
    by false none = inl (lives g.start g relay none lately)

-- a group stays timed
pub timed_on : (g h : GroupState) (turn : ℕ) → g.start ≤ turn → all_fired g.members ≡ false → IsTimed g → Hears (turned_group g turn) h → IsTimed h
timed_on g h turn low fired timed hears =
    let s = timed_after g turn low fired timed in
    let first = s.0 in
    let most = s.1 in
    let start = hears.start ∙ after_start g turn in
    let last = hears.last ∙ after_last g turn in
    let sent = hears.sent in
    record { first = omega (arith, first, start, last, sent); most = omega (arith, most, last, sent) }

-- and so far ahead
pub goes_ahead : (Dead Later : ℕ → Bool) (turn : ℕ) (g h : GroupState) → g.start ≤ turn → all_fired g.members ≡ false → IsTimed g → Hears (turned_group g turn) h → IsAheadIn Dead turn g
    → (AllOn Dead g.members → AllOn Later h.members)
    → (g.start + 4 ≤ turn → any_fired_by g.last g.members ≡ true → g.relay ≡ None → AllOn Later h.members)
    → (any_fired_by g.last g.members ≡ false → HeardLately h.start h.last (turn + 1) h.members) → IsAheadIn Later (turn + 1) h
goes_ahead Dead Later turn g h low fired timed hears (inl far) keeps relays lately =
    let s = timed_after g turn low fired timed in
    let most = s.1 in
    let more = s.2 in
    let sent = hears.sent in
    let last = hears.last in
    let same = after_last g turn in
    inl (omega (arith, far, most, more, sent, last, same))
goes_ahead Dead Later turn g h low fired timed hears (inr (inl dead)) keeps relays lately = inr (inl (keeps dead))
goes_ahead Dead Later turn g h low fired timed hears (inr (inr k)) keeps relays lately =
    let s = timed_after g turn low fired timed in
    let first = s.0 in
    let most = s.1 in
    let sent = hears.sent in
    let last = hears.last in
    let same = after_last g turn in
    elim k.1 [
      | inl live ↦
          let near = live.near in
          elim (renewed g turn live.least low live.heard fired) [
            | inr end ↦ inl (omega (arith, end, most, sent, last, same))
            | inl far ↦ by (goes_on Dead Later turn g h low fired timed hears (inr (inr (inl live))) keeps relays lately) (omega (arith, far, near, sent))
          ]
      | inr known ↦ elim (leb_tells (g.start + 4) turn) [
        | inl p ↦ inr (inl (relays p.1 known.some known.relay))
        | inr p ↦
            let early = p.1 in
            elim (leb_tells (g.start + 25) (g.last + 1)) [
              | inl q ↦ let l = q.1 in by (goes_on Dead Later turn g h low fired timed hears (inr (inr (inr known))) keeps relays lately) (omega (arith, l, first, early, sent))
              | inr q ↦ let l = q.1 in inl (omega (arith, l, first, most, sent, last, same))
            ]
      ]
    ]
  where
    by : IsIn Later (turn + 1) h → turn + 1 + 3 ≤ h.sent → IsAheadIn Later (turn + 1) h
    by (inl far) ahead = inl far
    by (inr (inl dead)) ahead = inr (inl dead)
    by (inr (inr other)) ahead = inr (inr (ahead, other))

pub begins_ahead : (Dead : ℕ → Bool) (g : GroupState) → IsTimed g → g.relay ≡ None → HeardLately g.start g.last g.start g.members → IsAheadIn Dead g.start g
begins_ahead Dead g timed relay lately =
    let first = timed.first in
    let most = timed.most in
    elim (leb_tells (g.start + 25) (g.last + 1)) [
      | inl p ↦ let l = p.1 in by (begins_in Dead g relay lately) (omega (arith, l, first))
      | inr p ↦ let l = p.1 in inl (omega (arith, l, first, most))
    ]
  where
    by : IsIn Dead g.start g → g.start + 3 ≤ g.sent → IsAheadIn Dead g.start g
    by (inl far) ahead = inl far
    by (inr (inl dead)) ahead = inr (inl dead)
    by (inr (inr other)) ahead = inr (inr (ahead, other))
