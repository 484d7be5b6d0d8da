-- What is told of steps that came too late.
use Rattle.std.proofs.Common.{◌≡◌, ℕ, Bool, true, false, zero, suc, ◌+◌, ◌-◌, ◌<◌, ◌≤◌, ◌⊎◌, ◌==◌, ◌&&◌, List, [], ◌∷◌, ◌++◌, length, map, drop, Option, Some, None, refl, ap, sym, ◌∙◌, subst, arith, inl, inr, append_assoc, append-nil, length-append}
use Rattle.std.specs.Prelude.{ℤ, pos, negsuc, filter, nat_le, nat_lt, if◌then◌else◌}
use Rattle.std.specs.List.{flat_map}
use Rattle.std.proofs.lemmas.Bool.Decides.{leb_tells, eqb_tells}
use Rattle.std.proofs.lemmas.List.{length-drop}
use Rattle.plan_types.specs.declared.machine.BoardDef.{BoardDef}
use Rattle.plan_types.specs.declared.levels.Level.{Level}
use Rattle.plan_types.specs.declared.clock.BoardClock.{BoardClock}
use Rattle.plan_types.specs.declared.plan.BoardState.{BoardState}
use Rattle.plan_types.specs.declared.plan.BoardState.TheVariants.{Running, Shut}
use Rattle.plan_types.specs.Clock.{board_tick, clock_of}
use Rattle.msg_code.specs.declared.cmd.Cmd.{Cmd}
use Rattle.msg_code.specs.declared.talk.ShutNews.{ShutNews}
use Rattle.msg_code.specs.declared.unit.Unit.{Unit as StepUnit}
use Rattle.msg_code.specs.Units.{reset_commands, dir_commands, step_command}
use Rattle.wire_scene.specs.declared.scene.Entry.{Entry}
use Rattle.board_sim.specs.Board.{timer_too_close}
use Rattle.board_sim.specs.Fair.{Meant}
use Rattle.board_world.specs.Orders.{plain, unit_orders, unit_ticks, units_orders}
use Rattle.board_world.specs.World.{AllFair, Core}
use Rattle.board_world.proofs.Runs.{all_orders}
use Rattle.link_work.specs.Turn.{LinkState, Orders, IsTurn}
use Rattle.link_work.specs.Stands.{first_state}
use Rattle.link_work.specs.Runs.{queued_in}
use Rattle.link_work.specs.Told.{IsShutNews}
use Rattle.link_work.specs.Answers.{IsAmong}
use Rattle.link_work.specs.Ends.{EndSo, Ended, is_idle, is_quiet, last_link, spoiled, spoiled_turns, spoiled_up_to, stretch, unquiet}
use Rattle.link_work.specs.Held.{AllDue, AreDue, IsCounted, counted_to, held_from, held_in, held_unit, hold, late_by, lead_of, may_be_late, spoiled_with, spill_told}
use Rattle.link_work.specs.declared.held.HeldUnit.{HeldUnit}
use Rattle.link_work.specs.Late.{BeginsAt, IsFairTurn, Past, turn_steps}
use Rattle.link_work.specs.Limits.{AllKeepLimits, KeepsLimits}
use Rattle.link_work.specs.Taking.{HasTaken, command_place, spill}
use Rattle.link_work.proofs.Answered.{begins}
use Rattle.link_work.proofs.Late.{are_turns, late_command, limits_first, ordered_after}
use Rattle.link_work.proofs.Shut.{Found, Located, TurnShut, locate, turn_shut, unit_begins, which, why_steps}
use Rattle.link_work.proofs.Stretches.{spoiled_by, stretch_grows}
use Rattle.link_work.proofs.Turns.{turns_are_steps}
use Rattle.link_work.proofs.Units.{late_unit, turn_before}
use Rattle.plan_types.proofs.Facts.{both_parts, is_equal, is_less, was_less, false_true}

-- one of some things
among_split : {A : Type 0} (front rest : List A) (x : A) → IsAmong x (front ++ x ∷ rest)
among_split [] rest x = inl refl
among_split (y ∷ front) rest x = inr (among_split front rest x)

either_among : {A : Type 0} (x : A) (xs ys : List A) → IsAmong x (xs ++ ys) → IsAmong x xs ⊎ IsAmong x ys
either_among x [] ys k = inr k
either_among x (z ∷ xs) ys k = elim k [
  | inl e ↦ inl (inl e)
  | inr m ↦ elim (either_among x xs ys m) [ inl a ↦ inl (inr a) | inr a ↦ inr a ]
]

among_front : {A : Type 0} (x : A) (xs ys : List A) → IsAmong x xs → IsAmong x (xs ++ ys)
among_front x [] ys k = absurd k
among_front x (z ∷ xs) ys k = elim k [ inl e ↦ inl e | inr m ↦ inr (among_front x xs ys m) ]

among_behind : {A : Type 0} (x : A) (xs ys : List A) → IsAmong x ys → IsAmong x (xs ++ ys)
among_behind x [] ys k = k
among_behind x (z ∷ xs) ys k = inr (among_behind x xs ys k)

-- of which unit a command for steps is
plain_none : (m : Meant) (cs : List Cmd) → IsAmong m (map plain cs) → m.ticks ≡ []
plain_none m [] k = absurd k
plain_none m (c ∷ cs) k = elim k [ inl e ↦ ap (λ (x : Meant). x.ticks) (sym e) | inr a ↦ plain_none m cs a ]

none_begins : (first : ℕ) (ticks : List ℕ) → ticks ≡ [] → BeginsAt first ticks → ⊥
none_begins first ticks e b = absurd (omega (arith, ap length (sym e ∙ b.1)))

record OfUnit (first : ℕ) (us : List StepUnit) : Type 0 where
  pub unit : StepUnit
  pub among : IsAmong unit us
  pub is : first ≡ unit.first

unit_of : (m : Meant) (us : List StepUnit) (first : ℕ) → BeginsAt first m.ticks → IsAmong m (units_orders us) → OfUnit first us
unit_of m [] first b k = absurd k
unit_of m (u ∷ us) first b k =
    let resets = map plain (reset_commands u.stepper u.reset) in
    let dirs = map plain (dir_commands u.stepper u.up) in
    let steps : List Meant = record { command = step_command u; ticks = unit_ticks u } ∷ [] in
    elim (either_among m (unit_orders u) (units_orders us) k) [
      | inl mine ↦ elim (either_among m resets (dirs ++ steps) mine) [
        | inl x ↦ absurd (none_begins first m.ticks (plain_none m (reset_commands u.stepper u.reset) x) b)
        | inr more ↦ elim (either_among m dirs steps more) [
          | inl x ↦ absurd (none_begins first m.ticks (plain_none m (dir_commands u.stepper u.up) x) b)
          | inr last ↦ elim last [
            | inl e ↦ record { unit = u; among = inl refl; is = unit_begins u first (subst (λ (x : Meant). BeginsAt first x.ticks) (sym e) b) }
            | inr none ↦ absurd none
          ]
        ]
      ]
      | inr rest ↦ let r = unit_of m us first b rest in record { unit = r.unit; among = inr r.among; is = r.is }
    ]

unit_in : (m : Meant) (o : Orders) (first : ℕ) → BeginsAt first m.ticks → IsAmong m (queued_in o) → OfUnit first o.batch.units
unit_in m o first b k = elim (either_among m (map plain o.control.commands) (units_orders o.batch.units) k) [
  | inl x ↦ absurd (none_begins first m.ticks (plain_none m o.control.commands x) b)
  | inr x ↦ unit_of m o.batch.units first b x
]

-- the units of a stretch
held_among : (turn : ℕ) (u : StepUnit) (us : List StepUnit) → IsAmong u us → IsAmong (held_unit turn u) (map (held_unit turn) us)
held_among turn u [] k = absurd k
held_among turn u (x ∷ us) k = elim k [ inl e ↦ inl (ap (held_unit turn) e) | inr m ↦ inr (held_among turn u us m) ]

from_among : (before after : List Orders) (o : Orders) (u : StepUnit) (turn at : ℕ) → at ≡ turn + length before → IsAmong u o.batch.units → IsAmong (held_unit at u) (held_from turn (before ++ o ∷ after))
from_among [] after o u turn at e k =
    among_front (held_unit at u) (map (held_unit turn) o.batch.units) (held_from (turn + 1) after)
    (subst (λ n. IsAmong (held_unit n u) (map (held_unit turn) o.batch.units)) (omega (arith, e)) (held_among turn u o.batch.units k))
from_among (x ∷ before) after o u turn at e k =
    among_behind (held_unit at u) (map (held_unit turn) x.batch.units) (held_from (turn + 1) (before ++ o ∷ after)) (from_among before after o u (turn + 1) at (omega (arith, e)) k)

dropped : (n : ℕ) (before rest : List Orders) → n ≤ length before → drop n (before ++ rest) ≡ drop n before ++ rest
dropped zero before rest h = refl
dropped (suc n) [] rest h = absurd (omega (arith, h))
dropped (suc n) (o ∷ before) rest h = dropped n before rest (omega (arith, h))

few_unquiet : (ends : List Ended) → unquiet ends ≤ length ends
few_unquiet [] = omega arith
few_unquiet (e ∷ ends) = unquiet_if (is_quiet e) (unquiet ends) (length ends) (few_unquiet ends)
  where
    unquiet_if : (quiet : Bool) (n many : ℕ) → n ≤ many → (if quiet then 0 else 1) + n ≤ suc many
    unquiet_if true n many h = omega (arith, h)
    unquiet_if false n many h = omega (arith, h)

held_here : (os before after : List Orders) (o : Orders) (ends : List Ended) (u : StepUnit) → os ≡ before ++ o ∷ after → length after < spoiled ends → IsAmong u o.batch.units
    → IsAmong (held_unit (length before) u) (held_in os ends)
held_here os before after o ends u e late k =
    let n = length os - length (stretch ends) in
    let few : n ≤ length before = omega (arith, ap length e, length-append before (o ∷ after), late, few_unquiet (stretch ends)) in
    let rest : drop n os ≡ drop n before ++ o ∷ after = ap (drop n) e ∙ dropped n before (o ∷ after) few in
    subst (λ x. IsAmong (held_unit (length before) u) (held_from n x)) (sym rest)
    (from_among (drop n before) after o u n (length before) (omega (arith, length-drop n before, few)) k)

-- one turn more
from_append : (turn at : ℕ) (os : List Orders) (o : Orders) → at ≡ turn + length os → held_from turn (os ++ o ∷ []) ≡ hold (held_from turn os) at o.batch.units
from_append turn at [] o e = append-nil (map (held_unit turn) o.batch.units) ∙ ap (λ n. map (held_unit n) o.batch.units) (omega (arith, e))
from_append turn at (x ∷ os) o e =
    ap (λ hs. map (held_unit turn) x.batch.units ++ hs) (from_append (turn + 1) at os o (omega (arith, e)))
    ∙ sym (append_assoc (map (held_unit turn) x.batch.units) (held_from (turn + 1) os) (map (held_unit at) o.batch.units))

none_dropped : (n : ℕ) (os : List Orders) → length os ≤ n → drop n os ≡ []
none_dropped zero [] h = refl
none_dropped zero (o ∷ os) h = absurd (omega (arith, h))
none_dropped (suc n) [] h = refl
none_dropped (suc n) (o ∷ os) h = none_dropped n os (omega (arith, h))

grows_if : (idle : Bool) (os : List Orders) (ends : List Ended) (o : Orders) (e : Ended) → is_idle e.link ≡ idle → length os ≡ length ends
    → held_in (os ++ o ∷ []) (ends ++ e ∷ []) ≡ (if idle then [] else hold (held_in os ends) (length os) o.batch.units)
grows_if true os ends o e i many =
    let none : length (stretch (ends ++ e ∷ [])) ≡ 0 = ap length (stretch_grows ends e ∙ ap (λ (b : Bool). if b then [] else stretch ends ++ e ∷ []) i) in
    let n = length (os ++ o ∷ []) - length (stretch (ends ++ e ∷ [])) in
    ap (held_from n) (none_dropped n (os ++ o ∷ []) (omega (arith, none)))
grows_if false os ends o e i many =
    let more : length (stretch (ends ++ e ∷ [])) ≡ length (stretch ends) + 1 =
    ap length (stretch_grows ends e ∙ ap (λ (b : Bool). if b then [] else stretch ends ++ e ∷ []) i) ∙ length-append (stretch ends) (e ∷ []) in
    let n = length os - length (stretch ends) in
    let same : length (os ++ o ∷ []) - length (stretch (ends ++ e ∷ [])) ≡ n = omega (arith, more, length-append os (o ∷ [])) in
    ap (λ k. held_from k (drop k (os ++ o ∷ []))) same ∙ ap (held_from n) (dropped n os (o ∷ []) (omega arith))
    ∙ from_append n (length os) (drop n os) o (omega (arith, length-drop n os))

pub held_grows : (os : List Orders) (ends : List Ended) (o : Orders) (e : Ended) → length os ≡ length ends
    → held_in (os ++ o ∷ []) (ends ++ e ∷ []) ≡ (if is_idle e.link then [] else hold (held_in os ends) (length os) o.batch.units)
held_grows os ends o e many = grows_if (is_idle e.link) os ends o e refl many

found_if : (b : Bool) (lead : ℕ) (turns : List ℕ) (first : ℕ) (x : HeldUnit) (hs : List HeldUnit) → may_be_late lead turns first x ≡ b
    → (b ≡ false → lead < (late_by lead turns first hs).0 + (late_by lead turns first hs).1)
    → lead < (late_by lead turns first (x ∷ hs)).0 + (late_by lead turns first (x ∷ hs)).1
found_if true lead turns first x hs e rest =
    let low = was_less lead (counted_to x.due turns + x.spill) (both_parts (x.first == first) (nat_lt lead (counted_to x.due turns + x.spill)) e).1 in
    let same : late_by lead turns first (x ∷ hs) ≡ (counted_to x.due turns, x.spill) = ap (λ (b : Bool). if b then (counted_to x.due turns, x.spill) else late_by lead turns first hs) e in
    omega (arith, low, ap (λ (p : ℕ × ℕ). p.0) same, ap (λ (p : ℕ × ℕ). p.1) same)
found_if false lead turns first x hs e rest =
    let same : late_by lead turns first (x ∷ hs) ≡ late_by lead turns first hs = ap (λ (b : Bool). if b then (counted_to x.due turns, x.spill) else late_by lead turns first hs) e in
    omega (arith, rest refl, ap (λ (p : ℕ × ℕ). p.0) same, ap (λ (p : ℕ × ℕ). p.1) same)

late_found : (lead : ℕ) (turns : List ℕ) (first : ℕ) (hs : List HeldUnit) (h : HeldUnit) → IsAmong h hs → may_be_late lead turns first h ≡ true
    → lead < (late_by lead turns first hs).0 + (late_by lead turns first hs).1
late_found lead turns first [] h k e = absurd k
late_found lead turns first (x ∷ hs) h k e =
    found_if (may_be_late lead turns first x) lead turns first x hs refl (λ none. elim k [
      | inl same ↦ absurd (false_true (sym none ∙ ap (may_be_late lead turns first) same ∙ e))
      | inr more ↦ late_found lead turns first hs h more e
    ])

-- more turns are counted up to a later one, and among more turns
counted_later : (due later : ℕ) (turns : List ℕ) → due ≤ later → counted_to due turns ≤ counted_to later turns
counted_later due later [] h = omega arith
counted_later due later (k ∷ turns) h =
    elim (leb_tells k due) [
      | inl p ↦ elim (leb_tells k later) [
        | inl q ↦ rw (p.0, q.0) (omega (arith, counted_later due later turns h))
        | inr q ↦ absurd (omega (arith, p.1, q.1, h))
      ]
      | inr p ↦ elim (leb_tells k later) [
        | inl q ↦ rw (p.0, q.0) (omega (arith, counted_later due later turns h))
        | inr q ↦ rw (p.0, q.0) (counted_later due later turns h)
      ]
    ]

counted_more : (due : ℕ) (turns more : List ℕ) → counted_to due turns ≤ counted_to due (turns ++ more)
counted_more due [] more = omega arith
counted_more due (k ∷ turns) more =
    elim (leb_tells k due) [ inl p ↦ rw p.0 (omega (arith, counted_more due turns more)) | inr p ↦ rw p.0 (counted_more due turns more) ]

counted_with : (due : ℕ) (turns : List ℕ) (turn : ℕ) (quiet : Bool) → counted_to due turns ≤ counted_to due (spoiled_with turns turn quiet)
counted_with due turns turn true = omega arith
counted_with due turns turn false = counted_more due turns (turn ∷ [])

-- where a board shut down in a turn: the steps, the turn in which they were queued, and how many turns were spoiled
record LatePlace (os : List Orders) (o : Orders) (ends : List Ended) (clock : BoardClock) (m : Meant) (first : ℕ) : Type 0 where
  pub before : List Orders
  pub orders : Orders
  pub after : List Orders
  pub turns : os ++ o ∷ [] ≡ before ++ orders ∷ after
  pub here : IsAmong m (queued_in orders)
  pub spoiled : (due : ℕ) → board_tick clock due ≤ first → 250 < spoiled_up_to due ends + spill (length before) due
  pub held : (hs : List HeldUnit) (u : StepUnit) → hs ≡ held_in os ends → IsAmong u orders.batch.units → IsAmong (held_unit (length before) u) (hold hs (length os) o.batch.units)

late_place : (F : Type 0) (b : BoardDef) (pins : List (List Level)) (board : ℕ) (entries : List Entry) (os : List Orders) (ends : List Ended) (o : Orders) (m : LinkState) (tick first : ℕ)
    → AllKeepLimits os → EndSo (clock_of b) 0 os (first_state b pins board entries) ends → m.core.queued ≡ flat_map queued_in os ++ queued_in o
    → (f : Found F (last_link (first_state b pins board entries) ends).core m.core timer_too_close tick first) → first < board_tick (clock_of b) (length os) → LatePlace os o ends (clock_of b) f.command first
late_place F b pins board entries os ends o m tick first limits so all f late =
    let clock = clock_of b in
    let l : LinkState = first_state b pins board entries in
    let mid : LinkState = last_link l ends in
    let turn = length os in
    let sooner : (due : ℕ) → board_tick clock due ≤ first → due < turn = λ due low. turn_before clock due turn first low late in
    elim (which (flat_map queued_in os) (queued_in o) f.front f.command f.rest (sym all ∙ f.queued)) [
      | inl r ↦
          let w = locate os f.front f.command r.0 r.1 in
          let i = length w.inner in
          let here : i < length (queued_in w.orders) = omega (arith, ap length w.queued, length-append w.inner (f.command ∷ w.rest)) in
          let untaken : HasTaken mid (command_place w.before i) → ⊥ = λ taken. absurd (omega (arith, taken, f.untaken, w.place)) in
          let kept = subst AllKeepLimits w.turns limits in
          let ended = subst (λ x. EndSo clock 0 x l ends) w.turns so in
          record {
            before = w.before;
            orders = w.orders;
            after = w.after ++ o ∷ [];
            turns = ap (λ x. x ++ o ∷ []) w.turns ∙ append_assoc w.before (w.orders ∷ w.after) (o ∷ []);
            here = subst (IsAmong f.command) (sym w.queued) (among_split w.inner w.rest f.command);
            spoiled = λ due low. late_unit b pins board entries clock w.before w.after w.orders ends kept ended i here untaken due (omega (arith, sooner due low, ap length w.turns));
            held = λ hs u e k.
                let h = held_unit (length w.before) u in
                among_front h hs (map (held_unit turn) o.batch.units)
                (subst (IsAmong h) (sym e) (held_here os w.before w.after w.orders ends u w.turns (late_command b pins board entries clock w.before w.after w.orders ends (limits_first w.before w.after w.orders kept) ended i here untaken) k));
          }
      | inr r ↦ record {
        before = os;
        orders = o;
        after = [];
        turns = refl;
        here = subst (IsAmong f.command) (sym r.2) (among_split r.0 f.rest f.command);
        spoiled = λ due low. omega (arith, sooner due low);
        held = λ hs u e k. among_behind (held_unit turn u) hs (map (held_unit turn) o.batch.units) (held_among turn u o.batch.units k);
      }
    ]

-- the due turns
due_of : (clock : BoardClock) (us : List StepUnit) (u : StepUnit) → AreDue clock us → IsAmong u us → board_tick clock (u.due - (250 - lead_of clock.drift)) ≤ u.first
due_of clock [] u k a = absurd a
due_of clock (x ∷ us) u k a = elim a [
  | inl e ↦ subst (λ (y : StepUnit). board_tick clock (y.due - (250 - lead_of clock.drift)) ≤ y.first) e k.0
  | inr m ↦ due_of clock us u k.1 m
]

due_in : (clock : BoardClock) (before after : List Orders) (o : Orders) → AllDue clock (before ++ o ∷ after) → AreDue clock o.batch.units
due_in clock [] after o k = k.0
due_in clock (x ∷ before) after o k = due_in clock before after o k.1

lead_is : (drift : ℤ) → (lead_of drift ≤ 250) × (249 ≤ lead_of drift)
lead_is (pos zero) = (omega arith, omega arith)
lead_is (pos (suc n)) = (omega arith, omega arith)
lead_is (negsuc n) = (omega arith, omega arith)

pub state_by : (s : BoardState) (o : Option ShutNews) (n : ShutNews) → IsShutNews s o → o ≡ Some n → s ≡ Shut n.reason n.tick n.first
state_by Running o n k e = absurd (none_some n (sym k ∙ e))
  where
    none_some : (n : ShutNews) → None ≡ Some n → ⊥
    none_some n e = cc
state_by (Shut reason tick first) o n k e =
    let same : k.0 ≡ n = same_news k.0 n (sym k.1 ∙ e) in
    ap (λ x. Shut x tick first) (sym k.2 ∙ ap (λ (x : ShutNews). x.reason) same) ∙ ap (λ x. Shut n.reason x first) (sym k.3 ∙ ap (λ (x : ShutNews). x.tick) same)
    ∙ ap (λ x. Shut n.reason n.tick x) (sym k.4 ∙ ap (λ (x : ShutNews). x.first) same)
  where
    same_news : (m n : ShutNews) → Some m ≡ Some n → m ≡ n
    same_news m n e = cc

-- the numbers that are told
told_numbers : (lead : ℕ) (turns : List ℕ) (hs : List HeldUnit) (o : Option ShutNews) (n : ShutNews) → o ≡ Some n → n.reason ≡ timer_too_close → IsCounted lead turns hs o
    → n.spoiled + n.spill ≡ (late_by lead turns n.first hs).0 + (late_by lead turns n.first hs).1
told_numbers lead turns hs o n e r k =
    let now : (n.spoiled, n.spill) ≡ spill_told (n.reason == timer_too_close) (late_by lead turns n.first hs) = subst (IsCounted lead turns hs) e k in
    let same = now ∙ ap (λ b. spill_told b (late_by lead turns n.first hs)) (is_equal n.reason timer_too_close r) in
    omega (arith, ap (λ (p : ℕ × ℕ). p.0) same, ap (λ (p : ℕ × ℕ). p.1) same)

pub counted_as : (lead lead2 : ℕ) (turns turns2 : List ℕ) (hs hs2 : List HeldUnit) (o o2 : Option ShutNews) → lead ≡ lead2 → turns ≡ turns2 → hs ≡ hs2 → o ≡ o2 → IsCounted lead turns hs o → IsCounted lead2 turns2 hs2 o2
counted_as lead lead2 turns turns2 hs hs2 o o2 a b c d k =
    subst (IsCounted lead2 turns2 hs2) d (subst (λ x. IsCounted lead2 turns2 x o) c (subst (λ x. IsCounted lead2 x hs o) b (subst (λ x. IsCounted x turns hs o) a k)))

-- a late shutdown is told with its cause
pub told_cause : (b : BoardDef) (pins : List (List Level)) (board : ℕ) (entries : List Entry) (os : List Orders) (ends : List Ended) (o : Orders) (m : LinkState) (turn : ℕ) (clock : BoardClock) (old : List ℕ) (quiet : Bool)
    (hs : List HeldUnit) (told : Option ShutNews) (n : ShutNews) → clock ≡ clock_of b → turn ≡ length os → Past b pins board entries os ends → IsTurn clock turn o (last_link (first_state b pins board entries) ends) m
    → IsShutNews m.core.board.controller.state told → IsCounted (lead_of clock.drift) (spoiled_with old turn quiet) (hold hs turn o.batch.units) told → old ≡ spoiled_turns ends → hs ≡ held_in os ends
    → (last_link (first_state b pins board entries) ends).core.board.controller.state ≡ Running → IsFairTurn (clock_of b) turn o (last_link (first_state b pins board entries) ends)
    → AllDue (clock_of b) (os ++ o ∷ []) → told ≡ Some n → n.reason ≡ timer_too_close → (n.first < n.tick) × (lead_of clock.drift < n.spoiled + n.spill)
told_cause b pins board entries os ends o m turn clock old quiet hs told n same at past t shut counted was held running fair due some reason =
    let l : LinkState = last_link (first_state b pins board entries) ends in
    let known = ordered_after b pins board entries (clock_of b) os ends past.so in
    let now : IsTurn (clock_of b) (length os) o l m = subst (λ k. IsTurn (clock_of b) k o l m) at (subst (λ (x : BoardClock). IsTurn x turn o l m) same t) in
    let first : LinkState = first_state b pins board entries in
    let time = (begins b pins board entries os l (are_turns (clock_of b) os 0 first ends past.so)).in_time.1 in
    let e : m.core.board.controller.state ≡ Shut timer_too_close n.tick n.first =
    state_by m.core.board.controller.state told n shut some ∙ ap (λ r. Shut r n.tick n.first) reason in
    let ts = turn_shut (clock_of b) (length os) o l m known.0 time running now in
    let f = (ts.shut timer_too_close n.tick n.first e).0 in
    let tick : n.tick ≡ board_tick (clock_of b) (length os) = (ts.shut timer_too_close n.tick n.first e).1 in
    let why = why_steps f.board f.command.command n.first f.cause in
    let late : n.first < n.tick = omega (arith, why.1, f.now) in
    let fair_now : IsFairTurn (clock_of b) (length os) o l = subst (λ k. IsFairTurn (clock_of b) k o l) at fair in
    let begin = why.2 f.command.ticks (f.fair (fair_now m now)) in
    let are = turns_are_steps (clock_of b) (length os) (o ∷ []) l m (m, now, refl) in
    let queued : m.core.queued ≡ flat_map queued_in os ++ queued_in o =
    ap (λ (h : Core). h.queued) are.1 ∙ all_orders are.0 l.core ∙ ap (λ x. l.core.queued ++ x) (are.2 ∙ append-nil (queued_in o)) ∙ ap (λ x. x ++ queued_in o) known.1 in
    let p = late_place (AllFair l.core (turn_steps (clock_of b) (length os) o now.resent l)) b pins board entries os ends o m n.tick n.first past.limits past.so queued f (omega (arith, late, tick)) in
    let u = unit_in f.command p.orders n.first begin p.here in
    let lead = lead_of (clock_of b).drift in
    let leads : lead_of clock.drift ≡ lead = ap (λ (x : BoardClock). lead_of x.drift) same in
    let low = due_of (clock_of b) p.orders.batch.units u.unit (due_in (clock_of b) p.before p.after p.orders (subst (AllDue (clock_of b)) p.turns due)) u.among in
    let d = u.unit.due - (250 - lead) in
    let more = p.spoiled d (omega (arith, low, u.is)) in
    let turns = spoiled_with old turn quiet in
    let h = held_unit (length p.before) u.unit in
    let enough : lead < counted_to u.unit.due turns + h.spill =
    omega (arith, more, spoiled_by d old ends was, counted_later d u.unit.due old (omega arith), counted_with u.unit.due old turn quiet, lead_is (clock_of b).drift) in
    let may : may_be_late lead turns n.first h ≡ true =
    ap (λ (x : Bool). x && nat_lt lead (counted_to h.due turns + h.spill)) (is_equal h.first n.first (sym u.is)) ∙ is_less lead (counted_to h.due turns + h.spill) enough in
    let here = subst (λ k. IsAmong h (hold hs k o.batch.units)) (sym at) (p.held hs u.unit held u.among) in
    let found = late_found lead turns n.first (hold hs turn o.batch.units) h here may in
    let numbers = told_numbers lead turns (hold hs turn o.batch.units) told n some reason (subst (λ k. IsCounted k turns (hold hs turn o.batch.units) told) leads counted) in
    (late, omega (arith, found, numbers, leads))
