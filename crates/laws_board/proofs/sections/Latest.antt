-- Where what is queued is cut before the first unit that is five turns late: all before it is less late, and it is just so late.
use Rattle.std.proofs.Common.{◌≡◌, ℕ, suc, ◌+◌, ◌-◌, ◌*◌, ◌^◌, ◌<◌, ◌≤◌, List, [], ◌∷◌, ◌⊎◌, ◌++◌, length, take, map, refl, ap, sym, ◌∙◌, subst, arith, inl, inr, append_assoc, append-nil}
use Rattle.laws_board.proofs.Names.{eqb_tells, leb_tells, turn_ns, Clocks, lines_tick, Cmd, dir_commands, reset_commands, Meant, plain, unit_orders, units_orders, StepUnit, Release, batch_at, Orders, queued_in, BoardSection}
use Rattle.std.specs.Prelude.{slice_index}
use Rattle.clock_line.proofs.Turns.{tick_over-mono, turn-below}
use Rattle.msg_code.specs.declared.cmd.Cmd.TheVariants as cmd
use Rattle.section_units.specs.Late.{LateOneByOne}
use Rattle.section_units.specs.Sections.{ticks_meant}
use Rattle.laws_board.specs.sections.Events.{AreTicks}
use Rattle.laws_board.specs.sections.Known.{Sent, sent_at, sent_in, orders_sent}
use Rattle.laws_board.specs.sections.Parts.{AreOrdersOf, AreTracked}
use Rattle.laws_board.specs.sections.Timely.{AreTimely, IsTimely}
use Rattle.laws_board.proofs.sections.Clocks.{over_made}
use Rattle.laws_board.proofs.sections.Lasting.{Lasting, controls_timely, dirs_timely, resets_timely, unit_lasts, units_timely}
use Rattle.laws_board.proofs.sections.Limiting.{sum_of}
use Rattle.laws_board.proofs.sections.Lists.{orders_append, orders_at, sent_append}
use Rattle.laws_board.proofs.sections.Releasing.{AreFrom, after_turn, from_down, none_at, same_batch}
use Rattle.laws_board.proofs.sections.Sectioning.{HeadLater, cur, orders_as, units_at}
use Rattle.laws_board.proofs.sections.Soon.{timely_append}
use Rattle.laws_board.proofs.sections.Spreading.{parts_sent}
use Rattle.laws_board.proofs.sections.Units.{ahead_of_step, step_sent, unit_is}
use Rattle.laws_board.proofs.sections.Waiting.{Frame, IsInside}

-- a triple is queued in a turn too late: its first step is before the board's tick of that turn
abbrev pub IsPast : (ℕ → ℕ) → ℕ → Cmd → List ℕ → Type 0
IsPast own turn (cmd.QueueStep oid interval count add) ticks = slice_index ticks 0 < own turn
IsPast own turn _ ticks = ⊥

-- a command is timely up to the end of the n-th turn behind the one in which it was queued
abbrev pub Lasts : (ℕ → ℕ) → ℕ → Sent → Type 0
Lasts own n s = IsTimely (own (s.turn + n + 1)) s.order.command s.order.ticks

-- so are some
abbrev pub AllLast : (ℕ → ℕ) → ℕ → List Sent → Type 0
AllLast own n [] = Unit {0}
AllLast own n (s ∷ ss) = Lasts own n s × AllLast own n ss

-- commands of which the first one is too late, and the others are timely for as long as it is
abbrev pub BeginPast : (ℕ → ℕ) → ℕ → List Sent → Type 0
BeginPast own n [] = Unit {0}
BeginPast own n (s ∷ ss) = IsPast own s.turn s.order.command s.order.ticks × Lasts own n s × AreTimely (own (s.turn + n + 1)) (orders_sent ss)

pub record IsCut (own : ℕ → ℕ) (n : ℕ) (sent : List Sent) : Type 0 where
  pub front : List Sent
  pub tail : List Sent
  pub is : sent ≡ front ++ tail
  pub last : AllLast own n front
  pub past : BeginPast own n tail

all_last_append : (own : ℕ → ℕ) (n : ℕ) (ss ts : List Sent) → AllLast own n ss → AllLast own n ts → AllLast own n (ss ++ ts)
all_last_append own n [] ts a b = b
all_last_append own n (s ∷ ss) ts a b = (a.0, all_last_append own n ss ts a.1 b)

cut_ahead : (own : ℕ → ℕ) (n : ℕ) (ahead sent : List Sent) → AllLast own n ahead → IsCut own n sent → IsCut own n (ahead ++ sent)
cut_ahead own n ahead sent a c = record {
  front = ahead ++ c.front;
  tail = c.tail;
  is = ap (λ x. ahead ++ x) c.is ∙ sym (append_assoc ahead c.front c.tail);
  last = all_last_append own n ahead c.front a c.last;
  past = c.past;
}

-- what is queued in a turn
last_at : (own : ℕ → ℕ) (n turn : ℕ) (ms : List Meant) → AreTimely (own (turn + n + 1)) ms → AllLast own n (sent_at turn ms)
last_at own n turn [] a = tt
last_at own n turn (m ∷ ms) a = (a.0, last_at own n turn ms a.1)

ahead_last : (own : ℕ → ℕ) (n turn : ℕ) (u : StepUnit) → AllLast own n (ahead_of_step turn u)
ahead_last own n turn u =
    let resets = map plain (reset_commands u.stepper u.reset) in
    let dirs = map plain (dir_commands u.stepper u.up) in
    let t = own (turn + n + 1) in
    all_last_append own n (sent_at turn resets) (sent_at turn dirs) (last_at own n turn resets (resets_timely t u.stepper u.reset)) (last_at own n turn dirs (dirs_timely t u.stepper u.up))

-- all of some releases have their first step at or behind a tick
abbrev pub FirstsFrom : ℕ → List Release → Type 0
FirstsFrom x [] = Unit {0}
FirstsFrom x (r ∷ rs) = (x ≤ slice_index (ticks_meant r.unit) 0) × FirstsFrom x rs

abbrev pub AllFirsts : ℕ → List BoardSection → Type 0
AllFirsts x [] = Unit {0}
AllFirsts x (s ∷ ss) = FirstsFrom x s.releases × AllFirsts x ss

-- releases of a section, in the order of their turns and of their first steps
abbrev pub AreInRank : Frame → List Release → Type 0
AreInRank f [] = Unit {0}
AreInRank f (r ∷ rs) =
    IsInside f r.unit × (r.unit.first ≡ slice_index (ticks_meant r.unit) 0) × AreFrom r.turn rs × FirstsFrom r.unit.first rs × AreInRank f rs

-- so they are all timely
batch_last : (t x k : ℕ) (rs : List Release) → t < x + 2 ^ 31 → FirstsFrom x rs → Lasting t (batch_at k rs)
batch_last t x k [] h a = tt
batch_last t x k (r ∷ rs) h a =
    let rest = batch_last t x k rs h a.1 in
    elim (eqb_tells r.turn k) [ inl p ↦ rw p.0 (omega (arith, h, a.0), rest) | inr p ↦ rw p.0 rest ]

lasting_append : (t : ℕ) (us vs : List StepUnit) → Lasting t us → Lasting t vs → Lasting t (us ++ vs)
lasting_append t [] vs a b = b
lasting_append t (u ∷ us) vs a b = (a.0, lasting_append t us vs a.1 b)

units_last : (t x k : ℕ) (ss : List BoardSection) → t < x + 2 ^ 31 → AllFirsts x ss → Lasting t (units_at k ss)
units_last t x k [] h a = tt
units_last t x k (s ∷ ss) h a = lasting_append t (batch_at k s.releases) (units_at k ss) (batch_last t x k s.releases h a.0) (units_last t x k ss h a.1)

orders_last : (t x turn : ℕ) (ss : List BoardSection) (os : List Orders) → t < x + 2 ^ 31 → AllFirsts x ss → AreOrdersOf ss turn os → AreTimely t (orders_sent (sent_in turn os))
orders_last t x turn ss [] h a orders = tt
orders_last t x turn ss (o ∷ os) h a orders =
    let Timely : List Meant → Type 0 = λ y. AreTimely t y in
    let On : List StepUnit → Type 0 = λ us. Lasting t us in
    let here = timely_append t (map plain o.control.commands) (units_orders o.batch.units) (controls_timely t o.control.commands orders.0)
    (units_timely t o.batch.units (subst On (sym orders.1) (units_last t x turn ss h a))) in
    let rest = orders_last t x (turn + 1) ss os h a orders.2 in
    subst Timely (sym (orders_append (sent_at turn (queued_in o)) (sent_in (turn + 1) os) ∙ ap (λ y. y ++ orders_sent (sent_in (turn + 1) os)) (orders_at turn (queued_in o))))
    (timely_append t (queued_in o) (orders_sent (sent_in (turn + 1) os)) here rest)

-- one unit
abbrev pub IsFar : (ℕ → ℕ) → ℕ → Type 0
IsFar own n = (k : ℕ) → own (k + (n + 5 + 2)) < own k + 2 ^ 31

one_lasts : (f : Frame) (n : ℕ) (r : Release) → IsFar f.own n → IsInside f r.unit → r.turn ≤ r.unit.due + 5 → f.own (r.turn + n + 1) < r.unit.first + 2 ^ 31
one_lasts f n r far i late = unit_lasts f n 5 r.turn (r.turn + n) r.unit i late (omega arith) far

one_past : (f : Frame) (r : Release) → IsInside f r.unit → r.unit.due + 5 ≤ r.turn → r.unit.first < f.own r.turn
one_past f r i late =
    over_made f.own f.clocks f.ready f.start r.turn r.unit.first f.ticks f.tracked (omega (arith, f.after)) (omega (arith, i.low))
    (omega (arith, turn-below f.clocks r.unit.first f.end (omega (arith, i.up, i.high)), f.limit)) (omega (arith, i.due, late))

-- the units of a turn, and what is queued behind them
abbrev Behind : Frame → List Release → List Sent → Type 0
Behind f rs later = (t x : ℕ) → t < x + 2 ^ 31 → FirstsFrom x rs → x < lines_tick f.clocks ((f.end + 1) * turn_ns) → AreTimely t (orders_sent later)

-- it is cut in the turn, or behind it
abbrev IsIn : ℕ → List Sent → Type 0
IsIn turn [] = ⊥
IsIn turn (s ∷ ss) = s.turn ≡ turn

abbrev CutsIn : (ℕ → ℕ) → ℕ → ℕ → (List Sent → Type 0) → List Sent → Type 0
CutsIn own n turn P sent = (c : IsCut own n sent) × (IsIn turn c.tail ⊎ P c.tail)

turn_cut : (f : Frame) (n turn : ℕ) (P : List Sent → Type 0) (rs : List Release) (later : List Sent) → IsFar f.own n → AreInRank f rs → AreFrom turn rs → LateOneByOne rs
    → Behind f (after_turn turn rs) later → (LateOneByOne (after_turn turn rs) → (c : IsCut f.own n later) × P c.tail) → CutsIn f.own n turn P (sent_at turn (units_orders (batch_at turn rs)) ++ later)
unfolding cut_ahead
turn_cut f n turn P [] later far rank from late behind next = let x = next tt in (x.0, inr x.1)
turn_cut f n turn P (r ∷ rs) later far rank from late behind next =
    let u = r.unit in
    elim (eqb_tells r.turn turn) as (λ _. CutsIn f.own n turn P (sent_at turn (units_orders (batch_at turn (r ∷ rs))) ++ later)) [
      | inr p ↦
          let more : turn + 1 ≤ r.turn = omega (arith, p.1, from.0) in
          let none = none_at turn rs (from_down (turn + 1) r.turn rs more rank.2) in
          let all = rw p.0 at next in
          let x = all late in
          rw (p.0, none) (x.0, inr x.1)
      | inl p ↦
          let one_behind = rw p.0 at behind in
          let one_next = rw p.0 at next in
          let others = sent_at turn (units_orders (batch_at turn rs)) in
          let split : sent_at turn (units_orders (u ∷ batch_at turn rs)) ++ later ≡ sent_at turn (unit_orders u) ++ (others ++ later) =
          ap (λ x. x ++ later) (sent_append turn (unit_orders u) (units_orders (batch_at turn rs))) ∙ append_assoc (sent_at turn (unit_orders u)) others later in
          let last = one_lasts f n r far rank.0 late.0 in
          let first = rank.1 in
          let same = p.1 in
          let Cut : List Sent → Type 0 = λ x. CutsIn f.own n turn P x in
          let Timely : ℕ → Type 0 = λ k. f.own (k + n + 1) < u.first + 2 ^ 31 in
          let now = subst Timely same last in
          rw p.0 (subst Cut (sym split) (elim (leb_tells (suc r.turn) (u.due + 5)) as (λ _. CutsIn f.own n turn P (sent_at turn (unit_orders u) ++ (others ++ later))) [
            | inl q ↦
                let On : List Sent → Type 0 = λ x. AllLast f.own n x in
                let x = turn_cut f n turn P rs later far rank.4 (from_down turn r.turn rs (omega (arith, same)) rank.2) (late.1 (omega (arith, q.1))) one_behind one_next in (
                  cut_ahead f.own n (sent_at turn (unit_orders u)) (others ++ later)
                      (subst On (sym (unit_is turn u)) (all_last_append f.own n (ahead_of_step turn u) (step_sent turn u ∷ []) (ahead_last f.own n turn u) (omega (arith, now, first), tt)))
                      x.0,
                  x.1,
                )
            | inr q ↦
                let Past : ℕ → Type 0 = λ k. u.first < f.own k in
                let past = subst Past same (one_past f r rank.0 (omega (arith, q.1))) in
                let t = f.own (turn + n + 1) in
                let inside = rank.0.up in
                let within = rank.0.high in
                let OnMeant : List Meant → Type 0 = λ x. AreTimely t x in
                let here : AreTimely t (orders_sent others) = subst OnMeant (sym (orders_at turn (units_orders (batch_at turn rs)))) (units_timely t (batch_at turn rs) (batch_last t u.first turn rs now rank.3)) in
                let rest : AreTimely t (orders_sent (others ++ later)) = subst OnMeant (sym (orders_append others later))
                (timely_append t (orders_sent others) (orders_sent later) here (one_behind t u.first now (after_firsts u.first turn rs rank.3) (omega (arith, inside, within)))) in
                let c : IsCut f.own n (sent_at turn (unit_orders u) ++ (others ++ later)) = record {
                  front = ahead_of_step turn u;
                  tail = step_sent turn u ∷ (others ++ later);
                  is = ap (λ x. x ++ (others ++ later)) (unit_is turn u) ∙ append_assoc (ahead_of_step turn u) (step_sent turn u ∷ []) (others ++ later);
                  last = ahead_last f.own n turn u;
                  past = (omega (arith, past, first), omega (arith, now, first), rest);
                } in
                (c, inl refl)
          ]))
    ]
  where
    after_firsts : (x k : ℕ) (qs : List Release) → FirstsFrom x qs → FirstsFrom x (after_turn k qs)
    after_firsts x k [] a = tt
    after_firsts x k (q ∷ qs) a = elim (eqb_tells q.turn k) [ inl p ↦ rw p.0 (after_firsts x k qs a.1) | inr p ↦ rw p.0 a ]

-- what is left behind a turn
after_rank : (f : Frame) (k : ℕ) (rs : List Release) → AreInRank f rs → AreInRank f (after_turn k rs)
after_rank f k [] a = tt
after_rank f k (r ∷ rs) a = elim (eqb_tells r.turn k) [ inl p ↦ rw p.0 (after_rank f k rs a.4) | inr p ↦ rw p.0 a ]

after_later : (f : Frame) (k : ℕ) (rs : List Release) → AreInRank f rs → AreFrom k rs → AreFrom (k + 1) (after_turn k rs)
after_later f k [] a h = tt
after_later f k (r ∷ rs) a h =
    elim (eqb_tells r.turn k) [
      | inl p ↦ rw p.0 (after_later f k rs a.4 h.1)
      | inr p ↦
          let more : k + 1 ≤ r.turn = omega (arith, p.1, h.0) in
          rw p.0 (more, from_down (k + 1) r.turn rs more a.2)
    ]

-- sections one behind the other, with what is sent of each
pub record IsRanked (own : ℕ → ℕ) (clocks : Clocks) (slots ready : ℕ) (ticks : AreTicks own) (tracked : AreTracked own clocks ready) (e : ℕ) (s : BoardSection) : Type 0 where
  pub after : ready + 260 ≤ s.start
  pub order : s.start ≤ s.end
  pub limit : s.end < tracked.until
  pub row : e + 260 ≤ s.start
  pub rank : AreInRank (record { own = own; clocks = clocks; slots = slots; ready = ready; start = s.start; end = s.end; ticks = ticks; tracked = tracked; after = after; order = order; limit = limit }) s.releases
  pub from : AreFrom (s.start - 250) s.releases
  pub late : LateOneByOne s.releases
  pub few : (k : ℕ) → sum_of (batch_at k s.releases) ≤ 210

abbrev pub AreRanked : (own : ℕ → ℕ) (clocks : Clocks) (slots ready : ℕ) (ticks : AreTicks own) (tracked : AreTracked own clocks ready) → ℕ → List BoardSection → Type 0
AreRanked own clocks slots ready ticks tracked e [] = Unit {0}
AreRanked own clocks slots ready ticks tracked e (s ∷ ss) = IsRanked own clocks slots ready ticks tracked e s × AreRanked own clocks slots ready ticks tracked s.end ss

-- of sections that start later nothing is released
abbrev AreLater : ℕ → List BoardSection → Type 0
AreLater n [] = Unit {0}
AreLater n (s ∷ ss) = (n + 250 ≤ s.start) × AreLater n ss

ranked_later : (own : ℕ → ℕ) (clocks : Clocks) (slots ready : ℕ) (ticks : AreTicks own) (tracked : AreTracked own clocks ready) (e n : ℕ) (ss : List BoardSection) → AreRanked own clocks slots ready ticks tracked e ss → n ≤ e + 10 → AreLater n ss
ranked_later own clocks slots ready ticks tracked e n [] r h = tt
ranked_later own clocks slots ready ticks tracked e n (s ∷ ss) r h =
    let row = r.0.row in
    let order = r.0.order in
    (omega (arith, row, h), ranked_later own clocks slots ready ticks tracked s.end n ss r.1 (omega (arith, row, order, h)))

ranked_none : (own : ℕ → ℕ) (clocks : Clocks) (slots ready : ℕ) (ticks : AreTicks own) (tracked : AreTracked own clocks ready) (e n : ℕ) (ss : List BoardSection) → AreRanked own clocks slots ready ticks tracked e ss → AreLater (n + 1) ss → units_at n ss ≡ []
ranked_none own clocks slots ready ticks tracked e n [] r h = refl
ranked_none own clocks slots ready ticks tracked e n (s ∷ ss) r h =
    ap (λ x. x ++ units_at n ss) (none_at n s.releases (from_down (n + 1) (s.start - 250) s.releases (omega (arith, h.0)) r.0.from))
    ∙ ranked_none own clocks slots ready ticks tracked s.end n ss r.1 h.1

-- and their first steps are behind those of the sections before them
lines_up : (clocks : Clocks) (j k : ℕ) → j ≤ k → lines_tick clocks (j * turn_ns) ≤ lines_tick clocks (k * turn_ns)
lines_up clocks j k h = tick_over-mono clocks.first 0 clocks.held (j * turn_ns) (k * turn_ns) (omega (arith, h))

rank_firsts : (f : Frame) (x : ℕ) (rs : List Release) → AreInRank f rs → x ≤ lines_tick f.clocks (f.start * turn_ns) → FirstsFrom x rs
rank_firsts f x [] a h = tt
rank_firsts f x (r ∷ rs) a h =
    let low = a.0.low in
    let first = a.1 in
    (omega (arith, low, first, h), rank_firsts f x rs a.4 h)

ranked_firsts : (own : ℕ → ℕ) (clocks : Clocks) (slots ready : ℕ) (ticks : AreTicks own) (tracked : AreTracked own clocks ready) (e x : ℕ) (ss : List BoardSection) → AreRanked own clocks slots ready ticks tracked e ss
    → x ≤ lines_tick clocks ((e + 1) * turn_ns) → AllFirsts x ss
ranked_firsts own clocks slots ready ticks tracked e x [] r h = tt
ranked_firsts own clocks slots ready ticks tracked e x (s ∷ ss) r h =
    let row = r.0.row in
    let order = r.0.order in
    let f : Frame = record { own = own; clocks = clocks; slots = slots; ready = ready; start = s.start; end = s.end; ticks = ticks; tracked = tracked; after = r.0.after; order = order; limit = r.0.limit } in
    let up = lines_up clocks (e + 1) s.start (omega (arith, row)) in
    let on = lines_up clocks s.start (s.end + 1) (omega (arith, order)) in
    (rank_firsts f x s.releases r.0.rank (omega (arith, h, up)), ranked_firsts own clocks slots ready ticks tracked s.end x ss r.1 (omega (arith, h, up, on)))

-- What is queued in some turns is cut, and in the turns up to that of the cut no more than 210 bytes of units are queued in each.
abbrev pub AreFew : List Orders → Type 0
AreFew [] = Unit {0}
AreFew (o ∷ os) = (sum_of o.batch.units ≤ 210) × AreFew os

abbrev pub Reaches : ℕ → ℕ → List Sent → Type 0
Reaches turn end [] = turn ≡ end
Reaches turn end (s ∷ ss) = s.turn + 1 ≡ turn

pub record IsWalked (own : ℕ → ℕ) (n turn : ℕ) (os : List Orders) : Type 0 where
  pub cut : IsCut own n (sent_in turn os)
  pub count : ℕ
  pub short : count ≤ length os
  pub few : AreFew (take count os)
  pub reach : Reaches (turn + count) (turn + length os) cut.tail

abbrev GoesOn : (ℕ → ℕ) → ℕ → List BoardSection → Type 0
GoesOn own n ss = (os : List Orders) (turn : ℕ) → HeadLater turn ss → AreOrdersOf ss turn os → IsWalked own n turn os

none_cut : (own : ℕ → ℕ) (n turn : ℕ) → IsWalked own n turn []
none_cut own n turn = record { cut = record { front = []; tail = []; is = refl; last = tt; past = tt }; count = 0; short = omega arith; few = tt; reach = refl }

-- one more turn
reach_on : (turn count end more : ℕ) (ss : List Sent) → more ≡ suc end → Reaches (turn + 1 + count) (turn + 1 + end) ss → Reaches (turn + suc count) (turn + more) ss
reach_on turn count end more [] e r = omega (arith, r, e)
reach_on turn count end more (s ∷ ss) e r = omega (arith, r)

stops_here : (turn end : ℕ) (ss : List Sent) → IsIn turn ss → Reaches (turn + 1) end ss
stops_here turn end [] i = absurd i
stops_here turn end (s ∷ ss) i = omega (arith, i)

-- behind a turn the walk goes on so
abbrev On : (ℕ → ℕ) → ℕ → List Orders → List Sent → Type 0
On own turn os tail = (count : ℕ) × (count ≤ length os) × AreFew (take count os) × Reaches (turn + 1 + count) (turn + 1 + length os) tail

walked : (own : ℕ → ℕ) (n turn : ℕ) (o : Orders) (os : List Orders) (cs us : List Sent) → sum_of o.batch.units ≤ 210 → sent_in turn (o ∷ os) ≡ cs ++ us → AllLast own n cs → CutsIn own n turn (On own turn os) us → IsWalked own n turn (o ∷ os)
walked own n turn o os cs us few is last c = elim c.1 [
  | inl here ↦ record {
    cut = cut_is (sent_in turn (o ∷ os)) is;
    count = 1;
    short = omega arith;
    few = (few, tt);
    reach = stops_here turn (turn + length (o ∷ os)) c.0.tail here;
  }
  | inr on ↦ record {
    cut = cut_is (sent_in turn (o ∷ os)) is;
    count = suc on.0;
    short = omega (arith, on.1);
    few = (few, on.2);
    reach = reach_on turn on.0 (length os) (length (o ∷ os)) c.0.tail (omega arith) on.3;
  }
]
  where
    cut_is : (sent : List Sent) → sent ≡ cs ++ us → IsCut own n sent
    cut_is sent e = record { front = cs ++ c.0.front; tail = c.0.tail; is = e ∙ ap (λ x. cs ++ x) c.0.is ∙ sym (append_assoc cs c.0.front c.0.tail); last = all_last_append own n cs c.0.front last c.0.last; past = c.0.past }

section_cut : (f : Frame) (n : ℕ) (ss : List BoardSection) → IsFar f.own n → AreRanked f.own f.clocks f.slots f.ready f.ticks f.tracked f.end ss → GoesOn f.own n ss → (os : List Orders) (turn : ℕ) (rs : List Release)
    → AreInRank f rs → AreFrom turn rs → LateOneByOne rs → ((k : ℕ) → turn ≤ k → sum_of (batch_at k rs) ≤ 210) → HeadLater turn ss → AreOrdersOf (cur rs ∷ ss) turn os → IsWalked f.own n turn os
section_cut f n ss far ranked next [] turn rs rank from late few head orders = none_cut f.own n turn
section_cut f n ss far ranked next (o ∷ os) turn [] rank from late few head orders = next (o ∷ os) turn head (orders_as (cur [] ∷ ss) ss turn (o ∷ os) (λ k le. refl) orders)
section_cut f n ss far ranked next (o ∷ os) turn (r ∷ rs) rank from late few head orders =
    let i = rank.0 in
    let by = turn-below f.clocks r.unit.first f.end (omega (arith, i.up, i.high)) in
    let soon : turn ≤ f.end + 5 = omega (arith, late.0, by, i.due, from.0) in
    let later_ss = ranked_later f.own f.clocks f.slots f.ready f.ticks f.tracked f.end (turn + 1) ss ranked (omega (arith, soon)) in
    let none = ranked_none f.own f.clocks f.slots f.ready f.ticks f.tracked f.end turn ss ranked later_ss in
    let us = batch_at turn (r ∷ rs) in
    let units : o.batch.units ≡ us = orders.1 ∙ ap (λ x. us ++ x) none ∙ append-nil us in
    let left = after_turn turn (r ∷ rs) in
    let same = λ (k : ℕ) (le : turn + 1 ≤ k). same_batch k turn (r ∷ rs) (λ e. absurd (omega (arith, e, le))) in
    let others = orders_as (cur (r ∷ rs) ∷ ss) (cur left ∷ ss) (turn + 1) os (λ k le. ap (λ x. x ++ units_at k ss) (same k le)) orders.2 in
    let later = sent_in (turn + 1) os in
    let cs = sent_at turn (map plain o.control.commands) in
    let Few : List StepUnit → Type 0 = λ x. sum_of x ≤ 210 in
    let FewLeft : (k : ℕ) → turn + 1 ≤ k → sum_of (batch_at k left) ≤ 210 = λ k le. subst Few (same k le) (few k (omega (arith, le))) in
    walked f.own n turn o os cs (sent_at turn (units_orders us) ++ later) (subst Few (sym units) (few turn (omega arith)))
    (parts_sent turn o us later units ∙ append_assoc cs (sent_at turn (units_orders us)) later) (last_at f.own n turn (map plain o.control.commands) (controls_timely (f.own (turn + n + 1)) o.control.commands orders.0))
    (turn_cut f n turn (On f.own turn os) (r ∷ rs) later far rank from late
    (λ t x h firsts high. orders_last t x (turn + 1) (cur left ∷ ss) os h (firsts, ranked_firsts f.own f.clocks f.slots f.ready f.ticks f.tracked f.end x ss ranked (omega (arith, high))) others)
    (λ l. let w = section_cut f n ss far ranked next os (turn + 1) left (after_rank f turn (r ∷ rs) rank) (after_later f turn (r ∷ rs) rank from) l FewLeft (head_on ss later_ss) others in
    (w.cut, (w.count, w.short, w.few, w.reach))))
  where
    head_on : (ts : List BoardSection) → AreLater (turn + 1) ts → HeadLater (turn + 1) ts
    head_on [] l = tt
    head_on (t ∷ ts) l = l.0

controls_cut : (own : ℕ → ℕ) (n : ℕ) (os : List Orders) (turn : ℕ) → AreOrdersOf [] turn os → IsWalked own n turn os
controls_cut own n [] turn orders = none_cut own n turn
controls_cut own n (o ∷ os) turn orders =
    let later = sent_in (turn + 1) os in
    let cs = sent_at turn (map plain o.control.commands) in
    let w = controls_cut own n os (turn + 1) orders.2 in
    let none = ap sum_of orders.1 in
    walked own n turn o os cs later (omega (arith, none)) (parts_sent turn o [] later orders.1 ∙ append_assoc cs [] later) (last_at own n turn (map plain o.control.commands) (controls_timely (own (turn + n + 1)) o.control.commands orders.0)) (w.cut, inr (w.count, w.short, w.few, w.reach))

pub sections_cut : (own : ℕ → ℕ) (clocks : Clocks) (slots ready : ℕ) (ticks : AreTicks own) (tracked : AreTracked own clocks ready) (n e : ℕ) (ss : List BoardSection) → IsFar own n → AreRanked own clocks slots ready ticks tracked e ss → GoesOn own n ss
sections_cut own clocks slots ready ticks tracked n e [] far ranked = λ os turn head orders. controls_cut own n os turn orders
sections_cut own clocks slots ready ticks tracked n e (s ∷ ss) far ranked = λ os turn head orders.
    let r = ranked.0 in
    let f : Frame = record { own = own; clocks = clocks; slots = slots; ready = ready; start = s.start; end = s.end; ticks = ticks; tracked = tracked; after = r.after; order = r.order; limit = r.limit } in
    let order = r.order in
    section_cut f n ss far ranked.1 (sections_cut own clocks slots ready ticks tracked n s.end ss far ranked.1) os turn s.releases r.rank (from_down turn (s.start - 250) s.releases (omega (arith, head)) r.from) r.late (λ k le. r.few k)
    (head_row turn ss ranked.1 (omega (arith, head, order))) (orders_as (s ∷ ss) (cur s.releases ∷ ss) turn os (λ k le. refl) orders)
  where
    head_row : (turn : ℕ) (ts : List BoardSection) → AreRanked own clocks slots ready ticks tracked s.end ts → turn ≤ s.end → HeadLater turn ts
    head_row turn [] l h = tt
    head_row turn (t ∷ ts) l h = let row = l.0.row in omega (arith, row, h)
