-- A board that takes the first unit that is five turns late shuts down, so all that it takes before is timely.
use Rattle.std.proofs.Common.{◌≡◌, ℕ, ◌+◌, ◌<◌, ◌≤◌, ◌⊎◌, List, [], ◌∷◌, ◌++◌, length, refl, ap, sym, ◌∙◌, subst, arith, inl, inr, append-nil, length-append}
use Rattle.laws_board.proofs.Names.{eqb_tells, Cmd, Meant, Orders, queued_in}
use Rattle.plan_types.specs.Board.{last_of}
use Rattle.msg_code.specs.declared.cmd.Cmd.TheVariants as cmd
use Rattle.laws_board.specs.sections.Known.{AreQueued, Sent, sent_at, sent_in, orders_sent, Known, unknown, knows, knows_of, known_from, known_steppers, AreBelow, IsGoodFor, AreGoodFrom, IsLostFor, BeginLost}
use Rattle.laws_board.specs.sections.Timely.{AreTimely}
use Rattle.laws_board.proofs.sections.Latest.{AllLast, BeginPast, IsCut, IsPast}
use Rattle.laws_board.proofs.sections.Lists.{cuts, good_behind, good_front, orders_append, own_up}
use Rattle.laws_board.proofs.sections.Soon.{all_before, one_before, timely_append}
use Rattle.board_sim.proofs.Steps.{last_any}
use Rattle.section_units.proofs.Ordering.{ends_up as first_last}

-- the last ticks of a stepper's triples are not behind its clock, or before a tick
abbrev Ends : ℕ → ℕ → List ℕ → Type 0
Ends x clock [] = Unit {0}
Ends x clock (e ∷ es) = ((e ≤ clock) ⊎ (e < x)) × Ends x clock es

ends_up : (x clock later : ℕ) (es : List ℕ) → clock ≤ later → Ends x clock es → Ends x later es
ends_up x clock later [] h a = tt
ends_up x clock later (e ∷ es) h a = (elim a.0 [ inl p ↦ inl (omega (arith, p, h)) | inr p ↦ inr p ], ends_up x clock later es h a.1)

ends_below : (x y clock : ℕ) (es : List ℕ) → x ≤ y → AreBelow x es → Ends y clock es
ends_below x y clock [] h a = tt
ends_below x y clock (e ∷ es) h a = (inr (omega (arith, a.0, h)), ends_below x y clock es h a.1)

below_ends : (x clock : ℕ) (es : List ℕ) → clock < x → Ends x clock es → AreBelow x es
below_ends x clock [] h a = tt
below_ends x clock (e ∷ es) h a = (elim a.0 [ inl p ↦ omega (arith, p, h) | inr p ↦ p ], below_ends x clock es h a.1)

abbrev KeepsEnds : ℕ → Known → Type 0
KeepsEnds x k = Ends x k.clock k.ends

one_keeps : (own : ℕ → ℕ) (slots oid turn x : ℕ) (k : Known) (c : Cmd) (ticks : List ℕ) → own turn ≤ x → IsGoodFor own slots oid turn k c ticks → KeepsEnds x k → KeepsEnds x (knows_of oid k c ticks)
one_keeps own slots oid turn x k (cmd.QueueStep other interval count add) ticks h good a = elim (eqb_tells other oid) [
  | inl p ↦
      let g = good p.1 in
      let some : 0 < length ticks = omega (arith, g.ticks_of.number, g.ticks_of.some) in
      let same = last_any 0 k.clock ticks some in
      let first = first_last ticks g.rise some in
      let behind = g.behind in
      rw p.0 (inl (omega (arith, same)), ends_up x k.clock (last_of k.clock ticks) k.ends (omega (arith, behind, first, same)) a)
  | inr p ↦ rw p.0 a
]
one_keeps own slots oid turn x k (cmd.ResetStepClock other clock) ticks h good a = elim (eqb_tells other oid) [
  | inl p ↦ rw p.0 (ends_below (own turn) x clock k.ends h (good p.1).before)
  | inr p ↦ rw p.0 a
]
one_keeps own slots oid turn x k (cmd.SetNextStepDir other dir) ticks h good a = elim (eqb_tells other oid) [ inl p ↦ rw p.0 a | inr p ↦ rw p.0 a ]
one_keeps own slots oid turn x k (cmd.ConfigStepper other step dir invert width) ticks h good a = elim (eqb_tells other oid) [ inl p ↦ rw p.0 a | inr p ↦ rw p.0 a ]
one_keeps own slots oid turn x k _ ticks h good a = a

keeps_ends : (own : ℕ → ℕ) → ((k : ℕ) → own k ≤ own (k + 1)) → (slots oid turn : ℕ) (k : Known) (ss : List Sent) → AreGoodFrom own slots oid k ss → AreQueued turn ss → KeepsEnds (own turn) k → KeepsEnds (own turn) (known_from oid k ss)
keeps_ends own up slots oid turn k [] good to a = a
keeps_ends own up slots oid turn k (s ∷ ss) good to a =
    keeps_ends own up slots oid turn (knows oid k s.order) ss good.1 to.1
    (one_keeps own slots oid s.turn (own turn) k s.order.command s.order.ticks (own_up own up s.turn turn to.0) good.0 a)

-- so a good triple whose first step is past is lost
past_lost : (own : ℕ → ℕ) (slots turn : ℕ) (ks : ℕ → Known) (c : Cmd) (ticks : List ℕ) → ((oid : ℕ) → IsGoodFor own slots oid turn (ks oid) c ticks) → ((oid : ℕ) → KeepsEnds (own turn) (ks oid))
    → IsPast own turn c ticks → IsLostFor own turn ks c ticks
past_lost own slots turn ks (cmd.QueueStep other interval count add) ticks good ends past =
    let behind = (good other refl).behind in
    (past, below_ends (own turn) (ks other).clock (ks other).ends (omega (arith, behind, past)) (ends other))
past_lost own slots turn ks _ ticks good ends past = absurd past

-- commands that were sent from a turn on
abbrev pub AreSince : ℕ → List Sent → Type 0
AreSince turn [] = Unit {0}
AreSince turn (s ∷ ss) = (turn ≤ s.turn) × AreSince turn ss

since_down : (j k : ℕ) (ss : List Sent) → j ≤ k → AreSince k ss → AreSince j ss
since_down j k [] h a = tt
since_down j k (s ∷ ss) h a = (omega (arith, a.0, h), since_down j k ss h a.1)

since_append : (k : ℕ) (ss ts : List Sent) → AreSince k ss → AreSince k ts → AreSince k (ss ++ ts)
since_append k [] ts a b = b
since_append k (s ∷ ss) ts a b = (a.0, since_append k ss ts a.1 b)

since_front : (k : ℕ) (ss ts : List Sent) → AreSince k (ss ++ ts) → AreSince k ss
since_front k [] ts a = tt
since_front k (s ∷ ss) ts a = (a.0, since_front k ss ts a.1)

pub since_behind : (k : ℕ) (ss ts : List Sent) → AreSince k (ss ++ ts) → AreSince k ts
since_behind k [] ts a = a
since_behind k (s ∷ ss) ts a = since_behind k ss ts a.1

since_at : (k : ℕ) (ms : List Meant) → AreSince k (sent_at k ms)
since_at k [] = tt
since_at k (m ∷ ms) = (omega arith, since_at k ms)

pub since_in : (k : ℕ) (os : List Orders) → AreSince k (sent_in k os)
since_in k [] = tt
since_in k (o ∷ os) = since_append k (sent_at k (queued_in o)) (sent_in (k + 1) os) (since_at k (queued_in o)) (since_down k (k + 1) (sent_in (k + 1) os) (omega arith) (since_in (k + 1) os))

-- those that stand before one were sent by its turn
abbrev pub AreSorted : List Sent → Type 0
AreSorted [] = Unit {0}
AreSorted (s ∷ ss) = AreSince s.turn ss × AreSorted ss

sorted_at : (k : ℕ) (ms : List Meant) (ss : List Sent) → AreSince k ss → AreSorted ss → AreSorted (sent_at k ms ++ ss)
sorted_at k [] ss a b = b
sorted_at k (m ∷ ms) ss a b = (since_append k (sent_at k ms) ss (since_at k ms) a, sorted_at k ms ss a b)

pub sorted_in : (k : ℕ) (os : List Orders) → AreSorted (sent_in k os)
sorted_in k [] = tt
sorted_in k (o ∷ os) = sorted_at k (queued_in o) (sent_in (k + 1) os) (since_down k (k + 1) (sent_in (k + 1) os) (omega arith) (since_in (k + 1) os)) (sorted_in (k + 1) os)

pub up_to : (front : List Sent) (s : Sent) (tail : List Sent) → AreSorted (front ++ s ∷ tail) → AreQueued s.turn front
up_to [] s tail a = tt
up_to (f ∷ front) s tail a = ((since_behind f.turn front (s ∷ tail) a.0).0, up_to front s tail a.1)

since_here : (front : List Sent) (s : Sent) (tail : List Sent) → AreSorted (front ++ s ∷ tail) → AreSince s.turn tail
since_here [] s tail a = a.0
since_here (f ∷ front) s tail a = since_here front s tail a.1

-- commands that last
pub last_front : (own : ℕ → ℕ) (n : ℕ) (ss ts : List Sent) → AllLast own n (ss ++ ts) → AllLast own n ss
last_front own n [] ts a = tt
last_front own n (s ∷ ss) ts a = (a.0, last_front own n ss ts a.1)

pub last_behind : (own : ℕ → ℕ) (n : ℕ) (ss ts : List Sent) → AllLast own n (ss ++ ts) → AllLast own n ts
last_behind own n [] ts a = a
last_behind own n (s ∷ ss) ts a = last_behind own n ss ts a.1

-- they are timely, and so are those that begin with a late one
pub last_timely : (own : ℕ → ℕ) → ((k : ℕ) → own k ≤ own (k + 1)) → (n low turn : ℕ) (ss : List Sent) → AllLast own n ss → AreSince low ss → turn ≤ low + n + 1 → AreTimely (own turn) (orders_sent ss)
last_timely own up n low turn [] a b h = tt
last_timely own up n low turn (s ∷ ss) a b h =
    (one_before (own turn) (own (s.turn + n + 1)) s.order.command s.order.ticks (own_up own up turn (s.turn + n + 1) (omega (arith, b.0, h))) a.0, last_timely own up n low turn ss a.1 b.1 h)

past_timely : (own : ℕ → ℕ) → ((k : ℕ) → own k ≤ own (k + 1)) → (n low turn : ℕ) (ss : List Sent) → BeginPast own n ss → AreSince low ss → turn ≤ low + n + 1 → AreTimely (own turn) (orders_sent ss)
past_timely own up n low turn [] a b h = tt
past_timely own up n low turn (s ∷ ss) a b h =
    let up_to = own_up own up turn (s.turn + n + 1) (omega (arith, b.0, h)) in
    (one_before (own turn) (own (s.turn + n + 1)) s.order.command s.order.ticks up_to a.1, all_before (own turn) (own (s.turn + n + 1)) (orders_sent ss) up_to a.2)

lost_past : (own : ℕ → ℕ) (turn : ℕ) (ks : ℕ → Known) (c : Cmd) (ticks : List ℕ) → IsLostFor own turn ks c ticks → IsPast own turn c ticks
lost_past own turn ks (cmd.QueueStep other interval count add) ticks l = l.0
lost_past own turn ks _ ticks l = l

-- what is queued: good commands that last, and those behind a lost one
pub record IsTimed (own : ℕ → ℕ) (slots n : ℕ) (sent : List Sent) : Type 0 where
  pub front : List Sent
  pub tail : List Sent
  pub is : front ++ tail ≡ sent
  pub good : (oid : ℕ) → AreGoodFrom own slots oid unknown front
  pub lost : BeginLost own slots (known_steppers front) tail
  pub last : AllLast own n front
  pub past : BeginPast own n tail

within_front : (own : ℕ → ℕ) → ((k : ℕ) → own k ≤ own (k + 1)) → (slots n : ℕ) (sent front tail m rest : List Sent) → sent ≡ front ++ tail → AreSorted sent → ((oid : ℕ) → AreGoodFrom own slots oid unknown (front ++ m))
    → BeginLost own slots (known_steppers (front ++ m)) rest → tail ≡ m ++ rest → AllLast own n front → BeginPast own n tail → (x : IsTimed own slots n sent) × (x.front ≡ front)
within_front own up slots n sent front tail [] rest is sorted good lost same last past =
    let none : front ++ [] ≡ front = append-nil front in
    let Good : List Sent → Type 0 = λ x. (oid : ℕ) → AreGoodFrom own slots oid unknown x in
    let Lost : List Sent → Type 0 = λ x. BeginLost own slots (known_steppers x) tail in
    let Tail : List Sent → Type 0 = λ x. BeginLost own slots (known_steppers (front ++ [])) x in
    (record { front = front; tail = tail; is = sym is; good = subst Good none good; lost = subst Lost none (subst Tail (sym same) lost); last = last; past = past }, refl)
within_front own up slots n sent front tail (s ∷ m) rest is sorted good lost same last past =
    let At : List Sent → Type 0 = λ x. BeginPast own n x in
    let On : List Sent → Type 0 = λ x. AreSorted x in
    let late = subst At same past in
    let whole : sent ≡ front ++ s ∷ (m ++ rest) = is ∙ ap (λ x. front ++ x) same in
    let to = up_to front s (m ++ rest) (subst On whole sorted) in
    let first = λ (oid : ℕ). good_front own slots oid unknown front (s ∷ m) (good oid) in
    let one = λ (oid : ℕ). (good_behind own slots oid unknown front (s ∷ m) (good oid)).0 in (
      record {
        front = front;
        tail = s ∷ (m ++ rest);
        is = sym whole;
        good = first;
        lost = (one, past_lost own slots s.turn (known_steppers front) s.order.command s.order.ticks one (λ oid. keeps_ends own up slots oid s.turn unknown front (first oid) to tt) late.0);
        last = last;
        past = late;
      },
      refl,
    )

pub timed : (own : ℕ → ℕ) → ((k : ℕ) → own k ≤ own (k + 1)) → (slots n : ℕ) (os : List Orders) (front tail : List Sent) → sent_in 0 os ≡ front ++ tail → ((oid : ℕ) → AreGoodFrom own slots oid unknown front) → BeginLost own slots (known_steppers front) tail
    → (c : IsCut own n (sent_in 0 os)) → (x : IsTimed own slots n (sent_in 0 os)) × (length x.front ≤ length c.front)
timed own up slots n os front tail is good lost c = elim (cuts c.front c.tail front tail (sym c.is ∙ is)) [
  | inl p ↦
      let Good : List Sent → Type 0 = λ x. (oid : ℕ) → AreGoodFrom own slots oid unknown x in
      let Lost : List Sent → Type 0 = λ x. BeginLost own slots (known_steppers x) tail in
      let x = within_front own up slots n (sent_in 0 os) c.front c.tail p.0 tail c.is (sorted_in 0 os) (subst Good p.1 good) (subst Lost p.1 lost) p.2 c.last c.past in
      (x.0, (let size = ap length x.1 in omega (arith, size)))
  | inr p ↦
      let s = p.0 in
      let m = p.1 in
      let rest = m ++ c.tail in
      let whole : sent_in 0 os ≡ front ++ s ∷ rest = is ∙ ap (λ x. front ++ x) p.3 in
      let Sorted : List Sent → Type 0 = λ x. AreSorted x in
      let Last : List Sent → Type 0 = λ x. AllLast own n x in
      let Lost : List Sent → Type 0 = λ x. BeginLost own slots (known_steppers front) x in
      let Timely : List Meant → Type 0 = λ x. AreTimely (own (s.turn + n + 1)) x in
      let since = since_here front s rest (subst Sorted whole (sorted_in 0 os)) in
      let last = subst Last p.2 c.last in
      let mine = last_behind own n front (s ∷ m) last in
      let late = subst Lost p.3 lost in
      let t = s.turn + n + 1 in
      let timely = timely_append (own t) (orders_sent m) (orders_sent c.tail) (last_timely own up n s.turn t m mine.1 (since_front s.turn m c.tail since) (omega arith))
      (past_timely own up n s.turn t c.tail c.past (since_behind s.turn m c.tail since) (omega arith)) in (
        record {
          front = front;
          tail = s ∷ rest;
          is = sym whole;
          good = good;
          lost = late;
          last = last_front own n front (s ∷ m) last;
          past = (lost_past own s.turn (known_steppers front) s.order.command s.order.ticks late.1, mine.0, subst Timely (sym (orders_append m c.tail)) timely);
        },
        (let size = ap length p.2 in let both = length-append front (s ∷ m) in omega (arith, size, both)),
      )
]
