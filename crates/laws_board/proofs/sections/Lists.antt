-- Lists that are cut in two ways, and commands that were sent.
use Rattle.std.proofs.Common.{◌≡◌, ℕ, zero, suc, ◌+◌, ◌-◌, ◌≤◌, ◌⊎◌, List, [], ◌∷◌, ◌++◌, refl, ap, sym, ◌∙◌, arith, inl, inr, length, length-append, append-nil}
use Rattle.laws_board.proofs.Names.{Cmd, Meant, cons_same}
use Rattle.msg_code.specs.declared.cmd.Cmd.TheVariants as cmd
use Rattle.laws_board.specs.sections.Known.{AreQueued, Sent, sent_at, orders_sent, Known, knows, known_from, AreGoodFrom, IsLostFor, BeginLost}
use Rattle.laws_board.proofs.sections.Taking.{AreOld}

pub nil_cons : {X : Type 0} (x : X) (xs : List X) → [] ≡ x ∷ xs → ⊥
nil_cons x xs e = cc

-- where two cuts of a list stand: the first one is no later, or it is later
abbrev pub Cuts : {X : Type 0} → List X → List X → List X → List X → Type 0
Cuts {X} xs ys us vs = ((m : List X) × (us ≡ xs ++ m) × (ys ≡ m ++ vs)) ⊎ ((x : X) × (m : List X) × (xs ≡ us ++ x ∷ m) × (vs ≡ x ∷ m ++ ys))

pub cuts : {X : Type 0} (xs ys us vs : List X) → xs ++ ys ≡ us ++ vs → Cuts xs ys us vs
cuts [] ys us vs e = inl (us, refl, e)
cuts (x ∷ xs) ys [] vs e = inr (x, xs, refl, sym e)
cuts (x ∷ xs) ys (u ∷ us) vs e =
    let same = cons_same x u (xs ++ ys) (us ++ vs) e in
    elim (cuts xs ys us vs same.1) [
      | inl p ↦ inl (p.0, ap (λ t. u ∷ t) p.1 ∙ ap (λ t. t ∷ xs ++ p.0) (sym same.0), p.2)
      | inr p ↦ inr (p.0, p.1, ap (λ t. x ∷ t) p.2 ∙ ap (λ t. t ∷ us ++ p.0 ∷ p.1) same.0, p.3)
    ]

-- two cuts of a list at one place, counted from the front or from the end
pub one_place : {X : Type 0} (xs : List X) (x : X) (ys us : List X) (u : X) (vs : List X) → xs ++ x ∷ ys ≡ us ++ u ∷ vs → length xs ≡ length us → x ≡ u
one_place [] x ys [] u vs e l = cc
one_place [] x ys (w ∷ us) u vs e l = absurd (omega (arith, l))
one_place (w ∷ xs) x ys [] u vs e l = absurd (omega (arith, l))
one_place (w ∷ xs) x ys (z ∷ us) u vs e l = let rest : xs ++ x ∷ ys ≡ us ++ u ∷ vs = cc in one_place xs x ys us u vs rest (omega (arith, l))

pub same_place : {X : Type 0} (xs : List X) (x : X) (ys us : List X) (u : X) (vs : List X) → xs ++ x ∷ ys ≡ us ++ u ∷ vs → length ys ≡ length vs → (x ≡ u) × (ys ≡ vs)
same_place [] x ys [] u vs e l = (cc, cc)
same_place [] x ys (w ∷ us) u vs e l = let size = ap length e in let both = length-append us (u ∷ vs) in absurd (omega (arith, size, both, l))
same_place (w ∷ xs) x ys [] u vs e l = let size = ap length e in let both = length-append xs (x ∷ ys) in absurd (omega (arith, size, both, l))
same_place (w ∷ xs) x ys (z ∷ us) u vs e l = let rest : xs ++ x ∷ ys ≡ us ++ u ∷ vs = cc in same_place xs x ys us u vs rest l

-- commands that begin those that were sent
pub sent_front : (ms rest : List Meant) (ss : List Sent) → ms ++ rest ≡ orders_sent ss → (first : List Sent) × (left : List Sent) × (ss ≡ first ++ left) × (orders_sent first ≡ ms)
sent_front [] rest ss e = ([], ss, refl, refl)
sent_front (m ∷ ms) rest [] e = absurd (nil_cons m (ms ++ rest) (sym e))
sent_front (m ∷ ms) rest (s ∷ ss) e =
    let same = cons_same m s.order (ms ++ rest) (orders_sent ss) e in
    let more = sent_front ms rest ss same.1 in
    (s ∷ more.0, more.1, ap (λ t. s ∷ t) more.2, ap (λ t. s.order ∷ t) more.3 ∙ ap (λ t. t ∷ ms) (sym same.0))

pub orders_append : (ss ts : List Sent) → orders_sent (ss ++ ts) ≡ orders_sent ss ++ orders_sent ts
orders_append [] ts = refl
orders_append (s ∷ ss) ts = ap (λ x. s.order ∷ x) (orders_append ss ts)

pub orders_at : (turn : ℕ) (ms : List Meant) → orders_sent (sent_at turn ms) ≡ ms
orders_at turn [] = refl
orders_at turn (m ∷ ms) = ap (λ x. m ∷ x) (orders_at turn ms)

pub sent_append : (turn : ℕ) (ms ns : List Meant) → sent_at turn (ms ++ ns) ≡ sent_at turn ms ++ sent_at turn ns
sent_append turn [] ns = refl
sent_append turn (m ∷ ms) ns = ap (λ x. record { turn = turn; order = m } ∷ x) (sent_append turn ms ns)

pub known_append : (oid : ℕ) (k : Known) (ss ts : List Sent) → known_from oid k (ss ++ ts) ≡ known_from oid (known_from oid k ss) ts
known_append oid k [] ts = refl
known_append oid k (s ∷ ss) ts = known_append oid (knows oid k s.order) ss ts

pub good_front : (own : ℕ → ℕ) (slots oid : ℕ) (k : Known) (ss ts : List Sent) → AreGoodFrom own slots oid k (ss ++ ts) → AreGoodFrom own slots oid k ss
good_front own slots oid k [] ts g = tt
good_front own slots oid k (s ∷ ss) ts g = (g.0, good_front own slots oid (knows oid k s.order) ss ts g.1)

pub good_behind : (own : ℕ → ℕ) (slots oid : ℕ) (k : Known) (ss ts : List Sent) → AreGoodFrom own slots oid k (ss ++ ts) → AreGoodFrom own slots oid (known_from oid k ss) ts
good_behind own slots oid k [] ts g = g
good_behind own slots oid k (s ∷ ss) ts g = good_behind own slots oid (knows oid k s.order) ss ts g.1

-- a lost command stays one where the same is known
pub lost_for : (own : ℕ → ℕ) (turn : ℕ) (ks ls : ℕ → Known) (c : Cmd) (ticks : List ℕ) → ((oid : ℕ) → ks oid ≡ ls oid) → IsLostFor own turn ks c ticks → IsLostFor own turn ls c ticks
lost_for own turn ks ls (cmd.QueueStep other interval count add) ticks e l = (l.0, rw (← (e other)) l.1)
lost_for own turn ks ls _ ticks e l = absurd l

pub lost_same : (own : ℕ → ℕ) (slots : ℕ) (s : Sent) (m n : List Sent) (ks ls : ℕ → Known) → ((oid : ℕ) → ks oid ≡ ls oid) → BeginLost own slots ks (s ∷ n) → BeginLost own slots ls (s ∷ m)
lost_same own slots s m n ks ls e l = (λ oid. rw (← (e oid)) (l.0 oid), lost_for own s.turn ks ls s.order.command s.order.ticks e l.1)

pub lost_known : (own : ℕ → ℕ) (slots : ℕ) (ss : List Sent) (ks ls : ℕ → Known) → ((oid : ℕ) → ks oid ≡ ls oid) → BeginLost own slots ks ss → BeginLost own slots ls ss
lost_known own slots [] ks ls e l = tt
lost_known own slots (s ∷ ss) ks ls e l = lost_same own slots s ss ss ks ls e l

-- commands that were queued by a turn
pub up_append : (turn : ℕ) (ss ts : List Sent) → AreQueued turn ss → AreQueued turn ts → AreQueued turn (ss ++ ts)
up_append turn [] ts a b = b
up_append turn (s ∷ ss) ts a b = (a.0, up_append turn ss ts a.1 b)

pub up_front : (turn : ℕ) (ss ts : List Sent) → AreQueued turn (ss ++ ts) → AreQueued turn ss
up_front turn [] ts a = tt
up_front turn (s ∷ ss) ts a = (a.0, up_front turn ss ts a.1)

pub up_behind : (turn : ℕ) (ss ts : List Sent) → AreQueued turn (ss ++ ts) → AreQueued turn ts
up_behind turn [] ts a = a
up_behind turn (s ∷ ss) ts a = up_behind turn ss ts a.1

pub up_at : (turn : ℕ) (ms : List Meant) → AreQueued turn (sent_at turn ms)
up_at turn [] = tt
up_at turn (m ∷ ms) = (omega arith, up_at turn ms)

pub up_later : (turn : ℕ) (ss : List Sent) → AreQueued turn ss → AreQueued (turn + 1) ss
up_later turn [] a = tt
up_later turn (s ∷ ss) a = (omega (arith, a.0), up_later turn ss a.1)

-- a board's ticks don't fall
pub own_add : (own : ℕ → ℕ) → ((k : ℕ) → own k ≤ own (k + 1)) → (n k : ℕ) → own k ≤ own (k + n)
own_add own up zero k = let e : k + 0 ≡ k = omega arith in rw e (omega arith)
own_add own up (suc n) k =
    let e : k + suc n ≡ k + n + 1 = omega arith in
    rw e (omega (arith, own_add own up n k, up (k + n)))

pub own_up : (own : ℕ → ℕ) → ((k : ℕ) → own k ≤ own (k + 1)) → (j k : ℕ) → j ≤ k → own j ≤ own k
own_up own up j k h =
    let n = k - j in
    let e : j + n ≡ k = omega (arith, h) in
    rw e at (own_add own up n j)

pub old_up : (own : ℕ → ℕ) → ((k : ℕ) → own k ≤ own (k + 1)) → (turn : ℕ) (ss : List Sent) → AreQueued turn ss → AreOld own (own turn) ss
old_up own up turn [] a = tt
old_up own up turn (s ∷ ss) a = (own_up own up s.turn turn a.0, old_up own up turn ss a.1)

-- a longer front of a list, and what it is behind the shorter one
pub shorter : {X : Type 0} (xs ys us vs : List X) → xs ++ ys ≡ us ++ vs → length us ≤ length xs → (mid : List X) × (xs ≡ us ++ mid) × (mid ++ ys ≡ vs)
shorter xs ys us vs e l = elim (cuts xs ys us vs e) [
  | inl p ↦
      let none : length p.0 ≡ 0 = omega (arith, l, ap length p.1, length-append xs p.0) in
      let empty : p.0 ≡ [] = no_length p.0 none in
      ([], sym (append-nil xs) ∙ ap (λ (z : List _). xs ++ z) (sym empty) ∙ sym p.1 ∙ sym (append-nil us), p.2 ∙ ap (λ (z : List _). z ++ vs) empty)
  | inr p ↦ (p.0 ∷ p.1, p.2, sym p.3)
]
  where
    no_length : {Y : Type 0} (zs : List Y) → length zs ≡ 0 → zs ≡ []
    no_length [] f = refl
    no_length (z ∷ zs) f = absurd (omega (arith, f))

pub orders_long : (ss : List Sent) → length (orders_sent ss) ≡ length ss
orders_long [] = refl
orders_long (s ∷ ss) = let e = orders_long ss in omega (arith, e)

pub longer : (xs ys us vs : List Sent) (ms : List Meant) → xs ++ ys ≡ us ++ vs → orders_sent xs ≡ orders_sent us ++ ms → (mid : List Sent) × (xs ≡ us ++ mid) × (mid ++ ys ≡ vs)
longer xs ys us vs ms e took =
    let both = ap (λ (x : List Meant). length x) took in
    shorter xs ys us vs e (omega (arith, orders_long xs, orders_long us, both, length-append (orders_sent us) ms))
