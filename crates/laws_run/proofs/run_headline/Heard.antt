-- A planner goes on as long as the reactor does, or was never begun.
use Rattle.std.proofs.Common.{◌≡◌, ℕ, suc, ◌+◌, ◌<◌, ◌≤◌, ◌⊎◌, Bool, true, false, cond, List, [], ◌∷◌, ◌++◌, map, length, Some, None, refl, ap, sym, ◌∙◌, subst, arith, inl, inr, append_assoc, length-append, rules}
use Rattle.laws_board.proofs.Names.{leb_tells, length-map, Cause, Machine, Note, State, WordMsg, Switch, Known, noted, Reacted, IsOwn, Came, known_by, last_reacted, MotionTurn, ReactorTurn, gather, cons_same}
use Rattle.std.specs.Prelude.{◌-◌, nat_lt}
use Rattle.msg_code.specs.declared.talk.Piece.{Piece}
use Rattle.laws_board.proofs.clocks.Turning.{Goes as GoesOn, goes}
use Rattle.session_work.specs.declared.seat.Seat.{Seat}
use Rattle.motion_stream.specs.Motions.{waits_by}
use Rattle.session_work.specs.Motions.{MotionStep}
use Rattle.session_work.specs.Seats.{PieceStep, WordStep, hungers, is_wanted, needs}
use Rattle.session_work.specs.Turns.{Goes}
use Rattle.session_run.specs.declared.motion.Planning.{Planning}
use Rattle.session_run.specs.Boards.{AreReactorTurns, came_in}
use Rattle.session_run.specs.Machines.{planner}
use Rattle.laws_board.specs.plans.Planned.{AnyEnds, AnyStops, LastHomes, Plans, StopsAt, words_in}

-- in turn k a worker takes words up to k
small : (h q c w : Bool) (k n : ℕ) → cond h false (cond q (nat_lt (n + 63) k) (is_wanted (cond c (cond w (Some k) (cond (nat_lt k 64) None (Some (k - 64)))) (Some k)) n)) ≡ true → n ≤ k
small h q c w k n p6 = search (rules, leb_tells, nat_lt)

needed : (k : ℕ) (x : Seat Planning) → needs planner.wants k x ≡ true → x.heard ≤ k
needed k x e = small x.halted x.quiet x.machine.motion.course.connected (waits_by x.machine.motion.course.current x.machine.motion.course.start k) k x.heard e

words_heard : (k i : ℕ) (ws : List WordMsg) (x a : Seat Planning) → x.heard ≤ k + 1 → Goes (λ _ y w z. (needs planner.wants k y ≡ true) × WordStep planner.hears y w z) i x ws a
    → (a.heard ≤ k + 1) × (a.heard ≡ x.heard + length ws)
words_heard k i [] x a h g = let e = ap (λ (s : Seat Planning). s.heard) g in (omega (arith, h, e), omega (arith, e))
words_heard k i (w ∷ ws) x a h (y, step, more) =
    let few = needed k x step.0 in
    let one : y.heard ≡ x.heard + 1 = step.1.0 in
    let rest = words_heard k (i + 1) ws y a (omega (arith, few, one)) more in
    (rest.0, omega (arith, rest.1, one))

pieces_heard : (k i : ℕ) (ps : List Piece) (x b : Seat Planning) → Goes (λ _ y p z. (hungers planner.hungry k y ≡ true) × PieceStep planner.reads y p z) i x ps b → b.heard ≡ x.heard
pieces_heard k i [] x b g = sym (ap (λ (s : Seat Planning). s.heard) g)
pieces_heard k i (p ∷ ps) x b (y, step, more) = pieces_heard k (i + 1) ps y b more ∙ step.1.0

turn_heard : (n k : ℕ) (x : Seat Planning) (t : MotionTurn) (y : Seat Planning) → x.heard ≤ k → MotionStep planner n k x t y → (y.heard ≤ k + 1) × (y.heard ≡ x.heard + length t.words)
turn_heard n k x t y h s =
    let a = s.0 in
    let words = words_heard k 0 t.words x a (omega (arith, h)) s.2 in
    let same = s.6.0 ∙ pieces_heard k 0 t.pieces a s.1 s.4 in
    (omega (arith, words.0, same), omega (arith, words.1, same))

turns_heard : (n k : ℕ) (made : List MotionTurn) (d : MotionTurn) (rest : List MotionTurn) (x e : Seat Planning) → x.heard ≤ k → Goes (MotionStep planner n) k x (made ++ d ∷ rest) e
    → x.heard + length (gather (λ t. t.words) made ++ d.words) ≤ k + length made + 1
turns_heard n k [] d rest x e h (y, step, more) = let one = turn_heard n k x d y h step in omega (arith, one.0, one.1)
turns_heard n k (t ∷ made) d rest x e h (y, step, more) =
    let one = turn_heard n k x t y h step in
    let later = turns_heard n (k + 1) made d rest y e one.0 more in
    let words = gather (λ (z : MotionTurn). z.words) made in
    let cut = ap length (append_assoc t.words words d.words) ∙ length-append t.words (words ++ d.words) in
    omega (arith, one.1, later, cut)

-- some turns take no more words than they are
pub turns_few : (n k : ℕ) (ts : List MotionTurn) (x e : Seat Planning) → x.heard ≤ k → Goes (MotionStep planner n) k x ts e → x.heard + length (gather (λ t. t.words) ts) ≤ k + length ts
turns_few n k [] x e h g = omega (arith, h)
turns_few n k (t ∷ ts) x e h (y, step, more) =
    let one = turn_heard n k x t y h step in
    let later = turns_few n (k + 1) ts y e one.0 more in
    let cut = length-append t.words (gather (λ (z : MotionTurn). z.words) ts) in
    omega (arith, one.1, later, cut)

-- the words of turns that go on do not end the run
goes_end : (m : Machine) (r : Known) (k : ℕ) (states : List State) (x : Reacted) → GoesOn m r k states x → x.ordered.word.end ≡ false
goes_end m r k states x (inl a) = ap (λ (y : Reacted). y.ordered.word.end) a.is
goes_end m r k states x (inr (inl a)) = ap (λ (y : Reacted). y.ordered.word.end) a.is
goes_end m r k states x (inr (inr a)) = ap (λ (y : Reacted). y.ordered.word.end) a.is

none_ends : (m : Machine) (switches : List Switch) (before : List Came) (rs : List ReactorTurn) → AreReactorTurns m switches before rs → AnyEnds (gather (λ t. t.word ∷ []) rs) → ⊥
none_ends m switches before [] h a = a
none_ends m switches before (t ∷ rs) h (inl e) =
    let r = known_by m switches before in
    let x = last_reacted m switches (came_in t) before in
    let on = goes_end m (noted m t.note r) (length before) t.states x (goes m switches r (length before) t.states t.note h.0.goes_on) in
    let f : true ≡ false = sym e ∙ ap (λ (w : WordMsg). w.end) h.0.word_is ∙ on in cc
none_ends m switches before (t ∷ rs) h (inr a) = none_ends m switches (came_in t ∷ before) rs h.1 a

any_front : (ws rest us last : List WordMsg) → ws ++ rest ≡ us ++ last → length ws ≤ length us → AnyEnds ws → AnyEnds us
any_front [] rest us last e long a = absurd a
any_front (w ∷ ws) rest [] last e long a = absurd (omega (arith, long))
any_front (w ∷ ws) rest (u ∷ us) last e long (inl a) = inl (ap (λ (x : WordMsg). x.end) (sym (cons_same w u (ws ++ rest) (us ++ last) e).0) ∙ a)
any_front (w ∷ ws) rest (u ∷ us) last e long (inr a) = inr (any_front ws rest us last (cons_same w u (ws ++ rest) (us ++ last) e).1 (omega (arith, long)) a)

ends_right : (xs ys : List WordMsg) → AnyEnds ys → AnyEnds (xs ++ ys)
ends_right [] ys a = a
ends_right (x ∷ xs) ys a = inr (ends_right xs ys a)

words_cut : (made : List MotionTurn) (d : MotionTurn) (rest : List MotionTurn) (left : List WordMsg)
    → gather (λ t. t.words) (made ++ d ∷ rest) ++ left ≡ (gather (λ t. t.words) made ++ d.words) ++ (gather (λ t. t.words) rest ++ left)
words_cut [] d rest left = append_assoc d.words (gather (λ (t : MotionTurn). t.words) rest) left
words_cut (t ∷ made) d rest left =
    let words = gather (λ (z : MotionTurn). z.words) in
    append_assoc t.words (words (made ++ d ∷ rest)) left ∙ ap (λ x. t.words ++ x) (words_cut made d rest left)
    ∙ sym (append_assoc t.words (words made ++ d.words) (words rest ++ left)) ∙ ap (λ x. x ++ (words rest ++ left)) (sym (append_assoc t.words (words made) d.words))

pub words_of : (rs : List ReactorTurn) → length (gather (λ t. t.word ∷ []) rs) ≡ length rs
words_of [] = refl
words_of (t ∷ rs) = ap suc (words_of rs)

-- of notes that want no memory none does
abbrev pub NoneOut : List Note → Type 0
NoneOut [] = Unit {0}
NoneOut (n ∷ ns) = (n.out ≡ false) × NoneOut ns

one_in : (xs : List Note) (d : Note) (ys zs left : List Note) → xs ++ d ∷ ys ≡ zs ++ left → length xs < length zs → NoneOut zs → d.out ≡ false
one_in xs d ys [] left e long none = absurd (omega (arith, long))
one_in [] d ys (z ∷ zs) left e long none = ap (λ (n : Note). n.out) (cons_same d z ys (zs ++ left) e).0 ∙ none.0
one_in (x ∷ xs) d ys (z ∷ zs) left e long none = one_in xs d ys zs left (cons_same x z (xs ++ d ∷ ys) (zs ++ left) e).1 (omega (arith, long)) none.1

pub notes_cut : (made : List MotionTurn) (rest : List MotionTurn) → gather (λ t. t.note ∷ []) (made ++ rest) ≡ map (λ t. t.note) made ++ gather (λ t. t.note ∷ []) rest
notes_cut [] rest = refl
notes_cut (t ∷ made) rest = ap (λ x. t.note ∷ x) (notes_cut made rest)

-- a piece that says stop, among the pieces of all turns
stops_right : (h : ℕ) (xs ys : List Piece) → AnyStops h ys → AnyStops h (xs ++ ys)
stops_right h [] ys a = a
stops_right h (x ∷ xs) ys a = inr (stops_right h xs ys a)

pub stops_left : (h : ℕ) (xs ys : List Piece) → AnyStops h xs → AnyStops h (xs ++ ys)
stops_left h [] ys a = absurd a
stops_left h (x ∷ xs) ys (inl a) = inl a
stops_left h (x ∷ xs) ys (inr a) = inr (stops_left h xs ys a)

stops_in : (h : ℕ) (made : List MotionTurn) (d : MotionTurn) (bare : List MotionTurn) → AnyStops h d.pieces → AnyStops h (gather (λ t. t.pieces) (made ++ d ∷ bare))
stops_in h [] d bare a = stops_left h d.pieces (gather (λ (t : MotionTurn). t.pieces) bare) a
stops_in h (t ∷ made) d bare a = stops_right h t.pieces (gather (λ (x : MotionTurn). x.pieces) (made ++ d ∷ bare)) (stops_in h made d bare a)

-- The planner makes a turn for each note that is taken. Or else no more of the text could be read in the turn before the last one of the
-- reactor, before any section was begun, unless the last one homes and has started; then it makes a turn less, in which it hears its words.
pub long_or_none : (m : Machine) (switches : List Switch) (n : ℕ) (ts : List MotionTurn) (p : Plans m n ts) (rs : List ReactorTurn) (c : Cause)
    → ((heard : ℕ) → AnyStops heard (gather (λ t. t.pieces) ts) → (length rs + 1 ≤ heard) ⊎ ((heard ≡ length rs) × (IsOwn c → ⊥)))
    → (x e : Seat Planning) (notes left : List Note) (last words_left : List WordMsg)
    → x.heard ≡ 0 → Goes (MotionStep planner n) 0 x ts e → AreReactorTurns m switches [] rs
    → gather (λ t. t.word ∷ []) rs ++ last ≡ gather (λ t. t.words) ts ++ words_left
    → gather (λ t. t.note ∷ []) ts ≡ notes ++ left → NoneOut notes → length notes ≤ length rs
    → (length notes ≤ length p.made) ⊎ (((p.seen.told ≡ None) ⊎ LastHomes (length p.made) p.seen.begun) × (IsOwn c → ⊥) × (length notes ≤ length (p.made ++ p.last)))
long_or_none m switches n ts p rs c stop_at x e notes left last words_left fresh goes_all turns words_are notes_are none few =
    elim (leb_tells (length notes) (length p.made)) [ inl q ↦ inl q.1 | inr q ↦ inr (short p.bare p.are p.stops q.1) ]
  where
    short : (bare : List MotionTurn) → ts ≡ p.made ++ bare → StopsAt (0 + length p.made) (0 + length (words_in p.made)) p.seen.told p.seen.begun bare p.last → length p.made < length notes
        → ((p.seen.told ≡ None) ⊎ LastHomes (length p.made) p.seen.begun) × (IsOwn c → ⊥) × (length notes ≤ length (p.made ++ p.last))
    short [] are stops less =
        let size = ap length (sym notes_are ∙ ap (gather (λ (t : MotionTurn). t.note ∷ [])) are ∙ notes_cut p.made []) in
        absurd (omega (arith, size, length-append notes left, length-append (map (λ (t : MotionTurn). t.note) p.made) [], length-map p.made (λ (t : MotionTurn). t.note), less))
    short (d ∷ bare) are (inl (inl ends, none_last)) less =
        let Run : List MotionTurn → Type 0 = λ y. Goes (MotionStep planner n) 0 x y e in
        let heard = turns_heard n 0 p.made d bare x e (omega (arith, fresh)) (subst Run are goes_all) in
        let here = gather (λ (t : MotionTurn). t.words) p.made in
        absurd (none_ends m switches [] rs turns
        (any_front (here ++ d.words) (gather (λ (t : MotionTurn). t.words) bare ++ words_left) (gather (λ (t : ReactorTurn). t.word ∷ []) rs) last words_all (omega (arith, heard, words_of rs, less, few)) (ends_right here d.words ends)))
      where
        words_are' : gather (λ (t : MotionTurn). t.words) ts ++ words_left ≡ gather (λ (t : ReactorTurn). t.word ∷ []) rs ++ last
        words_are' = sym words_are

        words_all : (gather (λ (t : MotionTurn). t.words) p.made ++ d.words) ++ (gather (λ (t : MotionTurn). t.words) bare ++ words_left) ≡ gather (λ (t : ReactorTurn). t.word ∷ []) rs ++ last
        words_all = sym (words_cut p.made d bare words_left) ∙ ap (λ y. gather (λ (t : MotionTurn). t.words) y ++ words_left) (sym are) ∙ words_are'
    short (d ∷ bare) are (inl (inr out, none_last)) less =
        let cut = sym (notes_cut p.made (d ∷ bare)) ∙ ap (gather (λ (t : MotionTurn). t.note ∷ [])) (sym are) ∙ notes_are in
        let quiet = one_in (map (λ (t : MotionTurn). t.note) p.made) d.note (gather (λ (t : MotionTurn). t.note ∷ []) bare) notes left cut (omega (arith, length-map p.made (λ (t : MotionTurn). t.note), less)) none in
        absurd (let f : true ≡ false = sym out ∙ quiet in cc)
    short (d ∷ bare) are (inr (u, one)) less =
        let h = 0 + length (words_in p.made) + length d.words in
        let All : List MotionTurn → Type 0 = λ y. AnyStops h (gather (λ (t : MotionTurn). t.pieces) y) in
        let low = u.low in
        let size = length-append p.made p.last in
        let last_is = ap length one in
        elim (stop_at h (subst All (sym are) (stops_in h p.made d bare u.stops))) [
          | inl q ↦ absurd (omega (arith, q, low, less, few))
          | inr q ↦ (
            elim (u.early (omega (arith, q.0, low, less, few))) [ inl none ↦ inl none | inr home ↦ (let same : 0 + length p.made ≡ length p.made = omega arith in let Homes : ℕ → Type 0 = λ i. LastHomes i p.seen.begun in inr (subst Homes same home)) ],
            q.1,
            omega (arith, q.0, low, few, size, last_is),
          )
        ]
