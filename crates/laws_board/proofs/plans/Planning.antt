-- The turns of a planner in a run.
use Rattle.std.proofs.Common.{◌≡◌, ℕ, suc, ◌+◌, ◌^◌, ◌<◌, ◌≤◌, Bool, true, false, ◌⊎◌, List, [], ◌∷◌, ◌++◌, All, length, Option, None, Some, refl, ap, sym, ◌∙◌, subst, arith, inl, inr, append_assoc, append-nil, length-append}
use Rattle.std.specs.Prelude.{◌-◌, ◌&&◌, cond, is_none, nat_lt}
use Rattle.laws_board.proofs.Names.{leb_tells, Machine, Note, NoteNews, WordMsg, Started, Told, clocks_at, MotionTurn}
use Rattle.plan_types.specs.declared.plan.ReadEnd.{ReadEnd}
use Rattle.msg_code.specs.declared.talk.Piece.{Piece}
use Rattle.motion_work.specs.Homes.{no_end}
use Rattle.motion_work.specs.Puts.{Put}
use Rattle.motion_work.specs.declared.told.BoardLine.{BoardLine}
use Rattle.motion_work.specs.Further.{WereHeard, told_on}
use Rattle.motion_work.specs.Told.{heard, lines_in}
use Rattle.motion_stream.specs.declared.course.Course.{Course}
use Rattle.motion_stream.specs.declared.course.Open.{Open}
use Rattle.motion_stream.specs.declared.course.Open.TheVariants as opens
use Rattle.motion_stream.specs.Courses.{IsGoing, KnowsConnecting}
use Rattle.motion_stream.specs.Motions.{AreEarly, IsMore, IsPlannerOf, Planner, TakesText, lines_kept, waits_by, wants, with_word}
use Rattle.motion_stream.specs.Motions as motion
use Rattle.motion_stream.specs.Puts.{ArePutBy}
use Rattle.motion_stream.specs.Seen.{Going, Seen, nothing_seen}
use Rattle.motion_stream.specs.Texts.{ended_after, text_after}
use Rattle.motion_stream.specs.Uptakes.{IsNotLost}
use Rattle.motion_stream.proofs.Laying.{none_put, text_kept, turn_kept, word_put}
use Rattle.session_work.specs.declared.machines.MotionMachine.{Ghosts as Motion}
use Rattle.session_work.specs.declared.seat.Seat.{Seat}
use Rattle.session_work.specs.Motions.{MotionStep, seated}
use Rattle.session_work.specs.Seats.{MakeStep, PieceStep, Told as ToldTo, WordStep, hungers, is_wanted, needs}
use Rattle.session_work.specs.Turns.{Goes}
use Rattle.laws_board.specs.plans.Planned.{AnyEnds, AnyStops, AreBare, AreReadInOrder, BeginInRange, IsBare, IsPlanning, LastHomes, LoseNone, Plans, StopsAt, ReadText, TookInTime, fresh_in, connecting_heard, nothing_read, planning, put_of, puts_of, read_all, read_on, told_behind, words_in}
use Rattle.laws_board.specs.plans.Answers.{TookNoneAhead}
use Rattle.laws_board.proofs.plans.Answering.{HaveHeard, Homing, heard_piece, heard_turn, heard_word, homing_word, none_heard, words_end, words_snoc}
use Rattle.laws_board.proofs.plans.Wholes.{Ran, whole_plans}
use Rattle.plan_types.proofs.Facts.{true_false, some_none}

-- a worker that is asked no more
abbrev Dead : {M : Type 0} → Seat M → Type 0
Dead x = (x.halted ≡ true) ⊎ (x.quiet ≡ true)

-- a worker in turn k whose planner took these words in it, behind these turns, and has seen what tells these that were put, with this text,
-- this told, and these further lines that words told since the turn before
record Live {M : Type 0} (view : M → Planner) (m : Machine) (k : ℕ) (done : List MotionTurn) (words : List WordMsg) (puts : List Put) (text : ReadText) (told : Option Told) (fresh : List BoardLine) (x : Seat M) : Type 0 where
  halted : x.halted ≡ false
  quiet : x.quiet ≡ false
  seen : Seen
  machine_is : (view x.machine).machine ≡ m
  is : IsPlannerOf (view x.machine) seen
  put : ArePutBy m seen puts
  answers : HaveHeard k done words seen.begun seen.going
  text_is : seen.text ≡ text.bytes
  ended_is : seen.ended ≡ text.ended
  told_is : seen.told ≡ told
  fresh_are : seen.fresh ≡ fresh

-- what is dead stays so
told_dead : {M : Type 0} (g : Motion M) (x y : Seat M) (w : WordMsg) → x.quiet ≡ true → ToldTo g.hears x w y → y.quiet ≡ true
told_dead g x y w e (inl q) = let (_, same) = q in let (_, quiet, _) = same in quiet ∙ e
told_dead g x y w e (inr (inl q)) = absurd (true_false (sym e ∙ q.0))
told_dead g x y w e (inr (inr q)) = absurd (true_false (sym e ∙ q.0))

word_dead : {M : Type 0} (g : Motion M) (x y : Seat M) (w : WordMsg) → Dead x → WordStep g.hears x w y → Dead y
word_dead g x y w d (_, inl s) = inl s.1
word_dead g x y w (inl e) (_, inr s) = inl (s.1 ∙ e)
word_dead g x y w (inr e) (_, inr s) = let (_, _, told) = s in inr (told_dead g x y w e told)

words_dead : {M : Type 0} (g : Motion M) (k i : ℕ) (ws : List WordMsg) (x a : Seat M) → Dead x → Goes (λ _ y w z. (needs g.wants k y ≡ true) × WordStep g.hears y w z) i x ws a → Dead a
words_dead g k i [] x a d h = subst Dead h d
words_dead g k i (w ∷ ws) x a d (y, step, more) = let (_, is) = step in words_dead g k (i + 1) ws y a (word_dead g x y w d is) more

not_hungry : (a b c : Bool) → (a ≡ true) ⊎ (b ≡ true) → cond a false (cond b false c) ≡ true → ⊥
not_hungry true b c d e = true_false (sym e)
not_hungry false true c d e = true_false (sym e)
not_hungry false false c (inl d) e = true_false (sym d)
not_hungry false false c (inr d) e = true_false (sym d)

pieces_dead : {M : Type 0} (g : Motion M) (k i : ℕ) (ps : List Piece) (x b : Seat M) → Dead x → Goes (λ _ y p z. (hungers g.hungry k y ≡ true) × PieceStep g.reads y p z) i x ps b → Dead b
pieces_dead g k i [] x b d h = subst Dead h d
pieces_dead g k i (p ∷ ps) x b d (y, step, more) = let (hungry, _) = step in absurd (not_hungry x.halted x.quiet (g.hungry x.machine k) d hungry)

-- where memory was wanted, that is told from then on
told_out : {M : Type 0} (g : Motion M) (x y : Seat M) (w : WordMsg) → x.out ≡ true → ToldTo g.hears x w y → y.out ≡ true
told_out g x y w e (inl q) = let (_, same) = q in let (_, _, out) = same in out ∙ e
told_out g x y w e (inr (inl q)) = q.2 ∙ e
told_out g x y w e (inr (inr q)) = q.2

words_out : {M : Type 0} (g : Motion M) (k i : ℕ) (ws : List WordMsg) (x a : Seat M) → x.out ≡ true → Goes (λ _ y w z. (needs g.wants k y ≡ true) × WordStep g.hears y w z) i x ws a → a.out ≡ true
words_out g k i [] x a e h = ap (λ (s : Seat _). s.out) (sym h) ∙ e
words_out g k i (w ∷ ws) x a e (y, (_, (_, inl s)), more) = words_out g k (i + 1) ws y a (let (_, _, same) = s in let (_, _, out) = same in out ∙ e) more
words_out g k i (w ∷ ws) x a e (y, (_, (_, inr s)), more) = words_out g k (i + 1) ws y a (let (_, _, to) = s in told_out g x y w e to) more

pieces_out : {M : Type 0} (g : Motion M) (k i : ℕ) (ps : List Piece) (x b : Seat M) → x.out ≡ true → Goes (λ _ y p z. (hungers g.hungry k y ≡ true) × PieceStep g.reads y p z) i x ps b → b.out ≡ true
pieces_out g k i [] x b e h = ap (λ (s : Seat _). s.out) (sym h) ∙ e
pieces_out g k i (p ∷ ps) x b e (y, (_, (_, _, inl s)), more) = pieces_out g k (i + 1) ps y b (s.4 ∙ e) more
pieces_out g k i (p ∷ ps) x b e (y, (_, (_, _, inr (inl s))), more) = pieces_out g k (i + 1) ps y b (s.2 ∙ e) more
pieces_out g k i (p ∷ ps) x b e (y, (_, (_, _, inr (inr s))), more) = pieces_out g k (i + 1) ps y b s.2 more

note_out : {M : Type 0} (g : Motion M) (n k : ℕ) (b y : Seat M) (t : MotionTurn) → Dead b → b.out ≡ true → MakeStep n g.turns k b t.batches t.note y → t.note.out ≡ true
note_out g n k b y t d e (_, halted, _, inl s) = elim d [ inl h ↦ absurd (true_false (sym h ∙ s.0)) | inr h ↦ absurd (true_false (sym h ∙ s.1)) ]
note_out g n k b y t d e (_, halted, _, inr s) =
    let (batches, note, how) = s in
    ap (λ (o : Note). o.out) note ∙ elim how [
      | inl q ↦ let (_, same) = q in let (_, _, out) = same in out ∙ e
      | inr q ↦ let (_, wants) = q in wants.2
    ]

-- a live worker hears a word
record Told_on {M : Type 0} (view : M → Planner) (m : Machine) (k : ℕ) (done : List MotionTurn) (words : List WordMsg) (puts : List Put) (text : ReadText) (told : Option Told) (fresh : List BoardLine) (from : Seen) (y : Seat M) : Type 0 where
  live : Live view m k done words puts text told fresh y
  homing : Homing k from.begun from.going → Homing k live.seen.begun live.seen.going

word_heard : {M : Type 0} (g : Motion M) (view : M → Planner) (m : Machine) (k : ℕ) (done : List MotionTurn) (us : List WordMsg) (puts : List Put) (text : ReadText) (told : Option Told) (fresh : List BoardLine) (x y : Seat M) (w : WordMsg) → IsPlanning g view → length puts ≡ k
    → (l : Live view m k done us puts text told fresh x) → WordStep g.hears x w y → Told_on view m k done (us ++ w ∷ []) puts text (heard m k w told) (fresh ++ lines_kept (heard m k w told) (lines_in w.news)) l.seen y ⊎ (Dead y × ((w.end ≡ true) ⊎ (y.out ≡ true)))
word_heard g view m k done us puts text told fresh x y w is long l (_, inl s) = inr (inl s.1, inl s.0)
word_heard g view m k done us puts text told fresh x y w is long l (_, inr s) =
    let (_, halted, to) = s in
    elim to [
      | inl q ↦ absurd (true_false (sym q.0 ∙ l.quiet))
      | inr q ↦ elim q [
        | inl r ↦
            let (_, quiet, _, hears) = r in
            let did = is.hears x.machine y.machine w hears in
            let OfPut : Machine → Type 0 = λ n. ArePutBy n l.seen puts in
            let after = word_put (view x.machine) (view y.machine) l.seen puts w l.is (subst OfPut (sym l.machine_is) l.put) did in
            let next : l.seen.next ≡ k = sym l.put.count ∙ long in
            let same : (view y.machine).machine ≡ m = did.0 ∙ l.machine_is in
            let Then : Machine → Type 0 = λ n. ArePutBy n (with_word (view x.machine).machine l.seen w) puts in
            let small : k ≤ no_end = (let low = l.is.small in let at = l.is.next in omega (arith, low, at, next)) in
            let known : heard (view x.machine).machine l.seen.next w l.seen.told ≡ heard m k w told = ap (λ n. heard n l.seen.next w l.seen.told) l.machine_is ∙ ap (λ n. heard m n w l.seen.told) next ∙ ap (heard m k w) l.told_is in
            inl (record {
              live = record {
                halted = halted ∙ l.halted;
                quiet = quiet;
                seen = with_word (view x.machine).machine l.seen w;
                machine_is = same;
                is = after.0;
                put = subst Then same after.1;
                answers = heard_word (view x.machine).machine l.seen k done us w next small l.answers;
                text_is = l.text_is;
                ended_is = l.ended_is;
                told_is = known;
                fresh_are = ap (λ o. l.seen.fresh ++ lines_kept o (lines_in w.news)) known ∙ ap (λ ls. ls ++ lines_kept (heard m k w told) (lines_in w.news)) l.fresh_are;
              };
              homing = homing_word (view x.machine).machine l.seen k w;
            })
        | inr r ↦ inr (inr r.1, inr r.2)
      ]
    ]

-- The word that a worker takes before turn k has at most that number; and where it has, nothing is known of connecting, or a section
-- that has started waits for its answer.
by_word : (h q c w : Bool) (k n : ℕ) → cond h false (cond q (nat_lt (n + 63) k) (is_wanted (cond c (cond w (Some k) (cond (nat_lt k 64) None (Some (k - 64)))) (Some k)) n)) ≡ true → q ≡ false
    → (n ≤ k) × (n ≡ k → (c ≡ false) ⊎ (w ≡ true))
by_word true q c w k n e f = absurd (true_false (sym e))
by_word false true c w k n e f = absurd (true_false f)
by_word false false false w k n e f = elim (leb_tells (suc n) (k + 1)) [ inl p ↦ (omega (arith, p.1), λ z. inl refl) | inr p ↦ absurd (true_false (sym e ∙ p.0)) ]
by_word false false true true k n e f = elim (leb_tells (suc n) (k + 1)) [ inl p ↦ (omega (arith, p.1), λ z. inr refl) | inr p ↦ absurd (true_false (sym e ∙ p.0)) ]
by_word false false true false k n e f = elim (leb_tells (suc k) 64) [
  | inl p ↦ let At : Bool → Type 0 = λ b. is_wanted (cond b None (Some (k - 64))) n ≡ true in absurd (true_false (sym (subst At p.0 e)))
  | inr p ↦
      let At : Bool → Type 0 = λ b. is_wanted (cond b None (Some (k - 64))) n ≡ true in
      let late = p.1 in
      elim (leb_tells (suc n) (k - 64 + 1)) [ inl q ↦ (omega (arith, q.1, late), λ z. absurd (omega (arith, z, q.1, late))) | inr q ↦ absurd (true_false (sym (subst At p.0 e) ∙ q.0)) ]
]

untold : (m : Machine) (c : Course) (o : Option Told) (begun : List Started) (going : Option Going) → KnowsConnecting m c o begun going → c.connected ≡ false → o ≡ None
untold m c None begun going h e = refl
untold m c (Some t) begun going h e = absurd (true_false (sym h.connected ∙ e))

waiting : (m : Machine) (o : Open) (c : Course) (told : Option Told) (begun : List Started) (going : Option Going) (k : ℕ) → IsGoing m o c told begun going → waits_by o c.start k ≡ true → Homing k begun going
waiting m (opens.Goes s true) c told begun going k h e =
    let start = h.start_is in
    elim (leb_tells c.start k) [ inl p ↦ (let late = p.1 in subst (Homing k begun) (sym h.is) (sym h.homes_is, omega (arith, start, late))) | inr p ↦ absurd (true_false (sym e ∙ p.0)) ]
waiting m x c told begun going k h e = absurd (true_false (sym e))

wanted : {M : Type 0} (g : Motion M) (view : M → Planner) (m : Machine) (k : ℕ) (done : List MotionTurn) (words : List WordMsg) (puts : List Put) (text : ReadText) (told : Option Told) (fresh : List BoardLine) (x : Seat M) → IsPlanning g view → (l : Live view m k done words puts text told fresh x)
    → needs g.wants k x ≡ true → (x.heard ≤ k) × (x.heard ≡ k → (told ≡ None) ⊎ Homing k l.seen.begun l.seen.going)
wanted g view m k done words puts text told fresh x is l e =
    let p = view x.machine in
    let Wants : Option ℕ → Type 0 = λ o. cond x.halted false (cond x.quiet (nat_lt (x.heard + 63) k) (is_wanted o x.heard)) ≡ true in
    let h = by_word x.halted x.quiet p.course.connected (waits_by p.course.current p.course.start k) k x.heard (subst Wants (is.wants x.machine k) e) l.quiet in (
      h.0,
      λ z. elim (h.1 z) [
        | inl c ↦ inl (sym l.told_is ∙ untold p.machine p.course l.seen.told l.seen.begun l.seen.going l.is.told c)
        | inr w ↦ inr (waiting p.machine p.course.current p.course l.seen.told l.seen.begun l.seen.going k l.is.going w)
      ],
    )

heard_none : (m : Machine) (k : ℕ) (w : WordMsg) (o : Option Told) → heard m k w o ≡ None → o ≡ None
heard_none m k w None e = refl
heard_none m k w (Some t) e = e

-- a live worker hears words
record Spoken {M : Type 0} (view : M → Planner) (m : Machine) (k : ℕ) (done : List MotionTurn) (words : List WordMsg) (puts : List Put) (text : ReadText) (told after : Option Told) (fresh : List BoardLine) (from : Seen) (first : ℕ) (a : Seat M) : Type 0 where
  live : Live view m k done words puts text after fresh a
  low : a.heard ≤ k + 1
  early : first ≤ k → a.heard ≡ k + 1 → (told ≡ None) ⊎ Homing k live.seen.begun live.seen.going
  homing : Homing k from.begun from.going → Homing k live.seen.begun live.seen.going

words_heard : {M : Type 0} (g : Motion M) (view : M → Planner) (m : Machine) (k i : ℕ) (done : List MotionTurn) (us : List WordMsg) (puts : List Put) (text : ReadText) (told : Option Told) (fresh : List BoardLine) (ws : List WordMsg) (x a : Seat M) → IsPlanning g view → length puts ≡ k
    → x.heard ≤ k + 1 → (l : Live view m k done us puts text told fresh x) → Goes (λ _ y w z. (needs g.wants k y ≡ true) × WordStep g.hears y w z) i x ws a
    → Spoken view m k done (us ++ ws) puts text told (connecting_heard m k ws told) (fresh ++ fresh_in m k ws told) l.seen x.heard a ⊎ (Dead a × (AnyEnds ws ⊎ (a.out ≡ true)))
words_heard g view m k i done us puts text told fresh [] x a is long few l h =
    let Of : List WordMsg → Type 0 = λ z. Spoken view m k done z puts text told told (fresh ++ []) l.seen x.heard a in
    let Fresh : List BoardLine → Type 0 = λ ls. Spoken view m k done us puts text told told ls l.seen x.heard a in
    let here : Spoken view m k done us puts text told told fresh l.seen x.heard x = record { live = l; low = few; early = λ low late. absurd (omega (arith, low, late)); homing = λ home. home } in
    inl (subst Of (sym (append-nil us)) (subst Fresh (sym (append-nil fresh)) (subst (Spoken view m k done us puts text told told fresh l.seen x.heard) h here)))
words_heard g view m k i done us puts text told fresh (w ∷ ws) x a is long few l (y, step, more) =
    let (needed, took) = step in
    let want = wanted g view m k done us puts text told fresh x is l needed in
    let one = took.0 in
    let here = want.0 in
    let next = heard m k w told in
    let own = lines_kept next (lines_in w.news) in
    let both : (fresh ++ own) ++ fresh_in m k ws next ≡ fresh ++ (own ++ fresh_in m k ws next) = append_assoc fresh own (fresh_in m k ws next) in
    let Spoken_by : List WordMsg → List BoardLine → Type 0 = λ z ls. Spoken view m k done z puts text told (connecting_heard m k ws next) ls l.seen x.heard a in
    elim (word_heard g view m k done us puts text told fresh x y w is long l took) [
      | inl on ↦ elim (words_heard g view m k (i + 1) done (us ++ w ∷ []) puts text next (fresh ++ own) ws y a is long (omega (arith, one, here)) on.live more) [
        | inl z ↦
            let all : Spoken_by ((us ++ w ∷ []) ++ ws) ((fresh ++ own) ++ fresh_in m k ws next) = record {
              live = z.live;
              low = z.low;
              early = λ low late. elim (leb_tells k x.heard) [
                | inl q ↦ elim (want.1 (omega (arith, q.1, here))) [ inl e ↦ inl e | inr home ↦ inr (z.homing (on.homing home)) ]
                | inr q ↦ elim (z.early (omega (arith, q.1, one)) late) [ inl e ↦ inl (heard_none m k w told e) | inr home ↦ inr home ]
              ];
              homing = λ home. z.homing (on.homing home);
            } in
            inl (subst (λ zs. Spoken_by zs (fresh ++ (own ++ fresh_in m k ws next))) (append_assoc us (w ∷ []) ws) (subst (Spoken_by ((us ++ w ∷ []) ++ ws)) both all))
        | inr d ↦ inr (d.0, elim d.1 [ inl z ↦ inl (inr z) | inr z ↦ inr z ])
      ]
      | inr d ↦ inr (words_dead g k (i + 1) ws y a d.0 more, elim d.1 [ inl z ↦ inl (inl z) | inr z ↦ inr (words_out g k (i + 1) ws y a z more) ])
    ]

-- and reads pieces
live_hunger : (a q h : Bool) → a ≡ false → q ≡ false → cond a false (cond q false h) ≡ h
live_hunger a q h e f = rw (e, f) refl

hunger_is : {M : Type 0} (g : Motion M) (view : M → Planner) (k : ℕ) (x : Seat M) → IsPlanning g view → x.halted ≡ false → x.quiet ≡ false → hungers g.hungry k x ≡ motion.hungry (view x.machine) k
hunger_is g view k x is halted quiet = live_hunger x.halted x.quiet (g.hungry x.machine k) halted quiet ∙ is.hungry x.machine k

-- it reads only as long as it is not known how the text is read
still_read : (o : Option ReadEnd) (b : Bool) → is_none o && b ≡ true → o ≡ None
still_read None b e = refl
still_read (Some r) b e = absurd (true_false (sym e))

text_more : (ended : Bool) (text bytes : List ℕ) → ended ≡ false → text_after text ended bytes ≡ text ++ bytes
text_more false text bytes e = refl
text_more true text bytes e = absurd (true_false e)

ended_then : (ended end : Bool) → ended ≡ false → ended_after ended end ≡ end
ended_then false end e = refl
ended_then true end e = absurd (true_false e)

-- a piece says that no more can be read, behind so many words
abbrev Stops : ℕ → Piece → Type 0
Stops heard p = (p.stop ≡ true) × (p.turn + 1 ≡ heard)

reads_put : (p q : Planner) (seen : Seen) (ps : List Put) (bytes : List ℕ) (end : Bool) → IsPlannerOf p seen → ArePutBy p.machine seen ps → TakesText p bytes end q
    → (going : Option Going) × IsMore seen.going going × IsPlannerOf q (motion.read_on seen bytes end going) × ArePutBy q.machine (motion.read_on seen bytes end going) ps
reads_put p q seen ps bytes end of put reads =
    let r = reads.1 seen of in
    let Of : Machine → Type 0 = λ n. ArePutBy n (motion.read_on seen bytes end r.0) ps in
    (r.0, r.1, r.2, subst Of (sym reads.0) (text_kept p.machine seen ps bytes end r.0 r.1 put))

piece_read : {M : Type 0} (g : Motion M) (view : M → Planner) (m : Machine) (k now : ℕ) (done : List MotionTurn) (words : List WordMsg) (puts : List Put) (text : ReadText) (told : Option Told) (fresh : List BoardLine) (x y : Seat M) (p : Piece) → IsPlanning g view
    → Live view m now done words puts text told fresh x → hungers g.hungry k x ≡ true → PieceStep g.reads x p y → Live view m now done words puts (read_on text p) told fresh y ⊎ (Dead y × (Stops x.heard p ⊎ (y.out ≡ true)))
piece_read g view m k now done words puts text told fresh x y p is l hungry (_, halted, inl s) = let (stop, turn, _, quiet, _) = s in inr (inr quiet, inl (stop, turn))
piece_read g view m k now done words puts text told fresh x y p is l hungry (_, halted, inr (inr s)) = inr (inr s.1, inr s.2)
piece_read g view m k now done words puts text told fresh x y p is l hungry (_, halted, inr (inl s)) =
    let (_, quiet, _, reads) = s in
    let did = is.reads x.machine y.machine p reads in
    let OfPut : Machine → Type 0 = λ n. ArePutBy n l.seen puts in
    let after = reads_put (view x.machine) (view y.machine) l.seen puts p.bytes p.end l.is (subst OfPut (sym l.machine_is) l.put) did in
    let course = (view x.machine).course in
    let unread : course.source.end ≡ None = still_read course.source.end _ (sym (hunger_is g view k x is l.halted l.quiet) ∙ hungry) in
    let seen_open : l.seen.ended ≡ false = (l.is.source.goes unread).0 in
    let same : (view y.machine).machine ≡ m = did.0 ∙ l.machine_is in
    let next = motion.read_on l.seen p.bytes p.end after.0 in
    let Then : Machine → Type 0 = λ n. ArePutBy n next puts in
    inl (record {
      halted = halted ∙ l.halted;
      quiet = quiet;
      seen = next;
      machine_is = same;
      is = after.2;
      put = subst Then same after.3;
      answers = heard_piece now done words l.seen.begun l.seen.going after.0 after.1 l.answers;
      text_is = text_more l.seen.ended l.seen.text p.bytes seen_open ∙ ap (λ b. b ++ p.bytes) l.text_is;
      ended_is = ended_then l.seen.ended p.end seen_open;
      told_is = l.told_is;
      fresh_are = l.fresh_are;
    })

pieces_read : {M : Type 0} (g : Motion M) (view : M → Planner) (m : Machine) (k now i : ℕ) (done : List MotionTurn) (words : List WordMsg) (puts : List Put) (text : ReadText) (told : Option Told) (fresh : List BoardLine) (ps : List Piece) (x b : Seat M) → IsPlanning g view
    → Live view m now done words puts text told fresh x → Goes (λ _ y p z. (hungers g.hungry k y ≡ true) × PieceStep g.reads y p z) i x ps b → Live view m now done words puts (read_all text ps) told fresh b ⊎ (Dead b × (AnyStops x.heard ps ⊎ (b.out ≡ true)))
pieces_read g view m k now i done words puts text told fresh [] x b is l h = inl (subst (Live view m now done words puts text told fresh) h l)
pieces_read g view m k now i done words puts text told fresh (p ∷ ps) x b is l (y, step, more) =
    let (hungry, read) = step in
    elim (piece_read g view m k now done words puts text told fresh x y p is l hungry read) [
      | inl on ↦ elim (pieces_read g view m k now (i + 1) done words puts (read_on text p) told fresh ps y b is on more) [
        | inl z ↦ inl z
        | inr z ↦ inr (z.0, elim z.1 [ inl stops ↦ inl (inr (subst (λ n. AnyStops n ps) read.0 stops)) | inr out ↦ inr out ])
      ]
      | inr d ↦ inr (pieces_dead g k (i + 1) ps y b d.0 more, elim d.1 [ inl stops ↦ inl (inl stops) | inr out ↦ inr (pieces_out g k (i + 1) ps y b out more) ])
    ]

-- what a dead worker puts is bare
dead_makes : {M : Type 0} (g : Motion M) (n k : ℕ) (b y : Seat M) (t : MotionTurn) → Dead b → MakeStep n g.turns k b t.batches t.note y → IsBare n k t × Dead y
dead_makes g n k b y t d (_, halted, _, inl s) =
    elim d [ inl e ↦ absurd (true_false (sym e ∙ s.0)) | inr e ↦ absurd (true_false (sym e ∙ s.1)) ]
dead_makes g n k b y t d (_, halted, _, inr s) =
    let (batches, note, how) = s in (
      (b.halted, y.out, batches, note),
      elim d [
        | inl e ↦ inl (halted ∙ e)
        | inr e ↦ elim how [
          | inl q ↦ let (_, same) = q in let (_, quiet, _) = same in inr (quiet ∙ e)
          | inr q ↦ let (_, wants) = q in inr wants.1
        ]
      ],
    )

dead_goes : {M : Type 0} (g : Motion M) (n k : ℕ) (ts : List MotionTurn) (x e : Seat M) → Dead x → Goes (MotionStep g n) k x ts e → AreBare n k ts
dead_goes g n k [] x e d h = tt
dead_goes g n k (t ∷ ts) x e d (y, step, more) =
    let (a, b, heard, _, fed, _, make) = step in
    let da = words_dead g k 0 t.words x a d heard in
    let db = pieces_dead g k 0 t.pieces a b da fed in
    let made = dead_makes g n k b y t db make in
    (made.0, dead_goes g n (k + 1) ts y e made.1 more)

-- a planner that makes a turn has lines whose ticks begin in range
early_in : (m : Machine) (c : Course) (o : Option Told) (begun : List Started) (going : Option Going) → KnowsConnecting m c o begun going → AreEarly m c → BeginInRange m o
early_in m c None begun going told early = tt
early_in m c (Some t) begun going told early = λ b inside. subst (λ cs. (clocks_at cs b).first.clock < 2 ^ 62) told.lines (early told.connected b inside)

-- of each board of which a line was told that it may have, one is taken up
lose_none : (m : Machine) (k : ℕ) (news : List NoteNews) (fresh : List BoardLine) (told : Option Told) → ((t : Told) → told ≡ Some t → All (IsNotLost m t.clocks k news) fresh) → LoseNone m k news fresh told
lose_none m k news fresh None taken = tt
lose_none m k news fresh (Some t) taken = taken t refl

-- what a live one puts is its planner's, or it is the last
live_makes : {M : Type 0} (g : Motion M) (view : M → Planner) (m : Machine) (n k : ℕ) (all : List MotionTurn) (puts : List Put) (text : ReadText) (told : Option Told) (fresh : List BoardLine) (b y : Seat M) (t : MotionTurn) → IsPlanning g view → length all ≤ k + 1
    → Live view m (k + 1) all [] puts text told fresh b → MakeStep n g.turns k b t.batches t.note y
    → (Live view m (k + 1) all [] (puts ++ put_of t ∷ []) text (told_on t.note.news told) [] y × BeginInRange m told × WereHeard fresh t.note.news × LoseNone m k t.note.news fresh told) ⊎ (IsBare n k t × Dead y × (t.note.out ≡ true))
live_makes g view m n k all puts text told fresh b y t is size l (_, halted, _, inl s) =
    let (_, _, quiet, _, _, turns) = s in
    let did = is.turns b.machine y.machine k t.batches t.note turns in
    let OfPut : Machine → Type 0 = λ x. ArePutBy x l.seen puts in
    let made = did.1.1 l.seen l.is in
    let behind = made.1 in
    let at : k ≡ l.seen.next = sym did.0.next ∙ l.is.next in
    let own = (view b.machine).machine in
    let put = turn_kept own l.seen made.0 puts k t.batches t.note at behind made.2 (subst OfPut (sym l.machine_is) l.put) in
    let same : (view y.machine).machine ≡ m = did.1.0 ∙ l.machine_is in
    let Of : Machine → Type 0 = λ x. IsPlannerOf (record { machine = x; course = (view y.machine).course }) made.0 in
    let Then : Machine → Type 0 = λ x. ArePutBy x made.0 (puts ++ put_of t ∷ []) in
    let heard = subst (λ (ls : List BoardLine). WereHeard ls t.note.news) l.fresh_are behind.heard in
    inl (
      record {
        halted = halted ∙ l.halted;
        quiet = quiet;
        seen = made.0;
        machine_is = same;
        is = subst Of (sym did.1.0) made.3;
        put = subst Then l.machine_is put;
        answers = heard_turn own l.seen made.0 k t.note.news all size behind l.answers;
        text_is = behind.text ∙ l.text_is;
        ended_is = behind.ended ∙ l.ended_is;
        told_is = behind.told ∙ ap (told_on t.note.news) l.told_is;
        fresh_are = behind.fresh;
      },
      subst (BeginInRange m) l.told_is (subst (λ (n : Machine). BeginInRange n l.seen.told) l.machine_is (early_in own (view b.machine).course l.seen.told l.seen.begun l.seen.going l.is.told did.0.early)),
      heard,
      (let By_fresh : List BoardLine → Type 0 = λ ls. LoseNone m k t.note.news ls told in
          let By_told : Option Told → Type 0 = λ o. LoseNone m k t.note.news l.seen.fresh o in
          let By_machine : Machine → Type 0 = λ x. LoseNone x k t.note.news l.seen.fresh l.seen.told in
          subst By_fresh l.fresh_are (subst By_told l.told_is (subst By_machine l.machine_is (lose_none own k t.note.news l.seen.fresh l.seen.told behind.taken)))),
    )
live_makes g view m n k all puts text told fresh b y t is size l (_, halted, _, inr s) =
    let (batches, note, how) = s in
    elim how [
      | inl q ↦ let (d, _) = q in elim d [ inl e ↦ absurd (true_false (sym e ∙ l.halted)) | inr e ↦ absurd (true_false (sym e ∙ l.quiet)) ]
      | inr q ↦ let (_, wants) = q in inr ((b.halted, y.out, batches, note), inr wants.1, ap (λ (o : Note). o.out) note ∙ wants.2)
    ]

-- the words that are taken
words_taken : {M : Type 0} (g : Motion M) (k i : ℕ) (ws : List WordMsg) (x a : Seat M) → Goes (λ _ y w z. (needs g.wants k y ≡ true) × WordStep g.hears y w z) i x ws a → a.heard ≡ x.heard + length ws
words_taken g k i [] x a h = let e = ap (λ (s : Seat _). s.heard) h in omega (arith, e)
words_taken g k i (w ∷ ws) x a (y, step, more) = let (_, is) = step in let one = is.0 in let rest = words_taken g k (i + 1) ws y a more in omega (arith, one, rest)

pieces_taken : {M : Type 0} (g : Motion M) (k i : ℕ) (ps : List Piece) (x b : Seat M) → Goes (λ _ y p z. (hungers g.hungry k y ≡ true) × PieceStep g.reads y p z) i x ps b → b.heard ≡ x.heard
pieces_taken g k i [] x b h = sym (ap (λ (s : Seat _). s.heard) h)
pieces_taken g k i (p ∷ ps) x b (y, step, more) = let (_, is) = step in pieces_taken g k (i + 1) ps y b more ∙ is.0

-- a live worker that knows of no lines takes the word of the same turn
live_wants : (h q c w : Bool) (k n : ℕ) → h ≡ false → q ≡ false → c ≡ false → cond h false (cond q (nat_lt (n + 63) k) (is_wanted (cond c (cond w (Some k) (cond (nat_lt k 64) None (Some (k - 64)))) (Some k)) n)) ≡ false → k < n
live_wants true q c w k n a b d e = absurd (true_false a)
live_wants false true c w k n a b d e = absurd (true_false b)
live_wants false false true w k n a b d e = absurd (true_false d)
live_wants false false false w k n a b d e = elim (leb_tells (suc n) (k + 1)) [ inl p ↦ absurd (true_false (sym p.0 ∙ e)) | inr p ↦ omega (arith, p.1) ]

-- any live worker takes the word of 64 turns before, or a later one
soon_wants : (h q c w : Bool) (k n : ℕ) → h ≡ false → q ≡ false → cond h false (cond q (nat_lt (n + 63) k) (is_wanted (cond c (cond w (Some k) (cond (nat_lt k 64) None (Some (k - 64)))) (Some k)) n)) ≡ false → k < n + 64
soon_wants true q c w k n a b e = absurd (true_false a)
soon_wants false true c w k n a b e = absurd (true_false b)
soon_wants false false false w k n a b e = elim (leb_tells (suc n) (k + 1)) [ inl p ↦ absurd (true_false (sym p.0 ∙ e)) | inr p ↦ omega (arith, p.1) ]
soon_wants false false true true k n a b e = elim (leb_tells (suc n) (k + 1)) [ inl p ↦ absurd (true_false (sym p.0 ∙ e)) | inr p ↦ omega (arith, p.1) ]
soon_wants false false true false k n a b e = elim (leb_tells (suc k) 64) [
  | inl p ↦ omega (arith, p.1)
  | inr p ↦
      let At : Bool → Type 0 = λ b. is_wanted (cond b None (Some (k - 64))) n ≡ false in
      let late = p.1 in
      elim (leb_tells (suc n) (k - 64 + 1)) [ inl q ↦ absurd (true_false (sym q.0 ∙ subst At p.0 e)) | inr q ↦ omega (arith, q.1, late) ]
]

wants_more : {M : Type 0} (g : Motion M) (view : M → Planner) (m : Machine) (k : ℕ) (done : List MotionTurn) (words : List WordMsg) (puts : List Put) (text : ReadText) (told : Option Told) (fresh : List BoardLine) (a : Seat M) → IsPlanning g view → Live view m k done words puts text told fresh a
    → needs g.wants k a ≡ false → (told ≡ None → k < a.heard) × (k < a.heard + 64)
wants_more g view m k done words puts text told fresh a is l enough =
    let p = view a.machine in
    let Of : Option Told → Type 0 = λ o. KnowsConnecting p.machine p.course o l.seen.begun l.seen.going in
    let Enough : Option ℕ → Type 0 = λ o. cond a.halted false (cond a.quiet (nat_lt (a.heard + 63) k) (is_wanted o a.heard)) ≡ false in
    let needed = subst Enough (is.wants a.machine k) enough in
    let waits = waits_by p.course.current p.course.start k in (
      λ none. live_wants a.halted a.quiet p.course.connected waits k a.heard l.halted l.quiet (subst Of (l.told_is ∙ none) l.is.told).0 needed,
      soon_wants a.halted a.quiet p.course.connected waits k a.heard l.halted l.quiet needed,
    )

-- a live worker whose section waits for its answer takes the word of the same turn
waits_now : (h q c w : Bool) (k n : ℕ) → h ≡ false → q ≡ false → w ≡ true → cond h false (cond q (nat_lt (n + 63) k) (is_wanted (cond c (cond w (Some k) (cond (nat_lt k 64) None (Some (k - 64)))) (Some k)) n)) ≡ false → k < n
waits_now true q c w k n a b d e = absurd (true_false a)
waits_now false true c w k n a b d e = absurd (true_false b)
waits_now false false c false k n a b d e = absurd (true_false (sym d))
waits_now false false true true k n a b d e = elim (leb_tells (suc n) (k + 1)) [ inl p ↦ absurd (true_false (sym p.0 ∙ e)) | inr p ↦ omega (arith, p.1) ]
waits_now false false false true k n a b d e = elim (leb_tells (suc n) (k + 1)) [ inl p ↦ absurd (true_false (sym p.0 ∙ e)) | inr p ↦ omega (arith, p.1) ]

answers_over : {M : Type 0} (g : Motion M) (view : M → Planner) (m : Machine) (k : ℕ) (done : List MotionTurn) (puts : List Put) (text : ReadText) (told : Option Told) (fresh : List BoardLine) (t : MotionTurn) (a : Seat M) → IsPlanning g view → length done ≡ k
    → a.heard ≡ length (words_in (done ++ t ∷ [])) → (l : Live view m k done t.words puts text told fresh a) → needs g.wants k a ≡ false → HaveHeard (k + 1) (done ++ t ∷ []) [] l.seen.begun l.seen.going
answers_over g view m k done puts text told fresh t a is size many l enough =
    let p = view a.machine in
    let Enough : Option ℕ → Type 0 = λ o. cond a.halted false (cond a.quiet (nat_lt (a.heard + 63) k) (is_wanted o a.heard)) ≡ false in
    let needed = subst Enough (is.wants a.machine k) enough in
    let wait = λ (w : waits_by p.course.current p.course.start k ≡ true). waits_now a.halted a.quiet p.course.connected (waits_by p.course.current p.course.start k) k a.heard l.halted l.quiet w needed in
    words_end p.machine p.course l.seen k a.heard done t l.is.going size many wait l.answers

words_over : {M : Type 0} (g : Motion M) (view : M → Planner) (m : Machine) (k : ℕ) (done : List MotionTurn) (puts : List Put) (text : ReadText) (told : Option Told) (fresh : List BoardLine) (t : MotionTurn) (a : Seat M) → IsPlanning g view → length done ≡ k
    → a.heard ≡ length (words_in (done ++ t ∷ [])) → Live view m k done t.words puts text told fresh a → needs g.wants k a ≡ false → Live view m (k + 1) (done ++ t ∷ []) [] puts text told fresh a
words_over g view m k done puts text told fresh t a is size many l enough =
    record {
      halted = l.halted;
      quiet = l.quiet;
      seen = l.seen;
      machine_is = l.machine_is;
      is = l.is;
      put = l.put;
      answers = answers_over g view m k done puts text told fresh t a is size many l enough;
      text_is = l.text_is;
      ended_is = l.ended_is;
      told_is = l.told_is;
      fresh_are = l.fresh_are;
    }

-- all turns from here on are bare
ends_here : {M : Type 0} (view : M → Planner) (m : Machine) (n k : ℕ) (done : List MotionTurn) (puts : List Put) (text : ReadText) (told : Option Told) (x : Seat M) (ts : List MotionTurn)
    → (l : Live view m k done [] puts text told [] x) → AreBare n k ts → ((begun : List Started) → StopsAt k x.heard l.seen.told begun ts []) → Ran m n k done puts text told x.heard ts
ends_here view m n k done puts text told x ts l bare why =
    let e : k + 0 ≡ k = omega arith in
    let f : x.heard + 0 ≡ x.heard = omega arith in
    let Bare : ℕ → Type 0 = λ i. AreBare n i ts in
    let Stops_at : ℕ → ℕ → Type 0 = λ i j. (begun : List Started) → StopsAt i j l.seen.told begun ts [] in
    let OfPut : List Put → Type 0 = λ y. ArePutBy m l.seen y in
    let Heard : ℕ → List MotionTurn → Type 0 = λ i y. HaveHeard i y [] l.seen.begun l.seen.going in
    record {
      planner = view x.machine;
      seen = l.seen;
      made = [];
      bare = ts;
      last = [];
      are = refl;
      machine_is = l.machine_is;
      is = l.is;
      put = subst OfPut (sym (append-nil puts)) l.put;
      text_is = l.text_is;
      ended_is = l.ended_is;
      told_is = l.told_is;
      lines = tt;
      in_time = tt;
      in_range = tt;
      ahead = tt;
      answers = subst (Heard (k + 0)) (sym (append-nil done)) (subst (λ i. Heard i done) (sym e) l.answers);
      are_bare = subst Bare (sym e) bare;
      stops = λ begun home. subst (Stops_at (k + 0)) (sym f) (subst (λ i. Stops_at i x.heard) (sym e) why) begun;
    }

-- what is known of connecting stays so
pub heard_some : (m : Machine) (k : ℕ) (ws : List WordMsg) (t : Told) → connecting_heard m k ws (Some t) ≡ Some t
heard_some m k [] t = refl
heard_some m k (w ∷ ws) t = heard_some m k ws t

-- from a turn on, in which no more of the text could be read
stops_here : {M : Type 0} (view : M → Planner) (m : Machine) (n k : ℕ) (done : List MotionTurn) (puts : List Put) (text : ReadText) (told : Option Told) (fresh : List BoardLine) (x a : Seat M) (t : MotionTurn) (ts : List MotionTurn) → (l : Live view m k done [] puts text told [] x)
    → (la : Spoken view m k done t.words puts text told (connecting_heard m k t.words told) fresh l.seen x.heard a) → HaveHeard (k + 1) (done ++ t ∷ []) [] la.live.seen.begun la.live.seen.going → AreBare n k (t ∷ ts) → x.heard ≤ k → a.heard ≡ x.heard + length t.words
    → AnyStops a.heard t.pieces → Ran m n k done puts text told x.heard (t ∷ ts)
stops_here view m n k done puts text None fresh x a t ts l la answers bare low count stops =
    let e : k + 0 ≡ k = omega arith in
    let f : x.heard + 0 ≡ x.heard = omega arith in
    let below = la.low in
    let Bare : ℕ → Type 0 = λ i. AreBare n i (t ∷ ts) in
    let Stops_at : ℕ → ℕ → Type 0 = λ i j. (begun : List Started) → StopsAt i j l.seen.told begun (t ∷ ts) (t ∷ []) in
    let why : Stops_at k x.heard = λ begun. inr (record { stops = subst (λ i. AnyStops i t.pieces) count stops; low = omega (arith, below, count); early = λ late. inl l.told_is }, refl) in
    let OfPut : List Put → Type 0 = λ y. ArePutBy m l.seen y in
    let Of : Option Told → Type 0 = λ o. KnowsConnecting (view x.machine).machine (view x.machine).course o l.seen.begun l.seen.going in
    let idle = subst Of l.told_is l.is.told in
    let none = none_heard (k + 1) (done ++ t ∷ []) in
    let Begun : List Started → Type 0 = λ z. HaveHeard (k + 1) (done ++ t ∷ []) [] z None in
    let Going_on : Option Going → Type 0 = λ z. HaveHeard (k + 1) (done ++ t ∷ []) [] l.seen.begun z in
    record {
      planner = view x.machine;
      seen = l.seen;
      made = [];
      bare = t ∷ ts;
      last = t ∷ [];
      are = refl;
      machine_is = l.machine_is;
      is = l.is;
      put = subst OfPut (sym (append-nil puts)) l.put;
      text_is = l.text_is;
      ended_is = l.ended_is;
      told_is = l.told_is;
      lines = tt;
      in_time = tt;
      in_range = tt;
      ahead = tt;
      answers = subst Going_on (sym idle.2) (subst Begun (sym idle.1) none);
      are_bare = subst Bare (sym e) bare;
      stops = λ begun home. subst (Stops_at (k + 0)) (sym f) (subst (λ i. Stops_at i x.heard) (sym e) why) begun;
    }
stops_here view m n k done puts text (Some told) fresh x a t ts l la answers bare low count stops =
    let e : k + 0 ≡ k = omega arith in
    let f : x.heard + 0 ≡ x.heard = omega arith in
    let below = la.low in
    let seen = la.live.seen in
    let Bare : ℕ → Type 0 = λ i. AreBare n i (t ∷ ts) in
    let Stops_at : ℕ → ℕ → Type 0 = λ i j. (begun : List Started) → (Homing i seen.begun seen.going → LastHomes i begun) → StopsAt i j seen.told begun (t ∷ ts) (t ∷ []) in
    let why : Stops_at k x.heard = λ begun home. inr (
      record {
        stops = subst (λ i. AnyStops i t.pieces) count stops;
        low = omega (arith, below, count);
        early = λ late. elim (la.early low (count ∙ late)) [ inl none ↦ absurd (some_none none) | inr h ↦ inr (home h) ];
      },
      refl,
    ) in
    let OfPut : List Put → Type 0 = λ y. ArePutBy m seen y in
    record {
      planner = view a.machine;
      seen = seen;
      made = [];
      bare = t ∷ ts;
      last = t ∷ [];
      are = refl;
      machine_is = la.live.machine_is;
      is = la.live.is;
      put = subst OfPut (sym (append-nil puts)) la.live.put;
      text_is = la.live.text_is;
      ended_is = la.live.ended_is;
      told_is = la.live.told_is ∙ heard_some m k t.words told;
      lines = tt;
      in_time = tt;
      in_range = tt;
      ahead = tt;
      answers = answers;
      are_bare = subst Bare (sym e) bare;
      stops = subst (Stops_at (k + 0)) (sym f) (subst (λ i. Stops_at i x.heard) (sym e) why);
    }

-- one turn ahead
one_ahead : (m : Machine) (n k : ℕ) (done : List MotionTurn) (puts : List Put) (text : ReadText) (told : Option Told) (taken after : ℕ) (t : MotionTurn) (ts : List MotionTurn) → after ≡ taken + length t.words → after ≤ k + 1
    → (connecting_heard m k t.words told ≡ None → k < after) → k < after + 64 → BeginInRange m (connecting_heard m k t.words told) → WereHeard (fresh_in m k t.words told) t.note.news → LoseNone m k t.note.news (fresh_in m k t.words told) (connecting_heard m k t.words told) → Ran m n (k + 1) (done ++ t ∷ []) (puts ++ put_of t ∷ []) (read_all text t.pieces) (told_behind m k t told) after ts → Ran m n k done puts text told taken (t ∷ ts)
one_ahead m n k done puts text told taken after t ts number low here soon range own lines p =
    let e : k + 1 + length p.made ≡ k + length (t ∷ p.made) = omega arith in
    let f : after + length (words_in p.made) ≡ taken + length (t.words ++ words_in p.made) = omega (arith, number, length-append t.words (words_in p.made)) in
    let Bare : ℕ → Type 0 = λ i. AreBare n i p.bare in
    let Stops_at : ℕ → ℕ → Type 0 = λ i j. (begun : List Started) → (Homing i p.seen.begun p.seen.going → LastHomes i begun) → StopsAt i j p.seen.told begun p.bare p.last in
    let h : k + 1 + length (p.made ++ p.last) ≡ k + length (t ∷ (p.made ++ p.last)) = omega arith in
    let OfPut : List Put → Type 0 = λ y. ArePutBy m p.seen y in
    let Heard : ℕ → List MotionTurn → Type 0 = λ i y. HaveHeard i y [] p.seen.begun p.seen.going in
    record {
      planner = p.planner;
      seen = p.seen;
      made = t ∷ p.made;
      bare = p.bare;
      last = p.last;
      are = ap (λ y. t ∷ y) p.are;
      machine_is = p.machine_is;
      is = p.is;
      put = subst OfPut (append_assoc puts (put_of t ∷ []) (puts_of p.made)) p.put;
      text_is = p.text_is;
      ended_is = p.ended_is;
      told_is = p.told_is;
      lines = (own, lines, p.lines);
      in_time =
          let In_time : ℕ → Type 0 = λ i. (connecting_heard m k t.words told ≡ None → k < i) × (k < i + 64) × TookInTime m (k + 1) i p.made (told_behind m k t told) in
          subst In_time number (here, soon, p.in_time);
      in_range = (range, p.in_range);
      ahead =
          let Ahead : ℕ → Type 0 = λ i. (i ≤ k + 1) × TookNoneAhead (k + 1) i p.made in
          subst Ahead number (low, p.ahead);
      answers = subst (Heard (k + length (t ∷ (p.made ++ p.last)))) (append_assoc done (t ∷ []) (p.made ++ p.last)) (subst (λ i. Heard i ((done ++ t ∷ []) ++ (p.made ++ p.last))) h p.answers);
      are_bare = subst Bare e p.are_bare;
      stops = subst (Stops_at (k + length (t ∷ p.made))) f (subst (λ i. Stops_at i (after + length (words_in p.made))) e p.stops);
    }

live_goes : {M : Type 0} (g : Motion M) (view : M → Planner) (m : Machine) (n k : ℕ) (done : List MotionTurn) (puts : List Put) (text : ReadText) (told : Option Told) (ts : List MotionTurn) (x e : Seat M) → IsPlanning g view → length puts ≡ k → length done ≡ k
    → x.heard ≡ length (words_in done) → x.heard ≤ k → Live view m k done [] puts text told [] x → Goes (MotionStep g n) k x ts e → Ran m n k done puts text told x.heard ts
live_goes g view m n k done puts text told [] x e is long size words low l h = ends_here view m n k done puts text told x [] l tt (λ begun. refl)
live_goes g view m n k done puts text told (t ∷ ts) x e is long size words low l (y, step, more) =
    let (a, b, heard, enough, fed, full, make) = step in
    let dies = λ (bare : IsBare n k t × Dead y) (why : AnyEnds t.words ⊎ (t.note.out ≡ true)). ends_here view m n k done puts text told x (t ∷ ts) l (bare.0, dead_goes g n (k + 1) ts y e bare.1 more) (λ begun. inl (why, refl)) in
    let count = words_taken g k 0 t.words x a heard in
    let all = done ++ t ∷ [] in
    let longer : length all ≡ k + 1 = omega (arith, size, length-append done (t ∷ [])) in
    let many : a.heard ≡ length (words_in all) = omega (arith, count, words, words_snoc done t) in
    elim (words_heard g view m k 0 done [] puts text told [] t.words x a is long (omega (arith, low)) l heard) [
      | inr d ↦
          let db = pieces_dead g k 0 t.pieces a b d.0 fed in
          dies (dead_makes g n k b y t db make)
          (elim d.1 [ inl z ↦ inl z | inr z ↦ inr (note_out g n k b y t db (pieces_out g k 0 t.pieces a b z fed) make) ])
      | inl la ↦ elim (pieces_read g view m k (k + 1) 0 all [] puts text (connecting_heard m k t.words told) (fresh_in m k t.words told) t.pieces a b is (words_over g view m k done puts text (connecting_heard m k t.words told) (fresh_in m k t.words told) t a is size many la.live enough) fed) [
        | inr db ↦
            let bare = dead_makes g n k b y t db.0 make in
            elim db.1 [
              | inl stops ↦
                  stops_here view m n k done puts text told (fresh_in m k t.words told) x a t ts l la (answers_over g view m k done puts text (connecting_heard m k t.words told) (fresh_in m k t.words told) t a is size many la.live enough)
                  (bare.0, dead_goes g n (k + 1) ts y e bare.1 more) low count stops
              | inr out ↦ dies bare (inr (note_out g n k b y t db.0 out make))
            ]
        | inl lb ↦ elim (live_makes g view m n k all puts (read_all text t.pieces) (connecting_heard m k t.words told) (fresh_in m k t.words told) b y t is (omega (arith, longer)) lb make) [
          | inr bare ↦ dies (bare.0, bare.1) (inr bare.2)
          | inl ly ↦
              let pieces = pieces_taken g k 0 t.pieces a b fed in
              let number : y.heard ≡ x.heard + length t.words = make.0 ∙ pieces ∙ count in
              let same : a.heard ≡ y.heard = sym (make.0 ∙ pieces) in
              let below = la.low in
              let took = wants_more g view m k done t.words puts text (connecting_heard m k t.words told) (fresh_in m k t.words told) a is la.live enough in
              one_ahead m n k done puts text told x.heard y.heard t ts number (omega (arith, below, same))
              (λ none. let f = took.0 none in omega (arith, f, same))
              (let f = took.1 in omega (arith, f, same))
              ly.1
              ly.2
              ly.3
              (live_goes g view m n (k + 1) all (puts ++ put_of t ∷ []) (read_all text t.pieces) (told_behind m k t told) ts y e is (omega (arith, long, length-append puts (put_of t ∷ []))) longer (sym same ∙ many) (omega (arith, below, same)) ly.0 more)
        ]
      ]
    ]

ran : (M : Type 0) (g : Motion M) (view : M → Planner) (n : ℕ) (p : M) (ts : List MotionTurn) (e : Seat M) → IsPlanning g view → IsPlannerOf (view p) nothing_seen
    → Goes (MotionStep g n) 0 (seated g p) ts e → Ran (view p).machine n 0 [] [] nothing_read None 0 ts
ran M g view n p ts e is fresh h =
    let l : Live view (view p).machine 0 [] [] [] nothing_read None [] (seated g p) = record {
      halted = refl;
      quiet = refl;
      seen = nothing_seen;
      machine_is = refl;
      is = fresh;
      put = none_put (view p).machine;
      answers = none_heard 0 [];
      text_is = refl;
      ended_is = refl;
      told_is = refl;
      fresh_are = refl;
    } in
    live_goes g view (view p).machine n 0 [] [] nothing_read None ts (seated g p) e is refl refl refl (omega arith) l h

pub plans : (M : Type 0) (g : Motion M) (view : M → Planner) (n : ℕ) (p : M) (ts : List MotionTurn) (e : Seat M) (text : List ℕ) → IsPlanning g view → IsPlannerOf (view p) nothing_seen
    → Goes (MotionStep g n) 0 (seated g p) ts e → AreReadInOrder nothing_read ts text → ∥ ((made : Plans (view p).machine n ts) × (made.seen.text ≡ text)) ∥₁
plans M g view n p ts e text is fresh h read = whole_plans (view p).machine n ts text (ran M g view n p ts e is fresh h) read

pub planner_plans : (n : ℕ) (p : Planner) (ts : List MotionTurn) (e : Seat Planner) (text : List ℕ) → IsPlannerOf p nothing_seen → Goes (MotionStep planning n) 0 (seated planning p) ts e → AreReadInOrder nothing_read ts text
    → ∥ ((made : Plans p.machine n ts) × (made.seen.text ≡ text)) ∥₁
planner_plans n p ts e text fresh h read =
    let is : IsPlanning planning (λ (q : Planner). q) = record { wants = λ x k. refl; hungry = λ x k. refl; hears = λ x y w h. h; reads = λ x y q h. h; turns = λ x y k bs note h. h } in
    plans Planner planning (λ (q : Planner). q) n p ts e text is fresh h read
