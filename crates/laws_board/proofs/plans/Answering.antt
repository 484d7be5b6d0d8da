-- A homing section ends in the turn in which a word tells of its answer.
use Rattle.std.proofs.Common.{◌≡◌, ℕ, ◌+◌, ◌<◌, ◌≤◌, Bool, true, false, ◌⊎◌, List, [], ◌∷◌, ◌++◌, All, length, Option, None, Some, refl, ap, sym, ◌∙◌, subst, arith, inl, inr, append-nil, length-append}
use Rattle.std.specs.Prelude.{◌&&◌, nat_le, if◌then◌else◌}
use Rattle.laws_board.proofs.Names.{leb_tells, append_cancel_left, All-head, Machine, Section, SectionKind, Home, Moves, NoteNews, WordMsg, Started, Told, MotionTurn}
use Rattle.plan_types.specs.Sections.{is_home}
use Rattle.motion_work.specs.Homes.{no_end}
use Rattle.motion_work.specs.Seen.{AreMoves}
use Rattle.motion_work.specs.Told.{tells_homed}
use Rattle.motion_stream.specs.declared.course.Course.{Course}
use Rattle.motion_stream.specs.declared.course.Open.{Open}
use Rattle.motion_stream.specs.declared.course.Open.TheVariants as opens
use Rattle.motion_stream.specs.Courses.{IsGoing}
use Rattle.motion_stream.specs.Motions.{IsMore, started_until, begun_with, going_with, hears_answer, waits_by, with_word}
use Rattle.motion_stream.specs.Puts.{IsSeenBehind}
use Rattle.motion_stream.specs.Seen.{AreWhole, Going, IsContinued, Seen}
use Rattle.motion_stream.specs.Wholes.{HasNoAnswer}
use Rattle.laws_board.specs.plans.Answers.{AnyHomed, EndByWords, EndsByWord, TakesAnswer, WaitsIn}
use Rattle.laws_board.specs.plans.Planned.{LastHomes, words_in}
use Rattle.plan_types.proofs.Facts.{true_false, some_same, none_is_some}

-- words of some turns, and of one more
pub words_snoc : (ts : List MotionTurn) (t : MotionTurn) → length (words_in (ts ++ t ∷ [])) ≡ length (words_in ts) + length t.words
words_snoc [] t = let e = length-append t.words [] in omega (arith, e)
words_snoc (x ∷ ts) t =
    let e = words_snoc ts t in
    let f = length-append x.words (words_in (ts ++ t ∷ [])) in
    let g = length-append x.words (words_in ts) in
    omega (arith, e, f, g)

-- words of which one tells of an answer
any_left : (us vs : List WordMsg) → AnyHomed us → AnyHomed (us ++ vs)
any_left [] vs a = absurd a
any_left (u ∷ us) vs (inl e) = inl e
any_left (u ∷ us) vs (inr a) = inr (any_left us vs a)

any_last : (us : List WordMsg) (w : WordMsg) → tells_homed w.news ≡ true → AnyHomed (us ++ w ∷ [])
any_last [] w e = inl e
any_last (u ∷ us) w e = inr (any_last us w e)

any_snoc : (us : List WordMsg) (w : WordMsg) → AnyHomed (us ++ w ∷ []) → AnyHomed us ⊎ (tells_homed w.news ≡ true)
any_snoc [] w (inl e) = inr e
any_snoc [] w (inr a) = absurd a
any_snoc (u ∷ us) w (inl e) = inl (inl e)
any_snoc (u ∷ us) w (inr a) = elim (any_snoc us w a) [ inl b ↦ inl (inr b) | inr e ↦ inr e ]

-- turns in which a section waits
waits_less : (start e f k taken : ℕ) (ts : List MotionTurn) → f ≤ e → WaitsIn start e k taken ts → WaitsIn start f k taken ts
waits_less start e f k taken [] le h = tt
waits_less start e f k taken (t ∷ ts) le h = (λ late soon. h.0 late (omega (arith, soon, le)), waits_less start e f (k + 1) (taken + length t.words) ts le h.1)

waits_later : (start e k taken : ℕ) (ts : List MotionTurn) → k + length ts ≤ start → WaitsIn start e k taken ts
waits_later start e k taken [] far = tt
waits_later start e k taken (t ∷ ts) far = (λ late soon. absurd (omega (arith, late, far)), waits_later start e (k + 1) (taken + length t.words) ts (omega (arith, far)))

waits_snoc : (start e k taken : ℕ) (ts : List MotionTurn) (t : MotionTurn) → WaitsIn start e k taken ts
    → (start ≤ k + length ts → k + length ts < e → (AnyHomed t.words → ⊥) × (k + length ts < taken + length (words_in (ts ++ t ∷ [])))) → WaitsIn start e k taken (ts ++ t ∷ [])
waits_snoc start e k taken [] t h one =
    let more = words_snoc [] t in (
      λ late soon. let r = one (omega (arith, late)) (omega (arith, soon)) in let low = r.1 in (r.0, omega (arith, low, more)),
      tt,
    )
waits_snoc start e k taken (x ∷ ts) t h one =
    let more = length-append x.words (words_in (ts ++ t ∷ [])) in (
      h.0,
      waits_snoc start e (k + 1) (taken + length x.words) ts t h.1 (λ late soon. let r = one (omega (arith, late)) (omega (arith, soon)) in let low = r.1 in (r.0, omega (arith, low, more))),
    )

takes_snoc : (e k : ℕ) (ts : List MotionTurn) (t : MotionTurn) → TakesAnswer e k ts → TakesAnswer e k (ts ++ t ∷ [])
takes_snoc e k [] t a = absurd a
takes_snoc e k (x ∷ ts) t (inl a) = inl a
takes_snoc e k (x ∷ ts) t (inr a) = inr (takes_snoc e (k + 1) ts t a)

takes_last : (e k : ℕ) (ts : List MotionTurn) (t : MotionTurn) → e ≡ k + length ts → AnyHomed t.words → TakesAnswer e k (ts ++ t ∷ [])
takes_last e k [] t at a = inl (omega (arith, at), a)
takes_last e k (x ∷ ts) t at a = inr (takes_last e (k + 1) ts t (omega (arith, at)) a)

takes_low : (e k : ℕ) (ts : List MotionTurn) → TakesAnswer e k ts → e < k + length ts
takes_low e k [] a = absurd a
takes_low e k (t ∷ ts) (inl a) = let at = a.0 in omega (arith, at)
takes_low e k (t ∷ ts) (inr a) = let low = takes_low e (k + 1) ts a in omega (arith, low)

-- A section that homed and has its answer, in a turn k in which these words were taken so far: in this turn, or before it.
pub record HasAnswer (k : ℕ) (done : List MotionTurn) (ws : List WordMsg) (s : Started) : Type 0 where
  waits : WaitsIn s.start s.end 0 0 done
  took : ((s.end ≡ k) × AnyHomed ws) ⊎ TakesAnswer s.end 0 done

abbrev pub HaveAnswers : ℕ → List MotionTurn → List WordMsg → List Started → Type 0
HaveAnswers k done ws [] = Unit {0}
HaveAnswers k done ws (s ∷ begun) = ((axis : ℕ) → s.section.kind ≡ Home axis → HasAnswer k done ws s) × HaveAnswers k done ws begun

-- the section that goes on homes, and starts by a turn; or none goes on, and the last one does
abbrev pub Homing : ℕ → List Started → Option Going → Type 0
Homing k begun None = LastHomes k begun
Homing k begun (Some g) = (is_home g.kind ≡ true) × (g.start ≤ k)

pub home_axis : (kind : SectionKind) → is_home kind ≡ true → (axis : ℕ) × (kind ≡ Home axis)
home_axis Moves e = absurd (true_false (sym e))
home_axis (Home axis) e = (axis, refl)

-- which a word leaves so: it may end the section
homing_ends : (m : Machine) (k next : ℕ) (begun : List Started) (g : Going) (b : Bool) → Homing k begun (Some g)
    → Homing k (begun_with begun (if b then Some (started_until m next g) else None)) (going_with (Some g) (if b then Some (started_until m next g) else None))
homing_ends m k next begun g true h = let axis = home_axis g.kind h.0 in record { past = begun; s = started_until m next g; are = refl; axis = axis.0; home = axis.1; by = h.1 }
homing_ends m k next begun g false h = h

homing_by : (m : Machine) (k next : ℕ) (begun : List Started) (going : Option Going) (tells : Bool) → Homing k begun going
    → Homing k (begun_with begun (if tells then hears_answer m next going else None)) (going_with going (if tells then hears_answer m next going else None))
homing_by m k next begun None true h = h
homing_by m k next begun (Some g) true h = homing_ends m k next begun g (is_home g.kind && nat_le g.start next) h
homing_by m k next begun c false h = h

pub homing_word : (m : Machine) (seen : Seen) (k : ℕ) (w : WordMsg) → Homing k seen.begun seen.going → Homing k (with_word m seen w).begun (with_word m seen w).going
homing_word m seen k w h = homing_by m k seen.next seen.begun seen.going (tells_homed w.news) h

-- it has waited from its start on
abbrev pub WaitsSince : ℕ → List MotionTurn → List WordMsg → ℕ → Type 0
WaitsSince k done ws start = WaitsIn start no_end 0 0 done × (start ≤ k → AnyHomed ws → ⊥)

abbrev pub Waits : ℕ → List MotionTurn → List WordMsg → Option Going → Type 0
Waits k done ws None = Unit {0}
Waits k done ws (Some g) = is_home g.kind ≡ true → WaitsSince k done ws g.start

-- Each section that was begun and homes has its answer, but the one that goes on, which waits.
pub record HaveHeard (k : ℕ) (done : List MotionTurn) (ws : List WordMsg) (begun : List Started) (going : Option Going) : Type 0 where
  known : HaveAnswers k done ws begun
  waits : Waits k done ws going

pub none_heard : (k : ℕ) (done : List MotionTurn) → HaveHeard k done [] [] None
none_heard k done = record { known = tt; waits = tt }

-- a word
answers_more : (k : ℕ) (done : List MotionTurn) (ws : List WordMsg) (w : WordMsg) (begun : List Started) → HaveAnswers k done ws begun → HaveAnswers k done (ws ++ w ∷ []) begun
answers_more k done ws w [] h = tt
answers_more k done ws w (s ∷ begun) h = (
  λ axis home. let a = h.0 axis home in record { waits = a.waits; took = elim a.took [ inl now ↦ inl (now.0, any_left ws (w ∷ []) now.1) | inr took ↦ inr took ] },
  answers_more k done ws w begun h.1,
)

answers_snoc : (k : ℕ) (done : List MotionTurn) (ws : List WordMsg) (begun : List Started) (s : Started) → HaveAnswers k done ws begun → HasAnswer k done ws s → HaveAnswers k done ws (begun ++ s ∷ [])
answers_snoc k done ws [] s h one = (λ axis home. one, tt)
answers_snoc k done ws (x ∷ begun) s h one = (h.0, answers_snoc k done ws begun s h.1 one)

not_late : (a k : ℕ) → nat_le a k ≡ false → a ≤ k → ⊥
not_late a k e late = elim (leb_tells a k) [ inl p ↦ true_false (sym p.0 ∙ e) | inr p ↦ let far = p.1 in omega (arith, far, late) ]

-- that tells of an answer: it ends the section that goes on, where that homes and has started
word_ends : (m : Machine) (k : ℕ) (done : List MotionTurn) (ws : List WordMsg) (w : WordMsg) (begun : List Started) (g : Going) (homes late : Bool) → is_home g.kind ≡ homes → nat_le g.start k ≡ late → k ≤ no_end → tells_homed w.news ≡ true → HaveHeard k done ws begun (Some g)
    → HaveHeard k done (ws ++ w ∷ []) (begun_with begun (if homes && late then Some (started_until m k g) else None)) (going_with (Some g) (if homes && late then Some (started_until m k g) else None))
word_ends m k done ws w begun g true true home start small tells a = record {
  known = answers_snoc k done (ws ++ w ∷ []) begun (started_until m k g) (answers_more k done ws w begun a.known) (record { waits = waits_less g.start no_end k 0 0 done small (a.waits home).0; took = inl (refl, any_last ws w tells) });
  waits = tt;
}
word_ends m k done ws w begun g true false home start small tells a = record {
  known = answers_more k done ws w begun a.known;
  waits = λ h. ((a.waits h).0, λ late any. not_late g.start k start late);
}
word_ends m k done ws w begun g false late home start small tells a = record { known = answers_more k done ws w begun a.known; waits = λ h. absurd (true_false (sym h ∙ home)) }

by_word : (m : Machine) (k : ℕ) (done : List MotionTurn) (ws : List WordMsg) (w : WordMsg) (begun : List Started) (going : Option Going) (tells : Bool) → tells_homed w.news ≡ tells → k ≤ no_end → HaveHeard k done ws begun going
    → HaveHeard k done (ws ++ w ∷ []) (begun_with begun (if tells then hears_answer m k going else None)) (going_with going (if tells then hears_answer m k going else None))
by_word m k done ws w begun None true t small a = record { known = answers_more k done ws w begun a.known; waits = tt }
by_word m k done ws w begun None false t small a = record { known = answers_more k done ws w begun a.known; waits = tt }
by_word m k done ws w begun (Some g) true t small a = word_ends m k done ws w begun g (is_home g.kind) (nat_le g.start k) refl refl small t a
by_word m k done ws w begun (Some g) false t small a = record {
  known = answers_more k done ws w begun a.known;
  waits = λ h. let v = a.waits h in (v.0, λ late any. elim (any_snoc ws w any) [ inl b ↦ v.1 late b | inr homed ↦ true_false (sym homed ∙ t) ]);
}

pub heard_word : (m : Machine) (seen : Seen) (k : ℕ) (done : List MotionTurn) (ws : List WordMsg) (w : WordMsg) → seen.next ≡ k → k ≤ no_end → HaveHeard k done ws seen.begun seen.going
    → HaveHeard k done (ws ++ w ∷ []) (with_word m seen w).begun (with_word m seen w).going
heard_word m seen k done ws w at small a =
    let Ends : ℕ → Option Started = λ n. if tells_homed w.news then hears_answer m n seen.going else None in
    let At : ℕ → Type 0 = λ n. HaveHeard k done (ws ++ w ∷ []) (begun_with seen.begun (Ends n)) (going_with seen.going (Ends n)) in
    subst At (sym at) (by_word m k done ws w seen.begun seen.going (tells_homed w.news) refl small a)

-- a piece of the text
pub heard_piece : (k : ℕ) (done : List MotionTurn) (ws : List WordMsg) (begun : List Started) (old new : Option Going) → IsMore old new → HaveHeard k done ws begun old → HaveHeard k done ws begun new
heard_piece k done ws begun None None more a = a
heard_piece k done ws begun None (Some g) more a = absurd more
heard_piece k done ws begun (Some g) None more a = absurd more
heard_piece k done ws begun (Some g) (Some h) more a = record { known = a.known; waits = λ home. subst (WaitsSince k done ws) (sym more.start) (a.waits (ap is_home (sym more.kind) ∙ home)) }

-- the words of a turn are all taken
answers_end : (k : ℕ) (done : List MotionTurn) (t : MotionTurn) (begun : List Started) → length done ≡ k → HaveAnswers k done t.words begun → HaveAnswers (k + 1) (done ++ t ∷ []) [] begun
answers_end k done t [] long h = tt
answers_end k done t (s ∷ begun) long h = (
  λ axis home.
      let a = h.0 axis home in
      record {
        waits = waits_snoc s.start s.end 0 0 done t a.waits (λ late soon. absurd (elim a.took [
          | inl now ↦ let at = now.0 in omega (arith, at, soon, long)
          | inr took ↦ let low = takes_low s.end 0 done took in omega (arith, low, soon)
        ]));
        took = inr (elim a.took [ inl now ↦ takes_last s.end 0 done t (let at = now.0 in omega (arith, at, long)) now.1 | inr took ↦ takes_snoc s.end 0 done t took ]);
      },
  answers_end k done t begun long h.1,
)

waiting_now : (m : Machine) (o : Open) (c : Course) (told : Option Told) (begun : List Started) (g : Going) (k : ℕ) → IsGoing m o c told begun (Some g) → is_home g.kind ≡ true → g.start ≤ k → waits_by o c.start k ≡ true
waiting_now m opens.Nothing c told begun g k i home late = absurd (none_is_some (sym i.none))
waiting_now m (opens.Goes s homes) c told begun g k i home late =
    let same : i.g ≡ g = sym (some_same g i.g i.is) in
    let start : c.start ≡ g.start = i.start_is ∙ ap (λ (x : Going). x.start) same in
    ap (λ b. b && nat_le c.start k) (i.homes_is ∙ ap (λ (x : Going). is_home x.kind) same ∙ home) ∙ elim (leb_tells c.start k) [ inl p ↦ p.0 | inr p ↦ absurd (let far = p.1 in omega (arith, far, start, late)) ]

waits_end : (m : Machine) (c : Course) (told : Option Told) (begun : List Started) (going : Option Going) (k n : ℕ) (done : List MotionTurn) (t : MotionTurn) → IsGoing m c.current c told begun going → length done ≡ k → n ≡ length (words_in (done ++ t ∷ []))
    → (waits_by c.current c.start k ≡ true → k < n) → Waits k done t.words going → Waits (k + 1) (done ++ t ∷ []) [] going
waits_end m c told begun None k n done t i long many wait v = tt
waits_end m c told begun (Some g) k n done t i long many wait v = λ home. (
  waits_snoc g.start no_end 0 0 done t (v home).0 (λ late soon. (
    (v home).1 (omega (arith, late, long)),
    let now = wait (waiting_now m c.current c told begun g k i home (omega (arith, late, long))) in omega (arith, now, many, long),
  )),
  λ late any. any,
)

pub words_end : (m : Machine) (c : Course) (seen : Seen) (k n : ℕ) (done : List MotionTurn) (t : MotionTurn) → IsGoing m c.current c seen.told seen.begun seen.going → length done ≡ k → n ≡ length (words_in (done ++ t ∷ [])) → (waits_by c.current c.start k ≡ true → k < n)
    → HaveHeard k done t.words seen.begun seen.going → HaveHeard (k + 1) (done ++ t ∷ []) [] seen.begun seen.going
words_end m c seen k n done t i long many wait a = record { known = answers_end k done t seen.begun long a.known; waits = waits_end m c seen.told seen.begun seen.going k n done t i long many wait a.waits }

-- a turn
answers_moves : (k : ℕ) (done : List MotionTurn) (begun more : List Started) → HaveAnswers k done [] begun → AreMoves more → HaveAnswers k done [] (begun ++ more)
answers_moves k done [] [] h moves = tt
answers_moves k done [] (s ∷ more) h moves = (λ axis home. absurd (moves_home axis (sym moves.0 ∙ home)), answers_moves k done [] more tt moves.1)
  where
    moves_home : (axis : ℕ) → Moves ≡ Home axis → ⊥
    moves_home axis e = cc
answers_moves k done (x ∷ begun) more h moves = (h.0, answers_moves k done begun more h.1 moves)

going_waits : (m : Machine) (seen next : Seen) (k : ℕ) (news : List NoteNews) (done : List MotionTurn) (going : Option Going) → length done ≤ k + 1 → IsSeenBehind m seen next k news → next.going ≡ going → Waits (k + 1) done [] seen.going → Waits (k + 1) done [] going
going_waits m seen next k news done None long is e v = tt
going_waits m seen next k news done (Some g) long is e v = λ home. elim (is.sections.goes g e) [
  | inl start ↦ (waits_later g.start no_end 0 0 done (omega (arith, start, long)), λ late any. any)
  | inr p ↦
      let (h, old, kind, start) = p in
      let own : Waits (k + 1) done [] (Some h) = subst (Waits (k + 1) done []) old v in
      subst (WaitsSince (k + 1) done []) (sym start) (own (ap is_home (sym kind) ∙ home))
]

pub heard_turn : (m : Machine) (seen next : Seen) (k : ℕ) (news : List NoteNews) (done : List MotionTurn) → length done ≤ k + 1 → IsSeenBehind m seen next k news → HaveHeard (k + 1) done [] seen.begun seen.going → HaveHeard (k + 1) done [] next.begun next.going
heard_turn m seen next k news done long is a = record {
  known = subst (HaveAnswers (k + 1) done []) (sym is.sections.are) (answers_moves (k + 1) done seen.begun is.sections.more a.known is.sections.moves);
  waits = going_waits m seen next k news done next.going long is refl a.waits;
}

-- all whole sections, of which one that still goes on and homes has no end
last_open : (m : Machine) (next : ℕ) (begun more : List Started) (g : Going) (s : Started) → begun ++ more ≡ begun ++ s ∷ [] → All HasNoAnswer more → IsContinued m next g s → is_home g.kind ≡ true → s.end ≡ no_end
last_open m next begun more g s e unanswered c home =
    let axis = home_axis g.kind home in
    All-head HasNoAnswer s [] (subst (All HasNoAnswer) (append_cancel_left begun more (s ∷ []) e) unanswered) axis.0 (ap (λ (x : Section). x.kind) c.section ∙ axis.1)

ends_snoc : (k : ℕ) (done : List MotionTurn) (begun more : List Started) → HaveAnswers k done [] begun → EndByWords 0 0 done more → EndByWords 0 0 done (begun ++ more)
ends_snoc k done [] more h ends = ends
ends_snoc k done (x ∷ begun) more h ends = (
  λ axis home. let a = h.0 axis home in record { waits = a.waits; ends = elim a.took [ inl now ↦ absurd now.1 | inr took ↦ inr (inr took) ] },
  ends_snoc k done begun more h.1 ends,
)

pub all_end : (m : Machine) (told : Option Told) (next k : ℕ) (done : List MotionTurn) (begun all more : List Started) (going : Option Going) → HaveHeard k done [] begun going → AreWhole m told next begun going all → all ≡ begun ++ more → All HasNoAnswer more → EndByWords 0 0 done all
all_end m told next k done begun all more None a w e unanswered = subst (EndByWords 0 0 done) (append-nil begun ∙ sym w) (ends_snoc k done begun [] a.known tt)
all_end m None next k done begun all more (Some g) a w e unanswered = absurd w
all_end m (Some t) next k done begun all more (Some g) a (s, are, c) e unanswered =
    let ends = λ (axis : ℕ) (home : s.section.kind ≡ Home axis).
    (let homes : is_home g.kind ≡ true = ap is_home (ap (λ (x : Section). x.kind) (sym c.section) ∙ home) in
    let none = last_open m next begun more g s (sym e ∙ are) unanswered c homes in
    let At : ℕ → Type 0 = λ n. WaitsIn n s.end 0 0 done in
    let To : ℕ → Type 0 = λ n. WaitsIn g.start n 0 0 done in
    let one : EndsByWord 0 0 done s = record { waits = subst At (sym c.start) (subst To (sym none) (a.waits homes).0); ends = inr (inl none) } in
    one) in
    subst (EndByWords 0 0 done) (sym are) (ends_snoc k done begun (s ∷ []) a.known (ends, tt))

-- of which the last one homes
pub all_homing : (m : Machine) (told : Option Told) (next k : ℕ) (begun all : List Started) (going : Option Going) → AreWhole m told next begun going all → Homing k begun going → LastHomes k all
all_homing m told next k begun all None w h = subst (LastHomes k) (sym w) h
all_homing m None next k begun all (Some g) w h = absurd w
all_homing m (Some t) next k begun all (Some g) (s, are, c) h =
    let axis = home_axis g.kind h.0 in
    let start = c.start in
    let late = h.1 in
    record { past = begun; s = s; are = are; axis = axis.0; home = ap (λ (x : Section). x.kind) c.section ∙ axis.1; by = omega (arith, start, late) }
