-- A stream of steps, step by step.
use Rattle.std.proofs.Common.{◌≡◌, ℕ, zero, suc, ◌+◌, ◌-◌, ◌*◌, ◌<◌, ◌≤◌, ◌^◌, List, [], ◌∷◌, ◌++◌, All, arith, refl, ap, sym, ◌∙◌, append_assoc, Bool, true, false, cond, max, ◌&&◌, map, drop, length, get_or, add-one, inl, inr}
use Rattle.std.specs.Prelude.{nat_le, nat_lt, IsTrue, take_while}
use Rattle.std.proofs.lemmas.List.{append-nil, drop_all, map-append}
use Rattle.std.proofs.lemmas.List.Elements.{All-append, All-cons}
use Rattle.std.proofs.lemmas.Bool.{cases_lt, ltb-true, lt-ltb, le-ltb, and_parts, and_from, and_cases, and_left, and_right, ltb-false}
use Rattle.std.proofs.lemmas.Bool.Decides.{nat_tests}
use Rattle.std.proofs.Math.Seq.{drop-cons}
use Rattle.std.proofs.lemmas.List.Sums.{take_while-cons}
use Rattle.plan_types.specs.declared.plan.Planned.{Planned}
use Rattle.plan_types.specs.declared.plan.Segment.{Segment}
use Rattle.plan_types.specs.declared.plan.Gear.{Gear}
use Rattle.plan_types.specs.declared.plan.Line.{Line}
use Rattle.plan_types.specs.Clock.{tick}
use Rattle.plan_types.specs.Lines.{Clocks, lines_board}
use Rattle.plan_types.specs.Steps.{segment_steps, raw_steps}
use Rattle.plan_types.specs.Numbers.{gap}
use Rattle.plan_types.specs.Plan.{cancel, cancel_reach, opposite, filtered, on_board, spaced, no_step}
use Rattle.clock_line.specs.Kept.{added}
use Rattle.clock_line.proofs.Boards.{board-added}
use Rattle.step_ticks.specs.Due.{IsDropped, IsKept, is_due}
use Rattle.step_ticks.specs.Streaming.{AreRising, AreSteps, IsKeptOf, due_steps, last_step_tick}
use Rattle.step_ticks.proofs.Lists.{filtered-All}

cond-at : (b c : Bool) (xs ys : List Planned) → b ≡ c → cond b xs ys ≡ cond c xs ys
cond-at b c xs ys e = ap (λ d. cond d xs ys) e

pub kept-more : (reach end end' : ℕ) (raw kept waiting new : List Planned) → IsKeptOf reach end raw kept waiting → All (λ s. end ≤ s.tick) new → end ≤ end' → IsKeptOf reach end' (raw ++ new) kept (waiting ++ new)
kept-more reach end end' raw kept waiting new given at up = record {
  whole = λ more h. (
      let later : All (λ s. end ≤ s.tick) more = λ k d l. (let b = h k d l in omega arith) in
      let e = given.whole (new ++ more) (All-append (λ s. end ≤ s.tick) new more at later) in
      rw (append_assoc raw new more, append_assoc waiting new more) e);
}

kept-drop : (reach end : ℕ) (raw kept : List Planned) (a b : Planned) (waiting : List Planned) → IsKeptOf reach end raw kept (a ∷ b ∷ waiting) → cancel reach a b ≡ true → IsKeptOf reach end raw kept waiting
kept-drop reach end raw kept a b waiting given cancels = record {
  whole = λ more h. (
      let dropped = filtered reach (waiting ++ more) in
      let left = a ∷ filtered reach (b ∷ waiting ++ more) in
      given.whole more h ∙ ap (λ xs. kept ++ xs) (cond-at (cancel reach a b) true dropped left cancels));
}

kept-next : (reach end : ℕ) (raw kept : List Planned) (a b : Planned) (waiting : List Planned) → IsKeptOf reach end raw kept (a ∷ b ∷ waiting) → cancel reach a b ≡ false → IsKeptOf reach end raw (kept ++ a ∷ []) (b ∷ waiting)
kept-next reach end raw kept a b waiting given keeps = record {
  whole = λ more h. (
      let dropped = filtered reach (waiting ++ more) in
      let left = a ∷ filtered reach (b ∷ waiting ++ more) in
      given.whole more h ∙ ap (λ xs. kept ++ xs) (cond-at (cancel reach a b) false dropped left keeps) ∙ sym (append_assoc kept (a ∷ []) (filtered reach (b ∷ waiting ++ more))));
}

far : (reach end : ℕ) (a b : Planned) → a.tick + reach < end → end ≤ b.tick → cancel reach a b ≡ false
far reach end a b near late = apart (opposite a.up b.up) (gap a.tick b.tick) reach (omega arith)
  where
    apart : (p : Bool) (g r : ℕ) → r < g → (p && nat_le g r) ≡ false
    apart true g r h = grind (arith, nat_tests)
    apart false g r h = refl

alone : (reach end : ℕ) (a : Planned) (more : List Planned) → a.tick + reach < end → All (λ s. end ≤ s.tick) more → filtered reach (a ∷ more) ≡ a ∷ filtered reach more
alone reach end a [] near h = refl
alone reach end a (b ∷ more) near h = cond-at (cancel reach a b) false (filtered reach more) (a ∷ filtered reach (b ∷ more)) (far reach end a b near (h 0 b (omega arith)))

kept-last : (reach end : ℕ) (raw kept : List Planned) (a : Planned) → IsKeptOf reach end raw kept (a ∷ []) → a.tick + reach < end → IsKeptOf reach end raw (kept ++ a ∷ []) []
kept-last reach end raw kept a given near = record {
  whole = λ more h. given.whole more h ∙ ap (λ xs. kept ++ xs) (alone reach end a more near h) ∙ sym (append_assoc kept (a ∷ []) (filtered reach more));
}

-- spacing behind what was given
spaced-more : (base : ℕ) (xs : List Planned) (y : Planned) → spaced base (xs ++ y ∷ []) ≡ spaced base xs ++ record { tick = max y.tick (last_step_tick base (spaced base xs) + 4); up = y.up } ∷ []
spaced-more base [] y = refl
spaced-more base (x ∷ xs) y = ap (λ zs. record { tick = max x.tick (base + 4); up = x.up } ∷ zs) (spaced-more (max x.tick (base + 4)) xs y)

last-more : (base : ℕ) (xs : List Planned) (y : Planned) → last_step_tick base (xs ++ y ∷ []) ≡ y.tick
last-more base [] y = refl
last-more base (x ∷ xs) y = last-more x.tick xs y

next-of : (all : List Planned) (n : ℕ) → n < length all → drop n all ≡ get_or all n no_step ∷ drop (n + 1) all
next-of all n h = rw add-one (drop-cons all n no_step h)

rising-rest : (from : ℕ) (a : Planned) (xs : List Planned) → AreRising from (a ∷ xs) → AreRising 0 xs
rising-rest from a [] h = tt
rising-rest from a (x ∷ xs) h = (omega arith, h.1.1)

All-rest : (P : Planned → Type 0) (a : Planned) (xs : List Planned) → All P (a ∷ xs) → All P xs
All-rest P a xs h = λ k d l. h (suc k) d (omega arith)

-- a step is given
gives : (gear : Gear) (clocks : Clocks) (reach end last_end last : ℕ) (a : Planned) (waiting : List Planned) (base : ℕ) (segments : List Segment) (asked : ℕ) (out : List Planned) (t : ℕ) → (s : AreSteps gear clocks reach end last_end last (a ∷ waiting) base segments asked out) → IsKeptOf reach end (raw_steps gear clocks.first.freq segments) (s.kept ++ a ∷ []) waiting → is_due reach asked end a ≡ true → t ≡ max (lines_board clocks a.tick) (last + 4) → AreSteps gear clocks reach end last_end t waiting base segments asked (out ++ record { tick = t; up = a.up } ∷ [])
gives gear clocks reach end last_end last a waiting base segments asked out t s kept due is =
    let f = on_board clocks in
    let more : map f (s.kept ++ a ∷ []) ≡ map f s.kept ++ f a ∷ [] = map-append f s.kept (a ∷ []) in
    let same : max (lines_board clocks a.tick) (last_step_tick base (spaced base (map f s.kept)) + 4) ≡ t = ap (λ n. max (lines_board clocks a.tick) (n + 4)) (ap (last_step_tick base) (sym s.out_is) ∙ sym s.last_is) ∙ sym is in
    record {
      kept = s.kept ++ a ∷ [];
      reach_is = s.reach_is;
      kept_is = kept;
      out_is = ap (λ o. o ++ record { tick = t; up = a.up } ∷ []) s.out_is ∙ sym (ap (spaced base) more ∙ spaced-more base (map f s.kept) (f a) ∙ ap (λ n. spaced base (map f s.kept) ++ record { tick = n; up = a.up } ∷ []) same);
      last_is = sym (last-more base out (record { tick = t; up = a.up }));
      due = All-append (λ k. IsTrue (is_due reach asked end k)) s.kept (a ∷ []) s.due (All-cons (λ k. IsTrue (is_due reach asked end k)) a [] due (λ k d h. absurd (omega arith)));
      rising = rising-rest 0 a waiting s.rising;
      before = All-rest (λ k. k.tick ≤ last_end) a waiting s.before;
      end_from = s.end_from;
    }

pub give-one : (gear : Gear) (clocks : Clocks) (reach end last_end last next : ℕ) (all : List Planned) (a : Planned) (base : ℕ) (segments : List Segment) (asked : ℕ) (out : List Planned) (t : ℕ) → AreSteps gear clocks reach end last_end last (drop next all) base segments asked out → next < length all → a ≡ get_or all next no_step → is_due reach asked end a ≡ true → IsKept reach all next → t ≡ max (lines_board clocks a.tick) (last + 4) → AreSteps gear clocks reach end last_end t (drop (next + 1) all) base segments asked (out ++ record { tick = t; up = a.up } ∷ [])
give-one gear clocks reach end last_end last next all a base segments asked out t s inside is due kept t_is =
    let head : drop next all ≡ a ∷ drop (next + 1) all = rw is (next-of all next inside) in
    let at = rw head at s in
    let parts = and_parts (nat_lt a.tick asked) (nat_lt (a.tick + reach) end) due in
    elim (cases_lt (next + 1) (length all)) [
      | inl more ↦ (
          let two = next-of all (next + 1) more in
          let k = rw (← is) at (kept.keeps more) in
          let kept_is : IsKeptOf reach end (raw_steps gear clocks.first.freq segments) at.kept (a ∷ get_or all (next + 1) no_step ∷ drop (next + 1 + 1) all) = rw two at at.kept_is in
          let now = kept-next reach end (raw_steps gear clocks.first.freq segments) at.kept a (get_or all (next + 1) no_step) (drop (next + 1 + 1) all) kept_is k in
          gives gear clocks reach end last_end last a (drop (next + 1) all) base segments asked out t at (rw two now) due t_is)
      | inr over ↦ (
          let none : drop (next + 1) all ≡ [] = drop_all (next + 1) all over in
          let kept_is : IsKeptOf reach end (raw_steps gear clocks.first.freq segments) at.kept (a ∷ []) = rw none at at.kept_is in
          let now = kept-last reach end (raw_steps gear clocks.first.freq segments) at.kept a kept_is (ltb-true (a.tick + reach) end parts.1) in
          gives gear clocks reach end last_end last a (drop (next + 1) all) base segments asked out t at (rw none now) due t_is)
    ]

pub drop-two : (gear : Gear) (clocks : Clocks) (reach end last_end last next : ℕ) (all : List Planned) (base : ℕ) (segments : List Segment) (asked : ℕ) (out : List Planned) → AreSteps gear clocks reach end last_end last (drop next all) base segments asked out → IsDropped reach all next → AreSteps gear clocks reach end last_end last (drop (next + 2) all) base segments asked out
drop-two gear clocks reach end last_end last next all base segments asked out s dropped =
    let two = dropped.two in
    let head = next-of all next (omega arith) in
    let second = next-of all (next + 1) two in
    let e : next + 1 + 1 ≡ next + 2 = omega arith in
    let a = get_or all next no_step in
    let b = get_or all (next + 1) no_step in
    let rest = drop (next + 2) all in
    let at : AreSteps gear clocks reach end last_end last (a ∷ b ∷ rest) base segments asked out = rw e at (rw second at (rw head at s)) in
    record {
      kept = at.kept;
      reach_is = at.reach_is;
      kept_is = kept-drop reach end (raw_steps gear clocks.first.freq segments) at.kept a b rest at.kept_is dropped.cancels;
      out_is = at.out_is;
      last_is = at.last_is;
      due = at.due;
      rising = rising-rest 0 b rest (rising-rest 0 a (b ∷ rest) at.rising);
      before = All-rest (λ k. k.tick ≤ last_end) b rest (All-rest (λ k. k.tick ≤ last_end) a (b ∷ rest) at.before);
      end_from = at.end_from;
    }

-- what was due stays due
pub due-later : (reach asked until end end' : ℕ) (a : Planned) → asked ≤ until → end ≤ end' → is_due reach asked end a ≡ true → is_due reach until end' a ≡ true
due-later reach asked until end end' a up up' due =
    let parts = and_parts (nat_lt a.tick asked) (nat_lt (a.tick + reach) end) due in
    let one = ltb-true a.tick asked parts.0 in
    let two = ltb-true (a.tick + reach) end parts.1 in
    and_from (nat_lt a.tick until) (nat_lt (a.tick + reach) end') (lt-ltb a.tick until (omega arith)) (lt-ltb (a.tick + reach) end' (omega arith))

pub asked-later : (gear : Gear) (clocks : Clocks) (reach end last_end last : ℕ) (waiting : List Planned) (base : ℕ) (segments : List Segment) (asked until : ℕ) (out : List Planned) → asked ≤ until → AreSteps gear clocks reach end last_end last waiting base segments asked out → AreSteps gear clocks reach end last_end last waiting base segments until out
asked-later gear clocks reach end last_end last waiting base segments asked until out up s = record {
  kept = s.kept;
  reach_is = s.reach_is;
  kept_is = s.kept_is;
  out_is = s.out_is;
  last_is = s.last_is;
  due = λ k d h. due-later reach asked until end end (get_or s.kept k d) up (omega arith) (s.due k d h);
  rising = s.rising;
  before = s.before;
  end_from = s.end_from;
}

-- what waits is not due, where its first step is not
not-due : (reach until end : ℕ) (a b : Planned) → a.tick ≤ b.tick → is_due reach until end a ≡ false → is_due reach until end b ≡ false
not-due reach until end a b order late = elim (and_cases (nat_lt a.tick until) (nat_lt (a.tick + reach) end) late) [
  | inl one ↦ (let l = ltb-false a.tick until one in and_left (nat_lt b.tick until) (nat_lt (b.tick + reach) end) (le-ltb b.tick until (omega arith)))
  | inr two ↦ (let l = ltb-false (a.tick + reach) end two in and_right (nat_lt b.tick until) (nat_lt (b.tick + reach) end) (le-ltb (b.tick + reach) end (omega arith)))
]

pub rising-after : (from : ℕ) (xs : List Planned) → AreRising from xs → All (λ s. from ≤ s.tick) xs
rising-after from [] h = λ k d l. absurd (omega arith)
rising-after from (x ∷ xs) h = All-cons (λ s. from ≤ s.tick) x xs h.0 (λ k d l. (let r = rising-after x.tick xs h.1 k d l in let f = h.0 in omega arith))

taken-all : (p : Planned → Bool) (xs ys : List Planned) → All (λ x. IsTrue (p x)) xs → All (λ y. p y ≡ false) ys → take_while p (xs ++ ys) ≡ xs
taken-all p [] [] h k = refl
taken-all p [] (y ∷ ys) h k = let e = k 0 y (omega arith) in take_while-cons p y ys ∙ ap (λ b. cond b (y ∷ take_while p ys) []) e
taken-all p (x ∷ xs) ys h k = let e = h 0 x (omega arith) in take_while-cons p x (xs ++ ys) ∙ ap (λ b. cond b (x ∷ take_while p (xs ++ ys)) []) e ∙ ap (λ zs. x ∷ zs) (taken-all p xs ys (λ i d l. h (suc i) d (omega arith)) k)

pub late-all : (reach until end : ℕ) (all : List Planned) (next : ℕ) → AreRising 0 (drop next all) → (next < length all → is_due reach until end (get_or all next no_step) ≡ false) → All (λ s. is_due reach until end s ≡ false) (drop next all)
late-all reach until end all next rising late = elim (cases_lt next (length all)) [
  | inl inside ↦ (
      let a = get_or all next no_step in
      let head = next-of all next inside in
      let up = rising-after a.tick (drop (next + 1) all) (let r = rw head at rising in r.1) in
      rw head (All-cons (λ s. is_due reach until end s ≡ false) a (drop (next + 1) all) (late inside) (λ k d l. not-due reach until end a (get_or (drop (next + 1) all) k d) (up k d l) (late inside))))
  | inr over ↦ (let none : drop next all ≡ [] = drop_all next all over in rw none (λ k d l. absurd (omega arith)))
]

-- what waits is not before a tick that is long before the end of what is known
pub past-all : (reach until end : ℕ) (all : List Planned) (next : ℕ) → AreRising 0 (drop next all) → (next < length all → is_due reach until end (get_or all next no_step) ≡ false) → until + reach ≤ end → All (λ s. until ≤ s.tick) (drop next all)
past-all reach until end all next rising late room = λ k d l. (
    let s = get_or (drop next all) k d in
    elim (and_cases (nat_lt s.tick until) (nat_lt (s.tick + reach) end) (late-all reach until end all next rising late k d l)) [
      | inl one ↦ ltb-false s.tick until one
      | inr two ↦ (let f = ltb-false (s.tick + reach) end two in omega arith)
    ])

-- what was given is all that is due
pub exactly : (gear : Gear) (clocks : Clocks) (reach end last_end last next : ℕ) (all : List Planned) (base : ℕ) (segments : List Segment) (until : ℕ) (out : List Planned) → AreSteps gear clocks reach end last_end last (drop next all) base segments until out → (next < length all → is_due reach until end (get_or all next no_step) ≡ false) → out ≡ due_steps gear clocks segments base until end
exactly gear clocks reach end last_end last next all base segments until out s late =
    let raw = raw_steps gear clocks.first.freq segments in
    let waiting = drop next all in
    let p = is_due reach until end in
    let whole : filtered reach raw ≡ s.kept ++ filtered reach waiting = rw (append-nil raw, append-nil waiting) at (s.kept_is.whole [] (λ k d l. absurd (omega arith))) in
    let rest = filtered-All (λ q. p q ≡ false) reach waiting (late-all reach until end all next s.rising late) in
    let taken : take_while p (filtered reach raw) ≡ s.kept = ap (take_while p) whole ∙ taken-all p s.kept (filtered reach waiting) s.due rest in
    let is : take_while (is_due (cancel_reach clocks.first.freq) until end) (filtered (cancel_reach clocks.first.freq) raw) ≡ s.kept = rw (← s.reach_is) taken in
    s.out_is ∙ ap (λ ks. spaced base (map (on_board clocks) ks)) (sym is)

-- a line is added behind all that was asked for
pub same-on-board : (clocks : Clocks) (from : ℕ) (line : Line) (kept : List Planned) → All (λ k. k.tick < tick clocks.first from) kept → map (on_board (added clocks from line)) kept ≡ map (on_board clocks) kept
same-on-board clocks from line [] h = refl
same-on-board clocks from line (a ∷ kept) h =
    let e = board-added clocks from line a.tick (h 0 a (omega arith)) in
    let r = same-on-board clocks from line kept (λ k d l. h (suc k) d (omega arith)) in
    ap (λ n. record { tick = n; up = a.up } ∷ map (on_board (added clocks from line)) kept) e ∙ ap (λ ks. on_board clocks a ∷ ks) r

pub line-added : (gear : Gear) (clocks : Clocks) (from : ℕ) (line : Line) (reach end last_end last : ℕ) (waiting : List Planned) (base : ℕ) (segments : List Segment) (asked : ℕ) (out : List Planned) → asked ≤ tick clocks.first from → AreSteps gear clocks reach end last_end last waiting base segments asked out → AreSteps gear (added clocks from line) reach end last_end last waiting base segments asked out
line-added gear clocks from line reach end last_end last waiting base segments asked out up s = record {
  kept = s.kept;
  reach_is = s.reach_is;
  kept_is = s.kept_is;
  out_is = s.out_is ∙ ap (spaced base) (sym (same-on-board clocks from line s.kept (λ k d h. (
      let parts = and_parts (nat_lt (get_or s.kept k d).tick asked) (nat_lt ((get_or s.kept k d).tick + reach) end) (s.due k d h) in
      let l = ltb-true (get_or s.kept k d).tick asked parts.0 in
      omega arith))));
  last_is = s.last_is;
  due = s.due;
  rising = s.rising;
  before = s.before;
  end_from = s.end_from;
}
