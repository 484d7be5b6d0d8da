-- Where a line is taken up none that waits is left out.
use Rattle.std.proofs.Common.{◌≡◌, ◌⊎◌, ℕ, ◌+◌, ◌-◌, ◌≤◌, List, [], ◌∷◌, ◌++◌, All, length, take, get_or, refl, sym, ap, subst, ◌∙◌, arith, inl, inr}
use Rattle.std.proofs.lemmas.Bool.{cases_eq, cases_lt}
use Rattle.std.proofs.lemmas.List.{get_or-take, get_or_default, length-take}
use Rattle.msg_code.specs.declared.talk.NoteNews.{NoteNews}
use Rattle.msg_code.specs.declared.talk.NoteNews.TheVariants as news
use Rattle.plan_types.specs.declared.machine.Machine.{Machine}
use Rattle.plan_types.specs.declared.plan.Line.{Line}
use Rattle.plan_types.specs.Lines.{Clocks}
use Rattle.plan_types.specs.Sections.{clocks_at}
use Rattle.section_feed.specs.Boards.{MayTake}
use Rattle.section_feed.specs.Lined.{line_at}
use Rattle.section_feed.proofs.Staying.{other-line}
use Rattle.motion_work.specs.declared.told.BoardLine.{BoardLine}
use Rattle.motion_stream.specs.Uptakes.{IsNotLost, TakesMore, TellsOf}

-- what some news tell, more of them tell
pub tells_front : (b : ℕ) (xs ys : List NoteNews) → TellsOf b xs → TellsOf b (xs ++ ys)
tells_front b [] ys t = absurd t
tells_front b (news.Start section kind turn last moving ∷ xs) ys t = tells_front b xs ys t
tells_front b (news.Done section turn ∷ xs) ys t = tells_front b xs ys t
tells_front b (news.Read end sections ∷ xs) ys t = tells_front b xs ys t
tells_front b (news.Line board line from ∷ xs) ys (inl e) = inl e
tells_front b (news.Line board line from ∷ xs) ys (inr t) = inr (tells_front b xs ys t)

pub tells_back : (b : ℕ) (xs ys : List NoteNews) → TellsOf b ys → TellsOf b (xs ++ ys)
tells_back b [] ys t = t
tells_back b (news.Start section kind turn last moving ∷ xs) ys t = tells_back b xs ys t
tells_back b (news.Done section turn ∷ xs) ys t = tells_back b xs ys t
tells_back b (news.Read end sections ∷ xs) ys t = tells_back b xs ys t
tells_back b (news.Line board line from ∷ xs) ys t = inr (tells_back b xs ys t)

-- nothing was taken up
pub none_more : (clocks : List Clocks) (ns : List NoteNews) → TakesMore clocks clocks ns ns
none_more clocks ns = record { stay = λ b t. t; same = λ b. inr refl }

-- a line was
pub one_more : (old new : List Clocks) (b turn from : ℕ) (line : Line) (before told : List NoteNews) → told ≡ before ++ news.Line b line from ∷ [] → new ≡ line_at old b turn line → TakesMore old new before told
one_more old new b turn from line before told is each = record {
  stay = λ a t. subst (TellsOf a) (sym is) (tells_front a before (news.Line b line from ∷ []) t);
  same = λ a. elim (cases_eq a b) as (λ _. TellsOf a told ⊎ (clocks_at new a ≡ clocks_at old a)) [
    | inl e ↦ inl (subst (TellsOf a) (sym is) (tells_back a before (news.Line b line from ∷ []) (inl (sym e))))
    | inr other ↦ inr (ap (λ (cs : List Clocks). clocks_at cs a) each ∙ other-line old b a turn line other)
  ];
}

pub told_more : (b from : ℕ) (line : Line) (before told : List NoteNews) → told ≡ before ++ news.Line b line from ∷ [] → TellsOf b told
told_more b from line before told is = subst (TellsOf b) (sym is) (tells_back b before (news.Line b line from ∷ []) (inl refl))

-- one behind the other
pub both_more : (old mid new : List Clocks) (one two three : List NoteNews) → TakesMore old mid one two → TakesMore mid new two three → TakesMore old new one three
both_more old mid new one two three a c = record {
  stay = λ b t. c.stay b (a.stay b t);
  same = λ b. elim (c.same b) [
    | inl t ↦ inl t
    | inr e ↦ elim (a.same b) [ inl t ↦ inl (c.stay b t) | inr d ↦ inr (e ∙ d) ]
  ];
}

-- a line that was not lost of some that were left, is none behind what was taken up before
pub left_more : (m : Machine) (old mid new : List Clocks) (k : ℕ) (one two three : List NoteNews) (l : BoardLine) → TakesMore old mid one two → TakesMore mid new two three → IsNotLost m mid k three l → IsNotLost m old k three l
left_more m old mid new k one two three l a c kept low may = elim (a.same l.board) [
  | inl t ↦ c.stay l.board t
  | inr e ↦ kept low (subst (λ (x : Clocks). MayTake x (k + 277) l.line) (sym e) may)
]

-- all but the last, and the last
pub all_last : {A : Type 0} (P : A → Type 0) (xs : List A) (e : A) → 1 ≤ length xs → All P (take (length xs - 1) xs) → P (get_or xs (length xs - 1) e) → All P xs
all_last P xs e some front last = λ i d lt. elim (cases_lt i (length xs - 1)) as (λ _. P (get_or xs i d)) [
  | inl less ↦ (let n = length-take (length xs - 1) xs in subst P (get_or-take (length xs - 1) xs i d less) (front i d (omega (arith, n, less))))
  | inr over ↦ (let same : length xs - 1 ≡ i = omega (arith, over, lt, some) in subst P (ap (λ n. get_or xs n e) same ∙ get_or_default xs i e d lt) last)
]

-- so of the lines that wait, of which the last one is taken up first
pub each_left : (m : Machine) (old mid new : List Clocks) (k : ℕ) (one two three : List NoteNews) (waiting : List BoardLine) (e : BoardLine) → 1 ≤ length waiting → TakesMore old mid one two → TakesMore mid new two three
    → IsNotLost m old k two (get_or waiting (length waiting - 1) e) → All (IsNotLost m mid k three) (take (length waiting - 1) waiting) → All (IsNotLost m old k three) waiting
each_left m old mid new k one two three waiting e some a c last front =
    all_last (IsNotLost m old k three) waiting e some
    (λ i d lt. left_more m old mid new k one two three (get_or (take (length waiting - 1) waiting) i d) a c (front i d lt))
    (λ low may. c.stay (get_or waiting (length waiting - 1) e).board (last low may))

-- so where more is told before it
pub leaves_behind : (m : Machine) (clocks : List Clocks) (k : ℕ) (further told xs ys zs : List NoteNews) (lines : List BoardLine) → told ≡ xs ++ (ys ++ (zs ++ further)) → All (IsNotLost m clocks k further) lines → All (IsNotLost m clocks k told) lines
leaves_behind m clocks k further told xs ys zs lines is none = λ i d lt low one.
    let b = (get_or lines i d).board in
    subst (TellsOf b) (sym is) (tells_back b xs (ys ++ (zs ++ further)) (tells_back b ys (zs ++ further) (tells_back b zs further (none i d lt low one))))
