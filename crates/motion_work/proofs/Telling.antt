-- Which lines fit, line by line.
use Rattle.std.proofs.Common.{◌≡◌, ℕ, zero, suc, ◌+◌, ◌*◌, ◌%◌, ◌<◌, ◌≤◌, ◌^◌, Bool, true, false, List, [], ◌∷◌, All, drop, get_or, length, map, refl, ap, sym, subst, ◌∙◌, arith, inl, inr}
use Rattle.std.proofs.lemmas.Bool.Decides.{eqb_tells, leb_tells}
use Rattle.std.proofs.lemmas.Bool.{cases_lt, le-ltb, lt-ltb}
use Rattle.std.proofs.lemmas.List.{drop_more, drop_all, get_or-map, length-map}
use Rattle.std.proofs.lemmas.List.Elements.{All-head, All-tail}
use Rattle.std.specs.Prelude.{◌&&◌, nat_eq, nat_le, Option, Some, None, if◌then◌else◌}
use Rattle.plan_types.specs.declared.machine.BoardDef.{BoardDef}
use Rattle.plan_types.specs.declared.plan.Line.{Line}
use Rattle.plan_types.specs.Clock.{turn_ns}
use Rattle.plan_types.specs.Lines.{Clocks, one_line}
use Rattle.plan_types.specs.declared.machine.Machine.{Machine}
use Rattle.plan_types.specs.Machines.{IsValidBoard, IsValidMachine, board_at, no_board}
use Rattle.plan_types.specs.Sections.{clocks_at}
use Rattle.msg_code.specs.declared.talk.WordMsg.{WordMsg}
use Rattle.msg_code.specs.declared.talk.WordNews.{WordNews}
use Rattle.msg_code.specs.declared.talk.WordNews.TheVariants as news
use Rattle.plan_types.specs.Valid.{IsValidLine}
use Rattle.section_feed.proofs.Lasts.{one-lasts}
use Rattle.motion_work.specs.Seen.{AreBoardClocks, AreClocks}
use Rattle.motion_work.specs.Told.{are_fit, first_told, is_fit, word_limit, clocks_in_news, told_in, told_of}
use Rattle.plan_types.proofs.Facts.{both_parts, false_true, and_false}

pub fit_lengths : (boards : List BoardDef) (turn : ℕ) (lines : List Line) → (length boards ≡ length lines → ⊥) → false ≡ are_fit boards turn lines
fit_lengths [] turn [] ne = absurd (ne refl)
fit_lengths [] turn (l ∷ lines) ne = refl
fit_lengths (b ∷ boards) turn [] ne = refl
fit_lengths (b ∷ boards) turn (l ∷ lines) ne =
    let later = fit_lengths boards turn lines (λ e. ne (ap suc e)) in
    sym (ap (λ x. is_fit b turn l && x) (sym later) ∙ and_false (is_fit b turn l))

same_at : {X : Type 0} (xs : List X) (i : ℕ) (d e : X) → i < length xs → get_or xs i d ≡ get_or xs i e
same_at [] i d e lt = absurd (omega (arith, lt))
same_at (x ∷ xs) zero d e lt = refl
same_at (x ∷ xs) (suc i) d e lt = same_at xs i d e (omega (arith, lt))

pub fit_next : (boards : List BoardDef) (turn : ℕ) (lines : List Line) (i : ℕ) (b : BoardDef) (l : Line) → length boards ≡ length lines → i < length boards → b ≡ get_or boards i b → l ≡ get_or lines i l
    → are_fit (drop i boards) turn (drop i lines) ≡ (is_fit b turn l && are_fit (drop (i + 1) boards) turn (drop (i + 1) lines))
fit_next boards turn lines i b l same lt b_is l_is =
    let bs : drop i boards ≡ b ∷ drop (i + 1) boards = rw (← b_is) at (drop_more boards i b lt) in
    let ls : drop i lines ≡ l ∷ drop (i + 1) lines = rw (← l_is) at (drop_more lines i l (omega (arith, lt, same))) in
    ap (λ x. are_fit x turn (drop i lines)) bs ∙ ap (λ x. are_fit (b ∷ drop (i + 1) boards) turn x) ls

pub fit_end : (boards : List BoardDef) (turn : ℕ) (lines : List Line) (i : ℕ) → length boards ≡ length lines → length boards ≤ i → are_fit (drop i boards) turn (drop i lines) ≡ true
fit_end boards turn lines i same over = ap (λ x. are_fit x turn (drop i lines)) (drop_all i boards over) ∙ ap (λ x. are_fit [] turn x) (drop_all i lines (omega (arith, over, same)))

-- what a line that fits is
pub record IsFitLine (b : BoardDef) (turn : ℕ) (l : Line) : Type 0 where
  pub valid : IsValidLine l
  pub freq : l.freq ≡ b.freq
  pub before : l.at ≤ turn * turn_ns

pub fit_is : (b : BoardDef) (turn : ℕ) (l : Line) → IsValidBoard b → turn < 2 ^ 61 → is_fit b turn l ≡ true → IsFitLine b turn l
fit_is b turn l board small e =
    let both = both_parts (nat_eq l.freq b.freq && nat_le l.at (turn * turn_ns)) (nat_eq (l.at % 1_000_000) 0) e in
    let one = both_parts (nat_eq l.freq b.freq) (nat_le l.at (turn * turn_ns)) both.0 in
    let freq : l.freq ≡ b.freq = elim (eqb_tells l.freq b.freq) [ inl p ↦ p.1 | inr p ↦ absurd (false_true (sym p.0 ∙ one.0)) ] in
    let before : l.at ≤ turn * turn_ns = elim (leb_tells l.at (turn * turn_ns)) [ inl p ↦ p.1 | inr p ↦ absurd (false_true (sym p.0 ∙ one.1)) ] in
    let whole : l.at % 1_000_000 ≡ 0 = elim (eqb_tells (l.at % 1_000_000) 0) [ inl p ↦ p.1 | inr p ↦ absurd (false_true (sym p.0 ∙ both.1)) ] in
    let f = board.freq in
    record {
      valid = record {
        freq_low = let h = f.low in omega (arith, h, freq);
        freq_high = let h = f.high in omega (arith, h, freq);
        freq_whole = ap (λ x. x % 1_000) freq ∙ f.whole;
        whole_turn = whole;
        few_turns = omega (arith, before, small);
      };
      freq = freq;
      before = before;
    }

pub fit_at : (boards : List BoardDef) (turn : ℕ) (lines : List Line) (d : BoardDef) (e : Line) → All IsValidBoard boards → turn < 2 ^ 61 → are_fit boards turn lines ≡ true → (length lines ≡ length boards) × ((b : ℕ) → b < length lines → IsFitLine (get_or boards b d) turn (get_or lines b e))
fit_at [] turn [] d e valid small h = (refl, λ b lt. absurd (omega (arith, lt)))
fit_at [] turn (l ∷ lines) d e valid small h = absurd (false_true h)
fit_at (b ∷ boards) turn [] d e valid small h = absurd (false_true h)
fit_at (b ∷ boards) turn (l ∷ lines) d e valid small h =
    let both = both_parts (is_fit b turn l) (are_fit boards turn lines) h in
    let here = fit_is b turn l (All-head IsValidBoard b boards valid) small both.0 in
    let later = fit_at boards turn lines d e (All-tail IsValidBoard b boards valid) small both.1 in
    (ap suc later.0, each here later.1)
  where
    each : IsFitLine b turn l → ((k : ℕ) → k < length lines → IsFitLine (get_or boards k d) turn (get_or lines k e)) → (k : ℕ) → k < length (l ∷ lines) → IsFitLine (get_or (b ∷ boards) k d) turn (get_or (l ∷ lines) k e)
    each here later zero lt = here
    each here later (suc k) lt = later k (omega (arith, lt))

-- the clock lines that a word tells
some_is : (x y : List Clocks) → Some x ≡ Some y → x ≡ y
some_is x y e = cc

no_clocks : (x : List Clocks) → None ≡ Some x → ⊥
no_clocks x e = cc

lines_are : (m : Machine) (turn ready : ℕ) (lines : List Line) (clocks : List Clocks) → IsValidMachine m → turn < 2 ^ 61 → turn ≤ ready → are_fit m.boards turn lines ≡ true → map one_line lines ≡ clocks → AreClocks m clocks ready
lines_are m turn ready lines clocks valid small le fit is =
    let none : Line = record { at = 0; clock = 0; freq = 0 } in
    let all = fit_at m.boards turn lines no_board none valid.boards small fit in
    let at : (b : ℕ) → b < length m.boards → clocks_at clocks b ≡ one_line (get_or lines b none) = λ b lt. sym (ap (λ x. clocks_at x b) is) ∙ get_or-map one_line lines b none (one_line none) (let count = all.0 in omega (arith, lt, count)) in
    let fits : (b : ℕ) → b < length m.boards → IsFitLine (board_at m b) turn (get_or lines b none) = λ b lt. all.1 b (let count = all.0 in omega (arith, lt, count)) in
    record {
      count = sym (ap length is) ∙ length-map lines one_line ∙ all.0;
      valid = λ b lt. subst (λ x. IsValidLine x.first) (sym (at b lt)) (fits b lt).valid;
      alone = λ b lt. ap (λ (x : Clocks). x.held) (at b lt);
      freq = λ b lt. ap (λ (x : Clocks). x.first.freq) (at b lt) ∙ (fits b lt).freq;
      before = λ b lt. let e = ap (λ (x : Clocks). x.first.at) (at b lt) in let h = (fits b lt).before in omega (arith, e, h, le);
    }

told_by_are : (m : Machine) (turn ready : ℕ) (n : WordNews) (clocks : List Clocks) → IsValidMachine m → turn < 2 ^ 61 → turn ≤ ready → clocks_in_news m turn n ≡ Some clocks → AreClocks m clocks ready
told_by_are m turn ready (news.Lines lines) clocks valid small le e = by_fit (are_fit m.boards turn lines) refl e where
  by_fit : (f : Bool) → are_fit m.boards turn lines ≡ f → (if f then Some (map one_line lines) else None) ≡ Some clocks → AreClocks m clocks ready
  by_fit true fit is = lines_are m turn ready lines clocks valid small le fit (some_is (map one_line lines) clocks is)
  by_fit false fit is = absurd (no_clocks clocks is)
told_by_are m turn ready other clocks valid small le e = absurd (no_clocks clocks e)

pub told_in_are : (m : Machine) (turn ready : ℕ) (ns : List WordNews) (clocks : List Clocks) → IsValidMachine m → turn < 2 ^ 61 → turn ≤ ready → told_in m turn ns ≡ Some clocks → AreClocks m clocks ready
told_in_are m turn ready [] clocks valid small le e = absurd (no_clocks clocks e)
told_in_are m turn ready (n ∷ ns) clocks valid small le e = by_first (clocks_in_news m turn n) refl e (λ h. told_in_are m turn ready ns clocks valid small le h) where
  by_first : (o : Option (List Clocks)) → clocks_in_news m turn n ≡ o → first_told o (told_in m turn ns) ≡ Some clocks → (told_in m turn ns ≡ Some clocks → AreClocks m clocks ready) → AreClocks m clocks ready
  by_first None is h later = later h
  by_first (Some x) is h later = told_by_are m turn ready n clocks valid small le (is ∙ ap Some (some_is x clocks h))

pub told_of_are : (m : Machine) (w : WordMsg) (clocks : List Clocks) (ready : ℕ) → IsValidMachine m → w.turn ≤ ready → told_of m w ≡ Some clocks → (w.turn < word_limit) × AreClocks m clocks ready
told_of_are m w clocks ready valid le e = elim (cases_lt w.turn word_limit) [
  | inl lt ↦
      let h : told_in m w.turn w.news ≡ Some clocks = sym (ap (λ x. if x then told_in m w.turn w.news else None) (lt-ltb w.turn word_limit lt)) ∙ e in
      (lt, told_in_are m w.turn ready w.news clocks valid (omega (arith, lt)) le h)
  | inr ge ↦ absurd (no_clocks clocks (sym (ap (λ x. if x then told_in m w.turn w.news else None) (le-ltb w.turn word_limit ge)) ∙ e))
]

-- boards that have one line each have lines by which sections may go on
pub board_clocks : (m : Machine) (clocks : List Clocks) (ready : ℕ) → AreClocks m clocks ready → AreBoardClocks m clocks ready
board_clocks m clocks ready h = record {
  count = h.count;
  valid = h.valid;
  lasting = λ b lt early. one-lasts (clocks_at clocks b) (h.valid b lt) (h.alone b lt) early;
  freq = h.freq;
  before = h.before;
}
