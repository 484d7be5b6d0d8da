-- The further lines that notes tell, with the turns from which on they hold.
use Rattle.std.proofs.Common.{◌≡◌, ℕ, suc, zero, ◌+◌, ◌*◌, ◌<◌, ◌≤◌, List, [], ◌∷◌, ◌++◌, length, map, refl, ap, sym, ◌∙◌, subst, arith, inl, inr, append-nil}
use Rattle.laws_board.proofs.Names.{leb_tells, length-map, Machine, Held, Line, turn_ns, Clocks, clocks_at, NoteNews, Started, MotionTurn}
use Rattle.msg_code.specs.declared.talk.NoteNews.TheVariants as news
use Rattle.motion_work.specs.Further.{AreFurther, noted_lines}
use Rattle.motion_work.specs.Puts.{ArePut, IsPut, Put, begun_notes}
use Rattle.motion_work.specs.Turns.{done_notes}
use Rattle.laws_board.specs.plans.Planned.{put_of, puts_of}
use Rattle.laws_run.proofs.run_headline.Further.{EachHeld, EachTold, noted_grown, noted_long, told_both, told_more}
use Rattle.laws_run.proofs.run_headline.Noting.{none_begun, none_done, none_read}
use Rattle.laws_run.proofs.run_headline.Words.{news_in}
use Rattle.motion_work.specs.Known.{held_by, lines_by}
use Rattle.laws_homing.proofs.home_parts.Held.{clocks_by}

-- From a turn on a further line holds that a note of some turns tells.
abbrev pub IsNotedIn : ℕ → ℕ → ℕ → Type 0
IsNotedIn low high from = (j : ℕ) × (low ≤ j) × (j < high) × (from ≡ (j + 277) * turn_ns)

noted_wide : (low high least most from : ℕ) → least ≤ low → high ≤ most → IsNotedIn low high from → IsNotedIn least most from
noted_wide low high least most from below above x = (let a = x.1 in let c = x.2 in (x.0, omega (arith, below, a), omega (arith, above, c), x.3))

further_in : (k : ℕ) (ns : List NoteNews) → AreFurther k ns → EachTold (λ board line from. IsNotedIn k (k + 1) from) ns
further_in k [] a = tt
further_in k (news.Line board line from ∷ ns) a = ((k, omega arith, omega arith, a.0), further_in k ns a.1)
further_in k (news.Start section kind turn last moving ∷ ns) a = absurd a
further_in k (news.Done section turn ∷ ns) a = absurd a
further_in k (news.Read end sections ∷ ns) a = absurd a

pub put_in : (m : Machine) (text : List ℕ) (begun : List Started) (k : ℕ) (p : Put) → IsPut m text begun k p → EachTold (λ board line from. IsNotedIn k (k + 1) from) p.note.news
put_in m text begun k p is =
    let In : ℕ → Line → ℕ → Type 0 = λ board line from. IsNotedIn k (k + 1) from in
    subst (EachTold In) (sym is.news_are)
    (told_both In (done_notes k 0 begun) (begun_notes k 0 begun ++ (is.read ++ is.further)) (none_done In k 0 begun)
    (told_both In (begun_notes k 0 begun) (is.read ++ is.further) (none_begun In k 0 begun) (told_both In is.read is.further (none_read In m text is.read is.is_read) (further_in k is.further is.are_further))))

-- the lines that the notes of turns tell
pub all_in : (m : Machine) (text : List ℕ) (begun : List Started) (k : ℕ) (ms : List MotionTurn) → ArePut m text begun k (puts_of ms) → EachTold (λ board line from. IsNotedIn k (k + length ms) from) (news_in ms)
all_in m text begun k [] put = tt
all_in m text begun k (d ∷ ms) put =
    let In : ℕ → Line → ℕ → Type 0 = λ board line from. IsNotedIn k (k + length (d ∷ ms)) from in
    told_both In d.note.news (news_in ms)
    (told_more (λ board line from. IsNotedIn k (k + 1) from) In d.note.news (λ board line from x. noted_wide k (k + 1) k (k + length (d ∷ ms)) from (omega arith) (omega arith) x) (put_in m text begun k (put_of d) put.0))
    (told_more (λ board line from. IsNotedIn (k + 1) (k + 1 + length ms) from) In (news_in ms)
    (λ board line from x. noted_wide (k + 1) (k + 1 + length ms) k (k + length (d ∷ ms)) from (omega arith) (omega arith) x) (all_in m text begun (k + 1) ms put.1))

-- the lines of boards that hold by the beginning of a turn, where the others are told by some news
all_by : (n : ℕ) (held : List Held) → EachHeld (λ line from. from ≤ n * turn_ns) held → held_by n held ≡ held
all_by n [] a = refl
all_by n (h ∷ held) a = elim (leb_tells (suc (n * turn_ns)) h.from) [
  | inl p ↦ absurd (let early = a.0 in let late = p.1 in omega (arith, early, late))
  | inr p ↦ rw p.0 (ap (λ hs. h ∷ hs) (all_by n held a.1))
]

none_by : (n : ℕ) (held : List Held) → EachHeld (λ line from. n * turn_ns < from) held → held_by n held ≡ []
none_by n [] a = refl
none_by n (h ∷ held) a = elim (leb_tells (suc (n * turn_ns)) h.from) [
  | inl p ↦ rw p.0 (none_by n held a.1)
  | inr p ↦ absurd (let late = a.0 in let early = p.1 in omega (arith, early, late))
]

by_both : (n : ℕ) (xs ys : List Held) → held_by n (xs ++ ys) ≡ held_by n xs ++ held_by n ys
by_both n [] ys = refl
by_both n (x ∷ xs) ys = elim (leb_tells (suc (n * turn_ns)) x.from) [ inl p ↦ rw p.0 (by_both n xs ys) | inr p ↦ rw p.0 (ap (λ hs. x ∷ hs) (by_both n xs ys)) ]

same_clocks : (x y : Clocks) → x.first ≡ y.first → x.held ≡ y.held → x ≡ y
same_clocks x y first held = ap (λ (l : Line). record { first = l; held = x.held }) first ∙ ap (λ (hs : List Held). record { first = y.first; held = hs }) held

same_lists : (xs ys : List Clocks) → length xs ≡ length ys → ((b : ℕ) → b < length xs → clocks_at xs b ≡ clocks_at ys b) → xs ≡ ys
same_lists [] [] long same = refl
same_lists [] (y ∷ ys) long same = absurd (omega (arith, long))
same_lists (x ∷ xs) [] long same = absurd (omega (arith, long))
same_lists (x ∷ xs) (y ∷ ys) long same =
    let here : x ≡ y = same zero (omega arith) in
    ap (λ z. z ∷ xs) here ∙ ap (λ zs. y ∷ zs) (same_lists xs ys (omega (arith, long)) (λ b low. same (suc b) (omega (arith, low))))

pub lines_cut : (n : ℕ) (ns : List NoteNews) (clocks : List Clocks) → ((b : ℕ) → b < length clocks → EachHeld (λ line from. from ≤ n * turn_ns) (clocks_at clocks b).held) → EachTold (λ board line from. n * turn_ns < from) ns
    → clocks ≡ map (lines_by n) (noted_lines ns clocks)
lines_cut n ns clocks early late =
    let all = noted_lines ns clocks in
    same_lists clocks (map (lines_by n) all) (sym (length-map all (lines_by n) ∙ noted_long ns clocks)) (λ b low.
    let old = clocks_at clocks b in
    let g = noted_grown (λ board line from. n * turn_ns < from) ns clocks b low late in
    let held : held_by n (clocks_at all b).held ≡ old.held =
    ap (held_by n) g.held ∙ by_both n old.held g.more ∙ ap (λ hs. hs ++ held_by n g.more) (all_by n old.held (early b low)) ∙ ap (λ hs. old.held ++ hs) (none_by n g.more g.each) ∙ append-nil old.held in
    same_clocks old (lines_by n (clocks_at all b)) (sym g.first) (sym held) ∙ sym (clocks_by n all b))

-- the further lines of each board so far were told by notes of turns before one
abbrev pub WereNoted : ℕ → List Clocks → Type 0
WereNoted k clocks = (b : ℕ) → b < length clocks → EachHeld (λ line from. IsNotedIn 0 k from) (clocks_at clocks b).held

pub each_more : (P Q : Line → ℕ → Type 0) (held : List Held) → ((line : Line) (from : ℕ) → P line from → Q line from) → EachHeld P held → EachHeld Q held
each_more P Q [] f a = tt
each_more P Q (h ∷ held) f a = (f h.line h.from a.0, each_more P Q held f a.1)

each_both : (P : Line → ℕ → Type 0) (xs ys : List Held) → EachHeld P xs → EachHeld P ys → EachHeld P (xs ++ ys)
each_both P [] ys a b = b
each_both P (x ∷ xs) ys a b = (a.0, each_both P xs ys a.1 b)

pub noted_next : (k : ℕ) (ns : List NoteNews) (clocks : List Clocks) → EachTold (λ board line from. IsNotedIn k (k + 1) from) ns → WereNoted k clocks → WereNoted (k + 1) (noted_lines ns clocks)
noted_next k ns clocks told were = λ b low.
    let long = noted_long ns clocks in
    let inside : b < length clocks = omega (arith, low, long) in
    let Old : Line → ℕ → Type 0 = λ line from. IsNotedIn 0 k from in
    let New : Line → ℕ → Type 0 = λ line from. IsNotedIn 0 (k + 1) from in
    let g = noted_grown (λ board line from. IsNotedIn k (k + 1) from) ns clocks b inside told in
    let more = each_more (λ line from. IsNotedIn k (k + 1) from) New g.more (λ line from x. noted_wide k (k + 1) 0 (k + 1) from (omega arith) (omega arith) x) g.each in
    let old = each_more Old New (clocks_at clocks b).held (λ line from x. noted_wide 0 k 0 (k + 1) from (omega arith) (omega arith) x) (were b inside) in
    subst (EachHeld New) (sym g.held) (each_both New (clocks_at clocks b).held g.more old more)
