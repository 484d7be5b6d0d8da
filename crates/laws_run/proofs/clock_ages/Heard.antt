-- What the words of some turns tell of a board's clock.
use Rattle.std.proofs.Common.{◌≡◌, ◌⊎◌, ℕ, zero, suc, ◌+◌, ◌<◌, ◌≤◌, Bool, true, false, List, [], ◌∷◌, ◌++◌, All, map, max, length, Option, Some, None, refl, ap, sym, ◌∙◌, subst, arith, inl, inr}
use Rattle.std.specs.Prelude.{nat_lt, if◌then◌else◌}
use Rattle.laws_board.proofs.Names.{eqb_tells, All-head, All-tail, BoardClock, Machine, Line, Clocks, one_line, clocks_at, NoteNews, WordMsg, Told}
use Rattle.plan_types.specs.Sections.{first_start}
use Rattle.msg_code.specs.declared.talk.NoteNews.TheVariants as news
use Rattle.msg_code.specs.declared.talk.WordNews.{WordNews}
use Rattle.msg_code.specs.declared.talk.WordNews.TheVariants as word
use Rattle.report_text.specs.declared.line.ReportLine.TheVariants as report
use Rattle.host_reactor.specs.Report.{drift_lines, turn_at}
use Rattle.laws_board.specs.turns.Turns.{BoardTurn}
use Rattle.motion_work.specs.declared.told.BoardLine.{BoardLine}
use Rattle.motion_work.specs.Further.{WasHeard}
use Rattle.motion_work.specs.Told.{are_fit, first_told, heard, lines_in, told_at, clocks_in_news, told_in, told_of}
use Rattle.motion_work.specs.Told.{word_limit as last_word}
use Rattle.motion_stream.specs.Uptakes.{TellsOf}
use Rattle.laws_board.specs.plans.Lines.{drifts_of}
use Rattle.motion_stream.specs.Motions.{lines_kept}
use Rattle.laws_board.specs.plans.Planned.{fresh_in, connecting_heard}
use Rattle.laws_run.proofs.clock_ages.Saying.{IsNew, TellFirst, TellNew, TellsIn}
use Rattle.laws_run.proofs.run_headline.Noting.{heard_either}
use Rattle.laws_board.proofs.plans.Planning.{heard_some}

-- the further clock lines that some words tell
abbrev pub lines_heard : List WordMsg → List BoardLine
lines_heard [] = []
lines_heard (w ∷ ws) = lines_in w.news ++ lines_heard ws

-- words one behind the other
pub tells_either : (b from to j n : ℕ) (xs ys : List WordMsg) → j + length xs ≡ n → TellsIn b from to j (xs ++ ys) → TellsIn b from to j xs ⊎ TellsIn b from to n ys
tells_either b from to j n [] ys e h = let same : j ≡ n = omega (arith, e) in inr (subst (λ (k : ℕ). TellsIn b from to k ys) same h)
tells_either b from to j n (x ∷ xs) ys e (inl h) = inl (inl h)
tells_either b from to j n (x ∷ xs) ys e (inr h) = elim (tells_either b from to (j + 1) n xs ys (omega (arith, e)) h) [ inl a ↦ inl (inr a) | inr a ↦ inr a ]

pub new_parts : (clock : BoardClock) (turns : List BoardTurn) (b j n : ℕ) (xs ys : List WordMsg) → j + length xs ≡ n → TellNew clock turns b j (xs ++ ys) → TellNew clock turns b j xs × TellNew clock turns b n ys
new_parts clock turns b j n [] ys e h = let same : j ≡ n = omega (arith, e) in (tt, subst (λ (k : ℕ). TellNew clock turns b k ys) same h)
new_parts clock turns b j n (x ∷ xs) ys e h = let r = new_parts clock turns b (j + 1) n xs ys (omega (arith, e)) h.1 in ((h.0, r.0), r.1)

pub first_parts : (m : Machine) (ended j n : ℕ) (xs ys : List WordMsg) → j + length xs ≡ n → TellFirst m ended j (xs ++ ys) → TellFirst m ended j xs × TellFirst m ended n ys
first_parts m ended j n [] ys e h = let same : j ≡ n = omega (arith, e) in (tt, subst (λ (k : ℕ). TellFirst m ended k ys) same h)
first_parts m ended j n (x ∷ xs) ys e h = let r = first_parts m ended (j + 1) n xs ys (omega (arith, e)) h.1 in ((h.0, r.0), r.1)

-- words before a number, or from another on, tell nothing in between
pub none_low : (b from to j : ℕ) (ws : List WordMsg) → j + length ws ≤ from → TellsIn b from to j ws → ⊥
none_low b from to j [] low h = h
none_low b from to j (w ∷ ws) low (inl h) = let late = h.0 in absurd (omega (arith, low, late))
none_low b from to j (w ∷ ws) low (inr h) = none_low b from to (j + 1) ws (omega (arith, low)) h

pub none_high : (b from to j : ℕ) (ws : List WordMsg) → to ≤ j → TellsIn b from to j ws → ⊥
none_high b from to j [] high h = h
none_high b from to j (w ∷ ws) high (inl h) = let soon = h.1 in absurd (omega (arith, high, soon))
none_high b from to j (w ∷ ws) high (inr h) = none_high b from to (j + 1) ws (omega (arith, high)) h

-- a line that one of some words tells, with the number of the word
heard_left : (b : ℕ) (line : Line) (xs ys : List BoardLine) → WasHeard b line xs → WasHeard b line (xs ++ ys)
heard_left b line [] ys h = absurd h
heard_left b line (x ∷ xs) ys (inl e) = inl e
heard_left b line (x ∷ xs) ys (inr h) = inr (heard_left b line xs ys h)

heard_right : (b : ℕ) (line : Line) (xs ys : List BoardLine) → WasHeard b line ys → WasHeard b line (xs ++ ys)
heard_right b line [] ys h = h
heard_right b line (x ∷ xs) ys h = inr (heard_right b line xs ys h)

pub record IsNewIn (clock : BoardClock) (turns : List BoardTurn) (low high : ℕ) (line : Line) : Type 0 where
  pub number : ℕ
  pub late : low ≤ number
  pub soon : number < high
  pub new : IsNew clock turns number line

-- a word from a number on tells one
pub told_line : (clock : BoardClock) (turns : List BoardTurn) (b from to j : ℕ) (ws : List WordMsg) → TellNew clock turns b j ws → TellsIn b from to j ws
    → (line : Line) × WasHeard b line (lines_heard ws) × (x : IsNewIn clock turns j (j + length ws) line) × (from ≤ x.number)
told_line clock turns b from to j [] new h = absurd h
told_line clock turns b from to j (w ∷ ws) new (inl h) =
    let line = h.2.0 in
    let late = h.0 in
    (line, heard_left b line (lines_in w.news) (lines_heard ws) h.2.1, record { number = j; late = omega arith; soon = omega arith; new = new.0 line h.2.1 }, late)
told_line clock turns b from to j (w ∷ ws) new (inr h) =
    let r = told_line clock turns b from to (j + 1) ws new.1 h in
    let x = r.2 in
    let late = x.late in
    let soon = x.soon in
    (r.0, heard_right b r.0 (lines_in w.news) (lines_heard ws) r.1, record { number = x.number; late = omega (arith, late); soon = omega (arith, soon); new = x.new }, r.3)

-- a line that was heard is new
pub heard_line : (clock : BoardClock) (turns : List BoardTurn) (b j : ℕ) (line : Line) (ws : List WordMsg) → TellNew clock turns b j ws → WasHeard b line (lines_heard ws) → IsNewIn clock turns j (j + length ws) line
heard_line clock turns b j line [] new h = absurd h
heard_line clock turns b j line (w ∷ ws) new h = elim (heard_either b line (lines_in w.news) (lines_heard ws) h) [
  | inl a ↦ record { number = j; late = omega arith; soon = omega arith; new = new.0 line a }
  | inr a ↦
      let x = heard_line clock turns b (j + 1) line ws new.1 a in
      let late = x.late in
      let soon = x.soon in
      record { number = x.number; late = omega (arith, late); soon = omega (arith, soon); new = x.new }
]

-- what holds of all lines that were heard
abbrev its_line : ℕ → Line → BoardLine
its_line b line = record { board = b; line = line }

pub heard_all : (P : BoardLine → Type 0) (b : ℕ) (line : Line) (ls : List BoardLine) → All P ls → WasHeard b line ls → P (its_line b line)
heard_all P b line [] a h = absurd h
heard_all P b line (l ∷ ls) a (inl e) =
    let one : its_line l.board l.line ≡ its_line b l.line = ap (λ (n : ℕ). its_line n l.line) e.0 in
    let two : its_line b l.line ≡ its_line b line = ap (λ (x : Line). its_line b x) e.1 in
    subst P (one ∙ two) (All-head P l ls a)
heard_all P b line (l ∷ ls) a (inr h) = heard_all P b line ls (All-tail P l ls a) h

-- behind connecting all lines are kept that words tell
pub fresh_heard : (m : Machine) (k : ℕ) (ws : List WordMsg) (t : Told) → fresh_in m k ws (Some t) ≡ lines_heard ws
fresh_heard m k [] t = refl
fresh_heard m k (w ∷ ws) t = ap (λ (ls : List BoardLine). lines_in w.news ++ ls) (fresh_heard m k ws t)

-- and none others are
kept_heard : (b : ℕ) (line : Line) (told : Option Told) (ls : List BoardLine) → WasHeard b line (lines_kept told ls) → WasHeard b line ls
kept_heard b line None ls h = absurd h
kept_heard b line (Some t) ls h = h

pub fresh_among : (m : Machine) (k b : ℕ) (line : Line) (ws : List WordMsg) (told : Option Told) → WasHeard b line (fresh_in m k ws told) → WasHeard b line (lines_heard ws)
fresh_among m k b line [] told h = absurd h
fresh_among m k b line (w ∷ ws) told h = elim (heard_either b line (lines_kept (heard m k w told) (lines_in w.news)) (fresh_in m k ws (heard m k w told)) h) [
  | inl a ↦ heard_left b line (lines_in w.news) (lines_heard ws) (kept_heard b line (heard m k w told) (lines_in w.news) a)
  | inr a ↦ heard_right b line (lines_in w.news) (lines_heard ws) (fresh_among m k b line ws (heard m k w told) a)
]

-- news that tell a line of a board have one in the report
pub tells_drift : (b : ℕ) (ns : List NoteNews) → TellsOf b ns → drifts_of b (drift_lines ns) ≡ [] → ⊥
tells_drift b [] h e = h
tells_drift b (news.Start section kind turn last moving ∷ ns) h e = tells_drift b ns h e
tells_drift b (news.Done section turn ∷ ns) h e = tells_drift b ns h e
tells_drift b (news.Read end sections ∷ ns) h e = tells_drift b ns h e
tells_drift b (news.Line board line from ∷ ns) h e = elim (eqb_tells board b) [
  | inl p ↦
      let own : (report.Drift board (turn_at line.at) line.clock from ∷ drifts_of b (drift_lines ns)) ≡ [] = subst (λ (t : Bool). ((if t then report.Drift board (turn_at line.at) line.clock from ∷ [] else []) ++ drifts_of b (drift_lines ns)) ≡ []) p.0 e in
      cc
  | inr p ↦
      let rest : drifts_of b (drift_lines ns) ≡ [] = subst (λ (t : Bool). ((if t then report.Drift board (turn_at line.at) line.clock from ∷ [] else []) ++ drifts_of b (drift_lines ns)) ≡ []) p.0 e in
      other (λ x. tells_drift b ns x rest) p.1 h
]
  where
    other : (TellsOf b ns → ⊥) → (board ≡ b → ⊥) → (board ≡ b) ⊎ TellsOf b ns → ⊥
    other none not (inl same) = not same
    other none not (inr h) = none h

-- first lines have no further ones behind them
ones_held : (lines : List Line) (c : ℕ) → (clocks_at (map one_line lines) c).held ≡ []
ones_held [] c = refl
ones_held (l ∷ lines) zero = refl
ones_held (l ∷ lines) (suc c) = ones_held lines c

by_held : (m : Machine) (turn : ℕ) (n : WordNews) (clocks : List Clocks) (c : ℕ) → clocks_in_news m turn n ≡ Some clocks → (clocks_at clocks c).held ≡ []
by_held m turn (word.Lines lines) clocks c e = by (are_fit m.boards turn lines) e
  where
    by : (t : Bool) → (if t then Some (map one_line lines) else None) ≡ Some clocks → (clocks_at clocks c).held ≡ []
    by true e = let f : Some (map one_line lines) ≡ Some clocks = e in let same : map one_line lines ≡ clocks = cc in subst (λ (cs : List Clocks). (clocks_at cs c).held ≡ []) same (ones_held lines c)
    by false e = absurd (let f : None ≡ Some clocks = e in cc)
by_held m turn x clocks c e = absurd (let f : None ≡ Some clocks = e in cc)

in_held : (m : Machine) (turn : ℕ) (ns : List WordNews) (clocks : List Clocks) (c : ℕ) → told_in m turn ns ≡ Some clocks → (clocks_at clocks c).held ≡ []
in_held m turn [] clocks c e = absurd (let f : None ≡ Some clocks = e in cc)
in_held m turn (n ∷ ns) clocks c e = by (clocks_in_news m turn n) refl (λ f. in_held m turn ns clocks c f) e
  where
    by : (o : Option (List Clocks)) → clocks_in_news m turn n ≡ o → (told_in m turn ns ≡ Some clocks → (clocks_at clocks c).held ≡ []) → first_told o (told_in m turn ns) ≡ Some clocks → (clocks_at clocks c).held ≡ []
    by None is rec e = rec e
    by (Some first) is rec e = by_held m turn n clocks c (is ∙ e)

of_held : (m : Machine) (w : WordMsg) (clocks : List Clocks) (c : ℕ) → told_of m w ≡ Some clocks → (clocks_at clocks c).held ≡ []
of_held m w clocks c e = by (nat_lt w.turn last_word) e
  where
    by : (t : Bool) → (if t then told_in m w.turn w.news else None) ≡ Some clocks → (clocks_at clocks c).held ≡ []
    by true e = in_held m w.turn w.news clocks c e
    by false e = absurd (let f : None ≡ Some clocks = e in cc)

-- The word that tells first lines is that of the turn in which connecting ended.
pub record IsToldIn (low high ended : ℕ) (now : Told) : Type 0 where
  pub late : low ≤ ended
  pub soon : ended < high
  pub none : (c : ℕ) → (clocks_at now.clocks c).held ≡ []

pub told_first : (m : Machine) (k ended j : ℕ) (ws : List WordMsg) (now : Told) → TellFirst m ended j ws → connecting_heard m k ws None ≡ Some now → IsToldIn j (j + length ws) ended now
told_first m k ended j [] now f e = absurd (let h : None ≡ Some now = e in cc)
told_first m k ended j (w ∷ ws) now f e = by (told_of m w) refl f.0 e (λ g. told_first m k ended (j + 1) ws now f.1 g)
  where
    by : (o : Option (List Clocks)) → told_of m w ≡ o → (told_of m w ≡ None) ⊎ (j ≡ ended) → connecting_heard m k ws (told_at (max k w.turn) o) ≡ Some now → (connecting_heard m k ws None ≡ Some now → IsToldIn (j + 1) (j + 1 + length ws) ended now) → IsToldIn j (j + length (w ∷ ws)) ended now
    by None is at e rec =
        let r = rec e in
        let late = r.late in
        let soon = r.soon in
        record { late = omega (arith, late); soon = omega (arith, soon); none = r.none }
    by (Some clocks) is (inl not) e rec = absurd (let f : None ≡ Some clocks = sym not ∙ is in cc)
    by (Some clocks) is (inr at) e rec =
        let told : Told = record { first = first_start (max k w.turn); clocks = clocks } in
        let g : Some told ≡ Some now = sym (heard_some m k ws told) ∙ e in
        let same : told ≡ now = cc in
        record { late = omega (arith, at); soon = omega (arith, at); none = λ c. subst (λ (t : Told). (clocks_at t.clocks c).held ≡ []) same (of_held m w clocks c is) }
