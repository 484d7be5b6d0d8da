-- From which notes and which words the further clock lines of a planner come.
use Rattle.std.proofs.Common.{◌≡◌, ℕ, zero, suc, ◌+◌, ◌*◌, ◌<◌, ◌≤◌, ◌⊎◌, Bool, true, false, All, List, [], ◌∷◌, ◌++◌, length, Option, None, Some, refl, ap, sym, ◌∙◌, subst, arith, inl, inr, append_assoc, length-append}
use Rattle.std.specs.Prelude.{if◌then◌else◌}
use Rattle.laws_board.proofs.Names.{eqb_tells, All-head, All-tail, Machine, Line, turn_ns, NoteNews, WordMsg, Switch, Reacted, Came, known_by, last_reacted, Started, Told, MotionTurn, ReactorTurn, gather}
use Rattle.msg_code.specs.declared.talk.NoteNews.TheVariants as news
use Rattle.msg_code.specs.declared.talk.WordNews.{WordNews}
use Rattle.msg_code.specs.declared.talk.WordNews.TheVariants as word
use Rattle.host_reactor.specs.declared.ordered.Phase.TheVariants.{Running}
use Rattle.laws_board.specs.clocks.Samples.{line_of, lines_told}
use Rattle.laws_board.proofs.clocks.Lines.{noted_phase}
use Rattle.laws_board.proofs.clocks.Turning.{goes}
use Rattle.motion_work.specs.declared.told.BoardLine.{BoardLine}
use Rattle.motion_work.specs.Further.{AreFurther, WasHeard, WereHeard}
use Rattle.motion_work.specs.Puts.{ArePut, IsPut, IsReadNews, Put, begun_notes}
use Rattle.motion_work.specs.Turns.{done_notes}
use Rattle.motion_work.specs.Told as told
use Rattle.motion_work.specs.Told.{lines_in}
use Rattle.motion_stream.specs.Motions.{lines_kept}
use Rattle.session_run.specs.Boards.{AreReactorTurns}
use Rattle.session_work.specs.Bares.{bare_word}
use Rattle.session_work.specs.Leads.{each_turn, last_words, still_word}
use Rattle.laws_board.specs.plans.Answers.{TookNoneAhead}
use Rattle.laws_board.specs.plans.Planned.{TakeUpLines, fresh_in, puts_of, told_behind, words_in}
use Rattle.laws_run.proofs.run_headline.Further.{EachTold, told_both, told_more}
use Rattle.laws_run.proofs.run_headline.Words.{Among, AreNumbered, Said, among_either, among_left, among_number, among_right, gather_words, news_in, said}

-- A note of a turn tells a further clock line; a word of these told it, which has the number of that turn or less.
pub record IsOf (words : List WordMsg) (turn board : ℕ) (line : Line) (from : ℕ) : Type 0 where
  pub from_is : from ≡ (turn + 277) * turn_ns
  pub word : WordMsg
  pub among : Among word words
  pub heard : WasHeard board line (lines_in word.news)
  pub soon : word.turn ≤ turn

-- so a note of one of some turns, from a turn on and before another
pub record IsNoted (words : List WordMsg) (low high board : ℕ) (line : Line) (from : ℕ) : Type 0 where
  pub turn : ℕ
  pub late : low ≤ turn
  pub over : turn < high
  pub is : IsOf words turn board line from

-- so the notes of some turns, of which this is the first one's number
abbrev pub AllNoted : List WordMsg → ℕ → List MotionTurn → Type 0
AllNoted words k [] = Unit {0}
AllNoted words k (t ∷ ts) = EachTold (IsOf words k) t.note.news × AllNoted words (k + 1) ts

-- which word told a line
pub heard_either : (board : ℕ) (line : Line) (xs ys : List BoardLine) → WasHeard board line (xs ++ ys) → WasHeard board line xs ⊎ WasHeard board line ys
heard_either board line [] ys h = inr h
heard_either board line (x ∷ xs) ys (inl e) = inl (inl e)
heard_either board line (x ∷ xs) ys (inr h) = elim (heard_either board line xs ys h) [ inl a ↦ inl (inr a) | inr a ↦ inr a ]

kept_word : (board : ℕ) (line : Line) (o : Option Told) (ls : List BoardLine) → WasHeard board line (lines_kept o ls) → WasHeard board line ls
kept_word board line None ls h = absurd h
kept_word board line (Some t) ls h = h

fresh_word : (m : Machine) (k : ℕ) (board : ℕ) (line : Line) (ws : List WordMsg) (o : Option Told) → WasHeard board line (fresh_in m k ws o) → (w : WordMsg) × Among w ws × WasHeard board line (lines_in w.news)
fresh_word m k board line [] o h = absurd h
fresh_word m k board line (w ∷ ws) o h = elim (heard_either board line (lines_kept (told.heard m k w o) (lines_in w.news)) (fresh_in m k ws (told.heard m k w o)) h) [
  | inl a ↦ (w, inl refl, kept_word board line (told.heard m k w o) (lines_in w.news) a)
  | inr a ↦ let r = fresh_word m k board line ws (told.heard m k w o) a in (r.0, inr r.1, r.2)
]

-- the news of a note
pub none_done : (P : ℕ → Line → ℕ → Type 0) (k i : ℕ) (ss : List Started) → EachTold P (done_notes k i ss)
none_done P k i [] = tt
none_done P k i (s ∷ ss) = elim (eqb_tells s.end k) [ inl p ↦ rw p.0 (none_done P k (i + 1) ss) | inr p ↦ rw p.0 (none_done P k (i + 1) ss) ]

pub none_begun : (P : ℕ → Line → ℕ → Type 0) (k i : ℕ) (ss : List Started) → EachTold P (begun_notes k i ss)
none_begun P k i [] = tt
none_begun P k i (s ∷ ss) = elim (eqb_tells s.start (k + 260)) [ inl p ↦ rw p.0 (none_begun P k (i + 1) ss) | inr p ↦ rw p.0 (none_begun P k (i + 1) ss) ]

pub none_read : (P : ℕ → Line → ℕ → Type 0) (m : Machine) (text : List ℕ) (ns : List NoteNews) → IsReadNews m text ns → EachTold P ns
none_read P m text ns (inl e) = subst (EachTold P) (sym e) tt
none_read P m text ns (inr e) = subst (EachTold P) (sym e) tt

each_from : (k : ℕ) (ns : List NoteNews) → AreFurther k ns → EachTold (λ board line from. from ≡ (k + 277) * turn_ns) ns
each_from k [] a = tt
each_from k (news.Start section kind turn last moving ∷ ns) a = absurd a
each_from k (news.Done section turn ∷ ns) a = absurd a
each_from k (news.Read end sections ∷ ns) a = absurd a
each_from k (news.Line board line from ∷ ns) a = (a.0, each_from k ns a.1)

pub note_from : (m : Machine) (text : List ℕ) (begun : List Started) (k : ℕ) (p : Put) → IsPut m text begun k p → EachTold (λ board line from. from ≡ (k + 277) * turn_ns) p.note.news
note_from m text begun k p is =
    let P : ℕ → Line → ℕ → Type 0 = λ board line from. from ≡ (k + 277) * turn_ns in
    subst (EachTold P) (sym is.news_are)
    (told_both P (done_notes k 0 begun) (begun_notes k 0 begun ++ (is.read ++ is.further)) (none_done P k 0 begun)
    (told_both P (begun_notes k 0 begun) (is.read ++ is.further) (none_begun P k 0 begun)
    (told_both P is.read is.further (none_read P m text is.read is.is_read) (each_from k is.further is.are_further))))

pub both_told : (P Q R : ℕ → Line → ℕ → Type 0) (ns : List NoteNews) → ((board : ℕ) (line : Line) (from : ℕ) → P board line from → Q board line from → R board line from) → EachTold P ns → EachTold Q ns → EachTold R ns
both_told P Q R [] f a b = tt
both_told P Q R (news.Start section kind turn last moving ∷ ns) f a b = both_told P Q R ns f a b
both_told P Q R (news.Done section turn ∷ ns) f a b = both_told P Q R ns f a b
both_told P Q R (news.Read end sections ∷ ns) f a b = both_told P Q R ns f a b
both_told P Q R (news.Line board line from ∷ ns) f a b = (f board line from a.0 b.0, both_told P Q R ns f a.1 b.1)

pub were_told : (heard : List BoardLine) (ns : List NoteNews) → WereHeard heard ns → EachTold (λ board line from. WasHeard board line heard) ns
were_told heard [] h = tt
were_told heard (news.Start section kind turn last moving ∷ ns) h = were_told heard ns h
were_told heard (news.Done section turn ∷ ns) h = were_told heard ns h
were_told heard (news.Read end sections ∷ ns) h = were_told heard ns h
were_told heard (news.Line board line from ∷ ns) h = (h.0, were_told heard ns h.1)

first_numbered : (i : ℕ) (xs ys : List WordMsg) → AreNumbered i (xs ++ ys) → AreNumbered i xs
first_numbered i [] ys n = tt
first_numbered i (x ∷ xs) ys n = (n.0, first_numbered (i + 1) xs ys n.1)

-- the notes of some turns, from turn k on, behind these words
pub all_noted : (m : Machine) (text : List ℕ) (begun : List Started) (k taken : ℕ) (o : Option Told) (before : List WordMsg) (ts : List MotionTurn) → length before ≡ taken → ArePut m text begun k (puts_of ts) → TakeUpLines m k ts o → TookNoneAhead k taken ts
    → AreNumbered 0 (before ++ words_in ts) → AllNoted (before ++ words_in ts) k ts
all_noted m text begun k taken o before [] long put heard ahead n = tt
all_noted m text begun k taken o before (t ∷ ts) long put heard ahead n =
    let here = before ++ t.words in
    let all : before ++ (t.words ++ words_in ts) ≡ here ++ words_in ts = sym (append_assoc before t.words (words_in ts)) in
    let numbered : AreNumbered 0 (here ++ words_in ts) = subst (AreNumbered 0) all n in
    let size = length-append before t.words in
    let soon = ahead.0 in
    let rest = all_noted m text begun (k + 1) (taken + length t.words) (told_behind m k t o) here ts (omega (arith, size, long)) put.1 heard.2 ahead.1 numbered in
    let one = both_told (λ board line from. from ≡ (k + 277) * turn_ns) (λ board line from. WasHeard board line (fresh_in m k t.words o)) (IsOf (here ++ words_in ts) k) t.note.news
    (λ board line from at was.
    let w = fresh_word m k board line t.words o was in
    let own = among_right w.0 before t.words w.1 in
    let number = (among_number 0 here w.0 (first_numbered 0 here (words_in ts) numbered) own).1 in
    record { from_is = at; word = w.0; among = among_left w.0 here (words_in ts) own; heard = w.2; soon = omega (arith, number, size, long, soon) })
    (note_from m text begun k (record { batches = t.batches; note = t.note }) put.0) (were_told (fresh_in m k t.words o) t.note.news heard.0) in
    subst (λ ws. AllNoted ws k (t ∷ ts)) (sym all) (one, rest)

pub noted_front : (words : List WordMsg) (k : ℕ) (past later : List MotionTurn) → AllNoted words k (past ++ later) → AllNoted words k past
noted_front words k [] later a = tt
noted_front words k (t ∷ past) later a = (a.0, noted_front words (k + 1) past later a.1)

pub noted_later : (words : List WordMsg) (k : ℕ) (past later : List MotionTurn) → AllNoted words k (past ++ later) → AllNoted words (k + length past) later
noted_later words k [] later a = let e : k ≡ k + 0 = omega arith in subst (λ i. AllNoted words i later) e a
noted_later words k (t ∷ past) later a = let e : k + 1 + length past ≡ k + length (t ∷ past) = omega arith in subst (λ i. AllNoted words i later) e (noted_later words (k + 1) past later a.1)

pub noted_between : (words : List WordMsg) (low k high : ℕ) (ts : List MotionTurn) → low ≤ k → k + length ts ≤ high → AllNoted words k ts → EachTold (IsNoted words low high) (news_in ts)
noted_between words low k high [] le most a = tt
noted_between words low k high (t ∷ ts) le most a =
    told_both (IsNoted words low high) t.note.news (news_in ts)
    (told_more (IsOf words k) (IsNoted words low high) t.note.news (λ board line from x. record { turn = k; late = le; over = omega (arith, most); is = x }) a.0)
    (noted_between words low (k + 1) high ts (omega (arith, le)) (omega (arith, most)) a.1)

-- a line that a word tells is one of those of its board
all_right : (P : Line → Type 0) (xs ys : List Line) → All P (xs ++ ys) → All P ys
all_right P [] ys a = a
all_right P (x ∷ xs) ys a = all_right P xs ys (All-tail P x (xs ++ ys) a)

pub line_among : (P : Line → Type 0) (b : ℕ) (line : Line) (ns : List WordNews) → WasHeard b line (lines_in ns) → All P (lines_told b ns) → P line
line_among P b line [] h a = absurd h
line_among P b line (word.Lines lines ∷ ns) h a = line_among P b line ns h (all_right P (line_of b (word.Lines lines)) (lines_told b ns) a)
line_among P b line (word.Homed ∷ ns) h a = line_among P b line ns h a
line_among P b line (word.Line board own ∷ ns) (inl e) a =
    let line_is = e.1 in
    elim (eqb_tells board b) [
      | inl p ↦ (let At : Bool → Type 0 = λ c. All P ((if c then own ∷ [] else []) ++ lines_told b ns) in subst P line_is (All-head P own (lines_told b ns) (subst At p.0 a)))
      | inr p ↦ absurd (p.1 e.0)
    ]
line_among P b line (word.Line board own ∷ ns) (inr h) a = line_among P b line ns h (all_right P (line_of b (word.Line board own)) (lines_told b ns) a)

-- the words behind those of the reactor tell none
pub last_none : (k n : ℕ) (w : WordMsg) (board : ℕ) (line : Line) → Among w (last_words k n) → WasHeard board line (lines_in w.news) → ⊥
last_none k n w board line a h = each k n a
  where
    bare : (i : ℕ) (end : Bool) → bare_word i end ≡ w → ⊥
    bare i end e = (let At : WordMsg → Type 0 = λ x. WasHeard board line (lines_in x.news) in subst At (sym e) h)

    each : (i j : ℕ) → Among w (each_turn still_word i j ++ bare_word (k + n) true ∷ []) → ⊥
    each i zero (inl e) = bare (k + n) true e
    each i zero (inr z) = z
    each i (suc j) (inl e) = bare i false e
    each i (suc j) (inr r) = each (i + 1) j r

-- a word that tells a further line is said in a turn behind connecting
pub heard_running : (m : Machine) (switches : List Switch) (c : Came) (before : List Came) (board : ℕ) (line : Line) → (last_reacted m switches c before).ordered.end ≡ None → WasHeard board line (lines_in (last_reacted m switches c before).ordered.word.news)
    → (known_by m switches before).phase ≡ Running
heard_running m switches c before board line on h =
    let r = known_by m switches before in
    let At : Reacted → Type 0 = λ y. WasHeard board line (lines_in y.ordered.word.news) in
    elim (goes m switches r (length before) c.states c.note on) [
      | inl a ↦ absurd (subst At a.is h)
      | inr later ↦ elim later [
        | inl a ↦ absurd (subst At a.is h)
        | inr a ↦ sym (noted_phase m c.note r) ∙ a.phase
      ]
    ]

-- a word of the planner's that tells a further line was said by the reactor
pub word_said : (m : Machine) (switches : List Switch) (n : ℕ) (ts made bare : List MotionTurn) (rs : List ReactorTurn) (left : List WordMsg) → ts ≡ made ++ bare → AreReactorTurns m switches [] rs
    → gather (λ x. x.word ∷ []) rs ++ last_words (length rs) n ≡ gather (λ x. x.words) ts ++ left → (w : WordMsg) (board : ℕ) (line : Line) → Among w (words_in made) → WasHeard board line (lines_in w.news) → Said m switches [] rs w
word_said m switches n ts made bare rs left are turns words w board line among heard =
    let In : List WordMsg → Type 0 = λ ws. Among w ws in
    let in_all = among_left w (gather (λ (x : MotionTurn). x.words) made) (gather (λ (x : MotionTurn). x.words) bare) among in
    let in_ts = subst In (ap (gather (λ (x : MotionTurn). x.words)) (sym are)) (subst In (sym (gather_words made bare)) in_all) in
    let in_put = subst In (sym words) (among_left w (gather (λ (x : MotionTurn). x.words) ts) left in_ts) in
    elim (among_either w (gather (λ (x : ReactorTurn). x.word ∷ []) rs) (last_words (length rs) n) in_put) [
      | inl a ↦ said m switches [] rs w tt turns a
      | inr l ↦ absurd (last_none (length rs) n w board line l heard)
    ]
