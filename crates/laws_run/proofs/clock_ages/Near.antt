-- The further clock lines of boards hold soon behind the words that tell them.
use Rattle.std.proofs.Common.{◌≡◌, ℕ, zero, suc, ◌+◌, ◌*◌, ◌<◌, ◌≤◌, Bool, true, false, List, [], ◌∷◌, ◌++◌, length, Option, None, Some, refl, ap, sym, ◌∙◌, subst, arith, inl, inr, append_assoc}
use Rattle.laws_board.proofs.Names.{Machine, Held, Line, turn_ns, Clocks, one_line, IsValidMachine, clocks_at, WordMsg, Scene, Started, Told, MotionTurn, ReactorTurn, gather}
use Rattle.plan_types.specs.Lines.{last_from}
use Rattle.motion_work.specs.Further.{WasHeard, noted_lines}
use Rattle.motion_work.specs.Puts.{ArePut}
use Rattle.motion_work.specs.Told.{lines_in}
use Rattle.session_work.specs.Bares.{bare_word}
use Rattle.session_work.specs.Leads.{each_turn, last_words, still_word}
use Rattle.session_run.specs.Boards.{came_from}
use Rattle.laws_board.specs.plans.Planned.{AreKnown, Plans, TakeUpLines, TookInTime, fresh_in, put_of, puts_of, told_behind, words_in}
use Rattle.laws_run.proofs.run_headline.Boarded.{Ready}
use Rattle.laws_run.proofs.run_headline.Further.{EachHeld, EachTold, noted_grown, noted_long, told_both}
use Rattle.laws_run.proofs.run_headline.Noting.{both_told, heard_either, note_from, were_told}
use Rattle.laws_run.proofs.run_headline.Words.{gather_words, line_is, news_in}
use Rattle.laws_run.proofs.clock_ages.Heard.{fresh_among, lines_heard}
use Rattle.laws_run.proofs.clock_ages.Runs.{put_in}

-- some words, of which this is the first one's number, tell further lines only before another number
abbrev TellBefore : ℕ → ℕ → List WordMsg → Type 0
TellBefore end j [] = Unit {0}
TellBefore end j (w ∷ ws) = ((board : ℕ) (line : Line) → WasHeard board line (lines_in w.news) → j < end) × TellBefore end (j + 1) ws

before_both : (end j n : ℕ) (xs ys : List WordMsg) → j + length xs ≡ n → TellBefore end j xs → TellBefore end n ys → TellBefore end j (xs ++ ys)
before_both end j n [] ys e x y = let same : n ≡ j = omega (arith, e) in subst (λ (k : ℕ). TellBefore end k ys) same y
before_both end j n (w ∷ xs) ys e x y = (x.0, before_both end (j + 1) n xs ys (omega (arith, e)) x.1 y)

before_parts : (end j n : ℕ) (xs ys : List WordMsg) → j + length xs ≡ n → TellBefore end j (xs ++ ys) → TellBefore end j xs × TellBefore end n ys
before_parts end j n [] ys e h = let same : j ≡ n = omega (arith, e) in (tt, subst (λ (k : ℕ). TellBefore end k ys) same h)
before_parts end j n (x ∷ xs) ys e h = let r = before_parts end (j + 1) n xs ys (omega (arith, e)) h.1 in ((h.0, r.0), r.1)

-- so do those of the reactor's turns and those behind them
put_before : (end j : ℕ) (rs : List ReactorTurn) → j + length rs ≤ end → TellBefore end j (put_in rs)
put_before end j [] le = tt
put_before end j (r ∷ rs) le = (λ board line h. omega (arith, le), put_before end (j + 1) rs (omega (arith, le)))

none_said : (i : ℕ) (over : Bool) (board : ℕ) (line : Line) → WasHeard board line (lines_in (bare_word i over).news) → ⊥
none_said i over board line h = h

last_before : (end j k i n : ℕ) → TellBefore end j (each_turn still_word i n ++ bare_word k true ∷ [])
last_before end j k i zero = (λ board line h. absurd (none_said k true board line h), tt)
last_before end j k i (suc n) = (λ board line h. absurd (none_said i false board line h), last_before end (j + 1) k (i + 1) n)

heard_before : (end j board : ℕ) (line : Line) (ws : List WordMsg) → TellBefore end j ws → WasHeard board line (lines_heard ws) → j < end
heard_before end j board line [] t h = absurd h
heard_before end j board line (w ∷ ws) t h = elim (heard_either board line (lines_in w.news) (lines_heard ws) h) [
  | inl a ↦ t.0 board line a
  | inr a ↦ (let later = heard_before end (j + 1) board line ws t.1 a in omega (arith, later))
]

-- each further line that the notes of some turns tell holds by a turn
abbrev HoldBy : ℕ → List MotionTurn → Type 0
HoldBy turn [] = Unit {0}
HoldBy turn (t ∷ ts) = EachTold (λ board line from. from ≤ turn * turn_ns) t.note.news × HoldBy turn ts

notes_by : (m : Machine) (text : List ℕ) (begun : List Started) (end k taken : ℕ) (o : Option Told) (ts : List MotionTurn) → ArePut m text begun k (puts_of ts) → TakeUpLines m k ts o → TookInTime m k taken ts o → k ≤ taken + 64
    → TellBefore end taken (words_in ts) → HoldBy (end + 340) ts
notes_by m text begun end k taken o [] put lines took near tell = tt
notes_by m text begun end k taken o (t ∷ ts) put lines took near tell =
    let parts = before_parts end taken (taken + length t.words) t.words (words_in ts) refl tell in
    let soon = took.1 in (
      both_told (λ board line from. from ≡ (k + 277) * turn_ns) (λ board line from. WasHeard board line (fresh_in m k t.words o)) (λ board line from. from ≤ (end + 340) * turn_ns) t.note.news
          (λ board line from at was. let late = heard_before end taken board line t.words parts.0 (fresh_among m k board line t.words o was) in omega (arith, at, near, late))
          (note_from m text begun k (put_of t) put.0) (were_told (fresh_in m k t.words o) t.note.news lines.0),
      notes_by m text begun end (k + 1) (taken + length t.words) (told_behind m k t o) ts put.1 lines.2 took.2 (omega (arith, soon)) parts.1,
    )

by_later : (turn : ℕ) (past ts : List MotionTurn) → HoldBy turn (past ++ ts) → HoldBy turn ts
by_later turn [] ts h = h
by_later turn (t ∷ past) ts h = by_later turn past ts h.1

by_news : (turn : ℕ) (ts : List MotionTurn) → HoldBy turn ts → EachTold (λ board line from. from ≤ turn * turn_ns) (news_in ts)
by_news turn [] h = tt
by_news turn (t ∷ ts) h = told_both (λ board line from. from ≤ turn * turn_ns) t.note.news (news_in ts) h.0 (by_news turn ts h.1)

last_by : (time from : ℕ) (held : List Held) → from ≤ time → EachHeld (λ line from. from ≤ time) held → last_from from held ≤ time
last_by time from [] le e = le
last_by time from (h ∷ held) le e = last_by time h.from held e.0 e.1

-- the words that the planner took in the turns that it made, and those that follow
pub words_cut : (ts made bare : List MotionTurn) (words left : List WordMsg) → ts ≡ made ++ bare → words ≡ gather (λ x. x.words) ts ++ left → words_in made ++ (words_in bare ++ left) ≡ words
words_cut ts made bare words left are e =
    let cut : gather (λ (x : MotionTurn). x.words) ts ≡ words_in made ++ words_in bare = ap (gather (λ (x : MotionTurn). x.words)) are ∙ gather_words made bare in
    sym (e ∙ (ap (λ (ws : List WordMsg). ws ++ left) cut ∙ append_assoc (words_in made) (words_in bare) left))

module _ (m : Machine) (v : IsValidMachine m) (s : Scene) (ts : List MotionTurn) (p : Plans m (length m.boards) ts) (t : Told) (first : ReactorTurn) (rest : List ReactorTurn) (end : ReactorTurn) (told : p.seen.told ≡ Some t) (r : Ready m v s ts p t first rest end told) where
  all_by : (n : ℕ) (left : List WordMsg) → put_in (first ∷ rest) ++ last_words (length (first ∷ rest)) n ≡ gather (λ x. x.words) ts ++ left → HoldBy (length (first ∷ rest) + 340) p.made
  all_by n left words =
      let long = length (first ∷ rest) in
      let put : TellBefore long 0 (put_in (first ∷ rest) ++ last_words long n) =
      before_both long 0 long (put_in (first ∷ rest)) (last_words long n) (omega (arith, put_long (first ∷ rest))) (put_before long 0 (first ∷ rest) (omega arith)) (last_before long long (long + n) long n) in
      let cut = words_cut ts p.made p.bare (put_in (first ∷ rest) ++ last_words long n) left p.are words in
      let all = subst (TellBefore long 0) (sym cut) put in
      notes_by m p.seen.text p.seen.begun long 0 0 None p.made p.put p.lines p.in_time (omega arith) (before_parts long 0 (0 + length (words_in p.made)) (words_in p.made) (words_in p.bare ++ left) refl all).0
    where
      put_long : (rs : List ReactorTurn) → length (put_in rs) ≡ length rs
      put_long [] = refl
      put_long (x ∷ rs) = (let e = put_long rs in omega (arith, e))

  -- the last line of a board holds soon behind the last turn
  pub last_near : (b n : ℕ) (left : List WordMsg) → b < length m.boards → put_in (first ∷ rest) ++ last_words (length (first ∷ rest)) n ≡ gather (λ x. x.words) ts ++ left
      → last_from 0 (clocks_at t.clocks b).held ≤ (length rest + 345) * turn_ns
  last_near b n left h words =
      let long = length (first ∷ rest) in
      let By : ℕ → Line → ℕ → Type 0 = λ board line from. from ≤ (long + 340) * turn_ns in
      let firsts = r.heard.clocks in
      let news = news_in (r.heard.turn ∷ r.heard.later) in
      let known = subst (AreKnown m) told p.known in
      let inside : b < length firsts = (let many = known.0.count in let grown = ap length r.heard.on ∙ noted_long news firsts in omega (arith, many, grown, h)) in
      let all = subst (HoldBy (long + 340)) r.heard.are (all_by n left words) in
      let each = by_news (long + 340) (r.heard.turn ∷ r.heard.later) (by_later (long + 340) r.heard.past (r.heard.turn ∷ r.heard.later) all) in
      let own = line_is (length (came_from [] r.past)) b m.boards r.is.lines r.is.fit h in
      let one : clocks_at firsts b ≡ one_line own.0 = ap (λ (cs : List Clocks). clocks_at cs b) r.is.clocks_are ∙ own.2 in
      let g = noted_grown By news firsts b inside each in
      let clocks_is : clocks_at (noted_lines news firsts) b ≡ clocks_at t.clocks b = ap (λ (cs : List Clocks). clocks_at cs b) (sym r.heard.on) in
      let held_is : g.more ≡ (clocks_at t.clocks b).held = sym (g.held ∙ ap (λ (c : Clocks). c.held ++ g.more) one) ∙ ap (λ (c : Clocks). c.held) clocks_is in
      let last = last_by ((long + 340) * turn_ns) 0 (clocks_at t.clocks b).held (omega arith) (subst (EachHeld (λ line from. from ≤ (long + 340) * turn_ns)) held_is g.each) in
      omega (arith, last)
