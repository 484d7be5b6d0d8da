-- What the words of the reactor's turns tell of a board's clock.
use Rattle.std.proofs.Common.{◌≡◌, ◌⊎◌, ℕ, zero, suc, ◌+◌, ◌≤◌, Bool, true, false, All, List, [], ◌∷◌, ◌++◌, length, Option, Some, None, refl, ap, sym, ◌∙◌, subst, arith, inl, inr, append_assoc, length-append}
use Rattle.std.specs.Prelude.{nat_lt, if◌then◌else◌}
use Rattle.laws_board.proofs.Names.{eqb_tells, All-head, All-tail, BoardClock, Level, Machine, Line, clock_of, Clocks, IsValidMachine, board_at, WordMsg, Entry, Switch, Connecting, Came, known_by, last_reacted, ReactorTurn, gather}
use Rattle.msg_code.specs.declared.talk.WordNews.{WordNews}
use Rattle.msg_code.specs.declared.talk.WordNews.TheVariants as word
use Rattle.host_reactor.specs.declared.ordered.Phase.TheVariants.{Running}
use Rattle.laws_board.specs.turns.Turns.{BoardTurn}
use Rattle.laws_board.specs.clocks.Runs.{IsInRun}
use Rattle.laws_board.specs.clocks.Samples.{IsFresh, IsSampled, further_lines}
use Rattle.laws_board.proofs.clocks.Fresh.{fresh_lines}
use Rattle.laws_board.proofs.clocks.Lines.{as_long}
use Rattle.motion_work.specs.Further.{WasHeard}
use Rattle.motion_work.specs.Told.{lines_in, told_of}
use Rattle.motion_work.specs.Told.{word_limit as last_word}
use Rattle.session_work.specs.Bares.{bare_word}
use Rattle.session_work.specs.Leads.{each_turn, still_word}
use Rattle.session_run.specs.Boards.{AreReactorTurns, came_from, came_in}
use Rattle.laws_run.proofs.clock_ages.Saying.{IsNew, TellFirst, TellNew}
use Rattle.laws_run.proofs.run_ends.Connecting.{before_boards, was_connecting}
use Rattle.laws_run.proofs.run_headline.Fronts.{front_of, one_less, sampled_later}
use Rattle.laws_run.proofs.run_headline.Words.{connected, none_of}

-- words one behind the other
pub new_both : (clock : BoardClock) (turns : List BoardTurn) (b j n : ℕ) (xs ys : List WordMsg) → j + length xs ≡ n → TellNew clock turns b j xs → TellNew clock turns b n ys → TellNew clock turns b j (xs ++ ys)
new_both clock turns b j n [] ys e x y = let same : n ≡ j = omega (arith, e) in subst (λ (k : ℕ). TellNew clock turns b k ys) same y
new_both clock turns b j n (w ∷ xs) ys e x y = (x.0, new_both clock turns b (j + 1) n xs ys (omega (arith, e)) x.1 y)

pub first_both : (m : Machine) (ended j n : ℕ) (xs ys : List WordMsg) → j + length xs ≡ n → TellFirst m ended j xs → TellFirst m ended n ys → TellFirst m ended j (xs ++ ys)
first_both m ended j n [] ys e x y = let same : n ≡ j = omega (arith, e) in subst (λ (k : ℕ). TellFirst m ended k ys) same y
first_both m ended j n (w ∷ xs) ys e x y = (x.0, first_both m ended (j + 1) n xs ys (omega (arith, e)) x.1 y)

-- the words behind those of the reactor's turns tell nothing
none_heard : (clock : BoardClock) (turns : List BoardTurn) (b k i : ℕ) (end : Bool) (line : Line) → WasHeard b line (lines_in (bare_word i end).news) → IsNew clock turns k line
none_heard clock turns b k i end line h = absurd h

bare_first : (m : Machine) (i : ℕ) (end : Bool) → told_of m (bare_word i end) ≡ None
bare_first m i end = by (told_of m (bare_word i end)) refl
  where
    by : (o : Option (List Clocks)) → told_of m (bare_word i end) ≡ o → told_of m (bare_word i end) ≡ None
    by None e = e
    by (Some clocks) e = absurd (none_of m (nat_lt i last_word) i [] clocks refl e)

pub last_new : (clock : BoardClock) (turns : List BoardTurn) (b j k i n : ℕ) → TellNew clock turns b j (each_turn still_word i n ++ bare_word k true ∷ [])
last_new clock turns b j k i zero = (λ line h. none_heard clock turns b j k true line h, tt)
last_new clock turns b j k i (suc n) = (λ line h. none_heard clock turns b j i false line h, last_new clock turns b (j + 1) k (i + 1) n)

pub last_first : (m : Machine) (ended j k i n : ℕ) → TellFirst m ended j (each_turn still_word i n ++ bare_word k true ∷ [])
last_first m ended j k i zero = (inl (bare_first m k true), tt)
last_first m ended j k i (suc n) = (inl (bare_first m i false), last_first m ended (j + 1) k (i + 1) n)

-- a further line that a word tells is one of those of its board
further_among : (P : Line → Type 0) (b : ℕ) (line : Line) (ns : List WordNews) → WasHeard b line (lines_in ns) → All P (further_lines b ns) → P line
further_among P b line [] h a = absurd h
further_among P b line (word.Lines lines ∷ ns) h a = further_among P b line ns h a
further_among P b line (word.Homed ∷ ns) h a = further_among P b line ns h a
further_among P b line (word.Line board own ∷ ns) h a = elim (eqb_tells board b) [
  | inl p ↦ (let At : Bool → Type 0 = λ c. All P ((if c then own ∷ [] else []) ++ further_lines b ns) in let all = subst At p.0 a in here (All-head P own (further_lines b ns) all) (λ r. further_among P b line ns r (All-tail P own (further_lines b ns) all)) h)
  | inr p ↦ (let At : Bool → Type 0 = λ c. All P ((if c then own ∷ [] else []) ++ further_lines b ns) in let all : All P (further_lines b ns) = subst At p.0 a in there p.1 (λ r. further_among P b line ns r all) h)
]
  where
    here : P own → (WasHeard b line (lines_in ns) → P line) → ((board ≡ b) × (own ≡ line)) ⊎ WasHeard b line (lines_in ns) → P line
    here one rec (inl e) = subst P e.1 one
    here one rec (inr r) = rec r

    there : (board ≡ b → ⊥) → (WasHeard b line (lines_in ns) → P line) → ((board ≡ b) × (own ≡ line)) ⊎ WasHeard b line (lines_in ns) → P line
    there not rec (inl e) = absurd (not e.0)
    there not rec (inr r) = rec r

module _ (m : Machine) (v : IsValidMachine m) (switches : List Switch) (pins : List (List Level)) (entries : List Entry) (b : ℕ) (turns : List BoardTurn) where
  abbrev Own : BoardClock
  Own = clock_of (board_at m b)

  -- each line is new
  new_line : (k : ℕ) (front later : List BoardTurn) (line : Line) → k ≡ length front → 1 ≤ length later → turns ≡ later ++ front → IsFresh Own front line → IsNew Own turns k line
  new_line k front later line long some are x =
      let size = ap length are ∙ length-append later front in
      let i = x.1 in
      let from = i.from in
      let to = i.to in
      let soon = i.soon in
      let got = x.3 in
      let at = ap (λ (l : Line). l.at) x.2 in
      record {
        told = omega (arith, size, some, long);
        sampled = subst (λ (y : List BoardTurn). IsSampled Own y line) (sym are) (sampled_later m v switches pins entries b Own later front line (x.0, x.1, x.2));
        before = omega (arith, at, from, to, got, long);
        fresh = omega (arith, at, soon, got, long);
      }

  pub words_new : (k : ℕ) (before : List Came) (rs : List ReactorTurn) → length before ≡ k → IsInRun m switches pins entries b (came_from before rs) turns → AreReactorTurns m switches before rs → TellNew Own turns b k (gather (λ t. t.word ∷ []) rs)
  words_new k before [] e r h = tt
  words_new k before (t ∷ rs) e r h =
      let f = front_of m v switches pins entries b (came_in t ∷ before) rs turns r in
      let l = one_less m v switches pins entries b (came_in t) before f.front f.run in
      let all = fresh_lines m switches pins entries b (came_in t) before l.0 l.1 l.3 in
      let long = as_long m switches b before l.1 l.4.both in
      let cut : turns ≡ (f.later ++ l.0 ∷ []) ++ l.1 = f.cut ∙ ap (λ (y : List BoardTurn). f.later ++ y) l.2 ∙ sym (append_assoc f.later (l.0 ∷ []) l.1) in
      let size = length-append f.later (l.0 ∷ []) in
      let some : 1 ≤ length (f.later ++ l.0 ∷ []) = omega (arith, size) in
      let Heard : Line → (WordMsg → Type 0) = λ line w. WasHeard b line (lines_in w.news) in (
        λ line heard.
            new_line k l.1 (f.later ++ l.0 ∷ []) line (sym e ∙ long) some cut
            (further_among (IsFresh Own l.1) b line (last_reacted m switches (came_in t) before).ordered.word.news (subst (Heard line) h.0.word_is heard) all),
        words_new (k + 1) (came_in t ∷ before) rs (omega (arith, e)) r h.1,
      )

  -- past connecting no word tells first lines
  past_first : (ended k : ℕ) (before : List Came) (rs : List ReactorTurn) → AreReactorTurns m switches before rs → ((known_by m switches before).phase ≡ Connecting → ⊥) → TellFirst m ended k (gather (λ t. t.word ∷ []) rs)
  past_first ended k before [] h not = tt
  past_first ended k before (t ∷ rs) h not = (
    by (told_of m t.word) refl,
    past_first ended (k + 1) (came_in t ∷ before) rs h.1 (λ e. not (was_connecting m switches (came_in t) before h.0.goes_on e)),
  )
    where
      by : (o : Option (List Clocks)) → told_of m t.word ≡ o → (told_of m t.word ≡ None) ⊎ (k ≡ ended)
      by None e = inl e
      by (Some clocks) e = absurd (not (connected m switches (came_in t) before clocks h.0.goes_on (ap (told_of m) (sym h.0.word_is) ∙ e)).phase)

  -- so only the word of the turn in which connecting ended tells them
  pub words_first : (ended k : ℕ) (before : List Came) (past : List ReactorTurn) (turn : ReactorTurn) (later : List ReactorTurn) → length before ≡ k → length (came_from before past) ≡ ended → AreReactorTurns m switches before (past ++ turn ∷ later)
      → (known_by m switches (came_from before past)).phase ≡ Connecting → ((known_by m switches (came_in turn ∷ came_from before past)).phase ≡ Connecting → ⊥) → TellFirst m ended k (gather (λ t. t.word ∷ []) (past ++ turn ∷ later))
  words_first ended k before [] turn later e at h was not = (inr (sym e ∙ at), past_first ended (k + 1) (came_in turn ∷ before) later h.1 not)
  words_first ended k before (t ∷ past) turn later e at h was not =
      (by (told_of m t.word) refl, words_first ended (k + 1) (came_in t ∷ before) past turn later (omega (arith, e)) at h.1 was not)
    where
      front : (before : List Came) (past : List ReactorTurn) → AreReactorTurns m switches before (past ++ turn ∷ later) → AreReactorTurns m switches before past
      front before [] h = tt
      front before (t ∷ past) h = (h.0, front (came_in t ∷ before) past h.1)

      by : (o : Option (List Clocks)) → told_of m t.word ≡ o → (told_of m t.word ≡ None) ⊎ (k ≡ ended)
      by None e = inl e
      by (Some clocks) e =
          let c = connected m switches (came_in t) before clocks h.0.goes_on (ap (told_of m) (sym h.0.word_is) ∙ e) in
          let back = (before_boards m switches (came_in t ∷ before) past (front (came_in t ∷ before) past h.1) was).0 in
          absurd (let f : Running ≡ Connecting = sym c.then ∙ back in cc)
