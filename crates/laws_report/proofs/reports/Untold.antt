-- A planner that was told no clock lines tells no further ones.
use Rattle.std.proofs.Common.{◌≡◌, ◌∙◌, ℕ, suc, ◌+◌, ◌*◌, ◌%◌, ◌^◌, ◌<◌, ◌≤◌, Bool, true, false, List, [], ◌∷◌, ◌++◌, ◌⊎◌, All, get_or, length, map, max, ap, sym, refl, subst, arith, inl, inr, Option, None, Some, append_assoc, length-append, rules}
use Rattle.std.specs.Prelude.{◌==◌, ◌&&◌, nat_le, nat_lt, if◌then◌else◌}
use Rattle.std.proofs.Math.Nat.{mul-mod_left}
use Rattle.laws_board.proofs.Names.{eqb_tells, leb_tells, length-map, All-head, Cause, BoardClock, BoardDef, Machine, Line, clock_of, turn_ns, Clocks, one_line, IsValidMachine, board_at, State, WordMsg, Scene, Switch, Asking, listen_all, ready_all, pins_of, Known, Connecting, noted, Reacted, Came, known_by, last_reacted, Told, MotionTurn, ReactorTurn, gather, and_from}
use Rattle.plan_types.specs.Sections.{first_start}
use Rattle.plan_types.specs.Machines.{no_board}
use Rattle.msg_code.specs.declared.talk.WordNews.{WordNews}
use Rattle.msg_code.specs.declared.talk.WordNews.TheVariants as word
use Rattle.board_asking.specs.Connecting.{board_lines}
use Rattle.host_reactor.specs.declared.ordered.Phase.TheVariants.{Running}
use Rattle.laws_board.specs.turns.Turns.{BoardTurn}
use Rattle.laws_board.specs.clocks.Runs.{IsInRun}
use Rattle.laws_board.specs.clocks.Samples.{IsSampled, line_at, lines_told}
use Rattle.laws_board.proofs.clocks.Clear.{told_before}
use Rattle.laws_board.proofs.clocks.Lines as lining
use Rattle.laws_board.proofs.clocks.Turning as turning
use Rattle.motion_work.specs.Further.{WasHeard, noted_lines, told_on}
use Rattle.motion_work.specs.Told.{are_fit, first_told, heard, is_fit, lines_in, told_at, told_in, told_of}
use Rattle.session_work.specs.Leads.{last_words}
use Rattle.session_run.specs.Boards.{AreReactorTurns, came_from, came_in}
use Rattle.laws_run.specs.lanes.Boards.{turns_behind}
use Rattle.laws_run.specs.lanes.Turns.{came_before}
use Rattle.laws_board.specs.plans.Planned as planned
use Rattle.laws_board.specs.plans.Planned.{Plans, connecting_heard, put_of, words_in}
use Rattle.laws_run.proofs.run_ends.Connecting as connecting
use Rattle.laws_run.proofs.run_headline.Boarded.{came_cut, came_split}
use Rattle.laws_run.proofs.run_headline.Facts.{came_long, turns_cut}
use Rattle.laws_run.proofs.run_headline.Fronts.{front_of, one_less}
use Rattle.laws_run.proofs.run_headline.Noting.{IsOf, all_noted, heard_running, word_said}
use Rattle.laws_run.proofs.run_headline.Showing.{Facts, few}
use Rattle.laws_run.proofs.run_headline.Words.{Among, among_either, among_number, gather_words, made_numbered, words_long}
use Rattle.laws_report.proofs.reports.Quiet.{made_quiet, plans_quiet, runs_plain}
use Rattle.laws_report.proofs.reports.Unbegun.{told_lines}
use Rattle.laws_run.proofs.run_headline.Drifts.{NoneDrifts}
use Rattle.laws_run.proofs.run_headline.Asked.{whole_by}
use Rattle.plan_types.proofs.Facts.{is_equal, is_le, is_less}
use Rattle.laws_board.proofs.plans.Planning.{heard_some}
use Rattle.host_reactor.proofs.Rowing.{listened, readied}

-- the turn of the reactor in which connecting ended
record Ended (m : Machine) (switches : List Switch) (before : List Came) (rs : List ReactorTurn) : Type 0 where
  past : List ReactorTurn
  turn : ReactorTurn
  later : List ReactorTurn
  are : rs ≡ past ++ turn ∷ later
  goes_on : (last_reacted m switches (came_in turn) (came_from before past)).ordered.end ≡ None
  word_is : turn.word ≡ (last_reacted m switches (came_in turn) (came_from before past)).ordered.word
  ends : connecting.Connects (noted m turn.note (known_by m switches (came_from before past))) (length (came_from before past)) (last_reacted m switches (came_in turn) (came_from before past))

find_ended : (m : Machine) (switches : List Switch) (before : List Came) (rs : List ReactorTurn) → AreReactorTurns m switches before rs → (known_by m switches before).phase ≡ Connecting → (known_by m switches (came_from before rs)).phase ≡ Running → Ended m switches before rs
find_ended m switches before [] h p q = absurd (let e : Connecting ≡ Running = sym p ∙ q in cc)
find_ended m switches before (t ∷ rs) h p q =
    let r = known_by m switches before in
    elim (connecting.tells_boards m switches r (length before) t.states t.note) [
      | inl quiet ↦
          let on = quiet.1 h.0.goes_on (lining.noted_phase m t.note r ∙ p) in
          let e = find_ended m switches (came_in t ∷ before) rs h.1 on q in
          record { past = t ∷ e.past; turn = e.turn; later = e.later; are = ap (λ (z : List ReactorTurn). t ∷ z) e.are; goes_on = e.goes_on; word_is = e.word_is; ends = e.ends }
      | inr x ↦ record { past = []; turn = t; later = rs; are = refl; goes_on = h.0.goes_on; word_is = h.0.word_is; ends = x }
    ]

fit_one : (b : BoardDef) (clock : BoardClock) (turns : List BoardTurn) (k : ℕ) (l : Line) → clock.freq ≡ b.freq → length turns ≤ k → IsSampled clock turns l → is_fit b k l ≡ true
fit_one b clock turns k l freq long x = search (rules, told_before, and_from, nat_le, turn_ns, is_equal, is_le, mul-mod_left)

fit_all : (boards : List BoardDef) (k : ℕ) (lines : List Line) → length lines ≡ length boards → ((b : ℕ) → b < length boards → (l : Line) → line_at b lines ≡ l ∷ [] → is_fit (get_or boards b no_board) k l ≡ true) → are_fit boards k lines ≡ true
fit_all [] k [] long each = refl
fit_all [] k (l ∷ lines) long each = absurd (omega (arith, long))
fit_all (d ∷ boards) k [] long each = absurd (omega (arith, long))
fit_all (d ∷ boards) k (l ∷ lines) long each = and_from (is_fit d k l) (are_fit boards k lines) (each 0 (omega arith) l refl) (fit_all boards k lines (omega (arith, long)) (λ b low x e. each (suc b) (omega (arith, low)) x e))

lines_long : (m : Machine) (b : ℕ) (askings : List Asking) → length (board_lines m b askings) ≡ length askings
lines_long m b [] = refl
lines_long m b (a ∷ askings) = ap suc (lines_long m (b + 1) askings)

-- a word that is told stands among the first ones, where a later one does
early_word : (xs ys before : List WordMsg) (w : WordMsg) (behind_words : List WordMsg) → xs ++ ys ≡ before ++ w ∷ behind_words → length before < length xs → Among w xs
early_word [] ys before w later e low = absurd (omega (arith, low))
early_word (x ∷ xs) ys [] w later e low = inl (let f : x ∷ (xs ++ ys) ≡ w ∷ later = e in let same : x ≡ w = cc in same)
early_word (x ∷ xs) ys (b ∷ before) w later e low =
    let f : x ∷ (xs ++ ys) ≡ b ∷ (before ++ w ∷ later) = e in
    let rest : xs ++ ys ≡ before ++ w ∷ later = cc in
    inr (early_word xs ys before w later rest (omega (arith, low)))

words_cut : (past : List ReactorTurn) (turn : ReactorTurn) (later : List ReactorTurn) → gather (λ x. x.word ∷ []) (past ++ turn ∷ later) ≡ gather (λ x. x.word ∷ []) past ++ turn.word ∷ gather (λ x. x.word ∷ []) later
words_cut [] turn later = refl
words_cut (r ∷ past) turn later = ap (λ (z : List WordMsg). r.word ∷ z) (words_cut past turn later)

word_heard : (m : Machine) (k : ℕ) (w : WordMsg) (ws : List WordMsg) (clocks : List Clocks) → told_of m w ≡ Some clocks → Among w ws → (o : Option Told) → connecting_heard m k ws o ≡ None → ⊥
word_heard m k w [] clocks tells among o e = among
word_heard m k w (x ∷ ws) clocks tells among (Some t) e = (let f : Some t ≡ None = sym (heard_some m k ws t) ∙ e in cc)
word_heard m k w (x ∷ ws) clocks tells (inl same) None e =
    let own : told_of m x ≡ Some clocks = ap (told_of m) same ∙ tells in
    let t : Told = record { first = first_start (max k x.turn); clocks = clocks } in
    let At : Option (List Clocks) → Type 0 = λ o. connecting_heard m k ws (told_at (max k x.turn) o) ≡ None in
    let f : Some t ≡ None = sym (heard_some m k ws t) ∙ subst At own e in
    cc
word_heard m k w (x ∷ ws) clocks tells (inr among) None e = word_heard m k w ws clocks tells among (heard m k x None) e

told_some : (m : Machine) (k : ℕ) (ts : List MotionTurn) (t : Told) → planned.told_of m k ts (Some t) ≡ None → ⊥
told_some m k [] t e = (let f : Some t ≡ None = e in cc)
told_some m k (x ∷ ts) t e =
    let At : Option Told → Type 0 = λ o. planned.told_of m (k + 1) ts (told_on x.note.news o) ≡ None in
    told_some m (k + 1) ts (record { first = t.first; clocks = noted_lines x.note.news t.clocks }) (subst At (heard_some m k x.words t) e)

made_told : (m : Machine) (k : ℕ) (ts : List MotionTurn) (w : WordMsg) (clocks : List Clocks) → told_of m w ≡ Some clocks → Among w (words_in ts) → planned.told_of m k ts None ≡ None → ⊥
made_told m k [] w clocks tells among e = among
made_told m k (t ∷ ts) w clocks tells among e = by (connecting_heard m k t.words None) refl (among_either w t.words (words_in ts) among) (λ a f. made_told m (k + 1) ts w clocks tells a f)
  where
    by : (o : Option Told) → connecting_heard m k t.words None ≡ o → Among w t.words ⊎ Among w (words_in ts) → (Among w (words_in ts) → planned.told_of m (k + 1) ts None ≡ None → ⊥) → ⊥
    by (Some y) is a later =
        let Behind : Option Told → Type 0 = λ o. planned.told_of m (k + 1) ts (told_on t.note.news o) ≡ None in
        told_some m (k + 1) ts (record { first = y.first; clocks = noted_lines t.note.news y.clocks }) (subst Behind is e)
    by None is (inl a) later = word_heard m k w t.words clocks tells a None is
    by None is (inr a) later = (let Behind : Option Told → Type 0 = λ o. planned.told_of m (k + 1) ts (told_on t.note.news o) ≡ None in later a (subst Behind is e))

-- a word of connecting is that of its turn
word_turn : (m : Machine) (r : Known) (k : ℕ) (states : List State) (x : Reacted) (lines : List Line) → turning.Goes m r k states x → x.ordered.word.news ≡ word.Lines lines ∷ [] → r.phase ≡ Connecting → x.ordered.word.turn ≡ k
word_turn m r k states x lines (inl a) news phase = absurd (let e : [] ≡ word.Lines lines ∷ [] = sym (ap (λ (y : Reacted). y.ordered.word.news) a.is) ∙ news in cc)
word_turn m r k states x lines (inr (inl a)) news phase = ap (λ (y : Reacted). y.ordered.word.turn) a.is
word_turn m r k states x lines (inr (inr a)) news phase = absurd (let e : Running ≡ Connecting = sym a.phase ∙ phase in cc)

word_tells : (m : Machine) (w : WordMsg) (k : ℕ) (lines : List Line) → w.turn ≡ k → k < 2 ^ 61 → w.news ≡ word.Lines lines ∷ [] → are_fit m.boards k lines ≡ true → told_of m w ≡ Some (map one_line lines)
word_tells m w k lines at low news fit = search (rules, nat_lt, is_less, one_line)

module _ (m : Machine) (v : IsValidMachine m) (s : Scene) (ts : List MotionTurn) (p : Plans m (length m.boards) ts) (end : ReactorTurn) (c : Cause) (first : ReactorTurn) (rest : List ReactorTurn) (f : Facts m s ts (first ∷ rest) end c) (untold : p.seen.told ≡ None) where
  -- a board's line, where connecting ended in a turn, is that of a sample
  board_sampled : (past : List ReactorTurn) (turn : ReactorTurn) (later : List ReactorTurn) (lines : List Line) → first ∷ rest ≡ past ++ turn ∷ later → (last_reacted m s.switches (came_in turn) (came_from [] past)).ordered.word.news ≡ word.Lines lines ∷ []
      → (b : ℕ) → b < length m.boards → (l : Line) → line_at b lines ≡ l ∷ [] → is_fit (get_or m.boards b no_board) (length (came_from [] past)) l ≡ true
  board_sampled past turn later lines are news b low l at =
      let w = f.boards b first rest low refl in
      let pins = pins_of (board_at m b) b s.switches in
      let turns = turns_behind [] w.made in
      let before = came_from [] past in
      let clock = clock_of (board_at m b) in
      let Run : List Came → Type 0 = λ z. IsInRun m s.switches pins s.entries b z turns in
      let run_first : IsInRun m s.switches pins s.entries b (came_before [] (first ∷ rest ++ end ∷ [])) turns = record { board = low; goes_on = w.goes_on; turns_are = w.turns_are; both = w.both; in_range = w.in_range } in
      let run = subst Run (came_cut [] first rest end) run_first in
      let came_is = ap (came_from []) are ∙ came_split [] past turn later in
      let g = front_of m v s.switches pins s.entries b (came_in turn ∷ before) later turns (subst Run came_is run) in
      let x = one_less m v s.switches pins s.entries b (came_in turn) before g.front g.run in
      let told = lining.told_lines m s.switches pins s.entries b (came_in turn) before x.0 x.1 x.3 in
      let News : List WordNews → Type 0 = λ ns. All (IsSampled clock x.1) (lines_told b ns) in
      let Lines : List Line → Type 0 = λ ls. All (IsSampled clock x.1) (ls ++ []) in
      let own : IsSampled clock x.1 l = All-head (IsSampled clock x.1) l [] (subst Lines at (subst News news told)) in
      let long = lining.as_long m s.switches b before x.1 x.4.both in
      fit_one (get_or m.boards b no_board) clock x.1 (length before) l refl (omega (arith, long)) own

  never : (turn board : ℕ) (line : Line) (from : ℕ) → IsOf (words_in p.made) turn board line from → ⊥
  never turn board line from x =
      let by = word_said m s.switches f.ahead ts p.made p.bare (first ∷ rest) f.words_left p.are f.turns f.words x.word board line x.among x.heard in
      let Heard : WordMsg → Type 0 = λ y. WasHeard board line (lines_in y.news) in
      let run = heard_running m s.switches (came_in by.turn) (came_from [] by.past) board line by.goes_on (subst Heard by.word_is x.heard) in
      let Turns : List ReactorTurn → Type 0 = λ z. AreReactorTurns m s.switches [] z in
      let parts = turns_cut m s.switches [] by.past (by.turn ∷ by.later) (subst Turns by.are f.turns) in
      let e = find_ended m s.switches [] by.past parts.0 refl run in
      let others = e.later ++ by.turn ∷ by.later in
      let all_are : first ∷ rest ≡ e.past ++ e.turn ∷ others = by.are ∙ ap (λ (z : List ReactorTurn). z ++ by.turn ∷ by.later) e.are ∙ append_assoc e.past (e.turn ∷ e.later) (by.turn ∷ by.later) in
      let before = came_from [] e.past in
      let k = length before in
      let r = known_by m s.switches before in
      let now = noted m e.turn.note r in
      let lines = e.ends.lines in
      let y = last_reacted m s.switches (came_in e.turn) before in
      let goes = turning.goes m s.switches r k e.turn.states e.turn.note e.goes_on in
      let same = told_lines m now k e.turn.states y lines goes e.ends.news e.ends.before in
      let askings = ready_all m 0 (listen_all now.askings.items e.turn.states) in
      let count : length askings ≡ length m.boards = readied m 0 (listen_all now.askings.items e.turn.states) ∙ listened now.askings.items e.turn.states ∙ ap (λ z. length z.items) (lining.noted_askings m e.turn.note r) ∙ (whole_by m s.switches before).askings in
      let many : length lines ≡ length m.boards = ap length same ∙ lines_long m 0 askings ∙ count in
      let fit = fit_all m.boards k lines many (board_sampled e.past e.turn others lines all_are e.ends.news) in
      let made = length-map p.made put_of in
      let small = p.small in
      let tail = length-append rest (end ∷ []) in
      let own = few m v s ts p end c first rest f in
      let long_by = ap length by.are ∙ length-append by.past (by.turn ∷ by.later) in
      let long_e = ap length e.are ∙ length-append e.past (e.turn ∷ e.later) in
      let came_e = came_long [] e.past in
      let came_by = came_long [] by.past in
      let low : k < 2 ^ 61 = omega (arith, made, small, tail, own, long_by, long_e, came_e) in
      let at = ap (λ (z : WordMsg). z.turn) e.word_is ∙ word_turn m now k e.turn.states y lines goes e.ends.news e.ends.before in
      let tells = word_tells m e.turn.word k lines at low (ap (λ (z : WordMsg). z.news) e.word_is ∙ e.ends.news) fit in
      let words = λ (z : List MotionTurn). gather (λ (t : MotionTurn). t.words) z in
      let said = λ (z : List ReactorTurn). gather (λ (t : ReactorTurn). t.word ∷ []) z in
      let last = last_words (length (first ∷ rest)) f.ahead in
      let numbered = made_numbered m s.switches f.ahead (first ∷ rest) ts p.made p.bare f.words_left p.are f.turns f.words in
      let inside = (among_number 0 (words_in p.made) x.word numbered x.among).1 in
      let number = by.number in
      let size = words_long e.past in
      let cut : words p.made ++ (words p.bare ++ f.words_left) ≡ said e.past ++ e.turn.word ∷ (said others ++ last) =
      sym (append_assoc (words p.made) (words p.bare) f.words_left) ∙ (ap (λ z. z ++ f.words_left) (sym (gather_words p.made p.bare)) ∙ (ap (λ z. words z ++ f.words_left) (sym p.are)
      ∙ (sym f.words ∙ (ap (λ z. said z ++ last) all_are ∙ (ap (λ z. z ++ last) (words_cut e.past e.turn others) ∙ append_assoc (said e.past) (e.turn.word ∷ said others) last))))) in
      let among = early_word (words p.made) (words p.bare ++ f.words_left) (said e.past) e.turn.word (said others ++ last) cut (omega (arith, inside, number, size, long_e, came_by)) in
      made_told m 0 p.made e.turn.word (map one_line lines) tells among (sym p.told_is ∙ untold)

  pub untold_none : NoneDrifts (gather (λ t. t.lines) (first ∷ (rest ++ end ∷ [])))
  untold_none =
      let numbered = made_numbered m s.switches f.ahead (first ∷ rest) ts p.made p.bare f.words_left p.are f.turns f.words in
      let quiet = made_quiet (words_in p.made) 0 p.made never (all_noted m p.seen.text p.seen.begun 0 0 None [] p.made refl p.put p.lines p.ahead numbered) in
      runs_plain m s.switches ts (first ∷ rest) end f.known (length (came_from [] (first ∷ rest))) f.notes_left (plans_quiet m (length m.boards) ts p quiet) f.turns f.lines_are f.notes
