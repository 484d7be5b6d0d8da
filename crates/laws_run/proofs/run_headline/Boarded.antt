-- Each board of a whole run, as the law of its lines asks for it.
use Rattle.std.proofs.Common.{◌≡◌, ℕ, zero, suc, ◌+◌, ◌*◌, ◌^◌, ◌<◌, ◌≤◌, ℤ, pos, negsuc, ◌≤ℤ◌, List, [], ◌∷◌, ◌++◌, All, get_or, map, take, length, None, Some, refl, ap, sym, ◌∙◌, subst, arith, inl, inr, append_assoc, length-append, rules}
use Rattle.std.proofs.lemmas.Int.{ints}
use Rattle.laws_board.proofs.Names.{length-map, All-head, All-tail, BoardDef, Machine, BoardClock, Held, Line, Clocks, one_line, AreKept, clock_of, turn_ns, IsValidMachine, board_at, stepper_at, State, WordMsg, Scene, AllKeepLimits, orders, pins_of, Orders, Came, known_by, last_reacted, parts_on, Told, MotionTurn, ReactorTurn, gather, units_orders, clocks_at}
use Rattle.laws_board.specs.clocks.Samples.{IsSampled}
use Rattle.laws_board.specs.orders.Renewed.{AreSampled, NoneBefore}
use Rattle.plan_types.specs.Machines.{IsValidBoard, no_board}
use Rattle.clock_line.specs.Samples.{ppm_size}
use Rattle.laws_board.specs.turns.Turns.{BoardTurn, stands_after}
use Rattle.laws_board.specs.clocks.Runs.{IsInRun, UnitsFit, orders_in}
use Rattle.laws_board.proofs.clocks.Lines.{as_long, told_lines}
use Rattle.motion_work.specs.Seen.{AreMoves}
use Rattle.motion_work.specs.Further.{WasHeard, noted_lines}
use Rattle.motion_work.specs.Told.{lines_in, told_of}
use Rattle.session_work.specs.Leads.{last_words}
use Rattle.session_run.specs.Boards.{AreReactorTurns, came_from, came_in}
use Rattle.board_world.specs.World.{on_wire}
use Rattle.link_work.specs.Limits.{bytes_in}
use Rattle.plan_types.specs.Sections.{first_start}
use Rattle.laws_board.specs.sections.Events.{AreOwn}
use Rattle.laws_board.specs.sections.Parts.{IsBoardRun, MakesIn}
use Rattle.laws_board.proofs.orders.Going.{own_on}
use Rattle.laws_board.specs.sections.Links.{turns_told}
use Rattle.laws_board.proofs.sections.Calm.{calm_links}
use Rattle.laws_board.proofs.sections.HeededLinks.{few_heeded, ten_seconds}
use Rattle.laws_board.specs.sections.Timely.{ControlsKeep}
use Rattle.laws_run.specs.lanes.Boards.{IsInWhole, turns_behind, orders_of, states_of}
use Rattle.laws_run.specs.lanes.Turns.{came_before}
use Rattle.laws_board.specs.plans.Boards.{TookStates}
use Rattle.laws_board.specs.plans.Given.{TookControls}
use Rattle.laws_board.specs.plans.Planned.{AreKnown, Plans, puts_of, words_in}
use Rattle.laws_board.proofs.plans.Running.{all_sent, run_is, sections_are, sent_on}
use Rattle.laws_run.specs.clock_ages.Renewed.{StayYoung}
use Rattle.laws_run.proofs.clock_ages.Own.{AreRenewed, Own}
use Rattle.laws_run.specs.run_headline.Timely.{AreSound, HoldsLittle, IsTimelyIn, link_of}
use Rattle.laws_run.proofs.run_headline.Asked.{asked_late}
use Rattle.laws_run.proofs.run_headline.Holding.{may_each}
use Rattle.laws_run.proofs.run_headline.Fronts.{IsFirst, controlled, controls_limited, first_sampled, followed, front_of, one_less, sampled_later, stepper_made}
use Rattle.laws_run.proofs.run_headline.Further.{EachHeld, EachTold, noted_first, noted_grown, noted_long, told_more}
use Rattle.laws_run.proofs.run_headline.Near.{follow_clock, follows_clock}
use Rattle.laws_run.proofs.run_headline.Noting.{AllNoted, IsNoted, all_noted, line_among, noted_between, noted_later, word_said}
use Rattle.laws_run.proofs.run_headline.Plain.{AllMoves}
use Rattle.laws_run.proofs.run_headline.Steppers.{all_made}
use Rattle.laws_run.proofs.run_headline.Words.{Among, AreNumbered, Connected, HeardIn, Said, among_either, among_left, among_right, connected, gather_words, last_tells, line_is, made_numbered, news_in, said, turns_tell}
use Rattle.laws_run.proofs.run_headline.Earlier.{states_long}
use Rattle.laws_homing.proofs.clear_groups.Noted.{drift_small}

-- what came before the last turn
pub came_cut : (before : List Came) (r : ReactorTurn) (more : List ReactorTurn) (end : ReactorTurn) → came_before before (r ∷ more ++ end ∷ []) ≡ came_from before (r ∷ more)
came_cut before r [] end = refl
came_cut before r (x ∷ more) end = came_cut (came_in r ∷ before) x more end

pub came_split : (before : List Came) (xs : List ReactorTurn) (r : ReactorTurn) (ys : List ReactorTurn) → came_from before (xs ++ r ∷ ys) ≡ came_from (came_in r ∷ came_from before xs) ys
came_split before [] r ys = refl
came_split before (x ∷ xs) r ys = came_split (came_in x ∷ before) xs r ys

pub came_long : (before : List Came) (rs : List ReactorTurn) → length (came_from before rs) ≡ length before + length rs
came_long before [] = omega arith
came_long before (r ∷ rs) = let rec = came_long (came_in r ∷ before) rs in omega (arith, rec)

pub took : (b : ℕ) (rs : List ReactorTurn) (states : List State) → TookStates b rs states → TookStates b rs states
took b [] states t = t
took b (r ∷ rs) [] t = t
took b (r ∷ rs) (s ∷ states) t = (t.0, took b rs states t.1)

pub valid_at : (bs : List BoardDef) (b : ℕ) → b < length bs → All IsValidBoard bs → IsValidBoard (get_or bs b no_board)
valid_at [] b h a = absurd (omega (arith, h))
valid_at (x ∷ bs) zero h a = All-head IsValidBoard x bs a
valid_at (x ∷ bs) (suc b) h a = valid_at bs b (omega (arith, h)) (All-tail IsValidBoard x bs a)

-- a word of one of some turns
pub among_turn : (w : WordMsg) (past : List MotionTurn) (turn : MotionTurn) (later made : List MotionTurn) → made ≡ past ++ turn ∷ later → Among w turn.words → Among w (gather (λ x. x.words) made)
among_turn w past turn later made are a = search (rules, gather, gather_words, among_right, among_left)

-- the units of some turns keep their limit
abbrev pub AllFit : List Orders → Type 0
AllFit [] = Unit {0}
AllFit (o ∷ os) = (bytes_in (map on_wire (units_orders o.batch.units)) ≤ 210) × AllFit os

fit_front : (xs ys : List Orders) → AllFit (xs ++ ys) → AllFit xs × AllFit ys
fit_front [] ys a = (tt, a)
fit_front (x ∷ xs) ys a = let r = fit_front xs ys a.1 in ((a.0, r.0), r.1)

pub fit_of : (turns : List BoardTurn) → AllFit (orders_in turns) → UnitsFit turns
fit_of [] a = tt
fit_of (t ∷ before) a = let r = fit_front (orders_in before) (orders t.control t.batch ∷ []) a in (r.1.0, fit_of before r.0)

module _ (m : Machine) (v : IsValidMachine m) (s : Scene) (ts : List MotionTurn) (p : Plans m (length m.boards) ts) (t : Told) (first : ReactorTurn) (rest : List ReactorTurn) (end : ReactorTurn) (told : p.seen.told ≡ Some t) where
  -- A note of the planner told a further clock line, in turn 1,000 or later, and not before connecting ended; and a word of the reactor told
  -- it before.
  pub record IsSaid (ready board : ℕ) (line : Line) (from : ℕ) : Type 0 where
    pub turn : ℕ
    pub from_is : from ≡ (turn + 277) * turn_ns
    pub late : ready ≤ turn
    pub word : WordMsg
    pub said : Said m s.switches [] (first ∷ rest) word
    pub heard : WasHeard board line (lines_in word.news)
    pub asked : 1_000 ≤ turn
    pub there : board < length m.boards

  -- The turn of the reactor that told the planner the boards' first clock lines; the planner's notes told the further ones.
  pub record Ready : Type 0 where
    pub past : List ReactorTurn
    pub turn : ReactorTurn
    pub later : List ReactorTurn
    pub are : first ∷ rest ≡ past ++ turn ∷ later
    pub came_is : came_from [] (first ∷ rest) ≡ came_from (came_in turn ∷ came_from [] past) later
    pub heard : HeardIn m 0 p.made t
    pub is : Connected m (known_by m s.switches (came_from [] past)) (length (came_from [] past)) (last_reacted m s.switches (came_in turn) (came_from [] past)) heard.clocks
    pub early : length (came_from [] past) + 260 ≤ t.first
    pub first_is : t.first ≡ first_start (length (came_from [] past))
    pub number : length heard.past ≡ length (came_from [] past)
    pub further : EachTold (IsSaid (length (came_from [] past))) (news_in (heard.turn ∷ heard.later))

  further_noted : (h : HeardIn m 0 p.made t) → AreNumbered 0 (gather (λ x. x.words) p.made) → EachTold (IsNoted (words_in p.made) (length h.past) (length p.made)) (news_in (h.turn ∷ h.later))
  further_noted h numbered =
      let told_all = all_noted m p.seen.text p.seen.begun 0 0 None [] p.made refl p.put p.lines p.ahead numbered in
      let all = subst (AllNoted (words_in p.made) 0) h.are told_all in
      let size = ap length h.are ∙ length-append h.past (h.turn ∷ h.later) in
      let e : 0 + length h.past ≡ length h.past = omega arith in
      noted_between (words_in p.made) (length h.past) (length h.past) (length p.made) (h.turn ∷ h.later) (omega arith) (omega (arith, size))
      (subst (λ i. AllNoted (words_in p.made) i (h.turn ∷ h.later)) e (noted_later (words_in p.made) 0 h.past (h.turn ∷ h.later) all))

  pub ready : (n : ℕ) (left : List WordMsg) → AreReactorTurns m s.switches [] (first ∷ rest) → gather (λ x. x.word ∷ []) (first ∷ rest) ++ last_words (length (first ∷ rest)) n ≡ gather (λ x. x.words) ts ++ left → Ready
  ready n left turns words =
      let numbered = made_numbered m s.switches n (first ∷ rest) ts p.made p.bare left p.are turns words in
      let h = turns_tell m 0 0 p.made t (omega arith) p.in_time p.in_range p.ahead numbered (sym p.told_is ∙ told) in
      let w = h.word in
      let In : List WordMsg → Type 0 = λ ws. Among w ws in
      let in_made = among_turn w h.past h.turn h.later p.made h.are h.among in
      let in_all = among_left w (gather (λ (x : MotionTurn). x.words) p.made) (gather (λ (x : MotionTurn). x.words) p.bare) in_made in
      let in_ts = subst In (ap (gather (λ (x : MotionTurn). x.words)) (sym p.are)) (subst In (sym (gather_words p.made p.bare)) in_all) in
      let in_put = subst In (sym words) (among_left w (gather (λ (x : MotionTurn). x.words) ts) left in_ts) in
      elim (among_either w (gather (λ (x : ReactorTurn). x.word ∷ []) (first ∷ rest)) (last_words (length (first ∷ rest)) n) in_put) [
        | inr l ↦ absurd (last_tells m h.clocks t.first (length (first ∷ rest)) n w h.tells l)
        | inl a ↦
            let q = said m s.switches [] (first ∷ rest) w tt turns a in
            let before = came_from [] q.past in
            let x = last_reacted m s.switches (came_in q.turn) before in
            let lines : told_of m x.ordered.word ≡ Some h.clocks = ap (told_of m) (sym q.word_is) ∙ h.tells.lines in
            let is = connected m s.switches (came_in q.turn) before h.clocks q.goes_on lines in
            let number : w.turn ≡ length before = ap (λ (y : WordMsg). y.turn) q.word_is ∙ is.turn in
            let place = h.number in
            record {
              past = q.past;
              turn = q.turn;
              later = q.later;
              are = q.are;
              came_is = ap (came_from []) q.are ∙ came_split [] q.past q.turn q.later;
              heard = h;
              is = is;
              early = omega (arith, h.tells.first_is, number);
              first_is = h.tells.first_is ∙ ap first_start number;
              number = omega (arith, place, number);
              further = told_more (IsNoted (words_in p.made) (length h.past) (length p.made)) (IsSaid (length before)) (news_in (h.turn ∷ h.later)) (λ board line from x.
                  let late = x.late in
                  let soon = x.is.soon in
                  let by = word_said m s.switches n ts p.made p.bare (first ∷ rest) left p.are turns words x.is.word board line x.is.among x.is.heard in
                  let own = by.number in
                  let Heard : WordMsg → Type 0 = λ y. WasHeard board line (lines_in y.news) in
                  let found = asked_late m s.switches (came_in by.turn) (came_from [] by.past) by.went_on by.goes_on board line (subst Heard by.word_is x.is.heard) in
                  let asked = found.0 in
                  record {
                    turn = x.turn;
                    from_is = x.is.from_is;
                    late = omega (arith, place, number, late);
                    word = x.is.word;
                    said = by;
                    heard = x.is.heard;
                    asked = omega (arith, asked, own, soon);
                    there = found.1;
                  }) (further_noted h numbered);
            }
      ]

  -- the turns of a board, as the laws of boards have them
  pub run_of : (b : ℕ) (w : IsInWhole m s.switches b (clock_of (board_at m b)) (link_of m s b) ts first (rest ++ end ∷ [])) → b < length m.boards
      → IsInRun m s.switches (pins_of (board_at m b) b s.switches) s.entries b (came_from [] (first ∷ rest)) (turns_behind [] w.made)
  run_of b w h = search (rules, pins_of, board_at, came_cut)

  -- the clock lines of a board of the run: each is that of a sample, they hold one after the other, and the further ones no earlier than
  -- 277 turns behind the end of connecting
  pub record Lined (b : ℕ) (turns : List BoardTurn) (ready : ℕ) : Type 0 where
    pub line : IsFirst m v s.switches (pins_of (board_at m b) b s.switches) s.entries b turns ready (clocks_at t.clocks b).first
    pub freq : (clocks_at t.clocks b).first.freq ≡ (board_at m b).freq
    pub kept : AreKept (clocks_at t.clocks b)
    pub sampled : AreSampled (clock_of (board_at m b)) turns (clocks_at t.clocks b).held
    pub none : NoneBefore ready (clocks_at t.clocks b).held
    pub late : NoneBefore t.first (clocks_at t.clocks b).held
    pub each : EachHeld (IsSaid ready b) (clocks_at t.clocks b).held

  line_sampled : (b : ℕ) (w : IsInWhole m s.switches b (clock_of (board_at m b)) (link_of m s b) ts first (rest ++ end ∷ [])) → b < length m.boards → (ready : ℕ) (line : Line) (from : ℕ) → IsSaid ready b line from
      → IsSampled (clock_of (board_at m b)) (turns_behind [] w.made) line
  line_sampled b w h n line from x =
      let clock = clock_of (board_at m b) in
      let pins = pins_of (board_at m b) b s.switches in
      let turns = turns_behind [] w.made in
      let q = x.said in
      let before = came_from [] q.past in
      let Run : List Came → Type 0 = λ c. IsInRun m s.switches pins s.entries b c turns in
      let came_is = ap (came_from []) q.are ∙ came_split [] q.past q.turn q.later in
      let f = front_of m v s.switches pins s.entries b (came_in q.turn ∷ before) q.later turns (subst Run came_is (run_of b w h)) in
      let l = one_less m v s.switches pins s.entries b (came_in q.turn) before f.front f.run in
      let told = told_lines m s.switches pins s.entries b (came_in q.turn) before l.0 l.1 l.3 in
      let Heard : WordMsg → Type 0 = λ y. WasHeard b line (lines_in y.news) in
      let own = line_among (IsSampled clock l.1) b line (last_reacted m s.switches (came_in q.turn) before).ordered.word.news (subst Heard q.word_is x.heard) told in
      let cut : turns ≡ (f.later ++ l.0 ∷ []) ++ l.1 = f.cut ∙ ap (λ y. f.later ++ y) l.2 ∙ sym (append_assoc f.later (l.0 ∷ []) l.1) in
      subst (λ y. IsSampled clock y line) (sym cut) (sampled_later m v s.switches pins s.entries b clock (f.later ++ l.0 ∷ []) l.1 line own)

  all_sampled : (clock : BoardClock) (turns : List BoardTurn) (ready b : ℕ) (held : List Held) → ((line : Line) (from : ℕ) → IsSaid ready b line from → IsSampled clock turns line) → EachHeld (IsSaid ready b) held → AreSampled clock turns held
  all_sampled clock turns n b [] f a = tt
  all_sampled clock turns n b (x ∷ held) f a = (f x.line x.from a.0, all_sampled clock turns n b held f a.1)

  none_before : (ready b : ℕ) (held : List Held) → EachHeld (IsSaid ready b) held → NoneBefore ready held
  none_before n b [] a = tt
  none_before n b (x ∷ held) a = let late = a.0.late in let from = a.0.from_is in omega (arith, late, from)

  none_late : (ready b : ℕ) (held : List Held) → t.first ≡ first_start ready → EachHeld (IsSaid ready b) held → NoneBefore t.first held
  none_late n b [] e a = tt
  none_late n b (x ∷ held) e a = let late = a.0.late in let asked = a.0.asked in let from = a.0.from_is in omega (arith, e, late, asked, from)

  -- the first line of a board is that which was told first
  pub first_same : (b : ℕ) (r : Ready) → b < length m.boards → (clocks_at t.clocks b).first ≡ (clocks_at r.heard.clocks b).first
  first_same b r h = search (rules, noted_long, clocks_at, noted_first)

  pub first_in_range : (b : ℕ) (r : Ready) → b < length m.boards → (clocks_at t.clocks b).first.clock < 2 ^ 62
  first_in_range b r h = subst (λ (x : Line). x.clock < 2 ^ 62) (sym (first_same b r h)) (r.heard.in_range b h)

  pub lined : (b : ℕ) (r : Ready) (w : IsInWhole m s.switches b (clock_of (board_at m b)) (link_of m s b) ts first (rest ++ end ∷ [])) → b < length m.boards → Lined b (turns_behind [] w.made) (length (came_from [] r.past))
  lined b r w h =
      let clock = clock_of (board_at m b) in
      let pins = pins_of (board_at m b) b s.switches in
      let turns = turns_behind [] w.made in
      let before = came_from [] r.past in
      let firsts = r.heard.clocks in
      let Run : List Came → Type 0 = λ c. IsInRun m s.switches pins s.entries b c turns in
      let f = front_of m v s.switches pins s.entries b (came_in r.turn ∷ before) r.later turns (subst Run r.came_is (run_of b w h)) in
      let l = one_less m v s.switches pins s.entries b (came_in r.turn) before f.front f.run in
      let long : length l.1 ≡ (length before) = sym (as_long m s.switches b before l.1 l.4.both) in
      let cut : turns ≡ f.later ++ l.0 ∷ l.1 = f.cut ∙ ap (λ y. f.later ++ y) l.2 in
      let first_is = first_sampled m v s.switches pins s.entries b before (came_in r.turn) l.0 l.1 f.later firsts l.3 r.is in
      let own = line_is (length before) b m.boards r.is.lines r.is.fit h in
      let one : clocks_at firsts b ≡ one_line own.0 = ap (λ cs. clocks_at cs b) r.is.clocks_are ∙ own.2 in
      let known = subst (AreKnown m) told p.known in
      let inside : b < length firsts = (let many = known.0.count in let grown = ap length r.heard.on ∙ noted_long (news_in (r.heard.turn ∷ r.heard.later)) firsts in omega (arith, many, grown, h)) in
      let news = news_in (r.heard.turn ∷ r.heard.later) in
      let g = noted_grown (IsSaid (length before)) news firsts b inside r.further in
      let clocks_is : clocks_at (noted_lines news firsts) b ≡ clocks_at t.clocks b = ap (λ cs. clocks_at cs b) (sym r.heard.on) in
      let same = first_same b r h in
      let held_is : g.more ≡ (clocks_at t.clocks b).held = sym (g.held ∙ ap (λ (c : Clocks). c.held ++ g.more) one) ∙ ap (λ (c : Clocks). c.held) clocks_is in
      let each = subst (EachHeld (IsSaid (length before) b)) held_is g.each in
      let First : List BoardTurn → ℕ → Line → Type 0 = λ y n x. IsFirst m v s.switches pins s.entries b y n x in
      record {
        line = subst (λ x. First turns (length before) x) (sym same) (subst (λ n. First turns n (clocks_at firsts b).first) long (subst (λ y. First y (length l.1) (clocks_at firsts b).first) (sym cut) first_is));
        freq = ap (λ (x : Line). x.freq) (same ∙ ap (λ (c : Clocks). c.first) one) ∙ own.3;
        kept = known.1 b h (first_in_range b r h);
        sampled = all_sampled clock turns (length before) b (clocks_at t.clocks b).held (line_sampled b w h (length before)) each;
        none = none_before (length before) b (clocks_at t.clocks b).held each;
        late = none_late (length before) b (clocks_at t.clocks b).held r.first_is each;
        each = each;
      }

  -- the clock lines of all boards are sound
  pub sound_of : (r : Ready) → ((b : ℕ) → b < length m.boards → IsInWhole m s.switches b (clock_of (board_at m b)) (link_of m s b) ts first (rest ++ end ∷ [])) → AreSound m t.clocks t.first
  sound_of r whole =
      let known = subst (AreKnown m) told p.known in
      let small = p.small in
      let count : length (puts_of p.made) ≡ length p.made = length-map p.made (λ (d : MotionTurn). record { batches = d.batches; note = d.note }) in
      let place = ap length r.heard.are ∙ length-append r.heard.past (r.heard.turn ∷ r.heard.later) in
      let number = r.number in
      let in_range = λ (b : ℕ) (h : b < length m.boards). first_in_range b r h in
      record {
        clocks_are = known.0;
        kept = λ b h. (lined b r (whole b h) h).kept;
        may = λ b h. may_each (clocks_at t.clocks b) (lined b r (whole b h) h).kept (known.0.lasting b h (in_range b h));
        behind = λ b h. (lined b r (whole b h) h).late;
        late = known.2;
        small = omega (arith, small, count, place, number, r.first_is);
        near = λ b h.
            let valid = valid_at m.boards b h v.boards in
            follows_clock (clock_of (board_at m b)) (turns_behind [] (whole b h).made) (clocks_at t.clocks b).first valid.freq.whole (drift_small (board_at m b).drift valid.drift_low valid.drift_high) (lined b r (whole b h) h).line.sampled;
        all_near = λ b h.
            let valid = valid_at m.boards b h v.boards in
            follow_clock (clock_of (board_at m b)) (turns_behind [] (whole b h).made) (clocks_at t.clocks b).held valid.freq.whole (drift_small (board_at m b).drift valid.drift_low valid.drift_high) (lined b r (whole b h) h).sampled;
      }

  -- where the clock lines of a board are renewed in time, they follow it
  pub lines_renewed : (b : ℕ) (r : Ready) (w : IsInWhole m s.switches b (clock_of (board_at m b)) (link_of m s b) ts first (rest ++ end ∷ [])) → b < length m.boards → StayYoung m b (clocks_at t.clocks b) (length rest)
      → AreRenewed m b (length rest) (length (came_from [] r.past)) (clocks_at t.clocks b)
  lines_renewed b r w h renewed =
      let own = lined b r w h in
      let size = ap length r.are ∙ length-append r.past (r.turn ∷ r.later) in
      let long = came_long [] r.past in
      record {
        all = turns_behind [] w.made;
        freq = (valid_at m.boards b h v.boards).freq;
        kept = own.kept;
        first = own.line.sampled;
        held = own.sampled;
        early = own.line.early;
        none = own.none;
        order = omega (arith, size, long);
        renewed = renewed;
      }

  -- what is known of a board whose clock lines are renewed in time
  record Placed (b ready : ℕ) (w : IsInWhole m s.switches b (clock_of (board_at m b)) (link_of m s b) ts first (rest ++ end ∷ [])) : Type 0 where
    count : length (orders_of w.made) ≡ length (rest ++ end ∷ [])
    is : IsBoardRun (Own m b (length rest)) (clocks_at t.clocks b) (board_at m b).freq (board_at m b).slots ready (parts_on m t.clocks p.seen.begun b) (orders_of w.made)
    run : IsInRun m s.switches (pins_of (board_at m b) b s.switches) s.entries b (came_from [] (first ∷ rest)) (turns_behind [] w.made)

  placed : (b : ℕ) (r : Ready) (w : IsInWhole m s.switches b (clock_of (board_at m b)) (link_of m s b) ts first (rest ++ end ∷ [])) → b < length m.boards → AreMoves p.seen.begun → AllMoves (came_from [] (first ∷ rest)) → length (rest ++ end ∷ []) ≤ length p.made
      → StayYoung m b (clocks_at t.clocks b) (length rest) → Placed b (length (came_from [] r.past)) w
  placed b r w h homes moves goes renewed =
      let pins = pins_of (board_at m b) b s.switches in
      let turns = turns_behind [] w.made in
      let parts = parts_on m t.clocks p.seen.begun b in
      let cut = came_cut [] first rest end in
      let before = came_from [] r.past in
      let run_first : IsInRun m s.switches pins s.entries b (came_before [] (first ∷ rest ++ end ∷ [])) turns = record { board = h; goes_on = w.goes_on; turns_are = w.turns_are; both = w.both; in_range = w.in_range } in
      let Run : List Came → Type 0 = λ c. IsInRun m s.switches pins s.entries b c turns in
      let run = subst Run cut run_first in
      let f = front_of m v s.switches pins s.entries b (came_in r.turn ∷ before) r.later turns (subst Run r.came_is run) in
      let l = one_less m v s.switches pins s.entries b (came_in r.turn) before f.front f.run in
      let long : length before ≡ length l.1 = as_long m s.switches b before l.1 l.4.both in
      let orders_cut : orders_in turns ≡ orders_in (l.0 ∷ l.1) ++ f.more = f.are ∙ ap (λ x. orders_in x ++ f.more) l.2 in
      let lines = followed m v s.switches pins s.entries b (length rest) (length before) (clocks_at t.clocks b) parts (lines_renewed b r w h renewed) in
      let made = λ (j : ℕ) (low : j < length m.steppers) (on : (stepper_at m j).board ≡ b).
      stepper_made m v s.switches pins s.entries b before (came_in r.turn) l.0 l.1 r.heard.clocks (orders_in turns) f.more l.3 r.is orders_cut j low on in
      let Made : List Orders → ℕ → Type 0 = λ os n. (j : ℕ) → j < length m.steppers → (stepper_at m j).board ≡ b → MakesIn (stepper_at m j).oid (take n os) in
      let made_here = subst (λ (n : ℕ). Made (orders_of w.made) n) (sym long) (subst (λ (os : List Orders). Made os (length l.1)) w.in_order made) in
      let Fronts : List Orders → Type 0 = λ os. (done : List Orders) (o : Orders) (more : List Orders) → os ≡ done ++ o ∷ more → AllKeepLimits done in
      let count = length-map w.made (λ (x : BoardTurn). orders x.control x.batch) ∙ sym (length-map w.made (λ (x : BoardTurn). x.state)) ∙ states_long b (rest ++ end ∷ []) (states_of w.made) w.states in
      let controls = subst (λ (os : List Orders). TookControls os) w.in_order (controlled m v s.switches pins s.entries b (came_from [] (first ∷ rest)) turns run moves) in
      let all_made_here = λ (_ : length before ≤ length (orders_of w.made)). λ (oid : ℕ). all_made m v t b (take (length before) (orders_of w.made)) made_here p.seen.begun oid (sections_are m ts p t b h told homes) in
      let is = run_is m ts p t b (length before) (Own m b (length rest)) (orders_of w.made) h told homes (omega (arith, count, goes)) w.batches controls lines.tracked r.early lines.over all_made_here in
      record { count = count; is = is; run = run }

  own_to : (b : ℕ) → b < length m.boards → AreOwn (board_at m b) (length (rest ++ end ∷ [])) (Own m b (length rest))
  own_to b h = let size = length-append rest (end ∷ []) in own_on (board_at m b) (length (rest ++ end ∷ [])) (length rest + 349) (valid_at m.boards b h v.boards) (omega (arith, size))

  -- the control commands that are queued before the last turn keep their limits
  controls_before : (b : ℕ) (r : Ready) (w : IsInWhole m s.switches b (clock_of (board_at m b)) (link_of m s b) ts first (rest ++ end ∷ [])) → Placed b (length (came_from [] r.past)) w
      → (done : List Orders) (o : Orders) (more : List Orders) → orders_of w.made ≡ done ++ o ∷ more → ControlsKeep done
  controls_before b r w x =
      let Fronts : List Orders → Type 0 = λ os. (done : List Orders) (o : Orders) (more : List Orders) → os ≡ done ++ o ∷ more → ControlsKeep done in
      subst Fronts w.in_order (controls_limited m v s.switches (pins_of (board_at m b) b s.switches) s.entries b (came_from [] (first ∷ rest)) (turns_behind [] w.made) x.run)

  -- a board that is spoiled little is timely, whether or not a unit was sent late
  pub few_near : (b : ℕ) (r : Ready) (w : IsInWhole m s.switches b (clock_of (board_at m b)) (link_of m s b) ts first (rest ++ end ∷ [])) → b < length m.boards → AreMoves p.seen.begun → AllMoves (came_from [] (first ∷ rest)) → length (rest ++ end ∷ []) ≤ length p.made
      → StayYoung m b (clocks_at t.clocks b) (length rest) → HoldsLittle m s b ts first (rest ++ end ∷ []) w → IsTimelyIn m s b ts first (rest ++ end ∷ []) w
  few_near b r w h homes moves goes renewed little =
      let x = placed b r w h homes moves goes renewed in
      let def = board_at m b in
      let clock = clock_of def in
      let pins = pins_of def b s.switches in
      let parts = parts_on m t.clocks p.seen.begun b in
      let after = stands_after (link_of m s b) (turns_behind [] w.made) in
      let all = turns_told clock 0 (orders_of w.made) (states_of w.made) (link_of m s b) after w.told in
      few_heeded def pins b s.entries (Own m b (length rest)) (clocks_at t.clocks b) (length (came_from [] r.past)) 10_000 (length p.made) parts (orders_of w.made) after all (subst (λ n. AreOwn def n (Own m b (length rest))) (sym x.count) (own_to b h)) x.is (sent_on m t.clocks (length p.made) b p.seen.begun h homes (all_sent m (length m.boards) ts p t told)) (omega (arith, x.count, goes))
      (controls_before b r w x)
      (λ k. elim little.few [ inl e ↦ omega (arith, calm_links clock def pins b s.entries (orders_of w.made) after all k e) | inr f ↦ f k ]) (ten_seconds def (length (rest ++ end ∷ [])) 10_000 (Own m b (length rest)) (own_to b h) (omega arith))
