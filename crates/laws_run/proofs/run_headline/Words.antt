-- Which word told the planner the boards' clock lines.
use Rattle.std.proofs.Common.{◌≡◌, ℕ, zero, suc, ◌+◌, ◌<◌, ◌≤◌, ◌^◌, ◌⊎◌, Bool, true, false, cond, List, [], ◌∷◌, ◌++◌, map, length, Option, Some, None, get_or, refl, ap, sym, ◌∙◌, subst, arith, inl, inr, append_assoc}
use Rattle.std.specs.Prelude.{◌&&◌, ◌==◌, max, nat_lt, not}
use Rattle.laws_board.proofs.Names.{BoardDef, Machine, Line, Clocks, one_line, eqb_tells, clocks_at, NoteNews, State, WordMsg, Switch, Asking, listen_all, ready_all, homing_turn, Known, Connecting, noted, Reacted, Came, GoesOn, known_by, last_reacted, Told, MotionTurn, ReactorTurn, gather}
use Rattle.plan_types.specs.Machines.{no_board}
use Rattle.plan_types.specs.Sections.{first_start}
use Rattle.msg_code.specs.declared.talk.WordNews.{WordNews}
use Rattle.msg_code.specs.declared.talk.WordNews.TheVariants as word
use Rattle.board_asking.specs.Asking.{is_out}
use Rattle.board_asking.specs.Connecting.{board_line, board_lines}
use Rattle.board_asking.specs.Drift.{new_line, new_lines}
use Rattle.host_reactor.specs.declared.ordered.Phase.TheVariants.{Running}
use Rattle.host_reactor.specs.Reactor.{homed}
use Rattle.laws_board.specs.clocks.Samples.{line_at}
use Rattle.laws_board.proofs.clocks.Lines.{noted_phase}
use Rattle.laws_board.proofs.clocks.Turning.{Goes, goes}
use Rattle.motion_work.specs.Further.{noted_lines, told_on}
use Rattle.motion_work.specs.Told.{are_fit, first_told, is_fit, told_at, told_in, told_of}
use Rattle.motion_work.specs.Told.{word_limit as last_word}
use Rattle.session_work.specs.Leads.{each_turn, last_words, still_word}
use Rattle.session_work.specs.Bares.{bare_word}
use Rattle.session_run.specs.Boards.{AreReactorTurns, came_from, came_in}
use Rattle.laws_board.specs.plans.Planned as planned
use Rattle.laws_board.specs.plans.Answers.{TookNoneAhead}
use Rattle.laws_board.specs.plans.Planned.{AnyEnds, connecting_heard}
use Rattle.laws_board.proofs.plans.Planning.{heard_some}
use Rattle.motion_stream.proofs.Uptaking.{noted_both}

-- a word is among some
abbrev pub Among : WordMsg → List WordMsg → Type 0
Among w [] = ⊥
Among w (x ∷ xs) = (x ≡ w) ⊎ Among w xs

pub among_left : (w : WordMsg) (xs ys : List WordMsg) → Among w xs → Among w (xs ++ ys)
among_left w [] ys h = absurd h
among_left w (x ∷ xs) ys (inl e) = inl e
among_left w (x ∷ xs) ys (inr h) = inr (among_left w xs ys h)

pub among_right : (w : WordMsg) (xs ys : List WordMsg) → Among w ys → Among w (xs ++ ys)
among_right w [] ys h = h
among_right w (x ∷ xs) ys h = inr (among_right w xs ys h)

pub among_either : (w : WordMsg) (xs ys : List WordMsg) → Among w (xs ++ ys) → Among w xs ⊎ Among w ys
among_either w [] ys h = inr h
among_either w (x ∷ xs) ys (inl e) = inl (inl e)
among_either w (x ∷ xs) ys (inr h) = elim (among_either w xs ys h) [ inl a ↦ inl (inr a) | inr a ↦ inr a ]

-- a word told these lines, and the first section may start 260 turns behind it, but not before turn 1,260
pub record Tells (m : Machine) (clocks : List Clocks) (ready : ℕ) (w : WordMsg) : Type 0 where
  pub lines : told_of m w ≡ Some clocks
  pub first_is : ready ≡ first_start w.turn

-- words of which each has the number of its place for its turn
abbrev pub AreNumbered : ℕ → List WordMsg → Type 0
AreNumbered i [] = Unit {0}
AreNumbered i (w ∷ ws) = (w.turn ≡ i) × AreNumbered (i + 1) ws

numbered_parts : (i n : ℕ) (xs ys : List WordMsg) → i + length xs ≡ n → AreNumbered i (xs ++ ys) → AreNumbered i xs × AreNumbered n ys
numbered_parts i n [] ys e h = let same : i ≡ n = omega (arith, e) in (tt, subst (λ (k : ℕ). AreNumbered k ys) same h)
numbered_parts i n (x ∷ xs) ys e h = let r = numbered_parts (i + 1) n xs ys (omega (arith, e)) h.1 in ((h.0, r.0), r.1)

numbered_both : (i n : ℕ) (xs ys : List WordMsg) → i + length xs ≡ n → AreNumbered i xs → AreNumbered n ys → AreNumbered i (xs ++ ys)
numbered_both i n [] ys e a b = let same : n ≡ i = omega (arith, e) in subst (λ (k : ℕ). AreNumbered k ys) same b
numbered_both i n (x ∷ xs) ys e a b = (a.0, numbered_both (i + 1) n xs ys (omega (arith, e)) a.1 b)

-- so those of the reactor
goes_turn : (m : Machine) (r : Known) (k : ℕ) (states : List State) (x : Reacted) → Goes m r k states x → x.ordered.word.turn ≡ k
goes_turn m r k states x (inl a) = ap (λ (y : Reacted). y.ordered.word.turn) a.is
goes_turn m r k states x (inr (inl a)) = ap (λ (y : Reacted). y.ordered.word.turn) a.is
goes_turn m r k states x (inr (inr a)) = ap (λ (y : Reacted). y.ordered.word.turn) a.is

turns_numbered : (m : Machine) (switches : List Switch) (k : ℕ) (before : List Came) (rs : List ReactorTurn) → length before ≡ k → AreReactorTurns m switches before rs → AreNumbered k (gather (λ t. t.word ∷ []) rs)
turns_numbered m switches k before [] e h = tt
turns_numbered m switches k before (t ∷ rs) e h =
    let r = known_by m switches before in
    let x = last_reacted m switches (came_in t) before in (
      ap (λ (w : WordMsg). w.turn) h.0.word_is ∙ goes_turn m (noted m t.note r) (length before) t.states x (goes m switches r (length before) t.states t.note h.0.goes_on) ∙ e,
      turns_numbered m switches (k + 1) (came_in t ∷ before) rs (omega (arith, e)) h.1,
    )

pub words_long : (rs : List ReactorTurn) → length (gather (λ t. t.word ∷ []) rs) ≡ length rs
words_long [] = refl
words_long (t ∷ rs) = ap suc (words_long rs)

last_numbered : (k j n : ℕ) → k + n ≡ j → AreNumbered k (each_turn still_word k n ++ bare_word j true ∷ [])
last_numbered k j zero e = (omega (arith, e), tt)
last_numbered k j (suc n) e = (refl, last_numbered (k + 1) j n (omega (arith, e)))

pub gather_words : (xs ys : List MotionTurn) → gather (λ t. t.words) (xs ++ ys) ≡ gather (λ t. t.words) xs ++ gather (λ t. t.words) ys
gather_words [] ys = refl
gather_words (x ∷ xs) ys = ap (λ z. x.words ++ z) (gather_words xs ys) ∙ sym (append_assoc x.words (gather (λ (t : MotionTurn). t.words) xs) (gather (λ (t : MotionTurn). t.words) ys))

-- and those that the planner takes
pub made_numbered : (m : Machine) (switches : List Switch) (n : ℕ) (rs : List ReactorTurn) (ts made bare : List MotionTurn) (left : List WordMsg) → ts ≡ made ++ bare → AreReactorTurns m switches [] rs
    → gather (λ t. t.word ∷ []) rs ++ last_words (length rs) n ≡ gather (λ t. t.words) ts ++ left → AreNumbered 0 (gather (λ t. t.words) made)
made_numbered m switches n rs ts made bare left are turns words =
    let put = gather (λ (t : ReactorTurn). t.word ∷ []) rs in
    let taken = gather (λ (t : MotionTurn). t.words) ts in
    let first = gather (λ (t : MotionTurn). t.words) made in
    let others = gather (λ (t : MotionTurn). t.words) bare in
    let long = words_long rs in
    let In : List WordMsg → Type 0 = λ ws. AreNumbered 0 ws in
    let all = numbered_both 0 (length rs) put (last_words (length rs) n) (omega (arith, long)) (turns_numbered m switches 0 [] rs refl turns) (last_numbered (length rs) (length rs + n) n refl) in
    let some = (numbered_parts 0 (length taken) taken left (omega arith) (subst In words all)).0 in
    (numbered_parts 0 (length first) first others (omega arith) (subst In (ap (gather (λ (t : MotionTurn). t.words)) are ∙ gather_words made bare) some)).0

-- the news of the notes of some turns
abbrev pub news_in : List MotionTurn → List NoteNews
news_in ts = gather (λ t. t.note.news) ts

pub told_grows : (m : Machine) (k : ℕ) (ts : List MotionTurn) (t : Told) → planned.told_of m k ts (Some t) ≡ Some (record { first = t.first; clocks = noted_lines (news_in ts) t.clocks })
told_grows m k [] t = refl
told_grows m k (x ∷ ts) t =
    let mid : Told = record { first = t.first; clocks = noted_lines x.note.news t.clocks } in
    ap (λ o. planned.told_of m (k + 1) ts (told_on x.note.news o)) (heard_some m k x.words t) ∙ told_grows m (k + 1) ts mid
    ∙ ap (λ (cs : List Clocks). Some (record { first = t.first; clocks = cs })) (sym (noted_both x.note.news (news_in ts) t.clocks))

words_tell : (m : Machine) (k i : ℕ) (ws : List WordMsg) (t : Told) → k ≤ i → AreNumbered i ws → connecting_heard m k ws None ≡ Some t → (w : WordMsg) × Among w ws × Tells m t.clocks t.first w
words_tell m k i [] t late n e = absurd (let f : None ≡ Some t = e in cc)
words_tell m k i (w ∷ ws) t late n e = by (told_of m w) refl (λ f. words_tell m k (i + 1) ws t (omega (arith, late)) n.1 f) e
  where
    by : (o : Option (List Clocks)) → told_of m w ≡ o → (connecting_heard m k ws None ≡ Some t → (x : WordMsg) × Among x ws × Tells m t.clocks t.first x) → connecting_heard m k ws (told_at (max k w.turn) o) ≡ Some t
        → (x : WordMsg) × Among x (w ∷ ws) × Tells m t.clocks t.first x
    by None is rec f = let r = rec f in (r.0, inr r.1, r.2)
    by (Some clocks) is rec f =
        let told : Told = record { first = first_start (max k w.turn); clocks = clocks } in
        let same : told ≡ t = (let g : Some told ≡ Some t = sym (heard_some m k ws told) ∙ f in cc) in
        let number = n.0 in
        let own : max k w.turn ≡ w.turn = omega (arith, number, late) in
        (w, inl refl, record { lines = is ∙ ap (λ (x : Told). Some x.clocks) same; first_is = sym (ap (λ (x : Told). x.first) same) ∙ ap first_start own })

pub among_number : (i : ℕ) (ws : List WordMsg) (w : WordMsg) → AreNumbered i ws → Among w ws → (i ≤ w.turn) × (w.turn < i + length ws)
among_number i [] w n a = absurd a
among_number i (x ∷ ws) w n (inl e) = let number = ap (λ (y : WordMsg). y.turn) (sym e) ∙ n.0 in (omega (arith, number), omega (arith, number))
among_number i (x ∷ ws) w n (inr a) = let r = among_number (i + 1) ws w n.1 a in let low = r.0 in let high = r.1 in (omega (arith, low), omega (arith, high))

-- In one of some turns of a planner, from turn k on, the word of the turn told it the first clock lines; the notes from that turn on told the
-- further ones.
pub record HeardIn (m : Machine) (k : ℕ) (ts : List MotionTurn) (t : Told) : Type 0 where
  pub past : List MotionTurn
  pub turn : MotionTurn
  pub later : List MotionTurn
  pub are : ts ≡ past ++ turn ∷ later
  pub word : WordMsg
  pub among : Among word turn.words
  pub clocks : List Clocks
  pub tells : Tells m clocks t.first word
  pub number : word.turn ≡ k + length past
  pub in_range : (b : ℕ) → b < length m.boards → (clocks_at clocks b).first.clock < 2 ^ 62
  pub on : t.clocks ≡ noted_lines (news_in (turn ∷ later)) clocks

-- the planner took it in the turn of its number
pub turns_tell : (m : Machine) (k taken : ℕ) (ts : List MotionTurn) (t : Told) → k ≤ taken → planned.TookInTime m k taken ts None → planned.AllInRange m k ts None → TookNoneAhead k taken ts → AreNumbered taken (gather (λ x. x.words) ts) → planned.told_of m k ts None ≡ Some t
    → HeardIn m k ts t
turns_tell m k taken [] t late in_time range ahead n e = absurd (let f : None ≡ Some t = e in cc)
turns_tell m k taken (x ∷ ts) t late in_time range ahead n e =
    by (connecting_heard m k x.words None) refl in_time.2 (λ here later rest parts f. turns_tell m (k + 1) (taken + length x.words) ts t (omega (arith, here)) later rest ahead.1 parts f) range.0 range.1 e
  where
    by : (o : Option Told) → connecting_heard m k x.words None ≡ o → planned.TookInTime m (k + 1) (taken + length x.words) ts (told_on x.note.news o)
        → (k < taken + length x.words → planned.TookInTime m (k + 1) (taken + length x.words) ts None → planned.AllInRange m (k + 1) ts None → AreNumbered (taken + length x.words) (gather (λ y. y.words) ts) → planned.told_of m (k + 1) ts None ≡ Some t → HeardIn m (k + 1) ts t)
        → planned.BeginInRange m o → planned.AllInRange m (k + 1) ts (told_on x.note.news o)
        → planned.told_of m (k + 1) ts (told_on x.note.news o) ≡ Some t → HeardIn m k (x ∷ ts) t
    by None is later rec here more f =
        let parts = numbered_parts taken (taken + length x.words) x.words (gather (λ (y : MotionTurn). y.words) ts) refl n in
        let r = rec (in_time.0 is) later more parts.1 f in
        let number = r.number in
        record { past = x ∷ r.past; turn = r.turn; later = r.later; are = ap (λ ys. x ∷ ys) r.are; word = r.word; among = r.among; clocks = r.clocks; tells = r.tells; number = omega (arith, number); in_range = r.in_range; on = r.on }
    by (Some told) is later rec here more f =
        let parts = numbered_parts taken (taken + length x.words) x.words (gather (λ (y : MotionTurn). y.words) ts) refl n in
        let r = words_tell m k taken x.words told late parts.0 is in
        let mid : Told = record { first = told.first; clocks = noted_lines x.note.news told.clocks } in
        let same : (record { first = told.first; clocks = noted_lines (news_in ts) (noted_lines x.note.news told.clocks) }) ≡ t = (let g : Some (record { first = told.first; clocks = noted_lines (news_in ts) mid.clocks }) ≡ Some t = sym (told_grows m (k + 1) ts mid) ∙ f in cc) in
        let in_range = among_number taken x.words r.0 parts.0 r.1 in
        let low = in_range.0 in
        let high = in_range.1 in
        let soon = ahead.0 in
        record {
          past = [];
          turn = x;
          later = ts;
          are = refl;
          word = r.0;
          among = r.1;
          clocks = told.clocks;
          tells = subst (λ (y : Told). Tells m told.clocks y.first r.0) same r.2;
          number = omega (arith, low, high, soon, late);
          in_range = here;
          on = sym (ap (λ (y : Told). y.clocks) same) ∙ sym (noted_both x.note.news (news_in ts) told.clocks);
        }

-- words without news tell none
pub none_of : (m : Machine) (b : Bool) (turn : ℕ) (news : List WordNews) (c : List Clocks) → told_in m turn news ≡ None → (cond b (told_in m turn news) None) ≡ Some c → ⊥
none_of m true turn news c e f = let g : None ≡ Some c = sym e ∙ f in cc
none_of m false turn news c e f = cc

bare_tells : (m : Machine) (clocks : List Clocks) (ready : ℕ) (k : ℕ) (end : Bool) (w : WordMsg) → bare_word k end ≡ w → Tells m clocks ready w → ⊥
bare_tells m clocks ready k end w same h =
    let At : WordMsg → Type 0 = λ x. told_of m x ≡ Some clocks in
    none_of m (nat_lt k last_word) k [] clocks refl (subst At (sym same) h.lines)

still_tells : (m : Machine) (clocks : List Clocks) (ready : ℕ) (k n : ℕ) (rest : List WordMsg) (w : WordMsg) → (Among w rest → ⊥) → Tells m clocks ready w → Among w (each_turn still_word k n ++ rest) → ⊥
still_tells m clocks ready k zero rest w none h a = none a
still_tells m clocks ready k (suc n) rest w none h (inl e) = bare_tells m clocks ready k false w e h
still_tells m clocks ready k (suc n) rest w none h (inr a) = still_tells m clocks ready (k + 1) n rest w none h a

pub last_tells : (m : Machine) (clocks : List Clocks) (ready : ℕ) (k n : ℕ) (w : WordMsg) → Tells m clocks ready w → Among w (last_words k n) → ⊥
last_tells m clocks ready k n w h a = still_tells m clocks ready k n (bare_word (k + n) true ∷ []) w last h a
  where
    last : Among w (bare_word (k + n) true ∷ []) → ⊥
    last (inl e) = bare_tells m clocks ready (k + n) true w e h
    last (inr z) = z

-- a word among those of the reactor's turns is that of one of them
pub record Said (m : Machine) (switches : List Switch) (before : List Came) (rs : List ReactorTurn) (w : WordMsg) : Type 0 where
  pub past : List ReactorTurn
  pub turn : ReactorTurn
  pub later : List ReactorTurn
  pub are : rs ≡ past ++ turn ∷ later
  pub word_is : w ≡ (last_reacted m switches (came_in turn) (came_from before past)).ordered.word
  pub goes_on : (last_reacted m switches (came_in turn) (came_from before past)).ordered.end ≡ None
  pub went_on : GoesOn m switches (came_from before past)
  pub number : w.turn ≡ length (came_from before past)

pub said : (m : Machine) (switches : List Switch) (before : List Came) (rs : List ReactorTurn) (w : WordMsg) → GoesOn m switches before → AreReactorTurns m switches before rs → Among w (gather (λ t. t.word ∷ []) rs) → Said m switches before rs w
said m switches before [] w g h a = absurd a
said m switches before (r ∷ rs) w g h (inl e) =
    let known = known_by m switches before in
    let x = last_reacted m switches (came_in r) before in
    record {
      past = [];
      turn = r;
      later = rs;
      are = refl;
      word_is = sym e ∙ h.0.word_is;
      goes_on = h.0.goes_on;
      went_on = g;
      number = ap (λ (y : WordMsg). y.turn) (sym e ∙ h.0.word_is) ∙ goes_turn m (noted m r.note known) (length before) r.states x (goes m switches known (length before) r.states r.note h.0.goes_on);
    }
said m switches before (r ∷ rs) w g h (inr a) =
    let s = said m switches (came_in r ∷ before) rs w (h.0.goes_on, g) h.1 a in
    record { past = r ∷ s.past; turn = s.turn; later = s.later; are = ap (λ x. r ∷ x) s.are; word_is = s.word_is; goes_on = s.goes_on; went_on = s.went_on; number = s.number }

-- a turn whose word tells lines ends connecting
new_line_none : (m : Machine) (turn b : ℕ) (x y : Asking) (rest : List WordNews) → told_in m turn (new_line m b x y ++ rest) ≡ told_in m turn rest
new_line_none m turn b x y rest = one (is_out x.since && not (is_out y.since))
  where
    one : (t : Bool) → told_in m turn (cond t (word.Line b (board_line m b y) ∷ []) [] ++ rest) ≡ told_in m turn rest
    one true = refl
    one false = refl

new_none : (m : Machine) (turn b : ℕ) (xs ys : List Asking) → told_in m turn (new_lines m b xs ys) ≡ None
new_none m turn b [] ys = refl
new_none m turn b (x ∷ xs) [] = refl
new_none m turn b (x ∷ xs) (y ∷ ys) = new_line_none m turn b x y (new_lines m (b + 1) xs ys) ∙ new_none m turn (b + 1) xs ys

homed_none : (m : Machine) (turn : ℕ) (o : Option ℕ) (rest : List WordNews) → told_in m turn (homed o ++ rest) ≡ told_in m turn rest
homed_none m turn None rest = refl
homed_none m turn (Some tick) rest = refl

fit_lines : (m : Machine) (b fit : Bool) (clocks made : List Clocks) → cond b (first_told (cond fit (Some made) None) None) None ≡ Some clocks → (fit ≡ true) × (clocks ≡ made)
fit_lines m true true clocks made e = (refl, let f : Some made ≡ Some clocks = e in cc)
fit_lines m true false clocks made e = cc
fit_lines m false fit clocks made e = cc

-- connecting ended in a turn, and its word told these lines
pub record Connected (m : Machine) (r : Known) (k : ℕ) (x : Reacted) (clocks : List Clocks) : Type 0 where
  pub phase : r.phase ≡ Connecting
  pub then : x.known.phase ≡ Running
  pub lines : List Line
  pub news : x.ordered.word.news ≡ word.Lines lines ∷ []
  pub turn : x.ordered.word.turn ≡ k
  pub fit : are_fit m.boards k lines ≡ true
  pub clocks_are : clocks ≡ map one_line lines

goes_tell : (m : Machine) (r : Known) (k : ℕ) (states : List State) (x : Reacted) (clocks : List Clocks) → Goes m r k states x → told_of m x.ordered.word ≡ Some clocks → Connected m r k x clocks
goes_tell m r k states x clocks (inl a) e =
    let At : Reacted → Type 0 = λ y. told_of m y.ordered.word ≡ Some clocks in
    absurd (none_of m (nat_lt k last_word) k [] clocks refl (subst At a.is e))
goes_tell m r k states x clocks (inr (inl a)) e =
    let At : Reacted → Type 0 = λ y. told_of m y.ordered.word ≡ Some clocks in
    let lines = board_lines m 0 (ready_all m 0 (listen_all r.askings.items states)) in
    let fit = fit_lines m (nat_lt k last_word) (are_fit m.boards k lines) clocks (map one_line lines) (subst At a.is e) in
    record {
      phase = a.phase;
      then = ap (λ (y : Reacted). y.known.phase) a.is;
      lines = lines;
      news = ap (λ (y : Reacted). y.ordered.word.news) a.is;
      turn = ap (λ (y : Reacted). y.ordered.word.turn) a.is;
      fit = fit.0;
      clocks_are = fit.1;
    }
goes_tell m r k states x clocks (inr (inr a)) e =
    let At : Reacted → Type 0 = λ y. told_of m y.ordered.word ≡ Some clocks in
    let askings = listen_all r.askings.items states in
    let news = new_lines m 0 r.askings.items askings in
    let cut = (homing_turn r.clocks k states r.homing).cut in
    absurd (none_of m (nat_lt k last_word) k (homed cut ++ news) clocks (homed_none m k cut news ∙ new_none m k 0 r.askings.items askings) (subst At a.is e))

pub connected : (m : Machine) (switches : List Switch) (c : Came) (before : List Came) (clocks : List Clocks) → (last_reacted m switches c before).ordered.end ≡ None → told_of m (last_reacted m switches c before).ordered.word ≡ Some clocks
    → Connected m (known_by m switches before) (length before) (last_reacted m switches c before) clocks
connected m switches c before clocks h e =
    let r = known_by m switches before in
    let x = last_reacted m switches c before in
    let d = goes_tell m (noted m c.note r) (length before) c.states x clocks (goes m switches r (length before) c.states c.note h) e in
    record { phase = sym (noted_phase m c.note r) ∙ d.phase; then = d.then; lines = d.lines; news = d.news; turn = d.turn; fit = d.fit; clocks_are = d.clocks_are }

-- the line of a board among them
pub line_is : (turn b : ℕ) (boards : List BoardDef) (lines : List Line) → are_fit boards turn lines ≡ true → b < length boards
    → (l : Line) × (line_at b lines ≡ l ∷ []) × (clocks_at (map one_line lines) b ≡ one_line l) × (l.freq ≡ (get_or boards b no_board).freq)
line_is turn b [] lines e h = absurd (omega (arith, h))
line_is turn b (d ∷ boards) [] e h = cc
line_is turn zero (d ∷ boards) (l ∷ lines) e h = (l, refl, refl, own (l.freq == d.freq) refl _ _ _ e)
  where
    own : (p : Bool) → (l.freq == d.freq) ≡ p → (q r z : Bool) → (((p && q) && r) && z) ≡ true → l.freq ≡ d.freq
    own true is q r z f = elim (eqb_tells l.freq d.freq) [ inl x ↦ x.1 | inr x ↦ absurd (let g : true ≡ false = sym is ∙ x.0 in cc) ]
    own false is q r z f = cc
line_is turn (suc b) (d ∷ boards) (l ∷ lines) e h = line_is turn b boards lines (both (is_fit d turn l) (are_fit boards turn lines) e) (omega (arith, h))
  where
    both : (p q : Bool) → (p && q) ≡ true → q ≡ true
    both true q e = e
    both false q e = cc
