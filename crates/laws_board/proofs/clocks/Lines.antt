-- The clock lines that a reactor tells, over the turns of a run.
use Rattle.std.proofs.Common.{◌≡◌, ℕ, zero, suc, ◌+◌, ◌-◌, ◌^◌, ◌<◌, ◌≤◌, inl, Bool, true, false, cond, not, List, [], ◌∷◌, ◌++◌, length, Option, Some, None, refl, ap, sym, ◌∙◌, subst, arith, append_assoc}
use Rattle.laws_board.proofs.Names.{eqb-true, All-cons, All-nil, BoardClock, BoardDef, Machine, Level, Line, board_tick, clock_of, Clocks, one_line, board_at, Cmd, News, Note, NoteNews, State, Entry, Switch, first_state, LinkState, Asking, Stage, Connected, ready, listen_all, asks_now, drifts, waits_in, configuration, homing_turn, Known, Phase, Connecting, noted, known_behind, told_all, Reacted, homing_commands, Came, known_by, last_reacted}
use Rattle.std.specs.List.{All}
use Rattle.std.specs.Prelude.{◌&&◌, ◌==◌, nat_lt, slice_index_or, slice_set}
use Rattle.clock_line.specs.Kept.{added}
use Rattle.clock_line.specs.Fits.{added_where, may_hold}
use Rattle.msg_code.specs.declared.cmd.Cmd.TheVariants as cmd
use Rattle.msg_code.specs.declared.talk.NoteNews.TheVariants as news
use Rattle.msg_code.specs.declared.talk.WordNews.{WordNews}
use Rattle.msg_code.specs.declared.talk.WordNews.TheVariants as word
use Rattle.link_work.proofs.Parts.{ticks_rise}
use Rattle.board_asking.specs.Asking.{after_asks, after_drift, answered, hears_first, is_connected, is_out, is_in_time, listens, more, new_asking, or_asking, sample_of, tells_clock, were_put}
use Rattle.board_asking.specs.Clocks.{added_at, no_clocks}
use Rattle.board_asking.specs.Connecting.{board_line, sample_or_none}
use Rattle.board_asking.specs.Drift.{after_question, is_asked_now, is_unanswered, new_line, new_lines}
use Rattle.host_reactor.specs.declared.ordered.Phase.TheVariants.{Running}
use Rattle.host_reactor.specs.Reactor.{homed}
use Rattle.laws_board.specs.turns.Turns.{AreBoardTurns, BoardTurn, IsBoardOf, latest_state}
use Rattle.laws_board.specs.clocks.Runs.{IsInRun}
use Rattle.laws_board.specs.clocks.Samples.{IsSampled, WasPut, WasTold, first_line, line_of, lines_told}
use Rattle.laws_board.proofs.clocks.Askings.{IsAsking, asking_later, asking_more, asks_kept, listens_kept, new_is, question_kept, ready_kept, sample_more, waits_kept, connected_sample}
use Rattle.laws_board.proofs.clocks.Links.{told_took}
use Rattle.laws_board.proofs.clocks.Turning.{Asks, BoardTurned, Ends, Runs, asking_at, board_turned, clocks_at, heard_now, new_at}
use Rattle.laws_board.proofs.causes.Ended.{running_not}

-- once a board is connected it stays so
pub were_stage : (turn : ℕ) (ns : List ℕ) (a : Asking) → (were_put turn ns a).stage ≡ a.stage
were_stage turn [] a = refl
were_stage turn (n ∷ ns) a = were_stage turn ns (record a { owed = a.owed - 1; put = Some (record { number = n; turn = turn }) })

abbrev StaysOn : Option Asking → Type 0
StaysOn None = Unit {0}
StaysOn (Some a) = is_connected a.stage ≡ true

if_stays : (b : Bool) (a : Asking) → is_connected a.stage ≡ true → StaysOn (cond b (Some a) None)
if_stays true a h = h
if_stays false a h = tt

answer_stays : (turn : ℕ) (a : Asking) (stage : Stage) (number : ℕ) (c : Cmd) → is_connected stage ≡ true → StaysOn (answered turn a stage number c)
answer_stays turn a Connected number (cmd.Uptime high low) h = if_stays (tells_clock a number) (after_drift a (sample_of a turn high low)) refl
answer_stays turn a Connected number c h = tt
answer_stays turn a stage number c h = cc

or_stays : (o : Option Asking) (b : Asking) → StaysOn o → is_connected b.stage ≡ true → is_connected (or_asking o b).stage ≡ true
or_stays None b s h = h
or_stays (Some a) b s h = s

hears_stays : (turn : ℕ) (ns : List News) (a : Asking) → is_connected a.stage ≡ true → is_connected (hears_first turn ns a).stage ≡ true
hears_stays turn [] a h = h
hears_stays turn (n ∷ ns) a h = or_stays (answered turn a a.stage n.number n.answer) (hears_first turn ns a) (answer_stays turn a a.stage n.number n.answer h) (hears_stays turn ns a h)

either_stays : (b : Bool) (x y : Asking) → is_connected x.stage ≡ true → is_connected y.stage ≡ true → is_connected (cond b x y).stage ≡ true
either_stays true x y h i = h
either_stays false x y h i = i

listens_stays : (a : Asking) (s : State) → is_connected a.stage ≡ true → is_connected (listens a s).stage ≡ true
listens_stays a s h =
    let b = were_put s.turn s.asked a in
    let i : is_connected b.stage ≡ true = ap is_connected (were_stage s.turn s.asked a) ∙ h in
    either_stays (is_in_time s.turn b.since) (hears_first s.turn s.news b) b (hears_stays s.turn s.news b i) i

heard_stays : (a : Asking) (states : List State) → is_connected a.stage ≡ true → is_connected (heard_now a states).stage ≡ true
heard_stays a [] h = h
heard_stays a (s ∷ states) h = listens_stays a s h

waits_stays : (drifting : Bool) (k : ℕ) (a : Asking) → is_connected a.stage ≡ true → is_connected (waits_in drifting k a).stage ≡ true
waits_stays drifting k a h =
    let missed = record a { missed = more a.missed; waits = true } in
    let waiting = record a { waits = true } in
    either_stays (is_unanswered k a.since) missed (cond (is_asked_now drifting k a.since) waiting a) h (either_stays (is_asked_now drifting k a.since) waiting a h h)

question_stays : (k : ℕ) (commands : List Cmd) (a : Asking) → is_connected a.stage ≡ true → is_connected (after_question k commands a).stage ≡ true
question_stays k commands a h =
    let now = record a { since = Some k; first = cond (a.missed == 0) k a.first; owed = more a.owed; waits = false } in
    either_stays (asks_now commands a) now a h h

-- a note keeps the phase, the askings, and the first line of each board
record Same (a b : Known) : Type 0 where
  pub phase : a.phase ≡ b.phase
  pub askings : a.askings ≡ b.askings
  pub lines : (board : ℕ) → first_line board a.clocks ≡ first_line board b.clocks

added_first : (c : Clocks) (from : ℕ) (line : Line) → (added_where c from line).first ≡ c.first
added_first c from line = either (may_hold c from line)
  where
    either : (b : Bool) → (cond b (added c from line) c).first ≡ c.first
    either true = refl
    either false = refl

set_first : (clocks : List Clocks) (b board from : ℕ) (line : Line) → first_line b (slice_set clocks board (added_where (slice_index_or clocks board no_clocks) from line)) ≡ first_line b clocks
set_first [] b board from line = refl
set_first (c ∷ clocks) zero zero from line = ap (λ (l : Line). l ∷ []) (added_first c from line)
set_first (c ∷ clocks) zero (suc board) from line = refl
set_first (c ∷ clocks) (suc b) zero from line = refl
set_first (c ∷ clocks) (suc b) (suc board) from line = set_first clocks b board from line

at_first : (clocks : List Clocks) (b board from : ℕ) (line : Line) → first_line b (added_at board from line clocks) ≡ first_line b clocks
at_first clocks b board from line = either (nat_lt board (length clocks))
  where
    either : (t : Bool) → first_line b (cond t (slice_set clocks board (added_where (slice_index_or clocks board no_clocks) from line)) clocks) ≡ first_line b clocks
    either true = set_first clocks b board from line
    either false = refl

told_keeps : (m : Machine) (r : Known) (n : NoteNews) → Same (known_behind m r n) r
told_keeps m r (news.Line board line from) = record { phase = refl; askings = refl; lines = λ b. at_first r.clocks b board from line }
told_keeps m r c = record { phase = refl; askings = refl; lines = λ b. refl }

all_keep : (m : Machine) (ns : List NoteNews) (r : Known) → Same (told_all m ns r) r
all_keep m [] r = record { phase = refl; askings = refl; lines = λ b. refl }
all_keep m (n ∷ ns) r =
    let h = told_keeps m r n in
    let t = all_keep m ns (known_behind m r n) in
    record { phase = t.phase ∙ h.phase; askings = t.askings ∙ h.askings; lines = λ b. t.lines b ∙ h.lines b }

noted_keeps : (m : Machine) (note : Option Note) (r : Known) → Same (noted m note r) r
noted_keeps m None r = record { phase = refl; askings = refl; lines = λ b. refl }
noted_keeps m (Some note) r = let a = all_keep m note.news r in record { phase = a.phase; askings = a.askings; lines = a.lines }

-- a board and its clock lines as a turn begins
abbrev pub Sure : BoardClock → List BoardTurn → List Line → Type 0
Sure clock turns lines = (l : Line) × (lines ≡ l ∷ []) × IsSampled clock turns l

pub record Stands (clock : BoardClock) (b : ℕ) (r : Known) (turns : List BoardTurn) : Type 0 where
  pub a : Asking
  pub asking : asking_at b r.askings.items ≡ a ∷ []
  pub is : IsAsking clock turns (length turns) a
  pub connected : (r.phase ≡ Connecting → ⊥) → is_connected a.stage ≡ true
  pub lines : (r.phase ≡ Connecting → ⊥) → Sure clock turns (first_line b r.clocks)

-- the state that came is heard
record Facts (clock : BoardClock) (turns : List BoardTurn) : Type 0 where
  pub taken : (number value turn : ℕ) → WasTold number value turn turns → (block at : ℕ) × (number ≡ block + 1) × (at ≤ turn) × (value ≡ board_tick clock at) × ((put : ℕ) → WasPut block put turns → put ≤ at)

facts : (d : BoardDef) (pins : List (List Level)) (board : ℕ) (entries : List Entry) (turns : List BoardTurn) → AreBoardTurns (clock_of d) (first_state d pins board entries) turns
    → board_tick (clock_of d) (length turns) < 2 ^ 64 → Facts (clock_of d) turns
facts d pins board entries turns are small = record {
  taken = λ number value turn t.
      let k = told_took d pins board entries turns are small number value turn t in
      (k.block, k.at, k.number_is, k.not_late, k.own, k.put);
}

heard_is : (clock : BoardClock) (first : LinkState) (turns : List BoardTurn) (a : Asking) → AreBoardTurns clock first turns → Facts clock turns → IsAsking clock turns (length turns) a
    → IsAsking clock turns (length turns) (heard_now a (latest_state turns))
heard_is clock first [] a are f i = i
heard_is clock first (t ∷ before) a are f i =
    let turn : t.state.turn ≡ length before = are.0.1.turn in
    listens_kept clock (t ∷ before) (length (t ∷ before)) a t.state (omega arith) (λ n h. inl (turn, h))
    (record { taken = λ number value h. f.taken number value t.state.turn (inl (turn, h)); told = λ number value h. inl (turn, h) }) i

-- the clock lines that are told
abbrev AreSampled : BoardClock → List BoardTurn → List Line → Type 0
AreSampled clock turns [] = Unit {0}
AreSampled clock turns (l ∷ lines) = IsSampled clock turns l × AreSampled clock turns lines

all_sampled : (clock : BoardClock) (turns : List BoardTurn) (lines : List Line) → AreSampled clock turns lines → All (IsSampled clock turns) lines
all_sampled clock turns [] k = All-nil (IsSampled clock turns)
all_sampled clock turns (l ∷ lines) k = All-cons (IsSampled clock turns) l lines k.0 (all_sampled clock turns lines k.1)

line_sampled : (m : Machine) (b : ℕ) (turns : List BoardTurn) (k : ℕ) (a : Asking) → is_connected a.stage ≡ true → IsAsking (clock_of (board_at m b)) turns k a → IsSampled (clock_of (board_at m b)) turns (board_line m b a)
line_sampled m b turns k a c i = (sample_or_none a.best, connected_sample (clock_of (board_at m b)) turns k a c i, refl)

sampled_both : (clock : BoardClock) (turns : List BoardTurn) (xs ys : List Line) → AreSampled clock turns xs → AreSampled clock turns ys → AreSampled clock turns (xs ++ ys)
sampled_both clock turns [] ys k l = l
sampled_both clock turns (x ∷ xs) ys k l = (k.0, sampled_both clock turns xs ys k.1 l)

lines_both : (b : ℕ) (xs ys : List WordNews) → lines_told b (xs ++ ys) ≡ lines_told b xs ++ lines_told b ys
lines_both b [] ys = refl
lines_both b (x ∷ xs) ys = ap (λ l. line_of b x ++ l) (lines_both b xs ys) ∙ sym (append_assoc (line_of b x) (lines_told b xs) (lines_told b ys))

if_line : (clock : BoardClock) (turns : List BoardTurn) (told own : Bool) (i b : ℕ) (l : Line) → (i == b) ≡ own → (own ≡ true → IsSampled clock turns l) → AreSampled clock turns (lines_told b (cond told (word.Line i l ∷ []) []))
if_line clock turns false own i b l e f = tt
if_line clock turns true true i b l e f = rw e (f refl, tt)
if_line clock turns true false i b l e f = rw e tt

new_sampled : (m : Machine) (clock : BoardClock) (turns : List BoardTurn) (i b : ℕ) (before after : List Asking)
    → ((j : ℕ) (a : Asking) → i + j ≡ b → asking_at j after ≡ a ∷ [] → IsSampled clock turns (board_line m b a)) → AreSampled clock turns (lines_told b (new_lines m i before after))
new_sampled m clock turns i b [] after f = tt
new_sampled m clock turns i b (x ∷ before) [] f = tt
new_sampled m clock turns i b (x ∷ before) (y ∷ after) f =
    let rest = new_sampled m clock turns (i + 1) b before after (λ j a e s. f (suc j) a (omega arith) s) in
    let first = if_line clock turns (is_out x.since && not (is_out y.since)) (i == b) i b (board_line m i y) refl
    (λ e. let same : i ≡ b = eqb-true i b e in subst (λ (n : ℕ). IsSampled clock turns (board_line m n y)) (sym same) (f 0 y (omega arith) refl)) in
    subst (λ (l : List Line). AreSampled clock turns l) (sym (lines_both b (new_line m i x y) (new_lines m (i + 1) before after)))
    (sampled_both clock turns (lines_told b (new_line m i x y)) (lines_told b (new_lines m (i + 1) before after)) first rest)

homed_lines : (b : ℕ) (cut : Option ℕ) → lines_told b (homed cut) ≡ []
homed_lines b None = refl
homed_lines b (Some tick) = refl

one_of : (x a : Asking) → x ∷ [] ≡ a ∷ [] → x ≡ a
one_of x a e = cc

run_sampled : (m : Machine) (clock : BoardClock) (turns : List BoardTurn) (b : ℕ) (cut : Option ℕ) (before after : List Asking) (a : Asking) → asking_at b after ≡ a ∷ [] → IsSampled clock turns (board_line m b a)
    → AreSampled clock turns (lines_told b (homed cut ++ new_lines m 0 before after))
run_sampled m clock turns b cut before after a e s =
    let new = new_sampled m clock turns 0 b before after (λ j x same at.
    let same_place : j ≡ b = omega arith in
    let found : x ≡ a = one_of x a (sym at ∙ ap (λ (n : ℕ). asking_at n after) same_place ∙ e) in
    subst (λ (y : Asking). IsSampled clock turns (board_line m b y)) (sym found) s) in
    subst (λ (l : List Line). AreSampled clock turns l) (sym (lines_both b (homed cut) (new_lines m 0 before after) ∙ ap (λ l. l ++ lines_told b (new_lines m 0 before after)) (homed_lines b cut))) new

-- a turn of the board
pub record Step (m : Machine) (switches : List Switch) (b : ℕ) (c : Came) (before : List Came) (t : BoardTurn) (turns : List BoardTurn) : Type 0 where
  pub known : Stands (clock_of (board_at m b)) b (noted m c.note (known_by m switches before)) turns
  -- the asking before the states came, and behind them
  pub first : Asking
  pub was : asking_at b (known_by m switches before).askings.items ≡ first ∷ []
  pub on : ((noted m c.note (known_by m switches before)).phase ≡ Connecting → ⊥) → is_connected first.stage ≡ true
  pub a : Asking
  pub hears : a ≡ heard_now first (latest_state turns)
  pub is : IsAsking (clock_of (board_at m b)) turns (length turns) a
  pub connected : ((noted m c.note (known_by m switches before)).phase ≡ Connecting → ⊥) → is_connected a.stage ≡ true
  pub turned : BoardTurned m (noted m c.note (known_by m switches before)) b (length before) c.states a (last_reacted m switches c before) t.control

pub as_long : (m : Machine) (switches : List Switch) (b : ℕ) (came : List Came) (turns : List BoardTurn) → IsBoardOf m switches b came turns → length came ≡ length turns
as_long m switches b [] [] is = refl
as_long m switches b [] (t ∷ turns) is = absurd is
as_long m switches b (c ∷ before) [] is = absurd is
as_long m switches b (c ∷ before) (t ∷ turns) is = let e = as_long m switches b before turns is.2 in omega arith

pub run_before : (m : Machine) (switches : List Switch) (pins : List (List Level)) (entries : List Entry) (b : ℕ) (c : Came) (before : List Came) (t : BoardTurn) (turns : List BoardTurn)
    → IsInRun m switches pins entries b (c ∷ before) (t ∷ turns) → IsInRun m switches pins entries b before turns
run_before m switches pins entries b c before t turns r =
    let clock = clock_of (board_at m b) in
    let next : length turns + 1 ≡ suc (length turns) = omega arith in
    let whole = r.in_range in
    record { board = r.board; goes_on = r.goes_on.1; turns_are = r.turns_are.1; both = r.both.2; in_range = omega (arith, ticks_rise clock (length turns), ap (board_tick clock) next) }

stands_noted : (m : Machine) (clock : BoardClock) (b : ℕ) (note : Option Note) (r : Known) (turns : List BoardTurn) → Stands clock b r turns → Stands clock b (noted m note r) turns
stands_noted m clock b note r turns s =
    let n = noted_keeps m note r in
    record {
      a = s.a;
      asking = ap (λ x. asking_at b x.items) n.askings ∙ s.asking;
      is = s.is;
      connected = λ p. s.connected (λ e. p (n.phase ∙ e));
      lines = λ p. let l = s.lines (λ e. p (n.phase ∙ e)) in (l.0, n.lines b ∙ l.1, l.2);
    }

step : (m : Machine) (switches : List Switch) (pins : List (List Level)) (entries : List Entry) (b : ℕ) (c : Came) (before : List Came) (t : BoardTurn) (turns : List BoardTurn)
    → IsInRun m switches pins entries b (c ∷ before) (t ∷ turns) → Stands (clock_of (board_at m b)) b (known_by m switches before) turns → Step m switches b c before t turns
step m switches pins entries b c before t turns r s =
    let clock = clock_of (board_at m b) in
    let rest = run_before m switches pins entries b c before t turns r in
    let same = noted_keeps m c.note (known_by m switches before) in
    let asking : asking_at b (noted m c.note (known_by m switches before)).askings.items ≡ s.a ∷ [] = ap (λ x. asking_at b x.items) same.askings ∙ s.asking in
    record {
      known = stands_noted m clock b c.note (known_by m switches before) turns s;
      first = s.a;
      was = s.asking;
      on = λ p. s.connected (λ e. p (same.phase ∙ e));
      a = heard_now s.a (latest_state turns);
      hears = refl;
      is = heard_is clock (first_state (board_at m b) pins b entries) turns s.a rest.turns_are (facts (board_at m b) pins b entries turns rest.turns_are (let k = rest.in_range in omega arith)) s.is;
      connected = λ p. heard_stays s.a (latest_state turns) (s.connected (λ e. p (same.phase ∙ e)));
      turned = board_turned m switches (known_by m switches before) b (length before) c.states (latest_state turns) c.note s.a t.control asking r.both.0 r.both.1 r.goes_on.0;
    }

sure_more : (clock : BoardClock) (t : BoardTurn) (turns : List BoardTurn) (lines : List Line) → Sure clock turns lines → Sure clock (t ∷ turns) lines
sure_more clock t turns lines s = let i = s.2 in (s.0, s.1, (i.0, sample_more clock t turns i.0 i.1, i.2))

first_at : (b : ℕ) (clocks : List Clocks) (c : Clocks) → clocks_at b clocks ≡ c ∷ [] → first_line b clocks ≡ c.first ∷ []
first_at b [] c e = cc
first_at zero (x ∷ clocks) c e = let f : x ≡ c = cc in ap (λ (y : Clocks). y.first ∷ []) f
first_at (suc b) (x ∷ clocks) c e = first_at b clocks c e

next_asking : (clock : BoardClock) (t : BoardTurn) (turns : List BoardTurn) (k : ℕ) (a : Asking) → k ≡ length turns → IsAsking clock turns (k + 1) a → IsAsking clock (t ∷ turns) (length (t ∷ turns)) a
next_asking clock t turns k a e i = asking_later clock (t ∷ turns) (k + 1) (length (t ∷ turns)) a (omega arith) (asking_more clock t turns (k + 1) a i)

at_turn : (clock : BoardClock) (turns : List BoardTurn) (k n : ℕ) (a : Asking) → n ≡ k → IsAsking clock turns n a → IsAsking clock turns k a
at_turn clock turns k n a e i = subst (λ (x : ℕ). IsAsking clock turns x a) e i

-- a phase that isn't connecting
not_connecting : (p q : Phase) → p ≡ q → (q ≡ Connecting → ⊥) → p ≡ Connecting → ⊥
not_connecting p q e n f = n (sym e ∙ f)

stands_after_turn : (m : Machine) (b : ℕ) (c : Came) (r : Known) (before : List Came) (t : BoardTurn) (turns : List BoardTurn) (k : ℕ) (a : Asking) (x : Reacted) → k ≡ length turns
    → Stands (clock_of (board_at m b)) b r turns → IsAsking (clock_of (board_at m b)) turns k a → ((r.phase ≡ Connecting → ⊥) → is_connected a.stage ≡ true) → BoardTurned m r b k c.states a x t.control
    → Stands (clock_of (board_at m b)) b x.known (t ∷ turns)
stands_after_turn m b c r before t turns k a x e s i d (Asks p g) =
    let clock = clock_of (board_at m b) in
    let setups = configuration m b in
    let ready_a = ready setups a in
    record {
      a = after_asks setups k ready_a ready_a.stage;
      asking = g.asking;
      is = next_asking clock t turns k _ e (asks_kept clock turns k setups ready_a ready_a.stage refl (ready_kept clock turns k setups a i));
      connected = λ n. absurd (n g.phase);
      lines = λ n. absurd (n g.phase);
    }
stands_after_turn m b c r before t turns k a x e s i d (Ends p g) =
    let clock = clock_of (board_at m b) in
    let ready_a = ready (configuration m b) a in
    let kept = ready_kept clock turns k (configuration m b) a i in
    record {
      a = ready_a;
      asking = g.asking;
      is = next_asking clock t turns k ready_a e (asking_later clock turns k (k + 1) ready_a (omega arith) kept);
      connected = λ n. g.connected;
      lines = λ n. sure_more clock t turns _ (board_line m b ready_a, first_at b x.known.clocks (one_line (board_line m b ready_a)) g.clocks, line_sampled m b turns k ready_a g.connected kept);
    }
stands_after_turn m b c r before t turns k a x e s i d (Runs p g) =
    let clock = clock_of (board_at m b) in
    let waits = waits_in (drifts (board_at m b).drift) k a in
    let running : r.phase ≡ Connecting → ⊥ = λ q. running_not (sym p ∙ q) in
    let commands = homing_commands m (homing_turn r.clocks k c.states r.homing) g.own b in
    record {
      a = after_question k commands waits;
      asking = g.asking;
      is = next_asking clock t turns k _ e (question_kept clock turns k commands waits (waits_kept clock turns k k (drifts (board_at m b).drift) a i));
      connected = λ n. question_stays k commands waits (waits_stays (drifts (board_at m b).drift) k a (d running));
      lines = λ n. sure_more clock t turns _ (let l = s.lines running in (l.0, ap (first_line b) g.clocks ∙ l.1, l.2));
    }

pub stands : (m : Machine) (switches : List Switch) (pins : List (List Level)) (entries : List Entry) (b : ℕ) (came : List Came) (turns : List BoardTurn)
    → IsInRun m switches pins entries b came turns → Stands (clock_of (board_at m b)) b (known_by m switches came) turns
stands m switches pins entries b [] [] r =
    record { a = new_asking; asking = new_at b m.boards r.board; is = new_is (clock_of (board_at m b)); connected = λ n. absurd (n refl); lines = λ n. absurd (n refl) }
stands m switches pins entries b [] (t ∷ turns) r = absurd r.both
stands m switches pins entries b (c ∷ before) [] r = absurd r.both
stands m switches pins entries b (c ∷ before) (t ∷ turns) r =
    let clock = clock_of (board_at m b) in
    let s = stands m switches pins entries b before turns (run_before m switches pins entries b c before t turns r) in
    let x = step m switches pins entries b c before t turns r s in
    let long = as_long m switches b before turns r.both.2 in
    stands_after_turn m b c (noted m c.note (known_by m switches before)) before t turns (length before) x.a (last_reacted m switches c before) long x.known
    (at_turn clock turns (length before) (length turns) x.a (sym long) x.is) x.connected x.turned

pub turn_of : (m : Machine) (switches : List Switch) (pins : List (List Level)) (entries : List Entry) (b : ℕ) (c : Came) (before : List Came) (t : BoardTurn) (turns : List BoardTurn)
    → IsInRun m switches pins entries b (c ∷ before) (t ∷ turns) → Step m switches b c before t turns
turn_of m switches pins entries b c before t turns r =
    step m switches pins entries b c before t turns r (stands m switches pins entries b before turns (run_before m switches pins entries b c before t turns r))

pub noted_phase : (m : Machine) (note : Option Note) (r : Known) → (noted m note r).phase ≡ r.phase
noted_phase m note r = (noted_keeps m note r).phase

pub noted_askings : (m : Machine) (note : Option Note) (r : Known) → (noted m note r).askings ≡ r.askings
noted_askings m note r = (noted_keeps m note r).askings

-- the laws
pub known_lines : (m : Machine) (switches : List Switch) (pins : List (List Level)) (entries : List Entry) (b : ℕ) (came : List Came) (turns : List BoardTurn)
    → IsInRun m switches pins entries b came turns → ((known_by m switches came).phase ≡ Connecting → ⊥) → Sure (clock_of (board_at m b)) turns (first_line b (known_by m switches came).clocks)
known_lines m switches pins entries b came turns r n = (stands m switches pins entries b came turns r).lines n

turn_lines : (m : Machine) (b : ℕ) (c : Came) (r : Known) (t : BoardTurn) (turns : List BoardTurn) (k : ℕ) (a : Asking) (x : Reacted)
    → IsAsking (clock_of (board_at m b)) turns k a → ((r.phase ≡ Connecting → ⊥) → is_connected a.stage ≡ true) → BoardTurned m r b k c.states a x t.control
    → AreSampled (clock_of (board_at m b)) turns (lines_told b x.ordered.word.news)
turn_lines m b c r t turns k a x i d (Asks p g) =
    subst (λ (l : List WordNews). AreSampled (clock_of (board_at m b)) turns (lines_told b l)) (sym g.news) tt
turn_lines m b c r t turns k a x i d (Ends p g) =
    let clock = clock_of (board_at m b) in
    let line = line_sampled m b turns k (ready (configuration m b) a) g.connected (ready_kept clock turns k (configuration m b) a i) in
    subst (λ (l : List WordNews). AreSampled clock turns (lines_told b l)) (sym g.news) (subst (λ (l : List Line). AreSampled clock turns (l ++ [])) (sym g.line) (line, tt))
turn_lines m b c r t turns k a x i d (Runs p g) =
    let clock = clock_of (board_at m b) in
    let running : r.phase ≡ Connecting → ⊥ = λ q. running_not (sym p ∙ q) in
    subst (λ (l : List WordNews). AreSampled clock turns (lines_told b l)) (sym g.news)
    (run_sampled m clock turns b (homing_turn r.clocks k c.states r.homing).cut r.askings.items (listen_all r.askings.items c.states) a g.heard (line_sampled m b turns k a (d running) i))

pub told_lines : (m : Machine) (switches : List Switch) (pins : List (List Level)) (entries : List Entry) (b : ℕ) (c : Came) (before : List Came) (t : BoardTurn) (turns : List BoardTurn)
    → IsInRun m switches pins entries b (c ∷ before) (t ∷ turns) → All (IsSampled (clock_of (board_at m b)) turns) (lines_told b (last_reacted m switches c before).ordered.word.news)
told_lines m switches pins entries b c before t turns r =
    let clock = clock_of (board_at m b) in
    let x = turn_of m switches pins entries b c before t turns r in
    let long = as_long m switches b before turns r.both.2 in
    all_sampled clock turns (lines_told b (last_reacted m switches c before).ordered.word.news)
    (turn_lines m b c (noted m c.note (known_by m switches before)) t turns (length before) x.a (last_reacted m switches c before)
    (at_turn clock turns (length before) (length turns) x.a (sym long) x.is) x.connected x.turned)
