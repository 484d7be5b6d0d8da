-- An asking of connecting that is unanswered was hindered.
use Rattle.std.proofs.Common.{◌≡◌, ℕ, zero, suc, ◌+◌, ◌-◌, ◌/◌, ◌%◌, ◌^◌, ◌<◌, ◌≤◌, inl, inr, Bool, true, false, cond, List, [], ◌∷◌, ◌++◌, length, map, Option, Some, None, refl, ap, sym, ◌∙◌, subst, arith, append_assoc, length-append}
use Rattle.std.specs.Prelude.{◌==◌, ◌&&◌}
use Rattle.std.proofs.lemmas.Bool.{lt-leb}
use Rattle.laws_board.proofs.Names.{eqb_tells, length-map, map-append, BoardClock, Level, Machine, board_tick, clock_of, board_at, Cmd, News, State, Entry, Meant, plain, units_orders, IsOrdered, first_state, LinkState, Asking, Stage, Identify, Uptime, Configure, Config, Connected, Setup, is_question_due}
use Rattle.plan_types.specs.Clock.{tick_limit}
use Rattle.msg_code.specs.declared.cmd.Cmd.TheVariants as cmd
use Rattle.board_world.specs.World.{on_wire}
use Rattle.link_work.specs.Answers.{IsAmong, IsAnswered}
use Rattle.link_work.specs.Limits.{closing_in}
use Rattle.link_work.proofs.Answered.{uptime_heard}
use Rattle.link_work.proofs.Limits.{closing_append}
use Rattle.board_asking.specs.declared.asking.Put.{Put}
use Rattle.board_asking.specs.Asking.{answered, asks, is_behind, question, tells_clock, were_put}
use Rattle.board_asking.specs.Turns.{AsksOf, IsOutBehind, WasAsked, asking_in_turn, heard, heard_at}
use Rattle.laws_board.specs.turns.Turns.{AreBoardTurns, BoardTurn, stands_after}
use Rattle.laws_board.specs.causes.Causes.{IsHindered, before_turn}
use Rattle.laws_board.proofs.causes.Turns.{Next, are_before, before_length, next_turn, states_before, states_length, states_of, ticks_before}
use Rattle.laws_board.proofs.causes.Told.{AllAsk, asking_in, asks_before}
use Rattle.laws_board.proofs.causes.Hears.{IsOut, SmallStage, answer_ends, out_behind, small_heard}
use Rattle.laws_board.proofs.causes.Four.{AnsweredIn, NotHindered, all_queued, answered_in, hindered_or, is_ordered, queued_of}
use Rattle.laws_board.proofs.causes.Owed.{Matches, last_is, number_in}
use Rattle.laws_board.proofs.causes.Owes.{units_open}
use Rattle.laws_board.proofs.causes.Said.{piece_heard, piece_of}
use Rattle.plan_types.proofs.Facts.{is_equal, none_or_some}

-- a board's askings in its turns while connecting: what was asked, what the link's turns are, and how the reactor's count of its
-- askings stands to the link
pub record Asks (m : Machine) (pins : List (List Level)) (entries : List Entry) (b : ℕ) (setups : List Setup) (turns : List BoardTurn) : Type 0 where
  pub are : AreBoardTurns (clock_of (board_at m b)) (first_state (board_at m b) pins b entries) turns
  pub in_range : board_tick (clock_of (board_at m b)) (length turns) < tick_limit
  pub all : AllAsk setups turns
  pub owes : (k : ℕ) (n : Next k turns) → k < length turns
      → Matches (were_put n.t.state.turn n.t.state.asked (asking_in_turn setups (length (states_of (before_turn k turns))) (asking_in setups (before_turn k turns)))) n.t.after.core.link

-- the asking of a turn that stays out in the four turns
pub record Out (setups : List Setup) (turns : List BoardTurn) (k : ℕ) (stage : Stage) : Type 0 where
  pub long : k + 4 ≤ length turns
  pub is_asked : AsksOf stage
  pub first : (asking_in setups (before_turn k turns)).stage ≡ stage
  pub commands : asks setups k (asking_in setups (before_turn k turns)) (asking_in setups (before_turn k turns)).stage ≡ question stage
  pub out : (j : ℕ) → 1 ≤ j → j ≤ 4 → (asking_in setups (before_turn (k + j) turns)).since ≡ Some k

one_later : (setups : List Setup) (turns before : List BoardTurn) (k : ℕ) (t : BoardTurn) (stage : Stage) → AsksOf stage → (asking_in setups before).stage ≡ stage → (asking_in setups (t ∷ before)).since ≡ Some k
    → IsOut k stage (asking_in_turn setups (length (states_of before)) (asking_in setups before)) × ((asking_in setups (t ∷ before)).stage ≡ stage)
one_later setups turns before k t stage g e out = out_behind setups (length (states_of before)) k (asking_in setups before) t.state stage g e out

stage_at : (setups : List Setup) (turns : List BoardTurn) (k : ℕ) (stage : Stage) → Out setups turns k stage → (j : ℕ) → j ≤ 4 → (asking_in setups (before_turn (k + j) turns)).stage ≡ stage
stage_at setups turns k stage o zero l = ap (λ (n : ℕ). (asking_in setups (before_turn n turns)).stage) (omega arith) ∙ o.first
stage_at setups turns k stage o (suc j) l =
    let long = o.long in
    let n = next_turn (k + j) turns (omega arith) in
    let e : before_turn (k + suc j) turns ≡ n.t ∷ before_turn (k + j) turns = ap (λ (i : ℕ). before_turn i turns) (omega arith) ∙ n.is in
    let out : (asking_in setups (n.t ∷ before_turn (k + j) turns)).since ≡ Some k = subst (λ (x : List BoardTurn). (asking_in setups x).since ≡ Some k) e (o.out (suc j) (omega arith) l) in
    ap (λ (x : List BoardTurn). (asking_in setups x).stage) e
    ∙ (one_later setups turns (before_turn (k + j) turns) k n.t stage o.is_asked (stage_at setups turns k stage o j (omega arith)) out).1

-- behind the asking of a turn nothing is asked as long as it may be answered
not_due : (k j : ℕ) → j ≤ 3 → is_question_due (k + j) (Some k) ≡ false
not_due k j h = lt-leb 4 (k + j - k) (omega arith)

no_question : (setups : List Setup) (n : ℕ) (a : Asking) (stage : Stage) → AsksOf stage → is_question_due n a.since ≡ false → asks setups n a stage ≡ []
no_question setups n a (Configure i) g e = absurd g
no_question setups n a Connected g e = absurd g
no_question setups n a c g e = ap (λ (t : Bool). cond t (question c) []) e

-- what is queued from the asking's turn on
pub record Queued (turns : List BoardTurn) (k j : ℕ) (q : Cmd) : Type 0 where
  pub rest : List Meant
  pub is : queued_of (before_turn (k + j + 1) turns) ≡ queued_of (before_turn k turns) ++ plain q ∷ rest
  pub open_rest : closing_in (map on_wire rest) ≡ 0

asked_at : (setups : List Setup) (turns : List BoardTurn) (k : ℕ) (n : Next k turns) → AllAsk setups turns
    → n.t.control.commands ≡ asks setups (length (before_turn k turns)) (asking_in setups (before_turn k turns)) (asking_in setups (before_turn k turns)).stage
asked_at setups turns k n a = (subst (λ (l : List BoardTurn). AllAsk setups l) n.is (asks_before setups (k + 1) turns a)).0

queued_at : (turns : List BoardTurn) (k : ℕ) (n : Next k turns) → queued_of (before_turn (k + 1) turns) ≡ queued_of (before_turn k turns) ++ (map plain n.t.control.commands ++ units_orders n.t.batch.units)
queued_at turns k n = ap queued_of n.is

pub queued_to : (setups : List Setup) (turns : List BoardTurn) (k : ℕ) (stage : Stage) (q : Cmd) → Out setups turns k stage → question stage ≡ q ∷ [] → AllAsk setups turns → (j : ℕ) → j ≤ 3 → Queued turns k j q
queued_to setups turns k stage q o is a zero l =
    let long = o.long in
    let n = next_turn k turns (omega arith) in
    let size = before_length k turns (omega arith) in
    let commands : n.t.control.commands ≡ q ∷ [] =
    asked_at setups turns k n a ∙ ap (λ (i : ℕ). asks setups i (asking_in setups (before_turn k turns)) (asking_in setups (before_turn k turns)).stage) size ∙ o.commands ∙ is in
    record {
      rest = units_orders n.t.batch.units;
      is = ap (λ (i : ℕ). queued_of (before_turn i turns)) (omega arith) ∙ queued_at turns k n
          ∙ ap (λ (cs : List Cmd). queued_of (before_turn k turns) ++ (map plain cs ++ units_orders n.t.batch.units)) commands;
      open_rest = units_open n.t.batch.units;
    }
queued_to setups turns k stage q o is a (suc j) l =
    let long = o.long in
    let i = k + suc j in
    let n = next_turn i turns (omega arith) in
    let size = before_length i turns (omega arith) in
    let old = queued_to setups turns k stage q o is a j (omega arith) in
    let same : k + j + 1 ≡ i = omega arith in
    let asking = asking_in setups (before_turn i turns) in
    let g = stage_at setups turns k stage o (suc j) (omega arith) in
    let since = o.out (suc j) (omega arith) (omega arith) in
    let due : is_question_due i asking.since ≡ false = ap (is_question_due i) since ∙ not_due k (suc j) l in
    let commands : n.t.control.commands ≡ [] =
    asked_at setups turns i n a ∙ ap (λ (x : ℕ). asks setups x asking asking.stage) size ∙ ap (λ (x : Stage). asks setups i asking x) g ∙ no_question setups i asking stage o.is_asked due in
    let units = units_orders n.t.batch.units in
    let was : queued_of (before_turn i turns) ≡ queued_of (before_turn k turns) ++ plain q ∷ old.rest = ap (λ (x : ℕ). queued_of (before_turn x turns)) (sym same) ∙ old.is in
    let none = old.open_rest in
    let now = units_open n.t.batch.units in
    record {
      rest = old.rest ++ units;
      is = queued_at turns i n ∙ ap (λ (cs : List Cmd). queued_of (before_turn i turns) ++ (map plain cs ++ units)) commands ∙ ap (λ (ms : List Meant). ms ++ units) was
          ∙ append_assoc (queued_of (before_turn k turns)) (plain q ∷ old.rest) units;
      open_rest = omega (arith, ap closing_in (map-append on_wire old.rest units), closing_append (map on_wire old.rest) (map on_wire units));
    }

-- the command that was answered is the asking
pub split_same : (front xs rest ys : List Meant) (c d : Meant) → front ++ c ∷ rest ≡ xs ++ d ∷ ys → length front ≡ length xs → (front ≡ xs) × (c ≡ d) × (rest ≡ ys)
split_same [] [] rest ys c d e h = (refl, cc, cc)
split_same [] (x ∷ xs) rest ys c d e h = absurd (omega arith)
split_same (f ∷ front) [] rest ys c d e h = absurd (omega arith)
split_same (f ∷ front) (x ∷ xs) rest ys c d e h =
    let same : f ≡ x = cc in
    let next = split_same front xs rest ys c d (cc) (omega arith) in
    (ap (λ (y : Meant). y ∷ front) same ∙ ap (λ (l : List Meant). x ∷ l) next.0, next.1, next.2)

-- an answered asking: the turn, and its command
pub record Found (m : Machine) (pins : List (List Level)) (entries : List Entry) (b : ℕ) (turns : List BoardTurn) (k : ℕ) (q : Cmd) : Type 0 where
  pub j : ℕ
  pub few : j ≤ 3
  pub next : Next (k + j) turns
  pub answered : IsAnswered (clock_of (board_at m b)) (k + j) next.t.after (length (queued_of (before_turn k turns))) next.t.state.news
  pub command : answered.command ≡ plain q
  pub open_rest : closing_in (map on_wire answered.rest) ≡ 0

pub after_is : (first : LinkState) (turns : List BoardTurn) (k : ℕ) (n : Next k turns) → stands_after first (before_turn (k + 1) turns) ≡ n.t.after
after_is first turns k n = ap (stands_after first) n.is

pub found_in : (m : Machine) (pins : List (List Level)) (entries : List Entry) (b : ℕ) (setups : List Setup) (turns : List BoardTurn) (k : ℕ) (stage : Stage) (q : Cmd)
    → Asks m pins entries b setups turns → Out setups turns k stage → question stage ≡ q ∷ []
    → AnsweredIn (clock_of (board_at m b)) turns k (length (queued_of (before_turn k turns))) → Found m pins entries b turns k q
found_in m pins entries b setups turns k stage q a o is x =
    let first = first_state (board_at m b) pins b entries in
    let clock = clock_of (board_at m b) in
    let n = x.next in
    let i = k + x.j in
    let queued = queued_to setups turns k stage q o is a.all x.j x.few in
    let all : n.t.after.core.queued ≡ queued_of (before_turn k turns) ++ plain q ∷ queued.rest =
    ap (λ (l : LinkState). l.core.queued) (sym (after_is first turns i n)) ∙ all_queued (board_at m b) pins b entries (before_turn (i + 1) turns) (are_before clock first (i + 1) turns a.are) ∙ queued.is in
    let same = split_same x.answered.front (queued_of (before_turn k turns)) x.answered.rest queued.rest x.answered.command (plain q) (sym x.answered.queued ∙ all) x.answered.at in
    record {
      j = x.j;
      few = x.few;
      next = n;
      answered = x.answered;
      command = same.1;
      open_rest = ap (λ (ms : List Meant). closing_in (map on_wire ms)) same.2 ∙ queued.open_rest;
    }

pub found : (m : Machine) (pins : List (List Level)) (entries : List Entry) (b : ℕ) (setups : List Setup) (turns : List BoardTurn) (k : ℕ) (stage : Stage) (q : Cmd)
    → Asks m pins entries b setups turns → Out setups turns k stage → question stage ≡ q ∷ [] → NotHindered (first_state (board_at m b) pins b entries) turns k → Found m pins entries b turns k q
found m pins entries b setups turns k stage q a o is clear =
    let place = length (queued_of (before_turn k turns)) in
    let queued = queued_to setups turns k stage q o is a.all 0 (omega arith) in
    let more : length (queued_of (before_turn (k + 1) turns)) ≡ place + length (plain q ∷ queued.rest) =
    ap (λ (i : ℕ). length (queued_of (before_turn i turns))) (omega arith) ∙ ap length queued.is ∙ length-append (queued_of (before_turn k turns)) (plain q ∷ queued.rest) in
    found_in m pins entries b setups turns k stage q a o is
    (answered_in (board_at m b) pins b entries turns k place a.are o.long clear (omega arith) (omega (arith, more)))

pub counts_not : (setups : List Setup) (turns : List BoardTurn) (k j : ℕ) (stage : Stage) (n : Next (k + j) turns) (news : News) → Out setups turns k stage → j ≤ 3 → n.t.state.turn ≡ k + j → IsAmong news n.t.state.news
    → (answered n.t.state.turn (were_put n.t.state.turn n.t.state.asked (asking_in_turn setups (length (states_of (before_turn (k + j) turns))) (asking_in setups (before_turn (k + j) turns)))) stage news.number news.answer ≡ None → ⊥) → ⊥
counts_not setups turns k j stage n news o few turn among some =
    let before = before_turn (k + j) turns in
    let a = asking_in_turn setups (length (states_of before)) (asking_in setups before) in
    let e : before_turn (k + (j + 1)) turns ≡ n.t ∷ before = ap (λ (i : ℕ). before_turn i turns) (omega arith) ∙ n.is in
    let out : (asking_in setups (n.t ∷ before)).since ≡ Some k = subst (λ (x : List BoardTurn). (asking_in setups x).since ≡ Some k) e (o.out (j + 1) (omega arith) (omega arith)) in
    let is = (one_later setups turns before k n.t stage o.is_asked (stage_at setups turns k stage o j (omega arith)) out).0 in
    none_or_some _ k (answer_ends a n.t.state news k is.since (omega arith) among
    (λ none. some (subst (λ (g : Stage). answered n.t.state.turn (were_put n.t.state.turn n.t.state.asked a) g news.number news.answer ≡ None) is.stage none))) out

pub turn_told : (m : Machine) (pins : List (List Level)) (entries : List Entry) (b : ℕ) (setups : List Setup) (turns : List BoardTurn) (k : ℕ) (n : Next k turns) → Asks m pins entries b setups turns → k < length turns → n.t.state.turn ≡ k
turn_told m pins entries b setups turns k n a h =
    let clock = clock_of (board_at m b) in
    let first = first_state (board_at m b) pins b entries in
    let are = subst (λ (l : List BoardTurn). AreBoardTurns clock first l) n.is (are_before clock first (k + 1) turns a.are) in
    are.0.1.turn ∙ before_length k turns (omega arith)

-- an answer that counts is some
pub some_if : (b : Bool) (a : Asking) → b ≡ true → cond b (Some a) None ≡ None → ⊥
some_if true a e h = cc
some_if false a e h = cc

abbrev place_in : List BoardTurn → ℕ → ℕ
place_in turns k = length (queued_of (before_turn k turns))

pub command_is : (c : Meant) (q : Cmd) → c ≡ plain q → c.command ≡ q
command_is c q e = ap (λ (x : Meant). x.command) e

-- an identify
piece_counts : (m : Machine) (pins : List (List Level)) (entries : List Entry) (b : ℕ) (setups : List Setup) (turns : List BoardTurn) (k offset : ℕ) → Asks m pins entries b setups turns
    → Out setups turns k (Identify offset) → Found m pins entries b turns k (cmd.Identify offset 40) → ⊥
piece_counts m pins entries b setups turns k offset a o f =
    let long = o.long in
    let few = f.few in
    let small : offset < 2 ^ 32 = subst SmallStage o.first (small_heard setups (states_of (before_turn k turns))) in
    let x = f.answered in
    let heard = piece_heard (clock_of (board_at m b)) (k + f.j) (place_in turns k) offset f.next.t.after f.next.t.state.news x (command_is x.command (cmd.Identify offset 40) f.command) small in
    counts_not setups turns k f.j (Identify offset) f.next (record { number = x.number + 1; answer = piece_of x.board offset }) o f.few
    (turn_told m pins entries b setups turns (k + f.j) f.next a (omega arith)) heard
    (λ none. some_if (offset == offset) _ (is_equal offset offset refl) none)

-- an asking for the clock
tells : (owed n : ℕ) (put : Option Put) → owed ≡ 0 → number_in put ≡ Some n → ((owed == 0) && is_behind put (n + 1)) ≡ true
tells owed n None e f = cc
tells owed n (Some p) e f =
    let same : p.number ≡ n = cc in
    ap (λ (t : Bool). t && (n + 1 == p.number + 1)) (is_equal owed 0 e) ∙ is_equal (n + 1) (p.number + 1) (omega arith)

pub clock_tells : (clock : BoardClock) (turn place : ℕ) (l : LinkState) (news : List News) (x : IsAnswered clock turn l place news) (a : Asking) → IsOrdered l.core → x.command ≡ plain cmd.GetUptime
    → closing_in (map on_wire x.rest) ≡ 0 → Matches a l.core.link → tells_clock a (x.number + 1) ≡ true
clock_tells clock turn place l news x a ord is none m =
    let carried = ord.carried ∙ ap (λ (ms : List Meant). map on_wire ms) x.queued ∙ map-append on_wire x.front (x.command ∷ x.rest) in
    let closes : (on_wire x.command).closes ≡ true = ap (λ (c : Meant). (on_wire c).closes) is in
    let last = last_is place x.number l.core.link.blocks l.core.link.waiting (map on_wire x.front) (map on_wire x.rest) (on_wire x.command) x.block carried (length-map x.front on_wire ∙ x.at) closes none in
    tells a.owed x.number a.put (m.owed ∙ last.0) (m.put ∙ last.1)

clock_counts : (m : Machine) (pins : List (List Level)) (entries : List Entry) (b : ℕ) (setups : List Setup) (turns : List BoardTurn) (k : ℕ) → Asks m pins entries b setups turns
    → Out setups turns k Uptime → Found m pins entries b turns k cmd.GetUptime → ⊥
clock_counts m pins entries b setups turns k a o f =
    let clock = clock_of (board_at m b) in
    let first = first_state (board_at m b) pins b entries in
    let long = o.long in
    let few = f.few in
    let i = k + f.j in
    let n = f.next in
    let x = f.answered in
    let small = ticks_before clock i (length turns) tick_limit (omega arith) a.in_range in
    let tick = board_tick clock i in
    let heard = uptime_heard clock i (place_in turns k) n.t.after n.t.state.news x (command_is x.command cmd.GetUptime f.command) small in
    let ord = subst (λ (l : LinkState). IsOrdered l.core) (after_is first turns i n) (is_ordered (board_at m b) pins b entries (before_turn (i + 1) turns) (are_before clock first (i + 1) turns a.are)) in
    let asking = were_put n.t.state.turn n.t.state.asked (asking_in_turn setups (length (states_of (before_turn i turns))) (asking_in setups (before_turn i turns))) in
    let counts = clock_tells clock i (place_in turns k) n.t.after n.t.state.news x asking ord f.command f.open_rest (a.owes i n (omega arith)) in
    counts_not setups turns k f.j Uptime n (record { number = x.number + 1; answer = cmd.Uptime (tick / 2 ^ 32) (tick % 2 ^ 32) }) o f.few
    (turn_told m pins entries b setups turns i n a (omega arith)) heard
    (λ none. some_if (tells_clock asking (x.number + 1)) _ counts none)

-- each asking of a row
pub hindered : (m : Machine) (pins : List (List Level)) (entries : List Entry) (b : ℕ) (setups : List Setup) (turns : List BoardTurn) (k : ℕ) (stage : Stage) → Asks m pins entries b setups turns
    → Out setups turns k stage → (stage ≡ Config → NotHindered (first_state (board_at m b) pins b entries) turns k → ⊥) → IsHindered (first_state (board_at m b) pins b entries) turns k
hindered m pins entries b setups turns k stage a o config =
    let first = first_state (board_at m b) pins b entries in
    elim (hindered_or first turns k) [
      | inl h ↦ h
      | inr clear ↦ absurd (by_stage stage o config clear)
    ]
  where
    by_stage : (stage : Stage) → Out setups turns k stage → (stage ≡ Config → NotHindered (first_state (board_at m b) pins b entries) turns k → ⊥) → NotHindered (first_state (board_at m b) pins b entries) turns k → ⊥
    by_stage (Identify offset) o config clear = piece_counts m pins entries b setups turns k offset a o (found m pins entries b setups turns k (Identify offset) (cmd.Identify offset 40) a o refl clear)
    by_stage Uptime o config clear = clock_counts m pins entries b setups turns k a o (found m pins entries b setups turns k Uptime cmd.GetUptime a o refl clear)
    by_stage Config o config clear = config refl clear
    by_stage c o config clear = o.is_asked

-- what a row of unanswered askings says
pub out_of : (setups : List Setup) (turns : List BoardTurn) (k : ℕ) → k + 4 ≤ length turns → WasAsked setups k (heard_at setups k (states_of turns)) → IsOutBehind setups k (states_of turns)
    → Out setups turns k (asking_in setups (before_turn k turns)).stage
out_of setups turns k long was out =
    let same : heard_at setups k (states_of turns) ≡ asking_in setups (before_turn k turns) = ap (heard setups) (states_before k turns) in
    let w : WasAsked setups k (asking_in setups (before_turn k turns)) = subst (λ (a : Asking). WasAsked setups k a) same was in
    record {
      long = long;
      is_asked = w.stage;
      first = refl;
      commands = w.commands;
      out = λ j low high. ap (λ (l : List State). (heard setups l).since) (sym (states_before (k + j) turns)) ∙ out j low high (omega (arith, states_length turns));
    }
