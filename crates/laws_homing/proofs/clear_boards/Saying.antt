-- On a clear link the news of a turn are what the board said in it.
use Rattle.std.proofs.Common.{◌⊎◌, Some, ◌≡◌, ℕ, ◌+◌, List, [], ◌∷◌, ◌++◌, length, map, refl, ap, sym, ◌∙◌, subst, inl, inr, append_assoc, append-nil, None, Option}
use Rattle.laws_board.proofs.Names.{BoardDef, Level, board_tick, clock_of, own_formats, Cmd, News, IsText, Reply, Entry, Up, Down, Meant, commands_of, Rig, takes_all, takes, Event, Core, after_event, run_world, says, wire_text, Step, Do, Turn, does, in_turn, takes_in, queued_in, first_state, orders, LinkState, after_board, after_host, come, append_cancel_left, run_append}
use Rattle.link_core.specs.Core.{numbered}
use Rattle.board_world.specs.declared.event.Event.TheVariants as event
use Rattle.link_work.specs.Answers.{IsAmong}
use Rattle.link_work.specs.Told.{AreNews, heard_in, news_of}
use Rattle.laws_board.specs.turns.Turns.{AreBoardTurns, BoardTurn, stands_after}
use Rattle.laws_homing.proofs.home_runs.Resting.{rests_up}
use Rattle.laws_homing.specs.clear_boards.Rests.{RestsOver}
use Rattle.laws_homing.proofs.clear_boards.Rests.{rests_none}
use Rattle.laws_homing.proofs.clear_boards.Taking.{IsComing, down_coming, down_taking, host_quiet_all}
use Rattle.board_world.specs.Stands.{IsAnswer}
use Rattle.link_work.proofs.Steps.{all_come, AllOf}
use Rattle.laws_board.proofs.clocks.Answers.{Each}
use Rattle.laws_board.proofs.clocks.Replies.{AllUp, up_by, up_come}
use Rattle.laws_board.proofs.clocks.Uptimes.{none_said}
use Rattle.laws_homing.proofs.home_runs.Staging.{commands_both}
use Rattle.link_work.proofs.Saying.{among_left, among_right}

-- a reply has the bytes of an answer of which this holds, or none
abbrev From : (Cmd → Type 0) → Reply → Type 0
From P r = (r.answer ≡ []) ⊎ ((a : Cmd) × P a × (r.answer ≡ wire_text a))

from_answers : (P : Cmd → Type 0) (n : ℕ) (cs : List Cmd) → Each P cs → AllUp (From P) (numbered n (map wire_text cs))
from_answers P n [] k = tt
from_answers P n (c ∷ cs) k = (inr (c, k.0, refl), from_answers P n cs k.1)

say_parts : (P : Cmd → Type 0) (xs ys : List Cmd) → Each P (xs ++ ys) → Each P xs × Each P ys
say_parts P [] ys k = (tt, k)
say_parts P (x ∷ xs) ys k = let r = say_parts P xs ys k.1 in ((k.0, r.0), r.1)

-- the replies behind an event of whose answers this holds
from_by : (P : Cmd → Type 0) (h : Core) (e : Event) → Each P (does h e).answers → AllUp (From P) h.link.up → AllUp (From P) (after_event h e).link.up
from_by P h e t k = up_by (From P) h e (λ n. inl refl) (λ n is. from_answers P n (does h e).answers t) k

-- what is taken in some steps
unfoldable pub taken_along : List Step → Core → List Meant
taken_along [] h = []
taken_along (Do e ∷ steps) h = takes_in h e ++ taken_along steps (after_event h e)
taken_along (Turn turn ∷ steps) h = taken_along steps (in_turn h turn)

pub taken_is : (steps : List Step) (h : Core) → (run_world steps h).taken ≡ h.taken ++ taken_along steps h
unfolding taken_along
taken_is [] h = sym (append-nil h.taken)
taken_is (Do e ∷ steps) h = taken_is steps (after_event h e) ∙ append_assoc h.taken (takes_in h e) (taken_along steps (after_event h e))
taken_is (Turn turn ∷ steps) h = taken_is steps (in_turn h turn)

pub answers_both : (r : Rig) (xs ys : List Cmd) → (takes_all r (xs ++ ys)).answers ≡ (takes_all r xs).answers ++ (takes_all (takes_all r xs).rig ys).answers
answers_both r [] ys = refl
answers_both r (c ∷ xs) ys =
    ap (λ (cs : List Cmd). (takes r c).answers ++ cs) (answers_both (takes r c).rig xs ys)
    ∙ sym (append_assoc (takes r c).answers (takes_all (takes r c).rig xs).answers (takes_all (takes_all (takes r c).rig xs).rig ys).answers)

parts_say : (P : Cmd → Type 0) (r : Rig) (xs ys : List Meant) → Each P (takes_all r (commands_of (xs ++ ys))).answers → Each P (takes_all r (commands_of xs)).answers × Each P (takes_all (takes_all r (commands_of xs)).rig (commands_of ys)).answers
parts_say P r xs ys k =
    let All : List Cmd → Type 0 = λ cs. Each P cs in
    let all : All (takes_all r (commands_of xs ++ commands_of ys)).answers = subst (λ (cs : List Cmd). Each P (takes_all r cs).answers) (commands_both xs ys) k in
    say_parts P (takes_all r (commands_of xs)).answers (takes_all (takes_all r (commands_of xs)).rig (commands_of ys)).answers (subst All (answers_both r (commands_of xs) (commands_of ys)) all)

ups_along : (P : Cmd → Type 0) (steps : List Step) (h : Core) → AllOf IsComing steps → Each P (takes_all h.board (commands_of (taken_along steps h))).answers → AllUp (From P) h.link.up → AllUp (From P) (run_world steps h).link.up
unfolding taken_along
ups_along P [] h c t k = k
ups_along P (Do event.Lose ∷ steps) h c t k = ups_along P steps (after_event h event.Lose) c.1 t (from_by P h event.Lose tt k)
ups_along P (Do event.Garble ∷ steps) h c t k = ups_along P steps (after_event h event.Garble) c.1 t (from_by P h event.Garble tt k)
ups_along P (Do event.Arrive ∷ steps) h c t k =
    let both = parts_say P h.board (takes_in h event.Arrive) (taken_along steps (after_event h event.Arrive)) t in
    ups_along P steps (after_event h event.Arrive) c.1 both.1 (from_by P h event.Arrive both.0 k)
ups_along P (Do event.Repeat ∷ steps) h c t k =
    let both = parts_say P h.board (takes_in h event.Repeat) (taken_along steps (after_event h event.Repeat)) t in
    ups_along P steps (after_event h event.Repeat) c.1 both.1 (from_by P h event.Repeat both.0 k)
ups_along P (s ∷ steps) h c t k = absurd c.0

-- the news of such replies
news_from : (P : Cmd → Type 0) (rs : List Reply) (news : List News) (n : News) → AreNews rs news → AllUp (From P) rs → IsAmong n news → (a : Cmd) × P a × IsText own_formats n.answer (wire_text a)
news_from P [] news n are k among = absurd (subst (λ (ns : List News). IsAmong n ns) are among)
news_from P (r ∷ rs) news n are k among = by are.0 are.2 (subst (λ (ns : List News). IsAmong n ns) are.4 among) (λ later. news_from P rs are.1 n are.3 k.1 later)
  where
    of : (c : Cmd) → IsText own_formats c r.answer → (a : Cmd) × P a × IsText own_formats c (wire_text a)
    of c text = elim k.0 [
      | inl none ↦ absurd (none_said c (subst (λ (bytes : List ℕ). IsText own_formats c bytes) none text))
      | inr some ↦ (some.0, some.1, subst (λ (bytes : List ℕ). IsText own_formats c bytes) some.2 text)
    ]

    by : (o : Option Cmd) → IsAnswer r o → IsAmong n (news_of r o ++ are.1) → (IsAmong n are.1 → (a : Cmd) × P a × IsText own_formats n.answer (wire_text a)) → (a : Cmd) × P a × IsText own_formats n.answer (wire_text a)
    by None is m rest = rest m
    by (Some c) is m rest = elim m [
      | inl same ↦ subst (λ (x : News). (a : Cmd) × P a × IsText own_formats x.answer (wire_text a)) same (of c ((is c).0 refl))
      | inr later ↦ rest later
    ]

pub news_said : (P : Cmd → Type 0) (b : BoardDef) (pins : List (List Level)) (board : ℕ) (entries : List Entry) (t : BoardTurn) (before : List BoardTurn) (n : News) → RestsOver t before → AreBoardTurns (clock_of b) (first_state b pins board entries) (t ∷ before)
    → Each P (takes_all (stands_after (first_state b pins board entries) before).core.board (commands_of (queued_in (orders t.control t.batch)))).answers
    → Each P (says (takes_all (stands_after (first_state b pins board entries) before).core.board (commands_of (queued_in (orders t.control t.batch)))).rig (board_tick (clock_of b) (length before + 1)))
    → IsAmong n t.state.news → (a : Cmd) × P a × IsText own_formats n.answer (wire_text a)
news_said P b pins board entries t before n rest are takes says_so among =
    let first = first_state b pins board entries in
    let clock = clock_of b in
    let o = orders t.control t.batch in
    let turn = length before in
    let tick = board_tick clock (turn + 1) in
    let l = stands_after first before in
    let resent = are.0.0.resent in
    let empty = rests_up b pins board entries before are.1 (rests_none b pins board entries before rest.0) in
    let l1 : LinkState = after_host turn o resent l in
    let l2 : LinkState = after_board clock turn l1 in
    let down = come Down turn l1.down.copies in
    let mid : Core = run_world down l1.core in
    let host = host_quiet_all turn o resent l.core in
    let coming = all_come IsComing Down down_coming turn l1.down.copies in
    let x = down_taking b pins board entries t before rest are in
    let All : List Meant → Type 0 = λ ms. Each P (takes_all l1.core.board (commands_of ms)).answers in
    let On : Rig → Type 0 = λ r. Each P (takes_all r (commands_of (queued_in o))).answers in
    let meant : taken_along down l1.core ≡ queued_in o = append_cancel_left l1.core.taken (taken_along down l1.core) (queued_in o) (sym (taken_is down l1.core) ∙ x.0) in
    let taken : All (taken_along down l1.core) = subst All (sym meant) (subst On (sym host.0) takes) in
    let start : AllUp (From P) l1.core.link.up = subst (λ (rs : List Reply). AllUp (From P) rs) (sym (x.2 ∙ empty)) tt in
    let ups = ups_along P down l1.core coming taken start in
    let said : Each P (says mid.board tick) = subst (λ (r : Rig). Each P (says r tick)) (sym x.1) says_so in
    let behind : l2.core ≡ after_event mid (event.Pass tick) = run_append down (Do (event.Pass tick) ∷ []) l1.core in
    let all = subst (λ (h : Core). AllUp (From P) h.link.up) (sym behind) (from_by P mid (event.Pass tick) said ups) in
    let heard = (up_come (From P) turn l2.up.copies l2.core all).0 in
    news_from P (heard_in (come Up turn l2.up.copies) l2.core) t.state.news n are.0.1.news heard among

-- so each is one of the answers of its turn
all_in : (zs xs : List Cmd) → ((c : Cmd) → IsAmong c xs → IsAmong c zs) → Each (λ a. IsAmong a zs) xs
all_in zs [] f = tt
all_in zs (x ∷ xs) f = (f x (inl refl), all_in zs xs (λ c k. f c (inr k)))

pub said_in_turn : (b : BoardDef) (pins : List (List Level)) (board : ℕ) (entries : List Entry) (t : BoardTurn) (before : List BoardTurn) (n : News) → RestsOver t before → AreBoardTurns (clock_of b) (first_state b pins board entries) (t ∷ before)
    → IsAmong n t.state.news
    → (a : Cmd)
    × IsAmong a ((takes_all (stands_after (first_state b pins board entries) before).core.board (commands_of (queued_in (orders t.control t.batch)))).answers
    ++ says (takes_all (stands_after (first_state b pins board entries) before).core.board (commands_of (queued_in (orders t.control t.batch)))).rig (board_tick (clock_of b) (length before + 1)))
    × IsText own_formats n.answer (wire_text a)
said_in_turn b pins board entries t before n rest are among =
    let done = takes_all (stands_after (first_state b pins board entries) before).core.board (commands_of (queued_in (orders t.control t.batch))) in
    let xs = done.answers in
    let ys = says done.rig (board_tick (clock_of b) (length before + 1)) in
    let P : Cmd → Type 0 = λ a. IsAmong a (xs ++ ys) in
    news_said P b pins board entries t before n rest are (all_in (xs ++ ys) xs (λ c k. among_left c xs ys k)) (all_in (xs ++ ys) ys (λ c k. among_right c xs ys k)) among
