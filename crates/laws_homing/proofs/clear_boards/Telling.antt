-- On a clear link all that a board says as it runs on in a turn is told of this turn.
use Rattle.std.proofs.Common.{Some, ◌≡◌, ℕ, ◌+◌, ◌≤◌, Bool, true, false, List, [], ◌∷◌, ◌++◌, length, map, take, refl, ap, sym, ◌∙◌, subst, arith, inl, inr}
use Rattle.std.specs.Prelude.{if◌then◌else◌, nat_le}
use Rattle.laws_board.proofs.Names.{BoardClock, BoardDef, Level, board_tick, clock_of, own_formats, Cmd, News, IsText, Reply, Entry, Up, Meant, commands_of, Rig, takes_all, Core, after_event, run_world, says, wire_text, queued_in, first_state, orders, LinkState, Orders, after_board, after_host, come}
use Rattle.link_core.specs.Core.{numbered}
use Rattle.wire_scene.specs.declared.wire.Fate.{Fate}
use Rattle.wire_scene.specs.declared.wire.Fate.TheVariants.{Garbled, Last, Lost, Stays}
use Rattle.wire_scene.specs.Wire.{Copy}
use Rattle.board_world.specs.declared.event.Event.TheVariants as event
use Rattle.link_work.specs.Answers.{IsAmong}
use Rattle.link_work.specs.Told.{AreNews, heard_in, news_of}
use Rattle.link_work.specs.Turn.{after_replies, comes, still}
use Rattle.link_work.proofs.Answered.{begins, due_if, heard_both}
use Rattle.link_work.proofs.Draining.{IsSound, parts_of}
use Rattle.link_work.proofs.Hearing.{heard_append}
use Rattle.link_work.proofs.OnLines.{AllLast}
use Rattle.link_work.proofs.Reaching.{heard_as}
use Rattle.link_work.proofs.Saying.{among_right}
use Rattle.laws_board.specs.turns.Turns.{AreBoardTurns, BoardTurn, stands_after}
use Rattle.laws_board.specs.clocks.Runs.{orders_in}
use Rattle.laws_board.proofs.clocks.Orders.{order_length, turns_in_order}
use Rattle.laws_homing.proofs.home_runs.Resting.{rests_up}
use Rattle.laws_homing.specs.clear_boards.Rests.{RestsOver}
use Rattle.laws_homing.proofs.clear_boards.Rests.{rests_calm, rests_none}
use Rattle.laws_homing.proofs.clear_boards.Taking.{taking}

first_heard : (fate : Fate) (r : Reply) (rs : List Reply) (h : Core) → fate ≡ Last → h.link.up ≡ r ∷ rs → IsAmong r (heard_in (comes Up fate) h)
first_heard Last r rs h f e = subst (λ (us : List Reply). IsAmong r (take 1 us ++ [])) (sym e) (inl refl)
first_heard c r rs h f e = cc

heard_here : (turn : ℕ) (ds : List Copy) (h : Core) (more : List Reply) (r : Reply) → h.link.up ≡ more → length more ≡ length ds → AllLast ds → still turn ds ≡ [] → IsAmong r more
    → IsAmong r (heard_in (come Up turn ds) h)
heard_here turn [] h [] r e many last none k = absurd k
heard_here turn [] h (x ∷ more) r e many last none k = absurd (omega (arith, many))
heard_here turn (d ∷ ds) h [] r e many last none k = absurd k
heard_here turn (d ∷ ds) h (x ∷ more) r e many last none k =
    let due = due_if (nat_le d.due turn) d ds (still turn ds) none in
    let g = run_world (comes Up d.fate) h in
    let both = heard_both turn d ds h due.0 in
    let rest = heard_in (come Up turn ds) g in
    subst (IsAmong r) (sym both) (elim k [
      | inl is ↦ among_left-of (heard_in (comes Up d.fate) h) rest r (subst (λ (y : Reply). IsAmong y (heard_in (comes Up d.fate) h)) is (first_heard d.fate x more h last.0 e))
      | inr later ↦ among_right r (heard_in (comes Up d.fate) h) rest (heard_here turn ds g more r (heard_as d.fate x more h e).up (omega (arith, many)) last.1 due.1 later)
    ])
  where
    among_left-of : (xs ys : List Reply) (r : Reply) → IsAmong r xs → IsAmong r (xs ++ ys)
    among_left-of [] ys r k = absurd k
    among_left-of (x ∷ xs) ys r k = elim k [ inl e ↦ inl e | inr m ↦ inr (among_left-of xs ys r m) ]

-- the news of what is heard
pub news_hold : (rs : List Reply) (news : List News) (r : Reply) (c : Cmd) → AreNews rs news → IsAmong r rs → IsText own_formats c r.answer → IsAmong (record { number = r.number; answer = c }) news
news_hold [] news r c n k t = absurd k
news_hold (x ∷ rs) news r c n k t =
    let wanted : News = record { number = r.number; answer = c } in
    elim k [
      | inl same ↦
          let some : n.0 ≡ Some c = (n.2 c).1 (subst (λ (y : Reply). IsText own_formats c y.answer) (sym same) t) in
          subst (IsAmong wanted) (sym (n.4 ∙ ap (λ o. news_of x o ++ n.1) some)) (inl (ap (λ (y : Reply). record { number = y.number; answer = c }) same))
      | inr later ↦ subst (IsAmong wanted) (sym n.4) (among_right wanted (news_of x n.0) n.1 (news_hold rs n.1 r c n.3 later t))
    ]

-- all that is under way up is heard in the turn
no_copies : (cs : List Copy) → length cs ≡ 0 → cs ≡ []
no_copies [] e = refl
no_copies (c ∷ cs) e = absurd (omega (arith, e))

pub all_heard : (clock : BoardClock) (turn : ℕ) (o : Orders) (resent : Bool) (l : LinkState) (r : Reply) → IsSound l turn → l.core.link.up ≡ [] → (after_replies turn (after_board clock turn (after_host turn o resent l))).up.calm ≤ turn + 4
    → (after_replies turn (after_board clock turn (after_host turn o resent l))).up.copies ≡ [] → IsAmong r (after_board clock turn (after_host turn o resent l)).core.link.up
    → IsAmong r (heard_in (come Up turn (after_board clock turn (after_host turn o resent l)).up.copies) (after_board clock turn (after_host turn o resent l)).core)
all_heard clock turn o resent l r sound empty calm none k =
    let l1 : LinkState = after_host turn o resent l in
    let l2 : LinkState = after_board clock turn l1 in
    let parts = parts_of clock turn o resent l sound.step sound.many in
    let first : l1.core.link.up ≡ [] = parts.host.up ∙ empty in
    let copies : l1.up.copies ≡ [] = no_copies l1.up.copies (sym parts.many1.up ∙ ap length first) in
    let put = parts.put2 in
    let are : l2.up.copies ≡ put.copies = put.behind ∙ ap (λ (cs : List Copy). cs ++ put.copies) copies in
    let last : AllLast l2.up.copies = subst AllLast (sym are) (put.clean calm) in
    let many : length l2.core.link.up ≡ length l2.up.copies = ap length (parts.came.did.up ∙ ap (λ (rs : List Reply). rs ++ parts.came.did.more) first) ∙ sym put.as_many ∙ ap length (sym are) in
    heard_here turn l2.up.copies l2.core l2.core.link.up r refl many last none k

-- what the board says as it runs on
pub in_numbered : (n : ℕ) (cs : List Cmd) (c : Cmd) → IsAmong c cs → IsAmong (record { number = n; answer = wire_text c }) (numbered n (map wire_text cs))
in_numbered n [] c k = absurd k
in_numbered n (x ∷ cs) c k = elim k [ inl e ↦ inl (ap (λ (y : Cmd). record { number = n; answer = wire_text y }) e) | inr m ↦ inr (in_numbered n cs c m) ]

pub told_at_once : (b : BoardDef) (pins : List (List Level)) (board : ℕ) (entries : List Entry) (t : BoardTurn) (before : List BoardTurn) (c : Cmd) → RestsOver t before → AreBoardTurns (clock_of b) (first_state b pins board entries) (t ∷ before)
    → IsAmong c (says (takes_all (stands_after (first_state b pins board entries) before).core.board (commands_of (queued_in (orders t.control t.batch)))).rig (board_tick (clock_of b) (length before + 1)))
    → IsText own_formats c (wire_text c) → (n : ℕ) × IsAmong (record { number = n; answer = c }) t.state.news
told_at_once b pins board entries t before c rest are among text =
    let first = first_state b pins board entries in
    let clock = clock_of b in
    let o = orders t.control t.batch in
    let turn = length before in
    let tick = board_tick clock (turn + 1) in
    let l = stands_after first before in
    let x = taking b pins board entries t before rest are in
    let mid = x.0.mid in
    let empty = rests_up b pins board entries before are.1 (rests_none b pins board entries before rest.0) in
    let Sound : ℕ → Type 0 = λ k. IsSound l k in
    let sound = subst Sound (order_length before) (begins b pins board entries (orders_in before) l (turns_in_order clock first before are.1)).sound in
    let board_is : mid.board ≡ (takes_all l.core.board (commands_of (queued_in o))).rig = x.0.mid_board ∙ ap (λ (ms : List Meant). (takes_all l.core.board (commands_of ms)).rig) x.1 in
    let said : IsAmong c (says mid.board tick) = subst (λ (r : Rig). IsAmong c (says r tick)) (sym board_is) among in
    let reply : Reply = record { number = mid.link.accepted; answer = wire_text c } in
    let up : IsAmong reply (after_event mid (event.Pass tick)).link.up =
    among_right reply mid.link.up (numbered mid.link.accepted (map wire_text (says mid.board tick))) (in_numbered mid.link.accepted (says mid.board tick) c said) in
    let there = subst (λ (h : Core). IsAmong reply h.link.up) (sym x.0.behind) up in
    let resent = are.0.0.resent in
    let l3 = after_replies turn (after_board clock turn (after_host turn o resent l)) in
    let Up_of : LinkState → Type 0 = λ y. (y.up.calm ≤ turn + 4) × (y.up.copies ≡ []) in
    let calm = rests_calm t before rest.1 in
    let clear : Up_of l3 = subst Up_of are.0.0.becomes (omega (arith, calm), rests_none b pins board entries (t ∷ before) rest.1) in
    let heard = all_heard clock turn o resent l reply sound empty clear.0 clear.1 there in
    (mid.link.accepted, news_hold (heard_in (come Up turn (after_board clock turn (after_host turn o resent l)).up.copies) (after_board clock turn (after_host turn o resent l)).core) t.state.news reply c are.0.1.news heard text)
