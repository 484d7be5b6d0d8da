-- Over a turn over which its link rests, all that a board answers to the commands that it takes in a turn is told of this turn.
use Rattle.std.proofs.Common.{◌≡◌, ◌⊎◌, ℕ, ◌+◌, ◌≤◌, Bool, true, false, cond, List, [], ◌∷◌, ◌++◌, length, map, take, drop, sym, ◌∙◌, subst, arith, inl, inr}
use Rattle.std.specs.Prelude.{◌==◌, slice_index_or}
use Rattle.laws_board.proofs.Names.{append_cancel_left, Level, BoardDef, board_tick, clock_of, own_formats, Cmd, IsText, Reply, Entry, Down, Up, Meant, commands_of, Rig, takes_all, Core, Do, Step, does, after_event, run_world, says, takes_in, wire_text, queued_in, first_state, orders, LinkState, after_board, after_host, come, run_append}
use Rattle.link_core.specs.Core as link
use Rattle.link_core.specs.Core.{Link, numbered}
use Rattle.board_world.specs.declared.event.Event.TheVariants as event
use Rattle.board_world.specs.World.{block_of}
use Rattle.link_work.specs.Answers.{IsAmong}
use Rattle.link_work.specs.Told.{heard_in}
use Rattle.link_work.specs.Turn.{after_replies}
use Rattle.link_work.proofs.Answered.{begins}
use Rattle.link_work.proofs.Draining.{IsSound}
use Rattle.link_work.proofs.Saying.{among_left, among_right}
use Rattle.link_work.proofs.Steps.{AllOf, all_come}
use Rattle.laws_board.specs.turns.Turns.{AreBoardTurns, BoardTurn, stands_after}
use Rattle.laws_board.specs.clocks.Runs.{orders_in}
use Rattle.laws_board.proofs.clocks.Orders.{order_length, turns_in_order}
use Rattle.laws_homing.specs.clear_boards.Rests.{RestsOver}
use Rattle.laws_homing.proofs.home_runs.Resting.{rests_up}
use Rattle.laws_homing.proofs.home_runs.Staging.{commands_both}
use Rattle.laws_homing.proofs.clear_boards.Saying.{answers_both, taken_along, taken_is}
use Rattle.laws_homing.proofs.clear_boards.Taking.{IsComing, down_coming, down_taking, host_quiet_all}
use Rattle.laws_homing.proofs.clear_boards.Telling.{all_heard, in_numbered, news_hold}
use Rattle.laws_homing.proofs.clear_boards.Rests.{rests_calm, rests_none}

-- a reply with the bytes of an answer is under way up
abbrev UnderWay : Cmd → Link → Type 0
UnderWay c l = (n : ℕ) × IsAmong (record { number = n; answer = wire_text c }) l.up

among_parts : (c : Cmd) (xs ys : List Cmd) → IsAmong c (xs ++ ys) → IsAmong c xs ⊎ IsAmong c ys
among_parts c [] ys k = inr k
among_parts c (x ∷ xs) ys (inl e) = inl (inl e)
among_parts c (x ∷ xs) ys (inr m) = elim (among_parts c xs ys m) [ inl a ↦ inl (inr a) | inr b ↦ inr b ]

-- a block that the board handles
stays_handled : (l : Link) (n : ℕ) (answers : List (List ℕ)) (c : Cmd) → UnderWay c l → UnderWay c (link.handle l n answers)
stays_handled l n answers c k = by (n == l.accepted)
  where
    by : (b : Bool) → UnderWay c (cond b (record l { taken = l.taken ++ slice_index_or l.blocks n []; accepted = n + 1; up = l.up ++ (numbered (n + 1) answers ++ record { number = n + 1; answer = [] } ∷ []) })
        (record l { up = l.up ++ record { number = l.accepted; answer = [] } ∷ [] }))
    by true = (k.0, among_left (record { number = k.0; answer = wire_text c }) l.up (numbered (n + 1) answers ++ record { number = n + 1; answer = [] } ∷ []) k.1)
    by false = (k.0, among_left (record { number = k.0; answer = wire_text c }) l.up (record { number = l.accepted; answer = [] } ∷ []) k.1)

stays_repeated : (l : Link) (ds : List ℕ) (answers : List (List ℕ)) (c : Cmd) → UnderWay c l → UnderWay c (link.repeat l ds answers)
stays_repeated l [] answers c k = k
stays_repeated l (n ∷ ns) answers c k = stays_handled l n answers c k

stays_lost : (l : Link) (ds : List ℕ) (c : Cmd) → UnderWay c l → UnderWay c (link.lose l ds)
stays_lost l [] c k = k
stays_lost l (n ∷ ns) c k = k

stays_garbled : (l : Link) (ds : List ℕ) (told : Bool) (c : Cmd) → UnderWay c l → UnderWay c (link.garble l ds told)
stays_garbled l [] told c k = k
stays_garbled l (n ∷ ns) true c k = k
stays_garbled l (n ∷ ns) false c k = (k.0, among_left (record { number = k.0; answer = wire_text c }) l.up (record { number = l.accepted; answer = [] } ∷ []) k.1)

-- the answers to a block's commands, where the board expects it
abbrev TakenIf : Core → ℕ → Bool → List Cmd
TakenIf h n b = (takes_all h.board (commands_of (cond b (take (length (slice_index_or h.link.blocks n [])) (drop (length h.link.taken) h.queued)) []))).answers

answered : (h : Core) (ds : List ℕ) (c : Cmd) → IsAmong c (takes_all h.board (commands_of (block_of h ds))).answers → UnderWay c (link.repeat h.link ds (map wire_text (takes_all h.board (commands_of (block_of h ds))).answers))
answered h [] c k = absurd k
answered h (n ∷ ns) c k = by (n == h.link.accepted) k
  where
    by : (b : Bool) → IsAmong c (TakenIf h n b) → UnderWay c (cond b (record h.link { taken = h.link.taken ++ slice_index_or h.link.blocks n []; accepted = n + 1; up = h.link.up ++ (numbered (n + 1) (map wire_text (TakenIf h n b)) ++ record { number = n + 1; answer = [] } ∷ []) })
        (record h.link { up = h.link.up ++ record { number = h.link.accepted; answer = [] } ∷ [] }))
    by true m =
        let r : Reply = record { number = n + 1; answer = wire_text c } in
        let more = numbered (n + 1) (map wire_text (TakenIf h n true)) in
        (n + 1, among_right r h.link.up (more ++ record { number = n + 1; answer = [] } ∷ []) (among_left r more (record { number = n + 1; answer = [] } ∷ []) (in_numbered (n + 1) (TakenIf h n true) c m)))
    by false m = absurd m

-- what is answered in some steps
ups_hold : (c : Cmd) (steps : List Step) (h : Core) → AllOf IsComing steps → UnderWay c h.link ⊎ IsAmong c (takes_all h.board (commands_of (taken_along steps h))).answers → UnderWay c (run_world steps h).link
unfolding taken_along
ups_hold c [] h k (inl u) = u
ups_hold c [] h k (inr m) = absurd m
ups_hold c (Do event.Lose ∷ steps) h k (inl u) = ups_hold c steps (after_event h event.Lose) k.1 (inl (stays_lost h.link h.link.down c u))
ups_hold c (Do event.Lose ∷ steps) h k (inr m) = ups_hold c steps (after_event h event.Lose) k.1 (inr m)
ups_hold c (Do event.Garble ∷ steps) h k (inl u) = ups_hold c steps (after_event h event.Garble) k.1 (inl (stays_garbled h.link h.link.down h.spoilt c u))
ups_hold c (Do event.Garble ∷ steps) h k (inr m) = ups_hold c steps (after_event h event.Garble) k.1 (inr m)
ups_hold c (Do event.Arrive ∷ steps) h k (inl u) =
    let answers = map wire_text (does h event.Arrive).answers in
    ups_hold c steps (after_event h event.Arrive) k.1 (inl (stays_lost (link.repeat h.link h.link.down answers) h.link.down c (stays_repeated h.link h.link.down answers c u)))
ups_hold c (Do event.Arrive ∷ steps) h k (inr m) =
    let xs = takes_in h event.Arrive in
    let ys = taken_along steps (after_event h event.Arrive) in
    let Among : List Cmd → Type 0 = λ cs. IsAmong c cs in
    let both : Among (takes_all h.board (commands_of xs ++ commands_of ys)).answers = subst (λ (cs : List Cmd). Among (takes_all h.board cs).answers) (commands_both xs ys) m in
    let parts = among_parts c (takes_all h.board (commands_of xs)).answers (takes_all (takes_all h.board (commands_of xs)).rig (commands_of ys)).answers (subst Among (answers_both h.board (commands_of xs) (commands_of ys)) both) in
    ups_hold c steps (after_event h event.Arrive) k.1 (elim parts [
      | inl a ↦ inl (stays_lost (link.repeat h.link h.link.down (map wire_text (does h event.Arrive).answers)) h.link.down c (answered h h.link.down c a))
      | inr b ↦ inr b
    ])
ups_hold c (Do event.Repeat ∷ steps) h k (inl u) = ups_hold c steps (after_event h event.Repeat) k.1 (inl (stays_repeated h.link h.link.down (map wire_text (does h event.Repeat).answers) c u))
ups_hold c (Do event.Repeat ∷ steps) h k (inr m) =
    let xs = takes_in h event.Repeat in
    let ys = taken_along steps (after_event h event.Repeat) in
    let Among : List Cmd → Type 0 = λ cs. IsAmong c cs in
    let both : Among (takes_all h.board (commands_of xs ++ commands_of ys)).answers = subst (λ (cs : List Cmd). Among (takes_all h.board cs).answers) (commands_both xs ys) m in
    let parts = among_parts c (takes_all h.board (commands_of xs)).answers (takes_all (takes_all h.board (commands_of xs)).rig (commands_of ys)).answers (subst Among (answers_both h.board (commands_of xs) (commands_of ys)) both) in
    ups_hold c steps (after_event h event.Repeat) k.1 (elim parts [ inl a ↦ inl (answered h h.link.down c a) | inr b ↦ inr b ])
ups_hold c (s ∷ steps) h k u = absurd k.0

pub told_to_commands : (b : BoardDef) (pins : List (List Level)) (board : ℕ) (entries : List Entry) (t : BoardTurn) (before : List BoardTurn) (c : Cmd) → RestsOver t before → AreBoardTurns (clock_of b) (first_state b pins board entries) (t ∷ before)
    → IsAmong c (takes_all (stands_after (first_state b pins board entries) before).core.board (commands_of (queued_in (orders t.control t.batch)))).answers
    → IsText own_formats c (wire_text c) → (n : ℕ) × IsAmong (record { number = n; answer = c }) t.state.news
told_to_commands b pins board entries t before c rest are among text =
    let first = first_state b pins board entries in
    let clock = clock_of b in
    let o = orders t.control t.batch in
    let turn = length before in
    let tick = board_tick clock (turn + 1) in
    let l = stands_after first before in
    let resent = are.0.0.resent in
    let empty = rests_up b pins board entries before are.1 (rests_none b pins board entries before rest.0) in
    let l1 : LinkState = after_host turn o resent l in
    let l2 : LinkState = after_board clock turn l1 in
    let l3 : LinkState = after_replies turn l2 in
    let down = come Down turn l1.down.copies in
    let mid : Core = run_world down l1.core in
    let host = host_quiet_all turn o resent l.core in
    let coming = all_come IsComing Down down_coming turn l1.down.copies in
    let x = down_taking b pins board entries t before rest are in
    let Taken : List Meant → Type 0 = λ ms. IsAmong c (takes_all l1.core.board (commands_of ms)).answers in
    let On : Rig → Type 0 = λ r. IsAmong c (takes_all r (commands_of (queued_in o))).answers in
    let meant : taken_along down l1.core ≡ queued_in o = append_cancel_left l1.core.taken (taken_along down l1.core) (queued_in o) (sym (taken_is down l1.core) ∙ x.0) in
    let way = ups_hold c down l1.core coming (inr (subst Taken (sym meant) (subst On (sym host.0) among))) in
    let reply : Reply = record { number = way.0; answer = wire_text c } in
    let behind : l2.core ≡ after_event mid (event.Pass tick) = run_append down (Do (event.Pass tick) ∷ []) l1.core in
    let up : IsAmong reply (after_event mid (event.Pass tick)).link.up = among_left reply mid.link.up (numbered mid.link.accepted (map wire_text (says mid.board tick))) way.1 in
    let there = subst (λ (h : Core). IsAmong reply h.link.up) (sym behind) up in
    let Sound : ℕ → Type 0 = λ k. IsSound l k in
    let sound = subst Sound (order_length before) (begins b pins board entries (orders_in before) l (turns_in_order clock first before are.1)).sound in
    let Up_of : LinkState → Type 0 = λ y. (y.up.calm ≤ turn + 4) × (y.up.copies ≡ []) in
    let calm = rests_calm t before rest.1 in
    let clear : Up_of l3 = subst Up_of are.0.0.becomes (omega (arith, calm), rests_none b pins board entries (t ∷ before) rest.1) in
    let heard = all_heard clock turn o resent l reply sound empty clear.0 clear.1 there in
    (way.0, news_hold (heard_in (come Up turn l2.up.copies) l2.core) t.state.news reply c are.0.1.news heard text)
