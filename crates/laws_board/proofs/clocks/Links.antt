-- What a board tells of its clock over turns of its link.
use Rattle.std.proofs.Common.{◌≡◌, ℕ, suc, ◌+◌, ◌^◌, ◌<◌, ◌≤◌, ◌⊎◌, inl, inr, Bool, true, false, cond, List, [], ◌∷◌, ◌++◌, length, Option, Some, None, refl, ap, sym, ◌∙◌, subst, arith}
use Rattle.std.specs.Prelude.{◌&&◌, nat_lt}
use Rattle.laws_board.proofs.Names.{BoardClock, BoardDef, Level, board_tick, clock_of, own_formats, Cmd, News, IsText, Entry, Down, Up, Reply, Core, Step, Do, world_after, after_event, run_world, IsOrdered, LinkState, Orders, IsTurn, after_board, after_host, come, first_state, orders, run_append, turns_are_steps}
use Rattle.plan_types.specs.Clock.{tick_limit}
use Rattle.msg_code.specs.declared.cmd.Cmd.TheVariants as cmd
use Rattle.link_core.specs.Core.{sent}
use Rattle.link_core.specs.Stands.{last_closes}
use Rattle.board_world.specs.declared.event.Event.TheVariants as event
use Rattle.board_world.specs.Stands.{IsAnswer}
use Rattle.board_world.proofs.Runs.{ordered, start_ordered}
use Rattle.link_work.specs.Turn.{after_replies, host_steps}
use Rattle.link_work.specs.Told.{AreNews, IsTold, asked_at, asked_in, before_replies, heard_in, news_of}
use Rattle.link_work.proofs.Parts.{starts_in_time, ticks_rise}
use Rattle.link_work.proofs.Steps.{come_holds, host_holds, tick_held, tick_passed}
use Rattle.laws_board.specs.turns.Turns.{BoardTurn, AreBoardTurns, stands_after}
use Rattle.laws_board.specs.clocks.Samples.{IsAmong, WasPut, IsClock, TellsClock, WasTold}
use Rattle.laws_board.proofs.clocks.Dated.{Dates, Dated, dated_along, dated_by, dated_more, accepted_grows, sent_grows}
use Rattle.laws_board.proofs.clocks.Replies.{up_come}

-- in one of these turns the board stood at this tick, and block n had been put by its end
abbrev pub TookBy : BoardClock → List BoardTurn → (ℕ → (ℕ → Type 0))
TookBy clock [] = λ n v. ⊥
TookBy clock (t ∷ before) = λ n v. ((v ≡ board_tick clock (length before)) × (n < sent t.after.core.link)) ⊎ TookBy clock before n v

-- a link as a turn begins
pub record IsAt (clock : BoardClock) (P : ℕ → (ℕ → Type 0)) (turn : ℕ) (l : LinkState) : Type 0 where
  pub tick : l.core.board.controller.tick ≡ board_tick clock turn
  pub ordered : IsOrdered l.core
  pub dated : Dated P l.core.link.up

-- what a turn leaves, and the replies that come in it
pub record Turned (clock : BoardClock) (P : ℕ → (ℕ → Type 0)) (turn : ℕ) (l2 l3 : LinkState) : Type 0 where
  pub at : IsAt clock P (turn + 1) l3
  pub heard : Dated P (heard_in (come Up turn l2.up.copies) l2.core)

pub turn_parts : (clock : BoardClock) (P : ℕ → (ℕ → Type 0)) (turn low most : ℕ) (o : Orders) (resent : Bool) (l l1 l2 l3 : LinkState)
    → l1 ≡ after_host turn o resent l → l2 ≡ after_board clock turn l1 → l3 ≡ after_replies turn l2
    → IsAt clock P turn l → board_tick clock turn < 2 ^ 64 → sent l3.core.link ≤ most → low ≤ l.core.link.accepted → ((n : ℕ) → low ≤ n → n < most → P n (board_tick clock turn)) → Turned clock P turn l2 l3
turn_parts clock P turn low most o resent l l1 l2 l3 e1 e2 e3 k small few from p =
    let until = board_tick clock (turn + 1) in
    let host = host_steps turn o resent in
    let down = come Down turn l1.down.copies in
    let up = come Up turn l2.up.copies in
    let c1 : l1.core ≡ run_world host l.core = ap (λ (x : LinkState). x.core) e1 in
    let c2 : l2.core ≡ after_event (run_world down l1.core) (event.Pass until) = ap (λ (x : LinkState). x.core) e2 ∙ run_append down (Do (event.Pass until) ∷ []) l1.core in
    let c3 : l3.core ≡ run_world up l2.core = ap (λ (x : LinkState). x.core) e3 in
    let o1 : IsOrdered l1.core = subst IsOrdered (sym c1) (ordered host l.core k.ordered) in
    let od : IsOrdered (run_world down l1.core) = ordered down l1.core o1 in
    let o2 : IsOrdered l2.core = subst IsOrdered (sym c2) (ordered (Do (event.Pass until) ∷ []) (run_world down l1.core) od) in
    let o3 : IsOrdered l3.core = subst IsOrdered (sym c3) (ordered up l2.core o2) in
    let t1 : l1.core.board.controller.tick ≡ board_tick clock turn = ap (λ (h : Core). h.board.controller.tick) c1 ∙ tick_held host l.core (host_holds turn o resent) ∙ k.tick in
    let td : (run_world down l1.core).board.controller.tick ≡ board_tick clock turn = tick_held down l1.core (come_holds Down turn l1.down.copies) ∙ t1 in
    let t2 : l2.core.board.controller.tick ≡ until = ap (λ (h : Core). h.board.controller.tick) c2 ∙ tick_passed (run_world down l1.core) until od (omega (arith, td, ticks_rise clock turn)) in
    let t3 : l3.core.board.controller.tick ≡ until = ap (λ (h : Core). h.board.controller.tick) c3 ∙ tick_held up l2.core (come_holds Up turn l2.up.copies) ∙ t2 in
    let s3 : sent l2.core.link ≤ sent l3.core.link = omega (arith, sent_grows up l2.core, ap (λ (h : Core). sent h.link) c3) in
    let s2 : sent (run_world down l1.core).link ≤ sent l2.core.link = omega (arith, sent_grows (Do (event.Pass until) ∷ []) (run_world down l1.core), ap (λ (h : Core). sent h.link) c2) in
    let s1 : sent l1.core.link ≤ sent (run_world down l1.core).link = sent_grows down l1.core in
    let sh : sent (run_world host l.core).link ≡ sent l1.core.link = ap (λ (h : Core). sent h.link) (sym c1) in
    let from1 : low ≤ l1.core.link.accepted = omega (arith, accepted_grows host l.core, ap (λ (h : Core). h.link.accepted) c1) in
    let from2 : low ≤ (run_world down l1.core).link.accepted = omega (arith, accepted_grows down l1.core) in
    let d1 : Dated P l1.core.link.up = subst (λ (h : Core). Dated P h.link.up) (sym c1)
    (dated_along P host l.core (board_tick clock turn) low most (host_holds turn o resent) k.ordered k.tick small p from (omega arith) k.dated) in
    let dd : Dated P (run_world down l1.core).link.up =
    dated_along P down l1.core (board_tick clock turn) low most (come_holds Down turn l1.down.copies) o1 t1 small p from1 (omega arith) d1 in
    let d2 : Dated P l2.core.link.up = subst (λ (h : Core). Dated P h.link.up) (sym c2)
    (dated_by P (run_world down l1.core) (event.Pass until) (board_tick clock turn) od.in_step td small (λ n above below. p n (omega arith) (omega arith)) dd) in
    let came = up_come (Dates P) turn l2.up.copies l2.core d2 in
    record { at = record { tick = t3; ordered = o3; dated = subst (λ (h : Core). Dated P h.link.up) (sym c3) came.1 }; heard = came.0 }

-- the clocks that are told are those of replies
clock_is : (P : ℕ → (ℕ → Type 0)) (r : Reply) (c : Cmd) (number clock : ℕ) → Dates P r → IsText own_formats c r.answer → r.number ≡ number → IsClock clock c → (n : ℕ) × (number ≡ n + 1) × P n clock
clock_is P r (cmd.Uptime high low) number clock d t e f =
    let x = d high low t in
    (x.0, sym e ∙ x.1, subst (λ (v : ℕ). P x.0 v) (sym f) x.2)
clock_is P r c number clock d t e f = absurd f

first_news : (P : ℕ → (ℕ → Type 0)) (r : Reply) (o : Option Cmd) (rest : List News) (number clock : ℕ) → Dates P r → IsAnswer r o → TellsClock number clock (news_of r o ++ rest)
    → ((n : ℕ) × (number ≡ n + 1) × P n clock) ⊎ TellsClock number clock rest
first_news P r None rest number clock d a t = inr t
first_news P r (Some c) rest number clock d a (inl t) = inl (clock_is P r c number clock d ((a c).0 refl) t.0 t.1)
first_news P r (Some c) rest number clock d a (inr t) = inr t

pub told_dated : (P : ℕ → (ℕ → Type 0)) (rs : List Reply) (news : List News) (number clock : ℕ) → AreNews rs news → Dated P rs → TellsClock number clock news → (n : ℕ) × (number ≡ n + 1) × P n clock
told_dated P [] news number clock are d t = absurd (subst (λ (x : List News). TellsClock number clock x) are t)
told_dated P (r ∷ rs) news number clock are d t =
    elim (first_news P r are.0 are.1 number clock d.0 are.2 (subst (λ (x : List News). TellsClock number clock x) are.4 t)) [
      | inl found ↦ found
      | inr later ↦ told_dated P rs are.1 number clock are.3 d.1 later
    ]

-- the blocks that are first put in a turn come behind those that were put before
asked_one : (h g : Core) (n : ℕ) (b : Bool) → IsAmong n (cond b (sent h.link ∷ []) []) → sent h.link ≡ n
asked_one h g n true (inl e) = e
asked_one h g n true (inr k) = absurd k
asked_one h g n false k = absurd k

pub among_both : (n : ℕ) (xs ys : List ℕ) → IsAmong n (xs ++ ys) → IsAmong n xs ⊎ IsAmong n ys
among_both n [] ys k = inr k
among_both n (x ∷ xs) ys (inl e) = inl (inl e)
among_both n (x ∷ xs) ys (inr k) = elim (among_both n xs ys k) [ inl a ↦ inl (inr a) | inr a ↦ inr a ]

pub asked_here : (s : Step) (h : Core) (n : ℕ) → IsAmong n (asked_at s h) → sent h.link ≡ n
asked_here (Do event.Send) h n k =
    let g = after_event h event.Send in
    asked_one h g n (nat_lt (sent h.link) (sent g.link) && last_closes false g.link.blocks) k
asked_here s h n k = absurd k

pub asked_from : (steps : List Step) (h : Core) (n : ℕ) → IsAmong n (asked_in steps h) → sent h.link ≤ n
asked_from [] h n k = absurd k
asked_from (s ∷ steps) h n k =
    elim (among_both n (asked_at s h) (asked_in steps (world_after h s)) k) [
      | inl now ↦ let e = asked_here s h n now in omega arith
      | inr later ↦ let e = asked_from steps (world_after h s) n later in let g = sent_grows (s ∷ []) h in omega arith
    ]

-- over turns
abbrev pub Sound : BoardClock → LinkState → List BoardTurn → Type 0
Sound clock first turns = IsAt clock (TookBy clock turns) (length turns) (stands_after first turns)

abbrev pub IsTurnAfter : BoardClock → LinkState → BoardTurn → List BoardTurn → Type 0
IsTurnAfter clock first t before =
    (i : IsTurn clock (length before) (orders t.control t.batch) (stands_after first before) t.after)
    × IsTold clock (length before) (orders t.control t.batch) (stands_after first before) i.resent t.after.core t.state

took_more : (clock : BoardClock) (t : BoardTurn) (before : List BoardTurn) (n v : ℕ) → TookBy clock before n v → TookBy clock (t ∷ before) n v
took_more clock t before n v k = inr k

at_more : (clock : BoardClock) (t : BoardTurn) (before : List BoardTurn) (turn : ℕ) (l : LinkState) → IsAt clock (TookBy clock before) turn l → IsAt clock (TookBy clock (t ∷ before)) turn l
at_more clock t before turn l k = record {
  tick = k.tick;
  ordered = k.ordered;
  dated = dated_more (TookBy clock before) (TookBy clock (t ∷ before)) l.core.link.up (took_more clock t before) k.dated;
}

turn_does : (clock : BoardClock) (first : LinkState) (t : BoardTurn) (before : List BoardTurn) (x : IsTurnAfter clock first t before) → Sound clock first before → board_tick clock (length before) < 2 ^ 64
    → Turned clock (TookBy clock (t ∷ before)) (length before) (before_replies clock (length before) (orders t.control t.batch) x.0.resent (stands_after first before)) t.after
turn_does clock first t before x k small =
    let turn = length before in
    let o = orders t.control t.batch in
    let l = stands_after first before in
    let l1 = after_host turn o x.0.resent l in
    turn_parts clock (TookBy clock (t ∷ before)) turn 0 (sent t.after.core.link) o x.0.resent l l1 (after_board clock turn l1) t.after refl refl x.0.becomes
    (at_more clock t before turn l k) small (omega arith) (omega arith) (λ n low few. inl (refl, few))

first_sound : (b : BoardDef) (pins : List (List Level)) (board : ℕ) (entries : List Entry) → Sound (clock_of b) (first_state b pins board entries) []
first_sound b pins board entries = record { tick = starts_in_time b pins; ordered = start_ordered b pins; dated = tt }

-- the link stands so behind any turns, where the ticks have 64 bits
pub sound : (b : BoardDef) (pins : List (List Level)) (board : ℕ) (entries : List Entry) (turns : List BoardTurn) → AreBoardTurns (clock_of b) (first_state b pins board entries) turns
    → board_tick (clock_of b) (length turns) < 2 ^ 64 → Sound (clock_of b) (first_state b pins board entries) turns
sound b pins board entries [] are small = first_sound b pins board entries
sound b pins board entries (t ∷ before) are small =
    let clock = clock_of b in
    let first = first_state b pins board entries in
    let next : length before + 1 ≡ suc (length before) = omega arith in
    let now : board_tick clock (length before) < 2 ^ 64 = omega (arith, ticks_rise clock (length before), ap (board_tick clock) next) in
    let done = turn_does clock first t before are.0 (sound b pins board entries before are.1 now) now in
    subst (λ (n : ℕ). IsAt clock (TookBy clock (t ∷ before)) n t.after) next done.at

-- no block is taken back over a turn, and none that was put before is first put in it
pub turn_grows : (clock : BoardClock) (first : LinkState) (t : BoardTurn) (before : List BoardTurn) → IsTurnAfter clock first t before → sent (stands_after first before).core.link ≤ sent t.after.core.link
turn_grows clock first t before x =
    let l = stands_after first before in
    let steps = turns_are_steps clock (length before) (orders t.control t.batch ∷ []) l t.after (t.after, x.0, refl) in
    omega (arith, sent_grows steps.0 l.core, ap (λ (h : Core). sent h.link) steps.1)

not_again : (clock : BoardClock) (first : LinkState) (t : BoardTurn) (before : List BoardTurn) (n : ℕ) → IsTurnAfter clock first t before → n < sent (stands_after first before).core.link
    → IsAmong n t.state.asked → ⊥
not_again clock first t before n x few k =
    let l = stands_after first before in
    let told = x.1 in
    let asked = asked_from (host_steps (length before) (orders t.control t.batch) x.0.resent) l.core n (subst (λ (ns : List ℕ). IsAmong n ns) told.asked k) in
    absurd (omega arith)

took_sent : (clock : BoardClock) (first : LinkState) (turns : List BoardTurn) (n v : ℕ) → AreBoardTurns clock first turns → TookBy clock turns n v → n < sent (stands_after first turns).core.link
took_sent clock first [] n v are k = absurd k
took_sent clock first (t ∷ before) n v are (inl k) = k.1
took_sent clock first (t ∷ before) n v are (inr k) = let few = took_sent clock first before n v are.1 k in let grows = turn_grows clock first t before are.0 in omega arith

pub put_before : (n put : ℕ) (turns : List BoardTurn) → WasPut n put turns → put < length turns
put_before n put [] k = absurd k
put_before n put (t ∷ before) (inl k) = let e = k.0 in omega arith
put_before n put (t ∷ before) (inr k) = let l = put_before n put before k in omega arith

abbrev NotBefore : ℕ → ℕ → List BoardTurn → Type 0
NotBefore n at turns = (put : ℕ) → WasPut n put turns → put ≤ at

still_not : (clock : BoardClock) (first : LinkState) (t : BoardTurn) (before : List BoardTurn) (n at : ℕ) → IsTurnAfter clock first t before → n < sent (stands_after first before).core.link
    → NotBefore n at before → NotBefore n at (t ∷ before)
still_not clock first t before n at x few old put (inl k) = absurd (not_again clock first t before n x few k.1)
still_not clock first t before n at x few old put (inr k) = old put k

none_later : (t : BoardTurn) (before : List BoardTurn) (n : ℕ) → NotBefore n (length before) (t ∷ before)
none_later t before n put (inl k) = let e = k.0 in omega arith
none_later t before n put (inr k) = let l = put_before n put before k in omega arith

took_at : (clock : BoardClock) (first : LinkState) (turns : List BoardTurn) (n v : ℕ) → AreBoardTurns clock first turns → TookBy clock turns n v
    → (at : ℕ) × (at < length turns) × (v ≡ board_tick clock at) × NotBefore n at turns
took_at clock first [] n v are k = absurd k
took_at clock first (t ∷ before) n v are (inl k) = (length before, omega arith, k.0, none_later t before n)
took_at clock first (t ∷ before) n v are (inr k) =
    let old = took_at clock first before n v are.1 k in
    let few = took_sent clock first before n v are.1 k in
    let l = old.1 in
    (old.0, omega arith, old.2, still_not clock first t before n old.0 are.0 few old.3)

-- a clock that was told is the board's own tick of a turn by which the block had been put
pub record IsTaken (clock : BoardClock) (first : LinkState) (turns : List BoardTurn) (number value turn : ℕ) : Type 0 where
  pub block : ℕ
  pub number_is : number ≡ block + 1
  pub at : ℕ
  pub not_late : at ≤ turn
  pub own : value ≡ board_tick clock at
  pub was_sent : block < sent (stands_after first turns).core.link
  pub put : (put : ℕ) → WasPut block put turns → put ≤ at

pub told_took : (b : BoardDef) (pins : List (List Level)) (board : ℕ) (entries : List Entry) (turns : List BoardTurn) → AreBoardTurns (clock_of b) (first_state b pins board entries) turns
    → board_tick (clock_of b) (length turns) < 2 ^ 64 → (number value turn : ℕ) → WasTold number value turn turns → IsTaken (clock_of b) (first_state b pins board entries) turns number value turn
told_took b pins board entries [] are small number value turn told = absurd told
told_took b pins board entries (t ∷ before) are small number value turn (inl told) =
    let clock = clock_of b in
    let first = first_state b pins board entries in
    let next : length before + 1 ≡ suc (length before) = omega arith in
    let now : board_tick clock (length before) < 2 ^ 64 = omega (arith, ticks_rise clock (length before), ap (board_tick clock) next) in
    let done = turn_does clock first t before are.0 (sound b pins board entries before are.1 now) now in
    let says = are.0.1 in
    let found = told_dated (TookBy clock (t ∷ before)) _ t.state.news number value says.news done.heard told.1 in
    let at = took_at clock first (t ∷ before) found.0 value are found.2 in
    let early = at.1 in
    let this = told.0 in
    record {
      block = found.0;
      number_is = found.1;
      at = at.0;
      not_late = omega arith;
      own = at.2;
      was_sent = took_sent clock first (t ∷ before) found.0 value are found.2;
      put = at.3;
    }
told_took b pins board entries (t ∷ before) are small number value turn (inr told) =
    let clock = clock_of b in
    let first = first_state b pins board entries in
    let next : length before + 1 ≡ suc (length before) = omega arith in
    let now : board_tick clock (length before) < 2 ^ 64 = omega (arith, ticks_rise clock (length before), ap (board_tick clock) next) in
    let old = told_took b pins board entries before are.1 now number value turn told in
    let grows = turn_grows clock first t before are.0 in
    record {
      block = old.block;
      number_is = old.number_is;
      at = old.at;
      not_late = old.not_late;
      own = old.own;
      was_sent = let few = old.was_sent in omega arith;
      put = still_not clock first t before old.block old.at are.0 old.was_sent old.put;
    }

pub told_own : (b : BoardDef) (pins : List (List Level)) (board : ℕ) (entries : List Entry) (turns : List BoardTurn) → AreBoardTurns (clock_of b) (first_state b pins board entries) turns
    → board_tick (clock_of b) (length turns) < tick_limit → (number clock turn : ℕ) → WasTold number clock turn turns
    → (block at : ℕ) × (number ≡ block + 1) × (at ≤ turn) × (clock ≡ board_tick (clock_of b) at) × ((put : ℕ) → WasPut block put turns → put ≤ at)
told_own b pins board entries turns are small number clock turn told =
    let few : board_tick (clock_of b) (length turns) < 2 ^ 64 = omega arith in
    let k = told_took b pins board entries turns are few number clock turn told in
    (k.block, k.at, k.number_is, k.not_late, k.own, k.put)
