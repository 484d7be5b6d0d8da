-- A link over turns from a moment on at which nothing is under way up, and no command is left that starts its board's trigger: what is told of
-- the trigger that it can't trigger is so.
use Rattle.std.proofs.Common.{◌≡◌, ℕ, ◌+◌, ◌≤◌, ◌⊎◌, inl, inr, Bool, List, [], ◌∷◌, ◌++◌, length, map, Option, Some, None, refl, ap, sym, subst, arith}
use Rattle.laws_board.proofs.Names.{BoardClock, board_tick, own_formats, Cmd, News, IsText, Down, Up, Reply, Meant, Rig, Event, plain, units_orders, IsOrdered, Core, Step, Do, Turn, does, after_event, in_turn, run_world, takes_in, queued_in, orders, LinkState, Orders, after_board, after_host, come}
use Rattle.msg_code.specs.declared.cmd.Cmd.TheVariants as cmd
use Rattle.wire_scene.specs.declared.wire.Fate.{Fate}
use Rattle.wire_scene.specs.declared.wire.Fate.TheVariants.{Lost, Last, Stays, Garbled}
use Rattle.board_world.specs.declared.event.Event.TheVariants as event
use Rattle.board_world.specs.Stands.{IsAnswer}
use Rattle.board_world.specs.World.{orders_of}
use Rattle.board_world.proofs.Runs.{ordered_by, ordered_turn}
use Rattle.link_work.specs.Told.{AreNews, before_replies, heard_in, news_of}
use Rattle.link_work.specs.Turn.{after_replies, board_steps, comes, host_steps, resends, sends}
use Rattle.link_work.proofs.Steps.{AllOf, all_append, all_come, all_resent, all_sent}
use Rattle.laws_board.specs.turns.Turns.{AreBoardTurns, BoardTurn, stands_after}
use Rattle.laws_board.proofs.clocks.Links.{IsTurnAfter}
use Rattle.laws_board.proofs.clocks.Replies.{up_come}
use Rattle.laws_homing.specs.home_runs.Guards.{AreCalm, HasFired, HasNoTimeout, IsSole}
use Rattle.laws_homing.specs.home_runs.Windows.{BringCalm, HasAnswer, IsFired, TellFired, SayFired}
use Rattle.laws_homing.proofs.home_runs.Firing.{EachFires, Fires, StandsRead, calm_both, calm_each, calm_parts, fires_by, fires_next, left_by, next_by, says_by}
use Rattle.laws_homing.proofs.home_runs.Guarding.{Next, fired_next, next_same, next_then}

-- a link of which the trigger is the board's only one, what is queued and not taken is calm, and what is under way up and tells that a trigger can't
-- trigger tells so of this one as it is
pub record Watch (i j : ℕ) (h : Core) : Type 0 where
  pub ordered : IsOrdered h
  pub sole : IsSole j h.board
  pub few : length h.board.triggers ≤ 256
  pub left : List Meant
  pub rest : h.taken ++ left ≡ h.queued
  pub calm : AreCalm i j left
  pub fires : EachFires j h.board h.link.up

-- a link is watched on, and what became of its board
record Goes (i j : ℕ) (h g : Core) : Type 0 where
  watch : Watch i j g
  next : Next i j h.board g.board

goes_by : (i j : ℕ) (h : Core) (e : Event) → AreCalm i j (orders_of e) → Watch i j h → Goes i j h (after_event h e)
goes_by i j h e brings w =
    let o = ordered_by h e w.ordered in
    let l = left_by h e w.left o w.rest in
    let both = calm_parts i j (takes_in h e) l.0 (subst (λ (x : List Meant). AreCalm i j x) (sym l.1) (calm_both i j w.left (orders_of e) w.calm brings)) in
    let taken = calm_each i j (takes_in h e) both.0 in
    let next = next_by i j h e taken in
    let q = (does h e).board in
    record {
      watch = record {
        ordered = o;
        sole = next.sole w.sole;
        few = let f = w.few in omega (arith, f, next.places);
        left = l.0;
        rest = l.2;
        calm = both.1;
        fires = fires_by (HasNoTimeout j h.board) j q h e (λ s is. (w.ordered.sound j s is).idle) (says_by i j h e taken w.few w.sole) (fires_next i j h.board q h.link.up next w.fires);
      };
      next = next;
    }

watch_turn : (i j : ℕ) (h : Core) (turn : ℕ) → Watch i j h → Watch i j (in_turn h turn)
watch_turn i j h turn w = record { ordered = ordered_turn h turn w.ordered; sole = w.sole; few = w.few; left = w.left; rest = w.rest; calm = w.calm; fires = w.fires }

-- what steps queue is calm
abbrev BringsCalm : ℕ → ℕ → Step → Type 0
BringsCalm i j (Do e) = AreCalm i j (orders_of e)
BringsCalm i j (Turn turn) = Unit {0}

goes_along : (i j : ℕ) (steps : List Step) (h : Core) → AllOf (BringsCalm i j) steps → Watch i j h → Goes i j h (run_world steps h)
goes_along i j [] h b w = record { watch = w; next = next_same i j h.board }
goes_along i j (Do e ∷ steps) h b w =
    let one = goes_by i j h e b.0 w in
    let rest = goes_along i j steps (after_event h e) b.1 one.watch in
    record { watch = rest.watch; next = next_then i j h.board (after_event h e).board (run_world steps (after_event h e)).board one.next rest.next }
goes_along i j (Turn turn ∷ steps) h b w =
    let rest = goes_along i j steps (in_turn h turn) b.1 (watch_turn i j h turn w) in
    record { watch = rest.watch; next = rest.next }

-- the steps of a turn
host_calm : (i j turn : ℕ) (o : Orders) (resent : Bool) → AreCalm i j (queued_in o) → AllOf (BringsCalm i j) (host_steps turn o resent)
host_calm i j turn o resent calm =
    let both = calm_parts i j (map plain o.control.commands) (units_orders o.batch.units) calm in
    let P : Step → Type 0 = BringsCalm i j in
    (tt, (both.0, (both.1, all_append P (resends resent) (sends 12) (all_resent P tt resent) (all_sent P tt 12))))

down_calm : (i j : ℕ) (fate : Fate) → AllOf (BringsCalm i j) (comes Down fate)
down_calm i j Stays = (tt, (tt, tt))
down_calm i j c = (tt, tt)

up_calm : (i j : ℕ) (fate : Fate) → AllOf (BringsCalm i j) (comes Up fate)
up_calm i j Last = (tt, (tt, tt))
up_calm i j Stays = (tt, (tt, (tt, tt)))
up_calm i j c = (tt, tt)

-- a turn
record Turned (i j turn : ℕ) (l l2 l3 : LinkState) : Type 0 where
  goes : Goes i j l.core l3.core
  fires : EachFires j l3.core.board (heard_in (come Up turn l2.up.copies) l2.core)

turn_parts : (clock : BoardClock) (i j turn : ℕ) (o : Orders) (resent : Bool) (l l1 l2 l3 : LinkState) → l1 ≡ after_host turn o resent l → l2 ≡ after_board clock turn l1 → l3 ≡ after_replies turn l2 → AreCalm i j (queued_in o)
    → Watch i j l.core → Turned i j turn l l2 l3
turn_parts clock i j turn o resent l l1 l2 l3 e1 e2 e3 calm w =
    let P : Step → Type 0 = BringsCalm i j in
    let up = come Up turn l2.up.copies in
    let c1 : l1.core ≡ run_world (host_steps turn o resent) l.core = ap (λ (x : LinkState). x.core) e1 in
    let c2 : l2.core ≡ run_world (board_steps clock turn l1.down.copies) l1.core = ap (λ (x : LinkState). x.core) e2 in
    let c3 : l3.core ≡ run_world up l2.core = ap (λ (x : LinkState). x.core) e3 in
    let g1 : Goes i j l.core l1.core = subst (λ (h : Core). Goes i j l.core h) (sym c1) (goes_along i j (host_steps turn o resent) l.core (host_calm i j turn o resent calm) w) in
    let down = all_append P (come Down turn l1.down.copies) (Do (event.Pass (board_tick clock (turn + 1))) ∷ []) (all_come P Down (down_calm i j) turn l1.down.copies) (tt, tt) in
    let g2 : Goes i j l1.core l2.core = subst (λ (h : Core). Goes i j l1.core h) (sym c2) (goes_along i j (board_steps clock turn l1.down.copies) l1.core down g1.watch) in
    let g3 : Goes i j l2.core l3.core = subst (λ (h : Core). Goes i j l2.core h) (sym c3) (goes_along i j up l2.core (all_come P Up (up_calm i j) turn l2.up.copies) g2.watch) in
    record {
      goes = record { watch = g3.watch; next = next_then i j l.core.board l2.core.board l3.core.board (next_then i j l.core.board l1.core.board l2.core.board g1.next g2.next) g3.next };
      fires = fires_next i j l2.core.board l3.core.board (heard_in up l2.core) g3.next (up_come (Fires j l2.core.board) turn l2.up.copies l2.core g2.watch.fires).0;
    }

turn_does : (clock : BoardClock) (first : LinkState) (i j : ℕ) (t : BoardTurn) (before : List BoardTurn) (x : IsTurnAfter clock first t before) → AreCalm i j (queued_in (orders t.control t.batch))
    → Watch i j (stands_after first before).core → Turned i j (length before) (stands_after first before) (before_replies clock (length before) (orders t.control t.batch) x.0.resent (stands_after first before)) t.after
turn_does clock first i j t before x calm w =
    let turn = length before in
    let o = orders t.control t.batch in
    let l = stands_after first before in
    let l1 = after_host turn o x.0.resent l in
    turn_parts clock i j turn o x.0.resent l l1 (after_board clock turn l1) t.after refl refl x.0.becomes calm w

-- what is told that a trigger can't trigger
fired_is : (c : Cmd) → IsFired c → (oid : ℕ) × (reason : ℕ) × (clock : ℕ) × (c ≡ cmd.TrsyncState oid 0 reason clock)
fired_is (cmd.TrsyncState oid can reason clock) e = (oid, reason, clock, ap (λ (n : ℕ). cmd.TrsyncState oid n reason clock) e)
fired_is c e = absurd e

fired_answer : (news : List News) → SayFired news → (oid : ℕ) × (reason : ℕ) × (clock : ℕ) × HasAnswer (cmd.TrsyncState oid 0 reason clock) news
fired_answer [] t = absurd t
fired_answer (n ∷ news) (inl e) = let is = fired_is n.answer e in (is.0, is.1, is.2, inl is.3)
fired_answer (n ∷ news) (inr t) = let later = fired_answer news t in (later.0, later.1, later.2, inr later.3)

first_read : (j oid reason clock : ℕ) (q : Rig) (r : Reply) (o : Option Cmd) (rest : List News) → Fires j q r → IsAnswer r o → HasAnswer (cmd.TrsyncState oid 0 reason clock) (news_of r o ++ rest)
    → StandsRead j reason clock q ⊎ HasAnswer (cmd.TrsyncState oid 0 reason clock) rest
first_read j oid reason clock q r None rest f a t = inr t
first_read j oid reason clock q r (Some c) rest f a (inl e) = inl (f oid reason clock (subst (λ (x : Cmd). IsText own_formats x r.answer) e ((a c).0 refl)))
first_read j oid reason clock q r (Some c) rest f a (inr t) = inr t

told_read : (j oid reason clock : ℕ) (q : Rig) (rs : List Reply) (news : List News) → AreNews rs news → EachFires j q rs → HasAnswer (cmd.TrsyncState oid 0 reason clock) news → StandsRead j reason clock q
told_read j oid reason clock q [] news are f t = absurd (subst (HasAnswer (cmd.TrsyncState oid 0 reason clock)) are t)
told_read j oid reason clock q (r ∷ rs) news are f t =
    elim (first_read j oid reason clock q r are.0 are.1 f.0 are.2 (subst (HasAnswer (cmd.TrsyncState oid 0 reason clock)) are.4 t)) [ inl found ↦ found | inr later ↦ told_read j oid reason clock q rs are.1 are.3 f.1 later ]

pub read_now : (clock : BoardClock) (first : LinkState) (i j : ℕ) (t : BoardTurn) (before : List BoardTurn) (x : IsTurnAfter clock first t before) → AreCalm i j (queued_in (orders t.control t.batch))
    → Watch i j (stands_after first before).core → (oid reason at : ℕ) → HasAnswer (cmd.TrsyncState oid 0 reason at) t.state.news → StandsRead j reason at t.after.core.board
read_now clock first i j t before x calm w oid reason at told = told_read j oid reason at t.after.core.board _ t.state.news x.1.news (turn_does clock first i j t before x calm w).fires told

-- turns from such a moment on
pub record Watched (i j : ℕ) (window : List BoardTurn) (past l : LinkState) : Type 0 where
  pub watch_is : Watch i j l.core
  pub next : Next i j past.core.board l.core.board
  pub fired : TellFired window → HasFired j l.core.board

pub watched : (clock : BoardClock) (first : LinkState) (i j : ℕ) (window past : List BoardTurn) → AreBoardTurns clock first (window ++ past) → BringCalm i j window
    → Watch i j (stands_after first past).core → Watched i j window (stands_after first past) (stands_after first (window ++ past))
watched clock first i j [] past are calm w = record { watch_is = w; next = next_same i j (stands_after first past).core.board; fired = λ told. absurd told }
watched clock first i j (t ∷ window) past are calm w =
    let old = watched clock first i j window past are.1 calm.1 w in
    let was = (stands_after first (window ++ past)).core.board in
    let turned = turn_does clock first i j t (window ++ past) are.0 calm.0 old.watch_is in
    let next = turned.goes.next in
    record {
      watch_is = turned.goes.watch;
      next = next_then i j (stands_after first past).core.board was t.after.core.board old.next next;
      fired = λ told. elim told [
        | inl news ↦
            let is = fired_answer t.state.news news in
            let read = read_now clock first i j t (window ++ past) are.0 calm.0 old.watch_is is.0 is.1 is.2 is.3 in
            record { slot = read.stands.slot; is = read.stands.is; fired = read.stands.fired }
        | inr before ↦ fired_next i j was t.after.core.board next (old.fired before)
      ];
    }
