-- A run that ends for a drifting board whose clock line is too old.
use Rattle.std.proofs.Common.{◌≡◌, ℕ, zero, suc, ◌+◌, ◌-◌, ◌/◌, ◌%◌, ◌^◌, ◌<◌, ◌≤◌, inl, inr, Bool, true, false, cond, List, [], ◌∷◌, ◌++◌, length, map, Option, Some, None, refl, ap, sym, ◌∙◌, subst, arith, append_assoc, length-append}
use Rattle.std.specs.Prelude.{◌&&◌, nat_le}
use Rattle.laws_board.proofs.Names.{eqb-true, map-append, leb_tells, Cause, Level, Machine, board_tick, clock_of, IsValidMachine, board_at, Cmd, State, Entry, Switch, Meant, plain, units_orders, first_state, Asking, Stage, Identify, Uptime, Configure, Config, Connected, giving_up, listen_all, ready_all, stale, Known, Connecting, is_out, noted, first_cause, Came, known_by, last_reacted, state_at, both_parts}
use Rattle.std.proofs.lemmas.Bool.{leb-true}
use Rattle.plan_types.specs.declared.cause.Cause.TheVariants as cause
use Rattle.plan_types.specs.Clock.{tick_limit}
use Rattle.msg_code.specs.declared.cmd.Cmd.TheVariants as cmd
use Rattle.board_world.specs.World.{on_wire}
use Rattle.link_work.specs.Answers.{IsAmong}
use Rattle.link_work.specs.Limits.{closing_in}
use Rattle.link_work.proofs.Answered.{uptime_heard}
use Rattle.link_work.proofs.Limits.{closing_append}
use Rattle.board_asking.specs.Asking.{after_drift, answered, gives_up as gives_up_connecting, is_connected, listens, sample_of, tells_clock, were_put}
use Rattle.board_asking.specs.Drift.{gives_up, is_unanswered}
use Rattle.host_reactor.specs.Laws.{uptimes}
use Rattle.host_reactor.proofs.Uptimes.{append as uptimes_append}
use Rattle.laws_board.specs.turns.Turns.{AreBoardTurns, BoardTurn, IsBoardOf, latest_state}
use Rattle.laws_board.specs.clocks.Runs.{IsInRun, UnitsFit}
use Rattle.laws_board.proofs.clocks.Lines.{as_long, noted_askings, noted_phase, stands}
use Rattle.laws_board.proofs.clocks.Turning.{asking_at, heard_now, listen_at}
use Rattle.laws_board.specs.causes.Causes.{AllUnanswered, AreAskedAndHindered, AreInRow, AsksClock, AsksNone, AsksNoneBetween, IsHindered, IsOutSince, before_turn, came_by_turn, since_of}
use Rattle.laws_board.proofs.causes.Chain.{AllParts, AskedIn, AsksSo, Behind, Chain, IsStill, Part, Stands, last_part, none_in_four, row_until, stands_so}
use Rattle.laws_board.proofs.causes.Ended.{EndsBy, ends_by}
use Rattle.laws_board.proofs.causes.Four.{NotHindered, all_queued, answered_in, hindered_or, is_ordered, queued_of}
use Rattle.laws_board.proofs.causes.Hears.{answer_ends}
use Rattle.laws_board.proofs.causes.Owes.{closing_of, closing_same, owes, units_before, units_open}
use Rattle.laws_board.proofs.causes.Row.{clock_tells, command_is, some_if, split_same}
use Rattle.laws_board.proofs.causes.Running.{heard_either}
use Rattle.laws_board.proofs.causes.Turns.{Next, are_before, before_all, before_length, before_less, came_all, came_less, next_turn, ticks_before}
use Rattle.plan_types.proofs.Facts.{none_or_some}

-- which board is stale
record StaleAt (k i : ℕ) (askings : List Asking) (j turn : ℕ) : Type 0 where
  pub n : ℕ
  pub place : i + n ≡ j
  pub a : Asking
  pub at : asking_at n askings ≡ a ∷ []
  pub gives : gives_up k a ≡ true
  pub first : a.first ≡ turn

abbrev board_of : Option Cause → ℕ
board_of (Some (cause.Stale board turn)) = board
board_of o = 0

abbrev turn_in : Option Cause → ℕ
turn_in (Some (cause.Stale board turn)) = turn
turn_in o = 0

stale_one : (g : Bool) (k i : ℕ) (a : Asking) (askings : List Asking) (rest : Option Cause) (j turn : ℕ) → gives_up k a ≡ g → cond g (Some (cause.Stale i a.first)) rest ≡ Some (cause.Stale j turn)
    → (rest ≡ Some (cause.Stale j turn) → StaleAt k (i + 1) askings j turn) → StaleAt k i (a ∷ askings) j turn
stale_one true k i a askings rest j turn e h f =
    let same : i ≡ j = ap board_of h in
    record { n = 0; place = omega arith; a = a; at = refl; gives = e; first = ap turn_in h }
stale_one false k i a askings rest j turn e h f =
    let s = f h in
    let place = s.place in
    record { n = suc s.n; place = omega arith; a = s.a; at = s.at; gives = s.gives; first = s.first }

stale_at : (k i : ℕ) (askings : List Asking) (j turn : ℕ) → stale k i askings ≡ Some (cause.Stale j turn) → StaleAt k i askings j turn
stale_at k i [] j turn e = cc
stale_at k i (a ∷ askings) j turn e = stale_one (gives_up k a) k i a askings (stale k (i + 1) askings) j turn refl e (stale_at k (i + 1) askings j turn)

-- a board that is given up while connecting is told otherwise
given_if : (g : Bool) (b first : ℕ) (rest : Option Cause) (board turn : ℕ) → cond g (Some (cause.Connect b first)) rest ≡ Some (cause.Stale board turn) → (rest ≡ Some (cause.Stale board turn) → ⊥) → ⊥
given_if true b first rest board turn h f = cc
given_if false b first rest board turn h f = f h

not_given : (k b : ℕ) (askings : List Asking) (board turn : ℕ) → giving_up k b askings ≡ Some (cause.Stale board turn) → ⊥
not_given k b [] board turn h = cc
not_given k b (a ∷ askings) board turn h = given_if (gives_up_connecting k a) b a.first (giving_up k (b + 1) askings) board turn h (not_given k (b + 1) askings board turn)

ends_stale : (r : Known) (k : ℕ) (states : List State) (m : Machine) (board turn : ℕ) → EndsBy r k states m (cause.Stale board turn)
    → (r.phase ≡ Connecting → ⊥) × (stale k 0 (listen_all r.askings.items states) ≡ Some (cause.Stale board turn))
ends_stale r k states m board turn (inl e) = absurd (not_given k 0 (ready_all m 0 (listen_all r.askings.items states)) board turn e.1)
ends_stale r k states m board turn (inr (inl e)) = e
ends_stale r k states m board turn (inr (inr o)) = absurd o

-- the askings that are unanswered as the run ends
pub record StaleRow (m : Machine) (switches : List Switch) (pins : List (List Level)) (entries : List Entry) (b : ℕ) (all : List Came) (turns : List BoardTurn) (turn : ℕ) : Type 0 where
  pub asked : List ℕ
  pub many : 200 ≤ length asked
  pub early : 1_000 ≤ turn
  pub row : AreInRow turn (length turns) asked
  pub between : AsksNoneBetween turns (length turns) asked
  pub parts : AllParts m switches pins entries b all turns asked

four_turns : (k s : ℕ) (o : Option ℕ) → o ≡ Some s → is_unanswered k o ≡ true → k - s ≡ 4
four_turns k s o e h = eqb-true (k - s) 4 (sym (ap (is_unanswered k) e) ∙ h)

never_out : (k : ℕ) (o : Option ℕ) (A : Type 0) → o ≡ None → is_unanswered k o ≡ true → A
never_out k o A e h = let f : false ≡ true = sym (ap (is_unanswered k) e) ∙ h in cc

late_part : (m : Machine) (switches : List Switch) (pins : List (List Level)) (entries : List Entry) (b : ℕ) (all : List Came) (turns : List BoardTurn) (z : Asking) (turn : ℕ) → Behind m switches pins entries b all turns z
    → Chain m switches pins entries b all turns z → gives_up (length turns) (heard_now z (latest_state turns)) ≡ true → (heard_now z (latest_state turns)).first ≡ turn → StaleRow m switches pins entries b all turns turn
late_part m switches pins entries b all turns z turn behind (inl idle) g first =
    let r = idle.rests in
    let a = heard_now z (latest_state turns) in
    let both = both_parts (is_unanswered (length turns) a.since) (nat_le 199 a.missed) g in
    elim (heard_either z (latest_state turns)) [
      | inl s ↦ never_out (length turns) a.since _ (s.since ∙ r.since) both.0
      | inr q ↦ never_out (length turns) a.since _ q.since both.0
    ]
late_part m switches pins entries b all turns z turn behind (inr (inl o)) g first =
    let k = length turns in
    let a = heard_now z (latest_state turns) in
    let both = both_parts (is_unanswered k a.since) (nat_le 199 a.missed) g in
    elim (heard_either z (latest_state turns)) [
      | inl s ↦
          let since = s.since ∙ o.since in
          let four = four_turns k o.s a.since since both.0 in
          let now = o.now in
          let three : o.n ≡ 3 = omega arith in
          let still : IsStill m switches pins entries b all o.s turns = record { y = z; behind = behind; since = o.since; after = since } in
          let seen = leb-true 199 a.missed both.1 in
          let missed = s.missed ∙ o.missed in
          record {
            asked = o.s ∷ o.ks;
            many = omega arith;
            early = let low = o.early in let same = sym s.first ∙ first in omega arith;
            row = subst (λ (f : ℕ). AreInRow f k (o.s ∷ o.ks)) (sym s.first ∙ first) (row_until z.first o.s k o.ks (omega arith) o.row);
            between = (none_in_four m switches pins entries b all turns o.s o.n o.part (omega arith), o.between);
            parts = ((last_part m switches pins entries b all turns o.s (omega arith) (subst (λ (i : ℕ). Part m switches pins entries b all turns o.s i) three o.part) still, omega arith), o.parts);
          }
      | inr q ↦ never_out k a.since _ q.since both.0
    ]
late_part m switches pins entries b all turns z turn behind (inr (inr o)) g first =
    let k = length turns in
    let a = heard_now z (latest_state turns) in
    let late = o.late in
    let both = both_parts (is_unanswered k a.since) (nat_le 199 a.missed) g in
    elim (heard_either z (latest_state turns)) [
      | inl s ↦ let four = four_turns k o.s a.since (s.since ∙ o.since) both.0 in absurd (omega arith)
      | inr q ↦ never_out k a.since _ q.since both.0
    ]

pub stale_row : (m : Machine) (switches : List Switch) (pins : List (List Level)) (entries : List Entry) (b : ℕ) (c : Came) (before : List Came) (turns : List BoardTurn) (turn : ℕ)
    → IsInRun m switches pins entries b before turns → state_at b c.states ≡ latest_state turns → length before < 2 ^ 59
    → first_cause (is_out c.note) (noted m c.note (known_by m switches before)).stopped c.states ≡ None
    → (last_reacted m switches c before).ordered.end ≡ Some (cause.Stale b turn) → StaleRow m switches pins entries b (c ∷ before) turns turn
stale_row m switches pins entries b c before turns turn r e small first end =
    let r0 = known_by m switches before in
    let long = as_long m switches b before turns r.both in
    let by = ends_stale (noted m c.note r0) (length before) c.states m b turn (ends_by m switches r0 (length before) c.states c.note (cause.Stale b turn) first end) in
    let phase = λ (p : r0.phase ≡ Connecting). by.0 (noted_phase m c.note r0 ∙ p) in
    let s = stands m switches pins entries b before turns r in
    let found = stale_at (length before) 0 (listen_all (noted m c.note r0).askings.items c.states) b turn by.1 in
    let place = found.place in
    let same : found.n ≡ b = omega arith in
    let at : asking_at b (listen_all (noted m c.note r0).askings.items c.states) ≡ heard_now s.a (latest_state turns) ∷ [] =
    listen_at b (noted m c.note r0).askings.items c.states s.a (ap (λ x. asking_at b x.items) (noted_askings m c.note r0) ∙ s.asking) ∙ ap (λ (l : List State). heard_now s.a l ∷ []) e in
    let is : found.a ≡ heard_now s.a (latest_state turns) = one_of found.a _ (sym found.at ∙ ap (λ (n : ℕ). asking_at n (listen_all (noted m c.note r0).askings.items c.states)) same ∙ at) in
    let gives : gives_up (length turns) (heard_now s.a (latest_state turns)) ≡ true = subst (λ (n : ℕ). gives_up n (heard_now s.a (latest_state turns)) ≡ true) long (subst (λ (x : Asking). gives_up (length before) x ≡ true) is found.gives) in
    let own : before ≡ came_by_turn (length before) (c ∷ before) = sym (came_less (length before) c before (omega arith) ∙ came_all (length before) before (omega arith)) in
    let so = stands_so m switches pins entries b (c ∷ before) before turns own r (omega arith) s.a s.asking in
    late_part m switches pins entries b (c ∷ before) turns s.a turn (record { came = before; run = r; is = own ∙ ap (λ (n : ℕ). came_by_turn n (c ∷ before)) long; at = s.asking; connected = s.connected phase }) (chain_of m switches pins entries b (c ∷ before) before turns s.a phase so) gives
    (ap (λ (x : Asking). x.first) (sym is) ∙ found.first)
  where
    one_of : (x a : Asking) → x ∷ [] ≡ a ∷ [] → x ≡ a
    one_of x a e = cc

    chain_of : (m : Machine) (switches : List Switch) (pins : List (List Level)) (entries : List Entry) (b : ℕ) (all : List Came) (came : List Came) (turns : List BoardTurn) (y : Asking) → ((known_by m switches came).phase ≡ Connecting → ⊥)
        → Stands m switches pins entries b all came turns y → Chain m switches pins entries b all turns y
    chain_of m switches pins entries b all came turns y n (inl s) = absurd (n s.0)
    chain_of m switches pins entries b all came turns y n (inr s) = s.1

-- what is queued from the asking on
record Queued (turns : List BoardTurn) (k j : ℕ) (front : List Meant) : Type 0 where
  pub rest : List Meant
  pub is : queued_of (before_turn (k + j + 1) turns) ≡ front ++ plain cmd.GetUptime ∷ rest
  pub open_rest : closing_in (map on_wire rest) ≡ 0

open_both : (xs ys : List Meant) → closing_in (map on_wire xs) ≡ 0 → closing_in (map on_wire ys) ≡ 0 → closing_in (map on_wire (xs ++ ys)) ≡ 0
open_both xs ys e f = omega (arith, ap closing_in (map-append on_wire xs ys), closing_append (map on_wire xs) (map on_wire ys))

open_commands : (cs : List Cmd) → uptimes cs ≡ 0 → closing_of cs ≡ 0
open_commands cs e = closing_same cs ∙ e

asked_from : (m : Machine) (switches : List Switch) (pins : List (List Level)) (entries : List Entry) (b : ℕ) (all : List Came) (turns : List BoardTurn) (k : ℕ) → k + 4 ≤ length turns → Part m switches pins entries b all turns k 4
    → (n : Next k turns) (a : AsksSo n.t.control.commands) → (j : ℕ) → j ≤ 3 → Queued turns k j (queued_of (before_turn k turns) ++ map plain a.homing)
asked_from m switches pins entries b all turns k long p n a zero l =
    let before = queued_of (before_turn k turns) in
    let units = units_orders n.t.batch.units in
    record {
      rest = map plain a.stop ++ units;
      is = ap (λ (i : ℕ). queued_of (before_turn i turns)) (omega arith) ∙ ap queued_of n.is ∙ ap (λ (cs : List Cmd). before ++ (map plain cs ++ units)) a.are
          ∙ ap (λ (ms : List Meant). before ++ (ms ++ units)) (map-append plain a.homing (cmd.GetUptime ∷ a.stop))
          ∙ ap (λ (ms : List Meant). before ++ ms) (append_assoc (map plain a.homing) (plain cmd.GetUptime ∷ map plain a.stop) units)
          ∙ sym (append_assoc before (map plain a.homing) (plain cmd.GetUptime ∷ (map plain a.stop ++ units)));
      open_rest = open_both (map plain a.stop) units (open_commands a.stop a.none_behind) (units_open n.t.batch.units);
    }
asked_from m switches pins entries b all turns k long p n a (suc j) l =
    let i = k + suc j in
    let x = next_turn i turns (omega arith) in
    let old = asked_from m switches pins entries b all turns k long p n a j (omega arith) in
    let front = queued_of (before_turn k turns) ++ map plain a.homing in
    let units = units_orders x.t.batch.units in
    let own = map plain x.t.control.commands ++ units in
    let quiet : uptimes x.t.control.commands ≡ 0 = subst AsksNone x.is (p.quiet (suc j) (omega arith) l (omega arith)) in
    record {
      rest = old.rest ++ own;
      is = ap queued_of x.is ∙ ap (λ (ms : List Meant). ms ++ own) (ap (λ (y : ℕ). queued_of (before_turn y turns)) (omega arith) ∙ old.is) ∙ append_assoc front (plain cmd.GetUptime ∷ old.rest) own;
      open_rest = open_both old.rest own old.open_rest (open_both (map plain x.t.control.commands) units (open_commands x.t.control.commands quiet) (units_open x.t.batch.units));
    }

-- an answer to an asking that is out would end it
connected_is : (stage : Stage) → is_connected stage ≡ true → stage ≡ Connected
connected_is Connected e = refl
connected_is c e = cc

drift_counts : (y : Asking) (s : State) (k number high low : ℕ) → is_connected y.stage ≡ true → y.since ≡ Some k → s.turn ≤ k + 3 → IsAmong (record { number = number; answer = cmd.Uptime high low }) s.news
    → tells_clock (were_put s.turn s.asked y) number ≡ true → (listens y s).since ≡ Some k → ⊥
drift_counts y s k number high low c since l among tells out =
    let w = were_put s.turn s.asked y in
    none_or_some (listens y s).since k (answer_ends y s (record { number = number; answer = cmd.Uptime high low }) k since l among
    (λ none. some_if (tells_clock w number) (after_drift w (sample_of w s.turn high low)) tells
    (subst (λ (g : Stage). answered s.turn w g number (cmd.Uptime high low) ≡ None) (connected_is y.stage c) none))) out

not_clear : (m : Machine) (switches : List Switch) (pins : List (List Level)) (entries : List Entry) (b : ℕ) (all : List Came) (turns : List BoardTurn) (k : ℕ) → IsValidMachine m
    → AreBoardTurns (clock_of (board_at m b)) (first_state (board_at m b) pins b entries) turns → board_tick (clock_of (board_at m b)) (length turns) < tick_limit → UnitsFit turns → length turns < 2 ^ 59
    → k + 4 ≤ length turns → Part m switches pins entries b all turns k 4 → NotHindered (first_state (board_at m b) pins b entries) turns k → ⊥
not_clear m switches pins entries b all turns k v are in_range u small long p clear =
    let board = board_at m b in
    let clock = clock_of board in
    let first = first_state board pins b entries in
    let before = queued_of (before_turn k turns) in
    let n = next_turn k turns (omega arith) in
    let a : AsksSo n.t.control.commands = subst AskedIn n.is p.asked in
    let front = before ++ map plain a.homing in
    let place = length front in
    let size = length-append before (map plain a.homing) in
    let q0 = asked_from m switches pins entries b all turns k long p n a 0 (omega arith) in
    let first_size : length (queued_of (before_turn (k + 1) turns)) ≡ place + length (plain cmd.GetUptime ∷ q0.rest) =
    ap (λ (i : ℕ). length (queued_of (before_turn i turns))) (omega arith) ∙ ap length q0.is ∙ length-append front (plain cmd.GetUptime ∷ q0.rest) in
    let x = answered_in board pins b entries turns k place are long clear (omega arith) (omega (arith, first_size)) in
    let few = x.few in
    let i = k + x.j in
    let next = x.next in
    let q = asked_from m switches pins entries b all turns k long p n a x.j x.few in
    let those = subst (λ (l : List BoardTurn). AreBoardTurns clock first l) next.is (are_before clock first (i + 1) turns are) in
    let whole : next.t.after.core.queued ≡ front ++ plain cmd.GetUptime ∷ q.rest = all_queued board pins b entries (next.t ∷ before_turn i turns) those ∙ ap queued_of (sym next.is) ∙ q.is in
    let same = split_same x.answered.front front x.answered.rest q.rest x.answered.command (plain cmd.GetUptime) (sym x.answered.queued ∙ whole) x.answered.at in
    let none : closing_in (map on_wire x.answered.rest) ≡ 0 = ap (λ (ms : List Meant). closing_in (map on_wire ms)) same.2 ∙ q.open_rest in
    let still = subst (λ (l : List BoardTurn). IsStill m switches pins entries b all k l) next.is (p.still x.j (omega arith)) in
    let y = still.y in
    let fits = subst (λ (l : List BoardTurn). UnitsFit l) next.is (units_before (i + 1) turns u) in
    let long_to : length (next.t ∷ before_turn i turns) ≡ i + 1 = ap length (sym next.is) ∙ before_length (i + 1) turns (omega arith) in
    let o = owes m switches pins entries b still.behind.came (next.t ∷ before_turn i turns) v still.behind.run fits (omega arith) y still.behind.at in
    let ord = is_ordered board pins b entries (next.t ∷ before_turn i turns) those in
    let tick = board_tick clock i in
    let heard = uptime_heard clock i place next.t.after next.t.state.news x.answered (command_is x.answered.command cmd.GetUptime same.1) (ticks_before clock i (length turns) tick_limit (omega arith) in_range) in
    let tells = clock_tells clock i place next.t.after next.t.state.news x.answered (were_put next.t.state.turn next.t.state.asked y) ord same.1 none o.matches in
    let turn = those.0.1.turn ∙ before_length i turns (omega arith) in
    drift_counts y next.t.state k (x.answered.number + 1) (tick / 2 ^ 32) (tick % 2 ^ 32) still.behind.connected still.since (omega arith) heard tells still.after

clock_asked : (t : BoardTurn) → AsksSo t.control.commands → uptimes t.control.commands ≡ 1
clock_asked t a =
    let both = uptimes_append a.homing (cmd.GetUptime ∷ a.stop) in
    let none = a.none_before in
    let behind = a.none_behind in
    omega (arith, ap uptimes a.are)

asked_clock : (turns : List BoardTurn) → AskedIn turns → AsksClock turns
asked_clock [] a = a
asked_clock (t ∷ turns) a = clock_asked t a

each_hindered : (m : Machine) (switches : List Switch) (pins : List (List Level)) (entries : List Entry) (b : ℕ) (all : List Came) (turns : List BoardTurn) (ks : List ℕ) → IsValidMachine m
    → AreBoardTurns (clock_of (board_at m b)) (first_state (board_at m b) pins b entries) turns → board_tick (clock_of (board_at m b)) (length turns) < tick_limit → UnitsFit turns → length turns < 2 ^ 59
    → AllParts m switches pins entries b all turns ks → AreAskedAndHindered (first_state (board_at m b) pins b entries) turns ks
each_hindered m switches pins entries b all turns [] v are in_range u small a = tt
each_hindered m switches pins entries b all turns (k ∷ ks) v are in_range u small a =
    let first = first_state (board_at m b) pins b entries in
    let now : IsHindered first turns k = elim (hindered_or first turns k) [
      | inl h ↦ h
      | inr clear ↦ absurd (not_clear m switches pins entries b all turns k v are in_range u small a.0.1 a.0.0 clear)
    ] in
    ((asked_clock (before_turn (k + 1) turns) a.0.0.asked, now), each_hindered m switches pins entries b all turns ks v are in_range u small a.1)

-- each of them is unanswered
record NextCame (k : ℕ) (came : List Came) : Type 0 where
  pub c : Came
  pub is : came_by_turn (k + 1) came ≡ c ∷ came_by_turn k came

came_told : (m : Machine) (switches : List Switch) (b : ℕ) (c : Came) (before : List Came) (turns : List BoardTurn) (i : ℕ) → state_at b c.states ≡ latest_state turns → IsBoardOf m switches b before turns → i ≤ length before
    → (n : NextCame i (c ∷ before)) × (state_at b n.c.states ≡ latest_state (before_turn i turns))
came_told m switches b c [] [] i e is h =
    let none : i ≡ 0 = omega arith in
    (record { c = c; is = ap (λ (k : ℕ). came_by_turn (k + 1) (c ∷ [])) none ∙ ap (λ (k : ℕ). c ∷ came_by_turn k (c ∷ [])) (sym none) }, e)
came_told m switches b c [] (t ∷ turns) i e is h = absurd is
came_told m switches b c (d ∷ before) [] i e is h = absurd is
came_told m switches b c (d ∷ before) (t ∷ turns) i e is h = elim (leb_tells i (length before)) [
  | inl p ↦
      let q = p.1 in
      let long = as_long m switches b before turns is.2 in
      let old = came_told m switches b d before turns i is.0 is.2 p.1 in (
        record { c = old.0.c; is = came_less (i + 1) c (d ∷ before) (omega arith) ∙ old.0.is ∙ ap (λ (l : List Came). old.0.c ∷ l) (sym (came_less i c (d ∷ before) (omega arith))) },
        old.1 ∙ ap latest_state (sym (before_less i t turns (omega arith))),
      )
  | inr p ↦
      let q = p.1 in
      let long = as_long m switches b before turns is.2 in (
        record {
          c = c;
          is = came_all (i + 1) (c ∷ (d ∷ before)) (omega arith) ∙ ap (λ (l : List Came). c ∷ l) (sym (came_less i c (d ∷ before) (omega arith) ∙ came_all i (d ∷ before) (omega arith)));
        },
        e ∙ ap latest_state (sym (before_all i (t ∷ turns) (omega arith))),
      )
]

since_at : (b : ℕ) (askings : List Asking) (a : Asking) → asking_at b askings ≡ a ∷ [] → since_of b askings ≡ a.since
since_at b [] a e = cc
since_at zero (x ∷ askings) a e = let f : x ≡ a = cc in ap (λ (y : Asking). y.since) f
since_at (suc b) (x ∷ askings) a e = since_at b askings a e

still_out : (m : Machine) (switches : List Switch) (pins : List (List Level)) (entries : List Entry) (b : ℕ) (c : Came) (before : List Came) (turns : List BoardTurn) (k i : ℕ) → IsBoardOf m switches b before turns
    → state_at b c.states ≡ latest_state turns → i ≤ length turns → IsStill m switches pins entries b (c ∷ before) k (before_turn i turns) → IsOutSince m switches b k (came_by_turn (i + 1) (c ∷ before))
still_out m switches pins entries b c before turns k i is e h still =
    let whole = c ∷ before in
    let told = came_told m switches b c before turns i e is (let l = as_long m switches b before turns is in omega arith) in
    let next = told.0 in
    let own : still.behind.came ≡ came_by_turn i whole = still.behind.is ∙ ap (λ (n : ℕ). came_by_turn n whole) (before_length i turns h) in
    let at : asking_at b (known_by m switches (came_by_turn i whole)).askings.items ≡ still.y ∷ [] = subst (λ (l : List Came). asking_at b (known_by m switches l).askings.items ≡ still.y ∷ []) own still.behind.at in
    let heard = listen_at b (known_by m switches (came_by_turn i whole)).askings.items next.c.states still.y at ∙ ap (λ (l : List State). heard_now still.y l ∷ []) told.1 in
    subst (λ (l : List Came). IsOutSince m switches b k l) (sym next.is) (since_at b (listen_all (known_by m switches (came_by_turn i whole)).askings.items next.c.states) _ heard ∙ still.after)

all_out : (m : Machine) (switches : List Switch) (pins : List (List Level)) (entries : List Entry) (b : ℕ) (c : Came) (before : List Came) (turns : List BoardTurn) (ks : List ℕ) → IsBoardOf m switches b before turns
    → state_at b c.states ≡ latest_state turns → AllParts m switches pins entries b (c ∷ before) turns ks → AllUnanswered m switches b (c ∷ before) ks
all_out m switches pins entries b c before turns [] is e a = tt
all_out m switches pins entries b c before turns (k ∷ ks) is e a =
    let long = a.0.1 in (
      λ j low high.
          let i = j - 1 in
          let same : k + i + 1 ≡ k + j = omega arith in
          let still = subst (λ (n : ℕ). IsStill m switches pins entries b (c ∷ before) k (before_turn n turns)) same (a.0.0.still i (omega arith)) in
          still_out m switches pins entries b c before turns k (k + j) is e (omega arith) still,
      all_out m switches pins entries b c before turns ks is e a.1,
    )

pub stale_cause : (m : Machine) (switches : List Switch) (pins : List (List Level)) (entries : List Entry) (b : ℕ) (c : Came) (before : List Came) (turns : List BoardTurn) (turn : ℕ) → IsValidMachine m
    → IsInRun m switches pins entries b before turns → state_at b c.states ≡ latest_state turns → UnitsFit turns → length before < 2 ^ 59
    → first_cause (is_out c.note) (noted m c.note (known_by m switches before)).stopped c.states ≡ None
    → (last_reacted m switches c before).ordered.end ≡ Some (cause.Stale b turn)
    → (1_000 ≤ turn) × ((asked : List ℕ) × (200 ≤ length asked) × AreInRow turn (length turns) asked × AsksNoneBetween turns (length turns) asked × AllUnanswered m switches b (c ∷ before) asked × AreAskedAndHindered (first_state (board_at m b) pins b entries) turns asked)
stale_cause m switches pins entries b c before turns turn v r e u small first end =
    let long = as_long m switches b before turns r.both in
    let row = stale_row m switches pins entries b c before turns turn r e small first end in
    (row.early, (row.asked, row.many, row.row, row.between, all_out m switches pins entries b c before turns row.asked r.both e row.parts, each_hindered m switches pins entries b (c ∷ before) turns row.asked v r.turns_are r.in_range u (omega arith) row.parts))
