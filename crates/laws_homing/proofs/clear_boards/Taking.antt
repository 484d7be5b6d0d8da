-- On a clear link a board takes in each turn what is queued in it.
use Rattle.std.proofs.Common.{◌≡◌, ◌++◌, ℕ, ◌+◌, Bool, List, [], ◌∷◌, length, refl, ap, sym, ◌∙◌, append-nil, append_assoc, rules}
use Rattle.laws_board.proofs.Names.{BoardDef, Level, clock_of, board_tick, Entry, AllKeepLimits, first_state, orders, IsTurn, LinkState, Orders, after_board, after_host, come, Core, Step, Do, Turn, world_after, after_event, run_world, takes_in, queued_in, Meant, commands_of, Rig, passes, takes, takes_all, Cmd, BoardClock, Down, Up, run_append, append_cancel_left}
use Rattle.link_work.specs.Turn.{comes, host_steps, resends, sends}
use Rattle.link_work.proofs.Answered.{begins}
use Rattle.link_work.proofs.Draining.{parts_of}
use Rattle.laws_board.specs.turns.Turns.{AreBoardTurns, BoardTurn, stands_after}
use Rattle.laws_board.specs.clocks.Runs.{orders_in}
use Rattle.laws_board.proofs.clocks.Orders.{turns_in_order}
use Rattle.laws_board.proofs.sections.Calm.{AreClear}
use Rattle.laws_homing.specs.home_runs.Sections.{queued_in_turns}
use Rattle.board_world.specs.declared.event.Event.TheVariants as event
use Rattle.wire_scene.specs.declared.wire.Fate.{Fate}
use Rattle.wire_scene.specs.declared.wire.Fate.TheVariants.{Lost, Last, Stays, Garbled}
use Rattle.link_work.proofs.Steps.{AllOf, all_append, all_come, all_resent, all_sent}
use Rattle.laws_homing.proofs.home_runs.Staging.{commands_both}
use Rattle.laws_homing.proofs.home_runs.Resting.{rests_took}
use Rattle.laws_homing.specs.clear_boards.Rests.{RestsOver}
use Rattle.laws_homing.proofs.clear_boards.Rests.{clear_over, free_at, rests_idle}
use Rattle.board_sim.proofs.Heeding.{all_append as takes_both}

-- steps in which a board takes nothing and doesn't run on
abbrev IsQuiet : Step → Type 0
IsQuiet (Do event.Arrive) = ⊥
IsQuiet (Do event.Repeat) = ⊥
IsQuiet (Do (event.Pass t)) = ⊥
IsQuiet _ = Unit {0}

quiet_step : (s : Step) (h : Core) → IsQuiet s → ((world_after h s).board ≡ h.board) × ((world_after h s).taken ≡ h.taken)
quiet_step s h p2 = search (rules, append-nil)

quiet_all : (steps : List Step) (h : Core) → AllOf IsQuiet steps → ((run_world steps h).board ≡ h.board) × ((run_world steps h).taken ≡ h.taken)
quiet_all [] h q = (refl, refl)
quiet_all (s ∷ steps) h q =
    let one = quiet_step s h q.0 in
    let rest = quiet_all steps (world_after h s) q.1 in
    (rest.0 ∙ one.0, rest.1 ∙ one.1)

-- steps in which blocks come to the board
abbrev pub IsComing : Step → Type 0
IsComing (Do event.Lose) = Unit {0}
IsComing (Do event.Garble) = Unit {0}
IsComing (Do event.Arrive) = Unit {0}
IsComing (Do event.Repeat) = Unit {0}
IsComing _ = ⊥

-- the board took some commands
record Obeyed (h g : Core) : Type 0 where
  meant : List Meant
  taken : g.taken ≡ h.taken ++ meant
  board : g.board ≡ (takes_all h.board (commands_of meant)).rig

coming_step : (s : Step) (h : Core) → IsComing s → Obeyed h (world_after h s)
coming_step s h p2 = search (rules, takes_in)

coming_all : (steps : List Step) (h : Core) → AllOf IsComing steps → Obeyed h (run_world steps h)
coming_all [] h c = record { meant = []; taken = sym (append-nil h.taken); board = refl }
coming_all (s ∷ steps) h c =
    let one = coming_step s h c.0 in
    let rest = coming_all steps (world_after h s) c.1 in
    record {
      meant = one.meant ++ rest.meant;
      taken = rest.taken ∙ ap (λ (ms : List Meant). ms ++ rest.meant) one.taken ∙ append_assoc h.taken one.meant rest.meant;
      board = rest.board ∙ ap (λ (r : Rig). (takes_all r (commands_of rest.meant)).rig) one.board ∙ sym (takes_both h.board (commands_of one.meant) (commands_of rest.meant))
          ∙ ap (λ (cs : List Cmd). (takes_all h.board cs).rig) (sym (commands_both one.meant rest.meant));
    }

-- the steps of a turn
host_quiet : (turn : ℕ) (o : Orders) (resent : Bool) → AllOf IsQuiet (host_steps turn o resent)
host_quiet turn o resent = (tt, (tt, (tt, all_append IsQuiet (resends resent) (sends 12) (all_resent IsQuiet tt resent) (all_sent IsQuiet tt 12))))

pub down_coming : (fate : Fate) → AllOf IsComing (comes Down fate)
down_coming Stays = (tt, (tt, tt))
down_coming c = (tt, tt)

up_quiet : (fate : Fate) → AllOf IsQuiet (comes Up fate)
up_quiet Last = (tt, (tt, tt))
up_quiet Stays = (tt, (tt, (tt, tt)))
up_quiet c = (tt, tt)

pub record Turned (clock : BoardClock) (turn : ℕ) (o : Orders) (resent : Bool) (l m : LinkState) : Type 0 where
  pub meant : List Meant
  pub taken : m.core.taken ≡ l.core.taken ++ meant
  pub board : m.core.board ≡ (passes (takes_all l.core.board (commands_of meant)).rig (board_tick clock (turn + 1))).rig
  pub mid : Core
  pub mid_board : mid.board ≡ (takes_all l.core.board (commands_of meant)).rig
  pub behind : (after_board clock turn (after_host turn o resent l)).core ≡ after_event mid (event.Pass (board_tick clock (turn + 1)))

turned : (clock : BoardClock) (turn : ℕ) (o : Orders) (l m : LinkState) (t : IsTurn clock turn o l m) → Turned clock turn o t.resent l m
turned clock turn o l m t =
    let tick = board_tick clock (turn + 1) in
    let l1 = after_host turn o t.resent l in
    let down = come Down turn l1.down.copies in
    let l2 = after_board clock turn l1 in
    let up = come Up turn l2.up.copies in
    let host = quiet_all (host_steps turn o t.resent) l.core (host_quiet turn o t.resent) in
    let came = coming_all down l1.core (all_come IsComing Down down_coming turn l1.down.copies) in
    let mid : Core = run_world down l1.core in
    let cut : l2.core ≡ after_event mid (event.Pass tick) = run_append down (Do (event.Pass tick) ∷ []) l1.core in
    let back = quiet_all up l2.core (all_come IsQuiet Up up_quiet turn l2.up.copies) in
    let last : m.core ≡ run_world up l2.core = ap (λ (x : LinkState). x.core) t.becomes in
    record {
      mid = mid;
      mid_board = came.board ∙ ap (λ (r : Rig). (takes_all r (commands_of came.meant)).rig) host.0;
      behind = cut;
      meant = came.meant;
      taken = ap (λ (h : Core). h.taken) last ∙ back.1 ∙ ap (λ (h : Core). h.taken) cut ∙ append-nil mid.taken ∙ came.taken ∙ ap (λ (ms : List Meant). ms ++ came.meant) host.1;
      board = ap (λ (h : Core). h.board) last ∙ back.0 ∙ ap (λ (h : Core). h.board) cut ∙ ap (λ (r : Rig). (passes r tick).rig) came.board ∙ ap (λ (r : Rig). (passes (takes_all r (commands_of came.meant)).rig tick).rig) host.0;
    }

-- what the board takes in a turn is what is queued in it
pub taking : (b : BoardDef) (pins : List (List Level)) (board : ℕ) (entries : List Entry) (t : BoardTurn) (before : List BoardTurn) → RestsOver t before → (are : AreBoardTurns (clock_of b) (first_state b pins board entries) (t ∷ before))
    → (x : Turned (clock_of b) (length before) (orders t.control t.batch) are.0.0.resent (stands_after (first_state b pins board entries) before) t.after) × (x.meant ≡ queued_in (orders t.control t.batch))
taking b pins board entries t before rest are =
    let first = first_state b pins board entries in
    let o = orders t.control t.batch in
    let x = turned (clock_of b) (length before) o (stands_after first before) t.after are.0.0 in
    let old = rests_took b pins board entries before are.1 (rests_idle b pins board entries before are.1 rest.0) in
    let new = rests_took b pins board entries (t ∷ before) are (rests_idle b pins board entries (t ∷ before) are rest.1) in
    let both : queued_in_turns before ++ x.meant ≡ queued_in_turns before ++ queued_in o = ap (λ (ms : List Meant). ms ++ x.meant) (sym old) ∙ sym x.taken ∙ new in
    (x, append_cancel_left (queued_in_turns before) x.meant (queued_in o) both)

pub takes_rested : (b : BoardDef) (pins : List (List Level)) (board : ℕ) (entries : List Entry) (t : BoardTurn) (before : List BoardTurn) → RestsOver t before → AreBoardTurns (clock_of b) (first_state b pins board entries) (t ∷ before)
    → (stands_after (first_state b pins board entries) (t ∷ before)).core.board
    ≡ (passes (takes_all (stands_after (first_state b pins board entries) before).core.board (commands_of (queued_in (orders t.control t.batch)))).rig (board_tick (clock_of b) (length before + 1))).rig
takes_rested b pins board entries t before rest are =
    let tick = board_tick (clock_of b) (length before + 1) in
    let x = taking b pins board entries t before rest are in
    x.0.board ∙ ap (λ (ms : List Meant). (passes (takes_all (stands_after (first_state b pins board entries) before).core.board (commands_of ms)).rig tick).rig) x.1

-- so in a scene without entries
pub takes_in_turn : (b : BoardDef) (pins : List (List Level)) (board : ℕ) (entries : List Entry) (t : BoardTurn) (before : List BoardTurn) → entries ≡ [] → AreBoardTurns (clock_of b) (first_state b pins board entries) (t ∷ before)
    → AllKeepLimits (orders_in (t ∷ before))
    → (stands_after (first_state b pins board entries) (t ∷ before)).core.board
    ≡ (passes (takes_all (stands_after (first_state b pins board entries) before).core.board (commands_of (queued_in (orders t.control t.batch)))).rig (board_tick (clock_of b) (length before + 1))).rig
takes_in_turn b pins board entries t before e are limits = takes_rested b pins board entries t before (clear_over b pins board entries t before e are limits) are

-- the link is clear and idle at the end of a turn
pub clear_at : (b : BoardDef) (pins : List (List Level)) (board : ℕ) (entries : List Entry) (turns : List BoardTurn) → entries ≡ [] → AreBoardTurns (clock_of b) (first_state b pins board entries) turns → AllKeepLimits (orders_in turns)
    → AreClear (stands_after (first_state b pins board entries) turns) (length turns)
clear_at b pins board entries turns e are limits = (free_at b pins board entries turns e are limits).clear

-- the host's part leaves the board as it is, and what it took
pub host_quiet_all : (turn : ℕ) (o : Orders) (resent : Bool) (h : Core) → ((run_world (host_steps turn o resent) h).board ≡ h.board) × ((run_world (host_steps turn o resent) h).taken ≡ h.taken)
host_quiet_all turn o resent h = quiet_all (host_steps turn o resent) h (host_quiet turn o resent)

-- what the board took by what came down, and how it stands then
pub down_taking : (b : BoardDef) (pins : List (List Level)) (board : ℕ) (entries : List Entry) (t : BoardTurn) (before : List BoardTurn) → RestsOver t before → (are : AreBoardTurns (clock_of b) (first_state b pins board entries) (t ∷ before))
    → let l1 : LinkState = after_host (length before) (orders t.control t.batch) are.0.0.resent (stands_after (first_state b pins board entries) before) in
    let mid : Core = run_world (come Down (length before) l1.down.copies) l1.core in
    (mid.taken ≡ l1.core.taken ++ queued_in (orders t.control t.batch))
    × (mid.board ≡ (takes_all (stands_after (first_state b pins board entries) before).core.board (commands_of (queued_in (orders t.control t.batch)))).rig)
    × (l1.core.link.up ≡ (stands_after (first_state b pins board entries) before).core.link.up)
down_taking b pins board entries t before rest are =
    let first = first_state b pins board entries in
    let clock = clock_of b in
    let turn = length before in
    let o = orders t.control t.batch in
    let l = stands_after first before in
    let resent = are.0.0.resent in
    let l1 : LinkState = after_host turn o resent l in
    let l2 : LinkState = after_board clock turn l1 in
    let tick = board_tick clock (turn + 1) in
    let down = come Down turn l1.down.copies in
    let mid : Core = run_world down l1.core in
    let came = coming_all down l1.core (all_come IsComing Down down_coming turn l1.down.copies) in
    let host = host_quiet_all turn o resent l.core in
    let x = taking b pins board entries t before rest are in
    let cut : l2.core ≡ after_event mid (event.Pass tick) = run_append down (Do (event.Pass tick) ∷ []) l1.core in
    let back = quiet_all (come Up turn l2.up.copies) l2.core (all_come IsQuiet Up up_quiet turn l2.up.copies) in
    let last : t.after.core ≡ run_world (come Up turn l2.up.copies) l2.core = ap (λ (y : LinkState). y.core) are.0.0.becomes in
    let whole : t.after.core.taken ≡ l.core.taken ++ came.meant =
    ap (λ (h : Core). h.taken) last ∙ back.1 ∙ ap (λ (h : Core). h.taken) cut ∙ append-nil mid.taken ∙ came.taken ∙ ap (λ (ms : List Meant). ms ++ came.meant) host.1 in
    let same : came.meant ≡ queued_in o = append_cancel_left l.core.taken came.meant x.0.meant (sym whole ∙ x.0.taken) ∙ x.1 in
    let sound = begins b pins board entries (orders_in before) l (turns_in_order clock first before are.1) in
    let parts = parts_of clock turn o resent l sound.sound.step sound.sound.many in (
      came.taken ∙ ap (λ (ms : List Meant). l1.core.taken ++ ms) same,
      came.board ∙ ap (λ (r : Rig). (takes_all r (commands_of came.meant)).rig) host.0 ∙ ap (λ (ms : List Meant). (takes_all l.core.board (commands_of ms)).rig) same,
      parts.host.up,
    )
