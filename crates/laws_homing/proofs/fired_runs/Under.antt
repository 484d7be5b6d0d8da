-- No trigger of a board is said to have triggered behind the board's own tick.
use Rattle.std.proofs.Common.{◌≡◌, ℕ, zero, suc, ◌+◌, ◌<◌, ◌≤◌, List, [], ◌∷◌, length, Some, subst, arith}
use Rattle.laws_board.proofs.Names.{Level, Machine, board_tick, clock_of, board_at, Trigger, Happening, Nothing, Expires, Switches, Reports, Cmd, Entry, Switch, commands_of, Rig, Slot, slot_at, takes_all, Event, Core, Step, Do, Turn, world_after, does, takes_in, first_state, Came}
use Rattle.plan_types.proofs.OwnTicks.{rise}
use Rattle.board_trig.specs.Trigger as trig
use Rattle.board_sim.proofs.RigStates.{all_tick, passes_under}
use Rattle.board_world.specs.declared.event.Event.TheVariants as event
use Rattle.laws_board.specs.turns.Turns.{BoardTurn, stands_after}
use Rattle.laws_board.specs.clocks.Runs.{IsInRun}
use Rattle.laws_board.proofs.clocks.Lines.{run_before}
use Rattle.laws_homing.proofs.clear_boards.Slots.{Follows, Lasts, Next, each_of, passes_each, takes_each}
use Rattle.laws_homing.proofs.clear_boards.Standing.{tick_is}
use Rattle.laws_homing.proofs.clear_groups.Plain.{none_at, none_some}
use Rattle.laws_homing.specs.switch_runs.Runs.{IsEndstop}
use Rattle.laws_homing.proofs.switch_runs.Ordering.{bring_fit}
use Rattle.laws_homing.proofs.switch_runs.Telling.{Brings, InTime, turn_keeps}

-- of each trigger the tick since which it stands is at most this one
abbrev pub AllUnder : ℕ → Rig → Type 0
AllUnder most r = (oid : ℕ) (s : Slot) → slot_at r oid ≡ Some s → s.trigger.tick ≤ most

abbrev Under : ℕ → (List (List Level) → ℕ → Slot → Type 0)
Under most pins oid s = s.trigger.tick ≤ most

happened_under : (most : ℕ) (levels : List Level) (until : ℕ) (e : Happening) (t : Trigger) → Next levels until t e → until ≤ most → t.tick ≤ most → (trig.happened levels until e t).trigger.tick ≤ most
happened_under most levels until (Expires at) t next l k = let early = next.comes.1 in omega (arith, early, l)
happened_under most levels until (Switches at) t next l k = let early = next.comes.1 in omega (arith, early, l)
happened_under most levels until c t next l k = k

lasts_under : (most until : ℕ) → until ≤ most → Lasts (Under most) until
lasts_under most until l = record { comes = λ pins oid s e next k. happened_under most _ until e s.trigger next l k; says = λ pins oid s n e k. k }

follows_under : (most : ℕ) → Follows (Under most) (λ now c. now ≤ most)
follows_under most = record {
  made = λ pins now oid l. omega arith;
  starts = λ pins now oid s clock every reason l k. k;
  limits = λ pins now oid s clock l can ahead k. k;
  expires = λ pins now oid s clock l can past k. l;
  says = λ pins oid s n e k. k;
  fires = λ pins now oid s reason l can k. l;
  binds = λ pins now oid s i l k. k;
  homes = λ pins now oid s i pin g l k. k;
}

pub takes_under : (most : ℕ) (r : Rig) (cs : List Cmd) → r.controller.tick ≤ most → AllUnder most r → AllUnder most (takes_all r cs).rig
takes_under most r cs l all = takes_each (Under most) (λ now c. now ≤ most) (follows_under most) r cs (each_of (λ (c : Cmd). r.controller.tick ≤ most) cs (λ c. l)) all

-- a link whose board is at a tick at most, and whose triggers are
abbrev IsUnder : ℕ → Core → Type 0
IsUnder most h = (h.board.controller.tick ≤ most) × AllUnder most h.board

took_under : (most : ℕ) (r : Rig) (cs : List Cmd) → (r.controller.tick ≤ most) × AllUnder most r → ((takes_all r cs).rig.controller.tick ≤ most) × AllUnder most (takes_all r cs).rig
took_under most r cs k = let same = all_tick r cs in let l = k.0 in (omega (arith, same, l), takes_under most r cs l k.1)

under_by : (most : ℕ) (h : Core) (e : Event) → InTime (λ x. x < most) (λ x. Unit {0}) e → IsUnder most h → ((does h e).board.controller.tick ≤ most) × AllUnder most (does h e).board
under_by most h (event.Pass t) soon k =
    let l : t ≤ most = passed t soon in
    let now = k.0 in
    let tick = passes_under h.board t (most + 1) (omega (arith, now)) (omega (arith, l)) in
    (omega (arith, tick), passes_each (Under most) t (lasts_under most t l) h.board k.1)
  where
    passed : (t : ℕ) → ((x : ℕ) → x < t → Unit {0} → x < most) → t ≤ most
    passed zero soon = omega arith
    passed (suc n) soon = let l = soon n (omega arith) tt in omega (arith, l)
under_by most h event.Arrive soon k = took_under most h.board (commands_of (takes_in h event.Arrive)) k
under_by most h event.Repeat soon k = took_under most h.board (commands_of (takes_in h event.Repeat)) k
under_by most h c soon k = k

under_step : (E : ℕ → (ℕ → Type 0)) (pins : List (List Level)) (most : ℕ) (h : Core) (s : Step) → Brings E (λ x. x < most) (λ x. Unit {0}) pins s → IsUnder most h → IsUnder most (world_after h s)
under_step E pins most h (Do e) b k = under_by most h e b.1 k
under_step E pins most h (Turn turn) b k = k

-- behind the turns of a run
pub under_after : (m : Machine) (switches : List Switch) (pins : List (List Level)) (entries : List Entry) (b : ℕ) (came : List Came) (turns : List BoardTurn) → IsInRun m switches pins entries b came turns
    → AllUnder (board_tick (clock_of (board_at m b)) (length turns)) (stands_after (first_state (board_at m b) pins b entries) turns).core.board
under_after m switches pins entries b [] [] r = λ oid s at. absurd (none_some (slot_at (stands_after (first_state (board_at m b) pins b entries) []).core.board oid) s (none_at 256 oid) at)
under_after m switches pins entries b [] (t ∷ turns) r = absurd r.both
under_after m switches pins entries b (c ∷ before) [] r = absurd r.both
under_after m switches pins entries b (c ∷ before) (t ∷ turns) r =
    let d = board_at m b in
    let clock = clock_of d in
    let most = board_tick clock (length turns + 1) in
    let old = run_before m switches pins entries b c before t turns r in
    let was = under_after m switches pins entries b before turns old in
    let tick = tick_is d pins b entries turns old.turns_are in
    let up = rise clock.start clock.freq (length turns) (length turns + 1) clock.drift (omega arith) in
    let fit = bring_fit m switches pins entries b (λ n x. Unit {0}) (c ∷ before) (t ∷ turns) r (λ n k. tt) in
    let next : length turns + 1 ≡ length (t ∷ turns) = omega arith in
    subst (λ (n : ℕ). AllUnder (board_tick clock n) t.after.core.board) next
    (turn_keeps (IsEndstop m b) (λ x. x < most) (λ x. Unit {0}) pins (IsUnder most) (under_step (IsEndstop m b) pins most) clock (first_state d pins b entries) t turns r.turns_are.0 (λ x early u. early) fit.0
    (omega (arith, tick, up), λ oid s at. (let l = was oid s at in omega (arith, l, up)))).1.1
