-- Between a board's homing sections its trigger is at rest; and in the turn in which a group answers it has triggered since the section's start.
use Rattle.std.proofs.Common.{◌≡◌, ℕ, ◌+◌, ◌-◌, ◌*◌, ◌<◌, ◌≤◌, ◌⊎◌, inl, inr, false, List, [], ◌∷◌, ◌++◌, length, drop, map, Option, Some, None, refl, ap, sym, ◌∙◌, subst, arith, append_assoc, append-nil}
use Rattle.laws_board.proofs.Names.{eqb_tells, leb_tells, append_cancel_left, take-append-drop, Level, Machine, board_tick, clock_of, turn_ns, lines_tick, IsValidMachine, board_at, clocks_at, State, Entry, Switch, Meant, commands_of, Rig, Slot, slot_at, one_slot, queued_in, first_state, orders, LinkState, trigger_of, End, Member, Fired, Seen, turned_group, Homing, answer_in, goes_on_homing, hears_all, homing_after, members_of, Phase, Connecting, news_of, noted, Reacted, Came, known_by, state_at, cons_same, states-kept}
use Rattle.plan_types.proofs.OwnTicks.{rise}
use Rattle.trigger_group.proofs.Knows.{after_members, after_start}
use Rattle.laws_board.specs.turns.Turns.{AreBoardTurns, BoardTurn, latest_state, stands_after}
use Rattle.laws_board.specs.clocks.Runs.{IsInRun}
use Rattle.laws_board.proofs.clocks.Lines.{as_long, noted_phase, run_before}
use Rattle.laws_board.proofs.clocks.Turning.{goes}
use Rattle.laws_board.proofs.sections.Lists.{cuts}
use Rattle.laws_homing.specs.home_runs.Sections.{HomesFrom, IsOf, queued_in_turns}
use Rattle.laws_homing.specs.home_runs.Told.{IsMember}
use Rattle.laws_homing.proofs.home_runs.Joining.{all_queued}
use Rattle.laws_homing.proofs.home_runs.Knowing.{noted_none}
use Rattle.laws_homing.proofs.home_runs.Staying.{taken_later}
use Rattle.laws_homing.proofs.home_runs.Windows.{begun, ordered_after}
use Rattle.laws_homing.proofs.clear_boards.Standing.{sound_at}
use Rattle.laws_homing.specs.switch_runs.Reports.{IsReport, WasReported}
use Rattle.laws_homing.specs.clear_groups.Resting.{EachTame}
use Rattle.laws_homing.proofs.clear_groups.Known.{behind_turn}
use Rattle.laws_homing.proofs.clear_groups.Noted.{drift_small, noted_newly, some_or_none}
use Rattle.laws_homing.proofs.clear_groups.Plain.{none_at, none_some}
use Rattle.laws_homing.proofs.clear_groups.Resting.{Together, clash, known_together, newly_together, next_of, some_same, taken_tame, heard_together}
use Rattle.laws_homing.proofs.clear_groups.Starting.{starts_either}
use Rattle.laws_homing.specs.missed_groups.Ticks.{IsReader}
use Rattle.laws_homing.specs.fired_runs.Since.{AreNotAhead, AreSoInTurns, AreReadTrue, BeginsApart, HasFiredSince, IsAtRest, IsFiredAt, IsOff, IsStart, ReadsSwitchTrue, ReadsTrue, WasFiredAt}
use Rattle.laws_homing.proofs.fired_runs.Old.{OldAt, tame_both, tame_parts, turns_old}
use Rattle.laws_homing.proofs.fired_runs.Once.{turn_split}
use Rattle.laws_homing.proofs.fired_runs.Reported.{before_start, member_told, sole_state}
use Rattle.laws_homing.proofs.fired_runs.Under.{under_after}
use Rattle.laws_board.proofs.causes.Soon.{phase_or}
use Rattle.host_reactor.proofs.Idle.{not-yet}
use Rattle.laws_board.proofs.clocks.Near.{turn_long}
use Rattle.laws_homing.proofs.clear_groups.Reading.{member_or_not}

-- what is queued behind some turns
unfoldable pub queue_later : (later past : List BoardTurn) → (q : List Meant) × (queued_in_turns (later ++ past) ≡ queued_in_turns past ++ q)
queue_later [] past = ([], sym (append-nil (queued_in_turns past)))
queue_later (t ∷ later) past =
    let rest = queue_later later past in
    let new = queued_in (orders t.control t.batch) in
    (rest.0 ++ new, ap (λ (l : List Meant). l ++ new) rest.1 ∙ append_assoc (queued_in_turns past) rest.0 new)

-- where a trigger was fired
pub was_at : (first : LinkState) (j reason tick : ℕ) (turns : List BoardTurn) → WasFiredAt j reason tick turns → (later x : List BoardTurn) × (turns ≡ later ++ x) × IsFiredAt j reason tick (stands_after first x).core.board
was_at first j reason tick [] w = absurd w
was_at first j reason tick (t ∷ turns) (inl here) = ([], t ∷ turns, refl, here)
was_at first j reason tick (t ∷ turns) (inr old) = let rest = was_at first j reason tick turns old in (t ∷ rest.0, rest.1, ap (λ (l : List BoardTurn). t ∷ l) rest.2, rest.3)

-- earlier turns of a run
pub run_at : (m : Machine) (switches : List Switch) (pins : List (List Level)) (entries : List Entry) (b : ℕ) (came : List Came) (later past : List BoardTurn) → IsInRun m switches pins entries b came (later ++ past)
    → (before : List Came) × IsInRun m switches pins entries b before past
run_at m switches pins entries b came [] past r = (came, r)
run_at m switches pins entries b [] (t ∷ later) past r = absurd r.both
run_at m switches pins entries b (c ∷ before) (t ∷ later) past r = run_at m switches pins entries b before later past (run_before m switches pins entries b c before t (later ++ past) r)

-- a report that counts for the section that was known since a turn before its start
pub record Read (m : Machine) (b start : ℕ) (f : Fired) (W : List BoardTurn → Type 0) (turns : List BoardTurn) : Type 0 where
  pub was : W turns
  pub late : board_tick (clock_of (board_at m b)) (start - 1) ≤ f.tick

module _ (m : Machine) (switches : List Switch) (pins : List (List Level)) (entries : List Entry) (b from start : ℕ) (ms : List Member) (low : from < start) (f : Fired) (R : Came → List Came → List BoardTurn → Type 0) (W : List BoardTurn → Type 0)
    (more : (t : BoardTurn) (turns : List BoardTurn) → W turns → W (t ∷ turns))
    (use_read : (c : Came) (before : List Came) (turns : List BoardTurn) (h : Homing) → (noted m c.note (known_by m switches before)).homing ≡ Some h → members_of h.group ≡ ms → R c before turns → IsReport m switches b h.start f c before → W turns) where
  of_some : (o : Option Homing) → IsOf start ms o → (h : Homing) × (o ≡ Some h) × (h.start ≡ start) × (members_of h.group ≡ ms)
  of_some None of = absurd of
  of_some (Some h) of = (h, refl, of.0, of.2)

  pub read_now : (c : Came) (before : List Came) (turns : List BoardTurn) → IsInRun m switches pins entries b before turns → state_at b c.states ≡ latest_state turns → HomesFrom m switches from start ms (c ∷ before) → AreSoInTurns R (c ∷ before) turns
      → AreNotAhead m switches b (c ∷ before) → IsReport m switches b start f c before → Read m b start f W turns
  read_now c before [] r latest homes reads behind x = absurd (let came = x.came in cc)
  read_now c before (t ∷ earlier) r latest homes reads behind x =
      let lines = clocks_at (noted m c.note (known_by m switches before)).clocks b in
      let same : t.state ≡ x.state = sole_state t.state x.state (sym latest ∙ x.came) in
      let turn : x.state.turn ≡ length earlier = ap (λ (s : State). s.turn) (sym same) ∙ r.turns_are.0.1.turn in
      let counts = x.counts in
      let long = as_long m switches b before (t ∷ earlier) r.both in
      let known = of_some (noted m c.note (known_by m switches before)).homing (homes.0 (omega (arith, counts, turn, long, low))).1 in
      let own = known.2 in
      let begin = behind.0 known.0 known.1 (omega (arith, own, counts, turn, long)) in
      let At : ℕ → Type 0 = λ n. board_tick (clock_of (board_at m b)) (n - 1) ≤ lines_tick lines (n * turn_ns) in
      let ordered = subst At own begin in
      record {
        was = use_read c before (t ∷ earlier) known.0 known.1 known.3 reads.0 (subst (λ (n : ℕ). IsReport m switches b n f c before) (sym own) x);
        late = elim (leb_tells (lines_tick lines (start * turn_ns)) f.tick) [
          | inl p ↦ let far = p.1 in omega (arith, ordered, far)
          | inr p ↦ let low_tick = p.1 in let early = before_start lines start f.tick f.turn (omega (arith, low)) (omega (arith, low_tick)) x.turn_is in let late = x.late in absurd (omega (arith, early, late))
        ];
      }

  pub was_read : (c : Came) (before : List Came) (turns : List BoardTurn) → IsInRun m switches pins entries b before turns → state_at b c.states ≡ latest_state turns → HomesFrom m switches from start ms (c ∷ before) → AreSoInTurns R (c ∷ before) turns
      → AreNotAhead m switches b (c ∷ before) → WasReported m switches b start f (c ∷ before) → Read m b start f W turns
  was_read c before turns r latest homes reads behind (inl now) = read_now c before turns r latest homes reads behind now
  was_read c [] turns r latest homes reads behind (inr old) = absurd old
  was_read c (d ∷ before) [] r latest homes reads behind (inr old) = absurd r.both
  was_read c (d ∷ before) (t ∷ earlier) r latest homes reads behind (inr old) =
      let rest = was_read d before earlier (run_before m switches pins entries b d before t earlier r) r.both.0 homes.1 reads.1 behind.1 old in
      record { was = more t earlier rest.was; late = rest.late }

-- of a member; and of the board with the endstop, that readings triggered its trigger
fired_read : (m : Machine) (switches : List Switch) (pins : List (List Level)) (entries : List Entry) (b from start : ℕ) (ms : List Member) (f : Fired) (c : Came) (before : List Came) (turns : List BoardTurn) → IsInRun m switches pins entries b before turns
    → state_at b c.states ≡ latest_state turns → HomesFrom m switches from start ms (c ∷ before) → from < start → IsMember b ms → AreReadTrue m switches b (c ∷ before) turns → AreNotAhead m switches b (c ∷ before) → WasReported m switches b start f (c ∷ before)
    → Read m b start f (λ (z : List BoardTurn). (reason : ℕ) × WasFiredAt (trigger_of m b) reason f.tick z) turns
fired_read m switches pins entries b from start ms f c before turns r latest homes low member reads behind told =
    was_read m switches pins entries b from start ms low f (ReadsTrue m switches b) (λ (z : List BoardTurn). (reason : ℕ) × WasFiredAt (trigger_of m b) reason f.tick z) (λ t ts w. (w.0, inr w.1))
    (λ d past ts h is members read x. read h f is (subst (IsMember b) (sym members) member) x) c before turns r latest homes reads behind told

pub switch_read : (m : Machine) (switches : List Switch) (pins : List (List Level)) (entries : List Entry) (b from start : ℕ) (ms : List Member) (f : Fired) (c : Came) (before : List Came) (turns : List BoardTurn) → IsInRun m switches pins entries b before turns
    → state_at b c.states ≡ latest_state turns → HomesFrom m switches from start ms (c ∷ before) → from < start → IsReader b ms → f.reason ≡ 1 → AreSoInTurns (ReadsSwitchTrue m switches b) (c ∷ before) turns → AreNotAhead m switches b (c ∷ before)
    → WasReported m switches b start f (c ∷ before) → Read m b start f (WasFiredAt (trigger_of m b) 1 f.tick) turns
switch_read m switches pins entries b from start ms f c before turns r latest homes low reader one reads behind told =
    was_read m switches pins entries b from start ms low f (ReadsSwitchTrue m switches b) (WasFiredAt (trigger_of m b) 1 f.tick) (λ t ts w. inr w)
    (λ d past ts h is members read x. read h f is (subst (IsReader b) (sym members) reader) one x) c before turns r latest homes reads behind told

module _ (m : Machine) (v : IsValidMachine m) (switches : List Switch) (pins : List (List Level)) (entries : List Entry) (b : ℕ) where
  abbrev First : LinkState
  First = first_state (board_at m b) pins b entries

  abbrev Board : List BoardTurn → Rig
  Board turns = (stands_after First turns).core.board

  abbrev Taken : List BoardTurn → List Meant
  Taken turns = (stands_after First turns).core.taken

  abbrev Oid : ℕ
  Oid = trigger_of m b

  abbrev Own : ℕ → ℕ
  Own k = board_tick (clock_of (board_at m b)) k

  abbrev Run : List Came → List BoardTurn → Type 0
  Run before turns = IsInRun m switches pins entries b before turns

  abbrev Turns : List BoardTurn → Type 0
  Turns turns = AreBoardTurns (clock_of (board_at m b)) First turns

  pub grows : (k n : ℕ) → k ≤ n → Own k ≤ Own n
  grows k n l = let c = clock_of (board_at m b) in rise c.start c.freq k n c.drift l

  pub rises : b < length m.boards → (k : ℕ) → Own k < Own (k + 1)
  rises within k =
      let valid = v.boards b _ within in
      turn_long (clock_of (board_at m b)) k valid.freq (drift_small (board_at m b).drift valid.drift_low valid.drift_high)

  -- what is left of the queue
  pub left_of : (turns : List BoardTurn) → Turns turns → (left : List Meant) × (Taken turns ++ left ≡ queued_in_turns turns)
  left_of turns are =
      let core = (stands_after First turns).core in
      let o = ordered_after (board_at m b) pins b entries turns are in
      let left = drop (length core.link.taken) core.queued in
      (left, ap (λ (x : List Meant). x ++ left) o.first ∙ take-append-drop (length core.link.taken) core.queued ∙ all_queued (board_at m b) pins b entries turns are)

  -- a trigger that can't trigger is old
  pub old_of : (before : List Came) (turns : List BoardTurn) (most : ℕ) → Run before turns → Own (length turns) < most → IsOff Oid (Board turns) → OldAt Oid most (Board turns)
  old_of before turns most r l off oid s own at =
      let low = under_after m switches pins entries b before turns r oid s at in
      let here = off s (subst (λ (n : ℕ). slot_at (Board turns) n ≡ Some s) own at) in
      record { off = here; idle = (sound_at (board_at m b) pins b entries turns r.turns_are oid s at).idle here; before = omega (arith, low, l) }

  off_of : (most : ℕ) (turns : List BoardTurn) → OldAt Oid most (Board turns) → IsOff Oid (Board turns)
  off_of most turns old s at = (old Oid s refl at).off

  fired_off : (reason tick : ℕ) (turns : List BoardTurn) → IsFiredAt Oid reason tick (Board turns) → IsOff Oid (Board turns)
  fired_off reason tick turns f s at = subst (λ (x : Slot). x.trigger.can ≡ false) (one_slot (slot_at (Board turns) Oid) f.slot s f.is at) f.fired

  -- at rest over turns that bring no start
  rests_on : (came : List Came) (later past : List BoardTurn) (q : List Meant) → Run came (later ++ past) → queued_in_turns (later ++ past) ≡ queued_in_turns past ++ q → EachTame (commands_of q) → IsAtRest Oid First past → IsAtRest Oid First (later ++ past)
  rests_on came later past q r e tame k =
      let clock = clock_of (board_at m b) in
      let are = r.turns_are in
      let was = begun clock First later past are in
      let old = run_at m switches pins entries b came later past r in
      let took = taken_later clock First later past are in
      let now = left_of (later ++ past) are in
      let both : took.0 ++ now.0 ≡ k.left ++ q =
      append_cancel_left (Taken past) (took.0 ++ now.0) (k.left ++ q)
      (sym (append_assoc (Taken past) took.0 now.0) ∙ ap (λ (x : List Meant). x ++ now.0) (sym took.1) ∙ now.1 ∙ e ∙ ap (λ (x : List Meant). x ++ q) (sym (k.rest ∙ all_queued (board_at m b) pins b entries past was))
      ∙ append_assoc (Taken past) k.left q) in
      let parts = tame_parts took.0 now.0 (subst (λ (x : List Meant). EachTame (commands_of x)) (sym both) (tame_both k.left q k.tame tame)) in
      let most = Own (length past) + 1 in
      record {
        off = off_of most (later ++ past) (turns_old Oid most clock First later past took.0 (omega arith) are took.1 parts.0 (old_of old.0 past most old.1 (omega arith) k.off));
        left = now.0;
        rest = now.1 ∙ sym (all_queued (board_at m b) pins b entries (later ++ past) are);
        tame = parts.1;
      }

  -- a start among what came behind a rest
  record Begun (start : ℕ) (later early : List BoardTurn) : Type 0 where
    at : length early + 251 ≡ start
    rested : IsAtRest Oid First early
    front : List Meant
    begin : Meant
    more : List Meant
    queue : queued_in_turns (later ++ early) ≡ queued_in_turns early ++ (front ++ begin ∷ more)
    starts : IsStart begin.command
    before : EachTame (commands_of front)
    behind : EachTame (commands_of more)

  module _ (start : ℕ) (came : List Came) (later early : List BoardTurn) (g : Begun start later early) (r : Run came (later ++ early)) (reason tick : ℕ) (late : Own (start - 1) ≤ tick) (l x : List BoardTurn) (same : later ++ early ≡ l ++ x)
      (f : IsFiredAt Oid reason tick (Board x)) where
    abbrev Most : ℕ
    Most = Own (start - 1)

    first_early : Own (length early) < Most
    first_early =
        let at = g.at in
        let up = rises r.board (length early) in
        let on = grows (length early + 1) (start - 1) (omega (arith, at)) in
        omega (arith, up, on)

    -- not before the start was queued
    not_early : (k : List BoardTurn) → early ≡ k ++ x → ⊥
    not_early k e =
        let run = run_at m switches pins entries b came (later ++ k) x (subst (λ (z : List BoardTurn). Run came z) (ap (λ (z : List BoardTurn). later ++ z) e ∙ sym (append_assoc later k x)) r) in
        let low = under_after m switches pins entries b run.0 x run.1 Oid f.slot f.is in
        let size : length early ≡ length (k ++ x) = ap (λ (z : List BoardTurn). length z) e in
        let more = longer k x in
        let on = grows (length x) (length early) (omega (arith, size, more)) in
        let up = first_early in
        let at = f.at in
        omega (arith, low, on, up, at, late)
      where
        longer : (xs ys : List BoardTurn) → length ys ≤ length (xs ++ ys)
        longer [] ys = omega arith
        longer (y ∷ xs) ys = let e = longer xs ys in omega (arith, e)

    -- the turn in which it had fired
    module _ (w : List BoardTurn) (cut : later ≡ l ++ w) (x_is : x ≡ w ++ early) where
      run_x : Run came (l ++ x)
      run_x = subst (λ (z : List BoardTurn). Run came z) same r

      own_x : (before : List Came) × Run before x
      own_x = run_at m switches pins entries b came l x run_x

      are_x : Turns (w ++ early)
      are_x = subst Turns x_is own_x.1.turns_are

      q1 : (q : List Meant) × (queued_in_turns (l ++ x) ≡ queued_in_turns x ++ q)
      q1 = queue_later l x

      le : (left : List Meant) × (Taken early ++ left ≡ queued_in_turns early)
      le = (g.rested.left, g.rested.rest ∙ all_queued (board_at m b) pins b entries early (begun (clock_of (board_at m b)) First later early r.turns_are))

      lx : (left : List Meant) × (Taken x ++ left ≡ queued_in_turns x)
      lx = left_of x own_x.1.turns_are

      ms : (ms : List Meant) × (Taken x ≡ Taken early ++ ms)
      ms = let took = taken_later (clock_of (board_at m b)) First w early are_x in (took.0, ap (λ (z : List BoardTurn). Taken z) x_is ∙ took.1)

      abbrev Behind : List Meant
      Behind = lx.0 ++ q1.0

      queued_x : Taken x ++ Behind ≡ queued_in_turns (l ++ x)
      queued_x = sym (append_assoc (Taken x) lx.0 q1.0) ∙ ap (λ (z : List Meant). z ++ q1.0) lx.1 ∙ sym q1.1

      both : ms.0 ++ Behind ≡ (le.0 ++ g.front) ++ g.begin ∷ g.more
      both =
          let tail = g.front ++ g.begin ∷ g.more in
          append_cancel_left (Taken early) (ms.0 ++ Behind) ((le.0 ++ g.front) ++ g.begin ∷ g.more)
          (sym (append_assoc (Taken early) ms.0 Behind) ∙ ap (λ (z : List Meant). z ++ Behind) (sym ms.1) ∙ queued_x ∙ ap queued_in_turns (sym same) ∙ g.queue ∙ ap (λ (z : List Meant). z ++ tail) (sym le.1) ∙ append_assoc (Taken early) le.0 tail
          ∙ ap (λ (z : List Meant). Taken early ++ z) (sym (append_assoc le.0 g.front (g.begin ∷ g.more))))

      not_untaken : (k : List Meant) → le.0 ++ g.front ≡ ms.0 ++ k → ⊥
      unfolding le
      not_untaken k e =
          let tame = (tame_parts ms.0 k (subst (λ (z : List Meant). EachTame (commands_of z)) e (tame_both le.0 g.front g.rested.tame g.before))).0 in
          let early_run = run_at m switches pins entries b came later early r in
          let up = first_early in
          let old = turns_old Oid Most (clock_of (board_at m b)) First w early ms.0 (omega (arith, up)) are_x (ap (λ (z : List BoardTurn). Taken z) (sym x_is) ∙ ms.1) tame (old_of early_run.0 early Most early_run.1 up g.rested.off) in
          let here : OldAt Oid Most (Board x) = subst (λ (z : List BoardTurn). OldAt Oid Most (Board z)) (sym x_is) old in
          let low = (here Oid f.slot refl f.is).before in
          let at = f.at in
          omega (arith, low, at, late)

      taken_by : (z : Meant) (k : List Meant) → ms.0 ≡ (le.0 ++ g.front) ++ z ∷ k → g.begin ∷ g.more ≡ z ∷ k ++ Behind → HasFiredSince Oid start First (later ++ early)
      taken_by z k e tail =
          let clock = clock_of (board_at m b) in
          let heads = cons_same g.begin z g.more (k ++ Behind) tail in
          let tame = tame_parts k Behind (subst (λ (y : List Meant). EachTame (commands_of y)) heads.1 g.behind) in
          let took = taken_later clock First l x run_x.turns_are in
          let now = left_of (l ++ x) run_x.turns_are in
          let rest : took.0 ++ now.0 ≡ Behind =
          append_cancel_left (Taken x) (took.0 ++ now.0) Behind (sym (append_assoc (Taken x) took.0 now.0) ∙ ap (λ (y : List Meant). y ++ now.0) (sym took.1) ∙ now.1 ∙ sym queued_x) in
          let parts = tame_parts took.0 now.0 (subst (λ (y : List Meant). EachTame (commands_of y)) (sym rest) tame.1) in
          let most = Own (length x) + 1 in
          let off = off_of most (l ++ x) (turns_old Oid most clock First l x took.0 (omega arith) run_x.turns_are took.1 parts.0 (old_of own_x.0 x most own_x.1 (omega arith) (fired_off reason tick x f))) in
          let whole : Taken (l ++ x) ≡ queued_in_turns early ++ (g.front ++ g.begin ∷ (k ++ took.0)) =
          took.1 ∙ ap (λ (y : List Meant). y ++ took.0) (ms.1 ∙ ap (λ (y : List Meant). Taken early ++ y) (e ∙ append_assoc le.0 g.front (z ∷ k)) ∙ sym (append_assoc (Taken early) le.0 (g.front ++ z ∷ k)) ∙ ap (λ (y : List Meant). y ++ (g.front ++ z ∷ k)) le.1)
          ∙ append_assoc (queued_in_turns early) (g.front ++ z ∷ k) took.0 ∙ ap (λ (y : List Meant). queued_in_turns early ++ y) (append_assoc g.front (z ∷ k) took.0) ∙ ap (λ (y : Meant). queued_in_turns early ++ (g.front ++ y ∷ (k ++ took.0))) (sym heads.0) in
          let done : HasFiredSince Oid start First (l ++ x) = record {
            later = later;
            early = early;
            are = sym same;
            at = g.at;
            front = g.front;
            begin = g.begin;
            more = k ++ took.0;
            took = whole;
            starts = g.starts;
            tame = tame_both k took.0 tame.0 parts.0;
            at_rest = record { off = off; left = now.0; rest = now.1 ∙ sym (all_queued (board_at m b) pins b entries (l ++ x) run_x.turns_are); tame = parts.1 };
          } in
          subst (λ (y : List BoardTurn). HasFiredSince Oid start First y) (sym same) done

      fired_here : HasFiredSince Oid start First (later ++ early)
      fired_here = elim (cuts ms.0 Behind (le.0 ++ g.front) (g.begin ∷ g.more) both) [
        | inl p ↦ absurd (not_untaken p.0 p.1)
        | inr p ↦ taken_by p.0 p.1 p.2 p.3
      ]

  fired_since : (start : ℕ) (came : List Came) (later early : List BoardTurn) → Begun start later early → Run came (later ++ early) → (reason tick : ℕ) → Own (start - 1) ≤ tick → WasFiredAt Oid reason tick (later ++ early) → HasFiredSince Oid start First (later ++ early)
  fired_since start came later early g r reason tick late w =
      let x = was_at First Oid reason tick (later ++ early) w in
      elim (cuts later early x.0 x.1 x.2) [
        | inl p ↦ absurd (not_early start came later early g r reason tick late x.0 x.1 x.2 x.3 p.0 p.2)
        | inr p ↦ fired_here start came later early g r reason tick late x.0 x.1 x.2 x.3 (p.0 ∷ p.1) p.2 p.3
      ]

  -- the section that is known has not begun to start the board's trigger
  abbrev Ahead : ℕ → Phase → Option Homing → Type 0
  Ahead turn p o = (h : Homing) → o ≡ Some h → (p ≡ Connecting → ⊥) × (IsMember b (members_of h.group) → turn + 251 ≤ h.start)

  -- or it has
  record UnderWay (before : List Came) (o : Option Homing) (turns : List BoardTurn) : Type 0 where
    homing : Homing
    known : o ≡ Some homing
    together : homing.group.start ≡ homing.start
    soon : homing.start ≤ length before + 250
    member : IsMember b (members_of homing.group)
    later : List BoardTurn
    early : List BoardTurn
    are : turns ≡ later ++ early
    begun_is : Begun homing.start later early
    since : HomesFrom m switches (length early) homing.start (members_of homing.group) before

  abbrev Way : List Came → List BoardTurn → Type 0
  Way before turns =
      (IsAtRest Oid First turns × Ahead (length before) (known_by m switches before).phase (known_by m switches before).homing)
      ⊎ (((known_by m switches before).phase ≡ Connecting → ⊥) × UnderWay before (known_by m switches before).homing turns)

  -- a section that is known answers
  reports_fired : (c : Came) (before : List Came) (turns : List BoardTurn) → Run before turns → state_at b c.states ≡ latest_state turns → AreReadTrue m switches b (c ∷ before) turns → AreNotAhead m switches b (c ∷ before)
      → ((noted m c.note (known_by m switches before)).phase ≡ Connecting → ⊥) → (u : UnderWay before (known_by m switches before).homing turns) → (noted m c.note (known_by m switches before)).homing ≡ Some u.homing → (f : Fired)
      → WasReported m switches b u.homing.start f (c ∷ before) → HasFiredSince Oid u.homing.start First turns
  reports_fired c before turns r latest reads behind open_it u still f told =
      let h = u.homing in
      let ms = members_of h.group in
      let open_past : (known_by m switches before).phase ≡ Connecting → ⊥ = λ p. open_it (noted_phase m c.note (known_by m switches before) ∙ p) in
      let now : IsOf h.start ms (noted m c.note (known_by m switches before)).homing = subst (λ (o : Option Homing). IsOf h.start ms o) (sym still) (refl, u.together, refl) in
      let homes : HomesFrom m switches (length u.early) h.start ms (c ∷ before) = (λ l. (open_past, now), u.since) in
      let at = u.begun_is.at in
      let read = fired_read m switches pins entries b (length u.early) h.start ms f c before turns r latest homes (omega (arith, at)) u.member reads behind told in
      subst (λ (z : List BoardTurn). HasFiredSince Oid h.start First z) (sym u.are)
      (fired_since h.start before u.later u.early u.begun_is (subst (λ (z : List BoardTurn). Run before z) u.are r) read.was.0 f.tick read.late (subst (λ (z : List BoardTurn). WasFiredAt Oid read.was.0 f.tick z) u.are read.was.1))

  -- a report that counts comes from the section's start on
  report_late : (c : Came) (before : List Came) (turns : List BoardTurn) (start : ℕ) (f : Fired) → Run before turns → state_at b c.states ≡ latest_state turns → WasReported m switches b start f (c ∷ before) → start ≤ length before
  report_late c before [] start f r latest (inl x) = absurd (let came = x.came in cc)
  report_late c before (t ∷ earlier) start f r latest (inl x) =
      let same : t.state ≡ x.state = sole_state t.state x.state (sym latest ∙ x.came) in
      let turn : x.state.turn ≡ length earlier = ap (λ (s : State). s.turn) (sym same) ∙ r.turns_are.0.1.turn in
      let counts = x.counts in
      let long = as_long m switches b before (t ∷ earlier) r.both in
      omega (arith, counts, turn, long)
  report_late c [] turns start f r latest (inr old) = absurd old
  report_late c (d ∷ past) [] start f r latest (inr old) = absurd r.both
  report_late c (d ∷ past) (t ∷ earlier) start f r latest (inr old) =
      let l = report_late d past earlier start f (run_before m switches pins entries b d past t earlier r) r.both.0 old in
      omega (arith, l)

  module _ (d : Came) (past : List Came) (t : BoardTurn) (turns : List BoardTurn) (now : Run (d ∷ past) (t ∷ turns)) (apart : BeginsApart m switches (d ∷ past)) where
    abbrev K : ℕ
    K = length past

    abbrev New : List Meant
    New = queued_in (orders t.control t.batch)

    was : Run past turns
    was = run_before m switches pins entries b d past t turns now

    long : K ≡ length turns
    long = as_long m switches b past turns was.both

    rest_tame : EachTame t.control.commands → IsAtRest Oid First turns → IsAtRest Oid First (t ∷ turns)
    rest_tame tame k = rests_on (d ∷ past) (t ∷ []) turns New now refl (taken_tame t tame) k

    pub group_start : (h : Homing) → (noted m d.note (known_by m switches past)).homing ≡ Some h → h.group.start ≡ h.start
    group_start h is =
        let known = known_by m switches past in
        let together : Together (noted m d.note known).homing = elim (some_or_none (news_of d.note)) [
          | inl some ↦ newly_together m (noted m d.note known).homing (noted_newly m d.note known some)
          | inr none ↦ subst Together (sym (noted_none m d.note known none)) (known_together m switches past was.goes_on)
        ] in
        subst Together is together

    -- the section behind the turn
    pub none_stays : (noted m d.note (known_by m switches past)).homing ≡ None → (known_by m switches (d ∷ past)).homing ≡ None
    none_stays e =
        let known = known_by m switches past in
        let n = noted m d.note known in
        let So : Reacted → Type 0 = λ y. y.known.homing ≡ None in
        elim (goes m switches known K d.states d.note now.goes_on.0) [
          | inl x ↦ subst So (sym x.is) e
          | inr later ↦ elim later [ inl x ↦ subst So (sym x.is) e | inr x ↦ subst So (sym x.is) (ap (λ (o : Option Homing). homing_after n.clocks K d.states o) e) ]
        ]

    pub answered_over : (h : Homing) → (noted m d.note (known_by m switches past)).homing ≡ Some h → ((noted m d.note (known_by m switches past)).phase ≡ Connecting → ⊥) → (e : End)
        → answer_in K h.start (hears_all (noted m d.note (known_by m switches past)).clocks d.states h).group ≡ Some e → (known_by m switches (d ∷ past)).homing ≡ None
    answered_over h is open_it e ends =
        let n = noted m d.note (known_by m switches past) in
        let heard = hears_all n.clocks d.states h in
        (next_of m switches d past now.goes_on open_it).homing ∙ ap (λ (o : Option Homing). homing_after n.clocks K d.states o) is ∙ ap (λ (o : Option End). goes_on_homing K heard o) ends

    abbrev pub Heard : Homing → Homing
    Heard h = hears_all (noted m d.note (known_by m switches past)).clocks d.states h

    pub goes_to : (h : Homing) → (noted m d.note (known_by m switches past)).homing ≡ Some h → ((noted m d.note (known_by m switches past)).phase ≡ Connecting → ⊥)
        → answer_in K h.start (Heard h).group ≡ None → (known_by m switches (d ∷ past)).homing ≡ Some (behind_turn (Heard h) K)
    goes_to h is open_it none =
        let n = noted m d.note (known_by m switches past) in
        (next_of m switches d past now.goes_on open_it).homing ∙ ap (λ (o : Option Homing). homing_after n.clocks K d.states o) is ∙ ap (λ (o : Option End). goes_on_homing K (Heard h) o) none

    pub same_members : (h : Homing) → members_of (turned_group (Heard h).group K) ≡ members_of h.group
    same_members h =
        let n = noted m d.note (known_by m switches past) in
        ap (λ (xs : List Seen). map (λ (x : Seen). x.member) xs) (after_members (Heard h).group K) ∙ states-kept n.clocks 0 h.start d.states h.group

    pub same_start : (h : Homing) → h.group.start ≡ h.start → (behind_turn (Heard h) K).group.start ≡ h.start
    same_start h e = after_start (Heard h).group K ∙ heard_together (noted m d.note (known_by m switches past)).clocks d.states h e

    -- under way, where it is known and doesn't answer
    goes_way : (h : Homing) → (noted m d.note (known_by m switches past)).homing ≡ Some h → ((noted m d.note (known_by m switches past)).phase ≡ Connecting → ⊥) → h.group.start ≡ h.start → h.start ≤ K + 251 → IsMember b (members_of h.group)
        → (later early : List BoardTurn) → t ∷ turns ≡ later ++ early → Begun h.start later early → HomesFrom m switches (length early) h.start (members_of h.group) past
        → answer_in K h.start (Heard h).group ≡ None → Way (d ∷ past) (t ∷ turns)
    goes_way h is open_it together soon member later early are g since none =
        let n = noted m d.note (known_by m switches past) in
        let ms = members_of h.group in
        let members = same_members h in
        let open_past : (known_by m switches past).phase ≡ Connecting → ⊥ = λ e. open_it (noted_phase m d.note (known_by m switches past) ∙ e) in
        let here : IsOf h.start ms n.homing = subst (λ (o : Option Homing). IsOf h.start ms o) (sym is) (refl, together, refl) in
        let homes : HomesFrom m switches (length early) h.start ms (d ∷ past) = (λ l. (open_past, here), since) in
        inr (
          (next_of m switches d past now.goes_on open_it).phase,
          record {
            homing = behind_turn (Heard h) K;
            known = goes_to h is open_it none;
            together = same_start h together;
            soon = omega (arith, soon);
            member = subst (IsMember b) (sym members) member;
            later = later;
            early = early;
            are = are;
            begun_is = g;
            since = subst (λ (l : List Member). HomesFrom m switches (length early) h.start l (d ∷ past)) (sym members) homes;
          },
        )

    -- at rest, where the board's trigger is not started
    no_start : ((h : Homing) → (noted m d.note (known_by m switches past)).homing ≡ Some h → IsMember b (members_of h.group) → h.start ≡ K + 251 → ⊥) → EachTame t.control.commands
    no_start none = elim (starts_either m switches pins entries b d past t turns now) [
      | inl tame ↦ tame
      | inr x ↦ absurd (let s = x.1 in let begins = group_start s.homing s.known in let at = s.at in none s.homing s.known s.member (omega (arith, begins, at)))
    ]

    ahead_on : ((h : Homing) → (noted m d.note (known_by m switches past)).homing ≡ Some h → IsMember b (members_of h.group) → h.start ≡ K + 251 → ⊥)
        → Ahead K (noted m d.note (known_by m switches past)).phase (noted m d.note (known_by m switches past)).homing → Ahead (length (d ∷ past)) (known_by m switches (d ∷ past)).phase (known_by m switches (d ∷ past)).homing
    ahead_on none ahead g is = by (noted m d.note (known_by m switches past)).homing refl
      where
        by : (o : Option Homing) → (noted m d.note (known_by m switches past)).homing ≡ o
            → ((known_by m switches (d ∷ past)).phase ≡ Connecting → ⊥) × (IsMember b (members_of g.group) → length (d ∷ past) + 251 ≤ g.start)
        by None e = absurd (clash (known_by m switches (d ∷ past)).homing g (none_stays e) is)
        by (Some h) e = go (answer_in K h.start (Heard h).group) refl
          where
            open_it : (noted m d.note (known_by m switches past)).phase ≡ Connecting → ⊥
            open_it = (ahead h e).0

            go : (o : Option End) → answer_in K h.start (Heard h).group ≡ o
                → ((known_by m switches (d ∷ past)).phase ≡ Connecting → ⊥) × (IsMember b (members_of g.group) → length (d ∷ past) + 251 ≤ g.start)
            go None ends =
                let same : behind_turn (Heard h) K ≡ g = some_same (behind_turn (Heard h) K) g (sym (goes_to h e open_it ends) ∙ is) in (
                  (next_of m switches d past now.goes_on open_it).phase,
                  λ member.
                      (let own : IsMember b (members_of h.group) = subst (IsMember b) (ap (λ (z : Homing). members_of z.group) (sym same) ∙ same_members h) member in
                      let far = (ahead h e).1 own in
                      let start : h.start ≡ g.start = ap (λ (z : Homing). z.start) same in
                      elim (eqb_tells h.start (K + 251)) [ inl p ↦ absurd (none h e own p.1) | inr p ↦ let other = p.1 in grind (arith, other, far, start) ]),
                )
            go (Some end) ends = absurd (clash (known_by m switches (d ∷ past)).homing g (answered_over h e open_it end ends) is)

    idle_way : IsAtRest Oid First turns → Ahead K (noted m d.note (known_by m switches past)).phase (noted m d.note (known_by m switches past)).homing
        → ((h : Homing) → (noted m d.note (known_by m switches past)).homing ≡ Some h → IsMember b (members_of h.group) → h.start ≡ K + 251 → ⊥) → Way (d ∷ past) (t ∷ turns)
    idle_way rest ahead none = inl (rest_tame (no_start none) rest, ahead_on none ahead)

    -- where it is started
    start_way : IsAtRest Oid First turns → (h : Homing) → (noted m d.note (known_by m switches past)).homing ≡ Some h → ((noted m d.note (known_by m switches past)).phase ≡ Connecting → ⊥) → IsMember b (members_of h.group) → h.start ≡ K + 251
        → Way (d ∷ past) (t ∷ turns)
    start_way rest h is open_it member at =
        let together = group_start h is in
        let split = turn_split m switches pins entries b d past t turns h now open_it is together at member in
        let size = long in
        let g : Begun h.start (t ∷ []) turns = record {
          at = omega (arith, at, size);
          rested = rest;
          front = split.front;
          begin = split.begin;
          more = split.more;
          queue = ap (λ (z : List Meant). queued_in_turns turns ++ z) split.are;
          starts = split.starts;
          before = split.before;
          behind = split.behind;
        } in
        let n = noted m d.note (known_by m switches past) in
        goes_way h is open_it together (omega (arith, at)) member (t ∷ []) turns refl g (homes_none past (omega (arith, size))) (not-yet K h.start (Heard h).group (omega (arith, at)))
      where
        homes_none : (came : List Came) → length came ≤ length turns → HomesFrom m switches (length turns) h.start (members_of h.group) came
        homes_none [] l = tt
        homes_none (c ∷ before) l = (λ late. absurd (omega (arith, l, late)), homes_none before (omega (arith, l)))

    step : AreReadTrue m switches b (d ∷ past) turns → AreNotAhead m switches b (d ∷ past) → Way past turns → Way (d ∷ past) (t ∷ turns)
    step reads behind (inl (rest, ahead)) =
        let known = known_by m switches past in
        let n = noted m d.note known in
        let ahead_now : Ahead K n.phase n.homing = λ h is. elim apart.0 [
          | inl none ↦ (let x = ahead h (sym (noted_none m d.note known none) ∙ is) in (λ e. x.0 (sym (noted_phase m d.note known) ∙ e), x.1))
          | inr x ↦ (let y = x.1 h is in (λ e. y.0 (sym (noted_phase m d.note known) ∙ e), λ member. y.1))
        ] in
        by n.homing refl ahead_now
      where
        by : (o : Option Homing) → (noted m d.note (known_by m switches past)).homing ≡ o → Ahead K (noted m d.note (known_by m switches past)).phase (noted m d.note (known_by m switches past)).homing → Way (d ∷ past) (t ∷ turns)
        by None e now_ahead = idle_way rest now_ahead (λ h is. absurd (clash (noted m d.note (known_by m switches past)).homing h e is))
        by (Some h) e now_ahead =
            let same = λ (g : Homing). λ (is : (noted m d.note (known_by m switches past)).homing ≡ Some g). some_same g h (sym is ∙ e) in
            elim (member_or_not b (members_of h.group)) [
              | inl member ↦ elim (eqb_tells h.start (K + 251)) [
                | inl p ↦ start_way rest h e (now_ahead h e).0 member p.1
                | inr p ↦ idle_way rest now_ahead (λ g is other at. p.1 (ap (λ (z : Homing). z.start) (sym (same g is)) ∙ at))
              ]
              | inr not_member ↦ idle_way rest now_ahead (λ g is other at. not_member (subst (λ (z : Homing). IsMember b (members_of z.group)) (same g is) other))
            ]
    step reads behind (inr (open_past, u)) =
        let known = known_by m switches past in
        let n = noted m d.note known in
        let h = u.homing in
        let still : n.homing ≡ Some h = elim apart.0 [ inl none ↦ noted_none m d.note known none ∙ u.known | inr begun_now ↦ absurd (clash known.homing h begun_now.0 u.known) ] in
        let open_it : n.phase ≡ Connecting → ⊥ = λ e. open_past (sym (noted_phase m d.note known) ∙ e) in
        let soon = u.soon in
        let tame = no_start (λ g is member at. (let same = some_same g h (sym is ∙ still) in let e : h.start ≡ K + 251 = ap (λ (z : Homing). z.start) (sym same) ∙ at in omega (arith, e, soon))) in
        by tame still open_it (answer_in K h.start (Heard h).group) refl
      where
        by : EachTame t.control.commands → (noted m d.note (known_by m switches past)).homing ≡ Some u.homing → ((noted m d.note (known_by m switches past)).phase ≡ Connecting → ⊥) → (o : Option End)
            → answer_in K u.homing.start (Heard u.homing).group ≡ o → Way (d ∷ past) (t ∷ turns)
        by tame still open_it None e =
            let soon = u.soon in
            let g = u.begun_is in
            let longer : Begun u.homing.start (t ∷ u.later) u.early = record {
              at = g.at;
              rested = g.rested;
              front = g.front;
              begin = g.begin;
              more = g.more ++ New;
              queue = ap (λ (z : List Meant). z ++ New) g.queue ∙ append_assoc (queued_in_turns u.early) (g.front ++ g.begin ∷ g.more) New ∙ ap (λ (z : List Meant). queued_in_turns u.early ++ z) (append_assoc g.front (g.begin ∷ g.more) New);
              starts = g.starts;
              before = g.before;
              behind = tame_both g.more New g.behind (taken_tame t tame);
            } in
            goes_way u.homing still open_it u.together (omega (arith, soon)) u.member (t ∷ u.later) u.early (ap (λ (z : List BoardTurn). t ∷ z) u.are) longer u.since e
        by tame still open_it (Some end) e =
            let told = member_told m switches b d past u.homing end was.goes_on still e u.member in
            let fired = reports_fired d past turns was now.both.0 reads behind open_it u still told.0 told.1 in
            inl (rest_tame tame fired.at_rest, λ h is. absurd (clash (known_by m switches (d ∷ past)).homing h (answered_over u.homing still open_it end e) is))

  -- a whole run
  first_rest : IsAtRest Oid First []
  first_rest = record { off = λ s at. absurd (none_some (slot_at (Board []) Oid) s (none_at 256 Oid) at); left = []; rest = refl; tame = tt }

  first_ahead : Ahead 0 (known_by m switches []).phase (known_by m switches []).homing
  first_ahead h is = absurd (clash (known_by m switches []).homing h refl is)

  abbrev pub rest_of : List BoardTurn → List BoardTurn
  rest_of [] = []
  rest_of (t ∷ turns) = turns

  pub earlier_reads : (R : Came → List Came → List BoardTurn → Type 0) (c : Came) (before : List Came) (turns : List BoardTurn) → Run before turns → AreSoInTurns R (c ∷ before) turns → AreSoInTurns R before (rest_of turns)
  earlier_reads R c [] turns r k = tt
  earlier_reads R c (d ∷ past) [] r k = absurd r.both
  earlier_reads R c (d ∷ past) (t ∷ turns) r k = k.1

  all_way : (before : List Came) (turns : List BoardTurn) → Run before turns → BeginsApart m switches before → AreReadTrue m switches b before (rest_of turns) → AreNotAhead m switches b before → Way before turns
  all_way [] [] r apart reads behind = inl (first_rest, first_ahead)
  all_way [] (t ∷ turns) r apart reads behind = absurd r.both
  all_way (d ∷ past) [] r apart reads behind = absurd r.both
  all_way (d ∷ past) (t ∷ turns) r apart reads behind =
      let was_so = run_before m switches pins entries b d past t turns r in
      step d past t turns r apart reads behind (all_way past turns was_so apart.1 (earlier_reads (ReadsTrue m switches b) d past turns was_so reads) behind.1)

  -- a member of the section that is known, where it told that its trigger has triggered
  pub reported_fired : (c : Came) (before : List Came) (turns : List BoardTurn) (h : Homing) (f : Fired) → Run before turns → state_at b c.states ≡ latest_state turns → BeginsApart m switches (c ∷ before) → AreReadTrue m switches b (c ∷ before) turns
      → AreNotAhead m switches b (c ∷ before) → (noted m c.note (known_by m switches before)).homing ≡ Some h → IsMember b (members_of h.group) → WasReported m switches b h.start f (c ∷ before) → HasFiredSince Oid h.start First turns
  reported_fired c before turns h f r latest apart reads behind is member told =
      let known = known_by m switches before in
      let n = noted m c.note known in
      let late = report_late c before turns h.start f r latest told in
      elim (all_way before turns r apart.1 (earlier_reads (ReadsTrue m switches b) c before turns r reads) behind.1) [
        | inl x ↦ elim apart.0 [
          | inl none ↦ (let far = (x.1 h (sym (noted_none m c.note known none) ∙ is)).1 member in absurd (omega (arith, far, late)))
          | inr begun_now ↦ (let far = (begun_now.1 h is).1 in absurd (omega (arith, far, late)))
        ]
        | inr x ↦
            let u = x.1 in
            let still : n.homing ≡ Some u.homing = elim apart.0 [ inl none ↦ noted_none m c.note known none ∙ u.known | inr begun_now ↦ absurd (clash known.homing u.homing begun_now.0 u.known) ] in
            let same : u.homing ≡ h = some_same u.homing h (sym still ∙ is) in
            let own_told : WasReported m switches b u.homing.start f (c ∷ before) = subst (λ (g : Homing). WasReported m switches b g.start f (c ∷ before)) (sym same) told in
            subst (λ (g : Homing). HasFiredSince Oid g.start First turns) same
            (reports_fired c before turns r latest reads behind (λ p. x.0 (sym (noted_phase m c.note known) ∙ p)) u still f own_told)
      ]

  pub answered_fired : (c : Came) (before : List Came) (turns : List BoardTurn) (h : Homing) (e : End) → Run before turns → state_at b c.states ≡ latest_state turns → BeginsApart m switches (c ∷ before) → AreReadTrue m switches b (c ∷ before) turns
      → AreNotAhead m switches b (c ∷ before) → (noted m c.note (known_by m switches before)).homing ≡ Some h
      → answer_in (length before) h.start (hears_all (noted m c.note (known_by m switches before)).clocks c.states h).group ≡ Some e → IsMember b (members_of h.group) → HasFiredSince Oid h.start First turns
  answered_fired c before turns h e r latest apart reads behind is ends member =
      let told = member_told m switches b c before h e r.goes_on is ends member in
      reported_fired c before turns h told.0 r latest apart reads behind is member told.1

  -- in a turn by which a section that is known hasn't started it
  pub rest_before : (c : Came) (before : List Came) (turns : List BoardTurn) (h : Homing) → Run before turns → BeginsApart m switches (c ∷ before) → AreReadTrue m switches b before (rest_of turns) → AreNotAhead m switches b before
      → (noted m c.note (known_by m switches before)).homing ≡ Some h → length before + 251 ≤ h.start → IsAtRest Oid First turns
  rest_before c before turns h r apart reads behind is far = elim (all_way before turns r apart.1 reads behind) [
    | inl x ↦ x.0
    | inr x ↦
        let known = known_by m switches before in
        let u = x.1 in
        let still : (noted m c.note known).homing ≡ Some u.homing = elim apart.0 [ inl none ↦ noted_none m c.note known none ∙ u.known | inr begun_now ↦ absurd (clash known.homing u.homing begun_now.0 u.known) ] in
        let same = ap (λ (z : Homing). z.start) (some_same u.homing h (sym still ∙ is)) in
        let soon = u.soon in
        absurd (omega (arith, same, soon, far))
  ]
