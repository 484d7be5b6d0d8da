-- A board between homing sections: no trigger of it can trigger, and no command is left that starts one.
use Rattle.std.proofs.Common.{◌≡◌, ℕ, ◌+◌, ◌≤◌, ◌⊎◌, inl, inr, false, List, [], ◌∷◌, ◌++◌, length, drop, Option, Some, None, refl, ap, sym, ◌∙◌, subst, arith, append_assoc, append-nil, length-append}
use Rattle.laws_board.proofs.Names.{flat_map, append_cancel_left, take-append-drop, BoardClock, Level, BoardDef, Machine, Running, clock_of, IsValidMachine, board_at, Entry, Switch, Reply, Meant, commands_of, Rig, Slot, slot_at, takes, takes_all, one_slot, Event, IsOrdered, Core, Step, Do, Turn, does, after_event, in_turn, run_world, new_world, takes_in, queued_in, first_state, orders, LinkState, turns_are_steps, Member, Homing, members_of, trigger_of, noted, Came, known_by, state_at}
use Rattle.board_sim.proofs.Enough.{none_at}
use Rattle.board_world.specs.declared.event.Event.TheVariants as event
use Rattle.board_world.specs.World.{orders_of, queued_by as step_queues}
use Rattle.board_world.proofs.Runs.{ordered_by, ordered_turn, start_ordered}
use Rattle.laws_board.specs.turns.Turns.{AreBoardTurns, BoardTurn, latest_state, stands_after}
use Rattle.laws_board.specs.clocks.Runs.{IsInRun}
use Rattle.laws_board.proofs.clocks.Lines.{as_long, run_before}
use Rattle.laws_board.proofs.sections.Lists.{cuts}
use Rattle.laws_homing.specs.home_runs.Guards.{AreCalm}
use Rattle.laws_homing.specs.clear_groups.Resting.{EachTame}
use Rattle.laws_homing.specs.fired_runs.Since.{IsReadSo}
use Rattle.laws_homing.proofs.clear_groups.Off.{running_off}
use Rattle.laws_homing.specs.home_runs.Sections.{HomesFrom, GroupAnswers, IsOf, TakesSetUp, queued_in_turns}
use Rattle.laws_homing.specs.home_runs.Settled.{AreHomed, IsHomed, SetNoClockFrom}
use Rattle.laws_homing.specs.home_runs.Told.{IsMember}
use Rattle.laws_homing.specs.home_runs.Windows.{BringCalm}
use Rattle.laws_homing.proofs.fired_runs.Rested.{answered_fired}
use Rattle.laws_homing.proofs.home_runs.Firing.{EachFires, calm_both, calm_parts, left_by}
use Rattle.laws_homing.proofs.home_runs.Grouped.{answered_told}
use Rattle.laws_homing.proofs.home_runs.Joining.{all_queued, earlier, run_calm, told_within}
use Rattle.laws_homing.proofs.home_runs.Staging.{ran_turns}
use Rattle.laws_homing.proofs.home_runs.Settled.{clock_from}
use Rattle.laws_homing.proofs.home_runs.Sole.{sole_after}
use Rattle.laws_homing.proofs.home_runs.Watching.{Watch, watched}
use Rattle.laws_homing.proofs.home_runs.Windows.{ordered_after}
use Rattle.laws_run.specs.home_wholes.Still.{EachStill, IsStillAt}
use Rattle.laws_homing.specs.clear_boards.Limited.{AllFired}
use Rattle.laws_run.proofs.home_wholes.Section.{queued_tame}
use Rattle.laws_run.proofs.home_wholes.Starting.{IsSettingUp, control_either}
use Rattle.laws_run.proofs.home_wholes.Still.{time_passes}
use Rattle.laws_homing.proofs.switch_runs.Exact.{front_part}

-- some commands start no trigger
abbrev MeanTame : List Meant → Type 0
MeanTame ms = EachTame (commands_of ms)

-- what is queued and not taken starts no trigger
pub record IsCalmQueue (h : Core) : Type 0 where
  pub ordered : IsOrdered h
  pub left : List Meant
  pub rest : h.taken ++ left ≡ h.queued
  pub still : EachTame (commands_of left)

mean_both : (xs ys : List Meant) → MeanTame xs → MeanTame ys → MeanTame (xs ++ ys)
mean_both [] ys a b = b
mean_both (x ∷ xs) ys a b = (a.0, mean_both xs ys a.1 b)

mean_parts : (xs ys : List Meant) → MeanTame (xs ++ ys) → MeanTame xs × MeanTame ys
mean_parts [] ys a = (tt, a)
mean_parts (x ∷ xs) ys a = let p = mean_parts xs ys a.1 in ((a.0, p.0), p.1)

-- what is taken in an event, and what is left
takes_still : (h : Core) (e : Event) → MeanTame (orders_of e) → (q : IsCalmQueue h) → MeanTame (takes_in h e) × IsCalmQueue (after_event h e)
takes_still h e brings q =
    let o = ordered_by h e q.ordered in
    let l = left_by h e q.left o q.rest in
    let both = mean_parts (takes_in h e) l.0 (subst MeanTame (sym l.1) (mean_both q.left (orders_of e) q.still brings)) in
    (both.0, record { ordered = o; left = l.0; rest = l.2; still = both.1 })

all_off : (r : Rig) (ms : List Meant) → MeanTame ms → AllFired r → AllFired (takes_all r (commands_of ms)).rig
all_off r [] a off = off
all_off r (m ∷ ms) a off = all_off (takes r m.command).rig ms a.1 (running_off r.controller.state r m.command a.0 off)

does_off : (h : Core) (e : Event) → MeanTame (takes_in h e) → AllFired h.board → AllFired (does h e).board
does_off h (event.Pass t) a off = (time_passes h.board t off).off
does_off h event.Arrive a off = all_off h.board (takes_in h event.Arrive) a off
does_off h event.Repeat a off = all_off h.board (takes_in h event.Repeat) a off
does_off h c a off = off

abbrev Rests : Core → Core → Type 0
Rests h g = IsCalmQueue g × (AllFired h.board → AllFired g.board)

steps_rest : (steps : List Step) (h : Core) → MeanTame (flat_map step_queues steps) → IsCalmQueue h → Rests h (run_world steps h)
steps_rest [] h brings q = (q, λ off. off)
steps_rest (Do e ∷ steps) h brings q =
    let both = mean_parts (orders_of e) (flat_map step_queues steps) brings in
    let one = takes_still h e both.0 q in
    let rest = steps_rest steps (after_event h e) both.1 one.1 in
    (rest.0, λ off. rest.1 (does_off h e one.0 off))
steps_rest (Turn turn ∷ steps) h brings q =
    let next : IsCalmQueue (in_turn h turn) = record { ordered = ordered_turn h turn q.ordered; left = q.left; rest = q.rest; still = q.still } in
    let rest = steps_rest steps (in_turn h turn) brings next in
    (rest.0, λ off. rest.1 off)

-- turns whose controls start no trigger and bind no stepper
abbrev pub TurnsStill : List BoardTurn → Type 0
TurnsStill [] = Unit {0}
TurnsStill (t ∷ before) = EachStill t.control.commands × TurnsStill before

turns_rest : (clock : BoardClock) (first : LinkState) (later past : List BoardTurn) → AreBoardTurns clock first (later ++ past) → TurnsStill later → IsCalmQueue (stands_after first past).core
    → Rests (stands_after first past).core (stands_after first (later ++ past)).core
turns_rest clock first [] past are still q = (q, λ off. off)
turns_rest clock first (t ∷ later) past are still q =
    let before = later ++ past in
    let l = stands_after first before in
    let o = orders t.control t.batch in
    let old = turns_rest clock first later past are.1 still.1 q in
    let steps = turns_are_steps clock (length before) (o ∷ []) l t.after (t.after, are.0.0, refl) in
    let brings : MeanTame (flat_map step_queues steps.0) = subst MeanTame (sym (steps.2 ∙ append-nil (queued_in o))) (queued_tame o still.0) in
    let new = steps_rest steps.0 l.core brings old.0 in
    let At : Core → Type 0 = λ g. Rests l.core g in
    let now : Rests l.core t.after.core = subst At (sym steps.1) new in
    (now.0, λ off. now.1 (old.1 off))

-- a board to which nothing was told
start_rests : (b : BoardDef) (pins : List (List Level)) → IsCalmQueue (new_world b pins) × AllFired (new_world b pins).board
start_rests b pins = (
  record { ordered = start_ordered b pins; left = []; rest = refl; still = tt },
  λ oid s is. let none : None ≡ Some s = sym (none_at 256 oid) ∙ is in absurd (cc),
)

-- what was queued behind some turns
record Behind (j : ℕ) (late past : List BoardTurn) : Type 0 where
  queue : List Meant
  are : queued_in_turns (late ++ past) ≡ queued_in_turns past ++ queue
  calm : BringCalm 0 j late → AreCalm 0 j queue
  still : TurnsStill late → MeanTame queue

late_queue : (j : ℕ) (late past : List BoardTurn) → Behind j late past
late_queue j [] past = record { queue = []; are = sym (append-nil (queued_in_turns past)); calm = λ b. tt; still = λ s. tt }
late_queue j (t ∷ late) past =
    let rest = late_queue j late past in
    let new = queued_in (orders t.control t.batch) in
    record {
      queue = rest.queue ++ new;
      are = ap (λ (l : List Meant). l ++ new) rest.are ∙ append_assoc (queued_in_turns past) rest.queue new;
      calm = λ b. calm_both 0 j rest.queue new (rest.calm b.1) b.0;
      still = λ s. mean_both rest.queue new (rest.still s.1) (queued_tame (orders t.control t.batch) s.0);
    }

still_front : (xs ys : List BoardTurn) → TurnsStill (xs ++ ys) → TurnsStill xs
still_front [] ys a = tt
still_front (x ∷ xs) ys a = (a.0, still_front xs ys a.1)

still_behind : (xs ys : List BoardTurn) → TurnsStill (xs ++ ys) → TurnsStill ys
still_behind [] ys a = a
still_behind (x ∷ xs) ys a = still_behind xs ys a.1

-- as a homing section ends of which the board is a member
abbrev Ended : Machine → List (List Level) → List Entry → ℕ → List BoardTurn → Type 0
Ended m pins entries b turns =
    let h = (stands_after (first_state (board_at m b) pins b entries) turns).core in
    h.board.controller.state ≡ Running → IsCalmQueue h × AllFired h.board

homed_rests : (m : Machine) (switches : List Switch) (pins : List (List Level)) (entries : List Entry) (b : ℕ) (c : Came) (before : List Came) (window late past : List BoardTurn) (h : Homing) (from : ℕ) (more : List Meant) → IsValidMachine m
    → IsInRun m switches pins entries b before (window ++ (late ++ past)) → (a : GroupAnswers m switches c before h) → state_at b c.states ≡ latest_state (window ++ (late ++ past)) → a.from ≡ from
    → SetNoClockFrom from (window ++ (late ++ past)) → IsMember b (members_of h.group) → h.start ≤ length past + 249 → length (late ++ past) + 1 ≤ h.start
    → queued_in_turns past ++ more ≡ (stands_after (first_state (board_at m b) pins b entries) (late ++ past)).core.taken → (stands_after (first_state (board_at m b) pins b entries) (late ++ past)).core.link.up ≡ []
    → TurnsStill (window ++ late) → Ended m pins entries b (window ++ (late ++ past))
homed_rests m switches pins entries b c before window late past h from more v r a at same none member soon heard took quiet still runs =
    let j = trigger_of m b in
    let d = board_at m b in
    let first = first_state d pins b entries in
    let ms = members_of h.group in
    let begins : from + 254 ≡ h.start = ap (λ (n : ℕ). n + 254) (sym same) ∙ a.set_up in
    let since : HomesFrom m switches from h.start ms before = subst (λ (n : ℕ). HomesFrom m switches n h.start ms before) same a.since in
    let none_set = clock_from 0 from (window ++ (late ++ past)) none in
    let mid = late ++ past in
    let long = length-append late past in
    let old = earlier m switches pins entries b before window mid 0 from h.start ms r since none_set in
    let ran = ran_turns (clock_of d) first window mid r.turns_are runs in
    let sole = sole_after m switches pins entries b old.came mid v old.run ran in
    let core = (stands_after first mid).core in
    let o = ordered_after d pins b entries mid old.run.turns_are in
    let left = drop (length core.link.taken) core.queued in
    let rest : core.taken ++ left ≡ core.queued = ap (λ (x : List Meant). x ++ left) o.first ∙ take-append-drop (length core.link.taken) core.queued in
    let parts = late_queue j late past in
    let both : more ++ left ≡ parts.queue =
    append_cancel_left (queued_in_turns past) (more ++ left) parts.queue
    (sym (append_assoc (queued_in_turns past) more left) ∙ ap (λ (x : List Meant). x ++ left) took ∙ rest ∙ all_queued d pins b entries mid old.run.turns_are ∙ parts.are) in
    let calm_late = run_calm m switches pins entries b old.came late past 0 j from h.start ms old.run old.homes old.none (omega (arith, begins, soon)) (omega (arith, soon)) in
    let calm = (calm_parts 0 j more left (subst (λ (x : List Meant). AreCalm 0 j x) (sym both) (parts.calm calm_late))).1 in
    let left_still = (mean_parts more left (subst MeanTame (sym both) (parts.still (still_behind window late still)))).1 in
    let watch : Watch 0 j core = record {
      ordered = o;
      sole = sole.0;
      few = sole.1;
      left = left;
      rest = rest;
      calm = calm;
      fires = subst (λ (rs : List Reply). EachFires j core.board rs) (sym quiet) tt;
    } in
    let calm_window = run_calm m switches pins entries b before window mid 0 j from h.start ms r since none_set (omega (arith, begins, soon, long)) (omega (arith, soon, long)) in
    let w = watched (clock_of d) first 0 j window mid r.turns_are calm_window watch in
    let told = answered_told m switches pins entries b c before (window ++ mid) h a.end r at a.known a.answer member in
    let fired = w.fired (told_within h.start window mid heard told) in
    let queue : IsCalmQueue core = record { ordered = o; left = left; rest = rest; still = left_still } in
    let last = turns_rest (clock_of d) first window mid r.turns_are (still_front window late still) queue in (
      last.0,
      λ oid s is.
          let own = w.watch_is.sole oid s is in
          let same_slot = one_slot (slot_at (stands_after first (window ++ mid)).core.board j) fired.slot s fired.is (subst (λ (n : ℕ). slot_at (stands_after first (window ++ mid)).core.board n ≡ Some s) own is) in
          subst (λ (x : Slot). x.trigger.can ≡ false) same_slot fired.fired,
    )

-- the homing sections whose set-up a board was sent have ended by some turns
abbrev pub AllAnswered : Machine → List Switch → ℕ → (ℕ → Option ℕ) → ℕ → List Came → Type 0
AllAnswered m switches b stops turns [] = Unit {0}
AllAnswered m switches b stops turns (c ∷ before) =
    ((u : IsSettingUp b (length before) (noted m c.note (known_by m switches before)).homing) → (q : ℕ) × (end : ℕ) × (stops q ≡ Some end) × (q + 252 ≡ u.homing.group.start) × (end ≤ turns))
    × AllAnswered m switches b stops turns before

-- one of them, whose set-up the board took in time
timely_rests : (m : Machine) (switches : List Switch) (pins : List (List Level)) (entries : List Entry) (b start end : ℕ) (total : List BoardTurn) (hm : IsHomed m switches pins entries b start end total) → TakesSetUp (first_state (board_at m b) pins b entries) start hm.past → IsValidMachine m
    → AreBoardTurns (clock_of (board_at m b)) (first_state (board_at m b) pins b entries) total → IsMember b (members_of hm.homing.group) → (recent old : List BoardTurn) → total ≡ recent ++ old → TurnsStill recent → length old + 249 ≤ start
    → (stands_after (first_state (board_at m b) pins b entries) total).core.board.controller.state ≡ Running
    → IsCalmQueue (stands_after (first_state (board_at m b) pins b entries) total).core × AllFired (stands_after (first_state (board_at m b) pins b entries) total).core.board
timely_rests m switches pins entries b start end total hm took v are member recent old cut still soon runs =
    let d = board_at m b in
    let first = first_state d pins b entries in
    let mid = took.late ++ took.past in
    let at_end : hm.past ≡ took.window ++ mid = took.are in
    let whole : total ≡ hm.later ++ (took.window ++ mid) = hm.are ∙ ap (λ (x : List BoardTurn). hm.later ++ x) at_end in
    let flat : total ≡ (hm.later ++ (took.window ++ took.late)) ++ took.past =
    whole ∙ ap (λ (x : List BoardTurn). hm.later ++ x) (sym (append_assoc took.window took.late took.past)) ∙ sym (append_assoc hm.later (took.window ++ took.late) took.past) in
    let queued = took.queued in
    let recent_still : TurnsStill (hm.later ++ (took.window ++ took.late)) = elim (cuts recent old (hm.later ++ (took.window ++ took.late)) took.past (sym cut ∙ flat)) [
      | inl p ↦
          let e = ap length p.2 in
          let f = length-append p.0 took.past in
          let none : p.0 ≡ [] = empty p.0 (omega (arith, e, f, soon, queued)) in
          subst TurnsStill (sym (p.1 ∙ ap (λ x. recent ++ x) none ∙ append-nil recent)) still
      | inr p ↦ still_front (hm.later ++ (took.window ++ took.late)) (p.0 ∷ p.1) (subst TurnsStill p.2 still)
    ] in
    let in_end = still_behind hm.later (took.window ++ took.late) recent_still in
    let AreAt : List BoardTurn → Type 0 = λ x. AreBoardTurns (clock_of d) first x in
    let now = subst AreAt whole are in
    let run_here = subst (λ (x : List BoardTurn). IsInRun m switches pins entries b hm.before x) at_end hm.run_is in
    let Runs_at : List BoardTurn → Type 0 = λ x. (stands_after first x).core.board.controller.state ≡ Running in
    let ran = ran_turns (clock_of d) first hm.later (took.window ++ mid) now (subst Runs_at whole runs) in
    let begin = hm.begin in
    let in_time = took.in_time in
    let ended = homed_rests m switches pins entries b hm.came hm.before took.window took.late took.past hm.homing hm.answered.from took.more v run_here hm.answered
    (hm.states ∙ ap latest_state at_end) refl (subst (λ (x : List BoardTurn). SetNoClockFrom hm.answered.from x) at_end hm.sets_none) member (omega (arith, begin, queued)) (omega (arith, begin, in_time)) took.took took.heard in_end ran in
    let last = turns_rest (clock_of d) first hm.later (took.window ++ mid) now (still_front hm.later (took.window ++ took.late) recent_still) ended.0 in
    subst (λ (x : List BoardTurn). IsCalmQueue (stands_after first x).core × AllFired (stands_after first x).core.board) (sym whole) (last.0, last.1 ended.1)
  where
    empty : (xs : List BoardTurn) → length xs ≡ 0 → xs ≡ []
    empty [] e = refl
    empty (x ∷ xs) e = absurd (omega (arith, e))

-- or of which what the board tells is read as the ticks since which its trigger can't trigger
read_rests : (m : Machine) (switches : List Switch) (pins : List (List Level)) (entries : List Entry) (b start end : ℕ) (total : List BoardTurn) (hm : IsHomed m switches pins entries b start end total) → start ≤ end → IsReadSo m switches b hm.came hm.before hm.past → IsValidMachine m
    → AreBoardTurns (clock_of (board_at m b)) (first_state (board_at m b) pins b entries) total → IsMember b (members_of hm.homing.group) → (recent old : List BoardTurn) → total ≡ recent ++ old → TurnsStill recent → length old + 249 ≤ start
    → (stands_after (first_state (board_at m b) pins b entries) total).core.board.controller.state ≡ Running
    → IsCalmQueue (stands_after (first_state (board_at m b) pins b entries) total).core × AllFired (stands_after (first_state (board_at m b) pins b entries) total).core.board
read_rests m switches pins entries b start end total hm order so v are member recent old cut still soon runs =
    let d = board_at m b in
    let first = first_state d pins b entries in
    let at_end = hm.long in
    let recent_still : TurnsStill hm.later = elim (cuts recent old hm.later hm.past (sym cut ∙ hm.are)) [
      | inl p ↦
          let e = ap length p.2 in
          let f = length-append p.0 hm.past in
          let none : p.0 ≡ [] = empty p.0 (omega (arith, e, f, soon, order, at_end)) in
          subst TurnsStill (sym (p.1 ∙ ap (λ x. recent ++ x) none ∙ append-nil recent)) still
      | inr p ↦ still_front hm.later (p.0 ∷ p.1) (subst TurnsStill p.2 still)
    ] in
    let now = subst (λ (x : List BoardTurn). AreBoardTurns (clock_of d) first x) hm.are are in
    let ran = ran_turns (clock_of d) first hm.later hm.past now (subst (λ (x : List BoardTurn). (stands_after first x).core.board.controller.state ≡ Running) hm.are runs) in
    let core = (stands_after first hm.past).core in
    let o = ordered_after d pins b entries hm.past hm.run_is.turns_are in
    let a = hm.answered in
    let fired = answered_fired m v switches pins entries b hm.came hm.before hm.past hm.homing a.end hm.run_is hm.states so.apart so.reads so.behind a.known a.answer member in
    let rest = fired.at_rest in
    let queue : IsCalmQueue core = record { ordered = o; left = rest.left; rest = rest.rest; still = rest.tame } in
    let sole = (sole_after m switches pins entries b hm.before hm.past v hm.run_is ran).0 in
    let off : AllFired core.board = λ oid s is. fired.at_rest.off s (subst (λ (n : ℕ). slot_at core.board n ≡ Some s) (sole oid s is) is) in
    let last = turns_rest (clock_of d) first hm.later hm.past now recent_still queue in
    subst (λ (x : List BoardTurn). IsCalmQueue (stands_after first x).core × AllFired (stands_after first x).core.board) (sym hm.are) (last.0, last.1 off)
  where
    empty : (xs : List BoardTurn) → length xs ≡ 0 → xs ≡ []
    empty [] e = refl
    empty (x ∷ xs) e = absurd (omega (arith, e))

section_rests : (m : Machine) (switches : List Switch) (pins : List (List Level)) (entries : List Entry) (b start end : ℕ) (total : List BoardTurn) (hm : IsHomed m switches pins entries b start end total) → start ≤ end → IsValidMachine m
    → AreBoardTurns (clock_of (board_at m b)) (first_state (board_at m b) pins b entries) total → IsMember b (members_of hm.homing.group) → (recent old : List BoardTurn) → total ≡ recent ++ old → TurnsStill recent → length old + 249 ≤ start
    → (stands_after (first_state (board_at m b) pins b entries) total).core.board.controller.state ≡ Running
    → IsCalmQueue (stands_after (first_state (board_at m b) pins b entries) total).core × AllFired (stands_after (first_state (board_at m b) pins b entries) total).core.board
section_rests m switches pins entries b start end total hm order v are member recent old cut still soon runs = elim hm.fires [
  | inl took ↦ timely_rests m switches pins entries b start end total hm took v are member recent old cut still soon runs
  | inr so ↦ read_rests m switches pins entries b start end total hm order so v are member recent old cut still soon runs
]

-- a turn of such a section's set-up
at_turn : (m : Machine) (switches : List Switch) (pins : List (List Level)) (entries : List Entry) (b : ℕ) (t : BoardTurn) (turns : List BoardTurn) (from start : ℕ) (ms : List Member) (came : List Came)
    → IsInRun m switches pins entries b came (t ∷ turns) → HomesFrom m switches from start ms came → from ≤ length turns → EachStill t.control.commands ⊎ IsMember b ms
at_turn m switches pins entries b t turns from start ms [] r homes early = absurd r.both
at_turn m switches pins entries b t turns from start ms (c ∷ before) r homes early =
    elim (control_either m switches pins entries b c before t turns r) [
      | inl s ↦ inl s
      | inr u ↦
          let long = as_long m switches b before turns r.both.2 in
          let of = (homes.0 (omega (arith, early, long))).1 in
          let now = subst (λ (o : Option Homing). IsOf start ms o) u.known of in
          inr (subst (λ (l : List Member). IsMember b l) now.2 u.member)
    ]

-- as a turn begins by which all such sections have ended
scan : (m : Machine) (switches : List Switch) (pins : List (List Level)) (entries : List Entry) (b until : ℕ) (stops : ℕ → Option ℕ) (total : List BoardTurn) → length total ≤ until → IsValidMachine m
    → AreBoardTurns (clock_of (board_at m b)) (first_state (board_at m b) pins b entries) total → AreHomed m switches pins entries b until stops total
    → (stands_after (first_state (board_at m b) pins b entries) total).core.board.controller.state ≡ Running
    → (came : List Came) (turns later : List BoardTurn) → IsInRun m switches pins entries b came turns → AllAnswered m switches b stops (length total) came → total ≡ later ++ turns → TurnsStill later
    → IsCalmQueue (stands_after (first_state (board_at m b) pins b entries) total).core × AllFired (stands_after (first_state (board_at m b) pins b entries) total).core.board
scan m switches pins entries b until stops total upto v are homed runs [] [] later r all cut still =
    let d = board_at m b in
    let first = first_state d pins b entries in
    let begins = start_rests d pins in
    let last = turns_rest (clock_of d) first later [] (subst (λ (x : List BoardTurn). AreBoardTurns (clock_of d) first x) cut are) still begins.0 in
    subst (λ (x : List BoardTurn). IsCalmQueue (stands_after first x).core × AllFired (stands_after first x).core.board) (sym cut) (last.0, last.1 begins.1)
scan m switches pins entries b until stops total upto v are homed runs [] (t ∷ turns) later r all cut still = absurd r.both
scan m switches pins entries b until stops total upto v are homed runs (c ∷ before) [] later r all cut still = absurd r.both
scan m switches pins entries b until stops total upto v are homed runs (c ∷ before) (t ∷ turns) later r all cut still =
    let go = λ (s : EachStill t.control.commands).
    scan m switches pins entries b until stops total upto v are homed runs before turns (later ++ t ∷ []) (run_before m switches pins entries b c before t turns r) all.1 (cut ∙ sym (append_assoc later (t ∷ []) turns)) (one_more later still s) in
    elim (control_either m switches pins entries b c before t turns r) [
      | inl s ↦ go s
      | inr u ↦
          let (q, end, is, set, within) = all.0 u in
          let long = as_long m switches b before turns r.both.2 in
          let u_soon = u.soon in
          let size = ap length cut ∙ length-append later (t ∷ turns) in
          let (start, soon, late, order, hm) = homed q end (omega (arith, set, u_soon, long, size, upto)) is within in
          let u_late = u.late in
          let at_end = hm.long in
          let sub = front_part later (t ∷ turns) hm.later hm.past (sym cut ∙ hm.are) (omega (arith, at_end, order, late, set, u_late, long)) in
          let mid = sub.0 in
          let here = subst (λ (x : List BoardTurn). IsInRun m switches pins entries b hm.before x) sub.1 hm.run_is in
          let old = earlier m switches pins entries b hm.before mid (t ∷ turns) 0 hm.answered.from hm.homing.start (members_of hm.homing.group) here hm.answered.since
          (clock_from 0 hm.answered.from (mid ++ t ∷ turns) (subst (λ (x : List BoardTurn). SetNoClockFrom hm.answered.from x) sub.1 hm.sets_none)) in
          let begin = hm.begin in
          let set_up = hm.answered.set_up in
          let way = at_turn m switches pins entries b t turns hm.answered.from hm.homing.start (members_of hm.homing.group) old.came old.run old.homes (omega (arith, set_up, begin, soon, set, u_soon, long)) in
          elim way [
            | inl s ↦ go s
            | inr member ↦ section_rests m switches pins entries b start end total hm order v are member later (t ∷ turns) cut still (omega (arith, late, set, u_late, long)) runs
          ]
    ]
  where
    one_more : (xs : List BoardTurn) → TurnsStill xs → EachStill t.control.commands → TurnsStill (xs ++ t ∷ [])
    one_more [] a s = (s, tt)
    one_more (x ∷ xs) a s = (a.0, one_more xs a.1 s)

-- so a board stands between homing sections
pub rests_at : (m : Machine) (switches : List Switch) (pins : List (List Level)) (entries : List Entry) (b until : ℕ) (stops : ℕ → Option ℕ) (came : List Came) (turns : List BoardTurn) → length turns ≤ until → IsValidMachine m → IsInRun m switches pins entries b came turns
    → AreHomed m switches pins entries b until stops turns → AllAnswered m switches b stops (length turns) came → IsStillAt (stands_after (first_state (board_at m b) pins b entries) turns).core
rests_at m switches pins entries b until stops came turns upto v r homed all runs left cut =
    let rest = scan m switches pins entries b until stops turns upto v r.turns_are homed runs came turns [] r all refl tt in
    let q = rest.0 in
    let h = (stands_after (first_state (board_at m b) pins b entries) turns).core in
    let same : q.left ≡ left = append_cancel_left h.taken q.left left (q.rest ∙ sym cut) in
    (rest.1, subst MeanTame same q.still)
