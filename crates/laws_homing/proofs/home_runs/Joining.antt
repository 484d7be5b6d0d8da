-- In the turn in which a homing group answers, every stepper that moves is halted.
use Rattle.std.proofs.Common.{◌≡◌, ℕ, suc, ◌+◌, ◌<◌, ◌≤◌, inl, inr, List, [], ◌∷◌, ◌++◌, length, drop, Option, Some, None, refl, ap, sym, ◌∙◌, subst, arith, append_assoc, append-nil}
use Rattle.laws_board.proofs.Names.{leb_tells, append_cancel_left, take-append-drop, Level, BoardDef, Machine, Running, BoardClock, clock_of, IsValidMachine, board_at, stepper_at, Note, NoteNews, Entry, Switch, Meant, commands_of, Core, queued_in, first_state, orders, IsTurn, LinkState, Orders, turns_are_steps, End, Member, Homing, answer_in, hears_all, members_of, trigger_of, Connecting, Known, noted, known_behind, told_all, Reacted, Came, GoesOn, known_by, state_at}
use Rattle.msg_code.specs.declared.talk.NoteNews.TheVariants as news
use Rattle.board_sim.specs.Board as board
use Rattle.board_sim.specs.RigRuns.{IsHalted}
use Rattle.board_world.proofs.Runs.{all_orders}
use Rattle.trigger_group.specs.Kept.{BoardsRise}
use Rattle.axis_homing.specs.Rising.{HomingRises}
use Rattle.axis_homing.proofs.Rises.{homing-rises, started-rises}
use Rattle.laws_board.specs.turns.Turns.{AreBoardTurns, BoardTurn, latest_state, stands_after}
use Rattle.laws_board.specs.clocks.Runs.{IsInRun}
use Rattle.laws_board.proofs.clocks.Lines.{as_long, run_before}
use Rattle.laws_board.proofs.clocks.Made.{made_none, made_once}
use Rattle.laws_board.proofs.clocks.Turning.{goes}
use Rattle.laws_homing.specs.home_runs.Guards.{AreCalm}
use Rattle.laws_homing.specs.home_runs.Sections.{HomesFrom, GroupAnswers, IsMoved, IsOf, Moves, TakesSetUp, SetNoneFrom, queued_in_turns}
use Rattle.laws_homing.specs.home_runs.Stages.{no_stage, stage_from}
use Rattle.laws_homing.specs.home_runs.Told.{IsMember, TellFiredFrom}
use Rattle.laws_homing.specs.home_runs.Windows.{BringCalm, IsSetUp, TellFired}
use Rattle.laws_homing.proofs.home_runs.Controlling.{first_turn, rest_turn, turn_calm}
use Rattle.laws_homing.proofs.home_runs.Firing.{calm_both, calm_each, calm_parts}
use Rattle.laws_homing.proofs.home_runs.Grouped.{answered_told}
use Rattle.laws_homing.proofs.home_runs.Setting.{Binds, which}
use Rattle.laws_homing.proofs.home_runs.Staging.{commands_both, ran_turns, stage_append, staged_after}
use Rattle.laws_homing.proofs.home_runs.Whole.{IsWhole, binds_turn, brings_calm, run_only, run_ready, stage_turn, turn_only, whole_by, whole_on}
use Rattle.laws_homing.proofs.home_runs.Windows.{ordered_after, told_halts}
use Rattle.laws_board.proofs.causes.Four.{turn_queued}
use Rattle.axis_homing.proofs.Room.{on-few}

-- of a stepper that moves, behind the turn in which it is bound
BindsAt : Machine → List Switch → List (List Level) → List Entry → ℕ → ℕ → ℕ → ℕ → List Member → Type 0
BindsAt m switches pins entries b s q start ms =
    (c : Came) (before : List Came) (t : BoardTurn) (turns : List BoardTurn) → IsInRun m switches pins entries b (c ∷ before) (t ∷ turns) → ((known_by m switches before).phase ≡ Connecting → ⊥)
    → IsOf start ms (noted m c.note (known_by m switches before)).homing → length before ≡ q → Binds (stepper_at m s).oid (trigger_of m b) t.control.commands

run_bound : (m : Machine) (switches : List Switch) (pins : List (List Level)) (entries : List Entry) (b : ℕ) (came : List Came) (turns : List BoardTurn) (s q from start : ℕ) (ms : List Member) → IsValidMachine m
    → IsInRun m switches pins entries b came turns → HomesFrom m switches from start ms came → SetNoneFrom (stepper_at m s).oid from turns → s < length m.steppers → (stepper_at m s).board ≡ b
    → BindsAt m switches pins entries b s q start ms → from ≤ q → start ≤ q + 251 → q < length turns → IsWhole (stage_from (stepper_at m s).oid (trigger_of m b) no_stage (commands_of (queued_in_turns turns)))
unfolding BindsAt
run_bound m switches pins entries b [] [] s q from start ms v r homes none l e binds early soon below = absurd (omega (arith, below))
run_bound m switches pins entries b [] (t ∷ turns) s q from start ms v r homes none l e binds early soon below = absurd r.both
run_bound m switches pins entries b (c ∷ before) [] s q from start ms v r homes none l e binds early soon below = absurd r.both
run_bound m switches pins entries b (c ∷ before) (t ∷ turns) s q from start ms v r homes none l e binds early soon below =
    let i = (stepper_at m s).oid in
    let j = trigger_of m b in
    let long = as_long m switches b before turns r.both.2 in
    let old = run_before m switches pins entries b c before t turns r in
    let stage = stage_from i j no_stage (commands_of (queued_in_turns turns)) in
    let new = queued_in (orders t.control t.batch) in
    subst IsWhole (sym (stage_turn i j t turns)) (elim (leb_tells (suc q) (length turns)) [
      | inl p ↦
          let later = p.1 in
          let whole = run_bound m switches pins entries b before turns s q from start ms v old homes.1 none.1 l e binds early soon (omega (arith, later)) in
          let now = homes.0 (omega (arith, later, long, early)) in
          let calm = turn_calm i j m switches pins entries b c before t turns start ms r now.0 now.1 (omega (arith, later, long, soon)) in
          whole_on i j stage (commands_of new) (calm_each i j new (brings_calm i j t calm (none.0 (omega (arith, later, early))))) whole
      | inr p ↦
          let at = p.1 in
          let here : length before ≡ q = omega (arith, at, below, long) in
          let now = homes.0 (omega (arith, here, early)) in
          let bound = binds c before t turns r now.0 now.1 here in
          whole_by i j stage (commands_of new) (turn_only j t turns (run_only m switches pins entries b (c ∷ before) (t ∷ turns) v r)) (run_ready m switches pins entries b before turns s v old now.0 l e)
          (binds_turn i j t bound (none.0 (omega (arith, here, long, early))))
    ])

-- behind both rounds
pub run_whole : (m : Machine) (switches : List Switch) (pins : List (List Level)) (entries : List Entry) (b : ℕ) (came : List Came) (turns : List BoardTurn) (s from start : ℕ) (ms : List Member) → IsValidMachine m
    → IsInRun m switches pins entries b came turns → HomesFrom m switches from start ms came → SetNoneFrom (stepper_at m s).oid from turns → s < length m.steppers → (stepper_at m s).board ≡ b
    → BoardsRise ms → Moves b s ms → from + 251 ≡ start → start ≤ length turns + 249 → IsWhole (stage_from (stepper_at m s).oid (trigger_of m b) no_stage (commands_of (queued_in_turns turns)))
unfolding BindsAt
run_whole m switches pins entries b came turns s from start ms v r homes none l e rise moves early soon = elim (which b s ms moves) [
  | inl first ↦ run_bound m switches pins entries b came turns s from from start ms v r homes none l e
      (λ c before t others x n of at. first_turn m switches pins entries b s c before t others start ms x n of rise first (omega (arith, early, at))) (omega arith) (omega (arith, early)) (omega (arith, early, soon))
  | inr rest ↦ run_bound m switches pins entries b came turns s (from + 1) from start ms v r homes none l e
      (λ c before t others x n of at. rest_turn m switches pins entries b s c before t others start ms x n of rise rest (omega (arith, early, at))) (omega arith) (omega (arith, early)) (omega (arith, early, soon))
]

-- turns behind the rounds are calm
pub run_calm : (m : Machine) (switches : List Switch) (pins : List (List Level)) (entries : List Entry) (b : ℕ) (came : List Came) (window past : List BoardTurn) (i j from start : ℕ) (ms : List Member)
    → IsInRun m switches pins entries b came (window ++ past) → HomesFrom m switches from start ms came → SetNoneFrom i from (window ++ past) → from ≤ length past → start ≤ length past + 250 → BringCalm i j window
run_calm m switches pins entries b came [] past i j from start ms r homes none early soon = tt
run_calm m switches pins entries b [] (t ∷ window) past i j from start ms r homes none early soon = absurd r.both
run_calm m switches pins entries b (c ∷ before) (t ∷ window) past i j from start ms r homes none early soon =
    let turns = window ++ past in
    let long = as_long m switches b before turns r.both.2 in
    let more = length_both window past in
    let now = homes.0 (omega (arith, long, more, early)) in
    let calm = turn_calm i j m switches pins entries b c before t turns start ms r now.0 now.1 (omega (arith, long, more, soon)) in (
      brings_calm i j t calm (none.0 (omega (arith, more, early))),
      run_calm m switches pins entries b before window past i j from start ms (run_before m switches pins entries b c before t turns r) homes.1 none.1 early soon,
    )
  where
    length_both : (xs ys : List BoardTurn) → length (xs ++ ys) ≡ length xs + length ys
    length_both [] ys = omega arith
    length_both (x ∷ xs) ys = let e = length_both xs ys in omega (arith, e)

-- earlier turns of the run
pub record Before (m : Machine) (switches : List Switch) (pins : List (List Level)) (entries : List Entry) (b from start i : ℕ) (ms : List Member) (turns : List BoardTurn) : Type 0 where
  pub came : List Came
  pub run : IsInRun m switches pins entries b came turns
  pub homes : HomesFrom m switches from start ms came
  pub none : SetNoneFrom i from turns

pub earlier : (m : Machine) (switches : List Switch) (pins : List (List Level)) (entries : List Entry) (b : ℕ) (came : List Came) (window past : List BoardTurn) (i from start : ℕ) (ms : List Member)
    → IsInRun m switches pins entries b came (window ++ past) → HomesFrom m switches from start ms came → SetNoneFrom i from (window ++ past) → Before m switches pins entries b from start i ms past
earlier m switches pins entries b came [] past i from start ms r homes none = record { came = came; run = r; homes = homes; none = none }
earlier m switches pins entries b [] (t ∷ window) past i from start ms r homes none = absurd r.both
earlier m switches pins entries b (c ∷ before) (t ∷ window) past i from start ms r homes none =
    earlier m switches pins entries b before window past i from start ms (run_before m switches pins entries b c before t (window ++ past) r) homes.1 none.1

pub all_queued : (b : BoardDef) (pins : List (List Level)) (board : ℕ) (entries : List Entry) (turns : List BoardTurn) → AreBoardTurns (clock_of b) (first_state b pins board entries) turns
    → (stands_after (first_state b pins board entries) turns).core.queued ≡ queued_in_turns turns
all_queued b pins board entries [] are = refl
all_queued b pins board entries (t ∷ before) are =
    let o = orders t.control t.batch in
    turn_queued (clock_of b) (length before) o (stands_after (first_state b pins board entries) before) t.after are.0.0 ∙ ap (λ (ms : List Meant). ms ++ queued_in o) (all_queued b pins board entries before are.1)

-- and what of it behind some turns
pub late_parts : (i j : ℕ) (late past : List BoardTurn) → (ms : List Meant) × (queued_in_turns (late ++ past) ≡ queued_in_turns past ++ ms) × (BringCalm i j late → AreCalm i j ms)
late_parts i j [] past = ([], sym (append-nil (queued_in_turns past)), λ b. tt)
late_parts i j (t ∷ late) past =
    let rest = late_parts i j late past in
    let new = queued_in (orders t.control t.batch) in
    (rest.0 ++ new, ap (λ (l : List Meant). l ++ new) rest.1 ∙ append_assoc (queued_in_turns past) rest.0 new, λ b. calm_both i j rest.0 new (rest.2 b.1) b.0)

-- the object ids are small
oid_small : (m : Machine) (switches : List Switch) (pins : List (List Level)) (entries : List Entry) (b : ℕ) (came : List Came) (turns : List BoardTurn) (s : ℕ) → IsValidMachine m → IsInRun m switches pins entries b came turns
    → ((known_by m switches came).phase ≡ Connecting → ⊥) → s < length m.steppers → (stepper_at m s).board ≡ b → (stepper_at m s).oid < 256
oid_small m switches pins entries b came turns s v r n l e =
    let few : trigger_of m b ≤ 16 = let q = v.steppers_few in omega (arith, on-few b m.steppers, q) in
    let one = made_once m switches pins entries b came turns v r n s l e in
    elim (leb_tells (trigger_of m b) (stepper_at m s).oid) [
      | inl p ↦ let none = made_none m switches pins entries b came turns v r (stepper_at m s).oid p.1 in absurd (omega (arith, one, none))
      | inr p ↦ let q = p.1 in omega (arith, few, q)
    ]

pub small_by : (m : Machine) (switches : List Switch) (pins : List (List Level)) (entries : List Entry) (b : ℕ) (came : List Came) (turns : List BoardTurn) (s from start : ℕ) (ms : List Member) → IsValidMachine m
    → IsInRun m switches pins entries b came turns → HomesFrom m switches from start ms came → from < length turns → s < length m.steppers → (stepper_at m s).board ≡ b → (stepper_at m s).oid < 256
small_by m switches pins entries b [] [] s from start ms v r homes far l e = absurd (omega (arith, far))
small_by m switches pins entries b [] (t ∷ turns) s from start ms v r homes far l e = absurd r.both
small_by m switches pins entries b (c ∷ before) [] s from start ms v r homes far l e = absurd r.both
small_by m switches pins entries b (c ∷ before) (t ∷ turns) s from start ms v r homes far l e =
    let long = as_long m switches b before turns r.both.2 in
    let now = homes.0 (omega (arith, far, long)) in
    oid_small m switches pins entries b before turns s v (run_before m switches pins entries b c before t turns r) now.0 l e

-- what was told since the start was told in the window
none_before : (start : ℕ) (past : List BoardTurn) → length past + 1 ≤ start → TellFiredFrom start past → ⊥
none_before start [] early t = absurd t
none_before start (x ∷ past) early (inl t) = absurd (omega (arith, early, t.0))
none_before start (x ∷ past) early (inr t) = none_before start past (omega (arith, early)) t

pub told_within : (start : ℕ) (window past : List BoardTurn) → length past + 1 ≤ start → TellFiredFrom start (window ++ past) → TellFired window
told_within start [] past early t = absurd (none_before start past early t)
told_within start (x ∷ window) past early (inl t) = inl t.1
told_within start (x ∷ window) past early (inr t) = inr (told_within start window past early t)

-- the board took the set-up
set_up : (m : Machine) (switches : List Switch) (pins : List (List Level)) (entries : List Entry) (b : ℕ) (came : List Came) (late past : List BoardTurn) (s from start : ℕ) (ms : List Member) (more : List Meant) → IsValidMachine m
    → IsInRun m switches pins entries b came (late ++ past) → HomesFrom m switches from start ms came → SetNoneFrom (stepper_at m s).oid from (late ++ past) → s < length m.steppers → (stepper_at m s).board ≡ b
    → BoardsRise ms → Moves b s ms → from + 251 ≡ start → start ≤ length past + 249
    → queued_in_turns past ++ more ≡ (stands_after (first_state (board_at m b) pins b entries) (late ++ past)).core.taken → (stands_after (first_state (board_at m b) pins b entries) (late ++ past)).core.link.up ≡ []
    → (stands_after (first_state (board_at m b) pins b entries) (late ++ past)).core.board.controller.state ≡ Running → IsSetUp (stepper_at m s).oid (trigger_of m b) (stands_after (first_state (board_at m b) pins b entries) (late ++ past)).core
set_up m switches pins entries b came late past s from start ms more v r homes none l e rise moves early soon took quiet runs =
    let i = (stepper_at m s).oid in
    let j = trigger_of m b in
    let d = board_at m b in
    let first = first_state d pins b entries in
    let h = (stands_after first (late ++ past)).core in
    let old = earlier m switches pins entries b came late past i from start ms r homes none in
    let whole = run_whole m switches pins entries b old.came past s from start ms v old.run old.homes old.none l e rise moves early soon in
    let o = ordered_after d pins b entries (late ++ past) r.turns_are in
    let left = drop (length h.link.taken) h.queued in
    let rest : h.taken ++ left ≡ h.queued = ap (λ (x : List Meant). x ++ left) o.first ∙ take-append-drop (length h.link.taken) h.queued in
    let parts = late_parts i j late past in
    let calm_late = run_calm m switches pins entries b came late past i j from start ms r homes none (omega (arith, early, soon)) (omega (arith, soon)) in
    let both : more ++ left ≡ parts.0 =
    append_cancel_left (queued_in_turns past) (more ++ left) parts.0
    (sym (append_assoc (queued_in_turns past) more left) ∙ ap (λ (x : List Meant). x ++ left) took ∙ rest ∙ all_queued d pins b entries (late ++ past) r.turns_are ∙ parts.1) in
    let calm = calm_parts i j more left (subst (λ (x : List Meant). AreCalm i j x) (sym both) (parts.2 calm_late)) in
    let stage_is : stage_from i j no_stage (commands_of h.taken) ≡ stage_from i j (stage_from i j no_stage (commands_of (queued_in_turns past))) (commands_of more) =
    ap (λ (x : List Meant). stage_from i j no_stage (commands_of x)) (sym took) ∙ ap (stage_from i j no_stage) (commands_both (queued_in_turns past) more) ∙ stage_append i j no_stage (commands_of (queued_in_turns past)) (commands_of more) in
    let now : IsWhole (stage_from i j no_stage (commands_of h.taken)) = subst IsWhole (sym stage_is) (whole_on i j (stage_from i j no_stage (commands_of (queued_in_turns past))) (commands_of more) (calm_each i j more calm.0) whole) in
    let small = small_by m switches pins entries b old.came past s from start ms v old.run old.homes (omega (arith, early, soon)) l e in
    let few : j < 256 = let q = v.steppers_few in omega (arith, on-few b m.steppers, q) in
    let staged = (staged_after d pins b entries (late ++ past) i j small few r.turns_are).staged runs in
    record {
      guarded = staged.bound now.bound;
      sole = staged.sole now.ready.sole;
      left = left;
      rest = rest;
      calm = calm.1;
      heard = quiet;
    }

pub members_halt : (m : Machine) (switches : List Switch) (pins : List (List Level)) (entries : List Entry) (b : ℕ) (c : Came) (before : List Came) (window late past : List BoardTurn) (h : Homing) (e : End) (s from : ℕ) (more : List Meant)
    → IsValidMachine m → IsInRun m switches pins entries b before (window ++ (late ++ past)) → state_at b c.states ≡ latest_state (window ++ (late ++ past)) → (noted m c.note (known_by m switches before)).homing ≡ Some h
    → answer_in (length before) h.start (hears_all (noted m c.note (known_by m switches before)).clocks c.states h).group ≡ Some e
    → from + 251 ≡ h.start → HomesFrom m switches from h.start (members_of h.group) before → BoardsRise (members_of h.group) → Moves b s (members_of h.group) → s < length m.steppers → (stepper_at m s).board ≡ b
    → SetNoneFrom (stepper_at m s).oid from (window ++ (late ++ past)) → h.start ≤ length past + 249 → length (late ++ past) + 1 ≤ h.start
    → queued_in_turns past ++ more ≡ (stands_after (first_state (board_at m b) pins b entries) (late ++ past)).core.taken → (stands_after (first_state (board_at m b) pins b entries) (late ++ past)).core.link.up ≡ []
    → (stands_after (first_state (board_at m b) pins b entries) (window ++ (late ++ past))).core.board.controller.state ≡ Running
    → IsHalted (board.stepper_at (stands_after (first_state (board_at m b) pins b entries) (window ++ (late ++ past))).core.board.controller (stepper_at m s).oid)
members_halt m switches pins entries b c before window late past h e s from more v r at is ends early homes rise moves l on none soon heard took quiet runs =
    let i = (stepper_at m s).oid in
    let j = trigger_of m b in
    let d = board_at m b in
    let first = first_state d pins b entries in
    let start = h.start in
    let ms = members_of h.group in
    let old = earlier m switches pins entries b before window (late ++ past) i from start ms r homes none in
    let ran = ran_turns (clock_of d) first window (late ++ past) r.turns_are runs in
    let more_long = late_long late past in
    let up = set_up m switches pins entries b old.came late past s from start ms more v old.run old.homes old.none l on rise moves early soon took quiet ran in
    let calm = run_calm m switches pins entries b before window (late ++ past) i j from start ms r homes none (omega (arith, early, soon, more_long)) (omega (arith, soon, more_long)) in
    let told = answered_told m switches pins entries b c before (window ++ (late ++ past)) h e r at is ends (moves_among b s ms moves) in
    told_halts d pins b entries window (late ++ past) i j r.turns_are up calm (told_within start window (late ++ past) heard told)
  where
    late_long : (xs ys : List BoardTurn) → length ys ≤ length (xs ++ ys)
    late_long [] ys = omega arith
    late_long (x ∷ xs) ys = let k = late_long xs ys in omega (arith, k)

    moves_among : (n k : ℕ) (xs : List Member) → Moves n k xs → IsMember n xs
    moves_among n k [] q = absurd q
    moves_among n k (x ∷ xs) (inl q) = inl q.0
    moves_among n k (x ∷ xs) (inr q) = inr (moves_among n k xs q)

-- the members of a section stand in the order of their boards
told_rises : (m : Machine) (r : Known) (n : NoteNews) → HomingRises r.homing → HomingRises (known_behind m r n).homing
told_rises m r (news.Start section kind turn last moving) h = started-rises m section kind turn last moving
told_rises m r c h = h

all_rise : (m : Machine) (ns : List NoteNews) (r : Known) → HomingRises r.homing → HomingRises (told_all m ns r).homing
all_rise m [] r h = h
all_rise m (n ∷ ns) r h = all_rise m ns (known_behind m r n) (told_rises m r n h)

pub noted_rises : (m : Machine) (note : Option Note) (r : Known) → HomingRises r.homing → HomingRises (noted m note r).homing
noted_rises m None r h = h
noted_rises m (Some note) r h = all_rise m note.news r h

pub known_rises : (m : Machine) (switches : List Switch) (came : List Came) → GoesOn m switches came → HomingRises (known_by m switches came).homing
known_rises m switches [] g = tt
known_rises m switches (c ∷ before) g =
    let known = known_by m switches before in
    let n = noted m c.note known in
    let was = noted_rises m c.note known (known_rises m switches before g.1) in
    let So : Reacted → Type 0 = λ y. HomingRises y.known.homing in
    elim (goes m switches known (length before) c.states c.note g.0) [
      | inl x ↦ subst So (sym x.is) was
      | inr later ↦ elim later [ inl x ↦ subst So (sym x.is) was | inr x ↦ subst So (sym x.is) (homing-rises n.clocks (length before) c.states n.homing was) ]
    ]

-- known later on as well
pub homes_later : (m : Machine) (switches : List Switch) (from to start : ℕ) (ms : List Member) (came : List Came) → from ≤ to → HomesFrom m switches from start ms came → HomesFrom m switches to start ms came
homes_later m switches from to start ms [] l h = tt
homes_later m switches from to start ms (c ∷ before) l h = (λ k. h.0 (omega (arith, k, l)), homes_later m switches from to start ms before l h.1)

pub none_later : (i from to : ℕ) (turns : List BoardTurn) → from ≤ to → SetNoneFrom i from turns → SetNoneFrom i to turns
none_later i from to [] l h = tt
none_later i from to (t ∷ turns) l h = (λ k. h.0 (omega (arith, k, l)), none_later i from to turns l h.1)

pub answered_halt : (m : Machine) (switches : List Switch) (pins : List (List Level)) (entries : List Entry) (b : ℕ) (c : Came) (before : List Came) (turns : List BoardTurn) (h : Homing) (s : ℕ) → IsValidMachine m
    → IsInRun m switches pins entries b before turns → state_at b c.states ≡ latest_state turns → GroupAnswers m switches c before h → IsMoved m b h turns s → TakesSetUp (first_state (board_at m b) pins b entries) h.start turns
    → (stands_after (first_state (board_at m b) pins b entries) turns).core.board.controller.state ≡ Running
    → IsHalted (board.stepper_at (stands_after (first_state (board_at m b) pins b entries) turns).core.board.controller (stepper_at m s).oid)
answered_halt m switches pins entries b c before turns h s v r at a moved took runs =
    let d = board_at m b in
    let i = (stepper_at m s).oid in
    let first = first_state d pins b entries in
    let same = took.are in
    let from : a.from ≡ moved.from = let x = a.set_up in let y = moved.begun in omega (arith, x, y) in
    let rises : HomingRises (Some h) = subst HomingRises a.known (noted_rises m c.note (known_by m switches before) (known_rises m switches before r.goes_on)) in
    let none : SetNoneFrom i (a.from + 3) turns = none_later i a.from (a.from + 3) turns (omega arith) (subst (λ (n : ℕ). SetNoneFrom i n turns) (sym from) moved.sets_none) in
    let begins : (a.from + 3) + 251 ≡ h.start = let x = a.set_up in omega (arith, x) in
    let since = homes_later m switches a.from (a.from + 3) h.start (members_of h.group) before (omega arith) a.since in
    subst (λ (x : List BoardTurn). IsHalted (board.stepper_at (stands_after first x).core.board.controller i)) (sym same)
    (members_halt m switches pins entries b c before took.window took.late took.past h a.end s (a.from + 3) took.more v (subst (λ (x : List BoardTurn). IsInRun m switches pins entries b before x) same r)
    (subst (λ (x : List BoardTurn). state_at b c.states ≡ latest_state x) same at) a.known a.answer begins since rises moved.moves moved.there moved.on (subst (λ (x : List BoardTurn). SetNoneFrom i (a.from + 3) x) same none) took.queued
    took.in_time took.took took.heard (subst (λ (x : List BoardTurn). (stands_after first x).core.board.controller.state ≡ Running) same runs))

-- where a list is so long behind a place
pub split_at : (n : ℕ) (xs : List BoardTurn) → n ≤ length xs → (front : List BoardTurn) × (back : List BoardTurn) × (xs ≡ front ++ back) × (length back ≡ n)
split_at n [] l = ([], [], refl, omega (arith, l))
split_at n (x ∷ xs) l = elim (leb_tells n (length xs)) [
  | inl p ↦ let r = split_at n xs p.1 in (x ∷ r.0, r.1, ap (λ (ys : List BoardTurn). x ∷ ys) r.2, r.3)
  | inr p ↦ let far = p.1 in ([], x ∷ xs, refl, omega (arith, l, far))
]

-- before the section was known the run was past connecting
pub past_connecting : (m : Machine) (switches : List Switch) (pins : List (List Level)) (entries : List Entry) (b from start : ℕ) (ms : List Member) (came : List Came) (recent early : List BoardTurn) → IsInRun m switches pins entries b came (recent ++ early)
    → HomesFrom m switches from start ms came → length early ≡ from → 0 < length recent → (before : List Came) × IsInRun m switches pins entries b before early × ((known_by m switches before).phase ≡ Connecting → ⊥)
past_connecting m switches pins entries b from start ms came [] early r homes long some = absurd (omega (arith, some))
past_connecting m switches pins entries b from start ms [] (t ∷ recent) early r homes long some = absurd r.both
past_connecting m switches pins entries b from start ms (c ∷ before) (t ∷ []) early r homes long some =
    let same = as_long m switches b before early r.both.2 in
    (before, run_before m switches pins entries b c before t early r, (homes.0 (omega (arith, long, same))).0)
past_connecting m switches pins entries b from start ms (c ∷ before) (t ∷ u ∷ recent) early r homes long some =
    past_connecting m switches pins entries b from start ms before (u ∷ recent) early (run_before m switches pins entries b c before t (u ∷ recent ++ early) r) homes.1 long (omega arith)
