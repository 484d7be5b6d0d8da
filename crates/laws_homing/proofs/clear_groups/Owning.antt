-- A board of a clear scene that runs has one trigger once connecting has ended.
use Rattle.std.proofs.Common.{◌≡◌, ℕ, ◌<◌, ◌==◌, ◌&&◌, ◌⊎◌, inr, Bool, true, false, cond, List, [], ◌∷◌, refl, sym, ◌∙◌, subst, arith}
use Rattle.laws_board.proofs.Names.{eq-eqb, Level, BoardDef, Running, clock_of, AllKeepLimits, Machine, IsValidMachine, board_at, Cmd, Entry, Switch, Meant, commands_of, first_state, trigger_of, Connecting, Came, known_by}
use Rattle.laws_board.specs.clocks.Runs.{orders_in}
use Rattle.laws_homing.specs.home_runs.Guards.{IsSole}
use Rattle.laws_homing.proofs.home_runs.Whole.{Has, OneHas, OneOnly, Only, config_has, filter_has, keep_there, queue_has, queue_only, run_only, there_first}
use Rattle.laws_homing.specs.clear_boards.Rests.{RestsBehind}
use Rattle.laws_homing.proofs.clear_boards.Rests.{clear_behind, free_at, rests_idle}
use Rattle.laws_homing.proofs.home_runs.Resting.{rests_took}
use Rattle.msg_code.specs.declared.cmd.Cmd.TheVariants as cmd
use Rattle.laws_board.specs.turns.Turns.{AreBoardTurns, BoardTurn, stands_after}
use Rattle.laws_board.specs.clocks.Ordered.{commands_in}
use Rattle.laws_board.specs.clocks.Runs.{IsInRun}
use Rattle.laws_board.proofs.clocks.Configured.{all_configured}
use Rattle.laws_homing.specs.home_runs.Sections.{queued_in_turns}
use Rattle.laws_homing.specs.home_runs.Stages.{Stage, lost_stage, no_stage, stage_from, stage_of}
use Rattle.laws_homing.proofs.home_runs.Staging.{HasSlot, staged_after}
use Rattle.axis_homing.proofs.Room.{on-few}

-- what commands make of a stage
abbrev Grown : ℕ → ℕ → Stage → List Cmd → Type 0
Grown i j s cs = ((stage_from i j s cs).sole ≡ true) × (((s.there ≡ true) ⊎ Has j cs) → (stage_from i j s cs).there ≡ true)

abbrev OneGrown : ℕ → ℕ → Stage → Cmd → Type 0
OneGrown i j s c = ((stage_of i j s c).sole ≡ true) × (((s.there ≡ true) ⊎ OneHas j c) → (stage_of i j s c).there ≡ true)

grown_if : (t : Bool) (s u : Stage) → u.sole ≡ s.sole → u.there ≡ s.there → s.sole ≡ true → ((cond t u s).sole ≡ true) × (((s.there ≡ true) ⊎ ⊥) → (cond t u s).there ≡ true)
grown_if true s u a c sole = (a ∙ sole, λ t. c ∙ keep_there s t)
grown_if false s u a c sole = (sole, λ t. keep_there s t)

one_grown : (i j : ℕ) (s : Stage) (c : Cmd) → OneOnly j c → s.sole ≡ true → OneGrown i j s c
one_grown i j s (cmd.ConfigStepper oid step dir invert width) only sole = grown_if (oid == i) s (record s { made = true }) refl refl sole
one_grown i j s (cmd.ConfigTrsync oid) only sole =
    let Is : Bool → Type 0 = λ t. ((cond t (record s { there = true }) lost_stage).sole ≡ true) × (((s.there ≡ true) ⊎ (oid ≡ j)) → (cond t (record s { there = true }) lost_stage).there ≡ true) in
    subst Is (sym (eq-eqb oid j only)) (sole, λ t. refl)
one_grown i j s (cmd.TrsyncStart oid clock every reason) only sole = grown_if (oid == j) s (record s { bound = false }) refl refl sole
one_grown i j s (cmd.ResetStepClock oid clock) only sole = grown_if (oid == i) s (record s { bound = false }) refl refl sole
one_grown i j s (cmd.StepperStopOnTrigger oid other) only sole = grown_if ((oid == i) && (other == j)) s (record s { bound = s.made && s.there }) refl refl sole
one_grown i j s c only sole = (sole, λ t. keep_there s t)

grown : (i j : ℕ) (s : Stage) (cs : List Cmd) → Only j cs → s.sole ≡ true → Grown i j s cs
grown i j s [] only sole = (sole, λ t. keep_there s t)
grown i j s (c ∷ cs) only sole =
    let u = stage_of i j s c in
    let one = one_grown i j s c only.0 sole in
    let rest = grown i j u cs only.1 one.0 in
    (rest.0, λ t. rest.1 (there_first j s u c cs one.1 t))

-- the link of a clear scene leaves nothing in its queue
pub taken_all : (b : BoardDef) (pins : List (List Level)) (board : ℕ) (entries : List Entry) (turns : List BoardTurn) → entries ≡ [] → AreBoardTurns (clock_of b) (first_state b pins board entries) turns → AllKeepLimits (orders_in turns)
    → (stands_after (first_state b pins board entries) turns).core.taken ≡ queued_in_turns turns
taken_all b pins board entries turns none are limits = rests_took b pins board entries turns are (free_at b pins board entries turns none are limits).idle

-- a board that runs, where its link rests
pub one_rested : (m : Machine) (switches : List Switch) (pins : List (List Level)) (entries : List Entry) (b : ℕ) (came : List Came) (turns : List BoardTurn) → IsValidMachine m → IsInRun m switches pins entries b came turns → RestsBehind turns
    → ((known_by m switches came).phase ≡ Connecting → ⊥) → (stands_after (first_state (board_at m b) pins b entries) turns).core.board.controller.state ≡ Running
    → IsSole (trigger_of m b) (stands_after (first_state (board_at m b) pins b entries) turns).core.board × HasSlot (trigger_of m b) (stands_after (first_state (board_at m b) pins b entries) turns).core.board
one_rested m switches pins entries b came turns v r rest n runs =
    let j = trigger_of m b in
    let few : j < 256 = (let most = v.steppers_few in let here = on-few b m.steppers in omega (arith, most, here)) in
    let d = board_at m b in
    let all = all_configured m switches pins entries b came turns v r n in
    let g = grown 0 j no_stage (commands_of (queued_in_turns turns)) (queue_only j turns (run_only m switches pins entries b came turns v r)) refl in
    let has = queue_has j turns (filter_has j (commands_in turns) (subst (λ (l : List Cmd). Has j l) (sym all) (config_has m b))) in
    let staged = staged_after d pins b entries turns 0 j (omega arith) few r.turns_are in
    let taken = rests_took d pins b entries turns r.turns_are (rests_idle d pins b entries turns r.turns_are rest) in
    let Stage_of : List Meant → Type 0 = λ ms. ((stage_from 0 j no_stage (commands_of ms)).sole ≡ true) × ((stage_from 0 j no_stage (commands_of ms)).there ≡ true) in
    let stage : Stage_of (stands_after (first_state d pins b entries) turns).core.taken = subst Stage_of (sym taken) (g.0, g.1 (inr has)) in
    ((staged.staged runs).sole stage.0, (staged.staged runs).there stage.1)

-- so in a scene without entries
pub one_trigger : (m : Machine) (switches : List Switch) (pins : List (List Level)) (entries : List Entry) (b : ℕ) (came : List Came) (turns : List BoardTurn) → IsValidMachine m → entries ≡ [] → IsInRun m switches pins entries b came turns → AllKeepLimits (orders_in turns)
    → ((known_by m switches came).phase ≡ Connecting → ⊥) → (stands_after (first_state (board_at m b) pins b entries) turns).core.board.controller.state ≡ Running
    → IsSole (trigger_of m b) (stands_after (first_state (board_at m b) pins b entries) turns).core.board × HasSlot (trigger_of m b) (stands_after (first_state (board_at m b) pins b entries) turns).core.board
one_trigger m switches pins entries b came turns v none r limits n runs = one_rested m switches pins entries b came turns v r (clear_behind (board_at m b) pins b entries turns none r.turns_are limits) n runs
