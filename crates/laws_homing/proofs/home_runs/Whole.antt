-- What a board was sent by the turns of a homing section: the stepper that moves is bound to its trigger.
use Rattle.std.proofs.Common.{◌≡◌, ℕ, ◌+◌, ◌<◌, ◌≤◌, ◌==◌, ◌&&◌, ◌⊎◌, inl, inr, Bool, true, false, cond, List, [], ◌∷◌, ◌++◌, length, map, Option, Some, None, refl, ap, sym, ◌∙◌, subst, arith, rules}
use Rattle.laws_board.proofs.Names.{flat_map, eq-eqb, eqb-true, map-append, Level, Machine, IsValidMachine, stepper_at, dir_commands, reset_commands, step_command, Cmd, Unit as StepUnit, Entry, Switch, commands_of, plain, unit_orders, units_orders, queued_in, orders, Setup, configuration, trigger_of, Connecting, Came, known_by}
use Rattle.std.specs.List.{filter}
use Rattle.plan_types.specs.declared.machine.StepperDef.{StepperDef}
use Rattle.msg_code.specs.declared.cmd.Cmd.TheVariants as cmd
use Rattle.board_world.specs.Orders.{unit_ticks}
use Rattle.board_asking.specs.declared.setup.Setup.TheVariants.{Finish, Stepper, Trsync}
use Rattle.board_asking.specs.Machine.{endstop_pins, setup_command, setup_endstops, setup_stepper}
use Rattle.laws_board.specs.turns.Turns.{BoardTurn}
use Rattle.laws_board.specs.clocks.Ordered.{commands_in, configures, makes, times_made}
use Rattle.laws_board.specs.clocks.Runs.{IsInRun}
use Rattle.laws_board.proofs.clocks.Configured.{all_configured, some_configured}
use Rattle.laws_board.proofs.clocks.Made.{made_once, times_both}
use Rattle.laws_homing.specs.home_runs.Guards.{AreCalm, IsCalm}
use Rattle.laws_homing.specs.home_runs.Sections.{SetNone, queued_in_turns}
use Rattle.laws_homing.specs.home_runs.Stages.{Stage, lost_stage, no_stage, stage_from, stage_of}
use Rattle.laws_homing.proofs.home_runs.Firing.{calm_both, calm_each}
use Rattle.laws_homing.proofs.home_runs.Saying.{EachCalm}
use Rattle.laws_homing.proofs.home_runs.Setting.{Binds}
use Rattle.laws_homing.proofs.home_runs.Staging.{commands_both, stage_append}
use Rattle.laws_homing.proofs.clear_boards.Ordered.{plain_are}

-- no other trigger is made
abbrev pub OneOnly : ℕ → Cmd → Type 0
OneOnly j (cmd.ConfigTrsync oid) = oid ≡ j
OneOnly j c = Unit {0}

abbrev pub Only : ℕ → List Cmd → Type 0
Only j [] = Unit {0}
Only j (c ∷ cs) = OneOnly j c × Only j cs

-- this one is made
abbrev pub OneHas : ℕ → Cmd → Type 0
OneHas j (cmd.ConfigTrsync oid) = oid ≡ j
OneHas j c = ⊥

abbrev pub Has : ℕ → List Cmd → Type 0
Has j [] = ⊥
Has j (c ∷ cs) = OneHas j c ⊎ Has j cs

pub only_both : (j : ℕ) (xs ys : List Cmd) → Only j xs → Only j ys → Only j (xs ++ ys)
only_both j [] ys a b = b
only_both j (x ∷ xs) ys a b = (a.0, only_both j xs ys a.1 b)

pub only_parts : (j : ℕ) (xs ys : List Cmd) → Only j (xs ++ ys) → Only j xs × Only j ys
only_parts j [] ys a = (tt, a)
only_parts j (x ∷ xs) ys a = let p = only_parts j xs ys a.1 in ((a.0, p.0), p.1)

pub has_front : (j : ℕ) (xs ys : List Cmd) → Has j xs → Has j (xs ++ ys)
has_front j [] ys h = absurd h
has_front j (x ∷ xs) ys (inl e) = inl e
has_front j (x ∷ xs) ys (inr h) = inr (has_front j xs ys h)

pub has_behind : (j : ℕ) (xs ys : List Cmd) → Has j ys → Has j (xs ++ ys)
has_behind j [] ys h = h
has_behind j (x ∷ xs) ys h = inr (has_behind j xs ys h)

pub has_either : (j : ℕ) (xs ys : List Cmd) → Has j (xs ++ ys) → Has j xs ⊎ Has j ys
has_either j [] ys h = inr h
has_either j (x ∷ xs) ys (inl e) = inl (inl e)
has_either j (x ∷ xs) ys (inr h) = elim (has_either j xs ys h) [ inl a ↦ inl (inr a) | inr a ↦ inr a ]

-- what some commands make of a stage
pub record Ready (s : Stage) : Type 0 where
  pub sole : s.sole ≡ true
  pub made : s.made ≡ true
  pub there : s.there ≡ true

pub record IsWhole (s : Stage) : Type 0 where
  pub ready : Ready s
  pub bound : s.bound ≡ true

abbrev Grown : ℕ → ℕ → Stage → List Cmd → Type 0
Grown i j s cs = ((stage_from i j s cs).sole ≡ true) × (((s.made ≡ true) ⊎ (1 ≤ times_made i cs)) → (stage_from i j s cs).made ≡ true) × (((s.there ≡ true) ⊎ Has j cs) → (stage_from i j s cs).there ≡ true)

abbrev OneGrown : ℕ → ℕ → Stage → Cmd → Type 0
OneGrown i j s c =
    ((stage_of i j s c).sole ≡ true) × (((s.made ≡ true) ⊎ (makes i c ≡ true)) → (stage_of i j s c).made ≡ true) × (((s.there ≡ true) ⊎ OneHas j c) → (stage_of i j s c).there ≡ true)

keep_made : (s : Stage) → (s.made ≡ true) ⊎ (false ≡ true) → s.made ≡ true
keep_made s (inl e) = e
keep_made s (inr e) = cc

pub keep_there : (s : Stage) → (s.there ≡ true) ⊎ ⊥ → s.there ≡ true
keep_there s (inl e) = e
keep_there s (inr e) = absurd e

same_grown : (i j : ℕ) (s u : Stage) → u.sole ≡ s.sole → u.made ≡ s.made → u.there ≡ s.there → s.sole ≡ true → (u.sole ≡ true) × (((s.made ≡ true) ⊎ (false ≡ true)) → u.made ≡ true) × (((s.there ≡ true) ⊎ ⊥) → u.there ≡ true)
same_grown i j s u a b c sole = (a ∙ sole, λ m. b ∙ keep_made s m, λ t. c ∙ keep_there s t)

grown_if : (t : Bool) (s u : Stage) → u.sole ≡ s.sole → u.made ≡ s.made → u.there ≡ s.there → s.sole ≡ true
    → ((cond t u s).sole ≡ true) × (((s.made ≡ true) ⊎ (false ≡ true)) → (cond t u s).made ≡ true) × (((s.there ≡ true) ⊎ ⊥) → (cond t u s).there ≡ true)
grown_if true s u a b c sole = same_grown 0 0 s u a b c sole
grown_if false s u a b c sole = same_grown 0 0 s s refl refl refl sole

grown_made : (t : Bool) (s : Stage) → s.sole ≡ true
    → ((cond t (record s { made = true }) s).sole ≡ true) × (((s.made ≡ true) ⊎ (t ≡ true)) → (cond t (record s { made = true }) s).made ≡ true) × (((s.there ≡ true) ⊎ ⊥) → (cond t (record s { made = true }) s).there ≡ true)
grown_made true s sole = (sole, λ m. refl, λ t. keep_there s t)
grown_made false s sole = (sole, λ m. keep_made s m, λ t. keep_there s t)

one_grown : (i j : ℕ) (s : Stage) (c : Cmd) → OneOnly j c → s.sole ≡ true → OneGrown i j s c
one_grown i j s c p4 p5 = search (rules, grown_made, eq-eqb, keep_made, grown_if, same_grown)

made_first : (i : ℕ) (s u : Stage) (c : Cmd) (n : ℕ) (t : Bool) → makes i c ≡ t → (((s.made ≡ true) ⊎ (makes i c ≡ true)) → u.made ≡ true) → (s.made ≡ true) ⊎ (1 ≤ cond t 1 0 + n) → (u.made ≡ true) ⊎ (1 ≤ n)
made_first i s u c n t e f (inl m) = inl (f (inl m))
made_first i s u c n true e f (inr l) = inl (f (inr e))
made_first i s u c n false e f (inr l) = inr (omega (arith, l))

pub there_first : (j : ℕ) (s u : Stage) (c : Cmd) (cs : List Cmd) → (((s.there ≡ true) ⊎ OneHas j c) → u.there ≡ true) → (s.there ≡ true) ⊎ Has j (c ∷ cs) → (u.there ≡ true) ⊎ Has j cs
there_first j s u c cs f (inl e) = inl (f (inl e))
there_first j s u c cs f (inr (inl e)) = inl (f (inr e))
there_first j s u c cs f (inr (inr h)) = inr h

pub grown : (i j : ℕ) (s : Stage) (cs : List Cmd) → Only j cs → s.sole ≡ true → Grown i j s cs
grown i j s [] only sole = (sole, λ m. none_made m, λ t. keep_there s t)
  where
    none_made : (s.made ≡ true) ⊎ (1 ≤ 0) → s.made ≡ true
    none_made (inl e) = e
    none_made (inr l) = absurd (omega (arith, l))
grown i j s (c ∷ cs) only sole =
    let u = stage_of i j s c in
    let one = one_grown i j s c only.0 sole in
    let rest = grown i j u cs only.1 one.0 in
    (rest.0, λ m. rest.1 (made_first i s u c (times_made i cs) (makes i c) refl one.1 m), λ t. rest.2 (there_first j s u c cs one.2 t))

-- a stage that is ready stays so, and one that is whole behind calm commands
pub ready_on : (i j : ℕ) (s : Stage) (cs : List Cmd) → Only j cs → Ready s → Ready (stage_from i j s cs)
ready_on i j s cs only r = let g = grown i j s cs only r.sole in record { sole = g.0; made = g.1 (inl r.made); there = g.2 (inl r.there) }

calm_only : (i j : ℕ) (cs : List Cmd) → EachCalm i j cs → Only j cs
calm_only i j [] k = tt
calm_only i j (cmd.ConfigTrsync oid ∷ cs) k = (k.0, calm_only i j cs k.1)
calm_only i j (c ∷ cs) k = (tt, calm_only i j cs k.1)

unless_own : (t : Bool) (s : Stage) → (t ≡ true → ⊥) → s.bound ≡ true → (cond t (record s { bound = false }) s).bound ≡ true
unless_own true s not_own e = absurd (not_own refl)
unless_own false s not_own e = e

bound_if : (t : Bool) (s : Stage) → Ready s → s.bound ≡ true → (cond t (record s { bound = s.made && s.there }) s).bound ≡ true
bound_if true s r e = ap (λ (x : Bool). x && s.there) r.made ∙ r.there
bound_if false s r e = e

made_bound : (t : Bool) (s : Stage) → s.bound ≡ true → (cond t (record s { made = true }) s).bound ≡ true
made_bound true s e = e
made_bound false s e = e

one_bound : (i j : ℕ) (s : Stage) (c : Cmd) → IsCalm i j c → IsWhole s → (stage_of i j s c).bound ≡ true
one_bound i j s c p4 p5 = search (rules, made_bound, eq-eqb, unless_own, eqb-true, bound_if)

pub whole_on : (i j : ℕ) (s : Stage) (cs : List Cmd) → EachCalm i j cs → IsWhole s → IsWhole (stage_from i j s cs)
whole_on i j s [] calm w = w
whole_on i j s (c ∷ cs) calm w =
    whole_on i j (stage_of i j s c) cs calm.1 (record { ready = ready_on i j s (c ∷ []) (calm_only i j (c ∷ []) (calm.0, tt)) w.ready; bound = one_bound i j s c calm.0 w })

-- a stepper is bound by some commands
binds_now : (i j : ℕ) (s : Stage) → Ready s → IsWhole (stage_of i j s (cmd.StepperStopOnTrigger i j))
binds_now i j s r = search (rules, eq-eqb)

pub whole_by : (i j : ℕ) (s : Stage) (cs : List Cmd) → Only j cs → Ready s → Binds i j cs → IsWhole (stage_from i j s cs)
whole_by i j s [] only r b = absurd b
whole_by i j s (c ∷ cs) only r (inl b) = whole_on i j (stage_of i j s c) cs b.1 (subst (λ (x : Cmd). IsWhole (stage_of i j s x)) (sym b.0) (binds_now i j s r))
whole_by i j s (c ∷ cs) only r (inr b) = whole_by i j (stage_of i j s c) cs only.1 (ready_on i j s (c ∷ []) (only.0, tt) r) b

-- what units bring
pub unit_only : (j : ℕ) (u : StepUnit) → Only j (commands_of (unit_orders u))
unit_only j u = search (rules, commands_of, plain, reset_commands, dir_commands, step_command)

pub units_only : (j : ℕ) (us : List StepUnit) → Only j (commands_of (units_orders us))
units_only j [] = tt
units_only j (u ∷ us) =
    subst (λ (l : List Cmd). Only j l) (sym (commands_both (unit_orders u) (units_orders us))) (only_both j (commands_of (unit_orders u)) (commands_of (units_orders us)) (unit_only j u) (units_only j us))

unit_calm : (i j : ℕ) (u : StepUnit) → (u.stepper ≡ i → u.reset ≡ None) → AreCalm i j (unit_orders u)
unit_calm i j u none = search (rules, plain, reset_commands, dir_commands, step_command)

pub units_calm : (i j : ℕ) (us : List StepUnit) → SetNone i us → AreCalm i j (units_orders us)
units_calm i j [] n = tt
units_calm i j (u ∷ us) n = calm_both i j (unit_orders u) (units_orders us) (unit_calm i j u n.0) (units_calm i j us n.1)

pub turn_commands : (t : BoardTurn) → commands_of (queued_in (orders t.control t.batch)) ≡ t.control.commands ++ commands_of (units_orders t.batch.units)
turn_commands t = commands_both (map plain t.control.commands) (units_orders t.batch.units) ∙ ap (λ (l : List Cmd). l ++ commands_of (units_orders t.batch.units)) (plain_are t.control.commands)

each_plain : (i j : ℕ) (cs : List Cmd) → EachCalm i j cs → AreCalm i j (map plain cs)
each_plain i j [] k = tt
each_plain i j (c ∷ cs) k = (k.0, each_plain i j cs k.1)

pub brings_calm : (i j : ℕ) (t : BoardTurn) → EachCalm i j t.control.commands → SetNone i t.batch.units → AreCalm i j (queued_in (orders t.control t.batch))
brings_calm i j t controls units = calm_both i j (map plain t.control.commands) (units_orders t.batch.units) (each_plain i j t.control.commands controls) (units_calm i j t.batch.units units)

-- the configuration
filter_only : (j : ℕ) (cs : List Cmd) → Only j (filter configures cs) → Only j cs
filter_only j [] k = tt
filter_only j (cmd.AllocateOids count ∷ cs) k = (tt, filter_only j cs k.1)
filter_only j (cmd.ConfigStepper oid step dir invert width ∷ cs) k = (tt, filter_only j cs k.1)
filter_only j (cmd.ConfigTrsync oid ∷ cs) k = (k.0, filter_only j cs k.1)
filter_only j (cmd.ConfigEndstop oid pin pull ∷ cs) k = (tt, filter_only j cs k.1)
filter_only j (cmd.FinalizeConfig crc ∷ cs) k = (tt, filter_only j cs k.1)
filter_only j (c ∷ cs) k = (tt, filter_only j cs k)

pub filter_has : (j : ℕ) (cs : List Cmd) → Has j (filter configures cs) → Has j cs
filter_has j [] k = absurd k
filter_has j (cmd.AllocateOids count ∷ cs) (inl e) = absurd e
filter_has j (cmd.AllocateOids count ∷ cs) (inr k) = inr (filter_has j cs k)
filter_has j (cmd.ConfigStepper oid step dir invert width ∷ cs) (inl e) = absurd e
filter_has j (cmd.ConfigStepper oid step dir invert width ∷ cs) (inr k) = inr (filter_has j cs k)
filter_has j (cmd.ConfigTrsync oid ∷ cs) (inl e) = inl e
filter_has j (cmd.ConfigTrsync oid ∷ cs) (inr k) = inr (filter_has j cs k)
filter_has j (cmd.ConfigEndstop oid pin pull ∷ cs) (inl e) = absurd e
filter_has j (cmd.ConfigEndstop oid pin pull ∷ cs) (inr k) = inr (filter_has j cs k)
filter_has j (cmd.FinalizeConfig crc ∷ cs) (inl e) = absurd e
filter_has j (cmd.FinalizeConfig crc ∷ cs) (inr k) = inr (filter_has j cs k)
filter_has j (c ∷ cs) k = inr (filter_has j cs k)

abbrev Configured : ℕ → List Setup → Type 0
Configured j ss = Only j (map setup_command ss)

setups_only : (j : ℕ) (xs ys : List Setup) → Configured j xs → Configured j ys → Configured j (xs ++ ys)
setups_only j xs ys a b = subst (λ (l : List Cmd). Only j l) (sym (map-append setup_command xs ys)) (only_both j (map setup_command xs) (map setup_command ys) a b)

stepper_only : (j b : ℕ) (s : StepperDef) → Configured j (setup_stepper b s)
stepper_only j b s = one (s.board == b)
  where
    one : (t : Bool) → Configured j (cond t (Stepper s.oid s.step_pin s.dir_pin ∷ []) [])
    one true = (tt, tt)
    one false = tt

steppers_only : (j b : ℕ) (ss : List StepperDef) → Configured j (flat_map (setup_stepper b) ss)
steppers_only j b [] = tt
steppers_only j b (s ∷ ss) = setups_only j (setup_stepper b s) (flat_map (setup_stepper b) ss) (stepper_only j b s) (steppers_only j b ss)

endstops_only : (j from : ℕ) (pins : List ℕ) → Configured j (setup_endstops from pins)
endstops_only j from [] = tt
endstops_only j from (p ∷ pins) = (tt, endstops_only j (from + 1) pins)

config_only : (m : Machine) (b : ℕ) → Only (trigger_of m b) (map setup_command (configuration m b))
unfolding configuration
config_only m b =
    let j = trigger_of m b in
    let endstops = setup_endstops (j + 1) (endstop_pins m b) in (
      tt,
      setups_only j (flat_map (setup_stepper b) m.steppers) (Trsync j ∷ (endstops ++ Finish ∷ [])) (steppers_only j b m.steppers)
          (refl, setups_only j endstops (Finish ∷ []) (endstops_only j (j + 1) (endstop_pins m b)) (tt, tt)),
    )

pub config_has : (m : Machine) (b : ℕ) → Has (trigger_of m b) (map setup_command (configuration m b))
unfolding configuration
config_has m b =
    let j = trigger_of m b in
    let steppers = flat_map (setup_stepper b) m.steppers in
    let tail = Trsync j ∷ (setup_endstops (j + 1) (endstop_pins m b) ++ Finish ∷ []) in
    inr (subst (λ (l : List Cmd). Has j l) (sym (map-append setup_command steppers tail)) (has_behind j (map setup_command steppers) (map setup_command tail) (inl refl)))

-- over turns
pub queue_only : (j : ℕ) (turns : List BoardTurn) → Only j (commands_in turns) → Only j (commands_of (queued_in_turns turns))
queue_only j [] k = tt
queue_only j (t ∷ before) k =
    let both = only_parts j (commands_in before) t.control.commands k in
    subst (λ (l : List Cmd). Only j l) (sym (commands_both (queued_in_turns before) (queued_in (orders t.control t.batch))))
    (only_both j (commands_of (queued_in_turns before)) (commands_of (queued_in (orders t.control t.batch))) (queue_only j before both.0)
    (subst (λ (l : List Cmd). Only j l) (sym (turn_commands t)) (only_both j t.control.commands (commands_of (units_orders t.batch.units)) both.1 (units_only j t.batch.units))))

pub queue_has : (j : ℕ) (turns : List BoardTurn) → Has j (commands_in turns) → Has j (commands_of (queued_in_turns turns))
queue_has j [] k = absurd k
queue_has j (t ∷ before) k =
    let front = commands_of (queued_in_turns before) in
    let new = commands_of (queued_in (orders t.control t.batch)) in
    subst (λ (l : List Cmd). Has j l) (sym (commands_both (queued_in_turns before) (queued_in (orders t.control t.batch)))) (elim (has_either j (commands_in before) t.control.commands k) [
      | inl old ↦ has_front j front new (queue_has j before old)
      | inr now ↦ has_behind j front new (subst (λ (l : List Cmd). Has j l) (sym (turn_commands t)) (has_front j t.control.commands (commands_of (units_orders t.batch.units)) now))
    ])

queue_made : (i : ℕ) (turns : List BoardTurn) → times_made i (commands_in turns) ≤ times_made i (commands_of (queued_in_turns turns))
queue_made i [] = omega arith
queue_made i (t ∷ before) =
    let new = commands_of (queued_in (orders t.control t.batch)) in
    let a = times_both i (commands_in before) t.control.commands in
    let b = ap (times_made i) (commands_both (queued_in_turns before) (queued_in (orders t.control t.batch))) ∙ times_both i (commands_of (queued_in_turns before)) new in
    let c = ap (times_made i) (turn_commands t) ∙ times_both i t.control.commands (commands_of (units_orders t.batch.units)) in
    let d = queue_made i before in
    omega (arith, a, b, c, d)

-- no other trigger is ever made, and once connecting ended the board's steppers and its trigger are
pub run_only : (m : Machine) (switches : List Switch) (pins : List (List Level)) (entries : List Entry) (b : ℕ) (came : List Came) (turns : List BoardTurn) → IsValidMachine m → IsInRun m switches pins entries b came turns
    → Only (trigger_of m b) (commands_in turns)
run_only m switches pins entries b came turns v r =
    let j = trigger_of m b in
    let some = some_configured m switches pins entries b came turns v r in
    filter_only j (commands_in turns) (only_parts j (filter configures (commands_in turns)) some.0 (subst (λ (l : List Cmd). Only j l) (sym some.1) (config_only m b))).0

pub run_ready : (m : Machine) (switches : List Switch) (pins : List (List Level)) (entries : List Entry) (b : ℕ) (came : List Came) (turns : List BoardTurn) (s : ℕ) → IsValidMachine m → IsInRun m switches pins entries b came turns
    → ((known_by m switches came).phase ≡ Connecting → ⊥) → s < length m.steppers → (stepper_at m s).board ≡ b → Ready (stage_from (stepper_at m s).oid (trigger_of m b) no_stage (commands_of (queued_in_turns turns)))
run_ready m switches pins entries b came turns s v r n l e =
    let i = (stepper_at m s).oid in
    let j = trigger_of m b in
    let all = all_configured m switches pins entries b came turns v r n in
    let g = grown i j no_stage (commands_of (queued_in_turns turns)) (queue_only j turns (run_only m switches pins entries b came turns v r)) refl in
    let made = made_once m switches pins entries b came turns v r n s l e in
    let has = queue_has j turns (filter_has j (commands_in turns) (subst (λ (l : List Cmd). Has j l) (sym all) (config_has m b))) in
    record { sole = g.0; made = g.1 (inr (omega (arith, made, queue_made i turns))); there = g.2 (inr has) }

-- the stage behind a turn
pub stage_turn : (i j : ℕ) (t : BoardTurn) (before : List BoardTurn)
    → stage_from i j no_stage (commands_of (queued_in_turns (t ∷ before))) ≡ stage_from i j (stage_from i j no_stage (commands_of (queued_in_turns before))) (commands_of (queued_in (orders t.control t.batch)))
stage_turn i j t before =
    ap (stage_from i j no_stage) (commands_both (queued_in_turns before) (queued_in (orders t.control t.batch))) ∙ stage_append i j no_stage (commands_of (queued_in_turns before)) (commands_of (queued_in (orders t.control t.batch)))

-- what the turn of a round makes
pub binds_turn : (i j : ℕ) (t : BoardTurn) → Binds i j t.control.commands → SetNone i t.batch.units → Binds i j (commands_of (queued_in (orders t.control t.batch)))
binds_turn i j t b none =
    subst (λ (l : List Cmd). Binds i j l) (sym (turn_commands t)) (front t.control.commands b)
  where
    front : (cs : List Cmd) → Binds i j cs → Binds i j (cs ++ commands_of (units_orders t.batch.units))
    front [] k = absurd k
    front (c ∷ cs) (inl k) = inl (k.0, calm_append cs k.1)
      where
        calm_append : (xs : List Cmd) → EachCalm i j xs → EachCalm i j (xs ++ commands_of (units_orders t.batch.units))
        calm_append [] a = calm_each i j (units_orders t.batch.units) (units_calm i j t.batch.units none)
        calm_append (x ∷ xs) a = (a.0, calm_append xs a.1)
    front (c ∷ cs) (inr k) = inr (front cs k)

pub turn_only : (j : ℕ) (t : BoardTurn) (turns : List BoardTurn) → Only j (commands_in (t ∷ turns)) → Only j (commands_of (queued_in (orders t.control t.batch)))
turn_only j t turns k =
    subst (λ (l : List Cmd). Only j l) (sym (turn_commands t))
    (only_both j t.control.commands (commands_of (units_orders t.batch.units)) (only_parts j (commands_in turns) t.control.commands k).1 (units_only j t.batch.units))
