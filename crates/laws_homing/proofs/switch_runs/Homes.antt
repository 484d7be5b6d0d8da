-- Past connecting the endstop of each axis was made on its board.
use Rattle.std.proofs.Common.{◌≡◌, ℕ, zero, suc, ◌+◌, ◌<◌, ◌≤◌, ◌==◌, ◌&&◌, ◌⊎◌, inl, inr, Bool, true, false, not, cond, List, [], ◌∷◌, ◌++◌, length, map, refl, sym, subst, arith, rules}
use Rattle.std.specs.Prelude.{slice_index_or}
use Rattle.laws_board.proofs.Names.{flat_map, eq-eqb, eqb_tells, map-append, Level, AxisDef, Machine, IsValidMachine, axis_at, Cmd, Entry, Switch, commands_of, units_orders, queued_in, orders, configuration, trigger_of, Connecting, Came, known_by}
use Rattle.std.specs.List.{filter}
use Rattle.msg_code.specs.declared.cmd.Cmd.TheVariants as cmd
use Rattle.board_asking.specs.declared.setup.Setup.TheVariants.{Finish, Trsync}
use Rattle.board_asking.specs.Machine.{endstop_pins, is_among, pins_of, setup_command, setup_endstops, setup_stepper}
use Rattle.axis_homing.specs.Homing.{place_from}
use Rattle.laws_board.specs.turns.Turns.{BoardTurn}
use Rattle.laws_board.specs.clocks.Ordered.{commands_in, configures}
use Rattle.laws_board.specs.clocks.Runs.{IsInRun}
use Rattle.laws_board.specs.clocks.Samples.{IsAmong}
use Rattle.laws_board.proofs.clocks.Configured.{all_configured}
use Rattle.laws_homing.specs.home_runs.Sections.{queued_in_turns}
use Rattle.laws_homing.proofs.home_runs.Staging as staging
use Rattle.laws_homing.proofs.home_runs.Whole.{turn_commands}
use Rattle.laws_homing.specs.switch_runs.Made.{MakesEndstop}
use Rattle.axis_homing.proofs.Room.{place-few, pins-few, on-few}

-- the object id of an axis's endstop on a board
abbrev pub endstop_of : Machine → ℕ → AxisDef → ℕ
endstop_of m b axis = place_from (trigger_of m b + 1) axis.pin (endstop_pins m b)

-- the endstop of an axis is made as its board is configured
makes_behind : (e : ℕ) (xs ys : List Cmd) → MakesEndstop e ys → MakesEndstop e (xs ++ ys)
makes_behind e [] ys k = k
makes_behind e (cmd.ConfigEndstop oid pin pull ∷ xs) ys k = inr (makes_behind e xs ys k)
makes_behind e (x ∷ xs) ys k = makes_behind e xs ys k

pub makes_front : (e : ℕ) (xs ys : List Cmd) → MakesEndstop e xs → MakesEndstop e (xs ++ ys)
makes_front e [] ys k = absurd k
makes_front e (cmd.ConfigEndstop oid pin pull ∷ xs) ys (inl k) = inl k
makes_front e (cmd.ConfigEndstop oid pin pull ∷ xs) ys (inr k) = inr (makes_front e xs ys k)
makes_front e (x ∷ xs) ys k = makes_front e xs ys k

made_at : (place pin : ℕ) (pins : List ℕ) → IsAmong pin pins → MakesEndstop (place_from place pin pins) (map setup_command (setup_endstops place pins))
made_at place pin [] k = absurd k
made_at place pin (p ∷ pins) k =
    let At : Bool → Type 0 = λ t. MakesEndstop (cond t place (place_from (place + 1) pin pins)) (map setup_command (setup_endstops place (p ∷ pins))) in
    elim (eqb_tells p pin) [
      | inl q ↦ subst At (sym q.0) (inl refl)
      | inr q ↦ subst At (sym q.0) (elim k [ inl same ↦ absurd (q.1 same) | inr later ↦ inr (made_at (place + 1) pin pins later) ])
    ]

among_front : (pin : ℕ) (xs ys : List ℕ) → IsAmong pin xs → IsAmong pin (xs ++ ys)
among_front pin [] ys k = absurd k
among_front pin (x ∷ xs) ys (inl k) = inl k
among_front pin (x ∷ xs) ys (inr k) = inr (among_front pin xs ys k)

among_last : (pin : ℕ) (xs : List ℕ) → IsAmong pin (xs ++ pin ∷ [])
among_last pin [] = inl refl
among_last pin (x ∷ xs) = inr (among_last pin xs)

is_there : (pin : ℕ) (ps : List ℕ) → is_among pin ps ≡ true → IsAmong pin ps
is_there pin [] e = absurd (let f : false ≡ true = e in cc)
is_there pin (p ∷ ps) e =
    let At : Bool → Type 0 = λ t. (cond t true (is_among pin ps)) ≡ true in
    elim (eqb_tells p pin) [ inl q ↦ inl q.1 | inr q ↦ inr (is_there pin ps (subst At q.0 e)) ]

kept_one : (t : Bool) (pin q : ℕ) (ps : List ℕ) → IsAmong pin ps → IsAmong pin (cond t (ps ++ q ∷ []) ps)
kept_one true pin q ps k = among_front pin ps (q ∷ []) k
kept_one false pin q ps k = k

kept_all : (b pin : ℕ) (axes : List AxisDef) (ps : List ℕ) → IsAmong pin ps → IsAmong pin (pins_of b axes ps)
kept_all b pin [] ps k = k
kept_all b pin (a ∷ axes) ps k = kept_all b pin axes (cond ((a.board == b) && not (is_among a.pin ps)) (ps ++ a.pin ∷ []) ps) (kept_one ((a.board == b) && not (is_among a.pin ps)) pin a.pin ps k)

added : (t : Bool) (pin : ℕ) (ps : List ℕ) → is_among pin ps ≡ t → IsAmong pin (cond (true && not t) (ps ++ pin ∷ []) ps)
added true pin ps e = is_there pin ps e
added false pin ps e = among_last pin ps

axis_among : (b n : ℕ) (none : AxisDef) (axes : List AxisDef) (ps : List ℕ) → n < length axes → (slice_index_or axes n none).board ≡ b → IsAmong (slice_index_or axes n none).pin (pins_of b axes ps)
axis_among b n none [] ps low on = absurd (omega (arith, low))
axis_among b zero none (a ∷ axes) ps low on =
    let next = λ (t : Bool). cond (t && not (is_among a.pin ps)) (ps ++ a.pin ∷ []) ps in
    let At : Bool → Type 0 = λ t. IsAmong a.pin (pins_of b axes (next t)) in
    subst At (sym (eq-eqb a.board b on)) (kept_all b a.pin axes (next true) (added (is_among a.pin ps) a.pin ps refl))
axis_among b (suc n) none (a ∷ axes) ps low on = axis_among b n none axes (cond ((a.board == b) && not (is_among a.pin ps)) (ps ++ a.pin ∷ []) ps) (omega (arith, low)) on

config_makes : (m : Machine) (b axis : ℕ) → axis < length m.axes → (axis_at m axis).board ≡ b → MakesEndstop (endstop_of m b (axis_at m axis)) (map setup_command (configuration m b))
unfolding configuration
config_makes m b axis low on =
    let e = endstop_of m b (axis_at m axis) in
    let j = trigger_of m b in
    let steppers = flat_map (setup_stepper b) m.steppers in
    let ends = setup_endstops (j + 1) (endstop_pins m b) in
    let tail = Trsync j ∷ (ends ++ Finish ∷ []) in
    let made = made_at (j + 1) (axis_at m axis).pin (endstop_pins m b) (axis_among b axis _ m.axes [] low on) in
    let in_tail : MakesEndstop e (map setup_command (ends ++ Finish ∷ [])) =
    subst (λ (l : List Cmd). MakesEndstop e l) (sym (map-append setup_command ends (Finish ∷ []))) (makes_front e (map setup_command ends) (map setup_command (Finish ∷ [])) made) in
    subst (λ (l : List Cmd). MakesEndstop e l) (sym (map-append setup_command steppers tail)) (makes_behind e (map setup_command steppers) (map setup_command tail) in_tail)

filter_makes : (e : ℕ) (cs : List Cmd) → MakesEndstop e (filter configures cs) → MakesEndstop e cs
filter_makes e [] k = absurd k
filter_makes e (cmd.AllocateOids count ∷ cs) k = filter_makes e cs k
filter_makes e (cmd.ConfigStepper oid step dir invert width ∷ cs) k = filter_makes e cs k
filter_makes e (cmd.ConfigTrsync oid ∷ cs) k = filter_makes e cs k
filter_makes e (cmd.ConfigEndstop oid pin pull ∷ cs) (inl k) = inl k
filter_makes e (cmd.ConfigEndstop oid pin pull ∷ cs) (inr k) = inr (filter_makes e cs k)
filter_makes e (cmd.FinalizeConfig crc ∷ cs) k = filter_makes e cs k
filter_makes e (c ∷ cs) k = filter_makes e cs k

pub makes_either : (e : ℕ) (xs ys : List Cmd) → MakesEndstop e (xs ++ ys) → MakesEndstop e xs ⊎ MakesEndstop e ys
makes_either e [] ys k = inr k
makes_either e (cmd.ConfigEndstop oid pin pull ∷ xs) ys (inl k) = inl (inl k)
makes_either e (cmd.ConfigEndstop oid pin pull ∷ xs) ys (inr k) = elim (makes_either e xs ys k) [ inl a ↦ inl (inr a) | inr a ↦ inr a ]
makes_either e (x ∷ xs) ys k = makes_either e xs ys k

queue_makes : (e : ℕ) (turns : List BoardTurn) → MakesEndstop e (commands_in turns) → MakesEndstop e (commands_of (queued_in_turns turns))
queue_makes e [] k = absurd k
queue_makes e (t ∷ before) k =
    let new = commands_of (queued_in (orders t.control t.batch)) in
    subst (λ (l : List Cmd). MakesEndstop e l) (sym (staging.commands_both (queued_in_turns before) (queued_in (orders t.control t.batch)))) (elim (makes_either e (commands_in before) t.control.commands k) [
      | inl old ↦ makes_front e (commands_of (queued_in_turns before)) new (queue_makes e before old)
      | inr now ↦ makes_behind e (commands_of (queued_in_turns before)) new
          (subst (λ (l : List Cmd). MakesEndstop e l) (sym (turn_commands t)) (makes_front e t.control.commands (commands_of (units_orders t.batch.units)) now))
    ])

-- so once connecting has ended it was ordered
pub run_makes : (m : Machine) (switches : List Switch) (pins : List (List Level)) (entries : List Entry) (b axis : ℕ) (came : List Came) (turns : List BoardTurn) → IsValidMachine m → IsInRun m switches pins entries b came turns
    → ((known_by m switches came).phase ≡ Connecting → ⊥) → axis < length m.axes → (axis_at m axis).board ≡ b → MakesEndstop (endstop_of m b (axis_at m axis)) (commands_of (queued_in_turns turns))
run_makes m switches pins entries b axis came turns v r n low on =
    let e = endstop_of m b (axis_at m axis) in
    queue_makes e turns (filter_makes e (commands_in turns) (subst (λ (l : List Cmd). MakesEndstop e l) (sym (all_configured m switches pins entries b came turns v r n)) (config_makes m b axis low on)))

pub endstop_small : (m : Machine) (b : ℕ) (axis : AxisDef) → IsValidMachine m → endstop_of m b axis < 256
endstop_small m b axis v = search (rules, on-few, pins-few, place-few, trigger_of)
