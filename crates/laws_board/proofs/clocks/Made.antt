-- How often a board's steppers are made.
use Rattle.std.proofs.Common.{◌≡◌, ℕ, zero, suc, ◌+◌, ◌<◌, ◌≤◌, inl, inr, Bool, true, false, cond, List, [], ◌∷◌, ◌++◌, map, take, drop, length, refl, ap, sym, ◌∙◌, subst, arith}
use Rattle.std.specs.Prelude.{count_by, ◌==◌}
use Rattle.laws_board.proofs.Names.{flat_map, eq-eqb, eqb_tells, leb_tells, map-append, take-append-drop, Level, Machine, IsValidMachine, stepper_at, Cmd, Entry, Switch, configuration, trigger_of, Connecting, Came, known_by}
use Rattle.std.specs.List.{filter}
use Rattle.std.proofs.Math.Seq.{take-length}
use Rattle.std.proofs.lemmas.List.{take_more}
use Rattle.std.proofs.lemmas.List.Recursion.{is_count_by}
use Rattle.std.proofs.lemmas.List.Sums.{count_by_more_no, count_by_more_yes, sum_by-append}
use Rattle.plan_types.specs.declared.machine.StepperDef.{StepperDef}
use Rattle.plan_types.specs.Machines.{no_stepper}
use Rattle.msg_code.specs.declared.cmd.Cmd.TheVariants as cmd
use Rattle.board_asking.specs.declared.setup.Setup.TheVariants.{Stepper, Trsync, Finish}
use Rattle.board_asking.specs.Machine.{endstop_pins, setup_command, setup_endstops, setup_stepper, steppers_on}
use Rattle.laws_board.specs.turns.Turns.{BoardTurn}
use Rattle.laws_board.specs.clocks.Ordered.{commands_in, configures, times_made}
use Rattle.laws_board.specs.clocks.Runs.{IsInRun}
use Rattle.laws_board.proofs.clocks.Configured.{all_configured, configured_before, some_configured}

pub times_both : (oid : ℕ) (xs ys : List Cmd) → times_made oid (xs ++ ys) ≡ times_made oid xs + times_made oid ys
times_both oid [] ys = omega arith
times_both oid (x ∷ xs) ys = let i = times_both oid xs ys in omega arith

times_filtered : (oid : ℕ) (cs : List Cmd) → times_made oid (filter configures cs) ≡ times_made oid cs
times_filtered oid [] = refl
times_filtered oid (cmd.ConfigStepper other step dir invert width ∷ cs) = ap (λ (n : ℕ). cond (other == oid) 1 0 + n) (times_filtered oid cs)
times_filtered oid (c ∷ cs) = let i = times_filtered oid cs in omega arith

-- of some steppers those of a board with an object id
abbrev named : ℕ → ℕ → List StepperDef → ℕ
named b oid [] = 0
named b oid (s ∷ ss) = cond (s.board == b) (cond (s.oid == oid) 1 0) 0 + named b oid ss

times_stepper : (b oid : ℕ) (s : StepperDef) → times_made oid (map setup_command (setup_stepper b s)) ≡ cond (s.board == b) (cond (s.oid == oid) 1 0) 0
times_stepper b oid s = one (s.board == b)
  where
    one : (t : Bool) → times_made oid (map setup_command (cond t (Stepper s.oid s.step_pin s.dir_pin ∷ []) [])) ≡ cond t (cond (s.oid == oid) 1 0) 0
    one true = omega arith
    one false = refl

times_steppers : (b oid : ℕ) (ss : List StepperDef) → times_made oid (map setup_command (flat_map (setup_stepper b) ss)) ≡ named b oid ss
times_steppers b oid [] = refl
times_steppers b oid (s ∷ ss) =
    let rest = times_steppers b oid ss in
    let first = times_stepper b oid s in
    let split = ap (times_made oid) (map-append setup_command (setup_stepper b s) (flat_map (setup_stepper b) ss)) in
    let both = times_both oid (map setup_command (setup_stepper b s)) (map setup_command (flat_map (setup_stepper b) ss)) in
    omega arith

times_endstops : (oid from : ℕ) (pins : List ℕ) → times_made oid (map setup_command (setup_endstops from pins)) ≡ 0
times_endstops oid from [] = refl
times_endstops oid from (p ∷ pins) = let i = times_endstops oid (from + 1) pins in omega arith

times_configured : (m : Machine) (b oid : ℕ) → times_made oid (map setup_command (configuration m b)) ≡ named b oid m.steppers
unfolding configuration
times_configured m b oid =
    let steppers = flat_map (setup_stepper b) m.steppers in
    let endstops = setup_endstops (trigger_of m b + 1) (endstop_pins m b) in
    let tail = Trsync (trigger_of m b) ∷ (endstops ++ Finish ∷ []) in
    let first = ap (times_made oid) (map-append setup_command steppers tail) in
    let both = times_both oid (map setup_command steppers) (map setup_command tail) in
    let second = ap (times_made oid) (map-append setup_command endstops (Finish ∷ [])) in
    let ends = times_both oid (map setup_command endstops) (map setup_command (Finish ∷ [])) in
    let none = times_endstops oid (trigger_of m b + 1) (endstop_pins m b) in
    let all = times_steppers b oid m.steppers in
    omega arith

-- the object ids of a board's steppers count up
named_both : (b oid : ℕ) (xs ys : List StepperDef) → named b oid (xs ++ ys) ≡ named b oid xs + named b oid ys
named_both b oid [] ys = omega arith
named_both b oid (x ∷ xs) ys = let i = named_both b oid xs ys in omega arith

abbrev on : ℕ → List StepperDef → ℕ
on b ss = count_by (λ (t : StepperDef). t.board == b) ss

abbrev Counts : ℕ → ℕ → List StepperDef → Type 0
Counts b oid ss = (oid < on b ss → named b oid ss ≡ 1) × (on b ss ≤ oid → named b oid ss ≡ 0)

next_named : (m : Machine) (b oid j : ℕ) → j < length m.steppers → named b oid (take (j + 1) m.steppers) ≡ named b oid (take j m.steppers) + named b oid (stepper_at m j ∷ [])
next_named m b oid j l = ap (named b oid) (take_more m.steppers j no_stepper l) ∙ named_both b oid (take j m.steppers) (stepper_at m j ∷ [])

counts_next : (m : Machine) (b oid j : ℕ) → IsValidMachine m → j < length m.steppers → Counts b oid (take j m.steppers) → Counts b oid (take (j + 1) m.steppers)
counts_next m b oid j v l c =
    let s = stepper_at m j in
    let named_is = next_named m b oid j l in
    let old = c.0 in
    let new = c.1 in
    elim (eqb_tells s.board b) [
      | inl p ↦
          let same : s.board ≡ b = p.1 in
          let more = count_by_more_yes (λ (t : StepperDef). t.board == b) m.steppers j no_stepper l p.0 in
          let id : s.oid ≡ on b (take j m.steppers) = (v.steppers j l).oid ∙ ap (λ (x : ℕ). on x (take j m.steppers)) same in
          elim (eqb_tells s.oid oid) [
            | inl q ↦ let here : named b oid (s ∷ []) ≡ 1 = rw p.0 (rw q.0 refl) in let e = q.1 in (λ k. let z = new (omega arith) in omega arith, λ k. absurd (omega arith))
            | inr q ↦ let here : named b oid (s ∷ []) ≡ 0 = rw p.0 (rw q.0 refl) in let e = q.1 in (λ k. let z = old (omega arith) in omega arith, λ k. let z = new (omega arith) in omega arith)
          ]
      | inr p ↦
          let more = count_by_more_no (λ (t : StepperDef). t.board == b) m.steppers j no_stepper l p.0 in
          let here : named b oid (s ∷ []) ≡ 0 = rw p.0 refl in
          (λ k. let z = old (omega arith) in omega arith, λ k. let z = new (omega arith) in omega arith)
    ]

counts_all : (m : Machine) (b oid : ℕ) (j : ℕ) → IsValidMachine m → j ≤ length m.steppers → Counts b oid (take j m.steppers)
counts_all m b oid zero v l = (λ k. absurd (omega arith), λ k. refl)
counts_all m b oid (suc j) v l =
    let e : j + 1 ≡ suc j = omega arith in
    subst (λ (i : ℕ). Counts b oid (take i m.steppers)) e (counts_next m b oid j v (omega arith) (counts_all m b oid j v (omega arith)))

counts : (m : Machine) (b oid : ℕ) → IsValidMachine m → Counts b oid m.steppers
counts m b oid v = subst (λ (ss : List StepperDef). Counts b oid ss) (take-length m.steppers) (counts_all m b oid (length m.steppers) v (omega arith))

named_few : (m : Machine) (b oid : ℕ) → IsValidMachine m → named b oid m.steppers ≤ 1
named_few m b oid v =
    let c = counts m b oid v in
    elim (leb_tells (suc oid) (on b m.steppers)) [ inl p ↦ let z = c.0 p.1 in omega arith | inr p ↦ let q = p.1 in let z = c.1 (omega arith) in omega arith ]

-- a stepper's own object id is among them
on_grows : (b : ℕ) (xs ys : List StepperDef) → on b xs ≤ on b (xs ++ ys)
on_grows b xs ys = omega (arith, sum_by-append (λ (t : StepperDef). cond (t.board == b) 1 0) xs ys)

named_one : (m : Machine) (b s : ℕ) → IsValidMachine m → s < length m.steppers → (stepper_at m s).board ≡ b → named b (stepper_at m s).oid m.steppers ≡ 1
named_one m b s v l e =
    let d = stepper_at m s in
    let id : d.oid ≡ on b (take s m.steppers) = (v.steppers s l).oid ∙ ap (λ (x : ℕ). on x (take s m.steppers)) e in
    let more = count_by_more_yes (λ (t : StepperDef). t.board == b) m.steppers s no_stepper l (eq-eqb d.board b e) in
    let grows = on_grows b (take (s + 1) m.steppers) (drop (s + 1) m.steppers) in
    let whole = ap (on b) (take-append-drop (s + 1) m.steppers) in
    (counts m b d.oid v).0 (omega arith)

-- the laws
times_front : (oid : ℕ) (xs rest all : List Cmd) → xs ++ rest ≡ all → times_made oid xs ≤ times_made oid all
times_front oid xs rest all e = omega (arith, times_both oid xs rest, ap (times_made oid) e)

pub made_few : (m : Machine) (switches : List Switch) (pins : List (List Level)) (entries : List Entry) (b : ℕ) (came : List Came) (turns : List BoardTurn) → IsValidMachine m
    → IsInRun m switches pins entries b came turns → (oid : ℕ) → times_made oid (commands_in turns) ≤ 1
made_few m switches pins entries b came turns v r oid =
    let f = some_configured m switches pins entries b came turns v r in
    let front = times_front oid (filter configures (commands_in turns)) f.0 (map setup_command (configuration m b)) f.1 in
    omega (arith, times_filtered oid (commands_in turns), times_configured m b oid, named_few m b oid v)

on_is : (b : ℕ) (ss : List StepperDef) → steppers_on b ss ≡ on b ss
on_is b ss = is_count_by (steppers_on b) (λ (t : StepperDef). t.board == b) refl (λ x xs. one (x.board == b) (steppers_on b xs)) ss
  where
    one : (t : Bool) (n : ℕ) → cond t 1 0 + n ≡ cond t (1 + n) n
    one true n = refl
    one false n = omega arith

pub made_none : (m : Machine) (switches : List Switch) (pins : List (List Level)) (entries : List Entry) (b : ℕ) (came : List Came) (turns : List BoardTurn) → IsValidMachine m
    → IsInRun m switches pins entries b came turns → (oid : ℕ) → trigger_of m b ≤ oid → times_made oid (commands_in turns) ≡ 0
made_none m switches pins entries b came turns v r oid l =
    let f = some_configured m switches pins entries b came turns v r in
    let front = times_front oid (filter configures (commands_in turns)) f.0 (map setup_command (configuration m b)) f.1 in
    let none = (counts m b oid v).1 (omega (arith, on_is b m.steppers)) in
    omega (arith, times_filtered oid (commands_in turns), times_configured m b oid)

made_one : (m : Machine) (b s : ℕ) (cs : List Cmd) → IsValidMachine m → s < length m.steppers → (stepper_at m s).board ≡ b → filter configures cs ≡ map setup_command (configuration m b)
    → times_made (stepper_at m s).oid cs ≡ 1
made_one m b s cs v l e w =
    let oid = (stepper_at m s).oid in
    sym (times_filtered oid cs) ∙ ap (times_made oid) w ∙ times_configured m b oid ∙ named_one m b s v l e

pub made_once : (m : Machine) (switches : List Switch) (pins : List (List Level)) (entries : List Entry) (b : ℕ) (came : List Came) (turns : List BoardTurn) → IsValidMachine m
    → IsInRun m switches pins entries b came turns → ((known_by m switches came).phase ≡ Connecting → ⊥) → (s : ℕ) → s < length m.steppers → (stepper_at m s).board ≡ b
    → times_made (stepper_at m s).oid (commands_in turns) ≡ 1
made_once m switches pins entries b came turns v r n s l e = made_one m b s (commands_in turns) v l e (all_configured m switches pins entries b came turns v r n)

pub made_before : (m : Machine) (switches : List Switch) (pins : List (List Level)) (entries : List Entry) (b : ℕ) (c : Came) (before : List Came) (t : BoardTurn) (turns : List BoardTurn) → IsValidMachine m
    → IsInRun m switches pins entries b (c ∷ before) (t ∷ turns) → (known_by m switches before).phase ≡ Connecting → ((known_by m switches (c ∷ before)).phase ≡ Connecting → ⊥)
    → (s : ℕ) → s < length m.steppers → (stepper_at m s).board ≡ b → times_made (stepper_at m s).oid (commands_in turns) ≡ 1
made_before m switches pins entries b c before t turns v r p n s l e =
    made_one m b s (commands_in turns) v l e (configured_before m switches pins entries b c before t turns v r p n)
