-- The pulses of a stepper are a prefix of the ticks of its units taken.
use Rattle.std.proofs.Common.{◌≡◌, ℕ, Bool, true, false, ◌⊎◌, List, [], ◌∷◌, ◌++◌, map, Option, Some, None, refl, ap, sym, ◌∙◌, subst, inl, inr, append_assoc, append-nil}
use Rattle.std.proofs.lemmas.Bool.Decides.{eqb_tells}
use Rattle.std.proofs.lemmas.List.{map-append}
use Rattle.std.specs.Prelude.{◌==◌, if◌then◌else◌}
use Rattle.plan_types.specs.Plan.{pulse_of}
use Rattle.plan_types.specs.declared.machine.BoardDef.{BoardDef}
use Rattle.plan_types.specs.declared.plan.BoardState.{BoardState}
use Rattle.plan_types.specs.declared.plan.BoardState.TheVariants.{Running, Shut}
use Rattle.plan_types.specs.declared.plan.Pulse.{Pulse}
use Rattle.plan_types.specs.declared.plan.Triple.{Triple}
use Rattle.plan_types.specs.Board.{steps_of}
use Rattle.board_step.specs.Steps.{Pending, ticks_at}
use Rattle.msg_code.specs.declared.cmd.Cmd.{Cmd}
use Rattle.msg_code.specs.declared.cmd.Cmd.TheVariants as cmd
use Rattle.board_sim.specs.Board.{Controller, Done, new_controller, stepper_at, quiet, first_of, refusal, takes_triple, queue_step, acts, acts_running, is_shut, takes}
use Rattle.board_sim.specs.Fair.{Meant, commands_of, steps_taken, meant_on, meant_by, meant_running, only}
use Rattle.plan_types.specs.declared.levels.Level.{Level}
use Rattle.board_sim.specs.Rig.{Rig, takes_all, takes as rig_takes}
use Rattle.board_sim.specs.Halted.{is_halted, meant_left, left_running, meant_next, meant_behind}
use Rattle.board_sim.proofs.RigShut.{all_left_by}
use Rattle.board_sim.proofs.RigStates.{takes_state, passes_state}
use Rattle.board_sim.proofs.Steps.{only-append, only_same, only_other}
use Rattle.board_world.specs.declared.event.Event.{Event}
use Rattle.board_world.specs.declared.event.Event.TheVariants.{Put, Control, Send, Resend, Arrive, Lose, Garble, Repeat, Reply, LoseReply, Pass}
use Rattle.board_world.specs.World.{Core, Step, Do, Turn, obeys, takes_in, after_event, in_turn, run_world, new_world, AllFair}
use Rattle.board_world.specs.Units.{ticks_for, ticks_of, pulse_ticks, IsMade, FindsStepper, FindsWhile, FindSteppers, AllFind}
use Rattle.board_world.proofs.Runs.{pulses_cut}
use Rattle.plan_types.proofs.Facts.{false_true}

pub ticks_append : (oid : ℕ) (ms ns : List Meant) → ticks_of oid (ms ++ ns) ≡ ticks_of oid ms ++ ticks_of oid ns
ticks_append oid [] ns = refl
ticks_append oid (m ∷ ms) ns = ap (λ x. ticks_for oid m.command m.ticks ++ x) (ticks_append oid ms ns) ∙ sym (append_assoc (ticks_for oid m.command m.ticks) (ticks_of oid ms) (ticks_of oid ns))

pub pulses_append : (oid : ℕ) (ps qs : List Pulse) → pulse_ticks oid (ps ++ qs) ≡ pulse_ticks oid ps ++ pulse_ticks oid qs
pulses_append oid ps qs = ap (map (λ (p : Pulse). p.tick)) (only-append oid ps qs) ∙ map-append (λ (p : Pulse). p.tick) (only oid ps) (only oid qs)

own_ticks : (oid : ℕ) (up : Bool) (ts : List ℕ) → map (λ (p : Pulse). p.tick) (map (pulse_of oid) (steps_of up ts)) ≡ ts
own_ticks oid up [] = refl
own_ticks oid up (t ∷ ts) = ap (λ x. t ∷ x) (own_ticks oid up ts)

pub taken_ticks : (oid other : ℕ) (up : Bool) (ts : List ℕ) → pulse_ticks oid (map (pulse_of other) (steps_of up ts)) ≡ (if other == oid then ts else [])
taken_ticks oid other up ts =
    elim (eqb_tells other oid) [
      | inl p ↦ rw p.0 (ap (λ o. pulse_ticks oid (map (pulse_of o) (steps_of up ts))) p.1 ∙ ap (map (λ (p : Pulse). p.tick)) (only_same oid (steps_of up ts)) ∙ own_ticks oid up ts)
      | inr p ↦ rw p.0 (ap (map (λ (p : Pulse). p.tick)) (only_other oid other (steps_of up ts) p.1))
    ]

-- while a board runs the ticks are all there; once it is shut down some may be left out
abbrev IsSofar : BoardState → List ℕ → List ℕ → Type 0
IsSofar Running made all = made ≡ all
IsSofar (Shut reason tick first) made all = (rest : List ℕ) × (made ++ rest ≡ all)

-- what a command adds: the same to both, or nothing to the first, and a shutdown
abbrev Adds : BoardState → List ℕ → List ℕ → Type 0
Adds o made all = (made ≡ all) ⊎ ((made ≡ []) × (is_shut o ≡ true))

-- a triple
triple_adds : (o : Option (ℕ × ℕ)) (b : Controller) (oid other : ℕ) (q : Pending) (own ticks : List ℕ) → Adds (takes_triple o b other q own).board.state (pulse_ticks oid (steps_taken o other q.up ticks)) (if other == oid then ticks else [])
triple_adds None b oid other q own ticks = inl (taken_ticks oid other q.up ticks)
triple_adds (Some r) b oid other q own ticks = inr (refl, refl)

not_halted : (h : Bool) (b : Controller) (d : Done) (oid : ℕ) (ps : List Pulse) (all : List ℕ) → h ≡ false → Adds d.board.state (pulse_ticks oid ps) all
    → Adds (if h then quiet b else d).board.state (pulse_ticks oid (if h then [] else ps)) all
not_halted false b d oid ps all e k = k
not_halted true b d oid ps all e k = absurd (false_true (sym e))

step_adds : (o : Option Pending) (b : Controller) (oid other : ℕ) (t : Triple) (ticks : List ℕ) → IsMade o
    → Adds (queue_step b other o t).board.state (pulse_ticks oid (meant_on b.tick other o t ticks)) (if other == oid then ticks else [])
step_adds None b oid other t ticks made = absurd made
step_adds (Some q) b oid other t ticks made =
    let own = ticks_at (first_of b.tick q t) t in
    not_halted q.halted b (takes_triple (refusal b.tick q t) b other q own) oid (steps_taken (refusal b.tick q t) other q.up ticks) (if other == oid then ticks else []) made
    (triple_adds (refusal b.tick q t) b oid other q own ticks)

acts_adds : (b : Controller) (c : Cmd) (oid : ℕ) (ticks : List ℕ) → FindsStepper b c → Adds (acts b c).board.state (pulse_ticks oid (meant_by b c ticks)) (ticks_for oid c ticks)
acts_adds b (cmd.QueueStep other interval count add) oid ticks made = step_adds (stepper_at b other) b oid other (record { interval = interval; count = count; add = add }) ticks made
acts_adds b (cmd.IdentifyResponse offset bytes) oid ticks made = inl refl
acts_adds b (cmd.Identify offset count) oid ticks made = inl refl
acts_adds b (cmd.AllocateOids count) oid ticks made = inl refl
acts_adds b cmd.GetConfig oid ticks made = inl refl
acts_adds b (cmd.FinalizeConfig crc) oid ticks made = inl refl
acts_adds b cmd.GetUptime oid ticks made = inl refl
acts_adds b cmd.EmergencyStop oid ticks made = inl refl
acts_adds b (cmd.ConfigStepper other step dir invert width) oid ticks made = inl refl
acts_adds b (cmd.SetNextStepDir other dir) oid ticks made = inl refl
acts_adds b (cmd.ResetStepClock other clock) oid ticks made = inl refl
acts_adds b (cmd.ConfigTrsync other) oid ticks made = inl refl
acts_adds b (cmd.TrsyncStart other clock every reason) oid ticks made = inl refl
acts_adds b (cmd.TrsyncSetTimeout other clock) oid ticks made = inl refl
acts_adds b (cmd.TrsyncTrigger other reason) oid ticks made = inl refl
acts_adds b (cmd.StepperStopOnTrigger other trigger) oid ticks made = inl refl
acts_adds b (cmd.ConfigEndstop other pin pull) oid ticks made = inl refl
acts_adds b (cmd.EndstopHome other clock every count rest value trigger reason) oid ticks made = inl refl
acts_adds b (cmd.Config is crc shut count) oid ticks made = inl refl
acts_adds b (cmd.Uptime high clock) oid ticks made = inl refl
acts_adds b (cmd.TrsyncState other can reason clock) oid ticks made = inl refl
acts_adds b (cmd.Shutdown clock reason) oid ticks made = inl refl
acts_adds b (cmd.IsShutdown reason) oid ticks made = inl refl

-- only a triple adds anything
running_adds : (b : Controller) (c : Cmd) (oid : ℕ) (ticks : List ℕ) → b.state ≡ Running → FindsStepper b c → Adds (acts_running b.state b c).board.state (pulse_ticks oid (meant_by b c ticks)) (ticks_for oid c ticks)
running_adds b c oid ticks running made =
    let At : BoardState → Type 0 = λ s. Adds (acts_running s b c).board.state (pulse_ticks oid (meant_by b c ticks)) (ticks_for oid c ticks) in
    subst At (sym running) (acts_adds b c oid ticks made)

takes_adds : (b : Controller) (c : Cmd) (oid : ℕ) (ticks : List ℕ) → b.state ≡ Running → FindsStepper b c → Adds (takes b c).board.state (pulse_ticks oid (meant_by b c ticks)) (ticks_for oid c ticks)
takes_adds b (cmd.Identify offset count) oid ticks running made = inl refl
takes_adds b cmd.GetConfig oid ticks running made = inl refl
takes_adds b cmd.GetUptime oid ticks running made = inl refl
takes_adds b (cmd.QueueStep other interval count add) oid ticks running made = running_adds b (cmd.QueueStep other interval count add) oid ticks running made
takes_adds b (cmd.IdentifyResponse offset bytes) oid ticks running made = inl refl
takes_adds b (cmd.AllocateOids count) oid ticks running made = inl refl
takes_adds b (cmd.FinalizeConfig crc) oid ticks running made = inl refl
takes_adds b cmd.EmergencyStop oid ticks running made = inl refl
takes_adds b (cmd.ConfigStepper other step dir invert width) oid ticks running made = inl refl
takes_adds b (cmd.SetNextStepDir other dir) oid ticks running made = inl refl
takes_adds b (cmd.ResetStepClock other clock) oid ticks running made = inl refl
takes_adds b (cmd.ConfigTrsync other) oid ticks running made = inl refl
takes_adds b (cmd.TrsyncStart other clock every reason) oid ticks running made = inl refl
takes_adds b (cmd.TrsyncSetTimeout other clock) oid ticks running made = inl refl
takes_adds b (cmd.TrsyncTrigger other reason) oid ticks running made = inl refl
takes_adds b (cmd.StepperStopOnTrigger other trigger) oid ticks running made = inl refl
takes_adds b (cmd.ConfigEndstop other pin pull) oid ticks running made = inl refl
takes_adds b (cmd.EndstopHome other clock every count rest value trigger reason) oid ticks running made = inl refl
takes_adds b (cmd.Config is crc shut count) oid ticks running made = inl refl
takes_adds b (cmd.Uptime high clock) oid ticks running made = inl refl
takes_adds b (cmd.TrsyncState other can reason clock) oid ticks running made = inl refl
takes_adds b (cmd.Shutdown clock reason) oid ticks running made = inl refl
takes_adds b (cmd.IsShutdown reason) oid ticks running made = inl refl

grows : (o : BoardState) (made all more rest : List ℕ) → made ≡ all → Adds o more rest → IsSofar o (made ++ more) (all ++ rest)
grows Running made all more rest e (inl p) = ap (λ x. x ++ more) e ∙ ap (λ x. all ++ x) p
grows Running made all more rest e (inr p) = absurd (false_true p.1)
grows (Shut reason tick first) made all more rest e (inl p) = ([], append-nil (made ++ more) ∙ ap (λ x. x ++ more) e ∙ ap (λ x. all ++ x) p)
grows (Shut reason tick first) made all more rest e (inr p) = (rest, ap (λ x. (made ++ x) ++ rest) p.0 ∙ ap (λ x. x ++ rest) (append-nil made ∙ e))

stays : (o : BoardState) (made all rest : List ℕ) → is_shut o ≡ true → (r : List ℕ) × (made ++ r ≡ all) → IsSofar o (made ++ []) (all ++ rest)
stays Running made all rest shut k = absurd (false_true shut)
stays (Shut reason tick first) made all rest shut k =
    (k.0 ++ rest, ap (λ x. x ++ (k.0 ++ rest)) (append-nil made) ∙ sym (append_assoc made k.0 rest) ∙ ap (λ x. x ++ rest) k.1)

-- nothing is left out
no_left : (b : Controller) (made meant : List Pulse) (c : Cmd) → FindsStepper b c → meant_left b made meant c ≡ meant
no_left b made meant (cmd.ResetStepClock oid clock) e = rw e refl
no_left b made meant _ e = refl

pub left_none : (o : BoardState) (b : Controller) (made meant : List Pulse) (c : Cmd) → FindsWhile o b c → left_running o b made meant c ≡ meant
left_none Running b made meant c finds = no_left b made meant c finds
left_none (Shut reason tick first) b made meant c finds = refl

one_sofar : (o : BoardState) (r : Rig) (m : Meant) (oid : ℕ) (made all : List ℕ) → r.controller.state ≡ o → FindsWhile o r.controller m.command → IsSofar o made all
    → IsSofar (rig_takes r m.command).rig.controller.state (made ++ pulse_ticks oid (meant_running o r.controller m.command m.ticks)) (all ++ ticks_for oid m.command m.ticks)
one_sofar Running r m oid made all running finds k =
    let b = r.controller in
    subst (λ (s : BoardState). IsSofar s (made ++ pulse_ticks oid (meant_by b m.command m.ticks)) (all ++ ticks_for oid m.command m.ticks)) (sym (takes_state r m.command))
    (grows (takes b m.command).board.state made all (pulse_ticks oid (meant_by b m.command m.ticks)) (ticks_for oid m.command m.ticks) k (takes_adds b m.command oid m.ticks running finds))
one_sofar (Shut reason tick first) r m oid made all shut finds k =
    let still : (rig_takes r m.command).rig.controller ≡ r.controller = all_left_by r (m.command ∷ []) (ap is_shut shut) in
    stays (rig_takes r m.command).rig.controller.state made all (ticks_for oid m.command m.ticks) (ap (λ (x : Controller). is_shut x.state) still ∙ ap is_shut shut) k

-- the ticks of what is meant, and those that were taken
abbrev Sofar : ℕ → Rig → List Pulse → List ℕ → Type 0
Sofar oid r meant all = IsSofar r.controller.state (pulse_ticks oid meant) all

next_sofar : (r : Rig) (m : Meant) (oid : ℕ) (made meant : List Pulse) (all : List ℕ) → FindsWhile r.controller.state r.controller m.command → Sofar oid r meant all
    → Sofar oid (rig_takes r m.command).rig (meant_next r.controller made meant m) (all ++ ticks_for oid m.command m.ticks)
next_sofar r m oid made meant all finds k =
    let b = r.controller in
    let more = meant_running b.state b m.command m.ticks in
    let one = one_sofar b.state r m oid (pulse_ticks oid meant) all refl finds k in
    let same : pulse_ticks oid meant ++ pulse_ticks oid more ≡ pulse_ticks oid (meant_next b made meant m) =
    sym (pulses_append oid meant more) ∙ ap (λ (ps : List Pulse). pulse_ticks oid (ps ++ more)) (sym (left_none b.state b made meant m.command finds)) in
    subst (λ (ts : List ℕ). IsSofar (rig_takes r m.command).rig.controller.state ts (all ++ ticks_for oid m.command m.ticks)) same one

all_sofar : (r : Rig) (ms : List Meant) (oid : ℕ) (made meant : List Pulse) (all : List ℕ) → FindSteppers r ms → Sofar oid r meant all
    → Sofar oid (takes_all r (commands_of ms)).rig (meant_behind r made meant ms) (all ++ ticks_of oid ms)
all_sofar r [] oid made meant all finds k = rw (append-nil all) k
all_sofar r (m ∷ ms) oid made meant all finds k =
    let next = (rig_takes r m.command).rig in
    let ticks = ticks_for oid m.command m.ticks in
    let after = meant_next r.controller made meant m in
    let rest = all_sofar next ms oid made after (all ++ ticks) finds.1 (next_sofar r m oid made meant all finds.0 k) in
    subst (λ (ts : List ℕ). Sofar oid (takes_all next (commands_of ms)).rig (meant_behind next made after ms) ts) (append_assoc all ticks (ticks_of oid ms)) rest

-- an event
abbrev SofarIn : ℕ → Core → Type 0
SofarIn oid h = Sofar oid h.board h.meant (ticks_of oid h.taken)

obeyed_sofar : (h : Core) (ms : List Meant) (oid : ℕ) → FindSteppers h.board ms → SofarIn oid h → Sofar oid (obeys h.board ms).board (meant_behind h.board h.made h.meant ms) (ticks_of oid (h.taken ++ ms))
obeyed_sofar h ms oid finds k = rw (ticks_append oid h.taken ms) (all_sofar h.board ms oid h.made h.meant (ticks_of oid h.taken) finds k)

event_sofar : (h : Core) (e : Event) (oid : ℕ) → FindSteppers h.board (takes_in h e) → SofarIn oid h → SofarIn oid (after_event h e)
event_sofar h (Pass t) oid finds k = rw (append-nil h.taken, passes_state h.board t) k
event_sofar h (Put b) oid finds k = obeyed_sofar h [] oid finds k
event_sofar h (Control c) oid finds k = obeyed_sofar h [] oid finds k
event_sofar h Send oid finds k = obeyed_sofar h [] oid finds k
event_sofar h Resend oid finds k = obeyed_sofar h [] oid finds k
event_sofar h Arrive oid finds k = obeyed_sofar h (takes_in h Arrive) oid finds k
event_sofar h Lose oid finds k = obeyed_sofar h [] oid finds k
event_sofar h Garble oid finds k = obeyed_sofar h [] oid finds k
event_sofar h Repeat oid finds k = obeyed_sofar h (takes_in h Repeat) oid finds k
event_sofar h Reply oid finds k = obeyed_sofar h [] oid finds k
event_sofar h LoseReply oid finds k = obeyed_sofar h [] oid finds k

run_sofar : (steps : List Step) (h : Core) (oid : ℕ) → AllFind h steps → SofarIn oid h → SofarIn oid (run_world steps h)
run_sofar [] h oid finds k = k
run_sofar (Do e ∷ steps) h oid finds k = run_sofar steps (after_event h e) oid finds.1 (event_sofar h e oid finds.0 k)
run_sofar (Turn turn ∷ steps) h oid finds k = run_sofar steps (in_turn h turn) oid finds.1 k

some_of : (o : BoardState) (made all : List ℕ) → IsSofar o made all → (rest : List ℕ) × (made ++ rest ≡ all)
some_of Running made all e = ([], append-nil made ∙ e)
some_of (Shut reason tick first) made all k = k

starts : (b : BoardDef) (pins : List (List Level)) (oid : ℕ) → SofarIn oid (new_world b pins)
unfolding new_controller
starts b pins oid = refl

pub ticks_taken : (b : BoardDef) (pins : List (List Level)) (steps : List Step) → AllFair (new_world b pins) steps → AllFind (new_world b pins) steps
    → (oid : ℕ) → (rest : List ℕ) × (pulse_ticks oid (run_world steps (new_world b pins)).made ++ rest ≡ ticks_of oid (run_world steps (new_world b pins)).taken)
ticks_taken b pins steps fair finds oid =
    let h = run_world steps (new_world b pins) in
    let cut = pulses_cut b pins steps fair oid in
    let more = some_of h.board.controller.state (pulse_ticks oid h.meant) (ticks_of oid h.taken) (run_sofar steps (new_world b pins) oid finds (starts b pins oid)) in
    let behind : pulse_ticks oid h.made ++ map (λ (p : Pulse). p.tick) cut.0 ≡ pulse_ticks oid h.meant =
    sym (map-append (λ (p : Pulse). p.tick) (only oid h.made) cut.0) ∙ ap (map (λ (p : Pulse). p.tick)) cut.1 in
    (map (λ (p : Pulse). p.tick) cut.0 ++ more.0, sym (append_assoc (pulse_ticks oid h.made) (map (λ (p : Pulse). p.tick) cut.0) more.0) ∙ ap (λ x. x ++ more.0) behind ∙ more.1)
