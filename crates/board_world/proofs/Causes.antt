-- Why a board is shut down.
use Rattle.std.proofs.Common.{◌≡◌, ◌≢◌, ℕ, Bool, true, false, ◌<◌, ◌≤◌, ◌⊎◌, ◌&&◌, List, [], ◌∷◌, length, Option, Some, None, refl, ap, sym, ◌∙◌, arith, inl, inr, suc}
use Rattle.std.proofs.lemmas.Bool.Decides.{leb_tells, eqb_tells}
use Rattle.std.specs.Prelude.{nat_lt, nat_le, ◌==◌, if◌then◌else◌}
use Rattle.plan_types.specs.declared.plan.BoardState.{BoardState}
use Rattle.plan_types.specs.declared.plan.BoardState.TheVariants.{Running, Shut}
use Rattle.plan_types.specs.declared.plan.Triple.{Triple}
use Rattle.plan_types.specs.Board.{Group}
use Rattle.board_step.specs.Steps.{Pending, ticks_at}
use Rattle.msg_code.specs.declared.cmd.Cmd.{Cmd}
use Rattle.msg_code.specs.declared.cmd.Cmd.TheVariants as cmd
use Rattle.board_sim.specs.Board.{Controller, stepper_at, with_stepper, quiet, stop, is_none_pending, first_of, refusal, takes_triple, queue_step, set_dir, reset, make_stepper, acts, acts_running, is_shut, takes, timer_too_close, queue_overflow, stepper_active, zero_count, command_request}
use Rattle.board_sim.specs.Fair.{Meant, commands_of}
use Rattle.board_sim.specs.Rig.{Rig, takes_all, takes as rig_takes}
use Rattle.board_sim.proofs.RigShut.{all_left_by}
use Rattle.board_sim.proofs.RigStates.{takes_state, passes_state}
use Rattle.board_world.specs.declared.event.Event.{Event}
use Rattle.board_world.specs.declared.event.Event.TheVariants.{Put, Control, Send, Resend, Arrive, Lose, Garble, Repeat, Reply, LoseReply, Pass}
use Rattle.board_world.specs.World.{Core, Step, Do, Turn, takes_in, does, after_event, in_turn, run_world}
use Rattle.board_world.specs.Shut.{IsRefused, HasSteps, Shuts, ShutBy, WasShut}
use Rattle.board_world.proofs.Runs.{still}
use Rattle.plan_types.proofs.Facts.{was_le, false_true}
use Rattle.board_sim.proofs.Keeps.{no_nil}
use Rattle.board_sim.proofs.Shut.{some_same, none_some, below}

-- the parts of a shutdown
reason_of : BoardState → ℕ
reason_of Running = 0
reason_of (Shut reason tick first) = reason

tick_in : BoardState → ℕ
tick_in Running = 0
tick_in (Shut reason tick first) = tick

first_in : BoardState → ℕ
first_in Running = 0
first_in (Shut reason tick first) = first

pub runs_on : (reason tick first : ℕ) → Running ≡ Shut reason tick first → ⊥
runs_on reason tick first e = cc

pub still_runs : (b : Controller) (reason tick first : ℕ) → b.state ≡ Running → b.state ≡ Shut reason tick first → ⊥
still_runs b reason tick first e f = runs_on reason tick first (sym e ∙ f)

-- a stop with these parts
abbrev IsStop : ℕ → ℕ → ℕ → ℕ → ℕ → ℕ → Type 0
IsStop r now f reason tick first = (reason ≡ r) × (tick ≡ now) × (first ≡ f)

parts : (r now f reason tick first : ℕ) → Shut r now f ≡ Shut reason tick first → IsStop r now f reason tick first
unfolding reason_of tick_in first_in
parts r now f reason tick first e = (sym (ap reason_of e), sym (ap tick_in e), sym (ap first_in e))

no_groups : (gs : List Group) (c : Bool) → (is_none_pending gs && c) ≡ true → gs ≡ []
no_groups [] c e = refl
no_groups (g ∷ gs) c e = absurd (false_true e)

abbrev Reasons : Type 0 → Type 0 → Type 0 → ℕ → ℕ × ℕ → Type 0
Reasons P Q R first r = ((r.0 ≡ zero_count) × P) ⊎ (((r.0 ≡ queue_overflow) × Q) ⊎ ((r.0 ≡ timer_too_close) × (r.1 ≡ first) × R))

reasons : (P Q R : Type 0) (a b c : Bool) (first : ℕ) (r : ℕ × ℕ) → (a ≡ true → P) → (b ≡ true → Q) → (c ≡ true → R)
    → (if a then Some (zero_count, 0) else (if b then Some (queue_overflow, 0) else (if c then Some (timer_too_close, first) else None))) ≡ Some r → Reasons P Q R first r
reasons P Q R true b c first r p q s e = inl (sym (ap (λ x. x.0) (some_same (zero_count, 0) r e)), p refl)
reasons P Q R false true c first r p q s e = inr (inl (sym (ap (λ x. x.0) (some_same (queue_overflow, 0) r e)), q refl))
reasons P Q R false false true first r p q s e =
    let same = some_same (timer_too_close, first) r e in
    inr (inr (sym (ap (λ x. x.0) same), sym (ap (λ x. x.1) same), s refl))
reasons P Q R false false false first r p q s e = absurd (none_some r e)

is_zero : (n : ℕ) → (n == 0) ≡ true → n ≡ 0
is_zero n e = elim (eqb_tells n 0) [ inl p ↦ p.1 | inr p ↦ absurd (false_true (sym p.0 ∙ e)) ]

refused_why : (now : ℕ) (q : Pending) (t : Triple) (r : ℕ × ℕ) → refusal now q t ≡ Some r
    → Reasons (t.count ≡ 0) (q.slots ≤ length q.groups) ((q.groups ≡ []) × (first_of now q t < now)) (first_of now q t) r
refused_why now q t r e =
    reasons (t.count ≡ 0) (q.slots ≤ length q.groups) ((q.groups ≡ []) × (first_of now q t < now)) (t.count == 0) (nat_le q.slots (length q.groups))
    (is_none_pending q.groups && nat_lt (first_of now q t) now) (first_of now q t) r (is_zero t.count) (was_le q.slots (length q.groups))
    (λ on. (no_groups q.groups (nat_lt (first_of now q t) now) on, below (is_none_pending q.groups) (first_of now q t) now on)) e

-- of a stepper that isn't halted
abbrev IsWhy : ℕ → Pending → Triple → ℕ → ℕ → Type 0
IsWhy now q t reason first =
    ((reason ≡ zero_count) × (t.count ≡ 0)) ⊎ (((reason ≡ queue_overflow) × (q.slots ≤ length q.groups))
    ⊎ ((reason ≡ timer_too_close) × (q.groups ≡ []) × (first ≡ first_of now q t) × (first < now)))

why_of : (now : ℕ) (q : Pending) (t : Triple) (r : ℕ × ℕ) (reason first : ℕ) → reason ≡ r.0 → first ≡ r.1
    → Reasons (t.count ≡ 0) (q.slots ≤ length q.groups) ((q.groups ≡ []) × (first_of now q t < now)) (first_of now q t) r → IsWhy now q t reason first
why_of now q t r reason first e f h = elim h [
  | inl p ↦ inl (e ∙ p.0, p.1)
  | inr p ↦ elim p [
    | inl k ↦ inr (inl (e ∙ k.0, k.1))
    | inr k ↦ let same : first ≡ first_of now q t = f ∙ k.1 in inr (inr (e ∙ k.0, k.2.0, same, rw same k.2.1))
  ]
]

triple_cause : (o : Option (ℕ × ℕ)) (b : Controller) (oid : ℕ) (q : Pending) (t : Triple) (ticks : List ℕ) (reason tick first : ℕ) → refusal b.tick q t ≡ o → b.state ≡ Running
    → (takes_triple o b oid q ticks).board.state ≡ Shut reason tick first → (tick ≡ b.tick) × IsWhy b.tick q t reason first
triple_cause None b oid q t ticks reason tick first is running e = absurd (still_runs b reason tick first running e)
triple_cause (Some r) b oid q t ticks reason tick first is running e =
    let p = parts r.0 b.tick r.1 reason tick first e in
    (p.1, why_of b.tick q t r reason first p.0 p.2 (refused_why b.tick q t r is))

halted_cause : (h : Bool) (b : Controller) (oid : ℕ) (q : Pending) (t : Triple) (reason tick first : ℕ) → q.halted ≡ h → b.state ≡ Running
    → (if h then quiet b else takes_triple (refusal b.tick q t) b oid q (ticks_at (first_of b.tick q t) t)).board.state ≡ Shut reason tick first
    → (tick ≡ b.tick) × ((q.halted ≡ false) × IsWhy b.tick q t reason first)
halted_cause true b oid q t reason tick first is running e = absurd (still_runs b reason tick first running e)
halted_cause false b oid q t reason tick first is running e =
    let c = triple_cause (refusal b.tick q t) b oid q t (ticks_at (first_of b.tick q t) t) reason tick first refl running e in
    (c.0, (is, c.1))

step_cause : (b : Controller) (oid : ℕ) (o : Option Pending) (t : Triple) (reason tick first : ℕ) → b.state ≡ Running → (queue_step b oid o t).board.state ≡ Shut reason tick first
    → (tick ≡ b.tick) × IsRefused b.tick o t reason first
step_cause b oid None t reason tick first running e = absurd (still_runs b reason tick first running e)
step_cause b oid (Some q) t reason tick first running e = halted_cause q.halted b oid q t reason tick first refl running e

dir_cause : (b : Controller) (oid : ℕ) (o : Option Pending) (dir reason tick first : ℕ) → b.state ≡ Running → (set_dir b oid o dir).board.state ≡ Shut reason tick first → ⊥
dir_cause b oid None dir reason tick first running e = still_runs b reason tick first running e
dir_cause b oid (Some q) dir reason tick first running e = still_runs b reason tick first running e

make_cause : (b : Controller) (oid : ℕ) (o : Option Pending) (reason tick first : ℕ) → b.state ≡ Running → (make_stepper b oid o).board.state ≡ Shut reason tick first → ⊥
make_cause b oid None reason tick first running e = still_runs b reason tick first running e
make_cause b oid (Some q) reason tick first running e = still_runs b reason tick first running e

some_groups : (gs : List Group) → is_none_pending gs ≡ false → gs ≢ []
some_groups [] e = absurd (false_true (sym e))
some_groups (g ∷ gs) e = λ none. no_nil g gs none

reset_if : (h : Bool) (b : Controller) (oid : ℕ) (q : Pending) (clock reason tick first : ℕ) → is_none_pending q.groups ≡ h → b.state ≡ Running
    → (if h then quiet (with_stepper b oid (record q { last = clock; halted = false })) else stop b stepper_active 0).board.state ≡ Shut reason tick first
    → (tick ≡ b.tick) × ((reason ≡ stepper_active) × (q.groups ≢ []))
reset_if true b oid q clock reason tick first is running e = absurd (still_runs b reason tick first running e)
reset_if false b oid q clock reason tick first is running e =
    let p = parts stepper_active b.tick 0 reason tick first e in
    (p.1, (p.0, some_groups q.groups is))

reset_cause : (b : Controller) (oid : ℕ) (o : Option Pending) (clock reason tick first : ℕ) → b.state ≡ Running → (reset b oid o clock).board.state ≡ Shut reason tick first
    → (tick ≡ b.tick) × ((reason ≡ stepper_active) × HasSteps o)
reset_cause b oid None clock reason tick first running e = absurd (still_runs b reason tick first running e)
reset_cause b oid (Some q) clock reason tick first running e = reset_if (is_none_pending q.groups) b oid q clock reason tick first refl running e

abbrev Why : Controller → Cmd → ℕ → ℕ → ℕ → Type 0
Why b c reason tick first = (tick ≡ b.tick) × Shuts b c reason first

acts_cause : (b : Controller) (c : Cmd) (reason tick first : ℕ) → b.state ≡ Running → (acts b c).board.state ≡ Shut reason tick first → Why b c reason tick first
acts_cause b (cmd.AllocateOids count) r t f running e = absurd (still_runs b r t f running e)
acts_cause b (cmd.FinalizeConfig crc) r t f running e = absurd (still_runs b r t f running e)
acts_cause b cmd.EmergencyStop r t f running e = let p = parts command_request b.tick 0 r t f e in (p.1, p.0)
acts_cause b (cmd.ConfigStepper oid step dir invert width) r t f running e = absurd (make_cause b oid (stepper_at b oid) r t f running e)
acts_cause b (cmd.QueueStep oid interval count add) r t f running e = step_cause b oid (stepper_at b oid) (record { interval = interval; count = count; add = add }) r t f running e
acts_cause b (cmd.SetNextStepDir oid dir) r t f running e = absurd (dir_cause b oid (stepper_at b oid) dir r t f running e)
acts_cause b (cmd.ResetStepClock oid clock) r t f running e = reset_cause b oid (stepper_at b oid) clock r t f running e
acts_cause b (cmd.IdentifyResponse offset bytes) r t f running e = absurd (still_runs b r t f running e)
acts_cause b (cmd.Identify offset count) r t f running e = absurd (still_runs b r t f running e)
acts_cause b cmd.GetConfig r t f running e = absurd (still_runs b r t f running e)
acts_cause b cmd.GetUptime r t f running e = absurd (still_runs b r t f running e)
acts_cause b (cmd.ConfigTrsync oid) r t f running e = absurd (still_runs b r t f running e)
acts_cause b (cmd.TrsyncStart oid clock every reason) r t f running e = absurd (still_runs b r t f running e)
acts_cause b (cmd.TrsyncSetTimeout oid clock) r t f running e = absurd (still_runs b r t f running e)
acts_cause b (cmd.TrsyncTrigger oid reason) r t f running e = absurd (still_runs b r t f running e)
acts_cause b (cmd.StepperStopOnTrigger oid other) r t f running e = absurd (still_runs b r t f running e)
acts_cause b (cmd.ConfigEndstop oid pin pull) r t f running e = absurd (still_runs b r t f running e)
acts_cause b (cmd.EndstopHome oid clock every count rest value other reason) r t f running e = absurd (still_runs b r t f running e)
acts_cause b (cmd.Config is crc shut count) r t f running e = absurd (still_runs b r t f running e)
acts_cause b (cmd.Uptime high clock) r t f running e = absurd (still_runs b r t f running e)
acts_cause b (cmd.TrsyncState oid can reason clock) r t f running e = absurd (still_runs b r t f running e)
acts_cause b (cmd.Shutdown clock reason) r t f running e = absurd (still_runs b r t f running e)
acts_cause b (cmd.IsShutdown reason) r t f running e = absurd (still_runs b r t f running e)

running_cause : (b : Controller) (c : Cmd) (reason tick first : ℕ) → b.state ≡ Running → (acts_running b.state b c).board.state ≡ Shut reason tick first → Why b c reason tick first
running_cause b c reason tick first running e = acts_cause b c reason tick first running (sym (ap (λ s. (acts_running s b c).board.state) running) ∙ e)

takes_cause : (b : Controller) (c : Cmd) (reason tick first : ℕ) → b.state ≡ Running → (takes b c).board.state ≡ Shut reason tick first → Why b c reason tick first
takes_cause b (cmd.Identify offset count) r t f running e = absurd (still_runs b r t f running e)
takes_cause b cmd.GetConfig r t f running e = absurd (still_runs b r t f running e)
takes_cause b cmd.GetUptime r t f running e = absurd (still_runs b r t f running e)
takes_cause b (cmd.AllocateOids count) r t f running e = running_cause b (cmd.AllocateOids count) r t f running e
takes_cause b (cmd.FinalizeConfig crc) r t f running e = running_cause b (cmd.FinalizeConfig crc) r t f running e
takes_cause b cmd.EmergencyStop r t f running e = running_cause b cmd.EmergencyStop r t f running e
takes_cause b (cmd.ConfigStepper oid step dir invert width) r t f running e = running_cause b (cmd.ConfigStepper oid step dir invert width) r t f running e
takes_cause b (cmd.QueueStep oid interval count add) r t f running e = running_cause b (cmd.QueueStep oid interval count add) r t f running e
takes_cause b (cmd.SetNextStepDir oid dir) r t f running e = running_cause b (cmd.SetNextStepDir oid dir) r t f running e
takes_cause b (cmd.ResetStepClock oid clock) r t f running e = running_cause b (cmd.ResetStepClock oid clock) r t f running e
takes_cause b (cmd.IdentifyResponse offset bytes) r t f running e = running_cause b (cmd.IdentifyResponse offset bytes) r t f running e
takes_cause b (cmd.ConfigTrsync oid) r t f running e = running_cause b (cmd.ConfigTrsync oid) r t f running e
takes_cause b (cmd.TrsyncStart oid clock every reason) r t f running e = running_cause b (cmd.TrsyncStart oid clock every reason) r t f running e
takes_cause b (cmd.TrsyncSetTimeout oid clock) r t f running e = running_cause b (cmd.TrsyncSetTimeout oid clock) r t f running e
takes_cause b (cmd.TrsyncTrigger oid reason) r t f running e = running_cause b (cmd.TrsyncTrigger oid reason) r t f running e
takes_cause b (cmd.StepperStopOnTrigger oid other) r t f running e = running_cause b (cmd.StepperStopOnTrigger oid other) r t f running e
takes_cause b (cmd.ConfigEndstop oid pin pull) r t f running e = running_cause b (cmd.ConfigEndstop oid pin pull) r t f running e
takes_cause b (cmd.EndstopHome oid clock every count rest value other reason) r t f running e = running_cause b (cmd.EndstopHome oid clock every count rest value other reason) r t f running e
takes_cause b (cmd.Config is crc shut count) r t f running e = running_cause b (cmd.Config is crc shut count) r t f running e
takes_cause b (cmd.Uptime high clock) r t f running e = running_cause b (cmd.Uptime high clock) r t f running e
takes_cause b (cmd.TrsyncState oid can reason clock) r t f running e = running_cause b (cmd.TrsyncState oid can reason clock) r t f running e
takes_cause b (cmd.Shutdown clock reason) r t f running e = running_cause b (cmd.Shutdown clock reason) r t f running e
takes_cause b (cmd.IsShutdown reason) r t f running e = running_cause b (cmd.IsShutdown reason) r t f running e

-- of some commands one shut the board down
rig_cause : (r : Rig) (c : Cmd) (reason tick first : ℕ) → r.controller.state ≡ Running → (rig_takes r c).rig.controller.state ≡ Shut reason tick first → Why r.controller c reason tick first
rig_cause r c reason tick first running e = takes_cause r.controller c reason tick first running (sym (takes_state r c) ∙ e)

rig_runs : (r : Rig) (reason tick first : ℕ) → r.controller.state ≡ Running → r.controller.state ≡ Shut reason tick first → ⊥
rig_runs r reason tick first e f = still_runs r.controller reason tick first e f

shut_more : (b : Rig) (m : Meant) (ms : List Meant) (reason tick first : ℕ) → ShutBy (rig_takes b m.command).rig ms reason tick first → ShutBy b (m ∷ ms) reason tick first
shut_more b m ms reason tick first s =
    record { before = m ∷ s.before; command = s.command; behind = s.behind; are = ap (λ x. m ∷ x) s.are; running = s.running; at = s.at; cause = s.cause }

shut_next : (b : Rig) (m : Meant) (ms : List Meant) (reason tick first : ℕ) (o : BoardState) → b.controller.state ≡ Running → (rig_takes b m.command).rig.controller.state ≡ o
    → (takes_all (rig_takes b m.command).rig (commands_of ms)).rig.controller.state ≡ Shut reason tick first
    → ((rig_takes b m.command).rig.controller.state ≡ Running → ShutBy (rig_takes b m.command).rig ms reason tick first) → ShutBy b (m ∷ ms) reason tick first
shut_next b m ms reason tick first Running running is e rest = shut_more b m ms reason tick first (rest is)
shut_next b m ms reason tick first (Shut r t f) running is e rest =
    let next = (rig_takes b m.command).rig in
    let left = all_left_by next (commands_of ms) (ap is_shut is) in
    let why = rig_cause b m.command reason tick first running (sym (ap (λ (x : Controller). x.state) left) ∙ e) in
    record { before = []; command = m; behind = ms; are = refl; running = running; at = why.0; cause = why.1 }

shut_all : (b : Rig) (ms : List Meant) (reason tick first : ℕ) → b.controller.state ≡ Running → (takes_all b (commands_of ms)).rig.controller.state ≡ Shut reason tick first → ShutBy b ms reason tick first
shut_all b [] reason tick first running e = absurd (rig_runs b reason tick first running e)
shut_all b (m ∷ ms) reason tick first running e =
    shut_next b m ms reason tick first (rig_takes b m.command).rig.controller.state running refl e (λ on. shut_all (rig_takes b m.command).rig ms reason tick first on e)

event_cause : (h : Core) (e : Event) (reason tick first : ℕ) → h.board.controller.state ≡ Running → (does h e).board.controller.state ≡ Shut reason tick first → ShutBy h.board (takes_in h e) reason tick first
event_cause h (Pass t) reason tick first running is = absurd (rig_runs h.board reason tick first running (sym (passes_state h.board t) ∙ is))
event_cause h (Put b) reason tick first running is = shut_all h.board [] reason tick first running is
event_cause h (Control c) reason tick first running is = shut_all h.board [] reason tick first running is
event_cause h Send reason tick first running is = shut_all h.board [] reason tick first running is
event_cause h Resend reason tick first running is = shut_all h.board [] reason tick first running is
event_cause h Arrive reason tick first running is = shut_all h.board (takes_in h Arrive) reason tick first running is
event_cause h Lose reason tick first running is = shut_all h.board [] reason tick first running is
event_cause h Garble reason tick first running is = shut_all h.board [] reason tick first running is
event_cause h Repeat reason tick first running is = shut_all h.board (takes_in h Repeat) reason tick first running is
event_cause h Reply reason tick first running is = shut_all h.board [] reason tick first running is
event_cause h LoseReply reason tick first running is = shut_all h.board [] reason tick first running is

shut_behind : (steps : List Step) (h : Core) (e : Event) (reason tick first : ℕ) (o : BoardState) → h.board.controller.state ≡ Running → (does h e).board.controller.state ≡ o
    → (run_world steps (after_event h e)).board.controller.state ≡ Shut reason tick first → ((does h e).board.controller.state ≡ Running → WasShut (after_event h e) steps reason tick first)
    → WasShut h (Do e ∷ steps) reason tick first
shut_behind steps h e reason tick first Running running at is rest = inr (rest at)
shut_behind steps h e reason tick first (Shut r t f) running at is rest =
    let left = still steps (after_event h e) (ap is_shut at) in
    inl (event_cause h e reason tick first running (sym left.1 ∙ is))

pub was_shut : (steps : List Step) (h : Core) (reason tick first : ℕ) → h.board.controller.state ≡ Running → (run_world steps h).board.controller.state ≡ Shut reason tick first → WasShut h steps reason tick first
was_shut [] h reason tick first running is = rig_runs h.board reason tick first running is
was_shut (Turn turn ∷ steps) h reason tick first running is = inr (was_shut steps (in_turn h turn) reason tick first running is)
was_shut (Do e ∷ steps) h reason tick first running is =
    shut_behind steps h e reason tick first (does h e).board.controller.state running refl is (λ on. was_shut steps (after_event h e) reason tick first on is)
