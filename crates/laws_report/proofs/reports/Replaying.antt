-- The pulses of a replay are the first of the ticks that its units mean.
use Rattle.std.proofs.Common.{◌≡◌, ℕ, Bool, true, false, ◌⊎◌, List, [], ◌∷◌, ◌++◌, map, Option, Some, None, refl, ap, sym, ◌∙◌, subst, inl, inr, append_assoc, append-nil, rules}
use Rattle.laws_board.proofs.Names.{eqb_tells, map-append, board_tick, clock_of, BoardDef, BoardState, Running, Shut, Pulse, Pending, Cmd, Controller, is_shut, Meant, commands_of, only, Rig, takes_all, takes as rig_takes}
use Rattle.std.specs.Prelude.{◌+◌, ◌==◌, if◌then◌else◌}
use Rattle.plan_types.specs.Plan.{pulse_of}
use Rattle.plan_types.specs.Board.{steps_of}
use Rattle.plan_types.specs.declared.plan.Triple.{Triple}
use Rattle.board_step.specs.Steps.{ticks_at}
use Rattle.msg_code.specs.declared.cmd.Cmd.TheVariants as cmd
use Rattle.board_sim.specs.Board.{Done, acts_running, first_of, new_controller, queue_step, quiet, refusal, stepper_at, takes, takes_triple}
use Rattle.board_sim.specs.Fair.{IsCut, meant_by, meant_on, meant_running, steps_taken}
use Rattle.board_sim.specs.Halted.{KeptPart, meant_behind}
use Rattle.board_sim.specs.Rig.{new_rig}
use Rattle.board_sim.proofs.HaltedTakes.{commands_keep}
use Rattle.board_sim.proofs.HaltedTime.{part_cut, time_keeps, whole_part}
use Rattle.board_sim.proofs.Keeps.{first_kept}
use Rattle.board_sim.proofs.RigShut.{all_left_by}
use Rattle.board_sim.proofs.RigStates.{passes_state, takes_state}
use Rattle.board_sim.proofs.Steps.{only-append, only_other, only_same}
use Rattle.board_world.specs.Units.{FindSteppers, FindsStepper, FindsWhile, IsMade, pulse_ticks, ticks_for, ticks_of}
use Rattle.board_world.proofs.Units.{ticks_append, pulses_append, taken_ticks}
use Rattle.frame_dump.specs.Replays.{Given, IsReplay, plays, plays_to}
use Rattle.frame_dump.specs.declared.trace.TraceTurn.{TraceTurn}
use Rattle.laws_board.proofs.sections.Taking.{meant_by_all, meant_is}
use Rattle.laws_report.specs.reports.Replayed.{MeantIn, TurnsAreFair, TurnsFind, all_meant, behind_turn, steps_meant, turns_given}
use Rattle.section_units.proofs.Packing.{ticks_said}

-- the pulses are kept turn by turn
kept_along : (b : BoardDef) (last : ℕ) (r : Rig) (ms : List MeantIn) (made meant : List Pulse) → KeptPart r.controller made meant → TurnsAreFair b r ms
    → KeptPart (plays b last r (turns_given ms)).rig.controller (made ++ (plays b last r (turns_given ms)).pulses) (steps_meant b r made meant ms)
kept_along b last r [] made meant k fair = time_keeps r (board_tick (clock_of b) (last + 1_001)) made meant k
kept_along b last r (m ∷ ms) made meant k fair =
    let before = plays_to b m.turn r in
    let next = behind_turn b r m in
    let rest = plays b m.turn next (turns_given ms) in
    let now = made ++ before.pulses in
    let then' = meant_behind before.rig now meant m.meant in
    let one = commands_keep before.rig m.meant now meant (time_keeps r (board_tick (clock_of b) m.turn) made meant k) fair.0 in
    subst (λ (ps : List Pulse). KeptPart rest.rig.controller ps (steps_meant b next now then' ms)) (append_assoc made before.pulses rest.pulses)
    (kept_along b m.turn next ms now then' one fair.1)

played_cut : (b : BoardDef) (ms : List MeantIn) → TurnsAreFair b (new_rig b []) ms → IsCut (plays b 0 (new_rig b []) (turns_given ms)).pulses (steps_meant b (new_rig b []) [] [] ms)
played_cut b ms fair =
    let p = plays b 0 (new_rig b []) (turns_given ms) in
    part_cut p.rig.controller p.pulses (steps_meant b (new_rig b []) [] [] ms) (kept_along b 0 (new_rig b []) ms [] [] (whole_part (new_controller b) [] [] (first_kept b)) fair)

pub replay_cut : (b : BoardDef) (turns : List TraceTurn) (pulses : List Pulse) (state : BoardState) (ms : List MeantIn) → (r : IsReplay b turns pulses state)
    → r.given ≡ turns_given ms → TurnsAreFair b (new_rig b []) ms → IsCut pulses (steps_meant b (new_rig b []) [] [] ms)
replay_cut b turns pulses state ms r is fair =
    let same : (plays b 0 (new_rig b []) (turns_given ms)).pulses ≡ pulses = ap (λ (gs : List Given). (plays b 0 (new_rig b []) gs).pulses) (sym is) ∙ sym r.pulses_are in
    subst (λ (ps : List Pulse). IsCut ps (steps_meant b (new_rig b []) [] [] ms)) same (played_cut b ms fair)

-- a command means all its ticks; or none, and it shuts the board down
abbrev Adds : BoardState → List ℕ → List ℕ → Type 0
Adds o made all = (made ≡ all) ⊎ ((made ≡ []) × (is_shut o ≡ true))

triple_adds : (o : Option (ℕ × ℕ)) (b : Controller) (oid other : ℕ) (q : Pending) (own ticks : List ℕ)
    → Adds (takes_triple o b other q own).board.state (pulse_ticks oid (steps_taken o other q.up ticks)) (if other == oid then ticks else [])
triple_adds None b oid other q own ticks = inl (taken_ticks oid other q.up ticks)
triple_adds (Some r) b oid other q own ticks = inr (refl, refl)

not_halted : (h : Bool) (b : Controller) (d : Done) (oid : ℕ) (ps : List Pulse) (all : List ℕ) → h ≡ false → Adds d.board.state (pulse_ticks oid ps) all
    → Adds (if h then quiet b else d).board.state (pulse_ticks oid (if h then [] else ps)) all
not_halted false b d oid ps all e k = k
not_halted true b d oid ps all e k = cc

step_adds : (o : Option Pending) (b : Controller) (oid other : ℕ) (t : Triple) (ticks : List ℕ) → IsMade o
    → Adds (queue_step b other o t).board.state (pulse_ticks oid (meant_on b.tick other o t ticks)) (if other == oid then ticks else [])
step_adds o b oid other t ticks p6 = search (rules, not_halted, triple_adds)

running_adds : (b : Controller) (c : Cmd) (oid : ℕ) (ticks : List ℕ) → b.state ≡ Running → FindsStepper b c
    → Adds (takes b c).board.state (pulse_ticks oid (meant_by b c ticks)) (ticks_for oid c ticks)
running_adds b c oid ticks p4 p5 = search (rules, step_adds)

-- while a board runs the ticks are all there; once it is shut down some may be left out
abbrev IsSofar : BoardState → List ℕ → List ℕ → Type 0
IsSofar Running made all = made ≡ all
IsSofar (Shut reason tick first) made all = (rest : List ℕ) × (made ++ rest ≡ all)

some_of : (o : BoardState) (made all : List ℕ) → IsSofar o made all → (rest : List ℕ) × (made ++ rest ≡ all)
some_of Running made all e = ([], append-nil made ∙ e)
some_of (Shut reason tick first) made all k = k

grows : (o : BoardState) (made all more rest : List ℕ) → made ≡ all → Adds o more rest → IsSofar o (made ++ more) (all ++ rest)
grows o made all more rest p5 p6 = search (rules, append-nil)

stays : (o : BoardState) (made all rest : List ℕ) → is_shut o ≡ true → (r : List ℕ) × (made ++ r ≡ all) → IsSofar o (made ++ []) (all ++ rest)
stays o made all rest p4 p5 = search (rules, append-nil, append_assoc)

one_sofar : (o : BoardState) (r : Rig) (m : Meant) (oid : ℕ) (made all : List ℕ) → r.controller.state ≡ o → FindsWhile o r.controller m.command → IsSofar o made all
    → IsSofar (rig_takes r m.command).rig.controller.state (made ++ pulse_ticks oid (meant_running o r.controller m.command m.ticks)) (all ++ ticks_for oid m.command m.ticks)
one_sofar o r m oid made all p6 p7 p8 = search (rules, takes_state, grows, running_adds, rig_takes, all_left_by, is_shut, stays)

-- so the commands of a turn, and those of all turns
turn_sofar : (r : Rig) (ms : List Meant) (oid : ℕ) (made all : List ℕ) → FindSteppers r ms → IsSofar r.controller.state made all
    → IsSofar (takes_all r (commands_of ms)).rig.controller.state (made ++ pulse_ticks oid (meant_by_all r ms)) (all ++ ticks_of oid ms)
turn_sofar r [] oid made all finds k = rw (append-nil made, append-nil all) k
turn_sofar r (m ∷ ms) oid made all finds k =
    let o = r.controller.state in
    let next = (rig_takes r m.command).rig in
    let new = meant_running o r.controller m.command m.ticks in
    let ticks = ticks_for oid m.command m.ticks in
    let later = meant_by_all next ms in
    let end = (takes_all next (commands_of ms)).rig.controller.state in
    let rest = turn_sofar next ms oid (made ++ pulse_ticks oid new) (all ++ ticks) finds.1 (one_sofar o r m oid made all refl finds.0 k) in
    let same : (made ++ pulse_ticks oid new) ++ pulse_ticks oid later ≡ made ++ pulse_ticks oid (new ++ later) =
    append_assoc made (pulse_ticks oid new) (pulse_ticks oid later) ∙ ap (λ x. made ++ x) (sym (pulses_append oid new later)) in
    subst (λ (ts : List ℕ). IsSofar end ts (all ++ (ticks ++ ticks_of oid ms))) same
    (subst (λ (ts : List ℕ). IsSofar end ((made ++ pulse_ticks oid new) ++ pulse_ticks oid later) ts) (append_assoc all ticks (ticks_of oid ms)) rest)

all_sofar : (b : BoardDef) (r : Rig) (ms : List MeantIn) (oid : ℕ) (made meant : List Pulse) (all : List ℕ) → TurnsFind b r ms → IsSofar r.controller.state (pulse_ticks oid meant) all
    → (rest : List ℕ) × (pulse_ticks oid (steps_meant b r made meant ms) ++ rest ≡ all ++ ticks_of oid (all_meant ms))
all_sofar b r [] oid made meant all finds k = rw (append-nil all) (some_of r.controller.state (pulse_ticks oid meant) all k)
all_sofar b r (m ∷ ms) oid made meant all finds k =
    let before = plays_to b m.turn r in
    let next = behind_turn b r m in
    let more = meant_by_all before.rig m.meant in
    let now = made ++ before.pulses in
    let stood : IsSofar before.rig.controller.state (pulse_ticks oid meant) all =
    subst (λ (s : BoardState). IsSofar s (pulse_ticks oid meant) all) (sym (passes_state r (board_tick (clock_of b) m.turn))) k in
    let took = turn_sofar before.rig m.meant oid (pulse_ticks oid meant) all finds.0 stood in
    let same : pulse_ticks oid meant ++ pulse_ticks oid more ≡ pulse_ticks oid (meant_behind before.rig now meant m.meant) =
    sym (pulses_append oid meant more) ∙ ap (pulse_ticks oid) (sym (meant_is before.rig now meant m.meant finds.0)) in
    let rest = all_sofar b next ms oid now (meant_behind before.rig now meant m.meant) (all ++ ticks_of oid m.meant) finds.1
    (subst (λ (ts : List ℕ). IsSofar next.controller.state ts (all ++ ticks_of oid m.meant)) same took) in
    (rest.0, rest.1 ∙ append_assoc all (ticks_of oid m.meant) (ticks_of oid (all_meant ms)) ∙ ap (λ x. all ++ x) (sym (ticks_append oid m.meant (all_meant ms))))

starts : (b : BoardDef) (oid : ℕ) → IsSofar (new_rig b []).controller.state (pulse_ticks oid []) []
unfolding new_controller
starts b oid = refl

pub replay_ticks : (b : BoardDef) (turns : List TraceTurn) (pulses : List Pulse) (state : BoardState) (ms : List MeantIn) → (r : IsReplay b turns pulses state)
    → r.given ≡ turns_given ms → TurnsAreFair b (new_rig b []) ms → TurnsFind b (new_rig b []) ms
    → (oid : ℕ) → (rest : List ℕ) × (pulse_ticks oid pulses ++ rest ≡ ticks_of oid (all_meant ms))
replay_ticks b turns pulses state ms r is fair finds oid =
    let cut = replay_cut b turns pulses state ms r is fair oid in
    let more = all_sofar b (new_rig b []) ms oid [] [] [] finds (starts b oid) in
    let behind : pulse_ticks oid pulses ++ map (λ (p : Pulse). p.tick) cut.0 ≡ pulse_ticks oid (steps_meant b (new_rig b []) [] [] ms) =
    sym (map-append (λ (p : Pulse). p.tick) (only oid pulses) cut.0) ∙ ap (map (λ (p : Pulse). p.tick)) cut.1 in
    (map (λ (p : Pulse). p.tick) cut.0 ++ more.0, sym (append_assoc (pulse_ticks oid pulses) (map (λ (p : Pulse). p.tick) cut.0) more.0) ∙ ap (λ x. x ++ more.0) behind ∙ more.1)
