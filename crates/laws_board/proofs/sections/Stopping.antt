-- A board that was never told to stop does not shut down for that.
use Rattle.std.proofs.Common.{◌≡◌, ℕ, Bool, ◌<◌, List, [], ◌∷◌, ◌++◌, map, All, Option, Some, None, sym, subst, arith, inl, inr, rules}
use Rattle.laws_board.proofs.Names.{All-head, All-tail, flat_map, Pending, Cmd, reset_commands, dir_commands, step_command, Controller, Rig, takes_all, Meant, commands_of, plain, unit_orders, units_orders, Core, Step, Do, Turn, after_event, in_turn, run_world, takes_in, StepUnit, Orders, queued_in}
use Rattle.plan_types.specs.declared.plan.Triple.{Triple}
use Rattle.msg_code.specs.declared.cmd.Cmd.TheVariants as cmd
use Rattle.board_sim.specs.Board.{stepper_at}
use Rattle.board_world.specs.Shut.{IsRefused, ShutBy, Shuts, WasShut}
use Rattle.section_units.specs.Sections.{ticks_meant}
use Rattle.laws_board.specs.sections.Late.{IsIn}
use Rattle.laws_board.specs.sections.Stops.{IsNoStop, NeverStop}
use Rattle.laws_board.proofs.sections.Naming.{in_more, taken_more}
use Rattle.laws_board.proofs.sections.Seeking.{Among, among_split}
use Rattle.laws_board.proofs.sections.Ticks.{orders_are}

-- the order to stop
abbrev pub IsStop : Cmd → Type 0
IsStop cmd.EmergencyStop = Unit {0}
IsStop _ = ⊥

not_five : (n : ℕ) → n < 5 → 5 ≡ n → ⊥
not_five n h e = omega (arith, h, e)

-- no triple is refused for that
pub refused_so : (now : ℕ) (o : Option Pending) (t : Triple) (first : ℕ) → IsRefused now o t 5 first → ⊥
refused_so now o t first p4 = search (rules, not_five)

pub one_stops : (b : Controller) (c : Cmd) (first : ℕ) → Shuts b c 5 first → IsStop c
one_stops b c first p3 = search (rules, refused_so, not_five)

shut_stops : (r : Rig) (ms : List Meant) (tick first : ℕ) (s : ShutBy r ms 5 tick first) → (m : Meant) × IsIn m ms × IsStop m.command
shut_stops r ms tick first s = (s.command, (s.before, s.behind, s.are), one_stops (takes_all r (commands_of s.before)).rig.controller s.command.command first s.cause)

pub stop_taken : (steps : List Step) (h : Core) (tick first : ℕ) → WasShut h steps 5 tick first → (m : Meant) × IsIn m (run_world steps h).taken × IsStop m.command
stop_taken [] h tick first w = absurd w
stop_taken (Do e ∷ steps) h tick first (inl s) =
    let n = shut_stops h.board (takes_in h e) tick first s in
    let rest = taken_more steps (after_event h e) in
    let At : List Meant → Type 0 = λ x. IsIn n.0 x in
    (n.0, subst At (sym rest.1) (in_more n.0 h.taken (takes_in h e) rest.0 n.1), n.2)
stop_taken (Turn turn ∷ steps) h tick first (inl s) = absurd s
stop_taken (Do e ∷ steps) h tick first (inr w) = stop_taken steps (after_event h e) tick first w
stop_taken (Turn turn ∷ steps) h tick first (inr w) = stop_taken steps (in_turn h turn) tick first w

-- no unit has it
abbrev StopsIn : Meant → Type 0
StopsIn m = IsStop m.command

pub no_reset : (m : Meant) (oid : ℕ) (o : Option ℕ) → Among m (map plain (reset_commands oid o)) → IsStop m.command → ⊥
no_reset m oid None a s = a
no_reset m oid (Some tick) (inl e) s = subst StopsIn e s
no_reset m oid (Some tick) (inr a) s = a

pub no_dir : (m : Meant) (oid : ℕ) (o : Option Bool) → Among m (map plain (dir_commands oid o)) → IsStop m.command → ⊥
no_dir m oid None a s = a
no_dir m oid (Some up) (inl e) s = subst StopsIn e s
no_dir m oid (Some up) (inr a) s = a

pub no_unit : (m : Meant) (u : StepUnit) → Among m (unit_orders u) → IsStop m.command → ⊥
no_unit m u a s = search (rules, plain, dir_commands, step_command, among_split, reset_commands, orders_are, no_reset, no_dir)

pub no_units : (m : Meant) (us : List StepUnit) → Among m (units_orders us) → IsStop m.command → ⊥
no_units m [] a s = a
no_units m (u ∷ us) a s = elim (among_split m (unit_orders u) (units_orders us) a) [ inl p ↦ no_unit m u p s | inr p ↦ no_units m us p s ]

-- and no control where the board is never told to stop
pub not_both : (c : Cmd) → IsNoStop c → IsStop c → ⊥
not_both cmd.EmergencyStop k s = k
not_both _ k s = s

pub no_control : (m : Meant) (cs : List Cmd) → Among m (map plain cs) → All IsNoStop cs → IsStop m.command → ⊥
no_control m [] a h s = a
no_control m (c ∷ cs) (inl e) h s = not_both c (All-head IsNoStop c cs h) (subst StopsIn e s)
no_control m (c ∷ cs) (inr a) h s = no_control m cs a (All-tail IsNoStop c cs h) s

pub no_turns : (m : Meant) (os : List Orders) → NeverStop os → Among m (flat_map queued_in os) → IsStop m.command → ⊥
no_turns m [] h a s = a
no_turns m (o ∷ os) h a s = elim (among_split m (queued_in o) (flat_map queued_in os) a) [
  | inl p ↦ elim (among_split m (map plain o.control.commands) (units_orders o.batch.units) p) [ inl q ↦ no_control m o.control.commands q h.0 s | inr q ↦ no_units m o.batch.units q s ]
  | inr p ↦ no_turns m os h.1 p s
]
