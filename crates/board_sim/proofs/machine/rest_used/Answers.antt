use Rattle.std.proofs.Common.{◌≡◌, ◌++◌, ◌∙◌, ap, refl, sym, subst, drop, map, List, Option}
use Rattle.board_sim.specs.Rig.{Slot, rested}
use Rattle.board_sim.specs.Places.{NoneBehind}
use Rattle.board_sim.proofs.Used.{whole_slots, rested_slots}
use Rattle.board_sim.proofs.machine.rest_used.Goals as goal

pub returns-clause-slots : goal.returns-clause-slots
returns-clause-slots c =
    ap (λ ys. ys ++ drop c.args.used c.args.slots.now) c.rest_all.ensures ∙ whole_slots (rested c.args.pins.now c.args.until) c.args.used c.args.slots.now refl c.requires.used
