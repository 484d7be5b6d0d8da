use Rattle.std.proofs.Common.{sym, ◌∙◌, rules}
use Rattle.gcode_state.proofs.Accepted.{moved_sound}
use Rattle.gcode_state.proofs.ValidMoves.{valid_move, reachable_move}
use Rattle.gcode_state.proofs.linear.linear_action.Goals as goal

pub after-next-requires-clause-sound : goal.after-next-requires-clause-sound
after-next-requires-clause-sound c = rw c.aim-to.ensures.value
    (moved_sound c.args.state.now c.args.values.now c.is_some.result c.requires.sound c.requires.few (rw c.aim-to.ensures.value at (sym c.fault.ensures ∙ c.in_default.is)))

pub returns-then-is_move-clause-valid : goal.returns-then-is_move-clause-valid
returns-then-is_move-clause-valid c =
    let sound = rw c.after-next.ensures.value at c.after-next.ensures.sound in
    rw (c.move_between.ensures, c.after-next.ensures.value)
    (valid_move c.args.state.now c.aim-to.result c.is_some.result c.requires.sound sound (sym c.fault.ensures ∙ c.in_default.is) (search rules), reachable_move c.args.state.now c.aim-to.result c.requires.sound sound)
