use Rattle.std.proofs.Common.{◌≡◌, ◌*◌, ◌∙◌, ◌++◌, List, false, arith, sym, subst, ap}
use Rattle.std.proofs.lemmas.Result.{IfOk-weaker}
use Rattle.digital_out.specs.declared.want.Want.{Want}
use Rattle.digital_out.specs.Carried.{CanCarry}
use Rattle.digital_out.specs.Refreshes.{off_behind}
use Rattle.digital_out.specs.Wants.{changes}
use Rattle.digital_out.proofs.Switching.{can_carry, refreshed_changes}
use Rattle.digital_out.proofs.switch.switchings.Goals as goal

pub carry_out-requires-clause-can : goal.carry_out-requires-clause-can
carry_out-requires-clause-can c =
    let every = 2_500 * c.args.ticks in
    subst (λ (ws : List Want). CanCarry (5_000 * c.args.ticks) ws) (sym c.deref.ensures.value)
    (can_carry every (5_000 * c.args.ticks) c.args.wants.now c.in_ok-commands.commands.items (omega (arith, c.requires.some)) (omega arith) (omega (arith, c.requires.few)) c.requires.rise c.requires.small c.in_ok-commands.ensures)

pub returns : goal.returns
returns c =
    let every = 2_500 * c.args.ticks in
    let carried = c.deref-2.ensures.value ∙ c.in_ok-carried.ensures ∙ c.deref.ensures.value in
    IfOk-weaker c.changes.result (λ outs. outs.items ≡ changes false c.deref-2.result.now) (λ outs. outs.items ≡ c.args.wants.now ++ off_behind every c.args.wants.now)
    (λ outs h. h ∙ ap (changes false) carried ∙ refreshed_changes every false c.args.wants.now c.in_ok-commands.commands.items c.requires.alternate c.in_ok-commands.ensures)
    c.changes.ensures
