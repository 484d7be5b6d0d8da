use Rattle.std.proofs.Common.{◌≡◌, Bool, true, false, refl, sym, ap, ◌∙◌}
use Rattle.std.specs.Prelude.{◌&&◌}
use Rattle.plan_types.specs.declared.plan.Line.{Line}
use Rattle.log_check.specs.Faults as specs
use Rattle.log_check.proofs.Furthers.{own-room}
use Rattle.log_check.proofs.fault.is_roomy.Goals as goal

with-first : (a b c : Bool) → a ≡ true → b ≡ c → b ≡ (a && c)
with-first true b c e f = f
with-first false b c e f = cc

pub returns-then-has_room : goal.returns-then-has_room
returns-then-has_room c =
    let lines = c.args.lines.now in
    let first : specs.has_room lines.first c.args.moves c.args.turn ≡ true = ap (λ (l : Line). specs.has_room l c.args.moves c.args.turn) (sym c.first.ensures) ∙ (sym c.has_room.ensures ∙ c.if-has_room.true) in
    with-first (specs.has_room lines.first c.args.moves c.args.turn) c.are_few.result (specs.has_own_room lines lines.held c.args.moves c.args.turn) first (c.are_few.ensures ∙ own-room lines lines.held c.args.moves c.args.turn refl c.is_kept.ensures first)
