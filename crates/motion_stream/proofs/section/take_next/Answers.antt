use Rattle.std.proofs.Common.{◌∷◌, ◌∙◌, ap}
use Rattle.gcode_program.specs.declared.items.Item.{Item}
use Rattle.motion_stream.proofs.Taking.{first_short, left_good, took_end, took_move}
use Rattle.motion_stream.proofs.section.take_next.Goals as goal

pub push-requires-clause-short : goal.push-requires-clause-short
push-requires-clause-short c =
    let front = c.in-Some-Move.ensures in
    first_short c.in-Some-Move.one front.0 c.args.items.now.items (front.1 ∙ ap (λ (x : Item). x ∷ front.0) c.in-Some-Move.field-0-is) c.requires.good

pub returns-in_ok-push-in-Some-Move-clause-taken : goal.returns-in_ok-push-in-Some-Move-clause-taken
returns-in_ok-push-in-Some-Move-clause-taken c =
    let front = c.in-Some-Move.ensures in
    let e = c.push.ensures in
    took_move c.args.section.now c.push.new.self c.in-Some-Move.one front.0 c.args.items.now.items c.pop_front.new.self.items (front.1 ∙ ap (λ (x : Item). x ∷ front.0) c.in-Some-Move.field-0-is) c.pop_front.ensures.rest e.open e.next e.same e.boards e.sets e.cruise e.begin
    c.in_ok-push-in-Some-Move.ensures.on

pub returns-in_ok-push-in-Some-Move-clause-good : goal.returns-in_ok-push-in-Some-Move-clause-good
returns-in_ok-push-in-Some-Move-clause-good c = left_good c.args.items.now.items c.pop_front.new.self.items c.pop_front.ensures.rest c.requires.good

pub returns-in_ok-finish-in-Some-End-clause-taken : goal.returns-in_ok-finish-in-Some-End-clause-taken
returns-in_ok-finish-in-Some-End-clause-taken c =
    let front = c.in-Some-End.ensures in
    let e = c.finish.ensures in
    took_end c.args.section.now c.finish.new.self front.0 c.args.items.now.items c.pop_front-in-Some-End.new.self.items (front.1 ∙ ap (λ (x : Item). x ∷ front.0) c.in-Some-End.field-0-is) c.pop_front-in-Some-End.ensures.rest e.open e.next e.same e.boards e.sets e.cruise e.begin
    c.in_ok-finish-in-Some-End.ensures.on

pub returns-in_ok-finish-in-Some-End-clause-good : goal.returns-in_ok-finish-in-Some-End-clause-good
returns-in_ok-finish-in-Some-End-clause-good c = left_good c.args.items.now.items c.pop_front-in-Some-End.new.self.items c.pop_front-in-Some-End.ensures.rest c.requires.good
