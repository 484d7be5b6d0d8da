use Rattle.std.proofs.Common.{◌≡◌, ℕ, [], false, refl, subst}
use Rattle.msg_code.specs.declared.talk.Note.{Note}
use Rattle.motion_stream.specs.Rows.{batches_of}
use Rattle.motion_stream.proofs.Quiet.{clear_stays, quiet_turned}
use Rattle.motion_stream.proofs.turn.quiet_turn.Goals as goal

pub returns-clause-made : goal.returns-clause-made
returns-clause-made c =
    let r = c.requires in
    let k = c.args.k in
    let made = c.in_ok-batches.batches.items in
    let note : Note = record { turn = k; news = c.new.result; clear = c.args.clear; out = false } in
    quiet_turned c.args.machine.now c.args.course.now k c.args.clear made note r.idle r.next r.small r.clear r.before r.ahead r.waiting r.told r.fed (subst (λ (n : ℕ). made ≡ batches_of n k [] []) c.len.ensures c.in_ok-batches.ensures.value) refl c.new.ensures

pub returns-clause-clear : goal.returns-clause-clear
returns-clause-clear c = clear_stays c.args.course.now c.args.k c.args.clear c.requires.next c.requires.idle c.requires.clear c.requires.before
