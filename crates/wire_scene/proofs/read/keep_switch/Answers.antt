use Rattle.std.proofs.Common.{◌≡◌, ◌+◌, List, [], ◌∷◌, ◌++◌, length, arith, refl, sym, subst, length-append, ◌∙◌, ap}
use Rattle.wire_scene.specs.declared.scene.Switch.{Switch}
use Rattle.wire_scene.specs.Scenes.{is_of}
use Rattle.wire_scene.specs.Marks.{Remember}
use Rattle.wire_scene.proofs.Lasts.{remember_more}
use Rattle.wire_scene.proofs.read.keep_switch.Goals as goal

pub returns-clause-in_step : goal.returns-clause-in_step
returns-clause-in_step c = let before : List Switch = c.args.reader.now.scene.switches in
    let is : c.push.new.self ≡ before ++ c.args.switch ∷ [] = c.in_ok-push.ensures.ok in
    let size : length c.push.new.self ≡ length before + 1 = ap length is ∙ length-append before (c.args.switch ∷ []) in
    let known : Remember is_of (λ (s : Switch). s.tick) c.set.new.self (before ++ c.args.switch ∷ [])
    = remember_more is_of (λ (s : Switch). s.tick) c.args.reader.now.ticks c.set.new.self before c.args.switch c.args.switch.board c.args.switch.pin c.requires.in_step.ticks c.set.ensures (λ b p. refl) in
    record {
      numbers = c.requires.in_step.numbers;
      ticks = subst (λ (ss : List Switch). Remember is_of (λ (s : Switch). s.tick) c.set.new.self ss) (sym is) known;
      few = omega (arith, size, c.requires.room);
    }
