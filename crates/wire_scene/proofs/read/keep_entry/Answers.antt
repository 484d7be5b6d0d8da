use Rattle.std.proofs.Common.{◌≡◌, ℕ, ◌+◌, List, [], ◌∷◌, ◌++◌, length, arith, refl, sym, subst, length-append, ◌∙◌, ap}
use Rattle.wire_scene.specs.declared.scene.Entry.{Entry}
use Rattle.wire_scene.specs.Scenes.{is_on, way_number}
use Rattle.wire_scene.specs.Marks.{Remember, SetsMark}
use Rattle.wire_scene.proofs.Lasts.{remember_more}
use Rattle.wire_scene.proofs.read.keep_entry.Goals as goal

pub returns-clause-in_step : goal.returns-clause-in_step
returns-clause-in_step c = let before : List Entry = c.args.reader.now.scene.entries in
    let is : c.push.new.self ≡ before ++ c.args.entry ∷ [] = c.in_ok-push.ensures.ok in
    let size : length c.push.new.self ≡ length before + 1 = ap length is ∙ length-append before (c.args.entry ∷ []) in
    let sets : SetsMark c.args.reader.now.numbers c.set.new.self c.args.entry.board (way_number c.args.entry.connecting c.args.entry.way) c.args.entry.number
    = subst (λ (w : ℕ). SetsMark c.args.reader.now.numbers c.set.new.self c.args.entry.board w c.args.entry.number) c.way_number.ensures c.set.ensures in
    let known : Remember is_on (λ (e : Entry). e.number) c.set.new.self (before ++ c.args.entry ∷ [])
    = remember_more is_on (λ (e : Entry). e.number) c.args.reader.now.numbers c.set.new.self before c.args.entry c.args.entry.board (way_number c.args.entry.connecting c.args.entry.way) c.requires.in_step.numbers sets (λ b p. refl) in
    record {
      numbers = subst (λ (es : List Entry). Remember is_on (λ (e : Entry). e.number) c.set.new.self es) (sym is) known;
      ticks = c.requires.in_step.ticks;
      few = omega (arith, size, c.requires.room);
    }
