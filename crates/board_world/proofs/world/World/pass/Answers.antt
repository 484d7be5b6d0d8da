use Rattle.std.proofs.Common.{◌∙◌, ◌++◌, ◌≤◌, ◌<◌, ap, refl, sym, subst, List, ℕ, arith}
use Rattle.plan_types.specs.declared.plan.Pulse.{Pulse}
use Rattle.board_sim.specs.Rig.{passes}
use Rattle.board_sim.specs.Turn.{Station}
use Rattle.board_world.specs.World.{shut_before}
use Rattle.board_world.specs.Stands.{SeenWorld, WorldStandsFor, texts}
use Rattle.board_world.proofs.Hearing.{passed_stands, not_passed_stands, said}
use Rattle.board_world.proofs.world.World.pass.Goals as goal

pub returns : goal.returns
returns c h st =
    let i = c.self.inside in
    let before : SeenWorld = record { host = i.host; station = i.taker; down = i.down; up = i.up; pulses = i.pulses.items } in
    let At : SeenWorld → Type 0 = λ s. WorldStandsFor s h in
    let st0 : WorldStandsFor before h = subst At (sym c.self.view_is) st in
    let blocks = c.say_shut.new.blocks.items in
    let later : i.taker.rig.controller.tick ≤ c.args.until = omega (arith, c.tick-from.ensures, c.if-until-from.false) in
    let replies = said i.taker c.pass.new.self c.args.until c.shut_before-before.result c.tick-from.result c.new-answers.result.items c.pass.new.blocks.items blocks
    (c.shut_before-before.ensures ∙ ap (λ s. shut_before s c.tick-from.result) c.state.ensures ∙ ap (λ k. shut_before i.taker.rig.controller.state k) c.tick-from.ensures) c.tick-from.ensures
    c.in_ok-pulses.ensures.station c.new-answers.ensures.items c.in_ok-pulses.ensures.told c.in_ok-say_shut.ensures in
    passed_stands before _ h c.args.until blocks st0 later replies
    (ap (λ (x : Station). record before { station = x; up = c.put_all.new.self; pulses = c.in_ok-pulses.pulses.items }) c.in_ok-pulses.ensures.station
    ∙ ap (λ (u : List (List ℕ)). record before { station = record i.taker { rig = (passes i.taker.rig c.args.until).rig }; up = u; pulses = c.in_ok-pulses.pulses.items })
    (c.in_ok-put_all.ensures ∙ ap (λ bs. i.up ++ texts bs) c.as_slice.ensures.value)
    ∙ ap (λ (ps : List Pulse). record before { station = record i.taker { rig = (passes i.taker.rig c.args.until).rig }; up = i.up ++ texts blocks; pulses = ps }) c.in_ok-pulses.ensures.pulses)

pub returns-then-until-from : goal.returns-then-until-from
returns-then-until-from c h st =
    let i = c.self.inside in
    let early : c.args.until < i.taker.rig.controller.tick = omega (arith, c.tick-from.ensures, c.if-until-from.true) in
    let seen : c.args.until < c.args.self.now.station.rig.controller.tick = subst (λ (x : SeenWorld). c.args.until < x.station.rig.controller.tick) c.self.view_is early in
    not_passed_stands c.args.self.now c.args.self.now h c.args.until st seen refl
