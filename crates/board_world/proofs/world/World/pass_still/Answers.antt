use Rattle.std.proofs.Common.{◌∙◌, ◌++◌, ap, sym, subst, List, [], ℕ, append-nil}
use Rattle.plan_types.specs.declared.plan.Pulse.{Pulse}
use Rattle.board_sim.specs.Rig.{passes}
use Rattle.board_sim.specs.Turn.{Station}
use Rattle.board_world.specs.Stands.{IsStill, SeenWorld, WorldStandsFor}
use Rattle.board_world.proofs.Hearing.{none_said, passed_stands, still_runs}
use Rattle.board_world.proofs.world.World.pass_still.Goals as goal

pub returns-clause-stands : goal.returns-clause-stands
returns-clause-stands c h st =
    let i = c.self.inside in
    let before : SeenWorld = record { host = i.host; station = i.taker; down = i.down; up = i.up; pulses = i.pulses.items } in
    let At : SeenWorld → Type 0 = λ s. WorldStandsFor s h in
    let Still : SeenWorld → Type 0 = λ s. IsStill s.station.rig c.args.until in
    let still : IsStill i.taker.rig c.args.until = subst Still (sym c.self.view_is) c.requires.still in
    let passed = c.in_ok-pass_asleep.ensures in
    let station : Station = record i.taker { rig = (passes i.taker.rig c.args.until).rig } in
    let pulses : List Pulse = c.pass_asleep.new.pulses.items in
    passed_stands before _ h c.args.until [] (subst At (sym c.self.view_is) st) still.later (none_said i.taker c.args.until still.runs passed.silent)
    (ap (λ (x : Station). record before { station = x; pulses = pulses }) passed.station
    ∙ ap (λ (u : List (List ℕ)). record before { station = station; up = u; pulses = pulses }) (sym (append-nil i.up))
    ∙ ap (λ (ps : List Pulse). record before { station = station; up = i.up ++ []; pulses = ps }) passed.pulses)

pub returns-clause-runs : goal.returns-clause-runs
returns-clause-runs c =
    let i = c.self.inside in
    let Still : SeenWorld → Type 0 = λ s. IsStill s.station.rig c.args.until in
    let still : IsStill i.taker.rig c.args.until = subst Still (sym c.self.view_is) c.requires.still in
    ap (λ (x : Station). x.rig.controller.state) c.in_ok-pass_asleep.ensures.station ∙ still_runs i.taker.rig c.args.until still
