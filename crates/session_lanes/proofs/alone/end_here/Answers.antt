use Rattle.std.proofs.Common.{List, [], length, subst, sym, append-nil}
use Rattle.session_lanes.specs.Runs.{IsNear}
use Rattle.session_lanes.proofs.alone.end_here.Goals as goal

pub settle_hands-requires-clause-near : goal.settle_hands-requires-clause-near
settle_hands-requires-clause-near g c =
    let n = length c.args.place.now.lanes.batches.now in
    ([], subst (λ j. IsNear g.M.MotionMachine g.L.LinkMachine g.A.ReactorMachine g.O.Outside n j c.args.place.now.lanes c.args.place.now.start.now.value [] c.args.place.now.first.now.value c.close-near.result) (sym c.requires.boards.2) c.close-near.ensures)

pub returns : goal.returns
returns g c =
    let n = length c.args.place.now.lanes.batches.now in
    let before = subst (λ j. IsNear g.M.MotionMachine g.L.LinkMachine g.A.ReactorMachine g.O.Outside n j c.args.place.now.lanes c.args.place.now.start.now.value [] c.args.place.now.first.now.value c.close-near.result) (sym c.requires.boards.2) c.close-near.ensures in
    subst (λ (ls : List g.row.L.Denot). IsNear g.M.MotionMachine g.L.LinkMachine g.A.ReactorMachine g.O.Outside n 0 c.args.place.now.lanes c.args.place.now.start.now.value ls c.args.place.now.first.now.value c.settle_hands.result) (append-nil _) (c.settle_hands.ensures [] before)
