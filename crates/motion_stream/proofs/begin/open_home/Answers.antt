use Rattle.std.proofs.Common.{◌≡◌, ◌∙◌, ◌<◌, ◌^◌, [], ◌∷◌, arith, false, refl, sym, true}
use Rattle.gcode_program.specs.declared.items.Item.TheVariants as items
use Rattle.plan_types.specs.Valid.{IsValidMove}
use Rattle.gcode_program.specs.Held.{IsShortOrNear}
use Rattle.motion_work.proofs.Homing.{near_short}
use Rattle.motion_stream.proofs.Bounding.{section_known}
use Rattle.motion_stream.proofs.Limits.{none_pushed}
use Rattle.motion_stream.proofs.Opening.{home_good, home_ready, one_all}
use Rattle.motion_stream.proofs.Taking.{first_short, home_on, may_start}
use Rattle.motion_stream.proofs.begin.open_home.Goals as goal
use Rattle.plan_types.proofs.Facts.{false_true}

pub home_end-requires : goal.home_end-requires
home_end-requires c =
    let one = c.in-Some.one in
    let left = items.End ∷ c.take_home.new.items.items in
    home_ready c.args.machine.now c.args.lines.now one c.args.start c.requires.machine c.requires.boards c.requires.early c.requires.small (home_good one left c.args.items.now.items c.in-Some.ensures c.requires.good)

pub moving_in-moving-requires-clause-valid : goal.moving_in-moving-requires-clause-valid
moving_in-moving-requires-clause-valid c =
    let one = c.in-Some.one in
    one_all IsValidMove one (home_good one (items.End ∷ c.take_home.new.items.items) c.args.items.now.items c.in-Some.ensures c.requires.good).0

pub push-requires-clause-short : goal.push-requires-clause-short
push-requires-clause-short c = first_short c.in-Some.one (items.End ∷ c.take_home.new.items.items) c.args.items.now.items c.in-Some.ensures c.requires.good

pub push-requires-clause-few : goal.push-requires-clause-few
push-requires-clause-few c =
    let none = none_pushed c.args.machine.now c.args.lines.now c.args.start true c.in_ok-section.section c.in_ok-section.ensures.on in
    omega (arith, none)

pub returns : goal.returns
returns c =
    let one = c.in-Some.one in
    let e = c.in_ok-section.ensures in
    let p = c.push.ensures in
    let f = c.finish.ensures in
    let next = p.next in
    let after = f.next in
    let from = e.next in
    record {
      moves = one ∷ [];
      ends = true;
      items_are = c.in-Some.ensures;
      takes = f.open;
      on = home_on c.args.machine.now c.args.lines.now c.args.start true c.in_ok-section.section c.push.new.self c.finish.new.self one p.boards p.sets p.cruise p.begin c.in_ok-push.ensures.on f.boards f.sets f.cruise f.begin c.in_ok-finish.ensures.on e.on;
      next = omega (arith, next, after, from);
      tells = (
        refl,
        c.in_ok-last.ensures,
        (
            let m = c.args.machine.now in
            let lines = c.args.lines.now in
            let valid = c.requires.machine in
            let small = c.requires.small in
            let soon : c.args.start < 2 ^ 43 = omega (arith, small) in
            let good = home_good one (items.End ∷ c.take_home.new.items.items) c.args.items.now.items c.in-Some.ensures c.requires.good in
            let known = section_known m lines (one ∷ []) c.args.start valid (λ b lt. may_start m lines c.args.start b c.requires.boards c.requires.early soon lt) (near_short (one ∷ []) (one_all IsValidMove one good.0) (one_all IsShortOrNear one good.1)) (omega arith) in
            let is = c.in_ok-last.ensures in
            omega (arith, known, is, small)),
        c.moving_in-moving.ensures,
      );
      stops = λ takes. absurd (false_true (sym f.open ∙ takes));
    }
