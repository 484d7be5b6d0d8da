use Rattle.std.proofs.Common.{◌≡◌, ◌*◌, ◌-◌, [], ◌∷◌, arith, ap}
use Rattle.std.proofs.lemmas.List.Elements.{All-cons, All-nil}
use Rattle.plan_types.specs.declared.plan.Part.{Part}
use Rattle.trapezoid.specs.Timing.{IsTimed}
use Rattle.trapezoid.proofs.Distances.{quotients-within}
use Rattle.trapezoid.proofs.segments.Goals as goal

pub overflow_sub-along-2 : goal.overflow_sub-along-2
overflow_sub-along-2 c =
    let low = c.requires.valid.acceleration_low in
    let room = c.top_speed-top.ensures.room in
    let within = quotients-within (2 * c.args.one.now.a) c.args.one.now.d (c.top_speed-top.result - c.args.start) (c.top_speed-top.result - c.args.end) (omega arith) (omega arith) in
    let one = c.distance_to-rising.ensures.value in
    let two = c.distance_to-falling.ensures.value in
    omega arith

pub returns-clause-whole : goal.returns-clause-whole
returns-clause-whole c =
    let low = c.requires.valid.acceleration_low in
    let room = c.top_speed-top.ensures.room in
    let within = quotients-within (2 * c.args.one.now.a) c.args.one.now.d (c.top_speed-top.result - c.args.start) (c.top_speed-top.result - c.args.end) (omega arith) (omega arith) in
    let one = c.distance_to-rising.ensures.value in
    let two = c.distance_to-falling.ensures.value in
    let first : c.part_of.result.d ≡ c.distance_to-rising.result = ap (λ (p : Part). p.d) c.part_of.ensures.value in
    let middle : c.part_of-2.result.d ≡ c.length_of-distance.result - c.distance_to-rising.result - c.distance_to-falling.result = ap (λ (p : Part). p.d) c.part_of-2.ensures.value in
    let last : c.part_of-3.result.d ≡ c.distance_to-falling.result = ap (λ (p : Part). p.d) c.part_of-3.ensures.value in
    omega arith

pub returns-clause-timed : goal.returns-clause-timed
returns-clause-timed c =
    let a = c.part_of.result in
    let b = c.part_of-2.result in
    let d = c.part_of-3.result in
    All-cons IsTimed a (b ∷ d ∷ []) c.part_of.ensures.timed (All-cons IsTimed b (d ∷ []) c.part_of-2.ensures.timed (All-cons IsTimed d [] c.part_of-3.ensures.timed (All-nil IsTimed)))
