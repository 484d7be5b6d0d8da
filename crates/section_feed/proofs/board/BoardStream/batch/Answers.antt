use Rattle.std.proofs.Common.{◌≡◌, ◌+◌, ◌*◌, ◌++◌, ◌<◌, ◌≤◌, [], All, List, length, arith, subst, sym, ap, ◌∙◌}
use Rattle.step_feed.specs.Streams.{IsFedOf}
use Rattle.section_feed.specs.Ordering.{last_order}
use Rattle.step_feed.specs.Pacing.{at_turn}
use Rattle.section_feed.specs.Boards.{AreUpTo}
use Rattle.section_feed.proofs.Onboard.{board-gave, gone-count, gone-up, up-none}
use Rattle.section_feed.specs.Dues.{AreDueFrom, order_at}
use Rattle.section_feed.proofs.Lasts.{kept-lasting, last-soon}
use Rattle.section_feed.proofs.Merging.{due-after, due-behind, due-none, gone-due, order-later, taken-order}
use Rattle.plan_types.specs.Clock.{tick_limit, turn_ns}
use Rattle.plan_types.specs.Lines.{lines_tick}
use Rattle.plan_types.specs.Plan.{max_error}
use Rattle.section_feed.proofs.Ahead.{ahead-packed}
use Rattle.step_feed.specs.Pacing.{lead, turn_limit}
use Rattle.step_feed.specs.Units.{StepUnit}
use Rattle.section_stream.specs.declared.stepper.StepperStream.{StepperStream}
use Rattle.step_feed.specs.Streams.{stream_start, next_turn, slots_of}
use Rattle.section_feed.proofs.Resting.{rested-all}
use Rattle.section_feed.proofs.Setting.{set-same}
use Rattle.section_feed.proofs.board.BoardStream.batch.Goals as goal

pub take_units-requires-clause-steppers : goal.take_units-requires-clause-steppers
take_units-requires-clause-steppers c =
    let s = c.args.self.now in
    subst (λ v. ∥ AreUpTo s.lines s.goes s.time s.turn v.items ∥₁) (sym c.replace-steppers.ensures.value) s.up_to

pub feed_units-requires-clause-small : goal.feed_units-requires-clause-small
feed_units-requires-clause-small c =
    let s = c.args.self.now in
    let items = ap (λ v. v.items) c.replace-steppers.ensures.value in
    let units = c.in_ok-units.units.items in
    let dues = subst (λ (ss : List StepperStream). ∥ AreDueFrom (next_turn s.feed + 250) ss ∥₁) (sym items) s.due in
    let taken = c.in_ok-units.ensures.taken (next_turn s.feed + 250) dues in
    subst (All (λ (u : StepUnit). u.last < tick_limit)) (sym c.deref.ensures.value) (λ k d l. (taken k d l).small)

pub feed_units-requires-clause-due_small : goal.feed_units-requires-clause-due_small
feed_units-requires-clause-due_small c =
    let s = c.args.self.now in
    let items = ap (λ v. v.items) c.replace-steppers.ensures.value in
    let units = c.in_ok-units.units.items in
    let dues = subst (λ (ss : List StepperStream). ∥ AreDueFrom (next_turn s.feed + 250) ss ∥₁) (sym items) s.due in
    let taken = c.in_ok-units.ensures.taken (next_turn s.feed + 250) dues in
    let small = c.requires.small in
    subst (All (λ (u : StepUnit). u.due < turn_limit)) (sym c.deref.ensures.value) (λ k d l. (let t = (taken k d l).soon in omega arith))

pub feed_units-requires-clause-in_time : goal.feed_units-requires-clause-in_time
feed_units-requires-clause-in_time c =
    let s = c.args.self.now in
    let items = ap (λ v. v.items) c.replace-steppers.ensures.value in
    let units = c.in_ok-units.units.items in
    let dues = subst (λ (ss : List StepperStream). ∥ AreDueFrom (next_turn s.feed + 250) ss ∥₁) (sym items) s.due in
    let taken = c.in_ok-units.ensures.taken (next_turn s.feed + 250) dues in
    subst (All (λ (u : StepUnit). next_turn s.feed + lead ≤ u.due)) (sym c.deref.ensures.value) (λ k d l. (taken k d l).late)

pub invariant_of-self : goal.invariant_of-self
invariant_of-self c =
    let s = c.args.self.now in
    let none = ap (λ v. v.items) c.replace-steppers.ensures.after ∙ c.new.ensures.items in
    record {
      lasting = s.lasting;
      begun = s.begun;
      begun_next = s.begun_next;
      ahead = s.ahead;
      time_small = s.time_small;
      up_to = up-none s.lines s.goes s.time s.turn _ none;
      near = s.near;
      due = due-none (next_turn s.feed + 250) _ none;
      handed = s.handed;
    }

pub invariant_of-self-in-Break-branch-2 : goal.invariant_of-self-in-Break-branch-2
invariant_of-self-in-Break-branch-2 c =
    let s = c.args.self.now in
    let items = ap (λ v. v.items) c.replace-steppers.ensures.value in
    let same = c.feed_units.ensures.next in
    record {
      lasting = s.lasting;
      begun = s.begun;
      begun_next = subst (λ n. s.lines.first.at ≤ (n + 250) * turn_ns) (sym same) s.begun_next;
      ahead = s.ahead;
      time_small = s.time_small;
      up_to = gone-up s.lines s.goes s.time s.turn [] c.in_ok-units.units.items c.replace-steppers.result.items c.take_units.new.steppers.items c.in_ok-units.ensures.on;
      near = subst (λ n. n + 250 ≤ s.turn) (sym same) s.near;
      due = subst (λ n. ∥ AreDueFrom (n + 250) c.take_units.new.steppers.items ∥₁) (sym same) (gone-due s.lines s.goes s.time s.turn (next_turn s.feed + 250) [] c.in_ok-units.units.items s.steppers.items c.replace-steppers.result.items c.take_units.new.steppers.items items c.in_ok-units.ensures.on s.due);
      handed = subst (λ n. 0 < s.order → s.order < order_at s.lines (n + 250)) (sym same) s.handed;
    }

pub invariant_of-self-in-Break-branch-3 : goal.invariant_of-self-in-Break-branch-3
invariant_of-self-in-Break-branch-3 c =
    let s = c.args.self.now in
    let items = ap (λ v. v.items) c.replace-steppers.ensures.value in
    let same = ap next_turn c.in_err-given.ensures.unchanged ∙ c.feed_units.ensures.next in
    record {
      lasting = s.lasting;
      begun = s.begun;
      begun_next = subst (λ n. s.lines.first.at ≤ (n + 250) * turn_ns) (sym same) s.begun_next;
      ahead = s.ahead;
      time_small = s.time_small;
      up_to = gone-up s.lines s.goes s.time s.turn [] c.in_ok-units.units.items c.replace-steppers.result.items c.take_units.new.steppers.items c.in_ok-units.ensures.on;
      near = subst (λ n. n + 250 ≤ s.turn) (sym same) s.near;
      due = subst (λ n. ∥ AreDueFrom (n + 250) c.take_units.new.steppers.items ∥₁) (sym same) (gone-due s.lines s.goes s.time s.turn (next_turn s.feed + 250) [] c.in_ok-units.units.items s.steppers.items c.replace-steppers.result.items c.take_units.new.steppers.items items c.in_ok-units.ensures.on s.due);
      handed = subst (λ n. 0 < s.order → s.order < order_at s.lines (n + 250)) (sym same) s.handed;
    }

pub invariant_of-self-2 : goal.invariant_of-self-2
invariant_of-self-2 c =
    let s = c.args.self.now in
    let items = ap (λ v. v.items) c.replace-steppers.ensures.value in
    let units = c.in_ok-units.units.items in
    let dues = subst (λ (ss : List StepperStream). ∥ AreDueFrom (next_turn s.feed + 250) ss ∥₁) (sym items) s.due in
    let taken = c.in_ok-units.ensures.taken (next_turn s.feed + 250) dues in
    let turn = c.requires.next in
    let packed = ahead-packed c.args.turn s c.requires.ahead in
    let next = c.in_ok-given.ensures.next in
    let order = c.in_ok-order.ensures.order ∙ ap (last_order s.order) c.deref.ensures.value in
    let kept = kept-lasting s.lines s.lasting in
    let up = gone-up s.lines s.goes s.time s.turn [] units c.replace-steppers.result.items c.take_units.new.steppers.items c.in_ok-units.ensures.on in
    let before = order-later s.lines (next_turn s.feed + 250) (c.args.turn + 250 + 1) s.order (omega arith) s.handed in
    let handed = taken-order s.lines (next_turn s.feed + 250) (c.args.turn + 250) s.order units kept (omega arith) taken before in
    let later : c.args.turn + 250 + 1 ≡ next_turn c.take.new.self + 250 = omega arith in
    let far : c.args.turn + 251 ≡ next_turn c.take.new.self + 250 = omega arith in
    record {
      lasting = s.lasting;
      begun = s.begun;
      begun_next = (let b = s.begun_next in omega arith);
      ahead = s.ahead;
      time_small = s.time_small;
      up_to = up;
      near = omega arith;
      due = due-after s.lines s.goes s.time s.turn (c.args.turn + 250) (next_turn c.take.new.self + 250) c.take_units.new.steppers.items up c.in_ok-units.ensures.after (subst (λ n. lines_tick s.lines (n * turn_ns) + max_error s.lines.first.freq ≤ lines_tick s.lines (s.turn * turn_ns)) far c.requires.ahead.ahead) (sym later);
      handed = subst (λ o. 0 < o → o < order_at s.lines (next_turn c.take.new.self + 250)) (sym order) (subst (λ n. 0 < last_order s.order units → last_order s.order units < order_at s.lines n) later handed);
    }

pub returns-clause-on : goal.returns-clause-on
returns-clause-on c = λ kinds base parts released was. (
    let s = c.args.self.now in
    let items = ap (λ v. v.items) c.replace-steppers.ensures.value in
    let units = c.in_ok-units.units.items in
    let here : c.deref.result.now ≡ units = c.deref.ensures.value in
    let up = subst (λ (ss : List StepperStream). ∥ AreUpTo s.lines s.goes s.time s.turn ss ∥₁) (sym items) s.up_to in
    let dues = subst (λ (ss : List StepperStream). ∥ AreDueFrom (next_turn s.feed + 250) ss ∥₁) (sym items) s.due in
    let behind = due-behind s.lines s.goes s.time s.turn (next_turn s.feed + 250) s.order c.replace-steppers.result.items up dues (omega arith) s.handed in
    let order = c.in_ok-order.ensures in
    board-gave s.lines s.goes s.time s.turn units s.steppers.items c.replace-steppers.result.items c.take_units.new.steppers.items s.feed c.take.new.self s.order c.in_ok-order.order (at_turn c.args.turn c.in_ok-given.given.items) kinds base parts released
    items c.in_ok-units.ensures.on c.in_ok-units.ensures.own (c.in_ok-units.ensures.in_order s.order behind) (order.order ∙ ap (last_order s.order) here)
    (λ pushed before h. c.in_ok-given.ensures.taken (pushed ++ units) before (subst (λ us. IsFedOf c.feed_units.new.feed s.lines (pushed ++ us) before) here (order.fed s.lines pushed before h))) was)

pub returns-clause-set : goal.returns-clause-set
returns-clause-set c =
    let s = c.args.self.now in
    set-same s.lines (stream_start s.feed) (stream_start c.take.new.self) (slots_of s.feed) (slots_of c.take.new.self) (length s.steppers.items) (length c.take_units.new.steppers.items) (c.take.ensures.first ∙ c.feed_units.ensures.first) (c.take.ensures.slots ∙ c.feed_units.ensures.slots)
    (gone-count s.lines s.goes s.time s.turn [] c.in_ok-units.units.items s.steppers.items c.replace-steppers.result.items c.take_units.new.steppers.items (ap (λ v. v.items) c.replace-steppers.ensures.value) c.in_ok-units.ensures.on)

pub returns-clause-rested : goal.returns-clause-rested
returns-clause-rested c =
    let s = c.args.self.now in
    let packed = ahead-packed c.args.turn s c.requires.ahead in
    let up = gone-up s.lines s.goes s.time s.turn [] c.in_ok-units.units.items c.replace-steppers.result.items c.take_units.new.steppers.items c.in_ok-units.ensures.on in
    rested-all s.lines s.goes s.time s.turn (c.args.turn + 250) (c.args.turn + 251) c.take_units.new.steppers.items up c.in_ok-units.ensures.after (omega arith) (omega arith)

pub take-requires-clause-lines_soon : goal.take-requires-clause-lines_soon
take-requires-clause-lines_soon c = let s = c.args.self.now in last-soon s.lines s.time s.lasting s.begun s.time_small
