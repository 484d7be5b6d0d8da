use Rattle.std.proofs.Common.{◌≡◌, ◌+◌, Bool, true, false, [], length, arith, subst, sym, ap, refl, ◌∙◌}
use Rattle.section_feed.specs.Boards.{AreUpTo}
use Rattle.section_feed.proofs.Onboard.{board-kept, gone-count, gone-up, up-none}
use Rattle.step_feed.specs.Streams.{stream_start, next_turn, slots_of}
use Rattle.section_feed.proofs.Merging.{due-none, gone-due}
use Rattle.section_feed.proofs.Setting.{set-same}
use Rattle.section_feed.proofs.board.BoardStream.plan.Goals.{else-self-via-then-self+else-self-from, else-self-via-else-self}
use Rattle.section_feed.proofs.board.BoardStream.plan.Goals as goal
use Rattle.plan_types.proofs.Facts.{true_and_false}

pub plan_all-requires-clause-steppers : goal.plan_all-requires-clause-steppers
plan_all-requires-clause-steppers c =
    let s = c.args.self.now in
    subst (λ v. ∥ AreUpTo s.lines s.goes s.time s.turn v.items ∥₁) (sym c.replace-steppers.ensures.value) s.up_to

pub invariant_of-self-2 : goal.invariant_of-self-2
invariant_of-self-2 c =
    let s = c.args.self.now in
    record {
      lasting = s.lasting;
      begun = s.begun;
      begun_next = s.begun_next;
      ahead = λ going. elim c.else-self.branch [ else-self-via-then-self+else-self-from w ↦ (let t = w.if-self-from.false in let f = w.from.ensures in omega arith) | else-self-via-else-self w ↦ absurd (true_and_false going w.if-self.false) ];
      time_small = s.time_small;
      up_to = gone-up s.lines s.goes s.time c.args.turn [] [] c.replace-steppers.result.items c.plan_all.new.steppers.items c.in_ok-plan_all.ensures;
      near = (let n = s.near in let t = c.if-turn-self.false in omega arith);
      due = gone-due s.lines s.goes s.time c.args.turn (next_turn s.feed + 250) [] [] s.steppers.items c.replace-steppers.result.items c.plan_all.new.steppers.items (ap (λ v. v.items) c.replace-steppers.ensures.value) c.in_ok-plan_all.ensures s.due;
      handed = s.handed;
    }

pub returns-clause-on : goal.returns-clause-on
returns-clause-on c = λ kinds base parts released was. (
    let s = c.args.self.now in
    board-kept s.lines s.goes s.time c.args.turn s.steppers.items c.replace-steppers.result.items c.plan_all.new.steppers.items s.feed s.order kinds base parts released (ap (λ v. v.items) c.replace-steppers.ensures.value) c.in_ok-plan_all.ensures was)

pub returns-clause-set : goal.returns-clause-set
returns-clause-set c =
    let s = c.args.self.now in
    set-same s.lines (stream_start s.feed) (stream_start s.feed) (slots_of s.feed) (slots_of s.feed) (length s.steppers.items) (length c.plan_all.new.steppers.items) refl refl
    (gone-count s.lines s.goes s.time c.args.turn [] [] s.steppers.items c.replace-steppers.result.items c.plan_all.new.steppers.items (ap (λ v. v.items) c.replace-steppers.ensures.value) c.in_ok-plan_all.ensures)

pub invariant_of-self : goal.invariant_of-self
invariant_of-self c =
    let s = c.args.self.now in
    let none = ap (λ v. v.items) c.replace-steppers.ensures.after ∙ c.new.ensures.items in
    record {
      lasting = s.lasting;
      begun = s.begun;
      begun_next = s.begun_next;
      ahead = s.ahead;
      time_small = s.time_small;
      up_to = up-none s.lines s.goes s.time s.turn _ none;
      near = s.near;
      due = due-none (next_turn s.feed + 250) _ none;
      handed = s.handed;
    }
