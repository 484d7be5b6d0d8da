use Rattle.std.proofs.Common.{ℕ, ◌+◌, [], Bool, true, length, arith, subst, sym, ap, refl, ◌∙◌}
use Rattle.plan_types.specs.Sections.{duration, timed}
use Rattle.section_feed.specs.Boards.{AreUpTo}
use Rattle.section_feed.proofs.Onboard.{board-pushed, gone-count, gone-up, up-none}
use Rattle.step_feed.specs.Streams.{stream_start, next_turn, slots_of}
use Rattle.section_feed.proofs.Merging.{due-none, gone-due}
use Rattle.section_feed.proofs.Setting.{set-same}
use Rattle.section_feed.proofs.board.BoardStream.push.Goals as goal

pub push_all-requires-clause-steppers : goal.push_all-requires-clause-steppers
push_all-requires-clause-steppers c =
    let s = c.args.self.now in
    subst (λ v. ∥ AreUpTo s.lines true s.time s.turn v.items ∥₁) (sym c.replace-steppers.ensures.value) (subst (λ (b : Bool). ∥ AreUpTo s.lines b s.time s.turn s.steppers.items ∥₁) c.requires.going s.up_to)

pub invariant_of-self-2 : goal.invariant_of-self-2
invariant_of-self-2 c =
    let s = c.args.self.now in
    let up = gone-up s.lines true (s.time + duration c.args.ready.now.parts) s.turn (timed c.args.ready.now.one 0 s.time c.args.ready.now.parts) [] c.replace-steppers.result.items c.push_all.new.steppers.items c.in_ok-push_all.ensures in
    record {
      lasting = s.lasting;
      begun = (let b = s.begun in omega arith);
      begun_next = s.begun_next;
      ahead = λ going. (let a = s.ahead going in omega arith);
      time_small = (let t = c.if-end-ge-MOST_NS.false in omega arith);
      up_to = subst (λ (b : Bool). ∥ AreUpTo s.lines b (s.time + c.duration.result) s.turn c.push_all.new.steppers.items ∥₁) (sym c.requires.going) (subst (λ (d : ℕ). ∥ AreUpTo s.lines true (s.time + d) s.turn c.push_all.new.steppers.items ∥₁) (sym c.duration.ensures) up);
      near = s.near;
      due = gone-due s.lines true (s.time + duration c.args.ready.now.parts) s.turn (next_turn s.feed + 250) (timed c.args.ready.now.one 0 s.time c.args.ready.now.parts) [] s.steppers.items c.replace-steppers.result.items c.push_all.new.steppers.items (ap (λ v. v.items) c.replace-steppers.ensures.value) c.in_ok-push_all.ensures s.due;
      handed = s.handed;
    }

pub returns-clause-on : goal.returns-clause-on
returns-clause-on c = λ kinds base parts released was. (
    let s = c.args.self.now in
    board-pushed s.lines true (s.time + duration c.args.ready.now.parts) s.turn (timed c.args.ready.now.one 0 s.time c.args.ready.now.parts) s.steppers.items c.replace-steppers.result.items c.push_all.new.steppers.items s.feed s.order kinds base parts released (ap (λ v. v.items) c.replace-steppers.ensures.value) c.in_ok-push_all.ensures was)

pub returns-clause-set : goal.returns-clause-set
returns-clause-set c =
    let s = c.args.self.now in
    set-same s.lines (stream_start s.feed) (stream_start s.feed) (slots_of s.feed) (slots_of s.feed) (length s.steppers.items) (length c.push_all.new.steppers.items) refl refl
    (gone-count s.lines true (s.time + duration c.args.ready.now.parts) s.turn (timed c.args.ready.now.one 0 s.time c.args.ready.now.parts) [] s.steppers.items c.replace-steppers.result.items c.push_all.new.steppers.items (ap (λ v. v.items) c.replace-steppers.ensures.value) c.in_ok-push_all.ensures)

pub invariant_of-self : goal.invariant_of-self
invariant_of-self c =
    let s = c.args.self.now in
    let none = ap (λ v. v.items) c.replace-steppers.ensures.after ∙ c.new.ensures.items in
    record {
      lasting = s.lasting;
      begun = s.begun;
      begun_next = s.begun_next;
      ahead = s.ahead;
      time_small = s.time_small;
      up_to = up-none s.lines s.goes s.time s.turn _ none;
      near = s.near;
      due = due-none (next_turn s.feed + 250) _ none;
      handed = s.handed;
    }
