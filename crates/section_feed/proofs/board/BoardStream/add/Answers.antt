use Rattle.std.proofs.Common.{◌+◌, ◌*◌, ◌++◌, ◌∷◌, [], ◌∙◌, length, sym, ap, arith}
use Rattle.plan_types.specs.Clock.{turn_ns}
use Rattle.std.proofs.Math.Logic.{∥∥₁_map}
use Rattle.section_feed.specs.Boards.{IsUpTo}
use Rattle.section_stream.specs.Steppers.{StepperKind}
use Rattle.section_feed.proofs.Lasts.{lines-from, lines-small}
use Rattle.section_feed.proofs.Boarding.{new-up, up-added}
use Rattle.step_feed.specs.Streams.{next_turn}
use Rattle.section_feed.proofs.Merging.{due-added, due-new, due-none}
use Rattle.section_feed.proofs.Onboard.{board-added, up-none}
use Rattle.section_feed.proofs.board.BoardStream.add.Goals as goal

pub invariant_of-self-2 : goal.invariant_of-self-2
invariant_of-self-2 c =
    let s = c.args.self.now in
    let one = c.in_ok-one in
    let count = c.requires.number in
    let oid = ap (λ (k : StepperKind). k.oid) one.ensures.kind in
    let here : IsUpTo s.lines s.goes s.time s.turn (length s.steppers.items) one.one = new-up s.lines s.goes s.time s.turn (length s.steppers.items) one.one c.requires.going c.requires.begins one.ensures.lines one.ensures.turn one.ensures.end one.ensures.caught_up (oid ∙ count) in
    record {
      lasting = s.lasting;
      begun = s.begun;
      begun_next = s.begun_next;
      ahead = s.ahead;
      time_small = s.time_small;
      up_to = ∥∥₁_map s.up_to (λ up. up-added s.lines s.goes s.time s.turn s.steppers.items c.push.new.self.items one.one up here (c.in_ok-push.ensures.items ∙ ap (λ v. v.items ++ one.one ∷ []) c.replace-steppers.ensures.value));
      near = s.near;
      due = due-added (next_turn s.feed + 250) s.steppers.items c.push.new.self.items one.one s.due (due-new s.lines (next_turn s.feed + 250) s.turn one.one s.near one.ensures.lines one.ensures.packed one.ensures.none) (c.in_ok-push.ensures.items ∙ ap (λ v. v.items ++ one.one ∷ []) c.replace-steppers.ensures.value);
      handed = s.handed;
    }

pub returns-clause-empty : goal.returns-clause-empty
returns-clause-empty c = λ kinds was kind. (
    let s = c.args.self.now in
    let one = c.in_ok-one in
    board-added s.feed s.lines s.order kinds _ s.steppers.items c.replace-steppers.result.items c.push.new.self.items one.one (ap (λ v. v.items) c.replace-steppers.ensures.value) c.in_ok-push.ensures.items one.ensures.empty (one.ensures.kind ∙ sym kind) was)

pub invariant_of-self : goal.invariant_of-self
invariant_of-self c =
    let s = c.args.self.now in
    record { lasting = s.lasting; begun = s.begun; begun_next = s.begun_next; ahead = s.ahead; time_small = s.time_small; up_to = s.up_to; near = s.near; due = s.due; handed = s.handed }

pub invariant_of-self-in-Break-branch-2 : goal.invariant_of-self-in-Break-branch-2
invariant_of-self-in-Break-branch-2 c =
    let s = c.args.self.now in
    let none = ap (λ v. v.items) c.replace-steppers.ensures.after ∙ c.new-2.ensures.items in
    record {
      lasting = s.lasting;
      begun = s.begun;
      begun_next = s.begun_next;
      ahead = s.ahead;
      time_small = s.time_small;
      up_to = up-none s.lines s.goes s.time s.turn _ none;
      near = s.near;
      due = due-none (next_turn s.feed + 250) _ none;
      handed = s.handed;
    }

pub new-requires-clause-from : goal.new-requires-clause-from
new-requires-clause-from c = let s = c.args.self.now in lines-from s.lines (s.turn * turn_ns)

pub new-requires-clause-base_small : goal.new-requires-clause-base_small
new-requires-clause-base_small c =
    let s = c.args.self.now in
    let small = s.time_small in
    let begins = c.requires.begins in
    lines-small s.lines (s.turn * turn_ns) s.lasting (omega arith)
