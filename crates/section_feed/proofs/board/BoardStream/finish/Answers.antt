use Rattle.std.proofs.Common.{◌≡◌, ◌+◌, [], Bool, true, false, length, subst, sym, ap, refl}
use Rattle.section_feed.specs.Boards.{AreUpTo}
use Rattle.section_feed.proofs.Onboard.{board-kept, gone-count, gone-up}
use Rattle.step_feed.specs.Streams.{stream_start, next_turn, slots_of}
use Rattle.section_feed.proofs.Merging.{gone-due}
use Rattle.section_feed.proofs.Setting.{set-same}
use Rattle.section_feed.proofs.board.BoardStream.finish.Goals as goal
use Rattle.plan_types.proofs.Facts.{false_true}

pub finish_all-requires : goal.finish_all-requires
finish_all-requires c =
    let s = c.args.self.now in
    record { steppers = subst (λ v. ∥ AreUpTo s.lines true s.time s.turn v.items ∥₁) (sym c.replace-steppers.ensures.value) (subst (λ (b : Bool). ∥ AreUpTo s.lines b s.time s.turn s.steppers.items ∥₁) c.if-self.true s.up_to); lasting = s.lasting; begun = s.begun; small = s.time_small }

pub invariant_of-self : goal.invariant_of-self
invariant_of-self c =
    let s = c.args.self.now in
    record {
      lasting = s.lasting;
      begun = s.begun;
      begun_next = s.begun_next;
      ahead = λ going. absurd (false_true going);
      time_small = s.time_small;
      up_to = gone-up s.lines false s.time s.turn [] [] c.replace-steppers.result.items c.finish_all.new.steppers.items c.finish_all.ensures;
      near = s.near;
      due = gone-due s.lines false s.time s.turn (next_turn s.feed + 250) [] [] s.steppers.items c.replace-steppers.result.items c.finish_all.new.steppers.items (ap (λ v. v.items) c.replace-steppers.ensures.value) c.finish_all.ensures s.due;
      handed = s.handed;
    }

pub returns-then-self-clause-on : goal.returns-then-self-clause-on
returns-then-self-clause-on c = λ kinds base parts released was. (
    let s = c.args.self.now in
    board-kept s.lines false s.time s.turn s.steppers.items c.replace-steppers.result.items c.finish_all.new.steppers.items s.feed s.order kinds base parts released (ap (λ v. v.items) c.replace-steppers.ensures.value) c.finish_all.ensures was)

pub returns-then-self-clause-set : goal.returns-then-self-clause-set
returns-then-self-clause-set c =
    let s = c.args.self.now in
    set-same s.lines (stream_start s.feed) (stream_start s.feed) (slots_of s.feed) (slots_of s.feed) (length s.steppers.items) (length c.finish_all.new.steppers.items) refl refl
    (gone-count s.lines false s.time s.turn [] [] s.steppers.items c.replace-steppers.result.items c.finish_all.new.steppers.items (ap (λ v. v.items) c.replace-steppers.ensures.value) c.finish_all.ensures)
