use Rattle.std.proofs.Common.{◌+◌, ◌*◌, ◌≤◌, arith, subst, sym, ap, ◌∙◌}
use Rattle.plan_types.specs.Clock.{turn_ns}
use Rattle.plan_types.specs.Lines.{Clocks}
use Rattle.clock_line.specs.Kept.{added}
use Rattle.section_feed.specs.Boards.{AreUpTo, IsLasting}
use Rattle.step_feed.specs.Streams.{next_turn}
use Rattle.section_feed.proofs.Lasts.{added-lasts}
use Rattle.section_feed.proofs.Lining.{MayHold, board-lined, lined-count, lined-due, lined-rested, lined-up, may-hold, order-lined}
use Rattle.section_feed.proofs.Merging.{due-none}
use Rattle.section_feed.proofs.Onboard.{up-none}
use Rattle.section_feed.proofs.board.BoardStream.add_line.Goals as goal

pub line_all-requires : goal.line_all-requires
line_all-requires c =
    let s = c.args.self.now in
    record {
      steppers = subst (λ v. ∥ AreUpTo s.lines s.goes s.time s.turn v.items ∥₁) (sym c.replace-steppers.ensures.value) s.up_to;
      lasting = s.lasting;
      may = c.requires.may;
      behind = c.requires.behind;
      small = s.time_small;
    }

pub add-requires : goal.add-requires
add-requires c =
    let s = c.args.self.now in
    let here : MayHold s.lines c.begin_of.result c.args.line = subst (λ t. MayHold s.lines t c.args.line) (sym c.begin_of.ensures) (may-hold s.lines c.args.turn c.args.line s.lasting c.requires.may) in
    record { after = here.after; fit = here.fit; tick_small = here.tick_small; start_small = here.start_small; plan_small = here.plan_small }

pub invariant_of-self : goal.invariant_of-self
invariant_of-self c =
    let s = c.args.self.now in
    let none = ap (λ v. v.items) c.replace-steppers.ensures.after ∙ c.new.ensures.items in
    record {
      lasting = s.lasting;
      begun = s.begun;
      begun_next = s.begun_next;
      ahead = s.ahead;
      time_small = s.time_small;
      up_to = up-none s.lines s.goes s.time s.turn _ none;
      near = s.near;
      due = due-none (next_turn s.feed + 250) _ none;
      handed = s.handed;
    }

pub returns-clause-on : goal.returns-clause-on
returns-clause-on c = λ kinds base parts released was. (
    let s = c.args.self.now in
    let lines = c.in_ok-add.ensures.ok ∙ ap (λ t. added s.lines t c.args.line) c.begin_of.ensures in
    board-lined s.lines c.add.new.self s.goes s.time s.turn c.args.turn c.args.line s.steppers.items c.replace-steppers.result.items c.line_all.new.steppers.items s.feed s.order kinds base parts released (ap (λ v. v.items) c.replace-steppers.ensures.value) lines s.lasting c.requires.may (let n = s.near in let b = c.requires.behind in omega arith) c.in_ok-line_all.ensures was)

pub returns-clause-count : goal.returns-clause-count
returns-clause-count c =
    let s = c.args.self.now in
    lined-count (added s.lines (c.args.turn * turn_ns) c.args.line) s.goes s.time s.turn c.args.turn s.steppers.items c.replace-steppers.result.items c.line_all.new.steppers.items (ap (λ v. v.items) c.replace-steppers.ensures.value) c.in_ok-line_all.ensures

pub returns-clause-rested : goal.returns-clause-rested
returns-clause-rested c = λ low before rested. (
    let s = c.args.self.now in
    lined-rested (added s.lines (c.args.turn * turn_ns) c.args.line) s.goes s.time s.turn c.args.turn low s.steppers.items c.replace-steppers.result.items c.line_all.new.steppers.items (ap (λ v. v.items) c.replace-steppers.ensures.value) before c.in_ok-line_all.ensures rested)

pub invariant_of-self-2 : goal.invariant_of-self-2
invariant_of-self-2 c =
    let s = c.args.self.now in
    let lines = c.in_ok-add.ensures.ok ∙ ap (λ t. added s.lines t c.args.line) c.begin_of.ensures in
    let back = sym lines in
    let items = ap (λ v. v.items) c.replace-steppers.ensures.value in
    let near = s.near in
    let behind = c.requires.behind in
    record {
      lasting = subst IsLasting back (added-lasts s.lines c.args.turn c.args.line s.lasting c.requires.may);
      begun = subst (λ (k : Clocks). k.first.at ≤ s.time) back s.begun;
      begun_next = subst (λ (k : Clocks). k.first.at ≤ (next_turn s.feed + 250) * turn_ns) back s.begun_next;
      ahead = s.ahead;
      time_small = s.time_small;
      up_to = subst (λ (k : Clocks). ∥ AreUpTo k s.goes s.time s.turn c.line_all.new.steppers.items ∥₁) back (lined-up (added s.lines (c.args.turn * turn_ns) c.args.line) s.goes s.time s.turn c.args.turn c.replace-steppers.result.items c.line_all.new.steppers.items c.in_ok-line_all.ensures);
      near = s.near;
      due = lined-due (added s.lines (c.args.turn * turn_ns) c.args.line) s.goes s.time s.turn c.args.turn (next_turn s.feed + 250) s.steppers.items c.replace-steppers.result.items c.line_all.new.steppers.items items (omega arith) c.in_ok-line_all.ensures s.due;
      handed = order-lined s.lines c.add.new.self c.args.turn (next_turn s.feed + 250) s.order c.args.line lines (omega arith) s.handed;
    }
