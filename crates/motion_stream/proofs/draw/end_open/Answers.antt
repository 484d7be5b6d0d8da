use Rattle.std.proofs.Common.{◌+◌, List, ap, length, subst, sym, true, ◌∙◌}
use Rattle.step_feed.specs.Units.{StepUnit}
use Rattle.motion_stream.specs.declared.course.Course.{Course}
use Rattle.motion_stream.specs.declared.course.Open.{Open}
use Rattle.motion_stream.specs.Gone.{EndsOpen}
use Rattle.motion_stream.specs.Rows.{AreJoined}
use Rattle.motion_stream.proofs.draw.end_open.Goals as goal

pub returns : goal.returns
returns c =
    let old = c.args.course.now in
    let last = c.in_ok-rows.field-0 in
    let ahead = c.in_ok-course.field-0 in
    let boards = length c.args.machine.now.boards in
    let With : Open → Course = λ o. record old { ready = last.end + 260; goes = true; current = o; ahead = ahead } in
    let From : Open → Type 0 = λ o. EndsOpen boards old o (With c.replace.new.dest) in
    let joined = subst (λ (rs : List (List (List StepUnit))). AreJoined c.len.result rs last.rows.items ahead.items) (ap (λ q. q.items) c.replace-ahead.ensures.value) c.in_ok-course.ensures in
    subst From (sym c.in-Goes.is ∙ c.replace.ensures.value) (record {
      last = last.section;
      rows = last.rows.items;
      end = last.end;
      given = c.in_ok-rows.ensures.given;
      ended = c.in_ok-rows.ensures.ended;
      joined = subst (λ n. AreJoined n old.ahead.items last.rows.items ahead.items) c.len.ensures joined;
      others = ap With c.replace.ensures.after;
    })
