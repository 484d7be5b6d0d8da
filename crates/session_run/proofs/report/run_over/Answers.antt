use Rattle.std.proofs.Common.{◌∙◌, ap, inl, length, refl, rules}
use Rattle.session_run.specs.Reported.{IsFresh, run_lines}
use Rattle.session_run.proofs.Reporting.{counts-few, given_plain, of-run, quiet-for, read-for, run-for, shows, steady-for, tells-none, tells-some, write-for}
use Rattle.session_run.proofs.report.run_over.Goals as goal

pub returns-in-Some-clause-ends : goal.returns-in-Some-clause-ends
returns-in-Some-clause-ends g c =
    let f = g.F.Files in
    let o = g.S.Sink in
    let m = c.args.job.now.machine.now in
    let kept-so = c.nothing_kept-kept.ensures in
    let fresh : IsFresh (length c.args.job.now.machine.now.steppers) c.nothing_kept-kept.result = record { lines = kept-so.lines; counts = search rules; at = kept-so.at; unwritten = kept-so.unwritten; unread = kept-so.unread } in
    let r = c.in-Some.ensures.ran in
    let e = c.end_report-cause.ensures in
    let t = c.in-Some.told in
    let kept = c.nothing_kept-kept.result in
    let kept' = c.run_file.new.kept in
    let all = run_lines f o m c.args.job.now.scene.now c.args.job.now.name.now c.args.files.now c.args.out.now kept t c.run_file.new.files c.run_file.new.out kept' r in
    let s = shows m (o.written c.args.out.now) (o.written c.run_file.new.out) (o.written c.end_report-cause.new.out) c.end_report-cause.result t.cause kept.unwritten kept'.unwritten (o.faults c.args.out.now) (o.faults c.run_file.new.out) all kept.lines kept'.lines c.end_report-cause.new.kept.lines (length m.steppers) kept.counts.items kept'.counts.items
    fresh.unwritten fresh.lines fresh.counts r.runs.8.tells e.lines e.cause e.front e.all (λ w x. (ap (λ (p : _). o.written p) (e.stopped w x).0, (e.stopped w x).1)) in
    inl record {
      told = t;
      kept = kept;
      fresh = fresh;
      behind = c.run_file.new.out;
      kept' = kept';
      runs = r;
      links_are = refl;
      said = s.said;
      rest = s.rest;
      shown = s.are;
      own = s.own;
      end = s.end;
      counted = c.of.ensures ∙ ap (λ (v : _). v.items) e.counted ∙ s.counted;
      written = s.written;
      own_is = s.own_is;
      given_is = s.given_is;
      cause_is = s.cause_is;
    }

pub returns-in-Some-clause-read : goal.returns-in-Some-clause-read
returns-in-Some-clause-read g c =
    let r = c.in-Some.ensures.ran in
    let kept-so = c.nothing_kept-kept.ensures in
    let fresh : IsFresh (length c.args.job.now.machine.now.steppers) c.nothing_kept-kept.result = record { lines = kept-so.lines; counts = search rules; at = kept-so.at; unwritten = kept-so.unwritten; unread = kept-so.unread } in
    let for = run-for g.F.Files g.S.Sink c.args.job.now.machine.now c.args.job.now.scene.now c.args.job.now.name.now c.args.files.now c.args.out.now c.nothing_kept-kept.result c.in-Some.told c.run_file.new.files c.run_file.new.out c.run_file.new.kept fresh r in
    read-for c.run_file.new.kept.unwritten c.nothing_kept-kept.result.unread c.run_file.new.kept.unread c.end_report-cause.result c.in-Some.told.cause _ _ fresh.unread r.runs.8.reads for (given_plain _ c.end_report-cause.result c.end_report-cause.ensures.cause)

pub returns-in-Some-clause-write : goal.returns-in-Some-clause-write
returns-in-Some-clause-write g c =
    let r = c.in-Some.ensures.ran in
    let e = c.end_report-cause.ensures in
    let o = g.S.Sink in
    let kept-so = c.nothing_kept-kept.ensures in
    let fresh : IsFresh (length c.args.job.now.machine.now.steppers) c.nothing_kept-kept.result = record { lines = kept-so.lines; counts = search rules; at = kept-so.at; unwritten = kept-so.unwritten; unread = kept-so.unread } in
    let for = run-for g.F.Files g.S.Sink c.args.job.now.machine.now c.args.job.now.scene.now c.args.job.now.name.now c.args.files.now c.args.out.now c.nothing_kept-kept.result c.in-Some.told c.run_file.new.files c.run_file.new.out c.run_file.new.kept fresh r in
    write-for c.run_file.new.kept.unwritten c.run_file.new.kept.unread c.end_report-cause.result c.in-Some.told.cause (o.faults c.args.out.now) (o.faults c.run_file.new.out) (o.faults c.end_report-cause.new.out)
    (tells-none c.args.job.now.machine.now (run_lines g.F.Files g.S.Sink c.args.job.now.machine.now c.args.job.now.scene.now c.args.job.now.name.now c.args.files.now c.args.out.now c.nothing_kept-kept.result c.in-Some.told c.run_file.new.files c.run_file.new.out c.run_file.new.kept r) c.nothing_kept-kept.result.unwritten (o.written c.args.out.now) (o.faults c.args.out.now) c.nothing_kept-kept.result.lines c.nothing_kept-kept.result.counts.items c.run_file.new.kept.unwritten (o.written c.run_file.new.out) (o.faults c.run_file.new.out) c.run_file.new.kept.lines c.run_file.new.kept.counts.items fresh.unwritten r.runs.8.tells)
    (λ s x. (tells-some c.args.job.now.machine.now (run_lines g.F.Files g.S.Sink c.args.job.now.machine.now c.args.job.now.scene.now c.args.job.now.name.now c.args.files.now c.args.out.now c.nothing_kept-kept.result c.in-Some.told c.run_file.new.files c.run_file.new.out c.run_file.new.kept r) c.nothing_kept-kept.result.unwritten (o.written c.args.out.now) (o.faults c.args.out.now) c.nothing_kept-kept.result.lines c.nothing_kept-kept.result.counts.items c.run_file.new.kept.unwritten (o.written c.run_file.new.out) (o.faults c.run_file.new.out) c.run_file.new.kept.lines c.run_file.new.kept.counts.items s fresh.unwritten r.runs.8.tells x, ap (λ (p : _). o.faults p) (e.stopped s x).0, (e.stopped s x).1))
    e.failed for

pub returns-in-Some-clause-quiet_files : goal.returns-in-Some-clause-quiet_files
returns-in-Some-clause-quiet_files g c =
    let r = c.in-Some.ensures.ran in
    let kept-so = c.nothing_kept-kept.ensures in
    let fresh : IsFresh (length c.args.job.now.machine.now.steppers) c.nothing_kept-kept.result = record { lines = kept-so.lines; counts = search rules; at = kept-so.at; unwritten = kept-so.unwritten; unread = kept-so.unread } in
    let for = run-for g.F.Files g.S.Sink c.args.job.now.machine.now c.args.job.now.scene.now c.args.job.now.name.now c.args.files.now c.args.out.now c.nothing_kept-kept.result c.in-Some.told c.run_file.new.files c.run_file.new.out c.run_file.new.kept fresh r in
    quiet-for c.run_file.new.kept.unwritten c.nothing_kept-kept.result.unread c.run_file.new.kept.unread c.end_report-cause.result c.in-Some.told.cause _ _ fresh.unread r.runs.8.reads for (given_plain _ c.end_report-cause.result c.end_report-cause.ensures.cause)

pub returns-in-Some-clause-quiet_output : goal.returns-in-Some-clause-quiet_output
returns-in-Some-clause-quiet_output g c =
    let r = c.in-Some.ensures.ran in
    let e = c.end_report-cause.ensures in
    let o = g.S.Sink in
    let kept-so = c.nothing_kept-kept.ensures in
    let fresh : IsFresh (length c.args.job.now.machine.now.steppers) c.nothing_kept-kept.result = record { lines = kept-so.lines; counts = search rules; at = kept-so.at; unwritten = kept-so.unwritten; unread = kept-so.unread } in
    steady-for c.run_file.new.kept.unwritten c.end_report-cause.result c.in-Some.told.cause (o.faults c.args.out.now) (o.faults c.run_file.new.out) (o.faults c.end_report-cause.new.out)
    (tells-none c.args.job.now.machine.now (run_lines g.F.Files g.S.Sink c.args.job.now.machine.now c.args.job.now.scene.now c.args.job.now.name.now c.args.files.now c.args.out.now c.nothing_kept-kept.result c.in-Some.told c.run_file.new.files c.run_file.new.out c.run_file.new.kept r) c.nothing_kept-kept.result.unwritten (o.written c.args.out.now) (o.faults c.args.out.now) c.nothing_kept-kept.result.lines c.nothing_kept-kept.result.counts.items c.run_file.new.kept.unwritten (o.written c.run_file.new.out) (o.faults c.run_file.new.out) c.run_file.new.kept.lines c.run_file.new.kept.counts.items fresh.unwritten r.runs.8.tells) (λ s x. (e.stopped s x).1) e.steady

pub returns-in-Some-clause-of_run : goal.returns-in-Some-clause-of_run
returns-in-Some-clause-of_run g c =
    let r = c.in-Some.ensures.ran in
    let kept-so = c.nothing_kept-kept.ensures in
    let fresh : IsFresh (length c.args.job.now.machine.now.steppers) c.nothing_kept-kept.result = record { lines = kept-so.lines; counts = search rules; at = kept-so.at; unwritten = kept-so.unwritten; unread = kept-so.unread } in
    let for = run-for g.F.Files g.S.Sink c.args.job.now.machine.now c.args.job.now.scene.now c.args.job.now.name.now c.args.files.now c.args.out.now c.nothing_kept-kept.result c.in-Some.told c.run_file.new.files c.run_file.new.out c.run_file.new.kept fresh r in
    of-run c.run_file.new.kept.unwritten c.run_file.new.kept.unread c.end_report-cause.result c.in-Some.told.cause for (given_plain _ c.end_report-cause.result c.end_report-cause.ensures.cause)

pub returns-in-Some-clause-counts : goal.returns-in-Some-clause-counts
returns-in-Some-clause-counts g c =
    let f = g.F.Files in
    let o = g.S.Sink in
    let m = c.args.job.now.machine.now in
    let kept-so = c.nothing_kept-kept.ensures in
    let fresh : IsFresh (length c.args.job.now.machine.now.steppers) c.nothing_kept-kept.result = record { lines = kept-so.lines; counts = search rules; at = kept-so.at; unwritten = kept-so.unwritten; unread = kept-so.unread } in
    let r = c.in-Some.ensures.ran in
    let e = c.end_report-cause.ensures in
    let t = c.in-Some.told in
    let kept = c.nothing_kept-kept.result in
    let kept' = c.run_file.new.kept in
    let all = run_lines f o m c.args.job.now.scene.now c.args.job.now.name.now c.args.files.now c.args.out.now kept t c.run_file.new.files c.run_file.new.out kept' r in
    let s = shows m (o.written c.args.out.now) (o.written c.run_file.new.out) (o.written c.end_report-cause.new.out) c.end_report-cause.result t.cause kept.unwritten kept'.unwritten (o.faults c.args.out.now) (o.faults c.run_file.new.out) all kept.lines kept'.lines c.end_report-cause.new.kept.lines (length m.steppers) kept.counts.items kept'.counts.items
    fresh.unwritten fresh.lines fresh.counts r.runs.8.tells e.lines e.cause e.front e.all (λ w x. (ap (λ (p : _). o.written p) (e.stopped w x).0, (e.stopped w x).1)) in
    counts-few (length m.steppers) c.of.result s.said (c.of.ensures ∙ ap (λ (v : _). v.items) e.counted ∙ s.counted)
