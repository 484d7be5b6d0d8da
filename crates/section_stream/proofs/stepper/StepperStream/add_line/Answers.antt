use Rattle.std.proofs.Common.{ℕ, ◌*◌, ap, arith}
use Rattle.std.proofs.Math.Logic.{∥∥₁_elim}
use Rattle.std.proofs.Props.{props}
use Rattle.plan_types.specs.Clock.{tick, turn_ns}
use Rattle.plan_types.specs.Lines.{Clocks}
use Rattle.section_stream.specs.Packs.{held_of, last_packed}
use Rattle.section_stream.specs.Plans.{stream_lines}
use Rattle.section_stream.specs.Stepping.{IsLeftFrom}
use Rattle.section_stream.proofs.Lining.{IsSound, MayAdd, asked-by, caught-added, later-added, stepping-added, still-sound, took-either}
use Rattle.section_stream.proofs.Stepped.{ended-left}
use Rattle.section_stream.proofs.stepper.StepperStream.add_line.Goals as goal

pub invariant_of-self : goal.invariant_of-self
invariant_of-self c =
    let s = c.args.self.now in
    let sound : IsSound s.steps s.drive s.pack s.turn = record { line = s.line; in_step = s.in_step; row = s.row; kept = s.kept; before = s.before } in
    let still = still-sound s.steps c.add_line.new.self s.drive s.pack s.turn c.args.from c.args.line c.requires.after c.requires.fit c.requires.order sound
    (took-either c.add_line.result s.steps c.add_line.new.self c.args.from c.args.line c.add_line.ensures.lines c.add_line.ensures.added c.add_line.ensures.unchanged) in
    record {
      drive_small = s.drive_small;
      line = still.line;
      line_valid = s.line_valid;
      from = s.from;
      in_step = still.in_step;
      early = s.early;
      row = still.row;
      kept = still.kept;
      before = still.before;
    }

pub returns-clause-added : goal.returns-clause-added
returns-clause-added c = λ base parts out pieces given h. (
    let s = c.args.self.now in
    let may : MayAdd (stream_lines s.steps) c.args.from c.args.line = record { kept = s.kept; after = c.requires.after; fit = c.requires.fit } in
    stepping-added s.steps c.add_line.new.self s.drive s.pack s.turn c.args.from c.args.line base parts out pieces given may c.requires.order s.line c.in_ok-add_line.ensures.lines c.in_ok-add_line.ensures.added h)

pub returns-clause-caught_up : goal.returns-clause-caught_up
returns-clause-caught_up c = λ turn order h. (
    let s = c.args.self.now in
    let clocks = stream_lines s.steps in
    let left : (t : ℕ) → IsLeftFrom t s.steps → IsLeftFrom t c.add_line.new.self = λ t l. ∥∥₁_elim s.in_step (hlevel props) (λ q.
    ended-left s.steps c.add_line.new.self s.drive s.pack s.turn t q (λ base segments asked out by. c.in_ok-add_line.ensures.added base segments asked out (asked-by s.drive.line clocks.first s.turn c.args.from asked s.line c.requires.order by)) (ap (λ (k : Clocks). k.first) c.in_ok-add_line.ensures.lines) c.add_line.ensures.gear (let e = c.add_line.ensures.end in omega arith) l) in
    caught-added s.steps c.add_line.new.self clocks (stream_lines c.add_line.new.self) turn c.args.from c.args.line (held_of s.pack) order c.in_ok-add_line.ensures.lines (left (tick clocks.first (turn * turn_ns))) h)

pub returns-clause-due : goal.returns-clause-due
returns-clause-due c = λ low order here h. (
    let s = c.args.self.now in
    let clocks = stream_lines s.steps in
    let left : (t : ℕ) → IsLeftFrom t s.steps → IsLeftFrom t c.add_line.new.self = λ t l. ∥∥₁_elim s.in_step (hlevel props) (λ q.
    ended-left s.steps c.add_line.new.self s.drive s.pack s.turn t q (λ base segments asked out by. c.in_ok-add_line.ensures.added base segments asked out (asked-by s.drive.line clocks.first s.turn c.args.from asked s.line c.requires.order by)) (ap (λ (k : Clocks). k.first) c.in_ok-add_line.ensures.lines) c.add_line.ensures.gear (let e = c.add_line.ensures.end in omega arith) l) in
    record {
      waits = h.waits;
      later = later-added s.steps c.add_line.new.self clocks (stream_lines c.add_line.new.self) low s.turn c.args.from c.args.line (held_of s.pack) (last_packed s.pack) order here c.in_ok-add_line.ensures.lines left h.later;
    })
