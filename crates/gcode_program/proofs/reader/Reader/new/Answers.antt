use Rattle.std.proofs.Common.{◌≡◌, ℕ, ◌+◌, ◌<◌, ◌≤◌, List, [], length, arith, rules}
use Rattle.gcode_state.specs.Starts.{initial}
use Rattle.gcode_program.proofs.Lining.{read_first}
use Rattle.gcode_program.proofs.reader.Reader.new.Goals as goal

pub invariant_of-result : goal.invariant_of-result
unfolding initial
invariant_of-result c = record { small = λ e. record { near = omega arith; few = rw c.new.ensures (omega arith); lines_few = omega arith; passed_few = omega arith; dwell_small = omega arith } }

pub returns-clause-none : goal.returns-clause-none
returns-clause-none c =
    let none = c.new-2.ensures.items in
    record {
      place = λ e. rw none (omega arith);
      open_end = λ e. rw none (λ k l h. absurd (omega arith));
      read = λ more. read_first c.args.machine.now c.new.result c.new-2.result.items more c.new.ensures none;
    }
