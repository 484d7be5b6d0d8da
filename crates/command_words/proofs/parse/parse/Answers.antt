use Rattle.std.proofs.Common.{map, string_bytes}
use Rattle.clap.specs.Words.{app_of}
use Rattle.command_words.proofs.Answers.{err_call, ok_call, some_call}
use Rattle.command_words.proofs.parse.parse.Goals as goal

pub returns-in-Ok : goal.returns-in-Ok
returns-in-Ok c =
    let ws = map string_bytes c.args.words.now in
    let m = c.in-Ok.ensures in
    record {
      found = ok_call (app_of c.in_ok-command.command) ws c.in_ok-command.ensures c.requires c.in-Ok.matches m.kinds m.matches;
      some = some_call (app_of c.in_ok-command.command) ws c.in_ok-command.ensures c.requires m.kinds;
      usage = tt;
    }

pub returns-in-Err : goal.returns-in-Err
returns-in-Err c =
    let ws = map string_bytes c.args.words.now in
    record {
      found = tt;
      some = tt;
      usage = λ usage. err_call (app_of c.in_ok-command.command) ws c.in_ok-command.ensures c.requires c.kind.result (λ free. rw c.kind.ensures (c.in-Err.ensures.kinds free)) (c.fault_of.ensures usage);
    }
