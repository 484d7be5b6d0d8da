use Rattle.laws_run.proofs.home_headline.Clear.{time_near}
use Rattle.laws_run.proofs.clear_homes.Timed.{front_near, front_timed, run_near, run_switches, run_takes, run_timely}
use Rattle.laws_run.proofs.clear_homes.clear_runs_take_near.Goals as goal

pub returns : goal.returns
returns g c = record {
  near = λ m s name files files' out out' kept kept' t r v short text other clear timely. run_near g.F.Files g.S.Sink m s name files files' out out' kept kept' t r v short text clear other timely;
  before = λ m s name files files' out out' kept kept' t r v short text turns last cut front later are long clear timely.
      front_near g.F.Files g.S.Sink m s name files files' out out' kept kept' t r v short text clear turns last cut front later are long timely;
  in_time = λ m s name files files' out out' kept kept' t r v short text other clear timely. run_takes g.F.Files g.S.Sink m s name files files' out out' kept kept' t r v short text clear other timely;
  switches = λ m s name files files' out out' kept kept' t r v short text told at other clear timely. run_switches g.F.Files g.S.Sink m s name files files' out out' kept kept' t r v short text clear other timely told at;
  timely = λ m s name files files' out out' kept kept' t r v short text other clear sends. run_timely g.F.Files g.S.Sink m s name files files' out out' kept kept' t r v short text clear other sends;
  timely_before = λ m s name files files' out out' kept kept' t r v short text turns last cut front later are long clear sends.
      front_timed g.F.Files g.S.Sink m s name files files' out out' kept kept' t r v short text clear turns last cut front later are long sends;
  sent = time_near;
}
