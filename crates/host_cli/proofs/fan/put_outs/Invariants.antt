use Rattle.std.proofs.Common.{◌≡◌, ◌++◌, map, take}
use Rattle.host_cli.specs.Fans.{out_line}
use Rattle.host_cli.proofs.fan.put_outs.Given as goal

abbrev pub invariant-loop-want : goal.invariant-loop-want
invariant-loop-want l = l.lines.items ≡ l.fn.lines.items ++ map (out_line l.fan) (take l.want-index l.outs)
