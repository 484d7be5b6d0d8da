use Rattle.board_sim.proofs.Used.{none_earliest, rest_regular}
use Rattle.board_sim.proofs.machine.earliest.Goals as goal

pub loop-oid-init : goal.loop-oid-init
loop-oid-init c = record {
  within = c.requires.used.within;
  next = λ r e. none_earliest c.args.used c.args.slots.now r c.args.until c.requires.used;
  regular = rest_regular c.args.used c.args.slots.now c.requires.used;
}
