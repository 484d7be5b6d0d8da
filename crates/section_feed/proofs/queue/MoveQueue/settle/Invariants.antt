use Rattle.std.proofs.Common.{◌≡◌, ℕ, List}
use Rattle.plan_types.specs.declared.plan.Move.{Move}
use Rattle.plan_types.specs.Sections.{TimedPart}
use Rattle.section_feed.specs.Queues.{IsQueueOf, begin_in, count_in, cruise_in, drawn_to, is_taking}
use Rattle.section_feed.proofs.queue.MoveQueue.settle.Given as goal

abbrev pub invariant-loop : goal.invariant-loop
invariant-loop l = record {
  on : (scv : ℕ) (moves : List Move) (parts : List TimedPart) → IsQueueOf l.initial.self scv moves parts → IsQueueOf l.self scv moves parts;
  open_is : is_taking l.self ≡ is_taking l.initial.self;
  count : count_in l.self ≡ count_in l.initial.self;
  drawn : drawn_to l.self ≡ drawn_to l.initial.self;
  cruise : cruise_in l.self ≡ cruise_in l.initial.self;
  begin : begin_in l.self ≡ begin_in l.initial.self;
}
