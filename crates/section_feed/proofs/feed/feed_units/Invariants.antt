use Rattle.std.proofs.Common.{◌≡◌, ◌++◌, List, take}
use Rattle.plan_types.specs.Lines.{Clocks}
use Rattle.step_feed.specs.Units.{StepUnit}
use Rattle.step_feed.specs.Pacing.{Release}
use Rattle.step_feed.specs.Streams.{IsFedOf, stream_start, next_turn, slots_of}
use Rattle.section_feed.specs.Ordering.{last_order}
use Rattle.section_feed.proofs.feed.feed_units.Given as goal

abbrev pub invariant-loop-unit : goal.invariant-loop-unit
invariant-loop-unit l = record {
  fed : (clocks : Clocks) (pushed : List StepUnit) (released : List Release) → IsFedOf l.initial.feed clocks pushed released → IsFedOf l.feed clocks (pushed ++ take l.unit-index l.units) released;
  place : l.place ≡ last_order l.order (take l.unit-index l.units);
  next : next_turn l.feed ≡ next_turn l.initial.feed;
  first : stream_start l.feed ≡ stream_start l.initial.feed;
  slots : slots_of l.feed ≡ slots_of l.initial.feed;
}
