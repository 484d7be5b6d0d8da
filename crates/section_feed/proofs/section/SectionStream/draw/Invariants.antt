use Rattle.std.proofs.Common.{◌≡◌, ℕ, List}
use Rattle.plan_types.specs.declared.plan.Move.{Move}
use Rattle.step_feed.specs.Pacing.{Release}
use Rattle.section_stream.specs.Steppers.{StepperKind}
use Rattle.section_feed.specs.Queues.{begin_in, count_in, cruise_in, is_taking}
use Rattle.section_feed.specs.Sections.{IsSectionOf, boards_of, next_of, queue_of, sets_of}
use Rattle.section_feed.proofs.section.SectionStream.draw.Given as goal

abbrev pub invariant-loop : goal.invariant-loop
invariant-loop l = record {
  on : (scv : ℕ) (moves : List Move) (kinds : ℕ → ℕ → StepperKind) (base : ℕ → ℕ) (released : ℕ → List Release) → IsSectionOf l.initial.self scv moves kinds base released → IsSectionOf l.self scv moves kinds base released;
  taking : is_taking (queue_of l.self) ≡ is_taking (queue_of l.initial.self);
  count : count_in (queue_of l.self) ≡ count_in (queue_of l.initial.self);
  next : next_of l.self ≡ next_of l.initial.self;
  cruise : cruise_in (queue_of l.self) ≡ cruise_in (queue_of l.initial.self);
  begin : begin_in (queue_of l.self) ≡ begin_in (queue_of l.initial.self);
  boards : boards_of l.self ≡ boards_of l.initial.self;
  sets : sets_of l.self ≡ sets_of l.initial.self;
}
