use Rattle.std.proofs.Common.{◌≡◌, ℕ, List, Option, Some, None, IfSome, subst}
use Rattle.section_stream.specs.declared.stepper.StepperStream.{StepperStream}
use Rattle.section_feed.specs.declared.board.BoardStream.{BoardStream}
use Rattle.section_feed.specs.Released.{IsPast, last_in}
use Rattle.section_feed.specs.Wholes.{ArePast}
use Rattle.section_feed.proofs.Ending.{board-ends}
use Rattle.section_feed.proofs.Lasts.{last-soon}
use Rattle.section_feed.proofs.board.BoardStream.last_turn.Goals as goal

past : (b : BoardStream) (r : Option ℕ) → IfSome r (λ t. ArePast b.lines t b.steppers.items) → IfSome r (λ t. IsPast t b)
past b None h = tt
past b (Some t) h =
    let r = board-ends b.lines b.goes b.time b.turn b.steppers.items b.feed b.order t b.up_to h in
    record { within = r.within; packed = r.packed }

value : (b : BoardStream) (r : Option ℕ) → IfSome r (λ t. ArePast b.lines t b.steppers.items) → IfSome r (λ t. t ≡ last_in b)
value b None h = tt
value b (Some t) h = h.last

here : (c : goal.After-last_turn) → IfSome c.last_turn.result (λ t. ArePast c.args.self.now.lines t c.args.self.now.steppers.items)
here c = subst (λ (ss : List StepperStream). IfSome c.last_turn.result (λ t. ArePast c.args.self.now.lines t ss)) c.deref.ensures.value c.last_turn.ensures.past

pub returns-clause-past : goal.returns-clause-past
returns-clause-past c = past c.args.self.now c.last_turn.result (here c)

pub returns-clause-value : goal.returns-clause-value
returns-clause-value c = value c.args.self.now c.last_turn.result (here c)

pub last_turn-requires : goal.last_turn-requires
last_turn-requires c = let s = c.args.self.now in last-soon s.lines s.time s.lasting s.begun s.time_small
