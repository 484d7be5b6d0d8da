use Rattle.std.proofs.Common.{◌+◌, Bool, ap, sym, subst}
use Rattle.section_feed.specs.Queues.{is_taking}
use Rattle.section_feed.specs.declared.queue.MoveQueue.{MoveQueue}
use Rattle.section_feed.specs.Lined.{line_at}
use Rattle.section_stream.specs.Looking.{IsFuture}
use Rattle.section_feed.proofs.Following.{section-follows}
use Rattle.section_feed.proofs.Lined.{section-lined}
use Rattle.section_feed.proofs.Opening.{section-open}
use Rattle.section_feed.specs.On.{CanComplete}
use Rattle.section_feed.specs.Rests.{AreAllRested}
use Rattle.section_feed.specs.Sections.{boards_in, next_of}
use Rattle.section_feed.proofs.laws.lines_may_be_added.Goals as goal

pub returns-clause-section : goal.returns-clause-section
returns-clause-section c = section-lined

pub returns-clause-front : goal.returns-clause-front
returns-clause-front c = λ m clocks start homing old new moves all released b turn a line on future inside before may h there.
    section-follows m (line_at clocks b turn line) start homing new moves all released a (section-lined m clocks start homing old new moves released b turn line on inside before may h)
    (subst (λ (g : Bool). IsFuture g moves all) (ap (λ (q : MoveQueue). is_taking q) (sym h.queue)) future) there

pub returns-clause-going : goal.returns-clause-going
returns-clause-going c = λ m clocks start homing old new moves all released b turn a line on future rested inside before late may h there.
    let still = subst (λ n. AreAllRested (n + 250) (boards_in new)) (sym h.next) (h.rested (next_of old + 250) late rested) in
    let done = section-open m (line_at clocks b turn line) start homing new moves all released a (section-lined m clocks start homing old new moves released b turn line on inside before may h)
    (subst (λ (g : Bool). IsFuture g moves all) (ap (λ (q : MoveQueue). is_taking q) (sym h.queue)) future) still there in
    subst (λ n. ∥ CanComplete homing m (line_at clocks b turn line) all start a n (released a) ∥₁) h.next done
