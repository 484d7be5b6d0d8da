-- Moves whose speeds are final, and which wait for the steppers.
use Rattle.std.specs.Prelude.{◌≡◌, ℕ, ◌+◌, Bool, false, List, [], ◌∷◌, ◌++◌, length}
use Rattle.plan_types.specs.declared.plan.Move.{Move}
use Rattle.plan_types.specs.Sections.{TimedPart, duration, timed}
use Rattle.section_stream.specs.declared.moves.MoveStream.{MoveStream}
use Rattle.section_stream.specs.declared.ready.Ready.{Ready}
use Rattle.section_stream.specs.Moving.{IsMovesOf, begin_of, cruise_of, given_count, is_open, pushed_count, time_of}
use Rattle.section_feed.specs.declared.queue.MoveQueue.{MoveQueue}

-- the parts of moves one behind the other, from a time on
abbrev pub waiting_parts : ℕ → List Ready → List TimedPart
waiting_parts time [] = []
waiting_parts time (r ∷ rs) = timed r.one 0 time r.parts ++ waiting_parts (time + duration r.parts) rs

-- when they end
abbrev pub waiting_end : ℕ → List Ready → ℕ
waiting_end time [] = time
waiting_end time (r ∷ rs) = waiting_end (time + duration r.parts) rs

-- these moves were pushed; of those whose speeds are final the first ones were taken out, with these parts
pub record AreQueued (moves : MoveStream) (drawn : ℕ) (ready : List Ready) (scv : ℕ) (all : List Move)
    (parts : List TimedPart) : Type 0 where
  pub made : List TimedPart
  pub moves_are : IsMovesOf moves scv all made
  pub split : made ≡ parts ++ waiting_parts drawn ready
  pub ends : time_of moves ≡ waiting_end drawn ready

-- a queue of moves was given these, and gave these parts of them
abbrev pub IsQueueOf : MoveQueue → ℕ → List Move → List TimedPart → Type 0
IsQueueOf q scv moves parts = AreQueued q.moves q.drawn q.ready.items scv moves parts

-- when the moves end that were taken out
abbrev pub drawn_to : MoveQueue → ℕ
drawn_to q = q.drawn

-- when those end whose speeds are final
abbrev pub settled_to : MoveQueue → ℕ
settled_to q = time_of q.moves

-- whether more moves may be pushed
abbrev pub is_taking : MoveQueue → Bool
is_taking q = is_open q.moves

-- how many moves were pushed
abbrev pub count_in : MoveQueue → ℕ
count_in q = pushed_count q.moves

-- the least share of each move that cruises
abbrev pub cruise_in : MoveQueue → ℕ
cruise_in q = cruise_of q.moves

-- when the section begins
abbrev pub begin_in : MoveQueue → ℕ
begin_in q = begin_of q.moves

-- how many moves wait
abbrev pub waiting_in : MoveQueue → ℕ
waiting_in q = length q.ready.items

-- no more moves come, and all were taken out
pub record IsDrawn (q : MoveQueue) : Type 0 where
  pub over : is_taking q ≡ false
  pub given : given_count q.moves ≡ pushed_count q.moves
  pub none : waiting_in q ≡ 0
