-- What a stream of steps has given, and what it still has.
use Rattle.std.specs.Prelude.{◌≡◌, ℕ, ◌≤◌, List, [], ◌∷◌, ◌++◌, All, IsTrue, drop, map, take_while}
use Rattle.plan_types.specs.declared.plan.Gear.{Gear}
use Rattle.plan_types.specs.declared.plan.Planned.{Planned}
use Rattle.plan_types.specs.declared.plan.Segment.{Segment}
use Rattle.plan_types.specs.Lines.{Clocks}
use Rattle.plan_types.specs.Plan.{cancel_reach, filtered, on_board, spaced}
use Rattle.plan_types.specs.Steps.{raw_steps}
use Rattle.step_ticks.specs.Due.{is_due}
use Rattle.step_ticks.specs.declared.stream.StepStream.{StepStream}

-- the planned steps that are due: those kept by the filter, up to the first one that is not due
abbrev pub due_steps : Gear → Clocks → List Segment → ℕ → ℕ → ℕ → List Planned
due_steps gear clocks segments base until end =
    let reach = cancel_reach clocks.first.freq in
    spaced base (map (on_board clocks)
    (take_while (is_due reach until end) (filtered reach (raw_steps gear clocks.first.freq segments))))

-- the ticks do not fall, from one on
abbrev pub AreRising : ℕ → List Planned → Type 0
AreRising from [] = Unit {0}
AreRising from (s ∷ steps) = from ≤ s.tick × AreRising s.tick steps

-- Of the raw steps so far, the filter keeps kept; waiting are raw steps that are not decided. It is so whatever raw
-- steps come from the end of the last segment on.
pub record IsKeptOf (reach end : ℕ) (raw kept waiting : List Planned) : Type 0 where
  pub whole : (more : List Planned) → All (λ s. end ≤ s.tick) more →
      filtered reach (raw ++ more) ≡ kept ++ filtered reach (waiting ++ more)

-- the tick of the last step, or one before them all
abbrev pub last_step_tick : ℕ → List Planned → ℕ
last_step_tick base [] = base
last_step_tick base (s ∷ steps) = last_step_tick s.tick steps

-- Of these segments the steps out were given, the last at tick last, and none was asked for from tick asked on;
-- waiting are raw steps that are not decided.
pub record AreSteps (gear : Gear) (clocks : Clocks) (reach end last_end last : ℕ) (waiting : List Planned) (base : ℕ)
    (segments : List Segment) (asked : ℕ) (out : List Planned) : Type 0 where
  pub kept : List Planned
  pub reach_is : reach ≡ cancel_reach clocks.first.freq
  pub kept_is : IsKeptOf reach end (raw_steps gear clocks.first.freq segments) kept waiting
  pub out_is : out ≡ spaced base (map (on_board clocks) kept)
  pub last_is : last ≡ last_step_tick base out
  pub due : All (λ k. IsTrue (is_due reach asked end k)) kept
  pub rising : AreRising 0 waiting
  pub before : All (λ k. k.tick ≤ last_end) waiting
  pub end_from : last_end ≤ end

-- a stream to which these segments were pushed, which has given these steps, and was asked for none from a tick on
abbrev pub IsStepsOf : StepStream → ℕ → List Segment → ℕ → List Planned → Type 0
IsStepsOf s base segments asked out =
    AreSteps s.gear s.lines s.reach s.end s.last_end s.last (drop s.next s.raw.items) base segments asked out

-- where the last segment ends, and from which tick on steps may still come
abbrev pub end_of_segments : StepStream → ℕ
end_of_segments s = s.last_end

-- from which tick on steps may still come
abbrev pub known_end : StepStream → ℕ
known_end s = s.end

-- the raw steps that wait
abbrev pub waiting_steps : StepStream → List Planned
waiting_steps s = drop s.next s.raw.items

-- how near two opposite steps cancel
abbrev pub reach_of : StepStream → ℕ
reach_of s = s.reach

-- the steps that are left, if no more come: of the raw ones that wait those that do not cancel
abbrev pub left_steps : StepStream → List Planned
left_steps s = filtered (reach_of s) (waiting_steps s)

-- no step that waits, or may still come, is before a plan tick
pub record IsPast (t : ℕ) (s : StepStream) : Type 0 where
  pub known : t ≤ known_end s
  pub waits : All (λ q. t ≤ q.tick) (waiting_steps s)
