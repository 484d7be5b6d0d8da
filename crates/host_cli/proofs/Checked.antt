-- The check of a log.
use Rattle.std.proofs.Common.{◌≡◌, ◌≢◌, ◌∙◌, inl, inr, ℕ, ◌+◌, ◌≤◌, ◌<◌, List, Option, Some, sym, subst, All, length, get_or, arith}
use Rattle.gcode_program.specs.Held.{ArePlannable, IsShortOrNear}
use Rattle.log_check.specs.Steps.{CanPlan}
use Rattle.log_check.specs.Verdicts.{IsJudged}
use Rattle.plan_types.specs.declared.cause.Cause.{Cause}
use Rattle.plan_types.specs.declared.cause.Cause.TheVariants as cause
use Rattle.plan_types.specs.declared.plan.Move.{Move}
use Rattle.plan_types.specs.declared.plan.Section.{Section}
use Rattle.plan_types.specs.Valid.{IsValidMove}
use Rattle.section_plan.specs.Runs.{IsShortMove}
use Rattle.section_plan.proofs.Shorts.{short-move}
use Rattle.host_cli.specs.Answers.{IsRunCause}

-- sections of a text can be planned
near-short : (moves : List Move) → All IsValidMove moves → All IsShortOrNear moves → All IsShortMove moves
near-short moves valid near = λ k d lt. by-near (get_or moves k d) (valid k d lt) (near k d lt) where
  by-near : (m : Move) → IsValidMove m → IsShortOrNear m → IsShortMove m
  by-near m ok n = elim n [ inl reach ↦ short-move m ok reach | inr small ↦ record { valid = ok; short = omega (arith, small) } ]

pub can_plan : (sections : List Section) → ArePlannable sections → CanPlan sections
can_plan sections can = record {
  some = can.some;
  short = λ k d lt. near-short (get_or sections k d).moves (can.valid k d lt) (can.near k d lt);
  few = can.few;
}

-- a verdict is none of a file or an output that failed, nor of words
pub judged-read : (c d : Cause) → c ≡ d → IsJudged d → c ≢ cause.ReadFault
judged-read c d e h = λ is. (let G : Cause → Type 0 = λ x. IsJudged x in subst G (sym e ∙ is) h)

pub judged-write : (c d : Cause) → c ≡ d → IsJudged d → c ≢ cause.WriteFault
judged-write c d e h = λ is. (let G : Cause → Type 0 = λ x. IsJudged x in subst G (sym e ∙ is) h)

run-cause : (d : Cause) → IsJudged d → IsRunCause d
run-cause cause.Done h = tt
run-cause (cause.Misfit line kind) h = tt
run-cause cause.Memory h = absurd h
run-cause cause.Usage h = h
run-cause cause.ReadFault h = absurd h
run-cause cause.WriteFault h = absurd h
run-cause (cause.Config line kind) h = h
run-cause (cause.Scene line kind) h = absurd h
run-cause (cause.Line line kind) h = absurd h
run-cause (cause.Late b f t s p) h = absurd h
run-cause (cause.Asked line) h = absurd h
run-cause (cause.NoSwitch section) h = absurd h
run-cause (cause.Expired b turn) h = absurd h
run-cause (cause.Connect b turn) h = absurd h
run-cause (cause.Stale b turn) h = absurd h
run-cause (cause.Trace line kind) h = absurd h
run-cause cause.NoBoard h = absurd h
run-cause (cause.Mesh line kind) h = absurd h
run-cause cause.NoFan h = absurd h

pub judged-run : (c d : Cause) → c ≡ d → IsJudged d → IsRunCause c
judged-run c d e h = (let G : Cause → Type 0 = λ x. IsRunCause x in subst G (sym e) (run-cause d h))
