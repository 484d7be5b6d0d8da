-- A step queue stands for a clocked stepper over every list of calls.
use Rattle.std.proofs.Common.{◌≡◌, ℕ, Bool, true, false, List, [], ◌∷◌, ◌++◌, refl, ap, sym, ◌∙◌, append_assoc, append-nil}
use Rattle.std.specs.Prelude.{if◌then◌else◌}
use Rattle.plan_types.specs.declared.plan.Planned.{Planned}
use Rattle.plan_types.specs.Board.{Group, Clocked, groups_from}
use Rattle.board_step.specs.Steps.{Pending, ticks_at, first_tick}
use Rattle.board_step.specs.Runs.{StepperCall, Direction, Clock, Add, Stop, Run, queue_after, clocked_after, makes, IsFairCall, AreFairCalls, queue_after_all, clocked_after_all, makes_all, QueueStandsFor}
use Rattle.board_step.proofs.Whole.{whole}

added : (h k v up : Bool) (gs ss : List Group) (ts ticks : List ℕ) → h ≡ k → gs ≡ ss → (h ≡ false → (v ≡ up) × (ts ≡ ticks))
    → (if h then gs else gs ++ record { up = v; ticks = ts } ∷ []) ≡ (if k then ss else ss ++ record { up = up; ticks = ticks } ∷ [])
added true k v up gs ss ts ticks e g same = rw (← e) g
added false k v up gs ss ts ticks e g same = let d = same refl in rw (← e, g, d.0, d.1) refl

nothing_made : (made : List Planned) (s : List Planned) → made ≡ s → made ++ [] ≡ s
nothing_made made s e = append-nil made ∙ e

one_call : (q : Pending) (made : List Planned) (s : Clocked) (c : StepperCall) → QueueStandsFor q made s → IsFairCall q c → QueueStandsFor (queue_after q c) (made ++ makes q c) (clocked_after s c)
one_call q made s (Direction up) h f = record { halted = h.halted; groups = h.groups; steps = nothing_made made s.made h.steps }
one_call q made s (Clock clock) h f = record { halted = refl; groups = h.groups; steps = nothing_made made s.made h.steps }
one_call q made s (Add now t up ticks) h f = record {
  halted = h.halted;
  groups =
      added q.halted s.halted q.up up q.groups s.groups (ticks_at (first_tick now q.last t.interval q.groups) t) ticks h.halted h.groups
      (λ runs. ((f runs).0, whole now q t ticks (f runs).1 (f runs).2));
  steps = nothing_made made s.made h.steps;
}
one_call q made s Stop h f = record { halted = refl; groups = refl; steps = nothing_made made s.made h.steps }
one_call q made s (Run t) h f = record { halted = h.halted; groups = ap (groups_from t) h.groups; steps = rw (h.steps, h.groups) refl }

pub all_calls : (q : Pending) (made : List Planned) (s : Clocked) (cs : List StepperCall) → QueueStandsFor q made s → AreFairCalls q cs
    → QueueStandsFor (queue_after_all q cs) (made ++ makes_all q cs) (clocked_after_all s cs)
all_calls q made s [] h f = record { halted = h.halted; groups = h.groups; steps = nothing_made made s.made h.steps }
all_calls q made s (c ∷ cs) h f =
    let rest = all_calls (queue_after q c) (made ++ makes q c) (clocked_after s c) cs (one_call q made s c h f.0) f.1 in
    record {
      halted = rest.halted;
      groups = rest.groups;
      steps = sym (append_assoc made (makes q c) (makes_all (queue_after q c) cs)) ∙ rest.steps;
    }
