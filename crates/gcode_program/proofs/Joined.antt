-- Lines read one behind the other.
use Rattle.std.proofs.Common.{◌≡◌, ℕ, suc, ◌+◌, ◌++◌, Bool, List, [], ◌∷◌, length, Option, Some, Ok, Err, ap, arith, refl, sym, ◌∙◌}
use Rattle.std.specs.Prelude.{Result}
use Rattle.gcode_state.specs.States.{one_if}
use Rattle.plan_types.specs.declared.cause.LineKind.{LineKind}
use Rattle.gcode_state.specs.declared.state.State.{State}
use Rattle.gcode_state.specs.declared.state.Action.{Action}
use Rattle.gcode_state.specs.declared.state.Action.TheVariants as actions
use Rattle.gcode_program.specs.Readings.{Deed, deed_of, line_result, is_passed, outcome, with_front, Outcome, behind_action, behind_line}
use Rattle.gcode_program.specs.Pieces.{final, state_if, state_behind, lines_length}

same_state : (s t : State) → Some s ≡ Some t → s ≡ t
same_state s t h = cc

nothing_before : (o : Outcome) → with_front [] 0 o ≡ o
nothing_before o = let e : 0 + o.passed ≡ o.passed = omega arith in rw e refl

-- two fronts are one
fronts : (a : Deed) (p : Bool) (o q : Outcome) → with_front (a ∷ []) (one_if p) (with_front o.deeds o.passed q) ≡ with_front (a ∷ o.deeds) (one_if p + o.passed) q
fronts a p o q = let e : one_if p + (o.passed + q.passed) ≡ one_if p + o.passed + q.passed = omega arith in rw e refl

-- an action before two outcomes that are equal up to their front
after_action : (number : ℕ) (p : Bool) (s : State) (a : Action) (o o' q : Outcome) (behind : Option State) (t : State) → state_if a behind ≡ Some t → (behind ≡ Some t → o ≡ with_front o'.deeds o'.passed q)
    → behind_action number p s a o ≡ with_front (behind_action number p s a o').deeds (behind_action number p s a o').passed q
after_action number p s actions.Stop o o' q behind t h next = absurd cc
after_action number p s actions.None o o' q behind t h next = rw (next h) (fronts (deed_of s actions.None) p o' q)
after_action number p s (actions.Move m) o o' q behind t h next = rw (next h) (fronts (deed_of s (actions.Move m)) p o' q)
after_action number p s (actions.Dwell ms) o o' q behind t h next = rw (next h) (fronts (deed_of s (actions.Dwell ms)) p o' q)
after_action number p s (actions.Home axes) o o' q behind t h next = rw (next h) (fronts (deed_of s (actions.Home axes)) p o' q)
after_action number p s actions.Wait o o' q behind t h next = rw (next h) (fronts (deed_of s actions.Wait) p o' q)

after_line : (number : ℕ) (p : Bool) (s : State) (r : Result (State × Action) LineKind) (o o' : State → Outcome) (q : Outcome) (behind : State → Option State) (t : State) → state_behind r behind ≡ Some t
    → ((u : State) → behind u ≡ Some t → o u ≡ with_front (o' u).deeds (o' u).passed q) → behind_line number p s r o ≡ with_front (behind_line number p s r o').deeds (behind_line number p s r o').passed q
after_line number p s (Err kind) o o' q behind t h next = absurd cc
after_line number p s (Ok step) o o' q behind t h next = after_action number p s step.1 (o step.0) (o' step.0) q (behind step.0) t h (next step.0)

pub joined : (size : ℕ) (lines more : List (List ℕ)) (s t : State) (number start : ℕ) → final size s start lines ≡ Some t
    → outcome size s number start (lines ++ more) ≡ with_front (outcome size s number start lines).deeds (outcome size s number start lines).passed
    (outcome size t (number + length lines) (start + lines_length lines) more)
joined size [] more s t number start h = let e : number + 0 ≡ number = omega arith in let f : start + 0 ≡ start = omega arith in
    rw (e, f) (ap (λ u. outcome size u number start more) (same_state s t h) ∙ sym (nothing_before (outcome size t number start more)))
joined size (line ∷ lines) more s t number start h = after_line number (is_passed line) s (line_result size start s line)
    (λ u. outcome size u (number + 1) (start + (length line + 1)) (lines ++ more)) (λ u. outcome size u (number + 1) (start + (length line + 1)) lines)
    (outcome size t (number + length (line ∷ lines)) (start + lines_length (line ∷ lines)) more) (λ u. final size u (start + (length line + 1)) lines) t h
    (λ u g. let e : number + suc (length lines) ≡ number + 1 + length lines = omega arith in
    let f : start + (length line + 1 + lines_length lines) ≡ start + (length line + 1) + lines_length lines = omega arith in
    rw (e, f) (joined size lines more u t (number + 1) (start + (length line + 1)) g))
