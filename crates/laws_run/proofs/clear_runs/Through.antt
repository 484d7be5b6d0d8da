-- A run in a scene without entries goes through.
use Rattle.std.proofs.Common.{◌≡◌, ℕ, ◌<◌, ◌≤◌, Bool, true, false, List, [], ◌∷◌, Option, Some, None, refl, ap, sym, ◌∙◌, arith, inl}
use Rattle.std.specs.Prelude.{◌||◌}
use Rattle.laws_board.proofs.Names.{Cause, Machine, Note, State, Scene, Switch, Release, BoardSection, Known, is_out, noted, reacts, first_cause, MotionTurn, ReactorTurn}
use Rattle.plan_types.specs.declared.cause.Cause.TheVariants as cause
use Rattle.link_work.specs.Ends.{spoiled}
use Rattle.host_reactor.specs.Running.{any_out, late}
use Rattle.host_reactor.proofs.Ends.{first-ends, late-is-next, memory-is-first}
use Rattle.laws_board.specs.sections.Runs.{AreSpilled, IsSpilled}
use Rattle.laws_run.specs.run_ends.Ends.{order}
use Rattle.laws_run.proofs.run_ends.Ending.{IsLate as IsLateCause, late_is, of_some}
use Rattle.laws_run.specs.run_headline.Timely.{HoldsNothingLong}
use Rattle.laws_run.specs.clear_runs.Clear.{AllSoon, AreSoon}
use Rattle.host_reactor.proofs.Blames.{note-stays}

-- a cause that comes behind a late board, where nothing was to stop the run
pub first_none : (m : Machine) (switches : List Switch) (r : Known) (k : ℕ) (states : List State) (note : Option Note) (c : Cause) → 2 < order c → r.stopped ≡ None → (reacts m switches r k states note).ordered.end ≡ Some c
    → first_cause (is_out note) (noted m note r).stopped states ≡ None
first_none m switches r k states note c high untold e = by_out (is_out note || any_out states) refl
  where
    none : (noted m note r).stopped ≡ None
    none = note-stays m note r ∙ untold

    same : (d : Cause) → order d ≤ 2 → Some d ≡ Some c → ⊥
    same d low f = let g : d ≡ c = cc in let n = ap order g in omega (arith, n, low, high)

    late_low : (d : Cause) → IsLateCause d → order d ≤ 2
    late_low (cause.Late board first arrival spoiled spill) i = omega arith
    late_low d i = absurd i

    by_late : (l : Option Cause) → (is_out note || any_out states) ≡ false → late 0 states ≡ l → first_cause (is_out note) (noted m note r).stopped states ≡ None
    by_late None f g = late-is-next (is_out note) (noted m note r).stopped states f none ∙ g
    by_late (Some d) f g =
        let is = late-is-next (is_out note) (noted m note r).stopped states f none ∙ g in
        absurd (same d (late_low d (of_some IsLateCause (late 0 states) d g (late_is 0 states))) (sym (first-ends m switches r k states note d is) ∙ e))

    by_out : (b : Bool) → (is_out note || any_out states) ≡ b → first_cause (is_out note) (noted m note r).stopped states ≡ None
    by_out true f = absurd (same cause.Memory (omega arith) (sym (first-ends m switches r k states note cause.Memory (memory-is-first (is_out note) (noted m note r).stopped states f)) ∙ e))
    by_out false f = by_late (late 0 states) f refl

-- units that are sent in time are not spilled
pub spilled_in : (turns : ℕ) (rs : List Release) → AreSoon turns rs → IsSpilled turns 0 rs
spilled_in turns [] a = tt
spilled_in turns (r ∷ rs) a = ((λ due. let soon = a.0 due in omega (arith, soon)), spilled_in turns rs a.1)

pub spilled : (turns : ℕ) (ss : List BoardSection) → AllSoon turns ss → AreSpilled turns 0 ss
spilled turns [] a = tt
spilled turns (s ∷ ss) a = (spilled_in turns s.releases a.0, spilled turns ss a.1)

pub sends_hold : (m : Machine) (s : Scene) (text : List ℕ) (ts : List MotionTurn) → s.entries ≡ [] → (all : List ReactorTurn) → HoldsNothingLong m s text ts all
sends_hold m s text ts clear [] = tt
sends_hold m s text ts clear (first ∷ rest) = λ p t b of told low long w. record { few = inl clear }
