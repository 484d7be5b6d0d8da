use Rattle.std.proofs.Common.{◌≡◌, ℕ, Bool, Option, Some, None, IfSome, refl, subst, sym}
use Rattle.section_stream.specs.Packs.{last_where}
use Rattle.section_stream.specs.Plans.{stream_lines}
use Rattle.section_stream.specs.Pieces.{IsLastOf, steps_in}
use Rattle.section_stream.proofs.Packed.{last-told}
use Rattle.section_stream.proofs.stepper.StepperStream.last.Goals as goal

same : (up : Option Bool) (last : ℕ) → IfSome (last_where up last) (λ t. t ≡ last)
same None last = tt
same (Some up) last = refl

pub returns-clause-last : goal.returns-clause-last
returns-clause-last c = let s = c.args.self.now in subst (λ (r : Option ℕ). IfSome r (λ t. t ≡ s.pack.last)) (sym c.last.ensures) (same s.pack.up s.pack.last)

pub returns-clause-all : goal.returns-clause-all
returns-clause-all c = λ base parts out pieces given h. (
    let s = c.args.self.now in
    subst (λ (r : Option ℕ). IsLastOf r base (steps_in pieces)) (sym c.last.ensures) (last-told (stream_lines s.steps) s.pack.oid s.pack.max_error s.pack.last s.pack.up s.pack.reset s.pack.held.items s.pack.units.items base _ pieces given h.packed))
