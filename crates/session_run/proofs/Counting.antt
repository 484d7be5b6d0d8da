-- Reads that are counted one behind the other.
use Rattle.std.proofs.Common.{◌≡◌, ℕ, Option, Some, None, refl, sym, subst, ◌∙◌}
use Rattle.session_run.specs.declared.read.ReadStop.{ReadStop}
use Rattle.session_run.specs.Reads.{CountsReads, StopsReading}

pub counts-nil : (u : Option ReadStop) (f : ℕ) → CountsReads u f u f
counts-nil (Some s) f = (refl, refl)
counts-nil None f = refl

pub counts-more : (u : Option ReadStop) (f : ℕ) (v : Option ReadStop) (g : ℕ) (z : Option ReadStop) (h : ℕ) → CountsReads u f v g → CountsReads v g z h → CountsReads u f z h
counts-more (Some s) f None g z h one two = (let e = one.0 in cc)
counts-more (Some s) f (Some r) g z h one two = (two.0 ∙ one.0, two.1 ∙ one.1)
counts-more None f None g None h one two = two ∙ one
counts-more None f None g (Some s) h one two = subst (λ x. StopsReading s x h) one two
counts-more None f (Some r) g None h one two = (let e = two.0 in cc)
counts-more None f (Some r) g (Some s) h one two =
    let same : s ≡ r = (let e = two.0 in cc) in
    subst (λ x. StopsReading x f h) (sym same) (subst (λ x. StopsReading r f x) (sym two.1) one)
