-- The bytes of a file, read piece by piece.
use Rattle.std.proofs.Common.{◌≡◌, ℕ, ◌+◌, ◌-◌, ◌≤◌, List, [], ◌++◌, take, drop, length, refl, ap, sym, ◌∙◌, arith, length-append}
use Rattle.std.proofs.lemmas.List.{take_all, length-take-le}
use Rattle.std.proofs.Math.Seq.{take-add}
use Rattle.std.proofs.lemmas.Grind.{common_steps}
use Rattle.host_cli.specs.Outside.{IsFrontOf}

pub read-end : (bytes text : List ℕ) (limit : ℕ) → IsFrontOf bytes text → length bytes ≤ length text → length text ≤ limit → text ≡ take (limit + 1) bytes
read-end bytes text limit front ended within = front.same ∙ take_all (length text) bytes ended ∙ sym (take_all (limit + 1) bytes (omega arith))

pub read-more : (bytes text piece new : List ℕ) (n at : ℕ) → at ≡ length text → IsFrontOf bytes text → n ≤ length bytes - at → take n piece ≡ take n (drop at bytes) → n ≤ length piece → new ≡ text ++ take n piece → IsFrontOf bytes new
read-more bytes text piece new n at e front room found fits is =
    let same : take n piece ≡ take n (drop (length text) bytes) = found ∙ ap (λ k. take n (drop k bytes)) e in
    let count : length new ≡ length text + n = rw (is, length-append text (take n piece), length-take-le n piece fits) refl in
    let inside = front.inside in
    let joined : take (length text + n) bytes ≡ text ++ take n piece =
    take-add (length text) n bytes ∙ ap (λ t. t ++ take n (drop (length text) bytes)) (sym front.same) ∙ ap (λ t. text ++ t) (sym same) in
    record { same = is ∙ sym joined ∙ ap (λ k. take k bytes) (sym count); inside = omega arith }

pub read-cut : (bytes text : List ℕ) (limit : ℕ) → IsFrontOf bytes text → limit + 1 ≤ length text → take (limit + 1) text ≡ take (limit + 1) bytes
read-cut bytes text limit front long =
    let cut : take (limit + 1) (take (length text) bytes) ≡ take (limit + 1) bytes = grind (arith, common_steps) in
    ap (λ t. take (limit + 1) t) front.same ∙ cut

pub read-none : (bytes : List ℕ) → IsFrontOf bytes []
read-none bytes = record { same = sym (grind (arith, common_steps)); inside = omega arith }
