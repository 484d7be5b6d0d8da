use Rattle.std.proofs.Common.{◌≡◌, ℕ, Bool, true, false, List, refl, sym, ap, ◌∙◌}
use Rattle.std.specs.Prelude.{not, codes}
use Rattle.std.specs.Str.{bytes_eq}
use Rattle.log_text.specs.Said.{line_said}
use Rattle.text_core.specs.Bytes.{Text}
use Rattle.text_core.specs.Words.{words_of}
use Rattle.log_check.specs.Behind.{further_of}
use Rattle.log_check.proofs.Furthers.{other-words}
use Rattle.log_check.proofs.further.further_of.Goals as goal
use Rattle.plan_types.proofs.Facts.{not_true}

pub returns-then-ne-clause-value : goal.returns-then-ne-clause-value
returns-then-ne-clause-value c =
    let m = c.args.machine.now in
    let word = c.in_ok-word.word.now in
    let is : c.as_slice.result.now ≡ codes "line" = c.as_slice.ensures in
    let other : bytes_eq word (codes "line") ≡ false = not_true (bytes_eq word (codes "line")) (ap (λ (w : List ℕ). not (bytes_eq word w)) (sym is) ∙ (sym c.ne.ensures ∙ c.if-ne.true)) in
    sym (ap (λ (ws : List Text). further_of (line_said m ws)) c.in_ok-word.ensures.some ∙ other-words m word (words_of c.in_ok-word.field-0-1.now) other)
