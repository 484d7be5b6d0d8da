use Rattle.std.proofs.Common.{◌∙◌, ap}
use Rattle.cfg_text.specs.Missing.{missing, or_fault}
use Rattle.cfg_text.proofs.missing.first_missing.Goals as goal

pub returns-clause-value : goal.returns-clause-value
unfolding missing
returns-clause-value c =
    let late = c.first_of.ensures ∙ ap (λ d. or_fault d c.missing_in_fan-fan.result) c.missing_in_drives-drives.ensures ∙ ap (or_fault _) c.missing_in_fan-fan.ensures in
    let behind = c.first_of-2.ensures ∙ ap (λ b. or_fault b c.first_of.result) c.missing_main_board-board.ensures.value ∙ ap (or_fault _) late in
    c.first_of-3.ensures ∙ ap (λ p. or_fault p c.first_of-2.result) c.missing_in_printer-printer.ensures ∙ ap (or_fault _) behind
