use Rattle.std.proofs.Common.{◌∙◌, ap}
use Rattle.cfg_text.specs.Missing.{or_fault}
use Rattle.cfg_text.proofs.missing.missing_in_drives.Goals as goal

pub returns : goal.returns
returns c =
    let late = c.first_of.ensures ∙ ap (λ z. or_fault z c.missing_for-e.result) c.missing_in_drive-z.ensures ∙ ap (or_fault _) c.missing_for-e.ensures in
    let behind = c.first_of-2.ensures ∙ ap (λ y. or_fault y c.first_of.result) c.missing_in_drive-y.ensures ∙ ap (or_fault _) late in
    c.first_of-3.ensures ∙ ap (λ x. or_fault x c.first_of-2.result) c.missing_in_drive-x.ensures ∙ ap (or_fault _) behind
