use Rattle.std.proofs.Common.{◌≡◌, ℕ, List, ◌∷◌, ◌++◌, ap, ◌∙◌, append_assoc}
use Rattle.text_core.specs.Lines.{lines_of}
use Rattle.gcode_program.specs.declared.items.Item.TheVariants as items
use Rattle.gcode_program.specs.Items.{items_of, moves_in}
use Rattle.gcode_program.specs.Programs.{program_sections}
use Rattle.gcode_program.proofs.Lining.{told_first}
use Rattle.gcode_program.proofs.Sorting.{told_front, told_open}
use Rattle.gcode_program.proofs.pieces.sections_are_told.Goals as goal

pub returns-clause-whole : goal.returns-clause-whole
returns-clause-whole c = λ r m text more done h. (
    let t = told_first m (text ++ more) r.reading (lines_of (r.carry.items ++ more)) (items_of done) (h.read more) in
    let f = told_front done (program_sections m (text ++ more)) t.0 t.1 in
    (f.0, f.1))

pub returns-clause-open_one : goal.returns-clause-open_one
returns-clause-open_one c = λ r m text more done kind dwell moves h. (
    let own = items.Begin kind dwell ∷ moves_in moves in
    let t = told_first m (text ++ more) r.reading (lines_of (r.carry.items ++ more)) (items_of done ++ own) (h.read more) in
    let f = told_front done (program_sections m (text ++ more)) (own ++ t.0) (t.1 ∙ append_assoc (items_of done) own t.0) in
    let o = told_open f.0 kind dwell moves t.0 f.2 in
    (o.0, o.1, f.1 ∙ ap (λ ss. done ++ ss) o.2))
