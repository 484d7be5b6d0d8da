use Rattle.std.proofs.Common.{◌≡◌, ℕ, ◌+◌, ◌≤◌, ◌<◌, ◌-◌, ◌∙◌, ◌++◌, List, ap, get_or, length, drop, subst, take, arith}
use Rattle.std.proofs.lemmas.List.{length-drop, take_all}
use Rattle.gcode_program.proofs.Lining.{is_stop_none, lines_next, taken_length}
use Rattle.gcode_program.proofs.reading.read_lines.Goals as goal

pub loop-end-preserved : goal.loop-end-preserved
loop-end-preserved c =
    let r = c.loop-end.reading in
    let text = c.args.text.now in
    let inv = c.loop-end.invariant in
    let used = c.loop-end.used in
    let e = c.in-Some.end in
    let none = is_stop_none r.stop c.is_none.result c.is_none.ensures c.loop-end-test.true in
    let len = length-drop used text in
    let bound = inv.used in
    let whole : take (length text - used) (drop used text) ≡ drop used text = take_all (length text - used) (drop used text) (omega arith) in
    let inside : e < length (drop used text) = subst (λ (xs : List ℕ). e < length xs) whole c.in-Some.ensures.inside in
    let ends : get_or (drop used text) e 0 ≡ 10 = subst (λ (xs : List ℕ). get_or xs e 0 ≡ 10) whole c.in-Some.ensures.end in
    let first = subst (λ (xs : List ℕ). (k : ℕ) → k < e → get_or xs k 0 ≡ 10 → ⊥) whole c.in-Some.ensures.first in
    let within = inv.used in
    let at = inv.place none in
    let same : used + e - used ≡ e = omega arith in
    record {
      used = omega arith;
      small = c.read_line.ensures.small;
      place = λ goes. (let s = c.in_ok-read_line.ensures.start goes in let l : length (take (used + e - used) (drop used text)) ≡ e = ap (λ k. length (take k (drop used text))) same ∙ taken_length e (drop used text) (omega arith) in omega arith);
      read = λ all more told known on. lines_next c.args.machine.now all more text r c.read_line.new.reading c.args.reading.now.start used e (used + e - used) told c.loop-end.items.items c.read_line.new.items.items same within inside ends first none inv.place known c.in_ok-read_line.ensures.read (inv.read all more told known on);
    }
