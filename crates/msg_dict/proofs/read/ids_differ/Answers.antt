use Rattle.std.proofs.Common.{◌≡◌, ◌+◌, ◌-◌, ◌<◌, ◌∷◌, true, drop, get_or, length, ap, sym, ◌∙◌, arith}
use Rattle.std.specs.Ordering.{nat_cmp}
use Rattle.std.specs.BTreeSet.{contains}
use Rattle.std.proofs.lemmas.List.{drop_more}
use Rattle.msg_dict.proofs.ReadSteps.{repeated, negated}
use Rattle.msg_dict.proofs.read.ids_differ.Goals as goal

pub returns-then-not-branch : goal.returns-then-not-branch
returns-then-not-branch c =
    let xs = c.args.formats.now in
    let k = c.loop-i.i - 1 in
    let f = get_or c.args.formats.now (c.loop-i.i - 1) c.index-formats-i.result in
    let next : c.loop-i.i - 1 + 1 ≡ c.loop-i.i = omega arith in
    let inside : c.loop-i.i - 1 < length xs = omega arith in
    let here : drop (c.loop-i.i - 1) xs ≡ f ∷ drop c.loop-i.i xs = drop_more xs (c.loop-i.i - 1) c.index-formats-i.result inside ∙ ap (λ n. f ∷ drop n xs) next in
    let found : contains nat_cmp c.loop-i.seen f.id ≡ true = negated (contains nat_cmp c.loop-i.seen f.id) c.in_ok-insert.field-0 c.in_ok-insert.ensures.added c.if-not-branch.true in
    sym (repeated xs (c.loop-i.i - 1) f (drop c.loop-i.i xs) here (sym (c.loop-i.invariant.seen f.id) ∙ found))
