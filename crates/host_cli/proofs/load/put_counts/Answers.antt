use Rattle.std.proofs.Common.{◌≡◌, ◌∙◌, ◌+◌, ◌++◌, ◌<◌, ◌∷◌, [], ℕ, List, length, take, ap, sym, refl, zero, suc, zero-add, arith, append_assoc, get_or}
use Rattle.std.proofs.lemmas.List.{take_more, length-take-le}
use Rattle.report_text.specs.declared.line.ReportLine.{ReportLine}
use Rattle.report_text.specs.declared.line.ReportLine.TheVariants as report
use Rattle.host_cli.specs.Counts.{count_lines}
use Rattle.host_cli.proofs.load.put_counts.Goals as goal

-- one count more
count-more : (s : ℕ) (front : List ℕ) (n place : ℕ) → place ≡ s + length front → count_lines s (front ++ n ∷ []) ≡ count_lines s front ++ report.Count place n ∷ []
count-more s [] n place e = let same : place ≡ s = omega arith in rw same refl
count-more s (x ∷ front) n place e = ap (λ (l : List ReportLine). report.Count s x ∷ l) (count-more (s + 1) front n place (omega arith))

count-next : (counts : List ℕ) (i : ℕ) → i < length counts → count_lines 0 (take (i + 1) counts) ≡ count_lines 0 (take i counts) ++ report.Count i (get_or counts i 0) ∷ []
count-next counts i inside =
    let far : length (take i counts) ≡ i = length-take-le i counts (omega arith) in
    ap (count_lines 0) (take_more counts i 0 inside) ∙ count-more 0 (take i counts) (get_or counts i 0) i (omega arith)

pub loop-s-preserved : goal.loop-s-preserved
loop-s-preserved c = rw (c.in_ok-push.ensures.items, c.loop-s.invariant, append_assoc, count-next c.args.counts.now c.loop-s.s (omega arith)) refl
