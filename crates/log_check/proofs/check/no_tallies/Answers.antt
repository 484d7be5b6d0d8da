use Rattle.std.proofs.Common.{ℕ, length, arith, sym, ap, ◌≡◌, ◌+◌, ◌∙◌, map}
use Rattle.std.specs.List.{range_with_len}
use Rattle.section_plan.proofs.Latest.{for-each-more}
use Rattle.std.proofs.Common.{refl, length-append}
use Rattle.log_check.specs.Faults.{no_tally}
use Rattle.log_check.proofs.check.no_tallies.Goals as goal

pub loop-tallies-preserved : goal.loop-tallies-preserved
loop-tallies-preserved c =
    let old = c.loop-tallies.tallies.items in
    let new = c.push.new.self.items in
    let none = λ (s : ℕ). no_tally in
    let added = c.in_ok-push.ensures.items in
    let long : length new ≡ length old + 1 = ap length added ∙ length-append old _ in
    record {
      few = omega (arith, long);
      same = for-each-more none (length old) old new no_tally c.loop-tallies.invariant.same added refl ∙ ap (λ n. map none (range_with_len 0 n)) (sym long);
    }
