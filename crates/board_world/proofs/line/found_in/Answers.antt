use Rattle.std.proofs.Common.{◌∙◌, ◌≤◌, List, ℕ, length, ap, subst}
use Rattle.block_frame.specs.Scanned.{Scans}
use Rattle.std.specs.Prelude.{Bool, false}
use Rattle.board_world.proofs.Finding.{found_is, found_small}
use Rattle.board_world.proofs.line.found_in.Goals as goal

pub returns : goal.returns
returns c =
    let From : Bool → Type 0 = λ b. Scans b c.as_slice.result.now c.scan.result.0 c.scan.result.1 c.scan.new.s in
    let scans = subst From c.new.ensures c.scan.ensures in
    record {
      small = found_small c.as_slice.result.now c.scan.result.0 c.scan.result.1 c.scan.new.s scans;
      block = λ n content small text.
          let At : List ℕ → Type 0 = λ bytes. Scans false bytes c.scan.result.0 c.scan.result.1 c.scan.new.s in
          let bytes = c.as_slice.ensures.value ∙ text in
          let fits : length c.as_slice.result.now ≤ 64 = c.as_slice.ensures.fits in
          found_is n content c.scan.result.0 c.scan.result.1 c.scan.new.s small (ap length bytes) fits (subst At bytes scans);
    }
