use Rattle.std.proofs.Common.{subst}
use Rattle.block_frame.specs.declared.Found.{Found}
use Rattle.block_frame.specs.Scanned.{Scans}
use Rattle.block_frame.proofs.Only.{at_block, at_end, behind_skip, behind_bad}
use Rattle.block_frame.proofs.+is_only_bad.Goals as goal

pub returns-in-Block : goal.returns-in-Block
returns-in-Block t c =
    let scans = λ (f : Found). Scans c.args.scanner.now c.args.bytes.now f c.scan-found.result.1 c.scan-found.new.s in
    at_block c.args.scanner.now c.args.bytes.now c.args.before c.in-Block.number c.in-Block.content c.scan-found.result.1 c.scan-found.new.s (subst scans c.in-Block.is c.scan-found.ensures)

pub returns-in-NeedMore : goal.returns-in-NeedMore
returns-in-NeedMore t c =
    let scans = λ (f : Found). Scans c.args.scanner.now c.args.bytes.now f c.scan-found.result.1 c.scan-found.new.s in
    at_end c.args.scanner.now c.args.bytes.now c.args.before c.scan-found.result.1 c.scan-found.new.s (subst scans c.in-NeedMore.is c.scan-found.ensures)

pub returns-in-Skip : goal.returns-in-Skip
returns-in-Skip t c =
    let scans = λ (f : Found). Scans c.args.scanner.now c.args.bytes.now f c.scan-found.result.1 c.scan-found.new.s in
    behind_skip c.args.scanner.now c.args.bytes.now c.args.before c.scan-found.result.1 c.scan-found.new.s c.is_only_bad.result (subst scans c.in-Skip.is c.scan-found.ensures) c.is_only_bad.ensures

pub returns-in-Bad : goal.returns-in-Bad
returns-in-Bad t c =
    let scans = λ (f : Found). Scans c.args.scanner.now c.args.bytes.now f c.scan-found.result.1 c.scan-found.new.s in
    behind_bad c.args.scanner.now c.args.bytes.now c.args.before c.scan-found.result.1 c.scan-found.new.s c.is_only_bad-in-Bad.result (subst scans c.in-Bad.is c.scan-found.ensures) c.is_only_bad-in-Bad.ensures
