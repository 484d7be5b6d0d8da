use Rattle.std.proofs.Common.{◌≡◌, ◌<◌, ◌++◌, get_or, length, ap, sym, subst, ◌∙◌, rules}
use Rattle.plan_types.specs.declared.machine.Machine.{Machine}
use Rattle.report_text.specs.declared.line.ReportLine.TheVariants.{Pulse}
use Rattle.report_text.specs.declared.printer.Head.{Head}
use Rattle.report_text.specs.Heads.{IsHead, head_text}
use Rattle.report_text.specs.Text.{line_text}
use Rattle.report_text.proofs.Heads.{head-at, pulse-text}
use Rattle.report_text.proofs.printer.LinePrinter.put.Goals as goal

pub put_behind-requires : goal.put_behind-requires
put_behind-requires c =
    let m = c.self.inside.machine.now in
    let heads = c.self.inside.heads.items in
    let s = c.in-Pulse.stepper in
    let h = c.index-head.result.now in
    let few : s < length heads = search rules in
    let is : IsHead m s h = subst (IsHead m s) (sym c.index-head.ensures) (head-at m heads s h few c.self.invariant) in
    (is.short, is.room)

pub returns-then-head-board : goal.returns-then-head-board
returns-then-head-board c =
    let m = c.self.inside.machine.now in
    let heads = c.self.inside.heads.items in
    let old = c.args.out.now.items in
    let board = c.in-Pulse.board in
    let s = c.in-Pulse.stepper in
    let tick = c.in-Pulse.tick in
    let up = c.in-Pulse.up in
    let h = c.index-head.result.now in
    let few : s < length heads = search rules in
    let same : h.board ≡ board = search rules in
    let is : IsHead m s h = subst (IsHead m s) (sym c.index-head.ensures) (head-at m heads s h few c.self.invariant) in
    c.in_ok-put_behind.ensures ∙ ap (λ t. old ++ t) (pulse-text m board s tick up _ (is.words ∙ ap (λ b. head_text m b s) same))
    ∙ ap (λ (x : Machine). old ++ line_text x (Pulse board s tick up)) c.self.view_is ∙ ap (λ l. old ++ line_text c.args.self.now l) (sym c.in-Pulse.is)
