use Rattle.std.proofs.Common.{◌≡◌, rules, List, [], ◌∷◌, ◌++◌, drop, OnOk, sym, ap, subst, ◌∙◌}
use Rattle.plan_types.specs.declared.machine.BoardDef.{BoardDef}
use Rattle.link_work.specs.Stands.{SeenLink}
use Rattle.session_run.specs.Runs.{AreFirstLinks}
use Rattle.msg_code.proofs.Parameters.{rest_all}
use Rattle.session_run.proofs.First.{added, split}
use Rattle.session_run.proofs.file.+add_links.Goals as goal

pub returns-in_ok-push-in-len1-up : goal.returns-in_ok-push-in-len1-up
returns-in_ok-push-in-len1-up n c =
    let boards = c.args.boards.now in
    let whole : boards ≡ c.board-item.result ∷ drop 1 boards = split boards c.board-item.result c.in-len1-up.len_at_least ∙ ap (λ (b : BoardDef). b ∷ drop 1 boards) (search rules) in
    let f = c.in_ok-new-in-len1-up.ensures in
    subst (λ (bs : List BoardDef). OnOk c.add_links.result ((more : List SeenLink) × (c.add_links.new.links.items ≡ c.args.links.now.items ++ more) × AreFirstLinks c.args.scene.now c.args.index bs more)) (sym whole)
    (added c.add_links.result c.args.scene.now c.args.index c.board-item.result (drop 1 boards) c.args.links.now.items c.push.new.self.items c.add_links.new.links.items c.in_ok-new-in-len1-up.field-0 (search rules)
    record { stands = f.stands; clock = f.clock; turn = f.turn; spoiled = f.spoiled; held = f.held } (simp rest_all at c.add_links.ensures))
