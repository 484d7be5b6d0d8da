use Rattle.frame_dump.proofs.Dumping.{content_more, content_none, content_rest}
use Rattle.frame_dump.proofs.listing.+list_content.Goals as goal

pub returns-in_ok-list_content-in-Ok : goal.returns-in_ok-list_content-in-Ok
returns-in_ok-list_content-in-Ok t c =
    content_more c.args.d.now.formats c.args.content.now c.in-Ok.len c.in-Ok.command c.args.lines.now.items c.push.new.self.items c.list_content.new.lines.items c.in-Ok.ensures.ok c.in_ok-push-in-Ok.ensures.items
    c.in_ok-list_content-in-Ok.ensures
