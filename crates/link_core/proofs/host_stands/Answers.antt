use Rattle.std.proofs.Common.{refl}
use Rattle.link_core.proofs.Standing.{stands_send, stands_reply, reply_is_whole}
use Rattle.link_core.proofs.host_stands.Goals as goal

pub returns-clause-send : goal.returns-clause-send
returns-clause-send c h s room some = stands_send h h.waiting refl s room some

pub returns-clause-reply : goal.returns-clause-reply
returns-clause-reply c h r rs s e = (reply_is_whole h r rs s e, rw e (stands_reply h r rs s e))
