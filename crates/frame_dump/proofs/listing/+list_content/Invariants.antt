use Rattle.std.proofs.Common.{length}
use Rattle.frame_dump.proofs.listing.+list_content.Given as goal

abbrev pub decreases-list_content : goal.decreases-list_content
decreases-list_content l = length l.content.now
