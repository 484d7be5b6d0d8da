use Rattle.std.proofs.Common.{◌≡◌, ◌≤◌, take}
use Rattle.motion_stream.specs.News.{begins_in}
use Rattle.motion_stream.proofs.news.begins_in.Given as goal

abbrev pub invariant-loop-place : goal.invariant-loop-place
invariant-loop-place l = (l.count ≡ begins_in (take l.place l.items.items)) × (l.count ≤ l.place)
