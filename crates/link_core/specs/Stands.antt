-- The host's end of a link, as a part of the link.
use Rattle.std.specs.Prelude.{Bool, false, List, [], ◌∷◌, drop, map}
use Rattle.link_core.specs.Core.{Link, Command, sent}
use Rattle.link_core.specs.Host.{Host, content_of, closes_last}

-- the last of these blocks ends with a command that closes it
abbrev pub last_closes : Bool → List (List Command) → Bool
last_closes closed [] = closed
last_closes closed (b ∷ bs) = last_closes (closes_last closed b) bs

-- what the host's end keeps of a link
abbrev pub host_of : Link → Host
host_of h = record {
  waiting = h.waiting;
  contents = map content_of (drop h.acked h.blocks);
  puts = h.puts;
  sent = sent h;
  turn = h.turn;
  empty = h.hint;
  closed = last_closes false h.blocks;
}
