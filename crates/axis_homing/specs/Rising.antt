-- The members of a homing group stand in the order of their boards.
use Rattle.std.specs.Prelude.{List, Option, Some, None, map}
use Rattle.trigger_group.specs.declared.order.Member.{Member}
use Rattle.trigger_group.specs.declared.seen.Seen.{Seen}
use Rattle.trigger_group.specs.Group.{GroupState}
use Rattle.trigger_group.specs.Kept.{BoardsRise}
use Rattle.axis_homing.specs.declared.homing.Homing.{Homing}

-- a group's members, whatever was seen of them
abbrev pub members_of : GroupState → List Member
members_of g = map (λ (s : Seen). s.member) g.members

-- the members of a group stand in the order of their boards
abbrev pub IsRising : GroupState → Type 0
IsRising g = BoardsRise (members_of g)

-- so the members of a homing section, where there is one
abbrev pub HomingRises : Option Homing → Type 0
HomingRises None = Unit {0}
HomingRises (Some h) = IsRising h.group
