-- Numbers that can meet, and ticks in range.
use Rattle.std.specs.Prelude.{◌≡◌, ℕ, ◌%◌, ◌<◌, List, [], ◌∷◌}
use Rattle.plan_types.specs.Clock.{tick_limit}
use Rattle.link_core.specs.Core.{Reply as LinkReply}
use Rattle.link_core.specs.Numbers.{IsNumberOnWire}
use Rattle.board_world.specs.declared.event.Event.{Event}
use Rattle.board_world.specs.declared.event.Event.TheVariants.{Pass}

-- of the blocks under way only the one that the board expects has its number on the wire
abbrev pub AreNumbersApart : ℕ → List ℕ → Type 0
AreNumbersApart accepted [] = Unit {0}
AreNumbersApart accepted (n ∷ ns) = (n % 16 ≡ accepted % 16 → n ≡ accepted) × AreNumbersApart accepted ns

-- of the numbers that the host counts on, only a reply's own has its number on the wire
abbrev pub RepliesApart : ℕ → ℕ → List LinkReply → Type 0
RepliesApart acked sent [] = Unit {0}
RepliesApart acked sent (r ∷ rs) =
    ((w : ℕ) → IsNumberOnWire acked sent (r.number % 16) w → w ≡ r.number) × RepliesApart acked sent rs

-- the tick to which a board runs is in range
abbrev pub TickFits : Event → Type 0
TickFits (Pass t) = t < tick_limit
TickFits _ = Unit {0}
