-- A board of which a homing group heard lately.
use Rattle.std.specs.Prelude.{◌≡◌, ◌⊎◌, ◌<◌, ◌≤◌, ◌+◌, ℕ, List, [], ◌∷◌}
use Rattle.trigger_group.specs.declared.seen.Seen.{Seen}
use Rattle.trigger_group.specs.Group.{heard_of}
use Rattle.laws_homing.specs.clear_boards.Hearing.{HeardBy}

-- the members of a board were heard of as able to trigger in a turn that is at most ten before this one
abbrev pub NearOn : ℕ → ℕ → ℕ → List Seen → Type 0
NearOn start b turn [] = Unit {0}
NearOn start b turn (m ∷ ms) = (m.member.board ≡ b → turn ≤ heard_of start m.heard + 10) × NearOn start b turn ms

-- Of a board's last report, by its next one: either there was none yet in the section, or it was told in a
-- turn, and heard of in a turn that is at most four before.
abbrev pub IsHeardOf : (own : ℕ → ℕ) (base every start b next : ℕ) → List Seen → Type 0
IsHeardOf own base every start b next members =
    ((next ≤ base) × HeardBy start b start members)
    ⊎ ((at : ℕ) × (turn : ℕ) × (when : ℕ) × (at + every ≡ next) × (at < own (turn + 1)) × (turn ≤ when + 4)
    × HeardBy start b when members)
