-- How far a homing group and its boards have come, at each of its turns, when it has heard what they told in
-- the turn before.
use Rattle.std.specs.Prelude.{◌≡◌, ◌⊎◌, ◌≤◌, ◌+◌, ℕ, Bool, false, true, List, [], ◌∷◌, None}
use Rattle.trigger_group.specs.declared.seen.Seen.{Seen}
use Rattle.trigger_group.specs.Group.{GroupState, any_fired_by, fired_by, first_timeout, heard_of}
use Rattle.laws_homing.specs.clear_boards.Renewed.{HeardFrom}

-- this holds of the board of each member
abbrev pub AllOn : (ℕ → Bool) → List Seen → Type 0
AllOn holds [] = Unit {0}
AllOn holds (x ∷ xs) = (holds x.member.board ≡ true) × AllOn holds xs

-- No member is known to have triggered by the last turn, and each could trigger ten turns before or later, as
-- far as was heard, or the start isn't more than ten turns past.
pub record IsLive (turn : ℕ) (g : GroupState) : Type 0 where
  pub relay : g.relay ≡ None
  pub none : any_fired_by g.last g.members ≡ false
  pub least : ℕ
  pub near : turn ≤ least + 10
  pub heard : HeardFrom g.start least g.members

-- A member is known to have triggered by the last turn, and the first relay is still to come: until the
-- fourth turn behind the start, for which the first timeout is enough, or in this turn, for which the last
-- one is.
pub record IsFiringKnown (turn : ℕ) (g : GroupState) : Type 0 where
  pub relay : g.relay ≡ None
  pub some : any_fired_by g.last g.members ≡ true
  pub ahead : (turn ≤ g.start + 4) ⊎ ((turn + 3 ≤ g.sent) ⊎ (g.last + 1 ≤ g.sent))

-- All is far, none can trigger any more, all can, or one is known to have triggered.
abbrev pub IsIn : (ℕ → Bool) → ℕ → GroupState → Type 0
IsIn fired turn g = (g.sent ≡ g.last + 1) ⊎ (AllOn fired g.members ⊎ (IsLive turn g ⊎ IsFiringKnown turn g))

-- a group that is under way has sent its first timeout, and none that is later than the turn behind its last one
pub record IsTimed (g : GroupState) : Type 0 where
  pub first : first_timeout g.start g.last ≤ g.sent
  pub most : g.sent ≤ g.last + 1

-- A group between two of its turns: it hears what the boards told, and no more.
pub record Hears (g heard : GroupState) : Type 0 where
  pub start : heard.start ≡ g.start
  pub last : heard.last ≡ g.last
  pub sent : heard.sent ≡ g.sent
  pub relay : heard.relay ≡ g.relay
  pub fired : any_fired_by g.last g.members ≡ true → any_fired_by heard.last heard.members ≡ true

-- each member was heard of lately as able to trigger, or is known to have triggered by the last turn
abbrev pub HeardLately : ℕ → ℕ → ℕ → List Seen → Type 0
HeardLately start last turn [] = Unit {0}
HeardLately start last turn (x ∷ xs) =
    ((turn ≤ heard_of start x.heard + 10) ⊎ (fired_by last x.fired ≡ true)) × HeardLately start last turn xs

-- The same, and while a trigger can trigger the last timeout is three turns ahead.
abbrev pub IsAheadIn : (ℕ → Bool) → ℕ → GroupState → Type 0
IsAheadIn fired turn g =
    (g.sent ≡ g.last + 1) ⊎ (AllOn fired g.members ⊎ ((turn + 3 ≤ g.sent) × (IsLive turn g ⊎ IsFiringKnown turn g)))
