-- Streams of units, as their callers see them.
use Rattle.std.specs.Prelude.{◌≡◌, ℕ, ◌+◌, ◌<◌, ◌≤◌, ◌*◌, List, [], ◌∷◌, ◌++◌, All}
use Rattle.plan_types.specs.Clock.{turn_ns}
use Rattle.plan_types.specs.Lines.{Clocks}
use Rattle.plan_types.specs.declared.plan.Held.{Held}
use Rattle.step_feed.specs.declared.stream.FeedStream.{FeedStream}
use Rattle.step_feed.specs.Units.{StepUnit}
use Rattle.step_feed.specs.Pacing.{Release, lead}
use Rattle.step_feed.specs.Fed.{IsFed}

-- of the bytes of a stream's next turn so many are used
abbrev pub IsFedBy : FeedStream → Clocks → ℕ → List StepUnit → List Release → Type 0
IsFedBy s clocks used pushed released =
    IsFed clocks s.slots s.next used s.rings.items s.waiting.items s.first pushed released

-- a stream to which these units were pushed, and which has released these before its next turn
abbrev pub IsFedOf : FeedStream → Clocks → List StepUnit → List Release → Type 0
IsFedOf s clocks pushed released = IsFedBy s clocks 0 pushed released

-- the turn whose units a stream gives next
abbrev pub next_turn : FeedStream → ℕ
next_turn s = s.next

-- the first turn of a stream
abbrev pub stream_start : FeedStream → ℕ
stream_start s = s.first

-- how many slots each stepper's queue has
abbrev pub slots_of : FeedStream → ℕ
slots_of s = s.slots

-- lines to which more may have been added, which hold from times after the beginning of a turn
pub record Extends (old new : Clocks) (turn : ℕ) : Type 0 where
  pub more : List Held
  pub first : new.first ≡ old.first
  pub held : new.held ≡ old.held ++ more
  pub after : All (λ h. turn * turn_ns < h.from) more

-- units that are due later than so many turns after those before a turn
abbrev pub AreLater : ℕ → List StepUnit → Type 0
AreLater next [] = Unit {0}
AreLater next (u ∷ us) = next + lead ≤ u.due × AreLater next us
