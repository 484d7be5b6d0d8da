-- The unit that a board names when it shut down since it came too late.
use Rattle.std.specs.Prelude.{◌≡◌, ℕ, ◌<◌, List, ◌∷◌, ◌++◌}
use Rattle.msg_code.specs.declared.cmd.Cmd.TheVariants as cmd
use Rattle.step_feed.specs.Pacing.{Release}
use Rattle.section_units.specs.Sections.{BoardSection}

-- something stands in a list
abbrev pub IsIn : {X : Type 0} → X → List X → Type 0
IsIn {X} x xs = (before : List X) × (behind : List X) × (xs ≡ before ++ x ∷ behind)

-- a unit of one of these sections has this first tick, which is before a tick
pub record IsLateUnit (ss : List BoardSection) (tick first : ℕ) : Type 0 where
  pub section : BoardSection
  pub release : Release
  pub among : IsIn section ss
  pub within : IsIn release section.releases
  pub first_is : release.unit.first ≡ first
  pub late : first < tick
