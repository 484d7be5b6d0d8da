-- What a board's clock was when it was asked.
use Rattle.std.specs.Prelude.{ℕ, ℤ, pos, negsuc, ◌+◌, ◌-◌, ◌*◌, ◌/◌, ◌≤◌, List, [], ◌∷◌, nat_lt, if◌then◌else◌}
use Rattle.plan_types.specs.declared.plan.Line.{Line}
use Rattle.plan_types.specs.Clock.{tick, turn_ns, own_tick}
use Rattle.clock_line.specs.declared.sample.Sample.{Sample}

-- how many turns an answer took
abbrev pub took : Sample → ℕ
took s = s.got - s.sent

-- of two samples the one that took less, the first one where both took the same
abbrev pub better : Sample → Sample → Sample
better s t = if nat_lt (took t) (took s) then t else s

-- the first of the samples that took least
abbrev pub best : Sample → List Sample → Sample
best s [] = s
best s (t ∷ ts) = best (better s t) ts

-- the line of a sample: its clock at the beginning of the turn in which it was sent
abbrev pub sampled : Sample → ℕ → Line
sampled s freq = record { at = s.sent * turn_ns; clock = s.clock; freq = freq }

-- the clock line of a board of this frequency, by the best of its samples
abbrev pub chosen : List Sample → ℕ → Line
chosen [] freq = record { at = 0; clock = 0; freq = freq }
chosen (s ∷ ts) freq = sampled (best s ts) freq

-- the own tick of a board as a turn begins, where its clock is exact
abbrev pub own : ℕ → ℕ → ℕ → ℕ
own start freq turn = tick (record { at = 0; clock = start; freq = freq }) (turn * turn_ns)

-- the sample of a board whose answer has its own tick of a turn
abbrev pub sample_at : ℕ → ℕ → ℕ → ℕ → ℕ → Sample
sample_at start freq sent got turn = record { sent = sent; got = got; clock = own start freq turn }

-- the size of a number of parts per million
abbrev pub ppm_size : ℤ → ℕ
ppm_size (pos n) = n
ppm_size (negsuc n) = n + 1

-- two ticks are no further apart than this
abbrev pub AreWithin : ℕ → ℕ → ℕ → Type 0
AreWithin reach a b = (a ≤ b + reach) × (b ≤ a + reach)

-- how far a line may be from its board in turn k: what passed while the sample was taken, the drift since then, and one
abbrev pub line_reach : ℕ → ℕ → ℤ → ℕ → ℕ → ℕ → ℕ
line_reach start freq drift sent got k =
    own_tick start freq drift got - own_tick start freq drift sent + freq * ppm_size drift * (k - sent) / 1_000_000_000
    + 1
