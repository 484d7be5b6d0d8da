-- Where a unit begins and ends.
use Rattle.std.proofs.Common.{◌≡◌, ℕ, suc, ◌+◌, ◌<◌, ◌≤◌, List, [], ◌∷◌, length, arith}
use Rattle.std.specs.Prelude.{slice_index}
use Rattle.plan_types.specs.Board.{last_of, TicksRise}
use Rattle.plan_types.specs.Lines.{Clocks}
use Rattle.step_feed.specs.Units.{StepUnit}
use Rattle.section_units.specs.Sections.{ticks_meant, IsUnit}

ticks_up : (t x : ℕ) (ts : List ℕ) → TicksRise (t ∷ ts) → t ≤ last_of x (t ∷ ts)
ticks_up t x [] rise = omega arith
ticks_up t x (u ∷ ts) rise =
    let here : t < u = rise 0 (omega arith) in
    let tail : TicksRise (u ∷ ts) = λ i h. let e : suc i + 1 ≡ suc (i + 1) = omega arith in rw e at (rise (suc i) (omega (arith, h))) in
    let later = ticks_up u t ts tail in
    omega (arith, here, later)

pub ends_up : (ts : List ℕ) → TicksRise ts → 0 < length ts → slice_index ts 0 ≤ last_of 0 ts
ends_up [] rise some = absurd (omega (arith, some))
ends_up (t ∷ ts) rise some = ticks_up t 0 ts rise

pub starts : (clocks : Clocks) (behind : ℕ) (u : StepUnit) → IsUnit clocks behind u → behind < u.first
starts clocks behind u is = let h = is.expands.behind in omega (arith, h, is.first)

pub spans : (clocks : Clocks) (behind : ℕ) (u : StepUnit) → IsUnit clocks behind u → u.first ≤ u.last
spans clocks behind u is =
    let ts = is.expands.ticks_of in
    let up = ends_up (ticks_meant u) is.rise (omega (arith, ts.number, ts.some)) in
    omega (arith, up, is.first, is.last)
