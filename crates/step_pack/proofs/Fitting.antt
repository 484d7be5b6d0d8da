-- Ticks in the windows of steps.
use Rattle.std.proofs.Common.{◌≡◌, ℕ, zero, suc, ◌+◌, ◌<◌, List, [], ◌∷◌, length, map, slice_index, arith, refl, ap, sym, ◌∙◌}
use Rattle.plan_types.specs.declared.plan.Planned.{Planned}
use Rattle.plan_types.specs.declared.plan.Pulse.{Pulse}
use Rattle.plan_types.specs.declared.plan.Window.{Window}
use Rattle.plan_types.specs.Board.{last_of}
use Rattle.plan_types.specs.Plan.{AreSpaced, Fits, max_error}
use Rattle.plan_types.specs.Packing.{windows_of, open_windows, RunOn, AreInWindows}
use Rattle.step_pack.proofs.Rows.{spaced_run, run_sooner}
use Rattle.step_pack.proofs.Piecewise.{length-windows, within_open}

in_count : (ticks : List ℕ) (ws : List Window) → AreInWindows ticks ws → length ticks ≡ length ws
in_count [] ws h = sym (ap length h)
in_count (t ∷ ticks) [] h = absurd h
in_count (t ∷ ticks) (w ∷ ws) h = ap suc (in_count ticks ws h.2)

pub as_many : (e last : ℕ) (steps : List Planned) (ticks : List ℕ) → AreInWindows ticks (windows_of e last steps) → length ticks ≡ length steps
as_many e last steps ticks h = in_count ticks (windows_of e last steps) h ∙ length-windows e last steps

in_rise : (last : ℕ) (ws : List Window) (ticks : List ℕ) → RunOn last ws → AreInWindows ticks ws → (i : ℕ) → i + 1 < length (last ∷ ticks) → slice_index (last ∷ ticks) i < slice_index (last ∷ ticks) (i + 1)
in_rise last ws [] run h i below = absurd (omega arith)
in_rise last [] (t ∷ ticks) run h i below = absurd h
in_rise last (w ∷ ws) (t ∷ ticks) run h zero below = let low = h.0 in let first = run.0 in omega (arith, low, first)
in_rise last (w ∷ ws) (t ∷ ticks) run h (suc i) below =
    let e : suc i + 1 ≡ suc (i + 1) = omega arith in
    rw e (in_rise t ws ticks (run_sooner w.high t ws h.1 run.2) h.2 i (omega arith))

pub rising : (e last : ℕ) (steps : List Planned) (ticks : List ℕ) → AreSpaced last steps → AreInWindows ticks (windows_of e last steps)
    → (i : ℕ) → i + 1 < length (last ∷ ticks) → slice_index (last ∷ ticks) i < slice_index (last ∷ ticks) (i + 1)
rising e last steps ticks spaced h = in_rise last (windows_of e last steps) ticks (spaced_run e last steps spaced) h

ends_at : (e before d c : ℕ) (s : Planned) (steps : List Planned) (ticks : List ℕ) → AreInWindows ticks (windows_of e before (s ∷ steps)) → last_of d ticks ≡ last_of c (map (λ x. x.tick) (s ∷ steps))
ends_at e before d c s [] [] h = cc
ends_at e before d c s [] (t ∷ []) h = let low = h.0 in let high = h.1 in omega (arith, low, high)
ends_at e before d c s [] (t ∷ u ∷ ticks) h = absurd h.2
ends_at e before d c s (n ∷ steps) [] h = cc
ends_at e before d c s (n ∷ steps) (t ∷ ticks) h = ends_at e s.tick t s.tick n steps ticks h.2

pub ending : (e last : ℕ) (steps : List Planned) (ticks : List ℕ) → AreInWindows ticks (windows_of e last steps) → last_of last ticks ≡ last_of last (map (λ s. s.tick) steps)
ending e last [] [] h = refl
ending e last [] (t ∷ ticks) h = absurd h
ending e last (s ∷ steps) ticks h = ends_at e last last last s steps ticks h

open_fit : (freq last : ℕ) (steps : List Planned) (pulses : List Pulse) → AreInWindows (map (λ p. p.tick) pulses) (open_windows (max_error freq) last steps) → map (λ p. p.up) pulses ≡ map (λ s. s.up) steps → Fits freq last pulses steps
open_fit freq last steps [] h same = tt
open_fit freq last [] (p ∷ pulses) h same = absurd h
open_fit freq last (s ∷ steps) (p ∷ pulses) h same = (record { direction = cc; not_early = h.0; not_late = h.1 }, open_fit freq s.tick steps pulses h.2 cc)

pub fitting : (freq last : ℕ) (steps : List Planned) (pulses : List Pulse) → AreInWindows (map (λ p. p.tick) pulses) (windows_of (max_error freq) last steps) → map (λ p. p.up) pulses ≡ map (λ s. s.up) steps → Fits freq last pulses steps
fitting freq last steps pulses h same = open_fit freq last steps pulses (within_open (max_error freq) last steps (map (λ p. p.tick) pulses) h) same
