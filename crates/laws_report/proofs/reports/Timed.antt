-- The ticks that the boards' lines of a run tell are small, where a section was begun.
use Rattle.std.proofs.Common.{◌≡◌, ◌≢◌, ℕ, ◌*◌, ◌<◌, ◌≤◌, All, List, [], ◌∷◌, ◌++◌, length, Option, Some, None, refl, subst}
use Rattle.laws_board.proofs.Names.{Cause, Machine, tick, turn_ns, IsValidMachine, clocks_at, Told, Scene, MotionTurn, ReactorTurn}
use Rattle.laws_board.specs.plans.Planned.{AreToldBy, Plans}
use Rattle.laws_run.specs.home_headline.Follow.{AllShowBegun}
use Rattle.laws_run.specs.run_headline.Timely.{clocks_heard, ready_heard}
use Rattle.laws_run.specs.run_limits.Limits.{greatest_tick, start_limit}
use Rattle.laws_run.proofs.run_headline.Boarded.{ready}
use Rattle.laws_run.proofs.run_headline.Showing.{Facts, untold_alone}
use Rattle.laws_run.proofs.run_limits.Early.{starts_early}
use Rattle.laws_run.proofs.run_limits.Keeping.{ready_by}
use Rattle.laws_run.proofs.run_limits.Ticks.{board_low}
use Rattle.laws_report.proofs.reports.Shorts.{IsTimed}

module _ (m : Machine) (v : IsValidMachine m) (s : Scene) (ts : List MotionTurn) (p : Plans m (length m.boards) ts) (end : ReactorTurn) (c : Cause) where
  pub starts_soon : (rs : List ReactorTurn) → Facts m s ts rs end c → All (λ x. x.start < start_limit) p.seen.begun
  starts_soon rs f = starts_early m (length m.boards) ts p (length m.boards) f.from f.to f.goes

  pub begun_timed : (rs : List ReactorTurn) → Facts m s ts rs end c → AllShowBegun m p.seen (clocks_heard p.seen.told) (ready_heard p.seen.told) c (rs ++ end ∷ []) → p.seen.begun ≢ [] → (b : ℕ) → b < length m.boards → IsTimed (clocks_heard p.seen.told) (ready_heard p.seen.told) b
  begun_timed [] f shows some b h = absurd (untold_alone m v s ts p end c p.seen.told refl f some)
  begun_timed (first ∷ rest) f shows some b h = record { early = ready_by m (clocks_heard p.seen.told) (ready_heard p.seen.told) p.seen.begun shows.started some (starts_soon (first ∷ rest) f); low = low_ticks p.seen.told refl }
    where
      low_ticks : (o : Option Told) → p.seen.told ≡ o → tick (clocks_at (clocks_heard o) b).first (ready_heard o * turn_ns) ≤ greatest_tick (ready_heard o)
      low_ticks None e = absurd (some (subst (λ (o : Option Told). AreToldBy m o p.seen.begun) e p.sections))
      low_ticks (Some t) e = board_low m v s ts p t first rest end e (ready m v s ts p t first rest end e f.ahead f.words_left f.turns f.words) b (f.boards b first rest h refl) h
