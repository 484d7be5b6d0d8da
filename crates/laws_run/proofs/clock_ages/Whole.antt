-- The clock lines of a whole run come in time.
use Rattle.std.proofs.Common.{◌≡◌, ◌≢◌, ℕ, ℤ, zero, suc, pos, negsuc, ◌+◌, ◌<◌, ◌≤◌, List, [], ◌++◌, length, Some, None, refl, sym, ◌∙◌, subst, arith, rules}
use Rattle.laws_board.proofs.Names.{length-map, Machine, clock_of, IsValidMachine, board_at, clocks_at, AreKept, WordMsg, Told, MotionTurn}
use Rattle.clock_line.specs.Samples.{ppm_size}
use Rattle.laws_board.specs.turns.Turns.{BoardTurn}
use Rattle.laws_board.specs.orders.Renewed.{ComeInTime}
use Rattle.laws_board.specs.plans.Planned.{AreKnown, Plans, put_of, words_in}
use Rattle.laws_run.proofs.clock_ages.Saying.{TellsAgain}
use Rattle.laws_run.proofs.run_headline.Boarded.{valid_at}
use Rattle.laws_run.proofs.run_limits.Own.{sample_small}
use Rattle.laws_run.proofs.clock_ages.Ages.{Goes, IsDrifting, young_all}
use Rattle.laws_homing.proofs.clear_groups.Noted.{drift_small}

drift_some : (d : ℤ) → d ≢ pos 0 → 0 < ppm_size d
drift_some (pos zero) n = absurd (n refl)
drift_some (pos (suc k)) n = omega arith
drift_some (negsuc k) n = omega arith

module _ (m : Machine) (n : ℕ) (ts : List MotionTurn) (p : Plans m n ts) (t : Told) (b ended running : ℕ) (turns : List BoardTurn) (ws more : List WordMsg) (valid : IsValidMachine m) (told : p.seen.told ≡ Some t) (inside : b < length m.boards)
    (drift : (board_at m b).drift ≢ pos 0) (are : words_in p.made ++ more ≡ ws) (a : TellsAgain m b ended running turns ws (clocks_at t.clocks b).first) where
  drifting : IsDrifting m b
  drifting =
      let board = valid_at m.boards b inside valid.boards in
      record { board = board; few = drift_small (board_at m b).drift board.drift_low board.drift_high; some = drift_some (board_at m b).drift drift; inside = inside }

  known : AreKnown m (Some t)
  known = subst (AreKnown m) told p.known

  kept : AreKept (clocks_at t.clocks b)
  kept = known.1 b inside (sample_small (clock_of (board_at m b)) turns (clocks_at t.clocks b).first drifting.board.start drifting.board.freq.high drifting.few a.few a.first_sampled)

  goes : Goes m b ended running turns ws t drifting kept known.0.count a p.seen.text p.seen.begun 0 0 [] p.made None
  goes = search (rules, length-map)

  pub plan_young : (until : ℕ) → length turns ≤ length p.made + 1 → until ≤ length turns + 400 → ComeInTime (board_at m b).drift (clocks_at t.clocks b).first (clocks_at t.clocks b).held until
  plan_young until long high = young_all m b ended running turns ws t drifting kept known.0.count a p.seen.text p.seen.begun p.made until goes long high
