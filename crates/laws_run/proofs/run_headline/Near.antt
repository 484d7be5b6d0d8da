-- The clock lines of a run follow the boards' clocks.
use Rattle.std.proofs.Common.{◌≡◌, ◌%◌, ◌≤◌, All, List, [], ◌∷◌, arith, refl, subst, sym}
use Rattle.laws_board.proofs.Names.{All-cons, All-nil, BoardClock, Held, Line}
use Rattle.clock_line.specs.declared.sample.Sample.{Sample}
use Rattle.clock_line.specs.Samples.{ppm_size, sampled}
use Rattle.laws_board.specs.clocks.Samples.{IsSample, IsSampled}
use Rattle.laws_board.proofs.clocks.Near.{drifting_near, exact_near}
use Rattle.laws_board.specs.turns.Turns.{BoardTurn}
use Rattle.laws_board.specs.orders.Renewed.{AreSampled}
use Rattle.laws_run.specs.run_headline.Near.{FollowsClock}

-- the line of a sample
abbrev pub sample_follows : (clock : BoardClock) (turns : List BoardTurn) (s : Sample) → clock.freq % 1_000 ≡ 0 → ppm_size clock.drift ≤ 200 → IsSample clock turns s → FollowsClock clock (sampled s clock.freq)
sample_follows clock turns s freq drift x = record {
  sent = s.sent;
  got = s.got;
  at = refl;
  freq = refl;
  soon = x.soon;
  turn = x.turn;
  from = x.from;
  to = x.to;
  own = x.own;
  near = λ k h. drifting_near clock turns s k freq (omega (arith, drift)) x h;
  exact = λ zero k h. exact_near clock turns s k freq zero x h;
}

pub follows_clock : (clock : BoardClock) (turns : List BoardTurn) (l : Line) → clock.freq % 1_000 ≡ 0 → ppm_size clock.drift ≤ 200 → IsSampled clock turns l → FollowsClock clock l
follows_clock clock turns l freq drift x =
    let At : Line → Type 0 = λ z. FollowsClock clock z in
    subst At (sym x.2) (sample_follows clock turns x.0 freq drift x.1)

pub follow_clock : (clock : BoardClock) (turns : List BoardTurn) (held : List Held) → clock.freq % 1_000 ≡ 0 → ppm_size clock.drift ≤ 200 → AreSampled clock turns held → All (λ h. FollowsClock clock h.line) held
follow_clock clock turns [] freq drift x = All-nil (λ (h : Held). FollowsClock clock h.line)
follow_clock clock turns (h ∷ held) freq drift x = All-cons (λ (y : Held). FollowsClock clock y.line) h held (follows_clock clock turns h.line freq drift x.0) (follow_clock clock turns held freq drift x.1)
