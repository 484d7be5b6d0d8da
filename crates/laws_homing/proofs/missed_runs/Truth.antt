-- What a report that is read wholly true tells of a board's trigger, and how its tick stands to the section's last turn.
use Rattle.std.proofs.Common.{◌≡◌, ℕ, ◌+◌, ◌-◌, ◌*◌, ◌<◌, ◌≤◌, inl, inr, List, [], ◌∷◌, length, map, ap, sym, ◌∙◌, subst, arith, length-append}
use Rattle.laws_board.proofs.Names.{leb_tells, Level, Machine, board_tick, clock_of, turn_ns, Clocks, lines_tick, IsValidMachine, board_at, clocks_at, AreKept, State, Entry, Switch, first_state, LinkState, trigger_of, Member, Fired, noted, Came, known_by, state_at}
use Rattle.plan_types.specs.Lines.{lines_turn}
use Rattle.clock_line.specs.Early.{is_in_run}
use Rattle.clock_line.proofs.Turns.{turn-after, turn-below}
use Rattle.motion_work.specs.Known.{lines_by}
use Rattle.laws_board.specs.turns.Turns.{BoardTurn, latest_state}
use Rattle.laws_board.specs.clocks.Near.{LinesKeepUp}
use Rattle.laws_board.specs.clocks.Runs.{IsInRun}
use Rattle.laws_board.proofs.clocks.Lines.{as_long, run_before}
use Rattle.laws_homing.specs.home_runs.Sections.{HomesFrom}
use Rattle.laws_homing.specs.home_runs.Told.{IsMember}
use Rattle.laws_homing.specs.home_parts.Answers.{ArePastConnecting}
use Rattle.laws_homing.specs.home_parts.Known.{KnowsLately}
use Rattle.laws_homing.proofs.home_parts.Held.{clocks_by, kept_by, tick_known}
use Rattle.laws_homing.specs.switch_runs.Reports.{IsReport, WasReported}
use Rattle.laws_homing.specs.fired_runs.Since.{AreNotAhead, AreSoInTurns, ReadsAsTold, WasFiredAt}
use Rattle.laws_homing.proofs.fired_runs.Reported.{sole_state}
use Rattle.laws_homing.proofs.fired_runs.Rested.{Read, grows, read_now, rises, run_at, was_at}
use Rattle.laws_homing.proofs.fired_runs.Under.{under_after}
use Rattle.laws_homing.proofs.clear_boards.Ending.{when_if}

module _ (m : Machine) (v : IsValidMachine m) (switches : List Switch) (pins : List (List Level)) (entries : List Entry) (b : ℕ) (clocks : List Clocks) (ready start last top : ℕ) (kept : AreKept (clocks_at clocks b))
    (keeps_up : (turn : ℕ) → start ≤ turn → turn ≤ top + 275 → LinesKeepUp (clock_of (board_at m b)) (clocks_at clocks b) turn) where
  abbrev First : LinkState
  First = first_state (board_at m b) pins b entries

  abbrev Own : ℕ → ℕ
  Own k = board_tick (clock_of (board_at m b)) k

  abbrev Oid : ℕ
  Oid = trigger_of m b

  -- the trigger can't trigger since the report's tick, for its reason; a tick of a turn up to the last one is early, and one of a later turn isn't before the
  -- tick of the turn behind the last one
  pub record Truth (f : Fired) (turns : List BoardTurn) : Type 0 where
    pub was : WasFiredAt Oid f.reason f.tick turns
    pub late : Own (start - 1) ≤ f.tick
    pub soon : f.turn ≤ last → f.tick < Own (last + 5)
    pub behind : last < f.turn → lines_tick (clocks_at clocks b) ((last + 1) * turn_ns) ≤ f.tick

  module _ (from : ℕ) (ms : List Member) (low : from < start) (f : Fired) (after_ready : ready < start) (ordered : start ≤ last) (member : IsMember b ms) where
    told_now : (c : Came) (before : List Came) (turns : List BoardTurn) → length before ≤ top → IsInRun m switches pins entries b before turns → state_at b c.states ≡ latest_state turns → HomesFrom m switches from start ms (c ∷ before)
        → AreSoInTurns (ReadsAsTold m switches b) (c ∷ before) turns → AreNotAhead m switches b (c ∷ before) → KnowsLately m switches clocks (c ∷ before) → ArePastConnecting m switches ready (c ∷ before) → IsReport m switches b start f c before → Truth f turns
    told_now c before [] upto r latest homes reads behind knows past x = absurd (let came = x.came in cc)
    told_now c before (t ∷ earlier) upto r latest homes reads behind knows past x =
        let turns = t ∷ earlier in
        let W : List BoardTurn → Type 0 = λ z. WasFiredAt Oid f.reason f.tick z in
        let read : Read m b start f W turns =
        read_now m switches pins entries b from start ms low f (ReadsAsTold m switches b) W (λ u us w. inr w) (λ d ds ts h is members k y. k h f is (subst (IsMember b) (sym members) member) y) c before turns r latest homes reads behind x in
        let n = (noted m c.note (known_by m switches before)).clocks in
        let same : t.state ≡ x.state = sole_state t.state x.state (sym latest ∙ x.came) in
        let turn : x.state.turn ≡ length earlier = ap (λ (s : State). s.turn) (sym same) ∙ r.turns_are.0.1.turn in
        let counts = x.counts in
        let long = as_long m switches b before turns r.both in
        let reached : start ≤ length before = omega (arith, counts, turn, long) in
        let known : n ≡ map (lines_by (length before + 276)) clocks = knows.0 (past.0 (omega (arith, reached, after_ready))) in
        let Ln = clocks_at n b in
        let kept_now : AreKept Ln = subst AreKept (sym (ap (λ (z : List Clocks). clocks_at z b) known ∙ clocks_by (length before + 276) clocks b)) (kept_by (length before + 276) (clocks_at clocks b) kept) in
        let at : (k : ℕ) → k ≤ length before + 276 → lines_tick Ln (k * turn_ns) ≡ lines_tick (clocks_at clocks b) (k * turn_ns) = λ k low_k. tick_known n clocks (length before + 276) b k known kept low_k in
        let turn_is : lines_turn Ln f.tick ≡ f.turn = when_if (is_in_run Ln f.tick) (lines_turn Ln f.tick) f.turn x.turn_is in
        let fired = was_at First Oid f.reason f.tick turns read.was in
        let run_x = run_at m switches pins entries b before fired.0 fired.1 (subst (λ (z : List BoardTurn). IsInRun m switches pins entries b before z) fired.2 r) in
        let under = under_after m switches pins entries b run_x.0 fired.1 run_x.1 Oid fired.3.slot fired.3.is in
        let size = ap length fired.2 ∙ length-append fired.0 fired.1 in
        let on = grows m v switches pins entries b (length fired.1) (length before) (omega (arith, size, long)) in
        let tick_is = fired.3.at in
        let most : f.tick ≤ Own (length before) = omega (arith, under, on, tick_is) in
        record {
          was = read.was;
          late = read.late;
          soon = λ early. elim (leb_tells (last + 1) (length before)) [
            | inl p ↦
                let within = p.1 in
                let above = turn-after Ln f.tick last kept_now (omega (arith, turn_is, early)) in
                let line = at (last + 1) (omega (arith, within)) in
                let ahead = (keeps_up (last + 1) (omega (arith, ordered)) (omega (arith, within, upto))).ahead in
                let next : last + 1 + 4 ≡ last + 5 = omega arith in
                let ahead_so = subst (λ (k : ℕ). lines_tick (clocks_at clocks b) ((last + 1) * turn_ns) < Own k) next ahead in
                omega (arith, above, line, ahead_so)
            | inr p ↦
                let beyond = p.1 in
                let up = rises m v switches pins entries b r.board (length before) in
                let more = grows m v switches pins entries b (length before + 1) (last + 5) (omega (arith, beyond)) in
                omega (arith, most, up, more)
          ];
          behind = λ later. elim (leb_tells (last + 1) (length before + 276)) [
            | inl p ↦
                let line = at (last + 1) p.1 in
                elim (leb_tells (lines_tick Ln ((last + 1) * turn_ns)) f.tick) [
                  | inl q ↦ (let l = q.1 in omega (arith, l, line))
                  | inr q ↦ absurd (let l = q.1 in let less = turn-below Ln f.tick last (omega (arith, l)) in omega (arith, less, turn_is, later))
                ]
            | inr p ↦ absurd (
                let beyond = p.1 in
                let k = length before + 275 in
                let next : k + 1 ≡ length before + 276 = omega arith in
                let line : lines_tick Ln ((k + 1) * turn_ns) ≡ lines_tick (clocks_at clocks b) ((k + 1) * turn_ns) = at (k + 1) (omega arith) in
                let back = (keeps_up k (omega (arith, reached)) (omega (arith, upto))).behind in
                let up = rises m v switches pins entries b r.board (length before) in
                let more = grows m v switches pins entries b (length before + 1) k (omega arith) in
                elim (leb_tells (lines_tick Ln ((k + 1) * turn_ns)) f.tick) [
                  | inl q ↦ (let l = q.1 in omega (arith, l, line, back, up, more, most))
                  | inr q ↦ (let l = q.1 in let less = turn-below Ln f.tick k (omega (arith, l)) in omega (arith, less, turn_is, later, beyond))
                ])
          ];
        }

    pub told_true : (c : Came) (before : List Came) (turns : List BoardTurn) → length before ≤ top → IsInRun m switches pins entries b before turns → state_at b c.states ≡ latest_state turns → HomesFrom m switches from start ms (c ∷ before)
        → AreSoInTurns (ReadsAsTold m switches b) (c ∷ before) turns → AreNotAhead m switches b (c ∷ before) → KnowsLately m switches clocks (c ∷ before) → ArePastConnecting m switches ready (c ∷ before) → WasReported m switches b start f (c ∷ before) → Truth f turns
    told_true c before turns upto r latest homes reads behind knows past (inl now) = told_now c before turns upto r latest homes reads behind knows past now
    told_true c [] turns upto r latest homes reads behind knows past (inr old) = absurd old
    told_true c (d ∷ before) [] upto r latest homes reads behind knows past (inr old) = absurd r.both
    told_true c (d ∷ before) (t ∷ earlier) upto r latest homes reads behind knows past (inr old) =
        let rest = told_true d before earlier (omega (arith, upto)) (run_before m switches pins entries b d before t earlier r) r.both.0 homes.1 reads.1 behind.1 knows.1 past.1 old in
        record { was = inr rest.was; late = rest.late; soon = rest.soon; behind = rest.behind }
