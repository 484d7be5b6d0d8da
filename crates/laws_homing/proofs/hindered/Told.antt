-- What a board told of its trigger in a homing section, and as what it is read.
use Rattle.std.proofs.Common.{◌≡◌, ℕ, ◌+◌, ◌-◌, ◌*◌, ◌<◌, ◌≤◌, inl, inr, List, [], ◌∷◌, ◌++◌, length, Some, ap, sym, ◌∙◌, subst, arith, length-append}
use Rattle.laws_board.proofs.Names.{leb_tells, Level, Machine, board_tick, clock_of, turn_ns, Clocks, lines_tick, IsValidMachine, board_at, clocks_at, turn_in_run, State, Entry, Switch, trigger_of, first_state, Member, Fired, members_of, noted, Came, known_by, state_at}
use Rattle.plan_types.specs.Lines.{lines_turn}
use Rattle.clock_line.specs.Early.{is_in_run}
use Rattle.clock_line.proofs.Turns.{turn-after, turn-below}
use Rattle.laws_board.specs.turns.Turns.{BoardTurn, latest_state}
use Rattle.laws_board.specs.clocks.Runs.{IsInRun}
use Rattle.laws_board.proofs.clocks.Lines.{as_long, run_before}
use Rattle.laws_homing.specs.home_runs.Sections.{HomesFrom}
use Rattle.laws_homing.specs.home_runs.Told.{IsMember}
use Rattle.laws_homing.specs.switch_runs.Reports.{IsReport, WasReported}
use Rattle.laws_homing.specs.clear_groups.Sections.{IsAlike, IsFollowed, IsHomingSection, KnowsLines, turns_of}
use Rattle.laws_homing.specs.fired_runs.Since.{AreNotAhead, AreSoInTurns, IsFiredAt, ReadsAsTold, ReadsSwitchTrue, ReadsTrue, WasFiredAt}
use Rattle.laws_homing.proofs.clear_boards.Clocking.{line_ahead}
use Rattle.laws_homing.proofs.clear_boards.Ending.{when_is, when_if}
use Rattle.laws_homing.proofs.clear_groups.Known.{of_known, some_known}
use Rattle.laws_homing.proofs.fired_runs.Reported.{sole_state}
use Rattle.laws_homing.proofs.fired_runs.Rested.{grows, read_now, run_at, was_at}
use Rattle.laws_homing.proofs.fired_runs.Sight.{is_member}
use Rattle.laws_homing.proofs.fired_runs.Under.{under_after}

-- what is read as told is read true
pub told_true : (m : Machine) (switches : List Switch) (b : ℕ) (c : Came) (before : List Came) (turns : List BoardTurn) → ReadsAsTold m switches b c before turns → ReadsTrue m switches b c before turns
told_true m switches b c before turns k = λ h f is on x. (f.reason, k h f is on x)

pub told_switch : (m : Machine) (switches : List Switch) (b : ℕ) (c : Came) (before : List Came) (turns : List BoardTurn) → ReadsAsTold m switches b c before turns → ReadsSwitchTrue m switches b c before turns
told_switch m switches b c before turns k = λ h f is reader one x.
    subst (λ (n : ℕ). WasFiredAt (trigger_of m b) n f.tick turns) one (k h f is (is_member b (members_of h.group) reader) x)

pub read_more : (R S : Came → List Came → List BoardTurn → Type 0) (came : List Came) (turns : List BoardTurn) → ((c : Came) (before : List Came) (past : List BoardTurn) → R c before past → S c before past) → AreSoInTurns R came turns → AreSoInTurns S came turns
read_more R S [] turns f k = tt
read_more R S (c ∷ before) [] f k = tt
read_more R S (c ∷ before) (t ∷ earlier) f k = (f c before (t ∷ earlier) k.0, read_more R S before earlier f k.1)

-- a tick since which a board's trigger can't trigger is one that the board has come to
came_to : (m : Machine) → IsValidMachine m → (switches : List Switch) (pins : List (List Level)) (entries : List Entry) (b reason tick : ℕ) (before : List Came) (turns : List BoardTurn) → IsInRun m switches pins entries b before turns
    → WasFiredAt (trigger_of m b) reason tick turns → tick ≤ board_tick (clock_of (board_at m b)) (length turns)
came_to m v switches pins entries b reason tick before turns r w =
    let x = was_at (first_state (board_at m b) pins b entries) (trigger_of m b) reason tick turns w in
    let past = run_at m switches pins entries b before x.0 x.1 (subst (IsInRun m switches pins entries b before) x.2 r) in
    let under = under_after m switches pins entries b past.0 x.1 past.1 (trigger_of m b) x.3.slot x.3.is in
    let size = ap length x.2 ∙ length-append x.0 x.1 in
    let on_so = grows m v switches pins entries b (length x.1) (length turns) (omega (arith, size)) in
    let at = x.3.at in
    omega (arith, under, on_so, at)

-- so what a board reports in a homing section, and that is read true, is of no turn to come
pub report_early : (m : Machine) → IsValidMachine m → (switches : List Switch) (pins : List (List Level)) (entries : List Entry) (Goes : ℕ → List Came → List BoardTurn → Type 0) (lines : ℕ → Clocks) (ready from start last till : ℕ) (members : List Member) (b : ℕ) → IsMember b members
    → IsFollowed m b (lines b) ready start last till → ready + 5 ≤ start → (c : Came) (before : List Came) (j : ℕ → BoardTurn) (js : List (ℕ → BoardTurn)) → IsHomingSection Goes m switches lines from start members c before (j ∷ js) → IsInRun m switches pins entries b before (turns_of b (j ∷ js))
    → (start ≤ length before → from ≤ length before) → length before ≤ last → length before + 1 ≤ till → ReadsTrue m switches b c before (turns_of b (j ∷ js)) → (f : Fired) → IsReport m switches b start f c before → f.turn ≤ length before + 1
report_early m v switches pins entries Goes lines ready from start last till members b on fol low_so c before j js s run known_then low reach reads f x =
    let turns = turns_of b (j ∷ js) in
    let long = as_long m switches b before turns run.both in
    let same : (j b).state ≡ x.state = sole_state (j b).state x.state (sym (s.states b on) ∙ x.came) in
    let turn : x.state.turn ≡ length (turns_of b js) = ap (λ (z : State). z.turn) (sym same) ∙ run.turns_are.0.1.turn in
    let counts = x.counts in
    let homes = s.homes.0 (known_then (omega (arith, counts, turn, long))) in
    let known = some_known start members (noted m c.note (known_by m switches before)).homing homes.1 in
    let of = of_known start members (noted m c.note (known_by m switches before)).homing known.0 homes.1 known.1 in
    let read = reads known.0 f known.1 (subst (IsMember b) (sym of.2) on) (subst (λ (n : ℕ). IsReport m switches b n f c before) (sym of.0) x) in
    let come = came_to m v switches pins entries b read.0 f.tick before turns run read.1 in
    let rises = fol.rises (length turns) in
    let ends_so = fol.ends in
    let next = fol.tracked.behind (length turns + 1) (omega (arith, low_so, counts, turn)) (omega (arith, ends_so, reach, low, long)) in
    let alike = (s.knows.0 homes.0 known.0 known.1 of.0 b run.board).1.ticks (length turns + 1 + 1) (omega (arith, long)) in
    let lines_now = clocks_at (noted m c.note (known_by m switches before)).clocks b in
    let below = turn-below lines_now f.tick (length turns + 1) (omega (arith, come, rises, next, alike)) in
    let is = when_if (is_in_run lines_now f.tick) (lines_turn lines_now f.tick) f.turn x.turn_is in
    omega (arith, below, is, long)

module _ (m : Machine) (v : IsValidMachine m) (switches : List Switch) (pins : List (List Level)) (entries : List Entry) (b from start last till : ℕ) (lines : ℕ → Clocks) (ready : ℕ) (ms : List Member) (on : IsMember b ms) (low : from < start) (followed : IsFollowed m b (lines b) ready start last till)
    (low_so : ready + 5 ≤ start) (f : Fired) (in_time : f.turn ≤ last) where
  abbrev Oid : ℕ
  Oid = trigger_of m b

  abbrev Own : ℕ → ℕ
  Own k = board_tick (clock_of (board_at m b)) k

  -- a report of a tick before that of the turn behind the section's last one, since which the trigger can't trigger
  pub record Told (turns : List BoardTurn) : Type 0 where
    pub was : WasFiredAt Oid f.reason f.tick turns
    pub late : Own (start - 1) ≤ f.tick
    pub early : f.tick < lines_tick (lines b) ((last + 1) * turn_ns)

  told_early : (n : ℕ) (known : Clocks) → IsAlike (n + 276) known (lines b) → turn_in_run known f.tick ≡ Some f.turn → f.tick ≤ Own n → start ≤ n + 1 → n + 276 ≤ till → f.tick < lines_tick (lines b) ((last + 1) * turn_ns)
  told_early n known alike is came far reach = elim (leb_tells (last + 1) (n + 276)) [
    | inl p ↦
        let at = when_is known f.tick f.turn is in
        let after = turn-after known f.tick last alike.kept (omega (arith, at, in_time)) in
        let same = alike.ticks (last + 1) p.1 in
        omega (arith, after, same)
    | inr p ↦
        let behind = p.1 in
        let ends = followed.ends in
        let up = followed.rises n in
        let ahead = line_ahead Own (lines b) ready (n + 1) (last + 1) followed.tracked (omega (arith, far, low_so)) (omega (arith, behind, ends, reach)) (omega (arith, behind)) in
        omega (arith, came, up, ahead)
  ]

  told_now : (c : Came) (before : List Came) (turns : List BoardTurn) → IsInRun m switches pins entries b before turns → state_at b c.states ≡ latest_state turns → HomesFrom m switches from start ms (c ∷ before) → KnowsLines m switches start lines (c ∷ before)
      → AreSoInTurns (ReadsAsTold m switches b) (c ∷ before) turns → AreNotAhead m switches b (c ∷ before) → length before + 276 ≤ till → IsReport m switches b start f c before → Told turns
  told_now c before [] r latest homes knows reads behind reach x = absurd (let came = x.came in let bad : [] ≡ x.state ∷ [] = sym latest ∙ came in cc)
  told_now c before (t ∷ earlier) r latest homes knows reads behind reach x =
      let W : List BoardTurn → Type 0 = λ z. WasFiredAt Oid f.reason f.tick z in
      let read = read_now m switches pins entries b from start ms low f (ReadsAsTold m switches b) W (λ t ts w. inr w) (λ d past ts h is members k y. k h f is (subst (IsMember b) (sym members) on) y) c before (t ∷ earlier) r latest homes reads behind x in
      let same : t.state ≡ x.state = sole_state t.state x.state (sym latest ∙ x.came) in
      let turn : x.state.turn ≡ length earlier = ap (λ (s : State). s.turn) (sym same) ∙ r.turns_are.0.1.turn in
      let counts = x.counts in
      let long = as_long m switches b before (t ∷ earlier) r.both in
      let home = homes.0 (omega (arith, counts, turn, long, low)) in
      let known = some_known start ms (noted m c.note (known_by m switches before)).homing home.1 in
      let begins = (of_known start ms (noted m c.note (known_by m switches before)).homing known.0 home.1 known.1).0 in
      let alike = (knows.0 home.0 known.0 known.1 begins b r.board).1 in
      let came = came_to m v switches pins entries b f.reason f.tick before (t ∷ earlier) r read.was in
      let at : Own (length (t ∷ earlier)) ≡ Own (length before) = ap Own (sym long) in
      record { was = read.was; late = read.late; early = told_early (length before) (clocks_at (noted m c.note (known_by m switches before)).clocks b) alike x.turn_is (omega (arith, came, at)) (omega (arith, counts, turn, long)) reach }

  pub was_told : (c : Came) (before : List Came) (turns : List BoardTurn) → IsInRun m switches pins entries b before turns → state_at b c.states ≡ latest_state turns → HomesFrom m switches from start ms (c ∷ before) → KnowsLines m switches start lines (c ∷ before)
      → AreSoInTurns (ReadsAsTold m switches b) (c ∷ before) turns → AreNotAhead m switches b (c ∷ before) → length before + 276 ≤ till → WasReported m switches b start f (c ∷ before) → Told turns
  was_told c before turns r latest homes knows reads behind reach (inl now) = told_now c before turns r latest homes knows reads behind reach now
  was_told c [] turns r latest homes knows reads behind reach (inr old) = absurd old
  was_told c (d ∷ before) [] r latest homes knows reads behind reach (inr old) = absurd r.both
  was_told c (d ∷ before) (t ∷ earlier) r latest homes knows reads behind reach (inr old) =
      let rest = was_told d before earlier (run_before m switches pins entries b d before t earlier r) r.both.0 homes.1 knows.1 reads.1 behind.1 (omega (arith, reach)) old in
      record { was = inr rest.was; late = rest.late; early = rest.early }

  -- and where the trigger stands so, the section had started
  pub stands_late : (before : List Came) (later : List BoardTurn) (t : BoardTurn) (past turns : List BoardTurn) → IsInRun m switches pins entries b before turns → turns ≡ later ++ t ∷ past → IsFiredAt Oid f.reason f.tick t.after.core.board → Own (start - 1) ≤ f.tick → start ≤ length past + 250
  stands_late before later t past turns r are x late =
      let here = run_at m switches pins entries b before later (t ∷ past) (subst (IsInRun m switches pins entries b before) are r) in
      let under = under_after m switches pins entries b here.0 (t ∷ past) here.1 Oid x.slot x.is in
      let at = x.at in
      elim (leb_tells start (length past + 250)) [
        | inl p ↦ p.1
        | inr p ↦
            let far = p.1 in
            let up = followed.rises (start - 2) in
            let next : Own (start - 2 + 1) ≡ Own (start - 1) = ap Own (omega (arith, far)) in
            let on_so = grows m v switches pins entries b (length (t ∷ past)) (start - 2) (omega (arith, far)) in
            absurd (omega (arith, under, at, late, up, next, on_so))
      ]
