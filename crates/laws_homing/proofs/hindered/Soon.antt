-- Where what a board told comes soon, a homing group hears of it as able to trigger in no turn to come.
use Rattle.std.proofs.Common.{◌≡◌, ℕ, ◌+◌, ◌*◌, ◌%◌, ◌^◌, ◌<◌, ◌≤◌, List, [], ◌∷◌, ◌++◌, length, Some, refl, ap, sym, ◌∙◌, subst, arith}
use Rattle.laws_board.proofs.Names.{Level, Machine, nearest, board_tick, clock_of, turn_ns, Clocks, lines_tick, board_at, clocks_at, turn_tick, State, Entry, Switch, Member, Homing, hears_all, Came, known_by, state_at}
use Rattle.msg_code.specs.declared.cmd.Cmd.TheVariants as cmd
use Rattle.laws_board.specs.turns.Turns.{BoardTurn, latest_state}
use Rattle.laws_board.specs.clocks.Runs.{IsInRun}
use Rattle.laws_board.proofs.clocks.Controls.{states_start}
use Rattle.laws_board.proofs.clocks.Lines.{as_long, run_before}
use Rattle.laws_homing.specs.clear_boards.Hearing.{TellAble}
use Rattle.laws_homing.specs.clear_groups.Early.{HeardUntil}
use Rattle.laws_homing.specs.clear_groups.Sections.{KnowsLines}
use Rattle.laws_homing.specs.hindered.Hindered.{HeardByNow}
use Rattle.laws_homing.specs.home_runs.Moments.{AllComeSoon, ComesSoon}
use Rattle.laws_homing.specs.home_runs.Sections.{HomesFrom}
use Rattle.laws_homing.specs.home_runs.Timeouts.{CouldUpTo, known_in}
use Rattle.laws_homing.specs.home_runs.Windows.{HasAnswer}
use Rattle.laws_homing.proofs.clear_boards.Standing.{tick_is}
use Rattle.laws_homing.proofs.clear_groups.Known.{of_known, some_known}
use Rattle.laws_homing.proofs.fired_runs.Reported.{before_start, sole_state}
use Rattle.laws_homing.proofs.home_runs.Fired.{Able, able_answer, run_moments}
use Rattle.laws_homing.proofs.home_runs.Hearing.{HeardSo, heard_so, known_so, noted_so}
use Rattle.laws_homing.proofs.home_runs.Timeouts.{nearest_low}

module _ (m : Machine) (switches : List Switch) (pins : List (List Level)) (entries : List Entry) (b from start : ℕ) (members : List Member) (lines : ℕ → Clocks) (order : from ≤ start) where
  abbrev Own : ℕ → ℕ
  Own k = board_tick (clock_of (board_at m b)) k

  -- each turn of the board begins at or before the turn behind it by the lines
  abbrev Front : ℕ → Type 0
  Front most = (k : ℕ) → start ≤ k → k ≤ most → Own k ≤ lines_tick (lines b) ((k + 1) * turn_ns)

  -- what comes in a turn
  abbrev Soon : Came → List Came → List BoardTurn → Type 0
  Soon c before turns = (start ≤ length turns → ComesSoon m switches pins entries b c before turns) × AllComeSoon m switches pins entries b start before turns

  one_now : (known : Clocks) (turns : List BoardTurn) (c : Came) (before : List Came) (s : State) (when : ℕ) → IsInRun m switches pins entries b before turns → latest_state turns ≡ s ∷ [] → ComesSoon m switches pins entries b c before turns
      → known ≡ clocks_at (known_in m switches c before).clocks b → Own (length turns) ≤ lines_tick known ((length turns + 1) * turn_ns) → Able known s.turn when s.news → when ≤ length turns
  one_now known turns c before s when r latest x is front a =
      let old = x.middle ++ x.past in
      let run = subst (IsInRun m switches pins entries b before) x.are r in
      let state : x.latest.state ≡ s = sole_state x.latest.state s (sym (ap latest_state x.are) ∙ latest) in
      let turn : s.turn ≡ length old = ap (λ (z : State). z.turn) (sym state) ∙ run.turns_are.0.1.turn in
      let has = subst (λ (z : State). HasAnswer (cmd.TrsyncState a.oid a.can a.reason a.clock) z.news) (sym state) a.has in
      let y = run_moments m switches pins entries b before [] x.latest x.middle x.past a.oid a.can a.reason a.clock run x.none has a.able in
      let came = y.2.came in
      let at_end = tick_is (board_at m b) pins b entries (x.latest ∷ old) run.turns_are in
      let size : length turns ≡ length (x.latest ∷ old) = ap length x.are in
      let own : Own (length turns) ≡ Own (length (x.latest ∷ old)) = ap Own size in
      let low = y.1 in
      let soon : turn_tick known (length old) < Own (length x.past) + 2 ^ 31 = subst (λ (z : Clocks). turn_tick z (length old) < Own (length x.past) + 2 ^ 31) (sym is) x.soon in
      let near = nearest_low (turn_tick known (length old)) y.0 (omega (arith, soon, low)) in
      let at : nearest (turn_tick known s.turn) a.clock ≡ nearest (turn_tick known (length old)) (y.0 % 2 ^ 32) =
      ap (λ (n : ℕ). nearest (turn_tick known n) a.clock) turn ∙ ap (λ (n : ℕ). nearest (turn_tick known (length old)) n) y.3 in
      let early : nearest (turn_tick known s.turn) a.clock < lines_tick known ((length turns + 1) * turn_ns) = omega (arith, at, near, came, at_end, own, front) in
      let less = before_start known (length turns + 1) (nearest (turn_tick known s.turn) a.clock) when (omega arith) early a.is in
      omega (arith, less)

  -- so all that comes in a turn
  reports_now : (c : Came) (before : List Came) (turns : List BoardTurn) → IsInRun m switches pins entries b before turns → state_at b c.states ≡ latest_state turns → HomesFrom m switches from start members (c ∷ before) → KnowsLines m switches start lines (c ∷ before)
      → Front (length before) → Soon c before turns → (s : State) (when : ℕ) → state_at b c.states ≡ s ∷ [] → start ≤ s.turn + 1 → TellAble (clocks_at (known_in m switches c before).clocks b) s.turn when s.news → when ≤ length before
  reports_now c before turns r latest homes knows front soon s when came counts able =
      let long = as_long m switches b before turns r.both in
      let late = counted turns r (sym latest ∙ came) in
      let home = homes.0 (omega (arith, late, long, order)) in
      let known = some_known start members (known_in m switches c before).homing home.1 in
      let of = of_known start members (known_in m switches c before).homing known.0 home.1 known.1 in
      let alike = (knows.0 home.0 known.0 known.1 of.0 b r.board).1 in
      let same = alike.ticks (length turns + 1) (omega (arith, long)) in
      let ahead = front (length turns) late (omega (arith, long)) in
      let x = one_now (clocks_at (known_in m switches c before).clocks b) turns c before s when r (sym latest ∙ came) (soon.0 late) refl (omega (arith, ahead, same)) (able_answer (clocks_at (known_in m switches c before).clocks b) s.turn when s.news able) in
      omega (arith, x, long)
    where
      counted : (turns : List BoardTurn) → IsInRun m switches pins entries b before turns → latest_state turns ≡ s ∷ [] → start ≤ length turns
      counted [] q e = absurd (let l = ap length e in omega (arith, l))
      counted (t ∷ earlier) q e =
          let state = sole_state t.state s e in
          let turn : s.turn ≡ length earlier = ap (λ (z : State). z.turn) (sym state) ∙ q.turns_are.0.1.turn in
          omega (arith, turn, counts)

  front_less : (most less : ℕ) → less ≤ most → Front most → Front less
  front_less most less low front = λ k late under. front k late (omega (arith, low, under))

  -- and what it told until then
  could_now : (u : ℕ) (c : Came) (before : List Came) (turns : List BoardTurn) → length before ≤ u → IsInRun m switches pins entries b before turns → state_at b c.states ≡ latest_state turns → HomesFrom m switches from start members (c ∷ before) → KnowsLines m switches start lines (c ∷ before)
      → Front (length before) → Soon c before turns → CouldUpTo m switches b start u (c ∷ before)
  could_now u c [] turns most r latest homes knows front soon = (λ s when came counts able. (let x = reports_now c [] turns r latest homes knows front soon s when came counts able in omega (arith, x, most)), tt)
  could_now u c (d ∷ before) [] most r latest homes knows front soon = absurd r.both
  could_now u c (d ∷ before) (t ∷ turns) most r latest homes knows front soon = (
    λ s when came counts able. (let x = reports_now c (d ∷ before) (t ∷ turns) r latest homes knows front soon s when came counts able in omega (arith, x, most)),
    could_now u d before turns (omega (arith, most)) (run_before m switches pins entries b d before t turns r) r.both.0 homes.1 knows.1 (front_less (length (d ∷ before)) (length before) (omega arith) front) soon.1,
  )

  heard_now : (c : Came) (before : List Came) (turns : List BoardTurn) → IsInRun m switches pins entries b before turns → state_at b c.states ≡ latest_state turns → HomesFrom m switches from start members (c ∷ before) → KnowsLines m switches start lines (c ∷ before)
      → Front (length before) → Soon c before turns → start ≤ length before → (h : Homing) → (known_in m switches c before).homing ≡ Some h
      → HeardUntil (hears_all (known_in m switches c before).clocks c.states h).group.start b (length before) (hears_all (known_in m switches c before).clocks c.states h).group.members
  heard_now c before turns r latest homes knows front soon late h is =
      let k = known_in m switches c before in
      let u = length before in
      let could = could_now u c before turns (omega arith) r latest homes knows front soon in
      let of = of_known start members k.homing h (homes.0 (omega (arith, late, order))).1 is in
      let was : HeardSo m switches b start u late (Some h) = subst (HeardSo m switches b start u late) is (noted_so m switches b start u late c.note (known_by m switches before) (known_so m switches b start u late before r.goes_on could.1)) in
      let heard = heard_so m switches b start u late c before h could was of.0 in
      let begins : (hears_all k.clocks c.states h).group.start ≡ start = states_start k.clocks 0 h.start c.states h.group ∙ of.1 in
      subst (λ (n : ℕ). HeardUntil n b u (hears_all k.clocks c.states h).group.members) (sym begins) heard

  pub heard_by_now : (c : Came) (before : List Came) (turns : List BoardTurn) → IsInRun m switches pins entries b before turns → state_at b c.states ≡ latest_state turns → HomesFrom m switches from start members (c ∷ before) → KnowsLines m switches start lines (c ∷ before)
      → Front (length before) → Soon c before turns → HeardByNow m switches b start (c ∷ before)
  heard_by_now c [] turns r latest homes knows front soon = (heard_now c [] turns r latest homes knows front soon, tt)
  heard_by_now c (d ∷ before) [] r latest homes knows front soon = absurd r.both
  heard_by_now c (d ∷ before) (t ∷ turns) r latest homes knows front soon = (
    heard_now c (d ∷ before) (t ∷ turns) r latest homes knows front soon,
    heard_by_now d before turns (run_before m switches pins entries b d before t turns r) r.both.0 homes.1 knows.1 (front_less (length (d ∷ before)) (length before) (omega arith) front) soon.1,
  )
