-- A homing section's members stop in time behind the turn in which one of them triggered.
use Rattle.std.proofs.Common.{◌≡◌, ℕ, ◌+◌, ◌*◌, ◌%◌, ◌^◌, ◌<◌, ◌≤◌, inl, inr, List, [], ◌∷◌, ◌++◌, length, Some, refl, ap, sym, ◌∙◌, subst, arith, append_assoc}
use Rattle.laws_board.proofs.Names.{Level, Machine, nearest, board_tick, clock_of, turn_ns, Clocks, lines_tick, IsValidMachine, board_at, clocks_at, turn_in_run, turn_tick, Cmd, News, State, Entry, Switch, first_state, LinkState, Member, Came}
use Rattle.msg_code.specs.declared.cmd.Cmd.TheVariants as cmd
use Rattle.laws_board.specs.turns.Turns.{AreBoardTurns, BoardTurn, IsBoardOf, latest_state, stands_after}
use Rattle.laws_board.specs.clocks.Runs.{IsInRun}
use Rattle.laws_board.proofs.clocks.Lines.{as_long}
use Rattle.laws_homing.specs.clear_boards.Hearing.{IsAble, TellAble}
use Rattle.laws_homing.specs.home_runs.Moments.{AllComeSoon, AllFiredBefore, BeginsFrom, ComesSoon, CouldAt, HasTriggeredIn}
use Rattle.laws_homing.specs.home_runs.SetUps.{IsBoundIn, StopsAt}
use Rattle.laws_homing.specs.home_runs.Timeouts.{BeginsBy, CouldUpTo, TakesSent, known_in, tick_in}
use Rattle.laws_homing.specs.home_runs.Told.{IsMember}
use Rattle.laws_homing.specs.home_runs.Windows.{HasAnswer}
use Rattle.laws_homing.specs.switch_runs.Runs.{IsEndstop, IsReadInRun}
use Rattle.laws_homing.proofs.fired_runs.Reported.{before_start, sole_state}
use Rattle.laws_homing.proofs.home_runs.Hearing.{stops_by_heard}
use Rattle.laws_homing.proofs.home_runs.Reporting.{reports_moments}
use Rattle.laws_homing.proofs.home_runs.Timeouts.{nearest_low}
use Rattle.laws_homing.proofs.switch_runs.Ordering.{bring_fit}

-- an answer that tells of a trigger that it could trigger
pub record Able (clocks : Clocks) (turn when : ℕ) (news : List News) : Type 0 where
  pub oid : ℕ
  pub can : ℕ
  pub reason : ℕ
  pub clock : ℕ
  pub has : HasAnswer (cmd.TrsyncState oid can reason clock) news
  pub able : can ≡ 0 → ⊥
  pub is : turn_in_run clocks (nearest (turn_tick clocks turn) clock) ≡ Some when

able_one : (clocks : Clocks) (turn when : ℕ) (n : News) (news : List News) (c : Cmd) → n.answer ≡ c
    → IsAble clocks turn when c → Able clocks turn when (n ∷ news)
able_one clocks turn when n news (cmd.TrsyncState oid can reason clock) e a = record { oid = oid; can = can; reason = reason; clock = clock; has = inl e; able = a.0; is = a.1 }
able_one clocks turn when n news c e a = absurd a

pub able_answer : (clocks : Clocks) (turn when : ℕ) (news : List News) → TellAble clocks turn when news
    → Able clocks turn when news
able_answer clocks turn when [] t = absurd t
able_answer clocks turn when (n ∷ news) (inl a) = able_one clocks turn when n news n.answer refl a
able_answer clocks turn when (n ∷ news) (inr t) =
    let x = able_answer clocks turn when news t in
    record { oid = x.oid; can = x.can; reason = x.reason; clock = x.clock; has = inr x.has; able = x.able; is = x.is }

pub run_moments : (m : Machine) (switches : List Switch) (pins : List (List Level)) (entries : List Entry) (b : ℕ)
    (came : List Came) (later : List BoardTurn) (t : BoardTurn) (middle past : List BoardTurn) (oid can reason clock : ℕ)
    → IsInRun m switches pins entries b came (later ++ t ∷ (middle ++ past))
    → (stands_after (first_state (board_at m b) pins b entries) past).core.link.up ≡ []
    → HasAnswer (cmd.TrsyncState oid can reason clock) t.state.news → (can ≡ 0 → ⊥)
    → (x : ℕ) × (board_tick (clock_of (board_at m b)) (length past) ≤ x)
    × CouldAt oid x (stands_after (first_state (board_at m b) pins b entries) (later ++ t ∷ (middle ++ past))).core.board
    × (clock ≡ x % 2 ^ 32)
run_moments m switches pins entries b came later t middle past oid can reason clock r =
    let F = IsReadInRun m switches pins b came in
    reports_moments (IsEndstop m b) F (board_at m b) pins b entries later t middle past oid can reason clock r.turns_are
    (bring_fit m switches pins entries b (λ (n : ℕ). F) came (later ++ t ∷ (middle ++ past)) r (λ tick k. k))

module _ (m : Machine) (switches : List Switch) (pins : List (List Level)) (entries : List Entry) (b start u tick : ℕ)
    (run : List Came) (all : List BoardTurn) (r : IsInRun m switches pins entries b run all)
    (fired : AllFiredBefore tick (stands_after (first_state (board_at m b) pins b entries) all).core.board) where
  abbrev First : LinkState
  First = first_state (board_at m b) pins b entries

  turn_is : (later : List BoardTurn) (t : BoardTurn) (earlier : List BoardTurn)
      → AreBoardTurns (clock_of (board_at m b)) First (later ++ t ∷ earlier) → t.state.turn ≡ length earlier
  turn_is [] t earlier a = a.0.1.turn
  turn_is (v ∷ later) t earlier a = turn_is later t earlier a.1

  one_report : (on turns : List BoardTurn) (c : Came) (before : List Came) (s : State) (when : ℕ) → all ≡ on ++ turns
      → latest_state turns ≡ s ∷ [] → ComesSoon m switches pins entries b c before turns
      → tick ≤ tick_in m switches b c before (u + 1)
      → Able (clocks_at (known_in m switches c before).clocks b) s.turn when s.news → when ≤ u
  one_report on turns c before s when e latest x begins a =
      let clocks = clocks_at (known_in m switches c before).clocks b in
      let own = board_tick (clock_of (board_at m b)) in
      let old = x.middle ++ x.past in
      let whole : all ≡ on ++ x.latest ∷ old = e ∙ ap (λ (l : List BoardTurn). on ++ l) x.are in
      let on_run = subst (IsInRun m switches pins entries b run) whole r in
      let state : x.latest.state ≡ s = sole_state x.latest.state s (sym (ap latest_state x.are) ∙ latest) in
      let turn : s.turn ≡ length old = ap (λ (z : State). z.turn) (sym state) ∙ turn_is on x.latest old on_run.turns_are in
      let has = subst (λ (z : State). HasAnswer (cmd.TrsyncState a.oid a.can a.reason a.clock) z.news) (sym state) a.has in
      let y = run_moments m switches pins entries b run on x.latest x.middle x.past a.oid a.can a.reason a.clock on_run x.none has a.able in
      let k = y.2 in
      let off = subst (λ (l : List BoardTurn). AllFiredBefore tick (stands_after First l).core.board) whole fired a.oid k.slot k.is in
      let since = k.fired off.0 in
      let low = off.1 in
      let from = y.1 in
      let soon : turn_tick clocks (length old) < own (length x.past) + 2 ^ 31 = x.soon in
      let near = nearest_low (turn_tick clocks (length old)) y.0 (far_enough (turn_tick clocks (length old)) (own (length x.past)) y.0 soon from) in
      let at = nearest (turn_tick clocks s.turn) a.clock in
      let same : at ≡ nearest (turn_tick clocks (length old)) (y.0 % 2 ^ 32) =
      ap (λ (n : ℕ). nearest (turn_tick clocks n) a.clock) turn ∙ ap (λ (n : ℕ). nearest (turn_tick clocks (length old)) n) y.3 in
      let early = in_front clocks (u + 1) at (nearest (turn_tick clocks (length old)) (y.0 % 2 ^ 32)) y.0 k.slot.trigger.tick tick same near since low begins in
      let less = before_start clocks (u + 1) at when (omega arith) early a.is in
      omega (arith, less)
    where
      far_enough : (now from x : ℕ) → now < from + 2 ^ 31 → from ≤ x → now < x + 2 ^ 31
      far_enough now from x a b = omega (arith, a, b)

      in_front : (clocks : Clocks) (turn at near x slot tick : ℕ) → at ≡ near → near ≤ x → x ≤ slot → slot < tick
          → tick ≤ turn_tick clocks turn → at < lines_tick clocks (turn * turn_ns)
      in_front clocks turn at near x slot tick a b c d e = omega (arith, a, b, c, d, e)

  could_then : (later turns : List BoardTurn) (came : List Came) → all ≡ later ++ turns
      → IsBoardOf m switches b came turns → BeginsFrom m switches b start (u + 1) tick came
      → AllComeSoon m switches pins entries b start came turns → CouldUpTo m switches b start u came
  could_then later turns [] e is begins soon = tt
  could_then later [] (c ∷ before) e is begins soon = absurd is
  could_then later (v ∷ turns) (c ∷ before) e is begins soon =
      let on = later ++ v ∷ [] in
      let next : all ≡ on ++ turns = e ∙ sym (append_assoc later (v ∷ []) turns) in
      let long = as_long m switches b before turns is.2 in (
        λ s when came counts able.
            let late = counted on turns s next (sym is.0 ∙ came) counts in
            one_report on turns c before s when next (sym is.0 ∙ came) (soon.0 late) (begins.0 (omega (arith, late, long)))
            (able_answer (clocks_at (known_in m switches c before).clocks b) s.turn when s.news able),
        could_then on turns before next is.2 begins.1 soon.1,
      )
    where
      counted : (on turns : List BoardTurn) (s : State) → all ≡ on ++ turns → latest_state turns ≡ s ∷ []
          → start ≤ s.turn + 1 → start ≤ length turns
      counted on [] s e latest counts = absurd (let l = ap length latest in omega (arith, l))
      counted on (t ∷ earlier) s e latest counts =
          let state = sole_state t.state s latest in
          let turn : s.turn ≡ length earlier = ap (λ (z : State). z.turn) (sym state) ∙ turn_is on t earlier (subst (AreBoardTurns (clock_of (board_at m b)) First) e r.turns_are) in
          omega (arith, turn, counts)

could_up_to : (m : Machine) (switches : List Switch) (pins : List (List Level)) (entries : List Entry) (b start u : ℕ)
    (came : List Came) (turns : List BoardTurn) → HasTriggeredIn m switches pins entries b start u came turns
    → CouldUpTo m switches b start u came
could_up_to m switches pins entries b start u came turns x =
    could_then m switches pins entries b start u x.tick came turns x.run_is x.fired [] turns came refl x.run_is.both x.before x.soon

pub stops_by_fired : (m : Machine) (switches : List Switch) (pins others : List (List Level)) (entries : List Entry)
    (b s other : ℕ) (came : List Came)
    (later : List BoardTurn) (t : BoardTurn) (between early : List BoardTurn) (turns : List BoardTurn) (from start u most : ℕ) (ms : List Member) → IsValidMachine m
    → IsBoundIn m switches pins entries b s came later t between early from start ms
    → TakesSent m switches pins entries b came (later ++ t ∷ (between ++ early)) early
    → IsMember other ms → start ≤ u → HasTriggeredIn m switches others entries other start u came turns
    → BeginsBy m switches b from (u + 25) most came
    → StopsAt m pins entries b s most (later ++ t ∷ (between ++ early)) (between ++ early)
stops_by_fired m switches pins others entries b s other came later t between early turns from start u most ms v x soon member late fired begins =
    stops_by_heard m switches pins entries b s other came later t between early from start u most ms v x soon member late
    (could_up_to m switches others entries other start u came turns fired) begins
