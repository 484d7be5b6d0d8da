-- What a board is sent from the turn on in which its trigger is started until four turns behind a section's start: timeouts and readings from the start on, and no relay.
use Rattle.std.proofs.Common.{◌≡◌, inl, inr, ℕ, suc, ◌+◌, ◌-◌, ◌*◌, ◌%◌, ◌^◌, ◌<◌, ◌≤◌, min, max, Bool, true, false, List, [], ◌∷◌, length, Option, Some, None, ap, sym, ◌∙◌, subst, arith}
use Rattle.std.specs.Prelude.{nat_lt}
use Rattle.laws_board.proofs.Names.{leb_tells, Level, AxisDef, Machine, nearest, board_tick, clock_of, turn_ns, Clocks, lines_tick, axis_at, board_at, clocks_at, turn_tick, Cmd, Entry, Switch, Meant, commands_of, Member, Order, first_timeout, relay_in, relays_in, Homing, hears_all, low, order_command, noted, Came, known_by, queued_in, orders}
use Rattle.msg_code.specs.declared.cmd.Cmd.TheVariants as cmd
use Rattle.trigger_group.specs.declared.order.Order.TheVariants as order
use Rattle.trigger_group.specs.Group.{limit, relay_begins, relay_from}
use Rattle.laws_board.specs.turns.Turns.{BoardTurn}
use Rattle.laws_board.specs.clocks.Runs.{IsInRun}
use Rattle.laws_board.proofs.clocks.Lines.{as_long, run_before}
use Rattle.laws_board.proofs.sections.Clocks.{ticks_most, ticks_rise}
use Rattle.laws_homing.specs.home_runs.Sections.{HomesFrom}
use Rattle.laws_homing.specs.home_runs.Told.{IsMember}
use Rattle.laws_homing.specs.clear_groups.Sections.{BeginsNoneFrom, IsAlike, IsFollowed, KnowsLines}
use Rattle.laws_homing.specs.clear_groups.SetUp.{IsNewAt}
use Rattle.laws_homing.specs.hindered.Hindered.{HeardByNow}
use Rattle.laws_homing.proofs.clear_boards.Clocking.{line_ahead, lines_up, near_there, tick_whole}
use Rattle.laws_homing.proofs.clear_boards.Modes.{begins_not}
use Rattle.laws_homing.proofs.clear_groups.Alike.{turn_alike}
use Rattle.laws_homing.proofs.clear_groups.Known.{of_known}
use Rattle.laws_homing.proofs.missed_runs.Meek.{AllSo, SoIn}
use Rattle.laws_homing.proofs.missed_runs.Orders.{IsFree, turn_so}
use Rattle.laws_homing.proofs.hindered.Holding.{AllFit, not_can}
use Rattle.laws_homing.proofs.hindered.Nearing.{limit_near, near_at}
use Rattle.laws_homing.proofs.hindered.Since.{Fits}

-- it is of a turn from the section's start on, by a board's clock lines, and no later than another
abbrev IsClock : Clocks → (start most clock : ℕ) → Type 0
IsClock lines start most clock = (turn : ℕ) × (start ≤ turn) × (turn ≤ most) × (clock ≡ low (turn_tick lines turn))

-- a command sets a timeout and begins readings for such a turn, and tells no trigger to trigger
abbrev pub IsAimed : Clocks → (start most : ℕ) → Cmd → Type 0
IsAimed lines start most (cmd.TrsyncSetTimeout oid clock) = IsClock lines start most clock
IsAimed lines start most (cmd.TrsyncTrigger oid reason) = ⊥
IsAimed lines start most (cmd.EndstopHome oid clock sample count rest value other reason) = IsClock lines start most clock
IsAimed lines start most c = Unit {0}

free_aims : (lines : Clocks) (start most : ℕ) (c : Cmd) → IsFree c → IsAimed lines start most c
free_aims lines start most (cmd.TrsyncSetTimeout oid clock) k = absurd k
free_aims lines start most (cmd.TrsyncTrigger oid reason) k = absurd k
free_aims lines start most (cmd.EndstopHome oid clock sample count rest value other reason) k = absurd k
free_aims lines start most c k = tt

-- so in orders
abbrev Aims : (start most : ℕ) → Order → Type 0
Aims start most (order.Timeout turn) = (start ≤ turn) × (turn ≤ most)
Aims start most order.Trigger = ⊥
Aims start most what = Unit {0}

order_aims : (m : Machine) (known lines : Clocks) (b near most start at : ℕ) (axis : AxisDef) (what : Order) → near ≤ most → IsAlike near known lines → start ≤ near → at ≡ start → Aims start near what → IsAimed lines start most (order_command m known b at axis what)
order_aims m known lines b near most start at axis (order.Timeout turn) far alike up e a = let to = a.1 in (turn, a.0, omega (arith, to, far), ap low (turn_alike known lines near turn alike to))
order_aims m known lines b near most start at axis order.Home far alike up e a = (start, omega arith, omega (arith, up, far), ap (λ (n : ℕ). low (turn_tick known n)) e ∙ ap low (turn_alike known lines near start alike up))
order_aims m known lines b near most start at axis order.Trigger far alike up e a = absurd a
order_aims m known lines b near most start at axis c far alike up e a = tt

none_relays : (turn : ℕ) (o : Option ℕ) → o ≡ None → relays_in o turn ≡ true → ⊥
none_relays turn None e f = cc
none_relays turn (Some first) e f = cc

-- so up to a turn behind the section's last one, and not far behind its start
abbrev pub Aimed : Clocks → (start last : ℕ) → Cmd → Type 0
Aimed lines start last c = IsAimed lines start (min (start + 28) (last + 1)) c

-- a board reads such a clock as the tick that it was made of
module _ (m : Machine) (b : ℕ) (lines : Clocks) (ready start last till : ℕ) (f : IsFollowed m b lines ready start last till) (ends : start + 28 ≤ till) (low_so : ready + 251 ≤ start) (k : ℕ) (late : start ≤ k + 251) (soon : k ≤ start + 3) (small : board_tick (clock_of (board_at m b)) k < 2 ^ 63) where
  abbrev Own : ℕ → ℕ
  Own n = board_tick (clock_of (board_at m b)) n

  abbrev Base : ℕ
  Base = lines_tick lines (start * turn_ns)

  near_clock : (clock : ℕ) → IsClock lines start (min (start + 28) (last + 1)) clock → Base ≤ nearest (Own k) clock
  near_clock clock x =
      let turn = x.0 in
      let from_so = x.1 in
      let to = x.2 in
      let t = lines_tick lines (turn * turn_ns) in
      let until = f.ends in
      let goes = f.goes in
      let up = lines_up lines start turn from_so in
      let back = line_ahead Own lines ready (start - 1) start f.tracked (omega (arith, low_so)) (omega (arith, until, goes, ends, low_so)) (omega (arith, low_so)) in
      let behind = ticks_rise Own f.ticks k (start - 1 + 4) (omega (arith, soon, low_so)) in
      let few = ticks_most Own f.ticks 4 (start - 1) in
      let ahead = f.tracked.ahead turn (omega (arith, low_so, from_so)) (omega (arith, until, to, ends)) in
      let rise = ticks_rise Own f.ticks (turn + 4) (k + 283) (omega (arith, to, late)) in
      let many = ticks_most Own f.ticks 283 k in
      let whole = tick_whole lines turn (omega (arith, ahead, rise, many, small)) in
      let near : nearest (Own k) (t % 2 ^ 32) ≡ t = near_there (Own k) t (omega (arith, behind, few, back, up)) (omega (arith, ahead, rise, many)) in
      let is : t ≡ nearest (Own k) clock = sym near ∙ ap (λ (n : ℕ). nearest (Own k) (low n)) (sym whole) ∙ ap (λ (n : ℕ). nearest (Own k) n) (sym x.3) in
      subst (λ (n : ℕ). Base ≤ n) is up

  aimed_fits : (c : Cmd) → Aimed lines start last c → Fits Base (Own k) c
  aimed_fits (cmd.TrsyncSetTimeout oid clock) x = inr (near_clock clock x)
  aimed_fits (cmd.TrsyncTrigger oid reason) x = absurd x
  aimed_fits (cmd.EndstopHome oid clock sample count rest value other reason) x = inr (near_clock clock x)
  aimed_fits c x = tt

  pub all_fit : (ms : List Meant) → AllSo (λ c. Aimed lines start last c) ms → AllFit (Fits Base) (Own k) (commands_of ms)
  all_fit [] k = tt
  all_fit (x ∷ ms) k = (aimed_fits x.command k.0, all_fit ms k.1)

module _ (m : Machine) (switches : List Switch) (pins : List (List Level)) (entries : List Entry) (b : ℕ) (all_lines : ℕ → Clocks) (from start last : ℕ) (members : List Member) (rises : start ≤ last) (begins : from + 251 ≡ start) (y : ℕ) (on_y : IsMember y members) where
  -- the group of the section that is known in a turn
  record IsGroup (c : Came) (before : List Came) : Type 0 where
    homing : Homing
    known : (noted m c.note (known_by m switches before)).homing ≡ Some homing
    starts : (hears_all (noted m c.note (known_by m switches before)).clocks c.states homing).group.start ≡ start
    ends : (hears_all (noted m c.note (known_by m switches before)).clocks c.states homing).group.last ≡ last
    calm : length before ≤ start + 4 → (hears_all (noted m c.note (known_by m switches before)).clocks c.states homing).group.relay ≡ None
    first : start ≤ length before → first_timeout start last ≤ (hears_all (noted m c.note (known_by m switches before)).clocks c.states homing).group.sent

  module _ (c : Came) (before : List Came) (t : BoardTurn) (turns : List BoardTurn) (r : IsInRun m switches pins entries b (c ∷ before) (t ∷ turns)) (homes : HomesFrom m switches from start members (c ∷ before)) (knows : KnowsLines m switches start all_lines (c ∷ before))
      (none : BeginsNoneFrom from (c ∷ before)) (new : IsNewAt m switches start last members from (c ∷ before)) (heard : HeardByNow m switches y start (c ∷ before)) (low_so : from ≤ length before) (soon : length before < start + 4) where
    abbrev K : ℕ
    K = length before

    abbrev Most : ℕ
    Most = min (start + 28) (last + 1)

    abbrev To : ℕ
    To = min (max start K + 25) (last + 1)

    group : IsGroup c before
    group = elim (leb_tells start (K + 250)) [
      | inl p ↦
          let near = near_at m switches y from start last members on_y begins rises c before r.goes_on.1 homes none new heard p.1 in
          let starts = near.begins in
          let ends = near.ends in
          let first = near.timed.first in
          record { homing = near.homing; known = near.known; starts = starts; ends = ends; calm = near.calm; first = λ late. omega (arith, first, starts, ends) }
      | inr p ↦
          let far = p.1 in
          let g = new.0 (omega (arith, far, low_so, begins)) in
          record { homing = g.0; known = g.1; starts = g.2.begins; ends = g.2.ends; calm = λ few. g.2.calm; first = λ late. absurd (omega (arith, far, late)) }
    ]

    turn_aims : AllSo (λ z. Aimed (all_lines b) start last z) (queued_in (orders t.control t.batch))
    turn_aims =
        let x = group in
        let h = x.homing in
        let starts = x.starts in
        let ends = x.ends in
        let now = homes.0 low_so in
        let of = of_known start members (noted m c.note (known_by m switches before)).homing h now.1 x.known in
        let n = noted m c.note (known_by m switches before) in
        let g = (hears_all n.clocks c.states h).group in
        let alike = (knows.0 now.0 h x.known of.0 b r.board).1 in
        let near : IsAlike To (clocks_at n.clocks b) (all_lines b) = record { kept = alike.kept; ticks = λ turn l. alike.ticks turn (omega (arith, l, low_so, begins)) } in
        turn_so (Aims start To) (λ z. Aimed (all_lines b) start last z) b (free_aims (all_lines b) start Most) (λ i. tt) (λ i. tt) tt m switches pins entries c before t turns h r now.0 x.known
        (record {
          commands = λ what o. order_aims m (clocks_at n.clocks b) (all_lines b) b To Most start h.start (axis_at m h.axis) what (omega (arith, soon)) near (omega (arith, rises)) of.0 o;
          homes = λ i. tt;
          first = λ e. (omega (arith, starts, ends, rises), omega (arith, starts, ends, rises));
          on = λ late. (
              let from_so : start ≤ K = omega (arith, late, starts) in
              let most = limit_near m switches y from start last members on_y begins rises c before h of.2 (heard.0 from_so h x.known) in (
                λ grows. (elim (leb_tells (suc g.sent) (limit g)) [
                  | inl p ↦ (let grew = p.1 in let first = x.first from_so in (omega (arith, grew, first, rises), omega (arith, most, soon, ends)))
                  | inr p ↦ absurd (not_can (nat_lt g.sent (limit g)) p.0 grows)
                ]),
                λ relays. absurd (none_relays K (relay_in g K)
                    (ap (λ (o : Option ℕ). relay_from o (relay_begins g K) K) (x.calm (omega (arith, soon))) ∙ ap (λ (a : Bool). relay_from None a K) (begins_not g K (omega (arith, soon, starts)))) relays),
              ));
        })

  -- what is queued in each of those turns
  pub aims : (came : List Came) (turns : List BoardTurn) → IsInRun m switches pins entries b came turns → HomesFrom m switches from start members came → KnowsLines m switches start all_lines came → BeginsNoneFrom from came → IsNewAt m switches start last members from came
      → HeardByNow m switches y start came → SoIn (λ z. Aimed (all_lines b) start last z) from (start + 4) turns
  aims came [] r homes knows none new heard = tt
  aims [] (t ∷ turns) r homes knows none new heard = absurd r.both
  aims (c ∷ before) (t ∷ turns) r homes knows none new heard =
      let run = run_before m switches pins entries b c before t turns r in
      let long = as_long m switches b before turns run.both in (
        λ low_so soon. turn_aims c before t turns r homes knows none new heard (omega (arith, low_so, long)) (omega (arith, soon, long)),
        aims before turns run homes.1 knows.1 none.1 new.1 heard.1,
      )
