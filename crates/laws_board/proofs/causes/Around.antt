-- Where something waits at the end of a turn, the link was disturbed before it, or something waited already.
use Rattle.std.proofs.Common.{◌≡◌, ℕ, ◌+◌, ◌-◌, ◌≤◌, inl, inr, true, List, [], ◌∷◌, length, ap, sym, ◌∙◌, subst, arith}
use Rattle.laws_board.proofs.Names.{leb_tells, BoardClock, Level, Machine, clock_of, IsValidMachine, board_at, State, Control, Entry, Switch, AllKeepLimits, first_state, orders, IsTurn, LinkState, Orders, after_board, after_host, Asking, Known, Phase, Connecting, Stopping, noted, Reacted, Came, known_by, last_reacted}
use Rattle.wire_scene.specs.Wire.{IsQuiet, Line}
use Rattle.link_core.specs.Core.{sent}
use Rattle.link_work.specs.Answers.{IsClear}
use Rattle.link_work.specs.Ends.{is_idle}
use Rattle.link_work.specs.Limits.{KeepsLimits}
use Rattle.link_work.specs.Turn.{after_replies}
use Rattle.link_work.proofs.Answered.{sends_all}
use Rattle.link_work.proofs.Bounds.{is_idle_where}
use Rattle.link_work.proofs.Draining.{IsSound, drained, parts_of}
use Rattle.link_work.proofs.Late.{limits_split}
use Rattle.host_reactor.specs.declared.ordered.Phase.TheVariants.{Running}
use Rattle.laws_board.specs.turns.Turns.{AreBoardTurns, BoardTurn, stands_after}
use Rattle.laws_board.specs.clocks.Runs.{IsInRun, UnitsFit, orders_in}
use Rattle.laws_board.proofs.clocks.Lines.{noted_phase, run_before, turn_of}
use Rattle.laws_board.proofs.clocks.Orders.{all_limits, not_stopped, not_stopping, goes_before}
use Rattle.laws_board.proofs.clocks.Turning.{Asks, BoardTurned, Ends, Runs}
use Rattle.laws_board.specs.causes.Causes.{IsDisturbed, IsDisturbedAround, IsHindered, IsTouched, before_turn, link_at}
use Rattle.laws_board.proofs.causes.Configured.{begins_at}
use Rattle.laws_board.proofs.causes.Four.{link_or, none_wait}
use Rattle.laws_board.proofs.causes.Turns.{are_before, before_all, before_length, before_less, next_turn}

-- a link that is clear for four turns has all acknowledged
acked_same : (clock : BoardClock) (turn : ℕ) (o : Orders) (l m : LinkState) → IsSound l turn → IsTurn clock turn o l m → IsQuiet m.down (turn + 1) → IsQuiet m.up (turn + 1)
    → m.core.link.acked ≡ sent m.core.link
acked_same clock turn o l m s t =
    let l1 : LinkState = after_host turn o t.resent l in
    let l2 : LinkState = after_board clock turn l1 in
    subst (λ (x : LinkState). IsQuiet x.down (turn + 1) → IsQuiet x.up (turn + 1) → x.core.link.acked ≡ sent x.core.link) (sym t.becomes)
    (λ down up. (drained turn o t.resent l l1 l2 (after_replies turn l2) s t.due (parts_of clock turn o t.resent l s.step s.many) down up).0)

-- a run keeps the limits in each of its turns but the last
abbrev LimitsIn : List BoardTurn → Type 0
LimitsIn [] = Unit {0}
LimitsIn (t ∷ turns) = KeepsLimits (orders t.control t.batch)

latest_limits : (turns : List BoardTurn) → AllKeepLimits (orders_in turns) → LimitsIn turns
latest_limits [] a = tt
latest_limits (t ∷ turns) a = (limits_split (orders_in turns) (orders t.control t.batch ∷ []) a).1.0

limits_at : (m : Machine) (switches : List Switch) (pins : List (List Level)) (entries : List Entry) (b : ℕ) (came : List Came) (turns : List BoardTurn) (k : ℕ) → IsValidMachine m
    → IsInRun m switches pins entries b came turns → UnitsFit turns → k + 2 ≤ length turns → LimitsIn (before_turn (k + 1) turns)
limits_at m switches pins entries b came [] k v r u h = tt
limits_at m switches pins entries b [] (t ∷ turns) k v r u h = absurd r.both
limits_at m switches pins entries b (c ∷ before) (t ∷ turns) k v r u h =
    let rest = run_before m switches pins entries b c before t turns r in
    elim (leb_tells (k + 2) (length turns)) [
      | inl p ↦ let q = p.1 in subst LimitsIn (sym (before_less (k + 1) t turns (omega arith))) (limits_at m switches pins entries b before turns k v rest u.1 p.1)
      | inr p ↦
          let q = p.1 in
          let x = turn_of m switches pins entries b c before t turns r in
          let known = noted m c.note (known_by m switches before) in
          let not = λ (line : ℕ). λ (e : (known_by m switches before).phase ≡ Stopping line).
          goes_before m known b (length before) c.states x.a (last_reacted m switches c before) t.control x.turned line (noted_phase m c.note (known_by m switches before) ∙ e) in
          subst LimitsIn (sym (before_less (k + 1) t turns (omega arith) ∙ before_all (k + 1) turns (omega arith)))
          (latest_limits turns (all_limits m switches pins entries b before turns v rest not u.1))
    ]

-- a link that was idle has nothing waiting behind a turn
idle_sends : (m : Machine) (switches : List Switch) (pins : List (List Level)) (entries : List Entry) (b : ℕ) (came : List Came) (turns : List BoardTurn) (k : ℕ) → IsValidMachine m
    → IsInRun m switches pins entries b came turns → UnitsFit turns → k + 6 ≤ length turns → IsClear k (link_at (first_state (board_at m b) pins b entries) (k + 3) turns)
    → (link_at (first_state (board_at m b) pins b entries) (k + 3) turns).core.link.waiting ≡ [] → (link_at (first_state (board_at m b) pins b entries) (k + 4) turns).core.link.waiting ≡ []
idle_sends m switches pins entries b came turns k v r u h clear none =
    let board = board_at m b in
    let clock = clock_of board in
    let first = first_state board pins b entries in
    let x = next_turn (k + 3) turns (omega arith) in
    let before = before_turn (k + 3) turns in
    let are : AreBoardTurns clock first (x.t ∷ before) = subst (λ (l : List BoardTurn). AreBoardTurns clock first l) x.is (are_before clock first (k + 3 + 1) turns r.turns_are) in
    let size : length before ≡ k + 3 = before_length (k + 3) turns (omega arith) in
    let l = stands_after first before in
    let o = orders x.t.control x.t.batch in
    let s = (begins_at board pins b entries before are.1).sound in
    let at : IsClear k x.t.after = subst (λ (y : LinkState). IsClear k y) (ap (stands_after first) x.is) clear in
    let down = at.down in
    let up = at.up in
    let acked = acked_same clock (length before) o l x.t.after s are.0.0 (record { nothing = at.none_down; calm = omega arith }) (record { nothing = at.none_up; calm = omega arith }) in
    let waits : x.t.after.core.link.waiting ≡ [] = ap (λ (y : List BoardTurn). (stands_after first y).core.link.waiting) (sym x.is) ∙ none in
    let idle : is_idle x.t.after ≡ true = is_idle_where x.t.after waits acked in
    let y = next_turn (k + 4) turns (omega arith) in
    let e : before_turn (k + 4) turns ≡ x.t ∷ before = ap (λ (i : ℕ). before_turn i turns) (omega arith) ∙ x.is in
    let whole : before_turn (k + 4 + 1) turns ≡ y.t ∷ (x.t ∷ before) = y.is ∙ ap (λ (z : List BoardTurn). y.t ∷ z) e in
    let all : AreBoardTurns clock first (y.t ∷ (x.t ∷ before)) = subst (λ (z : List BoardTurn). AreBoardTurns clock first z) whole (are_before clock first (k + 4 + 1) turns r.turns_are) in
    let limits : LimitsIn (y.t ∷ (x.t ∷ before)) = subst LimitsIn whole (limits_at m switches pins entries b came turns (k + 4) v r u (omega arith)) in
    let sound = (begins_at board pins b entries (x.t ∷ before) all.1).sound in
    ap (λ (z : List BoardTurn). (stands_after first z).core.link.waiting) whole
    ∙ sends_all clock (length (x.t ∷ before)) (orders y.t.control y.t.batch) x.t.after y.t.after sound all.0.0 idle limits

touched_before : (since k : ℕ) (l : Line) → since ≤ k → IsTouched k l → IsTouched since l
touched_before since k l h (inl c) = inl (omega arith)
touched_before since k l h (inr c) = inr c

disturbed_before : (since k : ℕ) (l : LinkState) → since ≤ k → IsDisturbed k l → IsDisturbed since l
disturbed_before since k l h (inl d) = inl (touched_before since k l.down h d)
disturbed_before since k l h (inr d) = inr (touched_before since k l.up h d)

pub around : (m : Machine) (switches : List Switch) (pins : List (List Level)) (entries : List Entry) (b : ℕ) (came : List Came) (turns : List BoardTurn) (k : ℕ) → IsValidMachine m
    → IsInRun m switches pins entries b came turns → UnitsFit turns → 4 ≤ k → k + 2 ≤ length turns → IsHindered (first_state (board_at m b) pins b entries) turns k
    → IsDisturbedAround (first_state (board_at m b) pins b entries) turns k
around m switches pins entries b came turns k v r u low high (inl d) =
    let first = first_state (board_at m b) pins b entries in
    let few = d.1 in
    let same : k + d.0 ≡ k - 4 + (d.0 + 4) = omega arith in
    inl (d.0 + 4, omega arith, subst (λ (i : ℕ). IsDisturbed (k - 4) (link_at first i turns)) same (disturbed_before (k - 4) k (link_at first (k + d.0) turns) (omega arith) d.2))
around m switches pins entries b came turns k v r u low high (inr w) =
    let first = first_state (board_at m b) pins b entries in
    let since = k - 4 in
    let back : since + 4 ≡ k = omega arith in
    let last : since + 3 ≡ k - 1 = omega arith in
    elim (link_or since (link_at first (since + 3) turns)) [
      | inl d ↦ inl (3, omega arith, d)
      | inr clear ↦ elim (leb_tells 1 (length (link_at first (since + 3) turns).core.link.waiting)) [
        | inl p ↦ inr (subst (λ (i : ℕ). 1 ≤ length (link_at first i turns).core.link.waiting) last p.1)
        | inr p ↦
            let none = none_wait (link_at first (since + 3) turns).core.link.waiting p.1 in
            let sent = idle_sends m switches pins entries b came turns since v r u (omega arith) clear none in
            absurd (omega (arith, ap length (subst (λ (i : ℕ). (link_at first i turns).core.link.waiting ≡ []) back sent)))
      ]
    ]
