-- A state of a clear link tells of no expiry that its board didn't tell of.
use Rattle.std.proofs.Common.{◌≡◌, ℕ, ◌+◌, ◌*◌, ◌%◌, ◌^◌, ◌≤◌, inl, inr, Bool, true, false, List, [], ◌∷◌, ◌++◌, length, Some, None, refl, ap, sym, ◌∙◌, subst, arith}
use Rattle.std.specs.Prelude.{if◌then◌else◌}
use Rattle.laws_board.proofs.Names.{Level, BoardDef, nearest, board_tick, clock_of, turn_ns, Clocks, lines_tick, turn_in_run, turn_tick, Entry, own_formats, Cmd, News, IsText, commands_of, Rig, takes_all, says, wire_text, queued_in, first_state, orders}
use Rattle.plan_types.specs.Lines.{lines_turn}
use Rattle.clock_line.specs.Early.{is_in_run}
use Rattle.msg_dict.specs.declared.row.Row.TheVariants as row
use Rattle.msg_code.specs.declared.cmd.Cmd.TheVariants as cmd
use Rattle.msg_code.specs.Table.{row_of}
use Rattle.link_work.specs.Answers.{IsAmong}
use Rattle.laws_homing.specs.clear_boards.Rests.{RestsOver}
use Rattle.laws_board.specs.turns.Turns.{AreBoardTurns, BoardTurn, stands_after}
use Rattle.laws_board.specs.sections.Parts.{AreTracked}
use Rattle.laws_board.proofs.sections.Clocks.{turn_least}
use Rattle.laws_homing.proofs.home_runs.Spelled.{same_kind, state_told}
use Rattle.laws_homing.specs.clear_boards.Expiry.{IsExpiry, TellExpiry}
use Rattle.laws_homing.specs.clear_boards.Firing.{AreNumbered, AreSmall, IsNumbered, IsSmall}
use Rattle.laws_homing.specs.clear_boards.Held.{AllTellOnly, TellsOnly}
use Rattle.laws_homing.proofs.clear_boards.Saying.{said_in_turn}

-- the turn of a tick
pub when_if : (b : Bool) (n when : ℕ) → (if b then Some n else None) ≡ Some when → n ≡ when
when_if true n when e = cc
when_if false n when e = cc

pub when_is : (clocks : Clocks) (tick when : ℕ) → turn_in_run clocks tick ≡ Some when → lines_turn clocks tick ≡ when
when_is clocks tick when e = when_if (is_in_run clocks tick) (lines_turn clocks tick) when e

-- one of some answers
only_among : (tick : ℕ) (c : Cmd) (cs : List Cmd) → AllTellOnly tick cs → IsAmong c cs → TellsOnly tick c
only_among tick c [] k among = absurd among
only_among tick c (x ∷ xs) k (inl e) = subst (TellsOnly tick) e k.0
only_among tick c (x ∷ xs) k (inr m) = only_among tick c xs k.1 m

pub small_among : (c : Cmd) (cs : List Cmd) → AreSmall cs → IsAmong c cs → IsSmall c
small_among c [] k among = absurd among
small_among c (x ∷ xs) k (inl e) = subst IsSmall e k.0
small_among c (x ∷ xs) k (inr m) = small_among c xs k.1 m

pub fits_among : (c : Cmd) (cs : List Cmd) → AreNumbered cs → IsAmong c cs → IsNumbered c
fits_among c [] k among = absurd among
fits_among c (x ∷ xs) k (inl e) = subst IsNumbered e k.0
fits_among c (x ∷ xs) k (inr m) = fits_among c xs k.1 m

-- the clock is the same, by whatever tick
record Clock (clocks : Clocks) (turn when clock : ℕ) (a : Cmd) : Type 0 where
  in_run : turn_in_run clocks (nearest (turn_tick clocks turn) clock) ≡ Some when
  only : (tick : ℕ) → TellsOnly tick a → clock ≡ tick % 2 ^ 32

by_answer : (clocks : Clocks) (turn when : ℕ) (told a : Cmd) → row_of told ≡ row_of a → IsText own_formats told (wire_text a) → IsSmall a → IsNumbered a → IsExpiry clocks turn when told → (clock : ℕ) × Clock clocks turn when clock a
by_answer clocks turn when (cmd.TrsyncState oid can reason clock) (cmd.TrsyncState x y r k) e text small numbered x_is =
    let same = state_told x y r k oid can reason clock numbered.0 numbered.1 small.0 small.1 text in
    (clock, record { in_run = x_is.2; only = λ tick t. same.3 ∙ t (sym same.1 ∙ x_is.0) (sym same.2 ∙ x_is.1) })
by_answer clocks turn when (cmd.TrsyncState oid can reason clock) a e text small numbered x_is = absurd (let bad : row.TrsyncState ≡ row_of a = e in cc)
by_answer clocks turn when told a e text small numbered x_is = absurd x_is

expiry_among : (clocks : Clocks) (turn when : ℕ) (ns : List News) → TellExpiry clocks turn when ns → (n : News) × IsAmong n ns × IsExpiry clocks turn when n.answer
expiry_among clocks turn when [] t = absurd t
expiry_among clocks turn when (n ∷ ns) (inl x) = (n, inl refl, x)
expiry_among clocks turn when (n ∷ ns) (inr t) = let f = expiry_among clocks turn when ns t in (f.0, inr f.1, f.2)

module _ (b : BoardDef) (pins : List (List Level)) (place : ℕ) (entries : List Entry) (t : BoardTurn) (before : List BoardTurn) (rests : RestsOver t before) (are : AreBoardTurns (clock_of b) (first_state b pins place entries) (t ∷ before)) where
  abbrev Start : Rig
  Start = (stands_after (first_state b pins place entries) before).core.board

  abbrev Commands : List Cmd
  Commands = commands_of (queued_in (orders t.control t.batch))

  abbrev All : List Cmd
  All = (takes_all Start Commands).answers ++ says (takes_all Start Commands).rig (board_tick (clock_of b) (length before + 1))

  told_by : (clocks : Clocks) (when : ℕ) → AreSmall All → AreNumbered All → TellExpiry clocks (length before) when t.state.news → (a : Cmd) × IsAmong a All × ((clock : ℕ) × Clock clocks (length before) when clock a)
  told_by clocks when small numbered tells =
      let f = expiry_among clocks (length before) when t.state.news tells in
      let said = said_in_turn b pins place entries t before f.0 rests are f.1 in
      (said.0, said.1, by_answer clocks (length before) when f.0.answer said.0 (same_kind said.0 f.0.answer said.2) said.2 (small_among said.0 All small said.1) (fits_among said.0 All numbered said.1) f.2)

  pub late_expiry : (own : ℕ → ℕ) (clocks : Clocks) (ready tick when begin : ℕ) → (k : AreTracked own clocks ready) → AllTellOnly tick All → AreSmall All → AreNumbered All → nearest (turn_tick clocks (length before)) (tick % 2 ^ 32) ≡ tick
      → lines_tick clocks (begin * turn_ns) ≤ tick → TellExpiry clocks (length before) when t.state.news → begin ≤ when
  late_expiry own clocks ready tick when begin k only small numbered near low tells =
      let x = told_by clocks when small numbered tells in
      let c = x.2.1 in
      let clock : x.2.0 ≡ tick % 2 ^ 32 = c.only tick (only_among tick x.0 All only x.1) in
      let at : turn_in_run clocks tick ≡ Some when = ap (turn_in_run clocks) (sym near) ∙ ap (λ (n : ℕ). turn_in_run clocks (nearest (turn_tick clocks (length before)) n)) (sym clock) ∙ c.in_run in
      let is = when_is clocks tick when at in
      let least = turn_least own clocks ready begin tick k low in
      omega (arith, is, least)

  pub no_expiry : (clocks : Clocks) (when : ℕ) → AllTellOnly 0 All → AllTellOnly 1 All → AreSmall All → AreNumbered All → TellExpiry clocks (length before) when t.state.news → ⊥
  no_expiry clocks when first second small numbered tells =
      let x = told_by clocks when small numbered tells in
      let c = x.2.1 in
      let zero_is = c.only 0 (only_among 0 x.0 All first x.1) in
      let one_is = c.only 1 (only_among 1 x.0 All second x.1) in
      omega (arith, zero_is, one_is)
