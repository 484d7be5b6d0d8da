-- What a board tells of its trigger in a turn of a clear link is what the state of the turn tells.
use Rattle.std.proofs.Common.{◌≡◌, ℕ, zero, suc, ◌+◌, ◌%◌, ◌^◌, ◌<◌, ◌≤◌, inl, inr, List, [], ◌∷◌, ◌++◌, length, Some, refl, ap, sym, ◌∙◌, subst, arith}
use Rattle.laws_board.proofs.Names.{Level, BoardDef, nearest, board_tick, clock_of, Clocks, turn_in_run, turn_tick, Entry, own_formats, Cmd, News, IsText, commands_of, Rig, passes, takes_all, says, wire_text, queued_in, first_state, orders}
use Rattle.msg_dict.specs.declared.row.Row.TheVariants as row
use Rattle.msg_code.specs.declared.cmd.Cmd.TheVariants as cmd
use Rattle.msg_code.specs.Table.{row_of}
use Rattle.board_sim.specs.Turn.{says_shut}
use Rattle.board_world.specs.World.{shut_before}
use Rattle.link_work.specs.Answers.{IsAmong}
use Rattle.laws_homing.specs.clear_boards.Rests.{RestsOver}
use Rattle.laws_board.specs.turns.Turns.{AreBoardTurns, BoardTurn, stands_after}
use Rattle.laws_board.proofs.clocks.Answers.{Each}
use Rattle.laws_homing.proofs.home_runs.Spelled.{own_state, same_kind, state_is, state_told}
use Rattle.laws_homing.specs.clear_boards.Firing.{AreNumbered, AreSpoken, IsNumbered, IsSpoken, TellOff}
use Rattle.laws_homing.specs.clear_boards.Hearing.{AllFiredIn, FiringNone, IsAble, IsFiredIn, TellAble}
use Rattle.laws_homing.specs.home_runs.Windows.{IsFired, SayFired}
use Rattle.laws_homing.specs.clear_boards.Reports.{TellCan}
use Rattle.laws_homing.proofs.clear_boards.Saying.{said_in_turn}
use Rattle.laws_homing.proofs.clear_boards.Telling.{told_at_once}

spoken_among : (base limit until : ℕ) (c : Cmd) (cs : List Cmd) → AreSpoken base limit until cs → IsAmong c cs → IsSpoken base limit until c
spoken_among base limit until c [] k among = absurd among
spoken_among base limit until c (x ∷ xs) k (inl e) = subst (λ (y : Cmd). IsSpoken base limit until y) e k.0
spoken_among base limit until c (x ∷ xs) k (inr m) = spoken_among base limit until c xs k.1 m

numbered_among : (c : Cmd) (cs : List Cmd) → AreNumbered cs → IsAmong c cs → IsNumbered c
numbered_among c [] k among = absurd among
numbered_among c (x ∷ xs) k (inl e) = subst IsNumbered e k.0
numbered_among c (x ∷ xs) k (inr m) = numbered_among c xs k.1 m

pub among_front : (c : Cmd) (xs ys : List Cmd) → IsAmong c xs → IsAmong c (xs ++ ys)
among_front c [] ys k = absurd k
among_front c (x ∷ xs) ys (inl e) = inl e
among_front c (x ∷ xs) ys (inr m) = inr (among_front c xs ys m)

-- an answer that tells so, as one of them
pub record Found (oid can clock : ℕ) (cs : List Cmd) : Type 0 where
  pub reason : ℕ
  pub among : IsAmong (cmd.TrsyncState oid can reason clock) cs

state_same : (oid can reason clock other b told : ℕ) → other ≡ oid → b ≡ can → told ≡ clock → cmd.TrsyncState other b reason told ≡ cmd.TrsyncState oid can reason clock
state_same oid can reason clock other b told e f g = cc

pub can_found : (oid clock : ℕ) (cs : List Cmd) → TellCan oid clock cs → Found oid 1 clock cs
can_found oid clock [] t = absurd t
can_found oid clock (cmd.TrsyncState other can reason told ∷ cs) (inl t) = record { reason = reason; among = inl (state_same oid 1 reason clock other can told t.0 t.1 t.2) }
can_found oid clock (c ∷ cs) (inl t) = absurd t
can_found oid clock (c ∷ cs) (inr t) = let f = can_found oid clock cs t in record { reason = f.reason; among = inr f.among }

pub off_found : (oid clock : ℕ) (cs : List Cmd) → TellOff oid clock cs → Found oid 0 clock cs
off_found oid clock [] t = absurd t
off_found oid clock (cmd.TrsyncState other can reason told ∷ cs) (inl t) = record { reason = reason; among = inl (state_same oid 0 reason clock other can told t.0 t.1 t.2) }
off_found oid clock (c ∷ cs) (inl t) = absurd t
off_found oid clock (c ∷ cs) (inr t) = let f = off_found oid clock cs t in record { reason = f.reason; among = inr f.among }

-- among the news
pub able_among : (clocks : Clocks) (turn when oid reason clock n : ℕ) (ns : List News) → IsAmong (record { number = n; answer = cmd.TrsyncState oid 1 reason clock }) ns → turn_in_run clocks (nearest (turn_tick clocks turn) clock) ≡ Some when → TellAble clocks turn when ns
able_among clocks turn when oid reason clock n [] among is = absurd among
able_among clocks turn when oid reason clock n (x ∷ ns) (inl e) is =
    let can : IsAble clocks turn when (cmd.TrsyncState oid 1 reason clock) = ((λ z. let bad : 1 ≡ 0 = z in omega (arith, bad)), is) in
    inl (subst (λ (c : Cmd). IsAble clocks turn when c) (ap (λ (y : News). y.answer) (sym e)) can)
able_among clocks turn when oid reason clock n (x ∷ ns) (inr m) is = inr (able_among clocks turn when oid reason clock n ns m is)

pub firing_among : (oid reason clock n : ℕ) (ns : List News) → IsAmong (record { number = n; answer = cmd.TrsyncState oid 0 reason clock }) ns → SayFired ns
firing_among oid reason clock n [] among = absurd among
firing_among oid reason clock n (x ∷ ns) (inl e) = inl (subst IsFired (ap (λ (y : News). y.answer) (sym e)) (refl))
firing_among oid reason clock n (x ∷ ns) (inr m) = inr (firing_among oid reason clock n ns m)

-- an answer that the board gave, as the news have it
fired_by_answer : (clocks : Clocks) (turn start last base limit until : ℕ) (told a : Cmd) → row_of told ≡ row_of a → IsText own_formats told (wire_text a) → IsSpoken base limit until a → IsNumbered a
    → ((at : ℕ) → base ≤ at → at < limit → at < until → (when : ℕ) × (start ≤ when) × (when ≤ last) × (turn_in_run clocks (nearest (turn_tick clocks turn) (at % 2 ^ 32)) ≡ Some when)) → IsFiredIn clocks turn start last told
fired_by_answer clocks turn start last base limit until (cmd.TrsyncState oid can reason clock) (cmd.TrsyncState x y r k) e text spoken numbered counts = λ none. (
    let same = state_told x y r k oid can reason clock numbered.0 numbered.1 spoken.0 spoken.1 text in
    let z = spoken.2 (sym same.1 ∙ none) in
    let w = counts z.0 z.1 z.2 z.3 in
    let at : clock ≡ z.0 % 2 ^ 32 = same.3 ∙ z.4 in
    (w.0, w.1, w.2, ap (λ (n : ℕ). turn_in_run clocks (nearest (turn_tick clocks turn) n)) at ∙ w.3))
fired_by_answer clocks turn start last base limit until (cmd.TrsyncState oid can reason clock) a e text spoken numbered counts = absurd (let bad : row.TrsyncState ≡ row_of a = e in cc)
fired_by_answer clocks turn start last base limit until told a e text spoken numbered counts = tt

-- an answer that tells of a trigger that it can't trigger, as the board gives it
abbrev pub IsOff : Cmd → Type 0
IsOff (cmd.TrsyncState oid can reason clock) = (oid < 2 ^ 8) → (can < 2 ^ 8) → can ≡ 0
IsOff c = ⊥

off_among : (P : Type 0) (c : Cmd) (cs : List Cmd) → Each (λ x. IsOff x → P) cs → IsAmong c cs → IsOff c → P
off_among P c [] k among = absurd among
off_among P c (x ∷ xs) k (inl e) = subst (λ (y : Cmd). IsOff y → P) e k.0
off_among P c (x ∷ xs) k (inr m) = off_among P c xs k.1 m

firing_said : (P : Type 0) (told a : Cmd) → row_of told ≡ row_of a → IsText own_formats told (wire_text a) → (IsOff a → P) → IsFired told → P
firing_said P (cmd.TrsyncState oid zero reason clock) (cmd.TrsyncState x y r k) e text f off = f (λ lx ly. (state_is x y r k oid reason clock lx ly text).1)
firing_said P (cmd.TrsyncState oid (suc can) reason clock) (cmd.TrsyncState x y r k) e text f off = absurd (omega (arith, off))
firing_said P (cmd.TrsyncState oid can reason clock) a e text f off = absurd (let bad : row.TrsyncState ≡ row_of a = e in cc)
firing_said P told a e text f off = absurd off

no_news : (ns : List News) → ((n : News) → IsAmong n ns → IsFired n.answer → ⊥) → FiringNone ns
no_news [] f = tt
no_news (n ∷ ns) f = (λ off. f n (inl refl) off, no_news ns (λ x m. f x (inr m)))

all_news : (clocks : Clocks) (turn start last : ℕ) (ns : List News) → ((n : News) → IsAmong n ns → IsFiredIn clocks turn start last n.answer) → AllFiredIn clocks turn start last ns
all_news clocks turn start last [] f = tt
all_news clocks turn start last (n ∷ ns) f = (f n (inl refl), all_news clocks turn start last ns (λ x m. f x (inr m)))

module _ (b : BoardDef) (pins : List (List Level)) (place : ℕ) (entries : List Entry) (t : BoardTurn) (before : List BoardTurn) (rests : RestsOver t before) (are : AreBoardTurns (clock_of b) (first_state b pins place entries) (t ∷ before)) where
  abbrev Start : Rig
  Start = (stands_after (first_state b pins place entries) before).core.board

  abbrev Commands : List Cmd
  Commands = commands_of (queued_in (orders t.control t.batch))

  abbrev Taken : Rig
  Taken = (takes_all Start Commands).rig

  abbrev Until : ℕ
  Until = board_tick (clock_of b) (length before + 1)

  -- an answer that the board gave as it ran on is among the news
  found_told : (oid can clock base limit until : ℕ) → oid < 2 ^ 8 → can < 2 ^ 8 → AreSpoken base limit until (passes Taken Until).answers → (f : Found oid can clock (passes Taken Until).answers)
      → (n : ℕ) × IsAmong (record { number = n; answer = cmd.TrsyncState oid can f.reason clock }) t.state.news
  found_told oid can clock base limit until small few spoken f =
      let c = cmd.TrsyncState oid can f.reason clock in
      let fits = spoken_among base limit until c (passes Taken Until).answers spoken f.among in
      let shut = says_shut (shut_before Taken.controller.state Taken.controller.tick) Taken.controller.tick Until in
      told_at_once b pins place entries t before c rests are (among_front c (passes Taken Until).answers shut f.among) (own_state oid can f.reason clock small few fits.0 fits.1)

  pub tells_able : (clocks : Clocks) (oid clock when base limit until : ℕ) → oid < 2 ^ 8 → AreSpoken base limit until (passes Taken Until).answers → TellCan oid clock (passes Taken Until).answers
      → turn_in_run clocks (nearest (turn_tick clocks (length before)) clock) ≡ Some when → TellAble clocks (length before) when t.state.news
  tells_able clocks oid clock when base limit until small spoken tells is =
      let f = can_found oid clock (passes Taken Until).answers tells in
      let x = found_told oid 1 clock base limit until small (omega arith) spoken f in
      able_among clocks (length before) when oid f.reason clock x.0 t.state.news x.1 is

  pub tells_firing : (oid clock base limit until : ℕ) → oid < 2 ^ 8 → AreSpoken base limit until (passes Taken Until).answers → TellOff oid clock (passes Taken Until).answers → SayFired t.state.news
  tells_firing oid clock base limit until small spoken tells =
      let f = off_found oid clock (passes Taken Until).answers tells in
      let x = found_told oid 0 clock base limit until small (omega arith) spoken f in
      firing_among oid f.reason clock x.0 t.state.news x.1

  pub all_fired_in : (clocks : Clocks) (start last base limit until : ℕ) → AreSpoken base limit until ((takes_all Start Commands).answers ++ says Taken Until) → AreNumbered ((takes_all Start Commands).answers ++ says Taken Until)
      → ((at : ℕ) → base ≤ at → at < limit → at < until → (when : ℕ) × (start ≤ when) × (when ≤ last) × (turn_in_run clocks (nearest (turn_tick clocks (length before)) (at % 2 ^ 32)) ≡ Some when)) → AllFiredIn clocks (length before) start last t.state.news
  all_fired_in clocks start last base limit until spoken numbered counts =
      all_news clocks (length before) start last t.state.news
      (λ n among. (
      let said = said_in_turn b pins place entries t before n rests are among in
      let all = (takes_all Start Commands).answers ++ says Taken Until in
      fired_by_answer clocks (length before) start last base limit until n.answer said.0 (same_kind said.0 n.answer said.2) said.2 (spoken_among base limit until said.0 all spoken said.1) (numbered_among said.0 all numbered said.1) counts))

  pub turn_is : t.state.turn ≡ length before
  turn_is = are.0.1.turn

  -- where a board's answers tell of no trigger that it can't trigger, so do the news
  pub none_firing : (P : Type 0) → Each (λ c. IsOff c → P) ((takes_all Start Commands).answers ++ says Taken Until) → (P → ⊥) → FiringNone t.state.news
  none_firing P each never =
      no_news t.state.news
      (λ n among off. (
      let said = said_in_turn b pins place entries t before n rests are among in
      let all = (takes_all Start Commands).answers ++ says Taken Until in
      never (firing_said P n.answer said.0 (same_kind said.0 n.answer said.2) said.2 (off_among P said.0 all each said.1) off)))
