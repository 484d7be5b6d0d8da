-- What a reactor knows of a board that it connects, by the turns of the board.
use Rattle.std.proofs.Common.{◌≡◌, ℕ, inl, inr, Option, Some, None, List, [], ◌∷◌, ◌++◌, length, refl, ap, sym, ◌∙◌, subst, arith}
use Rattle.laws_board.proofs.Names.{leb_tells, Level, Machine, State, Control, Entry, Switch, Asking, Setup, ready, configuration, Phase, Connecting, Stopping, noted, Came, known_by, last_reacted, state_at}
use Rattle.board_asking.specs.Asking.{asks, listens, new_asking}
use Rattle.board_asking.specs.Turns.{asking_in_turn, heard}
use Rattle.host_reactor.specs.declared.ordered.Phase.TheVariants.{Running}
use Rattle.host_reactor.specs.Reactor.{phase_after}
use Rattle.host_reactor.specs.Runs.{told_by}
use Rattle.laws_board.specs.turns.Turns.{BoardTurn, IsBoardOf, latest_state}
use Rattle.laws_board.specs.clocks.Runs.{IsInRun}
use Rattle.laws_board.proofs.clocks.Lines.{as_long, noted_phase, run_before, turn_of}
use Rattle.laws_board.proofs.clocks.Turning.{Asks, BoardTurned, Ends, Runs, asking_at, heard_now, new_at}
use Rattle.laws_board.specs.causes.Causes.{before_turn}
use Rattle.laws_board.proofs.causes.Turns.{before_all, before_less, states_length, states_of}
use Rattle.host_reactor.proofs.Connects.{not-running}

-- what a board told is what it told in its turns
pub told_states : (m : Machine) (switches : List Switch) (b : ℕ) (c : Came) (before : List Came) (turns : List BoardTurn) → state_at b c.states ≡ latest_state turns → IsBoardOf m switches b before turns
    → told_by b (c ∷ before) ≡ states_of turns
told_states m switches b c [] [] e is = ap (λ (l : List State). l ++ []) e
told_states m switches b c [] (t ∷ turns) e is = absurd is
told_states m switches b c (d ∷ before) [] e is = absurd is
told_states m switches b c (d ∷ before) (t ∷ turns) e is =
    ap (λ (l : List State). l ++ told_by b (d ∷ before)) e ∙ ap (λ (l : List State). t.state ∷ l) (told_states m switches b d before turns is.0 is.2)

-- the asking of a board behind these turns, while connecting
abbrev pub asking_behind : List Setup → List BoardTurn → Asking
asking_behind setups [] = new_asking
asking_behind setups (t ∷ turns) = asking_in_turn setups (length turns) (heard setups (states_of turns))

-- the asking of a board as the next turn begins
abbrev pub asking_in : List Setup → List BoardTurn → Asking
asking_in setups turns = heard setups (states_of turns)

pub heard_is : (setups : List Setup) (turns : List BoardTurn) → ready setups (heard_now (asking_behind setups turns) (latest_state turns)) ≡ asking_in setups turns
heard_is setups [] = refl
heard_is setups (t ∷ turns) = ap (λ (n : ℕ). ready setups (listens (asking_in_turn setups n (heard setups (states_of turns))) t.state)) (sym (states_length turns))

-- in each of these turns the board was asked what its asking asks
abbrev pub AllAsk : List Setup → List BoardTurn → Type 0
AllAsk setups [] = Unit {0}
AllAsk setups (t ∷ turns) = (t.control.commands ≡ asks setups (length turns) (asking_in setups turns) (asking_in setups turns).stage) × AllAsk setups turns

pub asks_before : (setups : List Setup) (k : ℕ) (turns : List BoardTurn) → AllAsk setups turns → AllAsk setups (before_turn k turns)
asks_before setups k [] a = tt
asks_before setups k (t ∷ turns) a = elim (leb_tells k (length turns)) [
  | inl p ↦ subst (λ (l : List BoardTurn). AllAsk setups l) (sym (before_less k t turns p.1)) (asks_before setups k turns a.1)
  | inr p ↦ let q = p.1 in subst (λ (l : List BoardTurn). AllAsk setups l) (sym (before_all k (t ∷ turns) (omega arith))) a
]

pub still_running : (stop : Option ℕ) (p : Phase) → p ≡ phase_after stop → p ≡ Connecting → ⊥
still_running None p e f = not-running p e f
still_running (Some line) p e f = let g : Stopping line ≡ Connecting = sym e ∙ f in cc

-- over a turn
pub record ConnectsSo (m : Machine) (switches : List Switch) (b : ℕ) (came : List Came) (turns : List BoardTurn) : Type 0 where
  pub asking : asking_at b (known_by m switches came).askings.items ≡ asking_behind (configuration m b) turns ∷ []
  pub all : AllAsk (configuration m b) turns

pub one_of : (x a : Asking) → x ∷ [] ≡ a ∷ [] → x ≡ a
one_of x a e = cc

asked_so : (m : Machine) (switches : List Switch) (b : ℕ) (c : Came) (before : List Came) (t : BoardTurn) (turns : List BoardTurn) (a : Asking) (k : ℕ) → k ≡ length turns
    → (known_by m switches (c ∷ before)).phase ≡ Connecting → a ≡ heard_now (asking_behind (configuration m b) turns) (latest_state turns)
    → BoardTurned m (noted m c.note (known_by m switches before)) b k c.states a (last_reacted m switches c before) t.control
    → AllAsk (configuration m b) turns → ConnectsSo m switches b (c ∷ before) (t ∷ turns)
asked_so m switches b c before t turns a k e p is (Asks q g) all =
    let setups = configuration m b in
    let now : ready setups a ≡ asking_in setups turns = ap (ready setups) is ∙ heard_is setups turns in
    record {
      asking = g.asking ∙ ap (λ (x : Asking). asking_in_turn setups k x ∷ []) now ∙ ap (λ (n : ℕ). asking_in_turn setups n (asking_in setups turns) ∷ []) e;
      all = (
        ap (λ (x : Control). x.commands) g.control_is ∙ ap (λ (x : Asking). asks setups k x x.stage) now ∙ ap (λ (n : ℕ). asks setups n (asking_in setups turns) (asking_in setups turns).stage) e,
        all,
      );
    }
asked_so m switches b c before t turns a k e p is (Ends q g) all = absurd (not-running _ g.phase p)
asked_so m switches b c before t turns a k e p is (Runs q g) all = absurd (still_running g.stop _ g.phase p)

pub was_connecting : (m : Machine) (switches : List Switch) (b : ℕ) (c : Came) (before : List Came) (t : BoardTurn) (a : Asking) (k : ℕ) → (last_reacted m switches c before).known.phase ≡ Connecting
    → BoardTurned m (noted m c.note (known_by m switches before)) b k c.states a (last_reacted m switches c before) t.control → (known_by m switches before).phase ≡ Connecting
was_connecting m switches b c before t a k p (Asks q g) = sym (noted_phase m c.note (known_by m switches before)) ∙ q
was_connecting m switches b c before t a k p (Ends q g) = sym (noted_phase m c.note (known_by m switches before)) ∙ q
was_connecting m switches b c before t a k p (Runs q g) = absurd (still_running g.stop _ g.phase p)

pub connecting_so : (m : Machine) (switches : List Switch) (pins : List (List Level)) (entries : List Entry) (b : ℕ) (came : List Came) (turns : List BoardTurn)
    → IsInRun m switches pins entries b came turns → (known_by m switches came).phase ≡ Connecting → ConnectsSo m switches b came turns
connecting_so m switches pins entries b [] [] r p = record { asking = new_at b m.boards r.board; all = tt }
connecting_so m switches pins entries b [] (t ∷ turns) r p = absurd r.both
connecting_so m switches pins entries b (c ∷ before) [] r p = absurd r.both
connecting_so m switches pins entries b (c ∷ before) (t ∷ turns) r p =
    let x = turn_of m switches pins entries b c before t turns r in
    let old = connecting_so m switches pins entries b before turns (run_before m switches pins entries b c before t turns r) (was_connecting m switches b c before t x.a (length before) p x.turned) in
    let was : x.first ≡ asking_behind (configuration m b) turns = one_of x.first _ (sym x.was ∙ old.asking) in
    asked_so m switches b c before t turns x.a (length before) (as_long m switches b before turns r.both.2) p
    (x.hears ∙ ap (λ (a : Asking). heard_now a (latest_state turns)) was) x.turned old.all

-- the turns before one are those of a run that connects
pub record ConnectsTo (m : Machine) (switches : List Switch) (pins : List (List Level)) (entries : List Entry) (b : ℕ) (turns : List BoardTurn) : Type 0 where
  pub came : List Came
  pub run : IsInRun m switches pins entries b came turns
  pub phase : (known_by m switches came).phase ≡ Connecting

pub connecting_before : (m : Machine) (switches : List Switch) (pins : List (List Level)) (entries : List Entry) (b : ℕ) (came : List Came) (turns : List BoardTurn) (k : ℕ)
    → IsInRun m switches pins entries b came turns → (known_by m switches came).phase ≡ Connecting → ConnectsTo m switches pins entries b (before_turn k turns)
connecting_before m switches pins entries b [] [] k r p = record { came = []; run = r; phase = p }
connecting_before m switches pins entries b [] (t ∷ turns) k r p = absurd r.both
connecting_before m switches pins entries b (c ∷ before) [] k r p = absurd r.both
connecting_before m switches pins entries b (c ∷ before) (t ∷ turns) k r p = elim (leb_tells k (length turns)) [
  | inl q ↦
      let x = turn_of m switches pins entries b c before t turns r in
      let was = was_connecting m switches b c before t x.a (length before) p x.turned in
      subst (λ (l : List BoardTurn). ConnectsTo m switches pins entries b l) (sym (before_less k t turns q.1))
      (connecting_before m switches pins entries b before turns k (run_before m switches pins entries b c before t turns r) was)
  | inr q ↦ let l = q.1 in
      subst (λ (l : List BoardTurn). ConnectsTo m switches pins entries b l) (sym (before_all k (t ∷ turns) (omega arith))) (record { came = c ∷ before; run = r; phase = p })
]
