-- The turns of a board with its link, from what the link took and put.
use Rattle.std.proofs.Common.{◌≡◌, ℕ, ◌+◌, Bool, true, false, List, [], ◌∷◌, ◌++◌, length, map, refl, ap, ◌∙◌, subst, arith, inl, inr, append_assoc}
use Rattle.laws_board.proofs.Names.{BoardClock, Machine, clock_of, board_at, State, Control, orders, IsTurn, LinkState, gather, Scene}
use Rattle.msg_code.specs.declared.unit.Batch.{Batch}
use Rattle.link_work.specs.Stands.{SeenLink, StandsFor}
use Rattle.link_work.specs.Told.{IsTold}
use Rattle.laws_board.specs.turns.Turns.{AreBoardTurns, BoardTurn, stands_after}
use Rattle.session_work.specs.declared.table.LinkTurn.{LinkTurn}
use Rattle.session_work.specs.Leads.{each_turn}
use Rattle.session_work.specs.Links.{LinkStep}
use Rattle.session_work.specs.Turns.{Goes}
use Rattle.session_work.proofs.Goes.{gather_ones}
use Rattle.session_run.specs.Links as links
use Rattle.laws_run.specs.lanes.Boards.{turns_behind}
use Rattle.session_lanes.specs.declared.near.LinkLog.{LinkLog}
use Rattle.laws_run.specs.run_headline.Timely.{link_of}
use Rattle.laws_run.specs.run_links.Links.{MakesTurns, out_state}

-- what a link took, and what it put, in some turns
abbrev pub controls_in : List LinkTurn → List Control
controls_in us = gather (λ u. u.control ∷ []) us

abbrev pub batches_in : List LinkTurn → List Batch
batches_in us = gather (λ u. u.batch ∷ []) us

abbrev pub states_in : List LinkTurn → List State
states_in us = gather (λ u. u.state ∷ []) us

-- the turns of a board behind some, and those behind them in which its link wants memory
record Walked (clock : BoardClock) (begin : LinkState) (turns : List BoardTurn) (us : List LinkTurn) : Type 0 where
  pub made : List BoardTurn
  pub are : AreBoardTurns clock begin (turns_behind turns made)
  pub out : ℕ
  pub states : states_in us ≡ map (λ t. t.state) made ++ each_turn out_state (length turns + length made) out
  pub later : List Batch
  pub batches : batches_in us ≡ map (λ t. t.batch) made ++ later
  pub as_many : length later ≡ out
  pub others : List Control
  pub controls : controls_in us ≡ map (λ t. t.control) made ++ others

-- a link that wants memory says only that
all_out : (k : ℕ) (x : SeenLink) (us : List LinkTurn) (e : SeenLink × Bool) → Goes (LinkStep links.TurnsLink) k (x, true) us e → states_in us ≡ each_turn out_state k (length us)
all_out k x [] e g = refl
all_out k x (u ∷ us) e g = elim g.1.1 [
  | inl a ↦ absurd (let f : true ≡ false = a.0 in cc)
  | inr a ↦
      let next : g.0 ≡ (g.0.0, true) = (λ i. (g.0.0, a.0 i)) in
      ap (λ (z : State). z ∷ states_in us) a.1 ∙ ap (λ (z : List State). out_state k ∷ z) (all_out (k + 1) g.0.0 us e (subst (λ (z : SeenLink × Bool). Goes (LinkStep links.TurnsLink) (k + 1) z us e) next g.2))
]

module _ (clock : BoardClock) (begin : LinkState) where
  -- one turn of the board
  went : (turns : List BoardTurn) (k : ℕ) (x : SeenLink) (u : LinkTurn) (after : LinkState) → k ≡ length turns → AreBoardTurns clock begin turns → x.clock ≡ clock
      → (t : IsTurn x.clock k (orders u.control u.batch) (stands_after begin turns) after) → IsTold x.clock k (orders u.control u.batch) (stands_after begin turns) t.resent after.core u.state
      → AreBoardTurns clock begin (record { control = u.control; batch = u.batch; state = u.state; after = after } ∷ turns)
  went turns k x u after number are same t told = (
    subst (λ (z : BoardClock × ℕ). (i : IsTurn z.0 z.1 (orders u.control u.batch) (stands_after begin turns) after) × IsTold z.0 z.1 (orders u.control u.batch) (stands_after begin turns) i.resent after.core u.state)
        (λ i. (same i, number i)) (t, told),
    are,
  )

  walk : (turns : List BoardTurn) (k : ℕ) (x : SeenLink) (us : List LinkTurn) (e : SeenLink × Bool) → k ≡ length turns → Goes (LinkStep links.TurnsLink) k (x, false) us e → StandsFor x (stands_after begin turns)
      → x.clock ≡ clock → AreBoardTurns clock begin turns → Walked clock begin turns us
  walk turns k x [] e number g st same are = record { made = []; are = are; out = 0; states = refl; later = []; batches = refl; as_many = refl; others = []; controls = refl }
  walk turns k x (u ∷ us) e number g st same are = elim g.1.1 [
    | inl a ↦
        let step = a.3 in
        let turned = step.turned (stands_after begin turns) st in
        let turn : BoardTurn = record { control = u.control; batch = u.batch; state = u.state; after = turned.0 } in
        let next : g.0 ≡ (g.0.0, false) = (λ i. (g.0.0, a.1 i)) in
        let goes = subst (λ (z : SeenLink × Bool). Goes (LinkStep links.TurnsLink) (k + 1) z us e) next g.2 in
        let rest = walk (turn ∷ turns) (k + 1) g.0.0 us e (omega (arith, number)) goes turned.2 (step.clock ∙ same) (went turns k x u turned.0 number are same turned.1 turned.3) in
        let place : length (turn ∷ turns) + length rest.made ≡ length turns + length (turn ∷ rest.made) = omega arith in
        record {
          made = turn ∷ rest.made;
          are = rest.are;
          out = rest.out;
          states = ap (λ (z : List State). u.state ∷ z) (rest.states ∙ ap (λ (n : ℕ). map (λ (t : BoardTurn). t.state) rest.made ++ each_turn out_state n rest.out) place);
          later = rest.later;
          batches = ap (λ (z : List Batch). u.batch ∷ z) rest.batches;
          as_many = rest.as_many;
          others = rest.others;
          controls = ap (λ (z : List Control). u.control ∷ z) rest.controls;
        }
    | inr a ↦
        let next : g.0 ≡ (g.0.0, true) = (λ i. (g.0.0, a.0 i)) in
        let tail = all_out (k + 1) g.0.0 us e (subst (λ (z : SeenLink × Bool). Goes (LinkStep links.TurnsLink) (k + 1) z us e) next g.2) in
        let place : k ≡ length turns + 0 = omega (arith, number) in
        record {
          made = [];
          are = are;
          out = length (u ∷ us);
          states = ap (λ (z : State). z ∷ states_in us) a.1 ∙ ap (λ (z : List State). out_state k ∷ z) tail ∙ ap (λ (n : ℕ). each_turn out_state n (length (u ∷ us))) place;
          later = batches_in (u ∷ us);
          batches = refl;
          as_many = gather_ones (λ (z : LinkTurn). z.batch) (u ∷ us);
          others = controls_in (u ∷ us);
          controls = refl;
        }
  ]

-- so a board made its turns, by what its lanes carried
pub makes_turns : (m : Machine) (s : Scene) (b : ℕ) (x : LinkLog) (l : SeenLink) (us : List LinkTurn) (e : SeenLink × Bool) (last : List Control) → Goes (LinkStep links.TurnsLink) 0 (l, false) us e → StandsFor l (link_of m s b) → l.clock ≡ clock_of (board_at m b)
    → x.controls.1 ≡ controls_in us ++ last → x.batches.1 ≡ batches_in us → x.states.0 ≡ states_in us → MakesTurns m s b x
makes_turns m s b x l us e last goes stands clock controls batches states =
    let w = walk (clock_of (board_at m b)) (link_of m s b) [] 0 l us e refl goes stands clock tt in
    let place : 0 + length w.made ≡ length w.made = omega arith in
    record {
      made = w.made;
      are = w.are;
      out = w.out;
      states = states ∙ w.states ∙ ap (λ (n : ℕ). map (λ (t : BoardTurn). t.state) w.made ++ each_turn out_state n w.out) place;
      later = w.later;
      batches = batches ∙ w.batches;
      as_many = w.as_many;
      others = w.others ++ last;
      controls = controls ∙ ap (λ (z : List Control). z ++ last) w.controls ∙ append_assoc (map (λ (t : BoardTurn). t.control) w.made) w.others last;
    }
