-- A board in a run is settled as each of its turns begins.
use Rattle.std.proofs.Common.{◌≡◌, ℕ, ◌+◌, Bool, List, [], ◌∷◌, ◌++◌, length, Option, refl, ap, sym, ◌∙◌, subst, arith, inl, inr, append_assoc, append-nil, length-append}
use Rattle.laws_board.proofs.Names.{BoardClock, Level, Machine, clock_of, IsValidMachine, board_at, Entry, Switch, AreTurns, queued_in, first_state, orders, IsTurn, LinkState, Orders, after_board, after_host}
use Rattle.link_work.specs.Turn.{after_replies}
use Rattle.laws_board.specs.turns.Turns.{AreBoardTurns, BoardTurn, stands_after}
use Rattle.laws_board.specs.clocks.Runs.{orders_in}
use Rattle.laws_board.specs.sections.Courses.{FindStopped, IsSettled}
use Rattle.laws_board.specs.sections.Links.{steps_of_turn}
use Rattle.laws_board.specs.sections.Homes.{AreSettledOn}
use Rattle.laws_board.specs.sections.Known.{AreQueued, Sent, sent_at, sent_in}
use Rattle.laws_board.proofs.sections.Lists.{cuts}
use Rattle.laws_homing.specs.home_runs.Settled.{AreHomed}
use Rattle.laws_homing.proofs.home_runs.Settled.{finds_stopped, sent_by, sent_parts, sent_turn, settled}
use Rattle.laws_homing.proofs.home_runs.Windows.{begun}
use Rattle.laws_board.proofs.sections.Linking.{same_bool}
use Rattle.link_work.proofs.Shut.{one_turn}

-- turns in their order behind others, of which the latest stands first
abbrev Pushed : List BoardTurn → List BoardTurn → List BoardTurn
Pushed turns [] = turns
Pushed turns (t ∷ made) = Pushed (t ∷ turns) made

abbrev orders_of : List BoardTurn → List Orders
orders_of [] = []
orders_of (t ∷ made) = orders t.control t.batch ∷ orders_of made

pushed_more : (turns made : List BoardTurn) (t : BoardTurn) → Pushed turns (made ++ t ∷ []) ≡ t ∷ Pushed turns made
pushed_more turns [] t = refl
pushed_more turns (x ∷ made) t = pushed_more (x ∷ turns) made t

orders_more : (made : List BoardTurn) (t : BoardTurn) → orders_of (made ++ t ∷ []) ≡ orders_of made ++ orders t.control t.batch ∷ []
orders_more [] t = refl
orders_more (x ∷ made) t = ap (λ (l : List Orders). orders x.control x.batch ∷ l) (orders_more made t)

in_order : (turns : List BoardTurn) → (made : List BoardTurn) × (Pushed [] made ≡ turns) × (orders_of made ≡ orders_in turns)
in_order [] = ([], refl, refl)
in_order (t ∷ before) =
    let rest = in_order before in (
      rest.0 ++ t ∷ [],
      pushed_more [] rest.0 t ∙ ap (λ (l : List BoardTurn). t ∷ l) rest.1,
      orders_more rest.0 t ∙ ap (λ (l : List Orders). l ++ orders t.control t.batch ∷ []) rest.2,
    )

pushed_parts : (turns made : List BoardTurn) → (later : List BoardTurn) × (Pushed turns made ≡ later ++ turns)
pushed_parts turns [] = ([], refl)
pushed_parts turns (t ∷ made) = let rest = pushed_parts (t ∷ turns) made in (rest.0 ++ t ∷ [], rest.1 ∙ sym (append_assoc rest.0 (t ∷ []) turns))

-- a turn has one end

-- the sections that have ended by an earlier turn
pub homed_before : (m : Machine) (switches : List Switch) (pins : List (List Level)) (entries : List Entry) (b until : ℕ) (stops : ℕ → Option ℕ) (later turns : List BoardTurn) → AreHomed m switches pins entries b until stops (later ++ turns)
    → AreHomed m switches pins entries b until stops turns
homed_before m switches pins entries b until stops later turns homed = λ turn end low is l.
    let more = length-append later turns in
    let x = homed turn end low is (omega (arith, l, more)) in
    let hm = x.4 in
    let long = hm.long in (
      x.0,
      x.1,
      x.2,
      x.3,
      elim (cuts later turns hm.later hm.past hm.are) [
        | inl p ↦ record {
          came = hm.came;
          before = hm.before;
          later = p.0;
          past = hm.past;
          are = p.2;
          long = hm.long;
          run_is = hm.run_is;
          states = hm.states;
          homing = hm.homing;
          answered = hm.answered;
          begin = hm.begin;
          sets_none = hm.sets_none;
          sends_none = hm.sends_none;
          fires = hm.fires;
        }
        | inr p ↦ let e = ap length p.3 in let f = length-append p.1 turns in absurd (omega (arith, e, f, l, long))
      ],
    )

along : (m : Machine) (switches : List Switch) (pins : List (List Level)) (entries : List Entry) (b until : ℕ) (front tail : List Sent) (stops : ℕ → Option ℕ) (turns made : List BoardTurn) (n : ℕ) (sent : List Sent) (l end : LinkState) (t : AreTurns (clock_of (board_at m b)) n (orders_of made) l end)
    → IsValidMachine m → AreBoardTurns (clock_of (board_at m b)) (first_state (board_at m b) pins b entries) (Pushed turns made) → AreQueued until front → front ++ tail ≡ sent_by (Pushed turns made) → AreHomed m switches pins entries b until stops (Pushed turns made)
    → n ≡ length turns → sent ≡ sent_in 0 (orders_in turns) → l ≡ stands_after (first_state (board_at m b) pins b entries) turns
    → AreSettledOn stops front (clock_of (board_at m b)) n sent (orders_of made) l end t
along m switches pins entries b until front tail stops turns [] n sent l end t v are by all homed long same stand =
    let first = first_state (board_at m b) pins b entries in
    subst (λ (k : ℕ). IsSettled stops front k sent l.core) (sym long) (subst (λ (x : List Sent). IsSettled stops front (length turns) x l.core) (sym same)
    (subst (λ (x : LinkState). IsSettled stops front (length turns) (sent_in 0 (orders_in turns)) x.core) (sym stand)
    (settled m switches pins entries b until turns stops v are homed front tail [] by (all ∙ sym (append-nil (sent_by turns))) tt)))
along m switches pins entries b until front tail stops turns (x ∷ made) n sent l end t v are by all homed long same stand =
    let d = board_at m b in
    let clock = clock_of d in
    let first = first_state d pins b entries in
    let parts = pushed_parts turns (x ∷ made) in
    let next = pushed_parts (x ∷ turns) made in
    let here : AreBoardTurns clock first (x ∷ turns) = begun clock first next.0 (x ∷ turns) (subst (λ (k : List BoardTurn). AreBoardTurns clock first k) next.1 are) in
    let before : AreHomed m switches pins entries b until stops turns = homed_before m switches pins entries b until stops parts.0 turns (subst (λ (k : List BoardTurn). AreHomed m switches pins entries b until stops k) parts.1 homed) in
    let (rest, cut, later) = sent_parts parts.0 turns in
    let whole : front ++ tail ≡ sent_by turns ++ rest = all ∙ ap sent_by parts.1 ∙ cut in
    let o = orders x.control x.batch in
    let mine : IsTurn clock n o l x.after = subst (λ (k : ℕ). IsTurn clock k o l x.after) (sym long) (subst (λ (k : LinkState). IsTurn clock (length turns) o k x.after) (sym stand) here.0.0) in
    let steps = steps_of_turn clock n o t.1.resent l in
    let after : t.0 ≡ x.after = one_turn clock n o l t.0 x.after t.1 mine in
    let sends : sent ++ sent_at n (queued_in o) ≡ sent_in 0 (orders_in (x ∷ turns)) =
    ap (λ (k : List Sent). k ++ sent_at n (queued_in o)) same ∙ ap (λ (k : ℕ). sent_in 0 (orders_in turns) ++ sent_at k (queued_in o)) long ∙ sym (sent_turn x turns) in (
      subst (λ (k : ℕ). IsSettled stops front k sent l.core) (sym long) (subst (λ (k : List Sent). IsSettled stops front (length turns) k l.core) (sym same)
          (subst (λ (k : LinkState). IsSettled stops front (length turns) (sent_in 0 (orders_in turns)) k.core) (sym stand) (settled m switches pins entries b until turns stops v here.1 before front tail rest by whole later))),
      subst (λ (k : ℕ). FindStopped stops front k sent l.core steps) (sym long) (subst (λ (k : List Sent). FindStopped stops front (length turns) k l.core steps) (sym same)
          (subst (λ (k : LinkState). FindStopped stops front (length turns) (sent_in 0 (orders_in turns)) k.core steps) (sym stand)
          (finds_stopped m switches pins entries b until turns stops v here.1 before front tail rest by whole later steps))),
      along m switches pins entries b until front tail stops (x ∷ turns) made (n + 1) (sent ++ sent_at n (queued_in o)) t.0 end t.2 v are by all homed (omega (arith, long)) sends after,
    )

by_orders : (stops : ℕ → Option ℕ) (front : List Sent) (clock : BoardClock) (os ps : List Orders) (l end : LinkState) → os ≡ ps → ((t : AreTurns clock 0 os l end) → AreSettledOn stops front clock 0 [] os l end t)
    → (t : AreTurns clock 0 ps l end) → AreSettledOn stops front clock 0 [] ps l end t
by_orders stops front clock os ps l end e f = subst (λ (x : List Orders). (t : AreTurns clock 0 x l end) → AreSettledOn stops front clock 0 [] x l end t) e f

pub all_settled : (m : Machine) (switches : List Switch) (pins : List (List Level)) (entries : List Entry) (b until : ℕ) (front tail : List Sent) (turns : List BoardTurn) (stops : ℕ → Option ℕ) (end : LinkState)
    (t : AreTurns (clock_of (board_at m b)) 0 (orders_in turns) (first_state (board_at m b) pins b entries) end) → IsValidMachine m
    → AreBoardTurns (clock_of (board_at m b)) (first_state (board_at m b) pins b entries) turns → AreQueued until front → front ++ tail ≡ sent_by turns → AreHomed m switches pins entries b until stops turns
    → AreSettledOn stops front (clock_of (board_at m b)) 0 [] (orders_in turns) (first_state (board_at m b) pins b entries) end t
all_settled m switches pins entries b until front tail turns stops end t v are by all homed =
    let d = board_at m b in
    let clock = clock_of d in
    let first = first_state d pins b entries in
    let x = in_order turns in
    by_orders stops front clock (orders_of x.0) (orders_in turns) first end x.2
    (λ k. along m switches pins entries b until front tail stops [] x.0 0 [] first end k v (subst (λ (y : List BoardTurn). AreBoardTurns clock first y) (sym x.1) are) by (all ∙ ap sent_by (sym x.1))
    (subst (λ (y : List BoardTurn). AreHomed m switches pins entries b until stops y) (sym x.1) homed) refl refl refl) t
