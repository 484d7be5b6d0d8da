-- The turns of a board's link in a whole run, with what its link holds of the busy stretch.
use Rattle.std.proofs.Common.{◌≡◌, ℕ, ◌+◌, ◌<◌, Bool, true, false, List, [], ◌∷◌, ◌++◌, length, map, refl, ap, sym, ◌∙◌, subst, arith, inl, inr, length-append}
use Rattle.std.specs.Prelude.{if◌then◌else◌}
use Rattle.laws_board.proofs.Names.{BoardClock, Machine, State, Control, Switch, orders, IsTurn, LinkState, ReactorTurn, gather, item, Came, cons_same}
use Rattle.msg_code.specs.declared.unit.Batch.{Batch}
use Rattle.link_work.specs.Ends.{Ended, is_idle, is_quiet, spoiled_turns}
use Rattle.link_work.specs.Held.{IsCounted, held_in, hold, lead_of, spoiled_with}
use Rattle.link_work.specs.Stands.{SeenLink, StandsFor}
use Rattle.link_work.proofs.Bounds.{idle_is, is_idle_where}
use Rattle.link_work.proofs.Spilled.{counted_as, held_grows}
use Rattle.laws_board.specs.turns.Turns.{AreBoardTurns, BoardTurn, IsBoardOf, control_at, stands_after}
use Rattle.laws_board.specs.clocks.Runs.{ends_in, orders_in}
use Rattle.laws_board.proofs.clocks.Orders.{order_length}
use Rattle.laws_board.proofs.sections.Linking.{same_bool}
use Rattle.session_work.specs.declared.table.LinkTurn.{LinkTurn}
use Rattle.session_work.specs.Links.{LinkStep}
use Rattle.session_work.specs.Turns.{Goes}
use Rattle.session_run.specs.Boards.{AreReactorTurns, came_from, came_in}
use Rattle.session_run.specs.Links as links
use Rattle.laws_run.specs.lanes.Boards.{turns_behind, states_of}
use Rattle.laws_board.specs.plans.Boards.{TookStates}
use Rattle.laws_run.proofs.lanes.Items.{item_control}
use Rattle.laws_run.specs.run_lates.Late.{held_by, spoiled_by}
use Rattle.plan_types.proofs.Facts.{true_false}
use Rattle.laws_board.proofs.sections.Lists.{nil_cons}
use Rattle.link_work.proofs.Shut.{one_turn}

-- turns in front of others
pub are_front : (clock : BoardClock) (begin : LinkState) (turns made : List BoardTurn) → AreBoardTurns clock begin (turns_behind turns made) → AreBoardTurns clock begin turns
are_front clock begin turns [] a = a
are_front clock begin turns (t ∷ made) a = (are_front clock begin (t ∷ turns) made a).1

both_front : (m : Machine) (switches : List Switch) (b : ℕ) (before : List Came) (turns : List BoardTurn) (rs : List ReactorTurn) (made : List BoardTurn) → length rs ≡ length made → IsBoardOf m switches b (came_from before rs) (turns_behind turns made) → IsBoardOf m switches b before turns
both_front m switches b before turns [] [] e k = k
both_front m switches b before turns [] (t ∷ made) e k = absurd (omega (arith, e))
both_front m switches b before turns (r ∷ rs) [] e k = absurd (omega (arith, e))
both_front m switches b before turns (r ∷ rs) (t ∷ made) e k = (both_front m switches b (came_in r ∷ before) (t ∷ turns) rs made (omega (arith, e)) k).2

-- the reactor put the controls that the board took
pub controls_put : (m : Machine) (switches : List Switch) (b : ℕ) (before : List Came) (turns : List BoardTurn) (rs : List ReactorTurn) (made : List BoardTurn) → length rs ≡ length made → AreReactorTurns m switches before rs → IsBoardOf m switches b (came_from before rs) (turns_behind turns made)
    → gather (λ t. item b t.controls) rs ≡ map (λ t. t.control) made
controls_put m switches b before turns [] [] e are k = refl
controls_put m switches b before turns [] (t ∷ made) e are k = absurd (omega (arith, e))
controls_put m switches b before turns (r ∷ rs) [] e are k = absurd (omega (arith, e))
controls_put m switches b before turns (r ∷ rs) (t ∷ made) e are k =
    let here = both_front m switches b (came_in r ∷ before) (t ∷ turns) rs made (omega (arith, e)) k in
    let one : item b r.controls ≡ t.control ∷ [] = sym (item_control b r.controls) ∙ ap (control_at b) are.0.controls_are ∙ here.1 in
    ap (λ (z : List Control). z ++ gather (λ (x : ReactorTurn). item b x.controls) rs) one
    ∙ ap (λ (z : List Control). t.control ∷ z) (controls_put m switches b (came_in r ∷ before) (t ∷ turns) rs made (omega (arith, e)) are.1 k)

-- and took its states
pub states_taken : (b : ℕ) (rs : List ReactorTurn) (states : List State) → TookStates b rs states → gather (λ t. item b t.states) rs ≡ states
states_taken b [] states e = sym e
states_taken b (r ∷ rs) [] e = absurd e
states_taken b (r ∷ rs) (s ∷ states) e = ap (λ (z : List State). z ++ gather (λ (x : ReactorTurn). item b x.states) rs) e.0 ∙ ap (λ (z : List State). s ∷ z) (states_taken b rs states e.1)

pub item_same : {A : Type 0} (x y : A) → x ∷ [] ≡ y ∷ [] → x ≡ y
item_same x y e = cc

-- the last of some turns, of which it is told by what was spoiled and held
pub record IsLast (clock : BoardClock) (turns : List BoardTurn) : Type 0 where
  pub turn : BoardTurn
  pub past : List BoardTurn
  pub are : turns ≡ turn ∷ past
  pub counted : IsCounted (lead_of clock.drift) (spoiled_by past turn) (held_by past turn) turn.state.shut

module _ (clock : BoardClock) (begin : LinkState) where
  -- how a link stands behind some turns of its board
  pub record Stays (turns : List BoardTurn) (x : SeenLink) : Type 0 where
    pub stands : StandsFor x (stands_after begin turns)
    pub clock_is : x.clock ≡ clock
    pub spoiled : x.spoiled ≡ spoiled_turns (ends_in turns)
    pub held : x.held ≡ held_in (orders_in turns) (ends_in turns)

  ends_length : (turns : List BoardTurn) → length (ends_in turns) ≡ length turns
  ends_length [] = refl
  ends_length (t ∷ before) = omega (arith, length-append (ends_in before) (record { turn = length before; link = t.after } ∷ []), ends_length before)

  -- one more turn
  record Passes (turns : List BoardTurn) (t : BoardTurn) (y : SeenLink) : Type 0 where
    pub next : Stays (t ∷ turns) y
    pub counted : IsCounted (lead_of clock.drift) (spoiled_by turns t) (held_by turns t) t.state.shut

  passes : (turns : List BoardTurn) (t : BoardTurn) (x y : SeenLink) (k : ℕ) → k ≡ length turns → Stays turns x → AreBoardTurns clock begin (t ∷ turns) → links.TurnsLink x k t.control t.batch t.state y → Passes turns t y
  passes turns t x y k at st are h =
      let o = orders t.control t.batch in
      let l = stands_after begin turns in
      let z = h.turned l st.stands in
      let By : BoardClock × ℕ → Type 0 = λ c. IsTurn c.0 c.1 o l z.0 in
      let turned : IsTurn clock (length turns) o l z.0 = subst By (λ i. (st.clock_is i, at i)) z.1 in
      let one : z.0 ≡ t.after = one_turn clock (length turns) o l z.0 t.after turned are.0.0 in
      let stands : StandsFor y t.after = subst (λ (n : LinkState). StandsFor y n) one z.2 in
      let e : Ended = record { turn = length turns; link = t.after } in
      let idle_told : t.state.idle ≡ is_idle t.after =
      same_bool t.state.idle (is_idle t.after) _ are.0.1.idle ((λ i. idle_is t.after i), (λ i. is_idle_where t.after i.0 i.1)) in
      let held_now : hold x.held k t.batch.units ≡ held_by turns t =
      ap (λ (n : List _). hold n k t.batch.units) st.held ∙ ap (λ (n : ℕ). hold (held_in (orders_in turns) (ends_in turns)) n t.batch.units) at in
      let held_next : y.held ≡ held_in (orders_in (t ∷ turns)) (ends_in (t ∷ turns)) =
      h.held ∙ ap (λ (b : Bool). if b then [] else hold x.held k t.batch.units) idle_told
      ∙ ap (λ (n : List _). if is_idle t.after then [] else n) (held_now ∙ ap (λ (n : ℕ). hold (held_in (orders_in turns) (ends_in turns)) n t.batch.units) (sym (order_length turns)))
      ∙ sym (held_grows (orders_in turns) (ends_in turns) o e (order_length turns ∙ sym (ends_length turns))) in
      let spoiled_next : y.spoiled ≡ spoiled_turns (ends_in (t ∷ turns)) =
      z.4 (ends_in turns) st.spoiled ∙ ap (λ (n : ℕ × LinkState). spoiled_turns (ends_in turns ++ record { turn = n.0; link = n.1 } ∷ [])) (λ i. (at i, one i)) in
      let turns_now : spoiled_with x.spoiled k (is_quiet (record { turn = k; link = record t.after { down = y.down; up = y.up } })) ≡ spoiled_by turns t =
      ap (λ (n : List ℕ). spoiled_with n k (is_quiet (record { turn = k; link = record t.after { down = y.down; up = y.up } }))) st.spoiled
      ∙ ap (λ (n : ℕ). spoiled_with (spoiled_turns (ends_in turns)) n (is_quiet (record { turn = n; link = record t.after { down = y.down; up = y.up } }))) at
      ∙ ap (λ (n : _ × _). spoiled_with (spoiled_turns (ends_in turns)) (length turns) (is_quiet (record { turn = length turns; link = record t.after { down = n.0; up = n.1 } }))) (λ i. (stands.down i, stands.up i)) in
      record {
        next = record { stands = stands; clock_is = h.clock ∙ st.clock_is; spoiled = spoiled_next; held = held_next };
        counted = counted_as (lead_of x.clock.drift) (lead_of clock.drift) _ (spoiled_by turns t) (hold x.held k t.batch.units) (held_by turns t) t.state.shut t.state.shut (ap (λ (c : BoardClock). lead_of c.drift) st.clock_is) turns_now held_now refl h.counted;
      }

  -- the first of some turns, with what was put and taken
  record Stepped (turns made : List BoardTurn) (t : BoardTurn) (k : ℕ) (us : List LinkTurn) (e : SeenLink × Bool) (put_on taken_on : List Control) (left rest : List Batch) (told_on : List State) : Type 0 where
    pub y : SeenLink
    pub passes : Passes turns t y
    pub more : List LinkTurn
    pub goes : Goes (LinkStep links.TurnsLink) (k + 1) (y, false) more e
    pub controls : map (λ t. t.control) made ++ put_on ≡ gather (λ u. u.control ∷ []) more ++ taken_on
    pub batches : map (λ t. t.batch) made ++ rest ≡ gather (λ u. u.batch ∷ []) more ++ left
    pub states : gather (λ u. u.state ∷ []) more ≡ states_of made ++ told_on

  step : (turns made : List BoardTurn) (t : BoardTurn) (x : SeenLink) (k : ℕ) (us : List LinkTurn) (e : SeenLink × Bool) (put_on taken_on : List Control) (left rest : List Batch) (told_on : List State) → k ≡ length turns → Stays turns x → AreBoardTurns clock begin (t ∷ turns)
      → Goes (LinkStep links.TurnsLink) k (x, false) us e → map (λ t. t.control) (t ∷ made) ++ put_on ≡ gather (λ u. u.control ∷ []) us ++ taken_on → map (λ t. t.batch) (t ∷ made) ++ rest ≡ gather (λ u. u.batch ∷ []) us ++ left
      → gather (λ u. u.state ∷ []) us ≡ states_of (t ∷ made) ++ told_on → Stepped turns made t k us e put_on taken_on left rest told_on
  step turns made t x k [] e put_on taken_on left rest told_on at st here goes controls batches states = absurd (nil_cons t.state (states_of made ++ told_on) states)
  step turns made t x k (u ∷ us) e put_on taken_on left rest told_on at st here goes controls batches states =
      let c = cons_same t.control u.control (map (λ (y : BoardTurn). y.control) made ++ put_on) (gather (λ (y : LinkTurn). y.control ∷ []) us ++ taken_on) controls in
      let d = cons_same t.batch u.batch (map (λ (y : BoardTurn). y.batch) made ++ rest) (gather (λ (y : LinkTurn). y.batch ∷ []) us ++ left) batches in
      let s = cons_same u.state t.state (gather (λ (y : LinkTurn). y.state ∷ []) us) (states_of made ++ told_on) states in
      let out : t.state.out ≡ false = here.0.1.in_memory in
      let one = goes.1 in
      elim one.1 [
        | inl on_time ↦
            let Turned : Control × Batch × State → Type 0 = λ z. links.TurnsLink x k z.0 z.1 z.2 goes.0.0 in
            let h = subst Turned (λ i. (sym c.0 i, sym d.0 i, s.0 i)) on_time.3 in
            let next : goes.0 ≡ (goes.0.0, false) = (λ i. (goes.0.0, on_time.1 i)) in
            record {
              y = goes.0.0;
              passes = passes turns t x goes.0.0 k at st here h;
              more = us;
              goes = subst (λ (z : SeenLink × Bool). Goes (LinkStep links.TurnsLink) (k + 1) z us e) next goes.2;
              controls = c.1;
              batches = d.1;
              states = s.1;
            }
        | inr two ↦
            let bare : t.state.out ≡ true = ap (λ (z : State). z.out) (sym s.0 ∙ two.1) in
            absurd (true_false (sym bare ∙ out))
      ]

  pub walk : (turns made : List BoardTurn) (x : SeenLink) (k : ℕ) (us : List LinkTurn) (e : SeenLink × Bool) (put_on taken_on : List Control) (left rest : List Batch) (told_on : List State) → k ≡ length turns → Stays turns x → AreBoardTurns clock begin (turns_behind turns made)
      → Goes (LinkStep links.TurnsLink) k (x, false) us e → map (λ t. t.control) made ++ put_on ≡ gather (λ u. u.control ∷ []) us ++ taken_on → map (λ t. t.batch) made ++ rest ≡ gather (λ u. u.batch ∷ []) us ++ left
      → gather (λ u. u.state ∷ []) us ≡ states_of made ++ told_on → 0 < length made → IsLast clock (turns_behind turns made)
  walk turns [] x k us e put_on taken_on left rest told_on at st are goes controls batches states some = absurd (omega (arith, some))
  walk turns (t ∷ []) x k us e put_on taken_on left rest told_on at st are goes controls batches states some =
      let r = step turns [] t x k us e put_on taken_on left rest told_on at st are goes controls batches states in
      record { turn = t; past = turns; are = refl; counted = r.passes.counted }
  walk turns (t ∷ (z ∷ made)) x k us e put_on taken_on left rest told_on at st are goes controls batches states some =
      let r = step turns (z ∷ made) t x k us e put_on taken_on left rest told_on at st (are_front clock begin (t ∷ turns) (z ∷ made) are) goes controls batches states in
      walk (t ∷ turns) (z ∷ made) r.y (k + 1) r.more e put_on taken_on left rest told_on (omega (arith, at)) r.passes.next are r.goes r.controls r.batches r.states (omega arith)
