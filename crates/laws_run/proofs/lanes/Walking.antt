-- A board and the reactor turn by turn, from what was put and taken.
use Rattle.std.proofs.Common.{◌≡◌, ℕ, suc, ◌+◌, ◌^◌, ◌<◌, ◌≤◌, inl, inr, Bool, true, false, List, [], ◌∷◌, ◌++◌, map, length, refl, ap, sym, ◌∙◌, subst, arith}
use Rattle.laws_board.proofs.Names.{BoardClock, Machine, board_tick, Control, State, Switch, orders, IsTurn, LinkState, Came, known_by, last_reacted, state_at, ReactorTurn, gather, item}
use Rattle.plan_types.specs.Clock.{tick_limit}
use Rattle.msg_code.specs.declared.unit.Batch.{Batch}
use Rattle.link_work.specs.Stands.{SeenLink, StandsFor}
use Rattle.link_work.specs.Told.{IsTold}
use Rattle.laws_board.specs.turns.Turns.{AreBoardTurns, BoardTurn, IsBoardOf, control_at, latest_state, stands_after}
use Rattle.laws_board.specs.sections.Links.{AreTold}
use Rattle.session_work.specs.declared.table.LinkTurn.{LinkTurn}
use Rattle.session_work.specs.Bares.{bare_state}
use Rattle.session_work.specs.Heads.{IsRow}
use Rattle.session_work.specs.Links.{LinkStep}
use Rattle.session_work.specs.Turns.{Goes}
use Rattle.laws_run.specs.lanes.Boards.{turns_behind, orders_of, states_of}
use Rattle.laws_board.specs.plans.Boards.{TookStates}
use Rattle.laws_run.specs.lanes.Turns.{AllGoOn, GoesOnIn, IsLastTurn, ShowsLink, came_before}
use Rattle.session_run.specs.Boards.{came_in}
use Rattle.laws_run.proofs.lanes.Items.{item_control, item_some, none_out, one_out}
use Rattle.laws_homing.proofs.missed_groups.Told.{same_state}

-- what a board made from a turn on, up to the last one that the reactor took
pub record Walked (m : Machine) (switches : List Switch) (b : ℕ) (clock : BoardClock) (begin : LinkState) (before : List Came) (turns : List BoardTurn) (r : ReactorTurn) (more : List ReactorTurn) (us : List LinkTurn) : Type 0 where
  pub made : List BoardTurn
  pub both : IsBoardOf m switches b (came_before before (r ∷ more)) (turns_behind turns made)
  pub are : AreBoardTurns clock begin (turns_behind turns made)
  pub in_range : board_tick clock (length (turns_behind turns made)) < tick_limit
  pub few : length (turns_behind turns made) ≤ 2 ^ 59
  pub told : AreTold clock (length turns) (orders_of made) (states_of made) (stands_after begin turns) (stands_after begin (turns_behind turns made))
  pub states : TookStates b more (states_of made)
  pub left : List Batch
  pub batches : map (λ o. o.batch) (orders_of made) ++ left ≡ gather (λ u. u.batch ∷ []) us

-- a list that begins so
cons_same : {A : Type 0} → (x y : A) (xs ys : List A) → x ∷ xs ≡ y ∷ ys → (x ≡ y) × (xs ≡ ys)
cons_same x y xs ys e = (cc, cc)

pub row_length : (n k : ℕ) (r : ReactorTurn) → IsRow n (suc k) r.states r.note → length r.states ≡ n
row_length n k r (inl z) = let e = z.0 in absurd (omega arith)
row_length n k r (inr z) = z.1

begins : {A : Type 0} → (x : A) (xs ys tail : List A) → xs ≡ x ∷ [] → (xs ++ ys) ++ tail ≡ x ∷ (ys ++ tail)
begins x xs ys tail e = ap (λ l. (l ++ ys) ++ tail) e

no_state : (s : State) (ss : List State) → [] ≡ s ∷ ss → ⊥
no_state s ss e = cc

out_not : (s : State) (k : ℕ) → s ≡ bare_state k true → s.out ≡ false → ⊥
out_not s k e f = let g : s.out ≡ true = ap (λ (x : State). x.out) e in let h : true ≡ false = sym g ∙ f in cc

module _ {L : Type 0} (steps : L → ℕ → Control → Batch → State → L → Type 0) (view : L → SeenLink) (shows : ShowsLink steps view) (m : Machine) (switches : List Switch) (b : ℕ) (clock : BoardClock) (begin : LinkState) (board : b < length m.boards) where
  -- one turn of the board, and how its link stands behind it
  record Went (turns : List BoardTurn) (k : ℕ) (u : LinkTurn) (y : L) : Type 0 where
    pub turn : BoardTurn
    pub control_is : turn.control ≡ u.control
    pub batch_is : turn.batch ≡ u.batch
    pub state_is : turn.state ≡ u.state
    pub are : AreBoardTurns clock begin (turn ∷ turns)
    pub in_range : board_tick clock (length (turn ∷ turns)) < tick_limit
    pub few : length (turn ∷ turns) ≤ 2 ^ 59
    pub stands : StandsFor (view y) turn.after
    pub same : (view y).clock ≡ clock

  went : (turns : List BoardTurn) (k : ℕ) (x : L) (u : LinkTurn) (y : L) → k ≡ length turns → AreBoardTurns clock begin turns → StandsFor (view x) (stands_after begin turns) → (view x).clock ≡ clock
      → steps x k u.control u.batch u.state y → Went turns k u y
  went turns k x u y e are st same s =
      let t = shows.turned x k u.control u.batch u.state y s (stands_after begin turns) st in
      let turned = subst (λ (z : BoardClock × ℕ). (i : IsTurn z.0 z.1 (orders u.control u.batch) (stands_after begin turns) t.0) × IsTold z.0 z.1 (orders u.control u.batch) (stands_after begin turns) i.resent t.0.core u.state) (λ i. (same i, e i)) (t.1, t.3) in
      let next : k + 1 ≡ suc (length turns) = omega arith in
      record {
        turn = record { control = u.control; batch = u.batch; state = u.state; after = t.0 };
        control_is = refl;
        batch_is = refl;
        state_is = refl;
        are = (turned, are);
        in_range = subst (λ (z : BoardClock × ℕ). board_tick z.0 z.1 < tick_limit) (λ i. (same i, next i)) (shows.in_range x k u.control u.batch u.state y s);
        few = omega (arith, shows.few x k u.control u.batch u.state y s);
        stands = t.2;
        same = shows.clock x k u.control u.batch u.state y s ∙ same;
      }

  -- what is left behind a turn
  record Left (before : List Came) (turns : List BoardTurn) (k : ℕ) (r : ReactorTurn) (controls : List Control) (states : List State) (s : State) (us : List LinkTurn) (e : L × Bool) (taken_on : List Control) : Type 0 where
    pub u : LinkTurn
    pub more : List LinkTurn
    pub are_more : us ≡ u ∷ more
    pub y : L
    pub went : Went turns k u y
    pub goes : Goes (LinkStep steps) (k + 1) (y, false) more e
    pub told : IsBoardOf m switches b (came_in r ∷ before) (went.turn ∷ turns)
    pub state_is : went.turn.state ≡ s
    pub controls_left : controls ≡ gather (λ u. u.control ∷ []) more ++ taken_on
    pub states_left : gather (λ u. u.state ∷ []) more ≡ states

  -- a turn of the board, of which the reactor's control and the state that it took are known
  one : (before : List Came) (turns : List BoardTurn) (x : L) (k : ℕ) (r : ReactorTurn) (c : Control) (controls : List Control) (s : State) (states : List State) (us : List LinkTurn) (e : L × Bool) (taken_on : List Control)
      → k ≡ length turns → Goes (LinkStep steps) k (x, false) us e → StandsFor (view x) (stands_after begin turns) → (view x).clock ≡ clock
      → GoesOnIn m switches before r → item b r.controls ≡ c ∷ [] → s.out ≡ false
      → c ∷ controls ≡ gather (λ u. u.control ∷ []) us ++ taken_on
      → gather (λ u. u.state ∷ []) us ≡ s ∷ states
      → item b r.states ≡ latest_state turns → IsBoardOf m switches b before turns → AreBoardTurns clock begin turns
      → Left before turns k r controls states s us e taken_on
  one before turns x k r c controls s states [] e taken_on number goes st same on control out took told pending both are = absurd (no_state s states told)
  one before turns x k r c controls s states (u ∷ us) e taken_on number goes st same on control out took told pending both are =
      let split = cons_same u.state s (gather (λ u. u.state ∷ []) us) states told in
      let taken = cons_same c u.control controls (gather (λ u. u.control ∷ []) us ++ taken_on) took in
      let step = goes.1 in
      elim step.1 [
        | inl on_time ↦
            let next : goes.0 ≡ (goes.0.0, false) = (λ i. (goes.0.0, on_time.1 i)) in
            let w = went turns k x u goes.0.0 number are st same on_time.3 in
            let ordered : control_at b (last_reacted m switches (came_in r) before).ordered.controls ≡ w.turn.control ∷ [] =
            ap (control_at b) (sym on.controls_are) ∙ item_control b r.controls ∙ control ∙ ap (λ (z : Control). z ∷ []) (taken.0 ∙ sym w.control_is) in
            let told_now : state_at b r.states ≡ latest_state turns = same_state b r.states ∙ pending in
            record {
              u = u;
              more = us;
              are_more = refl;
              y = goes.0.0;
              went = w;
              goes = subst (λ (z : L × Bool). Goes (LinkStep steps) (k + 1) z us e) next goes.2;
              told = (told_now, ordered, both);
              state_is = w.state_is ∙ split.0;
              controls_left = taken.1;
              states_left = split.1;
            }
        | inr two ↦ absurd (out_not s k (sym split.0 ∙ two.1) out)
      ]

  -- the turns from one on, behind which others are made
  joined : (before : List Came) (turns : List BoardTurn) (k : ℕ) (r r' : ReactorTurn) (more : List ReactorTurn) (controls : List Control) (states : List State) (s : State) (us : List LinkTurn) (e : L × Bool) (taken_on : List Control)
      → item b r'.states ≡ s ∷ [] → (l : Left before turns k r controls states s us e taken_on) → Walked m switches b clock begin (came_in r ∷ before) (l.went.turn ∷ turns) r' more l.more
      → Walked m switches b clock begin before turns r (r' ∷ more) us
  joined before turns k r r' more controls states s us e taken_on took l rest =
      let t = l.went.turn in
      let now : item b r'.states ≡ t.state ∷ [] = took ∙ ap (λ (z : State). z ∷ []) (sym l.state_is) in
      let turn_number : length turns + 1 ≡ suc (length turns) = omega arith in
      record {
        made = t ∷ rest.made;
        both = rest.both;
        are = rest.are;
        in_range = rest.in_range;
        few = rest.few;
        told = (t.after, l.went.are.0.0, l.went.are.0.1, subst (λ (n : ℕ). AreTold clock n (orders_of rest.made) (states_of rest.made) t.after (stands_after begin (turns_behind (t ∷ turns) rest.made))) (sym turn_number) rest.told);
        states = (now, rest.states);
        left = rest.left;
        batches = ap (λ (z : Batch). z ∷ (map (λ o. o.batch) (orders_of rest.made) ++ rest.left)) l.went.batch_is ∙ ap (λ (z : List Batch). l.u.batch ∷ z) rest.batches
            ∙ ap (gather (λ (u : LinkTurn). u.batch ∷ [])) (sym l.are_more);
      }

  pub walk : (before : List Came) (turns : List BoardTurn) (x : L) (k : ℕ) (r : ReactorTurn) (more : List ReactorTurn) (end : ReactorTurn) (us : List LinkTurn) (e : L × Bool) (put_on taken_on : List Control) (told_on : List State)
      → k ≡ length turns → length before ≡ length turns → Goes (LinkStep steps) k (x, false) us e → StandsFor (view x) (stands_after begin turns) → (view x).clock ≡ clock
      → AllGoOn m switches before (r ∷ more) → IsLastTurn m end
      → gather (λ t. item b t.controls) (r ∷ more) ++ put_on ≡ gather (λ u. u.control ∷ []) us ++ taken_on
      → gather (λ u. u.state ∷ []) us ≡ gather (λ t. item b t.states) (more ++ end ∷ []) ++ told_on
      → item b r.states ≡ latest_state turns → IsBoardOf m switches b before turns → AreBoardTurns clock begin turns
      → Walked m switches b clock begin before turns r (more ++ end ∷ []) us
  walk before turns x k r [] end us e put_on taken_on told_on number long goes st same all last controls states pending both are =
      let size = last.count in
      let some = item_some b end.states (omega arith) in
      let count = all.0.count in
      let c = item_some b r.controls (omega arith) in
      let out = one_out b end.states some.0 last.in_memory some.1 in
      let l = one before turns x k r c.0 put_on some.0 told_on us e taken_on number goes st same all.0 c.1 out (sym (begins c.0 (item b r.controls) [] put_on c.1) ∙ controls)
      (states ∙ begins some.0 (item b end.states) [] told_on some.1) pending both are in
      joined before turns k r end [] put_on told_on some.0 us e taken_on some.1 l (record {
        made = [];
        both = l.told;
        are = l.went.are;
        in_range = l.went.in_range;
        few = l.went.few;
        told = (refl, refl);
        states = refl;
        left = gather (λ u. u.batch ∷ []) l.more;
        batches = refl;
      })
  walk before turns x k r (r' ∷ more) end us e put_on taken_on told_on number long goes st same all last controls states pending both are =
      let size = row_length (length m.boards) (length before) r' all.1.0.row in
      let some = item_some b r'.states (omega arith) in
      let count = all.0.count in
      let c = item_some b r.controls (omega arith) in
      let in_memory = none_out m switches (known_by m switches (came_in r ∷ before)) (length (came_in r ∷ before)) r'.states r'.note all.1.0.goes_on in
      let out = one_out b r'.states some.0 in_memory some.1 in
      let l = one before turns x k r c.0 (gather (λ t. item b t.controls) (r' ∷ more) ++ put_on) some.0 (gather (λ t. item b t.states) (more ++ end ∷ []) ++ told_on) us e taken_on number goes st same all.0 c.1 out
      (sym (begins c.0 (item b r.controls) (gather (λ t. item b t.controls) (r' ∷ more)) put_on c.1) ∙ controls)
      (states ∙ begins some.0 (item b r'.states) (gather (λ t. item b t.states) (more ++ end ∷ [])) told_on some.1) pending both are in
      let now : item b r'.states ≡ latest_state (l.went.turn ∷ turns) = some.1 ∙ ap (λ (z : State). z ∷ []) (sym l.state_is) in
      joined before turns k r r' (more ++ end ∷ []) (gather (λ t. item b t.controls) (r' ∷ more) ++ put_on) (gather (λ t. item b t.states) (more ++ end ∷ []) ++ told_on) some.0 us e taken_on some.1 l
      (walk (came_in r ∷ before) (l.went.turn ∷ turns) l.y (k + 1) r' more end l.more e put_on taken_on told_on (omega arith) (omega arith) l.goes l.went.stands l.went.same all.1 last l.controls_left l.states_left now l.told l.went.are)
