-- What a homing group knows of its members' triggers was told by states that came.
use Rattle.std.proofs.Common.{◌≡◌, ℕ, zero, suc, ◌+◌, ◌≤◌, ◌⊎◌, ◌==◌, Bool, true, false, not, cond, List, [], ◌∷◌, map, Option, Some, None, refl, ap, sym, ◌∙◌, subst, arith, inl, inr}
use Rattle.std.specs.Prelude.{nat_le, nat_lt}
use Rattle.laws_board.proofs.Names.{eqb_tells, leb_tells, nearest, Clocks, clocks_at, turn_in_run, turn_tick, Cmd, News, State, Fired, Seen, GroupState, state_at, item}
use Rattle.plan_types.specs.declared.plan.TrigState.{TrigState}
use Rattle.msg_code.specs.declared.cmd.Cmd.TheVariants as cmd
use Rattle.trigger_group.specs.Group.{came, first_fired, member_hears, hears_from, later}
use Rattle.axis_homing.specs.Homing.{came_at, hears_answer, hears_news, hears_state, hears_states}
use Rattle.laws_board.proofs.clocks.Controls.{states_start}
use Rattle.laws_homing.specs.home_runs.Windows.{HasAnswer}
use Rattle.axis_homing.proofs.Starts.{came_start, answer_start}
use Rattle.laws_homing.proofs.clear_boards.Knowing.{no_can}

pub same_state : (b : ℕ) (states : List State) → state_at b states ≡ item b states
same_state b [] = refl
same_state zero (s ∷ states) = refl
same_state (suc b) (s ∷ states) = same_state b states

-- what is known of a member's trigger was told, and the member with the endstop is its board
abbrev pub One : (ℕ → Fired → Type 0) → ℕ → Seen → Type 0
One W own x = ((f : Fired) → x.fired ≡ Some f → W x.member.board f) × (x.member.endstop ≡ true → x.member.board ≡ own)

abbrev pub Each : (ℕ → Fired → Type 0) → ℕ → List Seen → Type 0
Each W own [] = Unit {0}
Each W own (x ∷ xs) = One W own x × Each W own xs

pub each_more : (W V : ℕ → Fired → Type 0) (own : ℕ) (xs : List Seen) → ((b : ℕ) (f : Fired) → W b f → V b f) → Each W own xs → Each V own xs
each_more W V own [] more h = tt
each_more W V own (x ∷ xs) more h = ((λ f e. more x.member.board f (h.0.0 f e), h.0.1), each_more W V own xs more h.1)

-- behind a report
abbrev now_of : ℕ → ℕ → ℕ → Fired
now_of reason at when = record { reason = reason; tick = at; turn = when }

first_so : (W : ℕ → Fired → Type 0) (b : ℕ) (now : Fired) (o : Option Fired) → W b now → ((f : Fired) → o ≡ Some f → W b f) → (f : Fired) → Some (first_fired o now) ≡ Some f → W b f
first_so W b now None new given f e = let same : now ≡ f = cc in subst (W b) same new
first_so W b now (Some old) new given f e = given f e

can_one : (W : ℕ → Fired → Type 0) (own reason at when : ℕ) (x : Seen) (can : Bool) → (can ≡ false → W x.member.board (now_of reason at when)) → One W own x
    → One W own (cond can (record x { heard = Some (later x.heard when) }) (record x { fired = Some (first_fired x.fired (now_of reason at when)) }))
can_one W own reason at when x true new given = given
can_one W own reason at when x false new given = (first_so W x.member.board (now_of reason at when) x.fired (new refl) given.0, given.1)

from_one : (W : ℕ → Fired → Type 0) (own b : ℕ) (s : TrigState) (at when : ℕ) (x : Seen) → (s.can ≡ false → W b (now_of s.reason at when)) → One W own x → One W own (hears_from b s at when x)
from_one W own b s at when x new given =
    let At : Bool → Type 0 = λ z. One W own (cond z (member_hears s at when x) x) in
    elim (eqb_tells x.member.board b) [
      | inl p ↦ subst At (sym p.0) (can_one W own s.reason at when x s.can (λ e. subst (λ (i : ℕ). W i (now_of s.reason at when)) (sym p.1) (new e)) given)
      | inr p ↦ subst At (sym p.0) given
    ]

each_from : (W : ℕ → Fired → Type 0) (own b : ℕ) (s : TrigState) (at when : ℕ) (xs : List Seen) → (s.can ≡ false → W b (now_of s.reason at when)) → Each W own xs → Each W own (map (hears_from b s at when) xs)
each_from W own b s at when [] new given = tt
each_from W own b s at when (x ∷ xs) new given = (from_one W own b s at when x new given.0, each_from W own b s at when xs new given.1)

came_each : (W : ℕ → Fired → Type 0) (own b : ℕ) (s : TrigState) (at when : ℕ) (g : GroupState) → (g.start ≤ when → s.can ≡ false → W b (now_of s.reason at when)) → Each W own g.members → Each W own (came b s at when g).members
came_each W own b s at when g new given =
    let At : Bool → Type 0 = λ z. Each W own (cond z g.members (map (hears_from b s at when) g.members)) in
    elim (leb_tells (suc when) g.start) [
      | inl p ↦ subst At (sym p.0) given
      | inr p ↦ subst At (sym p.0) (each_from W own b s at when g.members (new (let late = p.1 in omega (arith, late))) given)
    ]

at_each : (W : ℕ → Fired → Type 0) (own b : ℕ) (s : TrigState) (at : ℕ) (o : Option ℕ) (g : GroupState) → ((when : ℕ) → o ≡ Some when → g.start ≤ when → s.can ≡ false → W b (now_of s.reason at when)) → Each W own g.members
    → Each W own (came_at b s at o g).members
at_each W own b s at None g new given = given
at_each W own b s at (Some when) g new given = came_each W own b s at when g (new when refl) given

-- what a state of a turn tells of a board's trigger, that counts for a homing section with this start
pub record Telling (clocks : List Clocks) (states : List State) (start board : ℕ) (f : Fired) : Type 0 where
  pub state : State
  pub came : state_at board states ≡ state ∷ []
  pub counts : start ≤ state.turn + 1
  pub oid : ℕ
  pub clock : ℕ
  pub told : HasAnswer (cmd.TrsyncState oid 0 f.reason clock) state.news
  pub tick_is : f.tick ≡ nearest (turn_tick (clocks_at clocks board) state.turn) clock
  pub turn_is : turn_in_run (clocks_at clocks board) f.tick ≡ Some f.turn
  pub late : start ≤ f.turn

pub item_lines : (b : ℕ) (clocks : List Clocks) (lines : Clocks) → item b clocks ≡ lines ∷ [] → lines ≡ clocks_at clocks b
item_lines b [] lines e = cc
item_lines zero (x ∷ clocks) lines e = cc
item_lines (suc b) (x ∷ clocks) lines e = item_lines b clocks lines e

-- behind all states of a turn
module _ (clocks : List Clocks) (states : List State) (start own : ℕ) (W : ℕ → Fired → Type 0) (new : (b : ℕ) (f : Fired) → Telling clocks states start b f → W b f) where
  answer_each : (lines : Clocks) (b : ℕ) (s : State) → item b clocks ≡ lines ∷ [] → item b states ≡ s ∷ [] → start ≤ s.turn + 1 → (a : Cmd) → HasAnswer a s.news → (g : GroupState) → g.start ≡ start → Each W own g.members
      → Each W own (hears_answer lines b s.turn a g).members
  answer_each lines b s line state counts (cmd.TrsyncState oid can reason clock) told g at given =
      let tick = nearest (turn_tick lines s.turn) clock in
      let same : lines ≡ clocks_at clocks b = item_lines b clocks lines line in
      at_each W own b (record { can = not (can == 0); reason = reason; clock = clock }) tick (turn_in_run lines tick) g
      (λ when is late off.
      new b (now_of reason tick when) (record {
        state = s;
        came = same_state b states ∙ state;
        counts = counts;
        oid = oid;
        clock = clock;
        told = subst (λ (n : ℕ). HasAnswer (cmd.TrsyncState oid n reason clock) s.news) (no_can can off) told;
        tick_is = ap (λ (l : Clocks). nearest (turn_tick l s.turn) clock) same;
        turn_is = ap (λ (l : Clocks). turn_in_run l tick) (sym same) ∙ is;
        late = omega (arith, late, at);
      }))
      given
  answer_each lines b s line state counts a told g at given = given

  news_each : (lines : Clocks) (b : ℕ) (s : State) → item b clocks ≡ lines ∷ [] → item b states ≡ s ∷ [] → start ≤ s.turn + 1 → (ns : List News) → ((a : Cmd) → HasAnswer a ns → HasAnswer a s.news) → (g : GroupState) → g.start ≡ start → Each W own g.members
      → Each W own (hears_news lines b s.turn ns g).members
  news_each lines b s line state counts [] among g at given = given
  news_each lines b s line state counts (n ∷ ns) among g at given =
      news_each lines b s line state counts ns (λ a h. among a (inr h)) (hears_answer lines b s.turn n.answer g) (answer_start lines b s.turn n.answer g ∙ at) (answer_each lines b s line state counts n.answer (among n.answer (inl refl)) g at given)

  state_each : (lines : Clocks) (b : ℕ) (s : State) → item b clocks ≡ lines ∷ [] → item b states ≡ s ∷ [] → (g : GroupState) → g.start ≡ start → Each W own g.members → Each W own (hears_state lines b start s g).members
  state_each lines b s line state g at given =
      let At : Bool → Type 0 = λ z. Each W own (cond z (hears_news lines b s.turn s.news g) g).members in
      elim (leb_tells start (s.turn + 1)) [ inl p ↦ subst At (sym p.0) (news_each lines b s line state p.1 s.news (λ a h. h) g at given) | inr p ↦ subst At (sym p.0) given ]

  states_each : (cs : List Clocks) (b : ℕ) (ss : List State) → ((i : ℕ) (x : Clocks) → item i cs ≡ x ∷ [] → item (b + i) clocks ≡ x ∷ []) → ((i : ℕ) (x : State) → item i ss ≡ x ∷ [] → item (b + i) states ≡ x ∷ []) → (g : GroupState) → g.start ≡ start
      → Each W own g.members → Each W own (hears_states cs b start ss g).members
  states_each [] b ss lines came g at given = given
  states_each (c ∷ cs) b [] lines came g at given = given
  states_each (c ∷ cs) b (s ∷ ss) lines came g at given =
      let here : b + 0 ≡ b = omega arith in
      let now : (hears_state c b start s g).start ≡ start = states_start (c ∷ []) b start (s ∷ []) g ∙ at in
      states_each cs (b + 1) ss
      (λ i x e. let next : b + suc i ≡ b + 1 + i = omega arith in subst (λ (j : ℕ). item j clocks ≡ x ∷ []) next (lines (suc i) x e))
      (λ i x e. let next : b + suc i ≡ b + 1 + i = omega arith in subst (λ (j : ℕ). item j states ≡ x ∷ []) next (came (suc i) x e))
      (hears_state c b start s g) now
      (state_each c b s (subst (λ (j : ℕ). item j clocks ≡ c ∷ []) here (lines 0 c refl)) (subst (λ (j : ℕ). item j states ≡ s ∷ []) here (came 0 s refl)) g at given)

  pub all_each : (g : GroupState) → g.start ≡ start → Each W own g.members → Each W own (hears_states clocks 0 start states g).members
  all_each g at given =
      states_each clocks 0 states
      (λ i x e. let same : i ≡ 0 + i = omega arith in subst (λ (j : ℕ). item j clocks ≡ x ∷ []) same e)
      (λ i x e. let same : i ≡ 0 + i = omega arith in subst (λ (j : ℕ). item j states ≡ x ∷ []) same e)
      g at given

-- a member is known to have triggered in a turn that is not past the last one, by its readings or its timeout
abbrev pub KnownIn : ℕ → List Seen → Type 0
KnownIn last [] = ⊥
KnownIn last (x ∷ xs) = ((f : Fired) × (x.fired ≡ Some f) × (f.turn ≤ last) × ((f.reason ≡ 1) ⊎ (f.reason ≡ 2))) ⊎ KnownIn last xs

-- what is known stays known
fired_stays : (last : ℕ) (s : TrigState) (at when : ℕ) (x : Seen) (can : Bool) → (f : Fired) → x.fired ≡ Some f → (cond can (record x { heard = Some (later x.heard when) }) (record x { fired = Some (first_fired x.fired (now_of s.reason at when)) })).fired ≡ Some f
fired_stays last s at when x true f e = e
fired_stays last s at when x false f e = ap (λ (o : Option Fired). Some (first_fired o (now_of s.reason at when))) e

from_stays : (last b : ℕ) (s : TrigState) (at when : ℕ) (xs : List Seen) → KnownIn last xs → KnownIn last (map (hears_from b s at when) xs)
from_stays last b s at when [] k = k
from_stays last b s at when (x ∷ xs) (inl k) = inl (k.0, by (x.member.board == b), k.2, k.3)
  where
    by : (here : Bool) → (cond here (member_hears s at when x) x).fired ≡ Some k.0
    by true = fired_stays last s at when x s.can k.0 k.1
    by false = k.1
from_stays last b s at when (x ∷ xs) (inr k) = inr (from_stays last b s at when xs k)

came_stays : (last b : ℕ) (s : TrigState) (at when : ℕ) (g : GroupState) → KnownIn last g.members → KnownIn last (came b s at when g).members
came_stays last b s at when g k = by (nat_lt when g.start)
  where
    by : (c : Bool) → KnownIn last (cond c g.members (map (hears_from b s at when) g.members))
    by true = k
    by false = from_stays last b s at when g.members k

at_stays : (last b : ℕ) (s : TrigState) (at : ℕ) (o : Option ℕ) (g : GroupState) → KnownIn last g.members → KnownIn last (came_at b s at o g).members
at_stays last b s at None g k = k
at_stays last b s at (Some when) g k = came_stays last b s at when g k

answer_stays : (last : ℕ) (lines : Clocks) (b turn : ℕ) (a : Cmd) (g : GroupState) → KnownIn last g.members → KnownIn last (hears_answer lines b turn a g).members
answer_stays last lines b turn (cmd.TrsyncState oid can reason clock) g k =
    let at = nearest (turn_tick lines turn) clock in
    at_stays last b (record { can = not (can == 0); reason = reason; clock = clock }) at (turn_in_run lines at) g k
answer_stays last lines b turn a g k = k

news_stays : (last : ℕ) (lines : Clocks) (b turn : ℕ) (ns : List News) (g : GroupState) → KnownIn last g.members → KnownIn last (hears_news lines b turn ns g).members
news_stays last lines b turn [] g k = k
news_stays last lines b turn (n ∷ ns) g k = news_stays last lines b turn ns (hears_answer lines b turn n.answer g) (answer_stays last lines b turn n.answer g k)

state_stays : (last : ℕ) (lines : Clocks) (b start : ℕ) (s : State) (g : GroupState) → KnownIn last g.members → KnownIn last (hears_state lines b start s g).members
state_stays last lines b start s g k = by (nat_le start (s.turn + 1))
  where
    by : (c : Bool) → KnownIn last (cond c (hears_news lines b s.turn s.news g) g).members
    by true = news_stays last lines b s.turn s.news g k
    by false = k

pub states_stay : (last : ℕ) (clocks : List Clocks) (b start : ℕ) (states : List State) (g : GroupState) → KnownIn last g.members → KnownIn last (hears_states clocks b start states g).members
states_stay last [] b start states g k = k
states_stay last (c ∷ clocks) b start [] g k = k
states_stay last (c ∷ clocks) b start (s ∷ states) g k = states_stay last clocks (b + 1) start states (hears_state c b start s g) (state_stays last c b start s g k)
