-- A homing group hears of each report of a member that it could trigger.
use Rattle.std.proofs.Common.{◌≡◌, ℕ, zero, suc, ◌+◌, ◌<◌, ◌≤◌, ◌==◌, inl, inr, Bool, true, false, cond, not, List, [], ◌∷◌, length, map, Option, Some, None, refl, ap, sym, ◌∙◌, subst, arith, rules}
use Rattle.laws_board.proofs.Names.{eqb_tells, leb_tells, nearest, Clocks, clocks_at, turn_in_run, turn_tick, Cmd, News, State, Seen, GroupState, Homing, hears_all, state_at}
use Rattle.std.specs.Prelude.{nat_le}
use Rattle.plan_types.specs.declared.plan.TrigState.{TrigState}
use Rattle.msg_code.specs.declared.cmd.Cmd.TheVariants as cmd
use Rattle.trigger_group.specs.Group.{came, first_fired, heard_of, hears_from, later}
use Rattle.axis_homing.specs.Homing.{came_at, hears_answer, hears_news, hears_state, hears_states}
use Rattle.laws_homing.specs.clear_boards.Hearing.{HeardBy, IsAble, TellAble}

-- what was heard is never forgotten
more_one : (here can : Bool) (start when tick turn : ℕ) (s : TrigState) (x : Seen) → start ≤ turn → when ≤ heard_of start x.heard
    → when ≤ heard_of start (cond here (cond can (record x { heard = Some (later x.heard turn) }) (record x { fired = Some (first_fired x.fired (record { reason = s.reason; tick = tick; turn = turn })) })) x).heard
more_one true true start when tick turn s x low h = by x.heard h
  where
    by : (o : Option ℕ) → when ≤ heard_of start o → when ≤ heard_of start (Some (later o turn))
    by None k = omega (arith, k, low)
    by (Some t) k = omega (arith, k)
more_one true false start when tick turn s x low h = h
more_one false can start when tick turn s x low h = h

more_all : (start b when board tick turn : ℕ) (s : TrigState) (xs : List Seen) → start ≤ turn → HeardBy start b when xs → HeardBy start b when (map (hears_from board s tick turn) xs)
more_all start b when board tick turn s [] low h = tt
more_all start b when board tick turn s (x ∷ xs) low h =
    ((λ is. more_one (x.member.board == board) s.can start when tick turn s x low (h.0 (sym (same (x.member.board == board) s.can) ∙ is))), more_all start b when board tick turn s xs low h.1)
  where
    same : (here can : Bool)
        → (cond here (cond can (record x { heard = Some (later x.heard turn) }) (record x { fired = Some (first_fired x.fired (record { reason = s.reason; tick = tick; turn = turn })) })) x).member.board ≡ x.member.board
    same true true = refl
    same true false = refl
    same false can = refl

-- and a report is heard of
new_one : (here can : Bool) (start tick turn : ℕ) (s : TrigState) (x : Seen) → here ≡ true → can ≡ true
    → turn ≤ heard_of start (cond here (cond can (record x { heard = Some (later x.heard turn) }) (record x { fired = Some (first_fired x.fired (record { reason = s.reason; tick = tick; turn = turn })) })) x).heard
new_one true true start tick turn s x e f = by x.heard
  where
    by : (o : Option ℕ) → turn ≤ heard_of start (Some (later o turn))
    by None = omega arith
    by (Some t) = omega arith
new_one true false start tick turn s x e f = cc
new_one false can start tick turn s x e f = cc

new_all : (start board tick turn : ℕ) (s : TrigState) (xs : List Seen) → s.can ≡ true → HeardBy start board turn (map (hears_from board s tick turn) xs)
new_all start board tick turn s [] can = tt
new_all start board tick turn s (x ∷ xs) can =
    ((λ is. new_one (x.member.board == board) s.can start tick turn s x (here (sym (same (x.member.board == board) s.can) ∙ is)) can), new_all start board tick turn s xs can)
  where
    same : (h c : Bool)
        → (cond h (cond c (record x { heard = Some (later x.heard turn) }) (record x { fired = Some (first_fired x.fired (record { reason = s.reason; tick = tick; turn = turn })) })) x).member.board ≡ x.member.board
    same true true = refl
    same true false = refl
    same false c = refl

    here : x.member.board ≡ board → (x.member.board == board) ≡ true
    here e = elim (eqb_tells x.member.board board) [ inl p ↦ p.0 | inr p ↦ absurd (p.1 e) ]

-- a group keeps its start, and what it heard
record Heard (start b when : ℕ) (g : GroupState) : Type 0 where
  is : g.start ≡ start
  by : HeardBy start b when g.members

came_more : (start b when board tick turn : ℕ) (s : TrigState) (g : GroupState) → Heard start b when g → Heard start b when (came board s tick turn g)
came_more start b when board tick turn s g h = search (rules, leb_tells, more_all)

came_new : (start board tick turn : ℕ) (s : TrigState) (g : GroupState) → g.start ≡ start → start ≤ turn → s.can ≡ true → Heard start board turn (came board s tick turn g)
came_new start board tick turn s g is low can = elim (leb_tells (suc turn) g.start) [
  | inl p ↦ absurd (let far = p.1 in omega (arith, far, is, low))
  | inr p ↦ record { is = is; by = (let At : Bool → Type 0 = λ c. HeardBy start board turn (cond c g.members (map (hears_from board s tick turn) g.members)) in subst At (sym p.0) (new_all start board tick turn s g.members can)) }
]

at_more : (start b when board tick : ℕ) (s : TrigState) (o : Option ℕ) (g : GroupState) → Heard start b when g → Heard start b when (came_at board s tick o g)
at_more start b when board tick s None g h = h
at_more start b when board tick s (Some turn) g h = came_more start b when board tick turn s g h

at_new : (start board tick when : ℕ) (s : TrigState) (o : Option ℕ) (g : GroupState) → o ≡ Some when → g.start ≡ start → start ≤ when → s.can ≡ true → Heard start board when (came_at board s tick o g)
at_new start board tick when s o g p7 p8 p9 p10 = search (rules, came_new)

pub can_so : (can : ℕ) → (can ≡ 0 → ⊥) → not (can == 0) ≡ true
can_so can n = elim (eqb_tells can 0) [ inl p ↦ absurd (n p.1) | inr p ↦ ap not p.0 ]

answer_more : (start b when board turn : ℕ) (clocks : Clocks) (c : Cmd) (g : GroupState) → Heard start b when g → Heard start b when (hears_answer clocks board turn c g)
answer_more start b when board turn clocks (cmd.TrsyncState oid can reason clock) g h =
    let at = nearest (turn_tick clocks turn) clock in
    at_more start b when board at (record { can = not (can == 0); reason = reason; clock = clock }) (turn_in_run clocks at) g h
answer_more start b when board turn clocks c g h = h

answer_new : (start board turn when : ℕ) (clocks : Clocks) (c : Cmd) (g : GroupState) → g.start ≡ start → start ≤ when → IsAble clocks turn when c → Heard start board when (hears_answer clocks board turn c g)
answer_new start board turn when clocks c g p7 p8 p9 = search (rules, nearest, turn_tick, at_new, turn_in_run, can_so)

-- a group keeps its start
starts_at : (board tick : ℕ) (s : TrigState) (o : Option ℕ) (g : GroupState) → (came_at board s tick o g).start ≡ g.start
starts_at board tick s None g = refl
starts_at board tick s (Some turn) g = refl

starts_answer : (board turn : ℕ) (clocks : Clocks) (c : Cmd) (g : GroupState) → (hears_answer clocks board turn c g).start ≡ g.start
starts_answer board turn clocks c g = search (rules, nearest, turn_tick, starts_at, turn_in_run)

news_more : (start b when board turn : ℕ) (clocks : Clocks) (ns : List News) (g : GroupState) → Heard start b when g → Heard start b when (hears_news clocks board turn ns g)
news_more start b when board turn clocks [] g h = h
news_more start b when board turn clocks (n ∷ ns) g h = news_more start b when board turn clocks ns (hears_answer clocks board turn n.answer g) (answer_more start b when board turn clocks n.answer g h)

news_new : (start board turn when : ℕ) (clocks : Clocks) (ns : List News) (g : GroupState) → g.start ≡ start → start ≤ when → TellAble clocks turn when ns → Heard start board when (hears_news clocks board turn ns g)
news_new start board turn when clocks [] g is low t = absurd t
news_new start board turn when clocks (n ∷ ns) g is low (inl t) =
    news_more start board when board turn clocks ns (hears_answer clocks board turn n.answer g) (answer_new start board turn when clocks n.answer g is low t)
news_new start board turn when clocks (n ∷ ns) g is low (inr t) =
    news_new start board turn when clocks ns (hears_answer clocks board turn n.answer g) (starts_answer board turn clocks n.answer g ∙ is) low t

starts_news : (board turn : ℕ) (clocks : Clocks) (ns : List News) (g : GroupState) → (hears_news clocks board turn ns g).start ≡ g.start
starts_news board turn clocks [] g = refl
starts_news board turn clocks (n ∷ ns) g = starts_news board turn clocks ns (hears_answer clocks board turn n.answer g) ∙ starts_answer board turn clocks n.answer g

state_more : (start b when board from : ℕ) (clocks : Clocks) (s : State) (g : GroupState) → Heard start b when g → Heard start b when (hears_state clocks board from s g)
state_more start b when board from clocks s g h = by (nat_le from (s.turn + 1))
  where
    by : (c : Bool) → Heard start b when (cond c (hears_news clocks board s.turn s.news g) g)
    by true = news_more start b when board s.turn clocks s.news g h
    by false = h

starts_state : (board from : ℕ) (clocks : Clocks) (s : State) (g : GroupState) → (hears_state clocks board from s g).start ≡ g.start
starts_state board from clocks s g = search (rules, nat_le, starts_news)

state_new : (start board when from : ℕ) (clocks : Clocks) (s : State) (g : GroupState) → g.start ≡ start → start ≤ when → from ≤ s.turn + 1 → TellAble clocks s.turn when s.news → Heard start board when (hears_state clocks board from s g)
state_new start board when from clocks s g is low late t = search (rules, leb_tells, news_new)

states_more : (start b when board from : ℕ) (clocks : List Clocks) (states : List State) (g : GroupState) → Heard start b when g → Heard start b when (hears_states clocks board from states g)
states_more start b when board from [] states g h = h
states_more start b when board from (c ∷ clocks) [] g h = h
states_more start b when board from (c ∷ clocks) (s ∷ states) g h = states_more start b when (board + 1) from clocks states (hears_state c board from s g) (state_more start b when board from c s g h)

states_new : (d start b when board from : ℕ) (clocks : List Clocks) (states : List State) (s : State) (g : GroupState) → board + d ≡ b → d < length clocks → state_at d states ≡ s ∷ [] → g.start ≡ start → start ≤ when → from ≤ s.turn + 1
    → TellAble (clocks_at clocks d) s.turn when s.news → Heard start b when (hears_states clocks board from states g)
states_new d start b when board from [] states s g e few at is low late t = absurd (omega (arith, few))
states_new d start b when board from (c ∷ clocks) [] s g e few at is low late t = absurd (cc)
states_new zero start b when board from (c ∷ clocks) (x ∷ states) s g e few at is low late t =
    let same : s ≡ x = cc in
    let place : board ≡ b = omega (arith, e) in
    let Of : State → Type 0 = λ y. Heard start board when (hears_states clocks (board + 1) from states (hears_state c board from y g)) in
    let At : ℕ → Type 0 = λ n. Heard start n when (hears_states clocks (board + 1) from states (hears_state c board from x g)) in
    subst At place (subst Of same (states_more start board when (board + 1) from clocks states (hears_state c board from s g) (state_new start board when from c s g is low late t)))
states_new (suc d) start b when board from (c ∷ clocks) (x ∷ states) s g e few at is low late t =
    states_new d start b when (board + 1) from clocks states s (hears_state c board from x g) (omega (arith, e)) (omega (arith, few)) at (starts_state board from c x g ∙ is) low late t

pub hears_able : (b when : ℕ) (clocks : List Clocks) (states : List State) (s : State) (h : Homing) → b < length clocks → state_at b states ≡ s ∷ [] → h.group.start ≤ when → h.start ≤ s.turn + 1
    → TellAble (clocks_at clocks b) s.turn when s.news → HeardBy h.group.start b when (hears_all clocks states h).group.members
hears_able b when clocks states s h few at low late t =
    (states_new b h.group.start b when 0 h.start clocks states s h.group (omega arith) few at refl low late t).by

pub hears_on : (b when : ℕ) (clocks : List Clocks) (states : List State) (h : Homing) → HeardBy h.group.start b when h.group.members → HeardBy h.group.start b when (hears_all clocks states h).group.members
hears_on b when clocks states h k =
    let was : Heard h.group.start b when h.group = record { is = refl; by = k } in
    (states_more h.group.start b when 0 h.start clocks states h.group was).by
