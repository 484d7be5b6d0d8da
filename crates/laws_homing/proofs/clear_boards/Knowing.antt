-- A homing group knows of each member that is told to have triggered, and goes on knowing it.
use Rattle.std.proofs.Common.{◌≡◌, ℕ, zero, suc, ◌+◌, ◌<◌, ◌≤◌, ◌==◌, inl, inr, Bool, true, false, cond, not, List, [], ◌∷◌, length, map, Option, Some, None, refl, ap, sym, ◌∙◌, subst, arith, ◌⊎◌, rules}
use Rattle.laws_board.proofs.Names.{eqb_tells, leb_tells, nearest, Clocks, clocks_at, turn_in_run, turn_tick, Cmd, News, State, Fired, Seen, GroupState, Homing, hears_all, state_at}
use Rattle.std.specs.Prelude.{nat_le, nat_lt}
use Rattle.plan_types.specs.declared.plan.TrigState.{TrigState}
use Rattle.msg_code.specs.declared.cmd.Cmd.TheVariants as cmd
use Rattle.trigger_group.specs.Group.{came, fired_by, first_fired, hears_from, later}
use Rattle.axis_homing.specs.Homing.{came_at, hears_answer, hears_news, hears_state, hears_states}
use Rattle.laws_homing.specs.clear_boards.Hearing.{AllFiredIn, FiredOn, FiringNone, IsFiredIn, KnownOn, NoneOn}
use Rattle.laws_homing.specs.home_runs.Windows.{IsFired, SayFired}
use Rattle.plan_types.proofs.Facts.{is_equal, is_le, was_equal, same_when}
use Rattle.laws_homing.proofs.clear_boards.Hearing.{can_so}

-- a member behind a report
abbrev pub behind : Bool → Bool → TrigState → ℕ → ℕ → Seen → Seen
behind here can s tick turn x = cond here (cond can (record x { heard = Some (later x.heard turn) }) (record x { fired = Some (first_fired x.fired (record { reason = s.reason; tick = tick; turn = turn })) })) x

pub same_board : (here can : Bool) (s : TrigState) (tick turn : ℕ) (x : Seen) → (behind here can s tick turn x).member.board ≡ x.member.board
same_board true true s tick turn x = refl
same_board true false s tick turn x = refl
same_board false can s tick turn x = refl

first_still : (last : ℕ) (o : Option Fired) (n : Fired) → fired_by last o ≡ true → fired_by last (Some (first_fired o n)) ≡ true
first_still last None n e = cc
first_still last (Some f) n e = e

pub one_still : (last : ℕ) (here can : Bool) (s : TrigState) (tick turn : ℕ) (x : Seen) → fired_by last x.fired ≡ true → fired_by last (behind here can s tick turn x).fired ≡ true
one_still last true true s tick turn x e = e
one_still last true false s tick turn x e = first_still last x.fired (record { reason = s.reason; tick = tick; turn = turn }) e
one_still last false can s tick turn x e = e

first_new : (last : ℕ) (o : Option Fired) (n : Fired) → n.turn ≤ last → (fired_by last o ≡ true) ⊎ (o ≡ None) → fired_by last (Some (first_fired o n)) ≡ true
first_new last None n low k = is_le n.turn last low
first_new last (Some f) n low (inl e) = e
first_new last (Some f) n low (inr e) = cc

one_new : (last : ℕ) (here can : Bool) (s : TrigState) (tick turn : ℕ) (x : Seen) → here ≡ true → can ≡ false → turn ≤ last → (fired_by last x.fired ≡ true) ⊎ (x.fired ≡ None) → fired_by last (behind here can s tick turn x).fired ≡ true
one_new last true false s tick turn x e f low k = first_new last x.fired (record { reason = s.reason; tick = tick; turn = turn }) low k
one_new last true true s tick turn x e f low k = cc
one_new last false can s tick turn x e f low k = cc

one_known : (last : ℕ) (here can : Bool) (s : TrigState) (tick turn : ℕ) (x : Seen) → (here ≡ true → can ≡ false → turn ≤ last) → (fired_by last x.fired ≡ true) ⊎ (x.fired ≡ None)
    → (fired_by last (behind here can s tick turn x).fired ≡ true) ⊎ ((behind here can s tick turn x).fired ≡ None)
one_known last true true s tick turn x low k = k
one_known last true false s tick turn x low k = inl (first_new last x.fired (record { reason = s.reason; tick = tick; turn = turn }) (low refl refl) k)
one_known last false can s tick turn x low k = k

-- all members
all_still : (b last board tick turn : ℕ) (s : TrigState) (xs : List Seen) → FiredOn b last xs → FiredOn b last (map (hears_from board s tick turn) xs)
all_still b last board tick turn s [] k = tt
all_still b last board tick turn s (x ∷ xs) k =
    ((λ is. one_still last (x.member.board == board) s.can s tick turn x (k.0 (sym (same_board (x.member.board == board) s.can s tick turn x) ∙ is))), all_still b last board tick turn s xs k.1)

all_new : (last board tick turn : ℕ) (s : TrigState) (xs : List Seen) → s.can ≡ false → turn ≤ last → KnownOn board last xs → FiredOn board last (map (hears_from board s tick turn) xs)
all_new last board tick turn s [] can low k = tt
all_new last board tick turn s (x ∷ xs) can low k =
    let here = x.member.board == board in (
      (λ is. (let at : x.member.board ≡ board = sym (same_board here s.can s tick turn x) ∙ is in one_new last here s.can s tick turn x (is_equal x.member.board board at) can low (k.0 at))),
      all_new last board tick turn s xs can low k.1,
    )

all_known : (b last board tick turn : ℕ) (s : TrigState) (xs : List Seen) → (board ≡ b → s.can ≡ false → turn ≤ last) → KnownOn b last xs → KnownOn b last (map (hears_from board s tick turn) xs)
all_known b last board tick turn s [] low k = tt
all_known b last board tick turn s (x ∷ xs) low k =
    let here = x.member.board == board in (
      (λ is. (
          let at : x.member.board ≡ b = sym (same_board here s.can s tick turn x) ∙ is in
          one_known last here s.can s tick turn x (λ e f. low (sym (was_equal x.member.board board e) ∙ at) f) (k.0 at))),
      all_known b last board tick turn s xs low k.1,
    )

-- a report, and an answer
record Fires (start b last : ℕ) (g : GroupState) : Type 0 where
  is : g.start ≡ start
  on : FiredOn b last g.members

record Knows (start b last : ℕ) (g : GroupState) : Type 0 where
  is : g.start ≡ start
  on : KnownOn b last g.members

came_still : (start b last board tick turn : ℕ) (s : TrigState) (g : GroupState) → Fires start b last g → Fires start b last (came board s tick turn g)
came_still start b last board tick turn s g k = search (rules, nat_lt, all_still)

came_known : (start b last board tick turn : ℕ) (s : TrigState) (g : GroupState) → (board ≡ b → s.can ≡ false → turn ≤ last) → Knows start b last g → Knows start b last (came board s tick turn g)
came_known start b last board tick turn s g low k = search (rules, nat_lt, all_known)

came_new : (start last board tick turn : ℕ) (s : TrigState) (g : GroupState) → s.can ≡ false → start ≤ turn → turn ≤ last → Knows start board last g → Fires start board last (came board s tick turn g)
came_new start last board tick turn s g can from low k = search (rules, leb_tells, all_new)

at_still : (start b last board tick : ℕ) (s : TrigState) (o : Option ℕ) (g : GroupState) → Fires start b last g → Fires start b last (came_at board s tick o g)
at_still start b last board tick s None g k = k
at_still start b last board tick s (Some turn) g k = came_still start b last board tick turn s g k

at_known : (start b last board tick : ℕ) (s : TrigState) (o : Option ℕ) (g : GroupState) → ((when : ℕ) → o ≡ Some when → board ≡ b → s.can ≡ false → when ≤ last) → Knows start b last g → Knows start b last (came_at board s tick o g)
at_known start b last board tick s None g low k = k
at_known start b last board tick s (Some turn) g low k = came_known start b last board tick turn s g (low turn refl) k

at_new : (start last board tick when : ℕ) (s : TrigState) (o : Option ℕ) (g : GroupState) → o ≡ Some when → s.can ≡ false → start ≤ when → when ≤ last → Knows start board last g → Fires start board last (came_at board s tick o g)
at_new start last board tick when s None g e can from low k = cc
at_new start last board tick when s (Some turn) g e can from low k = let same : turn ≡ when = cc in came_new start last board tick turn s g can (omega (arith, same, from)) (omega (arith, same, low)) k

pub no_can : (can : ℕ) → not (can == 0) ≡ false → can ≡ 0
no_can can e = elim (eqb_tells can 0) [ inl p ↦ p.1 | inr p ↦ absurd (let bad : not (can == 0) ≡ true = ap not p.0 in let worse : true ≡ false = sym bad ∙ e in cc) ]

can_no : (can : ℕ) → can ≡ 0 → not (can == 0) ≡ false
can_no can e = ap (λ (n : ℕ). not (n == 0)) e

answer_still : (start b last board turn : ℕ) (clocks : Clocks) (c : Cmd) (g : GroupState) → Fires start b last g → Fires start b last (hears_answer clocks board turn c g)
answer_still start b last board turn clocks (cmd.TrsyncState oid can reason clock) g k =
    let at = nearest (turn_tick clocks turn) clock in
    at_still start b last board at (record { can = not (can == 0); reason = reason; clock = clock }) (turn_in_run clocks at) g k
answer_still start b last board turn clocks c g k = k

answer_known : (start b last board turn : ℕ) (clocks : Clocks) (c : Cmd) (g : GroupState) → (board ≡ b → IsFiredIn clocks turn start last c) → Knows start b last g → Knows start b last (hears_answer clocks board turn c g)
answer_known start b last board turn clocks (cmd.TrsyncState oid can reason clock) g low k =
    let at = nearest (turn_tick clocks turn) clock in
    at_known start b last board at (record { can = not (can == 0); reason = reason; clock = clock }) (turn_in_run clocks at) g
    (λ when is here off. (let x = low here (no_can can off) in let same = same_when (turn_in_run clocks at) when x.0 is x.3 in let l = x.2 in omega (arith, same, l))) k
answer_known start b last board turn clocks c g low k = k

answer_new : (start last board turn : ℕ) (clocks : Clocks) (c : Cmd) (g : GroupState) → IsFiredIn clocks turn start last c → IsFired c → Knows start board last g → Fires start board last (hears_answer clocks board turn c g)
answer_new start last board turn clocks (cmd.TrsyncState oid can reason clock) g in_it off k =
    let at = nearest (turn_tick clocks turn) clock in
    let x = in_it off in
    at_new start last board at x.0 (record { can = not (can == 0); reason = reason; clock = clock }) (turn_in_run clocks at) g x.3 (can_no can off) x.1 x.2 k
answer_new start last board turn clocks c g in_it off k = absurd off

-- the news of a state
news_still : (start b last board turn : ℕ) (clocks : Clocks) (ns : List News) (g : GroupState) → Fires start b last g → Fires start b last (hears_news clocks board turn ns g)
news_still start b last board turn clocks [] g k = k
news_still start b last board turn clocks (n ∷ ns) g k = news_still start b last board turn clocks ns (hears_answer clocks board turn n.answer g) (answer_still start b last board turn clocks n.answer g k)

news_known : (start b last board turn : ℕ) (clocks : Clocks) (ns : List News) (g : GroupState) → (board ≡ b → AllFiredIn clocks turn start last ns) → Knows start b last g → Knows start b last (hears_news clocks board turn ns g)
news_known start b last board turn clocks [] g all k = k
news_known start b last board turn clocks (n ∷ ns) g all k =
    news_known start b last board turn clocks ns (hears_answer clocks board turn n.answer g) (λ here. (all here).1) (answer_known start b last board turn clocks n.answer g (λ here. (all here).0) k)

news_new : (start last board turn : ℕ) (clocks : Clocks) (ns : List News) (g : GroupState) → AllFiredIn clocks turn start last ns → SayFired ns → Knows start board last g → Fires start board last (hears_news clocks board turn ns g)
news_new start last board turn clocks [] g all t k = absurd t
news_new start last board turn clocks (n ∷ ns) g all (inl off) k =
    news_still start board last board turn clocks ns (hears_answer clocks board turn n.answer g) (answer_new start last board turn clocks n.answer g all.0 off k)
news_new start last board turn clocks (n ∷ ns) g all (inr t) k =
    news_new start last board turn clocks ns (hears_answer clocks board turn n.answer g) all.1 t (answer_known start board last board turn clocks n.answer g (λ here. all.0) k)

state_still : (start b last board from : ℕ) (clocks : Clocks) (s : State) (g : GroupState) → Fires start b last g → Fires start b last (hears_state clocks board from s g)
state_still start b last board from clocks s g k = by (nat_le from (s.turn + 1))
  where
    by : (c : Bool) → Fires start b last (cond c (hears_news clocks board s.turn s.news g) g)
    by true = news_still start b last board s.turn clocks s.news g k
    by false = k

state_known : (start b last board from : ℕ) (clocks : Clocks) (s : State) (g : GroupState) → (board ≡ b → from ≤ s.turn + 1 → AllFiredIn clocks s.turn start last s.news) → Knows start b last g → Knows start b last (hears_state clocks board from s g)
state_known start b last board from clocks s g all k = elim (leb_tells from (s.turn + 1)) [
  | inl p ↦
      let At : Bool → Type 0 = λ c. Knows start b last (cond c (hears_news clocks board s.turn s.news g) g) in
      subst At (sym p.0) (news_known start b last board s.turn clocks s.news g (λ here. all here p.1) k)
  | inr p ↦ let At : Bool → Type 0 = λ c. Knows start b last (cond c (hears_news clocks board s.turn s.news g) g) in subst At (sym p.0) k
]

state_new : (start last board from : ℕ) (clocks : Clocks) (s : State) (g : GroupState) → from ≤ s.turn + 1 → AllFiredIn clocks s.turn start last s.news → SayFired s.news → Knows start board last g → Fires start board last (hears_state clocks board from s g)
state_new start last board from clocks s g late all t k = search (rules, leb_tells, news_new)

-- the states of all boards
states_still : (start b last board from : ℕ) (clocks : List Clocks) (states : List State) (g : GroupState) → Fires start b last g → Fires start b last (hears_states clocks board from states g)
states_still start b last board from [] states g k = k
states_still start b last board from (c ∷ clocks) [] g k = k
states_still start b last board from (c ∷ clocks) (s ∷ states) g k = states_still start b last (board + 1) from clocks states (hears_state c board from s g) (state_still start b last board from c s g k)

states_over : (start b last board from : ℕ) (clocks : List Clocks) (states : List State) (g : GroupState) → b < board → Knows start b last g → Knows start b last (hears_states clocks board from states g)
states_over start b last board from [] states g far k = k
states_over start b last board from (c ∷ clocks) [] g far k = k
states_over start b last board from (c ∷ clocks) (s ∷ states) g far k =
    states_over start b last (board + 1) from clocks states (hears_state c board from s g) (omega (arith, far)) (state_known start b last board from c s g (λ here late. absurd (omega (arith, here, far))) k)

states_known : (d start b last board from : ℕ) (clocks : List Clocks) (states : List State) (g : GroupState) → board + d ≡ b
    → ((s : State) → state_at d states ≡ s ∷ [] → from ≤ s.turn + 1 → AllFiredIn (clocks_at clocks d) s.turn start last s.news) → Knows start b last g → Knows start b last (hears_states clocks board from states g)
states_known d start b last board from [] states g e all k = k
states_known d start b last board from (c ∷ clocks) [] g e all k = k
states_known zero start b last board from (c ∷ clocks) (s ∷ states) g e all k =
    states_over start b last (board + 1) from clocks states (hears_state c board from s g) (omega (arith, e)) (state_known start b last board from c s g (λ here late. all s refl late) k)
states_known (suc d) start b last board from (c ∷ clocks) (s ∷ states) g e all k =
    states_known d start b last (board + 1) from clocks states (hears_state c board from s g) (omega (arith, e)) (λ x is late. all x is late) (state_known start b last board from c s g (λ here late. absurd (omega (arith, here, e))) k)

states_new : (d start b last board from : ℕ) (clocks : List Clocks) (states : List State) (s : State) (g : GroupState) → board + d ≡ b → d < length clocks → state_at d states ≡ s ∷ [] → from ≤ s.turn + 1 → AllFiredIn (clocks_at clocks d) s.turn start last s.news
    → SayFired s.news → Knows start b last g → Fires start b last (hears_states clocks board from states g)
states_new d start b last board from [] states s g e few at late all t k = absurd (omega (arith, few))
states_new d start b last board from (c ∷ clocks) [] s g e few at late all t k = absurd (cc)
states_new zero start b last board from (c ∷ clocks) (x ∷ states) s g e few at late all t k =
    let same : s ≡ x = cc in
    let place : b ≡ board = omega (arith, e) in
    let Of : State → Type 0 = λ y. (from ≤ y.turn + 1) × AllFiredIn c y.turn start last y.news × SayFired y.news in
    let h = subst Of same (late, all, t) in
    let At : ℕ → Type 0 = λ n. Fires start n last (hears_state c board from x g) in
    let K : ℕ → Type 0 = λ n. Knows start n last g in
    states_still start b last (board + 1) from clocks states (hears_state c board from x g) (subst At (sym place) (state_new start last board from c x g h.0 h.1 h.2 (subst K place k)))
states_new (suc d) start b last board from (c ∷ clocks) (x ∷ states) s g e few at late all t k =
    states_new d start b last (board + 1) from clocks states s (hears_state c board from x g) (omega (arith, e)) (omega (arith, few)) at late all t
    (state_known start b last board from c x g (λ here soon. absurd (omega (arith, here, e))) k)

pub hears_fired : (b last : ℕ) (clocks : List Clocks) (states : List State) (s : State) (h : Homing) → b < length clocks → state_at b states ≡ s ∷ [] → h.start ≤ s.turn + 1 → AllFiredIn (clocks_at clocks b) s.turn h.group.start last s.news → SayFired s.news
    → KnownOn b last h.group.members → FiredOn b last (hears_all clocks states h).group.members
hears_fired b last clocks states s h few at late all t k =
    let was : Knows h.group.start b last h.group = record { is = refl; on = k } in
    (states_new b h.group.start b last 0 h.start clocks states s h.group (omega arith) few at late all t was).on

pub hears_known : (b last : ℕ) (clocks : List Clocks) (states : List State) (h : Homing) → ((s : State) → state_at b states ≡ s ∷ [] → h.start ≤ s.turn + 1 → AllFiredIn (clocks_at clocks b) s.turn h.group.start last s.news) → KnownOn b last h.group.members
    → KnownOn b last (hears_all clocks states h).group.members
hears_known b last clocks states h all k =
    let was : Knows h.group.start b last h.group = record { is = refl; on = k } in
    (states_known b h.group.start b last 0 h.start clocks states h.group (omega arith) all was).on

pub hears_still : (b last : ℕ) (clocks : List Clocks) (states : List State) (h : Homing) → FiredOn b last h.group.members → FiredOn b last (hears_all clocks states h).group.members
hears_still b last clocks states h k =
    let was : Fires h.group.start b last h.group = record { is = refl; on = k } in
    (states_still h.group.start b last 0 h.start clocks states h.group was).on

-- where no answer tells of a trigger that it can't trigger, nothing is known still
one_none : (here can : Bool) (s : TrigState) (tick turn : ℕ) (x : Seen) → (here ≡ true → can ≡ true) → x.fired ≡ None → (behind here can s tick turn x).fired ≡ None
one_none true true s tick turn x low k = k
one_none true false s tick turn x low k = absurd (let bad : false ≡ true = low refl in cc)
one_none false can s tick turn x low k = k

all_none : (b board tick turn : ℕ) (s : TrigState) (xs : List Seen) → (board ≡ b → s.can ≡ true) → NoneOn b xs → NoneOn b (map (hears_from board s tick turn) xs)
all_none b board tick turn s [] low k = tt
all_none b board tick turn s (x ∷ xs) low k =
    let here = x.member.board == board in (
      (λ is. (let at : x.member.board ≡ b = sym (same_board here s.can s tick turn x) ∙ is in one_none here s.can s tick turn x (λ e. low (sym (was_equal x.member.board board e) ∙ at)) (k.0 at))),
      all_none b board tick turn s xs low k.1,
    )

came_none : (b board tick turn : ℕ) (s : TrigState) (g : GroupState) → (board ≡ b → s.can ≡ true) → NoneOn b g.members → NoneOn b (came board s tick turn g).members
came_none b board tick turn s g low k = search (rules, nat_lt, all_none)

at_none : (b board tick : ℕ) (s : TrigState) (o : Option ℕ) (g : GroupState) → (board ≡ b → s.can ≡ true) → NoneOn b g.members → NoneOn b (came_at board s tick o g).members
at_none b board tick s None g low k = k
at_none b board tick s (Some turn) g low k = came_none b board tick turn s g low k

answer_none : (b board turn : ℕ) (clocks : Clocks) (c : Cmd) (g : GroupState) → (board ≡ b → IsFired c → ⊥) → NoneOn b g.members → NoneOn b (hears_answer clocks board turn c g).members
answer_none b board turn clocks (cmd.TrsyncState oid can reason clock) g low k =
    let at = nearest (turn_tick clocks turn) clock in
    at_none b board at (record { can = not (can == 0); reason = reason; clock = clock }) (turn_in_run clocks at) g (λ here. can_so can (λ off. low here off)) k
answer_none b board turn clocks c g low k = k

news_none : (b board turn : ℕ) (clocks : Clocks) (ns : List News) (g : GroupState) → (board ≡ b → FiringNone ns) → NoneOn b g.members → NoneOn b (hears_news clocks board turn ns g).members
news_none b board turn clocks [] g low k = k
news_none b board turn clocks (n ∷ ns) g low k = news_none b board turn clocks ns (hears_answer clocks board turn n.answer g) (λ here. (low here).1) (answer_none b board turn clocks n.answer g (λ here off. (low here).0 off) k)

state_none : (b board from : ℕ) (clocks : Clocks) (s : State) (g : GroupState) → (board ≡ b → FiringNone s.news) → NoneOn b g.members → NoneOn b (hears_state clocks board from s g).members
state_none b board from clocks s g low k = by (nat_le from (s.turn + 1))
  where
    by : (c : Bool) → NoneOn b (cond c (hears_news clocks board s.turn s.news g) g).members
    by true = news_none b board s.turn clocks s.news g low k
    by false = k

states_none : (d b board from : ℕ) (clocks : List Clocks) (states : List State) (g : GroupState) → board + d ≡ b → ((s : State) → state_at d states ≡ s ∷ [] → FiringNone s.news) → NoneOn b g.members → NoneOn b (hears_states clocks board from states g).members
states_none d b board from [] states g e low k = k
states_none d b board from (c ∷ clocks) [] g e low k = k
states_none zero b board from (c ∷ clocks) (s ∷ states) g e low k = over (board + 1) clocks states (hears_state c board from s g) (omega (arith, e)) (state_none b board from c s g (λ here. low s refl) k)
  where
    over : (at : ℕ) (cs : List Clocks) (ss : List State) (i : GroupState) → b < at → NoneOn b i.members → NoneOn b (hears_states cs at from ss i).members
    over at [] ss i far l = l
    over at (c ∷ cs) [] i far l = l
    over at (c ∷ cs) (s ∷ ss) i far l = over (at + 1) cs ss (hears_state c at from s i) (omega (arith, far)) (state_none b at from c s i (λ here. absurd (omega (arith, here, far))) l)
states_none (suc d) b board from (c ∷ clocks) (s ∷ states) g e low k =
    states_none d b (board + 1) from clocks states (hears_state c board from s g) (omega (arith, e)) (λ x is. low x is) (state_none b board from c s g (λ here. absurd (omega (arith, here, e))) k)

pub hears_none : (b : ℕ) (clocks : List Clocks) (states : List State) (h : Homing) → ((s : State) → state_at b states ≡ s ∷ [] → FiringNone s.news) → NoneOn b h.group.members → NoneOn b (hears_all clocks states h).group.members
hears_none b clocks states h low k = states_none b b 0 h.start clocks states h.group (omega arith) low k

pub none_known : (b last : ℕ) (xs : List Seen) → NoneOn b xs → KnownOn b last xs
none_known b last [] k = tt
none_known b last (x ∷ xs) k = (λ on. inr (k.0 on), none_known b last xs k.1)
