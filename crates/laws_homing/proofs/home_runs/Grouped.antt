-- A homing group answers only once each of its boards has told that its trigger can't trigger.
use Rattle.std.proofs.Common.{◌≡◌, ℕ, zero, suc, ◌+◌, ◌<◌, ◌≤◌, ◌==◌, inl, inr, Bool, true, false, cond, not, List, [], ◌∷◌, length, map, Option, Some, None, refl, ap, sym, ◌∙◌, subst, arith, rules}
use Rattle.laws_board.proofs.Names.{eqb-true, leb_tells, Level, Machine, SectionKind, Moves, Home, nearest, clock_of, Clocks, axis_at, board_at, turn_in_run, turn_tick, Cmd, News, Note, NoteNews, State, Entry, Switch, first_state, End, Member, Goes, Rests, Sends, Fired, Seen, GroupState, all_fired, phase, unseen, Homing, answer_in, goes_on_homing, hears_all, homing_after, members_from, members_of, Known, noted, known_behind, told_all, Reacted, Came, known_by, state_at, both_parts, states-kept}
use Rattle.std.specs.Prelude.{nat_le, nat_lt}
use Rattle.plan_types.specs.declared.plan.TrigState.{TrigState}
use Rattle.msg_code.specs.declared.cmd.Cmd.TheVariants as cmd
use Rattle.msg_code.specs.declared.talk.NoteNews.TheVariants as news
use Rattle.trigger_group.specs.declared.round.Phase.{Phase}
use Rattle.trigger_group.specs.Group.{after_in, answer, came, ended, first_fired, has_fired, hears_from, later, new_group}
use Rattle.trigger_group.specs.Kept.{may_be}
use Rattle.axis_homing.specs.Homing.{came_at, hears_answer, hears_news, hears_state, hears_states, homing_of, homing_with}
use Rattle.laws_board.specs.turns.Turns.{AreBoardTurns, BoardTurn, latest_state}
use Rattle.laws_board.specs.clocks.Runs.{IsInRun}
use Rattle.laws_board.proofs.clocks.Lines.{run_before}
use Rattle.laws_board.proofs.clocks.Turning.{goes}
use Rattle.laws_homing.specs.home_runs.Told.{IsMember, TellFiredFrom}
use Rattle.laws_homing.specs.home_runs.Windows.{IsFired, SayFired}
use Rattle.plan_types.proofs.Facts.{was_le}
use Rattle.axis_homing.proofs.Rises.{members-kept, either-members, at-kept, answer-kept, news-kept, either-group}

-- of a board's members each that was heard to have triggered has told so
abbrev pub SeenSo : ℕ → Type 0 → List Seen → Type 0
SeenSo b P [] = Unit {0}
SeenSo b P (x ∷ xs) = ((f : Fired) → x.member.board ≡ b → x.fired ≡ Some f → P) × SeenSo b P xs

seen_more : (b : ℕ) (P Q : Type 0) (xs : List Seen) → (P → Q) → SeenSo b P xs → SeenSo b Q xs
seen_more b P Q [] f k = tt
seen_more b P Q (x ∷ xs) f k = (λ g is fired. f (k.0 g is fired), seen_more b P Q xs f k.1)

seen_none : (b : ℕ) (P : Type 0) (ms : List Member) → SeenSo b P (map unseen ms)
seen_none b P [] = tt
seen_none b P (m ∷ ms) = (λ f is fired. absurd (cc), seen_none b P ms)

-- a report comes
one_heard : (here can : Bool) (b board : ℕ) (P : Type 0) (s : TrigState) (tick turn : ℕ) (x : Seen) → (x.member.board == board) ≡ here → s.can ≡ can → ((f : Fired) → x.member.board ≡ b → x.fired ≡ Some f → P)
    → (board ≡ b → s.can ≡ false → P) → (f : Fired)
    → (cond here (cond can (record x { heard = Some (later x.heard turn) }) (record x { fired = Some (first_fired x.fired (record { reason = s.reason; tick = tick; turn = turn })) })) x).member.board ≡ b
    → (cond here (cond can (record x { heard = Some (later x.heard turn) }) (record x { fired = Some (first_fired x.fired (record { reason = s.reason; tick = tick; turn = turn })) })) x).fired ≡ Some f → P
one_heard true true b board P s tick turn x e c k new f is fired = k f is fired
one_heard true false b board P s tick turn x e c k new f is fired = new (sym (eqb-true x.member.board board e) ∙ is) c
one_heard false can b board P s tick turn x e c k new f is fired = k f is fired

seen_heard : (b board : ℕ) (P : Type 0) (s : TrigState) (tick turn : ℕ) (xs : List Seen) → SeenSo b P xs → (board ≡ b → s.can ≡ false → P) → SeenSo b P (map (hears_from board s tick turn) xs)
seen_heard b board P s tick turn [] k new = tt
seen_heard b board P s tick turn (x ∷ xs) k new = (one_heard (x.member.board == board) s.can b board P s tick turn x refl refl k.0 new, seen_heard b board P s tick turn xs k.1 new)

seen_either : (c : Bool) (b : ℕ) (P : Type 0) (xs ys : List Seen) → SeenSo b P xs → SeenSo b P ys → SeenSo b P (cond c xs ys)
seen_either true b P xs ys k l = k
seen_either false b P xs ys k l = l

abbrev GroupSo : ℕ → Type 0 → GroupState → Type 0
GroupSo b P g = SeenSo b P g.members

group_came : (b board : ℕ) (P : Type 0) (s : TrigState) (tick turn : ℕ) (g : GroupState) → GroupSo b P g → (board ≡ b → s.can ≡ false → P) → GroupSo b P (came board s tick turn g)
group_came b board P s tick turn g k new =
    seen_either (nat_lt turn g.start) b P g.members (map (hears_from board s tick turn) g.members) k (seen_heard b board P s tick turn g.members k new)

group_at : (b board : ℕ) (P : Type 0) (s : TrigState) (tick : ℕ) (o : Option ℕ) (g : GroupState) → GroupSo b P g → (board ≡ b → s.can ≡ false → P) → GroupSo b P (came_at board s tick o g)
group_at b board P s tick None g k new = k
group_at b board P s tick (Some turn) g k new = group_came b board P s tick turn g k new

pub no_test : (b : Bool) → not b ≡ false → b ≡ true
no_test true e = refl
no_test false e = cc

group_answer : (b board turn : ℕ) (P : Type 0) (clocks : Clocks) (c : Cmd) (g : GroupState) → GroupSo b P g → (board ≡ b → IsFired c → P) → GroupSo b P (hears_answer clocks board turn c g)
group_answer b board turn P clocks (cmd.TrsyncState oid can reason clock) g k new =
    let s : TrigState = record { can = not (can == 0); reason = reason; clock = clock } in
    let at = nearest (turn_tick clocks turn) clock in
    group_at b board P s at (turn_in_run clocks at) g k (λ same fell. new same (eqb-true can 0 (no_test (can == 0) fell)))
group_answer b board turn P clocks c g k new = k

group_news : (b board turn : ℕ) (P : Type 0) (clocks : Clocks) (ns : List News) (g : GroupState) → GroupSo b P g → (board ≡ b → SayFired ns → P) → GroupSo b P (hears_news clocks board turn ns g)
group_news b board turn P clocks [] g k new = k
group_news b board turn P clocks (n ∷ ns) g k new =
    group_news b board turn P clocks ns (hears_answer clocks board turn n.answer g) (group_answer b board turn P clocks n.answer g k (λ same f. new same (inl f))) (λ same t. new same (inr t))

group_if : (c : Bool) (b : ℕ) (P : Type 0) (x g : GroupState) → (c ≡ true → GroupSo b P x) → GroupSo b P g → GroupSo b P (cond c x g)
group_if true b P x g k l = k refl
group_if false b P x g k l = l

group_state : (b board start : ℕ) (P : Type 0) (clocks : Clocks) (s : State) (g : GroupState) → GroupSo b P g → (board ≡ b → start ≤ s.turn + 1 → SayFired s.news → P) → GroupSo b P (hears_state clocks board start s g)
group_state b board start P clocks s g k new =
    group_if (nat_le start (s.turn + 1)) b P (hears_news clocks board s.turn s.news g) g
    (λ e. group_news b board s.turn P clocks s.news g k (λ same t. new same (was_le start (s.turn + 1) e) t)) k

group_over : (b board start : ℕ) (P : Type 0) (clocks : List Clocks) (states : List State) (g : GroupState) → b < board → GroupSo b P g → GroupSo b P (hears_states clocks board start states g)
group_over b board start P [] states g l k = k
group_over b board start P (c ∷ clocks) [] g l k = k
group_over b board start P (c ∷ clocks) (s ∷ states) g l k =
    group_over b (board + 1) start P clocks states (hears_state c board start s g) (omega (arith, l)) (group_state b board start P c s g k (λ same late t. absurd (omega (arith, l, same))))

group_states : (d b board start : ℕ) (P : Type 0) (clocks : List Clocks) (states : List State) (g : GroupState) → board + d ≡ b → GroupSo b P g
    → ((s : State) → state_at d states ≡ s ∷ [] → start ≤ s.turn + 1 → SayFired s.news → P) → GroupSo b P (hears_states clocks board start states g)
group_states d b board start P [] states g e k new = k
group_states d b board start P (c ∷ clocks) [] g e k new = k
group_states zero b board start P (c ∷ clocks) (s ∷ states) g e k new =
    group_over b (board + 1) start P clocks states (hears_state c board start s g) (omega (arith, e)) (group_state b board start P c s g k (λ same late t. new s refl late t))
group_states (suc d) b board start P (c ∷ clocks) (s ∷ states) g e k new =
    group_states d b (board + 1) start P clocks states (hears_state c board start s g) (omega (arith, e)) (group_state b board start P c s g k (λ same late t. absurd (omega (arith, e, same)))) new

-- nor does a turn
group_either : (c : Bool) (b : ℕ) (P : Type 0) (x g : GroupState) → GroupSo b P x → GroupSo b P g → GroupSo b P (cond c x g)
group_either true b P x g k l = k
group_either false b P x g k l = l

group_in : (p : Phase) (b turn : ℕ) (P : Type 0) (g : GroupState) → GroupSo b P g → GroupSo b P (after_in p g turn)
group_in Goes b turn P g k = group_either (all_fired g.members) b P g _ k k
group_in c b turn P g k = k

-- the homing section that is known
abbrev pub HomingSo : ℕ → List BoardTurn → Option Homing → Type 0
HomingSo b turns None = Unit {0}
HomingSo b turns (Some h) = SeenSo b (TellFiredFrom h.start turns) h.group.members

homing_more : (b : ℕ) (t : BoardTurn) (turns : List BoardTurn) (o : Option Homing) → HomingSo b turns o → HomingSo b (t ∷ turns) o
homing_more b t turns None k = tt
homing_more b t turns (Some h) k = seen_more b (TellFiredFrom h.start turns) (TellFiredFrom h.start (t ∷ turns)) h.group.members (λ x. inr x) k

-- a section is begun
begun_if : (c : Bool) (b section axis turn start last : ℕ) (turns : List BoardTurn) (ms : List Member) → HomingSo b turns (homing_with section axis turn (cond c (Some (new_group ms start last)) None))
begun_if true b section axis turn start last turns ms = seen_none b (TellFiredFrom turn turns) ms
begun_if false b section axis turn start last turns ms = tt

begun_so : (m : Machine) (b section : ℕ) (kind : SectionKind) (turn last moving : ℕ) (turns : List BoardTurn) → HomingSo b turns (homing_of m section kind turn last moving)
begun_so m b section Moves turn last moving turns = tt
begun_so m b section (Home axis) turn last moving turns =
    let ms = members_from m (axis_at m axis) moving 0 m.boards in
    begun_if (may_be (map unseen ms) turn last) b section axis turn turn last turns ms

told_so : (m : Machine) (b : ℕ) (turns : List BoardTurn) (r : Known) (n : NoteNews) → HomingSo b turns r.homing → HomingSo b turns (known_behind m r n).homing
told_so m b turns r (news.Start section kind turn last moving) k = begun_so m b section kind turn last moving turns
told_so m b turns r c k = k

all_told_so : (m : Machine) (b : ℕ) (turns : List BoardTurn) (ns : List NoteNews) (r : Known) → HomingSo b turns r.homing → HomingSo b turns (told_all m ns r).homing
all_told_so m b turns [] r k = k
all_told_so m b turns (n ∷ ns) r k = all_told_so m b turns ns (known_behind m r n) (told_so m b turns r n k)

noted_so : (m : Machine) (b : ℕ) (turns : List BoardTurn) (note : Option Note) (r : Known) → HomingSo b turns r.homing → HomingSo b turns (noted m note r).homing
noted_so m b turns None r k = k
noted_so m b turns (Some note) r k = all_told_so m b turns note.news r k

-- the states come
pub sole_state : (s t : State) → t ∷ [] ≡ s ∷ [] → t ≡ s
sole_state s t e = cc

told_from : (b start : ℕ) (m : Machine) (pins : List (List Level)) (entries : List Entry) (turns : List BoardTurn) (s : State) → AreBoardTurns (clock_of (board_at m b)) (first_state (board_at m b) pins b entries) turns
    → latest_state turns ≡ s ∷ [] → start ≤ s.turn + 1 → SayFired s.news → TellFiredFrom start turns
told_from b start m pins entries turns s p7 p8 p9 p10 = search (rules, sole_state)

pub heard_so : (m : Machine) (pins : List (List Level)) (entries : List Entry) (b : ℕ) (turns : List BoardTurn) (clocks : List Clocks) (states : List State) (h : Homing)
    → AreBoardTurns (clock_of (board_at m b)) (first_state (board_at m b) pins b entries) turns → state_at b states ≡ latest_state turns
    → SeenSo b (TellFiredFrom h.start turns) h.group.members → SeenSo b (TellFiredFrom h.start turns) (hears_all clocks states h).group.members
heard_so m pins entries b turns clocks states h are at k =
    group_states b b 0 h.start (TellFiredFrom h.start turns) clocks states h.group (omega arith) k (λ s is late t. told_from b h.start m pins entries turns s are (sym at ∙ is) late t)

goes_so : (b k : ℕ) (turns : List BoardTurn) (h : Homing) (o : Option End) → SeenSo b (TellFiredFrom h.start turns) h.group.members → HomingSo b turns (goes_on_homing k h o)
goes_so b k turns h None s = group_in (phase h.group.start h.group.last k) b k (TellFiredFrom h.start turns) h.group s
goes_so b k turns h (Some end) s = tt

after_so : (m : Machine) (pins : List (List Level)) (entries : List Entry) (b k : ℕ) (turns : List BoardTurn) (clocks : List Clocks) (states : List State) (o : Option Homing)
    → AreBoardTurns (clock_of (board_at m b)) (first_state (board_at m b) pins b entries) turns → state_at b states ≡ latest_state turns → HomingSo b turns o → HomingSo b turns (homing_after clocks k states o)
after_so m pins entries b k turns clocks states None are at s = tt
after_so m pins entries b k turns clocks states (Some h) are at s =
    let g = hears_all clocks states h in
    goes_so b k turns g (answer_in k g.start g.group) (heard_so m pins entries b turns clocks states h are at s)

-- over turns
pub known_so : (m : Machine) (switches : List Switch) (pins : List (List Level)) (entries : List Entry) (b : ℕ) (came : List Came) (turns : List BoardTurn) → IsInRun m switches pins entries b came turns
    → HomingSo b turns (known_by m switches came).homing
known_so m switches pins entries b [] turns r = tt
known_so m switches pins entries b (c ∷ before) [] r = absurd r.both
known_so m switches pins entries b (c ∷ before) (t ∷ turns) r =
    let old = run_before m switches pins entries b c before t turns r in
    let known = known_by m switches before in
    let n = noted m c.note known in
    let was : HomingSo b turns n.homing = noted_so m b turns c.note known (known_so m switches pins entries b before turns old) in
    let So : Reacted → Type 0 = λ y. HomingSo b (t ∷ turns) y.known.homing in
    elim (goes m switches known (length before) c.states c.note r.goes_on.0) [
      | inl g ↦ subst So (sym g.is) (homing_more b t turns n.homing was)
      | inr later ↦ elim later [
        | inl g ↦ subst So (sym g.is) (homing_more b t turns n.homing was)
        | inr g ↦ subst So (sym g.is) (homing_more b t turns _ (after_so m pins entries b (length before) turns n.clocks c.states n.homing old.turns_are r.both.0 was))
      ]
    ]

-- each member was heard to have triggered
among_fired : (b : ℕ) (P : Type 0) (xs : List Seen) → all_fired xs ≡ true → IsMember b (map (λ (s : Seen). s.member) xs) → SeenSo b P xs → P
among_fired b P [] all is k = absurd is
among_fired b P (x ∷ xs) all (inl e) k = one x.fired refl (both_parts (has_fired x.fired) (all_fired xs) all).0
  where
    one : (o : Option Fired) → x.fired ≡ o → has_fired o ≡ true → P
    one None e h = cc
    one (Some f) same h = k.0 f e same
among_fired b P (x ∷ xs) all (inr is) k = among_fired b P xs (both_parts (has_fired x.fired) (all_fired xs) all).1 is k.1

ended_all : (c : Bool) (a e : End) → cond c (Some a) None ≡ Some e → c ≡ true
ended_all true a e h = refl
ended_all false a e h = cc

pub answered : (c : Bool) (g : GroupState) (e : End) → cond c (ended g) None ≡ Some e → all_fired g.members ≡ true
answered true g e h = ended_all (all_fired g.members) (answer g) e h
answered false g e h = cc

pub answered_told : (m : Machine) (switches : List Switch) (pins : List (List Level)) (entries : List Entry) (b : ℕ) (c : Came) (before : List Came) (turns : List BoardTurn) (h : Homing) (e : End)
    → IsInRun m switches pins entries b before turns → state_at b c.states ≡ latest_state turns → (noted m c.note (known_by m switches before)).homing ≡ Some h
    → answer_in (length before) h.start (hears_all (noted m c.note (known_by m switches before)).clocks c.states h).group ≡ Some e → IsMember b (members_of h.group) → TellFiredFrom h.start turns
answered_told m switches pins entries b c before turns h e r at is ends among =
    let n = noted m c.note (known_by m switches before) in
    let was : HomingSo b turns (Some h) = subst (λ (o : Option Homing). HomingSo b turns o) is (noted_so m b turns c.note (known_by m switches before) (known_so m switches pins entries b before turns r)) in
    let g = hears_all n.clocks c.states h in
    among_fired b (TellFiredFrom h.start turns) g.group.members (answered (nat_le h.start (length before)) g.group e ends)
    (subst (λ (l : List Member). IsMember b l) (sym (states-kept n.clocks 0 h.start c.states h.group)) among)
    (heard_so m pins entries b turns n.clocks c.states h r.turns_are at was)
