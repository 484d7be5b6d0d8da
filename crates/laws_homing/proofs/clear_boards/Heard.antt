-- A homing group answers that a board expired only where the board told so, at a tick of a turn that is not past the last one.
use Rattle.std.proofs.Common.{◌≡◌, ℕ, zero, suc, ◌+◌, ◌<◌, ◌≤◌, ◌==◌, inl, inr, Bool, true, false, cond, not, List, [], ◌∷◌, length, map, Option, Some, None, refl, ap, sym, ◌∙◌, subst, arith, rules}
use Rattle.laws_board.proofs.Names.{eqb-true, leb_tells, Machine, SectionKind, Moves, Home, nearest, Clocks, axis_at, turn_in_run, turn_tick, Cmd, News, Note, NoteNews, State, Switch, End, Member, Goes, Rests, Sends, Fired, Seen, GroupState, all_fired, phase, unseen, Homing, answer_in, goes_on_homing, hears_all, homing_after, members_from, Known, noted, known_behind, told_all, Reacted, Came, known_by, state_at, clocks_at, GoesOn, both_parts}
use Rattle.std.specs.Prelude.{◌&&◌, nat_le, nat_lt}
use Rattle.plan_types.specs.declared.plan.TrigState.{TrigState}
use Rattle.msg_code.specs.declared.cmd.Cmd.TheVariants as cmd
use Rattle.msg_code.specs.declared.talk.NoteNews.TheVariants as news
use Rattle.trigger_group.specs.declared.round.Phase.{Phase}
use Rattle.trigger_group.specs.Group.{after_in, answer, came, ended, first_fired, hears_from, later, new_group}
use Rattle.trigger_group.specs.Kept.{may_be}
use Rattle.axis_homing.specs.Homing.{came_at, hears_answer, hears_news, hears_state, hears_states, homing_of, homing_with}
use Rattle.laws_board.proofs.clocks.Turning.{goes}
use Rattle.trigger_group.specs.declared.order.End.TheVariants as end
use Rattle.trigger_group.specs.Group.{expired, first_expired, first_switched, or_else, or_none, switched}
use Rattle.laws_homing.specs.clear_boards.Expiry.{CameExpiry, IsExpiry, TellExpiry}
use Rattle.laws_homing.proofs.home_runs.Grouped.{no_test}
use Rattle.plan_types.proofs.Facts.{was_le}

-- each member of a board that was heard to have expired did so in a turn of which this holds
abbrev SeenSo : ℕ → (ℕ → Type 0) → List Seen → Type 0
SeenSo b P [] = Unit {0}
SeenSo b P (x ∷ xs) = ((f : Fired) → x.member.board ≡ b → x.fired ≡ Some f → f.reason ≡ 2 → P f.turn) × SeenSo b P xs

seen_more : (b : ℕ) (P Q : ℕ → Type 0) (xs : List Seen) → ((n : ℕ) → P n → Q n) → SeenSo b P xs → SeenSo b Q xs
seen_more b P Q [] f k = tt
seen_more b P Q (x ∷ xs) f k = (λ g is fired two. f g.turn (k.0 g is fired two), seen_more b P Q xs f k.1)

seen_none : (b : ℕ) (P : ℕ → Type 0) (ms : List Member) → SeenSo b P (map unseen ms)
seen_none b P [] = tt
seen_none b P (m ∷ ms) = (λ f is fired two. absurd (cc), seen_none b P ms)

-- a report comes
first_so : (P : ℕ → Type 0) (o : Option Fired) (n f : Fired) → ((g : Fired) → o ≡ Some g → g.reason ≡ 2 → P g.turn) → (n.reason ≡ 2 → P n.turn) → Some (first_fired o n) ≡ Some f → f.reason ≡ 2 → P f.turn
first_so P None n f k new e two = let same : n ≡ f = cc in let At : Fired → Type 0 = λ g. g.reason ≡ 2 → P g.turn in subst At same new two
first_so P (Some g) n f k new e two = k f e two

one_heard : (here can : Bool) (b board : ℕ) (P : ℕ → Type 0) (s : TrigState) (tick turn : ℕ) (x : Seen) → (x.member.board == board) ≡ here → s.can ≡ can
    → ((f : Fired) → x.member.board ≡ b → x.fired ≡ Some f → f.reason ≡ 2 → P f.turn)
    → (board ≡ b → s.can ≡ false → s.reason ≡ 2 → P turn) → (f : Fired)
    → (cond here (cond can (record x { heard = Some (later x.heard turn) }) (record x { fired = Some (first_fired x.fired (record { reason = s.reason; tick = tick; turn = turn })) })) x).member.board ≡ b
    → (cond here (cond can (record x { heard = Some (later x.heard turn) }) (record x { fired = Some (first_fired x.fired (record { reason = s.reason; tick = tick; turn = turn })) })) x).fired ≡ Some f → f.reason ≡ 2 → P f.turn
one_heard here can b board P s tick turn x p9 p10 p11 p12 f p14 p15 = search (rules, first_so, eqb-true)

seen_heard : (b board : ℕ) (P : ℕ → Type 0) (s : TrigState) (tick turn : ℕ) (xs : List Seen) → SeenSo b P xs → (board ≡ b → s.can ≡ false → s.reason ≡ 2 → P turn) → SeenSo b P (map (hears_from board s tick turn) xs)
seen_heard b board P s tick turn [] k new = tt
seen_heard b board P s tick turn (x ∷ xs) k new = (one_heard (x.member.board == board) s.can b board P s tick turn x refl refl k.0 new, seen_heard b board P s tick turn xs k.1 new)

seen_either : (c : Bool) (b : ℕ) (P : ℕ → Type 0) (xs ys : List Seen) → SeenSo b P xs → SeenSo b P ys → SeenSo b P (cond c xs ys)
seen_either true b P xs ys k l = k
seen_either false b P xs ys k l = l

abbrev GroupSo : ℕ → (ℕ → Type 0) → GroupState → Type 0
GroupSo b P g = SeenSo b P g.members

group_came : (b board : ℕ) (P : ℕ → Type 0) (s : TrigState) (tick turn : ℕ) (g : GroupState) → GroupSo b P g → (board ≡ b → s.can ≡ false → s.reason ≡ 2 → P turn) → GroupSo b P (came board s tick turn g)
group_came b board P s tick turn g k new =
    seen_either (nat_lt turn g.start) b P g.members (map (hears_from board s tick turn) g.members) k (seen_heard b board P s tick turn g.members k new)

group_at : (b board : ℕ) (P : ℕ → Type 0) (s : TrigState) (tick : ℕ) (o : Option ℕ) (g : GroupState) → GroupSo b P g → (board ≡ b → s.can ≡ false → s.reason ≡ 2 → (when : ℕ) → o ≡ Some when → P when)
    → GroupSo b P (came_at board s tick o g)
group_at b board P s tick None g k new = k
group_at b board P s tick (Some turn) g k new = group_came b board P s tick turn g k (λ same fell two. new same fell two turn refl)

group_answer : (b board turn : ℕ) (P : ℕ → Type 0) (clocks : Clocks) (c : Cmd) (g : GroupState) → GroupSo b P g → (board ≡ b → (when : ℕ) → IsExpiry clocks turn when c → P when) → GroupSo b P (hears_answer clocks board turn c g)
group_answer b board turn P clocks (cmd.TrsyncState oid can reason clock) g k new =
    let s : TrigState = record { can = not (can == 0); reason = reason; clock = clock } in
    let at = nearest (turn_tick clocks turn) clock in
    group_at b board P s at (turn_in_run clocks at) g k (λ same fell two when is. new same when (eqb-true can 0 (no_test (can == 0) fell), two, is))
group_answer b board turn P clocks c g k new = k

group_news : (b board turn : ℕ) (P : ℕ → Type 0) (clocks : Clocks) (ns : List News) (g : GroupState) → GroupSo b P g → (board ≡ b → (when : ℕ) → TellExpiry clocks turn when ns → P when) → GroupSo b P (hears_news clocks board turn ns g)
group_news b board turn P clocks [] g k new = k
group_news b board turn P clocks (n ∷ ns) g k new =
    group_news b board turn P clocks ns (hears_answer clocks board turn n.answer g) (group_answer b board turn P clocks n.answer g k (λ same when f. new same when (inl f))) (λ same when t. new same when (inr t))

group_if : (c : Bool) (b : ℕ) (P : ℕ → Type 0) (x g : GroupState) → (c ≡ true → GroupSo b P x) → GroupSo b P g → GroupSo b P (cond c x g)
group_if true b P x g k l = k refl
group_if false b P x g k l = l

group_state : (b board start : ℕ) (P : ℕ → Type 0) (clocks : Clocks) (s : State) (g : GroupState) → GroupSo b P g → (board ≡ b → start ≤ s.turn + 1 → (when : ℕ) → TellExpiry clocks s.turn when s.news → P when)
    → GroupSo b P (hears_state clocks board start s g)
group_state b board start P clocks s g k new =
    group_if (nat_le start (s.turn + 1)) b P (hears_news clocks board s.turn s.news g) g
    (λ e. group_news b board s.turn P clocks s.news g k (λ same when t. new same (was_le start (s.turn + 1) e) when t)) k

group_over : (b board start : ℕ) (P : ℕ → Type 0) (clocks : List Clocks) (states : List State) (g : GroupState) → b < board → GroupSo b P g → GroupSo b P (hears_states clocks board start states g)
group_over b board start P [] states g l k = k
group_over b board start P (c ∷ clocks) [] g l k = k
group_over b board start P (c ∷ clocks) (s ∷ states) g l k =
    group_over b (board + 1) start P clocks states (hears_state c board start s g) (omega (arith, l)) (group_state b board start P c s g k (λ same late when t. absurd (omega (arith, l, same))))

group_states : (d b board start : ℕ) (P : ℕ → Type 0) (clocks : List Clocks) (states : List State) (g : GroupState) → board + d ≡ b → GroupSo b P g
    → ((s : State) → state_at d states ≡ s ∷ [] → start ≤ s.turn + 1 → (when : ℕ) → TellExpiry (clocks_at clocks d) s.turn when s.news → P when) → GroupSo b P (hears_states clocks board start states g)
group_states d b board start P [] states g e k new = k
group_states d b board start P (c ∷ clocks) [] g e k new = k
group_states zero b board start P (c ∷ clocks) (s ∷ states) g e k new =
    group_over b (board + 1) start P clocks states (hears_state c board start s g) (omega (arith, e)) (group_state b board start P c s g k (λ same late when t. new s refl late when t))
group_states (suc d) b board start P (c ∷ clocks) (s ∷ states) g e k new =
    group_states d b (board + 1) start P clocks states (hears_state c board start s g) (omega (arith, e)) (group_state b board start P c s g k (λ same late when t. absurd (omega (arith, e, same))))
    (λ x is late when t. new x is late when t)

-- nor does a turn
group_either : (c : Bool) (b : ℕ) (P : ℕ → Type 0) (x g : GroupState) → GroupSo b P x → GroupSo b P g → GroupSo b P (cond c x g)
group_either true b P x g k l = k
group_either false b P x g k l = l

group_in : (p : Phase) (b turn : ℕ) (P : ℕ → Type 0) (g : GroupState) → GroupSo b P g → GroupSo b P (after_in p g turn)
group_in Goes b turn P g k = group_either (all_fired g.members) b P g _ k k
group_in c b turn P g k = k

module _ (m : Machine) (switches : List Switch) (b : ℕ) where
  -- the homing section that is known
  abbrev HomingSo : List Came → Option Homing → Type 0
  HomingSo came None = Unit {0}
  HomingSo came (Some h) = SeenSo b (λ when. CameExpiry m switches b h.start when came) h.group.members

  homing_more : (c : Came) (before : List Came) (o : Option Homing) → HomingSo before o → HomingSo (c ∷ before) o
  homing_more c before None k = tt
  homing_more c before (Some h) k = seen_more b (λ when. CameExpiry m switches b h.start when before) (λ when. CameExpiry m switches b h.start when (c ∷ before)) h.group.members (λ when x. inr x) k

  -- a section is begun
  begun_if : (c : Bool) (section axis turn start last : ℕ) (came : List Came) (ms : List Member) → HomingSo came (homing_with section axis turn (cond c (Some (new_group ms start last)) None))
  begun_if true section axis turn start last came ms = seen_none b (λ when. CameExpiry m switches b turn when came) ms
  begun_if false section axis turn start last came ms = tt

  begun_so : (section : ℕ) (kind : SectionKind) (turn last moving : ℕ) (came : List Came) → HomingSo came (homing_of m section kind turn last moving)
  begun_so section Moves turn last moving came = tt
  begun_so section (Home axis) turn last moving came =
      let ms = members_from m (axis_at m axis) moving 0 m.boards in
      begun_if (may_be (map unseen ms) turn last) section axis turn turn last came ms

  told_so : (came : List Came) (r : Known) (n : NoteNews) → HomingSo came r.homing → HomingSo came (known_behind m r n).homing
  told_so came r (news.Start section kind turn last moving) k = begun_so section kind turn last moving came
  told_so came r c k = k

  all_told_so : (came : List Came) (ns : List NoteNews) (r : Known) → HomingSo came r.homing → HomingSo came (told_all m ns r).homing
  all_told_so came [] r k = k
  all_told_so came (n ∷ ns) r k = all_told_so came ns (known_behind m r n) (told_so came r n k)

  noted_so : (came : List Came) (note : Option Note) (r : Known) → HomingSo came r.homing → HomingSo came (noted m note r).homing
  noted_so came None r k = k
  noted_so came (Some note) r k = all_told_so came note.news r k

  -- the states come
  heard_so : (c : Came) (before : List Came) (h : Homing) → SeenSo b (λ when. CameExpiry m switches b h.start when before) h.group.members
      → SeenSo b (λ when. CameExpiry m switches b h.start when (c ∷ before)) (hears_all (noted m c.note (known_by m switches before)).clocks c.states h).group.members
  heard_so c before h k =
      group_states b b 0 h.start (λ when. CameExpiry m switches b h.start when (c ∷ before)) (noted m c.note (known_by m switches before)).clocks c.states h.group (omega arith)
      (seen_more b (λ when. CameExpiry m switches b h.start when before) (λ when. CameExpiry m switches b h.start when (c ∷ before)) h.group.members (λ when x. inr x) k)
      (λ s is late when t. inl (s, is, late, t))

  goes_so : (k : ℕ) (came : List Came) (h : Homing) (o : Option End) → SeenSo b (λ when. CameExpiry m switches b h.start when came) h.group.members → HomingSo came (goes_on_homing k h o)
  goes_so k came h None s = group_in (phase h.group.start h.group.last k) b k (λ when. CameExpiry m switches b h.start when came) h.group s
  goes_so k came h (Some end) s = tt

  after_so : (c : Came) (before : List Came) (o : Option Homing) → HomingSo before o → HomingSo (c ∷ before) (homing_after (noted m c.note (known_by m switches before)).clocks (length before) c.states o)
  after_so c before None s = tt
  after_so c before (Some h) s =
      let g = hears_all (noted m c.note (known_by m switches before)).clocks c.states h in
      goes_so (length before) (c ∷ before) g (answer_in (length before) g.start g.group) (heard_so c before h s)

  -- over turns
  known_so : (came : List Came) → GoesOn m switches came → HomingSo came (known_by m switches came).homing
  known_so [] g = tt
  known_so (c ∷ before) g =
      let known = known_by m switches before in
      let n = noted m c.note known in
      let was : HomingSo before n.homing = noted_so before c.note known (known_so before g.1) in
      let So : Reacted → Type 0 = λ y. HomingSo (c ∷ before) y.known.homing in
      elim (goes m switches known (length before) c.states c.note g.0) [
        | inl x ↦ subst So (sym x.is) (homing_more c before n.homing was)
        | inr later ↦ elim later [
          | inl x ↦ subst So (sym x.is) (homing_more c before n.homing was)
          | inr x ↦ subst So (sym x.is) (after_so c before n.homing was)
        ]
      ]

-- a member expired
one_expired : (P : ℕ → Type 0) (last b turn board : ℕ) (o : Option Fired) → ((f : Fired) → board ≡ b → o ≡ Some f → f.reason ≡ 2 → P f.turn) → expired last board o ≡ Some (end.Expired b turn) → (turn ≤ last) × P turn
one_expired P last b turn board o p6 p7 = search (rules, nat_le, both_parts, was_le, eqb-true)

any_expired : (P : ℕ → Type 0) (last b turn : ℕ) (xs : List Seen) → SeenSo b P xs → first_expired last xs ≡ Some (end.Expired b turn) → (turn ≤ last) × P turn
any_expired P last b turn [] k e = cc
any_expired P last b turn (x ∷ xs) k e = by (expired last x.member.board x.fired) (λ g. any_expired P last b turn xs k.1 g) refl e
  where
    by : (o : Option End) → (first_expired last xs ≡ Some (end.Expired b turn) → (turn ≤ last) × P turn) → expired last x.member.board x.fired ≡ o → or_else o (first_expired last xs) ≡ Some (end.Expired b turn) → (turn ≤ last) × P turn
    by None rec is g = rec g
    by (Some end) rec is g = one_expired P last b turn x.member.board x.fired k.0 (is ∙ g)

-- a switch tells of no expiry
pub no_switch : (b turn : ℕ) (c : Bool) (o : Option Fired) → switched c o ≡ Some (end.Expired b turn) → ⊥
no_switch b turn c None e = cc
no_switch b turn c (Some f) e = by (c && (f.reason == 1)) e
  where
    by : (d : Bool) → cond d (Some (end.Endstop f.tick)) None ≡ Some (end.Expired b turn) → ⊥
    by true g = cc
    by false g = cc

pub none_switched : (b turn : ℕ) (xs : List Seen) → first_switched xs ≡ Some (end.Expired b turn) → ⊥
none_switched b turn [] e = cc
none_switched b turn (x ∷ xs) e = by (switched x.member.endstop x.fired) (λ g. none_switched b turn xs g) refl e
  where
    by : (o : Option End) → (first_switched xs ≡ Some (end.Expired b turn) → ⊥) → switched x.member.endstop x.fired ≡ o → or_else o (first_switched xs) ≡ Some (end.Expired b turn) → ⊥
    by None rec is g = rec g
    by (Some end) rec is g = no_switch b turn x.member.endstop x.fired (is ∙ g)

pub of_answer : (b turn : ℕ) (x y : Option End) → (y ≡ Some (end.Expired b turn) → ⊥) → or_none (or_else x y) ≡ end.Expired b turn → x ≡ Some (end.Expired b turn)
of_answer b turn (Some e) y n h = ap Some h
of_answer b turn None (Some e) n h = absurd (n (ap Some h))
of_answer b turn None None n h = cc

pub of_end : (c : Bool) (a e : End) → cond c (Some a) None ≡ Some e → a ≡ e
of_end true a e h = cc
of_end false a e h = cc

pub of_turn : (c : Bool) (g : GroupState) (e : End) → cond c (ended g) None ≡ Some e → answer g ≡ e
of_turn true g e h = of_end (all_fired g.members) (answer g) e h
of_turn false g e h = cc

-- what comes leaves a group's last turn as it is
last_either : (c : Bool) (x g : GroupState) → x.last ≡ g.last → (cond c x g).last ≡ g.last
last_either true x g e = e
last_either false x g e = refl

last_at : (board tick : ℕ) (t : TrigState) (o : Option ℕ) (g : GroupState) → (came_at board t tick o g).last ≡ g.last
last_at board tick t None g = refl
last_at board tick t (Some turn) g = refl

last_answer : (clocks : Clocks) (board turn : ℕ) (c : Cmd) (g : GroupState) → (hears_answer clocks board turn c g).last ≡ g.last
last_answer clocks board turn c g = search (rules, nearest, turn_tick, last_at, turn_in_run)

last_news : (clocks : Clocks) (board turn : ℕ) (ns : List News) (g : GroupState) → (hears_news clocks board turn ns g).last ≡ g.last
last_news clocks board turn [] g = refl
last_news clocks board turn (n ∷ ns) g = last_news clocks board turn ns (hears_answer clocks board turn n.answer g) ∙ last_answer clocks board turn n.answer g

last_states : (clocks : List Clocks) (board start : ℕ) (states : List State) (g : GroupState) → (hears_states clocks board start states g).last ≡ g.last
last_states [] board start states g = refl
last_states (c ∷ clocks) board start [] g = refl
last_states (c ∷ clocks) board start (s ∷ states) g =
    last_states clocks (board + 1) start states (hears_state c board start s g) ∙ last_either (nat_le start (s.turn + 1)) (hears_news c board s.turn s.news g) g (last_news c board s.turn s.news g)

pub expiry_told : (m : Machine) (switches : List Switch) (c : Came) (before : List Came) (h : Homing) (b turn : ℕ) → GoesOn m switches before → (noted m c.note (known_by m switches before)).homing ≡ Some h
    → answer_in (length before) h.start (hears_all (noted m c.note (known_by m switches before)).clocks c.states h).group ≡ Some (end.Expired b turn)
    → (turn ≤ h.group.last) × CameExpiry m switches b h.start turn (c ∷ before)
expiry_told m switches c before h b turn on is ends =
    let n = noted m c.note (known_by m switches before) in
    let was : HomingSo m switches b before (Some h) = subst (λ (o : Option Homing). HomingSo m switches b before o) is (noted_so m switches b before c.note (known_by m switches before) (known_so m switches b before on)) in
    let g = (hears_all n.clocks c.states h).group in
    let ended = of_turn (nat_le h.start (length before)) g (end.Expired b turn) ends in
    let first = of_answer b turn (first_expired g.last g.members) (first_switched g.members) (none_switched b turn g.members) ended in
    let both = any_expired (λ when. CameExpiry m switches b h.start when (c ∷ before)) g.last b turn g.members (heard_so m switches b c before h was) first in
    let same = last_states n.clocks 0 h.start c.states h.group in
    let low = both.0 in
    (omega (arith, low, same), both.1)
