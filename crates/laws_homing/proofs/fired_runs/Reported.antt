-- Of each member of a homing group that is known to have triggered its board told so; and the answer that a switch closed has the tick of a report of the endstop's board.
use Rattle.std.proofs.Common.{◌≡◌, ℕ, zero, suc, ◌+◌, ◌-◌, ◌*◌, ◌<◌, ◌≤◌, ◌⊎◌, ◌==◌, Bool, true, false, not, cond, List, [], ◌∷◌, ◌++◌, length, map, Option, Some, None, refl, ap, sym, ◌∙◌, subst, arith, inl, inr}
use Rattle.std.specs.Prelude.{nat_le, nat_lt, ◌&&◌, ◌||◌, if◌then◌else◌}
use Rattle.laws_board.proofs.Names.{eqb_tells, leb_tells, AxisDef, BoardDef, Machine, SectionKind, Home, Moves, nearest, turn_ns, Clocks, lines_tick, axis_at, clocks_at, turn_in_run, turn_tick, Cmd, News, Note, NoteNews, State, Switch, End, Member, Goes, Rests, Sends, Fired, Seen, GroupState, all_fired, phase, unseen, Homing, answer_in, goes_on_homing, hears_all, homing_after, members_from, members_of, Known, noted, known_behind, told_all, Reacted, Came, GoesOn, known_by, state_at, item, both_parts, states-kept}
use Rattle.plan_types.specs.declared.plan.TrigState.{TrigState}
use Rattle.plan_types.specs.Lines.{lines_turn}
use Rattle.clock_line.specs.Early.{is_in_run}
use Rattle.clock_line.proofs.Turns.{turn-below}
use Rattle.msg_code.specs.declared.cmd.Cmd.TheVariants as cmd
use Rattle.msg_code.specs.declared.talk.NoteNews.TheVariants as news
use Rattle.trigger_group.specs.declared.order.End.TheVariants.{Endstop, Expired, NoSwitch}
use Rattle.trigger_group.specs.declared.round.Phase.{Phase}
use Rattle.trigger_group.specs.Group.{after_in, answer, came, ended, expired, first_fired, first_expired, first_switched, has_fired, member_hears, hears_from, later, new_group, or_else, or_none, switched}
use Rattle.trigger_group.specs.Kept.{may_be}
use Rattle.axis_homing.specs.Homing.{came_at, hears_answer, hears_news, hears_state, hears_states, homing_of, homing_with, moving_on}
use Rattle.laws_board.proofs.clocks.Controls.{states_start}
use Rattle.laws_board.proofs.clocks.Turning as turning
use Rattle.laws_homing.specs.home_runs.Told.{IsMember}
use Rattle.laws_homing.specs.home_runs.Windows.{HasAnswer}
use Rattle.laws_homing.proofs.home_runs.Grouped.{answered}
use Rattle.laws_homing.specs.switch_runs.Reports.{WasReported}
use Rattle.axis_homing.proofs.Starts.{came_start, answer_start, in_start}
use Rattle.laws_homing.proofs.clear_boards.Knowing.{no_can}
use Rattle.laws_homing.proofs.missed_groups.Told.{same_state, item_lines}
use Rattle.laws_homing.proofs.clear_boards.Ending.{when_if}

-- the state of a report is that of the board's latest turn
pub sole_state : (s t : State) → s ∷ [] ≡ t ∷ [] → s ≡ t
sole_state s t e = cc

-- a tick before that at which a section starts is in no turn from the start on
pub before_start : (lines : Clocks) (start tick turn : ℕ) → 0 < start → tick < lines_tick lines (start * turn_ns) → turn_in_run lines tick ≡ Some turn → turn < start
before_start lines start tick turn some low is =
    let next : start ≡ start - 1 + 1 = omega (arith, some) in
    let below = turn-below lines tick (start - 1) (subst (λ (k : ℕ). tick < lines_tick lines (k * turn_ns)) next low) in
    let same = when_if (is_in_run lines tick) (lines_turn lines tick) turn is in
    omega (arith, some, below, same)

-- what is known of a member's trigger was told, and the member with the endstop is its board
abbrev pub One : (ℕ → Fired → Type 0) → ℕ → Seen → Type 0
One W own x = ((f : Fired) → x.fired ≡ Some f → W x.member.board f) × (x.member.endstop ≡ true → x.member.board ≡ own)

abbrev pub Each : (ℕ → Fired → Type 0) → ℕ → List Seen → Type 0
Each W own [] = Unit {0}
Each W own (x ∷ xs) = One W own x × Each W own xs

each_more : (W V : ℕ → Fired → Type 0) (own : ℕ) (xs : List Seen) → ((b : ℕ) (f : Fired) → W b f → V b f) → Each W own xs → Each V own xs
each_more W V own [] more h = tt
each_more W V own (x ∷ xs) more h = ((λ f e. more x.member.board f (h.0.0 f e), h.0.1), each_more W V own xs more h.1)

-- behind a report
abbrev now_of : ℕ → ℕ → ℕ → Fired
now_of reason at when = record { reason = reason; tick = at; turn = when }

first_so : (W : ℕ → Fired → Type 0) (b : ℕ) (now : Fired) (o : Option Fired) → W b now → ((f : Fired) → o ≡ Some f → W b f) → (f : Fired) → Some (first_fired o now) ≡ Some f → W b f
first_so W b now None new given f e = let same : now ≡ f = cc in subst (W b) same new
first_so W b now (Some old) new given f e = given f e

can_one : (W : ℕ → Fired → Type 0) (own reason at when : ℕ) (x : Seen) (can : Bool) → (can ≡ false → W x.member.board (now_of reason at when)) → One W own x
    → One W own (cond can (record x { heard = Some (later x.heard when) }) (record x { fired = Some (first_fired x.fired (now_of reason at when)) }))
can_one W own reason at when x true new given = given
can_one W own reason at when x false new given = (first_so W x.member.board (now_of reason at when) x.fired (new refl) given.0, given.1)

from_one : (W : ℕ → Fired → Type 0) (own b : ℕ) (s : TrigState) (at when : ℕ) (x : Seen) → (s.can ≡ false → W b (now_of s.reason at when)) → One W own x → One W own (hears_from b s at when x)
from_one W own b s at when x new given =
    let At : Bool → Type 0 = λ z. One W own (cond z (member_hears s at when x) x) in
    elim (eqb_tells x.member.board b) [
      | inl p ↦ subst At (sym p.0) (can_one W own s.reason at when x s.can (λ e. subst (λ (i : ℕ). W i (now_of s.reason at when)) (sym p.1) (new e)) given)
      | inr p ↦ subst At (sym p.0) given
    ]

each_from : (W : ℕ → Fired → Type 0) (own b : ℕ) (s : TrigState) (at when : ℕ) (xs : List Seen) → (s.can ≡ false → W b (now_of s.reason at when)) → Each W own xs → Each W own (map (hears_from b s at when) xs)
each_from W own b s at when [] new given = tt
each_from W own b s at when (x ∷ xs) new given = (from_one W own b s at when x new given.0, each_from W own b s at when xs new given.1)

came_each : (W : ℕ → Fired → Type 0) (own b : ℕ) (s : TrigState) (at when : ℕ) (g : GroupState) → (g.start ≤ when → s.can ≡ false → W b (now_of s.reason at when)) → Each W own g.members → Each W own (came b s at when g).members
came_each W own b s at when g new given =
    let At : Bool → Type 0 = λ z. Each W own (cond z g.members (map (hears_from b s at when) g.members)) in
    elim (leb_tells (suc when) g.start) [
      | inl p ↦ subst At (sym p.0) given
      | inr p ↦ subst At (sym p.0) (each_from W own b s at when g.members (new (let late = p.1 in omega (arith, late))) given)
    ]

at_each : (W : ℕ → Fired → Type 0) (own b : ℕ) (s : TrigState) (at : ℕ) (o : Option ℕ) (g : GroupState) → ((when : ℕ) → o ≡ Some when → g.start ≤ when → s.can ≡ false → W b (now_of s.reason at when)) → Each W own g.members
    → Each W own (came_at b s at o g).members
at_each W own b s at None g new given = given
at_each W own b s at (Some when) g new given = came_each W own b s at when g (new when refl) given

-- what a state of a turn tells of a board's trigger, that counts for a homing section with this start
record Telling (clocks : List Clocks) (states : List State) (start board : ℕ) (f : Fired) : Type 0 where
  state : State
  came : state_at board states ≡ state ∷ []
  counts : start ≤ state.turn + 1
  oid : ℕ
  clock : ℕ
  told : HasAnswer (cmd.TrsyncState oid 0 f.reason clock) state.news
  tick_is : f.tick ≡ nearest (turn_tick (clocks_at clocks board) state.turn) clock
  turn_is : turn_in_run (clocks_at clocks board) f.tick ≡ Some f.turn
  late : start ≤ f.turn

-- behind all states of a turn
module _ (clocks : List Clocks) (states : List State) (start own : ℕ) (W : ℕ → Fired → Type 0) (new : (b : ℕ) (f : Fired) → Telling clocks states start b f → W b f) where
  answer_each : (lines : Clocks) (b : ℕ) (s : State) → item b clocks ≡ lines ∷ [] → item b states ≡ s ∷ [] → start ≤ s.turn + 1 → (a : Cmd) → HasAnswer a s.news → (g : GroupState) → g.start ≡ start → Each W own g.members
      → Each W own (hears_answer lines b s.turn a g).members
  answer_each lines b s line state counts (cmd.TrsyncState oid can reason clock) told g at given =
      let tick = nearest (turn_tick lines s.turn) clock in
      let same : lines ≡ clocks_at clocks b = item_lines b clocks lines line in
      at_each W own b (record { can = not (can == 0); reason = reason; clock = clock }) tick (turn_in_run lines tick) g
      (λ when is late off.
      new b (now_of reason tick when) (record {
        state = s;
        came = same_state b states ∙ state;
        counts = counts;
        oid = oid;
        clock = clock;
        told = subst (λ (n : ℕ). HasAnswer (cmd.TrsyncState oid n reason clock) s.news) (no_can can off) told;
        tick_is = ap (λ (l : Clocks). nearest (turn_tick l s.turn) clock) same;
        turn_is = ap (λ (l : Clocks). turn_in_run l tick) (sym same) ∙ is;
        late = omega (arith, late, at);
      }))
      given
  answer_each lines b s line state counts a told g at given = given

  news_each : (lines : Clocks) (b : ℕ) (s : State) → item b clocks ≡ lines ∷ [] → item b states ≡ s ∷ [] → start ≤ s.turn + 1 → (ns : List News) → ((a : Cmd) → HasAnswer a ns → HasAnswer a s.news) → (g : GroupState) → g.start ≡ start → Each W own g.members
      → Each W own (hears_news lines b s.turn ns g).members
  news_each lines b s line state counts [] among g at given = given
  news_each lines b s line state counts (n ∷ ns) among g at given =
      news_each lines b s line state counts ns (λ a h. among a (inr h)) (hears_answer lines b s.turn n.answer g) (answer_start lines b s.turn n.answer g ∙ at) (answer_each lines b s line state counts n.answer (among n.answer (inl refl)) g at given)

  state_each : (lines : Clocks) (b : ℕ) (s : State) → item b clocks ≡ lines ∷ [] → item b states ≡ s ∷ [] → (g : GroupState) → g.start ≡ start → Each W own g.members → Each W own (hears_state lines b start s g).members
  state_each lines b s line state g at given =
      let At : Bool → Type 0 = λ z. Each W own (cond z (hears_news lines b s.turn s.news g) g).members in
      elim (leb_tells start (s.turn + 1)) [ inl p ↦ subst At (sym p.0) (news_each lines b s line state p.1 s.news (λ a h. h) g at given) | inr p ↦ subst At (sym p.0) given ]

  states_each : (cs : List Clocks) (b : ℕ) (ss : List State) → ((i : ℕ) (x : Clocks) → item i cs ≡ x ∷ [] → item (b + i) clocks ≡ x ∷ []) → ((i : ℕ) (x : State) → item i ss ≡ x ∷ [] → item (b + i) states ≡ x ∷ []) → (g : GroupState) → g.start ≡ start
      → Each W own g.members → Each W own (hears_states cs b start ss g).members
  states_each [] b ss lines came g at given = given
  states_each (c ∷ cs) b [] lines came g at given = given
  states_each (c ∷ cs) b (s ∷ ss) lines came g at given =
      let here : b + 0 ≡ b = omega arith in
      let now : (hears_state c b start s g).start ≡ start = states_start (c ∷ []) b start (s ∷ []) g ∙ at in
      states_each cs (b + 1) ss
      (λ i x e. let next : b + suc i ≡ b + 1 + i = omega arith in subst (λ (j : ℕ). item j clocks ≡ x ∷ []) next (lines (suc i) x e))
      (λ i x e. let next : b + suc i ≡ b + 1 + i = omega arith in subst (λ (j : ℕ). item j states ≡ x ∷ []) next (came (suc i) x e))
      (hears_state c b start s g) now
      (state_each c b s (subst (λ (j : ℕ). item j clocks ≡ c ∷ []) here (lines 0 c refl)) (subst (λ (j : ℕ). item j states ≡ s ∷ []) here (came 0 s refl)) g at given)

  all_each : (g : GroupState) → g.start ≡ start → Each W own g.members → Each W own (hears_states clocks 0 start states g).members
  all_each g at given =
      states_each clocks 0 states
      (λ i x e. let same : i ≡ 0 + i = omega arith in subst (λ (j : ℕ). item j clocks ≡ x ∷ []) same e)
      (λ i x e. let same : i ≡ 0 + i = omega arith in subst (λ (j : ℕ). item j states ≡ x ∷ []) same e)
      g at given

-- what the reactor knows of the homing section
abbrev Knows : Machine → List Switch → List Came → Option Homing → Type 0
Knows m switches came None = Unit {0}
Knows m switches came (Some h) = (h.group.start ≡ h.start) × Each (λ b f. WasReported m switches b h.start f came) (axis_at m h.axis).board h.group.members

knows_more : (m : Machine) (switches : List Switch) (c : Came) (before : List Came) (o : Option Homing) → Knows m switches before o → Knows m switches (c ∷ before) o
knows_more m switches c before None k = tt
knows_more m switches c before (Some h) k =
    (k.0, each_more (λ b f. WasReported m switches b h.start f before) (λ b f. WasReported m switches b h.start f (c ∷ before)) (axis_at m h.axis).board h.group.members (λ b f w. inr w) k.1)

-- as it begins
unfired : (f : Fired) → None ≡ Some f → ⊥
unfired f e = cc

where_each : (c e : Bool) (W : ℕ → Fired → Type 0) (own b moving : ℕ) (rest : List Member) → (e ≡ true → b ≡ own) → Each W own (map unseen rest)
    → Each W own (map unseen (cond c (record { board = b; endstop = e; moving = moving } ∷ []) [] ++ rest))
where_each true e W own b moving rest is given = ((λ f g. absurd (unfired f g), is), given)
where_each false e W own b moving rest is given = given

members_each : (W : ℕ → Fired → Type 0) (m : Machine) (axis : AxisDef) (moving b : ℕ) (boards : List BoardDef) → Each W axis.board (map unseen (members_from m axis moving b boards))
members_each W m axis moving b [] = tt
members_each W m axis moving b (d ∷ boards) =
    let end = axis.board == b in
    let few = moving_on b moving m.steppers in
    where_each (end || nat_lt 0 few) end W axis.board b few (members_from m axis moving (b + 1) boards)
    (λ e. elim (eqb_tells axis.board b) [ inl p ↦ sym p.1 | inr p ↦ absurd (let f : false ≡ true = sym p.0 ∙ e in cc) ])
    (members_each W m axis moving (b + 1) boards)

begun_if : (c : Bool) (m : Machine) (switches : List Switch) (came : List Came) (section axis turn last moving : ℕ)
    → Knows m switches came (homing_with section axis turn (cond c (Some (new_group (members_from m (axis_at m axis) moving 0 m.boards) turn last)) None))
begun_if true m switches came section axis turn last moving = (refl, members_each (λ b f. WasReported m switches b turn f came) m (axis_at m axis) moving 0 m.boards)
begun_if false m switches came section axis turn last moving = tt

begun_knows : (m : Machine) (switches : List Switch) (came : List Came) (section : ℕ) (kind : SectionKind) (turn last moving : ℕ) → Knows m switches came (homing_of m section kind turn last moving)
begun_knows m switches came section Moves turn last moving = tt
begun_knows m switches came section (Home axis) turn last moving =
    let ms = members_from m (axis_at m axis) moving 0 m.boards in
    begun_if (may_be (map unseen ms) turn last) m switches came section axis turn last moving

told_knows : (m : Machine) (switches : List Switch) (came : List Came) (r : Known) (n : NoteNews) → Knows m switches came r.homing → Knows m switches came (known_behind m r n).homing
told_knows m switches came r (news.Start section kind turn last moving) k = begun_knows m switches came section kind turn last moving
told_knows m switches came r c k = k

all_knows : (m : Machine) (switches : List Switch) (came : List Came) (ns : List NoteNews) (r : Known) → Knows m switches came r.homing → Knows m switches came (told_all m ns r).homing
all_knows m switches came [] r k = k
all_knows m switches came (n ∷ ns) r k = all_knows m switches came ns (known_behind m r n) (told_knows m switches came r n k)

noted_knows : (m : Machine) (switches : List Switch) (came : List Came) (note : Option Note) (r : Known) → Knows m switches came r.homing → Knows m switches came (noted m note r).homing
noted_knows m switches came None r k = k
noted_knows m switches came (Some note) r k = all_knows m switches came note.news r k

-- and as it goes on
members_if : (c : Bool) (x g : GroupState) → x.members ≡ g.members → (cond c g x).members ≡ g.members
members_if true x g e = refl
members_if false x g e = e

members_on : (p : Phase) (g : GroupState) (turn : ℕ) → (after_in p g turn).members ≡ g.members
members_on Goes g turn = members_if (all_fired g.members) _ g refl
members_on c g turn = refl

goes_knows : (m : Machine) (switches : List Switch) (came : List Came) (k : ℕ) (h : Homing) (o : Option End) → Knows m switches came (Some h) → Knows m switches came (goes_on_homing k h o)
goes_knows m switches came k h None a =
    let p = phase h.group.start h.group.last k in
    (in_start p h.group k ∙ a.0, subst (Each (λ b f. WasReported m switches b h.start f came) (axis_at m h.axis).board) (sym (members_on p h.group k)) a.1)
goes_knows m switches came k h (Some end) a = tt

heard_knows : (m : Machine) (switches : List Switch) (c : Came) (before : List Came) (h : Homing) → Knows m switches before (Some h)
    → Knows m switches (c ∷ before) (Some (hears_all (noted m c.note (known_by m switches before)).clocks c.states h))
heard_knows m switches c before h a =
    let clocks = (noted m c.note (known_by m switches before)).clocks in
    let W : ℕ → Fired → Type 0 = λ b f. WasReported m switches b h.start f (c ∷ before) in
    let more = knows_more m switches c before (Some h) a in (
      states_start clocks 0 h.start c.states h.group ∙ a.0,
      all_each clocks c.states h.start (axis_at m h.axis).board W
          (λ b f t. inl (record { state = t.state; came = t.came; counts = t.counts; oid = t.oid; clock = t.clock; told = t.told; tick_is = t.tick_is; turn_is = t.turn_is; late = t.late })) h.group a.0 more.1,
    )

after_knows : (m : Machine) (switches : List Switch) (c : Came) (before : List Came) (k : ℕ) (o : Option Homing) → Knows m switches before o
    → Knows m switches (c ∷ before) (homing_after (noted m c.note (known_by m switches before)).clocks k c.states o)
after_knows m switches c before k None a = tt
after_knows m switches c before k (Some h) a =
    let g = hears_all (noted m c.note (known_by m switches before)).clocks c.states h in
    goes_knows m switches (c ∷ before) k g (answer_in k g.start g.group) (heard_knows m switches c before h a)

known_knows : (m : Machine) (switches : List Switch) (came : List Came) → GoesOn m switches came → Knows m switches came (known_by m switches came).homing
known_knows m switches [] g = tt
known_knows m switches (c ∷ before) g =
    let known = known_by m switches before in
    let n = noted m c.note known in
    let was = noted_knows m switches before c.note known (known_knows m switches before g.1) in
    let still = knows_more m switches c before n.homing was in
    let So : Reacted → Type 0 = λ y. Knows m switches (c ∷ before) y.known.homing in
    elim (turning.goes m switches known (length before) c.states c.note g.0) [
      | inl x ↦ subst So (sym x.is) still
      | inr more ↦ elim more [ inl x ↦ subst So (sym x.is) still | inr x ↦ subst So (sym x.is) (after_knows m switches c before (length before) n.homing was) ]
    ]

-- an answer that a switch closed
answer_if : (c : Bool) (o : Option End) (tick : ℕ) → cond c o None ≡ Some (Endstop tick) → o ≡ Some (Endstop tick)
answer_if true o tick e = e
answer_if false o tick e = absurd (let f : None ≡ Some (Endstop tick) = e in cc)

ended_if : (c : Bool) (end : End) (tick : ℕ) → cond c (Some end) None ≡ Some (Endstop tick) → end ≡ Endstop tick
ended_if true end tick e = cc
ended_if false end tick e = absurd (let f : None ≡ Some (Endstop tick) = e in cc)

-- is no expiry
abbrev IsExpiry : Option End → Type 0
IsExpiry None = Unit {0}
IsExpiry (Some (Expired board turn)) = Unit {0}
IsExpiry (Some end) = ⊥

expiry_if : (c : Bool) (board turn : ℕ) → IsExpiry (cond c (Some (Expired board turn)) None)
expiry_if true board turn = tt
expiry_if false board turn = tt

expired_is : (last board : ℕ) (o : Option Fired) → IsExpiry (expired last board o)
expired_is last board None = tt
expired_is last board (Some f) = expiry_if ((f.reason == 2) && nat_le f.turn last) board f.turn

either_is : (x y : Option End) → IsExpiry x → IsExpiry y → IsExpiry (or_else x y)
either_is None y a b = b
either_is (Some end) y a b = a

all_expiries : (last : ℕ) (xs : List Seen) → IsExpiry (first_expired last xs)
all_expiries last [] = tt
all_expiries last (x ∷ xs) = either_is (expired last x.member.board x.fired) (first_expired last xs) (expired_is last x.member.board x.fired) (all_expiries last xs)

none_of : (x y : Option End) (tick : ℕ) → IsExpiry x → or_none (or_else x y) ≡ Endstop tick → y ≡ Some (Endstop tick)
none_of None None tick a e = absurd (let f : NoSwitch ≡ Endstop tick = e in cc)
none_of None (Some end) tick a e = let f : end ≡ Endstop tick = e in ap Some f
none_of (Some (Expired board turn)) y tick a e = absurd (let f : Expired board turn ≡ Endstop tick = e in cc)
none_of (Some end) y tick a e = absurd a

-- but a report of the endstop's board
switch_if : (c : Bool) (tick at : ℕ) → cond c (Some (Endstop at)) None ≡ Some (Endstop tick) → (c ≡ true) × (at ≡ tick)
switch_if true tick at e = (refl, cc)
switch_if false tick at e = absurd (let f : None ≡ Some (Endstop tick) = e in cc)

or_first : (x y : Option End) (end : End) → or_else x y ≡ Some end → (x ≡ Some end) ⊎ (y ≡ Some end)
or_first None y end e = inr e
or_first (Some other) y end e = inl e

switched_told : (W : ℕ → Fired → Type 0) (own tick : ℕ) (x : Seen) (o : Option Fired) → x.fired ≡ o → One W own x → switched x.member.endstop o ≡ Some (Endstop tick) → (turn : ℕ) × W own (now_of 1 tick turn)
switched_told W own tick x None is given e = absurd (let f : None ≡ Some (Endstop tick) = e in cc)
switched_told W own tick x (Some f) is given e =
    let s = switch_if (x.member.endstop && (f.reason == 1)) tick f.tick e in
    let both = both_parts x.member.endstop (f.reason == 1) s.0 in
    elim (eqb_tells f.reason 1) [
      | inl p ↦
          let board = given.1 both.0 in
          let at = s.1 in
          let reason = p.1 in
          (f.turn, subst (λ (z : ℕ × Fired). W z.0 z.1) (λ i. (board i, record { reason = reason i; tick = at i; turn = f.turn })) (given.0 f is))
      | inr p ↦ absurd (let g : false ≡ true = sym p.0 ∙ both.1 in cc)
    ]

first_told : (W : ℕ → Fired → Type 0) (own tick : ℕ) (xs : List Seen) → Each W own xs → first_switched xs ≡ Some (Endstop tick) → (turn : ℕ) × W own (now_of 1 tick turn)
first_told W own tick [] given e = absurd (let f : None ≡ Some (Endstop tick) = e in cc)
first_told W own tick (x ∷ xs) given e = elim (or_first (switched x.member.endstop x.fired) (first_switched xs) (Endstop tick) e) [
  | inl here ↦ switched_told W own tick x x.fired refl given.0 here
  | inr later ↦ first_told W own tick xs given.1 later
]

pub answer_told : (m : Machine) (switches : List Switch) (c : Came) (before : List Came) (h : Homing) (tick : ℕ) → GoesOn m switches before → (noted m c.note (known_by m switches before)).homing ≡ Some h
    → answer_in (length before) h.start (hears_all (noted m c.note (known_by m switches before)).clocks c.states h).group ≡ Some (Endstop tick)
    → (turn : ℕ) × WasReported m switches (axis_at m h.axis).board h.start (record { reason = 1; tick = tick; turn = turn }) (c ∷ before)
answer_told m switches c before h tick g known answer_is =
    let n = noted m c.note (known_by m switches before) in
    let was = subst (Knows m switches before) known (noted_knows m switches before c.note (known_by m switches before) (known_knows m switches before g)) in
    let heard = heard_knows m switches c before h was in
    let group = (hears_all n.clocks c.states h).group in
    let over = answer_if (nat_le h.start (length before)) (ended group) tick answer_is in
    let is = ended_if (all_fired group.members) (answer group) tick over in
    let switch = none_of (first_expired group.last group.members) (first_switched group.members) tick (all_expiries group.last group.members) is in
    first_told (λ b f. WasReported m switches b h.start f (c ∷ before)) (axis_at m h.axis).board tick group.members heard.1 switch

-- each member that is known to have triggered told so
pub all_told : (m : Machine) (switches : List Switch) (c : Came) (before : List Came) (h : Homing) → GoesOn m switches before → (noted m c.note (known_by m switches before)).homing ≡ Some h
    → Each (λ b f. WasReported m switches b h.start f (c ∷ before)) (axis_at m h.axis).board (hears_all (noted m c.note (known_by m switches before)).clocks c.states h).group.members
all_told m switches c before h g known =
    let was = subst (Knows m switches before) known (noted_knows m switches before c.note (known_by m switches before) (known_knows m switches before g)) in
    (heard_knows m switches c before h was).1

-- each member of a group that answers is known to have triggered
among_each : (W : ℕ → Fired → Type 0) (own b : ℕ) (xs : List Seen) → all_fired xs ≡ true → IsMember b (map (λ (s : Seen). s.member) xs) → Each W own xs → (f : Fired) × W b f
among_each W own b [] all is given = absurd is
among_each W own b (x ∷ xs) all (inl e) given = one x.fired refl (both_parts (has_fired x.fired) (all_fired xs) all).0
  where
    one : (o : Option Fired) → x.fired ≡ o → has_fired o ≡ true → (f : Fired) × W b f
    one None same h = absurd (let bad : false ≡ true = h in cc)
    one (Some f) same h = (f, subst (λ (n : ℕ). W n f) e (given.0.0 f same))
among_each W own b (x ∷ xs) all (inr is) given = among_each W own b xs (both_parts (has_fired x.fired) (all_fired xs) all).1 is given.1

pub member_told : (m : Machine) (switches : List Switch) (b : ℕ) (c : Came) (before : List Came) (h : Homing) (e : End) → GoesOn m switches before → (noted m c.note (known_by m switches before)).homing ≡ Some h
    → answer_in (length before) h.start (hears_all (noted m c.note (known_by m switches before)).clocks c.states h).group ≡ Some e → IsMember b (members_of h.group) → (f : Fired) × WasReported m switches b h.start f (c ∷ before)
member_told m switches b c before h e g known ends among =
    let n = noted m c.note (known_by m switches before) in
    let group = (hears_all n.clocks c.states h).group in
    among_each (λ a f. WasReported m switches a h.start f (c ∷ before)) (axis_at m h.axis).board b group.members (answered (nat_le h.start (length before)) group e ends)
    (subst (λ (l : List Member). IsMember b l) (sym (states-kept n.clocks 0 h.start c.states h.group)) among) (all_told m switches c before h g known)

-- where it answers that the switch closed no member expired in time
none_ahead : (x y : Option End) (tick : ℕ) → IsExpiry x → or_none (or_else x y) ≡ Endstop tick → x ≡ None
none_ahead None y tick a e = refl
none_ahead (Some (Expired board turn)) y tick a e = absurd (let f : Expired board turn ≡ Endstop tick = e in cc)
none_ahead (Some end) y tick a e = absurd a

pub closed_unexpired : (k start : ℕ) (g : GroupState) (tick : ℕ) → answer_in k start g ≡ Some (Endstop tick) → first_expired g.last g.members ≡ None
closed_unexpired k start g tick e =
    let is = ended_if (all_fired g.members) (answer g) tick (answer_if (nat_le start k) (ended g) tick e) in
    none_ahead (first_expired g.last g.members) (first_switched g.members) tick (all_expiries g.last g.members) is
