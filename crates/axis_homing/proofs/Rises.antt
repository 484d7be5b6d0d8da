-- The boards of a homing section's members rise, in every turn.
use Rattle.std.proofs.Common.{◌≡◌, ◌≤◌, ◌<◌, ℕ, zero, suc, ◌+◌, Bool, true, false, cond, List, [], ◌∷◌, ◌++◌, length, map, get_or, Option, Some, None, refl, ap, sym, ◌∙◌, subst, arith}
use Rattle.std.specs.Prelude.{not, nat_le, nat_lt, ◌==◌, ◌||◌}
use Rattle.std.proofs.lemmas.List.Kept.{AllPairs-cons}
use Rattle.plan_types.specs.declared.machine.Machine.{Machine}
use Rattle.plan_types.specs.declared.machine.BoardDef.{BoardDef}
use Rattle.plan_types.specs.declared.machine.AxisDef.{AxisDef}
use Rattle.plan_types.specs.declared.plan.TrigState.{TrigState}
use Rattle.plan_types.specs.declared.plan.SectionKind.{SectionKind}
use Rattle.plan_types.specs.declared.plan.SectionKind.TheVariants as kind
use Rattle.plan_types.specs.Board.{nearest}
use Rattle.plan_types.specs.Lines.{Clocks}
use Rattle.plan_types.specs.Machines.{axis_at}
use Rattle.clock_line.specs.Early.{turn_tick, turn_in_run}
use Rattle.msg_code.specs.declared.cmd.Cmd.{Cmd}
use Rattle.msg_code.specs.declared.cmd.Cmd.TheVariants as cmd
use Rattle.msg_code.specs.declared.talk.News.{News}
use Rattle.msg_code.specs.declared.talk.State.{State}
use Rattle.trigger_group.specs.declared.order.Member.{Member}
use Rattle.trigger_group.specs.declared.order.End.{End}
use Rattle.trigger_group.specs.declared.seen.Seen.{Seen}
use Rattle.trigger_group.specs.declared.round.Phase.{Phase}
use Rattle.trigger_group.specs.declared.round.Phase.TheVariants.{Sends, Goes, Rests}
use Rattle.trigger_group.specs.Group.{GroupState, came, member_hears, hears_from, unseen, new_group, after_in, phase, all_fired}
use Rattle.trigger_group.specs.Kept.{BoardsRise, may_be}
use Rattle.axis_homing.specs.declared.homing.Homing.{Homing}
use Rattle.axis_homing.specs.Homing.{moving_on, members_from, homing_with, homing_of, came_at, hears_answer, hears_news, hears_state, hears_states, hears_all, answer_in, goes_on_homing, homing_after}
use Rattle.axis_homing.specs.Rising.{members_of, IsRising, HomingRises}

-- reports change no member
hears-member : (c : Bool) (x y s : Seen) → x.member ≡ s.member → y.member ≡ s.member → (cond c x y).member ≡ s.member
hears-member true x y s h i = h
hears-member false x y s h i = i

from-member : (board tick turn : ℕ) (t : TrigState) (s : Seen) → (hears_from board t tick turn s).member ≡ s.member
from-member board tick turn t s =
    hears-member (s.member.board == board) (member_hears t tick turn s) s s (hears-member t.can _ _ s refl refl) refl

pub members-kept : (board tick turn : ℕ) (t : TrigState) (ss : List Seen) → map (λ (s : Seen). s.member) (map (hears_from board t tick turn) ss) ≡ map (λ (s : Seen). s.member) ss
members-kept board tick turn t [] = refl
members-kept board tick turn t (s ∷ ss) =
    ap (λ (x : Member). x ∷ map (λ (s : Seen). s.member) (map (hears_from board t tick turn) ss)) (from-member board tick turn t s)
    ∙ ap (λ (l : List Member). s.member ∷ l) (members-kept board tick turn t ss)

pub either-members : (c : Bool) (xs ys : List Seen) → map (λ (s : Seen). s.member) ys ≡ map (λ (s : Seen). s.member) xs → map (λ (s : Seen). s.member) (cond c xs ys) ≡ map (λ (s : Seen). s.member) xs
either-members true xs ys h = refl
either-members false xs ys h = h

came-kept : (board tick turn : ℕ) (t : TrigState) (g : GroupState) → members_of (came board t tick turn g) ≡ members_of g
came-kept board tick turn t g = either-members (nat_lt turn g.start) g.members (map (hears_from board t tick turn) g.members) (members-kept board tick turn t g.members)

pub at-kept : (board tick : ℕ) (t : TrigState) (o : Option ℕ) (g : GroupState) → members_of (came_at board t tick o g) ≡ members_of g
at-kept board tick t None g = refl
at-kept board tick t (Some turn) g = came-kept board tick turn t g

pub answer-kept : (clocks : Clocks) (board turn : ℕ) (answer : Cmd) (g : GroupState) → members_of (hears_answer clocks board turn answer g) ≡ members_of g
answer-kept clocks board turn (cmd.IdentifyResponse x0 x1) g = refl
answer-kept clocks board turn (cmd.Identify x0 x1) g = refl
answer-kept clocks board turn (cmd.AllocateOids x0) g = refl
answer-kept clocks board turn cmd.GetConfig g = refl
answer-kept clocks board turn (cmd.FinalizeConfig x0) g = refl
answer-kept clocks board turn cmd.GetUptime g = refl
answer-kept clocks board turn cmd.EmergencyStop g = refl
answer-kept clocks board turn (cmd.ConfigStepper x0 x1 x2 x3 x4) g = refl
answer-kept clocks board turn (cmd.QueueStep x0 x1 x2 x3) g = refl
answer-kept clocks board turn (cmd.SetNextStepDir x0 x1) g = refl
answer-kept clocks board turn (cmd.ResetStepClock x0 x1) g = refl
answer-kept clocks board turn (cmd.ConfigTrsync x0) g = refl
answer-kept clocks board turn (cmd.TrsyncStart x0 x1 x2 x3) g = refl
answer-kept clocks board turn (cmd.TrsyncSetTimeout x0 x1) g = refl
answer-kept clocks board turn (cmd.TrsyncTrigger x0 x1) g = refl
answer-kept clocks board turn (cmd.StepperStopOnTrigger x0 x1) g = refl
answer-kept clocks board turn (cmd.ConfigEndstop x0 x1 x2) g = refl
answer-kept clocks board turn (cmd.EndstopHome x0 x1 x2 x3 x4 x5 x6 x7) g = refl
answer-kept clocks board turn (cmd.Config x0 x1 x2 x3) g = refl
answer-kept clocks board turn (cmd.Uptime x0 x1) g = refl
answer-kept clocks board turn (cmd.TrsyncState x0 x1 x2 x3) g = at-kept board (nearest (turn_tick clocks turn) x3) (record { can = not (x1 == 0); reason = x2; clock = x3 }) (turn_in_run clocks (nearest (turn_tick clocks turn) x3)) g
answer-kept clocks board turn (cmd.Shutdown x0 x1) g = refl
answer-kept clocks board turn (cmd.IsShutdown x0) g = refl

pub news-kept : (clocks : Clocks) (board turn : ℕ) (news : List News) (g : GroupState) → members_of (hears_news clocks board turn news g) ≡ members_of g
news-kept clocks board turn [] g = refl
news-kept clocks board turn (n ∷ news) g = news-kept clocks board turn news (hears_answer clocks board turn n.answer g) ∙ answer-kept clocks board turn n.answer g

pub either-group : (c : Bool) (x g : GroupState) → members_of x ≡ members_of g → members_of (cond c x g) ≡ members_of g
either-group true x g h = h
either-group false x g h = refl

state-kept : (clocks : Clocks) (board start : ℕ) (s : State) (g : GroupState) → members_of (hears_state clocks board start s g) ≡ members_of g
state-kept clocks board start s g = either-group (nat_le start (s.turn + 1)) (hears_news clocks board s.turn s.news g) g (news-kept clocks board s.turn s.news g)

pub states-kept : (clocks : List Clocks) (board start : ℕ) (states : List State) (g : GroupState) → members_of (hears_states clocks board start states g) ≡ members_of g
states-kept [] board start states g = refl
states-kept (c ∷ clocks) board start [] g = refl
states-kept (c ∷ clocks) board start (s ∷ states) g = states-kept clocks (board + 1) start states (hears_state c board start s g) ∙ state-kept c board start s g

pub hears-rises : (clocks : List Clocks) (states : List State) (h : Homing) → IsRising h.group → IsRising (hears_all clocks states h).group
hears-rises clocks states h r = subst (λ (l : List Member). BoardsRise l) (sym (states-kept clocks 0 h.start states h.group)) r

-- nor do turns
turned-group : (c : Bool) (g x : GroupState) → members_of x ≡ members_of g → members_of (cond c g x) ≡ members_of g
turned-group true g x h = refl
turned-group false g x h = h

pub in-kept : (p : Phase) (g : GroupState) (turn : ℕ) → members_of (after_in p g turn) ≡ members_of g
in-kept (Sends round) g turn = refl
in-kept Goes g turn = turned-group (all_fired g.members) g _ refl
in-kept Rests g turn = refl

after-rises : (k : ℕ) (h : Homing) (o : Option End) → IsRising h.group → HomingRises (goes_on_homing k h o)
after-rises k h None r = subst (λ (l : List Member). BoardsRise l) (sym (in-kept (phase h.group.start h.group.last k) h.group k)) r
after-rises k h (Some end) r = tt

pub homing-rises : (clocks : List Clocks) (k : ℕ) (states : List State) (o : Option Homing) → HomingRises o → HomingRises (homing_after clocks k states o)
homing-rises clocks k states None r = tt
homing-rises clocks k states (Some h) r =
    let g = hears_all clocks states h in
    after-rises k g (answer_in k g.start g.group) (hears-rises clocks states h r)

-- a section's members stand in the order of the boards
abbrev Above : ℕ → List Member → Type 0
Above b ms = (j : ℕ) (d : Member) → j < length ms → b ≤ (get_or ms j d).board

above-cons : (b : ℕ) (x : Member) (ms : List Member) → b ≤ x.board → Above b ms → Above b (x ∷ ms)
above-cons b x ms h a zero d l = h
above-cons b x ms h a (suc j) d l = a j d (omega arith)

above-where : (c : Bool) (b moving : ℕ) (e : Bool) (ms : List Member) → Above (b + 1) ms → Above b (cond c (record { board = b; endstop = e; moving = moving } ∷ []) [] ++ ms)
above-where true b moving e ms a j d l = above-cons b (record { board = b; endstop = e; moving = moving }) ms (omega arith) (λ i x k. let h = a i x k in omega arith) j d l
above-where false b moving e ms a j d l = let h = a j d l in omega arith

from-above : (m : Machine) (axis : AxisDef) (moving b : ℕ) (boards : List BoardDef) → Above b (members_from m axis moving b boards)
from-above m axis moving b [] j d l = absurd (omega arith)
from-above m axis moving b (x ∷ boards) j d l =
    above-where ((axis.board == b) || nat_lt 0 (moving_on b moving m.steppers)) b (moving_on b moving m.steppers) (axis.board == b) (members_from m axis moving (b + 1) boards)
    (from-above m axis moving (b + 1) boards) j d l

rise-where : (c : Bool) (b moving : ℕ) (e : Bool) (ms : List Member) → Above (b + 1) ms → BoardsRise ms → BoardsRise (cond c (record { board = b; endstop = e; moving = moving } ∷ []) [] ++ ms)
rise-where true b moving e ms a r =
    AllPairs-cons (λ (x y : Member). x.board < y.board) (record { board = b; endstop = e; moving = moving }) ms (λ j d l. let h = a j d l in omega arith) r
rise-where false b moving e ms a r = r

from-rises : (m : Machine) (axis : AxisDef) (moving b : ℕ) (boards : List BoardDef) → BoardsRise (members_from m axis moving b boards)
from-rises m axis moving b [] = λ i j d lt within. absurd (omega arith)
from-rises m axis moving b (x ∷ boards) =
    rise-where ((axis.board == b) || nat_lt 0 (moving_on b moving m.steppers)) b (moving_on b moving m.steppers) (axis.board == b) (members_from m axis moving (b + 1) boards)
    (from-above m axis moving (b + 1) boards) (from-rises m axis moving (b + 1) boards)

pub unseen-members : (ms : List Member) → map (λ (s : Seen). s.member) (map unseen ms) ≡ ms
unseen-members [] = refl
unseen-members (x ∷ ms) = ap (λ (l : List Member). x ∷ l) (unseen-members ms)

group-rises : (c : Bool) (section axis turn start last : ℕ) (ms : List Member) → BoardsRise ms → HomingRises (homing_with section axis turn (cond c (Some (new_group ms start last)) None))
group-rises true section axis turn start last ms r = subst (λ (l : List Member). BoardsRise l) (sym (unseen-members ms)) r
group-rises false section axis turn start last ms r = tt

pub started-rises : (m : Machine) (section : ℕ) (what : SectionKind) (turn last moving : ℕ) → HomingRises (homing_of m section what turn last moving)
started-rises m section kind.Moves turn last moving = tt
started-rises m section (kind.Home axis) turn last moving =
    let ms = members_from m (axis_at m axis) moving 0 m.boards in
    group-rises (may_be (map unseen ms) turn last) section axis turn turn last ms (from-rises m (axis_at m axis) moving 0 m.boards)
