-- What every step of a board and its link keeps, where the commands that are queued are good and triggers may halt steppers.
use Rattle.std.proofs.Common.{◌≡◌, ℕ, true, ◌+◌, ◌≤◌, ◌⊎◌, List, [], ◌∷◌, ◌++◌, length, drop, Option, refl, ap, sym, ◌∙◌, subst, inl, inr, append_assoc, append-nil}
use Rattle.laws_board.proofs.Names.{append_cancel_left, take-append-drop, Running, Shut, Controller, is_shut, Rig, takes_all, Meant, commands_of, only, Event, IsOrdered, Core, Step, Do, Turn, takes_in, does, after_event, world_after, run_world}
use Rattle.board_sim.specs.Board.{stepper_at}
use Rattle.board_sim.specs.Fair.{AreFair}
use Rattle.board_sim.specs.Halted.{meant_behind, KeptPart}
use Rattle.board_sim.proofs.HaltedTakes.{commands_keep}
use Rattle.board_sim.proofs.RigShut.{all_left_by, passes_left}
use Rattle.board_world.specs.declared.event.Event.TheVariants.{Put, Control, Arrive, Repeat, Pass}
use Rattle.board_world.specs.World.{orders_of, IsFairAt}
use Rattle.board_world.proofs.Runs.{ordered_by, ordered_turn}
use Rattle.link_work.proofs.Steps.{tick_held}
use Rattle.laws_board.specs.sections.Events.{QueuesNothing}
use Rattle.laws_board.specs.sections.Known.{AreQueued, Sent, sent_at, orders_sent}
use Rattle.laws_board.specs.sections.Timely.{AreTimely, IsTimelyAt}
use Rattle.laws_board.specs.sections.Finds.{AllFindHalted, AllSetNot, StepsFindHalted}
use Rattle.laws_board.specs.sections.Courses.{Course, course_parts, IsFrom, IsStopped, no_course, course_behind, course_from, courses, AreMadeFor, IsMadeBy, AreGoodOn, AreAllGood, AreInTime, BeginLostOn, FindsFree, HeedsIn, HeedsAt, AllHeed, IsGoodOn}
use Rattle.laws_board.proofs.sections.Fits.{IsShutBy}
use Rattle.laws_board.proofs.sections.Taking.{shut_fair}
use Rattle.laws_board.proofs.sections.Lists.{up_append, up_behind, up_front, sent_front, orders_append, orders_at, own_up, cuts, longer, lost_for}
use Rattle.laws_board.proofs.sections.Standing.{BoardStands}
use Rattle.laws_board.proofs.sections.Commanding.{all_stand, since_all, stands_same, all_lost}
use Rattle.laws_board.proofs.sections.Running.{left_first}

-- what is to be known of a run: a board's ticks, where parts of its steppers' steps stop, its slots, and the commands: good ones, and
-- perhaps others behind them of which the first comes too late
pub record Script : Type 0 where
  pub own : ℕ → ℕ
  pub stops : ℕ → Option ℕ
  pub slots : ℕ
  pub all : List Sent
  pub front : List Sent
  pub tail : List Sent
  pub are : front ++ tail ≡ all
  pub up : (k : ℕ) → own k ≤ own (k + 1)
  pub ahead : (u : ℕ) → IsFrom u (stops u) → ⊥
  pub good : AreAllGood own stops slots front
  pub lost : BeginLostOn own stops slots (courses front) tail

-- what each stepper has made is made for the parts of its steps behind some commands
abbrev pub MadeFor : Script → List Sent → Core → Type 0
MadeFor p done h = (oid : ℕ) → AreMadeFor p.own p.stops (course_parts (courses done oid)) (only oid h.made)

-- the board runs: of the commands that were sent it took the first ones
pub record Going (p : Script) (by turn : ℕ) (sent : List Sent) (h : Core) : Type 0 where
  pub done : List Sent
  pub left : List Sent
  pub more : List Sent
  pub sent_is : sent ≡ done ++ left
  pub front_is : done ++ more ≡ p.front
  pub taken : orders_sent done ≡ h.taken
  pub stands : BoardStands p.own p.stops p.slots by turn (courses done) h.board.controller
  pub in_time : AreInTime p.stops by more
  pub made : (oid : ℕ) → IsMadeBy p.own p.stops oid (stepper_at h.board.controller oid) (courses done oid) (only oid h.made)

-- or it shut down, behind some of them
pub record Gone (p : Script) (h : Core) : Type 0 where
  pub shut : IsShutBy h.board.controller
  pub done : List Sent
  pub more : List Sent
  pub front_is : done ++ more ≡ p.front
  pub made : MadeFor p done h

pub record Keeps (p : Script) (by turn : ℕ) (sent : List Sent) (h : Core) : Type 0 where
  pub ordered : IsOrdered h
  pub queued : orders_sent sent ≡ h.queued
  pub turns : AreQueued by sent
  pub order : by ≤ turn
  pub rest : List Sent
  pub all_is : sent ++ rest ≡ p.all
  pub tick : h.board.controller.tick ≡ p.own turn
  pub kept : KeptPart h.board.controller h.made h.meant
  pub state : Going p by turn sent h ⊎ Gone p h

-- lists of commands
pub time_front : (stops : ℕ → Option ℕ) (turn : ℕ) (ss ts : List Sent) → AreInTime stops turn (ss ++ ts) → AreInTime stops turn ss
time_front stops turn [] ts a = tt
time_front stops turn (s ∷ ss) ts a = (a.0, time_front stops turn ss ts a.1)

pub time_behind : (stops : ℕ → Option ℕ) (turn : ℕ) (ss ts : List Sent) → AreInTime stops turn (ss ++ ts) → AreInTime stops turn ts
time_behind stops turn [] ts a = a
time_behind stops turn (s ∷ ss) ts a = time_behind stops turn ss ts a.1

pub course_append : (oid : ℕ) (c : Course) (ss ts : List Sent) → course_from oid c (ss ++ ts) ≡ course_from oid (course_from oid c ss) ts
course_append oid c [] ts = refl
course_append oid c (s ∷ ss) ts = course_append oid (course_behind oid c s) ss ts

pub good_behind : (own : ℕ → ℕ) (stops : ℕ → Option ℕ) (slots oid : ℕ) (c : Course) (ss ts : List Sent) → AreGoodOn own stops slots oid c (ss ++ ts) → AreGoodOn own stops slots oid (course_from oid c ss) ts
good_behind own stops slots oid c [] ts g = g
good_behind own stops slots oid c (s ∷ ss) ts g = good_behind own stops slots oid (course_behind oid c s) ss ts g.1

pub good_front : (own : ℕ → ℕ) (stops : ℕ → Option ℕ) (slots oid : ℕ) (c : Course) (ss ts : List Sent) → AreGoodOn own stops slots oid c (ss ++ ts) → AreGoodOn own stops slots oid c ss
good_front own stops slots oid c [] ts g = tt
good_front own stops slots oid c (s ∷ ss) ts g = (g.0, good_front own stops slots oid (course_behind oid c s) ss ts g.1)

-- the commands that a board takes are fair, and the state after it
abbrev Took : Script → ℕ → ℕ → List Sent → Core → Core → List Meant → Type 0
Took p by turn sent h g ms = AreFair h.board ms × (Going p by turn sent g ⊎ Gone p g)

-- each stepper whose part is stopped is halted before a board that runs takes a step of it, in some steps
abbrev pub Finds : Script → ℕ → ℕ → List Sent → Core → List Step → Type 0
Finds p by turn sent h steps = (r : Going p by turn sent h) → (oid : ℕ) → IsStopped p.stops by (courses r.done oid).since → StepsFindHalted oid h steps

-- so in some commands that the board takes
abbrev pub TakesFind : Script → ℕ → (ℕ → Course) → Rig → List Meant → Type 0
TakesFind p by cs r ms = (oid : ℕ) → IsStopped p.stops by (cs oid).since → AllFindHalted oid r ms

-- the first of the commands that are left are taken
takes_these : (p : Script) (by turn : ℕ) (sent : List Sent) (h g : Core) (r : Going p by turn sent h) (first m others : List Sent) → by ≤ turn → AreQueued by sent → r.more ≡ first ++ m → r.left ≡ first ++ others
    → AreTimely (p.own turn) (orders_sent first) → TakesFind p by (courses r.done) h.board (orders_sent first)
    → g.taken ≡ h.taken ++ orders_sent first → g.board ≡ (takes_all h.board (commands_of (orders_sent first))).rig → g.made ≡ h.made → Took p by turn sent h g (orders_sent first)
takes_these p by turn sent h g r first m others le old more left timely finds taken board made =
    let split : sent ≡ (r.done ++ first) ++ others = r.sent_is ∙ ap (λ x. r.done ++ x) left ∙ sym (append_assoc r.done first others) in
    let whole : r.done ++ (first ++ m) ≡ p.front = ap (λ x. r.done ++ x) (sym more) ∙ r.front_is in
    let Good : List Sent → Type 0 = λ x. AreAllGood p.own p.stops p.slots x in
    let good = λ (oid : ℕ). good_front p.own p.stops p.slots oid (courses r.done oid) first m (good_behind p.own p.stops p.slots oid no_course r.done (first ++ m) (subst Good (sym whole) p.good oid)) in
    let Old : List Sent → Type 0 = λ x. AreQueued by x in
    let Time : List Sent → Type 0 = λ x. AreInTime p.stops by x in
    let time = subst Time more r.in_time in
    let now = up_front by first others (up_behind by r.done (first ++ others) (subst Old (r.sent_is ∙ ap (λ x. r.done ++ x) left) old)) in
    let went = all_stand p.own (λ j k le. own_up p.own p.up j k le) p.stops p.slots by turn first (courses r.done) h.board r.stands le now good timely (time_front p.stops by first m time) finds in
    let e : (oid : ℕ) → courses (r.done ++ first) oid ≡ course_from oid (courses r.done oid) first = λ oid. course_append oid no_course r.done first in
    let At : Rig → Type 0 = λ x. BoardStands p.own p.stops p.slots by turn (courses (r.done ++ first)) x.controller in
    let To : Rig → Type 0 = λ x. IsShutBy x.controller in (
      went.0,
      elim went.1 [
        | inl w ↦ inl (record {
          done = r.done ++ first;
          left = others;
          more = m;
          sent_is = split;
          front_is = append_assoc r.done first m ∙ whole;
          taken = orders_append r.done first ∙ ap (λ x. x ++ orders_sent first) r.taken ∙ sym taken;
          stands = subst At (sym board) (stands_same p.own p.stops p.slots by turn (λ oid. course_from oid (courses r.done oid) first) (courses (r.done ++ first)) _ e w.0);
          in_time = time_behind p.stops by first m time;
          made = λ oid. rw (board, made, e oid) (w.1 oid (only oid h.made) (r.made oid));
        })
        | inr w ↦
            let (shut, stop) = w in
            let (done, more, is, to) = stop in
            inr (record {
              shut = subst To (sym board) shut;
              done = r.done ++ done;
              more = more ++ m;
              front_is = append_assoc r.done done (more ++ m) ∙ ap (λ x. r.done ++ x) (sym (append_assoc done more m) ∙ ap (λ x. x ++ m) (sym is)) ∙ whole;
              made = λ oid. rw (made, course_append oid no_course r.done done) (to oid (only oid h.made) (r.made oid));
            })
      ],
    )

-- all good ones that are left are taken, and the late one behind them
takes_lost : (p : Script) (by turn : ℕ) (sent : List Sent) (h g : Core) (r : Going p by turn sent h) (s : Sent) (m others behind : List Sent) → by ≤ turn → AreQueued by sent → p.tail ≡ s ∷ behind → r.left ≡ (r.more ++ s ∷ m) ++ others
    → AreTimely (p.own turn) (orders_sent (r.more ++ s ∷ m)) → TakesFind p by (courses r.done) h.board (orders_sent (r.more ++ s ∷ m))
    → ((takes_all h.board (commands_of (orders_sent r.more))).rig.controller.state ≡ Running → FindsFree (takes_all h.board (commands_of (orders_sent r.more))).rig.controller s.order.command)
    → g.board ≡ (takes_all h.board (commands_of (orders_sent (r.more ++ s ∷ m)))).rig → g.made ≡ h.made → Took p by turn sent h g (orders_sent (r.more ++ s ∷ m))
takes_lost p by turn sent h g r s m others behind le old tail left timely finds free board made =
    let l = r.more ++ s ∷ m in
    let Good : List Sent → Type 0 = λ x. AreAllGood p.own p.stops p.slots x in
    let Lost : List Sent → Type 0 = λ x. BeginLostOn p.own p.stops p.slots (courses p.front) x in
    let Old : List Sent → Type 0 = λ x. AreQueued by x in
    let To : Rig → Type 0 = λ x. IsShutBy x.controller in
    let good = λ (oid : ℕ). good_behind p.own p.stops p.slots oid no_course r.done r.more (subst Good (sym r.front_is) p.good oid) in
    let was : BeginLostOn p.own p.stops p.slots (courses p.front) (s ∷ behind) = subst Lost tail p.lost in
    let e : (oid : ℕ) → courses p.front oid ≡ course_from oid (courses r.done oid) r.more = λ oid. ap (λ x. courses x oid) (sym r.front_is) ∙ course_append oid no_course r.done r.more in
    let fine : (oid : ℕ) → IsGoodOn p.own p.stops p.slots oid s.turn (course_from oid (courses r.done oid) r.more) s.order.command s.order.ticks = λ oid.
    (let At : Course → Type 0 = λ c. IsGoodOn p.own p.stops p.slots oid s.turn c s.order.command s.order.ticks in subst At (e oid) (was.0 oid)) in
    let late = lost_for p.own s.turn (λ oid. (courses p.front oid).known) (λ oid. (course_from oid (courses r.done oid) r.more).known) s.order.command s.order.ticks (λ oid. ap (λ (c : Course). c.known) (e oid)) was.1 in
    let now = up_front by l others (up_behind by r.done (l ++ others) (subst Old (r.sent_is ∙ ap (λ x. r.done ++ x) left) old)) in
    let (fair, shut, stop) = all_lost p.own (λ j k le. own_up p.own p.up j k le) p.stops p.slots by turn r.more s m (courses r.done) h.board r.stands le now good (fine, late) timely r.in_time free finds in
    let (done, more, is, to) = stop in (
      fair,
      inr (record {
        shut = subst To (sym board) shut;
        done = r.done ++ done;
        more = more;
        front_is = append_assoc r.done done more ∙ ap (λ x. r.done ++ x) (sym is) ∙ r.front_is;
        made = λ oid. rw (made, course_append oid no_course r.done done) (to oid (only oid h.made) (r.made oid));
      }),
    )

-- with what the commands are
as_orders : (p : Script) (by turn : ℕ) (sent : List Sent) (h g : Core) (cs : ℕ → Course) (l : List Sent) (ms : List Meant) → orders_sent l ≡ ms
    → (AreTimely (p.own turn) (orders_sent l) → TakesFind p by cs h.board (orders_sent l) → g.taken ≡ h.taken ++ orders_sent l → g.board ≡ (takes_all h.board (commands_of (orders_sent l))).rig → Took p by turn sent h g (orders_sent l))
    → AreTimely (p.own turn) ms → TakesFind p by cs h.board ms → g.taken ≡ h.taken ++ ms → g.board ≡ (takes_all h.board (commands_of ms)).rig → Took p by turn sent h g ms
as_orders p by turn sent h g cs l ms e k =
    let At : List Meant → Type 0 = λ x. AreTimely (p.own turn) x → TakesFind p by cs h.board x → g.taken ≡ h.taken ++ x → g.board ≡ (takes_all h.board (commands_of x)).rig → Took p by turn sent h g x in
    subst At e k

going_took : (p : Script) (by turn : ℕ) (sent rest : List Sent) (h g : Core) (ms later : List Meant) (r : Going p by turn sent h) → sent ++ rest ≡ p.all → by ≤ turn → AreQueued by sent
    → (h.taken ++ ms) ++ later ≡ orders_sent sent → HeedsIn p.front p.tail h ms → g.made ≡ h.made → AreTimely (p.own turn) ms → TakesFind p by (courses r.done) h.board ms → g.taken ≡ h.taken ++ ms
    → g.board ≡ (takes_all h.board (commands_of ms)).rig → Took p by turn sent h g ms
going_took p by turn sent rest h g ms later r all le old queued heed made =
    let (l, others, left, is) = left_first r.done r.left ms later (rw (r.taken, ← r.sent_is) queued) in
    let here : l ++ (others ++ rest) ≡ r.more ++ p.tail =
    append_cancel_left r.done (l ++ (others ++ rest)) (r.more ++ p.tail)
    (ap (λ x. r.done ++ x) (sym (append_assoc l others rest)) ∙ sym (append_assoc r.done (l ++ others) rest) ∙ ap (λ x. (r.done ++ x) ++ rest) (sym left) ∙ ap (λ x. x ++ rest) (sym r.sent_is)
    ∙ all ∙ sym p.are ∙ ap (λ x. x ++ p.tail) (sym r.front_is) ∙ append_assoc r.done r.more p.tail) in
    elim (cuts l (others ++ rest) r.more p.tail here) [
      | inl c ↦ as_orders p by turn sent h g (courses r.done) l ms is (λ timely finds taken board. takes_these p by turn sent h g r l c.0 others le old c.1 left timely finds taken board made)
      | inr c ↦
          let (s, m, cut, tail) = c in
          let Heeds : List Sent → Type 0 = λ x. HeedsIn p.front x h ms in
          let mine : HeedsIn p.front (s ∷ m ++ (others ++ rest)) h ms = subst Heeds tail heed in
          let free = mine (orders_sent r.more) (orders_sent m) (sym is ∙ ap orders_sent cut ∙ orders_append r.more (s ∷ m)) (ap (λ x. x ++ orders_sent r.more) (sym r.taken) ∙ sym (orders_append r.done r.more) ∙ ap orders_sent r.front_is) in
          as_orders p by turn sent h g (courses r.done) (r.more ++ s ∷ m) ms (ap orders_sent (sym cut) ∙ is)
          (λ timely finds taken board. takes_lost p by turn sent h g r s m others (m ++ (others ++ rest)) le old tail (left ∙ ap (λ x. x ++ others) cut) timely finds free board made)
    ]

-- a board that is shut down
gone_took : (p : Script) (by turn : ℕ) (sent : List Sent) (h g : Core) (ms : List Meant) → Gone p h → g.board ≡ (takes_all h.board (commands_of ms)).rig → g.made ≡ h.made → Took p by turn sent h g ms
gone_took p by turn sent h g ms k board made =
    let (reason, tick, first, state, may) = k.shut in
    let left : g.board.controller ≡ h.board.controller = ap (λ (r : Rig). r.controller) board ∙ all_left_by h.board (commands_of ms) (ap is_shut state) in (
      shut_fair h.board ms reason tick first state,
      inr (record {
        shut = (reason, tick, first, ap (λ (x : Controller). x.state) left ∙ state, may);
        done = k.done;
        more = k.more;
        front_is = k.front_is;
        made = λ oid. rw made (k.made oid);
      }),
    )

-- a step that takes these commands and lets no time pass
takes_on : (p : Script) (by turn : ℕ) (sent : List Sent) (h g : Core) (ms : List Meant) → Keeps p by turn sent h → IsOrdered g → g.queued ≡ h.queued → g.taken ≡ h.taken ++ ms
    → g.board ≡ (takes_all h.board (commands_of ms)).rig → g.meant ≡ meant_behind h.board h.made h.meant ms → g.made ≡ h.made → g.board.controller.tick ≡ h.board.controller.tick
    → (h.board.controller.state ≡ Running → AreTimely h.board.controller.tick ms) → HeedsIn p.front p.tail h ms
    → ((r : Going p by turn sent h) → TakesFind p by (courses r.done) h.board ms) → AreFair h.board ms × Keeps p by turn sent g
takes_on p by turn sent h g ms k ordered queued taken board meant made tick timely heed finds =
    let n = length g.link.taken in
    let later : (h.taken ++ ms) ++ drop n g.queued ≡ orders_sent sent =
    ap (λ x. x ++ drop n g.queued) (sym taken ∙ ordered.first) ∙ take-append-drop n g.queued ∙ queued ∙ sym k.queued in
    let At : ℕ → Type 0 = λ x. AreTimely x ms in
    let took : Took p by turn sent h g ms = elim k.state [
      | inl r ↦ going_took p by turn sent k.rest h g ms (drop n g.queued) r k.all_is k.order k.turns later heed made (subst At k.tick (timely r.stands.running)) (finds r) taken board
      | inr e ↦ gone_took p by turn sent h g ms e board made
    ] in (
      took.0,
      record {
        ordered = ordered;
        queued = k.queued ∙ sym queued;
        turns = k.turns;
        order = k.order;
        rest = k.rest;
        all_is = k.all_is;
        tick = tick ∙ k.tick;
        kept = rw (board, made, meant) (commands_keep h.board ms h.made h.meant k.kept took.0);
        state = took.1;
      },
    )

abbrev pub StepKeeps : Script → ℕ → ℕ → List Sent → Core → Step → Type 0
StepKeeps p by turn sent h s = IsFairAt h s × Keeps p by turn sent (world_after h s)

-- an event that queues nothing and lets no time pass
event_keeps : (p : Script) (by turn : ℕ) (sent : List Sent) (h : Core) (e : Event) → orders_of e ≡ [] → Keeps p by turn sent h
    → (does h e).board ≡ (takes_all h.board (commands_of (takes_in h e))).rig → (does h e).pulses ≡ [] → (does h e).board.controller.tick ≡ h.board.controller.tick
    → (h.board.controller.state ≡ Running → AreTimely h.board.controller.tick (takes_in h e)) → HeedsIn p.front p.tail h (takes_in h e)
    → Finds p by turn sent h (Do e ∷ []) → AreFair h.board (takes_in h e) × Keeps p by turn sent (after_event h e)
event_keeps p by turn sent h e none k board made tick timely heed finds =
    takes_on p by turn sent h (after_event h e) (takes_in h e) k (ordered_by h e k.ordered) (ap (λ x. h.queued ++ x) none ∙ append-nil h.queued) refl board refl (ap (λ x. h.made ++ x) made ∙ append-nil h.made) tick timely heed
    (λ r oid st. (finds r oid st).0)

pub quiet_keeps : (p : Script) (by turn : ℕ) (sent : List Sent) (h : Core) (s : Step) → QueuesNothing s → Keeps p by turn sent h → IsTimelyAt h s → HeedsAt p.front p.tail h s → Finds p by turn sent h (s ∷ []) → StepKeeps p by turn sent h s
quiet_keeps p by turn sent h (Turn n) q k timely heed finds = (
  tt,
  record {
    ordered = ordered_turn h n k.ordered;
    queued = k.queued;
    turns = k.turns;
    order = k.order;
    rest = k.rest;
    all_is = k.all_is;
    tick = k.tick;
    kept = k.kept;
    state = elim k.state [
      | inl r ↦ inl (record { done = r.done; left = r.left; more = r.more; sent_is = r.sent_is; front_is = r.front_is; taken = r.taken; stands = r.stands; in_time = r.in_time; made = r.made })
      | inr e ↦ inr (record { shut = e.shut; done = e.done; more = e.more; front_is = e.front_is; made = e.made })
    ];
  },
)
quiet_keeps p by turn sent h (Do (Put b)) q k timely heed finds = absurd q
quiet_keeps p by turn sent h (Do (Control c)) q k timely heed finds = absurd q
quiet_keeps p by turn sent h (Do (Pass t)) q k timely heed finds = absurd q
quiet_keeps p by turn sent h (Do Arrive) q k timely heed finds = event_keeps p by turn sent h Arrive refl k refl refl (tick_held (Do Arrive ∷ []) h (tt, tt)) timely heed finds
quiet_keeps p by turn sent h (Do Repeat) q k timely heed finds = event_keeps p by turn sent h Repeat refl k refl refl (tick_held (Do Repeat ∷ []) h (tt, tt)) timely heed finds
quiet_keeps p by turn sent h (Do e) q k timely heed finds = event_keeps p by turn sent h e refl k refl refl refl timely heed finds

-- what is queued in a turn
pub queues_on : (p : Script) (by turn : ℕ) (sent rest : List Sent) (h : Core) (e : Event) → Keeps p by turn sent h → (sent ++ sent_at by (orders_of e)) ++ rest ≡ p.all
    → AreQueued by (sent_at by (orders_of e)) → takes_in h e ≡ [] → (does h e).board ≡ h.board → (does h e).pulses ≡ [] → Keeps p by turn (sent ++ sent_at by (orders_of e)) (after_event h e)
queues_on p by turn sent rest h e k all old none board made =
    let new = sent_at by (orders_of e) in
    let taken : h.taken ++ takes_in h e ≡ h.taken = ap (λ x. h.taken ++ x) none ∙ append-nil h.taken in
    let same : meant_behind h.board h.made h.meant (takes_in h e) ≡ h.meant = ap (meant_behind h.board h.made h.meant) none in
    let does_make : h.made ++ (does h e).pulses ≡ h.made = ap (λ x. h.made ++ x) made ∙ append-nil h.made in
    record {
      ordered = ordered_by h e k.ordered;
      queued = orders_append sent new ∙ ap (λ x. orders_sent sent ++ x) (orders_at by (orders_of e)) ∙ ap (λ x. x ++ orders_of e) k.queued;
      turns = up_append by sent new k.turns old;
      order = k.order;
      rest = rest;
      all_is = all;
      tick = ap (λ (x : Rig). x.controller.tick) board ∙ k.tick;
      kept = rw (board, made, same, append-nil h.made) k.kept;
      state = elim k.state [
        | inl r ↦ inl (record {
          done = r.done;
          left = r.left ++ new;
          more = r.more;
          front_is = r.front_is;
          sent_is = ap (λ x. x ++ new) r.sent_is ∙ append_assoc r.done r.left new;
          taken = r.taken ∙ sym taken;
          stands = (let At : Rig → Type 0 = λ b. BoardStands p.own p.stops p.slots by turn (courses r.done) b.controller in subst At (sym board) r.stands);
          in_time = r.in_time;
          made = λ oid. rw (board, does_make) (r.made oid);
        })
        | inr d ↦ inr (record {
          shut = (let Shut : Rig → Type 0 = λ b. IsShutBy b.controller in subst Shut (sym board) d.shut);
          done = d.done;
          more = d.more;
          front_is = d.front_is;
          made = λ oid. rw does_make (d.made oid);
        })
      ];
    }

-- where nothing comes too late
pub none_heed : (front tail : List Sent) (steps : List Step) (h : Core) → tail ≡ [] → AllHeed front tail h steps
none_heed front tail steps h none = let At : List Sent → Type 0 = λ x. AllHeed front x h steps in subst At (sym none) (all steps h)
  where
    one : (h : Core) (s : Step) → HeedsAt front [] h s
    one h (Do e) = tt
    one h (Turn turn) = tt

    all : (steps : List Step) (h : Core) → AllHeed front [] h steps
    all [] h = tt
    all (s ∷ steps) h = (one h s, all steps (world_after h s))

-- steps in two parts
pub heed_front : (front tail : List Sent) (xs ys : List Step) (h : Core) → AllHeed front tail h (xs ++ ys) → AllHeed front tail h xs
heed_front front tail [] ys h a = tt
heed_front front tail (x ∷ xs) ys h a = (a.0, heed_front front tail xs ys (world_after h x) a.1)

pub heed_behind : (front tail : List Sent) (xs ys : List Step) (h : Core) → AllHeed front tail h (xs ++ ys) → AllHeed front tail (run_world xs h) ys
heed_behind front tail [] ys h a = a
heed_behind front tail (x ∷ xs) ys h a = heed_behind front tail xs ys (world_after h x) a.1

-- and each of some steps finds what is to be halted so
find_first : (oid : ℕ) (h : Core) (s : Step) (steps : List Step) → StepsFindHalted oid h (s ∷ steps) → StepsFindHalted oid h (s ∷ [])
find_first oid h (Do e) steps f = (f.0, λ none. tt)
find_first oid h (Turn turn) steps f = tt

pub finds_first : (p : Script) (by turn : ℕ) (sent : List Sent) (h : Core) (s : Step) (steps : List Step) → Finds p by turn sent h (s ∷ steps) → Finds p by turn sent h (s ∷ [])
finds_first p by turn sent h s steps f = λ r oid st. find_first oid h s steps (f r oid st)

-- what a step takes
abbrev takes_at : Core → Step → List Meant
takes_at h (Do e) = takes_in h e
takes_at h (Turn turn) = []

took_at : (h : Core) (s : Step) → (world_after h s).taken ≡ h.taken ++ takes_at h s
took_at h (Do e) = refl
took_at h (Turn turn) = sym (append-nil h.taken)

find_next : (oid : ℕ) (h : Core) (s : Step) (steps : List Step) → AllSetNot oid (takes_at h s) → StepsFindHalted oid h (s ∷ steps) → StepsFindHalted oid (world_after h s) steps
find_next oid h (Do e) steps none f = f.1 none
find_next oid h (Turn turn) steps none f = f

-- a board that is shut down stays so
shut_event : (h : Core) (e : Event) → is_shut h.board.controller.state ≡ true → (does h e).board.controller.state ≡ h.board.controller.state
shut_event h Arrive k = ap (λ (x : Controller). x.state) (all_left_by h.board (commands_of (takes_in h Arrive)) k)
shut_event h Repeat k = ap (λ (x : Controller). x.state) (all_left_by h.board (commands_of (takes_in h Repeat)) k)
shut_event h (Pass t) k = (passes_left h.board t k).1
shut_event h e k = refl

pub shut_step : (h : Core) (s : Step) → is_shut h.board.controller.state ≡ true → (world_after h s).board.controller.state ≡ h.board.controller.state
shut_step h (Do e) k = shut_event h e k
shut_step h (Turn turn) k = refl

pub not_both : (r t f : ℕ) → Shut r t f ≡ Running → ⊥
not_both r t f e = cc

pub finds_next : (p : Script) (by turn next : ℕ) (sent all : List Sent) (h : Core) (s : Step) (steps : List Step) → Keeps p by turn sent h → Finds p by turn sent h (s ∷ steps) → Finds p by next all (world_after h s) steps
finds_next p by turn next sent all h s steps k f = λ r oid st.
    elim k.state [
      | inl was ↦
          let ms = takes_at h s in
          let took : orders_sent r.done ≡ orders_sent was.done ++ ms = r.taken ∙ took_at h s ∙ ap (λ x. x ++ ms) (sym was.taken) in
          let (mid, done, more) = longer r.done r.more was.done was.more ms (r.front_is ∙ sym was.front_is) took in
          let Time : List Sent → Type 0 = λ x. AreInTime p.stops by x in
          let in_time = time_front p.stops by mid r.more (subst Time (sym more) was.in_time) in
          let course : courses r.done oid ≡ course_from oid (courses was.done oid) mid = ap (λ x. courses x oid) done ∙ course_append oid no_course was.done mid in
          let Stopped : Course → Type 0 = λ c. IsStopped p.stops by c.since in
          let old = since_all p.stops by oid (courses was.done oid) mid in_time (subst Stopped course st) in
          let same : orders_sent mid ≡ ms = append_cancel_left (orders_sent was.done) (orders_sent mid) ms (sym (orders_append was.done mid) ∙ ap orders_sent (sym done) ∙ took) in
          let SetNot : List Meant → Type 0 = λ x. AllSetNot oid x in
          find_next oid h s steps (subst SetNot same old.1) (f was oid old.0)
      | inr d ↦
          let (reason, tick, first, state, may) = d.shut in
          absurd (not_both reason tick first (sym state ∙ sym (shut_step h s (ap is_shut state)) ∙ r.stands.running))
    ]
