-- What every step of a run keeps, where the commands that are queued are good.
use Rattle.std.proofs.Common.{◌≡◌, ℕ, ◌+◌, ◌≤◌, ◌⊎◌, List, [], ◌∷◌, ◌++◌, length, drop, refl, ap, sym, ◌∙◌, subst, inl, inr, append_assoc, append-nil}
use Rattle.laws_board.proofs.Names.{append_cancel_left, take-append-drop, Running, Controller, is_shut, Rig, takes_all, Meant, commands_of, only, Event, IsOrdered, Core, Step, Do, Turn, takes_in, does, after_event, world_after}
use Rattle.board_sim.specs.Fair.{AreFair}
use Rattle.board_sim.specs.Halted.{meant_behind, KeptPart}
use Rattle.board_sim.proofs.HaltedTakes.{commands_keep}
use Rattle.board_sim.proofs.RigShut.{all_left_by}
use Rattle.board_sim.proofs.Steps.{only-append}
use Rattle.board_world.specs.declared.event.Event.TheVariants.{Put, Control, Arrive, Repeat, Pass}
use Rattle.board_world.specs.Units.{FindSteppers, FindsAt}
use Rattle.board_world.specs.World.{orders_of, IsFairAt}
use Rattle.board_world.proofs.Runs.{ordered_by, ordered_turn}
use Rattle.link_work.proofs.Steps.{tick_held}
use Rattle.laws_board.specs.sections.Events.{QueuesNothing}
use Rattle.laws_board.specs.sections.Known.{AreQueued, Sent, sent_at, orders_sent, Known, unknown, known_from, known_steppers, AreGood, BeginLost}
use Rattle.laws_board.specs.sections.Timely.{AreTimely, IsTimelyAt}
use Rattle.laws_board.proofs.sections.Fits.{IsShutBy}
use Rattle.laws_board.proofs.sections.Taking.{IsFront, RigFits, meant_by_all, meant_is, front_front, all_grow, all_go, shut_fair, shut_finds, shut_means}
use Rattle.laws_board.proofs.sections.Lists.{cuts, sent_front, orders_append, orders_at, known_append, good_front, good_behind, lost_same, up_append, up_front, up_behind, up_at, old_up}

-- what is to be known of a run: a board's ticks, its slots, and the commands: good ones, and perhaps others behind them of
-- which the first is lost
pub record Plan : Type 0 where
  pub own : ℕ → ℕ
  pub slots : ℕ
  pub front : List Sent
  pub tail : List Sent
  pub up : (k : ℕ) → own k ≤ own (k + 1)
  pub good : AreGood own slots front
  pub lost : BeginLost own slots (known_steppers front) tail

-- the board runs: of the commands that were sent it took the first ones, which are good
pub record RunsOn (p : Plan) (turn : ℕ) (sent : List Sent) (h : Core) : Type 0 where
  pub done : List Sent
  pub left : List Sent
  pub more : List Sent
  pub sent_is : sent ≡ done ++ left
  pub taken : orders_sent done ≡ h.taken
  pub front_is : done ++ more ≡ p.front
  pub fits : RigFits (p.own turn) p.slots (known_steppers done) h.board
  pub meant : (oid : ℕ) → only oid h.meant ≡ (known_steppers done oid).steps

-- or it shut down
pub record Ended (p : Plan) (h : Core) : Type 0 where
  pub shut : IsShutBy h.board.controller
  pub meant : (oid : ℕ) → IsFront (only oid h.meant) (known_steppers p.front oid).steps

pub record Holds (p : Plan) (turn : ℕ) (sent : List Sent) (h : Core) : Type 0 where
  pub ordered : IsOrdered h
  pub queued : orders_sent sent ≡ h.queued
  pub turns : AreQueued turn sent
  pub rest : List Sent
  pub all : sent ++ rest ≡ p.front ++ p.tail
  pub tick : h.board.controller.tick ≡ p.own turn
  pub kept : KeptPart h.board.controller h.made h.meant
  pub state : RunsOn p turn sent h ⊎ Ended p h

fits_same : (now slots : ℕ) (ks ls : ℕ → Known) (r : Rig) → ((oid : ℕ) → ks oid ≡ ls oid) → RigFits now slots ks r → RigFits now slots ls r
fits_same now slots ks ls r e fits =
    let f = fits.steppers in
    record {
      steppers = record { running = f.running; tick = f.tick; slots_are = f.slots_are; places = f.places; each = λ oid. rw (← (e oid)) (f.each oid) };
      free = fits.free;
    }

-- the commands that a board takes are fair, and find their steppers, and the state after it
abbrev Took : Plan → ℕ → List Sent → Core → Core → List Meant → Type 0
Took p turn sent h g ms = AreFair h.board ms × FindSteppers h.board ms × (RunsOn p turn sent g ⊎ Ended p g)

-- what the first commands left are
pub left_first : (done left : List Sent) (ms rest : List Meant) → (orders_sent done ++ ms) ++ rest ≡ orders_sent (done ++ left)
    → (first : List Sent) × (others : List Sent) × (left ≡ first ++ others) × (orders_sent first ≡ ms)
left_first done left ms rest e =
    sent_front ms rest left (append_cancel_left (orders_sent done) (ms ++ rest) (orders_sent left) (sym (append_assoc (orders_sent done) ms rest) ∙ e ∙ orders_append done left))

-- the steps of the good commands that are taken are a front of those of all good ones
front_of_all : (p : Plan) (done more ss m : List Sent) → done ++ more ≡ p.front → more ≡ ss ++ m → (oid : ℕ)
    → IsFront (known_from oid (known_steppers done oid) ss).steps (known_steppers p.front oid).steps
front_of_all p done more ss m e f oid =
    let last = known_from oid (known_steppers done oid) ss in
    let all : known_steppers p.front oid ≡ known_from oid last m =
    ap (λ x. known_steppers x oid) (sym e) ∙ known_append oid unknown done more ∙ ap (λ x. known_from oid (known_steppers done oid) x) f ∙ known_append oid (known_steppers done oid) ss m in
    rw all (all_grow oid last m)

-- the first of the commands that are left are taken
takes_these : (p : Plan) (turn : ℕ) (sent : List Sent) (h g : Core) (r : RunsOn p turn sent h) (ss t m others : List Sent) → r.more ≡ ss ++ m → r.left ≡ (ss ++ t) ++ others
    → BeginLost p.own p.slots (λ oid. known_from oid (known_steppers r.done oid) ss) t → AreQueued turn (ss ++ t) → AreTimely (p.own turn) (orders_sent (ss ++ t))
    → g.taken ≡ h.taken ++ orders_sent (ss ++ t) → g.board ≡ (takes_all h.board (commands_of (orders_sent (ss ++ t)))).rig → g.meant ≡ meant_behind h.board h.made h.meant (orders_sent (ss ++ t))
    → Took p turn sent h g (orders_sent (ss ++ t))
takes_these p turn sent h g r ss t m others more left lost up timely taken board meant =
    let now = p.own turn in
    let ahead = λ (oid : ℕ). rw more at (good_behind p.own p.slots oid unknown r.done r.more (rw (← r.front_is) at (p.good oid))) in
    let good = λ (oid : ℕ). good_front p.own p.slots oid (known_steppers r.done oid) ss m (ahead oid) in
    let went = all_go p.own now p.slots ss t (known_steppers r.done) h.board r.fits (old_up p.own p.up turn (ss ++ t) up) good lost timely in
    let new = meant_by_all h.board (orders_sent (ss ++ t)) in
    let sofar = λ (oid : ℕ). ap (only oid) (meant ∙ meant_is h.board h.made h.meant (orders_sent (ss ++ t)) went.1) ∙ only-append oid h.meant new ∙ ap (λ x. x ++ only oid new) (r.meant oid) in (
      went.0,
      went.1,
      elim went.2 [
        | inl w ↦
            let same : ss ++ t ≡ ss = ap (λ x. ss ++ x) w.1 ∙ append-nil ss in
            let At : Rig → Type 0 = λ b. RigFits now p.slots (λ oid. known_from oid (known_steppers r.done oid) ss) b in
            inl (record {
              done = r.done ++ ss;
              left = others;
              more = m;
              sent_is = r.sent_is ∙ ap (λ x. r.done ++ x) (left ∙ ap (λ x. x ++ others) same) ∙ sym (append_assoc r.done ss others);
              taken = orders_append r.done ss ∙ ap (λ x. x ++ orders_sent ss) r.taken ∙ ap (λ x. h.taken ++ orders_sent x) (sym same) ∙ sym taken;
              front_is = append_assoc r.done ss m ∙ ap (λ x. r.done ++ x) (sym more) ∙ r.front_is;
              fits = fits_same now p.slots (λ oid. known_from oid (known_steppers r.done oid) ss) (known_steppers (r.done ++ ss)) g.board (λ oid. sym (known_append oid unknown r.done ss)) (subst At (sym board) w.0);
              meant = λ oid. sofar oid ∙ w.2 oid ∙ ap (λ (k : Known). k.steps) (sym (known_append oid unknown r.done ss));
            })
        | inr w ↦
            inr (record {
              shut = (let Shut : Rig → Type 0 = λ b. IsShutBy b.controller in subst Shut (sym board) w.0);
              meant = λ oid. rw (sofar oid) (front_front ((known_steppers r.done oid).steps ++ only oid new) (known_from oid (known_steppers r.done oid) ss).steps (known_steppers p.front oid).steps (w.1 oid)
                  (front_of_all p r.done r.more ss m r.front_is more oid));
            })
      ],
    )

-- with what the commands are
as_orders : (p : Plan) (turn : ℕ) (sent : List Sent) (h g : Core) (ss : List Sent) (ms : List Meant) → orders_sent ss ≡ ms
    → (AreTimely (p.own turn) (orders_sent ss) → g.taken ≡ h.taken ++ orders_sent ss → g.board ≡ (takes_all h.board (commands_of (orders_sent ss))).rig
    → g.meant ≡ meant_behind h.board h.made h.meant (orders_sent ss) → Took p turn sent h g (orders_sent ss))
    → AreTimely (p.own turn) ms → g.taken ≡ h.taken ++ ms → g.board ≡ (takes_all h.board (commands_of ms)).rig → g.meant ≡ meant_behind h.board h.made h.meant ms → Took p turn sent h g ms
as_orders p turn sent h g ss ms e k =
    let At : List Meant → Type 0 = λ x. AreTimely (p.own turn) x → g.taken ≡ h.taken ++ x → g.board ≡ (takes_all h.board (commands_of x)).rig
    → g.meant ≡ meant_behind h.board h.made h.meant x → Took p turn sent h g x in
    subst At e k

runs_took : (p : Plan) (turn : ℕ) (sent rest : List Sent) (h g : Core) (ms later : List Meant) (r : RunsOn p turn sent h) → sent ++ rest ≡ p.front ++ p.tail → AreQueued turn sent
    → (h.taken ++ ms) ++ later ≡ orders_sent sent → AreTimely (p.own turn) ms → g.taken ≡ h.taken ++ ms → g.board ≡ (takes_all h.board (commands_of ms)).rig
    → g.meant ≡ meant_behind h.board h.made h.meant ms → Took p turn sent h g ms
runs_took p turn sent rest h g ms later r all up queued =
    let firsts = left_first r.done r.left ms later (rw (r.taken, ← r.sent_is) queued) in
    let (l, others, left, is) = firsts in
    let now_up : AreQueued turn (l ++ others) = rw left at (up_behind turn r.done r.left (rw r.sent_is at up)) in
    let here : l ++ (others ++ rest) ≡ r.more ++ p.tail =
    append_cancel_left r.done (l ++ (others ++ rest)) (r.more ++ p.tail)
    (ap (λ x. r.done ++ x) (sym (append_assoc l others rest)) ∙ sym (append_assoc r.done (l ++ others) rest) ∙ ap (λ x. (r.done ++ x) ++ rest) (sym left) ∙ ap (λ x. x ++ rest) (sym r.sent_is)
    ∙ all ∙ ap (λ x. x ++ p.tail) (sym r.front_is) ∙ append_assoc r.done r.more p.tail) in
    elim (cuts l (others ++ rest) r.more p.tail here) [
      | inl c ↦
          let none : l ++ [] ≡ l = append-nil l in
          as_orders p turn sent h g (l ++ []) ms (ap orders_sent none ∙ is)
          (takes_these p turn sent h g r l [] c.0 others c.1 (left ∙ ap (λ x. x ++ others) (sym none)) tt (rw none (up_front turn l others now_up)))
      | inr c ↦
          let (s, m, cut, lost) = c in
          let more_nil : r.more ≡ r.more ++ [] = sym (append-nil r.more) in
          let Lost : List Sent → Type 0 = λ x. BeginLost p.own p.slots (known_steppers p.front) x in
          let was : BeginLost p.own p.slots (known_steppers p.front) (s ∷ m ++ (others ++ rest)) = subst Lost lost p.lost in
          let front_known : (oid : ℕ) → known_steppers p.front oid ≡ known_from oid (known_steppers r.done oid) r.more = λ oid. ap (λ x. known_steppers x oid) (sym r.front_is) ∙ known_append oid unknown r.done r.more in
          as_orders p turn sent h g (r.more ++ s ∷ m) ms (ap orders_sent (sym cut) ∙ is)
          (takes_these p turn sent h g r r.more (s ∷ m) [] others more_nil (left ∙ ap (λ x. x ++ others) cut) (lost_same p.own p.slots s m (m ++ (others ++ rest)) (known_steppers p.front) (λ oid. known_from oid (known_steppers r.done oid) r.more) front_known was)
          (rw (← cut) (up_front turn l others now_up)))
    ]

-- a board that is shut down
ended_took : (p : Plan) (turn : ℕ) (sent : List Sent) (h g : Core) (ms : List Meant) → Ended p h → g.board ≡ (takes_all h.board (commands_of ms)).rig
    → g.meant ≡ meant_behind h.board h.made h.meant ms → Took p turn sent h g ms
ended_took p turn sent h g ms ended board meant =
    let (reason, tick, first, state, may) = ended.shut in
    let none = shut_means h.board ms reason tick first state in
    let finds = shut_finds h.board ms reason tick first state in
    let same : g.meant ≡ h.meant = meant ∙ meant_is h.board h.made h.meant ms finds ∙ ap (λ x. h.meant ++ x) none ∙ append-nil h.meant in
    let left : g.board.controller ≡ h.board.controller = ap (λ (r : Rig). r.controller) board ∙ all_left_by h.board (commands_of ms) (ap is_shut state) in (
      shut_fair h.board ms reason tick first state,
      finds,
      inr (record {
        shut = (reason, tick, first, ap (λ (x : Controller). x.state) left ∙ state, may);
        meant = λ oid. rw same (ended.meant oid);
      }),
    )

-- a step that takes these commands and lets no time pass
takes_on : (p : Plan) (turn : ℕ) (sent : List Sent) (h g : Core) (ms : List Meant) → Holds p turn sent h → IsOrdered g → g.queued ≡ h.queued → g.taken ≡ h.taken ++ ms
    → g.board ≡ (takes_all h.board (commands_of ms)).rig → g.meant ≡ meant_behind h.board h.made h.meant ms → g.made ≡ h.made → g.board.controller.tick ≡ h.board.controller.tick
    → (h.board.controller.state ≡ Running → AreTimely h.board.controller.tick ms) → AreFair h.board ms × FindSteppers h.board ms × Holds p turn sent g
takes_on p turn sent h g ms k ordered queued taken board meant made tick timely =
    let n = length g.link.taken in
    let later : (h.taken ++ ms) ++ drop n g.queued ≡ orders_sent sent =
    ap (λ x. x ++ drop n g.queued) (sym taken ∙ ordered.first) ∙ take-append-drop n g.queued ∙ queued ∙ sym k.queued in
    let At : ℕ → Type 0 = λ x. AreTimely x ms in
    let took : Took p turn sent h g ms = elim k.state [
      | inl r ↦ runs_took p turn sent k.rest h g ms (drop n g.queued) r k.all k.turns later (subst At k.tick (timely r.fits.steppers.running)) taken board meant
      | inr e ↦ ended_took p turn sent h g ms e board meant
    ] in (
      took.0,
      took.1,
      record {
        ordered = ordered;
        queued = k.queued ∙ sym queued;
        turns = k.turns;
        rest = k.rest;
        all = k.all;
        tick = tick ∙ k.tick;
        kept = rw (board, made, meant) (commands_keep h.board ms h.made h.meant k.kept took.0);
        state = took.2;
      },
    )

abbrev StepHolds : Plan → ℕ → List Sent → Core → Step → Type 0
StepHolds p turn sent h s = IsFairAt h s × FindsAt h s × Holds p turn sent (world_after h s)

-- an event that queues nothing and lets no time pass
event_holds : (p : Plan) (turn : ℕ) (sent : List Sent) (h : Core) (e : Event) → orders_of e ≡ [] → Holds p turn sent h
    → (does h e).board ≡ (takes_all h.board (commands_of (takes_in h e))).rig → (does h e).pulses ≡ [] → (does h e).board.controller.tick ≡ h.board.controller.tick
    → (h.board.controller.state ≡ Running → AreTimely h.board.controller.tick (takes_in h e))
    → AreFair h.board (takes_in h e) × FindSteppers h.board (takes_in h e) × Holds p turn sent (after_event h e)
event_holds p turn sent h e none k board made tick timely =
    takes_on p turn sent h (after_event h e) (takes_in h e) k (ordered_by h e k.ordered) (ap (λ x. h.queued ++ x) none ∙ append-nil h.queued) refl board refl (ap (λ x. h.made ++ x) made ∙ append-nil h.made) tick timely

pub quiet_holds : (p : Plan) (turn : ℕ) (sent : List Sent) (h : Core) (s : Step) → QueuesNothing s → Holds p turn sent h → IsTimelyAt h s → StepHolds p turn sent h s
quiet_holds p turn sent h (Turn n) q k timely = (
  tt,
  tt,
  record {
    ordered = ordered_turn h n k.ordered;
    queued = k.queued;
    turns = k.turns;
    rest = k.rest;
    all = k.all;
    tick = k.tick;
    kept = k.kept;
    state = elim k.state [
      | inl r ↦ inl (record { done = r.done; left = r.left; more = r.more; sent_is = r.sent_is; taken = r.taken; front_is = r.front_is; fits = r.fits; meant = r.meant })
      | inr e ↦ inr (record { shut = e.shut; meant = e.meant })
    ];
  },
)
quiet_holds p turn sent h (Do (Put b)) q k timely = absurd q
quiet_holds p turn sent h (Do (Control c)) q k timely = absurd q
quiet_holds p turn sent h (Do (Pass t)) q k timely = absurd q
quiet_holds p turn sent h (Do Arrive) q k timely =
    event_holds p turn sent h Arrive refl k refl refl (tick_held (Do Arrive ∷ []) h (tt, tt)) timely
quiet_holds p turn sent h (Do Repeat) q k timely =
    event_holds p turn sent h Repeat refl k refl refl (tick_held (Do Repeat ∷ []) h (tt, tt)) timely
quiet_holds p turn sent h (Do e) q k timely = event_holds p turn sent h e refl k refl refl refl timely

-- what is queued in a turn
pub queues_on : (p : Plan) (turn : ℕ) (sent rest : List Sent) (h : Core) (e : Event) → Holds p turn sent h → (sent ++ sent_at turn (orders_of e)) ++ rest ≡ p.front ++ p.tail
    → takes_in h e ≡ [] → (does h e).board ≡ h.board → (does h e).pulses ≡ [] → Holds p turn (sent ++ sent_at turn (orders_of e)) (after_event h e)
queues_on p turn sent rest h e k all none board made =
    let new = sent_at turn (orders_of e) in
    let taken : h.taken ++ takes_in h e ≡ h.taken = ap (λ x. h.taken ++ x) none ∙ append-nil h.taken in
    let same : meant_behind h.board h.made h.meant (takes_in h e) ≡ h.meant = ap (meant_behind h.board h.made h.meant) none in
    let Fitting : List Sent → Rig → Type 0 = λ d b. RigFits (p.own turn) p.slots (known_steppers d) b in
    record {
      ordered = ordered_by h e k.ordered;
      queued = orders_append sent new ∙ ap (λ x. orders_sent sent ++ x) (orders_at turn (orders_of e)) ∙ ap (λ x. x ++ orders_of e) k.queued;
      turns = up_append turn sent new k.turns (up_at turn (orders_of e));
      rest = rest;
      all = all;
      tick = ap (λ (x : Rig). x.controller.tick) board ∙ k.tick;
      kept = rw (board, made, same, append-nil h.made) k.kept;
      state = elim k.state [
        | inl r ↦ inl (record {
          done = r.done;
          left = r.left ++ new;
          more = r.more;
          sent_is = ap (λ x. x ++ new) r.sent_is ∙ append_assoc r.done r.left new;
          taken = r.taken ∙ sym taken;
          front_is = r.front_is;
          fits = subst (Fitting r.done) (sym board) r.fits;
          meant = λ oid. ap (only oid) same ∙ r.meant oid;
        })
        | inr d ↦ inr (record {
          shut = (let Shut : Rig → Type 0 = λ b. IsShutBy b.controller in subst Shut (sym board) d.shut);
          meant = λ oid. rw same (d.meant oid);
        })
      ];
    }
