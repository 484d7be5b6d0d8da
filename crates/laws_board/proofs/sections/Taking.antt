-- A board takes good commands one behind the other.
use Rattle.std.proofs.Common.{◌≡◌, ℕ, ◌≤◌, ◌⊎◌, List, [], ◌∷◌, ◌++◌, refl, ap, sym, ◌∙◌, subst, inl, inr, append_assoc, append-nil}
use Rattle.laws_board.proofs.Names.{eqb_tells, BoardState, Running, Shut, Pulse, Cmd, Controller, is_shut, Rig, takes, takes_all, Meant, commands_of, only}
use Rattle.msg_code.specs.declared.cmd.Cmd.TheVariants as cmd
use Rattle.board_sim.specs.Board.{stepper_at}
use Rattle.board_sim.specs.Board as board
use Rattle.board_sim.specs.Fair.{IsFairRunning, AreFair, meant_by, meant_running}
use Rattle.board_sim.specs.Halted.{meant_left, left_running, meant_behind}
use Rattle.board_sim.proofs.RigShut.{all_left_by}
use Rattle.board_sim.proofs.Steps.{only-append}
use Rattle.board_world.specs.Units.{FindsStepper, FindsWhile, FindSteppers}
use Rattle.laws_board.specs.sections.Known.{Sent, orders_sent, Known, knows_of, knows, known_from, IsGoodFor, AreGoodFrom, IsLostFor, BeginLost}
use Rattle.laws_board.specs.sections.Timely.{IsTimely, AreTimely}
use Rattle.laws_board.proofs.sections.Fits.{BoardFits, IsShutBy, Goes, command_goes, command_lost}
use Rattle.laws_board.proofs.sections.Free.{IsFree, BindsNone, takes_acts, takes_keeps_free}
use Rattle.board_world.proofs.Causes.{still_runs}
use Rattle.board_world.proofs.Units.{left_none}

-- a list begins another
abbrev pub IsFront : List Pulse → List Pulse → Type 0
IsFront xs ys = (rest : List Pulse) × (xs ++ rest ≡ ys)

-- the steps that commands mean, where no clock of a halted stepper is set
abbrev pub meant_by_all : Rig → List Meant → List Pulse
meant_by_all r [] = []
meant_by_all r (m ∷ ms) = meant_running r.controller.state r.controller m.command m.ticks ++ meant_by_all (takes r m.command).rig ms

none_left : (b : Controller) (made meant : List Pulse) (c : Cmd) → FindsStepper b c → meant_left b made meant c ≡ meant
none_left b made meant (cmd.ResetStepClock oid clock) f = rw f refl
none_left b made meant _ f = refl

pub meant_is : (r : Rig) (made meant : List Pulse) (ms : List Meant) → FindSteppers r ms → meant_behind r made meant ms ≡ meant ++ meant_by_all r ms
meant_is r made meant [] f = sym (append-nil meant)
meant_is r made meant (m ∷ ms) f =
    let b = r.controller in
    let new = meant_running b.state b m.command m.ticks in
    let next = (takes r m.command).rig in
    ap (λ x. meant_behind next made (x ++ new) ms) (left_none b.state b made meant m.command f.0) ∙ meant_is next made (meant ++ new) ms f.1
    ∙ append_assoc meant new (meant_by_all next ms)

-- a command that is good for a stepper binds none
good_binds : (own : ℕ → ℕ) (slots turn : ℕ) (ks : ℕ → Known) (c : Cmd) (ticks : List ℕ) → ((oid : ℕ) → IsGoodFor own slots oid turn (ks oid) c ticks) → BindsNone c
good_binds own slots turn ks (cmd.StepperStopOnTrigger other trigger) ticks good = absurd (good 0)
good_binds own slots turn ks _ ticks good = λ i. tt

-- a board with triggers, of which none has a stepper bound
pub record RigFits (now slots : ℕ) (ks : ℕ → Known) (r : Rig) : Type 0 where
  pub steppers : BoardFits now slots ks r.controller
  pub free : IsFree r

abbrev OneGoes : ℕ → ℕ → (ℕ → Known) → Rig → Cmd → List ℕ → Type 0
OneGoes now slots ks r c ticks =
    let b = r.controller in
    IsFairRunning b.state b c ticks × FindsWhile b.state b c
    × Goes now slots ks (λ oid. knows_of oid (ks oid) c ticks) (takes r c).rig.controller (meant_running b.state b c ticks)

one_goes : (own : ℕ → ℕ) (now slots turn : ℕ) (ks : ℕ → Known) (r : Rig) (c : Cmd) (ticks : List ℕ) → RigFits now slots ks r → own turn ≤ now
    → ((oid : ℕ) → IsGoodFor own slots oid turn (ks oid) c ticks) → IsTimely now c ticks → OneGoes now slots ks r c ticks
one_goes own now slots turn ks r c ticks fits h good timely =
    let b = r.controller in
    let f = fits.steppers in
    let Fitting : ℕ → Type 0 = λ n. BoardFits n slots ks b in
    let Early : ℕ → Type 0 = λ n. own turn ≤ n in
    let Timely : ℕ → Type 0 = λ n. IsTimely n c ticks in
    let back = sym f.tick in
    let g = command_goes own slots turn ks b c ticks (subst Fitting back f) (subst Early back h) good (subst Timely back timely) in
    let next : ℕ → Known = λ oid. knows_of oid (ks oid) c ticks in
    let Fair : BoardState → Type 0 = λ o. IsFairRunning o b c ticks in
    let Finds : BoardState → Type 0 = λ o. FindsWhile o b c in
    let Then : BoardState → Type 0 = λ o. Goes now slots ks next (takes r c).rig.controller (meant_running o b c ticks) in
    let After : Controller → Type 0 = λ d. Goes now slots ks next d (meant_by b c ticks) in
    let At : ℕ → Type 0 = λ n. Goes n slots ks next (board.acts b c).board (meant_by b c ticks) in
    let does = takes_acts r c f.running fits.free (good_binds own slots turn ks c ticks good) in (
      subst Fair (sym f.running) g.0,
      subst Finds (sym f.running) g.1,
      subst Then (sym f.running) (subst After (sym does) (subst At f.tick g.2)),
    )

one_lost : (own : ℕ → ℕ) (now slots turn : ℕ) (ks : ℕ → Known) (r : Rig) (c : Cmd) (ticks : List ℕ) → RigFits now slots ks r → own turn ≤ now
    → ((oid : ℕ) → IsGoodFor own slots oid turn (ks oid) c ticks) → IsTimely now c ticks → IsLostFor own turn ks c ticks → IsShutBy (takes r c).rig.controller
one_lost own now slots turn ks r c ticks fits h good timely lost =
    let b = r.controller in
    let f = fits.steppers in
    let Fitting : ℕ → Type 0 = λ n. BoardFits n slots ks b in
    let Early : ℕ → Type 0 = λ n. own turn ≤ n in
    let Timely : ℕ → Type 0 = λ n. IsTimely n c ticks in
    let back = sym f.tick in
    subst IsShutBy (sym (takes_acts r c f.running fits.free (good_binds own slots turn ks c ticks good)))
    (command_lost own slots turn ks b c ticks (subst Fitting back f) (subst Early back h) good (subst Timely back timely) lost)

-- a board that is shut down
stays : (r : Rig) (m : Meant) (reason t f : ℕ) → r.controller.state ≡ Shut reason t f → (takes r m.command).rig.controller.state ≡ Shut reason t f
stays r m reason t f e = ap (λ (x : Controller). x.state) (all_left_by r (m.command ∷ []) (ap is_shut e)) ∙ e

pub shut_fair : (r : Rig) (ms : List Meant) (reason t f : ℕ) → r.controller.state ≡ Shut reason t f → AreFair r ms
shut_fair r [] reason t f e = tt
shut_fair r (m ∷ ms) reason t f e =
    let Fair : BoardState → Type 0 = λ o. IsFairRunning o r.controller m.command m.ticks in
    (subst Fair (sym e) tt, shut_fair (takes r m.command).rig ms reason t f (stays r m reason t f e))

pub shut_finds : (r : Rig) (ms : List Meant) (reason t f : ℕ) → r.controller.state ≡ Shut reason t f → FindSteppers r ms
shut_finds r [] reason t f e = tt
shut_finds r (m ∷ ms) reason t f e =
    let Finds : BoardState → Type 0 = λ o. FindsWhile o r.controller m.command in
    (subst Finds (sym e) tt, shut_finds (takes r m.command).rig ms reason t f (stays r m reason t f e))

pub shut_means : (r : Rig) (ms : List Meant) (reason t f : ℕ) → r.controller.state ≡ Shut reason t f → meant_by_all r ms ≡ []
shut_means r [] reason t f e = refl
shut_means r (m ∷ ms) reason t f e =
    ap (λ o. meant_running o r.controller m.command m.ticks ++ meant_by_all (takes r m.command).rig ms) e ∙ shut_means (takes r m.command).rig ms reason t f (stays r m reason t f e)

-- what is known of a stepper's steps only grows
pub grows : (oid : ℕ) (k : Known) (c : Cmd) (ticks : List ℕ) → IsFront k.steps (knows_of oid k c ticks).steps
grows oid k (cmd.QueueStep other interval count add) ticks = elim (eqb_tells other oid) [ inl p ↦ rw p.0 (_, refl) | inr p ↦ rw p.0 ([], append-nil k.steps) ]
grows oid k (cmd.ConfigStepper other step dir invert width) ticks = elim (eqb_tells other oid) [ inl p ↦ rw p.0 ([], append-nil k.steps) | inr p ↦ rw p.0 ([], append-nil k.steps) ]
grows oid k (cmd.SetNextStepDir other dir) ticks = elim (eqb_tells other oid) [ inl p ↦ rw p.0 ([], append-nil k.steps) | inr p ↦ rw p.0 ([], append-nil k.steps) ]
grows oid k (cmd.ResetStepClock other clock) ticks = elim (eqb_tells other oid) [ inl p ↦ rw p.0 ([], append-nil k.steps) | inr p ↦ rw p.0 ([], append-nil k.steps) ]
grows oid k _ ticks = ([], append-nil k.steps)

pub front_front : (xs ys zs : List Pulse) → IsFront xs ys → IsFront ys zs → IsFront xs zs
front_front xs ys zs a b = (a.0 ++ b.0, sym (append_assoc xs a.0 b.0) ∙ ap (λ x. x ++ b.0) a.1 ∙ b.1)

pub all_grow : (oid : ℕ) (k : Known) (ss : List Sent) → IsFront k.steps (known_from oid k ss).steps
all_grow oid k [] = ([], append-nil k.steps)
all_grow oid k (s ∷ ss) =
    let next = knows oid k s.order in
    front_front k.steps next.steps (known_from oid next ss).steps (grows oid k s.order.command s.order.ticks) (all_grow oid next ss)

-- commands that were queued in turns that a board's tick has reached
abbrev pub AreOld : (ℕ → ℕ) → ℕ → List Sent → Type 0
AreOld own now [] = Unit {0}
AreOld own now (s ∷ ss) = (own s.turn ≤ now) × AreOld own now ss

-- The board takes good commands, and perhaps others behind them of which the first is lost: all are fair, and find their
-- steppers. It runs on, and fits what is known then; or it shut down, and a front of the steps is meant.
abbrev pub AllGo : ℕ → ℕ → (ℕ → Known) → Rig → List Sent → List Sent → Type 0
AllGo now slots ks r ss tail =
    let ms = orders_sent (ss ++ tail) in
    let after = (takes_all r (commands_of ms)).rig in
    let meant = meant_by_all r ms in
    AreFair r ms × FindSteppers r ms
    × ((RigFits now slots (λ oid. known_from oid (ks oid) ss) after × (tail ≡ []) × ((oid : ℕ) → (ks oid).steps ++ only oid meant ≡ (known_from oid (ks oid) ss).steps))
    ⊎ (IsShutBy after.controller × ((oid : ℕ) → IsFront ((ks oid).steps ++ only oid meant) (known_from oid (ks oid) ss).steps)))

-- behind a command that shut the board down
shut_behind : (next : Rig) (ms : List Meant) (reason t f : ℕ) → next.controller.state ≡ Shut reason t f
    → AreFair next ms × FindSteppers next ms × ((takes_all next (commands_of ms)).rig.controller.state ≡ Shut reason t f) × (meant_by_all next ms ≡ [])
shut_behind next ms reason t f e =
    (shut_fair next ms reason t f e, shut_finds next ms reason t f e, ap (λ (x : Controller). x.state) (all_left_by next (commands_of ms) (ap is_shut e)) ∙ e, shut_means next ms reason t f e)

joined : (k n : List Pulse) (oid : ℕ) (new more : List Pulse) → k ++ only oid new ≡ n → k ++ only oid (new ++ more) ≡ n ++ only oid more
joined k n oid new more e = ap (λ x. k ++ x) (only-append oid new more) ∙ sym (append_assoc k (only oid new) (only oid more)) ∙ ap (λ x. x ++ only oid more) e

-- nothing is meant
meant_none : (oid : ℕ) (k l : Known) (new more : List Pulse) → new ≡ [] → more ≡ [] → IsFront k.steps l.steps → IsFront (k.steps ++ only oid (new ++ more)) l.steps
meant_none oid k l new more e f front = rw (e, f, append-nil k.steps) front

-- a command that shut the board down, and those behind it
ends_here : (ks : ℕ → Known) (r : Rig) (s : Sent) (ss tail others : List Sent) → IsShutBy (takes r s.order.command).rig.controller
    → meant_running r.controller.state r.controller s.order.command s.order.ticks ≡ [] → IsFairRunning r.controller.state r.controller s.order.command s.order.ticks
    → FindsWhile r.controller.state r.controller s.order.command → ((oid : ℕ) → IsFront (ks oid).steps (known_from oid (ks oid) others).steps)
    → AreFair r (orders_sent (s ∷ ss ++ tail)) × FindSteppers r (orders_sent (s ∷ ss ++ tail))
    × (IsShutBy (takes_all r (commands_of (orders_sent (s ∷ ss ++ tail)))).rig.controller
    × ((oid : ℕ) → IsFront ((ks oid).steps ++ only oid (meant_by_all r (orders_sent (s ∷ ss ++ tail)))) (known_from oid (ks oid) others).steps))
ends_here ks r s ss tail others shut none fair finds front =
    let (reason, t, f, state, may) = shut in
    let next = (takes r s.order.command).rig in
    let ms = orders_sent (ss ++ tail) in
    let behind = shut_behind next ms reason t f state in (
      (fair, behind.0),
      (finds, behind.1),
      (
        (reason, t, f, behind.2, may),
        λ oid.
            meant_none oid (ks oid) (known_from oid (ks oid) others) (meant_running r.controller.state r.controller s.order.command s.order.ticks) (meant_by_all next ms) none behind.3 (front oid),
      ),
    )

pub all_go : (own : ℕ → ℕ) (now slots : ℕ) (ss tail : List Sent) (ks : ℕ → Known) (r : Rig) → RigFits now slots ks r → AreOld own now (ss ++ tail)
    → ((oid : ℕ) → AreGoodFrom own slots oid (ks oid) ss) → BeginLost own slots (λ oid. known_from oid (ks oid) ss) tail → AreTimely now (orders_sent (ss ++ tail))
    → AllGo now slots ks r ss tail
all_go own now slots [] [] ks r f old good lost timely = (tt, tt, inl (f, refl, λ oid. append-nil (ks oid).steps))
all_go own now slots [] (s ∷ rest) ks r f old good lost timely =
    let one = one_goes own now slots s.turn ks r s.order.command s.order.ticks f old.0 lost.0 timely.0 in
    let shut = one_lost own now slots s.turn ks r s.order.command s.order.ticks f old.0 lost.0 timely.0 lost.1 in
    let ended = λ (none : meant_running r.controller.state r.controller s.order.command s.order.ticks ≡ []).
    ends_here ks r s [] rest [] shut none one.0 one.1 (λ oid. ([], append-nil (ks oid).steps)) in
    elim one.2 [
      | inl g ↦ absurd (still_runs (takes r s.order.command).rig.controller shut.0 shut.1 shut.2 g.0.running shut.3)
      | inr g ↦ let e = ended g.1 in (e.0, e.1, inr e.2)
    ]
all_go own now slots (s ∷ ss) tail ks r f old good lost timely =
    let one = one_goes own now slots s.turn ks r s.order.command s.order.ticks f old.0 (λ oid. (good oid).0) timely.0 in
    let next : ℕ → Known = λ oid. knows oid (ks oid) s.order in
    let new = meant_running r.controller.state r.controller s.order.command s.order.ticks in
    let after = (takes r s.order.command).rig in
    let free = takes_keeps_free r s.order.command f.free (good_binds own slots s.turn ks s.order.command s.order.ticks (λ oid. (good oid).0)) in
    let more = meant_by_all after (orders_sent (ss ++ tail)) in
    elim one.2 [
      | inl g ↦
          let rest = all_go own now slots ss tail next after (record { steppers = g.0; free = free }) old.1 (λ oid. (good oid).1) lost timely.1 in
          let joins = λ (oid : ℕ). joined (ks oid).steps (next oid).steps oid new more (g.1 oid) in (
            (one.0, rest.0),
            (one.1, rest.1),
            elim rest.2 [
              | inl q ↦ inl (q.0, q.1, λ oid. joins oid ∙ q.2 oid)
              | inr q ↦ inr (q.0, λ oid. rw (joins oid) (q.1 oid))
            ],
          )
      | inr g ↦
          let e = ends_here ks r s ss tail (s ∷ ss) g.0 g.1 one.0 one.1 (λ oid. all_grow oid (ks oid) (s ∷ ss)) in
          (e.0, e.1, inr e.2)
    ]
