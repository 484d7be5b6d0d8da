-- A reactor at rest orders nothing.
use Rattle.std.proofs.Common.{◌≡◌, ◌≤◌, ◌<◌, ℕ, ◌+◌, Bool, true, false, not, cond, List, [], ◌∷◌, ◌++◌, Option, None, refl, ap, ◌∙◌, arith}
use Rattle.std.specs.Prelude.{◌-◌, ◌%◌, ◌==◌, ◌&&◌, nat_le}
use Rattle.std.proofs.lemmas.Bool.Decides.{nat_tests}
use Rattle.plan_types.specs.declared.machine.Machine.{Machine}
use Rattle.plan_types.specs.Lines.{Clocks}
use Rattle.plan_types.specs.Machines.{board_at}
use Rattle.msg_code.specs.declared.talk.State.{State}
use Rattle.trigger_group.specs.Group.{GroupState, phase, orders, orders_of_group, turned_group, after_in}
use Rattle.trigger_group.specs.declared.round.Phase.TheVariants.{Rests}
use Rattle.board_asking.specs.declared.asking.Asking.{Asking}
use Rattle.board_asking.specs.Asking.{were_put, was_put, is_in_time, hears_first, listens, is_out}
use Rattle.board_asking.specs.Connecting.{listen_all}
use Rattle.board_asking.specs.Drift.{drifts, is_unanswered, gives_up, stale, is_asked_now, waits_in, waiting, new_lines}
use Rattle.axis_homing.specs.Homing.{hears_state, hears_states, hears_news}
use Rattle.host_reactor.specs.Free.{Resting, AsksNone, AreOf}

pub picked : {A : Type 0} → (b : Bool) (x y : A) → b ≡ false → cond b x y ≡ y
picked false x y h = refl
picked true x y h = cc

pub since-kept : (turn : ℕ) (ns : List ℕ) (a : Asking) → (were_put turn ns a).since ≡ a.since
since-kept turn [] a = refl
since-kept turn (n ∷ ns) a = since-kept turn ns (was_put turn a n)

waits-kept : (turn : ℕ) (ns : List ℕ) (a : Asking) → (were_put turn ns a).waits ≡ a.waits
waits-kept turn [] a = refl
waits-kept turn (n ∷ ns) a = waits-kept turn ns (was_put turn a n)

pub listens-put : (a : Asking) (s : State) → a.since ≡ None → listens a s ≡ were_put s.turn s.asked a
listens-put a s h =
    let w = were_put s.turn s.asked a in
    picked (is_in_time s.turn w.since) (hears_first s.turn s.news w) w (ap (is_in_time s.turn) (since-kept s.turn s.asked a ∙ h))

pub listened : (askings : List Asking) (states : List State) → Resting askings → Resting (listen_all askings states)
listened [] states h = tt
listened (a ∷ askings) [] h = (h.0, h.1, listened askings [] h.2)
listened (a ∷ askings) (s ∷ states) h = (
  ap (λ (b : Asking). b.since) (listens-put a s h.0) ∙ since-kept s.turn s.asked a ∙ h.0,
  ap (λ (b : Asking). b.waits) (listens-put a s h.0) ∙ waits-kept s.turn s.asked a ∙ h.1,
  listened askings states h.2,
)

pub none-stale : (k b : ℕ) (askings : List Asking) → Resting askings → stale k b askings ≡ None
none-stale k b [] h = refl
none-stale k b (a ∷ askings) h =
    picked (gives_up k a) _ (stale k (b + 1) askings) (ap (λ (o : Option ℕ). is_unanswered k o && nat_le 199 a.missed) h.0) ∙ none-stale k (b + 1) askings h.2

pub waits-same : (drifting : Bool) (k : ℕ) (a : Asking) → a.since ≡ None → (drifting && (k % 1_000 == 0)) ≡ false → waits_in drifting k a ≡ a
waits-same drifting k a h e =
    picked (is_unanswered k a.since) _ _ (ap (is_unanswered k) h)
    ∙ picked (is_asked_now drifting k a.since) _ a (ap (is_asked_now drifting k) h ∙ e)

pub waiting-rests : (m : Machine) (k b : ℕ) (askings : List Asking) → AsksNone m k → Resting askings → Resting (waiting m k b askings)
waiting-rests m k b [] e h = tt
waiting-rests m k b (a ∷ askings) e h =
    let same = waits-same (drifts (board_at m b).drift) k a h.0 (e b) in
    (ap (λ (c : Asking). c.since) same ∙ h.0, ap (λ (c : Asking). c.waits) same ∙ h.1, waiting-rests m k (b + 1) askings e h.2)

pub none-new : (m : Machine) (b : ℕ) (before later : List Asking) → Resting before → new_lines m b before later ≡ []
none-new m b [] later h = refl
none-new m b (a ∷ before) [] h = refl
none-new m b (a ∷ before) (c ∷ later) h =
    let e = picked (is_out a.since && not (is_out c.since)) _ [] (ap (λ (o : Option ℕ). is_out o && not (is_out c.since)) h.0) in
    ap (λ x. x ++ new_lines m (b + 1) before later) e ∙ none-new m (b + 1) before later h.2

-- states of turns before the start tell the group nothing
state-same : (c : Clocks) (b start k : ℕ) (s : State) (g : GroupState) → s.turn + 1 ≡ k → k < start → hears_state c b start s g ≡ g
state-same c b start k s g e l = picked (nat_le start (s.turn + 1)) (hears_news c b s.turn s.news g) g (grind (arith, nat_tests))

pub states-same : (clocks : List Clocks) (b start k : ℕ) (states : List State) (g : GroupState) → AreOf k states → k < start → hears_states clocks b start states g ≡ g
states-same [] b start k states g are l = refl
states-same (c ∷ clocks) b start k [] g are l = refl
states-same (c ∷ clocks) b start k (s ∷ states) g are l =
    ap (hears_states clocks (b + 1) start states) (state-same c b start k s g are.0 l) ∙ states-same clocks (b + 1) start k states g are.1 l

pub phase-rests : (start last turn : ℕ) → turn + 255 ≤ start → phase start last turn ≡ Rests
phase-rests start last turn h =
    picked (start - turn == 254) _ _ (grind (arith, nat_tests))
    ∙ picked (start - turn == 253) _ _ (grind (arith, nat_tests))
    ∙ picked (start - turn == 252) _ _ (grind (arith, nat_tests))
    ∙ picked (start - turn == 251) _ _ (grind (arith, nat_tests))
    ∙ picked (start - turn == 250) _ _ (grind (arith, nat_tests))
    ∙ picked (start - turn == 0) _ _ (grind (arith, nat_tests))

pub none-ordered : (g : GroupState) (turn : ℕ) → turn + 255 ≤ g.start → orders g turn ≡ []
none-ordered g turn h = ap (λ p. orders_of_group p g turn) (phase-rests g.start g.last turn h)

pub group-same : (g : GroupState) (turn : ℕ) → turn + 255 ≤ g.start → turned_group g turn ≡ g
group-same g turn h = ap (λ p. after_in p g turn) (phase-rests g.start g.last turn h)
