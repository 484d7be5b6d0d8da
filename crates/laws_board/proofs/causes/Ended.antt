-- For which cause a turn ends a run that nothing ended before.
use Rattle.std.proofs.Common.{◌≡◌, ℕ, ◌+◌, ◌⊎◌, inl, inr, Bool, true, false, cond, List, [], ◌∷◌, ◌++◌, Option, Some, None, refl, sym, ◌∙◌, subst, rules}
use Rattle.laws_board.proofs.Names.{Cause, Machine, ReadStop, Clocks, axis_at, Note, State, ReportLine, Switch, End, Asking, all_connected, giving_up, listen_all, ready_all, stale, Homing, HomingTurn, answer_in, by_answer, hears_all, homing_turn, Known, Phase, Connecting, Stopping, is_out, news_of, noted, first_lines, first_cause, stop_of, Reacted, by_phase, cut_line, reacts, unless_ended, unless_stale}
use Rattle.plan_types.specs.declared.cause.Cause.TheVariants as cause
use Rattle.plan_types.specs.declared.plan.ReadStop.TheVariants as read
use Rattle.trigger_group.specs.declared.order.End.TheVariants as end
use Rattle.board_asking.specs.Drift.{gives_up}
use Rattle.host_reactor.specs.declared.ordered.Phase.TheVariants.{Running}
use Rattle.host_reactor.specs.Running.{is_finished}
use Rattle.host_reactor.specs.Reactor.{after_homing, asks_boards, carries_on, finishes, is_connected_now, unless_given_up, unless_homing_ends, unless_late_stale}

abbrev end_of : Reacted → Option Cause
end_of x = x.ordered.end

-- a cause that isn't a board without answers
abbrev pub IsOther : Cause → Type 0
IsOther (cause.Connect board turn) = ⊥
IsOther (cause.Stale board turn) = ⊥
IsOther c = Unit {0}

abbrev pub EndsBy : Known → ℕ → List State → Machine → Cause → Type 0
EndsBy r k states m c =
    ((r.phase ≡ Connecting) × (giving_up k 0 (ready_all m 0 (listen_all r.askings.items states)) ≡ Some c))
    ⊎ (((r.phase ≡ Connecting → ⊥) × (stale k 0 (listen_all r.askings.items states) ≡ Some c)) ⊎ IsOther c)

other : (x c : Cause) → Some x ≡ Some c → IsOther x → IsOther c
other x c e o = let same : x ≡ c = cc in subst IsOther same o

no_end : (c : Cause) (A : Type 0) → None ≡ Some c → A
no_end c A e = cc

neither : (b : Bool) (x y : Reacted) (c : Cause) (A : Type 0) → end_of x ≡ None → end_of y ≡ None → end_of (cond b x y) ≡ Some c → A
neither true x y c A e f h = no_end c A (sym e ∙ h)
neither false x y c A e f h = no_end c A (sym f ∙ h)

given_up : (o : Option Cause) (m : Machine) (r : Known) (k : ℕ) (lines : List ReportLine) (askings : List Asking) (c : Cause) → end_of (unless_given_up o m r k lines askings) ≡ Some c → o ≡ Some c
given_up (Some x) m r k lines askings c h = h
given_up None m r k lines askings c h = neither (all_connected askings) (is_connected_now m r k lines askings) (asks_boards m r k lines askings) c _ refl refl h

answer_other : (k : ℕ) (h : Homing) (o : Option End) (c : Cause) → (by_answer k h o).end ≡ Some c → IsOther c
answer_other k h o c p4 = search (rules, no_end, other)

homing_other : (clocks : List Clocks) (k : ℕ) (states : List State) (o : Option Homing) (c : Cause) → (homing_turn clocks k states o).end ≡ Some c → IsOther c
homing_other clocks k states None c e = no_end c _ e
homing_other clocks k states (Some h) c e = let g = hears_all clocks states h in answer_other k g (answer_in k g.start g.group) c e

finishes_other : (stop : ReadStop) (m : Machine) (r : Known) (k : ℕ) (lines : List ReportLine) (askings : List Asking) (h : HomingTurn) (c : Cause) → end_of (finishes stop m r k lines askings h) ≡ Some c → IsOther c
finishes_other (read.Stop line) m r k lines askings h c e = no_end c _ e
finishes_other x m r k lines askings h c e = other _ c e tt

either_other : (b : Bool) (x y : Reacted) (c : Cause) → (end_of x ≡ Some c → IsOther c) → end_of y ≡ None → end_of (cond b x y) ≡ Some c → IsOther c
either_other true x y c f g h = f h
either_other false x y c f g h = no_end c _ (sym g ∙ h)

homed_other : (o : Option Cause) (m : Machine) (r : Known) (k : ℕ) (states : List State) (lines cut : List ReportLine) (askings : List Asking) (h : HomingTurn) (c : Cause) → (o ≡ Some c → IsOther c)
    → end_of (unless_homing_ends o m r k states lines cut askings h) ≡ Some c → IsOther c
homed_other o m r k states lines cut askings h c p10 p11 = search (rules, either_other, stop_of, finishes_other)

stale_or : (o : Option Cause) (m : Machine) (switches : List Switch) (r : Known) (k : ℕ) (states : List State) (lines : List ReportLine) (askings : List Asking) (c : Cause)
    → end_of (unless_stale o m switches r k states lines askings) ≡ Some c → (o ≡ Some c) ⊎ IsOther c
stale_or o m switches r k states lines askings c p9 = search (rules, homing_turn, homed_other, cut_line, axis_at, homing_other)

late_or : (o : Option Cause) (m : Machine) (r : Known) (k : ℕ) (lines : List ReportLine) (line : ℕ) (c : Cause) → end_of (unless_late_stale o m r k lines line) ≡ Some c → (o ≡ Some c) ⊎ IsOther c
late_or (Some x) m r k lines line c e = inl e
late_or None m r k lines line c e = inr (other _ c e tt)

while_running : (r : Known) (k : ℕ) (states : List State) (m : Machine) (c : Cause) → (r.phase ≡ Connecting → ⊥) → (stale k 0 (listen_all r.askings.items states) ≡ Some c) ⊎ IsOther c → EndsBy r k states m c
while_running r k states m c n (inl e) = inr (inl (n, e))
while_running r k states m c n (inr o) = inr (inr o)

pub running_not : Running ≡ Connecting → ⊥
running_not e = cc

pub stopping_not : (line : ℕ) → Stopping line ≡ Connecting → ⊥
stopping_not line e = cc

phase_by : (p : Phase) (m : Machine) (switches : List Switch) (r : Known) (k : ℕ) (states : List State) (lines : List ReportLine) (c : Cause) → r.phase ≡ p → end_of (by_phase p m switches r k states lines) ≡ Some c
    → EndsBy r k states m c
phase_by Connecting m switches r k states lines c p e =
    let askings = ready_all m 0 (listen_all r.askings.items states) in
    inl (p, given_up (giving_up k 0 askings) m r k lines askings c e)
phase_by Running m switches r k states lines c p e =
    let askings = listen_all r.askings.items states in
    while_running r k states m c (λ q. running_not (sym p ∙ q)) (stale_or (stale k 0 askings) m switches r k states lines askings c e)
phase_by (Stopping line) m switches r k states lines c p e =
    let askings = listen_all r.askings.items states in
    while_running r k states m c (λ q. stopping_not line (sym p ∙ q)) (late_or (stale k 0 askings) m r k lines line c e)

pub ends_by : (m : Machine) (switches : List Switch) (r : Known) (k : ℕ) (states : List State) (note : Option Note) (c : Cause) → first_cause (is_out note) (noted m note r).stopped states ≡ None
    → (reacts m switches r k states note).ordered.end ≡ Some c → EndsBy (noted m note r) k states m c
ends_by m switches r k states note c first e =
    let s = noted m note r in
    let lines = first_lines m s k (news_of note) states in
    phase_by s.phase m switches s k states lines c refl (subst (λ (o : Option Cause). end_of (unless_ended o m switches s k states lines) ≡ Some c) first e)

-- a stale board is told as such
stale_if : (g : Bool) (b first : ℕ) (rest : Option Cause) (board turn : ℕ) → cond g (Some (cause.Stale b first)) rest ≡ Some (cause.Connect board turn) → (rest ≡ Some (cause.Connect board turn) → ⊥) → ⊥
stale_if true b first rest board turn h f = cc
stale_if false b first rest board turn h f = f h

not_stale : (k b : ℕ) (askings : List Asking) (board turn : ℕ) → stale k b askings ≡ Some (cause.Connect board turn) → ⊥
not_stale k b [] board turn h = cc
not_stale k b (a ∷ askings) board turn h = stale_if (gives_up k a) b a.first (stale k (b + 1) askings) board turn h (not_stale k (b + 1) askings board turn)

pub connects_by : (r : Known) (k : ℕ) (states : List State) (m : Machine) (board turn : ℕ) → EndsBy r k states m (cause.Connect board turn) → r.phase ≡ Connecting
connects_by r k states m board turn (inl e) = e.0
connects_by r k states m board turn (inr (inl e)) = absurd (not_stale k 0 (listen_all r.askings.items states) board turn e.1)
connects_by r k states m board turn (inr (inr o)) = absurd o
