-- A cause that is so in a turn ends the run, or one before it does.
use Rattle.std.proofs.Common.{◌≡◌, ◌⊎◌, ℕ, ◌<◌, Bool, true, false, cond, List, ◌++◌, Option, Some, None, refl, ap, sym, ◌∙◌, subst, arith, inl, inr, rules}
use Rattle.std.specs.Prelude.{◌-◌, ◌&&◌, ◌||◌, nat_lt}
use Rattle.laws_board.proofs.Names.{leb_tells, Cause, Machine, ReadStop, axis_at, Note, State, ReportLine, Switch, Asking, listen_all, stale, HomingTurn, homing_turn, Known, Phase, Connecting, Stopping, noted, news_of, is_out, by_phase, cut_line, reacts, unless_ended, unless_stale, first_lines, first_cause, stop_of, and_from}
use Rattle.plan_types.specs.declared.cause.Cause.TheVariants as cause
use Rattle.plan_types.specs.declared.plan.ReadStop.TheVariants as read
use Rattle.host_reactor.specs.declared.ordered.Phase.TheVariants.{Running}
use Rattle.host_reactor.specs.Reactor.{after_homing, carries_on, finishes, unless_homing_ends, unless_late_stale}
use Rattle.host_reactor.specs.Running.{all_ended, all_idle, any_out, is_finished, late}
use Rattle.host_reactor.proofs.Blames.{blames, note-stays}
use Rattle.host_reactor.proofs.Ends.{connecting-ends, first-ends, homing-ends, late-is-next, memory-is-first, stale-ends}
use Rattle.laws_run.specs.run_ends.Ends.{EndsSo, IsThrough, WentThrough, order}
use Rattle.laws_run.proofs.run_ends.Ending.{IsHoming, IsLate, IsStale, homing_is, late_is, of_some, stale_is}

-- a turn ends a run for a cause, or for one before it
abbrev Comes : Cause → Option Cause → Type 0
Comes d None = ⊥
Comes d (Some e) = (d ≡ e) ⊎ (order e < order d)

late_order : (c : Cause) → IsLate c → order c ≡ 2
late_order (cause.Late board first arrival spoiled spill) i = refl
late_order c i = absurd i

stale_order : (c : Cause) → IsStale c → order c ≡ 3
stale_order (cause.Stale board turn) i = refl
stale_order c i = absurd i

homing_order : (c : Cause) → IsHoming c → order c ≡ 4
homing_order (cause.NoSwitch section) i = refl
homing_order (cause.Expired board turn) i = refl
homing_order c i = absurd i

finished : (r : Known) (k : ℕ) (states : List State) → IsThrough r k states → is_finished r k states ≡ true
finished r k states t =
    let late : nat_lt 4 (k - r.ended) ≡ true = elim (leb_tells 5 (k - r.ended)) [ inl p ↦ p.0 | inr p ↦ absurd (let b = t.behind in omega (arith, p.1, b)) ] in
    and_from (all_ended r.done r.reading) (nat_lt 4 (k - r.ended) && all_idle states) t.ended (and_from (nat_lt 4 (k - r.ended)) (all_idle states) late t.idle)

module _ (m : Machine) (switches : List Switch) (r : Known) (k : ℕ) (states : List State) (note : Option Note) (none : (noted m note r).stopped ≡ None) where
  abbrev End : Option Cause
  End = (reacts m switches r k states note).ordered.end

  abbrev Askings : List Asking
  Askings = listen_all (noted m note r).askings.items states

  abbrev Turn : HomingTurn
  Turn = homing_turn (noted m note r).clocks k states (noted m note r).homing

  abbrev Heard : List ReportLine
  Heard = first_lines m (noted m note r) k (news_of note) states

  ends_as : (d e : Cause) → End ≡ Some e → (d ≡ e) ⊎ (order e < order d) → Comes d End
  ends_as d e is h = subst (Comes d) (sym is) h

  -- the causes that come first
  behind_first : (d : Cause) → 2 < order d → (first_cause (is_out note) (noted m note r).stopped states ≡ None → Comes d End) → Comes d End
  behind_first d high then = search (rules, is_out, late-is-next, noted, ends_as, first-ends, late_order, of_some, late_is, memory-is-first)

  late_comes : (d : Cause) → 0 < order d → late 0 states ≡ Some d → Comes d End
  late_comes d high f = search (rules, is_out, ends_as, first-ends, memory-is-first, noted, late-is-next)

  -- then the phase decides
  decides : (p : Phase) → first_cause (is_out note) (noted m note r).stopped states ≡ None → (noted m note r).phase ≡ p → End ≡ (by_phase p m switches (noted m note r) k states Heard).ordered.end
  decides p f e = ap (λ o. (unless_ended o m switches (noted m note r) k states Heard).ordered.end) f ∙ ap (λ q. (by_phase q m switches (noted m note r) k states Heard).ordered.end) e

  stale_comes : (p : Phase) (d : Cause) → first_cause (is_out note) (noted m note r).stopped states ≡ None → (noted m note r).phase ≡ p → (p ≡ Connecting → ⊥) → stale k 0 Askings ≡ Some d → Comes d End
  stale_comes Connecting d f e not s = absurd (not refl)
  stale_comes Running d f e not s = ends_as d d (stale-ends m switches r k states note d f e s) (inl refl)
  stale_comes (Stopping line) d f e not s = ends_as d d (decides (Stopping line) f e ∙ ap (λ o. (unless_late_stale o m (noted m note r) k Heard line).ordered.end) s) (inl refl)

  -- while running, behind a board that gives no answer
  behind_stale : (d : Cause) → 3 < order d → first_cause (is_out note) (noted m note r).stopped states ≡ None → (noted m note r).phase ≡ Running → (stale k 0 Askings ≡ None → Comes d End) → Comes d End
  behind_stale d high f p then = search (rules, stale, ends_as, stale-ends, stale_order, of_some, stale_is)

  -- and behind homing
  behind_homing : (d : Cause) → 4 < order d → first_cause (is_out note) (noted m note r).stopped states ≡ None → (noted m note r).phase ≡ Running → stale k 0 Askings ≡ None → (Turn.end ≡ None → Comes d End) → Comes d End
  behind_homing d high f p s then = search (rules, ends_as, homing-ends, homing_order, of_some, homing_is, noted)

  -- a run that went through
  through_comes : (stop : ReadStop) (d : Cause) → 4 < order d → WentThrough (noted m note r) k states stop
      → ((lines : List ReportLine) (askings : List Asking) (turn : HomingTurn) → (finishes stop m (after_homing (noted m note r) k states) k lines askings turn).ordered.end ≡ Some d) → Comes d End
  through_comes stop d high w is =
      behind_first d (omega (arith, high)) (λ f. behind_stale d (omega (arith, high)) f w.running (λ s. behind_homing d high f w.running s (λ h.
      let q = after_homing (noted m note r) k states in
      let cut = cut_line m switches Turn.section (axis_at m Turn.axis) Turn.cut in
      let t : IsThrough q k states = record { ended = w.through.ended; behind = w.through.behind; idle = w.through.idle } in
      ends_as d d (decides Running f w.running
      ∙ ap (λ o. (unless_stale o m switches (noted m note r) k states Heard Askings).ordered.end) s
      ∙ ap (λ o. (unless_homing_ends o m q k states Heard cut Askings Turn).ordered.end) h
      ∙ ap (λ b. (cond b (finishes (stop_of q.reading) m q k (Heard ++ cut) Askings Turn) (carries_on m q k (Heard ++ cut) Askings Turn None)).ordered.end) (finished q k states t)
      ∙ ap (λ x. (finishes x m q k (Heard ++ cut) Askings Turn).ordered.end) w.stops
      ∙ is (Heard ++ cut) Askings Turn) (inl refl))))

  homing_comes : (d : Cause) → (noted m note r).phase ≡ Running → Turn.end ≡ Some d → Comes d End
  homing_comes d p e =
      let o = homing_order d (of_some IsHoming Turn.end d e (homing_is (noted m note r).clocks k states (noted m note r).homing)) in
      behind_first d (omega (arith, o)) (λ f. behind_stale d (omega (arith, o)) f p (λ s. ends_as d d (homing-ends m switches r k states note d f p s e) (inl refl)))

  asked_comes : (line : ℕ) → (noted m note r).phase ≡ Stopping line → Comes (cause.Asked line) End
  asked_comes line p = behind_first (cause.Asked line) (omega arith) (λ f. by (stale k 0 Askings) refl f)
    where
      by : (o : Option Cause) → stale k 0 Askings ≡ o → first_cause (is_out note) (noted m note r).stopped states ≡ None → Comes (cause.Asked line) End
      by None e f = ends_as (cause.Asked line) (cause.Asked line) (decides (Stopping line) f p ∙ ap (λ o. (unless_late_stale o m (noted m note r) k Heard line).ordered.end) e) (inl refl)
      by (Some c) e f =
          ends_as (cause.Asked line) c (decides (Stopping line) f p ∙ ap (λ o. (unless_late_stale o m (noted m note r) k Heard line).ordered.end) e)
          (inr (let o = stale_order c (of_some IsStale (stale k 0 Askings) c e (stale_is k 0 Askings)) in omega (arith, o)))

  comes : (d : Cause) → EndsSo m (noted m note r) k states d → Comes d End
  comes d p1 = search (rules, late_comes, behind_first, ends_as, connecting-ends, stale_comes, noted, through_comes, asked_comes, homing_comes)

-- a turn that goes on has no cause
pub none_comes : (m : Machine) (switches : List Switch) (r : Known) (k : ℕ) (states : List State) (note : Option Note) → (reacts m switches r k states note).ordered.end ≡ None → (c : Cause) → EndsSo m (noted m note r) k states c → ⊥
none_comes m switches r k states note e c h =
    let untold = (blames m switches r k states note).goes e in
    subst (Comes c) e (comes m switches r k states note (note-stays m note r ∙ untold.0) c h)

-- and one that ends a run has the first
pub first_comes : (m : Machine) (switches : List Switch) (r : Known) (k : ℕ) (states : List State) (note : Option Note) (c : Cause) → r.stopped ≡ None → (reacts m switches r k states note).ordered.end ≡ Some c
    → (d : Cause) → EndsSo m (noted m note r) k states d → (d ≡ c) ⊎ (order c < order d)
first_comes m switches r k states note c untold e d h = subst (Comes d) e (comes m switches r k states note (note-stays m note r ∙ untold) d h)
