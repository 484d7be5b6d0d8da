-- Where each board holds nothing long none tells of a shutdown as a run ends since no switch closed.
use Rattle.std.proofs.Common.{◌≡◌, ◌≢◌, ℕ, ◌+◌, ◌<◌, Bool, true, false, cond, List, [], ◌∷◌, ◌++◌, length, Option, Some, None, refl, ap, sym, ◌∙◌, subst, arith, inl, inr}
use Rattle.std.specs.Prelude.{◌==◌}
use Rattle.laws_board.proofs.Names.{∥∥₁_map, eq-eqb, Cause, Machine, IsValidMachine, board_at, clock_of, ShutNews, State, Scene, pins_of, Stopping, noted, Run, IsOwn, known_by, Told, item, MotionTurn, ReactorTurn}
use Rattle.plan_types.specs.declared.cause.Cause.TheVariants as cause
use Rattle.io_core.specs.declared.traits.Files.{Ghosts as Files}
use Rattle.io_core.specs.declared.traits.Sink.{Ghosts as Sink}
use Rattle.host_reactor.specs.declared.ordered.Phase.TheVariants as phase
use Rattle.host_reactor.specs.Running.{late, late_of, or_cause}
use Rattle.session_lanes.specs.declared.near.Told as near
use Rattle.session_run.specs.declared.tell.Kept.{Kept}
use Rattle.session_run.specs.Boards.{came_from}
use Rattle.session_run.specs.Runs.{RunsOver}
use Rattle.laws_board.specs.causes.Short.{HaveShortDictionaries}
use Rattle.laws_homing.specs.home_parts.Cuts.{cuts_on}
use Rattle.laws_board.specs.plans.Planned.{Plans}
use Rattle.laws_board.proofs.clocks.Lines.{noted_phase}
use Rattle.laws_run.specs.home_headline.Near.{AllKeepUp, KeepsUp}
use Rattle.laws_run.specs.lanes.Boards.{IsInWhole}
use Rattle.laws_run.specs.missed_switches.Missed.{NoneShut}
use Rattle.laws_run.specs.run_headline.Made.{IsMade, IsNamed}
use Rattle.laws_run.specs.run_headline.Timely.{link_of}
use Rattle.laws_run.proofs.clear_homes.Running.{end_none}
use Rattle.laws_run.proofs.home_headline.Unasked.{never_stop}
use Rattle.laws_run.proofs.home_wholes.Lines.{By, Came_all, Here, Made, N, Turns_of, on, run_of, took_states}
use Rattle.laws_run.proofs.missed_switches.Missing.{begun_some}
use Rattle.laws_run.proofs.run_headline.Going.{lasts, one_in_time}
use Rattle.laws_run.proofs.run_headline.Making.{run_made}
use Rattle.laws_run.proofs.run_headline.Runs.{facts, run_names}
use Rattle.laws_run.proofs.run_headline.Showing.{Facts, not_told}

-- what names a late board
abbrev IsLate : Option Cause → Type 0
IsLate None = Unit {0}
IsLate (Some (cause.Late board first arrival spoiled spill)) = Unit {0}
IsLate (Some c) = ⊥

one_late : (b : ℕ) (o : Option ShutNews) → IsLate (late_of b o)
one_late b None = tt
one_late b (Some s) = by (s.reason == 1)
  where
    by : (t : Bool) → IsLate (cond t (Some (cause.Late b s.first s.tick s.spoiled s.spill)) None)
    by true = tt
    by false = tt

either_late : (x y : Option Cause) → IsLate x → IsLate y → IsLate (or_cause x y)
either_late None y a b = b
either_late (Some c) y a b = a

all_late : (b : ℕ) (states : List State) → IsLate (late b states)
all_late b [] = tt
all_late b (s ∷ states) = either_late (late_of b s.shut) (late (b + 1) states) (one_late b s.shut) (all_late (b + 1) states)

-- none is, where the cause is that no switch closed
none_late : (m : Machine) (s : Scene) (rs : List ReactorTurn) (end : ReactorTurn) (section : ℕ) → IsNamed m s rs end (cause.NoSwitch section) → late 0 end.states ≡ None
none_late m s rs end section names = by (late 0 end.states) refl (all_late 0 end.states)
  where
    by : (o : Option Cause) → late 0 end.states ≡ o → IsLate o → o ≡ None
    by None e k = refl
    by (Some (cause.Late board first arrival spoiled spill)) e k = elim (names.first (cause.Late board first arrival spoiled spill) e) [
      | inl same ↦ absurd (let bad : cause.Late board first arrival spoiled spill ≡ cause.NoSwitch section = same in cc)
      | inr less ↦ absurd (omega (arith, less))
    ]
    by (Some c) e k = absurd k

module _ (m : Machine) (v : IsValidMachine m) (s : Scene) (ts : List MotionTurn) (p : Plans m (length m.boards) ts) (t : Told) (first : ReactorTurn) (rest : List ReactorTurn) (end : ReactorTurn) (c : Cause) (told : p.seen.told ≡ Some t) (f : Facts m s ts (first ∷ rest) end c)
    (short : HaveShortDictionaries m)
    (little : (b : ℕ) → b < length m.boards → (w : IsInWhole m s.switches b (clock_of (board_at m b)) (link_of m s b) ts first (rest ++ end ∷ [])) → KeepsUp m s b ts first (rest ++ end ∷ []) p.seen.begun w)
    (runs : (noted m end.note (known_by m s.switches (came_from [] (first ∷ rest)))).phase ≡ phase.Running) (in_time : late 0 end.states ≡ None) where
  pub none_shut : NoneShut m end
  none_shut b state low at =
      let last = lasts b rest end (Here m v s ts p t first rest end c told f short b low).states (took_states m v s ts p t first rest end c told f short b low) in
      let home = on m v s ts p t first rest end c told f short little b low in
      let never = never_stop m s.switches (pins_of (board_at m b) b s.switches) s.entries b (Came_all m v s ts p t first rest end c told f short) (Turns_of m v s ts p t first rest end c told f short b low) (run_of m v s ts p t first rest end c told f short b low)
      (λ line e. let g : phase.Running ≡ Stopping line = sym runs ∙ noted_phase m end.note (known_by m s.switches (came_from [] (first ∷ rest))) ∙ e in cc) in
      let none = end_none b s.entries (By m v s ts p t first rest end c told f short) (N m v s ts p t first rest end c told f short) (cuts_on m t.clocks (Made m v s ts p t first rest end c told f short) p.seen.begun b) (Here m v s ts p t first rest end c told f short b low) home
      last.front last.last last.are never (λ n shut one. not_late last.last last.at n shut one) in
      let same : last.last ≡ state = same_item last.last state (sym last.at ∙ at) in
      ap (λ (z : State). z.shut) (sym same) ∙ none
    where
      same_item : (x y : State) → x ∷ [] ≡ y ∷ [] → x ≡ y
      same_item x y e = cc

      not_late : (x : State) → item b end.states ≡ x ∷ [] → (n : ShutNews) → x.shut ≡ Some n → n.reason ≡ 1 → ⊥
      not_late x at_x n shut one =
          let y = one_in_time 0 b end.states x in_time at_x in
          let At : Bool → Type 0 = λ z. cond z (Some (cause.Late y.0 n.first n.tick n.spoiled n.spill)) None ≡ None in
          let told_late : At (n.reason == 1) = sym (ap (late_of y.0) shut) ∙ y.1 in
          let bad : Some (cause.Late y.0 n.first n.tick n.spoiled n.spill) ≡ None = subst At (eq-eqb n.reason 1 one) told_late in
          cc

-- a run
module _ {F S : Type 0} (f : Files F) (o : Sink S) (m : Machine) (s : Scene) (name : List ℕ) (files files' : F) (out out' : S) (kept kept' : Kept) (t : near.Told Run) (r : RunsOver f o m s name files out kept t files' out' kept') (v : IsValidMachine m) (short : HaveShortDictionaries m) (section : ℕ)
    (e : t.cause ≡ cause.NoSwitch section) where
  other : t.cause ≡ cause.Memory → ⊥
  other g = let h : cause.NoSwitch section ≡ cause.Memory = sym e ∙ g in cc

  names : IsNamed m s r.runs.1 r.runs.2 (cause.NoSwitch section)
  names = subst (IsNamed m s r.runs.1 r.runs.2) e (run_names f o m s name files files' out out' kept kept' t r (subst IsOwn (sym e) tt) other)

  by : (made : IsMade m s r.runs.0 r.runs.1) (rs : List ReactorTurn) → Facts m s r.runs.0 rs r.runs.2 t.cause → IsNamed m s rs r.runs.2 (cause.NoSwitch section) → AllKeepUp m s made.plans.seen.text r.runs.0 (rs ++ r.runs.2 ∷ []) → NoneShut m r.runs.2
  by made [] x is little =
      let bad : (known_by m s.switches []).phase ≡ phase.Running = sym (noted_phase m r.runs.2.note (known_by m s.switches [])) ∙ is.so.0 in
      absurd (cc)
  by made (first ∷ rest) x is little = by_told made.plans.seen.told refl
    where
      begun : made.plans.seen.begun ≢ []
      begun = begun_some m v s r.runs.0 made.plans r.runs.2 t.cause (subst IsOwn (sym e) tt) section e first rest x

      by_told : (q : Option Told) → made.plans.seen.told ≡ q → NoneShut m r.runs.2
      by_told None told = absurd (begun (not_told m v s r.runs.0 made.plans r.runs.2 t.cause told))
      by_told (Some y) told =
          none_shut m v s r.runs.0 made.plans y first rest r.runs.2 t.cause told x short (λ b low w. little made.plans b refl begun low w) is.so.0 (none_late m s (first ∷ rest) r.runs.2 section is)

  pub run_shut : (text : List ℕ) → f.told files name ≡ Some text → kept.at ≡ 0 → AllKeepUp m s text r.runs.0 (r.runs.1 ++ r.runs.2 ∷ []) → ∥ NoneShut m r.runs.2 ∥₁
  run_shut text told at little =
      ∥∥₁_map (run_made f o m s name files files' out out' kept kept' t r text told at) (λ w.
      by w.0 r.runs.1 (facts f o m s name files files' out out' kept kept' t r other) names (subst (λ (z : List ℕ). AllKeepUp m s z r.runs.0 (r.runs.1 ++ r.runs.2 ∷ [])) (sym w.1) little))
