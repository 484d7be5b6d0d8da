-- A whole run that ends as a board expired, by what the board told.
use Rattle.std.proofs.Common.{◌≡◌, ℕ, List, [], length, Option, Some, None, refl, sym, ◌∙◌, subst}
use Rattle.io_core.specs.declared.traits.Files.{Ghosts as Files}
use Rattle.io_core.specs.declared.traits.Sink.{Ghosts as Sink}
use Rattle.laws_board.proofs.Names.{Cause, Machine, Clocks, State, Scene, End, Homing, answer_in, by_answer, hears_all, homing_turn, Known, noted, Run, IsOwn, GoesOn, known_by}
use Rattle.plan_types.specs.declared.cause.Cause.TheVariants as cause
use Rattle.trigger_group.specs.declared.order.End.TheVariants as end
use Rattle.session_lanes.specs.declared.near.Told.{Told}
use Rattle.session_run.specs.declared.tell.Kept.{Kept}
use Rattle.session_run.specs.Boards.{came_from, came_in}
use Rattle.session_run.specs.Runs.{RunsOver}
use Rattle.laws_run.specs.run_ends.Ends.{EndsSo}
use Rattle.laws_run.proofs.run_ends.Ending.{ends_so}
use Rattle.laws_run.proofs.run_headline.Making.{run_turns}
use Rattle.laws_run.proofs.run_headline.Runs.{facts}
use Rattle.laws_run.proofs.run_headline.Showing.{ends_own}
use Rattle.laws_run.proofs.clear_runs.Bare.{goes_of}
use Rattle.laws_run.specs.clear_homes.Expiry.{IsExpired}
use Rattle.laws_homing.proofs.clear_boards.Heard.{expiry_told}

expired_answer : (k b turn : ℕ) (h : Homing) (o : Option End) → (by_answer k h o).end ≡ Some (cause.Expired b turn) → o ≡ Some (end.Expired b turn)
expired_answer k b turn h None e = cc
expired_answer k b turn h (Some (end.Endstop tick)) e = cc
expired_answer k b turn h (Some end.NoSwitch) e = absurd (none e)
  where
    none : Some (cause.NoSwitch h.section) ≡ Some (cause.Expired b turn) → ⊥
    none g = cc
expired_answer k b turn h (Some (end.Expired c at)) e = same e
  where
    same : Some (cause.Expired c at) ≡ Some (cause.Expired b turn) → Some (end.Expired c at) ≡ Some (end.Expired b turn)
    same g = cc

pub expired_of : (clocks : List Clocks) (k b turn : ℕ) (states : List State) (o : Option Homing) → (homing_turn clocks k states o).end ≡ Some (cause.Expired b turn)
    → (h : Homing) × (o ≡ Some h) × (answer_in k h.start (hears_all clocks states h).group ≡ Some (end.Expired b turn))
expired_of clocks k b turn states None e = absurd (let f : None ≡ Some (cause.Expired b turn) = e in cc)
expired_of clocks k b turn states (Some h) e = let g = hears_all clocks states h in (h, refl, expired_answer k b turn g (answer_in k g.start g.group) e)

-- or that no switch closed
missed_answer : (k section : ℕ) (h : Homing) (o : Option End) → (by_answer k h o).end ≡ Some (cause.NoSwitch section) → (o ≡ Some end.NoSwitch) × (section ≡ h.section)
missed_answer k section h None e = absurd (let f : None ≡ Some (cause.NoSwitch section) = e in cc)
missed_answer k section h (Some (end.Endstop tick)) e = absurd (let f : None ≡ Some (cause.NoSwitch section) = e in cc)
missed_answer k section h (Some end.NoSwitch) e = (refl, same e)
  where
    same : Some (cause.NoSwitch h.section) ≡ Some (cause.NoSwitch section) → section ≡ h.section
    same g = cc
missed_answer k section h (Some (end.Expired c at)) e = absurd (none e)
  where
    none : Some (cause.Expired c at) ≡ Some (cause.NoSwitch section) → ⊥
    none g = cc

pub missed_of : (clocks : List Clocks) (k section : ℕ) (states : List State) (o : Option Homing) → (homing_turn clocks k states o).end ≡ Some (cause.NoSwitch section)
    → (h : Homing) × (o ≡ Some h) × (answer_in k h.start (hears_all clocks states h).group ≡ Some end.NoSwitch) × (section ≡ h.section)
missed_of clocks k section states None e = absurd (let f : None ≡ Some (cause.NoSwitch section) = e in cc)
missed_of clocks k section states (Some h) e = let g = hears_all clocks states h in let x = missed_answer k section g (answer_in k g.start g.group) e in (h, refl, x.0, x.1)

module _ {F S : Type 0} (f : Files F) (o : Sink S) (m : Machine) (s : Scene) (name : List ℕ) (files files' : F) (out out' : S) (kept kept' : Kept) (t : Told Run) (r : RunsOver f o m s name files out kept t files' out' kept') where
  -- the cause is so in the last turn
  pub ended_so : (c : Cause) → t.cause ≡ c → (c ≡ cause.Memory → ⊥) → IsOwn c
      → EndsSo m (noted m r.runs.2.note (known_by m s.switches (came_from [] r.runs.1))) (length (came_from [] r.runs.1)) r.runs.2.states c
  ended_so c e other own_c =
      let x = facts f o m s name files files' out out' kept kept' t r (λ g. other (sym e ∙ g)) in
      let own : IsOwn t.cause = subst IsOwn (sym e) own_c in
      let came = came_from [] r.runs.1 in
      let last = r.runs.2 in
      let Ends : Known → Type 0 = λ q. EndsSo m (noted m last.note q) (length came) last.states t.cause in
      let By : Cause → Type 0 = λ d. EndsSo m (noted m last.note (known_by m s.switches came)) (length came) last.states d in
      subst By e (subst Ends (x.own own).0 (ends_so m s.switches x.known (length came) last.states last.note t.cause (x.own own).1 x.other (sym (ends_own m s r.runs.0 r.runs.1 r.runs.2 t.cause x own))))

  -- and the turns before it go on
  pub goes_so : GoesOn m s.switches (came_from [] r.runs.1)
  goes_so = goes_of m s.switches [] r.runs.1 (run_turns f o m s name files files' out out' kept kept' t r) tt

  pub run_expired : (board turn : ℕ) → t.cause ≡ cause.Expired board turn → IsExpired m s.switches board turn r.runs.1 r.runs.2
  run_expired board turn e =
      let came = came_from [] r.runs.1 in
      let last = r.runs.2 in
      let n = noted m last.note (known_by m s.switches came) in
      let is = expired_of n.clocks (length came) board turn last.states n.homing (ended_so (cause.Expired board turn) e (λ g. cc) tt).1 in
      let both = expiry_told m s.switches (came_in last) came is.0 board turn goes_so is.1 is.2 in
      (is.0, is.1, both.0, both.1)
