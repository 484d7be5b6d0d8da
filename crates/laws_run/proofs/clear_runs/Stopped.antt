-- For which causes a whole run ends.
use Rattle.std.proofs.Common.{◌≡◌, ◌⊎◌, ℕ, List, [], length, Option, Some, refl, sym, ◌∙◌, subst, inl, inr}
use Rattle.io_core.specs.declared.traits.Files.{Ghosts as Files}
use Rattle.io_core.specs.declared.traits.Sink.{Ghosts as Sink}
use Rattle.laws_board.proofs.Names.{Cause, Machine, Scene, Run, IsOwn}
use Rattle.plan_types.specs.declared.cause.Cause.TheVariants as cause
use Rattle.host_reactor.specs.Reactor.{first_run}
use Rattle.host_reactor.specs.Rows.{MayEndFor}
use Rattle.host_reactor.proofs.Blames.{blames}
use Rattle.session_lanes.specs.declared.near.Told.{Told}
use Rattle.session_lanes.specs.Runs.{head_at, ran_at}
use Rattle.session_run.specs.declared.read.ReadStop.{ReadStop}
use Rattle.session_run.specs.declared.tell.Kept.{Kept}
use Rattle.session_run.specs.Desks.{cause_of, desk_out}
use Rattle.session_run.specs.Runs.{RunsOver}
use Rattle.session_run.proofs.First.{count}
use Rattle.session_run.proofs.Reacting as reacting
use Rattle.laws_run.proofs.run_headline.Faults as faults
use Rattle.laws_run.proofs.run_headline.Faults.{Faulty}

-- a run ends for want of memory, for a fault of the writing or the reading, or for a cause of its own
abbrev pub IsFor : Cause → Type 0
IsFor c = (c ≡ cause.Memory) ⊎ ((c ≡ cause.WriteFault) ⊎ (((x : ReadStop) × (c ≡ cause_of x)) ⊎ IsOwn c))

is_for : (told : Option Cause) (c : Cause) → Faulty told → MayEndFor told c → IsFor c
is_for told c faulty (inl e) = inl e
is_for told c faulty (inr (inl e)) = let f : Faulty (Some c) = subst Faulty e faulty in elim f [ inl w ↦ inr (inl w) | inr w ↦ inr (inr (inl w)) ]
is_for told c faulty (inr (inr e)) = inr (inr (inr e.1))

module _ {F S : Type 0} (f : Files F) (o : Sink S) (m : Machine) (s : Scene) (name : List ℕ) (files files' : F) (out out' : S) (kept kept' : Kept) (t : Told Run) (r : RunsOver f o m s name files out kept t files' out' kept') where
  pub run_is_for : IsFor t.cause
  run_is_for =
      let (ts, rs, end, n, x, y, met, logs, happened, has, has') = r.runs in
      let many : length r.links ≡ length m.boards = count s 0 m.boards r.links r.first in
      let head = head_at (first_run m s.switches) x in
      let last = faults.last f o m s.switches (length r.links) 0 [] head rs end (ran_at t y).head many refl met.2 met.1 (reacting.begins (desk_out f o) m s.switches) tt in
      elim last.step.1.1 [
        | inl w ↦ is_for last.x.machine.known.stopped t.cause last.told ((blames last.x.machine.machine last.x.machine.switches last.x.machine.known last.k end.states end.note).ends t.cause (sym w.1.1.end_is ∙ met.3))
        | inr q ↦ inl (let g : Some t.cause ≡ Some cause.Memory = sym met.3 ∙ q.3 in cc)
      ]
