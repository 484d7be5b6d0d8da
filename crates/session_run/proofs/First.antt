-- The links that a run begins with.
use Rattle.std.proofs.Common.{◌≡◌, ◌≤◌, arith, get_or, drop, ℕ, ◌+◌, List, [], ◌∷◌, ◌++◌, length, Option, Some, None, IfSome, subst, Result, Ok, Err, OnOk, suc, refl, sym, ap, ◌∙◌, append_assoc}
use Rattle.plan_types.specs.declared.machine.BoardDef.{BoardDef}
use Rattle.wire_scene.specs.declared.scene.Scene.{Scene}
use Rattle.link_work.specs.Stands.{SeenLink}
use Rattle.io_core.specs.declared.traits.Files.{Ghosts as Files}
use Rattle.io_core.specs.declared.traits.Sink.{Ghosts as Sink}
use Rattle.plan_types.specs.declared.machine.Machine.{Machine}
use Rattle.host_reactor.specs.Reactor.{Run, first_run}
use Rattle.motion_stream.specs.Motions.{IsPlannerOf}
use Rattle.motion_stream.specs.Seen.{nothing_seen}
use Rattle.session_lanes.specs.declared.near.Told.{Told}
use Rattle.session_run.specs.declared.tell.Kept.{Kept}
use Rattle.session_run.specs.Desks.{IsToldRun}
use Rattle.session_run.specs.declared.motion.Planning.{Planning}
use Rattle.session_run.specs.Machines.{link, planner, reactor}
use Rattle.session_run.specs.Runs.{AreFirstLinks, IsFirstLink, RunsOver}

pub added : {T E : Type 0} (r : Result T E) (s : Scene) (i : ℕ) (b : BoardDef) (rest : List BoardDef) (old mid new : List SeenLink) (l : SeenLink) → mid ≡ old ++ l ∷ [] → IsFirstLink s i b l
    → OnOk r ((more : List SeenLink) × (new ≡ mid ++ more) × AreFirstLinks s (i + 1) rest more) → OnOk r ((more : List SeenLink) × (new ≡ old ++ more) × AreFirstLinks s i (b ∷ rest) more)
added (Ok t) s i b rest old mid new l e f h = (l ∷ h.0, h.1 ∙ ap (λ x. x ++ h.0) e ∙ append_assoc old (l ∷ []) h.0, (f, h.2))
added (Err x) s i b rest old mid new l e f h = tt

-- as many as there are boards
pub count : (s : Scene) (i : ℕ) (boards : List BoardDef) (links : List SeenLink) → AreFirstLinks s i boards links → length links ≡ length boards
count s i [] [] h = refl
count s i [] (l ∷ links) h = absurd h
count s i (b ∷ boards) [] h = absurd h
count s i (b ∷ boards) (l ∷ links) h = ap suc (count s (i + 1) boards links h.1)

pub split : (boards : List BoardDef) (d : BoardDef) → 1 ≤ length boards → boards ≡ get_or boards 0 d ∷ drop 1 boards
split [] d h = absurd (omega arith)
split (b ∷ boards) d h = refl

-- and the run that is made of them
pub ran : {F S : Type 0} (f : Files F) (o : Sink S) (m : Machine) (s : Scene) (name : List ℕ) (files : F) (out : S) (kept : Kept) (told : Option (Told Run)) (files' : F) (out' : S) (kept' : Kept) (p : Planning) (links : List SeenLink) (h : Run) (boards : List BoardDef)
    → IsPlannerOf p.motion nothing_seen → p.motion.machine ≡ m → boards ≡ m.boards → AreFirstLinks s 0 boards links → h ≡ first_run m s.switches
    → IfSome told (λ t. IsToldRun planner link reactor f o m name p links h files out kept t files' out' kept') → IfSome told (λ t. RunsOver f o m s name files out kept t files' out' kept')
ran f o m s name files out kept None files' out' kept' p links h boards fresh printer same first begins i = tt
ran f o m s name files out kept (Some t) files' out' kept' p links h boards fresh printer same first begins i = record {
  planning = p;
  fresh = fresh;
  printer = printer;
  links = links;
  first = subst (λ (bs : List BoardDef). AreFirstLinks s 0 bs links) same first;
  runs = subst (λ (r : Run). IsToldRun planner link reactor f o m name p links r files out kept t files' out' kept') begins i;
}
