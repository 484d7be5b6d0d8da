-- Runs in a scene: those that aren't begun.
use Rattle.std.proofs.Common.{◌≡◌, ◌≢◌, ◌⊎◌, inl, inr, ℕ, List, [], Option, Some, None, Ok, Err, refl, sym, ap, subst, ◌∙◌, ⊎_elim, arith}
use Rattle.std.proofs.lemmas.List.Elements.{All-nil}
use Rattle.io_core.specs.declared.traits.Files.{Ghosts as Files}
use Rattle.io_core.specs.declared.traits.Sink.{Ghosts as Sink}
use Rattle.cfg_lines.specs.declared.fault.CfgFault.TheVariants.{At}
use Rattle.cfg_text.specs.Reading.{machine_of_text}
use Rattle.plan_types.specs.declared.cause.Cause.{Cause}
use Rattle.plan_types.specs.declared.cause.Cause.TheVariants as cause
use Rattle.plan_types.specs.declared.cause.CfgKind.{CfgKind}
use Rattle.plan_types.specs.declared.cause.SceneKind.{SceneKind}
use Rattle.plan_types.specs.declared.machine.Machine.{Machine}
use Rattle.session_run.specs.declared.ended.Report.{Report}
use Rattle.wire_scene.specs.declared.fault.SceneFault.TheVariants as fault
use Rattle.wire_scene.specs.declared.scene.Scene.{Scene}
use Rattle.wire_scene.specs.Reading as scenes
use Rattle.wire_scene.specs.Valid.{IsValidEntry, IsValidScene, IsValidSwitch}
use Rattle.host_cli.specs.Answers.{IsMachineFault}
use Rattle.laws_report.specs.reports.Read.{no_scene}
use Rattle.laws_report.specs.reports.Promises.{IsCauseOf}
use Rattle.host_cli.specs.Promises.{EndsAlone, EndsBeforeRun, IsCut, IsRefused}
use Rattle.host_cli.specs.Scenes.{IsSceneFault, ShowsRun}

-- memory was wanted, or a file can't be read
abbrev pub Stops : Cause → Type 0
Stops c = (c ≡ cause.Memory) ⊎ (c ≡ cause.ReadFault)

-- why a scene isn't there
abbrev pub NoScene : Machine → Option (List ℕ) → Cause → Type 0
NoScene m told c = ((line : ℕ) × (kind : SceneKind) × (c ≡ cause.Scene line kind) × ((text : List ℕ) → told ≡ Some text → scenes.scene_of_text m text ≡ Err (fault.At line kind))) ⊎ Stops c

pub no-scene : (m : Machine) (told : Option (List ℕ)) (c : Cause) → IsSceneFault m told c → NoScene m told c
no-scene m told (cause.Scene line kind) h = inl (line, kind, refl, h)
no-scene m told cause.Memory h = inr (inl refl)
no-scene m told cause.ReadFault h = inr (inr refl)
no-scene m told cause.Done h = absurd h
no-scene m told cause.Usage h = absurd h
no-scene m told cause.WriteFault h = absurd h
no-scene m told (cause.Config line kind) h = absurd h
no-scene m told (cause.Line line kind) h = absurd h
no-scene m told (cause.Late b f t s p) h = absurd h
no-scene m told (cause.Asked line) h = absurd h
no-scene m told (cause.NoSwitch section) h = absurd h
no-scene m told (cause.Expired b turn) h = absurd h
no-scene m told (cause.Connect b turn) h = absurd h
no-scene m told (cause.Stale b turn) h = absurd h
no-scene m told (cause.Trace line kind) h = absurd h
no-scene m told cause.NoBoard h = absurd h
no-scene m told cause.NoFan h = absurd h
no-scene m told (cause.Mesh line kind) h = absurd h
no-scene m told (cause.Misfit line kind) h = absurd h

-- why a machine isn't there
abbrev pub NoMachine : Option (List ℕ) → Cause → Type 0
NoMachine told c = ((line : ℕ) × (kind : CfgKind) × (c ≡ cause.Config line kind) × ((printer : List ℕ) → told ≡ Some printer → machine_of_text printer ≡ Err (At line kind))) ⊎ Stops c

pub no-machine : (told : Option (List ℕ)) (c : Cause) → IsMachineFault told c → NoMachine told c
no-machine told (cause.Config line kind) h = inl (line, kind, refl, h)
no-machine told cause.Memory h = inr (inl refl)
no-machine told cause.ReadFault h = inr (inr refl)
no-machine told cause.Done h = absurd h
no-machine told cause.Usage h = absurd h
no-machine told cause.WriteFault h = absurd h
no-machine told (cause.Scene line kind) h = absurd h
no-machine told (cause.Line line kind) h = absurd h
no-machine told (cause.Late b f t s p) h = absurd h
no-machine told (cause.Asked line) h = absurd h
no-machine told (cause.NoSwitch section) h = absurd h
no-machine told (cause.Expired b turn) h = absurd h
no-machine told (cause.Connect b turn) h = absurd h
no-machine told (cause.Stale b turn) h = absurd h
no-machine told (cause.Trace line kind) h = absurd h
no-machine told cause.NoBoard h = absurd h
no-machine told cause.NoFan h = absurd h
no-machine told (cause.Mesh line kind) h = absurd h
no-machine told (cause.Misfit line kind) h = absurd h

module _ (old new : Option (List ℕ)) (given : Cause) (shown : Report) where
  -- whatever was wanted, it is refused where it stops
  pub stop-cut : (c : Cause) → Stops c → EndsBeforeRun c old new given shown → IsCut old new given shown
  stop-cut c (inl m) (inl x) = inl (let E : Cause → Type 0 = λ d. EndsAlone d old new given shown in subst E m x)
  stop-cut c (inr r) (inl x) = inr (let E : Cause → Type 0 = λ d. EndsAlone d old new given shown in subst E r x)
  stop-cut c st (inr x) = inl x

  pub any-refused : (wanted c : Cause) → Stops c → EndsBeforeRun c old new given shown → IsRefused wanted old new given shown
  any-refused wanted c st r = inr (stop-cut c st r)

  pub for-refused : (c : Cause) → EndsBeforeRun c old new given shown → IsRefused c old new given shown
  for-refused c (inl x) = inl x
  for-refused c (inr x) = inr (inl x)

  pub scene-refused : (m : Machine) (told : Option (List ℕ)) (c : Cause) (text : List ℕ) (line : ℕ) (kind : SceneKind) → NoScene m told c → EndsBeforeRun c old new given shown → told ≡ Some text → scenes.scene_of_text m text ≡ Err (fault.At line kind)
      → IsRefused (cause.Scene line kind) old new given shown
  scene-refused m told c text line kind (inl x) r t is =
      let same : cause.Scene x.0 x.1 ≡ cause.Scene line kind = (let e = sym (x.3 text t) ∙ is in cc) in
      subst (λ d. IsRefused d old new given shown) (x.2 ∙ same) (for-refused c r)
  scene-refused m told c text line kind (inr st) r t is = any-refused (cause.Scene line kind) c st r

  -- no scene was looked at
  pub machine-unread : (m : Machine) (told : Option (List ℕ)) (c wanted : Cause) (printer : List ℕ) → NoMachine told c → EndsBeforeRun c old new given shown → told ≡ Some printer → machine_of_text printer ≡ Ok m → IsRefused wanted old new given shown
  machine-unread m told c wanted printer (inl x) r t is = absurd (let e = sym is ∙ x.3 printer t in cc)
  machine-unread m told c wanted printer (inr st) r t is = any-refused wanted c st r

  pub config-refused : (told : Option (List ℕ)) (c : Cause) (printer : List ℕ) (line : ℕ) (kind : CfgKind) → NoMachine told c → EndsBeforeRun c old new given shown → told ≡ Some printer → machine_of_text printer ≡ Err (At line kind)
      → IsRefused (cause.Config line kind) old new given shown
  config-refused told c printer line kind (inl x) r t is =
      let same : cause.Config x.0 x.1 ≡ cause.Config line kind = (let e = sym (x.3 printer t) ∙ is in cc) in
      subst (λ d. IsRefused d old new given shown) (x.2 ∙ same) (for-refused c r)
  config-refused told c printer line kind (inr st) r t is = any-refused (cause.Config line kind) c st r

module _ {F S : Type 0} (f : Files F) (o : Sink S) (s : Scene) (gcode : List ℕ) (files files' : F) (out out' : S) (given : Cause) (shown : Report) where
  pub stop-shows : (m : Machine) (c : Cause) → Stops c → EndsBeforeRun c (o.written out) (o.written out') given shown → ShowsRun f o m s gcode files files' out out' given shown
  stop-shows m c st r = inr (stop-cut (o.written out) (o.written out') given shown c st r)

  -- of a scene that is read, nothing but a stop
  pub scene-shows : (m : Machine) (told : Option (List ℕ)) (c : Cause) (text : List ℕ) → NoScene m told c → EndsBeforeRun c (o.written out) (o.written out') given shown → told ≡ Some text → scenes.scene_of_text m text ≡ Ok s
      → ShowsRun f o m s gcode files files' out out' given shown
  scene-shows m told c text (inl x) r t is = absurd (let e = sym is ∙ x.3 text t in cc)
  scene-shows m told c text (inr st) r t is = stop-shows m c st r

  pub machine-shows : (m : Machine) (told : Option (List ℕ)) (c : Cause) (printer : List ℕ) → NoMachine told c → EndsBeforeRun c (o.written out) (o.written out') given shown → told ≡ Some printer → machine_of_text printer ≡ Ok m
      → ShowsRun f o m s gcode files files' out out' given shown
  machine-shows m told c printer (inl x) r t is = absurd (let e = sym is ∙ x.3 printer t in cc)
  machine-shows m told c printer (inr st) r t is = stop-shows m c st r

-- no such cause is that of words
pub scene-named : (m : Machine) (told : Option (List ℕ)) (c given : Cause) → NoScene m told c → IsCauseOf c given → given ≢ cause.Usage
scene-named m told c given (inl x) (inl e) u = let y = sym u ∙ e ∙ x.2 in cc
scene-named m told c given (inr (inl x)) (inl e) u = let y = sym u ∙ e ∙ x in cc
scene-named m told c given (inr (inr x)) (inl e) u = let y = sym u ∙ e ∙ x in cc
scene-named m told c given n (inr (inl e)) u = let y = sym u ∙ e in cc
scene-named m told c given n (inr (inr (inl e))) u = let y = sym u ∙ e in cc
scene-named m told c given n (inr (inr (inr e))) u = let y = sym u ∙ e in cc

pub machine-named : (told : Option (List ℕ)) (c given : Cause) → NoMachine told c → IsCauseOf c given → given ≢ cause.Usage
machine-named told c given (inl x) (inl e) u = let y = sym u ∙ e ∙ x.2 in cc
machine-named told c given (inr (inl x)) (inl e) u = let y = sym u ∙ e ∙ x in cc
machine-named told c given (inr (inr x)) (inl e) u = let y = sym u ∙ e ∙ x in cc
machine-named told c given n (inr (inl e)) u = let y = sym u ∙ e in cc
machine-named told c given n (inr (inr (inl e))) u = let y = sym u ∙ e in cc
machine-named told c given n (inr (inr (inr e))) u = let y = sym u ∙ e in cc

-- it is that of a configuration where this has the fault
pub config-machine : (told : Option (List ℕ)) (c given : Cause) (printer : List ℕ) (line : ℕ) (kind : CfgKind) → NoMachine told c → (given ≢ cause.WriteFault → given ≢ cause.Memory → given ≡ c) → told ≡ Some printer → given ≡ cause.Config line kind
    → machine_of_text printer ≡ Err (At line kind)
config-machine told c given printer line kind n own t is =
    let at : c ≡ cause.Config line kind = sym (own (λ e. let y = sym is ∙ e in cc) (λ e. let y = sym is ∙ e in cc)) ∙ is in
    by n at where
      by : NoMachine told c → c ≡ cause.Config line kind → machine_of_text printer ≡ Err (At line kind)
      by (inl x) at =
          let same : cause.Config x.0 x.1 ≡ cause.Config line kind = sym x.2 ∙ at in
          let lines : x.0 ≡ line = (let y = same in cc) in
          let kinds : x.1 ≡ kind = (let y = same in cc) in
          x.3 printer t ∙ (λ i. Err (At (lines i) (kinds i)))
      by (inr (inl x)) at = absurd (let y = sym x ∙ at in cc)
      by (inr (inr x)) at = absurd (let y = sym x ∙ at in cc)

-- it is none of a write
pub scene-unwritten : (m : Machine) (told : Option (List ℕ)) (c : Cause) → NoScene m told c → c ≢ cause.WriteFault
scene-unwritten m told c (inl x) w = let y = sym w ∙ x.2 in cc
scene-unwritten m told c (inr (inl x)) w = let y = sym w ∙ x in cc
scene-unwritten m told c (inr (inr x)) w = let y = sym w ∙ x in cc

pub machine-unwritten : (told : Option (List ℕ)) (c : Cause) → NoMachine told c → c ≢ cause.WriteFault
machine-unwritten told c (inl x) w = let y = sym w ∙ x.2 in cc
machine-unwritten told c (inr (inl x)) w = let y = sym w ∙ x in cc
machine-unwritten told c (inr (inr x)) w = let y = sym w ∙ x in cc

-- a text has one machine
pub one-machine : (printer : List ℕ) (x m : Machine) → machine_of_text printer ≡ Ok x → machine_of_text printer ≡ Ok m → x ≡ m
one-machine printer x m e h = let q = sym e ∙ h in cc

pub one-scene : (m : Machine) (text : List ℕ) (x s : Scene) → scenes.scene_of_text m text ≡ Ok x → scenes.scene_of_text m text ≡ Ok s → x ≡ s
one-scene m text x s e h = let q = sym e ∙ h in cc

-- a scene in which nothing stands
pub empty-scene : (s : Scene) → s.entries ≡ [] → s.switches ≡ [] → s ≡ no_scene
empty-scene s entries switches = λ i. record { entries = entries i; switches = switches i }

none-valid : (m : Machine) → IsValidScene m no_scene
none-valid m = record { few = omega arith; entries = All-nil (IsValidEntry m); switches = All-nil (IsValidSwitch m); numbers_rise = λ i j d before within. absurd (omega arith); ticks_rise = λ i j d before within. absurd (omega arith) }

pub valid-empty : (m : Machine) (s : Scene) → s.entries ≡ [] → s.switches ≡ [] → IsValidScene m s
valid-empty m s entries switches = subst (IsValidScene m) (sym (empty-scene s entries switches)) (none-valid m)

-- files that tell the same show the same
pub shows-from : {F S : Type 0} (f : Files F) (o : Sink S) (m : Machine) (s : Scene) (gcode : List ℕ) (files mid files' : F) (out out' : S) (given : Cause) (shown : Report)
    → ((name : List ℕ) → f.told mid name ≡ f.told files name) → ShowsRun f o m s gcode mid files' out out' given shown → ShowsRun f o m s gcode files files' out out' given shown
shows-from f o m s gcode files mid files' out out' given shown same (inl x) = inl (x.0, (λ name. x.1 name ∙ same name), x.2)
shows-from f o m s gcode files mid files' out out' given shown same (inr x) = inr x
