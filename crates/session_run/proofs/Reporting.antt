-- What the report of a whole run shows, by what is kept of the run.
use Rattle.std.proofs.Common.{◌≡◌, ◌≢◌, ◌⊎◌, ◌<◌, inl, inr, ℕ, List, [], ◌∷◌, ◌++◌, Option, Some, None, refl, sym, ap, ◌∙◌, subst, ⊎_elim, append-nil, append_assoc, arith}
use Rattle.std.specs.Prelude.{◌≤◌, length, replicate}
use Rattle.std.proofs.lemmas.List.FromFn.{length-map-range_with_len}
use Rattle.io_core.specs.declared.traits.Files.{Ghosts as Files}
use Rattle.io_core.specs.declared.traits.Sink.{Ghosts as Sink}
use Rattle.io_core.specs.Faults.{Rose}
use Rattle.plan_types.specs.declared.cause.Cause.{Cause}
use Rattle.plan_types.specs.declared.cause.Cause.TheVariants as cause
use Rattle.plan_types.specs.declared.machine.Machine.{Machine}
use Rattle.report_text.specs.declared.line.ReportLine.{ReportLine}
use Rattle.report_text.specs.declared.line.ReportLine.TheVariants as report
use Rattle.report_text.specs.Text.{line_text, report_text}
use Rattle.report_text.specs.declared.write.WriteStop.{WriteStop}
use Rattle.report_text.specs.declared.write.WriteStop.TheVariants as stop
use Rattle.report_text.specs.Written.{BeginsWith, WritesAll, WritesFront}
use Rattle.report_text.proofs.Writing.{lines-front, lines-more, report_text-append}
use Rattle.host_reactor.specs.Reactor.{Run, first_run}
use Rattle.host_reactor.specs.Rows.{IsOwn}
use Rattle.wire_scene.specs.declared.scene.Scene.{Scene}
use Rattle.session_lanes.specs.declared.near.Told.{Told}
use Rattle.session_lanes.specs.Runs.{head_at}
use Rattle.session_run.specs.declared.desk.Desk.{Desk}
use Rattle.session_run.specs.declared.read.ReadStop.{ReadStop}
use Rattle.session_run.specs.declared.read.ReadStop.TheVariants as read
use Rattle.session_run.specs.declared.tell.Kept.{Kept}
use Rattle.session_run.specs.Counts.{counted, pulse_counts, pulses_shown}
use Rattle.session_run.specs.Desks.{cause_of}
use Rattle.session_run.specs.Reads.{CountsReads, StopsReading}
use Rattle.session_run.specs.Tells.{WereTold, StopsWriting, Tells, without_pulses}
use Rattle.session_run.proofs.Counted.{all-counted}
use Rattle.session_run.specs.Reported.{GivenFor, IsFresh, IsOfRun, IsWritten, own_of, run_lines, with_failure}
use Rattle.session_run.specs.Runs.{RunsOver}
use Rattle.session_run.proofs.Causes.{IsFor, ends-for}

-- the cause of a run is that of what is kept
pub run-for : {F S : Type 0} (f : Files F) (o : Sink S) (m : Machine) (s : Scene) (name : List ℕ) (files : F) (out : S) (kept : Kept) (t : Told Run) (files' : F) (mid : S) (kept' : Kept) → IsFresh (length m.steppers) kept → RunsOver f o m s name files out kept t files' mid kept'
    → IsFor t.cause kept'.unwritten kept'.unread
run-for f o m s name files out kept t files' mid kept' fresh r =
    let q = r.runs in
    let met = q.6 in
    let same = q.9.2 in
    let here = q.10.2 in
    subst (λ (k : Kept). IsFor t.cause k.unwritten k.unread) here
    (ends-for f o _ 0 (head_at (first_run m s.switches) q.4) q.1 q.2 t.cause _ met.2 met.3 met.1 (ap (λ (k : Kept). k.unwritten) same ∙ fresh.unwritten, ap (λ (k : Kept). k.unread) same ∙ fresh.unread))

-- behind a write that failed
pub failure_is : (t : Cause) → (with_failure t ≡ cause.Memory) ⊎ (with_failure t ≡ cause.WriteFault)
failure_is cause.Memory = inl refl
failure_is _ = inr refl

pub failed_as : (t c : Cause) → c ≡ with_failure t → (c ≡ cause.Memory) ⊎ (c ≡ cause.WriteFault)
failed_as t c e = ⊎_elim (λ x. inl (e ∙ x)) (λ x. inr (e ∙ x)) (failure_is t)

pub given_plain : (own c : Cause) → GivenFor own c → (c ≡ own) ⊎ ((c ≡ cause.Memory) ⊎ (c ≡ cause.WriteFault))
given_plain own c (inl e) = inl e
given_plain own c (inr (inl e)) = inr (inl e)
given_plain own c (inr (inr e)) = inr (failed_as own c e)

stop_out : (w : WriteStop) (own c : Cause) → c ≡ own_of (Some w) own → c ≢ cause.Memory → c ≢ cause.WriteFault → ⊥
stop_out stop.Memory own c e a b = a e
stop_out stop.Failed own c e a b = ⊎_elim a b (failed_as own c e)

-- what a report shows
pub record Shows (m : Machine) (old new : Option (List ℕ)) (c own-cause : Cause) (all lines : List ReportLine) (n : ℕ) (counts : List ℕ) : Type 0 where
  pub said : List ReportLine
  pub rest : List ReportLine
  pub are : all ≡ said ++ rest
  pub own : Cause
  pub end : (lines ≡ without_pulses said ++ report.End own ∷ []) ⊎ ((lines ≡ without_pulses said) × (c ≡ cause.Memory))
  pub counted : counts ≡ pulse_counts n said
  pub written : IsWritten m old new c (said ++ report.End own ∷ [])
  pub own_is : (own ≡ own-cause) ⊎ ((own ≡ cause.Memory) ⊎ (own ≡ with_failure own-cause))
  pub given_is : GivenFor own c
  pub cause_is : c ≢ cause.Memory → c ≢ cause.WriteFault → (rest ≡ []) × (own ≡ own-cause) × (c ≡ own-cause)

front-more : (text more front : List ℕ) → BeginsWith text front → BeginsWith (text ++ more) front
front-more text more front b = (b.0 ++ more, ap (λ t. t ++ more) b.1 ∙ append_assoc front b.0 more)

writes-more : (old new : Option (List ℕ)) (text more : List ℕ) → WritesFront old new text → WritesFront old new (text ++ more)
writes-more old new text more w before e = let z = w before e in (z.0, z.1, front-more text more z.0 z.2)

-- what is written where the writing went on
shows-all : (m : Machine) (old mid new : Option (List ℕ)) (c t : Cause) (all kept lines : List ReportLine) (n : ℕ) (counts : List ℕ) → counts ≡ pulse_counts n all → WritesAll old mid (report_text m all) → kept ≡ without_pulses all
    → (lines ≡ kept ++ report.End t ∷ []) ⊎ ((lines ≡ kept) × (c ≡ cause.Memory)) → GivenFor t c
    → WritesFront mid new (line_text m (report.End t)) → (c ≢ cause.Memory → c ≢ cause.WriteFault → WritesAll mid new (line_text m (report.End t))) → Shows m old new c t all lines n counts
shows-all m old mid new c t all kept lines n counts are w k e cs fr al = record {
  said = all;
  rest = [];
  are = sym (append-nil all);
  own = t;
  end = ⊎_elim (λ x. inl (x ∙ ap (λ (ls : List ReportLine). ls ++ report.End t ∷ []) k)) (λ x. inr (x.0 ∙ k, x.1)) e;
  counted = are;
  written = record { front = lines-front m old mid new all (report.End t) [] w fr; all = λ a b. lines-more m old mid new all (report.End t) w (al a b) };
  own_is = inl refl;
  given_is = cs;
  cause_is = λ a b. (refl, refl, ⊎_elim (λ x. x) (λ x. absurd (⊎_elim a b x)) (given_plain t c cs));
}

-- and where it stopped
shows-front : (m : Machine) (old mid new : Option (List ℕ)) (c t : Cause) (w : WriteStop) (all kept lines : List ReportLine) (n : ℕ) (before counts : List ℕ) (d : WereTold m all old mid [] before kept counts) → before ≡ replicate n 0 → new ≡ mid
    → (lines ≡ kept ++ report.End (own_of (Some w) t) ∷ []) ⊎ ((lines ≡ kept) × (c ≡ cause.Memory)) → (c ≡ own_of (Some w) t) ⊎ (c ≡ cause.Memory) → Shows m old new c t all lines n counts
shows-front m old mid new c t w all kept lines n before counts d none same e cs =
    let out : (c ≢ cause.Memory) → (c ≢ cause.WriteFault) → ⊥ = λ a b. ⊎_elim (λ x. stopped w x a b) a cs in record {
      said = d.said;
      rest = d.rest;
      are = d.are;
      own = own_of (Some w) t;
      end = ⊎_elim (λ x. inl (x ∙ ap (λ (ls : List ReportLine). ls ++ report.End (own_of (Some w) t) ∷ []) d.keeps)) (λ x. inr (x.0 ∙ d.keeps, x.1)) e;
      counted = d.counted ∙ all-counted n before d.said none;
      written = record {
        front = subst (λ n. WritesFront old n (report_text m (d.said ++ report.End (own_of (Some w) t) ∷ []))) (sym same)
            (subst (λ x. WritesFront old mid x) (sym (report_text-append m d.said (report.End (own_of (Some w) t) ∷ []))) (writes-more old mid (report_text m d.said) _ d.writes));
        all = λ a b. absurd (out a b);
      };
      own_is = of_stop w;
      given_is = ⊎_elim (λ x. inl x) (λ x. inr (inl x)) cs;
      cause_is = λ a b. absurd (out a b);
    }
  where
    stopped : (w : WriteStop) → c ≡ own_of (Some w) t → c ≢ cause.Memory → c ≢ cause.WriteFault → ⊥
    stopped w x a b = stop_out w t c x a b

    of_stop : (w : WriteStop) → (own_of (Some w) t ≡ t) ⊎ ((own_of (Some w) t ≡ cause.Memory) ⊎ (own_of (Some w) t ≡ with_failure t))
    of_stop stop.Memory = inr (inl refl)
    of_stop stop.Failed = inr (inr refl)

pub shows : (m : Machine) (old mid new : Option (List ℕ)) (c t : Cause) (u u' : Option WriteStop) (before after : ℕ) (all kept kept' lines : List ReportLine) (n : ℕ) (none-yet counts : List ℕ) → u ≡ None → kept ≡ [] → none-yet ≡ replicate n 0
    → Tells m all u old before kept none-yet u' mid after kept' counts
    → (lines ≡ kept' ++ report.End (own_of u' t) ∷ []) ⊎ ((lines ≡ kept') × (c ≡ cause.Memory)) → GivenFor (own_of u' t) c
    → (u' ≡ None → WritesFront mid new (line_text m (report.End t))) → (u' ≡ None → c ≢ cause.Memory → c ≢ cause.WriteFault → WritesAll mid new (line_text m (report.End t)))
    → ((w : WriteStop) → u' ≡ Some w → (new ≡ mid) × ((c ≡ own_of (Some w) t) ⊎ (c ≡ cause.Memory))) → Shows m old new c t all lines n counts
shows m old mid new c t (Some w) u' before after all kept kept' lines n none-yet counts none empty zeros tells e cs fr al st = absurd (let x = none in cc)
shows m old mid new c t None None before after all kept kept' lines n none-yet counts none empty zeros tells e cs fr al st =
    shows-all m old mid new c t all kept' lines n counts (tells.3 ∙ all-counted n none-yet all zeros) tells.0 (tells.2 ∙ ap (λ (ls : List ReportLine). ls ++ without_pulses all) empty) e cs (fr refl) (al refl)
shows m old mid new c t None (Some w) before after all kept kept' lines n none-yet counts none empty zeros tells e cs fr al st =
    shows-front m old mid new c t w all kept' lines n none-yet counts (subst (λ (ls : List ReportLine). WereTold m all old mid ls none-yet kept' counts) empty tells.0) zeros (st w refl).0 e (st w refl).1

-- the faults
rose-on : (a b c : ℕ) → b ≡ a → Rose b c → Rose a c
rose-on a b c e h = subst (λ x. Rose x c) e h

failed-read : (u u' : Option ReadStop) (a b : ℕ) → u ≡ None → CountsReads u a u' b → u' ≡ Some read.Failed → Rose a b
failed-read (Some x) u' a b none h e = absurd (let y = none in cc)
failed-read None None a b none h e = absurd (let y = e in cc)
failed-read None (Some read.Memory) a b none h e = absurd (let y = e in cc)
failed-read None (Some read.Failed) a b none h e = h

quiet-read : (u u' : Option ReadStop) (a b : ℕ) → u ≡ None → CountsReads u a u' b → u' ≡ None → b ≡ a
quiet-read (Some x) u' a b none h e = absurd (let y = none in cc)
quiet-read None None a b none h e = h
quiet-read None (Some x) a b none h e = absurd (let y = e in cc)

which-read : (x : ReadStop) → cause.ReadFault ≡ cause_of x → x ≡ read.Failed
which-read read.Memory e = absurd (let y = e in cc)
which-read read.Failed e = refl

no-write : (x : ReadStop) → cause.WriteFault ≡ cause_of x → ⊥
no-write read.Memory e = cc
no-write read.Failed e = cc

-- a read that failed was counted
pub read-for : (w : Option WriteStop) (r r' : Option ReadStop) (c t : Cause) (a b : ℕ) → r ≡ None → CountsReads r a r' b → IsFor t w r' → (c ≡ own_of w t) ⊎ ((c ≡ cause.Memory) ⊎ (c ≡ cause.WriteFault)) → c ≡ cause.ReadFault → Rose a b
read-for (Some stop.Memory) r r' c t a b none h i cs e = absurd (⊎_elim (λ x. let y = sym e ∙ x in cc) (λ z. ⊎_elim (λ x. let y = sym e ∙ x in cc) (λ x. let y = sym e ∙ x in cc) z) cs)
read-for (Some stop.Failed) r r' c t a b none h i cs e = absurd (⊎_elim (λ x. ⊎_elim (λ p. let y = sym e ∙ p in cc) (λ p. let y = sym e ∙ p in cc) (failed_as t c x)) (λ z. ⊎_elim (λ x. let y = sym e ∙ x in cc) (λ x. let y = sym e ∙ x in cc) z) cs)
read-for None r r' c t a b none h i cs e =
    let is : t ≡ cause.ReadFault = ⊎_elim (λ x. sym x ∙ e) (λ z. absurd (⊎_elim (λ x. let y = sym e ∙ x in cc) (λ x. let y = sym e ∙ x in cc) z)) cs in
    ⊎_elim (λ x. absurd (let y = sym is ∙ x in cc))
    (λ more. ⊎_elim (λ x. absurd (let y = sym is ∙ x.0 in cc))
    (λ last. ⊎_elim (λ x. failed-read r r' a b none h (x.1 ∙ ap Some (which-read x.0 (sym is ∙ x.2)))) (λ x. absurd (subst IsOwn is x.0)) last) more)
    i

-- a run that ends for no fault read well
pub quiet-for : (w : Option WriteStop) (r r' : Option ReadStop) (c t : Cause) (a b : ℕ) → r ≡ None → CountsReads r a r' b → IsFor t w r' → (c ≡ own_of w t) ⊎ ((c ≡ cause.Memory) ⊎ (c ≡ cause.WriteFault))
    → c ≢ cause.ReadFault → c ≢ cause.WriteFault → c ≢ cause.Memory → b ≡ a
quiet-for (Some stop.Memory) r r' c t a b none h i cs x y z = absurd (⊎_elim z (⊎_elim z y) cs)
quiet-for (Some stop.Failed) r r' c t a b none h i cs x y z = absurd (⊎_elim (λ e. ⊎_elim z y (failed_as t c e)) (⊎_elim z y) cs)
quiet-for None r r' c t a b none h i cs x y z =
    let is : c ≡ t = ⊎_elim (λ e. e) (λ e. absurd (⊎_elim z y e)) cs in
    ⊎_elim (λ e. absurd (z (is ∙ e)))
    (λ more. ⊎_elim (λ e. absurd (y (is ∙ e.0)))
    (λ last. ⊎_elim (λ e. absurd (stopped e.0 (is ∙ e.2))) (λ e. quiet-read r r' a b none h e.1) last) more)
    i
  where
    stopped : (s : ReadStop) → c ≡ cause_of s → ⊥
    stopped read.Memory e = z e
    stopped read.Failed e = x e

-- no run ends for its words, its configuration or its scene
own-run : (c : Cause) → IsOwn c → IsOfRun c
own-run cause.Usage i = absurd i
own-run (cause.Config line kind) i = absurd i
own-run (cause.Scene line kind) i = absurd i
own-run c i = tt

stopped-run : (x : ReadStop) → IsOfRun (cause_of x)
stopped-run read.Memory = tt
stopped-run read.Failed = tt

pub of-run : (w : Option WriteStop) (r : Option ReadStop) (c t : Cause) → IsFor t w r → (c ≡ own_of w t) ⊎ ((c ≡ cause.Memory) ⊎ (c ≡ cause.WriteFault)) → IsOfRun c
of-run w r c t i (inr (inl e)) = subst IsOfRun (sym e) tt
of-run w r c t i (inr (inr e)) = subst IsOfRun (sym e) tt
of-run (Some stop.Memory) r c t i (inl e) = subst IsOfRun (sym e) tt
of-run (Some stop.Failed) r c t i (inl e) = of-failed (failed_as t c e)
  where
    of-failed : (c ≡ cause.Memory) ⊎ (c ≡ cause.WriteFault) → IsOfRun c
    of-failed (inl x) = subst IsOfRun (sym x) tt
    of-failed (inr x) = subst IsOfRun (sym x) tt
of-run None r c t i (inl e) =
    subst IsOfRun (sym e)
    (⊎_elim (λ x. subst IsOfRun (sym x) tt)
    (λ more. ⊎_elim (λ x. subst IsOfRun (sym x.0) tt)
    (λ last. ⊎_elim (λ x. subst IsOfRun (sym x.2) (stopped-run x.0)) (λ x. own-run t x.0) last) more)
    i)

-- there are as many counts as steppers
pub counts-few : (n : ℕ) (counts : List ℕ) (lines : List ReportLine) → counts ≡ pulse_counts n lines → length counts ≤ n
counts-few n counts lines e =
    let many = ap length e ∙ length-map-range_with_len (λ s. counted (pulses_shown s lines)) 0 n in
    omega (arith, many)

-- a write that failed was counted
pub write-for : (w : Option WriteStop) (r : Option ReadStop) (c t : Cause) (a b d : ℕ) → (w ≡ None → b ≡ a) → ((s : WriteStop) → w ≡ Some s → StopsWriting s a b × (d ≡ b) × ((c ≡ own_of (Some s) t) ⊎ (c ≡ cause.Memory)))
    → (w ≡ None → t ≢ cause.WriteFault → c ≡ cause.WriteFault → Rose b d) → IsFor t w r → c ≡ cause.WriteFault → Rose a d
write-for (Some stop.Memory) r c t a b d same st fl i e = absurd (⊎_elim (λ x. let y = sym e ∙ x in cc) (λ x. let y = sym e ∙ x in cc) (st stop.Memory refl).2)
write-for (Some stop.Failed) r c t a b d same st fl i e = let s = st stop.Failed refl in subst (λ x. Rose a x) (sym s.1) s.0
write-for None r c t a b d same st fl i e =
    rose-on a b d (same refl)
    (fl refl
    (λ is. ⊎_elim (λ x. let y = sym is ∙ x in cc)
    (λ more. ⊎_elim (λ x. let y = x.1.1 in cc)
    (λ last. ⊎_elim (λ x. no-write x.0 (sym is ∙ x.2)) (λ x. subst IsOwn is x.0) last) more)
    i)
    e)

-- and none where the run ends for no fault
pub steady-for : (w : Option WriteStop) (c t : Cause) (a b d : ℕ) → (w ≡ None → b ≡ a) → ((s : WriteStop) → w ≡ Some s → (c ≡ own_of (Some s) t) ⊎ (c ≡ cause.Memory)) → (w ≡ None → c ≢ cause.Memory → c ≢ cause.WriteFault → d ≡ b)
    → c ≢ cause.WriteFault → c ≢ cause.Memory → d ≡ a
steady-for (Some stop.Memory) c t a b d same st al x y = absurd (⊎_elim y y (st stop.Memory refl))
steady-for (Some stop.Failed) c t a b d same st al x y = absurd (⊎_elim (λ e. ⊎_elim y x (failed_as t c e)) y (st stop.Failed refl))
steady-for None c t a b d same st al x y = al refl y x ∙ same refl

-- how the faults of the output are counted while lines are told
pub tells-none : (m : Machine) (all : List ReportLine) (u : Option WriteStop) (old : Option (List ℕ)) (a : ℕ) (kept : List ReportLine) (d : List ℕ) (u' : Option WriteStop) (mid : Option (List ℕ)) (b : ℕ) (kept' : List ReportLine) (e : List ℕ)
    → u ≡ None → Tells m all u old a kept d u' mid b kept' e → u' ≡ None → b ≡ a
tells-none m all (Some w) old a kept d u' mid b kept' c none t e = absurd (let y = none in cc)
tells-none m all None old a kept d None mid b kept' c none t e = t.1
tells-none m all None old a kept d (Some w) mid b kept' c none t e = absurd (let y = e in cc)

pub tells-some : (m : Machine) (all : List ReportLine) (u : Option WriteStop) (old : Option (List ℕ)) (a : ℕ) (kept : List ReportLine) (d : List ℕ) (u' : Option WriteStop) (mid : Option (List ℕ)) (b : ℕ) (kept' : List ReportLine) (e : List ℕ) (s : WriteStop)
    → u ≡ None → Tells m all u old a kept d u' mid b kept' e → u' ≡ Some s → StopsWriting s a b
tells-some m all (Some w) old a kept d u' mid b kept' c s none t e = absurd (let y = none in cc)
tells-some m all None old a kept d None mid b kept' c s none t e = absurd (let y = e in cc)
tells-some m all None old a kept d (Some w) mid b kept' c s none t e = subst (λ x. StopsWriting x a b) (let y = e in cc) t.1
