-- What the top call promises, from what an answer is.
use Rattle.std.proofs.Common.{◌≡◌, ◌≢◌, ◌⊎◌, inl, inr, ℕ, List, ap, refl, sym, subst, ◌∙◌, Option, ⊎_elim}
use Rattle.plan_types.specs.declared.cause.Cause.{Cause}
use Rattle.plan_types.specs.declared.cause.Cause.TheVariants as cause
use Rattle.plan_types.specs.declared.machine.Machine.{Machine}
use Rattle.report_text.specs.declared.line.ReportLine.{ReportLine}
use Rattle.report_text.specs.Text.{report_text}
use Rattle.report_text.specs.Written.{WritesAll, WritesFront}
use Rattle.io_core.specs.Faults.{Rose}
use Rattle.host_cli.specs.Answers.{EndsWith, IsAnswer, IsCutShort, IsEnd, IsRefusal, IsRunCause}
use Rattle.host_cli.specs.declared.answer.Answer.{Answer}
use Rattle.laws_report.specs.reports.Promises.{IsCauseOf, WritesText}
use Rattle.host_cli.specs.Promises.{EndsAlone, EndsAs, EndsBeforeRun, IsAlone, IsCut, IsRefused, ShowsAnswer}
use Rattle.host_cli.specs.Traffic.{EndsCleanly}
use Rattle.session_run.specs.declared.ended.Report.{Report}
use Rattle.session_run.specs.Ends.{IsBare, status_of}
use Rattle.session_run.specs.Reported.{GivenFor, IsOfRun, with_failure}

-- behind a write that failed
failure_is : (own : Cause) → (with_failure own ≡ cause.Memory) ⊎ (with_failure own ≡ cause.WriteFault)
failure_is cause.Memory = inl refl
failure_is _ = inr refl

failed_as : (own given : Cause) → given ≡ with_failure own → (given ≡ cause.Memory) ⊎ (given ≡ cause.WriteFault)
failed_as own given e = ⊎_elim (λ x. inl (e ∙ x)) (λ x. inr (e ∙ x)) (failure_is own)

pub given-for : (own given : Cause) (before after : ℕ) → EndsAs own before after given → GivenFor own given
given-for own given before after (inl e) = inl e.0
given-for own given before after (inr (inl e)) = inr (inl e)
given-for own given before after (inr (inr e)) = inr (inr e.0)

-- an end line alone, and the causes that may be given
pub alone-cause : (c : Cause) (old new : Option (List ℕ)) (given : Cause) (shown : Report) → EndsAlone c old new given shown → IsCauseOf c given
alone-cause c old new given shown x = by x.given_is where
  by : GivenFor c given → IsCauseOf c given
  by (inl e) = inl e
  by (inr (inl e)) = inr (inl e)
  by (inr (inr e)) = ⊎_elim (λ m. inr (inl m)) (λ w. inr (inr (inr w))) (failed_as c given e)

pub for-cause : (c : Cause) (old new : Option (List ℕ)) (given : Cause) (shown : Report) → EndsBeforeRun c old new given shown → IsCauseOf c given
for-cause c old new given shown (inl x) = alone-cause c old new given shown x
for-cause c old new given shown (inr x) = by (alone-cause cause.Memory old new given shown x) where
  by : IsCauseOf cause.Memory given → IsCauseOf c given
  by (inl e) = inr (inl e)
  by (inr e) = inr e

-- bytes
pub written-text : (a : Answer) (shown : Report) (old new : Option (List ℕ)) (given : Cause) → shown ≡ a.report → WritesFront old new (report_text a.machine a.report.lines)
    → (given ≢ cause.Memory → given ≢ cause.WriteFault → WritesAll old new (report_text a.machine a.report.lines)) → WritesText a.machine old new given shown.lines
written-text a shown old new given same front all =
    let W : Report → Type 0 = λ r. WritesText a.machine old new given r.lines in
    subst W (sym same) (front, all)

-- an answer as it is shown
module _ (a : Answer) (shown : Report) (old new : Option (List ℕ)) (given : Cause) (before after : ℕ) (same : shown ≡ a.report) (ends : EndsAs a.cause before after given) (written : WritesText a.machine old new given shown.lines) where
  given-as : (c : Cause) → a.cause ≡ c → GivenFor c given
  given-as c e = let G : Cause → Type 0 = λ x. GivenFor x given in subst G e (given-for a.cause given before after ends)

  -- nothing but lines
  shown-bare : IsBare a.report → IsBare shown
  shown-bare is = let B : Report → Type 0 = λ r. IsBare r in subst B (sym same) is

  pub end-shown : (c : Cause) → IsEnd c a → EndsAlone c old new given shown
  end-shown c is = record {
    alone = (let A : Report → Type 0 = λ r. IsAlone c r.lines in subst A (sym same) is.0);
    bare = shown-bare is.2;
    given_is = given-as c is.1;
    names = a.machine;
    bytes = written;
  }

  pub cut-shown : IsCutShort a → IsCut old new given shown
  cut-shown (inl is) = inl (end-shown cause.Memory is)
  cut-shown (inr is) = inr (end-shown cause.ReadFault is)

  pub for-shown : (c : Cause) → EndsWith c a → EndsBeforeRun c old new given shown
  for-shown c (inl is) = inl (end-shown c is)
  for-shown c (inr is) = inr (end-shown cause.Memory is)

  pub refusal-shown : (c : Cause) → IsRefusal c a → IsRefused c old new given shown
  refusal-shown c (inl is) = inl (end-shown c is)
  refusal-shown c (inr is) = inr (cut-shown is)

  pub answer-shown : (m : Machine) (c : Cause) (wanted : List ReportLine) → IsAnswer m c wanted a → ShowsAnswer m c wanted old new given shown
  answer-shown m c wanted (inl x) = inl (
    record {
      same = ap (λ (r : Report). r.lines) same ∙ x.lines;
      given_is = given-as c x.cause;
      bytes = (let W : Machine → Type 0 = λ n. WritesText n old new given shown.lines in subst W x.machine written);
    },
    shown-bare x.bare,
  )
  answer-shown m c wanted (inr is) = inr (cut-shown is)

-- a cause of the answer's own: it is neither want of memory nor a write that failed
pub own-of : (own given wanted : Cause) (before after : ℕ) → EndsAs own before after given → given ≡ wanted → (cause.Memory ≡ wanted → ⊥) → (cause.WriteFault ≡ wanted → ⊥) → own ≡ wanted
own-of own given wanted before after (inl e) is memory write = sym e.0 ∙ is
own-of own given wanted before after (inr (inl e)) is memory write = absurd (memory (sym e ∙ is))
own-of own given wanted before after (inr (inr e)) is memory write = absurd (⊎_elim (λ x. memory (sym x ∙ is)) (λ x. write (sym x ∙ is)) (failed_as own given e.0))

-- a write that failed was counted
pub write-rose : (own given : Cause) (before after : ℕ) → (own ≡ cause.WriteFault → ⊥) → EndsAs own before after given → given ≡ cause.WriteFault → Rose before after
write-rose own given before after other (inl e) is = absurd (other (sym e.0 ∙ is))
write-rose own given before after other (inr (inl e)) is = let m : cause.Memory ≡ cause.WriteFault = sym e ∙ is in absurd cc
write-rose own given before after other (inr (inr e)) is = e.1

-- neither want of memory nor a failed write: no fault was counted
pub quiet-output : (own given : Cause) (before after : ℕ) → EndsAs own before after given → given ≢ cause.WriteFault → given ≢ cause.Memory → after ≡ before
quiet-output own given before after (inl e) write memory = e.1
quiet-output own given before after (inr (inl e)) write memory = absurd (memory e)
quiet-output own given before after (inr (inr e)) write memory = absurd (⊎_elim memory write (failed_as own given e.0))

-- how a command ends that shows its answer
pub cleanly : (f0 f1 s0 s1 status : ℕ) (own given : Cause) → status ≡ status_of given → EndsAs own s0 s1 given → own ≢ cause.Usage → own ≢ cause.WriteFault → (own ≡ cause.ReadFault → Rose f0 f1) → (own ≢ cause.ReadFault → own ≢ cause.Memory → f1 ≡ f0)
    → EndsCleanly f0 f1 s0 s1 status given
cleanly f0 f1 s0 s1 status own given is ends named unwritten read still = record {
  named = λ u. named (own-of own given cause.Usage s0 s1 ends u (λ e. absurd cc) (λ e. absurd cc));
  status_is = is;
  read = λ r. read (own-of own given cause.ReadFault s0 s1 ends r (λ e. absurd cc) (λ e. absurd cc));
  write = write-rose own given s0 s1 unwritten ends;
  quiet_files = λ r w m. (let same = as-own w m in still (λ e. r (same ∙ e)) (λ e. m (same ∙ e)));
  quiet_output = quiet-output own given s0 s1 ends;
}
  where
    as-own : given ≢ cause.WriteFault → given ≢ cause.Memory → given ≡ own
    as-own w m = ⊎_elim (λ e. e.0) (λ x. absurd (⊎_elim m (λ e. ⊎_elim m w (failed_as own given e.0)) x)) ends

-- a run's cause says that a machine was there
pub of-machine : (c : Cause) → IsOfRun c → IsRunCause c
of-machine cause.Usage i = absurd i
of-machine (cause.Config line kind) i = absurd i
of-machine c i = tt

pub given-machine : (own given : Cause) (before after : ℕ) → IsRunCause own → EndsAs own before after given → IsRunCause given
given-machine own given before after is (inl e) = subst IsRunCause (sym e.0) is
given-machine own given before after is (inr (inl e)) = subst IsRunCause (sym e) tt
given-machine own given before after is (inr (inr e)) = by (failed_as own given e.0) where
  by : (given ≡ cause.Memory) ⊎ (given ≡ cause.WriteFault) → IsRunCause given
  by (inl x) = subst IsRunCause (sym x) tt
  by (inr x) = subst IsRunCause (sym x) tt

pub fault-machine : (given : Cause) → IsCauseOf cause.ReadFault given → IsRunCause given
fault-machine given (inl e) = subst IsRunCause (sym e) tt
fault-machine given (inr (inl e)) = subst IsRunCause (sym e) tt
fault-machine given (inr (inr (inl e))) = subst IsRunCause (sym e) tt
fault-machine given (inr (inr (inr e))) = subst IsRunCause (sym e) tt

pub memory-machine : (given : Cause) → IsCauseOf cause.Memory given → IsRunCause given
memory-machine given (inl e) = subst IsRunCause (sym e) tt
memory-machine given (inr (inl e)) = subst IsRunCause (sym e) tt
memory-machine given (inr (inr (inl e))) = subst IsRunCause (sym e) tt
memory-machine given (inr (inr (inr e))) = subst IsRunCause (sym e) tt
