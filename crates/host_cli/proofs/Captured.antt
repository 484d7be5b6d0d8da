-- A dump or a replay: what is written, and why one isn't begun.
use Rattle.std.proofs.Common.{◌≡◌, ◌≢◌, ◌∙◌, ◌⊎◌, inl, inr, ℕ, ◌+◌, ◌<◌, ◌≤◌, Bool, true, false, cond, List, [], ◌∷◌, ◌++◌, length, take, Option, Some, None, refl, ap, sym, subst, arith, append_assoc, append-nil}
use Rattle.std.specs.Prelude.{Ok, Err, All, nat_lt}
use Rattle.std.specs.Str.{bytes_eq}
use Rattle.std.proofs.lemmas.Bool.{cases_lt}
use Rattle.std.proofs.lemmas.List.{take_all, length-take-le}
use Rattle.std.proofs.lemmas.Bool.Decides.{nat_tests}
use Rattle.cfg_lines.specs.declared.fault.CfgFault.TheVariants.{At}
use Rattle.cfg_text.specs.Reading.{machine_of_text}
use Rattle.frame_dump.specs.declared.fault.TraceFault.TheVariants as fault
use Rattle.frame_dump.specs.declared.trace.TraceTurn.{TraceTurn}
use Rattle.frame_dump.specs.Traces as traces
use Rattle.io_core.specs.Faults.{Rose}
use Rattle.plan_types.specs.declared.cause.Cause.{Cause}
use Rattle.plan_types.specs.declared.cause.Cause.TheVariants as cause
use Rattle.plan_types.specs.declared.cause.CfgKind.{CfgKind}
use Rattle.plan_types.specs.declared.cause.TraceKind.{TraceKind}
use Rattle.plan_types.specs.declared.machine.BoardDef.{BoardDef}
use Rattle.plan_types.specs.declared.machine.Machine.{Machine}
use Rattle.plan_types.specs.Machines.{IsValidBoard}
use Rattle.session_run.specs.declared.ended.Report.{Report}
use Rattle.session_run.specs.Ends.{status_of}
use Rattle.report_text.specs.Written.{WritesAll, WritesFront}
use Rattle.host_cli.specs.Promises.{EndsBeforeRun, IsRefused}
use Rattle.session_run.specs.Reported.{GivenFor}
use Rattle.host_cli.specs.Traffic.{EndsCleanly, IsTraceFault, IsTraceIn, IsTrafficText, ShowsTraffic, board_named, with_end}
use Rattle.host_cli.proofs.Scened.{any-refused, for-refused}
use Rattle.host_cli.proofs.Cuts.{is-large-scene}

-- what is written, one part behind the other
pub writes-both : (old mid new : Option (List ℕ)) (x y : List ℕ) → WritesAll old mid x → WritesAll mid new y → WritesAll old new (x ++ y)
writes-both old mid new x y first second = λ before b. second (before ++ x) (first before b) ∙ ap Some (append_assoc before x y)

pub front-first : (old new : Option (List ℕ)) (x y : List ℕ) → WritesFront old new x → WritesFront old new (x ++ y)
front-first old new x y shown = λ before b.
    let s = shown before b in
    (s.0, s.1, (s.2.0 ++ y, ap (λ (l : List ℕ). l ++ y) s.2.1 ∙ append_assoc s.0 s.2.0 y))

pub front-both : (old mid new : Option (List ℕ)) (x y : List ℕ) → WritesAll old mid x → WritesFront mid new y → WritesFront old new (x ++ y)
front-both old mid new x y first second = λ before b.
    let s = second (before ++ x) (first before b) in
    (x ++ s.0, s.1 ∙ ap Some (append_assoc before x s.0), (s.2.0, ap (λ (l : List ℕ). x ++ l) s.2.1 ∙ sym (append_assoc x s.0 s.2.0)))

pub trace-cut : (t : List ℕ) → traces.trace_of_text (take (16_777_216 + 1) t) ≡ traces.trace_of_text t
unfolding traces.trace_of_text
trace-cut t = elim (cases_lt 16_777_216 (length t)) [
  | inl large ↦ (
      let count : length (take 16_777_217 t) ≡ 16_777_217 = length-take-le 16_777_217 t (omega arith) in
      let one = is-large-scene (length (take 16_777_217 t)) (omega arith) in
      let two = is-large-scene (length t) large in
      rw (one, two) refl)
  | inr small ↦ ap traces.trace_of_text (take_all 16_777_217 t (omega arith))
]

-- how a command ends that is refused
module _ (f0 f1 s0 s1 status : ℕ) (given c : Cause) where
  pub ends-refused : (given ≢ cause.WriteFault → given ≢ cause.Memory → given ≡ c) → status ≡ status_of given → (c ≢ cause.WriteFault → given ≡ cause.WriteFault → Rose s0 s1)
      → (given ≢ cause.WriteFault → given ≢ cause.Memory → s1 ≡ s0) → c ≢ cause.Usage → c ≢ cause.WriteFault → (c ≡ cause.ReadFault → Rose f0 f1) → (c ≢ cause.ReadFault → f1 ≡ f0)
      → EndsCleanly f0 f1 s0 s1 status given
  ends-refused own is write quiet no_usage no_write read still = record {
    named = λ u. no_usage (sym (own (λ e. let q = sym u ∙ e in cc) (λ e. let q = sym u ∙ e in cc)) ∙ u);
    status_is = is;
    read = λ r. read (sym (own (λ e. let q = sym r ∙ e in cc) (λ e. let q = sym r ∙ e in cc)) ∙ r);
    write = λ w. write no_write w;
    quiet_files = λ reads writes memory. still (λ r. reads (own writes memory ∙ r));
    quiet_output = λ writes memory. quiet writes memory;
  }

-- the files told no more before
pub ends-from : (f0 f1 f2 s0 s1 status : ℕ) (given : Cause) → f1 ≡ f0 → EndsCleanly f1 f2 s0 s1 status given → EndsCleanly f0 f2 s0 s1 status given
ends-from f0 f1 f2 s0 s1 status given same e = let At : ℕ → Type 0 = λ f. EndsCleanly f f2 s0 s1 status given in subst At same e

pub ends-shown : (f0 f1 s0 s1 status : ℕ) (given : Cause) → f1 ≡ f0 → GivenFor cause.Done given → given ≢ cause.ReadFault → status ≡ status_of given → (given ≡ cause.WriteFault → Rose s0 s1)
    → (given ≢ cause.WriteFault → given ≢ cause.Memory → s1 ≡ s0) → EndsCleanly f0 f1 s0 s1 status given
ends-shown f0 f1 s0 s1 status given still why unread is write quiet = record {
  named = no-usage why;
  status_is = is;
  read = λ r. absurd (unread r);
  write = write;
  quiet_files = λ reads writes memory. still;
  quiet_output = quiet;
}
  where
    no-usage : GivenFor cause.Done given → given ≢ cause.Usage
    no-usage (inl e) u = let q = sym u ∙ e in cc
    no-usage (inr (inl e)) u = let q = sym u ∙ e in cc
    no-usage (inr (inr e)) u = let q = sym u ∙ e in cc

-- why there is no trace
pub trace-named : (told : Option (List ℕ)) (c : Cause) → IsTraceFault told c → c ≢ cause.Usage
trace-named told c (inl x) u = let q = sym u ∙ x.2 in cc
trace-named told c (inr (inl x)) u = let q = sym u ∙ x in cc
trace-named told c (inr (inr x)) u = let q = sym u ∙ x in cc

pub trace-unwritten : (told : Option (List ℕ)) (c : Cause) → IsTraceFault told c → c ≢ cause.WriteFault
trace-unwritten told c (inl x) u = let q = sym u ∙ x.2 in cc
trace-unwritten told c (inr (inl x)) u = let q = sym u ∙ x in cc
trace-unwritten told c (inr (inr x)) u = let q = sym u ∙ x in cc

module _ (old new : Option (List ℕ)) (given : Cause) (shown : Report) where
  pub trace-unread : (told : Option (List ℕ)) (c wanted : Cause) (text : List ℕ) (turns : List TraceTurn) → IsTraceFault told c → EndsBeforeRun c old new given shown → told ≡ Some text → traces.trace_of_text text ≡ Ok turns
      → IsRefused wanted old new given shown
  trace-unread told c wanted text turns (inl x) r t is = absurd (let q = sym is ∙ x.3 text t in cc)
  trace-unread told c wanted text turns (inr st) r t is = any-refused old new given shown wanted c st r

  pub trace-refused : (told : Option (List ℕ)) (c : Cause) (text : List ℕ) (line : ℕ) (kind : TraceKind) → IsTraceFault told c → EndsBeforeRun c old new given shown → told ≡ Some text
      → traces.trace_of_text text ≡ Err (fault.At line kind) → IsRefused (cause.Trace line kind) old new given shown
  trace-refused told c text line kind (inl x) r t is =
      let same : cause.Trace x.0 x.1 ≡ cause.Trace line kind = (let q = sym (x.3 text t) ∙ is in cc) in
      subst (λ d. IsRefused d old new given shown) (x.2 ∙ same) (for-refused old new given shown c r)
  trace-refused told c text line kind (inr st) r t is = any-refused old new given shown (cause.Trace line kind) c st r

pub one-trace : (told : Option (List ℕ)) (x turns : List TraceTurn) (text : List ℕ) → IsTraceIn told x → told ≡ Some text → traces.trace_of_text text ≡ Ok turns → x ≡ turns
one-trace told x turns text is t r = let q = sym (is text t) ∙ r in cc

pub no-trace : (told : Option (List ℕ)) (x : List TraceTurn) (text : List ℕ) (line : ℕ) (kind : TraceKind) → IsTraceIn told x → told ≡ Some text → traces.trace_of_text text ≡ Err (fault.At line kind) → ⊥
no-trace told x text line kind is t r = let q = sym (is text t) ∙ r in cc

pub one-board : (o : Option BoardDef) (x b : BoardDef) → o ≡ Some x → o ≡ Some b → x ≡ b
one-board o x b e h = let q = sym e ∙ h in cc

pub no-board : {A : Type 0} → (o : Option BoardDef) (b : BoardDef) → o ≡ None → o ≡ Some b → A
no-board o b e h = absurd (let q = sym e ∙ h in cc)
