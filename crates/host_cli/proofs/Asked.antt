-- What the top call answers, from what the commands answer.
use Rattle.std.proofs.Common.{◌≡◌, ◌≢◌, ◌∙◌, inl, inr, ℕ, List, Option, Some, None, refl, sym}
use Rattle.command_words.specs.Forms.{Asked, check, dump, fan, make, mesh, replay, run, scene}
use Rattle.io_core.specs.declared.traits.Files.{Ghosts as Files}
use Rattle.io_core.specs.declared.traits.Sink.{Ghosts as Sink}
use Rattle.io_core.specs.Faults.{Rose}
use Rattle.plan_types.specs.declared.cause.Cause.{Cause}
use Rattle.plan_types.specs.declared.cause.Cause.TheVariants as cause
use Rattle.session_run.specs.declared.ended.Ended.{Ended}
use Rattle.session_run.specs.declared.ended.Report.{Report}
use Rattle.host_cli.specs.Promises.{EndsAlone, EndsBeforeRun}
use Rattle.host_cli.specs.Traffic.{EndsCleanly}
use Rattle.host_cli.specs.Asks.{Answers, CountsFaults}

-- nothing is done, for want of memory
module _ {F S L O : Type 0} (f : Files F) (o : Sink S) (loads : Files L) (sure : Sink O) (files files' : F) (out out' : S) (ended : Ended) where
  pub unread : (x : Option Asked) → EndsAlone cause.Memory (o.written out) (o.written out') ended.cause ended.report → Answers f o loads sure files files' out out' ended x
  unread None e = inr e
  unread (Some (run a b)) e = λ printer told. record { read = λ m is. inr (inl e); fault = λ line kind is. inr (inl e) }
  unread (Some (scene a b c)) e = λ printer told. record { read = λ m is text seen. record { read = λ s read. inr (inl e); fault = λ line kind read. inr (inl e) }; fault = λ line kind is. inr (inl e) }
  unread (Some (make seed moves)) e = inr e
  unread (Some (fan a b)) e = λ printer told. record { read = λ m is. record { there = λ d has text seen small. inr (inl e); none = λ none. inr (inl e) }; fault = λ line kind is. inr (inl e) }
  unread (Some (check a b c)) e = λ printer told. record { read = λ m is text seen small log heard few. inr (inl e); fault = λ line kind is. inr (inl e) }
  unread (Some (dump a b c)) e =
      λ printer told. record { read = λ m is. record { there = λ x has text seen. record { read = λ t read. inr (inl e); fault = λ line kind read. inr (inl e) }; none = λ none. inr (inl e) }; fault = λ line kind is. inr (inl e) }
  unread (Some (replay a b c)) e =
      λ printer told. record { read = λ m is. record { there = λ x has text seen. record { read = λ t read. inr (inl e); fault = λ line kind read. inr (inl e) }; none = λ none. inr (inl e) }; fault = λ line kind is. inr (inl e) }
  unread (Some (mesh a b c)) e =
      λ printer told. record { read = λ m is rows seen. record { read = λ t read text heard small. inr e; fault = λ line kind read. inr e }; fault = λ line kind is. inr e }

pub counts-clean : (f0 f1 s0 s1 status : ℕ) (given : Cause) → EndsCleanly f0 f1 s0 s1 status given → CountsFaults f0 f1 s0 s1 given
counts-clean f0 f1 s0 s1 status given e = record { read = e.read; write = e.write; quiet_files = e.quiet_files; quiet_output = e.quiet_output }

-- of a command that reads nothing and answers a cause
pub counts-refused : (f0 s0 s1 : ℕ) (c given : Cause) → (given ≢ cause.WriteFault → given ≢ cause.Memory → given ≡ c) → c ≢ cause.ReadFault → (given ≡ cause.WriteFault → Rose s0 s1) → (given ≢ cause.WriteFault → given ≢ cause.Memory → s1 ≡ s0) → CountsFaults f0 f0 s0 s1 given
counts-refused f0 s0 s1 c given own other write quiet = record {
  read = λ r. absurd (other (sym (own (λ e. let q = sym r ∙ e in cc) (λ e. let q = sym r ∙ e in cc)) ∙ r));
  write = write;
  quiet_files = λ r w m. refl;
  quiet_output = quiet;
}

pub ends-both : (given : Cause) (old new : Option (List ℕ)) (shown : Report) → EndsBeforeRun cause.Memory old new given shown → EndsAlone cause.Memory old new given shown
ends-both given old new shown (inl e) = e
ends-both given old new shown (inr e) = e
