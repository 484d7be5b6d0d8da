use Rattle.std.proofs.Common.{List, ℕ, ◌∙◌, ap, sym, inl, inr, refl}
use Rattle.frame_dump.specs.Traces.{trace_of_text}
use Rattle.host_cli.proofs.Captured.{trace-cut}
use Rattle.host_cli.proofs.traffic.read_trace_file.Goals as goal

pub returns-in-Ok-read_trace-clause-trace : goal.returns-in-Ok-read_trace-clause-trace
returns-in-Ok-read_trace-clause-trace g c = λ text told.
    sym (trace-cut text) ∙ ap trace_of_text (sym (c.deref.ensures.value ∙ c.in-Ok.ensures.text text told)) ∙ c.in-Ok-read_trace.ensures.answer

pub returns-clause-fault : goal.returns-clause-fault
returns-clause-fault g c =
    let at = rw c.in-Err-At.field-0-is at c.in-Err-At.ensures.answer in
    inl (c.in-Err-At.line, c.in-Err-At.kind, refl, λ text told. sym (trace-cut text) ∙ ap trace_of_text (sym (c.deref.ensures.value ∙ c.in-Ok.ensures.text text told)) ∙ at)
