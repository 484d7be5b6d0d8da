-- What a run over a desk leaves behind its references.
use Rattle.std.proofs.Common.{◌≡◌, List, [], ◌∷◌, ◌++◌, Option, Some, None, IfSome, IfNone, refl, sym, ap, subst, ◌∙◌, arith}
use Rattle.io_core.specs.declared.traits.Files.{Ghosts as Files}
use Rattle.io_core.specs.declared.traits.Sink.{Ghosts as Sink}
use Rattle.plan_types.specs.declared.machine.Machine.{Machine}
use Rattle.report_text.specs.declared.line.ReportLine.{ReportLine}
use Rattle.session_work.specs.declared.machines.LinkMachine.{Ghosts as Link}
use Rattle.session_work.specs.declared.machines.MotionMachine.{Ghosts as Motion}
use Rattle.session_work.specs.declared.machines.ReactorMachine.{Ghosts as Reactor}
use Rattle.session_lanes.specs.declared.near.Told.{Told}
use Rattle.session_lanes.specs.Runs.{IsRun, head_at, ran_at}
use Rattle.session_run.specs.declared.desk.Desk.{Desk}
use Rattle.session_run.specs.declared.tell.Kept.{Kept}
use Rattle.session_run.specs.Desks.{Desked, Happened, IsToldRun, desk_out, reported_lines}
use Rattle.session_run.specs.Tells.{Tells}
use Rattle.session_run.proofs.Counting.{counts-nil, counts-more}
use Rattle.session_run.proofs.Outsides.{outside_goes}
use Rattle.session_run.proofs.Telling.{tells-nil, tells-more}

module _ {M L A F S : Type 0} (m : Motion M) (l : Link L) (a : Reactor A) (f : Files F) (s : Sink S) where
  nothing : (x : Desk F S) → Desked f s x [] x
  nothing x =
      ((refl, refl, refl, refl, refl), record { told = λ name. refl; never_fall = omega arith; reads = counts-nil _ _; tells = tells-nil _ _ _ _ _ _ })

  then : (x y z : Desk F S) (p q : List ReportLine) → Desked f s x p y → Desked f s y q z → Desked f s x (p ++ q) z
  then x y z p q one two =
      let same = one.0 in let more = two.0 in
      let names : Machine → Type 0 = λ m. Tells m q y.kept.now.unwritten (s.written y.out.now) (s.faults y.out.now) y.kept.now.lines y.kept.now.counts.items z.kept.now.unwritten (s.written z.out.now) (s.faults z.out.now) z.kept.now.lines z.kept.now.counts.items in (
        (more.0 ∙ same.0, more.1 ∙ same.1, more.2 ∙ same.2, more.3 ∙ same.3, more.4 ∙ same.4),
        record {
          told = λ name. two.1.told name ∙ one.1.told name;
          never_fall = let u = one.1.never_fall in let v = two.1.never_fall in omega arith;
          reads = counts-more _ _ _ _ _ _ one.1.reads two.1.reads;
          tells = tells-more _ p q _ _ _ _ _ _ _ _ _ _ _ _ _ _ _ one.1.tells (subst names same.3 two.1.tells);
        },
      )

  -- given back to the loans is what the desk had at the end
  given : (names : Machine) (lines : List ReportLine) (files : F) (out : S) (kept : Kept) (y : Desk F S) (files' : F) (out' : S) (kept' : Kept) → files' ≡ y.files.now → out' ≡ y.out.now → kept' ≡ y.kept.now
      → Happened f s names lines files out kept y.files.now y.out.now y.kept.now → Happened f s names lines files out kept files' out' kept'
  given names lines files out kept y files' out' kept' fs os ks h =
      subst (λ (w : F × S × Kept). Happened f s names lines files out kept w.0 w.1 w.2) (λ i. (sym fs i, sym os i, sym ks i)) h

  module _ (start : M) (links : List L) (machine : A) (x y : Desk F S) (files' : F) (out' : S) (kept' : Kept) where
    pub told_run : (names : Machine) → x.machine.now ≡ names → (told : Option (Told A)) → IfSome told (λ t. IsRun m l a (desk_out f s) start links (head_at machine x) (ran_at t y))
        → (x.files.ghost_name ≡ y.files.ghost_name → files' ≡ y.files.now) → (x.out.ghost_name ≡ y.out.ghost_name → out' ≡ y.out.now) → (x.kept.ghost_name ≡ y.kept.ghost_name → kept' ≡ y.kept.now)
        → IfSome told (λ t. IsToldRun m l a f s names x.name.now start links machine x.files.now x.out.now x.kept.now t files' out' kept')
    told_run names e None i fs os ks = tt
    told_run names e (Some t) i fs os ks =
        let rows = i.1 ++ i.2 ∷ [] in
        let d = outside_goes a (desk_out f s) (Desked f s) nothing then (λ d ls e o w. w.0) (λ d n z e w. w.0) _ 0 (head_at machine x) rows (ran_at t y).head i.4.1 in (
          i.0,
          i.1,
          i.2,
          i.3,
          x,
          y,
          i.4,
          i.5,
          given names (reported_lines rows) x.files.now x.out.now x.kept.now y files' out' kept' (fs (sym d.0.0)) (os (sym d.0.1)) (ks (sym d.0.2))
              (subst (λ n. Happened f s n (reported_lines rows) x.files.now x.out.now x.kept.now y.files.now y.out.now y.kept.now) e d.1),
          (refl, refl, refl, refl),
          (sym (fs (sym d.0.0)), sym (os (sym d.0.1)), sym (ks (sym d.0.2)), d.0.4),
        )

    pub told_none : (told : Option (Told A)) → IfNone told (y ≡ x)
        → (x.files.ghost_name ≡ y.files.ghost_name → files' ≡ y.files.now) → (x.out.ghost_name ≡ y.out.ghost_name → out' ≡ y.out.now) → (x.kept.ghost_name ≡ y.kept.ghost_name → kept' ≡ y.kept.now)
        → IfNone told ((files' ≡ x.files.now) × (out' ≡ x.out.now) × (kept' ≡ x.kept.now))
    told_none (Some t) n fs os ks = tt
    told_none None n fs os ks =
        let at : x ≡ y = sym n in (
          fs (ap (λ (d : Desk F S). d.files.ghost_name) at) ∙ ap (λ (d : Desk F S). d.files.now) n,
          os (ap (λ (d : Desk F S). d.out.ghost_name) at) ∙ ap (λ (d : Desk F S). d.out.now) n,
          ks (ap (λ (d : Desk F S). d.kept.ghost_name) at) ∙ ap (λ (d : Desk F S). d.kept.now) n,
        )
