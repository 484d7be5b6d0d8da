-- For which causes a whole run ends, by what is kept of it.
use Rattle.std.proofs.Common.{◌≡◌, ◌⊎◌, inl, inr, ℕ, ◌+◌, Bool, true, false, List, [], ◌∷◌, ◌++◌, Option, Some, None, is_none, refl, sym, ap, ◌∙◌, subst, ⊎_elim}
use Rattle.io_core.specs.declared.traits.Files.{Ghosts as Files}
use Rattle.io_core.specs.declared.traits.Sink.{Ghosts as Sink}
use Rattle.plan_types.specs.declared.cause.Cause.{Cause}
use Rattle.plan_types.specs.declared.cause.Cause.TheVariants as cause
use Rattle.plan_types.specs.declared.machine.Machine.{Machine}
use Rattle.msg_code.specs.declared.talk.Piece.{Piece}
use Rattle.report_text.specs.declared.line.ReportLine.{ReportLine}
use Rattle.report_text.specs.declared.write.WriteStop.{WriteStop}
use Rattle.host_reactor.specs.Reactor.{Run, first_told}
use Rattle.host_reactor.specs.Rows.{MayEndFor, IsOwn}
use Rattle.host_reactor.proofs.Blames.{blames}
use Rattle.session_work.specs.declared.head.Head.{Head}
use Rattle.session_work.specs.declared.table.ReactorTurn.{ReactorTurn}
use Rattle.session_work.specs.Heads.{Ordering, Served, ServeStep, ReactorStep, Wrote}
use Rattle.session_work.specs.Reactors.{answered_ends}
use Rattle.session_work.specs.Rows.{option_items}
use Rattle.session_work.specs.Turns.{Goes}
use Rattle.session_run.specs.declared.desk.Desk.{Desk}
use Rattle.session_run.specs.declared.read.ReadStop.{ReadStop}
use Rattle.session_run.specs.declared.tell.Kept.{Kept}
use Rattle.session_run.specs.Desks.{Writes, cause_of, desk_out}
use Rattle.session_run.specs.Reads.{CountsReads}
use Rattle.session_run.specs.Tells.{Tells}
use Rattle.session_run.specs.Machines.{reactor}
use Rattle.session_run.specs.Reactors.{TurnsReactor}

-- what the reactor was told to stop for, by why the writing and the reading stopped
abbrev Knows : Option Cause → Option WriteStop → Option ReadStop → Type 0
Knows None w r = (w ≡ None) × (r ≡ None)
Knows (Some c) w r = ((c ≡ cause.WriteFault) × ((x : WriteStop) × (w ≡ Some x))) ⊎ ((x : ReadStop) × (r ≡ Some x) × (c ≡ cause_of x))

-- for which cause a run ended
abbrev pub IsFor : Cause → Option WriteStop → Option ReadStop → Type 0
IsFor c w r =
    (c ≡ cause.Memory) ⊎ (((c ≡ cause.WriteFault) × ((x : WriteStop) × (w ≡ Some x))) ⊎ (((x : ReadStop) × (r ≡ Some x) × (c ≡ cause_of x)) ⊎ (IsOwn c × (r ≡ None))))

knows-none : (o : Option Cause) (w : Option WriteStop) (r : Option ReadStop) → o ≡ None → Knows o w r → (w ≡ None) × (r ≡ None)
knows-none o w r e h = subst (λ x. Knows x w r) e h

some-if : (w : Option WriteStop) → false ≡ is_none w → (x : WriteStop) × (w ≡ Some x)
some-if None e = cc
some-if (Some x) e = (x, refl)

none-if : (w : Option WriteStop) → true ≡ is_none w → w ≡ None
none-if None e = refl
none-if (Some x) e = cc

-- what is told first stays
told-first : (o : Option Cause) (w : Option WriteStop) (r r' : Option ReadStop) (x : ReadStop) → Knows o w r → r' ≡ Some x → ((s : ReadStop) → r ≡ Some s → r' ≡ Some s) → Knows (first_told o (cause_of x)) w r'
told-first None w r r' x h e stays = inr (x, e, refl)
told-first (Some c) w r r' x h e stays = ⊎_elim (λ l. inl l) (λ l. inr (l.0, stays l.0 l.1, l.2)) h

reads-stay : (u : Option ReadStop) (a : ℕ) (v : Option ReadStop) (b : ℕ) → CountsReads u a v b → (s : ReadStop) → u ≡ Some s → v ≡ Some s
reads-stay None a v b h s e = cc
reads-stay (Some r) a v b h s e = h.0 ∙ e

nothing : Knows None None None
nothing = (refl, refl)

-- where the writing stopped before, it stopped for that
still-unwritten : (w w' : Option WriteStop) (x : WriteStop) → w ≡ Some x → (m : Machine) (lines : List ReportLine) (old : Option (List ℕ)) (before : ℕ) (kept : List ReportLine) (counts : List ℕ) (new : Option (List ℕ)) (after : ℕ) (kept' : List ReportLine) (counts' : List ℕ)
    → Tells m lines w old before kept counts w' new after kept' counts' → w' ≡ Some x
still-unwritten None w' x e m lines old before kept counts new after kept' counts' t = cc
still-unwritten (Some y) w' x e m lines old before kept counts new after kept' counts' t = t.0 ∙ e

module _ {F S : Type 0} (f : Files F) (o : Sink S) where
  abbrev D : Type 0
  D = Desk F S

  -- of a reactor, what it was told, and of its desk, what is kept
  abbrev Known : Head Run D → Type 0
  Known x = Knows x.machine.known.stopped x.outside.kept.now.unwritten x.outside.kept.now.unread

  moved : (x y : Head Run D) → y.machine ≡ x.machine → y.outside.kept.now.unwritten ≡ x.outside.kept.now.unwritten → y.outside.kept.now.unread ≡ x.outside.kept.now.unread → Known x → Known y
  moved x y m w r h =
      subst (λ (z : Option Cause × Option WriteStop × Option ReadStop). Knows z.0 z.1 z.2) (λ i. (ap (λ (q : Run). q.known.stopped) (sym m) i, sym w i, sym r i)) h

  piece : (k : ℕ) (x : Head Run D) (p : Piece) (y : Head Run D) → ServeStep reactor.stops (desk_out f o).serves k x p y → Known x → Known y
  piece k x p y (inl s) h = moved x y s.2 s.0.2 s.0.1.1 h
  piece k x p y (inr s) h =
      let d = s.1 in
      let told = told-first x.machine.known.stopped x.outside.kept.now.unwritten x.outside.kept.now.unread y.outside.kept.now.unread d.1.0 h d.1.1 (reads-stay _ _ _ _ d.0.1.reads) in
      subst (λ (z : Option Cause × Option WriteStop). Knows z.0 z.1 y.outside.kept.now.unread)
      (λ i. ((ap (λ (c : Cause). first_told x.machine.known.stopped c) (sym d.1.2) ∙ ap (λ (q : Run). q.known.stopped) (sym s.2)) i, sym d.2 i)) told

  pieces : (turn k : ℕ) (x : Head Run D) (ps : List Piece) (y : Head Run D) → Goes (λ _. ServeStep reactor.stops (desk_out f o).serves turn) k x ps y → Known x → Known y
  pieces turn k x [] y g h = subst Known g h
  pieces turn k x (p ∷ ps) y g h = pieces turn (k + 1) g.0 ps y g.2 (piece turn x p g.0 g.1 h)

  -- nothing was told, and then lines are written, or it is told that they were not
  wrote : (x : Head Run D) (m : Run) (lines : List ReportLine) (y : Head Run D) → Wrote reactor.stops (desk_out f o).writes (record { machine = m; outside = x.outside; stopped = x.stopped }) lines y
      → m.known.stopped ≡ None → x.outside.kept.now.unread ≡ None → Known y
  wrote x m lines y w e r =
      ⊎_elim
      (λ s.
      subst (λ (z : Option Cause × Option WriteStop × Option ReadStop). Knows z.0 z.1 z.2)
      (λ i. ((sym e ∙ ap (λ (q : Run). q.known.stopped) (sym s.1)) i, sym (none-if _ s.0.1.2) i, (sym r ∙ sym s.0.1.1) i)) nothing)
      (λ s.
      subst (λ z. Knows z y.outside.kept.now.unwritten y.outside.kept.now.unread)
      (ap (λ z. first_told z cause.WriteFault) (sym e) ∙ ap (λ (q : Run). q.known.stopped) (sym s.1)) (inl (refl, some-if _ s.0.1.2)))
      w.1

  -- a turn that goes on
  goes-on : (n k : ℕ) (x : Head Run D) (t : ReactorTurn) (y : Head Run D) → t.end ≡ None → ReactorStep reactor (desk_out f o) n k x t y → Known x → Known y
  goes-on n k x t y e s h =
      let b = s.0 in
      let told : Known b = ⊎_elim
      (λ l.
      let turned = l.1 in
      let went = turned.1 in
      let free = (blames x.machine.machine x.machine.switches x.machine.known k t.states t.note).goes (sym went.end_is ∙ e) in
      let before = knows-none _ _ _ free.0 h in
      wrote x turned.0 t.lines b turned.2 (ap (λ (q : Run). q.known.stopped) went.becomes ∙ free.1) before.1)
      (λ r. absurd (let g = sym e ∙ r.3 in cc)) s.1.1 in
      pieces k 0 b t.pieces y (subst (λ c. Served reactor (desk_out f o) k b c t.pieces y) e s.2) told

  -- the turn that ends the run
  kept-for : (x : Head Run D) (y : D) (lines : List ReportLine) (c : Cause) (ok : Bool) → (desk_out f o).writes x.outside lines y ok → Known x → MayEndFor x.machine.known.stopped c → IsFor c y.kept.now.unwritten y.kept.now.unread
  kept-for x y lines c ok w h e =
      ⊎_elim (λ m. inl m)
      (λ more. ⊎_elim
      (λ told. ⊎_elim
      (λ l. inr (inl (l.0, (l.1.0, still-unwritten x.outside.kept.now.unwritten y.kept.now.unwritten l.1.0 l.1.1 x.outside.machine.now lines (o.written x.outside.out.now) (o.faults x.outside.out.now) x.outside.kept.now.lines x.outside.kept.now.counts.items (o.written y.out.now) (o.faults y.out.now) y.kept.now.lines y.kept.now.counts.items w.0.1.tells))))
      (λ r. inr (inr (inl (r.0, w.1.1 ∙ r.1, r.2))))
      (subst (λ z. Knows z x.outside.kept.now.unwritten x.outside.kept.now.unread) told h))
      (λ own. inr (inr (inr (own.1, w.1.1 ∙ (knows-none _ _ _ own.0 h).1)))) more)
      e

  ends-so : (n k : ℕ) (x : Head Run D) (t : ReactorTurn) (c : Cause) (y : Head Run D) → t.end ≡ Some c → ReactorStep reactor (desk_out f o) n k x t y → Known x → IsFor c y.outside.kept.now.unwritten y.outside.kept.now.unread
  ends-so n k x t c y e s h =
      let b = s.0 in
      let last : b ≡ y = (subst (λ z. Served reactor (desk_out f o) k b z t.pieces y) e s.2).1 in
      subst (λ (z : Head Run D). IsFor c z.outside.kept.now.unwritten z.outside.kept.now.unread) last
      (⊎_elim
      (λ l.
      let turned = l.1 in
      let for = (blames x.machine.machine x.machine.switches x.machine.known k t.states t.note).ends c (sym turned.1.end_is ∙ e) in
      ⊎_elim (λ v. kept-for x b.outside t.lines c true v.0 h for) (λ v. kept-for x b.outside t.lines c false v.0 h for) turned.2.1)
      (λ r. inl (let g = sym e ∙ r.3 in cc)) s.1.1)

  none-in : (o : Option Cause) (cs : List Cause) → option_items o ++ cs ≡ [] → (o ≡ None) × (cs ≡ [])
  none-in None cs e = (refl, e)
  none-in (Some c) cs e = cc

  -- A run whose turns go on, but for the last, ends for want of memory, for a write or a read that failed, or for a cause of its
  -- own, with nothing unread.
  pub ends-for : (n k : ℕ) (x : Head Run D) (ts : List ReactorTurn) (last : ReactorTurn) (c : Cause) (y : Head Run D) → answered_ends ts ≡ [] → last.end ≡ Some c → Goes (ReactorStep reactor (desk_out f o) n) k x (ts ++ last ∷ []) y
      → Known x → IsFor c y.outside.kept.now.unwritten y.outside.kept.now.unread
  ends-for n k x [] last c y none e g h = subst (λ (z : Head Run D). IsFor c z.outside.kept.now.unwritten z.outside.kept.now.unread) g.2 (ends-so n k x last c g.0 e g.1 h)
  ends-for n k x (t ∷ ts) last c y none e g h =
      let here = none-in t.end (answered_ends ts) none in
      ends-for n (k + 1) g.0 ts last c y here.1 e g.2 (goes-on n k x t g.0 here.0 g.1 h)
