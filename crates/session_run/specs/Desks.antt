-- What a desk went through.
use Rattle.std.specs.Prelude.{◌≡◌, ◌≤◌, ℕ, List, [], ◌∷◌, ◌++◌, Bool, false, Some, Result, Ok, Err, is_none, length}
use Rattle.io_core.specs.declared.traits.Files.{Ghosts as Files}
use Rattle.io_core.specs.declared.traits.Sink.{Ghosts as Sink}
use Rattle.plan_types.specs.declared.cause.Cause.{Cause}
use Rattle.plan_types.specs.declared.cause.Cause.TheVariants as cause
use Rattle.plan_types.specs.declared.machine.Machine.{Machine}
use Rattle.msg_code.specs.declared.talk.Piece.{Piece}
use Rattle.report_text.specs.declared.line.ReportLine.{ReportLine}
use Rattle.session_work.specs.declared.machines.LinkMachine.{Ghosts as Link}
use Rattle.session_work.specs.declared.machines.MotionMachine.{Ghosts as Motion}
use Rattle.session_work.specs.declared.machines.ReactorMachine.{Ghosts as Reactor}
use Rattle.session_work.specs.declared.machines.Outside.{Ghosts as Out}
use Rattle.session_lanes.specs.declared.near.Told.{Told}
use Rattle.session_work.specs.declared.table.MotionTurn.{MotionTurn}
use Rattle.session_work.specs.declared.table.ReactorTurn.{ReactorTurn}
use Rattle.session_work.specs.Rows.{gather}
use Rattle.session_lanes.specs.Runs.{AreLogs, Met, head_at, ran_at}
use Rattle.session_run.specs.declared.desk.Desk.{Desk}
use Rattle.session_run.specs.declared.read.ReadStop.{ReadStop}
use Rattle.session_run.specs.declared.read.ReadStop.TheVariants as stop
use Rattle.session_run.specs.declared.tell.Kept.{Kept}
use Rattle.session_run.specs.Reads.{CountsReads, IsNextPiece}
use Rattle.session_run.specs.Tells.{Tells}

-- the references are the same, and the machine and the file's name
abbrev pub SameDesk : {F S : Type 0} → Desk F S → Desk F S → Type 0
SameDesk x y =
    (y.files.ghost_name ≡ x.files.ghost_name) × (y.out.ghost_name ≡ x.out.ghost_name)
    × (y.kept.ghost_name ≡ x.kept.ghost_name) × (y.machine.now ≡ x.machine.now) × (y.name.now ≡ x.name.now)

-- What happened to what lies outside while these lines were told: the files tell what they told, reads are
-- counted, and the lines are kept, or counted, and written.
pub record Happened {F S : Type 0} (f : Files F) (s : Sink S) (m : Machine) (lines : List ReportLine) (files : F)
    (out : S) (kept : Kept) (files' : F) (out' : S) (kept' : Kept) : Type 0 where
  pub told : (name : List ℕ) → f.told files' name ≡ f.told files name
  pub never_fall : f.faults files ≤ f.faults files'
  pub reads : CountsReads kept.unread (f.faults files) kept'.unread (f.faults files')
  pub tells : Tells m lines kept.unwritten (s.written out) (s.faults out) kept.lines kept.counts.items kept'.unwritten
      (s.written out') (s.faults out') kept'.lines kept'.counts.items

-- from one desk to another
abbrev pub Desked : {F S : Type 0} → Files F → Sink S → Desk F S → List ReportLine → Desk F S → Type 0
Desked f s x lines y =
    SameDesk x y × Happened f s x.machine.now lines x.files.now x.out.now x.kept.now y.files.now y.out.now y.kept.now

-- the cause that ends a run whose text can't be read
abbrev pub cause_of : ReadStop → Cause
cause_of stop.Memory = cause.Memory
cause_of stop.Failed = cause.ReadFault

-- a piece that a desk gives, or why there is none
abbrev pub Serves : {F S : Type 0} → Files F → Desk F S → Result Piece Cause → Desk F S → Type 0
Serves f x (Ok p) y =
    IsNextPiece f x.name.now x.files.now x.kept.now.at p y.kept.now.at × (y.kept.now.unread ≡ x.kept.now.unread)
    × (p.stop ≡ false)
Serves f x (Err c) y =
    (s : ReadStop) × (y.kept.now.unread ≡ Some s) × (c ≡ cause_of s) × (y.kept.now.at ≡ x.kept.now.at)

-- a write moves no place in the text and reads nothing, and says whether the writing goes on
abbrev pub Writes : {F S : Type 0} → Desk F S → Desk F S → Bool → Type 0
Writes x y ok =
    (y.kept.now.at ≡ x.kept.now.at) × (y.kept.now.unread ≡ x.kept.now.unread) × (ok ≡ is_none y.kept.now.unwritten)

-- the outside that a desk is
abbrev pub desk_out : {F S : Type 0} → Files F → Sink S → Out (Desk F S)
desk_out f s = record {
  writes = λ x lines y ok. Desked f s x lines y × Writes x y ok;
  serves = λ x number r y. Desked f s x [] y × Serves f x r y × (y.kept.now.unwritten ≡ x.kept.now.unwritten);
}

-- a desk has these files and this output, its text is the file of this name, and this is kept
abbrev pub Has : {F S : Type 0} → Desk F S → List ℕ → F → S → Kept → Type 0
Has x name files out kept = (x.files.now ≡ files) × (x.out.now ≡ out) × (x.kept.now ≡ kept) × (x.name.now ≡ name)

-- the lines of the reactor's turns
abbrev pub reported_lines : List ReactorTurn → List ReportLine
reported_lines ts = gather (λ t. t.lines) ts

module _ {M L A F S : Type 0} (m : Motion M) (l : Link L) (a : Reactor A) (f : Files F) (s : Sink S) where
  -- A run of these machines, of turns of the motion worker and of the reactor, over the file of a name and an
  -- output: what there was of these and of what is kept before it, and behind it.
  abbrev pub IsToldRun : Machine → List ℕ → M → List L → A → F → S → Kept → Told A → F → S → Kept → Type 0
  IsToldRun names name start links machine files out kept t files' out' kept' =
      (ts : List MotionTurn) × (rs : List ReactorTurn) × (end : ReactorTurn) × (n : ℕ) × (x : Desk F S) × (y : Desk F S)
      × Met m l a (desk_out f s) ts rs end n (length links) start (head_at machine x) (ran_at t y)
      × AreLogs m l a (desk_out f s) ts rs end n 0 links t.links.items
      × Happened f s names (reported_lines (rs ++ end ∷ [])) files out kept files' out' kept'
      × Has x name files out kept × Has y name files' out' kept'
