-- The turns, words and notes of a run, whatever ended it, and what the first turns of its planner took of them.
use Rattle.std.proofs.Common.{◌≡◌, ℕ, List, [], ◌∷◌, ◌++◌, length, ap, sym, ◌∙◌, append_assoc}
use Rattle.laws_board.proofs.Names.{Machine, Note, WordMsg, Scene, Run, MotionTurn, ReactorTurn, gather}
use Rattle.io_core.specs.declared.traits.Files.{Ghosts as Files}
use Rattle.io_core.specs.declared.traits.Sink.{Ghosts as Sink}
use Rattle.session_lanes.specs.declared.near.Told.{Told}
use Rattle.session_work.specs.Leads.{last_words}
use Rattle.session_work.specs.Rows.{option_items}
use Rattle.session_run.specs.declared.tell.Kept.{Kept}
use Rattle.session_run.specs.Boards.{AreReactorTurns}
use Rattle.session_run.specs.Runs.{RunsOver}
use Rattle.laws_run.proofs.run_headline.Facts.{notes_of}
use Rattle.laws_run.proofs.run_headline.Making.{put_is, run_turns}
use Rattle.laws_run.proofs.run_lates.Unbegun.{gather_both}

-- The reactor's turns before its last one, the words of which are the first ones that a planner took in some turns, and the notes of which are the
-- first ones that it put.
pub record Taken (m : Machine) (s : Scene) (rs : List ReactorTurn) (front : List MotionTurn) : Type 0 where
  pub turns : AreReactorTurns m s.switches [] rs
  pub ahead : ℕ
  pub left : List WordMsg
  pub words : gather (λ t. t.word ∷ []) rs ++ last_words (length rs) ahead ≡ gather (λ t. t.words) front ++ left
  pub others : List Note
  pub more : List Note
  pub notes : gather (λ t. t.note ∷ []) front ++ others ≡ notes_of rs ++ more

pub run_taken : {F S : Type 0} (f : Files F) (o : Sink S) (m : Machine) (s : Scene) (name : List ℕ) (files files' : F) (out out' : S) (kept kept' : Kept) (t : Told Run) (r : RunsOver f o m s name files out kept t files' out' kept') → (front later : List MotionTurn)
    → r.runs.0 ≡ front ++ later → Taken m s r.runs.1 front
run_taken f o m s name files files' out out' kept kept' t r front later cut =
    let (ts, rs, end, n, x, y, met, logs, happened, has, has') = r.runs in
    let words_of = λ (z : MotionTurn). z.words in
    let note_of = λ (z : MotionTurn). z.note ∷ [] in
    let words = put_is _ _ _ met.4 in
    let notes = put_is _ _ _ met.5 in
    record {
      turns = run_turns f o m s name files files' out out' kept kept' t r;
      ahead = n;
      left = gather words_of later ++ met.4.2.0;
      words = words ∙ ap (λ z. z ++ met.4.2.0) (ap (gather words_of) cut ∙ gather_both words_of front later) ∙ append_assoc (gather words_of front) (gather words_of later) met.4.2.0;
      others = gather note_of later;
      more = notes_of (end ∷ []) ++ met.5.2.0;
      notes = sym (gather_both note_of front later) ∙ ap (gather note_of) (sym cut) ∙ notes ∙ ap (λ z. z ++ met.5.2.0) (gather_both (λ (z : ReactorTurn). option_items z.note) rs (end ∷ [])) ∙ append_assoc (notes_of rs) (notes_of (end ∷ [])) met.5.2.0;
    }
