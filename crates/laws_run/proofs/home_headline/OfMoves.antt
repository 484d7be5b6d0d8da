-- A run of moves whose boards are timely takes all near.
use Rattle.std.proofs.Common.{◌≡◌, ◌≢◌, ◌<◌, ℕ, false, List, [], ◌∷◌, ◌++◌, length, Option, None, Some, refl, ap, sym, ◌∙◌, subst, inl, inr}
use Rattle.laws_board.proofs.Names.{∥∥₁_map, Cause, Machine, clock_of, IsValidMachine, board_at, Scene, Switch, Known, Run, reacts, Came, GoesOn, known_by, Told as Heard, MotionTurn, ReactorTurn, gather}
use Rattle.gcode_program.specs.Programs.{program_sections}
use Rattle.plan_types.specs.declared.cause.Cause.TheVariants as cause
use Rattle.io_core.specs.declared.traits.Files.{Ghosts as Files}
use Rattle.io_core.specs.declared.traits.Sink.{Ghosts as Sink}
use Rattle.laws_board.specs.causes.Short.{HaveShortDictionaries}
use Rattle.laws_board.specs.turns.Turns.{BoardTurn}
use Rattle.session_lanes.specs.declared.near.Told.{Told}
use Rattle.session_run.specs.declared.tell.Kept.{Kept}
use Rattle.session_run.specs.Boards.{came_from}
use Rattle.session_run.specs.Runs.{RunsOver}
use Rattle.laws_run.specs.lanes.Boards.{IsInWhole, turns_behind}
use Rattle.laws_board.specs.plans.Planned.{Plans}
use Rattle.laws_homing.specs.fired_runs.Since.{AllReadTrue, AreReadTrue}
use Rattle.laws_run.specs.run_ends.Ends.{GoesThrough}
use Rattle.laws_run.specs.run_headline.Timely.{AllAreTimely, AreOfMoves, HoldsNothingLong, IsTimelyIn, link_of}
use Rattle.laws_run.specs.run_headline.Told.{AreTold}
use Rattle.laws_run.proofs.run_ends.Ending.{own_cause}
use Rattle.laws_run.proofs.run_headline.Making.{run_made}
use Rattle.laws_run.proofs.run_headline.Telling.{turns_told}
use Rattle.laws_run.proofs.run_limits.Runs.{in_memory}
use Rattle.laws_run.proofs.run_headline.Boarded.{came_cut}
use Rattle.laws_run.proofs.run_headline.Cutting.{run_front, same_front}
use Rattle.laws_run.proofs.run_headline.Plain.{AllMoves, all_moves, known_none, noted_none}
use Rattle.laws_run.proofs.run_headline.Runs.{facts}
use Rattle.laws_run.proofs.run_headline.Showing.{Facts, alone_ends, kinds, long, long_own, near_little, not_told, notes_before, took_notes, untold_alone}
use Rattle.laws_run.specs.home_headline.Near.{AllTakeNear}

-- where no homing section is ever known, no report counts for one
reads_none : (m : Machine) (switches : List Switch) (b : ℕ) (came : List Came) (turns : List BoardTurn) → GoesOn m switches came → AllMoves came → AreReadTrue m switches b came turns
reads_none m switches b [] turns g a = tt
reads_none m switches b (c ∷ before) [] g a = tt
reads_none m switches b (c ∷ before) (t ∷ earlier) g a = (
  λ h x known. (let none : None ≡ Some h = sym (noted_none m c.note (known_by m switches before) (known_none m switches before g.1 a.1) a.0) ∙ known in cc),
  reads_none m switches b before earlier g.1 a.1,
)

all_read : (m : Machine) (switches : List Switch) (b : ℕ) (came : List Came) (turns : List BoardTurn) → GoesOn m switches came → AllMoves came → AllReadTrue m switches b came turns
all_read m switches b came [] g a = tt
all_read m switches b came (t ∷ earlier) g a = reads_none m switches b came earlier g a

-- so where its boards are timely they take all near
moves_near : (m : Machine) (v : IsValidMachine m) (s : Scene) (text : List ℕ) (ts : List MotionTurn) (rs : List ReactorTurn) (end : ReactorTurn) (c : Cause) → Facts m s ts rs end c → AreOfMoves (program_sections m text)
    → AllAreTimely m s text ts (rs ++ end ∷ []) → AllTakeNear m s text ts (rs ++ end ∷ [])
moves_near m v s text ts [] end c f moves timely = λ p b same some low w. absurd (untold_alone m v s ts p end c p.seen.told refl f some)
moves_near m v s text ts (first ∷ rest) end c f moves timely = λ p b same some low w.
    let Moves : List ℕ → Type 0 = λ z. AreOfMoves (program_sections m z) in
    let own = subst Moves (sym same) moves in
    let All : List Came → Type 0 = λ z. AllMoves z in
    let none = subst All (sym (came_cut [] first rest end)) (all_moves m p.seen.text p.seen.begun p.made first rest (kinds m v s ts p end c first rest f own) p.put (notes_before m v s ts p end c first rest f)) in
    record { timely = timely p b same some low w; reads = all_read m s.switches b _ (turns_behind [] w.made) w.goes_on none }

-- and they are where it holds nothing long
moves_timely : (m : Machine) (v : IsValidMachine m) (s : Scene) (text : List ℕ) (ts : List MotionTurn) (rs : List ReactorTurn) (end : ReactorTurn) (c : Cause) → Facts m s ts rs end c → HaveShortDictionaries m → AreOfMoves (program_sections m text)
    → HoldsNothingLong m s text ts (rs ++ end ∷ []) → AllAreTimely m s text ts (rs ++ end ∷ [])
moves_timely m v s text ts [] end c f short moves holds = λ p b same some low w. absurd (untold_alone m v s ts p end c p.seen.told refl f some)
moves_timely m v s text ts (first ∷ rest) end c f short moves holds = λ p b same some low w. by p b same some low w p.seen.told refl
  where
    by : (p : Plans m (length m.boards) ts) (b : ℕ) → p.seen.text ≡ text → p.seen.begun ≢ [] → b < length m.boards → (w : IsInWhole m s.switches b (clock_of (board_at m b)) (link_of m s b) ts first (rest ++ end ∷ [])) → (o : Option Heard)
        → p.seen.told ≡ o → IsTimelyIn m s b ts first (rest ++ end ∷ []) w
    by p b same some low w None e = absurd (some (not_told m v s ts p end c e))
    by p b same some low w (Some t) e =
        let Moves : List ℕ → Type 0 = λ z. AreOfMoves (program_sections m z) in
        let own = subst Moves (sym same) moves in
        elim (long m v s ts p end c first rest f own) [
          | inl l ↦ near_little m v s ts p end c first rest f own short t e b low l w (holds p t b same e low l w)
          | inr z ↦ absurd (some z.none)
        ]

-- its lines are such as a reactor tells that homes nothing
own_lines : (m : Machine) (v : IsValidMachine m) (s : Scene) (ts : List MotionTurn) (p : Plans m (length m.boards) ts) (rs : List ReactorTurn) (end : ReactorTurn) (c : Cause) → Facts m s ts rs end c → AreOfMoves (program_sections m p.seen.text) → GoesThrough c
    → AreTold false m (gather (λ t. t.lines) (rs ++ end ∷ []))
own_lines m v s ts p [] end c f moves through = absurd (alone_ends m v s ts p end c f through)
own_lines m v s ts p (first ∷ rest) end c f moves through =
    let own = f.own (own_cause c through) in
    let is = f.lines_are ∙ ap (λ (k : Known). (reacts m s.switches k (length (came_from [] (first ∷ rest))) end.states end.note).ordered.lines) own.0 in
    let notes = took_notes m v s ts p end c first rest f (long_own m v s ts p end c first rest f (own_cause c through)) in
    turns_told m s.switches [] (first ∷ rest) end f.turns tt (all_moves m p.seen.text p.seen.begun p.made first (rest ++ end ∷ []) (kinds m v s ts p end c first rest f moves) p.put notes) is

module _ {F S : Type 0} (f : Files F) (o : Sink S) (m : Machine) (s : Scene) (name : List ℕ) (files files' : F) (out out' : S) (kept kept' : Kept) (t : Told Run) (r : RunsOver f o m s name files out kept t files' out' kept') (v : IsValidMachine m) (text : List ℕ) (moves : AreOfMoves (program_sections m text)) where
  pub run_moves_near : (t.cause ≡ cause.Memory → ⊥) → AllAreTimely m s text r.runs.0 (r.runs.1 ++ r.runs.2 ∷ []) → AllTakeNear m s text r.runs.0 (r.runs.1 ++ r.runs.2 ∷ [])
  run_moves_near other timely = moves_near m v s text r.runs.0 r.runs.1 r.runs.2 t.cause (facts f o m s name files files' out out' kept kept' t r other) moves timely

  pub run_near : HaveShortDictionaries m → (t.cause ≡ cause.Memory → ⊥) → HoldsNothingLong m s text r.runs.0 (r.runs.1 ++ r.runs.2 ∷ []) → AllTakeNear m s text r.runs.0 (r.runs.1 ++ r.runs.2 ∷ [])
  run_near short other holds = run_moves_near other (moves_timely m v s text r.runs.0 r.runs.1 r.runs.2 t.cause (facts f o m s name files files' out out' kept kept' t r other) short moves holds)

  -- and before its last turn, whatever ended it
  pub front_near : (turns : List ReactorTurn) (last : ReactorTurn) → r.runs.1 ≡ turns ++ last ∷ [] → (front later : List MotionTurn) → r.runs.0 ≡ front ++ later → length front ≡ length turns
      → (AllAreTimely m s text front (turns ++ last ∷ []) → AllTakeNear m s text front (turns ++ last ∷ [])) × (HaveShortDictionaries m → HoldsNothingLong m s text front (turns ++ last ∷ []) → AllTakeNear m s text front (turns ++ last ∷ []))
  front_near turns last cut front later are long =
      let part = run_front f o m s name files files' out out' kept kept' t r turns last cut in
      let same : part.planned ≡ front = same_front part.planned front part.later later (sym part.are ∙ are) (part.long ∙ sym long) in
      let Of : List MotionTurn → Type 0 = λ z. Facts m s z turns last cause.ReadFault in
      let own = subst Of same part.facts in
      let near = moves_near m v s text front turns last cause.ReadFault own moves in
      (near, λ short holds. near (moves_timely m v s text front turns last cause.ReadFault own short moves holds))

  pub run_own_lines : f.told files name ≡ Some text → kept.at ≡ 0 → GoesThrough t.cause → ∥ AreTold false m (gather (λ t. t.lines) (r.runs.1 ++ r.runs.2 ∷ [])) ∥₁
  run_own_lines told at through =
      ∥∥₁_map (run_made f o m s name files files' out out' kept kept' t r text told at) (λ w.
      let Moves : List ℕ → Type 0 = λ z. AreOfMoves (program_sections m z) in
      own_lines m v s r.runs.0 w.0.plans r.runs.1 r.runs.2 t.cause (facts f o m s name files files' out out' kept kept' t r (in_memory t.cause through)) (subst Moves (sym w.1) moves) through)
