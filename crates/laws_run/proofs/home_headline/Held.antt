-- Whole runs whose boards keep up, by limits.
use Rattle.std.proofs.Common.{◌≡◌, ◌≢◌, ℕ, ◌<◌, List, [], ◌∷◌, ◌++◌, length, Option, None, Some, refl, sym, ◌∙◌, subst, inl, inr}
use Rattle.laws_board.proofs.Names.{Cause, Machine, clock_of, IsValidMachine, board_at, Scene, pins_of, Run, Told, MotionTurn, ReactorTurn}
use Rattle.plan_types.specs.declared.cause.Cause.TheVariants as cause
use Rattle.io_core.specs.declared.traits.Files.{Ghosts as Files}
use Rattle.io_core.specs.declared.traits.Sink.{Ghosts as Sink}
use Rattle.session_lanes.specs.declared.near.Told as near
use Rattle.session_run.specs.declared.tell.Kept.{Kept}
use Rattle.session_run.specs.Runs.{RunsOver}
use Rattle.laws_board.specs.causes.Short.{HaveShortDictionaries}
use Rattle.laws_board.specs.plans.Planned.{Plans}
use Rattle.laws_homing.specs.home_parts.Answers.{TakeSetUps}
use Rattle.laws_run.specs.lanes.Boards.{IsInWhole, turns_behind}
use Rattle.laws_run.specs.run_headline.Timely.{AllAreTimely, link_of}
use Rattle.laws_run.proofs.run_headline.Cutting.{run_front, same_front}
use Rattle.laws_run.proofs.run_headline.Runs.{facts}
use Rattle.laws_run.proofs.run_headline.Showing.{Facts, not_told, untold_alone}
use Rattle.laws_run.specs.home_headline.Little.{AllHomeLittle, SendsOut}
use Rattle.laws_run.specs.home_headline.Near.{AllKeepUp, AllReportsReadTrue, AllTakeNear, KeepsUp}
use Rattle.laws_run.specs.home_wholes.Own.{AllTakeInTime}
use Rattle.laws_run.proofs.home_headline.Following.{in_time, timely_by}

-- boards that take all near keep up
pub near_keeps : (m : Machine) (s : Scene) (text : List ℕ) (planned : List MotionTurn) (turns : List ReactorTurn) → AllTakeNear m s text planned turns → AllKeepUp m s text planned turns
near_keeps m s text planned [] near = tt
near_keeps m s text planned (first ∷ rest) near = λ p b same some low w. (let x = near p b same some low w in record { timely = x.timely; sets_up = inr x.reads })

-- so do those that are timely and take the set-ups in time
pub time_keeps : (m : Machine) (s : Scene) (text : List ℕ) (planned : List MotionTurn) (turns : List ReactorTurn) → AllAreTimely m s text planned turns → AllTakeInTime m s text planned turns → AllKeepUp m s text planned turns
time_keeps m s text planned [] timely takes = tt
time_keeps m s text planned (first ∷ rest) timely takes = λ p b same some low w. record { timely = timely p b same some low w; sets_up = inl (takes p b same some low w) }

-- and those that keep up take all near where their reports are read true
pub reads_near : (m : Machine) (s : Scene) (text : List ℕ) (planned : List MotionTurn) (turns : List ReactorTurn) → AllKeepUp m s text planned turns → AllReportsReadTrue m s planned turns → AllTakeNear m s text planned turns
reads_near m s text planned [] keeps reads = tt
reads_near m s text planned (first ∷ rest) keeps reads = λ p b same some low w. record { timely = (keeps p b same some low w).timely; reads = reads b low w }

-- a run of which something is known
module _ (m : Machine) (v : IsValidMachine m) (s : Scene) (text : List ℕ) (ts : List MotionTurn) (end : ReactorTurn) (c : Cause) (short : HaveShortDictionaries m) where
  abbrev In : (first : ReactorTurn) (rest : List ReactorTurn) → ℕ → Type 0
  In first rest b = IsInWhole m s.switches b (clock_of (board_at m b)) (link_of m s b) ts first (rest ++ end ∷ [])

  -- a board does something, where it does so by the clock lines that the planner was told
  told_of : (first : ReactorTurn) (rest : List ReactorTurn) (P : (p : Plans m (length m.boards) ts) (b : ℕ) → In first rest b → Type 0)
      → ((p : Plans m (length m.boards) ts) (t : Told) (b : ℕ) → p.seen.text ≡ text → p.seen.told ≡ Some t → p.seen.begun ≢ [] → b < length m.boards → (w : In first rest b) → P p b w)
      → (p : Plans m (length m.boards) ts) (b : ℕ) → p.seen.text ≡ text → p.seen.begun ≢ [] → b < length m.boards → (w : In first rest b) → P p b w
  told_of first rest P does p b same some low w = by p.seen.told refl
    where
      by : (o : Option Told) → p.seen.told ≡ o → P p b w
      by None e = absurd (some (not_told m v s ts p end c e))
      by (Some t) e = does p t b same e some low w

  keeps : (rs : List ReactorTurn) → Facts m s ts rs end c → AllHomeLittle m s text ts (rs ++ end ∷ []) → AllKeepUp m s text ts (rs ++ end ∷ [])
  keeps [] f little = λ p b same some low w. absurd (untold_alone m v s ts p end c p.seen.told refl f some)
  keeps (first ∷ rest) f little =
      told_of first rest (λ p b w. KeepsUp m s b ts first (rest ++ end ∷ []) p.seen.begun w) (λ p t b same told some low w.
      let l = little p t b same told some low w in record { timely = timely_by m v s ts p t first rest end c told f short b low w l; sets_up = l.sets_up })

  clear_take : s.entries ≡ [] → SendsOut m text ts → (rs : List ReactorTurn) → Facts m s ts rs end c → AllTakeInTime m s text ts (rs ++ end ∷ [])
  clear_take clear sends [] f = λ p b same some low w. absurd (untold_alone m v s ts p end c p.seen.told refl f some)
  clear_take clear sends (first ∷ rest) f =
      told_of first rest (λ p b w. TakeSetUps m (pins_of (board_at m b) b s.switches) s.entries b p.seen.begun (turns_behind [] w.made)) (λ p t b same told some low w.
      in_time m v s ts p t first rest end c told f short b low w clear (sends p t b same told low))

module _ {F S : Type 0} (f : Files F) (o : Sink S) (m : Machine) (s : Scene) (name : List ℕ) (files files' : F) (out out' : S) (kept kept' : Kept) (t : near.Told Run) (r : RunsOver f o m s name files out kept t files' out' kept') (v : IsValidMachine m) (short : HaveShortDictionaries m)
    (text : List ℕ) where
  module _ (other : t.cause ≡ cause.Memory → ⊥) where
    pub run_keeps : AllHomeLittle m s text r.runs.0 (r.runs.1 ++ r.runs.2 ∷ []) → AllKeepUp m s text r.runs.0 (r.runs.1 ++ r.runs.2 ∷ [])
    run_keeps little = keeps m v s text r.runs.0 r.runs.2 t.cause short r.runs.1 (facts f o m s name files files' out out' kept kept' t r other) little

    pub run_clear_takes : s.entries ≡ [] → SendsOut m text r.runs.0 → AllTakeInTime m s text r.runs.0 (r.runs.1 ++ r.runs.2 ∷ [])
    run_clear_takes clear sends = clear_take m v s text r.runs.0 r.runs.2 t.cause short clear sends r.runs.1 (facts f o m s name files files' out out' kept kept' t r other)

  -- and before its last turn, whatever ended it
  module _ (turns : List ReactorTurn) (last : ReactorTurn) (cut : r.runs.1 ≡ turns ++ last ∷ []) (front later : List MotionTurn) (are : r.runs.0 ≡ front ++ later) (long : length front ≡ length turns) where
    front_facts : Facts m s front turns last cause.ReadFault
    front_facts =
        let part = run_front f o m s name files files' out out' kept kept' t r turns last cut in
        let Of : List MotionTurn → Type 0 = λ z. Facts m s z turns last cause.ReadFault in
        subst Of (same_front part.planned front part.later later (sym part.are ∙ are) (part.long ∙ sym long)) part.facts

    pub front_keeps : AllHomeLittle m s text front (turns ++ last ∷ []) → AllKeepUp m s text front (turns ++ last ∷ [])
    front_keeps little = keeps m v s text front last cause.ReadFault short turns front_facts little
