-- Why a cut is at the first tick at which its switch closes, where the boards take the set-ups of homing sections in time.
use Rattle.std.proofs.Common.{◌≡◌, ℕ, ◌+◌, ◌<◌, List, [], ◌∷◌, ◌++◌, length, Option, Some, None, refl, ap, sym, ◌∙◌, subst, arith, inl, inr}
use Rattle.laws_board.proofs.Names.{∥∥₁_map, Cause, AxisDef, Machine, clock_of, IsValidMachine, axis_at, board_at, Scene, Switch, pins_of, Run, cut_line, Came, Started, Told, MotionTurn, ReactorTurn}
use Rattle.plan_types.specs.declared.cause.Cause.TheVariants as cause
use Rattle.io_core.specs.declared.traits.Files.{Ghosts as Files}
use Rattle.io_core.specs.declared.traits.Sink.{Ghosts as Sink}
use Rattle.laws_board.specs.turns.Turns.{AreBoardTurns, BoardTurn}
use Rattle.session_lanes.specs.declared.near.Told as near
use Rattle.session_run.specs.declared.tell.Kept.{Kept}
use Rattle.session_run.specs.Boards.{came_in}
use Rattle.session_run.specs.Runs.{RunsOver}
use Rattle.laws_run.specs.lanes.Boards.{turns_behind}
use Rattle.laws_board.proofs.sections.Lists.{one_place}
use Rattle.laws_board.specs.plans.Planned.{Plans}
use Rattle.laws_board.specs.causes.Short.{HaveShortDictionaries}
use Rattle.laws_homing.specs.home_parts.Answers.{TakeSetUps}
use Rattle.laws_homing.proofs.home_parts.Told.{take_at}
use Rattle.laws_homing.proofs.home_runs.Windows.{begun}
use Rattle.laws_homing.proofs.switch_runs.Exact.{took_early}
use Rattle.laws_run.specs.clear_homes.Closes.{TellFirst}
use Rattle.laws_run.specs.home_headline.Cuts.{EndsIn, TellEnds}
use Rattle.laws_run.specs.home_wholes.Own.{AllSwitchesReadTrue, AllTakeInTime, IsTriggerIn, TellTriggersBehind}
use Rattle.laws_run.specs.run_headline.Made.{IsMade}
use Rattle.laws_run.specs.run_headline.Timely.{link_of}
use Rattle.laws_run.proofs.home_headline.Switches.{all_ends}
use Rattle.laws_run.proofs.home_wholes.Own.{none_ends, own_turns}
use Rattle.laws_run.proofs.run_headline.Making.{run_made}
use Rattle.laws_run.proofs.run_headline.Runs.{run_ended}
use Rattle.laws_run.proofs.run_headline.Showing.{Ended, Facts, in_none, not_told}

-- a line that tells of a switch has one section
one_line : (m : Machine) (switches : List Switch) (i j : ℕ) (a b : AxisDef) (tick at : ℕ) → cut_line m switches i a (Some tick) ≡ cut_line m switches j b (Some at) → i ≡ j
one_line m switches i j a b tick at e = cc

no_line : (m : Machine) (switches : List Switch) (i : ℕ) (a : AxisDef) (tick : ℕ) → [] ≡ cut_line m switches i a (Some tick) → ⊥
no_line m switches i a tick e = cc

ends_front : (m : Machine) (switches : List Switch) (begun : List Started) (k : ℕ) (xs ys : List ReactorTurn) → TellEnds m switches begun k (xs ++ ys) → TellEnds m switches begun k xs
ends_front m switches begun k [] ys ends = tt
ends_front m switches begun k (x ∷ xs) ys ends = (ends.0, ends_front m switches begun (k + 1) xs ys ends.1)

module _ (m : Machine) (v : IsValidMachine m) (s : Scene) (ts : List MotionTurn) (p : Plans m (length m.boards) ts) (t : Told) (first : ReactorTurn) (rest : List ReactorTurn) (end : ReactorTurn) (c : Cause) (told : p.seen.told ≡ Some t) (f : Facts m s ts (first ∷ rest) end c)
    (short : HaveShortDictionaries m) (takes : AllTakeInTime m s p.seen.text ts (first ∷ (rest ++ end ∷ []))) where
  -- the board took the command of the section before its start
  early : (before : List Came) (section tick : ℕ) (k : IsTriggerIn m s p.seen ts first (rest ++ end ∷ []) section before tick) (number axis : ℕ) → EndsIn p.seen.begun (length before) number axis → number ≡ section → k.is.turn < k.x.start
  early before section tick k number axis e same_number =
      let clock = clock_of (board_at m k.board) in
      let link = link_of m s k.board in
      let pins = pins_of (board_at m k.board) k.board s.switches in
      let same : k.x ≡ e.s = one_place k.past k.x k.later e.past e.s e.later (sym k.cut ∙ e.cut) (sym k.number ∙ sym same_number ∙ e.number_is) in
      let ends : k.x.end ≡ length before = ap (λ (z : Started). z.end) same ∙ e.end in
      let all = takes p k.board refl (λ none. in_none k.past k.x k.later p.seen.begun none k.cut) k.there k.w in
      let Takes : List Started → Type 0 = λ z. TakeSetUps m pins s.entries k.board z (turns_behind [] k.w.made) in
      let took = take_at m pins s.entries k.board k.past k.x k.later k.axis (turns_behind [] k.w.made) k.home (subst Takes k.cut all) k.others k.turns k.are (k.long ∙ sym ends) in
      let are = begun clock link k.others k.turns (subst (λ (z : List BoardTurn). AreBoardTurns clock link z) k.are k.w.turns_are) in
      took_early clock link k.x.start k.is.turn k.turns are took k.is.took

  first_turns : (before : List Came) (rs : List ReactorTurn) → TellTriggersBehind m s p.seen ts first (rest ++ end ∷ []) before rs → TellEnds m s.switches p.seen.begun (length before) rs → TellFirst m s p.seen before rs
  first_turns before [] own ends = tt
  first_turns before (r ∷ rs) own ends =
      let next : length before + 1 ≡ length (came_in r ∷ before) = omega arith in
      let At : ℕ → Type 0 = λ i. TellEnds m s.switches p.seen.begun i rs in (
        λ x. elim ends.0 [
          | inl w ↦
              let k = own.0 x in
              k.exact (early before x.homing.section x.tick k w.number w.axis w.ended (one_line m s.switches w.number x.homing.section (axis_at m w.axis) (axis_at m x.homing.axis) w.tick x.tick (sym w.lines_are ∙ x.lines_are)))
          | inr none ↦ absurd (no_line m s.switches x.homing.section (axis_at m x.homing.axis) x.tick (sym none.lines_are ∙ x.lines_are))
        ],
        first_turns (came_in r ∷ before) rs own.1 (subst At next ends.1),
      )

-- where no section was begun no turn tells of a switch
none_first : (m : Machine) (v : IsValidMachine m) (s : Scene) (ts : List MotionTurn) (p : Plans m (length m.boards) ts) (k : ℕ) (before : List Came) (rs : List ReactorTurn) → p.seen.begun ≡ [] → TellEnds m s.switches p.seen.begun k rs → TellFirst m s p.seen before rs
none_first m v s ts p k before [] none ends = tt
none_first m v s ts p k before (r ∷ rs) none ends =
    (λ x. absurd (none_ends m s p.seen k before r rs none ends x), none_first m v s ts p (k + 1) (came_in r ∷ before) rs none ends.1)

module _ (m : Machine) (v : IsValidMachine m) (s : Scene) (ts : List MotionTurn) (p : Plans m (length m.boards) ts) (end : ReactorTurn) (c : Cause) (short : HaveShortDictionaries m) where
  first_by : (o : Option Told) (first : ReactorTurn) (rest : List ReactorTurn) → Facts m s ts (first ∷ rest) end c → p.seen.told ≡ o → AllSwitchesReadTrue m s ts (first ∷ (rest ++ end ∷ [])) → AllTakeInTime m s p.seen.text ts (first ∷ (rest ++ end ∷ []))
      → TellEnds m s.switches p.seen.begun 0 (first ∷ rest) → TellFirst m s p.seen [] (first ∷ rest)
  first_by None first rest f told reads takes ends = none_first m v s ts p 0 [] (first ∷ rest) (not_told m v s ts p end c told) ends
  first_by (Some t) first rest f told reads takes ends = first_turns m v s ts p t first rest end c told f short takes [] (first ∷ rest) (own_turns m v s ts p t first rest end c told f short reads [] (first ∷ rest) refl) ends

  first_all : (rs : List ReactorTurn) → Ended m s ts rs end c → AllSwitchesReadTrue m s ts (rs ++ end ∷ []) → AllTakeInTime m s p.seen.text ts (rs ++ end ∷ []) → TellFirst m s p.seen [] rs
  first_all [] e reads takes = tt
  first_all (first ∷ rest) e reads takes = first_by p.seen.told first rest e.facts refl reads takes (ends_front m s.switches p.seen.begun 0 (first ∷ rest) (end ∷ []) (all_ends m v s ts p end c (first ∷ rest) e))

pub run_first : {F S : Type 0} (f : Files F) (o : Sink S) (m : Machine) (s : Scene) (name : List ℕ) (files files' : F) (out out' : S) (kept kept' : Kept) (t : near.Told Run) (r : RunsOver f o m s name files out kept t files' out' kept') → IsValidMachine m → HaveShortDictionaries m → (text : List ℕ)
    → f.told files name ≡ Some text → kept.at ≡ 0 → (t.cause ≡ cause.Memory → ⊥) → AllSwitchesReadTrue m s r.runs.0 (r.runs.1 ++ r.runs.2 ∷ []) → AllTakeInTime m s text r.runs.0 (r.runs.1 ++ r.runs.2 ∷ [])
    → ∥ ((made : IsMade m s r.runs.0 r.runs.1) × (made.plans.seen.text ≡ text) × TellFirst m s made.plans.seen [] r.runs.1) ∥₁
run_first f o m s name files files' out out' kept kept' t r v short text told at other reads takes =
    ∥∥₁_map (run_made f o m s name files files' out out' kept kept' t r text told at) (λ w.
    let Takes : List ℕ → Type 0 = λ z. AllTakeInTime m s z r.runs.0 (r.runs.1 ++ r.runs.2 ∷ []) in
    (w.0, w.1, first_all m v s r.runs.0 w.0.plans r.runs.2 t.cause short r.runs.1 (run_ended f o m s name files files' out out' kept kept' t r other) reads (subst Takes (sym w.1) takes)))
