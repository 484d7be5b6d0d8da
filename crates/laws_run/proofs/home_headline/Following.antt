-- Why the lines of a whole run in which axes home follow the plans of its sections.
use Rattle.std.proofs.Common.{◌≡◌, inr, ℕ, ◌<◌, List, [], ◌∷◌, ◌++◌, length, Some, length-append, refl, subst, arith}
use Rattle.laws_board.proofs.Names.{∥∥₁_map, Cause, Machine, clock_of, IsValidMachine, board_at, stepper_at, clocks_at, Scene, Run, Started, Told, MotionTurn, ReactorTurn, pins_of}
use Rattle.plan_types.specs.declared.cause.Cause.TheVariants as cause
use Rattle.io_core.specs.declared.traits.Files.{Ghosts as Files}
use Rattle.io_core.specs.declared.traits.Sink.{Ghosts as Sink}
use Rattle.session_lanes.specs.declared.near.Told as near
use Rattle.session_run.specs.declared.tell.Kept.{Kept}
use Rattle.session_run.specs.Boards.{came_from}
use Rattle.session_run.specs.Runs.{RunsOver}
use Rattle.laws_board.specs.sections.Homes.{AreOut}
use Rattle.laws_board.specs.plans.Homed.{runs_on}
use Rattle.laws_run.specs.lanes.Boards.{IsInWhole, turns_behind}
use Rattle.laws_board.specs.plans.Lines.{TellTurns}
use Rattle.laws_board.specs.plans.Planned.{Plans}
use Rattle.laws_board.proofs.plans.Running.{started_in}
use Rattle.laws_run.specs.run_headline.Made.{IsMade}
use Rattle.laws_run.specs.run_headline.Timely.{AreSound, IsTimelyIn, link_of}
use Rattle.laws_run.proofs.run_headline.Boarded.{Ready, first_in_range, lines_renewed, ready, sound_of, took, valid_at}
use Rattle.laws_run.proofs.run_headline.Joining.{of_sections}
use Rattle.laws_run.proofs.run_headline.Making.{run_made}
use Rattle.laws_run.proofs.run_headline.Runs.{facts}
use Rattle.laws_run.proofs.run_headline.Showing.{Facts, all_lines, few, notes_before}
use Rattle.laws_board.specs.plans.Rows.{AreInARow}
use Rattle.laws_homing.specs.home_parts.Answers.{MayHome, TakeSetUps}
use Rattle.laws_homing.specs.home_parts.Known.{StartInRange}
use Rattle.laws_homing.specs.home_parts.Reports.{IsHomeStepper}
use Rattle.laws_homing.proofs.home_parts.Lines.{home_fits, home_none}
use Rattle.laws_board.proofs.plans.Rows.{begun_row, row_from}
use Rattle.laws_run.specs.home_headline.Follow.{FollowHomes}
use Rattle.laws_board.specs.causes.Short.{HaveShortDictionaries}
use Rattle.laws_run.specs.clock_ages.Renewed.{StayYoung}
use Rattle.laws_run.proofs.clock_ages.Own.{Own, follow_to}
use Rattle.laws_run.proofs.clock_ages.Renews.{renews}
use Rattle.laws_run.specs.home_headline.Little.{HomesLittle}
use Rattle.laws_run.specs.home_headline.Near.{KeepsUp}
use Rattle.laws_run.proofs.home_headline.Board.{Followed, boarded_by, here_by, homing_so, lines_of, timely_until}
use Rattle.laws_run.proofs.home_headline.Clear.{clear_set_ups}
use Rattle.laws_run.proofs.home_headline.Ranges.{may_all, on_small, range_all, starts_soon}
use Rattle.laws_run.proofs.home_headline.Soon.{home_soon}

module _ (m : Machine) (v : IsValidMachine m) (s : Scene) (ts : List MotionTurn) (p : Plans m (length m.boards) ts) (t : Told) (first : ReactorTurn) (rest : List ReactorTurn) (end : ReactorTurn) (c : Cause) (told : p.seen.told ≡ Some t) (f : Facts m s ts (first ∷ rest) end c)
    (short : HaveShortDictionaries m) where
  -- the boards
  turn : Ready m v s ts p t first rest end told
  turn = ready m v s ts p t first rest end told f.ahead f.words_left f.turns f.words

  whole : (b : ℕ) → b < length m.boards → IsInWhole m s.switches b (clock_of (board_at m b)) (link_of m s b) ts first (rest ++ end ∷ [])
  whole b h = f.boards b first rest h refl

  young : (b : ℕ) → b < length m.boards → StayYoung m b (clocks_at t.clocks b) (length rest)
  young b h = let size = length-append rest (end ∷ []) in let most = few m v s ts p end c first rest f in renews m v short s ts p t first rest end c told f (notes_before m v s ts p end c first rest f) (omega (arith, size, most)) b h

  lines : (b : ℕ) → b < length m.boards → Followed m b (length rest) t.clocks (length (came_from [] turn.past)) p.seen.begun
  lines b h = lines_of m v s ts p t first rest end told b (whole b h) turn h (young b h)

  row : AreInARow t.first p.seen.begun
  row = begun_row m t.clocks t.first p.seen.begun (started_in m ts p t told)

  sound : AreSound m t.clocks t.first
  sound = sound_of m v s ts p t first rest end told turn whole

  range : (b : ℕ) → b < length m.boards → StartInRange (clocks_at t.clocks b) p.seen.begun
  range b h =
      let l = lines b h in
      let early = turn.early in
      range_all m t.clocks (Own m b (length rest)) (clocks_at t.clocks b) (length (came_from [] turn.past)) t.first p.seen.begun l.tracked (on_small m b (length rest) (valid_at m.boards b h v.boards)) (omega (arith, early)) row l.over (starts_soon m (length m.boards) ts p)

  formed : MayHome m p.seen.begun
  formed = may_all m v ts p t told

  module _ (b : ℕ) (h : b < length m.boards) (w : IsInWhole m s.switches b (clock_of (board_at m b)) (link_of m s b) ts first (rest ++ end ∷ [])) where
    -- a board that holds little is timely
    pub timely_by : HomesLittle m s b ts first (rest ++ end ∷ []) (length p.made) t p.seen.begun w → IsTimelyIn m s b ts first (rest ++ end ∷ []) w
    timely_by little =
        timely_until m v s ts p t first rest end told (length p.made) f.ahead b f.words_left w turn h f.turns f.words (notes_before m v s ts p end c first rest f) (omega arith) (inr (omega arith)) (few m v s ts p end c first rest f) (lines b h) sound formed (range b h) little

    -- in a scene without entries a board takes the set-ups in time
    pub in_time : s.entries ≡ [] → AreOut (length p.made) (runs_on m t.clocks p.seen.begun b) → TakeSetUps m (pins_of (board_at m b) b s.switches) s.entries b p.seen.begun (turns_behind [] w.made)
    in_time clear out =
        let sent = homing_so m v s ts p t first rest end told (length p.made) f.ahead b f.words_left w turn h f.turns f.words (notes_before m v s ts p end c first rest f) (omega arith) (inr (omega arith)) (few m v s ts p end c first rest f) (lines b h) sound formed (range b h) in
        let early = turn.early in
        clear_set_ups m (pins_of (board_at m b) b s.switches) s.entries b (turns_behind [] w.made) clear w.turns_are (sent.limits out) t.first p.seen.begun (omega (arith, early)) row

  -- where each board keeps up
  module _ (keeps : (b : ℕ) → b < length m.boards → (w : IsInWhole m s.switches b (clock_of (board_at m b)) (link_of m s b) ts first (rest ++ end ∷ [])) → KeepsUp m s b ts first (rest ++ end ∷ []) p.seen.begun w) where
    on_stepper : (place : ℕ) (h : place < length m.steppers)
        → IsHomeStepper m t.clocks p.seen.begun (rest ++ end ∷ []) s.entries (length (came_from [] turn.past)) (length p.made) (length (rest ++ end ∷ [])) place
        (here_by m v s ts p t first rest end told (length p.made) (stepper_at m place).board (whole (stepper_at m place).board (v.steppers place h).board))
    on_stepper place h =
        let b = (stepper_at m place).board in
        let small = (v.steppers place h).board in
        let w = whole b small in
        record {
          there = h;
          board = refl;
          clocks_are = refl;
          is = boarded_by m v s ts p t first rest end told (length p.made) f.ahead b f.words_left w turn small f.turns f.words (notes_before m v s ts p end c first rest f) (omega arith) (inr (omega arith)) (few m v s ts p end c first rest f) (lines b small) sound formed (range b small) (keeps b small w);
          states = took b (rest ++ end ∷ []) _ w.states;
        }

    tells : TellTurns m p.seen.begun 0 (first ∷ (rest ++ end ∷ []))
    tells = all_lines m v s ts p end c first rest f

    pub follows : FollowHomes m t p.seen first (rest ++ end ∷ [])
    follows =
        let n = length (rest ++ end ∷ []) in
        let from_ready = length (came_from [] turn.past) in
        record {
          of_text = of_sections m ts p;
          lines = tells;
          fit = λ past x later from to place cut h w.
              home_fits m v t.clocks p.seen.begun (rest ++ end ∷ []) s.entries from_ready (length p.made) n from to place (here_by m v s ts p t first rest end told (length p.made) (stepper_at m place).board (whole (stepper_at m place).board (v.steppers place h).board)) past x later tells.1 cut (on_stepper place h) w;
          soon = λ past x later from to place cut h w.
              let b = (stepper_at m place).board in
              let small = (v.steppers place h).board in
              let Row : List Started → Type 0 = λ ss. AreInARow t.first ss in
              let late = (row_from t.first past x later (subst Row cut row)).0 in
              let begins = w.begins in
              let order = w.order in
              let within = w.within in
              let early = turn.early in
              let before = sound.clocks_are.before b small in
              let size = length-append rest (end ∷ []) in
              let k = follow_to m b (length rest) from_ready (clocks_at t.clocks b) (lines_renewed m v s ts p t first rest end told b turn (whole b small) small (young b small)) in
              home_soon m v p.seen.begun (rest ++ end ∷ []) s.entries from_ready (length p.made) n from to place (here_by m v s ts p t first rest end told (length p.made) b (whole b small)) t.clocks tells.1 (on_stepper place h) order within k.0
              (omega (arith, early, late, begins, order)) (let until = k.1 in omega (arith, until, within, size)) (sound.clocks_are.lasting b small (first_in_range m v s ts p t first rest end told b turn small)) (sound.clocks_are.freq b small)
              (omega (arith, before, late, begins, order));
          between = λ past later from to place cut h order within ended next.
              home_none m v t.clocks p.seen.begun (rest ++ end ∷ []) s.entries from_ready (length p.made) n from to place (here_by m v s ts p t first rest end told (length p.made) (stepper_at m place).board (whole (stepper_at m place).board (v.steppers place h).board)) past later tells.1 cut (on_stepper place h) order within ended next;
        }

pub run_follows : {F S : Type 0} (f : Files F) (o : Sink S) (m : Machine) (s : Scene) (name : List ℕ) (files files' : F) (out out' : S) (kept kept' : Kept) (t : near.Told Run) (r : RunsOver f o m s name files out kept t files' out' kept') → IsValidMachine m → HaveShortDictionaries m → (text : List ℕ)
    → f.told files name ≡ Some text → kept.at ≡ 0 → ∥ ((made : IsMade m s r.runs.0 r.runs.1) × (made.plans.seen.text ≡ text) × ((heard : Told) (first : ReactorTurn) (rest : List ReactorTurn) → (t.cause ≡ cause.Memory → ⊥) → r.runs.1 ≡ first ∷ rest
    → made.plans.seen.told ≡ Some heard
    → ((b : ℕ) → b < length m.boards → (w : IsInWhole m s.switches b (clock_of (board_at m b)) (link_of m s b) r.runs.0 first (rest ++ r.runs.2 ∷ [])) → KeepsUp m s b r.runs.0 first (rest ++ r.runs.2 ∷ []) made.plans.seen.begun w)
    → FollowHomes m heard made.plans.seen first (rest ++ r.runs.2 ∷ []))) ∥₁
run_follows f o m s name files files' out out' kept kept' t r v short text told at =
    ∥∥₁_map (run_made f o m s name files files' out out' kept kept' t r text told at) (λ w. (
      w.0,
      w.1,
      λ heard first rest other are heard_is keeps.
          let Of : List ReactorTurn → Type 0 = λ z. Facts m s r.runs.0 z r.runs.2 t.cause in
          follows m v s r.runs.0 w.0.plans heard first rest r.runs.2 t.cause heard_is (subst Of are (facts f o m s name files files' out out' kept kept' t r other)) short keeps,
    ))
