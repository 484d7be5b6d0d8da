-- What the lines of a whole run tell of a section of moves, where the board of the stepper ran on behind it.
use Rattle.std.proofs.Common.{◌≡◌, ◌⊎◌, ◌≢◌, ℕ, true, ◌+◌, ◌-◌, ◌<◌, ◌≤◌, List, [], ◌∷◌, ◌++◌, length, map, drop, take, None, Some, refl, ap, sym, ◌∙◌, subst, arith, inl, inr, length-append, rules}
use Rattle.laws_board.proofs.Names.{leb_tells, length-map, map-append, Cause, Machine, Planned, Pulse, SectionKind, Home, Moves, clock_of, IsValidMachine, board_at, stepper_at, clocks_at, stepper_plan, ShutNews, State, Scene, only, AreBefore, pins_of, Came, AreStarted, Started, Told, MotionTurn, ReactorTurn}
use Rattle.plan_types.specs.Sections.{is_home}
use Rattle.section_units.specs.Units.{sent}
use Rattle.host_reactor.specs.Report.{turned}
use Rattle.laws_board.specs.turns.Turns.{BoardTurn}
use Rattle.laws_board.specs.clocks.Runs.{IsInRun, orders_in}
use Rattle.laws_board.proofs.clocks.Orders.{order_length}
use Rattle.motion_work.specs.Seen.{IsMoved, IsPlanned, part_on}
use Rattle.session_run.specs.Boards.{came_from}
use Rattle.laws_board.specs.sections.Boards.{IsWindow, OnBoard, told_in}
use Rattle.laws_board.specs.sections.Homes.{IsHomeBoard, RunSection, lost_at}
use Rattle.laws_board.specs.sections.Links.{pulses_in}
use Rattle.laws_board.specs.sections.Stops.{NeverStop}
use Rattle.laws_board.proofs.orders.Going.{own_on}
use Rattle.laws_run.specs.lanes.Boards.{IsInWhole, turns_behind}
use Rattle.laws_run.specs.lanes.Turns.{came_before}
use Rattle.laws_board.specs.plans.Boards.{TookStates, as_told, lines_between, times_of}
use Rattle.laws_board.specs.plans.Homed.{stops_of}
use Rattle.laws_board.specs.plans.Lines.{TellTurns, TookNotes, pulses_of}
use Rattle.laws_board.specs.plans.Planned.{Plans}
use Rattle.laws_board.proofs.plans.Fitting.{between, plan_is}
use Rattle.laws_board.proofs.plans.Running.{started_in}
use Rattle.laws_run.specs.run_headline.Timely.{AreSound, link_of}
use Rattle.laws_run.proofs.run_headline.Boarded.{Ready, came_cut, ready, sound_of, took, valid_at}
use Rattle.laws_run.proofs.run_headline.Showing.{Facts, all_lines, few, long_or, notes_before}
use Rattle.laws_homing.specs.home_runs.Ended.{AreToldIn}
use Rattle.laws_board.specs.plans.Rows.{AreInARow}
use Rattle.laws_homing.specs.fired_runs.Since.{AreReadSo}
use Rattle.laws_homing.specs.home_parts.Answers.{ArePastConnecting, IsPlannedBy, MayHome, TakeSetUps}
use Rattle.laws_homing.specs.home_parts.Cuts.{AreOverBefore, cut_on, cuts_on, over_in}
use Rattle.laws_homing.specs.home_parts.Known.{KnowsLately, StartInRange}
use Rattle.laws_homing.proofs.home_parts.Told.{all_told}
use Rattle.laws_board.specs.causes.Short.{HaveShortDictionaries}
use Rattle.laws_run.proofs.clock_ages.Own.{Own}
use Rattle.laws_run.proofs.clock_ages.Renews.{renews}
use Rattle.laws_run.specs.home_headline.Near.{KeepsUp}
use Rattle.laws_run.proofs.home_headline.Board.{Followed, Homing, boarded_until, end_at, here_by, homing_so, lines_of, ups_so}
use Rattle.laws_run.proofs.home_headline.Clocks.{run_knows}
use Rattle.laws_run.proofs.home_headline.Planned.{planned_by}
use Rattle.laws_run.proofs.home_headline.Ranges.{may_all, on_small, range_all, starts_soon}
use Rattle.laws_run.specs.home_wholes.Still.{IsStillIn}
use Rattle.laws_run.proofs.home_wholes.Board.{idle_whole, passed_whole}
use Rattle.laws_run.proofs.home_wholes.Lost.{still_at}
use Rattle.laws_run.proofs.home_headline.Uncut.{cut_many, kept_before, kept_released, planned_at}
use Rattle.laws_board.proofs.plans.Rows.{Among, among_here, among_parts, begun_row, row_from, row_past}
use Rattle.laws_homing.proofs.home_parts.Lines.{next_behind}
use Rattle.plan_types.proofs.Facts.{none_is_some}

-- a section of moves ends 260 turns before the last one starts, where that homes
before_last : (ready : ℕ) (past : List Started) (x : Started) (later before : List Started) (y : Started) (axis : ℕ) → past ++ x ∷ later ≡ before ++ y ∷ [] → x.section.kind ≡ Moves → y.section.kind ≡ Home axis → AreInARow ready (before ++ y ∷ []) → x.end + 260 ≤ y.start
before_last ready past x later before y axis are moves home row =
    elim (among_parts x before y [] (subst (Among x) are (among_here past x later))) [
      | inl a ↦ (row_past ready x before y [] row a).1
      | inr a ↦ elim a [ inl e ↦ absurd (let f : Moves ≡ Home axis = sym moves ∙ ap (λ (z : Started). z.section.kind) e ∙ home in cc) | inr a ↦ absurd a ]
    ]

module _ (m : Machine) (v : IsValidMachine m) (s : Scene) (ts : List MotionTurn) (p : Plans m (length m.boards) ts) (t : Told) (first : ReactorTurn) (rest : List ReactorTurn) (end : ReactorTurn) (c : Cause) (told : p.seen.told ≡ Some t) (f : Facts m s ts (first ∷ rest) end c)
    (short : HaveShortDictionaries m) where
  pub notes : TookNotes (map (λ d. d.note) p.made) (first ∷ rest)
  notes = notes_before m v s ts p end c first rest f

  pub most : length (rest ++ end ∷ []) ≤ length p.made + 1
  most = few m v s ts p end c first rest f

  tells : TellTurns m p.seen.begun 0 (first ∷ (rest ++ end ∷ []))
  tells = all_lines m v s ts p end c first rest f

  -- the boards, as for the lines that follow the plans
  pub turn : Ready m v s ts p t first rest end told
  turn = ready m v s ts p t first rest end told f.ahead f.words_left f.turns f.words

  abbrev pub whole : (b : ℕ) → b < length m.boards → IsInWhole m s.switches b (clock_of (board_at m b)) (link_of m s b) ts first (rest ++ end ∷ [])
  whole b h = f.boards b first rest h refl

  abbrev pub N : ℕ
  N = length (rest ++ end ∷ [])

  -- the turns that the planner made
  abbrev pub Made : ℕ
  Made = length p.made

  abbrev pub By : ℕ
  By = length (came_from [] turn.past)

  abbrev pub Came_all : List Came
  Came_all = came_from [] (first ∷ rest)

  abbrev pub Turns_of : (b : ℕ) → b < length m.boards → List BoardTurn
  Turns_of b h = turns_behind [] (whole b h).made

  abbrev pub Here : (b : ℕ) → b < length m.boards → OnBoard
  Here b h = here_by m v s ts p t first rest end told Made b (whole b h)

  pub lines : (b : ℕ) → b < length m.boards → Followed m b (length rest) t.clocks By p.seen.begun
  lines b h = lines_of m v s ts p t first rest end told b (whole b h) turn h (let size = length-append rest (end ∷ []) in let l = most in renews m v short s ts p t first rest end c told f notes (omega (arith, size, l)) b h)

  pub row : AreInARow t.first p.seen.begun
  row = begun_row m t.clocks t.first p.seen.begun (started_in m ts p t told)

  pub sound : AreSound m t.clocks t.first
  sound = sound_of m v s ts p t first rest end told turn whole

  pub range : (b : ℕ) → b < length m.boards → StartInRange (clocks_at t.clocks b) p.seen.begun
  range b h =
      let l = lines b h in
      let early = turn.early in
      range_all m t.clocks (Own m b (length rest)) (clocks_at t.clocks b) By t.first p.seen.begun l.tracked (on_small m b (length rest) (valid_at m.boards b h v.boards)) (omega (arith, early)) row l.over (starts_soon m (length m.boards) ts p)

  pub formed : MayHome m p.seen.begun
  formed = may_all m v ts p t told

  pub run_of : (b : ℕ) (h : b < length m.boards) → IsInRun m s.switches (pins_of (board_at m b) b s.switches) s.entries b Came_all (Turns_of b h)
  run_of b h =
      let w = whole b h in
      let run_first : IsInRun m s.switches (pins_of (board_at m b) b s.switches) s.entries b (came_before [] (first ∷ rest ++ end ∷ [])) (Turns_of b h) = record { board = h; goes_on = w.goes_on; turns_are = w.turns_are; both = w.both; in_range = w.in_range } in
      let Run : List Came → Type 0 = λ c. IsInRun m s.switches (pins_of (board_at m b) b s.switches) s.entries b c (Turns_of b h) in
      subst Run (came_cut [] first rest end) run_first

  pub by : IsPlannedBy m s.switches (length m.boards) ts p Came_all
  by = let size = length-append rest (end ∷ []) in let l = most in planned_by m s.switches (length m.boards) f.ahead ts p first rest f.words_left f.turns f.words notes (omega (arith, l, size))

  -- the clock lines that the reactor knows
  pub knows : KnowsLately m s.switches t.clocks Came_all
  knows = (run_knows m v s ts p t first rest end told turn f.turns sound notes).0

  pub connected : ArePastConnecting m s.switches By Came_all
  connected = (run_knows m v s ts p t first rest end told turn f.turns sound notes).1

  pub took_states : (b : ℕ) (h : b < length m.boards) → TookStates b (rest ++ end ∷ []) (Here b h).states
  took_states b h = took b (rest ++ end ∷ []) (Here b h).states (whole b h).states

  pub homing_of : (b : ℕ) (h : b < length m.boards) → Homing m v s ts p t first rest end told Made b turn (Turns_of b h)
  homing_of b h = homing_so m v s ts p t first rest end told Made f.ahead b f.words_left (whole b h) turn h f.turns f.words notes (omega arith) (inr (omega arith)) most (lines b h) sound formed (range b h)

  -- where each board keeps up
  module _ (little : (b : ℕ) → b < length m.boards → (w : IsInWhole m s.switches b (clock_of (board_at m b)) (link_of m s b) ts first (rest ++ end ∷ [])) → KeepsUp m s b ts first (rest ++ end ∷ []) p.seen.begun w) where
    pub on_until : (b : ℕ) (h : b < length m.boards) → (k : IsHomeBoard b s.entries By N (cuts_on m t.clocks Made p.seen.begun b) (Here b h)) × (k.split.tail ≡ (homing_of b h).split.tail)
    unfolding homing_of
    on_until b h = boarded_until m v s ts p t first rest end told Made f.ahead b f.words_left (whole b h) turn h f.turns f.words notes (omega arith) (inr (omega arith)) most (lines b h) sound formed (range b h) (little b h (whole b h))

    pub on : (b : ℕ) (h : b < length m.boards) → IsHomeBoard b s.entries By N (cuts_on m t.clocks Made p.seen.begun b) (Here b h)
    on b h = (on_until b h).0

    pub count : (b : ℕ) (h : b < length m.boards) → length (Turns_of b h) ≡ length (rest ++ end ∷ [])
    count b h = let a = order_length (Turns_of b h) in let d = (on b h).count in omega (arith, a, d)

    -- the sections that home are told of
    pub set_ups : (b : ℕ) (h : b < length m.boards) → TakeSetUps m (pins_of (board_at m b) b s.switches) s.entries b p.seen.begun (Turns_of b h) ⊎ AreReadSo m s.switches b Came_all (Turns_of b h)
    set_ups b h = ups_so m v s ts p t first rest end told Made f.ahead b f.words_left (whole b h) turn h f.turns f.words notes (omega arith) (inr (omega arith)) most (lines b h) sound formed (range b h) (little b h (whole b h)).sets_up

    sections_told : (b : ℕ) (h : b < length m.boards) → AreToldIn m s.switches (pins_of (board_at m b) b s.switches) s.entries b (stops_of p.seen.begun) (cuts_on m t.clocks Made p.seen.begun b) (Turns_of b h)
    sections_told b h = all_told m s.switches (pins_of (board_at m b) b s.switches) s.entries b By Made ts p t Came_all (Turns_of b h) by told turn.early connected formed (run_of b h) (set_ups b h)

    -- a section of moves on a board
    module _ (past : List Started) (x : Started) (later : List Started) (cut : p.seen.begun ≡ past ++ x ∷ later) (moves : x.section.kind ≡ Moves) (from to : ℕ)
        (w : IsWindow (length (rest ++ end ∷ [])) from to (record { start = x.start; end = x.end }) (times_of later)) (over : x.end + 5 ≤ to) (b : ℕ) (h : b < length m.boards) where
      abbrev Cut : RunSection
      Cut = cut_on m t.clocks Made b x

      home_until : (k : IsHomeBoard b s.entries By N (cuts_on m t.clocks Made past b ++ Cut ∷ cuts_on m t.clocks Made later b) (Here b h)) × (k.split.tail ≡ (homing_of b h).split.tail)
      home_until =
          let Home : List RunSection → Type 0 = λ ss. (k : IsHomeBoard b s.entries By N ss (Here b h)) × (k.split.tail ≡ (homing_of b h).split.tail) in
          subst Home (ap (map (cut_on m t.clocks Made b)) cut ∙ map-append (cut_on m t.clocks Made b) past (x ∷ later)) (on_until b h)

      home : IsHomeBoard b s.entries By N (cuts_on m t.clocks Made past b ++ Cut ∷ cuts_on m t.clocks Made later b) (Here b h)
      home = home_until.0

      starts : (t.first ≤ x.start) × (x.start ≤ x.end)
      starts = let Row : List Started → Type 0 = λ ss. AreInARow t.first ss in row_from t.first past x later (subst Row cut row)

      far : 260 ≤ t.first
      far = let early = turn.early in omega (arith, early)

      still : Cut.section.start ≤ lost_at N home.split.tail → IsStillIn b s.entries Cut.section (Here b h)
      unfolding home
      still soon =
          let size = count b h in
          let order = w.order in
          let within = w.within in
          let begins = w.begins in
          let k = on b h in
          let same : lost_at N home.split.tail ≡ lost_at (length (orders_in (Turns_of b h))) (homing_of b h).split.tail = ap (lost_at N) home_until.1 ∙ ap (λ (i : ℕ). lost_at i (homing_of b h).split.tail) (sym k.count) in
          let y = Here b h in
          let g = homing_of b h in
          still_at m v s.switches (pins_of (board_at m b) b s.switches) s.entries b (board_at m b).freq (board_at m b).slots By t.first Made (Own m b (length rest)) y.clocks t.clocks p.seen.begun Came_all (Turns_of b h) g.home g.split (sections_told b h) (run_of b h) by.notes far row
          past x later cut moves (omega (arith, size, order, within, begins)) (omega (arith, soon, same)) y.sections Cut.section.plan Cut.section.releases y.states

      moved : IsMoved m t.clocks x
      moved = search (rules, planned_at, started_in)

      -- it was over long before the planner's last turn, where the planner's turns are not all: then the last section homes
      made_over : (x.end + 5 < Made) ⊎ (N ≤ Made)
      made_over =
          elim (long_or m v s ts p end c first rest f) [
            | inl l ↦ inr (omega (arith, l))
            | inr z ↦ elim z.0 [
              | inl none ↦ absurd (none_is_some (sym none ∙ told))
              | inr last ↦ (let far = before_last t.first past x later last.past last.s last.axis (sym cut ∙ last.are) moves last.home (let Row : List Started → Type 0 = λ ss. AreInARow t.first ss in subst Row last.are row) in let late = last.by in inl (omega (arith, far, late)))
            ]
          ]

      -- where all that is left of it is released soon, all of it is, and its plan is not cut
      released_all : x.end + 5 < Made → AreBefore (x.end + 5) Cut.section.releases → AreBefore (x.end + 5) (part_on m t.clocks x b).releases
      released_all far_made kept =
          let l = lines b h in
          let early = turn.early in
          let start = starts.0 in
          let Ends : List Started → Type 0 = λ ss. AreOverBefore m t.clocks l.tracked.until ss in
          kept_released m (Own m b (length rest)) t.clocks b By Made x (own_on (board_at m b) 0 (length rest + 349) (valid_at m.boards b h v.boards) (omega arith)).ticks l.tracked moved h (omega (arith, early, start))
          (subst (λ (k : SectionKind). over_in k m t.clocks x < l.tracked.until) moves (end_at m t.clocks l.tracked.until past x later (subst Ends cut l.over))) far_made kept

      as_planned : x.end + 5 ≤ Made → AreBefore (x.end + 5) (part_on m t.clocks x b).releases → (oid : ℕ) → length (Cut.section.plan oid) ≡ length ((part_on m t.clocks x b).plan oid)
      as_planned upto released oid = cut_many m t.clocks b Made x moved h released upto oid

      whole_by : AreBefore (x.end + 5) Cut.section.releases → (x.end + 5 < Made) ⊎ ((x.end + 5 ≤ Made) × AreBefore (x.end + 5) (part_on m t.clocks x b).releases) → (oid : ℕ) → length (Cut.section.plan oid) ≡ length ((part_on m t.clocks x b).plan oid)
      whole_by kept (inl far_made) oid = as_planned (omega (arith, far_made)) (released_all far_made kept) oid
      whole_by kept (inr y) oid = as_planned y.0 y.1 oid

      -- the link was idle in a turn, by which all units were put, and the board wasn't stopped
      pub idle_many : (n : ℕ) (states others : List State) (last : State) → AreBefore n (part_on m t.clocks x b).releases → to ≤ n → n ≤ length (rest ++ end ∷ []) → (Here b h).states ≡ (states ++ last ∷ []) ++ others → length (states ++ last ∷ []) ≡ n
          → NeverStop (take n (orders_in (Turns_of b h)))
          → ((z : ShutNews) → last.shut ≡ Some z → z.reason ≡ 1 → ⊥) → last.idle ≡ true → (oid : ℕ) → length (only oid (told_in from to (Here b h))) ≡ length ((part_on m t.clocks x b).plan oid)
      idle_many n states others last put reach upto are size never in_time idle oid =
          let part = (part_on m t.clocks x b).releases in
          let soon : (x.end + 5 < n) ⊎ AreBefore (x.end + 5) part = elim (leb_tells (x.end + 5 + 1) n) [
            | inl q ↦ (let late = q.1 in inl (omega (arith, late)))
            | inr q ↦ (let low = q.1 in let same : n ≡ x.end + 5 = omega (arith, low, over, reach) in inr (subst (λ (k : ℕ). AreBefore k part) same put))
          ] in
          let known : (x.end + 5 < n) ⊎ AreBefore (x.end + 5) Cut.section.releases = elim soon [ inl late ↦ inl late | inr all ↦ inr (kept_before (x.end + 5) Made part all) ] in
          let both = idle_whole b s.entries By N from to (Here b h) (cuts_on m t.clocks Made past b) Cut (cuts_on m t.clocks Made later b) home (ap is_home moves) w.begins w.order (next_behind m t.clocks Made b to later w.next) over still
          n states others last reach upto known are size never in_time idle in
          let made : (x.end + 5 < Made) ⊎ ((x.end + 5 ≤ Made) × AreBefore (x.end + 5) part) = elim made_over [
            | inl far_made ↦ inl far_made
            | inr l ↦ elim soon [ inl late ↦ inl (omega (arith, late, upto, l)) | inr all ↦ inr (omega (arith, over, reach, upto, l), all) ]
          ] in
          both.1 oid ∙ whole_by both.0 made oid

      -- or it told any pulse behind them
      pub passed_many : told_in to (length (rest ++ end ∷ [])) (Here b h) ≢ [] → (oid : ℕ) → length (only oid (told_in from to (Here b h))) ≡ length ((part_on m t.clocks x b).plan oid)
      passed_many some oid =
          let both = passed_whole b s.entries By N from to (Here b h) (cuts_on m t.clocks Made past b) Cut (cuts_on m t.clocks Made later b) home (ap is_home moves) w.begins w.order (next_behind m t.clocks Made b to later w.next) over still some in
          let made : x.end + 5 < Made = elim made_over [
            | inl far_made ↦ far_made
            | inr l ↦ elim (leb_tells (to + 1) N) [
              | inl q ↦ (let low = q.1 in omega (arith, over, low, l))
              | inr q ↦ (let high = q.1 in let none : N - to ≡ 0 = omega (arith, high) in absurd (some (ap (λ (k : ℕ). pulses_in (take k (drop to (Here b h).states))) none)))
            ]
          ] in
          both.1 oid ∙ whole_by both.0 (inl made) oid

    -- as many pulses in the report as planned steps
    pub as_told_by : (x : Started) (from to place : ℕ) (h : place < length m.steppers)
        → length (only (stepper_at m place).oid (told_in from to (Here (stepper_at m place).board (v.steppers place h).board))) ≡ length ((part_on m t.clocks x (stepper_at m place).board).plan (stepper_at m place).oid)
        → length (pulses_of place (lines_between from to (rest ++ end ∷ []))) ≡ length (stepper_plan m t.clocks x.section.moves x.start place)
    as_told_by x from to place h whole =
        let b = (stepper_at m place).board in
        let low = (v.steppers place h).board in
        let o = (stepper_at m place).oid in
        let plan = stepper_plan m t.clocks x.section.moves x.start place in
        ap length (between m v place from to p.seen.begun (rest ++ end ∷ []) (Here b low) h tells.1 (took_states b low))
        ∙ length-map (only o (told_in from to (Here b low))) (λ (q : Pulse). record { tick = q.tick; stepper = place; up = turned (stepper_at m place).inverted q.up }) ∙ whole
        ∙ ap length (plan_is m v t.clocks x.section.moves x.start place h) ∙ length-map plan (λ (q : Planned). record { tick = q.tick; up = sent (stepper_at m place).inverted q.up })

    -- a pulse that is told of a stepper is its board's
    pub passed_told : (past : List Started) (x : Started) (later : List Started) (from to place other : ℕ) → p.seen.begun ≡ past ++ x ∷ later → x.section.kind ≡ Moves → (h : place < length m.steppers) → other < length m.steppers
        → (stepper_at m other).board ≡ (stepper_at m place).board → IsWindow (length (rest ++ end ∷ [])) from to (record { start = x.start; end = x.end }) (times_of later) → x.end + 5 ≤ to
        → pulses_of other (lines_between to (length (rest ++ end ∷ [])) (rest ++ end ∷ [])) ≢ []
        → length (pulses_of place (lines_between from to (rest ++ end ∷ []))) ≡ length (stepper_plan m t.clocks x.section.moves x.start place)
    passed_told past x later from to place other cut moves h k same w over some =
        let b = (stepper_at m place).board in
        let low = (v.steppers place h).board in
        let n = length (rest ++ end ∷ []) in
        let Took : ℕ → Type 0 = λ i. TookStates i (rest ++ end ∷ []) (Here b low).states in
        let states = subst Took (sym same) (took_states b low) in
        as_told_by x from to place h (passed_many past x later cut moves from to w over b low
        (λ none. some (between m v other to n p.seen.begun (rest ++ end ∷ []) (Here b low) k tells.1 states ∙ ap (λ y. as_told m other (only (stepper_at m other).oid y)) none)) (stepper_at m place).oid)
