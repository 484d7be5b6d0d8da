-- Each board of a whole run in which axes home, as the law of its lines asks for it.
use Rattle.std.proofs.Common.{◌≡◌, ℕ, ◌+◌, ◌-◌, ◌*◌, ◌<◌, ◌≤◌, ◌⊎◌, List, [], ◌∷◌, ◌++◌, All, map, take, length, Some, refl, ap, sym, ◌∙◌, subst, arith, inl, inr, length-append}
use Rattle.laws_board.proofs.Names.{All-cons, All-nil, BoardClock, Machine, board_tick, clock_of, turn_ns, Clocks, lines_tick, IsValidMachine, board_at, stepper_at, clocks_at, State, WordMsg, Scene, AllKeepLimits, pins_of, LinkState, Orders, Came, parts_on, Started, Told, MotionTurn, ReactorTurn, gather, new_world}
use Rattle.link_work.specs.Ends.{spoiled}
use Rattle.laws_board.specs.turns.Turns.{AreBoardTurns, BoardTurn, stands_after}
use Rattle.laws_board.specs.clocks.Runs.{IsInRun, UnitsFit, orders_in}
use Rattle.laws_board.proofs.clocks.Lines.{as_long}
use Rattle.laws_board.proofs.clocks.Orders.{order_length}
use Rattle.session_work.specs.Leads.{last_words}
use Rattle.session_run.specs.Boards.{AreReactorTurns, came_from, came_in}
use Rattle.laws_board.specs.sections.Boards.{OnBoard}
use Rattle.laws_board.specs.sections.Courses.{AllHeed}
use Rattle.laws_board.specs.sections.Homes.{AreOut, AreSoon, HasUnits, IsHomeBoard, IsHomeRun, IsSplitIn, RunSection, SetsAny, lost_at}
use Rattle.laws_board.specs.sections.Links.{AreTold, ends_of, steps_of, turns_told}
use Rattle.laws_board.specs.sections.Timely.{AllTimely, ControlsKeep}
use Rattle.laws_board.specs.sections.Parts.{AreTracked, MakesIn}
use Rattle.laws_board.specs.sections.Runs.{AreSpilled}
use Rattle.laws_board.proofs.sections.Calm.{calm_links}
use Rattle.laws_board.proofs.sections.HomeAll.{run_split}
use Rattle.laws_board.proofs.sections.HomeCut.{front_queued}
use Rattle.laws_board.proofs.sections.HomeHeeding.{home_timely}
use Rattle.laws_board.proofs.sections.HomeLimits.{released_soon}
use Rattle.laws_board.proofs.sections.Spoiled.{ten_seconds}
use Rattle.laws_board.proofs.sections.Released.{out_before, spilled_before}
use Rattle.laws_board.proofs.orders.Going.{own_on}
use Rattle.laws_run.specs.lanes.Boards.{IsInWhole, turns_behind, orders_of, states_of}
use Rattle.laws_board.specs.plans.Given.{TookBatches}
use Rattle.laws_board.specs.plans.Homed.{runs_on, stops_of}
use Rattle.laws_board.specs.plans.Lines.{TookNotes}
use Rattle.laws_board.specs.plans.Planned.{Plans}
use Rattle.laws_board.proofs.plans.Running.{started_in}
use Rattle.laws_run.specs.run_headline.Timely.{AreSound, IsTimelyIn, link_of}
use Rattle.laws_run.proofs.run_headline.Boarded.{Ready, came_cut, lines_renewed, ready, run_of, valid_at}
use Rattle.laws_run.proofs.run_headline.Fronts.{controls_limited, front_of, limited, one_less, stepper_made}
use Rattle.laws_run.proofs.run_headline.Showing.{came_long}
use Rattle.laws_homing.specs.home_runs.Ended.{AreToldIn}
use Rattle.laws_homing.proofs.home_runs.Along.{all_settled}
use Rattle.laws_homing.proofs.home_runs.Homed.{all_homed, home_board}
use Rattle.laws_homing.specs.home_plans.Notes.{CameNotes}
use Rattle.laws_board.specs.plans.Rows.{AreInARow}
use Rattle.laws_homing.specs.home_parts.Answers.{ArePastConnecting, IsPlannedBy, MayHome, TakeSetUps}
use Rattle.laws_homing.specs.home_parts.Cuts.{AreOverBefore, cut_on, cuts_on, over_in}
use Rattle.laws_homing.specs.home_parts.Known.{KnowsLately, StartInRange}
use Rattle.laws_homing.proofs.home_parts.Controls.{hold_all, took_all}
use Rattle.laws_homing.proofs.home_parts.Cut.{cuts_spilled, home_run, cuts_soon, over_late}
use Rattle.laws_homing.proofs.home_parts.Limits.{turns_fit}
use Rattle.laws_homing.proofs.home_parts.Movers.{all_movers}
use Rattle.laws_homing.proofs.home_parts.Set.{all_set}
use Rattle.laws_homing.specs.fired_runs.Since.{AllReadTrue, AreReadSo}
use Rattle.laws_homing.proofs.home_parts.Apart.{so_begun}
use Rattle.laws_homing.proofs.home_parts.Told.{all_told}
use Rattle.laws_board.proofs.plans.Rows.{begun_row, row_from}
use Rattle.laws_run.specs.clock_ages.Renewed.{StayYoung}
use Rattle.laws_run.proofs.clock_ages.Own.{AreRenewed, Own, follow_on}
use Rattle.laws_run.specs.home_headline.Little.{HomesLittle}
use Rattle.laws_run.specs.home_headline.Near.{KeepsUp, SetsUp}
use Rattle.laws_run.proofs.home_headline.Clocks.{run_knows}
use Rattle.laws_run.proofs.home_headline.Made.{IsOwn, set_own, units_own}
use Rattle.laws_run.proofs.home_headline.Planned.{planned_by}
use Rattle.laws_run.proofs.home_wholes.Lost.{board_heeds}

-- the sections start behind connecting
late_all : (m : Machine) (clocks : List Clocks) (until b ready at : ℕ) (begun : List Started) → ready + 260 ≤ at → AreInARow at begun → All (λ s. ready + 260 ≤ s.section.start) (cuts_on m clocks until begun b)
late_all m clocks until b ready at [] early row = All-nil (λ (s : RunSection). ready + 260 ≤ s.section.start)
late_all m clocks until b ready at (s ∷ begun) early row =
    let start = row.0 in
    let order = row.1 in
    All-cons (λ (x : RunSection). ready + 260 ≤ x.section.start) (cut_on m clocks until b s) (cuts_on m clocks until begun b) (omega (arith, early, start)) (late_all m clocks until b ready (s.end + 260) begun (omega (arith, early, start, order)) row.2)

-- a turn behind those in which they all are over
abbrev Total : Machine → List Clocks → List Started → ℕ
Total m clocks [] = 0
Total m clocks (s ∷ begun) = over_in s.section.kind m clocks s + 1 + Total m clocks begun

plans_before : (m : Machine) (clocks : List Clocks) (begun : List Started) (n : ℕ) → AreOverBefore m clocks (n + Total m clocks begun) begun
plans_before m clocks [] n = tt
plans_before m clocks (s ∷ begun) n =
    let end = over_in s.section.kind m clocks s in
    let e : n + (end + 1) + Total m clocks begun ≡ n + (end + 1 + Total m clocks begun) = omega arith in
    (omega arith, subst (λ (k : ℕ). AreOverBefore m clocks k begun) e (plans_before m clocks begun (n + (end + 1))))

pub record Followed (m : Machine) (b turns : ℕ) (clocks : List Clocks) (ready : ℕ) (begun : List Started) : Type 0 where
  pub tracked : AreTracked (Own m b turns) (clocks_at clocks b) ready
  pub over : AreOverBefore m clocks tracked.until begun

followed : (m : Machine) (b turns ready : ℕ) (clocks : List Clocks) (begun : List Started) → AreRenewed m b turns ready (clocks_at clocks b) → Followed m b turns clocks ready begun
followed m b turns ready clocks begun r =
    let Until : ℕ → Type 0 = λ n. AreOverBefore m clocks n begun in
    let y = follow_on m b turns ready (0 + Total m clocks begun) (clocks_at clocks b) r in
    record { tracked = y.0; over = subst Until (sym y.1) (plans_before m clocks begun 0) }

-- a board in turns that its link told of
module _ (m : Machine) (v : IsValidMachine m) (s : Scene) (b ready until lasts : ℕ) (ts : List MotionTurn) (p : Plans m (length m.boards) ts) (t : Told) (turns : List BoardTurn) (states : List State) (end : LinkState) (small : b < length m.boards)
    (are : AreBoardTurns (clock_of (board_at m b)) (link_of m s b) turns) (upto : length turns ≤ lasts + 349)
    (run : IsHomeRun (Own m b lasts) (clocks_at t.clocks b) (board_at m b).freq (board_at m b).slots ready (stops_of p.seen.begun) (cuts_on m t.clocks until p.seen.begun b) (orders_in turns))
    (split : IsSplitIn (Own m b lasts) (stops_of p.seen.begun) (board_at m b).slots (cuts_on m t.clocks until p.seen.begun b) (orders_in turns))
    (controls : (done : List Orders) (o : Orders) (more : List Orders) → orders_in turns ≡ done ++ (o ∷ more) → ControlsKeep done)
    (sections : AreToldIn m s.switches (pins_of (board_at m b) b s.switches) s.entries b (stops_of p.seen.begun) (cuts_on m t.clocks until p.seen.begun b) turns)
    (came : List Came) (in_run : IsInRun m s.switches (pins_of (board_at m b) b s.switches) s.entries b came turns) (notes : CameNotes p.seen.begun came) (far : 260 ≤ t.first) (row : AreInARow t.first p.seen.begun) where
  abbrev Clock : BoardClock
  Clock = clock_of (board_at m b)

  abbrev Few : ℕ → (os : List Orders) → AreTold Clock 0 os states (link_of m s b) end → Type 0
  Few late os told = (k : ℕ) → spoiled (take k (ends_of Clock 0 os (link_of m s b) end (turns_told Clock 0 os states (link_of m s b) end told))) ≤ 10_700 - late

  -- few of the turns were spoiled, and no unit is sent too late
  abbrev Little : (os : List Orders) → AreTold Clock 0 os states (link_of m s b) end → Type 0
  Little os told =
      (late : ℕ) × (late ≤ 10_700) × AreSpilled (length (orders_in turns)) late (map (λ x. x.section) (cuts_on m t.clocks until p.seen.begun b)) × Few late os told

  -- no unit is taken late
  abbrev Timely : (os : List Orders) → AreTold Clock 0 os states (link_of m s b) end → Type 0
  Timely os told = AllTimely (new_world (board_at m b) (pins_of (board_at m b) b s.switches)) (steps_of Clock 0 os (link_of m s b) end (turns_told Clock 0 os states (link_of m s b) end told))

  abbrev Result : Type 0
  Result = (k : IsHomeBoard b s.entries ready (length turns) (cuts_on m t.clocks until p.seen.begun b) (record {
    board = board_at m b;
    pins = pins_of (board_at m b) b s.switches;
    clocks = clocks_at t.clocks b;
    sections = map (λ (x : RunSection). x.section) (cuts_on m t.clocks until p.seen.begun b);
    orders = orders_in turns;
    states = states;
  })) × (k.split.tail ≡ split.tail)

  heeds : (told : AreTold Clock 0 (orders_in turns) states (link_of m s b) end)
      → AllHeed split.front split.tail (new_world (board_at m b) (pins_of (board_at m b) b s.switches)) (steps_of Clock 0 (orders_in turns) (link_of m s b) end (turns_told Clock 0 (orders_in turns) states (link_of m s b) end told))
  heeds told =
      let def = board_at m b in
      board_heeds m v s.switches (pins_of def b s.switches) s.entries b def.freq def.slots ready t.first until (Own m b lasts) (clocks_at t.clocks b) t.clocks p.seen.begun came turns run split sections in_run notes far row end (turns_told Clock 0 (orders_in turns) states (link_of m s b) end told)

  timely_here : (told : AreTold Clock 0 (orders_in turns) states (link_of m s b) end) → Little (orders_in turns) told → Timely (orders_in turns) told
  timely_here told (late, most, spills, few) =
      let def = board_at m b in
      let pins = pins_of def b s.switches in
      let ss = cuts_on m t.clocks until p.seen.begun b in
      let valid = valid_at m.boards b small v.boards in
      let link = turns_told Clock 0 (orders_in turns) states (link_of m s b) end told in
      let homed = all_homed m s.switches pins s.entries b def.freq def.slots ready (Own m b lasts) (clocks_at t.clocks b) (stops_of p.seen.begun) ss turns run split sections in
      let settled = all_settled m s.switches pins s.entries b (lost_at (length (orders_in turns)) split.tail) split.front split.tail turns (stops_of p.seen.begun) end link v are
      (front_queued (orders_in turns) split.front split.tail split.are) split.are homed in
      let own = own_on def (length (orders_in turns)) (lasts + 349) valid (let size = order_length turns in omega (arith, size, upto)) in
      home_timely def pins b s.entries (Own m b lasts) (clocks_at t.clocks b) ready (10_700 - late) late (length (orders_in turns)) (stops_of p.seen.begun) ss (orders_in turns) end link own run split settled (heeds told)
      spills (omega arith) controls few (ten_seconds def (length (orders_in turns)) (Own m b lasts) (10_700 - late) late own (omega (arith, most)))

  home_here : (told : AreTold Clock 0 (orders_in turns) states (link_of m s b) end) → Timely (orders_in turns) told → Result
  unfolding home_board
  home_here told timely = (
    home_board m s.switches (pins_of (board_at m b) b s.switches) s.entries b ready (Own m b lasts) (clocks_at t.clocks b) (stops_of p.seen.begun) (cuts_on m t.clocks until p.seen.begun b) turns states end told v small are
        (own_on (board_at m b) (length turns) (lasts + 349) (valid_at m.boards b small v.boards) upto) run split timely (heeds told) sections,
    refl,
  )

  timely_by : (os : List Orders) → orders_in turns ≡ os → (told : AreTold Clock 0 os states (link_of m s b) end) → Little os told → Timely os told
  timely_by os same told little =
      let At : List Orders → Type 0 = λ z. (x : AreTold Clock 0 z states (link_of m s b) end) → Little z x → Timely z x in
      subst At same timely_here told little

  home_by : (os : List Orders) → orders_in turns ≡ os → (told : AreTold Clock 0 os states (link_of m s b) end) → Timely os told → Result
  home_by os same told timely =
      let At : List Orders → Type 0 = λ z. (x : AreTold Clock 0 z states (link_of m s b) end) → Timely z x → Result in
      subst At same home_here told timely

pub end_at : (m : Machine) (clocks : List Clocks) (until : ℕ) (xs : List Started) (x : Started) (later : List Started) → AreOverBefore m clocks until (xs ++ x ∷ later) → over_in x.section.kind m clocks x < until
end_at m clocks until [] x later h = h.0
end_at m clocks until (y ∷ xs) x later h = end_at m clocks until xs x later h.1

-- as a homing section starts the board is no more than a turn ahead of its lines
pub starts_behind : (m : Machine) (v : IsValidMachine m) (b turns ready first : ℕ) (clocks : List Clocks) (begun : List Started) → b < length m.boards → Followed m b turns clocks ready begun → AreInARow first begun → ready + 260 ≤ first
    → (past : List Started) (x : Started) (later : List Started) → begun ≡ past ++ x ∷ later → x.start ≤ turns + 1 → board_tick (clock_of (board_at m b)) (x.start - 1) ≤ lines_tick (clocks_at clocks b) (x.start * turn_ns)
starts_behind m v b turns ready first clocks begun there l row early past x later cut within =
    let Row : List Started → Type 0 = λ z. AreInARow first z in
    let Ends : List Started → Type 0 = λ z. AreOverBefore m clocks l.tracked.until z in
    let at = row_from first past x later (subst Row cut row) in
    let start = at.0 in
    let over = end_at m clocks l.tracked.until past x later (subst Ends cut l.over) in
    let after = over_late x.section.kind m clocks x at.1 in
    let next : x.start - 1 + 1 ≡ x.start = omega (arith, early, start) in
    let upto = own_on (board_at m b) (turns + 349) (turns + 349) (valid_at m.boards b there v.boards) (omega arith) in
    let same = upto.same (x.start - 1) (omega (arith, within)) in
    let behind_so = l.tracked.behind (x.start - 1) (omega (arith, early, start)) (omega (arith, over, after)) in
    subst (λ (n : ℕ). board_tick (clock_of (board_at m b)) (x.start - 1) ≤ lines_tick (clocks_at clocks b) (n * turn_ns)) next (omega (arith, same, behind_so))

-- Homing sections are told of: where the board takes the set-ups in time, or where its reports are read true.
pub told_by : (m : Machine) (v : IsValidMachine m) (s : Scene) (ts : List MotionTurn) (p : Plans m (length m.boards) ts) (t : Told) (b turns ready : ℕ) (whole : List Came) (made : List BoardTurn) → b < length m.boards → Followed m b turns t.clocks ready p.seen.begun
    → ready + 260 ≤ t.first → AreInARow t.first p.seen.begun → IsPlannedBy m s.switches (length m.boards) ts p whole → KnowsLately m s.switches t.clocks whole → ArePastConnecting m s.switches ready whole → length whole ≤ turns + 1
    → TakeSetUps m (pins_of (board_at m b) b s.switches) s.entries b p.seen.begun made ⊎ AllReadTrue m s.switches b whole made
    → TakeSetUps m (pins_of (board_at m b) b s.switches) s.entries b p.seen.begun made ⊎ AreReadSo m s.switches b whole made
told_by m v s ts p t b turns ready whole made there l early row by knows connected long (inl takes) = inl takes
told_by m v s ts p t b turns ready whole made there l early row by knows connected long (inr reads) =
    let so = so_begun m s.switches b ts p ready t.first t.clocks whole early row by connected l.tracked.kept knows
    (λ past x later axis cut home low. starts_behind m v b turns ready t.first t.clocks p.seen.begun there l row early past x later cut (omega (arith, low, long))) in
    inr (record { apart = so.0; reads = reads; behind = so.1 })

module _ (m : Machine) (v : IsValidMachine m) (s : Scene) (ts : List MotionTurn) (p : Plans m (length m.boards) ts) (t : Told) (first : ReactorTurn) (rest : List ReactorTurn) (end : ReactorTurn) (told : p.seen.told ≡ Some t) where
  -- what came to a board, and what it told, with its sections as far as their units are released before a turn
  abbrev pub here_by : (until b : ℕ) → IsInWhole m s.switches b (clock_of (board_at m b)) (link_of m s b) ts first (rest ++ end ∷ []) → OnBoard
  here_by until b w = record {
    board = board_at m b;
    pins = pins_of (board_at m b) b s.switches;
    clocks = clocks_at t.clocks b;
    sections = map (λ (x : RunSection). x.section) (cuts_on m t.clocks until p.seen.begun b);
    orders = orders_in (turns_behind [] w.made);
    states = states_of w.made;
  }

  -- so before the run's last turn
  abbrev pub here : (b : ℕ) → IsInWhole m s.switches b (clock_of (board_at m b)) (link_of m s b) ts first (rest ++ end ∷ []) → OnBoard
  here b w = here_by (length (rest ++ end ∷ [])) b w

  -- its clock lines follow it
  pub lines_of : (b : ℕ) (w : IsInWhole m s.switches b (clock_of (board_at m b)) (link_of m s b) ts first (rest ++ end ∷ [])) (r : Ready m v s ts p t first rest end told) → b < length m.boards → StayYoung m b (clocks_at t.clocks b) (length rest)
      → Followed m b (length rest) t.clocks (length (came_from [] r.past)) p.seen.begun
  lines_of b w r h renewed = followed m b (length rest) (length (came_from [] r.past)) t.clocks p.seen.begun (lines_renewed m v s ts p t first rest end told b r w h renewed)

  -- what a board was sent in a run in which axes home, of the sections as far as their units are released before a turn
  pub record Homing (until b : ℕ) (r : Ready m v s ts p t first rest end told) (turns : List BoardTurn) : Type 0 where
    pub by : IsPlannedBy m s.switches (length m.boards) ts p (came_from [] (first ∷ rest))
    pub known : KnowsLately m s.switches t.clocks (came_from [] (first ∷ rest)) × ArePastConnecting m s.switches (length (came_from [] r.past)) (came_from [] (first ∷ rest))
    pub run : IsInRun m s.switches (pins_of (board_at m b) b s.switches) s.entries b (came_from [] (first ∷ rest)) turns
    pub count : length (orders_in turns) ≡ length (rest ++ end ∷ [])
    pub home : IsHomeRun (Own m b (length rest)) (clocks_at t.clocks b) (board_at m b).freq (board_at m b).slots (length (came_from [] r.past)) (stops_of p.seen.begun)
        (cuts_on m t.clocks until p.seen.begun b) (orders_in turns)
    pub split : IsSplitIn (Own m b (length rest)) (stops_of p.seen.begun) (board_at m b).slots (cuts_on m t.clocks until p.seen.begun b) (orders_in turns)
    pub controls : (done : List Orders) (o : Orders) (more : List Orders) → orders_in turns ≡ done ++ (o ∷ more) → ControlsKeep done
    pub soon : AreOut (length p.made) (runs_on m t.clocks p.seen.begun b) → (n : ℕ) → AreSoon n (cuts_on m t.clocks until p.seen.begun b)
    pub fits : AreOut (length p.made) (runs_on m t.clocks p.seen.begun b) → UnitsFit turns
    pub limits : AreOut (length p.made) (runs_on m t.clocks p.seen.begun b) → (done : List Orders) (o : Orders) (more : List Orders) → orders_in turns ≡ done ++ (o ∷ more) → AllKeepLimits done

  -- a turn up to which the planner made all turns of the run, and behind it none
  module _ (until n b : ℕ) (left : List WordMsg) (w : IsInWhole m s.switches b (clock_of (board_at m b)) (link_of m s b) ts first (rest ++ end ∷ [])) (r : Ready m v s ts p t first rest end told) (h : b < length m.boards) (turns_are : AreReactorTurns m s.switches [] (first ∷ rest))
      (words : gather (λ x. x.word ∷ []) (first ∷ rest) ++ last_words (length (first ∷ rest)) n ≡ gather (λ x. x.words) ts ++ left) (notes : TookNotes (map (λ d. d.note) p.made) (first ∷ rest)) (low : until ≤ length p.made)
      (far : (length (rest ++ end ∷ []) ≤ until) ⊎ (length p.made ≤ until)) (few : length (rest ++ end ∷ []) ≤ length p.made + 1)
      (lines : Followed m b (length rest) t.clocks (length (came_from [] r.past)) p.seen.begun) (sound : AreSound m t.clocks t.first) (formed : MayHome m p.seen.begun) (range : StartInRange (clocks_at t.clocks b) p.seen.begun) where
    -- what the board was sent
    pub homing_so : Homing until b r (turns_behind [] w.made)
    homing_so =
        let pins = pins_of (board_at m b) b s.switches in
        let turns = turns_behind [] w.made in
        let valid = valid_at m.boards b h v.boards in
        let before = came_from [] r.past in
        let whole = came_from [] (first ∷ rest) in
        let Run : List Came → Type 0 = λ c. IsInRun m s.switches pins s.entries b c turns in
        let run = run_of m v s ts p t first rest end told b w h in
        let f = front_of m v s.switches pins s.entries b (came_in r.turn ∷ before) r.later turns (subst Run r.came_is run) in
        let l = one_less m v s.switches pins s.entries b (came_in r.turn) before f.front f.run in
        let same_long : length before ≡ length l.1 = as_long m s.switches b before l.1 l.4.both in
        let orders_cut : orders_in turns ≡ orders_in (l.0 ∷ l.1) ++ f.more = f.are ∙ ap (λ x. orders_in x ++ f.more) l.2 in
        let made = λ (j : ℕ) (low : j < length m.steppers) (on : (stepper_at m j).board ≡ b).
        stepper_made m v s.switches pins s.entries b before (came_in r.turn) l.0 l.1 r.heard.clocks (orders_in turns) f.more l.3 r.is orders_cut j low on in
        let Made : ℕ → Type 0 = λ k. (j : ℕ) → j < length m.steppers → (stepper_at m j).board ≡ b → MakesIn (stepper_at m j).oid (take k (orders_in turns)) in
        let made_here = subst Made (sym same_long) made in
        let size = length-append rest (end ∷ []) in
        let by = planned_by m s.switches (length m.boards) n ts p first rest left turns_are words notes (omega (arith, few, size)) in
        let row = begun_row m t.clocks t.first p.seen.begun (started_in m ts p t told) in
        let known = run_knows m v s ts p t first rest end told r turns_are sound notes in
        let count : length (orders_in turns) ≡ length (rest ++ end ∷ []) =
        (let a = order_length turns in let c = as_long m s.switches b whole turns run.both in let d = came_long [] (first ∷ rest) in omega (arith, a, c, d, size)) in
        let hold = hold_all m s.switches pins s.entries b until ts p t whole turns v by range (sound.kept b h) known.0 run in
        let controls = took_all (clocks_at t.clocks b) (cuts_on m t.clocks until p.seen.begun b) turns hold in
        let movers = all_movers m ts p t b until v told h in
        let set = all_set m s.switches pins s.entries b (length before) until ts p t whole turns by told r.early known.1 formed run movers in
        let used : (oid : ℕ) → HasUnits oid (cuts_on m t.clocks until p.seen.begun b) ⊎ SetsAny oid (orders_in turns) → MakesIn oid (take (length before) (orders_in turns)) = λ oid u.
        (let own : IsOwn m b oid = elim u [
          | inl units ↦ units_own m v t.clocks b until t.first oid p.seen.begun h (started_in m ts p t told) movers units
          | inr sets ↦ set_own m s.switches pins s.entries b (length before) (clocks_at t.clocks b) p.seen.begun (cuts_on m t.clocks until p.seen.begun b) (late_all m t.clocks until b (length before) t.first p.seen.begun r.early row) whole turns oid run by.notes hold known.1 sets
        ] in
        let At : ℕ → Type 0 = λ k. MakesIn k (take (length before) (orders_in turns)) in
        subst At own.oid_is (made_here own.stepper own.there own.on)) in
        let Batches : List Orders → Type 0 = λ os. TookBatches b ts os in
        let behind_all : (length (orders_in turns) ≤ until) ⊎ (length p.made ≤ until) = elim far [ inl a ↦ inl (omega (arith, a, count)) | inr a ↦ inr a ] in
        let home = home_run m ts p t b (length before) until (Own m b (length rest)) (orders_in turns) h told low behind_all (subst Batches (sym w.in_order) w.batches) controls (own_on (board_at m b) 0 (length rest + 349) valid (omega arith)).ticks lines.tracked r.early lines.over set (λ ready_by. used) in
        let ticks = (own_on (board_at m b) 0 (length rest + 349) valid (omega arith)).ticks in
        let split = run_split (Own m b (length rest)) (clocks_at t.clocks b) (board_at m b).freq (board_at m b).slots (length before) (stops_of p.seen.begun) (cuts_on m t.clocks until p.seen.begun b) (orders_in turns) ticks home in
        let Out : Type 0 = AreOut (length p.made) (runs_on m t.clocks p.seen.begun b) in
        let soon : Out → (n : ℕ) → AreSoon n (cuts_on m t.clocks until p.seen.begun b) = λ out n.
        released_soon (clocks_at t.clocks b) (board_at m b).freq (board_at m b).slots home.tracked.until n (stops_of p.seen.begun) (cuts_on m t.clocks until p.seen.begun b) home.sections
        (cuts_soon m (Own m b (length rest)) t.clocks b (length before) t.first until until p.seen.begun ticks lines.tracked r.early (started_in m ts p t told) h lines.over (out_before until (length p.made) (runs_on m t.clocks p.seen.begun b) low out) (omega arith)) in
        let fits : Out → UnitsFit turns = λ out.
        turns_fit (Own m b (length rest)) (clocks_at t.clocks b) (board_at m b).freq (board_at m b).slots (length before) (length turns) (stops_of p.seen.begun) (cuts_on m t.clocks until p.seen.begun b) [] turns home (soon out (length turns)) (omega arith) in
        let Limits : Type 0 = (done : List Orders) (o : Orders) (more : List Orders) → orders_in turns ≡ done ++ (o ∷ more) → AllKeepLimits done in
        let limits : Out → Limits = λ out. limited m v s.switches pins s.entries b whole turns run (fits out) in
        record { by = by; known = known; run = run; count = count; home = home; split = split; controls = controls_limited m v s.switches pins s.entries b whole turns run; soon = soon; fits = fits; limits = limits }

    -- the set-ups were taken in time, or the reports are read so
    pub ups_so : SetsUp m s b ts first (rest ++ end ∷ []) p.seen.begun w → TakeSetUps m (pins_of (board_at m b) b s.switches) s.entries b p.seen.begun (turns_behind [] w.made) ⊎ AreReadSo m s.switches b (came_from [] (first ∷ rest)) (turns_behind [] w.made)
    ups_so up =
        let x = homing_so in
        let turns = turns_behind [] w.made in
        let whole = came_from [] (first ∷ rest) in
        let Ups : List Came → Type 0 = λ z. TakeSetUps m (pins_of (board_at m b) b s.switches) s.entries b p.seen.begun turns ⊎ AllReadTrue m s.switches b z turns in
        told_by m v s ts p t b (length rest) (length (came_from [] r.past)) whole turns h lines r.early (begun_row m t.clocks t.first p.seen.begun (started_in m ts p t told)) x.by x.known.0 x.known.1
        (let d = came_long [] (first ∷ rest) in omega (arith, d)) (subst Ups (came_cut [] first rest end) up)

    -- so the homing sections that have ended are told of
    told_so : SetsUp m s b ts first (rest ++ end ∷ []) p.seen.begun w → AreToldIn m s.switches (pins_of (board_at m b) b s.switches) s.entries b (stops_of p.seen.begun) (cuts_on m t.clocks until p.seen.begun b) (turns_behind [] w.made)
    told_so up =
        let x = homing_so in
        all_told m s.switches (pins_of (board_at m b) b s.switches) s.entries b (length (came_from [] r.past)) until ts p t (came_from [] (first ∷ rest)) (turns_behind [] w.made) x.by told r.early x.known.1 formed x.run (ups_so up)

    many : length (turns_behind [] w.made) ≡ length (rest ++ end ∷ [])
    many = let a = order_length (turns_behind [] w.made) in let count = homing_so.count in omega (arith, a, count)

    upto : length (turns_behind [] w.made) ≤ length rest + 349
    upto = let size = length-append rest (end ∷ []) in let long = many in omega (arith, long, size)

    row : AreInARow t.first p.seen.begun
    row = begun_row m t.clocks t.first p.seen.begun (started_in m ts p t told)

    -- where it holds little it is timely
    pub timely_until : HomesLittle m s b ts first (rest ++ end ∷ []) (length p.made) t p.seen.begun w → IsTimelyIn m s b ts first (rest ++ end ∷ []) w
    timely_until little =
        let clock = clock_of (board_at m b) in
        let pins = pins_of (board_at m b) b s.switches in
        let turns = turns_behind [] w.made in
        let x = homing_so in
        let after = stands_after (link_of m s b) turns in
        let all = turns_told clock 0 (orders_of w.made) (states_of w.made) (link_of m s b) after w.told in
        let late = little.late in
        let spills = spilled_before until (length p.made) late (parts_on m t.clocks p.seen.begun b) low little.spilled in
        let few : (k : ℕ) → spoiled (take k (ends_of clock 0 (orders_of w.made) (link_of m s b) after all)) ≤ 10_700 - late =
        elim little.few [ inl e ↦ (λ k. omega (arith, calm_links clock (board_at m b) pins b s.entries (orders_of w.made) after all k e)) | inr f ↦ f ] in
        timely_by m v s b (length (came_from [] r.past)) until (length rest) ts p t turns (states_of w.made) after h w.turns_are upto x.home x.split x.controls
        (told_so little.sets_up) (came_from [] (first ∷ rest)) x.run x.by.notes (let early = r.early in omega (arith, early)) row (orders_of w.made) w.in_order w.told
        (late, little.most, cuts_spilled m t.clocks (length (orders_in turns)) until late b p.seen.begun spills, few)

    -- where it keeps up it is a board of such a run
    pub boarded_until : KeepsUp m s b ts first (rest ++ end ∷ []) p.seen.begun w
        → (k : IsHomeBoard b s.entries (length (came_from [] r.past)) (length (rest ++ end ∷ [])) (cuts_on m t.clocks until p.seen.begun b) (here_by until b w)) × (k.split.tail ≡ homing_so.split.tail)
    boarded_until keeps =
        let turns = turns_behind [] w.made in
        let x = homing_so in
        let Long : ℕ → Type 0 = λ n. (k : IsHomeBoard b s.entries (length (came_from [] r.past)) n (cuts_on m t.clocks until p.seen.begun b) (here_by until b w)) × (k.split.tail ≡ homing_so.split.tail) in
        subst Long many (home_by m v s b (length (came_from [] r.past)) until (length rest) ts p t turns (states_of w.made) (stands_after (link_of m s b) turns) h w.turns_are upto x.home x.split x.controls
        (told_so keeps.sets_up) (came_from [] (first ∷ rest)) x.run x.by.notes (let early = r.early in omega (arith, early)) row (orders_of w.made) w.in_order w.told keeps.timely)

    pub boarded_by : KeepsUp m s b ts first (rest ++ end ∷ []) p.seen.begun w → IsHomeBoard b s.entries (length (came_from [] r.past)) (length (rest ++ end ∷ [])) (cuts_on m t.clocks until p.seen.begun b) (here_by until b w)
    boarded_by keeps = (boarded_until keeps).0

  -- where the planner made as many turns as the run has
  pub boarded : (n b : ℕ) (left : List WordMsg) (w : IsInWhole m s.switches b (clock_of (board_at m b)) (link_of m s b) ts first (rest ++ end ∷ [])) (r : Ready m v s ts p t first rest end told) → b < length m.boards → AreReactorTurns m s.switches [] (first ∷ rest)
      → gather (λ x. x.word ∷ []) (first ∷ rest) ++ last_words (length (first ∷ rest)) n ≡ gather (λ x. x.words) ts ++ left → TookNotes (map (λ d. d.note) p.made) (first ∷ rest) → length (rest ++ end ∷ []) ≤ length p.made
      → Followed m b (length rest) t.clocks (length (came_from [] r.past)) p.seen.begun → AreSound m t.clocks t.first → MayHome m p.seen.begun → StartInRange (clocks_at t.clocks b) p.seen.begun → KeepsUp m s b ts first (rest ++ end ∷ []) p.seen.begun w
      → IsHomeBoard b s.entries (length (came_from [] r.past)) (length (rest ++ end ∷ [])) (cuts_on m t.clocks (length (rest ++ end ∷ [])) p.seen.begun b) (here b w)
  boarded n b left w r h turns_are words notes long lines sound formed range keeps =
      boarded_by (length (rest ++ end ∷ [])) n b left w r h turns_are words notes long (inl (omega arith)) (omega (arith, long)) lines sound formed range keeps
