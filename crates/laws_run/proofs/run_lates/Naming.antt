-- The unit that came too late to a board, in a whole run in which axes home.
use Rattle.std.proofs.Common.{◌≡◌, ◌⊎◌, ℕ, zero, suc, pos, negsuc, ◌+◌, ◌-◌, ◌*◌, ◌<◌, ◌≤◌, List, [], ◌∷◌, ◌++◌, length, map, Option, Some, None, refl, ap, sym, ◌∙◌, subst, arith, inl, inr, length-append}
use Rattle.std.specs.Prelude.{ℤ}
use Rattle.laws_board.proofs.Names.{∥∥₁_map, Cause, Machine, BoardState, Running, Shut, BoardClock, board_tick, clock_of, turn_ns, Clocks, lines_tick, AreKept, IsValidMachine, board_at, clocks_at, ShutNews, Unit as StepUnit, Entry, Scene, AreTurns, first_state, orders, pins_of, IsTurn, LinkState, Orders, AllKeepLimits, parts_on, Started, Told, Run, MotionTurn, ReactorTurn}
use Rattle.io_core.specs.declared.traits.Files.{Ghosts as Files}
use Rattle.io_core.specs.declared.traits.Sink.{Ghosts as Sink}
use Rattle.plan_types.specs.declared.cause.Cause.TheVariants as cause
use Rattle.plan_types.specs.Machines.{IsValidBoard}
use Rattle.board_sim.specs.Board.{timer_too_close}
use Rattle.board_world.specs.World.{AllFair}
use Rattle.link_work.specs.Ends.{EndSo, Ended, is_quiet, spoiled_turns}
use Rattle.link_work.specs.declared.held.HeldUnit.{HeldUnit}
use Rattle.link_work.specs.Held.{AllDue, counted_to, held_in, held_unit, hold, lead_of}
use Rattle.link_work.specs.Late.{AreFairTurns, IsFairTurn, turn_steps}
use Rattle.link_work.specs.Told.{IsShutNews}
use Rattle.link_work.proofs.Spilled.{told_cause}
use Rattle.laws_board.specs.turns.Turns.{AreBoardTurns, BoardTurn, stands_after}
use Rattle.laws_board.specs.clocks.Runs.{UnitsFit, ends_in, orders_in}
use Rattle.laws_board.proofs.clocks.Orders.{ends_in_order, last_stands, order_length, turns_in_order}
use Rattle.laws_board.specs.clocks.Samples.{IsSampled}
use Rattle.laws_board.specs.orders.Renewed.{AreSampled}
use Rattle.laws_run.proofs.clock_ages.Own.{Own}
use Rattle.laws_board.specs.sections.Parts.{AreTracked}
use Rattle.session_lanes.specs.declared.near.Told as near
use Rattle.session_run.specs.declared.tell.Kept.{Kept}
use Rattle.session_run.specs.Runs.{RunsOver}
use Rattle.session_run.specs.Boards.{came_from}
use Rattle.laws_board.specs.sections.Boards.{OnBoard}
use Rattle.laws_board.specs.sections.Homes.{AreOut, AreOrdersIn, IsHomeBoard, RunSection}
use Rattle.laws_board.specs.sections.Links.{ends_of, steps_of, turns_told}
use Rattle.laws_board.proofs.sections.Halted.{all_fair}
use Rattle.laws_board.specs.sections.Late.{IsLateUnit}
use Rattle.laws_board.proofs.sections.Seeking.{Among}
use Rattle.laws_board.proofs.orders.Going.{own_on}
use Rattle.laws_homing.specs.home_parts.Cuts.{cuts_on}
use Rattle.laws_run.specs.lanes.Boards.{turns_behind}
use Rattle.laws_board.specs.plans.Homed.{runs_on}
use Rattle.laws_board.specs.plans.Planned.{Plans}
use Rattle.laws_board.specs.causes.Short.{HaveShortDictionaries}
use Rattle.laws_run.specs.home_headline.Near.{AllKeepUp, KeepsUp}
use Rattle.laws_run.specs.home_headline.Little.{SendsOut}
use Rattle.laws_run.specs.run_headline.Made.{IsMade}
use Rattle.laws_run.specs.run_headline.Timely.{link_of}
use Rattle.laws_run.proofs.run_headline.Fronts.{limited}
use Rattle.laws_run.proofs.run_headline.Making.{run_made}
use Rattle.laws_run.proofs.run_headline.Runs.{facts}
use Rattle.laws_run.proofs.clear_runs.Exact.{not_behind}
use Rattle.laws_run.proofs.clear_runs.Punctual.{end_so, fair_turns}
use Rattle.laws_run.proofs.home_headline.Board.{Homing, here_by}
use Rattle.laws_run.proofs.home_headline.Good.{board_good, late_at}
use Rattle.laws_run.proofs.run_headline.Boarded.{valid_at}
use Rattle.laws_run.proofs.run_headline.Showing.{Facts, in_none, not_told}
use Rattle.laws_run.specs.run_lates.Late.{ComesLate, ComesLateIn, HasFewUnits, HasLateUnit, HasLateUnitIn, held_by, spoiled_by}
use Rattle.laws_run.proofs.run_lates.Boards as boards
use Rattle.laws_run.proofs.run_lates.Due.{AreNearBy, orders_due, sections_due}
use Rattle.laws_run.proofs.run_lates.Ending.{none_controls, none_sent}
use Rattle.laws_run.proofs.run_lates.Late.{run_late}
use Rattle.laws_run.proofs.run_lates.Shuts.{controls_may}
use Rattle.laws_run.proofs.run_lates.Units.{IsReleasedBy, found, in_sections, is_in, late_parts, of_parts, queued_in_turn, units_put}
use Rattle.link_work.proofs.Shut.{one_turn}

-- in a turn that goes so the units that are taken are fair
abbrev FairIn : (clock : BoardClock) (turn : ℕ) (o : Orders) (l m : LinkState) → IsTurn clock turn o l m → Type 0
FairIn clock turn o l m t = AllFair l.core (turn_steps clock turn o t.resent l)

-- in the last of some turns the units that are taken are fair, however it goes
fair_end : (clock : BoardClock) (os : List Orders) (turn : ℕ) (o : Orders) (l k : LinkState) (ends : List Ended) → EndSo clock turn (os ++ o ∷ []) l ends → AreFairTurns clock turn (os ++ o ∷ []) l ends → AreTurns clock turn os l k → IsFairTurn clock (turn + length os) o k
fair_end clock [] turn o l k [] so fair t = absurd so
fair_end clock [] turn o l k (e ∷ ends) so fair t =
    let here : turn ≡ turn + 0 = omega arith in
    let Fair : ℕ × LinkState → Type 0 = λ z. IsFairTurn clock z.0 o z.1 in
    let own : IsFairTurn clock turn o l = λ m i. (
    let one : e.link ≡ m = one_turn clock turn o l e.link m so.1 i in
    (subst (λ (z : LinkState). (j : IsTurn clock turn o l z) → FairIn clock turn o l z j) one fair.0) i) in
    subst Fair (λ i. (here i, sym t i)) own
fair_end clock (x ∷ os) turn o l k [] so fair t = absurd so
fair_end clock (x ∷ os) turn o l k (e ∷ ends) so fair t =
    let one : t.0 ≡ e.link = one_turn clock turn x l t.0 e.link t.1 so.1 in
    let More : LinkState → Type 0 = λ z. AreTurns clock (turn + 1) os z k in
    let there : turn + 1 + length os ≡ turn + suc (length os) = omega arith in
    subst (λ (n : ℕ). IsFairTurn clock n o k) there (fair_end clock os (turn + 1) o e.link k ends so.2 fair.1 (subst More one t.2))

-- how many turns later than by its first tick a unit may be due
lead_most : (drift : ℤ) → 250 - lead_of drift ≤ 1
lead_most (pos zero) = omega arith
lead_most (pos (suc n)) = omega arith
lead_most (negsuc n) = omega arith

-- the units that it takes are fair
board_fair : (place : ℕ) (entries : List Entry) (ready turns : ℕ) (ss : List RunSection) (x : OnBoard) (k : IsHomeBoard place entries ready turns ss x) → (ends : List Ended) × EndSo (clock_of x.board) 0 x.orders (first_state x.board x.pins place entries) ends
    × AreFairTurns (clock_of x.board) 0 x.orders (first_state x.board x.pins place entries) ends
board_fair place entries ready turns ss x k =
    let clock = clock_of x.board in
    let l = first_state x.board x.pins place entries in
    let t = turns_told clock 0 x.orders x.states l k.end k.told in (
      ends_of clock 0 x.orders l k.end t,
      end_so clock 0 x.orders l k.end t,
      fair_turns clock 0 x.orders l k.end t (all_fair x.board x.pins k.own k.stops x.orders (steps_of clock 0 x.orders l k.end t) (board_good place entries ready turns ss x k)),
    )

-- what is known of a board of a run that is late
module _ (m : Machine) (s : Scene) (ts : List MotionTurn) (first : ReactorTurn) (rest : List ReactorTurn) (end : ReactorTurn) (b due arrival spoiled spill : ℕ) (x : ComesLate m s b due arrival spoiled spill ts first (rest ++ end ∷ [])) where
  abbrev pub Clock : BoardClock
  Clock = clock_of (board_at m b)

  abbrev pub Begin : LinkState
  Begin = link_of m s b

  abbrev pub Now : Orders
  Now = orders x.turn.control x.turn.batch

  pub turns_are : AreBoardTurns Clock Begin (x.turn ∷ x.past)
  turns_are = let Are : List BoardTurn → Type 0 = λ z. AreBoardTurns Clock Begin z in subst Are x.are x.w.turns_are

  -- the limits are kept, the units fair and due, and those of sections
  pub record Known (clocks : List Clocks) (begun : List Started) : Type 0 where
    pub limits : AllKeepLimits (orders_in x.past)
    pub fair : (ends : List Ended) × EndSo Clock 0 (orders_in (turns_behind [] x.w.made)) Begin ends × AreFairTurns Clock 0 (orders_in (turns_behind [] x.w.made)) Begin ends
    pub all_due : AllDue Clock (orders_in (turns_behind [] x.w.made))
    pub units : (before : List Orders) (o : Orders) (after : List Orders) (u : StepUnit) → orders_in (turns_behind [] x.w.made) ≡ before ++ o ∷ after → Among u o.batch.units → IsReleasedBy (parts_on m clocks begun b) u (0 + length before)

  module _ (clocks : List Clocks) (begun : List Started) (k : Known clocks begun) where
    cut : orders_in (turns_behind [] x.w.made) ≡ orders_in x.past ++ Now ∷ []
    cut = ap orders_in x.are

    fair : IsFairTurn Clock (length x.past) Now (stands_after Begin x.past)
    fair =
        let Fair : List Orders → Type 0 = λ z. (ends : List Ended) × EndSo Clock 0 z Begin ends × AreFairTurns Clock 0 z Begin ends in
        let g = subst Fair cut k.fair in
        let size = order_length x.past in
        let same : 0 + length (orders_in x.past) ≡ length x.past = omega (arith, size) in
        subst (λ (n : ℕ). IsFairTurn Clock n Now (stands_after Begin x.past)) same (fair_end Clock (orders_in x.past) 0 Now Begin (stands_after Begin x.past) g.0 g.1 g.2 (turns_in_order Clock Begin x.past turns_are.1))

    -- more turns than the lead were spoiled or spilled
    disturbed : lead_of (board_at m b).drift < spoiled + spill
    disturbed =
        let n : ShutNews = record { reason = timer_too_close; tick = arrival; first = due; spoiled = spoiled; spill = spill } in
        let same = last_stands Begin x.past in
        let Turn : LinkState → Type 0 = λ z. IsTurn Clock (length x.past) Now z x.turn.after in
        let Ran : LinkState → Type 0 = λ z. z.core.board.controller.state ≡ Running in
        let Fair : LinkState → Type 0 = λ z. IsFairTurn Clock (length x.past) Now z in
        let News : BoardState → Type 0 = λ z. IsShutNews z (Some n) in
        let Due : List Orders → Type 0 = λ z. AllDue Clock z in
        (told_cause (board_at m b) (pins_of (board_at m b) b s.switches) b s.entries (orders_in x.past) (ends_in x.past) Now x.turn.after (length x.past) Clock (spoiled_turns (ends_in x.past)) (is_quiet (record { turn = length x.past; link = x.turn.after }))
        (held_in (orders_in x.past) (ends_in x.past)) (Some n) n refl (sym (order_length x.past)) (record { limits = k.limits; so = ends_in_order Clock Begin x.past turns_are.1 })
        (subst Turn (sym same) x.is) (subst News (sym x.shut) (n, refl, refl, refl, refl)) x.counted refl refl (subst Ran (sym same) x.ran) (subst Fair (sym same) fair) (subst Due cut k.all_due) refl refl).1

    pub has_unit : HasLateUnit m s b due arrival spoiled spill ts first (rest ++ end ∷ []) clocks begun x
    has_unit =
        let lead = lead_of (board_at m b).drift in
        let turns = spoiled_by x.past x.turn in
        let hs = held_by x.past x.turn in
        let Low : ℕ × ℕ → Type 0 = λ z. lead < z.0 + z.1 in
        let u = found lead turns due hs (subst Low x.counted disturbed) in
        let size = order_length x.past in
        let At : ℕ → Type 0 = λ n. Among u.held (hold (held_in (orders_in x.past) (ends_in x.past)) n x.turn.batch.units) in
        let q = queued_in_turn (orders_in x.past) (ends_in x.past) Now u.held (subst At (sym size) u.among) in
        let g = k.units q.before q.orders q.after q.unit (cut ∙ q.are) q.among in
        let is : u.held ≡ held_unit g.release.turn g.release.unit = q.is ∙ ap (λ n. held_unit n q.unit) (sym g.turn_is) ∙ ap (held_unit g.release.turn) g.unit_is in
        let numbers = x.counted ∙ u.told in
        record {
          section = g.section;
          release = g.release;
          among = is_in g.section (parts_on m clocks begun b) g.among;
          within = is_in g.release g.section.releases g.within;
          first_is = ap (λ (z : HeldUnit). z.first) (sym is) ∙ u.first_is;
          spoiled_is = ap (λ (z : ℕ × ℕ). z.0) numbers ∙ ap (λ (z : HeldUnit). counted_to z.due turns) is;
          spill_is = ap (λ (z : ℕ × ℕ). z.1) numbers ∙ ap (λ (z : HeldUnit). z.spill) is;
          disturbed = disturbed;
        }

-- The clock lines of a board are as near as they are to be: those that follow it, and of an exact clock those of samples.
pub lines_near : (m : Machine) (v : IsValidMachine m) (b : ℕ) → b < length m.boards → (lasts turns ready : ℕ) (far : turns + 250 ≤ lasts + 349 + 1) (clocks : Clocks) (all : List BoardTurn) (tracked : AreTracked (Own m b lasts) clocks ready)
    → AreKept clocks → IsSampled (clock_of (board_at m b)) all clocks.first → AreSampled (clock_of (board_at m b)) all clocks.held → clocks.first.at ≤ ready * turn_ns → AreNearBy (clock_of (board_at m b)) (lasts + 349) turns far clocks ready tracked.until
lines_near m v b there lasts turns ready far clocks all tracked kept first held early k low to most = by (board_at m b).drift refl
  where
    valid : IsValidBoard (board_at m b)
    valid = valid_at m.boards b there v.boards

    -- a clock that is off
    off : lead_of (board_at m b).drift ≡ 249 → board_tick (clock_of (board_at m b)) k ≤ lines_tick clocks ((k + (250 - lead_of (board_at m b).drift)) * turn_ns)
    off e =
        let behind_one = tracked.behind k low to in
        let own = (own_on (board_at m b) (lasts + 349) (lasts + 349) valid (omega arith)).same k most in
        let same : k + (250 - lead_of (board_at m b).drift) ≡ k + 1 = omega (arith, e) in
        let time = ap (λ n. lines_tick clocks (n * turn_ns)) same in
        omega (arith, behind_one, own, time)

    by : (d : ℤ) → (board_at m b).drift ≡ d → board_tick (clock_of (board_at m b)) k ≤ lines_tick clocks ((k + (250 - lead_of (board_at m b).drift)) * turn_ns)
    by (pos zero) e =
        let exact = not_behind (clock_of (board_at m b)) all clocks ready k valid.freq e kept first held early low in
        let same : k + (250 - lead_of (board_at m b).drift) ≡ k + 0 = (let l = ap lead_of e in omega (arith, l)) in
        let time = ap (λ n. lines_tick clocks (n * turn_ns)) same in
        omega (arith, exact, time)
    by (pos (suc n)) e = off (ap lead_of e)
    by (negsuc n) e = off (ap lead_of e)

-- in a run in which axes home
module _ (m : Machine) (v : IsValidMachine m) (s : Scene) (ts : List MotionTurn) (p : Plans m (length m.boards) ts) (t : Told) (first : ReactorTurn) (rest : List ReactorTurn) (end : ReactorTurn) (c : Cause) (told : p.seen.told ≡ Some t) (f : Facts m s ts (first ∷ rest) end c)
    (short : HaveShortDictionaries m) (b due arrival spoiled spill : ℕ) (x : ComesLate m s b due arrival spoiled spill ts first (rest ++ end ∷ [])) (little : KeepsUp m s b ts first (rest ++ end ∷ []) p.seen.begun x.w) where
  abbrev By : ℕ
  By = boards.By m v s ts p t first rest end c told f short

  abbrev Sections : List RunSection
  Sections = cuts_on m t.clocks (length p.made) p.seen.begun b

  sent : Homing m v s ts p t first rest end told (length p.made) b (boards.turn m v s ts p t first rest end c told f short) (turns_behind [] x.w.made)
  sent = boards.homing m v s ts p t first rest end c told f short b x.there x.w

  far : length (rest ++ end ∷ []) + 250 ≤ length rest + 349 + 1
  far = let size = length-append rest (end ∷ []) in omega (arith, size)

  all_due : AllDue (clock_of (board_at m b)) (orders_in (turns_behind [] x.w.made))
  all_due =
      let few = lead_most (board_at m b).drift in
      let count = sent.count in
      let r = sent.home in
      let valid = valid_at m.boards b x.there v.boards in
      let y = boards.sampled m v s ts p t first rest end c told f short b x.there x.w in
      let clock = clock_of (board_at m b) in
      let lines = clocks_at t.clocks b in
      let near = lines_near m v b x.there (length rest) (length (rest ++ end ∷ [])) By far lines (turns_behind [] x.w.made) r.tracked y.kept y.line.sampled y.sampled y.line.early in
      orders_due clock (length rest + 349) (length (rest ++ end ∷ [])) far few lines Sections 0 (orders_in (turns_behind [] x.w.made)) (omega (arith, count))
      (sections_due clock (length rest + 349) (length (rest ++ end ∷ [])) far few _ lines (board_at m b).freq (board_at m b).slots By By _ Sections (own_on (board_at m b) (length rest) (length rest + 349) valid (omega arith)).ticks r.tracked near (omega arith) r.sections r.row)
      r.orders

  -- the steps that came too late were a unit's of its sections
  pub late_unit : IsLateUnit (parts_on m t.clocks p.seen.begun b) arrival due
  late_unit =
      let k = boards.on m v s ts p t first rest end c told f short b x.there x.w little in
      let Is : List BoardTurn → Type 0 = λ z. (stands_after (link_of m s b) z).core.board.controller.state ≡ Shut timer_too_close arrival due in
      late_parts m t.clocks (length p.made) b p.seen.begun arrival due
      (late_at b s.entries By (length (rest ++ end ∷ [])) Sections (here_by m v s ts p t first rest end told (length p.made) b x.w) (stands_after (link_of m s b) (turns_behind [] x.w.made)) arrival due k
      (turns_in_order (clock_of (board_at m b)) (link_of m s b) (turns_behind [] x.w.made) x.w.turns_are) (subst Is (sym x.are) x.shut))

  limits : AreOut (length p.made) (runs_on m t.clocks p.seen.begun b) ⊎ UnitsFit (turns_behind [] x.w.made) → (done : List Orders) (o : Orders) (more : List Orders) → orders_in (turns_behind [] x.w.made) ≡ done ++ (o ∷ more) → AllKeepLimits done
  limits (inl out) = sent.limits out
  limits (inr fits) = limited m v s.switches (pins_of (board_at m b) b s.switches) s.entries b (came_from [] (first ∷ rest)) (turns_behind [] x.w.made) sent.run fits

  pub home_unit : AreOut (length p.made) (runs_on m t.clocks p.seen.begun b) ⊎ UnitsFit (turns_behind [] x.w.made) → HasLateUnit m s b due arrival spoiled spill ts first (rest ++ end ∷ []) t.clocks p.seen.begun x
  home_unit small = has_unit m s ts first rest end b due arrival spoiled spill x t.clocks p.seen.begun (record {
    limits = limits small (orders_in x.past) (orders x.turn.control x.turn.batch) [] (ap orders_in x.are);
    fair = board_fair b s.entries By (length (rest ++ end ∷ [])) Sections (here_by m v s ts p t first rest end told (length p.made) b x.w) (boards.on m v s ts p t first rest end c told f short b x.there x.w little);
    all_due = all_due;
    units = λ before o after u cut a.
        let In : List Orders → Type 0 = λ z. AreOrdersIn (clocks_at t.clocks b) Sections 0 z in
        let units = units_put (clocks_at t.clocks b) Sections 0 before o after (subst In cut sent.home.orders) in
        let Of : List StepUnit → Type 0 = λ z. Among u z in
        of_parts m t.clocks (length p.made) b p.seen.begun u (0 + length before) (in_sections u (0 + length before) (map (λ (z : RunSection). z.section) Sections) (subst Of units a));
  })

-- where no section was begun nothing comes too late
late_none : (m : Machine) (v : IsValidMachine m) (s : Scene) (ts : List MotionTurn) (p : Plans m (length m.boards) ts) (end : ReactorTurn) (c : Cause) (first : ReactorTurn) (rest : List ReactorTurn) (f : Facts m s ts (first ∷ rest) end c) (b due arrival spoiled spill : ℕ)
    → ComesLate m s b due arrival spoiled spill ts first (rest ++ end ∷ []) → p.seen.begun ≡ [] → ⊥
late_none m v s ts p end c first rest f b due arrival spoiled spill x none =
    let Is : List BoardTurn → Type 0 = λ z. (stands_after (link_of m s b) z).core.board.controller.state ≡ Shut timer_too_close arrival due in
    let reason = controls_may (board_at m b) (pins_of (board_at m b) b s.switches) b s.entries (turns_behind [] x.w.made) timer_too_close arrival due x.w.turns_are (none_sent m v s ts p end c first rest f b x.there x.w none) (none_controls m v s ts p end c first rest f b x.there x.w none)
    (subst Is (sym x.are) x.shut) in
    omega (arith, reason)

module _ {F S : Type 0} (f : Files F) (o : Sink S) (m : Machine) (s : Scene) (name : List ℕ) (files files' : F) (out out' : S) (kept kept' : Kept) (t : near.Told Run) (r : RunsOver f o m s name files out kept t files' out' kept') (v : IsValidMachine m) (short : HaveShortDictionaries m)
    (b due arrival spoiled spill : ℕ) where
  home_units : (p : Plans m (length m.boards) r.runs.0) (told : Option Told) (begun : List Started) → p.seen.told ≡ told → p.seen.begun ≡ begun → (rs : List ReactorTurn) → Facts m s r.runs.0 rs r.runs.2 t.cause → AllKeepUp m s p.seen.text r.runs.0 (rs ++ r.runs.2 ∷ [])
      → (c : ComesLateIn m s b due arrival spoiled spill r.runs.0 rs r.runs.2) → (heard : Told) × (p.seen.told ≡ Some heard) × IsLateUnit (parts_on m heard.clocks p.seen.begun b) arrival due
      × (SendsOut m p.seen.text r.runs.0 ⊎ HasFewUnits m s b due arrival spoiled spill r.runs.0 rs r.runs.2 c → HasLateUnitIn m s b due arrival spoiled spill r.runs.0 rs r.runs.2 heard.clocks p.seen.begun c)
  home_units p told begun is are [] g little c = absurd c
  home_units p None begun is are (first ∷ rest) g little c = absurd (late_none m v s r.runs.0 p r.runs.2 t.cause first rest g b due arrival spoiled spill c (not_told m v s r.runs.0 p r.runs.2 t.cause is))
  home_units p (Some heard) [] is are (first ∷ rest) g little c = absurd (late_none m v s r.runs.0 p r.runs.2 t.cause first rest g b due arrival spoiled spill c are)
  home_units p (Some heard) (x ∷ begun) is are (first ∷ rest) g little c =
      let own = little p b refl (λ none. in_none [] x begun p.seen.begun none are) c.there c.w in
      let unit = home_unit m v s r.runs.0 p heard first rest r.runs.2 t.cause is g short b due arrival spoiled spill c own in (
        heard,
        is,
        late_unit m v s r.runs.0 p heard first rest r.runs.2 t.cause is g short b due arrival spoiled spill c own,
        λ small. elim small [ inl sends ↦ unit (inl (sends p heard b refl is c.there)) | inr fits ↦ unit (inr fits) ],
      )

  module _ (text : List ℕ) (told : f.told files name ≡ Some text) (at : kept.at ≡ 0) (e : t.cause ≡ cause.Late b due arrival spoiled spill) where
    other : t.cause ≡ cause.Memory → ⊥
    other g = let h : cause.Late b due arrival spoiled spill ≡ cause.Memory = sym e ∙ g in cc

    abbrev Late_in : Type 0
    Late_in = ComesLateIn m s b due arrival spoiled spill r.runs.0 r.runs.1 r.runs.2

    late : Late_in
    late = run_late f o m s name files files' out out' kept kept' t r v b due arrival spoiled spill e

    pub run_home_units : AllKeepUp m s text r.runs.0 (r.runs.1 ++ r.runs.2 ∷ []) → ∥ ((made : IsMade m s r.runs.0 r.runs.1) × (made.plans.seen.text ≡ text) × (c : Late_in)
        × ((heard : Told) × (made.plans.seen.told ≡ Some heard) × IsLateUnit (parts_on m heard.clocks made.plans.seen.begun b) arrival due × (SendsOut m text r.runs.0 ⊎ HasFewUnits m s b due arrival spoiled spill r.runs.0 r.runs.1 r.runs.2 c
        → HasLateUnitIn m s b due arrival spoiled spill r.runs.0 r.runs.1 r.runs.2 heard.clocks made.plans.seen.begun c))) ∥₁
    run_home_units little =
        ∥∥₁_map (run_made f o m s name files files' out out' kept kept' t r text told at) (λ w.
        let Little : List ℕ → Type 0 = λ z. AllKeepUp m s z r.runs.0 (r.runs.1 ++ r.runs.2 ∷ []) in
        let Sends : List ℕ → Type 0 = λ z. SendsOut m z r.runs.0 in
        let x = home_units w.0.plans w.0.plans.seen.told w.0.plans.seen.begun refl refl r.runs.1 (facts f o m s name files files' out out' kept kept' t r other) (subst Little (sym w.1) little) late in
        (w.0, w.1, late, (x.0, x.1, x.2, λ small. elim small [ inl sends ↦ x.3 (inl (subst Sends (sym w.1) sends)) | inr fits ↦ x.3 (inr fits) ])))
