-- A whole run in which axes home, in a scene without entries, is a clear run of all boards, and so none of its homing groups answers of an expiry.
use Rattle.std.proofs.Common.{◌≡◌, ℕ, ◌+◌, ◌*◌, ◌<◌, ◌≤◌, List, [], ◌∷◌, ◌++◌, length, map, Some, refl, ap, sym, ◌∙◌, subst, arith}
use Rattle.laws_board.proofs.Names.{Cause, Level, Machine, clock_of, turn_ns, Clocks, lines_tick, IsValidMachine, axis_at, board_at, clocks_at, ShutNews, State, Scene, pins_of, Homing, answer_in, hears_all, Stopping, noted, Came, GoesOn, known_by, Told, MotionTurn, ReactorTurn, item}
use Rattle.trigger_group.specs.declared.order.End.TheVariants as end_of
use Rattle.host_reactor.specs.Runs.{HaveStates}
use Rattle.laws_board.specs.turns.Turns.{BoardTurn, latest_state}
use Rattle.laws_board.proofs.clocks.Orders.{all_limits}
use Rattle.session_run.specs.Boards.{came_from, came_in}
use Rattle.laws_run.specs.lanes.Boards.{IsInWhole, turns_behind}
use Rattle.laws_board.specs.plans.Lines.{TookNotes}
use Rattle.laws_board.specs.plans.Planned.{Plans}
use Rattle.laws_run.specs.run_headline.Timely.{link_of}
use Rattle.laws_run.proofs.run_headline.Boarded.{Ready, ready}
use Rattle.laws_run.proofs.run_headline.Showing.{Facts}
use Rattle.laws_homing.specs.home_plans.Notes.{CameNotes, WasBegun}
use Rattle.laws_run.specs.home_headline.Near.{KeepsUp}
use Rattle.laws_homing.specs.clear_groups.Runs.{IsClearRun}
use Rattle.laws_homing.specs.clear_groups.Sections.{IsPlain}
use Rattle.laws_homing.proofs.clear_groups.Begun.{run_answers}
use Rattle.laws_homing.proofs.home_plans.Knowing.{now_was}
use Rattle.laws_homing.specs.missed_groups.Known.{AxesLow}
use Rattle.laws_homing.specs.missed_groups.Ticks.{IsSwitchTick}
use Rattle.laws_homing.proofs.missed_groups.Running.{run_misses}
use Rattle.laws_run.proofs.home_wholes.Axes.{axis_low}
use Rattle.laws_run.proofs.run_headline.Joining.{of_sections}
use Rattle.gcode_program.specs.Programs.{outcome_of}
use Rattle.laws_board.specs.causes.Short.{HaveShortDictionaries}
use Rattle.laws_run.proofs.clear_homes.Together as together
use Rattle.laws_board.specs.clocks.Runs.{UnitsFit}

module _ (m : Machine) (v : IsValidMachine m) (s : Scene) (ts : List MotionTurn) (p : Plans m (length m.boards) ts) (t : Told) (first : ReactorTurn) (rest : List ReactorTurn) (end : ReactorTurn) (c : Cause) (told : p.seen.told ≡ Some t) (f : Facts m s ts (first ∷ rest) end c)
    (long : length (rest ++ end ∷ []) ≤ length p.made) (short : HaveShortDictionaries m)
    (little : (b : ℕ) → b < length m.boards → (w : IsInWhole m s.switches b (clock_of (board_at m b)) (link_of m s b) ts first (rest ++ end ∷ [])) → KeepsUp m s b ts first (rest ++ end ∷ []) p.seen.begun w)
    (clear : s.entries ≡ []) (stop : (line : ℕ) → (known_by m s.switches (came_from [] (first ∷ rest))).phase ≡ Stopping line → ⊥) (have : HaveStates m (came_in end ∷ came_from [] (first ∷ rest)))
    (in_time : (b : ℕ) → b < length m.boards → (state : State) (n : ShutNews) → item b end.states ≡ state ∷ [] → state.shut ≡ Some n → n.reason ≡ 1 → ⊥) (notes : TookNotes (map (λ d. d.note) p.made) (first ∷ (rest ++ end ∷ []))) (fits : (b : ℕ) (h : b < length m.boards) → UnitsFit (turns_behind [] (f.boards b first rest h refl).made)) where
  abbrev Came_all : List Came
  Came_all = came_from [] (first ∷ rest)

  abbrev Turn : Ready m v s ts p t first rest end told
  Turn = ready m v s ts p t first rest end told f.ahead f.words_left f.turns f.words

  abbrev From : ℕ
  From = length (came_from [] Turn.past)

  abbrev Whole : (b : ℕ) → b < length m.boards → IsInWhole m s.switches b (clock_of (board_at m b)) (link_of m s b) ts first (rest ++ end ∷ [])
  Whole b h = f.boards b first rest h refl

  abbrev Turns : (b : ℕ) → b < length m.boards → List BoardTurn
  Turns b h = turns_behind [] (Whole b h).made

  abbrev Pins : ℕ → List (List Level)
  Pins b = pins_of (board_at m b) b s.switches

  plain : (b : ℕ) (h : b < length m.boards) → IsPlain m s.switches (Pins b) s.entries b Came_all (Turns b h)
  plain b h =
      let x = together.stands m v s ts p t first rest end c told f long short little stop in_time notes b h in
      record { run = x.0; limits = all_limits m s.switches (Pins b) s.entries b Came_all (Turns b h) v x.0 stop (fits b h); none_shut = x.1; in_range = x.2 }

  given : CameNotes p.seen.begun (came_in end ∷ Came_all)
  given = together.given m v s ts p t first rest end c told f long short little stop in_time notes

  -- each section's own clock lines, which are all
  abbrev Lines : ℕ → ℕ → Clocks
  Lines start b = clocks_at t.clocks b

  -- they track the boards until here
  abbrev Till : ℕ
  Till = length Came_all + 276

  reach : length Came_all + 276 ≤ Till
  reach = omega arith

  abbrev All : List (ℕ → BoardTurn)
  All = (together.all m v s ts p t first rest end c told f long short little stop in_time notes).0

  clear_run : IsClearRun m s.switches Pins s.entries Lines (From + 1) Till (came_in end) Came_all All
  clear_run =
      let all = together.all m v s ts p t first rest end c told f long short little stop in_time notes in
      record {
        goes_on = together.goes m v s ts p t first rest end c told f long short little stop in_time notes;
        long = all.1;
        have = have;
        begins = together.well m v s ts p t first rest end c told f long short little stop in_time notes;
        knows = together.lines_of m v s ts p t first rest end c told f long short little stop in_time notes;
        plain = λ b h. subst (λ (turns : List BoardTurn). IsPlain m s.switches (Pins b) s.entries b Came_all turns) (sym (all.2 b h)) (plain b h);
        states = λ b h. together.here m v s ts p t first rest end c told f long short little stop in_time notes b h ∙ ap latest_state (sym (all.2 b h));
      }

  -- no homing group answers that a board expired
  pub never_expired : (h : Homing) → (noted m end.note (known_by m s.switches Came_all)).homing ≡ Some h → (b turn : ℕ)
      → answer_in (length Came_all) h.start (hears_all (noted m end.note (known_by m s.switches Came_all)).clocks end.states h).group ≡ Some (end_of.Expired b turn) → ⊥
  never_expired h is b turn answers = run_answers m v s.switches Pins s.entries clear Lines (From + 1) Till (came_in end) Came_all All clear_run reach h is b turn answers

  -- the homing sections that are known are of axes of the machine
  axis_known : (d : Came) (before : List Came) → GoesOn m s.switches before → CameNotes p.seen.begun (d ∷ before) → (h : Homing) → (noted m d.note (known_by m s.switches before)).homing ≡ Some h → h.axis < length m.axes
  axis_known d before on notes_so h is =
      let was : WasBegun p.seen.begun (Some h) = subst (WasBegun p.seen.begun) is (now_was m s.switches p.seen.begun d before on notes_so) in
      let low = axis_low m (length p.seen.begun) (outcome_of m p.seen.text).deeds was.0 was.1 was.2 was.3 (ap (map (λ x. x.section)) (sym was.4) ∙ of_sections m ts p) was.5 in
      let three = v.axes_three in
      let same = was.9 in
      omega (arith, low, three, same)

  axes_known : (d : Came) (before : List Came) → GoesOn m s.switches before → CameNotes p.seen.begun (d ∷ before) → AxesLow m s.switches (d ∷ before)
  axes_known d [] on notes_so = (axis_known d [] on notes_so, tt)
  axes_known d (e ∷ past) on notes_so = (axis_known d (e ∷ past) on notes_so, axes_known e past on.1 notes_so.1)

  -- a homing group answers that no switch closed only where none did in time
  pub never_missed : (h : Homing) → (noted m end.note (known_by m s.switches Came_all)).homing ≡ Some h
      → answer_in (length Came_all) h.start (hears_all (noted m end.note (known_by m s.switches Came_all)).clocks end.states h).group ≡ Some end_of.NoSwitch
      → (tick : ℕ) → IsSwitchTick m (Pins (axis_at m h.axis).board) (axis_at m h.axis).board (axis_at m h.axis) (lines_tick (Lines h.start (axis_at m h.axis).board) (h.start * turn_ns)) tick
      → lines_tick (Lines h.start (axis_at m h.axis).board) ((h.group.last + 1) * turn_ns) ≤ tick
  never_missed h is answers tick hit = run_misses m v s.switches Pins s.entries clear Lines (From + 1) Till (came_in end) Came_all All clear_run reach (axes_known (came_in end) Came_all clear_run.goes_on given) h is answers tick hit
