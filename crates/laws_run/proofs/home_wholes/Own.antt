-- Why the answer of a homing section is of its own readings, in a whole run in which axes home.
use Rattle.std.proofs.Common.{◌≡◌, ℕ, zero, suc, ◌+◌, ◌-◌, ◌*◌, ◌^◌, ◌<◌, ◌≤◌, List, [], ◌∷◌, ◌++◌, length, map, Option, Some, None, All, get_or, refl, ap, sym, ◌∙◌, subst, arith, append_assoc, length-append, inl, inr}
use Rattle.laws_board.proofs.Names.{∥∥₁_map, All-head, All-tail, Cause, Level, AxisDef, Machine, Home, board_tick, clock_of, turn_ns, Clocks, lines_tick, clocks_at, IsValidMachine, axis_at, board_at, Entry, Scene, Switch, pins_of, Homing, answer_in, hears_all, noted, Run, cut_line, Came, GoesOn, known_by, ReportLine, Started, Told, MotionTurn, ReactorTurn, cons_same}
use Rattle.plan_types.specs.declared.cause.Cause.TheVariants as cause
use Rattle.plan_types.proofs.OwnTicks.{rise}
use Rattle.laws_homing.specs.home_parts.Answers.{ArePastConnecting}
use Rattle.laws_homing.specs.home_parts.Known.{KnowsLately, StartInRange}
use Rattle.laws_board.specs.plans.Rows.{AreInARow}
use Rattle.laws_homing.proofs.switch_runs.Exact.{exact_tick, knew_tick}
use Rattle.laws_run.specs.clear_homes.Closes.{ClosesAt}
use Rattle.laws_run.specs.run_headline.Made.{IsMade}
use Rattle.laws_run.proofs.home_wholes.Near.{starts_near}
use Rattle.plan_types.specs.Machines.{IsValidAxis, no_axis}
use Rattle.io_core.specs.declared.traits.Files.{Ghosts as Files}
use Rattle.io_core.specs.declared.traits.Sink.{Ghosts as Sink}
use Rattle.gcode_program.specs.Programs.{outcome_of}
use Rattle.trigger_group.specs.declared.order.End.TheVariants.{Endstop}
use Rattle.laws_board.specs.turns.Turns.{BoardTurn}
use Rattle.laws_board.specs.clocks.Runs.{IsInRun}
use Rattle.laws_board.proofs.clocks.Lines.{as_long, run_before}
use Rattle.session_lanes.specs.declared.near.Told as near
use Rattle.session_run.specs.declared.tell.Kept.{Kept}
use Rattle.session_run.specs.Boards.{came_from, came_in}
use Rattle.session_run.specs.Runs.{RunsOver}
use Rattle.laws_board.proofs.sections.Lists.{same_place}
use Rattle.laws_board.specs.plans.Planned.{Plans, PlannerInput}
use Rattle.laws_board.specs.causes.Short.{HaveShortDictionaries}
use Rattle.laws_homing.specs.fired_runs.Since.{AllRead, AreNotAhead, AreSoInTurns, BeginsApart, ReadsSwitchTrue}
use Rattle.laws_homing.proofs.fired_runs.Seeing.{answered_read}
use Rattle.laws_homing.specs.home_plans.Notes.{CameNotes, WasBegun}
use Rattle.laws_homing.proofs.home_plans.Knowing.{now_was}
use Rattle.laws_homing.proofs.home_parts.Apart.{so_begun}
use Rattle.laws_homing.proofs.home_parts.Told.{so_at, split_at}
use Rattle.laws_board.proofs.plans.Rows.{row_from}
use Rattle.laws_homing.specs.switch_runs.Taken.{IsTriggerOf}
use Rattle.laws_run.specs.home_headline.Cuts.{TellEnds, TellsAnswer}
use Rattle.laws_run.specs.home_wholes.Own.{AllSwitchesReadTrue, IsTriggerIn, TellTriggers, TellTriggersBehind}
use Rattle.laws_run.proofs.home_headline.Board.{starts_behind}
use Rattle.laws_run.proofs.home_headline.Ended.{goes_behind, notes_behind}
use Rattle.laws_run.proofs.home_headline.Switches.{all_ends, came_ahead}
use Rattle.laws_run.proofs.home_wholes.Axes.{axis_low}
use Rattle.laws_run.proofs.home_wholes.Lines.{Came_all, By, Turns_of, by, connected, knows, lines, range, row, run_of, turn, whole}
use Rattle.laws_run.proofs.run_headline.Boarded.{came_cut, came_long, valid_at}
use Rattle.laws_run.proofs.run_headline.Joining.{of_sections}
use Rattle.laws_run.proofs.run_headline.Making.{run_made}
use Rattle.laws_run.proofs.run_headline.Runs.{run_ended}
use Rattle.laws_run.proofs.run_headline.Showing.{Ended, Facts, in_none, not_told}
use Rattle.laws_homing.proofs.home_parts.Known.{answer_late}
use Rattle.laws_homing.proofs.home_parts.Controls.{range_at}

pub axis_board : (m : Machine) (axes : List AxisDef) (i : ℕ) → i < length axes → All (IsValidAxis m) axes → (get_or axes i no_axis).board < length m.boards
axis_board m [] i low all = absurd (omega (arith, low))
axis_board m (a ∷ axes) zero low all = (All-head (IsValidAxis m) a axes all).board
axis_board m (a ∷ axes) (suc i) low all = axis_board m axes i (omega (arith, low)) (All-tail (IsValidAxis m) a axes all)

-- what a board tells of its switch in a run is read so
abbrev pub SoRead : Machine → List Switch → ℕ → List Came → List BoardTurn → Type 0
SoRead m switches b came turns = BeginsApart m switches came × AllRead (ReadsSwitchTrue m switches b) came turns × AreNotAhead m switches b came

back_same : {X : Type 0} (xs ys us vs : List X) → xs ++ ys ≡ us ++ vs → length ys ≡ length vs → ys ≡ vs
back_same [] ys [] vs e same = e
back_same [] ys (u ∷ us) vs e same = absurd (let size = ap length e in let long = length-append us vs in omega (arith, size, long, same))
back_same (x ∷ xs) ys [] vs e same = absurd (let size = ap length e in let long = length-append xs ys in omega (arith, size, long, same))
back_same (x ∷ xs) ys (u ∷ us) vs e same = back_same xs ys us vs (cons_same x u (xs ++ ys) (us ++ vs) e).1 same

-- what is read so in a run is so up to a turn
pub read_to : (m : Machine) (switches : List Switch) (pins : List (List Level)) (entries : List Entry) (b : ℕ) (came : List Came) (turns : List BoardTurn) → IsInRun m switches pins entries b came turns → SoRead m switches b came turns
    → (ahead : List Came) (c : Came) (before : List Came) → came ≡ ahead ++ c ∷ before → (later past : List BoardTurn) → turns ≡ later ++ past → length past ≡ length before
    → AreSoInTurns (ReadsSwitchTrue m switches b) (c ∷ before) past × AreNotAhead m switches b (c ∷ before)
read_to m switches pins entries b came turns run so ahead c before are later past made long =
    let size : length came ≡ length ahead + length (c ∷ before) = ap length are ∙ length-append ahead (c ∷ before) in
    let f = split_at m switches pins entries b (length before) came turns run (omega (arith, size)) in
    let same = same_place f.ahead f.c f.before ahead c before (sym f.came_is ∙ are) f.at in
    let here = so_at m switches pins entries b (ReadsSwitchTrue m switches b) came turns f.ahead f.c f.before f.later f.t f.past run f.run f.came_is f.turns_is so in
    let count = as_long m switches b f.before f.past (run_before m switches pins entries b f.c f.before f.t f.past f.run).both in
    let at = f.at in
    let turns_same = back_same (f.later ++ f.t ∷ []) f.past later past (append_assoc f.later (f.t ∷ []) f.past ∙ sym f.turns_is ∙ made) (omega (arith, count, at, long)) in
    let Is : Came → List Came → List BoardTurn → Type 0 = λ d came_by z. AreSoInTurns (ReadsSwitchTrue m switches b) (d ∷ came_by) z × AreNotAhead m switches b (d ∷ came_by) in
    subst (λ (z : List BoardTurn). Is c before z) turns_same (subst (λ (z : Came). Is z before f.past) same.0 (subst (λ (z : List Came). Is f.c z f.past) same.1 (here.1, here.2)))

-- what the reactor knows of lines in some turns it knows in those before
knows_tail : (m : Machine) (switches : List Switch) (clocks : List Clocks) (xs ys : List Came) → KnowsLately m switches clocks (xs ++ ys) → KnowsLately m switches clocks ys
knows_tail m switches clocks [] ys k = k
knows_tail m switches clocks (x ∷ xs) ys k = knows_tail m switches clocks xs ys k.1

past_tail : (m : Machine) (switches : List Switch) (ready : ℕ) (xs ys : List Came) → ArePastConnecting m switches ready (xs ++ ys) → ArePastConnecting m switches ready ys
past_tail m switches ready [] ys k = k
past_tail m switches ready (x ∷ xs) ys k = past_tail m switches ready xs ys k.1

-- the answer in a turn of a run, by the turns of the board before it
record Answered (m : Machine) (switches : List Switch) (pins : List (List Level)) (entries : List Entry) (b start axis : ℕ) (before : List Came) (turns : List BoardTurn) (tick : ℕ) : Type 0 where
  later : List BoardTurn
  past : List BoardTurn
  are : turns ≡ later ++ past
  long : length past ≡ length before
  is : IsTriggerOf m switches pins entries b start axis before past tick

answer_own : (m : Machine) (v : IsValidMachine m) (switches : List Switch) (pins : List (List Level)) (entries : List Entry) (b : ℕ) (came : List Came) (turns : List BoardTurn) → IsInRun m switches pins entries b came turns → SoRead m switches b came turns
    → (ahead : List Came) (c : Came) (before : List Came) → came ≡ ahead ++ c ∷ before → (h : Homing) (tick : ℕ) → (noted m c.note (known_by m switches before)).homing ≡ Some h → (axis_at m h.axis).board ≡ b
    → answer_in (length before) h.start (hears_all (noted m c.note (known_by m switches before)).clocks c.states h).group ≡ Some (Endstop tick) → Answered m switches pins entries b h.start h.axis before turns tick
answer_own m v switches pins entries b came turns run so ahead c before are h tick known on answer =
    let size : length came ≡ length ahead + length (c ∷ before) = ap length are ∙ length-append ahead (c ∷ before) in
    let f = split_at m switches pins entries b (length before) came turns run (omega (arith, size)) in
    let same = same_place f.ahead f.c f.before ahead c before (sym f.came_is ∙ are) f.at in
    let here = so_at m switches pins entries b (ReadsSwitchTrue m switches b) came turns f.ahead f.c f.before f.later f.t f.past run f.run f.came_is f.turns_is so in
    let was_run = run_before m switches pins entries b f.c f.before f.t f.past f.run in
    let count = as_long m switches b f.before f.past was_run.both in
    let at = f.at in
    let Says : Came → List Came → Type 0 = λ d. λ past. (noted m d.note (known_by m switches past)).homing ≡ Some h
    → answer_in (length past) h.start (hears_all (noted m d.note (known_by m switches past)).clocks d.states h).group ≡ Some (Endstop tick) → IsTriggerOf m switches pins entries b h.start h.axis past f.past tick in
    let was : Says f.c f.before = λ is ends. answered_read m v switches pins entries b f.c f.before f.past h tick was_run f.run.both.0 here.0 here.1 here.2 is on ends in record {
      later = f.later ++ f.t ∷ [];
      past = f.past;
      are = f.turns_is ∙ sym (append_assoc f.later (f.t ∷ []) f.past);
      long = omega (arith, count, at);
      is = subst (λ (z : Came). Says z before) same.0 (subst (λ (z : List Came). Says f.c z) same.1 was) known answer;
    }

module _ (m : Machine) (v : IsValidMachine m) (s : Scene) (ts : List MotionTurn) (p : Plans m (length m.boards) ts) (t : Told) (first : ReactorTurn) (rest : List ReactorTurn) (end : ReactorTurn) (c : Cause) (told : p.seen.told ≡ Some t) (f : Facts m s ts (first ∷ rest) end c)
    (short : HaveShortDictionaries m) (reads : AllSwitchesReadTrue m s ts (first ∷ (rest ++ end ∷ []))) where
  abbrev Heard : List Came
  Heard = Came_all m v s ts p t first rest end c told f short

  -- what each board tells is read so
  pub all_so : (b : ℕ) (low : b < length m.boards) → SoRead m s.switches b Heard (Turns_of m v s ts p t first rest end c told f short b low)
  all_so b low =
      let r = turn m v s ts p t first rest end c told f short in
      let l = lines m v s ts p t first rest end c told f short b low in
      let turns = Turns_of m v s ts p t first rest end c told f short b low in
      let ready = By m v s ts p t first rest end c told f short in
      let long = came_long [] (first ∷ rest) in
      let Reads : List Came → Type 0 = λ z. AllRead (ReadsSwitchTrue m s.switches b) z turns in
      let so = so_begun m s.switches b ts p ready t.first t.clocks Heard r.early (row m v s ts p t first rest end c told f short) (by m v s ts p t first rest end c told f short) (connected m v s ts p t first rest end c told f short)
      l.tracked.kept (knows m v s ts p t first rest end c told f short)
      (λ past x later axis cut home near. starts_behind m v b (length rest) ready t.first t.clocks p.seen.begun low l (row m v s ts p t first rest end c told f short) r.early past x later cut (omega (arith, near, long))) in
      (so.0, subst Reads (came_cut [] first rest end) (reads b low (whole m v s ts p t first rest end c told f short b low)), so.1)

  -- where the board took the command of a section before its start, its trigger tick is the first tick at which the switch closes
  module _ (ahead : List Came) (y : Came) (before : List Came) (are : Heard ≡ ahead ++ y ∷ before) (past : List Started) (x : Started) (later : List Started) (axis : ℕ) (cut : p.seen.begun ≡ past ++ x ∷ later) (home : x.section.kind ≡ Home axis)
      (there : (axis_at m axis).board < length m.boards) (soon : x.start ≤ length before) where
    abbrev Board : ℕ
    Board = (axis_at m axis).board

    abbrev Pins : List (List Level)
    Pins = pins_of (board_at m Board) Board s.switches

    first_of : (turns : List BoardTurn) (tick : ℕ) (k : IsTriggerOf m s.switches Pins s.entries Board x.start axis before turns tick) → k.turn < x.start → ClosesAt m s t.clocks x axis tick
    first_of turns tick k low =
        let r = turn m v s ts p t first rest end c told f short in
        let l = lines m v s ts p t first rest end c told f short Board there in
        let in_row = row m v s ts p t first rest end c told f short in
        let ready = By m v s ts p t first rest end c told f short in
        let long = came_long [] (first ∷ rest) in
        let size = ap length are ∙ length-append ahead (y ∷ before) in
        let own : ℕ → ℕ = λ n. board_tick (clock_of (board_at m Board)) n in
        let base = lines_tick (clocks_at t.clocks Board) (x.start * turn_ns) in
        let within : x.start ≤ length rest + 1 = omega (arith, size, long, soon) in
        let order = starts_behind m v Board (length rest) ready t.first t.clocks p.seen.begun there l in_row r.early past x later cut within in
        let near = starts_near m v Board (length rest) ready t.first t.clocks p.seen.begun there l in_row r.early past x later cut within in
        let Row : List Started → Type 0 = λ z. AreInARow t.first z in
        let at = (row_from t.first past x later (subst Row cut in_row)).0 in
        let early = r.early in
        let Knows : List Came → Type 0 = λ z. KnowsLately m s.switches t.clocks z in
        let Past : List Came → Type 0 = λ z. ArePastConnecting m s.switches ready z in
        let knows_here = knows_tail m s.switches t.clocks ahead (y ∷ before) (subst Knows are (knows m v s ts p t first rest end c told f short)) in
        let past_here = past_tail m s.switches ready ahead (y ∷ before) (subst Past are (connected m v s ts p t first rest end c told f short)) in
        let lines_are = knew_tick m s.switches Board ready (x.start - 250) x.start axis k.read.lines t.clocks before (omega arith) (omega (arith, at, early)) l.tracked.kept past_here.1 knows_here.1 k.read.knew in
        let In : List Started → Type 0 = λ z. StartInRange (clocks_at t.clocks Board) z in
        let small : base < 2 ^ 64 = range_at (clocks_at t.clocks Board) past x later (subst In cut (range m v s ts p t first rest end c told f short Board there)) in
        let freq = (valid_at m.boards Board there v.boards).freq.low in
        let turn_at = k.took.at in
        let set_up = k.took.set_up in
        let long_since = length-append k.took.since k.took.early in
        let clock = clock_of (board_at m Board) in
        let up : own k.turn ≤ own (x.start - 1) = rise clock.start clock.freq k.turn (x.start - 1) clock.drift (omega (arith, low)) in
        let from : own (x.start - 250) ≤ own k.turn = rise clock.start clock.freq (x.start - 250) k.turn clock.drift (omega (arith, turn_at, set_up, long_since)) in
        exact_tick m Board x.start (axis_at m axis) k.read.lines Pins base (own k.turn) tick (omega (arith, freq)) lines_are small (omega (arith, up, order)) (omega (arith, near, from)) k.read.complete

  cut_own : (ahead : List Came) (y : Came) (before : List Came) (lines_of : List ReportLine) (x : TellsAnswer m s.switches y before lines_of) → Heard ≡ ahead ++ y ∷ before → IsTriggerIn m s p.seen ts first (rest ++ end ∷ []) x.homing.section before x.tick
  cut_own ahead y before lines_of x are =
      let plan = by m v s ts p t first rest end c told f short in
      let Goes : List Came → Type 0 = λ z. GoesOn m s.switches z in
      let Notes : List Came → Type 0 = λ z. CameNotes p.seen.begun z in
      let goes = goes_behind m s.switches ahead (y ∷ before) (subst Goes are plan.goes_on) in
      let notes = notes_behind p.seen.begun ahead (y ∷ before) (subst Notes are plan.notes) in
      let was : WasBegun p.seen.begun (Some x.homing) = subst (λ (o : Option Homing). WasBegun p.seen.begun o) x.known (now_was m s.switches p.seen.begun y before goes.1 notes) in
      let (us, u, vs, axis, cut, home, start, group, place, axis_is, last) = was in
      let low = axis_low m (length p.seen.begun) (outcome_of m p.seen.text).deeds us u vs axis (ap (map (λ z. z.section)) (sym cut) ∙ of_sections m ts p) home in
      let three = v.axes_three in
      let there = axis_board m m.axes axis (omega (arith, low, three)) v.axes in
      let b = (axis_at m axis).board in
      let pins = pins_of (board_at m b) b s.switches in
      let turns = Turns_of m v s ts p t first rest end c told f short b there in
      let k = answer_own m v s.switches pins s.entries b Heard turns (run_of m v s ts p t first rest end c told f short b there) (all_so b there)
      ahead y before are x.homing x.tick x.known (ap (λ (n : ℕ). (axis_at m n).board) axis_is) x.answer in
      let Is : ℕ → ℕ → Type 0 = λ n i. IsTriggerOf m s.switches pins s.entries b n i before k.past x.tick in
      let is : Is u.start axis = subst (λ (n : ℕ). Is n axis) start (subst (λ (i : ℕ). Is x.homing.start i) axis_is k.is) in
      let late = answer_late (length before) x.homing.start (hears_all (noted m y.note (known_by m s.switches before)).clocks y.states x.homing).group (Endstop x.tick) x.answer in
      record {
        past = us;
        x = u;
        later = vs;
        axis = axis;
        cut = cut;
        number = place;
        home = home;
        board = b;
        board_is = refl;
        there = there;
        w = whole m v s ts p t first rest end c told f short b there;
        others = k.later;
        turns = k.past;
        are = k.are;
        long = k.long;
        is = is;
        exact = λ before_start. record {
          told = t;
          told_is = told;
          past = us;
          x = u;
          later = vs;
          axis = axis;
          cut = cut;
          number = place;
          home = home;
          closes = first_of ahead y before are us u vs axis cut home there (omega (arith, late, start)) k.past x.tick is before_start;
        };
      }

  pub own_turns : (before : List Came) (rs : List ReactorTurn) → Heard ≡ came_from before rs → TellTriggersBehind m s p.seen ts first (rest ++ end ∷ []) before rs
  own_turns before [] are = tt
  own_turns before (r ∷ rs) are = let a = came_ahead (came_in r ∷ before) rs in (λ x. cut_own a.0 (came_in r) before r.lines x (are ∙ a.1), own_turns (came_in r ∷ before) rs are)

-- where no section was begun no turn tells of a switch
no_line : (m : Machine) (switches : List Switch) (i : ℕ) (a : AxisDef) (tick : ℕ) → [] ≡ cut_line m switches i a (Some tick) → ⊥
no_line m switches i a tick e = cc

pub none_ends : (m : Machine) (s : Scene) (seen : PlannerInput) (k : ℕ) (before : List Came) (r : ReactorTurn) (rs : List ReactorTurn) → seen.begun ≡ [] → TellEnds m s.switches seen.begun k (r ∷ rs) → TellsAnswer m s.switches (came_in r) before r.lines → ⊥
none_ends m s seen k before r rs none ends x = elim ends.0 [
  | inl w ↦ (let e = w.ended in in_none e.past e.s e.later seen.begun none e.cut)
  | inr n ↦ no_line m s.switches x.homing.section (axis_at m x.homing.axis) x.tick (sym n.lines_are ∙ x.lines_are)
]

none_own : (m : Machine) (s : Scene) (ts : List MotionTurn) (first : ReactorTurn) (rest : List ReactorTurn) (seen : PlannerInput) (k : ℕ) (before : List Came) (rs last : List ReactorTurn) → seen.begun ≡ [] → TellEnds m s.switches seen.begun k (rs ++ last)
    → TellTriggersBehind m s seen ts first rest before rs
none_own m s ts first rest seen k before [] last none ends = tt
none_own m s ts first rest seen k before (r ∷ rs) last none ends = (
  λ x. absurd (none_ends m s seen k before r (rs ++ last) none ends x),
  none_own m s ts first rest seen (k + 1) (came_in r ∷ before) rs last none ends.1,
)

module _ (m : Machine) (v : IsValidMachine m) (s : Scene) (ts : List MotionTurn) (p : Plans m (length m.boards) ts) (end : ReactorTurn) (c : Cause) (short : HaveShortDictionaries m) where
  own_by : (o : Option Told) (first : ReactorTurn) (rest : List ReactorTurn) → Ended m s ts (first ∷ rest) end c → p.seen.told ≡ o → AllSwitchesReadTrue m s ts (first ∷ (rest ++ end ∷ [])) → TellTriggers m s p.seen ts (first ∷ rest) end
  own_by None first rest e told reads = none_own m s ts first (rest ++ end ∷ []) p.seen 0 [] (first ∷ rest) (end ∷ []) (not_told m v s ts p end c told) (all_ends m v s ts p end c (first ∷ rest) e)
  own_by (Some t) first rest e told reads = own_turns m v s ts p t first rest end c told e.facts short reads [] (first ∷ rest) refl

  all_own : (rs : List ReactorTurn) → Ended m s ts rs end c → AllSwitchesReadTrue m s ts (rs ++ end ∷ []) → TellTriggers m s p.seen ts rs end
  all_own [] e reads = tt
  all_own (first ∷ rest) e reads = own_by p.seen.told first rest e refl reads

pub run_own : {F S : Type 0} (f : Files F) (o : Sink S) (m : Machine) (s : Scene) (name : List ℕ) (files files' : F) (out out' : S) (kept kept' : Kept) (t : near.Told Run) (r : RunsOver f o m s name files out kept t files' out' kept') → IsValidMachine m → HaveShortDictionaries m → (text : List ℕ)
    → f.told files name ≡ Some text → kept.at ≡ 0 → (t.cause ≡ cause.Memory → ⊥) → AllSwitchesReadTrue m s r.runs.0 (r.runs.1 ++ r.runs.2 ∷ []) → ∥ ((made : IsMade m s r.runs.0 r.runs.1) × (made.plans.seen.text ≡ text) × TellTriggers m s made.plans.seen r.runs.0 r.runs.1 r.runs.2) ∥₁
run_own f o m s name files files' out out' kept kept' t r v short text told at other reads =
    ∥∥₁_map (run_made f o m s name files files' out out' kept kept' t r text told at)
    (λ w. (w.0, w.1, all_own m v s r.runs.0 w.0.plans r.runs.2 t.cause short r.runs.1 (run_ended f o m s name files files' out out' kept kept' t r other) reads))
