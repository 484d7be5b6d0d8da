-- In a scene without entries a board takes the set-up of each homing section in time, as a whole run goes.
use Rattle.std.proofs.Common.{◌≡◌, ℕ, ◌+◌, ◌-◌, ◌<◌, ◌≤◌, List, [], ◌∷◌, ◌++◌, length, ap, sym, ◌∙◌, subst, arith, append_assoc, length-append}
use Rattle.laws_board.proofs.Names.{Level, Machine, clock_of, board_at, Entry, AllKeepLimits, first_state, LinkState, Orders, parts_on, Started, Release, MotionTurn, BoardSection}
use Rattle.laws_board.specs.turns.Turns.{AreBoardTurns, BoardTurn}
use Rattle.laws_board.specs.clocks.Runs.{orders_in}
use Rattle.laws_board.proofs.clocks.Orders.{order_length}
use Rattle.laws_board.specs.sections.Runs.{AreSpilled, IsSpilled}
use Rattle.laws_homing.specs.home_runs.Sections.{TakesSetUp}
use Rattle.laws_homing.proofs.home_runs.Clear.{clear_set_up, first_turns}
use Rattle.laws_homing.proofs.home_runs.Settled.{later_orders}
use Rattle.laws_homing.proofs.home_runs.Windows.{begun}
use Rattle.laws_board.specs.plans.Rows.{AreInARow}
use Rattle.laws_homing.specs.home_parts.Answers.{TakeSetUps}
use Rattle.laws_run.specs.home_headline.Little.{SendsAllInTime, SendsNear}

-- a set-up that was taken in time in some turns was so in more
longer : (first : LinkState) (start : ℕ) (later turns : List BoardTurn) → TakesSetUp first start turns → TakesSetUp first start (later ++ turns)
longer first start later turns k = record {
  window = later ++ k.window;
  late = k.late;
  past = k.past;
  are = ap (λ (x : List BoardTurn). later ++ x) k.are ∙ sym (append_assoc later k.window (k.late ++ k.past));
  queued = k.queued;
  in_time = k.in_time;
  more = k.more;
  took = k.took;
  heard = k.heard;
}

-- what was queued in turns that are not the last ones keeps the limits
front_limits : (all front more : List Orders) → length front < length all → all ≡ front ++ more → ((done : List Orders) (o : Orders) (later : List Orders) → all ≡ done ++ o ∷ later → AllKeepLimits done) → AllKeepLimits front
front_limits all front [] short e limits = absurd (let size = ap length e ∙ length-append front [] in omega (arith, size, short))
front_limits all front (o ∷ more) short e limits = limits front o more e

module _ (m : Machine) (pins : List (List Level)) (entries : List Entry) (b : ℕ) (turns : List BoardTurn) (e : entries ≡ []) (are : AreBoardTurns (clock_of (board_at m b)) (first_state (board_at m b) pins b entries) turns)
    (limits : (done : List Orders) (o : Orders) (more : List Orders) → orders_in turns ≡ done ++ o ∷ more → AllKeepLimits done) where
  one_set_up : (later past : List BoardTurn) (start : ℕ) → turns ≡ later ++ past → 249 ≤ start → start ≤ length past → TakesSetUp (first_state (board_at m b) pins b entries) start past
  one_set_up later past start cut low high =
      let first = first_state (board_at m b) pins b entries in
      let clock = clock_of (board_at m b) in
      let f = first_turns (start - 249) past (omega (arith, high)) in
      let long = f.3 in
      let whole : turns ≡ (later ++ f.0) ++ f.1 = cut ∙ ap (λ (x : List BoardTurn). later ++ x) f.2 ∙ sym (append_assoc later f.0 f.1) in
      let mine : AreBoardTurns clock first f.1 = begun clock first (later ++ f.0) f.1 (subst (λ (x : List BoardTurn). AreBoardTurns clock first x) whole are) in
      let more = later_orders (later ++ f.0) f.1 in
      let size = ap length cut ∙ length-append later past in
      let all = order_length turns in
      let front = order_length f.1 in
      let kept = front_limits (orders_in turns) (orders_in f.1) more.0 (omega (arith, all, front, long, size, low, high)) (ap orders_in whole ∙ more.1) limits in
      let took = clear_set_up (board_at m b) pins b entries f.1 start e mine kept low (omega (arith, long)) in
      subst (TakesSetUp first start) (sym f.2) (longer first start f.0 f.1 took)

  pub clear_set_ups : (ready : ℕ) (begun : List Started) → 249 ≤ ready → AreInARow ready begun → TakeSetUps m pins entries b begun turns
  clear_set_ups ready [] low row = tt
  clear_set_ups ready (s ∷ begun) low row =
      let starts = row.0 in
      let ends = row.1 in
      ((λ axis homes later past cut long. one_set_up later past s.start cut (omega (arith, low, starts)) (omega (arith, ends, long))), clear_set_ups (s.end + 260) begun (omega arith) row.2)

-- where no unit is sent behind the turn in which it is due, none is late
spilled_more : (turns n : ℕ) (rs : List Release) → IsSpilled turns 0 rs → IsSpilled turns n rs
spilled_more turns n [] s = tt
spilled_more turns n (r ∷ rs) s = ((λ due. let soon = s.0 due in omega (arith, soon)), spilled_more turns n rs s.1)

parts_more : (turns n : ℕ) (ss : List BoardSection) → AreSpilled turns 0 ss → AreSpilled turns n ss
parts_more turns n [] s = tt
parts_more turns n (x ∷ ss) s = (spilled_more turns n x.releases s.0, parts_more turns n ss s.1)

pub time_near : (m : Machine) (text : List ℕ) (planned : List MotionTurn) → SendsAllInTime m text planned → SendsNear m text planned
time_near m text planned sends = λ p t b same told low. (let x = sends p t b same told low in parts_more (length p.made) 10_700 (parts_on m t.clocks p.seen.begun b) x)
