-- A board of a run in which axes home keeps what the laws of a run ask for, so it may shut down for two reasons alone.
use Rattle.std.proofs.Common.{◌≡◌, ℕ, ◌+◌, ◌≤◌, List, [], ◌∷◌, length, map, ap, sym, ◌∙◌, subst, arith}
use Rattle.laws_board.proofs.Names.{BoardClock, Shut, clock_of, Entry, Core, run_world, new_world, AreTurns, first_state, LinkState, Orders}
use Rattle.board_sim.specs.Board.{timer_too_close}
use Rattle.laws_board.specs.sections.Boards.{OnBoard}
use Rattle.laws_board.specs.sections.Courses.{IsGoodRun}
use Rattle.laws_board.specs.sections.Ends.{MayBe}
use Rattle.laws_board.specs.sections.Homes.{IsHomeBoard, RunSection}
use Rattle.laws_board.specs.sections.Late.{IsLateUnit}
use Rattle.laws_board.specs.sections.Links.{steps_of, turns_told}
use Rattle.laws_board.proofs.sections.Halted.{reason_is}
use Rattle.laws_board.proofs.sections.Seeking.{late_unit}
use Rattle.laws_board.proofs.sections.Linking.{own_first, turns_are, turns_owned}
use Rattle.laws_board.proofs.sections.HomeBoards.{settled_head, settled_owned}
use Rattle.link_work.proofs.Shut.{one_turn}

-- a board of such a run
pub board_good : (place : ℕ) (entries : List Entry) (ready turns : ℕ) (ss : List RunSection) (x : OnBoard) (k : IsHomeBoard place entries ready turns ss x)
    → IsGoodRun x.board x.pins k.own k.stops x.orders
    (steps_of (clock_of x.board) 0 x.orders (first_state x.board x.pins place entries) k.end (turns_told (clock_of x.board) 0 x.orders x.states (first_state x.board x.pins place entries) k.end k.told))
board_good place entries ready turns ss x k =
    let clock = clock_of x.board in
    let l = first_state x.board x.pins place entries in
    let t = turns_told clock 0 x.orders x.states l k.end k.told in
    let own = k.own in
    let count = k.count in
    let within : 0 + length x.orders ≤ turns = omega (arith, count) in
    let steps = steps_of clock 0 x.orders l k.end t in
    let taken = (turns_are clock 0 x.orders l k.end t).1 in
    record {
      ticks = k.own_is.ticks;
      first = own_first x.board turns own k.own_is;
      ahead = k.run_is.ahead;
      front = k.split.front;
      tail = k.split.tail;
      are = k.split.are;
      good = k.split.good;
      lost = k.split.lost;
      turns = turns_owned x.board own turns 0 x.orders steps k.own_is within taken;
      timely = k.timely;
      settled = settled_owned x.board k.stops k.split.front own turns 0 [] x.orders steps (new_world x.board x.pins) k.own_is within taken (settled_head k.stops k.split.front clock 0 [] x.orders l k.end t k.settled);
      heed = k.heed;
    }

-- so at its end it runs, or shut down as a unit came too late or as it was told to stop
pub board_may : (place : ℕ) (entries : List Entry) (ready turns : ℕ) (ss : List RunSection) (x : OnBoard) (k : IsHomeBoard place entries ready turns ss x) → MayBe k.end.core.board.controller.state
board_may place entries ready turns ss x k =
    let clock = clock_of x.board in
    let l = first_state x.board x.pins place entries in
    let t = turns_told clock 0 x.orders x.states l k.end k.told in
    let steps = steps_of clock 0 x.orders l k.end t in
    let is : k.end.core ≡ run_world steps (new_world x.board x.pins) = (turns_are clock 0 x.orders l k.end t).0 in
    let May : Core → Type 0 = λ h. MayBe h.board.controller.state in
    subst May (sym is) (reason_is x.board x.pins k.own k.stops x.orders steps (board_good place entries ready turns ss x k))

-- turns of the same orders have one end
pub same_end : (clock : BoardClock) (turn : ℕ) (os : List Orders) (l m n : LinkState) → AreTurns clock turn os l m → AreTurns clock turn os l n → m ≡ n
same_end clock turn [] l m n s t = s ∙ sym t
same_end clock turn (o ∷ os) l m n s t =
    let one : t.0 ≡ s.0 = one_turn clock turn o l t.0 s.0 t.1 s.1 in
    let More : LinkState → Type 0 = λ z. AreTurns clock (turn + 1) os z n in
    same_end clock (turn + 1) os s.0 m n s.2 (subst More one t.2)

-- so it does behind any turns of its orders
pub may_at : (place : ℕ) (entries : List Entry) (ready turns : ℕ) (ss : List RunSection) (x : OnBoard) (end : LinkState) → IsHomeBoard place entries ready turns ss x → AreTurns (clock_of x.board) 0 x.orders (first_state x.board x.pins place entries) end
    → MayBe end.core.board.controller.state
may_at place entries ready turns ss x end k t =
    let clock = clock_of x.board in
    let l = first_state x.board x.pins place entries in
    let May : LinkState → Type 0 = λ e. MayBe e.core.board.controller.state in
    subst May (same_end clock 0 x.orders l k.end end (turns_told clock 0 x.orders x.states l k.end k.told) t) (board_may place entries ready turns ss x k)

-- and where it shut down since steps came too late, these were a unit's of its sections
pub late_at : (place : ℕ) (entries : List Entry) (ready turns : ℕ) (ss : List RunSection) (x : OnBoard) (end : LinkState) (tick first : ℕ) → IsHomeBoard place entries ready turns ss x → AreTurns (clock_of x.board) 0 x.orders (first_state x.board x.pins place entries) end
    → end.core.board.controller.state ≡ Shut timer_too_close tick first → IsLateUnit (map (λ s. s.section) ss) tick first
late_at place entries ready turns ss x end tick first k t shut =
    let clock = clock_of x.board in
    let l = first_state x.board x.pins place entries in
    let told = turns_told clock 0 x.orders x.states l k.end k.told in
    let steps = steps_of clock 0 x.orders l k.end told in
    let same = same_end clock 0 x.orders l k.end end told t in
    let is : k.end.core ≡ run_world steps (new_world x.board x.pins) = (turns_are clock 0 x.orders l k.end told).0 in
    late_unit x.board x.pins k.own x.clocks ready k.stops ss x.orders steps tick first k.run_is (board_good place entries ready turns ss x k)
    (ap (λ (h : Core). h.board.controller.state) (sym is) ∙ ap (λ (e : LinkState). e.core.board.controller.state) same ∙ shut)
