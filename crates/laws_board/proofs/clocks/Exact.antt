-- Where no entry is used on a link while connecting, the board's first clock line is taken at once, and exact where its clock is.
use Rattle.std.proofs.Common.{◌≡◌, ℕ, ◌+◌, ◌-◌, ◌*◌, ◌%◌, ◌^◌, ◌<◌, ◌≤◌, true, List, [], ◌∷◌, length, Option, Some, None, pos, ap, sym, ◌∙◌, subst, arith}
use Rattle.std.specs.List.{All}
use Rattle.laws_board.proofs.Names.{Level, Machine, Line, board_tick, clock_of, tick, turn_ns, board_at, Entry, Switch, Down, Up, Known, Connecting, noted, Reacted, Came, known_by, last_reacted, Control, State, Asking, first_state}
use Rattle.wire_scene.specs.Wire.{entries_of}
use Rattle.host_reactor.specs.Reactor.{phase_after}
use Rattle.clock_line.specs.declared.sample.Sample.{Sample}
use Rattle.clock_line.specs.Samples.{sampled}
use Rattle.laws_board.specs.turns.Turns.{BoardTurn, stands_after}
use Rattle.laws_board.specs.clocks.Near.{IsExact, IsUndisturbed}
use Rattle.laws_board.specs.clocks.Runs.{IsInRun}
use Rattle.laws_board.specs.clocks.Samples.{IsSample, IsSampled, IsSampledAtOnce, lines_told}
use Rattle.laws_board.proofs.clocks.Clear.{AllConnecting, sample_now, unused}
use Rattle.laws_board.proofs.clocks.Lines.{noted_phase, run_before, told_lines, turn_of}
use Rattle.laws_board.proofs.clocks.Near.{exact_near}
use Rattle.laws_board.proofs.clocks.Ordering.{tells}
use Rattle.laws_board.proofs.clocks.Turning.{Asks, BoardTurned, Ends, Runs}
use Rattle.host_reactor.proofs.Connects.{stop-phase}

was_connecting : (m : Machine) (r : Known) (b k : ℕ) (states : List State) (a : Asking) (x : Reacted) (c : Control) → BoardTurned m r b k states a x c → x.known.phase ≡ Connecting → r.phase ≡ Connecting
was_connecting m r b k states a x c (Asks p g) e = p
was_connecting m r b k states a x c (Ends p g) e = p
was_connecting m r b k states a x c (Runs p g) e = absurd (stop-phase g.stop (sym g.phase ∙ e))

connecting_all : (m : Machine) (switches : List Switch) (pins : List (List Level)) (entries : List Entry) (b : ℕ) (came : List Came) (turns : List BoardTurn)
    → IsInRun m switches pins entries b came turns → (known_by m switches came).phase ≡ Connecting → AllConnecting turns
connecting_all m switches pins entries b [] [] r e = tt
connecting_all m switches pins entries b [] (t ∷ turns) r e = absurd r.both
connecting_all m switches pins entries b (c ∷ before) [] r e = absurd r.both
connecting_all m switches pins entries b (c ∷ before) (t ∷ turns) r e =
    let x = turn_of m switches pins entries b c before t turns r in
    let n = noted m c.note (known_by m switches before) in
    let was : (known_by m switches before).phase ≡ Connecting =
    sym (noted_phase m c.note (known_by m switches before)) ∙ was_connecting m n b (length before) c.states x.a (last_reacted m switches c before) t.control x.turned e in
    ((tells m switches pins entries b c before t turns r).2 was, connecting_all m switches pins entries b before turns (run_before m switches pins entries b c before t turns r) was)

-- a line that is taken at once gives an exact clock's own tick of each later turn
exact_line : (m : Machine) (b : ℕ) (turns : List BoardTurn) (s : Sample) (k : ℕ) → (board_at m b).freq % 1_000 ≡ 0 → (board_at m b).drift ≡ pos 0 → IsSample (clock_of (board_at m b)) turns s → s.got ≡ s.sent
    → s.sent ≤ k → tick (sampled s (board_at m b).freq) (k * turn_ns) ≡ board_tick (clock_of (board_at m b)) k
exact_line m b turns s k f d i e l =
    let n = exact_near (clock_of (board_at m b)) turns s k f d i l in
    let low = n.0 in
    let high = n.1 in
    let none : k + (s.got - s.sent) ≡ k = omega arith in
    let same = ap (board_tick (clock_of (board_at m b))) none in
    omega arith

line_exact : (m : Machine) (b : ℕ) (turns : List BoardTurn) (line : Line) → (board_at m b).freq % 1_000 ≡ 0 → ((s : Sample) → IsSample (clock_of (board_at m b)) turns s → s.got ≡ s.sent) → IsSampled (clock_of (board_at m b)) turns line
    → IsSampledAtOnce (clock_of (board_at m b)) turns line × ((board_at m b).drift ≡ pos 0 → IsExact (clock_of (board_at m b)) line)
line_exact m b turns line f now x =
    let clock = clock_of (board_at m b) in
    let s = x.0 in
    let same = now s x.1 in (
      (s, x.1, x.2, same),
      λ z. subst (λ (l : Line). IsExact clock l) (sym x.2) (λ k from. let low : s.sent ≤ k = omega arith in exact_line m b turns s k f z x.1 same low),
    )

pub lines_exact : (m : Machine) (switches : List Switch) (pins : List (List Level)) (entries : List Entry) (b : ℕ) (c : Came) (before : List Came) (t : BoardTurn) (turns : List BoardTurn)
    → IsInRun m switches pins entries b (c ∷ before) (t ∷ turns) → (known_by m switches before).phase ≡ Connecting → IsUndisturbed (stands_after (first_state (board_at m b) pins b entries) turns) → (board_at m b).freq % 1_000 ≡ 0
    → All (λ l. IsSampledAtOnce (clock_of (board_at m b)) turns l × ((board_at m b).drift ≡ pos 0 → IsExact (clock_of (board_at m b)) l)) (lines_told b (last_reacted m switches c before).ordered.word.news)
lines_exact m switches pins entries b c before t turns r p u f =
    let rest = run_before m switches pins entries b c before t turns r in
    let all = connecting_all m switches pins entries b before turns rest p in
    let few : board_tick (clock_of (board_at m b)) (length turns) < 2 ^ 64 = let k = rest.in_range in omega arith in
    let now = sample_now (board_at m b) pins b entries turns rest.turns_are u all few in
    λ i x l. line_exact m b turns _ f now (told_lines m switches pins entries b c before t turns r i x l)

-- no entry is used where there are none for the time while connecting
pub none_disturbs : (m : Machine) (switches : List Switch) (pins : List (List Level)) (entries : List Entry) (b : ℕ) (came : List Came) (turns : List BoardTurn)
    → IsInRun m switches pins entries b came turns → (known_by m switches came).phase ≡ Connecting → entries_of b Down true entries ≡ [] → entries_of b Up true entries ≡ []
    → IsUndisturbed (stands_after (first_state (board_at m b) pins b entries) turns)
none_disturbs m switches pins entries b came turns r p d u = unused (board_at m b) pins b entries turns r.turns_are d u (connecting_all m switches pins entries b came turns r p)
