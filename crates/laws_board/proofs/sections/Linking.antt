-- A link's turns as steps.
use Rattle.std.proofs.lemmas.Int.{ints}
use Rattle.std.proofs.Common.{◌≡◌, ℕ, ℤ, zero, suc, pos, negsuc, Bool, ◌+◌, ◌*◌, ◌≤◌, ◌≤ℤ◌, List, [], ◌∷◌, ◌++◌, length, refl, ap, sym, ◌∙◌, subst, arith, append_assoc, append-nil, ◌≢◌, ◌⊎◌, inl, inr, true, false, ◌↔◌, rules}
use Rattle.laws_board.proofs.sections.Windows.{quiet_made}
use Rattle.board_sim.proofs.RigShut.{passes_left}
use Rattle.board_sim.proofs.RigStates.{passes_state}
use Rattle.laws_board.proofs.Names.{is_shut, Rig, passes, Running, Shut, BoardState, BoardDef, BoardClock, board_tick, clock_of, State, Down, Up, Core, Step, Do, Turn, run_world, new_world, world_after, after_event, LinkState, Orders, after_board, after_host, come, IsTurn, AreTurns, run_append}
use Rattle.plan_types.specs.Clock.{own_tick, rate}
use Rattle.plan_types.specs.Machines.{IsValidBoard}
use Rattle.plan_types.proofs.OwnTicks.{rise}
use Rattle.std.proofs.Math.Nat.{mul-le-mul_right}
use Rattle.wire_scene.specs.declared.scene.Way.{Way}
use Rattle.wire_scene.specs.declared.wire.Fate.{Fate}
use Rattle.wire_scene.specs.declared.wire.Fate.TheVariants.{Lost, Last, Stays, Garbled}
use Rattle.wire_scene.specs.Wire.{Copy}
use Rattle.board_world.specs.declared.event.Event.TheVariants as event
use Rattle.link_work.specs.Turn.{after_replies, board_steps, comes, host_steps, resends, sends}
use Rattle.link_work.proofs.Steps.{AllOf, all_append, all_come, all_resent, all_sent}
use Rattle.laws_board.specs.sections.Events.{QueuesNothing, AreOwn, AreQuiet, IsTurnOf, AreTurnsOf, AreTicks}
use Rattle.laws_board.specs.sections.Links.{steps_of_turn, steps_of, AreTold, pulses_in, turns_told}

-- two tests of one fact agree
pub same_bool : (a b : Bool) (P : Type 0) → (a ≡ true) ↔ P → (b ≡ true) ↔ P → a ≡ b
same_bool true b P f g = sym (g.1 (f.0 refl))
same_bool false true P f g = f.1 (g.0 refl)
same_bool false false P f g = refl

are_quiet : (steps : List Step) → AllOf QueuesNothing steps → AreQuiet steps
are_quiet [] a = tt
are_quiet (s ∷ steps) a = (a.0, are_quiet steps a.1)

comes_quiet : (way : Way) (fate : Fate) → AllOf QueuesNothing (comes way fate)
comes_quiet Down Stays = (tt, (tt, tt))
comes_quiet Up Last = (tt, (tt, tt))
comes_quiet Up Stays = (tt, (tt, (tt, tt)))
comes_quiet Down c = (tt, tt)
comes_quiet Up c = (tt, tt)

come_quiet : (way : Way) (turn : ℕ) (copies : List Copy) → AllOf QueuesNothing (come way turn copies)
come_quiet way turn copies = all_come QueuesNothing way (λ fate. comes_quiet way fate) turn copies

-- the steps of a link's turn are those of a turn
pub one_turn : (clock : BoardClock) (turn : ℕ) (o : Orders) (resent : Bool) (l : LinkState) → IsTurnOf (board_tick clock) turn o (steps_of_turn clock turn o resent l)
one_turn clock turn o resent l =
    let m = after_host turn o resent l in
    let sent = resends resent ++ sends 12 in
    let down = come Down turn m.down.copies in
    let up = come Up turn (after_board clock turn m).up.copies in
    let pass = Do (event.Pass (board_tick clock (turn + 1))) in
    record {
      before = sent ++ down;
      after = up;
      are = ap (λ x. Turn turn ∷ Do (event.Control o.control) ∷ Do (event.Put o.batch) ∷ x)
          (ap (λ x. sent ++ x) (append_assoc down (pass ∷ []) up) ∙ sym (append_assoc sent down (pass ∷ up)));
      before_quiet = are_quiet (sent ++ down) (all_append QueuesNothing sent down (all_append QueuesNothing (resends resent) (sends 12) (all_resent QueuesNothing tt resent) (all_sent QueuesNothing tt 12)) (come_quiet Down turn m.down.copies));
      after_quiet = are_quiet up (come_quiet Up turn (after_board clock turn m).up.copies);
    }

pub turn_runs : (clock : BoardClock) (turn : ℕ) (o : Orders) (resent : Bool) (l : LinkState)
    → (after_replies turn (after_board clock turn (after_host turn o resent l))).core ≡ run_world (steps_of_turn clock turn o resent l) l.core
turn_runs clock turn o resent l = search (rules, after_host, come, after_board, run_append)

unfoldable pub turns_are : (clock : BoardClock) (turn : ℕ) (os : List Orders) (l m : LinkState) (t : AreTurns clock turn os l m)
    → (m.core ≡ run_world (steps_of clock turn os l m t) l.core) × AreTurnsOf (board_tick clock) turn os (steps_of clock turn os l m t)
turns_are clock turn [] l m t = (ap (λ (x : LinkState). x.core) t, refl)
turns_are clock turn (o ∷ os) l m t =
    let (mid, one, more) = t in
    let first = steps_of_turn clock turn o one.resent l in
    let later = steps_of clock (turn + 1) os mid m more in
    let rest = turns_are clock (turn + 1) os mid m more in (
      rest.0 ∙ ap (λ h. run_world later h) (ap (λ (x : LinkState). x.core) one.becomes ∙ turn_runs clock turn o one.resent l) ∙ sym (run_append first later l.core),
      (first, later, refl, one_turn clock turn o one.resent l, rest.1),
    )

pub turns_append : (own : ℕ → ℕ) (turn : ℕ) (xs ys : List Orders) (first second : List Step) → AreTurnsOf own turn xs first → AreTurnsOf own (turn + length xs) ys second
    → AreTurnsOf own turn (xs ++ ys) (first ++ second)
turns_append own turn [] ys first second a b =
    let e : turn + 0 ≡ turn = omega arith in
    let At : List Step → Type 0 = λ x. AreTurnsOf own turn ys (x ++ second) in
    subst At (sym a) (rw e at b)
turns_append own turn (x ∷ xs) ys first second a b =
    let (one, rest, are, is, more) = a in
    let e : turn + length (x ∷ xs) ≡ turn + 1 + length xs = omega arith in
    (one, rest ++ second, ap (λ t. t ++ second) are ∙ append_assoc one rest second, is, turns_append own (turn + 1) xs ys rest second more (rw e at b))

-- the ticks of a board that may drift
pub rate_most : (drift : ℤ) → drift ≤ℤ pos 200 → rate drift ≤ 1_000_200
rate_most (pos n) h = omega (arith, ints, h)
rate_most (negsuc n) h = omega arith

-- a valid board has at most 200,041 ticks a turn
tick_few : (start freq k : ℕ) (drift : ℤ) → freq ≤ 200_000_000 → drift ≤ℤ pos 200 → own_tick start freq drift (k + 1) ≤ own_tick start freq drift k + 200_041
unfolding own_tick
tick_few start freq k drift h e =
    let more : (k + 1) * freq * rate drift ≡ k * freq * rate drift + freq * rate drift = grind arith in
    let most : freq * rate drift ≤ 200_000_000 * rate drift = mul-le-mul_right (rate drift) h in
    omega (arith, more, most, rate_most drift e)

pub valid_ticks : (b : BoardDef) → IsValidBoard b → AreTicks (board_tick (clock_of b))
valid_ticks b v = search (rules, rise, tick_few)

pub own_ticks : (b : BoardDef) (turns : ℕ) → IsValidBoard b → AreOwn b turns (board_tick (clock_of b))
own_ticks b turns v = record { ticks = valid_ticks b v; few = λ k. tick_few b.start b.freq k b.drift v.freq.high v.drift_high; same = λ k low. refl }

pub first_tick : (b : BoardDef) → board_tick (clock_of b) 0 ≡ b.start
unfolding own_tick
first_tick b = omega arith

pub own_first : (b : BoardDef) (turns : ℕ) (own : ℕ → ℕ) → AreOwn b turns own → own 0 ≡ b.start
own_first b turns own o = o.same 0 (omega arith) ∙ first_tick b

pub own_few : (b : BoardDef) (turns : ℕ) (own : ℕ → ℕ) → AreOwn b turns own → (j k : ℕ) → own (k + j) ≤ own k + 200_041 * j
own_few b turns own o zero k = let e : k + 0 ≡ k = omega arith in rw e (omega arith)
own_few b turns own o (suc j) k =
    let e : k + suc j ≡ k + j + 1 = omega arith in
    rw e (omega (arith, own_few b turns own o j k, o.few (k + j)))

-- the turns of a board are those of any ticks that are the same by their end
pub next_within : (turn last : ℕ) (o : Orders) (os : List Orders) → turn + length (o ∷ os) ≤ last → turn + 1 + length os ≤ last
next_within turn last o os within = omega (arith, within)

pub turn_owned : (own : ℕ → ℕ) (turn : ℕ) (o : Orders) (steps : List Step) (other : ℕ → ℕ) → own (turn + 1) ≡ other (turn + 1) → IsTurnOf other turn o steps → IsTurnOf own turn o steps
turn_owned own turn o steps other same i = record {
  before = i.before;
  after = i.after;
  are = i.are ∙ ap (λ t. Turn turn ∷ Do (event.Control o.control) ∷ Do (event.Put o.batch) ∷ i.before ++ Do (event.Pass t) ∷ i.after) (sym same);
  before_quiet = i.before_quiet;
  after_quiet = i.after_quiet;
}

unfoldable pub turns_owned : (b : BoardDef) (own : ℕ → ℕ) (last turn : ℕ) (os : List Orders) (steps : List Step) → AreOwn b last own → turn + length os ≤ last
    → AreTurnsOf (board_tick (clock_of b)) turn os steps → AreTurnsOf own turn os steps
turns_owned b own last turn [] steps same within t = t
turns_owned b own last turn (o ∷ os) steps same within t = (
  t.0,
  t.1,
  t.2,
  turn_owned own turn o t.0 (board_tick (clock_of b)) (same.same (turn + 1) (omega (arith, within))) t.3,
  turns_owned b own last (turn + 1) os t.1 same (next_within turn last o os within) t.4,
)

-- the states of turns tell the pulses that were made in them
pub told_made : (clock : BoardClock) (turn : ℕ) (os : List Orders) (states : List State) (l m : LinkState) → AreTold clock turn os states l m → l.core.made ++ pulses_in states ≡ m.core.made
told_made clock turn [] states l m t =
    ap (λ x. l.core.made ++ pulses_in x) t.0 ∙ append-nil l.core.made ∙ ap (λ (x : LinkState). x.core.made) (sym t.1)
told_made clock turn (o ∷ os) [] l m t = absurd t
told_made clock turn (o ∷ os) (s ∷ states) l m t =
    let (mid, one, told, more) = t in
    sym (append_assoc l.core.made s.pulses (pulses_in states)) ∙ ap (λ x. x ++ pulses_in states) told.pulses ∙ told_made clock (turn + 1) os states mid m more

pub told_both : (clock : BoardClock) (turn : ℕ) (os : List Orders) (states : List State) (l m : LinkState) → AreTold clock turn os states l m
    → AreTurns clock turn os l m × (l.core.made ++ pulses_in states ≡ m.core.made)
told_both clock turn os states l m t = (turns_told clock turn os states l m t, told_made clock turn os states l m t)

-- A turn of a link that makes a pulse leaves the board running.
abbrev LeavesBoard : Step → Type 0
LeavesBoard s = (h : Core) → (world_after h s).board ≡ h.board

comes_leave : (fate : Fate) → AllOf LeavesBoard (comes Up fate)
comes_leave Last = (λ h. refl, (λ h. refl, tt))
comes_leave Stays = (λ h. refl, (λ h. refl, (λ h. refl, tt)))
comes_leave c = (λ h. refl, tt)

run_leaves : (steps : List Step) (h : Core) → AllOf LeavesBoard steps → (run_world steps h).board ≡ h.board
run_leaves [] h a = refl
run_leaves (s ∷ steps) h a = run_leaves steps (world_after h s) a.1 ∙ a.0 h

comes_leave_way : (way : Way) (turn : ℕ) (copies : List Copy) → way ≡ Up → AllOf LeavesBoard (come way turn copies)
comes_leave_way way turn copies e =
    let At : Way → Type 0 = λ w. AllOf LeavesBoard (come w turn copies) in
    subst At (sym e) (all_come LeavesBoard Up comes_leave turn copies)

state_or : (o : BoardState) (r : Rig) (t : ℕ) → r.controller.state ≡ o → (o ≡ Running) ⊎ ((passes r t).pulses ≡ [])
state_or Running r t e = inl refl
state_or (Shut reason tick first) r t e = inr (passes_left r t (ap is_shut e)).0

pub pulse_runs : (clock : BoardClock) (turn : ℕ) (o : Orders) (l m : LinkState) → IsTurn clock turn o l m → m.core.made ≢ l.core.made → m.core.board.controller.state ≡ Running
pulse_runs clock turn o l m t more =
    let n = after_host turn o t.resent l in
    let host = host_steps turn o t.resent in
    let quiet = resends t.resent ++ sends 12 in
    let down = come Down turn n.down.copies in
    let until = board_tick clock (turn + 1) in
    let up = come Up turn (after_board clock turn n).up.copies in
    let h1 = run_world host l.core in
    let h2 = run_world down h1 in
    let h3 = after_event h2 (event.Pass until) in
    let h4 = run_world up h3 in
    let is : m.core ≡ h4 =
    ap (λ (x : LinkState). x.core) t.becomes ∙ turn_runs clock turn o t.resent l ∙ run_append host (board_steps clock turn n.down.copies ++ up) l.core
    ∙ run_append (board_steps clock turn n.down.copies) up h1 ∙ ap (run_world up) (run_append down (Do (event.Pass until) ∷ []) h1) in
    let given = world_after (world_after (world_after l.core (Turn turn)) (Do (event.Control o.control))) (Do (event.Put o.batch)) in
    let host_made : h1.made ≡ l.core.made =
    quiet_made quiet given (are_quiet quiet (all_append QueuesNothing (resends t.resent) (sends 12) (all_resent QueuesNothing tt t.resent) (all_sent QueuesNothing tt 12))) ∙ append-nil (l.core.made ++ []) ∙ append-nil l.core.made in
    let down_made : h2.made ≡ h1.made = quiet_made down h1 (are_quiet down (come_quiet Down turn n.down.copies)) in
    let up_made : h4.made ≡ h3.made = quiet_made up h3 (are_quiet up (come_quiet Up turn (after_board clock turn n).up.copies)) in
    let up_board : h4.board ≡ h3.board = run_leaves up h3 (comes_leave_way Up turn (after_board clock turn n).up.copies refl) in
    elim (state_or h2.board.controller.state h2.board until refl) [
      | inl e ↦ ap (λ (h : Core). h.board.controller.state) is ∙ ap (λ (r : Rig). r.controller.state) up_board ∙ passes_state h2.board until ∙ e
      | inr e ↦ absurd (more (ap (λ (h : Core). h.made) is ∙ up_made ∙ ap (λ x. h2.made ++ x) e ∙ append-nil h2.made ∙ down_made ∙ host_made))
    ]
