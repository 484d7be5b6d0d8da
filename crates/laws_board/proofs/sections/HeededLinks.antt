-- Where few turns of each busy stretch are spoiled, a board takes all units in time, as long as it runs.
use Rattle.std.proofs.Common.{◌≡◌, ℕ, suc, zero, ◌+◌, ◌-◌, ◌^◌, ◌<◌, ◌≤◌, List, [], ◌∷◌, ◌++◌, All, length, take, drop, refl, ap, sym, ◌∙◌, subst, arith, append_assoc, length-append, inl, inr}
use Rattle.laws_board.proofs.Names.{leb_tells, take-append-drop, flat_map, BoardDef, BoardClock, Level, board_tick, clock_of, Clocks, Entry, Core, Step, run_world, new_world, AllKeepLimits, AreTurns, queued_in, first_state, IsTurn, LinkState, Orders, BoardSection}
use Rattle.std.proofs.lemmas.List.{length-take-le, take-append-le}
use Rattle.link_work.specs.Ends.{EndSo, Ended, last_link, spoiled}
use Rattle.link_work.proofs.Late.{last_append}
use Rattle.link_work.proofs.Limits.{units_bytes}
use Rattle.section_units.specs.Sent.{AreSentTo}
use Rattle.laws_board.specs.sections.Events.{AreOwn, AreTurnsOf}
use Rattle.laws_board.specs.sections.Known.{Sent, sent_in}
use Rattle.laws_board.specs.sections.Links.{ends_of, steps_of, steps_of_turn}
use Rattle.laws_board.specs.sections.Parts.{IsBoardRun}
use Rattle.laws_board.specs.sections.Timely.{AllTimely, ControlsKeep}
use Rattle.laws_board.proofs.sections.Heeded.{run_walked}
use Rattle.laws_board.proofs.sections.Heeding.{TakesEnough, timed_timely}
use Rattle.laws_board.proofs.sections.Latest.{AreFew, Reaches}
use Rattle.laws_board.proofs.sections.Limiting.{text_sum}
use Rattle.laws_board.proofs.sections.Linking.{next_within, own_few, own_first, turn_runs, turns_are, turns_owned}
use Rattle.laws_board.proofs.sections.Lists.{cuts, orders_long}
use Rattle.laws_board.proofs.sections.Shutting.{AreSince, since_behind, since_in}
use Rattle.laws_board.proofs.sections.Spans.{sent_in_append}
use Rattle.laws_board.proofs.sections.Spoiled.{end_snoc, most_at, take_all}
use Rattle.laws_board.proofs.sections.Wholes.{sent_orders}

-- turns whose units are few, and whose control commands keep the limits
pub keep_limits : (os : List Orders) → ControlsKeep os → AreFew os → AllKeepLimits os
keep_limits [] c f = tt
keep_limits (o ∷ os) c f =
    let units = o.batch.units in
    (record { controls = c.0; units = (let few = f.0 in omega (arith, few, units_bytes units, text_sum units)); closing = c.1 }, keep_limits os c.2 f.1)

controls_front : (k : ℕ) (os : List Orders) → ControlsKeep os → ControlsKeep (take k os)
controls_front zero os c = tt
controls_front (suc k) [] c = tt
controls_front (suc k) (o ∷ os) c = (c.0, c.1, controls_front k os c.2)

few_front : (j k : ℕ) (os : List Orders) → j ≤ k → AreFew (take k os) → AreFew (take j os)
few_front zero k os h f = tt
few_front (suc j) zero os h f = absurd (omega (arith, h))
few_front (suc j) (suc k) [] h f = tt
few_front (suc j) (suc k) (o ∷ os) h f = (f.0, few_front j k os (omega (arith, h)) f.1)

-- the turns up to that of the cut have more commands than stand before the cut
pub reach_more : (count : ℕ) (os : List Orders) (front tail : List Sent) → sent_in 0 os ≡ front ++ tail → count < length os → Reaches (0 + count) (0 + length os) tail → length front < length (flat_map queued_in (take count os))
reach_more count os front [] is short r = absurd (omega (arith, r, short))
reach_more count os front (s ∷ tail) is short r =
    let xs = take count os in
    let ys = drop count os in
    let long : length xs ≡ count = length-take-le count os (omega (arith, short)) in
    let many : length (flat_map queued_in xs) ≡ length (sent_in 0 xs) = ap length (sym (sent_orders 0 xs)) ∙ orders_long (sent_in 0 xs) in
    let whole : sent_in 0 xs ++ sent_in (0 + length xs) ys ≡ front ++ s ∷ tail = sym (sent_in_append 0 xs ys) ∙ ap (sent_in 0) (take-append-drop count os) ∙ is in
    elim (cuts (sent_in 0 xs) (sent_in (0 + length xs) ys) front (s ∷ tail) whole) [
      | inl p ↦
          let Since : List Sent → Type 0 = λ x. AreSince (0 + length xs) x in
          let at = (since_behind (0 + length xs) p.0 (s ∷ tail) (subst Since p.2 (since_in (0 + length xs) ys))).0 in
          absurd (omega (arith, at, long, r))
      | inr p ↦
          let size = ap length p.2 in
          let both = length-append front (p.0 ∷ p.1) in
          omega (arith, size, both, many)
    ]

abbrev ControlsSoFar : List Orders → Type 0
ControlsSoFar all = (done : List Orders) (o : Orders) (os : List Orders) → all ≡ done ++ (o ∷ os) → ControlsKeep done

-- turn by turn
pub enough_from : (b : BoardDef) (pins : List (List Level)) (board : ℕ) (entries : List Entry) (clock : BoardClock) (n size last turn : ℕ) (all done os : List Orders) (l m : LinkState) (t : AreTurns clock turn os l m)
    (past : List Ended) (h : Core) → h ≡ l.core → turn ≡ length done → all ≡ done ++ os → ControlsSoFar all → last ≤ length all → AreFew (take last all) → (last < length all → size < length (flat_map queued_in (take last all)))
    → EndSo clock 0 done (first_state b pins board entries) past
    → last_link (first_state b pins board entries) past ≡ l → ((k : ℕ) → spoiled (take k (past ++ ends_of clock turn os l m t)) ≤ n)
    → TakesEnough n size all (board_tick clock) turn os (steps_of clock turn os l m t) h (turns_are clock turn os l m t).1
unfolding turns_are
enough_from b pins board entries clock n size most turn all done [] l m t past h same long cut limits short few full e last spare = tt
enough_from b pins board entries clock n size most turn all done (o ∷ os) l m t past h same long cut limits short few full e last spare =
    let first : LinkState = first_state b pins board entries in
    let now : Ended = record { turn = turn; link = t.0 } in
    let later = ends_of clock (turn + 1) os t.0 m t.2 in
    let Few : List Ended → Type 0 = λ x. spoiled x ≤ n in
    let few_now = subst Few (take_all past (now ∷ later)) (spare (length past)) in
    let size_all = ap length cut ∙ length-append done (o ∷ os) in
    let taken_to : (k : ℕ) → k ≤ turn - n → k ≤ most → length (flat_map queued_in (take k all)) ≤ length h.taken = λ k back within.
    (let front : take k all ≡ take k done = ap (take k) cut ∙ take-append-le k done (o ∷ os) (omega (arith, back, long)) in
    let kept = keep_limits (take k done) (controls_front k done (limits done o os cut)) (subst (λ x. AreFew x) front (few_front k most all within few)) in
    let got = most_at b pins board entries clock n k done past (omega (arith, back, long)) kept e few_now in
    let here : length (last_link first past).core.taken ≡ length h.taken = ap (λ (x : LinkState). length x.core.taken) last ∙ ap (λ (x : Core). length x.taken) (sym same) in
    let one = ap (λ x. length (flat_map queued_in x)) front in
    omega (arith, got, here, one)) in
    let steps = steps_of_turn clock turn o t.1.resent l in
    let same_then : run_world steps h ≡ t.0.core = ap (run_world steps) same ∙ sym (turn_runs clock turn o t.1.resent l) ∙ ap (λ (x : LinkState). x.core) (sym t.1.becomes) in
    let From : LinkState → Type 0 = λ x. IsTurn clock turn o x t.0 in
    let ends = end_snoc clock 0 turn done o first past t.0 (omega (arith, long)) e (subst From (sym last) t.1) in
    let few_then : (k : ℕ) → spoiled (take k ((past ++ now ∷ []) ++ later)) ≤ n = λ k. let At : List Ended → Type 0 = λ x. spoiled (take k x) ≤ n in subst At (sym (append_assoc past (now ∷ []) later)) (spare k) in (
      elim (leb_tells (turn - n) most) [
        | inl p ↦ (turn - n, omega (arith, long, size_all), taken_to (turn - n) (omega arith) p.1, inl (omega arith))
        | inr p ↦ (most, short, taken_to most (omega (arith, p.1)) (omega arith), inr (full (omega (arith, p.1, long, size_all))))
      ],
      enough_from b pins board entries clock n size most (turn + 1) all (done ++ o ∷ []) os t.0 m t.2 (past ++ now ∷ []) (run_world steps h) same_then (omega (arith, long, length-append done (o ∷ [])))
          (cut ∙ sym (append_assoc done (o ∷ []) os)) limits short few full ends (last_append first past (now ∷ [])) few_then,
    )

-- so it is by other ticks that are the same by then
pub enough_owned : (b : BoardDef) (n size : ℕ) (all : List Orders) (own : ℕ → ℕ) (last turn : ℕ) (os : List Orders) (steps : List Step) (h : Core) (o : AreOwn b last own) (within : turn + length os ≤ last)
    (t : AreTurnsOf (board_tick (clock_of b)) turn os steps) → TakesEnough n size all (board_tick (clock_of b)) turn os steps h t
    → TakesEnough n size all own turn os steps h (turns_owned b own last turn os steps o within t)
unfolding turns_owned
enough_owned b n size all own last turn [] steps h o within t s = tt
enough_owned b n size all own last turn (x ∷ os) steps h o within t s = (s.0, enough_owned b n size all own last (turn + 1) os t.1 (run_world t.0 h) o (next_within turn last x os within) t.4 s.1)

-- so many turns are less than half a round of the 32-bit clock
pub ten_seconds : (b : BoardDef) (turns n : ℕ) (own : ℕ → ℕ) → AreOwn b turns own → n ≤ 10_000 → (k : ℕ) → own (k + (n + 7)) < own k + 2 ^ 31
ten_seconds b turns n own o small k = omega (arith, own_few b turns own o (n + 7) k, small)

-- the last turn may pass the limits
pub few_heeded : (b : BoardDef) (pins : List (List Level)) (board : ℕ) (entries : List Entry) (own : ℕ → ℕ) (clocks : Clocks) (ready n turns : ℕ) (ss : List BoardSection) (os : List Orders) (l : LinkState)
    (t : AreTurns (clock_of b) 0 os (first_state b pins board entries) l) → AreOwn b (length os) own → IsBoardRun own clocks b.freq b.slots ready ss os → All (AreSentTo clocks b.freq turns) ss → length os ≤ turns
    → ((done : List Orders) (o : Orders) (rest : List Orders) → os ≡ done ++ (o ∷ rest) → ControlsKeep done)
    → ((k : ℕ) → spoiled (take k (ends_of (clock_of b) 0 os (first_state b pins board entries) l t)) ≤ n) → ((k : ℕ) → own (k + (n + 7)) < own k + 2 ^ 31)
    → AllTimely (new_world b pins) (steps_of (clock_of b) 0 os (first_state b pins board entries) l t)
few_heeded b pins board entries own clocks ready n turns ss os l t o r sent within controls few far =
    let clock = clock_of b in
    let first : LinkState = first_state b pins board entries in
    let ticks = o.ticks in
    let (w, x, same) = run_walked own clocks b.freq b.slots ready n turns ss os ticks r sent within far in
    let full : w.count < length os → length x.front < length (flat_map queued_in (take w.count os)) = λ less.
    (let more = reach_more w.count os w.cut.front w.cut.tail w.cut.is less w.reach in omega (arith, more, same)) in
    let steps = steps_of clock 0 os first l t in
    let taken = (turns_are clock 0 os first l t).1 in
    let low : 0 + length os ≤ length os = omega arith in
    timed_timely b pins own n os steps (turns_owned b own (length os) 0 os steps o low taken) ticks (own_first b (length os) own o) x
    (enough_owned b n (length x.front) os own (length os) 0 os steps (new_world b pins) o low taken (enough_from b pins board entries clock n (length x.front) w.count 0 os [] os first l t [] (new_world b pins) refl refl refl controls w.short w.few full refl refl few))

controls_split : (xs ys : List Orders) → ControlsKeep (xs ++ ys) → ControlsKeep xs
controls_split [] ys c = tt
controls_split (x ∷ xs) ys c = (c.0, c.1, controls_split xs ys c.2)

pub all_heeded : (b : BoardDef) (pins : List (List Level)) (board : ℕ) (entries : List Entry) (own : ℕ → ℕ) (clocks : Clocks) (ready n turns : ℕ) (ss : List BoardSection) (os : List Orders) (l : LinkState)
    (t : AreTurns (clock_of b) 0 os (first_state b pins board entries) l) → AreOwn b (length os) own → IsBoardRun own clocks b.freq b.slots ready ss os → All (AreSentTo clocks b.freq turns) ss → length os ≤ turns
    → ControlsKeep os → ((k : ℕ) → spoiled (take k (ends_of (clock_of b) 0 os (first_state b pins board entries) l t)) ≤ n) → ((k : ℕ) → own (k + (n + 7)) < own k + 2 ^ 31)
    → AllTimely (new_world b pins) (steps_of (clock_of b) 0 os (first_state b pins board entries) l t)
all_heeded b pins board entries own clocks ready n turns ss os l t o r sent within controls few far =
    few_heeded b pins board entries own clocks ready n turns ss os l t o r sent within (λ done x rest cut. controls_split done (x ∷ rest) (subst (λ x. ControlsKeep x) cut controls)) few far
