-- In a scene without entries a board takes in each turn all that is queued in it.
use Rattle.std.proofs.Common.{◌≡◌, ℕ, suc, ◌+◌, ◌-◌, ◌≤◌, List, [], ◌∷◌, ◌++◌, length, take, refl, ap, sym, ◌∙◌, subst, arith, inl, inr, append-nil}
use Rattle.laws_board.proofs.Names.{flat_map, leb_tells, flat_map-append, Level, BoardDef, clock_of, Entry, Meant, AllKeepLimits, queued_in, first_state, orders, LinkState, Orders, and_from}
use Rattle.std.proofs.Math.Seq.{take-length}
use Rattle.link_work.specs.Ends.{Ended, is_quiet_line, spoiled, stretch}
use Rattle.link_work.proofs.Late.{limits_split}
use Rattle.laws_board.specs.turns.Turns.{AreBoardTurns, BoardTurn, stands_after}
use Rattle.laws_board.specs.clocks.Runs.{ends_in, orders_in}
use Rattle.laws_board.proofs.clocks.Orders.{ends_in_order, last_stands, order_length}
use Rattle.laws_board.proofs.sections.Calm.{AllQuiet, AreClear, clear_turn, first_clear, none_unquiet, quiet_now, stretch_quiet}
use Rattle.laws_board.proofs.sections.Spoiled.{soon_at}
use Rattle.laws_homing.specs.home_runs.Sections.{SpoilsFew, TakesSetUp, queued_in_turns}
use Rattle.laws_homing.proofs.home_runs.Resting.{rests_up}
use Rattle.laws_homing.proofs.home_runs.Settled.{later_orders}
use Rattle.laws_homing.proofs.home_runs.Windows.{begun}

clear_after : (b : BoardDef) (pins : List (List Level)) (board : ℕ) (entries : List Entry) (turns : List BoardTurn) → entries ≡ [] → AreBoardTurns (clock_of b) (first_state b pins board entries) turns
    → AreClear (stands_after (first_state b pins board entries) turns) (length turns)
clear_after b pins board entries [] e are = first_clear b pins board entries e
clear_after b pins board entries (t ∷ before) e are =
    let first = first_state b pins board entries in
    let next : length before + 1 ≡ suc (length before) = omega arith in
    subst (λ (n : ℕ). AreClear t.after n) next (clear_turn (clock_of b) (length before) (orders t.control t.batch) (stands_after first before) t.after are.0.0 (clear_after b pins board entries before e are.1))

quiet_both : (xs ys : List Ended) → AllQuiet xs → AllQuiet ys → AllQuiet (xs ++ ys)
quiet_both [] ys a b = b
quiet_both (x ∷ xs) ys a b = (a.0, quiet_both xs ys a.1 b)

all_quiet : (b : BoardDef) (pins : List (List Level)) (board : ℕ) (entries : List Entry) (turns : List BoardTurn) → entries ≡ [] → AreBoardTurns (clock_of b) (first_state b pins board entries) turns → AllQuiet (ends_in turns)
all_quiet b pins board entries [] e are = tt
all_quiet b pins board entries (t ∷ before) e are =
    let turn = length before in
    let next : suc turn ≡ turn + 1 = omega arith in
    let clear = subst (λ (n : ℕ). AreClear t.after n) next (clear_after b pins board entries (t ∷ before) e are) in
    quiet_both (ends_in before) (record { turn = turn; link = t.after } ∷ []) (all_quiet b pins board entries before e are.1)
    (and_from (is_quiet_line t.after.down turn) (is_quiet_line t.after.up turn) (quiet_now t.after.down turn clear.0) (quiet_now t.after.up turn clear.1), tt)

queue_flat : (turns : List BoardTurn) → flat_map queued_in (orders_in turns) ≡ queued_in_turns turns
queue_flat [] = refl
queue_flat (t ∷ before) =
    let o = orders t.control t.batch in
    flat_map-append queued_in (orders_in before) (o ∷ []) ∙ ap (λ (x : List Meant). x ++ (queued_in o ++ [])) (queue_flat before) ∙ ap (λ (x : List Meant). queued_in_turns before ++ x) (append-nil (queued_in o))

clear_took : (b : BoardDef) (pins : List (List Level)) (board : ℕ) (entries : List Entry) (turns : List BoardTurn) → entries ≡ [] → AreBoardTurns (clock_of b) (first_state b pins board entries) turns → AllKeepLimits (orders_in turns)
    → (more : List Meant) × (queued_in_turns turns ++ more ≡ (stands_after (first_state b pins board entries) turns).core.taken)
clear_took b pins board entries turns e are limits =
    let first = first_state b pins board entries in
    let clock = clock_of b in
    let ends = ends_in turns in
    let os = orders_in turns in
    let none : spoiled ends ≡ 0 = none_unquiet (stretch ends) (stretch_quiet ends (all_quiet b pins board entries turns e are)) in
    let soon = soon_at b pins board entries clock 0 os ends limits (ends_in_order clock first turns are) (omega (arith, none)) in
    let whole : take (length os - 0) os ≡ os = let same : length os - 0 ≡ length os = omega arith in ap (λ (n : ℕ). take n os) same ∙ take-length os in
    (soon.0, ap (λ (x : List Meant). x ++ soon.0) (sym (ap (flat_map queued_in) whole ∙ queue_flat turns)) ∙ soon.1 ∙ ap (λ (l : LinkState). l.core.taken) (last_stands first turns))

-- the first of some turns
pub first_turns : (n : ℕ) (turns : List BoardTurn) → n ≤ length turns → (later : List BoardTurn) × (past : List BoardTurn) × (turns ≡ later ++ past) × (length past ≡ n)
first_turns n [] l = ([], [], refl, omega (arith, l))
first_turns n (t ∷ turns) l = elim (leb_tells n (length turns)) [
  | inl p ↦ let rest = first_turns n turns p.1 in (t ∷ rest.0, rest.1, ap (λ (x : List BoardTurn). t ∷ x) rest.2, rest.3)
  | inr p ↦ let q = p.1 in ([], t ∷ turns, refl, omega (arith, l, q))
]

pub clear_set_up : (b : BoardDef) (pins : List (List Level)) (board : ℕ) (entries : List Entry) (turns : List BoardTurn) (start : ℕ) → entries ≡ [] → AreBoardTurns (clock_of b) (first_state b pins board entries) turns → AllKeepLimits (orders_in turns)
    → 249 ≤ start → start ≤ length turns + 249 → TakesSetUp (first_state b pins board entries) start turns
clear_set_up b pins board entries turns start e are limits low l =
    let first = first_state b pins board entries in
    let cut = first_turns (start - 249) turns (omega (arith, l)) in
    let long = cut.3 in
    let mine : AreBoardTurns (clock_of b) first cut.1 = begun (clock_of b) first cut.0 cut.1 (subst (λ (x : List BoardTurn). AreBoardTurns (clock_of b) first x) cut.2 are) in
    let more = later_orders cut.0 cut.1 in
    let kept : AllKeepLimits (orders_in cut.1) = (limits_split (orders_in cut.1) more.0 (subst AllKeepLimits (ap orders_in cut.2 ∙ more.1) limits)).0 in
    let took = clear_took b pins board entries cut.1 e mine kept in
    let clear = clear_after b pins board entries cut.1 e mine in
    record {
      window = cut.0;
      late = [];
      past = cut.1;
      are = cut.2;
      queued = omega (arith, long);
      in_time = omega (arith, long, low);
      more = took.0;
      took = took.1;
      heard = rests_up b pins board entries cut.1 mine clear.1.none;
    }

-- where few turns were spoiled
take_front : (os ps : List Orders) → take (length os) (os ++ ps) ≡ os
take_front [] ps = refl
take_front (o ∷ os) ps = ap (λ (x : List Orders). o ∷ x) (take_front os ps)

pub few_set_up : (b : BoardDef) (pins : List (List Level)) (board : ℕ) (entries : List Entry) (turns : List BoardTurn) (start n : ℕ) → AreBoardTurns (clock_of b) (first_state b pins board entries) turns → AllKeepLimits (orders_in turns)
    → SpoilsFew (first_state b pins board entries) start n turns → TakesSetUp (first_state b pins board entries) start turns
few_set_up b pins board entries turns start n are limits f =
    let first = first_state b pins board entries in
    let clock = clock_of b in
    let past = f.past in
    let queued = f.queued in
    let in_time = f.in_time in
    let mine : AreBoardTurns clock first past = begun clock first f.later past (subst (λ (x : List BoardTurn). AreBoardTurns clock first x) f.are are) in
    let more = later_orders f.later past in
    let kept : AllKeepLimits (orders_in past) = (limits_split (orders_in past) more.0 (subst AllKeepLimits (ap orders_in f.are ∙ more.1) limits)).0 in
    let soon = soon_at b pins board entries clock n (orders_in past) (ends_in past) kept (ends_in_order clock first past mine) f.few in
    let cut = first_turns (length past - n) past (omega arith) in
    let long = cut.3 in
    let rest = later_orders cut.0 cut.1 in
    let one = order_length past in
    let two = order_length cut.1 in
    let place : length (orders_in past) - n ≡ length (orders_in cut.1) = omega (arith, one, two, long) in
    let front : take (length (orders_in past) - n) (orders_in past) ≡ orders_in cut.1 =
    ap (λ (k : ℕ). take k (orders_in past)) place ∙ ap (take (length (orders_in cut.1))) (ap orders_in cut.2 ∙ rest.1) ∙ take_front (orders_in cut.1) rest.0 in
    let took : queued_in_turns cut.1 ++ soon.0 ≡ (stands_after first past).core.taken =
    ap (λ (x : List Meant). x ++ soon.0) (sym (ap (flat_map queued_in) front ∙ queue_flat cut.1)) ∙ soon.1 ∙ ap (λ (l : LinkState). l.core.taken) (last_stands first past) in
    let whole = ap length cut.2 in
    record {
      window = f.later;
      late = cut.0;
      past = cut.1;
      are = f.are ∙ ap (λ (x : List BoardTurn). f.later ++ x) cut.2;
      queued = omega (arith, long, queued, in_time);
      in_time = omega (arith, whole, in_time);
      more = soon.0;
      took = took ∙ ap (λ (x : List BoardTurn). (stands_after first x).core.taken) cut.2;
      heard = sym (ap (λ (x : List BoardTurn). (stands_after first x).core.link.up) cut.2) ∙ rests_up b pins board entries past mine f.none;
    }
