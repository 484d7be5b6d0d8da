-- A link on which no entry is used while connecting: each clock comes in the turn in which it was asked for.
use Rattle.std.proofs.Common.{◌≡◌, ℕ, suc, ◌+◌, ◌^◌, ◌<◌, ◌≤◌, inl, inr, Bool, true, false, cond, List, [], ◌∷◌, ◌++◌, map, length, Option, Some, None, refl, ap, sym, ◌∙◌, subst, arith, rules}
use Rattle.std.specs.Prelude.{◌&&◌, nat_le, nat_lt}
use Rattle.laws_board.proofs.Names.{and_from, leb_tells, BoardClock, BoardDef, Level, board_tick, clock_of, Entry, Down, Up, Reply, Core, Step, Do, world_after, after_event, run_world, first_state, orders, IsTurn, LinkState, Orders, after_board, after_host, come}
use Rattle.std.proofs.lemmas.Bool.{le-leb}
use Rattle.wire_scene.specs.declared.scene.Deed.{Deed}
use Rattle.wire_scene.specs.Wire.{Copy, Line, entries_behind, deed_of, entries_of, put_on, put_with}
use Rattle.link_core.specs.Core.{sent}
use Rattle.link_core.specs.Stands.{last_closes}
use Rattle.link_core.proofs.Steps.{start_keeps}
use Rattle.board_world.specs.declared.event.Event.TheVariants as event
use Rattle.board_world.specs.Stands.{reply_text}
use Rattle.link_work.specs.Ends.{is_quiet_line, no_copies}
use Rattle.link_work.specs.Runs.{blocks_on}
use Rattle.link_work.specs.Told.{asked_at, asked_in}
use Rattle.link_work.specs.Turn.{board_steps, host_steps, line_for, newly, put_all, still}
use Rattle.link_work.proofs.Late.{drained_after}
use Rattle.link_work.proofs.Turns.{turns_hold}
use Rattle.laws_board.specs.turns.Turns.{AreBoardTurns, BoardTurn, stands_after}
use Rattle.clock_line.specs.declared.sample.Sample.{Sample}
use Rattle.laws_board.specs.clocks.Near.{IsUndisturbed}
use Rattle.laws_board.specs.clocks.Runs.{orders_in}
use Rattle.laws_board.specs.clocks.Samples.{IsAmong, IsSample, TellsClock, WasPut, WasTold}
use Rattle.laws_board.proofs.clocks.Dated.{Dated, sent_grows}
use Rattle.laws_board.proofs.clocks.Orders.{order_length, turns_in_order}
use Rattle.laws_board.proofs.clocks.Links.{IsAt, among_both, sound, told_dated, turn_grows, turn_parts}
use Rattle.link_work.proofs.Parts.{ticks_rise}
use Rattle.board_world.proofs.Standing.{none_up as none_mapped}

-- blocks that are due
abbrev AllDue : ℕ → List Copy → Type 0
AllDue turn [] = Unit {0}
AllDue turn (c ∷ cs) = (c.due ≤ turn) × AllDue turn cs

due_both : (turn : ℕ) (xs ys : List Copy) → AllDue turn xs → AllDue turn ys → AllDue turn (xs ++ ys)
due_both turn [] ys k l = l
due_both turn (x ∷ xs) ys k l = (k.0, due_both turn xs ys k.1 l)

none_still : (turn : ℕ) (cs : List Copy) → AllDue turn cs → still turn cs ≡ []
none_still turn [] k = refl
none_still turn (c ∷ cs) k = ap (λ (b : Bool). cond b (still turn cs) (c ∷ cs)) (le-leb c.due turn k.0) ∙ none_still turn cs k.1

-- entries are used on no line, in all that is put on it: its calm stays 0
none_used : (l : Line) (turn : ℕ) (bytes : List ℕ) (d : Option Deed) → (put_with l turn bytes d).calm ≡ 0 → (d ≡ None) × (l.calm ≡ 0)
none_used l turn bytes None e = (refl, e)
none_used l turn bytes (Some deed) e = absurd (omega (arith, e))

none_in_all : (l : Line) (turn : ℕ) (bs : List (List ℕ)) → (put_all l turn bs).calm ≡ 0 → l.calm ≡ 0
none_in_all l turn [] e = e
none_in_all l turn (b ∷ bs) e = (none_used l turn b (deed_of l.number l.entries) (none_in_all (put_on l turn b) turn bs e)).1

-- a line in a turn, where no entry was used
record IsFree (l : Line) (turn : ℕ) : Type 0 where
  pub last : l.last ≤ turn
  pub due : AllDue turn l.copies

free_with : (l : Line) (turn : ℕ) (bytes : List ℕ) (d : Option Deed) → d ≡ None → IsFree l turn → IsFree (put_with l turn bytes d) turn
free_with l turn bytes (Some deed) e f = cc
free_with l turn bytes None e f = let last = f.last in record { last = omega arith; due = due_both turn l.copies _ f.due (omega arith, tt) }

free_all : (l : Line) (turn : ℕ) (bs : List (List ℕ)) → (put_all l turn bs).calm ≡ 0 → IsFree l turn → IsFree (put_all l turn bs) turn
free_all l turn [] e f = f
free_all l turn (b ∷ bs) e f =
    let none = none_used l turn b (deed_of l.number l.entries) (none_in_all (put_on l turn b) turn bs e) in
    free_all (put_on l turn b) turn bs e (free_with l turn b (deed_of l.number l.entries) none.0 f)

-- between two turns
record IsClear (l : Line) (turn : ℕ) : Type 0 where
  pub last : l.last ≤ turn
  pub none : l.copies ≡ []

clear_free : (l : Line) (turn : ℕ) → IsClear l turn → IsFree l turn
clear_free l turn c = record { last = c.last; due = subst (λ (cs : List Copy). AllDue turn cs) (sym c.none) tt }

free_clear : (l : Line) (turn : ℕ) → IsFree l turn → IsClear (record l { copies = still turn l.copies }) (turn + 1)
free_clear l turn f = let last = f.last in record { last = omega arith; none = none_still turn l.copies f.due }

-- over turns while connecting
abbrev pub AllConnecting : List BoardTurn → Type 0
AllConnecting [] = Unit {0}
AllConnecting (t ∷ before) = (t.control.connected ≡ false) × AllConnecting before

kept_line : (c : Bool) (x : Line) → c ≡ false → line_for c x ≡ x
kept_line c x e = ap (λ (b : Bool). line_for b x) e

-- where none was used by the end of a turn, none was by its beginning
undisturbed_before : (clock : BoardClock) (turn : ℕ) (o : Orders) (l m : LinkState) → IsTurn clock turn o l m → o.control.connected ≡ false → IsUndisturbed m → IsUndisturbed l
undisturbed_before clock turn o l m t c u = search (rules, after_host, after_board, none_in_all, run_world, kept_line)

clear_turn : (clock : BoardClock) (turn : ℕ) (o : Orders) (l m : LinkState) → IsTurn clock turn o l m → o.control.connected ≡ false → IsUndisturbed m → IsClear l.down turn → IsClear l.up turn
    → IsClear m.down (turn + 1) × IsClear m.up (turn + 1)
clear_turn clock turn o l m t c u d w = search (rules, after_host, after_board, kept_line, clear_free, free_all, run_world, free_clear)

module _ (b : BoardDef) (pins : List (List Level)) (board : ℕ) (entries : List Entry) where
  -- no entry was used on the link by the end of some turns
  abbrev pub Undisturbed : List BoardTurn → Type 0
  Undisturbed turns = IsUndisturbed (stands_after (first_state b pins board entries) turns)

  pub before_too : (t : BoardTurn) (before : List BoardTurn) → AreBoardTurns (clock_of b) (first_state b pins board entries) (t ∷ before) → t.control.connected ≡ false → Undisturbed (t ∷ before) → Undisturbed before
  before_too t before are c u = undisturbed_before (clock_of b) (length before) (orders t.control t.batch) (stands_after (first_state b pins board entries) before) t.after are.0.0 c u

clear_lines : (b : BoardDef) (pins : List (List Level)) (board : ℕ) (entries : List Entry) (turns : List BoardTurn) → AreBoardTurns (clock_of b) (first_state b pins board entries) turns
    → Undisturbed b pins board entries turns → AllConnecting turns
    → IsClear (stands_after (first_state b pins board entries) turns).down (length turns) × IsClear (stands_after (first_state b pins board entries) turns).up (length turns)
clear_lines b pins board entries [] are u c = (record { last = omega arith; none = refl }, record { last = omega arith; none = refl })
clear_lines b pins board entries (t ∷ before) are u c =
    let clock = clock_of b in
    let old = clear_lines b pins board entries before are.1 (before_too b pins board entries t before are c.0 u) c.1 in
    let next : length before + 1 ≡ suc (length before) = omega arith in
    subst (λ (n : ℕ). IsClear t.after.down n × IsClear t.after.up n) next
    (clear_turn clock (length before) (orders t.control t.batch) (stands_after (first_state b pins board entries) before) t.after are.0.0 c.0 u old.0 old.1)

-- no entry is used where there are none for the time while connecting
record IsBare (l : Line) : Type 0 where
  pub entries : l.entries ≡ []
  pub calm : l.calm ≡ 0

bare_with : (l : Line) (turn : ℕ) (bytes : List ℕ) (d : Option Deed) → d ≡ None → IsBare l → IsBare (put_with l turn bytes d)
bare_with l turn bytes (Some deed) e f = cc
bare_with l turn bytes None e f = record { entries = ap (entries_behind l.number) f.entries; calm = f.calm }

bare_all : (l : Line) (turn : ℕ) (bs : List (List ℕ)) → IsBare l → IsBare (put_all l turn bs)
bare_all l turn [] f = f
bare_all l turn (b ∷ bs) f = bare_all (put_on l turn b) turn bs (bare_with l turn b (deed_of l.number l.entries) (ap (deed_of l.number) f.entries) f)

bare_turn : (clock : BoardClock) (turn : ℕ) (o : Orders) (l m : LinkState) → IsTurn clock turn o l m → o.control.connected ≡ false → IsBare l.down → IsBare l.up → IsBare m.down × IsBare m.up
bare_turn clock turn o l m t c d u = search (rules, after_host, bare_all, run_world, kept_line)

bare_lines : (b : BoardDef) (pins : List (List Level)) (board : ℕ) (entries : List Entry) (turns : List BoardTurn) → AreBoardTurns (clock_of b) (first_state b pins board entries) turns
    → entries_of board Down true entries ≡ [] → entries_of board Up true entries ≡ [] → AllConnecting turns
    → IsBare (stands_after (first_state b pins board entries) turns).down × IsBare (stands_after (first_state b pins board entries) turns).up
bare_lines b pins board entries [] are d u c = (record { entries = d; calm = refl }, record { entries = u; calm = refl })
bare_lines b pins board entries (t ∷ before) are d u c =
    let old = bare_lines b pins board entries before are.1 d u c.1 in
    bare_turn (clock_of b) (length before) (orders t.control t.batch) (stands_after (first_state b pins board entries) before) t.after are.0.0 c.0 old.0 old.1

pub unused : (b : BoardDef) (pins : List (List Level)) (board : ℕ) (entries : List Entry) (turns : List BoardTurn) → AreBoardTurns (clock_of b) (first_state b pins board entries) turns
    → entries_of board Down true entries ≡ [] → entries_of board Up true entries ≡ [] → AllConnecting turns → Undisturbed b pins board entries turns
unused b pins board entries turns are d u c = let r = bare_lines b pins board entries turns are d u c in record { down = r.0.calm; up = r.1.calm }

-- at the end of each turn all was taken, and nothing is under way
quiet_now : (l : Line) (turn : ℕ) → l.copies ≡ [] → l.calm ≡ 0 → is_quiet_line l turn ≡ true
quiet_now l turn e c = search (rules, nat_le, le-leb)

all_taken : (b : BoardDef) (pins : List (List Level)) (board : ℕ) (entries : List Entry) (turns : List BoardTurn) → AreBoardTurns (clock_of b) (first_state b pins board entries) turns
    → Undisturbed b pins board entries turns → AllConnecting turns
    → (stands_after (first_state b pins board entries) turns).core.link.accepted ≡ sent (stands_after (first_state b pins board entries) turns).core.link
all_taken b pins board entries [] are u c = refl
all_taken b pins board entries (t ∷ before) are u c =
    let clock = clock_of b in
    let first = first_state b pins board entries in
    let clear = clear_lines b pins board entries (t ∷ before) are u c in
    let n = length (orders_in before) in
    let long : length before ≡ n = sym (order_length before) in
    let turn : IsTurn clock n (orders t.control t.batch) (stands_after first before) t.after = subst (λ (x : ℕ). IsTurn clock x (orders t.control t.batch) (stands_after first before) t.after) long are.0.0 in
    let quiet = and_from (is_quiet_line t.after.down n) (is_quiet_line t.after.up n) (quiet_now t.after.down n clear.0.none u.down) (quiet_now t.after.up n clear.1.none u.up) in
    (drained_after b pins board entries clock (orders_in before) (orders t.control t.batch) (stands_after first before) t.after (turns_in_order clock first before are.1) turn quiet).1

none_up : (b : BoardDef) (pins : List (List Level)) (board : ℕ) (entries : List Entry) (turns : List BoardTurn) → AreBoardTurns (clock_of b) (first_state b pins board entries) turns
    → Undisturbed b pins board entries turns → AllConnecting turns → (stands_after (first_state b pins board entries) turns).core.link.up ≡ []
none_up b pins board entries turns are u c = search (rules, first_state, clear_lines, turns_hold, clock_of, start_keeps, turns_in_order, none_mapped)

-- a clock that is told in a turn answers a block that was put in it
abbrev Now : BoardClock → ℕ → ℕ → (ℕ → (ℕ → Type 0))
Now clock low turn = λ n v. (low ≤ n) × (v ≡ board_tick clock turn)

told_here : (b : BoardDef) (pins : List (List Level)) (board : ℕ) (entries : List Entry) (t : BoardTurn) (before : List BoardTurn) → AreBoardTurns (clock_of b) (first_state b pins board entries) (t ∷ before)
    → Undisturbed b pins board entries before → AllConnecting before → board_tick (clock_of b) (length before) < 2 ^ 64
    → (number value : ℕ) → TellsClock number value t.state.news
    → (n : ℕ) × (number ≡ n + 1) × Now (clock_of b) (sent (stands_after (first_state b pins board entries) before).core.link) (length before) n value
told_here b pins board entries t before are u c small number value told =
    let clock = clock_of b in
    let first = first_state b pins board entries in
    let l = stands_after first before in
    let turn = length before in
    let o = orders t.control t.batch in
    let low = sent l.core.link in
    let P = Now clock low turn in
    let s = sound b pins board entries before are.1 small in
    let up = none_up b pins board entries before are.1 u c in
    let taken = all_taken b pins board entries before are.1 u c in
    let at : IsAt clock P turn l = record { tick = s.tick; ordered = s.ordered; dated = subst (λ (rs : List Reply). Dated P rs) (sym up) tt } in
    let l1 = after_host turn o are.0.0.resent l in
    let done = turn_parts clock P turn low (sent t.after.core.link) o are.0.0.resent l l1 (after_board clock turn l1) t.after refl refl are.0.0.becomes at small (omega arith) (omega arith) (λ n above few. (above, refl)) in
    told_dated P _ t.state.news number value are.0.1.news done.heard told

-- a block was sent by the end of the turn in which it was put
asked_one : (h g : Core) (n : ℕ) (a b : Bool) → nat_lt (sent h.link) (sent g.link) ≡ a → IsAmong n (cond (a && b) (sent h.link ∷ []) []) → n < sent g.link
asked_one h g n a b p5 p6 = search (rules, leb_tells, nat_lt)

asked_now : (s : Step) (h : Core) (n : ℕ) → IsAmong n (asked_at s h) → n < sent (world_after h s).link
asked_now s h n p3 = search (rules, after_event, asked_one, nat_lt)

asked_upto : (steps : List Step) (h : Core) (n : ℕ) → IsAmong n (asked_in steps h) → n < sent (run_world steps h).link
asked_upto [] h n k = absurd k
asked_upto (s ∷ steps) h n k =
    elim (among_both n (asked_at s h) (asked_in steps (world_after h s)) k) [
      | inl now ↦ let l = asked_now s h n now in let g = sent_grows steps (world_after h s) in omega arith
      | inr later ↦ asked_upto steps (world_after h s) n later
    ]

host_sent : (clock : BoardClock) (turn : ℕ) (o : Orders) (l m : LinkState) (t : IsTurn clock turn o l m) → sent (run_world (host_steps turn o t.resent) l.core).link ≤ sent m.core.link
host_sent clock turn o l m t = search (rules, after_host, after_board, sent_grows, come)

put_sent : (clock : BoardClock) (first : LinkState) (turns : List BoardTurn) (n put : ℕ) → AreBoardTurns clock first turns → WasPut n put turns → n < sent (stands_after first turns).core.link
put_sent clock first [] n put are k = absurd k
put_sent clock first (t ∷ before) n put are (inl k) =
    let l = stands_after first before in
    let o = orders t.control t.batch in
    let host = host_steps (length before) o are.0.0.resent in
    let asked = asked_upto host l.core n (subst (λ (ns : List ℕ). IsAmong n ns) are.0.1.asked k.1) in
    let grows = host_sent clock (length before) o l t.after are.0.0 in
    omega arith
put_sent clock first (t ∷ before) n put are (inr k) =
    let old = put_sent clock first before n put are.1 k in
    let grows = turn_grows clock first t before are.0 in
    omega arith

pub told_before : (number value turn : ℕ) (turns : List BoardTurn) → WasTold number value turn turns → turn < length turns
told_before number value turn [] k = absurd k
told_before number value turn (t ∷ before) (inl k) = let e = k.0 in omega arith
told_before number value turn (t ∷ before) (inr k) = let l = told_before number value turn before k in omega arith

told_with : (b : BoardDef) (pins : List (List Level)) (board : ℕ) (entries : List Entry) (turns : List BoardTurn) → AreBoardTurns (clock_of b) (first_state b pins board entries) turns
    → Undisturbed b pins board entries turns → AllConnecting turns → board_tick (clock_of b) (length turns) < 2 ^ 64
    → (block value got put : ℕ) → WasTold (block + 1) value got turns → WasPut block put turns → got ≤ put
told_with b pins board entries [] are u c small block value got put told was = absurd told
told_with b pins board entries (t ∷ before) are u c small block value got put (inl told) (inl was) = let e = told.0 in let f = was.0 in omega arith
told_with b pins board entries (t ∷ before) are u c small block value got put (inl told) (inr was) =
    let clock = clock_of b in
    let next : length before + 1 ≡ suc (length before) = omega arith in
    let now : board_tick clock (length before) < 2 ^ 64 = omega (arith, ticks_rise clock (length before), ap (board_tick clock) next) in
    let here = told_here b pins board entries t before are (before_too b pins board entries t before are c.0 u) c.1 now (block + 1) value told.1 in
    let same = here.1 in
    let low = here.2.0 in
    let few = put_sent clock (first_state b pins board entries) before block put are.1 was in
    absurd (omega arith)
told_with b pins board entries (t ∷ before) are u c small block value got put (inr told) (inl was) =
    let l = told_before (block + 1) value got before told in let f = was.0 in omega arith
told_with b pins board entries (t ∷ before) are u c small block value got put (inr told) (inr was) =
    let clock = clock_of b in
    let next : length before + 1 ≡ suc (length before) = omega arith in
    let now : board_tick clock (length before) < 2 ^ 64 = omega (arith, ticks_rise clock (length before), ap (board_tick clock) next) in
    told_with b pins board entries before are.1 (before_too b pins board entries t before are c.0 u) c.1 now block value got put told was

pub sample_now : (b : BoardDef) (pins : List (List Level)) (board : ℕ) (entries : List Entry) (turns : List BoardTurn) → AreBoardTurns (clock_of b) (first_state b pins board entries) turns
    → Undisturbed b pins board entries turns → AllConnecting turns → board_tick (clock_of b) (length turns) < 2 ^ 64
    → (s : Sample) → IsSample (clock_of b) turns s → s.got ≡ s.sent
sample_now b pins board entries turns are u c small s i = search (rules, told_with)
