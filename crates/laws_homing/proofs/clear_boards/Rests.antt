-- A link that rests is idle; and where a scene has no entries links rest in each turn.
use Rattle.std.proofs.Common.{◌≡◌, ℕ, suc, ◌+◌, ◌≤◌, true, List, [], ◌∷◌, length, refl, sym, ◌∙◌, subst, arith}
use Rattle.laws_board.proofs.Names.{BoardDef, Level, clock_of, Entry, AllKeepLimits, first_state, orders, IsTurn, LinkState, and_from}
use Rattle.link_work.specs.Ends.{is_idle, is_quiet, is_quiet_line}
use Rattle.link_work.proofs.Answered.{sends_all}
use Rattle.link_work.proofs.Bounds.{is_idle_where, quiet_lines}
use Rattle.link_work.proofs.Draining.{IsSound}
use Rattle.link_work.proofs.Late.{drained_after, first_sound, limits_split, sound_along}
use Rattle.laws_board.specs.turns.Turns.{AreBoardTurns, BoardTurn, stands_after}
use Rattle.laws_board.specs.clocks.Runs.{orders_in}
use Rattle.laws_board.proofs.clocks.Orders.{order_length, turns_in_order}
use Rattle.laws_board.proofs.sections.Calm.{AreClear, clear_turn, first_clear, quiet_now}
use Rattle.laws_homing.specs.clear_boards.Rests.{RestsBehind, RestsFrom, RestsOver}
use Rattle.link_work.proofs.Blocks.{no_more}

-- a link that rests is idle, and nothing is held on its line up
pub rests_idle : (b : BoardDef) (pins : List (List Level)) (board : ℕ) (entries : List Entry) (turns : List BoardTurn) → AreBoardTurns (clock_of b) (first_state b pins board entries) turns → RestsBehind turns
    → is_idle (stands_after (first_state b pins board entries) turns) ≡ true
rests_idle b pins board entries [] are rest = refl
rests_idle b pins board entries (t ∷ before) are rest =
    let clock = clock_of b in
    let first = first_state b pins board entries in
    let os = orders_in before in
    let many : length os ≡ length before = order_length before in
    let At : ℕ → Type 0 = λ k. IsTurn clock k (orders t.control t.batch) (stands_after first before) t.after in
    let Quiet : ℕ → Type 0 = λ k. is_quiet (record { turn = k; link = t.after }) ≡ true in
    let drained = drained_after b pins board entries clock os (orders t.control t.batch) (stands_after first before) t.after (turns_in_order clock first before are.1) (subst At (sym many) are.0.0) (subst Quiet (sym many) rest.quiet) in
    is_idle_where t.after rest.empty drained.0

pub rests_none : (b : BoardDef) (pins : List (List Level)) (board : ℕ) (entries : List Entry) (turns : List BoardTurn) → RestsBehind turns → (stands_after (first_state b pins board entries) turns).up.copies ≡ []
rests_none b pins board entries [] rest = refl
rests_none b pins board entries (t ∷ before) rest = (quiet_lines (record { turn = length before; link = t.after }) rest.quiet).1.nothing

pub rests_calm : (t : BoardTurn) (before : List BoardTurn) → RestsBehind (t ∷ before) → t.after.up.calm ≤ length before
rests_calm t before rest = (quiet_lines (record { turn = length before; link = t.after }) rest.quiet).1.calm

-- a link at the end of a turn, in a scene without entries
pub record IsFree (turn : ℕ) (l : LinkState) : Type 0 where
  pub clear : AreClear l turn
  pub none : l.core.link.waiting ≡ []
  pub idle : is_idle l ≡ true

clear_quiet : (l : LinkState) (turn : ℕ) → AreClear l (turn + 1) → is_quiet (record { turn = turn; link = l }) ≡ true
clear_quiet l turn c = and_from (is_quiet_line l.down turn) (is_quiet_line l.up turn) (quiet_now l.down turn c.0) (quiet_now l.up turn c.1)

pub free_at : (b : BoardDef) (pins : List (List Level)) (board : ℕ) (entries : List Entry) (turns : List BoardTurn) → entries ≡ [] → AreBoardTurns (clock_of b) (first_state b pins board entries) turns → AllKeepLimits (orders_in turns)
    → IsFree (length turns) (stands_after (first_state b pins board entries) turns)
free_at b pins board entries [] e are limits = record { clear = first_clear b pins board entries e; none = refl; idle = refl }
free_at b pins board entries (t ∷ before) e are limits =
    let clock = clock_of b in
    let first = first_state b pins board entries in
    let l = stands_after first before in
    let o = orders t.control t.batch in
    let os = orders_in before in
    let both = limits_split os (o ∷ []) limits in
    let old = free_at b pins board entries before e are.1 both.0 in
    let many : length os ≡ length before = order_length before in
    let next = clear_turn clock (length before) o l t.after are.0.0 old.clear in
    let Sound : ℕ → Type 0 = λ k. IsSound l k in
    let sound = subst Sound (no_more (length os) ∙ many) (sound_along clock os 0 first l (first_sound b pins board entries) (turns_in_order clock first before are.1)) in
    let none = sends_all clock (length before) o l t.after sound are.0.0 old.idle both.1.0 in
    let Clear : ℕ → Type 0 = λ k. AreClear t.after k in
    let later : length before + 1 ≡ suc (length before) = omega arith in
    record { clear = subst Clear later next; none = none; idle = rests_idle b pins board entries (t ∷ before) are (record { quiet = clear_quiet t.after (length before) next; empty = none }) }

pub clear_behind : (b : BoardDef) (pins : List (List Level)) (board : ℕ) (entries : List Entry) (turns : List BoardTurn) → entries ≡ [] → AreBoardTurns (clock_of b) (first_state b pins board entries) turns → AllKeepLimits (orders_in turns) → RestsBehind turns
clear_behind b pins board entries [] e are limits = tt
clear_behind b pins board entries (t ∷ before) e are limits =
    let free = free_at b pins board entries (t ∷ before) e are limits in
    let Clear : ℕ → Type 0 = λ k. AreClear t.after k in
    let next : suc (length before) ≡ length before + 1 = omega arith in
    record { quiet = clear_quiet t.after (length before) (subst Clear next free.clear); empty = free.none }

-- so it rests over each turn
pub clear_over : (b : BoardDef) (pins : List (List Level)) (board : ℕ) (entries : List Entry) (t : BoardTurn) (before : List BoardTurn) → entries ≡ [] → AreBoardTurns (clock_of b) (first_state b pins board entries) (t ∷ before)
    → AllKeepLimits (orders_in (t ∷ before)) → RestsOver t before
clear_over b pins board entries t before e are limits =
    let kept = (limits_split (orders_in before) (orders t.control t.batch ∷ []) limits).0 in
    (clear_behind b pins board entries before e are.1 kept, clear_behind b pins board entries (t ∷ before) e are limits)

pub clear_from : (b : BoardDef) (pins : List (List Level)) (board : ℕ) (entries : List Entry) (from : ℕ) (turns : List BoardTurn) → entries ≡ [] → AreBoardTurns (clock_of b) (first_state b pins board entries) turns → AllKeepLimits (orders_in turns)
    → RestsFrom from turns
clear_from b pins board entries from [] e are limits = tt
clear_from b pins board entries from (t ∷ before) e are limits =
    let kept = (limits_split (orders_in before) (orders t.control t.batch ∷ []) limits).0 in
    (λ late. clear_over b pins board entries t before e are limits, clear_from b pins board entries from before e are.1 kept)
