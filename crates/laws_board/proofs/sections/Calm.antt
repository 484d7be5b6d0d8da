-- On lines without entries no turn is spoiled.
use Rattle.std.proofs.Common.{◌≡◌, ℕ, zero, suc, ◌+◌, ◌≤◌, Bool, true, false, cond, List, [], ◌∷◌, ◌++◌, take, Option, Some, None, refl, ap, sym, ◌∙◌, subst, arith, rules}
use Rattle.std.specs.Prelude.{◌&&◌, nat_le}
use Rattle.laws_board.proofs.Names.{and_from, BoardClock, BoardDef, Level, Entry, Down, Up, run_world, AreTurns, first_state, IsTurn, LinkState, Orders, after_board, after_host}
use Rattle.std.proofs.lemmas.Bool.{le-leb}
use Rattle.wire_scene.specs.declared.scene.Deed.{Deed}
use Rattle.wire_scene.specs.Wire.{Copy, Line, entries_behind, connect_if, deed_of, put_on, put_with}
use Rattle.link_work.specs.Ends.{Ended, is_quiet, is_quiet_line, no_copies, some_idle, spoiled, stretch, unquiet}
use Rattle.link_work.specs.Turn.{board_steps, host_steps, line_for, newly, put_all, still}
use Rattle.laws_board.specs.sections.Links.{ends_of}

-- blocks that are due
abbrev AllDue : ℕ → List Copy → Type 0
AllDue turn [] = Unit {0}
AllDue turn (c ∷ cs) = (c.due ≤ turn) × AllDue turn cs

due_both : (turn : ℕ) (xs ys : List Copy) → AllDue turn xs → AllDue turn ys → AllDue turn (xs ++ ys)
due_both turn [] ys k l = l
due_both turn (x ∷ xs) ys k l = (k.0, due_both turn xs ys k.1 l)

none_still : (turn : ℕ) (cs : List Copy) → AllDue turn cs → still turn cs ≡ []
none_still turn [] k = refl
none_still turn (c ∷ cs) k = ap (λ (b : Bool). cond b (still turn cs) (c ∷ cs)) (le-leb c.due turn k.0) ∙ none_still turn cs k.1

-- a line without entries in a turn
record IsFree (l : Line) (turn : ℕ) : Type 0 where
  entries : l.entries ≡ []
  later : l.later ≡ []
  last : l.last ≤ turn
  calm : l.calm ≡ 0
  due : AllDue turn l.copies

free_with : (l : Line) (turn : ℕ) (bytes : List ℕ) (d : Option Deed) → d ≡ None → IsFree l turn → IsFree (put_with l turn bytes d) turn
free_with l turn bytes d p4 p5 = search (rules, due_both)

free_all : (l : Line) (turn : ℕ) (bs : List (List ℕ)) → IsFree l turn → IsFree (put_all l turn bs) turn
free_all l turn [] f = f
free_all l turn (b ∷ bs) f = free_all (put_on l turn b) turn bs (free_with l turn b (deed_of l.number l.entries) (ap (deed_of l.number) f.entries) f)

free_if : (b : Bool) (l : Line) (turn : ℕ) → IsFree l turn → IsFree (connect_if b l) turn
free_if true l turn f = f
free_if false l turn f = record { entries = f.later; later = refl; last = f.last; calm = f.calm; due = f.due }

free_for : (b : Bool) (l : Line) (turn : ℕ) → IsFree l turn → IsFree (line_for b l) turn
free_for true l turn f = free_if l.connected l turn f
free_for false l turn f = f

-- between two turns
pub record IsClear (l : Line) (turn : ℕ) : Type 0 where
  pub entries : l.entries ≡ []
  pub later : l.later ≡ []
  pub last : l.last ≤ turn
  pub calm : l.calm ≡ 0
  pub none : l.copies ≡ []

clear_free : (l : Line) (turn : ℕ) → IsClear l turn → IsFree l turn
clear_free l turn c = record { entries = c.entries; later = c.later; last = c.last; calm = c.calm; due = subst (λ (cs : List Copy). AllDue turn cs) (sym c.none) tt }

free_clear : (l : Line) (turn : ℕ) → IsFree l turn → IsClear (record l { copies = still turn l.copies }) (turn + 1)
free_clear l turn f = let last = f.last in record { entries = f.entries; later = f.later; last = omega arith; calm = f.calm; none = none_still turn l.copies f.due }

abbrev pub AreClear : LinkState → ℕ → Type 0
AreClear l turn = IsClear l.down turn × IsClear l.up turn

pub clear_turn : (clock : BoardClock) (turn : ℕ) (o : Orders) (l m : LinkState) → IsTurn clock turn o l m → AreClear l turn → AreClear m (turn + 1)
clear_turn clock turn o l m t c = search (rules, after_host, after_board, free_all, run_world, free_for, clear_free, free_clear)

-- so every turn is quiet
pub quiet_now : (l : Line) (turn : ℕ) → IsClear l (turn + 1) → is_quiet_line l turn ≡ true
quiet_now l turn c =
    let calm = c.calm in
    ap (λ (b : Bool). b && nat_le l.calm turn) (ap no_copies c.none) ∙ le-leb l.calm turn (omega arith)

abbrev pub AllQuiet : List Ended → Type 0
AllQuiet [] = Unit {0}
AllQuiet (e ∷ ends) = (is_quiet e ≡ true) × AllQuiet ends

pub turns_quiet : (clock : BoardClock) (turn : ℕ) (os : List Orders) (l m : LinkState) (t : AreTurns clock turn os l m) → AreClear l turn → AllQuiet (ends_of clock turn os l m t)
turns_quiet clock turn [] l m t c = tt
turns_quiet clock turn (o ∷ os) l m t c =
    let next = clear_turn clock turn o l t.0 t.1 c in
    (and_from (is_quiet_line t.0.down turn) (is_quiet_line t.0.up turn) (quiet_now t.0.down turn next.0) (quiet_now t.0.up turn next.1), turns_quiet clock (turn + 1) os t.0 m t.2 next)

pub take_quiet : (k : ℕ) (ends : List Ended) → AllQuiet ends → AllQuiet (take k ends)
take_quiet zero ends q = tt
take_quiet (suc k) [] q = tt
take_quiet (suc k) (e ∷ ends) q = (q.0, take_quiet k ends q.1)

pub stretch_quiet : (ends : List Ended) → AllQuiet ends → AllQuiet (stretch ends)
stretch_quiet [] q = tt
stretch_quiet (e ∷ ends) q = by (some_idle (e ∷ ends)) (stretch_quiet ends q.1)
  where
    by : (b : Bool) → AllQuiet (stretch ends) → AllQuiet (cond b (stretch ends) (e ∷ ends))
    by true r = r
    by false r = q

pub none_unquiet : (ends : List Ended) → AllQuiet ends → unquiet ends ≡ 0
none_unquiet [] q = refl
none_unquiet (e ∷ ends) q =
    let first : unquiet (e ∷ ends) ≡ 0 + unquiet ends = ap (λ b. cond b 0 1 + unquiet ends) q.0 in
    let rest = none_unquiet ends q.1 in
    omega (arith, first, rest)

-- a link without entries, before turn 0
pub first_clear : (b : BoardDef) (pins : List (List Level)) (board : ℕ) (entries : List Entry) → entries ≡ [] → AreClear (first_state b pins board entries) 0
first_clear b pins board [] e = (record { entries = refl; later = refl; last = omega arith; calm = refl; none = refl }, record { entries = refl; later = refl; last = omega arith; calm = refl; none = refl })
first_clear b pins board (x ∷ entries) e = absurd (let f : x ∷ entries ≡ [] = e in cc)

pub calm_links : (clock : BoardClock) (b : BoardDef) (pins : List (List Level)) (board : ℕ) (entries : List Entry) (os : List Orders) (m : LinkState) (t : AreTurns clock 0 os (first_state b pins board entries) m) (k : ℕ) → entries ≡ []
    → spoiled (take k (ends_of clock 0 os (first_state b pins board entries) m t)) ≡ 0
calm_links clock b pins board entries os m t k e =
    let first = first_state b pins board entries in
    let ends = ends_of clock 0 os first m t in
    none_unquiet (stretch (take k ends)) (stretch_quiet (take k ends) (take_quiet k ends (turns_quiet clock 0 os first m t (first_clear b pins board entries e))))
