-- A link in a scene without entries is clear and idle at the end of each turn.
use Rattle.std.proofs.Common.{◌≡◌, ℕ, ◌+◌, Bool, true, false, cond, List, [], ◌∷◌, length, ap, arith, inl, inr, rules}
use Rattle.std.specs.Prelude.{nat_le}
use Rattle.laws_board.proofs.Names.{BoardDef, Level, Machine, clock_of, IsValidMachine, board_at, Entry, Switch, AllKeepLimits, first_state, orders, LinkState, Stopping, Came, known_by}
use Rattle.wire_scene.specs.Wire.{Line}
use Rattle.link_work.proofs.Late.{limits_split}
use Rattle.laws_board.specs.turns.Turns.{AreBoardTurns, BoardTurn}
use Rattle.laws_board.specs.clocks.Runs.{IsInRun, UnitsFit, orders_in}
use Rattle.laws_board.proofs.clocks.Orders.{all_limits}
use Rattle.laws_board.proofs.sections.Calm.{AreClear, IsClear}
use Rattle.laws_board.specs.causes.Causes.{IsDisturbed, IsHindered, IsTouched, before_turn, link_at}
use Rattle.laws_board.proofs.causes.Turns.{are_before}
use Rattle.laws_homing.proofs.clear_boards.Rests.{free_at}

-- so nothing disturbs it
untouched : (since turn : ℕ) (l : Line) → IsClear l turn → IsTouched since l → ⊥
untouched since turn l c (inl used) = let calm = c.calm in absurd (omega (arith, calm, used))
untouched since turn l c (inr held) = let none = ap length c.none in absurd (omega (arith, none, held))

undisturbed : (since turn : ℕ) (l : LinkState) → AreClear l turn → IsDisturbed since l → ⊥
undisturbed since turn l c (inl d) = untouched since turn l.down c.0 d
undisturbed since turn l c (inr u) = untouched since turn l.up c.1 u

-- the turns before one keep the limits
limits_before : (k : ℕ) (turns : List BoardTurn) → AllKeepLimits (orders_in turns) → AllKeepLimits (orders_in (before_turn k turns))
limits_before k [] a = tt
limits_before k (t ∷ turns) a = by (nat_le k (length turns)) (limits_before k turns (limits_split (orders_in turns) (orders t.control t.batch ∷ []) a).0)
  where
    by : (b : Bool) → AllKeepLimits (orders_in (before_turn k turns)) → AllKeepLimits (orders_in (cond b (before_turn k turns) (t ∷ turns)))
    by true less = less
    by false less = a

pub never_hindered : (b : BoardDef) (pins : List (List Level)) (board : ℕ) (entries : List Entry) (turns : List BoardTurn) (k : ℕ) → entries ≡ [] → AreBoardTurns (clock_of b) (first_state b pins board entries) turns
    → AllKeepLimits (orders_in turns) → IsHindered (first_state b pins board entries) turns k → ⊥
never_hindered b pins board entries turns k e are limits h = search (rules, first_state, free_at, are_before, clock_of, limits_before, undisturbed)

-- of a board in a run
pub run_unhindered : (m : Machine) (switches : List Switch) (pins : List (List Level)) (entries : List Entry) (b : ℕ) (came : List Came) (turns : List BoardTurn) (k : ℕ) → IsValidMachine m
    → IsInRun m switches pins entries b came turns → entries ≡ [] → ((line : ℕ) → (known_by m switches came).phase ≡ Stopping line → ⊥) → UnitsFit turns
    → IsHindered (first_state (board_at m b) pins b entries) turns k → ⊥
run_unhindered m switches pins entries b came turns k v run e not fit h =
    never_hindered (board_at m b) pins b entries turns k e run.turns_are (all_limits m switches pins entries b came turns v run not fit) h
