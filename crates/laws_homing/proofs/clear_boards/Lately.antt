-- A board that can trigger was heard of lately.
use Rattle.std.proofs.Common.{◌≡◌, ℕ, ◌+◌, ◌-◌, ◌*◌, ◌%◌, ◌^◌, ◌<◌, ◌≤◌, inl, inr, Bool, true, false, List, [], ◌∷◌, length, refl, ap, sym, ◌∙◌, subst, arith, ◌⊎◌}
use Rattle.std.specs.Prelude.{◌||◌}
use Rattle.std.specs.List.{Contains}
use Rattle.laws_board.proofs.Names.{leb_tells, Level, BoardDef, board_tick, clock_of, turn_ns, Clocks, lines_tick, clocks_at, Entry, State, commands_of, Rig, passes, takes_all, queued_in, first_state, orders, Seen, Homing, hears_all, state_at}
use Rattle.plan_types.specs.Clock.{run_turns}
use Rattle.laws_homing.specs.clear_boards.Rests.{RestsOver}
use Rattle.laws_board.specs.turns.Turns.{AreBoardTurns, BoardTurn, stands_after}
use Rattle.laws_board.specs.sections.Events.{AreTicks}
use Rattle.laws_board.specs.sections.Parts.{AreTracked}
use Rattle.laws_board.proofs.sections.Clocks.{ticks_rise}
use Rattle.trigger_group.specs.Group.{any_fired_by, fired_by}
use Rattle.trigger_group.proofs.Answering.{either, first_there, none_there, there_more}
use Rattle.laws_homing.specs.clear_boards.Alive.{StaysAlive}
use Rattle.laws_homing.specs.clear_boards.Firing.{AreSpoken}
use Rattle.laws_homing.specs.clear_boards.Hearing.{FiredOn, HeardBy, TellAble}
use Rattle.laws_homing.specs.clear_boards.Lately.{IsHeardOf, NearOn}
use Rattle.laws_homing.specs.clear_boards.Modes.{HeardLately}
use Rattle.laws_homing.proofs.clear_boards.Bridging.{tells_able, turn_is}
use Rattle.laws_homing.proofs.clear_boards.Clocking.{report_counts}
use Rattle.laws_homing.proofs.clear_boards.Hearing.{hears_able, hears_on}
use Rattle.std.proofs.lemmas.Bool.{or_right, or_left}

near_on : (start b when turn : ℕ) (xs : List Seen) → turn ≤ when + 10 → HeardBy start b when xs → NearOn start b turn xs
near_on start b when turn [] l k = tt
near_on start b when turn (x ∷ xs) l k = ((λ on. (let h = k.0 on in omega (arith, h, l))), near_on start b when turn xs l k.1)

pub near_so : (own : ℕ → ℕ) (base every start b turn next : ℕ) (xs : List Seen) → AreTicks own → ((k : ℕ) → own k + every < own (k + 6)) → base < own (start + 4) → own turn ≤ next → IsHeardOf own base every start b next xs → NearOn start b turn xs
near_so own base every start b turn next xs ticks goes early due (inl k) =
    let low = k.0 in
    elim (leb_tells (start + 4) turn) [
      | inl p ↦ absurd (let up = ticks_rise own ticks (start + 4) turn p.1 in omega (arith, up, early, due, low))
      | inr p ↦ let soon = p.1 in near_on start b start turn xs (omega (arith, soon)) k.1
    ]
near_so own base every start b turn next xs ticks goes early due (inr k) =
    let at = k.0 in
    let told = k.1 in
    let when = k.2 in
    let sum = k.3 in
    let before = k.4 in
    let late = k.5 in
    elim (leb_tells (told + 1 + 6) turn) [
      | inl p ↦ absurd (let up = ticks_rise own ticks (told + 1 + 6) turn p.1 in let far = goes (told + 1) in omega (arith, up, far, before, sum, due))
      | inr p ↦ let soon = p.1 in near_on start b when turn xs (omega (arith, soon, late)) k.6
    ]

-- so all members
pub lately_all : (start last turn : ℕ) (xs : List Seen) → ((x : Seen) → Contains xs x → NearOn start x.member.board turn xs ⊎ FiredOn x.member.board last xs) → HeardLately start last turn xs
lately_all start last turn [] f = tt
lately_all start last turn (x ∷ xs) f = (
  elim (f x (first_there x xs)) [ inl k ↦ inl (k.0 refl) | inr k ↦ inr (k.0 refl) ],
  lately_all start last turn xs (λ y c. elim (f y (there_more x y xs c)) [ inl k ↦ inl k.1 | inr k ↦ inr k.1 ]),
)

pub any_on : (b last : ℕ) (x : Seen) (xs : List Seen) → Contains xs x → x.member.board ≡ b → FiredOn b last xs → any_fired_by last xs ≡ true
any_on b last x [] c on k = absurd (none_there x c)
any_on b last x (y ∷ ys) c on k = elim (either y x ys c) [
  | inl same ↦ or_left (fired_by last y.fired) (any_fired_by last ys) (k.0 (ap (λ (z : Seen). z.member.board) same ∙ on))
  | inr later ↦ or_right (fired_by last y.fired) (any_fired_by last ys) (any_on b last x ys later on k.1)
]

-- a turn of a clear link, and the states that come behind it
module _ (b : BoardDef) (pins : List (List Level)) (place : ℕ) (entries : List Entry) (t : BoardTurn) (before : List BoardTurn) (rests : RestsOver t before) (are : AreBoardTurns (clock_of b) (first_state b pins place entries) (t ∷ before)) where
  abbrev own : ℕ → ℕ
  own = λ k. board_tick (clock_of b) k

  abbrev Left : Rig
  Left = (takes_all (stands_after (first_state b pins place entries) before).core.board (commands_of (queued_in (orders t.control t.batch)))).rig

  pub heard_on : (all : List Clocks) (states : List State) (h : Homing) (oid base every next first limit ready : ℕ) → AreTicks own → (k : AreTracked own (clocks_at all place) ready) → place < length all → state_at place states ≡ t.state ∷ [] → h.start ≡ h.group.start
      → lines_tick (clocks_at all place) (h.start * turn_ns) ≡ base → ready + 5 ≤ h.start → ready + 4 ≤ length before → length before + 1 ≤ k.until → h.start ≤ k.until → k.until < run_turns → own (length before) < 2 ^ 63 → oid < 2 ^ 8
      → AreSpoken first limit (own (length before + 1)) (passes Left (own (length before + 1))).answers
      → (a : StaysAlive oid base every (own (length before)) (own (length before + 1)) next (passes Left (own (length before + 1))).rig (passes Left (own (length before + 1))).answers)
      → IsHeardOf own base every h.group.start place next h.group.members → IsHeardOf own base every h.group.start place a.alive.next (hears_all all states h).group.members
  heard_on all states h oid base every next first limit ready ticks k few is together begins early_so low soon start_soon in_run small oid_small spoken a heard = by a.told
    where
      turn : ℕ
      turn = length before

      still : IsHeardOf own base every h.group.start place next h.group.members → IsHeardOf own base every h.group.start place next (hears_all all states h).group.members
      still (inl z) = inl (z.0, hears_on place h.group.start all states h z.1)
      still (inr z) = inr (z.0, z.1, z.2, z.3, z.4, z.5, hears_on place z.2 all states h z.6)

      by : (a.alive.next ≡ next) ⊎ ((at : ℕ) × (base ≤ at) × (own (length before) ≤ at) × (at < own (length before + 1)) × (at + every ≡ a.alive.next) × Rattle.laws_homing.specs.clear_boards.Reports.TellCan oid (at % 2 ^ 32) (passes Left (own (length before + 1))).answers)
          → IsHeardOf own base every h.group.start place a.alive.next (hears_all all states h).group.members
      by (inl same) = subst (λ (n : ℕ). IsHeardOf own base every h.group.start place n (hears_all all states h).group.members) (sym same) (still heard)
      by (inr z) =
          let at = z.0 in
          let from = z.1 in
          let late = z.2 in
          let early = z.3 in
          let counted = report_counts own (clocks_at all place) ready (length before) (length before) at ticks k low (omega arith) (omega arith) soon in_run small late early in
          let when = counted.when in
          let begun = counted.begun h.start (omega (arith, begins, from)) in
          let tells = tells_able b pins place entries t before rests are (clocks_at all place) oid (at % 2 ^ 32) when first limit (own (length before + 1)) oid_small spoken z.5 counted.in_run in
          let now = turn_is b pins place entries t before rests are in
          let At : ℕ → Type 0 = λ n. TellAble (clocks_at all place) n when t.state.news in
          let in_time : h.start ≤ t.state.turn + 1 = elim (leb_tells h.start (length before + 1)) [
            | inl p ↦ (let l = p.1 in omega (arith, l, now))
            | inr p ↦
                absurd (
                let far = p.1 in
                let e : h.start - 1 + 1 ≡ h.start = omega (arith, early_so) in
                let behind : own (h.start - 1) ≤ lines_tick (clocks_at all place) (h.start * turn_ns) =
                subst (λ (n : ℕ). own (h.start - 1) ≤ lines_tick (clocks_at all place) (n * turn_ns)) e (k.behind (h.start - 1) (omega (arith, early_so)) (omega (arith, start_soon))) in
                let up = ticks_rise own ticks (length before + 1) (h.start - 1) (omega (arith, far)) in
                omega (arith, behind, up, early, from, begins))
          ] in
          let heard_when = hears_able place when all states t.state h few is (omega (arith, begun, together)) in_time (subst At (sym now) tells) in
          inr (at, length before, when, z.4, early, counted.late, heard_when)
