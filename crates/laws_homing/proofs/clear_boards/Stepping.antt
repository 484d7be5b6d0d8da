-- A board of a homing group whose trigger can trigger, over a turn of a clear link.
use Rattle.std.proofs.Common.{◌≡◌, ℕ, ◌+◌, ◌-◌, ◌*◌, ◌%◌, ◌^◌, ◌<◌, ◌≤◌, inl, inr, true, false, List, [], ◌∷◌, length, None, Some, max, ap, sym, ◌∙◌, subst, arith, ◌⊎◌, rules}
use Rattle.laws_board.proofs.Names.{leb_tells, Level, BoardDef, Running, nearest, board_tick, clock_of, turn_ns, Clocks, lines_tick, clocks_at, turn_in_run, turn_tick, Entry, Cmd, State, commands_of, Rig, Slot, passes, slot_at, takes_all, AllSound, one_slot, queued_in, first_state, orders, Homing, hears_all, low, state_at}
use Rattle.plan_types.specs.Clock.{run_turns}
use Rattle.board_sim.proofs.RigStates.{all_tick}
use Rattle.board_sim.proofs.Sound.{sound_regular}
use Rattle.laws_homing.specs.clear_boards.Rests.{RestsOver}
use Rattle.laws_board.specs.turns.Turns.{AreBoardTurns, BoardTurn, stands_after}
use Rattle.laws_board.specs.sections.Events.{AreTicks}
use Rattle.laws_board.specs.sections.Parts.{AreTracked}
use Rattle.laws_board.proofs.sections.Clocks.{ticks_rise}
use Rattle.laws_homing.specs.home_runs.Guards.{HasFired}
use Rattle.laws_homing.specs.clear_boards.Alive.{IsAlive, RelayNone}
use Rattle.laws_homing.specs.clear_boards.Clocking.{IsAhead}
use Rattle.laws_homing.specs.clear_boards.Hearing.{AllFiredIn, FiringNone, NoneOn}
use Rattle.laws_homing.specs.clear_boards.Lately.{IsHeardOf}
use Rattle.laws_homing.specs.clear_boards.Limited.{IsLimited}
use Rattle.laws_homing.specs.clear_boards.Member.{IsMember}
use Rattle.laws_homing.specs.clear_boards.Turned.{AreSentBehind, IsTurnedTo, SetsOne}
use Rattle.laws_homing.proofs.clear_boards.Alive.{turn_alive}
use Rattle.laws_homing.proofs.clear_boards.Bridging.{all_fired_in, none_firing, tells_firing, turn_is}
use Rattle.laws_homing.proofs.clear_boards.Clocking.{line_ahead, lines_up, report_counts, timeout_ahead}
use Rattle.laws_homing.proofs.clear_boards.Knowing.{hears_fired, hears_none, none_known}
use Rattle.laws_homing.proofs.clear_boards.Lately.{heard_on, near_so}
use Rattle.laws_homing.proofs.clear_boards.Member.{all_sound, takes_spoken, turn_numbered, turn_off, turn_spoken}
use Rattle.laws_homing.proofs.clear_boards.Turned.{next_all, takes_turned, turn_ahead}
use Rattle.laws_homing.proofs.home_runs.Grouped.{sole_state}

alive_not : (oid : ℕ) (r : Rig) (s : Slot) → slot_at r oid ≡ Some s → s.trigger.can ≡ true → HasFired oid r → ⊥
alive_not oid r s there can f = search (rules, one_slot, slot_at)

module _ (b : BoardDef) (pins : List (List Level)) (place : ℕ) (entries : List Entry) (t : BoardTurn) (before : List BoardTurn) (rests : RestsOver t before) (are : AreBoardTurns (clock_of b) (first_state b pins place entries) (t ∷ before)) where
  abbrev own : ℕ → ℕ
  own = λ k. board_tick (clock_of b) k

  abbrev Start : Rig
  Start = (stands_after (first_state b pins place entries) before).core.board

  abbrev Commands : List Cmd
  Commands = commands_of (queued_in (orders t.control t.batch))

  abbrev Taken : Rig
  Taken = (takes_all Start Commands).rig

  abbrev After : Rig
  After = (passes Taken (own (length before + 1))).rig

  pub goes_on : (all : List Clocks) (states : List State) (h : Homing) (oid base every ready sent next : ℕ) → AreTicks own → (k : AreTracked own (clocks_at all place) ready) → place < length all → state_at place states ≡ t.state ∷ [] → h.start ≡ h.group.start
      → lines_tick (clocks_at all place) (h.start * turn_ns) ≡ base → ready + 5 ≤ h.start → ready + 4 ≤ length before → length before + 1 ≤ k.until → h.start ≤ k.until → next ≤ k.until → k.until < run_turns → own (length before) < 2 ^ 63
      → own (length before) < own (length before + 1) → ((u : ℕ) → own u + every < own (u + 6)) → length before + 2 ≤ next → next ≤ length before + 1_000 → next ≤ h.group.last + 1 → oid < 2 ^ 8 → length Start.triggers ≤ 256
      → Start.controller.tick ≡ own (length before) → Taken.controller.state ≡ Running → AreSentBehind oid (low (turn_tick (clocks_at all place) next)) Commands → RelayNone Commands
      → (sent ≡ next) ⊎ SetsOne Commands → ((tick : ℕ) → IsLimited oid tick (lines_tick (clocks_at all place) (sent * turn_ns)) Start) → AllSound Start
      → (a : IsAlive oid base every (own (length before)) Start) → IsHeardOf own base every h.group.start place a.next h.group.members → NoneOn place h.group.members
      → ((tick : ℕ) → IsTurnedTo oid tick (lines_tick (clocks_at all place) (next * turn_ns)) (own (length before + 1)) Start Commands)
      × IsMember own oid base every h.group.start h.group.last place (length before + 1) After (hears_all all states h).group.members
  goes_on all states h oid base every ready sent next ticks k few is together begins early_so low_so soon start_soon next_soon in_run small rises goes far near most oid_small few_triggers at runs behind relays sets limited sound a heard known =
      let cl : Clocks = clocks_at all place in
      let now : ℕ = own (length before) in
      let until : ℕ = own (length before + 1) in
      let clock : ℕ = low (turn_tick cl next) in
      let old : ℕ = lines_tick cl (sent * turn_ns) in
      let limit : ℕ = lines_tick cl (next * turn_ns) in
      let members = (hears_all all states h).group.members in
      let ahead : IsAhead own cl (length before) next = timeout_ahead own cl ready (length before) next ticks k (omega (arith, low_so)) next_soon far near rises small in
      let later : now < limit = ahead.later in
      let is_next : nearest now clock ≡ limit = ahead.is in
      let later_clock : now < nearest now clock = omega (arith, is_next, later) in
      let until_low : until ≤ limit = line_ahead own cl ready (length before + 1) next k (omega (arith, low_so)) soon (omega (arith, far)) in
      let renew : (old ≡ limit) ⊎ SetsOne Commands = elim sets [ inl e ↦ inl (ap (λ (n : ℕ). lines_tick cl (n * turn_ns)) e) | inr s ↦ inr s ] in
      let turned : (tick : ℕ) → IsTurnedTo oid tick limit until Start Commands = (λ tick. turn_ahead oid tick old limit clock now until Start Commands at is_next later runs behind renew (inl until_low) (limited tick)) in
      let taken : IsLimited oid 0 limit Taken = (takes_turned oid 0 old limit clock now Start Commands at is_next later runs behind renew (limited 0)).0 in
      let told : a.slot.trigger.untold ≡ None = ((limited 0).held oid a.slot a.is).told in
      let still_sound : AllSound Taken = all_sound Start Commands sound in
      let order : now ≤ until = omega (arith, rises) in
      let alive = turn_alive oid base every 0 limit now until clock Start Commands a told at later_clock runs behind relays taken still_sound (sound_regular Taken still_sound) (all_tick Start Commands ∙ at) order until_low in
      let spoken = alive.1 in
      let start_ahead = k.ahead h.start (omega (arith, early_so)) start_soon in
      let Early : ℕ → Type 0 = λ n. base < own (n + 4) in
      let early_base : base < own (h.group.start + 4) = subst Early together (omega (arith, start_ahead, begins)) in
      let now_is = turn_is b pins place entries t before rests are in
      let places = (next_all oid clock Start Commands behind).places in (
        turned,
        elim alive.0 [
          | inl stays ↦
              let heard_now = heard_on b pins place entries t before rests are all states h oid base every a.next (max base now) limit ready ticks k few is together begins early_so low_so soon start_soon in_run small oid_small spoken stays heard in
              let off = turn_off oid clock until Start Commands few_triggers (omega (arith, places, few_triggers)) (limited 0).sole taken.sole behind in
              let firing = none_firing b pins place entries t before rests are (HasFired oid After) off (λ f. alive_not oid After stays.alive.slot stays.alive.is stays.alive.can f) in
              let unknown = hears_none place all states h (λ s there. subst (λ (x : State). FiringNone x.news) (sole_state s t.state (sym is ∙ there)) firing) known in
              inl (stays.alive, heard_now, near_so own base every h.group.start place (length before + 1) stays.alive.next members ticks goes early_base stays.alive.due heard_now, unknown)
          | inr off ↦
              let all_spoken = turn_spoken (max base now) limit until Start Commands (takes_spoken (max base now) limit until oid clock now Start Commands a.slot runs a.is told at later_clock behind relays) spoken in
              let numbered = turn_numbered oid clock until Start Commands few_triggers (omega (arith, places, few_triggers)) (limited 0).sole taken.sole behind in
              let up = lines_up cl next (h.group.last + 1) most in
              let counts : (x : ℕ) → max base now ≤ x → x < limit → x < until → (when : ℕ) × (h.group.start ≤ when) × (when ≤ h.group.last) × (turn_in_run cl (nearest (turn_tick cl (length before)) (x % 2 ^ 32)) ≡ Some when) =
              (λ x from before_limit early. (
              let c = report_counts own cl ready (length before) (length before) x ticks k low_so (omega arith) (omega arith) soon in_run small (omega (arith, from)) early in
              let begun = c.begun h.start (omega (arith, begins, from)) in
              (c.when, omega (arith, begun, together), c.ends h.group.last (omega (arith, before_limit, up)), c.in_run))) in
              let all_in = all_fired_in b pins place entries t before rests are cl h.group.start h.group.last (max base now) limit until all_spoken numbered counts in
              let fires = tells_firing b pins place entries t before rests are oid (off.at % 2 ^ 32) (max base now) limit until oid_small spoken off.told in
              let At : ℕ → Type 0 = λ n. AllFiredIn cl n h.group.start h.group.last t.state.news in
              let from = off.begun in
              let early = off.early in
              let in_time : h.start ≤ t.state.turn + 1 = elim (leb_tells h.start (length before + 1)) [
                | inl p ↦ (let l = p.1 in omega (arith, l, now_is))
                | inr p ↦
                    absurd (
                    let late = p.1 in
                    let e : h.start - 1 + 1 ≡ h.start = omega (arith, early_so) in
                    let back : own (h.start - 1) ≤ lines_tick cl (h.start * turn_ns) = subst (λ (n : ℕ). own (h.start - 1) ≤ lines_tick cl (n * turn_ns)) e (k.behind (h.start - 1) (omega (arith, early_so)) (omega (arith, start_soon))) in
                    let rise = ticks_rise own ticks (length before + 1) (h.start - 1) (omega (arith, late)) in
                    omega (arith, back, rise, early, from, begins))
              ] in
              inr (off.fired, hears_fired place h.group.last all states t.state h few is in_time (subst At (sym now_is) all_in) fires (none_known place h.group.last h.group.members known))
        ],
      )
