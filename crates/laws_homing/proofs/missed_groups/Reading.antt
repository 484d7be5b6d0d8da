-- In a clear run what a board tells of its trigger is read as the tick since which it can't trigger.
use Rattle.std.proofs.Common.{◌≡◌, ℕ, ◌+◌, ◌%◌, ◌^◌, ◌<◌, ◌≤◌, inl, inr, List, [], ◌∷◌, length, Some, ap, sym, ◌∙◌, subst, arith}
use Rattle.laws_board.proofs.Names.{leb_tells, Level, Machine, nearest, board_tick, clock_of, Clocks, IsValidMachine, board_at, clocks_at, turn_tick, Entry, Switch, State, trigger_of, Slot, slot_at, one_slot, Member, Fired, Homing, hears_all, members_of, noted, Came, known_by, no_both}
use Rattle.plan_types.specs.Clock.{run_turns}
use Rattle.msg_code.specs.declared.cmd.Cmd.TheVariants as cmd
use Rattle.laws_board.specs.turns.Turns.{BoardTurn}
use Rattle.laws_board.specs.sections.Parts.{AreTracked}
use Rattle.laws_board.proofs.clocks.Lines.{as_long}
use Rattle.laws_board.proofs.sections.Clocks.{ticks_rise}
use Rattle.laws_homing.specs.home_runs.Told.{IsMember}
use Rattle.laws_homing.specs.home_runs.Windows.{HasAnswer}
use Rattle.laws_homing.specs.missed_groups.Ticks.{IsReader}
use Rattle.laws_homing.specs.switch_runs.Reports.{IsReport}
use Rattle.laws_homing.specs.fired_runs.Since.{AreSoInTurns, ReadsSwitchTrue, ReadsTrue, WasFiredAt}
use Rattle.laws_homing.specs.clear_groups.Resting.{BeginsAlone}
use Rattle.laws_homing.specs.clear_groups.Runs.{AreSetUp, IsClearRun}
use Rattle.laws_homing.specs.clear_groups.Safe.{IsSafe}
use Rattle.laws_homing.specs.clear_groups.Sections.{IsClearSection, IsFollowed, rig_at, turns_of}
use Rattle.laws_homing.proofs.clear_boards.Clocking.{report_counts}
use Rattle.laws_homing.proofs.clear_groups.Begun as begun
use Rattle.laws_homing.proofs.clear_groups.Beginning as beginning
use Rattle.laws_homing.proofs.clear_groups.Groups as groups
use Rattle.laws_homing.proofs.clear_groups.Known.{behind_turn}
use Rattle.laws_homing.proofs.clear_groups.Runs.{earlier, prepared_here}
use Rattle.laws_homing.proofs.clear_groups.Sections.{rests_section}
use Rattle.laws_homing.proofs.missed_groups.Fresh as freshness
use Rattle.laws_homing.proofs.missed_groups.Fresh.{IsFresh, Off, begins_fresh, step_fresh, told_so}
use Rattle.laws_homing.proofs.missed_groups.Stepping as stepping
use Rattle.laws_homing.proofs.fired_runs.Reported.{sole_state}
use Rattle.plan_types.proofs.Facts.{some_same}

reader_member : (b : ℕ) (ms : List Member) → IsReader b ms → IsMember b ms
reader_member b [] k = absurd k
reader_member b (x ∷ ms) (inl k) = inl k.0
reader_member b (x ∷ ms) (inr k) = inr (reader_member b ms k)

module _ (m : Machine) (v : IsValidMachine m) (switches : List Switch) (pins : ℕ → List (List Level)) (entries : List Entry) (none : entries ≡ []) (lines : ℕ → ℕ → Clocks) (ready till : ℕ)
    (tracks : (start b : ℕ) → b < length m.boards → (k : AreTracked (λ n. board_tick (clock_of (board_at m b)) n) (lines start b) ready) × (till ≤ k.until) × (k.until < run_turns)) where
  abbrev Own : ℕ → ℕ → ℕ
  Own b = λ k. board_tick (clock_of (board_at m b)) k

  -- over the turns of a section
  module _ (from start : ℕ) (members : List Member) (begun_so : from + 251 ≤ start) (within : (b : ℕ) → IsMember b members → b < length m.boards) where
    abbrev Tracks : Type 0
    Tracks = (b : ℕ) → IsMember b members → (k : AreTracked (Own b) (lines start b) ready) × (till ≤ k.until) × (k.until < run_turns)

    all_track : Tracks
    all_track b on = tracks start b (within b on)

    -- the section that is known in a turn, whose group is safe and knows of what has triggered
    record Known (c : Came) (before : List Came) (all : List (ℕ → BoardTurn)) : Type 0 where
      last : ℕ
      followed : (b : ℕ) → IsMember b members → IsFollowed m b (lines start b) ready start last till
      low_so : ready + 255 ≤ start
      homing : Homing
      is : (noted m c.note (known_by m switches before)).homing ≡ Some homing
      safe : IsSafe m (lines start) start last members (length before) (hears_all (noted m c.note (known_by m switches before)).clocks c.states homing).group (rig_at m pins entries all)
      fresh : IsFresh m (lines start) start last members (length before) (hears_all (noted m c.note (known_by m switches before)).clocks c.states homing).group (rig_at m pins entries all)

    here : (c d e : Came) (past : List Came) (i j : ℕ → BoardTurn) (js : List (ℕ → BoardTurn)) → IsClearSection m switches pins entries (lines start) from start members c (d ∷ e ∷ past) (i ∷ j ∷ js) → BeginsAlone m switches (d ∷ e ∷ past)
        → AreSetUp m switches pins entries lines ready till (c ∷ d ∷ e ∷ past) (i ∷ j ∷ js) → length (d ∷ e ∷ past) + 276 ≤ till → length (d ∷ e ∷ past) + 249 ≡ start → Known c (d ∷ e ∷ past) (i ∷ j ∷ js)
    here c d e past i j js s alone set_up reach at =
        let y = prepared_here m switches pins entries none lines ready till v from start members begun_so c d e past i j js s alone set_up reach at in
        let x = y.x in
        let begins = x.begins in
        let set : length past + 251 ≡ start = omega (arith, at) in
        let first_reach : length past + 276 ≤ till = omega (arith, reach) in
        let safe_in = beginning.begins_safe m switches pins entries (lines start) ready x.from start x.last till x.members x.followed c d e past i j js (rests_section m switches pins entries (lines start) x.from start x.members c (d ∷ e ∷ past) (i ∷ j ∷ js) none x.section) x.early x.begins set x.goes first_reach x.first x.second x.new.0 x.new.1 x.new.2 y.boards in
        let Second : Homing = beginning.Second m switches pins entries (lines start) ready x.from start x.last till x.members x.followed c d e past i j js (rests_section m switches pins entries (lines start) x.from start x.members c (d ∷ e ∷ past) (i ∷ j ∷ js) none x.section) x.early x.begins set x.goes first_reach x.first x.second x.new.0 x.new.1 x.new.2 in
        let known = (beginning.known_second m switches pins entries (lines start) ready x.from start x.last till x.members x.followed c d e past i j js (rests_section m switches pins entries (lines start) x.from start x.members c (d ∷ e ∷ past) (i ∷ j ∷ js) none x.section) x.early x.begins set x.goes first_reach x.first x.second x.new.0 x.new.1 x.new.2).0 in
        let fresh_so = begins_fresh m switches pins entries none (lines start) ready x.from start x.last till x.members x.followed c d e past i j js x.section x.early x.begins set x.goes first_reach x.first x.second x.new.0 x.new.1 x.new.2 y.boards in
        let clocks = (noted m c.note (known_by m switches (d ∷ e ∷ past))).clocks in
        let n = length (d ∷ e ∷ past) in
        let rigs = rig_at m pins entries (i ∷ j ∷ js) in
        let same : safe_in.0 ≡ Second = some_same safe_in.0 Second (sym safe_in.1 ∙ known) in
        let safe_so = subst (λ (z : Homing). IsSafe m (lines start) start x.last x.members n (hears_all clocks c.states z).group rigs) same safe_in.2 in
        let Parts : List Member → Type 0 = λ ms. ((b : ℕ) → IsMember b ms → IsFollowed m b (lines start b) ready start x.last till)
        × IsSafe m (lines start) start x.last ms n (hears_all clocks c.states Second).group rigs × IsFresh m (lines start) start x.last ms n (hears_all clocks c.states Second).group rigs in
        let parts : Parts members = subst Parts y.same (x.followed, safe_so, fresh_so) in
        record { last = x.last; followed = parts.0; low_so = omega (arith, begins, at); homing = Second; is = known; safe = parts.1; fresh = parts.2 }

    -- from one turn to the next
    next : (c d : Came) (past : List Came) (j : ℕ → BoardTurn) (js : List (ℕ → BoardTurn)) → IsClearSection m switches pins entries (lines start) from start members c (d ∷ past) (j ∷ js) → length (d ∷ past) + 276 ≤ till → start ≤ length past + 249
        → Known d past js → Known c (d ∷ past) (j ∷ js)
    next c d past j js s reach reached k =
        let low = k.low_so in
        let early : from ≤ length past = omega (arith, reached, begun_so) in
        let low_here : ready + 4 ≤ length past = omega (arith, reached, low) in
        let reach_here : length past + 276 ≤ till = omega (arith, reach) in
        let to = groups.step m switches pins entries (lines start) ready from start k.last till members k.followed c d past j js (rests_section m switches pins entries (lines start) from start members c (d ∷ past) (j ∷ js) none s) early low_here reached reach_here k.homing k.is k.safe in
        let fresh_next = step_fresh m v switches pins entries none (lines start) ready from start k.last till members k.followed all_track c d past j js s early low_here reached reach_here k.homing k.is k.safe k.fresh to.0.small in
        let clocks = (noted m d.note (known_by m switches past)).clocks in
        let Next : Homing = behind_turn (hears_all clocks d.states k.homing) (length past) in
        let known = stepping.next_known m v switches pins entries none (lines start) ready from start k.last till members k.followed 0 0 c d past j js s early low_here reached reach_here k.homing k.is in
        let e : length past + 1 ≡ length (d ∷ past) = omega arith in
        let g = (hears_all (noted m c.note (known_by m switches (d ∷ past))).clocks c.states Next).group in
        let rigs = rig_at m pins entries (j ∷ js) in
        record {
          last = k.last;
          followed = k.followed;
          low_so = k.low_so;
          homing = Next;
          is = known.0;
          safe = subst (λ (n : ℕ). IsSafe m (lines start) start k.last members n g rigs) e to.0;
          fresh = subst (λ (n : ℕ). IsFresh m (lines start) start k.last members n g rigs) e fresh_next;
        }

    known_in : (c : Came) (before : List Came) (all : List (ℕ → BoardTurn)) → IsClearSection m switches pins entries (lines start) from start members c before all → BeginsAlone m switches before → AreSetUp m switches pins entries lines ready till (c ∷ before) all
        → length before + 276 ≤ till → start ≤ length before + 249 → Known c before all
    known_in c [] all s alone set_up reach l = absurd (omega (arith, l, begun_so))
    known_in c (d ∷ []) all s alone set_up reach l = absurd (omega (arith, l, begun_so))
    known_in c (d ∷ e ∷ past) [] s alone set_up reach l = absurd (let size = s.long in omega (arith, size))
    known_in c (d ∷ e ∷ past) (i ∷ []) s alone set_up reach l = absurd (let size = s.long in omega (arith, size))
    known_in c (d ∷ e ∷ past) (i ∷ j ∷ js) s alone set_up reach l = elim (leb_tells start (length (e ∷ past) + 249)) [
      | inl p ↦
          let old = earlier m switches pins entries none lines ready till v from start members begun_so c d (e ∷ past) i (j ∷ js) s in
          next c d (e ∷ past) i (j ∷ js) s reach p.1 (known_in d (e ∷ past) (j ∷ js) old alone.1 set_up.1 (omega (arith, reach)) p.1)
      | inr p ↦ let below = p.1 in here c d e past i j js s alone set_up reach (omega (arith, l, below))
    ]

    -- what a member's board tells in the turn before
    told_true : (c d : Came) (past : List Came) (j : ℕ → BoardTurn) (js : List (ℕ → BoardTurn)) → IsClearSection m switches pins entries (lines start) from start members c (d ∷ past) (j ∷ js) → BeginsAlone m switches (d ∷ past)
        → AreSetUp m switches pins entries lines ready till (d ∷ past) js → length (d ∷ past) + 276 ≤ till → start ≤ length past + 249 → (b : ℕ) → IsMember b members → (f : Fired) (oid clock : ℕ) → HasAnswer (cmd.TrsyncState oid 0 f.reason clock) (j b).state.news
        → f.tick ≡ nearest (turn_tick (clocks_at (noted m c.note (known_by m switches (d ∷ past))).clocks b) (length (turns_of b js))) clock → WasFiredAt (trigger_of m b) f.reason f.tick (turns_of b (j ∷ js))
    told_true c d past j js s alone set_up reach reached b on f oid clock told tick_is =
        let old = earlier m switches pins entries none lines ready till v from start members begun_so c d past j js s in
        let k = known_in d past js old alone.1 set_up (omega (arith, reach)) reached in
        let low = k.low_so in
        let early : from ≤ length past = omega (arith, reached, begun_so) in
        let low_here : ready + 4 ≤ length past = omega (arith, reached, low) in
        let reach_here : length past + 276 ≤ till = omega (arith, reach) in
        let to = groups.step m switches pins entries (lines start) ready from start k.last till members k.followed c d past j js (rests_section m switches pins entries (lines start) from start members c (d ∷ past) (j ∷ js) none s) early low_here reached reach_here k.homing k.is k.safe in
        let st = told_so m v switches pins entries none (lines start) ready from start k.last till members k.followed all_track c d past j js s early low_here reached reach_here k.homing k.is k.safe k.fresh to.0.small b on oid f.reason clock told in
        let now = step_fresh m v switches pins entries none (lines start) ready from start k.last till members k.followed all_track c d past j js s early low_here reached reach_here k.homing k.is k.safe k.fresh to.0.small in
        let x = now.each b on in
        let same : st.slot ≡ x.slot = one_slot (slot_at (rig_at m pins entries (j ∷ js) b) (trigger_of m b)) st.slot x.slot st.is x.is in
        let fired = ap (λ (z : Slot). z.trigger.can) (sym same) ∙ st.fired in
        let off : Off m (lines start) start k.last members b (length past + 1) (hears_all (noted m c.note (known_by m switches (d ∷ past))).clocks c.states (behind_turn (hears_all (noted m d.note (known_by m switches past)).clocks d.states k.homing) (length past))).group x.slot =
        elim x.so [ inl able ↦ absurd (no_both x.slot.trigger.can able.can fired) | inr o ↦ o ] in
        let tick = x.slot.trigger.tick in
        let known = freshness.followed_known m v switches pins entries none (lines start) ready from start k.last till members k.followed all_track c d past j js s early low_here reached reach_here k.homing k.is k.safe k.fresh to.0.small b on in
        let turn = length (turns_of b js) in
        let size = freshness.long m v switches pins entries none (lines start) ready from start k.last till members k.followed all_track c d past j js s early low_here reached reach_here k.homing k.is k.safe k.fresh to.0.small b on in
        let recent = off.recent in
        let since = recent.1 in
        let at = recent.2 in
        let near = recent.3 in
        let soon = off.early in
        let ticks = (k.followed b on).ticks in
        let begins = (k.followed b on).begins in
        let before : recent.0 ≤ turn = elim (leb_tells recent.0 turn) [
          | inl p ↦ p.1
          | inr p ↦ (let l = p.1 in let up = ticks_rise (Own b) ticks (length past + 1) recent.0 (omega (arith, l, size)) in absurd (omega (arith, up, at, soon)))
        ] in
        let until : tick < Own b (turn + 1) = subst (λ (n : ℕ). tick < Own b (n + 1)) size soon in
        let in_range = groups.in_range m switches pins entries (lines start) ready from start k.last till members k.followed c d past j js (rests_section m switches pins entries (lines start) from start members c (d ∷ past) (j ∷ js) none s) early low_here reached reach_here k.homing k.is b on in
        let lines_now = clocks_at (noted m c.note (known_by m switches (d ∷ past))).clocks b in
        let counted = report_counts (Own b) lines_now ready turn recent.0 tick ticks known.0 (omega (arith, since, begins)) before (omega (arith, near, size)) known.1 known.2 in_range at until in
        let told_clock : tick % 2 ^ 32 ≡ clock = ap (λ (z : Slot). z.trigger.tick % 2 ^ 32) (sym same) ∙ st.clock_is in
        let tick_so : tick ≡ f.tick = sym counted.is ∙ ap (nearest (turn_tick lines_now turn)) told_clock ∙ sym tick_is in
        inl (record { slot = x.slot; is = x.is; fired = fired; why = ap (λ (z : Slot). z.trigger.reason) (sym same) ∙ st.reason_is; at = tick_so })

  -- of a run
  report_true : (c : Came) (before : List Came) (all : List (ℕ → BoardTurn)) → IsClearRun m switches pins entries lines ready till c before all → length before + 276 ≤ till → (b : ℕ) → b < length m.boards → (h : Homing) (f : Fired)
      → (noted m c.note (known_by m switches before)).homing ≡ Some h → IsMember b (members_of h.group) → IsReport m switches b h.start f c before → WasFiredAt (trigger_of m b) f.reason f.tick (turns_of b all)
  report_true c before all r reach b low h f is on report = by before all r reach is report
    where
      by : (before : List Came) (all : List (ℕ → BoardTurn)) → IsClearRun m switches pins entries lines ready till c before all → length before + 276 ≤ till → (noted m c.note (known_by m switches before)).homing ≡ Some h
          → IsReport m switches b h.start f c before → WasFiredAt (trigger_of m b) f.reason f.tick (turns_of b all)
      by before [] r reach is report = absurd (let bad : [] ≡ report.state ∷ [] = sym (r.states b low) ∙ report.came in cc)
      by [] (j ∷ js) r reach is report = absurd (let size = r.long in omega (arith, size))
      by (d ∷ past) (j ∷ js) r reach is report =
          let y = begun.began_in m v switches pins entries none lines ready till c (d ∷ past) (j ∷ js) r h is in
          let s = begun.section_in m v switches pins entries none lines ready till c (d ∷ past) (j ∷ js) r h y in
          let same : (j b).state ≡ report.state = sole_state (j b).state report.state (sym (r.states b low) ∙ report.came) in
          let turn : report.state.turn ≡ length (turns_of b js) = ap (λ (z : State). z.turn) (sym same) ∙ (r.plain b low).run.turns_are.0.1.turn in
          let size = as_long m switches b past (turns_of b js) (r.plain b low).run.both.2 in
          let counts = report.counts in
          let told = subst (λ (z : State). HasAnswer (cmd.TrsyncState report.oid 0 f.reason report.clock) z.news) (sym same) report.told in
          let lines_now = clocks_at (noted m c.note (known_by m switches (d ∷ past))).clocks b in
          told_true y.from h.start (members_of h.group) y.soon y.within c d past j js s (begun.well_alone m switches lines ready till (d ∷ past) r.begins.1) (begun.set_up_all m v switches pins entries none lines ready till d past js (begun.run_cut m v switches pins entries none lines ready till c d past j js r)) reach
          (omega (arith, counts, turn, size)) b on f report.oid report.clock told (report.tick_is ∙ ap (λ (n : ℕ). nearest (turn_tick lines_now n) report.clock) turn)

  run_reads : (c : Came) (before : List Came) (all : List (ℕ → BoardTurn)) → IsClearRun m switches pins entries lines ready till c before all → length before + 276 ≤ till → (b : ℕ) → b < length m.boards
      → ReadsTrue m switches b c before (turns_of b all) × ReadsSwitchTrue m switches b c before (turns_of b all)
  run_reads c before all r reach b low = (
    λ h f is on report. (f.reason, report_true c before all r reach b low h f is on report),
    λ h f is reads one report. subst (λ (n : ℕ). WasFiredAt (trigger_of m b) n f.tick (turns_of b all)) one (report_true c before all r reach b low h f is (reader_member b (members_of h.group) reads) report),
  )

  -- so in all its turns
  pub runs_read : (c : Came) (before : List Came) (all : List (ℕ → BoardTurn)) → IsClearRun m switches pins entries lines ready till c before all → length before + 276 ≤ till → (b : ℕ) → b < length m.boards
      → AreSoInTurns (ReadsTrue m switches b) (c ∷ before) (turns_of b all) × AreSoInTurns (ReadsSwitchTrue m switches b) (c ∷ before) (turns_of b all)
  runs_read c before [] r reach b low = (tt, tt)
  runs_read c [] (j ∷ js) r reach b low = absurd (let size = r.long in omega (arith, size))
  runs_read c (d ∷ past) (j ∷ js) r reach b low =
      let here = run_reads c (d ∷ past) (j ∷ js) r reach b low in
      let rest = runs_read d past js (begun.run_cut m v switches pins entries none lines ready till c d past j js r) (omega (arith, reach)) b low in
      ((here.0, rest.0), (here.1, rest.1))
