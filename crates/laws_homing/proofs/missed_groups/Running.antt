-- A homing group answers that no switch closed only where the section's readings are complete at no tick before that behind its last turn.
use Rattle.std.proofs.Common.{◌≡◌, ℕ, ◌+◌, ◌-◌, ◌*◌, ◌<◌, ◌≤◌, false, List, [], ◌∷◌, length, Some, refl, ap, sym, ◌∙◌, subst, arith, inl, inr}
use Rattle.laws_board.proofs.Names.{leb_tells, Level, Machine, board_tick, clock_of, turn_ns, Clocks, lines_tick, IsValidMachine, axis_at, board_at, Entry, Switch, trigger_of, Rig, Slot, slot_at, one_slot, End, Member, GroupState, Homing, answer_in, hears_all, members_of, noted, Came, known_by, states-kept}
use Rattle.plan_types.specs.Machines.{IsValidAxis}
use Rattle.laws_board.specs.turns.Turns.{BoardTurn}
use Rattle.trigger_group.specs.declared.order.End.TheVariants as end
use Rattle.laws_homing.specs.home_runs.Told.{IsMember}
use Rattle.laws_homing.specs.clear_boards.Firing.{AllSmall}
use Rattle.laws_homing.proofs.clear_boards.Keeping.{hears_keep}
use Rattle.laws_homing.proofs.clear_boards.Standing.{sound_at}
use Rattle.laws_homing.specs.clear_groups.Quiet.{ReadsNoSwitch}
use Rattle.laws_homing.specs.clear_groups.Resting.{BeginsAlone}
use Rattle.laws_homing.specs.clear_groups.Runs.{AreSetUp, IsClearRun, IsSetUp}
use Rattle.laws_homing.specs.clear_groups.Safe.{IsGroupHeld, IsRenewed, IsSafe, IsSafeAt, IsSafeIn}
use Rattle.laws_homing.specs.clear_groups.Sections.{IsClearSection, IsFollowed, IsPlain, earlier_turns, rig_at, turns_of}
use Rattle.laws_homing.specs.clear_groups.SetUp.{HoldsOf, IsPrepared}
use Rattle.laws_homing.proofs.clear_groups.Beginning as beginning
use Rattle.laws_homing.proofs.clear_groups.Begun as begun
use Rattle.laws_homing.proofs.clear_groups.Known.{behind_turn, of_known, some_known}
use Rattle.laws_homing.proofs.clear_groups.Owning.{one_trigger}
use Rattle.laws_homing.proofs.clear_groups.Plain.{turn_before}
use Rattle.laws_homing.proofs.clear_groups.Resting.{board_runs, off_at}
use Rattle.laws_homing.proofs.clear_groups.Runs.{earlier, prepared_all, quiet_all, rises}
use Rattle.laws_homing.proofs.clear_groups.Sections.{cut, rests_section, stays_safe}
use Rattle.laws_homing.specs.missed_groups.Known.{AxesLow}
use Rattle.laws_homing.specs.missed_groups.Ticks.{IsReader, IsSwitchTick}
use Rattle.laws_homing.proofs.missed_groups.Answering.{Missed, known_read, missed, reader_fired}
use Rattle.laws_homing.proofs.missed_groups.Axes.{OfBoard, of_axis}
use Rattle.laws_homing.proofs.missed_groups.Beginning.{RestsOf}
use Rattle.laws_homing.proofs.missed_groups.Setting.{begins_known, begins_mindful}
use Rattle.laws_homing.proofs.missed_groups.Stepping.{IsMindful, Stood, step_known, step_mindful}
use Rattle.laws_homing.proofs.home_parts.Known.{answer_late}
use Rattle.plan_types.proofs.Facts.{some_same}

-- the group of the homing section that is known in a turn, and its boards; and so as the turn with this number began
abbrev MindsIn : (m : Machine) (switches : List Switch) (pins : ℕ → List (List Level)) (entries : List Entry) (lines : ℕ → Clocks) (start last : ℕ) (members : List Member) → Came → List Came → List (ℕ → BoardTurn) → Type 0
MindsIn m switches pins entries lines start last members c before all =
    (h : Homing) × ((noted m c.note (known_by m switches before)).homing ≡ Some h)
    × IsMindful m pins lines start last members h.axis (axis_at m h.axis).board (length before) (hears_all (noted m c.note (known_by m switches before)).clocks c.states h).group (rig_at m pins entries all)

abbrev MindsAt : (m : Machine) (switches : List Switch) (pins : ℕ → List (List Level)) (entries : List Entry) (lines : ℕ → Clocks) (start last : ℕ) (members : List Member) (at : ℕ) → List Came → List (ℕ → BoardTurn) → Type 0
MindsAt m switches pins entries lines start last members at [] all = Unit {0}
MindsAt m switches pins entries lines start last members at (c ∷ before) all =
    (length before ≡ at → MindsIn m switches pins entries lines start last members c before all) × MindsAt m switches pins entries lines start last members at before (earlier_turns all)

-- over the turns of a section
module _ (m : Machine) (v : IsValidMachine m) (switches : List Switch) (pins : ℕ → List (List Level)) (entries : List Entry) (none : entries ≡ []) (lines : ℕ → Clocks) (ready from start last till at : ℕ) (members : List Member)
    (followed : (b : ℕ) → IsMember b members → IsFollowed m b (lines b) ready start last till) (early : from ≤ at) (low_so : ready + 4 ≤ at) (far : start ≤ at + 249) where
  goes_minding : (c : Came) (before : List Came) (all : List (ℕ → BoardTurn)) → IsClearSection m switches pins entries lines from start members c before all → length before + 276 ≤ till → at ≤ length before
      → IsSafeAt m switches pins entries lines start last members at (c ∷ before) all → MindsAt m switches pins entries lines start last members at (c ∷ before) all → MindsIn m switches pins entries lines start last members c before all
  goes_minding c [] [] s r l safe mind = mind.0 (omega (arith, l))
  goes_minding c [] (j ∷ js) s r l safe mind = absurd (let size = s.long in omega (arith, size))
  goes_minding c (d ∷ past) [] s r l safe mind = absurd (let size = s.long in omega (arith, size))
  goes_minding c (d ∷ past) (j ∷ js) s r l safe mind = elim (leb_tells at (length past)) [
    | inl p ↦
        let reached = p.1 in
        let old = cut m switches pins entries none lines ready from start last till at members followed early low_so far c d past j js s in
        let reach : length past + 276 ≤ till = omega (arith, r) in
        let was = goes_minding d past js old reach reached safe.1 mind.1 in
        let h = was.0 in
        let x = (stays_safe m switches pins entries none lines ready from start last till at members followed early low_so far d past js old reach reached safe.1).0 in
        let next = (stays_safe m switches pins entries none lines ready from start last till at members followed early low_so far c (d ∷ past) (j ∷ js) s r l safe).0 in
        let clocks = (noted m d.note (known_by m switches past)).clocks in
        let same : x.0 ≡ h = some_same x.0 h (sym x.1 ∙ was.1) in
        let Safe : Homing → Type 0 = λ z. IsSafe m lines start last members (length past) (hears_all clocks d.states z).group (rig_at m pins entries js) in
        let safe_now : Safe h = subst Safe same x.2 in
        let early_so : from ≤ length past = omega (arith, early, reached) in
        let low_here : ready + 4 ≤ length past = omega (arith, low_so, reached) in
        let far_here : start ≤ length past + 249 = omega (arith, far, reached) in
        let small : (b : ℕ) → IsMember b members → AllSmall (rig_at m pins entries (j ∷ js) b) = next.2.small in
        let own = (axis_at m h.axis).board in
        let known = step_known m v switches pins entries none lines ready from start last till members followed h.axis own c d past j js s early_so low_here far_here reach h was.1 safe_now was.2 small in
        let step = step_mindful m v switches pins entries none lines ready from start last till members followed h.axis own c d past j js s early_so low_here far_here reach h was.1 safe_now was.2 small in
        let e : length past + 1 ≡ length (d ∷ past) = omega arith in
        let Next : Homing = behind_turn (hears_all clocks d.states h) (length past) in
        let At : ℕ → Type 0 = λ n. IsMindful m pins lines start last members h.axis own n (hears_all (noted m c.note (known_by m switches (d ∷ past))).clocks c.states Next).group (rig_at m pins entries (j ∷ js)) in
        (Next, known, subst At e step)
    | inr p ↦ (let below = p.1 in mind.0 (omega (arith, l, below)))
  ]

  -- a timeout that passed was the one behind the section's last turn
  expires_late : (b : ℕ) (on : IsMember b members) (turn : ℕ) (g : GroupState) (rigs : ℕ → Rig) (u : Slot) → slot_at (rigs b) (trigger_of m b) ≡ Some u → u.trigger.can ≡ false → u.trigger.reason ≡ 2 → IsSafe m lines start last members turn g rigs
      → u.trigger.tick ≡ lines_tick (lines b) ((last + 1) * turn_ns)
  expires_late b on turn g rigs u there off two safe = by safe.held
    where
      never : (timeout : ℕ) → IsRenewed (trigger_of m b) (lines b) timeout (rigs b) → ⊥
      never timeout renewed =
          let zero_is = ((renewed 0).held (trigger_of m b) u there).expiry off two in
          let one_is = ((renewed 1).held (trigger_of m b) u there).expiry off two in
          omega (arith, zero_is, one_is)

      by : IsGroupHeld m lines start last members turn g rigs → u.trigger.tick ≡ lines_tick (lines b) ((last + 1) * turn_ns)
      by (inl k) = elim (k.1 b on) [ inl renewed ↦ absurd (never (last + 1) renewed) | inr limited ↦ (limited.0.held (trigger_of m b) u there).expiry off two ]
      by (inr (inl k)) = absurd (never g.sent (k b on).0)
      by (inr (inr k)) = absurd (never g.sent (k.2 b on).0)

  reader_member : (b : ℕ) (ms : List Member) → IsReader b ms → IsMember b ms
  reader_member b [] k = absurd k
  reader_member b (x ∷ ms) (inl k) = inl k.0
  reader_member b (x ∷ ms) (inr k) = inr (reader_member b ms k)

  -- what its group answers
  pub answers_late : (c : Came) (before : List Came) (all : List (ℕ → BoardTurn)) → IsClearSection m switches pins entries lines from start members c before all → length before + 276 ≤ till → at ≤ length before
      → IsSafeAt m switches pins entries lines start last members at (c ∷ before) all → MindsAt m switches pins entries lines start last members at (c ∷ before) all → (h : Homing) → (noted m c.note (known_by m switches before)).homing ≡ Some h
      → IsReader (axis_at m h.axis).board members → answer_in (length before) h.start (hears_all (noted m c.note (known_by m switches before)).clocks c.states h).group ≡ Some end.NoSwitch
      → (tick : ℕ) → IsSwitchTick m (pins (axis_at m h.axis).board) (axis_at m h.axis).board (axis_at m h.axis) (lines_tick (lines (axis_at m h.axis).board) (start * turn_ns)) tick
      → lines_tick (lines (axis_at m h.axis).board) ((last + 1) * turn_ns) ≤ tick
  answers_late c before all s r l safe_at mind_at h is reads answers tick hit =
      let clocks = (noted m c.note (known_by m switches before)).clocks in
      let g = (hears_all clocks c.states h).group in
      let rigs = rig_at m pins entries all in
      let b = (axis_at m h.axis).board in
      let oid = trigger_of m b in
      let x = (stays_safe m switches pins entries none lines ready from start last till at members followed early low_so far c before all s r l safe_at).0 in
      let y = goes_minding c before all s r l safe_at mind_at in
      let same_x : x.0 ≡ h = some_same x.0 h (sym x.1 ∙ is) in
      let same_y : y.0 ≡ h = some_same y.0 h (sym y.1 ∙ is) in
      let Safe : Homing → Type 0 = λ z. IsSafe m lines start last members (length before) (hears_all clocks c.states z).group rigs in
      let Mind : Homing → Type 0 = λ z. IsMindful m pins lines start last members z.axis (axis_at m z.axis).board (length before) (hears_all clocks c.states z).group rigs in
      let safe : Safe h = subst Safe same_x x.2 in
      let mind : Mind h = subst Mind same_y y.2 in
      let of = of_known start members (noted m c.note (known_by m switches before)).homing h (s.homes.0 (omega (arith, early, l))).1 is in
      let members_are : members_of g ≡ members = states-kept clocks 0 h.start c.states h.group ∙ of.2 in
      let ends = safe.ends in
      let miss = subst (λ (n : ℕ). Missed n g.members) ends (missed (length before) h.start g answers) in
      let W = Stood m pins lines start last members h.axis b rigs in
      let on : IsMember b members = reader_member b members reads in
      let fired = reader_fired last b g.members miss (subst (IsReader b) (sym members_are) reads) W b mind.told in
      let stood = fired.2 on in
      let mine = mind.minded b on in
      let slots : mine.slot ≡ stood.slot = one_slot (slot_at (rigs b) oid) mine.slot stood.slot mine.is stood.is in
      let off : mine.slot.trigger.can ≡ false = ap (λ (z : Slot). z.trigger.can) slots ∙ stood.fired in
      let reason : mine.slot.trigger.reason ≡ fired.0.reason = ap (λ (z : Slot). z.trigger.reason) slots ∙ stood.reason_is in
      elim (mine.minds.fired off) [
        | inl one ↦ absurd (fired.1 (sym reason ∙ one.0))
        | inr other ↦ elim other.0 [
          | inl two ↦ (let late = other.1 tick (reads, hit) in let at_end = expires_late b on (length before) g rigs mine.slot mine.is off two safe in omega (arith, late, at_end))
          | inr three ↦
              let read = known_read last g.members miss three.1 W b mind.told in
              let their_on = subst (IsMember read.0) members_are read.2 in
              let theirs = read.4 their_on in
              let their = mind.minded read.0 their_on in
              let their_slots : their.slot ≡ theirs.slot = one_slot (slot_at (rigs read.0) (trigger_of m read.0)) their.slot theirs.slot their.is theirs.is in
              let their_off : their.slot.trigger.can ≡ false = ap (λ (z : Slot). z.trigger.can) their_slots ∙ theirs.fired in
              let their_reason : their.slot.trigger.reason ≡ 1 = ap (λ (z : Slot). z.trigger.reason) their_slots ∙ theirs.reason_is ∙ read.3 in
              absurd (elim (their.minds.fired their_off) [
                | inl one ↦
                    let again = reader_fired last read.0 g.members miss (subst (IsReader read.0) (sym members_are) one.1.0) W b mind.told in
                    let their_stood = again.2 their_on in
                    let same_slot : their.slot ≡ their_stood.slot = one_slot (slot_at (rigs read.0) (trigger_of m read.0)) their.slot their_stood.slot their.is their_stood.is in
                    again.1 (sym (ap (λ (z : Slot). z.trigger.reason) same_slot ∙ their_stood.reason_is) ∙ their_reason)
                | inr more ↦ elim more.0 [ inl two ↦ omega (arith, two, their_reason) | inr three_so ↦ (let t = three_so.0 in omega (arith, t, their_reason)) ]
              ])
        ]
      ]

-- over the turns of a run
module _ (m : Machine) (v : IsValidMachine m) (switches : List Switch) (pins : ℕ → List (List Level)) (entries : List Entry) (none : entries ≡ []) (lines : ℕ → ℕ → Clocks) (ready till : ℕ) where
  -- the boards whose set-up it is rest before it
  rests_all : (start : ℕ) (c d e : Came) (past : List Came) (i j : ℕ → BoardTurn) (js : List (ℕ → BoardTurn)) (x : IsSetUp m switches pins entries (lines start) ready till start c d e past i j js) → start ≡ length past + 251 → (b : ℕ)
      → ((k : ℕ) → board_tick (clock_of (board_at m b)) k ≤ board_tick (clock_of (board_at m b)) (k + 1)) → IsPlain m switches (pins b) entries b past (turns_of b js) → BeginsAlone m switches (e ∷ past)
      → ReadsNoSwitch (rig_at m pins entries js b) → RestsOf (trigger_of m b) (rig_at m pins entries js b)
  rests_all start c d e past i j js x at b rise known alone quiet =
      let since = x.section.homes.1.1.0 x.early in
      let h = x.new.0 in
      let begins = (of_known start x.members (noted m e.note (known_by m switches past)).homing h since.1 x.new.1).0 in
      let off = off_at m v switches (pins b) entries none b rise e past (turns_of b js) known alone h x.new.1 (omega (arith, begins, at)) in
      let own = one_trigger m switches (pins b) entries b past (turns_of b js) v none known.run known.limits since.0 (board_runs m v switches (pins b) entries none b past (turns_of b js) known) in
      let can = off (trigger_of m b) own.1.slot own.1.is in
      let so = sound_at (board_at m b) (pins b) b entries (turns_of b js) known.run.turns_are (trigger_of m b) own.1.slot own.1.is in
      record { slot = own.1.slot; is = own.1.is; off = record { can = can; told = so.told; idle = so.idle can; none = quiet (trigger_of m b) own.1.slot own.1.is can } }

  module _ (from start : ℕ) (members : List Member) (begun_so : from + 251 ≤ start) where
    minds_none : (at last : ℕ) (came : List Came) (all : List (ℕ → BoardTurn)) → length came ≤ at → MindsAt m switches pins entries (lines start) start last members at came all
    minds_none at last [] all l = tt
    minds_none at last (c ∷ before) all l = ((λ e. absurd (omega (arith, e, l))), minds_none at last before (earlier_turns all) (omega (arith, l)))

    safe_none : (at last : ℕ) (came : List Came) (all : List (ℕ → BoardTurn)) → length came ≤ at → IsSafeAt m switches pins entries (lines start) start last members at came all
    safe_none at last [] all l = tt
    safe_none at last (c ∷ before) all l = ((λ e. absurd (omega (arith, e, l))), safe_none at last before (earlier_turns all) (omega (arith, l)))

    record Found (came : List Came) (all : List (ℕ → BoardTurn)) : Type 0 where
      last : ℕ
      followed : (b : ℕ) → IsMember b members → IsFollowed m b (lines start b) ready start last till
      low_so : ready + 255 ≤ start
      safe : IsSafeAt m switches pins entries (lines start) start last members (start - 249) came all
      minds : MindsAt m switches pins entries (lines start) start last members (start - 249) came all

    here : (c d e : Came) (past : List Came) (i j : ℕ → BoardTurn) (js : List (ℕ → BoardTurn)) → IsClearSection m switches pins entries (lines start) from start members c (d ∷ e ∷ past) (i ∷ j ∷ js) → BeginsAlone m switches (d ∷ e ∷ past) → AreSetUp m switches pins entries lines ready till (c ∷ d ∷ e ∷ past) (i ∷ j ∷ js)
        → AxesLow m switches (c ∷ d ∷ e ∷ past) → length (d ∷ e ∷ past) + 276 ≤ till → length (d ∷ e ∷ past) + 249 ≡ start → Found (c ∷ d ∷ e ∷ past) (i ∷ j ∷ js)
    here c d e past i j js s alone set_up low reach at =
        let known = some_known start members (noted m d.note (known_by m switches (e ∷ past))).homing (s.homes.1.0 (omega (arith, at, begun_so))).1 in
        let h = known.0 in
        let of = of_known start members (noted m d.note (known_by m switches (e ∷ past))).homing h (s.homes.1.0 (omega (arith, at, begun_so))).1 known.1 in
        let begins = of.1 in
        let x : IsSetUp m switches pins entries (lines start) ready till start c d e past i j js = subst (λ (n : ℕ). IsSetUp m switches pins entries (lines n) ready till n c d e past i j js) begins (set_up.0 h known.1 (omega (arith, begins, at))) in
        let soon = x.early in
        let low_so = x.begins in
        let known_members : members_of h.group ≡ x.members = (of_known start x.members (noted m d.note (known_by m switches (e ∷ past))).homing h (x.section.homes.1.0 (omega (arith, soon))).1 known.1).2 in
        let same : x.members ≡ members = sym known_members ∙ of.2 in
        let size = x.section.long in
        let rise : (b : ℕ) → IsMember b x.members → (k : ℕ) → board_tick (clock_of (board_at m b)) k ≤ board_tick (clock_of (board_at m b)) (k + 1) =
        (λ b on. rises m switches pins entries none lines ready till v from start members begun_so b (x.section.plain b on).run.board) in
        let mid : (b : ℕ) → IsMember b x.members → IsPlain m switches (pins b) entries b (e ∷ past) (turns_of b (j ∷ js)) = (λ b on. turn_before m switches (pins b) entries b d (e ∷ past) (i b) (turns_of b (j ∷ js)) (rise b on) (x.section.plain b on)) in
        let first : (b : ℕ) → IsMember b x.members → IsPlain m switches (pins b) entries b past (turns_of b js) = (λ b on. turn_before m switches (pins b) entries b e past (j b) (turns_of b js) (rise b on) (mid b on)) in
        let quiet : (b : ℕ) → IsMember b x.members → ReadsNoSwitch (rig_at m pins entries js b) = (λ b on. (quiet_all m switches pins entries none lines ready till v b (rise b on) d (e ∷ past) (j ∷ js) (omega (arith, size)) (mid b on) alone.1 set_up.1 (omega (arith, reach))).1) in
        let prepared : (b : ℕ) → IsMember b x.members → HoldsOf (trigger_of m b) (λ ps y. IsPrepared (lines_tick (lines start b) (start * turn_ns)) ps y) (rig_at m pins entries js b) =
        (λ b on. prepared_all m switches pins entries none lines ready till v start c d e past i j js x (omega (arith, at)) b (rise b on) (first b on) alone.1 (quiet b on)) in
        let rests : (b : ℕ) → IsMember b x.members → RestsOf (trigger_of m b) (rig_at m pins entries js b) = (λ b on. rests_all start c d e past i j js x (omega (arith, at)) b (rise b on) (first b on) alone.1 (quiet b on)) in
        let goes = x.section.goes_on in
        let noticed = of_axis m switches e past goes.1.1 x.new.0 x.new.1 in
        let noticed_members : members_of x.new.0.group ≡ x.members = (of_known start x.members (noted m e.note (known_by m switches past)).homing x.new.0 (x.section.homes.1.1.0 x.early).1 x.new.1).2 in
        let low_axis = low.1.1.0 x.new.0 x.new.1 in
        let of_board : OfBoard (axis_at m x.new.0.axis).board (length m.boards) x.members = subst (OfBoard (axis_at m x.new.0.axis).board (length m.boards)) noticed_members noticed in
        let set : length past + 251 ≡ start = omega (arith, at) in
        let first_reach : length past + 276 ≤ till = omega (arith, reach) in
        let safe_in = beginning.begins_safe m switches pins entries (lines start) ready x.from start x.last till x.members x.followed c d e past i j js (rests_section m switches pins entries (lines start) x.from start x.members c (d ∷ e ∷ past) (i ∷ j ∷ js) none x.section) x.early x.begins set x.goes first_reach x.first x.second x.new.0 x.new.1 x.new.2 prepared in
        let is_known = begins_known m v switches pins entries none (lines start) ready x.from start x.last till x.members x.followed c d e past i j js x.section x.early x.begins set x.goes first_reach x.first x.second x.new.0 x.new.1 x.new.2 low_axis of_board in
        let mindful = begins_mindful m v switches pins entries none (lines start) ready x.from start x.last till x.members x.followed c d e past i j js x.section x.early x.begins set x.goes first_reach x.first x.second x.new.0 x.new.1 x.new.2 low_axis of_board prepared rests in
        let Second : Homing = beginning.Second m switches pins entries (lines start) ready x.from start x.last till x.members x.followed c d e past i j js (rests_section m switches pins entries (lines start) x.from start x.members c (d ∷ e ∷ past) (i ∷ j ∷ js) none x.section) x.early x.begins set x.goes first_reach x.first x.second x.new.0 x.new.1 x.new.2 in
        let minds_in : MindsIn m switches pins entries (lines start) start x.last x.members c (d ∷ e ∷ past) (i ∷ j ∷ js) = (Second, is_known, mindful) in
        let All : List Member → Type 0 = λ ms. ((b : ℕ) → IsMember b ms → IsFollowed m b (lines start b) ready start x.last till) × IsSafeIn m switches pins entries (lines start) start x.last ms c (d ∷ e ∷ past) (i ∷ j ∷ js)
        × MindsIn m switches pins entries (lines start) start x.last ms c (d ∷ e ∷ past) (i ∷ j ∷ js) in
        let all : All members = subst All same (x.followed, safe_in, minds_in) in
        record {
          last = x.last;
          followed = all.0;
          low_so = omega (arith, low_so, at);
          safe = ((λ z. all.1), safe_none (start - 249) x.last (d ∷ e ∷ past) (j ∷ js) (omega (arith, at)));
          minds = ((λ z. all.2), minds_none (start - 249) x.last (d ∷ e ∷ past) (j ∷ js) (omega (arith, at)));
        }

    find : (c : Came) (before : List Came) (all : List (ℕ → BoardTurn)) → IsClearSection m switches pins entries (lines start) from start members c before all → BeginsAlone m switches before → AreSetUp m switches pins entries lines ready till (c ∷ before) all → AxesLow m switches (c ∷ before)
        → length before + 276 ≤ till → start ≤ length before + 249 → Found (c ∷ before) all
    find c [] all s alone set_up low reach l = absurd (omega (arith, l, begun_so))
    find c (d ∷ []) all s alone set_up low reach l = absurd (omega (arith, l, begun_so))
    find c (d ∷ e ∷ past) [] s alone set_up low reach l = absurd (let size = s.long in omega (arith, size))
    find c (d ∷ e ∷ past) (i ∷ []) s alone set_up low reach l = absurd (let size = s.long in omega (arith, size))
    find c (d ∷ e ∷ past) (i ∷ j ∷ js) s alone set_up low reach l = elim (leb_tells start (length (e ∷ past) + 249)) [
      | inl p ↦
          let reached = p.1 in
          let x = find d (e ∷ past) (j ∷ js) (earlier m switches pins entries none lines ready till v from start members begun_so c d (e ∷ past) i (j ∷ js) s) alone.1 set_up.1 low.1 (omega (arith, reach)) reached in
          record { last = x.last; followed = x.followed; low_so = x.low_so; safe = ((λ z. absurd (omega (arith, z, reached))), x.safe); minds = ((λ z. absurd (omega (arith, z, reached))), x.minds) }
      | inr p ↦ let below = p.1 in here c d e past i j js s alone set_up low reach (omega (arith, l, below))
    ]

  -- a group answers that no switch closed only where its readings are complete at no tick before that behind its last turn
  pub run_misses : (c : Came) (before : List Came) (all : List (ℕ → BoardTurn)) → IsClearRun m switches pins entries lines ready till c before all → length before + 276 ≤ till → AxesLow m switches (c ∷ before) → (h : Homing) → (noted m c.note (known_by m switches before)).homing ≡ Some h
      → answer_in (length before) h.start (hears_all (noted m c.note (known_by m switches before)).clocks c.states h).group ≡ Some end.NoSwitch
      → (tick : ℕ) → IsSwitchTick m (pins (axis_at m h.axis).board) (axis_at m h.axis).board (axis_at m h.axis) (lines_tick (lines h.start (axis_at m h.axis).board) (h.start * turn_ns)) tick
      → lines_tick (lines h.start (axis_at m h.axis).board) ((h.group.last + 1) * turn_ns) ≤ tick
  run_misses c before all r reach low h is answers tick hit =
      let y = begun.began_in m v switches pins entries none lines ready till c before all r h is in
      let s = begun.section_in m v switches pins entries none lines ready till c before all r h y in
      let soon = y.soon in
      let from = y.from in
      let start = h.start in
      let members = members_of h.group in
      let b = (axis_at m h.axis).board in
      let late = answer_late (length before) h.start (hears_all (noted m c.note (known_by m switches before)).clocks c.states h).group end.NoSwitch answers in
      let x = find from start members soon c before all s (begun.well_alone m switches lines ready till before r.begins.1) (begun.set_up_all m v switches pins entries none lines ready till c before all r) low reach (omega (arith, late)) in
      let low_so = x.low_so in
      let of = of_axis m switches c before r.goes_on h is in
      let valid : IsValidAxis m (axis_at m h.axis) = v.axes h.axis _ (low.0 h is) in
      let reads : IsReader b members = of.1 valid.board in
      let late_so = answers_late m v switches pins entries none (lines start) ready from start x.last till (start - 249) members x.followed (omega (arith, soon)) (omega (arith, low_so)) (omega arith) c before all s reach (omega (arith, late, soon)) x.safe x.minds h is reads answers tick hit in
      let safe = (stays_safe m switches pins entries none (lines start) ready from start x.last till (start - 249) members x.followed (omega (arith, soon)) (omega (arith, low_so)) (omega arith) c before all s reach (omega (arith, late, soon)) x.safe).0 in
      let clocks = (noted m c.note (known_by m switches before)).clocks in
      let same : safe.0 ≡ h = some_same safe.0 h (sym safe.1 ∙ is) in
      let ends : h.group.last ≡ x.last = sym (hears_keep clocks c.states h).last ∙ ap (λ (z : Homing). (hears_all clocks c.states z).group.last) (sym same) ∙ safe.2.ends in
      subst (λ (n : ℕ). lines_tick (lines start b) ((n + 1) * turn_ns) ≤ tick) (sym ends) late_so

  -- and where they are complete before it, it answers that the switch closed
  pub run_closes : (c : Came) (before : List Came) (all : List (ℕ → BoardTurn)) → IsClearRun m switches pins entries lines ready till c before all → length before + 276 ≤ till → AxesLow m switches (c ∷ before) → (h : Homing) → (noted m c.note (known_by m switches before)).homing ≡ Some h
      → (tick : ℕ) → IsSwitchTick m (pins (axis_at m h.axis).board) (axis_at m h.axis).board (axis_at m h.axis) (lines_tick (lines h.start (axis_at m h.axis).board) (h.start * turn_ns)) tick
      → tick < lines_tick (lines h.start (axis_at m h.axis).board) ((h.group.last + 1) * turn_ns) → (x : End)
      → answer_in (length before) h.start (hears_all (noted m c.note (known_by m switches before)).clocks c.states h).group ≡ Some x → (at : ℕ) × (x ≡ end.Endstop at)
  run_closes c before all r reach low h is tick hit early (end.Endstop at) answers = (at, refl)
  run_closes c before all r reach low h is tick hit early end.NoSwitch answers = absurd (let late = run_misses c before all r reach low h is answers tick hit in omega (arith, late, early))
  run_closes c before all r reach low h is tick hit early (end.Expired b turn) answers = absurd (begun.run_answers m v switches pins entries none lines ready till c before all r reach h is b turn answers)
