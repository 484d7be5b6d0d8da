-- The boards of a run in which axes home stay quiet, so that each homing section is set up, safe, and answers of no expiry.
use Rattle.std.proofs.Common.{◌≡◌, ℕ, ◌+◌, ◌-◌, ◌*◌, ◌<◌, ◌≤◌, inl, inr, Bool, false, List, [], ◌∷◌, ◌++◌, length, map, Option, Some, None, sym, ◌∙◌, subst, arith}
use Rattle.laws_board.proofs.Names.{leb_tells, Level, Machine, board_tick, clock_of, turn_ns, Clocks, lines_tick, IsValidMachine, board_at, Entry, Switch, Cmd, Unit as StepUnit, trigger_of, Meant, commands_of, Rig, slot_at, AllSound, plain, unit_orders, units_orders, dir_commands, reset_commands, queued_in, orders, Member, Homing, answer_in, hears_all, members_of, noted, Came, known_by}
use Rattle.laws_board.specs.turns.Turns.{BoardTurn}
use Rattle.laws_board.proofs.sections.Linking.{valid_ticks}
use Rattle.laws_homing.specs.home_runs.Told.{IsMember}
use Rattle.laws_homing.proofs.home_runs.Staging.{commands_both}
use Rattle.trigger_group.specs.declared.order.End.TheVariants as end
use Rattle.laws_homing.proofs.clear_boards.Standing.{sound_at}
use Rattle.laws_homing.proofs.clear_boards.Taking.{takes_in_turn}
use Rattle.laws_homing.specs.clear_groups.Quiet.{EachBlind, ReadsNoSwitch}
use Rattle.laws_homing.specs.clear_groups.Runs.{AreSetUp, IsSetUp}
use Rattle.laws_homing.specs.clear_groups.Safe.{IsSafeAt, IsSafeIn}
use Rattle.laws_homing.specs.clear_groups.Sections.{IsClearSection, IsFollowed, IsPlain, report_ticks, earlier_turns, rig_at, turns_of}
use Rattle.laws_homing.specs.clear_groups.SetUp.{HoldsOf, IsPrepared}
use Rattle.laws_homing.proofs.clear_groups.Beginning.{armed_second, begins_safe}
use Rattle.laws_homing.proofs.clear_groups.Sections.{rests_section}
use Rattle.laws_homing.proofs.clear_groups.Ended.{never_any}
use Rattle.laws_homing.proofs.clear_groups.Known.{of_known, some_known}
use Rattle.laws_homing.proofs.clear_groups.Owning.{one_trigger}
use Rattle.laws_homing.proofs.clear_groups.Plain.{none_at, none_some, turn_before}
use Rattle.laws_homing.proofs.clear_groups.Quiet.{armed_quiet, turn_quiet}
use Rattle.laws_homing.proofs.clear_groups.Reading.{reads_either}
use Rattle.laws_homing.proofs.clear_groups.Resting.{board_runs, off_at}
use Rattle.laws_homing.specs.clear_groups.Resting.{BeginsAlone}
use Rattle.laws_homing.proofs.clear_boards.Ordered.{plain_are}
use Rattle.laws_homing.proofs.home_parts.Known.{answer_late}

-- what a board takes in a turn beside its controls lets no trigger read its switch
blind_both : (xs ys : List Cmd) → EachBlind xs → EachBlind ys → EachBlind (xs ++ ys)
blind_both [] ys k l = l
blind_both (x ∷ xs) ys k l = (k.0, blind_both xs ys k.1 l)

meant_both : (xs ys : List Meant) → EachBlind (commands_of xs) → EachBlind (commands_of ys) → EachBlind (commands_of (xs ++ ys))
meant_both xs ys k l = subst EachBlind (sym (commands_both xs ys)) (blind_both (commands_of xs) (commands_of ys) k l)

reset_blind : (stepper : ℕ) (o : Option ℕ) → EachBlind (commands_of (map plain (reset_commands stepper o)))
reset_blind stepper None = tt
reset_blind stepper (Some n) = (tt, tt)

dir_blind : (stepper : ℕ) (o : Option Bool) → EachBlind (commands_of (map plain (dir_commands stepper o)))
dir_blind stepper None = tt
dir_blind stepper (Some up) = (tt, tt)

unit_blind : (u : StepUnit) → EachBlind (commands_of (unit_orders u))
unit_blind u = meant_both (map plain (reset_commands u.stepper u.reset)) _ (reset_blind u.stepper u.reset) (meant_both (map plain (dir_commands u.stepper u.up)) _ (dir_blind u.stepper u.up) (tt, tt))

units_blind : (us : List StepUnit) → EachBlind (commands_of (units_orders us))
units_blind [] = tt
units_blind (u ∷ us) = meant_both (unit_orders u) (units_orders us) (unit_blind u) (units_blind us)

taken_blind : (t : BoardTurn) → EachBlind t.control.commands → EachBlind (commands_of (queued_in (orders t.control t.batch)))
taken_blind t k = meant_both (map plain t.control.commands) (units_orders t.batch.units) (subst EachBlind (sym (plain_are t.control.commands)) k) (units_blind t.batch.units)

-- a quiet board whose one trigger can't trigger is prepared for any start
pub prepared_by : (oid base : ℕ) (r : Rig) → HoldsOf oid (λ ps s. s.trigger.can ≡ false) r → ReadsNoSwitch r → AllSound r → HoldsOf oid (λ ps s. IsPrepared base ps s) r
prepared_by oid base r h quiet sound =
    let so = sound oid h.slot h.is in
    let none = quiet oid h.slot h.is h.so in
    record {
      sole = h.sole;
      slot = h.slot;
      is = h.is;
      so = record { told = so.told; moves = so.moves; sampled = λ y is. absurd (let bad : None ≡ Some y = sym none ∙ is in cc) };
    }

module _ (m : Machine) (switches : List Switch) (pins : ℕ → List (List Level)) (entries : List Entry) (none : entries ≡ []) (lines : ℕ → ℕ → Clocks) (ready till : ℕ) (v : IsValidMachine m) where
  -- the boards whose set-up it is
  pub prepared_all : (start : ℕ) (c d e : Came) (past : List Came) (i j : ℕ → BoardTurn) (js : List (ℕ → BoardTurn)) (x : IsSetUp m switches pins entries (lines start) ready till start c d e past i j js) → start ≡ length past + 251 → (b : ℕ)
      → ((k : ℕ) → board_tick (clock_of (board_at m b)) k ≤ board_tick (clock_of (board_at m b)) (k + 1)) → IsPlain m switches (pins b) entries b past (turns_of b js) → BeginsAlone m switches (e ∷ past)
      → ReadsNoSwitch (rig_at m pins entries js b) → HoldsOf (trigger_of m b) (λ ps s. IsPrepared (lines_tick (lines start b) (start * turn_ns)) ps s) (rig_at m pins entries js b)
  prepared_all start c d e past i j js x at b rise known alone quiet =
      let since = x.section.homes.1.1.0 x.early in
      let h = x.new.0 in
      let begins = (of_known start x.members (noted m e.note (known_by m switches past)).homing h since.1 x.new.1).0 in
      let off = off_at m v switches (pins b) entries none b rise e past (turns_of b js) known alone h x.new.1 (omega (arith, begins, at)) in
      let own = one_trigger m switches (pins b) entries b past (turns_of b js) v none known.run known.limits since.0 (board_runs m v switches (pins b) entries none b past (turns_of b js) known) in
      let holds : HoldsOf (trigger_of m b) (λ ps s. s.trigger.can ≡ false) (rig_at m pins entries js b) = record { sole = own.0; slot = own.1.slot; is = own.1.is; so = off (trigger_of m b) own.1.slot own.1.is } in
      prepared_by (trigger_of m b) (lines_tick (lines start b) (start * turn_ns)) (rig_at m pins entries js b) holds quiet (sound_at (board_at m b) (pins b) b entries (turns_of b js) known.run.turns_are)

  module _ (b : ℕ) (rise : (k : ℕ) → board_tick (clock_of (board_at m b)) k ≤ board_tick (clock_of (board_at m b)) (k + 1)) where
    empty_quiet : ReadsNoSwitch (rig_at m pins entries [] b)
    empty_quiet oid s at off = absurd (none_some (slot_at (rig_at m pins entries [] b) oid) s (none_at 256 oid) at)

    -- as a turn begins, and as the one before it did
    pub quiet_all : (c : Came) (before : List Came) (all : List (ℕ → BoardTurn)) → length all ≡ length before → IsPlain m switches (pins b) entries b before (turns_of b all) → BeginsAlone m switches before → AreSetUp m switches pins entries lines ready till (c ∷ before) all → length before + 276 ≤ till
        → ReadsNoSwitch (rig_at m pins entries all b) × ReadsNoSwitch (rig_at m pins entries (earlier_turns all) b)
    quiet_all c before [] size known alone set_up reach = (empty_quiet, empty_quiet)
    quiet_all c [] (i ∷ js) size known alone set_up reach = absurd (omega (arith, size))
    quiet_all c (d ∷ []) (i ∷ j ∷ js) size known alone set_up reach = absurd (omega (arith, size))
    quiet_all c (d ∷ e ∷ past) (i ∷ []) size known alone set_up reach = absurd (omega (arith, size))
    quiet_all c (d ∷ []) (i ∷ []) size known alone set_up reach = (
      elim (reads_either m switches (pins b) entries b d [] (i b) [] known.run) [
        | inl blind ↦
            subst ReadsNoSwitch (sym (takes_in_turn (board_at m b) (pins b) b entries (i b) [] none known.run.turns_are known.limits))
            (turn_quiet (board_tick (clock_of (board_at m b)) (length (turns_of b []) + 1)) (rig_at m pins entries [] b) (commands_of (queued_in (orders (i b).control (i b).batch))) (taken_blind (i b) blind) empty_quiet)
        | inr x ↦ absurd (set_up x.homing x.known x.at)
      ],
      empty_quiet,
    )
    quiet_all c (d ∷ e ∷ past) (i ∷ j ∷ js) size known alone set_up reach =
        let first = turn_before m switches (pins b) entries b d (e ∷ past) (i b) (turns_of b (j ∷ js)) rise known in
        let was = quiet_all d (e ∷ past) (j ∷ js) (omega (arith, size)) first alone.1 set_up.1 (omega (arith, reach)) in (
          elim (reads_either m switches (pins b) entries b d (e ∷ past) (i b) (turns_of b (j ∷ js)) known.run) [
            | inl blind ↦
                subst ReadsNoSwitch (sym (takes_in_turn (board_at m b) (pins b) b entries (i b) (turns_of b (j ∷ js)) none known.run.turns_are known.limits))
                (turn_quiet (board_tick (clock_of (board_at m b)) (length (turns_of b (j ∷ js)) + 1)) (rig_at m pins entries (j ∷ js) b) (commands_of (queued_in (orders (i b).control (i b).batch))) (taken_blind (i b) blind) was.0)
            | inr x ↦
                let start = x.homing.group.start in
                let y = set_up.0 x.homing x.known x.at in
                let soon = y.early in
                let of = of_known start y.members (noted m d.note (known_by m switches (e ∷ past))).homing x.homing (y.section.homes.1.0 (omega (arith, soon))).1 x.known in
                let on = subst (IsMember b) of.2 x.member in
                let second = turn_before m switches (pins b) entries b e past (j b) (turns_of b js) rise first in
                let at = x.at in
                let rest = prepared_all start c d e past i j js y (omega (arith, at)) b rise second alone.1 was.1 in
                let armed =
                armed_second m switches pins entries (lines start) ready y.from start y.last till y.members y.followed c d e past i j js (rests_section m switches pins entries (lines start) y.from start y.members c (d ∷ e ∷ past) (i ∷ j ∷ js) none y.section) y.early y.begins (omega (arith, at)) y.goes (omega (arith, reach)) y.first y.second y.new.0 y.new.1 y.new.2 b on rest in
                armed_quiet (trigger_of m b) (lines_tick (lines start b) (start * turn_ns)) (report_ticks m b) _ (rig_at m pins entries (i ∷ j ∷ js) b) armed
          ],
          was.0,
        )

  -- the section in which the run is
  module _ (from start : ℕ) (members : List Member) (begun : from + 251 ≤ start) where
    pub rises : (b : ℕ) → b < length m.boards → (k : ℕ) → board_tick (clock_of (board_at m b)) k ≤ board_tick (clock_of (board_at m b)) (k + 1)
    rises b l = (valid_ticks (board_at m b) (v.boards b _ l)).up

    pub earlier : (c d : Came) (past : List Came) (i : ℕ → BoardTurn) (js : List (ℕ → BoardTurn)) → IsClearSection m switches pins entries (lines start) from start members c (d ∷ past) (i ∷ js) → IsClearSection m switches pins entries (lines start) from start members d past js
    earlier c d past i js s =
        let size = s.long in
        record {
          goes_on = s.goes_on.1;
          long = omega (arith, size);
          homes = s.homes.1;
          begins = s.begins.1;
          knows = s.knows.1;
          plain = λ b on. turn_before m switches (pins b) entries b d past (i b) (turns_of b js) (rises b (s.plain b on).run.board) (s.plain b on);
          states = λ b on. (s.plain b on).run.both.0;
        }

    safe_none : (at last : ℕ) (came : List Came) (all : List (ℕ → BoardTurn)) → length came ≤ at → IsSafeAt m switches pins entries (lines start) start last members at came all
    safe_none at last [] all l = tt
    safe_none at last (c ∷ before) all l = ((λ e. absurd (omega (arith, e, l))), safe_none at last before (earlier_turns all) (omega (arith, l)))

    -- its last turn, and where it is safe
    record Found (came : List Came) (all : List (ℕ → BoardTurn)) : Type 0 where
      last : ℕ
      followed : (b : ℕ) → IsMember b members → IsFollowed m b (lines start b) ready start last till
      low_so : ready + 255 ≤ start
      safe : IsSafeAt m switches pins entries (lines start) start last members (start - 249) came all

    -- the set-up of the section
    pub record Prepared (c d e : Came) (past : List Came) (i j : ℕ → BoardTurn) (js : List (ℕ → BoardTurn)) : Type 0 where
      pub x : IsSetUp m switches pins entries (lines start) ready till start c d e past i j js
      pub same : x.members ≡ members
      pub boards : (b : ℕ) → IsMember b x.members → HoldsOf (trigger_of m b) (λ ps y. IsPrepared (lines_tick (lines start b) (start * turn_ns)) ps y) (rig_at m pins entries js b)

    pub prepared_here : (c d e : Came) (past : List Came) (i j : ℕ → BoardTurn) (js : List (ℕ → BoardTurn)) → IsClearSection m switches pins entries (lines start) from start members c (d ∷ e ∷ past) (i ∷ j ∷ js) → BeginsAlone m switches (d ∷ e ∷ past)
        → AreSetUp m switches pins entries lines ready till (c ∷ d ∷ e ∷ past) (i ∷ j ∷ js) → length (d ∷ e ∷ past) + 276 ≤ till → length (d ∷ e ∷ past) + 249 ≡ start → Prepared c d e past i j js
    prepared_here c d e past i j js s alone set_up reach at =
        let known = some_known start members (noted m d.note (known_by m switches (e ∷ past))).homing (s.homes.1.0 (omega (arith, at, begun))).1 in
        let h = known.0 in
        let of = of_known start members (noted m d.note (known_by m switches (e ∷ past))).homing h (s.homes.1.0 (omega (arith, at, begun))).1 known.1 in
        let begins = of.1 in
        let x : IsSetUp m switches pins entries (lines start) ready till start c d e past i j js = subst (λ (n : ℕ). IsSetUp m switches pins entries (lines n) ready till n c d e past i j js) begins (set_up.0 h known.1 (omega (arith, begins, at))) in
        let soon = x.early in
        let known_members : members_of h.group ≡ x.members = (of_known start x.members (noted m d.note (known_by m switches (e ∷ past))).homing h (x.section.homes.1.0 (omega (arith, soon))).1 known.1).2 in
        let same : x.members ≡ members = sym known_members ∙ of.2 in
        let size = x.section.long in
        let prepared : (b : ℕ) → IsMember b x.members → HoldsOf (trigger_of m b) (λ ps y. IsPrepared (lines_tick (lines start b) (start * turn_ns)) ps y) (rig_at m pins entries js b) = (λ b on. (
        let rise = rises b (x.section.plain b on).run.board in
        let first = turn_before m switches (pins b) entries b d (e ∷ past) (i b) (turns_of b (j ∷ js)) rise (x.section.plain b on) in
        prepared_all start c d e past i j js x (omega (arith, at)) b rise (turn_before m switches (pins b) entries b e past (j b) (turns_of b js) rise first) alone.1 (quiet_all b rise d (e ∷ past) (j ∷ js) (omega (arith, size)) first alone.1 set_up.1 (omega (arith, reach))).1)) in
        record { x = x; same = same; boards = prepared }

    here : (c d e : Came) (past : List Came) (i j : ℕ → BoardTurn) (js : List (ℕ → BoardTurn)) → IsClearSection m switches pins entries (lines start) from start members c (d ∷ e ∷ past) (i ∷ j ∷ js) → BeginsAlone m switches (d ∷ e ∷ past) → AreSetUp m switches pins entries lines ready till (c ∷ d ∷ e ∷ past) (i ∷ j ∷ js)
        → length (d ∷ e ∷ past) + 276 ≤ till → length (d ∷ e ∷ past) + 249 ≡ start → Found (c ∷ d ∷ e ∷ past) (i ∷ j ∷ js)
    here c d e past i j js s alone set_up reach at =
        let p = prepared_here c d e past i j js s alone set_up reach at in
        let x = p.x in
        let low_so = x.begins in
        let safe_in =
        begins_safe m switches pins entries (lines start) ready x.from start x.last till x.members x.followed c d e past i j js (rests_section m switches pins entries (lines start) x.from start x.members c (d ∷ e ∷ past) (i ∷ j ∷ js) none x.section) x.early x.begins (omega (arith, at)) x.goes (omega (arith, reach)) x.first x.second x.new.0 x.new.1 x.new.2 p.boards in
        let Both : List Member → Type 0 = λ ms. ((b : ℕ) → IsMember b ms → IsFollowed m b (lines start b) ready start x.last till) × IsSafeIn m switches pins entries (lines start) start x.last ms c (d ∷ e ∷ past) (i ∷ j ∷ js) in
        let both : Both members = subst Both p.same (x.followed, safe_in) in
        record {
          last = x.last;
          followed = both.0;
          low_so = omega (arith, low_so, at);
          safe = ((λ z. both.1), safe_none (start - 249) x.last (d ∷ e ∷ past) (j ∷ js) (omega (arith, at)));
        }

    find : (c : Came) (before : List Came) (all : List (ℕ → BoardTurn)) → IsClearSection m switches pins entries (lines start) from start members c before all → BeginsAlone m switches before → AreSetUp m switches pins entries lines ready till (c ∷ before) all → length before + 276 ≤ till → start ≤ length before + 249 → Found (c ∷ before) all
    find c [] all s alone set_up reach l = absurd (omega (arith, l, begun))
    find c (d ∷ []) all s alone set_up reach l = absurd (omega (arith, l, begun))
    find c (d ∷ e ∷ past) [] s alone set_up reach l = absurd (let size = s.long in omega (arith, size))
    find c (d ∷ e ∷ past) (i ∷ []) s alone set_up reach l = absurd (let size = s.long in omega (arith, size))
    find c (d ∷ e ∷ past) (i ∷ j ∷ js) s alone set_up reach l = elim (leb_tells start (length (e ∷ past) + 249)) [
      | inl p ↦
          let reached = p.1 in
          let x = find d (e ∷ past) (j ∷ js) (earlier c d (e ∷ past) i (j ∷ js) s) alone.1 set_up.1 (omega (arith, reach)) reached in
          record { last = x.last; followed = x.followed; low_so = x.low_so; safe = ((λ z. absurd (omega (arith, z, reached))), x.safe) }
      | inr p ↦ let below = p.1 in here c d e past i j js s alone set_up reach (omega (arith, l, below))
    ]

    pub run_never : (c : Came) (before : List Came) (all : List (ℕ → BoardTurn)) → IsClearSection m switches pins entries (lines start) from start members c before all → BeginsAlone m switches before → AreSetUp m switches pins entries lines ready till (c ∷ before) all → length before + 276 ≤ till → from ≤ length before
        → (h : Homing) → (noted m c.note (known_by m switches before)).homing ≡ Some h → (b turn : ℕ) → answer_in (length before) h.start (hears_all (noted m c.note (known_by m switches before)).clocks c.states h).group ≡ Some (end.Expired b turn) → ⊥
    run_never c before all s alone set_up reach l h is b turn ends =
        let begins = (of_known start members (noted m c.note (known_by m switches before)).homing h (s.homes.0 l).1 is).0 in
        let late = answer_late (length before) h.start (hears_all (noted m c.note (known_by m switches before)).clocks c.states h).group (end.Expired b turn) ends in
        let x = find c before all s alone set_up reach (omega (arith, late, begins)) in
        let low_so = x.low_so in
        never_any m switches pins entries (lines start) ready from start x.last till (start - 249) members x.followed (omega (arith, begun)) (omega (arith, low_so)) (omega arith) (omega (arith, begun)) c before all (rests_section m switches pins entries (lines start) from start members c before all none s) reach (omega (arith, late, begins)) x.safe h is b turn ends
