-- A homing section from its note on: its group stays new until its boards are started, and then the section is safe.
use Rattle.std.proofs.Common.{◌≡◌, ℕ, ◌+◌, ◌-◌, ◌<◌, ◌≤◌, ◌==◌, inl, inr, Bool, true, false, cond, List, [], ◌∷◌, length, Some, refl, ap, sym, ◌∙◌, subst, arith}
use Rattle.laws_board.proofs.Names.{eqb-true, leb_tells, Level, Machine, Clocks, Entry, Switch, Member, Goes, Rests, Sends, GroupState, phase, Homing, answer_in, hears_all, noted, Came, GoesOn, known_by}
use Rattle.laws_board.specs.turns.Turns.{BoardTurn}
use Rattle.trigger_group.specs.declared.order.End.TheVariants as end
use Rattle.trigger_group.specs.declared.round.Phase.{Phase as GroupPhase}
use Rattle.trigger_group.specs.declared.round.Round.{Round}
use Rattle.trigger_group.specs.Group.{after_in}
use Rattle.trigger_group.proofs.Knows.{after_last, after_members, after_start}
use Rattle.laws_homing.specs.home_runs.Told.{IsMember}
use Rattle.laws_homing.specs.clear_groups.Safe.{IsSafeAt, IsSafeIn}
use Rattle.laws_homing.specs.home_runs.Sections.{HomesFrom}
use Rattle.laws_homing.specs.clear_groups.Sections.{AreOfTurn, BeginsNoneFrom, IsRestingSection, IsFollowed}
use Rattle.laws_homing.specs.clear_groups.SetUp.{AllOfTurn, ArePrepared, ArePreparedAt, IsNew, IsNewAt, IsNewIn}
use Rattle.laws_homing.proofs.clear_groups.Beginning.{begins_safe, unheard}
use Rattle.laws_homing.proofs.clear_groups.Ended.{never_any}
use Rattle.laws_homing.proofs.clear_groups.Known.{behind_turn, homing_next, of_known}
use Rattle.laws_homing.proofs.clear_groups.Sections.{cut_rests}
use Rattle.laws_homing.proofs.home_parts.Known.{answer_late}

-- before the start a group doesn't relay
skip : (b : Bool) (r : Round) (y : GroupPhase) → cond b (Sends r) y ≡ Goes → y ≡ Goes
skip true r y e = absurd (let bad : Sends r ≡ Goes = e in cc)
skip false r y e = e

last_goes : (b : Bool) → cond b Goes Rests ≡ Goes → b ≡ true
last_goes true e = refl
last_goes false e = absurd (let bad : Rests ≡ Goes = e in cc)

phase_not : (start last turn : ℕ) → phase start last turn ≡ Goes → turn < start → ⊥
phase_not start last turn e l =
    let none = eqb-true (start - turn) 0 (last_goes (start - turn == 0) (skip (start - turn == 250) _ _ (skip (start - turn == 251) _ _ (skip (start - turn == 252) _ _ (skip (start - turn == 253) _ _ (skip (start - turn == 254) _ _ e)))))) in
    omega (arith, none, l)

relay_in_phase : (p : GroupPhase) (g : GroupState) (turn : ℕ) → (p ≡ Goes → ⊥) → (after_in p g turn).relay ≡ g.relay
relay_in_phase Goes g turn n = absurd (n refl)
relay_in_phase c g turn n = refl

-- a group is new from its note until its boards are started
module _ (m : Machine) (switches : List Switch) (from start last : ℕ) (members : List Member) (set_up : from + 251 ≤ start) where
  new_next : (c d : Came) (past : List Came) → GoesOn m switches (d ∷ past) → HomesFrom m switches from start members (c ∷ d ∷ past) → BeginsNoneFrom from (c ∷ d ∷ past) → from ≤ length past → length past + 252 ≤ start
      → AreOfTurn (length (d ∷ past)) c.states → IsNewIn m switches start last members d past → IsNewIn m switches start last members c (d ∷ past)
  new_next c d past on homes begins_none early before of x =
      let h = x.0 in
      let new = x.2 in
      let k = length past in
      let now = hears_all (noted m d.note (known_by m switches past)).clocks d.states h in
      let next = homing_next m switches from start members c d past h homes begins_none.0 on early x.1 in
      let begins = (of_known start members (noted m d.note (known_by m switches past)).homing h (homes.1.0 early).1 x.1).0 in
      let later = behind_turn now k in
      let clocks = (noted m c.note (known_by m switches (d ∷ past))).clocks in
      let at = new.begins in
      let same = unheard clocks 0 later.start (length (d ∷ past)) c.states later.group of (omega (arith, begins, before)) in
      let still = relay_in_phase (phase now.group.start now.group.last k) now.group k (λ e. phase_not now.group.start now.group.last k e (omega (arith, at, before))) in
      let group : IsNew start last members (hears_all clocks c.states later).group = record {
        begins = ap (λ (g : GroupState). g.start) same ∙ after_start now.group k ∙ new.begins;
        ends = ap (λ (g : GroupState). g.last) same ∙ after_last now.group k ∙ new.ends;
        unheard = ap (λ (g : GroupState). g.members) same ∙ after_members now.group k ∙ new.unheard;
        calm = ap (λ (g : GroupState). g.relay) same ∙ still ∙ new.calm;
      } in
      (later, next.0, group)

  pub stays_new : (c : Came) (before : List Came) → GoesOn m switches before → HomesFrom m switches from start members (c ∷ before) → BeginsNoneFrom from (c ∷ before) → AllOfTurn (c ∷ before) → from ≤ length before → length before + 251 ≤ start
      → IsNewAt m switches start last members from (c ∷ before) → IsNewIn m switches start last members c before
  stays_new c [] on homes begins of l soon new = new.0 (omega (arith, l))
  stays_new c (d ∷ past) on homes begins of l soon new = elim (leb_tells from (length past)) [
    | inl p ↦ new_next c d past on homes begins p.1 (omega (arith, soon)) of.0 (stays_new d past on.1 homes.1 begins.1 of.1 p.1 (omega (arith, soon)) new.1)
    | inr p ↦ let below = p.1 in new.0 (omega (arith, l, below))
  ]

  -- so it is new in a later turn before that
  pub new_later : (at : ℕ) (c : Came) (before : List Came) → from ≤ at → at + 251 ≤ start → GoesOn m switches before → HomesFrom m switches from start members (c ∷ before) → BeginsNoneFrom from (c ∷ before) → AllOfTurn (c ∷ before)
      → IsNewAt m switches start last members from (c ∷ before) → IsNewAt m switches start last members at (c ∷ before)
  new_later at c [] late soon on homes begins of new = ((λ e. stays_new c [] on homes begins of (omega (arith, e, late)) (omega (arith, e, soon)) new), tt)
  new_later at c (d ∷ past) late soon on homes begins of new = (
    λ e. stays_new c (d ∷ past) on homes begins of (omega (arith, e, late)) (omega (arith, e, soon)) new,
    new_later at d past late soon on.1 homes.1 begins.1 of.1 new.1,
  )

module _ (m : Machine) (switches : List Switch) (pins : ℕ → List (List Level)) (entries : List Entry) (lines : ℕ → Clocks) (ready from start last till : ℕ) (members : List Member)
    (followed : (b : ℕ) → IsMember b members → IsFollowed m b (lines b) ready start last till) (low_so : ready + 255 ≤ start) (set_up : from + 251 ≤ start) (order : start ≤ last) where
  earlier : (c d : Came) (past : List Came) (j : ℕ → BoardTurn) (js : List (ℕ → BoardTurn)) → IsRestingSection m switches pins entries lines from start members c (d ∷ past) (j ∷ js) → IsRestingSection m switches pins entries lines from start members d past js
  earlier c d past j js s = cut_rests m switches pins entries lines ready from start last till start members followed (omega (arith, set_up)) (omega (arith, low_so, set_up)) (omega arith) c d past j js s

  prepared_here : (at : ℕ) (all : List (ℕ → BoardTurn)) → length all ≡ at → ArePreparedAt m pins entries lines start members at all → ArePrepared m pins entries lines start members all
  prepared_here at [] e k = k e
  prepared_here at (j ∷ js) e k = k.0 (omega (arith, e))

  abbrev At : ℕ
  At = start - 249

  pub safe_at : (c : Came) (before : List Came) (all : List (ℕ → BoardTurn)) → IsRestingSection m switches pins entries lines from start members c before all → AllOfTurn (c ∷ before) → IsNewAt m switches start last members from (c ∷ before)
      → ArePreparedAt m pins entries lines start members (start - 251) all → start + 25 ≤ till → IsSafeAt m switches pins entries lines start last members At (c ∷ before) all
  safe_at c [] [] s of new k r = ((λ e. absurd (omega (arith, e, low_so, set_up))), tt)
  safe_at c [] (j ∷ js) s of new k r = absurd (let size = s.long in omega (arith, size))
  safe_at c (d ∷ past) [] s of new k r = absurd (let size = s.long in omega (arith, size))
  safe_at c (d ∷ past) (j ∷ js) s of new k r = (λ e. here past js s of new k e, safe_at d past js (earlier c d past j js s) of.1 new.1 k.1 r)
    where
      here : (past : List Came) (js : List (ℕ → BoardTurn)) → IsRestingSection m switches pins entries lines from start members c (d ∷ past) (j ∷ js) → AllOfTurn (c ∷ d ∷ past) → IsNewAt m switches start last members from (c ∷ d ∷ past)
          → ArePreparedAt m pins entries lines start members (start - 251) (j ∷ js) → length (d ∷ past) ≡ At → IsSafeIn m switches pins entries lines start last members c (d ∷ past) (j ∷ js)
      here [] js s of new k e = absurd (omega (arith, e, low_so, set_up))
      here (x ∷ past) [] s of new k e = absurd (let size = s.long in omega (arith, size))
      here (x ∷ past) (i ∷ js) s of new k e =
          let two = earlier c d (x ∷ past) j (i ∷ js) s in
          let one = earlier d x past i js two in
          let known = stays_new m switches from start last members set_up x past one.goes_on one.homes one.begins of.1.1 (omega (arith, e, set_up)) (omega (arith, e, set_up)) new.1.1 in
          let size = s.long in
          let first : length past + 1 ≡ length (x ∷ past) = omega arith in
          let second : length past + 2 ≡ length (d ∷ x ∷ past) = omega arith in
          begins_safe m switches pins entries lines ready from start last till members followed c d x past j i js s (omega (arith, e, set_up)) (omega (arith, e, low_so, set_up)) (omega (arith, e, set_up)) order (omega (arith, e, set_up, r))
          (subst (λ (n : ℕ). AreOfTurn n d.states) (sym first) of.1.0) (subst (λ (n : ℕ). AreOfTurn n c.states) (sym second) of.0) known.0 known.1 known.2
          (prepared_here (start - 251) js (omega (arith, e, size, set_up)) k.1.1)

  pub begun_never : (c : Came) (before : List Came) (all : List (ℕ → BoardTurn)) → IsRestingSection m switches pins entries lines from start members c before all → AllOfTurn (c ∷ before) → length before + 276 ≤ till → from ≤ length before
      → IsNewAt m switches start last members from (c ∷ before) → ArePreparedAt m pins entries lines start members (start - 251) all
      → (h : Homing) → (noted m c.note (known_by m switches before)).homing ≡ Some h → (b turn : ℕ) → answer_in (length before) h.start (hears_all (noted m c.note (known_by m switches before)).clocks c.states h).group ≡ Some (end.Expired b turn) → ⊥
  begun_never c before all s of reach l new k h is b turn ends =
      let begins = (of_known start members (noted m c.note (known_by m switches before)).homing h (s.homes.0 l).1 is).0 in
      let late = answer_late (length before) h.start (hears_all (noted m c.note (known_by m switches before)).clocks c.states h).group (end.Expired b turn) ends in
      never_any m switches pins entries lines ready from start last till At members followed (omega (arith, set_up)) (omega (arith, low_so, set_up)) (omega arith) (omega (arith, set_up)) c before all s reach (omega (arith, late, begins, set_up)) (safe_at c before all s of new k (omega (arith, late, begins, reach))) h is b turn ends
