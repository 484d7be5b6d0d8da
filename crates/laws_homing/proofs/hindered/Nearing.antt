-- How far ahead the timeouts of a homing group go, in any scene, where it heard of none of its members in a turn to come.
use Rattle.std.proofs.Common.{◌≡◌, ℕ, ◌+◌, ◌≤◌, Bool, false, max, inl, inr, List, [], ◌∷◌, length, Option, Some, None, ap, sym, ◌∙◌, subst, arith}
use Rattle.laws_board.proofs.Names.{leb_tells, Machine, Switch, Member, GroupState, turned_group, all_fired, first_timeout, Homing, hears_all, members_of, noted, Came, GoesOn, known_by, states-kept}
use Rattle.trigger_group.specs.declared.round.Phase.{Phase as GroupPhase}
use Rattle.trigger_group.specs.Group.{after_in, limit, relay_begins, relay_from}
use Rattle.trigger_group.proofs.Knows.{after_last, after_start}
use Rattle.laws_homing.specs.home_runs.Sections.{HomesFrom}
use Rattle.laws_homing.specs.home_runs.Told.{IsMember}
use Rattle.laws_homing.specs.clear_boards.Modes.{IsTimed}
use Rattle.laws_homing.specs.clear_groups.Early.{HeardUntil}
use Rattle.laws_homing.specs.clear_groups.Sections.{BeginsNoneFrom}
use Rattle.laws_homing.specs.clear_groups.SetUp.{IsNewAt, IsNewIn}
use Rattle.laws_homing.specs.hindered.Hindered.{HeardByNow}
use Rattle.laws_homing.proofs.home_runs.Controlling.{phase_homes, phase_starts}
use Rattle.laws_homing.proofs.clear_boards.Keeping.{hears_keep}
use Rattle.laws_homing.proofs.clear_boards.Modes.{begins_not, relay_is}
use Rattle.laws_homing.proofs.clear_boards.Renewed.{after_is}
use Rattle.laws_homing.proofs.clear_groups.Known.{behind_turn, group_waits, homing_next, member_seen, of_known, open_group}
use Rattle.laws_homing.proofs.clear_groups.Orders.{heard_there, least_at, timed_turn}

module _ (m : Machine) (switches : List Switch) (b from start last : ℕ) (members : List Member) (on : IsMember b members) (at : from + 251 ≡ start) (order : start ≤ last) where
  -- the group of the section that is known in a turn behind the one in which its boards are started
  pub record IsNear (c : Came) (before : List Came) : Type 0 where
    pub homing : Homing
    pub known : (noted m c.note (known_by m switches before)).homing ≡ Some homing
    pub begins : (hears_all (noted m c.note (known_by m switches before)).clocks c.states homing).group.start ≡ start
    pub ends : (hears_all (noted m c.note (known_by m switches before)).clocks c.states homing).group.last ≡ last
    pub timed : IsTimed (hears_all (noted m c.note (known_by m switches before)).clocks c.states homing).group
    pub near : (hears_all (noted m c.note (known_by m switches before)).clocks c.states homing).group.sent ≤ max start (length before) + 25
    pub calm : length before ≤ start + 4 → (hears_all (noted m c.note (known_by m switches before)).clocks c.states homing).group.relay ≡ None

  -- the next timeout, where the group has heard of the member in no turn to come
  pub limit_near : (d : Came) (past : List Came) (h : Homing) → members_of h.group ≡ members → let g = (hears_all (noted m d.note (known_by m switches past)).clocks d.states h).group in HeardUntil g.start b (length past) g.members → limit g ≤ length past + 25
  limit_near d past h of heard =
      let g = (hears_all (noted m d.note (known_by m switches past)).clocks d.states h).group in
      let are = states-kept (noted m d.note (known_by m switches past)).clocks 0 h.start d.states h.group ∙ of in
      let seen = member_seen b g.members (subst (IsMember b) (sym are) on) in
      let least = least_at g.start g.last seen.0 g.members seen.1 in
      let most_heard = heard_there g.start b (length past) seen.0 g.members seen.1 seen.2 heard in
      omega (arith, least, most_heard)

  module _ (c d : Came) (past : List Came) (goes : GoesOn m switches (d ∷ past)) (homes : HomesFrom m switches from start members (c ∷ d ∷ past)) (begins : BeginsNoneFrom from (c ∷ d ∷ past)) (low : from ≤ length past) where
    abbrev K : ℕ
    K = length past

    abbrev Heard : Homing → Homing
    Heard h = hears_all (noted m d.note (known_by m switches past)).clocks d.states h

    -- what the group sent by the end of a turn is what it sent as the next one begins
    next_near : (h : Homing) → (noted m d.note (known_by m switches past)).homing ≡ Some h → (Heard h).group.start ≡ start → (Heard h).group.last ≡ last → first_timeout start last ≤ (turned_group (Heard h).group K).sent → (turned_group (Heard h).group K).sent ≤ last + 1
        → (turned_group (Heard h).group K).sent ≤ max start (K + 1) + 25 → (K + 1 ≤ start + 4 → (turned_group (Heard h).group K).relay ≡ None) → IsNear c (d ∷ past)
    next_near h is group_start group_last first most near calm =
        let known = (homing_next m switches from start members c d past h homes begins.0 goes low is).0 in
        let next = behind_turn (Heard h) K in
        let keep = hears_keep (noted m c.note (known_by m switches (d ∷ past))).clocks c.states next in
        let begin = keep.start ∙ after_start (Heard h).group K ∙ group_start in
        let end = keep.last ∙ after_last (Heard h).group K ∙ group_last in
        let sent = keep.sent in
        record { homing = next; known = known; begins = begin; ends = end; timed = record { first = omega (arith, begin, end, sent, first); most = omega (arith, end, sent, most) }; near = omega (arith, sent, near); calm = λ few. keep.relay ∙ calm (omega (arith, few)) }

    -- in the turn in which the boards are started
    first_near : K ≡ from → IsNewIn m switches start last members d past → IsNear c (d ∷ past)
    first_near same new =
        let g = (Heard new.0).group in
        let begin = new.2.begins in
        let end = new.2.ends in
        let sent : (turned_group g K).sent ≡ first_timeout g.start g.last = ap (λ (p : GroupPhase). (after_in p g K).sent) (phase_starts g.start g.last K (omega (arith, begin, same, at))) in
        let calm : (turned_group g K).relay ≡ None = ap (λ (p : GroupPhase). (after_in p g K).relay) (phase_starts g.start g.last K (omega (arith, begin, same, at))) ∙ new.2.calm in
        next_near new.0 new.1 begin end (omega (arith, sent, begin, end)) (omega (arith, sent, begin, end)) (omega (arith, sent, begin, end)) (λ few. calm)

    -- and behind it
    later_near : start ≤ K + 250 → (start ≤ K → (h : Homing) → (noted m d.note (known_by m switches past)).homing ≡ Some h → HeardUntil (Heard h).group.start b K (Heard h).group.members) → IsNear d past → IsNear c (d ∷ past)
    later_near soon heard x =
        let h = x.homing in
        let g = (Heard h).group in
        let of = of_known start members (noted m d.note (known_by m switches past)).homing h (homes.1.0 low).1 x.known in
        let answers = (homing_next m switches from start members c d past h homes begins.0 goes low x.known).1 in
        let begin = x.begins in
        let end = x.ends in
        let was = x.near in
        let h_start = of.0 in
        let open_it : g.start ≤ K → all_fired g.members ≡ false = (λ l. open_group K h.start g answers (omega (arith, l, begin, h_start))) in
        elim (leb_tells (start + 1) (K + 250)) [
          | inl p ↦
              let far = p.1 in
              let t = timed_turn g K (omega (arith, begin, far)) open_it x.timed in
              let first = t.0.first in
              let most = t.0.most in
              let same_start = after_start g K in
              let same_last = after_last g K in
              let near : (turned_group g K).sent ≤ max start (K + 1) + 25 = elim (leb_tells start K) [
                | inl q ↦
                    let late = q.1 in
                    let is = after_is g K (omega (arith, begin, late)) (open_it (omega (arith, begin, late))) in
                    let near = limit_near d past h of.2 (heard late h x.known) in
                    omega (arith, is, near, was, late)
                | inr q ↦
                    let early = q.1 in
                    let same : g.sent ≡ (turned_group g K).sent = ap (λ (y : GroupState). y.sent) (sym (group_waits g K (omega (arith, begin, early)) (omega (arith, begin, far)))) in
                    omega (arith, same, was, early)
              ] in
              let calm : K + 1 ≤ start + 4 → (turned_group g K).relay ≡ None = λ few. (
              let was_calm = x.calm (omega (arith, few)) in
              elim (leb_tells start K) [
                | inl q ↦
                    let late = q.1 in
                    relay_is g K (omega (arith, begin, late)) (open_it (omega (arith, begin, late))) ∙ ap (λ (o : Option ℕ). relay_from o (relay_begins g K) K) was_calm ∙ ap (λ (y : Bool). relay_from None y K) (begins_not g K (omega (arith, begin, few)))
                | inr q ↦
                    let early = q.1 in
                    ap (λ (y : GroupState). y.relay) (group_waits g K (omega (arith, begin, early)) (omega (arith, begin, far))) ∙ was_calm
              ]) in
              next_near h x.known begin end (omega (arith, first, same_start, same_last, begin, end)) (omega (arith, most, same_last, end)) near calm
          | inr p ↦
              let far = p.1 in
              let first = x.timed.first in
              let most = x.timed.most in
              let sent : (turned_group g K).sent ≡ g.sent = ap (λ (q : GroupPhase). (after_in q g K).sent) (phase_homes g.start g.last K (omega (arith, begin, far, soon))) in
              let calm : (turned_group g K).relay ≡ g.relay = ap (λ (q : GroupPhase). (after_in q g K).relay) (phase_homes g.start g.last K (omega (arith, begin, far, soon))) in
              next_near h x.known begin end (omega (arith, sent, first, begin, end)) (omega (arith, sent, most, end)) (omega (arith, sent, was)) (λ few. calm ∙ x.calm (omega (arith, few)))
        ]

  -- so from 250 turns before the section's start on
  pub near_at : (c : Came) (before : List Came) → GoesOn m switches before → HomesFrom m switches from start members (c ∷ before) → BeginsNoneFrom from (c ∷ before) → IsNewAt m switches start last members from (c ∷ before) → HeardByNow m switches b start (c ∷ before)
      → start ≤ length before + 250 → IsNear c before
  near_at c [] goes homes begins new heard soon = absurd (omega (arith, soon, at))
  near_at c (d ∷ past) goes homes begins new heard soon = elim (leb_tells start (length past + 250)) [
    | inl p ↦
        let l = p.1 in
        later_near c d past goes homes begins (omega (arith, l, at)) l (λ late h is. heard.1.0 late h is) (near_at d past goes.1 homes.1 begins.1 new.1 heard.1 l)
    | inr p ↦
        let far = p.1 in
        let same : length past ≡ from = omega (arith, far, soon, at) in
        first_near c d past goes homes begins (omega (arith, same)) same (new.1.0 same)
  ]
