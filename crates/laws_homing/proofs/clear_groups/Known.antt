-- A homing section from one turn to the next: the group that is known is the one of the turn before, behind its orders.
use Rattle.std.proofs.Common.{◌≡◌, ℕ, ◌+◌, ◌<◌, ◌≤◌, ◌==◌, inl, inr, Bool, true, false, List, [], ◌∷◌, length, map, Option, Some, None, refl, ap, sym, ◌∙◌, subst, arith}
use Rattle.std.specs.Prelude.{◌-◌, if◌then◌else◌, nat_le}
use Rattle.std.specs.List.{Contains}
use Rattle.laws_board.proofs.Names.{leb_tells, nat_tests, Machine, Switch, End, Member, Rests, Seen, GroupState, turned_group, all_fired, phase, Homing, answer_in, goes_on_homing, hears_all, homing_after, members_of, Connecting, news_of, noted, Reacted, Came, GoesOn, known_by, last_reacted}
use Rattle.trigger_group.specs.declared.round.Phase.{Phase as GroupPhase}
use Rattle.trigger_group.specs.Group.{after_in, answer, ended, orders, orders_of_group}
use Rattle.trigger_group.proofs.Answering.{first_there, none_there, there_more, either}
use Rattle.host_reactor.proofs.Resting.{picked}
use Rattle.laws_board.proofs.clocks.Lines.{noted_phase}
use Rattle.laws_board.proofs.clocks.Turning.{goes}
use Rattle.laws_homing.specs.home_runs.Sections.{HomesFrom, IsOf}
use Rattle.laws_homing.specs.home_runs.Told.{IsMember}
use Rattle.laws_homing.specs.home_runs.Words.{BeginsNone}
use Rattle.laws_homing.proofs.home_runs.Knowing.{noted_none, running_now}
use Rattle.plan_types.proofs.Facts.{is_le}
use Rattle.laws_homing.proofs.home_parts.Known.{answer_late}

-- the section behind a turn
abbrev pub behind_turn : Homing → ℕ → Homing
behind_turn h k = record h { group = turned_group h.group k }

by_answer : (k start : ℕ) (ms : List Member) (h : Homing) (o : Option End) → IsOf start ms (goes_on_homing k h o) → (goes_on_homing k h o ≡ Some (behind_turn h k)) × (o ≡ None)
by_answer k start ms h None of = (refl, refl)
by_answer k start ms h (Some end) of = absurd of

pub homing_next : (m : Machine) (switches : List Switch) (from start : ℕ) (ms : List Member) (c d : Came) (past : List Came) (h : Homing) → HomesFrom m switches from start ms (c ∷ d ∷ past) → (from < length (d ∷ past) → BeginsNone (news_of c.note)) → GoesOn m switches (d ∷ past)
    → from ≤ length past → (noted m d.note (known_by m switches past)).homing ≡ Some h
    → ((noted m c.note (known_by m switches (d ∷ past))).homing ≡ Some (behind_turn (hears_all (noted m d.note (known_by m switches past)).clocks d.states h) (length past)))
    × (answer_in (length past) h.start (hears_all (noted m d.note (known_by m switches past)).clocks d.states h).group ≡ None)
homing_next m switches from start ms c d past h homes none on early is =
    let known = known_by m switches past in
    let now = noted m d.note known in
    let k = length past in
    let x = last_reacted m switches d past in
    let first = homes.1.0 early in
    let past_it : now.phase ≡ Connecting → ⊥ = λ e. first.0 (sym (noted_phase m d.note known) ∙ e) in
    let g = running_now m now k d.states x (goes m switches known k d.states d.note on.0) past_it in
    let heard = hears_all now.clocks d.states h in
    let o = answer_in k heard.start heard.group in
    let left : (known_by m switches (d ∷ past)).homing ≡ homing_after now.clocks k d.states now.homing = ap (λ (y : Reacted). y.known.homing) g.is in
    let to : (known_by m switches (d ∷ past)).homing ≡ goes_on_homing k heard o = left ∙ ap (λ (z : Option Homing). homing_after now.clocks k d.states z) is in
    let later = noted_none m c.note (known_by m switches (d ∷ past)) (none (omega (arith, early))) in
    let of : IsOf start ms (goes_on_homing k heard o) = subst (λ (z : Option Homing). IsOf start ms z) (later ∙ to) (homes.0 (omega (arith, early))).1 in
    let both = by_answer k start ms heard o of in
    (later ∙ to ∙ both.0, both.1)

-- the section that is known
pub of_known : (start : ℕ) (ms : List Member) (o : Option Homing) (h : Homing) → IsOf start ms o → o ≡ Some h → (h.start ≡ start) × (h.group.start ≡ start) × (members_of h.group ≡ ms)
of_known start ms o h of e = subst (λ (z : Option Homing). IsOf start ms z) e of

pub some_known : (start : ℕ) (ms : List Member) (o : Option Homing) → IsOf start ms o → (h : Homing) × (o ≡ Some h)
some_known start ms None of = absurd of
some_known start ms (Some h) of = (h, refl)

-- a group that doesn't answer from its start on
not_some : (b : Bool) (e : End) → (if b then Some e else None) ≡ None → b ≡ false
not_some true e h = cc
not_some false e h = refl

pub open_group : (k start : ℕ) (g : GroupState) → answer_in k start g ≡ None → start ≤ k → all_fired g.members ≡ false
open_group k start g e l =
    let At : Bool → Type 0 = λ b. (if b then ended g else None) ≡ None in
    not_some (all_fired g.members) (answer g) (subst At (is_le start k l) e)

-- a group between its set-up and its start
pub phase_waits : (start last turn : ℕ) → turn < start → start ≤ turn + 249 → phase start last turn ≡ Rests
phase_waits start last turn low far =
    picked (start - turn == 254) _ _ (grind (arith, nat_tests))
    ∙ picked (start - turn == 253) _ _ (grind (arith, nat_tests))
    ∙ picked (start - turn == 252) _ _ (grind (arith, nat_tests))
    ∙ picked (start - turn == 251) _ _ (grind (arith, nat_tests))
    ∙ picked (start - turn == 250) _ _ (grind (arith, nat_tests))
    ∙ picked (start - turn == 0) _ _ (grind (arith, nat_tests))

pub none_waits : (g : GroupState) (turn : ℕ) → turn < g.start → g.start ≤ turn + 249 → orders g turn ≡ []
none_waits g turn low far = ap (λ (p : GroupPhase). orders_of_group p g turn) (phase_waits g.start g.last turn low far)

pub group_waits : (g : GroupState) (turn : ℕ) → turn < g.start → g.start ≤ turn + 249 → turned_group g turn ≡ g
group_waits g turn low far = ap (λ (p : GroupPhase). after_in p g turn) (phase_waits g.start g.last turn low far)

-- the members of a group and their boards
pub member_seen : (b : ℕ) (xs : List Seen) → IsMember b (map (λ (s : Seen). s.member) xs) → (x : Seen) × Contains xs x × (x.member.board ≡ b)
member_seen b [] k = absurd k
member_seen b (x ∷ xs) (inl e) = (x, first_there x xs, e)
member_seen b (x ∷ xs) (inr k) = let y = member_seen b xs k in (y.0, there_more x y.0 xs y.1, y.2)

pub seen_member : (x : Seen) (xs : List Seen) → Contains xs x → IsMember x.member.board (map (λ (s : Seen). s.member) xs)
seen_member x [] c = absurd (none_there x c)
seen_member x (y ∷ ys) c = elim (either y x ys c) [ inl e ↦ inl (ap (λ (s : Seen). s.member.board) e) | inr k ↦ inr (seen_member x ys k) ]

-- a group that answers does so from its start on
none_some : (b : Bool) (g : GroupState) (e : End) → b ≡ false → (if b then ended g else None) ≡ Some e → ⊥
none_some true g e f is = cc
none_some false g e f is = let bad : None ≡ Some e = is in cc
