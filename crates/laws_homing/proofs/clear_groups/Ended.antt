-- A group whose section is safe answers of no board that it expired.
use Rattle.std.proofs.Common.{◌≡◌, ℕ, ◌+◌, ◌≤◌, ◌==◌, inl, inr, Bool, true, false, cond, List, [], ◌∷◌, length, map, Option, Some, None, refl, ◌∙◌, subst, arith}
use Rattle.std.specs.Prelude.{◌&&◌, nat_le}
use Rattle.laws_board.proofs.Names.{Level, Machine, Clocks, Entry, Switch, End, Member, Fired, Seen, GroupState, Homing, answer_in, hears_all, members_of, noted, Came, known_by, states-kept}
use Rattle.laws_board.specs.turns.Turns.{BoardTurn}
use Rattle.trigger_group.specs.declared.order.End.TheVariants as end
use Rattle.trigger_group.specs.Group.{expired, first_expired, first_switched, or_else, switched}
use Rattle.laws_homing.specs.home_runs.Told.{IsMember}
use Rattle.laws_homing.specs.clear_groups.Safe.{IsSafeAt}
use Rattle.laws_homing.specs.clear_groups.Sections.{IsRestingSection, IsFollowed}
use Rattle.laws_homing.proofs.clear_groups.Known.{of_known}
use Rattle.laws_homing.proofs.clear_groups.Sections.{never_answers}
use Rattle.laws_homing.proofs.clear_boards.Heard.{no_switch, of_answer, of_turn, none_switched}

-- a board of which a group answers so is one of its members
one_board : (last b turn board : ℕ) (o : Option Fired) → expired last board o ≡ Some (end.Expired b turn) → board ≡ b
one_board last b turn board None e = cc
one_board last b turn board (Some f) e = by ((f.reason == 2) && nat_le f.turn last) e
  where
    by : (c : Bool) → cond c (Some (end.Expired board f.turn)) None ≡ Some (end.Expired b turn) → board ≡ b
    by true g = cc
    by false g = cc

any_board : (last b turn : ℕ) (xs : List Seen) → first_expired last xs ≡ Some (end.Expired b turn) → IsMember b (map (λ (s : Seen). s.member) xs)
any_board last b turn [] e = cc
any_board last b turn (x ∷ xs) e = by (expired last x.member.board x.fired) (λ g. any_board last b turn xs g) refl e
  where
    by : (o : Option End) → (first_expired last xs ≡ Some (end.Expired b turn) → IsMember b (map (λ (s : Seen). s.member) xs)) → expired last x.member.board x.fired ≡ o → or_else o (first_expired last xs) ≡ Some (end.Expired b turn)
        → IsMember b (map (λ (s : Seen). s.member) (x ∷ xs))
    by None rec is g = inr (rec g)
    by (Some e) rec is g = inl (one_board last b turn x.member.board x.fired (is ∙ g))

ends_member : (k start b turn : ℕ) (g : GroupState) → answer_in k start g ≡ Some (end.Expired b turn) → IsMember b (members_of g)
ends_member k start b turn g e =
    let ended_so = of_turn (nat_le start k) g (end.Expired b turn) e in
    any_board g.last b turn g.members (of_answer b turn (first_expired g.last g.members) (first_switched g.members) (none_switched b turn g.members) ended_so)

pub never_any : (m : Machine) (switches : List Switch) (pins : ℕ → List (List Level)) (entries : List Entry) (lines : ℕ → Clocks) (ready from start last till at : ℕ) (members : List Member)
    → ((b : ℕ) → IsMember b members → IsFollowed m b (lines b) ready start last till) → from ≤ at → ready + 4 ≤ at → start ≤ at + 249 → at + 1 ≤ start → (c : Came) (before : List Came) (all : List (ℕ → BoardTurn))
    → IsRestingSection m switches pins entries lines from start members c before all → length before + 276 ≤ till → at ≤ length before → IsSafeAt m switches pins entries lines start last members at (c ∷ before) all
    → (h : Homing) → (noted m c.note (known_by m switches before)).homing ≡ Some h → (b turn : ℕ) → answer_in (length before) h.start (hears_all (noted m c.note (known_by m switches before)).clocks c.states h).group ≡ Some (end.Expired b turn) → ⊥
never_any m switches pins entries lines ready from start last till at members followed early low_so far first c before all s r l safe h is b turn ends =
    let clocks = (noted m c.note (known_by m switches before)).clocks in
    let of = of_known start members (noted m c.note (known_by m switches before)).homing h (s.homes.0 (omega (arith, early, l))).1 is in
    let on = subst (IsMember b) (states-kept clocks 0 h.start c.states h.group ∙ of.2) (ends_member (length before) h.start b turn (hears_all clocks c.states h).group ends) in
    never_answers m switches pins entries lines ready from start last till at members followed early low_so far c before all s r l first safe h is of.0 b turn on ends
