-- A homing group and all its boards go on by a turn.
use Rattle.std.proofs.Common.{◌≡◌, ℕ, ◌+◌, ◌≤◌, Bool, true, false, not, List, [], ◌∷◌, map, Option, Some, None, refl, ap, sym, ◌∙◌, inl, inr}
use Rattle.std.specs.List.{Contains}
use Rattle.laws_board.proofs.Names.{Rig, Slot, slot_at, Member, Seen, GroupState, turned_group, all_fired, members_of}
use Rattle.trigger_group.specs.Group.{any_fired_by}
use Rattle.trigger_group.proofs.Answering.{first_there, there_more}
use Rattle.laws_homing.specs.home_runs.Guards.{HasFired}
use Rattle.laws_homing.specs.clear_boards.Member.{IsMember, fired_at, is_fired}
use Rattle.laws_homing.specs.clear_boards.Modes.{AllOn, Hears, IsAheadIn, IsTimed}
use Rattle.laws_homing.proofs.clear_boards.Lately.{lately_all}
use Rattle.laws_homing.proofs.clear_boards.Modes.{goes_ahead}
use Rattle.plan_types.proofs.Facts.{not_true}
use Rattle.std.proofs.lemmas.Bool.{not_from_false}

flag_is : (oid : ℕ) (r : Rig) → HasFired oid r → is_fired (slot_at r oid) ≡ true
flag_is oid r f = ap is_fired f.is ∙ not_from_false f.slot.trigger.can f.fired

pub fired_by_flag : (oid : ℕ) (r : Rig) (o : Option Slot) → slot_at r oid ≡ o → is_fired o ≡ true → HasFired oid r
fired_by_flag oid r None is e = absurd (cc)
fired_by_flag oid r (Some s) is e = record { slot = s; is = is; fired = not_true s.trigger.can e }

-- a list of members
all_there : (f : ℕ → Bool) (xs : List Seen) → ((x : Seen) → Contains xs x → f x.member.board ≡ true) → AllOn f xs
all_there f [] k = tt
all_there f (x ∷ xs) k = (k x (first_there x xs), all_there f xs (λ y c. k y (there_more x y xs c)))

all_next : (f l : ℕ → Bool) (xs : List Seen) → ((x : Seen) → Contains xs x → f x.member.board ≡ true → l x.member.board ≡ true) → AllOn f xs → AllOn l xs
all_next f l [] k a = tt
all_next f l (x ∷ xs) k a = (k x (first_there x xs) a.0, all_next f l xs (λ y c. k y (there_more x y xs c)) a.1)

all_same : (f : ℕ → Bool) (xs ys : List Seen) → map (λ (s : Seen). s.member) xs ≡ map (λ (s : Seen). s.member) ys → AllOn f xs → AllOn f ys
all_same f [] [] e a = tt
all_same f [] (y ∷ ys) e a = absurd (cc)
all_same f (x ∷ xs) [] e a = absurd (cc)
all_same f (x ∷ xs) (y ∷ ys) e a =
    let one : x.member ≡ y.member = cc in
    let rest : map (λ (s : Seen). s.member) xs ≡ map (λ (s : Seen). s.member) ys = cc in
    (ap (λ (n : Member). f n.board) (sym one) ∙ a.0, all_same f xs ys rest a.1)

pub leads_on : (own : ℕ → ℕ → ℕ) (oids bases every : ℕ → ℕ) (now next : ℕ → Rig) (turn : ℕ) (g h : GroupState) → g.start ≤ turn → all_fired g.members ≡ false → IsTimed g → Hears (turned_group g turn) h → members_of h ≡ members_of g
    → ((x : Seen) → Contains g.members x → HasFired (oids x.member.board) (now x.member.board) → HasFired (oids x.member.board) (next x.member.board))
    → (g.start + 4 ≤ turn → any_fired_by g.last g.members ≡ true → g.relay ≡ None → (x : Seen) → Contains g.members x → HasFired (oids x.member.board) (next x.member.board))
    → (any_fired_by g.last g.members ≡ false → (x : Seen) → Contains h.members x
    → IsMember (own x.member.board) (oids x.member.board) (bases x.member.board) (every x.member.board) h.start h.last x.member.board (turn + 1) (next x.member.board) h.members)
    → IsAheadIn (fired_at oids now) turn g → IsAheadIn (fired_at oids next) (turn + 1) h
leads_on own oids bases every now next turn g h low fired timed hears same keeps relays members mode =
    goes_ahead (fired_at oids now) (fired_at oids next) turn g h low fired timed hears mode
    (λ dead.
    all_same (fired_at oids next) g.members h.members (sym same)
    (all_next (fired_at oids now) (fired_at oids next) g.members
    (λ x c flag. flag_is (oids x.member.board) (next x.member.board) (keeps x c (fired_by_flag (oids x.member.board) (now x.member.board) (slot_at (now x.member.board) (oids x.member.board)) refl flag))) dead))
    (λ late some relay. all_same (fired_at oids next) g.members h.members (sym same) (all_there (fired_at oids next) g.members (λ x c. flag_is (oids x.member.board) (next x.member.board) (relays late some relay x c))))
    (λ none. lately_all h.start h.last (turn + 1) h.members (λ x c. elim (members none x c) [ inl k ↦ inl k.2 | inr k ↦ inr k.1 ]))
