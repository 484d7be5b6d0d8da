-- A board's own dictionary nests three deep.
use Rattle.std.proofs.Common.{ℕ, ◌+◌, ◌≤◌, Bool, true, false, List, [], ◌∷◌, Ordering, Less, Equal, Greater, arith}
use Rattle.std.specs.Ordering.{nat_cmp, match_ordering}
use Rattle.std.specs.Cmp.Lexicographic.{slice_cmp}
use Rattle.std.specs.Str.{is_utf8}
use Rattle.serde_json.specs.Data.{Data, Members, no_members, member, put, depth, members_depth}
use Rattle.plan_types.specs.declared.machine.BoardDef.{BoardDef}
use Rattle.msg_dict.specs.Own.{whole, with_pin, with_pins, own_dictionary}

by_order : (o : Ordering) (a b c : Members) (m : ℕ) → members_depth a ≤ m → members_depth b ≤ m → members_depth c ≤ m → members_depth (match_ordering o a b c) ≤ m
by_order Less a b c m x y z = x
by_order Equal a b c m x y z = y
by_order Greater a b c m x y z = z

put_shallow : (k : List ℕ) (d : Data) (ms : Members) (m : ℕ) → depth d ≤ m → members_depth ms ≤ m → members_depth (put k d ms) ≤ m
put_shallow k d no_members m h g = omega (arith, h)
put_shallow k d (member l x ms) m h g =
    let later = put_shallow k d ms m h (omega (arith, g)) in
    by_order (slice_cmp nat_cmp k l) (member k d (member l x ms)) (member l d ms) (member l x (put k d ms)) m (omega (arith, h, g)) (omega (arith, h, g)) (omega (arith, later, g))

pin_shallow : (text : Bool) (p : List ℕ) (n : ℕ) (ms : Members) → members_depth ms ≤ 0 → members_depth (with_pin text p n ms) ≤ 0
pin_shallow true p n ms h = put_shallow p (whole n) ms 0 (omega arith) h
pin_shallow false p n ms h = h

pins_shallow : (n : ℕ) (ps : List (List ℕ)) (ms : Members) → members_depth ms ≤ 0 → members_depth (with_pins n ps ms) ≤ 0
pins_shallow n [] ms h = h
pins_shallow n (p ∷ ps) ms h = pins_shallow (n + 1) ps (with_pin (is_utf8 p) p n ms) (pin_shallow (is_utf8 p) p n ms h)

pub shallow : (b : BoardDef) → depth (own_dictionary b) ≤ 127
unfolding own_dictionary
shallow b =
    let pins = pins_shallow 0 b.pins no_members (omega arith) in
    omega (arith, pins)
