-- The parts of moves, one behind the other.
use Rattle.std.proofs.Common.{◌≡◌, ℕ, ◌+◌, ◌<◌, ◌≤◌, Bool, true, false, cond, eqb, List, [], ◌∷◌, ◌++◌, length, map, drop, get_or, refl, ap, sym, ◌∙◌, arith, append_assoc}
use Rattle.std.proofs.lemmas.List.{drop_more, drop_all, append-nil, map-append}
use Rattle.std.proofs.lemmas.Bool.Decides.{nat_tests}
use Rattle.plan_types.specs.declared.plan.Move.{Move}
use Rattle.plan_types.specs.declared.plan.Part.{Part}
use Rattle.plan_types.specs.declared.plan.Segment.{Segment}
use Rattle.plan_types.specs.Machines.{no_move}
use Rattle.plan_types.specs.Parts.{parts}
use Rattle.plan_types.specs.Sections.{TimedPart, duration, end_time, timed, timed_moves}
use Rattle.section_plan.specs.Runs.{part_at}

-- the first part of a list, where it has no distance and where it has some
cond-true : {X : Type 0} (b : Bool) (x y : X) → b ≡ true → cond b x y ≡ x
cond-true b x y e = rw e refl

cond-false : {X : Type 0} (b : Bool) (x y : X) → b ≡ false → cond b x y ≡ y
cond-false b x y e = rw e refl

pub timed-none : (m : Move) (before begin : ℕ) (p : Part) (ps : List Part) → p.d ≡ 0 → timed m before begin (p ∷ ps) ≡ timed m (before + p.d) (begin + p.ns) ps
timed-none m before begin p ps none = let e : eqb p.d 0 ≡ true = grind (arith, nat_tests) in cond-true (eqb p.d 0) (timed m (before + p.d) (begin + p.ns) ps) (part_at m p before begin ∷ timed m (before + p.d) (begin + p.ns) ps) e

pub timed-some : (m : Move) (before begin : ℕ) (p : Part) (ps : List Part) → 0 < p.d → timed m before begin (p ∷ ps) ≡ part_at m p before begin ∷ timed m (before + p.d) (begin + p.ns) ps
timed-some m before begin p ps some = let e : eqb p.d 0 ≡ false = grind (arith, nat_tests) in cond-false (eqb p.d 0) (timed m (before + p.d) (begin + p.ns) ps) (part_at m p before begin ∷ timed m (before + p.d) (begin + p.ns) ps) e

-- one more move
moves-step : (cruise : ℕ) (left ms : List Move) (speeds behind rest : List ℕ) (m : Move) (g h begin : ℕ) → left ≡ m ∷ ms → speeds ≡ g ∷ behind → behind ≡ h ∷ rest → timed_moves cruise left speeds begin ≡ timed m 0 begin (parts m g h cruise) ++ timed_moves cruise ms behind (begin + duration (parts m g h cruise))
moves-step cruise left ms speeds behind rest m g h begin one two three = rw (one, two, three) refl

end-step : (cruise : ℕ) (left ms : List Move) (speeds behind rest : List ℕ) (m : Move) (g h begin : ℕ) → left ≡ m ∷ ms → speeds ≡ g ∷ behind → behind ≡ h ∷ rest → end_time cruise left speeds begin ≡ end_time cruise ms behind (begin + duration (parts m g h cruise))
end-step cruise left ms speeds behind rest m g h begin one two three = rw (one, two, three) refl

pub timed_moves-next : (cruise : ℕ) (moves : List Move) (speeds : List ℕ) (i begin : ℕ) → i < length moves → length speeds ≡ length moves + 1 → timed_moves cruise (drop i moves) (drop i speeds) begin ≡ timed (get_or moves i no_move) 0 begin (parts (get_or moves i no_move) (get_or speeds i 0) (get_or speeds (i + 1) 0) cruise) ++ timed_moves cruise (drop (i + 1) moves) (drop (i + 1) speeds) (begin + duration (parts (get_or moves i no_move) (get_or speeds i 0) (get_or speeds (i + 1) 0) cruise))
timed_moves-next cruise moves speeds i begin h count =
    moves-step cruise (drop i moves) (drop (i + 1) moves) (drop i speeds) (drop (i + 1) speeds) (drop (i + 1 + 1) speeds) (get_or moves i no_move) (get_or speeds i 0) (get_or speeds (i + 1) 0) begin
    (drop_more moves i no_move h) (drop_more speeds i 0 (omega arith)) (drop_more speeds (i + 1) 0 (omega arith))

pub end_time-next : (cruise : ℕ) (moves : List Move) (speeds : List ℕ) (i begin : ℕ) → i < length moves → length speeds ≡ length moves + 1 → end_time cruise (drop i moves) (drop i speeds) begin ≡ end_time cruise (drop (i + 1) moves) (drop (i + 1) speeds) (begin + duration (parts (get_or moves i no_move) (get_or speeds i 0) (get_or speeds (i + 1) 0) cruise))
end_time-next cruise moves speeds i begin h count =
    end-step cruise (drop i moves) (drop (i + 1) moves) (drop i speeds) (drop (i + 1) speeds) (drop (i + 1 + 1) speeds) (get_or moves i no_move) (get_or speeds i 0) (get_or speeds (i + 1) 0) begin
    (drop_more moves i no_move h) (drop_more speeds i 0 (omega arith)) (drop_more speeds (i + 1) 0 (omega arith))

-- no more moves
timed_moves-none : (cruise : ℕ) (left : List Move) (speeds : List ℕ) (begin : ℕ) → left ≡ [] → timed_moves cruise left speeds begin ≡ []
timed_moves-none cruise left speeds begin none = rw none refl

end_time-none : (cruise : ℕ) (left : List Move) (speeds : List ℕ) (begin : ℕ) → left ≡ [] → end_time cruise left speeds begin ≡ begin
end_time-none cruise left speeds begin none = rw none refl

pub timed_moves-over : (cruise : ℕ) (moves : List Move) (speeds : List ℕ) (i begin : ℕ) → length moves ≤ i → timed_moves cruise (drop i moves) speeds begin ≡ []
timed_moves-over cruise moves speeds i begin over = timed_moves-none cruise (drop i moves) speeds begin (drop_all i moves over)

pub end_time-over : (cruise : ℕ) (moves : List Move) (speeds : List ℕ) (i begin : ℕ) → length moves ≤ i → end_time cruise (drop i moves) speeds begin ≡ begin
end_time-over cruise moves speeds i begin over = end_time-none cruise (drop i moves) speeds begin (drop_all i moves over)

-- segments that are made behind others, and those that follow
pub made-more : (F : TimedPart → Segment) (made new : List Segment) (all here rest : List TimedPart) (whole : List Segment) → made ++ map F all ≡ whole → all ≡ here ++ rest → new ≡ made ++ map F here → new ++ map F rest ≡ whole
made-more F made new all here rest whole h split is = rw (is, append_assoc, ← map-append) (rw split at h)

pub made-all : (F : TimedPart → Segment) (made : List Segment) (rest : List TimedPart) (whole : List Segment) → made ++ map F rest ≡ whole → rest ≡ [] → made ≡ whole
made-all F made rest whole h none = sym (append-nil made) ∙ sym (ap (λ ts. made ++ map F ts) none) ∙ h

-- the segments of one more move
pub segments-more : (F : TimedPart → Segment) (cruise : ℕ) (moves : List Move) (speeds : List ℕ) (i time dur : ℕ) (made new : List Segment) (ps : List Part) (whole : List Segment) → i < length moves → length speeds ≡ length moves + 1 → made ++ map F (timed_moves cruise (drop i moves) (drop i speeds) time) ≡ whole → ps ≡ parts (get_or moves i no_move) (get_or speeds i 0) (get_or speeds (i + 1) 0) cruise → dur ≡ duration ps → new ≡ made ++ map F (timed (get_or moves i no_move) 0 time ps) → new ++ map F (timed_moves cruise (drop (i + 1) moves) (drop (i + 1) speeds) (time + dur)) ≡ whole
segments-more F cruise moves speeds i time dur made new ps whole h count before is takes adds =
    let next = timed_moves-next cruise moves speeds i time h count in
    let split : timed_moves cruise (drop i moves) (drop i speeds) time ≡ timed (get_or moves i no_move) 0 time ps ++ timed_moves cruise (drop (i + 1) moves) (drop (i + 1) speeds) (time + duration ps) = rw is next in
    rw takes (made-more F made new (timed_moves cruise (drop i moves) (drop i speeds) time) (timed (get_or moves i no_move) 0 time ps) (timed_moves cruise (drop (i + 1) moves) (drop (i + 1) speeds) (time + duration ps)) whole before split adds)
