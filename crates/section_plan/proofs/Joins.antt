-- The greatest speeds are those that the moves between them can have.
use Rattle.std.proofs.Common.{◌≡◌, ℕ, zero, suc, ◌+◌, ◌*◌, ◌<◌, ◌≤◌, Bool, true, false, cond, eqb, List, [], ◌∷◌, ◌++◌, length, map, get_or, arith, add-one, ◌||◌}
use Rattle.std.proofs.lemmas.List.{get_or-map, length-map}
use Rattle.plan_types.specs.declared.plan.Move.{Move}
use Rattle.plan_types.specs.Machines.{no_move}
use Rattle.plan_types.specs.Moves.{squared_distance}
use Rattle.plan_types.specs.Speeds.{AreWithinCaps, caps, later_caps, corner_cap, bend_cap, junction_cap, least_limit, half_sine, half_cosine, speed_change}
use Rattle.plan_types.proofs.Lowest.{least_of-below}
use Rattle.lookahead.proofs.Caps.{length-caps}
use Rattle.section_plan.specs.Runs.{IsJoined}

limit-first : (m n : Move) (scv s c : ℕ) → least_limit m n scv s c ≤ m.v * m.v
limit-first m n scv s c = least_of-below (m.v * m.v ∷ n.v * n.v ∷ corner_cap scv s ++ bend_cap s c m ++ bend_cap s c n) (m.v * m.v) 0 (omega arith) (omega arith)

limit-second : (m n : Move) (scv s c : ℕ) → least_limit m n scv s c ≤ n.v * n.v
limit-second m n scv s c = least_of-below (m.v * m.v ∷ n.v * n.v ∷ corner_cap scv s ++ bend_cap s c m ++ bend_cap s c n) (n.v * n.v) 1 (omega arith) (omega arith)

none-or : (b : Bool) (x k : ℕ) → x ≤ k → cond b 0 x ≤ k
none-or true x k h = omega arith
none-or false x k h = h

junction-first : (m n : Move) (scv : ℕ) → junction_cap m n scv ≤ m.v * m.v
unfolding junction_cap
junction-first m n scv = none-or (eqb (squared_distance m) 0 || eqb (squared_distance n) 0) (least_limit m n scv (half_sine m n) (half_cosine m n)) (m.v * m.v) (limit-first m n scv (half_sine m n) (half_cosine m n))

junction-second : (m n : Move) (scv : ℕ) → junction_cap m n scv ≤ n.v * n.v
unfolding junction_cap
junction-second m n scv = none-or (eqb (squared_distance m) 0 || eqb (squared_distance n) 0) (least_limit m n scv (half_sine m n) (half_cosine m n)) (n.v * n.v) (limit-second m n scv (half_sine m n) (half_cosine m n))

later-end : (moves : List Move) (scv i : ℕ) (d : Move) → i < length moves → get_or (later_caps moves scv) i 0 ≤ (get_or moves i d).v * (get_or moves i d).v
later-end [] scv i d h = absurd (omega arith)
later-end (m ∷ []) scv zero d h = omega arith
later-end (m ∷ []) scv (suc i) d h = absurd (omega arith)
later-end (m ∷ n ∷ moves) scv zero d h = junction-first m n scv
later-end (m ∷ n ∷ moves) scv (suc i) d h = later-end (n ∷ moves) scv i d (omega arith)

later-start : (moves : List Move) (scv i : ℕ) (d : Move) → suc i < length moves → get_or (later_caps moves scv) i 0 ≤ (get_or moves (suc i) d).v * (get_or moves (suc i) d).v
later-start [] scv i d h = absurd (omega arith)
later-start (m ∷ []) scv i d h = absurd (omega arith)
later-start (m ∷ n ∷ moves) scv zero d h = junction-second m n scv
later-start (m ∷ n ∷ moves) scv (suc i) d h = later-start (n ∷ moves) scv i d (omega arith)

start-cap : (moves : List Move) (scv i : ℕ) (d : Move) → i < length moves → get_or (caps moves scv) i 0 ≤ (get_or moves i d).v * (get_or moves i d).v
start-cap moves scv zero d h = omega arith
start-cap moves scv (suc i) d h = later-start moves scv i d h

end-cap : (moves : List Move) (scv i : ℕ) (d : Move) → i < length moves → get_or (caps moves scv) (i + 1) 0 ≤ (get_or moves i d).v * (get_or moves i d).v
end-cap moves scv i d h = rw add-one (later-end moves scv i d h)

pub joined : (moves : List Move) (scv : ℕ) (speeds : List ℕ) (i : ℕ) → AreWithinCaps (caps moves scv) (map speed_change moves) speeds → i < length moves → IsJoined (get_or moves i no_move) (get_or speeds i 0) (get_or speeds (i + 1) 0)
joined moves scv speeds i within h =
    let count = length-caps moves scv in
    let start = within.within i (omega arith) in
    let end = within.within (i + 1) (omega arith) in
    let start_most = start-cap moves scv i no_move h in
    let end_most = end-cap moves scv i no_move h in
    let apart = within.apart i (let l : length (map speed_change moves) ≡ length moves = length-map moves speed_change in omega arith) in
    let change : get_or (map speed_change moves) i 0 ≡ speed_change (get_or moves i no_move) = get_or-map speed_change moves i no_move 0 h in
    record { start_below = omega arith; end_below = omega arith; apart = omega arith }
