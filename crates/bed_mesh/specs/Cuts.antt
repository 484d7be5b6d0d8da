-- Where the lines of a mesh cut a move.
use Rattle.std.specs.Prelude.{◌≡◌, ℕ, ◌+◌, ◌*◌, ◌<◌, ◌≤◌, ◌&&◌, ℤ, pos, negsuc, ◌+ℤ◌, ◌-ℤ◌, ◌*ℤ◌, int_lt, max, nat_lt, zero, suc, List, [], ◌∷◌, ◌++◌, map, if◌then◌else◌, slice_index_or, unsigned_abs}
use Rattle.std.specs.Int.{int_div_euclid}
use Rattle.plan_types.specs.declared.plan.Move.{Move}
use Rattle.plan_types.specs.Moves.{change}
use Rattle.bed_mesh.specs.declared.mesh.Grid.{Grid}
use Rattle.bed_mesh.specs.declared.mesh.Mesh.{Mesh}
use Rattle.bed_mesh.specs.Grids.{extent}

-- so many numbers, each greater by a step than the one before
abbrev pub rungs : ℤ → ℕ → ℕ → List ℤ
rungs first step zero = []
rungs first step (suc count) = first ∷ rungs (first +ℤ pos step) step count

-- the distances from a start to the lines of a grid, in the order in which a move to an end comes to them;
-- below 0 behind the start
abbrev pub distances : Grid → ℤ → ℤ → List ℤ
distances g start end =
    if int_lt end start then rungs (start -ℤ (g.from +ℤ pos (extent g))) g.step g.count
    else rungs (g.from -ℤ start) g.step g.count

-- the distances that lie strictly between the ends of a move of this length
abbrev pub between : ℕ → List ℤ → List ℕ
between span [] = []
between span (negsuc d ∷ ds) = between span ds
between span (pos d ∷ ds) = if nat_lt 0 d && nat_lt d span then d ∷ between span ds else between span ds

-- how far from its start a move along an axis crosses lines of a grid
abbrev pub crossings : Grid → ℤ → ℤ → List ℕ
crossings g start end = between (unsigned_abs (end -ℤ start)) (distances g start end)

-- a number at its place in a rising list; nothing, where it is there
abbrev pub placed : ℕ → List ℕ → List ℕ
placed t [] = t ∷ []
placed t (u ∷ us) = if nat_lt t u then t ∷ u ∷ us else (if nat_lt u t then u ∷ placed t us else u ∷ us)

-- the numbers of two lists, of which the second rises, in rising order, each once
abbrev pub united : List ℕ → List ℕ → List ℕ
united [] us = us
united (t ∷ ts) us = placed t (united ts us)

-- how far a move goes along an axis; 1 where it goes nowhere, and so crosses no line
abbrev pub breadth : Move → ℕ → ℕ
breadth m k = max 1 (unsigned_abs (change m k))

-- numbers of so many parts each
abbrev pub scaled : ℕ → List ℕ → List ℕ
scaled parts = map (λ d. d * parts)

-- Into how many parts a move is thought to be divided. The fraction of the move at which it crosses a line of
-- x is a distance by the change of x, and likewise of y; in these parts both are whole numbers, and their
-- order is that of the fractions.
abbrev pub part_count : Move → ℕ
part_count m = breadth m 0 * breadth m 1

-- the numbers of parts at which a move crosses lines of x or y, rising, each once
unfoldable pub cut_parts : Mesh → Move → List ℕ
cut_parts t m =
    united (scaled (breadth m 1) (crossings t.x (slice_index_or m.from 0 (pos 0)) (slice_index_or m.to 0 (pos 0))))
    (scaled (breadth m 0) (crossings t.y (slice_index_or m.from 1 (pos 0)) (slice_index_or m.to 1 (pos 0))))

-- a coordinate behind so many parts of a move: its change by then is rounded down
abbrev pub coordinate_behind : Move → ℕ → ℕ → ℤ
coordinate_behind m n k = slice_index_or m.from k (pos 0) +ℤ int_div_euclid (change m k *ℤ pos n) (pos (part_count m))

-- where a move is behind so many parts; on a line that it crosses there, its coordinate is the line's
unfoldable pub place_behind : Move → ℕ → List ℤ
place_behind m n =
    coordinate_behind m n 0 ∷ coordinate_behind m n 1 ∷ coordinate_behind m n 2 ∷ coordinate_behind m n 3 ∷ []

-- the ends of a move that is cut at each line of x or y strictly between its ends: its cuts in order, and
-- then its target
unfoldable pub cut_ends : Mesh → Move → List (List ℤ)
cut_ends t m = map (place_behind m) (cut_parts t m) ++ m.to ∷ []

-- a place is no farther from a move's start than its target, along each coordinate
pub record IsOnTheWay (m : Move) (place : List ℤ) : Type 0 where
  pub near : (k : ℕ) → k < 4 →
      unsigned_abs (slice_index_or place k (pos 0) -ℤ slice_index_or m.from k (pos 0)) ≤ unsigned_abs (change m k)
