-- The G-code of a load that is made from a seed: moves between places that a generator of numbers gives.
use Rattle.std.specs.Prelude.{ℕ, ◌+◌, ◌*◌, ◌/◌, ◌%◌, ◌^◌, List, [], ◌∷◌, ◌++◌, codes, decimal, zero, suc}

-- one step of the generator, a linear congruence modulo 2^64
abbrev pub next_random : ℕ → ℕ
next_random x = (x * 6_364_136_223_846_793_005 + 1_442_695_040_888_963_407) % 2 ^ 64

-- its upper 31 bits, of which the places are made
abbrev pub upper : ℕ → ℕ
upper x = x / 2 ^ 33

-- the decimal digit of a number below ten
abbrev pub digit : ℕ → ℕ
digit n = 48 + n

-- micrometres as millimetres with three decimals
abbrev pub millimetres : ℕ → List ℕ
millimetres n = decimal (n / 1_000) ++ 46 ∷ digit (n / 100 % 10) ∷ digit (n / 10 % 10) ∷ digit (n % 10) ∷ []

-- the line of a move, by a number: x and y are from 0 to 200 mm
abbrev pub move_line : ℕ → List ℕ
move_line u =
    codes "G1 X" ++ (millimetres (u % 200_001) ++ (codes " Y" ++ (millimetres (u / 200_001 % 200_001) ++ codes "\n")))

-- so many moves behind a state of the generator
abbrev pub load_moves : ℕ → ℕ → List ℕ
load_moves zero x = []
load_moves (suc n) x = move_line (upper (next_random x)) ++ load_moves n (next_random x)

-- the first line: the speed is 100 mm/s
abbrev pub first_line : List ℕ
first_line = codes "G1 F6000\n"

-- the text of a load of so many moves from a seed
unfoldable pub load_text : ℕ → ℕ → List ℕ
load_text seed moves = first_line ++ load_moves moves seed
