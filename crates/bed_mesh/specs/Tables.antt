-- The reading of a table: its first fault, or its mesh.
use Rattle.std.specs.Prelude.{◌≡◌, ℕ, ◌+◌, ◌/◌, ◌%◌, ◌==◌, ◌&&◌, ℤ, pos, negsuc, Bool, true, false, not, List, [], ◌∷◌, ◌++◌, codes, length, nat_lt, nat_le, if◌then◌else◌, zero, suc, Option, Some, None, Result, Ok, Err, unsigned_abs, option_and_then, Vec, ⊤, int_lt}
use Rattle.std.specs.List.{list_all}
use Rattle.std.specs.Str.{bytes_eq}
use Rattle.text_core.specs.Bytes.{Text}
use Rattle.text_core.specs.Lines.{lines_of}
use Rattle.text_core.specs.Numbers.{number_at}
use Rattle.text_core.specs.Words.{worded_lines}
use Rattle.plan_types.specs.declared.cause.MeshKind.{MeshKind}
use Rattle.plan_types.specs.declared.cause.MeshKind.TheVariants.{BadLine, OutOfLimit, Missing, TooLarge}
use Rattle.bed_mesh.specs.declared.fault.MeshFault.{MeshFault}
use Rattle.bed_mesh.specs.declared.fault.MeshFault.TheVariants.{At, Memory}
use Rattle.bed_mesh.specs.declared.mesh.Grid.{Grid}
use Rattle.bed_mesh.specs.declared.mesh.Mesh.{Mesh}

-- a list is empty
abbrev pub is_none : {A : Type 0} → List A → Bool
is_none [] = true
is_none (x ∷ xs) = false

-- the number that a whole word spells, in millionths
abbrev pub whole_word : ℤ × Text → Option ℤ
whole_word found = if is_none found.1 then Some found.0 else None

-- the number that a word is, in millionths, if it is one
abbrev pub word_number : Text → Option ℤ
word_number word = option_and_then whole_word (number_at 9 word)

-- the numbers of words, where each of them is one
abbrev pub before_numbers : Option ℤ → Option (List ℤ) → Option (List ℤ)
before_numbers None others = None
before_numbers (Some n) None = None
before_numbers (Some n) (Some others) = Some (n ∷ others)

-- the numbers that words are, in millionths, where each of them is one
abbrev pub word_numbers : List Text → Option (List ℤ)
word_numbers [] = Some []
word_numbers (word ∷ words) = before_numbers (word_number word) (word_numbers words)

-- the numbers of so many words
abbrev pub numbers_of : ℕ → List Text → Option (List ℤ)
numbers_of count words = if length words == count then word_numbers words else None

-- a number of whole millimetres, in millionths
abbrev pub is_whole : ℤ → Bool
is_whole n = unsigned_abs n % 1_000_000 == 0

-- a number is one of these limits or between them
abbrev pub is_between : ℤ → ℤ → ℤ → Bool
is_between low high n = not (int_lt n low) && not (int_lt high n)

-- a first line and its distance to the next within the limits
abbrev pub is_grid : ℤ → ℤ → ℤ → Bool
is_grid from step count =
    is_between (negsuc 499_999_999) (pos 500_000_000) from
    && (is_between (pos 1_000_000) (pos 500_000_000) step && is_between (pos 2_000_000) (pos 64_000_000) count)

-- the lines of a grid along one axis: the first one, the distance from one to the next, in nanometres, and
-- how many they are
abbrev pub grid_of : ℤ → ℤ → ℤ → Grid
grid_of from step count = record { from = from; step = unsigned_abs step; count = unsigned_abs count / 1_000_000 }

-- such lines, where they are within the limits
abbrev pub grid_if : ℤ → ℤ → ℤ → Option Grid
grid_if from step count = if is_grid from step count then Some (grid_of from step count) else None

-- two grids, where their counts are whole and both are within the limits
abbrev pub chosen : Bool → Option Grid → Option Grid → Result (Grid × Grid) MeshKind
chosen false x y = Err BadLine
chosen true None y = Err OutOfLimit
chosen true (Some x) None = Err OutOfLimit
chosen true (Some x) (Some y) = Ok (x, y)

-- the grids of x and y from six numbers: where each begins, its steps and its counts
abbrev pub six_grids : ℤ → ℤ → ℤ → ℤ → ℤ → ℤ → Result (Grid × Grid) MeshKind
six_grids x y dx dy nx ny = chosen (is_whole nx && is_whole ny) (grid_if x dx nx) (grid_if y dy ny)

-- the grids of x and y from the numbers of the first line
abbrev pub grids_of : Option (List ℤ) → Result (Grid × Grid) MeshKind
grids_of (Some (x ∷ y ∷ dx ∷ dy ∷ nx ∷ ny ∷ [])) = six_grids x y dx dy nx ny
grids_of other = Err BadLine

-- the first line: the word `mesh` and six numbers
abbrev pub head_of : List Text → Result (Grid × Grid) MeshKind
head_of [] = Err BadLine
head_of (word ∷ words) = if bytes_eq word (codes "mesh") then grids_of (numbers_of 6 words) else Err BadLine

-- a height within the limits
abbrev pub is_height : ℤ → Bool
is_height h = nat_le (unsigned_abs h) 5_000_000

-- heights that are all within the limits; numbers that aren't read are a bad line
abbrev pub limited : Option (List ℤ) → Result (List ℤ) MeshKind
limited None = Err BadLine
limited (Some heights) = if list_all is_height heights then Ok heights else Err OutOfLimit

-- a row of so many heights
abbrev pub height_row : ℕ → List Text → Result (List ℤ) MeshKind
height_row count words = limited (numbers_of count words)

-- heights before others, where those are read
abbrev pub heights_behind : List ℤ → Result (List ℤ) MeshFault → Result (List ℤ) MeshFault
heights_behind front (Ok heights) = Ok (front ++ heights)
heights_behind front (Err fault) = Err fault

-- a row of heights before the later rows, or the first fault
abbrev pub before_rows : ℕ → Result (List ℤ) MeshKind → Result (List ℤ) MeshFault → Result (List ℤ) MeshFault
before_rows number (Ok row) later = heights_behind row later
before_rows number (Err kind) later = Err (At number kind)

-- The heights of so many rows: each of the lines that have words is one, and there are no more of them.
abbrev pub rows_of : ℕ → ℕ → List (ℕ × List Text) → Result (List ℤ) MeshFault
rows_of count zero [] = Ok []
rows_of count zero (line ∷ lines) = Err (At line.0 BadLine)
rows_of count (suc rows) [] = Err (At 0 Missing)
rows_of count (suc rows) (line ∷ lines) = before_rows line.0 (height_row count line.1) (rows_of count rows lines)

-- a bed with these grids and these heights, or the first fault
abbrev pub with_heights : Grid × Grid → Result (List ℤ) MeshFault → Result Mesh MeshFault
with_heights grids (Ok heights) = Ok (record { x = grids.0; y = grids.1; heights = heights })
with_heights grids (Err fault) = Err fault

-- a bed by its first line and the lines below it
abbrev pub below_head : ℕ → Result (Grid × Grid) MeshKind → List (ℕ × List Text) → Result Mesh MeshFault
below_head number (Err kind) lines = Err (At number kind)
below_head number (Ok grids) lines = with_heights grids (rows_of grids.0.count grids.1.count lines)

-- a bed by the lines that have words, of which the first one tells the grids
abbrev pub table_of : List (ℕ × List Text) → Result Mesh MeshFault
table_of [] = Err (At 0 Missing)
table_of (line ∷ lines) = below_head line.0 (head_of line.1) lines

-- the mesh of a text, or its first fault; `#` begins a comment
unfoldable pub mesh_of_text : Text → Result Mesh MeshFault
mesh_of_text text =
    if nat_lt 1_048_576 (length text) then Err (At 0 TooLarge) else table_of (worded_lines 35 1 (lines_of text))

-- a reader's answer is this, but for want of memory
abbrev pub AnswersMesh : {A : Type 0} → Result A MeshFault → Result A MeshFault → Type 0
AnswersMesh (Ok value) wanted = wanted ≡ Ok value
AnswersMesh (Err Memory) wanted = ⊤
AnswersMesh (Err (At line kind)) wanted = wanted ≡ Err (At line kind)

-- a line's fault is of this kind, but for want of memory
abbrev pub IsFaultAt : {A : Type 0} → ℕ → Result A MeshKind → MeshFault → Type 0
IsFaultAt number wanted Memory = ⊤
IsFaultAt number wanted (At line kind) = (line ≡ number) × (wanted ≡ Err kind)

-- the same of a reader of rows
abbrev pub AnswersRows : {Z : Type 0} → Result (Vec ℤ Z) MeshFault → Result (List ℤ) MeshFault → Type 0
AnswersRows (Ok rows) wanted = wanted ≡ Ok rows.items
AnswersRows (Err Memory) wanted = ⊤
AnswersRows (Err (At line kind)) wanted = wanted ≡ Err (At line kind)
