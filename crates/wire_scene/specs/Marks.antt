-- The last number on each line, or the last tick of each pin, as a table of 8 boards with 256 places each.
use Rattle.std.specs.Prelude.{◌≡◌, ℕ, ◌+◌, ◌*◌, ◌<◌, ◌==◌, ◌&&◌, Bool, List, Option, Some, None, if◌then◌else◌, option_map, replicate, get_or}
use Rattle.wire_scene.specs.Scenes.{last_where}

-- the place of a board's mark in the table
abbrev pub mark_place : ℕ → ℕ → ℕ
mark_place board place = 256 * board + place

-- the mark of a place on a board
abbrev pub marked : List (Option ℕ) → ℕ → ℕ → Option ℕ
marked marks board place = get_or marks (mark_place board place) None

-- the table without a mark
unfoldable pub no_marks : List (Option ℕ)
no_marks = replicate 2048 None

-- one mark is set, and the others stay
abbrev pub SetsMark : List (Option ℕ) → List (Option ℕ) → ℕ → ℕ → ℕ → Type 0
SetsMark old new board place mark =
    (b p : ℕ) → p < 256 → marked new b p ≡ (if (board == b) && (place == p) then Some mark else marked old b p)

-- Each place has the mark of the last element that is there.
abbrev pub Remember : {A : Type 0} → (ℕ → ℕ → A → Bool) → (A → ℕ) → List (Option ℕ) → List A → Type 0
Remember is_at mark marks xs =
    (board place : ℕ) → board < 8 → place < 256 →
    marked marks board place ≡ option_map mark (last_where (is_at board place) xs)
