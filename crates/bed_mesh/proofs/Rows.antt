-- Rows that are read number by number.
use Rattle.std.proofs.Common.{◌≡◌, ◌≢◌, ◌∙◌, ◌==◌, ℕ, zero, suc, ◌+◌, ◌-◌, ◌*◌, ◌<◌, ◌≤◌, Bool, true, false, cond, List, [], ◌∷◌, ◌++◌, length, refl, ap, sym, arith, append-nil, append_assoc, Option, Some, None, get_or, length-append}
use Rattle.std.specs.Prelude.{ℤ, pos}
use Rattle.std.proofs.lemmas.Bool.Decides.{nat_tests}
use Rattle.std.specs.Prelude.{Result, Ok, Err, IfOk, IfErr}
use Rattle.text_core.specs.Bytes.{Text}
use Rattle.plan_types.specs.declared.cause.MeshKind.{MeshKind}
use Rattle.bed_mesh.specs.declared.mesh.Grid.{Grid}
use Rattle.bed_mesh.specs.declared.table.Grids.{Grids}
use Rattle.bed_mesh.specs.declared.fault.MeshFault.{MeshFault}
use Rattle.bed_mesh.specs.Tables.{chosen, grids_of, six_grids, height_row, rows_of, heights_behind, before_numbers, numbers_of, word_number, word_numbers}
use Rattle.bed_mesh.specs.Taken.{IsSoFar, before_all}

joined : (front : List ℤ) (n : ℤ) (o : Option (List ℤ)) → before_all (front ++ n ∷ []) o ≡ before_all front (before_numbers (Some n) o)
joined front n None = refl
joined front n (Some ns) = ap (λ (l : List ℤ). Some l) (append_assoc front (n ∷ []) ns)

start : (o : Option (List ℤ)) → before_all [] o ≡ o
start None = refl
start (Some ns) = refl

none_before : (front : List ℤ) (n : Option ℤ) (o : Option (List ℤ)) → n ≡ None → before_all front (before_numbers n o) ≡ None
none_before front n o e = rw e refl

pub none_yet : (words : List Text) (count : ℕ) (old : List ℤ) → IsSoFar words count old old count words
none_yet words count old = record { front = []; added = sym (append-nil old); numbers = start (word_numbers words); counted = omega arith; lengths = omega arith }

pub one_more : (words : List Text) (count : ℕ) (old new newer : List ℤ) (left fewer : ℕ) (w : Text) (all rest : List Text) (n : ℤ) → all ≡ w ∷ rest → word_number w ≡ Some n → newer ≡ new ++ n ∷ [] → left ≡ fewer + 1
    → IsSoFar words count old new left all → IsSoFar words count old newer fewer rest
one_more words count old new newer left fewer w all rest n is number add less so =
    let at_words : word_numbers all ≡ before_numbers (Some n) (word_numbers rest) = rw (is, number) refl in
    let more = length-append so.front (n ∷ []) in
    let count_all : length all ≡ length rest + 1 = ap length is ∙ omega arith in
    let counted = so.counted in
    let lengths = so.lengths in
    record {
      front = so.front ++ n ∷ [];
      added = add ∙ ap (λ (l : List ℤ). l ++ n ∷ []) so.added ∙ append_assoc old so.front (n ∷ []);
      numbers = joined so.front n (word_numbers rest) ∙ ap (before_all so.front) (sym at_words) ∙ so.numbers;
      counted = omega arith;
      lengths = omega arith;
    }

none_of : (words : List Text) (count : ℕ) → word_numbers words ≡ None → numbers_of count words ≡ None
none_of words count e = go (length words == count)
  where
    go : (b : Bool) → cond b (word_numbers words) None ≡ None
    go true = e
    go false = refl

pub no_number : (words : List Text) (count : ℕ) (old new : List ℤ) (left : ℕ) (w : Text) (all rest : List Text) → all ≡ w ∷ rest → word_number w ≡ None → IsSoFar words count old new left all → numbers_of count words ≡ None
no_number words count old new left w all rest is none so =
    let at_words : word_numbers all ≡ before_numbers (word_number w) (word_numbers rest) = rw is refl in
    none_of words count (sym so.numbers ∙ ap (before_all so.front) at_words ∙ none_before so.front (word_number w) (word_numbers rest) none)

other_count : (words : List Text) (count : ℕ) → length words ≢ count → numbers_of count words ≡ None
other_count words count other = let no : (length words == count) ≡ false = grind (arith, nat_tests) in rw no refl

pub too_many : (words : List Text) (count : ℕ) (old new : List ℤ) (left : ℕ) (w : Text) (all rest : List Text) → all ≡ w ∷ rest → left ≡ 0 → IsSoFar words count old new left all → numbers_of count words ≡ None
too_many words count old new left w all rest is none so =
    let count_all : length all ≡ length rest + 1 = ap length is ∙ omega arith in
    let counted = so.counted in
    let lengths = so.lengths in
    other_count words count (λ e. absurd (omega arith))

pub too_few : (words : List Text) (count : ℕ) (old new : List ℤ) (left : ℕ) (all : List Text) → all ≡ [] → left ≢ 0 → IsSoFar words count old new left all → numbers_of count words ≡ None
too_few words count old new left all is some so =
    let count_all : length all ≡ 0 = ap length is in
    let counted = so.counted in
    let lengths = so.lengths in
    other_count words count (λ e. some (omega arith))

pub all_there : (words : List Text) (count : ℕ) (old new : List ℤ) (left : ℕ) (all : List Text) → all ≡ [] → left ≡ 0 → IsSoFar words count old new left all
    → (numbers : List ℤ) × (numbers_of count words ≡ Some numbers) × (new ≡ old ++ numbers)
all_there words count old new left all is none so =
    let count_all : length all ≡ 0 = ap length is in
    let counted = so.counted in
    let lengths = so.lengths in
    let yes : (length words == count) ≡ true = (let e : length words ≡ count = omega arith in grind (arith, nat_tests)) in
    let numbers : word_numbers words ≡ Some (so.front ++ []) = sym so.numbers ∙ ap (λ (l : List Text). before_all so.front (word_numbers l)) is in
    (so.front, rw (yes, numbers, append-nil) refl, so.added)

fronts : (front row : List ℤ) (r : Result (List ℤ) MeshFault) → heights_behind (front ++ row) r ≡ heights_behind front (heights_behind row r)
fronts front row (Ok heights) = ap (λ (l : List ℤ). Ok l) (append_assoc front row heights)
fronts front row (Err fault) = refl

-- one row more
pub row_more : (count left fewer number : ℕ) (front new row : List ℤ) (ws : List Text) (lines later : List (ℕ × List Text)) → left ≡ fewer + 1 → height_row count ws ≡ Ok row → new ≡ front ++ row → lines ≡ (number, ws) ∷ later
    → heights_behind new (rows_of count fewer later) ≡ heights_behind front (rows_of count left lines)
row_more count left fewer number front new row ws lines later less is add lines_are =
    let one : left ≡ suc fewer = omega arith in
    rw (add, lines_are, one, is) (fronts front row (rows_of count fewer later))

-- six numbers, one by one
pub six_of : (xs : List ℤ) → 6 ≤ length xs → length xs < 7
    → grids_of (Some xs) ≡ six_grids (get_or xs 0 (pos 0)) (get_or xs 1 (pos 0)) (get_or xs 2 (pos 0)) (get_or xs 3 (pos 0)) (get_or xs 4 (pos 0)) (get_or xs 5 (pos 0))
six_of [] low high = absurd (omega arith)
six_of (a ∷ []) low high = absurd (omega arith)
six_of (a ∷ b ∷ []) low high = absurd (omega arith)
six_of (a ∷ b ∷ c ∷ []) low high = absurd (omega arith)
six_of (a ∷ b ∷ c ∷ d ∷ []) low high = absurd (omega arith)
six_of (a ∷ b ∷ c ∷ d ∷ e ∷ []) low high = absurd (omega arith)
six_of (a ∷ b ∷ c ∷ d ∷ e ∷ f ∷ []) low high = refl
six_of (a ∷ b ∷ c ∷ d ∷ e ∷ f ∷ g ∷ rest) low high = absurd (omega arith)

pub chosen_same : (w v : Bool) (x y : Option Grid) (z t : Option Grid) → w ≡ v → x ≡ y → z ≡ t → chosen w x z ≡ chosen v y t
chosen_same w v x y z t e f g = rw (e, f, g) refl

pub same_ok : (r : Result Grids MeshKind) (a b : Result (Grid × Grid) MeshKind) → a ≡ b → IfOk r (λ g. a ≡ Ok (g.x, g.y)) → IfOk r (λ g. b ≡ Ok (g.x, g.y))
same_ok (Ok g) a b e h = sym e ∙ h
same_ok (Err k) a b e h = h

pub same_err : (r : Result Grids MeshKind) (a b : Result (Grid × Grid) MeshKind) → a ≡ b → IfErr r (λ k. a ≡ Err k) → IfErr r (λ k. b ≡ Err k)
same_err (Ok g) a b e h = h
same_err (Err k) a b e h = sym e ∙ h

pub six_same : (a b c d e f x y z t u v : ℤ) → a ≡ x → b ≡ y → c ≡ z → d ≡ t → e ≡ u → f ≡ v → six_grids a b c d e f ≡ six_grids x y z t u v
six_same a b c d e f x y z t u v p q r s m n = cc

pub all_counted : (words : List Text) (count : ℕ) (old new : List ℤ) (left : ℕ) (all : List Text) → left ≡ 0 → IsSoFar words count old new left all → length new ≡ length old + count
all_counted words count old new left all none so = let more = length-append old so.front in let sizes = ap length so.added in let counted = so.counted in omega arith

-- how many heights there are
pub row_count : (n m c left total : ℕ) → 0 < left → n + c * left ≡ total → m ≡ n + c → m + c * (left - 1) ≡ total
row_count n m c zero total some is more = absurd (omega arith)
row_count n m c (suc fewer) total some is more = let e : suc fewer - 1 ≡ fewer = omega arith in rw e (omega arith)

pub all_rows : (n c left total : ℕ) → left ≤ 0 → n + c * left ≡ total → n ≡ total
all_rows n c zero total none is = omega arith
all_rows n c (suc fewer) total none is = absurd (omega arith)
