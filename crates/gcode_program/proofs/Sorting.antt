-- What is told of sections tells the sections.
use Rattle.std.proofs.Common.{◌≡◌, ℕ, List, [], ◌∷◌, ◌++◌, refl, ap, sym, ◌∙◌, append_assoc}
use Rattle.plan_types.specs.declared.plan.Move.{Move}
use Rattle.plan_types.specs.declared.plan.Section.{Section}
use Rattle.plan_types.specs.declared.plan.SectionKind.{SectionKind}
use Rattle.gcode_program.specs.declared.items.Item.{Item}
use Rattle.gcode_program.specs.declared.items.Item.TheVariants as items
use Rattle.gcode_program.specs.Items.{items_in, items_of, moves_in}
use Rattle.gcode_program.specs.Readers.{section_with}

-- the moves of two sections of which the same is told
pub record AreSame (ms ns : List Move) (xs ys : List Item) : Type 0 where
  pub moves : ms ≡ ns
  pub rest : xs ≡ ys

cons-same : (x : Move) (y : Move) (xs ys : List Move) → x ≡ y → xs ≡ ys → x ∷ xs ≡ y ∷ ys
cons-same x y xs ys a b = ap (λ z. z ∷ xs) a ∙ ap (λ zs. y ∷ zs) b

same_moves : (ms ns : List Move) (xs ys : List Item) → moves_in ms ++ items.End ∷ xs ≡ moves_in ns ++ items.End ∷ ys → AreSame ms ns xs ys
same_moves [] [] xs ys e = record { moves = refl; rest = cc }
same_moves [] (n ∷ ns) xs ys e = absurd (clash e)
  where
    clash : items.End ∷ xs ≡ items.Move n ∷ (moves_in ns ++ items.End ∷ ys) → ⊥
    clash p = cc
same_moves (m ∷ ms) [] xs ys e = absurd (clash e)
  where
    clash : items.Move m ∷ (moves_in ms ++ items.End ∷ xs) ≡ items.End ∷ ys → ⊥
    clash p = cc
same_moves (m ∷ ms) (n ∷ ns) xs ys e =
    let r = same_moves ms ns xs ys (tails e) in
    record { moves = cons-same m n ms ns (heads e) r.moves; rest = r.rest }
  where
    heads : items.Move m ∷ (moves_in ms ++ items.End ∷ xs) ≡ items.Move n ∷ (moves_in ns ++ items.End ∷ ys) → m ≡ n
    heads p = cc

    tails : items.Move m ∷ (moves_in ms ++ items.End ∷ xs) ≡ items.Move n ∷ (moves_in ns ++ items.End ∷ ys) → moves_in ms ++ items.End ∷ xs ≡ moves_in ns ++ items.End ∷ ys
    tails p = cc

-- a section that is told whole
same_section : (s t : Section) (xs ys : List Item) → items_in s ++ xs ≡ items_in t ++ ys → (s ≡ t) × (xs ≡ ys)
same_section s t xs ys e =
    let a : items_in s ++ xs ≡ items.Begin s.kind s.dwell ∷ (moves_in s.moves ++ items.End ∷ xs) = ap (λ is. items.Begin s.kind s.dwell ∷ is) (append_assoc (moves_in s.moves) (items.End ∷ []) xs) in
    let b : items_in t ++ ys ≡ items.Begin t.kind t.dwell ∷ (moves_in t.moves ++ items.End ∷ ys) = ap (λ is. items.Begin t.kind t.dwell ∷ is) (append_assoc (moves_in t.moves) (items.End ∷ []) ys) in
    let same = sym a ∙ e ∙ b in
    let r = same_moves s.moves t.moves xs ys (tails same) in
    (made (kinds same) (dwells same) r.moves, r.rest)
  where
    kinds : items.Begin s.kind s.dwell ∷ (moves_in s.moves ++ items.End ∷ xs) ≡ items.Begin t.kind t.dwell ∷ (moves_in t.moves ++ items.End ∷ ys) → s.kind ≡ t.kind
    kinds p = cc

    dwells : items.Begin s.kind s.dwell ∷ (moves_in s.moves ++ items.End ∷ xs) ≡ items.Begin t.kind t.dwell ∷ (moves_in t.moves ++ items.End ∷ ys) → s.dwell ≡ t.dwell
    dwells p = cc

    tails : items.Begin s.kind s.dwell ∷ (moves_in s.moves ++ items.End ∷ xs) ≡ items.Begin t.kind t.dwell ∷ (moves_in t.moves ++ items.End ∷ ys) → moves_in s.moves ++ items.End ∷ xs ≡ moves_in t.moves ++ items.End ∷ ys
    tails p = cc

    made : s.kind ≡ t.kind → s.dwell ≡ t.dwell → s.moves ≡ t.moves → s ≡ t
    made p q r = ap (λ k. section_with k s.moves s.dwell) p ∙ ap (λ ms. section_with t.kind ms s.dwell) r ∙ ap (section_with t.kind t.moves) q

-- the sections that are told whole are the first ones
pub told_front : (done ss : List Section) (rest : List Item) → items_of ss ≡ items_of done ++ rest → (others : List Section) × (ss ≡ done ++ others) × (items_of others ≡ rest)
told_front [] ss rest e = (ss, refl, e)
told_front (d ∷ done) [] rest e = absurd (clash e)
  where
    clash : [] ≡ items_of (d ∷ done) ++ rest → ⊥
    clash p = cc
told_front (d ∷ done) (s ∷ ss) rest e =
    let r = same_section s d (items_of ss) (items_of done ++ rest) (e ∙ append_assoc (items_in d) (items_of done) rest) in
    let later = told_front done ss rest r.1 in
    (later.0, ap (λ x. x ∷ ss) r.0 ∙ ap (λ xs. d ∷ xs) later.1, later.2)

-- the moves of a section that is told so far
first_moves : (ms ns : List Move) (xs ys : List Item) → moves_in ns ++ items.End ∷ ys ≡ moves_in ms ++ xs → (last : List Move) × (ns ≡ ms ++ last)
first_moves [] ns xs ys e = (ns, refl)
first_moves (m ∷ ms) [] xs ys e = absurd (clash e)
  where
    clash : items.End ∷ ys ≡ items.Move m ∷ (moves_in ms ++ xs) → ⊥
    clash p = cc
first_moves (m ∷ ms) (n ∷ ns) xs ys e =
    let r = first_moves ms ns xs ys (tails e) in
    (r.0, cons-same n m ns (ms ++ r.0) (heads e) r.1)
  where
    heads : items.Move n ∷ (moves_in ns ++ items.End ∷ ys) ≡ items.Move m ∷ (moves_in ms ++ xs) → n ≡ m
    heads p = cc

    tails : items.Move n ∷ (moves_in ns ++ items.End ∷ ys) ≡ items.Move m ∷ (moves_in ms ++ xs) → moves_in ns ++ items.End ∷ ys ≡ moves_in ms ++ xs
    tails p = cc

-- the section that has begun
pub told_open : (others : List Section) (kind : SectionKind) (dwell : ℕ) (moves : List Move) (rest : List Item) → items_of others ≡ items.Begin kind dwell ∷ (moves_in moves ++ rest) → (last : List Move) × (later : List Section) × (others ≡ section_with kind (moves ++ last) dwell ∷ later)
told_open [] kind dwell moves rest e = absurd (clash e)
  where
    clash : [] ≡ items.Begin kind dwell ∷ (moves_in moves ++ rest) → ⊥
    clash p = cc
told_open (s ∷ later) kind dwell moves rest e =
    let a : items_of (s ∷ later) ≡ items.Begin s.kind s.dwell ∷ (moves_in s.moves ++ items.End ∷ items_of later) = ap (λ is. items.Begin s.kind s.dwell ∷ is) (append_assoc (moves_in s.moves) (items.End ∷ []) (items_of later)) in
    let same = sym a ∙ e in
    let r = first_moves moves s.moves rest (items_of later) (tails same) in
    (r.0, later, ap (λ x. x ∷ later) (ap (λ k. section_with k s.moves s.dwell) (kinds same) ∙ ap (λ ms. section_with kind ms s.dwell) r.1 ∙ ap (section_with kind (moves ++ r.0)) (dwells same)))
  where
    kinds : items.Begin s.kind s.dwell ∷ (moves_in s.moves ++ items.End ∷ items_of later) ≡ items.Begin kind dwell ∷ (moves_in moves ++ rest) → s.kind ≡ kind
    kinds p = cc

    dwells : items.Begin s.kind s.dwell ∷ (moves_in s.moves ++ items.End ∷ items_of later) ≡ items.Begin kind dwell ∷ (moves_in moves ++ rest) → s.dwell ≡ dwell
    dwells p = cc

    tails : items.Begin s.kind s.dwell ∷ (moves_in s.moves ++ items.End ∷ items_of later) ≡ items.Begin kind dwell ∷ (moves_in moves ++ rest) → moves_in s.moves ++ items.End ∷ items_of later ≡ moves_in moves ++ rest
    tails p = cc
