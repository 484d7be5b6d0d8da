-- What is found in the bytes of a block is the block.
use Rattle.std.proofs.Common.{◌≡◌, ℕ, ◌+◌, ◌<◌, ◌≤◌, List, [], ◌∷◌, length, refl, ap, sym, arith, append-nil, length-append}
use Rattle.std.specs.Prelude.{Bool, false}
use Rattle.block_frame.specs.Block.{block_text}
use Rattle.block_frame.specs.Scan.{IsBlock}
use Rattle.block_frame.specs.Scanned.{Scans}
use Rattle.block_frame.specs.Stream.{block_in}
use Rattle.block_frame.specs.declared.Found.{Found}
use Rattle.block_frame.specs.declared.Found.TheVariants.{Block, Skip, NeedMore, Bad}
use Rattle.block_frame.proofs.Pieces.{scan_once}
use Rattle.board_world.specs.Stands.{IsFound, IsSmall}
use Rattle.block_frame.proofs.Changed.{text_length}

abbrev One : ℕ → List ℕ → List (ℕ × List ℕ)
One n content = (n, content) ∷ []

number_in : List (ℕ × List ℕ) → ℕ
number_in [] = 0
number_in (x ∷ xs) = x.0

content_in : List (ℕ × List ℕ) → List ℕ
content_in [] = []
content_in (x ∷ xs) = x.1

one_block : (k n : ℕ) (c content : List ℕ) → One k c ≡ One n content → (k ≡ n) × (c ≡ content)
unfolding number_in content_in
one_block k n c content e = (ap number_in e, ap content_in e)

no_block : (n : ℕ) (content : List ℕ) → [] ≡ One n content → ⊥
no_block n content e = cc

is_found : (f : Found) (n : ℕ) (content : List ℕ) → block_in f ≡ One n content → IsFound f n content
is_found (Block k c) n content e = one_block k n c.items content e
is_found Skip n content e = no_block n content e
is_found NeedMore n content e = no_block n content e
is_found Bad n content e = no_block n content e

pub found_is : (n : ℕ) (content : List ℕ) (f : Found) (count : ℕ) (drops : Bool) {size : ℕ} → n < 16 → size ≡ length (block_text n content) → size ≤ 64
    → Scans false (block_text n content) f count drops → IsFound f n content
found_is n content f count drops {size} small same fits s =
    let short : length content ≤ 59 = omega (arith, same, fits, text_length n content) in
    let block : IsBlock n content (block_text n content) = record { small = small; fits = short; after = ([], sym (append-nil (block_text n content))) } in
    let own : Found = Block n record { items = content } in
    let there : Scans false (block_text n content) own (length content + 5) false = (block, refl, refl) in
    is_found f n content (scan_once false (block_text n content) f own count (length content + 5) drops false s there).0

pub found_small : (bytes : List ℕ) (f : Found) (count : ℕ) (drops : Bool) → Scans false bytes f count drops → IsSmall f
found_small bytes (Block n c) count drops s = s.0.small
found_small bytes Skip count drops s = tt
found_small bytes NeedMore count drops s = tt
found_small bytes Bad count drops s = tt
