-- The clock lines that lines of a log tell, one line more, where it has no further ones.
use Rattle.std.proofs.Common.{◌≡◌, ℕ, List, [], ◌∷◌, ◌++◌, ap, refl}
use Rattle.laws_board.proofs.Names.{Machine, Clocks, one_line}
use Rattle.log_text.specs.declared.line.LogLine.{LogLine}
use Rattle.log_text.specs.declared.line.LogLine.TheVariants as line
use Rattle.log_check.specs.Behind.{clocks, told_line}

pub clocks-append : (m : Machine) (xs : List LogLine) (b turn tick : ℕ) → clocks m [] (xs ++ line.Board b turn tick ∷ []) ≡ one_line (told_line m b turn tick) ∷ clocks m [] xs
clocks-append m [] b turn tick = refl
clocks-append m (line.Board c t k ∷ xs) b turn tick = ap (λ (l : List Clocks). l ++ one_line (told_line m c t k) ∷ []) (clocks-append m xs b turn tick)
clocks-append m (line.Line c t k from ∷ xs) b turn tick = clocks-append m xs b turn tick
clocks-append m (line.Section i t kind ∷ xs) b turn tick = clocks-append m xs b turn tick
clocks-append m (line.Note ∷ xs) b turn tick = clocks-append m xs b turn tick
clocks-append m (line.Pulse s t up ∷ xs) b turn tick = clocks-append m xs b turn tick
clocks-append m (line.Cut i ∷ xs) b turn tick = clocks-append m xs b turn tick
clocks-append m (line.End ∷ xs) b turn tick = clocks-append m xs b turn tick

pub clocks-note : (m : Machine) (xs : List LogLine) → clocks m [] (xs ++ line.Note ∷ []) ≡ clocks m [] xs
clocks-note m [] = refl
clocks-note m (line.Board c t k ∷ xs) = ap (λ (l : List Clocks). l ++ one_line (told_line m c t k) ∷ []) (clocks-note m xs)
clocks-note m (line.Line c t k from ∷ xs) = clocks-note m xs
clocks-note m (line.Section i t kind ∷ xs) = clocks-note m xs
clocks-note m (line.Note ∷ xs) = clocks-note m xs
clocks-note m (line.Pulse s t up ∷ xs) = clocks-note m xs
clocks-note m (line.Cut i ∷ xs) = clocks-note m xs
clocks-note m (line.End ∷ xs) = clocks-note m xs

pub clocks-further : (m : Machine) (xs : List LogLine) (b turn tick from : ℕ) → clocks m [] (xs ++ line.Line b turn tick from ∷ []) ≡ clocks m [] xs
clocks-further m [] b turn tick from = refl
clocks-further m (line.Board c t k ∷ xs) b turn tick from = ap (λ (l : List Clocks). l ++ one_line (told_line m c t k) ∷ []) (clocks-further m xs b turn tick from)
clocks-further m (line.Line c t k at ∷ xs) b turn tick from = clocks-further m xs b turn tick from
clocks-further m (line.Section i t kind ∷ xs) b turn tick from = clocks-further m xs b turn tick from
clocks-further m (line.Note ∷ xs) b turn tick from = clocks-further m xs b turn tick from
clocks-further m (line.Pulse s t up ∷ xs) b turn tick from = clocks-further m xs b turn tick from
clocks-further m (line.Cut i ∷ xs) b turn tick from = clocks-further m xs b turn tick from
clocks-further m (line.End ∷ xs) b turn tick from = clocks-further m xs b turn tick from
