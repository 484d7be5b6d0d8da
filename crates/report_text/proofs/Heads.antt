-- The words that the lines of pulses begin with, stepper by stepper.
use Rattle.std.proofs.Common.{◌≡◌, ℕ, zero, suc, ◌+◌, ◌<◌, List, [], ◌∷◌, ◌++◌, Bool, get_or, length, refl, sym, ap, subst, ◌∙◌, arith, append_assoc, append-nil, take}
use Rattle.std.specs.Prelude.{codes, decimal}
use Rattle.plan_types.specs.declared.machine.Machine.{Machine}
use Rattle.plan_types.specs.Machines.{board_at, stepper_at}
use Rattle.report_text.specs.declared.line.ReportLine.TheVariants.{Pulse}
use Rattle.report_text.specs.declared.printer.Head.{Head}
use Rattle.report_text.specs.Heads.{AreHeads, IsHead, head_text}
use Rattle.report_text.specs.Pieces.{joined}
use Rattle.report_text.specs.Text.{direction_word, line_text}

pub heads-more : (m : Machine) (s : ℕ) (hs : List Head) (h : Head) (n : ℕ) → AreHeads m s hs → n ≡ s + length hs → IsHead m n h → AreHeads m s (hs ++ h ∷ [])
heads-more m s [] h n are e is = (subst (λ k. IsHead m k h) (let z : n ≡ s = omega (arith, e) in z) is, tt)
heads-more m s (x ∷ hs) h n are e is = (are.0, heads-more m (s + 1) hs h n are.1 (omega (arith, e)) is)

at-from : (m : Machine) (s : ℕ) (hs : List Head) (i : ℕ) (d : Head) → i < length hs → AreHeads m s hs → IsHead m (s + i) (get_or hs i d)
at-from m s [] i d h are = absurd (omega (arith, h))
at-from m s (x ∷ hs) zero d h are = subst (λ k. IsHead m k x) (let z : s ≡ s + 0 = omega arith in z) are.0
at-from m s (x ∷ hs) (suc i) d h are =
    let z : (s + 1) + i ≡ s + suc i = omega arith in
    subst (λ k. IsHead m k (get_or hs i d)) z (at-from m (s + 1) hs i d (omega (arith, h)) are.1)

pub head-at : (m : Machine) (hs : List Head) (i : ℕ) (d : Head) → i < length hs → AreHeads m 0 hs → IsHead m i (get_or hs i d)
head-at m hs i d h are = subst (λ k. IsHead m k (get_or hs i d)) (let z : 0 + i ≡ i = omega arith in z) (at-from m 0 hs i d h are)

joined-append : (xs ys : List (List ℕ)) → joined xs ++ joined ys ≡ joined (xs ++ ys)
joined-append [] ys = refl
joined-append (x ∷ xs) ys = append_assoc x (joined xs) (joined ys) ∙ ap (λ t. x ++ t) (joined-append xs ys)

pub pulse-text : (m : Machine) (board stepper tick : ℕ) (up : Bool) (words : List ℕ) → words ≡ head_text m board stepper → words ++ (decimal tick ++ direction_word up) ≡ line_text m (Pulse board stepper tick up)
pulse-text m board stepper tick up words e =
    let front = codes "pulse " ∷ (board_at m board).name ∷ codes " " ∷ (stepper_at m stepper).name ∷ codes " " ∷ [] in
    ap (λ t. t ++ (decimal tick ++ direction_word up)) e ∙ ap (λ t. joined front ++ (decimal tick ++ t)) (sym (append-nil (direction_word up))) ∙ joined-append front (decimal tick ∷ direction_word up ∷ [])

take-behind : (old block : List ℕ) (size at : ℕ) → at ≡ length old + size → take at (old ++ block) ≡ old ++ take size block
take-behind [] block size at e = ap (λ n. take n block) (let z : at ≡ size = omega (arith, e) in z)
take-behind (x ∷ old) block size zero e = absurd (omega arith)
take-behind (x ∷ old) block size (suc at) e = ap (λ t. x ∷ t) (take-behind old block size at (omega (arith, e)))

take-front : (line more : List ℕ) → take (length line) (line ++ more) ≡ line
take-front [] more = refl
take-front (x ∷ line) more = ap (λ t. x ∷ t) (take-front line more)

-- a text whose end is put over the room behind its words, and cut off behind it
pub put-over : (old block before line more items rest : List ℕ) (size at end len : ℕ) → before ≡ old ++ block → at ≡ length old + size → len ≡ length line → take end line ≡ take at before ++ rest → items ≡ take end (take len (line ++ more)) → items ≡ old ++ (take size block ++ rest)
put-over old block before line more items rest size at end len b a l put cut =
    let whole = ap (λ n. take n (line ++ more)) l ∙ take-front line more in
    let front = ap (λ t. take at t) b ∙ take-behind old block size at a in
    cut ∙ ap (λ t. take end t) whole ∙ put ∙ ap (λ t. t ++ rest) front ∙ append_assoc old (take size block) rest
