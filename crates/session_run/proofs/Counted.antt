-- Pulses that are counted line by line are as many as the lines show.
use Rattle.std.proofs.Common.{◌≡◌, ℕ, zero, suc, ◌+◌, ◌<◌, ◌≤◌, List, [], ◌∷◌, Bool, false, cond, get_or, length, refl, sym, ap, subst, ◌∙◌, arith}
use Rattle.std.specs.Prelude.{◌==◌, replicate, slice_set}
use Rattle.std.proofs.Math.Dec.{eqb-suc-suc, eqb-suc-zero, eqb-zero-suc}
use Rattle.std.proofs.lemmas.List.{ext_get_or}
use Rattle.std.proofs.lemmas.List.Sums.{sum_by-cons}
use Rattle.std.proofs.lemmas.List.FromFn.{get_or-map-range_with_len, length-map-range_with_len}
use Rattle.report_text.specs.declared.line.ReportLine.{ReportLine}
use Rattle.report_text.specs.declared.line.ReportLine.TheVariants as report
use Rattle.session_run.specs.Counts.{counted, is_pulse_of, one_more, pulse_counts, pulses_shown, with_pulse, with_pulses}

-- by how many a line adds to the pulses of a stepper
abbrev hit : ℕ → ReportLine → ℕ
hit s l = cond (is_pulse_of s l) 1 0

-- a number that a count can hold
abbrev IsCount : ℕ → Type 0
IsCount n = n ≤ 18_446_744_073_709_551_615

abbrev AreCounts : List ℕ → Type 0
AreCounts counts = (i : ℕ) → i < length counts → IsCount (get_or counts i 0)

counted-is : (n : ℕ) → IsCount (counted n)
counted-is n = omega arith

same-count : (n : ℕ) → IsCount n → n ≡ counted (n + 0)
same-count n h = omega (arith, h)

other-count : (n : ℕ) (b : Bool) → IsCount n → b ≡ false → n ≡ counted (n + cond b 1 0)
other-count n b h e = same-count n h ∙ ap (λ (x : Bool). counted (n + cond x 1 0)) (sym e)

counted-more : (n k j : ℕ) → counted (counted (n + k) + j) ≡ counted (n + (k + j))
counted-more n k j = omega arith

one-length : (s : ℕ) (counts : List ℕ) → length (one_more s counts) ≡ length counts
one-length s [] = refl
one-length zero (n ∷ counts) = refl
one-length (suc s) (n ∷ counts) = ap suc (one-length s counts)

one-at : (s : ℕ) (counts : List ℕ) (i : ℕ) → i < length counts → AreCounts counts → get_or (one_more s counts) i 0 ≡ counted (get_or counts i 0 + cond (s == i) 1 0)
one-at s [] i h are = absurd (omega (arith, h))
one-at zero (n ∷ counts) zero h are = refl
one-at zero (n ∷ counts) (suc i) h are = other-count (get_or counts i 0) (0 == suc i) (are (suc i) h) (eqb-zero-suc i)
one-at (suc s) (n ∷ counts) zero h are = other-count n (suc s == 0) (are zero h) (eqb-suc-zero s)
one-at (suc s) (n ∷ counts) (suc i) h are =
    one-at s counts i (omega (arith, h)) (λ j k. are (suc j) (omega (arith, k))) ∙ ap (λ (x : Bool). counted (get_or counts i 0 + cond x 1 0)) (sym (eqb-suc-suc s i))

line-length : (l : ReportLine) (counts : List ℕ) → length (with_pulse l counts) ≡ length counts
line-length (report.Pulse board stepper tick up) counts = one-length stepper counts
line-length l counts = refl

line-at : (l : ReportLine) (counts : List ℕ) (i : ℕ) → i < length counts → AreCounts counts → get_or (with_pulse l counts) i 0 ≡ counted (get_or counts i 0 + hit i l)
line-at (report.Pulse board stepper tick up) counts i h are = one-at stepper counts i h are
line-at l counts i h are = same-count (get_or counts i 0) (are i h)

behind : (l : ReportLine) (counts : List ℕ) (i : ℕ) → i < length (with_pulse l counts) → i < length counts
behind l counts i h = subst (λ n. i < n) (line-length l counts) h

are-more : (l : ReportLine) (counts : List ℕ) → AreCounts counts → AreCounts (with_pulse l counts)
are-more l counts are i h = subst IsCount (sym (line-at l counts i (behind l counts i h) are)) (counted-is (get_or counts i 0 + hit i l))

lines-length : (lines : List ReportLine) (counts : List ℕ) → length (with_pulses lines counts) ≡ length counts
lines-length [] counts = refl
lines-length (l ∷ lines) counts = lines-length lines (with_pulse l counts) ∙ line-length l counts

lines-at : (lines : List ReportLine) (counts : List ℕ) (i : ℕ) → i < length counts → AreCounts counts → get_or (with_pulses lines counts) i 0 ≡ counted (get_or counts i 0 + pulses_shown i lines)
lines-at [] counts i h are = same-count (get_or counts i 0) (are i h)
lines-at (l ∷ lines) counts i h are =
    lines-at lines (with_pulse l counts) i (subst (λ n. i < n) (sym (line-length l counts)) h) (are-more l counts are) ∙ ap (λ n. counted (n + pulses_shown i lines)) (line-at l counts i h are)
    ∙ counted-more (get_or counts i 0) (hit i l) (pulses_shown i lines) ∙ ap (λ n. counted (get_or counts i 0 + n)) (sym (sum_by-cons (hit i) l lines))

-- no pulse yet of so many steppers
abbrev zeros : ℕ → List ℕ
zeros n = replicate n 0

zeros-length : (n : ℕ) → length (zeros n) ≡ n
zeros-length zero = refl
zeros-length (suc n) = ap suc (zeros-length n)

zeros-at : (n i : ℕ) → get_or (zeros n) i 0 ≡ 0
zeros-at zero zero = refl
zeros-at zero (suc i) = refl
zeros-at (suc n) zero = refl
zeros-at (suc n) (suc i) = zeros-at n i

zeros-are : (n : ℕ) → AreCounts (zeros n)
zeros-are n i h = subst IsCount (sym (zeros-at n i)) (omega arith)

from-zeros : (n : ℕ) (lines : List ReportLine) → with_pulses lines (zeros n) ≡ pulse_counts n lines
from-zeros n lines =
    let of : ℕ → ℕ = λ s. counted (pulses_shown s lines) in
    let many = lines-length lines (zeros n) ∙ zeros-length n in
    ext_get_or 0 (with_pulses lines (zeros n)) (pulse_counts n lines) (many ∙ sym (length-map-range_with_len of 0 n)) (λ i h.
    let few : i < n = subst (λ k. i < k) many h in
    lines-at lines (zeros n) i (subst (λ k. i < k) (sym (zeros-length n)) few) (zeros-are n) ∙ ap (λ k. counted (k + pulses_shown i lines)) (zeros-at n i) ∙ ap counted (let z : 0 + pulses_shown i lines ≡ pulses_shown i lines = omega arith in z)
    ∙ sym (get_or-map-range_with_len of 0 n i i 0 few (omega arith)))

pub all-counted : (n : ℕ) (before : List ℕ) (lines : List ReportLine) → before ≡ replicate n 0 → with_pulses lines before ≡ pulse_counts n lines
all-counted n before lines e = ap (λ counts. with_pulses lines counts) e ∙ from-zeros n lines

-- a count that is set is one more
pub one-set : (s : ℕ) (counts : List ℕ) (n : ℕ) → s < length counts → n ≡ counted (get_or counts s 0 + 1) → slice_set counts s n ≡ one_more s counts
one-set s [] n h e = absurd (omega (arith, h))
one-set zero (x ∷ counts) n h e = ap (λ k. k ∷ counts) e
one-set (suc s) (x ∷ counts) n h e = ap (λ (l : List ℕ). x ∷ l) (one-set s counts n (omega (arith, h)) e)

pub one-past : (s : ℕ) (counts : List ℕ) → length counts ≤ s → counts ≡ one_more s counts
one-past s [] h = refl
one-past zero (x ∷ counts) h = absurd (omega (arith, h))
one-past (suc s) (x ∷ counts) h = ap (λ (l : List ℕ). x ∷ l) (one-past s counts (omega (arith, h)))
