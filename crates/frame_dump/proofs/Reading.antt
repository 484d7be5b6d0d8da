-- A trace that is read line by line.
use Rattle.std.proofs.Common.{◌≡◌, ◌∙◌, ℕ, ◌+◌, ◌-◌, get_or, take, drop, subst, ◌<◌, ◌≤◌, Bool, true, false, List, [], ◌∷◌, ◌++◌, length, refl, ap, sym, arith, append-nil, append_assoc, Option, Some, None}
use Rattle.std.specs.Prelude.{Result, Ok, Err}
use Rattle.std.proofs.lemmas.Bool.Decides.{nat_tests}
use Rattle.plan_types.specs.Numbers.{is_above}
use Rattle.text_core.specs.Bytes.{Text}
use Rattle.frame_dump.specs.declared.fault.TraceFault.{TraceFault}
use Rattle.frame_dump.specs.declared.trace.TraceTurn.{TraceTurn}
use Rattle.frame_dump.specs.Traces.{AreTurns, before_bytes, byte_of, hex_bytes, hex_value, rising, trace_turn, turns_from, with_first}
use Rattle.frame_dump.specs.Sofar.{BytesSofar, low_after, low_behind, with_bytes, with_turns}
use Rattle.msg_code.proofs.Parameters.{rest_all}

start : (o : Option (List ℕ)) → with_bytes [] o ≡ o
start None = refl
start (Some bytes) = refl

joined : (front : List ℕ) (b : ℕ) (o : Option (List ℕ)) → with_bytes (front ++ b ∷ []) o ≡ with_bytes front (before_bytes (Some b) o)
joined front b None = refl
joined front b (Some bytes) = ap (λ (l : List ℕ). Some l) (append_assoc front (b ∷ []) bytes)

pub no_bytes : (digits old : List ℕ) → BytesSofar digits old old digits
no_bytes digits old = record { front = []; added = sym (append-nil old); bytes = start (hex_bytes digits) }

two : (rest : List ℕ) → 2 ≤ length rest → rest ≡ get_or rest 0 0 ∷ get_or rest 1 0 ∷ drop 2 rest
two [] h = absurd (omega arith)
two (a ∷ []) h = absurd (omega arith)
two (a ∷ b ∷ rest) h = refl

pub more_bytes : (digits old new newer rest : List ℕ) (byte : ℕ) → 2 ≤ length rest → byte_of (hex_value (get_or rest 0 0)) (hex_value (get_or rest 1 0)) ≡ Some byte → newer ≡ new ++ byte ∷ []
    → BytesSofar digits old new rest → BytesSofar digits old newer (take (length rest - 2) (drop 2 rest))
more_bytes digits old new newer rest byte many spelled add so =
    let others = drop 2 rest in
    let pairs : hex_bytes rest ≡ before_bytes (byte_of (hex_value (get_or rest 0 0)) (hex_value (get_or rest 1 0))) (hex_bytes others) = ap hex_bytes (two rest many) in
    let here : hex_bytes rest ≡ before_bytes (Some byte) (hex_bytes others) = pairs ∙ ap (λ (b : Option ℕ). before_bytes b (hex_bytes others)) spelled in
    let At : List ℕ → Type 0 = λ l. BytesSofar digits old newer l in
    subst At (sym (rest_all 2 rest)) (record {
      front = so.front ++ byte ∷ [];
      added = add ∙ ap (λ (l : List ℕ). l ++ byte ∷ []) so.added ∙ append_assoc old so.front (byte ∷ []);
      bytes = joined so.front byte (hex_bytes others) ∙ ap (with_bytes so.front) (sym here) ∙ so.bytes;
    })

pub no_byte : (digits old new rest : List ℕ) → 2 ≤ length rest → byte_of (hex_value (get_or rest 0 0)) (hex_value (get_or rest 1 0)) ≡ None → BytesSofar digits old new rest → hex_bytes digits ≡ None
no_byte digits old new rest many none so =
    let others = drop 2 rest in
    let pairs : hex_bytes rest ≡ before_bytes (byte_of (hex_value (get_or rest 0 0)) (hex_value (get_or rest 1 0))) (hex_bytes others) = ap hex_bytes (two rest many) in
    let here : hex_bytes rest ≡ None = pairs ∙ ap (λ (b : Option ℕ). before_bytes b (hex_bytes others)) none in
    sym so.bytes ∙ ap (with_bytes so.front) here

pub all_bytes : (digits old new rest : List ℕ) → rest ≡ [] → BytesSofar digits old new rest → (bytes : List ℕ) × (hex_bytes digits ≡ Some bytes) × (new ≡ old ++ bytes)
all_bytes digits old new rest none so =
    let here : hex_bytes rest ≡ Some [] = rw none refl in
    (so.front, sym so.bytes ∙ ap (with_bytes so.front) here ∙ ap (λ (l : List ℕ). Some l) (append-nil so.front), so.added)

odd : (rest : List ℕ) → length rest < 2 → (rest ≡ [] → ⊥) → hex_bytes rest ≡ None
odd [] few some = absurd (some refl)
odd (a ∷ []) few some = refl
odd (a ∷ b ∷ others) few some = absurd (omega arith)

pub odd_byte : (digits old new rest : List ℕ) → length rest < 2 → (rest ≡ [] → ⊥) → BytesSofar digits old new rest → hex_bytes digits ≡ None
odd_byte digits old new rest few some so = sym so.bytes ∙ ap (with_bytes so.front) (odd rest few some)

-- turns, one by one
pub no_turns : (r : Result (List TraceTurn) TraceFault) → with_turns [] r ≡ r
no_turns (Ok turns) = refl
no_turns (Err fault) = refl

fronts : (front : List TraceTurn) (t : TraceTurn) (r : Result (List TraceTurn) TraceFault) → with_turns (front ++ t ∷ []) r ≡ with_turns front (with_first t r)
fronts front t (Ok turns) = ap (λ (l : List TraceTurn). Ok l) (append_assoc front (t ∷ []) turns)
fronts front t (Err fault) = refl

pub turn_more : (last : Option ℕ) (number : ℕ) (front new : List TraceTurn) (t : TraceTurn) (words : List Text) (lines later : List (ℕ × List Text))
    → rising last (trace_turn words) ≡ Ok t → new ≡ front ++ t ∷ [] → lines ≡ (number, words) ∷ later
    → with_turns new (turns_from (Some t.turn) later) ≡ with_turns front (turns_from last lines)
turn_more last number front new t words lines later is add lines_are = rw (add, lines_are, is) (fronts front t (turns_from (Some t.turn) later))

pub above_low : (last : Option ℕ) (number : ℕ) → is_above number last ≡ true → low_behind last ≤ number
above_low None number e = omega arith
above_low (Some last) number e = grind (arith, nat_tests)

pub rise_more : (low : ℕ) (front : List TraceTurn) (t : TraceTurn) → AreTurns low front → low_after low front ≤ t.turn → t.turn ≤ 1000000000 → AreTurns low (front ++ t ∷ [])
rise_more low [] t rise above small = (above, small, tt)
rise_more low (u ∷ front) t rise above small = (rise.0, rise.1, rise_more (u.turn + 1) front t rise.2 above small)

pub low_more : (low : ℕ) (front : List TraceTurn) (t : TraceTurn) → low_after low (front ++ t ∷ []) ≡ t.turn + 1
low_more low [] t = refl
low_more low (u ∷ front) t = low_more (u.turn + 1) front t
