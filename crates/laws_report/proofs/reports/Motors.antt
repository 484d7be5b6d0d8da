-- The names of the steppers of a configuration: no two are the same.
use Rattle.std.proofs.Common.{◌≡◌, ◌≢◌, ◌∙◌, ℕ, ◌+◌, ◌%◌, ◌<◌, Bool, true, false, List, [], ◌∷◌, ◌++◌, length, map, get_or, ap, sym, refl, arith, inl, inr, length-append, rules}
use Rattle.std.specs.Prelude.{◌&&◌, ◌==◌, codes, if◌then◌else◌}
use Rattle.std.specs.Str.{bytes_eq}
use Rattle.std.proofs.lemmas.Bool.{cases_Bool}
use Rattle.laws_board.proofs.Names.{nat_tests}
use Rattle.std.proofs.Math.ListN.{get_or-append}
use Rattle.std.proofs.Math.Seq.{get_or-append_seam}
use Rattle.cfg_lines.specs.declared.section.Drive.{Drive}
use Rattle.cfg_lines.specs.declared.section.Drive.TheVariants.{X, Y, Z, E}
use Rattle.cfg_lines.specs.declared.section.Motor.{Motor}
use Rattle.cfg_lines.specs.Items.{has_motor, has_name, with_motor, with_name}
use Rattle.cfg_lines.specs.Sections.{drive_number, same_motor}
use Rattle.cfg_text.specs.Building.{letter_of, motor_name}
use Rattle.laws_report.specs.reports.Names.{is_plain, is_word}
use Rattle.laws_report.proofs.reports.Naming.{other-text, same-text}

-- a name with a digit behind it, where it is not 0
abbrev with_digit : List ℕ → ℕ → List ℕ
with_digit name digit = if digit == 0 then name else name ++ (48 + digit % 10) ∷ []

without : (name : List ℕ) (a : ℕ) → (a == 0) ≡ true → with_digit name a ≡ name
without name a h = rw h refl

with : (name : List ℕ) (a : ℕ) → (a == 0) ≡ false → with_digit name a ≡ name ++ (48 + a % 10) ∷ []
with name a h = rw h refl

-- its digit can be told
digit-read : (name : List ℕ) (a b : ℕ) → a < 10 → b < 10 → with_digit name a ≡ with_digit name b → a ≡ b
digit-read name a b p q e = elim (cases_Bool (a == 0)) [
  | inl x ↦ elim (cases_Bool (b == 0)) [
    | inl y ↦ grind (arith, nat_tests)
    | inr y ↦ (let one = ap length (sym (without name a x) ∙ e ∙ with name b y) in let more = length-append name ((48 + b % 10) ∷ []) in absurd (omega arith))
  ]
  | inr x ↦ elim (cases_Bool (b == 0)) [
    | inl y ↦ (let one = ap length (sym (with name a x) ∙ e ∙ without name b y) in let more = length-append name ((48 + a % 10) ∷ []) in absurd (omega arith))
    | inr y ↦ (let same = ap (λ (l : List ℕ). get_or l (length name) 0) (sym (with name a x) ∙ e ∙ with name b y) in
        let first = get_or-append_seam name (48 + a % 10) [] 0 in
        let second = get_or-append_seam name (48 + b % 10) [] 0 in
        let whole : 48 + a % 10 ≡ 48 + b % 10 = sym first ∙ same ∙ second in
        omega arith)
  ]
]

same-digit : (name : List ℕ) (a b : ℕ) → a < 10 → b < 10 → bytes_eq (with_digit name a) (with_digit name b) ≡ (a == b)
same-digit name a b p q = search (rules, cases_Bool, nat_tests, same-text, other-text, digit-read)

-- and what stands before it
front-read : (name : List ℕ) (a i : ℕ) → i < length name → get_or (with_digit name a) i 0 ≡ get_or name i 0
front-read name a i inside = search (rules, cases_Bool, without, with, get_or-append)

other-letter : (name other : List ℕ) (a b i : ℕ) → i < length name → i < length other → get_or name i 0 ≢ get_or other i 0 → bytes_eq (with_digit name a) (with_digit other b) ≡ false
other-letter name other a b i p q apart =
    other-text (with_digit name a) (with_digit other b) (λ same. apart (sym (front-read name a i p) ∙ ap (λ (l : List ℕ). get_or l i 0) same ∙ front-read other b i q))

pub same-name : (x y : Motor) → x.digit < 10 → y.digit < 10 → bytes_eq (motor_name x) (motor_name y) ≡ same_motor x y
same-name x y p q = search (rules, bytes_eq, same-digit, other-letter)

-- the name of a stepper is a word
pub motor-word : (m : Motor) → is_word (motor_name m) ≡ true
motor-word m = search (rules, nat_tests, cases_Bool, without, with)

-- Their names are those of steppers that are not among the ones before them.
abbrev pub AreSmall : List Motor → Type 0
AreSmall [] = Unit {0}
AreSmall (m ∷ motors) = (m.digit < 10) × AreSmall motors

has-same : (motors : List Motor) (m : Motor) → AreSmall motors → m.digit < 10 → has_name (map motor_name motors) (motor_name m) ≡ has_motor motors m
has-same [] m small low = refl
has-same (x ∷ motors) m small low = ap (λ b. if b then true else has_name (map motor_name motors) (motor_name m)) (same-name x m small.0 low) ∙ ap (λ b. if same_motor x m then true else b) (has-same motors m small.1 low)

names-more : (motors : List Motor) (m : Motor) → map motor_name (motors ++ m ∷ []) ≡ map motor_name motors ++ motor_name m ∷ []
names-more [] m = refl
names-more (x ∷ motors) m = ap (λ (l : List (List ℕ)). motor_name x ∷ l) (names-more motors m)

pub names-with : (motors : List Motor) (m : Motor) → AreSmall motors → m.digit < 10 → map motor_name (with_motor motors m) ≡ with_name (map motor_name motors) (motor_name m)
names-with motors m small low = search (rules, has-same, names-more)

small-more : (motors : List Motor) (m : Motor) → AreSmall motors → m.digit < 10 → AreSmall (motors ++ m ∷ [])
small-more [] m small low = (low, tt)
small-more (x ∷ motors) m small low = (small.0, small-more motors m small.1 low)

pub small-with : (motors : List Motor) (m : Motor) → AreSmall motors → m.digit < 10 → AreSmall (with_motor motors m)
small-with motors m small low = search (rules, small-more)
