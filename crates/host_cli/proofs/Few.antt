-- The words of a load ask for at most a million moves.
use Rattle.std.proofs.Common.{◌≡◌, ℕ, ◌≤◌, Bool, true, false, codes, List, [], ◌∷◌, Option, Some, None, refl, arith, if◌then◌else◌}
use Rattle.std.specs.Prelude.{◌&&◌, nat_le}
use Rattle.std.specs.List.{list_all}
use Rattle.std.specs.Str.{bytes_eq}
use Rattle.std.specs.Str.Parse.{digits_value}
use Rattle.std.proofs.lemmas.Bool.Decides.{nat_tests}
use Rattle.command_words.specs.Forms.{asked, check, dump, fan, form_of, form_of_three, form_of_two, is_name, is_numeral, make, make_of, mesh, move_count, bounded_number, replay, run, scene, seed_of}

number-few : (most limit : ℕ) (text : List ℕ) (n : ℕ) → bounded_number most limit text ≡ Some n → n ≤ limit
number-few most limit text n e = by (is_numeral most text) (nat_le (digits_value 10 text) limit) refl e where
  by : (a b : Bool) → nat_le (digits_value 10 text) limit ≡ b → (if a && b then Some (digits_value 10 text) else None) ≡ Some n → n ≤ limit
  by true true small is = (let same : digits_value 10 text ≡ n = cc in let under : digits_value 10 text ≤ limit = grind (arith, nat_tests) in omega (arith, same, under))
  by true false small is = absurd cc
  by false b small is = absurd cc

made-few : (a b : Option ℕ) (seed moves : ℕ) → make_of a b ≡ Some (make seed moves) → b ≡ Some moves
made-few None b seed moves e = absurd cc
made-few (Some s) None seed moves e = absurd cc
made-few (Some s) (Some n) seed moves e = cc

two-few : (w a b : List ℕ) (seed moves : ℕ) → form_of_two w a b ≡ Some (make seed moves) → moves ≤ 1_000_000
two-few w a b seed moves e = by (bytes_eq w (codes "run")) (bytes_eq w (codes "make")) (bytes_eq w (codes "fan")) e where
  by : (x y z : Bool) → (if x then Some (run a b) else (if y then make_of (seed_of a) (move_count b) else (if z then Some (fan a b) else None))) ≡ Some (make seed moves) → moves ≤ 1_000_000
  by true y z is = absurd cc
  by false true z is = number-few 7 1_000_000 b moves (made-few (seed_of a) (move_count b) seed moves is)
  by false false true is = absurd cc
  by false false false is = absurd cc

three-never : (w a b c : List ℕ) (seed moves : ℕ) → form_of_three w a b c ≡ Some (make seed moves) → ⊥
three-never w a b c seed moves e = by (bytes_eq w (codes "run")) (bytes_eq w (codes "check")) (bytes_eq w (codes "dump")) (bytes_eq w (codes "replay")) (bytes_eq w (codes "mesh")) e where
  by : (v w x y z : Bool) → (if v then Some (scene a b c) else (if w then Some (check a b c) else (if x then Some (dump a b c) else (if y then Some (replay a b c) else (if z then Some (mesh a b c) else None))))) ≡ Some (make seed moves) → ⊥
  by true w x y z is = cc
  by false true x y z is = cc
  by false false true y z is = cc
  by false false false true z is = cc
  by false false false false true is = cc
  by false false false false false is = cc

form-few : (words : List (List ℕ)) (seed moves : ℕ) → form_of words ≡ Some (make seed moves) → moves ≤ 1_000_000
form-few [] seed moves e = absurd cc
form-few (w ∷ []) seed moves e = absurd cc
form-few (w ∷ a ∷ []) seed moves e = absurd cc
form-few (w ∷ a ∷ b ∷ []) seed moves e = two-few w a b seed moves e
form-few (w ∷ a ∷ b ∷ c ∷ []) seed moves e = absurd (three-never w a b c seed moves e)
form-few (w ∷ a ∷ b ∷ c ∷ d ∷ words) seed moves e = absurd cc

pub few-moves : (words : List (List ℕ)) (seed moves : ℕ) → asked words ≡ Some (make seed moves) → moves ≤ 1_000_000
few-moves words seed moves e = by (list_all is_name words) e where
  by : (b : Bool) → (if b then form_of words else None) ≡ Some (make seed moves) → moves ≤ 1_000_000
  by true is = form-few words seed moves is
  by false is = absurd cc
