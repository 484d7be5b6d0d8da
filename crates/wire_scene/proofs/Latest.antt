-- Where the ticks of each pin rise, the last entry at or before a tick is the latest.
use Rattle.std.proofs.Common.{◌≡◌, ℕ, zero, suc, ◌<◌, ◌≤◌, ◌==◌, ◌&&◌, Bool, true, false, cond, List, [], ◌∷◌, nat_le, Option, Some, None, All, AllPairs, refl, sym, ◌∙◌, arith}
use Rattle.std.specs.List.{Contains}
use Rattle.std.proofs.lemmas.Bool.{and_parts, eqb-true}
use Rattle.std.proofs.lemmas.Bool.Decides.{nat_tests}
use Rattle.std.proofs.lemmas.List.Elements.{All-nil, All-cons, All-weaker, All-contains}
use Rattle.wire_scene.specs.declared.scene.Switch.{Switch}
use Rattle.wire_scene.specs.Scenes.{or_earlier, is_of, last_switch}
use Rattle.wire_scene.specs.Latest.{IsLatest}

abbrev Below : Switch → Switch → Type 0
Below s t = s.board ≡ t.board → s.pin ≡ t.pin → s.tick < t.tick

abbrev IsUpTo : ℕ → ℕ → ℕ → ℕ → Switch → Type 0
IsUpTo board pin tick last o = o.board ≡ board → o.pin ≡ pin → o.tick ≤ tick → o.tick ≤ last

abbrev IsLater : ℕ → ℕ → ℕ → Switch → Type 0
IsLater board pin tick o = o.board ≡ board → o.pin ≡ pin → tick < o.tick

rest_rises : (x : Switch) (xs : List Switch) → AllPairs Below (x ∷ xs) → AllPairs Below xs
rest_rises x xs rise i j d before within = rise (suc i) (suc j) d (omega (arith, before)) (omega (arith, within))

below_rest : (x : Switch) (xs : List Switch) → AllPairs Below (x ∷ xs) → All (Below x) xs
below_rest x xs rise k d within = rise zero (suc k) d (omega arith) (omega (arith, within))

there_more : (x s : Switch) (xs : List Switch) → Contains xs s → Contains (x ∷ xs) s
there_more x s xs (k, within, is) = (suc k, omega (arith, within), is)

first_there : (x : Switch) (xs : List Switch) → Contains (x ∷ xs) x
first_there x xs = (zero, omega arith, refl)

abbrev passes : ℕ → ℕ → ℕ → Switch → Bool
passes board pin tick s = is_of board pin s && nat_le s.tick tick

passing : (board pin tick : ℕ) (s : Switch) → passes board pin tick s ≡ true → (s.board ≡ board) × (s.pin ≡ pin) × (s.tick ≤ tick)
passing board pin tick s pass = let parts : (is_of board pin s ≡ true) × (nat_le s.tick tick ≡ true) = and_parts (is_of board pin s) (nat_le s.tick tick) pass in
    let place : ((s.board == board) ≡ true) × ((s.pin == pin) ≡ true) = and_parts (s.board == board) (s.pin == pin) parts.0 in
    (eqb-true s.board board place.0, eqb-true s.pin pin place.1, grind (arith, nat_tests))

failing : (board pin tick : ℕ) (s : Switch) → passes board pin tick s ≡ false → IsLater board pin tick s
failing board pin tick s fail same_board same_pin = grind (arith, nat_tests)

one_more : (board pin tick : ℕ) (x : Switch) (xs : List Switch) (pass : Bool) (last : Option Switch) → passes board pin tick x ≡ pass → All (Below x) xs → IsLatest board pin tick xs last
    → IsLatest board pin tick (x ∷ xs) (or_earlier last (cond pass (Some x) None))
one_more board pin tick x xs pass (Some s) is below latest = let over : Below x s = All-contains (Below x) xs s below latest.there in record {
  there = there_more x s xs latest.there;
  on_board = latest.on_board;
  of_pin = latest.of_pin;
  begun = latest.begun;
  latest = All-cons (IsUpTo board pin tick s.tick) x xs (λ b p t. let less : x.tick < s.tick = over (b ∙ sym latest.on_board) (p ∙ sym latest.of_pin) in omega (arith, less)) latest.latest;
}
one_more board pin tick x xs true None is below later = let parts = passing board pin tick x is in record {
  there = first_there x xs;
  on_board = parts.0;
  of_pin = parts.1;
  begun = parts.2;
  latest = All-cons (IsUpTo board pin tick x.tick) x xs (λ b p t. omega arith)
      (All-weaker (IsLater board pin tick) (IsUpTo board pin tick x.tick) (λ o beyond b p t. let past : tick < o.tick = beyond b p in absurd (omega (arith, past, t))) xs later);
}
one_more board pin tick x xs false None is below later = All-cons (IsLater board pin tick) x xs (failing board pin tick x is) later

pub latest : (board pin tick : ℕ) (switches : List Switch) → AllPairs Below switches → IsLatest board pin tick switches (last_switch board pin tick switches)
latest board pin tick [] rise = All-nil (IsLater board pin tick)
latest board pin tick (x ∷ xs) rise = one_more board pin tick x xs (passes board pin tick x) (last_switch board pin tick xs) refl (below_rest x xs rise) (latest board pin tick xs (rest_rises x xs rise))
