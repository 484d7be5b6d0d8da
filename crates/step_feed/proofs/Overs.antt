-- No unit is released in a turn behind those of all releases.
use Rattle.std.proofs.Common.{◌≡◌, ℕ, zero, suc, ◌+◌, ◌<◌, ◌≤◌, List, [], ◌∷◌, length, refl, arith, inl, inr}
use Rattle.std.proofs.lemmas.Bool.Decides.{eqb_tells}
use Rattle.std.specs.Prelude.{slice_index_or}
use Rattle.step_feed.specs.Units.{StepUnit}
use Rattle.step_feed.specs.Pacing.{batch_at, releases}

pub none_behind : (us : List StepUnit) (turns : List ℕ) (turn k : ℕ) → turn ≤ k → ((j : ℕ) → j < length turns → slice_index_or turns j 0 < turn) → batch_at k (releases us turns) ≡ []
none_behind [] turns turn k le before = refl
none_behind (u ∷ us) [] turn k le before = refl
none_behind (u ∷ us) (t ∷ turns) turn k le before =
    let here : t < turn = before 0 (omega arith) in
    let later = none_behind us turns turn k le (λ j lt. before (suc j) (omega (arith, lt))) in
    elim (eqb_tells t k) [ inl p ↦ absurd (let e = p.1 in omega (arith, e, here, le)) | inr p ↦ rw p.0 later ]
