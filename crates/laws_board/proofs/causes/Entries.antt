-- On a line that is touched an entry was used, in a turn or later.
use Rattle.std.proofs.Common.{ℕ, ◌+◌, ◌<◌, ◌≤◌, ◌⊎◌, inl, inr, List, [], ◌∷◌, refl, arith}
use Rattle.laws_board.proofs.Names.{leb_tells, Entry}
use Rattle.wire_scene.specs.Wire.{Line}
use Rattle.wire_scene.specs.WireRuns.{AreOver}
use Rattle.link_work.specs.Answers.{IsAmong}
use Rattle.link_work.specs.Used.{IsLineRun, used_in}
use Rattle.link_work.proofs.Answered.{calm_is}

later_or : (since : ℕ) (ks : List ℕ) → AreOver (since + 4) ks ⊎ ((k : ℕ) × (since ≤ k) × IsAmong k ks)
later_or since [] = inl tt
later_or since (k ∷ ks) = elim (leb_tells since k) [
  | inl p ↦ inr (k, p.1, inl refl)
  | inr p ↦ elim (later_or since ks) [
    | inl over ↦ let q = p.1 in inl (omega arith, over)
    | inr some ↦ inr (some.0, some.1, inr some.2)
  ]
]

pub used_since : (connecting entries : List Entry) (turns since : ℕ) (l : Line) (r : IsLineRun connecting entries turns l) → since + 4 < l.calm → (k : ℕ) × (since ≤ k) × IsAmong k (used_in connecting entries r.dones)
used_since connecting entries turns since l r h = elim (later_or since (used_in connecting entries r.dones)) [
  | inl over ↦ let calm = (calm_is connecting entries turns since l r).1 over in absurd (omega arith)
  | inr some ↦ some
]
