-- The levels of a pin, by its entries.
use Rattle.std.proofs.Common.{◌≡◌, ℕ, zero, suc, ◌+◌, ◌<◌, ◌≤◌, ◌==◌, ◌&&◌, Bool, true, false, cond, List, [], ◌∷◌, length, get_or, Option, Some, None, refl, ap, sym, ◌∙◌, arith, inl, inr, AllPairs}
use Rattle.std.specs.Prelude.{nat_le, if◌then◌else◌}
use Rattle.std.proofs.lemmas.Bool.{and_parts, eqb-true}
use Rattle.std.proofs.lemmas.Bool.Decides.{eqb_tells}
use Rattle.plan_types.specs.declared.levels.Level.{Level}
use Rattle.plan_types.specs.Levels.{TicksStand, level_at, level_from}
use Rattle.wire_scene.specs.declared.scene.Switch.{Switch}
use Rattle.wire_scene.specs.Scenes.{SwitchesRise, is_of, last_switch, last_where, level_of, levels_of, or_earlier}

-- the level of an entry, or the one before
abbrev level_or : Bool → Option Switch → Bool
level_or before None = before
level_or before (Some s) = s.level

at_or : (before : Bool) (later : Option Switch) (t : Bool) (s : Switch) → level_or before (or_earlier later (if t then Some s else None)) ≡ level_or (if t then s.level else before) later
at_or before None true s = refl
at_or before None false s = refl
at_or before (Some x) true s = refl
at_or before (Some x) false s = refl

one_from : (of reached : Bool) (before : Bool) (board pin tick : ℕ) (s : Switch) (ss : List Switch) → reached ≡ nat_le s.tick tick
    → level_from before (if of then record { tick = s.tick; level = s.level } ∷ levels_of board pin ss else levels_of board pin ss) tick
    ≡ level_from (if of && reached then s.level else before) (levels_of board pin ss) tick
one_from true reached before board pin tick s ss e = ap (λ b. level_from (if b then s.level else before) (levels_of board pin ss) tick) (sym e)
one_from false reached before board pin tick s ss e = refl

levels_tell : (before : Bool) (board pin tick : ℕ) (ss : List Switch) → level_from before (levels_of board pin ss) tick ≡ level_or before (last_switch board pin tick ss)
levels_tell before board pin tick [] = refl
levels_tell before board pin tick (s ∷ ss) =
    let t = is_of board pin s && nat_le s.tick tick in
    one_from (is_of board pin s) (nat_le s.tick tick) before board pin tick s ss refl
    ∙ levels_tell (if t then s.level else before) board pin tick ss
    ∙ sym (at_or before (last_switch board pin tick ss) t s)

is_level : (o : Option Switch) → level_or false o ≡ level_of o
is_level None = refl
is_level (Some s) = refl

pub tells : (board pin tick : ℕ) (switches : List Switch) → level_at (levels_of board pin switches) tick ≡ level_of (last_switch board pin tick switches)
tells board pin tick switches = levels_tell false board pin tick switches ∙ is_level (last_switch board pin tick switches)

-- ticks that don't fall, from one on
abbrev StandFrom : ℕ → List Level → Type 0
StandFrom low [] = Unit {0}
StandFrom low (l ∷ ls) = (low ≤ l.tick) × StandFrom l.tick ls

from_lower : (a b : ℕ) (ls : List Level) → a ≤ b → StandFrom b ls → StandFrom a ls
from_lower a b [] h s = tt
from_lower a b (l ∷ ls) h s = (omega (arith, h, s.0), s.1)

above : (low : ℕ) (ls : List Level) (j : ℕ) (d : Level) → StandFrom low ls → j < length ls → low ≤ (get_or ls j d).tick
above low [] j d s h = absurd (omega (arith, h))
above low (l ∷ ls) zero d s h = s.0
above low (l ∷ ls) (suc j) d s h = omega (arith, s.0, above l.tick ls j d s.1 (omega (arith, h)))

stand : (low : ℕ) (ls : List Level) → StandFrom low ls → TicksStand ls
stand low [] s i j d h k = absurd (omega (arith, k))
stand low (l ∷ ls) s zero zero d h k = omega arith
stand low (l ∷ ls) s zero (suc j) d h k = above l.tick ls j d s.1 (omega (arith, k))
stand low (l ∷ ls) s (suc i) zero d h k = absurd (omega (arith, h))
stand low (l ∷ ls) s (suc i) (suc j) d h k = stand l.tick ls s.1 i j d (omega (arith, h)) (omega (arith, k))

levels_from : (board pin low : ℕ) (ss : List Switch)
    → ((i : ℕ) (d : Switch) → i < length ss → (get_or ss i d).board ≡ board → (get_or ss i d).pin ≡ pin → low ≤ (get_or ss i d).tick) → SwitchesRise ss → StandFrom low (levels_of board pin ss)
levels_from board pin low [] least rise = tt
levels_from board pin low (s ∷ ss) least rise =
    let rest : SwitchesRise ss = λ i j d h l. rise (suc i) (suc j) d (omega arith) (omega arith) in
    let others = levels_from board pin low ss (λ i d h b p. least (suc i) d (omega arith) b p) rest in
    elim (eqb_tells s.board board) [
      | inl p ↦ elim (eqb_tells s.pin pin) [
        | inl q ↦ rw (p.0, q.0) (
          least 0 s (omega arith) p.1 q.1,
          levels_from board pin s.tick ss (λ i d h b w. let later = rise 0 (suc i) d (omega arith) (omega arith) (p.1 ∙ sym b) (q.1 ∙ sym w) in omega (arith, later)) rest,
        )
        | inr q ↦ rw (p.0, q.0) others
      ]
      | inr p ↦ rw p.0 others
    ]

pub levels_stand : (board pin : ℕ) (switches : List Switch) → SwitchesRise switches → TicksStand (levels_of board pin switches)
levels_stand board pin switches rise = stand 0 (levels_of board pin switches) (levels_from board pin 0 switches (λ i d h b p. omega arith) rise)
