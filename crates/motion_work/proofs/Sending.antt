-- What boards are sent of sections.
use Rattle.std.proofs.Common.{◌≡◌, ℕ, suc, ◌+◌, ◌≤◌, List, [], ◌∷◌, ◌++◌, get_or, refl, ap, sym, append-nil, arith, inl, inr}
use Rattle.std.proofs.lemmas.Bool.Decides.{leb_tells}
use Rattle.std.proofs.lemmas.List.Elements.{All-nil}
use Rattle.plan_types.specs.declared.machine.Machine.{Machine}
use Rattle.plan_types.specs.Lines.{Clocks}
use Rattle.step_feed.specs.Pacing.{ArePaced, Release}
use Rattle.section_units.specs.Sections.{AreBefore}
use Rattle.motion_work.specs.Homes.{before_turn}
use Rattle.motion_work.specs.Seen.{AreAllSent, AreSentBy, IsSentOf, Started}

-- releases before a turn
pub cut_before : (turn : ℕ) (rs : List Release) → AreBefore turn (before_turn turn rs)
cut_before turn [] = tt
cut_before turn (r ∷ rs) = elim (leb_tells (suc r.turn) turn) [ inl p ↦ rw p.0 (omega (arith, p.1), cut_before turn rs) | inr p ↦ rw p.0 (cut_before turn rs) ]

cut_none : (clocks : Clocks) (slots turn from : ℕ) (before rs : List Release) → ArePaced clocks slots from before rs → turn ≤ from → before_turn turn rs ≡ []
cut_none clocks slots turn from before [] p late = refl
cut_none clocks slots turn from before (r ∷ rs) p late =
    let after = p.0.after in
    elim (leb_tells (suc r.turn) turn) [
      | inl q ↦ absurd (omega (arith, q.1, after, late))
      | inr q ↦ rw q.0 (cut_none clocks slots turn r.turn (r ∷ before) rs p.1 (omega (arith, after, late)))
    ]

-- they are the first ones
pub cut_front : (clocks : Clocks) (slots turn from : ℕ) (before rs : List Release) → ArePaced clocks slots from before rs → (rest : List Release) × (rs ≡ before_turn turn rs ++ rest)
cut_front clocks slots turn from before [] p = ([], refl)
cut_front clocks slots turn from before (r ∷ rs) p = elim (leb_tells (suc r.turn) turn) [
  | inl q ↦ let f = cut_front clocks slots turn r.turn (r ∷ before) rs p.1 in rw q.0 (f.0, ap (λ x. r ∷ x) f.1)
  | inr q ↦
      let none = cut_none clocks slots turn r.turn (r ∷ before) rs p.1 (omega (arith, q.1)) in
      rw q.0 (r ∷ rs, ap (λ x. x ++ r ∷ rs) (sym none))
]

-- all that was sent, as far as it was before a turn
pub all_sent_by : (m : Machine) (clocks : List Clocks) (next : ℕ) (begun : List Started) → AreAllSent m clocks begun → AreSentBy m clocks next begun
all_sent_by m clocks next [] sent = tt
all_sent_by m clocks next (s ∷ begun) sent =
    let rs = λ (b : ℕ). get_or s.boards b [] in
    (λ b lt. record { sent = rs b; later = []; are = sym (append-nil (rs b)); behind = All-nil (λ (r : Release). next ≤ r.turn); is = sent.0 b lt }, all_sent_by m clocks next begun sent.1)

-- one more section
pub sent_more : (m : Machine) (clocks : List Clocks) (begun : List Started) (s : Started) → AreAllSent m clocks begun → IsSentOf m clocks s → AreAllSent m clocks (begun ++ s ∷ [])
sent_more m clocks [] s all one = (one, tt)
sent_more m clocks (x ∷ begun) s all one = (all.0, sent_more m clocks begun s all.1 one)

pub by_more : (m : Machine) (clocks : List Clocks) (next : ℕ) (begun : List Started) (s : Started) → AreSentBy m clocks next begun → AreSentBy m clocks next (s ∷ []) → AreSentBy m clocks next (begun ++ s ∷ [])
by_more m clocks next [] s all one = one
by_more m clocks next (x ∷ begun) s all one = (all.0, by_more m clocks next begun s all.1 one)
