-- Control commands change nothing that counts, but that steppers are made.
use Rattle.std.proofs.Common.{◌≡◌, ℕ, Bool, true, List, [], ◌∷◌, map, refl, ap, ◌∙◌, inl, inr}
use Rattle.laws_board.proofs.Names.{eqb_tells, All-head, All-tail, Cmd, plain}
use Rattle.std.specs.Prelude.{All}
use Rattle.msg_code.specs.declared.cmd.Cmd.TheVariants as cmd
use Rattle.laws_board.specs.sections.Known.{Sent, sent_at, Known, knows, knows_of, known_from, IsGoodFor, AreGoodFrom}
use Rattle.laws_board.specs.sections.Parts.{IsControl, IsMaking, Makes}

-- what is made stays made
pub one_made : (oid : ℕ) (k : Known) (c : Cmd) (ticks : List ℕ) → k.made ≡ true → (knows_of oid k c ticks).made ≡ true
one_made oid k (cmd.QueueStep other interval count add) ticks e = elim (eqb_tells other oid) [ inl p ↦ rw p.0 e | inr p ↦ rw p.0 e ]
one_made oid k (cmd.ConfigStepper other step dir invert width) ticks e = elim (eqb_tells other oid) [ inl p ↦ rw p.0 refl | inr p ↦ rw p.0 e ]
one_made oid k (cmd.SetNextStepDir other dir) ticks e = elim (eqb_tells other oid) [ inl p ↦ rw p.0 e | inr p ↦ rw p.0 e ]
one_made oid k (cmd.ResetStepClock other clock) ticks e = elim (eqb_tells other oid) [ inl p ↦ rw p.0 e | inr p ↦ rw p.0 e ]
one_made oid k _ ticks e = e

pub stays_made : (oid : ℕ) (k : Known) (ss : List Sent) → k.made ≡ true → (known_from oid k ss).made ≡ true
stays_made oid k [] e = e
stays_made oid k (s ∷ ss) e = stays_made oid (knows oid k s.order) ss (one_made oid k s.order.command s.order.ticks e)

-- a control command
abbrev pub Controls : ℕ → Known → Known → Type 0
Controls oid k next = (made : Bool) × (next ≡ record k { made = made }) × (k.made ≡ true → made ≡ true)

one_control : (oid : ℕ) (k : Known) (c : Cmd) → IsControl c → Controls oid k (knows oid k (plain c)) × (IsMaking oid c → (knows oid k (plain c)).made ≡ true)
one_control oid k (cmd.QueueStep other interval count add) h = absurd h
one_control oid k (cmd.SetNextStepDir other dir) h = absurd h
one_control oid k (cmd.ResetStepClock other clock) h = absurd h
one_control oid k (cmd.ConfigStepper other step dir invert width) h =
    elim (eqb_tells other oid) [
      | inl p ↦ rw p.0 ((true, refl, λ _. refl), λ _. refl)
      | inr p ↦ rw p.0 ((k.made, refl, λ e. e), λ e. absurd (p.1 e))
    ]
one_control oid k _ h = ((k.made, refl, λ e. e), λ e. absurd e)

one_good : (own : ℕ → ℕ) (slots oid turn : ℕ) (k : Known) (c : Cmd) → IsControl c → IsGoodFor own slots oid turn k c []
one_good own slots oid turn k (cmd.QueueStep other interval count add) h = absurd h
one_good own slots oid turn k (cmd.SetNextStepDir other dir) h = absurd h
one_good own slots oid turn k (cmd.ResetStepClock other clock) h = absurd h
one_good own slots oid turn k (cmd.StepperStopOnTrigger other trigger) h = absurd h
one_good own slots oid turn k (cmd.ConfigStepper other step dir invert width) h = h
one_good own slots oid turn k _ h = tt

pub controls_good : (own : ℕ → ℕ) (slots oid turn : ℕ) (k : Known) (cs : List Cmd) → All IsControl cs → AreGoodFrom own slots oid k (sent_at turn (map plain cs))
controls_good own slots oid turn k [] h = tt
controls_good own slots oid turn k (c ∷ cs) h = (one_good own slots oid turn k c (All-head IsControl c cs h), controls_good own slots oid turn (knows oid k (plain c)) cs (All-tail IsControl c cs h))

pub controls_known : (oid turn : ℕ) (k : Known) (cs : List Cmd) → All IsControl cs → Controls oid k (known_from oid k (sent_at turn (map plain cs)))
controls_known oid turn k [] h = (k.made, refl, λ e. e)
controls_known oid turn k (c ∷ cs) h =
    let (m, is, keeps) = (one_control oid k c (All-head IsControl c cs h)).0 in
    let (n, are, keep) = controls_known oid turn (knows oid k (plain c)) cs (All-tail IsControl c cs h) in
    (n, are ∙ ap (λ (x : Known). record x { made = n }) is, λ e. keep (ap (λ (x : Known). x.made) is ∙ keeps e))

pub controls_make : (oid turn : ℕ) (k : Known) (cs : List Cmd) → All IsControl cs → Makes oid cs → (known_from oid k (sent_at turn (map plain cs))).made ≡ true
controls_make oid turn k [] h m = absurd m
controls_make oid turn k (c ∷ cs) h (inl m) = stays_made oid (knows oid k (plain c)) (sent_at turn (map plain cs)) ((one_control oid k c (All-head IsControl c cs h)).1 m)
controls_make oid turn k (c ∷ cs) h (inr m) = controls_make oid turn (knows oid k (plain c)) cs (All-tail IsControl c cs h) m
