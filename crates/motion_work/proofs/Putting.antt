-- What was put stays as it is told.
use Rattle.std.proofs.Common.{◌≡◌, ℕ, zero, suc, ◌+◌, ◌<◌, ◌≤◌, List, [], ◌∷◌, ◌++◌, All, length, map, refl, ap, subst, ◌∙◌, arith, inl, inr}
use Rattle.std.proofs.lemmas.Bool.Decides.{eqb_tells}
use Rattle.std.proofs.lemmas.List.Elements.{All-head, All-tail}
use Rattle.std.specs.List.{range_with_len}
use Rattle.msg_code.specs.declared.talk.NoteNews.TheVariants as news
use Rattle.plan_types.specs.declared.machine.Machine.{Machine}
use Rattle.plan_types.specs.Lines.{Clocks}
use Rattle.motion_work.specs.Puts.{ArePut, IsPut, Put, begun_notes}
use Rattle.motion_work.specs.Seen.{AreOut, AreStarted, IsStarted, Started, ready_after}
use Rattle.motion_work.specs.Turns.{done_notes, start_notes}

pub same_on : {X : Type 0} (f g : ℕ → X) (i n top : ℕ) → i + n ≤ top → ((b : ℕ) → b < top → f b ≡ g b) → map f (range_with_len i n) ≡ map g (range_with_len i n)
same_on f g i zero top le same = refl
same_on f g i (suc n) top le same = ap (λ x. x ∷ map f (range_with_len (i + 1) n)) (same i (omega (arith, le))) ∙ ap (λ x. g i ∷ x) (same_on f g (i + 1) n top (omega (arith, le)) same)

pub done_stay : (k i : ℕ) (begun : List Started) (s : Started) → (s.end ≡ k → ⊥) → done_notes k i begun ≡ done_notes k i (begun ++ s ∷ [])
done_stay k i [] s ne = elim (eqb_tells s.end k) [ inl p ↦ absurd (ne p.1) | inr p ↦ rw p.0 refl ]
done_stay k i (x ∷ begun) s ne =
    let later = done_stay k (i + 1) begun s ne in
    elim (eqb_tells x.end k) [ inl p ↦ rw p.0 (ap (λ y. news.Done i k ∷ y) later) | inr p ↦ rw p.0 later ]

pub begun_stay : (k i : ℕ) (begun : List Started) (s : Started) → (s.start ≡ k + 260 → ⊥) → begun_notes k i begun ≡ begun_notes k i (begun ++ s ∷ [])
begun_stay k i [] s ne = elim (eqb_tells s.start (k + 260)) [ inl p ↦ absurd (ne p.1) | inr p ↦ rw p.0 refl ]
begun_stay k i (x ∷ begun) s ne =
    let later = begun_stay k (i + 1) begun s ne in
    elim (eqb_tells x.start (k + 260)) [ inl p ↦ rw p.0 (ap (λ y. news.Start i x.section.kind x.start x.last x.moving ∷ y) later) | inr p ↦ rw p.0 later ]

pub put_more : (m : Machine) (text : List ℕ) (begun : List Started) (k : ℕ) (ps : List Put) (p : Put) (n : ℕ) → n ≡ k + length ps → ArePut m text begun k ps → IsPut m text begun n p → ArePut m text begun k (ps ++ p ∷ [])
put_more m text begun k [] p n e h one = (subst (λ j. IsPut m text begun j p) (let x : n ≡ k = omega (arith, e) in x) one, tt)
put_more m text begun k (q ∷ ps) p n e h one = (h.0, put_more m text begun (k + 1) ps p n (omega (arith, e)) h.1 one)

-- the notes of the sections that were begun before a turn have none for it
pub begun_before : (k i : ℕ) (begun : List Started) → All (λ s. s.start < k + 260) begun → begun_notes k i begun ≡ []
begun_before k i [] h = refl
begun_before k i (s ∷ begun) h =
    let P : Started → Type 0 = λ x. x.start < k + 260 in
    let lt : s.start < k + 260 = All-head P s begun h in
    elim (eqb_tells s.start (k + 260)) [ inl p ↦ absurd (let e = p.1 in omega (arith, e, lt)) | inr p ↦ rw p.0 (begun_before k (i + 1) begun (All-tail P s begun h)) ]

pub begun_last : (k i : ℕ) (begun : List Started) (s : Started) → All (λ x. x.start < k + 260) begun → s.start ≡ k + 260 → begun_notes k i (begun ++ s ∷ []) ≡ start_notes (i + length begun) (s ∷ [])
begun_last k i [] s h e =
    let x : i + 0 ≡ i = omega arith in
    elim (eqb_tells s.start (k + 260)) [ inl p ↦ rw p.0 (rw x refl) | inr p ↦ absurd (p.1 e) ]
begun_last k i (b ∷ begun) s h e =
    let P : Started → Type 0 = λ x. x.start < k + 260 in
    let lt : b.start < k + 260 = All-head P b begun h in
    let x : i + 1 + length begun ≡ i + length (b ∷ begun) = omega arith in
    elim (eqb_tells b.start (k + 260)) [ inl p ↦ absurd (let q = p.1 in omega (arith, q, lt)) | inr p ↦ rw p.0 (begun_last k (i + 1) begun s (All-tail P b begun h) e ∙ ap (λ n. start_notes n (s ∷ [])) x) ]

pub started_last : (m : Machine) (clocks : List Clocks) (ready : ℕ) (begun : List Started) (s : Started) → AreStarted m clocks ready (begun ++ s ∷ []) → IsStarted m clocks (ready_after ready begun) s
started_last m clocks ready [] s h = h.0
started_last m clocks ready (b ∷ begun) s h = started_last m clocks (b.end + 260) begun s h.1

pub out_more : (boards k n : ℕ) (begun : List Started) (s : Started) → AreOut boards k n begun → AreOut boards k n (begun ++ s ∷ [])
out_more boards k zero begun s h = tt
out_more boards k (suc n) [] s h = absurd h
out_more boards k (suc n) (x ∷ begun) s h = (h.0, out_more boards k n begun s h.1)
