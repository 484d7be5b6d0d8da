-- The blocks that are put first and end with a get_uptime.
use Rattle.std.proofs.Common.{◌≡◌, ℕ, zero, suc, ◌+◌, ◌<◌, ◌≤◌, Bool, true, false, List, [], ◌∷◌, ◌++◌, refl, ap, sym, ◌∙◌, subst, arith, append-nil, append_assoc, inl, inr}
use Rattle.std.specs.Prelude.{◌&&◌, nat_lt, if◌then◌else◌}
use Rattle.std.proofs.lemmas.Bool.Decides.{leb_tells}
use Rattle.link_core.specs.Core.{sent}
use Rattle.link_core.specs.Stands.{last_closes}
use Rattle.board_world.specs.declared.event.Event.TheVariants as event
use Rattle.board_world.specs.Stands.{SeenWorld, WorldStandsFor}
use Rattle.board_world.specs.World.{Core, Step, Do, Turn, after_event, world_after, run_world}
use Rattle.link_work.specs.Turn.{Orders, resends, sends}
use Rattle.link_work.specs.Told.{asked_at, asked_by, asked_in}
use Rattle.link_core.specs.Host.{Host}
use Rattle.link_work.proofs.Sending.{HasSent, SendsNone, rest_sent}

pub asked_append : (first rest : List Step) (h : Core) → asked_in (first ++ rest) h ≡ asked_in first h ++ asked_in rest (run_world first h)
asked_append [] rest h = refl
asked_append (s ∷ first) rest h =
    ap (λ ns. asked_at s h ++ ns) (asked_append first rest (world_after h s)) ∙ sym (append_assoc (asked_at s h) (asked_in first (world_after h s)) (asked_in rest (run_world first (world_after h s))))

none_resent : (resent : Bool) (h : Core) → asked_in (resends resent) h ≡ []
none_resent true h = refl
none_resent false h = refl

-- only new blocks are asked with
pub asked_after : (turn : ℕ) (o : Orders) (resent : Bool) (h : Core) (rest : List Step)
    → asked_in ((Turn turn ∷ Do (event.Control o.control) ∷ Do (event.Put o.batch) ∷ resends resent) ++ rest) h
    ≡ asked_in rest (run_world (Turn turn ∷ Do (event.Control o.control) ∷ Do (event.Put o.batch) ∷ resends resent) h)
asked_after turn o resent h rest =
    let first = Turn turn ∷ Do (event.Control o.control) ∷ Do (event.Put o.batch) ∷ resends resent in
    let begun = run_world (Turn turn ∷ Do (event.Control o.control) ∷ Do (event.Put o.batch) ∷ []) h in
    asked_append first rest h ∙ ap (λ ns. ns ++ asked_in rest (run_world first h)) (none_resent resent begun)

asked_more : (n : ℕ) (h : Core) → asked_in (sends (suc n)) h ≡ asked_in (sends n) h ++ asked_by (run_world (sends n) h) (after_event (run_world (sends n) h) event.Send)
unfolding sends
asked_more zero h = append-nil (asked_by h (after_event h event.Send))
asked_more (suc n) h =
    let g = after_event h event.Send in
    ap (λ ns. asked_by h g ++ ns) (asked_more n g) ∙ sym (append_assoc (asked_by h g) (asked_in (sends n) g) (asked_by (run_world (sends n) g) (after_event (run_world (sends n) g) event.Send)))

abbrev pub HasAsked : SeenWorld → List ℕ → List ℕ → ℕ → Type 0
HasAsked old before now n = (h : Core) → WorldStandsFor old h → now ≡ before ++ asked_in (sends n) h

pub none_asked : (s : SeenWorld) (ns : List ℕ) → HasAsked s ns ns 0
unfolding sends
none_asked s ns = λ h st. sym (append-nil ns)

pub one_more_asked : (old s : SeenWorld) (before now later : List ℕ) (n : ℕ) → HasSent old s n → HasAsked old before now n
    → ((h : Core) → WorldStandsFor s h → later ≡ now ++ asked_by h (after_event h event.Send)) → HasAsked old before later (n + 1)
one_more_asked old s before now later n sent has step = λ h st.
    let g = run_world (sends n) h in
    let e : suc n ≡ n + 1 = omega arith in
    step g (sent h st) ∙ ap (λ ns. ns ++ asked_by g (after_event g event.Send)) (has h st) ∙ append_assoc before (asked_in (sends n) h) (asked_by g (after_event g event.Send))
    ∙ ap (λ ns. before ++ ns) (sym (asked_more n h)) ∙ ap (λ k. before ++ asked_in (sends k) h) e

pub all_asked : (old : SeenWorld) (before now : List ℕ) (n : ℕ) → HasAsked old before now n → n ≡ 12 → (h : Core) → WorldStandsFor old h → now ≡ before ++ asked_in (sends 12) h
all_asked old before now n has e h st = has h st ∙ ap (λ k. before ++ asked_in (sends k) h) e

-- one block
abbrev asks : ℕ → ℕ → Bool → List ℕ
asks a b closes = if nat_lt a b && closes then a ∷ [] else []

none_more : (a b : ℕ) (closes : Bool) → b ≤ a → asks a b closes ≡ []
none_more a b closes k = elim (leb_tells (suc a) b) [ inl p ↦ absurd (omega (arith, p.1, k)) | inr p ↦ rw p.0 refl ]

one_open : (a b : ℕ) (closes : Bool) → closes ≡ false → asks a b closes ≡ []
one_open a b closes e = elim (leb_tells (suc a) b) [ inl p ↦ rw p.0 (rw e refl) | inr p ↦ rw p.0 refl ]

one_closed : (a b : ℕ) (closes : Bool) → a < b → closes ≡ true → asks a b closes ≡ a ∷ []
one_closed a b closes k e = elim (leb_tells (suc a) b) [ inl p ↦ rw p.0 (rw e refl) | inr p ↦ absurd (omega (arith, p.1, k)) ]

pub same_sent : (h g : Core) (ns : List ℕ) → sent g.link ≡ sent h.link → ns ≡ ns ++ asked_by h g
same_sent h g ns e = sym (append-nil ns) ∙ ap (λ x. ns ++ x) (sym (none_more (sent h.link) (sent g.link) (last_closes false g.link.blocks) (omega (arith, e))))

pub not_closed : (h g : Core) (ns : List ℕ) → last_closes false g.link.blocks ≡ false → ns ≡ ns ++ asked_by h g
not_closed h g ns e = sym (append-nil ns) ∙ ap (λ x. ns ++ x) (sym (one_open (sent h.link) (sent g.link) (last_closes false g.link.blocks) e))

pub is_closed : (h g : Core) (ns now : List ℕ) (number : ℕ) → number ≡ sent h.link → sent h.link < sent g.link → last_closes false g.link.blocks ≡ true → now ≡ ns ++ number ∷ [] → now ≡ ns ++ asked_by h g
is_closed h g ns now number same more closes e =
    e ∙ ap (λ n. ns ++ n ∷ []) same ∙ ap (λ x. ns ++ x) (sym (one_closed (sent h.link) (sent g.link) (last_closes false g.link.blocks) more closes))

same_number : (s : SeenWorld) (h g : Core) → WorldStandsFor s h → WorldStandsFor s g → sent g.link ≡ sent h.link
same_number s h g st tu = sym (ap (λ (x : Host). x.sent) tu.host) ∙ ap (λ (x : Host). x.sent) st.host

pub rest_asked : (old s : SeenWorld) (before now : List ℕ) (n k : ℕ) → HasSent old s n → HasAsked old before now n → SendsNone s → HasAsked old before now (n + k)
rest_asked old s before now n zero sent has none = let e : n ≡ n + zero = omega arith in subst (HasAsked old before now) e has
rest_asked old s before now n (suc k) sent has none =
    let e : n + k + 1 ≡ n + suc k = omega arith in
    subst (HasAsked old before now) e (
    one_more_asked old s before now now (n + k) (rest_sent old s n k sent none) (rest_asked old s before now n k sent has none)
    (λ h st. same_sent h (after_event h event.Send) now (same_number s h (after_event h event.Send) st (none h st))))
