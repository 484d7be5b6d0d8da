-- Commands that keep an output alive.
use Rattle.std.proofs.Common.{◌≡◌, ℕ, zero, suc, ◌+◌, ◌<◌, ◌≤◌, List, [], ◌∷◌, ◌++◌, length, drop, get_or, refl, sym, subst, ◌∙◌, arith, append_assoc, append-nil}
use Rattle.std.proofs.lemmas.List.{drop_all, drop_more}
use Rattle.digital_out.specs.declared.want.Want.{Want}
use Rattle.digital_out.specs.Refreshes.{AreBehindWant, AreRefreshed}
use Rattle.digital_out.specs.Rising.{WantsRiseFrom}

-- what stands behind a want rises from the tick behind it
rise_later : (low : ℕ) (ws : List Want) (i : ℕ) (d : Want) → i < length ws → WantsRiseFrom low ws → WantsRiseFrom ((get_or ws i d).tick + 1) (drop (suc i) ws)
rise_later low [] i d lt rise = absurd (omega arith)
rise_later low (w ∷ ws) zero d lt rise = rise.1
rise_later low (w ∷ ws) (suc i) d lt rise = rise_later (w.tick + 1) ws i d (omega arith) rise.1

pub rise_behind : (low : ℕ) (ws : List Want) (i : ℕ) (d : Want) → i < length ws → WantsRiseFrom low ws → WantsRiseFrom ((get_or ws i d).tick + 1) (drop (i + 1) ws)
rise_behind low ws i d lt rise = let e : suc i ≡ i + 1 = omega arith in subst (λ (n : ℕ). WantsRiseFrom ((get_or ws i d).tick + 1) (drop n ws)) e (rise_later low ws i d lt rise)

-- the commands of one want more
pub refreshed_more : (every : ℕ) (wants made mid new behind : List Want) (i : ℕ) (d : Want) → i < length wants
    → ((ws : List Want) → AreRefreshed every (drop i wants) ws → AreRefreshed every wants (made ++ ws)) → mid ≡ made ++ get_or wants i d ∷ [] → new ≡ mid ++ behind
    → AreBehindWant every (get_or wants i d) (drop (i + 1) wants) behind → (ws : List Want) → AreRefreshed every (drop (i + 1) wants) ws → AreRefreshed every wants (new ++ ws)
refreshed_more every wants made mid new behind i d lt before first second is ws rest =
    let w = get_or wants i d in
    let joined : new ++ ws ≡ made ++ (w ∷ behind ++ ws) = rw (second, first) (append_assoc (made ++ w ∷ []) behind ws ∙ append_assoc made (w ∷ []) (behind ++ ws)) in
    let Of : List Want → Type 0 = λ rs. AreRefreshed every rs (w ∷ behind ++ ws) in
    let All : List Want → Type 0 = λ us. AreRefreshed every wants us in
    subst All (sym joined) (before (w ∷ behind ++ ws) (subst Of (sym (drop_more wants i d lt)) (behind, ws, refl, is, rest)))

pub refreshed_all : (every : ℕ) (wants made : List Want) (i : ℕ) → length wants ≤ i → ((ws : List Want) → AreRefreshed every (drop i wants) ws → AreRefreshed every wants (made ++ ws)) → AreRefreshed every wants made
refreshed_all every wants made i over before =
    let Of : List Want → Type 0 = λ rs. AreRefreshed every rs [] in
    subst (λ (us : List Want). AreRefreshed every wants us) (append-nil made) (before [] (subst Of (sym (drop_all i wants over)) refl))
