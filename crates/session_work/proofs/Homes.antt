-- A worker whose first message ends the run leaves its machine as it was.
use Rattle.std.proofs.Common.{◌≡◌, ◌⊎◌, ℕ, ◌+◌, Bool, true, false, true≢false, cond, nat_lt, Option, Some, List, [], ◌∷◌, ◌++◌, refl, sym, ap, subst, ◌∙◌, ⊎_elim, length, arith}
use Rattle.lane_queue.specs.Order.{IsPrefix}
use Rattle.session_work.specs.declared.machines.MotionMachine.{Ghosts}
use Rattle.msg_code.specs.declared.unit.Batch.{Batch}
use Rattle.msg_code.specs.declared.unit.Control.{Control}
use Rattle.msg_code.specs.declared.talk.State.{State}
use Rattle.msg_code.specs.declared.talk.WordMsg.{WordMsg}
use Rattle.msg_code.specs.declared.talk.Note.{Note}
use Rattle.msg_code.specs.declared.talk.Piece.{Piece}
use Rattle.session_work.specs.declared.seat.Seat.{Seat}
use Rattle.session_work.specs.declared.table.LinkTurn.{LinkTurn}
use Rattle.session_work.specs.declared.table.MotionTurn.{MotionTurn}
use Rattle.session_work.specs.Bares.{bare_control, bare_word}
use Rattle.session_work.specs.Links.{LinkStep}
use Rattle.session_work.specs.Motions.{Hearing, Feeding, MotionStep, seated}
use Rattle.session_work.specs.Rows.{gather}
use Rattle.session_work.specs.Seats.{needs, hungers, is_wanted, WordStep, MakeStep}
use Rattle.session_work.specs.Turns.{Goes}
use Rattle.plan_types.proofs.Facts.{none_long}

first_ends : List Control → Bool
first_ends [] = false
first_ends (c ∷ cs) = c.end

first_halts : List WordMsg → Bool
first_halts [] = false
first_halts (w ∷ ws) = w.end

not_both : {P : Type 0} (b : Bool) → b ≡ true → b ≡ false → P
not_both b t f = absurd (true≢false (sym t ∙ f))

module _ {L : Type 0} (turns : L → ℕ → Control → Batch → State → L → Type 0) where
  pub link_untouched : (s : L) (us : List LinkTurn) (last : List Control) (e : L × Bool) → Goes (LinkStep turns) 0 (s, false) us e → IsPrefix (gather (λ u. u.control ∷ []) us ++ last) (bare_control 0 true ∷ []) → e.0 ≡ s
  unfolding first_ends
  link_untouched s [] last e g p = sym (ap (λ (x : L × Bool). x.0) g)
  link_untouched s (u ∷ us) last e g p = not_both u.control.end (sym (ap first_ends p.1)) g.1.0

module _ {M : Type 0} (m : Ghosts M) where
  calm : (k : ℕ) (x : Seat M) → x.halted ≡ true → needs m.wants k x ≡ true → ⊥
  calm k x h n = true≢false (sym n ∙ ap (λ b. cond b false (cond x.quiet (nat_lt (x.heard + 63) k) (is_wanted (m.wants x.machine k) x.heard))) h)

  sated : (k : ℕ) (x : Seat M) → x.halted ≡ true → hungers m.hungry k x ≡ true → ⊥
  sated k x h n = true≢false (sym n ∙ ap (λ b. cond b false (cond x.quiet false (m.hungry x.machine k))) h)

  halted_hears : (k : ℕ) (x : Seat M) (ws : List WordMsg) (a : Seat M) → x.halted ≡ true → Goes (λ _ u w v. (needs m.wants k u ≡ true) × WordStep m.hears u w v) 0 x ws a → x ≡ a
  halted_hears k x [] a h g = g
  halted_hears k x (w ∷ ws) a h g = absurd (calm k x h g.1.0)

  halted_hears_on : (k j : ℕ) (x : Seat M) (ws : List WordMsg) (a : Seat M) → x.halted ≡ true → Goes (λ _ u w v. (needs m.wants k u ≡ true) × WordStep m.hears u w v) j x ws a → x ≡ a
  halted_hears_on k j x [] a h g = g
  halted_hears_on k j x (w ∷ ws) a h g = absurd (calm k x h g.1.0)

  halted_feeds : (k : ℕ) (x : Seat M) (ps : List Piece) (a : Seat M) → x.halted ≡ true → Feeding m k x ps a → x ≡ a
  halted_feeds k x [] a h g = g
  halted_feeds k x (p ∷ ps) a h g = absurd (sated k x h g.1.0)

  -- the machine of a worker that halted makes nothing
  halted_makes : (n k : ℕ) (x : Seat M) (bs : List Batch) (note : Note) (y : Seat M) → x.halted ≡ true → MakeStep n m.turns k x bs note y → (y.halted ≡ true) × (y.machine ≡ x.machine)
  halted_makes n k x bs note y h s = (s.1 ∙ h, ⊎_elim (λ z. not_both x.halted h z.0) (λ z. ⊎_elim (λ v. v.1.0) (λ v. not_both x.halted h v.0) z.2) s.3)

  halted_goes : (n k : ℕ) (x : Seat M) (ts : List MotionTurn) (e : Seat M) → x.halted ≡ true → Goes (MotionStep m n) k x ts e → e.machine ≡ x.machine
  halted_goes n k x [] e h g = ap (λ (u : Seat M). u.machine) (sym g)
  halted_goes n k x (t ∷ ts) e h g =
      let step = g.1 in let a = step.0 in let b = step.1 in
      let one : x ≡ a = halted_hears k x t.words a h step.2 in
      let ha : a.halted ≡ true = ap (λ (u : Seat M). u.halted) (sym one) ∙ h in
      let two : a ≡ b = halted_feeds k a t.pieces b ha step.4 in
      let hb : b.halted ≡ true = ap (λ (u : Seat M). u.halted) (sym two) ∙ ha in
      let made = halted_makes n k b t.batches t.note g.0 hb step.6 in
      halted_goes n (k + 1) g.0 ts e made.0 g.2 ∙ (made.1 ∙ ap (λ (u : Seat M). u.machine) (sym (one ∙ two)))

  -- the first word ends the run
  first_word : (s : M) (ws : List WordMsg) (a : Seat M) (rest : List WordMsg) → m.wants s 0 ≡ Some 0 → Hearing m 0 (seated m s) ws a → needs m.wants 0 a ≡ false → IsPrefix (ws ++ rest) (bare_word 0 true ∷ []) → (a.halted ≡ true) × (a.machine ≡ s)
  unfolding first_halts
  first_word s [] a rest wants g calm_now p =
      let wanted : needs m.wants 0 (seated m s) ≡ true = ap (λ o. is_wanted o 0) wants in
      not_both (needs m.wants 0 a) (ap (needs m.wants 0) (sym g) ∙ wanted) calm_now
  first_word s (w ∷ ws) a rest wants g calm_now p =
      let halts : w.end ≡ true = sym (ap first_halts p.1) in let y = g.0 in
      let took : (y.halted ≡ true) × (y.machine ≡ s) = ⊎_elim (λ z. (z.1, z.2.0)) (λ z. not_both w.end halts z.0) g.1.1.1 in
      let same : y ≡ a = halted_hears_on 0 1 y ws a took.0 g.2 in
      (ap (λ (u : Seat M). u.halted) (sym same) ∙ took.0, ap (λ (u : Seat M). u.machine) (sym same) ∙ took.1)

  pub motion_untouched : (n : ℕ) (s : M) (ts : List MotionTurn) (e : Seat M) → m.wants s 0 ≡ Some 0 → Goes (MotionStep m n) 0 (seated m s) ts e → IsPrefix (gather (λ t. t.words) ts) (bare_word 0 true ∷ []) → e.machine ≡ s
  motion_untouched n s [] e wants g p = ap (λ (u : Seat M). u.machine) (sym g)
  motion_untouched n s (t ∷ ts) e wants g p =
      let step = g.1 in let a = step.0 in let b = step.1 in
      let one = first_word s t.words a (gather (λ u. u.words) ts) wants step.2 step.3 p in
      let two : a ≡ b = halted_feeds 0 a t.pieces b one.0 step.4 in
      let hb : b.halted ≡ true = ap (λ (u : Seat M). u.halted) (sym two) ∙ one.0 in
      let made = halted_makes n 0 b t.batches t.note g.0 hb step.6 in
      halted_goes n 1 g.0 ts e made.0 g.2 ∙ (made.1 ∙ (ap (λ (u : Seat M). u.machine) (sym two) ∙ one.1))
