-- Notes that begin sections begin them where no homing section is known, and so that their groups answer of no expiry.
use Rattle.std.proofs.Common.{◌≡◌, ◌⊎◌, ℕ, ◌+◌, ◌<◌, ◌≤◌, List, [], ◌∷◌, ◌++◌, length, append_assoc, Option, Some, None, refl, sym, ◌∙◌, subst, arith, inl, inr}
use Rattle.laws_board.proofs.Names.{Machine, Home, Clocks, Switch, Homing, Connecting, news_of, noted, Came, GoesOn, known_by, Started, MotionTurn}
use Rattle.laws_board.specs.plans.Planned.{Plans}
use Rattle.laws_homing.specs.home_runs.Words.{BeginsNone}
use Rattle.laws_homing.specs.home_plans.Notes.{CameNotes, IsNoteOf}
use Rattle.laws_board.specs.plans.Rows.{AreInARow}
use Rattle.laws_homing.specs.home_parts.Answers.{ArePastConnecting, IsPlannedBy}
use Rattle.laws_homing.specs.clear_groups.Runs.{BeginsWell, IsBegunWell, IsTracked}
use Rattle.laws_homing.proofs.home_plans.Fresh.{IsFresh, note_begins}
use Rattle.laws_homing.proofs.home_parts.Apart.{IsOpen, none_open, open_in, row_of}

module _ (m : Machine) (switches : List Switch) (ts : List MotionTurn) (p : Plans m (length m.boards) ts) (lines : ℕ → ℕ → Clocks) (ready till first : ℕ) (early : ready + 260 ≤ first) (row : AreInARow first p.seen.begun)
    (lasts : (past : List Started) (s : Started) (later : List Started) (axis : ℕ) → p.seen.begun ≡ past ++ s ∷ later → s.section.kind ≡ Home axis
    → (s.start ≤ s.last) × ((b : ℕ) → b < length m.boards → IsTracked m b (lines s.start b) (ready + 1) s.last till)) (came : List Came) (by : IsPlannedBy m switches (length m.boards) ts p came)
    (connected : ArePastConnecting m switches ready came) where
  one_well : (c : Came) (before : List Came) → IsNoteOf p.seen.begun (length before) c.note → IsOpen p.seen.begun (length before + 258) (length before) (known_by m switches before).homing
      → (ready < length before → (known_by m switches before).phase ≡ Connecting → ⊥)
      → BeginsNone (news_of c.note) ⊎ (((known_by m switches before).homing ≡ None) × ((h : Homing) → (noted m c.note (known_by m switches before)).homing ≡ Some h → IsBegunWell m switches lines (ready + 1) till before h))
  one_well c before is i past = elim (note_begins m p.seen.begun (length before) c.note (known_by m switches before) is) [
    | inl none ↦ inl none
    | inr x ↦ inr (none_open m switches ts p ready first early row came by connected (length before) (known_by m switches before).homing x.past x.s x.later x.are x.start i, λ h e. well h (subst (λ (o : Option Homing). IsFresh p.seen.begun (length before + 259) o) e x.fresh))
  ]
    where
      well : (h : Homing) → IsFresh p.seen.begun (length before + 259) (Some h) → IsBegunWell m switches lines (ready + 1) till before h
      well h f =
          let k = length before in
          let at = f.6 in
          let start = f.7 in
          let last = f.8 in
          let after = (row_of first p.seen.begun f.0 f.1 f.2 row f.4).0 in
          let both = lasts f.0 f.1 f.2 f.3 f.4 f.5 in
          let goes_so = both.0 in
          let Tracked : ℕ → ℕ → Type 0 = λ at n. (b : ℕ) → b < length m.boards → IsTracked m b (lines at b) (ready + 1) n till in
          record {
            connected = past (omega (arith, at, after, early));
            late = omega (arith, at, after, early);
            soon = omega (arith, at, start);
            far = omega (arith, at, start, after, early);
            goes = omega (arith, start, last, goes_so);
            tracked = subst (λ (n : ℕ). Tracked n h.group.last) (sym start) (subst (λ (n : ℕ). Tracked f.1.start n) (sym last) both.1);
          }

  pub wells : (ahead behind : List Came) → came ≡ ahead ++ behind → GoesOn m switches behind → CameNotes p.seen.begun behind → ArePastConnecting m switches ready behind → BeginsWell m switches lines (ready + 1) till behind
  wells ahead [] are on notes past = tt
  wells ahead (c ∷ before) are on notes past =
      let rest : came ≡ (ahead ++ c ∷ []) ++ before = are ∙ sym (append_assoc ahead (c ∷ []) before) in
      (one_well c before notes.0 (open_in m switches ts p ready first early row came by connected (ahead ++ c ∷ []) before rest on.1 notes.1) past.0, wells (ahead ++ c ∷ []) before rest on.1 notes.1 past.1)

  -- so do all notes up to the turn behind these
  pub begin_well : (c : Came) → IsNoteOf p.seen.begun (length came) c.note → ((known_by m switches came).phase ≡ Connecting → ⊥) → BeginsWell m switches lines (ready + 1) till (c ∷ came)
  begin_well c is past = (one_well c came is (open_in m switches ts p ready first early row came by connected [] came refl by.goes_on by.notes) (λ low. past), wells [] came refl by.goes_on by.notes connected)
