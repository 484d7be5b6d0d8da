-- In any scene a homing group knows of no member whose trigger can trigger that it has triggered.
use Rattle.std.proofs.Common.{◌≡◌, ℕ, true, ◌≤◌, ◌⊎◌, inl, inr, List, [], ◌∷◌, Option, Some, None, refl, subst, arith}
use Rattle.std.specs.Prelude.{nat_le}
use Rattle.laws_board.proofs.Names.{leb_tells, Level, Machine, IsValidMachine, axis_at, board_at, Entry, Switch, trigger_of, Slot, slot_at, first_state, Fired, Seen, Homing, hears_all, members_of, noted, Came, known_by, state_at, no_both}
use Rattle.trigger_group.specs.Group.{fired_by}
use Rattle.laws_board.specs.turns.Turns.{BoardTurn, latest_state, stands_after}
use Rattle.laws_board.specs.clocks.Runs.{IsInRun}
use Rattle.laws_homing.specs.home_runs.Told.{IsMember}
use Rattle.laws_homing.specs.clear_boards.Hearing.{KnownOn, NoneOn}
use Rattle.laws_homing.specs.fired_runs.Since.{AreNotAhead, AreReadTrue, BeginsApart}
use Rattle.laws_homing.specs.switch_runs.Reports.{WasReported}
use Rattle.laws_homing.proofs.fired_runs.Reported.{Each, all_told}
use Rattle.laws_homing.proofs.fired_runs.Rested.{reported_fired}
use Rattle.plan_types.proofs.Facts.{is_le}

none_of : (W : ℕ → Fired → Type 0) (own b : ℕ) (xs : List Seen) → Each W own xs → ((f : Fired) → W b f → ⊥) → NoneOn b xs
none_of W own b [] given never = tt
none_of W own b (x ∷ xs) given never = ((λ on. by on x.fired refl), none_of W own b xs given.1 never)
  where
    by : x.member.board ≡ b → (o : Option Fired) → x.fired ≡ o → o ≡ None
    by on None e = refl
    by on (Some f) e = absurd (never f (subst (λ (n : ℕ). W n f) on (given.0.0 f e)))

pub known_of : (W : ℕ → Fired → Type 0) (own b last : ℕ) (xs : List Seen) → Each W own xs → ((f : Fired) → W b f → f.turn ≤ last) → KnownOn b last xs
known_of W own b last [] given early = tt
known_of W own b last (x ∷ xs) given early = ((λ on. by on x.fired refl), known_of W own b last xs given.1 early)
  where
    by : x.member.board ≡ b → (o : Option Fired) → x.fired ≡ o → (fired_by last o ≡ true) ⊎ (o ≡ None)
    by on None e = inr refl
    by on (Some f) e = inl (is_le f.turn last (early f (subst (λ (n : ℕ). W n f) on (given.0.0 f e))))

module _ (m : Machine) (v : IsValidMachine m) (switches : List Switch) (pins : List (List Level)) (entries : List Entry) (b : ℕ) where
  pub unheard_at : (c : Came) (before : List Came) (turns : List BoardTurn) (h : Homing) → IsInRun m switches pins entries b before turns → state_at b c.states ≡ latest_state turns → BeginsApart m switches (c ∷ before) → AreReadTrue m switches b (c ∷ before) turns
      → AreNotAhead m switches b (c ∷ before) → (noted m c.note (known_by m switches before)).homing ≡ Some h → IsMember b (members_of h.group) → (u : Slot) → slot_at (stands_after (first_state (board_at m b) pins b entries) turns).core.board (trigger_of m b) ≡ Some u
      → u.trigger.can ≡ true → NoneOn b (hears_all (noted m c.note (known_by m switches before)).clocks c.states h).group.members
  unheard_at c before turns h r latest apart reads behind is member u there can =
      none_of (λ n f. WasReported m switches n h.start f (c ∷ before)) (axis_at m h.axis).board b (hears_all (noted m c.note (known_by m switches before)).clocks c.states h).group.members (all_told m switches c before h r.goes_on is)
      (λ f told. (
      let since = reported_fired m v switches pins entries b c before turns h f r latest apart reads behind is member told in
      no_both u.trigger.can can (since.at_rest.off u there)))
