-- A homing group never answers that a board expired, where no state that came tells so.
use Rattle.std.proofs.Common.{◌≡◌, ℕ, ◌+◌, ◌≤◌, List, [], ◌∷◌, ◌++◌, length, Some, refl, ap, inl, inr}
use Rattle.laws_board.proofs.Names.{Machine, clocks_at, State, Switch, Homing, answer_in, hears_all, noted, Came, GoesOn, known_by, state_at}
use Rattle.trigger_group.specs.declared.order.End.TheVariants as end
use Rattle.laws_homing.specs.clear_boards.Expiry.{CameExpiry, TellExpiry}
use Rattle.laws_homing.proofs.clear_boards.Heard.{expiry_told}

pub none_came : (m : Machine) (switches : List Switch) (b start when : ℕ) (came : List Came)
    → ((later : List Came) (d : Came) (past : List Came) → came ≡ later ++ d ∷ past → (s : State) → state_at b d.states ≡ s ∷ [] → start ≤ s.turn + 1 → TellExpiry (clocks_at (noted m d.note (known_by m switches past)).clocks b) s.turn when s.news → ⊥)
    → CameExpiry m switches b start when came → ⊥
none_came m switches b start when [] f x = x
none_came m switches b start when (c ∷ before) f (inl x) = f [] c before refl x.0 x.1 x.2 x.3
none_came m switches b start when (c ∷ before) f (inr x) = none_came m switches b start when before (λ later d past e. f (c ∷ later) d past (ap (λ (y : List Came). c ∷ y) e)) x

pub never_expires : (m : Machine) (switches : List Switch) (c : Came) (before : List Came) (h : Homing) (b turn : ℕ) → GoesOn m switches before → (noted m c.note (known_by m switches before)).homing ≡ Some h
    → ((when : ℕ) → when ≤ h.group.last → (later : List Came) (d : Came) (past : List Came) → c ∷ before ≡ later ++ d ∷ past → (s : State) → state_at b d.states ≡ s ∷ [] → h.start ≤ s.turn + 1
    → TellExpiry (clocks_at (noted m d.note (known_by m switches past)).clocks b) s.turn when s.news → ⊥)
    → answer_in (length before) h.start (hears_all (noted m c.note (known_by m switches before)).clocks c.states h).group ≡ Some (end.Expired b turn) → ⊥
never_expires m switches c before h b turn on is none ends =
    let told = expiry_told m switches c before h b turn on is ends in
    none_came m switches b h.start turn (c ∷ before) (none turn told.0) told.1
