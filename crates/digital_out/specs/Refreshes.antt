-- Commands that keep an output alive.
use Rattle.std.specs.Prelude.{◌≡◌, ℕ, ◌+◌, ◌<◌, ◌≤◌, Bool, true, false, List, [], ◌∷◌, ◌++◌}
use Rattle.digital_out.specs.declared.want.Want.{Want}

-- a level from a tick on
abbrev pub wanted : ℕ → Bool → Want
wanted at level = record { tick = at; on = level }

-- commands that hold an output on, every so many ticks behind one tick and before another
abbrev pub AreOns : ℕ → ℕ → ℕ → List Want → Type 0
AreOns every from until [] = until ≤ from + every
AreOns every from until (w ∷ ws) =
    (w ≡ wanted (from + every) true) × (from + every < until) × AreOns every (from + every) until ws

-- the commands behind a want that is on: up to the next want, or where it is the last one a further one and then off
abbrev pub AreBehindOn : ℕ → ℕ → List Want → List Want → Type 0
AreBehindOn every from [] behind = behind ≡ wanted (from + every) true ∷ wanted (from + every + every) false ∷ []
AreBehindOn every from (next ∷ ws) behind = AreOns every from next.tick behind

-- the commands behind a want: those of an output that is on, and none of one that is off
abbrev pub AreBehindBy : Bool → ℕ → ℕ → List Want → List Want → Type 0
AreBehindBy true every from others behind = AreBehindOn every from others behind
AreBehindBy false every from others behind = behind ≡ []

-- the commands behind a want, which has these behind it
abbrev pub AreBehindWant : ℕ → Want → List Want → List Want → Type 0
AreBehindWant every w others behind = AreBehindBy w.on every w.tick others behind

-- the wants with the commands that keep the output alive
abbrev pub AreRefreshed : ℕ → List Want → List Want → Type 0
AreRefreshed every [] commands = commands ≡ []
AreRefreshed every (w ∷ ws) commands =
    (behind rest : List Want) × (commands ≡ w ∷ behind ++ rest) × AreBehindWant every w ws behind
    × AreRefreshed every ws rest

-- the off behind the last command, where the output is on
abbrev pub off_by : ℕ → ℕ → Bool → List Want
off_by every from true = wanted (from + every + every) false ∷ []
off_by every from false = []

-- the off behind the last want, where that is on
abbrev pub off_behind : ℕ → List Want → List Want
off_behind every [] = []
off_behind every (w ∷ []) = off_by every w.tick w.on
off_behind every (w ∷ v ∷ ws) = off_behind every (v ∷ ws)
