-- What a link worker took and put.
use Rattle.std.specs.Prelude.{◌≡◌, ◌⊎◌, ℕ, ◌<◌, Bool, true, false, List, [], ◌∷◌, ◌++◌, length, get_or}
use Rattle.std.specs.List.{All}
use Rattle.lane_queue.specs.declared.ends.Lane.{Lane}
use Rattle.msg_code.specs.declared.unit.Batch.{Batch}
use Rattle.msg_code.specs.declared.unit.Control.{Control}
use Rattle.msg_code.specs.declared.talk.State.{State}
use Rattle.session_work.specs.declared.table.LinkTurn.{LinkTurn}
use Rattle.session_work.specs.declared.ends.Lanes.{Lanes}
use Rattle.session_work.specs.declared.link.LinkDone.{LinkDone}
use Rattle.session_work.specs.Bares.{bare_state}
use Rattle.session_work.specs.Rows.{gather, HasPut, HasTaken}
use Rattle.session_work.specs.Turns.{Goes}

-- what a link worker took and put in a turn: a control, a batch and a state
abbrev pub link_turn_of : Control → Batch → State → LinkTurn
link_turn_of c b s = record { control = c; batch = b; state = s }

-- there is a board j, with its three lanes
abbrev pub IsBoard : Lanes → ℕ → Type 0
IsBoard lanes j = (j < length lanes.controls.now) × (j < length lanes.batches.now) × (j < length lanes.states.now)

module _ {L : Type 0} (turns : L → ℕ → Control → Batch → State → L → Type 0) where
  -- A turn of a link, and whether it wanted memory before and wants it now. A link that wants memory says so,
  -- and goes on saying so.
  abbrev pub LinkStep : ℕ → L × Bool → LinkTurn → L × Bool → Type 0
  LinkStep k x t y =
      (t.control.end ≡ false)
      × (((x.1 ≡ false) × (y.1 ≡ false) × (t.state.out ≡ false) × turns x.0 k t.control t.batch t.state y.0)
      ⊎ ((y.1 ≡ true) × (t.state ≡ bare_state k true)))

  -- These turns were made at the lanes of board j, and then these controls were taken, which end the run.
  abbrev pub LinkWent : List LinkTurn → List Control → Lanes → ℕ → L → LinkDone L → Type 0
  LinkWent ts last lanes j l d =
      ((c : Lane Control) →
      HasTaken (gather (λ t. t.control ∷ []) ts ++ last) (get_or lanes.controls.now j c) d.control_pass)
      × ((b : Lane Batch) → HasTaken (gather (λ t. t.batch ∷ []) ts) (get_or lanes.batches.now j b) d.batch_pass)
      × ((s : Lane State) → HasPut (gather (λ t. t.state ∷ []) ts) (get_or lanes.states.now j s) d.state_pass)
      × Goes LinkStep 0 (l, false) ts (d.machine, d.out)

  -- so many turns were made
  abbrev pub IsLinkAt : ℕ → Lanes → ℕ → L → LinkDone L → Type 0
  IsLinkAt k lanes j l d = (ts : List LinkTurn) × (length ts ≡ k) × LinkWent ts [] lanes j l d

  -- what was put is what the machine answers for what was taken
  abbrev pub IsLinkDone : Lanes → ℕ → L → LinkDone L → Type 0
  IsLinkDone lanes j l d = (ts : List LinkTurn) × (last : List Control) × LinkWent ts last lanes j l d

  -- the last control that was taken ends the run, and no other
  abbrev pub IsLinkEnded : Lanes → ℕ → L → LinkDone L → Type 0
  IsLinkEnded lanes j l d =
      (ts : List LinkTurn) × (last : Control) × (last.end ≡ true) × LinkWent ts (last ∷ []) lanes j l d
