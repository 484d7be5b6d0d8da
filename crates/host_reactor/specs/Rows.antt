-- What a reactor orders in a turn, board by board, and for which causes it ends a run.
use Rattle.std.specs.Prelude.{◌≡◌, ◌⊎◌, ℕ, Bool, List, [], ◌∷◌, length, Option, Some, None}
use Rattle.plan_types.specs.declared.machine.Machine.{Machine}
use Rattle.plan_types.specs.declared.cause.Cause.{Cause}
use Rattle.plan_types.specs.declared.cause.Cause.TheVariants as cause
use Rattle.msg_code.specs.declared.unit.Control.{Control}
use Rattle.host_reactor.specs.declared.ordered.Phase.TheVariants.{Connecting}
use Rattle.host_reactor.specs.declared.ordered.Known.{Known}
use Rattle.host_reactor.specs.declared.ordered.Ordered.{Ordered}
use Rattle.host_reactor.specs.Reactor.{is_end}

-- there is an asking for each board and, once connecting ended, clock lines for each
pub record HasEachBoard (m : Machine) (r : Known) : Type 0 where
  pub askings : length r.askings.items ≡ length m.boards
  pub clocks : (r.phase ≡ Connecting) ⊎ (length r.clocks ≡ length m.boards)

-- controls of a turn, each of which says whether the run ends
abbrev pub AreControls : ℕ → Bool → List Control → Type 0
AreControls k end [] = Unit {0}
AreControls k end (c ∷ controls) = (c.turn ≡ k) × (c.end ≡ end) × AreControls k end controls

-- what is ordered in a turn: a control for each board and a word, all of this turn, which say whether the run ends
pub record IsRow (m : Machine) (k : ℕ) (o : Ordered) : Type 0 where
  pub count : length o.controls ≡ length m.boards
  pub controls : AreControls k (is_end o.end) o.controls
  pub turn : o.word.turn ≡ k
  pub end : o.word.end ≡ is_end o.end

-- a cause that a run has of itself: no fault of the reading or the writing, and no refusal of words or of a
-- file before it
abbrev pub IsOwn : Cause → Type 0
IsOwn cause.Usage = ⊥
IsOwn cause.ReadFault = ⊥
IsOwn cause.WriteFault = ⊥
IsOwn (cause.Config line kind) = ⊥
IsOwn (cause.Scene line kind) = ⊥
IsOwn _ = Unit {0}

-- a run ends for want of memory, for what the reactor was told, or, where it was told nothing, for a cause of its own
abbrev pub MayEndFor : Option Cause → Cause → Type 0
MayEndFor stopped c = (c ≡ cause.Memory) ⊎ ((stopped ≡ Some c) ⊎ ((stopped ≡ None) × IsOwn c))
