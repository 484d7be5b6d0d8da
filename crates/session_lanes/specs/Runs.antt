-- What a whole run tells, whatever threads it ran in.
use Rattle.std.specs.Prelude.{◌≡◌, ℕ, ◌+◌, ◌<◌, ◌≤◌, false, Bool, Some, List, [], ◌∷◌, ◌++◌, length, vec_len, vec_capacity, get_or}
use Rattle.lane_queue.specs.declared.ends.Lane.{Lane}
use Rattle.lane_queue.specs.declared.passes.SendPass.{SendPass}
use Rattle.lane_queue.specs.declared.passes.TakePass.{TakePass}
use Rattle.lane_queue.specs.Order.{IsPrefix}
use Rattle.session_work.specs.declared.machines.LinkMachine.{Ghosts as Link}
use Rattle.session_work.specs.declared.machines.MotionMachine.{Ghosts as Motion}
use Rattle.session_work.specs.declared.machines.ReactorMachine.{Ghosts as Reactor}
use Rattle.session_work.specs.declared.machines.Outside.{Ghosts as Out}
use Rattle.msg_code.specs.declared.unit.Batch.{Batch}
use Rattle.msg_code.specs.declared.unit.Control.{Control}
use Rattle.msg_code.specs.declared.talk.State.{State}
use Rattle.session_work.specs.declared.ends.Lanes.{Lanes}
use Rattle.session_work.specs.declared.head.Head.{Head}
use Rattle.session_lanes.specs.declared.near.LinkLog.{LinkLog}
use Rattle.session_lanes.specs.declared.near.Ran.{Ran}
use Rattle.session_lanes.specs.declared.near.Told.{Told}
use Rattle.session_lanes.specs.declared.near.Near.{Near}
use Rattle.session_work.specs.declared.seat.Seat.{Seat}
use Rattle.session_work.specs.declared.table.LinkTurn.{LinkTurn}
use Rattle.session_work.specs.declared.table.MotionTurn.{MotionTurn}
use Rattle.session_work.specs.declared.table.ReactorTurn.{ReactorTurn}
use Rattle.session_work.specs.Heads.{ReactorStep}
use Rattle.session_work.specs.Links.{LinkStep}
use Rattle.session_work.specs.Motions.{MotionStep, seated}
use Rattle.session_work.specs.Leads.{last_controls, last_words}
use Rattle.session_work.specs.Reactors.{answered_ends}
use Rattle.session_work.specs.Rows.{gather, item, option_items, HasPut, HasTaken}
use Rattle.session_work.specs.Turns.{Goes}

module _ {A O : Type 0} where
  -- a reactor before turn 0, with what its thread reaches outside
  abbrev pub head_at : A → O → Head A O
  head_at a o = record { machine = a; outside = o; stopped = false }

  -- what a run tells, with what its reactor reached outside
  abbrev pub ran_at : Told A → O → Ran A O
  ran_at t o =
      record {
        links = t.links;
        words = t.words;
        notes = t.notes;
        pieces = t.pieces;
        head = record { machine = t.machine; outside = o; stopped = t.stopped };
        cause = t.cause;
      }

-- these messages were put and these taken, and what was taken is the beginning of what was put
abbrev pub Carried : {T : Type 0} → List T × List T → List T → List T → Type 0
Carried s put taken = (s.0 ≡ put) × (s.1 ≡ taken) × IsPrefix s.1 s.0

module _ {M L A O : Type 0} (m : Motion M) (l : Link L) (a : Reactor A) (o : Out O) where
  -- the turns of the motion worker, those of the reactor before its last one, this one, and how many turns it was ahead
  module _ (ts : List MotionTurn) (rs : List ReactorTurn) (end : ReactorTurn) (n : ℕ) where
    -- The lanes of board j carried what the reactor and the motion worker put and took in these turns, and
    -- the link made turns of its own with what it took of it. The last control may be one that ends the run.
    abbrev pub IsLog : ℕ → L → LinkLog → Type 0
    IsLog j s x =
        (us : List LinkTurn) × (last : List Control) × ((e : L × Bool) × Goes (LinkStep l.turns) 0 (s, false) us e)
        × Carried x.controls (gather (λ t. item j t.controls) rs ++ last_controls (length rs) n)
        (gather (λ u. u.control ∷ []) us ++ last)
        × Carried x.batches (gather (λ t. item j t.batches) ts) (gather (λ u. u.batch ∷ []) us)
        × Carried x.states (gather (λ u. u.state ∷ []) us) (gather (λ t. item j t.states) (rs ++ end ∷ []))

    -- a log of each link, from board j on
    abbrev pub AreLogs : ℕ → List L → List LinkLog → Type 0
    AreLogs j [] [] = Unit {0}
    AreLogs j [] (x ∷ xs) = ⊥
    AreLogs j (s ∷ ss) [] = ⊥
    AreLogs j (s ∷ ss) (x ∷ xs) = IsLog j s x × AreLogs (j + 1) ss xs

    -- the motion worker made the one turns and the reactor the others, of n boards, and their lanes carried
    -- what they put and took
    abbrev pub Met : ℕ → M → Head A O → Ran A O → Type 0
    Met boards s h r =
        ((e : Seat M) × Goes (MotionStep m boards) 0 (seated m s) ts e)
        × Goes (ReactorStep a o boards) 0 h (rs ++ end ∷ []) r.head
        × (answered_ends rs ≡ []) × (end.end ≡ Some r.cause)
        × Carried r.words (gather (λ t. t.word ∷ []) rs ++ last_words (length rs) n) (gather (λ t. t.words) ts)
        × Carried r.notes (gather (λ t. t.note ∷ []) ts) (gather (λ t. option_items t.note) (rs ++ end ∷ []))
        × Carried r.pieces (gather (λ t. t.pieces) (rs ++ end ∷ [])) (gather (λ t. t.pieces) ts)

    -- the passes of the boards below j show what was put and taken
    abbrev pub Unsettled : ℕ → Lanes → Near A O → Type 0
    Unsettled j lanes x =
        (length x.control_sends.items ≡ j)
        × ((i : ℕ) (l : Lane Control) (p : SendPass Control) → i < length x.control_sends.items →
        HasPut (gather (λ t. item i t.controls) rs ++ last_controls (length rs) n) (get_or lanes.controls.now i l)
        (get_or x.control_sends.items i p))
        × (length x.batch_sends.items ≡ j)
        × ((i : ℕ) (l : Lane Batch) (p : SendPass Batch) → i < length x.batch_sends.items →
        HasPut (gather (λ t. item i t.batches) ts) (get_or lanes.batches.now i l) (get_or x.batch_sends.items i p))
        × (length x.state_takes.items ≡ j)
        × ((i : ℕ) (l : Lane State) (p : TakePass State) → i < length x.state_takes.items →
        HasTaken (gather (λ t. item i t.states) (rs ++ end ∷ [])) (get_or lanes.states.now i l)
        (get_or x.state_takes.items i p))
        × (vec_len x.ran.links + j ≤ vec_capacity x.ran.links)

  -- A run from these machines: of turns of the motion worker and of the reactor.
  abbrev pub IsRun : M → List L → Head A O → Ran A O → Type 0
  IsRun s ls h r =
      (ts : List MotionTurn) × (rs : List ReactorTurn) × (end : ReactorTurn) × (n : ℕ)
      × Met ts rs end n (length ls) s h r × AreLogs ts rs end n 0 ls r.links.items

  -- the boards from j on are settled, of so many
  abbrev pub IsNear : ℕ → ℕ → Lanes → M → List L → Head A O → Near A O → Type 0
  IsNear boards j lanes s ls h x =
      (ts : List MotionTurn) × (rs : List ReactorTurn) × (end : ReactorTurn) × (n : ℕ)
      × Met ts rs end n boards s h x.ran × AreLogs ts rs end n j ls x.ran.links.items × Unsettled ts rs end n j lanes x
