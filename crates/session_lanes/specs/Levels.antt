-- What the levels of a run in threads hand on.
use Rattle.std.specs.Prelude.{◌≡◌, ℕ, ◌+◌, ◌<◌, ◌≤◌, true, Option, Some, List, [], ◌∷◌, length, vec_len, vec_capacity, get_or}
use Rattle.std.specs.VecDeque.{deque_capacity}
use Rattle.lane_queue.specs.declared.ends.Lane.{Lane}
use Rattle.lane_queue.specs.declared.passes.SendPass.{SendPass}
use Rattle.session_work.specs.declared.machines.LinkMachine.{Ghosts as Link}
use Rattle.session_work.specs.declared.machines.MotionMachine.{Ghosts as Motion}
use Rattle.session_work.specs.declared.machines.ReactorMachine.{Ghosts as Reactor}
use Rattle.session_work.specs.declared.machines.Outside.{Ghosts as Out}
use Rattle.msg_code.specs.declared.unit.Control.{Control}
use Rattle.session_work.specs.declared.ends.Lanes.{Lanes}
use Rattle.session_work.specs.declared.head.Head.{Head}
use Rattle.session_work.specs.declared.link.LinkDone.{LinkDone}
use Rattle.session_lanes.specs.declared.near.Far.{Far}
use Rattle.session_lanes.specs.declared.near.Home.{Home}
use Rattle.session_lanes.specs.declared.near.Reached.{Reached}
use Rattle.session_lanes.specs.declared.near.Reached.TheVariants as reached
use Rattle.session_work.specs.Bares.{bare_control}
use Rattle.session_work.specs.Links.{IsLinkAt}
use Rattle.session_work.specs.Motions.{IsMotionAt}
use Rattle.session_work.specs.Reactors.{IsReactorAt}
use Rattle.session_work.specs.Rows.{HasPut}
use Rattle.session_lanes.specs.Runs.{IsNear}

-- so many turns of the motion worker wait at most, where one thread makes all turns
abbrev pub most_late : ℕ
most_late = 128

module _ {M L A O : Type 0} where
  -- everything stands before turn 0, the motion machine wants word 0 first, and there is room for what comes back
  abbrev pub IsFar : Motion M → Reactor A → Out O → Lanes → Far M L A O → Type 0
  IsFar m a o lanes f =
      IsMotionAt m lanes 0 f.motion.seat.machine f.motion
      × IsReactorAt a o lanes 0 f.hand.head f.hand
      × (m.wants f.motion.seat.machine 0 ≡ Some 0)
      × (f.logs.items ≡ []) × (vec_len f.logs ≡ 0) × (length lanes.batches.now ≤ vec_capacity f.logs)
      × (f.home.items ≡ []) × (vec_len f.home ≡ 0) × (length lanes.batches.now ≤ vec_capacity f.home)
      × (f.hand.next ≡ 0)
      × (f.motion.late.items ≡ []) × (most_late ≤ deque_capacity f.motion.late)

module _ {L : Type 0} where
  -- the links of the boards from j on stand before turn 0
  abbrev pub AreLinks : Link L → ℕ → Lanes → List (LinkDone L) → Type 0
  AreLinks l j lanes ds =
      (i : ℕ) (d : LinkDone L) → i < length ds →
      IsLinkAt l.turns 0 lanes (j + i) (get_or ds i d).machine (get_or ds i d)

module _ {M L A O : Type 0} where
  -- the machines came back as they were, and the lanes of the boards below j have a control that ends the
  -- run, and no other
  abbrev pub IsHome : ℕ → ℕ → Lanes → M → List L → Head A O → Home M L A O → Type 0
  IsHome n j lanes s ls h x =
      (x.motion ≡ s) × (x.links.items ≡ ls) × (x.head ≡ h) × (length x.control_sends.items ≡ j)
      × ((i : ℕ) (c : Lane Control) (p : SendPass Control) → i < length x.control_sends.items →
      HasPut (bare_control 0 true ∷ []) (get_or lanes.controls.now i c) (get_or x.control_sends.items i p))
      × (vec_len x.links + j ≤ vec_capacity x.links)

  module _ (m : Motion M) (l : Link L) (a : Reactor A) (o : Out O) where
    -- the run of the boards from j on, or the machines, where a start was refused
    abbrev pub IsReached : ℕ → ℕ → Lanes → M → List L → Head A O → Reached M L A O → Type 0
    IsReached n j lanes s ls h (reached.Ran x) = IsNear m l a o n j lanes s ls h x
    IsReached n j lanes s ls h (reached.Home x) = IsHome n j lanes s ls h x
