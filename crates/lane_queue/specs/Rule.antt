-- The rule of a lane, which each step of each thread keeps, in every schedule.
use Rattle.std.specs.Prelude.{◌≡◌, ℕ, ◌≤◌, Bool, true, false, Option, Some, None, List, [], ◌∷◌, ◌++◌, length}
use mathlib.Core.Option.{some}
use lib.ListN.{get_elem?}
use Rattle.lane_queue.specs.declared.rule.Side.{Side}
use Rattle.lane_queue.specs.declared.rule.Log.{Log}
use Rattle.lane_queue.specs.Order.{RunsFrom}

module _ {T : Type 0} where
  -- what a pass knows of a side: whether it may step there, the lane's first number, and the messages that passed
  abbrev pub side : Bool → ℕ → List T → Side T
  side may first list = record { may = may; first = first; list = list }

  -- what a pass knows: the lane's room, the side that puts, and the side that takes
  abbrev pub log : ℕ → Side T → Side T → Log T
  log room put taken = record { room = room; put = put; taken = taken }

  -- what a pass knows of a side on which it may do nothing
  abbrev pub nothing : Side T
  nothing = side false 0 []

  -- what a pass knows of a side once one more message has passed there
  abbrev pub grown : Side T → T → Side T
  grown s x = side s.may s.first (s.list ++ x ∷ [])

  -- the same, where there is a message
  abbrev pub grown_by : Side T → Option T → Side T
  grown_by s None = s
  grown_by s (Some x) = grown s x

  -- a pass that may step on a side is the only one, and knows the number of the first message and all that passed there
  abbrev pub Knows : ℕ → ℕ → List T → ℕ → Side T → Type 0
  Knows owner first list pass s = s.may ≡ true → (pass ≡ owner) × (s.first ≡ first) × (s.list ≡ list)

  -- what a pass knows of both sides is so, and the one that puts knows the room
  abbrev pub Agrees : ℕ → ℕ → ℕ → ℕ → List T → List T → ℕ → Log T → Type 0
  Agrees writer reader room first put taken pass v =
      Knows writer first put pass v.put × Knows reader first taken pass v.taken × (v.put.may ≡ true → v.room ≡ room)

  -- what was put is what was taken, and then what the lane holds, which is no more than it has room for; the numbers of
  -- what was put run from the first one; one pass knows what was put, one what was taken
  abbrev pub IsLaned : (T → ℕ) → List T → List (Log T) → Type 0
  IsLaned number items views =
      (writer : ℕ) × (reader : ℕ) × (room : ℕ) × (first : ℕ) × (put : List T) × (taken : List T)
      × (put ≡ taken ++ items)
      × (length items ≤ room)
      × RunsFrom number first put
      × ((pass : ℕ) (v : Log T) → get_elem? views pass ≡ some v → Agrees writer reader room first put taken pass v)
