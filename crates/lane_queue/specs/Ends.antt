-- What a caller sees of a lane and of its two passes.
use Rattle.std.specs.Prelude.{◌≡◌, ℕ, ◌+◌, true, List, length}
use Rattle.crossbeam_channel.specs.Claims.{view, IsSeatAt}
use Rattle.crossbeam_channel.specs.Ends.{sends_on, ruled_capacity}
use Rattle.lane_queue.specs.declared.ends.Lane.{Lane}
use Rattle.lane_queue.specs.declared.passes.SendPass.{SendPass}
use Rattle.lane_queue.specs.declared.passes.TakePass.{TakePass}

module _ {T : Type 0} where
  -- how many messages the lane holds at most
  unfoldable pub room : Lane T → ℕ
  room l = ruled_capacity (sends_on l.sender)

  -- the number of the lane's first message, as the pass that puts and the pass that takes know it
  unfoldable pub put_first : SendPass T → ℕ
  put_first p = (view p.pass).put.first

  -- what was put with the pass, in order
  unfoldable pub put : SendPass T → List T
  put p = (view p.pass).put.list

  -- the number of the message that is put next
  abbrev pub next_put : SendPass T → ℕ
  next_put p = put_first p + length (put p)

  -- the number of the lane's first message, as the pass that puts and the pass that takes know it
  unfoldable pub take_first : TakePass T → ℕ
  take_first p = (view p.pass).taken.first

  -- what was taken with the pass, in order
  unfoldable pub taken : TakePass T → List T
  taken p = (view p.pass).taken.list

  -- the number of the message that is taken next
  abbrev pub next_take : TakePass T → ℕ
  next_take p = take_first p + length (taken p)

  -- the pass is the one that puts into this lane
  unfoldable pub IsSendOf : Lane T → SendPass T → Type 0
  IsSendOf l p = IsSeatAt (sends_on l.sender) p.pass × ((view p.pass).put.may ≡ true) × ((view p.pass).room ≡ room l)

  -- the pass is the one that takes from this lane
  unfoldable pub IsTakeOf : Lane T → TakePass T → Type 0
  IsTakeOf l p = IsSeatAt (sends_on l.sender) p.pass × ((view p.pass).taken.may ≡ true)
