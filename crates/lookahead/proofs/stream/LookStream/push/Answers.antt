use Rattle.std.proofs.Common.{◌≡◌, ◌+◌, ◌^◌, ◌<◌, ◌≤◌, arith, refl, ap, ◌∙◌, ◌∷◌, [], ◌++◌, List, All, ℕ, length}
use Rattle.std.proofs.lemmas.Grind.{common_steps}
use Rattle.std.specs.VecDeque.{deque_len, deque_capacity}
use Rattle.plan_types.specs.declared.plan.Move.{Move}
use Rattle.plan_types.specs.Valid.{IsValidMove}
use Rattle.plan_types.specs.Speeds.{speed_change}
use Rattle.lookahead.proofs.Pushes.{pushed}
use Rattle.lookahead.proofs.stream.LookStream.push.Goals as goal

all_valid : (P : Move → Type 0) (xs : List Move) (y : Move) → All P xs → P y → All P (xs ++ y ∷ [])
all_valid P xs y h k = grind (arith, common_steps)

pub invariant_of-self-3-clause-valid : goal.invariant_of-self-3-clause-valid
invariant_of-self-3-clause-valid c = rw (c.in_ok-push_back.ensures.items, c.reserve.ensures.items) (all_valid IsValidMove c.args.self.now.moves.items c.args.one c.args.self.now.valid c.requires.valid)

pub returns-clause-ok : goal.returns-clause-ok
returns-clause-ok c = λ moves scv few going. (
    let is = going.stream in
    let reach_small = is.reach_small in
    let count = is.pushed_is in
    let risen_small = c.next_rise-rise.ensures.small in
    let change = c.change-more.ensures.value in
    let change_small = c.change-more.ensures.small in
    let height = c.saturating_add.ensures in
    let reach = c.saturating_add-self.ensures in
    let risen = c.saturating_add-self-2.ensures in
    let count' = c.saturating_add-self-3.ensures in
    let sat : c.saturating_add.result ≡ c.next_rise-rise.result + c.args.self.now.reach = omega arith in
    let moves_same = c.reserve.ensures.items in
    let lows_same = c.reserve-2.ensures.items in
    let items : c.push_back.new.self.items ≡ c.args.self.now.moves.items ++ c.args.one ∷ [] = c.in_ok-push_back.ensures.items ∙ ap (λ xs. xs ++ c.args.one ∷ []) moves_same in
    let first = rw moves_same at c.next_rise-rise.ensures.start in
    let later = rw moves_same at c.next_rise-rise.ensures.later in
    let low = rw lows_same at c.add.ensures.start in
    let lows = rw lows_same at c.add.ensures.later in
    let enough : deque_len c.reserve-2.new.self + 2 ≤ deque_capacity c.reserve-2.new.self = c.in_ok-reserve-2.ensures.ok in
    let more : deque_len c.add.new.lows ≤ deque_len c.reserve-2.new.self + 1 = c.add.ensures.more in
    let same : deque_capacity c.add.new.lows ≡ deque_capacity c.reserve-2.new.self = c.add.ensures.capacity (omega arith) in
    let room : deque_len c.add.new.lows < deque_capacity c.add.new.lows = omega arith in
    pushed c.args.self.now _ scv moves c.args.one c.next_rise-rise.result going few (omega arith) refl items refl refl refl (omega arith) (omega arith) (omega arith) first later low (λ h. rw sat at (lows h (omega arith))) room)
