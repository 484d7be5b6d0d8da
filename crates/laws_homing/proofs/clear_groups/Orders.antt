-- What a member's board is sent in a turn of a homing section behind its set-up, before its start and from there on.
use Rattle.std.proofs.Common.{◌≡◌, ℕ, ◌+◌, ◌≤◌, min, ◌⊎◌, inl, inr, false, List, [], ◌∷◌, ◌++◌, None, ap, sym, ◌∙◌, subst, arith}
use Rattle.std.specs.List.{Contains}
use Rattle.laws_board.proofs.Names.{leb_tells, Machine, Clocks, axis_at, turn_tick, Cmd, Ctl, Seen, GroupState, turned_group, all_fired, Homing, commands_to, low, trigger_of}
use Rattle.trigger_group.specs.Group.{heard_of, least_heard, relay_begins}
use Rattle.trigger_group.proofs.Answering.{either, none_there}
use Rattle.trigger_group.proofs.Knows.{after_last, after_start}
use Rattle.laws_homing.specs.clear_boards.Alive.{RelayNone}
use Rattle.laws_homing.specs.clear_boards.Modes.{IsTimed}
use Rattle.laws_homing.specs.clear_boards.Ordered.{IsOrdered}
use Rattle.laws_homing.specs.clear_boards.Turned.{AreSentBehind, SetsNone, SetsOne}
use Rattle.laws_homing.proofs.clear_boards.Modes.{timed_after}
use Rattle.laws_homing.proofs.clear_boards.Renewed.{after_is}
use Rattle.laws_homing.proofs.clear_boards.Sending.{unset_all}
use Rattle.laws_homing.proofs.clear_boards.Sent.{sent_behind, sent_far, sent_none, sent_sets}
use Rattle.laws_homing.specs.clear_groups.Early.{HeardUntil}
use Rattle.laws_homing.proofs.clear_groups.Known.{group_waits, none_waits}
use Rattle.trigger_group.proofs.Bounds.{least_under}

-- what a board is sent, by what its group knows
pub record IsSent (m : Machine) (clocks : Clocks) (b turn : ℕ) (g : GroupState) (commands : List Cmd) : Type 0 where
  pub behind : AreSentBehind (trigger_of m b) (low (turn_tick clocks (turned_group g turn).sent)) commands
  pub none : g.relay ≡ None → relay_begins g turn ≡ false → RelayNone commands
  pub sets : (x : Seen) → Contains g.members x → x.member.board ≡ b → (g.sent ≡ (turned_group g turn).sent) ⊎ SetsOne commands
  pub far : g.sent ≡ g.last + 1 → SetsNone commands

pub sent_from : (m : Machine) (clocks : Clocks) (b : ℕ) (h : Homing) (turn : ℕ) (g : GroupState) (commands : List Cmd) → IsOrdered m clocks b h turn g commands → g.start ≤ turn + 249 → (g.start ≤ turn → all_fired g.members ≡ false) → IsSent m clocks b turn g commands
sent_from m clocks b h turn g commands o far unended = elim (leb_tells g.start turn) [
  | inl p ↦
      let fired = unended p.1 in
      record {
        behind = sent_behind m clocks b h turn g commands o p.1 fired;
        none = λ relay none. sent_none m clocks b h turn g commands o p.1 fired relay none;
        sets = λ x there on. sent_sets m clocks b h turn g commands o p.1 fired x there on;
        far = λ e. sent_far m clocks b h turn g commands o p.1 fired e;
      }
  | inr p ↦
      let low_so = p.1 in
      let same = group_waits g turn (omega (arith, low_so)) far in
      let tail : commands ≡ o.tail = o.are ∙ ap (λ (cs : List Ctl). commands_to m clocks b h.start (axis_at m h.axis) cs ++ o.tail) (none_waits g turn (omega (arith, low_so)) far) in
      record {
        behind = subst (λ (cs : List Cmd). AreSentBehind (trigger_of m b) (low (turn_tick clocks (turned_group g turn).sent)) cs) (sym tail) (o.behind (trigger_of m b) (low (turn_tick clocks (turned_group g turn).sent)));
        none = λ relay none. subst RelayNone (sym tail) o.none;
        sets = λ x there on. inl (ap (λ (y : GroupState). y.sent) (sym same));
        far = λ e. subst SetsNone (sym tail) (unset_all (trigger_of m b) o.tail (λ clock. o.behind (trigger_of m b) clock));
      }
]

-- its last timeout
pub timed_turn : (g : GroupState) (turn : ℕ) → g.start ≤ turn + 249 → (g.start ≤ turn → all_fired g.members ≡ false) → IsTimed g → IsTimed (turned_group g turn) × (g.sent ≤ (turned_group g turn).sent)
timed_turn g turn far unended timed = elim (leb_tells g.start turn) [
  | inl p ↦
      let s = timed_after g turn p.1 (unended p.1) timed in
      let same_start = after_start g turn in
      let same_last = after_last g turn in
      let first = s.0 in
      let most = s.1 in
      (record { first = omega (arith, first, same_start, same_last); most = omega (arith, most, same_last) }, s.2)
  | inr p ↦
      let low_so = p.1 in
      let same = group_waits g turn (omega (arith, low_so)) far in
      (subst IsTimed (sym same) timed, (let e : g.sent ≡ (turned_group g turn).sent = ap (λ (y : GroupState). y.sent) (sym same) in omega (arith, e)))
]

pub least_at : (start least : ℕ) (x : Seen) (xs : List Seen) → Contains xs x → least_heard start least xs ≤ heard_of start x.heard
least_at start least x [] c = absurd (none_there x c)
least_at start least x (y ∷ ys) c = elim (either y x ys c) [
  | inl e ↦
      let rest = least_under start (min least (heard_of start y.heard)) ys in
      let same : heard_of start y.heard ≡ heard_of start x.heard = ap (λ (s : Seen). heard_of start s.heard) e in
      omega (arith, rest, same)
  | inr k ↦ least_at start (min least (heard_of start y.heard)) x ys k
]

pub heard_there : (start b most : ℕ) (x : Seen) (xs : List Seen) → Contains xs x → x.member.board ≡ b → HeardUntil start b most xs → heard_of start x.heard ≤ most
heard_there start b most x [] c on k = absurd (none_there x c)
heard_there start b most x (y ∷ ys) c on k = elim (either y x ys c) [
  | inl e ↦ (let low_so = k.0 (ap (λ (s : Seen). s.member.board) e ∙ on) in let same : heard_of start y.heard ≡ heard_of start x.heard = ap (λ (s : Seen). heard_of start s.heard) e in omega (arith, low_so, same))
  | inr more ↦ heard_there start b most x ys more on k.1
]

-- it goes no further than what was heard lets it
pub near_turn : (g : GroupState) (b turn : ℕ) (x : Seen) → Contains g.members x → x.member.board ≡ b → g.start ≤ turn + 249 → (g.start ≤ turn → all_fired g.members ≡ false)
    → HeardUntil g.start b (turn + 249) g.members → g.sent ≤ turn + 274 → (turned_group g turn).sent ≤ turn + 274
near_turn g b turn x there on far unended until soon = elim (leb_tells g.start turn) [
  | inl p ↦
      let is = after_is g turn p.1 (unended p.1) in
      let least = least_at g.start g.last x g.members there in
      let most = heard_there g.start b (turn + 249) x g.members there on until in
      omega (arith, is, least, most, soon)
  | inr p ↦
      let low_so = p.1 in
      let same = group_waits g turn (omega (arith, low_so)) far in
      let e : g.sent ≡ (turned_group g turn).sent = ap (λ (y : GroupState). y.sent) (sym same) in
      omega (arith, e, soon)
]
