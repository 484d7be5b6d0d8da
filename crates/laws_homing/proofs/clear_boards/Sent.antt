-- What a board is sent in a turn of a homing section, by what its group knows.
use Rattle.std.proofs.Common.{◌≡◌, ℕ, ◌+◌, ◌≤◌, true, false, List, None, sym, subst, ◌⊎◌, inl, inr}
use Rattle.std.specs.List.{Contains}
use Rattle.laws_board.proofs.Names.{Machine, Clocks, axis_at, turn_tick, Cmd, Seen, GroupState, turned_group, all_fired, relay_in, relays_in, Homing, commands_to, low, trigger_of}
use Rattle.trigger_group.specs.Group.{any_fired_by, orders, relay_begins}
use Rattle.laws_homing.specs.clear_boards.Alive.{RelayNone}
use Rattle.laws_homing.specs.clear_boards.Ordered.{IsOrdered}
use Rattle.laws_homing.specs.clear_boards.Turned.{AreSentBehind, RelaysOne, SetsNone, SetsOne}
use Rattle.laws_homing.proofs.clear_boards.Modes.{relayed, relayed_in}
use Rattle.laws_homing.proofs.clear_boards.Sending.{behind_both, none_both, ordered_behind, ordered_far, ordered_none, ordered_sets, relays_front, relays_there, sets_front, unset_all, unset_both}

module _ (m : Machine) (clocks : Clocks) (b : ℕ) (h : Homing) (turn : ℕ) (g : GroupState) (commands : List Cmd) (o : IsOrdered m clocks b h turn g commands) (begun : g.start ≤ turn) (fired : all_fired g.members ≡ false) where
  abbrev Front : List Cmd
  Front = commands_to m clocks b h.start (axis_at m h.axis) (orders g turn)

  pub sent_behind : AreSentBehind (trigger_of m b) (low (turn_tick clocks (turned_group g turn).sent)) commands
  sent_behind =
      let clock = low (turn_tick clocks (turned_group g turn).sent) in
      let front = ordered_behind m clocks b h.start (axis_at m h.axis) g turn begun fired in
      subst (λ (cs : List Cmd). AreSentBehind (trigger_of m b) clock cs) (sym o.are) (behind_both (trigger_of m b) clock Front o.tail front (o.behind (trigger_of m b) clock))

  pub sent_none : g.relay ≡ None → relay_begins g turn ≡ false → RelayNone commands
  sent_none relay none = subst RelayNone (sym o.are) (none_both Front o.tail (ordered_none m clocks b h.start (axis_at m h.axis) g turn begun fired relay none) o.none)

  pub sent_sets : (x : Seen) → Contains g.members x → x.member.board ≡ b → (g.sent ≡ (turned_group g turn).sent) ⊎ SetsOne commands
  sent_sets x there on = elim (ordered_sets m clocks b h.start (axis_at m h.axis) g turn x begun fired there on) [
    | inl same ↦ inl same
    | inr one ↦ inr (subst SetsOne (sym o.are) (sets_front Front o.tail one))
  ]

  pub sent_relays_in : (x : Seen) → Contains g.members x → x.member.board ≡ b → x.fired ≡ None → relays_in (relay_in g turn) turn ≡ true → RelaysOne commands
  sent_relays_in x there on none now =
      let ordered = relayed_in g turn x begun fired now there none in
      subst RelaysOne (sym o.are) (relays_front Front o.tail (relays_there m clocks b h.start (axis_at m h.axis) x (orders g turn) on ordered))

  pub sent_relays : (x : Seen) → Contains g.members x → x.member.board ≡ b → x.fired ≡ None → g.start + 4 ≤ turn → g.relay ≡ None → any_fired_by g.last g.members ≡ true → RelaysOne commands
  sent_relays x there on none late relay some =
      let ordered = relayed g turn x late fired relay some there none in
      subst RelaysOne (sym o.are) (relays_front Front o.tail (relays_there m clocks b h.start (axis_at m h.axis) x (orders g turn) on ordered))

  pub sent_far : g.sent ≡ g.last + 1 → SetsNone commands
  sent_far far = subst SetsNone (sym o.are) (unset_both Front o.tail (ordered_far m clocks b h.start (axis_at m h.axis) g turn begun fired far) (unset_all (trigger_of m b) o.tail (λ clock. o.behind (trigger_of m b) clock)))
