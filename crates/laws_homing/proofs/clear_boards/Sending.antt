-- What a homing group orders from its start on becomes commands behind the set-up.
use Rattle.std.proofs.Common.{◌≡◌, ℕ, suc, ◌+◌, ◌<◌, ◌≤◌, ◌==◌, inl, inr, Bool, true, false, List, [], ◌∷◌, ◌++◌, Option, Some, None, refl, ap, sym, ◌∙◌, subst, arith, ◌⊎◌, max, rules}
use Rattle.std.specs.Prelude.{if◌then◌else◌, nat_lt}
use Rattle.std.specs.List.{Contains}
use Rattle.laws_board.proofs.Names.{eqb_tells, leb_tells, AxisDef, Machine, Clocks, turn_tick, Cmd, Ctl, Order, Fired, Seen, GroupState, turned_group, all_fired, relay_in, relays_in, round_of, command_to, commands_to, low, order_command, trigger_of}
use Rattle.msg_code.specs.declared.cmd.Cmd.TheVariants as cmd
use Rattle.trigger_group.specs.declared.order.Order.TheVariants as order
use Rattle.trigger_group.specs.declared.round.Round.TheVariants.{Relays, Timeouts}
use Rattle.trigger_group.specs.Group.{limit, orders, relay_begins, relay_from, to_board, unless_fired}
use Rattle.trigger_group.proofs.Answering.{either, none_there}
use Rattle.laws_homing.specs.clear_boards.Alive.{RelayNone}
use Rattle.laws_homing.specs.clear_boards.Turned.{AreSentBehind, IsSentBehind, RelaysOne, SetsTimeout, SetsNone, SetsOne}
use Rattle.laws_homing.proofs.clear_boards.Renewed.{after_is, orders_are, sent_all}

-- commands of which each is behind the set-up
pub behind_both : (oid clock : ℕ) (xs ys : List Cmd) → AreSentBehind oid clock xs → AreSentBehind oid clock ys → AreSentBehind oid clock (xs ++ ys)
behind_both oid clock [] ys k l = l
behind_both oid clock (x ∷ xs) ys k l = (k.0, behind_both oid clock xs ys k.1 l)

pub none_both : (xs ys : List Cmd) → RelayNone xs → RelayNone ys → RelayNone (xs ++ ys)
none_both [] ys k l = l
none_both (x ∷ xs) ys k l = (k.0, none_both xs ys k.1 l)

pub sets_front : (xs ys : List Cmd) → SetsOne xs → SetsOne (xs ++ ys)
sets_front [] ys k = absurd k
sets_front (x ∷ xs) ys (inl k) = inl k
sets_front (x ∷ xs) ys (inr k) = inr (sets_front xs ys k)

pub sets_behind : (xs ys : List Cmd) → SetsOne ys → SetsOne (xs ++ ys)
sets_behind [] ys k = k
sets_behind (x ∷ xs) ys k = inr (sets_behind xs ys k)

pub relays_front : (xs ys : List Cmd) → RelaysOne xs → RelaysOne (xs ++ ys)
relays_front [] ys k = absurd k
relays_front (x ∷ xs) ys (inl k) = inl k
relays_front (x ∷ xs) ys (inr k) = inr (relays_front xs ys k)

pub unset_both : (xs ys : List Cmd) → SetsNone xs → SetsNone ys → SetsNone (xs ++ ys)
unset_both [] ys k l = l
unset_both (x ∷ xs) ys k l = (k.0, unset_both xs ys k.1 l)

relays_behind : (xs ys : List Cmd) → RelaysOne ys → RelaysOne (xs ++ ys)
relays_behind [] ys k = k
relays_behind (x ∷ xs) ys k = inr (relays_behind xs ys k)

-- orders of one timeout, and of relays
abbrev AreTimed : ℕ → List Ctl → Type 0
AreTimed timeout [] = Unit {0}
AreTimed timeout (c ∷ cs) = (c.what ≡ order.Timeout timeout) × AreTimed timeout cs

abbrev AreRelays : List Ctl → Type 0
AreRelays [] = Unit {0}
AreRelays (c ∷ cs) = (c.what ≡ order.Trigger) × AreRelays cs

timed_round : (timeout : ℕ) (xs : List Seen) → AreTimed timeout (round_of (Timeouts timeout) xs)
timed_round timeout [] = tt
timed_round timeout (x ∷ xs) = (refl, timed_round timeout xs)

relays_both : (xs ys : List Ctl) → AreRelays xs → AreRelays ys → AreRelays (xs ++ ys)
relays_both [] ys k l = l
relays_both (x ∷ xs) ys k l = (k.0, relays_both xs ys k.1 l)

one_relay : (o : Option Fired) (x : Seen) → AreRelays (unless_fired o (to_board x order.Trigger ∷ []))
one_relay None x = (refl, tt)
one_relay (Some f) x = tt

relay_round : (xs : List Seen) → AreRelays (round_of Relays xs)
relay_round [] = tt
relay_round (x ∷ xs) = relays_both (unless_fired x.fired (to_board x order.Trigger ∷ [])) (round_of Relays xs) (one_relay x.fired x) (relay_round xs)

module _ (m : Machine) (clocks : Clocks) (b start : ℕ) (axis : AxisDef) where
  abbrev Commands : List Ctl → List Cmd
  Commands ctls = commands_to m clocks b start axis ctls

  commands_both : (xs ys : List Ctl) → Commands (xs ++ ys) ≡ Commands xs ++ Commands ys
  commands_both xs ys = Rattle.laws_homing.proofs.home_runs.Setting.commands_both m clocks b start axis xs ys

  timed_one : (timeout : ℕ) (what : Order) → what ≡ order.Timeout timeout → (here : Bool) → let cs : List Cmd = if here then order_command m clocks b start axis what ∷ [] else [] in AreSentBehind (trigger_of m b) (low (turn_tick clocks timeout)) cs × RelayNone cs
  timed_one timeout what e here = search (rules, order_command, trigger_of, low, turn_tick)

  timed_commands : (timeout : ℕ) (ctls : List Ctl) → AreTimed timeout ctls → AreSentBehind (trigger_of m b) (low (turn_tick clocks timeout)) (Commands ctls) × RelayNone (Commands ctls)
  timed_commands timeout [] k = (tt, tt)
  timed_commands timeout (c ∷ ctls) k =
      let one = timed_one timeout c.what k.0 (c.board == b) in
      let rest = timed_commands timeout ctls k.1 in
      (behind_both (trigger_of m b) (low (turn_tick clocks timeout)) (command_to m clocks b start axis c) (Commands ctls) one.0 rest.0, none_both (command_to m clocks b start axis c) (Commands ctls) one.1 rest.1)

  relay_one : (clock : ℕ) (what : Order) → what ≡ order.Trigger → (here : Bool) → AreSentBehind (trigger_of m b) clock (if here then order_command m clocks b start axis what ∷ [] else [])
  relay_one clock what e here = search (rules, trigger_of, order_command)

  relay_commands : (clock : ℕ) (ctls : List Ctl) → AreRelays ctls → AreSentBehind (trigger_of m b) clock (Commands ctls)
  relay_commands clock [] k = tt
  relay_commands clock (c ∷ ctls) k = behind_both (trigger_of m b) clock (command_to m clocks b start axis c) (Commands ctls) (relay_one clock c.what k.0 (c.board == b)) (relay_commands clock ctls k.1)

  -- an order to a member of the board is among them
  is_here : (x : Seen) → x.member.board ≡ b → (x.member.board == b) ≡ true
  is_here x e = elim (eqb_tells x.member.board b) [ inl p ↦ p.0 | inr p ↦ absurd (p.1 e) ]

  there : (x : Seen) (what : Order) → x.member.board ≡ b → command_to m clocks b start axis (to_board x what) ≡ order_command m clocks b start axis what ∷ []
  there x what e = ap (λ (h : Bool). if h then order_command m clocks b start axis what ∷ [] else []) (is_here x e)

  pub sets_there : (x : Seen) (timeout : ℕ) (ctls : List Ctl) → x.member.board ≡ b → Contains ctls (to_board x (order.Timeout timeout)) → SetsOne (Commands ctls)
  sets_there x timeout [] e c = absurd (none_there (to_board x (order.Timeout timeout)) c)
  sets_there x timeout (y ∷ ctls) e c = elim (either y (to_board x (order.Timeout timeout)) ctls c) [
    | inl same ↦
        let At : Ctl → Type 0 = λ z. SetsOne (command_to m clocks b start axis z) in
        sets_front (command_to m clocks b start axis y) (Commands ctls) (subst At (sym same) (subst SetsOne (sym (there x (order.Timeout timeout) e)) (inl tt)))
    | inr k ↦ sets_behind (command_to m clocks b start axis y) (Commands ctls) (sets_there x timeout ctls e k)
  ]

  pub relays_there : (x : Seen) (ctls : List Ctl) → x.member.board ≡ b → Contains ctls (to_board x order.Trigger) → RelaysOne (Commands ctls)
  relays_there x [] e c = absurd (none_there (to_board x order.Trigger) c)
  relays_there x (y ∷ ctls) e c = elim (either y (to_board x order.Trigger) ctls c) [
    | inl same ↦
        let At : Ctl → Type 0 = λ z. RelaysOne (command_to m clocks b start axis z) in
        relays_front (command_to m clocks b start axis y) (Commands ctls) (subst At (sym same) (subst RelaysOne (sym (there x order.Trigger e)) (inl tt)))
    | inr k ↦ relays_behind (command_to m clocks b start axis y) (Commands ctls) (relays_there x ctls e k)
  ]

  -- what a group orders in a turn
  timeouts_if : (g : GroupState) (turn : ℕ) (c : Bool) → nat_lt g.sent (limit g) ≡ c → (turned_group g turn).sent ≡ max g.sent (limit g) → let ctls : List Ctl = if c then round_of (Timeouts (limit g)) g.members else [] in
      AreSentBehind (trigger_of m b) (low (turn_tick clocks (turned_group g turn).sent)) (Commands ctls) × RelayNone (Commands ctls)
  timeouts_if g turn c p3 p4 = search (rules, leb_tells, turned_group, trigger_of, low, turn_tick, round_of, timed_commands, timed_round)

  relays_if : (clock : ℕ) (g : GroupState) (c : Bool) → AreSentBehind (trigger_of m b) clock (Commands (if c then round_of Relays g.members else []))
  relays_if clock g true = relay_commands clock (round_of Relays g.members) (relay_round g.members)
  relays_if clock g false = tt

  pub ordered_behind : (g : GroupState) (turn : ℕ) → g.start ≤ turn → all_fired g.members ≡ false → AreSentBehind (trigger_of m b) (low (turn_tick clocks (turned_group g turn).sent)) (Commands (orders g turn))
  ordered_behind g turn low_so fired =
      let clock = low (turn_tick clocks (turned_group g turn).sent) in
      let front = if nat_lt g.sent (limit g) then round_of (Timeouts (limit g)) g.members else [] in
      let rest = if relays_in (relay_in g turn) turn then round_of Relays g.members else [] in
      let both = behind_both (trigger_of m b) clock (Commands front) (Commands rest) (timeouts_if g turn (nat_lt g.sent (limit g)) refl (after_is g turn low_so fired)).0 (relays_if clock g (relays_in (relay_in g turn) turn)) in
      let All : List Cmd → Type 0 = λ cs. AreSentBehind (trigger_of m b) clock cs in
      subst All (sym (ap Commands (orders_are g turn low_so fired) ∙ commands_both front rest)) both

  -- none relays before the first relay
  pub ordered_none : (g : GroupState) (turn : ℕ) → g.start ≤ turn → all_fired g.members ≡ false → g.relay ≡ None → relay_begins g turn ≡ false → RelayNone (Commands (orders g turn))
  ordered_none g turn low_so fired relay none =
      let front = if nat_lt g.sent (limit g) then round_of (Timeouts (limit g)) g.members else [] in
      let rest = if relays_in (relay_in g turn) turn then round_of Relays g.members else [] in
      let is : relay_in g turn ≡ None = ap (λ (o : Option ℕ). relay_from o (relay_begins g turn) turn) relay ∙ ap (λ (c : Bool). relay_from None c turn) none in
      let empty : rest ≡ [] = ap (λ (o : Option ℕ). if relays_in o turn then round_of Relays g.members else []) is in
      let All : List Ctl → Type 0 = λ x. RelayNone (Commands x) in
      let both = none_both (Commands front) (Commands rest) (timeouts_if g turn (nat_lt g.sent (limit g)) refl (after_is g turn low_so fired)).1 (subst All (sym empty) tt) in
      subst RelayNone (sym (ap Commands (orders_are g turn low_so fired) ∙ commands_both front rest)) both

  -- each member is sent the timeout where it grows
  pub ordered_sets : (g : GroupState) (turn : ℕ) (x : Seen) → g.start ≤ turn → all_fired g.members ≡ false → Contains g.members x → x.member.board ≡ b → (g.sent ≡ (turned_group g turn).sent) ⊎ SetsOne (Commands (orders g turn))
  ordered_sets g turn x low_so fired is_there on = elim (leb_tells (g.sent + 1) (turned_group g turn).sent) [
    | inl p ↦ inr (let grew = p.1 in sets_there x (turned_group g turn).sent (orders g turn) on (sent_all g turn x low_so fired is_there (omega (arith, grew))))
    | inr p ↦ inl (let not = p.1 in let is = after_is g turn low_so fired in omega (arith, not, is))
  ]

  -- where the last timeout is the one behind the section's last turn, none is sent
  relay_sets : (what : Order) → what ≡ order.Trigger → (here : Bool) → SetsNone (if here then order_command m clocks b start axis what ∷ [] else [])
  relay_sets what e here = search (rules, order_command)

  relays_set : (ctls : List Ctl) → AreRelays ctls → SetsNone (Commands ctls)
  relays_set [] k = tt
  relays_set (c ∷ ctls) k = unset_both (command_to m clocks b start axis c) (Commands ctls) (relay_sets c.what k.0 (c.board == b)) (relays_set ctls k.1)

  relays_none : (g : GroupState) (c : Bool) → SetsNone (Commands (if c then round_of Relays g.members else []))
  relays_none g true = relays_set (round_of Relays g.members) (relay_round g.members)
  relays_none g false = tt

  pub ordered_far : (g : GroupState) (turn : ℕ) → g.start ≤ turn → all_fired g.members ≡ false → g.sent ≡ g.last + 1 → SetsNone (Commands (orders g turn))
  ordered_far g turn low_so fired far = search (rules, nat_lt, round_of, relays_in, relay_in, leb_tells, orders_are, commands_both, relays_none)

-- what is behind the set-up whatever timeout was sent sets none
one_unset : (oid : ℕ) (c : Cmd) → ((clock : ℕ) → IsSentBehind oid clock c) → SetsTimeout c → ⊥
one_unset oid (cmd.TrsyncSetTimeout other at) k s = let zero_is = (k 0).1 in let one_is = (k 1).1 in omega (arith, zero_is, one_is)
one_unset oid c k s = absurd s

pub unset_all : (oid : ℕ) (cs : List Cmd) → ((clock : ℕ) → AreSentBehind oid clock cs) → SetsNone cs
unset_all oid [] k = tt
unset_all oid (c ∷ cs) k = ((λ s. one_unset oid c (λ clock. (k clock).0) s), unset_all oid cs (λ clock. (k clock).1))
