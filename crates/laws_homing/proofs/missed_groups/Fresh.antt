-- A homing group and its members' boards over a turn of a section: a trigger that can't trigger triggered lately, since the start, and the group knows of it.
use Rattle.std.proofs.Common.{◌≡◌, ℕ, ◌+◌, ◌-◌, ◌*◌, ◌%◌, ◌^◌, ◌<◌, ◌≤◌, ◌⊎◌, inl, inr, Bool, true, false, List, [], ◌∷◌, ◌++◌, length, map, max, Option, Some, None, refl, ap, sym, ◌∙◌, subst, arith}
use Rattle.std.specs.Prelude.{◌&&◌, ◌||◌, nat_le, slice_index_or}
use Rattle.laws_board.proofs.Names.{leb_tells, Level, Machine, nearest, board_tick, clock_of, turn_ns, Clocks, lines_tick, IsValidMachine, board_at, clocks_at, turn_in_run, turn_tick, Entry, Switch, Cmd, News, State, trigger_of, Sampling, commands_of, Rig, Slot, passes, slot_at, takes_all, one_slot, says, queued_in, orders, Member, Fired, Seen, GroupState, turned_group, all_fired, phase, Homing, hears_all, Connecting, noted, Came, known_by, both_parts, no_both}
use Rattle.plan_types.specs.Clock.{run_turns}
use Rattle.msg_code.specs.declared.cmd.Cmd.TheVariants as cmd
use Rattle.board_trig.specs.Sampling.{IsTriggerTick}
use Rattle.board_sim.specs.Turn.{says_shut}
use Rattle.board_world.specs.World.{shut_before}
use Rattle.laws_board.specs.turns.Turns.{BoardTurn}
use Rattle.laws_board.specs.sections.Parts.{AreTracked}
use Rattle.laws_board.proofs.sections.Clocks.{ticks_rise}
use Rattle.trigger_group.specs.Group.{any_fired_by, fired_by, has_fired, relay_begins}
use Rattle.laws_homing.specs.home_runs.Guards.{HasFired, StandsFired}
use Rattle.laws_homing.specs.home_runs.Told.{IsMember}
use Rattle.laws_homing.specs.home_runs.Windows.{HasAnswer, IsFired, SayFired}
use Rattle.laws_homing.proofs.home_runs.Guarding.{Next, passes_next}
use Rattle.laws_homing.proofs.home_runs.Spelled.{own_state}
use Rattle.laws_homing.proofs.home_runs.Told.{told_stands}
use Rattle.laws_homing.specs.clear_boards.Clocking.{IsCounted}
use Rattle.laws_homing.specs.clear_boards.Firing.{AllSmall, AreSmall, IsSmall, TellOff}
use Rattle.laws_homing.specs.clear_boards.Hearing.{AllFiredIn, FiredOn, FiringNone, IsFiredIn, NoneOn}
use Rattle.laws_homing.specs.clear_boards.Limited.{limit_of}
use Rattle.laws_homing.specs.clear_boards.Turned.{AreSentBehind, RelaysOne, SetsNone, SetsOne}
use Rattle.laws_homing.proofs.clear_boards.Answering.{told_to_commands}
use Rattle.laws_homing.proofs.clear_boards.Bridging.{among_front, firing_among, off_found}
use Rattle.laws_homing.proofs.clear_boards.Clocking.{lines_up, report_counts}
use Rattle.laws_homing.proofs.clear_boards.Knowing.{hears_fired, hears_none, hears_still, none_known}
use Rattle.laws_homing.proofs.clear_boards.Sent.{sent_relays}
use Rattle.laws_homing.proofs.clear_boards.Small.{turn_small}
use Rattle.laws_homing.proofs.clear_boards.Telling.{told_at_once}
use Rattle.laws_homing.proofs.clear_boards.Triggering.{Gone, Keen, turn_so}
use Rattle.laws_homing.proofs.clear_boards.Turned.{above, next_all}
use Rattle.link_work.specs.Answers.{IsAmong}
use Rattle.laws_homing.specs.clear_groups.Safe.{IsGroupHeld, IsSafe, IsWatched}
use Rattle.laws_homing.proofs.clear_boards.Rests.{clear_over}
use Rattle.laws_homing.proofs.clear_groups.Sections.{rests_section}
use Rattle.laws_homing.specs.clear_groups.Sections.{IsAlike, IsClearSection, IsFollowed, IsPlain, IsRestingSection, rig_at, turns_of}
use Rattle.laws_homing.proofs.clear_groups.Alike.{tracked_alike}
use Rattle.laws_homing.specs.clear_groups.Sections.{AreOfTurn}
use Rattle.laws_homing.specs.clear_groups.SetUp.{HoldsOf, IsNew, IsPrepared}
use Rattle.laws_homing.proofs.clear_groups.Beginning as beginning
use Rattle.laws_homing.proofs.clear_groups.Beginning.{none_new}
use Rattle.laws_homing.proofs.clear_groups.Boards as boards
use Rattle.laws_homing.proofs.clear_groups.Groups as groups
use Rattle.laws_homing.proofs.clear_groups.Groups.{none_at, either_part}
use Rattle.laws_homing.proofs.clear_groups.Known.{behind_turn, member_seen}
use Rattle.laws_homing.proofs.clear_groups.Orders.{IsSent}
use Rattle.laws_homing.proofs.missed_groups.Stepping as stepping
use Rattle.laws_homing.proofs.missed_groups.Stepping.{none_relay, relay_after, still_fired}
use Rattle.plan_types.proofs.Facts.{is_le, true_or_false, was_le}
use Rattle.std.proofs.lemmas.Bool.{or_parts}
use Rattle.laws_homing.proofs.fired_runs.Reported.{sole_state}
use Rattle.board_trig.proofs.TriggerTicks.{second_by}

-- the triggers of a group's boards, and what it knows of them, as a turn begins
module _ (m : Machine) (lines : ℕ → Clocks) (start last : ℕ) (members : List Member) where
  -- a tick is of a turn from the one in front of the start on, and not so many turns before this one
  abbrev pub Recent : (n b turn tick : ℕ) → Type 0
  Recent n b turn tick = (v : ℕ) × (start ≤ v + 1) × (board_tick (clock_of (board_at m b)) v ≤ tick) × (turn ≤ v + n)

  -- a trigger that can trigger, which its switch triggers at no tick before the section's first one, and of which nothing is known
  pub record Able (b : ℕ) (g : GroupState) (pins : List (List Level)) (s : Slot) : Type 0 where
    pub can : s.trigger.can ≡ true
    pub none : NoneOn b g.members
    pub sampled : (y : Sampling) → s.trigger.sampling ≡ Some y → (x : ℕ) → IsTriggerTick (slice_index_or pins s.pin []) y x → lines_tick (lines b) (start * turn_ns) ≤ x

  -- one that has triggered lately, and is known to have
  pub record Off (b turn : ℕ) (g : GroupState) (s : Slot) : Type 0 where
    pub fired : s.trigger.can ≡ false
    pub idle : s.trigger.timeout ≡ None
    pub early : s.trigger.tick < board_tick (clock_of (board_at m b)) turn
    pub recent : Recent 8 b turn s.trigger.tick
    pub going : (start ≤ turn → all_fired g.members ≡ false) → Recent 7 b turn s.trigger.tick
    pub when : ℕ
    pub known : FiredOn b when g.members
    pub late : s.trigger.tick < lines_tick (lines b) ((last + 1) * turn_ns) → FiredOn b last g.members

  pub record FreshOn (b turn : ℕ) (g : GroupState) (r : Rig) : Type 0 where
    pub slot : Slot
    pub is : slot_at r (trigger_of m b) ≡ Some slot
    pub so : Able b g r.pins slot ⊎ Off b turn g slot

  pub record IsFresh (turn : ℕ) (g : GroupState) (rigs : ℕ → Rig) : Type 0 where
    pub relay : (start ≤ turn → all_fired g.members ≡ false) → g.relay ≡ None
    pub each : (b : ℕ) → IsMember b members → FreshOn b turn g (rigs b)

-- a trigger that can't trigger behind a turn: it could not before it, or it triggered in it
record Fell (m : Machine) (lines : ℕ → Clocks) (start last b turn : ℕ) (was g : GroupState) (s : Slot) : Type 0 where
  fired : s.trigger.can ≡ false
  idle : s.trigger.timeout ≡ None
  early : s.trigger.tick < board_tick (clock_of (board_at m b)) (turn + 1)
  recent : Recent m lines start last [] 8 b (turn + 1) s.trigger.tick
  since : (Recent m lines start last [] 7 b turn s.trigger.tick × (s.trigger.tick < board_tick (clock_of (board_at m b)) turn)
      × (s.trigger.tick < lines_tick (lines b) ((last + 1) * turn_ns) → any_fired_by last was.members ≡ true))
      ⊎ ((start ≤ turn + 1) × (board_tick (clock_of (board_at m b)) turn ≤ s.trigger.tick))
  when : ℕ
  known : FiredOn b when g.members
  late : s.trigger.tick < lines_tick (lines b) ((last + 1) * turn_ns) → FiredOn b last g.members

no_sets : (cs : List Cmd) → SetsNone cs → SetsOne cs → ⊥
no_sets [] n o = o
no_sets (c ∷ cs) n (inl now) = n.0 now
no_sets (c ∷ cs) n (inr more) = no_sets cs n.1 more

-- what is known of all members
some_fired : (n : ℕ) (x : Seen) → fired_by n x.fired ≡ true → has_fired x.fired ≡ true
some_fired n x e = by x.fired e
  where
    by : (o : Option Fired) → fired_by n o ≡ true → has_fired o ≡ true
    by None e = cc
    by (Some f) e = refl

all_known : (xs : List Seen) → ((b : ℕ) → IsMember b (map (λ (x : Seen). x.member) xs) → (n : ℕ) × FiredOn b n xs) → all_fired xs ≡ true
all_known [] f = refl
all_known (x ∷ xs) f =
    let here = f x.member.board (inl refl) in
    both (has_fired x.fired) (all_fired xs) (some_fired here.0 x (here.1.0 refl)) (all_known xs (λ b k. (let y = f b (inr k) in (y.0, y.1.1))))
  where
    both : (a b : Bool) → a ≡ true → b ≡ true → (a && b) ≡ true
    both true b e f = f
    both false b e f = cc

any_on : (b last : ℕ) (xs : List Seen) → IsMember b (map (λ (x : Seen). x.member) xs) → FiredOn b last xs → any_fired_by last xs ≡ true
any_on b last [] k f = absurd k
any_on b last (x ∷ xs) (inl e) f = left (fired_by last x.fired) (any_fired_by last xs) (f.0 e)
  where
    left : (a b : Bool) → a ≡ true → (a || b) ≡ true
    left true b e = refl
    left false b e = cc
any_on b last (x ∷ xs) (inr k) f = right (fired_by last x.fired) (any_fired_by last xs) (any_on b last xs k f.1)
  where
    right : (a b : Bool) → b ≡ true → (a || b) ≡ true
    right true b e = refl
    right false b e = e

-- what news tell of triggers that can't trigger
pub none_firing : (ns : List News) → ((oid reason clock : ℕ) → HasAnswer (cmd.TrsyncState oid 0 reason clock) ns → ⊥) → FiringNone ns
none_firing [] f = tt
none_firing (n ∷ ns) f = (by n.answer refl, none_firing ns (λ o r k a. f o r k (inr a)))
  where
    by : (c : Cmd) → n.answer ≡ c → IsFired n.answer → ⊥
    by (cmd.TrsyncState o can r k) e off =
        let none : can ≡ 0 = subst IsFired e off in
        f o r k (inl (e ∙ ap (λ (i : ℕ). cmd.TrsyncState o i r k) none))
    by c e off = absurd (subst IsFired e off)

pub firing_in : (clocks : Clocks) (turn begin end : ℕ) (ns : List News)
    → ((oid reason clock : ℕ) → HasAnswer (cmd.TrsyncState oid 0 reason clock) ns → (when : ℕ) × (begin ≤ when) × (when ≤ end) × (turn_in_run clocks (nearest (turn_tick clocks turn) clock) ≡ Some when))
    → AllFiredIn clocks turn begin end ns
firing_in clocks turn begin end [] f = tt
firing_in clocks turn begin end (n ∷ ns) f = (by n.answer refl, firing_in clocks turn begin end ns (λ o r k a. f o r k (inr a)))
  where
    by : (c : Cmd) → n.answer ≡ c → IsFiredIn clocks turn begin end n.answer
    by (cmd.TrsyncState o can r k) e = subst (IsFiredIn clocks turn begin end) (sym e) (λ none. f o r k (inl (e ∙ ap (λ (i : ℕ). cmd.TrsyncState o i r k) none)))
    by c e = subst (IsFiredIn clocks turn begin end) (sym e) tt

small_among : (c : Cmd) (cs : List Cmd) → AreSmall cs → IsAmong c cs → IsSmall c
small_among c [] k among = absurd among
small_among c (x ∷ xs) k (inl e) = subst IsSmall e k.0
small_among c (x ∷ xs) k (inr m) = small_among c xs k.1 m

pub small_parts : (xs ys : List Cmd) → AreSmall (xs ++ ys) → AreSmall xs × AreSmall ys
small_parts [] ys k = (tt, k)
small_parts (x ∷ xs) ys k = let r = small_parts xs ys k.1 in ((k.0, r.0), r.1)

pub off_parts : (oid clock : ℕ) (xs ys : List Cmd) → TellOff oid clock (xs ++ ys) → TellOff oid clock xs ⊎ TellOff oid clock ys
off_parts oid clock [] ys t = inr t
off_parts oid clock (x ∷ xs) ys (inl t) = inl (inl t)
off_parts oid clock (x ∷ xs) ys (inr t) = elim (off_parts oid clock xs ys t) [ inl a ↦ inl (inr a) | inr b ↦ inr b ]

-- a trigger that can't trigger stays as it is
record Still (oid tick : ℕ) (r : Rig) : Type 0 where
  slot : Slot
  is : slot_at r oid ≡ Some slot
  fired : slot.trigger.can ≡ false
  idle : slot.trigger.timeout ≡ None
  same : slot.trigger.tick ≡ tick

still_on : (i oid tick : ℕ) (r q : Rig) → Next i oid r q → Still oid tick r → Still oid tick q
still_on i oid tick r q x z =
    let b = x.slots z.slot z.is in
    let fell = still_fired z.slot.trigger.can b.slot.trigger.can b.stays.can z.fired in
    record { slot = b.slot; is = b.is; fired = fell; idle = b.stays.quiet (λ e. z.idle) fell; same = (b.stays.same z.fired z.idle).1 ∙ z.same }

-- over a turn
module _ (m : Machine) (v : IsValidMachine m) (switches : List Switch) (pins : ℕ → List (List Level)) (entries : List Entry) (none : entries ≡ []) (lines : ℕ → Clocks) (ready from start last till : ℕ) (members : List Member)
    (followed : (b : ℕ) → IsMember b members → IsFollowed m b (lines b) ready start last till)
    (tracks : (b : ℕ) → IsMember b members → (k : AreTracked (λ n. board_tick (clock_of (board_at m b)) n) (lines b) ready) × (till ≤ k.until) × (k.until < run_turns)) (c d : Came) (past : List Came) (j : ℕ → BoardTurn) (js : List (ℕ → BoardTurn))
    (s : IsClearSection m switches pins entries lines from start members c (d ∷ past) (j ∷ js)) (early : from ≤ length past) (low_so : ready + 4 ≤ length past) (far : start ≤ length past + 249) (reach : length past + 276 ≤ till)
    (h : Homing) (is : (noted m d.note (known_by m switches past)).homing ≡ Some h) where
  abbrev K : ℕ
  K = length past

  abbrev G : GroupState
  G = (hears_all (noted m d.note (known_by m switches past)).clocks d.states h).group

  abbrev Behind : Homing
  Behind = behind_turn (hears_all (noted m d.note (known_by m switches past)).clocks d.states h) K

  abbrev All : List Clocks
  All = (noted m c.note (known_by m switches (d ∷ past))).clocks

  abbrev N : GroupState
  N = (hears_all All c.states Behind).group

  abbrev Rigs : ℕ → Rig
  Rigs = rig_at m pins entries js

  abbrev Later : ℕ → Rig
  Later = rig_at m pins entries (j ∷ js)

  abbrev Commands : ℕ → List Cmd
  Commands b = commands_of (queued_in (orders (j b).control (j b).batch))

  abbrev Rested : IsRestingSection m switches pins entries lines from start members c (d ∷ past) (j ∷ js)
  Rested = rests_section m switches pins entries lines from start members c (d ∷ past) (j ∷ js) none s

  abbrev Own : ℕ → ℕ → ℕ
  Own b = λ k. board_tick (clock_of (board_at m b)) k

  same_members : (turned_group G K).members ≡ G.members
  same_members = stepping.same_members m v switches pins entries none lines ready from start last till members followed 0 0 c d past j js s early low_so far reach h is

  are_members : map (λ (x : Seen). x.member) G.members ≡ members
  are_members = stepping.are_members m v switches pins entries none lines ready from start last till members followed 0 0 c d past j js s early low_so far reach h is

  later_members : map (λ (x : Seen). x.member) N.members ≡ members
  later_members = groups.later_members m switches pins entries lines ready from start last till members followed c d past j js Rested early low_so far reach h is

  module _ (safe : IsSafe m lines start last members K G Rigs) (fresh : IsFresh m lines start last members K G Rigs) (small : (b : ℕ) → IsMember b members → AllSmall (Later b)) where
    unended : start ≤ K → all_fired G.members ≡ false
    unended l = (let e = safe.begins in stepping.unended m v switches pins entries none lines ready from start last till members followed 0 0 c d past j js s early low_so far reach h is e (omega (arith, e, l)))

    calm_now : G.relay ≡ None
    calm_now = fresh.relay unended

    -- one of its boards
    module _ (b : ℕ) (on : IsMember b members) where
      abbrev Oid : ℕ
      Oid = trigger_of m b

      abbrev Base : ℕ
      Base = lines_tick (lines b) (start * turn_ns)

      abbrev Turn : ℕ
      Turn = length (turns_of b js)

      abbrev Now : ℕ
      Now = Own b (length (turns_of b js))

      abbrev Until : ℕ
      Until = Own b (length (turns_of b js) + 1)

      abbrev Low : ℕ
      Low = max Base Now

      abbrev Clock : ℕ
      Clock = stepping.Clock m v switches pins entries none lines ready from start last till members followed 0 0 c d past j js s early low_so far reach h is b on

      pub long : K ≡ Turn
      long = stepping.long m v switches pins entries none lines ready from start last till members followed 0 0 c d past j js s early low_so far reach h is b on

      -- the section's first tick
      starts_low : Own b (start - 1) ≤ Base
      starts_low =
          let f = followed b on in
          let t = tracks b on in
          let begins = f.begins in
          let till_so = t.1 in
          let e : start - 1 + 1 ≡ start = omega (arith, begins) in
          subst (λ (n : ℕ). Own b (start - 1) ≤ lines_tick (lines b) (n * turn_ns)) e (t.0.behind (start - 1) (omega (arith, begins)) (omega (arith, till_so, reach, far)))

      starts_ahead : Base < Own b (start + 4)
      starts_ahead = (let f = followed b on in let t = tracks b on in let begins = f.begins in let till_so = t.1 in t.0.ahead start (omega (arith, begins)) (omega (arith, till_so, reach, far)))

      rises : (i k : ℕ) → i ≤ k → Own b i ≤ Own b k
      rises i k l = ticks_rise (Own b) (followed b on).ticks i k l

      sent_is : G.start ≡ start → IsSent m (stepping.Lines m v switches pins entries none lines ready from start last till members followed 0 0 c d past j js s early low_so far reach h is b on) b K G (Commands b)
      sent_is e = stepping.sent m v switches pins entries none lines ready from start last till members followed 0 0 c d past j js s early low_so far reach h is b on e

      -- a timeout that it has, or is sent, while it can trigger
      timed : (u : Slot) → slot_at (Rigs b) Oid ≡ Some u → u.trigger.can ≡ true → ((x : ℕ) → u.trigger.timeout ≡ Some x → Base ≤ x) × (SetsOne (Commands b) → (Now < nearest Now Clock) × (Base ≤ nearest Now Clock))
      timed u there can = by safe.held
        where
          live : HasFired Oid (Rigs b) → ⊥
          live off =
              let same : off.slot ≡ u = one_slot (slot_at (Rigs b) Oid) off.slot u off.is there in
              no_both u.trigger.can can (ap (λ (z : Slot). z.trigger.can) (sym same) ∙ off.fired)

          limit_low : (n : ℕ) → start ≤ n → u.trigger.timeout ≡ limit_of u.trigger.can (lines_tick (lines b) (n * turn_ns)) → (x : ℕ) → u.trigger.timeout ≡ Some x → Base ≤ x
          limit_low n l e x f =
              let limit = lines_tick (lines b) (n * turn_ns) in
              let g : Some limit ≡ Some x = sym (e ∙ ap (λ (z : Bool). limit_of z limit) can) ∙ f in
              let same : limit ≡ x = cc in
              let up = lines_up (lines b) start n l in
              omega (arith, up, same)

          by : IsGroupHeld m lines start last members K G Rigs → ((x : ℕ) → u.trigger.timeout ≡ Some x → Base ≤ x) × (SetsOne (Commands b) → (Now < nearest Now Clock) × (Base ≤ nearest Now Clock))
          by (inl k) =
              let order = (followed b on).goes in
              let ends = safe.ends in
              let end = k.0 in
              let limited : u.trigger.timeout ≡ limit_of u.trigger.can (lines_tick (lines b) ((last + 1) * turn_ns)) = elim (k.1 b on) [ inl renewed ↦ (renewed 0).limited Oid u there | inr x ↦ x.0.limited Oid u there ] in
              (limit_low (last + 1) (omega (arith, order)) limited, λ sets. absurd (no_sets (Commands b) ((sent_is safe.begins).far (omega (arith, end, ends))) sets))
          by (inr (inl k)) = absurd (live (k b on).1)
          by (inr (inr k)) =
              let begins = safe.begins in
              let grown = (groups.grown m switches pins entries lines ready from start last till members followed c d past j js Rested early low_so far reach h is safe).1 in
              let sizes : (start + 1 ≤ G.sent) × (K + 2 ≤ (turned_group G K).sent) = elim k.1 [
                | inl pre ↦ (let a = pre.0 in let b_so = pre.1 in (omega (arith, b_so, begins), omega (arith, a, b_so, grown)))
                | inr go ↦ (let a = go.0 in let b_so = go.1 in (omega (arith, a, b_so, begins), omega (arith, b_so, grown)))
              ] in
              let renewed = (k.2 b on).0 in
              let one = sizes.0 in
              (limit_low G.sent (omega (arith, one)) ((renewed 0).limited Oid u there), λ sets. watched (k.2 b on).1 sizes.0 sizes.1 grown)
            where
              watched : IsWatched m (lines b) b K start last G.sent G.members (Rigs b) → (start + 1 ≤ G.sent) → (K + 2 ≤ (turned_group G K).sent) → (G.sent ≤ (turned_group G K).sent) → (Now < nearest Now Clock) × (Base ≤ nearest Now Clock)
              watched (inr gone) first next grown = absurd (live gone.0)
              watched (inl w) first next grown =
                  let f = followed b on in
                  let size = long in
                  let near = groups.near_on m switches pins entries lines ready from start last till members followed c d past j js Rested early low_so far reach h is b on safe.begins w.1 w.2 in
                  let most = groups.most m switches pins entries lines ready from start last till members followed c d past j js Rested early low_so far reach h is safe in
                  let plain = stepping.plain m v switches pins entries none lines ready from start last till members followed 0 0 c d past j js s early low_so far reach h is b on in
                  let few = groups.few m switches pins entries lines ready from start last till members followed c d past j js Rested early low_so far reach h is b on in
                  let in_range = groups.in_range m switches pins entries lines ready from start last till members followed c d past j js Rested early low_so far reach h is b on in
                  let to = (turned_group G K).sent in
                  let ahead = boards.ahead_of m b (pins b) entries (j b) (turns_of b js) (clear_over (board_at m b) (pins b) b entries (j b) (turns_of b js) none plain.run.turns_are plain.limits) plain.run.turns_are plain.none_shut.0 few in_range (lines b) ready start last till to f (omega (arith, low_so, size)) (omega (arith, reach, size)) (omega (arith, next, size)) most (omega (arith, near, size)) in
                  let clock = groups.clock_is m switches pins entries lines ready from start last till members followed c d past j js Rested early low_so far reach h is b on near in
                  let is_so : nearest Now Clock ≡ lines_tick (lines b) (to * turn_ns) = ap (nearest Now) clock ∙ ahead.is in
                  let up = lines_up (lines b) start to (omega (arith, first, grown)) in
                  let later = ahead.later in
                  (omega (arith, is_so, later), omega (arith, is_so, up))

      -- what it tells of its trigger stands
      pub told_so : (oid reason clock : ℕ) → HasAnswer (cmd.TrsyncState oid 0 reason clock) (j b).state.news → StandsFired Oid reason clock (Later b)
      told_so oid reason clock told =
          let cs = Commands b in
          let k = sent_is safe.begins in
          let plain = stepping.plain m v switches pins entries none lines ready from start last till members followed 0 0 c d past j js s early low_so far reach h is b on in
          let watched = stepping.watched m v switches pins entries none lines ready from start last till members followed 0 0 c d past j js s early low_so far reach h is b on (above cs) in
          let calm = stepping.calm_meant (above cs) Oid Clock (queued_in (orders (j b).control (j b).batch)) (omega arith) k.behind in
          told_stands (board_at m b) (pins b) b entries (j b) [] (turns_of b js) (above cs) Oid oid reason clock plain.run.turns_are watched (calm, tt) (λ u there. (small b on Oid u there).reason) told

      behind_so : AreSentBehind Oid Clock (Commands b)
      behind_so = (sent_is safe.begins).behind

      taken : Later b ≡ (passes (takes_all (Rigs b) (Commands b)).rig Until).rig
      taken = stepping.taken m v switches pins entries none lines ready from start last till members followed 0 0 c d past j js s early low_so far reach h is b on

      plain : IsPlain m switches (pins b) entries b (d ∷ past) (turns_of b (j ∷ js))
      plain = stepping.plain m v switches pins entries none lines ready from start last till members followed 0 0 c d past j js s early low_so far reach h is b on

      -- one that could not trigger
      stays : (u : Slot) → slot_at (Rigs b) Oid ≡ Some u → u.trigger.can ≡ false → u.trigger.timeout ≡ None → Still Oid u.trigger.tick (Later b)
      stays u there fired idle =
          let cs = Commands b in
          let q = (takes_all (Rigs b) cs).rig in
          let tick = u.trigger.tick in
          let zero : Still Oid tick (Rigs b) = record { slot = u; is = there; fired = fired; idle = idle; same = refl } in
          let one = still_on (above cs) Oid tick (Rigs b) q (next_all Oid Clock (Rigs b) cs behind_so) zero in
          subst (Still Oid tick) (sym taken) (still_on (above cs) Oid tick q (passes q Until).rig (passes_next (above cs) Oid q Until) one)

      -- the lines that are known in the next turn
      abbrev Known : Clocks
      Known = clocks_at All b

      knows : (b < length All) × IsAlike (K + 276 + 1) Known (lines b)
      knows =
          let past_next : (known_by m switches (d ∷ past)).phase ≡ Connecting → ⊥ = (s.homes.0 (omega (arith, early))).0 in
          let to = stepping.next_known m v switches pins entries none lines ready from start last till members followed 0 0 c d past j js s early low_so far reach h is in
          let of = stepping.next_of m v switches pins entries none lines ready from start last till members followed 0 0 c d past j js s early low_so far reach h is in
          let k = s.knows.0 past_next Behind to.0 of.0 b plain.run.board in
          let e : length (d ∷ past) + 276 ≡ K + 276 + 1 = omega arith in
          (k.0, subst (λ (n : ℕ). IsAlike n Known (lines b)) e k.1)

      begins_next : (Behind.start ≡ start) × (Behind.group.start ≡ start)
      begins_next = (let of = stepping.next_of m v switches pins entries none lines ready from start last till members followed 0 0 c d past j js s early low_so far reach h is in (of.0, of.1))

      pub followed_known : (k : AreTracked (Own b) Known ready) × (Turn + 1 ≤ k.until) × (k.until < run_turns)
      followed_known =
          let t = tracks b on in
          let y = tracked_alike (Own b) Known (lines b) ready (K + 276) t.0 knows.1 in
          let is_so = y.1 in
          let size = long in
          let till_so = t.1 in
          let most = t.2 in
          (y.0, omega (arith, is_so, size, till_so, reach), omega (arith, is_so, most))

      -- one that triggered in the turn
      module _ (u : Slot) (there : slot_at (Later b) Oid ≡ Some u) (none_before : NoneOn b G.members) (gone : Gone Oid Low Until u ((takes_all (Rigs b) (Commands b)).answers ++ (passes (takes_all (Rigs b) (Commands b)).rig Until).answers)) where
        abbrev Tick : ℕ
        Tick = u.trigger.tick

        begun_so : start ≤ K + 1
        begun_so = elim (leb_tells start (K + 1)) [
          | inl p ↦ p.1
          | inr p ↦
              let before = p.1 in
              let size = long in
              let up = rises (Turn + 1) (start - 1) (omega (arith, before, size)) in
              let low_start = starts_low in
              let low_tick = gone.begun in
              let soon = gone.early in
              absurd (omega (arith, up, low_start, low_tick, soon))
        ]

        counts : IsCounted Known Turn Turn Tick
        counts =
            let f = followed b on in
            let k = followed_known in
            let size = long in
            let low_tick = gone.begun in
            report_counts (Own b) Known ready Turn Turn Tick f.ticks k.0 (omega (arith, low_so, size)) (omega arith) (omega arith) k.1 k.2
            (groups.in_range m switches pins entries lines ready from start last till members followed c d past j js Rested early low_so far reach h is b on) (omega (arith, low_tick)) gone.early

        tells : SayFired (j b).state.news
        tells =
            let r = Rigs b in
            let cs = Commands b in
            let q = (takes_all r cs).rig in
            let xs = (takes_all r cs).answers in
            let ys = (passes q Until).answers in
            let clock = Tick % 2 ^ 32 in
            let parts = small_parts xs (says q Until) (turn_small Oid Clock Until r cs behind_so (safe.small b on)).1 in
            let small_oid = (followed b on).trigger in
            elim (off_parts Oid clock xs ys gone.tells) [
              | inl t ↦
                  let f = off_found Oid clock xs t in
                  let fits = small_among (cmd.TrsyncState Oid 0 f.reason clock) xs parts.0 f.among in
                  let x = told_to_commands (board_at m b) (pins b) b entries (j b) (turns_of b js) (cmd.TrsyncState Oid 0 f.reason clock) (clear_over (board_at m b) (pins b) b entries (j b) (turns_of b js) none plain.run.turns_are plain.limits) plain.run.turns_are f.among (own_state Oid 0 f.reason clock small_oid (omega arith) fits.0 fits.1) in
                  firing_among Oid f.reason clock x.0 (j b).state.news x.1
              | inr t ↦
                  let f = off_found Oid clock ys t in
                  let among = among_front (cmd.TrsyncState Oid 0 f.reason clock) ys (says_shut (shut_before q.controller.state q.controller.tick) q.controller.tick Until) f.among in
                  let fits = small_among (cmd.TrsyncState Oid 0 f.reason clock) (says q Until) parts.1 among in
                  let x = told_at_once (board_at m b) (pins b) b entries (j b) (turns_of b js) (cmd.TrsyncState Oid 0 f.reason clock) (clear_over (board_at m b) (pins b) b entries (j b) (turns_of b js) none plain.run.turns_are plain.limits) plain.run.turns_are among (own_state Oid 0 f.reason clock small_oid (omega arith) fits.0 fits.1) in
                  firing_among Oid f.reason clock x.0 (j b).state.news x.1
            ]

        heard : (n : ℕ) → counts.when ≤ n → FiredOn b n N.members
        heard n low_n =
            let cnt = counts in
            let news = (j b).state.news in
            let turn_is : (j b).state.turn ≡ Turn = plain.run.turns_are.0.1.turn in
            let begins = cnt.begun start (let at = knows.1.ticks start (omega (arith, far)) in let low_tick = gone.begun in omega (arith, at, low_tick)) in
            let group_start = begins_next.1 in
            let all : AllFiredIn Known Turn Behind.group.start n news =
            firing_in Known Turn Behind.group.start n news (λ o r k told. (
              cnt.when,
              omega (arith, begins, group_start),
              low_n,
              (let st = told_so o r k told in
                  let same : st.slot ≡ u = one_slot (slot_at (Later b) Oid) st.slot u st.is there in
                  let clock : Tick % 2 ^ 32 ≡ k = ap (λ (z : Slot). z.trigger.tick % 2 ^ 32) (sym same) ∙ st.clock_is in
                  subst (λ (i : ℕ). turn_in_run Known (nearest (turn_tick Known Turn) i) ≡ Some cnt.when) clock cnt.in_run),
            )) in
            let own_start = begins_next.0 in
            let begun = begun_so in
            let size = long in
            let unknown : NoneOn b Behind.group.members = subst (λ (xs : List Seen). NoneOn b xs) (sym same_members) none_before in
            hears_fired b n All c.states (j b).state Behind knows.0 (s.states b on) (omega (arith, own_start, begun, size, turn_is)) (subst (λ (i : ℕ). AllFiredIn Known i Behind.group.start n news) (sym turn_is) all) tells
            (none_known b n Behind.group.members unknown)

        heard_late : Tick < lines_tick (lines b) ((last + 1) * turn_ns) → FiredOn b last N.members
        heard_late l = elim (leb_tells (last + 1) (K + 276 + 1)) [
          | inl p ↦ (let at = knows.1.ticks (last + 1) p.1 in heard last (counts.ends last (omega (arith, at, l))))
          | inr p ↦
              let behind = p.1 in
              let k = followed_known in
              let size = long in
              let next = k.0.behind (Turn + 1) (omega (arith, low_so, size)) k.1 in
              let soon = gone.early in
              let at = counts.ends (Turn + 1) (omega (arith, next, soon)) in
              heard last (omega (arith, at, behind, size))
        ]

        fell : Fell m lines start last b K G N u
        fell =
            let size = long in
            let low_tick = gone.begun in
            let soon = gone.early in
            let Now_at : ℕ → Type 0 = λ n. Own b n ≤ Tick in
            let since : Own b K ≤ Tick = subst Now_at (sym size) (omega (arith, low_tick)) in
            let before : Tick < Own b (K + 1) = subst (λ (n : ℕ). Tick < Own b (n + 1)) (sym size) soon in
            record {
              fired = gone.fired;
              idle = gone.idle;
              early = before;
              recent = (K, begun_so, since, omega arith);
              since = inr (begun_so, since);
              when = counts.when;
              known = heard counts.when (omega arith);
              late = heard_late;
            }

      -- a board behind the turn
      next_on : (u : Slot) × (slot_at (Later b) Oid ≡ Some u) × (Able m lines start last members b N (Later b).pins u ⊎ Fell m lines start last b K G N u)
      next_on = by (fresh.each b on).so
        where
          x : FreshOn m lines start last members b K G (Rigs b)
          x = fresh.each b on

          by : Able m lines start last members b G (Rigs b).pins x.slot ⊎ Off m lines start last members b K G x.slot
              → (u : Slot) × (slot_at (Later b) Oid ≡ Some u) × (Able m lines start last members b N (Later b).pins u ⊎ Fell m lines start last b K G N u)
          by (inr off) =
              let z = stays x.slot x.is off.fired off.idle in
              let same = z.same in
              let up = rises K (K + 1) (omega arith) in
              let soon = off.early in
              let recent = off.going unended in
              let at = recent.2 in
              let near = recent.3 in
              let heard : (n : ℕ) → FiredOn b n G.members → FiredOn b n N.members = (λ n k. hears_still b n All c.states Behind (subst (λ (xs : List Seen). FiredOn b n xs) (sym same_members) k)) in (
                z.slot,
                z.is,
                inr (record {
                  fired = z.fired;
                  idle = z.idle;
                  early = omega (arith, same, soon, up);
                  recent = (recent.0, recent.1, omega (arith, at, same), omega (arith, near));
                  since = inl ((recent.0, recent.1, omega (arith, at, same), near), omega (arith, same, soon), λ l. any_on b last G.members (subst (IsMember b) (sym are_members) on) (off.late (omega (arith, l, same))));
                  when = off.when;
                  known = heard off.when off.known;
                  late = λ l. heard last (off.late (omega (arith, l, same)));
                }),
              )
          by (inl able) =
              let t = timed x.slot x.is able.can in
              let so = stepping.sound m v switches pins entries none lines ready from start last till members followed 0 0 c d past j js s early low_so far reach h is b on Oid x.slot x.is in
              let at = stepping.at_tick m v switches pins entries none lines ready from start last till members followed 0 0 c d past j js s early low_so far reach h is b on in
              let keen : Keen Low (Rigs b).pins x.slot = record {
                can = able.can;
                told = so.told;
                moves = so.moves;
                timed = λ y e. (let one = t.0 y e in let two = so.timeout y e in omega (arith, one, two, at));
                sampled = λ y e z hit. (let one = able.sampled y e z hit in let two = so.switch y z e hit in omega (arith, one, two, at));
              } in
              let st = turn_so Oid Low Until Clock Now ((followed b on).rises Turn) (Rigs b) (Commands b) at behind_so ((λ relays. low_relay (relay_begins G K) refl relays), λ sets. (let f = t.1 sets in let one = f.0 in let two = f.1 in inl (one, omega (arith, one, two)))) x.slot x.is keen in
              let there : slot_at (Later b) Oid ≡ Some st.slot = subst (λ (r : Rig). slot_at r Oid ≡ Some st.slot) (sym taken) st.is in (
                st.slot,
                there,
                elim st.so [
                  | inl k ↦ inl (still_able st.slot there able.none (subst (λ (r : Rig). Keen Low r.pins st.slot) (sym taken) k))
                  | inr g ↦ inr (fell st.slot there able.none g)
                ],
              )
            where
              low_relay : (z : Bool) → relay_begins G K ≡ z → RelaysOne (Commands b) → Low ≤ Now
              low_relay true e relays =
                  let late = was_le (G.start + 4) K (both_parts (nat_le (G.start + 4) K) (any_fired_by G.last G.members || nat_le (G.last + 5) K) e).0 in
                  let begins = safe.begins in
                  let size = long in
                  let up = rises (start + 4) Turn (omega (arith, late, begins, size)) in
                  let ahead = starts_ahead in
                  omega (arith, up, ahead)
              low_relay false e relays = absurd (none_relay (Commands b) ((sent_is safe.begins).none calm_now e) relays)

              still_able : (u : Slot) → slot_at (Later b) Oid ≡ Some u → NoneOn b G.members → Keen Low (Later b).pins u → Able m lines start last members b N (Later b).pins u
              still_able u there unknown k =
                  let before : NoneOn b Behind.group.members = subst (λ (xs : List Seen). NoneOn b xs) (sym same_members) unknown in
                  let silent : FiringNone (j b).state.news = none_firing (j b).state.news (λ o r n told. (
                  let z = told_so o r n told in
                  let same : z.slot ≡ u = one_slot (slot_at (Later b) Oid) z.slot u z.is there in
                  no_both u.trigger.can k.can (ap (λ (y : Slot). y.trigger.can) (sym same) ∙ z.fired))) in
                  record {
                    can = k.can;
                    none = hears_none b All c.states Behind (λ z at. subst (λ (y : State). FiringNone y.news) (sole_state (j b).state z (sym (s.states b on) ∙ at)) silent) before;
                    sampled = λ y e z hit. (let l = k.sampled y e z hit in omega (arith, l));
                  }

      -- a relay
      relayed : relay_begins G K ≡ true → HasFired Oid (Later b)
      relayed e = by (fresh.each b on).so
        where
          x : FreshOn m lines start last members b K G (Rigs b)
          x = fresh.each b on

          by : Able m lines start last members b G (Rigs b).pins x.slot ⊎ Off m lines start last members b K G x.slot → HasFired Oid (Later b)
          by (inr off) = (let z = stays x.slot x.is off.fired off.idle in record { slot = z.slot; is = z.is; fired = z.fired })
          by (inl able) =
              let both = both_parts (nat_le (G.start + 4) K) (any_fired_by G.last G.members || nat_le (G.last + 5) K) e in
              let late = was_le (G.start + 4) K both.0 in
              let begins = safe.begins in
              let ends = safe.ends in
              elim (either_part (any_fired_by G.last G.members) (nat_le (G.last + 5) K) both.1) [
                | inl some ↦
                    let y = member_seen b G.members (subst (IsMember b) (sym are_members) on) in
                    let lines_now = stepping.Lines m v switches pins entries none lines ready from start last till members followed 0 0 c d past j js s early low_so far reach h is b on in
                    let ordered = stepping.ordered m v switches pins entries none lines ready from start last till members followed 0 0 c d past j js s early low_so far reach h is b on in
                    let relays = sent_relays m lines_now b h K G (Commands b) ordered (omega (arith, late)) (unended (omega (arith, late, begins))) y.0 y.1 y.2 (none_at b y.0 G.members y.1 y.2 able.none) late calm_now some in
                    groups.relay_on m switches pins entries lines ready from start last till members followed c d past j js Rested early low_so far reach h is b on safe.begins x.slot x.is relays
                | inr far_so ↦
                    let over = was_le (G.last + 5) K far_so in
                    absurd (stepping.off_late m v switches pins entries none lines ready from start last till members followed 0 0 c d past j js s early low_so far reach h is b on safe (omega (arith, over, ends)) x.slot x.is able.can)
              ]

    -- the group behind the turn
    relays_all : relay_begins G K ≡ true → all_fired N.members ≡ true
    relays_all e = all_known N.members (λ b k. (let on = subst (IsMember b) later_members k in by b on (next_on b on)))
      where
        by : (b : ℕ) (on : IsMember b members) → (u : Slot) × (slot_at (Later b) (trigger_of m b) ≡ Some u) × (Able m lines start last members b N (Later b).pins u ⊎ Fell m lines start last b K G N u) → (n : ℕ) × FiredOn b n N.members
        by b on (u, there, inl able) =
            let off = relayed b on e in
            let same : off.slot ≡ u = one_slot (slot_at (Later b) (trigger_of m b)) off.slot u off.is there in
            absurd (no_both u.trigger.can able.can (ap (λ (z : Slot). z.trigger.can) (sym same) ∙ off.fired))
        by b on (u, there, inr f) = (f.when, f.known)

    relay_next : (start ≤ K + 1 → all_fired N.members ≡ false) → N.relay ≡ None
    relay_next going = by N.relay refl
      where
        by : (o : Option ℕ) → N.relay ≡ o → N.relay ≡ None
        by None e = e
        by (Some k) e =
            let hears = stepping.hears m v switches pins entries none lines ready from start last till members followed 0 0 c d past j js s early low_so far reach h is in
            absurd (elim (relay_after (phase G.start G.last K) G K k (sym hears.relay ∙ e)) [
              | inl old ↦ (let bad : None ≡ Some k = sym calm_now ∙ old in cc)
              | inr new ↦
                  let late = was_le (G.start + 4) K (both_parts (nat_le (G.start + 4) K) (any_fired_by G.last G.members || nat_le (G.last + 5) K) new.1).0 in
                  let begins = safe.begins in
                  no_both (all_fired N.members) (relays_all new.1) (going (omega (arith, late, begins)))
            ])

    open_next : (b : ℕ) (on : IsMember b members) (u : Slot) (f : Fell m lines start last b K G N u) → (start ≤ K + 1 → all_fired N.members ≡ false) → Recent m lines start last members 7 b (K + 1) u.trigger.tick
    open_next b on u f going = by f.since
      where
        calm : relay_begins G K ≡ false → start + 6 ≤ K → (u.trigger.tick < Own b K) → (u.trigger.tick < lines_tick (lines b) ((last + 1) * turn_ns) → any_fired_by last G.members ≡ true) → Recent m lines start last members 7 b (K + 1) u.trigger.tick
        calm e far_so early_so late =
            let begins = safe.begins in
            let ends = safe.ends in
            let t = tracks b on in
            let till_so = t.1 in
            let order = (followed b on).goes in
            let first_begins = (followed b on).begins in
            let none_so = or_parts (any_fired_by G.last G.members) (nat_le (G.last + 5) K) (second_by (nat_le (G.start + 4) K) (any_fired_by G.last G.members || nat_le (G.last + 5) K) (is_le (G.start + 4) K (omega (arith, far_so, begins))) e) in
            let soon : K < last + 5 = elim (leb_tells (G.last + 5) K) [ inl p ↦ absurd (no_both (nat_le (G.last + 5) K) p.0 none_so.1) | inr p ↦ (let l = p.1 in omega (arith, l, ends)) ] in
            let past_end : lines_tick (lines b) ((last + 1) * turn_ns) ≤ u.trigger.tick = elim (leb_tells (u.trigger.tick + 1) (lines_tick (lines b) ((last + 1) * turn_ns))) [
              | inl p ↦ absurd (no_both (any_fired_by last G.members) (late (let l = p.1 in omega (arith, l))) (subst (λ (n : ℕ). any_fired_by n G.members ≡ false) ends none_so.0))
              | inr p ↦ (let l = p.1 in omega (arith, l))
            ] in
            let now_low = t.0.behind K (omega (arith, low_so)) (omega (arith, till_so, reach)) in
            let over : last ≤ K = elim (leb_tells last K) [
              | inl p ↦ p.1
              | inr p ↦ (let l = p.1 in let up = lines_up (lines b) (K + 1) (last + 1) (omega (arith, l)) in absurd (omega (arith, up, past_end, early_so, now_low)))
            ] in
            let end_low = t.0.behind last (omega (arith, order, first_begins)) (omega (arith, over, till_so, reach)) in
            (last, omega (arith, order), omega (arith, end_low, past_end), omega (arith, soon))

        by : (Recent m lines start last [] 7 b K u.trigger.tick × (u.trigger.tick < Own b K) × (u.trigger.tick < lines_tick (lines b) ((last + 1) * turn_ns) → any_fired_by last G.members ≡ true)) ⊎ ((start ≤ K + 1) × (Own b K ≤ u.trigger.tick)) → Recent m lines start last members 7 b (K + 1) u.trigger.tick
        by (inr new) = (K, new.0, new.1, omega arith)
        by (inl old) = elim (leb_tells (K + 1) (start + 6)) [
          | inl p ↦ (let l = p.1 in let since = old.0.1 in (old.0.0, since, old.0.2, omega (arith, l, since)))
          | inr p ↦ (let l = p.1 in elim (true_or_false (relay_begins G K)) [
            | inl e ↦ absurd (no_both (all_fired N.members) (relays_all e) (going (omega (arith, l))))
            | inr e ↦ calm e (omega (arith, l)) old.1 old.2
          ])
        ]

    pub step_fresh : IsFresh m lines start last members (K + 1) N Later
    step_fresh = record {
      relay = relay_next;
      each = λ b on. by b on (next_on b on);
    }
      where
        by : (b : ℕ) (on : IsMember b members) → (u : Slot) × (slot_at (Later b) (trigger_of m b) ≡ Some u) × (Able m lines start last members b N (Later b).pins u ⊎ Fell m lines start last b K G N u) → FreshOn m lines start last members b (K + 1) N (Later b)
        by b on (u, there, inl able) = record { slot = u; is = there; so = inl able }
        by b on (u, there, inr f) = record {
          slot = u;
          is = there;
          so = inr (record { fired = f.fired; idle = f.idle; early = f.early; recent = f.recent; going = open_next b on u f; when = f.when; known = f.known; late = f.late });
        }

-- as the boards are set up
module _ (m : Machine) (switches : List Switch) (pins : ℕ → List (List Level)) (entries : List Entry) (none : entries ≡ []) (lines : ℕ → Clocks) (ready from start last till : ℕ) (members : List Member)
    (followed : (b : ℕ) → IsMember b members → IsFollowed m b (lines b) ready start last till) (c d e : Came) (past : List Came) (i j : ℕ → BoardTurn) (js : List (ℕ → BoardTurn))
    (s : IsClearSection m switches pins entries lines from start members c (d ∷ e ∷ past) (i ∷ j ∷ js)) (early : from ≤ length past) (low_so : ready + 4 ≤ length past) (set_up : length past + 251 ≡ start) (order : start ≤ last) (reach : length past + 276 ≤ till)
    (first : AreOfTurn (length past + 1) d.states) (second : AreOfTurn (length past + 2) c.states) (h : Homing) (is : (noted m e.note (known_by m switches past)).homing ≡ Some h)
    (new : IsNew start last members (hears_all (noted m e.note (known_by m switches past)).clocks e.states h).group) where
  abbrev Set_rested : IsRestingSection m switches pins entries lines from start members c (d ∷ e ∷ past) (i ∷ j ∷ js)
  Set_rested = rests_section m switches pins entries lines from start members c (d ∷ e ∷ past) (i ∷ j ∷ js) none s

  pub begins_fresh : ((b : ℕ) → IsMember b members → HoldsOf (trigger_of m b) (λ ps x. IsPrepared (lines_tick (lines b) (start * turn_ns)) ps x) (rig_at m pins entries js b))
      → IsFresh m lines start last members (length (d ∷ e ∷ past)) (beginning.Last m switches pins entries lines ready from start last till members followed c d e past i j js Set_rested early low_so set_up order reach first second h is new).group (rig_at m pins entries (i ∷ j ∷ js))
  begins_fresh prep =
      let group = beginning.group_second m switches pins entries lines ready from start last till members followed c d e past i j js Set_rested early low_so set_up order reach first second h is new in
      let calm = ap (λ (g : GroupState). g.relay) group ∙ new.calm in
      let unheard = ap (λ (g : GroupState). g.members) group ∙ new.unheard in
      record {
        relay = λ going. calm;
        each = λ b on. (
            let a = beginning.armed_second m switches pins entries lines ready from start last till members followed c d e past i j js Set_rested early low_so set_up order reach first second h is new b on (prep b on) in
            record {
              slot = a.slot;
              is = a.is;
              so = inl (record { can = a.so.can; none = subst (λ (xs : List Seen). NoneOn b xs) (sym unheard) (none_new b members); sampled = λ y e x hit. (a.so.prepared.sampled y e).2 x hit });
            });
      }
