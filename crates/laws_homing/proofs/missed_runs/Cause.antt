-- Why a member's trigger can't trigger any more, as long as the group of its section relays nothing before five turns behind the section's last one.
use Rattle.std.proofs.Common.{◌≡◌, ℕ, ◌+◌, ◌-◌, ◌<◌, ◌≤◌, ◌⊎◌, inl, inr, List, [], ◌∷◌, ◌++◌, length, Option, Some, None, refl, ap, sym, ◌∙◌, subst, arith, append_assoc, length-append}
use Rattle.laws_board.proofs.Names.{append_cancel_left, leb_tells, Level, Machine, board_tick, clock_of, IsValidMachine, board_at, clocks_at, Sampling, Cmd, Entry, Switch, Meant, commands_of, Rig, Slot, slot_at, queued_in, first_state, orders, LinkState, trigger_of, Member, Homing, members_of, Connecting, noted, Came, known_by, no_both}
use Rattle.msg_code.specs.declared.cmd.Cmd.TheVariants as cmd
use Rattle.laws_board.specs.turns.Turns.{AreBoardTurns, BoardTurn, stands_after}
use Rattle.laws_board.specs.clocks.Runs.{IsInRun}
use Rattle.laws_board.proofs.clocks.Lines.{as_long, noted_phase, run_before}
use Rattle.laws_homing.specs.home_runs.Sections.{HomesFrom, IsOf, queued_in_turns}
use Rattle.laws_homing.specs.home_runs.Told.{IsMember}
use Rattle.laws_homing.proofs.home_runs.Joining.{all_queued}
use Rattle.laws_homing.proofs.home_runs.Staying.{taken_later}
use Rattle.laws_homing.proofs.clear_boards.Standing.{tick_is}
use Rattle.laws_homing.specs.clear_groups.Resting.{EachTame}
use Rattle.laws_homing.proofs.clear_groups.Resting.{some_same}
use Rattle.laws_homing.specs.missed_groups.Ticks.{IsReader}
use Rattle.laws_homing.specs.switch_runs.Taken.{AreBlind}
use Rattle.laws_homing.proofs.switch_runs.Exact.{front_part}
use Rattle.laws_homing.specs.fired_runs.Since.{AreNotAhead, AreSoInTurns, AreReadTrue, BeginsApart, IsAtRest, IsFiredAt, ReadsSwitchTrue, ReadsTrue}
use Rattle.laws_homing.proofs.fired_runs.Blind.{blind_parts}
use Rattle.laws_homing.proofs.fired_runs.Old.{OldAt, tame_both}
use Rattle.laws_homing.proofs.fired_runs.Once.{Split, turn_split}
use Rattle.laws_homing.proofs.fired_runs.Rested.{earlier_reads, grows, left_of, old_of, queue_later, rest_before, rest_of, rises, run_at}
use Rattle.laws_homing.proofs.fired_runs.Seeing.{unread_before}
use Rattle.laws_homing.proofs.fired_runs.Sight.{blind_both, reads_either}
use Rattle.laws_homing.proofs.fired_runs.Under.{under_after}
use Rattle.laws_homing.proofs.missed_runs.Known.{Now, known_since}
use Rattle.laws_homing.proofs.missed_runs.Meek.{AllSo, IsMeek, IsMild, MeekAt, SoIn, Stage, Waiting, in_are, in_part, so_both, so_parts, so_queue, staged_meek, turns_staged}
use Rattle.laws_homing.proofs.missed_runs.Missing.{Ordered, ordered}
use Rattle.laws_homing.proofs.missed_runs.Orders.{turn_is}

-- what a board is sent in some turns, from a number on and before another one, is meek
abbrev pub MeekIn : Type 0 → ℕ → ℕ → List BoardTurn → Type 0
MeekIn Z from to turns = SoIn (IsMeek Z) from to turns

-- a part of some turns
pub record Cut (n : ℕ) (turns : List BoardTurn) : Type 0 where
  pub up : List BoardTurn
  pub early : List BoardTurn
  pub are : turns ≡ up ++ early
  pub long : length early ≡ n

pub cut_at : (n : ℕ) (turns : List BoardTurn) → n ≤ length turns → Cut n turns
cut_at n [] l = record { up = []; early = []; are = refl; long = omega (arith, l) }
cut_at n (t ∷ turns) l = elim (leb_tells (length (t ∷ turns)) n) [
  | inl p ↦ (let low = p.1 in record { up = []; early = t ∷ turns; are = refl; long = omega (arith, l, low) })
  | inr p ↦ (let low = p.1 in let rest = cut_at n turns (omega (arith, low)) in record { up = t ∷ rest.up; early = rest.early; are = ap (λ (z : List BoardTurn). t ∷ z) rest.are; long = rest.long })
]

-- what is meek is mild
mild_one : (Z : Type 0) (c : Cmd) → IsMeek Z c → IsMild Z c
mild_one Z (cmd.TrsyncTrigger oid reason) k = tt
mild_one Z (cmd.TrsyncStart oid clock every reason) k = k
mild_one Z (cmd.EndstopHome oid clock sample count rest value other reason) k = k
mild_one Z c k = tt

all_mild : (Z : Type 0) (ms : List Meant) → AllSo (IsMeek Z) ms → AllSo (IsMild Z) ms
all_mild Z [] k = tt
all_mild Z (m ∷ ms) k = (mild_one Z m.command k.0, all_mild Z ms k.1)

module _ (m : Machine) (v : IsValidMachine m) (switches : List Switch) (pins : List (List Level)) (entries : List Entry) (b : ℕ) where
  abbrev First : LinkState
  First = first_state (board_at m b) pins b entries

  abbrev Board : List BoardTurn → Rig
  Board turns = (stands_after First turns).core.board

  abbrev Taken : List BoardTurn → List Meant
  Taken turns = (stands_after First turns).core.taken

  abbrev Oid : ℕ
  Oid = trigger_of m b

  abbrev Own : ℕ → ℕ
  Own k = board_tick (clock_of (board_at m b)) k

  abbrev Run : List Came → List BoardTurn → Type 0
  Run before turns = IsInRun m switches pins entries b before turns

  -- a section that is known in a turn
  pub of_some : (start : ℕ) (ms : List Member) (o : Option Homing) → IsOf start ms o → (h : Homing) × (o ≡ Some h) × (h.start ≡ start) × (h.group.start ≡ start) × (members_of h.group ≡ ms)
  of_some start ms None k = absurd k
  of_some start ms (Some h) k = (h, refl, k.0, k.1, k.2)

  -- what the board is sent while it is known is mild
  mild_queue : (from start : ℕ) (ms : List Member) (later past : List BoardTurn) (came : List Came) → Run came (later ++ past) → from ≤ length past → HomesFrom m switches from start ms came → AllSo (IsMild (IsReader b ms)) (queue_later later past).0
  unfolding queue_later
  mild_queue from start ms [] past came r low homes = tt
  mild_queue from start ms (t ∷ later) past [] r low homes = absurd r.both
  mild_queue from start ms (t ∷ later) past (d ∷ before) r low homes =
      let Z = IsReader b ms in
      let turns = later ++ past in
      let run = run_before m switches pins entries b d before t turns r in
      let long = as_long m switches b before turns run.both in
      let size = length-append later past in
      let known = homes.0 (omega (arith, low, long, size)) in
      let h = of_some start ms (noted m d.note (known_by m switches before)).homing known.1 in
      let new = turn_is Z (Unit {0}) b m switches pins entries d before t turns h.0 r known.0 h.1 (λ i. subst (IsReader b) h.4 i) (λ e. tt) in
      so_both (IsMild Z) (queue_later later past).0 (queued_in (orders t.control t.batch)) (mild_queue from start ms later past before run low homes.1) new

  -- of the members' boards one whose trigger can't trigger, as a section is known
  module _ (d : Came) (past : List Came) (turns : List BoardTurn) (r : Run past turns) (apart : BeginsApart m switches (d ∷ past)) (reads : AreReadTrue m switches b past (rest_of m v switches pins entries b turns))
      (sees : AreSoInTurns (ReadsSwitchTrue m switches b) past (rest_of m v switches pins entries b turns)) (behind : AreNotAhead m switches b past) (h : Homing) (is : (noted m d.note (known_by m switches past)).homing ≡ Some h) (member : IsMember b (members_of h.group)) (to : ℕ)
      (high : h.start + 5 ≤ to) (meek : MeekIn (IsReader b (members_of h.group)) (h.start - 251) to turns) (reason tick : ℕ) (l x : List BoardTurn) (same : turns ≡ l ++ x) (f : IsFiredAt Oid reason tick (Board x)) (late : Own (h.start - 1) ≤ tick) where
    abbrev Ms : List Member
    Ms = members_of h.group

    abbrev Z : Type 0
    Z = IsReader b Ms

    abbrev Most : ℕ
    Most = Own (h.start - 1)

    abbrev Late : ℕ
    Late = Own to

    now : Now m v switches pins entries b d past h
    now = known_since m v switches pins entries b d past turns r apart h is

    run_x : (came : List Came) × Run came x
    run_x = run_at m switches pins entries b past l x (subst (Run past) same r)

    x_long : h.start ≤ length x + 1
    x_long = elim (leb_tells h.start (length x + 1)) [
      | inl p ↦ p.1
      | inr p ↦
          let low = p.1 in
          let under = under_after m switches pins entries b run_x.0 x run_x.1 Oid f.slot f.is in
          let up = rises m v switches pins entries b r.board (length x) in
          let on = grows m v switches pins entries b (length x + 1) (h.start - 1) (omega (arith, low)) in
          let at = f.at in
          absurd (omega (arith, under, up, on, at, late))
    ]

    -- the turn in which the trigger's start was ordered
    record Starts : Type 0 where
      up : List BoardTurn
      order : BoardTurn
      early : List BoardTurn
      are : x ≡ up ++ order ∷ early
      long : length early + 251 ≡ h.start

    starts : Starts
    starts =
        let far = now.far in
        let enough = x_long in
        let c = cut_at (h.start - 250) x (omega (arith, enough, far)) in
        let size = c.long in
        by c.up c.early c.are (omega (arith, size, far))
      where
        by : (up part : List BoardTurn) → x ≡ up ++ part → length part + 250 ≡ h.start → Starts
        by up [] are long = absurd (let far = now.far in omega (arith, long, far))
        by up (t ∷ early) are long = record { up = up; order = t; early = early; are = are; long = omega (arith, long) }

    abbrev Early : List BoardTurn
    Early = starts.early

    abbrev Order : BoardTurn
    Order = starts.order

    abbrev New : List Meant
    New = queued_in (orders Order.control Order.batch)

    whole : turns ≡ (l ++ starts.up) ++ Order ∷ Early
    whole = same ∙ ap (λ (z : List BoardTurn). l ++ z) starts.are ∙ sym (append_assoc l starts.up (Order ∷ Early))

    turn : Ordered m v switches pins entries b past ((l ++ starts.up) ++ Order ∷ Early) Order Early 0 0 (clocks_at [] 0)
    turn = ordered m v switches pins entries b past (l ++ starts.up) Order Early 0 0 (clocks_at [] 0) (subst (Run past) whole r)

    run_early : Run turn.before Early
    run_early = run_before m switches pins entries b turn.c turn.before Order Early turn.run

    turn_long : length turn.before ≡ length Early
    turn_long = as_long m switches b turn.before Early run_early.both

    there : ((known_by m switches turn.before).phase ≡ Connecting → ⊥) × IsOf h.start Ms (noted m turn.c.note (known_by m switches turn.before)).homing
    there =
        let at = starts.long in
        let same_long = turn_long in
        (turn.homes (h.start - 251) h.start Ms now.homes.1).0 (omega (arith, at, same_long))

    known : (g : Homing) × ((noted m turn.c.note (known_by m switches turn.before)).homing ≡ Some g) × (g.start ≡ h.start) × (g.group.start ≡ h.start) × (members_of g.group ≡ Ms)
    known = of_some h.start Ms (noted m turn.c.note (known_by m switches turn.before)).homing there.1

    early_reads : AreSoInTurns (ReadsTrue m switches b) turn.before (rest_of m v switches pins entries b Early)
    early_reads =
        earlier_reads m v switches pins entries b (ReadsTrue m switches b) turn.c turn.before Early run_early
        (turn.reads (subst (λ (z : List BoardTurn). AreSoInTurns (ReadsTrue m switches b) past (rest_of m v switches pins entries b z)) whole reads))

    early_sees : AreSoInTurns (ReadsSwitchTrue m switches b) turn.before (rest_of m v switches pins entries b Early)
    early_sees =
        earlier_reads m v switches pins entries b (ReadsSwitchTrue m switches b) turn.c turn.before Early run_early
        (turn.sees (subst (λ (z : List BoardTurn). AreSoInTurns (ReadsSwitchTrue m switches b) past (rest_of m v switches pins entries b z)) whole sees))

    rest : IsAtRest Oid First Early
    rest =
        let at = starts.long in
        let begins = known.2 in
        let same_long = turn_long in
        rest_before m v switches pins entries b turn.c turn.before Early known.0 run_early (turn.apart apart.1) early_reads (turn.behind behind).1 known.1 (omega (arith, at, begins, same_long))

    unread : ((s : Slot) → slot_at (Board Early) Oid ≡ Some s → s.trigger.sampling ≡ None) × ((left : List Meant) × (Taken Early ++ left ≡ queued_in_turns Early) × AreBlind left)
    unread =
        let at = starts.long in
        let begins = known.2 in
        let same_long = turn_long in
        unread_before m v switches pins entries b turn.c turn.before Early known.0 run_early (turn.apart apart.1) early_sees (turn.behind behind).1 known.1 (omega (arith, at, begins, same_long))

    split : Split New
    split =
        let at = starts.long in
        let begins = known.2 in
        let same_long = turn_long in
        turn_split m switches pins entries b turn.c turn.before Order Early known.0 turn.run (λ p. there.0 (sym (noted_phase m turn.c.note (known_by m switches turn.before)) ∙ p)) known.1 (known.3 ∙ sym known.2) (omega (arith, at, begins, same_long))
        (subst (IsMember b) (sym known.4) member)

    blind_new : AreBlind New
    blind_new = elim (reads_either m switches pins entries b turn.c turn.before Order Early turn.run) [
      | inl blind ↦ blind
      | inr k ↦
          let y = k.1.1 in
          let own = ap (λ (z : Homing). z.group.start) (some_same y.homing known.0 (sym y.known ∙ known.1)) in
          let begins = known.3 in
          let at = y.at in
          let long = starts.long in
          let same_long = turn_long in
          absurd (omega (arith, own, begins, at, long, same_long))
    ]

    -- what the board takes since, and what is left of it
    left_same : rest.left ≡ unread.1.0
    left_same = append_cancel_left (Taken Early) rest.left unread.1.0 (rest.rest ∙ all_queued (board_at m b) pins b entries Early run_early.turns_are ∙ sym unread.1.1)

    front_tame : EachTame (commands_of (rest.left ++ split.front))
    front_tame = tame_both rest.left split.front rest.tame split.before

    front_blind : AreBlind (rest.left ++ split.front)
    front_blind = blind_both rest.left split.front (subst AreBlind (sym left_same) unread.1.2) (blind_parts split.front (split.begin ∷ split.more) (subst AreBlind split.are blind_new)).0

    low_early : Own (length Early) < Most
    low_early =
        let at = starts.long in
        let up = rises m v switches pins entries b r.board (length Early) in
        let on = grows m v switches pins entries b (length Early + 1) (h.start - 1) (omega (arith, at)) in
        omega (arith, up, on)

    some : 0 < Most
    some = let low = low_early in omega (arith, low)

    old_early : OldAt Oid Most (Board Early)
    old_early = old_of m v switches pins entries b turn.before Early Most run_early low_early rest.off

    meek_early : MeekAt Z Most Late Oid some (Board Early)
    meek_early oid s own at =
        let old = old_early oid s own at in
        let here = subst (λ (i : ℕ). slot_at (Board Early) i ≡ Some s) own at in
        record {
          fired = λ off. inl old.before;
          expire = λ can. absurd (no_both s.trigger.can can old.off);
          reads = λ y reads_y. absurd (none_some s.trigger.sampling y (unread.0 s here) reads_y);
          idle = λ off. old.idle;
        }
      where
        none_some : (o : Option Sampling) (y : Sampling) → o ≡ None → o ≡ Some y → ⊥
        none_some None y e g = cc
        none_some (Some z) y e g = cc

    -- of the turns up to one the board takes what is queued from that turn on
    record Reached (P : Cmd → Type 0) (y : List BoardTurn) : Type 0 where
      left : List Meant
      is_left : Taken y ++ left ≡ queued_in_turns y
      stage : Stage Z Most Late Oid some P left (Board y)

    ticks : (z : List BoardTurn) → AreBoardTurns (clock_of (board_at m b)) First z → (Board z).controller.tick ≡ Own (length z)
    ticks z are = tick_is (board_at m b) pins b entries z are

    -- while none of it tells a trigger to trigger
    first_part : (w k : List BoardTurn) → x ≡ k ++ (w ++ Order ∷ Early) → length (w ++ Order ∷ Early) ≤ to → Reached (IsMeek Z) (w ++ Order ∷ Early)
    first_part w k cut low =
        let y = w ++ Order ∷ Early in
        let later = w ++ Order ∷ [] in
        let own : later ++ Early ≡ y = append_assoc w (Order ∷ []) Early in
        let whole_y : turns ≡ (l ++ k) ++ y = same ∙ ap (λ (z : List BoardTurn). l ++ z) cut ∙ sym (append_assoc l k y) in
        let run_y = run_at m switches pins entries b past (l ++ k) y (subst (Run past) whole_y r) in
        let are : AreBoardTurns (clock_of (board_at m b)) First (later ++ Early) = subst (AreBoardTurns (clock_of (board_at m b)) First) (sym own) run_y.1.turns_are in
        let left = left_of m v switches pins entries b (later ++ Early) are in
        let took = taken_later (clock_of (board_at m b)) First later Early are in
        let at = starts.long in
        let meek_y : MeekIn Z (h.start - 251) to (later ++ Early) = subst (MeekIn Z (h.start - 251) to) (sym own) (in_part (IsMeek Z) (h.start - 251) to (l ++ k) y (subst (MeekIn Z (h.start - 251) to) whole_y meek)) in
        let size = ap length own in
        let queue = queue_later later Early in
        let all_meek = so_queue (IsMeek Z) later Early (in_are (IsMeek Z) (h.start - 251) to later Early (omega (arith, at)) (omega (arith, size, low)) meek_y) in
        let q = queue_later w (Order ∷ Early) in
        let queue_is : queue.0 ≡ New ++ q.0 =
        append_cancel_left (queued_in_turns Early) queue.0 (New ++ q.0) (sym queue.1 ∙ ap queued_in_turns own ∙ q.1 ∙ append_assoc (queued_in_turns Early) New q.0) in
        let front = rest.left ++ split.front in
        let more = split.more ++ q.0 in
        let coming : took.0 ++ left.0 ≡ front ++ split.begin ∷ more =
        append_cancel_left (Taken Early) (took.0 ++ left.0) (front ++ split.begin ∷ more)
        (sym (append_assoc (Taken Early) took.0 left.0) ∙ ap (λ (z : List Meant). z ++ left.0) (sym took.1) ∙ left.1 ∙ queue.1 ∙ ap (λ (z : List Meant). z ++ queue.0) (sym (rest.rest ∙ all_queued (board_at m b) pins b entries Early run_early.turns_are))
        ∙ append_assoc (Taken Early) rest.left queue.0 ∙ ap (λ (z : List Meant). Taken Early ++ (rest.left ++ z)) (queue_is ∙ ap (λ (z : List Meant). z ++ q.0) split.are ∙ append_assoc split.front (split.begin ∷ split.more) q.0)
        ∙ ap (λ (z : List Meant). Taken Early ++ z) (sym (append_assoc rest.left split.front (split.begin ∷ more)))) in
        let so = (so_parts (IsMeek Z) split.front (split.begin ∷ more) (subst (λ (z : List Meant). AllSo (IsMeek Z) z) (queue_is ∙ ap (λ (z : List Meant). z ++ q.0) split.are ∙ append_assoc split.front (split.begin ∷ split.more) q.0) all_meek)).1 in
        let waits : Waiting Z Most Late Oid some (IsMeek Z) (took.0 ++ left.0) (Board Early) = record { front = front; begin = split.begin; more = more; are = coming; tame = front_tame; blind = front_blind; so = so; old = old_early; meek = meek_early } in
        let end = turns_staged Z Most Late Oid some (IsMeek Z) (clock_of (board_at m b)) First later Early took.0 left.0 ticks are (λ a t e is_cut ms k_so. (all_mild Z ms k_so, inr k_so)) took.1 (inl waits) in
        record {
          left = left.0;
          is_left = subst (λ (z : List BoardTurn). Taken z ++ left.0 ≡ queued_in_turns z) own left.1;
          stage = subst (λ (z : List BoardTurn). Stage Z Most Late Oid some (IsMeek Z) left.0 (Board z)) own end;
        }

    -- and behind that
    more_stage : (ms new : List Meant) (q : Rig) → AllSo (IsMild Z) new → Stage Z Most Late Oid some (IsMeek Z) ms q → Stage Z Most Late Oid some (IsMild Z) (ms ++ new) q
    more_stage ms new q k (inr s) = inr (so_both (IsMild Z) ms new (all_mild Z ms s.0) k, s.1)
    more_stage ms new q k (inl w) =
        inl (record {
          front = w.front;
          begin = w.begin;
          more = w.more ++ new;
          are = ap (λ (z : List Meant). z ++ new) w.are ∙ append_assoc w.front (w.begin ∷ w.more) new;
          tame = w.tame;
          blind = w.blind;
          so = so_both (IsMild Z) (w.begin ∷ w.more) new (all_mild Z (w.begin ∷ w.more) w.so) k;
          old = w.old;
          meek = w.meek;
        })

    second_part : (k y : List BoardTurn) → x ≡ k ++ y → length y ≡ to → Reached (IsMeek Z) y → MeekAt Z Most Late Oid some (Board x)
    second_part k y cut long reached =
        let run_cut = subst (λ (z : List BoardTurn). Run run_x.0 z) cut run_x.1 in
        let took = taken_later (clock_of (board_at m b)) First k y run_cut.turns_are in
        let left = left_of m v switches pins entries b (k ++ y) run_cut.turns_are in
        let queue = queue_later k y in
        let new = mild_new k y cut long in
        let same_queue : took.0 ++ left.0 ≡ reached.left ++ queue.0 =
        append_cancel_left (Taken y) (took.0 ++ left.0) (reached.left ++ queue.0)
        (sym (append_assoc (Taken y) took.0 left.0) ∙ ap (λ (z : List Meant). z ++ left.0) (sym took.1) ∙ left.1 ∙ queue.1 ∙ ap (λ (z : List Meant). z ++ queue.0) (sym reached.is_left) ∙ append_assoc (Taken y) reached.left queue.0) in
        let begin : Stage Z Most Late Oid some (IsMild Z) (took.0 ++ left.0) (Board y) = subst (λ (z : List Meant). Stage Z Most Late Oid some (IsMild Z) z (Board y)) (sym same_queue) (more_stage reached.left queue.0 (Board y) new reached.stage) in
        let end = turns_staged Z Most Late Oid some (IsMild Z) (clock_of (board_at m b)) First k y took.0 left.0 ticks run_cut.turns_are
        (λ a t e is_cut ms k_so. (k_so, inl (let size = length-append e y in grows m v switches pins entries b to (length (e ++ y)) (omega (arith, size, long))))) took.1 begin in
        subst (λ (z : List BoardTurn). MeekAt Z Most Late Oid some (Board z)) (sym cut) (staged_meek Z Most Late Oid some (IsMild Z) left.0 (Board (k ++ y)) end)
      where
        mild_new : (k y : List BoardTurn) → x ≡ k ++ y → length y ≡ to → AllSo (IsMild Z) (queue_later k y).0
        mild_new k y cut long =
            let whole_y : turns ≡ l ++ (k ++ y) = same ∙ ap (λ (z : List BoardTurn). l ++ z) cut in
            let part = homes_part l (k ++ y) past (subst (Run past) whole_y r) now.homes.1 in
            mild_queue (h.start - 251) h.start Ms k y part.0 part.1.0 (omega (arith, long, high)) part.1.1
          where
            homes_part : (ls rs : List BoardTurn) (came : List Came) → Run came (ls ++ rs) → HomesFrom m switches (h.start - 251) h.start Ms came → (c : List Came) × (Run c rs × HomesFrom m switches (h.start - 251) h.start Ms c)
            homes_part [] rs came q k2 = (came, (q, k2))
            homes_part (t ∷ ls) rs [] q k2 = absurd q.both
            homes_part (t ∷ ls) rs (c ∷ cs) q k2 = homes_part ls rs cs (run_before m switches pins entries b c cs t (ls ++ rs) q) k2.1

    meek_x : MeekAt Z Most Late Oid some (Board x)
    meek_x = elim (leb_tells (length x) to) [
      | inl p ↦
          let w = starts.up in
          let Here : List BoardTurn → Type 0 = λ z. MeekAt Z Most Late Oid some (Board z) in
          let low = p.1 in
          let size = ap length starts.are in
          let reached = first_part w [] starts.are (omega (arith, low, size)) in
          subst Here (sym starts.are) (staged_meek Z Most Late Oid some (IsMeek Z) reached.left (Board (w ++ Order ∷ Early)) reached.stage)
      | inr p ↦
          let above = p.1 in
          let c = cut_at to x (omega (arith, above)) in
          let at = starts.long in
          let size = c.long in
          let w = front_part starts.up (Order ∷ Early) c.up c.early (sym starts.are ∙ c.are) (omega (arith, at, size, high)) in
          let long = ap length w.1 in
          let reached = first_part w.0 c.up (c.are ∙ ap (λ (z : List BoardTurn). c.up ++ z) w.1) (omega (arith, size, long)) in
          second_part c.up c.early c.are c.long (subst (Reached (IsMeek Z)) (sym w.1) reached)
    ]

    -- its timeout passed, its readings triggered it, or it did so late
    pub why : (reason ≡ 2) ⊎ ((Z × (reason ≡ 1)) ⊎ (Late ≤ tick))
    why =
        let at = f.at in
        elim ((meek_x Oid f.slot refl f.is).fired f.fired) [
          | inl early ↦ absurd (omega (arith, early, at, late))
          | inr two ↦ elim two [
            | inl a ↦ inl (sym f.why ∙ a)
            | inr b_or ↦ elim b_or [ inl a ↦ inr (inl (a.0, sym f.why ∙ a.1)) | inr a ↦ inr (inr (omega (arith, a, at))) ]
          ]
        ]
