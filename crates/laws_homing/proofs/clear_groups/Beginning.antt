-- A homing section whose boards take its set-up is safe from then on.
use Rattle.std.proofs.Common.{◌≡◌, ℕ, suc, ◌+◌, ◌-◌, ◌*◌, ◌^◌, ◌<◌, ◌≤◌, ◌==◌, inl, inr, Bool, true, false, cond, List, [], ◌∷◌, ◌++◌, length, map, Some, None, refl, ap, sym, ◌∙◌, subst, arith}
use Rattle.std.specs.Prelude.{nat_le}
use Rattle.laws_board.proofs.Names.{nat_tests, Level, Machine, Running, board_tick, clock_of, turn_ns, Clocks, lines_tick, axis_at, board_at, clocks_at, turn_tick, Entry, Switch, Cmd, State, trigger_of, commands_of, Rig, passes, takes_all, queued_in, first_state, orders as taken_orders, Ctl, Member, Sends, Homes, Starts, Seen, GroupState, first_timeout, phase, round_of, unseen, Homing, answer_in, commands_to, hears_all, low, members_of, noted, Came, known_by}
use Rattle.board_sim.proofs.RigStates.{all_tick}
use Rattle.laws_homing.specs.clear_boards.Rests.{RestsOver}
use Rattle.laws_board.specs.turns.Turns.{AreBoardTurns, BoardTurn, stands_after}
use Rattle.laws_board.proofs.clocks.Lines.{as_long, noted_phase}
use Rattle.trigger_group.specs.declared.round.Phase.{Phase as GroupPhase}
use Rattle.trigger_group.specs.Group.{after_in, orders, orders_of_group as ordered_in}
use Rattle.axis_homing.specs.Homing.{hears_news, hears_state, hears_states}
use Rattle.host_reactor.proofs.Resting.{picked}
use Rattle.laws_homing.specs.home_runs.Told.{IsMember}
use Rattle.laws_homing.specs.clear_boards.Alive.{RelayNone}
use Rattle.laws_homing.specs.clear_boards.Clocking.{IsAhead}
use Rattle.laws_homing.specs.clear_boards.Hearing.{HeardBy, NoneOn}
use Rattle.laws_homing.specs.clear_boards.Lately.{NearOn}
use Rattle.laws_homing.specs.clear_boards.Ordered.{IsOrdered}
use Rattle.laws_homing.specs.clear_boards.Turned.{AreSentBehind}
use Rattle.laws_homing.proofs.clear_boards.Clocking.{line_ahead, timeout_ahead}
use Rattle.laws_homing.proofs.clear_boards.Member.{all_sound}
use Rattle.laws_homing.proofs.clear_boards.Ordered.{turn_ordered}
use Rattle.laws_homing.proofs.clear_boards.Standing.{runs_rested, sound_at, tick_is}
use Rattle.laws_homing.proofs.clear_boards.Taking.{takes_rested}
use Rattle.laws_homing.proofs.clear_boards.Turned.{ran}
use Rattle.laws_homing.specs.clear_groups.Early.{HeardUntil}
use Rattle.laws_homing.specs.clear_groups.Safe.{IsRenewed, IsSafe, IsSafeIn, IsWatched}
use Rattle.laws_homing.specs.clear_groups.Sections.{AreOfTurn, IsRestingSection, IsFollowed, report_ticks, rig_at, turns_of}
use Rattle.laws_homing.specs.clear_groups.SetUp.{HoldsOf, IsArmed, IsNew, IsPrepared}
use Rattle.laws_homing.proofs.clear_groups.Alike.{AreBy, homes_by, ordered_alike, starts_by}
use Rattle.laws_homing.proofs.clear_groups.Arming.{armed_alive, armed_limited, armed_passes, armed_small}
use Rattle.laws_homing.proofs.clear_groups.Known.{behind_turn, homing_next, of_known}
use Rattle.laws_homing.proofs.clear_groups.Sections.{cut_rests}
use Rattle.laws_homing.proofs.clear_groups.SetUp.{homed, others, started}
use Rattle.axis_homing.proofs.Rises.{unseen-members}
use Rattle.board_sim.proofs.Heeding.{all_append}

-- the turns of the set-up
chosen : {A : Type 0} → (b : Bool) (x y : A) → b ≡ true → cond b x y ≡ x
chosen true x y e = refl
chosen false x y e = cc

phase_starts : (start last turn : ℕ) → turn + 251 ≡ start → phase start last turn ≡ Sends (Starts (first_timeout start last))
phase_starts start last turn e =
    picked (start - turn == 254) _ _ (grind (arith, nat_tests))
    ∙ picked (start - turn == 253) _ _ (grind (arith, nat_tests))
    ∙ picked (start - turn == 252) _ _ (grind (arith, nat_tests))
    ∙ chosen (start - turn == 251) _ _ (grind (arith, nat_tests))

phase_homes : (start last turn : ℕ) → turn + 250 ≡ start → phase start last turn ≡ Sends Homes
phase_homes start last turn e =
    picked (start - turn == 254) _ _ (grind (arith, nat_tests))
    ∙ picked (start - turn == 253) _ _ (grind (arith, nat_tests))
    ∙ picked (start - turn == 252) _ _ (grind (arith, nat_tests))
    ∙ picked (start - turn == 251) _ _ (grind (arith, nat_tests))
    ∙ chosen (start - turn == 250) _ _ (grind (arith, nat_tests))

-- what is told before the start counts for nothing
unheard_state : (c : Clocks) (b start : ℕ) (s : State) (g : GroupState) → s.turn + 1 < start → hears_state c b start s g ≡ g
unheard_state c b start s g l = picked (nat_le start (s.turn + 1)) (hears_news c b s.turn s.news g) g (grind (arith, nat_tests))

pub unheard : (clocks : List Clocks) (b start k : ℕ) (states : List State) (g : GroupState) → AreOfTurn k states → k < start → hears_states clocks b start states g ≡ g
unheard [] b start k states g are l = refl
unheard (c ∷ clocks) b start k [] g are l = refl
unheard (c ∷ clocks) b start k (s ∷ states) g are l =
    let at = are 0 s refl in
    ap (hears_states clocks (b + 1) start states) (unheard_state c b start s g (omega (arith, at, l))) ∙ unheard clocks (b + 1) start k states g (λ i x is. are (suc i) x is) l

-- members of which nothing was heard
heard_new : (start b : ℕ) (ms : List Member) → HeardBy start b start (map unseen ms)
heard_new start b [] = tt
heard_new start b (m ∷ ms) = ((λ is. omega arith), heard_new start b ms)

near_new : (start b turn : ℕ) (ms : List Member) → turn ≤ start + 10 → NearOn start b turn (map unseen ms)
near_new start b turn [] l = tt
near_new start b turn (m ∷ ms) l = ((λ is. l), near_new start b turn ms l)

pub none_new : (b : ℕ) (ms : List Member) → NoneOn b (map unseen ms)
none_new b [] = tt
none_new b (m ∷ ms) = ((λ is. refl), none_new b ms)

until_new : (start b most : ℕ) (ms : List Member) → start ≤ most → HeardUntil start b most (map unseen ms)
until_new start b most [] l = tt
until_new start b most (m ∷ ms) l = ((λ is. l), until_new start b most ms l)

-- a board's turn
module _ (m : Machine) (b : ℕ) (pins : List (List Level)) (entries : List Entry) (t : BoardTurn) (before : List BoardTurn) (rests : RestsOver t before)
    (are : AreBoardTurns (clock_of (board_at m b)) (first_state (board_at m b) pins b entries) (t ∷ before)) (shut : t.state.shut ≡ None)
    (in_range : board_tick (clock_of (board_at m b)) (length before) < 2 ^ 63) (lines : Clocks) (ready start last till : ℕ) (f : IsFollowed m b lines ready start last till) (low_so : ready ≤ length before) (far : length before + 2 ≤ start)
    (near : start ≤ length before + 300) (reach : start + 25 ≤ till) where
  abbrev own : ℕ → ℕ
  own = λ k. board_tick (clock_of (board_at m b)) k

  abbrev Start : Rig
  Start = (stands_after (first_state (board_at m b) pins b entries) before).core.board

  abbrev Commands : List Cmd
  Commands = commands_of (queued_in (taken_orders t.control t.batch))

  abbrev Taken : Rig
  Taken = (takes_all Start Commands).rig

  abbrev Timeout : ℕ
  Timeout = first_timeout start last

  abbrev Base : ℕ
  Base = lines_tick lines (start * turn_ns)

  abbrev Limit : ℕ
  Limit = lines_tick lines (Timeout * turn_ns)

  abbrev Armed : Rig → Type 0
  Armed r = HoldsOf (trigger_of m b) (λ ps s. IsArmed Base (report_ticks m b) (Some Limit) ps s) r

  runs : Taken.controller.state ≡ Running
  runs = runs_rested (board_at m b) pins b entries t before rests are shut

  at_tick : Start.controller.tick ≡ own (length before)
  at_tick = tick_is (board_at m b) pins b entries before are.1

  ahead_of : (timeout : ℕ) → length before + 2 ≤ timeout → timeout ≤ last + 1 → timeout ≤ start + 25 → IsAhead own lines (length before) timeout
  ahead_of timeout more most close =
      let ends = f.ends in
      timeout_ahead own lines ready (length before) timeout f.ticks f.tracked low_so (omega (arith, most, close, reach, ends)) more (omega (arith, close, near)) (f.rises (length before)) in_range

  armed_after : (A tail : List Cmd) → Commands ≡ A ++ tail → ((clock : ℕ) → AreSentBehind (trigger_of m b) clock tail) → RelayNone tail → ((takes_all Start A).rig.controller.state ≡ Running → Armed (takes_all Start A).rig) → Armed (passes Taken (own (length before + 1))).rig
  armed_after A tail e behind calm mid =
      let ends = f.ends in
      let order = f.goes in
      let rises = f.rises (length before) in
      let q = (takes_all Start A).rig in
      let rigs : Taken ≡ (takes_all q tail).rig = ap (λ (cs : List Cmd). (takes_all Start cs).rig) e ∙ all_append Start A tail in
      let runs_tail : (takes_all q tail).rig.controller.state ≡ Running = ap (λ (z : Rig). z.controller.state) (sym rigs) ∙ runs in
      let armed : Armed Taken = subst Armed (sym rigs) (others (trigger_of m b) Base (report_ticks m b) q tail (Some Limit) runs_tail behind calm (mid (ran q tail runs_tail))) in
      let limit = ahead_of Timeout (omega (arith, far, order)) (omega arith) (omega arith) in
      let base_low : own (length before + 1) ≤ Base = line_ahead own lines ready (length before + 1) start f.tracked (omega (arith, low_so)) (omega (arith, far, order, reach, ends)) (omega (arith, far)) in
      let limit_low : own (length before + 1) ≤ Limit = line_ahead own lines ready (length before + 1) Timeout f.tracked (omega (arith, low_so)) (omega (arith, far, order, reach, ends)) (omega (arith, far, order)) in
      armed_passes (trigger_of m b) Base (report_ticks m b) Limit Taken (own (length before)) (own (length before + 1)) (low (turn_tick lines Timeout)) armed (all_sound Start Commands (sound_at (board_at m b) pins b entries before are.1)) runs
      (all_tick Start Commands ∙ at_tick) limit.is limit.later (omega (arith, rises)) base_low limit_low

  pub started_turn : (h : Homing) (turn : ℕ) (g : GroupState) → IsOrdered m lines b h turn g Commands → h.start ≡ start → orders g turn ≡ round_of (Starts Timeout) g.members → IsMember b (members_of g) → HoldsOf (trigger_of m b) (λ ps s. IsPrepared Base ps s) Start
      → Armed (passes Taken (own (length before + 1))).rig
  started_turn h turn g o begins sends on prep =
      let order = f.goes in
      let A : List Cmd = commands_to m lines b start (axis_at m h.axis) (round_of (Starts Timeout) g.members) in
      let e : Commands ≡ A ++ o.tail = o.are ∙ ap (λ (n : ℕ). commands_to m lines b n (axis_at m h.axis) (orders g turn) ++ o.tail) begins ∙ ap (λ (cs : List Ctl). commands_to m lines b start (axis_at m h.axis) cs ++ o.tail) sends in
      let base = ahead_of start far (omega (arith, order)) (omega arith) in
      let limit = ahead_of Timeout (omega (arith, far, order)) (omega arith) (omega arith) in
      let low_base = base.later in
      armed_after A o.tail e (λ clock. o.behind (trigger_of m b) clock) o.none
      (λ runs_so. started m lines b start (axis_at m h.axis) Base (report_ticks m b) (own (length before)) Limit Timeout base.is (omega (arith, low_base)) limit.is limit.later f.spaced refl g.members Start at_tick runs_so prep (inr on))

  pub homed_turn : (h : Homing) (turn : ℕ) (g : GroupState) → IsOrdered m lines b h turn g Commands → h.start ≡ start → orders g turn ≡ round_of Homes g.members → Armed Start → Armed (passes Taken (own (length before + 1))).rig
  homed_turn h turn g o begins sends armed =
      let order = f.goes in
      let A : List Cmd = commands_to m lines b start (axis_at m h.axis) (round_of Homes g.members) in
      let e : Commands ≡ A ++ o.tail = o.are ∙ ap (λ (n : ℕ). commands_to m lines b n (axis_at m h.axis) (orders g turn) ++ o.tail) begins ∙ ap (λ (cs : List Ctl). commands_to m lines b start (axis_at m h.axis) cs ++ o.tail) sends in
      let base = ahead_of start far (omega (arith, order)) (omega arith) in
      let limit = ahead_of Timeout (omega (arith, far, order)) (omega arith) (omega arith) in
      let low_base = base.later in
      armed_after A o.tail e (λ clock. o.behind (trigger_of m b) clock) o.none
      (λ runs_so. homed m lines b start (axis_at m h.axis) Base (report_ticks m b) (own (length before)) Limit Timeout base.is (omega (arith, low_base)) limit.is limit.later f.spaced refl g.members Start (Some Limit) at_tick runs_so armed)

-- the group and its boards
module _ (m : Machine) (switches : List Switch) (pins : ℕ → List (List Level)) (entries : List Entry) (lines : ℕ → Clocks) (ready from start last till : ℕ) (members : List Member)
    (followed : (b : ℕ) → IsMember b members → IsFollowed m b (lines b) ready start last till) (c d e : Came) (past : List Came) (i j : ℕ → BoardTurn) (js : List (ℕ → BoardTurn))
    (s : IsRestingSection m switches pins entries lines from start members c (d ∷ e ∷ past) (i ∷ j ∷ js)) (early : from ≤ length past) (low_so : ready + 4 ≤ length past) (set_up : length past + 251 ≡ start) (order : start ≤ last) (reach : length past + 276 ≤ till)
    (first : AreOfTurn (length past + 1) d.states) (second : AreOfTurn (length past + 2) c.states) (h : Homing) (is : (noted m e.note (known_by m switches past)).homing ≡ Some h)
    (new : IsNew start last members (hears_all (noted m e.note (known_by m switches past)).clocks e.states h).group) where
  abbrev K : ℕ
  K = length past

  abbrev Clocks_of : Came → List Came → List Clocks
  Clocks_of x xs = (noted m x.note (known_by m switches xs)).clocks

  abbrev pub Now : Homing
  Now = hears_all (Clocks_of e past) e.states h

  abbrev pub First : Homing
  First = behind_turn Now K

  abbrev pub Heard : Homing
  Heard = hears_all (Clocks_of d (e ∷ past)) d.states First

  abbrev pub Second : Homing
  Second = behind_turn Heard (length (e ∷ past))

  abbrev pub Last : Homing
  Last = hears_all (Clocks_of c (d ∷ e ∷ past)) c.states Second

  pub cut_once : IsRestingSection m switches pins entries lines from start members d (e ∷ past) (j ∷ js)
  cut_once = cut_rests m switches pins entries lines ready from start last till start members followed (omega (arith, early, set_up)) (omega (arith, low_so, set_up)) (omega arith) c d (e ∷ past) i (j ∷ js) s

  pub cut_twice : IsRestingSection m switches pins entries lines from start members e past js
  cut_twice = cut_rests m switches pins entries lines ready from start last till start members followed (omega (arith, early, set_up)) (omega (arith, low_so, set_up)) (omega arith) d e past j js cut_once

  pub known_first : ((noted m d.note (known_by m switches (e ∷ past))).homing ≡ Some First) × (answer_in K h.start Now.group ≡ None)
  known_first = homing_next m switches from start members d e past h cut_once.homes cut_once.begins.0 cut_once.goes_on early is

  pub known_second : ((noted m c.note (known_by m switches (d ∷ e ∷ past))).homing ≡ Some Second) × (answer_in (length (e ∷ past)) First.start Heard.group ≡ None)
  known_second = homing_next m switches from start members c d (e ∷ past) First s.homes s.begins.0 s.goes_on (omega (arith, early)) known_first.0

  pub begins_at : h.start ≡ start
  begins_at = (of_known start members (noted m e.note (known_by m switches past)).homing h (s.homes.1.1.0 early).1 is).0

  abbrev Earliest : ℕ
  Earliest = first_timeout start last

  -- the group
  pub group_first : Heard.group ≡ record Now.group { sent = Earliest }
  group_first =
      let at = new.begins in
      let timeout : first_timeout Now.group.start Now.group.last ≡ Earliest = ap (λ (n : ℕ). first_timeout n Now.group.last) new.begins ∙ ap (λ (n : ℕ). first_timeout start n) new.ends in
      unheard (Clocks_of d (e ∷ past)) 0 First.start (K + 1) d.states First.group first (let b = begins_at in omega (arith, set_up, b))
      ∙ ap (λ (p : GroupPhase). after_in p Now.group K) (phase_starts Now.group.start Now.group.last K (omega (arith, set_up, at))) ∙ ap (λ (n : ℕ). record Now.group { sent = n }) timeout

  begins_first : Heard.group.start ≡ start
  begins_first = ap (λ (g : GroupState). g.start) group_first ∙ new.begins

  pub group_second : Last.group ≡ record Now.group { sent = Earliest }
  group_second =
      let k = length (e ∷ past) in
      let at = begins_first in
      unheard (Clocks_of c (d ∷ e ∷ past)) 0 Second.start (K + 2) c.states Second.group second (let b = begins_at in omega (arith, set_up, b))
      ∙ ap (λ (p : GroupPhase). after_in p Heard.group k) (phase_homes Heard.group.start Heard.group.last k (omega (arith, set_up, at))) ∙ group_first

  module _ (b : ℕ) (on : IsMember b members) (rest : HoldsOf (trigger_of m b) (λ ps x. IsPrepared (lines_tick (lines b) (start * turn_ns)) ps x) (rig_at m pins entries js b)) where
    abbrev First_tick : ℕ
    First_tick = lines_tick (lines b) (start * turn_ns)

    abbrev Set_up : Rig → Type 0
    Set_up r = HoldsOf (trigger_of m b) (λ ps x. IsArmed First_tick (report_ticks m b) (Some (lines_tick (lines b) (Earliest * turn_ns))) ps x) r

    pub long_first : K ≡ length (turns_of b js)
    long_first = as_long m switches b past (turns_of b js) (cut_twice.plain b on).run.both

    over_first : RestsOver (j b) (turns_of b js)
    over_first = (let long = long_first in (cut_once.plain b on).rests.0 (omega (arith, early, long)))

    over_second : RestsOver (i b) (turns_of b (j ∷ js))
    over_second = (let long = long_first in (s.plain b on).rests.0 (omega (arith, early, long)))

    pub sends_first : orders Now.group K ≡ round_of (Starts Earliest) Now.group.members
    sends_first =
        let at = new.begins in
        let timeout : first_timeout Now.group.start Now.group.last ≡ Earliest = ap (λ (n : ℕ). first_timeout n Now.group.last) new.begins ∙ ap (λ (n : ℕ). first_timeout start n) new.ends in
        ap (λ (p : GroupPhase). ordered_in p Now.group K) (phase_starts Now.group.start Now.group.last K (omega (arith, set_up, at))) ∙ ap (λ (n : ℕ). round_of (Starts n) Now.group.members) timeout

    pub sends_second : orders Heard.group (length (e ∷ past)) ≡ round_of Homes Heard.group.members
    sends_second =
        let at = begins_first in
        ap (λ (p : GroupPhase). ordered_in p Heard.group (length (e ∷ past))) (phase_homes Heard.group.start Heard.group.last (length (e ∷ past)) (omega (arith, set_up, at)))

    pub ordered_first : IsOrdered m (lines b) b h K Now.group (commands_of (queued_in (taken_orders (j b).control (j b).batch)))
    ordered_first =
        let p = cut_once.plain b on in
        let past_it = (s.homes.1.1.0 early).0 in
        let o = turn_ordered m switches (pins b) entries b e past (j b) (turns_of b js) h p.run is (λ z. past_it (sym (noted_phase m e.note (known_by m switches past)) ∙ z)) known_first.1 in
        let at = begins_at in
        let by = subst (λ (cs : List Ctl). AreBy (K + 276) cs) (sym sends_first) (starts_by (K + 276) Earliest Now.group.members (omega (arith, set_up))) in
        ordered_alike m (clocks_at (Clocks_of e past) b) (lines b) b (K + 276) h K Now.group _ (s.knows.1.1.0 past_it h is begins_at b p.run.board).1 (omega (arith, at, set_up)) by o

    pub ordered_second : IsOrdered m (lines b) b First (length (e ∷ past)) Heard.group (commands_of (queued_in (taken_orders (i b).control (i b).batch)))
    ordered_second =
        let p = s.plain b on in
        let known = s.homes.1.0 (omega (arith, early)) in
        let k = length (e ∷ past) in
        let o = turn_ordered m switches (pins b) entries b d (e ∷ past) (i b) (turns_of b (j ∷ js)) First p.run known_first.0 (λ z. known.0 (sym (noted_phase m d.note (known_by m switches (e ∷ past))) ∙ z)) known_second.1 in
        let begins = (of_known start members (noted m d.note (known_by m switches (e ∷ past))).homing First known.1 known_first.0).0 in
        let by = subst (λ (cs : List Ctl). AreBy (k + 276) cs) (sym sends_second) (homes_by (k + 276) Heard.group.members) in
        ordered_alike m (clocks_at (Clocks_of d (e ∷ past)) b) (lines b) b (k + 276) First k Heard.group _ (s.knows.1.0 known.0 First known_first.0 begins b p.run.board).1 (omega (arith, begins, set_up)) by o

    pub members_are : members_of Now.group ≡ members
    members_are = ap (λ (xs : List Seen). map (λ (x : Seen). x.member) xs) new.unheard ∙ unseen-members members

    pub armed_first : Set_up (rig_at m pins entries (j ∷ js) b)
    armed_first =
        let p = cut_once.plain b on in
        let long = long_first in
        let x = started_turn m b (pins b) entries (j b) (turns_of b js) over_first p.run.turns_are p.none_shut.0 (cut_twice.plain b on).in_range (lines b) ready start last till (followed b on) (omega (arith, low_so, long)) (omega (arith, set_up, long)) (omega (arith, set_up, long)) (omega (arith, set_up, reach)) h K Now.group ordered_first begins_at
        sends_first (subst (IsMember b) (sym members_are) on) rest in
        subst Set_up (sym (takes_rested (board_at m b) (pins b) b entries (j b) (turns_of b js) over_first p.run.turns_are)) x

    pub armed_second : Set_up (rig_at m pins entries (i ∷ j ∷ js) b)
    armed_second =
        let p = s.plain b on in
        let long : length (turns_of b (j ∷ js)) ≡ K + 1 = (let l = long_first in omega (arith, l)) in
        let x = homed_turn m b (pins b) entries (i b) (turns_of b (j ∷ js)) over_second p.run.turns_are p.none_shut.0 (cut_once.plain b on).in_range (lines b) ready start last till (followed b on) (omega (arith, low_so, long)) (omega (arith, set_up, long)) (omega (arith, set_up, long)) (omega (arith, set_up, reach)) First (length (e ∷ past)) Heard.group
        ordered_second begins_at sends_second armed_first in
        subst Set_up (sym (takes_rested (board_at m b) (pins b) b entries (i b) (turns_of b (j ∷ js)) over_second p.run.turns_are)) x

    watched : IsWatched m (lines b) b (length (d ∷ e ∷ past)) start last Earliest (map unseen members) (rig_at m pins entries (i ∷ j ∷ js) b)
    watched =
        let r = rig_at m pins entries (i ∷ j ∷ js) b in
        let p = s.plain b on in
        let f = followed b on in
        let k = length (d ∷ e ∷ past) in
        let long = long_first in
        let turn = length (turns_of b (j ∷ js)) in
        let low_base : board_tick (clock_of (board_at m b)) (turn + 1) ≤ First_tick =
        (let ends = f.ends in line_ahead (λ n. board_tick (clock_of (board_at m b)) n) (lines b) ready (turn + 1) start f.tracked (omega (arith, low_so, long)) (omega (arith, long, set_up, order, reach, ends)) (omega (arith, long, set_up))) in
        let same : turn + 1 ≡ k = omega (arith, long) in
        let low_now : board_tick (clock_of (board_at m b)) k ≤ First_tick = subst (λ (n : ℕ). board_tick (clock_of (board_at m b)) n ≤ First_tick) same low_base in
        let alive = armed_alive (trigger_of m b) First_tick (report_ticks m b) (lines_tick (lines b) (Earliest * turn_ns)) r (board_tick (clock_of (board_at m b)) k) armed_second low_now in
        let next = alive.1 in
        inl (inl (alive.0, inl (omega (arith, next), heard_new start b members), near_new start b k members (omega (arith, set_up)), none_new b members), until_new start b (k + 249) members (omega (arith, set_up)), omega (arith, set_up))

  pub begins_second : Last.group.start ≡ start
  begins_second = ap (λ (g : GroupState). g.start) group_second ∙ new.begins

  pub ends_second : Last.group.last ≡ last
  ends_second = ap (λ (g : GroupState). g.last) group_second ∙ new.ends

  sent_second : Last.group.sent ≡ Earliest
  sent_second = ap (λ (g : GroupState). g.sent) group_second

  safe : ((b : ℕ) → IsMember b members → HoldsOf (trigger_of m b) (λ ps x. IsPrepared (lines_tick (lines b) (start * turn_ns)) ps x) (rig_at m pins entries js b)) → IsSafe m lines start last members (length (d ∷ e ∷ past)) Last.group (rig_at m pins entries (i ∷ j ∷ js))
  safe rest =
      let a = begins_second in
      let z = ends_second in
      let t = sent_second in
      let unheard_members : Last.group.members ≡ map unseen members = ap (λ (g : GroupState). g.members) group_second ∙ new.unheard in
      let calm : Last.group.relay ≡ None = ap (λ (g : GroupState). g.relay) group_second ∙ new.calm in
      let all : (b : ℕ) → IsMember b members → IsRenewed (trigger_of m b) (lines b) Last.group.sent (rig_at m pins entries (i ∷ j ∷ js) b)
      × IsWatched m (lines b) b (length (d ∷ e ∷ past)) start last Last.group.sent Last.group.members (rig_at m pins entries (i ∷ j ∷ js) b) = (λ b on. (
      let r = rig_at m pins entries (i ∷ j ∷ js) b in
      let renewed : IsRenewed (trigger_of m b) (lines b) Earliest r = armed_limited (trigger_of m b) (lines_tick (lines b) (start * turn_ns)) (report_ticks m b) (lines_tick (lines b) (Earliest * turn_ns)) r (armed_second b on (rest b on)) in
      let By : ℕ → List Seen → Type 0 = λ n xs. IsRenewed (trigger_of m b) (lines b) n r × IsWatched m (lines b) b (length (d ∷ e ∷ past)) start last n xs r in
      subst (λ (n : ℕ). By n Last.group.members) (sym t) (subst (λ (xs : List Seen). By Earliest xs) (sym unheard_members) (renewed, watched b on (rest b on))))) in
      record {
        begins = a;
        ends = z;
        timed = record { first = omega (arith, a, z, t); most = omega (arith, a, z, t) };
        small = λ b on. armed_small (trigger_of m b) (lines_tick (lines b) (start * turn_ns)) (report_ticks m b) (lines_tick (lines b) (Earliest * turn_ns)) (rig_at m pins entries (i ∷ j ∷ js) b) (armed_second b on (rest b on));
        held = inr (inr (calm, inl (omega (arith, set_up, a), omega (arith, a, t, order)), all));
      }

  pub begins_safe : ((b : ℕ) → IsMember b members → HoldsOf (trigger_of m b) (λ ps x. IsPrepared (lines_tick (lines b) (start * turn_ns)) ps x) (rig_at m pins entries js b)) → IsSafeIn m switches pins entries lines start last members c (d ∷ e ∷ past) (i ∷ j ∷ js)
  begins_safe rest = (Second, known_second.0, safe rest)
