-- Where a group answers that no switch closed it relayed nothing before five turns behind the section's last one, and none of its members triggered in time.
use Rattle.std.proofs.Common.{◌≡◌, ℕ, ◌+◌, ◌-◌, ◌*◌, ◌<◌, ◌≤◌, ◌⊎◌, inl, inr, Bool, true, false, List, [], ◌∷◌, ◌++◌, length, Option, Some, None, refl, ap, sym, ◌∙◌, subst, arith}
use Rattle.std.specs.Prelude.{nat_le, ◌||◌}
use Rattle.laws_board.proofs.Names.{Level, Machine, board_tick, clock_of, turn_ns, Clocks, lines_tick, IsValidMachine, axis_at, board_at, clocks_at, AreKept, Entry, Switch, first_state, trigger_of, End, Member, Fired, Seen, GroupState, turned_group, phase, relay_in, relays_in, Homing, answer_in, hears_all, members_of, Connecting, news_of, noted, Came, GoesOn, known_by, state_at, states-kept, both_parts}
use Rattle.trigger_group.specs.declared.order.End.TheVariants as end
use Rattle.trigger_group.specs.Group.{any_fired_by, relay_begins, relay_from}
use Rattle.trigger_group.specs.Kept.{BoardsRise}
use Rattle.trigger_group.proofs.Knows.{after_last, after_members}
use Rattle.axis_homing.specs.Rising.{HomingRises}
use Rattle.laws_board.specs.turns.Turns.{BoardTurn, latest_state}
use Rattle.laws_board.specs.clocks.Near.{LinesKeepUp}
use Rattle.laws_board.specs.clocks.Runs.{IsInRun}
use Rattle.laws_board.proofs.clocks.Lines.{as_long, noted_phase, run_before}
use Rattle.laws_homing.specs.home_runs.Sections.{HomesFrom}
use Rattle.laws_homing.specs.home_runs.Told.{IsMember}
use Rattle.laws_homing.specs.home_parts.Answers.{ArePastConnecting}
use Rattle.laws_homing.specs.home_parts.Known.{KnowsLately}
use Rattle.laws_homing.proofs.home_runs.Joining.{homes_later, known_rises, noted_rises}
use Rattle.laws_homing.proofs.home_runs.Knowing.{noted_none}
use Rattle.laws_homing.proofs.clear_boards.Keeping.{hears_keep}
use Rattle.laws_homing.proofs.clear_groups.Known.{behind_turn}
use Rattle.laws_homing.proofs.clear_groups.Noted.{IsNewly, noted_newly, some_or_none}
use Rattle.laws_homing.proofs.clear_groups.Resting.{clash, some_same}
use Rattle.laws_homing.proofs.clear_groups.Starting.{MembersOf}
use Rattle.laws_homing.specs.missed_groups.Ticks.{IsReader}
use Rattle.laws_homing.proofs.missed_groups.Answering.{missed}
use Rattle.laws_homing.proofs.missed_groups.Axes.{of_axis}
use Rattle.laws_homing.proofs.missed_groups.Stepping.{relay_after}
use Rattle.laws_homing.specs.switch_runs.Reports.{WasReported}
use Rattle.laws_homing.specs.fired_runs.Since.{AreNotAhead, AreSoInTurns, BeginsApart, ReadsAsTold, ReadsSwitchTrue, ReadsTrue, WasFiredAt}
use Rattle.laws_homing.proofs.fired_runs.Reported.{Each, all_told}
use Rattle.laws_homing.proofs.fired_runs.Rested.{answered_over, earlier_reads, goes_to, none_stays, rest_of, same_members, was_at}
use Rattle.laws_homing.proofs.fired_runs.Sight.{is_member}
use Rattle.laws_homing.specs.missed_runs.Missed.{IsHeardWell, IsMissedOf}
use Rattle.laws_homing.proofs.missed_runs.Cause.{MeekIn, why}
use Rattle.laws_homing.proofs.missed_runs.Known.{Now, known_since}
use Rattle.laws_homing.proofs.missed_runs.Missing.{fired_by}
use Rattle.laws_homing.proofs.missed_runs.Orders.{turn_is}
use Rattle.laws_homing.proofs.missed_runs.Stays.{Has, IsCause, has_none, has_or_none, reader_is, reader_late, states_stay}
use Rattle.laws_homing.proofs.missed_runs.Truth.{Truth, told_true}
use Rattle.plan_types.proofs.Facts.{was_le}
use Rattle.laws_homing.proofs.clear_groups.Groups.{either_part}

-- what is read wholly true is read true, and of the endstop's board by readings
wholly_true : (m : Machine) (switches : List Switch) (b : ℕ) (came : List Came) (turns : List BoardTurn) → AreSoInTurns (ReadsAsTold m switches b) came turns → AreSoInTurns (ReadsTrue m switches b) came turns
wholly_true m switches b [] turns k = tt
wholly_true m switches b (c ∷ before) [] k = tt
wholly_true m switches b (c ∷ before) (t ∷ earlier) k = ((λ h f is member x. (f.reason, k.0 h f is member x)), wholly_true m switches b before earlier k.1)

wholly_sees : (m : Machine) (switches : List Switch) (b : ℕ) (came : List Came) (turns : List BoardTurn) → AreSoInTurns (ReadsAsTold m switches b) came turns → AreSoInTurns (ReadsSwitchTrue m switches b) came turns
wholly_sees m switches b [] turns k = tt
wholly_sees m switches b (c ∷ before) [] k = tt
wholly_sees m switches b (c ∷ before) (t ∷ earlier) k = (
  (λ h f is reads one x. subst (λ (n : ℕ). WasFiredAt (trigger_of m b) n f.tick (t ∷ earlier)) one (k.0 h f is (is_member b (members_of h.group) reads) x)),
  wholly_sees m switches b before earlier k.1,
)

meek_none : (Z : Type 0) (from to : ℕ) (turns : List BoardTurn) → length turns ≤ from → MeekIn Z from to turns
meek_none Z from to [] l = tt
meek_none Z from to (t ∷ turns) l = ((λ low high. absurd (omega (arith, l, low))), meek_none Z from to turns (omega (arith, l)))

-- no relay is sent in a turn up to five turns behind the last one
no_relay : (o : Option ℕ) (b : Bool) (turn : ℕ) → o ≡ None → b ≡ false → relays_in (relay_from o b turn) turn ≡ true → ⊥
no_relay None false turn e f k = absurd (let bad : false ≡ true = k in cc)
no_relay None true turn e f k = cc
no_relay (Some x) b turn e f k = cc

module _ (m : Machine) (v : IsValidMachine m) (switches : List Switch) (pins : ℕ → List (List Level)) (entries : List Entry) (clocks : List Clocks) (ready start last top : ℕ) (ms : List Member) (after_ready : ready < start) (some : 0 < length m.boards) where
  abbrev Turns : Type 0
  Turns = ℕ → List BoardTurn

  -- the turns before the latest one
  abbrev Back : Turns → Turns
  Back turns b = rest_of m v switches (pins b) entries b (turns b)

  -- what is asked of a board up to some turns
  record Ready (b : ℕ) (came : List Came) (turns : List BoardTurn) : Type 0 where
    run : IsInRun m switches (pins b) entries b came turns
    reads : AreSoInTurns (ReadsAsTold m switches b) came (rest_of m v switches (pins b) entries b turns)
    behind : AreNotAhead m switches b came
    kept : AreKept (clocks_at clocks b)
    keeps_up : (turn : ℕ) → start ≤ turn → turn ≤ top + 275 → LinesKeepUp (clock_of (board_at m b)) (clocks_at clocks b) turn

  made : (b : ℕ) (came : List Came) (turns : List BoardTurn) → IsInRun m switches (pins b) entries b came turns → AreSoInTurns (ReadsAsTold m switches b) came (rest_of m v switches (pins b) entries b turns) → AreNotAhead m switches b came
      → AreKept (clocks_at clocks b) → ((turn : ℕ) → start ≤ turn → turn ≤ top + 275 → LinesKeepUp (clock_of (board_at m b)) (clocks_at clocks b) turn) → Ready b came turns
  made b came turns run reads behind kept keeps_up = record { run = run; reads = reads; behind = behind; kept = kept; keeps_up = keeps_up }

  back_run : (b : ℕ) (d : Came) (past : List Came) (turns : List BoardTurn) → IsInRun m switches (pins b) entries b (d ∷ past) turns → IsInRun m switches (pins b) entries b past (rest_of m v switches (pins b) entries b turns)
  back_run b d past [] r = absurd r.both
  back_run b d past (t ∷ turns) r = run_before m switches (pins b) entries b d past t turns r

  back : (b : ℕ) (d : Came) (past : List Came) (turns : List BoardTurn) → Ready b (d ∷ past) turns → Ready b past (rest_of m v switches (pins b) entries b turns)
  back b d past turns k = record {
    run = back_run b d past turns k.run;
    reads = earlier_reads m v switches (pins b) entries b (ReadsAsTold m switches b) d past (rest_of m v switches (pins b) entries b turns) (back_run b d past turns k.run) k.reads;
    behind = k.behind.1;
    kept = k.kept;
    keeps_up = k.keeps_up;
  }

  latest : (b : ℕ) (d : Came) (past : List Came) (turns : List BoardTurn) → IsInRun m switches (pins b) entries b (d ∷ past) turns → state_at b d.states ≡ latest_state (rest_of m v switches (pins b) entries b turns)
  latest b d past [] r = absurd r.both
  latest b d past (t ∷ turns) r = r.both.0

  abbrev AllReady : List Came → Turns → Type 0
  AllReady came turns = (b : ℕ) → b < length m.boards → Ready b came (turns b)

  abbrev Cause : List Seen → Type 0
  Cause xs = Has (IsCause last) xs

  abbrev Calm : List Came → GroupState → Turns → Type 0
  Calm came g turns = ((k : ℕ) → g.relay ≡ Some k → (k < length came) × (last + 5 ≤ k)) × ((b : ℕ) → b < length m.boards → MeekIn (IsReader b ms) (start - 251) (last + 5) (turns b))

  -- what holds of the section while it is known: a member has a cause to have triggered, or none was relayed to
  record Holds (came : List Came) (h : Homing) (turns : Turns) : Type 0 where
    ordered : start ≤ last
    within : (b : ℕ) → IsMember b ms → b < length m.boards
    state : Cause h.group.members ⊎ Calm came h.group turns

  abbrev Own_section : Homing → Type 0
  Own_section h = (h.start ≡ start) × (h.group.last ≡ last) × (members_of h.group ≡ ms)

  -- as it is known in a turn
  now_holds : (d : Came) (past : List Came) (turns : Turns) → AllReady past turns → BeginsApart m switches (d ∷ past) → ((h : Homing) → (known_by m switches past).homing ≡ Some h → Own_section h → Holds past h turns) → (h : Homing)
      → (noted m d.note (known_by m switches past)).homing ≡ Some h → Own_section h → Holds past h turns
  now_holds d past turns ready_all apart was h is own =
      let known = known_by m switches past in
      elim apart.0 [
        | inl none ↦ was h (sym (noted_none m d.note known none) ∙ is) own
        | inr begun ↦ elim (some_or_none (news_of d.note)) [
          | inr none ↦ absurd (clash known.homing h begun.0 (sym (noted_none m d.note known none) ∙ is))
          | inl news ↦
              let x : IsNewly m (Some h) = subst (IsNewly m) is (noted_newly m d.note known news) in
              let far = (begun.1 h is).1 in
              let at = own.0 in
              let order = x.3 in
              let last_is = own.1 in
              let none : (k : ℕ) → h.group.relay ≡ Some k → ⊥ = λ k e. (let bad : None ≡ Some k = sym x.1.calm ∙ e in cc) in
              record {
                ordered = omega (arith, order, at, last_is);
                within = λ b on. x.2 b (subst (IsMember b) (sym own.2) on);
                state = inr (
                  (λ k e. absurd (none k e)),
                  λ b low.
                      (let long = as_long m switches b past (turns b) (ready_all b low).run.both in meek_none (IsReader b ms) (start - 251) (last + 5) (turns b) (omega (arith, long, far, at))),
                );
              }
        ]
      ]

  -- once its boards' states have come
  module _ (d : Came) (past : List Came) (turns : Turns) (upto : length past ≤ top) (ready_all : AllReady past turns) (came : (b : ℕ) → b < length m.boards → state_at b d.states ≡ latest_state (turns b)) (reads : (b : ℕ) → b < length m.boards → AreSoInTurns (ReadsAsTold m switches b) (d ∷ past) (turns b))
      (behind : (b : ℕ) → b < length m.boards → AreNotAhead m switches b (d ∷ past)) (apart : BeginsApart m switches (d ∷ past)) (knows : KnowsLately m switches clocks (d ∷ past)) (connected : ArePastConnecting m switches ready (d ∷ past)) (h : Homing)
      (is : (noted m d.note (known_by m switches past)).homing ≡ Some h) (own : Own_section h) (k : Holds past h turns) where
    abbrev G : GroupState
    G = (hears_all (noted m d.note (known_by m switches past)).clocks d.states h).group

    goes : GoesOn m switches past
    goes = (ready_all 0 some).run.goes_on

    now : Now m v switches (pins 0) entries 0 d past h
    now = known_since m v switches (pins 0) entries 0 d past (turns 0) (ready_all 0 some).run apart h is

    members : members_of G ≡ ms
    members = states-kept (noted m d.note (known_by m switches past)).clocks 0 h.start d.states h.group ∙ own.2

    rise : BoardsRise (members_of G)
    rise =
        let known = known_by m switches past in
        let up : HomingRises (Some h) = subst HomingRises is (noted_rises m d.note known (known_rises m switches past goes)) in
        subst BoardsRise (sym (states-kept (noted m d.note known).clocks 0 h.start d.states h.group)) up

    abbrev W : ℕ → Fired → Type 0
    W b f = WasReported m switches b start f (d ∷ past)

    told : Each W (axis_at m h.axis).board G.members
    told = subst (λ (n : ℕ). Each (λ b f. WasReported m switches b n f (d ∷ past)) (axis_at m h.axis).board G.members) own.0 (all_told m switches d past h goes is)

    homes : HomesFrom m switches (start - 251) start ms (d ∷ past)
    homes =
        let At : ℕ → List Member → Type 0 = λ n l. HomesFrom m switches (n - 251) n l (d ∷ past) in
        subst (λ (l : List Member). At start l) own.2 (subst (λ (n : ℕ). At n (members_of h.group)) own.0 now.homes)

    truth : (b : ℕ) (on : IsMember b ms) (f : Fired) → W b f
        → Truth m v switches (pins b) entries b clocks ready start last top (ready_all b (k.within b on)).kept (ready_all b (k.within b on)).keeps_up f (turns b)
    truth b on f was =
        let low = k.within b on in
        let x = ready_all b low in
        told_true m v switches (pins b) entries b clocks ready start last top x.kept x.keeps_up (start - 251) ms (omega (arith, after_ready)) f after_ready k.ordered on d past (turns b) upto x.run (came b low) homes (reads b low) (behind b low) knows connected was

    -- a member that triggered in time has a cause, while none was relayed to
    causes : Calm past h.group turns → (b : ℕ) (on : IsMember b ms) (f : Fired) → W b f → f.turn ≤ last → (f.reason ≡ 2) ⊎ (IsReader b ms × (f.reason ≡ 1))
    causes calm b on f was early =
        let low = k.within b on in
        let x = ready_all b low in
        let y = truth b on f was in
        let at = was_at (first_state (board_at m b) (pins b) b entries) (trigger_of m b) f.reason f.tick (turns b) y.was in
        let begins = own.0 in
        let Meek : ℕ → List Member → Type 0 = λ n l. MeekIn (IsReader b l) (n - 251) (last + 5) (turns b) in
        let meek : Meek h.start (members_of h.group) = subst (λ (n : ℕ). Meek n (members_of h.group)) (sym own.0) (subst (λ (l : List Member). Meek start l) (sym own.2) (calm.1 b low)) in
        let late = subst (λ (n : ℕ). board_tick (clock_of (board_at m b)) (n - 1) ≤ f.tick) (sym own.0) y.late in
        let order = k.ordered in
        elim (why m v switches (pins b) entries b d past (turns b) x.run apart (wholly_true m switches b past _ x.reads) (wholly_sees m switches b past _ x.reads) x.behind h is (subst (IsMember b) (sym own.2) on) (last + 5)
        (omega (arith, begins, order)) meek f.reason f.tick at.0 at.1 at.2 at.3 late) [
          | inl two ↦ inl two
          | inr other ↦ elim other [ inl one ↦ inr (subst (IsReader b) own.2 one.0, one.1) | inr far ↦ absurd (let soon = y.soon early in omega (arith, far, soon)) ]
        ]

    each_at : (own_board : ℕ) (ahead : List Seen) (x : Seen) (rest : List Seen) → Each W own_board (ahead ++ x ∷ rest) → (f : Fired) → x.fired ≡ Some f → W x.member.board f
    each_at own_board [] x rest e f fired = e.0.0 f fired
    each_at own_board (y ∷ ahead) x rest e f fired = each_at own_board ahead x rest e.1 f fired

    member_in : (ahead : List Seen) (x : Seen) (rest : List Seen) → IsMember x.member.board (MembersOf (ahead ++ x ∷ rest))
    member_in [] x rest = inl refl
    member_in (y ∷ ahead) x rest = inr (member_in ahead x rest)

    cause_so : Calm past h.group turns → (ahead : List Seen) (x : Seen) (rest : List Seen) (f : Fired) → G.members ≡ ahead ++ x ∷ rest → x.fired ≡ Some f → f.turn ≤ last → IsCause last x.member f
    cause_so calm ahead x rest f cut fired early =
        let all : MembersOf (ahead ++ x ∷ rest) ≡ ms = ap MembersOf (sym cut) ∙ members in
        let on : IsMember x.member.board ms = subst (IsMember x.member.board) all (member_in ahead x rest) in
        let was = each_at (axis_at m h.axis).board ahead x rest (subst (λ (xs : List Seen). Each W (axis_at m h.axis).board xs) cut told) f fired in (
          early,
          elim (causes calm x.member.board on f was early) [
            | inl two ↦ inl two
            | inr one ↦ inr (reader_is ahead x rest (subst (λ (xs : List Seen). BoardsRise (MembersOf xs)) cut rise) (subst (IsReader x.member.board) (sym all) one.0), one.1)
          ],
        )

    heard : Cause G.members ⊎ ((any_fired_by last G.members ≡ false) × Calm past h.group turns)
    heard = elim k.state [
      | inl cause ↦ inl (states_stay (IsCause last) (noted m d.note (known_by m switches past)).clocks 0 h.start d.states h.group cause)
      | inr calm ↦ elim (has_or_none (IsCause last) last G.members (λ ahead x rest f cut fired early. cause_so calm ahead x rest f cut fired early)) [ inl has ↦ inl has | inr none ↦ inr (none, calm) ]
    ]

    -- and behind the turn
    abbrev K : ℕ
    K = length past

    last_is : G.last ≡ last
    last_is = (hears_keep (noted m d.note (known_by m switches past)).clocks d.states h).last ∙ own.1

    begun_late : any_fired_by last G.members ≡ false → relay_begins G K ≡ true → last + 5 ≤ K
    begun_late none e =
        let both = both_parts (nat_le (G.start + 4) K) (any_fired_by G.last G.members || nat_le (G.last + 5) K) e in
        elim (either_part (any_fired_by G.last G.members) (nat_le (G.last + 5) K) both.1) [
          | inl fired ↦ absurd (let bad : true ≡ false = sym (subst (λ (n : ℕ). any_fired_by n G.members ≡ true) last_is fired) ∙ none in cc)
          | inr late ↦ (let l = was_le (G.last + 5) K late in let same = last_is in omega (arith, l, same))
        ]

    no_relays : any_fired_by last G.members ≡ false → Calm past h.group turns → K < last + 5 → relays_in (relay_in G K) K ≡ true → ⊥
    no_relays none calm high = no_relay G.relay (relay_begins G K) K (by G.relay refl) (begins (relay_begins G K) refl)
      where
        by : (o : Option ℕ) → G.relay ≡ o → o ≡ None
        by None e = refl
        by (Some x) e = absurd (let y = calm.0 x (sym (hears_keep (noted m d.note (known_by m switches past)).clocks d.states h).relay ∙ e) in let low = y.0 in let late = y.1 in omega (arith, low, late, high))

        begins : (z : Bool) → relay_begins G K ≡ z → z ≡ false
        begins false e = refl
        begins true e = absurd (let late = begun_late none e in omega (arith, late, high))

    behind_holds : (next : Turns) → ((b : ℕ) → b < length m.boards → IsInRun m switches (pins b) entries b (d ∷ past) (next b)) → ((b : ℕ) → turns b ≡ rest_of m v switches (pins b) entries b (next b)) → Holds (d ∷ past) (behind_turn (hears_all (noted m d.note (known_by m switches past)).clocks d.states h) K) next
    behind_holds next runs backs = record {
      ordered = k.ordered;
      within = k.within;
      state = elim heard [
        | inl cause ↦ inl (subst Cause (sym (after_members G K)) cause)
        | inr x ↦ inr (relay_next x.0 x.1, λ b low. meek_next x.0 x.1 b (next b) (runs b low) (subst (MeekIn (IsReader b ms) (start - 251) (last + 5)) (backs b) (x.1.1 b low)))
      ];
    }
      where
        relay_next : any_fired_by last G.members ≡ false → Calm past h.group turns → (x : ℕ) → (turned_group G K).relay ≡ Some x → (x < length (d ∷ past)) × (last + 5 ≤ x)
        relay_next none calm x e = elim (relay_after (phase G.start G.last K) G K x e) [
          | inl old ↦ (let y = calm.0 x (sym (hears_keep (noted m d.note (known_by m switches past)).clocks d.states h).relay ∙ old) in let low = y.0 in let late = y.1 in (omega (arith, low), late))
          | inr new ↦ (let same = new.0 in let late = begun_late none new.1 in (omega (arith, same), omega (arith, same, late)))
        ]

        meek_next : any_fired_by last G.members ≡ false → Calm past h.group turns → (b : ℕ) (ts : List BoardTurn) → IsInRun m switches (pins b) entries b (d ∷ past) ts → MeekIn (IsReader b ms) (start - 251) (last + 5) (rest_of m v switches (pins b) entries b ts)
            → MeekIn (IsReader b ms) (start - 251) (last + 5) ts
        meek_next none calm b [] r old = absurd r.both
        meek_next none calm b (t ∷ ts) r old = (
          λ from to.
              (let long = as_long m switches b past ts (run_before m switches (pins b) entries b d past t ts r).both in
              turn_is (IsReader b ms) ⊥ b m switches (pins b) entries d past t ts h r now.open_it is (λ i. subst (IsReader b) own.2 i) (no_relays none calm (omega (arith, to, long)))),
          old,
        )

  -- over a run
  first_turn : (b : ℕ) (d : Came) (past : List Came) (ts : List BoardTurn) → IsInRun m switches (pins b) entries b (d ∷ past) ts → (t : BoardTurn) × (rest : List BoardTurn) × (ts ≡ t ∷ rest)
  first_turn b d past [] r = absurd r.both
  first_turn b d past (t ∷ ts) r = (t, ts, refl)

  step_holds : (d : Came) (past : List Came) (turns : Turns) → length past ≤ top → AllReady (d ∷ past) turns → BeginsApart m switches (d ∷ past) → KnowsLately m switches clocks (d ∷ past) → ArePastConnecting m switches ready (d ∷ past)
      → ((h : Homing) → (known_by m switches past).homing ≡ Some h → Own_section h → Holds past h (Back turns)) → (h : Homing) → (known_by m switches (d ∷ past)).homing ≡ Some h → Own_section h → Holds (d ∷ past) h turns
  step_holds d past turns upto all apart knows connected was h is own = by (noted m d.note (known_by m switches past)).homing refl
    where
      one : (t : BoardTurn) × (rest : List BoardTurn) × (turns 0 ≡ t ∷ rest)
      one = first_turn 0 d past (turns 0) (all 0 some).run

      run_one : IsInRun m switches (pins 0) entries 0 (d ∷ past) (one.0 ∷ one.1)
      run_one = subst (IsInRun m switches (pins 0) entries 0 (d ∷ past)) one.2 (all 0 some).run

      all_back : AllReady past (Back turns)
      all_back b low = back b d past (turns b) (all b low)

      by : (o : Option Homing) → (noted m d.note (known_by m switches past)).homing ≡ o → Holds (d ∷ past) h turns
      by None e = absurd (clash (known_by m switches (d ∷ past)).homing h (none_stays m v switches (pins 0) entries 0 d past one.0 one.1 run_one apart e) is)
      by (Some g) e = go (answer_in (length past) g.start (hears_all (noted m d.note (known_by m switches past)).clocks d.states g).group) refl
        where
          open_it : (noted m d.note (known_by m switches past)).phase ≡ Connecting → ⊥
          open_it p = (known_since m v switches (pins 0) entries 0 d past (Back turns 0) (all_back 0 some).run apart g e).open_it (sym (noted_phase m d.note (known_by m switches past)) ∙ p)

          go : (o : Option End) → answer_in (length past) g.start (hears_all (noted m d.note (known_by m switches past)).clocks d.states g).group ≡ o → Holds (d ∷ past) h turns
          go (Some x) f = absurd (clash (known_by m switches (d ∷ past)).homing h (answered_over m v switches (pins 0) entries 0 d past one.0 one.1 run_one apart g e open_it x f) is)
          go None f =
              let heard_h = hears_all (noted m d.note (known_by m switches past)).clocks d.states g in
              let same : behind_turn heard_h (length past) ≡ h = some_same (behind_turn heard_h (length past)) h (sym (goes_to m v switches (pins 0) entries 0 d past one.0 one.1 run_one apart g e open_it f) ∙ is) in
              let members_g : members_of (behind_turn heard_h (length past)).group ≡ members_of g.group = same_members m v switches (pins 0) entries 0 d past one.0 one.1 run_one apart g in
              let last_g : (behind_turn heard_h (length past)).group.last ≡ g.group.last = after_last heard_h.group (length past) ∙ (hears_keep (noted m d.note (known_by m switches past)).clocks d.states g).last in
              let own_g : Own_section g = (
                ap (λ (z : Homing). z.start) same ∙ own.0,
                sym last_g ∙ ap (λ (z : Homing). z.group.last) same ∙ own.1,
                sym members_g ∙ ap (λ (z : Homing). members_of z.group) same ∙ own.2,
              ) in
              let old = now_holds d past (Back turns) all_back apart was g e own_g in
              subst (λ (z : Homing). Holds (d ∷ past) z turns) same
              (behind_holds d past (Back turns) upto all_back (λ b low. latest b d past (turns b) (all b low).run) (λ b low. (all b low).reads) (λ b low. (all b low).behind) apart knows connected g e own_g old turns (λ b low. (all b low).run) (λ b. refl))

  holds_all : (came : List Came) (turns : Turns) → length came ≤ top → AllReady came turns → BeginsApart m switches came → KnowsLately m switches clocks came → ArePastConnecting m switches ready came → (h : Homing) → (known_by m switches came).homing ≡ Some h
      → Own_section h → Holds came h turns
  holds_all [] turns upto all apart knows connected h is own = absurd (clash (known_by m switches []).homing h refl is)
  holds_all (d ∷ past) turns upto all apart knows connected h is own =
      step_holds d past turns (omega (arith, upto)) all apart knows connected (λ g known of. holds_all past (Back turns) (omega (arith, upto)) (λ b low. back b d past (turns b) (all b low)) apart.1 knows.1 connected.1 g known of) h is own

-- where a group answers that no switch closed
pub group_missed : (m : Machine) (v : IsValidMachine m) (switches : List Switch) (pins : ℕ → List (List Level)) (entries : List Entry) (clocks : List Clocks) (ready : ℕ) (c : Came) (before : List Came) (turns : ℕ → List BoardTurn) (h : Homing)
    → (noted m c.note (known_by m switches before)).homing ≡ Some h → ready < h.start → BeginsApart m switches (c ∷ before) → KnowsLately m switches clocks (c ∷ before) → ArePastConnecting m switches ready (c ∷ before)
    → ((b : ℕ) → b < length m.boards → IsHeardWell m switches (pins b) entries clocks b h.start c before (turns b)) → h.axis < length m.axes → (axis_at m h.axis).board < length m.boards
    → answer_in (length before) h.start (hears_all (noted m c.note (known_by m switches before)).clocks c.states h).group ≡ Some end.NoSwitch
    → (until : ℕ) × IsMissedOf m switches (pins (axis_at m h.axis).board) entries (axis_at m h.axis).board h.start h.axis before (turns (axis_at m h.axis).board) until
    × (lines_tick (clocks_at clocks (axis_at m h.axis).board) ((h.group.last + 1) * turn_ns) ≤ until)
group_missed m v switches pins entries clocks ready c before turns h is after apart knows connected all low_axis there answers =
    let b = (axis_at m h.axis).board in
    let start = h.start in
    let last = h.group.last in
    let ms = members_of h.group in
    let some : 0 < length m.boards = omega (arith, there) in
    let n = noted m c.note (known_by m switches before) in
    let group = (hears_all n.clocks c.states h).group in
    let own : (start ≡ start) × (last ≡ last) × (ms ≡ ms) = (refl, refl, refl) in
    let ready_all = λ (i : ℕ). λ (low : i < length m.boards). made m v switches pins entries clocks ready start last (length before) ms after some i before (turns i) (all i low).run
    (earlier_reads m v switches (pins i) entries i (ReadsAsTold m switches i) c before (turns i) (all i low).run (all i low).reads) (all i low).behind.1 (all i low).kept (all i low).keeps_up in
    let k = now_holds m v switches pins entries clocks ready start last (length before) ms after some c before turns ready_all apart (holds_all m v switches pins entries clocks ready start last (length before) ms after some before turns (omega arith) ready_all apart.1 knows.1 connected.1) h is own in
    let heard_of = heard m v switches pins entries clocks ready start last (length before) ms after some c before turns (omega arith) ready_all (λ i low. (all i low).latest) (λ i low. (all i low).reads) (λ i low. (all i low).behind) apart knows connected h is own k in
    let parts = missed (length before) start group answers in
    let last_so : group.last ≡ last = (hears_keep n.clocks c.states h).last in
    let none : any_fired_by last group.members ≡ false = elim heard_of [
      | inl cause ↦ absurd (has_none group.last group.members parts (subst (λ (i : ℕ). Has (IsCause i) group.members) (sym last_so) cause))
      | inr x ↦ x.0
    ] in
    let reader : IsReader b ms = (of_axis m switches c before (all b there).run.goes_on h is).1 there in
    let reads : IsReader b (MembersOf group.members) = subst (IsReader b) (sym (states-kept n.clocks 0 h.start c.states h.group)) reader in
    let f = reader_late group.last b group.members parts (subst (λ (i : ℕ). any_fired_by i group.members ≡ false) (sym last_so) none) reads (λ i g. WasReported m switches i start g (c ∷ before)) b (all_told m switches c before h (all b there).run.goes_on is) in
    let far = f.2 in
    let y = truth m v switches pins entries clocks ready start last (length before) ms after some c before turns (omega arith) ready_all (λ i low. (all i low).latest) (λ i low. (all i low).reads) (λ i low. (all i low).behind) apart knows connected h is own k b (is_member b ms reader) f.0 f.3 in
    let at = was_at (first_state (board_at m b) (pins b) b entries) (trigger_of m b) f.0.reason f.0.tick (turns b) y.was in
    let homes = (known_since m v switches (pins b) entries b c before (turns b) (all b there).run apart h is).homes in (
      f.0.tick,
      record {
        reason = f.0.reason;
        fired = y.was;
        other = f.1;
        none = λ tick trig.
            fired_by m v switches (pins b) entries b before (turns b) (all b there).run start h.axis tick ms (homes_later m switches (start - 251) (start - 250) start ms before (omega arith) homes.1) (all b there).runs low_axis refl trig f.0.reason f.0.tick at.0 at.1 at.2 at.3;
      },
      y.behind (omega (arith, far, last_so)),
    )
