-- Where the trigger of a member's board stands expired in a homing section, the link of a member's board was hindered.
use Rattle.std.proofs.Common.{◌≡◌, ◌⊎◌, ℕ, suc, ◌+◌, ◌-◌, ◌*◌, ◌≤◌, inl, inr, List, [], ◌∷◌, ◌++◌, length, Option, Some, refl, ap, sym, ◌∙◌, subst, arith}
use Rattle.laws_board.proofs.Names.{leb_tells, Level, Machine, board_tick, clock_of, turn_ns, Clocks, lines_tick, IsValidMachine, axis_at, board_at, Entry, Switch, Member, Fired, Seen, GroupState, Homing, hears_all, members_of, trigger_of, Rig, Slot, slot_at, one_slot, first_state, noted, Came, GoesOn, known_by, cons_same}
use Rattle.laws_board.specs.turns.Turns.{BoardTurn, stands_after}
use Rattle.laws_board.proofs.sections.Clocks.{ticks_rise}
use Rattle.laws_board.proofs.clocks.Lines.{as_long, run_before}
use Rattle.laws_homing.specs.home_runs.Guards.{HasFired}
use Rattle.laws_homing.specs.home_runs.Sections.{HomesFrom}
use Rattle.laws_homing.specs.home_runs.Told.{IsMember}
use Rattle.laws_homing.specs.clear_boards.Hearing.{KnownOn, NoneOn}
use Rattle.laws_homing.specs.clear_boards.Limited.{IsLimited}
use Rattle.laws_homing.specs.clear_boards.Rests.{RestsBehind, RestsFrom}
use Rattle.laws_homing.specs.clear_groups.Safe.{IsGroupHeld}
use Rattle.laws_homing.specs.clear_groups.Sections.{BeginsNoneFrom, IsFollowed, IsOnward, IsRestingSection, IsHomingSection, report_ticks, rig_at, turns_of}
use Rattle.laws_homing.specs.clear_groups.SetUp.{AllOfTurn, ArePrepared, ArePreparedAt, IsNewAt}
use Rattle.laws_homing.specs.fired_runs.Since.{AllRead, AreReadTrue, BeginsApart, IsFiredAt, ReadsSwitchTrue, ReadsTrue}
use Rattle.laws_homing.specs.hindered.Hindered.{HaveRoundAhead, HeardByNow, IsGoingOn, HasLiveTrigger, HasTellingTrigger, SomeHinderedIn, StoodAt, TellsOn}
use Rattle.laws_homing.specs.switch_runs.Reports.{WasReported}
use Rattle.laws_homing.proofs.clear_boards.Standing.{sound_at}
use Rattle.laws_homing.proofs.fired_runs.Reported.{all_told}
use Rattle.laws_homing.proofs.fired_runs.Under.{under_after}
use Rattle.laws_homing.proofs.clear_groups.Known.{behind_turn, of_known, some_known}
use Rattle.laws_homing.proofs.clear_groups.Newly.{safe_at}
use Rattle.laws_homing.proofs.clear_groups.Sections.{rests_safe}
use Rattle.laws_homing.proofs.hindered.Keeping.{Timed}
use Rattle.laws_homing.proofs.hindered.Nearing.{IsNear, near_at}
use Rattle.laws_homing.proofs.hindered.Prepared.{prepared_in}
use Rattle.laws_homing.proofs.hindered.Reporting.{IsUp}
use Rattle.laws_homing.proofs.hindered.Told.{report_early}
use Rattle.laws_homing.proofs.hindered.Resting.{some_more, some_or, turns_long}
use Rattle.laws_homing.proofs.hindered.Waking.{IsAsked, IsAwake, IsCalled, IsDone, IsExact, NoneKnown, all_or, asked_on, awake_on, called_on, done_on, exact_on, next_known}
use Rattle.laws_homing.proofs.hindered.Unheard.{known_of, unheard_at}

-- from a later turn on
pub homes_later : (m : Machine) (switches : List Switch) (from at start : ℕ) (ms : List Member) (came : List Came) → from ≤ at → HomesFrom m switches from start ms came → HomesFrom m switches at start ms came
homes_later m switches from at start ms [] l k = tt
homes_later m switches from at start ms (c ∷ before) l k = ((λ late. k.0 (omega (arith, l, late))), homes_later m switches from at start ms before l k.1)

pub begins_later : (from at : ℕ) (came : List Came) → from ≤ at → BeginsNoneFrom from came → BeginsNoneFrom at came
begins_later from at [] l k = tt
begins_later from at (c ∷ before) l k = ((λ late. k.0 (omega (arith, l, late))), begins_later from at before l k.1)

-- what is read of earlier turns
read_before : (R : Came → List Came → List BoardTurn → Type 0) (d : Came) (past : List Came) (t : BoardTurn) (turns : List BoardTurn) → AllRead R (d ∷ past) (t ∷ turns) → AllRead R past turns
read_before R d past t [] k = tt
read_before R d past t (u ∷ more) k = k.1

module _ (m : Machine) (v : IsValidMachine m) (switches : List Switch) (pins : ℕ → List (List Level)) (entries : List Entry) (lines : ℕ → Clocks) (ready since start last till : ℕ) (members : List Member)
    (followed : (b : ℕ) → IsMember b members → IsFollowed m b (lines b) ready start last till) (low_so : ready + 255 ≤ start) (set_up : since + 252 ≤ start) (order : start ≤ last) where
  abbrev Going : Came → List Came → List (ℕ → BoardTurn) → Type 0
  Going c before all = IsHomingSection (λ b. IsGoingOn m switches (pins b) entries b) m switches lines (since + 1) start members c before all

  abbrev Rest : List (ℕ → BoardTurn) → Type 0
  Rest all = (b : ℕ) → IsMember b members → RestsFrom (since + 1) (turns_of b all)

  resting : (c : Came) (before : List Came) (all : List (ℕ → BoardTurn)) → Going c before all → Rest all → IsRestingSection m switches pins entries lines (since + 1) start members c before all
  resting c before all s r =
      record {
        goes_on = s.goes_on;
        long = s.long;
        homes = s.homes;
        begins = s.begins;
        knows = s.knows;
        plain = λ b on. by b (r b on) (s.plain b on);
        states = s.states;
      }
    where
      by : (b : ℕ) → RestsFrom (since + 1) (turns_of b all) → IsGoingOn m switches (pins b) entries b before (turns_of b all) → IsOnward m switches (pins b) entries b (since + 1) before (turns_of b all)
      by b rests p = record { run = p.run; rests = rests; none_shut = p.none_shut; in_range = p.in_range }

  -- the turn before
  cut_going : (c d : Came) (past : List Came) (j : ℕ → BoardTurn) (js : List (ℕ → BoardTurn)) → Going c (d ∷ past) (j ∷ js) → Going d past js
  cut_going c d past j js s =
      let size = s.long in
      record {
        goes_on = s.goes_on.1;
        long = omega (arith, size);
        homes = s.homes.1;
        begins = s.begins.1;
        knows = s.knows.1;
        plain = λ b on. going b on (s.plain b on);
        states = λ b on. (s.plain b on).run.both.0;
      }
    where
      going : (b : ℕ) → IsMember b members → IsGoingOn m switches (pins b) entries b (d ∷ past) (turns_of b (j ∷ js)) → IsGoingOn m switches (pins b) entries b past (turns_of b js)
      going b on p =
          let turns = turns_of b js in
          let own : ℕ → ℕ = λ k. board_tick (clock_of (board_at m b)) k in
          let up = (followed b on).ticks.up (length turns) in
          let e : length turns + 1 ≡ suc (length turns) = omega arith in
          let same : own (length turns + 1) ≡ own (suc (length turns)) = ap own e in
          let range = p.in_range in
          record {
            run = run_before m switches (pins b) entries b d past (j b) turns p.run;
            none_shut = p.none_shut.1;
            in_range = omega (arith, up, same, range);
            reads = read_before (ReadsTrue m switches b) d past (j b) turns p.reads;
            reads_switch = read_before (ReadsSwitchTrue m switches b) d past (j b) turns p.reads_switch;
            behind = p.behind.1;
          }

  -- the members' boards are prepared
  abbrev Behind : List (ℕ → BoardTurn) → Type 0
  Behind all = length all ≡ start - 251 → (b : ℕ) → IsMember b members → RestsBehind (turns_of b all)

  prepared : (c : Came) (before : List Came) (all : List (ℕ → BoardTurn)) → Going c before all → Rest all → Behind all → BeginsApart m switches (c ∷ before) → ArePreparedAt m pins entries lines start members (start - 251) all
  prepared c before [] s r rests apart = λ e. absurd (omega (arith, e, low_so))
  prepared c [] (j ∷ js) s r rests apart = absurd (let size = s.long in omega (arith, size))
  prepared c (d ∷ past) (j ∷ js) s r rests apart = (λ e. here e, prepared d past js (cut_going c d past j js s) (λ b on. (r b on).1) below apart.1)
    where
      long : (b : ℕ) → IsMember b members → length past ≡ length (turns_of b js)
      long b on = as_long m switches b past (turns_of b js) (s.plain b on).run.both.2

      below : Behind js
      below e b on = (let size = s.long in let same = long b on in ((r b on).0 (omega (arith, e, size, same, set_up, low_so))).0)

      here : length js + 1 ≡ start - 251 → ArePrepared m pins entries lines start members (j ∷ js)
      here e = λ b on. (
          let size = s.long in
          let homes = s.homes.0 (omega (arith, e, size, set_up, low_so)) in
          let known = some_known start members (noted m c.note (known_by m switches (d ∷ past))).homing homes.1 in
          let begins = (of_known start members (noted m c.note (known_by m switches (d ∷ past))).homing known.0 homes.1 known.1).0 in
          let same : length (j ∷ js) ≡ start - 251 = omega (arith, e) in
          prepared_in m v switches (pins b) entries b c (d ∷ past) (j b) (turns_of b js) known.0 (lines_tick (lines b) (start * turn_ns)) (s.plain b on) (rests same b on) apart homes.0 known.1 (omega (arith, e, size, begins, set_up, low_so)))

  -- a trigger that its timeout triggered, at another tick than that behind the section's last turn
  module _ (b tick : ℕ) (on : IsMember b members) (other : tick ≡ lines_tick (lines b) ((last + 1) * turn_ns) → ⊥) where
    abbrev Stands : Rig → Type 0
    Stands r = IsFiredAt (trigger_of m b) 2 tick r

    never : (limit : ℕ) (r : Rig) → ((n : ℕ) → IsLimited (trigger_of m b) n limit r) → Stands r → ⊥
    never limit r k x = let same = ((k (tick + 1)).held (trigger_of m b) x.slot x.is).expiry x.fired x.why in let at = x.at in omega (arith, same, at)

    none_safe : (turn : ℕ) (g : GroupState) (rigs : ℕ → Rig) → IsGroupHeld m lines start last members turn g rigs → Stands (rigs b) → ⊥
    none_safe turn g rigs (inl k) x = elim (k.1 b on) [
      | inl renewed ↦ never (lines_tick (lines b) ((last + 1) * turn_ns)) (rigs b) renewed x
      | inr once ↦ let same = (once.0.held (trigger_of m b) x.slot x.is).expiry x.fired x.why in other (sym x.at ∙ same)
    ]
    none_safe turn g rigs (inr (inl k)) x = never (lines_tick (lines b) (g.sent * turn_ns)) (rigs b) (k b on).0 x
    none_safe turn g rigs (inr (inr k)) x = never (lines_tick (lines b) (g.sent * turn_ns)) (rigs b) (k.2 b on).0 x

    stands_now : (to : ℕ) (c : Came) (before : List Came) (all : List (ℕ → BoardTurn)) → Going c before all → AllOfTurn (c ∷ before) → BeginsApart m switches (c ∷ before) → length before + 276 ≤ till → start ≤ length before + 249
        → IsNewAt m switches start last members (since + 1) (c ∷ before) → Stands (rig_at m pins entries all b) → length all ≤ to + 1 → SomeHinderedIn since to members all
    stands_now to c before all s of apart reach late new x low = elim (some_or since to members all low) [
      | inl some ↦ some
      | inr r ↦
          let size = s.long in
          let rest = resting c before all s r in
          let below : Behind all = (λ e. absurd (omega (arith, e, size, late, low_so))) in
          let safe_then = safe_at m switches pins entries lines ready (since + 1) start last till members followed low_so (omega (arith, set_up)) order c before all rest of new (prepared c before all s r below apart) (omega (arith, late, reach)) in
          let safe = (rests_safe m switches pins entries lines ready (since + 1) start last till (start - 249) members followed (omega (arith, set_up)) (omega (arith, low_so)) (omega arith) c before all rest reach (omega (arith, late)) safe_then).0 in
          absurd (none_safe (length before) (hears_all (noted m c.note (known_by m switches before)).clocks c.states safe.0).group (rig_at m pins entries all) safe.2.held x)
    ]

    -- so it was as a turn of the board ended
    pub stood : (later : List BoardTurn) (t : BoardTurn) (past : List BoardTurn) (c : Came) (before : List Came) (all : List (ℕ → BoardTurn)) → Going c before all → AllOfTurn (c ∷ before) → BeginsApart m switches (c ∷ before) → length before + 276 ≤ till
        → IsNewAt m switches start last members (since + 1) (c ∷ before) → turns_of b all ≡ later ++ t ∷ past → start ≤ length past + 250 → Stands t.after.core.board → SomeHinderedIn since (length past) members all
    stood [] t past c before all s of apart reach new are late x =
        let same = turns_long b all in
        let size = s.long in
        let long : length (turns_of b all) ≡ length (t ∷ past) = ap length are in
        let here : Stands (rig_at m pins entries all b) = subst (λ (z : List BoardTurn). Stands (stands_after (first_state (board_at m b) (pins b) b entries) z).core.board) (sym are) x in
        stands_now (length past) c before all s of apart reach (omega (arith, late, same, size, long)) new here (omega (arith, same, long))
    stood (l ∷ later) t past c before [] s of apart reach new are late x = absurd (let bad : [] ≡ l ∷ (later ++ t ∷ past) = are in cc)
    stood (l ∷ later) t past c [] (j ∷ js) s of apart reach new are late x = absurd (let size = s.long in omega (arith, size))
    stood (l ∷ later) t past c (d ∷ before) (j ∷ js) s of apart reach new are late x =
        some_more since (length past) members j js
        (stood later t past d before js (cut_going c d before j js s) of.1 apart.1 (omega (arith, reach)) new.1 (cons_same (j b) l (turns_of b js) (later ++ t ∷ past) are).1 late x)

  -- the links of its boards rest from a turn on, which is some turns behind the section's start
  module _ (exactly : since + 252 ≡ start) (at : ℕ) (begun : start + 5 ≤ at) (ends : at + 32 ≤ last) (y : ℕ) (on_y : IsMember y members) where
    abbrev RestAt : List (ℕ → BoardTurn) → Type 0
    RestAt all = (b : ℕ) → IsMember b members → RestsFrom at (turns_of b all)

    resting_at : (c : Came) (before : List Came) (all : List (ℕ → BoardTurn)) → Going c before all → RestAt all → IsRestingSection m switches pins entries lines at start members c before all
    resting_at c before all s r =
        record {
          goes_on = s.goes_on;
          long = s.long;
          homes = homes_later m switches (since + 1) at start members (c ∷ before) (omega (arith, exactly, begun)) s.homes;
          begins = begins_later (since + 1) at (c ∷ before) (omega (arith, exactly, begun)) s.begins;
          knows = s.knows;
          plain = λ b on. by b (r b on) (s.plain b on);
          states = s.states;
        }
      where
        by : (b : ℕ) → RestsFrom at (turns_of b all) → IsGoingOn m switches (pins b) entries b before (turns_of b all) → IsOnward m switches (pins b) entries b at before (turns_of b all)
        by b rests p = record { run = p.run; rests = rests; none_shut = p.none_shut; in_range = p.in_range }

    low_five : ready + 5 ≤ start
    low_five = omega (arith, low_so)

    from_so : since + 1 + 251 ≡ start
    from_so = omega (arith, exactly)

    abbrev Near : Came → List Came → Type 0
    Near c before = IsNear m switches y (since + 1) start last members on_y from_so order c before

    abbrev NearAll : List Came → Type 0
    NearAll [] = Unit {0}
    NearAll (c ∷ before) = (start ≤ length before + 250 → Near c before) × NearAll before

    near_all : (c : Came) (before : List Came) → GoesOn m switches before → HomesFrom m switches (since + 1) start members (c ∷ before) → BeginsNoneFrom (since + 1) (c ∷ before) → IsNewAt m switches start last members (since + 1) (c ∷ before)
        → HeardByNow m switches y start (c ∷ before) → NearAll (c ∷ before)
    near_all c [] goes homes begins new heard = (λ l. near_at m switches y (since + 1) start last members on_y from_so order c [] goes homes begins new heard l, tt)
    near_all c (d ∷ past) goes homes begins new heard = (λ l. near_at m switches y (since + 1) start last members on_y from_so order c (d ∷ past) goes homes begins new heard l, near_all d past goes.1 homes.1 begins.1 new.1 heard.1)

    abbrev Sent : Came → List Came → Homing → ℕ
    Sent c before h = (hears_all (noted m c.note (known_by m switches before)).clocks c.states h).group.sent

    same_homing : (o : Option Homing) (g h : Homing) → o ≡ Some g → o ≡ Some h → g ≡ h
    same_homing o g h e f = let both : Some g ≡ Some h = sym e ∙ f in cc

    near_as : (c : Came) (before : List Came) (x : Near c before) (h : Homing) → (noted m c.note (known_by m switches before)).homing ≡ Some h → start ≤ length before → (Sent c before h ≤ length before + 25) × (Sent c before h ≤ last + 1)
    near_as c before x h is late =
        let same = same_homing (noted m c.note (known_by m switches before)).homing x.homing h x.known is in
        let near = x.near in
        let most = x.timed.most in
        let end = x.ends in
        subst (λ (g : Homing). (Sent c before g ≤ length before + 25) × (Sent c before g ≤ last + 1)) same (omega (arith, near, late), omega (arith, most, end))

    -- their triggers are live as that turn begins, or report that they have triggered in the section
    abbrev Base : ℕ → ℕ
    Base b = lines_tick (lines b) (start * turn_ns)

    abbrev UnderWay : List (ℕ → BoardTurn) → Type 0
    UnderWay all = (b : ℕ) → IsMember b members → StoodAt (TellsOn m b (Base b) at) at (turns_of b all)

    -- what they tell is read true, and a round of the clock is ahead
    abbrev Read : Came → List Came → List (ℕ → BoardTurn) → Type 0
    Read c before all = length before ≤ at + 36 → (b : ℕ) → IsMember b members → AreReadTrue m switches b (c ∷ before) (turns_of b all)

    abbrev Ahead : List Came → Type 0
    Ahead came = (b : ℕ) → IsMember b members → HaveRoundAhead m switches b start last came

    -- and the board's could trigger 24 turns behind
    abbrev Could : List (ℕ → BoardTurn) → Type 0
    Could all = StoodAt (λ r. HasFired (trigger_of m y) r → ⊥) (at + 24) (turns_of y all)

    first_awake : (c d : Came) (past : List Came) (j : ℕ → BoardTurn) (js : List (ℕ → BoardTurn)) → Near c (d ∷ past) → length (d ∷ past) ≡ at → ((b : ℕ) → IsMember b members → HasLiveTrigger m b at (rig_at m pins entries (j ∷ js) b))
        → IsAwake m v switches pins entries lines ready at start last till members followed low_five begun ends y on_y c (d ∷ past) (j ∷ js)
    first_awake c d past j js x size way =
        let own = way y on_y in
        let near = x.near in
        record {
          homing = x.homing;
          known = x.known;
          begins = x.begins;
          up = λ b on. subst (λ (n : ℕ). IsUp m b (board_tick (clock_of (board_at m b)) at + report_ticks m b) (board_tick (clock_of (board_at m b)) n) start (hears_all (noted m c.note (known_by m switches (d ∷ past))).clocks c.states x.homing).group.members (rig_at m pins entries (j ∷ js) b)) (sym size) (first_up b (way b on));
          timed = λ oid s same there. subst (λ (z : Slot). Timed z.trigger) (one_slot (slot_at (rig_at m pins entries (j ∷ js) y) (trigger_of m y)) own.slot s own.is (subst (λ (n : ℕ). slot_at (rig_at m pins entries (j ∷ js) y) n ≡ Some s) same there)) (λ can. (own.timeout, own.timed), own.reads);
          exact = inl (omega (arith, near, size, begun));
          far = λ late. absurd (omega (arith, late, size));
        }
      where
        first_up : (b : ℕ) → HasLiveTrigger m b at (rig_at m pins entries (j ∷ js) b)
            → IsUp m b (board_tick (clock_of (board_at m b)) at + report_ticks m b) (board_tick (clock_of (board_at m b)) at) start (hears_all (noted m c.note (known_by m switches (d ∷ past))).clocks c.states x.homing).group.members (rig_at m pins entries (j ∷ js) b)
        first_up b u = record { slot = u.slot; is = u.is; can = u.can; every_is = u.every; next = u.next; report = u.report; due = u.due; heard = inl u.soon }

    abbrev Awake : Came → List Came → List (ℕ → BoardTurn) → Type 0
    Awake c before all = IsAwake m v switches pins entries lines ready at start last till members followed low_five begun ends y on_y c before all

    abbrev Exact : Came → List Came → List (ℕ → BoardTurn) → Type 0
    Exact c before all = IsExact m v switches pins entries lines ready at start last till members followed low_five begun ends y on_y c before all

    abbrev None_known : Came → List Came → Homing → Type 0
    None_known c before h = NoneKnown m v switches pins entries lines ready at start last till members followed low_five begun ends y on_y c before h

    abbrev Called : Came → List Came → List (ℕ → BoardTurn) → Type 0
    Called c before all = IsCalled m v switches pins entries lines ready at start last till members followed low_five begun ends y on_y c before all

    abbrev Done : List Came → List (ℕ → BoardTurn) → Type 0
    Done before all = IsDone m v switches pins entries lines ready at start last till members followed low_five begun ends y on_y before all

    abbrev Asked : Came → List Came → List (ℕ → BoardTurn) → Type 0
    Asked c before all = IsAsked m v switches pins entries lines ready at start last till members followed low_five begun ends y on_y c before all

    -- how far the section has come: all report that they can trigger, or a member that it has triggered, or the group calls, or the board has triggered; and 24 turns behind, its timeout is ahead
    abbrev Stage : Came → List Came → List (ℕ → BoardTurn) → Type 0
    Stage c before all = ((length before ≤ at + 24) × (w : Awake c before all) × None_known c before w.homing) ⊎ (Exact c before all ⊎ (Called c before all ⊎ (Done before all ⊎ Asked c before all)))

    -- what the reactor read of a member that has triggered is of no turn to come
    read_early : (b : ℕ) → IsMember b members → (f : Fired) (c : Came) (before : List Came) (all : List (ℕ → BoardTurn)) → Going c before all → AreReadTrue m switches b (c ∷ before) (turns_of b all) → length before + 276 ≤ till → length before ≤ last
        → WasReported m switches b start f (c ∷ before) → f.turn ≤ length before + 1
    read_early b on f c before [] s reads reach low (inl x) = absurd (let none = s.states b on in let came = x.came in let bad = sym none ∙ came in cc)
    read_early b on f c [] all s reads reach low (inr old) = absurd old
    read_early b on f c (d ∷ past) [] s reads reach low (inr old) = absurd (let size = s.long in omega (arith, size))
    read_early b on f c (d ∷ past) (j ∷ js) s reads reach low (inr old) =
        let l = read_early b on f d past js (cut_going c d past j js s) reads.1 (omega (arith, reach)) (omega (arith, low)) old in
        omega (arith, l)
    read_early b on f c before (j ∷ js) s reads reach low (inl x) = report_early m v switches (pins b) entries _ lines ready (since + 1) start last till members b on (followed b on) low_five c before j js s (s.plain b on).run (λ l. omega (arith, l, exactly)) low (omega (arith, reach)) reads.0 f x

    -- as that turn begins
    module _ (c d e : Came) (past : List Came) (j i : ℕ → BoardTurn) (js : List (ℕ → BoardTurn)) (s : Going c (d ∷ e ∷ past) (j ∷ i ∷ js)) (apart : BeginsApart m switches (d ∷ e ∷ past)) (size : length (e ∷ past) ≡ at) (reach : length (e ∷ past) + 276 ≤ till)
        (x : Near d (e ∷ past)) where
      was : Going d (e ∷ past) (i ∷ js)
      was = cut_going c d (e ∷ past) j (i ∷ js) s

      abbrev Then : List Seen
      Then = (hears_all (noted m d.note (known_by m switches (e ∷ past))).clocks d.states x.homing).group.members

      of_now : (x.homing.start ≡ start) × (x.homing.group.start ≡ start) × (members_of x.homing.group ≡ members)
      of_now = of_known start members (noted m d.note (known_by m switches (e ∷ past))).homing x.homing (was.homes.0 (omega (arith, size, begun, exactly))).1 x.known

      unheard : (b : ℕ) → IsMember b members → HasLiveTrigger m b at (rig_at m pins entries (i ∷ js) b) → NoneOn b Then
      unheard b on u =
          let p = s.plain b on in
          unheard_at m v switches (pins b) entries b d (e ∷ past) (turns_of b (i ∷ js)) x.homing (was.plain b on).run (was.states b on) apart p.reads p.behind x.known (subst (IsMember b) (sym of_now.2) on) u.slot u.is u.can

      read_by : (b : ℕ) → IsMember b members → KnownOn b last Then
      read_by b on =
          known_of (λ n f. WasReported m switches n x.homing.start f (d ∷ e ∷ past)) (axis_at m x.homing.axis).board b last Then (all_told m switches d (e ∷ past) x.homing was.goes_on x.known)
          (λ f told. (
          let l = read_early b on f d (e ∷ past) (i ∷ js) was (s.plain b on).reads reach (omega (arith, size, ends)) (subst (λ (n : ℕ). WasReported m switches b n f (d ∷ e ∷ past)) of_now.0 told) in
          omega (arith, l, size, ends)))

      asked_first : (b : ℕ) → IsMember b members → HasTellingTrigger m b (Base b) at (rig_at m pins entries (i ∷ js) b) → TellsOn m y (Base y) at (rig_at m pins entries (i ∷ js) y) → Asked d (e ∷ past) (i ∷ js)
      asked_first b on u tells_y =
          let many = turns_long b (i ∷ js) in
          let long = was.long in
          let sound = sound_at (board_at m b) (pins b) b entries (turns_of b (i ∷ js)) (was.plain b on).run.turns_are (trigger_of m b) u.slot u.is in
          let under = under_after m switches (pins b) entries b (e ∷ past) (turns_of b (i ∷ js)) (was.plain b on).run (trigger_of m b) u.slot u.is in
          record {
            homing = x.homing;
            known = x.known;
            b = b;
            on = on;
            telling = record {
              slot = u.slot;
              is = u.is;
              next = u.next;
              tick = u.slot.trigger.tick;
              silenced = record { off = u.fired; idle = sound.idle u.fired; same = refl; every_is = u.every; report_is = u.report };
              due = subst (λ (n : ℕ). board_tick (clock_of (board_at m b)) n ≤ u.next) (sym size) u.due;
              soon = u.soon;
              base = u.since;
              early = subst (λ (n : ℕ). u.slot.trigger.tick ≤ board_tick (clock_of (board_at m b)) n) (omega (arith, many, long)) under;
            };
            knows = read_by b on;
            own = elim tells_y [ inl live ↦ inr (live.slot, live.is, live.can, unheard y on_y live) | inr gone ↦ inl (record { slot = gone.slot; is = gone.is; fired = gone.fired }) ];
          }

      stage_first : ((b : ℕ) → IsMember b members → TellsOn m b (Base b) at (rig_at m pins entries (i ∷ js) b)) → Stage d (e ∷ past) (i ∷ js)
      unfolding first_awake
      stage_first tells = elim (all_or (λ b. HasTellingTrigger m b (Base b) at (rig_at m pins entries (i ∷ js) b)) (λ b. HasLiveTrigger m b at (rig_at m pins entries (i ∷ js) b)) members (λ b on. elim (tells b on) [ inl live ↦ inr live | inr gone ↦ inl gone ])) [
        | inl z ↦ inr (inr (inr (inr (asked_first z.0 z.1 z.2 (tells y on_y)))))
        | inr live ↦ (let w = first_awake d e past i js x size live in inl (omega (arith, size), w, λ b on. unheard b on (live b on)))
      ]

    first_stage : (c d : Came) (past : List Came) (j : ℕ → BoardTurn) (js : List (ℕ → BoardTurn)) → Going c (d ∷ past) (j ∷ js) → BeginsApart m switches (d ∷ past) → NearAll (d ∷ past) → length past + 276 ≤ till → UnderWay js → length past ≡ at → Stage d past js
    first_stage c d past j [] s apart near reach way size = absurd (let many = s.long in omega (arith, many, size, begun))
    first_stage c d [] j (i ∷ js) s apart near reach way size = absurd (omega (arith, size, begun))
    first_stage c d (e ∷ past) j (i ∷ js) s apart near reach way size =
        let at_once : (b : ℕ) → IsMember b members → length (turns_of b js) + 1 ≡ at = (λ b on. (let many = turns_long b js in let long = s.long in omega (arith, many, long, size))) in
        stage_first c d e past j i js s apart size reach (near.0 (omega (arith, size, begun))) (λ b on. (way b on).0 (at_once b on))

    exact_of : (c : Came) (before : List Came) (all : List (ℕ → BoardTurn)) → Near c before → Awake c before all → length before ≡ at + 24 → Exact c before all
    exact_of c before all near w size =
        let most = (near_as c before near w.homing w.known (omega (arith, size, begun))).1 in
        let far = w.far (omega (arith, size)) in
        record {
          homing = w.homing;
          known = w.known;
          exact = elim w.exact [ inr limited ↦ limited | inl few ↦ absurd (elim far [ inl l ↦ omega (arith, l, few, size) | inr l ↦ omega (arith, l, few, ends) ]) ];
          far = elim far [ inl l ↦ inl (omega (arith, l, size)) | inr l ↦ inr (omega (arith, l, most)) ];
        }

    -- over a turn
    module _ (c d : Came) (past : List Came) (j : ℕ → BoardTurn) (js : List (ℕ → BoardTurn)) (s : Going c (d ∷ past) (j ∷ js)) (r : RestAt (j ∷ js)) (near : NearAll (c ∷ d ∷ past)) (reach : length (d ∷ past) + 276 ≤ till) (low : at ≤ length past) (high : length past ≤ at + 36)
        (could : length past ≡ at + 24 → HasFired (trigger_of m y) (rig_at m pins entries js y) → ⊥) (reads : Read c (d ∷ past) (j ∷ js)) (round : Ahead (c ∷ d ∷ past)) where
      near_d : Near d past
      near_d = near.1.0 (omega (arith, low, begun))

      section : IsRestingSection m switches pins entries lines at start members c (d ∷ past) (j ∷ js)
      section = resting_at c (d ∷ past) (j ∷ js) s r

      far : length past + 276 ≤ till
      far = omega (arith, reach)

      bounds : (Sent c (d ∷ past) (behind_turn (hears_all (noted m d.note (known_by m switches past)).clocks d.states near_d.homing) (length past)) ≤ length past + 26) × (Sent c (d ∷ past) (behind_turn (hears_all (noted m d.note (known_by m switches past)).clocks d.states near_d.homing) (length past)) ≤ last + 1)
      bounds =
          let z = near_as c (d ∷ past) (near.0 (omega (arith, low, begun))) _ (next_known m v switches pins entries lines ready at start last till members followed low_five begun ends y on_y c d past j js section low far near_d.homing near_d.known near_d.begins near_d.ends) (omega (arith, low, begun)) in
          let l = z.0 in
          (omega (arith, l), z.1)

      same_as : (g : Homing) → (noted m d.note (known_by m switches past)).homing ≡ Some g → g ≡ near_d.homing
      same_as g e = same_homing (noted m d.note (known_by m switches past)).homing g near_d.homing e near_d.known

      exact_step : Exact d past js → Exact c (d ∷ past) (j ∷ js)
      exact_step w = exact_on m v switches pins entries lines ready at start last till members followed low_five begun ends y on_y c d past j js section low far near_d.homing near_d.known near_d.begins near_d.ends w (same_as w.homing w.known) bounds.0 bounds.1 high

      stage_on : Stage d past js → Stage c (d ∷ past) (j ∷ js)
      stage_on (inl w) = elim (leb_tells (length past + 1) (at + 24)) [
        | inl p ↦
            let early = p.1 in
            elim (awake_on m v switches pins entries lines ready at start last till members followed low_five begun ends y on_y c d past j js section low far near_d.homing near_d.known near_d.begins near_d.ends w.1 (same_as w.1.homing w.1.known) w.2 bounds.0 bounds.1 (omega (arith, early))) [
              | inl x ↦ inr (inr (inl x))
              | inr x ↦ inl (omega (arith, early), x.0, x.1)
            ]
        | inr p ↦ (let late = p.1 in let most = w.0 in inr (inl (exact_step (exact_of d past js near_d w.1 (omega (arith, late, most))))))
      ]
      stage_on (inr (inl w)) = inr (inl (exact_step w))
      stage_on (inr (inr (inl x))) = elim (called_on m v switches pins entries lines ready at start last till members followed low_five begun ends y on_y c d past j js section low far near_d.homing near_d.known near_d.begins near_d.ends x (same_as x.homing x.known) bounds.0 bounds.1) [
        | inl w ↦ inr (inr (inl w))
        | inr w ↦ inr (inr (inr (inl w)))
      ]
      stage_on (inr (inr (inr (inl x)))) = inr (inr (inr (inl (done_on m v switches pins entries lines ready at start last till members followed low_five begun ends y on_y c d past j js section low far near_d.homing near_d.known near_d.begins near_d.ends x could))))
      stage_on (inr (inr (inr (inr x)))) = elim (asked_on m v switches pins entries lines ready at start last till members followed low_five begun ends y on_y c d past j js section low far near_d.homing near_d.known near_d.begins near_d.ends x (same_as x.homing x.known) (λ l b on. ((reads (omega (arith, l)) b on).0, (round b on).0 (omega (arith, low, begun)) (omega (arith, l, ends))))) [
        | inl w ↦ inr (inr (inl w))
        | inr w ↦ inr (inr (inr (inr w)))
      ]

    stage_at : (c : Came) (before : List Came) (all : List (ℕ → BoardTurn)) → Going c before all → BeginsApart m switches (c ∷ before) → RestAt all → NearAll (c ∷ before) → length before + 276 ≤ till → UnderWay all → Could all → Read c before all → Ahead (c ∷ before) → at + 1 ≤ length before → length before ≤ at + 37
        → Stage c before all
    stage_at c [] all s apart r near reach way could reads round low high = absurd (omega (arith, low))
    stage_at c (d ∷ past) [] s apart r near reach way could reads round low high = absurd (let size = s.long in omega (arith, size))
    stage_at c (d ∷ past) (j ∷ js) s apart r near reach way could reads round low high =
        stage_on c d past j js s r near reach (omega (arith, low)) (omega (arith, high)) (λ e. could_now js (let size = s.long in omega (arith, e, size)) could.1) reads round
        (elim (leb_tells (at + 1) (length past)) [
          | inl p ↦ stage_at d past js (cut_going c d past j js s) apart.1 (λ b on. (r b on).1) near.1 (omega (arith, reach)) (λ b on. (way b on).1) could.1 (λ l b on. (s.plain b on).reads) (λ b on. (round b on).1) p.1 (omega (arith, high))
          | inr p ↦ (let late = p.1 in first_stage c d past j js s apart.1 near.1 (omega (arith, reach)) (λ b on. (way b on).1) (omega (arith, late, low)))
        ])
      where
        could_now : (is : List (ℕ → BoardTurn)) → length is ≡ at + 24 → Could is → HasFired (trigger_of m y) (rig_at m pins entries is y) → ⊥
        could_now [] e k = absurd (omega (arith, e))
        could_now (i ∷ is) e k = k.0 (let many = turns_long y is in omega (arith, many, e))

    -- so its trigger doesn't expire in the 36th turn behind that one
    pub stood_lately : (tick : ℕ) → (tick ≡ lines_tick (lines y) ((last + 1) * turn_ns) → ⊥) → (later : List BoardTurn) (t : BoardTurn) (past : List BoardTurn) (c : Came) (before : List Came) (all : List (ℕ → BoardTurn)) → Going c before all → BeginsApart m switches (c ∷ before) → length before + 276 ≤ till
        → IsNewAt m switches start last members (since + 1) (c ∷ before) → HeardByNow m switches y start (c ∷ before) → turns_of y all ≡ later ++ t ∷ past → length past ≡ at + 36 → UnderWay all → Could all → Ahead (c ∷ before) → IsFiredAt (trigger_of m y) 2 tick t.after.core.board → SomeHinderedIn (at - 1) (length past) members all
    stood_lately tick other [] t past c before all s apart reach new heard are late way could round x =
        let same = turns_long y all in
        let size = s.long in
        let long : length (turns_of y all) ≡ length (t ∷ past) = ap length are in
        elim (some_or (at - 1) (length past) members all (omega (arith, same, long))) [
          | inl some ↦ some
          | inr r ↦
              let e : at - 1 + 1 ≡ at = omega (arith, begun) in
              let size_is : length before ≡ at + 37 = omega (arith, same, long, size, late) in
              let rest : RestAt all = (λ b on. subst (λ (n : ℕ). RestsFrom n (turns_of b all)) e (r b on)) in
              let stage = stage_at c before all s apart rest (near_all c before s.goes_on s.homes s.begins new heard) reach way could (λ l. absurd (omega (arith, l, size_is))) round (omega (arith, same, long, size, late)) (omega (arith, same, long, size, late)) in
              let here : IsFiredAt (trigger_of m y) 2 tick (rig_at m pins entries all y) = subst (λ (z : List BoardTurn). IsFiredAt (trigger_of m y) 2 tick (stands_after (first_state (board_at m y) (pins y) y entries) z).core.board) (sym are) x in
              let not : (n : ℕ) → IsLimited (trigger_of m y) (lines_tick (lines y) ((last + 1) * turn_ns)) n (rig_at m pins entries all y) → ⊥ = (λ n k. other (sym here.at ∙ (k.held (trigger_of m y) here.slot here.is).expiry here.fired here.why)) in
              absurd (elim stage [
                | inl w ↦ (let l = w.0 in omega (arith, l, size_is))
                | inr (inl w) ↦ not _ w.exact
                | inr (inr (inl w)) ↦ (let l = w.soon in omega (arith, l, size_is))
                | inr (inr (inr (inl w))) ↦ elim w.limited [ inl l ↦ omega (arith, l, size_is) | inr k ↦ not k.0 k.1 ]
                | inr (inr (inr (inr w))) ↦
                    let f = followed w.b w.on in
                    let up = ticks_rise (λ k. board_tick (clock_of (board_at m w.b)) k) f.ticks (at + 6) (length before) (omega (arith, size_is)) in
                    let every = f.reports at in
                    let due = w.telling.due in
                    let few = w.telling.soon in
                    omega (arith, up, every, due, few)
              ])
        ]
    stood_lately tick other (l ∷ later) t past c before [] s apart reach new heard are late way could round x = absurd (let bad : [] ≡ l ∷ (later ++ t ∷ past) = are in cc)
    stood_lately tick other (l ∷ later) t past c [] (j ∷ js) s apart reach new heard are late way could round x = absurd (let size = s.long in omega (arith, size))
    stood_lately tick other (l ∷ later) t past c (d ∷ before) (j ∷ js) s apart reach new heard are late way could round x =
        some_more (at - 1) (length past) members j js
        (stood_lately tick other later t past d before js (cut_going c d before j js s) apart.1 (omega (arith, reach)) new.1 heard.1 (cons_same (j y) l (turns_of y js) (later ++ t ∷ past) are).1 late (λ b on. (way b on).1) could.1 (λ b on. (round b on).1) x)
