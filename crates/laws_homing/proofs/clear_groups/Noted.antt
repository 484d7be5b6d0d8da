-- A homing section that a note begins is new, and its boards are followed.
use Rattle.std.proofs.Common.{◌≡◌, ℕ, zero, suc, ◌+◌, ◌<◌, ◌≤◌, ◌⊎◌, min, inl, inr, pos, negsuc, Bool, true, false, cond, List, [], ◌∷◌, length, map, Option, Some, None, refl, ap, sym, ◌∙◌, subst, arith, ℤ, ◌≤ℤ◌, ◌++◌, ◌==◌}
use Rattle.std.proofs.lemmas.Int.{ints}
use Rattle.laws_board.proofs.Names.{BoardClock, Level, Machine, SectionKind, Home, Moves, board_tick, clock_of, Clocks, IsValidMachine, axis_at, board_at, Note, NoteNews, State, Entry, Switch, first_state, LinkState, Member, GroupState, unseen, Homing, AxisDef, BoardDef, leb_tells, Seen, members_from, members_of, Known, news_of, noted, known_behind, told_all, Came, known_by, state_at, both_parts}
use Rattle.plan_types.specs.Clock.{run_turns}
use Rattle.clock_line.specs.Samples.{ppm_size}
use Rattle.msg_code.specs.declared.talk.NoteNews.TheVariants as news
use Rattle.laws_board.specs.turns.Turns.{AreBoardTurns, BoardTurn, latest_state}
use Rattle.laws_board.specs.clocks.Runs.{IsInRun}
use Rattle.laws_board.proofs.clocks.Lines.{as_long}
use Rattle.laws_board.specs.sections.Parts.{AreTracked}
use Rattle.laws_board.proofs.sections.Linking.{valid_ticks}
use Rattle.trigger_group.specs.Group.{new_group}
use Rattle.trigger_group.specs.Kept.{may_be}
use Rattle.laws_homing.specs.home_runs.Told.{IsMember}
use Rattle.std.specs.Prelude.{◌||◌, ◌&&◌, nat_le, nat_lt}
use Rattle.axis_homing.specs.Homing.{homing_of, homing_with, member_where, moving_on}
use Rattle.host_reactor.specs.Runs.{HaveStates}
use Rattle.laws_homing.specs.home_runs.Words.{BeginsNone}
use Rattle.laws_homing.proofs.home_runs.Knowing.{all_none}
use Rattle.laws_homing.proofs.clear_boards.Clocking.{board_reports}
use Rattle.laws_homing.specs.clear_groups.Sections.{AreOfTurn, IsFollowed, turns_of}
use Rattle.laws_homing.specs.clear_groups.SetUp.{BeginsSome, IsNew, IsNewIn}
use Rattle.laws_homing.proofs.clear_groups.Beginning.{unheard}
use Rattle.laws_homing.proofs.fired_runs.Reported.{sole_state}
use Rattle.axis_homing.proofs.Room.{on-few}
use Rattle.laws_board.proofs.clocks.Near.{turn_long}
use Rattle.axis_homing.proofs.Rises.{unseen-members}

-- the section of a note
abbrev pub IsNewly : Machine → Option Homing → Type 0
IsNewly m None = Unit {0}
IsNewly m (Some h) = (h.group.start ≡ h.start) × IsNew h.start h.group.last (members_of h.group) h.group × ((b : ℕ) → IsMember b (members_of h.group) → b < length m.boards) × (h.start ≤ h.group.last)

-- the members of a section are boards of the machine
one_within : (b k : ℕ) (endstop some : Bool) (moving : ℕ) → IsMember b (cond some (record { board = k; endstop = endstop; moving = moving } ∷ []) []) → b ≡ k
one_within b k endstop true moving (inl e) = sym e
one_within b k endstop true moving (inr x) = absurd x
one_within b k endstop false moving x = absurd x

either_member : (b : ℕ) (xs ys : List Member) → IsMember b (xs ++ ys) → IsMember b xs ⊎ IsMember b ys
either_member b [] ys k = inr k
either_member b (x ∷ xs) ys (inl e) = inl (inl e)
either_member b (x ∷ xs) ys (inr k) = elim (either_member b xs ys k) [ inl a ↦ inl (inr a) | inr z ↦ inr z ]

members_within : (m : Machine) (axis : AxisDef) (moving b k : ℕ) (boards : List BoardDef) → IsMember b (members_from m axis moving k boards) → b < k + length boards
members_within m axis moving b k [] x = absurd x
members_within m axis moving b k (d ∷ boards) x =
    elim (either_member b (member_where k (axis.board == k) (moving_on k moving m.steppers)) (members_from m axis moving (k + 1) boards) x) [
      | inl one ↦ (let e = one_within b k (axis.board == k) ((axis.board == k) || nat_lt 0 (moving_on k moving m.steppers)) (moving_on k moving m.steppers) one in omega (arith, e))
      | inr more ↦ (let l = members_within m axis moving b (k + 1) boards more in omega (arith, l))
    ]

may_order : (xs : List Seen) (start last : ℕ) → may_be xs start last ≡ true → start ≤ last
may_order xs start last e =
    let parts = both_parts (nat_le 254 start) _ e in
    let order = (both_parts (nat_le start last) _ parts.1).0 in
    elim (leb_tells start last) [ inl p ↦ p.1 | inr p ↦ absurd (let bad : false ≡ true = sym p.0 ∙ order in cc) ]

begun_if : (m : Machine) (c : Bool) (section axis turn last : ℕ) (ms : List Member) → ((b : ℕ) → IsMember b ms → b < length m.boards) → (c ≡ true → turn ≤ last) → IsNewly m (homing_with section axis turn (cond c (Some (new_group ms turn last)) None))
begun_if m true section axis turn last ms within order =
    (refl, record { begins = refl; ends = refl; unheard = ap (map unseen) (sym (unseen-members ms)); calm = refl }, λ b on. within b (subst (IsMember b) (unseen-members ms) on), order refl)
begun_if m false section axis turn last ms within order = tt

begun_newly : (m : Machine) (section : ℕ) (kind : SectionKind) (turn last moving : ℕ) → IsNewly m (homing_of m section kind turn last moving)
begun_newly m section Moves turn last moving = tt
begun_newly m section (Home axis) turn last moving =
    let ms = members_from m (axis_at m axis) moving 0 m.boards in
    begun_if m (may_be (map unseen ms) turn last) section axis turn last ms (λ b on. (let l = members_within m (axis_at m axis) moving b 0 m.boards on in omega (arith, l))) (may_order (map unseen ms) turn last)

pub some_or_none : (ns : List NoteNews) → BeginsSome ns ⊎ BeginsNone ns
some_or_none [] = inr tt
some_or_none (news.Start section kind turn last moving ∷ ns) = inl tt
some_or_none (news.Done section turn ∷ ns) = some_or_none ns
some_or_none (news.Read x sections ∷ ns) = some_or_none ns
some_or_none (news.Line board line from ∷ ns) = some_or_none ns

all_newly : (m : Machine) (ns : List NoteNews) (r : Known) → BeginsSome ns → IsNewly m (told_all m ns r).homing
all_newly m [] r k = absurd k
all_newly m (news.Start section kind turn last moving ∷ ns) r k =
    let n = known_behind m r (news.Start section kind turn last moving) in
    elim (some_or_none ns) [ inl more ↦ all_newly m ns n more | inr calm ↦ subst (IsNewly m) (sym (all_none m ns n calm)) (begun_newly m section kind turn last moving) ]
all_newly m (news.Done section turn ∷ ns) r k = all_newly m ns (known_behind m r (news.Done section turn)) k
all_newly m (news.Read x sections ∷ ns) r k = all_newly m ns (known_behind m r (news.Read x sections)) k
all_newly m (news.Line board line from ∷ ns) r k = all_newly m ns (known_behind m r (news.Line board line from)) k

pub noted_newly : (m : Machine) (note : Option Note) (r : Known) → BeginsSome (news_of note) → IsNewly m (noted m note r).homing
noted_newly m None r k = absurd k
noted_newly m (Some note) r k = all_newly m note.news r k

pub noted_new : (m : Machine) (switches : List Switch) (c : Came) (before : List Came) (h : Homing) → BeginsSome (news_of c.note) → (noted m c.note (known_by m switches before)).homing ≡ Some h → AreOfTurn (length before) c.states → length before < h.start
    → IsNewIn m switches h.start h.group.last (members_of h.group) c before
noted_new m switches c before h begins is of early =
    let n = noted m c.note (known_by m switches before) in
    let x : IsNewly m (Some h) = subst (IsNewly m) is (noted_newly m c.note (known_by m switches before) begins) in
    let new = x.1 in
    let same = unheard n.clocks 0 h.start (length before) c.states h.group of early in (
      h,
      is,
      record {
        begins = ap (λ (g : GroupState). g.start) same ∙ new.begins;
        ends = ap (λ (g : GroupState). g.last) same ∙ new.ends;
        unheard = ap (λ (g : GroupState). g.members) same ∙ new.unheard;
        calm = ap (λ (g : GroupState). g.relay) same ∙ new.calm;
      },
    )

-- a board whose clock lines track it
pub drift_small : (d : ℤ) → negsuc 199 ≤ℤ d → d ≤ℤ pos 200 → ppm_size d ≤ 200
drift_small (pos n) low high = omega (arith, ints, high)
drift_small (negsuc n) low high = omega (arith, ints, low)

pub board_followed : (m : Machine) (b : ℕ) (clocks : Clocks) (ready start last till : ℕ) → IsValidMachine m → b < length m.boards → (k : AreTracked (λ n. board_tick (clock_of (board_at m b)) n) clocks ready) → ready + 5 ≤ start → start ≤ last → min (last + 1) till ≤ k.until → k.until < run_turns
    → IsFollowed m b clocks ready start last till
board_followed m b clocks ready start last till v within k begins goes ends in_run =
    let valid = v.boards b _ within in
    let freq = valid.freq in
    let low = freq.low in
    let drift = drift_small (board_at m b).drift valid.drift_low valid.drift_high in
    let few = on-few b m.steppers in
    let most = v.steppers_few in
    record {
      tracked = k;
      begins = begins;
      goes = goes;
      ends = ends;
      in_run = in_run;
      ticks = valid_ticks (board_at m b) valid;
      rises = λ u. turn_long (clock_of (board_at m b)) u freq drift;
      reports = λ u. board_reports (clock_of (board_at m b)) u freq drift;
      trigger = omega (arith, few, most);
      spaced = omega (arith, low);
    }

-- the states that come are of the turn before
some_state : (b : ℕ) (states : List State) (s : State) → state_at b states ≡ s ∷ [] → b < length states
some_state b [] s e = absurd (let bad : [] ≡ s ∷ [] = e in cc)
some_state zero (x ∷ states) s e = omega arith
some_state (suc b) (x ∷ states) s e = let rest = some_state b states s e in omega (arith, rest)

no_first : (s : State) → [] ≡ s ∷ [] → ⊥
no_first s e = cc

latest_turn : (clock : BoardClock) (first : LinkState) (turns : List BoardTurn) (s : State) → AreBoardTurns clock first turns → latest_state turns ≡ s ∷ [] → s.turn + 1 ≡ length turns
latest_turn clock first [] s are e = absurd (no_first s e)
latest_turn clock first (t ∷ turns) s are e =
    let same = sole_state t.state s e in
    let turn : t.state.turn ≡ length turns = are.0.1.turn in
    let is : t.state.turn ≡ s.turn = ap (λ (x : State). x.turn) same in
    omega (arith, turn, is)

pub states_of_turn : (m : Machine) (switches : List Switch) (pins : ℕ → List (List Level)) (entries : List Entry) (c : Came) (before : List Came) (all : List (ℕ → BoardTurn)) → HaveStates m (c ∷ before)
    → ((b : ℕ) → b < length m.boards → IsInRun m switches (pins b) entries b before (turns_of b all) × (state_at b c.states ≡ latest_state (turns_of b all))) → AreOfTurn (length before) c.states
states_of_turn m switches pins entries c [] all have runs b s is = absurd (no_first s (sym (ap (state_at b) have) ∙ is))
states_of_turn m switches pins entries c (d ∷ before) all have runs b s is =
    let size = have.0 in
    let within = some_state b c.states s is in
    let x = runs b (omega (arith, size, within)) in
    let long = as_long m switches b (d ∷ before) (turns_of b all) x.0.both in
    let turn = latest_turn (clock_of (board_at m b)) (first_state (board_at m b) (pins b) b entries) (turns_of b all) s x.0.turns_are (sym x.1 ∙ is) in
    omega (arith, long, turn)
