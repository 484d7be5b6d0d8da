-- The askings in a row of a board that drifts, which are unanswered.
use Rattle.std.proofs.Common.{◌≡◌, ℕ, suc, ◌+◌, ◌-◌, ◌%◌, ◌^◌, ◌<◌, ◌≤◌, ◌⊎◌, inl, inr, Bool, true, false, cond, not, List, [], ◌∷◌, ◌++◌, length, Option, Some, None, refl, ap, sym, ◌∙◌, subst, arith}
use Rattle.std.specs.Prelude.{◌==◌, ◌&&◌, nat_lt}
use Rattle.laws_board.proofs.Names.{eqb-true, eqb_tells, leb_tells, Level, Machine, clock_of, axis_at, board_at, Cmd, State, Control, Entry, Switch, Asking, ready, asks_now, clock_question, drifts, waits_in, configuration, homing_turn, Known, Connecting, Stopping, noted, Reacted, homing_commands, stop_command, stops, Came, known_by, last_reacted, BoardClock, first_state, LinkState, Phase}
use Rattle.std.proofs.lemmas.Bool.{lt-leb}
use Rattle.msg_code.specs.declared.cmd.Cmd.TheVariants as cmd
use Rattle.board_asking.specs.Asking.{is_connected, is_in_time, is_out, more, new_asking}
use Rattle.board_asking.specs.Drift.{after_question, bytes_of, is_asked_now, is_unanswered}
use Rattle.board_asking.specs.Machine.{control_bytes}
use Rattle.host_reactor.specs.declared.ordered.Phase.TheVariants.{Running}
use Rattle.host_reactor.specs.Laws.{uptimes}
use Rattle.host_reactor.specs.Reactor.{phase_after}
use Rattle.host_reactor.proofs.Uptimes.{append as uptimes_append, commands-none}
use Rattle.laws_board.specs.turns.Turns.{AreBoardTurns, BoardTurn, IsBoardOf, latest_state}
use Rattle.laws_board.specs.clocks.Runs.{IsInRun}
use Rattle.laws_board.proofs.clocks.Lines.{as_long, noted_phase, run_before, turn_of}
use Rattle.laws_board.proofs.clocks.Turning.{Asks, BoardRuns, BoardTurned, Ends, Runs, asking_at, heard_now, new_at}
use Rattle.laws_board.specs.causes.Causes.{AreInRow, AsksNone, AsksNoneBetween, before_turn, came_by_turn}
use Rattle.laws_board.proofs.causes.Running.{IsSettled, Rests, Stays, heard_either, heard_late, heard_waits, settled_asks, settled_now, settled_ready}
use Rattle.laws_board.proofs.causes.Turns.{before_all, before_less, came_behind}
use Rattle.plan_types.proofs.Facts.{first_of_both}
use Rattle.laws_board.proofs.causes.Told.{one_of, still_running}
use Rattle.host_reactor.proofs.Connects.{not-running}
use Rattle.host_reactor.proofs.Once.{stop-none}

-- a board behind some turns of a run
pub record Behind (m : Machine) (switches : List Switch) (pins : List (List Level)) (entries : List Entry) (b : ℕ) (all : List Came) (turns : List BoardTurn) (y : Asking) : Type 0 where
  pub came : List Came
  pub run : IsInRun m switches pins entries b came turns
  pub is : came ≡ came_by_turn (length turns) all
  pub at : asking_at b (known_by m switches came).askings.items ≡ y ∷ []
  pub connected : is_connected y.stage ≡ true

-- the asking of turn k is out behind these turns, and what the latest of them told doesn't answer it
pub record IsStill (m : Machine) (switches : List Switch) (pins : List (List Level)) (entries : List Entry) (b : ℕ) (all : List Came) (k : ℕ) (turns : List BoardTurn) : Type 0 where
  pub y : Asking
  pub behind : Behind m switches pins entries b all turns y
  pub since : y.since ≡ Some k
  pub after : (heard_now y (latest_state turns)).since ≡ Some k

-- in the latest of these turns the board was asked for its clock, or it wasn't
pub record AsksSo (commands : List Cmd) : Type 0 where
  pub homing : List Cmd
  pub stop : List Cmd
  pub are : commands ≡ homing ++ (cmd.GetUptime ∷ stop)
  pub none_before : uptimes homing ≡ 0
  pub none_behind : uptimes stop ≡ 0

abbrev pub AskedIn : List BoardTurn → Type 0
AskedIn [] = ⊥
AskedIn (t ∷ turns) = AsksSo t.control.commands

-- the asking of turn k, which so many states didn't answer
pub record Part (m : Machine) (switches : List Switch) (pins : List (List Level)) (entries : List Entry) (b : ℕ) (all : List Came) (turns : List BoardTurn) (k n : ℕ) : Type 0 where
  pub asked : AskedIn (before_turn (k + 1) turns)
  pub quiet : (j : ℕ) → 1 ≤ j → j ≤ 3 → k + j < length turns → AsksNone (before_turn (k + j + 1) turns)
  pub still : (j : ℕ) → j < n → IsStill m switches pins entries b all k (before_turn (k + j + 1) turns)

abbrev pub AllParts : Machine → List Switch → List (List Level) → List Entry → ℕ → List Came → List BoardTurn → List ℕ → Type 0
AllParts m switches pins entries b all turns [] = Unit {0}
AllParts m switches pins entries b all turns (k ∷ ks) = (Part m switches pins entries b all turns k 4 × (k + 4 ≤ length turns)) × AllParts m switches pins entries b all turns ks

-- one turn more
same_before : (k : ℕ) (t : BoardTurn) (turns : List BoardTurn) (P : List BoardTurn → Type 0) → k ≤ length turns → P (before_turn k turns) → P (before_turn k (t ∷ turns))
same_before k t turns P h p = subst P (sym (before_less k t turns h)) p

part_more : (m : Machine) (switches : List Switch) (pins : List (List Level)) (entries : List Entry) (b : ℕ) (all : List Came) (t : BoardTurn) (turns : List BoardTurn) (k : ℕ) → k + 4 ≤ length turns
    → Part m switches pins entries b all turns k 4 → Part m switches pins entries b all (t ∷ turns) k 4
part_more m switches pins entries b all t turns k h p = record {
  asked = same_before (k + 1) t turns AskedIn (omega arith) p.asked;
  quiet = λ j low high l. same_before (k + j + 1) t turns AsksNone (omega arith) (p.quiet j low high (omega arith));
  still = λ j l. same_before (k + j + 1) t turns (λ (x : List BoardTurn). IsStill m switches pins entries b all k x) (omega arith) (p.still j l);
}

parts_more : (m : Machine) (switches : List Switch) (pins : List (List Level)) (entries : List Entry) (b : ℕ) (all : List Came) (t : BoardTurn) (turns : List BoardTurn) (ks : List ℕ)
    → AllParts m switches pins entries b all turns ks → AllParts m switches pins entries b all (t ∷ turns) ks
parts_more m switches pins entries b all t turns [] a = tt
parts_more m switches pins entries b all t turns (k ∷ ks) a =
    let long = a.0.1 in
    ((part_more m switches pins entries b all t turns k a.0.1 a.0.0, omega arith), parts_more m switches pins entries b all t turns ks a.1)

-- a row up to its latest asking
abbrev pub RowTo : ℕ → ℕ → List ℕ → Type 0
RowTo first s [] = s ≡ first
RowTo first s (k ∷ ks) = AreInRow first s (k ∷ ks)

pub row_until : (first s until : ℕ) (ks : List ℕ) → s + 4 ≤ until → RowTo first s ks → AreInRow first until (s ∷ ks)
row_until first s until [] h r = (r, h)
row_until first s until (k ∷ ks) h r = (h, r)

row_longer : (first u v : ℕ) (ks : List ℕ) → u ≤ v → AreInRow first u ks → AreInRow first v ks
row_longer first u v [] h r = r
row_longer first u v (k ∷ []) h r = let l = r.1 in (r.0, omega arith)
row_longer first u v (k ∷ (l ∷ ks)) h r = let q = r.0 in (omega arith, r.1)

some_row : (first u : ℕ) (ks : List ℕ) → AreInRow first u ks → 1 ≤ length ks
some_row first u [] r = absurd r
some_row first u (k ∷ ks) r = omega arith

row_to : (first u : ℕ) (ks : List ℕ) → AreInRow first u ks → RowTo first u ks
row_to first u [] r = absurd r
row_to first u (k ∷ ks) r = r

-- the turns between
abbrev AllBelow : ℕ → List ℕ → Type 0
AllBelow n [] = Unit {0}
AllBelow n (k ∷ ks) = (k ≤ n) × AllBelow n ks

parts_below : (m : Machine) (switches : List Switch) (pins : List (List Level)) (entries : List Entry) (b : ℕ) (all : List Came) (turns : List BoardTurn) (ks : List ℕ)
    → AllParts m switches pins entries b all turns ks → AllBelow (length turns) ks
parts_below m switches pins entries b all turns [] a = tt
parts_below m switches pins entries b all turns (k ∷ ks) a = let h = a.0.1 in (omega arith, parts_below m switches pins entries b all turns ks a.1)

none_more : (t : BoardTurn) (turns : List BoardTurn) (until : ℕ) (ks : List ℕ) → until ≤ length turns → AllBelow (length turns) ks → AsksNoneBetween turns until ks → AsksNoneBetween (t ∷ turns) until ks
none_more t turns until [] h below n = tt
none_more t turns until (k ∷ ks) h below n = (λ i low high. same_before (i + 1) t turns AsksNone (omega arith) (n.0 i low high), none_more t turns k ks below.0 below.1 n.1)

none_until : (t : BoardTurn) (turns : List BoardTurn) (ks : List ℕ) → AsksNone (t ∷ turns) → AsksNoneBetween (t ∷ turns) (length turns) ks → AsksNoneBetween (t ∷ turns) (length (t ∷ turns)) ks
none_until t turns [] q n = tt
none_until t turns (k ∷ ks) q n = (
  λ i low high. elim (leb_tells (i + 1) (length turns)) [
    | inl p ↦ let h = p.1 in n.0 i low (omega arith)
    | inr p ↦ let h = p.1 in subst AsksNone (sym (before_all (i + 1) (t ∷ turns) (omega arith))) q
  ],
  n.1,
)

pub none_in_four : (m : Machine) (switches : List Switch) (pins : List (List Level)) (entries : List Entry) (b : ℕ) (all : List Came) (turns : List BoardTurn) (s n : ℕ) → Part m switches pins entries b all turns s n → s + 4 ≡ length turns
    → (i : ℕ) → s < i → i < length turns → AsksNone (before_turn (i + 1) turns)
none_in_four m switches pins entries b all turns s n p e i low high =
    let same : s + (i - s) + 1 ≡ i + 1 = omega arith in
    subst (λ (x : ℕ). AsksNone (before_turn x turns)) same (p.quiet (i - s) (omega arith) (omega arith) (omega arith))

-- an asking that is out in its four turns, and one that waits for room
pub record OutSo (m : Machine) (switches : List Switch) (pins : List (List Level)) (entries : List Entry) (b : ℕ) (all : List Came) (turns : List BoardTurn) (y : Asking) : Type 0 where
  pub s : ℕ
  pub n : ℕ
  pub ks : List ℕ
  pub since : y.since ≡ Some s
  pub waits : y.waits ≡ false
  pub missed : y.missed ≡ length ks
  pub few : length ks ≤ length turns
  pub row : RowTo y.first s ks
  pub now : s + n + 1 ≡ length turns
  pub short : n ≤ 3
  pub between : AsksNoneBetween turns s ks
  pub early : 1_000 ≤ y.first
  pub part : Part m switches pins entries b all turns s n
  pub parts : AllParts m switches pins entries b all turns ks

pub record WaitsSo (m : Machine) (switches : List Switch) (pins : List (List Level)) (entries : List Entry) (b : ℕ) (all : List Came) (turns : List BoardTurn) (y : Asking) : Type 0 where
  pub s : ℕ
  pub ks : List ℕ
  pub since : y.since ≡ Some s
  pub waits : y.waits ≡ true
  pub missed : y.missed ≡ length ks
  pub few : length ks ≤ length turns
  pub row : AreInRow y.first (length turns) ks
  pub late : s + 5 ≤ length turns
  pub between : AsksNoneBetween turns (length turns) ks
  pub early : 1_000 ≤ y.first
  pub parts : AllParts m switches pins entries b all turns ks

-- nothing is out; and what waits is asked in turn 1000 or later
pub record IdleSo (turns : List BoardTurn) (y : Asking) : Type 0 where
  pub rests : Rests y
  pub early : y.waits ≡ true → 1_000 ≤ length turns

abbrev pub Chain : Machine → List Switch → List (List Level) → List Entry → ℕ → List Came → List BoardTurn → Asking → Type 0
Chain m switches pins entries b all turns y = IdleSo turns y ⊎ (OutSo m switches pins entries b all turns y ⊎ WaitsSo m switches pins entries b all turns y)

-- what a turn asks
pub record AsksNow (k : ℕ) (w y : Asking) (commands : List Cmd) : Type 0 where
  pub waited : w.waits ≡ true
  pub asks : AsksSo commands
  pub since : y.since ≡ Some k
  pub first : y.first ≡ cond (w.missed == 0) k w.first
  pub missed : y.missed ≡ w.missed
  pub waits : y.waits ≡ false

pub record AsksNot (w y : Asking) (commands : List Cmd) : Type 0 where
  pub quiet : uptimes commands ≡ 0
  pub same : y ≡ w

asked_by : (b : Bool) (k : ℕ) (homing stop : List Cmd) (w : Asking) → (b ≡ true → w.waits ≡ true) → uptimes homing ≡ 0 → uptimes stop ≡ 0
    → AsksNow k w (cond b (record w { since = Some k; first = cond (w.missed == 0) k w.first; owed = more w.owed; waits = false }) w) (homing ++ (cond b (cmd.GetUptime ∷ []) [] ++ stop))
    ⊎ ((b ≡ false) × AsksNot w (cond b (record w { since = Some k; first = cond (w.missed == 0) k w.first; owed = more w.owed; waits = false }) w) (homing ++ (cond b (cmd.GetUptime ∷ []) [] ++ stop)))
asked_by true k homing stop w f h s = inl (record {
  waited = f refl;
  asks = record { homing = homing; stop = stop; are = refl; none_before = h; none_behind = s };
  since = refl;
  first = refl;
  missed = refl;
  waits = refl;
})
asked_by false k homing stop w f h s = inr (refl, record { quiet = omega (arith, uptimes_append homing stop); same = refl })

-- the turn of a board that runs
pub record Turn (m : Machine) (b k : ℕ) (a y : Asking) (commands : List Cmd) : Type 0 where
  pub homing : List Cmd
  pub does : AsksNow k (waits_in (drifts (board_at m b).drift) k a) y commands
      ⊎ ((asks_now homing (waits_in (drifts (board_at m b).drift) k a) ≡ false) × AsksNot (waits_in (drifts (board_at m b).drift) k a) y commands)

-- what waits behind a turn's states
idle_if : (u n : Bool) (x y a : Asking) → u ≡ false → Rests y → Rests a → Rests (cond u x (cond n y a))
idle_if false true x y a e r q = r
idle_if false false x y a e r q = q
idle_if true n x y a e r q = cc

waits_idle : (d : Bool) (k : ℕ) (a : Asking) → Rests a → Rests (waits_in d k a)
waits_idle d k a r =
    let none : is_unanswered k a.since ≡ false = ap (is_unanswered k) r.since in
    idle_if (is_unanswered k a.since) (is_asked_now d k a.since) (record a { missed = more a.missed; waits = true }) (record a { waits = true }) a none (record { since = r.since; missed = r.missed }) r

not_now : (d out : Bool) (x : Bool) → out ≡ true → (d && (not out && x)) ≡ false
not_now true out x e = ap (λ (o : Bool). not o && x) e
not_now false out x e = refl

pub not_four : (k s : ℕ) → (k ≤ s + 3) ⊎ (s + 5 ≤ k) → (k - s == 4) ≡ false
not_four k s h = elim (eqb_tells (k - s) 4) [
  | inl p ↦ let q = p.1 in elim h [ inl l ↦ absurd (omega arith) | inr l ↦ absurd (omega arith) ]
  | inr p ↦ p.0
]

neither : (u n : Bool) (x y a : Asking) → u ≡ false → n ≡ false → cond u x (cond n y a) ≡ a
neither false false x y a e f = refl
neither false true x y a e f = cc
neither true n x y a e f = cc

pub waits_out : (d : Bool) (k s : ℕ) (a : Asking) → a.since ≡ Some s → (k ≤ s + 3) ⊎ (s + 5 ≤ k) → waits_in d k a ≡ a
waits_out d k s a e h =
    neither (is_unanswered k a.since) (is_asked_now d k a.since) (record a { missed = more a.missed; waits = true }) (record a { waits = true }) a (ap (is_unanswered k) e ∙ not_four k s h)
    (not_now d (is_out a.since) (k % 1_000 == 0) (ap is_out e))

pub unanswered_four : (k s : ℕ) (o : Option ℕ) → o ≡ Some s → k ≡ s + 4 → is_unanswered k o ≡ true
unanswered_four k s o e h =
    let four : (k - s == 4) ≡ true = elim (eqb_tells (k - s) 4) [ inl p ↦ p.0 | inr p ↦ absurd (p.1 (omega arith)) ] in
    ap (is_unanswered k) e ∙ four

pub waits_four : (d : Bool) (k s : ℕ) (a : Asking) → a.since ≡ Some s → k ≡ s + 4 → waits_in d k a ≡ record a { missed = more a.missed; waits = true }
waits_four d k s a e h =
    ap (λ (t : Bool). cond t (record a { missed = more a.missed; waits = true }) (cond (is_asked_now d k a.since) (record a { waits = true }) a)) (unanswered_four k s a.since e h)

-- no room is looked for where nothing waits
pub none_asked : (homing : List Cmd) (w : Asking) → w.waits ≡ false → asks_now homing w ≡ false
none_asked homing w e = ap (λ (t : Bool). t && nat_lt (bytes_of homing) control_bytes) e

zero_first : (n k f : ℕ) → n ≡ 0 → cond (n == 0) k f ≡ k
zero_first n k f e = ap (λ (i : ℕ). cond (i == 0) k f) e

some_first : (n k f : ℕ) → 1 ≤ n → cond (n == 0) k f ≡ f
some_first n k f h = elim (eqb_tells n 0) [ inl p ↦ let q = p.1 in absurd (omega arith) | inr p ↦ ap (λ (t : Bool). cond t k f) p.0 ]

-- an asking in this turn begins its four turns
new_part : (m : Machine) (switches : List Switch) (pins : List (List Level)) (entries : List Entry) (b : ℕ) (all : List Came) (t : BoardTurn) (turns : List BoardTurn) → AsksSo t.control.commands
    → Part m switches pins entries b all (t ∷ turns) (length turns) 0
new_part m switches pins entries b all t turns a = record {
  asked = subst AskedIn (sym (before_all (length turns + 1) (t ∷ turns) (omega arith))) a;
  quiet = λ j low high l. absurd (omega arith);
  still = λ j l. absurd (omega arith);
}

first_low : (f g : ℕ) → f ≡ g → 1_000 ≤ g → 1_000 ≤ f
first_low f g e h = omega arith

begins : (m : Machine) (switches : List Switch) (pins : List (List Level)) (entries : List Entry) (b : ℕ) (all : List Came) (t : BoardTurn) (turns : List BoardTurn) (w y : Asking) (ks : List ℕ) → AsksNow (length turns) w y t.control.commands
    → w.missed ≡ length ks → length ks ≤ length turns → RowTo y.first (length turns) ks → 1_000 ≤ y.first → AsksNoneBetween turns (length turns) ks → AllParts m switches pins entries b all turns ks → Chain m switches pins entries b all (t ∷ turns) y
begins m switches pins entries b all t turns w y ks n missed few row early between parts = inr (inl (record {
  s = length turns;
  n = 0;
  ks = ks;
  since = n.since;
  waits = n.waits;
  missed = n.missed ∙ missed;
  few = omega arith;
  row = row;
  now = omega arith;
  short = omega arith;
  between = none_more t turns (length turns) ks (omega arith) (parts_below m switches pins entries b all turns ks parts) between;
  early = early;
  part = new_part m switches pins entries b all t turns n.asks;
  parts = parts_more m switches pins entries b all t turns ks parts;
}))

-- nothing was out
asked_early : (k : ℕ) (d : Bool) (a : Asking) → Rests a → 1 ≤ k → (a.waits ≡ true → 1_000 ≤ k) → (waits_in d k a).waits ≡ true → 1_000 ≤ k
asked_early k d a r some early w =
    let none : is_unanswered k a.since ≡ false = ap (is_unanswered k) r.since in
    let missed = record a { missed = more a.missed; waits = true } in
    either_early (is_unanswered k a.since) (is_asked_now d k a.since) none (λ e. is_thousand k d a.since some e) w
  where
    both_second : (p q : Bool) → (p && q) ≡ true → q ≡ true
    both_second true q e = e
    both_second false q e = cc

    is_thousand : (k : ℕ) (d : Bool) (o : Option ℕ) → 1 ≤ k → is_asked_now d k o ≡ true → 1_000 ≤ k
    is_thousand k d o some e =
        let same : k % 1_000 ≡ 0 = eqb-true (k % 1_000) 0 (both_second (not (is_out o)) (k % 1_000 == 0) (both_second d (not (is_out o) && (k % 1_000 == 0)) e)) in
        omega arith

    either_early : (u n : Bool) → u ≡ false → (n ≡ true → 1_000 ≤ k) → (cond u (record a { missed = more a.missed; waits = true }) (cond n (record a { waits = true }) a)).waits ≡ true → 1_000 ≤ k
    either_early false true e f w = f refl
    either_early false false e f w = early w
    either_early true n e f w = cc

from_rest : (m : Machine) (switches : List Switch) (pins : List (List Level)) (entries : List Entry) (b : ℕ) (all : List Came) (t : BoardTurn) (turns : List BoardTurn) (a y : Asking) → 1 ≤ length turns → Rests a
    → (a.waits ≡ true → 1_000 ≤ length turns) → Turn m b (length turns) a y t.control.commands → Chain m switches pins entries b all (t ∷ turns) y
from_rest m switches pins entries b all t turns a y some r early x =
    let k = length turns in
    let d = drifts (board_at m b).drift in
    let w = waits_in d k a in
    let rest = waits_idle d k a r in
    let low = λ (e : w.waits ≡ true). asked_early k d a r some early e in
    elim x.does [
      | inl n ↦
          let first : y.first ≡ k = n.first ∙ zero_first w.missed k w.first rest.missed in
          let thousand = low n.waited in
          begins m switches pins entries b all t turns w y [] n rest.missed (omega arith) (sym first) (omega arith) tt tt
      | inr q ↦
          let same = q.1.same in
          inl (record {
            rests = record { since = ap (λ (z : Asking). z.since) same ∙ rest.since; missed = ap (λ (z : Asking). z.missed) same ∙ rest.missed };
            early = λ e. let thousand = low (ap (λ (z : Asking). z.waits) (sym same) ∙ e) in omega arith;
          })
    ]

-- an asking stays out for a turn more
longer_part : (m : Machine) (switches : List Switch) (pins : List (List Level)) (entries : List Entry) (b : ℕ) (all : List Came) (t : BoardTurn) (turns : List BoardTurn) (s n : ℕ) → s + n + 1 ≡ length turns
    → Part m switches pins entries b all turns s n → IsStill m switches pins entries b all s turns → (n + 1 ≤ 3 → AsksNone (t ∷ turns)) → Part m switches pins entries b all (t ∷ turns) s (n + 1)
longer_part m switches pins entries b all t turns s n now p still quiet = record {
  asked = same_before (s + 1) t turns AskedIn (omega arith) p.asked;
  quiet = λ j low high l. elim (leb_tells (s + j + 1) (length turns)) [
    | inl q ↦ let h = q.1 in same_before (s + j + 1) t turns AsksNone q.1 (p.quiet j low high (omega arith))
    | inr q ↦ let h = q.1 in subst AsksNone (sym (before_all (s + j + 1) (t ∷ turns) (omega arith))) (quiet (omega arith))
  ];
  still = λ j l. elim (leb_tells (j + 1) n) [
    | inl q ↦ let h = q.1 in same_before (s + j + 1) t turns (λ (x : List BoardTurn). IsStill m switches pins entries b all s x) (omega arith) (p.still j (omega arith))
    | inr q ↦ let h = q.1 in
        let whole : before_turn (s + j + 1) turns ≡ turns = before_all (s + j + 1) turns (omega arith) in
        same_before (s + j + 1) t turns (λ (x : List BoardTurn). IsStill m switches pins entries b all s x) (omega arith) (subst (λ (x : List BoardTurn). IsStill m switches pins entries b all s x) (sym whole) still)
  ];
}

-- the last state of four
pub last_part : (m : Machine) (switches : List Switch) (pins : List (List Level)) (entries : List Entry) (b : ℕ) (all : List Came) (turns : List BoardTurn) (s : ℕ) → s + 4 ≡ length turns
    → Part m switches pins entries b all turns s 3 → IsStill m switches pins entries b all s turns → Part m switches pins entries b all turns s 4
last_part m switches pins entries b all turns s now p still = record {
  asked = p.asked;
  quiet = p.quiet;
  still = λ j l. elim (leb_tells (j + 1) 3) [
    | inl q ↦ let h = q.1 in p.still j (omega arith)
    | inr q ↦ let h = q.1 in
        let whole : before_turn (s + j + 1) turns ≡ turns = before_all (s + j + 1) turns (omega arith) in
        subst (λ (x : List BoardTurn). IsStill m switches pins entries b all s x) (sym whole) still
  ];
}

from_out : (m : Machine) (switches : List Switch) (pins : List (List Level)) (entries : List Entry) (b : ℕ) (all : List Came) (t : BoardTurn) (turns : List BoardTurn) (z a y : Asking) → length turns < 2 ^ 59 → Behind m switches pins entries b all turns z
    → a ≡ heard_now z (latest_state turns) → Stays a z → OutSo m switches pins entries b all turns z → Turn m b (length turns) a y t.control.commands → Chain m switches pins entries b all (t ∷ turns) y
from_out m switches pins entries b all t turns z a y small behind is stays o x =
    let k = length turns in
    let d = drifts (board_at m b).drift in
    let w = waits_in d k a in
    let now = o.now in
    let short = o.short in
    let few = o.few in
    let since : a.since ≡ Some o.s = stays.since ∙ o.since in
    let still : IsStill m switches pins entries b all o.s turns = record { y = z; behind = behind; since = o.since; after = ap (λ (q : Asking). q.since) (sym is) ∙ since } in
    let missed : a.missed ≡ length o.ks = stays.missed ∙ o.missed in
    elim (leb_tells (o.n + 1) 3) [
      | inl p ↦
          let h = p.1 in
          let same : w ≡ a = waits_out d k o.s a since (inl (omega arith)) in
          let not : w.waits ≡ false = ap (λ (q : Asking). q.waits) same ∙ stays.waits ∙ o.waits in
          elim x.does [
            | inl n ↦ let never : true ≡ false = sym n.waited ∙ not in cc
            | inr q ↦
                let whole : y ≡ a = q.1.same ∙ same in
                inr (inl (record {
                  s = o.s;
                  n = o.n + 1;
                  ks = o.ks;
                  since = ap (λ (v : Asking). v.since) whole ∙ since;
                  waits = ap (λ (v : Asking). v.waits) whole ∙ stays.waits ∙ o.waits;
                  missed = ap (λ (v : Asking). v.missed) whole ∙ missed;
                  few = omega arith;
                  row = subst (λ (f : ℕ). RowTo f o.s o.ks) (sym (ap (λ (v : Asking). v.first) whole ∙ stays.first)) o.row;
                  now = omega arith;
                  short = omega arith;
                  between = none_more t turns o.s o.ks (omega arith) (parts_below m switches pins entries b all turns o.ks o.parts) o.between;
                  early = first_low y.first z.first (ap (λ (v : Asking). v.first) whole ∙ stays.first) o.early;
                  part = longer_part m switches pins entries b all t turns o.s o.n o.now o.part still (λ l. q.1.quiet);
                  parts = parts_more m switches pins entries b all t turns o.ks o.parts;
                }))
          ]
      | inr p ↦
          let h = p.1 in
          let same = waits_four d k o.s a since (omega arith) in
          let more_missed : w.missed ≡ length (o.s ∷ o.ks) = ap (λ (q : Asking). q.missed) same ∙ more_is a.missed (length o.ks) missed (omega arith) in
          let first : w.first ≡ z.first = ap (λ (q : Asking). q.first) same ∙ stays.first in
          let row : AreInRow z.first k (o.s ∷ o.ks) = row_until z.first o.s k o.ks (omega arith) o.row in
          let four : o.n + 1 ≡ 4 = omega arith in
          let part : Part m switches pins entries b all (t ∷ turns) o.s 4 = subst (λ (i : ℕ). Part m switches pins entries b all (t ∷ turns) o.s i) four
          (longer_part m switches pins entries b all t turns o.s o.n o.now o.part still (λ l. absurd (omega arith))) in
          let parts : AllParts m switches pins entries b all (t ∷ turns) (o.s ∷ o.ks) = ((part, omega arith), parts_more m switches pins entries b all t turns o.ks o.parts) in
          let below = parts_below m switches pins entries b all turns o.ks o.parts in
          let between : AsksNoneBetween (t ∷ turns) k (o.s ∷ o.ks) = (
            λ i low high. same_before (i + 1) t turns AsksNone (omega arith) (none_in_four m switches pins entries b all turns o.s o.n o.part (omega arith) i low high),
            none_more t turns o.s o.ks (omega arith) below o.between,
          ) in
          elim x.does [
            | inl n ↦
                let own : y.first ≡ z.first = n.first ∙ some_first w.missed k w.first (omega (arith, more_missed)) ∙ first in
                inr (inl (record {
                  s = k;
                  n = 0;
                  ks = o.s ∷ o.ks;
                  since = n.since;
                  waits = n.waits;
                  missed = n.missed ∙ more_missed;
                  few = omega arith;
                  row = subst (λ (f : ℕ). AreInRow f k (o.s ∷ o.ks)) (sym own) row;
                  now = omega arith;
                  short = omega arith;
                  between = between;
                  early = first_low y.first z.first own o.early;
                  part = new_part m switches pins entries b all t turns n.asks;
                  parts = parts;
                }))
            | inr q ↦
                let whole = q.1.same in
                inr (inr (record {
                  s = o.s;
                  ks = o.s ∷ o.ks;
                  since = ap (λ (v : Asking). v.since) (whole ∙ same) ∙ since;
                  waits = ap (λ (v : Asking). v.waits) (whole ∙ same);
                  missed = ap (λ (v : Asking). v.missed) whole ∙ more_missed;
                  few = omega arith;
                  row = subst (λ (f : ℕ). AreInRow f (length (t ∷ turns)) (o.s ∷ o.ks)) (sym (ap (λ (v : Asking). v.first) whole ∙ first)) (row_longer z.first k (length (t ∷ turns)) (o.s ∷ o.ks) (omega arith) row);
                  late = omega arith;
                  between = none_until t turns (o.s ∷ o.ks) q.1.quiet between;
                  early = first_low y.first z.first (ap (λ (v : Asking). v.first) whole ∙ first) o.early;
                  parts = parts;
                }))
          ]
    ]
  where
    more_is : (n i : ℕ) → n ≡ i → i < 2 ^ 59 → more n ≡ suc i
    more_is n i e h = omega arith

-- an asking that waits for room
from_waits : (m : Machine) (switches : List Switch) (pins : List (List Level)) (entries : List Entry) (b : ℕ) (all : List Came) (t : BoardTurn) (turns : List BoardTurn) (z a y : Asking)
    → Stays a z → WaitsSo m switches pins entries b all turns z → Turn m b (length turns) a y t.control.commands → Chain m switches pins entries b all (t ∷ turns) y
from_waits m switches pins entries b all t turns z a y stays o x =
    let k = length turns in
    let d = drifts (board_at m b).drift in
    let w = waits_in d k a in
    let late = o.late in
    let few = o.few in
    let since : a.since ≡ Some o.s = stays.since ∙ o.since in
    let same : w ≡ a = waits_out d k o.s a since (inr (omega arith)) in
    let missed : w.missed ≡ length o.ks = ap (λ (v : Asking). v.missed) same ∙ stays.missed ∙ o.missed in
    let first : w.first ≡ z.first = ap (λ (v : Asking). v.first) same ∙ stays.first in
    let some = some_row z.first k o.ks o.row in
    elim x.does [
      | inl n ↦
          let own : y.first ≡ z.first = n.first ∙ some_first w.missed k w.first (omega (arith, missed)) ∙ first in
          begins m switches pins entries b all t turns w y o.ks n missed o.few (subst (λ (f : ℕ). RowTo f k o.ks) (sym own) (row_to z.first k o.ks o.row)) (first_low y.first z.first own o.early) o.between o.parts
      | inr q ↦
          let whole = q.1.same in
          inr (inr (record {
            s = o.s;
            ks = o.ks;
            since = ap (λ (v : Asking). v.since) (whole ∙ same) ∙ since;
            waits = ap (λ (v : Asking). v.waits) (whole ∙ same) ∙ stays.waits ∙ o.waits;
            missed = ap (λ (v : Asking). v.missed) whole ∙ missed;
            few = omega arith;
            row = subst (λ (f : ℕ). AreInRow f (length (t ∷ turns)) o.ks) (sym (ap (λ (v : Asking). v.first) whole ∙ first)) (row_longer z.first k (length (t ∷ turns)) o.ks (omega arith) o.row);
            late = omega arith;
            between = none_until t turns o.ks q.1.quiet (none_more t turns k o.ks (omega arith) (parts_below m switches pins entries b all turns o.ks o.parts) o.between);
            early = first_low y.first z.first (ap (λ (v : Asking). v.first) whole ∙ first) o.early;
            parts = parts_more m switches pins entries b all t turns o.ks o.parts;
          }))
    ]

runs_so : (m : Machine) (r : Known) (b k : ℕ) (states : List State) (a : Asking) (x : Reacted) (c : Control) (y : Asking) → BoardRuns m r b k states a x c → asking_at b x.known.askings.items ≡ y ∷ [] → Turn m b k a y c.commands
runs_so m r b k states a x c y g at =
    let w = waits_in (drifts (board_at m b).drift) k a in
    let turn = homing_turn r.clocks k states r.homing in
    let homing = homing_commands m turn g.own b in
    let stop = stop_command (stops g.stop) in
    let done = asked_by (asks_now homing w) k homing stop w (first_of_both w.waits (nat_lt (bytes_of homing) control_bytes)) (commands-none m g.own b turn.start (axis_at m turn.axis) turn.ctls.items) (stop-none (stops g.stop)) in
    let whole : after_question k homing w ≡ y = one_of _ y (sym g.asking ∙ at) in
    let commands : homing ++ (clock_question homing w ++ stop) ≡ c.commands = ap (λ (z : Control). z.commands) (sym g.control_is) in
    record {
      homing = homing;
      does = subst (λ (z : Asking). AsksNow k w z c.commands ⊎ ((asks_now homing w ≡ false) × AsksNot w z c.commands)) whole
          (subst (λ (cs : List Cmd). AsksNow k w (after_question k homing w) cs ⊎ ((asks_now homing w ≡ false) × AsksNot w (after_question k homing w) cs)) commands done);
    }

-- one turn
pub late_state : (clock : BoardClock) (first : LinkState) (turns : List BoardTurn) (s : State) (rest : List State) → AreBoardTurns clock first turns → latest_state turns ≡ s ∷ rest → s.turn + 1 ≡ length turns
late_state clock first [] s rest are e = cc
late_state clock first (t ∷ turns) s rest are e =
    let same : t.state ≡ s = cc in
    let turn : t.state.turn ≡ length turns = are.0.1.turn in
    omega (arith, ap (λ (x : State). x.turn) same)

pub in_time_none : (turn : ℕ) (o : Option ℕ) → o ≡ None → is_in_time turn o ≡ false
in_time_none turn o e = ap (is_in_time turn) e

not_in_time : (turn s : ℕ) (o : Option ℕ) → o ≡ Some s → s + 4 ≤ turn → is_in_time turn o ≡ false
not_in_time turn s o e h = ap (is_in_time turn) e ∙ lt-leb (turn - s) 3 (omega arith)

never_waits : (a z : Asking) → a.waits ≡ z.waits → z.waits ≡ false → a.waits ≡ true → 1_000 ≤ 0
never_waits a z e f g = let h : true ≡ false = sym g ∙ (e ∙ f) in cc

pub chain_turn : (m : Machine) (switches : List Switch) (pins : List (List Level)) (entries : List Entry) (b : ℕ) (all : List Came) (t : BoardTurn) (turns : List BoardTurn) (z a y : Asking) → 1 ≤ length turns → length turns < 2 ^ 59 → Behind m switches pins entries b all turns z
    → a ≡ heard_now z (latest_state turns) → Chain m switches pins entries b all turns z → Turn m b (length turns) a y t.control.commands → Chain m switches pins entries b all (t ∷ turns) y
chain_turn m switches pins entries b all t turns z a y some small behind is (inl o) x =
    let r = o.rests in
    let stays = heard_late z (latest_state turns) (λ s rest e. in_time_none s.turn z.since r.since) in
    let rest : Rests (heard_now z (latest_state turns)) = record { since = stays.since ∙ r.since; missed = stays.missed ∙ r.missed } in
    let waits : a.waits ≡ z.waits = ap (λ (v : Asking). v.waits) is ∙ heard_waits z (latest_state turns) in
    from_rest m switches pins entries b all t turns a y some (subst Rests (sym is) rest) (λ e. o.early (sym waits ∙ e)) x
chain_turn m switches pins entries b all t turns z a y some small behind is (inr (inl o)) x = elim (heard_either z (latest_state turns)) [
  | inl stays ↦ from_out m switches pins entries b all t turns z a y small behind is (subst (λ (v : Asking). Stays v z) (sym is) stays) o x
  | inr r ↦ from_rest m switches pins entries b all t turns a y some (subst Rests (sym is) r) (λ e. let never = never_waits a z (ap (λ (v : Asking). v.waits) is ∙ heard_waits z (latest_state turns)) o.waits e in omega arith) x
]
chain_turn m switches pins entries b all t turns z a y some small behind is (inr (inr o)) x =
    let late = o.late in
    let are = behind.run.turns_are in
    let stays = heard_late z (latest_state turns) (λ s rest e. not_in_time s.turn o.s z.since o.since (omega (arith, late_state (clock_of (board_at m b)) (first_state (board_at m b) pins b entries) turns s rest are e))) in
    from_waits m switches pins entries b all t turns z a y (subst (λ (v : Asking). Stays v z) (sym is) stays) o x

-- over the turns of a run
abbrev pub Stands : Machine → List Switch → List (List Level) → List Entry → ℕ → List Came → List Came → List BoardTurn → Asking → Type 0
Stands m switches pins entries b all came turns y =
    (((known_by m switches came).phase ≡ Connecting) × IsSettled y) ⊎ (((known_by m switches came).phase ≡ Connecting → ⊥) × Chain m switches pins entries b all turns y)

not_first : (m : Machine) (switches : List Switch) (b : ℕ) (came : List Came) (turns : List BoardTurn) → IsBoardOf m switches b came turns → ((known_by m switches came).phase ≡ Connecting → ⊥) → 1 ≤ length turns
not_first m switches b [] turns is n = absurd (n refl)
not_first m switches b (c ∷ before) [] is n = absurd is
not_first m switches b (c ∷ before) (t ∷ turns) is n = omega arith

stands_turn : (m : Machine) (switches : List Switch) (pins : List (List Level)) (entries : List Entry) (b : ℕ) (all : List Came) (c : Came) (before : List Came) (t : BoardTurn) (turns : List BoardTurn) (z a y : Asking) (k : ℕ) → k ≡ length turns
    → length turns < 2 ^ 59
    → IsBoardOf m switches b before turns → (((known_by m switches before).phase ≡ Connecting → ⊥) → Behind m switches pins entries b all turns z) → a ≡ heard_now z (latest_state turns)
    → Stands m switches pins entries b all before turns z → asking_at b (known_by m switches (c ∷ before)).askings.items ≡ y ∷ []
    → BoardTurned m (noted m c.note (known_by m switches before)) b k c.states a (last_reacted m switches c before) t.control → Stands m switches pins entries b all (c ∷ before) (t ∷ turns) y
stands_turn m switches pins entries b all c before t turns z a y k e small both behind is (inl old) at (Asks p g) =
    let setups = configuration m b in
    let heard : IsSettled a = subst IsSettled (sym is) (settled_now z (latest_state turns) old.1) in
    let ra = ready setups a in
    let next = settled_asks setups k ra ra.stage refl (settled_ready setups a heard) in
    inl (g.phase, subst IsSettled (one_of _ y (sym g.asking ∙ at)) next)
stands_turn m switches pins entries b all c before t turns z a y k e small both behind is (inl old) at (Ends p g) =
    let setups = configuration m b in
    let heard : IsSettled a = subst IsSettled (sym is) (settled_now z (latest_state turns) old.1) in
    let rest = (settled_ready setups a heard).rests g.connected in
    let ready_a = settled_ready setups a heard in
    let idle : IdleSo (t ∷ turns) (ready setups a) = record { rests = rest; early = λ e. let never : true ≡ false = sym e ∙ ready_a.waits in cc } in
    inr (not-running _ g.phase, inl (subst (λ (v : Asking). IdleSo (t ∷ turns) v) (one_of _ y (sym g.asking ∙ at)) idle))
stands_turn m switches pins entries b all c before t turns z a y k e small both behind is (inl old) at (Runs p g) =
    absurd (not-running _ p (noted_phase m c.note (known_by m switches before) ∙ old.0))
stands_turn m switches pins entries b all c before t turns z a y k e small both behind is (inr old) at (Asks p g) = absurd (old.0 (sym (noted_phase m c.note (known_by m switches before)) ∙ p))
stands_turn m switches pins entries b all c before t turns z a y k e small both behind is (inr old) at (Ends p g) = absurd (old.0 (sym (noted_phase m c.note (known_by m switches before)) ∙ p))
stands_turn m switches pins entries b all c before t turns z a y k e small both behind is (inr old) at (Runs p g) =
    let x = runs_so m (noted m c.note (known_by m switches before)) b k c.states a (last_reacted m switches c before) t.control y g at in
    inr (still_running g.stop _ g.phase, chain_turn m switches pins entries b all t turns z a y (not_first m switches b before turns both old.0) small (behind old.0) is old.1 (subst (λ (n : ℕ). Turn m b n a y t.control.commands) e x))

pub stands_so : (m : Machine) (switches : List Switch) (pins : List (List Level)) (entries : List Entry) (b : ℕ) (all : List Came) (came : List Came) (turns : List BoardTurn) → came ≡ came_by_turn (length came) all → IsInRun m switches pins entries b came turns → length turns < 2 ^ 59
    → (y : Asking) → asking_at b (known_by m switches came).askings.items ≡ y ∷ [] → Stands m switches pins entries b all came turns y
stands_so m switches pins entries b all [] [] is r small y at =
    let same : new_asking ≡ y = one_of new_asking y (sym (new_at b m.boards r.board) ∙ at) in
    inl (refl, subst IsSettled same (record { waits = refl; rests = λ c. cc }))
stands_so m switches pins entries b all [] (t ∷ turns) is r small y at = absurd r.both
stands_so m switches pins entries b all (c ∷ before) [] is r small y at = absurd r.both
stands_so m switches pins entries b all (c ∷ before) (t ∷ turns) is r small y at =
    let x = turn_of m switches pins entries b c before t turns r in
    let rest = run_before m switches pins entries b c before t turns r in
    let was = came_behind (length before) all before c is refl in
    let long = as_long m switches b before turns r.both.2 in
    let old = stands_so m switches pins entries b all before turns was rest (omega arith) x.first x.was in
    let on = λ (p : (known_by m switches before).phase ≡ Connecting → ⊥). x.on (λ e. p (sym (noted_phase m c.note (known_by m switches before)) ∙ e)) in
    stands_turn m switches pins entries b all c before t turns x.first x.a y (length before) long (omega arith) rest.both
    (λ p. record { came = before; run = rest; is = was ∙ ap (λ (n : ℕ). came_by_turn n all) long; at = x.was; connected = on p }) x.hears old at x.turned
