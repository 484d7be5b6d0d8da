-- Connecting ends soon: each stage of a board takes at most 32 turns, and the boards connect side by side.
use Rattle.std.proofs.Common.{◌≡◌, ℕ, zero, suc, ◌+◌, ◌-◌, ◌*◌, ◌/◌, ◌%◌, ◌^◌, ◌<◌, ◌≤◌, ◌⊎◌, inl, inr, Bool, true, false, cond, List, [], ◌∷◌, ◌++◌, length, drop, min, Option, Some, None, refl, ap, sym, ◌∙◌, subst, arith, length-append}
use Rattle.std.specs.Prelude.{◌&&◌, ◌==◌, nat_le, nat_lt}
use Rattle.laws_board.proofs.Names.{flat_map, and_from, eqb_tells, leb_tells, Cause, Level, Machine, IsValidMachine, board_at, Cmd, News, Note, State, ReportLine, Entry, Switch, Asking, Stage, Identify, Uptime, Configure, Config, Connected, Setup, is_question_due, ready, all_connected, giving_up, listen_all, ready_all, configuration, trigger_of, Known, Phase, Connecting, Stopping, is_out as is_note_out, news_of, noted, first_lines, first_cause, Reacted, by_phase, reacts, unless_ended, Came, known_by, no_both}
use Rattle.std.proofs.lemmas.Bool.{le-leb}
use Rattle.std.proofs.lemmas.List.{length-drop}
use Rattle.plan_types.specs.declared.cause.Cause.TheVariants as cause
use Rattle.plan_types.specs.declared.machine.StepperDef.{StepperDef}
use Rattle.msg_code.specs.Bytes.{command_bytes}
use Rattle.msg_code.specs.declared.cmd.Cmd.TheVariants as cmd
use Rattle.msg_code.proofs.Counts.{count_bounds}
use Rattle.board_asking.specs.declared.setup.Setup.TheVariants.{Oids, Stepper, Trsync, Endstop, Finish}
use Rattle.board_asking.specs.Asking.{after_asks, after_clock, after_drift, after_piece, answered, asked, gives_up, hears_first, is_connected, is_in_time, is_out, is_over, listens, more, new_asking, or_asking, ready_stage, sample_of, settled, tells_clock, was_put, were_put}
use Rattle.board_asking.specs.Machine.{endstop_pins, fitting, setup_command, setup_endstops, setup_stepper}
use Rattle.board_asking.specs.Turns.{AsksOf, asking_in_turn}
use Rattle.host_reactor.specs.declared.ordered.Phase.TheVariants.{Running}
use Rattle.host_reactor.specs.Rows.{HasEachBoard}
use Rattle.host_reactor.specs.Reactor.{asks_boards, is_connected_now, unless_given_up}
use Rattle.host_reactor.proofs.Rowing.{rowed, whole-first, listened, readied}
use Rattle.laws_board.specs.turns.Turns.{BoardTurn, latest_state}
use Rattle.laws_board.specs.clocks.Runs.{IsInRun}
use Rattle.laws_board.proofs.clocks.Lines.{as_long, noted_askings, noted_phase, run_before, turn_of}
use Rattle.laws_board.proofs.clocks.Turning.{asking_at, heard_now, listen_at, ready_at}
use Rattle.laws_board.specs.causes.Causes.{came_by_turn}
use Rattle.laws_board.specs.causes.Short.{AreInRun, HaveShortDictionaries, dictionary_of}
use Rattle.laws_board.proofs.causes.Pieces.{AreWithin, IsWithinAll, within_turn}
use Rattle.laws_board.proofs.causes.Told.{asking_behind, asking_in, connecting_so, heard_is, one_of, was_connecting}
use Rattle.laws_board.proofs.causes.Turns.{came_all, came_less, states_length}
use Rattle.laws_board.proofs.causes.Again.{open_if}
use Rattle.laws_board.proofs.clocks.Configured.{steppers_few, endstops_few}
use Rattle.axis_homing.proofs.Room.{pins-few}

-- a stage of a board begins by a turn, where the board has so many commands of its configuration and bytes of its dictionary, and so
-- many samples came
abbrev BeginsBy : ℕ → ℕ → ℕ → ℕ → Stage → Type 0
BeginsBy n size turn samples (Identify offset) = (offset ≤ size) × (samples ≡ 0) × (turn ≤ 32 * (offset / 40))
BeginsBy n size turn samples Uptime = (samples ≤ 7) × (turn ≤ 32 * (59 + samples))
BeginsBy n size turn samples (Configure i) = (i ≤ n) × (turn ≤ 2_144 + i)
BeginsBy n size turn samples Config = turn ≤ 2_144 + n
BeginsBy n size turn samples Connected = Unit {0}

-- an asking is out before turn k, since turn s: one of a row of its stage
record OutBy (n size k s : ℕ) (stage : Stage) (samples missed : ℕ) : Type 0 where
  pub asks : AsksOf stage
  pub from : ℕ
  pub begins : BeginsBy n size from samples stage
  pub row : s ≤ from + 4 * missed
  pub few : missed ≤ 7
  pub late : s < k
  pub near : k ≤ s + 4

-- a board's asking as turn k begins
abbrev InTime : ℕ → ℕ → ℕ → Option ℕ → Stage → ℕ → ℕ → Type 0
InTime n size k None stage samples missed = BeginsBy n size k samples stage
InTime n size k (Some s) stage samples missed = OutBy n size k s stage samples missed

abbrev IsSoon : ℕ → ℕ → ℕ → Asking → Type 0
IsSoon n size k a = InTime n size k a.since a.stage a.samples a.missed

either_soon : (n size k : ℕ) (t : Bool) (x y : Asking) → IsSoon n size k x → IsSoon n size k y → IsSoon n size k (cond t x y)
either_soon n size k true x y h i = h
either_soon n size k false x y h i = i

-- a stage has begun 32 turns before turn k or later
record Begun (n size k : ℕ) (stage : Stage) (samples : ℕ) : Type 0 where
  pub from : ℕ
  pub begins : BeginsBy n size from samples stage
  pub near : k ≤ from + 32

begun_by : (n size k : ℕ) (o : Option ℕ) (stage : Stage) (samples missed : ℕ) → InTime n size k o stage samples missed → Begun n size k stage samples
begun_by n size k None stage samples missed h = record { from = k; begins = h; near = omega arith }
begun_by n size k (Some s) stage samples missed h =
    let row = h.row in
    let few = h.few in
    let near = h.near in
    record { from = h.from; begins = h.begins; near = omega arith }

-- an answer
abbrev SoonIn : ℕ → ℕ → ℕ → Option Asking → Type 0
SoonIn n size k None = Unit {0}
SoonIn n size k (Some a) = IsSoon n size k a

soon_if : (n size k : ℕ) (t : Bool) (a : Asking) → IsSoon n size k a → SoonIn n size k (cond t (Some a) None)
soon_if n size k true a h = h
soon_if n size k false a h = tt

piece_soon : (n size k from samples offset few : ℕ) → size < 2_360 → offset ≤ size → samples ≡ 0 → from ≤ 32 * (offset / 40) → k ≤ from + 32 → (40 ≤ few → offset + 40 ≤ size)
    → BeginsBy n size k samples (cond (nat_lt few 40) Uptime (Identify ((offset + 40) % 2 ^ 32)))
piece_soon n size k from samples offset few short within none begins near whole = elim (leb_tells (suc few) 40) [
  | inl p ↦ rw p.0 (omega arith, omega arith)
  | inr p ↦
      let q = p.1 in
      let more = whole (omega arith) in
      let same : (offset + 40) % 2 ^ 32 ≡ offset + 40 = omega arith in
      rw p.0 (subst (λ (i : ℕ). BeginsBy n size k samples (Identify i)) (sym same) (more, none, omega arith))
]

clock_soon : (n size k from samples : ℕ) → samples ≤ 7 → from ≤ 32 * (59 + samples) → k ≤ from + 32 → BeginsBy n size k (more samples) (cond (nat_le 8 (more samples)) (Configure 0) Uptime)
clock_soon n size k from samples few begins near = elim (leb_tells 8 (more samples)) [
  | inl p ↦ let q = p.1 in rw p.0 (omega arith, omega arith)
  | inr p ↦ let q = p.1 in rw p.0 (omega arith, omega arith)
]

answer_soon : (n size k turn : ℕ) (a : Asking) (stage : Stage) (number : ℕ) (c : Cmd) → size < 2_360 → Begun n size k stage a.samples → IsWithinAll size c → SoonIn n size k (answered turn a stage number c)
answer_soon n size k turn a (Identify offset) number (cmd.IdentifyResponse of bytes) short h w = elim (eqb_tells offset of) [
  | inl p ↦
      let b = h.begins in
      let same : offset ≡ of = p.1 in
      let within : 40 ≤ length bytes.items → offset + 40 ≤ size = λ l. let x = w l in omega arith in
      soon_if n size k (offset == of) (after_piece a offset (length bytes.items)) (piece_soon n size k h.from a.samples offset (length bytes.items) short b.0 b.1 b.2 h.near within)
  | inr p ↦ rw p.0 tt
]
answer_soon n size k turn a Uptime number (cmd.Uptime high low) short h w =
    let b = h.begins in
    soon_if n size k (tells_clock a number) (after_clock a (sample_of a turn high low)) (clock_soon n size k h.from a.samples b.0 b.1 h.near)
answer_soon n size k turn a Config number (cmd.Config is_config crc is_shutdown move_count) short h w = soon_if n size k (is_config == 1) (settled a Connected) tt
answer_soon n size k turn a Connected number (cmd.Uptime high low) short h w = soon_if n size k (tells_clock a number) (after_drift a (sample_of a turn high low)) tt
answer_soon n size k turn a stage number c short h w = tt

or_soon : (n size k : ℕ) (o : Option Asking) (b : Asking) → SoonIn n size k o → IsSoon n size k b → IsSoon n size k (or_asking o b)
or_soon n size k None b h i = i
or_soon n size k (Some a) b h i = h

hears_soon : (n size k turn : ℕ) (news : List News) (a : Asking) → size < 2_360 → Begun n size k a.stage a.samples → AreWithin size news → IsSoon n size k a → IsSoon n size k (hears_first turn news a)
hears_soon n size k turn [] a short b w h = h
hears_soon n size k turn (x ∷ news) a short b w h =
    or_soon n size k (answered turn a a.stage x.number x.answer) (hears_first turn news a) (answer_soon n size k turn a a.stage x.number x.answer short b w.0) (hears_soon n size k turn news a short b w.1 h)

puts_soon : (n size k turn : ℕ) (ns : List ℕ) (a : Asking) → IsSoon n size k a → IsSoon n size k (were_put turn ns a)
puts_soon n size k turn [] a h = h
puts_soon n size k turn (x ∷ ns) a h = puts_soon n size k turn ns (was_put turn a x) h

listens_soon : (n size k : ℕ) (a : Asking) (s : State) → size < 2_360 → AreWithin size s.news → IsSoon n size k a → IsSoon n size k (listens a s)
listens_soon n size k a s short w h =
    let b = were_put s.turn s.asked a in
    let i : IsSoon n size k b = puts_soon n size k s.turn s.asked a h in
    either_soon n size k (is_in_time s.turn b.since) (hears_first s.turn s.news b) b (hears_soon n size k s.turn s.news b short (begun_by n size k b.since b.stage b.samples b.missed i) w i) i

-- all of the configuration is queued
abbrev IsReady : List Setup → Stage → Type 0
IsReady setups (Configure i) = is_over (drop i setups) ≡ false
IsReady setups stage = Unit {0}

over_ready : (setups : List Setup) (i : ℕ) (t : Bool) → is_over (drop i setups) ≡ t → IsReady setups (cond t Config (Configure i))
over_ready setups i true e = tt
over_ready setups i false e = e

is_ready : (setups : List Setup) (stage : Stage) → IsReady setups (ready_stage setups stage)
is_ready setups (Configure i) = over_ready setups i (is_over (drop i setups)) refl
is_ready setups c = tt

over_begins : (n size k samples i : ℕ) (t : Bool) → i ≤ n → k ≤ 2_144 + i → BeginsBy n size k samples (cond t Config (Configure i))
over_begins n size k samples i true h l = omega arith
over_begins n size k samples i false h l = (h, l)

ready_soon : (setups : List Setup) (size k : ℕ) (o : Option ℕ) (stage : Stage) (samples missed : ℕ) → InTime (length setups) size k o stage samples missed
    → InTime (length setups) size k o (ready_stage setups stage) samples missed
ready_soon setups size k None (Configure i) samples missed h = over_begins (length setups) size k samples i (is_over (drop i setups)) h.0 h.1
ready_soon setups size k (Some s) (Configure i) samples missed h = absurd h.asks
ready_soon setups size k o c samples missed h = h

-- what is asked in a turn
not_seven : (t : Bool) (missed : ℕ) → (t && nat_le 7 missed) ≡ false → t ≡ true → missed ≤ 6
not_seven false missed e f = cc
not_seven true missed e f = elim (leb_tells 7 missed) [
  | inl p ↦ let never : true ≡ false = sym p.0 ∙ e in cc
  | inr p ↦ let q = p.1 in omega arith
]

asks_soon : (n size k : ℕ) (a : Asking) (o : Option ℕ) → a.since ≡ o → AsksOf a.stage → gives_up k a ≡ false → InTime n size k o a.stage a.samples a.missed → IsSoon n size (k + 1) (cond (is_question_due k a.since) (asked k a) a)
asks_soon n size k a None e g up h =
    let At : Bool → Type 0 = λ t. IsSoon n size (k + 1) (cond t (asked k a) a) in
    let missed : (asked k a).missed ≡ 0 = ap (λ (x : Option ℕ). cond (is_out x) (more a.missed) 0) e in
    let now : OutBy n size (k + 1) k a.stage a.samples (asked k a).missed = record { asks = g; from = k; begins = h; row = omega arith; few = omega (arith, missed); late = omega arith; near = omega arith } in
    subst At (sym (ap (is_question_due k) e)) now
asks_soon n size k a (Some s) e g up h =
    let At : Bool → Type 0 = λ t. IsSoon n size (k + 1) (cond t (asked k a) a) in
    let row = h.row in
    let few = h.few in
    let late = h.late in
    let near = h.near in
    elim (leb_tells 4 (k - s)) [
      | inl p ↦
          let q = p.1 in
          let due : is_question_due k a.since ≡ true = ap (is_question_due k) e ∙ p.0 in
          let left : (is_question_due k a.since && nat_le 7 a.missed) ≡ false = sym (ap (λ (x : Option ℕ). is_out x && (is_question_due k a.since && nat_le 7 a.missed)) e) ∙ up in
          let six = not_seven (is_question_due k a.since) a.missed left due in
          let missed : (asked k a).missed ≡ more a.missed = ap (λ (x : Option ℕ). cond (is_out x) (more a.missed) 0) e in
          let now : OutBy n size (k + 1) k a.stage a.samples (asked k a).missed =
          record { asks = g; from = h.from; begins = h.begins; row = omega (arith, missed); few = omega (arith, missed); late = omega arith; near = omega arith } in
          subst At (sym due) now
      | inr p ↦
          let q = p.1 in
          let now : OutBy n size (k + 1) s a.stage a.samples a.missed = record { asks = g; from = h.from; begins = h.begins; row = row; few = few; late = omega arith; near = omega arith } in
          subst At (sym (ap (is_question_due k) e ∙ p.0)) (subst (λ (x : Option ℕ). InTime n size (k + 1) x a.stage a.samples a.missed) (sym e) now)
    ]

-- at least one command of the configuration fits
setup_bytes : (s : Setup) → command_bytes (setup_command s) ≤ 42
unfolding command_bytes
setup_bytes (Oids count) = let a = (count_bounds count).1 in omega arith
setup_bytes (Stepper oid step dir) =
    let a = (count_bounds oid).1 in
    let b = (count_bounds step).1 in
    let c = (count_bounds dir).1 in
    let d = (count_bounds 0).1 in
    omega arith
setup_bytes (Trsync oid) = let a = (count_bounds oid).1 in omega arith
setup_bytes (Endstop oid pin) =
    let a = (count_bounds oid).1 in
    let b = (count_bounds pin).1 in
    let d = (count_bounds 0).1 in
    omega arith
setup_bytes Finish = let d = (count_bounds 0).1 in omega arith

fitting_few : (room : ℕ) (ss : List Setup) → length (fitting room ss) ≤ length ss
fitting_few room [] = omega arith
fitting_few room (s ∷ ss) =
    let size = command_bytes (setup_command s) in
    one (nat_le size room) (fitting (room - size) ss) (fitting_few (room - size) ss)
  where
    one : (t : Bool) (f : List Setup) → length f ≤ length ss → length (cond t (s ∷ f) []) ≤ length (s ∷ ss)
    one true f h = omega arith
    one false f h = omega arith

fitting_some : (ss : List Setup) → is_over ss ≡ false → 1 ≤ length (fitting 42 ss)
fitting_some [] e = cc
fitting_some (s ∷ ss) e =
    let fits = le-leb (command_bytes (setup_command s)) 42 (setup_bytes s) in
    let some = ap (λ (t : Bool). length (cond t (s ∷ fitting (42 - command_bytes (setup_command s)) ss) [])) fits in
    omega (arith, some)

configures_soon : (setups : List Setup) (size k : ℕ) (a : Asking) (i : ℕ) (o : Option ℕ) → a.since ≡ o → length setups ≤ 22 → is_over (drop i setups) ≡ false → InTime (length setups) size k o (Configure i) a.samples a.missed
    → IsSoon (length setups) size (k + 1) (record a { stage = Configure (min (i + length (fitting 42 (drop i setups))) (2 ^ 64 - 1)) })
configures_soon setups size k a i None e small remains h =
    let n = length setups in
    let next = min (i + length (fitting 42 (drop i setups))) (2 ^ 64 - 1) in
    let low = h.0 in
    let by = h.1 in
    let some = fitting_some (drop i setups) remains in
    let few = fitting_few 42 (drop i setups) in
    let left = length-drop i setups in
    let now : BeginsBy n size (k + 1) a.samples (Configure next) = (omega (arith, left), omega (arith, left)) in
    subst (λ (x : Option ℕ). InTime n size (k + 1) x (Configure next) a.samples a.missed) (sym e) now
configures_soon setups size k a i (Some s) e small remains h = absurd h.asks

stays_soon : (n size k : ℕ) (a : Asking) (o : Option ℕ) → a.since ≡ o → a.stage ≡ Connected → InTime n size k o Connected a.samples a.missed → IsSoon n size (k + 1) a
stays_soon n size k a None e g h =
    subst (λ (x : Option ℕ). InTime n size (k + 1) x a.stage a.samples a.missed) (sym e) (subst (λ (x : Stage). BeginsBy n size (k + 1) a.samples x) (sym g) tt)
stays_soon n size k a (Some s) e g h = absurd h.asks

behind_soon : (setups : List Setup) (size k : ℕ) (a : Asking) (stage : Stage) → a.stage ≡ stage → IsReady setups stage → gives_up k a ≡ false → length setups ≤ 22
    → InTime (length setups) size k a.since stage a.samples a.missed → IsSoon (length setups) size (k + 1) (after_asks setups k a stage)
behind_soon setups size k a (Configure i) e remains up small h = configures_soon setups size k a i a.since refl small remains h
behind_soon setups size k a Connected e remains up small h = stays_soon (length setups) size k a a.since refl e h
behind_soon setups size k a c e remains up small h =
    asks_soon (length setups) size k a a.since refl (subst AsksOf (sym e) tt) up (subst (λ (x : Stage). InTime (length setups) size k a.since x a.samples a.missed) (sym e) h)

-- a turn
record Soon (setups : List Setup) (size k : ℕ) (a : Asking) : Type 0 where
  pub soon : IsSoon (length setups) size k a
  pub remains : IsReady setups a.stage

soon_ready : (setups : List Setup) (size k : ℕ) (a : Asking) → IsSoon (length setups) size k a → Soon setups size k (ready setups a)
soon_ready setups size k a h = record { soon = ready_soon setups size k a.since a.stage a.samples a.missed h; remains = is_ready setups a.stage }

soon_turn : (setups : List Setup) (size k : ℕ) (a : Asking) (s : State) → size < 2_360 → length setups ≤ 22 → gives_up k a ≡ false → AreWithin size s.news → Soon setups size k a
    → Soon setups size (k + 1) (ready setups (listens (asking_in_turn setups k a) s))
soon_turn setups size k a s short small up w h =
    soon_ready setups size (k + 1) (listens (asking_in_turn setups k a) s)
    (listens_soon (length setups) size (k + 1) (asking_in_turn setups k a) s short w (behind_soon setups size k a a.stage refl h.remains up small h.soon))

-- a board that isn't connected is at one of its first 2,199 turns
late_begins : (n size from samples : ℕ) (stage : Stage) → n ≤ 22 → size < 2_360 → BeginsBy n size from samples stage → 2_167 ≤ from → is_connected stage ≡ true
late_begins n size from samples (Identify offset) few short b late = let l = b.0 in let t = b.2 in absurd (omega arith)
late_begins n size from samples Config few short b late = absurd (omega arith)
late_begins n size from samples Connected few short b late = refl
late_begins n size from samples c few short b late = let l = b.0 in let t = b.1 in absurd (omega arith)

late_connected : (setups : List Setup) (size k : ℕ) (a : Asking) → length setups ≤ 22 → size < 2_360 → Soon setups size k a → 2_199 ≤ k → is_connected a.stage ≡ true
late_connected setups size k a few short s late =
    let b = begun_by (length setups) size k a.since a.stage a.samples a.missed s.soon in
    let near = b.near in
    late_begins (length setups) size b.from a.samples a.stage few short b.begins (omega arith)

setups_few : (m : Machine) (b : ℕ) → IsValidMachine m → length (configuration m b) ≤ 22
unfolding configuration
setups_few m b v =
    let steppers = flat_map (setup_stepper b) m.steppers in
    let endstops = setup_endstops (trigger_of m b + 1) (endstop_pins m b) in
    let s = steppers_few b m.steppers in
    let p = pins-few b m.axes [] in
    let e = endstops_few (trigger_of m b + 1) (endstop_pins m b) in
    let few = v.steppers_few in
    let three = v.axes_three in
    let tail = length-append endstops (Finish ∷ []) in
    omega (arith, length-append steppers (Trsync (trigger_of m b) ∷ (endstops ++ Finish ∷ [])))

-- a turn in which connecting goes on
record StillAsks (k : ℕ) (askings : List Asking) : Type 0 where
  pub given : giving_up k 0 askings ≡ None
  pub not_all : all_connected askings ≡ false

abbrev end_of : Reacted → Option Cause
end_of x = x.ordered.end

abbrev phase_of : Reacted → Phase
phase_of x = x.known.phase

still_open : (t : Bool) (m : Machine) (r : Known) (k : ℕ) (lines : List ReportLine) (askings : List Asking) → all_connected askings ≡ t
    → phase_of (cond t (is_connected_now m r k lines askings) (asks_boards m r k lines askings)) ≡ Connecting → all_connected askings ≡ false
still_open true m r k lines askings e p = let never : Running ≡ Connecting = p in cc
still_open false m r k lines askings e p = e

still_given : (o : Option Cause) (m : Machine) (r : Known) (k : ℕ) (lines : List ReportLine) (askings : List Asking) → giving_up k 0 askings ≡ o → end_of (unless_given_up o m r k lines askings) ≡ None
    → phase_of (unless_given_up o m r k lines askings) ≡ Connecting → StillAsks k askings
still_given (Some c) m r k lines askings e h p = cc
still_given None m r k lines askings e h p = record { given = e; not_all = still_open (all_connected askings) m r k lines askings refl p }

still_phase : (g : Phase) (m : Machine) (switches : List Switch) (r : Known) (k : ℕ) (states : List State) (lines : List ReportLine) → g ≡ Connecting → end_of (by_phase g m switches r k states lines) ≡ None
    → phase_of (by_phase g m switches r k states lines) ≡ Connecting → StillAsks k (ready_all m 0 (listen_all r.askings.items states))
still_phase g m switches r k states lines e h p =
    let askings = ready_all m 0 (listen_all r.askings.items states) in
    still_given (giving_up k 0 askings) m r k lines askings refl (subst (λ (x : Phase). end_of (by_phase x m switches r k states lines) ≡ None) e h)
    (subst (λ (x : Phase). phase_of (by_phase x m switches r k states lines) ≡ Connecting) e p)

still_ended : (o : Option Cause) (m : Machine) (switches : List Switch) (r : Known) (k : ℕ) (states : List State) (lines : List ReportLine) → r.phase ≡ Connecting → end_of (unless_ended o m switches r k states lines) ≡ None
    → phase_of (unless_ended o m switches r k states lines) ≡ Connecting → StillAsks k (ready_all m 0 (listen_all r.askings.items states))
still_ended (Some c) m switches r k states lines e h p = cc
still_ended None m switches r k states lines e h p = still_phase r.phase m switches r k states lines e h p

still_asks : (m : Machine) (switches : List Switch) (r : Known) (k : ℕ) (states : List State) (note : Option Note) → (noted m note r).phase ≡ Connecting → end_of (reacts m switches r k states note) ≡ None
    → phase_of (reacts m switches r k states note) ≡ Connecting → StillAsks k (ready_all m 0 (listen_all (noted m note r).askings.items states))
still_asks m switches r k states note e h p =
    let s = noted m note r in
    still_ended (first_cause (is_note_out note) s.stopped states) m switches s k states (first_lines m s k (news_of note) states) e h p

giving_at : (k i b : ℕ) (askings : List Asking) (a : Asking) → giving_up k i askings ≡ None → asking_at b askings ≡ a ∷ [] → gives_up k a ≡ false
giving_at k i b [] a h e = cc
giving_at k i zero (x ∷ askings) a h e =
    let same : x ≡ a = cc in
    ap (gives_up k) (sym same) ∙ (open_if (gives_up k x) (cause.Connect i x.first) (giving_up k (i + 1) askings) h).0
giving_at k i (suc b) (x ∷ askings) a h e = giving_at k (i + 1) b askings a (open_if (gives_up k x) (cause.Connect i x.first) (giving_up k (i + 1) askings) h).1 e

connected_all : (askings : List Asking) → ((b : ℕ) (a : Asking) → b < length askings → asking_at b askings ≡ a ∷ [] → is_connected a.stage ≡ true) → all_connected askings ≡ true
connected_all [] f = refl
connected_all (x ∷ askings) f =
    and_from (is_connected x.stage) (all_connected askings) (f 0 x (omega arith) refl) (connected_all askings (λ b a l e. f (suc b) a (omega arith) e))

whole_by : (m : Machine) (switches : List Switch) (came : List Came) → HasEachBoard m (known_by m switches came)
whole_by m switches [] = whole-first m
whole_by m switches (c ∷ before) = (rowed m switches (known_by m switches before) (length before) c.states c.note (whole_by m switches before)).whole

-- the askings as a turn begins
abbrev askings_now : Machine → List Switch → Came → List Came → List Asking
askings_now m switches c before = ready_all m 0 (listen_all (noted m c.note (known_by m switches before)).askings.items c.states)

many_now : (m : Machine) (switches : List Switch) (c : Came) (before : List Came) → length (askings_now m switches c before) ≡ length m.boards
many_now m switches c before =
    let r = known_by m switches before in
    readied m 0 (listen_all (noted m c.note r).askings.items c.states) ∙ listened (noted m c.note r).askings.items c.states ∙ ap (λ x. length x.items) (noted_askings m c.note r) ∙ (whole_by m switches before).askings

now_at : (m : Machine) (switches : List Switch) (pins : List (List Level)) (entries : List Entry) (b : ℕ) (c : Came) (before : List Came) (t : BoardTurn) (turns : List BoardTurn)
    → IsInRun m switches pins entries b (c ∷ before) (t ∷ turns) → (known_by m switches before).phase ≡ Connecting → asking_at b (askings_now m switches c before) ≡ asking_in (configuration m b) turns ∷ []
now_at m switches pins entries b c before t turns r p =
    let setups = configuration m b in
    let known = known_by m switches before in
    let so = connecting_so m switches pins entries b before turns (run_before m switches pins entries b c before t turns r) p in
    let first : asking_at b (noted m c.note known).askings.items ≡ asking_behind setups turns ∷ [] = ap (λ x. asking_at b x.items) (noted_askings m c.note known) ∙ so.asking in
    let heard : asking_at b (listen_all (noted m c.note known).askings.items c.states) ≡ heard_now (asking_behind setups turns) (latest_state turns) ∷ [] =
    listen_at b (noted m c.note known).askings.items c.states (asking_behind setups turns) first ∙ ap (λ (l : List State). heard_now (asking_behind setups turns) l ∷ []) r.both.0 in
    ready_at m 0 b b (listen_all (noted m c.note known).askings.items c.states) _ (omega arith) heard ∙ ap (λ (x : Asking). x ∷ []) (heard_is setups turns)

-- a turn of a run in which connecting goes on
record ConnectsOn (m : Machine) (switches : List Switch) (c : Came) (before : List Came) : Type 0 where
  pub was : (known_by m switches before).phase ≡ Connecting
  pub still : StillAsks (length before) (askings_now m switches c before)

connects_on : (m : Machine) (switches : List Switch) (pins : List (List Level)) (entries : List Entry) (b : ℕ) (c : Came) (before : List Came) (t : BoardTurn) (turns : List BoardTurn)
    → IsInRun m switches pins entries b (c ∷ before) (t ∷ turns) → (known_by m switches (c ∷ before)).phase ≡ Connecting → ConnectsOn m switches c before
connects_on m switches pins entries b c before t turns r p =
    let known = known_by m switches before in
    let x = turn_of m switches pins entries b c before t turns r in
    let was = was_connecting m switches b c before t x.a (length before) p x.turned in
    record { was = was; still = still_asks m switches known (length before) c.states c.note (noted_phase m c.note known ∙ was) r.goes_on.0 p }

-- over the turns of a run
size_of : (m : Machine) (b : ℕ) → HaveShortDictionaries m → b < length m.boards → length (dictionary_of (board_at m b)) < 2_360
size_of m b short h = let l = short b h in omega arith

soon_at : (m : Machine) (switches : List Switch) (pins : List (List Level)) (entries : List Entry) (b : ℕ) (came : List Came) (turns : List BoardTurn) → IsValidMachine m → HaveShortDictionaries m
    → IsInRun m switches pins entries b came turns → (known_by m switches came).phase ≡ Connecting → Soon (configuration m b) (length (dictionary_of (board_at m b))) (length turns) (asking_in (configuration m b) turns)
soon_at m switches pins entries b [] [] v short r p = soon_ready (configuration m b) (length (dictionary_of (board_at m b))) 0 new_asking (omega arith, refl, omega arith)
soon_at m switches pins entries b [] (t ∷ turns) v short r p = absurd r.both
soon_at m switches pins entries b (c ∷ before) [] v short r p = absurd r.both
soon_at m switches pins entries b (c ∷ before) (t ∷ turns) v short r p =
    let setups = configuration m b in
    let size = length (dictionary_of (board_at m b)) in
    let few = size_of m b short r.board in
    let g = connects_on m switches pins entries b c before t turns r p in
    let old = soon_at m switches pins entries b before turns v short (run_before m switches pins entries b c before t turns r) g.was in
    let long = as_long m switches b before turns r.both.2 in
    let a = asking_in setups turns in
    let up : gives_up (length turns) a ≡ false = subst (λ (k : ℕ). gives_up k a ≡ false) long (giving_at (length before) 0 b (askings_now m switches c before) a g.still.given (now_at m switches pins entries b c before t turns r g.was)) in
    let within = within_turn (board_at m b) pins b entries t turns (omega arith) r.turns_are in
    let next : length turns + 1 ≡ suc (length turns) = omega arith in
    let done = soon_turn setups size (length turns) a t.state few (setups_few m b v) up within old in
    subst (λ (k : ℕ). Soon setups size k (asking_in setups (t ∷ turns))) next
    (subst (λ (k : ℕ). Soon setups size (length turns + 1) (ready setups (listens (asking_in_turn setups k a) t.state))) (sym (states_length turns)) done)

connected_in : (m : Machine) (switches : List Switch) (pins : List (List Level)) (entries : List Entry) (b : ℕ) (c : Came) (before : List Came) (turns : List BoardTurn) → IsValidMachine m → HaveShortDictionaries m
    → IsInRun m switches pins entries b (c ∷ before) turns → (known_by m switches before).phase ≡ Connecting → 2_199 ≤ length before → (a : Asking) → asking_at b (askings_now m switches c before) ≡ a ∷ [] → is_connected a.stage ≡ true
connected_in m switches pins entries b c before [] v short r p late a e = absurd r.both
connected_in m switches pins entries b c before (t ∷ turns) v short r p late a e =
    let rest = run_before m switches pins entries b c before t turns r in
    let s = soon_at m switches pins entries b before turns v short rest p in
    let long = as_long m switches b before turns r.both.2 in
    let same : asking_in (configuration m b) turns ≡ a = one_of _ a (sym (now_at m switches pins entries b c before t turns r p) ∙ e) in
    ap (λ (x : Asking). is_connected x.stage) (sym same)
    ∙ late_connected (configuration m b) (length (dictionary_of (board_at m b))) (length turns) (asking_in (configuration m b) turns) (setups_few m b v) (size_of m b short r.board) s (omega (arith, long))

on_first : (m : Machine) (switches : List Switch) (pins : List (List Level)) (entries : List Entry) (b : ℕ) (c : Came) (before : List Came) (turns : List BoardTurn) → IsInRun m switches pins entries b (c ∷ before) turns
    → (known_by m switches (c ∷ before)).phase ≡ Connecting → ConnectsOn m switches c before
on_first m switches pins entries b c before [] r p = absurd r.both
on_first m switches pins entries b c before (t ∷ turns) r p = connects_on m switches pins entries b c before t turns r p

pub ends_soon : (m : Machine) (switches : List Switch) (pins : ℕ → List (List Level)) (entries : List Entry) (came : List Came) (turns : ℕ → List BoardTurn) → IsValidMachine m → HaveShortDictionaries m
    → AreInRun m switches pins entries came turns → (known_by m switches came).phase ≡ Connecting → length came < 2_200
ends_soon m switches pins entries [] turns v short r p = omega arith
ends_soon m switches pins entries (c ∷ before) turns v short r p = elim (leb_tells 2_199 (length before)) [
  | inl q ↦
      let g = on_first m switches (pins 0) entries 0 c before (turns 0) (r 0 v.boards_some) p in
      let all = connected_all (askings_now m switches c before) (λ b a l e. connected_in m switches (pins b) entries b c before (turns b) v short (r b (omega (arith, many_now m switches c before))) g.was q.1 a e) in
      absurd (no_both (all_connected (askings_now m switches c before)) all g.still.not_all)
  | inr q ↦ let l = q.1 in omega arith
]

-- the turn in which connecting ended
record HasEnded (m : Machine) (switches : List Switch) (came : List Came) : Type 0 where
  pub k : ℕ
  pub within : k < length came
  pub soon : k < 2_200
  pub before : (known_by m switches (came_by_turn k came)).phase ≡ Connecting
  pub after : (known_by m switches (came_by_turn (k + 1) came)).phase ≡ Connecting → ⊥

run_rest : (m : Machine) (switches : List Switch) (pins : List (List Level)) (entries : List Entry) (b : ℕ) (c : Came) (before : List Came) (turns : List BoardTurn) → IsInRun m switches pins entries b (c ∷ before) turns
    → IsInRun m switches pins entries b before (drop 1 turns)
run_rest m switches pins entries b c before [] r = absurd r.both
run_rest m switches pins entries b c before (t ∷ turns) r = run_before m switches pins entries b c before t turns r

pub phase_or : (p : Phase) → (p ≡ Connecting) ⊎ (p ≡ Connecting → ⊥)
phase_or Connecting = inl refl
phase_or c = inr (λ e. cc)

ended_at : (m : Machine) (switches : List Switch) (pins : ℕ → List (List Level)) (entries : List Entry) (came : List Came) (turns : ℕ → List BoardTurn) → IsValidMachine m → HaveShortDictionaries m
    → AreInRun m switches pins entries came turns → ((known_by m switches came).phase ≡ Connecting → ⊥) → HasEnded m switches came
ended_at m switches pins entries [] turns v short r n = absurd (n refl)
ended_at m switches pins entries (c ∷ before) turns v short r n =
    let rest : AreInRun m switches pins entries before (λ b. drop 1 (turns b)) = λ b l. run_rest m switches (pins b) entries b c before (turns b) (r b l) in
    let At : List Came → Type 0 = λ l. (known_by m switches l).phase ≡ Connecting in
    let Not : List Came → Type 0 = λ l. (known_by m switches l).phase ≡ Connecting → ⊥ in
    elim (phase_or (known_by m switches before).phase) [
      | inl p ↦
          let k = length before in
          record {
            k = k;
            within = omega arith;
            soon = ends_soon m switches pins entries before (λ b. drop 1 (turns b)) v short rest p;
            before = subst At (sym (came_less k c before (omega arith) ∙ came_all k before (omega arith))) p;
            after = subst Not (sym (came_all (k + 1) (c ∷ before) (omega arith))) n;
          }
      | inr o ↦
          let old = ended_at m switches pins entries before (λ b. drop 1 (turns b)) v short rest o in
          let l = old.within in
          record {
            k = old.k;
            within = omega arith;
            soon = old.soon;
            before = subst At (sym (came_less old.k c before (omega arith))) old.before;
            after = subst Not (sym (came_less (old.k + 1) c before (omega arith))) old.after;
          }
    ]

pub has_ended : (m : Machine) (switches : List Switch) (pins : ℕ → List (List Level)) (entries : List Entry) (came : List Came) (turns : ℕ → List BoardTurn) → IsValidMachine m → HaveShortDictionaries m
    → AreInRun m switches pins entries came turns → ((known_by m switches came).phase ≡ Connecting → ⊥)
    → (k : ℕ) × (k < 2_200) × ((known_by m switches (came_by_turn k came)).phase ≡ Connecting) × ((known_by m switches (came_by_turn (k + 1) came)).phase ≡ Connecting → ⊥)
has_ended m switches pins entries came turns v short r n =
    let e = ended_at m switches pins entries came turns v short r n in
    (e.k, e.soon, e.before, e.after)
