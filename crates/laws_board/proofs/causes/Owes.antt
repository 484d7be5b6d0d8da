-- Over the turns of a run a reactor knows how many of its askings for the clock are still to be put, and which was put last.
use Rattle.std.proofs.Common.{◌≡◌, ℕ, ◌+◌, ◌-◌, ◌^◌, ◌<◌, ◌≤◌, inl, inr, Bool, true, false, cond, List, [], ◌∷◌, ◌++◌, length, map, drop, Option, Some, None, refl, ap, sym, ◌∙◌, subst, arith}
use Rattle.std.specs.Prelude.{◌==◌}
use Rattle.laws_board.proofs.Names.{leb_tells, map-append, Level, Machine, clock_of, IsValidMachine, axis_at, board_at, Cmd, News, State, Control, Unit as StepUnit, dir_commands, reset_commands, step_command, Entry, Switch, Meant, plain, unit_orders, units_orders, first_state, orders, Asking, Stage, Identify, Uptime, Configure, Config, Connected, Setup, is_question_due, ready, asks_now, clock_question, drifts, waits_in, configuration, homing_turn, Known, noted, Reacted, homing_commands, stop_command, stops, Came, known_by, last_reacted}
use Rattle.msg_code.specs.declared.cmd.Cmd.TheVariants as cmd
use Rattle.link_core.specs.Core.{Command, Link}
use Rattle.board_world.specs.Orders.{unit_ticks}
use Rattle.board_world.specs.World.{closes, on_wire}
use Rattle.link_work.specs.Limits.{bytes_in, closing_in}
use Rattle.link_work.proofs.Answered.{begins}
use Rattle.link_work.proofs.Blocks.{AllFit}
use Rattle.link_work.proofs.Draining.{IsSound}
use Rattle.link_work.proofs.Limits.{closing_append, limits_few}
use Rattle.board_asking.specs.declared.setup.Setup.TheVariants.{Oids, Stepper, Trsync, Endstop, Finish}
use Rattle.board_asking.specs.Asking.{after_asks, after_clock, after_drift, after_piece, answered, asked, asks, asks_clock, hears_first, is_in_time, more, new_asking, or_asking, sample_of, settled, tells_clock, were_put}
use Rattle.board_asking.specs.Drift.{after_question, is_asked_now, is_unanswered}
use Rattle.board_asking.specs.Machine.{control_bytes, fitting, setup_command}
use Rattle.host_reactor.specs.Laws.{uptimes}
use Rattle.host_reactor.proofs.Uptimes.{append as uptimes_append, commands-none}
use Rattle.laws_board.specs.turns.Turns.{BoardTurn, latest_state, stands_after}
use Rattle.laws_board.specs.clocks.Runs.{IsInRun, UnitsFit, orders_in}
use Rattle.laws_board.proofs.clocks.Limits.{closes_same, control_bytes as control_limit, control_closing}
use Rattle.laws_board.proofs.clocks.Lines.{run_before, turn_of}
use Rattle.laws_board.proofs.clocks.Orders.{order_length, turns_in_order}
use Rattle.laws_board.proofs.clocks.Turning.{Asks, BoardTurned, Ends, Runs, asking_at, heard_now, new_at}
use Rattle.laws_board.specs.causes.Causes.{before_turn}
use Rattle.laws_board.proofs.causes.Turns.{before_all, before_less}
use Rattle.laws_board.proofs.causes.Owed.{Matches, turn_matches}
use Rattle.laws_board.proofs.causes.Told.{one_of}
use Rattle.host_reactor.proofs.Once.{stop-none}

abbrev pub closing_of : List Cmd → ℕ
closing_of cs = closing_in (map on_wire (map plain cs))

pub closing_same : (cs : List Cmd) → closing_of cs ≡ uptimes cs
closing_same [] = refl
closing_same (c ∷ cs) = let i = closing_same cs in let e = ap {B = ℕ} (λ (b : Bool). cond b 1 0) (closes_same c) in omega arith

-- the commands of units close no block
one_open : (m : Meant) (ms : List Meant) → closes m.command ≡ false → closing_in (map on_wire ms) ≡ 0 → closing_in (map on_wire (m ∷ ms)) ≡ 0
one_open m ms e f = let one = ap {B = ℕ} (λ (b : Bool). cond b 1 0) e in omega arith

unit_open : (resets dirs : List Cmd) (m : Meant) → closing_of resets ≡ 0 → closing_of dirs ≡ 0 → closes m.command ≡ false → closing_in (map on_wire (map plain resets ++ (map plain dirs ++ m ∷ []))) ≡ 0
unit_open resets dirs m e f g =
    let last : closing_in (map on_wire (m ∷ [])) ≡ 0 = one_open m [] g refl in
    omega (
      arith,
      ap closing_in (map-append on_wire (map plain resets) (map plain dirs ++ m ∷ [])),
      closing_append (map on_wire (map plain resets)) (map on_wire (map plain dirs ++ m ∷ [])),
      ap closing_in (map-append on_wire (map plain dirs) (m ∷ [])),
      closing_append (map on_wire (map plain dirs)) (map on_wire (m ∷ [])),
    )

resets_open : (oid : ℕ) (reset : Option ℕ) → closing_of (reset_commands oid reset) ≡ 0
resets_open oid None = refl
resets_open oid (Some tick) = refl

dirs_open : (oid : ℕ) (dir : Option Bool) → closing_of (dir_commands oid dir) ≡ 0
dirs_open oid None = refl
dirs_open oid (Some up) = refl

pub units_open : (us : List StepUnit) → closing_in (map on_wire (units_orders us)) ≡ 0
units_open [] = refl
units_open (u ∷ us) =
    let one = unit_open (reset_commands u.stepper u.reset) (dir_commands u.stepper u.up) (record { command = step_command u; ticks = unit_ticks u }) (resets_open u.stepper u.reset) (dirs_open u.stepper u.up) refl in
    let rest = units_open us in
    omega (arith, ap closing_in (map-append on_wire (unit_orders u) (units_orders us)), closing_append (map on_wire (unit_orders u)) (map on_wire (units_orders us)))

units_fit : (t : BoardTurn) → bytes_in (map on_wire (units_orders t.batch.units)) ≤ 210 → AllFit (map on_wire (units_orders t.batch.units))
units_fit t h = (limits_few (orders (record { turn = 0; commands = []; connected = false; end = false }) t.batch) (record { controls = omega arith; units = h; closing = omega arith })).fit

few_fit : (cs : List Command) → bytes_in cs ≤ 59 → AllFit cs
few_fit [] h = tt
few_fit (c ∷ cs) h = (omega arith, few_fit cs (omega arith))

-- what is heard changes neither
record Kept (x a : Asking) : Type 0 where
  pub owed : x.owed ≡ a.owed
  pub put : x.put ≡ a.put

abbrev KeptIn : Option Asking → Asking → Type 0
KeptIn None a = Unit {0}
KeptIn (Some x) a = Kept x a

kept_if : (b : Bool) (x a : Asking) → Kept x a → KeptIn (cond b (Some x) None) a
kept_if true x a k = k
kept_if false x a k = tt

kept_answer : (turn : ℕ) (a : Asking) (stage : Stage) (number : ℕ) (c : Cmd) → KeptIn (answered turn a stage number c) a
kept_answer turn a (Identify offset) number (cmd.IdentifyResponse of bytes) = kept_if (offset == of) (after_piece a offset (length bytes.items)) a (record { owed = refl; put = refl })
kept_answer turn a Uptime number (cmd.Uptime high low) = kept_if (tells_clock a number) (after_clock a (sample_of a turn high low)) a (record { owed = refl; put = refl })
kept_answer turn a Config number (cmd.Config is_config crc is_shutdown move_count) = kept_if (is_config == 1) (settled a Connected) a (record { owed = refl; put = refl })
kept_answer turn a Connected number (cmd.Uptime high low) = kept_if (tells_clock a number) (after_drift a (sample_of a turn high low)) a (record { owed = refl; put = refl })
kept_answer turn a stage number c = tt

kept_or : (o : Option Asking) (b a : Asking) → KeptIn o a → Kept b a → Kept (or_asking o b) a
kept_or None b a m k = k
kept_or (Some x) b a m k = m

kept_hears : (turn : ℕ) (news : List News) (a : Asking) → Kept (hears_first turn news a) a
kept_hears turn [] a = record { owed = refl; put = refl }
kept_hears turn (n ∷ news) a = kept_or (answered turn a a.stage n.number n.answer) (hears_first turn news a) a (kept_answer turn a a.stage n.number n.answer) (kept_hears turn news a)

kept_either : (b : Bool) (x y a : Asking) → Kept x a → Kept y a → Kept (cond b x y) a
kept_either true x y a k l = k
kept_either false x y a k l = l

-- an asking once the state of the latest turn told what was put
abbrev pub put_now : Asking → List BoardTurn → Asking
put_now a [] = a
put_now a (t ∷ turns) = were_put t.state.turn t.state.asked a

kept_now : (a : Asking) (turns : List BoardTurn) → Kept (heard_now a (latest_state turns)) (put_now a turns)
kept_now a [] = record { owed = refl; put = refl }
kept_now a (t ∷ turns) =
    let b = were_put t.state.turn t.state.asked a in
    kept_either (is_in_time t.state.turn b.since) (hears_first t.state.turn t.state.news b) b b (kept_hears t.state.turn t.state.news b) (record { owed = refl; put = refl })

-- what is asked in a turn
record Owing (a y : Asking) (commands : List Cmd) : Type 0 where
  pub owed : y.owed ≡ a.owed + closing_of commands
  pub put : y.put ≡ a.put

setups_open : (ss : List Setup) → closing_of (map setup_command ss) ≡ 0
setups_open [] = refl
setups_open (Oids count ∷ ss) = let i = setups_open ss in omega arith
setups_open (Stepper oid step dir ∷ ss) = let i = setups_open ss in omega arith
setups_open (Trsync oid ∷ ss) = let i = setups_open ss in omega arith
setups_open (Endstop oid pin ∷ ss) = let i = setups_open ss in omega arith
setups_open (Finish ∷ ss) = let i = setups_open ss in omega arith

none_owed : (b : Bool) (k : ℕ) (a : Asking) (stage : Stage) (c : Cmd) → a.stage ≡ stage → asks_clock stage ≡ false → closing_of (c ∷ []) ≡ 0 → Owing a (cond b (asked k a) a) (cond b (c ∷ []) [])
none_owed true k a stage c e f g =
    let same : (asked k a).owed ≡ a.owed = ap (λ (t : Bool). cond t (more a.owed) a.owed) (ap asks_clock e ∙ f) in
    record { owed = omega (arith, same, g); put = refl }
none_owed false k a stage c e f g = record { owed = omega arith; put = refl }

one_owed : (b : Bool) (k : ℕ) (a : Asking) → a.owed < 2 ^ 59 → a.stage ≡ Uptime → Owing a (cond b (asked k a) a) (cond b (cmd.GetUptime ∷ []) [])
one_owed true k a few e =
    let same : (asked k a).owed ≡ more a.owed = ap (λ (t : Bool). cond t (more a.owed) a.owed) (ap asks_clock e) in
    record { owed = omega (arith, same); put = refl }
one_owed false k a few e = record { owed = omega arith; put = refl }

no_commands : (b : Bool) → closing_of (cond b [] []) ≡ 0
no_commands true = refl
no_commands false = refl

owing_asks : (setups : List Setup) (k : ℕ) (a : Asking) (stage : Stage) → a.owed < 2 ^ 59 → a.stage ≡ stage → Owing a (after_asks setups k a stage) (asks setups k a stage)
owing_asks setups k a (Identify offset) few e = none_owed (is_question_due k a.since) k a (Identify offset) (cmd.Identify offset 40) e refl refl
owing_asks setups k a Uptime few e = one_owed (is_question_due k a.since) k a few e
owing_asks setups k a (Configure n) few e = record { owed = omega (arith, setups_open (fitting control_bytes (drop n setups))); put = refl }
owing_asks setups k a Config few e = none_owed (is_question_due k a.since) k a Config cmd.GetConfig e refl refl
owing_asks setups k a Connected few e = record { owed = omega (arith, no_commands (is_question_due k a.since)); put = refl }

owing_question : (k : ℕ) (homing stop : List Cmd) (a : Asking) (b : Bool) → uptimes homing ≡ 0 → uptimes stop ≡ 0 → a.owed < 2 ^ 59
    → Owing a (cond b (record a { since = Some k; first = cond (a.missed == 0) k a.first; owed = more a.owed; waits = false }) a) (homing ++ (cond b (cmd.GetUptime ∷ []) [] ++ stop))
owing_question k homing stop a true h s few =
    let both = uptimes_append homing (cmd.GetUptime ∷ stop) in
    record { owed = omega (arith, closing_same (homing ++ (cmd.GetUptime ∷ stop))); put = refl }
owing_question k homing stop a false h s few =
    let both = uptimes_append homing stop in
    record { owed = omega (arith, closing_same (homing ++ stop)); put = refl }

kept_waits : (drifting : Bool) (k : ℕ) (a : Asking) → Kept (waits_in drifting k a) a
kept_waits drifting k a =
    let missed = record a { missed = more a.missed; waits = true } in
    let waiting = record a { waits = true } in
    kept_either (is_unanswered k a.since) missed (cond (is_asked_now drifting k a.since) waiting a) a (record { owed = refl; put = refl })
    (kept_either (is_asked_now drifting k a.since) waiting a a (record { owed = refl; put = refl }) (record { owed = refl; put = refl }))

owing_turn : (m : Machine) (r : Known) (b k : ℕ) (states : List State) (a : Asking) (x : Reacted) (c : Control) (y : Asking) → a.owed < 2 ^ 59 → asking_at b x.known.askings.items ≡ y ∷ []
    → BoardTurned m r b k states a x c → Owing a y c.commands
owing_turn m r b k states a x c y few at (Asks p g) =
    let setups = configuration m b in
    let ra = ready setups a in
    let o = owing_asks setups k ra ra.stage few refl in
    let same : y ≡ after_asks setups k ra ra.stage = one_of y _ (sym at ∙ g.asking) in
    record {
      owed = ap (λ (z : Asking). z.owed) same ∙ o.owed ∙ ap (λ (z : Control). a.owed + closing_of z.commands) (sym g.control_is);
      put = ap (λ (z : Asking). z.put) same ∙ o.put;
    }
owing_turn m r b k states a x c y few at (Ends p g) =
    let same : y ≡ ready (configuration m b) a = one_of y _ (sym at ∙ g.asking) in
    let none : closing_of c.commands ≡ 0 = ap (λ (z : Control). closing_of z.commands) g.control_is in
    record { owed = omega (arith, ap (λ (z : Asking). z.owed) same); put = ap (λ (z : Asking). z.put) same }
owing_turn m r b k states a x c y few at (Runs p g) =
    let waits = waits_in (drifts (board_at m b).drift) k a in
    let kept = kept_waits (drifts (board_at m b).drift) k a in
    let turn = homing_turn r.clocks k states r.homing in
    let homing = homing_commands m turn g.own b in
    let o = owing_question k homing (stop_command (stops g.stop)) waits (asks_now homing waits) (commands-none m g.own b turn.start (axis_at m turn.axis) turn.ctls.items) (stop-none (stops g.stop)) (omega (arith, kept.owed)) in
    let same : y ≡ after_question k homing waits = one_of y _ (sym at ∙ g.asking) in
    record {
      owed = ap (λ (z : Asking). z.owed) same ∙ o.owed ∙ ap (λ (n : ℕ). n + closing_of (homing ++ (clock_question homing waits ++ stop_command (stops g.stop)))) kept.owed
          ∙ ap (λ (z : Control). a.owed + closing_of z.commands) (sym g.control_is);
      put = ap (λ (z : Asking). z.put) same ∙ o.put ∙ kept.put;
    }

-- over a run
pub record Owes (turns : List BoardTurn) (a : Asking) (l : Link) : Type 0 where
  pub matches : Matches (put_now a turns) l
  pub few : a.owed ≤ length turns
  pub now : (put_now a turns).owed ≤ length turns

fewer : (turn : ℕ) (ns : List ℕ) (a : Asking) → (were_put turn ns a).owed ≤ a.owed
fewer turn [] a = omega arith
fewer turn (n ∷ ns) a = let i = fewer turn ns (record a { owed = a.owed - 1; put = Some (record { number = n; turn = turn }) }) in omega arith

pub owes : (m : Machine) (switches : List Switch) (pins : List (List Level)) (entries : List Entry) (b : ℕ) (came : List Came) (turns : List BoardTurn) → IsValidMachine m
    → IsInRun m switches pins entries b came turns → UnitsFit turns → length turns < 2 ^ 59 → (a : Asking) → asking_at b (known_by m switches came).askings.items ≡ a ∷ []
    → Owes turns a (stands_after (first_state (board_at m b) pins b entries) turns).core.link
owes m switches pins entries b [] [] v r u small a e =
    let same : new_asking ≡ a = one_of new_asking a (sym (new_at b m.boards r.board) ∙ e) in
    subst (λ (x : Asking). Owes [] x (first_state (board_at m b) pins b entries).core.link) same
    (record { matches = record { owed = refl; put = refl; fit = tt }; few = omega arith; now = omega arith })
owes m switches pins entries b [] (t ∷ turns) v r u small a e = absurd r.both
owes m switches pins entries b (c ∷ before) [] v r u small a e = absurd r.both
owes m switches pins entries b (c ∷ before) (t ∷ turns) v r u small y e =
    let clock = clock_of (board_at m b) in
    let first = first_state (board_at m b) pins b entries in
    let l = stands_after first turns in
    let x = turn_of m switches pins entries b c before t turns r in
    let rest = run_before m switches pins entries b c before t turns r in
    let old = owes m switches pins entries b before turns v rest u.1 (omega arith) x.first x.was in
    let was = put_now x.first turns in
    let kept = kept_now x.first turns in
    let owed_a : x.a.owed ≡ was.owed = ap (λ (z : Asking). z.owed) x.hears ∙ kept.owed in
    let put_a : x.a.put ≡ was.put = ap (λ (z : Asking). z.put) x.hears ∙ kept.put in
    let now = old.now in
    let o = owing_turn m (noted m c.note (known_by m switches before)) b (length before) c.states x.a (last_reacted m switches c before) t.control y (omega (arith, owed_a, now, small)) e x.turned in
    let sound = (begins (board_at m b) pins b entries (orders_in turns) l (turns_in_order clock first turns rest.turns_are)).sound in
    let told = r.turns_are.0 in
    let fit = few_fit (map on_wire (map plain t.control.commands)) (let k = control_limit m switches pins entries b c before t turns v r in omega arith) in
    let one = control_closing m switches pins entries b c before t turns r in
    let done = turn_matches clock (length turns) t.state.turn (orders t.control t.batch) l t.after was y (subst (λ (n : ℕ). IsSound l n) (order_length turns) sound) told.0
    (o.owed ∙ ap (λ (n : ℕ). n + closing_of t.control.commands) owed_a) (o.put ∙ put_a) fit (units_fit t u.0) (units_open t.batch.units) old.matches in
    let few : y.owed ≤ length (t ∷ turns) = omega (arith, o.owed, owed_a, one, now) in
    record {
      matches = subst (λ (ns : List ℕ). Matches (were_put t.state.turn ns y) t.after.core.link) (sym told.1.asked) done;
      few = few;
      now = omega (arith, fewer t.state.turn t.state.asked y, few);
    }

pub units_before : (k : ℕ) (turns : List BoardTurn) → UnitsFit turns → UnitsFit (before_turn k turns)
units_before k [] u = tt
units_before k (t ∷ turns) u = elim (leb_tells k (length turns)) [
  | inl p ↦ subst (λ (l : List BoardTurn). UnitsFit l) (sym (before_less k t turns p.1)) (units_before k turns u.1)
  | inr p ↦ let q = p.1 in subst (λ (l : List BoardTurn). UnitsFit l) (sym (before_all k (t ∷ turns) (omega arith))) u
]
