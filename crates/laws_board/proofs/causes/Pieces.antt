-- What comes of a board's dictionary over its link: a whole piece lies within it.
use Rattle.std.proofs.Common.{◌≡◌, ℕ, zero, suc, ◌+◌, ◌-◌, ◌/◌, ◌^◌, ◌<◌, ◌≤◌, inl, inr, Bool, true, false, cond, not, List, [], ◌∷◌, ◌++◌, length, map, drop, min, Option, Some, None, refl, ap, sym, ◌∙◌, subst, arith, length-append}
use Rattle.std.specs.Prelude.{◌&&◌, nat_le, nat_lt, slice_index_or}
use Rattle.laws_board.proofs.Names.{leb_tells, BoardClock, Level, BoardDef, BoardState, Running, Shut, clock_of, own_formats, Cmd, News, State, IsText, Entry, Up, Reply, Pending, Trigger, Controller, commands_of, Passed, Rig, Slot, acts, acts_running, all_left, at_of, becomes, earliest_moment, expires_at_once, goes_on, happens_to, pass, passes, passes_by, rests_to, runs_to, set_timeout, slot_at, takes, takes_all, Event, Core, Do, Step, Turn, does, after_event, in_turn, run_world, says, takes_in, wire_text, first_state, orders, IsTurn, LinkState, Orders, after_host, come}
use Rattle.std.proofs.lemmas.List.{length-drop, length-take}
use Rattle.arrayvec.specs.ArrayVec.{ArrayVec}
use Rattle.plan_types.specs.declared.plan.Triple.{Triple}
use Rattle.vlq_code.specs.Spelling.{Spells, spelling}
use Rattle.vlq_code.proofs.Lengths.{spelling_length_is, spelling_spells}
use Rattle.vlq_code.proofs.Spelled.{joined_alike, one_number}
use Rattle.msg_dict.specs.Table.{kinds, own_id}
use Rattle.msg_dict.specs.declared.row.Row.{Row}
use Rattle.msg_dict.specs.declared.row.Row.TheVariants as row
use Rattle.msg_dict.specs.declared.row.Kind.TheVariants as kind
use Rattle.msg_code.specs.declared.Param.{Param}
use Rattle.msg_code.specs.declared.Param.TheVariants as param
use Rattle.msg_code.specs.declared.cmd.Cmd.TheVariants as cmd
use Rattle.msg_code.specs.Table.{bytes_at, command, params_of, row_of}
use Rattle.msg_code.specs.Text.{SpellsAll, params_text}
use Rattle.msg_code.proofs.Counts.{count_bounds}
use Rattle.msg_code.proofs.Sizes.{own_length, own_text}
use Rattle.msg_code.proofs.Texts.{one_text}
use Rattle.link_core.specs.Core.{numbered}
use Rattle.board_step.specs.Steps.{ticks_at}
use Rattle.board_trig.specs.declared.sampling.Homing.{Homing}
use Rattle.board_trig.specs.declared.trigger.TrigEvent.{TrigEvent}
use Rattle.board_trig.specs.Trigger as trig
use Rattle.board_sim.specs.Board.{stepper_at}
use Rattle.board_sim.specs.Board as board
use Rattle.board_sim.specs.Rig.{RigDone, bind, home, start_trigger, trigger_answers, trigger}
use Rattle.board_sim.specs.Rig as rig
use Rattle.board_sim.specs.Turn.{says_shut}
use Rattle.board_world.specs.declared.event.Event.TheVariants as event
use Rattle.board_world.specs.Stands.{IsAnswer}
use Rattle.board_world.specs.World.{shut_before}
use Rattle.link_work.specs.Told.{AreNews, IsTold, before_replies, news_of}
use Rattle.link_work.specs.Turn.{board_steps, host_steps}
use Rattle.laws_board.specs.turns.Turns.{AreBoardTurns, BoardTurn, stands_after}
use Rattle.laws_board.proofs.clocks.Answers.{Each, each_both}
use Rattle.laws_board.proofs.clocks.Replies.{AllUp, up_by, up_come}
use Rattle.laws_board.proofs.clocks.Uptimes.{none_said, own_row, row_back, same_row, small}
use Rattle.laws_board.specs.causes.Short.{dictionary_of}
use Rattle.laws_board.proofs.causes.Made.{endstop_same, halts_same, made_same, passes_same}
use Rattle.laws_board.proofs.causes.Said.{piece_text}

-- an answer with a part of a dictionary of so many bytes has no more bytes than are left of it
abbrev pub IsPiece : ℕ → Cmd → Type 0
IsPiece size (cmd.IdentifyResponse offset bytes) = (length bytes.items ≤ 40) × (length bytes.items ≤ size - offset)
IsPiece size c = Unit {0}

-- the dictionary of a board is this text, and what it answers is so
record Tells (text : List ℕ) (b : Controller) (answers : List Cmd) : Type 0 where
  pub same : b.dictionary ≡ text
  pub pieces : Each (IsPiece (length text)) answers

-- the steppers' board
abbrev TellsBy : List ℕ → board.Done → Type 0
TellsBy text d = Tells text d.board d.answers

either_by : (text : List ℕ) (t : Bool) (x y : board.Done) → TellsBy text x → TellsBy text y → TellsBy text (cond t x y)
either_by text true x y k l = k
either_by text false x y k l = l

triple_by : (text : List ℕ) (o : Option (ℕ × ℕ)) (b : Controller) (oid : ℕ) (q : Pending) (ticks : List ℕ) → b.dictionary ≡ text → TellsBy text (board.takes_triple o b oid q ticks)
triple_by text None b oid q ticks e = record { same = e; pieces = tt }
triple_by text (Some r) b oid q ticks e = record { same = e; pieces = (tt, tt) }

queue_by : (text : List ℕ) (b : Controller) (oid : ℕ) (o : Option Pending) (t : Triple) → b.dictionary ≡ text → TellsBy text (board.queue_step b oid o t)
queue_by text b oid None t e = record { same = e; pieces = tt }
queue_by text b oid (Some q) t e =
    let ticks = ticks_at (board.first_of b.tick q t) t in
    let refused = board.refusal b.tick q t in
    either_by text q.halted (board.quiet b) (board.takes_triple refused b oid q ticks) (record { same = e; pieces = tt }) (triple_by text refused b oid q ticks e)

dir_by : (text : List ℕ) (b : Controller) (oid : ℕ) (o : Option Pending) (dir : ℕ) → b.dictionary ≡ text → TellsBy text (board.set_dir b oid o dir)
dir_by text b oid None dir e = record { same = e; pieces = tt }
dir_by text b oid (Some q) dir e = record { same = e; pieces = tt }

reset_by : (text : List ℕ) (b : Controller) (oid : ℕ) (o : Option Pending) (clock : ℕ) → b.dictionary ≡ text → TellsBy text (board.reset b oid o clock)
reset_by text b oid None clock e = record { same = e; pieces = tt }
reset_by text b oid (Some q) clock e =
    either_by text (board.is_none_pending q.groups) (board.quiet (board.with_stepper b oid (record q { last = clock; halted = false }))) (board.stop b board.stepper_active 0) (record { same = e; pieces = tt })
    (record { same = e; pieces = (tt, tt) })

make_by : (text : List ℕ) (b : Controller) (oid : ℕ) (o : Option Pending) → b.dictionary ≡ text → TellsBy text (board.make_stepper b oid o)
make_by text b oid None e = record { same = e; pieces = tt }
make_by text b oid (Some q) e = record { same = e; pieces = tt }

board_acts : (text : List ℕ) (b : Controller) (c : Cmd) → b.dictionary ≡ text → TellsBy text (board.acts b c)
board_acts text b cmd.EmergencyStop e = record { same = e; pieces = (tt, tt) }
board_acts text b (cmd.ConfigStepper oid step dir invert width) e = make_by text b oid (stepper_at b oid) e
board_acts text b (cmd.QueueStep oid interval count add) e = queue_by text b oid (stepper_at b oid) (record { interval = interval; count = count; add = add }) e
board_acts text b (cmd.SetNextStepDir oid dir) e = dir_by text b oid (stepper_at b oid) dir e
board_acts text b (cmd.ResetStepClock oid clock) e = reset_by text b oid (stepper_at b oid) clock e
board_acts text b c e = record { same = e; pieces = tt }

board_running : (text : List ℕ) (s : BoardState) (b : Controller) (c : Cmd) → b.dictionary ≡ text → TellsBy text (board.acts_running s b c)
board_running text Running b c e = board_acts text b c e
board_running text (Shut reason tick first) b c e = record { same = e; pieces = tt }

board_takes : (text : List ℕ) (b : Controller) (c : Cmd) → b.dictionary ≡ text → TellsBy text (board.takes b c)
board_takes text b (cmd.Identify offset count) e =
    let some = length-take (min count 40) (drop offset b.dictionary) in
    let left = length-drop offset b.dictionary in
    record { same = e; pieces = ((omega (arith, some), omega (arith, some, left, ap length e)), tt) }
board_takes text b cmd.GetConfig e = record { same = e; pieces = (tt, tt) }
board_takes text b cmd.GetUptime e = record { same = e; pieces = (tt, tt) }
board_takes text b c e = board_running text b.state b c e

-- the board with its triggers
abbrev TellsOf : List ℕ → RigDone → Type 0
TellsOf text d = Tells text d.rig.controller d.answers

becomes_of : (text : List ℕ) (r : Rig) (oid : ℕ) (s : Slot) (t : Trigger) → r.controller.dictionary ≡ text → (becomes r oid s t).controller.dictionary ≡ text
becomes_of text r oid s t e = (halts_same (s.trigger.can && not t.can) s.bound r.controller).dictionary ∙ e

start_of : (text : List ℕ) (r : Rig) (oid : ℕ) (o : Option Slot) (clock every reason : ℕ) → r.controller.dictionary ≡ text → (start_trigger r oid o clock every reason).controller.dictionary ≡ text
start_of text r oid None clock every reason e = e
start_of text r oid (Some s) clock every reason e = becomes_of text r oid s (trig.started r.controller.tick clock every reason s.trigger) e

expires_of : (text : List ℕ) (o : Option ℕ) (r : Rig) (oid : ℕ) (s : Slot) (t : Trigger) → r.controller.dictionary ≡ text → TellsOf text (expires_at_once r oid s t o)
expires_of text None r oid s t e = record { same = becomes_of text r oid s t e; pieces = tt }
expires_of text (Some n) r oid s t e = record { same = becomes_of text r oid s (record t { untold = None }) e; pieces = (tt, tt) }

timeout_of : (text : List ℕ) (r : Rig) (oid : ℕ) (o : Option Slot) (clock : ℕ) → r.controller.dictionary ≡ text → TellsOf text (set_timeout r oid o clock)
timeout_of text r oid None clock e = record { same = e; pieces = tt }
timeout_of text r oid (Some s) clock e =
    let t = trig.with_timeout r.controller.tick clock s.trigger in
    expires_of text t.untold r oid s t e

trigger_of : (text : List ℕ) (r : Rig) (oid : ℕ) (o : Option Slot) (reason : ℕ) → r.controller.dictionary ≡ text → TellsOf text (trigger r oid o reason)
trigger_of text r oid None reason e = record { same = e; pieces = tt }
trigger_of text r oid (Some s) reason e = record { same = becomes_of text r oid s (trig.triggered r.controller.tick reason s.trigger) e; pieces = (tt, tt) }

bind_of : (text : List ℕ) (r : Rig) (oid : ℕ) (o : Option Pending) (other : ℕ) (s : Option Slot) → r.controller.dictionary ≡ text → (bind r oid o other s).controller.dictionary ≡ text
bind_of text r oid None other s e = e
bind_of text r oid (Some q) other None e = e
bind_of text r oid (Some q) other (Some s) e = (halts_same (not s.trigger.can) (oid ∷ []) r.controller).dictionary ∙ e

home_of : (text : List ℕ) (r : Rig) (o : Option ℕ) (other : ℕ) (s : Option Slot) (h : Homing) → r.controller.dictionary ≡ text → (home r o other s h).controller.dictionary ≡ text
home_of text r None other s h e = e
home_of text r (Some pin) other None h e = e
home_of text r (Some pin) other (Some s) h e = e

rig_acts : (text : List ℕ) (r : Rig) (c : Cmd) → r.controller.dictionary ≡ text → TellsOf text (acts r c)
rig_acts text r (cmd.ConfigTrsync oid) e = record { same = ap (λ (x : Controller). x.dictionary) (made_same r oid (slot_at r oid)) ∙ e; pieces = tt }
rig_acts text r (cmd.TrsyncStart oid clock every reason) e = record { same = start_of text r oid (slot_at r oid) clock every reason e; pieces = tt }
rig_acts text r (cmd.TrsyncSetTimeout oid clock) e = timeout_of text r oid (slot_at r oid) clock e
rig_acts text r (cmd.TrsyncTrigger oid reason) e = trigger_of text r oid (slot_at r oid) reason e
rig_acts text r (cmd.StepperStopOnTrigger oid other) e = record { same = bind_of text r oid (stepper_at r.controller oid) other (slot_at r other) e; pieces = tt }
rig_acts text r (cmd.ConfigEndstop oid pin pull) e = record { same = ap (λ (x : Controller). x.dictionary) (endstop_same r oid pin (slice_index_or r.endstops oid None)) ∙ e; pieces = tt }
rig_acts text r (cmd.EndstopHome oid clock sample count rest value other reason) e = record {
  same = home_of text r (slice_index_or r.endstops oid None) other (slot_at r other)
      (record { clock = clock; sample_ticks = sample; sample_count = count; rest_ticks = rest; pin_value = value; reason = reason }) e;
  pieces = tt;
}
rig_acts text r c e = board_takes text r.controller c e

rig_running : (text : List ℕ) (s : BoardState) (r : Rig) (c : Cmd) → r.controller.dictionary ≡ text → TellsOf text (acts_running s r c)
rig_running text Running r c e = rig_acts text r c e
rig_running text (Shut reason tick first) r c e = board_takes text r.controller c e

rig_all : (text : List ℕ) (r : Rig) (cs : List Cmd) → r.controller.dictionary ≡ text → TellsOf text (takes_all r cs)
rig_all text r [] e = record { same = e; pieces = tt }
rig_all text r (c ∷ cs) e =
    let one = rig_running text r.controller.state r c e in
    let rest = rig_all text (takes r c).rig cs one.same in
    record { same = rest.same; pieces = each_both (IsPiece (length text)) (takes r c).answers (takes_all (takes r c).rig cs).answers one.pieces rest.pieces }

-- while time passes
told_pieces : (size oid : ℕ) (o : Option TrigEvent) → Each (IsPiece size) (trigger_answers oid o)
told_pieces size oid None = tt
told_pieces size oid (Some e) = (tt, tt)

happens_pieces : (size : ℕ) (r : Rig) (until oid : ℕ) (o : Option Slot) → Each (IsPiece size) (happens_to r until oid o).answers
happens_pieces size r until oid None = tt
happens_pieces size r until oid (Some s) = told_pieces size oid (trig.advanced (slice_index_or r.pins s.pin []) until s.trigger).event

goes_pieces : (size : ℕ) (o : Option (ℕ × ℕ)) (x y : Passed) → Each (IsPiece size) x.answers → Each (IsPiece size) y.answers → Each (IsPiece size) (goes_on o x y).answers
goes_pieces size None x y k l = k
goes_pieces size (Some at) x y k l = l

pass_pieces : (size n : ℕ) (r : Rig) (t : ℕ) → Each (IsPiece size) (pass n r t).answers
pass_pieces size zero r t = tt
pass_pieces size (suc n) r t =
    let next = earliest_moment r t 0 r.triggers in
    let ran = runs_to r ((at_of next).0 / 3) in
    let first = rig.happens_at r t (at_of next) in
    goes_pieces size next (rests_to r t) (passes_by first (pass n first.rig t)) tt
    (each_both (IsPiece size) first.answers (pass n first.rig t).answers (happens_pieces size ran.rig t (at_of next).1 (slot_at ran.rig (at_of next).1)) (pass_pieces size n first.rig t))

either_pieces : (size : ℕ) (t : Bool) (x y : Passed) → Each (IsPiece size) x.answers → Each (IsPiece size) y.answers → Each (IsPiece size) (cond t x y).answers
either_pieces size true x y k l = k
either_pieces size false x y k l = l

each_if : (P : Cmd → Type 0) (t : Bool) (xs : List Cmd) → Each P xs → Each P (cond t xs [])
each_if P true xs k = k
each_if P false xs k = tt

shut_pieces : (size : ℕ) (s : BoardState) (from to : ℕ) → Each (IsPiece size) (says_shut s from to)
shut_pieces size Running from to = tt
shut_pieces size (Shut reason at first) from to = each_if (IsPiece size) (nat_lt from to) (cmd.IsShutdown reason ∷ []) (tt, tt)

says_pieces : (size : ℕ) (r : Rig) (t : ℕ) → Each (IsPiece size) (says r t)
says_pieces size r t =
    each_both (IsPiece size) (passes r t).answers (says_shut (shut_before r.controller.state r.controller.tick) r.controller.tick t)
    (either_pieces size (nat_le r.controller.tick t) (pass (all_left t r.triggers + 1) r t) (record { rig = r; pulses = []; answers = [] }) (pass_pieces size (all_left t r.triggers + 1) r t) tt)
    (shut_pieces size (shut_before r.controller.state r.controller.tick) r.controller.tick t)

-- which bytes are a piece
row_is : (c d : Cmd) → IsText own_formats d (wire_text c) → row_of c ≡ row_of d
row_is c d t =
    let i = t.spelled in
    let id = own_id (row_of c) in
    let mine : Spells (spelling id) id = spelling_spells id (small (row_of c)) in
    let whole : i.first ++ i.rest ≡ spelling id ++ params_text (params_of c) = sym i.joined ∙ own_text c in
    let first : i.first ≡ spelling id = joined_alike i.first (spelling id) i.rest (params_text (params_of c)) i.is_first.joined mine.joined whole in
    let same : t.id ≡ id = one_number i.first (spelling id) t.id id i.is_first mine first in
    let is : t.row ≡ row_of c = same_row t.id id t.row (row_of c) same t.known (own_row (row_of c)) in
    sym is ∙ sym (row_back t.row t.params) ∙ ap row_of (sym t.says)

two_long : (ps : List Param) (text : List ℕ) → SpellsAll (kind.Number ∷ kind.Bytes ∷ []) ps text → length (bytes_at ps 1).items ≤ length text
two_long [] text s = absurd s
two_long (p ∷ []) text s = absurd s.1.is_rest
two_long (p ∷ (param.Number n ∷ ps)) text s = absurd s.1.is_rest.0
two_long (p ∷ (param.Bytes bytes ∷ ps)) text s =
    let i = s.1 in
    let j = i.is_rest.1 in
    let k = j.is_first in
    omega (arith, ap length i.joined, length-append i.first i.rest, ap length j.joined, length-append j.first j.rest, ap length k.joined, length-append k.number bytes.items)

same_piece : (m n : ℕ) (x y : ArrayVec ℕ) → cmd.IdentifyResponse m x ≡ cmd.IdentifyResponse n y → (m ≡ n) × (x ≡ y)
same_piece m n x y e = (cc, cc)

piece_long : (offset : ℕ) (bytes : ArrayVec ℕ) (text : List ℕ) → IsText own_formats (cmd.IdentifyResponse offset bytes) text → length bytes.items ≤ length text
piece_long offset bytes text t =
    let i = t.spelled in
    let is : t.row ≡ row.IdentifyResponse = sym (row_back t.row t.params) ∙ ap row_of (sym t.says) in
    let spelled : SpellsAll (kinds row.IdentifyResponse) t.params i.rest = subst (λ (r : Row). SpellsAll (kinds r) t.params i.rest) is i.is_rest in
    let says : cmd.IdentifyResponse offset bytes ≡ command row.IdentifyResponse t.params = t.says ∙ ap (λ (r : Row). command r t.params) is in
    let same = same_piece _ _ _ _ says in
    let long = two_long t.params i.rest spelled in
    omega (arith, ap (λ (x : ArrayVec ℕ). length x.items) same.1, ap length i.joined, length-append i.first i.rest)

piece_short : (offset : ℕ) (bytes : ArrayVec ℕ) → length bytes.items ≡ 0 → length (wire_text (cmd.IdentifyResponse offset bytes)) < 40
piece_short offset bytes e =
    let c = cmd.IdentifyResponse offset bytes in
    let whole = own_length c in
    let id = (count_bounds (own_id (row_of c))).1 in
    let first = (count_bounds offset).1 in
    let second = (count_bounds (length bytes.items)).1 in
    let last = spelling (length bytes.items) ++ bytes.items in
    omega (
      arith,
      length-append (spelling offset) (last ++ []),
      spelling_length_is offset,
      length-append last [],
      length-append (spelling (length bytes.items)) bytes.items,
      spelling_length_is (length bytes.items),
    )

-- a whole piece lies within the dictionary
abbrev pub IsWithin : ℕ → ℕ → ArrayVec ℕ → Type 0
IsWithin size offset bytes = 40 ≤ length bytes.items → offset + 40 ≤ size

by_row : (size : ℕ) (c : Cmd) (offset : ℕ) (bytes : ArrayVec ℕ) → size < 2 ^ 32 → IsPiece size c → row_of c ≡ row.IdentifyResponse → IsText own_formats (cmd.IdentifyResponse offset bytes) (wire_text c) → IsWithin size offset bytes
by_row size (cmd.IdentifyResponse at own) offset bytes few p e t whole =
    let c = cmd.IdentifyResponse at own in
    let all = p.0 in
    let left = p.1 in
    elim (leb_tells (2 ^ 32) at) [
      | inl q ↦
          let late = q.1 in
          let long = piece_long offset bytes (wire_text c) t in
          let short = piece_short at own (omega arith) in
          absurd (omega arith)
      | inr q ↦
          let near = q.1 in
          let one = one_text own_formats (cmd.IdentifyResponse offset bytes) c (wire_text c) (wire_text c) [] [] t (piece_text at own (omega arith) all) refl in
          let same = same_piece offset at bytes own one.1 in
          omega (arith, same.0, ap (λ (x : ArrayVec ℕ). length x.items) same.1)
    ]
by_row size c offset bytes few p e t whole = cc

-- a reply under way
abbrev Pieced : ℕ → Reply → Type 0
Pieced size r = (offset : ℕ) (bytes : ArrayVec ℕ) → IsText own_formats (cmd.IdentifyResponse offset bytes) r.answer → IsWithin size offset bytes

replies_pieced : (size n : ℕ) (cs : List Cmd) → size < 2 ^ 32 → Each (IsPiece size) cs → AllUp (Pieced size) (numbered n (map wire_text cs))
replies_pieced size n [] few k = tt
replies_pieced size n (c ∷ cs) few k = (λ offset bytes t. by_row size c offset bytes few k.0 (row_is c (cmd.IdentifyResponse offset bytes) t) t, replies_pieced size n cs few k.1)

-- a board and its link
record Speaks (text : List ℕ) (h : Core) : Type 0 where
  pub same : h.board.controller.dictionary ≡ text
  pub up : AllUp (Pieced (length text)) h.link.up

does_tell : (text : List ℕ) (h : Core) (e : Event) → h.board.controller.dictionary ≡ text → Tells text (does h e).board.controller (does h e).answers
does_tell text h (event.Pass t) s = record { same = (passes_same h.board t).dictionary ∙ s; pieces = says_pieces (length text) h.board t }
does_tell text h e s = rig_all text h.board (commands_of (takes_in h e)) s

speaks_by : (text : List ℕ) (h : Core) (e : Event) → length text < 2 ^ 32 → Speaks text h → Speaks text (after_event h e)
speaks_by text h e few s =
    let d = does_tell text h e s.same in
    record {
      same = d.same;
      up = up_by (Pieced (length text)) h e (λ n offset bytes t. absurd (none_said (cmd.IdentifyResponse offset bytes) t)) (λ n is. replies_pieced (length text) n (does h e).answers few d.pieces) s.up;
    }

speaks_along : (text : List ℕ) (steps : List Step) (h : Core) → length text < 2 ^ 32 → Speaks text h → Speaks text (run_world steps h)
speaks_along text [] h few s = s
speaks_along text (Do e ∷ steps) h few s = speaks_along text steps (after_event h e) few (speaks_by text h e few s)
speaks_along text (Turn turn ∷ steps) h few s = speaks_along text steps (in_turn h turn) few (record { same = s.same; up = s.up })

-- the news of a turn
abbrev pub IsWithinAll : ℕ → Cmd → Type 0
IsWithinAll size (cmd.IdentifyResponse offset bytes) = IsWithin size offset bytes
IsWithinAll size c = Unit {0}

abbrev pub AreWithin : ℕ → List News → Type 0
AreWithin size [] = Unit {0}
AreWithin size (n ∷ news) = IsWithinAll size n.answer × AreWithin size news

one_within : (size : ℕ) (r : Reply) (c : Cmd) → Pieced size r → IsText own_formats c r.answer → IsWithinAll size c
one_within size r (cmd.IdentifyResponse offset bytes) p t = p offset bytes t
one_within size r c p t = tt

first_within : (size : ℕ) (r : Reply) (o : Option Cmd) (rest : List News) → IsAnswer r o → Pieced size r → AreWithin size rest → AreWithin size (news_of r o ++ rest)
first_within size r None rest a p k = k
first_within size r (Some c) rest a p k = (one_within size r c p ((a c).0 refl), k)

news_within : (size : ℕ) (rs : List Reply) (news : List News) → AreNews rs news → AllUp (Pieced size) rs → AreWithin size news
news_within size [] news are k = subst (λ (x : List News). AreWithin size x) (sym are) tt
news_within size (r ∷ rs) news are k = subst (λ (x : List News). AreWithin size x) (sym are.4) (first_within size r are.0 are.1 are.2 k.0 (news_within size rs are.1 are.3 k.1))

turn_within : (clock : BoardClock) (turn : ℕ) (o : Orders) (l m : LinkState) (s : State) (text : List ℕ) → length text < 2 ^ 32 → (t : IsTurn clock turn o l m) → IsTold clock turn o l t.resent m.core s
    → Speaks text l.core → Speaks text m.core × AreWithin (length text) s.news
turn_within clock turn o l m s text few t told k =
    let l1 : LinkState = after_host turn o t.resent l in
    let l2 : LinkState = before_replies clock turn o t.resent l in
    let k1 : Speaks text l1.core = speaks_along text (host_steps turn o t.resent) l.core few k in
    let k2 : Speaks text l2.core = speaks_along text (board_steps clock turn l1.down.copies) l1.core few k1 in
    let k3 = speaks_along text (come Up turn l2.up.copies) l2.core few k2 in
    let came = up_come (Pieced (length text)) turn l2.up.copies l2.core k2.up in
    (subst (λ (x : LinkState). Speaks text x.core) (sym t.becomes) k3, news_within (length text) _ s.news told.news came.0)

-- over the turns of a link
begins_so : (b : BoardDef) (pins : List (List Level)) (board : ℕ) (entries : List Entry) → Speaks (dictionary_of b) (first_state b pins board entries).core
begins_so b pins board entries = record { same = refl; up = tt }

speaks : (b : BoardDef) (pins : List (List Level)) (board : ℕ) (entries : List Entry) (turns : List BoardTurn) → length (dictionary_of b) < 2 ^ 32 → AreBoardTurns (clock_of b) (first_state b pins board entries) turns
    → Speaks (dictionary_of b) (stands_after (first_state b pins board entries) turns).core
speaks b pins board entries [] few are = begins_so b pins board entries
speaks b pins board entries (t ∷ before) few are =
    let l = stands_after (first_state b pins board entries) before in
    (turn_within (clock_of b) (length before) (orders t.control t.batch) l t.after t.state (dictionary_of b) few are.0.0 are.0.1 (speaks b pins board entries before few are.1)).0

-- a whole piece that comes in a turn lies within the board's dictionary
pub within_turn : (b : BoardDef) (pins : List (List Level)) (board : ℕ) (entries : List Entry) (t : BoardTurn) (before : List BoardTurn) → length (dictionary_of b) < 2 ^ 32
    → AreBoardTurns (clock_of b) (first_state b pins board entries) (t ∷ before) → AreWithin (length (dictionary_of b)) t.state.news
within_turn b pins board entries t before few are =
    let l = stands_after (first_state b pins board entries) before in
    (turn_within (clock_of b) (length before) (orders t.control t.batch) l t.after t.state (dictionary_of b) few are.0.0 are.0.1 (speaks b pins board entries before few are.1)).1
