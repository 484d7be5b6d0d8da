use Rattle.std.proofs.Common.{rules, arith, ◌≡◌, ◌+◌, ◌≤◌, ◌∙◌, false, [], ◌++◌, map, length, vec_len, vec_capacity, subst, sym, ap, refl, append-nil}
use mathlib.Core.Logic.{inl}
use Rattle.std.specs.VecDeque.{deque_len}
use Rattle.session_work.specs.Lates.{late_batches, late_notes}
use Rattle.session_work.proofs.Goes.{waits_none}
use Rattle.session_work.proofs.Columns.{none_rows_wait}
use Rattle.session_lanes.specs.Lanes.{AreNewSends, AreNewTakes}
use Rattle.session_lanes.specs.declared.lanes.AllLanes.{AllLanes}
use Rattle.session_lanes.specs.declared.near.Far.{Far}
use Rattle.session_lanes.specs.Levels.{IsFar}
use Rattle.session_lanes.proofs.NewRows.{links_at, same_lanes}
use Rattle.session_lanes.proofs.lanes.begin.Goals as goal

pub set_links-links-requires-clause-new : goal.set_links-links-requires-clause-new
set_links-links-requires-clause-new g c = (
  subst (λ ls. AreNewTakes ls c.args.places.rows.controls.takes.items) (sym c.lanes_of.ensures.4) c.requires.places.controls.4,
  subst (λ ls. AreNewTakes ls c.args.places.rows.batches.takes.items) (sym c.lanes_of.ensures.5) c.requires.places.batches.4,
  subst (λ ls. AreNewSends ls c.args.places.rows.states.sends.items) (sym c.lanes_of.ensures.6) c.requires.places.states.3,
)

pub returns : goal.returns
returns g c =
    let cl = c.requires.places.controls.0 in let bl = c.requires.places.batches.0 in let sl = c.requires.places.states.0 in
    let cs = c.requires.places.controls.1 in let bs = c.requires.places.batches.1 in let st = c.requires.places.states.2 in
    let w = c.requires.places.words in let n = c.requires.places.notes in let a = c.requires.places.asks in let p = c.requires.places.pieces in
    let af = a.0.1 in let ae = ap length a.0.2 in let pf = p.0.1 in let pe = ap length p.0.2 in
    let mb = c.requires.boards.0 in let rb = c.requires.boards.1 in
    let count = c.set_links-links.ensures.count in let none : deque_len c.args.places.room ≡ 0 = c.requires.places.room.1 in
    let bare : c.args.places.room.items ≡ [] = c.requires.places.room.0 in
    let late = c.requires.places.late.0 in let boards = length c.args.places.rows.batches.lanes.items in
    let ones = c.args.places.ones in let rows = c.args.places.rows in
    let own : AllLanes = record { words = ones.words.lane; notes = ones.notes.lane; asks = ones.asks.lane; pieces = ones.pieces.lane; controls = rows.controls.lanes; batches = rows.batches.lanes; states = rows.states.lanes } in
    let far : Far g.row.M.Denot g.row.L.Denot g.row.A.Denot g.row.O.Denot = record {
      motion = record { seat = record { machine = c.args.motion; halted = false; quiet = false; out = false; heard = 0 }; asks = 0; closed = false; sated = 0; word_pass = ones.words.take; note_pass = ones.notes.send; ask_pass = ones.asks.send; piece_pass = ones.pieces.take; batch_passes = rows.batches.sends; late = c.args.places.late };
      hand = record { head = c.args.head; served = 0; next = 0; closed = false; sated = 0; word_pass = ones.words.send; note_pass = ones.notes.take; ask_pass = ones.asks.take; piece_pass = ones.pieces.send; control_passes = rows.controls.sends; state_passes = rows.states.takes };
      logs = c.args.places.logs;
      home = c.args.places.home;
    } in
    let lr = c.requires.places.logs.2 in let hr = c.requires.places.home.2 in (
      omega arith,
      omega arith,
      omega arith,
      (λ lanes e. links_at g.L.LinkMachine c.lanes_of.result lanes c.set_links-links.result.items (c.lanes_of.ensures.4 ∙ sym e.4) (c.lanes_of.ensures.5 ∙ sym e.5) (c.lanes_of.ensures.6 ∙ sym e.6) c.set_links-links.ensures.set),
      c.set_links-links.ensures.machines ∙ (ap (λ xs. c.args.links.items ++ map (λ d. d.machine) xs) bare ∙ append-nil _),
      refl,
      refl,
      (λ lanes e. same_lanes (λ x. IsFar g.M.MotionMachine g.A.ReactorMachine g.O.Outside x far) own lanes e (
        (
          [],
          refl,
          refl,
          (w.1, p.1, waits_none _ _ _ _ (ap late_notes late) n.0, none_rows_wait (late_batches boards c.args.places.late.items) (λ j. []) _ _ (λ j. ap (λ xs. late_batches boards xs j) late) (omega arith, c.requires.places.batches.3), a.0.0, omega arith, omega arith),
        ),
        (
          [],
          refl,
          refl,
          refl,
          (0, refl, inl refl, ((omega arith, c.requires.places.controls.3), (omega arith, c.requires.places.states.4), w.0, n.1, p.0, omega arith, a.1.0, omega arith, omega arith)),
        ),
        c.requires.wants,
        c.requires.places.logs.0,
        c.requires.places.logs.1,
        omega arith,
        c.requires.places.home.0,
        c.requires.places.home.1,
        omega arith,
        refl,
        late,
        c.requires.places.late.1,
      )),
    )
