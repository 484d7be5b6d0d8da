use Rattle.std.proofs.Common.{◌≡◌, [], Some, None, length, sym, subst, ◌∙◌, rules, refl}
use mathlib.Core.Logic.{inl}
use Rattle.plan_types.specs.declared.cause.Cause.TheVariants as cause
use Rattle.session_work.specs.declared.table.ReactorTurn.{ReactorTurn}
use Rattle.session_work.specs.Alone.{with_takes}
use Rattle.session_work.specs.Heads.{IsRow, Wrote}
use Rattle.session_work.specs.Rows.{CanPut}
use Rattle.session_work.proofs.Alone.{here_with}
use Rattle.session_work.proofs.Reactors.{at_controls, at_word, end_ordered, end_wanting}
use Rattle.session_work.proofs.reactor.order_here.Goals as goal

pub turn-requires-clause-found : goal.turn-requires-clause-found
turn-requires-clause-found g c = let h = c.requires.found in let w = h.2.4.3 in subst (λ m. IsRow m c.args.k c.args.found.now.states.items c.args.found.now.note) (w.8 ∙ sym w.7) h.5

pub put_end-requires-clause-controls : goal.put_end-requires-clause-controls
put_end-requires-clause-controls g c = let h = c.requires.found in at_controls g.A.ReactorMachine g.O.Outside c.args.lanes.now c.args.k c.args.start.now.value (with_takes c.args.hand.now h.0 h.1) h.2

pub put_end-requires-clause-word : goal.put_end-requires-clause-word
put_end-requires-clause-word g c = let h = c.requires.found in (h.2.4.3.2.0, at_word g.A.ReactorMachine g.O.Outside c.args.lanes.now c.args.k c.args.start.now.value (with_takes c.args.hand.now h.0 h.1) h.2)

pub put_end-requires-in-Some-end-clause-controls : goal.put_end-requires-in-Some-end-clause-controls
put_end-requires-in-Some-end-clause-controls g c = let h = c.requires.found in at_controls g.A.ReactorMachine g.O.Outside c.args.lanes.now c.args.k c.args.start.now.value (with_takes c.args.hand.now h.0 h.1) h.2

pub put_end-requires-in-Some-end-clause-word : goal.put_end-requires-in-Some-end-clause-word
put_end-requires-in-Some-end-clause-word g c = let h = c.requires.found in (h.2.4.3.2.0, at_word g.A.ReactorMachine g.O.Outside c.args.lanes.now c.args.k c.args.start.now.value (with_takes c.args.hand.now h.0 h.1) h.2)

pub returns-in_default-clause-end : goal.returns-in_default-clause-end
returns-in_default-clause-end g c =
    let h = c.requires.found in let f = c.args.found.now in let x = c.turn.ensures in let d = c.args.hand.now in
    end_wanting g.A.ReactorMachine g.O.Outside c.args.lanes.now c.args.k c.args.start.now.value (with_takes d h.0 h.1) h.2 f.states.items f.note c.turn.new.self d.note_pass d.state_passes c.put_end.new.hand
    (h.3, h.4.0, h.4.1, h.4.2) x.outside x.stopped x.boards c.put_end.ensures

pub returns-in-Some-end-clause-end : goal.returns-in-Some-end-clause-end
returns-in-Some-end-clause-end g c =
    let n = length c.args.lanes.now.controls.now in let h = c.requires.found in let f = c.args.found.now in let x = c.turn.ensures in let d = c.args.hand.now in let o = c.in-Some.ordered in let made = c.in-Some.ensures in let is = c.in-Some-end.is in
    let row : IsRow n c.args.k f.states.items f.note = subst (λ m. IsRow m c.args.k f.states.items f.note) h.2.4.3.8 h.5 in
    let long = made.controls.0 in let many = h.2.4.3.7 in let size : length o.controls.items ≡ n = search rules in
    end_ordered g.A.ReactorMachine g.O.Outside c.args.lanes.now c.args.k c.args.start.now.value (with_takes d h.0 h.1) h.2 f.states.items f.note c.turn.new.self d.note_pass d.state_passes c.put_end-in-Some-end.new.hand
    (h.3, h.4.0, h.4.1, h.4.2) x.outside x.stopped x.boards c.put_end-in-Some-end.ensures o.controls.items o.word o.lines c.in-Some-end.cause c.write.new.self
    size row (subst (λ e. g.A.ReactorMachine.turns d.head.machine c.args.k f.states.items f.note o.controls.items o.word o.lines e c.turn.new.self.machine) is made.asked)
    (subst (λ e. e ≡ Some cause.Memory → ⊥) is made.memory) c.write.ensures.wrote c.write.ensures.boards

pub returns-clause-on : goal.returns-clause-on
returns-clause-on g c =
    let n = length c.args.lanes.now.controls.now in let h = c.requires.found in let d = with_takes c.args.hand.now h.0 h.1 in let k = c.args.k in let f = c.args.found.now in let o = c.in-Some.ordered in let x = c.turn.new.self in let y = c.write-2.new.self in
    let t : ReactorTurn = record { states = f.states.items; note = f.note; controls = o.controls.items; word = o.word; lines = o.lines; end = o.end; pieces = [] } in
    let made = c.in-Some.ensures in let none : o.end ≡ None = search rules in
    let row : IsRow n k f.states.items f.note = subst (λ m. IsRow m k f.states.items f.note) h.2.4.3.8 h.5 in
    let wrote : Wrote g.A.ReactorMachine.stops g.O.Outside.writes (record { machine = x.machine; outside = d.head.outside; stopped = d.head.stopped }) o.lines y =
    subst (λ b. Wrote g.A.ReactorMachine.stops g.O.Outside.writes b o.lines y) (λ i. record { machine = x.machine; outside = c.turn.ensures.outside i; stopped = c.turn.ensures.stopped i }) c.write-2.ensures.wrote in
    let long = made.controls.0 in let many = h.2.4.3.7 in let size : length o.controls.items ≡ n = search rules in
    let can : CanPut k c.args.lanes.now.controls.now d.control_passes.items = subst (λ j. CanPut j c.args.lanes.now.controls.now d.control_passes.items) h.8 (at_controls g.A.ReactorMachine g.O.Outside c.args.lanes.now k c.args.start.now.value d h.2) in
    let word = at_word g.A.ReactorMachine g.O.Outside c.args.lanes.now k c.args.start.now.value d h.2 in record {
      number = made.word;
      can = (h.2.4.3.2.0, word ∙ h.8);
      behind = λ wp say. record {
        many = (size, h.2.4.3.0.0, h.2.4.3.8);
        numbers = made.controls.1;
        puts = can;
        takes = h.9;
        piece = (h.2.4.3.4.0, h.2.4.3.5);
        next = refl;
        behind = λ cps put. here_with g.A.ReactorMachine g.O.Outside c.args.lanes.now k c.args.start.now.value d t y wp c.args.hand.now.note_pass cps c.args.hand.now.state_passes
            h.2 h.8 none refl (size, inl (row, (x.machine, made.asked, wrote, made.memory))) (h.3, h.4.0, h.4.1, h.4.2) say put (c.write-2.ensures.boards ∙ c.turn.ensures.boards);
      };
    }
