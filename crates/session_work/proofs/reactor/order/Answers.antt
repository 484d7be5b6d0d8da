use Rattle.std.proofs.Common.{false, ◌≡◌, ◌⊎◌, ◌+◌, ◌-◌, ◌∷◌, ◌++◌, [], Some, None, length, ap, sym, subst, ◌∙◌, rules, arith, refl, append-nil, ⊎_elim}
use mathlib.Core.Logic.{inl, inr}
use Rattle.plan_types.specs.declared.cause.Cause.TheVariants as cause
use Rattle.lane_queue.specs.Ends.{IsTakeOf, take_first, taken}
use Rattle.session_work.specs.declared.table.ReactorTurn.{ReactorTurn}
use Rattle.session_work.specs.Bares.{bare_control}
use Rattle.session_work.specs.Heads.{IsRow, Wrote}
use Rattle.session_work.specs.Rows.{copies, RowTaken}
use Rattle.session_work.proofs.Columns.{row_none}
use Rattle.session_work.proofs.Reactors.{at_controls, at_word, at_states, at_note, has_said, said_can, has_led, on_with, end_ordered, end_wanting}
use Rattle.session_work.proofs.reactor.order.Goals as goal

pub find-found-requires-clause-note : goal.find-found-requires-clause-note
find-found-requires-clause-note g c = (c.requires.at.4.3.3.0, λ some. let e : (c.args.k - 1) + 1 ≡ c.args.k = omega (arith, some) in ap (λ n. n + 1) (at_note g.A.ReactorMachine g.O.Outside c.args.lanes.now c.args.k c.args.start.now.value c.args.hand.now c.requires.at (c.args.k - 1) e) ∙ e)

pub find-found-requires-clause-states : goal.find-found-requires-clause-states
find-found-requires-clause-states g c some j e = at_states g.A.ReactorMachine g.O.Outside c.args.lanes.now c.args.k c.args.start.now.value c.args.hand.now c.requires.at j e

pub put_end-requires-clause-controls : goal.put_end-requires-clause-controls
put_end-requires-clause-controls g c = at_controls g.A.ReactorMachine g.O.Outside c.args.lanes.now c.args.k c.args.start.now.value c.args.hand.now c.requires.at

pub put_end-requires-clause-word : goal.put_end-requires-clause-word
put_end-requires-clause-word g c = (c.requires.at.4.3.2.0, at_word g.A.ReactorMachine g.O.Outside c.args.lanes.now c.args.k c.args.start.now.value c.args.hand.now c.requires.at)

pub put_end-requires-in_default-turn-clause-controls : goal.put_end-requires-in_default-turn-clause-controls
put_end-requires-in_default-turn-clause-controls g c = at_controls g.A.ReactorMachine g.O.Outside c.args.lanes.now c.args.k c.args.start.now.value c.args.hand.now c.requires.at

pub put_end-requires-in_default-turn-clause-word : goal.put_end-requires-in_default-turn-clause-word
put_end-requires-in_default-turn-clause-word g c = (c.requires.at.4.3.2.0, at_word g.A.ReactorMachine g.O.Outside c.args.lanes.now c.args.k c.args.start.now.value c.args.hand.now c.requires.at)

pub put_end-requires-in-Some-end-clause-controls : goal.put_end-requires-in-Some-end-clause-controls
put_end-requires-in-Some-end-clause-controls g c = at_controls g.A.ReactorMachine g.O.Outside c.args.lanes.now c.args.k c.args.start.now.value c.args.hand.now c.requires.at

pub put_end-requires-in-Some-end-clause-word : goal.put_end-requires-in-Some-end-clause-word
put_end-requires-in-Some-end-clause-word g c = (c.requires.at.4.3.2.0, at_word g.A.ReactorMachine g.O.Outside c.args.lanes.now c.args.k c.args.start.now.value c.args.hand.now c.requires.at)

pub say-requires-clause-controls : goal.say-requires-clause-controls
say-requires-clause-controls g c = at_controls g.A.ReactorMachine g.O.Outside c.args.lanes.now c.args.k c.args.start.now.value c.args.hand.now c.requires.at

pub say-requires-clause-word : goal.say-requires-clause-word
say-requires-clause-word g c = (c.requires.at.4.3.2.0, at_word g.A.ReactorMachine g.O.Outside c.args.lanes.now c.args.k c.args.start.now.value c.args.hand.now c.requires.at)

pub returns-in_default-clause-end : goal.returns-in_default-clause-end
returns-in_default-clause-end g c =
    let d = c.args.hand.now in let w = c.requires.at.4.3 in let same = c.in_default.ensures.none in let np = c.find-found.new.note_pass in let sps = c.find-found.new.state_passes in
    let nothing : RowTaken c.args.lanes.now.states.now d.state_passes.items sps.items [] = subst (λ v. RowTaken c.args.lanes.now.states.now d.state_passes.items v.items []) (sym same.0) (row_none _ _ [] (λ j l p low. (w.1.1 j l p low).0) refl) in
    let note : IsTakeOf c.args.lanes.now.notes.now np × (take_first np ≡ take_first d.note_pass) × (taken np ≡ taken d.note_pass ++ []) =
    subst (λ q. IsTakeOf c.args.lanes.now.notes.now q × (take_first q ≡ take_first d.note_pass) × (taken q ≡ taken d.note_pass ++ [])) (sym same.1) (w.3.0, refl, sym (append-nil _)) in
    end_wanting g.A.ReactorMachine g.O.Outside c.args.lanes.now c.args.k c.args.start.now.value d c.requires.at [] None d.head np sps c.put_end.new.hand (nothing, note.0, note.1, note.2) refl refl refl c.put_end.ensures

pub returns-in_default-turn-clause-end : goal.returns-in_default-turn-clause-end
returns-in_default-turn-clause-end g c =
    let f = c.in-Some.found in let got = c.in-Some.ensures in let x = c.turn.ensures in
    end_wanting g.A.ReactorMachine g.O.Outside c.args.lanes.now c.args.k c.args.start.now.value c.args.hand.now c.requires.at f.states.items f.note c.turn.new.self c.find-found.new.note_pass c.find-found.new.state_passes c.put_end-in_default-turn.new.hand
    (got.states.1, got.note.1, got.note.2, got.note.3) x.outside x.stopped x.boards c.put_end-in_default-turn.ensures

pub returns-in-Some-end-clause-end : goal.returns-in-Some-end-clause-end
returns-in-Some-end-clause-end g c =
    let n = length c.args.lanes.now.controls.now in let f = c.in-Some.found in let got = c.in-Some.ensures in let x = c.turn.ensures in let o = c.in-Some-turn.ordered in let made = c.in-Some-turn.ensures in let is = c.in-Some-end.is in
    let row : IsRow n c.args.k f.states.items f.note = subst (λ m. IsRow m c.args.k f.states.items f.note) c.requires.at.4.3.8 got.row in
    let long = made.controls.0 in let many = c.requires.at.4.3.7 in let size : length o.controls.items ≡ n = search rules in
    end_ordered g.A.ReactorMachine g.O.Outside c.args.lanes.now c.args.k c.args.start.now.value c.args.hand.now c.requires.at f.states.items f.note c.turn.new.self c.find-found.new.note_pass c.find-found.new.state_passes c.put_end-in-Some-end.new.hand
    (got.states.1, got.note.1, got.note.2, got.note.3) x.outside x.stopped x.boards c.put_end-in-Some-end.ensures o.controls.items o.word o.lines c.in-Some-end.cause c.write.new.self
    size row (subst (λ e. g.A.ReactorMachine.turns c.args.hand.now.head.machine c.args.k f.states.items f.note o.controls.items o.word o.lines e c.turn.new.self.machine) is made.asked)
    (subst (λ e. e ≡ Some cause.Memory → ⊥) is made.memory) c.write.ensures.wrote c.write.ensures.boards

pub lead-requires-clause-controls : goal.lead-requires-clause-controls
lead-requires-clause-controls g c =
    let n = length c.args.lanes.now.controls.now in let d = c.args.hand.now in let f = c.in-Some.found in let o = c.in-Some-turn.ordered in let x = c.turn.new.self in let k = c.args.k in
    let t : ReactorTurn = record { states = f.states.items; note = f.note; controls = o.controls.items; word = o.word; lines = o.lines; end = o.end; pieces = [] } in
    let made = c.in-Some-turn.ensures in let none : o.end ≡ None = search rules in
    let long = made.controls.0 in let many = c.requires.at.4.3.7 in let size : length o.controls.items ≡ n = search rules in
    let said = has_said g.A.ReactorMachine g.O.Outside c.args.lanes.now k c.args.start.now.value d c.requires.at t x.machine c.say.new.next c.say.new.word_pass c.say.new.control_passes.items c.say.ensures.said
    (λ i free. let r = made.free i free none in (r.0 ∙ ap (λ b. copies b (bare_control k false)) many, r.1, r.2)) in
    (said_can g.A.ReactorMachine g.O.Outside c.args.lanes.now k c.args.start.now.value d c.requires.at t said.0 c.say.new.next c.say.new.word_pass c.say.new.control_passes.items size said.1 said.3).0

pub lead-requires-clause-word : goal.lead-requires-clause-word
lead-requires-clause-word g c =
    let n = length c.args.lanes.now.controls.now in let d = c.args.hand.now in let f = c.in-Some.found in let o = c.in-Some-turn.ordered in let x = c.turn.new.self in let k = c.args.k in
    let t : ReactorTurn = record { states = f.states.items; note = f.note; controls = o.controls.items; word = o.word; lines = o.lines; end = o.end; pieces = [] } in
    let made = c.in-Some-turn.ensures in let none : o.end ≡ None = search rules in
    let long = made.controls.0 in let many = c.requires.at.4.3.7 in let size : length o.controls.items ≡ n = search rules in
    let said = has_said g.A.ReactorMachine g.O.Outside c.args.lanes.now k c.args.start.now.value d c.requires.at t x.machine c.say.new.next c.say.new.word_pass c.say.new.control_passes.items c.say.ensures.said
    (λ i free. let r = made.free i free none in (r.0 ∙ ap (λ b. copies b (bare_control k false)) many, r.1, r.2)) in
    (said_can g.A.ReactorMachine g.O.Outside c.args.lanes.now k c.args.start.now.value d c.requires.at t said.0 c.say.new.next c.say.new.word_pass c.say.new.control_passes.items size said.1 said.3).1

pub returns-clause-on : goal.returns-clause-on
returns-clause-on g c =
    let n = length c.args.lanes.now.controls.now in let d = c.args.hand.now in let f = c.in-Some.found in let o = c.in-Some-turn.ordered in let x = c.turn.new.self in let k = c.args.k in
    let t : ReactorTurn = record { states = f.states.items; note = f.note; controls = o.controls.items; word = o.word; lines = o.lines; end = o.end; pieces = [] } in
    let made = c.in-Some-turn.ensures in let none : o.end ≡ None = search rules in
    let long = made.controls.0 in let many = c.requires.at.4.3.7 in let size : length o.controls.items ≡ n = search rules in
    let said = has_said g.A.ReactorMachine g.O.Outside c.args.lanes.now k c.args.start.now.value d c.requires.at t x.machine c.say.new.next c.say.new.word_pass c.say.new.control_passes.items c.say.ensures.said
    (λ i free. let r = made.free i free none in (r.0 ∙ ap (λ b. copies b (bare_control k false)) many, r.1, r.2)) in
    let y = c.write-2.new.self in let np = c.find-found.new.note_pass in let sps = c.find-found.new.state_passes in let got = c.in-Some.ensures in
    let row : IsRow n k f.states.items f.note = subst (λ m. IsRow m k f.states.items f.note) c.requires.at.4.3.8 got.row in
    let wrote : Wrote g.A.ReactorMachine.stops g.O.Outside.writes (record { machine = x.machine; outside = d.head.outside; stopped = d.head.stopped }) o.lines y =
    subst (λ h. Wrote g.A.ReactorMachine.stops g.O.Outside.writes h o.lines y) (λ i. record { machine = x.machine; outside = c.turn.ensures.outside i; stopped = c.turn.ensures.stopped i }) c.write-2.ensures.wrote in
    let led = c.lead.ensures.led in let at = said.1 in let to = led.1 in let r = c.free-free.result in
    let free : (said.0 + led.0 ≡ 0) ⊎ g.A.ReactorMachine.free y.machine (k + 1) (said.0 + led.0) = ⊎_elim
    (λ z. let same = z.0 in ⊎_elim (λ e. inl (omega (arith, e, same, to))) (λ e. inr (subst (g.A.ReactorMachine.free y.machine (k + 1)) (omega (arith, same, to)) (c.write-2.ensures.free (k + 1) said.0 e))) said.2)
    (λ z. inr (subst (g.A.ReactorMachine.free y.machine (k + 1)) (omega (arith, z, to, at)) (c.write-2.ensures.free (k + 1) r c.free-free.ensures.free)))
    c.lead.ensures.to in
    on_with g.A.ReactorMachine g.O.Outside c.args.lanes.now k c.args.start.now.value d t y c.lead.new.next (said.0 + led.0) c.lead.new.word_pass np c.lead.new.control_passes sps c.requires.at none refl
    (size, inl (row, (x.machine, made.asked, wrote, made.memory)))
    (got.states.1, got.note.1, got.note.2, got.note.3) (omega (arith, at, to)) free
    (has_led g.A.ReactorMachine g.O.Outside c.args.lanes.now (c.requires.at.0 ++ t ∷ []) (k + 1) said.0 led.0 c.say.new.next c.say.new.control_passes.items c.lead.new.control_passes.items c.say.new.word_pass c.lead.new.word_pass at said.3 led.2)
    (c.write-2.ensures.boards ∙ c.turn.ensures.boards)
