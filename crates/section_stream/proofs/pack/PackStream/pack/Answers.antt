use Rattle.std.proofs.Common.{◌≡◌, ◌+◌, ◌*◌, ◌<◌, ◌≤◌, ◌^◌, take, drop, ◌∙◌, ap, sym, subst, All, List}
use Rattle.step_pack.specs.declared.Placed.{Placed}
use Rattle.std.proofs.Math.Logic.{∥∥₁_map, ∥∥₁_elim}
use Rattle.std.proofs.Props.{props}
use Rattle.std.proofs.lemmas.List.{take-append-drop}
use Rattle.std.proofs.lemmas.List.Elements.{All-take}
use Rattle.plan_types.specs.Clock.{tick_limit}
use Rattle.plan_types.specs.Packing.{windows_of}
use Rattle.plan_types.specs.Plan.{AreSpaced}
use Rattle.step_pack.specs.Placing.{PacksPlaced}
use Rattle.section_units.specs.Units.{units_on}
use Rattle.section_stream.specs.Rows.{AreInRow}
use Rattle.section_stream.proofs.Rowing.{piece-from, piece-row}
use Rattle.plan_types.specs.declared.plan.Planned.{Planned}
use Rattle.plan_types.specs.Lines.{lines_tick}
use Rattle.step_ticks.specs.Streaming.{last_step_tick}
use Rattle.section_stream.proofs.Stretches.{last-append, last-after, packable-front, packable-behind, spaced-prop}
use Rattle.section_stream.proofs.Packed.{piece-packed}
use Rattle.section_stream.proofs.pack.PackStream.pack.Goals as goal

pub pack_placed-requires : goal.pack_placed-requires
pack_placed-requires c = ∥∥₁_elim c.args.self.now.packable (spaced-prop _ _) (λ h.
    rw c.deref-2.ensures.value (packable-front c.args.self.now.last c.args.self.now.held.items c.count_before-count.result h).spaced)

pub add_units-up-requires-clause-packed : goal.add_units-up-requires-clause-packed
add_units-up-requires-clause-packed c = (c.args.self.now.max_error, rw c.deref-4.ensures.value c.in_ok-placed.ensures)

pub add_units-up-requires-clause-small : goal.add_units-up-requires-clause-small
add_units-up-requires-clause-small c = ∥∥₁_elim c.args.self.now.packable (hlevel props) (λ h.
    rw c.deref-2.ensures.value (packable-front c.args.self.now.last c.args.self.now.held.items c.count_before-count.result h).small)

pub add_units-up-requires-clause-spaced : goal.add_units-up-requires-clause-spaced
add_units-up-requires-clause-spaced c = ∥∥₁_elim c.args.self.now.packable (spaced-prop _ _) (λ h.
    rw c.deref-2.ensures.value (packable-front c.args.self.now.last c.args.self.now.held.items c.count_before-count.result h).spaced)

pub invariant_of-self-in-Break-branch-2 : goal.invariant_of-self-in-Break-branch-2
invariant_of-self-in-Break-branch-2 c = record {
  packable = ∥∥₁_map c.args.self.now.packable (λ h.
      rw (c.last_of-self.ensures, c.deref-2.ensures.value, c.keep_from.ensures) (packable-behind c.args.self.now.last c.args.self.now.held.items c.count_before-count.result h));
  own = c.add_units-up.ensures.own c.args.self.now.own;
  byte = c.args.self.now.byte;
}

pub invariant_of-self-2 : goal.invariant_of-self-2
invariant_of-self-2 c = record {
  packable = ∥∥₁_map c.args.self.now.packable (λ h.
      rw (c.last_of-self.ensures, c.deref-2.ensures.value, c.keep_from.ensures) (packable-behind c.args.self.now.last c.args.self.now.held.items c.count_before-count.result h));
  own = c.add_units-up.ensures.own c.args.self.now.own;
  byte = c.args.self.now.byte;
}

pub returns-clause-packed : goal.returns-clause-packed
returns-clause-packed c = λ base pushed pieces given are. (
    let s = c.args.self.now in
    let clocks = c.args.lines.now in
    piece-packed clocks s.oid s.max_error s.last s.up s.reset s.held.items c.keep_from.new.held.items s.units.items base pushed pieces given c.args.turn c.tick-cut.result c.count_before-count.result c.last_of-self.result (take c.count_before-count.result c.deref-2.result.now) c.in_ok-placed.placed.items c.in_ok-self.field-0 c.add_units-up.new.units.items
    are (c.tick-cut.ensures ∙ ap (λ t. lines_tick clocks (t * 1_000_000)) c.from.ensures) (rw c.deref.ensures.value at c.count_before-count.ensures.before) (rw c.deref.ensures.value at c.count_before-count.ensures.behind) (ap (take c.count_before-count.result) c.deref-2.ensures.value) c.keep_from.ensures
    c.in_ok-placed.ensures (subst (λ (ps : List Placed). All (λ q. q.triple.interval < 2 ^ 32) ps) c.deref-3.ensures.value c.intervals_fit.ensures) (rw c.deref-4.ensures.value at c.in_ok-self.ensures.units) (rw c.deref-4.ensures.value at c.in_ok-self.ensures.up) c.last_of-self.ensures)

pub returns-clause-behind : goal.returns-clause-behind
returns-clause-behind c =
    let cut : c.tick-cut.result ≡ lines_tick c.args.lines.now (c.args.turn * 1_000_000) = c.tick-cut.ensures ∙ ap (λ t. lines_tick c.args.lines.now (t * 1_000_000)) c.from.ensures in
    rw c.keep_from.ensures (subst (λ x. All (λ (s : Planned). x ≤ s.tick) (drop c.count_before-count.result c.args.self.now.held.items)) cut (rw c.deref.ensures.value at c.count_before-count.ensures.behind))

pub returns-in_err-self-clause-last : goal.returns-in_err-self-clause-last
returns-in_err-self-clause-last c = ∥∥₁_elim c.args.self.now.packable (hlevel props) (λ h.
    rw (c.last_of-self.ensures, c.deref-2.ensures.value) (last-after c.args.self.now.last (take c.count_before-count.result c.args.self.now.held.items) (packable-front c.args.self.now.last c.args.self.now.held.items c.count_before-count.result h).spaced))

pub returns-in_err-self-clause-pushed : goal.returns-in_err-self-clause-pushed
returns-in_err-self-clause-pushed c =
    let s = c.args.self.now in
    let n = c.count_before-count.result in
    let one : c.last_of-self.result ≡ last_step_tick s.last (take n s.held.items) = c.last_of-self.ensures ∙ ap (λ xs. last_step_tick s.last (take n xs)) c.deref-2.ensures.value in
    ap (λ b. last_step_tick b c.keep_from.new.held.items) one ∙ ap (last_step_tick (last_step_tick s.last (take n s.held.items))) c.keep_from.ensures ∙ sym (last-append s.last (take n s.held.items) (drop n s.held.items)) ∙ ap (last_step_tick s.last) (take-append-drop n s.held.items)

pub returns-clause-added : goal.returns-clause-added
returns-clause-added c =
    let s = c.args.self.now in
    let n = c.count_before-count.result in
    let steps = take n c.deref-2.result.now in
    let placed = c.deref-4.result.now in
    let own : steps ≡ take n s.held.items = ap (take n) c.deref-2.ensures.value in
    let packs : PacksPlaced s.last (windows_of s.max_error s.last steps) placed = subst (λ (ps : List Placed). PacksPlaced s.last (windows_of s.max_error s.last steps) ps) (sym c.deref-4.ensures.value) c.in_ok-placed.ensures in
    let small : All (λ (q : Planned). q.tick < tick_limit) steps = ∥∥₁_elim s.packable (hlevel props) (λ h. subst (All (λ (q : Planned). q.tick < tick_limit)) (sym own) (packable-front s.last s.held.items n h).small) in
    let spaced : AreSpaced s.last steps = ∥∥₁_elim s.packable (spaced-prop _ _) (λ h. subst (AreSpaced s.last) (sym own) (packable-front s.last s.held.items n h).spaced) in
    let row = piece-row c.args.lines.now s.oid s.reset s.up s.max_error s.last steps placed packs spaced small in (
      units_on c.args.lines.now s.oid s.reset s.up steps placed,
      c.in_ok-self.ensures.units,
      subst (λ e. AreInRow c.args.lines.now s.last e (units_on c.args.lines.now s.oid s.reset s.up steps placed)) (sym c.last_of-self.ensures) row,
      λ t late. piece-from c.args.lines.now s.oid s.reset s.up s.max_error s.last t steps placed packs (subst (All (λ (q : Planned). t + s.max_error ≤ q.tick)) (sym own) (All-take (λ (q : Planned). t + s.max_error ≤ q.tick) n s.held.items late)),
    )

pub returns-clause-last : goal.returns-clause-last
returns-clause-last c = ∥∥₁_elim c.args.self.now.packable (hlevel props) (λ h.
    rw (c.last_of-self.ensures, c.deref-2.ensures.value) (last-after c.args.self.now.last (take c.count_before-count.result c.args.self.now.held.items) (packable-front c.args.self.now.last c.args.self.now.held.items c.count_before-count.result h).spaced))

pub returns-clause-pushed : goal.returns-clause-pushed
returns-clause-pushed c =
    let s = c.args.self.now in
    let n = c.count_before-count.result in
    let one : c.last_of-self.result ≡ last_step_tick s.last (take n s.held.items) = c.last_of-self.ensures ∙ ap (λ xs. last_step_tick s.last (take n xs)) c.deref-2.ensures.value in
    ap (λ b. last_step_tick b c.keep_from.new.held.items) one ∙ ap (last_step_tick (last_step_tick s.last (take n s.held.items))) c.keep_from.ensures ∙ sym (last-append s.last (take n s.held.items) (drop n s.held.items)) ∙ ap (last_step_tick s.last) (take-append-drop n s.held.items)

pub returns-clause-early : goal.returns-clause-early
returns-clause-early c = λ early. (
    let n = c.count_before-count.result in
    let cut : c.tick-cut.result ≡ lines_tick c.args.lines.now (c.args.turn * 1_000_000) = c.tick-cut.ensures ∙ ap (λ t. lines_tick c.args.lines.now (t * 1_000_000)) c.from.ensures in
    let before = subst (λ x. All (λ (s : Planned). s.tick < x) (take n c.args.self.now.held.items)) cut (rw c.deref.ensures.value at c.count_before-count.ensures.before) in
    let own : take n c.deref-2.result.now ≡ take n c.args.self.now.held.items = ap (take n) c.deref-2.ensures.value in
    c.add_units-up.ensures.early (lines_tick c.args.lines.now (c.args.turn * 1_000_000)) (subst (All (λ (s : Planned). s.tick < lines_tick c.args.lines.now (c.args.turn * 1_000_000))) (sym own) before) early)
