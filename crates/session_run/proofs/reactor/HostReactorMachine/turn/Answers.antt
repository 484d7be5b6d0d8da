use Rattle.std.proofs.Common.{◌≡◌, ◌+◌, ℕ, false, rules, length, vec_len, ap, sym, subst, ◌∙◌}
use Rattle.host_reactor.specs.Notes.{are_lines}
use Rattle.host_reactor.specs.Reactor.{Run}
use Rattle.host_reactor.specs.Rows.{HasEachBoard}
use Rattle.host_reactor.specs.Free.{free_turns, IsAtRest}
use Rattle.session_work.specs.Bares.{bare_control}
use Rattle.session_work.specs.Rows.{copies}
use Rattle.session_run.specs.Reactors.{IsFree}
use Rattle.session_run.proofs.Freeing.{goes-free}
use Rattle.session_run.proofs.Hosting as host
use Rattle.session_run.proofs.reactor.HostReactorMachine.turn.Goals as goal

pub invariant_of-self : goal.invariant_of-self
invariant_of-self c =
    let w = subst (λ (s : Run). HasEachBoard s.machine s.known) (sym c.self.view_is) c.requires.can.2 in
    λ _. host.whole c.self.inside.reactor c.calm_turn.new.self c.args.k c.args.states.now c.args.note.now w c.calm_turn.ensures.machine c.in-Some.ensures.known

pub returns-in-Some-clause-controls : goal.returns-in-Some-clause-controls
returns-in-Some-clause-controls c =
    let w = subst (λ (s : Run). HasEachBoard s.machine s.known) (sym c.self.view_is) c.requires.can.2 in
    let r = host.controls c.self.inside.reactor c.args.k c.args.states.now c.args.note.now c.in-Some.ordered w c.in-Some.ensures.ordered c.order.result.controls.items c.order.ensures.controls in
    let few : vec_len c.order.result.controls ≡ length c.order.result.controls.items = search rules in
    (few ∙ r.0 ∙ ap (λ (s : Run). length s.machine.boards) c.self.view_is, r.1)

pub returns-in-Some-clause-word : goal.returns-in-Some-clause-word
returns-in-Some-clause-word c =
    let w = subst (λ (s : Run). HasEachBoard s.machine s.known) (sym c.self.view_is) c.requires.can.2 in
    host.word c.self.inside.reactor c.args.k c.args.states.now c.args.note.now c.in-Some.ordered w c.in-Some.ensures.ordered c.order.result.word c.order.ensures.word

pub returns-in-Some-clause-last : goal.returns-in-Some-clause-last
returns-in-Some-clause-last c =
    let w = subst (λ (s : Run). HasEachBoard s.machine s.known) (sym c.self.view_is) c.requires.can.2 in
    host.last c.self.inside.reactor c.args.k c.args.states.now c.args.note.now c.in-Some.ordered w c.in-Some.ensures.ordered c.order.result.controls.items c.order.ensures.controls
    c.order.result.word c.order.ensures.word c.order.result.end c.order.ensures.end

pub returns-in-Some-clause-free : goal.returns-in-Some-clause-free
returns-in-Some-clause-free c n free none =
    let x = c.self.inside.reactor in
    let y = c.calm_turn.new.self in
    let w = subst (λ (s : Run). HasEachBoard s.machine s.known) (sym c.self.view_is) c.requires.can.2 in
    let at : c.args.k ≡ x.next = search rules in
    let goes = goes-free x y c.args.k n c.args.states.now c.args.note.now c.in-Some.ordered (free_turns x.machine x.known c.args.k) (free_turns y.machine y.known (c.args.k + 1)) w c.in-Some.ensures.ordered
    c.in-Some.ensures.next c.requires.states (ap (λ (t : ℕ). free_turns x.machine x.known t) at) (λ i h. subst (λ (t : ℕ). IsAtRest x.machine x.known t (i + 1)) at (c.in-Some.ensures.rest i h))
    (ap (λ (t : ℕ). free_turns y.machine y.known t) (sym c.in-Some.ensures.next)) (λ some. (ap are_lines c.in-Some.ensures.news, c.in-Some.ensures.free)) c.order.result.controls.items c.order.ensures.controls
    (subst (λ (s : Run). IsFree s c.args.k (n + 1)) (sym c.self.view_is) free) c.in-Some.ensures.goes_on in (
      subst (λ (s : Run). c.order.result.controls.items ≡ copies (length s.machine.boards) (bare_control c.args.k false)) c.self.view_is goes.0,
      c.order.ensures.word ∙ goes.1,
      goes.2,
    )

pub invariant_of-self-2 : goal.invariant_of-self-2
invariant_of-self-2 c =
    let same : c.calm_turn.new.self ≡ c.args.self.now = search rules in
    let w = subst (λ (s : Run). HasEachBoard s.machine s.known) (sym same) c.requires.can.2 in
    λ _. host.whole c.calm_turn.new.self c.turn.new.self c.args.k c.args.states.now c.args.note.now w c.turn.ensures.machine c.in_ok-ordered.ensures.known

pub returns-clause-controls : goal.returns-clause-controls
returns-clause-controls c =
    let same : c.calm_turn.new.self ≡ c.args.self.now = search rules in
    let w = subst (λ (s : Run). HasEachBoard s.machine s.known) (sym same) c.requires.can.2 in
    let r = host.controls c.calm_turn.new.self c.args.k c.args.states.now c.args.note.now c.in_ok-ordered.ordered w c.in_ok-ordered.ensures.ordered c.order-2.result.controls.items c.order-2.ensures.controls in
    let few : vec_len c.order-2.result.controls ≡ length c.order-2.result.controls.items = search rules in
    (few ∙ r.0 ∙ ap (λ (s : Run). length s.machine.boards) same, r.1)

pub returns-clause-word : goal.returns-clause-word
returns-clause-word c =
    let same : c.calm_turn.new.self ≡ c.args.self.now = search rules in
    let w = subst (λ (s : Run). HasEachBoard s.machine s.known) (sym same) c.requires.can.2 in
    host.word c.calm_turn.new.self c.args.k c.args.states.now c.args.note.now c.in_ok-ordered.ordered w c.in_ok-ordered.ensures.ordered c.order-2.result.word c.order-2.ensures.word

pub returns-clause-last : goal.returns-clause-last
returns-clause-last c =
    let same : c.calm_turn.new.self ≡ c.args.self.now = search rules in
    let w = subst (λ (s : Run). HasEachBoard s.machine s.known) (sym same) c.requires.can.2 in
    host.last c.calm_turn.new.self c.args.k c.args.states.now c.args.note.now c.in_ok-ordered.ordered w c.in_ok-ordered.ensures.ordered c.order-2.result.controls.items c.order-2.ensures.controls
    c.order-2.result.word c.order-2.ensures.word c.order-2.result.end c.order-2.ensures.end

pub returns-clause-free : goal.returns-clause-free
returns-clause-free c n free none =
    let same : c.calm_turn.new.self ≡ c.args.self.now = search rules in
    let w = subst (λ (s : Run). HasEachBoard s.machine s.known) (sym same) c.requires.can.2 in
    let on = sym c.order-2.ensures.end ∙ none in
    let going = c.stays_free.ensures (search rules) on in
    let goes = goes-free c.calm_turn.new.self c.turn.new.self c.args.k n c.args.states.now c.args.note.now c.in_ok-ordered.ordered c.free-before.result c.free-behind.result w c.in_ok-ordered.ensures.ordered
    c.in_ok-ordered.ensures.next c.requires.states c.free-before.ensures.value c.free-before.ensures.rest c.free-behind.ensures.value (λ some. (c.is_calm-calm.ensures (going some).0, (going some).1)) c.order-2.result.controls.items c.order-2.ensures.controls
    (subst (λ (s : Run). IsFree s c.args.k (n + 1)) (sym same) free) on in (
      subst (λ (s : Run). c.order-2.result.controls.items ≡ copies (length s.machine.boards) (bare_control c.args.k false)) same goes.0,
      c.order-2.ensures.word ∙ goes.1,
      goes.2,
    )
