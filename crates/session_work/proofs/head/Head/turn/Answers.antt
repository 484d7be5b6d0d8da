use Rattle.std.proofs.Common.{◌≡◌, ◌+◌, ℕ, None, false, IfOk, vec_len, subst}
use Rattle.session_work.specs.Bares.{bare_control, bare_word}
use Rattle.session_work.specs.Rows.{AreOf, copies}
use Rattle.session_work.proofs.Each.{of_ok}
use Rattle.session_work.proofs.head.Head.turn.Goals as goal

pub returns-clause-asked : goal.returns-clause-asked
returns-clause-asked g c = of_ok c.turn.result c.in_ok-ordered.ordered (λ o. g.A.ReactorMachine.turns c.args.self.now.machine c.args.k c.args.found.now.states.items c.args.found.now.note o.controls.items o.word o.lines o.end c.turn.new.self) c.in_ok-ordered.ensures.value (subst (λ xs. IfOk c.turn.result (λ o. g.A.ReactorMachine.turns c.args.self.now.machine c.args.k xs c.args.found.now.note o.controls.items o.word o.lines o.end c.turn.new.self)) c.as_slice.ensures.value c.turn.ensures.ordered)

pub returns-clause-controls : goal.returns-clause-controls
returns-clause-controls g c = of_ok c.turn.result c.in_ok-ordered.ordered (λ o. (vec_len o.controls ≡ g.A.ReactorMachine.boards c.args.self.now.machine) × AreOf (λ d. d.turn) c.args.k o.controls.items) c.in_ok-ordered.ensures.value c.turn.ensures.controls

pub returns-clause-word : goal.returns-clause-word
returns-clause-word g c = of_ok c.turn.result c.in_ok-ordered.ordered (λ o. o.word.turn ≡ c.args.k) c.in_ok-ordered.ensures.value c.turn.ensures.word

pub returns-clause-free : goal.returns-clause-free
returns-clause-free g c = of_ok c.turn.result c.in_ok-ordered.ordered (λ o. (n : ℕ) → g.A.ReactorMachine.free c.args.self.now.machine c.args.k (n + 1) → o.end ≡ None → (o.controls.items ≡ copies (g.A.ReactorMachine.boards c.args.self.now.machine) (bare_control c.args.k false)) × (o.word ≡ bare_word c.args.k false) × g.A.ReactorMachine.free c.turn.new.self (c.args.k + 1) n) c.in_ok-ordered.ensures.value c.turn.ensures.free
