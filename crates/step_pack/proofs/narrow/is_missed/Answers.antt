use Rattle.std.proofs.Common.{◌≡◌, ℕ, ◌+◌, ◌-◌, ◌*◌, ◌/◌, ◌%◌, ◌<◌, ◌≤◌, arith}
use Rattle.std.proofs.lemmas.Bool.{ltb-true}
use Rattle.plan_types.specs.Packing.{window_at}
use Rattle.step_pack.specs.Bounds.{triangle}
use Rattle.step_pack.proofs.Numbers.{misses, even_unit, odd_unit}
use Rattle.step_pack.proofs.narrow.is_missed.Goals as goal
use Rattle.step_pack.proofs.narrow.is_missed.Goals.{then-number-eq0, else-number-eq0}

pub returns : goal.returns
returns c = λ none bend other interval rules meets.
    let low = (window_at c.args.windows.now c.args.place).low in
    let high = (window_at c.args.windows.now c.args.place).high in
    let early = meets.not_early c.args.place (omega arith) in
    let late = meets.not_late c.args.place (omega arith) in
    elim c.if-number-eq0.branch [
      | then-number-eq0 w ↦
          let even : (c.args.place + 1) % 2 ≡ 0 = (let t = w.if-number-eq0.true in omega arith) in
          let unit = even_unit c.args.place even in
          let none2 : (high - c.args.behind) / ((c.args.place + 1) / 2) * ((c.args.place + 1) / 2) < low - c.args.behind = rw w.unit-is at (ltb-true _ _ none) in
          misses c.args.place ((c.args.place + 1) / 2) c.args.place 2 interval other (triangle c.args.place) c.args.behind low high unit.0 unit.1.0 unit.1.1 c.requires.low early late none2
      | else-number-eq0 w ↦
          let none2 : (high - c.args.behind) / (c.args.place + 1) * (c.args.place + 1) < low - c.args.behind = rw w.unit-is at (ltb-true _ _ none) in
          let odd : (c.args.place + 1) % 2 ≡ 0 → ⊥ = (let t = w.if-number-eq0.false in λ e. omega (arith, e)) in
          misses c.args.place (c.args.place + 1) (c.args.place / 2) 1 interval other (triangle c.args.place) c.args.behind low high (omega arith) (omega arith) (odd_unit c.args.place odd) c.requires.low early late none2
    ]
