use Rattle.std.proofs.Common.{◌≡◌, ℕ, ◌++◌, List, arith, ap, ◌∙◌, replicate}
use Rattle.block_frame.specs.Spoils.{ending_bytes}
use Rattle.block_frame.proofs.add_ends.Goals as goal

pub returns : goal.returns
unfolding ending_bytes
returns c =
    let all : c.loop.counter ≡ 64 = omega arith in
    let before : List ℕ = c.args.bytes.now.items in
    c.loop.invariant ∙ ap (λ (n : ℕ). before ++ replicate n 126) all
