use Rattle.std.proofs.Common.{◌≡◌, ℕ, ◌+◌, ◌<◌, ◌∙◌, List, [], ◌∷◌, ◌++◌, length, drop, get_or, refl, sym, ap, arith, append_assoc}
use Rattle.std.proofs.lemmas.List.{drop_more}
use Rattle.plan_types.specs.declared.plan.Move.{Move}
use Rattle.plan_types.specs.Machines.{no_move}
use Rattle.plan_types.specs.Parts.{parts}
use Rattle.plan_types.specs.Sections.{duration}
use Rattle.section_plan.specs.Ends.{move_ends}
use Rattle.section_plan.proofs.ends.put_ends.Goals as goal

-- one more move
ends-step : (cruise : ℕ) (left ms : List Move) (speeds behind rest : List ℕ) (m : Move) (g h begin : ℕ) → left ≡ m ∷ ms → speeds ≡ g ∷ behind → behind ≡ h ∷ rest
    → move_ends cruise left speeds begin ≡ (begin + duration (parts m g h cruise)) ∷ move_ends cruise ms behind (begin + duration (parts m g h cruise))
ends-step cruise left ms speeds behind rest m g h begin one two three = rw (one, two, three) refl

ends-more : (cruise : ℕ) (moves : List Move) (speeds : List ℕ) (i begin time : ℕ) (made new whole : List ℕ) → i < length moves → length speeds ≡ length moves + 1
    → time ≡ begin + duration (parts (get_or moves i no_move) (get_or speeds i 0) (get_or speeds (i + 1) 0) cruise)
    → made ++ move_ends cruise (drop i moves) (drop i speeds) begin ≡ whole → new ≡ made ++ time ∷ [] → new ++ move_ends cruise (drop (i + 1) moves) (drop (i + 1) speeds) time ≡ whole
ends-more cruise moves speeds i begin time made new whole h count is before put =
    let split = ends-step cruise (drop i moves) (drop (i + 1) moves) (drop i speeds) (drop (i + 1) speeds) (drop (i + 1 + 1) speeds) (get_or moves i no_move) (get_or speeds i 0) (get_or speeds (i + 1) 0) begin
    (drop_more moves i no_move h) (drop_more speeds i 0 (omega arith)) (drop_more speeds (i + 1) 0 (omega arith)) in
    rw (put, append_assoc, is) (ap (λ xs. made ++ xs) (sym split) ∙ before)

pub loop-i-preserved : goal.loop-i-preserved
loop-i-preserved c =
    let before = c.loop-i.invariant in let run = c.requires in
    let took = c.duration-time.ensures in let soon = c.parts_of.ensures.soon in let so_far = before.soon in
    record {
      whole = ends-more c.args.cruise c.args.moves.now c.args.speeds.now c.loop-i.i c.loop-i.time _ c.loop-i.out.items c.push.new.self.items _ c.loop-i-test.true run.count (ap (λ d. c.loop-i.time + d) (took ∙ ap duration c.parts_of.ensures.value)) before.whole c.in_ok-push.ensures.items;
      soon = omega arith;
    }
