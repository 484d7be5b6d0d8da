use Rattle.std.proofs.Common.{◌≡◌, ◌∙◌, ◌++◌, [], ◌∷◌, ap, sym, subst, refl, List, ℕ, length, map, drop, arith}
use Rattle.arrayvec.specs.ArrayVec.{ArrayVec}
use Rattle.block_frame.specs.declared.Found.TheVariants.{Bad}
use Rattle.link_core.specs.Core.{Command}
use Rattle.board_sim.specs.Given.{HearsOne}
use Rattle.board_world.specs.Stands.{SeenWorld, WorldStandsFor, text_at, texts}
use Rattle.board_world.proofs.Hearing.{garbled_stands, none_garbled_stands}
use Rattle.board_world.proofs.world.World.garble.Goals as goal

some_down : (blocks : List (List Command)) (ds : List ℕ) (xs : List (List ℕ)) → xs ≡ map (text_at blocks) ds → (length xs ≡ 0 → ⊥) → (n : ℕ) × (ns : List ℕ) × (ds ≡ n ∷ ns)
some_down blocks [] xs e some = absurd (some (ap length e))
some_down blocks (n ∷ ns) xs e some = (n, ns, refl)

none_there : (xs : List (List ℕ)) → length xs ≡ 0 → xs ≡ []
none_there [] e = refl
none_there (x ∷ xs) e = absurd (omega (arith, e))

pub returns : goal.returns
returns c h st =
    let i = c.self.inside in
    let before : SeenWorld = record { host = i.host; station = i.taker; down = i.down; up = i.up; pulses = i.pulses.items } in
    let At : SeenWorld → Type 0 = λ s. WorldStandsFor s h in
    let st0 : WorldStandsFor before h = subst At (sym c.self.view_is) st in
    let some = some_down h.link.blocks h.link.down i.down st0.down (λ e. c.if-len-eq0.false (c.len.ensures ∙ e)) in
    let blocks = c.take.new.blocks.items in
    let From : List (ArrayVec ℕ) → Type 0 = λ xs. HearsOne Bad i.taker c.take.new.self xs blocks in
    let heard = subst From c.new-answers.ensures.items c.in_ok-take.ensures.heard in
    garbled_stands before _ h some.0 some.1 c.take.new.self blocks st0 some.2 heard
    (ap (λ (d : List (List ℕ)). record before { station = c.take.new.self; down = d; up = c.put_all.new.self }) c.lose.ensures
    ∙ ap (λ (u : List (List ℕ)). record before { station = c.take.new.self; down = drop 1 i.down; up = u }) (c.in_ok-put_all.ensures ∙ ap (λ bs. i.up ++ texts bs) c.as_slice.ensures.value))

pub returns-then-len-eq0 : goal.returns-then-len-eq0
returns-then-len-eq0 c h st =
    let none = none_there c.self.inside.down (sym c.len.ensures ∙ c.if-len-eq0.true) in
    none_garbled_stands c.args.self.now c.args.self.now h st (sym (ap (λ (x : SeenWorld). x.down) c.self.view_is) ∙ none) refl
