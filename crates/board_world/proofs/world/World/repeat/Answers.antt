use Rattle.std.proofs.Common.{refl, ◌∙◌, ◌%◌, ◌++◌, [], ap, sym, subst, List, ℕ, arith}
use Rattle.arrayvec.specs.ArrayVec.{ArrayVec}
use Rattle.std.specs.Prelude.{slice_index_or}
use Rattle.link_core.specs.Host.{content_of}
use Rattle.board_sim.specs.Given.{HearsOne}
use Rattle.board_world.specs.Stands.{SeenWorld, WorldStandsFor, texts}
use Rattle.board_world.proofs.Standing.{none_repeated_stands, oldest_block}
use Rattle.board_world.proofs.Hearing.{repeated_stands}
use Rattle.board_world.proofs.world.World.repeat.Goals as goal

pub returns : goal.returns
returns c h st =
    let i = c.self.inside in
    let before : SeenWorld = record { host = i.host; station = i.taker; down = i.down; up = i.up; pulses = i.pulses.items } in
    let At : SeenWorld → Type 0 = λ s. WorldStandsFor s h in
    let st0 : WorldStandsFor before h = subst At (sym c.self.view_is) st in
    let some = c.in-Some.ensures.some in
    let old = oldest_block h.link.blocks h.link.down c.in-Some.block.now.items some.0 (sym some.1 ∙ st0.down) in
    let n = old.0 in
    let found = c.found_in-found.ensures.block (n % 16) (content_of (slice_index_or h.link.blocks n [])) (omega arith) old.3 in
    let blocks = c.take.new.blocks.items in
    let From : List (ArrayVec ℕ) → Type 0 = λ xs. HearsOne c.found_in-found.result i.taker c.take.new.self xs blocks in
    let heard = subst From c.new-answers.ensures.items c.in_ok-take.ensures.heard in
    repeated_stands before _ h n old.1 c.found_in-found.result c.take.new.self blocks st0 old.2 found heard
    (ap (λ (u : List (List ℕ)). record before { station = c.take.new.self; up = u }) (c.in_ok-put_all.ensures ∙ ap (λ bs. i.up ++ texts bs) c.as_slice.ensures.value))

pub returns-in_default : goal.returns-in_default
returns-in_default c h st = none_repeated_stands c.args.self.now c.args.self.now h st (sym (ap (λ (x : SeenWorld). x.down) c.self.view_is) ∙ c.in_default.ensures.none) refl
