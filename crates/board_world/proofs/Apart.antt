-- Numbers that can meet differ on the wire, and a board's ticks stay in range.
use Rattle.std.proofs.Common.{◌≡◌, ℕ, ◌%◌, ◌+◌, ◌<◌, ◌≤◌, List, [], ◌∷◌, refl, sym, ◌∙◌, subst, arith, inl, inr}
use Rattle.std.proofs.lemmas.Bool.Decides.{leb_tells}
use Rattle.plan_types.specs.Clock.{tick_limit}
use Rattle.plan_types.specs.declared.plan.BoardState.{BoardState}
use Rattle.plan_types.specs.declared.plan.BoardState.TheVariants.{Running, Shut}
use Rattle.link_core.specs.Core.{Reply as LinkReply, Rise, AreNear}
use Rattle.link_core.proofs.Near.{Rise_within}
use Rattle.msg_code.specs.declared.cmd.Cmd.{Cmd}
use Rattle.board_sim.specs.Rig.{Rig, takes_all}
use Rattle.board_sim.proofs.RigStates.{all_tick, passes_under}
use Rattle.board_sim.specs.Fair.{Meant, commands_of}
use Rattle.board_sim.proofs.SingleCommands.{tick_takes}
use Rattle.board_world.specs.declared.event.Event.{Event}
use Rattle.board_world.specs.declared.event.Event.TheVariants.{Put, Control, Send, Resend, Arrive, Lose, Garble, Repeat, Reply, LoseReply, Pass}
use Rattle.board_world.specs.World.{Core, does, takes_in}
use Rattle.board_world.specs.Apart.{AreNumbersApart, RepliesApart, TickFits}

pub same_number : (n a : ℕ) → n < a + 12 → a ≤ n + 12 → n % 16 ≡ a % 16 → n ≡ a
same_number n a low high e = omega (arith, low, high, e)

pub down_apart : (s a : ℕ) (ns : List ℕ) → AreNear s a ns → AreNumbersApart a ns
down_apart s a [] h = tt
down_apart s a (n ∷ ns) h = (λ e. same_number n a h.0.below h.0.above e, down_apart s a ns h.2)

same_whole : (low high n w : ℕ) → high ≤ low + 12 → low ≤ n → n ≤ high → low ≤ w → w ≤ high → w % 16 ≡ n % 16 → w ≡ n
same_whole low high n w room a b c d e = omega (arith, room, a, b, c, d, e)

pub up_apart : (acked low high most : ℕ) (rs : List LinkReply) → acked ≤ low → Rise low high rs → high ≤ most → most ≤ acked + 12 → RepliesApart acked most rs
up_apart acked low high most [] first h top room = tt
up_apart acked low high most (r ∷ rs) first h top room =
    let within = Rise_within r.number high rs h.1 in (
      λ w whole. same_whole acked most r.number w room (omega (arith, first, h.0)) (omega (arith, within, top)) whole.from whole.to whole.wire,
      up_apart acked r.number high most rs (omega (arith, first, h.0)) h.1 top room,
    )

tick_obeyed : (b : Rig) (ms : List Meant) → b.controller.tick < tick_limit → (takes_all b (commands_of ms)).rig.controller.tick < tick_limit
tick_obeyed b ms h = let At : ℕ → Type 0 = λ n. n < tick_limit in subst At (sym (all_tick b (commands_of ms))) h

pub ticks_fit : (h : Core) (e : Event) → h.board.controller.tick < tick_limit → TickFits e → (does h e).board.controller.tick < tick_limit
ticks_fit h (Pass t) k f = passes_under h.board t tick_limit k f
ticks_fit h (Put b) k f = k
ticks_fit h (Control c) k f = k
ticks_fit h Send k f = k
ticks_fit h Resend k f = k
ticks_fit h Arrive k f = tick_obeyed h.board (takes_in h Arrive) k
ticks_fit h Lose k f = k
ticks_fit h Garble k f = k
ticks_fit h Repeat k f = tick_obeyed h.board (takes_in h Repeat) k
ticks_fit h Reply k f = k
ticks_fit h LoseReply k f = k
