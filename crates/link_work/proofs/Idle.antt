-- The host's part of a turn in which nothing is queued, waits or is outstanding.
use Rattle.std.proofs.Common.{◌≡◌, ℕ, false, ◌+◌, List, [], length, drop, map, refl, ap, sym, ◌∙◌, arith, append-nil}
use Rattle.std.proofs.Math.Seq.{drop-length}
use Rattle.plan_types.proofs.Facts.{false_true}
use Rattle.link_core.specs.Core.{Link, Command}
use Rattle.link_core.specs.Core as link
use Rattle.link_core.specs.Host.{Host}
use Rattle.link_core.specs.Stands.{host_of}
use Rattle.msg_code.specs.declared.cmd.Cmd.{Cmd}
use Rattle.msg_code.specs.declared.unit.Batch.{Batch}
use Rattle.msg_code.specs.declared.unit.Control.{Control}
use Rattle.wire_scene.specs.declared.scene.Way.TheVariants.{Down}
use Rattle.wire_scene.specs.Wire.{Line}
use Rattle.board_world.specs.declared.event.Event.TheVariants as event
use Rattle.board_world.specs.Orders.{plain, units_orders}
use Rattle.board_world.specs.Stands.{SeenWorld, WorldStandsFor, blocks_of}
use Rattle.board_world.specs.World.{Core, after_event, in_turn, on_wire, run_world}
use Rattle.board_world.proofs.Standing.{same_stands}
use Rattle.link_work.specs.Turn.{Orders, host_steps, put_all, sends}
use Rattle.link_work.specs.Told.{asked_in}
use Rattle.link_work.specs.Stands.{IsHostPart}
use Rattle.link_work.proofs.Asked.{all_asked, asked_after, none_asked, rest_asked}
use Rattle.link_work.proofs.Sending.{all_sent, none_sent, rest_sent, sends_none}

queue_none : (l : Link) (cs : List Command) → cs ≡ [] → link.queue l cs ≡ l
queue_none l cs none = ap (λ x. link.queue l x) none ∙ ap (λ (ws : List Command). record l { waiting = ws }) (append-nil l.waiting)

no_control : (s : SeenWorld) (h : Core) (c : Control) → c.commands ≡ [] → WorldStandsFor s h → WorldStandsFor s (after_event h (event.Control c))
no_control s h c none st =
    same_stands s s h (event.Control c) st (ap (map plain) none) refl refl refl (queue_none h.link (map on_wire (map plain c.commands)) (ap (λ (cs : List Cmd). map on_wire (map plain cs)) none)) refl

no_batch : (s : SeenWorld) (h : Core) (b : Batch) → b.units ≡ [] → WorldStandsFor s h → WorldStandsFor s (after_event h (event.Put b))
no_batch s h b none st =
    let orders = ap units_orders none in
    same_stands s s h (event.Put b) st orders refl refl refl (queue_none h.link (map on_wire (units_orders b.units)) (ap (map on_wire) orders)) refl

-- what the host's part makes of a world in which no command waits and no block is outstanding, where nothing is queued
pub idle_host : (turn : ℕ) (o : Orders) (old s : SeenWorld) (l : Line) (asked : List ℕ) → o.control.commands ≡ [] → o.batch.units ≡ [] → (old.host.waiting ≡ []) × (old.host.contents ≡ [])
    → ((h : Core) → WorldStandsFor old h → WorldStandsFor s (in_turn h turn)) → asked ≡ []
    → (h : Core) → WorldStandsFor old h → (part : IsHostPart turn o h s l l) × (asked ≡ asked_in (host_steps turn o part.resent) h)
idle_host turn o old s l asked commands units idle begun none h st =
    let st1 = begun h st in
    let begun_core : Core = in_turn h turn in
    let controlled : Core = after_event begun_core (event.Control o.control) in
    let g : Core = after_event controlled (event.Put o.batch) in
    let st3 : WorldStandsFor s g = no_batch s controlled o.batch units (no_control s begun_core o.control commands st1) in
    let waiting : s.host.waiting ≡ [] = ap (λ (x : Host). x.waiting) st1.host ∙ sym (ap (λ (x : Host). x.waiting) st.host) ∙ idle.0 in
    let silent = sends_none s waiting in
    let all : 0 + 12 ≡ 12 = omega arith in
    let stands : WorldStandsFor s (run_world (host_steps turn o false) h) = all_sent s s (0 + 12) (rest_sent s s 0 12 (none_sent s) silent) all g st3 in
    let asks = all_asked s [] [] (0 + 12) (rest_asked s s [] [] 0 12 (none_sent s) (none_asked s []) silent) all g st3 in
    let contents : length (host_of h.link).contents ≡ 0 = ap (λ (x : Host). length x.contents) (sym st.host) ∙ ap length idle.1 in
    let same : blocks_of Down (run_world (host_steps turn o false) h) ≡ blocks_of Down h = sym stands.down ∙ st1.down in (
      record {
        resent = false;
        due = (λ e. absurd (false_true e), λ d. absurd (omega (arith, d.0, contents)));
        stands = stands;
        put = sym (ap (put_all l turn) (ap (drop (length (blocks_of Down h))) same ∙ drop-length (blocks_of Down h)));
      },
      none ∙ asks ∙ sym (asked_after turn o false h (sends 12)),
    )
