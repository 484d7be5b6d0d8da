-- What the calls of a world tell of the state for which it stands.
use Rattle.std.proofs.Common.{◌≡◌, ℕ, zero, suc, ◌≤◌, arith, length, List, [], ◌∷◌, drop, map, refl, ap, sym, ◌∙◌}
use Rattle.std.proofs.lemmas.List.{length-drop}
use Rattle.link_core.specs.Core.{Link, Command, sent}
use Rattle.link_core.specs.Host.{Host, content_of, acked_of}
use Rattle.link_core.proofs.Standing.{acked_is}
use Rattle.board_world.specs.declared.event.Event.{Event}
use Rattle.board_world.specs.declared.event.Event.TheVariants.{Put, Control, Send, Resend, Arrive, Lose, Garble, Repeat, Reply, LoseReply, Pass}
use Rattle.wire_scene.specs.declared.scene.Way.{Way}
use Rattle.wire_scene.specs.declared.scene.Way.TheVariants.{Down, Up}
use Rattle.board_world.specs.World.{Core}
use Rattle.board_world.specs.Stands.{SeenWorld, WorldStandsFor, CanHappen, under_way, blocks_of}

none_mapped : (bs : List (List Command)) → map content_of bs ≡ [] → bs ≡ []
none_mapped [] e = refl
none_mapped (b ∷ bs) e = cc

pub none_from : (blocks : List (List Command)) (n : ℕ) → length blocks ≤ n → drop n blocks ≡ []
none_from [] zero h = refl
none_from [] (suc n) h = refl
none_from (b ∷ blocks) zero h = absurd (omega arith)
none_from (b ∷ blocks) (suc n) h = none_from blocks n (omega arith)

abbrev IsIdle : Link → Type 0
IsIdle l = (l.waiting ≡ []) × (l.acked ≡ sent l)

pub idle_of : (s : SeenWorld) (h : Core) → WorldStandsFor s h → (s.host.waiting ≡ []) × (s.host.contents ≡ []) → IsIdle h.link
idle_of s h st none =
    let l = h.link in
    let i = st.ordered.in_step in
    let gone : drop l.acked l.blocks ≡ [] = none_mapped (drop l.acked l.blocks) (sym (ap (λ (x : Host). x.contents) st.host) ∙ none.1) in
    (sym (ap (λ (x : Host). x.waiting) st.host) ∙ none.0, omega (arith, ap length gone, length-drop l.acked l.blocks, i.acked_accepted, i.accepted_sent))

pub of_idle : (s : SeenWorld) (h : Core) → WorldStandsFor s h → IsIdle h.link → (s.host.waiting ≡ []) × (s.host.contents ≡ [])
of_idle s h st idle =
    let l = h.link in
    (ap (λ (x : Host). x.waiting) st.host ∙ idle.0, ap (λ (x : Host). x.contents) st.host ∙ ap (map content_of) (none_from l.blocks l.acked (omega (arith, idle.1))))

pub acked_is_told : (s : SeenWorld) (h : Core) → WorldStandsFor s h → acked_of s.host ≡ h.link.acked
acked_is_told s h st = ap acked_of st.host ∙ acked_is h.link st.ordered.in_step

pub ways_told : (way : Way) (s : SeenWorld) (h : Core) → WorldStandsFor s h → under_way way s ≡ blocks_of way h
ways_told Down s h st = st.down
ways_told Up s h st = st.up

pub none_asked : (s : SeenWorld) (e : Event) → (e ≡ Send → ⊥) → (e ≡ Arrive → ⊥) → (e ≡ Garble → ⊥) → (e ≡ Repeat → ⊥) → ((t : ℕ) → e ≡ Pass t → ⊥) → CanHappen s e
none_asked s (Put b) a r g p q = tt
none_asked s (Control b) a r g p q = tt
none_asked s Send a r g p q = absurd (a refl)
none_asked s Resend a r g p q = tt
none_asked s Arrive a r g p q = absurd (r refl)
none_asked s Lose a r g p q = tt
none_asked s Garble a r g p q = absurd (g refl)
none_asked s Repeat a r g p q = absurd (p refl)
none_asked s Reply a r g p q = tt
none_asked s LoseReply a r g p q = tt
none_asked s (Pass t) a r g p q = absurd (q t refl)
