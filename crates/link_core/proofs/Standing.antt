-- The host's end does what the link does.
use Rattle.std.proofs.Common.{◌≡◌, ℕ, Bool, false, ◌+◌, ◌-◌, ◌%◌, ◌≤◌, ◌<◌, List, [], ◌∷◌, ◌++◌, suc, length, drop, map, max, refl, ap, sym, ◌∙◌, arith, inl, inr, nat_lt}
use Rattle.std.proofs.lemmas.Bool.Decides.{leb_tells, nat_tests}
use Rattle.std.proofs.lemmas.List.{drop-append-le, length-drop, length-map, length_push, drop-map, drop-drop}
use Rattle.link_core.specs.Core.{Link, Command, Reply, InStep, Rise, sent, send, reply, next_block, is_empty}
use Rattle.link_core.specs.Numbers.{IsNumberOnWire}
use Rattle.link_core.specs.Host.{content_of, closes_last, given, acked_by, acked_of}
use Rattle.link_core.specs.Stands.{host_of, last_closes}
use Rattle.link_core.proofs.Near.{Rise_within}

pub last_closes_push : (closed : Bool) (bs : List (List Command)) (b : List Command) → last_closes closed (bs ++ b ∷ []) ≡ closes_last (last_closes closed bs) b
last_closes_push closed [] b = refl
last_closes_push closed (c ∷ bs) b = last_closes_push (closes_last closed c) bs b

map_push : (bs : List (List Command)) (b : List Command) → map content_of (bs ++ b ∷ []) ≡ map content_of bs ++ content_of b ∷ []
map_push [] b = refl
map_push (c ∷ bs) b = ap (λ t. content_of c ∷ t) (map_push bs b)

pub acked_is : (h : Link) → InStep h → acked_of (host_of h) ≡ h.acked
acked_is h s = simp (length-map, length-drop) (omega (arith, s.acked_accepted, s.accepted_sent))

pub stands_send : (h : Link) (ws : List Command) → h.waiting ≡ ws → InStep h → sent h < h.acked + 12 → 0 < length ws → host_of (send h ws) ≡ given (host_of h) h.turn (next_block 59 ws)
stands_send h [] e s room some = absurd (omega arith)
stands_send h (c ∷ cs) e s room some =
    let block = next_block 59 (c ∷ cs) in
    let low : h.acked ≤ length h.blocks = omega (arith, s.acked_accepted, s.accepted_sent) in
    elim (leb_tells (suc (sent h - h.acked)) 12) [
      | inl p ↦ rw (p.0, e, last_closes_push false h.blocks block, drop-append-le h.acked h.blocks (block ∷ []) low, map_push (drop h.acked h.blocks) block, length_push h.blocks block) refl
      | inr p ↦ absurd (omega (arith, p.1, room))
    ]

some_more : (a s l : ℕ) → l ≡ s - a → nat_lt 0 l ≡ nat_lt a s
some_more a s l e = grind (arith, nat_tests)

pub stands_reply : (h : Link) (r : Reply) (rs : List Reply) → InStep h → h.up ≡ r ∷ rs → host_of (reply h (r ∷ rs)) ≡ acked_by (host_of h) r.number (is_empty r.answer)
stands_reply h r rs s e =
    let up : Rise h.acked h.accepted (r ∷ rs) = rw e at s.up in
    let n = r.number in
    let now : max h.acked r.number ≡ r.number = omega (arith, up.0) in
    let sum : h.acked + (r.number - h.acked) ≡ r.number = omega (arith, up.0) in
    let rest : map content_of (drop r.number h.blocks) ≡ drop (r.number - h.acked) (map content_of (drop h.acked h.blocks)) =
    sym (drop-map content_of (r.number - h.acked) (drop h.acked h.blocks) ∙ ap (map content_of) (drop-drop (r.number - h.acked) h.acked h.blocks ∙ ap (λ k. drop k h.blocks) sum)) in
    let size : length (map content_of (drop h.acked h.blocks)) ≡ sent h - h.acked = simp (length-map, length-drop) refl in
    let tests : nat_lt 0 (length (map content_of (drop h.acked h.blocks))) ≡ nat_lt h.acked (sent h) = some_more h.acked (sent h) (length (map content_of (drop h.acked h.blocks))) size in
    rw (acked_is h s, tests, now, rest) refl

pub reply_is_whole : (h : Link) (r : Reply) (rs : List Reply) → InStep h → h.up ≡ r ∷ rs → IsNumberOnWire (acked_of (host_of h)) (sent h) (r.number % 16) r.number
reply_is_whole h r rs s e =
    let up : Rise h.acked h.accepted (r ∷ rs) = rw e at s.up in
    let within : r.number ≤ h.accepted = Rise_within r.number h.accepted rs up.1 in
    rw (acked_is h s) (record { from = up.0; to = omega (arith, within, s.accepted_sent); wire = refl })
