-- What is queued, and what the board took of it.
use Rattle.std.proofs.Common.{◌≡◌, ℕ, ◌-◌, List, [], ◌∷◌, ◌++◌, length, take, drop, suc, Bool, true, false, refl, ap, sym, ◌∙◌, inl, inr, append_assoc, append-nil}
use Rattle.std.proofs.lemmas.Bool.Decides.{leb_tells, eqb_tells}
use Rattle.std.proofs.lemmas.List.{take-append-drop}
use Rattle.std.specs.List.{flat_map}
use Rattle.std.specs.Prelude.{if◌then◌else◌}
use Rattle.std.proofs.lemmas.Grind.{flat_map-append}
use Rattle.link_core.specs.Core.{garble, Link, Event, Command, Reply, happens, run, sent, send, lose, repeat, reply, lose_reply, next_block, queued, commands_of}
use Rattle.link_core.specs.Core.Event.{Put, Control, Send, Resend, Arrive, Repeat, Lose, Garble, Reply_comes, Lose_reply, Pass, Turn}

closing : (closes : Bool) (c : Command) (cs ns : List Command) → ns ++ drop (length ns) cs ≡ cs
    → (c ∷ (if closes then [] else ns)) ++ drop (length (c ∷ (if closes then [] else ns))) (c ∷ cs) ≡ c ∷ cs
closing true c cs ns e = refl
closing false c cs ns e = ap (λ t. c ∷ t) e

-- a block is the first commands that wait
block_first : (room : ℕ) (cs : List Command) → next_block room cs ++ drop (length (next_block room cs)) cs ≡ cs
block_first room [] = refl
block_first room (c ∷ cs) =
    elim (leb_tells (length c.bytes) room) [
      | inl p ↦ rw p.0 (closing c.closes c cs (next_block (room - length c.bytes) cs) (block_first (room - length c.bytes) cs))
      | inr p ↦ rw p.0 refl
    ]

send_queued : (h : Link) (cs : List Command) → h.waiting ≡ cs → queued (send h cs) ≡ queued h
send_queued h [] e = refl
send_queued h (c ∷ cs) e =
    let block = next_block 59 (c ∷ cs) in
    let rest = drop (length block) (c ∷ cs) in
    let before = flat_map (λ b. b) h.blocks in
    let whole : flat_map (λ b. b) (h.blocks ++ block ∷ []) ++ rest ≡ before ++ h.waiting =
    ap (λ t. t ++ rest) (flat_map-append (λ b. b) h.blocks (block ∷ []) ∙ ap (λ t. before ++ t) (append-nil block))
    ∙ append_assoc before block rest ∙ ap (λ t. before ++ t) (block_first 59 (c ∷ cs) ∙ sym e) in
    elim (leb_tells (suc (sent h - h.acked)) 12) [ inl p ↦ rw p.0 whole | inr p ↦ rw p.0 refl ]

lose_queued : (h : Link) (ns : List ℕ) → queued (lose h ns) ≡ queued h
lose_queued h [] = refl
lose_queued h (n ∷ ns) = refl

repeat_queued : (h : Link) (ns : List ℕ) (answers : List (List ℕ)) → queued (repeat h ns answers) ≡ queued h
repeat_queued h [] answers = refl
repeat_queued h (n ∷ ns) answers = elim (eqb_tells n h.accepted) [ inl p ↦ rw p.0 refl | inr p ↦ rw p.0 refl ]

reply_queued : (h : Link) (rs : List Reply) → queued (reply h rs) ≡ queued h
reply_queued h [] = refl
reply_queued h (r ∷ rs) = refl

lose_reply_queued : (h : Link) (rs : List Reply) → queued (lose_reply h rs) ≡ queued h
lose_reply_queued h [] = refl
lose_reply_queued h (r ∷ rs) = refl

garble_queued : (h : Link) (ns : List ℕ) (told : Bool) → queued (garble h ns told) ≡ queued h
garble_queued h [] told = refl
garble_queued h (n ∷ ns) true = refl
garble_queued h (n ∷ ns) false = refl

happens_queued : (h : Link) (e : Event) → queued (happens h e) ≡ queued h ++ commands_of e
happens_queued h (Put cs) = sym (append_assoc (flat_map (λ b. b) h.blocks) h.waiting cs)
happens_queued h (Control cs) = sym (append_assoc (flat_map (λ b. b) h.blocks) h.waiting cs)
happens_queued h Send = send_queued h h.waiting refl ∙ sym (append-nil (queued h))
happens_queued h Resend = sym (append-nil (queued h))
happens_queued h (Arrive answers) = lose_queued (repeat h h.down answers) h.down ∙ repeat_queued h h.down answers ∙ sym (append-nil (queued h))
happens_queued h (Repeat answers) = repeat_queued h h.down answers ∙ sym (append-nil (queued h))
happens_queued h (Garble told) = garble_queued h h.down told ∙ sym (append-nil (queued h))
happens_queued h Lose = lose_queued h h.down ∙ sym (append-nil (queued h))
happens_queued h Reply_comes = reply_queued h h.up ∙ sym (append-nil (queued h))
happens_queued h Lose_reply = lose_reply_queued h h.up ∙ sym (append-nil (queued h))
happens_queued h (Turn turn) = sym (append-nil (queued h))
happens_queued h (Pass answers) = sym (append-nil (queued h))

pub run_queued : (events : List Event) (h : Link) → queued (run events h) ≡ queued h ++ flat_map commands_of events
run_queued [] h = sym (append-nil (queued h))
run_queued (e ∷ events) h =
    run_queued events (happens h e) ∙ ap (λ q. q ++ flat_map commands_of events) (happens_queued h e) ∙ append_assoc (queued h) (commands_of e) (flat_map commands_of events)

-- the commands of the first blocks begin the queue
pub first_blocks : (h : Link) (n : ℕ) → flat_map (λ b. b) (take n h.blocks) ++ (flat_map (λ b. b) (drop n h.blocks) ++ h.waiting) ≡ queued h
first_blocks h n =
    sym (append_assoc (flat_map (λ b. b) (take n h.blocks)) (flat_map (λ b. b) (drop n h.blocks)) h.waiting)
    ∙ ap (λ q. q ++ h.waiting) (sym (flat_map-append (λ b. b) (take n h.blocks) (drop n h.blocks)) ∙ ap (λ bs. flat_map (λ b. b) bs) (take-append-drop n h.blocks))
