-- Lemmas on what is kept, as commands and contents.
use Rattle.std.proofs.Common.{◌≡◌, ℕ, ◌<◌, List, [], ◌∷◌, ◌++◌, zero, suc, length, drop, set, get_or, append-nil, refl, ap, sym, arith}
use Rattle.link_core.specs.declared.host.Waiting.{Waiting}
use Rattle.link_core.specs.declared.host.Outstanding.{Outstanding}
use Rattle.std.specs.List.{refill}
use Rattle.std.proofs.Math.ListN.{drop_of_length-le}
use Rattle.std.proofs.Math.Seq.{take-length}
use Rattle.link_core.specs.Views.{commands, contents, puts}

pub length_contents : (os : List Outstanding) → length (contents os) ≡ length os
length_contents [] = refl
length_contents (o ∷ os) = ap (λ n. suc n) (length_contents os)

pub length_puts : (os : List Outstanding) → length (puts os) ≡ length os
length_puts [] = refl
length_puts (o ∷ os) = ap (λ n. suc n) (length_puts os)

pub length_commands : (ws : List Waiting) → length (commands ws) ≡ length ws
length_commands [] = refl
length_commands (w ∷ ws) = ap (λ n. suc n) (length_commands ws)

pub no_contents : (os : List Outstanding) → length os ≡ 0 → contents os ≡ []
no_contents [] h = refl
no_contents (o ∷ os) h = absurd (omega arith)

pub no_commands : (ws : List Waiting) → length ws ≡ 0 → commands ws ≡ []
no_commands [] h = refl
no_commands (w ∷ ws) h = absurd (omega arith)

pub commands_push : (ws : List Waiting) (w : Waiting) → commands (ws ++ w ∷ []) ≡ commands ws ++ record { bytes = w.bytes.items; closes = w.closes } ∷ []
commands_push [] w = refl
commands_push (v ∷ ws) w = ap (λ cs. record { bytes = v.bytes.items; closes = v.closes } ∷ cs) (commands_push ws w)

pub contents_push : (os : List Outstanding) (o : Outstanding) → contents (os ++ o ∷ []) ≡ contents os ++ o.content.items ∷ []
contents_push [] o = refl
contents_push (p ∷ os) o = ap (λ cs. p.content.items ∷ cs) (contents_push os o)

pub puts_push : (os : List Outstanding) (o : Outstanding) → puts (os ++ o ∷ []) ≡ puts os ++ o.put ∷ []
puts_push [] o = refl
puts_push (p ∷ os) o = ap (λ cs. p.put ∷ cs) (puts_push os o)

pub commands_drop : (n : ℕ) (ws : List Waiting) → commands (drop n ws) ≡ drop n (commands ws)
commands_drop zero ws = refl
commands_drop (suc n) [] = refl
commands_drop (suc n) (w ∷ ws) = commands_drop n ws

pub contents_drop : (n : ℕ) (os : List Outstanding) → contents (drop n os) ≡ drop n (contents os)
contents_drop zero os = refl
contents_drop (suc n) [] = refl
contents_drop (suc n) (o ∷ os) = contents_drop n os

pub puts_drop : (n : ℕ) (os : List Outstanding) → puts (drop n os) ≡ drop n (puts os)
puts_drop zero os = refl
puts_drop (suc n) [] = refl
puts_drop (suc n) (o ∷ os) = puts_drop n os

pub contents_set : (os : List Outstanding) (i turn : ℕ) (o : Outstanding) → contents (set os i record { content = (get_or os i o).content; put = turn }) ≡ contents os
contents_set [] i turn o = refl
contents_set (p ∷ os) zero turn o = refl
contents_set (p ∷ os) (suc i) turn o = ap (λ cs. p.content.items ∷ cs) (contents_set os i turn o)

pub puts_set : (os : List Outstanding) (i : ℕ) (o : Outstanding) → puts (set os i o) ≡ set (puts os) i o.put
puts_set [] i o = refl
puts_set (p ∷ os) zero o = refl
puts_set (p ∷ os) (suc i) o = ap (λ cs. p.put ∷ cs) (puts_set os i o)

pub content_at : (os : List Outstanding) (i : ℕ) (o : Outstanding) → i < length os → get_or (contents os) i [] ≡ (get_or os i o).content.items
content_at [] i o h = absurd (omega arith)
content_at (p ∷ os) zero o h = refl
content_at (p ∷ os) (suc i) o h = content_at os i o (omega arith)

pub refill_all : {X : Type 0} → (xs ws : List X) → length ws ≡ length xs → refill (length xs) xs ws ≡ ws
refill_all xs ws e =
    let none : drop (length ws) xs ≡ [] = drop_of_length-le xs (omega arith) in
    rw (none, append-nil, sym e) (take-length ws)
