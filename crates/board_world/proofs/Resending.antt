-- All outstanding blocks are put on the line again.
use Rattle.std.proofs.Common.{◌≡◌, ℕ, zero, suc, ◌%◌, ◌+◌, ◌-◌, ◌<◌, ◌≤◌, arith, length, ◌++◌, List, [], ◌∷◌, drop, take, map, set, get_or, refl, ap, sym, ◌∙◌, append_assoc}
use native.Mathlib.Numerals.{unary_clauses}
use Rattle.std.proofs.Math.Seq.{drop-cons}
use Rattle.std.proofs.lemmas.List.{map-append, take_more}
use Rattle.block_frame.specs.Block.{block_text}
use Rattle.link_core.specs.Host.{Host, content_of, put_again, acked_of}
use Rattle.link_core.proofs.Standing.{acked_is}
use Rattle.link_core.specs.Core.{Link, Command, numbers}
use Rattle.link_core.specs.Core as link
use Rattle.board_world.specs.declared.event.Event.TheVariants.{Resend}
use Rattle.board_world.specs.World.{Core, after_event}
use Rattle.board_world.specs.Stands.{SeenWorld, WorldStandsFor, text_at, blocks_from, all_put_again}
use Rattle.board_world.proofs.Standing.{quiet_stands}
use Rattle.board_world.proofs.Telling.{none_from}

-- the first blocks are put again
abbrev pub put_first : ℕ → ℕ → List ℕ → List ℕ
put_first turn zero puts = puts
put_first turn (suc n) [] = []
put_first turn (suc n) (p ∷ puts) = turn ∷ put_first turn n puts

pub put_next : (turn i : ℕ) (puts : List ℕ) → set (put_first turn i puts) i turn ≡ put_first turn (i + 1) puts
put_next turn zero [] = refl
put_next turn zero (p ∷ puts) = refl
put_next turn (suc i) [] = simp unary_clauses refl
put_next turn (suc i) (p ∷ puts) = simp unary_clauses (ap (λ x. turn ∷ x) (simp unary_clauses at (put_next turn i puts)))

put_every : (turn i : ℕ) (puts : List ℕ) → length puts ≤ i → put_first turn i puts ≡ map (λ put. turn) puts
put_every turn zero [] h = refl
put_every turn zero (p ∷ puts) h = absurd (omega arith)
put_every turn (suc i) [] h = refl
put_every turn (suc i) (p ∷ puts) h = ap (λ x. turn ∷ x) (put_every turn i puts (omega arith))

-- the host's end once the first blocks are put again
abbrev pub first_again : Host → ℕ → Host
first_again host i = record host { puts = put_first host.turn i host.puts }

pub none_again : (host : Host) → host ≡ first_again host 0
none_again host = refl

pub next_again : (host old new : Host) (i : ℕ) → old ≡ first_again host i → new ≡ put_again old i → new ≡ first_again host (i + 1)
next_again host old new i e f = f ∙ ap (λ x. put_again x i) e ∙ ap (λ x. record host { puts = x }) (put_next host.turn i host.puts)

pub every_again : (host new : Host) (i : ℕ) → length host.puts ≤ i → new ≡ first_again host i → new ≡ all_put_again host
every_again host new i h e = e ∙ ap (λ x. record host { puts = x }) (put_every host.turn i host.puts h)

-- the blocks that are put
pub same_sum : (n : ℕ) → n ≡ n + 0
same_sum n = omega arith

blocks_push : (n : ℕ) (cs : List (List ℕ)) (c : List ℕ) → blocks_from n (cs ++ c ∷ []) ≡ blocks_from n cs ++ block_text ((n + length cs) % 16) c ∷ []
blocks_push n [] c = ap (λ k. block_text (k % 16) c ∷ []) (same_sum n)
blocks_push n (d ∷ cs) c =
    let number : n + 1 + length cs ≡ n + suc (length cs) = omega arith in
    ap (λ x. block_text (n % 16) d ∷ x) (blocks_push (n + 1) cs c ∙ ap (λ k. blocks_from (n + 1) cs ++ block_text (k % 16) c ∷ []) number)

length_take : (i : ℕ) (cs : List (List ℕ)) → i ≤ length cs → length (take i cs) ≡ i
length_take zero cs h = refl
length_take (suc i) [] h = absurd (omega arith)
length_take (suc i) (c ∷ cs) h = ap (λ k. suc k) (length_take i cs (omega arith))

-- one block more
pub next_put : (n i : ℕ) (cs : List (List ℕ)) (first old new : List (List ℕ)) (text : List ℕ) → i < length cs → old ≡ first ++ blocks_from n (take i cs)
    → text ≡ block_text ((n + i) % 16) (get_or cs i []) → new ≡ old ++ text ∷ [] → new ≡ first ++ blocks_from n (take (i + 1) cs)
next_put n i cs first old new text h before is put =
    let c = get_or cs i [] in
    let more : blocks_from n (take (i + 1) cs) ≡ blocks_from n (take i cs) ++ block_text ((n + i) % 16) c ∷ [] =
    ap (blocks_from n) (take_more cs i [] h) ∙ blocks_push n (take i cs) c ∙ ap (λ k. blocks_from n (take i cs) ++ block_text ((n + k) % 16) c ∷ []) (length_take i cs (omega arith)) in
    put ∙ ap (λ x. old ++ x ∷ []) is ∙ ap (λ x. x ++ block_text ((n + i) % 16) c ∷ []) before ∙ append_assoc first (blocks_from n (take i cs)) (block_text ((n + i) % 16) c ∷ [])
    ∙ ap (λ x. first ++ x) (sym more)

one_more : (n : ℕ) → suc n ≡ n + 1
one_more n = omega arith

-- the blocks from n on, by their numbers
put_numbers : (blocks : List (List Command)) (n k : ℕ) → n + k ≡ length blocks → blocks_from n (map content_of (drop n blocks)) ≡ map (text_at blocks) (numbers n k)
put_numbers blocks n zero e = ap (λ x. blocks_from n (map content_of x)) (none_from blocks n (omega (arith, e)))
put_numbers blocks n (suc k) e =
    ap (λ x. blocks_from n (map content_of x)) (drop-cons blocks n [] (omega (arith, e)))
    ∙ ap (λ m. text_at blocks n ∷ blocks_from (n + 1) (map content_of (drop m blocks))) (one_more n)
    ∙ ap (λ x. text_at blocks n ∷ x) (put_numbers blocks (n + 1) k (omega (arith, e)))

pub resent_stands : (s t : SeenWorld) (h : Core) → WorldStandsFor s h → t ≡ record s { host = all_put_again s.host; down = s.down ++ blocks_from (acked_of s.host) s.host.contents } → WorldStandsFor t (after_event h Resend)
resent_stands s t h st e =
    let l = h.link in
    let i = st.ordered.in_step in
    let all : l.acked + (link.sent l - l.acked) ≡ length l.blocks = omega (arith, i.acked_accepted, i.accepted_sent) in
    quiet_stands s t h Resend st refl refl refl
    (ap (λ (x : SeenWorld). x.host) e ∙ ap all_put_again st.host)
    (ap (λ (x : SeenWorld). x.station) e ∙ st.station)
    refl
    (ap (λ (x : SeenWorld). x.down) e ∙ ap (λ x. x ++ blocks_from (acked_of s.host) s.host.contents) st.down
    ∙ ap (λ (x : Host). map (text_at l.blocks) l.down ++ blocks_from (acked_of x) x.contents) st.host
    ∙ ap (λ n. map (text_at l.blocks) l.down ++ blocks_from n (map content_of (drop l.acked l.blocks))) (acked_is l i)
    ∙ ap (λ x. map (text_at l.blocks) l.down ++ x) (put_numbers l.blocks l.acked (link.sent l - l.acked) all)
    ∙ sym (map-append (text_at l.blocks) l.down (numbers l.acked (link.sent l - l.acked))))
    (ap (λ (x : SeenWorld). x.up) e ∙ st.up)
    (ap (λ (x : SeenWorld). x.pulses) e)
