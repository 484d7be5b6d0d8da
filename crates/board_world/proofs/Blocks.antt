-- The content of a block that the board expects is its commands, and it reads as them.
use Rattle.std.proofs.Common.{◌≡◌, ℕ, zero, suc, ◌<◌, ◌≤◌, List, [], ◌∷◌, ◌++◌, length, map, take, drop, refl, ap, sym, ◌∙◌, subst, arith, append_assoc, inl, inr, length-append}
use Rattle.std.proofs.lemmas.Bool.Decides.{eqb_tells}
use Rattle.std.proofs.Math.Seq.{take-append_seam, drop-append_seam, drop-cons}
use Rattle.std.specs.Prelude.{slice_index_or, Bool, true, false, ◌==◌, if◌then◌else◌}
use Rattle.std.specs.List.{flat_map}
use Rattle.link_core.specs.Core.{Command, AreNear, sent}
use Rattle.link_core.specs.Host.{content_of}
use Rattle.link_core.proofs.Queued.{first_blocks}
use Rattle.vlq_code.proofs.Lengths.{some}
use Rattle.msg_dict.specs.Dictionary.{Named}
use Rattle.msg_dict.specs.Own.{own_formats}
use Rattle.msg_code.specs.declared.cmd.Cmd.{Cmd}
use Rattle.msg_code.specs.Text.{IsText}
use Rattle.msg_code.proofs.Texts.{one_text}
use Rattle.board_sim.specs.Fair.{Meant, commands_of}
use Rattle.board_sim.specs.Turn.{Holds}
use Rattle.board_world.specs.World.{Core, on_wire, block_of, wire_text}
use Rattle.board_world.specs.Stands.{AreRead, IsOrdered}
use Rattle.board_world.proofs.Runs.{map-take}

map-drop : (n : ℕ) (ms : List Meant) → map on_wire (drop n ms) ≡ drop n (map on_wire ms)
map-drop zero ms = refl
map-drop (suc n) [] = refl
map-drop (suc n) (m ∷ ms) = map-drop n ms

read_take : (n : ℕ) (ms : List Meant) → AreRead ms → AreRead (take n ms)
read_take zero ms h = tt
read_take (suc n) [] h = tt
read_take (suc n) (m ∷ ms) h = (h.0, read_take n ms h.1)

read_drop : (n : ℕ) (ms : List Meant) → AreRead ms → AreRead (drop n ms)
read_drop zero ms h = h
read_drop (suc n) [] h = tt
read_drop (suc n) (m ∷ ms) h = read_drop n ms h.1

-- a command has a byte
has_bytes : (es : List Named) (c : Cmd) (text rest : List ℕ) → IsText es c text → [] ≡ text ++ rest → ⊥
has_bytes es c text rest s e =
    let parts = s.spelled in
    let one : 1 ≤ length parts.first = some parts.first parts.is_first.joined in
    let size : 0 ≡ length (text ++ rest) = ap length e in
    omega (arith, one, size, length-append text rest, ap length parts.joined, length-append parts.first parts.rest)

-- commands that are read from their bytes are those that their content holds
pub reads_as : (ms : List Meant) (cs : List Cmd) → AreRead ms → Holds own_formats (content_of (map on_wire ms)) cs → cs ≡ commands_of ms
reads_as [] [] r h = refl
reads_as [] (c ∷ cs) r h = absurd (has_bytes own_formats c h.first h.rest h.is_first h.joined)
reads_as (m ∷ ms) [] r h = absurd (h m.command (wire_text m.command) (content_of (map on_wire ms)) r.0 refl)
reads_as (m ∷ ms) (c ∷ cs) r h =
    let text = wire_text m.command in
    let rest = content_of (map on_wire ms) in
    let e : text ++ rest ≡ h.first ++ h.rest = h.joined in
    let same = one_text own_formats m.command c text h.first rest h.rest r.0 h.is_first e in
    let tails : rest ≡ h.rest = sym (drop-append_seam text rest) ∙ ap (drop (length text)) e ∙ ap (λ t. drop (length t) (h.first ++ h.rest)) same.0 ∙ drop-append_seam h.first h.rest in
    let At : List ℕ → Type 0 = λ x. Holds own_formats x cs in
    ap (λ d. d ∷ cs) (sym same.1) ∙ ap (λ ds. m.command ∷ ds) (reads_as ms cs r.1 (subst At (sym tails) h.is_rest))

-- the next commands of the queue are those of the block that the board expects
block_carried : (h : Core) → IsOrdered h → h.link.accepted < length h.link.blocks
    → map on_wire (take (length (slice_index_or h.link.blocks h.link.accepted [])) (drop (length h.link.taken) h.queued)) ≡ slice_index_or h.link.blocks h.link.accepted []
block_carried h o within =
    let l = h.link in
    let n = l.accepted in
    let b = slice_index_or l.blocks n [] in
    let k = length l.taken in
    let all = λ (bs : List (List Command)). flat_map (λ cs. cs) bs in
    let whole : l.taken ++ (all (drop n l.blocks) ++ l.waiting) ≡ map on_wire h.queued =
    ap (λ x. x ++ (all (drop n l.blocks) ++ l.waiting)) o.in_step.each_once ∙ first_blocks l n ∙ o.carried in
    let next : all (drop n l.blocks) ++ l.waiting ≡ b ++ (all (drop (suc n) l.blocks) ++ l.waiting) =
    ap (λ x. all x ++ l.waiting) (drop-cons l.blocks n [] within) ∙ append_assoc b (all (drop (suc n) l.blocks)) l.waiting in
    let behind : drop k (map on_wire h.queued) ≡ b ++ (all (drop (suc n) l.blocks) ++ l.waiting) =
    ap (drop k) (sym whole) ∙ drop-append_seam l.taken (all (drop n l.blocks) ++ l.waiting) ∙ next in
    map-take (length b) (drop k h.queued) ∙ ap (take (length b)) (map-drop k h.queued ∙ behind) ∙ take-append_seam b (all (drop (suc n) l.blocks) ++ l.waiting)

pub block_is : (h : Core) (n : ℕ) (ns : List ℕ) → IsOrdered h → h.link.down ≡ n ∷ ns → n ≡ h.link.accepted
    → slice_index_or h.link.blocks n [] ≡ map on_wire (block_of h (n ∷ ns))
block_is h n ns o down same =
    let l = h.link in
    let near : AreNear (sent l) l.accepted (n ∷ ns) = rw down at o.in_step.down in
    let within : l.accepted < length l.blocks = omega (arith, near.0.was_sent, same) in
    let carried = block_carried h o within in
    let here : slice_index_or l.blocks n [] ≡ map on_wire (take (length (slice_index_or l.blocks n [])) (drop (length l.taken) h.queued)) = rw same (sym carried) in
    elim (eqb_tells n l.accepted) [
      | inl p ↦ rw p.0 here
      | inr p ↦ absurd (p.1 same)
    ]

none_or : (test : Bool) (ms : List Meant) → AreRead ms → AreRead (if test then ms else [])
none_or true ms r = r
none_or false ms r = tt

pub block_reads : (h : Core) (n : ℕ) (ns : List ℕ) → AreRead h.queued → AreRead (block_of h (n ∷ ns))
block_reads h n ns r =
    let l = h.link in
    let count = length (slice_index_or l.blocks n []) in
    none_or (n == l.accepted) (take count (drop (length l.taken) h.queued)) (read_take count (drop (length l.taken) h.queued) (read_drop (length l.taken) h.queued r))
