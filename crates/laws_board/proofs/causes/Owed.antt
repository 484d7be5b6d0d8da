-- The askings for the clock that are still to be put on the line, and the block of the last one that was put.
use Rattle.std.proofs.Common.{◌≡◌, ℕ, zero, suc, ◌+◌, ◌-◌, ◌<◌, ◌≤◌, inl, inr, Bool, true, false, List, [], ◌∷◌, ◌++◌, length, map, drop, take, Option, Some, None, refl, ap, sym, ◌∙◌, subst, arith, append_assoc, append-nil, length-append}
use Rattle.std.specs.Prelude.{◌&&◌, nat_le, nat_lt, if◌then◌else◌}
use Rattle.laws_board.proofs.Names.{flat_map, leb_tells, Asking, Core, Step, Do, Turn, after_event, run_world, IsTurn, LinkState, Orders, after_board, after_host, run_append, BoardClock, plain, units_orders}
use Rattle.link_core.specs.Core.{Command, Link, next_block, sent}
use Rattle.link_core.specs.Core as link
use Rattle.link_core.specs.Host.{closes_last}
use Rattle.link_core.specs.Stands.{last_closes}
use Rattle.board_asking.specs.declared.asking.Put.{Put}
use Rattle.board_asking.specs.Asking.{was_put, were_put}
use Rattle.board_world.specs.declared.event.Event.TheVariants as event
use Rattle.link_work.specs.Answers.{IsInBlock}
use Rattle.link_work.specs.Limits.{closing_in}
use Rattle.link_work.specs.Told.{asked_by, asked_in}
use Rattle.link_work.specs.Turn.{after_replies, host_steps, resends, sends}
use Rattle.link_work.proofs.Asked.{asked_after}
use Rattle.link_work.proofs.Blocks.{AllFit, behind, behind_is, behind_part, no_more}
use Rattle.link_work.proofs.Draining.{IsSound, parts_of}
use Rattle.link_work.proofs.Limits.{closing_append, fit_append}
use Rattle.laws_board.proofs.causes.Splits.{split_behind, split_in}
use Rattle.board_world.specs.World.{on_wire}
use Rattle.plan_types.proofs.Facts.{is_less}
use Rattle.link_core.proofs.Standing.{last_closes_push}

-- the number of the last of some blocks that has a command which closes it, of blocks from a number on
abbrev pub last_closing : Option ℕ → ℕ → List (List Command) → Option ℕ
last_closing o n [] = o
last_closing o n (b ∷ bs) = last_closing (if nat_le 1 (closing_in b) then Some n else o) (n + 1) bs

last_more : (o : Option ℕ) (n : ℕ) (bs : List (List Command)) (b : List Command) → last_closing o n (bs ++ b ∷ []) ≡ (if nat_le 1 (closing_in b) then Some (n + length bs) else last_closing o n bs)
last_more o n [] b = ap (λ (k : ℕ). if nat_le 1 (closing_in b) then Some k else o) (omega arith)
last_more o n (x ∷ bs) b =
    let rest = last_closing (if nat_le 1 (closing_in x) then Some n else o) (n + 1) bs in
    last_more (if nat_le 1 (closing_in x) then Some n else o) (n + 1) bs b ∙ ap (λ (k : ℕ). if nat_le 1 (closing_in b) then Some k else rest) (omega arith)

-- a block has one command that closes it, and this is its last, or none
abbrev pub count_of : Bool → ℕ
count_of b = if b then 1 else 0

block_closed : (closes last : Bool) (c : Command) (ns cs rest : List Command) → closes ≡ c.closes → closing_in ns + closing_in rest ≡ closing_in cs → (closing_in ns ≡ count_of (closes_last false ns))
    → (closing_in (c ∷ (if closes then [] else ns)) + closing_in (if closes then cs else rest) ≡ closing_in (c ∷ cs))
    × (closing_in (c ∷ (if closes then [] else ns)) ≡ count_of (closes_last false (c ∷ (if closes then [] else ns))))
block_closed true last c ns cs rest e f g = rw (sym e) (omega arith, refl)
block_closed false last c ns cs rest e f g = rw (sym e) (omega (arith, f), no_more (closing_in ns) ∙ g)

pub block_closing : (room : ℕ) (cs : List Command) → (closing_in (next_block room cs) + closing_in (behind room cs) ≡ closing_in cs) × (closing_in (next_block room cs) ≡ count_of (closes_last false (next_block room cs)))
block_closing room [] = (refl, refl)
block_closing room (c ∷ cs) =
    elim (leb_tells (length c.bytes) room) [
      | inl p ↦
          let rest = block_closing (room - length c.bytes) cs in
          rw p.0 (block_closed c.closes false c (next_block (room - length c.bytes) cs) cs (behind (room - length c.bytes) cs) refl rest.0 rest.1)
      | inr p ↦ rw p.0 (omega arith, refl)
    ]

-- what a reactor knows of the askings for the clock, and how the link stands
abbrev pub number_in : Option Put → Option ℕ
number_in None = None
number_in (Some p) = Some p.number

pub record Matches (a : Asking) (l : Link) : Type 0 where
  pub owed : a.owed ≡ closing_in l.waiting
  pub put : number_in a.put ≡ last_closing None 0 l.blocks
  pub fit : AllFit l.waiting

pub put_append : (turn : ℕ) (xs ys : List ℕ) (a : Asking) → were_put turn (xs ++ ys) a ≡ were_put turn ys (were_put turn xs a)
put_append turn [] ys a = refl
put_append turn (x ∷ xs) ys a = put_append turn xs ys (was_put turn a x)

not_less : (n : ℕ) → nat_lt n n ≡ false
not_less n = elim (leb_tells (suc n) n) [ inl p ↦ let q = p.1 in absurd (omega arith) | inr p ↦ p.0 ]

-- a block is put
abbrev asked_so : ℕ → Bool → List ℕ
asked_so n b = if b then n ∷ [] else []

block_put : (turn : ℕ) (a : Asking) (l g : Link) (b : Bool) (nb rest : List Command) → g.blocks ≡ l.blocks ++ nb ∷ [] → g.waiting ≡ rest → closing_in nb + closing_in rest ≡ closing_in l.waiting
    → closing_in nb ≡ count_of b → AllFit rest → Matches a l → Matches (were_put turn (asked_so (sent l) b) a) g
block_put turn a l g true nb rest e f sum one fit m =
    let owed = m.owed in
    record {
      owed = omega (arith, ap closing_in f);
      put = ap {A = ℕ} (λ n. Some n) (sym (no_more (sent l))) ∙ ap (λ (t : Bool). if t then Some (0 + sent l) else last_closing None 0 l.blocks) (ap (nat_le 1) (sym one)) ∙ sym (last_more None 0 l.blocks nb) ∙ ap (last_closing None 0) (sym e);
      fit = subst AllFit (sym f) fit;
    }
block_put turn a l g false nb rest e f sum one fit m =
    let owed = m.owed in
    record {
      owed = omega (arith, ap closing_in f);
      put = m.put ∙ ap (λ (t : Bool). if t then Some (0 + sent l) else last_closing None 0 l.blocks) (ap (nat_le 1) (sym one)) ∙ sym (last_more None 0 l.blocks nb) ∙ ap (last_closing None 0) (sym e);
      fit = subst AllFit (sym f) fit;
    }

first_fits : (c : Command) (cs : List Command) (closed : Bool) → length c.bytes ≤ 59 → closes_last closed (next_block 59 (c ∷ cs)) ≡ closes_last false (next_block 59 (c ∷ cs))
first_fits c cs closed h = elim (leb_tells (length c.bytes) 59) [
  | inl p ↦ rw p.0 refl
  | inr p ↦ let q = p.1 in absurd (omega arith)
]

sends_one : (turn : ℕ) (a : Asking) (l : Link) (ws : List Command) → l.waiting ≡ ws → Matches a l
    → Matches (were_put turn (if nat_lt (sent l) (sent (link.send l ws)) && last_closes false (link.send l ws).blocks then sent l ∷ [] else []) a) (link.send l ws)
sends_one turn a l [] e m = rw (not_less (sent l)) m
sends_one turn a l (c ∷ cs) e m =
    let nb = next_block 59 (c ∷ cs) in
    let fits : AllFit (c ∷ cs) = subst AllFit e m.fit in
    let split = block_closing 59 (c ∷ cs) in
    elim (leb_tells (suc (sent l - l.acked)) 12) [
      | inl p ↦
          let g : Link = record l { blocks = l.blocks ++ nb ∷ []; waiting = drop (length nb) (c ∷ cs); down = l.down ++ sent l ∷ []; puts = l.puts ++ l.turn ∷ [] } in
          let more : nat_lt (sent l) (sent g) ≡ true = is_less (sent l) (sent g) (omega (arith, length-append l.blocks (nb ∷ []))) in
          let closes : last_closes false g.blocks ≡ closes_last false nb = last_closes_push false l.blocks nb ∙ first_fits c cs (last_closes false l.blocks) fits.0 in
          let At : Link → Type 0 = λ x. Matches (were_put turn (if nat_lt (sent l) (sent x) && last_closes false x.blocks then sent l ∷ [] else []) a) x in
          let sum = split.0 in
          let done : Matches (were_put turn (asked_so (sent l) (closes_last false nb)) a) g =
          block_put turn a l g (closes_last false nb) nb (behind 59 (c ∷ cs)) refl (behind_is 59 (c ∷ cs)) (omega (arith, ap closing_in e)) split.1 ((behind_part 59 (c ∷ cs)).fit fits) m in
          let now : At g = subst (λ (t : Bool). Matches (were_put turn (if t then sent l ∷ [] else []) a) g) (sym (ap (λ (t : Bool). t && last_closes false g.blocks) more ∙ closes)) done in
          subst At (sym (sent_if p.0)) now
      | inr p ↦ rw p.0 (rw (not_less (sent l)) m)
    ]
  where
    sent_if : nat_lt (sent l - l.acked) 12 ≡ true
        → link.send l (c ∷ cs) ≡ record l { blocks = l.blocks ++ next_block 59 (c ∷ cs) ∷ []; waiting = drop (length (next_block 59 (c ∷ cs))) (c ∷ cs); down = l.down ++ sent l ∷ []; puts = l.puts ++ l.turn ∷ [] }
    sent_if h = rw h refl

sends_many : (n turn : ℕ) (a : Asking) (h : Core) → Matches a h.link → Matches (were_put turn (asked_in (sends n) h) a) (run_world (sends n) h).link
unfolding sends
sends_many zero turn a h m = m
sends_many (suc n) turn a h m =
    let g = after_event h event.Send in
    let one = sends_one turn a h.link h.link.waiting refl m in
    subst (λ (x : Asking). Matches x (run_world (sends n) g).link) (sym (put_append turn (asked_by h g) (asked_in (sends n) g) a)) (sends_many n turn (were_put turn (asked_by h g) a) g one)

-- the host's part of a turn
queues : (a c : Asking) (l g : Link) (more : List Command) → g.blocks ≡ l.blocks → g.waiting ≡ l.waiting ++ more → c.owed ≡ a.owed + closing_in more → c.put ≡ a.put → AllFit more → Matches a l → Matches c g
queues a c l g more blocks waiting owed put fit m =
    let was = m.owed in
    record {
      owed = omega (arith, ap closing_in waiting, closing_append l.waiting more);
      put = ap number_in put ∙ m.put ∙ ap (last_closing None 0) (sym blocks);
      fit = subst AllFit (sym waiting) (fit_append l.waiting more m.fit fit);
    }

abbrev queued_first : ℕ → Orders → Bool → List Step
queued_first turn o resent = Turn turn ∷ Do (event.Control o.control) ∷ Do (event.Put o.batch) ∷ resends resent

first_blocks : (turn : ℕ) (o : Orders) (resent : Bool) (h : Core) → (run_world (queued_first turn o resent) h).link.blocks ≡ h.link.blocks
first_blocks turn o true h = refl
first_blocks turn o false h = refl

first_waiting : (turn : ℕ) (o : Orders) (resent : Bool) (h : Core)
    → (run_world (queued_first turn o resent) h).link.waiting ≡ (h.link.waiting ++ map on_wire (map plain o.control.commands)) ++ map on_wire (units_orders o.batch.units)
first_waiting turn o true h = refl
first_waiting turn o false h = refl

pub host_matches : (k turn : ℕ) (o : Orders) (resent : Bool) (h : Core) (a c : Asking) → c.owed ≡ a.owed + closing_in (map on_wire (map plain o.control.commands)) → c.put ≡ a.put
    → AllFit (map on_wire (map plain o.control.commands)) → AllFit (map on_wire (units_orders o.batch.units)) → closing_in (map on_wire (units_orders o.batch.units)) ≡ 0
    → Matches a h.link → Matches (were_put k (asked_in (host_steps turn o resent) h) c) (run_world (host_steps turn o resent) h).link
host_matches k turn o resent h a c owed put fit units none m =
    let first = queued_first turn o resent in
    let g = run_world first h in
    let controls = map on_wire (map plain o.control.commands) in
    let more = map on_wire (units_orders o.batch.units) in
    let whole : g.link.waiting ≡ h.link.waiting ++ (controls ++ more) = first_waiting turn o resent h ∙ append_assoc h.link.waiting controls more in
    let at = queues a c h.link g.link (controls ++ more) (first_blocks turn o resent h) whole (omega (arith, closing_append controls more)) put (fit_append controls more fit units) m in
    let asked : asked_in (host_steps turn o resent) h ≡ asked_in (sends 12) g = asked_after turn o resent h (sends 12) in
    let steps : run_world (host_steps turn o resent) h ≡ run_world (sends 12) g = run_append first (sends 12) h in
    subst (λ (x : Core). Matches (were_put k (asked_in (host_steps turn o resent) h) c) x.link) (sym steps)
    (subst (λ (ns : List ℕ). Matches (were_put k ns c) (run_world (sends 12) g).link) (sym asked) (sends_many 12 k c g at))

pub turn_matches : (clock : BoardClock) (turn k : ℕ) (o : Orders) (l m : LinkState) (a c : Asking) → IsSound l turn → (t : IsTurn clock turn o l m)
    → c.owed ≡ a.owed + closing_in (map on_wire (map plain o.control.commands)) → c.put ≡ a.put
    → AllFit (map on_wire (map plain o.control.commands)) → AllFit (map on_wire (units_orders o.batch.units)) → closing_in (map on_wire (units_orders o.batch.units)) ≡ 0
    → Matches a l.core.link → Matches (were_put k (asked_in (host_steps turn o t.resent) l.core) c) m.core.link
turn_matches clock turn k o l m a c s t owed put fit units none x =
    let l1 : LinkState = after_host turn o t.resent l in
    let l2 : LinkState = after_board clock turn l1 in
    let l3 : LinkState = after_replies turn l2 in
    let parts = parts_of clock turn o t.resent l s.step s.many in
    let h = host_matches k turn o t.resent l.core a c owed put fit units none x in
    subst (λ (y : LinkState). Matches (were_put k (asked_in (host_steps turn o t.resent) l.core) c) y.core.link) (sym t.becomes) (record {
      owed = h.owed ∙ ap closing_in (sym (parts.heard.waiting ∙ parts.came.did.waiting));
      put = h.put ∙ ap (last_closing None 0) (sym (parts.heard.blocks ∙ parts.came.did.blocks));
      fit = subst AllFit (sym (parts.heard.waiting ∙ parts.came.did.waiting)) h.fit;
    })

-- the last command that closes its block is in the last block that is closed
abbrev flat : List (List Command) → List Command
flat bs = flat_map (λ cs. cs) bs

none_closing : (o : Option ℕ) (n : ℕ) (bs : List (List Command)) → closing_in (flat bs) ≡ 0 → last_closing o n bs ≡ o
none_closing o n [] e = refl
none_closing o n (b ∷ bs) e =
    let both = closing_append b (flat bs) in
    let none : closing_in b ≡ 0 = omega arith in
    ap (λ (k : ℕ). last_closing (if nat_le 1 k then Some n else o) (n + 1) bs) none ∙ none_closing o (n + 1) bs (omega arith)

some_closing : (o : Option ℕ) (n : ℕ) (b : List Command) (bs : List (List Command)) → 1 ≤ closing_in b → closing_in (flat bs) ≡ 0 → last_closing o n (b ∷ bs) ≡ Some n
some_closing o n b bs h e = elim (leb_tells 1 (closing_in b)) [
  | inl p ↦ ap (λ (t : Bool). last_closing (if t then Some n else o) (n + 1) bs) p.0 ∙ none_closing (Some n) (n + 1) bs e
  | inr p ↦ let q = p.1 in absurd (omega arith)
]

closed_one : (c : Command) (rest : List Command) → c.closes ≡ true → closing_in (c ∷ rest) ≡ 1 + closing_in rest
closed_one c rest e = ap (λ (t : Bool). (if t then 1 else 0) + closing_in rest) e

last_from : (o : Option ℕ) (first n place : ℕ) (bs : List (List Command)) (waiting front rest : List Command) (c : Command) → n < length bs → length (flat (take n bs)) ≤ place → place < length (flat (take (n + 1) bs))
    → flat bs ++ waiting ≡ front ++ c ∷ rest → length front ≡ place → c.closes ≡ true → closing_in rest ≡ 0 → (closing_in waiting ≡ 0) × (last_closing o first bs ≡ Some (first + n))
last_from o first n place [] waiting front rest c h low high e at closes none = absurd (omega arith)
last_from o first zero place (b ∷ bs) waiting front rest c h low high e at closes none =
    let size : length (flat (take 1 (b ∷ bs))) ≡ length b = ap length (append-nil b) in
    let whole : b ++ (flat bs ++ waiting) ≡ front ++ c ∷ rest = sym (append_assoc b (flat bs) waiting) ∙ e in
    let part = split_in b (flat bs ++ waiting) front rest c whole (omega (arith, size)) in
    let one = closed_one c part.0 closes in
    let in_b = ap closing_in part.1 ∙ closing_append front (c ∷ part.0) in
    let in_rest = ap closing_in part.2 ∙ closing_append part.0 (flat bs ++ waiting) in
    let both = closing_append (flat bs) waiting in
    (omega arith, some_closing o first b bs (omega arith) (omega arith) ∙ ap {A = ℕ} (λ k. Some k) (omega arith))
last_from o first (suc n) place (b ∷ bs) waiting front rest c h low high e at closes none =
    let from = length-append b (flat (take n bs)) in
    let to = length-append b (flat (take (n + 1) bs)) in
    let next : suc n + 1 ≡ suc (n + 1) = omega arith in
    let reach : length (flat (take (suc n + 1) (b ∷ bs))) ≡ length (b ++ flat (take (n + 1) bs)) = ap (λ (k : ℕ). length (flat (take k (b ∷ bs)))) next in
    let whole : b ++ (flat bs ++ waiting) ≡ front ++ c ∷ rest = sym (append_assoc b (flat bs) waiting) ∙ e in
    let part = split_behind b (flat bs ++ waiting) front rest c whole (omega arith) in
    let size = ap length part.1 ∙ length-append b part.0 in
    let found = last_from (if nat_le 1 (closing_in b) then Some first else o) (first + 1) n (length part.0) bs waiting part.0 rest c (omega arith) (omega arith) (omega arith) part.2 refl closes none in
    (found.0, found.1 ∙ ap {A = ℕ} (λ k. Some k) (omega arith))

pub last_is : (place n : ℕ) (bs : List (List Command)) (waiting front rest : List Command) (c : Command) → IsInBlock bs place n → flat bs ++ waiting ≡ front ++ c ∷ rest → length front ≡ place → c.closes ≡ true
    → closing_in rest ≡ 0 → (closing_in waiting ≡ 0) × (last_closing None 0 bs ≡ Some n)
last_is place n bs waiting front rest c block e at closes none =
    let found = last_from None 0 n place bs waiting front rest c block.sent block.from block.before e at closes none in
    (found.0, found.1 ∙ ap {A = ℕ} (λ k. Some k) (no_more n))
