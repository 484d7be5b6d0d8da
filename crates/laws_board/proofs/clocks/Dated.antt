-- The replies under way that tell the clock: each tells the tick at which the board took the block in front of its number.
use Rattle.std.proofs.Common.{◌≡◌, ℕ, suc, ◌+◌, ◌-◌, ◌*◌, ◌^◌, ◌<◌, ◌≤◌, Bool, true, false, List, [], ◌∷◌, map, refl, sym, ◌∙◌, subst, arith, inl, inr, length-append, rules}
use Rattle.laws_board.proofs.Names.{eqb_tells, leb_tells, own_formats, Cmd, IsText, Reply, commands_of, Event, Core, Step, Do, Turn, does, after_event, in_turn, run_world, says, takes_in, wire_text, IsOrdered}
use Rattle.msg_code.specs.declared.cmd.Cmd.TheVariants as cmd
use Rattle.link_core.specs.Core.{Link, Command, InStep, sent, numbered}
use Rattle.link_core.specs.Core as link
use Rattle.board_world.specs.declared.event.Event.TheVariants as event
use Rattle.board_world.proofs.Runs.{ordered_by, ordered_turn}
use Rattle.link_work.proofs.Steps.{AllHold, tick_held, handled, repeated, lost, garbled, replied, reply_lost}
use Rattle.laws_board.proofs.clocks.Uptimes.{TellsTick, IsNoClock, none_said, tells_tick, tells_none}
use Rattle.laws_board.proofs.clocks.Answers.{Each, all_tell, says_none}
use Rattle.laws_board.proofs.clocks.Replies.{AllUp, IsBehind, IsNumber, up_by, up_more}

-- a reply that tells the clock has the number behind a block that was taken at that tick
abbrev pub Dates : (ℕ → (ℕ → Type 0)) → Reply → Type 0
Dates P r = (high low : ℕ) → IsText own_formats (cmd.Uptime high low) r.answer → (n : ℕ) × (r.number ≡ n + 1) × P n (high * 2 ^ 32 + low)

abbrev pub Dated : (ℕ → (ℕ → Type 0)) → List Reply → Type 0
Dated P rs = AllUp (Dates P) rs

pub dated_more : (P Q : ℕ → (ℕ → Type 0)) (rs : List Reply) → ((n v : ℕ) → P n v → Q n v) → Dated P rs → Dated Q rs
dated_more P Q rs f k = up_more (Dates P) (Dates Q) rs (λ r d high low t. let x = d high low t in (x.0, x.1, f x.0 (high * 2 ^ 32 + low) x.2)) k

-- the answers of a block
dated_answers : (P : ℕ → (ℕ → Type 0)) (tick n : ℕ) (cs : List Cmd) → Each (TellsTick tick) cs → tick < 2 ^ 64 → P n tick → Dated P (numbered (n + 1) (map wire_text cs))
dated_answers P tick n [] k few p = tt
dated_answers P tick n (c ∷ cs) k few p = (
  λ high low t. (n, refl, subst (λ (v : ℕ). P n v) (sym (tells_tick tick c high low few k.0 t)) p),
  dated_answers P tick n cs k.1 few p,
)

-- what is told while time passes
dated_said : (P : ℕ → (ℕ → Type 0)) (n : ℕ) (cs : List Cmd) → Each IsNoClock cs → Dated P (numbered n (map wire_text cs))
dated_said P n [] k = tt
dated_said P n (c ∷ cs) k = (λ high low t. absurd (tells_none c high low k.0 t), dated_said P n cs k.1)

-- the answers of an event
dated_behind : (P : ℕ → (ℕ → Type 0)) (l : Link) (ns : List ℕ) (tick n : ℕ) (cs : List Cmd) → InStep l → l.down ≡ ns → Each (TellsTick tick) cs → tick < 2 ^ 64 → ((n : ℕ) → l.accepted ≤ n → n < sent l → P n tick)
    → IsBehind l ns n → Dated P (numbered n (map wire_text cs))
dated_behind P l [] tick n cs s e t few p is = absurd is
dated_behind P l (m ∷ ns) tick n cs s e t few p is =
    let near = (rw e at s.down).0 in
    subst (λ (k : ℕ). Dated P (numbered k (map wire_text cs))) (sym is.1) (dated_answers P tick l.accepted cs t few (p l.accepted (omega arith) (subst (λ (k : ℕ). k < sent l) is.0 near.was_sent)))

dated_does : (P : ℕ → (ℕ → Type 0)) (h : Core) (e : Event) (tick n : ℕ) → InStep h.link → h.board.controller.tick ≡ tick → tick < 2 ^ 64 → ((n : ℕ) → h.link.accepted ≤ n → n < sent h.link → P n tick)
    → IsNumber h e n → Dated P (numbered n (map wire_text (does h e).answers))
dated_does P h event.Arrive tick n s e few p is = dated_behind P h.link h.link.down tick n _ s refl (all_tell tick h.board (commands_of (takes_in h event.Arrive)) e) few p is
dated_does P h event.Repeat tick n s e few p is = dated_behind P h.link h.link.down tick n _ s refl (all_tell tick h.board (commands_of (takes_in h event.Repeat)) e) few p is
dated_does P h (event.Pass t) tick n s e few p is = dated_said P n (says h.board t) (says_none h.board t)
dated_does P h x tick n s e few p is = tt

-- the replies behind an event
pub dated_by : (P : ℕ → (ℕ → Type 0)) (h : Core) (e : Event) (tick : ℕ) → InStep h.link → h.board.controller.tick ≡ tick → tick < 2 ^ 64 → ((n : ℕ) → h.link.accepted ≤ n → n < sent h.link → P n tick)
    → Dated P h.link.up → Dated P (after_event h e).link.up
dated_by P h e tick s at few p k = up_by (Dates P) h e (λ n high low t. absurd (none_said (cmd.Uptime high low) t)) (λ n is. dated_does P h e tick n s at few p is) k

-- no block is taken back
sent_sent : (l : Link) (cs : List Command) → sent l ≤ sent (link.send l cs)
sent_sent l cs = search (rules, length-append, leb_tells)

sent_by : (h : Core) (e : Event) → sent h.link ≤ sent (after_event h e).link
sent_by h e = search (rules, sent_sent, wire_text, does, lost, repeated, garbled, replied, reply_lost)

pub sent_grows : (steps : List Step) (h : Core) → sent h.link ≤ sent (run_world steps h).link
sent_grows [] h = omega arith
sent_grows (Do e ∷ steps) h = omega (arith, sent_by h e, sent_grows steps (after_event h e))
sent_grows (Turn turn ∷ steps) h = omega (arith, sent_grows steps (in_turn h turn))

-- the board takes blocks one after the other
accepted_handled : (l : Link) (n : ℕ) (answers : List (List ℕ)) → l.accepted ≤ (link.handle l n answers).accepted
accepted_handled l n answers = elim (eqb_tells n l.accepted) [ inl p ↦ let e = p.1 in rw p.0 (omega arith) | inr p ↦ rw p.0 (omega arith) ]

accepted_repeated : (l : Link) (ns : List ℕ) (answers : List (List ℕ)) → l.accepted ≤ (link.repeat l ns answers).accepted
accepted_repeated l [] answers = omega arith
accepted_repeated l (n ∷ ns) answers = accepted_handled l n answers

accepted_lost : (l : Link) (ns : List ℕ) → (link.lose l ns).accepted ≡ l.accepted
accepted_lost l [] = refl
accepted_lost l (n ∷ ns) = refl

accepted_garbled : (l : Link) (ns : List ℕ) (told : Bool) → (link.garble l ns told).accepted ≡ l.accepted
accepted_garbled l [] told = refl
accepted_garbled l (n ∷ ns) true = refl
accepted_garbled l (n ∷ ns) false = refl

accepted_replied : (l : Link) (rs : List Reply) → (link.reply l rs).accepted ≡ l.accepted
accepted_replied l [] = refl
accepted_replied l (r ∷ rs) = refl

accepted_unreplied : (l : Link) (rs : List Reply) → (link.lose_reply l rs).accepted ≡ l.accepted
accepted_unreplied l [] = refl
accepted_unreplied l (r ∷ rs) = refl

accepted_sent : (l : Link) (cs : List Command) → (link.send l cs).accepted ≡ l.accepted
accepted_sent l [] = refl
accepted_sent l (c ∷ cs) = elim (leb_tells (suc (sent l - l.acked)) 12) [ inl p ↦ rw p.0 refl | inr p ↦ rw p.0 refl ]

accepted_by : (h : Core) (e : Event) → h.link.accepted ≤ (after_event h e).link.accepted
accepted_by h e = search (rules, accepted_sent, wire_text, does, accepted_lost, accepted_repeated, accepted_garbled, accepted_replied, accepted_unreplied)

pub accepted_grows : (steps : List Step) (h : Core) → h.link.accepted ≤ (run_world steps h).link.accepted
accepted_grows [] h = omega arith
accepted_grows (Do e ∷ steps) h = omega (arith, accepted_by h e, accepted_grows steps (after_event h e))
accepted_grows (Turn turn ∷ steps) h = omega (arith, accepted_grows steps (in_turn h turn))

-- while the board stands
pub dated_along : (P : ℕ → (ℕ → Type 0)) (steps : List Step) (h : Core) (tick low most : ℕ) → AllHold steps → IsOrdered h → h.board.controller.tick ≡ tick → tick < 2 ^ 64
    → ((n : ℕ) → low ≤ n → n < most → P n tick) → low ≤ h.link.accepted → sent (run_world steps h).link ≤ most → Dated P h.link.up → Dated P (run_world steps h).link.up
dated_along P [] h tick low most held o e few p from within k = k
dated_along P (Do x ∷ steps) h tick low most held o e few p from within k =
    let grows = sent_grows (Do x ∷ steps) h in
    let next = accepted_by h x in
    dated_along P steps (after_event h x) tick low most held.1 (ordered_by h x o) (tick_held (Do x ∷ []) h (held.0, tt) ∙ e) few p (omega arith) within
    (dated_by P h x tick o.in_step e few (λ n above below. p n (omega arith) (omega arith)) k)
dated_along P (Turn turn ∷ steps) h tick low most held o e few p from within k =
    dated_along P steps (in_turn h turn) tick low most held.1 (ordered_turn h turn o) e few p from within k
