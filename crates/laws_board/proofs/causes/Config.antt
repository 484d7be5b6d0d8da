-- A board that took the end of its configuration says so where it is asked.
use Rattle.std.proofs.Common.{◌≡◌, ℕ, ◌+◌, ◌^◌, ◌<◌, ◌≤◌, inl, inr, Bool, true, false, List, [], ◌∷◌, ◌++◌, length, map, take, drop, Some, refl, ap, sym, ◌∙◌, subst, arith, append_assoc, append-nil, length-append, rules}
use Rattle.std.specs.Prelude.{◌%◌, slice_index_or, nat_le, if◌then◌else◌}
use Rattle.laws_board.proofs.Names.{eqb_tells, leb_tells, length-map, take-append-drop, BoardClock, board_tick, own_formats, IsText, Cmd, News, Reply, Down, Up, Meant, commands_of, Rig, takes, takes_all, plain, IsOrdered, Core, Step, Do, Turn, world_after, does, run_world, wire_text, come, run_append}
use Rattle.msg_code.specs.declared.cmd.Cmd.TheVariants as cmd
use Rattle.link_core.specs.Core.{AreNear, Command, InStep, Link, numbered, sent}
use Rattle.link_core.specs.Core as link
use Rattle.wire_scene.specs.declared.wire.Fate.{Fate}
use Rattle.wire_scene.specs.declared.wire.Fate.TheVariants.{Lost, Last, Stays, Garbled}
use Rattle.wire_scene.specs.Wire.{Copy}
use Rattle.board_world.specs.declared.event.Event.TheVariants as event
use Rattle.board_world.specs.World.{block_of, on_wire}
use Rattle.board_world.proofs.Runs.{all_orders, ordered, wired}
use Rattle.link_work.specs.Answers.{IsAmong}
use Rattle.link_work.specs.Told.{AreNews, heard_in, news_of}
use Rattle.link_work.specs.Turn.{board_steps, comes}
use Rattle.link_work.proofs.Hearing.{heard_append}
use Rattle.link_work.proofs.Reaching.{heard_as}
use Rattle.link_work.proofs.OnLines.{AllLast}
use Rattle.link_work.proofs.Saying.{among_left, among_right}
use Rattle.link_work.proofs.Steps.{AllOf, all_come}
use Rattle.link_work.specs.Turn.{still}
use Rattle.laws_board.proofs.causes.Made.{AllMay, Ready, config_by, finished, may_first, may_rest, ready_all, ready_passes}
use Rattle.laws_board.proofs.causes.Splits.{split_behind, split_in}
use Rattle.link_work.proofs.Answered.{due_if, heard_both}
use Rattle.link_work.proofs.Lines.{lost_up}

-- a board's answer to a get_config
abbrev pub configured : ℕ → Cmd
configured moves = cmd.Config 1 0 0 (moves % 2 ^ 16)

-- one of some replies says that the board is configured
pub record SaysSo (more : List Reply) : Type 0 where
  pub number : ℕ
  pub moves : ℕ
  pub among : IsAmong (record { number = number; answer = wire_text (configured moves) }) more

says_left : (xs ys : List Reply) → SaysSo xs → SaysSo (xs ++ ys)
says_left xs ys s = record { number = s.number; moves = s.moves; among = among_left _ xs ys s.among }

says_right : (xs ys : List Reply) → SaysSo ys → SaysSo (xs ++ ys)
says_right xs ys s = record { number = s.number; moves = s.moves; among = among_right _ xs ys s.among }

among_replies : (n : ℕ) (c : Cmd) (cs : List Cmd) → IsAmong c cs → IsAmong (record { number = n; answer = wire_text c }) (numbered n (map wire_text cs))
among_replies n c [] k = absurd k
among_replies n c (d ∷ cs) (inl e) = inl (ap (λ (x : Cmd). record { number = n; answer = wire_text x }) e)
among_replies n c (d ∷ cs) (inr k) = inr (among_replies n c cs k)

all_answers : (b : Rig) (before : List Meant) (m : Meant) (behind : List Meant) (a : Cmd) → IsAmong a (takes (takes_all b (commands_of before)).rig m.command).answers
    → IsAmong a (takes_all b (commands_of (before ++ m ∷ behind))).answers
all_answers b [] m behind a k = among_left a (takes b m.command).answers (takes_all (takes b m.command).rig (commands_of behind)).answers k
all_answers b (x ∷ before) m behind a k =
    among_right a (takes b x.command).answers (takes_all (takes b x.command).rig (commands_of (before ++ m ∷ behind))).answers (all_answers (takes b x.command).rig before m behind a k)

-- a link whose board took commands of connecting, of which a get_config stands behind the end of the configuration
pub record Waits (front rest : List Meant) (h : Core) : Type 0 where
  pub queued : h.queued ≡ front ++ plain cmd.GetConfig ∷ rest
  pub done : finished front ≡ true
  pub may : AllMay h.queued
  pub ready : Ready h.taken h.board.controller

taken_many : (h : Core) → IsOrdered h → length h.taken ≡ length h.link.taken
taken_many h o = sym (length-map h.taken on_wire) ∙ sym (ap length (wired h o))

-- the commands that it takes of a block
says_block : (h : Core) (front rest ms left : List Meant) → Waits front rest h → h.queued ≡ h.taken ++ (ms ++ left) → length h.taken ≤ length front → length front < length h.taken + length ms
    → (moves : ℕ) × IsAmong (configured moves) (takes_all h.board (commands_of ms)).answers
says_block h front rest ms left w queued low high =
    let part = split_behind h.taken (ms ++ left) front rest (plain cmd.GetConfig) (sym queued ∙ w.queued) low in
    let size = ap length part.1 ∙ length-append h.taken part.0 in
    let inner = split_in ms left part.0 rest (plain cmd.GetConfig) part.2 (omega arith) in
    let r = (takes_all h.board (commands_of part.0)).rig in
    let may : AllMay (h.taken ++ (ms ++ left)) = subst (λ (l : List Meant). AllMay l) queued w.may in
    let mine : AllMay (part.0 ++ plain cmd.GetConfig ∷ inner.0) = subst (λ (l : List Meant). AllMay l) inner.1 (may_first ms left (may_rest h.taken (ms ++ left) may)) in
    let ready = ready_all h.taken h.board part.0 (may_first part.0 (plain cmd.GetConfig ∷ inner.0) mine) w.ready in
    let said = config_by r (h.taken ++ part.0) ready (ap finished (sym part.1) ∙ w.done) in
    let moves = r.controller.slots in
    let c = configured moves in
    let here : IsAmong c (takes r cmd.GetConfig).answers = subst (λ (l : List Cmd). IsAmong c l) (sym said) (inl refl) in
    (moves, subst (λ (l : List Meant). IsAmong c (takes_all h.board (commands_of l)).answers) (sym inner.1) (all_answers h.board part.0 (plain cmd.GetConfig) inner.0 c here))

-- what something that comes to the board makes of it
pub record Comes (h : Core) (place taken : ℕ) (l : Link) : Type 0 where
  pub more : List Reply
  pub up : l.up ≡ h.link.up ++ more
  pub says : length h.taken ≤ place → place < taken → SaysSo more

block_rest : (h : Core) → IsOrdered h → (n : ℕ) → h.queued ≡ h.taken ++ (take n (drop (length h.link.taken) h.queued) ++ drop n (drop (length h.link.taken) h.queued))
block_rest h o n =
    let t = length h.link.taken in
    sym (take-append-drop t h.queued) ∙ ap (λ (x : List Meant). x ++ drop t h.queued) (sym o.first) ∙ ap (λ (x : List Meant). h.taken ++ x) (sym (take-append-drop n (drop t h.queued)))

repeats : (h : Core) (front rest : List Meant) (ds : List ℕ) → IsOrdered h → Waits front rest h
    → Comes h (length front) (length h.taken + length (block_of h ds)) (link.repeat h.link ds (map wire_text (takes_all h.board (commands_of (block_of h ds))).answers))
repeats h front rest [] o w = record { more = []; up = sym (append-nil h.link.up); says = λ low high. absurd (omega arith) }
repeats h front rest (n ∷ ns) o w =
    let l = h.link in
    let size = length (slice_index_or l.blocks n []) in
    let ms = take size (drop (length l.taken) h.queued) in
    let left = drop size (drop (length l.taken) h.queued) in
    let empty : List Reply = record { number = n + 1; answer = [] } ∷ [] in
    elim (eqb_tells n l.accepted) [
      | inl p ↦ rw p.0 (record {
        more = numbered (n + 1) (map wire_text (takes_all h.board (commands_of ms)).answers) ++ empty;
        up = refl;
        says = λ low high.
            let s = says_block h front rest ms left w (block_rest h o size) low high in
            record { number = n + 1; moves = s.0; among = among_left _ (numbered (n + 1) (map wire_text (takes_all h.board (commands_of ms)).answers)) empty (among_replies (n + 1) (configured s.0) _ s.1) };
      })
      | inr p ↦ rw p.0 (record { more = record { number = l.accepted; answer = [] } ∷ []; up = refl; says = λ low high. absurd (omega arith) })
    ]

garbled_up : (l : Link) (ds : List ℕ) (told : Bool) → (more : List Reply) × ((link.garble l ds told).up ≡ l.up ++ more)
garbled_up l [] told = ([], sym (append-nil l.up))
garbled_up l (n ∷ ns) true = ([], sym (append-nil l.up))
garbled_up l (n ∷ ns) false = (record { number = l.accepted; answer = [] } ∷ [], refl)

abbrev IsComing : Step → Type 0
IsComing (Do event.Arrive) = Unit {0}
IsComing (Do event.Repeat) = Unit {0}
IsComing (Do event.Lose) = Unit {0}
IsComing (Do event.Garble) = Unit {0}
IsComing s = ⊥

come_by : (fate : Fate) → AllOf IsComing (comes Down fate)
come_by Stays = (tt, (tt, tt))
come_by c = (tt, tt)

one_comes : (h : Core) (front rest : List Meant) (s : Step) → IsComing s → IsOrdered h → Waits front rest h → Comes h (length front) (length (world_after h s).taken) (world_after h s).link
one_comes h front rest (Do event.Arrive) k o w =
    let c = repeats h front rest h.link.down o w in
    record { more = c.more; up = lost_up _ h.link.down ∙ c.up; says = λ low high. c.says low (omega (arith, length-append h.taken (block_of h h.link.down))) }
one_comes h front rest (Do event.Repeat) k o w =
    let c = repeats h front rest h.link.down o w in
    record { more = c.more; up = c.up; says = λ low high. c.says low (omega (arith, length-append h.taken (block_of h h.link.down))) }
one_comes h front rest (Do event.Lose) k o w =
    record { more = []; up = lost_up h.link h.link.down ∙ sym (append-nil h.link.up); says = λ low high. absurd (omega (arith, length-append h.taken [])) }
one_comes h front rest (Do event.Garble) k o w =
    let g = garbled_up h.link h.link.down h.spoilt in
    record { more = g.0; up = g.1; says = λ low high. absurd (omega (arith, length-append h.taken [])) }
one_comes h front rest (Do event.Reply) k o w = absurd k
one_comes h front rest (Do event.LoseReply) k o w = absurd k
one_comes h front rest (Do event.Send) k o w = absurd k
one_comes h front rest (Do event.Resend) k o w = absurd k
one_comes h front rest (Do (event.Put b)) k o w = absurd k
one_comes h front rest (Do (event.Control c)) k o w = absurd k
one_comes h front rest (Do (event.Pass t)) k o w = absurd k
one_comes h front rest (Turn turn) k o w = absurd k

-- what is taken is a part of what was queued
may_take : (n : ℕ) (ms : List Meant) → AllMay ms → AllMay (take n ms)
may_take n ms k = may_first (take n ms) (drop n ms) (subst (λ (l : List Meant). AllMay l) (sym (take-append-drop n ms)) k)

may_drop : (n : ℕ) (ms : List Meant) → AllMay ms → AllMay (drop n ms)
may_drop n ms k = may_rest (take n ms) (drop n ms) (subst (λ (l : List Meant). AllMay l) (sym (take-append-drop n ms)) k)

block_may : (h : Core) (ds : List ℕ) → AllMay h.queued → AllMay (block_of h ds)
block_may h ds p2 = search (rules, eqb_tells, may_take, slice_index_or, may_drop)

-- the board stays ready
none_taken : (h : Core) → Ready h.taken h.board.controller → Ready (h.taken ++ []) h.board.controller
none_taken h r = subst (λ (l : List Meant). Ready l h.board.controller) (sym (append-nil h.taken)) r

ready_after : (h : Core) (s : Step) → AllMay h.queued → Ready h.taken h.board.controller → Ready (world_after h s).taken (world_after h s).board.controller
ready_after h (Do event.Arrive) k r = ready_all h.taken h.board (block_of h h.link.down) (block_may h h.link.down k) r
ready_after h (Do event.Repeat) k r = ready_all h.taken h.board (block_of h h.link.down) (block_may h h.link.down k) r
ready_after h (Do event.Lose) k r = none_taken h r
ready_after h (Do event.Garble) k r = none_taken h r
ready_after h (Do event.Reply) k r = none_taken h r
ready_after h (Do event.LoseReply) k r = none_taken h r
ready_after h (Do event.Send) k r = none_taken h r
ready_after h (Do event.Resend) k r = none_taken h r
ready_after h (Do (event.Put b)) k r = none_taken h r
ready_after h (Do (event.Control c)) k r = none_taken h r
ready_after h (Do (event.Pass t)) k r = ready_passes (h.taken ++ []) h.board t (none_taken h r)
ready_after h (Turn turn) k r = r

pub ready_along : (steps : List Step) (h : Core) → AllMay (run_world steps h).queued → Ready h.taken h.board.controller → Ready (run_world steps h).taken (run_world steps h).board.controller
ready_along [] h k r = r
ready_along (s ∷ steps) h k r =
    let mine : AllMay h.queued = may_first h.queued _ (subst (λ (l : List Meant). AllMay l) (all_orders (s ∷ steps) h) k) in
    ready_along steps (world_after h s) k (ready_after h s mine r)

-- the board's part of a turn
come_queues : (h : Core) (s : Step) → IsComing s → (world_after h s).queued ≡ h.queued
come_queues h s p2 = search (rules, append-nil)

waits_after : (h : Core) (front rest : List Meant) (s : Step) → IsComing s → Waits front rest h → Waits front rest (world_after h s)
waits_after h front rest s k w = search (rules, come_queues, ready_after)

all_come_by : (h : Core) (front rest : List Meant) (steps : List Step) → AllOf IsComing steps → IsOrdered h → Waits front rest h → Comes h (length front) (length (run_world steps h).taken) (run_world steps h).link
all_come_by h front rest [] k o w = record { more = []; up = sym (append-nil h.link.up); says = λ low high. absurd (omega arith) }
all_come_by h front rest (s ∷ steps) k o w =
    let g = world_after h s in
    let one = one_comes h front rest s k.0 o w in
    let next = all_come_by g front rest steps k.1 (ordered (s ∷ []) h o) (waits_after h front rest s k.0 w) in
    record {
      more = one.more ++ next.more;
      up = next.up ∙ ap (λ (rs : List Reply). rs ++ next.more) one.up ∙ append_assoc h.link.up one.more next.more;
      says = λ low high. elim (leb_tells (length front + 1) (length g.taken)) [
        | inl p ↦ let q = p.1 in says_left one.more next.more (one.says low (omega arith))
        | inr p ↦ let q = p.1 in says_right one.more next.more (next.says (omega arith) high)
      ];
    }

pub board_comes : (clock : BoardClock) (turn : ℕ) (copies : List Copy) (h : Core) (front rest : List Meant) → IsOrdered h → Waits front rest h
    → Comes h (length front) (length (run_world (board_steps clock turn copies) h).taken) (run_world (board_steps clock turn copies) h).link
board_comes clock turn copies h front rest o w =
    let g = run_world (come Down turn copies) h in
    let t = board_tick clock (turn + 1) in
    let c = all_come_by h front rest (come Down turn copies) (all_come IsComing Down (λ fate. come_by fate) turn copies) o w in
    let last = numbered g.link.accepted (map wire_text (does g (event.Pass t)).answers) in
    subst (λ (x : Core). Comes h (length front) (length x.taken) x.link) (sym (run_append (come Down turn copies) (Do (event.Pass t) ∷ []) h)) (record {
      more = c.more ++ last;
      up = ap (λ (rs : List Reply). rs ++ last) c.up ∙ append_assoc h.link.up c.more last;
      says = λ low high. says_left c.more last (c.says low (omega (arith, length-append g.taken [])));
    })

first_heard : (fate : Fate) (r : Reply) (rs : List Reply) (h : Core) → fate ≡ Last → h.link.up ≡ r ∷ rs → IsAmong r (heard_in (comes Up fate) h)
first_heard Last r rs h f e = subst (λ (us : List Reply). IsAmong r (take 1 us ++ [])) (sym e) (inl refl)
first_heard c r rs h f e = cc

heard_here : (turn : ℕ) (ds : List Copy) (h : Core) (more : List Reply) (r : Reply) → h.link.up ≡ more → length more ≡ length ds → AllLast ds → still turn ds ≡ [] → IsAmong r more
    → IsAmong r (heard_in (come Up turn ds) h)
heard_here turn [] h [] r e many last none k = absurd k
heard_here turn [] h (x ∷ more) r e many last none k = absurd (omega (arith, many))
heard_here turn (d ∷ ds) h [] r e many last none k = absurd k
heard_here turn (d ∷ ds) h (x ∷ more) r e many last none k =
    let due = due_if (nat_le d.due turn) d ds (still turn ds) none in
    let g = run_world (comes Up d.fate) h in
    let rest = heard_in (come Up turn ds) g in
    subst (IsAmong r) (sym (heard_both turn d ds h due.0)) (elim k [
      | inl is ↦ among_left r (heard_in (comes Up d.fate) h) rest (subst (λ (y : Reply). IsAmong y (heard_in (comes Up d.fate) h)) is (first_heard d.fate x more h last.0 e))
      | inr later ↦ among_right r (heard_in (comes Up d.fate) h) rest (heard_here turn ds g more r (heard_as d.fate x more h e).up (omega (arith, many)) last.1 due.1 later)
    ])

pub heard_behind : (turn : ℕ) (cs ds : List Copy) (h : Core) (us more : List Reply) (r : Reply) → h.link.up ≡ us ++ more → length us ≡ length cs → length more ≡ length ds → AllLast ds
    → still turn (cs ++ ds) ≡ [] → IsAmong r more → IsAmong r (heard_in (come Up turn (cs ++ ds)) h)
heard_behind turn [] ds h [] more r e many as_many last none k = heard_here turn ds h more r e as_many last none k
heard_behind turn [] ds h (u ∷ us) more r e many as_many last none k = absurd (omega (arith, many))
heard_behind turn (c ∷ cs) ds h [] more r e many as_many last none k = absurd (omega (arith, many))
heard_behind turn (c ∷ cs) ds h (u ∷ us) more r e many as_many last none k =
    let due = due_if (nat_le c.due turn) c (cs ++ ds) (still turn (cs ++ ds)) none in
    let g = run_world (comes Up c.fate) h in
    subst (IsAmong r) (sym (heard_both turn c (cs ++ ds) h due.0))
    (among_right r (heard_in (comes Up c.fate) h) (heard_in (come Up turn (cs ++ ds)) g)
    (heard_behind turn cs ds g us more r (heard_as c.fate u (us ++ more) h e).up (omega (arith, many)) as_many last due.1 k))

pub news_hold : (rs : List Reply) (news : List News) (r : Reply) (c : Cmd) → AreNews rs news → IsAmong r rs → IsText own_formats c r.answer → IsAmong (record { number = r.number; answer = c }) news
news_hold [] news r c n k t = absurd k
news_hold (x ∷ rs) news r c n k t =
    let wanted : News = record { number = r.number; answer = c } in
    elim k [
      | inl same ↦
          let some : n.0 ≡ Some c = (n.2 c).1 (subst (λ (y : Reply). IsText own_formats c y.answer) (sym same) t) in
          subst (IsAmong wanted) (sym (n.4 ∙ ap (λ o. news_of x o ++ n.1) some)) (inl (ap (λ (y : Reply). record { number = y.number; answer = c }) same))
      | inr later ↦ subst (IsAmong wanted) (sym n.4) (among_right wanted (news_of x n.0) n.1 (news_hold rs n.1 r c n.3 later t))
    ]
