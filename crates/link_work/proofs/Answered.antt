-- What the host hears of the commands that the board takes, where no entry is used and nothing is held.
use Rattle.std.proofs.Common.{◌≡◌, ◌↔◌, ℕ, Bool, true, false, zero, suc, ◌+◌, ◌-◌, ◌*◌, ◌^◌, ◌/◌, ◌%◌, ◌<◌, ◌≤◌, ◌⊎◌, List, [], ◌∷◌, ◌++◌, length, map, take, Option, Some, None, refl, ap, sym, ◌∙◌, subst, arith, inl, inr, append_assoc, append-nil, length-append}
use Rattle.std.specs.Prelude.{nat_le, if◌then◌else◌}
use Rattle.std.specs.List.{flat_map}
use Rattle.std.proofs.lemmas.Bool.Decides.{leb_tells}
use Rattle.std.proofs.lemmas.List.{length-map}
use Rattle.plan_types.specs.declared.machine.BoardDef.{BoardDef}
use Rattle.plan_types.specs.declared.levels.Level.{Level}
use Rattle.plan_types.specs.declared.clock.BoardClock.{BoardClock}
use Rattle.plan_types.specs.Clock.{board_tick, clock_of}
use Rattle.msg_dict.specs.Own.{own_formats}
use Rattle.msg_code.specs.Text.{IsText}
use Rattle.msg_code.specs.declared.cmd.Cmd.{Cmd}
use Rattle.msg_code.specs.declared.talk.News.{News}
use Rattle.msg_code.specs.declared.talk.State.{State}
use Rattle.link_core.specs.Core.{Command, InStep, Reply, sent}
use Rattle.wire_scene.specs.declared.scene.Entry.{Entry}
use Rattle.wire_scene.specs.declared.scene.Way.TheVariants.{Down, Up}
use Rattle.wire_scene.specs.declared.wire.Fate.{Fate}
use Rattle.wire_scene.specs.declared.wire.Fate.TheVariants.{Lost, Last, Stays, Garbled}
use Rattle.wire_scene.specs.Wire.{Copy, IsQuiet, Line}
use Rattle.board_world.specs.Stands.{IsOrdered}
use Rattle.board_world.specs.World.{Core, on_wire, run_world, new_world, wire_text}
use Rattle.board_world.proofs.Runs.{all_orders, ordered, start_ordered, wired}
use Rattle.vlq_code.specs.Spelling.{spelling}
use Rattle.vlq_code.proofs.Lengths.{spelling_spells}
use Rattle.msg_dict.specs.Dictionary.{numbers_differ}
use Rattle.msg_dict.specs.Table.{own_id}
use Rattle.msg_dict.proofs.Rows.{own_number}
use Rattle.msg_code.specs.declared.Param.TheVariants as param
use Rattle.msg_code.specs.declared.cmd.Cmd.TheVariants as cmd
use Rattle.msg_code.specs.Table.{row_of, params_of}
use Rattle.msg_code.specs.Text.{SpellsEach, params_text}
use Rattle.msg_code.proofs.Known.{known}
use Rattle.msg_code.proofs.Sizes.{own_text}
use Rattle.msg_code.proofs.Texts.{is_text}
use Rattle.plan_types.specs.declared.plan.BoardState.{BoardState}
use Rattle.plan_types.specs.declared.plan.BoardState.TheVariants.{Running, Shut}
use Rattle.plan_types.specs.Clock.{tick_limit}
use Rattle.board_sim.specs.Rig.{Rig, acts_running, takes}
use Rattle.wire_scene.specs.Wire.{empty_line}
use Rattle.wire_scene.specs.WireRuns.{AreOver, deeds}
use Rattle.wire_scene.proofs.WireLaws.{calm_over, over_calm, starts}
use Rattle.link_work.specs.Used.{IsLineRun, steps_from, used_in}
use Rattle.link_work.specs.Turn.{LinkState, Orders, IsTurn, after_board, after_host, after_replies, board_steps, come, comes, host_steps, still}
use Rattle.link_work.specs.Told.{AreNews, IsTold, heard_in, news_of}
use Rattle.link_work.specs.Stands.{first_state}
use Rattle.link_work.specs.Runs.{AreTurns, queued_in}
use Rattle.link_work.specs.Ends.{EndSo, Ended, is_idle, last_link}
use Rattle.link_work.specs.Limits.{KeepsLimits, carried}
use Rattle.link_work.specs.Blocks.{Hold}
use Rattle.link_work.specs.Taking.{HasTaken}
use Rattle.link_work.specs.Answers.{AnsweredSo, AreClear, IsAmong, IsAnswered, IsCalm, IsClear, IsInBlock, SentAll, TellSo}
use Rattle.link_work.proofs.Blocks.{commands, count_all, count_first, count_in, count_queued, count_up, few_held, no_more}
use Rattle.link_work.proofs.Bounds.{Goes, counted, idle_is, taken_by, total}
use Rattle.link_work.proofs.Draining.{IsSound, Oldest, Parts, drained, drained_from, oldest_of, parts_of, quiet_longer, sound_turn}
use Rattle.link_work.proofs.Hearing.{heard_append}
use Rattle.link_work.proofs.Late.{first_sound, moved, queued_length, sound_along, taken_length}
use Rattle.link_work.proofs.Limits.{limits_few}
use Rattle.link_work.proofs.OnLines.{AllLast}
use Rattle.link_work.proofs.Parts.{board_ticked, host_tick, starts_in_time, ticks_rise}
use Rattle.link_work.proofs.Reaching.{heard_as}
use Rattle.link_work.proofs.Saying.{SaysAt, among_right, board_says}
use Rattle.link_work.proofs.Steps.{all_append, all_come, come_holds, tick_held}
use Rattle.link_work.proofs.Turns.{QueuesNone, comes_queue_none, none_queued, turns_are_steps}
use Rattle.board_world.proofs.Resending.{same_sum}

-- what is due is heard
pub due_if : (b : Bool) (c : Copy) (cs rest : List Copy) → (if b then rest else c ∷ cs) ≡ [] → (b ≡ true) × (rest ≡ [])
due_if true c cs rest e = (refl, e)
due_if false c cs rest e = absurd (omega (arith, ap length e))

first_heard : (fate : Fate) (r : Reply) (rs : List Reply) (h : Core) → fate ≡ Last → h.link.up ≡ r ∷ rs → IsAmong r (heard_in (comes Up fate) h)
first_heard Last r rs h f e = subst (λ (us : List Reply). IsAmong r (take 1 us ++ [])) (sym e) (inl refl)
first_heard Lost r rs h f e = cc
first_heard Stays r rs h f e = cc
first_heard Garbled r rs h f e = cc

pub heard_both : (turn : ℕ) (c : Copy) (cs : List Copy) (h : Core) → nat_le c.due turn ≡ true
    → heard_in (come Up turn (c ∷ cs)) h ≡ heard_in (comes Up c.fate) h ++ heard_in (come Up turn cs) (run_world (comes Up c.fate) h)
heard_both turn c cs h due =
    ap (λ (b : Bool). heard_in (if b then comes Up c.fate ++ come Up turn cs else []) h) due ∙ heard_append (comes Up c.fate) (come Up turn cs) h

heard_here : (turn : ℕ) (ds : List Copy) (h : Core) (more : List Reply) (r : Reply) → h.link.up ≡ more → length more ≡ length ds → AllLast ds → still turn ds ≡ [] → IsAmong r more
    → IsAmong r (heard_in (come Up turn ds) h)
heard_here turn [] h [] r e many last none k = absurd k
heard_here turn [] h (x ∷ more) r e many last none k = absurd (omega (arith, many))
heard_here turn (d ∷ ds) h [] r e many last none k = absurd k
heard_here turn (d ∷ ds) h (x ∷ more) r e many last none k =
    let due = due_if (nat_le d.due turn) d ds (still turn ds) none in
    let g = run_world (comes Up d.fate) h in
    let both = heard_both turn d ds h due.0 in
    let rest = heard_in (come Up turn ds) g in
    subst (IsAmong r) (sym both) (elim k [
      | inl is ↦ among_left-of (heard_in (comes Up d.fate) h) rest r (subst (λ (y : Reply). IsAmong y (heard_in (comes Up d.fate) h)) is (first_heard d.fate x more h last.0 e))
      | inr later ↦ among_right r (heard_in (comes Up d.fate) h) rest (heard_here turn ds g more r (heard_as d.fate x more h e).up (omega (arith, many)) last.1 due.1 later)
    ])
  where
    among_left-of : (xs ys : List Reply) (r : Reply) → IsAmong r xs → IsAmong r (xs ++ ys)
    among_left-of [] ys r k = absurd k
    among_left-of (x ∷ xs) ys r k = elim k [ inl e ↦ inl e | inr m ↦ inr (among_left-of xs ys r m) ]

heard_behind : (turn : ℕ) (cs ds : List Copy) (h : Core) (us more : List Reply) (r : Reply) → h.link.up ≡ us ++ more → length us ≡ length cs → length more ≡ length ds → AllLast ds
    → still turn (cs ++ ds) ≡ [] → IsAmong r more → IsAmong r (heard_in (come Up turn (cs ++ ds)) h)
heard_behind turn [] ds h [] more r e many as_many last none k = heard_here turn ds h more r e as_many last none k
heard_behind turn [] ds h (u ∷ us) more r e many as_many last none k = absurd (omega (arith, many))
heard_behind turn (c ∷ cs) ds h [] more r e many as_many last none k = absurd (omega (arith, many))
heard_behind turn (c ∷ cs) ds h (u ∷ us) more r e many as_many last none k =
    let due = due_if (nat_le c.due turn) c (cs ++ ds) (still turn (cs ++ ds)) none in
    let g = run_world (comes Up c.fate) h in
    subst (IsAmong r) (sym (heard_both turn c (cs ++ ds) h due.0))
    (among_right r (heard_in (comes Up c.fate) h) (heard_in (come Up turn (cs ++ ds)) g)
    (heard_behind turn cs ds g us more r (heard_as c.fate u (us ++ more) h e).up (omega (arith, many)) as_many last due.1 k))

-- the news of what is heard
news_hold : (rs : List Reply) (news : List News) (r : Reply) (c : Cmd) → AreNews rs news → IsAmong r rs → IsText own_formats c r.answer → IsAmong (record { number = r.number; answer = c }) news
news_hold [] news r c n k t = absurd k
news_hold (x ∷ rs) news r c n k t =
    let wanted : News = record { number = r.number; answer = c } in
    elim k [
      | inl same ↦
          let some : n.0 ≡ Some c = (n.2 c).1 (subst (λ (y : Reply). IsText own_formats c y.answer) (sym same) t) in
          subst (IsAmong wanted) (sym (n.4 ∙ ap (λ o. news_of x o ++ n.1) some)) (inl (ap (λ (y : Reply). record { number = y.number; answer = c }) same))
      | inr later ↦ subst (IsAmong wanted) (sym n.4) (among_right wanted (news_of x n.0) n.1 (news_hold rs n.1 r c n.3 later t))
    ]

-- how many commands were taken
taken_many : (h : Core) → IsOrdered h → length h.taken ≡ length (flat_map (λ cs. cs) (take h.link.accepted h.link.blocks))
taken_many h o = sym (length-map h.taken on_wire) ∙ sym (ap length (wired h o)) ∙ ap length o.in_step.each_once

pub many_by : (h : Core) → IsOrdered h → length h.taken ≡ length h.link.taken
many_by h o = sym (length-map h.taken on_wire) ∙ sym (ap length (wired h o))

-- nothing is queued while blocks come
pub replies_queue_none : (turn : ℕ) (copies : List Copy) (h : Core) → (run_world (come Up turn copies) h).queued ≡ h.queued
replies_queue_none turn copies h =
    all_orders (come Up turn copies) h ∙ ap (λ x. h.queued ++ x) (none_queued (come Up turn copies) (all_come QueuesNone Up (λ fate. comes_queue_none Up fate) turn copies)) ∙ append-nil h.queued

pub board_queues_none : (clock : BoardClock) (turn : ℕ) (copies : List Copy) (h : Core) → (run_world (board_steps clock turn copies) h).queued ≡ h.queued
board_queues_none clock turn copies h =
    let steps = board_steps clock turn copies in
    all_orders steps h ∙ ap (λ x. h.queued ++ x) (none_queued steps (all_append QueuesNone (come Down turn copies) _ (all_come QueuesNone Down (λ fate. comes_queue_none Down fate) turn copies) (refl, tt)))
    ∙ append-nil h.queued

-- a turn in which no entry is used on the line up, and at whose end nothing is held on it
AnsweredAt : BoardClock → ℕ → LinkState → LinkState → List News → Type 0
AnsweredAt clock turn l m news = (place : ℕ) → length l.core.taken ≤ place → place < length m.core.taken → IsAnswered clock turn m place news

answered_parts : (clock : BoardClock) (turn : ℕ) (o : Orders) (resent : Bool) (l : LinkState) (news : List News) → IsOrdered l.core → l.core.board.controller.tick ≡ board_tick clock turn
    → Parts turn o resent l (after_host turn o resent l) (after_board clock turn (after_host turn o resent l)) (after_replies turn (after_board clock turn (after_host turn o resent l)))
    → AreNews (heard_in (come Up turn (after_board clock turn (after_host turn o resent l)).up.copies) (after_board clock turn (after_host turn o resent l)).core) news
    → IsCalm turn (after_replies turn (after_board clock turn (after_host turn o resent l))).up → (after_replies turn (after_board clock turn (after_host turn o resent l))).up.copies ≡ []
    → (place : ℕ) → length l.core.taken ≤ place → place < length (after_replies turn (after_board clock turn (after_host turn o resent l))).core.taken
    → IsAnswered clock turn (after_replies turn (after_board clock turn (after_host turn o resent l))) place news
answered_parts clock turn o resent l news ord time parts told calm none place low high =
    let l1 : LinkState = after_host turn o resent l in
    let l2 : LinkState = after_board clock turn l1 in
    let l3 : LinkState = after_replies turn l2 in
    let ord1 = ordered (host_steps turn o resent) l.core ord in
    let ord2 = ordered (board_steps clock turn l1.down.copies) l1.core ord1 in
    let ord3 = ordered (come Up turn l2.up.copies) l2.core ord2 in
    let says = board_says clock turn l1.down.copies l1.core ord1 in
    let same_low : length l1.core.taken ≡ length l.core.taken = many_by l1.core ord1 ∙ ap length parts.host.taken ∙ sym (many_by l.core ord) in
    let same_high : length l3.core.taken ≡ length l2.core.taken =
    taken_many l3.core ord3 ∙ ap (λ n. length (flat_map (λ cs. cs) (take n l3.core.link.blocks))) parts.heard.accepted
    ∙ ap (λ bs. length (flat_map (λ cs. cs) (take l2.core.link.accepted bs))) parts.heard.blocks ∙ sym (taken_many l2.core ord2) in
    let at : SaysAt l1.core place says.more = says.each place (omega (arith, low, same_low)) (omega (arith, high, same_high)) in
    let put = parts.put2 in
    let many : length says.more ≡ length put.copies =
    omega (arith, ap length says.up, ap length parts.came.did.up, length-append l1.core.link.up says.more, length-append l1.core.link.up parts.came.did.more, put.as_many) in
    let blocks = parts.heard.blocks ∙ parts.came.did.blocks in
    let queued = replies_queue_none turn l2.up.copies l2.core ∙ board_queues_none clock turn l1.down.copies l1.core in
    record {
      number = at.number;
      block = subst (λ (bs : List (List Command)). IsInBlock bs place at.number) (sym blocks) at.block;
      front = at.front;
      command = at.command;
      rest = at.rest;
      queued = queued ∙ at.queued;
      at = at.at;
      board = at.board;
      in_time = at.in_time ∙ host_tick turn o resent l.core ∙ time;
      heard = λ a k t.
          let r : Reply = record { number = at.number + 1; answer = wire_text a } in
          let due : still turn (l1.up.copies ++ put.copies) ≡ [] = sym (ap (still turn) put.behind) ∙ none in
          let here = heard_behind turn l1.up.copies put.copies l2.core l1.core.link.up says.more r says.up parts.many1.up many (put.clean calm) due (at.told a k) in
          news_hold (heard_in (come Up turn l2.up.copies) l2.core) news r a told (subst (λ (cs : List Copy). IsAmong r (heard_in (come Up turn cs) l2.core)) (sym put.behind) here) t;
    }

-- a turn keeps the order, and the board's tick
abbrev InTime : BoardClock → ℕ → LinkState → Type 0
InTime clock turn l = IsOrdered l.core × (l.core.board.controller.tick ≡ board_tick clock turn)

in_time_same : (clock : BoardClock) (turn : ℕ) (o : Orders) (resent : Bool) (l : LinkState) → InTime clock turn l
    → InTime clock (turn + 1) (after_replies turn (after_board clock turn (after_host turn o resent l)))
in_time_same clock turn o resent l k =
    let l1 : LinkState = after_host turn o resent l in
    let l2 : LinkState = after_board clock turn l1 in
    let next = board_tick clock (turn + 1) in
    let ord1 = ordered (host_steps turn o resent) l.core k.0 in
    let ord2 = ordered (board_steps clock turn l1.down.copies) l1.core ord1 in
    let t1 = host_tick turn o resent l.core ∙ k.1 in (
      ordered (come Up turn l2.up.copies) l2.core ord2,
      tick_held (come Up turn l2.up.copies) l2.core (come_holds Up turn l2.up.copies) ∙ board_ticked turn next l1.down.copies l1.core ord1 (omega (arith, t1, ticks_rise clock turn)),
    )

in_time : (clock : BoardClock) (turn : ℕ) (o : Orders) (l m : LinkState) → InTime clock turn l → IsTurn clock turn o l m → InTime clock (turn + 1) m
in_time clock turn o l m k t = subst (InTime clock (turn + 1)) (sym t.becomes) (in_time_same clock turn o t.resent l k)

in_time_along : (clock : BoardClock) (os : List Orders) (turn : ℕ) (l m : LinkState) → InTime clock turn l → AreTurns clock turn os l m → InTime clock (turn + length os) m
in_time_along clock [] turn l m k e = subst (λ n. InTime clock n m) (same_sum turn) (subst (InTime clock turn) (sym e) k)
in_time_along clock (o ∷ os) turn l m k t =
    subst (λ n. InTime clock n m) (moved turn (length os)) (in_time_along clock os (turn + 1) t.0 m (in_time clock turn o l t.0 k t.1) t.2)

-- a link as its turn begins
pub record Begins (clock : BoardClock) (turn : ℕ) (l : LinkState) : Type 0 where
  pub sound : IsSound l turn
  pub in_time : InTime clock turn l

pub begins : (b : BoardDef) (pins : List (List Level)) (board : ℕ) (entries : List Entry) (os : List Orders) (l : LinkState) → AreTurns (clock_of b) 0 os (first_state b pins board entries) l → Begins (clock_of b) (length os) l
begins b pins board entries os l turns =
    let first : LinkState = first_state b pins board entries in
    record {
      sound = subst (λ k. IsSound l k) (no_more (length os)) (sound_along (clock_of b) os 0 first l (first_sound b pins board entries) turns);
      in_time = subst (λ k. InTime (clock_of b) k l) (no_more (length os)) (in_time_along (clock_of b) os 0 first l (start_ordered b pins, starts_in_time b pins) turns);
    }

sound_same : (clock : BoardClock) (turn : ℕ) (o : Orders) (resent : Bool) (l : LinkState) → IsSound l turn → IsSound (after_replies turn (after_board clock turn (after_host turn o resent l))) (turn + 1)
sound_same clock turn o resent l s =
    let l1 : LinkState = after_host turn o resent l in
    let l2 : LinkState = after_board clock turn l1 in
    sound_turn turn o resent l l1 l2 (after_replies turn l2) s (parts_of clock turn o resent l s.step s.many)

pub begins_next : (clock : BoardClock) (turn : ℕ) (o : Orders) (l m : LinkState) → Begins clock turn l → IsTurn clock turn o l m → Begins clock (turn + 1) m
begins_next clock turn o l m b t = record {
  sound = subst (λ (x : LinkState). IsSound x (turn + 1)) (sym t.becomes) (sound_same clock turn o t.resent l b.sound);
  in_time = in_time clock turn o l m b.in_time t;
}

-- the law of answers
pub answered_turn : (clock : BoardClock) (turn : ℕ) (o : Orders) (l m : LinkState) (s : State) → Begins clock turn l → (t : IsTurn clock turn o l m) → IsTold clock turn o l t.resent m.core s
    → IsCalm turn m.up → m.up.copies ≡ [] → (place : ℕ) → length l.core.taken ≤ place → place < length m.core.taken → IsAnswered clock turn m place s.news
answered_turn clock turn o l m s b t told =
    let At : LinkState → Type 0 = λ x. IsCalm turn x.up → x.up.copies ≡ [] → (place : ℕ) → length l.core.taken ≤ place → place < length x.core.taken → IsAnswered clock turn x place s.news in
    subst At (sym t.becomes) (answered_parts clock turn o t.resent l s.news b.in_time.0 b.in_time.1 (parts_of clock turn o t.resent l b.sound.step b.sound.many) told.news)

-- over some turns
pub answered_along : (clock : BoardClock) (os : List Orders) (since turn : ℕ) (l : LinkState) (ends : List Ended) (states : List State) → since ≤ turn → Begins clock turn l → TellSo clock turn os l ends states
    → AreClear since ends → (place : ℕ) → length l.core.taken ≤ place → place < length (last_link l ends).core.taken → AnsweredSo clock turn place ends states
answered_along clock [] since turn l [] [] h b t clear place low high = absurd (omega (arith, low, high))
answered_along clock [] since turn l [] (s ∷ states) h b t clear place low high = absurd t
answered_along clock [] since turn l (e ∷ ends) states h b t clear place low high = absurd t
answered_along clock (o ∷ os) since turn l [] states h b t clear place low high = absurd t
answered_along clock (o ∷ os) since turn l (e ∷ ends) [] h b t clear place low high = absurd t
answered_along clock (o ∷ os) since turn l (e ∷ ends) (s ∷ states) h b t clear place low high =
    elim (leb_tells (suc place) (length e.link.core.taken)) [
      | inl p ↦ inl (answered_turn clock turn o l e.link s b t.1.0 t.1.1 (omega (arith, clear.0.up, h)) clear.0.none_up place low p.1)
      | inr p ↦ inr (answered_along clock os since (turn + 1) e.link ends states (omega (arith, h)) (begins_next clock turn o l e.link b t.1.0) t.2 clear.1 place (omega (arith, p.1)) high)
    ]

-- what a turn keeps
goes_parts : (turn : ℕ) (o : Orders) (resent : Bool) (l l1 l2 l3 : LinkState) → Parts turn o resent l l1 l2 l3 → Goes l l3
goes_parts turn o resent l l1 l2 l3 parts =
    let h = l.core.link in
    let k = l3.core.link in
    let blocks = parts.heard.blocks ∙ parts.came.did.blocks in
    let waiting = parts.heard.waiting ∙ parts.came.did.waiting in
    record {
      counts = λ m. omega (arith, ap (λ bs. count_in m bs k.waiting) blocks, ap (λ ws. count_in m l1.core.link.blocks ws) waiting, parts.host.counted m, count_queued m h.blocks h.waiting (carried o));
      accepted = omega (arith, parts.heard.accepted, parts.came.did.rises, parts.host.accepted);
    }

record GoesOn (l m : LinkState) : Type 0 where
  pub counts : (k : ℕ) → counted k l ≤ counted k m
  pub sent : sent l.core.link ≤ sent m.core.link

goes_turn : (clock : BoardClock) (turn : ℕ) (o : Orders) (l m : LinkState) → IsSound l turn → IsTurn clock turn o l m → GoesOn l m
goes_turn clock turn o l m s t =
    let l1 : LinkState = after_host turn o t.resent l in
    let l2 : LinkState = after_board clock turn l1 in
    let l3 : LinkState = after_replies turn l2 in
    let parts = parts_of clock turn o t.resent l s.step s.many in
    subst (GoesOn l) (sym t.becomes) (record {
      counts = (goes_parts turn o t.resent l l1 l2 l3 parts).counts;
      sent = omega (arith, ap length (parts.heard.blocks ∙ parts.came.did.blocks), parts.host.is_sent);
    })

goes_along : (clock : BoardClock) (os : List Orders) (turn : ℕ) (l : LinkState) (ends : List Ended) (states : List State) → Begins clock turn l → TellSo clock turn os l ends states → GoesOn l (last_link l ends)
goes_along clock [] turn l [] [] b t = record { counts = λ k. omega arith; sent = omega arith }
goes_along clock [] turn l [] (s ∷ states) b t = absurd t
goes_along clock [] turn l (e ∷ ends) states b t = absurd t
goes_along clock (o ∷ os) turn l [] states b t = absurd t
goes_along clock (o ∷ os) turn l (e ∷ ends) [] b t = absurd t
goes_along clock (o ∷ os) turn l (e ∷ ends) (s ∷ states) b t =
    let one = goes_turn clock turn o l e.link b.sound t.1.0 in
    let rest = goes_along clock os (turn + 1) e.link ends states (begins_next clock turn o l e.link b t.1.0) t.2 in
    record { counts = λ k. omega (arith, one.counts k, rest.counts k); sent = omega (arith, one.sent, rest.sent) }

-- where all that was queued was sent, and all that is sent is accepted, all of it is taken
taken_where : (l m : LinkState) → IsOrdered l.core → IsOrdered m.core → GoesOn l m → l.core.link.waiting ≡ [] → m.core.link.accepted ≡ sent m.core.link → length l.core.queued ≤ length m.core.taken
taken_where l m lo mo goes none all =
    let h = l.core.link in
    let whole = count_all 0 h.blocks h.waiting (sent h) (omega arith) none in
    omega (
      arith,
      queued_length l.core lo,
      whole,
      goes.counts (sent h),
      count_up (sent h) m.core.link.accepted m.core.link.blocks m.core.link.waiting (omega (arith, goes.sent, all)),
      taken_length m mo,
    )

-- a turn at whose end nothing is held drains the link, where no entry was used since the turn in which the oldest block was put
drained_turn : (clock : BoardClock) (turn since : ℕ) (o : Orders) (l m : LinkState) → IsSound l turn → (t : IsTurn clock turn o l m) → ((oldest : Oldest turn t.resent l) × (since ≤ oldest.0)) → IsClear since m
    → m.core.link.accepted ≡ sent m.core.link
drained_turn clock turn since o l m s t oldest =
    let l1 : LinkState = after_host turn o t.resent l in
    let l2 : LinkState = after_board clock turn l1 in
    let parts = parts_of clock turn o t.resent l s.step s.many in
    let At : LinkState → Type 0 = λ x. IsClear since x → x.core.link.accepted ≡ sent x.core.link in
    let p = oldest.0.0 in
    let down : (x : LinkState) → IsClear since x → IsQuiet x.down (p + 4) = λ x clear. record { nothing = clear.none_down; calm = omega (arith, clear.down, oldest.1) } in
    let up : (x : LinkState) → IsClear since x → IsQuiet x.up (p + 4) = λ x clear. record { nothing = clear.none_up; calm = omega (arith, clear.up, oldest.1) } in
    subst At (sym t.becomes) (λ clear. (drained_from turn o t.resent l l1 l2 (after_replies turn l2) s oldest.0 parts (down (after_replies turn l2) clear) (up (after_replies turn l2) clear)).1)

-- three turns behind one the oldest outstanding block was put in it, or later
pub drained_late : (clock : BoardClock) (since : ℕ) (o : Orders) (l m : LinkState) → IsSound l (since + 3) → IsTurn clock (since + 3) o l m → IsClear since m → m.core.link.accepted ≡ sent m.core.link
drained_late clock since o l m s t =
    let oldest = oldest_of (since + 3) t.resent l l.core.link.puts s refl t.due in
    drained_turn clock (since + 3) since o l m s t (oldest, omega (arith, oldest.2))

-- a link that was idle puts all blocks in its turn
pub drained_now : (clock : BoardClock) (turn : ℕ) (o : Orders) (l m : LinkState) → IsSound l turn → IsTurn clock turn o l m → is_idle l ≡ true → IsClear turn m → m.core.link.accepted ≡ sent m.core.link
drained_now clock turn o l m s t idle =
    let is = idle_is l idle in
    drained_turn clock turn turn o l m s t ((turn, omega arith, omega arith, inr (inl (omega (arith, is.1)))), omega arith)

-- and sends all that is queued in it
sends_same : (clock : BoardClock) (turn : ℕ) (o : Orders) (resent : Bool) (l : LinkState) → IsSound l turn → is_idle l ≡ true → KeepsLimits o
    → (after_replies turn (after_board clock turn (after_host turn o resent l))).core.link.waiting ≡ []
sends_same clock turn o resent l s idle limits =
    let is = idle_is l idle in
    let parts = parts_of clock turn o resent l s.step s.many in
    let held : Hold 10 (l.core.link.waiting ++ carried o) = subst (λ ws. Hold 10 (ws ++ carried o)) (sym is.0) (few_held (carried o) (limits_few o limits)) in
    let left = parts.host.held 10 held in
    parts.heard.waiting ∙ parts.came.did.waiting ∙ elim parts.host.filled [
      | inl none ↦ none
      | inr full ↦ absurd (omega (arith, full, left.1, is.1))
    ]

pub sends_all : (clock : BoardClock) (turn : ℕ) (o : Orders) (l m : LinkState) → IsSound l turn → IsTurn clock turn o l m → is_idle l ≡ true → KeepsLimits o → m.core.link.waiting ≡ []
sends_all clock turn o l m s t idle limits =
    subst (λ (x : LinkState). x.core.link.waiting ≡ []) (sym t.becomes) (sends_same clock turn o t.resent l s idle limits)

-- an asking that finds an idle link is answered in its turn
pub answered_at_once : (clock : BoardClock) (turn : ℕ) (o : Orders) (l m : LinkState) (s : State) → Begins clock turn l → (t : IsTurn clock turn o l m) → IsTold clock turn o l t.resent m.core s
    → KeepsLimits o → is_idle l ≡ true → IsClear turn m → (place : ℕ) → length l.core.taken ≤ place → place < length m.core.queued → IsAnswered clock turn m place s.news
answered_at_once clock turn o l m s b t told limits idle clear place low high =
    let next = begins_next clock turn o l m b t in
    let none = sends_all clock turn o l m b.sound t idle limits in
    let all = drained_now clock turn o l m b.sound t idle clear in
    let taken = taken_where m m next.in_time.0 next.in_time.0 (record { counts = λ k. omega arith; sent = omega arith }) none all in
    answered_turn clock turn o l m s b t told clear.up clear.none_up place low (omega (arith, high, taken))

-- over the three turns behind one in which all that waited was sent
last_drained : (clock : BoardClock) (more : List Orders) (since turn : ℕ) (l : LinkState) (ends : List Ended) (states : List State) → Begins clock turn l → TellSo clock turn more l ends states → AreClear since ends
    → 1 ≤ length more → turn + length more ≡ since + 4 → (last_link l ends).core.link.accepted ≡ sent (last_link l ends).core.link
last_drained clock [] since turn l ends states b t clear some is = absurd (omega (arith, some))
last_drained clock (o ∷ more) since turn l [] states b t clear some is = absurd t
last_drained clock (o ∷ more) since turn l (e ∷ ends) [] b t clear some is = absurd t
last_drained clock (o ∷ []) since turn l (e ∷ []) (s ∷ []) b t clear some is =
    let at : turn ≡ since + 3 = omega (arith, is) in
    drained_late clock since o l e.link (subst (IsSound l) at b.sound) (subst (λ k. IsTurn clock k o l e.link) at t.1.0) clear.0
last_drained clock (o ∷ []) since turn l (e ∷ []) (s ∷ (r ∷ states)) b t clear some is = absurd t.2
last_drained clock (o ∷ []) since turn l (e ∷ (f ∷ ends)) (s ∷ states) b t clear some is = absurd t.2
last_drained clock (o ∷ (p ∷ more)) since turn l (e ∷ ends) (s ∷ states) b t clear some is =
    last_drained clock (p ∷ more) since (turn + 1) e.link ends states (begins_next clock turn o l e.link b t.1.0) t.2 clear.1 (omega arith) (omega (arith, is))

pub answered_in_four : (clock : BoardClock) (turn : ℕ) (o : Orders) (more : List Orders) (l : LinkState) (e : Ended) (ends : List Ended) (states : List State) → Begins clock turn l
    → TellSo clock turn (o ∷ more) l (e ∷ ends) states → length more ≡ 3 → AreClear turn (e ∷ ends) → SentAll e → (place : ℕ) → length l.core.taken ≤ place → place < length e.link.core.queued
    → AnsweredSo clock turn place (e ∷ ends) states
answered_in_four clock turn o more l e ends [] b t three clear all place low high = absurd t
answered_in_four clock turn o more l e ends (s ∷ states) b t three clear all place low high =
    let next = begins_next clock turn o l e.link b t.1.0 in
    let goes = goes_along clock more (turn + 1) e.link ends states next t.2 in
    let drains = last_drained clock more turn (turn + 1) e.link ends states next t.2 clear.1 (omega (arith, three)) (omega (arith, three)) in
    let last = ordered_last clock more (turn + 1) e.link ends states next t.2 in
    let taken = taken_where e.link (last_link e.link ends) next.in_time.0 last goes all drains in
    answered_along clock (o ∷ more) turn turn l (e ∷ ends) (s ∷ states) (omega arith) b t clear place low (omega (arith, high, taken))
  where
    ordered_last : (clock : BoardClock) (os : List Orders) (turn : ℕ) (l : LinkState) (ends : List Ended) (states : List State) → Begins clock turn l → TellSo clock turn os l ends states → IsOrdered (last_link l ends).core
    ordered_last clock [] turn l [] [] b t = b.in_time.0
    ordered_last clock [] turn l [] (s ∷ states) b t = absurd t
    ordered_last clock [] turn l (e ∷ ends) states b t = absurd t
    ordered_last clock (o ∷ os) turn l [] states b t = absurd t
    ordered_last clock (o ∷ os) turn l (e ∷ ends) [] b t = absurd t
    ordered_last clock (o ∷ os) turn l (e ∷ ends) (s ∷ states) b t = ordered_last clock os (turn + 1) e.link ends states (begins_next clock turn o l e.link b t.1.0) t.2

-- from the first state on
not_taken : (l : LinkState) (place : ℕ) → (HasTaken l place → ⊥) → length l.core.taken ≤ place
not_taken l place n = elim (leb_tells (suc place) (length l.core.taken)) [ inl p ↦ absurd (n p.1) | inr p ↦ omega (arith, p.1) ]

pub heard_in_turn : (b : BoardDef) (pins : List (List Level)) (board : ℕ) (entries : List Entry) (os : List Orders) (o : Orders) (l m : LinkState) (s : State) → AreTurns (clock_of b) 0 os (first_state b pins board entries) l
    → (t : IsTurn (clock_of b) (length os) o l m) → IsTold (clock_of b) (length os) o l t.resent m.core s → IsCalm (length os) m.up → m.up.copies ≡ []
    → (place : ℕ) → (HasTaken l place → ⊥) → HasTaken m place → IsAnswered (clock_of b) (length os) m place s.news
heard_in_turn b pins board entries os o l m s turns t told calm none place before now =
    answered_turn (clock_of b) (length os) o l m s (begins b pins board entries os l turns) t told calm none place (not_taken l place before) now

pub asked_in_four : (b : BoardDef) (pins : List (List Level)) (board : ℕ) (entries : List Entry) (os : List Orders) (o : Orders) (more : List Orders) (l : LinkState) (e : Ended) (ends : List Ended) (states : List State)
    → AreTurns (clock_of b) 0 os (first_state b pins board entries) l → TellSo (clock_of b) (length os) (o ∷ more) l (e ∷ ends) states → length more ≡ 3 → AreClear (length os) (e ∷ ends) → SentAll e
    → (place : ℕ) → (HasTaken l place → ⊥) → place < length e.link.core.queued → AnsweredSo (clock_of b) (length os) place (e ∷ ends) states
asked_in_four b pins board entries os o more l e ends states turns t three clear all place before high =
    answered_in_four (clock_of b) (length os) o more l e ends states (begins b pins board entries os l turns) t three clear all place (not_taken l place before) high

pub asked_idle : (b : BoardDef) (pins : List (List Level)) (board : ℕ) (entries : List Entry) (os : List Orders) (o : Orders) (l m : LinkState) (s : State) → AreTurns (clock_of b) 0 os (first_state b pins board entries) l
    → (t : IsTurn (clock_of b) (length os) o l m) → IsTold (clock_of b) (length os) o l t.resent m.core s → KeepsLimits o → is_idle l ≡ true → IsClear (length os) m
    → (place : ℕ) → (HasTaken l place → ⊥) → place < length m.core.queued → IsAnswered (clock_of b) (length os) m place s.news
asked_idle b pins board entries os o l m s turns t told limits idle clear place before high =
    answered_at_once (clock_of b) (length os) o l m s (begins b pins board entries os l turns) t told limits idle clear place (not_taken l place before) high

-- a line is calm where all entries were used before a turn
pub calm_is : (connecting entries : List Entry) (turns turn : ℕ) (l : Line) (r : IsLineRun connecting entries turns l) → IsCalm turn l ↔ AreOver (turn + 4) (used_in connecting entries r.dones)
calm_is connecting entries turns turn l r =
    let steps = steps_from 0 r.dones in
    let first = empty_line connecting entries in
    let ds = deeds connecting entries 0 steps in
    let told = starts connecting entries steps in (
      λ calm. (calm_over (turn + 4) steps ds first told (omega (arith, calm, ap (λ (x : Line). x.calm) r.runs))).1,
      λ over. omega (arith, over_calm (turn + 4) steps ds first told (omega arith) over, ap (λ (x : Line). x.calm) r.runs),
    )

-- the answer to a get_uptime
uptime_by : (s : BoardState) (r : Rig) → (acts_running s r cmd.GetUptime).answers ≡ cmd.Uptime (r.controller.tick / 2 ^ 32) (r.controller.tick % 2 ^ 32) ∷ []
uptime_by Running r = refl
uptime_by (Shut reason tick first) r = refl

two_numbers : (m n : ℕ) → m < 2 ^ 32 → n < 2 ^ 32 → SpellsEach (param.Number m ∷ param.Number n ∷ []) (params_text (param.Number m ∷ param.Number n ∷ []))
two_numbers m n a b =
    record {
      first = spelling m;
      rest = params_text (param.Number n ∷ []);
      is_first = spelling_spells m a;
      is_rest = record { first = spelling n; rest = []; is_first = spelling_spells n b; is_rest = refl; joined = refl };
      joined = refl;
    }

pub differ : numbers_differ own_formats ≡ true
unfolding own_formats
differ = refl

pub uptime_text : (high clock : ℕ) → high < 2 ^ 32 → clock < 2 ^ 32 → IsText own_formats (cmd.Uptime high clock) (wire_text (cmd.Uptime high clock))
uptime_text high clock a b =
    let c = cmd.Uptime high clock in
    let row = row_of c in
    is_text own_formats c (own_id row) (spelling (own_id row)) (params_text (params_of c)) (wire_text c) (known own_formats row (own_id row) differ (own_number row)) (spelling_spells (own_id row) (omega arith))
    (two_numbers high clock a b) (own_text c) refl

pub uptime_heard : (clock : BoardClock) (turn place : ℕ) (l : LinkState) (news : List News) (a : IsAnswered clock turn l place news) → a.command.command ≡ cmd.GetUptime → board_tick clock turn < tick_limit
    → IsAmong (record { number = a.number + 1; answer = cmd.Uptime (board_tick clock turn / 2 ^ 32) (board_tick clock turn % 2 ^ 32) }) news
uptime_heard clock turn place l news a is small =
    let tick = board_tick clock turn in
    let c = cmd.Uptime (tick / 2 ^ 32) (tick % 2 ^ 32) in
    let answers : (takes a.board a.command.command).answers ≡ c ∷ [] =
    ap (λ (x : Cmd). (takes a.board x).answers) is ∙ uptime_by a.board.controller.state a.board ∙ ap (λ t. cmd.Uptime (t / 2 ^ 32) (t % 2 ^ 32) ∷ []) a.in_time in
    a.heard c (subst (IsAmong c) (sym answers) (inl refl)) (uptime_text (tick / 2 ^ 32) (tick % 2 ^ 32) (omega (arith, small)) (omega arith))
