-- What a board says of the commands that it takes.
use Rattle.std.proofs.Common.{◌≡◌, ℕ, Bool, true, false, zero, suc, ◌+◌, ◌-◌, ◌<◌, ◌≤◌, ◌⊎◌, List, [], ◌∷◌, ◌++◌, length, map, take, drop, get_or, refl, ap, sym, ◌∙◌, subst, arith, inl, inr, append_assoc, append-nil, length-append}
use Rattle.std.specs.Prelude.{slice_index_or}
use Rattle.std.specs.List.{flat_map}
use Rattle.std.proofs.lemmas.Bool.Decides.{leb_tells, eqb_tells}
use Rattle.std.proofs.lemmas.List.{take_more, take-append-drop, length-map, length-take-le}
use Rattle.std.proofs.lemmas.Grind.{flat_map-append}
use Rattle.msg_code.specs.declared.cmd.Cmd.{Cmd}
use Rattle.plan_types.specs.declared.clock.BoardClock.{BoardClock}
use Rattle.link_core.specs.Core.{AreNear, Command, InStep, Link, Reply, numbered, sent}
use Rattle.link_core.specs.Core as link
use Rattle.wire_scene.specs.declared.scene.Way.TheVariants.{Down}
use Rattle.wire_scene.specs.declared.wire.Fate.{Fate}
use Rattle.wire_scene.specs.declared.wire.Fate.TheVariants.{Lost, Last, Stays, Garbled}
use Rattle.wire_scene.specs.Wire.{Copy}
use Rattle.board_sim.specs.Fair.{Meant, commands_of}
use Rattle.board_sim.specs.Rig.{Rig, takes, takes_all}
use Rattle.board_sim.proofs.RigStates.{all_tick}
use Rattle.board_world.specs.declared.event.Event.{Event}
use Rattle.board_world.specs.declared.event.Event.TheVariants as event
use Rattle.board_world.specs.Stands.{IsOrdered}
use Rattle.board_world.specs.World.{Core, Step, Do, Turn, world_after, block_of, does, after_event, run_world, takes_in, wire_text}
use Rattle.board_world.proofs.Runs.{ordered, ordered_by, wired}
use Rattle.board_world.specs.World.{on_wire}
use Rattle.plan_types.specs.Clock.{board_tick}
use Rattle.link_work.specs.Turn.{board_steps, come, comes}
use Rattle.link_work.specs.Answers.{IsAmong, IsInBlock}
use Rattle.link_work.proofs.Sending.{run_append}
use Rattle.link_work.proofs.Steps.{AllOf, all_come}

-- one of some things, and of more
pub among_left : {A : Type 0} (x : A) (xs ys : List A) → IsAmong x xs → IsAmong x (xs ++ ys)
among_left x [] ys k = absurd k
among_left x (y ∷ xs) ys k = elim k [ inl e ↦ inl e | inr m ↦ inr (among_left x xs ys m) ]

pub among_right : {A : Type 0} (x : A) (xs ys : List A) → IsAmong x ys → IsAmong x (xs ++ ys)
among_right x [] ys k = k
among_right x (y ∷ xs) ys k = inr (among_right x xs ys k)

among_replies : (n : ℕ) (c : Cmd) (cs : List Cmd) → IsAmong c cs → IsAmong (record { number = n; answer = wire_text c }) (numbered n (map wire_text cs))
among_replies n c [] k = absurd k
among_replies n c (d ∷ cs) k = elim k [
  | inl e ↦ inl (ap (λ (x : Cmd). record { number = n; answer = wire_text x }) e)
  | inr m ↦ inr (among_replies n c cs m)
]

-- the answers to a command are among those to all
all_answers : (b : Rig) (before : List Meant) (m : Meant) (behind : List Meant) (a : Cmd) → IsAmong a (takes (takes_all b (commands_of before)).rig m.command).answers
    → IsAmong a (takes_all b (commands_of (before ++ m ∷ behind))).answers
all_answers b [] m behind a k = among_left a (takes b m.command).answers (takes_all (takes b m.command).rig (commands_of behind)).answers k
all_answers b (x ∷ before) m behind a k =
    among_right a (takes b x.command).answers (takes_all (takes b x.command).rig (commands_of (before ++ m ∷ behind))).answers (all_answers (takes b x.command).rig before m behind a k)

-- a list around one of its places
record Around {A : Type 0} (xs : List A) (i : ℕ) : Type 0 where
  pub front : List A
  pub here : A
  pub rest : List A
  pub are : xs ≡ front ++ here ∷ rest
  pub at : length front ≡ i

around : {A : Type 0} (xs : List A) (i : ℕ) → i < length xs → Around xs i
around [] i h = absurd (omega (arith, h))
around (x ∷ xs) zero h = record { front = []; here = x; rest = xs; are = refl; at = refl }
around (x ∷ xs) (suc i) h =
    let a = around xs i (omega (arith, h)) in
    record { front = x ∷ a.front; here = a.here; rest = a.rest; are = ap (λ ys. x ∷ ys) a.are; at = omega (arith, a.at) }

-- the command at a place was taken, and these replies have all answers to it
pub record SaysAt (h : Core) (place : ℕ) (more : List Reply) : Type 0 where
  pub number : ℕ
  pub block : IsInBlock h.link.blocks place number
  pub front : List Meant
  pub command : Meant
  pub rest : List Meant
  pub queued : h.queued ≡ front ++ command ∷ rest
  pub at : length front ≡ place
  pub board : Rig
  pub in_time : board.controller.tick ≡ h.board.controller.tick
  pub told : (a : Cmd) → IsAmong a (takes board command.command).answers → IsAmong (record { number = number + 1; answer = wire_text a }) more

abbrev SaysEach : Core → ℕ → List Reply → Type 0
SaysEach h limit more = (place : ℕ) → length h.taken ≤ place → place < limit → SaysAt h place more

-- what steps of a board make of it that doesn't run on: it replies to each command that it takes
pub record Says (h g : Core) : Type 0 where
  pub more : List Reply
  pub up : g.link.up ≡ h.link.up ++ more
  pub queued : g.queued ≡ h.queued
  pub blocks : g.link.blocks ≡ h.link.blocks
  pub tick : g.board.controller.tick ≡ h.board.controller.tick
  pub each : SaysEach h (length g.taken) more

pub says_more : (h : Core) (place : ℕ) (more last : List Reply) → SaysAt h place more → SaysAt h place (more ++ last)
says_more h place more last s = record {
  number = s.number;
  block = s.block;
  front = s.front;
  command = s.command;
  rest = s.rest;
  queued = s.queued;
  at = s.at;
  board = s.board;
  in_time = s.in_time;
  told = λ a k. among_left _ more last (s.told a k);
}

says_before : (h g : Core) (place : ℕ) (first more : List Reply) → g.queued ≡ h.queued → g.link.blocks ≡ h.link.blocks → g.board.controller.tick ≡ h.board.controller.tick
    → SaysAt g place more → SaysAt h place (first ++ more)
says_before h g place first more queued blocks tick s = record {
  number = s.number;
  block = subst (λ (bs : List (List Command)). IsInBlock bs place s.number) blocks s.block;
  front = s.front;
  command = s.command;
  rest = s.rest;
  queued = sym queued ∙ s.queued;
  at = s.at;
  board = s.board;
  in_time = s.in_time ∙ tick;
  told = λ a k. among_right _ first more (s.told a k);
}

says_none : (h : Core) → Says h h
says_none h = record {
  more = [];
  up = sym (append-nil h.link.up);
  queued = refl;
  blocks = refl;
  tick = refl;
  each = λ place low high. absurd (omega (arith, low, high));
}

says_both : (h g k : Core) → Says h g → Says g k → Says h k
says_both h g k a b = record {
  more = a.more ++ b.more;
  up = b.up ∙ ap (λ x. x ++ b.more) a.up ∙ append_assoc h.link.up a.more b.more;
  queued = b.queued ∙ a.queued;
  blocks = b.blocks ∙ a.blocks;
  tick = b.tick ∙ a.tick;
  each = λ place low high. elim (leb_tells (suc place) (length g.taken)) [
    | inl p ↦ says_more h place a.more b.more (a.each place low p.1)
    | inr p ↦ says_before h g place a.more b.more a.queued a.blocks a.tick (b.each place (omega (arith, p.1)) high)
  ];
}

-- the board handles the oldest block under way
record Handles (h : Core) (ms : List Meant) (l : Link) : Type 0 where
  pub more : List Reply
  pub up : l.up ≡ h.link.up ++ more
  pub blocks : l.blocks ≡ h.link.blocks
  pub each : SaysEach h (length h.taken + length ms) more

block_first : (blocks : List (List Command)) (n : ℕ) → n < length blocks
    → length (flat_map (λ cs. cs) (take (n + 1) blocks)) ≡ length (flat_map (λ cs. cs) (take n blocks)) + length (slice_index_or blocks n [])
block_first blocks n h =
    ap (λ x. length (flat_map (λ cs. cs) x)) (take_more blocks n [] h) ∙ ap length (flat_map-append (λ cs. cs) (take n blocks) (get_or blocks n [] ∷ []))
    ∙ length-append (flat_map (λ cs. cs) (take n blocks)) (get_or blocks n [] ++ []) ∙ ap (λ x. length (flat_map (λ cs. cs) (take n blocks)) + length x) (append-nil (get_or blocks n []))

-- the block n is the next one
says_block : (h : Core) (n : ℕ) → IsOrdered h → n < sent h.link → n ≡ h.link.accepted → (ms : List Meant)
    → ms ≡ take (length (slice_index_or h.link.blocks n [])) (drop (length h.link.taken) h.queued) → (last : List Reply)
    → SaysEach h (length h.taken + length ms) (numbered (n + 1) (map wire_text (takes_all h.board (commands_of ms)).answers) ++ last)
says_block h n o was_sent is ms are last place low high =
    let l = h.link in
    let t = length l.taken in
    let size = length (slice_index_or l.blocks n []) in
    let left = drop size (drop t h.queued) in
    let i = place - length h.taken in
    let a = around ms i (omega (arith, low, high)) in
    let b = takes_all h.board (commands_of a.front) in
    let taken : length h.taken ≡ length (flat_map (λ cs. cs) (take n l.blocks)) =
    sym (length-map h.taken on_wire) ∙ sym (ap length (wired h o)) ∙ ap length o.in_step.each_once ∙ ap (λ k. length (flat_map (λ cs. cs) (take k l.blocks))) (sym is) in
    let few : length ms ≤ size = omega (arith, ap length are, length-take-most size (drop t h.queued)) in
    let queued : h.queued ≡ h.taken ++ (ms ++ left) =
    sym (take-append-drop t h.queued) ∙ ap (λ x. x ++ drop t h.queued) (sym o.first) ∙ ap (λ x. h.taken ++ x) (sym (take-append-drop size (drop t h.queued)))
    ∙ ap (λ x. h.taken ++ (x ++ left)) (sym are) in
    record {
      number = n;
      block = record { sent = was_sent; from = omega (arith, taken, low); before = omega (arith, taken, block_first l.blocks n was_sent, few, high) };
      front = h.taken ++ a.front;
      command = a.here;
      rest = a.rest ++ left;
      queued = queued ∙ ap (λ x. h.taken ++ (x ++ left)) a.are ∙ ap (λ x. h.taken ++ x) (append_assoc a.front (a.here ∷ a.rest) left) ∙ sym (append_assoc h.taken a.front (a.here ∷ (a.rest ++ left)));
      at = omega (arith, length-append h.taken a.front, a.at, low);
      board = b.rig;
      in_time = all_tick h.board (commands_of a.front);
      told = λ c k. among_left _ (numbered (n + 1) (map wire_text (takes_all h.board (commands_of ms)).answers)) last
          (among_replies (n + 1) c (takes_all h.board (commands_of ms)).answers
          (subst (λ (x : List Meant). IsAmong c (takes_all h.board (commands_of x)).answers) (sym a.are) (all_answers h.board a.front a.here a.rest c k)));
    }
  where
    length-take-most : (n : ℕ) (xs : List Meant) → length (take n xs) ≤ n
    length-take-most zero xs = omega arith
    length-take-most (suc n) [] = omega arith
    length-take-most (suc n) (x ∷ xs) = omega (arith, length-take-most n xs)

handles : (h : Core) (ds : List ℕ) → IsOrdered h → AreNear (sent h.link) h.link.accepted ds
    → Handles h (block_of h ds) (link.repeat h.link ds (map wire_text (takes_all h.board (commands_of (block_of h ds))).answers))
handles h [] o near = record { more = []; up = sym (append-nil h.link.up); blocks = refl; each = λ place low high. absurd (omega (arith, low, high)) }
handles h (n ∷ ns) o near =
    let l = h.link in
    let ms = take (length (slice_index_or l.blocks n [])) (drop (length l.taken) h.queued) in
    let empty : List Reply = record { number = n + 1; answer = [] } ∷ [] in
    elim (eqb_tells n l.accepted) [
      | inl p ↦ rw p.0 (record {
        more = numbered (n + 1) (map wire_text (takes_all h.board (commands_of ms)).answers) ++ empty;
        up = refl;
        blocks = refl;
        each = says_block h n o near.0.was_sent p.1 ms refl empty;
      })
      | inr p ↦ rw p.0 (record { more = record { number = l.accepted; answer = [] } ∷ []; up = refl; blocks = refl; each = λ place low high. absurd (omega (arith, low, high)) })
    ]

lost_up : (l : Link) (ds : List ℕ) → ((link.lose l ds).up ≡ l.up) × ((link.lose l ds).blocks ≡ l.blocks)
lost_up l [] = (refl, refl)
lost_up l (n ∷ ns) = (refl, refl)

-- something comes to the board
abbrev IsComing : Event → Type 0
IsComing event.Arrive = Unit {0}
IsComing event.Repeat = Unit {0}
IsComing event.Lose = Unit {0}
IsComing event.Garble = Unit {0}
IsComing e = ⊥

abbrev Comes : Step → Type 0
Comes (Do e) = IsComing e
Comes (Turn turn) = ⊥

-- nothing is taken
says_nothing : (h g : Core) (more : List Reply) → g.link.up ≡ h.link.up ++ more → g.queued ≡ h.queued ++ [] → g.link.blocks ≡ h.link.blocks → g.board ≡ h.board → g.taken ≡ h.taken ++ [] → Says h g
says_nothing h g more up queued blocks board taken = record {
  more = more;
  up = up;
  queued = queued ∙ append-nil h.queued;
  blocks = blocks;
  tick = ap (λ (x : Rig). x.controller.tick) board;
  each = λ place low high. absurd (omega (arith, low, high, ap length (taken ∙ append-nil h.taken)));
}

says_garbled : (h : Core) (ds : List ℕ) (told : Bool) → (more : List Reply) × ((link.garble h.link ds told).up ≡ h.link.up ++ more) × ((link.garble h.link ds told).blocks ≡ h.link.blocks)
says_garbled h [] told = ([], sym (append-nil h.link.up), refl)
says_garbled h (n ∷ ns) true = ([], sym (append-nil h.link.up), refl)
says_garbled h (n ∷ ns) false = (record { number = h.link.accepted; answer = [] } ∷ [], refl, refl)

says_event : (h : Core) (e : Event) → IsComing e → IsOrdered h → Says h (after_event h e)
says_event h event.Arrive k o =
    let d = handles h h.link.down o o.in_step.down in
    let out = lost_up (link.repeat h.link h.link.down (map wire_text (does h event.Arrive).answers)) h.link.down in
    record {
      more = d.more;
      up = out.0 ∙ d.up;
      queued = append-nil h.queued;
      blocks = out.1 ∙ d.blocks;
      tick = all_tick h.board (commands_of (takes_in h event.Arrive));
      each = λ place low high. d.each place low (omega (arith, high, length-append h.taken (block_of h h.link.down)));
    }
says_event h event.Repeat k o =
    let d = handles h h.link.down o o.in_step.down in
    record {
      more = d.more;
      up = d.up;
      queued = append-nil h.queued;
      blocks = d.blocks;
      tick = all_tick h.board (commands_of (takes_in h event.Repeat));
      each = λ place low high. d.each place low (omega (arith, high, length-append h.taken (block_of h h.link.down)));
    }
says_event h event.Lose k o =
    let out = lost_up h.link h.link.down in
    says_nothing h (after_event h event.Lose) [] (out.0 ∙ sym (append-nil h.link.up)) refl out.1 refl refl
says_event h event.Garble k o =
    let d = says_garbled h h.link.down h.spoilt in
    says_nothing h (after_event h event.Garble) d.0 d.1 refl d.2 refl refl
says_event h (event.Pass t) k o = absurd k
says_event h (event.Put b) k o = absurd k
says_event h (event.Control c) k o = absurd k
says_event h event.Send k o = absurd k
says_event h event.Resend k o = absurd k
says_event h event.Reply k o = absurd k
says_event h event.LoseReply k o = absurd k

says_steps : (steps : List Step) (h : Core) → AllOf Comes steps → IsOrdered h → Says h (run_world steps h)
says_steps [] h k o = says_none h
says_steps (Do e ∷ steps) h k o =
    says_both h (after_event h e) (run_world steps (after_event h e)) (says_event h e k.0 o) (says_steps steps (after_event h e) k.1 (ordered_by h e o))
says_steps (Turn turn ∷ steps) h k o = absurd k.0

come_by : (fate : Fate) → AllOf Comes (comes Down fate)
come_by Lost = (tt, tt)
come_by Last = (tt, tt)
come_by Stays = (tt, (tt, tt))
come_by Garbled = (tt, tt)

-- the board's part of a turn
pub record SaysInTurn (h g : Core) : Type 0 where
  pub more : List Reply
  pub up : g.link.up ≡ h.link.up ++ more
  pub each : SaysEach h (length g.taken) more

pub board_says : (clock : BoardClock) (turn : ℕ) (copies : List Copy) (h : Core) → IsOrdered h → SaysInTurn h (run_world (board_steps clock turn copies) h)
board_says clock turn copies h o =
    let g = run_world (come Down turn copies) h in
    let t = board_tick clock (turn + 1) in
    let says = says_steps (come Down turn copies) h (all_come Comes Down (λ fate. come_by fate) turn copies) o in
    let last = numbered g.link.accepted (map wire_text (does g (event.Pass t)).answers) in
    let Of : Core → Type 0 = λ x. SaysInTurn h x in
    subst Of (sym (run_append (come Down turn copies) (Do (event.Pass t) ∷ []) h)) (record {
      more = says.more ++ last;
      up = ap (λ x. x ++ last) says.up ∙ append_assoc h.link.up says.more last;
      each = λ place low high. says_more h place says.more last (says.each place low (omega (arith, high, length-append g.taken [])));
    })
