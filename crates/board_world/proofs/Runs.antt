-- What every list of steps keeps.
use Rattle.std.proofs.Common.{false, Bool, ◌≡◌, ℕ, true, zero, suc, ◌+◌, ◌-◌, ◌≤◌, ◌⊎◌, List, [], ◌∷◌, ◌++◌, length, map, take, drop, refl, ap, sym, ◌∙◌, arith, inl, inr, append_assoc, append-nil, length-append}
use Rattle.std.proofs.lemmas.Bool.Decides.{eqb_tells, leb_tells}
use Rattle.std.proofs.lemmas.List.{take-append-le, length-map, map-append}
use Rattle.std.proofs.Math.Seq.{take-add, take-append_seam}
use Rattle.std.specs.Prelude.{slice_index_or}
use Rattle.std.specs.List.{flat_map}
use Rattle.plan_types.specs.declared.machine.BoardDef.{BoardDef}
use Rattle.plan_types.specs.declared.plan.BoardState.{BoardState}
use Rattle.plan_types.specs.declared.plan.Pulse.{Pulse}
use Rattle.link_core.specs.Core.{Link, Command, InStep}
use Rattle.link_core.specs.Core as link
use Rattle.link_core.specs.Core.{Event as LinkEvent}
use Rattle.link_core.specs.Core.Event.{Arrive as LinkArrive, Turn as LinkTurn}
use Rattle.link_core.proofs.Steps.{happens_keeps, start_keeps}
use Rattle.link_core.proofs.Queued.{run_queued, first_blocks}
use Rattle.plan_types.specs.declared.levels.Level.{Level}
use Rattle.board_sim.specs.Board.{Controller, new_controller, is_shut}
use Rattle.msg_code.specs.declared.cmd.Cmd.{Cmd}
use Rattle.board_sim.specs.Rig.{Rig, new_rig, takes, takes_all, passes}
use Rattle.board_sim.specs.RigRuns.{AllSound}
use Rattle.board_sim.proofs.Sound.{none_sound, takes_sound, passes_sound}
use Rattle.board_sim.proofs.Enough.{none_at}
use Rattle.board_sim.specs.Fair.{Meant, commands_of, AreFair, IsCut, CameLate}
use Rattle.board_sim.specs.Halted.{meant_behind, KeptPart}
use Rattle.board_sim.proofs.Keeps.{first_kept}
use Rattle.board_sim.proofs.HaltedTime.{whole_part, time_keeps, part_cut}
use Rattle.board_sim.proofs.HaltedTakes.{commands_keep}
use Rattle.board_sim.proofs.RigShut.{all_left_by, passes_left, passes_late, late_all}
use Rattle.board_world.specs.declared.event.Event.{Event}
use Rattle.board_world.specs.declared.event.Event.TheVariants.{Put, Control, Send, Resend, Arrive, Lose, Garble, Repeat, Reply, LoseReply, Pass}
use Rattle.board_world.specs.Stands.{IsOrdered}
use Rattle.board_world.specs.World.{Core, Deed, Step, Do, Turn, obeys, does, on_wire, wire_text, block_of, takes_in, orders_of, link_event, after_event, in_turn, world_after, run_world, new_world, AllFair, queued_by}

-- the numbers
pub step_keeps : (h : Core) (s : Step) → InStep h.link → InStep (world_after h s).link
step_keeps h (Do e) k = happens_keeps h.link (link_event h e) k
step_keeps h (Turn turn) k = happens_keeps h.link (LinkTurn turn) k

pub in_step : (steps : List Step) (h : Core) → InStep h.link → InStep (run_world steps h).link
in_step [] h k = k
in_step (s ∷ steps) h k = in_step steps (world_after h s) (step_keeps h s k)

-- the pulses
abbrev PartIn : Core → Type 0
PartIn h = KeptPart h.board.controller h.made h.meant

obeyed_keeps : (b : Rig) (ms : List Meant) (made meant : List Pulse) → KeptPart b.controller made meant → AreFair b ms → KeptPart (obeys b ms).board.controller (made ++ (obeys b ms).pulses) (meant_behind b made meant ms)
obeyed_keeps b ms made meant k fair = rw (append-nil made) (commands_keep b ms made meant k fair)

kept_by : (h : Core) (e : Event) → PartIn h → AreFair h.board (takes_in h e) → PartIn (after_event h e)
kept_by h (Pass t) k fair = time_keeps h.board t h.made h.meant k
kept_by h (Put b) k fair = obeyed_keeps h.board [] h.made h.meant k fair
kept_by h (Control c) k fair = obeyed_keeps h.board [] h.made h.meant k fair
kept_by h Send k fair = obeyed_keeps h.board [] h.made h.meant k fair
kept_by h Resend k fair = obeyed_keeps h.board [] h.made h.meant k fair
kept_by h Arrive k fair = obeyed_keeps h.board (takes_in h Arrive) h.made h.meant k fair
kept_by h Lose k fair = obeyed_keeps h.board [] h.made h.meant k fair
kept_by h Garble k fair = obeyed_keeps h.board [] h.made h.meant k fair
kept_by h Repeat k fair = obeyed_keeps h.board (takes_in h Repeat) h.made h.meant k fair
kept_by h Reply k fair = obeyed_keeps h.board [] h.made h.meant k fair
kept_by h LoseReply k fair = obeyed_keeps h.board [] h.made h.meant k fair

kept_along : (steps : List Step) (h : Core) → PartIn h → AllFair h steps → PartIn (run_world steps h)
kept_along [] h k fair = k
kept_along (Do e ∷ steps) h k fair = kept_along steps (after_event h e) (kept_by h e k fair.0) fair.1
kept_along (Turn turn ∷ steps) h k fair = kept_along steps (in_turn h turn) k fair.1

pub pulses_kept : (b : BoardDef) (pins : List (List Level)) (steps : List Step) → AllFair (new_world b pins) steps → PartIn (run_world steps (new_world b pins))
pulses_kept b pins steps fair = kept_along steps (new_world b pins) (whole_part (new_controller b) [] [] (first_kept b)) fair

pub pulses_cut : (b : BoardDef) (pins : List (List Level)) (steps : List Step) → AllFair (new_world b pins) steps → IsCut (run_world steps (new_world b pins)).made (run_world steps (new_world b pins)).meant
pulses_cut b pins steps fair =
    let h = run_world steps (new_world b pins) in
    part_cut h.board.controller h.made h.meant (pulses_kept b pins steps fair)

-- the last pulses are the last of all
abbrev IsLast : Core → Type 0
IsLast h = (before : List Pulse) × (before ++ h.last ≡ h.made)

none_made : (h : Core) → IsLast h → (before : List Pulse) × (before ++ h.last ≡ h.made ++ [])
none_made h k = (k.0, k.1 ∙ sym (append-nil h.made))

last_made : (h : Core) (e : Event) → IsLast h → IsLast (after_event h e)
last_made h (Pass t) k = elim (leb_tells h.board.controller.tick t) [ inl p ↦ rw p.0 (h.made, refl) | inr p ↦ rw p.0 (none_made h k) ]
last_made h (Put b) k = none_made h k
last_made h (Control c) k = none_made h k
last_made h Send k = none_made h k
last_made h Resend k = none_made h k
last_made h Arrive k = none_made h k
last_made h Lose k = none_made h k
last_made h Garble k = none_made h k
last_made h Repeat k = none_made h k
last_made h Reply k = none_made h k
last_made h LoseReply k = none_made h k

pub last_along : (steps : List Step) (h : Core) → IsLast h → IsLast (run_world steps h)
last_along [] h k = k
last_along (Do e ∷ steps) h k = last_along steps (after_event h e) (last_made h e k)
last_along (Turn turn ∷ steps) h k = last_along steps (in_turn h turn) k

-- the shutdown
late_by : (h : Core) (e : Event) → CameLate h.board.controller.state → CameLate (does h e).board.controller.state
late_by h (Pass t) k = passes_late h.board t k
late_by h (Put b) k = k
late_by h (Control c) k = k
late_by h Send k = k
late_by h Resend k = k
late_by h Arrive k = late_all h.board (commands_of (takes_in h Arrive)) k
late_by h Lose k = k
late_by h Garble k = k
late_by h Repeat k = late_all h.board (commands_of (takes_in h Repeat)) k
late_by h Reply k = k
late_by h LoseReply k = k

pub late : (steps : List Step) (h : Core) → CameLate h.board.controller.state → CameLate (run_world steps h).board.controller.state
late [] h k = k
late (Do e ∷ steps) h k = late steps (after_event h e) (late_by h e k)
late (Turn turn ∷ steps) h k = late steps (in_turn h turn) k

abbrev IsStill : BoardState → Deed → Type 0
IsStill s d = (d.board.controller.state ≡ s) × (d.pulses ≡ [])

still_obeying : (b : Rig) (ms : List Meant) → is_shut b.controller.state ≡ true → IsStill b.controller.state (obeys b ms)
still_obeying b ms e = (ap (λ (x : Controller). x.state) (all_left_by b (commands_of ms) e), refl)

still_by : (h : Core) (e : Event) → is_shut h.board.controller.state ≡ true → IsStill h.board.controller.state (does h e)
still_by h (Pass t) k = let l = passes_left h.board t k in (l.1, l.0)
still_by h (Put b) k = still_obeying h.board [] k
still_by h (Control c) k = still_obeying h.board [] k
still_by h Send k = still_obeying h.board [] k
still_by h Resend k = still_obeying h.board [] k
still_by h Arrive k = still_obeying h.board (takes_in h Arrive) k
still_by h Lose k = still_obeying h.board [] k
still_by h Garble k = still_obeying h.board [] k
still_by h Repeat k = still_obeying h.board (takes_in h Repeat) k
still_by h Reply k = still_obeying h.board [] k
still_by h LoseReply k = still_obeying h.board [] k

pub still : (steps : List Step) (h : Core) → is_shut h.board.controller.state ≡ true → ((run_world steps h).made ≡ h.made) × ((run_world steps h).board.controller.state ≡ h.board.controller.state)
still [] h k = (refl, refl)
still (Do e ∷ steps) h k =
    let one = still_by h e k in
    let rest = still steps (after_event h e) (ap is_shut one.0 ∙ k) in
    (rest.0 ∙ ap (λ x. h.made ++ x) one.1 ∙ append-nil h.made, rest.1 ∙ one.0)
still (Turn turn ∷ steps) h k = still steps (in_turn h turn) k

-- the order: the commands that the wire carries are those that were queued, and those taken are the first of them
link_orders : (h : Core) (e : Event) → link.commands_of (link_event h e) ≡ map on_wire (orders_of e)
link_orders h (Pass t) = refl
link_orders h (Put b) = refl
link_orders h (Control c) = refl
link_orders h Send = refl
link_orders h Resend = refl
link_orders h Arrive = refl
link_orders h Lose = refl
link_orders h Garble = refl
link_orders h Repeat = refl
link_orders h Reply = refl
link_orders h LoseReply = refl

-- the commands that the link hands over, counted
abbrev Hands : Core → Link → List Meant → List Meant → Type 0
Hands h now ms new =
    (count : ℕ) × (length now.taken ≡ length h.link.taken + count) × (ms ≡ take count (drop (length h.link.taken) h.queued)) × ((count ≡ 0) ⊎ (new ≡ []))

hands_none : (h : Core) (now : Link) (new : List Meant) → now.taken ≡ h.link.taken → Hands h now [] new
hands_none h now new e = (0, omega (arith, ap length e), refl, inl refl)

handled : (h : Core) (n : ℕ) (ns : List ℕ) (answers : List (List ℕ)) → Hands h (link.handle h.link n answers) (block_of h (n ∷ ns)) []
handled h n ns answers =
    let l = h.link in
    elim (eqb_tells n l.accepted) [
      | inl p ↦ rw p.0 (length (slice_index_or l.blocks n []), length-append l.taken (slice_index_or l.blocks n []), refl, inr refl)
      | inr p ↦ rw p.0 (0, omega arith, refl, inr refl)
    ]

repeated_hands : (h : Core) (down : List ℕ) (answers : List (List ℕ)) → Hands h (link.repeat h.link down answers) (block_of h down) []
repeated_hands h [] answers = hands_none h h.link [] refl
repeated_hands h (n ∷ ns) answers = handled h n ns answers

lost : (l : Link) (ns : List ℕ) → (link.lose l ns).taken ≡ l.taken
lost l [] = refl
lost l (n ∷ ns) = refl

sent_taken : (l : Link) (cs : List Command) → (link.send l cs).taken ≡ l.taken
sent_taken l [] = refl
sent_taken l (c ∷ cs) = elim (leb_tells (suc (link.sent l - l.acked)) 12) [ inl p ↦ rw p.0 refl | inr p ↦ rw p.0 refl ]

replied : (l : Link) (rs : List link.Reply) → (link.reply l rs).taken ≡ l.taken
replied l [] = refl
replied l (r ∷ rs) = refl

garbled : (l : Link) (ns : List ℕ) (told : Bool) → (link.garble l ns told).taken ≡ l.taken
garbled l [] told = refl
garbled l (n ∷ ns) true = refl
garbled l (n ∷ ns) false = refl

reply_lost : (l : Link) (rs : List link.Reply) → (link.lose_reply l rs).taken ≡ l.taken
reply_lost l [] = refl
reply_lost l (r ∷ rs) = refl

arrived : (h : Core) (answers : List (List ℕ)) → Hands h (link.happens h.link (LinkArrive answers)) (block_of h h.link.down) []
arrived h answers =
    let r = repeated_hands h h.link.down answers in
    (r.0, ap length (lost (link.repeat h.link h.link.down answers) h.link.down) ∙ r.1, r.2, r.3)

hands : (h : Core) (e : Event) → Hands h (link.happens h.link (link_event h e)) (takes_in h e) (orders_of e)
hands h (Pass t) = hands_none h (link.happens h.link (link_event h (Pass t))) (orders_of (Pass t)) refl
hands h (Put b) = hands_none h (link.happens h.link (link_event h (Put b))) (orders_of (Put b)) refl
hands h (Control c) = hands_none h (link.happens h.link (link_event h (Control c))) (orders_of (Control c)) refl
hands h Send = hands_none h (link.happens h.link (link_event h Send)) (orders_of Send) (sent_taken h.link h.link.waiting)
hands h Resend = hands_none h (link.happens h.link (link_event h Resend)) (orders_of Resend) refl
hands h Arrive = arrived h (map wire_text (does h Arrive).answers)
hands h Lose = hands_none h (link.happens h.link (link_event h Lose)) (orders_of Lose) (lost h.link h.link.down)
hands h Garble = hands_none h (link.happens h.link (link_event h Garble)) (orders_of Garble) (garbled h.link h.link.down h.spoilt)
hands h Repeat = repeated_hands h h.link.down (map wire_text (does h Repeat).answers)
hands h Reply = hands_none h (link.happens h.link (link_event h Reply)) (orders_of Reply) (replied h.link h.link.up)
hands h LoseReply = hands_none h (link.happens h.link (link_event h LoseReply)) (orders_of LoseReply) (reply_lost h.link h.link.up)

pub map-take : (n : ℕ) (ms : List Meant) → map on_wire (take n ms) ≡ take n (map on_wire ms)
map-take zero ms = refl
map-take (suc n) [] = refl
map-take (suc n) (m ∷ ms) = ap (λ t. on_wire m ∷ t) (map-take n ms)

-- the link takes no more than was queued
taken_first : (l : Link) → InStep l → (rest : List Command) × (l.taken ++ rest ≡ link.queued l)
taken_first l s =
    let rest = flat_map (λ cs. cs) (drop l.accepted l.blocks) ++ l.waiting in
    (rest, ap (λ t. t ++ rest) s.each_once ∙ first_blocks l l.accepted)

within : (h : Core) → IsOrdered h → length h.link.taken ≤ length h.queued
within h o =
    let (rest, e) = taken_first h.link o.in_step in
    omega (arith, ap length e, length-append h.link.taken rest, ap length o.carried, length-map h.queued on_wire)

-- the commands that are handed over come from those that were queued before
old_ones : (n count : ℕ) (ms new : List Meant) → n ≤ length ms → (count ≡ 0) ⊎ (new ≡ []) → take count (drop n ms) ≡ take count (drop n (ms ++ new))
old_ones n count ms new few e = elim e [ inl none ↦ rw none refl | inr none ↦ rw (none, append-nil ms) refl ]

-- triggers stay sound
all_sound : (b : Rig) (cs : List Cmd) → AllSound b → AllSound (takes_all b cs).rig
all_sound b [] k = k
all_sound b (c ∷ cs) k = all_sound (takes b c).rig cs (takes_sound b c k)

sound_pass : (b : Rig) (t : ℕ) → AllSound b → AllSound (passes b t).rig
sound_pass b t k = elim (leb_tells b.controller.tick t) [ inl p ↦ passes_sound b t k p.1 | inr p ↦ rw p.0 k ]

sound_by : (h : Core) (e : Event) → AllSound h.board → AllSound (does h e).board
sound_by h (Pass t) k = sound_pass h.board t k
sound_by h (Put b) k = k
sound_by h (Control c) k = k
sound_by h Send k = k
sound_by h Resend k = k
sound_by h Arrive k = all_sound h.board (commands_of (takes_in h Arrive)) k
sound_by h Lose k = k
sound_by h Garble k = k
sound_by h Repeat k = all_sound h.board (commands_of (takes_in h Repeat)) k
sound_by h Reply k = k
sound_by h LoseReply k = k

pub ordered_by : (h : Core) (e : Event) → IsOrdered h → IsOrdered (after_event h e)
ordered_by h e o =
    let le = link_event h e in
    let new = orders_of e in
    let few = within h o in
    let n = length h.link.taken in
    let handed = hands h e in
    let count = handed.0 in
    let firsts : take n (h.queued ++ new) ≡ take n h.queued = take-append-le n h.queued new few in
    record {
      sound = sound_by h e o.sound;
      carried = run_queued (le ∷ []) h.link ∙ ap (λ x. link.queued h.link ++ x) (append-nil (link.commands_of le) ∙ link_orders h e)
          ∙ ap (λ x. x ++ map on_wire new) o.carried ∙ sym (map-append on_wire h.queued new);
      first = ap (λ x. h.taken ++ x) handed.2 ∙ ap (λ x. x ++ take count (drop n h.queued)) (o.first ∙ sym firsts)
          ∙ ap (λ x. take n (h.queued ++ new) ++ x) (old_ones n count h.queued new few handed.3) ∙ sym (take-add n count (h.queued ++ new)) ∙ ap (λ k. take k (h.queued ++ new)) (sym handed.1);
      in_step = happens_keeps h.link le o.in_step;
    }

pub ordered_turn : (h : Core) (turn : ℕ) → IsOrdered h → IsOrdered (in_turn h turn)
ordered_turn h turn o = record { sound = o.sound; carried = o.carried; first = o.first; in_step = happens_keeps h.link (LinkTurn turn) o.in_step }

pub ordered : (steps : List Step) (h : Core) → IsOrdered h → IsOrdered (run_world steps h)
ordered [] h o = o
ordered (Do e ∷ steps) h o = ordered steps (after_event h e) (ordered_by h e o)
ordered (Turn turn ∷ steps) h o = ordered steps (in_turn h turn) (ordered_turn h turn o)

pub all_orders : (steps : List Step) (h : Core) → (run_world steps h).queued ≡ h.queued ++ flat_map queued_by steps
all_orders [] h = sym (append-nil h.queued)
all_orders (Do e ∷ steps) h = all_orders steps (after_event h e) ∙ append_assoc h.queued (orders_of e) (flat_map queued_by steps)
all_orders (Turn turn ∷ steps) h = all_orders steps (in_turn h turn)

pub start_ordered : (b : BoardDef) (pins : List (List Level)) → IsOrdered (new_world b pins)
start_ordered b pins = record { sound = none_sound (new_rig b pins) (λ oid. none_at 256 oid); carried = refl; first = refl; in_step = start_keeps }

pub wired : (h : Core) → IsOrdered h → h.link.taken ≡ map on_wire h.taken
wired h o =
    let l = h.link in
    let n = length l.taken in
    let (rest, e) = taken_first l o.in_step in
    sym (take-append_seam l.taken rest) ∙ ap (λ x. take n x) (e ∙ o.carried) ∙ sym (map-take n h.queued) ∙ ap (λ x. map on_wire x) (sym o.first)
