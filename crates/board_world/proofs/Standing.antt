-- What a world stands for after an event that the board doesn't notice.
use Rattle.std.proofs.Common.{◌≡◌, ℕ, Bool, false, suc, ◌%◌, ◌+◌, ◌-◌, ◌<◌, ◌≤◌, ◌⊎◌, inl, inr, arith, length, ◌++◌, List, [], ◌∷◌, drop, map, refl, ap, sym, ◌∙◌, append-nil}
use Rattle.std.specs.Prelude.{nat_eq}
use Rattle.std.proofs.lemmas.Bool.Decides.{leb_tells, nat_tests}
use Rattle.std.proofs.lemmas.List.{length-map, length-drop, map-append}
use Rattle.std.proofs.Math.ListN.{get_or-append}
use Rattle.std.proofs.Math.Seq.{get_or-append_seam}
use Rattle.block_frame.specs.Block.{block_text}
use Rattle.plan_types.specs.declared.machine.BoardDef.{BoardDef}
use Rattle.link_core.specs.Host.{Host, content_of, given, acked_by}
use Rattle.link_core.proofs.Standing.{stands_send, stands_reply}
use Rattle.link_core.specs.Core.{Link, Command, Reply, InStep, AreNear, next_block, is_empty}
use Rattle.link_core.specs.Core as link
use Rattle.link_core.specs.Stands.{host_of}
use Rattle.plan_types.specs.declared.levels.Level.{Level}
use Rattle.board_sim.specs.Rig.{Rig}
use Rattle.board_sim.specs.Turn.{Station}
use Rattle.board_world.specs.declared.event.Event.{Event}
use Rattle.board_world.specs.declared.event.Event.TheVariants.{Send, Lose, Repeat, Reply as HostReply, LoseReply}
use Rattle.board_world.specs.World.{Core, Deed, after_event, in_turn, new_world, link_event, orders_of, last_by, spoilt_by, unless_none, does, obeys, on_wire, block_of, wire_text}
use Rattle.board_world.specs.Stands.{SeenWorld, WorldStandsFor, AreRead, with_waiting, text_at, reply_text}
use Rattle.board_world.proofs.Runs.{ordered_by, ordered_turn, start_ordered}
use Rattle.board_world.proofs.Queueing.{read_both}

abbrev pub station_of : Rig → ℕ → Bool → Station
station_of b n answered = record { rig = b; expected = n % 16; told = answered }

-- the link after an event
abbrev pub link_after : Core → Event → Link
link_after h e = link.happens h.link (link_event h e)

-- what the board doesn't notice
pub quiet_stands : (s t : SeenWorld) (h : Core) (e : Event) → WorldStandsFor s h → orders_of e ≡ [] → last_by h e ≡ h.last → does h e ≡ obeys h.board []
    → t.host ≡ host_of (link_after h e) → t.station ≡ station_of h.board h.link.accepted (spoilt_by h e) → (link_after h e).accepted ≡ h.link.accepted
    → t.down ≡ map (text_at (link_after h e).blocks) (link_after h e).down → t.up ≡ map reply_text (link_after h e).up → t.pulses ≡ s.pulses
    → WorldStandsFor t (after_event h e)
quiet_stands s t h e st orders last quiet host station accepted down up pulses =
    let board : (does h e).board ≡ h.board = ap (λ (d : Deed). d.board) quiet in
    record {
      host = host;
      station = station ∙ ap (λ b. station_of b h.link.accepted (spoilt_by h e)) (sym board) ∙ ap (λ n. station_of (does h e).board n (spoilt_by h e)) (sym accepted);
      down = down;
      up = up;
      pulses = pulses ∙ st.pulses ∙ sym last;
      ordered = ordered_by h e st.ordered;
      read = rw (orders, append-nil h.queued) st.read;
    }

-- a block is lost
lose_host : (l : Link) (ns : List ℕ) → host_of (link.lose l ns) ≡ host_of l
lose_host l [] = refl
lose_host l (n ∷ ns) = refl

lose_down : (l : Link) (ns : List ℕ) → l.down ≡ ns → map (text_at (link.lose l ns).blocks) (link.lose l ns).down ≡ drop 1 (map (text_at l.blocks) ns)
lose_down l [] e = ap (map (text_at l.blocks)) e
lose_down l (n ∷ ns) e = refl

lose_rest : (l : Link) (ns : List ℕ) → ((link.lose l ns).accepted ≡ l.accepted) × ((link.lose l ns).up ≡ l.up)
lose_rest l [] = (refl, refl)
lose_rest l (n ∷ ns) = (refl, refl)

pub lost_stands : (s t : SeenWorld) (h : Core) → WorldStandsFor s h → t ≡ record s { down = drop 1 s.down } → WorldStandsFor t (after_event h Lose)
lost_stands s t h st e =
    let l = h.link in
    let rest = lose_rest l l.down in
    quiet_stands s t h Lose st refl refl refl
    (ap (λ (x : SeenWorld). x.host) e ∙ st.host ∙ sym (lose_host l l.down))
    (ap (λ (x : SeenWorld). x.station) e ∙ st.station)
    rest.0
    (ap (λ (x : SeenWorld). x.down) e ∙ ap (drop 1) st.down ∙ sym (lose_down l l.down refl))
    (ap (λ (x : SeenWorld). x.up) e ∙ st.up ∙ ap (map reply_text) (sym rest.1))
    (ap (λ (x : SeenWorld). x.pulses) e)

-- a reply is lost
reply_host : (l : Link) (rs : List Reply) → host_of (link.lose_reply l rs) ≡ host_of l
reply_host l [] = refl
reply_host l (r ∷ rs) = refl

pub reply_up : (l : Link) (rs : List Reply) → l.up ≡ rs → map reply_text (link.lose_reply l rs).up ≡ drop 1 (map reply_text rs)
reply_up l [] e = ap (map reply_text) e
reply_up l (r ∷ rs) e = refl

reply_rest : (l : Link) (rs : List Reply) → ((link.lose_reply l rs).accepted ≡ l.accepted) × (map (text_at (link.lose_reply l rs).blocks) (link.lose_reply l rs).down ≡ map (text_at l.blocks) l.down)
reply_rest l [] = (refl, refl)
reply_rest l (r ∷ rs) = (refl, refl)

pub reply_lost_stands : (s t : SeenWorld) (h : Core) → WorldStandsFor s h → t ≡ record s { up = drop 1 s.up } → WorldStandsFor t (after_event h LoseReply)
reply_lost_stands s t h st e =
    let l = h.link in
    let rest = reply_rest l l.up in
    quiet_stands s t h LoseReply st refl refl refl
    (ap (λ (x : SeenWorld). x.host) e ∙ st.host ∙ sym (reply_host l l.up))
    (ap (λ (x : SeenWorld). x.station) e ∙ st.station)
    rest.0
    (ap (λ (x : SeenWorld). x.down) e ∙ st.down ∙ sym rest.1)
    (ap (λ (x : SeenWorld). x.up) e ∙ ap (drop 1) st.up ∙ sym (reply_up l l.up refl))
    (ap (λ (x : SeenWorld). x.pulses) e)

-- a block is sent
no_nil : (c : Command) (cs : List Command) → c ∷ cs ≡ [] → ⊥
no_nil c cs e = cc

pub text_old : (blocks : List (List Command)) (b : List Command) (n : ℕ) → n < length blocks → text_at (blocks ++ b ∷ []) n ≡ text_at blocks n
text_old blocks b n h = ap (λ x. block_text (n % 16) (content_of x)) (get_or-append blocks (b ∷ []) [] n h)

pub texts_old : (blocks : List (List Command)) (b : List Command) (accepted : ℕ) (ns : List ℕ) → AreNear (length blocks) accepted ns → map (text_at (blocks ++ b ∷ [])) ns ≡ map (text_at blocks) ns
texts_old blocks b accepted [] h = refl
texts_old blocks b accepted (n ∷ ns) h =
    ap (λ x. x ∷ map (text_at (blocks ++ b ∷ [])) ns) (text_old blocks b n h.0.was_sent) ∙ ap (λ x. text_at blocks n ∷ x) (texts_old blocks b accepted ns h.2)

send_down : (l : Link) (ws : List Command) → l.waiting ≡ ws → InStep l → link.sent l < l.acked + 12 → 0 < length ws
    → map (text_at (link.send l ws).blocks) (link.send l ws).down ≡ map (text_at l.blocks) l.down ++ block_text (link.sent l % 16) (content_of (next_block 59 ws)) ∷ []
send_down l [] e s room some = absurd (omega arith)
send_down l (c ∷ cs) e s room some =
    let b = next_block 59 (c ∷ cs) in
    let new : text_at (l.blocks ++ b ∷ []) (link.sent l) ≡ block_text (link.sent l % 16) (content_of b) =
    ap (λ x. block_text (link.sent l % 16) (content_of x)) (get_or-append_seam l.blocks b [] []) in
    elim (leb_tells (suc (link.sent l - l.acked)) 12) [
      | inl p ↦ rw p.0 (map-append (text_at (l.blocks ++ b ∷ [])) l.down (link.sent l ∷ []) ∙ ap (λ x. x ++ text_at (l.blocks ++ b ∷ []) (link.sent l) ∷ []) (texts_old l.blocks b l.accepted l.down s.down)
          ∙ ap (λ x. map (text_at l.blocks) l.down ++ x ∷ []) new)
      | inr p ↦ absurd (omega (arith, p.1, room))
    ]

send_rest : (l : Link) (ws : List Command) → ((link.send l ws).accepted ≡ l.accepted) × ((link.send l ws).up ≡ l.up)
send_rest l [] = (refl, refl)
send_rest l (c ∷ cs) = elim (leb_tells (suc (link.sent l - l.acked)) 12) [ inl p ↦ rw p.0 (refl, refl) | inr p ↦ rw p.0 (refl, refl) ]

send_none : (l : Link) (ws : List Command) → (12 ≤ link.sent l - l.acked) ⊎ (ws ≡ []) → link.send l ws ≡ l
send_none l [] h = refl
send_none l (c ∷ cs) h =
    elim (leb_tells (suc (link.sent l - l.acked)) 12) [ inl p ↦ elim h [ inl full ↦ absurd (omega (arith, p.1, full)) | inr none ↦ absurd (no_nil c cs none) ] | inr p ↦ rw p.0 refl ]

pub size_is : (l : Link) → length (map content_of (drop l.acked l.blocks)) ≡ link.sent l - l.acked
size_is l = simp (length-map, length-drop) refl

pub sent_stands : (s t : SeenWorld) (h : Core) → WorldStandsFor s h → length s.host.contents < 12 → 0 < length s.host.waiting
    → t ≡ record s { host = given s.host s.host.turn (next_block 59 s.host.waiting); down = s.down ++ block_text (s.host.sent % 16) (content_of (next_block 59 s.host.waiting)) ∷ [] }
    → WorldStandsFor t (after_event h Send)
sent_stands s t h st few some e =
    let l = h.link in
    let i = st.ordered.in_step in
    let waiting : s.host.waiting ≡ l.waiting = ap (λ (x : Host). x.waiting) st.host in
    let contents : length s.host.contents ≡ link.sent l - l.acked = ap (λ (x : Host). length x.contents) st.host ∙ size_is l in
    let room : link.sent l < l.acked + 12 = omega (arith, contents, few, i.acked_accepted, i.accepted_sent) in
    let some_l : 0 < length l.waiting = rw (← waiting) some in
    let rest = send_rest l l.waiting in
    quiet_stands s t h Send st refl refl refl
    (ap (λ (x : SeenWorld). x.host) e ∙ ap (λ (x : Host). given x x.turn (next_block 59 x.waiting)) st.host ∙ sym (stands_send l l.waiting refl i room some_l))
    (ap (λ (x : SeenWorld). x.station) e ∙ st.station)
    rest.0
    (ap (λ (x : SeenWorld). x.down) e ∙ ap (λ x. x ++ block_text (s.host.sent % 16) (content_of (next_block 59 s.host.waiting)) ∷ []) st.down
    ∙ ap (λ (x : Host). map (text_at l.blocks) l.down ++ block_text (x.sent % 16) (content_of (next_block 59 x.waiting)) ∷ []) st.host ∙ sym (send_down l l.waiting refl i room some_l))
    (ap (λ (x : SeenWorld). x.up) e ∙ st.up ∙ ap (map reply_text) (sym rest.1))
    (ap (λ (x : SeenWorld). x.pulses) e)

-- the link is left as it is
pub same_stands : (s t : SeenWorld) (h : Core) (e : Event) → WorldStandsFor s h → orders_of e ≡ [] → last_by h e ≡ h.last → does h e ≡ obeys h.board [] → spoilt_by h e ≡ h.spoilt → link_after h e ≡ h.link → t ≡ s → WorldStandsFor t (after_event h e)
same_stands s t h e st orders last quiet kept same is =
    quiet_stands s t h e st orders last quiet
    (ap (λ (x : SeenWorld). x.host) is ∙ st.host ∙ ap host_of (sym same))
    (ap (λ (x : SeenWorld). x.station) is ∙ st.station ∙ ap (station_of h.board h.link.accepted) (sym kept))
    (ap (λ (x : Link). x.accepted) same)
    (ap (λ (x : SeenWorld). x.down) is ∙ st.down ∙ ap (λ (x : Link). map (text_at x.blocks) x.down) (sym same))
    (ap (λ (x : SeenWorld). x.up) is ∙ st.up ∙ ap (λ (x : Link). map reply_text x.up) (sym same))
    (ap (λ (x : SeenWorld). x.pulses) is)

pub unsent_stands : (s t : SeenWorld) (h : Core) → WorldStandsFor s h → (12 ≤ length s.host.contents) ⊎ (s.host.waiting ≡ []) → t ≡ s → WorldStandsFor t (after_event h Send)
unsent_stands s t h st none e =
    let l = h.link in
    let contents : length s.host.contents ≡ link.sent l - l.acked = ap (λ (x : Host). length x.contents) st.host ∙ size_is l in
    let waiting : s.host.waiting ≡ l.waiting = ap (λ (x : Host). x.waiting) st.host in
    let full : (12 ≤ link.sent l - l.acked) ⊎ (l.waiting ≡ []) = elim none [ inl many ↦ inl (rw (← contents) many) | inr gone ↦ inr (sym waiting ∙ gone) ] in
    same_stands s t h Send st refl refl refl refl (send_none l l.waiting full) e

-- a reply comes
reply_keeps : (l : Link) (rs : List Reply) → ((link.reply l rs).accepted ≡ l.accepted) × ((link.reply l rs).up ≡ l.up) × (map (text_at (link.reply l rs).blocks) (link.reply l rs).down ≡ map (text_at l.blocks) l.down)
reply_keeps l [] = (refl, refl, refl)
reply_keeps l (r ∷ rs) = (refl, refl, refl)

pub replied_stands : (s t : SeenWorld) (h : Core) (r : Reply) (rs : List Reply) → WorldStandsFor s h → h.link.up ≡ r ∷ rs → t ≡ record s { host = acked_by s.host r.number (is_empty r.answer) }
    → WorldStandsFor t (after_event h HostReply)
replied_stands s t h r rs st up e =
    let l = h.link in
    let rest = reply_keeps l l.up in
    quiet_stands s t h HostReply st refl refl refl
    (ap (λ (x : SeenWorld). x.host) e ∙ ap (λ (x : Host). acked_by x r.number (is_empty r.answer)) st.host ∙ sym (stands_reply l r rs st.ordered.in_step up) ∙ ap (λ us. host_of (link.reply l us)) (sym up))
    (ap (λ (x : SeenWorld). x.station) e ∙ st.station)
    rest.0
    (ap (λ (x : SeenWorld). x.down) e ∙ st.down ∙ sym rest.2)
    (ap (λ (x : SeenWorld). x.up) e ∙ st.up ∙ ap (map reply_text) (sym rest.1))
    (ap (λ (x : SeenWorld). x.pulses) e)

no_text : (t : List ℕ) (ts : List (List ℕ)) → t ∷ ts ≡ [] → ⊥
no_text t ts e = cc

first_text : (t u : List ℕ) (ts us : List (List ℕ)) → t ∷ ts ≡ u ∷ us → t ≡ u
first_text t u ts us e = cc

pub none_up : (us : List Reply) → map reply_text us ≡ [] → us ≡ []
none_up [] e = refl
none_up (r ∷ rs) e = absurd (no_text (reply_text r) (map reply_text rs) e)

pub none_replied_stands : (s t : SeenWorld) (h : Core) → WorldStandsFor s h → s.up ≡ [] → t ≡ s → WorldStandsFor t (after_event h HostReply)
none_replied_stands s t h st none e =
    let l = h.link in
    let gone : l.up ≡ [] = none_up l.up (sym st.up ∙ none) in
    same_stands s t h HostReply st refl refl refl refl (ap (λ us. link.reply l us) gone) e

none_down : (blocks : List (List Command)) (ns : List ℕ) → map (text_at blocks) ns ≡ [] → ns ≡ []
none_down blocks [] e = refl
none_down blocks (n ∷ ns) e = absurd (no_text (text_at blocks n) (map (text_at blocks) ns) e)

-- the oldest reply, and the oldest block, are those of the state
pub oldest_reply : (us : List Reply) (text : List ℕ) (rest : List (List ℕ)) → text ∷ rest ≡ map reply_text us → (r : Reply) × (rs : List Reply) × (us ≡ r ∷ rs) × (text ≡ reply_text r)
oldest_reply [] text rest e = absurd (no_text text rest e)
oldest_reply (r ∷ rs) text rest e = (r, rs, refl, first_text text (reply_text r) rest (map reply_text rs) e)

pub oldest_block : (blocks : List (List Command)) (ns : List ℕ) (text : List ℕ) (rest : List (List ℕ)) → text ∷ rest ≡ map (text_at blocks) ns → (n : ℕ) × (ms : List ℕ) × (ns ≡ n ∷ ms) × (text ≡ text_at blocks n)
oldest_block blocks [] text rest e = absurd (no_text text rest e)
oldest_block blocks (n ∷ ns) text rest e = (n, ns, refl, first_text text (text_at blocks n) rest (map (text_at blocks) ns) e)

pub none_repeated_stands : (s t : SeenWorld) (h : Core) → WorldStandsFor s h → s.down ≡ [] → t ≡ s → WorldStandsFor t (after_event h Repeat)
none_repeated_stands s t h st none e =
    let l = h.link in
    let gone : l.down ≡ [] = none_down l.blocks l.down (sym st.down ∙ none) in
    let quiet : does h Repeat ≡ obeys h.board [] = ap (λ ns. obeys h.board (block_of h ns)) gone in
    same_stands s t h Repeat st refl refl quiet (ap (λ ns. unless_none ns false h.spoilt) gone) (ap (λ ns. link.repeat l ns (map wire_text (does h Repeat).answers)) gone) e

-- commands are queued
pub queued_stands : (s t : SeenWorld) (h : Core) (e : Event) → WorldStandsFor s h → last_by h e ≡ h.last → does h e ≡ obeys h.board [] → spoilt_by h e ≡ h.spoilt → link_after h e ≡ link.queue h.link (map on_wire (orders_of e)) → AreRead (orders_of e)
    → t ≡ record s { host = with_waiting s.host (orders_of e) } → WorldStandsFor t (after_event h e)
queued_stands s t h e st last quiet kept queues read is =
    let ms = orders_of e in
    let board : (does h e).board ≡ h.board = ap (λ (d : Deed). d.board) quiet in
    record {
      host = ap (λ (x : SeenWorld). x.host) is ∙ ap (λ (x : Host). with_waiting x ms) st.host ∙ ap host_of (sym queues);
      station = ap (λ (x : SeenWorld). x.station) is ∙ st.station ∙ ap (λ b. station_of b h.link.accepted h.spoilt) (sym board)
          ∙ ap (λ (x : Link). station_of (does h e).board x.accepted h.spoilt) (sym queues) ∙ ap (station_of (does h e).board (link_after h e).accepted) (sym kept);
      down = ap (λ (x : SeenWorld). x.down) is ∙ st.down ∙ ap (λ (x : Link). map (text_at x.blocks) x.down) (sym queues);
      up = ap (λ (x : SeenWorld). x.up) is ∙ st.up ∙ ap (λ (x : Link). map reply_text x.up) (sym queues);
      pulses = ap (λ (x : SeenWorld). x.pulses) is ∙ st.pulses ∙ sym last;
      ordered = ordered_by h e st.ordered;
      read = read_both h.queued ms st.read read;
    }

-- a turn begins
pub turned_stands : (s t : SeenWorld) (h : Core) (turn : ℕ) → WorldStandsFor s h → t ≡ record s { host = record s.host { turn = turn } } → WorldStandsFor t (in_turn h turn)
turned_stands s t h turn st is = record {
  host = ap (λ (x : SeenWorld). x.host) is ∙ ap (λ (x : Host). record x { turn = turn }) st.host;
  station = ap (λ (x : SeenWorld). x.station) is ∙ st.station;
  down = ap (λ (x : SeenWorld). x.down) is ∙ st.down;
  up = ap (λ (x : SeenWorld). x.up) is ∙ st.up;
  pulses = ap (λ (x : SeenWorld). x.pulses) is ∙ st.pulses;
  ordered = ordered_turn h turn st.ordered;
  read = st.read;
}

pub start_stands : (t : SeenWorld) (b : BoardDef) (pins : List (List Level)) → t.host ≡ host_of link.new_link → t.station ≡ station_of (new_world b pins).board 0 false → t.down ≡ [] → t.up ≡ [] → t.pulses ≡ [] → WorldStandsFor t (new_world b pins)
start_stands t b pins host station down up pulses =
    record { host = host; station = station; down = down; up = up; pulses = pulses; ordered = start_ordered b pins; read = tt }

is_none : (xs : List ℕ) → nat_eq (length xs) 0 ≡ is_empty xs
is_none [] = refl
is_none (x ∷ xs) = grind (arith, nat_tests)

pub none_is_empty : (e : Bool) (xs ys : List ℕ) → e ≡ nat_eq (length xs) 0 → xs ≡ ys → e ≡ is_empty ys
none_is_empty e xs ys is same = is ∙ is_none xs ∙ ap is_empty same
