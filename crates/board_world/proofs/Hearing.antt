-- What a world stands for after the board took a block, and after time passed on it.
use Rattle.std.proofs.Common.{drop, true, Bool, ◌≡◌, ℕ, suc, false, ◌%◌, ◌+◌, ◌<◌, ◌≤◌, ◌⊎◌, inl, inr, arith, ◌++◌, List, [], ◌∷◌, map, Option, Some, None, refl, ap, sym, ◌∙◌, subst, append-nil}
use Rattle.std.proofs.lemmas.Bool.Decides.{eqb_tells, leb_tells}
use Rattle.std.proofs.lemmas.List.{map-append}
use Rattle.std.specs.Prelude.{slice_index_or, nat_le, if◌then◌else◌}
use Rattle.arrayvec.specs.ArrayVec.{ArrayVec}
use Rattle.block_frame.specs.Block.{block_text}
use Rattle.block_frame.specs.declared.Found.{Found}
use Rattle.block_frame.specs.declared.Found.TheVariants.{Block, Skip, NeedMore, Bad}
use Rattle.plan_types.specs.declared.plan.BoardState.{BoardState}
use Rattle.plan_types.specs.declared.plan.Pulse.{Pulse}
use Rattle.link_core.specs.Core.{Link, Command, Reply as LinkReply, AreNear, IsNearExpected, numbered}
use Rattle.link_core.specs.Core as link
use Rattle.link_core.specs.Host.{content_of}
use Rattle.link_core.specs.Stands.{host_of}
use Rattle.link_core.proofs.Steps.{repeat_down}
use Rattle.msg_code.specs.declared.cmd.Cmd.{Cmd}
use Rattle.msg_code.proofs.Written.{text_is}
use Rattle.msg_dict.specs.Own.{own_formats}
use Rattle.board_sim.specs.Board.{Controller}
use Rattle.board_sim.specs.Board as board
use Rattle.board_sim.specs.Rig.{Rig, Passed, takes_all, passes}
use Rattle.board_sim.specs.Turn.{Station, Heard, Expected, Other, Reply, AreReplies, IsContent, Holds, hears, hears_all, replies_of, empty_reply, next_number, says_shut, Noise}
use Rattle.board_sim.specs.Given.{AddsReplies, HearsOne}
use Rattle.board_sim.specs.Fair.{Meant, commands_of}
use Rattle.board_world.specs.declared.event.Event.TheVariants.{Garble, Arrive, Lose, Repeat, Pass}
use Rattle.board_sim.proofs.Asleep.{asleep_passes}
use Rattle.board_sim.proofs.Replies.{adds_both, replies_append}
use Rattle.plan_types.specs.declared.plan.BoardState.TheVariants.{Running, Shut}
use Rattle.board_world.specs.World.{spoilt_by, unless_none, Core, after_event, does, obeys, says, board_runs, last_by, block_of, wire_text, shut_before}
use Rattle.board_world.specs.Stands.{SeenWorld, WorldStandsFor, IsFound, IsStill, texts, text_at, reply_text}
use Rattle.board_world.proofs.Runs.{ordered_by}
use Rattle.board_world.proofs.Standing.{station_of, link_after, quiet_stands, same_stands}
use Rattle.board_world.proofs.Blocks.{block_is, block_reads, reads_as}
use Rattle.board_world.proofs.Apart.{same_number}

-- the bytes of replies
abbrev answer_text : Option Cmd → List ℕ
answer_text None = []
answer_text (Some c) = wire_text c

abbrev block_of_reply : Reply → List ℕ
block_of_reply r = block_text r.number (answer_text r.answer)

content_is : (a : Option Cmd) (content : List ℕ) → IsContent a content → content ≡ answer_text a
content_is None content e = e
content_is (Some c) content w = text_is own_formats c content w

replies_texts : (rs : List Reply) (bs : List (ArrayVec ℕ)) → AreReplies rs bs → texts bs ≡ map block_of_reply rs
replies_texts [] bs e = ap texts e
replies_texts (r ∷ rs) [] e = absurd e
replies_texts (r ∷ rs) (b ∷ bs) e =
    let one : b.items ≡ block_of_reply r = e.0.3 ∙ ap (λ x. block_text r.number x) (content_is r.answer e.0.0 e.0.2) in
    ap (λ x. x ∷ texts bs) one ∙ ap (λ x. block_of_reply r ∷ x) (replies_texts rs bs e.1)

numbered_texts : (k : ℕ) (cs : List Cmd) → map block_of_reply (replies_of (k % 16) cs) ≡ map reply_text (numbered k (map wire_text cs))
numbered_texts k [] = refl
numbered_texts k (c ∷ cs) = ap (λ x. block_text (k % 16) (wire_text c) ∷ x) (numbered_texts k cs)

next_is : (a : ℕ) → next_number (a % 16) ≡ (a + 1) % 16
next_is a = omega arith

-- what the board heard of a block
abbrev Taken : Found → ℕ → List ℕ → Station → Station → List (List ℕ) → Type 0
Taken f k bytes old new added =
    ((k ≡ old.expected) × (cs : List Cmd) × Holds own_formats bytes cs × (new ≡ (hears old (Expected cs)).station) × (added ≡ map block_of_reply (hears old (Expected cs)).replies))
    ⊎ ((k ≡ old.expected → ⊥) × (new ≡ (hears old Other).station) × (added ≡ map block_of_reply (hears old Other).replies))

added_by : (old : Station) (x : Heard) (hs : List Heard) (bs : List (ArrayVec ℕ)) → hs ≡ x ∷ [] → AddsReplies (hears_all old hs).replies [] bs → texts bs ≡ map block_of_reply (hears old x).replies
added_by old x hs bs e adds =
    ap texts adds.2 ∙ replies_texts (hears_all old hs).replies adds.0 adds.1 ∙ ap (λ ys. map block_of_reply (hears_all old ys).replies) e ∙ ap (map block_of_reply) (append-nil (hears old x).replies)

heard_is : (f : Found) (k : ℕ) (bytes : List ℕ) (old new : Station) (bs : List (ArrayVec ℕ)) → IsFound f k bytes → HearsOne f old new [] bs → Taken f k bytes old new (texts bs)
heard_is (Block number content) k bytes old new bs is heard =
    let Read : List ℕ → (List Cmd → Type 0) = λ x. λ cs. Holds own_formats x cs in
    elim heard.is [
      | inl p ↦ inl (sym is.0 ∙ p.0, p.1, subst (λ (x : List ℕ). Holds own_formats x p.1) is.1 p.2, heard.station ∙ ap (λ ys. (hears_all old ys).station) p.3, added_by old (Expected p.1) heard.heard bs p.3 heard.adds)
      | inr p ↦ inr (λ e. p.0 (is.0 ∙ e), heard.station ∙ ap (λ ys. (hears_all old ys).station) p.1, added_by old Other heard.heard bs p.1 heard.adds)
    ]
heard_is Skip k bytes old new bs is heard = absurd is
heard_is NeedMore k bytes old new bs is heard = absurd is
heard_is Bad k bytes old new bs is heard = absurd is

-- the link behind a block
handled_host : (l : Link) (n : ℕ) (answers : List (List ℕ)) → host_of (link.handle l n answers) ≡ host_of l
handled_host l n answers = elim (eqb_tells n l.accepted) [ inl p ↦ rw p.0 refl | inr p ↦ rw p.0 refl ]

handled_down : (l : Link) (n : ℕ) (answers : List (List ℕ)) → map (text_at (link.handle l n answers).blocks) (link.handle l n answers).down ≡ map (text_at l.blocks) l.down
handled_down l n answers = elim (eqb_tells n l.accepted) [ inl p ↦ rw p.0 refl | inr p ↦ rw p.0 refl ]

abbrev last_reply : ℕ → List LinkReply
last_reply k = record { number = k; answer = [] } ∷ []

accepted_link : (l : Link) (n : ℕ) (answers : List (List ℕ)) → n ≡ l.accepted
    → ((link.handle l n answers).accepted ≡ n + 1) × ((link.handle l n answers).up ≡ l.up ++ (numbered (n + 1) answers ++ last_reply (n + 1)))
accepted_link l n answers e = elim (eqb_tells n l.accepted) [ inl p ↦ rw p.0 (refl, refl) | inr p ↦ absurd (p.1 e) ]

other_link : (l : Link) (n : ℕ) (answers : List (List ℕ)) → (n ≡ l.accepted → ⊥)
    → ((link.handle l n answers).accepted ≡ l.accepted) × ((link.handle l n answers).up ≡ l.up ++ last_reply l.accepted)
other_link l n answers e = elim (eqb_tells n l.accepted) [ inl p ↦ absurd (e p.1) | inr p ↦ rw p.0 (refl, refl) ]

none_taken : (h : Core) (n : ℕ) (ns : List ℕ) → (n ≡ h.link.accepted → ⊥) → block_of h (n ∷ ns) ≡ []
none_taken h n ns e = elim (eqb_tells n h.link.accepted) [ inl p ↦ absurd (e p.1) | inr p ↦ rw p.0 refl ]

-- a block that is not expected
other_stands : (s t : SeenWorld) (h : Core) (n : ℕ) (ns : List ℕ) → WorldStandsFor s h → h.link.down ≡ n ∷ ns → (n ≡ h.link.accepted → ⊥)
    → t ≡ record s { station = (hears s.station Other).station; up = s.up ++ map block_of_reply (hears s.station Other).replies } → WorldStandsFor t (after_event h Repeat)
other_stands s t h n ns st down differ e =
    let l = h.link in
    let answers = map wire_text (does h Repeat).answers in
    let quiet : does h Repeat ≡ obeys h.board [] = ap (λ ms. obeys h.board ms) (ap (λ d. block_of h d) down ∙ none_taken h n ns differ) in
    let to : link_after h Repeat ≡ link.handle l n answers = ap (λ d. link.repeat l d answers) down in
    let parts = other_link l n answers differ in
    let is : s.station ≡ station_of h.board l.accepted h.spoilt = st.station in
    let stays : (hears s.station Other).station ≡ station_of h.board l.accepted (spoilt_by h Repeat) =
    ap (λ (x : Station). (hears x Other).station) is ∙ ap (λ d. station_of h.board l.accepted (unless_none d false h.spoilt)) (sym down) in
    quiet_stands s t h Repeat st refl refl quiet
    (ap (λ (x : SeenWorld). x.host) e ∙ st.host ∙ sym (handled_host l n answers) ∙ ap host_of (sym to))
    (ap (λ (x : SeenWorld). x.station) e ∙ stays)
    (ap (λ (x : Link). x.accepted) to ∙ parts.0)
    (ap (λ (x : SeenWorld). x.down) e ∙ st.down ∙ sym (handled_down l n answers) ∙ ap (λ (x : Link). map (text_at x.blocks) x.down) (sym to))
    (ap (λ (x : SeenWorld). x.up) e ∙ ap (λ us. us ++ map block_of_reply (hears s.station Other).replies) st.up
    ∙ ap (λ (x : Station). map reply_text l.up ++ map block_of_reply (hears x Other).replies) is
    ∙ sym (map-append reply_text l.up (last_reply l.accepted)) ∙ ap (map reply_text) (sym parts.1) ∙ ap (λ (x : Link). map reply_text x.up) (sym to))
    (ap (λ (x : SeenWorld). x.pulses) e)

-- the block that is expected
expected_stands : (s t : SeenWorld) (h : Core) (n : ℕ) (ns : List ℕ) (cs : List Cmd) → WorldStandsFor s h → h.link.down ≡ n ∷ ns → n ≡ h.link.accepted → cs ≡ commands_of (block_of h (n ∷ ns))
    → t ≡ record s { station = (hears s.station (Expected cs)).station; up = s.up ++ map block_of_reply (hears s.station (Expected cs)).replies } → WorldStandsFor t (after_event h Repeat)
expected_stands s t h n ns cs st down same reads e =
    let l = h.link in
    let does_it = does h Repeat in
    let answers = map wire_text does_it.answers in
    let took : takes_all h.board cs ≡ takes_all h.board (commands_of (block_of h h.link.down)) = ap (takes_all h.board) (reads ∙ ap (λ d. commands_of (block_of h d)) (sym down)) in
    let to : link_after h Repeat ≡ link.handle l n answers = ap (λ d. link.repeat l d answers) down in
    let parts = accepted_link l n answers same in
    let is : s.station ≡ station_of h.board l.accepted h.spoilt = st.station in
    let k = next_number (l.accepted % 16) in
    let number : k ≡ (n + 1) % 16 = next_is l.accepted ∙ ap (λ a. (a + 1) % 16) (sym same) in
    let boards : (takes_all h.board cs).rig ≡ does_it.board = ap (λ d. d.rig) took in
    let said : (takes_all h.board cs).answers ≡ does_it.answers = ap (λ d. d.answers) took in
    let after : Station = record { rig = (takes_all h.board cs).rig; expected = k; told = false } in
    let replies : map block_of_reply (replies_of k (takes_all h.board cs).answers ++ empty_reply k) ≡ map reply_text (numbered (n + 1) answers ++ last_reply (n + 1)) =
    ap (λ j. map block_of_reply (replies_of j (takes_all h.board cs).answers ++ empty_reply j)) number
    ∙ ap (λ xs. map block_of_reply (replies_of ((n + 1) % 16) xs ++ empty_reply ((n + 1) % 16))) said
    ∙ map-append block_of_reply (replies_of ((n + 1) % 16) does_it.answers) (empty_reply ((n + 1) % 16))
    ∙ ap (λ x. x ++ block_text ((n + 1) % 16) [] ∷ []) (numbered_texts (n + 1) does_it.answers)
    ∙ sym (map-append reply_text (numbered (n + 1) answers) (last_reply (n + 1))) in
    record {
      host = ap (λ (x : SeenWorld). x.host) e ∙ st.host ∙ sym (handled_host l n answers) ∙ ap host_of (sym to);
      station = ap (λ (x : SeenWorld). x.station) e ∙ ap (λ (x : Station). (hears x (Expected cs)).station) is ∙ ap (λ b. record after { rig = b }) boards
          ∙ ap (λ j. record after { rig = does_it.board; expected = j }) number ∙ ap (λ a. station_of does_it.board a false) (sym parts.0) ∙ ap (λ (x : Link). station_of does_it.board x.accepted false) (sym to)
          ∙ ap (λ d. station_of does_it.board (link_after h Repeat).accepted (unless_none d false h.spoilt)) (sym down);
      down = ap (λ (x : SeenWorld). x.down) e ∙ st.down ∙ sym (handled_down l n answers) ∙ ap (λ (x : Link). map (text_at x.blocks) x.down) (sym to);
      up = ap (λ (x : SeenWorld). x.up) e ∙ ap (λ us. us ++ map block_of_reply (hears s.station (Expected cs)).replies) st.up
          ∙ ap (λ (x : Station). map reply_text l.up ++ map block_of_reply (hears x (Expected cs)).replies) is
          ∙ ap (λ x. map reply_text l.up ++ x) replies ∙ sym (map-append reply_text l.up (numbered (n + 1) answers ++ last_reply (n + 1))) ∙ ap (map reply_text) (sym parts.1)
          ∙ ap (λ (x : Link). map reply_text x.up) (sym to);
      pulses = ap (λ (x : SeenWorld). x.pulses) e ∙ st.pulses;
      ordered = ordered_by h Repeat st.ordered;
      read = rw (append-nil h.queued) st.read;
    }

-- the oldest block under way arrives
pub repeated_stands : (s t : SeenWorld) (h : Core) (n : ℕ) (ns : List ℕ) (f : Found) (new : Station) (bs : List (ArrayVec ℕ)) → WorldStandsFor s h → h.link.down ≡ n ∷ ns
    → IsFound f (n % 16) (content_of (slice_index_or h.link.blocks n [])) → HearsOne f s.station new [] bs → t ≡ record s { station = new; up = s.up ++ texts bs }
    → WorldStandsFor t (after_event h Repeat)
repeated_stands s t h n ns f new bs st down is heard e =
    let l = h.link in
    let near : AreNear (link.sent l) l.accepted (n ∷ ns) = rw down at st.ordered.in_step.down in
    let expects : s.station.expected ≡ l.accepted % 16 = ap (λ (x : Station). x.expected) st.station in
    elim (heard_is f (n % 16) (content_of (slice_index_or l.blocks n [])) s.station new bs is heard) [
      | inl p ↦
          let same : n ≡ l.accepted = same_number n l.accepted near.0.below near.0.above (p.0 ∙ expects) in
          let At : List Command → Type 0 = λ b. Holds own_formats (content_of b) p.1 in
          let reads = reads_as (block_of h (n ∷ ns)) p.1 (block_reads h n ns st.read) (subst At (block_is h n ns st.ordered down same) p.2) in
          expected_stands s t h n ns p.1 st down same reads
          (e ∙ ap (λ (x : Station). record s { station = x; up = s.up ++ texts bs }) p.3 ∙ ap (λ x. record s { station = (hears s.station (Expected p.1)).station; up = s.up ++ x }) p.4)
      | inr p ↦
          other_stands s t h n ns st down (λ same. p.0 (ap (λ k. k % 16) same ∙ sym expects))
          (e ∙ ap (λ (x : Station). record s { station = x; up = s.up ++ texts bs }) p.1 ∙ ap (λ x. record s { station = (hears s.station Other).station; up = s.up ++ x }) p.2)
    ]

-- the oldest block comes changed
garbled_host : (l : Link) (ns : List ℕ) (answered : Bool) → host_of (link.garble l ns answered) ≡ host_of l
garbled_host l [] answered = refl
garbled_host l (n ∷ ns) true = refl
garbled_host l (n ∷ ns) false = refl

garbled_rest : (l : Link) (ns : List ℕ) (answered : Bool) → l.down ≡ ns
    → ((link.garble l ns answered).accepted ≡ l.accepted) × (map (text_at (link.garble l ns answered).blocks) (link.garble l ns answered).down ≡ drop 1 (map (text_at l.blocks) ns))
garbled_rest l [] answered e = (refl, ap (map (text_at l.blocks)) e)
garbled_rest l (n ∷ ns) true e = (refl, refl)
garbled_rest l (n ∷ ns) false e = (refl, refl)

-- what the board says of it, and whether it has said so
noise_station : (b : Rig) (k : ℕ) (answered : Bool) → (hears (station_of b k answered) Noise).station ≡ station_of b k true
noise_station b k true = refl
noise_station b k false = refl

noise_replies : (l : Link) (b : Rig) (n : ℕ) (ns : List ℕ) (answered : Bool)
    → map reply_text l.up ++ map block_of_reply (hears (station_of b l.accepted answered) Noise).replies ≡ map reply_text (link.garble l (n ∷ ns) answered).up
noise_replies l b n ns true = append-nil (map reply_text l.up)
noise_replies l b n ns false = sym (map-append reply_text l.up (last_reply l.accepted))

pub garbled_stands : (s t : SeenWorld) (h : Core) (n : ℕ) (ns : List ℕ) (new : Station) (bs : List (ArrayVec ℕ)) → WorldStandsFor s h → h.link.down ≡ n ∷ ns
    → HearsOne Bad s.station new [] bs → t ≡ record s { station = new; down = drop 1 s.down; up = s.up ++ texts bs } → WorldStandsFor t (after_event h Garble)
garbled_stands s t h n ns new bs st down heard e =
    let l = h.link in
    let is : s.station ≡ station_of h.board l.accepted h.spoilt = st.station in
    let one : new ≡ (hears s.station Noise).station = heard.station ∙ ap (λ ys. (hears_all s.station ys).station) heard.is in
    let added : texts bs ≡ map block_of_reply (hears s.station Noise).replies = added_by s.station Noise heard.heard bs heard.is heard.adds in
    let rest = garbled_rest l l.down h.spoilt refl in
    quiet_stands s t h Garble st refl refl refl
    (ap (λ (x : SeenWorld). x.host) e ∙ st.host ∙ sym (garbled_host l l.down h.spoilt))
    (ap (λ (x : SeenWorld). x.station) e ∙ one ∙ ap (λ (x : Station). (hears x Noise).station) is ∙ noise_station h.board l.accepted h.spoilt
    ∙ ap (λ d. station_of h.board l.accepted (unless_none d true h.spoilt)) (sym down))
    rest.0
    (ap (λ (x : SeenWorld). x.down) e ∙ ap (drop 1) st.down ∙ sym rest.1)
    (ap (λ (x : SeenWorld). x.up) e ∙ ap (λ us. us ++ texts bs) st.up ∙ ap (λ x. map reply_text l.up ++ x) (added ∙ ap (λ (x : Station). map block_of_reply (hears x Noise).replies) is)
    ∙ noise_replies l h.board n ns h.spoilt ∙ ap (λ d. map reply_text (link.garble l d h.spoilt).up) (sym down))
    (ap (λ (x : SeenWorld). x.pulses) e)

-- with nothing under way nothing comes
pub none_garbled_stands : (s t : SeenWorld) (h : Core) → WorldStandsFor s h → s.down ≡ [] → t ≡ s → WorldStandsFor t (after_event h Garble)
none_garbled_stands s t h st none e =
    let l = h.link in
    let gone : l.down ≡ [] = no_blocks l.blocks l.down (sym st.down ∙ none) in
    same_stands s t h Garble st refl refl refl (ap (λ ns. unless_none ns true h.spoilt) gone) (ap (λ ns. link.garble l ns h.spoilt) gone) e
  where
    no_blocks : (blocks : List (List Command)) (ns : List ℕ) → map (text_at blocks) ns ≡ [] → ns ≡ []
    no_blocks blocks [] e = refl
    no_blocks blocks (n ∷ ns) e = cc

-- to arrive is to come and to leave the line
pub arrive_is : (h : Core) → after_event (after_event h Repeat) Lose ≡ after_event h Arrive
arrive_is h =
    let l = h.link in
    let answers = map wire_text (does h Repeat).answers in
    let next : Core = after_event h Arrive in
    let lost : link.lose (link.repeat l l.down answers) (link.repeat l l.down answers).down ≡ link.lose (link.repeat l l.down answers) l.down =
    ap (λ d. link.lose (link.repeat l l.down answers) d) (repeat_down l l.down answers) in
    ap (λ (x : Link). record (after_event (after_event h Repeat) Lose) { link = x }) lost
    ∙ ap (λ (x : List Meant). record (after_event (after_event h Repeat) Lose) { link = next.link; queued = x }) (append-nil next.queued)
    ∙ ap (λ (x : List Meant). record (after_event (after_event h Repeat) Lose) { link = next.link; queued = next.queued; taken = x }) (append-nil next.taken)
    ∙ ap (λ (x : List Pulse). record next { made = x }) (append-nil next.made)

-- time that passes, and time that doesn't
made_last : (h : Core) (until : ℕ) → h.board.controller.tick ≤ until → last_by h (Pass until) ≡ (passes h.board until).pulses
made_last h until le = elim (leb_tells h.board.controller.tick until) [ inl p ↦ rw p.0 refl | inr p ↦ absurd (omega (arith, p.1, le)) ]

shut_early : (o : BoardState) (now until : ℕ) → until < now → says_shut o now until ≡ []
shut_early Running now until h = refl
shut_early (Shut reason tick first) now until h = elim (leb_tells (suc now) until) [ inl p ↦ absurd (omega (arith, p.1, h)) | inr p ↦ rw p.0 refl ]

not_run : (h : Core) (until : ℕ) → until < h.board.controller.tick → ((board_runs h.board until).board ≡ h.board) × ((board_runs h.board until).answers ≡ []) × (last_by h (Pass until) ≡ h.last)
not_run h until early =
    let b = h.board in
    elim (leb_tells b.controller.tick until) [
      | inl p ↦ absurd (omega (arith, p.1, early))
      | inr p ↦ rw p.0 (refl, shut_early (shut_before b.controller.state b.controller.tick) b.controller.tick until early, refl)
    ]

-- time passes
pub passed_stands : (s t : SeenWorld) (h : Core) (until : ℕ) (bs : List (ArrayVec ℕ)) → WorldStandsFor s h → s.station.rig.controller.tick ≤ until → AreReplies (replies_of s.station.expected (says s.station.rig until)) bs
    → t ≡ record s { station = record s.station { rig = (passes s.station.rig until).rig }; up = s.up ++ texts bs; pulses = (passes s.station.rig until).pulses }
    → WorldStandsFor t (after_event h (Pass until))
passed_stands s t h until bs st later replies e =
    let l = h.link in
    let answers = map wire_text (says h.board until) in
    let is : s.station ≡ station_of h.board l.accepted h.spoilt = st.station in
    let now : h.board.controller.tick ≤ until = subst (λ (x : Station). x.rig.controller.tick ≤ until) is later in
    record {
      host = ap (λ (x : SeenWorld). x.host) e ∙ st.host;
      station = ap (λ (x : SeenWorld). x.station) e ∙ ap (λ (x : Station). record x { rig = (passes x.rig until).rig }) is;
      down = ap (λ (x : SeenWorld). x.down) e ∙ st.down;
      up = ap (λ (x : SeenWorld). x.up) e ∙ ap (λ us. us ++ texts bs) st.up
          ∙ ap (λ x. map reply_text l.up ++ x) (replies_texts (replies_of s.station.expected (says s.station.rig until)) bs replies
          ∙ ap (λ (x : Station). map block_of_reply (replies_of x.expected (says x.rig until))) is ∙ numbered_texts l.accepted (says h.board until))
          ∙ sym (map-append reply_text l.up (numbered l.accepted answers));
      pulses = ap (λ (x : SeenWorld). x.pulses) e ∙ ap (λ (x : Station). (passes x.rig until).pulses) is ∙ sym (made_last h until now);
      ordered = ordered_by h (Pass until) st.ordered;
      read = rw (append-nil h.queued) st.read;
    }

-- what is said as time passes: what triggers tell, and the shutdown
pub said : (old new : Station) (until : ℕ) (before : BoardState) (from : ℕ) (none told bs : List (ArrayVec ℕ)) → before ≡ shut_before old.rig.controller.state old.rig.controller.tick → from ≡ old.rig.controller.tick
    → new ≡ record old { rig = (passes old.rig until).rig } → none ≡ [] → AddsReplies (replies_of old.expected (passes old.rig until).answers) none told → AddsReplies (replies_of new.expected (says_shut before from until)) told bs
    → AreReplies (replies_of old.expected (says old.rig until)) bs
said old new until before from none told bs shut tick passed e adds more =
    let at = old.rig.controller in
    let same : replies_of new.expected (says_shut before from until) ≡ replies_of old.expected (says_shut (shut_before at.state at.tick) at.tick until) =
    ap (λ (x : Station). replies_of x.expected (says_shut before from until)) passed ∙ ap (λ b. replies_of old.expected (says_shut b from until)) shut
    ∙ ap (λ k. replies_of old.expected (says_shut (shut_before at.state at.tick) k until)) tick in
    let first = replies_of old.expected (passes old.rig until).answers in
    let second = replies_of old.expected (says_shut (shut_before at.state at.tick) at.tick until) in
    let rest : AddsReplies second told bs = subst (λ (rs : List Reply). AddsReplies rs told bs) same more in
    let both : AddsReplies (first ++ second) none bs = adds_both first second none told bs adds rest in
    let all : both.0 ≡ bs = sym (both.2 ∙ ap (λ xs. xs ++ both.0) e) in
    subst (λ (rs : List Reply). AreReplies rs bs) (sym (replies_append old.expected (passes old.rig until).answers (says_shut (shut_before at.state at.tick) at.tick until)))
    (subst (λ (xs : List (ArrayVec ℕ)). AreReplies (first ++ second) xs) all both.1)

-- a board isn't run back
pub not_passed_stands : (s t : SeenWorld) (h : Core) (until : ℕ) → WorldStandsFor s h → until < s.station.rig.controller.tick → t ≡ s → WorldStandsFor t (after_event h (Pass until))
not_passed_stands s t h until st early e =
    let now : until < h.board.controller.tick = subst (λ (x : Station). until < x.rig.controller.tick) st.station early in
    let none = not_run h until now in
    record {
      host = ap (λ (x : SeenWorld). x.host) e ∙ st.host;
      station = ap (λ (x : SeenWorld). x.station) e ∙ st.station ∙ ap (λ b. station_of b h.link.accepted h.spoilt) (sym none.0);
      down = ap (λ (x : SeenWorld). x.down) e ∙ st.down;
      up = ap (λ (x : SeenWorld). x.up) e ∙ st.up ∙ ap (map reply_text) (sym (ap (λ (cs : List Cmd). h.link.up ++ numbered h.link.accepted (map wire_text cs)) none.1 ∙ append-nil h.link.up));
      pulses = ap (λ (x : SeenWorld). x.pulses) e ∙ st.pulses ∙ sym none.2;
      ordered = ordered_by h (Pass until) st.ordered;
      read = rw (append-nil h.queued) st.read;
    }

-- a board that tells nothing runs on
runs_if : (is : Bool) (o : BoardState) (b : Controller) (t : ℕ) → o ≡ Running → b.state ≡ Running → (if is then board.passes_on o b t else record { board = b; pulses = [] }).board.state ≡ Running
runs_if true Running b t e k = k
runs_if true (Shut reason tick first) b t e k = absurd (cc)
runs_if false o b t e k = k

pub still_runs : (r : Rig) (until : ℕ) → IsStill r until → (passes r until).rig.controller.state ≡ Running
still_runs r until s =
    let at = r.controller in
    ap (λ (p : Passed). p.rig.controller.state) (asleep_passes r until s.later s.asleep) ∙ runs_if (nat_le at.tick until) at.state at until s.runs s.runs

-- a board that runs, and whose triggers tell nothing, says nothing
pub none_said : (s : Station) (until : ℕ) → s.rig.controller.state ≡ Running → (passes s.rig until).answers ≡ [] → AreReplies (replies_of s.expected (says s.rig until)) []
none_said s until runs none =
    let at = s.rig.controller in
    let told = says_shut (shut_before at.state at.tick) at.tick until in
    let same : says s.rig until ≡ [] = ap (λ (cs : List Cmd). cs ++ told) none ∙ ap (λ b. says_shut (shut_before b at.tick) at.tick until) runs in
    subst (λ (cs : List Cmd). AreReplies (replies_of s.expected cs) []) (sym same) refl
