-- The parts of a turn in which a link rests: nothing is under way, and the board tells nothing.
use Rattle.std.proofs.Common.{◌≡◌, ℕ, Bool, true, false, List, [], ◌∷◌, ◌++◌, drop, length, refl, ap, sym, ◌∙◌, subst}
use Rattle.std.proofs.Math.Seq.{drop-length}
use Rattle.std.specs.Prelude.{◌&&◌}
use Rattle.link_core.specs.Host.{Host}
use Rattle.wire_scene.specs.declared.scene.Way.{Way}
use Rattle.wire_scene.specs.declared.scene.Way.TheVariants.{Down, Up}
use Rattle.wire_scene.specs.Wire.{Copy, Line, connect_if}
use Rattle.board_world.specs.declared.event.Event.TheVariants.{Pass}
use Rattle.board_world.specs.Stands.{SeenWorld, WorldStandsFor, blocks_of}
use Rattle.board_world.specs.World.{Core, Do, after_event, in_turn, run_world}
use Rattle.link_work.specs.Ends.{is_quiet_line}
use Rattle.link_work.specs.Told.{AddsNews, heard_in}
use Rattle.link_work.specs.Turn.{come, line_for, put_all, still}
use Rattle.plan_types.proofs.Facts.{both_parts}
use Rattle.link_work.proofs.Bounds.{quiet_line}
use Rattle.link_work.proofs.Hearing.{adds_none}
use Rattle.link_work.proofs.Parts.{BoardRan, RepliesCame, board_runs}

-- two quiet lines have no block under way
pub none_under_way : (down up : Line) (turn : ℕ) → is_quiet_line down turn && is_quiet_line up turn ≡ true → (down.copies ≡ []) × (up.copies ≡ [])
none_under_way down up turn quiet =
    let b = both_parts (is_quiet_line down turn) (is_quiet_line up turn) quiet in
    ((quiet_line down turn b.0).nothing, (quiet_line up turn b.1).nothing)

-- where connecting ends, lines stay quiet
opened_if : (was : Bool) (l : Line) (turn : ℕ) → is_quiet_line (connect_if was l) turn ≡ is_quiet_line l turn
opened_if true l turn = refl
opened_if false l turn = refl

opened : (connected : Bool) (l : Line) (turn : ℕ) → is_quiet_line (line_for connected l) turn ≡ is_quiet_line l turn
opened true l turn = opened_if l.connected l turn
opened false l turn = refl

pub opened_quiet : (connected : Bool) (down up d u : Line) (turn : ℕ) → d ≡ line_for connected down → u ≡ line_for connected up → is_quiet_line down turn && is_quiet_line up turn ≡ true → is_quiet_line d turn && is_quiet_line u turn ≡ true
opened_quiet connected down up d u turn e f quiet =
    let first = ap (λ (l : Line). is_quiet_line l turn) e ∙ opened connected down turn in
    let second = ap (λ (l : Line). is_quiet_line l turn) f ∙ opened connected up turn in
    ap (λ b. b && is_quiet_line u turn) first ∙ ap (λ b. is_quiet_line down turn && b) second ∙ quiet

-- nothing comes on a line on which no block is under way, and none stays
none_comes : (way : Way) (turn : ℕ) (s : SeenWorld) (l : Line) → l.copies ≡ [] → (h : Core) → WorldStandsFor s h → WorldStandsFor s (run_world (come way turn l.copies) h)
none_comes way turn s l none h st =
    let At : List Copy → Type 0 = λ cs. WorldStandsFor s (run_world (come way turn cs) h) in
    subst At (sym none) st

none_stays : (turn : ℕ) (l : Line) → l.copies ≡ [] → l ≡ record l { copies = still turn l.copies }
none_stays turn l none = ap (λ (cs : List Copy). record l { copies = cs }) (none ∙ sym (ap (still turn) none))

pub board_rested : (turn until : ℕ) (old s : SeenWorld) (down up : Line) → down.copies ≡ [] → s.up ≡ old.up
    → ((h : Core) → WorldStandsFor old h → WorldStandsFor s (after_event h (Pass until))) → BoardRan turn until old s down down up up
board_rested turn until old s down up none silent passed =
    let core = board_runs turn until down.copies old old s (none_comes Down turn old down none) passed in
    record {
      core = core;
      down = none_stays turn down none;
      up = λ h st.
          let same : blocks_of Up (run_world (come Down turn down.copies ++ Do (Pass until) ∷ []) h) ≡ blocks_of Up h = sym (core h st).up ∙ silent ∙ st.up in
          sym (ap (put_all up turn) (ap (drop (length (blocks_of Up h))) same ∙ drop-length (blocks_of Up h)));
    }

pub no_replies : (turn : ℕ) (s : SeenWorld) (up : Line) → up.copies ≡ [] → RepliesCame turn s s up up
no_replies turn s up none = record { core = none_comes Up turn s up none; line = none_stays turn up none }

pub none_heard : (turn : ℕ) (s : SeenWorld) (up : Line) → up.copies ≡ [] → (h : Core) → WorldStandsFor s h → AddsNews [] [] (heard_in (come Up turn up.copies) h)
none_heard turn s up none h st =
    let Adds : List Copy → Type 0 = λ cs. AddsNews [] [] (heard_in (come Up turn cs) h) in
    subst Adds (sym none) (adds_none [])

-- a turn that begins leaves a host at rest
pub idle_begun : (turn : ℕ) (old s : SeenWorld) (h : Core) → (old.host.waiting ≡ []) × (old.host.contents ≡ []) → WorldStandsFor old h → WorldStandsFor s (in_turn h turn) → (s.host.waiting ≡ []) × (s.host.contents ≡ [])
idle_begun turn old s h idle st begun = (
  ap (λ (x : Host). x.waiting) begun.host ∙ sym (ap (λ (x : Host). x.waiting) st.host) ∙ idle.0,
  ap (λ (x : Host). x.contents) begun.host ∙ sym (ap (λ (x : Host). x.contents) st.host) ∙ idle.1,
)
