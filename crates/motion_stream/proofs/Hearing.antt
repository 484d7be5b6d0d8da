-- What a machine takes: pieces of the text, and words.
use Rattle.std.proofs.Common.{◌≡◌, ℕ, ◌+◌, ◌*◌, ◌<◌, ◌≤◌, ◌^◌, Bool, true, false, not, map, max, List, [], ◌∷◌, ◌++◌, append-nil, append_assoc, length, length-append, refl, ap, sym, subst, ◌∙◌, arith, inl, inr}
use Rattle.std.proofs.Math.Logic.{∥∥₁_elim, ∥∥₁_map, ∥∥₁_prop}
use Rattle.std.proofs.lemmas.Grind.{merely}
use Rattle.std.proofs.lemmas.Bool.Decides.{leb_tells}
use Rattle.std.proofs.lemmas.List.Elements.{All-cons, All-nil}
use Rattle.std.specs.Prelude.{◌&&◌, nat_le, All, Option, Some, None, if◌then◌else◌, slice_index_or}
use Rattle.gcode_program.specs.declared.items.Item.{Item}
use Rattle.gcode_program.specs.declared.items.Item.TheVariants as items
use Rattle.gcode_program.specs.Items.{ending, items_of, moves_in}
use Rattle.msg_code.specs.declared.talk.WordMsg.{WordMsg}
use Rattle.plan_types.specs.declared.machine.Machine.{Machine}
use Rattle.plan_types.specs.declared.plan.Move.{Move}
use Rattle.plan_types.specs.declared.plan.ReadEnd.{ReadEnd}
use Rattle.section_feed.specs.declared.board.BoardStream.{BoardStream}
use Rattle.section_feed.specs.declared.section.SectionStream.{SectionStream}
use Rattle.section_feed.specs.On.{CanComplete}
use Rattle.section_feed.specs.Queues.{is_taking}
use Rattle.section_feed.proofs.Following.{section-sent}
use Rattle.section_feed.proofs.Soon.{section-soon}
use Rattle.clock_line.proofs.Turns.{tick_over-mono}
use Rattle.plan_types.specs.declared.plan.Held.{Held}
use Rattle.plan_types.specs.Clock.{turn_ns}
use Rattle.plan_types.specs.Lines.{Clocks, lines_tick}
use Rattle.plan_types.specs.Machines.{board_at}
use Rattle.plan_types.specs.Plan.{max_error}
use Rattle.plan_types.specs.Sections.{clocks_at, is_home, first_start}
use Rattle.motion_work.specs.Known.{AreHeldBy, lines_by}
use Rattle.motion_work.proofs.Staying.{lines_by_all}
use Rattle.section_feed.proofs.Telling.{batch-behind}
use Rattle.section_units.specs.Plans.{AreOnBoardsBy, AreSentOn}
use Rattle.section_units.specs.Sections.{AreBefore}
use Rattle.section_feed.specs.Rests.{AreAllRested}
use Rattle.section_feed.specs.Sections.{boards_in, next_of, queue_of}
use Rattle.section_stream.specs.Looking.{IsFuture}
use Rattle.step_feed.specs.Pacing.{Release, batch_at}
use Rattle.motion_work.specs.Feeds.{units_at}
use Rattle.motion_work.specs.Homes.{no_end}
use Rattle.motion_work.specs.Seen.{AreAllSent, AreDone, AreStarted, IsOpen, Started, ready_after, waits}
use Rattle.motion_work.specs.Told.{Told, heard, lines_in, tells_homed, told_at, told_of}
use Rattle.motion_work.proofs.Homing.{homed_cut}
use Rattle.motion_work.proofs.Sending.{sent_more}
use Rattle.motion_work.proofs.Telling.{board_clocks, told_of_are}
use Rattle.motion_work.proofs.Turning.{ready_more, started_more}
use Rattle.motion_work.specs.declared.told.BoardLine.{BoardLine}
use Rattle.motion_work.specs.Further.{WasHeard}
use Rattle.motion_stream.specs.declared.course.BoardLines.{BoardLines}
use Rattle.motion_stream.specs.declared.course.Course.{Course}
use Rattle.motion_stream.specs.declared.course.Open.{Open}
use Rattle.motion_stream.specs.declared.course.Open.TheVariants as opens
use Rattle.motion_stream.specs.declared.source.Source.{Source}
use Rattle.motion_stream.proofs.ByKind.{all_of, answered_board, answered_items, can, goes_beside, goes_longer, homes_on, laid_home, lines_home, planned_home, whole_moves}
use Rattle.motion_stream.proofs.Laid.{laid_later, laid_more}
use Rattle.motion_stream.specs.Courses.{AreLaid, AreAhead, HomesOn, IsConnected, IsCourseBy, IsCourseOf, BeginsNoEarlier, IsGoing, IsGoingOn, IsIdle, IsLater, KnowsConnecting, IsUptake, row_at}
use Rattle.motion_stream.specs.Gone.{HasHeardBy}
use Rattle.motion_stream.specs.Motions.{IsLonger, IsMore, started_until, begun_with, going_with, hears_answer, lines_kept, read_on, waits_by, with_answer, with_further, with_lines}
use Rattle.motion_stream.specs.Seen.{Going, Seen, count_of, items_read, sections_in}
use Rattle.motion_stream.specs.Texts.{HasGrown, IsSourceOf, ended_after, text_after}
use Rattle.motion_stream.proofs.Drawing.{boards_in_all, later_easy, units_snoc, uptake_kept}
use Rattle.motion_stream.proofs.Opening.{source_on}
use Rattle.plan_types.proofs.Facts.{true_false, both_parts, some_same, none_some, not_not}
use Rattle.motion_stream.proofs.Limits.{moves_join}

-- the next section starts no sooner, whatever is read
grown_later : (turn ready : ℕ) (end : Option ReadEnd) (its : List Item) (old new : Source) → old.end ≡ end → old.items.items ≡ its → HasGrown old new → IsLater turn turn ready end its → IsLater turn turn ready new.end new.items.items
grown_later turn ready None [] old new e i grown l = later_easy turn turn ready new.end new.items.items l l
grown_later turn ready (Some x) [] old new e i grown l =
    let over = grown.over x e in
    let none : new.items.items ≡ [] = grown.are ∙ ap (λ is. is ++ grown.more) i ∙ over.0 in
    subst (λ r. IsLater turn turn ready r new.items.items) (sym over.1) (subst (λ (is : List Item). IsLater turn turn ready (Some x) is) (sym none) tt)
grown_later turn ready end (items.Begin kind dwell ∷ its) old new e i grown l =
    let at : new.items.items ≡ items.Begin kind dwell ∷ (its ++ grown.more) = grown.are ∙ ap (λ is. is ++ grown.more) i in
    subst (IsLater turn turn ready new.end) (sym at) (same end new.end l)
  where
    same : (a b : Option ReadEnd) → IsLater turn turn ready a (items.Begin kind dwell ∷ its) → IsLater turn turn ready b (items.Begin kind dwell ∷ (its ++ grown.more))
    same None None h = h
    same None (Some y) h = h
    same (Some y) None h = h
    same (Some y) (Some z) h = h
grown_later turn ready end (items.Move one ∷ its) old new e i grown l =
    let at : new.items.items ≡ items.Move one ∷ (its ++ grown.more) = grown.are ∙ ap (λ is. is ++ grown.more) i in
    subst (IsLater turn turn ready new.end) (sym at) (any new.end)
  where
    any : (b : Option ReadEnd) → IsLater turn turn ready b (items.Move one ∷ (its ++ grown.more))
    any None = tt
    any (Some z) = tt
grown_later turn ready end (items.End ∷ its) old new e i grown l =
    let at : new.items.items ≡ items.End ∷ (its ++ grown.more) = grown.are ∙ ap (λ is. is ++ grown.more) i in
    subst (IsLater turn turn ready new.end) (sym at) (any new.end)
  where
    any : (b : Option ReadEnd) → IsLater turn turn ready b (items.End ∷ (its ++ grown.more))
    any None = tt
    any (Some z) = tt

-- what is the same where a piece is read
pub record IsBeside (old new : Course) : Type 0 where
  pub read : new.read ≡ old.read
  pub connected : new.connected ≡ old.connected
  pub lines : new.lines ≡ old.lines
  pub ready : new.ready ≡ old.ready
  pub start : new.start ≡ old.start
  pub place : new.place ≡ old.place
  pub goes : new.goes ≡ old.goes
  pub ahead : new.ahead ≡ old.ahead
  pub next : new.next ≡ old.next

told_beside : (m : Machine) (old new : Course) (told : Option Told) (begun : List Started) (going more : Option Going) → IsBeside old new → (more ≡ None → going ≡ None) → (going ≡ None → more ≡ None) → KnowsConnecting m old told begun going → KnowsConnecting m new told begun more
told_beside m old new None begun going more b back on h = (b.connected ∙ h.0, h.1, on h.2)
told_beside m old new (Some t) begun going more b back on h = record {
  connected = b.connected ∙ h.connected;
  lines = ap (λ x. x.each.items) b.lines ∙ h.lines;
  ready = λ e. b.ready ∙ h.ready (back e);
  started = h.started;
  sent = h.sent;
  clocks = h.clocks;
  laid = laid_later m t.clocks (old.next + 268) (new.next + 268) begun (let e = b.next in omega (arith, e)) h.laid;
  first = h.first;
  late = h.late;
}

-- the sections are the same where none takes moves
pub idle_beside : (m : Machine) (old new : Course) (begun : List Started) (going : Option Going) → IsBeside old new → IsIdle m old begun going → IsIdle m new begun going
idle_beside m old new begun going b i = record {
  none = i.none;
  goes = subst (λ g. IsOpen g new.next begun) (sym b.goes) (subst (λ n. IsOpen old.goes n begun) (sym b.next) i.goes);
  ahead = subst (λ a. AreAhead m a.items new.next begun) (sym b.ahead) (subst (λ n. AreAhead m old.ahead.items n begun) (sym b.next) i.ahead);
}

same_more : (going : Option Going) → IsMore going going
same_more None = tt
same_more (Some g) = record { kind = refl; dwell = refl; start = refl; last = refl; moving = refl; released = refl; moves = λ all f. f }

-- a piece is read, and no section takes moves of it
pub text_passed : (m : Machine) (old new : Course) (seen : Seen) (bytes : List ℕ) (end : Bool) → IsBeside old new → (IsGoing m old.current old seen.told seen.begun seen.going → IsGoing m new.current new seen.told seen.begun seen.going)
    → ((text : List ℕ) (ended : Bool) (told : List Item) → IsSourceOf m old.source text ended told → IsSourceOf m new.source (text_after text ended bytes) (ended_after ended end) told) → (BeginsNoEarlier old.current (old.next + 260) (old.next + 260) old → BeginsNoEarlier new.current (new.next + 260) (new.next + 260) new) → IsCourseOf m old seen
    → (going : Option Going) × IsMore seen.going going × IsCourseOf m new (read_on seen bytes end going)
text_passed m old new seen bytes end b goes reads early h =
    let few = h.few in
    let p = b.place in
    let n = b.next in (
      seen.going,
      same_more seen.going,
      record {
        machine = h.machine;
        source = reads seen.text seen.ended (items_read seen.begun seen.going) h.source;
        read = b.read ∙ h.read;
        told = told_beside m old new seen.told seen.begun seen.going seen.going b (λ e. e) (λ e. e) h.told;
        next = b.next ∙ h.next;
        small = let s = h.small in omega (arith, s, n);
        place = b.place ∙ h.place;
        few = omega (arith, few, p, n);
        going = goes h.going;
        early = early h.early;
        uptake = uptake_kept old new (old.next + 260) (new.next + 260) seen.fresh b.connected b.lines (let e = b.next in omega (arith, e)) h.uptake;
      },
    )

pub nothing_early : (old new : Course) → IsBeside old new → HasGrown old.source new.source → (old.connected ≡ true → IsLater (old.next + 260) (old.next + 260) old.ready old.source.end old.source.items.items)
    → new.connected ≡ true → IsLater (new.next + 260) (new.next + 260) new.ready new.source.end new.source.items.items
nothing_early old new b grown l on =
    subst (λ n. IsLater (n + 260) (n + 260) new.ready new.source.end new.source.items.items) (sym b.next) (subst (λ r. IsLater (old.next + 260) (old.next + 260) r new.source.end new.source.items.items) (sym b.ready)
    (grown_later (old.next + 260) old.ready old.source.end old.source.items.items old.source new.source refl refl grown (l (sym b.connected ∙ on))))

-- moves that a section takes
abbrev pub longer : Going → List Move → Bool → Going
longer g more ends = record { kind = g.kind; dwell = g.dwell; start = g.start; moves = g.moves ++ more; goes = not ends; last = g.last; moving = g.moving; released = g.released }

longer_is : (g : Going) (more : List Move) (ends : Bool) → g.goes ≡ true → IsLonger g (longer g more ends)
longer_is g more ends on = record { kind = refl; dwell = refl; start = refl; last = refl; moving = refl; released = refl; moves = λ all f. subst (λ b. IsFuture b g.moves all) (sym on) (by_end ends all f) } where
  by_end : (e : Bool) (all : List Move) → IsFuture (not e) (g.moves ++ more) all → IsFuture true g.moves all
  by_end true all f = (more, f)
  by_end false all f = (more ++ f.0, f.1 ∙ append_assoc g.moves more f.0)

longer_items : (begun : List Started) (g : Going) (more : List Move) (ends : Bool) (waiting left : List Item) → g.goes ≡ true → waiting ≡ (moves_in more ++ ending ends) ++ left
    → items_read begun (Some g) ++ waiting ≡ items_read begun (Some (longer g more ends)) ++ left
longer_items begun g more ends waiting left on is =
    let front = items_of (sections_in begun) in
    let head : List Item → List Item = λ x. items.Begin g.kind g.dwell ∷ x in
    let a : items_read begun (Some g) ≡ front ++ head (moves_in g.moves) = ap (λ b. front ++ head (moves_in g.moves ++ ending (not b))) on ∙ ap (λ x. front ++ head x) (append-nil (moves_in g.moves)) in
    let b : items_read begun (Some (longer g more ends)) ≡ front ++ head (moves_in g.moves ++ (moves_in more ++ ending ends)) = ap (λ x. front ++ head (x ++ ending (not (not ends)))) (moves_join g.moves more) ∙ ap (λ e. front ++ head ((moves_in g.moves ++ moves_in more) ++ ending e)) (not_not ends)
    ∙ ap (λ x. front ++ head x) (append_assoc (moves_in g.moves) (moves_in more) (ending ends)) in
    ap (λ x. x ++ waiting) a ∙ append_assoc front (head (moves_in g.moves)) waiting ∙ ap (λ x. front ++ (head (moves_in g.moves) ++ x)) is
    ∙ ap (λ x. front ++ head x) (sym (append_assoc (moves_in g.moves) (moves_in more ++ ending ends) left)) ∙ sym (append_assoc front (head (moves_in g.moves ++ (moves_in more ++ ending ends))) left) ∙ ap (λ x. x ++ left) (sym b)

going_beside : (m : Machine) (s : SectionStream) (homes : Bool) (old new : Course) (told : Option Told) (begun : List Started) (going : Option Going) → IsBeside old new → IsGoingOn m s homes old told begun going → IsGoingOn m s homes new told begun going
going_beside m s homes old new told begun going b i =
    let n = b.next in
    let x = i.next in
    let soon = i.soon in
    record {
      g = i.g;
      is = i.is;
      homes_is = i.homes_is;
      t = i.t;
      told_is = i.told_is;
      on = i.on;
      start = i.start;
      start_is = b.start ∙ i.start_is;
      soon = omega (arith, soon, n);
      takes = i.takes;
      next = omega (arith, x, n);
      done = subst (λ y. AreDone y begun) (sym n) i.done;
      goes_as = goes_beside i.g.kind m i.t.clocks old.next new.next i.g n i.goes_as;
      fresh = λ e. i.fresh (omega (arith, e, n));
      rested = λ e. i.rested (omega (arith, e, n));
      before = λ y. subst (λ z. AreBefore z (i.g.released y)) (sym n) (i.before y);
      ahead = subst (λ a. AreAhead m a.items new.next begun) (sym b.ahead) (subst (λ y. AreAhead m old.ahead.items y begun) (sym b.next) i.ahead);
    }

-- a piece is read while a section goes on
pub text_heard : (m : Machine) (old mid new : Course) (s later : SectionStream) (homes : Bool) (seen : Seen) (bytes : List ℕ) (end : Bool) → IsBeside old new → old.current ≡ opens.Goes s homes → new.current ≡ opens.Goes later homes
    → ((text : List ℕ) (ended : Bool) (told : List Item) → IsSourceOf m old.source text ended told → IsSourceOf m mid.source (text_after text ended bytes) (ended_after ended end) told)
    → new.source.reader ≡ mid.source.reader → new.source.end ≡ mid.source.end → new.source.ended ≡ mid.source.ended → new.source.opened ≡ mid.source.opened → HasHeardBy (is_taking (queue_of s)) s later mid.source.items.items new.source.items.items → IsCourseOf m old seen
    → (going : Option Going) × IsMore seen.going going × IsCourseOf m new (read_on seen bytes end going)
text_heard m old mid new s later homes seen bytes end b was now reads reader stop over opened heard_is h =
    let i : IsGoingOn m s homes old seen.told seen.begun seen.going = subst (λ o. IsGoing m o old seen.told seen.begun seen.going) was h.going in
    by_taking (is_taking (queue_of s)) refl heard_is i
  where
    few : new.place + 260 ≤ new.next + 260
    few = let f = h.few in let p = b.place in let n = b.next in omega (arith, f, p, n)

    small : new.next ≤ 2 ^ 42
    small = let f = h.small in let n = b.next in omega (arith, f, n)

    by_taking : (taking : Bool) → is_taking (queue_of s) ≡ taking → HasHeardBy taking s later mid.source.items.items new.source.items.items → IsGoingOn m s homes old seen.told seen.begun seen.going → (going : Option Going) × IsMore seen.going going × IsCourseOf m new (read_on seen bytes end going)
    by_taking false t same i =
        let its : seen.going ≡ Some i.g = i.is in (
          seen.going,
          same_more seen.going,
          record {
            machine = h.machine;
            source = source_on m mid.source new.source (text_after seen.text seen.ended bytes) (ended_after seen.ended end) (items_read seen.begun seen.going) (items_read seen.begun seen.going) reader stop over opened (ap (λ x. items_read seen.begun seen.going ++ x) (sym same.1)) (reads seen.text seen.ended (items_read seen.begun seen.going) h.source);
            read = b.read ∙ h.read;
            told = told_beside m old new seen.told seen.begun seen.going seen.going b (λ e. e) (λ e. e) h.told;
            next = b.next ∙ h.next;
            small = small;
            place = b.place ∙ h.place;
            few = few;
            going = subst (λ o. IsGoing m o new seen.told seen.begun seen.going) (sym now) (subst (λ x. IsGoingOn m x homes new seen.told seen.begun seen.going) (sym same.0) (going_beside m s homes old new seen.told seen.begun seen.going b i));
            early = subst (λ o. BeginsNoEarlier o (new.next + 260) (new.next + 260) new) (sym now) (λ on. absurd (true_false (sym on ∙ ap (λ (x : SectionStream). is_taking (queue_of x)) same.0 ∙ t)));
            uptake = uptake_kept old new (old.next + 260) (new.next + 260) seen.fresh b.connected b.lines (let e = b.next in omega (arith, e)) h.uptake;
          },
        )
    by_taking true t all i =
        let taken = all.taken in
        let g = i.g in
        let g' = longer g taken.more taken.ends in
        let on : g.goes ≡ true = sym i.takes ∙ t in
        let n = b.next in
        let x = i.next in
        let y = taken.next in
        let soon = i.soon in (
          Some g',
          subst (λ o. IsMore o (Some g')) (sym i.is) (longer_is g taken.more taken.ends on),
          record {
            machine = h.machine;
            source = source_on m mid.source new.source (text_after seen.text seen.ended bytes) (ended_after seen.ended end) (items_read seen.begun seen.going) (items_read seen.begun (Some g')) reader stop over opened
                (ap (λ o. items_read seen.begun o ++ mid.source.items.items) i.is ∙ longer_items seen.begun g taken.more taken.ends mid.source.items.items new.source.items.items on taken.items_are) (reads seen.text seen.ended (items_read seen.begun seen.going) h.source);
            read = b.read ∙ h.read;
            told = told_beside m old new seen.told seen.begun seen.going (Some g') b (λ e. absurd (none_some g' (sym e))) (λ e. absurd (none_some g (sym e ∙ i.is))) h.told;
            next = b.next ∙ h.next;
            small = small;
            place = b.place ∙ h.place ∙ ap (count_of seen.begun) i.is;
            few = few;
            going = subst (λ o. IsGoing m o new seen.told seen.begun (Some g')) (sym now) (record {
              g = g';
              is = refl;
              homes_is = i.homes_is;
              t = i.t;
              told_is = i.told_is;
              on = taken.on m i.t.clocks g.start homes g.moves g.released i.on;
              start = i.start;
              start_is = b.start ∙ i.start_is;
              soon = omega (arith, soon, n);
              takes = taken.takes;
              next = omega (arith, x, n, y);
              done = subst (λ z. AreDone z seen.begun) (sym n) i.done;
              goes_as = goes_beside g.kind m i.t.clocks old.next new.next g' n (goes_longer g.kind m i.t.clocks old.next g g' on (longer_is g taken.more taken.ends on).moves refl refl refl i.goes_as);
              fresh = λ e. i.fresh (omega (arith, e, n));
              rested = λ e. subst (λ (bs : List BoardStream). AreAllRested (next_of later + 250) bs) (sym taken.boards) (subst (λ z. AreAllRested (z + 250) (boards_in s)) (sym y) (i.rested (omega (arith, e, n))));
              before = λ z. subst (λ w. AreBefore w (g.released z)) (sym n) (i.before z);
              ahead = subst (λ a. AreAhead m a.items new.next seen.begun) (sym b.ahead) (subst (λ z. AreAhead m old.ahead.items z seen.begun) (sym b.next) i.ahead);
            });
            early = subst (λ o. BeginsNoEarlier o (new.next + 260) (new.next + 260) new) (sym now) all.stops;
            uptake = uptake_kept old new (old.next + 260) (new.next + 260) seen.fresh b.connected b.lines (let e = b.next in omega (arith, e)) h.uptake;
          },
        )

-- lines that a word tells where they are known
heard_known : (m : Machine) (next : ℕ) (w : WordMsg) (told : Option Told) (c : Course) (begun : List Started) (going : Option Going) → c.connected ≡ true → KnowsConnecting m c told begun going → heard m next w told ≡ told
heard_known m next w None c begun going on h = absurd (true_false (sym on ∙ h.0))
heard_known m next w (Some t) c begun going on h = refl

with_told : (m : Machine) (c : Course) (seen : Seen) (told : Option Told) → told ≡ seen.told → IsCourseOf m c seen → IsCourseOf m c (record { text = seen.text; ended = seen.ended; read = seen.read; told = told; fresh = seen.fresh; next = seen.next; begun = seen.begun; going = seen.going })
with_told m c seen told e h = record {
  machine = h.machine;
  source = h.source;
  read = h.read;
  told = subst (λ x. KnowsConnecting m c x seen.begun seen.going) (sym e) h.told;
  next = h.next;
  small = h.small;
  place = h.place;
  few = h.few;
  going = subst (λ x. IsGoing m c.current c x seen.begun seen.going) (sym e) h.going;
  early = h.early;
  uptake = h.uptake;
}

pub lines_known : (m : Machine) (c : Course) (seen : Seen) (w : WordMsg) → c.connected ≡ true → IsCourseOf m c seen → IsCourseOf m c (with_lines m seen w)
lines_known m c seen w on h = with_told m c seen (heard m seen.next w seen.told) (heard_known m seen.next w seen.told c seen.begun seen.going on h.told) h

unknown : (m : Machine) (told : Option Told) (c : Course) (begun : List Started) (going : Option Going) → c.connected ≡ false → KnowsConnecting m c told begun going → (told ≡ None) × (begun ≡ []) × (going ≡ None)
unknown m None c begun going off h = (refl, h.1, h.2)
unknown m (Some t) c begun going off h = absurd (true_false (sym h.connected ∙ off))

-- no lines are told
pub lines_none : (m : Machine) (c : Course) (seen : Seen) (w : WordMsg) → c.connected ≡ false → told_of m w ≡ None → IsCourseOf m c seen → IsCourseOf m c (with_lines m seen w)
lines_none m c seen w off none h =
    let u = unknown m seen.told c seen.begun seen.going off h.told in
    with_told m c seen (heard m seen.next w seen.told) (ap (heard m seen.next w) u.0 ∙ ap (told_at (max seen.next w.turn)) none ∙ sym u.0) h

idle_going : (m : Machine) (o : Open) (old new : Course) (told more : Option Told) (begun : List Started) (going : Option Going) → begun ≡ [] → going ≡ None → old.goes ≡ new.goes → old.next ≡ new.next → old.ahead ≡ new.ahead → IsGoing m o old told begun going → IsGoing m o new more begun going
idle_going m opens.Nothing old new told more begun going none nil goes next ahead h = record {
  none = h.none;
  goes = subst (λ g. IsOpen g new.next begun) goes (subst (λ n. IsOpen old.goes n begun) next h.goes);
  ahead = subst (λ a. AreAhead m a.items new.next begun) ahead (subst (λ n. AreAhead m old.ahead.items n begun) next h.ahead);
}
idle_going m (opens.Goes s homes) old new told more begun going none nil goes next ahead h = absurd (none_some h.g (sym nil ∙ h.is))

any_early : (m : Machine) (o : Open) (old c : Course) (told : Option Told) (begun : List Started) (going : Option Going) (turn : ℕ) → IsGoing m o old told begun going → going ≡ None → turn ≤ c.ready → BeginsNoEarlier o turn turn c
any_early m opens.Nothing old c told begun going turn i none le = λ on. later_easy turn turn c.ready c.source.end c.source.items.items le le
any_early m (opens.Goes s homes) old c told begun going turn i none le = absurd (none_some i.g (sym none ∙ i.is))

-- lines are told
pub lines_told : (m : Machine) (old new : Course) (seen : Seen) (w : WordMsg) → old.connected ≡ false → told_of m w ≡ Some new.lines.each.items → new.lines.waiting ≡ old.lines.waiting → new.ready ≡ first_start (max old.next w.turn) → new.connected ≡ true → new.source ≡ old.source → new.read ≡ old.read → new.place ≡ old.place → new.goes ≡ old.goes → new.current ≡ old.current
    → new.ahead ≡ old.ahead → new.next ≡ old.next → IsCourseOf m old seen → IsCourseOf m new (with_lines m seen w)
lines_told m old new seen w off told waiting ready on source read place goes current ahead next h =
    let u = unknown m seen.told old seen.begun seen.going off h.told in
    let t : Told = record { first = first_start (max seen.next w.turn); clocks = new.lines.each.items } in
    let heard_is : heard m seen.next w seen.told ≡ Some t = ap (heard m seen.next w) u.0 ∙ ap (told_at (max seen.next w.turn)) told in
    let n = h.next in
    let first : new.ready ≡ t.first = ready ∙ ap (λ x. first_start (max x w.turn)) n in
    let are = told_of_are m w new.lines.each.items t.first h.machine (omega arith) told in
    let few = h.few in
    let small = h.small in
    record {
      machine = h.machine;
      source = subst (λ s. IsSourceOf m s seen.text seen.ended (items_read seen.begun seen.going)) (sym source) h.source;
      read = read ∙ h.read;
      told = subst (λ x. KnowsConnecting m new x seen.begun seen.going) (sym heard_is) (record {
        connected = on;
        lines = refl;
        ready = λ e. first ∙ sym (ap (ready_after t.first) u.1);
        started = merely (subst (AreStarted m t.clocks t.first) (sym u.1) tt);
        sent = merely (subst (AreAllSent m t.clocks) (sym u.1) tt);
        clocks = board_clocks m new.lines.each.items t.first are.1;
        laid = subst (AreLaid m t.clocks (new.next + 268)) (sym u.1) tt;
        first = omega arith;
        late = let e = ap (ready_after t.first) u.1 in omega (arith, e);
      });
      next = next ∙ h.next;
      small = omega (arith, small, next);
      place = place ∙ h.place;
      few = omega (arith, few, place, next);
      going = subst (λ o. IsGoing m o new (heard m seen.next w seen.told) seen.begun seen.going) (sym current) (idle_going m old.current old new seen.told (heard m seen.next w seen.told) seen.begun seen.going u.1 u.2 (sym goes) (sym next) (sym ahead) h.going);
      early = subst (λ o. BeginsNoEarlier o (new.next + 260) (new.next + 260) new) (sym current) (any_early m old.current old new seen.told seen.begun seen.going (new.next + 260) h.going u.2 (omega (arith, ready, next)));
      uptake = record {
        waiting = ap (λ v. v.items) waiting ∙ h.uptake.waiting;
        none = λ no. absurd (true_false (sym on ∙ no));
        held = λ b lt. subst (λ (hs : List Held). AreHeldBy (new.next + 260 + 16) hs) (sym (are.1.alone b (let count = are.1.count in omega (arith, lt, count)))) tt;
      };
    }

-- an answer
abbrev with_ended : Seen → Option Started → Seen
with_ended seen o = record { text = seen.text; ended = seen.ended; read = seen.read; told = seen.told; fresh = seen.fresh; next = seen.next; begun = begun_with seen.begun o; going = going_with seen.going o }

-- whether a section waits for it
waiting_is : (m : Machine) (s : SectionStream) (homes : Bool) (c : Course) (told : Option Told) (begun : List Started) (going : Option Going) (i : IsGoingOn m s homes c told begun going) (next : ℕ) → c.next ≡ next → (homes && nat_le c.start c.next) ≡ (is_home i.g.kind && nat_le i.g.start next)
waiting_is m s homes c told begun going i next at = ap (λ b. b && nat_le c.start c.next) i.homes_is ∙ ap (λ n. is_home i.g.kind && nat_le n c.next) i.start_is ∙ ap (λ n. is_home i.g.kind && nat_le i.g.start n) at

-- a word that answers no section that waits
unheard : (m : Machine) (o : Open) (c : Course) (told : Option Told) (begun : List Started) (going : Option Going) (next : ℕ) → waits_by o c.start c.next ≡ false → IsGoing m o c told begun going → c.next ≡ next → hears_answer m next going ≡ None
unheard m opens.Nothing c told begun going next w i at = ap (hears_answer m next) i.none
unheard m (opens.Goes s homes) c told begun going next w i at =
    ap (hears_answer m next) i.is ∙ ap (λ (b : Bool). if b then Some (started_until m next i.g) else None) (sym (waiting_is m s homes c told begun going i next at) ∙ w)

pub none_heard : (m : Machine) (c : Course) (seen : Seen) (w : WordMsg) → (tells_homed w.news && waits_by c.current c.start c.next) ≡ false → IsCourseOf m c seen → IsCourseOf m c (with_answer m seen w)
none_heard m c seen w e h = subst (λ (o : Option Started). IsCourseOf m c (with_ended seen o)) (sym (by (tells_homed w.news) e)) h where
  by : (t : Bool) → (t && waits_by c.current c.start c.next) ≡ false → (if t then hears_answer m seen.next seen.going else None) ≡ None
  by false f = refl
  by true f = unheard m c.current c seen.told seen.begun seen.going seen.next f h.going h.next

-- what a section that homes has released ends before a line may hold that is taken up from the next turn on
near_end : (m : Machine) (s : SectionStream) (old : Course) (seen : Seen) (i : IsGoingOn m s true old seen.told seen.begun seen.going) → i.g.start ≤ seen.next → old.next ≡ seen.next → (b : ℕ) → b < length m.boards
    → All (λ (r : Release). r.unit.last + max_error (board_at m b).freq < lines_tick (clocks_at i.t.clocks b) ((seen.next + 270) * turn_ns)) (i.g.released b)
near_end m s old seen i began at b lt =
    let g = i.g in
    let clocks = clocks_at i.t.clocks b in
    let may = i.on.may_start b lt in
    let begun = may.begun in
    let its = i.next in
    let now : next_of s ≡ seen.next = omega (arith, its, at, began) in
    let soon = section-soon m i.t.clocks g.start true s g.moves g.released b i.on lt in
    let freq : max_error clocks.first.freq ≡ max_error (board_at m b).freq = ap max_error (i.on.freq b lt) in
    let apart = may.lasting.apart.turns (seen.next + 260) (omega (arith, begun, began)) in
    let far : (seen.next + 260 + 6) * turn_ns ≤ (seen.next + 270) * turn_ns = omega arith in
    let up = tick_over-mono clocks.first 0 clocks.held ((seen.next + 260 + 6) * turn_ns) ((seen.next + 270) * turn_ns) far in
    let e = ap (λ n. lines_tick clocks ((n + 260) * turn_ns)) now in
    λ k d l. (let one = soon k d l in omega (arith, one, e, freq, apart, up))

-- the section that ends by an answer
pub answer_told : (m : Machine) (s : SectionStream) (old new : Course) (seen : Seen) (i : IsGoingOn m s true old seen.told seen.begun seen.going) → i.g.start ≤ old.next → old.next ≤ 2 ^ 42 → new.current ≡ opens.Nothing → new.goes ≡ true → new.ready ≡ old.next + 260 → new.connected ≡ old.connected → new.lines ≡ old.lines
    → new.source ≡ old.source → new.read ≡ old.read → new.place ≡ old.place → new.ahead ≡ old.ahead → new.next ≡ old.next → IsCourseOf m old seen → IsCourseOf m new (with_ended seen (Some (started_until m seen.next i.g)))
answer_told m s old new seen i began small nothing goes ready on lines source read place ahead next h =
    let g = i.g in
    let same = h.next in
    let x = started_until m seen.next g in
    let begun = seen.begun ++ x ∷ [] in
    let few = h.few in
    let p = place in
    let home : is_home g.kind ≡ true = sym i.homes_is in
    let homes = homes_on g.kind m i.t.clocks old.next g home i.goes_as in
    let st : g.start ≤ seen.next = omega (arith, began, same) in
    let tiny : seen.next < no_end = omega (arith, small, same) in
    record {
      machine = h.machine;
      source = subst (λ z. IsSourceOf m z seen.text seen.ended (items_read begun None)) (sym source) (subst (λ (is : List Item). IsSourceOf m old.source seen.text seen.ended is) (ap (items_read seen.begun) i.is ∙ sym (answered_items seen.begun g x homes.whole refl)) h.source);
      read = read ∙ h.read;
      told = told_by seen.told i.told_is homes home st tiny h.told;
      next = next ∙ h.next;
      small = omega (arith, small, next);
      place = place ∙ h.place ∙ ap (count_of seen.begun) i.is ∙ sym (length-append seen.begun (x ∷ []));
      few = omega (arith, few, p, next);
      going = subst (λ o. IsGoing m o new seen.told begun None) (sym nothing) (record {
        none = refl;
        goes = subst (λ b. IsOpen b new.next begun) (sym goes) (seen.begun, x, refl, subst (λ n. AreDone n seen.begun) (sym next) i.done, omega (arith, next, same), st);
        ahead = record {
          units = λ j b lt.
              let gone : batch_at (new.next + j) (slice_index_or x.boards b []) ≡ [] = ap (batch_at (new.next + j)) (answered_board m seen.next g b lt) ∙ batch-behind (new.next + j) old.next (g.released b) (omega (arith, next)) (i.before b) in
              units_snoc seen.begun x b (new.next + j) ∙ ap (λ us. units_at b (new.next + j) (boards_in_all seen.begun) ++ us) gone ∙ append-nil (units_at b (new.next + j) (boards_in_all seen.begun))
              ∙ ap (λ n. units_at b (n + j) (boards_in_all seen.begun)) next ∙ i.ahead.units j b lt ∙ ap (λ a. row_at a.items j b) (sym ahead);
        };
      });
      early = subst (λ o. BeginsNoEarlier o (new.next + 260) (new.next + 260) new) (sym nothing) (λ c. later_easy (new.next + 260) (new.next + 260) new.ready new.source.end new.source.items.items (omega (arith, ready, next)) (omega (arith, ready, next)));
      uptake = uptake_kept old new (old.next + 260) (new.next + 260) seen.fresh on lines (omega (arith, next)) h.uptake;
    }
  where
    told_by : (told : Option Told) → told ≡ Some i.t → HomesOn m i.t.clocks i.g → is_home i.g.kind ≡ true → i.g.start ≤ seen.next → seen.next < no_end → KnowsConnecting m old told seen.begun seen.going → KnowsConnecting m new told (seen.begun ++ started_until m seen.next i.g ∷ []) None
    told_by None e homes home st tiny c = absurd (none_some i.t e)
    told_by (Some u) e homes home st tiny d =
        let g = i.g in
        let t = i.t in
        let x = started_until m seen.next g in
        let c : IsConnected m old t seen.begun seen.going = subst (λ (z : Told). IsConnected m old z seen.begun seen.going) (some_same u t e) d in
        let r = ready_more t.first seen.begun x in
        let at = h.next in
        let start = i.start in
        let late = c.late in
        let future = whole_moves g.goes g.moves in
        let held : map (lines_by (seen.next + 276)) t.clocks ≡ t.clocks =
        lines_by_all t.clocks (seen.next + 276) (subst (λ (cs : List Clocks). (b : ℕ) → b < length cs → AreHeldBy (seen.next + 276) (clocks_at cs b).held) c.lines
        (λ b lt. subst (λ n. AreHeldBy n (clocks_at old.lines.each.items b).held) (let e : old.next + 260 + 16 ≡ seen.next + 276 = omega (arith, at) in e) (h.uptake.held b lt))) in
        let By : List Clocks → Type 0 = λ cs. (planned : List (List Release)) → AreOnBoardsBy true m cs g.moves g.start planned → AreOnBoardsBy true m (map (lines_by (seen.next + 276)) t.clocks) g.moves g.start planned in
        let by_held : By t.clocks = subst By held (λ planned are. are) in
        subst (λ (z : Told). IsConnected m new z (seen.begun ++ x ∷ []) None) (sym (some_same u t e)) (record {
          connected = on ∙ c.connected;
          lines = ap (λ l. l.each.items) lines ∙ c.lines;
          ready = λ none. omega (arith, ready, r, at);
          started = ∥∥₁_elim c.started ∥∥₁_prop (λ all. ∥∥₁_map (homed_cut m t.clocks g.moves g.start seen.next g.released (λ b. subst (λ n. AreBefore n (g.released b)) at (i.before b))
              (λ b lt. subst (λ n. ∥ CanComplete true m t.clocks g.moves g.start b n (g.released b) ∥₁) at (can m s true old seen.told seen.begun seen.going i g.moves future b lt)))
              (λ k. started_more m t.clocks t.first seen.begun x all (record {
                start = start;
                planned = planned_home g.kind m t.clocks x home (record {
                  late = st;
                  last = homes.last;
                  soon = homes.soon;
                  moving = homes.moving;
                  planned = k.planned;
                  are = by_held k.planned k.are;
                  boards = inr (tiny, k.cut);
                  near = λ known b lt. subst (All (λ (r : Release). r.unit.last + max_error (board_at m b).freq < lines_tick (clocks_at t.clocks b) ((seen.next + 270) * turn_ns))) (sym (answered_board m seen.next g b lt)) (near_end m s old seen i st at b lt);
                });
              })));
          sent = ∥∥₁_elim c.sent ∥∥₁_prop (λ all. ∥∥₁_map (all_of (λ b. AreSentOn m t.clocks g.moves g.start b (g.released b)) (length m.boards)
              (λ b lt. section-sent m t.clocks g.start true s g.moves g.moves g.released b i.on (subst (λ f. IsFuture f g.moves g.moves) (sym i.takes) future) lt))
              (λ each. sent_more m t.clocks seen.begun x all (λ b lt. subst (λ (cs : List Clocks). AreSentOn m cs g.moves g.start b (slice_index_or x.boards b [])) (sym (lines_home g.kind seen.next t.clocks home ∙ held))
              (subst (AreSentOn m t.clocks g.moves g.start b) (sym (answered_board m seen.next g b lt)) (each b lt)))));
          clocks = c.clocks;
          laid = laid_more m t.clocks (new.next + 268) seen.begun x (laid_later m t.clocks (old.next + 268) (new.next + 268) seen.begun (omega (arith, next)) c.laid) (laid_home g.kind m t.clocks (new.next + 268) x home (omega (arith, next, at)));
          first = c.first;
          late = omega (arith, r, start, late, st);
        })

heard_by : (m : Machine) (o : Open) (old new : Course) (seen : Seen) → waits_by o old.start old.next ≡ true → IsGoing m o old seen.told seen.begun seen.going → old.next ≤ 2 ^ 42 → new.current ≡ opens.Nothing → new.goes ≡ true → new.ready ≡ old.next + 260 → new.connected ≡ old.connected → new.lines ≡ old.lines
    → new.source ≡ old.source → new.read ≡ old.read → new.place ≡ old.place → new.ahead ≡ old.ahead → new.next ≡ old.next → IsCourseOf m old seen → IsCourseOf m new (with_ended seen (hears_answer m seen.next seen.going))
heard_by m opens.Nothing old new seen waits i small nothing goes ready on lines source read place ahead next h = absurd (true_false (sym waits))
heard_by m (opens.Goes s false) old new seen waits i small nothing goes ready on lines source read place ahead next h = absurd (true_false (sym waits))
heard_by m (opens.Goes s true) old new seen waits i small nothing goes ready on lines source read place ahead next h =
    let hears : hears_answer m seen.next seen.going ≡ Some (started_until m seen.next i.g) =
    ap (hears_answer m seen.next) i.is ∙ ap (λ (b : Bool). if b then Some (started_until m seen.next i.g) else None) (sym (waiting_is m s true old seen.told seen.begun seen.going i seen.next h.next) ∙ waits) in
    let began : i.g.start ≤ old.next = elim (leb_tells old.start old.next) [ inl p ↦ (let le = p.1 in let e = i.start_is in omega (arith, le, e)) | inr p ↦ absurd (true_false (sym waits ∙ p.0)) ] in
    subst (λ (o : Option Started). IsCourseOf m new (with_ended seen o)) (sym hears) (answer_told m s old new seen i began small nothing goes ready on lines source read place ahead next h)

pub answer_heard : (m : Machine) (old new : Course) (seen : Seen) (w : WordMsg) → (tells_homed w.news && waits_by old.current old.start old.next) ≡ true → old.next ≤ 2 ^ 42 → new.current ≡ opens.Nothing → new.goes ≡ true → new.ready ≡ old.next + 260 → new.connected ≡ old.connected → new.lines ≡ old.lines
    → new.source ≡ old.source → new.read ≡ old.read → new.place ≡ old.place → new.ahead ≡ old.ahead → new.next ≡ old.next → IsCourseOf m old seen → IsCourseOf m new (with_answer m seen w)
answer_heard m old new seen w e small nothing goes ready on lines source read place ahead next h =
    let b = both_parts (tells_homed w.news) (waits_by old.current old.start old.next) e in
    subst (λ (t : Bool). IsCourseOf m new (with_ended seen (if t then hears_answer m seen.next seen.going else None))) (sym b.0) (heard_by m old.current old new seen b.1 h.going small nothing goes ready on lines source read place ahead next h)

-- a piece is read while none goes on
pub text_idle : (m : Machine) (old : Course) (source : Source) (seen : Seen) (bytes : List ℕ) (end : Bool) → old.current ≡ opens.Nothing → ((text : List ℕ) (ended : Bool) (told : List Item) → IsSourceOf m old.source text ended told → IsSourceOf m source (text_after text ended bytes) (ended_after ended end) told) → HasGrown old.source source → IsCourseOf m old seen
    → (going : Option Going) × IsMore seen.going going × IsCourseOf m (record old { source = source; current = opens.Nothing }) (read_on seen bytes end going)
text_idle m old source seen bytes end was reads grown h =
    let new : Course = record old { source = source; current = opens.Nothing } in
    let b : IsBeside old new = record { read = refl; connected = refl; lines = refl; ready = refl; start = refl; place = refl; goes = refl; ahead = refl; next = refl } in
    text_passed m old new seen bytes end b (λ i. idle_beside m old new seen.begun seen.going b (subst (λ o. IsGoing m o old seen.told seen.begun seen.going) was i)) reads (λ e. nothing_early old new b grown (subst (λ o. BeginsNoEarlier o (old.next + 260) (old.next + 260) old) was e)) h

-- the lines that wait, and those that were heard of
told_lined : (m : Machine) (old : Course) (lines : BoardLines) (told : Option Told) (begun : List Started) (going : Option Going) → lines.each ≡ old.lines.each → KnowsConnecting m old told begun going → KnowsConnecting m (record old { lines = lines }) told begun going
told_lined m old lines None begun going e h = h
told_lined m old lines (Some t) begun going e h = record { connected = h.connected; lines = ap (λ v. v.items) e ∙ h.lines; ready = h.ready; started = h.started; sent = h.sent; clocks = h.clocks; laid = h.laid; first = h.first; late = h.late }

going_lined : (m : Machine) (o : Open) (old : Course) (lines : BoardLines) (told : Option Told) (begun : List Started) (going : Option Going) → IsGoing m o old told begun going → IsGoing m o (record old { lines = lines }) told begun going
going_lined m opens.Nothing old lines told begun going i = record { none = i.none; goes = i.goes; ahead = i.ahead }
going_lined m (opens.Goes s homes) old lines told begun going i = record {
  g = i.g;
  is = i.is;
  homes_is = i.homes_is;
  t = i.t;
  told_is = i.told_is;
  on = i.on;
  start = i.start;
  start_is = i.start_is;
  soon = i.soon;
  takes = i.takes;
  next = i.next;
  done = i.done;
  goes_as = i.goes_as;
  fresh = i.fresh;
  rested = i.rested;
  before = i.before;
  ahead = i.ahead;
}

early_lined : (o : Open) (turn free : ℕ) (old : Course) (lines : BoardLines) → BeginsNoEarlier o turn free old → BeginsNoEarlier o turn free (record old { lines = lines })
early_lined opens.Nothing turn free old lines e = e
early_lined (opens.Goes s homes) turn free old lines e = e

pub course_lined : (m : Machine) (old : Course) (lines : BoardLines) (seen : Seen) (turn free : ℕ) (more : List BoardLine) → lines.each ≡ old.lines.each → IsUptake (record old { lines = lines }) free more → IsCourseBy m old seen turn free
    → IsCourseBy m (record old { lines = lines }) (record { text = seen.text; ended = seen.ended; read = seen.read; told = seen.told; fresh = more; next = seen.next; begun = seen.begun; going = seen.going }) turn free
course_lined m old lines seen turn free more each uptake h = record {
  machine = h.machine;
  source = h.source;
  read = h.read;
  told = told_lined m old lines seen.told seen.begun seen.going each h.told;
  next = h.next;
  small = h.small;
  place = h.place;
  few = h.few;
  going = going_lined m old.current old lines seen.told seen.begun seen.going h.going;
  early = early_lined old.current turn free old lines h.early;
  uptake = uptake;
}

-- each of some lines is one of them
pub own_heard : (ls : List BoardLine) → All (λ (x : BoardLine). WasHeard x.board x.line ls) ls
own_heard [] = All-nil (λ (x : BoardLine). WasHeard x.board x.line [])
own_heard (l ∷ ls) =
    let P : BoardLine → Type 0 = λ x. WasHeard x.board x.line (l ∷ ls) in
    All-cons P l ls (inl (refl, refl)) (λ i d lt. inr (own_heard ls i d lt))

-- once connecting ended all lines of a word are kept
kept_on : (m : Machine) (c : Course) (told : Option Told) (begun : List Started) (going : Option Going) (ls : List BoardLine) → c.connected ≡ true → KnowsConnecting m c told begun going → lines_kept told ls ≡ ls
kept_on m c None begun going ls on h = absurd (true_false (sym on ∙ h.0))
kept_on m c (Some t) begun going ls on h = refl

-- before it none is
kept_off : (m : Machine) (c : Course) (told : Option Told) (begun : List Started) (going : Option Going) (ls : List BoardLine) → c.connected ≡ false → KnowsConnecting m c told begun going → lines_kept told ls ≡ []
kept_off m c None begun going ls off h = refl
kept_off m c (Some t) begun going ls off h = absurd (true_false (sym h.connected ∙ off))

-- further lines that a word tells
pub further_kept : (m : Machine) (old : Course) (lines : BoardLines) (seen : Seen) (w : WordMsg) → old.connected ≡ true → lines.each ≡ old.lines.each → lines.waiting.items ≡ old.lines.waiting.items ++ lines_in w.news → IsCourseOf m old seen
    → IsCourseOf m (record old { lines = lines }) (with_further seen w)
further_kept m old lines seen w on each are h =
    let same = kept_on m old seen.told seen.begun seen.going (lines_in w.news) on h.told in
    course_lined m old lines seen (old.next + 260) (old.next + 260) (seen.fresh ++ lines_kept seen.told (lines_in w.news)) each (record {
      waiting = are ∙ ap (λ ls. ls ++ lines_in w.news) h.uptake.waiting ∙ ap (λ ls. seen.fresh ++ ls) (sym same);
      none = λ off. absurd (true_false (sym on ∙ off));
      held = subst (λ (cs : List Clocks). (b : ℕ) → b < length cs → AreHeldBy (old.next + 260 + 16) (clocks_at cs b).held) (sym (ap (λ v. v.items) each)) h.uptake.held;
    }) h

-- none is kept
pub further_none : (m : Machine) (c : Course) (seen : Seen) (w : WordMsg) → c.connected ≡ false → IsCourseOf m c seen → IsCourseOf m c (with_further seen w)
further_none m c seen w off h =
    let more = lines_in w.news in
    let same : seen.fresh ≡ seen.fresh ++ lines_kept seen.told more = sym (append-nil seen.fresh) ∙ ap (λ ls. seen.fresh ++ ls) (sym (kept_off m c seen.told seen.begun seen.going more off h.told)) in
    course_lined m c c.lines seen (c.next + 260) (c.next + 260) (seen.fresh ++ lines_kept seen.told more) refl (record {
      waiting = h.uptake.waiting ∙ same;
      none = λ no. sym same ∙ h.uptake.none no;
      held = h.uptake.held;
    }) h
