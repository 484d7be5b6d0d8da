-- A further clock line of a board is taken up.
use Rattle.std.proofs.Common.{◌≡◌, ℕ, ◌+◌, ◌*◌, ◌<◌, ◌≤◌, ◌^◌, Bool, true, false, max, List, [], ◌∷◌, ◌++◌, All, length, append-nil, append_assoc, refl, ap, sym, subst, ◌∙◌, arith, inl, inr}
use Rattle.std.proofs.Math.Logic.{∥∥₁_map}
use Rattle.std.proofs.lemmas.Bool.{cases_eq}
use Rattle.std.proofs.lemmas.List.Elements.{All-nil}
use Rattle.std.proofs.lemmas.List.{get_or_default, length-set}
use Rattle.std.specs.Prelude.{◌-◌, Option, Some, None, slice_index_or}
use Rattle.msg_code.specs.declared.talk.NoteNews.{NoteNews}
use Rattle.msg_code.specs.declared.talk.NoteNews.TheVariants as news
use Rattle.plan_types.specs.declared.machine.Machine.{Machine}
use Rattle.plan_types.specs.declared.plan.Line.{Line}
use Rattle.plan_types.specs.declared.plan.SectionKind.{SectionKind}
use Rattle.plan_types.specs.declared.plan.SectionKind.TheVariants.{Home, Moves}
use Rattle.plan_types.specs.declared.plan.Held.{Held}
use Rattle.plan_types.specs.Clock.{tick, turn_ns}
use Rattle.plan_types.specs.Lines.{Clocks, lines_tick}
use Rattle.plan_types.specs.Sections.{clocks_at}
use Rattle.plan_types.specs.Valid.{IsValidLine}
use Rattle.clock_line.specs.Kept.{added}
use Rattle.section_feed.specs.declared.queue.MoveQueue.{MoveQueue}
use Rattle.section_feed.specs.declared.section.SectionStream.{SectionStream}
use Rattle.section_feed.specs.Boards.{IsLasting, MayTake}
use Rattle.section_feed.specs.Lined.{HasLine, line_at}
use Rattle.section_feed.specs.On.{IsSectionOn}
use Rattle.section_units.specs.Sections.{AreBefore}
use Rattle.section_feed.specs.Queues.{is_taking}
use Rattle.section_feed.specs.Rests.{AreAllRested}
use Rattle.section_feed.specs.Sections.{boards_in, next_of, sets_of}
use Rattle.section_feed.specs.Sets.{BoardSet, start_set}
use Rattle.section_feed.proofs.Lasts.{added-lasts, kept-lasting}
use Rattle.section_feed.proofs.Lined.{section-lined}
use Rattle.section_feed.proofs.Lining.{MayHold, may-hold}
use Rattle.section_feed.proofs.Staying.{all-sent-stays, boards-stay, end-stays, here-line, other-line}
use Rattle.section_feed.proofs.Taken.{steps-before}
use Rattle.section_units.specs.Plans.{AreSentOn}
use Rattle.motion_work.specs.declared.told.BoardLine.{BoardLine}
use Rattle.motion_work.specs.Further.{AreFurther, WasHeard, WereHeard, noted_lines, told_on}
use Rattle.motion_work.specs.Seen.{AreAllSent, AreBoardClocks, AreDone, AreStarted, IsPlanned, Started, planning_lines, ready_after}
use Rattle.motion_work.specs.Told.{Told}
use Rattle.motion_work.proofs.Staying.{homed_stays, lines_by_added}
use Rattle.motion_work.specs.Known.{AreHeldBy}
use Rattle.motion_stream.specs.declared.course.BoardLines.{BoardLines}
use Rattle.motion_stream.specs.declared.course.Course.{Course}
use Rattle.motion_stream.specs.declared.course.Open.{Open}
use Rattle.motion_stream.specs.declared.course.Open.TheVariants as opens
use Rattle.motion_stream.specs.Courses.{AreAhead, AreLaid, IsConnected, GoesAs, IsCourseBy, IsCourseOf, BeginsNoEarlier, IsGoing, IsGoingOn, IsSoundBy, KnowsConnecting, IsUptake}
use Rattle.motion_stream.specs.Motions.{AreEarly}
use Rattle.motion_stream.specs.Seen.{Seen}
use Rattle.motion_stream.proofs.ByKind.{goes_beside, goes_lined}
use Rattle.motion_stream.specs.Steps.{IsFed}
use Rattle.motion_stream.specs.Uptakes.{AddsTo, HasTakenUp, HasTold, IsNotLost, MayAdd, MayAddTo, TakesOne, emptied, lined}
use Rattle.motion_stream.proofs.Opening.{IsLinked, linked}
use Rattle.motion_stream.proofs.Drawing.{fed_on}
use Rattle.motion_stream.proofs.Hearing.{course_lined}
use Rattle.motion_stream.proofs.Laid.{EndBy, EndsBy, end_by, laid_stay}
use Rattle.plan_types.proofs.Facts.{some_same, none_some, none_long}

-- the lines of all boards with one more
first_line : (clocks : List Clocks) (b a turn : ℕ) (line : Line) → b < length clocks → (clocks_at (line_at clocks b turn line) a).first ≡ (clocks_at clocks a).first
first_line clocks b a turn line inside = elim (cases_eq a b) as (λ _. (clocks_at (line_at clocks b turn line) a).first ≡ (clocks_at clocks a).first) [
  | inl same ↦ ap (λ n. (clocks_at (line_at clocks b turn line) n).first) same ∙ ap (λ (c : Clocks). c.first) (here-line clocks b turn line inside) ∙ ap (λ n. (clocks_at clocks n).first) (sym same)
  | inr other ↦ ap (λ (c : Clocks). c.first) (other-line clocks b a turn line other)
]

clocks_more : (m : Machine) (clocks : List Clocks) (ready b turn : ℕ) (line : Line) → AreBoardClocks m clocks ready → b < length m.boards → MayTake (clocks_at clocks b) turn line → AreBoardClocks m (line_at clocks b turn line) ready
clocks_more m clocks ready b turn line h lt may =
    let count = h.count in
    let inside : b < length clocks = omega (arith, lt, count) in
    let First : ℕ → Line → Type 0 = λ a l. (clocks_at (line_at clocks b turn line) a).first ≡ l in
    record {
      count = length-set clocks b (added (clocks_at clocks b) (turn * turn_ns) line) ∙ count;
      valid = λ a low. subst IsValidLine (sym (first_line clocks b a turn line inside)) (h.valid a low);
      lasting = λ a low early.
          let own : (clocks_at clocks a).first.clock < 2 ^ 62 = (let e = ap (λ (l : Line). l.clock) (first_line clocks b a turn line inside) in omega (arith, early, e)) in
          elim (cases_eq a b) as (λ _. IsLasting (clocks_at (line_at clocks b turn line) a)) [
            | inl same ↦
                let old : IsLasting (clocks_at clocks b) = subst (λ n. IsLasting (clocks_at clocks n)) same (h.lasting a low own) in
                subst (λ n. IsLasting (clocks_at (line_at clocks b turn line) n)) (sym same) (subst IsLasting (sym (here-line clocks b turn line inside)) (added-lasts (clocks_at clocks b) turn line old may))
            | inr other ↦ subst IsLasting (sym (other-line clocks b a turn line other)) (h.lasting a low own)
          ];
      freq = λ a low. ap (λ (l : Line). l.freq) (first_line clocks b a turn line inside) ∙ h.freq a low;
      before = λ a low. (let e = ap (λ (l : Line). l.at) (first_line clocks b a turn line inside) in let at = h.before a low in omega (arith, e, at));
    }

-- sections whose steps are over before a turn stay as they are where a line holds from it on
one_stays : (kind : SectionKind) (m : Machine) (clocks : List Clocks) (s : Started) (b turn : ℕ) (line : Line) → b < length clocks → IsLasting (clocks_at clocks b) → MayTake (clocks_at clocks b) turn line → EndsBy kind m clocks turn s → IsPlanned kind m clocks s → IsPlanned kind m (line_at clocks b turn line) s
one_stays Moves m clocks s b turn line inside lasting may low moved =
    let ms = s.section.moves in
    let start = low.0 in
    let before = steps-before m clocks ms s.start b turn (kept-lasting (clocks_at clocks b) lasting) low.1 in
    record {
      end = moved.end ∙ sym (end-stays m clocks ms s.start b turn line inside start lasting may before);
      known = moved.known;
      last = moved.last;
      moving = moved.moving;
      boards = boards-stay false m clocks ms s.start b turn line s.boards inside start lasting may before moved.boards;
    }
one_stays (Home axis) m clocks s b turn line inside lasting may low homed = homed_stays m clocks s b turn line inside low homed

begun_stay : (m : Machine) (clocks : List Clocks) (ready b turn : ℕ) (line : Line) (begun : List Started) → b < length clocks → IsLasting (clocks_at clocks b) → MayTake (clocks_at clocks b) turn line → EndBy m clocks turn begun → AreStarted m clocks ready begun → AreStarted m (line_at clocks b turn line) ready begun
begun_stay m clocks ready b turn line [] inside lasting may ends all = tt
begun_stay m clocks ready b turn line (s ∷ begun) inside lasting may ends all = (
  record { start = all.0.start; planned = one_stays s.section.kind m clocks s b turn line inside lasting may ends.0 all.0.planned },
  begun_stay m clocks (s.end + 260) b turn line begun inside lasting may ends.1 all.1,
)

one_sent : (kind : SectionKind) (m : Machine) (clocks : List Clocks) (s : Started) (b turn k : ℕ) (line : Line) → b < length clocks → IsLasting (clocks_at clocks b) → MayTake (clocks_at clocks b) turn line → EndsBy kind m clocks turn s
    → AreSentOn m (planning_lines kind s.end clocks) s.section.moves s.start k (slice_index_or s.boards k []) → AreSentOn m (planning_lines kind s.end (line_at clocks b turn line)) s.section.moves s.start k (slice_index_or s.boards k [])
one_sent Moves m clocks s b turn k line inside lasting may low sent =
    let before = steps-before m clocks s.section.moves s.start b turn (kept-lasting (clocks_at clocks b) lasting) low.1 in
    all-sent-stays m clocks s.section.moves s.start b turn k line _ inside low.0 lasting may before sent
one_sent (Home axis) m clocks s b turn k line inside lasting may low sent = subst (λ (cs : List Clocks). AreSentOn m cs s.section.moves s.start k (slice_index_or s.boards k [])) (sym (lines_by_added clocks b (s.end + 276) turn line inside low)) sent

sent_stay : (m : Machine) (clocks : List Clocks) (b turn : ℕ) (line : Line) (begun : List Started) → b < length clocks → IsLasting (clocks_at clocks b) → MayTake (clocks_at clocks b) turn line → EndBy m clocks turn begun → AreAllSent m clocks begun → AreAllSent m (line_at clocks b turn line) begun
sent_stay m clocks b turn line [] inside lasting may ends sent = tt
sent_stay m clocks b turn line (s ∷ begun) inside lasting may ends sent = (
  λ k lt. one_sent s.section.kind m clocks s b turn k line inside lasting may ends.0 (sent.0 k lt),
  sent_stay m clocks b turn line begun inside lasting may ends.1 sent.1,
)

-- what is known of connecting
module _ (m : Machine) (old new : Course) (seen : Seen) (k b turn : ℕ) (line : Line) (h : IsCourseBy m old seen (k + 260) (k + 261)) (at : old.next ≡ k) (is : turn ≡ k + 277) (on : old.connected ≡ true) (lt : b < length m.boards)
    (early : AreEarly m old) (may : MayTake (clocks_at old.lines.each.items b) turn line) where
  abbrev l : IsLinked m old seen.told seen.begun seen.going
  l = linked m old seen.told seen.begun seen.going on h.told

  abbrev t : Told
  t = l.t

  lines_are : old.lines.each.items ≡ t.clocks
  lines_are = l.is.lines

  may_take : MayTake (clocks_at t.clocks b) turn line
  may_take = subst (λ (c : List Clocks). MayTake (clocks_at c b) turn line) lines_are may

  lasting : IsLasting (clocks_at t.clocks b)
  lasting = l.is.clocks.lasting b lt (subst (λ (c : List Clocks). (clocks_at c b).first.clock < 2 ^ 62) lines_are (early on b lt))

  inside : b < length t.clocks
  inside = let c = l.is.clocks.count in omega (arith, c, lt)

  abbrev later : Told
  later = record { first = t.first; clocks = line_at t.clocks b turn line }

  told_later : (board : ℕ) (from : ℕ) → board ≡ b → from ≡ turn * turn_ns → told_on (news.Line board line from ∷ []) seen.told ≡ Some later
  told_later board from same time =
      ap (told_on (news.Line board line from ∷ [])) l.told_is ∙ ap (λ n. told_on (news.Line n line from ∷ []) (Some t)) same ∙ ap (λ n. told_on (news.Line b line n ∷ []) (Some t)) time

  ends : EndBy m t.clocks turn seen.begun
  ends = end_by m t.clocks (old.next + 268) turn seen.begun l.is.laid (omega (arith, at, is))

  connected : new.connected ≡ old.connected → new.lines.each.items ≡ line_at old.lines.each.items b turn line → new.ready ≡ old.ready → new.next ≡ old.next → IsConnected m new later seen.begun seen.going
  connected c each ready next = record {
    connected = c ∙ l.is.connected;
    lines = each ∙ ap (λ (x : List Clocks). line_at x b turn line) lines_are;
    ready = λ none. ready ∙ l.is.ready none;
    started = ∥∥₁_map l.is.started (λ all. begun_stay m t.clocks t.first b turn line seen.begun inside lasting may_take ends all);
    sent = ∥∥₁_map l.is.sent (sent_stay m t.clocks b turn line seen.begun inside lasting may_take ends);
    clocks = clocks_more m t.clocks t.first b turn line l.is.clocks lt may_take;
    laid = subst (λ n. AreLaid m (line_at t.clocks b turn line) (n + 268) seen.begun) (sym next) (laid_stay m t.clocks (old.next + 268) b turn line seen.begun inside lasting may_take ends l.is.laid);
    first = l.is.first;
    late = l.is.late;
  }

  -- a section that goes on takes up the line
  going_on : (s s' : SectionStream) (homes : Bool) (more : Option Told) → more ≡ Some later → IsGoingOn m s homes old seen.told seen.begun seen.going → HasLine b turn line s s' → new.start ≡ old.start → new.next ≡ old.next → new.ahead ≡ old.ahead → IsGoingOn m s' homes new more seen.begun seen.going
  going_on s s' homes more told i has start next ahead =
      let g = i.g in
      let same : i.t ≡ t = (let e : Some i.t ≡ Some t = sym i.told_is ∙ l.told_is in cc) in
      let soon = i.soon in
      let n = i.next in
      let e = next in
      let hn = has.next in
      let begun : g.start < turn = omega (arith, soon, at, is) in
      let goes : GoesAs g.kind m t.clocks old.next g = subst (λ (z : Told). GoesAs g.kind m z.clocks old.next g) same i.goes_as in
      record {
        g = g;
        is = i.is;
        homes_is = i.homes_is;
        t = later;
        told_is = told;
        on = section-lined m t.clocks g.start homes s s' g.moves g.released b turn line (subst (λ (z : Told). IsSectionOn m z.clocks g.start homes s g.moves g.released) same i.on) lt begun may_take has;
        start = i.start ∙ ap (λ (z : Told). ready_after z.first seen.begun + g.dwell) same;
        start_is = start ∙ i.start_is;
        soon = omega (arith, soon, e);
        takes = ap (λ (q : MoveQueue). is_taking q) has.queue ∙ i.takes;
        next = has.next ∙ n ∙ ap (λ z. max z (g.start - 250)) (sym next);
        done = subst (λ z. AreDone z seen.begun) (sym next) i.done;
        goes_as = goes_beside g.kind m later.clocks old.next new.next g e (goes_lined g.kind m t.clocks old.next b turn line g inside lasting may_take (omega (arith, soon, at, is)) (omega (arith, at, is)) goes);
        fresh = λ far. i.fresh (omega (arith, far, e));
        rested = λ near.
            let old_rested = i.rested (omega (arith, near, e)) in
            let low : next_of s + 250 < turn = omega (arith, n, soon, at, is) in
            subst (λ z. AreAllRested (z + 250) (boards_in s')) (sym hn) (has.rested (next_of s + 250) low old_rested);
        before = λ z. subst (λ w. AreBefore w (g.released z)) (sym next) (i.before z);
        ahead = subst (λ a. AreAhead m a.items new.next seen.begun) (sym ahead) (subst (λ z. AreAhead m old.ahead.items z seen.begun) (sym next) i.ahead);
      }

  -- what may be asked of a section
  may_add : (s : SectionStream) (homes : Bool) → IsGoingOn m s homes old seen.told seen.begun seen.going → MayAdd s b turn line
  may_add s homes i =
      let same : i.t ≡ t = (let e : Some i.t ≡ Some t = sym i.told_is ∙ l.told_is in cc) in
      let boards = i.on.boards in
      let n = i.next in
      let soon = i.soon in
      record {
        there = omega (arith, boards, lt);
        may = λ d.
            let own : slice_index_or (sets_of s) b d ≡ start_set m i.t.clocks i.g.start b = i.on.sets b d lt in
            subst (λ (x : BoardSet). MayTake x.clocks turn line) (sym own) (subst (λ (z : Told). MayTake (clocks_at z.clocks b) turn line) (sym same) may_take);
        behind = omega (arith, n, soon, at, is);
      }

-- each board has lines
pub each_long : (m : Machine) (c : Course) (seen : Seen) (turn free : ℕ) → IsCourseBy m c seen turn free → c.connected ≡ true → length c.lines.each.items ≡ length m.boards
each_long m c seen turn free h on = let l = linked m c seen.told seen.begun seen.going on h.told in ap length l.is.lines ∙ l.is.clocks.count

-- the lines of a board with one more hold by its turn
held_more : (turn : ℕ) (held : List Held) (h : Held) → h.from ≤ turn * turn_ns → AreHeldBy turn held → AreHeldBy turn (held ++ h ∷ [])
held_more turn [] h le all = (le, tt)
held_more turn (x ∷ held) h le all = (all.0, held_more turn held h le all.1)

all_held : (clocks : List Clocks) (b turn by : ℕ) (line : Line) → b < length clocks → turn ≤ by → ((a : ℕ) → a < length clocks → AreHeldBy by (clocks_at clocks a).held) → (a : ℕ) → a < length clocks → AreHeldBy by (clocks_at (line_at clocks b turn line) a).held
all_held clocks b turn by line inside le all a lt = elim (cases_eq a b) as (λ _. AreHeldBy by (clocks_at (line_at clocks b turn line) a).held) [
  | inl same ↦
      let own = clocks_at clocks b in
      let at : clocks_at (line_at clocks b turn line) a ≡ added own (turn * turn_ns) line = ap (clocks_at (line_at clocks b turn line)) same ∙ here-line clocks b turn line inside in
      let one : Held = record { from = turn * turn_ns; line = line; most = lines_tick own (turn * turn_ns); start = tick line (turn * turn_ns); plan = tick own.first (turn * turn_ns) } in
      let early : turn * turn_ns ≤ by * turn_ns = omega (arith, le) in
      subst (λ (c : Clocks). AreHeldBy by c.held) (sym at) (held_more by own.held one early (all b inside))
  | inr other ↦ subst (λ (c : Clocks). AreHeldBy by c.held) (sym (other-line clocks b a turn line other)) (all a lt)
]

-- a line that was heard of is taken up, and told
pub line_taken : (m : Machine) (old : Course) (now : Open) (lines : BoardLines) (seen : Seen) (heard_of : List BoardLine) (k b turn : ℕ) (line : Line) (before : List NoteNews) → IsCourseBy m old seen (k + 260) (k + 261) → old.next ≡ k → turn ≡ k + 277 → old.connected ≡ true → AreEarly m old → b < length m.boards
    → MayTake (clocks_at old.lines.each.items b) turn line → AddsTo b turn line old.current now → lines.each.items ≡ line_at old.lines.each.items b turn line → lines.waiting ≡ old.lines.waiting → WasHeard b line heard_of
    → HasTold m seen heard_of k before (before ++ news.Line b line (turn * turn_ns) ∷ []) (record old { current = now; lines = lines })
line_taken m old now lines seen heard_of k b turn line before h at is on early lt may adds each waiting heard = by old.current refl h.going adds h.early
  where
    new : Course
    new = record old { current = now; lines = lines }

    more : List NoteNews
    more = news.Line b line (turn * turn_ns) ∷ []

    uptake : IsUptake new (k + 261) seen.fresh
    uptake =
        let long = each_long m old seen (k + 260) (k + 261) h on in
        let All_held : List Clocks → Type 0 = λ cs. (a : ℕ) → a < length cs → AreHeldBy (k + 261 + 16) (clocks_at cs a).held in
        record {
          waiting = ap (λ v. v.items) waiting ∙ h.uptake.waiting;
          none = h.uptake.none;
          held = subst All_held (sym each) (λ a low. (
              let size = length-set old.lines.each.items b (added (clocks_at old.lines.each.items b) (turn * turn_ns) line) in
              all_held old.lines.each.items b turn (k + 261 + 16) line (omega (arith, long, lt)) (omega (arith, is)) h.uptake.held a (omega (arith, low, size))));
        }

    told_by : KnowsConnecting m new (told_on more seen.told) seen.begun seen.going
    told_by =
        subst (λ (x : Option Told). KnowsConnecting m new x seen.begun seen.going) (sym (told_later m old new seen k b turn line h at is on lt early may b (turn * turn_ns) refl refl))
        (connected m old new seen k b turn line h at is on lt early may refl each refl refl)

    made : IsGoing m now new (told_on more seen.told) seen.begun seen.going → BeginsNoEarlier now (k + 260) (k + 261) new → HasTold m seen heard_of k before (before ++ more) new
    made goes soon = record {
      more = more;
      are = refl;
      further = (ap (λ n. n * turn_ns) is, tt);
      heard = (heard, tt);
      is = record {
        machine = h.machine;
        source = h.source;
        read = h.read;
        told = told_by;
        next = h.next;
        small = h.small;
        place = h.place;
        few = h.few;
        going = goes;
        early = soon;
        uptake = uptake;
      };
    }

    by : (o : Open) → old.current ≡ o → IsGoing m o old seen.told seen.begun seen.going → AddsTo b turn line o now → BeginsNoEarlier o (k + 260) (k + 261) old → HasTold m seen heard_of k before (before ++ more) new
    by opens.Nothing e i a soon =
        made
        (subst (λ (x : Open). IsGoing m x new (told_on more seen.told) seen.begun seen.going) (sym a) (record { none = i.none; goes = i.goes; ahead = i.ahead }))
        (subst (λ (x : Open). BeginsNoEarlier x (k + 260) (k + 261) new) (sym a) soon)
    by (opens.Goes s homes) e i a soon =
        let s' = a.0 in
        made
        (subst (λ (x : Open). IsGoing m x new (told_on more seen.told) seen.begun seen.going) (sym a.1)
        (going_on m old new seen k b turn line h at is on lt early may s s' homes (told_on more seen.told) (told_later m old new seen k b turn line h at is on lt early may b (turn * turn_ns) refl refl) i a.2 refl refl refl))
        (subst (λ (x : Open). BeginsNoEarlier x (k + 260) (k + 261) new) (sym a.1) (λ takes. soon (ap is_taking (sym a.2.queue) ∙ takes)))

-- what may be asked of what goes on
pub may_add_to : (m : Machine) (c : Course) (seen : Seen) (k b turn : ℕ) (line : Line) → IsCourseBy m c seen (k + 260) (k + 261) → c.next ≡ k → turn ≡ k + 277 → c.connected ≡ true → AreEarly m c → b < length m.boards → MayTake (clocks_at c.lines.each.items b) turn line → MayAddTo c.current b turn line
may_add_to m c seen k b turn line h at is on early lt may = by c.current h.going
  where
    by : (o : Open) → IsGoing m o c seen.told seen.begun seen.going → MayAddTo o b turn line
    by opens.Nothing i = tt
    by (opens.Goes s homes) i = may_add m c c seen k b turn line h at is on lt early may s homes i

-- where no line is taken up
pub told_none : (m : Machine) (c : Course) (seen : Seen) (turn free : ℕ) → IsCourseBy m c seen turn free → IsCourseBy m c (lined seen []) turn free
told_none m c seen turn free h = subst (λ (x : Option Told). IsCourseBy m c (record { text = seen.text; ended = seen.ended; read = seen.read; told = x; fresh = seen.fresh; next = seen.next; begun = seen.begun; going = seen.going }) turn free) (same seen.told) h
  where
    same : (o : Option Told) → o ≡ told_on [] o
    same None = refl
    same (Some t) = refl

-- a line that is passed over
pub line_passed : (m : Machine) (c : Course) (seen : Seen) (heard_of : List BoardLine) (k : ℕ) (before : List NoteNews) → IsCourseBy m c seen (k + 260) (k + 261) → HasTold m seen heard_of k before before c
line_passed m c seen heard_of k before h = record { more = []; are = sym (append-nil before); further = tt; heard = tt; is = told_none m c seen (k + 260) (k + 261) h }

-- the lines that wait are taken out
pub course_emptied : (m : Machine) (c : Course) (lines : BoardLines) (seen : Seen) (turn free : ℕ) → lines.each ≡ c.lines.each → lines.waiting.items ≡ [] → IsCourseBy m c seen turn free → IsCourseBy m (record c { lines = lines }) (emptied seen) turn free
course_emptied m c lines seen turn free each none h =
    course_lined m c lines seen turn free [] each (record {
      waiting = none;
      none = λ off. refl;
      held = subst (λ (cs : List Clocks). (b : ℕ) → b < length cs → AreHeldBy (free + 16) (clocks_at cs b).held) (sym (ap (λ v. v.items) each)) h.uptake.held;
    }) h

-- none waits before connecting ended
none_waits : (m : Machine) (c : Course) (seen : Seen) (turn free : ℕ) (on : Bool) → c.connected ≡ on → IsCourseBy m c seen turn free → (c.connected ≡ true → length c.lines.waiting.items ≡ 0) → c.lines.waiting.items ≡ []
none_waits m c seen turn free true on h none = none_long c.lines.waiting.items (none on)
none_waits m c seen turn free false off h none = h.uptake.waiting ∙ h.uptake.none off

-- where none waits, none is taken up
pub none_taken : (m : Machine) (c : Course) (seen : Seen) (k : ℕ) (further : List NoteNews) → further ≡ [] → (c.connected ≡ true → length c.lines.waiting.items ≡ 0) → c.next ≡ k → IsFed c k → IsCourseOf m c seen → HasTakenUp m seen k further c
none_taken m c seen k further nil how at fed h =
    let none = none_waits m c seen (c.next + 260) (c.next + 260) c.connected refl h how in
    let by = course_emptied m c c.lines seen (k + 260) (k + 261) refl none (fed_on m c seen k at fed h) in
    record {
      further_are = subst (AreFurther k) (sym nil) tt;
      heard = subst (WereHeard seen.fresh) (sym nil) tt;
      taken = λ t is. subst (All (IsNotLost m t.clocks k further)) (sym none ∙ h.uptake.waiting) (All-nil (IsNotLost m t.clocks k further));
      is = subst (λ (ns : List NoteNews). IsCourseBy m c (lined (emptied seen) ns) (k + 260) (k + 261)) (sym nil) (told_none m c (emptied seen) (k + 260) (k + 261) by);
    }

-- of the lines that wait, by the boards' lines as they were told
pub none_lost : (m : Machine) (c : Course) (seen : Seen) (turn free k : ℕ) (ns : List NoteNews) (t : Told) → IsCourseBy m c seen turn free → seen.told ≡ Some t → All (IsNotLost m c.lines.each.items k ns) c.lines.waiting.items → All (IsNotLost m t.clocks k ns) seen.fresh
none_lost m c seen turn free k ns t h is all =
    subst (All (IsNotLost m t.clocks k ns)) h.uptake.waiting (subst (λ (cs : List Clocks). All (IsNotLost m cs k ns) c.lines.waiting.items) (by seen.told h.told is) all)
  where
    by : (o : Option Told) → KnowsConnecting m c o seen.begun seen.going → o ≡ Some t → c.lines.each.items ≡ t.clocks
    by None i e = absurd (none_some t e)
    by (Some u) i e = i.lines ∙ ap (λ (x : Told). x.clocks) (some_same u t e)

-- one line behind some others
pub noted_both : (xs ys : List NoteNews) (clocks : List Clocks) → noted_lines (xs ++ ys) clocks ≡ noted_lines ys (noted_lines xs clocks)
noted_both [] ys clocks = refl
noted_both (news.Start section kind turn last moving ∷ xs) ys clocks = noted_both xs ys clocks
noted_both (news.Done section turn ∷ xs) ys clocks = noted_both xs ys clocks
noted_both (news.Read end sections ∷ xs) ys clocks = noted_both xs ys clocks
noted_both (news.Line board line from ∷ xs) ys clocks = noted_both xs ys _

pub told_both : (xs ys : List NoteNews) (o : Option Told) → told_on (xs ++ ys) o ≡ told_on ys (told_on xs o)
told_both xs ys None = refl
told_both xs ys (Some t) = ap (λ (c : List Clocks). Some (record { first = t.first; clocks = c })) (noted_both xs ys t.clocks)

further_both : (k : ℕ) (xs ys : List NoteNews) → AreFurther k xs → AreFurther k ys → AreFurther k (xs ++ ys)
further_both k [] ys a b = b
further_both k (news.Line board line from ∷ xs) ys a b = (a.0, further_both k xs ys a.1 b)
further_both k (news.Start section kind turn last moving ∷ xs) ys a b = absurd a
further_both k (news.Done section turn ∷ xs) ys a b = absurd a
further_both k (news.Read end sections ∷ xs) ys a b = absurd a

pub heard_both : (heard : List BoardLine) (xs ys : List NoteNews) → WereHeard heard xs → WereHeard heard ys → WereHeard heard (xs ++ ys)
heard_both heard [] ys a b = b
heard_both heard (news.Line board line from ∷ xs) ys a b = (a.0, heard_both heard xs ys a.1 b)
heard_both heard (news.Start section kind turn last moving ∷ xs) ys a b = heard_both heard xs ys a b
heard_both heard (news.Done section turn ∷ xs) ys a b = heard_both heard xs ys a b
heard_both heard (news.Read end sections ∷ xs) ys a b = heard_both heard xs ys a b

pub both_told : (m : Machine) (seen : Seen) (heard_of : List BoardLine) (k : ℕ) (one two three : List NoteNews) (c : Course) (a : (more : List NoteNews) × (two ≡ one ++ more) × AreFurther k more × WereHeard heard_of more) → HasTold m (lined seen a.0) heard_of k two three c → HasTold m seen heard_of k one three c
both_told m seen heard_of k one two three c a b =
    let Of : Option Told → Type 0 = λ o. IsCourseBy m c (record { text = seen.text; ended = seen.ended; read = seen.read; told = o; fresh = seen.fresh; next = seen.next; begun = seen.begun; going = seen.going }) (k + 260) (k + 261) in
    record {
      more = a.0 ++ b.more;
      are = b.are ∙ ap (λ x. x ++ b.more) a.1 ∙ append_assoc one a.0 b.more;
      further = further_both k a.0 b.more a.2 b.further;
      heard = heard_both heard_of a.0 b.more a.3 b.heard;
      is = subst Of (sym (told_both a.0 b.more seen.told)) b.is;
    }

pub line_lasts : (m : Machine) (c : Course) (seen : Seen) (turn free b : ℕ) → IsCourseBy m c seen turn free → c.connected ≡ true → AreEarly m c → b < length m.boards → IsLasting (clocks_at c.lines.each.items b)
line_lasts m c seen turn free b h on early lt =
    let l = linked m c seen.told seen.begun seen.going on h.told in
    let At : List Clocks → Type 0 = λ x. (clocks_at x b).first.clock < 2 ^ 62 → IsLasting (clocks_at x b) in
    subst At (sym l.is.lines) (l.is.clocks.lasting b lt) (early on b lt)

-- what was found at a place
pub read_at : (cs : List Clocks) (b : ℕ) (x : Clocks) → x ≡ slice_index_or cs b x → b < length cs → x ≡ clocks_at cs b
read_at cs b x e lt = e ∙ get_or_default cs b x _ lt

-- boards have ticks for a run behind a line that is taken up
pub early_more : (m : Machine) (old : Course) (now : Open) (lines : BoardLines) (b turn : ℕ) (line : Line) → b < length old.lines.each.items → lines.each.items ≡ line_at old.lines.each.items b turn line → AreEarly m old → AreEarly m (record old { current = now; lines = lines })
early_more m old now lines b turn line inside each early = λ on a low.
    let e = ap (λ (l : Line). l.clock) (ap (λ (c : List Clocks). (clocks_at c a).first) each ∙ first_line old.lines.each.items b a turn line inside) in
    let was = early on a low in
    omega (arith, e, was)

-- there is what a machine has seen that took a line up
pub one_sound : (m : Machine) (old : Course) (k : ℕ) (one : BoardLine) (before after : List NoteNews) (new : Course) → IsSoundBy m old k → TakesOne m old k one before after new → IsSoundBy m new k
one_sound m old k one before after new s takes =
    let seen = s.seen in
    let t = takes seen (one ∷ []) (inl (refl, refl)) s.is in
    record { seen = lined seen t.more; is = t.is }

-- the numbers of a line that is taken up
pub board_held : (m : Machine) (c : Course) (seen : Seen) (k b turn : ℕ) (line : Line) (read now : Clocks) → IsCourseBy m c seen (k + 260) (k + 261) → c.connected ≡ true → AreEarly m c → b < length m.boards → read ≡ slice_index_or c.lines.each.items b read → now ≡ slice_index_or c.lines.each.items b now → turn ≡ k + 277
    → MayTake read (k + 277) line → MayHold now (turn * turn_ns) line
board_held m c seen k b turn line read now h on early lt one two is may =
    let each = c.lines.each.items in
    let long = each_long m c seen (k + 260) (k + 261) h on in
    let low : b < length each = omega (arith, long, lt) in
    let own : MayTake (clocks_at each b) (k + 277) line = subst (λ (x : Clocks). MayTake x (k + 277) line) (read_at each b read one low) may in
    subst (λ (x : Clocks). MayHold x (turn * turn_ns) line) (sym (read_at each b now two low)) (subst (λ n. MayHold (clocks_at each b) (n * turn_ns) line) (sym is) (may-hold (clocks_at each b) (k + 277) line (line_lasts m c seen (k + 260) (k + 261) b h on early lt) own))
