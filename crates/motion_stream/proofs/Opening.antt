-- A section that is begun.
use Rattle.std.proofs.Common.{◌≡◌, ℕ, zero, suc, ◌+◌, ◌*◌, ◌<◌, ◌≤◌, ◌^◌, Bool, true, false, not, List, [], ◌∷◌, ◌++◌, length, map, append-nil, append_assoc, refl, ap, sym, subst, ◌∙◌, arith, inl, inr}
use Rattle.std.specs.Prelude.{◌-◌, ◌/◌, All, Option, Some, None}
use Rattle.gcode_program.specs.declared.items.Item.{Item}
use Rattle.gcode_program.specs.declared.items.Item.TheVariants as items
use Rattle.gcode_program.specs.Items.{IsGood, ending, items_of, moves_in}
use Rattle.gcode_program.specs.Reader.{IsAll}
use Rattle.gcode_program.specs.Readers.{IsReaderOf, stop_of}
use Rattle.msg_code.specs.declared.talk.NoteNews.{NoteNews}
use Rattle.msg_code.specs.declared.talk.NoteNews.TheVariants as news
use Rattle.plan_types.specs.declared.machine.Machine.{Machine}
use Rattle.plan_types.specs.declared.plan.Move.{Move}
use Rattle.plan_types.specs.declared.plan.ReadEnd.{ReadEnd}
use Rattle.plan_types.specs.declared.plan.Section.{Section}
use Rattle.plan_types.specs.declared.plan.SectionKind.{SectionKind}
use Rattle.plan_types.specs.declared.plan.SectionKind.TheVariants.{Home, Moves}
use Rattle.plan_types.specs.Clock.{turn_ns}
use Rattle.plan_types.specs.Lines.{Clocks, lines_tick}
use Rattle.section_feed.specs.declared.section.SectionStream.{SectionStream}
use Rattle.section_feed.specs.On.{IsSectionOn}
use Rattle.motion_work.specs.Seen.{AreBoardClocks, AreDone, IsOpen, Started, ready_after}
use Rattle.motion_work.specs.Told.{Told}
use Rattle.motion_work.proofs.Homing.{near_short}
use Rattle.std.proofs.Math.Nat.{mul-le-mul_left}
use Rattle.std.proofs.lemmas.List.Elements.{All-cons, All-head, All-nil}
use Rattle.plan_types.specs.declared.plan.Line.{Line}
use Rattle.plan_types.specs.Clock.{tick, tick_limit}
use Rattle.motion_work.specs.Homes.{last_step}
use Rattle.motion_work.specs.Known.{AreHeldBy, lines_by}
use Rattle.motion_work.proofs.Staying.{lines_by_all}
use Rattle.plan_types.specs.Machines.{IsValidMachine}
use Rattle.plan_types.specs.Sections.{clocks_at, turns_of_move, is_home}
use Rattle.plan_types.specs.Valid.{IsValidLine, IsValidMove}
use Rattle.gcode_program.specs.Held.{IsShortOrNear}
use Rattle.section_plan.specs.Runs.{IsPlannable, IsReadyBoard, move_ns}
use Rattle.section_stream.specs.Apart.{AreTurnsApart}
use Rattle.section_feed.specs.Boards.{IsLasting}
use Rattle.section_feed.proofs.Lasts.{kept-lasting, last-soon, lines-small}
use Rattle.motion_work.proofs.Turning.{clocks_later, end_after, ready_more}
use Rattle.motion_stream.specs.declared.course.Course.{Course}
use Rattle.motion_stream.specs.declared.course.Open.{Open}
use Rattle.motion_stream.specs.declared.course.Open.TheVariants as opens
use Rattle.motion_stream.specs.declared.source.Source.{Source}
use Rattle.motion_stream.proofs.Drawing.{same_go, uptake_kept}
use Rattle.motion_stream.proofs.Laid.{laid_later}
use Rattle.motion_stream.specs.Courses.{AreAhead, GoesAs, IsConnected, IsCourseBy, IsCourseOf, BeginsNoEarlier, IsGoing, IsIdle, IsLater, KnowsConnecting}
use Rattle.motion_stream.specs.Gone.{HasOpened, TellsAs}
use Rattle.motion_stream.specs.Seen.{AreWhole, Going, Seen, count_of, items_read, sections_in}
use Rattle.motion_stream.proofs.ByKind.{starts_late}
use Rattle.motion_stream.specs.Steps.{AreBegun, IsBegun, IsSectionDue, IsNotDue}
use Rattle.motion_stream.specs.Texts.{IsSourceOf}
use Rattle.motion_stream.proofs.Sourcing.{waiting_good}
use Rattle.plan_types.proofs.Facts.{true_false, none_some, not_not, some_same}

moves_home : (axis : ℕ) → Moves ≡ Home axis → ⊥
moves_home axis p = cc

-- where connecting ended, that is known
pub record IsLinked (m : Machine) (c : Course) (told : Option Told) (begun : List Started) (going : Option Going) : Type 0 where
  pub t : Told
  pub told_is : told ≡ Some t
  pub is : IsConnected m c t begun going

pub linked : (m : Machine) (c : Course) (told : Option Told) (begun : List Started) (going : Option Going) → c.connected ≡ true → KnowsConnecting m c told begun going → IsLinked m c told begun going
linked m c None begun going on h = absurd (true_false (sym on ∙ h.0))
linked m c (Some t) begun going on h = record { t = t; told_is = refl; is = h }

-- the sections before are over
over_by : (goes : Bool) (k ready : ℕ) (begun : List Started) → IsOpen goes (k + 1) begun → ((past : List Started) (s : Started) → begun ≡ past ++ s ∷ [] → ready ≡ s.end + 260) → ready ≤ k + 260 → AreDone (k + 1) begun
over_by false k ready begun done last le = done
over_by true k ready begun is last le =
    let s = is.1 in
    let at = last is.0 s is.2 in
    let l = is.4 in
    absurd (omega (arith, at, l, le))

-- what a section that is due says of a course
pub record IsDueIn (m : Machine) (c : Course) (seen : Seen) (k start dwell : ℕ) (kind : SectionKind) (rest : List Item) : Type 0 where
  pub t : Told
  pub told_is : seen.told ≡ Some t
  pub is : IsConnected m c t seen.begun seen.going
  pub idle : IsIdle m c seen.begun seen.going
  pub exact : start ≡ k + 260
  pub start_is : start ≡ ready_after t.first seen.begun + dwell
  pub over : AreDone (k + 1) seen.begun
  pub first : t.first ≤ start

pub due_in : (m : Machine) (c : Course) (seen : Seen) (k start dwell : ℕ) (kind : SectionKind) (rest : List Item) → IsCourseBy m c seen (k + 260) (k + 261) → c.next ≡ k + 1 → c.current ≡ opens.Nothing → c.connected ≡ true → c.source.items.items ≡ items.Begin kind dwell ∷ rest → start ≡ c.ready + dwell → start ≤ k + 260
    → IsDueIn m c seen k start dwell kind rest
due_in m c seen k start dwell kind rest h next nothing on its at soon =
    let l = linked m c seen.told seen.begun seen.going on h.told in
    let idle : IsIdle m c seen.begun seen.going = subst (λ o. IsGoing m o c seen.told seen.begun seen.going) nothing h.going in
    let ready : c.ready ≡ ready_after l.t.first seen.begun = l.is.ready idle.none in
    let early : IsLater (k + 260) (k + 261) c.ready c.source.end c.source.items.items = (subst (λ o. BeginsNoEarlier o (k + 260) (k + 261) c) nothing h.early) on in
    let least : k + 260 ≤ c.ready + dwell = begin_least c.source.end (subst (IsLater (k + 260) (k + 261) c.ready c.source.end) its early) in
    let late = l.is.late in
    record {
      t = l.t;
      told_is = l.told_is;
      is = l.is;
      idle = idle;
      exact = omega (arith, at, soon, least);
      start_is = at ∙ ap (λ r. r + dwell) ready;
      over = over_by c.goes k c.ready seen.begun (subst (λ n. IsOpen c.goes n seen.begun) next idle.goes) (λ past s e. ready ∙ ap (ready_after l.t.first) e ∙ ready_more l.t.first past s) (omega (arith, at, soon));
      first = omega (arith, at, ready, late);
    }
  where
    begin_least : (end : Option ReadEnd) → IsLater (k + 260) (k + 261) c.ready end (items.Begin kind dwell ∷ rest) → k + 260 ≤ c.ready + dwell
    begin_least None e = e
    begin_least (Some x) e = e

-- what was seen, with a section more
abbrev pub with_begun : Seen → List Started → Option Going → Seen
with_begun seen begun going = record { text = seen.text; ended = seen.ended; read = seen.read; told = seen.told; fresh = seen.fresh; next = seen.next; begun = begun; going = going }

-- what changes where a section is begun
pub record IsOpened (old new : Course) (start : ℕ) : Type 0 where
  pub read : new.read ≡ old.read
  pub connected : new.connected ≡ old.connected
  pub lines : new.lines ≡ old.lines
  pub place : new.place ≡ old.place + 1
  pub start_is : new.start ≡ start
  pub ahead : new.ahead ≡ old.ahead
  pub next : new.next ≡ old.next
  pub reader : new.source.reader ≡ old.source.reader
  pub end : new.source.end ≡ old.source.end
  pub ended : new.source.ended ≡ old.source.ended
  pub opened : new.source.opened ≡ old.source.opened

-- the text with things taken
pub source_on : (m : Machine) (old new : Source) (text : List ℕ) (ended : Bool) (told more : List Item) → new.reader ≡ old.reader → new.end ≡ old.end → new.ended ≡ old.ended → new.opened ≡ old.opened → told ++ old.items.items ≡ more ++ new.items.items → IsSourceOf m old text ended told → IsSourceOf m new text ended more
source_on m old new text ended told more reader end over opened same h = record {
  ended_is = over ∙ h.ended_is;
  goes = λ e. let g = h.goes (sym end ∙ e) in (g.0, subst (λ r. IsReaderOf r m text (more ++ new.items.items)) (sym reader) (subst (λ (is : List Item). IsReaderOf old.reader m text is) same g.1));
  reads = λ e. ap stop_of reader ∙ h.reads (sym end ∙ e);
  first = λ e fresh. sym same ∙ h.first (sym end ∙ e) (sym opened ∙ fresh);
  over = λ e is whole may. subst (λ (its : List Item). IsAll m whole e its) same (h.over e (sym end ∙ is) whole may);
}

-- a section that was begun: these moves were read
abbrev pub fresh : SectionKind → ℕ → ℕ → List Move → Bool → ℕ → ℕ → Going
fresh kind dwell start moves ends last moving = record { kind = kind; dwell = dwell; start = start; moves = moves; goes = not ends; last = last; moving = moving; released = λ b. [] }

section_source : (begun : List Started) (kind : SectionKind) (dwell start last moving : ℕ) (more : List Move) (ends : Bool) (rest left : List Item) → rest ≡ (moves_in more ++ ending ends) ++ left
    → items_of (sections_in begun) ++ items.Begin kind dwell ∷ rest ≡ items_read begun (Some (fresh kind dwell start more ends last moving)) ++ left
section_source begun kind dwell start last moving more ends rest left is =
    ap (λ r. items_of (sections_in begun) ++ items.Begin kind dwell ∷ r) (is ∙ ap (λ e. (moves_in more ++ ending e) ++ left) (sym (not_not ends)))
    ∙ sym (append_assoc (items_of (sections_in begun)) (items.Begin kind dwell ∷ (moves_in more ++ ending (not (not ends)))) left)

fresh_as : (kind : SectionKind) (m : Machine) (clocks : List Clocks) (next dwell start last moving : ℕ) (moves : List Move) (ends : Bool) → TellsAs kind m clocks start moves ends last moving → next + 1 ≤ start → map (lines_by (start + 17)) clocks ≡ clocks
    → GoesAs kind m clocks next (fresh kind dwell start moves ends last moving)
fresh_as Moves m clocks next dwell start last moving moves ends tells soon held = record { late = λ all f. (let e = end_after m clocks all start in omega (arith, e, soon)); last = tells.0; moving = tells.1 }
fresh_as (Home axis) m clocks next dwell start last moving moves ends tells soon held =
    record { whole = ap not tells.0; last = tells.1 ∙ ap (λ (cs : List Clocks). last_step m cs moves start) (sym held); soon = tells.2; moving = tells.3 }

pub section_begun : (m : Machine) (old new : Course) (seen : Seen) (k start dwell last moving : ℕ) (kind : SectionKind) (rest : List Item) (s : SectionStream) (homes : Bool) (n : NoteNews) → IsCourseBy m old seen (k + 260) (k + 261) → old.next ≡ k + 1 → k < 2 ^ 42
    → IsDueIn m old seen k start dwell kind rest → old.source.items.items ≡ items.Begin kind dwell ∷ rest → HasOpened m old.lines.each.items kind start rest new.source.items.items s last moving
    → IsOpened old new start → new.current ≡ opens.Goes s homes → homes ≡ is_home kind → new.ready ≡ old.ready → n ≡ news.Start old.place kind start last moving
    → (next : Seen) × IsBegun m seen next k (Some n) × IsCourseOf m new next
section_begun m old new seen k start dwell last moving kind rest s homes n h next small d its opened o current homes_is ready told =
    let t = d.t in
    let none = d.idle.none in
    let g = fresh kind dwell start opened.moves opened.ends last moving in
    let exact = d.exact in
    let n' = o.next in
    let seen_next : seen.next ≡ k + 1 = sym h.next ∙ next in
    let place : old.place ≡ length seen.begun = h.place ∙ ap (count_of seen.begun) none in
    let few = h.few in
    let p' = o.place in
    let from = opened.next in
    let held : map (lines_by (start + 17)) t.clocks ≡ t.clocks =
    lines_by_all t.clocks (start + 17) (subst (λ (cs : List Clocks). (b : ℕ) → b < length cs → AreHeldBy (start + 17) (clocks_at cs b).held) d.is.lines (λ b lt. subst (λ n. AreHeldBy n (clocks_at old.lines.each.items b).held) (let e : k + 261 + 16 ≡ start + 17 = omega (arith, exact) in e) (h.uptake.held b lt))) in
    let on : IsSectionOn m t.clocks start (is_home kind) s opened.moves (λ b. []) = subst (λ c. IsSectionOn m c start (is_home kind) s opened.moves (λ b. [])) d.is.lines opened.on in
    let tells : TellsAs kind m t.clocks start opened.moves opened.ends last moving = subst (λ c. TellsAs kind m c start opened.moves opened.ends last moving) d.is.lines opened.tells in (
      with_begun seen seen.begun (Some g),
      record {
        text = refl;
        ended = refl;
        read = refl;
        told = refl;
        fresh = refl;
        next = refl;
        sections = record { more = []; are = sym (append-nil seen.begun); moves = tt; goes = λ x e. inl (ap (λ (y : Going). y.start) (some_same x g (sym e)) ∙ exact) };
        grown = λ all w. grown_by seen.told d.told_is all w none seen_next place told exact;
      },
      record {
        machine = h.machine;
        source = source_on m old.source new.source seen.text seen.ended (items_read seen.begun seen.going) (items_read seen.begun (Some g)) o.reader o.end o.ended o.opened
            (ap (λ x. items_read seen.begun x ++ old.source.items.items) none ∙ ap (λ is. items_of (sections_in seen.begun) ++ is) its ∙ section_source seen.begun kind dwell start last moving opened.moves opened.ends rest new.source.items.items opened.items_are) h.source;
        read = o.read ∙ h.read;
        told = subst (λ x. KnowsConnecting m new x seen.begun (Some g)) (sym d.told_is) (record {
          connected = o.connected ∙ d.is.connected;
          lines = ap (λ x. x.each.items) o.lines ∙ d.is.lines;
          ready = λ e. absurd (none_some g (sym e));
          started = d.is.started;
          sent = d.is.sent;
          clocks = d.is.clocks;
          laid = laid_later m t.clocks (old.next + 268) (new.next + 268) seen.begun (omega (arith, n', next)) d.is.laid;
          first = d.is.first;
          late = d.is.late;
        });
        next = o.next ∙ h.next;
        small = omega (arith, n', next, small);
        place = p' ∙ ap (λ x. x + 1) place;
        few = omega (arith, few, p', n', next);
        going = subst (λ x. IsGoing m x new seen.told seen.begun (Some g)) (sym current) (record {
          g = g;
          is = refl;
          homes_is = homes_is;
          t = t;
          told_is = d.told_is;
          on = subst (λ b. IsSectionOn m t.clocks start b s opened.moves (λ b. [])) (sym homes_is) on;
          start = d.start_is;
          start_is = o.start_is;
          soon = omega (arith, exact, n', next);
          takes = opened.takes;
          next = omega (arith, from, exact, n', next);
          done = subst (λ x. AreDone x seen.begun) (sym next ∙ sym n') d.over;
          goes_as = fresh_as kind m t.clocks new.next dwell start last moving opened.moves opened.ends tells (omega (arith, exact, n', next)) held;
          fresh = λ e b. refl;
          rested = λ e. absurd (omega (arith, e, exact, n', next));
          before = λ b. tt;
          ahead = subst (λ x. AreAhead m x.items new.next seen.begun) (sym o.ahead) (subst (λ x. AreAhead m old.ahead.items x seen.begun) (sym n') d.idle.ahead);
        });
        early = subst (λ x. BeginsNoEarlier x (new.next + 260) (new.next + 260) new) (sym current) opened.stops;
        uptake = uptake_kept old new (k + 261) (new.next + 260) seen.fresh o.connected o.lines (omega (arith, n', next)) h.uptake;
      },
    )
  where
    grown_by : (told : Option Told) → told ≡ Some d.t → (all : List Started) → AreWhole m told seen.next seen.begun (Some (fresh kind dwell start opened.moves opened.ends last moving)) all → seen.going ≡ None → seen.next ≡ k + 1 → old.place ≡ length seen.begun → n ≡ news.Start old.place kind start last moving → start ≡ k + 260
        → AreBegun m seen k (Some n) all
    grown_by None e all w none at place news_is exact = absurd (none_some d.t e)
    grown_by (Some u) e all w none at place news_is exact =
        let x = w.0 in
        let is = w.2 in
        let starts = is.start in
        record {
          before = seen.begun;
          whole = whole_of seen.going none;
          are = inr (
            x,
            w.1,
            record {
              new = record {
                start = starts ∙ exact;
                late = starts_late kind m seen.next x is.ends;
                none = λ b j lt le. is.same b j lt (omega (arith, le, at));
              };
              told = ap Some (news_is ∙ ap (λ y. news.Start y kind start last moving) place ∙ ap (λ y. news.Start (length seen.begun) y start last moving) (sym (ap (λ (z : Section). z.kind) is.section))
                  ∙ ap (λ y. news.Start (length seen.begun) x.section.kind y last moving) (sym starts) ∙ ap (λ y. news.Start (length seen.begun) x.section.kind x.start y moving) (sym is.last) ∙ ap (λ y. news.Start (length seen.begun) x.section.kind x.start x.last y) (sym is.moving));
            },
          );
        }
      where
        whole_of : (going : Option Going) → going ≡ None → AreWhole m seen.told seen.next seen.begun going seen.begun
        whole_of None e = refl
        whole_of (Some g) e = absurd (none_some g (sym e))

-- none is due
not_later : (c : Course) (k : ℕ) (end : Option ReadEnd) (its : List Item) → ((kind : SectionKind) (dwell : ℕ) (rest : List Item) → its ≡ items.Begin kind dwell ∷ rest → k + 260 < c.ready + dwell) → IsLater (k + 260) (k + 261) c.ready end its → IsLater (k + 261) (k + 261) c.ready end its
not_later c k None [] due l = l
not_later c k (Some e) [] due l = tt
not_later c k None (items.Begin kind dwell ∷ its) due l = let d = due kind dwell its refl in omega (arith, d)
not_later c k (Some e) (items.Begin kind dwell ∷ its) due l = let d = due kind dwell its refl in omega (arith, d)
not_later c k None (items.Move one ∷ its) due l = tt
not_later c k (Some e) (items.Move one ∷ its) due l = tt
not_later c k None (items.End ∷ its) due l = tt
not_later c k (Some e) (items.End ∷ its) due l = tt

still_early : (o : Open) (c : Course) (k : ℕ) → (o ≡ opens.Nothing → c.connected ≡ true → (kind : SectionKind) (dwell : ℕ) (rest : List Item) → c.source.items.items ≡ items.Begin kind dwell ∷ rest → k + 260 < c.ready + dwell)
    → BeginsNoEarlier o (k + 260) (k + 261) c → BeginsNoEarlier o (k + 261) (k + 261) c
still_early opens.Nothing c k due e = λ on. not_later c k c.source.end c.source.items.items (due refl on) (e on)
still_early (opens.Goes s homes) c k due e = e

pub none_begun : (m : Machine) (c : Course) (seen : Seen) (k : ℕ) → c.next ≡ k + 1 → IsNotDue c (k + 260) → IsCourseBy m c seen (k + 260) (k + 261) → (next : Seen) × IsBegun m seen next k None × IsCourseOf m c next
none_begun m c seen k next due h =
    let few = h.few in (
      seen,
      record {
        text = refl;
        ended = refl;
        read = refl;
        told = refl;
        fresh = refl;
        next = refl;
        sections = same_go k seen.begun seen.going;
        grown = λ all w. record { before = all; whole = w; are = inl (refl, refl) };
      },
      record {
        machine = h.machine;
        source = h.source;
        read = h.read;
        told = h.told;
        next = h.next;
        small = h.small;
        place = h.place;
        few = omega (arith, few, next);
        going = h.going;
        early = subst (λ x. BeginsNoEarlier c.current x x c) (let e : k + 261 ≡ c.next + 260 = omega (arith, next) in e) (still_early c.current c k due h.early);
        uptake = uptake_kept c c (k + 261) (c.next + 260) seen.fresh refl refl (omega (arith, next)) h.uptake;
      },
    )

-- what holds where a section is due
pub due_at : (m : Machine) (c : Course) (seen : Seen) (k start : ℕ) (kind : SectionKind) (d : IsSectionDue c (k + 260) kind start) → c.next ≡ k + 1 → IsCourseBy m c seen (k + 260) (k + 261) → IsDueIn m c seen k start d.dwell kind d.rest
due_at m c seen k start kind d next h = due_in m c seen k start d.dwell kind d.rest h next d.nothing d.connected d.items_are d.start_is d.soon

pub due_clocks : (m : Machine) (c : Course) (seen : Seen) (k start : ℕ) (kind : SectionKind) → IsSectionDue c (k + 260) kind start → c.next ≡ k + 1 → IsCourseBy m c seen (k + 260) (k + 261) → AreBoardClocks m c.lines.each.items start
due_clocks m c seen k start kind d next h =
    let i = due_at m c seen k start kind d next h in
    subst (λ (x : List Clocks). AreBoardClocks m x start) (sym i.is.lines) (clocks_later m i.t.clocks i.t.first start i.first i.is.clocks)

pub due_exact : (m : Machine) (c : Course) (seen : Seen) (k start : ℕ) (kind : SectionKind) → IsSectionDue c (k + 260) kind start → c.next ≡ k + 1 → IsCourseBy m c seen (k + 260) (k + 261) → start ≡ k + 260
due_exact m c seen k start kind d next h = (due_at m c seen k start kind d next h).exact

pub due_good : (m : Machine) (c : Course) (seen : Seen) (turn free : ℕ) → IsCourseBy m c seen turn free → All IsGood c.source.items.items
due_good m c seen turn free h = waiting_good m c.source seen.text seen.ended (items_read seen.begun seen.going) h.source

-- the one move of a homing section
pub home_good : (one : Move) (left its : List Item) → its ≡ items.Move one ∷ left → All IsGood its → IsGood (items.Move one)
home_good one left its e h = All-head IsGood (items.Move one) left (subst (λ (is : List Item). All IsGood is) e h)

pub one_all : {X : Type 0} (P : X → Type 0) (x : X) → P x → All P (x ∷ [])
one_all P x p = All-cons P x [] p (All-nil P)

-- there are ticks for it
roomy : (l : Line) (start : ℕ) → IsValidLine l → l.clock < 2 ^ 62 → start < 2 ^ 42 + 260 → tick l ((start + 1 * turns_of_move) * turn_ns) < tick_limit - 2 ^ 32
roomy l start valid clock small =
    let time = (start + 1 * turns_of_move) * turn_ns - l.at in
    let f = valid.freq_high in
    let most : time * l.freq ≤ time * 200_000_000 = mul-le-mul_left time f in
    let long : time ≤ (2 ^ 42 + 260 + 30_000_000) * 1_000_000 = omega (arith, small) in
    let all : time * l.freq ≤ 890_000_000_000_000_000_000_000_000 = omega (arith, most, long) in
    let ticks : time * l.freq / 1_000_000_000 ≤ 890_000_000_000_000_000 = omega (arith, all) in
    omega (arith, ticks, clock)

-- six turns of a board have 25 ticks or more
apart_many : (clocks : Clocks) (k n : ℕ) → 1_000_000 ≤ clocks.first.freq → AreTurnsApart clocks → clocks.first.at ≤ k * turn_ns → lines_tick clocks (k * turn_ns) + 25 * n ≤ lines_tick clocks ((k + 6 * n) * turn_ns)
apart_many clocks k zero low apart begun =
    let e : k + 6 * 0 ≡ k = omega arith in
    let f = ap (λ j. lines_tick clocks (j * turn_ns)) e in
    omega (arith, f)
apart_many clocks k (suc n) low apart begun =
    let before = apart_many clocks k n low apart begun in
    let next = apart.turns (k + 6 * n) (omega (arith, begun)) in
    let e : k + 6 * n + 6 ≡ k + 6 * suc n = omega arith in
    let f = ap (λ j. lines_tick clocks (j * turn_ns)) e in
    omega (arith, before, next, f, low)

-- a board's lines have ticks for a homing section
board_ready : (clocks : Clocks) (start : ℕ) → IsLasting clocks → clocks.first.at ≤ start * turn_ns → start < 2 ^ 42 + 260 → IsReadyBoard clocks start 1
board_ready clocks start is begun small =
    let many = apart_many clocks (start + 17_421_001) (2 ^ 30) is.valid.freq_low is.apart (omega (arith, begun)) in
    let far = lines-small clocks ((start + 17_421_001 + 6 * 2 ^ 30) * turn_ns) is (omega (arith, small)) in
    let e : start * turn_ns + 1 * move_ns + turn_ns ≡ (start + 17_421_001) * turn_ns = omega arith in
    let f = ap (lines_tick clocks) e in
    record {
      kept = kept-lasting clocks is;
      before = begun;
      soon = last-soon clocks (start * turn_ns) is begun (omega (arith, small));
      planned = roomy clocks.first start is.valid is.clock_small small;
      room = omega (arith, many, far, f);
    }

pub home_ready : (m : Machine) (clocks : List Clocks) (one : Move) (start : ℕ) → IsValidMachine m → AreBoardClocks m clocks start → ((b : ℕ) → b < length m.boards → (clocks_at clocks b).first.clock < 2 ^ 62) → start < 2 ^ 42 + 260 → IsGood (items.Move one) → IsPlannable m clocks (one ∷ []) start
home_ready m clocks one start valid h early small good = record {
  machine = valid;
  boards = h.count;
  lines = λ b lt. record { freq = h.freq b lt; board = board_ready (clocks_at clocks b) start (h.lasting b lt (early b lt)) (h.before b lt) small };
  short = near_short (one ∷ []) (one_all IsValidMove one good.0) (one_all IsShortOrNear one good.1);
  few = omega arith;
  some = omega arith;
  turn_small = omega (arith, small);
}
