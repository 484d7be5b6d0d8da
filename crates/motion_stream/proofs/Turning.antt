-- A turn, from its parts.
use Rattle.std.proofs.Common.{◌≡◌, ℕ, ◌+◌, ◌<◌, ◌^◌, Bool, true, false, List, [], ◌∷◌, ◌++◌, All, length, append-nil, append_assoc, refl, ap, sym, subst, ◌∙◌, arith, inl, inr}
use Rattle.std.specs.Prelude.{◌⊎◌, Option, Some, None}
use Rattle.gcode_program.specs.Programs.{program_sections}
use Rattle.msg_code.specs.declared.talk.Note.{Note}
use Rattle.msg_code.specs.declared.talk.NoteNews.{NoteNews}
use Rattle.msg_code.specs.declared.talk.NoteNews.TheVariants as news
use Rattle.msg_code.specs.declared.unit.Batch.{Batch}
use Rattle.plan_types.specs.declared.machine.Machine.{Machine}
use Rattle.plan_types.specs.declared.plan.ReadEnd.{ReadEnd}
use Rattle.plan_types.specs.Sections.{clocks_at}
use Rattle.plan_types.specs.Lines.{Clocks}
use Rattle.step_feed.specs.Units.{StepUnit}
use Rattle.motion_work.specs.Begins.{news_items}
use Rattle.motion_work.specs.Feeds.{batches_at, units_at}
use Rattle.motion_work.specs.Puts.{IsPut, IsReadNews, begun_notes}
use Rattle.motion_work.specs.declared.told.BoardLine.{BoardLine}
use Rattle.motion_work.specs.Further.{AreFurther, WereHeard, told_on}
use Rattle.motion_work.specs.Seen.{AreMoves, AreOut, Started}
use Rattle.motion_work.specs.Turns.{done_notes, start_notes}
use Rattle.motion_work.specs.Told.{Told}
use Rattle.motion_work.proofs.Putting.{begun_before, begun_last, done_stay, same_on}
use Rattle.motion_stream.specs.declared.course.Course.{Course}
use Rattle.motion_stream.specs.declared.course.Open.{Open}
use Rattle.motion_stream.specs.declared.course.Open.TheVariants as opens
use Rattle.motion_stream.specs.Courses.{IsCourseBy, IsCourseOf, BeginsNoEarlier, IsGoing, IsSoundBy, KnowsConnecting}
use Rattle.motion_stream.specs.Motions.{AreEarly, TurnsCourse}
use Rattle.motion_stream.specs.News.{HasPutAll, IsPlain, begins_in, read_after, read_news}
use Rattle.motion_stream.specs.Puts.{AreGrown, SectionsGoOn, HaveBegun, IsNew}
use Rattle.motion_stream.specs.Seen.{AreWhole, Going, Seen}
use Rattle.motion_stream.specs.Steps.{Advances, AreBegun, BeginsSection, IsPassed}
use Rattle.motion_stream.specs.Uptakes.{TakesUp, emptied, lined}
use Rattle.motion_stream.proofs.Drawing.{boards_in_all, units_snoc, uptake_kept}
use Rattle.motion_stream.proofs.Leaving.{leaves_behind}
use Rattle.motion_stream.proofs.Opening.{linked}
use Rattle.motion_stream.proofs.Ending.{out_known, reading_told, tells_when, told_known}
use Rattle.plan_types.proofs.Facts.{true_false}

-- with how the text was read told
read_on : (m : Machine) (old new : Course) (seen : Seen) (read : Bool) → new ≡ record old { read = read } → IsCourseOf m old seen → IsCourseOf m new (record { text = seen.text; ended = seen.ended; read = read; told = seen.told; fresh = seen.fresh; next = seen.next; begun = seen.begun; going = seen.going })
read_on m old new seen read e h = subst (λ c. IsCourseOf m c (record { text = seen.text; ended = seen.ended; read = read; told = seen.told; fresh = seen.fresh; next = seen.next; begun = seen.begun; going = seen.going })) (sym e) (record {
  machine = h.machine;
  source = h.source;
  read = refl;
  told = told_as seen.told h.told;
  next = h.next;
  small = h.small;
  place = h.place;
  few = h.few;
  going = going_as old.current h.going;
  early = early_as old.current h.early;
  uptake = uptake_kept old (record old { read = read }) (old.next + 260) (old.next + 260) seen.fresh refl refl refl h.uptake;
})
  where
    told_as : (t : Option Told) → KnowsConnecting m old t seen.begun seen.going → KnowsConnecting m (record old { read = read }) t seen.begun seen.going
    told_as None i = i
    told_as (Some t) i = record { connected = i.connected; lines = i.lines; ready = i.ready; started = i.started; sent = i.sent; clocks = i.clocks; laid = i.laid; first = i.first; late = i.late }

    going_as : (o : Open) → IsGoing m o old seen.told seen.begun seen.going → IsGoing m o (record old { read = read }) seen.told seen.begun seen.going
    going_as opens.Nothing i = record { none = i.none; goes = i.goes; ahead = i.ahead }
    going_as (opens.Goes s homes) i = record {
      g = i.g;
      is = i.is;
      homes_is = i.homes_is;
      t = i.t;
      told_is = i.told_is;
      on = i.on;
      start = i.start;
      start_is = i.start_is;
      soon = i.soon;
      takes = i.takes;
      next = i.next;
      done = i.done;
      goes_as = i.goes_as;
      fresh = i.fresh;
      rested = i.rested;
      before = i.before;
      ahead = i.ahead;
    }

    early_as : (o : Open) → BeginsNoEarlier o (old.next + 260) (old.next + 260) old → BeginsNoEarlier o (old.next + 260) (old.next + 260) (record old { read = read })
    early_as opens.Nothing i = i
    early_as (opens.Goes s homes) i = i

-- the batches of one section more, of which nothing is released
batches_more : (m : Machine) (k : ℕ) (before : List Started) (s : Started) → IsNew m k s → batches_at (length m.boards) k (boards_in_all before) ≡ batches_at (length m.boards) k (boards_in_all (before ++ s ∷ []))
batches_more m k before s new =
    let B : List StepUnit → Batch = λ us. record { turn = k; units = us; end = false } in
    same_on (λ b. B (units_at b k (boards_in_all before))) (λ b. B (units_at b k (boards_in_all (before ++ s ∷ [])))) 0 (length m.boards) (length m.boards) (omega arith)
    (λ b lt. ap B (sym (units_snoc before s b k ∙ ap (λ us. units_at b k (boards_in_all before) ++ us) (new.none b k lt (omega arith)) ∙ append-nil (units_at b k (boards_in_all before)))))

-- what was seen before a turn
pub by_next : (m : Machine) (c : Course) (k : ℕ) → c.next ≡ k → IsSoundBy m c k → IsSoundBy m c c.next
by_next m c k at s = record { seen = s.seen; is = subst (λ n. IsCourseBy m c s.seen (n + 260) (n + 261)) (sym at) s.is }

-- what was told of the boards stays
pub early_on : (m : Machine) (old mid : Course) (seen next : Seen) (turn free : ℕ) → next.told ≡ seen.told → IsCourseBy m old seen turn free → IsCourseBy m mid next turn free → AreEarly m old → AreEarly m mid
early_on m old mid seen next turn free same h k early on =
    let l = linked m mid next.told next.begun next.going on k.told in
    by seen.told h.told (sym same ∙ l.told_is) l.is.lines
  where
    by : (told : Option Told) → KnowsConnecting m old told seen.begun seen.going → told ≡ Some (linked m mid next.told next.begun next.going on k.told).t → mid.lines.each.items ≡ (linked m mid next.told next.begun next.going on k.told).t.clocks → (b : ℕ) → b < length m.boards → (clocks_at mid.lines.each.items b).first.clock < 2 ^ 62
    by None i e lines = absurd (none_some e) where
      none_some : {X : Type 0} {x : X} → None ≡ Some x → ⊥
      none_some p = cc
    by (Some t) i e lines = subst (λ (x : List Clocks). (b : ℕ) → b < length m.boards → (clocks_at x b).first.clock < 2 ^ 62) (i.lines ∙ ap (λ (x : Told). x.clocks) (same_told e) ∙ sym lines) (early i.connected) where
      same_told : {x y : Told} → Some x ≡ Some y → x ≡ y
      same_told p = cc

-- news that tell no further line
told_plain : (o : Option NoteNews) (ns : List NoteNews) (t : Option Told) → IsPlain o → told_on (news_items o ++ ns) t ≡ told_on ns t
told_plain None ns t h = refl
told_plain (Some n) ns None h = refl
told_plain (Some (news.Start section kind turn last moving)) ns (Some t) h = refl
told_plain (Some (news.Done section turn)) ns (Some t) h = refl
told_plain (Some (news.Read end sections)) ns (Some t) h = absurd h
told_plain (Some (news.Line board line from)) ns (Some t) h = absurd h

heard_plain : (heard : List BoardLine) (o : Option NoteNews) (ns : List NoteNews) → IsPlain o → WereHeard heard ns → WereHeard heard (news_items o ++ ns)
heard_plain heard None ns h w = w
heard_plain heard (Some (news.Start section kind turn last moving)) ns h w = w
heard_plain heard (Some (news.Done section turn)) ns h w = w
heard_plain heard (Some (news.Read end sections)) ns h w = absurd h
heard_plain heard (Some (news.Line board line from)) ns h w = absurd h

told_reading : (told : Bool) (end : Option ReadEnd) (sections : ℕ) (ns : List NoteNews) (t : Option Told) → told_on (news_items (read_news told end sections) ++ ns) t ≡ told_on ns t
told_reading told None sections ns t = refl
told_reading true (Some end) sections ns t = refl
told_reading false (Some end) sections ns None = refl
told_reading false (Some end) sections ns (Some t) = refl

heard_reading : (heard : List BoardLine) (told : Bool) (end : Option ReadEnd) (sections : ℕ) (ns : List NoteNews) → WereHeard heard ns → WereHeard heard (news_items (read_news told end sections) ++ ns)
heard_reading heard told None sections ns w = w
heard_reading heard true (Some end) sections ns w = w
heard_reading heard false (Some end) sections ns w = w

-- whole sections don't ask which lines were told
pub whole_lined : (m : Machine) (ns : List NoteNews) (told : Option Told) (next : ℕ) (begun all : List Started) (going : Option Going) → AreWhole m (told_on ns told) next begun going all → AreWhole m told next begun going all
whole_lined m ns None next begun all None w = w
whole_lined m ns None next begun all (Some g) w = w
whole_lined m ns (Some t) next begun all None w = w
whole_lined m ns (Some t) next begun all (Some g) w = w

-- one step behind another
moves_both : (xs ys : List Started) → AreMoves xs → AreMoves ys → AreMoves (xs ++ ys)
moves_both [] ys a b = b
moves_both (x ∷ xs) ys a b = (a.0, moves_both xs ys a.1 b)

both_go : (k : ℕ) (a b c : List Started) (x y z : Option Going) → SectionsGoOn k a x b y → SectionsGoOn k b y c z → SectionsGoOn k a x c z
both_go k a b c x y z h i = record {
  more = h.more ++ i.more;
  are = i.are ∙ ap (λ s. s ++ i.more) h.are ∙ append_assoc a h.more i.more;
  moves = moves_both h.more i.more h.moves i.moves;
  goes = λ g e. elim (i.goes g e) [
    | inl start ↦ inl start
    | inr p ↦ let (f, was, kind, start) = p in elim (h.goes f was) [ inl at ↦ inl (start ∙ at) | inr q ↦ let (d, first, kind', start') = q in inr (d, first, kind ∙ kind', start ∙ start') ]
  ];
}

-- a turn
pub turned : (m : Machine) (old first mid begun new : Course) (k : ℕ) (further : List NoteNews) (batches : List Batch) (done start : Option NoteNews) (note : Note) (read : Bool) (end : Option ReadEnd) → (end ≡ None) ⊎ ((end ≡ begun.source.end) × HasPutAll (length m.boards) begun)
    → (HasPutAll (length m.boards) begun → end ≡ begun.source.end) → read ≡ read_after begun.read end → old.next ≡ k → IsPlain done → IsPlain start → TakesUp m old k further first → Advances m first k batches done mid → BeginsSection m mid k start begun → new ≡ record begun { read = read } → note.turn ≡ k
    → note.news ≡ news_items done ++ (news_items start ++ (news_items (read_news begun.read end (begun.place + begins_in begun.source.items.items)) ++ further)) → TurnsCourse m old k batches note new
turned m old first mid begun new k further batches done start note read end known told_all after at plain_done plain_start takes passes begins new_is turn told seen h =
    let u = takes seen h in
    let a = passes (lined (emptied seen) further) u.is in
    let b = begins a.0 a.2 in
    let next = b.0 in
    let now : Seen = record { text = next.text; ended = next.ended; read = read; told = next.told; fresh = next.fresh; next = next.next; begun = next.begun; going = next.going } in
    let p = a.1 in
    let q = b.1 in
    let behind : begun.next ≡ k + 1 = b.2.next ∙ q.next ∙ p.next ∙ ap (λ n. n + 1) (sym h.next ∙ at) in
    let r = news_items (read_news begun.read end (begun.place + begins_in begun.source.items.items)) in
    let tail = news_items start ++ (r ++ further) in
    let same : told_on note.news seen.told ≡ told_on further seen.told =
    ap (λ ns. told_on ns seen.told) told ∙ told_plain done tail seen.told plain_done ∙ told_plain start (r ++ further) seen.told plain_start ∙ told_reading begun.read end (begun.place + begins_in begun.source.items.items) further seen.told in (
      now,
      record {
        text = q.text ∙ p.text;
        ended = q.ended ∙ p.ended;
        told = q.told ∙ p.told ∙ sym same;
        fresh = q.fresh ∙ p.fresh;
        heard = subst (WereHeard seen.fresh) (sym told) (heard_plain seen.fresh done tail plain_done (heard_plain seen.fresh start (r ++ further) plain_start (heard_reading seen.fresh begun.read end (begun.place + begins_in begun.source.items.items) further u.heard)));
        taken = λ t is. leaves_behind m t.clocks k further note.news (news_items done) (news_items start) r seen.fresh told (u.taken t is);
        next = q.next ∙ p.next;
        reading = reading_told m begun seen next now k (begun.next + 260) (begun.next + 260) end note.news b.2 behind (q.text ∙ p.text) (q.ended ∙ p.ended) (b.2.read ∙ q.read ∙ p.read) refl after known told_all (tells_when done start begun.read end (begun.place + begins_in begun.source.items.items) k further note.news plain_done plain_start u.further_are told);
        sections = both_go k seen.begun a.0.begun next.begun seen.going a.0.going next.going p.sections q.sections;
        grown = λ all w. grown_by all (q.grown all w) p;
      },
      λ started whole all may. put_by all whole (q.grown all may.sections) p started u.further_are (told_known m begun next whole all (begun.next + 260) (begun.next + 260) begun.read end (elim known [ inl e ↦ inl e | inr e ↦ inr e.0 ]) b.2 (record { text = may.text; sections = may.sections }))
          (out_known m begun next whole all k (begun.next + 260) (begun.next + 260) begun.read end known b.2 (record { text = may.text; sections = may.sections }) behind),
      read_on m begun new next read new_is b.2,
    )
  where
    grown_by : {a : Seen} (all : List Started) → AreBegun m a k start all → IsPassed m (lined (emptied seen) further) a k batches done → AreGrown m seen k all
    grown_by all g p = record { old = g.before; whole = whole_lined m further seen.told seen.next seen.begun g.before seen.going (p.whole g.before g.whole); are = elim g.are [ inl e ↦ inl e.0 | inr e ↦ inr (e.0, e.1, e.2.new) ] }

    put_by : {a : Seen} (all : List Started) (whole : List ℕ) → AreBegun m a k start all → IsPassed m (lined (emptied seen) further) a k batches done → HaveBegun m seen k → AreFurther k further → IsReadNews m whole (news_items (read_news begun.read end (begun.place + begins_in begun.source.items.items)))
        → (news_items (read_news begun.read end (begun.place + begins_in begun.source.items.items)) ≡ []) ⊎ AreOut (length m.boards) k (length (program_sections m whole)) all → IsPut m whole all k (record { batches = batches; note = note })
    put_by all whole g p started is_further is_read out =
        let before = g.before in
        let was = whole_lined m further seen.told seen.next seen.begun before seen.going (p.whole before g.whole) in
        let early : All (λ s. s.start < k + 260) before = started before was in
        let r = news_items (read_news begun.read end (begun.place + begins_in begun.source.items.items)) ++ further in
        let d = p.done_is before g.whole in
        let none : begun_notes k 0 before ≡ [] = begun_before k 0 before early in
        elim g.are [
          | inl e ↦ record {
            batches_are = p.batches_are before g.whole ∙ ap (λ x. batches_at (length m.boards) k (boards_in_all x)) (sym e.0);
            turn = turn;
            read = news_items (read_news begun.read end (begun.place + begins_in begun.source.items.items));
            is_read = is_read;
            out = out;
            further = further;
            are_further = is_further;
            news_are = told ∙ ap (λ x. x ++ (news_items start ++ r)) d ∙ ap (λ x. done_notes k 0 before ++ (news_items x ++ r)) e.1 ∙ ap (λ x. done_notes k 0 before ++ (x ++ r)) (sym none) ∙ ap (λ x. done_notes k 0 x ++ (begun_notes k 0 x ++ r)) (sym e.0);
          }
          | inr e ↦ (
              let s = e.0 in
              let new = e.2.new in
              let st = new.start in
              let late = new.late in
              let last : begun_notes k 0 (before ++ s ∷ []) ≡ start_notes (0 + length before) (s ∷ []) = begun_last k 0 before s early st in
              let size : 0 + length before ≡ length before = omega arith in
              record {
                batches_are = p.batches_are before g.whole ∙ batches_more m k before s new ∙ ap (λ x. batches_at (length m.boards) k (boards_in_all x)) (sym e.1);
                turn = turn;
                read = news_items (read_news begun.read end (begun.place + begins_in begun.source.items.items));
                is_read = is_read;
                out = out;
                further = further;
                are_further = is_further;
                news_are = told ∙ ap (λ x. x ++ (news_items start ++ r)) (d ∙ done_stay k 0 before s (λ x. omega (arith, x, st, late))) ∙ ap (λ x. done_notes k 0 (before ++ s ∷ []) ++ (news_items x ++ r)) e.2.told
                    ∙ ap (λ n. done_notes k 0 (before ++ s ∷ []) ++ ((news.Start n s.section.kind s.start s.last s.moving ∷ []) ++ r)) (sym size) ∙ ap (λ x. done_notes k 0 (before ++ s ∷ []) ++ (x ++ r)) (sym last) ∙ ap (λ x. done_notes k 0 x ++ (begun_notes k 0 x ++ r)) (sym e.1);
              })
        ]
