-- How the text was read, as it is told.
use Rattle.std.proofs.Common.{◌≡◌, ℕ, zero, suc, ◌+◌, ◌-◌, ◌<◌, ◌≤◌, Bool, true, false, not, List, [], ◌∷◌, ◌++◌, get_or, length, refl, ap, sym, subst, take, ◌∙◌, arith, inl, inr}
use Rattle.std.proofs.lemmas.List.{length-append, length-map, take_more}
use Rattle.std.specs.Prelude.{◌⊎◌, ◌||◌, slice_index_or, Option, Some, None}
use Rattle.gcode_program.specs.declared.items.Item.{Item}
use Rattle.gcode_program.specs.declared.items.Item.TheVariants as items
use Rattle.gcode_program.specs.Items.{ending, items_in, items_of, moves_in}
use Rattle.gcode_program.specs.Programs.{program_sections}
use Rattle.gcode_program.proofs.Sorting.{told_front}
use Rattle.msg_code.specs.declared.talk.NoteNews.{NoteNews}
use Rattle.msg_code.specs.declared.talk.NoteNews.TheVariants as news
use Rattle.plan_types.specs.declared.machine.Machine.{Machine}
use Rattle.plan_types.specs.declared.plan.Move.{Move}
use Rattle.plan_types.specs.declared.plan.ReadEnd.{ReadEnd}
use Rattle.plan_types.specs.declared.plan.Section.{Section}
use Rattle.step_feed.specs.Pacing.{batch_at}
use Rattle.motion_work.specs.Begins.{news_items}
use Rattle.motion_work.specs.Feeds.{units_at}
use Rattle.motion_work.specs.Further.{AreFurther}
use Rattle.motion_work.specs.Puts.{IsReadNews}
use Rattle.motion_work.specs.Seen.{AreDone, AreOut, IsOpen, Started}
use Rattle.motion_stream.specs.declared.course.Course.{Course}
use Rattle.motion_stream.specs.declared.course.Open.{Open}
use Rattle.motion_stream.specs.declared.course.Open.TheVariants as opens
use Rattle.motion_stream.specs.Courses.{IsCourseBy, IsGoing, IsIdle, row_at}
use Rattle.motion_stream.specs.News.{HasPutAll, IsPlain, begins_in, read_after, read_news, tells_read}
use Rattle.motion_stream.specs.Puts.{TellsReading}
use Rattle.motion_stream.specs.Seen.{Going, MayBe, Seen, count_of, items_read, sections_in}
use Rattle.motion_stream.specs.Texts.{IsSourceOf, MayBecome}
use Rattle.motion_stream.proofs.Drawing.{boards_in_all, whole_none}
use Rattle.plan_types.proofs.Facts.{true_false, none_long, some_none}

-- how many sections begin
pub begins_append : (xs ys : List Item) → begins_in (xs ++ ys) ≡ begins_in xs + begins_in ys
begins_append [] ys = omega arith
begins_append (items.Begin kind dwell ∷ xs) ys = let e = begins_append xs ys in omega (arith, e)
begins_append (items.Move one ∷ xs) ys = begins_append xs ys
begins_append (items.End ∷ xs) ys = begins_append xs ys

no_moves : (ms : List Move) (rest : List Item) → begins_in (moves_in ms ++ rest) ≡ begins_in rest
no_moves [] rest = refl
no_moves (m ∷ ms) rest = no_moves ms rest

begins_of : (ss : List Section) → begins_in (items_of ss) ≡ length ss
begins_of [] = refl
begins_of (s ∷ ss) =
    let own : begins_in (items_in s) ≡ 1 = (let e = no_moves s.moves (items.End ∷ []) in omega (arith, e)) in
    let e = begins_append (items_in s) (items_of ss) in
    let l = begins_of ss in
    omega (arith, own, e, l)

ending_none : (b : Bool) → begins_in (ending b) ≡ 0
ending_none true = refl
ending_none false = refl

begins_read : (begun : List Started) (going : Option Going) → begins_in (items_read begun going) ≡ count_of begun going
begins_read begun None = begins_of (sections_in begun) ∙ length-map begun (λ (s : Started). s.section)
begins_read begun (Some g) =
    let front = begins_of (sections_in begun) ∙ length-map begun (λ (s : Started). s.section) in
    let own : begins_in (moves_in g.moves ++ ending (not g.goes)) ≡ 0 = no_moves g.moves (ending (not g.goes)) ∙ ending_none (not g.goes) in
    let e = begins_append (items_of (sections_in begun)) (items.Begin g.kind g.dwell ∷ (moves_in g.moves ++ ending (not g.goes))) in
    omega (arith, front, own, e)

-- how many sections it has
read_count : (m : Machine) (c : Course) (seen : Seen) (whole : List ℕ) (turn free : ℕ) (x : ReadEnd) → c.source.end ≡ Some x → IsCourseBy m c seen turn free → MayBecome seen.ended seen.text whole → c.place + begins_in c.source.items.items ≡ length (program_sections m whole)
read_count m c seen whole turn free x e h may =
    let over = h.source.over x e whole may in
    let p = h.place in
    let b = begins_read seen.begun seen.going in
    let a = begins_append (items_read seen.begun seen.going) c.source.items.items in
    let o = ap begins_in over.items in
    let s = begins_of (program_sections m whole) in
    omega (arith, p, b, a, o, s)

-- how the text was read, as it is told
told_read : (m : Machine) (c : Course) (seen : Seen) (whole : List ℕ) (all : List Started) (turn free : ℕ) (told : Bool) (end : Option ReadEnd) → c.source.end ≡ end → IsCourseBy m c seen turn free → MayBe m seen whole all → IsReadNews m whole (news_items (read_news told end (c.place + begins_in c.source.items.items)))
told_read m c seen whole all turn free told None e h may = inl refl
told_read m c seen whole all turn free true (Some x) e h may = inl refl
told_read m c seen whole all turn free false (Some x) e h may =
    let over = h.source.over x e whole may.text in
    inr (ap (λ n. news.Read x n ∷ []) (read_count m c seen whole turn free x e h may.text) ∙ ap (λ y. news.Read y (length (program_sections m whole)) ∷ []) (sym over.end_is))

-- or not yet
pub told_known : (m : Machine) (c : Course) (seen : Seen) (whole : List ℕ) (all : List Started) (turn free : ℕ) (told : Bool) (end : Option ReadEnd) → (end ≡ None) ⊎ (end ≡ c.source.end) → IsCourseBy m c seen turn free → MayBe m seen whole all
    → IsReadNews m whole (news_items (read_news told end (c.place + begins_in c.source.items.items)))
told_known m c seen whole all turn free told end (inl e) h may = subst (λ x. IsReadNews m whole (news_items (read_news told x (c.place + begins_in c.source.items.items)))) (sym e) (inl refl)
told_known m c seen whole all turn free told end (inr e) h may = told_read m c seen whole all turn free told end (sym e) h may

none_left : {X : Type 0} (xs ys : List X) → xs ++ ys ≡ [] → (xs ≡ []) × (ys ≡ [])
none_left [] ys e = (refl, e)
none_left (x ∷ xs) ys e = absurd cc

-- sections that ended, none of whose units waits
all_out : (boards k next n : ℕ) (begun : List Started) → n ≤ length begun → next ≡ k + 1 → AreDone next begun → ((b j : ℕ) → b < boards → k < j → units_at b j (boards_in_all begun) ≡ []) → AreOut boards k n begun
all_out boards k next zero begun many at done none = tt
all_out boards k next (suc n) [] many at done none = absurd (omega (arith, many))
all_out boards k next (suc n) (s ∷ begun) many at done none =
    let each : (b j : ℕ) → b < boards → k < j → (batch_at j (slice_index_or s.boards b []) ≡ []) × (units_at b j (boards_in_all begun) ≡ []) =
    λ b j lt late. none_left (batch_at j (slice_index_or s.boards b [])) (units_at b j (boards_in_all begun)) (none b j lt late) in
    let ended = done.0 in
    ((omega (arith, at, ended), λ b j lt late. (each b j lt late).0), all_out boards k next n begun (omega (arith, many)) at done.1 (λ b j lt late. (each b j lt late).1))

-- so it is of all sections of a text, where how it was read is told
out_begun : (m : Machine) (c : Course) (seen : Seen) (whole : List ℕ) (k turn free : ℕ) (end : Option ReadEnd) → (end ≡ None) ⊎ ((end ≡ c.source.end) × HasPutAll (length m.boards) c) → IsCourseBy m c seen turn free → MayBecome seen.ended seen.text whole → c.next ≡ k + 1
    → (x : ReadEnd) → end ≡ Some x → AreOut (length m.boards) k (length (program_sections m whole)) seen.begun × (seen.going ≡ None)
out_begun m c seen whole k turn free end (inl none) h may at x is = absurd (some_none (sym is ∙ none))
out_begun m c seen whole k turn free end (inr (e, put)) h may at x is =
    let n = length (program_sections m whole) in
    let i : IsIdle m c seen.begun seen.going = subst (λ o. IsGoing m o c seen.told seen.begun seen.going) put.nothing h.going in
    let done : AreDone c.next seen.begun = subst (λ (goes : Bool). IsOpen goes c.next seen.begun) put.ended i.goes in
    let none : (b j : ℕ) → b < length m.boards → k < j → units_at b j (boards_in_all seen.begun) ≡ [] =
    λ b j lt late.
    (let at_j : c.next + (j - c.next) ≡ j = omega (arith, late, at) in
    subst (λ l. units_at b l (boards_in_all seen.begun) ≡ []) at_j (i.ahead.units (j - c.next) b lt ∙ put.ahead (j - c.next) b lt)) in
    let count = read_count m c seen whole turn free x (sym e ∙ is) h may in
    let place : c.place ≡ length seen.begun = h.place ∙ ap (count_of seen.begun) i.none in
    let left = ap begins_in put.items in
    (all_out (length m.boards) k c.next n seen.begun (omega (arith, count, place, left)) at done none, i.none)

pub out_known : (m : Machine) (c : Course) (seen : Seen) (whole : List ℕ) (all : List Started) (k turn free : ℕ) (told : Bool) (end : Option ReadEnd) → (end ≡ None) ⊎ ((end ≡ c.source.end) × HasPutAll (length m.boards) c) → IsCourseBy m c seen turn free → MayBe m seen whole all → c.next ≡ k + 1
    → (news_items (read_news told end (c.place + begins_in c.source.items.items)) ≡ []) ⊎ AreOut (length m.boards) k (length (program_sections m whole)) all
out_known m c seen whole all k turn free told None known h may at = inl refl
out_known m c seen whole all k turn free true (Some x) known h may at = inl refl
out_known m c seen whole all k turn free false (Some x) known h may at =
    let out = out_begun m c seen whole k turn free (Some x) known h may.text at x refl in
    inr (subst (AreOut (length m.boards) k (length (program_sections m whole))) (sym (whole_none m seen.told seen.next seen.begun all seen.going out.1 may.sections)) out.0)

-- sections that are out are so many, ended, and have no unit left
out_few : (boards k n : ℕ) (begun : List Started) → AreOut boards k n begun → n ≤ length begun
out_few boards k zero begun out = omega arith
out_few boards k (suc n) [] out = absurd out
out_few boards k (suc n) (s ∷ begun) out = let few = out_few boards k n begun out.1 in omega (arith, few)

out_last : (boards k n : ℕ) (past : List Started) (s : Started) → length past < n → AreOut boards k n (past ++ s ∷ []) → s.end ≤ k
out_last boards k zero past s lt out = absurd (omega (arith, lt))
out_last boards k (suc n) [] s lt out = out.0.0
out_last boards k (suc n) (x ∷ past) s lt out = out_last boards k n past s (omega (arith, lt)) out.1

out_none : (boards k n b j : ℕ) (begun : List Started) → length begun ≤ n → b < boards → k < j → AreOut boards k n begun → units_at b j (boards_in_all begun) ≡ []
out_none boards k n b j [] le lt late out = refl
out_none boards k zero b j (s ∷ begun) le lt late out = absurd (omega (arith, le))
out_none boards k (suc n) b j (s ∷ begun) le lt late out = ap (λ us. us ++ units_at b j (boards_in_all begun)) (out.0.1 b j lt late) ∙ out_none boards k n b j begun (omega (arith, le)) lt late out.1

-- what goes on where no section is known to
idle_by : (m : Machine) (o : Open) (c : Course) (seen : Seen) → IsGoing m o c seen.told seen.begun seen.going → seen.going ≡ None → (o ≡ opens.Nothing) × IsOpen c.goes c.next seen.begun × ((i b : ℕ) → b < length m.boards → units_at b (c.next + i) (boards_in_all seen.begun) ≡ row_at c.ahead.items i b)
idle_by m opens.Nothing c seen i none = (refl, i.goes, i.ahead.units)
idle_by m (opens.Goes s homes) c seen i none = absurd (some_none (sym i.is ∙ none))

not_on : (m : Machine) (goes : Bool) (next k n : ℕ) (begun : List Started) → IsOpen goes next begun → next ≡ k + 1 → length begun ≤ n → AreOut (length m.boards) k n begun → goes ≡ false
not_on m false next k n begun on at le out = refl
not_on m true next k n begun (past, s, are, done, late, start) at le out =
    let long = ap length are ∙ length-append past (s ∷ []) in
    let ended = out_last (length m.boards) k n past s (omega (arith, long, le)) (subst (AreOut (length m.boards) k n) are out) in
    absurd (omega (arith, ended, late, at))

none_goes : (begun : List Started) (going : Option Going) → count_of begun going ≤ length begun → going ≡ None
none_goes begun None le = refl
none_goes begun (Some g) le = absurd (omega (arith, le))

-- where all is out, all is put
put_all : (m : Machine) (c : Course) (seen : Seen) (whole : List ℕ) (k turn free : ℕ) (x : ReadEnd) → c.source.end ≡ Some x → IsCourseBy m c seen turn free → MayBecome seen.ended seen.text whole → c.next ≡ k + 1 → AreOut (length m.boards) k (length (program_sections m whole)) seen.begun → HasPutAll (length m.boards) c
put_all m c seen whole k turn free x e h may at out =
    let n = length (program_sections m whole) in
    let few = out_few (length m.boards) k n seen.begun out in
    let count = read_count m c seen whole turn free x e h may in
    let place = h.place in
    let none = none_goes seen.begun seen.going (omega (arith, few, count, place)) in
    let all : length seen.begun ≤ n = (let own = ap (count_of seen.begun) none in omega (arith, count, place, own)) in
    let idle = idle_by m c.current c seen h.going none in
    let told = (h.source.over x e whole may).items ∙ ap (λ g. items_read seen.begun g ++ c.source.items.items) none in
    let f = told_front (sections_in seen.begun) (program_sections m whole) c.source.items.items told in
    let no_others : f.0 ≡ [] = none_long f.0 (let l = ap length f.1 ∙ length-append (sections_in seen.begun) f.0 in let s = length-map seen.begun (λ (y : Started). y.section) in omega (arith, l, s, few)) in
    record {
      nothing = idle.0;
      ended = not_on m c.goes c.next k n seen.begun idle.1 at all out;
      items = sym f.2 ∙ ap items_of no_others;
      ahead = λ i b lt. sym (idle.2 i b lt) ∙ out_none (length m.boards) k n b (c.next + i) seen.begun all lt (omega (arith, at)) out;
    }

-- only one piece of news tells it
read_plain : (o : Option NoteNews) (ns : List NoteNews) → IsPlain o → tells_read (news_items o ++ ns) ≡ tells_read ns
read_plain None ns h = refl
read_plain (Some (news.Start section kind turn last moving)) ns h = refl
read_plain (Some (news.Done section turn)) ns h = refl
read_plain (Some (news.Read end sections)) ns h = absurd h
read_plain (Some (news.Line board line from)) ns h = absurd h

read_further : (k : ℕ) (ns : List NoteNews) → AreFurther k ns → tells_read ns ≡ false
read_further k [] are = refl
read_further k (news.Line board line from ∷ ns) are = read_further k ns are.1
read_further k (news.Start section kind turn last moving ∷ ns) are = absurd are
read_further k (news.Done section turn ∷ ns) are = absurd are
read_further k (news.Read end sections ∷ ns) are = absurd are

-- it is told where it is known and was not told before
abbrev tells : Bool → Option ReadEnd → Bool
tells told None = false
tells true (Some end) = false
tells false (Some end) = true

read_alone : (told : Bool) (end : Option ReadEnd) (sections k : ℕ) (further : List NoteNews) → AreFurther k further → tells_read (news_items (read_news told end sections) ++ further) ≡ tells told end
read_alone told None sections k further are = read_further k further are
read_alone true (Some end) sections k further are = read_further k further are
read_alone false (Some end) sections k further are = refl

pub tells_when : (done start : Option NoteNews) (told : Bool) (end : Option ReadEnd) (sections k : ℕ) (further ns : List NoteNews) → IsPlain done → IsPlain start → AreFurther k further → ns ≡ news_items done ++ (news_items start ++ (news_items (read_news told end sections) ++ further)) → tells_read ns ≡ tells told end
tells_when done start told end sections k further ns plain_done plain_start are is =
    ap tells_read is ∙ read_plain done (news_items start ++ (news_items (read_news told end sections) ++ further)) plain_done ∙ read_plain start (news_items (read_news told end sections) ++ further) plain_start ∙ read_alone told end sections k further are

after_is : (told : Bool) (end : Option ReadEnd) → read_after told end ≡ (told || tells told end)
after_is true None = refl
after_is false None = refl
after_is true (Some end) = refl
after_is false (Some end) = refl

tells_once : (told : Bool) (end : Option ReadEnd) → tells told end ≡ true → (told ≡ false) × ((x : ReadEnd) × (end ≡ Some x))
tells_once told None e = absurd (true_false (sym e))
tells_once true (Some end) e = absurd (true_false (sym e))
tells_once false (Some end) e = (refl, (end, refl))

known_one : (end : Option ReadEnd) → (end ≡ None → ⊥) → (x : ReadEnd) × (end ≡ Some x)
known_one None some = absurd (some refl)
known_one (Some x) some = (x, refl)

-- how the text was read is told in its turn
pub reading_told : (m : Machine) (c : Course) (old next : Seen) (now : Seen) (k turn free : ℕ) (end : Option ReadEnd) (ns : List NoteNews) → IsCourseBy m c next turn free → c.next ≡ k + 1 → next.text ≡ old.text → next.ended ≡ old.ended → c.read ≡ old.read → now.begun ≡ next.begun → now.read ≡ read_after c.read end
    → (end ≡ None) ⊎ ((end ≡ c.source.end) × HasPutAll (length m.boards) c) → (HasPutAll (length m.boards) c → end ≡ c.source.end) → tells_read ns ≡ tells c.read end → TellsReading m old now k ns
reading_told m c old next now k turn free end ns h at text ended read begun after known told_all is =
    let may : (whole : List ℕ) → MayBecome old.ended old.text whole → MayBecome next.ended next.text whole =
    λ whole w. subst (λ b. MayBecome b next.text whole) (sym ended) (subst (λ (t : List ℕ). MayBecome old.ended t whole) (sym text) w) in
    record {
      read = after ∙ after_is c.read end ∙ ap (λ b. b || tells c.read end) read ∙ ap (λ b. old.read || b) (sym is);
      once = λ e. sym read ∙ (tells_once c.read end (sym is ∙ e)).0;
      out = λ e whole w.
          let x = (tells_once c.read end (sym is ∙ e)).1 in
          subst (AreOut (length m.boards) k (length (program_sections m whole))) (sym begun) (out_begun m c next whole k turn free end known h (may whole w) at x.0 x.1).0;
      told = λ first over whole w out.
          let x = known_one c.source.end (over c.source (items_read next.begun next.going) (subst (λ b. IsSourceOf m c.source old.text b (items_read next.begun next.going)) ended (subst (λ (t : List ℕ). IsSourceOf m c.source t next.ended (items_read next.begun next.going)) text h.source))) in
          let all = put_all m c next whole k turn free x.0 x.1 h (may whole w) at (subst (AreOut (length m.boards) k (length (program_sections m whole))) begun out) in
          is ∙ ap (λ b. tells b end) (read ∙ first) ∙ ap (tells false) (told_all all ∙ x.1);
    }

-- how many sections begin among the first things
pub begins_next : (xs : List Item) (i : ℕ) (x : Item) → i < length xs → x ≡ get_or xs i x → begins_in (take (i + 1) xs) ≡ begins_in (take i xs) + begins_in (x ∷ [])
begins_next xs i x lt is = ap begins_in (take_more xs i x lt ∙ ap (λ (y : Item). take i xs ++ y ∷ []) (sym is)) ∙ begins_append (take i xs) (x ∷ [])
