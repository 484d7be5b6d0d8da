-- The turns before the one that a note tells as clear.
use Rattle.std.proofs.Common.{◌≡◌, ℕ, ◌+◌, ◌-◌, ◌/◌, ◌≤◌, ◌^◌, All, Bool, true, false, max, List, [], ◌∷◌, ◌++◌, refl, ap, sym, subst, ◌∙◌, arith, inl, inr}
use Rattle.std.proofs.lemmas.List.Elements.{All-append, All-cons, All-nil}
use Rattle.std.specs.Prelude.{◌&&◌, Option, Some, None, is_some, nat_lt, if◌then◌else◌}
use Rattle.plan_types.specs.Sections.{is_home}
use Rattle.gcode_program.specs.declared.items.Item.{Item}
use Rattle.gcode_program.specs.declared.items.Item.TheVariants as items
use Rattle.gcode_program.specs.Items.{items_of, moves_in}
use Rattle.gcode_program.specs.Programs.{program_sections}
use Rattle.gcode_program.proofs.Telling.{items_append}
use Rattle.plan_types.specs.declared.machine.Machine.{Machine}
use Rattle.plan_types.specs.declared.plan.ReadEnd.{ReadEnd}
use Rattle.plan_types.specs.declared.plan.Section.{Section}
use Rattle.plan_types.specs.Clock.{turn_ns}
use Rattle.plan_types.specs.declared.plan.SectionKind.{SectionKind}
use Rattle.plan_types.specs.declared.plan.SectionKind.TheVariants.{Home, Moves}
use Rattle.section_feed.specs.declared.section.SectionStream.{SectionStream}
use Rattle.section_feed.specs.Queues.{settled_to}
use Rattle.section_feed.specs.Sections.{queue_of}
use Rattle.section_feed.proofs.Ends.{moves-later}
use Rattle.section_stream.specs.Looking.{IsFuture}
use Rattle.motion_work.specs.Seen.{AreDone, IsOpen, Started, ready_after}
use Rattle.motion_work.specs.Told.{Told}
use Rattle.motion_work.proofs.Turning.{none_behind, ready_more}
use Rattle.motion_stream.specs.declared.course.Course.{Course}
use Rattle.motion_stream.specs.declared.course.Open.{Open}
use Rattle.motion_stream.specs.declared.course.Open.TheVariants as opens
use Rattle.motion_stream.specs.Clear.{EndsOutside, IsClearTo, clear_by, clear_of, never, next_begin, settled_turn}
use Rattle.motion_stream.specs.Courses.{IsCourseOf, BeginsNoEarlier, IsGoing, IsGoingOn, IsIdle, IsLater, KnowsConnecting}
use Rattle.motion_stream.specs.Motions.{IsPlannerOf, Planner, is_nothing_left}
use Rattle.motion_stream.specs.Seen.{AreWhole, EndsBy, Going, IsContinued, Seen, items_read, moves_end, sections_in}
use Rattle.motion_stream.proofs.Drawing.{whole_none}
use Rattle.motion_stream.proofs.Wholing.{source_front}
use Rattle.plan_types.proofs.Facts.{true_false, some_same, none_is_some}

-- sections that are done end before the next turn
ends_done : (next n : ℕ) (begun : List Started) → AreDone next begun → All (EndsOutside next n) begun
ends_done next n [] done = All-nil (EndsOutside next n)
ends_done next n (s ∷ begun) done = All-cons (EndsOutside next n) s begun (inl done.0) (ends_done next n begun done.1)

ends_last : (next n : ℕ) (past : List Started) (s : Started) → AreDone next past → n ≤ s.end → All (EndsOutside next n) (past ++ s ∷ [])
ends_last next n past s done le = All-append (EndsOutside next n) past (s ∷ []) (ends_done next n past done) (All-cons (EndsOutside next n) s [] (inr le) (All-nil (EndsOutside next n)))

-- before connecting ended nothing was begun
told_some : (m : Machine) (c : Course) (told : Option Told) (past : List Started) (s : Started) (begun : List Started) (going : Option Going) → KnowsConnecting m c told begun going → begun ≡ past ++ s ∷ [] → told ≡ None → ⊥
told_some m c None past s begun going h e n = none_behind past s (sym h.1 ∙ e)
told_some m c (Some t) past s begun going h e n = none_is_some (sym n)

-- a section goes on
by_moves : (m : Machine) (told : Option Told) (t : Told) (next : ℕ) (begun all : List Started) (going : Option Going) (g : Going) → told ≡ Some t → going ≡ Some g → AreWhole m told next begun going all → (s : Started) × (all ≡ begun ++ s ∷ []) × IsContinued m next g s
by_moves m None t next begun all going g told goes w = absurd (none_is_some told)
by_moves m (Some u) t next begun all None g told goes w = absurd (none_is_some goes)
by_moves m (Some u) t next begun all (Some x) g told goes w = (w.0, w.1, subst (λ (z : Going). IsContinued m next z w.0) (some_same x g goes) w.2)

settled_before : (b : Bool) (t : ℕ) → (if b then t else 0) ≤ t
settled_before true t = omega arith
settled_before false t = omega arith

-- one of moves ends when those do that are settled, or later, and one that homes no sooner than it starts
ends_at : (kind : SectionKind) (m : Machine) (s : SectionStream) (homes : Bool) (c : Course) (seen : Seen) (n : ℕ) (x : Started) (i : IsGoingOn m s homes c seen.told seen.begun seen.going) → homes ≡ is_home kind → c.next ≡ seen.next → IsContinued m seen.next i.g x → EndsBy kind m seen.next x
    → n ≤ (if is_home kind then max c.next c.start else max (settled_turn s) c.next) → n ≤ x.end
ends_at Moves m s homes c seen n x i is next c_is ends le =
    let settled = settled_before (nat_lt (settled_to (queue_of s) / turn_ns) never) (settled_to (queue_of s) / turn_ns) in
    let r = moves-later m i.t.clocks i.g.start homes s i.g.moves x.section.moves i.g.released i.on (subst (λ t. IsFuture t i.g.moves x.section.moves) (sym i.takes) c_is.moves) in
    let st = ap (moves_end m x.section.moves) c_is.start in
    let e = ends.0 in
    let l = ends.1 in
    omega (arith, le, settled, next, l, r, st, e)
ends_at (Home axis) m s homes c seen n x i is next c_is ends le =
    let start = i.start_is in
    let at = c_is.start in
    omega (arith, le, next, start, at, ends)

goes_clear : (m : Machine) (s : SectionStream) (homes : Bool) (c : Course) (seen : Seen) (n : ℕ) → IsCourseOf m c seen → IsGoingOn m s homes c seen.told seen.begun seen.going → n ≤ (if homes then max c.next c.start else max (settled_turn s) c.next) → IsClearTo m seen n
goes_clear m s homes c seen n h i le =
    let next = h.next in
    let done : AreDone seen.next seen.begun = subst (λ k. AreDone k seen.begun) next i.done in
    let end : (x : Started) → IsContinued m seen.next i.g x → n ≤ x.end = λ x is.
    ends_at i.g.kind m s homes c seen n x i i.homes_is next is is.ends (subst (λ (b : Bool). n ≤ (if b then max c.next c.start else max (settled_turn s) c.next)) i.homes_is le) in
    let of : (all : List Started) → AreWhole m seen.told seen.next seen.begun seen.going all → (x : Started) × (all ≡ seen.begun ++ x ∷ []) × IsContinued m seen.next i.g x = λ all w. by_moves m seen.told i.t seen.next seen.begun all seen.going i.g i.told_is i.is w in
    record {
      ends = λ all w. let x = of all w in subst (All (EndsOutside seen.next n)) (sym x.1) (ends_last seen.next n seen.begun x.0 done (end x.0 x.2));
      begins = λ t whole all others x told may w e. (let y = of all w in let r = ap (ready_after t.first) y.1 ∙ ready_more t.first seen.begun y.0 in let f = end y.0 y.2 in omega (arith, r, f));
      unheard = λ e. absurd (none_is_some (sym e ∙ i.told_is));
    }

cancel : {X : Type 0} (xs ys zs : List X) → xs ++ ys ≡ xs ++ zs → ys ≡ zs
cancel [] ys zs e = e
cancel (x ∷ xs) ys zs e = cancel xs ys zs (tails e) where
  tails : x ∷ (xs ++ ys) ≡ x ∷ (xs ++ zs) → xs ++ ys ≡ xs ++ zs
  tails p = cc

-- the next section is not begun before what waits may begin it
begins_by : (ready next n : ℕ) (read : Bool) (end : Option ReadEnd) (its more : List Item) (s : Section) (behind : List Item) → n ≤ (if (is_nothing_left its && is_some end) && read then never else max (next_begin ready its) next) → IsLater (next + 260) (next + 260) ready end its → ((e : ReadEnd) → end ≡ Some e → more ≡ []) → items.Begin s.kind s.dwell ∷ behind ≡ its ++ more → n + 260 ≤ ready + s.dwell
begins_by ready next n read None [] more s behind le later over e = omega (arith, le, later)
begins_by ready next n read (Some x) [] more s behind le later over e = absurd (nothing (e ∙ over x refl)) where
  nothing : items.Begin s.kind s.dwell ∷ behind ≡ [] → ⊥
  nothing p = cc
begins_by ready next n read None (items.Begin kind dwell ∷ rest) more s behind le later over e = let same : s.dwell ≡ dwell = dwells e in omega (arith, le, later, same) where
  dwells : items.Begin s.kind s.dwell ∷ behind ≡ items.Begin kind dwell ∷ (rest ++ more) → s.dwell ≡ dwell
  dwells p = cc
begins_by ready next n read (Some x) (items.Begin kind dwell ∷ rest) more s behind le later over e = let same : s.dwell ≡ dwell = dwells e in omega (arith, le, later, same) where
  dwells : items.Begin s.kind s.dwell ∷ behind ≡ items.Begin kind dwell ∷ (rest ++ more) → s.dwell ≡ dwell
  dwells p = cc
begins_by ready next n read end (items.Move one ∷ rest) more s behind le later over e = absurd cc
begins_by ready next n read end (items.End ∷ rest) more s behind le later over e = absurd cc

-- no section goes on whose end is not known
idle_is : (m : Machine) (c : Course) (seen : Seen) (n : ℕ) (goes connected : Bool) (told : Option Told) → c.goes ≡ goes → c.connected ≡ connected → seen.told ≡ told → IsCourseOf m c seen → IsIdle m c seen.begun seen.going → IsOpen goes c.next seen.begun → KnowsConnecting m c told seen.begun seen.going
    → (c.connected ≡ true → IsLater (c.next + 260) (c.next + 260) c.ready c.source.end c.source.items.items)
    → n ≤ (if goes then c.ready - 260 else (if connected then (if (is_nothing_left c.source.items.items && is_some c.source.end) && c.read then never else max (next_begin c.ready c.source.items.items) c.next) else c.next)) → IsClearTo m seen n
idle_is m c seen n true connected None eg ec et h i o d early le = absurd (none_behind o.0 o.1 (sym d.1 ∙ o.2))
idle_is m c seen n true connected (Some t) eg ec et h i o d early le =
    let next = h.next in
    let done : AreDone seen.next o.0 = subst (λ k. AreDone k o.0) next o.3 in
    let ready = d.ready i.none ∙ ap (ready_after t.first) o.2 ∙ ready_more t.first o.0 o.1 in
    let far : n ≤ o.1.end = omega (arith, le, ready) in
    let is : (all : List Started) → AreWhole m seen.told seen.next seen.begun seen.going all → all ≡ o.0 ++ o.1 ∷ [] = λ all w. whole_none m seen.told seen.next seen.begun all seen.going i.none w ∙ o.2 in
    record {
      ends = λ all w. subst (All (EndsOutside seen.next n)) (sym (is all w)) (ends_last seen.next n o.0 o.1 done far);
      begins = λ u whole all others s told may w e. (let r = ap (ready_after u.first) (is all w) ∙ ready_more u.first o.0 o.1 in omega (arith, r, far));
      unheard = λ e. absurd (none_is_some (sym e ∙ et));
    }
idle_is m c seen n false true None eg ec et h i o d early le = absurd (true_false (sym ec ∙ d.0))
idle_is m c seen n false true (Some t) eg ec et h i o d early le =
    let next = h.next in
    let done : AreDone seen.next seen.begun = subst (λ k. AreDone k seen.begun) next o in
    let is : (all : List Started) → AreWhole m seen.told seen.next seen.begun seen.going all → all ≡ seen.begun = λ all w. whole_none m seen.told seen.next seen.begun all seen.going i.none w in
    record {
      ends = λ all w. subst (All (EndsOutside seen.next n)) (sym (is all w)) (ends_done seen.next n seen.begun done);
      begins = λ u whole all others s told may w e.
          let f = source_front m c.source seen.text whole seen.ended (items_read seen.begun seen.going) h.source may in
          let split : program_sections m whole ≡ sections_in seen.begun ++ s ∷ others = e ∙ ap (λ (b : List Started). sections_in b ++ s ∷ others) (is all w) in
          let own = items_of (s ∷ others) in
          let waiting : own ≡ c.source.items.items ++ f.0 = cancel (items_of (sections_in seen.begun)) own (c.source.items.items ++ f.0) (sym (items_append (sections_in seen.begun) (s ∷ others)) ∙ ap items_of (sym split) ∙ f.1 ∙ ap (λ x. items_read seen.begun x ++ (c.source.items.items ++ f.0)) i.none) in
          let low = begins_by c.ready c.next n c.read c.source.end c.source.items.items f.0 s ((moves_in s.moves ++ items.End ∷ []) ++ items_of others) le (early ec) f.2 waiting in
          let same : t ≡ u = some_same t u (sym et ∙ told) in
          let ready = d.ready i.none ∙ ap (λ (x : Told). ready_after x.first seen.begun) same ∙ ap (ready_after u.first) (sym (is all w)) in
          omega (arith, low, ready);
      unheard = λ e. absurd (none_is_some (sym e ∙ et));
    }
idle_is m c seen n false false (Some t) eg ec et h i o d early le = absurd (true_false (sym d.connected ∙ ec))
idle_is m c seen n false false None eg ec et h i o d early le =
    let next = h.next in
    let none = d.1 in
    let is : (all : List Started) → AreWhole m seen.told seen.next seen.begun seen.going all → all ≡ [] = λ all w. whole_none m seen.told seen.next seen.begun all seen.going i.none w ∙ none in
    record {
      ends = λ all w. subst (All (EndsOutside seen.next n)) (sym (is all w)) (All-nil (EndsOutside seen.next n));
      begins = λ u whole all others s told may w e. absurd (none_is_some (sym et ∙ told));
      unheard = λ e. omega (arith, le, next);
    }

by_open : (m : Machine) (o : Open) (c : Course) (seen : Seen) (n : ℕ) → c.current ≡ o → IsCourseOf m c seen → IsGoing m o c seen.told seen.begun seen.going → n ≤ clear_by c o → IsClearTo m seen n
by_open m opens.Nothing c seen n e h i le =
    idle_is m c seen n c.goes c.connected seen.told refl refl refl h i i.goes h.told (subst (λ o. BeginsNoEarlier o (c.next + 260) (c.next + 260) c) e h.early) le
by_open m (opens.Goes s homes) c seen n e h i le = goes_clear m s homes c seen n h i le

-- what a note tells as clear is
pub clear_is : (p : Planner) (seen : Seen) (n : ℕ) → IsPlannerOf p seen → n ≤ clear_of p.course → IsClearTo p.machine seen n
clear_is p seen n h le = by_open p.machine p.course.current p.course seen n refl h h.going le

-- the next turn is not behind that turn
never_late : (b : Bool) (next n : ℕ) → next ≤ never → next ≤ n → next ≤ (if b then never else n)
never_late true next n le lt = le
never_late false next n le lt = lt

idle_next : (m : Machine) (c : Course) (goes connected : Bool) (told : Option Told) (begun : List Started) (going : Option Going) → c.next ≤ 2 ^ 42 → going ≡ None → IsOpen goes c.next begun → KnowsConnecting m c told begun going
    → c.next ≤ (if goes then c.ready - 260 else (if connected then (if (is_nothing_left c.source.items.items && is_some c.source.end) && c.read then never else max (next_begin c.ready c.source.items.items) c.next) else c.next))
idle_next m c true connected None begun going small none o d = absurd (none_behind o.0 o.1 (sym d.1 ∙ o.2))
idle_next m c true connected (Some t) begun going small none o d =
    let ready = d.ready none ∙ ap (ready_after t.first) o.2 ∙ ready_more t.first o.0 o.1 in
    let late = o.4 in
    omega (arith, ready, late)
idle_next m c false true told begun going small none o d = never_late ((is_nothing_left c.source.items.items && is_some c.source.end) && c.read) c.next (max (next_begin c.ready c.source.items.items) c.next) (omega (arith, small)) (omega arith)
idle_next m c false false told begun going small none o d = omega arith

open_next : (m : Machine) (o : Open) (c : Course) (seen : Seen) → IsCourseOf m c seen → IsGoing m o c seen.told seen.begun seen.going → c.next ≤ clear_by c o
open_next m opens.Nothing c seen h i = idle_next m c c.goes c.connected seen.told seen.begun seen.going h.small i.none i.goes h.told
open_next m (opens.Goes s true) c seen h i = omega arith
open_next m (opens.Goes s false) c seen h i = omega arith

pub next_clear : (p : Planner) (seen : Seen) → IsPlannerOf p seen → IsClearTo p.machine seen seen.next
next_clear p seen h =
    let le = open_next p.machine p.course.current p.course seen h h.going in
    let next = h.next in
    clear_is p seen seen.next h (omega (arith, le, next))
