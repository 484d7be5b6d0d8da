-- Which words a planner wants, and when it asks for more of the text, by what it has seen.
use Rattle.std.proofs.Common.{◌≡◌, ℕ, suc, ◌+◌, ◌-◌, ◌*◌, ◌<◌, ◌≤◌, Bool, true, false, drop, not, List, [], ◌∷◌, ◌++◌, append-nil, append_assoc, refl, ap, sym, subst, ◌∙◌, arith, inl, inr}
use Rattle.std.proofs.lemmas.Bool.Decides.{leb_tells}
use Rattle.std.specs.Prelude.{◌⊎◌, ◌&&◌, nat_lt, Option, Some, None, if◌then◌else◌, is_none}
use Rattle.gcode_program.specs.declared.items.Item.{Item}
use Rattle.gcode_program.specs.declared.items.Item.TheVariants as items
use Rattle.gcode_program.specs.Items.{ending, items_in, items_of, moves_in}
use Rattle.gcode_program.specs.Programs.{program_sections}
use Rattle.gcode_program.specs.Readers.{section_with}
use Rattle.gcode_program.proofs.Sorting.{told_front}
use Rattle.plan_types.specs.declared.machine.Machine.{Machine}
use Rattle.plan_types.specs.declared.plan.Move.{Move}
use Rattle.plan_types.specs.declared.plan.ReadEnd.{ReadEnd}
use Rattle.plan_types.specs.declared.plan.Section.{Section}
use Rattle.plan_types.specs.declared.plan.SectionKind.{SectionKind}
use Rattle.plan_types.specs.Clock.{turn_ns}
use Rattle.plan_types.specs.Sections.{end_time, is_home}
use Rattle.plan_types.specs.Speeds.{greatest_speeds}
use Rattle.section_feed.specs.declared.section.SectionStream.{SectionStream}
use Rattle.section_stream.specs.Looking.{IsFuture}
use Rattle.section_stream.specs.Moving.{given_count}
use Rattle.section_feed.specs.Queues.{is_taking, settled_to}
use Rattle.section_feed.specs.Sections.{queue_of}
use Rattle.motion_work.specs.Seen.{Started}
use Rattle.motion_work.specs.Told.{Told}
use Rattle.motion_stream.specs.declared.course.Course.{Course}
use Rattle.motion_stream.specs.declared.course.Open.{Open}
use Rattle.motion_stream.specs.declared.course.Open.TheVariants as opens
use Rattle.motion_stream.specs.Courses.{IsCourseOf, BeginsNoEarlier, IsStopped, IsGoing, IsGoingOn, KnowsConnecting}
use Rattle.motion_stream.specs.Hunger.{AreSettled, HasEnough, HasNoEnd, IsReadOn, IsSated, IsShort, Lacks, awaits, wanted, wanted_by}
use Rattle.motion_stream.specs.Motions.{IsPlannerOf, Planner, hungry, is_nothing_left, lacks, waits_by, wants}
use Rattle.motion_stream.specs.Seen.{Going, Seen, items_read, sections_in}
use Rattle.motion_stream.specs.Texts.{MayBecome}
use Rattle.motion_stream.proofs.Wholing.{source_front}
use Rattle.plan_types.proofs.Facts.{true_false, both_parts, was_less, none_is_some, not_less}
use Rattle.std.proofs.lemmas.Bool.{and_cases}

-- the words
awaits_is : (m : Machine) (o : Open) (c : Course) (told : Option Told) (begun : List Started) (going : Option Going) (k : ℕ) → IsGoing m o c told begun going → waits_by o c.start k ≡ awaits going k
awaits_is m opens.Nothing c told begun going k i = sym (ap (λ g. awaits g k) i.none)
awaits_is m (opens.Goes s homes) c told begun going k i =
    ap (λ h. waits_by (opens.Goes s h) c.start k) i.homes_is ∙ ap (λ n. waits_by (opens.Goes s (homes_of i.g)) n k) i.start_is ∙ sym (ap (λ g. awaits g k) i.is)
  where
    homes_of : Going → Bool
    homes_of g = is_home g.kind

wanted_is : (m : Machine) (c : Course) (told : Option Told) (begun : List Started) (going : Option Going) (k : ℕ) → KnowsConnecting m c told begun going → waits_by c.current c.start k ≡ awaits going k → wants (record { machine = m; course = c }) k ≡ wanted_by told going k
wanted_is m c None begun going k i w = ap (λ b. if b then (if waits_by c.current c.start k then Some k else (if nat_lt k 64 then None else Some (k - 64))) else Some k) i.0
wanted_is m c (Some t) begun going k i w =
    ap (λ b. if b then (if waits_by c.current c.start k then Some k else (if nat_lt k 64 then None else Some (k - 64))) else Some k) i.connected ∙ ap (λ b. if b then Some k else (if nat_lt k 64 then None else Some (k - 64))) w

pub wants_is : (p : Planner) (seen : Seen) (k : ℕ) → IsPlannerOf p seen → wants p k ≡ wanted seen k
wants_is p seen k h = wanted_is p.machine p.course seen.told seen.begun seen.going k h.told (awaits_is p.machine p.course.current p.course seen.told seen.begun seen.going k h.going)

-- what was told of a text that is read on
read_on : (m : Machine) (c : Course) (seen : Seen) → IsCourseOf m c seen → c.source.end ≡ None → IsReadOn m seen.text seen.ended (items_read seen.begun seen.going ++ c.source.items.items)
read_on m c seen h none = record { unended = (h.source.goes none).0; reader = c.source.reader; is = (h.source.goes none).1; goes = h.source.reads none }

-- how far the settled moves of a section reach
settled : (m : Machine) (s : SectionStream) (homes : Bool) (c : Course) (told : Option Told) (begun : List Started) (going : Option Going) (i : IsGoingOn m s homes c told begun going) → AreSettled m i.g (settled_to (queue_of s))
settled m s homes c told begun going i =
    let q = s.queue in
    let on = i.on in
    let from : (moves : List Move) → end_time q.moves.cruise moves (greatest_speeds moves m.scv) q.moves.begin ≡ end_time m.cruise moves (greatest_speeds moves m.scv) (i.g.start * turn_ns) =
    λ moves. ap (λ x. end_time x moves (greatest_speeds moves m.scv) q.moves.begin) on.cruise ∙ ap (λ x. end_time m.cruise moves (greatest_speeds moves m.scv) x) on.begin in
    record {
      count = given_count q.moves;
      ends = λ all future.
          let front = (on.section.queue.moves_are.front all (subst (λ b. IsFuture b i.g.moves all) (sym i.takes) future)).end_is in
          sym (from all) ∙ front ∙ ap (λ x. end_time x (drop (given_count q.moves) all) (drop (given_count q.moves) (greatest_speeds all m.scv)) q.moves.time) on.cruise;
    }

-- where more is asked for
none_waits : (its : List Item) → is_nothing_left its ≡ true → its ≡ []
none_waits [] e = refl
none_waits (i ∷ its) e = absurd (true_false (sym e))

none_both : {X : Type 0} (xs ys : List X) → xs ++ ys ≡ [] → (xs ≡ []) × (ys ≡ [])
none_both [] ys e = (refl, e)
none_both (x ∷ xs) ys e = absurd cc

-- the next section has not begun in the text
next_short : (m : Machine) (c : Course) (told : Option Told) (begun : List Started) (k : ℕ) → KnowsConnecting m c told begun None → c.connected ≡ true → nat_lt c.ready (k + 261) ≡ true → IsShort m told begun None k
next_short m c None begun k i on lt = absurd (true_false (sym on ∙ i.0))
next_short m c (Some t) begun k i on lt = let ready = i.ready refl in let l = was_less c.ready (k + 261) lt in (t, refl, omega (arith, ready, l))

idle_lacks : (m : Machine) (c : Course) (seen : Seen) (k : ℕ) → IsCourseOf m c seen → seen.going ≡ None → c.source.end ≡ None → (c.source.opened ≡ false) ⊎ (lacks c opens.Nothing k ≡ true) → Lacks m seen k
idle_lacks m c seen k h none end (inl fresh) =
    let told = items_read seen.begun seen.going ++ c.source.items.items in
    let nil : told ≡ [] = h.source.first end fresh in
    let own = (none_both (items_read seen.begun seen.going) c.source.items.items nil).0 in
    record { told = told; read = read_on m c seen h end; no_end = subst (λ g. HasNoEnd seen.begun g told) (sym none) (nil ∙ sym own ∙ ap (items_read seen.begun) none); short = inl nil }
idle_lacks m c seen k h none end (inr e) =
    let soon = both_parts (c.connected && is_nothing_left c.source.items.items) (nat_lt c.ready (k + 261)) e in
    let on = both_parts c.connected (is_nothing_left c.source.items.items) soon.0 in
    let told = items_read seen.begun seen.going ++ c.source.items.items in
    record {
      told = told;
      read = read_on m c seen h end;
      no_end = subst (λ g. HasNoEnd seen.begun g told) (sym none) (ap (λ its. items_read seen.begun seen.going ++ its) (none_waits c.source.items.items on.1) ∙ append-nil (items_read seen.begun seen.going) ∙ ap (items_read seen.begun) none);
      short = inr (subst (λ g. IsShort m seen.told seen.begun g k) (sym none) (next_short m c seen.told seen.begun k (subst (λ g. KnowsConnecting m c seen.told seen.begun g) none h.told) on.0 soon.1));
    }

-- one goes on
open_items : (begun : List Started) (g : Going) (rest : List Item) → g.goes ≡ true → items_read begun (Some g) ++ rest ≡ items_of (sections_in begun) ++ items.Begin g.kind g.dwell ∷ (moves_in g.moves ++ rest)
open_items begun g rest goes =
    let own = items_of (sections_in begun) in
    append_assoc own (items.Begin g.kind g.dwell ∷ (moves_in g.moves ++ ending (not g.goes))) rest ∙ ap (λ b. own ++ items.Begin g.kind g.dwell ∷ ((moves_in g.moves ++ ending (not b)) ++ rest)) goes ∙ ap (λ ms. own ++ items.Begin g.kind g.dwell ∷ (ms ++ rest)) (append-nil (moves_in g.moves))

ended_items : (begun : List Started) (g : Going) (rest : List Item) → g.goes ≡ false → items_read begun (Some g) ++ rest ≡ items_of (sections_in begun) ++ (items_in (section_with g.kind g.moves g.dwell) ++ rest)
ended_items begun g rest over =
    let own = items_of (sections_in begun) in
    append_assoc own (items.Begin g.kind g.dwell ∷ (moves_in g.moves ++ ending (not g.goes))) rest ∙ ap (λ b. own ++ ((items.Begin g.kind g.dwell ∷ (moves_in g.moves ++ ending (not b))) ++ rest)) over

-- no section begins before the one that goes on ends
moves_clash : (ms ns : List Move) (kind : SectionKind) (dwell : ℕ) (xs ys : List Item) → moves_in ns ++ items.End ∷ xs ≡ moves_in ms ++ items.Begin kind dwell ∷ ys → ⊥
moves_clash [] [] kind dwell xs ys e = cc
moves_clash [] (n ∷ ns) kind dwell xs ys e = cc
moves_clash (m ∷ ms) [] kind dwell xs ys e = cc
moves_clash (m ∷ ms) (n ∷ ns) kind dwell xs ys e = moves_clash ms ns kind dwell xs ys (tails e)
  where
    tails : {x y : Item} {us vs : List Item} → x ∷ us ≡ y ∷ vs → us ≡ vs
    tails p = cc

begin_clash : (others : List Section) (kind kind' : SectionKind) (dwell dwell' : ℕ) (ms : List Move) (rest : List Item) → items_of others ≡ items.Begin kind dwell ∷ (moves_in ms ++ items.Begin kind' dwell' ∷ rest) → ⊥
begin_clash [] kind kind' dwell dwell' ms rest e = cc
begin_clash (s ∷ later) kind kind' dwell dwell' ms rest e =
    moves_clash ms s.moves kind' dwell' (items_of later) rest (sym (append_assoc (moves_in s.moves) (items.End ∷ []) (items_of later)) ∙ tails e)
  where
    tails : {x y : Item} {us vs : List Item} → x ∷ us ≡ y ∷ vs → us ≡ vs
    tails p = cc

-- so where it goes on, nothing waits
none_left : (its more : List Item) (others : List Section) (g : Going) → IsStopped its → items_of others ≡ items.Begin g.kind g.dwell ∷ (moves_in g.moves ++ (its ++ more)) → its ≡ []
none_left [] more others g stops e = refl
none_left (items.Begin kind dwell ∷ its) more others g stops e = absurd (begin_clash others g.kind kind g.dwell dwell g.moves (its ++ more) e)
none_left (items.Move one ∷ its) more others g stops e = absurd stops
none_left (items.End ∷ its) more others g stops e = absurd stops

nothing_waits : (m : Machine) (c : Course) (seen : Seen) (g : Going) → IsCourseOf m c seen → seen.going ≡ Some g → g.goes ≡ true → c.source.end ≡ None → IsStopped c.source.items.items → c.source.items.items ≡ []
nothing_waits m c seen g h is goes end stops =
    let its = c.source.items.items in
    let may : MayBecome seen.ended seen.text seen.text = subst (λ b. MayBecome b seen.text seen.text) (sym (h.source.goes end).0) ([], sym (append-nil seen.text)) in
    let f = source_front m c.source seen.text seen.text seen.ended (items_read seen.begun seen.going) h.source may in
    let told = f.1 ∙ ap (λ x. items_read seen.begun x ++ (its ++ f.0)) is ∙ open_items seen.begun g (its ++ f.0) goes in
    let t = told_front (sections_in seen.begun) (program_sections m seen.text) (items.Begin g.kind g.dwell ∷ (moves_in g.moves ++ (its ++ f.0))) told in
    none_left its f.0 t.0 g stops t.2

some_items : (begun : List Started) (g : Going) (rest : List Item) → items_read begun (Some g) ++ rest ≡ [] → ⊥
some_items begun g rest e = no_items ((none_both (items_of (sections_in begun)) (items.Begin g.kind g.dwell ∷ (moves_in g.moves ++ ending (not g.goes))) (none_both (items_read begun (Some g)) rest e).0).1)
  where
    no_items : items.Begin g.kind g.dwell ∷ (moves_in g.moves ++ ending (not g.goes)) ≡ [] → ⊥
    no_items p = cc

going_lacks : (m : Machine) (s : SectionStream) (homes : Bool) (c : Course) (seen : Seen) (k : ℕ) → IsCourseOf m c seen → IsGoingOn m s homes c seen.told seen.begun seen.going → (is_taking (queue_of s) ≡ true → IsStopped c.source.items.items) → c.source.end ≡ None → (c.source.opened ≡ false) ⊎ (lacks c (opens.Goes s homes) k ≡ true) → Lacks m seen k
going_lacks m s homes c seen k h i stops end (inl fresh) = absurd (some_items seen.begun i.g c.source.items.items (ap (λ g. items_read seen.begun g ++ c.source.items.items) (sym i.is) ∙ h.source.first end fresh))
going_lacks m s homes c seen k h i stops end (inr e) =
    let on = both_parts (is_taking (queue_of s)) (nat_lt (settled_to (queue_of s)) ((k + 261) * turn_ns)) e in
    let goes : i.g.goes ≡ true = sym i.takes ∙ on.0 in
    let told = items_read seen.begun seen.going ++ c.source.items.items in
    record {
      told = told;
      read = read_on m c seen h end;
      no_end =
          let none = nothing_waits m c seen i.g h i.is goes end (stops on.0) in
          subst (λ g. HasNoEnd seen.begun g told) (sym i.is) (ap (λ g. items_read seen.begun g ++ c.source.items.items) i.is ∙ ap (λ its. items_read seen.begun (Some i.g) ++ its) none ∙ open_items seen.begun i.g [] goes
          ∙ ap (λ ms. items_of (sections_in seen.begun) ++ items.Begin i.g.kind i.g.dwell ∷ ms) (append-nil (moves_in i.g.moves)));
      short = inr (subst (λ g. IsShort m seen.told seen.begun g k) (sym i.is) (settled_to (queue_of s), settled m s homes c seen.told seen.begun seen.going i, was_less (settled_to (queue_of s)) ((k + 261) * turn_ns) on.1));
    }

by_open : (m : Machine) (o : Open) (c : Course) (seen : Seen) (k : ℕ) → IsCourseOf m c seen → IsGoing m o c seen.told seen.begun seen.going → BeginsNoEarlier o (c.next + 260) (c.next + 260) c → c.source.end ≡ None → (c.source.opened ≡ false) ⊎ (lacks c o k ≡ true) → Lacks m seen k
by_open m opens.Nothing c seen k h i early end why = idle_lacks m c seen k h i.none end why
by_open m (opens.Goes s homes) c seen k h i early end why = going_lacks m s homes c seen k h i early end why

no_end : (o : Option ReadEnd) → is_none o ≡ true → o ≡ None
no_end None e = refl
no_end (Some x) e = absurd (true_false (sym e))

why_hungry : (opened lacking : Bool) → (if opened then lacking else true) ≡ true → (opened ≡ false) ⊎ (lacking ≡ true)
why_hungry true lacking e = inr e
why_hungry false lacking e = inl refl

pub hungry_lacks : (p : Planner) (seen : Seen) (k : ℕ) → IsPlannerOf p seen → hungry p k ≡ true → Lacks p.machine seen k
hungry_lacks p seen k h e =
    let c = p.course in
    let on = both_parts (is_none c.source.end) (if c.source.opened then lacks c c.current k else true) e in
    by_open p.machine c.current c seen k h h.going h.early (no_end c.source.end on.0) (why_hungry c.source.opened (lacks c c.current k) on.1)

some_waits : (its : List Item) → is_nothing_left its ≡ false → (i : Item) × (rest : List Item) × (its ≡ i ∷ rest)
some_waits [] e = absurd (true_false e)
some_waits (i ∷ its) e = (i, its, refl)

idle_enough : (m : Machine) (c : Course) (told : Option Told) (begun : List Started) (k : ℕ) → KnowsConnecting m c told begun None → lacks c opens.Nothing k ≡ false → HasEnough m told begun None (items_of (sections_in begun) ++ c.source.items.items) k
idle_enough m c None begun k i e = tt
idle_enough m c (Some t) begun k i e =
    let its = items_of (sections_in begun) ++ c.source.items.items in
    elim (and_cases (c.connected && is_nothing_left c.source.items.items) (nat_lt c.ready (k + 261)) e) as (λ _. HasEnough m (Some t) begun None its k) [
      | inl f ↦ elim (and_cases c.connected (is_nothing_left c.source.items.items) f) as (λ _. HasEnough m (Some t) begun None its k) [
        | inl off ↦ absurd (true_false (sym i.connected ∙ off))
        | inr some ↦ (let w = some_waits c.source.items.items some in inl (w.0, w.1, ap (λ xs. items_of (sections_in begun) ++ xs) w.2))
      ]
      | inr late ↦ (let l = not_less c.ready (k + 261) late in let ready = i.ready refl in inr (omega (arith, l, ready)))
    ]

going_enough : (m : Machine) (s : SectionStream) (homes : Bool) (c : Course) (told : Option Told) (begun : List Started) (going : Option Going) (k : ℕ) → (i : IsGoingOn m s homes c told begun going) → lacks c (opens.Goes s homes) k ≡ false → HasEnough m (Some i.t) begun (Some i.g) (items_read begun (Some i.g) ++ c.source.items.items) k
going_enough m s homes c told begun going k i e = elim (and_cases (is_taking (queue_of s)) (nat_lt (settled_to (queue_of s)) ((k + 261) * turn_ns)) e) as (λ _. HasEnough m (Some i.t) begun (Some i.g) (items_read begun (Some i.g) ++ c.source.items.items) k) [
  | inl over ↦ inl (c.source.items.items, ended_items begun i.g c.source.items.items (sym i.takes ∙ over))
  | inr far ↦ inr (settled_to (queue_of s), settled m s homes c told begun going i, not_less (settled_to (queue_of s)) ((k + 261) * turn_ns) far)
]

enough_by : (m : Machine) (o : Open) (c : Course) (seen : Seen) (k : ℕ) → KnowsConnecting m c seen.told seen.begun seen.going → IsGoing m o c seen.told seen.begun seen.going → lacks c o k ≡ false → HasEnough m seen.told seen.begun seen.going (items_read seen.begun seen.going ++ c.source.items.items) k
enough_by m opens.Nothing c seen k t i e =
    subst (λ g. HasEnough m seen.told seen.begun g (items_read seen.begun g ++ c.source.items.items) k) (sym i.none) (idle_enough m c seen.told seen.begun k (subst (λ g. KnowsConnecting m c seen.told seen.begun g) i.none t) e)
enough_by m (opens.Goes s homes) c seen k t i e =
    subst (λ told. HasEnough m told seen.begun seen.going (items_read seen.begun seen.going ++ c.source.items.items) k) (sym i.told_is)
    (subst (λ g. HasEnough m (Some i.t) seen.begun g (items_read seen.begun g ++ c.source.items.items) k) (sym i.is) (going_enough m s homes c seen.told seen.begun seen.going k i e))

not_hungry : (opened lacking : Bool) → (if opened then lacking else true) ≡ false → lacking ≡ false
not_hungry true lacking e = e
not_hungry false lacking e = absurd (true_false e)

pub sated_is : (p : Planner) (seen : Seen) (k : ℕ) → IsPlannerOf p seen → hungry p k ≡ false → IsSated p.machine seen k
sated_is p seen k h e = by p.course.source.end refl e
  where
    c : Course
    c = p.course

    by : (o : Option ReadEnd) → p.course.source.end ≡ o → (is_none o && (if p.course.source.opened then lacks p.course p.course.current k else true)) ≡ false → IsSated p.machine seen k
    by (Some x) is f = inl (record { end = x; told = items_read seen.begun seen.going ++ c.source.items.items; all = λ whole may. h.source.over x is whole may })
    by None is f = inr (items_read seen.begun seen.going ++ c.source.items.items, read_on p.machine c seen h is, enough_by p.machine c.current c seen k h.told h.going (not_hungry c.source.opened (lacks c c.current k) f))
