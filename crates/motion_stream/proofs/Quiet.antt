-- A turn in which nothing but the next one comes.
use Rattle.std.proofs.Common.{◌≡◌, ℕ, zero, suc, ◌+◌, ◌-◌, ◌<◌, ◌^◌, Bool, true, false, max, not, List, [], ◌∷◌, ◌++◌, drop, length, refl, ap, sym, subst, ◌∙◌, arith, inl, inr}
use Rattle.std.proofs.lemmas.Bool.Decides.{eqb_tells}
use Rattle.std.specs.Prelude.{◌&&◌, ◌||◌, ◌⊎◌, Option, Some, None, is_none, is_some, nat_eq, slice_index_or, if◌then◌else◌}
use Rattle.gcode_program.specs.declared.items.Item.{Item}
use Rattle.gcode_program.specs.declared.items.Item.TheVariants as items
use Rattle.msg_code.specs.declared.talk.Note.{Note}
use Rattle.msg_code.specs.declared.unit.Batch.{Batch}
use Rattle.plan_types.proofs.Facts.{true_false}
use Rattle.plan_types.specs.declared.machine.Machine.{Machine}
use Rattle.plan_types.specs.declared.plan.ReadEnd.{ReadEnd}
use Rattle.plan_types.specs.declared.plan.SectionKind.{SectionKind}
use Rattle.motion_work.specs.Begins.{done_news, news_items}
use Rattle.step_feed.specs.Units.{StepUnit}
use Rattle.motion_stream.specs.declared.course.Course.{Course}
use Rattle.motion_stream.specs.declared.course.Open.TheVariants as opens
use Rattle.motion_stream.specs.Clear.{clear_by, clear_of, idle_clear, never, next_begin, tells_nothing}
use Rattle.motion_stream.specs.Courses.{row_at}
use Rattle.motion_stream.specs.Motions.{TurnsCourse, is_nothing_left}
use Rattle.motion_stream.specs.News.{HasPutAll, begins_in, read_after, read_news}
use Rattle.motion_stream.specs.Rows.{batches_of}
use Rattle.motion_stream.specs.Steps.{Advances, BeginsSection, IsFed, IsNotDue}
use Rattle.motion_stream.specs.Uptakes.{TakesUp}
use Rattle.motion_stream.proofs.Drawing.{idle_passed, no_units}
use Rattle.motion_stream.proofs.Opening.{none_begun}
use Rattle.motion_stream.proofs.Turning.{turned}
use Rattle.motion_stream.proofs.Uptaking.{none_taken}

-- behind it
abbrev pub next_turn : Course → ℕ → Course
next_turn c k = record c { next = k + 1 }

-- the last section does not end before the turn that is clear
goes_as : (goes : Bool) (ready place k other : ℕ) → k < (if goes then ready - 260 else other) → (goes ≡ (goes && not (nat_eq ready (k + 260)))) × (None ≡ done_news goes ready place k)
goes_as false ready place k other lt = (refl, refl)
goes_as true ready place k other lt = elim (eqb_tells ready (k + 260)) [ inl p ↦ (let e = p.1 in absurd (omega (arith, e, lt))) | inr p ↦ rw p.0 (refl, refl) ]

-- and none is begun before it
not_due : (goes on nothing read : Bool) (ready next k dwell : ℕ) (kind : SectionKind) (rest its : List Item) → next ≡ k → its ≡ items.Begin kind dwell ∷ rest → on ≡ true
    → k < (if goes then ready - 260 else (if on then (if (is_nothing_left its && nothing) && read then never else max (next_begin ready its) next) else next)) → k + 260 < ready + dwell
not_due true on nothing read ready next k dwell kind rest its at is told lt = omega (arith, lt)
not_due false false nothing read ready next k dwell kind rest its at is told lt = absurd (true_false (sym told))
not_due false true nothing read ready next k dwell kind rest its at is told lt =
    let by : k < max (next_begin ready (items.Begin kind dwell ∷ rest)) next = subst (λ (l : List Item). k < (if (is_nothing_left l && nothing) && read then never else max (next_begin ready l) next)) is lt in
    omega (arith, by, at)

-- it is the same turn behind the next one
same_clear : (goes on all : Bool) (ready begin next k : ℕ) → next ≡ k → k < (if goes then ready - 260 else (if on then (if all then never else max begin next) else next))
    → (if goes then ready - 260 else (if on then (if all then never else max begin next) else next)) ≡ (if goes then ready - 260 else (if on then (if all then never else max begin (k + 1)) else k + 1))
same_clear true on all ready begin next k at lt = refl
same_clear false false all ready begin next k at lt = absurd (omega (arith, lt, at))
same_clear false true true ready begin next k at lt = refl
same_clear false true false ready begin next k at lt = omega (arith, lt, at)

pub clear_stays : (c : Course) (k clear : ℕ) → c.next ≡ k → c.current ≡ opens.Nothing → clear ≡ idle_clear c → k < clear → clear ≡ clear_of (next_turn c k)
clear_stays c k clear at nothing is lt =
    is ∙ same_clear c.goes c.connected ((is_nothing_left c.source.items.items && is_some c.source.end) && c.read) c.ready (next_begin c.ready c.source.items.items) c.next k at (subst (λ n. k < n) is lt)
    ∙ ap (λ o. clear_by (next_turn c k) o) (sym nothing)

-- how the text was read, where it may be told
abbrev end_of : Bool → List Item → Option ReadEnd → Option ReadEnd
end_of true its e = None
end_of false [] e = e
end_of false (i ∷ its) e = None

told_by : (read goes : Bool) (e : Option ReadEnd) (its : List Item) → (read || (goes || (is_none e || not (is_nothing_left its)))) ≡ true → (read ≡ true) ⊎ (end_of goes its e ≡ None)
told_by true goes e its h = inl refl
told_by false true e its h = inr refl
told_by false false None [] h = inr refl
told_by false false e (i ∷ its) h = inr refl
told_by false false (Some e) [] h = absurd (true_false (sym h))

stays : (read : Bool) (e : Option ReadEnd) (sections : ℕ) → (read ≡ true) ⊎ (e ≡ None) → (read ≡ read_after read e) × (read_news read e sections ≡ None)
stays read None sections h = (refl, refl)
stays true (Some e) sections h = (refl, refl)
stays false (Some e) sections h = elim h [ inl p ↦ absurd (true_false (sym p)) | inr p ↦ absurd (some_none p) ] where
  some_none : {x : ReadEnd} → Some x ≡ None → ⊥
  some_none p = cc

put_all : (goes : Bool) (its : List Item) (e : Option ReadEnd) → goes ≡ false → its ≡ [] → end_of goes its e ≡ e
put_all true its e off nil = absurd (true_false off)
put_all false [] e off nil = refl
put_all false (i ∷ its) e off nil = absurd (more_none nil) where
  more_none : i ∷ its ≡ [] → ⊥
  more_none p = cc

-- no unit waits in no row
none_in : (p b : ℕ) → row_at [] p b ≡ []
none_in zero b = no_units b
none_in (suc p) b = no_units b

known_by : (boards : ℕ) (c : Course) (goes : Bool) (its : List Item) (e : Option ReadEnd) → c.goes ≡ goes → c.source.items.items ≡ its → c.source.end ≡ e → c.current ≡ opens.Nothing → c.ahead.items ≡ []
    → (end_of goes its e ≡ None) ⊎ ((end_of goes its e ≡ e) × HasPutAll boards c)
known_by boards c true its e g i n nothing ahead = inl refl
known_by boards c false (x ∷ its) e g i n nothing ahead = inl refl
known_by boards c false [] e g i n nothing ahead = inr (refl, record { nothing = nothing; ended = g; items = i; ahead = λ p b lt. subst (λ (rows : List (List (List StepUnit))). row_at rows p b ≡ []) (sym ahead) (none_in p b) })

pub quiet_turned : (m : Machine) (old : Course) (k clear : ℕ) (batches : List Batch) (note : Note) → old.current ≡ opens.Nothing → old.next ≡ k → k < 2 ^ 42 → clear ≡ idle_clear old → k < clear → old.ahead.items ≡ [] → length old.lines.waiting.items ≡ 0 → tells_nothing old ≡ true
    → IsFed old k → batches ≡ batches_of (length m.boards) k [] [] → note.turn ≡ k → note.news ≡ [] → TurnsCourse m old k batches note (next_turn old k)
quiet_turned m old k clear batches note nothing at small is lt ahead waiting told fed are turn news =
    let new = next_turn old k in
    let its = old.source.items.items in
    let end = end_of old.goes its old.source.end in
    let by = subst (λ n. k < n) is lt in
    let g = goes_as old.goes old.ready old.place k _ by in
    let s = stays old.read end (old.place + begins_in its) (told_by old.read old.goes old.source.end its told) in
    let takes : TakesUp m old k [] old = λ seen h. none_taken m old seen k [] refl (λ on. waiting) at fed h in
    let passes : Advances m old k batches None new = λ seen h. idle_passed m old new seen k batches None h nothing nothing (record { source = refl; read = refl; connected = refl; lines = refl; place = refl }) refl g.0 (ap (λ n. n + 1) (sym at)) (sym at) (omega (arith, at, small))
    (ahead ∙ sym (ap (λ rs. drop 1 rs) ahead))
    (are ∙ ap (λ n. batches_of (length m.boards) n [] []) (sym at) ∙ ap (λ r. batches_of (length m.boards) old.next r []) (sym (ap (λ rs. slice_index_or rs 0 []) ahead)))
    g.1 in
    let due : IsNotDue new (k + 260) = λ idle on kind dwell rest i. not_due old.goes old.connected (is_some old.source.end) old.read old.ready old.next k dwell kind rest its at i on by in
    let begins : BeginsSection m new k None new = λ seen h. none_begun m new seen k refl due h in
    turned m old old new new new k [] batches None None note old.read end (known_by (length m.boards) new old.goes its old.source.end refl refl refl nothing ahead) (λ all. put_all old.goes its old.source.end all.ended all.items) s.0 at tt tt takes passes begins refl turn
    (news ∙ sym (ap (λ r. news_items r ++ []) s.1))
