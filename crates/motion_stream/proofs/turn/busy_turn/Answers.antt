use Rattle.std.proofs.Common.{◌≡◌, ◌∙◌, ◌+◌, ◌++◌, ℕ, ap, arith, refl, subst, sym}
use Rattle.msg_code.specs.declared.talk.Note.{Note}
use Rattle.std.specs.Prelude.{◌⊎◌, None, false}
use Rattle.motion_work.specs.Begins.{news_items}
use Rattle.motion_stream.specs.Courses.{IsCourseBy}
use Rattle.motion_stream.specs.News.{HasPutAll, begins_in, read_news}
use Rattle.motion_stream.specs.Steps.{Advances}
use Rattle.motion_stream.proofs.Turning.{by_next, early_on, turned}
use Rattle.motion_stream.proofs.turn.busy_turn.Goals as goal

pub advance-requires-clause-sound : goal.advance-requires-clause-sound
advance-requires-clause-sound c = by_next c.args.machine.now c.take_up.new.course c.args.k (c.take_up.ensures.next ∙ c.requires.next) c.in_ok-further.ensures.sound

pub begin_next-requires-clause-next : goal.begin_next-requires-clause-next
begin_next-requires-clause-next c =
    let s = by_next c.args.machine.now c.take_up.new.course c.args.k (c.take_up.ensures.next ∙ c.requires.next) c.in_ok-further.ensures.sound in
    let a = c.in_ok-batches.ensures.passed s.seen s.is in
    a.2.next ∙ a.1.next ∙ ap (λ n. n + 1) (sym s.is.next ∙ c.take_up.ensures.next ∙ c.requires.next)

pub begin_next-requires-clause-early : goal.begin_next-requires-clause-early
begin_next-requires-clause-early c =
    let s = by_next c.args.machine.now c.take_up.new.course c.args.k (c.take_up.ensures.next ∙ c.requires.next) c.in_ok-further.ensures.sound in
    let a = c.in_ok-batches.ensures.passed s.seen s.is in
    let k = c.take_up.new.course.next in
    early_on c.args.machine.now c.take_up.new.course c.advance.new.course s.seen a.0 (k + 260) (k + 261) a.1.told s.is a.2 c.in_ok-further.ensures.early

pub begin_next-requires-clause-sound : goal.begin_next-requires-clause-sound
begin_next-requires-clause-sound c =
    let s = by_next c.args.machine.now c.take_up.new.course c.args.k (c.take_up.ensures.next ∙ c.requires.next) c.in_ok-further.ensures.sound in
    let a = c.in_ok-batches.ensures.passed s.seen s.is in
    (a.0, subst (λ n. IsCourseBy c.args.machine.now c.advance.new.course a.0 (n + 260) (n + 261)) (c.take_up.ensures.next ∙ c.requires.next) a.2)

pub read_news-read-requires : goal.read_news-read-requires
read_news-read-requires c =
    let s = by_next c.args.machine.now c.take_up.new.course c.args.k (c.take_up.ensures.next ∙ c.requires.next) c.in_ok-further.ensures.sound in
    let a = c.in_ok-batches.ensures.passed s.seen s.is in
    let b = c.in_ok-start.ensures.begun a.0 (subst (λ n. IsCourseBy c.args.machine.now c.advance.new.course a.0 (n + 260) (n + 261)) (c.take_up.ensures.next ∙ c.requires.next) a.2) in
    let few = b.2.few in
    let small = b.2.small in
    omega (arith, few, small)

pub returns-clause-made : goal.returns-clause-made
returns-clause-made c =
    let m = c.args.machine.now in
    let old = c.args.course.now in
    let first = c.take_up.new.course in
    let made = c.in_ok-batches.field-0 in
    let note : Note = record { turn = c.args.k; news = c.in_ok-news.news; clear = c.clear_turn-clear.result; out = false } in
    turned m old first c.advance.new.course c.begin_next.new.course (record c.begin_next.new.course { read = c.read_after-course.result }) c.args.k c.in_ok-further.further made.batches.items made.done c.in_ok-start.start note c.read_after-course.result c.telling-end.result (subst (λ (n : ℕ). (c.telling-end.result ≡ None) ⊎ ((c.telling-end.result ≡ c.begin_next.new.course.source.end) × HasPutAll n c.begin_next.new.course)) c.len.ensures c.telling-end.ensures.put) (λ all. c.telling-end.ensures.told (subst (λ (n : ℕ). HasPutAll n c.begin_next.new.course) (sym c.len.ensures) all)) c.read_after-course.ensures c.requires.next
    c.in_ok-batches.ensures.plain c.in_ok-start.ensures.plain c.in_ok-further.ensures.taken
    (subst (λ n. Advances m first n made.batches.items made.done c.advance.new.course) (c.take_up.ensures.next ∙ c.requires.next) c.in_ok-batches.ensures.passed) c.in_ok-start.ensures.begun refl refl
    (c.in_ok-news.ensures ∙ ap (λ r. news_items made.done ++ (news_items c.in_ok-start.start ++ (news_items r ++ c.as_slice.result.now))) c.read_news-read.ensures ∙ ap (λ f. news_items made.done ++ (news_items c.in_ok-start.start ++ (news_items (read_news c.begin_next.new.course.read c.telling-end.result (c.begin_next.new.course.place + begins_in c.begin_next.new.course.source.items.items)) ++ f))) c.as_slice.ensures)
