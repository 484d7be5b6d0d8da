use Rattle.std.proofs.Common.{◌∙◌, refl, subst, sym}
use Rattle.motion_stream.specs.declared.course.Course.{Course}
use Rattle.motion_stream.specs.declared.course.Open.TheVariants as opens
use Rattle.std.specs.Prelude.{Option}
use Rattle.motion_stream.specs.declared.course.Open.{Open}
use Rattle.motion_stream.specs.Courses.{IsCourseOf}
use Rattle.motion_stream.specs.Motions.{IsMore, read_on}
use Rattle.motion_stream.specs.Seen.{Going, items_read}
use Rattle.motion_stream.specs.Texts.{ended_after, text_after}
use Rattle.motion_stream.proofs.Hearing.{text_heard, text_idle}
use Rattle.motion_stream.proofs.Limits.{waiting_few}
use Rattle.motion_stream.proofs.Sourcing.{waiting_good}
use Rattle.motion_stream.proofs.text.take_text.Goals as goal

pub take_waiting-requires-clause-good : goal.take_waiting-requires-clause-good
take_waiting-requires-clause-good c =
    let s = c.requires.seen in
    waiting_good c.args.machine.now c.take_piece.new.source (text_after s.text s.ended c.args.bytes.now) (ended_after s.ended c.args.end) (items_read s.begun s.going) (c.in_ok-take_piece.ensures.read s.text s.ended (items_read s.begun s.going) c.requires.is.source)

pub take_waiting-requires-clause-few : goal.take_waiting-requires-clause-few
take_waiting-requires-clause-few c =
    let s = c.requires.seen in
    waiting_few c.args.machine.now c.args.course.now c.in-Goes.section c.in-Goes.homes s c.take_piece.new.source (text_after s.text s.ended c.args.bytes.now) (ended_after s.ended c.args.end) (sym c.replace.ensures.value ∙ c.in-Goes.is) c.requires.is
    (c.in_ok-take_piece.ensures.read s.text s.ended (items_read s.begun s.going) c.requires.is.source)

pub returns-in-Nothing : goal.returns-in-Nothing
returns-in-Nothing c = λ seen h. (
    let m = c.args.machine.now in
    let old = c.args.course.now in
    let source = c.take_piece.new.source in
    let Then : Open → Type 0 = λ o. (going : Option Going) × IsMore seen.going going × IsCourseOf m (record old { source = source; current = o }) (read_on seen c.args.bytes.now c.args.end going) in
    subst Then (sym c.replace.ensures.after) (text_idle m old source seen c.args.bytes.now c.args.end (sym c.replace.ensures.value ∙ c.in-Nothing.is) c.in_ok-take_piece.ensures.read c.in_ok-take_piece.ensures.grown h))

pub returns-in_ok-take_waiting-in-Goes : goal.returns-in_ok-take_waiting-in-Goes
returns-in_ok-take_waiting-in-Goes c = λ seen h. (
    let old = c.args.course.now in
    let mid : Course = record old { source = c.take_piece.new.source } in
    let new : Course = record old { source = record c.take_piece.new.source { items = c.take_waiting.new.items }; current = opens.Goes c.take_waiting.new.section c.in-Goes.homes } in
    text_heard c.args.machine.now old mid new c.in-Goes.section c.take_waiting.new.section c.in-Goes.homes seen c.args.bytes.now c.args.end (record { read = refl; connected = refl; lines = refl; ready = refl; start = refl; place = refl; goes = refl; ahead = refl; next = refl }) (sym c.replace.ensures.value ∙ c.in-Goes.is) refl c.in_ok-take_piece.ensures.read refl
    refl refl refl c.in_ok-take_waiting-in-Goes.ensures h)
