-- A turn of a section that goes on, which stays in its place.
use Rattle.std.proofs.Common.{◌≡◌, ℕ, ◌+◌, ◌<◌, ◌≤◌, ◌^◌, Bool, true, false, List, [], length, refl, ap, sym, subst, ◌∙◌}
use Rattle.std.specs.Prelude.{None}
use Rattle.msg_code.specs.declared.unit.Batch.{Batch}
use Rattle.plan_types.specs.declared.machine.Machine.{Machine}
use Rattle.step_feed.specs.Units.{StepUnit}
use Rattle.motion_stream.specs.declared.course.Course.{Course}
use Rattle.motion_stream.specs.declared.course.Open.{Open}
use Rattle.motion_stream.specs.declared.course.Open.TheVariants as opens
use Rattle.motion_stream.specs.declared.source.Source.{Source}
use Rattle.motion_stream.specs.Courses.{BeginsNoEarlier, IsGoing, IsSoundBy, IsStopped}
use Rattle.motion_stream.specs.Gone.{EndsOpen, GivesIn, GivesOwn, HasDrawn, HasEndedOpen, HasGivenRows}
use Rattle.motion_stream.specs.Rows.{AreJoined}
use Rattle.motion_stream.specs.Steps.{Advances, HasPassed}
use Rattle.motion_stream.proofs.Drawing.{next_is, passed_kept}
use Rattle.motion_stream.proofs.Streaming.{before_passed, drawn_passed, ended_passed}

-- before its first turn
pub before_on : (m : Machine) (old new : Course) (o : Open) (batches : List Batch) → old.current ≡ o → (old.current ≡ opens.Nothing → ⊥) → HasPassed m old new [] batches → old.next < 2 ^ 42 → old.next + 250 < old.start → Advances m old old.next batches None new
before_on m old new opens.Nothing batches is on p small before = absurd (on is)
before_on m old new (opens.Goes s homes) batches is on p small before = λ seen h.
    let k = passed_kept m old new [] batches p in
    let now : new.current ≡ opens.Goes s homes = ap (λ (x : Course). x.current) p.others ∙ is in
    let early : BeginsNoEarlier (opens.Goes s homes) (old.next + 260) (old.next + 261) old = subst (λ x. BeginsNoEarlier x (old.next + 260) (old.next + 261) old) is h.early in
    before_passed m old new s homes seen old.next batches (subst (λ x. IsGoing m x old seen.told seen.begun seen.going) is h.going) h k (ap (λ (x : Course). x.ready) p.others) (ap (λ (x : Course). x.start) p.others) (ap (λ (x : Course). x.next) p.others) refl small before p.ahead p.are
    (λ x. subst (λ y. IsGoing m y new seen.told seen.begun seen.going) (sym now) x)
    (subst (λ y. BeginsNoEarlier y (old.next + 260) (old.next + 261) new) (sym now) (λ takes. subst (λ (x : Source). IsStopped x.items.items) (sym k.source) (early takes)))

-- the next units are those of the next turn
pub gives_in : (m : Machine) (c : Course) (o : Open) → c.current ≡ o → IsSoundBy m c c.next → c.start ≤ c.next + 250 → GivesIn c.next o
gives_in m c opens.Nothing is sound near = tt
gives_in m c (opens.Goes s homes) is sound near =
    let seen = sound.seen in
    next_is m c s homes seen.told seen.begun seen.going (subst (λ x. IsGoing m x c seen.told seen.begun seen.going) is sound.is.going) near

-- and are behind it those of the one behind
pub gives_on : (k : ℕ) (o new : Open) (own : List (List StepUnit)) (over : Bool) → GivesIn k o → GivesOwn own over o new → GivesIn (k + 1) new
gives_on k opens.Nothing new own over next gives = absurd gives
gives_on k (opens.Goes s homes) new own over next gives =
    subst (GivesIn (k + 1)) (sym gives.1) (gives.2.drawn.next ∙ ap (λ n. n + 1) next)

-- in a turn behind which it goes on
pub own_passed : (m : Machine) (old new : Course) (o later : Open) (own : List (List StepUnit)) (over : Bool) (batches : List Batch) → old.current ≡ o → GivesIn old.next o → GivesOwn own over o later → over ≡ false → HasPassed m (record old { current = later }) new own batches → old.next < 2 ^ 42
    → old.start ≤ old.next + 250 → Advances m old old.next batches None new
own_passed m old new opens.Nothing later own over batches is next gives off p small near = absurd gives
own_passed m old new (opens.Goes s homes) later own over batches is next gives off p small near = λ seen h.
    let t = gives.0 in
    let has = gives.2 in
    let k = passed_kept m (record old { current = later }) new own batches p in
    let now : new.current ≡ opens.Goes t homes = ap (λ (x : Course). x.current) p.others ∙ gives.1 in
    let drawn : HasDrawn s t old.next own = subst (λ n. HasDrawn s t n own) next has.drawn in
    let early : BeginsNoEarlier (opens.Goes s homes) (old.next + 260) (old.next + 261) old = subst (λ x. BeginsNoEarlier x (old.next + 260) (old.next + 261) old) is h.early in
    drawn_passed m old new s t homes own seen old.next batches (subst (λ x. IsGoing m x old seen.told seen.begun seen.going) is h.going) h (record { source = k.source; read = k.read; connected = k.connected; lines = k.lines; place = k.place }) (ap (λ (x : Course). x.ready) p.others) (ap (λ (x : Course). x.start) p.others) (ap (λ (x : Course). x.next) p.others) refl small near p.ahead p.are drawn has.packed (has.left off)
    (λ begun going x. subst (λ y. IsGoing m y new seen.told begun going) (sym now) x)
    (subst (λ y. BeginsNoEarlier y (old.next + 260) (old.next + 261) new) (sym now) (λ takes. subst (λ (x : Source). IsStopped x.items.items) (sym k.source) (early (sym drawn.takes ∙ takes))))

-- in a turn behind which its end is known
pub own_ended : (m : Machine) (old mid new : Course) (o later : Open) (own : List (List StepUnit)) (over : Bool) (batches : List Batch) → old.current ≡ o → GivesIn old.next o → GivesOwn own over o later → over ≡ true → HasPassed m (record old { current = later }) mid own batches → old.next < 2 ^ 42
    → EndsOpen (length m.boards) mid mid.current new → Advances m old old.next batches None new
own_ended m old mid new opens.Nothing later own over batches is next gives on p small ends = absurd gives
own_ended m old mid new (opens.Goes s homes) later own over batches is next gives on p small ends = λ seen h.
    let t = gives.0 in
    let has = gives.2 in
    let k = passed_kept m (record old { current = later }) mid own batches p in
    let now : mid.current ≡ opens.Goes t homes = ap (λ (x : Course). x.current) p.others ∙ gives.1 in
    let e : HasEndedOpen (length m.boards) mid new t = subst (λ y. EndsOpen (length m.boards) mid y new) now ends in
    let drawn : HasDrawn s t old.next own = subst (λ n. HasDrawn s t n own) next has.drawn in
    let at : mid.next ≡ old.next + 1 = ap (λ (x : Course). x.next) p.others in
    let q = e.others in
    let given = subst (λ n. HasGivenRows t e.last n e.rows) at e.given in
    ended_passed m old new s t e.last homes own e.rows e.end seen old.next batches (has.moves on) (subst (λ x. IsGoing m x old seen.told seen.begun seen.going) is h.going) h
    (record { source = ap (λ (x : Course). x.source) q ∙ k.source; read = ap (λ (x : Course). x.read) q ∙ k.read; connected = ap (λ (x : Course). x.connected) q ∙ k.connected; lines = ap (λ (x : Course). x.lines) q ∙ k.lines; place = ap (λ (x : Course). x.place) q ∙ k.place })
    (ap (λ (x : Course). x.next) q ∙ at) refl small p.are drawn (has.past on) given e.ended (ap (λ (x : Course). x.ready) q) (ap (λ (x : Course). x.goes) q) (ap (λ (x : Course). x.current) q)
    (subst (λ (rs : List (List (List StepUnit))). AreJoined (length m.boards) rs e.rows new.ahead.items) p.ahead e.joined)
