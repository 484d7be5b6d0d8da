-- The steppers of a board, one by one.
use Rattle.std.proofs.Common.{All, ◌≡◌, ℕ, ◌-◌, ◌*◌, ◌<◌, ◌≤◌, ◌^◌, List, [], ◌∷◌, ◌++◌, length, get_or, arith, ap, sym, ◌∙◌, append_assoc, subst, refl, Bool, true, false, ◌+◌}
use Rattle.std.proofs.Math.Nat.{div-add-mod}
use Rattle.std.proofs.lemmas.Nat.{mod_below}
use Rattle.plan_types.specs.Plan.{cancel_reach}
use Rattle.clock_line.proofs.Holding.{tick-mono}
use Rattle.std.proofs.lemmas.List.{append-nil}
use Rattle.plan_types.specs.declared.plan.Planned.{Planned}
use Rattle.plan_types.specs.Clock.{tick, tick_limit, turn_ns}
use Rattle.plan_types.specs.Lines.{Clocks, lines_board, lines_tick, last_from}
use Rattle.clock_line.specs.Kept.{AreKept}
use Rattle.plan_types.specs.Sections.{TimedPart}
use Rattle.step_feed.specs.Units.{StepUnit}
use Rattle.section_stream.specs.declared.stepper.StepperStream.{StepperStream}
use Rattle.section_stream.specs.Pieces.{AreInTurns, Piece}
use Rattle.section_stream.proofs.Cutting.{past-more, piece-late, turns-more}
use Rattle.section_stream.specs.Steppers.{IsCaughtUp, IsDueFrom, IsPlannedTo, IsStepperOf, KnowsTo, StepperKind, stepper_clocks, kind_of, known_of, planned_turn}
use Rattle.section_units.specs.Sections.{of_stepper}
use Rattle.section_feed.specs.Boards.{AreUpTo, HasGiven, IsLasting, IsUpTo, most_ns}
use Rattle.section_feed.specs.Changes.{GoOn, StepperGoesOn}
use Rattle.section_feed.proofs.Lasts.{board-small, kept-lasting, last-soon, lines-small, tick-small}
use Rattle.section_feed.proofs.Orders.{at-added}
use Rattle.plan_types.proofs.Facts.{true_false}
use Rattle.section_units.proofs.Merging.{of_append, of_other, of_one}

-- a stepper that may be given a move
pub record MayPush (clocks : Clocks) (begin end : ℕ) (s : StepperStream) : Type 0 where
  pub begun : (stepper_clocks s).first.at ≤ begin
  pub order : known_of s ≤ tick (stepper_clocks s).first begin
  pub room : tick (stepper_clocks s).first end < tick_limit
  pub on_board : lines_board (stepper_clocks s) (tick (stepper_clocks s).first end) < tick_limit

pub may-push : (clocks : Clocks) (begin end turn place : ℕ) (s : StepperStream) → IsLasting clocks → IsUpTo clocks true begin turn place s → clocks.first.at ≤ begin → end < 2 ^ 44 * turn_ns → MayPush clocks begin end s
may-push clocks begin end turn place s is up begun small =
    let e = sym up.clocks_are in
    record {
      begun = subst (λ (k : Clocks). k.first.at ≤ begin) e begun;
      order = subst (λ (k : Clocks). known_of s ≤ tick k.first begin) e (up.known refl);
      room = subst (λ (k : Clocks). tick k.first end < tick_limit) e (tick-small clocks end is small);
      on_board = subst (λ (k : Clocks). lines_board k (tick k.first end) < tick_limit) e (board-small clocks end is small);
    }

-- the turns of pieces stay where the clock lines do
turns-same : (old new : StepperStream) (pieces : List Piece) → stepper_clocks new ≡ stepper_clocks old → AreInTurns (stepper_clocks old) 0 pieces → AreInTurns (stepper_clocks new) 0 pieces
turns-same old new pieces e h = subst (λ (k : Clocks). AreInTurns k 0 pieces) (sym e) h

pub pushed-on : (clocks : Clocks) (begin end turn place : ℕ) (more : List TimedPart) (old new : StepperStream) → IsUpTo clocks true begin turn place old → known_of new ≤ tick (stepper_clocks old).first end → (tick (stepper_clocks old).first begin ≤ known_of old → tick (stepper_clocks old).first end ≤ known_of new) → (IsCaughtUp turn old → IsCaughtUp turn new) → stepper_clocks new ≡ stepper_clocks old → planned_turn new ≡ planned_turn old → kind_of new ≡ kind_of old → ((low : ℕ) → IsDueFrom low old → IsDueFrom low new)
    → ((base : ℕ) (parts : List TimedPart) (out : List Planned) (pieces : List Piece) (given : List StepUnit) → IsStepperOf old base parts out pieces given → IsStepperOf new base (parts ++ more) out pieces given)
    → StepperGoesOn clocks true end turn more [] place old new
pushed-on clocks begin end turn place more old new up known reaches caught lines same kind due pushed =
    let p = up.packed in
    record {
      up = record {
        clocks_are = lines ∙ up.clocks_are;
        known = λ e. subst (λ (k : Clocks). known_of new ≤ tick k.first end) up.clocks_are known;
        reaches = λ e. subst (λ (k : Clocks). tick k.first end ≤ known_of new) up.clocks_are (reaches (subst (λ (k : Clocks). tick k.first begin ≤ known_of old) (sym up.clocks_are) (up.reaches refl)));
        over = λ e. absurd (true_false e);
        caught_up = caught up.caught_up;
        packed = omega arith;
        number = ap (λ (k : StepperKind). k.oid) kind ∙ up.number;
      };
      kind = kind;
      due = due;
      on = λ base parts given h. record { out = h.out; pieces = h.pieces; stepper = rw (append-nil given) (pushed base parts h.out h.pieces given h.stepper); in_turns = turns-same old new h.pieces lines h.in_turns; past = (let l = h.past in omega (arith, l, same)) };
    }

-- a stepper that may be packed up to a turn
pub record MayPlan (clocks : Clocks) (turn : ℕ) : Type 0 where
  pub soon : last_from clocks.first.at clocks.held < 2 ^ 62 * turn_ns
  pub until_small : tick clocks.first (turn * turn_ns) < 2 ^ 64
  pub small : lines_tick clocks (turn * turn_ns) < 2 ^ 64

pub may-plan : (clocks : Clocks) (turn : ℕ) → IsLasting clocks → turn < 2 ^ 44 → clocks.first.at ≤ turn * turn_ns → MayPlan clocks turn
may-plan clocks turn is few begun =
    let t = tick-small clocks (turn * turn_ns) is (omega arith) in
    let u = lines-small clocks (turn * turn_ns) is (omega arith) in
    record {
      soon = last-soon clocks (turn * turn_ns) is begun (omega arith);
      until_small = omega arith;
      small = omega arith;
    }

-- a stepper whose moves go on behind a turn knows its steps up to that turn
knows-line : (clocks : Clocks) (time turn known : ℕ) → IsLasting clocks → clocks.first.at ≤ turn * turn_ns → (turn + 1) * turn_ns ≤ time → tick clocks.first time ≤ known → tick clocks.first (turn * turn_ns) + cancel_reach clocks.first.freq ≤ known
knows-line clocks time turn known is begun room reaches =
    let line = clocks.first in
    let mono = tick-mono line ((turn + 1) * turn_ns) time room in
    let whole = is.valid.freq_whole in
    let low = is.valid.freq_low in
    let more : ((turn + 1) * turn_ns - line.at) * line.freq ≡ (turn * turn_ns - line.at) * line.freq + 1_000_000 * line.freq = (let e : (turn + 1) * turn_ns - line.at ≡ (turn * turn_ns - line.at) + 1_000_000 = omega arith in rw e (omega arith)) in
    let p = div-add-mod ((turn * turn_ns - line.at) * line.freq) 1_000_000_000 in
    let q = div-add-mod (((turn + 1) * turn_ns - line.at) * line.freq) 1_000_000_000 in
    let r = mod_below (((turn + 1) * turn_ns - line.at) * line.freq) 1_000_000_000 (omega arith) in
    let t = mod_below ((turn * turn_ns - line.at) * line.freq) 1_000_000_000 (omega arith) in
    let u = div-add-mod line.freq 1_000 in
    let v = div-add-mod (line.freq * 750) 1_000_000 in
    omega arith

knows-ended : (clocks : Clocks) (turn known : ℕ) → IsLasting clocks → clocks.first.at ≤ turn * turn_ns → turn < 2 ^ 44 → known ≡ tick clocks.first most_ns → tick clocks.first (turn * turn_ns) + cancel_reach clocks.first.freq ≤ known
knows-ended clocks turn known is begun small over = knows-line clocks most_ns turn known is begun (omega arith) (omega arith)

knows-to : (clocks : Clocks) (goes : Bool) (time before turn place : ℕ) (s : StepperStream) → IsLasting clocks → IsUpTo clocks goes time before place s → clocks.first.at ≤ turn * turn_ns → turn < 2 ^ 44 → (goes ≡ true → (turn + 1) * turn_ns ≤ time) → KnowsTo turn s
knows-to clocks true time before turn place s is up begun small room = subst (λ (k : Clocks). tick k.first (turn * turn_ns) + cancel_reach k.first.freq ≤ known_of s) (sym up.clocks_are) (knows-line clocks time turn (known_of s) is begun (room refl) (up.reaches refl))
knows-to clocks false time before turn place s is up begun small room = subst (λ (k : Clocks). tick k.first (turn * turn_ns) + cancel_reach k.first.freq ≤ known_of s) (sym up.clocks_are) (knows-ended clocks turn (known_of s) is begun small (up.over refl))

pub planned-on : (clocks : Clocks) (goes : Bool) (time before turn place : ℕ) (end : ℕ) (old new : StepperStream) → IsUpTo clocks goes time before place old → (KnowsTo turn old → IsCaughtUp turn new) → IsLasting clocks → clocks.first.at ≤ turn * turn_ns → turn < 2 ^ 44 → (goes ≡ true → (turn + 1) * turn_ns ≤ time) → known_of new ≡ known_of old → stepper_clocks new ≡ stepper_clocks old → planned_turn new ≡ turn → kind_of new ≡ kind_of old → before ≤ turn
    → ((low : ℕ) → KnowsTo turn old → AreKept clocks → IsDueFrom low old → IsDueFrom low new)
    → ((base : ℕ) (parts : List TimedPart) (out : List Planned) (pieces : List Piece) (given : List StepUnit) → IsStepperOf old base parts out pieces given → IsPlannedTo new turn end base parts out pieces given)
    → StepperGoesOn clocks goes time turn [] [] place old new
planned-on clocks goes time before turn place end old new up caught lasting begun small room known lines same kind order due planned = record {
  up = record {
    clocks_are = lines ∙ up.clocks_are;
    known = λ e. (let k = up.known e in omega arith);
    reaches = λ e. (let k = up.reaches e in omega arith);
    over = λ e. (let k = up.over e in omega arith);
    caught_up = caught (knows-to clocks goes time before turn place old lasting up begun small room);
    packed = omega arith;
    number = ap (λ (k : StepperKind). k.oid) kind ∙ up.number;
  };
  kind = kind;
  due = λ low. due low (knows-to clocks goes time before turn place old lasting up begun small room) (kept-lasting clocks lasting);
  on = λ base parts given h. (
      let r = planned base parts h.out h.pieces given h.stepper in
      let kept = subst AreKept (sym up.clocks_are) (kept-lasting clocks lasting) in
      let at = up.packed in
      let past = h.past in
      let is = r.piece_to.turn_is in
      let last = past-more 0 h.pieces r.piece in
      let late = piece-late old new base before parts h.out (h.out ++ r.more) h.pieces r.piece given given h.stepper r.stepper lines kind kept up.caught_up in
      let early : All (λ (s : Planned). s.tick < lines_tick (stepper_clocks old) (r.piece.turn * turn_ns)) r.piece.steps =
      subst (λ (c : Clocks). All (λ (s : Planned). s.tick < lines_tick c (r.piece.turn * turn_ns)) r.piece.steps) lines (subst (λ n. All (λ (s : Planned). s.tick < lines_tick (stepper_clocks new) (n * turn_ns)) r.piece.steps) (sym is) r.piece_to.before) in
      record {
        out = h.out ++ r.more;
        pieces = h.pieces ++ r.piece ∷ [];
        stepper = rw (append-nil given, append-nil parts) r.stepper;
        in_turns = turns-same old new (h.pieces ++ r.piece ∷ []) lines (turns-more (stepper_clocks old) 0 before h.pieces r.piece h.in_turns (omega (arith, at, past)) (omega (arith, order, is)) late early);
        past = omega (arith, last, is, same);
      });
}

-- nothing more was given
pub kept-on : (clocks : Clocks) (goes goes' : Bool) (time turn place : ℕ) (old new : StepperStream) → IsUpTo clocks goes time turn place old → (goes' ≡ true → known_of new ≤ tick clocks.first time) → (goes' ≡ true → tick clocks.first time ≤ known_of new) → (goes' ≡ false → known_of new ≡ tick clocks.first most_ns) → (IsCaughtUp turn old → IsCaughtUp turn new) → stepper_clocks new ≡ stepper_clocks old → planned_turn new ≡ planned_turn old → kind_of new ≡ kind_of old → ((low : ℕ) → IsDueFrom low old → IsDueFrom low new)
    → ((base : ℕ) (parts : List TimedPart) (out : List Planned) (pieces : List Piece) (given : List StepUnit) → IsStepperOf old base parts out pieces given → IsStepperOf new base parts out pieces given)
    → StepperGoesOn clocks goes' time turn [] [] place old new
kept-on clocks goes goes' time turn place old new up known reaches over caught lines same kind due kept =
    let p = up.packed in
    record {
      up = record {
        clocks_are = lines ∙ up.clocks_are;
        known = known;
        reaches = reaches;
        over = over;
        caught_up = caught up.caught_up;
        packed = omega arith;
        number = ap (λ (k : StepperKind). k.oid) kind ∙ up.number;
      };
      kind = kind;
      due = due;
      on = λ base parts given h. record { out = h.out; pieces = h.pieces; stepper = rw (append-nil given, append-nil parts) (kept base parts h.out h.pieces given h.stepper); in_turns = turns-same old new h.pieces lines h.in_turns; past = (let l = h.past in omega (arith, l, same)) };
    }

-- a unit was given
pub gave-on : (clocks : Clocks) (goes : Bool) (time turn place : ℕ) (u : StepUnit) (old new : StepperStream) → IsUpTo clocks goes time turn place old → known_of new ≡ known_of old → (IsCaughtUp turn old → IsCaughtUp turn new) → stepper_clocks new ≡ stepper_clocks old → planned_turn new ≡ planned_turn old → kind_of new ≡ kind_of old → ((low : ℕ) → IsDueFrom low old → IsDueFrom low new) → u.stepper ≡ (kind_of old).oid
    → ((base : ℕ) (parts : List TimedPart) (out : List Planned) (pieces : List Piece) (given : List StepUnit) → IsStepperOf old base parts out pieces given → IsStepperOf new base parts out pieces (given ++ u ∷ []))
    → StepperGoesOn clocks goes time turn [] (u ∷ []) place old new
gave-on clocks goes time turn place u old new up known caught lines same kind due own gave =
    let p = up.packed in
    let mine = of_one place u [] (own ∙ up.number) in
    record {
      up = record {
        clocks_are = lines ∙ up.clocks_are;
        known = λ e. (let k = up.known e in omega arith);
        reaches = λ e. (let k = up.reaches e in omega arith);
        over = λ e. (let k = up.over e in omega arith);
        caught_up = caught up.caught_up;
        packed = omega arith;
        number = ap (λ (k : StepperKind). k.oid) kind ∙ up.number;
      };
      kind = kind;
      due = due;
      on = λ base parts given h. record { out = h.out; pieces = h.pieces; stepper = rw (append-nil parts) (subst (λ us. IsStepperOf new base parts h.out h.pieces (given ++ us)) (sym mine) (gave base parts h.out h.pieces given h.stepper)); in_turns = turns-same old new h.pieces lines h.in_turns; past = (let l = h.past in omega (arith, l, same)) };
    }

-- a stepper that gave nothing, as another gave a unit
pub still-on : (clocks : Clocks) (goes : Bool) (time turn place : ℕ) (u : StepUnit) (s : StepperStream) → IsUpTo clocks goes time turn place s → (u.stepper ≡ place → ⊥) → StepperGoesOn clocks goes time turn [] (u ∷ []) place s s
still-on clocks goes time turn place u s up other =
    let none = of_other place u [] other in
    record {
      up = up;
      kind = refl;
      due = λ low h. h;
      on = λ base parts given h. record { out = h.out; pieces = h.pieces; stepper = rw (append-nil parts) (subst (λ us. IsStepperOf s base parts h.out h.pieces us) (sym (ap (λ us. given ++ us) none ∙ append-nil given)) h.stepper); in_turns = h.in_turns; past = h.past };
    }

-- one stepper after another
pub goes-on-twice : (clocks : Clocks) (goes : Bool) (time turn place : ℕ) (one two : List StepUnit) (a b c : StepperStream) → StepperGoesOn clocks goes time turn [] one place a b → StepperGoesOn clocks goes time turn [] two place b c → StepperGoesOn clocks goes time turn [] (one ++ two) place a c
goes-on-twice clocks goes time turn place one two a b c p q = record {
  up = q.up;
  kind = q.kind ∙ p.kind;
  due = λ low h. q.due low (p.due low h);
  on = λ base parts given h. (
      let r = p.on base parts given h in
      let s = q.on base (parts ++ []) (given ++ of_stepper place one) r in
      let e : (given ++ of_stepper place one) ++ of_stepper place two ≡ given ++ of_stepper place (one ++ two) = append_assoc given (of_stepper place one) (of_stepper place two) ∙ ap (λ us. given ++ us) (sym (of_append place one two)) in
      subst (λ us. HasGiven c base (parts ++ []) us) e (subst (λ ps. HasGiven c base ps ((given ++ of_stepper place one) ++ of_stepper place two)) (append-nil (parts ++ [])) s));
}

pub go-on-twice : (clocks : Clocks) (goes : Bool) (time turn : ℕ) (one two : List StepUnit) (a b c : List StepperStream) → GoOn clocks goes time turn [] one a b → GoOn clocks goes time turn [] two b c → GoOn clocks goes time turn [] (one ++ two) a c
go-on-twice clocks goes time turn one two a b c p q =
    let l = p.same in
    let m = q.same in
    record { same = omega arith; each = λ k d h. goes-on-twice clocks goes time turn k one two (get_or a k d) (get_or b k d) (get_or c k d) (p.each k d h) (q.each k d (omega arith)) }

pub go-on-none : (clocks : Clocks) (goes : Bool) (time turn : ℕ) (steppers : List StepperStream) → AreUpTo clocks goes time turn steppers → GoOn clocks goes time turn [] [] steppers steppers
go-on-none clocks goes time turn steppers up = record {
  same = refl;
  each = λ k d h. record {
    up = up.each k d h;
    kind = refl;
    due = λ low h. h;
    on = λ base parts given h. record { out = h.out; pieces = h.pieces; stepper = rw (append-nil given, append-nil parts) h.stepper; in_turns = h.in_turns; past = h.past };
  };
}

pub up-after : (clocks : Clocks) (goes : Bool) (time turn : ℕ) (more : List TimedPart) (units : List StepUnit) (old new : List StepperStream) → GoOn clocks goes time turn more units old new → AreUpTo clocks goes time turn new
up-after clocks goes time turn more units old new on = let l = on.same in record { each = λ k d h. (on.each k d (omega arith)).up }

-- a stepper is added
pub up-added : (clocks : Clocks) (goes : Bool) (time turn : ℕ) (old new : List StepperStream) (s : StepperStream) → AreUpTo clocks goes time turn old → IsUpTo clocks goes time turn (length old) s → new ≡ old ++ s ∷ [] → AreUpTo clocks goes time turn new
up-added clocks goes time turn old new s up here is = rw is (record { each = λ k d h. at-added (λ n t. IsUpTo clocks goes time turn n t) old s up.each here k d h })

pub new-up : (clocks : Clocks) (goes : Bool) (time turn place : ℕ) (s : StepperStream) → goes ≡ true → time ≡ turn * turn_ns → stepper_clocks s ≡ clocks → planned_turn s ≡ turn → known_of s ≡ tick clocks.first (turn * turn_ns) → IsCaughtUp turn s → (kind_of s).oid ≡ place → IsUpTo clocks goes time turn place s
new-up clocks goes time turn place s going begins lines same end caught number =
    let e : known_of s ≡ tick clocks.first time = end ∙ ap (λ t. tick clocks.first t) (sym begins) in
    record { clocks_are = lines; known = λ g. omega arith; reaches = λ g. omega arith; over = λ g. absurd (true_false (sym going ∙ g)); caught_up = caught; packed = omega arith; number = number }
