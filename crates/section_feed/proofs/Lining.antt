-- The steppers of a board take up a line.
use Rattle.std.proofs.Common.{◌≡◌, ℕ, ◌*◌, ◌<◌, ◌≤◌, ◌^◌, List, [], ◌∷◌, length, Bool, true, false, arith, ap, refl, sym, ◌∙◌, subst}
use Rattle.std.proofs.Props.{props}
use Rattle.std.proofs.lemmas.List.Elements.{All-cons, All-nil}
use Rattle.std.proofs.Math.Logic.{∥∥₁_map, ∥∥₁_elim, ∥∥₁_prop}
use Rattle.plan_types.specs.declared.plan.Held.{Held}
use Rattle.plan_types.specs.declared.plan.Line.{Line}
use Rattle.plan_types.specs.declared.plan.Planned.{Planned}
use Rattle.plan_types.specs.Clock.{tick, tick_limit, turn_ns}
use Rattle.plan_types.specs.Lines.{Clocks, IsFit, last_from, lines_board, lines_tick}
use Rattle.plan_types.specs.Sections.{TimedPart}
use Rattle.clock_line.specs.Kept.{added}
use Rattle.clock_line.proofs.Boards.{board-mono}
use Rattle.clock_line.proofs.Holding.{tick-mono}
use Rattle.step_feed.specs.declared.stream.FeedStream.{FeedStream}
use Rattle.step_feed.specs.Units.{StepUnit}
use Rattle.step_feed.specs.Pacing.{Release}
use Rattle.step_feed.specs.Streams.{Extends, next_turn}
use Rattle.step_feed.proofs.Wholes.{fed-kept}
use Rattle.section_stream.specs.declared.stepper.StepperStream.{StepperStream}
use Rattle.section_stream.specs.Pieces.{AreInTurns, Piece}
use Rattle.section_stream.proofs.Cutting.{turns-lined}
use Rattle.section_stream.specs.Steppers.{IsCaughtUp, IsDueFrom, IsStepperOf, StartFrom, StepperKind, stepper_clocks, kind_of, known_of, parts_end, planned_turn, units_of}
use Rattle.section_stream.proofs.Adding.{added-before, kept-added}
use Rattle.section_stream.proofs.Dues.{stepper-caught, stepper-ends}
use Rattle.section_feed.specs.Boards.{AreUpTo, IsLasting, IsUpTo, MayTake, most_ns}
use Rattle.section_feed.specs.Changes.{AreLined, IsLined}
use Rattle.section_feed.specs.Dues.{AreDueFrom, order_at}
use Rattle.section_feed.specs.Feeding.{AreFeeding}
use Rattle.section_feed.specs.Rests.{AreRested}
use Rattle.section_feed.proofs.Lasts.{added-lasts, kept-lasting, line-small, lines-small, tick-small}

-- what a board may be told of a line
pub record MayHold (clocks : Clocks) (from : ℕ) (line : Line) : Type 0 where
  pub after : last_from 0 clocks.held < from
  pub fit : IsFit clocks.first line from
  pub tick_small : lines_tick clocks from < 2 ^ 64
  pub start_small : tick line from < 2 ^ 64
  pub plan_small : tick clocks.first from < 2 ^ 64

pub may-hold : (clocks : Clocks) (turn : ℕ) (line : Line) → IsLasting clocks → MayTake clocks turn line → MayHold clocks (turn * turn_ns) line
may-hold clocks turn line lasting may =
    let few = may.turn_small in
    let same = may.fit.same_freq in
    let high = lasting.valid.freq_high in
    let one = lines-small clocks (turn * turn_ns) lasting (omega arith) in
    let two = line-small line (turn * turn_ns) (omega arith) may.clock_small (omega arith) in
    let three = tick-small clocks (turn * turn_ns) lasting (omega arith) in
    record { after = may.after; fit = may.fit; tick_small = omega arith; start_small = omega arith; plan_small = omega arith }

-- more steps come by the plan tick of 500 years
known-most : (clocks : Clocks) (goes : Bool) (time turn place : ℕ) (s : StepperStream) → IsUpTo clocks goes time turn place s → time < most_ns → known_of s ≤ tick clocks.first most_ns
known-most clocks true time turn place s up small =
    let known = up.known refl in
    let m = tick-mono clocks.first time most_ns (omega arith) in
    omega arith
known-most clocks false time turn place s up small = let over = up.over refl in omega arith

-- what a stepper may be told of it
pub record MayLine (s : StepperStream) (from : ℕ) (line : Line) : Type 0 where
  pub hold : MayHold (stepper_clocks s) from line
  pub on_board : lines_board (added (stepper_clocks s) from line) (parts_end s) < tick_limit
  pub order : planned_turn s * turn_ns ≤ from

pub may-line : (clocks : Clocks) (goes : Bool) (time packed turn place : ℕ) (line : Line) (s : StepperStream) → IsLasting clocks → MayTake clocks turn line → packed < turn → time < most_ns → IsUpTo clocks goes time packed place s → MayLine s (turn * turn_ns) line
may-line clocks goes time packed turn place line s lasting may behind small up =
    let from = turn * turn_ns in
    let e = sym up.clocks_are in
    let known = known-most clocks goes time packed place s up small in
    let ends = stepper-ends s in
    let last = added-lasts clocks turn line lasting may in
    let most = last.small in
    let mono = board-mono (added clocks from line) (parts_end s) (tick clocks.first most_ns) (omega arith) in
    let at = up.packed in
    record {
      hold = subst (λ (k : Clocks). MayHold k from line) e (may-hold clocks turn line lasting may);
      on_board = subst (λ (k : Clocks). lines_board (added k from line) (parts_end s) < tick_limit) e (omega arith);
      order = omega arith;
    }

-- a stepper took it up
pub lined-on : (clocks : Clocks) (goes : Bool) (time packed turn place from : ℕ) (line : Line) (old new : StepperStream) → from ≡ turn * turn_ns → packed < turn → IsUpTo clocks goes time packed place old → stepper_clocks new ≡ added (stepper_clocks old) from line → known_of new ≡ known_of old → planned_turn new ≡ planned_turn old → kind_of new ≡ kind_of old → units_of new ≡ units_of old
    → ((t : ℕ) → t * turn_ns < from → IsCaughtUp t old → IsCaughtUp t new)
    → ((low : ℕ) → planned_turn old * turn_ns < from → low * turn_ns < from → IsDueFrom low old → IsDueFrom low new)
    → ((base : ℕ) (parts : List TimedPart) (out : List Planned) (pieces : List Piece) (given : List StepUnit) → IsStepperOf old base parts out pieces given → IsStepperOf new base parts out pieces given)
    → IsLined (added clocks (turn * turn_ns) line) goes time packed turn place old new
lined-on clocks goes time packed turn place from line old new is behind up lines end same kind units caught due on =
    let p = up.packed in
    record {
      up = record {
        clocks_are = lines ∙ ap (λ (k : Clocks). added k from line) up.clocks_are ∙ ap (λ t. added clocks t line) is;
        known = λ e. (let k = up.known e in omega arith);
        reaches = λ e. (let k = up.reaches e in omega arith);
        over = λ e. (let k = up.over e in omega arith);
        caught_up = caught packed (omega arith) up.caught_up;
        packed = omega arith;
        number = ap (λ (k : StepperKind). k.oid) kind ∙ up.number;
      };
      kind = kind;
      due = λ low before. due low (omega arith) (omega arith);
      on = λ base parts given h. record { out = h.out; pieces = h.pieces; stepper = on base parts h.out h.pieces given h.stepper; in_turns = subst (λ (k : Clocks). AreInTurns k 0 h.pieces) (sym lines) (turns-lined (stepper_clocks old) 0 (planned_turn old) from line h.pieces h.in_turns h.past (omega arith)); past = (let l = h.past in omega (arith, l, same)) };
      rested = λ low before r. record { turn = low; late = omega arith; caught = caught low (omega arith) (stepper-caught old low r.turn r.late r.caught); start = subst (StartFrom low) (sym units) r.start };
    }

-- all of them did
pub lined-up : (clocks : Clocks) (goes : Bool) (time packed turn : ℕ) (old new : List StepperStream) → ∥ AreLined clocks goes time packed turn old new ∥₁ → ∥ AreUpTo clocks goes time packed new ∥₁
lined-up clocks goes time packed turn old new on = ∥∥₁_map on (λ l. (let n = l.same in record { each = λ k d h. (l.each k d (omega arith)).up }))

pub lined-due : (clocks : Clocks) (goes : Bool) (time packed turn low : ℕ) (all old new : List StepperStream) → old ≡ all → low < turn → ∥ AreLined clocks goes time packed turn old new ∥₁ → ∥ AreDueFrom low all ∥₁ → ∥ AreDueFrom low new ∥₁
lined-due clocks goes time packed turn low all old new is before on dues =
    let here = subst (λ (ss : List StepperStream). ∥ AreDueFrom low ss ∥₁) (sym is) dues in
    ∥∥₁_elim on ∥∥₁_prop (λ l. ∥∥₁_map here (λ d. (let n = l.same in record { each = λ k e h. (l.each k e (omega arith)).due low before (d.each k e (omega arith)) })))

pub lined-rested : (clocks : Clocks) (goes : Bool) (time packed turn low : ℕ) (all old new : List StepperStream) → old ≡ all → low < turn → ∥ AreLined clocks goes time packed turn old new ∥₁ → ∥ AreRested low all ∥₁ → ∥ AreRested low new ∥₁
lined-rested clocks goes time packed turn low all old new is before on rested =
    let here = subst (λ (ss : List StepperStream). ∥ AreRested low ss ∥₁) (sym is) rested in
    ∥∥₁_elim on ∥∥₁_prop (λ l. ∥∥₁_map here (λ r. (let n = l.same in record { each = λ k e h. (l.each k e (omega arith)).rested low before (r.each k e (omega arith)) })))

pub lined-count : (clocks : Clocks) (goes : Bool) (time packed turn : ℕ) (all old new : List StepperStream) → old ≡ all → ∥ AreLined clocks goes time packed turn old new ∥₁ → length new ≡ length all
lined-count clocks goes time packed turn all old new is on = ∥∥₁_elim on (hlevel props) (λ l. l.same) ∙ ap (λ (ss : List StepperStream). length ss) is

-- what was released stays
extends : (clocks : Clocks) (turn next : ℕ) (line : Line) → next < turn → Extends clocks (added clocks (turn * turn_ns) line) next
extends clocks turn next line before =
    let h : Held = record { from = turn * turn_ns; line = line; most = lines_tick clocks (turn * turn_ns); start = tick line (turn * turn_ns); plan = tick clocks.first (turn * turn_ns) } in
    let order : next * turn_ns < h.from = omega arith in
    record { more = h ∷ []; first = refl; held = refl; after = All-cons (λ (x : Held). next * turn_ns < x.from) h [] order (All-nil (λ (x : Held). next * turn_ns < x.from)) }

pub board-lined : (clocks now : Clocks) (goes : Bool) (time packed turn : ℕ) (line : Line) (all old new : List StepperStream) (feed : FeedStream) (order : ℕ) (kinds : ℕ → StepperKind) (base : ℕ) (parts : List TimedPart) (released : List Release) → old ≡ all → now ≡ added clocks (turn * turn_ns) line → IsLasting clocks → MayTake clocks turn line → next_turn feed < turn
    → ∥ AreLined (added clocks (turn * turn_ns) line) goes time packed turn old new ∥₁ → ∥ AreFeeding all feed clocks order kinds base parts released ∥₁ → ∥ AreFeeding new feed now order kinds base parts released ∥₁
board-lined clocks now goes time packed turn line all old new feed order kinds base parts released is lines lasting may before lined was =
    let kept = kept-lasting clocks lasting in
    let will = kept-added clocks (turn * turn_ns) line kept may.after may.fit in
    let on = subst (λ (ss : List StepperStream). ∥ AreLined (added clocks (turn * turn_ns) line) goes time packed turn ss new ∥₁) is lined in
    subst (λ (k : Clocks). ∥ AreFeeding new feed k order kinds base parts released ∥₁) (sym lines) (∥∥₁_elim on ∥∥₁_prop (λ p. ∥∥₁_map was (λ f. (
    let n = p.same in
    record {
      units = f.units;
      kinds_are = record { each = λ k d h. (p.each k d (omega arith)).kind ∙ f.kinds_are.each k d (omega arith) };
      given = record {
        each = λ k d h. (p.each k d (omega arith)).on base parts _ (f.given.each k d (omega arith));
        others = λ k h. f.given.others k (omega arith);
      };
      in_order = f.in_order;
      order_is = f.order_is;
      fed = fed-kept clocks (added clocks (turn * turn_ns) line) feed.slots feed.next feed.rings.items feed.waiting.items feed.first f.units released kept will (extends clocks turn (next_turn feed) line before) f.fed;
    }))))

-- the place in the order of units from which on those of a turn before it stand
pub order-lined : (clocks now : Clocks) (turn at order : ℕ) (line : Line) → now ≡ added clocks (turn * turn_ns) line → at < turn → (0 < order → order < order_at clocks at) → 0 < order → order < order_at now at
order-lined clocks now turn at order line lines before handed some =
    let e = added-before clocks (turn * turn_ns) line (at * turn_ns) (omega arith) in
    let h = handed some in
    subst (λ (k : Clocks). order < order_at k at) (sym lines) (omega arith)
