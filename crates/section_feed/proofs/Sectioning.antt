-- All boards of a section go on.
use Rattle.std.proofs.Common.{◌≡◌, ℕ, ◌+◌, ◌-◌, ◌*◌, ◌<◌, Bool, true, false, zero, suc, map, List, [], ◌∷◌, ◌++◌, length, get_or, set, arith, refl, ap, sym, ◌∙◌, subst}
use Rattle.std.proofs.lemmas.List.{get_or_append_left}
use Rattle.std.proofs.Math.Seq.{get_or-append_seam}
use Rattle.plan_types.specs.declared.machine.Machine.{Machine}
use Rattle.plan_types.specs.Clock.{turn_ns}
use Rattle.plan_types.specs.Lines.{Clocks, lines_tick}
use Rattle.plan_types.specs.Sections.{TimedPart, clocks_at, duration, timed}
use Rattle.step_feed.specs.Pacing.{Release, at_turn}
use Rattle.step_feed.specs.Units.{StepUnit}
use Rattle.section_stream.specs.declared.ready.Ready.{Ready}
use Rattle.section_stream.specs.Steppers.{StepperKind}
use Rattle.section_feed.specs.declared.board.BoardStream.{BoardStream}
use Rattle.section_feed.specs.Changes.{AreChanged, AreChangedTo}
use Rattle.section_feed.specs.Feeding.{IsBoardOf, packed_of, fed_time, turn_of}
use Rattle.section_feed.specs.Going.{HasBatch, IsAtTurn, IsPushed}
use Rattle.section_feed.specs.Kinds.{board_kinds}
use Rattle.section_feed.specs.Ended.{AreEnded}
use Rattle.section_feed.specs.Sections.{AreBoards}
use Rattle.section_feed.specs.Sets.{BoardSet, goes_of, set_from, set_of, start_set}
use Rattle.section_feed.specs.declared.queue.MoveQueue.{MoveQueue}
use Rattle.section_feed.proofs.Changing.{to-next, to-other}
use Rattle.section_feed.proofs.Orders.{at-added}

pub boards-pushed : (ready : Ready) (all old new : List BoardStream) (time : ℕ) (kinds : ℕ → ℕ → StepperKind) (base : ℕ → ℕ) (parts : List TimedPart) (released : ℕ → List Release) → old ≡ all → AreChanged (IsPushed ready) old new → AreBoards all time kinds base parts released → AreBoards new (time + duration ready.parts) kinds base (parts ++ timed ready.one 0 time ready.parts) released
boards-pushed ready all old new time kinds base parts released is changed are =
    let on = subst (λ (bs : List BoardStream). AreChanged (IsPushed ready) bs new) is changed in
    let l = on.same in
    record {
      each = λ b d h. (
          let t = are.times b d (omega arith) in
          subst (λ t. IsBoardOf (get_or new b d) (kinds b) (base b) (parts ++ timed ready.one 0 t ready.parts) (released b)) t ((on.each b d (omega arith)).on (kinds b) (base b) parts (released b) (are.each b d (omega arith))));
      times = λ b d h. (on.each b d (omega arith)).time ∙ ap (λ t. t + duration ready.parts) (are.times b d (omega arith));
    }

-- boards of a section that begins, of which so many are made
pub record AreMade (m : Machine) (clocks : List Clocks) (turn : ℕ) (homing : Bool) (count : ℕ) (boards : List BoardStream) : Type 0 where
  pub same : length boards ≡ count
  pub each : (b : ℕ) (d : BoardStream) → b < length boards → IsBoardOf (get_or boards b d) (board_kinds m (clocks_at clocks b) b turn homing) (lines_tick (clocks_at clocks b) (turn * turn_ns)) [] []
  pub times : (b : ℕ) (d : BoardStream) → b < length boards → fed_time (get_or boards b d) ≡ turn * turn_ns
  pub turns : (b : ℕ) (d : BoardStream) → b < length boards → IsAtTurn (turn - 250) (get_or boards b d)
  pub sets : (b : ℕ) (d : BoardStream) → b < length boards → set_of (get_or boards b d) ≡ start_set m clocks turn b
  pub goes : (b : ℕ) (d : BoardStream) → b < length boards → goes_of (get_or boards b d) ≡ true

pub none-made : (m : Machine) (clocks : List Clocks) (turn : ℕ) (homing : Bool) (boards : List BoardStream) → boards ≡ [] → AreMade m clocks turn homing 0 boards
none-made m clocks turn homing boards none = rw none (record { same = refl; each = λ b d h. absurd (omega arith); times = λ b d h. absurd (omega arith); turns = λ b d h. absurd (omega arith); sets = λ b d h. absurd (omega arith); goes = λ b d h. absurd (omega arith) })

pub one-made : (m : Machine) (clocks : List Clocks) (turn : ℕ) (homing : Bool) (count : ℕ) (old new : List BoardStream) (board : BoardStream) (lines : Clocks) → AreMade m clocks turn homing count old → new ≡ old ++ board ∷ [] → lines ≡ clocks_at clocks count
    → IsBoardOf board (board_kinds m lines count turn homing) (lines_tick lines (turn * turn_ns)) [] [] → fed_time board ≡ turn * turn_ns → turn_of board + 250 ≡ turn → set_of board ≡ set_from m lines turn count → goes_of board ≡ true → packed_of board ≡ turn → AreMade m clocks turn homing (count + 1) new
one-made m clocks turn homing count old new board lines made adds is relation time next set goes packed =
    let same = made.same in
    let one : IsBoardOf board (board_kinds m (clocks_at clocks (length old)) (length old) turn homing) (lines_tick (clocks_at clocks (length old)) (turn * turn_ns)) [] [] =
    rw same (subst (λ (k : Clocks). IsBoardOf board (board_kinds m k count turn homing) (lines_tick k (turn * turn_ns)) [] []) is relation) in
    let two : set_of board ≡ start_set m clocks turn (length old) = rw same (subst (λ (k : Clocks). set_of board ≡ set_from m k turn count) is set) in
    let at : IsAtTurn (turn - 250) board = record { next = omega arith; near = omega arith } in
    rw adds (record {
      same = (let l = added-length old board in omega arith);
      each = at-added (λ b x. IsBoardOf x (board_kinds m (clocks_at clocks b) b turn homing) (lines_tick (clocks_at clocks b) (turn * turn_ns)) [] []) old board made.each one;
      times = at-added (λ b x. fed_time x ≡ turn * turn_ns) old board made.times time;
      turns = at-added (λ b x. IsAtTurn (turn - 250) x) old board made.turns at;
      sets = at-added (λ b x. set_of x ≡ start_set m clocks turn b) old board made.sets two;
      goes = at-added (λ b x. goes_of x ≡ true) old board made.goes goes;
    })
  where
    added-length : (xs : List BoardStream) (x : BoardStream) → length (xs ++ x ∷ []) ≡ length xs + 1
    added-length [] x = omega arith
    added-length (y ∷ ys) x = let r = added-length ys x in omega arith

pub at-mapped : (boards : List BoardStream) (b : ℕ) (d : BoardSet) (e : BoardStream) → b < length boards → get_or (map set_of boards) b d ≡ set_of (get_or boards b e)
at-mapped [] b d e h = absurd (omega arith)
at-mapped (x ∷ xs) zero d e h = refl
at-mapped (x ∷ xs) (suc b) d e h = at-mapped xs b d e (omega arith)

pub made-sets : (m : Machine) (clocks : List Clocks) (turn : ℕ) (homing : Bool) (count : ℕ) (boards : List BoardStream) → AreMade m clocks turn homing count boards → (b : ℕ) (d : BoardSet) → b < count → get_or (map set_of boards) b d ≡ start_set m clocks turn b
made-sets m clocks turn homing count [] made b d h = absurd (let s = made.same in omega arith)
made-sets m clocks turn homing count (x ∷ xs) made b d h =
    let s = made.same in
    at-mapped (x ∷ xs) b d x (omega arith) ∙ made.sets b x (omega arith)

pub made-open : (m : Machine) (clocks : List Clocks) (turn : ℕ) (homing : Bool) (count : ℕ) (boards : List BoardStream) (queue : MoveQueue) → AreMade m clocks turn homing count boards → AreEnded boards queue
made-open m clocks turn homing count boards queue made = record { each = λ b d h over. absurd (closed (goes_of (get_or boards b d)) (made.goes b d h) over) }
  where
    closed : (t : Bool) → t ≡ true → t ≡ false → ⊥
    closed true e f = cc
    closed false e f = cc

-- one more board has given its batch
has-batch : (turn : ℕ) (f g : ℕ → List StepUnit) (place : ℕ) (o n : BoardStream) → f place ≡ g place → HasBatch turn f place o n → HasBatch turn g place o n
has-batch turn f g place o n is h = record {
  on = λ kinds base parts released was. subst (λ us. IsBoardOf n kinds base parts (released ++ at_turn turn us)) is (h.on kinds base parts released was);
  time = h.time;
  next = h.next;
  set = h.set;
  goes = h.goes;
  rested = h.rested;
  packed = h.packed;
}

pub batch-next : (turn place : ℕ) (batches : List (List StepUnit)) (units : List StepUnit) (old now : List BoardStream) (y x : BoardStream) → AreChangedTo (HasBatch turn (λ b. get_or batches b [])) place old now → length batches ≡ place → place < length now → y ≡ get_or now place y → HasBatch turn (λ b. units) place y x
    → AreChangedTo (HasBatch turn (λ b. get_or (batches ++ units ∷ []) b [])) (place + 1) old (set now place x)
batch-next turn place batches units old now y x to count inside is here =
    let all = λ (b : ℕ). get_or (batches ++ units ∷ []) b [] in
    let front = to-other (HasBatch turn (λ b. get_or batches b [])) (HasBatch turn all) place old now (λ k o n h. has-batch turn (λ b. get_or batches b []) all k o n (sym (get_or_append_left batches (units ∷ []) [] k (omega arith)))) to in
    let last : get_or (batches ++ units ∷ []) place [] ≡ units = subst (λ p. get_or (batches ++ units ∷ []) p [] ≡ units) count (get_or-append_seam batches units [] []) in
    to-next (HasBatch turn all) place old now y x front inside is (has-batch turn (λ b. units) all place y x (sym last) here)
