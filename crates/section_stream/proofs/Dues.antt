-- In which turns the units of a stepper are due.
use Rattle.std.proofs.Common.{◌≡◌, ℕ, suc, Bool, ◌+◌, ◌*◌, ◌<◌, ◌≤◌, ◌⊎◌, inl, inr, Option, Some, None, List, [], ◌∷◌, ◌++◌, All, drop, arith, ap, sym, ◌∙◌, subst, append_assoc}
use Rattle.std.specs.Prelude.{IfNone, IfSome}
use Rattle.std.proofs.Props.{props}
use Rattle.std.proofs.Math.Logic.{∥∥₁_elim}
use Rattle.std.proofs.lemmas.List.{append_cancel_left}
use Rattle.std.proofs.lemmas.List.Elements.{All-append, All-cons, All-nil}
use Rattle.plan_types.specs.Clock.{tick, turn_ns}
use Rattle.plan_types.specs.Lines.{Clocks, lines_board, lines_tick}
use Rattle.plan_types.specs.Plan.{max_error, planned_steps}
use Rattle.plan_types.specs.declared.plan.Gear.{Gear}
use Rattle.plan_types.specs.declared.plan.Planned.{Planned}
use Rattle.plan_types.specs.declared.plan.Segment.{Segment}
use Rattle.clock_line.specs.Kept.{AreKept}
use Rattle.clock_line.proofs.Holding.{tick-mono}
use Rattle.clock_line.proofs.Turns.{tick_over-mono, turn-mono}
use Rattle.msg_code.specs.declared.unit.Unit.{Unit as StepUnit}
use Rattle.section_plan.specs.declared.drive.Drive.{Drive}
use Rattle.section_units.specs.Units.{as_sent}
use Rattle.step_ticks.specs.declared.stream.StepStream.{StepStream}
use Rattle.section_stream.specs.declared.pack.PackStream.{PackStream}
use Rattle.section_stream.specs.Plans.{gear_of, stream_lines, segments_for}
use Rattle.section_stream.specs.Rows.{AreInRow}
use Rattle.section_stream.specs.Stepping.{AreCaughtUp, AreInStep, IsLeftFrom, IsPackedBehind}
use Rattle.section_stream.specs.declared.stepper.StepperStream.{StepperStream}
use Rattle.section_stream.specs.Packs.{held_of}
use Rattle.section_stream.specs.Steppers.{IsCaughtUp, StartFrom, stepper_clocks, kind_of, known_of, packed_to, parts_end, units_of}
use Rattle.section_stream.proofs.Adding.{board-from}
use Rattle.section_stream.proofs.Leaving.{left-sooner}
use Rattle.section_stream.proofs.Later.{sent-all}
use Rattle.section_stream.proofs.Rowing.{row-after}
use Rattle.section_stream.proofs.Staying.{steps-front}
use Rattle.section_stream.proofs.Stepped.{Takes, caught-on}
use Rattle.section_units.proofs.Lateness.{turn_from}

-- who has caught up with a turn has caught up with each one before it
pub caught-sooner : (clocks : Clocks) (turn later : ℕ) (steps : StepStream) (held : List Planned) → turn ≤ later → AreCaughtUp clocks later steps held → AreCaughtUp clocks turn steps held
caught-sooner clocks turn later steps held order caught =
    let ticks = tick-mono clocks.first (turn * turn_ns) (later * turn_ns) (omega arith) in
    let cuts : lines_tick clocks (turn * turn_ns) ≤ lines_tick clocks (later * turn_ns) = tick_over-mono clocks.first 0 clocks.held (turn * turn_ns) (later * turn_ns) (omega arith) in
    record {
      steps_are = left-sooner (tick clocks.first (turn * turn_ns)) (tick clocks.first (later * turn_ns)) steps ticks caught.steps_are;
      held_are = λ k d l. (let h = caught.held_are k d l in omega arith);
    }

-- what may still be made is due as before
pub later-on : (k k' : Clocks) (low turn turn' : ℕ) (old new : StepStream) (held held' : List Planned) (last last' : ℕ) → k' ≡ k → held' ≡ held → turn' ≡ turn → last' ≡ last → ((t : ℕ) → IsLeftFrom t old → IsLeftFrom t new)
    → IsPackedBehind k low turn old held ⊎ (lines_tick k (low * turn_ns) ≤ last) → IsPackedBehind k' low turn' new held' ⊎ (lines_tick k' (low * turn_ns) ≤ last')
later-on k k' low turn turn' old new held held' last last' lines same turns lasts past (inl was) =
    let by = was.to_by in
    inl (record {
      to = was.to;
      to_by = omega arith;
      caught_up = caught-on k k' was.to old new held held' lines same (past (tick k.first (was.to * turn_ns))) was.caught_up;
      behind = subst (λ (c : Clocks). lines_tick c (low * turn_ns) + max_error c.first.freq ≤ lines_tick c (was.to * turn_ns)) (sym lines) was.behind;
    })
later-on k k' low turn turn' old new held held' last last' lines same turns lasts past (inr packed) = inr (rw (lines, lasts) packed)

-- the first unit is taken out, or none was there
start-behind : (clocks : Clocks) (low end : ℕ) (u : StepUnit) (us : List StepUnit) → AreKept clocks → AreInRow clocks 0 end (u ∷ us) → low ≤ u.due → StartFrom low us
start-behind clocks low end u [] kept row late = tt
start-behind clocks low end u (v ∷ us) kept row late =
    let ends = row.0.ends in
    let after = row.1.0.after in
    let one = row.0.due in
    let two = row.1.0.due in
    let up = turn-mono clocks u.first v.first kept (omega arith) in
    omega arith

pub start-prop : (low : ℕ) (us : List StepUnit) (x y : StartFrom low us) → x ≡ y
start-prop low [] x y = hlevel props
start-prop low (u ∷ us) x y = hlevel props

pub popped-start : (clocks : Clocks) (low end : ℕ) (r : Option StepUnit) (old new : List StepUnit) → AreKept clocks → ∥ AreInRow clocks 0 end old ∥₁ → IfSome r (λ u. old ≡ u ∷ new) → IfNone r (new ≡ old) → StartFrom low old → StartFrom low new
popped-start clocks low end None old new kept row some none start = subst (StartFrom low) (sym none) start
popped-start clocks low end (Some u) old new kept row some none start =
    let from : StartFrom low (u ∷ new) = subst (StartFrom low) some start in
    ∥∥₁_elim row (start-prop low new) (λ r. start-behind clocks low end u new kept (subst (λ (us : List StepUnit). AreInRow clocks 0 end us) some r) from)

-- the steps that are taken come where those wait that were not taken yet, or later
items-late : (old new : StepStream) (drive : Drive) (pack : PackStream) (turn until end t low : ℕ) (items : List Planned) → AreInStep old drive pack turn → tick drive.line (turn * turn_ns) ≤ until → Takes old new until items end → stream_lines new ≡ stream_lines old → gear_of new ≡ gear_of old
    → IsLeftFrom t old → ((n : ℕ) → t ≤ n → low ≤ lines_board (stream_lines old) n) → All (λ q. low ≤ q.tick) items
items-late old new drive pack turn until end t low items h later take lines gear left up =
    let by = h.asked_by in
    let segments = segments_for drive h.parts in
    let none : (end : ℕ) → All (λ (s : Segment). end ≤ s.start) [] = λ end. All-nil (λ (s : Segment). end ≤ s.start) in
    let taken = (take h.base segments h.asked h.out (omega arith) h.steps_are).1 in
    let one = steps-front old.gear old.lines old.reach old.end old.last_end old.last (drop old.next old.raw.items) h.base segments [] h.asked h.out h.steps_are (none old.end) in
    let two = steps-front new.gear new.lines new.reach new.end new.last_end new.last (drop new.next new.raw.items) h.base segments [] until (h.out ++ items) taken (none new.end) in
    let same : planned_steps old.gear old.lines (segments ++ []) h.base ≡ planned_steps new.gear new.lines (segments ++ []) h.base =
    ap (λ (g : Gear). planned_steps g old.lines (segments ++ []) h.base) (sym gear) ∙ ap (λ (k : Clocks). planned_steps new.gear k (segments ++ []) h.base) (sym lines) in
    let split : h.out ++ one.rest ≡ h.out ++ (items ++ two.rest) = sym one.whole ∙ same ∙ two.whole ∙ append_assoc h.out items two.rest in
    let rest = subst (λ (qs : List Planned). All (λ (q : Planned). low ≤ q.tick) qs) (append_cancel_left h.out one.rest (items ++ two.rest) split) (one.later t low left.left up) in
    all-front (λ (q : Planned). low ≤ q.tick) items two.rest rest
  where
    all-front : (P : Planned → Type 0) (xs ys : List Planned) → All P (xs ++ ys) → All P xs
    all-front P [] ys h = All-nil P
    all-front P (x ∷ xs) ys h = All-cons P x xs (h 0 x (omega arith)) (all-front P xs ys (λ k d l. h (suc k) d (omega arith)))

-- where units may begin that are due in a turn or later
abbrev IsFrom : Clocks → ℕ → ℕ → List Planned → Type 0
IsFrom clocks low last held = (All (λ q. lines_tick clocks (low * turn_ns) + max_error clocks.first.freq ≤ q.tick) held) ⊎ (lines_tick clocks (low * turn_ns) ≤ last)

added-from : (clocks : Clocks) (low e last : ℕ) (held : List Planned) (added : List StepUnit) → e ≡ max_error clocks.first.freq → All (λ u. last < u.first) added
    → ((t : ℕ) → All (λ q. t + e ≤ q.tick) held → All (λ u. t ≤ u.first) added) → IsFrom clocks low last held → All (λ u. lines_tick clocks (low * turn_ns) ≤ u.first) added
added-from clocks low e last held added early after behind where_from = elim where_from [
  | inl late ↦ behind (lines_tick clocks (low * turn_ns)) (λ k d l. (let h = late k d l in omega arith))
  | inr packed ↦ λ k d l. (let a = after k d l in omega arith)
]

-- the units that are added to some are due in the turn or later
pub added-start : (clocks : Clocks) (low end last : ℕ) (old new added : List StepUnit) → AreKept clocks → AreInRow clocks last end added → All (λ u. lines_tick clocks (low * turn_ns) ≤ u.first) added → new ≡ old ++ added → StartFrom low old → StartFrom low new
added-start clocks low end last [] new [] kept row from is start = subst (StartFrom low) (sym is) tt
added-start clocks low end last [] new (v ∷ added) kept row from is start =
    let due = row.0.due in
    let turn = turn_from clocks low v.first kept (from 0 v (omega arith)) in
    let late : low ≤ v.due = omega arith in
    subst (StartFrom low) (sym is) late
added-start clocks low end last (u ∷ old) new added kept row from is start = subst (StartFrom low) (sym is) start

-- one more piece is planned and packed: what its units are due in
pub planned-start : (old new : StepStream) (drive : Drive) (pack : PackStream) (clocks : Clocks) (before until end low e last last' : ℕ) (items held_old held_new : List Planned) (waiting waiting' added : List StepUnit) (inverted : Bool)
    → AreInStep old drive pack before → tick drive.line (before * turn_ns) ≤ until → Takes old new until items end → stream_lines new ≡ stream_lines old → gear_of new ≡ gear_of old → clocks ≡ stream_lines old
    → AreKept clocks → e ≡ max_error clocks.first.freq → held_new ≡ held_old ++ as_sent inverted items
    → waiting' ≡ waiting ++ added → AreInRow clocks last last' added → ((t : ℕ) → All (λ q. t + e ≤ q.tick) held_new → All (λ u. t ≤ u.first) added)
    → IsPackedBehind clocks low before old held_old ⊎ (lines_tick clocks (low * turn_ns) ≤ last) → StartFrom low waiting → StartFrom low waiting'
planned-start old new drive pack clocks before until end low e last last' items held_old held_new waiting waiting' added inverted h later take lines gear own kept early adds more row begin where_from start =
    let cut : ℕ → ℕ = λ to. lines_tick clocks (to * turn_ns) in
    let Q : ℕ → Planned → Type 0 = λ to q. cut to ≤ q.tick in
    let t : ℕ → ℕ = λ to. tick clocks.first (to * turn_ns) in
    let up : (to n : ℕ) → t to ≤ n → cut to ≤ lines_board (stream_lines old) n = λ to. subst (λ (k : Clocks). (n : ℕ) → t to ≤ n → cut to ≤ lines_board k n) own (λ n le. board-from clocks (to * turn_ns) n kept le) in
    let held_late : (to : ℕ) → AreCaughtUp clocks to old held_old → All (Q to) held_new = λ to caught. subst (All (Q to)) (sym adds) (All-append (Q to) held_old (as_sent inverted items) caught.held_are (sent-all (λ n. cut to ≤ n) inverted items (items-late old new drive pack before until end (t to) (cut to) items h later take lines gear caught.steps_are (up to)))) in
    let far : IsPackedBehind clocks low before old held_old → All (λ q. lines_tick clocks (low * turn_ns) + max_error clocks.first.freq ≤ q.tick) held_new = λ p. (let all = held_late p.to p.caught_up in let b = p.behind in λ k d l. (let a = all k d l in omega arith)) in
    let at : IsFrom clocks low last held_new = from-either (IsPackedBehind clocks low before old held_old) far where_from in
    added-start clocks low last' last waiting waiting' added kept row (added-from clocks low e last held_new added early (row-after clocks last last' added row) begin at) more start
  where
    from-either : (C : Type 0) → (C → All (λ q. lines_tick clocks (low * turn_ns) + max_error clocks.first.freq ≤ q.tick) held_new) → C ⊎ (lines_tick clocks (low * turn_ns) ≤ last) → IsFrom clocks low last held_new
    from-either C f (inl c) = inl (f c)
    from-either C f (inr p) = inr p

-- what was known of the units that are made later, and what is known of them then
pub known-from : (own clocks : Clocks) (low turn : ℕ) (steps : StepStream) (held : List Planned) (last last' : ℕ) → clocks ≡ own → last' ≡ last → IsPackedBehind own low turn steps held ⊎ (lines_tick own (low * turn_ns) ≤ last) → IsPackedBehind clocks low turn steps held ⊎ (lines_tick clocks (low * turn_ns) ≤ last')
known-from own clocks low turn steps held last last' is same (inl was) = inl (subst (λ (k : Clocks). IsPackedBehind k low turn steps held) (sym is) was)
known-from own clocks low turn steps held last last' is same (inr packed) = inr (rw (is, same) packed)

pub planned-later : (own now : Clocks) (low before turn : ℕ) (old new : StepStream) (held held' : List Planned) (last last' : ℕ) → now ≡ own → last ≤ last' → before ≤ turn → AreCaughtUp now turn new held' → IsPackedBehind own low before old held ⊎ (lines_tick own (low * turn_ns) ≤ last) → IsPackedBehind now low turn new held' ⊎ (lines_tick now (low * turn_ns) ≤ last')
planned-later own now low before turn old new held held' last last' same more order caught (inl was) =
    let by = was.to_by in
    inl (record {
      to = was.to;
      to_by = omega arith;
      caught_up = caught-sooner now was.to turn new held' (omega arith) caught;
      behind = subst (λ (k : Clocks). lines_tick k (low * turn_ns) + max_error k.first.freq ≤ lines_tick k (was.to * turn_ns)) (sym same) was.behind;
    })
planned-later own now low before turn old new held held' last last' same more order caught (inr packed) = inr (rw same (omega arith))

-- the same of a stepper
pub stepper-caught : (s : StepperStream) (turn later : ℕ) → turn ≤ later → IsCaughtUp later s → IsCaughtUp turn s
stepper-caught s turn later order caught = caught-sooner (stream_lines s.steps) turn later s.steps (held_of s.pack) order caught

-- what holds of the units that wait at every stepper
pub stepper-row : (s : StepperStream) → ∥ AreInRow (stepper_clocks s) 0 (packed_to s) (units_of s) ∥₁
stepper-row s = s.row

pub stepper-own : (s : StepperStream) → All (λ u. u.stepper ≡ (kind_of s).oid) (units_of s)
stepper-own s = s.pack.own

pub stepper-byte : (s : StepperStream) → (kind_of s).oid < 256
stepper-byte s = s.pack.byte

-- its last part ends no later than where more steps may come
pub stepper-ends : (s : StepperStream) → parts_end s ≤ known_of s
stepper-ends s = s.steps.ordered
