-- The steppers that have units in a homing section move in it.
use Rattle.std.proofs.Common.{◌≡◌, ◌≢◌, ℕ, zero, suc, ◌+◌, ◌*◌, ◌<◌, ◌≤◌, Bool, true, false, List, [], ◌∷◌, ◌++◌, length, take, append_assoc, Some, refl, ap, sym, ◌∙◌, subst, arith, inl, inr, rules}
use Rattle.std.specs.Prelude.{slice_index_or}
use Rattle.laws_board.proofs.Names.{leb_tells, Machine, Move, Planned, Pulse, turn_ns, Clocks, lines_tick, IsValidMachine, axis_at, board_at, stepper_at, Fits, clocks_at, stepper_plan, of_stepper, units_of, StepUnit, AreStarted, Started, Told, MotionTurn}
use Rattle.plan_types.specs.Sections.{section_plans}
use Rattle.section_units.specs.Merged.{plan_at}
use Rattle.section_units.specs.Plans.{plans_on}
use Rattle.section_units.specs.Sections.{AreBegunBy, steps_said}
use Rattle.section_units.specs.Units.{as_sent}
use Rattle.trigger_group.specs.Group.{bits}
use Rattle.axis_homing.specs.Homing.{moving_on}
use Rattle.laws_board.specs.clocks.Samples.{IsAmong}
use Rattle.motion_work.specs.Homes.{before_turn, moving_among, moving_in, one_moving}
use Rattle.motion_work.specs.Seen.{IsHomed}
use Rattle.laws_board.specs.plans.Planned.{Plans}
use Rattle.motion_work.proofs.Following.{homed_front}
use Rattle.laws_board.proofs.plans.Cutting.{cut_first, homed_of}
use Rattle.laws_board.proofs.plans.Fitting.{plan_is}
use Rattle.laws_board.proofs.plans.Lasting.{AreLasting, lines_last}
use Rattle.laws_board.proofs.plans.Placing.{count_is, count_on}
use Rattle.laws_board.proofs.plans.Running.{started_in}
use Rattle.laws_board.proofs.plans.Sitting.{have_steps, past, place_on, plans_few}
use Rattle.laws_homing.specs.home_parts.Movers.{HaveMovers, IsMover}
use Rattle.laws_homing.proofs.home_parts.Bits.{HasBit, among_bit, moves_from, moving_bit, on_bit}
use Rattle.laws_homing.proofs.home_parts.Ones.{one_move}
use Rattle.laws_homing.proofs.home_parts.Still.{no_plan}
use Rattle.section_units.proofs.Completing.{none-said}

-- the first units of none are none
pub none_left : (us vs : List StepUnit) → us ++ vs ≡ [] → us ≡ []
none_left [] vs e = refl
none_left (u ∷ us) vs e = absurd (let f : u ∷ (us ++ vs) ≡ [] = e in cc)

-- one that has units has a plan
pub no_units : (homing : Bool) (oid : ℕ) (clocks : Clocks) (base : ℕ) (us : List StepUnit) → AreBegunBy homing clocks base us → length (steps_said oid false us) ≡ 0 → us ≡ []
no_units homing oid clocks base us p5 p6 = search (rules, have_steps)

has_plan : (m : Machine) (clocks : List Clocks) (b until oid : ℕ) (s : Started) (h : IsHomed m clocks s) → b < length m.boards → AreLasting clocks b → of_stepper oid (units_of (before_turn until (slice_index_or s.boards b []))) ≢ []
    → plan_at (plans_on m clocks s.section.moves s.start b) oid ≢ []
has_plan m clocks b until oid s h small lines some none =
    let line = clocks_at clocks b in
    let freq = (board_at m b).freq in
    let own = slice_index_or s.boards b [] in
    let us = of_stepper oid (units_of (before_turn until own)) in
    let f = cut_first m clocks s.section.moves b until s.start own (homed_front m clocks s b lines.kept lines.soon lines.inside small h) in
    let base = lines_tick line (s.start * turn_ns) in
    some (no_units true oid line base us (f.begun oid) (none-said freq base (steps_said oid false us) (subst (Fits freq base (steps_said oid false us)) none (f.fits oid))))

moving_is : (corexy : Bool) (one : Move) (drive : ℕ) → (one_moving corexy one drive ≡ 0 → ⊥) → one_moving corexy one drive ≡ 1
moving_is corexy one drive n = search (rules, moving_bit)

mover : (m : Machine) (v : IsValidMachine m) (clocks : List Clocks) (b until axis oid : ℕ) (s : Started) (one : Move) (h : IsHomed m clocks s) → b < length m.boards → AreLasting clocks b → s.section.moves ≡ one ∷ []
    → of_stepper oid (units_of (before_turn until (slice_index_or s.boards b []))) ≢ [] → IsMover m b s axis oid
mover m v clocks b until axis oid s one h small lines moves some =
    let plan = has_plan m clocks b until oid s h small lines some in
    let plans = section_plans m clocks s.section.moves s.start in
    elim (leb_tells (suc oid) (count_on b m.steppers)) [
      | inr p ↦ absurd (plan (past (plans_on m clocks s.section.moves s.start b) oid (let few = plans_few b m.steppers plans in let far = p.1 in omega (arith, few, far))))
      | inl p ↦
          let at = place_on b m.steppers oid p.1 in
          let j = at.0 in
          let there = at.1 in
          let own : (stepper_at m j).oid ≡ oid = (v.steppers j there).oid ∙ count_is (stepper_at m j).board (take j m.steppers) ∙ ap (λ n. count_on n (take j m.steppers)) at.2 ∙ at.3 in
          let inverted = (stepper_at m j).inverted in
          let At : ℕ → ℕ → List Planned = λ n o. plan_at (plans_on m clocks s.section.moves s.start n) o in
          let is : At b oid ≡ as_sent inverted (stepper_plan m clocks s.section.moves s.start j) =
          ap (λ n. At n oid) (sym at.2) ∙ ap (λ o. At (stepper_at m j).board o) (sym own) ∙ plan_is m v clocks s.section.moves s.start j there in
          let moved : one_moving m.corexy one (stepper_at m j).drive ≡ 1 = moving_is m.corexy one (stepper_at m j).drive (λ still. plan (is ∙ ap (as_sent inverted) (ap (λ ms. stepper_plan m clocks ms s.start j) moves ∙ no_plan m clocks one s.start j still))) in
          let bit = among_bit m.corexy one j m.steppers there moved in
          let word : s.moving ≡ moving_among m.corexy one m.steppers = h.moving ∙ ap (moving_in m) moves in
          let few = v.steppers_few in
          let on = on_bit b 0 16 j s.moving m.steppers (omega (arith, there, few)) there at.2 (subst (HasBit j) (sym word) bit) in
          let zero_more : 0 + j ≡ j = omega arith in
          let among = subst (λ n. IsAmong n (bits 0 16 (moving_on b s.moving m.steppers))) zero_more on in
          record { stepper = j; there = there; on = at.2; oid_is = own; moves = moves_from m (axis_at m axis) b s.moving j 0 m.boards (omega arith) (omega (arith, small)) among }
    ]

movers_from : (m : Machine) (v : IsValidMachine m) (ts : List MotionTurn) (p : Plans m (length m.boards) ts) (clocks : List Clocks) (b until ready : ℕ) → b < length m.boards → AreLasting clocks b → (xs rest : List Started) → p.seen.begun ≡ xs ++ rest → AreStarted m clocks ready rest
    → HaveMovers m clocks until b rest
movers_from m v ts p clocks b until ready small lines xs [] cut h = tt
movers_from m v ts p clocks b until ready small lines xs (s ∷ rest) cut h = (
  λ axis oid home some.
      let one = one_move m p.seen.text p.seen.begun xs s rest p.of_text.0 axis p.of_text.1 cut home in
      mover m v clocks b until axis oid s one.0 (homed_of m clocks s s.section.kind axis home h.0.planned) small lines one.1 some,
  movers_from m v ts p clocks b until (s.end + 260) small lines (xs ++ s ∷ []) rest (cut ∙ sym (append_assoc xs (s ∷ []) rest)) h.1,
)

pub all_movers : (m : Machine) (ts : List MotionTurn) (p : Plans m (length m.boards) ts) (t : Told) (b until : ℕ) → IsValidMachine m → p.seen.told ≡ Some t → b < length m.boards → HaveMovers m t.clocks until b p.seen.begun
all_movers m ts p t b until v told small = movers_from m v ts p t.clocks b until t.first small (lines_last m (length m.boards) ts p t b told small) [] p.seen.begun refl (started_in m ts p t told)
