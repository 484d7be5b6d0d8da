-- A section of moves whose units are all released by four turns behind its end, as far as they are released before a later turn: so it isn't cut.
use Rattle.std.proofs.Common.{◌≡◌, ℕ, suc, false, ◌+◌, ◌*◌, ◌<◌, ◌≤◌, ◌⊎◌, List, [], ◌∷◌, ◌++◌, length, take, refl, ap, ◌∙◌, subst, arith, inl, inr}
use Rattle.laws_board.proofs.Names.{leb_tells, Machine, turn_ns, Clocks, lines_tick, board_at, clocks_at, Release, units_of, AreBefore, base_of, of_stepper, section_steps, AreStarted, Started}
use Rattle.std.proofs.lemmas.List.{take_all}
use Rattle.plan_types.specs.Sections.{section_end}
use Rattle.laws_board.proofs.sections.Spreading.{late_released}
use Rattle.step_feed.specs.Pacing.{ArePaced}
use Rattle.section_units.specs.Sections.{steps_said}
use Rattle.laws_board.specs.sections.Events.{AreTicks}
use Rattle.laws_board.specs.sections.Parts.{AreTracked}
use Rattle.laws_board.proofs.sections.Entering.{all_inside, begun_inside, early_fits}
use Rattle.laws_board.proofs.sections.HomeRuns.{before_least}
use Rattle.laws_board.proofs.sections.Waiting.{AreInside, Frame}
use Rattle.motion_work.specs.Homes.{before_turn}
use Rattle.motion_work.specs.Seen.{IsMoved, IsPlanned, part_on}
use Rattle.motion_work.proofs.Boardwise.{moved_is}
use Rattle.motion_work.proofs.Turning.{end_after}
use Rattle.laws_homing.specs.home_parts.Cuts.{cut_on}

uncut : (turn : ℕ) (rs : List Release) → AreBefore turn rs → before_turn turn rs ≡ rs
uncut turn [] b = refl
uncut turn (r ∷ rs) b = elim (leb_tells (suc r.turn) turn) [
  | inl p ↦ rw p.0 (ap (λ x. r ∷ x) (uncut turn rs b.1))
  | inr p ↦ absurd (let q = p.1 in let low = b.0 in omega (arith, q, low))
]

-- what is left is released as soon as all
pub kept_before : (turn until : ℕ) (rs : List Release) → AreBefore turn rs → AreBefore turn (before_turn until rs)
kept_before turn until [] b = tt
kept_before turn until (r ∷ rs) b = elim (leb_tells (suc r.turn) until) [ inl p ↦ rw p.0 (b.0, kept_before turn until rs b.1) | inr p ↦ rw p.0 (kept_before turn until rs b.1) ]

pub planned_at : (m : Machine) (clocks : List Clocks) (ready : ℕ) (past : List Started) (s : Started) (later : List Started) → AreStarted m clocks ready (past ++ s ∷ later) → IsPlanned s.section.kind m clocks s
planned_at m clocks ready [] s later h = h.0.planned
planned_at m clocks ready (y ∷ past) s later h = planned_at m clocks (y.end + 260) past s later h.1

-- the first unit that is left five turns behind the end would be released in that turn
kept_all : (f : Frame) (turn until from : ℕ) (before rs : List Release) → f.end + 5 ≤ turn → turn < until → ArePaced f.clocks f.slots from before rs → AreInside f before → AreInside f rs → AreBefore turn before → (from ≤ f.end) ⊎ (from < turn)
    → AreBefore turn (before_turn until rs) → AreBefore turn rs
kept_all f turn until from before [] over far paced behind inside earlier early kept = tt
kept_all f turn until from before (r ∷ rs) over far paced behind inside earlier early kept = elim (leb_tells (suc r.turn) turn) [
  | inl p ↦
      let low = p.1 in
      let At : List Release → Type 0 = λ x. AreBefore turn x in
      let rest = subst At (now r rs (omega (arith, low, far))) kept in
      (omega (arith, low), kept_all f turn until r.turn (r ∷ before) rs over far paced.1 (inside.0, behind) inside.1 (omega (arith, low), earlier) (inr (omega (arith, low))) rest.1)
  | inr p ↦
      let high = p.1 in
      let same = late_released f turn from before r rs paced behind inside.0 earlier early (omega (arith, high)) over in
      let At : List Release → Type 0 = λ x. AreBefore turn x in
      let rest = subst At (now r rs (omega (arith, same, far))) kept in
      absurd (let first = rest.0 in omega (arith, first, same))
]
  where
    now : (r : Release) (rs : List Release) → r.turn < until → before_turn until (r ∷ rs) ≡ r ∷ before_turn until rs
    now r rs l = elim (leb_tells (suc r.turn) until) [ inl p ↦ rw p.0 refl | inr p ↦ absurd (let h = p.1 in omega (arith, h, l)) ]

pub kept_released : (m : Machine) (own : ℕ → ℕ) (clocks : List Clocks) (b ready until : ℕ) (s : Started) → AreTicks own → (k : AreTracked own (clocks_at clocks b) ready) → IsMoved m clocks s → b < length m.boards → ready + 260 ≤ s.start
    → section_end m clocks s.section.moves s.start < k.until → s.end + 5 < until → AreBefore (s.end + 5) (cut_on m clocks until b s).section.releases → AreBefore (s.end + 5) (part_on m clocks s b).releases
kept_released m own clocks b ready until s ticks k h small after limit far kept =
    let i = moved_is m clocks s b h small in
    let part = part_on m clocks s b in
    let line = clocks_at clocks b in
    let end = h.end in
    let order = end_after m clocks s.section.moves s.start in
    let from_is = i.exact in
    let f : Frame = record { own = own; clocks = line; slots = (board_at m b).slots; ready = ready; start = s.start; end = s.end; ticks = ticks; tracked = k; after = after; order = omega (arith, end, order); limit = omega (arith, end, limit) } in
    let inside = all_inside f part.releases (λ oid.
    begun_inside f false oid false (of_stepper oid (units_of part.releases)) (i.begun oid)
    (early_fits (board_at m b).freq (lines_tick line ((s.end + 1) * turn_ns)) (base_of line part) (section_steps oid part) (part.plan oid) (i.fits oid) (i.within oid))) in
    kept_all f (s.end + 5) until i.from [] part.releases (omega arith) far i.paced tt inside tt (inl (omega (arith, from_is, end, order))) kept

-- its plan is whole
pub cut_many : (m : Machine) (clocks : List Clocks) (b until : ℕ) (s : Started) → IsMoved m clocks s → b < length m.boards → AreBefore (s.end + 5) (part_on m clocks s b).releases → s.end + 5 ≤ until
    → (oid : ℕ) → length ((cut_on m clocks until b s).section.plan oid) ≡ length ((part_on m clocks s b).plan oid)
cut_many m clocks b until s h small released far oid =
    let part = part_on m clocks s b in
    let rs = part.releases in
    let i = moved_is m clocks s b h small in
    let same = uncut until rs (before_least (s.end + 5) until rs (omega (arith, far)) released) in
    let many = i.whole oid in
    ap (λ (x : List Release). length (take (length (steps_said oid false (of_stepper oid (units_of x)))) (part.plan oid))) same
    ∙ ap length (take_all (length (section_steps oid part)) (part.plan oid) (omega (arith, many)))
