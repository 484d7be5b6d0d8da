-- The worked example is a section.
use Rattle.std.proofs.Common.{◌≡◌, ◌≢◌, ℕ, pos, Bool, true, false, ◌+◌, ◌-◌, ◌*◌, ◌%◌, ◌^◌, ◌<◌, ◌≤◌, List, [], ◌∷◌, length, map, All, Option, Some, None, refl, ap, sym, ◌∙◌, subst, arith, inl, inr, rules}
use Rattle.laws_board.proofs.Names.{leb_tells, eqb_tells, All-cons, All-nil, Planned, Pulse, board_tick, tick, turn_ns, lines_tick, Clocks, Fits, AreKept, StepUnit, Release, units_of, of_stepper, section_steps, BoardSection, both_parts}
use Rattle.std.specs.Prelude.{◌&&◌, nat_le, slice_index}
use Rattle.plan_types.specs.declared.plan.Triple.{Triple}
use Rattle.plan_types.specs.Board.{last_of, AreTicksOf}
use Rattle.plan_types.specs.Packing.{tick_at, ticks_of}
use Rattle.plan_types.proofs.OwnTicks.{exact}
use Rattle.std.proofs.lemmas.List.FromFn.{length-map-range_with_len, get_or-map-range_with_len}
use Rattle.plan_types.specs.Lines.{lines_turn}
use Rattle.plan_types.specs.Plan.{AreSpaced}
use Rattle.clock_line.proofs.Turns.{turn-below, turn-after}
use Rattle.std.specs.Int.{cast_unsigned, w32}
use Rattle.step_feed.specs.Units.{dir_bytes, queue_bytes, reset_bytes, unit_bytes}
use Rattle.step_feed.proofs.Counts.{count_bounds}
use Rattle.step_feed.proofs.Rings.{one-most}
use Rattle.step_feed.specs.Pacing.{ArePaced, IsReleased, bytes_in, pending}
use Rattle.section_units.specs.Sections.{IsSection, IsUnit, AreBegun}
use Rattle.laws_board.specs.sections.Parts.{IsBoardRun}
use Rattle.clock_line.proofs.Turns.{tick-turn}
use Rattle.laws_board.specs.sections.Sample.{sample_clock, sample_line, sample_clocks, sample_steps, sample_unit, sample_releases, sample_section}
use Rattle.plan_types.proofs.Facts.{was_le, false_true}
use Rattle.section_units.proofs.Paceable.{dir-small, reset-small}

kept : AreKept sample_clocks
kept = record {
  valid = record { freq_low = omega arith; freq_high = omega arith; freq_whole = refl; whole_turn = refl; few_turns = omega arith };
  held = tt;
}

-- the turn of a tick
pub turn_is : (t k : ℕ) → k * 16_000 ≤ t → t < (k + 1) * 16_000 → k ≡ lines_turn sample_clocks t
turn_is t k low high =
    let up = turn-below sample_clocks t k (omega (arith, high)) in
    elim (leb_tells k (lines_turn sample_clocks t)) [
      | inl p ↦ omega (arith, up, p.1)
      | inr p ↦
          let j = k - 1 in
          let before = turn-after sample_clocks t j kept (omega (arith, p.1)) in
          absurd (omega (arith, before, low, p.1))
    ]

-- steps at one interval
abbrev flat : ℕ → ℕ → Triple
flat d n = record { interval = d; count = n; add = pos 0 }

flat_length : (first d n : ℕ) → length (ticks_of first (flat d n)) ≡ n
flat_length first d n = length-map-range_with_len (tick_at first d (pos 0)) 0 n

flat_at : (first d n i : ℕ) → i < n → slice_index (ticks_of first (flat d n)) i ≡ first + i * d
flat_at first d n i h = get_or-map-range_with_len (tick_at first d (pos 0)) 0 n i i 0 h (omega arith) ∙ omega arith

flat_ticks : (first d n : ℕ) → 0 < n → d < 2 ^ 32 → 0 < d → AreTicksOf (flat d n) (ticks_of first (flat d n))
flat_ticks first d n some small low = search (rules, flat_length, flat_at)

sample_is : (behind first last due d n : ℕ) (up : Option Bool) (reset : Option ℕ) → 0 < n → d < 2 ^ 32 → 0 < d → first ≡ behind + d → last ≡ last_of 0 (ticks_of first (flat d n)) → due * 16_000 ≤ first
    → first < (due + 1) * 16_000 → IsUnit sample_clocks behind (sample_unit first last due d n up reset)
sample_is behind first last due d n up reset some small low is last_is from to = search (rules, flat_at, flat_ticks, flat_length, turn_is)

some_up : Some true ≡ None → ⊥
some_up e = cc

one : IsUnit sample_clocks 20_160_000 (sample_unit 20_192_660 20_192_660 1_262 32_660 1 (Some true) (Some 20_160_000))
one = sample_is 20_160_000 20_192_660 20_192_660 1_262 32_660 1 (Some true) (Some 20_160_000) (omega arith) (omega arith) (omega arith) refl refl (omega arith) (omega arith)

two : IsUnit sample_clocks 20_192_660 (sample_unit 20_216_666 20_216_666 1_263 24_006 1 None None)
two = sample_is 20_192_660 20_216_666 20_216_666 1_263 24_006 1 None None (omega arith) (omega arith) (omega arith) refl refl (omega arith) (omega arith)

three : IsUnit sample_clocks 20_216_666 (sample_unit 20_236_666 21_756_666 1_264 20_000 77 None None)
three = sample_is 20_216_666 20_236_666 21_756_666 1_264 20_000 77 None None (omega arith) (omega arith) (omega arith) refl refl (omega arith) (omega arith)

four : IsUnit sample_clocks 21_756_666 (sample_unit 21_780_672 21_780_672 1_361 24_006 1 None None)
four = sample_is 21_756_666 21_780_672 21_780_672 1_361 24_006 1 None None (omega arith) (omega arith) (omega arith) refl refl (omega arith) (omega arith)

begun : (oid : ℕ) → AreBegun sample_clocks 20_160_000 (of_stepper oid (units_of sample_releases))
begun oid = elim (eqb_tells 0 oid) [ inl p ↦ rw p.0 (refl, some_up, one, (refl, two, (refl, three, (refl, four, tt)))) | inr p ↦ rw p.0 tt ]

-- steps that are at their ticks fit
fits_itself : (freq before oid : ℕ) (plan : List Planned) → Fits freq before (map (λ (s : Planned). record { tick = s.tick; stepper = oid; up = s.up }) plan) plan
fits_itself freq before oid [] = tt
fits_itself freq before oid (s ∷ plan) = (record { direction = refl; not_early = omega arith; not_late = omega arith }, fits_itself freq s.tick oid plan)

spaced_test : ℕ → List Planned → Bool
spaced_test last [] = true
spaced_test last (s ∷ steps) = nat_le (last + 4) s.tick && spaced_test s.tick steps

spaced_tests : (last : ℕ) (steps : List Planned) → spaced_test last steps ≡ true → AreSpaced last steps
unfolding spaced_test
spaced_tests last [] e = tt
spaced_tests last (s ∷ steps) e =
    let b = both_parts (nat_le (last + 4) s.tick) (spaced_test s.tick steps) e in
    (was_le (last + 4) s.tick b.0, spaced_tests s.tick steps b.1)

below_test : ℕ → List Planned → Bool
below_test x [] = true
below_test x (s ∷ steps) = nat_le (s.tick + 1) x && below_test x steps

below_tests : (x : ℕ) (steps : List Planned) → below_test x steps ≡ true → All (λ s. s.tick < x) steps
unfolding below_test
below_tests x [] e = All-nil (λ (s : Planned). s.tick < x)
below_tests x (s ∷ steps) e =
    let b = both_parts (nat_le (s.tick + 1) x) (below_test x steps) e in
    All-cons (λ (q : Planned). q.tick < x) s steps (omega (arith, was_le (s.tick + 1) x b.0)) (below_tests x steps b.1)

sample_spaced : spaced_test 20_160_000 sample_steps ≡ true
unfolding spaced_test
sample_spaced = refl

sample_below : below_test 21_792_000 sample_steps ≡ true
unfolding below_test
sample_below = refl

sample_said : section_steps 0 sample_section ≡ map (λ (s : Planned). record { tick = s.tick; stepper = 0; up = s.up }) sample_steps
sample_said = refl

-- the pacing: each unit 250 turns before it is due
pending_few : (clocks : Clocks) (s k : ℕ) (before : List Release) → pending clocks s k before ≤ length before
pending_few clocks s k [] = omega arith
pending_few clocks s k (r ∷ before) =
    elim (eqb_tells r.unit.stepper s) [
      | inl p ↦ rw p.0 (omega (arith, one-most clocks k r.unit.last, pending_few clocks s k before))
      | inr p ↦ rw p.0 (omega (arith, pending_few clocks s k before))
    ]

bytes_few : (u : StepUnit) → unit_bytes u ≤ 39
unfolding unit_bytes queue_bytes
bytes_few u =
    omega (arith, count_bounds u.stepper, count_bounds u.triple.interval, count_bounds u.triple.count, count_bounds (cast_unsigned w32 u.triple.add), dir-small u.stepper u.up, reset-small u.stepper u.reset)

released : (from : ℕ) (before : List Release) (r : Release) → from ≤ r.turn → r.unit.due ≡ r.turn + 250 → bytes_in r.turn before ≡ 0 → length before < 1_024 → IsReleased sample_clocks 1_024 from before r
released from before r after due none few = search (rules, bytes_few, pending_few)

abbrev release : ℕ → ℕ → ℕ → ℕ → ℕ → Option Bool → Option ℕ → ℕ → Release
release first last due d n up reset turn = record { unit = sample_unit first last due d n up reset; turn = turn }

paced : ArePaced sample_clocks 1_024 1_010 [] sample_releases
paced = search (rules, released)

others_none : (oid : ℕ) → oid ≢ 0 → section_steps oid sample_section ≡ []
others_none oid ne = elim (eqb_tells 0 oid) [ inl p ↦ absurd (ne (sym p.1)) | inr p ↦ rw p.0 refl ]

sample_fits : (oid : ℕ) → Fits 16_000_000 20_160_000 (section_steps oid sample_section) (sample_section.plan oid)
sample_fits oid =
    let At : List Pulse → Type 0 = λ ps. Fits 16_000_000 20_160_000 ps sample_steps in
    elim (eqb_tells oid 0) [
      | inl p ↦ rw p.1 (subst At (sym sample_said) (fits_itself 16_000_000 20_160_000 0 sample_steps))
      | inr p ↦ rw (others_none oid p.1) tt
    ]

sample_whole : (oid : ℕ) → length (section_steps oid sample_section) ≡ length (sample_section.plan oid)
sample_whole oid = elim (eqb_tells oid 0) [ inl p ↦ rw p.1 (ap length sample_said) | inr p ↦ rw (others_none oid p.1, p.0) refl ]

pub is_section : IsSection sample_clocks 16_000_000 1_024 sample_section
is_section = record {
  spaced = λ oid. elim (eqb_tells oid 0) [ inl p ↦ rw p.0 (spaced_tests 20_160_000 sample_steps sample_spaced) | inr p ↦ rw p.0 tt ];
  within = λ oid. elim (eqb_tells oid 0) [ inl p ↦ rw p.0 (below_tests 21_792_000 sample_steps sample_below) | inr p ↦ rw p.0 (All-nil (λ (s : Planned). s.tick < 21_792_000)) ];
  begun = begun;
  fits = sample_fits;
  whole = sample_whole;
  from = 1_010;
  exact = omega arith;
  paced = paced;
}

-- the lines of a board without drift are its own ticks
line_at : (k : ℕ) → tick sample_line (k * turn_ns) ≡ k * 16_000
line_at k = tick-turn sample_line 0 16_000 k refl refl ∙ omega arith

own_at : (k : ℕ) → board_tick sample_clock k ≡ k * 16_000
own_at k = exact 0 16_000_000 k ∙ line_at k

line_tick : (k : ℕ) → lines_tick sample_clocks (k * turn_ns) ≡ k * 16_000
line_tick k = let here = line_at k in omega (arith, here)

pub is_run : IsBoardRun (board_tick sample_clock) sample_clocks 16_000_000 1_024 1_000 (sample_section ∷ []) []
is_run =
    let P : BoardSection → Type 0 = λ s. IsSection sample_clocks 16_000_000 1_024 s in
    record {
      tracked = record {
        until = 1_400;
        kept = kept;
        behind = λ k low soon. omega (arith, own_at k, line_tick (k + 1));
        ahead = λ k low soon. omega (arith, own_at (k + 4), line_tick k);
      };
      sections = All-cons P sample_section [] is_section (All-nil P);
      row = (omega arith, omega arith, omega arith, tt);
      orders = tt;
      made = λ long oid. absurd (omega (arith, long));
    }
