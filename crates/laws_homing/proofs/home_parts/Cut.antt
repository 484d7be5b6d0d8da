-- A board's part of a run in which axes home, as far as its units are released.
use Rattle.std.proofs.Common.{◌≡◌, ◌⊎◌, ℕ, zero, suc, true, false, ◌+◌, ◌*◌, ◌<◌, ◌≤◌, List, [], ◌∷◌, ◌++◌, All, length, map, take, Option, Some, refl, ap, sym, ◌∙◌, subst, arith, append_assoc, inl, inr, rules}
use Rattle.std.specs.Prelude.{◌-◌, ◌/◌, min, slice_index_or}
use Rattle.laws_board.proofs.Names.{flat_map, eqb_tells, leb_tells, length-map, All-cons, All-head, All-nil, All-tail, Machine, Planned, Pulse, SectionKind, Moves, Home, turn_ns, Clocks, lines_tick, board_at, Fits, clocks_at, Release, batch_at, units_of, AreBefore, BoardSection, base_of, of_stepper, section_steps, Orders, parts_on, AreStarted, Started, Told, MotionTurn, gather, item}
use Rattle.std.specs.List.{range_with_len}
use Rattle.std.proofs.lemmas.Bool.{cases_lt}
use Rattle.std.proofs.lemmas.List.Elements.{All-take}
use Rattle.plan_types.specs.Plan.{AreSpaced, max_error}
use Rattle.plan_types.specs.Sections.{section_end, is_home}
use Rattle.clock_line.proofs.Turns.{turn-below}
use Rattle.msg_code.specs.declared.unit.Batch.{Batch}
use Rattle.section_units.specs.Fronts.{IsSectionFront}
use Rattle.section_units.specs.Merged.{plan_at, section_of}
use Rattle.section_units.specs.Plans.{IsFrontOnBy, plans_on}
use Rattle.section_units.specs.Sections.{IsSection, steps_said}
use Rattle.section_units.proofs.Fronting.{section_front, section_whole}
use Rattle.laws_board.specs.sections.Events.{AreTicks}
use Rattle.laws_board.specs.sections.Homes.{AreInTurn, AreOrdersIn, AreOut, AreOutBy, AreSet, HasUnits, IsHomeRun, IsHomingIn, IsMovesIn, IsSectionBy, RunSection, SetsAny, AreReleasedIn}
use Rattle.laws_board.specs.sections.Parts.{AreTracked, MakesIn}
use Rattle.laws_board.specs.sections.Runs.{AreSpilled, IsSpilled}
use Rattle.laws_board.proofs.sections.Entering.{all_inside, begun_inside, early_fits}
use Rattle.laws_board.proofs.sections.HomeRuns.{before_least}
use Rattle.laws_board.proofs.sections.Waiting.{AreInside, Frame}
use Rattle.motion_work.specs.Feeds.{batches_at, units_at}
use Rattle.motion_work.specs.Homes.{before_turn, no_end}
use Rattle.motion_work.specs.Puts.{ArePut}
use Rattle.motion_work.specs.Seen.{IsHomed, IsPlanned, part_on}
use Rattle.motion_work.proofs.Boardwise.{moved_is}
use Rattle.motion_work.proofs.Turning.{end_after, planned_late}
use Rattle.session_work.specs.Bares.{bare_batch}
use Rattle.session_work.proofs.Each.{item_copies}
use Rattle.laws_board.specs.plans.Given.{TookBatches}
use Rattle.laws_board.specs.plans.Homed.{TookControlsIn, runs_on, stops_of}
use Rattle.laws_board.specs.plans.Planned.{AreBare, Plans, put_of, puts_of}
use Rattle.motion_work.proofs.Sending.{cut_before, cut_front}
use Rattle.motion_work.proofs.Following.{homed_before, homed_front}
use Rattle.laws_board.proofs.plans.Cutting.{cut_first, homing_cut}
use Rattle.laws_board.proofs.plans.Giving.{units_given, first_same}
use Rattle.laws_board.proofs.plans.Homed.{AreLong, StopsBy, in_turn, long_more, run_units, stops_ahead, stops_by}
use Rattle.laws_board.proofs.plans.Lasting.{AreLasting, lines_last}
use Rattle.laws_board.proofs.plans.Running.{started_in}
use Rattle.section_feed.proofs.Fewer.{IsLastEarly, IsPulseEarly, begun-pulses, of-all}
use Rattle.laws_homing.specs.home_parts.Cuts.{AreOverBefore, cut_on, cut_section, cuts_on, over_in}

-- of a plan the steps that pulses are made for
fits_take : (freq before : ℕ) (ps : List Pulse) (plan : List Planned) → Fits freq before ps plan → Fits freq before ps (take (length ps) plan) × (length ps ≡ length (take (length ps) plan))
fits_take freq before [] plan f = (tt, refl)
fits_take freq before (p ∷ ps) [] f = absurd f
fits_take freq before (p ∷ ps) (s ∷ plan) f = let r = fits_take freq s.tick ps plan f.1 in ((f.0, r.0), ap suc r.1)

pub fits_whole : (freq before n : ℕ) (ps : List Pulse) (plan : List Planned) → Fits freq before ps (take n plan) → Fits freq before ps plan
fits_whole freq before n [] plan f = tt
fits_whole freq before zero (p ∷ ps) plan f = absurd f
fits_whole freq before (suc n) (p ∷ ps) [] f = absurd f
fits_whole freq before (suc n) (p ∷ ps) (s ∷ plan) f = (f.0, fits_whole freq s.tick n ps plan f.1)

spaced_take : (n last : ℕ) (plan : List Planned) → AreSpaced last plan → AreSpaced last (take n plan)
spaced_take zero last plan a = tt
spaced_take (suc n) last [] a = tt
spaced_take (suc n) last (s ∷ plan) a = (a.0, spaced_take n s.tick plan a.1)

-- releases before a turn
before_both : (end turn : ℕ) (rs : List Release) → AreBefore end rs → AreBefore end (before_turn turn rs)
before_both end turn [] b = tt
before_both end turn (r ∷ rs) b = elim (leb_tells (suc r.turn) turn) [ inl p ↦ rw p.0 (b.0, before_both end turn rs b.1) | inr p ↦ rw p.0 (before_both end turn rs b.1) ]

pub batch_before : (k n : ℕ) (rs : List Release) → k < n → batch_at k (before_turn n rs) ≡ batch_at k rs
batch_before k n [] h = refl
batch_before k n (r ∷ rs) h = elim (leb_tells (suc r.turn) n) [
  | inl p ↦ elim (eqb_tells r.turn k) [ inl q ↦ rw (p.0, q.0) (ap (λ us. r.unit ∷ us) (batch_before k n rs h)) | inr q ↦ rw (p.0, q.0) (batch_before k n rs h) ]
  | inr p ↦ elim (eqb_tells r.turn k) [ inl q ↦ absurd (let late = p.1 in let at = q.1 in omega (arith, late, at, h)) | inr q ↦ rw (p.0, q.0) (batch_before k n rs h) ]
]

-- a section of moves
cut_is : (clocks : Clocks) (freq slots turn : ℕ) (s : BoardSection) → IsSection clocks freq slots s → IsSection clocks freq slots (cut_section turn s)
cut_is clocks freq slots turn s i =
    let base = base_of clocks s in
    let cut = before_turn turn s.releases in
    let f = cut_front clocks slots turn i.from [] s.releases i.paced in
    let Front : List Release → Type 0 = λ rs. IsSectionFront clocks freq slots (record { start = s.start; end = s.end; plan = s.plan; releases = rs }) in
    let front = section_front false clocks freq slots s.start s.end s.plan cut f.0 (subst Front f.1 (section_whole false clocks freq slots s i)) in
    let said = λ (oid : ℕ). steps_said oid false (of_stepper oid (units_of cut)) in
    record {
      spaced = λ oid. spaced_take (length (said oid)) base (s.plan oid) (i.spaced oid);
      within = λ oid. All-take (λ (q : Planned). q.tick < lines_tick clocks ((s.end + 1) * turn_ns)) (length (said oid)) (s.plan oid) (i.within oid);
      begun = front.begun;
      fits = λ oid. (fits_take freq base (said oid) (s.plan oid) (front.fits oid)).0;
      whole = λ oid. (fits_take freq base (said oid) (s.plan oid) (front.fits oid)).1;
      from = front.from;
      exact = front.exact;
      paced = front.paced;
    }

-- all its units are released by four turns behind its end, where those that are late are
out_in_time : (f : Frame) (turn turns : ℕ) (rs : List Release) → AreInside f rs → AreOutBy turns f.end rs → AreBefore turn rs → turn ≤ turns → AreBefore (f.end + 5) rs
out_in_time f turn turns [] i s b low = tt
out_in_time f turn turns (r ∷ rs) i s b low =
    let up = i.0.up in
    let high = i.0.high in
    let is = i.0.due in
    let first : r.unit.first < lines_tick f.clocks ((f.end + 1) * turn_ns) = omega (arith, up, high) in
    let due = turn-below f.clocks r.unit.first f.end first in
    let here = b.0 in
    let now : r.turn < f.end + 5 = elim (leb_tells (suc r.unit.due) turns) [
      | inl p ↦ elim (leb_tells (suc r.unit.due) r.turn) [
        | inl q ↦ (let late = s.0 p.1 q.1 in omega (arith, late))
        | inr q ↦ (let soon = q.1 in omega (arith, soon, is, due))
      ]
      | inr p ↦ (let far = p.1 in omega (arith, far, here, low, is, due))
    ] in
    (now, out_in_time f turn turns rs i.1 s.1 b.1 low)

out_front : (turns end turn : ℕ) (rs : List Release) → AreOutBy turns end rs → AreOutBy turns end (before_turn turn rs)
out_front turns end turn [] s = tt
out_front turns end turn (r ∷ rs) s = elim (leb_tells (suc r.turn) turn) [ inl p ↦ rw p.0 (s.0, out_front turns end turn rs s.1) | inr p ↦ rw p.0 (out_front turns end turn rs s.1) ]

-- where no unit that is due before the turn of the cut is released so many turns behind its due turn, none at all is
spilled_cut : (turns turn m : ℕ) (rs : List Release) → IsSpilled turn m rs → IsSpilled turns m (before_turn turn rs)
spilled_cut turns turn m [] s = tt
spilled_cut turns turn m (r ∷ rs) s = elim (leb_tells (suc r.turn) turn) [
  | inl p ↦ rw p.0 ((λ soon. elim (leb_tells (suc r.unit.due) turn) [ inl q ↦ s.0 q.1 | inr q ↦ (let low = p.1 in let far = q.1 in omega (arith, low, far)) ]), spilled_cut turns turn m rs s.1)
  | inr p ↦ rw p.0 (spilled_cut turns turn m rs s.1)
]

pub cuts_spilled : (m : Machine) (clocks : List Clocks) (turns turn n b : ℕ) (begun : List Started) → AreSpilled turn n (parts_on m clocks begun b) → AreSpilled turns n (map (λ s. s.section) (cuts_on m clocks turn begun b))
cuts_spilled m clocks turns turn n b [] s = tt
cuts_spilled m clocks turns turn n b (x ∷ begun) s = (spilled_cut turns turn n (part_on m clocks x b).releases s.0, cuts_spilled m clocks turns turn n b begun s.1)

moves_in : (clocks : Clocks) (freq slots until turn : ℕ) (stops : ℕ → Option ℕ) (s : BoardSection) → IsSection clocks freq slots s → s.end < until → StopsBy false stops s.start s.end
    → IsMovesIn clocks freq slots until stops (cut_section turn s)
moves_in clocks freq slots until turn stops s i limit stop = record { is = cut_is clocks freq slots turn s i; limit = limit; goes_on = stop }

moves_soon : (own : ℕ → ℕ) (clocks : Clocks) (freq slots ready turn turns : ℕ) (s : BoardSection) → AreTicks own → (k : AreTracked own clocks ready) → IsSection clocks freq slots s → ready + 260 ≤ s.start → s.start ≤ s.end
    → s.end < k.until → AreOutBy turns s.end s.releases → turn ≤ turns → AreBefore (s.end + 5) (before_turn turn s.releases)
moves_soon own clocks freq slots ready turn turns s ticks k i after order limit outs low =
    let cut = cut_section turn s in
    let c = cut_is clocks freq slots turn s i in
    let f : Frame = record { own = own; clocks = clocks; slots = slots; ready = ready; start = s.start; end = s.end; ticks = ticks; tracked = k; after = after; order = order; limit = limit } in
    let inside = all_inside f cut.releases (λ oid.
    begun_inside f false oid false (of_stepper oid (units_of cut.releases)) (c.begun oid) (early_fits freq (lines_tick clocks ((s.end + 1) * turn_ns)) (base_of clocks cut) (section_steps oid cut) (cut.plan oid) (c.fits oid) (c.within oid))) in
    out_in_time f turn turns cut.releases inside (out_front turns s.end turn s.releases outs) (cut_before turn s.releases) low

-- a homing section
homing_steps : (clocks : Clocks) (freq slots until : ℕ) (stops : ℕ → Option ℕ) (start end : ℕ) (plans : List (List Planned)) (rs : List Release) → IsHomingIn clocks freq slots until stops (section_of start end plans rs)
    → IsHomingIn clocks freq slots until stops (record { start = start; end = end; plan = λ oid. take (length (steps_said oid false (of_stepper oid (units_of rs)))) (plan_at plans oid); releases = rs })
homing_steps clocks freq slots until stops start end plans rs h =
    let base = lines_tick clocks (start * turn_ns) in
    let said = λ (oid : ℕ). steps_said oid false (of_stepper oid (units_of rs)) in
    record {
      spaced = λ oid. spaced_take (length (said oid)) base (plan_at plans oid) (h.spaced oid);
      last = h.last;
      order = h.order;
      limit = h.limit;
      within = λ oid. All-take (λ (q : Planned). q.tick < lines_tick clocks ((h.last + 1) * turn_ns)) (length (said oid)) (plan_at plans oid) (h.within oid);
      begun = h.begun;
      fits = λ oid. (fits_take freq base (said oid) (plan_at plans oid) (h.fits oid)).0;
      from = h.from;
      exact = h.exact;
      paced = h.paced;
      released = h.released;
      stop = h.stop;
    }

-- what holds of some releases, holds of those before a turn
pub before_all : (P : Release → Type 0) (turn : ℕ) (rs : List Release) → All P rs → All P (before_turn turn rs)
before_all P turn [] all = All-nil P
before_all P turn (r ∷ rs) all =
    let rest = before_all P turn rs (All-tail P r rs all) in
    elim (leb_tells (suc r.turn) turn) [ inl p ↦ rw p.0 (All-cons P r (before_turn turn rs) (All-head P r rs all) rest) | inr p ↦ rw p.0 rest ]

window_early : (e before planned step x : ℕ) → planned - min e ((planned - before) / 2) ≤ step → step + e < x → planned < x
window_early e before planned step x window soon = omega (arith, window, soon)

-- the steps of a plan for which pulses are made are before a tick where these are, by as much as a step may be early
taken_early : (freq bound before : ℕ) (ps : List Pulse) (plan : List Planned) → Fits freq before ps plan → All (IsPulseEarly (max_error freq) bound) ps → All (λ (q : Planned). q.tick < bound) (take (length ps) plan)
taken_early freq bound before [] plan f early = All-nil (λ (q : Planned). q.tick < bound)
taken_early freq bound before (p ∷ ps) [] f early = absurd f
taken_early freq bound before (p ∷ ps) (q ∷ plan) f early =
    let P : Planned → Type 0 = λ x. x.tick < bound in
    let soon : p.tick + max_error freq < bound = All-head (IsPulseEarly (max_error freq) bound) p ps early in
    All-cons P q (take (length ps) plan) (window_early (max_error freq) before q.tick p.tick bound f.0.not_early soon) (taken_early freq bound q.tick ps plan f.1 (All-tail (IsPulseEarly (max_error freq) bound) p ps early))

-- one whose end is known, before its plan's end
homing_near : (m : Machine) (clocks : List Clocks) (b until : ℕ) (stops : ℕ → Option ℕ) (s : Started) (cut : List Release) → b < length m.boards → s.start ≤ s.end → s.end + 269 < until
    → All (λ r. r.unit.last + max_error (board_at m b).freq < lines_tick (clocks_at clocks b) ((s.end + 270) * turn_ns)) cut → IsFrontOnBy true m clocks s.section.moves s.start b cut → AreBefore s.end cut → StopsBy true stops s.start s.end
    → IsHomingIn (clocks_at clocks b) (board_at m b).freq (board_at m b).slots until stops (record { start = s.start; end = s.end; plan = λ oid. take (length (steps_said oid false (of_stepper oid (units_of cut)))) (plan_at (plans_on m clocks s.section.moves s.start b) oid); releases = cut })
homing_near m clocks b until stops s cut small order limit near f before stop =
    let line = clocks_at clocks b in
    let freq = (board_at m b).freq in
    let base = lines_tick line (s.start * turn_ns) in
    let said = λ (oid : ℕ). steps_said oid false (of_stepper oid (units_of cut)) in
    let plans = plans_on m clocks s.section.moves s.start b in
    let bound = lines_tick line ((s.end + 270) * turn_ns) in
    let six : s.end + 269 + 1 ≡ s.end + 270 = omega arith in
    record {
      spaced = λ oid. spaced_take (length (said oid)) base (plan_at plans oid) (f.spaced oid);
      last = s.end + 269;
      order = omega (arith, order);
      limit = limit;
      within = λ oid. subst (λ n. All (λ (q : Planned). q.tick < lines_tick line (n * turn_ns)) (take (length (said oid)) (plan_at plans oid))) (sym six)
          (taken_early freq bound base (said oid) (plan_at plans oid) (f.fits oid) (begun-pulses true line base (max_error freq) bound oid (of_stepper oid (units_of cut)) (f.begun oid) (of-all (IsLastEarly (max_error freq) bound) oid cut near)));
      begun = f.begun;
      fits = λ oid. (fits_take freq base (said oid) (plan_at plans oid) (f.fits oid)).0;
      from = f.from;
      exact = f.exact;
      paced = f.paced;
      released = before;
      stop = stop;
    }

homed_in : (axis : ℕ) (m : Machine) (clocks : List Clocks) (b until turn : ℕ) (stops : ℕ → Option ℕ) (s : Started) → IsHomed m clocks s → b < length m.boards → AreLasting clocks b → over_in (Home axis) m clocks s < until → turn ≤ no_end
    → StopsBy true stops s.start s.end → IsHomingIn (clocks_at clocks b) (board_at m b).freq (board_at m b).slots until stops (cut_section turn (part_on m clocks s b))
homed_in axis m clocks b until turn stops s h small lines limit few stop =
    let moves = s.section.moves in
    let own = slice_index_or s.boards b [] in
    let cut = before_turn turn own in
    let f = cut_first m clocks moves b turn s.start own (homed_front m clocks s b lines.kept lines.soon lines.inside small h) in
    let before : AreBefore s.end cut = elim (homed_before m clocks s b small h) [ inl none ↦ before_least turn s.end cut (omega (arith, few, none)) (cut_before turn own) | inr ends ↦ before_both s.end turn own ends ] in
    let planned = section_end m clocks moves s.start in
    let Is : Type 0 = IsHomingIn (clocks_at clocks b) (board_at m b).freq (board_at m b).slots until stops (cut_section turn (part_on m clocks s b)) in
    let by_plan : planned < until → Is =
    λ soon. homing_steps (clocks_at clocks b) (board_at m b).freq (board_at m b).slots until stops s.start s.end (plans_on m clocks moves s.start b) cut (homing_cut m clocks moves b until s.start s.end cut stops lines.kept f before soon stop) in
    elim (leb_tells (suc s.end) no_end) as (λ _. Is) [
      | inr never ↦ by_plan (rw never.0 at limit)
      | inl known ↦
          let soon : min (s.end + 269) planned < until = rw known.0 at limit in
          elim (cases_lt planned (s.end + 269)) as (λ _. Is) [
            | inl less ↦ by_plan (omega (arith, soon, less))
            | inr over ↦ (
                let ended = known.1 in
                homing_near m clocks b until stops s cut small h.late (omega (arith, soon, over))
                (before_all (λ r. r.unit.last + max_error (board_at m b).freq < lines_tick (clocks_at clocks b) ((s.end + 270) * turn_ns)) turn own (h.near (omega (arith, ended)) b small)) f before stop)
          ]
    ]

-- none is over before it starts
pub over_late : (kind : SectionKind) (m : Machine) (clocks : List Clocks) (s : Started) → s.start ≤ s.end → s.start ≤ over_in kind m clocks s
over_late kind m clocks s p4 = search (rules, end_after, leb_tells)

one_in : (kind : SectionKind) (m : Machine) (clocks : List Clocks) (b until turn : ℕ) (stops : ℕ → Option ℕ) (s : Started) → IsPlanned kind m clocks s → b < length m.boards → AreLasting clocks b
    → over_in kind m clocks s < until → turn ≤ no_end → StopsBy (is_home kind) stops s.start s.end
    → IsSectionBy (is_home kind) (clocks_at clocks b) (board_at m b).freq (board_at m b).slots until stops (cut_section turn (part_on m clocks s b))
one_in Moves m clocks b until turn stops s h small lines limit few stop =
    let end = h.end in
    moves_in (clocks_at clocks b) (board_at m b).freq (board_at m b).slots until turn stops (part_on m clocks s b) (moved_is m clocks s b h small) (omega (arith, end, limit)) stop
one_in (Home axis) m clocks b until turn stops s h small lines limit few stop = homed_in axis m clocks b until turn stops s h small lines limit few stop

one_soon : (kind : SectionKind) (m : Machine) (own : ℕ → ℕ) (clocks : List Clocks) (b ready turn turns : ℕ) (s : Started) → AreTicks own → (k : AreTracked own (clocks_at clocks b) ready) → IsPlanned kind m clocks s → b < length m.boards
    → ready + 260 ≤ s.start → over_in kind m clocks s < k.until → (is_home kind ≡ false → AreOutBy turns s.end (part_on m clocks s b).releases) → turn ≤ turns → is_home kind ≡ false
    → AreBefore (s.end + 5) (before_turn turn (part_on m clocks s b).releases)
one_soon Moves m own clocks b ready turn turns s ticks k h small after limit outs low moves =
    let end = h.end in
    let order = end_after m clocks s.section.moves s.start in
    moves_soon own (clocks_at clocks b) (board_at m b).freq (board_at m b).slots ready turn turns (part_on m clocks s b) ticks k (moved_is m clocks s b h small) after (omega (arith, end, order)) (omega (arith, end, limit)) (outs refl) low
one_soon (Home axis) m own clocks b ready turn turns s ticks k h small after limit outs low moves = absurd (let e : true ≡ false = moves in cc)

-- the sections
sections_in : (m : Machine) (clocks : List Clocks) (b until at turn : ℕ) (all past rest : List Started) → all ≡ past ++ rest → AreLong at past
    → AreStarted m clocks at rest → b < length m.boards → AreLasting clocks b → AreOverBefore m clocks until rest → turn ≤ no_end
    → All (λ s. IsSectionBy s.homes (clocks_at clocks b) (board_at m b).freq (board_at m b).slots until (stops_of all) s.section) (cuts_on m clocks turn rest b)
sections_in m clocks b until at turn all past [] cut long h small lines limits few =
    All-nil (λ (s : RunSection). IsSectionBy s.homes (clocks_at clocks b) (board_at m b).freq (board_at m b).slots until (stops_of all) s.section)
sections_in m clocks b until at turn all past (s ∷ rest) cut long h small lines limits few =
    let P : RunSection → Type 0 = λ x. IsSectionBy x.homes (clocks_at clocks b) (board_at m b).freq (board_at m b).slots until (stops_of all) x.section in
    let Stops : List Started → Type 0 = λ x. StopsBy (is_home s.section.kind) (stops_of x) s.start s.end in
    let start = h.0.start in
    let late = planned_late s.section.kind m clocks s h.0.planned in
    let stop = subst Stops (sym cut) (stops_by m clocks (is_home s.section.kind) at past s rest refl long (omega (arith, start)) h.1) in
    All-cons P (cut_on m clocks turn b s) (cuts_on m clocks turn rest b)
    (one_in s.section.kind m clocks b until turn (stops_of all) s h.0.planned small lines limits.0 few stop)
    (sections_in m clocks b until (s.end + 260) turn all (past ++ s ∷ []) rest (cut ∙ sym (append_assoc past (s ∷ []) rest)) (long_more at past s (s.end + 260) long (omega (arith, start, late)) (omega (arith, late)))
    h.1 small lines limits.1 few)

-- of those of moves all units are released by four turns behind their ends, where those that are late are
pub cuts_soon : (m : Machine) (own : ℕ → ℕ) (clocks : List Clocks) (b ready at turn turns : ℕ) (begun : List Started) → AreTicks own → (k : AreTracked own (clocks_at clocks b) ready) → ready + 260 ≤ at → AreStarted m clocks at begun → b < length m.boards
    → AreOverBefore m clocks k.until begun → AreOut turns (runs_on m clocks begun b) → turn ≤ turns → AreReleasedIn (cuts_on m clocks turn begun b)
cuts_soon m own clocks b ready at turn turns [] ticks k after h small limits outs low = tt
cuts_soon m own clocks b ready at turn turns (s ∷ begun) ticks k after h small limits outs low =
    let start = h.0.start in
    let late = planned_late s.section.kind m clocks s h.0.planned in (
      one_soon s.section.kind m own clocks b ready turn turns s ticks k h.0.planned small (omega (arith, start, after)) limits.0 outs.0 low,
      cuts_soon m own clocks b ready (s.end + 260) turn turns begun ticks k (omega (arith, start, late, after)) h.1 small limits.1 outs.1 low,
    )

cut_turn : (m : Machine) (clocks : List Clocks) (turn b e : ℕ) (begun : List Started) → AreInTurn e (runs_on m clocks begun b) → AreInTurn e (cuts_on m clocks turn begun b)
cut_turn m clocks turn b e [] h = tt
cut_turn m clocks turn b e (s ∷ begun) h = (h.0, h.1, cut_turn m clocks turn b s.end begun h.2)

-- what is queued
cut_units : (m : Machine) (clocks : List Clocks) (turn b k : ℕ) (begun : List Started) → k < turn → flat_map (λ s. batch_at k s.section.releases) (runs_on m clocks begun b) ≡ flat_map (λ s. batch_at k s.section.releases) (cuts_on m clocks turn begun b)
cut_units m clocks turn b k [] h = refl
cut_units m clocks turn b k (s ∷ begun) h =
    let rs = (part_on m clocks s b).releases in
    ap (λ us. us ++ flat_map (λ (x : RunSection). batch_at k x.section.releases) (runs_on m clocks begun b)) (sym (batch_before k turn rs h))
    ∙ ap (λ us. batch_at k (before_turn turn rs) ++ us) (cut_units m clocks turn b k begun h)

-- from the turn of the cut on nothing is queued
batch_after : (k n : ℕ) (rs : List Release) → n ≤ k → batch_at k (before_turn n rs) ≡ []
batch_after k n [] h = refl
batch_after k n (r ∷ rs) h = elim (leb_tells (suc r.turn) n) [
  | inl p ↦ elim (eqb_tells r.turn k) [ inl q ↦ absurd (let low = p.1 in let at = q.1 in omega (arith, low, at, h)) | inr q ↦ rw (p.0, q.0) (batch_after k n rs h) ]
  | inr p ↦ rw p.0 (batch_after k n rs h)
]

units_after : (m : Machine) (clocks : List Clocks) (turn b k : ℕ) (begun : List Started) → turn ≤ k → flat_map (λ s. batch_at k s.section.releases) (cuts_on m clocks turn begun b) ≡ []
units_after m clocks turn b k [] h = refl
units_after m clocks turn b k (s ∷ begun) h =
    ap (λ us. us ++ flat_map (λ (x : RunSection). batch_at k x.section.releases) (cuts_on m clocks turn begun b)) (batch_after k turn (part_on m clocks s b).releases h) ∙ units_after m clocks turn b k begun h

-- the batch of a board, among those of a turn
some_item : (f : ℕ → Batch) (i n b : ℕ) → b < n → (x : Batch) × (item b (map f (range_with_len i n)) ≡ x ∷ [])
some_item f i zero b h = absurd (omega (arith, h))
some_item f i (suc n) zero h = (f i, refl)
some_item f i (suc n) (suc b) h = some_item f (i + 1) n b (omega (arith, h))

own_batch : (m : Machine) (k b : ℕ) (sections : List (List (List Release))) → b < length m.boards → (x : Batch) × (item b (batches_at (length m.boards) k sections) ≡ x ∷ [])
own_batch m k b sections h = some_item (λ i. record { turn = k; units = units_at i k sections; end = false }) 0 (length m.boards) b h

-- the orders of turns behind those of the planner
bare_orders : (m : Machine) (clocks : List Clocks) (begun : List Started) (turn b k : ℕ) (bare : List MotionTurn) (os : List Orders) (rest : List Batch) → b < length m.boards → AreBare (length m.boards) k bare → turn ≤ k
    → map (λ o. o.batch) os ++ rest ≡ gather (λ t. item b t.batches) bare → TookControlsIn (clocks_at clocks b) (cuts_on m clocks turn begun b) k os → AreOrdersIn (clocks_at clocks b) (cuts_on m clocks turn begun b) k os
bare_orders m clocks begun turn b k bare [] rest small are low took controls = tt
bare_orders m clocks begun turn b k [] (o ∷ os) rest small are low took controls = absurd (let e : o.batch ∷ (map (λ (x : Orders). x.batch) os ++ rest) ≡ [] = took in cc)
bare_orders m clocks begun turn b k (d ∷ bare) (o ∷ os) rest small are low took controls =
    let none = bare_batch k are.0.0 in
    let others = gather (λ (x : MotionTurn). item b x.batches) bare in
    let own : item b d.batches ≡ none ∷ [] = ap (item b) are.0.2 ∙ item_copies (length m.boards) none b small in
    let same = first_same o.batch none (map (λ (x : Orders). x.batch) os ++ rest) others (took ∙ ap (λ x. x ++ others) own) in (
      controls.0,
      ap (λ (x : Batch). x.units) same.0 ∙ sym (units_after m clocks turn b k begun low),
      bare_orders m clocks begun turn b (k + 1) bare os rest small are.1 (omega (arith, low)) same.1 controls.1,
    )

-- and of all
cut_orders : (m : Machine) (text : List ℕ) (clocks : List Clocks) (begun : List Started) (turn b k : ℕ) (made bare : List MotionTurn) (os : List Orders) (rest : List Batch) → b < length m.boards → ArePut m text begun k (puts_of made)
    → AreBare (length m.boards) (k + length made) bare → turn ≤ k + length made → (k + length os ≤ turn) ⊎ (k + length made ≤ turn) → map (λ o. o.batch) os ++ rest ≡ gather (λ t. item b t.batches) (made ++ bare)
    → TookControlsIn (clocks_at clocks b) (cuts_on m clocks turn begun b) k os → AreOrdersIn (clocks_at clocks b) (cuts_on m clocks turn begun b) k os
cut_orders m text clocks begun turn b k made bare [] rest small put are low far took controls = tt
cut_orders m text clocks begun turn b k [] bare (o ∷ os) rest small put are low far took controls =
    let e : k + 0 ≡ k = omega arith in
    bare_orders m clocks begun turn b k bare (o ∷ os) rest small (subst (λ (n : ℕ). AreBare (length m.boards) n bare) e are) (omega (arith, low)) took controls
cut_orders m text clocks begun turn b k (t ∷ made) bare (o ∷ os) rest small put are low far took controls =
    let sections : List (List (List Release)) = map (λ (s : Started). s.boards) begun in
    let batches = map (λ (x : Orders). x.batch) os in
    let others = gather (λ (x : MotionTurn). item b x.batches) (made ++ bare) in
    let x = own_batch m k b sections small in
    let own : item b t.batches ≡ x.0 ∷ [] = ap (item b) put.0.batches_are ∙ x.1 in
    let same = first_same o.batch x.0 (batches ++ rest) others (took ∙ ap (λ z. z ++ others) own) in
    let given = (units_given m text begun b k (t ∷ made) bare (o ∷ []) (batches ++ rest) small put (omega arith) took).0 in
    let soon : k < turn = elim far [ inl a ↦ omega (arith, a) | inr a ↦ omega (arith, a) ] in
    let more : (k + 1 + length os ≤ turn) ⊎ (k + 1 + length made ≤ turn) = elim far [ inl a ↦ inl (omega (arith, a)) | inr a ↦ inr (omega (arith, a)) ] in
    let e : k + length (t ∷ made) ≡ k + 1 + length made = omega arith in (
      controls.0,
      given ∙ run_units m clocks begun b k ∙ cut_units m clocks turn b k begun soon,
      cut_orders m text clocks begun turn b (k + 1) made bare os rest small put.1 (subst (λ (n : ℕ). AreBare (length m.boards) n bare) e are) (omega (arith, low)) more same.1 controls.1,
    )

pub home_run : (m : Machine) (ts : List MotionTurn) (p : Plans m (length m.boards) ts) (t : Told) (b ready until : ℕ) (own : ℕ → ℕ) (os : List Orders) → b < length m.boards → p.seen.told ≡ Some t → until ≤ length p.made
    → (length os ≤ until) ⊎ (length p.made ≤ until) → TookBatches b ts os → TookControlsIn (clocks_at t.clocks b) (cuts_on m t.clocks until p.seen.begun b) 0 os → AreTicks own → (k : AreTracked own (clocks_at t.clocks b) ready)
    → ready + 260 ≤ t.first → AreOverBefore m t.clocks k.until p.seen.begun → ((oid : ℕ) → AreSet oid (cuts_on m t.clocks until p.seen.begun b) 0 os)
    → (ready ≤ length os → (oid : ℕ) → HasUnits oid (cuts_on m t.clocks until p.seen.begun b) ⊎ SetsAny oid os → MakesIn oid (take ready os))
    → IsHomeRun own (clocks_at t.clocks b) (board_at m b).freq (board_at m b).slots ready (stops_of p.seen.begun) (cuts_on m t.clocks until p.seen.begun b) os
home_run m ts p t b ready until own os small told low far took controls ticks k early limits set made =
    let begun = started_in m ts p t told in
    let size = length-map p.made put_of in
    let most = p.small in
    let far_all : (0 + length os ≤ until) ⊎ (0 + length p.made ≤ until) = elim far [ inl a ↦ inl (omega (arith, a)) | inr a ↦ inr (omega (arith, a)) ] in
    let At : List MotionTurn → Type 0 = λ x. map (λ (o : Orders). o.batch) os ++ took.0 ≡ gather (λ (y : MotionTurn). item b y.batches) x in
    record {
      tracked = k;
      sections = sections_in m t.clocks b k.until t.first until p.seen.begun [] p.seen.begun refl tt begun small (lines_last m (length m.boards) ts p t b told small) limits (omega (arith, low, size, most));
      row = cut_turn m t.clocks until b ready p.seen.begun (in_turn m t.clocks b ready t.first p.seen.begun early begun);
      orders = cut_orders m p.seen.text t.clocks p.seen.begun until b 0 p.made p.bare os took.0 small p.put p.are_bare (omega (arith, low)) far_all (subst At p.are took.1) controls;
      set = set;
      made = made;
      ahead = λ turn. stops_ahead m t.clocks t.first turn p.seen.begun begun;
    }
