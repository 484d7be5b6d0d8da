-- A board's part of a run in which axes home, from what the planner put.
use Rattle.std.proofs.Common.{◌≡◌, ◌⊎◌, ℕ, Bool, true, false, ◌+◌, ◌<◌, ◌≤◌, List, [], ◌∷◌, ◌++◌, All, length, map, take, Option, None, Some, refl, ap, sym, ◌∙◌, subst, arith, append_assoc, inl, inr}
use Rattle.std.specs.Prelude.{◌&&◌, slice_index_or, if◌then◌else◌}
use Rattle.laws_board.proofs.Names.{flat_map, leb_tells, All-cons, All-nil, Machine, SectionKind, Moves, Home, Clocks, board_at, clocks_at, AreBefore, Release, batch_at, Orders, AreStarted, Started, Told, MotionTurn, gather, item}
use Rattle.std.proofs.lemmas.List.Folds.{flat_map-map}
use Rattle.plan_types.specs.Sections.{section_end, is_home}
use Rattle.laws_board.specs.sections.Courses.{IsFrom}
use Rattle.laws_board.specs.sections.Homes.{AreInTurn, AreOrdersIn, AreSet, HasUnits, IsHomeRun, IsHomingIn, IsSectionBy, RunSection, SetsAny}
use Rattle.laws_board.specs.sections.Parts.{AreTracked, MakesIn}
use Rattle.motion_work.specs.Feeds.{units_at}
use Rattle.motion_work.specs.Homes.{no_end}
use Rattle.motion_work.specs.Seen.{IsHomed, IsPlanned, part_on}
use Rattle.motion_work.proofs.Boardwise.{moved_is}
use Rattle.motion_work.proofs.Turning.{planned_late}
use Rattle.laws_board.specs.plans.Given.{TookBatches}
use Rattle.laws_board.specs.plans.Homed.{AreOutInTime, ArePlannedBefore, TookControlsIn, is_set_in, run_on, runs_on, stops_of}
use Rattle.laws_board.specs.plans.Planned.{Plans}
use Rattle.motion_work.proofs.Following.{homed_before, homed_front}
use Rattle.laws_board.proofs.plans.Cutting.{homing_cut}
use Rattle.laws_board.proofs.plans.Lasting.{AreLasting, lines_last}
use Rattle.laws_board.proofs.plans.Running.{started_in}
use Rattle.laws_board.proofs.plans.Giving.{AreGiven, units_given}
use Rattle.laws_board.proofs.sections.HomeRuns.{before_least}

-- where the parts stop that are begun in a turn
none_before : (home : Bool) (start turn : ℕ) → start < turn + 252 → (home && is_set_in start turn) ≡ false
none_before false start turn h = refl
none_before true start turn h = elim (leb_tells start (turn + 254)) [
  | inl p ↦ elim (leb_tells (turn + 252) start) [ inl q ↦ absurd (omega (arith, q.1, h)) | inr q ↦ rw (p.0, q.0) refl ]
  | inr p ↦ rw p.0 refl
]

none_behind : (home : Bool) (start turn : ℕ) → turn + 254 < start → (home && is_set_in start turn) ≡ false
none_behind false start turn h = refl
none_behind true start turn h = elim (leb_tells start (turn + 254)) [ inl p ↦ absurd (omega (arith, p.1, h)) | inr p ↦ rw p.0 refl ]

set_now : (start turn : ℕ) → start ≤ turn + 254 → turn + 252 ≤ start → (true && is_set_in start turn) ≡ true
set_now start turn soon late = elim (leb_tells start (turn + 254)) [
  | inl p ↦ elim (leb_tells (turn + 252) start) [ inl q ↦ rw (p.0, q.0) refl | inr q ↦ absurd (omega (arith, q.1, late)) ]
  | inr p ↦ absurd (omega (arith, p.1, soon))
]

abbrev pub AreLong : ℕ → List Started → Type 0
AreLong ready [] = Unit {0}
AreLong ready (s ∷ past) = (s.start + 260 ≤ ready) × AreLong ready past

pub long_more : (ready : ℕ) (past : List Started) (s : Started) (next : ℕ) → AreLong ready past → ready ≤ next → s.start + 260 ≤ next → AreLong next (past ++ s ∷ [])
long_more ready [] s next h up own = (own, tt)
long_more ready (x ∷ past) s next h up own = (omega (arith, h.0, up), long_more ready past s next h.1 up own)

stops_skip : (ready turn : ℕ) (past rest : List Started) → AreLong ready past → ready ≤ turn + 254 → stops_of (past ++ rest) turn ≡ stops_of rest turn
stops_skip ready turn [] rest h near = refl
stops_skip ready turn (s ∷ past) rest h near =
    ap (λ c. if c then Some s.end else stops_of (past ++ rest) turn) (none_before (is_home s.section.kind) s.start turn (omega (arith, h.0, near))) ∙ stops_skip ready turn past rest h.1 near

stops_later : (m : Machine) (clocks : List Clocks) (ready turn : ℕ) (rest : List Started) → AreStarted m clocks ready rest → turn + 254 < ready → stops_of rest turn ≡ None
stops_later m clocks ready turn [] h far = refl
stops_later m clocks ready turn (s ∷ rest) h far =
    let start = h.0.start in
    let late = planned_late s.section.kind m clocks s h.0.planned in
    ap (λ c. if c then Some s.end else stops_of rest turn) (none_behind (is_home s.section.kind) s.start turn (omega (arith, start, far)))
    ∙ stops_later m clocks (s.end + 260) turn rest h.1 (omega (arith, start, far, late))

-- of a section
abbrev pub StopsBy : Bool → (ℕ → Option ℕ) → ℕ → ℕ → Type 0
StopsBy true stops start end = (turn : ℕ) → start ≤ turn + 254 → turn + 252 ≤ start → stops turn ≡ Some end
StopsBy false stops start end = (turn : ℕ) → start ≤ turn + 254 → turn ≤ end + 5 → stops turn ≡ None

pub stops_by : (m : Machine) (clocks : List Clocks) (home : Bool) (ready : ℕ) (past : List Started) (s : Started) (rest : List Started) → home ≡ is_home s.section.kind → AreLong ready past → ready ≤ s.start
    → AreStarted m clocks (s.end + 260) rest → StopsBy home (stops_of (past ++ s ∷ rest)) s.start s.end
stops_by m clocks true ready past s rest is long after later = λ turn soon late.
    stops_skip ready turn past (s ∷ rest) long (omega (arith, after, soon))
    ∙ ap (λ c. if c then Some s.end else stops_of rest turn) (ap (λ c. c && is_set_in s.start turn) (sym is) ∙ set_now s.start turn soon late)
stops_by m clocks false ready past s rest is long after later = λ turn soon late.
    stops_skip ready turn past (s ∷ rest) long (omega (arith, after, soon))
    ∙ ap (λ c. if c then Some s.end else stops_of rest turn) (ap (λ c. c && is_set_in s.start turn) (sym is))
    ∙ stops_later m clocks (s.end + 260) turn rest later (omega (arith, late))

ahead_one : (home : Bool) (start end turn : ℕ) (o : Option ℕ) → start ≤ end → (IsFrom turn o → ⊥) → IsFrom turn (if home && is_set_in start turn then Some end else o) → ⊥
ahead_one false start end turn o order none h = none h
ahead_one true start end turn o order none h = elim (leb_tells start (turn + 254)) [
  | inl p ↦ elim (leb_tells (turn + 252) start) [ inl q ↦ absurd (let late : end ≤ turn = rw (p.0, q.0) at h in omega (arith, late, q.1, order)) | inr q ↦ none (rw (p.0, q.0) at h) ]
  | inr p ↦ none (rw p.0 at h)
]

pub stops_ahead : (m : Machine) (clocks : List Clocks) (ready turn : ℕ) (begun : List Started) → AreStarted m clocks ready begun → IsFrom turn (stops_of begun turn) → ⊥
stops_ahead m clocks ready turn [] h f = f
stops_ahead m clocks ready turn (s ∷ begun) h f =
    ahead_one (is_home s.section.kind) s.start s.end turn (stops_of begun turn) (planned_late s.section.kind m clocks s h.0.planned) (stops_ahead m clocks (s.end + 260) turn begun h.1) f

-- a section
homed_is : (m : Machine) (clocks : List Clocks) (b until : ℕ) (stops : ℕ → Option ℕ) (s : Started) → IsHomed m clocks s → b < length m.boards → AreLasting clocks b → section_end m clocks s.section.moves s.start < until
    → section_end m clocks s.section.moves s.start + 6 < no_end → AreBefore (section_end m clocks s.section.moves s.start + 6) (part_on m clocks s b).releases → StopsBy true stops s.start s.end
    → IsHomingIn (clocks_at clocks b) (board_at m b).freq (board_at m b).slots until stops (part_on m clocks s b)
homed_is m clocks b until stops s h small lines limit long out stop =
    let planned = section_end m clocks s.section.moves s.start in
    let own = slice_index_or s.boards b [] in
    let before : AreBefore s.end own = elim (homed_before m clocks s b small h) [ inl none ↦ before_least (planned + 6) s.end own (omega (arith, long, none)) out | inr ends ↦ ends ] in
    homing_cut m clocks s.section.moves b until s.start s.end own stops lines.kept (homed_front m clocks s b lines.kept lines.soon lines.inside small h) before limit stop

one_is : (kind : SectionKind) (m : Machine) (clocks : List Clocks) (b until : ℕ) (stops : ℕ → Option ℕ) (s : Started) → IsPlanned kind m clocks s → b < length m.boards → AreLasting clocks b → section_end m clocks s.section.moves s.start < until
    → section_end m clocks s.section.moves s.start + 6 < no_end → (is_home kind ≡ true → AreBefore (section_end m clocks s.section.moves s.start + 6) (part_on m clocks s b).releases) → StopsBy (is_home kind) stops s.start s.end
    → IsSectionBy (is_home kind) (clocks_at clocks b) (board_at m b).freq (board_at m b).slots until stops (part_on m clocks s b)
one_is Moves m clocks b until stops s h small lines limit long out stop =
    let end = h.end in
    record {
      is = moved_is m clocks s b h small;
      limit = omega (arith, limit, end);
      goes_on = stop;
    }
one_is (Home axis) m clocks b until stops s h small lines limit long out stop = homed_is m clocks b until stops s h small lines limit long (out refl) stop

-- the sections
sections_by : (m : Machine) (clocks : List Clocks) (b until ready : ℕ) (all past rest : List Started) → all ≡ past ++ rest → AreLong ready past → AreStarted m clocks ready rest → b < length m.boards → AreLasting clocks b
    → ArePlannedBefore m clocks until rest → AreOutInTime m clocks b rest
    → All (λ s. IsSectionBy s.homes (clocks_at clocks b) (board_at m b).freq (board_at m b).slots until (stops_of all) s.section) (runs_on m clocks rest b)
sections_by m clocks b until ready all past [] cut long h small lines limits outs =
    All-nil (λ (s : RunSection). IsSectionBy s.homes (clocks_at clocks b) (board_at m b).freq (board_at m b).slots until (stops_of all) s.section)
sections_by m clocks b until ready all past (s ∷ rest) cut long h small lines limits outs =
    let P : RunSection → Type 0 = λ x. IsSectionBy x.homes (clocks_at clocks b) (board_at m b).freq (board_at m b).slots until (stops_of all) x.section in
    let Stops : List Started → Type 0 = λ x. StopsBy (is_home s.section.kind) (stops_of x) s.start s.end in
    let start = h.0.start in
    let late = planned_late s.section.kind m clocks s h.0.planned in
    let stop = subst Stops (sym cut) (stops_by m clocks (is_home s.section.kind) ready past s rest refl long (omega (arith, start)) h.1) in
    All-cons P (run_on m clocks b s) (runs_on m clocks rest b) (one_is s.section.kind m clocks b until (stops_of all) s h.0.planned small lines limits.0 limits.1 outs.0 stop)
    (sections_by m clocks b until (s.end + 260) all (past ++ s ∷ []) rest (cut ∙ sym (append_assoc past (s ∷ []) rest)) (long_more ready past s (s.end + 260) long (omega (arith, start, late)) (omega (arith, late))) h.1 small lines limits.2 outs.1)

pub in_turn : (m : Machine) (clocks : List Clocks) (b e from : ℕ) (begun : List Started) → e + 260 ≤ from → AreStarted m clocks from begun → AreInTurn e (runs_on m clocks begun b)
in_turn m clocks b e from [] far h = tt
in_turn m clocks b e from (s ∷ begun) far h =
    let start = h.0.start in
    (omega (arith, start, far), planned_late s.section.kind m clocks s h.0.planned, in_turn m clocks b s.end (s.end + 260) begun (omega arith) h.1)

-- what is queued
pub run_units : (m : Machine) (clocks : List Clocks) (begun : List Started) (b k : ℕ) → units_at b k (map (λ s. s.boards) begun) ≡ flat_map (λ s. batch_at k s.section.releases) (runs_on m clocks begun b)
run_units m clocks begun b k =
    flat_map-map (λ (x : List (List Release)). batch_at k (slice_index_or x b [])) (λ (s : Started). s.boards) begun ∙ sym (flat_map-map (λ (x : RunSection). batch_at k x.section.releases) (run_on m clocks b) begun)

orders_in : (m : Machine) (clocks : List Clocks) (begun : List Started) (b k : ℕ) (os : List Orders) → AreGiven b k (map (λ s. s.boards) begun) os → TookControlsIn (clocks_at clocks b) (runs_on m clocks begun b) k os
    → AreOrdersIn (clocks_at clocks b) (runs_on m clocks begun b) k os
orders_in m clocks begun b k [] g controls = tt
orders_in m clocks begun b k (o ∷ os) g controls = (controls.0, g.0 ∙ run_units m clocks begun b k, orders_in m clocks begun b (k + 1) os g.1 controls.1)

pub home_orders : (m : Machine) (ts : List MotionTurn) (p : Plans m (length m.boards) ts) (t : Told) (b : ℕ) (os : List Orders) → b < length m.boards → length os ≤ length p.made → TookBatches b ts os
    → TookControlsIn (clocks_at t.clocks b) (runs_on m t.clocks p.seen.begun b) 0 os → AreOrdersIn (clocks_at t.clocks b) (runs_on m t.clocks p.seen.begun b) 0 os
home_orders m ts p t b os small long took controls =
    let At : List MotionTurn → Type 0 = λ x. map (λ (o : Orders). o.batch) os ++ took.0 ≡ gather (λ (y : MotionTurn). item b y.batches) x in
    orders_in m t.clocks p.seen.begun b 0 os (units_given m p.seen.text p.seen.begun b 0 p.made p.bare os took.0 small p.put long (subst At p.are took.1)) controls

pub home_sections : (m : Machine) (ts : List MotionTurn) (p : Plans m (length m.boards) ts) (t : Told) (b until : ℕ) → b < length m.boards → p.seen.told ≡ Some t → ArePlannedBefore m t.clocks until p.seen.begun
    → AreOutInTime m t.clocks b p.seen.begun
    → All (λ s. IsSectionBy s.homes (clocks_at t.clocks b) (board_at m b).freq (board_at m b).slots until (stops_of p.seen.begun) s.section) (runs_on m t.clocks p.seen.begun b)
home_sections m ts p t b until small told limits outs =
    sections_by m t.clocks b until t.first p.seen.begun [] p.seen.begun refl tt (started_in m ts p t told) small (lines_last m (length m.boards) ts p t b told small) limits outs

pub home_run : (m : Machine) (ts : List MotionTurn) (p : Plans m (length m.boards) ts) (t : Told) (b ready : ℕ) (own : ℕ → ℕ) (os : List Orders) → b < length m.boards → p.seen.told ≡ Some t → length os ≤ length p.made
    → TookBatches b ts os → TookControlsIn (clocks_at t.clocks b) (runs_on m t.clocks p.seen.begun b) 0 os → (k : AreTracked own (clocks_at t.clocks b) ready) → ready + 260 ≤ t.first
    → ArePlannedBefore m t.clocks k.until p.seen.begun → AreOutInTime m t.clocks b p.seen.begun → ((oid : ℕ) → AreSet oid (runs_on m t.clocks p.seen.begun b) 0 os)
    → (ready ≤ length os → (oid : ℕ) → HasUnits oid (runs_on m t.clocks p.seen.begun b) ⊎ SetsAny oid os → MakesIn oid (take ready os))
    → IsHomeRun own (clocks_at t.clocks b) (board_at m b).freq (board_at m b).slots ready (stops_of p.seen.begun) (runs_on m t.clocks p.seen.begun b) os
home_run m ts p t b ready own os small told long took controls k early limits outs set made =
    let begun = started_in m ts p t told in
    record {
      tracked = k;
      sections = home_sections m ts p t b k.until small told limits outs;
      row = in_turn m t.clocks b ready t.first p.seen.begun early begun;
      orders = home_orders m ts p t b os small long took controls;
      set = set;
      made = made;
      ahead = λ turn. stops_ahead m t.clocks t.first turn p.seen.begun begun;
    }
