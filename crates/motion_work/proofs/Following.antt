-- What a section that homes has released follows its plan by all lines of the boards.
use Rattle.std.proofs.Common.{◌≡◌, ℕ, suc, ◌+◌, ◌*◌, ◌<◌, ◌≤◌, true, List, [], ◌∷◌, ◌++◌, All, length, map, get_or, ap, sym, ◌∙◌, refl, subst, arith, inl, inr}
use Rattle.std.specs.Prelude.{◌⊎◌}
use Rattle.std.proofs.lemmas.Bool.Decides.{leb_tells}
use Rattle.std.proofs.lemmas.List.{get_or-map}
use Rattle.plan_types.specs.declared.machine.Machine.{Machine}
use Rattle.plan_types.specs.declared.plan.Held.{Held}
use Rattle.plan_types.specs.declared.plan.Line.{Line}
use Rattle.plan_types.specs.Clock.{turn_ns}
use Rattle.plan_types.specs.Lines.{AreHeld, Clocks, last_from, lines_tick}
use Rattle.plan_types.specs.Machines.{board_at}
use Rattle.plan_types.specs.Plan.{max_error}
use Rattle.plan_types.specs.Sections.{clocks_at}
use Rattle.clock_line.specs.Kept.{AreKept}
use Rattle.clock_line.proofs.Turns.{last_from-above, tick_over-mono}
use Rattle.section_units.specs.Plans.{IsFrontOnBy, section_on}
use Rattle.section_units.specs.Sections.{AreBefore}
use Rattle.section_units.proofs.Fronting.{section_front, section_whole}
use Rattle.step_feed.specs.Pacing.{Release}
use Rattle.section_feed.specs.Boards.{most_ns}
use Rattle.section_feed.specs.Fewer.{AreFirstLines, HoldBehind}
use Rattle.section_feed.proofs.Fewer.{front-agrees, front-here}
use Rattle.motion_work.specs.Homes.{before_turn, no_end}
use Rattle.motion_work.specs.Known.{AreHeldBy, held_by, lines_by}
use Rattle.motion_work.specs.Seen.{IsHomed, Started}
use Rattle.motion_work.proofs.Feeding.{at_before}
use Rattle.motion_work.proofs.Sending.{cut_before, cut_front}
use Rattle.motion_work.proofs.Staying.{held_all}

-- of lines that hold one after the other none holds by a turn where one before them holds later
none_held : (first line : Line) (from most turn : ℕ) (held : List Held) → AreHeld first line from most held → turn * turn_ns < from → (held_by turn held ≡ []) × HoldBehind turn held
none_held first line from most turn [] are late = (refl, tt)
none_held first line from most turn (h ∷ held) are late =
    let after = are.0 in
    let rest = none_held first h.line h.from h.most turn held are.4 (omega (arith, after, late)) in
    elim (leb_tells (suc (turn * turn_ns)) h.from) [ inl p ↦ rw p.0 (rest.0, (omega (arith, after, late), rest.1)) | inr p ↦ absurd (omega (arith, p.1, after, late)) ]

-- so those that hold by it are the first ones
first_held : (first line : Line) (from most turn : ℕ) (held : List Held) → AreHeld first line from most held → (rest : List Held) × (held ≡ held_by turn held ++ rest) × HoldBehind turn rest
first_held first line from most turn [] are = ([], refl, tt)
first_held first line from most turn (h ∷ held) are = elim (leb_tells (suc (turn * turn_ns)) h.from) [
  | inl p ↦ (let late = p.1 in let none = none_held first h.line h.from h.most turn held are.4 (omega (arith, late)) in rw p.0 (h ∷ held, ap (λ hs. hs ++ h ∷ held) (sym none.0), (omega (arith, late), none.1)))
  | inr p ↦ (let f = first_held first h.line h.from h.most turn held are.4 in rw p.0 (f.0, ap (λ hs. h ∷ hs) f.1, f.2))
]

first_by : (turn : ℕ) (clocks : Clocks) → AreKept clocks → AreFirstLines (lines_by turn clocks) clocks turn
first_by turn clocks kept = let f = first_held clocks.first clocks.first 0 0 turn clocks.held kept.held in record { first = refl; rest = f.0; are = f.1; behind = f.2 }

-- and all of them where the last one holds by it
all_held : (first line : Line) (from most turn : ℕ) (held : List Held) → AreHeld first line from most held → last_from from held ≤ turn * turn_ns → AreHeldBy turn held
all_held first line from most turn [] are soon = tt
all_held first line from most turn (h ∷ held) are soon = (let up = last_from-above first h.line h.from h.most held are.4 in omega (arith, up, soon), all_held first h.line h.from h.most turn held are.4 soon)

-- what was released is released before the end, where it is known
pub homed_before : (m : Machine) (clocks : List Clocks) (s : Started) (b : ℕ) → b < length m.boards → IsHomed m clocks s → (s.end ≡ no_end) ⊎ AreBefore s.end (get_or s.boards b [])
homed_before m clocks s b there h = elim h.boards as (λ _. (s.end ≡ no_end) ⊎ AreBefore s.end (get_or s.boards b [])) [
  | inl w ↦ inl w.0
  | inr w ↦ inr (subst (AreBefore s.end) (sym (ap (λ x. get_or x b []) w.1 ∙ at_before s.end h.planned b)) (cut_before s.end (get_or h.planned b [])))
]

-- these are the first units of the plan
pub homed_front : (m : Machine) (clocks : List Clocks) (s : Started) (b : ℕ) → AreKept (clocks_at clocks b) → last_from 0 (clocks_at clocks b).held < most_ns → b < length clocks → b < length m.boards → IsHomed m clocks s → IsFrontOnBy true m clocks s.section.moves s.start b (get_or s.boards b [])
homed_front m clocks s b kept soon inside there h =
    let turn = s.end + 276 in
    let moves = s.section.moves in
    let own = clocks_at clocks b in
    let known = map (lines_by turn) clocks in
    let at : clocks_at known b ≡ lines_by turn own = get_or-map (lines_by turn) clocks b _ _ inside in
    let rs = get_or h.planned b [] in
    let whole = section_whole true (clocks_at known b) (board_at m b).freq (board_at m b).slots (section_on m known moves s.start b rs) (h.are.each b there) in
    elim h.boards as (λ _. IsFrontOnBy true m clocks moves s.start b (get_or s.boards b [])) [
      | inl w ↦
          let never = w.0 in
          let held = held_all turn own.held (all_held own.first own.first 0 0 turn own.held kept.held (omega (arith, never, soon))) in
          let same : clocks_at known b ≡ own = at ∙ ap (λ hs. record { first = own.first; held = hs }) held in
          subst (λ x. IsFrontOnBy true m clocks moves s.start b (get_or x b [])) (sym w.1) (front-here true m known clocks moves s.start b rs same whole)
      | inr w ↦
          let ended = w.0 in
          let order = h.late in
          let cut = before_turn s.end rs in
          let is : get_or s.boards b [] ≡ cut = ap (λ x. get_or x b []) w.1 ∙ at_before s.end h.planned b in
          let split = cut_front (clocks_at known b) (board_at m b).slots s.end whole.from [] rs whole.paced in
          let front : IsFrontOnBy true m known moves s.start b cut = section_front true (clocks_at known b) (board_at m b).freq (board_at m b).slots s.start _ _ cut split.0 (subst (λ x. IsFrontOnBy true m known moves s.start b x) split.1 whole) in
          let up = tick_over-mono own.first 0 own.held ((s.end + 270) * turn_ns) (turn * turn_ns) (omega arith) in
          let near = h.near ended b there in
          let ends : All (λ r. r.unit.last + max_error (board_at m b).freq < lines_tick own (turn * turn_ns)) cut = subst (All (λ (r : Release). r.unit.last + max_error (board_at m b).freq < lines_tick own (turn * turn_ns))) is (λ k d l. (let n = near k d l in omega (arith, n, up))) in
          subst (IsFrontOnBy true m clocks moves s.start b) (sym is) (front-agrees true m known clocks moves s.start turn b cut kept (subst (λ (c : Clocks). AreFirstLines c own turn) (sym at) (first_by turn own kept)) (omega (arith, order)) ends front)
    ]
