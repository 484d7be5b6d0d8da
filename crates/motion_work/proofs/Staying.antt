-- A section that homes stays one where a board takes up a line that holds from behind its end on.
use Rattle.std.proofs.Common.{◌≡◌, ℕ, zero, suc, ◌+◌, ◌*◌, ◌<◌, List, [], ◌∷◌, ◌++◌, All, length, map, get_or, set, ap, sym, ◌∙◌, refl, subst, arith, inl, inr, true}
use Rattle.std.proofs.lemmas.Bool.Decides.{leb_tells}
use Rattle.plan_types.specs.declared.machine.Machine.{Machine}
use Rattle.plan_types.specs.declared.plan.Held.{Held}
use Rattle.plan_types.specs.declared.plan.Line.{Line}
use Rattle.plan_types.specs.Clock.{turn_ns}
use Rattle.plan_types.specs.Lines.{Clocks}
use Rattle.plan_types.specs.Machines.{board_at}
use Rattle.plan_types.specs.Plan.{max_error}
use Rattle.plan_types.specs.Sections.{clocks_at}
use Rattle.clock_line.specs.Kept.{added}
use Rattle.section_units.specs.Plans.{AreOnBoardsBy}
use Rattle.step_feed.specs.Pacing.{Release}
use Rattle.section_feed.specs.Lined.{line_at}
use Rattle.section_feed.proofs.Staying.{tick-line}
use Rattle.motion_work.specs.Homes.{last_step}
use Rattle.motion_work.specs.Known.{AreHeldBy, held_by, lines_by}
use Rattle.motion_work.specs.Seen.{IsHomed, Started}

-- a line that holds later is not among those that hold by a turn
held_added : (low : ℕ) (held : List Held) (h : Held) → low * turn_ns < h.from → held_by low (held ++ h ∷ []) ≡ held_by low held
held_added low [] h late = elim (leb_tells (suc (low * turn_ns)) h.from) [ inl p ↦ rw p.0 refl | inr p ↦ absurd (omega (arith, p.1, late)) ]
held_added low (g ∷ held) h late = elim (leb_tells (suc (low * turn_ns)) g.from) [ inl p ↦ rw p.0 (held_added low held h late) | inr p ↦ rw p.0 (ap (λ gs. g ∷ gs) (held_added low held h late)) ]

map_set : {A B : Type 0} (f : A → B) (xs : List A) (k : ℕ) (x d : A) → f x ≡ f (get_or xs k d) → k < length xs → map f (set xs k x) ≡ map f xs
map_set f [] k x d same inside = refl
map_set f (y ∷ xs) zero x d same inside = ap (λ z. z ∷ map f xs) same
map_set f (y ∷ xs) (suc k) x d same inside = ap (λ zs. f y ∷ zs) (map_set f xs k x d same (omega (arith, inside)))

-- of the lines of all boards those that hold by a turn stay where a board takes up one that holds from a later turn on
pub lines_by_added : (clocks : List Clocks) (b low turn : ℕ) (line : Line) → b < length clocks → low < turn → map (lines_by low) (line_at clocks b turn line) ≡ map (lines_by low) clocks
lines_by_added clocks b low turn line inside late =
    let own = clocks_at clocks b in
    map_set (lines_by low) clocks b (added own (turn * turn_ns) line) _ (ap (λ held. record { first = own.first; held = held }) (held_added low own.held _ (omega (arith, late)))) inside

-- of those that all hold by a turn these are all
pub held_all : (turn : ℕ) (held : List Held) → AreHeldBy turn held → held_by turn held ≡ held
held_all turn [] all = refl
held_all turn (h ∷ held) all = let by = all.0 in elim (leb_tells (suc (turn * turn_ns)) h.from) [ inl p ↦ absurd (omega (arith, p.1, by)) | inr p ↦ rw p.0 (ap (λ hs. h ∷ hs) (held_all turn held all.1)) ]

-- they are all lines where all hold by then
pub lines_by_all : (clocks : List Clocks) (turn : ℕ) → ((b : ℕ) → b < length clocks → AreHeldBy turn (clocks_at clocks b).held) → map (lines_by turn) clocks ≡ clocks
lines_by_all [] turn all = refl
lines_by_all (c ∷ clocks) turn all =
    let one : lines_by turn c ≡ c = ap (λ held. record { first = c.first; held = held }) (held_all turn c.held (all 0 (omega arith))) in
    ap (λ x. x ∷ map (lines_by turn) clocks) one ∙ ap (λ xs. c ∷ xs) (lines_by_all clocks turn (λ b l. all (suc b) (omega (arith, l))))

pub homed_stays : (m : Machine) (clocks : List Clocks) (s : Started) (b turn : ℕ) (line : Line) → b < length clocks → s.end + 276 < turn → IsHomed m clocks s → IsHomed m (line_at clocks b turn line) s
homed_stays m clocks s b turn line inside later h =
    let new = line_at clocks b turn line in
    let order = h.late in
    let begun = lines_by_added clocks b (s.start + 17) turn line inside (omega (arith, order, later)) in
    let ended = lines_by_added clocks b (s.end + 276) turn line inside later in
    record {
      late = h.late;
      last = h.last ∙ ap (λ (cs : List Clocks). last_step m cs s.section.moves s.start) (sym begun);
      soon = h.soon;
      moving = h.moving;
      planned = h.planned;
      are = subst (λ (cs : List Clocks). AreOnBoardsBy true m cs s.section.moves s.start h.planned) (sym ended) h.are;
      boards = h.boards;
      near = λ known k l. subst (λ (n : ℕ). All (λ (r : Release). r.unit.last + max_error (board_at m k).freq < n) (get_or s.boards k [])) (sym (tick-line clocks b k turn ((s.end + 270) * turn_ns) line inside (omega (arith, later)))) (h.near known k l);
    }
