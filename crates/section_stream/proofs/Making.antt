-- The units of all pieces are those of a section.
use Rattle.std.proofs.Common.{◌≡◌, ℕ, Bool, true, false, Option, Some, None, List, [], ◌∷◌, ◌++◌, drop, refl, ap, sym, ◌∙◌, append_assoc, subst}
use Rattle.std.proofs.lemmas.List.{append-nil}
use Rattle.step_ticks.specs.Streaming.{last_step_tick}
use Rattle.plan_types.specs.Lines.{Clocks}
use Rattle.plan_types.specs.Plan.{AreSpaced, max_error}
use Rattle.plan_types.specs.declared.plan.Planned.{Planned}
use Rattle.step_pack.specs.declared.Placed.{Placed}
use Rattle.msg_code.specs.declared.unit.Unit.{Unit as StepUnit}
use Rattle.section_units.specs.Fronts.{AreFirstOfBy}
use Rattle.section_units.specs.Packed.{ArePackedBy, dir_behind, dir_told, end_of_plan}
use Rattle.section_units.specs.Sections.{dir_after, set_to}
use Rattle.section_units.specs.Units.{as_sent, first_up, sent, set_in, told_direction, unit_of, units_on, up_after}
use Rattle.section_units.proofs.Fronting.{first_front, first_longer, first_packed}
use Rattle.section_units.proofs.Packing.{next_packed, none_packed, told_is}
use Rattle.section_stream.specs.Pieces.{ArePieces, Piece, placed_in, steps_in}
use Rattle.section_stream.proofs.Packed.{AreOn, pieces-on, units-more}
use Rattle.section_stream.proofs.Stretches.{last-append, spaced-split}

pub end-is : (base : ℕ) (steps : List Planned) → end_of_plan base steps ≡ last_step_tick base steps
end-is base [] = refl
end-is base (s ∷ steps) = end-is s.tick steps

behind-append : (b : Bool) (xs : List StepUnit) (u : StepUnit) → dir_behind b (xs ++ u ∷ []) ≡ dir_after (dir_behind b xs) u.up
behind-append b [] u = refl
behind-append b (x ∷ xs) u = behind-append (dir_after b x.up) xs u

-- the direction behind one more unit
one-told : (us : List StepUnit) (u : StepUnit) (up : Option Bool) (now : Bool) → dir_told us ≡ up → u.up ≡ told_direction up now → dir_told (us ++ u ∷ []) ≡ Some now
one-told [] u up now is own = ap (λ d. Some (dir_after false d)) (own ∙ ap (λ o. told_direction o now) (sym is))
one-told (v ∷ vs) u up now is own =
    let d = dir_behind false (v ∷ vs) in
    ap (λ b. Some b) (behind-append false (v ∷ vs) u ∙ ap (dir_after d) (own ∙ ap (λ o. told_direction o now) (sym is)) ∙ told_is d now)

units-told : (clocks : Clocks) (oid : ℕ) (reset : Option ℕ) (us : List StepUnit) (up : Option Bool) (steps : List Planned) (placed : List Placed) → dir_told us ≡ up → dir_told (us ++ units_on clocks oid reset up steps placed) ≡ up_after up steps placed
units-told clocks oid reset us up steps [] is = ap dir_told (append-nil us) ∙ is
units-told clocks oid reset us up steps (p ∷ placed) is =
    let u = unit_of clocks oid p (told_direction up (first_up steps)) (set_in up reset) in
    let rest = units_on clocks oid reset (Some (first_up steps)) (drop p.triple.count steps) placed in
    ap dir_told (sym (append_assoc us (u ∷ []) rest)) ∙ units-told clocks oid reset (us ++ u ∷ []) (Some (first_up steps)) (drop p.triple.count steps) placed (one-told us u up (first_up steps) is refl)

-- the units of pieces behind those of a plan so far
pieces-packed : (homing : Bool) (clocks : Clocks) (freq oid base before : ℕ) (pieces : List Piece) (plan : List Planned) (us : List StepUnit) (up : Option Bool) → ArePackedBy homing clocks freq oid base plan us → dir_told us ≡ up → end_of_plan base plan ≡ before → ArePieces (max_error freq) before pieces → AreSpaced before (steps_in pieces)
    → ArePackedBy homing clocks freq oid base (plan ++ steps_in pieces) (us ++ units_on clocks oid (set_to homing base) up (steps_in pieces) (placed_in pieces))
pieces-packed homing clocks freq oid base before [] plan us up packed is ends pieces spaced = subst (λ p. ArePackedBy homing clocks freq oid base p (us ++ [])) (sym (append-nil plan)) (subst (λ u. ArePackedBy homing clocks freq oid base plan u) (sym (append-nil us)) packed)
pieces-packed homing clocks freq oid base before (p ∷ ps) plan us up packed is ends pieces spaced =
    let split = spaced-split before p.steps (steps_in ps) spaced in
    let here = units_on clocks oid (set_to homing base) up p.steps p.placed in
    let one : ArePackedBy homing clocks freq oid base (plan ++ p.steps) (us ++ units_on clocks oid (set_to homing base) (dir_told us) p.steps p.placed) =
    next_packed homing clocks freq oid base plan p.steps us p.placed packed (rw ends split.0) (rw ends pieces.0) pieces.1 in
    let two : ArePackedBy homing clocks freq oid base (plan ++ p.steps) (us ++ here) = subst (λ o. ArePackedBy homing clocks freq oid base (plan ++ p.steps) (us ++ units_on clocks oid (set_to homing base) o p.steps p.placed)) is one in
    let end : end_of_plan base (plan ++ p.steps) ≡ last_step_tick before p.steps = end-is base (plan ++ p.steps) ∙ last-append base plan p.steps ∙ ap (λ b. last_step_tick b p.steps) (sym (end-is base plan) ∙ ends) in
    let rest = pieces-packed homing clocks freq oid base (last_step_tick before p.steps) ps (plan ++ p.steps) (us ++ here) (up_after up p.steps p.placed) two (units-told clocks oid (set_to homing base) us up p.steps p.placed is) end pieces.2 split.1 in
    let on = pieces-on (max_error freq) before (p ∷ []) (pieces.0, pieces.1, tt) in
    let onto : AreOn p.placed p.steps = subst (λ xs. AreOn p.placed xs) (append-nil p.steps) (subst (λ xs. AreOn xs (p.steps ++ [])) (append-nil p.placed) on) in
    let all : units_on clocks oid (set_to homing base) up (p.steps ++ steps_in ps) (p.placed ++ placed_in ps) ≡ here ++ units_on clocks oid (set_to homing base) (up_after up p.steps p.placed) (steps_in ps) (placed_in ps) = units-more clocks oid (set_to homing base) up p.placed (placed_in ps) p.steps (steps_in ps) onto in
    subst (λ u. ArePackedBy homing clocks freq oid base (plan ++ (p.steps ++ steps_in ps)) u) (append_assoc us here _ ∙ ap (λ u. us ++ u) (sym all)) (subst (λ pl. ArePackedBy homing clocks freq oid base pl ((us ++ here) ++ units_on clocks oid (set_to homing base) (up_after up p.steps p.placed) (steps_in ps) (placed_in ps))) (append_assoc plan p.steps (steps_in ps)) rest)

pub pieces-make : (homing : Bool) (clocks : Clocks) (freq oid base : ℕ) (pieces : List Piece) → ArePieces (max_error freq) base pieces → AreSpaced base (steps_in pieces) → ArePackedBy homing clocks freq oid base (steps_in pieces) (units_on clocks oid (set_to homing base) None (steps_in pieces) (placed_in pieces))
pieces-make homing clocks freq oid base pieces are spaced = pieces-packed homing clocks freq oid base base pieces [] [] None (none_packed homing clocks freq oid base) refl refl are spaced

-- the units that a stepper has given, where none waits, of all its steps
pub made-whole : (homing : Bool) (clocks : Clocks) (oid freq base : ℕ) (reset : Option ℕ) (e : ℕ) (all plan : List Planned) (pieces : List Piece) (given waiting : List StepUnit) → reset ≡ set_to homing base → e ≡ max_error freq → AreSpaced base all → ArePieces e base pieces → steps_in pieces ≡ all → all ≡ plan → waiting ≡ []
    → given ++ waiting ≡ units_on clocks oid reset None (steps_in pieces) (placed_in pieces) → ArePackedBy homing clocks freq oid base plan given
made-whole homing clocks oid freq base reset e all plan pieces given waiting reset_is early spaced are steps_are plan_is none units_are =
    let one : ArePieces (max_error freq) base pieces = subst (λ x. ArePieces x base pieces) early are in
    let two : AreSpaced base (steps_in pieces) = subst (AreSpaced base) (sym steps_are) spaced in
    let made = pieces-make homing clocks freq oid base pieces one two in
    let own : units_on clocks oid (set_to homing base) None (steps_in pieces) (placed_in pieces) ≡ given = ap (λ r. units_on clocks oid r None (steps_in pieces) (placed_in pieces)) (sym reset_is) ∙ sym units_are ∙ ap (λ w. given ++ w) none ∙ append-nil given in
    subst (λ u. ArePackedBy homing clocks freq oid base plan u) own (subst (λ p. ArePackedBy homing clocks freq oid base p (units_on clocks oid (set_to homing base) None (steps_in pieces) (placed_in pieces))) (steps_are ∙ plan_is) made)

-- the units that a stepper has given are the first ones of a plan that begins with its steps
pub made-first : (homing : Bool) (clocks : Clocks) (oid freq base : ℕ) (reset : Option ℕ) (e : ℕ) (pushed held rest plan : List Planned) (pieces : List Piece) (given waiting : List StepUnit) → reset ≡ set_to homing base → e ≡ max_error freq → AreSpaced base pushed → ArePieces e base pieces → pushed ≡ steps_in pieces ++ held → plan ≡ pushed ++ rest
    → given ++ waiting ≡ units_on clocks oid reset None (steps_in pieces) (placed_in pieces) → AreFirstOfBy homing clocks freq oid base plan given
made-first homing clocks oid freq base reset e pushed held rest plan pieces given waiting reset_is early spaced are split plan_is units_are =
    let one : ArePieces (max_error freq) base pieces = subst (λ x. ArePieces x base pieces) early are in
    let two : AreSpaced base (steps_in pieces) = (spaced-split base (steps_in pieces) held (subst (AreSpaced base) split spaced)).0 in
    let made = first_packed homing clocks freq oid base (steps_in pieces) (units_on clocks oid (set_to homing base) None (steps_in pieces) (placed_in pieces)) (pieces-make homing clocks freq oid base pieces one two) in
    let own : units_on clocks oid (set_to homing base) None (steps_in pieces) (placed_in pieces) ≡ given ++ waiting = ap (λ r. units_on clocks oid r None (steps_in pieces) (placed_in pieces)) (sym reset_is) ∙ sym units_are in
    let all : AreFirstOfBy homing clocks freq oid base (steps_in pieces) (given ++ waiting) = subst (λ u. AreFirstOfBy homing clocks freq oid base (steps_in pieces) u) own made in
    let long = first_longer homing clocks freq oid base (steps_in pieces) (held ++ rest) given (first_front homing clocks freq oid base (steps_in pieces) given waiting all) in
    let is : steps_in pieces ++ (held ++ rest) ≡ plan = sym (append_assoc (steps_in pieces) held rest) ∙ ap (λ p. p ++ rest) (sym split) ∙ sym plan_is in
    subst (λ p. AreFirstOfBy homing clocks freq oid base p given) is long

pub sent-append : (inverted : Bool) (xs ys : List Planned) → as_sent inverted (xs ++ ys) ≡ as_sent inverted xs ++ as_sent inverted ys
sent-append inverted [] ys = refl
sent-append inverted (x ∷ xs) ys = ap (λ zs. record { tick = x.tick; up = sent inverted x.up } ∷ zs) (sent-append inverted xs ys)
