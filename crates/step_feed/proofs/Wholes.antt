-- One pacing, streams against it, and lines that are added.
use Rattle.std.proofs.Common.{◌≡◌, ℕ, ◌-◌, ◌*◌, ◌<◌, ◌≤◌, List, [], ◌∷◌, ◌++◌, length, get_or, drop, All, false, cond, arith, ap, sym, subst, ◌∙◌, refl, inl, inr, append-nil, append_assoc}
use Rattle.std.specs.Prelude.{nat_eq, nat_le, nat_lt, max}
use Rattle.std.proofs.lemmas.Bool.{cases_lt, lt-leb, ne_eqb}
use Rattle.plan_types.specs.Clock.{turn_ns, tick}
use Rattle.plan_types.specs.declared.plan.Held.{Held}
use Rattle.plan_types.specs.declared.plan.Line.{Line}
use Rattle.plan_types.specs.Lines.{Clocks, lines_tick, tick_over}
use Rattle.clock_line.specs.Kept.{AreKept}
use Rattle.step_feed.specs.Units.{StepUnit}
use Rattle.step_feed.specs.Pacing.{ArePaced, HasRoom, IsReleased, Release, batch_at, one_pending, pending, units_of}
use Rattle.step_feed.specs.Rings.{made_before, one_from}
use Rattle.step_feed.specs.Fed.{IsFed, IsNoSooner, releases_behind, last_release}
use Rattle.step_feed.specs.Streams.{AreLater, Extends}
use Rattle.step_feed.specs.declared.ring.Ring.{Ring}
use Rattle.step_feed.proofs.Feds.{last-from}
use Rattle.step_feed.proofs.Rings.{one-same}

same-turn : (clocks : Clocks) (slots from : ℕ) (before : List Release) (r s : Release) → IsReleased clocks slots from before r → IsReleased clocks slots from before s → r.unit ≡ s.unit → r.turn ≡ s.turn
same-turn clocks slots from before r s a b e =
    let down = a.first s.turn b.after (subst (λ u. HasRoom clocks slots before u s.turn) (sym e) b.room) in
    let up = b.first r.turn a.after (subst (λ u. HasRoom clocks slots before u r.turn) e a.room) in
    omega arith

same-release : (clocks : Clocks) (slots from : ℕ) (before : List Release) (r s : Release) → IsReleased clocks slots from before r → IsReleased clocks slots from before s → r.unit ≡ s.unit → s ≡ r
same-release clocks slots from before r s a b e =
    let t = same-turn clocks slots from before r s a b e in
    sym (ap (λ (u : StepUnit). record { unit = u; turn = r.turn }) e ∙ ap (λ (k : ℕ). record { unit = s.unit; turn = k }) t)

-- of a pacing of units, a pacing of the first ones is the front
pub record HasFront (clocks : Clocks) (slots from : ℕ) (before rs all : List Release) (us : List StepUnit) : Type 0 where
  pub rest : List Release
  pub joined : all ≡ rs ++ rest
  pub paced : ArePaced clocks slots (last_release from rs) (releases_behind before rs) rest
  pub units : units_of rest ≡ us

has-front : (clocks : Clocks) (slots from : ℕ) (before rs all : List Release) (us : List StepUnit) → ArePaced clocks slots from before rs → ArePaced clocks slots from before all → units_of all ≡ units_of rs ++ us → HasFront clocks slots from before rs all us
has-front clocks slots from before [] all us paced whole e = record { rest = all; joined = refl; paced = whole; units = e }
has-front clocks slots from before (r ∷ rs) [] us paced whole e = absurd (let l = ap length e in omega arith)
has-front clocks slots from before (r ∷ rs) (a ∷ all) us paced whole e =
    let head : a.unit ≡ r.unit = ap (λ vs. get_or vs 0 a.unit) e in
    let same : a ≡ r = same-release clocks slots from before r a paced.0 whole.0 (sym head) in
    let tail : units_of all ≡ units_of rs ++ us = ap (λ vs. drop 1 vs) e in
    let rest = has-front clocks slots r.turn (r ∷ before) rs all us paced.1 (subst (λ s. ArePaced clocks slots s.turn (s ∷ before) all) same whole.1) tail in
    record { rest = rest.rest; joined = ap (λ s. s ∷ all) same ∙ ap (λ vs. r ∷ vs) rest.joined; paced = rest.paced; units = rest.units }

no-units : (rs : List Release) → units_of rs ≡ [] → rs ≡ []
no-units [] e = refl
no-units (r ∷ rs) e = absurd (let l = ap length e in omega arith)

pub one-pacing : (clocks : Clocks) (slots from : ℕ) (one two : List Release) → ArePaced clocks slots from [] one → ArePaced clocks slots from [] two → units_of one ≡ units_of two → one ≡ two
one-pacing clocks slots from one two a b e =
    let f = has-front clocks slots from [] one two [] a b (sym e ∙ sym (append-nil (units_of one))) in
    sym (f.joined ∙ ap (λ rs. one ++ rs) (no-units f.rest f.units) ∙ append-nil one)

batch-append : (k : ℕ) (rs ss : List Release) → batch_at k ss ≡ [] → batch_at k (rs ++ ss) ≡ batch_at k rs
batch-append k [] ss none = none
batch-append k (r ∷ rs) ss none =
    let i = batch-append k rs ss none in
    ap (λ vs. cond (nat_eq r.turn k) (r.unit ∷ vs) vs) i

-- no unit of a pacing comes before its beginning
none-before : (clocks : Clocks) (slots from k : ℕ) (before rs : List Release) → ArePaced clocks slots from before rs → k < from → batch_at k rs ≡ []
none-before clocks slots from k before [] paced early = refl
none-before clocks slots from k before (r ∷ rs) paced early =
    let a = paced.0.after in
    let e = ne_eqb r.turn k (λ same. absurd (omega arith)) in
    rw e (none-before clocks slots r.turn k (r ∷ before) rs paced.1 (omega arith))

none-sooner : (clocks : Clocks) (slots from next k : ℕ) (before rs : List Release) (waiting more : List StepUnit) → ArePaced clocks slots from before rs → units_of rs ≡ waiting ++ more → IsNoSooner clocks slots next from before waiting → AreLater next more → k < next → batch_at k rs ≡ []
none-sooner clocks slots from next k before [] waiting more paced e sooner later early = refl
none-sooner clocks slots from next k before (r ∷ rs) (w ∷ waiting) more paced e sooner later early =
    let head : r.unit ≡ w = ap (λ vs. get_or vs 0 r.unit) e in
    let s = sooner r.turn paced.0.after (subst (λ u. HasRoom clocks slots before u r.turn) head paced.0.room) in
    none-before clocks slots r.turn k before (r ∷ rs) (record { after = omega arith; room = paced.0.room; first = λ j a room. paced.0.first j (let l = paced.0.after in omega arith) room }, paced.1) (omega arith)
none-sooner clocks slots from next k before (r ∷ rs) [] [] paced e sooner later early = absurd (let l = ap length e in omega arith)
none-sooner clocks slots from next k before (r ∷ rs) [] (m ∷ more) paced e sooner later early =
    let head : r.unit.due ≡ m.due = ap (λ vs. (get_or vs 0 r.unit).due) e in
    let d = paced.0.room.due in
    let l = later.0 in
    none-before clocks slots r.turn k before (r ∷ rs) (record { after = omega arith; room = paced.0.room; first = λ j a room. paced.0.first j (let l = paced.0.after in omega arith) room }, paced.1) (omega arith)

pub as-whole : (clocks : Clocks) (slots next : ℕ) (rings : List Ring) (waiting : List StepUnit) (from : ℕ) (pushed more : List StepUnit) (released all : List Release) → IsFed clocks slots next 0 rings waiting from pushed released → AreLater next more → ArePaced clocks slots from [] all → units_of all ≡ pushed ++ more → (k : ℕ) → k < next → batch_at k released ≡ batch_at k all
as-whole clocks slots next rings waiting from pushed more released all fed later paced e = λ k early.
    let units : units_of all ≡ units_of released ++ (waiting ++ more) = e ∙ ap (λ us. us ++ more) fed.pushed_is ∙ append_assoc (units_of released) waiting more in
    let f = has-front clocks slots from [] released all (waiting ++ more) fed.paced paced units in
    let none = none-sooner clocks slots (last_release from released) next k (releases_behind [] released) f.rest waiting more f.paced f.units fed.no_sooner later early in
    sym (ap (batch_at k) f.joined ∙ batch-append k released f.rest none)

-- ticks up to a time, where lines are added that hold later
tick-same : (line : Line) (most : ℕ) (held more : List Held) (t : ℕ) → All (λ h. t < h.from) more → tick_over line most (held ++ more) t ≡ tick_over line most held t
tick-same line most [] [] t after = refl
tick-same line most [] (m ∷ more) t after =
    let l = after 0 m (omega arith) in
    let f : nat_le m.from t ≡ false = lt-leb m.from t l in
    rw f refl
tick-same line most (h ∷ held) more t after =
    ap (λ n. cond (nat_le h.from t) n (max most (tick line t))) (tick-same h.line (max most (tick line h.from)) held more t after)

lines-same : (old new : Clocks) (turn t : ℕ) → Extends old new turn → t ≤ turn * turn_ns → lines_tick new t ≡ lines_tick old t
lines-same old new turn t ext order =
    ap (λ l. tick_over l 0 new.held t) ext.first
    ∙ ap (λ hs. tick_over old.first 0 hs t) ext.held
    ∙ tick-same old.first 0 old.held ext.more t (λ i d inside. let a = ext.after i d inside in omega arith)

bound-same : (old new : Clocks) (turn k : ℕ) → Extends old new turn → k ≤ turn → made_before new k ≡ made_before old k
bound-same old new turn k ext order =
    ap (λ n. cond (nat_lt k 5) 0 n) (lines-same old new turn ((k - 4) * turn_ns) ext (omega arith))

one-kept : (old new : Clocks) (turn k e : ℕ) → AreKept old → AreKept new → Extends old new turn → k ≤ turn → one_pending new k e ≡ one_pending old k e
one-kept old new turn k e are will ext order =
    one-same new k e will ∙ ap (λ x. one_from x e) (bound-same old new turn k ext order) ∙ sym (one-same old k e are)

pending-kept : (old new : Clocks) (turn s k : ℕ) (rs : List Release) → AreKept old → AreKept new → Extends old new turn → k ≤ turn → pending new s k rs ≡ pending old s k rs
pending-kept old new turn s k [] are will ext order = refl
pending-kept old new turn s k (r ∷ rs) are will ext order =
    let o = ap (λ n. cond (nat_eq r.unit.stepper s) n 0) (one-kept old new turn k r.unit.last are will ext order) in
    let i = pending-kept old new turn s k rs are will ext order in
    omega arith

room-kept : (old new : Clocks) (slots turn k : ℕ) (before : List Release) (u : StepUnit) → AreKept old → AreKept new → Extends old new turn → k ≤ turn → HasRoom old slots before u k → HasRoom new slots before u k
room-kept old new slots turn k before u are will ext order room = record {
  due = room.due;
  bytes = room.bytes;
  steps = let p = pending-kept old new turn u.stepper k before are will ext order in let s = room.steps in omega arith;
}

room-was : (old new : Clocks) (slots turn k : ℕ) (before : List Release) (u : StepUnit) → AreKept old → AreKept new → Extends old new turn → k ≤ turn → HasRoom new slots before u k → HasRoom old slots before u k
room-was old new slots turn k before u are will ext order room = record {
  due = room.due;
  bytes = room.bytes;
  steps = let p = pending-kept old new turn u.stepper k before are will ext order in let s = room.steps in omega arith;
}

released-kept : (old new : Clocks) (slots turn from : ℕ) (before : List Release) (r : Release) → AreKept old → AreKept new → Extends old new turn → r.turn ≤ turn → IsReleased old slots from before r → IsReleased new slots from before r
released-kept old new slots turn from before r are will ext order is = record {
  after = is.after;
  room = room-kept old new slots turn r.turn before r.unit are will ext order is.room;
  first = λ k after room. elim (cases_lt turn k) [
    | inl beyond ↦ omega arith
    | inr within ↦ is.first k after (room-was old new slots turn k before r.unit are will ext within room)
  ];
}

paced-kept : (old new : Clocks) (slots turn from : ℕ) (before rs : List Release) → AreKept old → AreKept new → Extends old new turn → last_release from rs ≤ turn → ArePaced old slots from before rs → ArePaced new slots from before rs
paced-kept old new slots turn from before [] are will ext order paced = tt
paced-kept old new slots turn from before (r ∷ rs) are will ext order paced =
    let l = last-from old slots r.turn (r ∷ before) rs paced.1 in
    (released-kept old new slots turn from before r are will ext (omega arith) paced.0, paced-kept old new slots turn r.turn (r ∷ before) rs are will ext order paced.1)

sooner-kept : (old new : Clocks) (slots next from : ℕ) (before : List Release) (us : List StepUnit) → AreKept old → AreKept new → Extends old new next → IsNoSooner old slots next from before us → IsNoSooner new slots next from before us
sooner-kept old new slots next from before [] are will ext sooner = tt
sooner-kept old new slots next from before (u ∷ us) are will ext sooner = λ k after room. elim (cases_lt next k) [
  | inl beyond ↦ omega arith
  | inr within ↦ sooner k after (room-was old new slots next k before u are will ext within room)
]

pub fed-kept : (old new : Clocks) (slots next : ℕ) (rings : List Ring) (waiting : List StepUnit) (from : ℕ) (pushed : List StepUnit) (released : List Release) → AreKept old → AreKept new → Extends old new next → IsFed old slots next 0 rings waiting from pushed released → IsFed new slots next 0 rings waiting from pushed released
fed-kept old new slots next rings waiting from pushed released are will ext fed = record {
  pushed_is = fed.pushed_is;
  paced = paced-kept old new slots next from [] released are will ext fed.past fed.paced;
  past = fed.past;
  used_is = fed.used_is;
  later = fed.later;
  rings_are = let b = bound-same old new next next ext (omega arith) in record { held = λ s x d inside later. fed.rings_are.held s x d inside (omega arith); others = λ s x outside later. fed.rings_are.others s x outside (omega arith) };
  no_sooner = sooner-kept old new slots next (last_release from released) (releases_behind [] released) waiting are will ext fed.no_sooner;
}
