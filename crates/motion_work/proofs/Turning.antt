-- A turn, from what its parts give.
use Rattle.std.proofs.Common.{◌≡◌, ℕ, ◌+◌, ◌-◌, ◌*◌, ◌/◌, ◌<◌, ◌≤◌, Bool, true, false, not, List, [], ◌∷◌, ◌++◌, length, length-append, refl, ap, sym, subst, ◌∙◌, arith, inl, inr}
use Rattle.std.proofs.lemmas.Bool.Decides.{eqb_tells}
use Rattle.std.specs.Prelude.{◌&&◌, nat_eq}
use Rattle.msg_code.specs.declared.talk.NoteNews.TheVariants as news
use Rattle.plan_types.specs.declared.machine.Machine.{Machine}
use Rattle.plan_types.specs.declared.plan.Move.{Move}
use Rattle.plan_types.specs.declared.plan.SectionKind.TheVariants.{Moves, Home}
use Rattle.plan_types.specs.Clock.{turn_ns}
use Rattle.plan_types.specs.Lines.{Clocks}
use Rattle.plan_types.specs.Parts.{parts}
use Rattle.plan_types.specs.Sections.{duration, end_time, section_end}
use Rattle.plan_types.specs.Speeds.{greatest_speeds}
use Rattle.motion_work.specs.Begins.{done_news, news_items}
use Rattle.motion_work.specs.Seen.{AreBoardClocks, AreDone, AreStarted, IsOpen, IsPlanned, IsStarted, Started, ready_after}
use Rattle.motion_work.specs.Turns.{done_notes}

-- a section ends no sooner than it starts
time_on : (cruise : ℕ) (moves : List Move) (speeds : List ℕ) (begin : ℕ) → begin ≤ end_time cruise moves speeds begin
time_on cruise [] speeds begin = omega arith
time_on cruise (m ∷ ms) [] begin = omega arith
time_on cruise (m ∷ ms) (g ∷ []) begin = omega arith
time_on cruise (m ∷ ms) (g ∷ h ∷ speeds) begin =
    let later = time_on cruise ms (h ∷ speeds) (begin + duration (parts m g h cruise)) in
    omega (arith, later)

pub end_after : (m : Machine) (clocks : List Clocks) (moves : List Move) (start : ℕ) → start ≤ section_end m clocks moves start
end_after m clocks moves start =
    let time = time_on m.cruise moves (greatest_speeds moves m.scv) (start * turn_ns) in
    let turn : start ≤ end_time m.cruise moves (greatest_speeds moves m.scv) (start * turn_ns) / turn_ns = omega (arith, time) in
    omega (arith, turn)

-- a section that is planned ends no sooner than it starts
pub planned_late : (kind : Rattle.plan_types.specs.declared.plan.SectionKind.SectionKind) (m : Machine) (clocks : List Clocks) (s : Started) → IsPlanned kind m clocks s → s.start ≤ s.end
planned_late Moves m clocks s h = let end = h.end in let after = end_after m clocks s.section.moves s.start in omega (arith, end, after)
planned_late (Home axis) m clocks s h = h.late

-- sections that ended
pub done_later : (turn later : ℕ) (begun : List Started) → turn ≤ later → AreDone turn begun → AreDone later begun
done_later turn later [] le done = tt
done_later turn later (s ∷ begun) le done = (let h = done.0 in omega (arith, h, le), done_later turn later begun le done.1)

pub done_more : (turn : ℕ) (past : List Started) (s : Started) → AreDone turn past → s.end < turn → AreDone turn (past ++ s ∷ [])
done_more turn [] s done lt = (lt, tt)
done_more turn (p ∷ past) s done lt = (done.0, done_more turn past s done.1 lt)

pub ready_more : (ready : ℕ) (past : List Started) (s : Started) → ready_after ready (past ++ s ∷ []) ≡ s.end + 260
ready_more ready [] s = refl
ready_more ready (p ∷ past) s = ready_more (p.end + 260) past s

pub none_behind : (past : List Started) (s : Started) → [] ≡ past ++ s ∷ [] → ⊥
none_behind [] s e = cc
none_behind (p ∷ past) s e = cc

pub open_next : (goes : Bool) (k ready : ℕ) (begun : List Started) → IsOpen goes k begun → ((past : List Started) (s : Started) → begun ≡ past ++ s ∷ [] → ready ≡ s.end + 260) → IsOpen (goes && not (nat_eq ready (k + 260))) (k + 1) begun
open_next false k ready begun done last = done_later k (k + 1) begun (omega arith) done
open_next true k ready begun open_is last =
    let past = open_is.0 in
    let s = open_is.1 in
    let is = open_is.2 in
    let at = last past s is in
    let le = open_is.4 in
    elim (eqb_tells ready (k + 260)) [
      | inl p ↦
          let e = p.1 in
          let h : AreDone (k + 1) (past ++ s ∷ []) = done_more (k + 1) past s (done_later k (k + 1) past (omega arith) open_is.3) (omega (arith, at, e)) in
          rw p.0 (subst (AreDone (k + 1)) (sym is) h)
      | inr p ↦
          let ne = p.1 in
          rw p.0 (past, s, is, done_later k (k + 1) past (omega arith) open_is.3, omega (arith, at, le, ne), open_is.5)
    ]

-- the notes of sections that end
pub none_done : (k i : ℕ) (past : List Started) → AreDone k past → done_notes k i past ≡ []
none_done k i [] done = refl
none_done k i (s ∷ past) done =
    let lt = done.0 in
    elim (eqb_tells s.end k) [ inl p ↦ absurd (let e = p.1 in omega (arith, lt, e)) | inr p ↦ rw p.0 (none_done k (i + 1) past done.1) ]

one_done : (k i : ℕ) (past : List Started) (s : Started) → AreDone k past → s.end ≡ k → done_notes k i (past ++ s ∷ []) ≡ news.Done (i + length past) k ∷ []
one_done k i [] s done e = elim (eqb_tells s.end k) [ inl p ↦ rw p.0 (ap (λ x. news.Done x k ∷ []) (omega arith)) | inr p ↦ absurd (p.1 e) ]
one_done k i (p ∷ past) s done e =
    let lt = done.0 in
    let x : i + 1 + length past ≡ i + length (p ∷ past) = omega arith in
    elim (eqb_tells p.end k) [ inl q ↦ absurd (let is = q.1 in omega (arith, lt, is)) | inr q ↦ rw q.0 (one_done k (i + 1) past s done.1 e ∙ ap (λ y. news.Done y k ∷ []) x) ]

pub other_done : (k i : ℕ) (past : List Started) (s : Started) → AreDone k past → (s.end ≡ k → ⊥) → done_notes k i (past ++ s ∷ []) ≡ []
other_done k i [] s done ne = elim (eqb_tells s.end k) [ inl p ↦ absurd (ne p.1) | inr p ↦ rw p.0 refl ]
other_done k i (p ∷ past) s done ne =
    let lt = done.0 in
    elim (eqb_tells p.end k) [ inl q ↦ absurd (let is = q.1 in omega (arith, lt, is)) | inr q ↦ rw q.0 (other_done k (i + 1) past s done.1 ne) ]

pub done_are : (goes : Bool) (k ready place : ℕ) (begun : List Started) → IsOpen goes k begun → ((past : List Started) (s : Started) → begun ≡ past ++ s ∷ [] → ready ≡ s.end + 260) → place ≡ length begun → news_items (done_news goes ready place k) ≡ done_notes k 0 begun
done_are false k ready place begun done last is = sym (none_done k 0 begun done)
done_are true k ready place begun open_is last place_is =
    let past = open_is.0 in
    let s = open_is.1 in
    let is = open_is.2 in
    let at = last past s is in
    let long : length begun ≡ length past + 1 = ap length is ∙ length-append past (s ∷ []) in
    elim (eqb_tells ready (k + 260)) [
      | inl p ↦
          let e = p.1 in
          let number : place - 1 ≡ 0 + length past = omega (arith, place_is, long) in
          rw p.0 (ap (λ x. news.Done x k ∷ []) number ∙ sym (one_done k 0 past s open_is.3 (omega (arith, at, e))) ∙ ap (done_notes k 0) (sym is))
      | inr p ↦
          let ne = p.1 in
          rw p.0 (sym (other_done k 0 past s open_is.3 (λ x. ne (omega (arith, at, x)))) ∙ ap (done_notes k 0) (sym is))
    ]

-- sections one behind the other, and one more
pub started_more : (m : Machine) (clocks : List Clocks) (ready : ℕ) (begun : List Started) (s : Started) → AreStarted m clocks ready begun → IsStarted m clocks (ready_after ready begun) s → AreStarted m clocks ready (begun ++ s ∷ [])
started_more m clocks ready [] s all one = (one, tt)
started_more m clocks ready (p ∷ begun) s all one = (all.0, started_more m clocks (p.end + 260) begun s all.1 one)

-- the numbers stay sound
pub clocks_later : (m : Machine) (clocks : List Clocks) (ready later : ℕ) → ready ≤ later → AreBoardClocks m clocks ready → AreBoardClocks m clocks later
clocks_later m clocks ready later le h = record {
  count = h.count;
  valid = h.valid;
  lasting = h.lasting;
  freq = h.freq;
  before = λ b lt. let at = h.before b lt in omega (arith, at, le);
}
