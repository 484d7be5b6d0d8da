-- Whole sections that what was put is told by are planned, and start one behind the other.
use Rattle.std.proofs.Common.{◌≡◌, ℕ, ◌+◌, Bool, List, [], ◌∷◌, ◌++◌, append-nil, append_assoc, refl, ap, sym, subst, ◌∙◌, arith}
use Rattle.std.proofs.Math.Logic.{∥∥₁_elim, ∥∥₁_map, ∥∥₁_prop}
use Rattle.std.proofs.lemmas.Grind.{merely}
use Rattle.std.proofs.lemmas.List.{map-append}
use Rattle.std.specs.Prelude.{All, Option, Some, None}
use Rattle.std.proofs.lemmas.List.Elements.{All-cons, All-nil}
use Rattle.gcode_program.specs.Programs.{program_sections}
use Rattle.plan_types.specs.declared.machine.Machine.{Machine}
use Rattle.plan_types.specs.declared.plan.Section.{Section}
use Rattle.section_feed.specs.declared.section.SectionStream.{SectionStream}
use Rattle.motion_work.specs.Puts.{Put}
use Rattle.motion_work.proofs.Sending.{all_sent_by, by_more}
use Rattle.motion_work.specs.Seen.{AreSentBy, AreStarted, IsPlanned, IsStarted, Started, ready_after}
use Rattle.motion_work.specs.Told.{Told}
use Rattle.motion_work.proofs.Feeding.{snoc_same}
use Rattle.motion_work.proofs.Turning.{started_more}
use Rattle.motion_stream.specs.declared.course.Course.{Course}
use Rattle.motion_stream.specs.declared.course.Open.{Open}
use Rattle.motion_stream.specs.declared.course.Open.TheVariants as opens
use Rattle.motion_stream.specs.Courses.{IsGoing, IsGoingOn, KnowsConnecting}
use Rattle.motion_stream.specs.Motions.{IsPlannerOf, Planner}
use Rattle.motion_stream.specs.Puts.{ArePutBy}
use Rattle.motion_stream.specs.Seen.{AreWhole, Going, IsContinued, Seen, sections_in}
use Rattle.motion_stream.specs.Texts.{MayBecome}
use Rattle.motion_stream.specs.Wholes.{AreOf, ArePlanned, AreSentIn, HasNoAnswer, IsToldOf, IsWholeLast}
use Rattle.motion_stream.proofs.Clearing.{next_clear}
use Rattle.motion_stream.proofs.Wholing.{are_there}
use Rattle.plan_types.proofs.Facts.{some_same, none_is_some}

-- the section that goes on, whole
last_started : (m : Machine) (s : SectionStream) (homes : Bool) (c : Course) (t : Told) (begun : List Started) (going : Option Going) (i : IsGoingOn m s homes c (Some t) begun going) (x : Started) → IsContinued m c.next i.g x → IsPlanned x.section.kind m t.clocks x → IsStarted m t.clocks (ready_after t.first begun) x
last_started m s homes c t begun going i x is plan =
    let dwell : x.section.dwell ≡ i.g.dwell = ap (λ (y : Section). y.dwell) is.section in
    let same : i.t ≡ t = sym (some_same t i.t i.told_is) in
    let start = i.start in
    record { start = is.start ∙ start ∙ ap (λ (u : Told). ready_after u.first begun + i.g.dwell) same ∙ ap (λ n. ready_after t.first begun + n) (sym dwell); planned = plan }

-- sections begun, and the one that goes on
by_open : (m : Machine) (o : Open) (c : Course) (t : Told) (begun : List Started) (going : Option Going) (g : Going) (x : Started) → going ≡ Some g → IsGoing m o c (Some t) begun going → IsContinued m c.next g x → IsPlanned x.section.kind m t.clocks x → AreStarted m t.clocks t.first begun → AreStarted m t.clocks t.first (begun ++ x ∷ [])
by_open m opens.Nothing c t begun going g x e i is plan all = absurd (none_is_some (sym i.none ∙ e))
by_open m (opens.Goes s homes) c t begun going g x e i is plan all =
    started_more m t.clocks t.first begun x all (last_started m s homes c t begun going i x (subst (λ (h : Going). IsContinued m c.next h x) (some_same g i.g (sym e ∙ i.is)) is) plan)

-- the plan of the last section
last_plan : (m : Machine) (seen : Seen) (t : Told) (begun : List Started) (x : Started) (all : List Started) → seen.told ≡ Some t → all ≡ begun ++ x ∷ [] → IsWholeLast m seen all → IsPlanned x.section.kind m t.clocks x
last_plan m seen t begun x all told are w =
    let same : w.s ≡ x = sym (snoc_same begun w.past x w.s (sym are ∙ w.are)).1 in
    let u : w.t ≡ t = some_same w.t t (sym w.told_is ∙ told) in
    subst (λ (v : Told). IsPlanned x.section.kind m v.clocks x) u (subst (λ (y : Started). IsPlanned y.section.kind m w.t.clocks y) same w.planned)

pub split_last : (m : Machine) (begun : List Started) (x : Started) (all : List Started) (whole : List ℕ) (others : List Section) → all ≡ begun ++ x ∷ [] → program_sections m whole ≡ sections_in all ++ others → program_sections m whole ≡ sections_in begun ++ x.section ∷ others
split_last m begun x all whole others are e =
    e ∙ ap (λ (ss : List Started). sections_in ss ++ others) are ∙ ap (λ ss. ss ++ others) (map-append (λ (y : Started). y.section) begun (x ∷ [])) ∙ append_assoc (sections_in begun) (x.section ∷ []) others

-- what is known of connecting
pub told_all : (p : Planner) (seen : Seen) (whole : List ℕ) (all : List Started) (told : Option Told) (going : Option Going) → seen.told ≡ told → seen.going ≡ going → IsPlannerOf p seen → KnowsConnecting p.machine p.course told seen.begun going → AreWhole p.machine told seen.next seen.begun going all → AreOf p.machine seen whole all
    → ∥ IsToldOf p.machine told all ∥₁
told_all p seen whole all None None et eg h c w of = merely (w ∙ c.1)
told_all p seen whole all None (Some g) et eg h c w of = absurd w
told_all p seen whole all (Some t) None et eg h c w of = ∥∥₁_map c.started (λ started. (subst (AreStarted p.machine t.clocks t.first) (sym w) started, c.clocks, c.first))
told_all p seen whole all (Some t) (Some g) et eg h c w of =
    let m = p.machine in
    let x = w.0 in
    let plan = last_plan m seen t seen.begun x all et w.1 (of.last g eg) in
    let going : IsGoing m p.course.current p.course (Some t) seen.begun (Some g) = subst (λ o. IsGoing m p.course.current p.course (Some t) seen.begun o) eg (subst (λ o. IsGoing m p.course.current p.course o seen.begun seen.going) et h.going) in
    let is : IsContinued m p.course.next g x = subst (λ n. IsContinued m n g x) (sym h.next) w.2 in
    ∥∥₁_map c.started (λ started. (
      subst (AreStarted m t.clocks t.first) (sym w.1) (by_open m p.course.current p.course t seen.begun (Some g) g x refl going is plan started),
      c.clocks,
      c.first,
    ))

-- and what was sent of them
last_sent : (m : Machine) (seen : Seen) (t : Told) (begun : List Started) (x : Started) (all : List Started) → seen.told ≡ Some t → all ≡ begun ++ x ∷ [] → IsWholeLast m seen all → AreSentBy m t.clocks seen.next (x ∷ [])
last_sent m seen t begun x all told are w =
    let same : w.s ≡ x = sym (snoc_same begun w.past x w.s (sym are ∙ w.are)).1 in
    let u : w.t ≡ t = some_same w.t t (sym w.told_is ∙ told) in
    subst (λ (v : Told). AreSentBy m v.clocks seen.next (x ∷ [])) u (subst (λ (y : Started). AreSentBy m w.t.clocks seen.next (y ∷ [])) same (w.sent, tt))

sent_all : (p : Planner) (seen : Seen) (whole : List ℕ) (all : List Started) (told : Option Told) (going : Option Going) → seen.told ≡ told → seen.going ≡ going → KnowsConnecting p.machine p.course told seen.begun going → AreWhole p.machine told seen.next seen.begun going all → AreOf p.machine seen whole all
    → ∥ AreSentIn p.machine told seen.next all ∥₁
sent_all p seen whole all None None et eg c w of = merely tt
sent_all p seen whole all None (Some g) et eg c w of = absurd w
sent_all p seen whole all (Some t) None et eg c w of =
    ∥∥₁_map c.sent (λ sent. subst (AreSentBy p.machine t.clocks seen.next) (sym w) (all_sent_by p.machine t.clocks seen.next seen.begun sent))
sent_all p seen whole all (Some t) (Some g) et eg c w of =
    let m = p.machine in
    let x = w.0 in
    ∥∥₁_map c.sent (λ sent. subst (AreSentBy m t.clocks seen.next) (sym w.1) (by_more m t.clocks seen.next seen.begun x (all_sent_by m t.clocks seen.next seen.begun sent) (last_sent m seen t seen.begun x all et w.1 (of.last g eg))))

whole_more : (m : Machine) (seen : Seen) (told : Option Told) (going : Option Going) (all : List Started) → AreWhole m told seen.next seen.begun going all → ((g : Going) → going ≡ Some g → IsWholeLast m seen all) → (more : List Started) × (all ≡ seen.begun ++ more) × All HasNoAnswer more
whole_more m seen told None all w last = ([], w ∙ sym (append-nil seen.begun), All-nil HasNoAnswer)
whole_more m seen None (Some g) all w last = absurd w
whole_more m seen (Some t) (Some g) all w last =
    let l = last g refl in
    let same : l.s ≡ w.0 = sym (snoc_same seen.begun l.past w.0 l.s (sym w.1 ∙ l.are)).1 in
    (w.0 ∷ [], w.1, All-cons HasNoAnswer w.0 [] (subst HasNoAnswer same l.unanswered) (All-nil HasNoAnswer))

pub are_planned : (p : Planner) (seen : Seen) (ps : List Put) (whole : List ℕ) → IsPlannerOf p seen → ArePutBy p.machine seen ps → MayBecome seen.ended seen.text whole → ∥ ((all : List Started) × ArePlanned p.machine seen whole ps all) ∥₁
are_planned p seen ps whole h put may = ∥∥₁_elim (are_there p seen whole h may) ∥∥₁_prop (λ w. ∥∥₁_elim (sent_all p seen whole w.0 seen.told seen.going refl refl h.told w.1.may.sections w.1) ∥∥₁_prop (λ sent. ∥∥₁_map (told_all p seen whole w.0 seen.told seen.going refl refl h h.told w.1.may.sections w.1) (λ told. (
  w.0,
  record {
    may = w.1.may;
    others = w.1.others;
    sections = w.1.sections;
    put = put.put whole w.0 w.1.may;
    count = put.count;
    small = let s = h.small in let n = h.next in omega (arith, s, n);
    started = put.started whole w.0 w.1.may;
    told = told;
    sent = sent;
    more = (whole_more p.machine seen seen.told seen.going w.0 w.1.may.sections w.1.last).0;
    begun = (whole_more p.machine seen seen.told seen.going w.0 w.1.may.sections w.1.last).1;
    unanswered = (whole_more p.machine seen seen.told seen.going w.0 w.1.may.sections w.1.last).2;
    due = λ t s rest heard are. (next_clear p seen h).begins t whole w.0 rest s heard may w.1.may.sections (w.1.sections ∙ ap (λ ss. sections_in w.0 ++ ss) are);
  },
))))
