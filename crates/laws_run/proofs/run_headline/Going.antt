-- A run that went through: all sections of its text were begun, and ended.
use Rattle.std.proofs.Common.{◌≡◌, ◌⊎◌, ℕ, zero, suc, ◌+◌, ◌<◌, ◌≤◌, Bool, true, false, List, [], ◌∷◌, ◌++◌, All, length, map, take, Option, Some, None, refl, ap, sym, ◌∙◌, arith, inl, inr}
use Rattle.std.specs.Prelude.{◌==◌, ◌&&◌, if◌then◌else◌, nat_lt, slice_index_or}
use Rattle.laws_board.proofs.Names.{eqb-true, eqb_tells, leb_tells, length-map, All-cons, All-head, All-nil, All-tail, Cause, Machine, ReadStop, Section, Clocks, State, Release, batch_at, StepUnit, AreBefore, Known, stop_of, parts_on, Started, ReactorTurn, item}
use Rattle.std.proofs.lemmas.List.{take_all}
use Rattle.gcode_program.specs.Programs.{program_end, program_sections}
use Rattle.section_units.specs.Sections.{AreReleased}
use Rattle.host_reactor.specs.Running.{all_ended, all_idle, late, late_of, or_cause}
use Rattle.motion_work.specs.Seen.{AreOut, part_on}
use Rattle.laws_board.specs.plans.Boards.{TookStates}
use Rattle.laws_run.specs.run_ends.Ends.{Counts, WentThrough, ended_by, reading_of}
use Rattle.plan_types.proofs.Facts.{true_false, first_of_both, second_of_both}

-- how many ended
by_most : (k : ℕ) (ss : List Started) → ended_by k ss ≤ length ss
by_most k [] = omega arith
by_most k (s ∷ ss) = let rest = by_most k ss in one (nat_lt s.end k) rest
  where
    one : (b : Bool) → ended_by k ss ≤ length ss → (if b then 1 else 0) + ended_by k ss ≤ length (s ∷ ss)
    one true rest = omega arith
    one false rest = omega arith

all_by : (k : ℕ) (ss : List Started) → length ss ≤ ended_by k ss → All (λ s. s.end < k) ss
all_by k [] h = All-nil (λ (s : Started). s.end < k)
all_by k (s ∷ ss) h =
    let most = by_most k ss in
    elim (leb_tells (suc s.end) k) [
      | inl p ↦
          let e : ended_by k (s ∷ ss) ≡ 1 + ended_by k ss = ap (λ b. (if b then 1 else 0) + ended_by k ss) p.0 in
          All-cons (λ (x : Started). x.end < k) s ss p.1 (all_by k ss (omega (arith, h, e)))
      | inr p ↦
          let e : ended_by k (s ∷ ss) ≡ 0 + ended_by k ss = ap (λ b. (if b then 1 else 0) + ended_by k ss) p.0 in
          absurd (omega (arith, h, e, most))
    ]

all_over : (k e : ℕ) (ss : List Started) → All (λ s. s.end < k) ss → All (λ s. s.end < k → s.end ≤ e) ss → e + 5 ≤ k → All (λ s. s.end + 5 ≤ k) ss
all_over k e [] a b h = All-nil (λ (s : Started). s.end + 5 ≤ k)
all_over k e (s ∷ ss) a b h =
    let now = All-head (λ (x : Started). x.end < k → x.end ≤ e) s ss b (All-head (λ (x : Started). x.end < k) s ss a) in
    All-cons (λ (x : Started). x.end + 5 ≤ k) s ss (omega (arith, now, h)) (all_over k e ss (All-tail (λ (x : Started). x.end < k) s ss a) (All-tail (λ (x : Started). x.end < k → x.end ≤ e) s ss b) h)

few_taken : (n : ℕ) (xs : List Section) → length (take n xs) ≤ length xs
few_taken zero xs = omega arith
few_taken (suc n) [] = omega arith
few_taken (suc n) (x ∷ xs) = let rest = few_taken n xs in omega arith

-- how the text was read
read_so : (m : Machine) (text : List ℕ) (r : Known) → all_ended r.done r.reading ≡ true → (r.reading ≡ None) ⊎ (r.reading ≡ Some (reading_of m text)) → (r.reading ≡ Some (reading_of m text)) × (r.done ≡ length (program_sections m text))
read_so m text r e (inl n) = absurd (let f : false ≡ true = sym (ap (all_ended r.done) n) ∙ e in cc)
read_so m text r e (inr s) = (s, eqb-true r.done (length (program_sections m text)) (sym (ap (all_ended r.done) s) ∙ e))

pub record Gone (m : Machine) (text : List ℕ) (begun : List Started) (k : ℕ) (r : Known) (stop : ReadStop) : Type 0 where
  pub all : map (λ s. s.section) begun ≡ program_sections m text
  pub over : All (λ s. s.end + 5 ≤ k) begun
  pub stop_is : stop ≡ (program_end m text).stop
  pub reading : r.reading ≡ Some (reading_of m text)
  pub out : (j : ℕ) × (j < k) × AreOut (length m.boards) j (length (program_sections m text)) begun

pub gone : (m : Machine) (text : List ℕ) (begun : List Started) (k n : ℕ) (r : Known) (states : List State) (stop : ReadStop) → Counts m text begun k r → n ≡ k → map (λ s. s.section) begun ≡ take (length begun) (program_sections m text)
    → WentThrough r n states stop → Gone m text begun k r stop
gone m text begun k n r states stop c e front w =
    let sections = program_sections m text in
    let is = read_so m text r w.through.ended c.reading in
    let size = length-map begun (λ (s : Started). s.section) in
    let taken = ap length front in
    let few = few_taken (length begun) sections in
    let most = by_most k begun in
    let ended = all_by k begun (omega (arith, c.few, is.1, size, taken, few)) in
    let many : length sections ≤ length begun = omega (arith, c.few, is.1, most) in
    record {
      all = front ∙ take_all (length begun) sections many;
      over = all_over k r.ended begun ended c.behind (omega (arith, w.through.behind, e));
      stop_is = sym w.stops ∙ ap stop_of is.0;
      reading = is.0;
      out = elim c.out [ inl none ↦ absurd (read_none (sym none ∙ is.0)) | inr o ↦ o ];
    }
  where
    read_none : None ≡ Some (reading_of m text) → ⊥
    read_none p = cc

none_of : (c : Bool) (u : StepUnit) (us : List StepUnit) → (if c then u ∷ us else us) ≡ [] → (c ≡ false) × (us ≡ [])
none_of true u us e = absurd cc
none_of false u us e = (refl, e)

-- releases of which none is behind a turn
none_behind : (j turn : ℕ) (rs : List Release) → j < turn → ((i : ℕ) → j < i → batch_at i rs ≡ []) → AreBefore turn rs
none_behind j turn [] low none = tt
none_behind j turn (r ∷ rs) low none = (
  elim (leb_tells r.turn j) [
    | inl p ↦ omega (arith, p.1, low)
    | inr p ↦ elim (eqb_tells r.turn r.turn) [
      | inl q ↦ absurd (true_false (sym q.0 ∙ (none_of (r.turn == r.turn) r.unit (batch_at r.turn rs) (none r.turn (omega (arith, p.1)))).0))
      | inr q ↦ absurd (q.1 refl)
    ]
  ],
  none_behind j turn rs low (λ i late. (none_of (r.turn == i) r.unit (batch_at i rs) (none i late)).1),
)

-- all units of sections that are out are released
pub out_released : (m : Machine) (clocks : List Clocks) (b j turn n : ℕ) (begun : List Started) → b < length m.boards → j < turn → length begun ≤ n → AreOut (length m.boards) j n begun → AreReleased turn (parts_on m clocks begun b)
out_released m clocks b j turn n [] inside low many out = tt
out_released m clocks b j turn zero (s ∷ begun) inside low many out = absurd (omega (arith, many))
out_released m clocks b j turn (suc n) (s ∷ begun) inside low many out =
    (none_behind j turn (slice_index_or s.boards b []) low (λ i late. out.0.1 b i inside late), out_released m clocks b j turn n begun inside low (omega (arith, many)) out.1)

-- so all those of the sections of a run that went through
pub gone_released : (m : Machine) (text : List ℕ) (begun : List Started) (k : ℕ) (r : Known) (stop : ReadStop) (clocks : List Clocks) (b turn : ℕ) → Gone m text begun k r stop → k ≤ turn → b < length m.boards → AreReleased turn (parts_on m clocks begun b)
gone_released m text begun k r stop clocks b turn g low inside =
    let early = g.out.1 in
    let many = ap length g.all in
    let size = length-map begun (λ (s : Started). s.section) in
    out_released m clocks b g.out.0 turn (length (program_sections m text)) begun inside (omega (arith, early, low)) (omega (arith, many, size)) g.out.2

-- the last states of some boards
pub record Lasts (b : ℕ) (rs : List ReactorTurn) (end : ReactorTurn) (states : List State) : Type 0 where
  pub front : List State
  pub last : State
  pub are : states ≡ front ++ last ∷ []
  pub at : item b end.states ≡ last ∷ []
  pub took : TookStates b rs front

pub lasts : (b : ℕ) (rs : List ReactorTurn) (end : ReactorTurn) (states : List State) → TookStates b (rs ++ end ∷ []) states → Lasts b rs end states
lasts b [] end [] t = absurd t
lasts b [] end (s ∷ states) t = record { front = []; last = s; are = ap (λ x. s ∷ x) t.1; at = t.0; took = refl }
lasts b (r ∷ rs) end [] t = absurd t
lasts b (r ∷ rs) end (s ∷ states) t = let x = lasts b rs end states t.1 in record { front = s ∷ x.front; last = x.last; are = ap (λ y. s ∷ y) x.are; at = x.at; took = (t.0, x.took) }

pub one_idle : (b : ℕ) (states : List State) (s : State) → all_idle states ≡ true → item b states ≡ s ∷ [] → s.idle ≡ true
one_idle b [] s e f = absurd (let g : [] ≡ s ∷ [] = f in cc)
one_idle zero (x ∷ states) s e f = let same : x ≡ s = cc in ap (λ (y : State). y.idle) (sym same) ∙ first_of_both x.idle (all_idle states) e
one_idle (suc b) (x ∷ states) s e f = one_idle b states s (second_of_both x.idle (all_idle states) e) f

-- no board is late where none is named
pub or_none : (x y : Option Cause) → or_cause x y ≡ None → (x ≡ None) × (y ≡ None)
or_none None y e = (refl, e)
or_none (Some c) y e = cc

pub one_in_time : (i b : ℕ) (states : List State) (s : State) → late i states ≡ None → item b states ≡ s ∷ [] → (j : ℕ) × (late_of j s.shut ≡ None)
one_in_time i b [] s e f = absurd (let g : [] ≡ s ∷ [] = f in cc)
one_in_time i zero (x ∷ states) s e f = let same : x ≡ s = cc in (i, ap (λ (y : State). late_of i y.shut) (sym same) ∙ (or_none (late_of i x.shut) (late (i + 1) states) e).0)
one_in_time i (suc b) (x ∷ states) s e f = one_in_time (i + 1) b states s (or_none (late_of i x.shut) (late (i + 1) states) e).1 f

pub released_here : (m : Machine) (clocks : List Clocks) (b turn : ℕ) (past : List Started) (s : Started) (later : List Started) → AreReleased turn (parts_on m clocks (past ++ s ∷ later) b) → AreBefore turn (part_on m clocks s b).releases
released_here m clocks b turn [] s later h = h.0
released_here m clocks b turn (x ∷ past) s later h = released_here m clocks b turn past s later h.1
