-- What a planner puts for a board, batch by batch.
use Rattle.std.proofs.Common.{◌≡◌, ℕ, zero, suc, ◌+◌, ◌<◌, ◌≤◌, All, List, [], ◌∷◌, ◌++◌, length, map, refl, ap, sym, ◌∙◌, subst, arith, inl, inr, rules}
use Rattle.laws_board.proofs.Names.{eqb_tells, leb_tells, All-cons, All-nil, Machine, SectionKind, Moves, Home, Clocks, Release, batch_at, AreStarted, Started, MotionTurn, gather, item}
use Rattle.std.specs.List.{range_with_len}
use Rattle.std.specs.Prelude.{false, slice_index_or}
use Rattle.msg_code.specs.declared.unit.Batch.{Batch}
use Rattle.section_feed.proofs.Telling.{batch-behind}
use Rattle.motion_work.specs.Feeds.{batches_at, units_at}
use Rattle.motion_work.specs.Homes.{before_turn}
use Rattle.motion_work.specs.Puts.{ArePut}
use Rattle.motion_work.specs.Seen.{AreSentBy, IsPlanned}
use Rattle.motion_work.proofs.Feeding.{at_before}
use Rattle.motion_work.proofs.Sending.{cut_before}
use Rattle.session_work.specs.Bares.{bare_batch}
use Rattle.session_work.specs.Rows.{copies}
use Rattle.laws_board.specs.plans.Planned.{AreBare, puts_of}
use Rattle.laws_run.specs.run_links.Units.{AreBatchesOf, IsBatchOf, IsPartOn, IsPlannedOn}
use Rattle.laws_board.proofs.plans.Giving.{item_at}
use Rattle.laws_homing.proofs.home_parts.Cut.{batch_before}

own_batch : (m : Machine) (k b : ℕ) (sections : List (List (List Release))) → b < length m.boards → item b (batches_at (length m.boards) k sections) ≡ record { turn = k; units = units_at b k sections; end = false } ∷ []
own_batch m k b sections h = search (rules, item, range_with_len, item_at)

bare_item : (n b : ℕ) (x : Batch) → b < n → item b (copies n x) ≡ x ∷ []
bare_item zero b x h = absurd (omega (arith, h))
bare_item (suc n) zero x h = refl
bare_item (suc n) (suc b) x h = bare_item n b x (omega (arith, h))

-- so many batches of a board
pub record Put (b : ℕ) (begun : List Started) (sent k : ℕ) (batches : List Batch) : Type 0 where
  pub are : AreBatchesOf b begun sent k batches
  pub many : sent ≤ k + length batches

one_more : (b : ℕ) (begun : List Started) (sent k : ℕ) (x : Batch) (xs rest : List Batch) → xs ≡ x ∷ [] → IsBatchOf b begun sent k x → Put b begun sent (k + 1) rest → Put b begun sent k (xs ++ rest)
one_more b begun sent k x xs rest e h p =
    let many = p.many in
    let all : Put b begun sent k (x ∷ rest) = record { are = (h, p.are); many = omega (arith, many) } in
    subst (λ z. Put b begun sent k (z ++ rest)) (sym e) all

-- behind the planner's turns there are no units
bare_put : (n b : ℕ) (begun : List Started) (sent k : ℕ) (ts : List MotionTurn) → b < n → sent ≤ k → AreBare n k ts → Put b begun sent k (gather (λ t. item b t.batches) ts)
bare_put n b begun sent k [] low late h = record { are = tt; many = omega (arith, late) }
bare_put n b begun sent k (t ∷ ts) low late h =
    let x = bare_batch k h.0.0 in
    one_more b begun sent k x (item b t.batches) (gather (λ (z : MotionTurn). item b z.batches) ts) (ap (item b) h.0.2 ∙ bare_item n b x low)
    (record { turn = refl; units = λ l. absurd (omega (arith, l, late)); goes_on = λ l. absurd (omega (arith, l, late)); none = λ l. refl })
    (bare_put n b begun sent (k + 1) ts low (omega (arith, late)) h.1)

-- the batches of a board are those of the sections that were begun
pub batches_put : (m : Machine) (text : List ℕ) (begun : List Started) (b sent k : ℕ) (made bare : List MotionTurn) → b < length m.boards → k + length made ≡ sent → ArePut m text begun k (puts_of made)
    → AreBare (length m.boards) sent bare → Put b begun sent k (gather (λ t. item b t.batches) (made ++ bare))
batches_put m text begun b sent k [] bare low e put h =
    let same : sent ≡ k = omega (arith, e) in
    bare_put (length m.boards) b begun sent k bare low (omega (arith, same)) (subst (λ i. AreBare (length m.boards) i bare) same h)
batches_put m text begun b sent k (t ∷ made) bare low e put h =
    let sections = map (λ (s : Started). s.boards) begun in
    one_more b begun sent k (record { turn = k; units = units_at b k sections; end = false }) (item b t.batches) (gather (λ (z : MotionTurn). item b z.batches) (made ++ bare))
    (ap (item b) put.0.batches_are ∙ own_batch m k b sections low)
    (record { turn = refl; units = λ l. refl; goes_on = λ l. refl; none = λ l. absurd (omega (arith, e, l)) })
    (batches_put m text begun b sent (k + 1) made bare low (omega (arith, e)) put.1 h)

-- the units of a section on a board are those of its plan
planned_on : (kind : SectionKind) (m : Machine) (clocks : List Clocks) (b : ℕ) (s : Started) → b < length m.boards → IsPlanned kind m clocks s → IsPlannedOn kind m clocks b s
planned_on Moves m clocks b s low h = h.boards.each b low
planned_on (Home axis) m clocks b s low h =
    let own = slice_index_or h.planned b [] in
    record {
      planned = own;
      are = h.are.each b low;
      before = λ k l. elim h.boards [
        | inl w ↦ ap (λ z. batch_at k (slice_index_or z b [])) w.1
        | inr w ↦ ap (λ z. batch_at k (slice_index_or z b [])) w.1 ∙ ap (batch_at k) (at_before s.end h.planned b) ∙ batch_before k s.end own l
      ];
      none = λ k ended l. elim h.boards [
        | inl w ↦ absurd (let e = w.0 in omega (arith, e, ended))
        | inr w ↦ ap (λ z. batch_at k (slice_index_or z b [])) w.1 ∙ ap (batch_at k) (at_before s.end h.planned b) ∙ batch-behind k s.end (before_turn s.end own) l (cut_before s.end own)
      ];
    }

pub parts_are : (m : Machine) (clocks : List Clocks) (ready sent b : ℕ) (begun : List Started) → b < length m.boards → AreStarted m clocks ready begun → AreSentBy m clocks sent begun → All (IsPartOn m clocks sent b) begun
parts_are m clocks ready sent b [] low started sends = All-nil (IsPartOn m clocks sent b)
parts_are m clocks ready sent b (s ∷ begun) low started sends =
    All-cons (IsPartOn m clocks sent b) s begun (record { planned = planned_on s.section.kind m clocks b s low started.0.planned; longest = sends.0 b low }) (parts_are m clocks (s.end + 260) sent b begun low started.1 sends.1)
