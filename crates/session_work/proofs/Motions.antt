-- One turn more of the motion worker.
use Rattle.std.proofs.Common.{◌≡◌, ℕ, suc, ◌+◌, ◌<◌, List, [], ◌∷◌, ◌++◌, length, refl, sym, ap, ◌∙◌, arith, append-nil, length-append, subst, true, rules, vec_len, Option, Some, None, IfSome, IfNone}
use Rattle.std.specs.Global.{Global, Vec}
use Rattle.std.specs.declared.collections.VecDeque.{VecDeque}
use Rattle.lane_queue.specs.declared.ends.Lane.{Lane}
use Rattle.session_work.specs.declared.ends.Lanes.{Lanes}
use Rattle.lane_queue.specs.declared.passes.SendPass.{SendPass}
use Rattle.lane_queue.specs.Ends.{IsSendOf, put, put_first, next_put}
use Rattle.session_work.specs.declared.machines.MotionMachine.{Ghosts}
use Rattle.msg_code.specs.declared.unit.Batch.{Batch}
use Rattle.msg_code.specs.declared.talk.WordMsg.{WordMsg}
use Rattle.msg_code.specs.declared.talk.Note.{Note}
use Rattle.msg_code.specs.declared.talk.Ask.{Ask}
use Rattle.msg_code.specs.declared.talk.Piece.{Piece}
use Rattle.session_work.specs.declared.motion.MotionDone.{MotionDone}
use Rattle.session_work.specs.declared.seat.Seat.{Seat}
use Rattle.session_work.specs.declared.table.MotionTurn.{MotionTurn}
use Rattle.session_work.specs.declared.late.Late.{Late}
use Rattle.session_work.specs.Alone.{with_puts}
use Rattle.session_work.specs.Lates.{late_batches, late_notes, late_row, AreLate, IsLate}
use Rattle.session_work.specs.Rows.{copies, gather, item, AreOf, CanPut, PutMore, RowPut, HasPut, HavePutBut}
use Rattle.session_work.specs.Seats.{needs, hungers, WordStep, PieceStep, MakeStep}
use Rattle.session_work.specs.Turns.{Goes}
use Rattle.session_work.specs.Motions.{MotionStep, seated, IsFed, IsMotionAt}
use Rattle.session_work.proofs.Goes.{goes_on, gather_on, gather_ones, gather_each, next_but, none_waits, put_more, taken_as, waits_less, waits_more, waits_none}
use Rattle.session_work.specs.Bares.{bare_batch, bare_note}
use Rattle.msg_code.specs.declared.talk.Made.{Made}
use Rattle.session_work.proofs.Each.{item_at, length-copies, of_copies}
use Rattle.session_work.proofs.Columns.{can_put_but, none_rows_wait, row_put, rows_handed, rows_wait, rows_wait_none}

module _ {M : Type 0} (m : Ghosts M) where
  -- one item of each row stands at a board's place
  length_item : {A : Type 0} (bs : List A) (i : ℕ) → i < length bs → length (item i bs) ≡ 1
  length_item [] i h = absurd (omega (arith, h))
  length_item (b ∷ bs) i h = let e = item_at (b ∷ bs) i b h in ap length e

  pub one_batch : (n j : ℕ) → j < n → (k : ℕ) (x : Seat M) (t : MotionTurn) (y : Seat M) → MotionStep m n k x t y → length (item j t.batches) ≡ 1
  one_batch n j low k x t y s = let long = s.6.2 in length_item t.batches j (omega arith)

  -- a batch of each turn that waits is for a board
  pub length_late : (n k : ℕ) (xs : List Late) → AreLate n k xs → (j : ℕ) → j < n → length (late_batches n xs j) ≡ length xs
  length_late n k [] all j low = refl
  length_late n k (x ∷ xs) all j low =
      let long = all.0.1 in let one = length_item (late_row n x) j (omega arith) in
      let rest = length_late n (k + 1) xs all.1 j low in let sum = length-append (item j (late_row n x)) (late_batches n xs j) in omega arith

  -- one turn more waits
  pub late_more : (n k i : ℕ) (xs : List Late) (x : Late) → AreLate n k xs → IsLate n i x → i ≡ k + length xs → AreLate n k (xs ++ x ∷ [])
  late_more n k i [] x all is at = let e : i ≡ k = omega (arith, at) in (subst (λ a. IsLate n a x) e is, tt)
  late_more n k i (y ∷ ys) x all is at = (all.0, late_more n (k + 1) i ys x all.1 is (omega (arith, at)))

  -- bare messages, where the machine is asked no more
  pub bare_step : (n k : ℕ) (s y : Seat M) (x : Late) → MakeStep n m.turns k s (copies n (bare_batch k y.halted)) (bare_note k y.out) y
      → x.note ≡ bare_note k y.out → ((i : ℕ) → late_row i x ≡ copies i (bare_batch k y.halted)) → MakeStep n m.turns k s (late_row n x) x.note y × IsLate n k x
  bare_step n k s y x made note row = (
    subst (λ (z : List Batch × Note). MakeStep n m.turns k s z.0 z.1 y) (λ i. (sym (row n) i, sym note i)) made,
    (ap (λ (a : Note). a.turn) note, ap length (row n) ∙ length-copies n (bare_batch k y.halted), subst (AreOf (λ (b : Batch). b.turn) k) (sym (row n)) (of_copies (λ (b : Batch). b.turn) k n (bare_batch k y.halted) refl)),
  )

  -- how many words a seat heard
  heard_in : (k i : ℕ) (x y : Seat M) (ws : List WordMsg) → Goes (λ (_ : ℕ) u w v. (needs m.wants k u ≡ true) × WordStep m.hears u w v) i x ws y → y.heard ≡ x.heard + length ws
  heard_in k i x y [] g = let e = ap (λ (s : Seat M). s.heard) g in omega (arith, e)
  heard_in k i x y (w ∷ ws) g = let one = g.1.1.0 in let rest = heard_in k (i + 1) g.0 y ws g.2 in omega arith

  fed_in : (k i : ℕ) (x y : Seat M) (ps : List Piece) → Goes (λ (_ : ℕ) u p v. (hungers m.hungry k u ≡ true) × PieceStep m.reads u p v) i x ps y → y.heard ≡ x.heard
  fed_in k i x y [] g = ap (λ (s : Seat M). s.heard) (sym g)
  fed_in k i x y (p ∷ ps) g = let one = g.1.1.0 in fed_in k (i + 1) g.0 y ps g.2 ∙ one

  pub heard_by : (n k : ℕ) (x y : Seat M) (ts : List MotionTurn) → Goes (MotionStep m n) k x ts y → y.heard ≡ x.heard + length (gather (λ (t : MotionTurn). t.words) ts)
  heard_by n k x y [] g = let e = ap (λ (s : Seat M). s.heard) g in omega (arith, e)
  heard_by n k x y (t ∷ ts) g =
      let s = g.1 in let a = heard_in k 0 x s.0 t.words s.2 in let b = fed_in k 0 s.0 s.1 t.pieces s.4 in let made = s.6.0 in
      let rest = heard_by n (k + 1) g.0 y ts g.2 in let sum = length-append t.words (gather (λ (u : MotionTurn). u.words) ts) in omega arith

  module _ (lanes : Lanes) where
    abbrev Fed : ℕ → M → MotionDone M → Type 0
    Fed = IsFed m lanes

    -- how many batches a board has from these turns
    length_made : (ts : List MotionTurn) (x : Seat M) (y : Seat M) → Goes (MotionStep m (length lanes.batches.now)) 0 x ts y → (j : ℕ) → j < length lanes.batches.now → length (gather (λ (t : MotionTurn). item j t.batches) ts) ≡ length ts
    length_made ts x y g j low = gather_each (MotionStep m (length lanes.batches.now)) (λ (t : MotionTurn). item j t.batches) (one_batch (length lanes.batches.now) j low) 0 x y ts g

    pub fed_batches : (k : ℕ) (s : M) (d : MotionDone M) → Fed k s d → d.late.items ≡ [] → CanPut k lanes.batches.now d.batch_passes.items
    fed_batches k s d f none = let i = f.0 in let ts = i.0 in let w = i.10 in
        can_put_but (late_batches (length lanes.batches.now) d.late.items) (λ j. gather (λ (t : MotionTurn). item j t.batches) ts) k lanes.batches.now _ w.3
        (λ j low. let made = length_made ts (seated m s) i.3 i.6 j low in let long = i.5 in let no = ap (λ xs. length (late_batches (length lanes.batches.now) xs j)) none in omega arith)

    pub fed_note : (k : ℕ) (s : M) (d : MotionDone M) → Fed k s d → d.late.items ≡ [] → next_put d.note_pass ≡ k
    fed_note k s d f none = let i = f.0 in let ts = i.0 in let w = i.10 in
        let made = gather_ones (λ (t : MotionTurn). t.note) ts in let long = i.5 in let no = ap (λ xs. length (late_notes xs)) none in next_but (late_notes d.late.items) _ k lanes.notes.now _ w.2 (omega arith)

    -- the next batches and the next note that are put are those of the first turn that waits
    pub late_first : (k n : ℕ) (s : M) (d : MotionDone M) → IsMotionAt m lanes n s d → AreLate (length lanes.batches.now) k d.late.items → n ≡ k + length d.late.items → CanPut k lanes.batches.now d.batch_passes.items × (next_put d.note_pass ≡ k)
    late_first k n s d at all is =
        let ts = at.0 in let w = at.3 in let long = at.1 in (
          can_put_but (late_batches (length lanes.batches.now) d.late.items) (λ j. gather (λ (t : MotionTurn). item j t.batches) ts) k lanes.batches.now _ w.3
              (λ j low. let made = length_made ts (seated m s) d.seat at.2 j low in let late = length_late (length lanes.batches.now) k d.late.items all j low in omega arith),
          (let made = gather_ones (λ (t : MotionTurn). t.note) ts in let late = gather_ones (λ (x : Late). x.note) d.late.items in next_but (late_notes d.late.items) _ k lanes.notes.now _ w.2 (omega arith)),
        )

    abbrev pub remade : MotionDone M → Seat M → Vec (SendPass Batch) → SendPass Note → MotionDone M
    remade d y bps np = record { seat = y; asks = d.asks; closed = d.closed; sated = d.sated; word_pass = d.word_pass; note_pass = np; ask_pass = d.ask_pass; piece_pass = d.piece_pass; batch_passes = bps; late = d.late }

    abbrev pub kept : MotionDone M → Seat M → VecDeque Late Global → MotionDone M
    kept d y late = record { seat = y; asks = d.asks; closed = d.closed; sated = d.sated; word_pass = d.word_pass; note_pass = d.note_pass; ask_pass = d.ask_pass; piece_pass = d.piece_pass; batch_passes = d.batch_passes; late = late }

    -- the batches and the note of turn k were put
    pub motion_more : (k : ℕ) (s : M) (d : MotionDone M) (bs : List Batch) (note : Note) (y : Seat M) (bp : Vec (SendPass Batch)) (np : SendPass Note)
        → Fed k s d → d.late.items ≡ [] → MakeStep (length lanes.batches.now) m.turns k d.seat bs note y → RowPut lanes.batches.now d.batch_passes.items bp.items bs
        → IsSendOf lanes.notes.now np → put_first np ≡ put_first d.note_pass → put np ≡ put d.note_pass ++ note ∷ [] → m.boards y.machine ≡ length lanes.batches.now
        → IsMotionAt m lanes (k + 1) s (remade d y bp np)
    motion_more k s d bs note y bp np f none made row lane first more boards =
        let i = f.0 in let ts = i.0 in let ws = i.1 in let ps = i.2 in let w = i.10 in
        let t : MotionTurn = record { words = ws; pieces = ps; batches = bs; note = note } in
        let long = length-append ts (t ∷ []) in let n = i.5 in
        let no : late_notes d.late.items ≡ [] = ap late_notes none in
        let nob : (j : ℕ) → late_batches (length lanes.batches.now) d.late.items j ≡ [] = λ j. ap (λ xs. late_batches (length lanes.batches.now) xs j) none in (
          ts ++ t ∷ [],
          omega arith,
          goes_on (MotionStep m (length lanes.batches.now)) 0 k (seated m s) i.3 y ts t i.6 (omega arith) (i.4, d.seat, i.7, i.8, i.9, f.1, made),
          (
            taken_as _ _ _ _ w.0 (sym (append-nil _ ∙ gather_on (λ (u : MotionTurn). u.words) ts t)),
            taken_as _ _ _ _ w.1 (sym (append-nil _ ∙ gather_on (λ (u : MotionTurn). u.pieces) ts t)),
            waits_none _ _ lanes.notes.now np no (put_more _ (note ∷ []) _ _ _ _ (none_waits _ _ lanes.notes.now d.note_pass no w.2) lane first more (gather_on (λ (u : MotionTurn). u.note ∷ []) ts t)),
            none_rows_wait _ _ lanes.batches.now _ nob (row_put _ _ lanes.batches.now _ _ bs (rows_wait_none _ _ lanes.batches.now _ nob w.3) row (λ j. gather_on (λ (u : MotionTurn). item j u.batches) ts t)),
            w.4,
            w.5,
            boards,
          ),
        )

    -- the batches and the note of turn k wait
    pub motion_kept : (k : ℕ) (s : M) (d : MotionDone M) (x : Late) (y : Seat M) (late : VecDeque Late Global)
        → Fed k s d → MakeStep (length lanes.batches.now) m.turns k d.seat (late_row (length lanes.batches.now) x) x.note y → late.items ≡ d.late.items ++ x ∷ [] → m.boards y.machine ≡ length lanes.batches.now
        → IsMotionAt m lanes (k + 1) s (kept d y late)
    motion_kept k s d x y late f made is boards =
        let i = f.0 in let ts = i.0 in let ws = i.1 in let ps = i.2 in let w = i.10 in let bs = late_row (length lanes.batches.now) x in
        let t : MotionTurn = record { words = ws; pieces = ps; batches = bs; note = x.note } in
        let long = length-append ts (t ∷ []) in let n = i.5 in (
          ts ++ t ∷ [],
          omega arith,
          goes_on (MotionStep m (length lanes.batches.now)) 0 k (seated m s) i.3 y ts t i.6 (omega arith) (i.4, d.seat, i.7, i.8, i.9, f.1, made),
          (
            taken_as _ _ _ _ w.0 (sym (append-nil _ ∙ gather_on (λ (u : MotionTurn). u.words) ts t)),
            taken_as _ _ _ _ w.1 (sym (append-nil _ ∙ gather_on (λ (u : MotionTurn). u.pieces) ts t)),
            waits_more _ _ _ (x.note ∷ []) _ lanes.notes.now d.note_pass w.2 (ap late_notes is ∙ gather_on (λ (u : Late). u.note ∷ []) d.late.items x) (gather_on (λ (u : MotionTurn). u.note ∷ []) ts t),
            rows_wait _ _ _ _ lanes.batches.now _ bs w.3 (λ j. ap (λ xs. late_batches (length lanes.batches.now) xs j) is ∙ gather_on (λ (u : Late). item j (late_row (length lanes.batches.now) u)) d.late.items x) (λ j. gather_on (λ (u : MotionTurn). item j u.batches) ts t),
            w.4,
            w.5,
            boards,
          ),
        )

    -- the first turn that waits was put
    pub motion_handed : (n : ℕ) (s : M) (d : MotionDone M) (x : Late) (bp : Vec (SendPass Batch)) (np : SendPass Note) (late : VecDeque Late Global)
        → IsMotionAt m lanes n s d → d.late.items ≡ x ∷ late.items → RowPut lanes.batches.now d.batch_passes.items bp.items (late_row (length lanes.batches.now) x) → PutMore (x.note ∷ []) lanes.notes.now d.note_pass np
        → IsMotionAt m lanes n s (with_puts d bp np late)
    motion_handed n s d x bp np late at is row note =
        let w = at.3 in (
          at.0,
          at.1,
          at.2,
          (
            w.0,
            w.1,
            waits_less _ _ _ (x.note ∷ []) lanes.notes.now _ _ w.2 note.0 note.1 note.2 (ap late_notes is),
            rows_handed _ _ _ lanes.batches.now _ _ (late_row (length lanes.batches.now) x) w.3 row (λ j. ap (λ xs. late_batches (length lanes.batches.now) xs j) is),
            w.4,
            w.5,
            w.6,
          ),
        )
