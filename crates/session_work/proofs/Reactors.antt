-- One turn more of the reactor.
use Rattle.std.proofs.Common.{◌≡◌, ◌⊎◌, ℕ, Bool, true, false, zero, suc, ◌+◌, ◌-◌, ◌<◌, List, [], ◌∷◌, ◌++◌, length, Option, Some, None, IfSome, IfNone, refl, sym, ap, subst, ◌∙◌, arith, append-nil, append_assoc, length-append, ⊎_elim}
use mathlib.Core.Logic.{inl, inr}
use Rattle.std.specs.Global.{Vec}
use Rattle.plan_types.specs.declared.cause.Cause.{Cause}
use Rattle.plan_types.specs.declared.cause.Cause.TheVariants as cause
use Rattle.lane_queue.specs.declared.ends.Lane.{Lane}
use Rattle.session_work.specs.declared.ends.Lanes.{Lanes}
use Rattle.lane_queue.specs.declared.passes.SendPass.{SendPass}
use Rattle.lane_queue.specs.declared.passes.TakePass.{TakePass}
use Rattle.lane_queue.specs.Ends.{IsSendOf, IsTakeOf, put, put_first, taken, take_first, next_put, next_take}
use Rattle.session_work.specs.declared.machines.ReactorMachine.{Ghosts as Reactor}
use Rattle.session_work.specs.declared.machines.Outside.{Ghosts as Out}
use Rattle.msg_code.specs.declared.unit.Control.{Control}
use Rattle.msg_code.specs.declared.talk.State.{State}
use Rattle.msg_code.specs.declared.talk.WordMsg.{WordMsg}
use Rattle.msg_code.specs.declared.talk.Note.{Note}
use Rattle.msg_code.specs.declared.talk.Ask.{Ask}
use Rattle.msg_code.specs.declared.talk.Piece.{Piece}
use Rattle.report_text.specs.declared.line.ReportLine.{ReportLine}
use Rattle.session_work.specs.declared.head.Head.{Head}
use Rattle.session_work.specs.declared.reactor.ReactorDone.{ReactorDone}
use Rattle.session_work.specs.declared.table.ReactorTurn.{ReactorTurn}
use Rattle.session_work.specs.Heads.{IsRow, Ordering, ServeStep, ReactorStep, Served, Wrote}
use Rattle.session_work.specs.Rows.{gather, item, option_items, Each, CanPut, CanTake, HasPut, HasTaken, HavePut, HaveTaken, PutMore, RowPut, RowTaken, copies}
use Rattle.session_work.specs.Turns.{Goes}
use Rattle.session_work.specs.Reactors.{answered_ends, with_pieces, ReactorWent, IsReactorAt, IsServing, IsReactorDone}
use Rattle.session_work.specs.Bares.{bare_control, bare_word, stop_piece}
use Rattle.session_work.specs.Leads.{each_turn, still_control, still_word, HasEnded, HasSaid, HasLed}
use Rattle.session_work.proofs.Leads.{length_each, first_said, still_said, more_said, last_said, put_as, put_same, rows_put, copies_put}
use Rattle.session_work.proofs.Goes.{goes_on, gather_on, gather_ones, gather_each, put_more, taken_more, next_of_put, next_taken}
use Rattle.session_work.proofs.Each.{item_at, item_copies, length-copies}
use Rattle.session_work.proofs.Columns.{can_put, can_take, row_put, row_taken}
use Rattle.plan_types.proofs.Facts.{none_long}

pub length_item : {B : Type 0} (bs : List B) (i : ℕ) → i < length bs → length (item i bs) ≡ 1
length_item [] i h = absurd (omega (arith, h))
length_item (b ∷ bs) i h = ap length (item_at (b ∷ bs) i b h)

pub if_none : {A : Type 0} {P : Type 0} (o : Option A) → (o ≡ None → P) → IfNone o P
if_none None f = f refl
if_none (Some x) f = tt

pub if_some : {A : Type 0} (P : A → Type 0) (o : Option A) → ((x : A) → o ≡ Some x → P x) → IfSome o P
if_some P None f = tt
if_some P (Some x) f = f x refl

no_items : {A : Type 0} (o : Option A) (xs : List A) → option_items o ++ xs ≡ [] → (o ≡ None) × (xs ≡ [])
no_items None xs e = (refl, e)
no_items (Some x) xs e = let h = ap length e in absurd (omega (arith, h))

pub not_none : {A : Type 0} (x : A) (o : Option A) → o ≡ Some x → o ≡ None → ⊥
not_none x o e f = let g : length (option_items o) ≡ 1 = ap (λ p. length (option_items p)) e in let h : length (option_items o) ≡ 0 = ap (λ p. length (option_items p)) f in omega (arith, g, h)

one_note : (o : Option Note) (x : Note) → o ≡ Some x → length (option_items o) ≡ 1
one_note o x e = ap (λ p. length (option_items p)) e

gather_same : {B : Type 0} (q : ReactorTurn → List B) (ts : List ReactorTurn) (t u : ReactorTurn) → q t ≡ q u → gather q (ts ++ t ∷ []) ≡ gather q (ts ++ u ∷ [])
gather_same q ts t u e = gather_on q ts t ∙ (ap (λ r. gather q ts ++ r) e ∙ sym (gather_on q ts u))

module _ {A O : Type 0} (a : Reactor A) (o : Out O) where
  abbrev Row : ℕ → ReactorTurn → ℕ → Type 0
  Row n t k = IsRow n k t.states t.note

  -- a turn that didn't end the run has the row of the turn before
  row_of : (n k : ℕ) (x : Head A O) (t : ReactorTurn) (y : Head A O) → ReactorStep a o n k x t y → t.end ≡ None → Row n t k
  row_of n k x t y s e = ⊎_elim (λ h. h.0) (λ h. absurd (not_none cause.Memory t.end h.3 e)) s.1.1

  later_states : (n k j : ℕ) (t : ReactorTurn) → 0 < k → j < n → Row n t k → length (item j t.states) ≡ 1
  later_states n k j t some low r = ⊎_elim (λ h. absurd (let z = h.0 in omega (arith, some, z))) (λ h. let l = h.1 in length_item t.states j (omega (arith, l, low))) r

  later_note : (n k : ℕ) (t : ReactorTurn) → 0 < k → Row n t k → length (option_items t.note) ≡ 1
  later_note n k t some r = ⊎_elim (λ h. absurd (let z = h.0 in omega (arith, some, z))) (λ h. one_note t.note h.2.0 h.2.1) r

  first_states : (n j : ℕ) (t : ReactorTurn) → Row n t 0 → length (item j t.states) ≡ 0
  first_states n j t r = ⊎_elim (λ h. ap (λ xs. length (item j xs)) h.1) (λ h. absurd (let z = h.0 in omega (arith, z))) r

  first_note : (n : ℕ) (t : ReactorTurn) → Row n t 0 → length (option_items t.note) ≡ 0
  first_note n t r = ⊎_elim (λ h. ap (λ p. length (option_items p)) h.2) (λ h. absurd (let z = h.0 in omega (arith, z))) r

  -- each turn but the first takes one
  module _ {B : Type 0} (n : ℕ) (f : ReactorTurn → List B) (one : (k : ℕ) (t : ReactorTurn) → 0 < k → Row n t k → length (f t) ≡ 1) (none : (t : ReactorTurn) → Row n t 0 → length (f t) ≡ 0) where
    later_each : (k : ℕ) (s e : Head A O) (ts : List ReactorTurn) → 0 < k → answered_ends ts ≡ [] → Goes (ReactorStep a o n) k s ts e → length (gather f ts) ≡ length ts
    later_each k s e [] some calm g = refl
    later_each k s e (t ∷ ts) some calm g =
        let p = no_items t.end (answered_ends ts) calm in let h = later_each (k + 1) g.0 e ts (omega (arith, some)) p.1 g.2 in
        let u = one k t some (row_of n k s t g.0 g.1 p.0) in let l = length-append (f t) (gather f ts) in omega arith

    pub but_first : (j : ℕ) (s e : Head A O) (ts : List ReactorTurn) → length ts ≡ j + 1 → answered_ends ts ≡ [] → Goes (ReactorStep a o n) 0 s ts e → length (gather f ts) ≡ j
    but_first j s e [] long calm g = absurd (omega (arith, long))
    but_first j s e (t ∷ ts) long calm g =
        let p = no_items t.end (answered_ends ts) calm in let h = later_each 1 g.0 e ts (omega arith) p.1 g.2 in
        let u = none t (row_of n 0 s t g.0 g.1 p.0) in let l = length-append (f t) (gather f ts) in omega arith

  one_control : (n j : ℕ) → j < n → (k : ℕ) (x : Head A O) (t : ReactorTurn) (y : Head A O) → ReactorStep a o n k x t y → length (item j t.controls) ≡ 1
  one_control n j low k x t y s = let l = s.1.0 in length_item t.controls j (omega arith)

  module _ (lanes : Lanes) where
    abbrev At : ℕ → Head A O → ReactorDone A O → Type 0
    At = IsReactorAt a o lanes

    module _ (k : ℕ) (s : Head A O) (d : ReactorDone A O) (h : At k s d) where
      pub at_controls : CanPut d.next lanes.controls.now d.control_passes.items
      at_controls = let n = length lanes.controls.now in can_put _ d.next lanes.controls.now _ h.4.3.0 (λ j low. let f : ReactorTurn → List Control = λ t. item j t.controls in
          let u = gather_each (ReactorStep a o n) f (one_control n j low) 0 s d.head h.0 h.3 in let v = length-append (gather f h.0) (each_turn still_control k h.4.0) in let w = length_each still_control k h.4.0 in
          let x = h.1 in let y = h.4.1 in omega arith)

      pub at_word : next_put d.word_pass ≡ d.next
      at_word = let f : ReactorTurn → List WordMsg = λ t. t.word ∷ [] in
          let u = gather_ones (λ (t : ReactorTurn). t.word) h.0 in let v = length-append (gather f h.0) (each_turn still_word k h.4.0) in let w = length_each still_word k h.4.0 in
          let x = h.1 in let y = h.4.1 in next_of_put _ d.next lanes.words.now _ h.4.3.2 (omega arith)

      pub at_states : (j : ℕ) → j + 1 ≡ k → CanTake j lanes.states.now d.state_passes.items
      at_states j e = let n = length lanes.controls.now in let same = h.4.3.8 in
          can_take _ j lanes.states.now _ h.4.3.1 (λ i low. but_first n (λ (t : ReactorTurn). item i t.states) (λ k t some r. later_states n k i t some (omega (arith, low, same)) r) (first_states n i) j s d.head h.0 (h.1 ∙ sym e) h.2 h.3)

      pub at_note : (j : ℕ) → j + 1 ≡ k → next_take d.note_pass ≡ j
      at_note j e = let n = length lanes.controls.now in
          next_taken _ j lanes.notes.now _ h.4.3.3 (but_first n (λ (t : ReactorTurn). option_items t.note) (later_note n) (first_note n) j s d.head h.0 (h.1 ∙ sym e) h.2 h.3)

    -- nothing is put yet
    pub at_first : (s : Head A O) (d : ReactorDone A O) → At 0 s d → d.next ≡ 0 → HavePut (λ j. []) lanes.controls.now d.control_passes.items × HasPut [] lanes.words.now d.word_pass
    at_first s d h next = let n = h.4.0 in let at = h.4.1 in let none : n ≡ 0 = omega (arith, next, at) in let no_turn = none_long h.0 h.1 in (
      put_as _ _ lanes.controls.now _ h.4.3.0 (λ j low. (λ i. gather (λ (t : ReactorTurn). item j t.controls) (no_turn i) ++ each_turn still_control 0 (none i))),
      put_same _ _ lanes.words.now _ h.4.3.2 (λ i. gather (λ (t : ReactorTurn). t.word ∷ []) (no_turn i) ++ each_turn still_word 0 (none i)),
    )

    abbrev pub renewed : ReactorDone A O → Head A O → ℕ → ℕ → SendPass WordMsg → TakePass Note → SendPass Piece → Vec (SendPass Control) → Vec (TakePass State) → ReactorDone A O
    renewed d head served next wp np pp cps sps = record { head = head; served = served; next = next; closed = d.closed; sated = d.sated; word_pass = wp; note_pass = np; ask_pass = d.ask_pass; piece_pass = pp; control_passes = cps; state_passes = sps }

    -- what was said before, and then for turn k and n turns more
    abbrev pub SaidTo : List ReactorTurn → ℕ → ℕ → List (SendPass Control) → SendPass WordMsg → Type 0
    SaidTo ts k n cps wp =
        HavePut (λ j. gather (λ (u : ReactorTurn). item j u.controls) ts ++ each_turn still_control k n) lanes.controls.now cps
        × HasPut (gather (λ (u : ReactorTurn). u.word ∷ []) ts ++ each_turn still_word k n) lanes.words.now wp

    -- turn k was said, or it was put ahead
    pub has_said : (k : ℕ) (s : Head A O) (d : ReactorDone A O) (h : At k s d) (t : ReactorTurn) (m : A) (next : ℕ) (wp : SendPass WordMsg) (cps : List (SendPass Control))
        → HasSaid lanes k t.word t.controls d.next next d.word_pass wp d.control_passes.items cps
        → ((n : ℕ) → a.free d.head.machine k (n + 1) → (t.controls ≡ copies (length lanes.controls.now) (bare_control k false)) × (t.word ≡ bare_word k false) × a.free m (k + 1) n)
        → (n : ℕ) × (next ≡ (k + 1) + n) × ((n ≡ 0) ⊎ a.free m (k + 1) n) × SaidTo (h.0 ++ t ∷ []) (k + 1) n cps wp
    has_said k s d h t m next wp cps said still = ⊎_elim
        (λ v. let x = h.4.1 in let y = v.0 in let y2 = v.1 in let none : h.4.0 ≡ 0 = omega (arith, x, y) in let w = h.4.3 in (
          0,
          omega (arith, y2),
          inl refl,
          (
            row_put _ _ lanes.controls.now _ _ t.controls w.0 v.2 (λ j. first_said (λ (u : ReactorTurn). item j u.controls) still_control h.0 t k h.4.0 none),
            put_more _ (t.word ∷ []) _ _ _ _ w.2 v.3.0 v.3.1 v.3.2 (first_said (λ (u : ReactorTurn). u.word ∷ []) still_word h.0 t k h.4.0 none),
          ),
        ))
        (λ v. let x = h.4.1 in let y = v.0 in let y2 = v.1 in let n = h.4.0 in let less : n ≡ (n - 1) + 1 = omega (arith, x, y) in let w = h.4.3 in
        let is = still (n - 1) (⊎_elim (λ z. absurd (omega (arith, x, y, z))) (λ f. subst (λ i. a.free d.head.machine k i) less f) h.4.2) in (
          n - 1,
          omega (arith, x, y, y2, less),
          inr is.2,
          (
            subst (λ ps. HavePut (λ j. gather (λ (u : ReactorTurn). item j u.controls) (h.0 ++ t ∷ []) ++ each_turn still_control (k + 1) (n - 1)) lanes.controls.now ps) v.3
                (put_as _ _ lanes.controls.now _ w.0 (λ j low. still_said (λ (u : ReactorTurn). item j u.controls) still_control h.0 t k n (n - 1) (ap (item j) is.0 ∙ item_copies (length lanes.controls.now) (bare_control k false) j low) less)),
            subst (λ p. HasPut (gather (λ (u : ReactorTurn). u.word ∷ []) (h.0 ++ t ∷ []) ++ each_turn still_word (k + 1) (n - 1)) lanes.words.now p) v.2
                (put_same _ _ lanes.words.now _ w.2 (still_said (λ (u : ReactorTurn). u.word ∷ []) still_word h.0 t k n (n - 1) (ap (λ x. x ∷ []) is.1) less)),
          ),
        ))
        said

    -- what is said next
    pub said_can : (k : ℕ) (s : Head A O) (d : ReactorDone A O) (h : At k s d) (t : ReactorTurn) (n next : ℕ) (wp : SendPass WordMsg) (cps : List (SendPass Control))
        → length t.controls ≡ length lanes.controls.now → next ≡ (k + 1) + n → SaidTo (h.0 ++ t ∷ []) (k + 1) n cps wp → CanPut next lanes.controls.now cps × (IsSendOf lanes.words.now wp × (next_put wp ≡ next))
    said_can k s d h t n next wp cps size at said = (
      can_put _ next lanes.controls.now cps said.0 (λ j low. let f : ReactorTurn → List Control = λ u. item j u.controls in
          let u = gather_each (ReactorStep a o (length lanes.controls.now)) f (one_control (length lanes.controls.now) j low) 0 s d.head h.0 h.3 in
          let v = ap length (gather_on f h.0 t) in let v2 = length-append (gather f h.0) (f t) in let one = length_item t.controls j (omega (arith, size, low)) in
          let v3 = length-append (gather f (h.0 ++ t ∷ [])) (each_turn still_control (k + 1) n) in let w = length_each still_control (k + 1) n in let x = h.1 in omega arith),
      (
        said.1.0,
        (let f : ReactorTurn → List WordMsg = λ u. u.word ∷ [] in let u = gather_ones (λ (u : ReactorTurn). u.word) h.0 in
            let v = ap length (gather_on f h.0 t) in let v2 = length-append (gather f h.0) (f t) in
            let v3 = length-append (gather f (h.0 ++ t ∷ [])) (each_turn still_word (k + 1) n) in let w = length_each still_word (k + 1) n in let x = h.1 in next_of_put _ next lanes.words.now wp said.1 (omega arith)),
      ),
    )

    -- and n turns more were put
    pub has_led : (ts : List ReactorTurn) (k n i next : ℕ) (cps cqs : List (SendPass Control)) (wp wq : SendPass WordMsg) → next ≡ k + n → SaidTo ts k n cps wp → HasLed lanes next i wp wq cps cqs → SaidTo ts k (n + i) cqs wq
    has_led ts k n i next cps cqs wp wq at w led = (
      rows_put _ _ lanes.controls.now _ _ (each_turn still_control next i) w.0 led.0 (λ j. more_said (gather (λ (u : ReactorTurn). item j u.controls) ts) still_control k n i next at),
      put_more _ (each_turn still_word next i) _ _ _ _ w.1 led.1.0 led.1.1 led.1.2 (more_said (gather (λ (u : ReactorTurn). u.word ∷ []) ts) still_word k n i next at),
    )

    -- what a turn takes
    abbrev pub Takes : List State → Option Note → ReactorDone A O → TakePass Note → List (TakePass State) → Type 0
    Takes states note d np sps =
        RowTaken lanes.states.now d.state_passes.items sps states × IsTakeOf lanes.notes.now np × (take_first np ≡ take_first d.note_pass) × (taken np ≡ taken d.note_pass ++ option_items note)

    -- no end was ordered
    pub on_with : (k : ℕ) (s : Head A O) (d : ReactorDone A O) (t : ReactorTurn) (head : Head A O) (next n : ℕ) (wp : SendPass WordMsg) (np : TakePass Note) (cps : Vec (SendPass Control)) (sps : Vec (TakePass State))
        → (h : At k s d) → t.end ≡ None → t.pieces ≡ [] → Ordering a o (length lanes.controls.now) k d.head t head → Takes t.states t.note d np sps.items
        → next ≡ (k + 1) + n → (n ≡ 0) ⊎ a.free head.machine (k + 1) n → SaidTo (h.0 ++ t ∷ []) (k + 1) n cps.items wp
        → a.boards head.machine ≡ a.boards d.head.machine
        → IsServing a o lanes k s (renewed d head d.served next wp np d.piece_pass cps sps)
    on_with k s d t head next n wp np cps sps h none bare ordering takes at free said boards =
        let ts = h.0 in let w = h.4.3 in let u = with_pieces t [] in (
          ts,
          t,
          [],
          d.head,
          head,
          h.1,
          h.2,
          h.3,
          none,
          ordering,
          refl,
          (
            n,
            at,
            free,
            (
              (said.0.0, λ j l q low. let x = said.0.1 j l q low in (x.0, x.1, x.2 ∙ ap (λ r. r ++ each_turn still_control (k + 1) n) (gather_same (λ (u : ReactorTurn). item j u.controls) ts t u refl))),
              row_taken _ _ lanes.states.now _ _ t.states w.1 takes.0 (λ j. gather_on (λ (v : ReactorTurn). item j v.states) ts u),
              (said.1.0, said.1.1, said.1.2 ∙ ap (λ r. r ++ each_turn still_word (k + 1) n) (gather_same (λ (u : ReactorTurn). u.word ∷ []) ts t u refl)),
              taken_more _ (option_items t.note) _ _ _ _ w.3 takes.1 takes.2 takes.3 (gather_on (λ (v : ReactorTurn). option_items v.note) ts u),
              (w.4.0, w.4.1, w.4.2 ∙ sym (gather_on (λ (v : ReactorTurn). v.pieces) ts u ∙ append-nil _)),
              w.5,
              w.6,
              boards ∙ w.7,
              w.8,
            ),
          ),
        )

    abbrev with_head : ReactorDone A O → Head A O → ReactorDone A O
    with_head d head = renewed d head d.served d.next d.word_pass d.note_pass d.piece_pass d.control_passes d.state_passes

    -- the end was ordered in turn k, over what was taken, and put
    module _ (k : ℕ) (s : Head A O) (d : ReactorDone A O) (h : At k s d) (states : List State) (note : Option Note) (x : Head A O) (np : TakePass Note) (sps : Vec (TakePass State)) (e : ReactorDone A O)
        (takes : Takes states note d np sps.items) (out : x.outside ≡ d.head.outside) (stopped : x.stopped ≡ d.head.stopped) (boards : a.boards x.machine ≡ a.boards d.head.machine)
        (put : HasEnded lanes k (renewed d x d.served d.next d.word_pass np d.piece_pass d.control_passes sps) e) where
      end_with : (controls : List Control) (word : WordMsg) (lines : List ReportLine) (c : Cause) (head : Head A O)
          → (let t : ReactorTurn = record { states = states; note = note; controls = controls; word = word; lines = lines; end = Some c; pieces = stop_piece k d.served ∷ [] } in Ordering a o (length lanes.controls.now) k d.head t head)
          → a.boards head.machine ≡ a.boards x.machine → IsReactorDone a o lanes c s (with_head e head)
      end_with controls word lines c head ordering more =
          let t : ReactorTurn = record { states = states; note = note; controls = controls; word = word; lines = lines; end = Some c; pieces = stop_piece k d.served ∷ [] } in
          let ts = h.0 in let n = h.4.0 in let w = h.4.3 in let l = h.1 in let at = h.4.1 in
          let here : d.next ≡ length ts + n = omega (arith, l, at) in (
            ts,
            t,
            n,
            h.2,
            refl,
            goes_on (ReactorStep a o (length lanes.controls.now)) 0 k s d.head head ts t h.3 (omega (arith, l)) (head, ordering, ((d.served, refl), refl)),
            (
              rows_put _ _ lanes.controls.now _ _ (bare_control d.next true ∷ []) w.0 (copies_put lanes.controls.now _ _ (bare_control d.next true) (h.4.3.0.0) put.0) (λ j. last_said (gather (λ (u : ReactorTurn). item j u.controls) ts) still_control (λ i. bare_control i true) (length ts) k n d.next l here),
              subst (λ v. HaveTaken (λ j. gather (λ (v : ReactorTurn). item j v.states) (ts ++ t ∷ [])) lanes.states.now v.items) (sym put.7) (row_taken _ _ lanes.states.now _ _ states w.1 takes.0 (λ j. gather_on (λ (v : ReactorTurn). item j v.states) ts t)),
              put_more _ (bare_word d.next true ∷ []) _ _ _ _ w.2 put.1.0 put.1.1 put.1.2 (last_said (gather (λ (u : ReactorTurn). u.word ∷ []) ts) still_word (λ i. bare_word i true) (length ts) k n d.next l here),
              subst (λ p. HasTaken (gather (λ (v : ReactorTurn). option_items v.note) (ts ++ t ∷ [])) lanes.notes.now p) (sym put.5) (taken_more _ (option_items note) _ _ _ _ w.3 takes.1 takes.2 takes.3 (gather_on (λ (v : ReactorTurn). option_items v.note) ts t)),
              put_more _ (stop_piece k d.served ∷ []) _ _ _ _ w.4 put.2.0 put.2.1 put.2.2 (gather_on (λ (v : ReactorTurn). v.pieces) ts t),
              put.3,
              subst (IsTakeOf lanes.asks.now) (sym put.6) w.6,
              more ∙ (boards ∙ w.7),
              w.8,
            ),
          )

      -- memory was wanted
      pub end_wanting : IsReactorDone a o lanes cause.Memory s e
      end_wanting = subst (λ y. IsReactorDone a o lanes cause.Memory s (with_head e y)) (sym put.4)
          (end_with (copies (length lanes.controls.now) (bare_control k true)) (bare_word k true) [] cause.Memory x (length-copies (length lanes.controls.now) (bare_control k true), inr (refl, refl, refl, refl, out, stopped)) refl)

      -- the machine ordered it, and its lines were written
      pub end_ordered : (controls : List Control) (word : WordMsg) (lines : List ReportLine) (c : Cause) (y : Head A O)
          → length controls ≡ length lanes.controls.now → IsRow (length lanes.controls.now) k states note → a.turns d.head.machine k states note controls word lines (Some c) x.machine
          → (Some c ≡ Some cause.Memory → ⊥) → Wrote a.stops o.writes e.head lines y → a.boards y.machine ≡ a.boards e.head.machine
          → IsReactorDone a o lanes c s (with_head e y)
      end_ordered controls word lines c y size row asked memory wrote more = end_with controls word lines c y
          (size, inl (row, (x.machine, asked, subst (λ b. Wrote a.stops o.writes b lines y) (put.4 ∙ (λ i. record { machine = x.machine; outside = out i; stopped = stopped i })) wrote, memory)))
          (more ∙ ap (λ b. a.boards b.machine) put.4)

    -- the pieces behind this turn's word are served
    pub served_all : (k : ℕ) (s : Head A O) (d : ReactorDone A O) → IsServing a o lanes k s d → At (k + 1) s d
    served_all k s d h =
        let ts = h.0 in let t = h.1 in let ps = h.2 in let u = with_pieces t ps in let l = h.5 in let m = length-append ts (u ∷ []) in
        let served : Served a o k h.4 t.end ps d.head = subst (λ x. Served a o k h.4 x ps d.head) (sym h.8) h.10 in (
          ts ++ u ∷ [],
          omega arith,
          gather_on (λ (v : ReactorTurn). option_items v.end) ts u ∙ (λ i. h.6 i ++ option_items (h.8 i)),
          goes_on (ReactorStep a o (length lanes.controls.now)) 0 k s h.3 d.head ts u h.7 (omega arith) (h.4, h.9, served),
          h.11,
        )

    abbrev pub reserved : ReactorDone A O → Head A O → ℕ → Bool → TakePass Ask → SendPass Piece → ReactorDone A O
    reserved d head n b ap' pp = record { head = head; served = n; next = d.next; closed = b; sated = d.sated; word_pass = d.word_pass; note_pass = d.note_pass; ask_pass = ap'; piece_pass = pp; control_passes = d.control_passes; state_passes = d.state_passes }

    -- one piece more
    pub served_more : (k : ℕ) (s : Head A O) (d : ReactorDone A O) (p : Piece) (head : Head A O) (n : ℕ) (b : Bool) (ap' : TakePass Ask) (pp : SendPass Piece)
        → IsServing a o lanes k s d → ServeStep a.stops o.serves k d.head p head → a.boards head.machine ≡ a.boards d.head.machine
        → ((i j : ℕ) → a.free d.head.machine i j → a.free head.machine i j)
        → IsTakeOf lanes.asks.now ap' → IsSendOf lanes.pieces.now pp → put_first pp ≡ put_first d.piece_pass → put pp ≡ put d.piece_pass ++ p ∷ [] → next_put pp ≡ n
        → IsServing a o lanes k s (reserved d head n b ap' pp)
    served_more k s d p head n b ap' pp h step boards keeps ask piece first more next =
        let ts = h.0 in let t = h.1 in let ps = h.2 in let w = h.11.3 in let i = h.11.0 in
        let f : ReactorTurn → List Piece = λ u. u.pieces in
        let was : gather f (ts ++ with_pieces t ps ∷ []) ≡ gather f ts ++ ps = gather_on f ts (with_pieces t ps) in
        let is : gather f (ts ++ with_pieces t (ps ++ p ∷ []) ∷ []) ≡ gather f ts ++ (ps ++ p ∷ []) = gather_on f ts (with_pieces t (ps ++ p ∷ [])) in
        let t0 = with_pieces t ps in let t1 = with_pieces t (ps ++ p ∷ []) in (
          ts,
          t,
          ps ++ p ∷ [],
          h.3,
          h.4,
          h.5,
          h.6,
          h.7,
          h.8,
          h.9,
          goes_on (λ _. ServeStep a.stops o.serves k) 0 (length ps) h.4 d.head head ps p h.10 (omega arith) step,
          (
            i,
            h.11.1,
            ⊎_elim (λ z. inl z) (λ z. inr (keeps (k + 1) i z)) h.11.2,
            (
              (w.0.0, λ j l q low. let x = w.0.1 j l q low in (x.0, x.1, x.2 ∙ ap (λ r. r ++ each_turn still_control (k + 1) i) (gather_same (λ (u : ReactorTurn). item j u.controls) ts t0 t1 refl))),
              (w.1.0, λ j l q low. let x = w.1.1 j l q low in (x.0, x.1, x.2 ∙ gather_same (λ (u : ReactorTurn). item j u.states) ts t0 t1 refl)),
              (w.2.0, w.2.1, w.2.2 ∙ ap (λ r. r ++ each_turn still_word (k + 1) i) (gather_same (λ (u : ReactorTurn). u.word ∷ []) ts t0 t1 refl)),
              (w.3.0, w.3.1, w.3.2 ∙ gather_same (λ (u : ReactorTurn). option_items u.note) ts t0 t1 refl),
              put_more _ (p ∷ []) _ _ _ _ w.4 piece first more (is ∙ (sym (append_assoc (gather f ts) ps (p ∷ [])) ∙ ap (λ r. r ++ p ∷ []) (sym was))),
              next,
              ask,
              boards ∙ w.7,
              w.8,
            ),
          ),
        )
