-- What the reactor knows in the turn that ends a run for a cause of its own: all that came.
use Rattle.std.proofs.Common.{◌≡◌, ◌⊎◌, inl, inr, ℕ, ◌+◌, ◌≤◌, true, false, List, [], ◌∷◌, ◌++◌, Option, Some, None, length, refl, sym, ap, ◌∙◌, subst, arith}
use Rattle.io_core.specs.declared.traits.Files.{Ghosts as Files}
use Rattle.io_core.specs.declared.traits.Sink.{Ghosts as Sink}
use Rattle.laws_board.proofs.Names.{Cause, Machine, ReportLine, Switch, Known, Run, reacts, IsOwn, Came, known_by, ReactorTurn, gather}
use Rattle.plan_types.specs.declared.cause.Cause.TheVariants as cause
use Rattle.msg_code.specs.declared.talk.Piece.{Piece}
use Rattle.host_reactor.specs.Reactor.{first_told}
use Rattle.host_reactor.specs.Rows.{MayEndFor}
use Rattle.host_reactor.proofs.Blames.{blames}
use Rattle.session_work.specs.declared.head.Head.{Head}
use Rattle.session_work.specs.Heads.{IsRow, ReactorStep, ServeStep, Served, Wrote}
use Rattle.session_work.specs.Reactors.{answered_ends}
use Rattle.session_work.specs.Rows.{option_items}
use Rattle.session_work.specs.Turns.{Goes}
use Rattle.session_run.specs.declared.desk.Desk.{Desk}
use Rattle.session_run.specs.declared.read.ReadStop.{ReadStop}
use Rattle.session_run.specs.declared.read.ReadStop.TheVariants as stop
use Rattle.session_run.specs.Desks.{cause_of, desk_out}
use Rattle.session_run.specs.Machines.{reactor}
use Rattle.session_run.specs.Boards.{came_from, came_in}
use Rattle.session_run.proofs.Reacting as reacting
use Rattle.laws_board.specs.plans.Planned.{AnyStops}

-- what a reactor may be told to stop for: a write or a read that failed, or want of memory to read
abbrev pub Faulty : Option Cause → Type 0
Faulty None = Unit {0}
Faulty (Some c) = (c ≡ cause.WriteFault) ⊎ ((s : ReadStop) × (c ≡ cause_of s))

first_faulty : (o : Option Cause) (c : Cause) → Faulty o → Faulty (Some c) → Faulty (first_told o c)
first_faulty None c h f = f
first_faulty (Some d) c h f = h

-- no cause of a run's own is one of these
no_fault : (c : Cause) → IsOwn c → (c ≡ cause.Memory → ⊥) → Faulty (Some c) → ⊥
no_fault c own other (inl e) = subst IsOwn e own
no_fault c own other (inr (stop.Memory, e)) = other e
no_fault c own other (inr (stop.Failed, e)) = subst IsOwn e own

-- a run that ends for a cause of its own was not told to stop
untold : (c : Cause) (o : Option Cause) → IsOwn c → (c ≡ cause.Memory → ⊥) → Faulty o → MayEndFor o c → o ≡ None
untold c o own other told (inl e) = absurd (other e)
untold c o own other told (inr (inl e)) = absurd (no_fault c own other (subst Faulty e told))
untold c o own other told (inr (inr e)) = e.0

some_told : (o : Option Cause) (c : Cause) → first_told o c ≡ None → ⊥
some_told None c e = let g : Some c ≡ None = e in cc
some_told (Some d) c e = let g : Some d ≡ None = e in cc

split_stops : (h : ℕ) (xs ys : List Piece) → AnyStops h (xs ++ ys) → AnyStops h xs ⊎ AnyStops h ys
split_stops h [] ys a = inr a
split_stops h (x ∷ xs) ys (inl a) = inl (inl a)
split_stops h (x ∷ xs) ys (inr a) = elim (split_stops h xs ys a) [ inl z ↦ inl (inr z) | inr z ↦ inr z ]

none_first : (c : Option Cause) (cs : List Cause) → option_items c ++ cs ≡ [] → (c ≡ None) × (cs ≡ [])
none_first None cs e = (refl, e)
none_first (Some c) cs e = cc

module _ {F S : Type 0} (f : Files F) (o : Sink S) where
  abbrev D : Type 0
  D = Desk F S

  abbrev Told : Head Run D → Type 0
  Told x = Faulty x.machine.known.stopped

  as_before : (x y : Head Run D) → y.machine ≡ x.machine → Told x → Told y
  as_before x y e h = subst Faulty (ap (λ (r : Run). r.known.stopped) (sym e)) h

  wrote : (x y : Head Run D) (m : Run) (lines : List ReportLine) → Wrote reactor.stops (desk_out f o).writes (record { machine = m; outside = x.outside; stopped = x.stopped }) lines y → m.known.stopped ≡ None → Told y
  wrote x y m lines (_, inl w) e = subst Faulty (sym (ap (λ (r : Run). r.known.stopped) w.1 ∙ e)) tt
  wrote x y m lines (_, inr w) e =
      subst Faulty (sym (ap (λ (r : Run). r.known.stopped) w.1)) (first_faulty m.known.stopped cause.WriteFault (subst Faulty (sym e) tt) (inl refl))

  piece : (i : ℕ) (x : Head Run D) (p : Piece) (y : Head Run D) → ServeStep reactor.stops (desk_out f o).serves i x p y → Told x → Told y
  piece i x p y (inl s) h = as_before x y s.2 h
  piece i x p y (inr s) h =
      let d = s.1.1 in
      subst Faulty (sym (ap (λ (r : Run). r.known.stopped) s.2)) (first_faulty x.machine.known.stopped s.0 h (inr (d.0, d.2)))

  pieces : (i k : ℕ) (x : Head Run D) (ps : List Piece) (y : Head Run D) → Goes (λ _. ServeStep reactor.stops (desk_out f o).serves i) k x ps y → Told x → Told y
  pieces i k x [] y g h = subst Told g h
  pieces i k x (p ∷ ps) y g h = pieces i (k + 1) g.0 ps y g.2 (piece i x p g.0 g.1 h)

  -- behind a turn that goes on
  goes_on : (n k : ℕ) (x : Head Run D) (t : ReactorTurn) (y : Head Run D) → t.end ≡ None → ReactorStep reactor (desk_out f o) n k x t y → Told y
  goes_on n k x t y e s =
      let b = s.0 in
      let Pieces : Option Cause → Type 0 = λ c. Served reactor (desk_out f o) k b c t.pieces y in
      let told : Told b = elim s.1.1 [
        | inl l ↦
            let went = l.1.1 in
            let free = (blames x.machine.machine x.machine.switches x.machine.known k t.states t.note).goes (sym went.end_is ∙ e) in
            wrote x b l.1.0 t.lines l.1.2 (ap (λ (r : Run). r.known.stopped) went.becomes ∙ free.1)
        | inr r ↦ absurd (let g = sym e ∙ r.3 in cc)
      ] in
      pieces k 0 b t.pieces y (subst Pieces e s.2) told

  -- a reactor that was told to stop
  abbrev Halts : Head Run D → Type 0
  Halts x = x.machine.known.stopped ≡ None → ⊥

  told_halts : (x y : Head Run D) (c : Cause) → reactor.stops x.machine c y.machine → Halts y
  told_halts x y c s e = some_told x.machine.known.stopped c (sym (ap (λ (r : Run). r.known.stopped) s) ∙ e)

  pieces_halt : (i k : ℕ) (x : Head Run D) (ps : List Piece) (y : Head Run D) → Goes (λ _. ServeStep reactor.stops (desk_out f o).serves i) k x ps y → Halts x → Halts y
  pieces_halt i k x [] y g h = subst Halts g h
  pieces_halt i k x (p ∷ ps) y g h = pieces_halt i (k + 1) g.0 ps y g.2 (one g.0 g.1)
    where
      one : (z : Head Run D) → ServeStep reactor.stops (desk_out f o).serves i x p z → Halts z
      one z (inl s) e = h (ap (λ (r : Run). r.known.stopped) (sym s.2) ∙ e)
      one z (inr s) e = told_halts x z s.0 s.2 e

  -- behind a piece that says that no more can be read it is
  stop_halts : (i k h : ℕ) (x : Head Run D) (ps : List Piece) (y : Head Run D) → Goes (λ _. ServeStep reactor.stops (desk_out f o).serves i) k x ps y → AnyStops h ps → (h ≡ i + 1) × Halts y
  stop_halts i k h x [] y g a = absurd a
  stop_halts i k h x (p ∷ ps) y g (inr a) = stop_halts i (k + 1) h g.0 ps y g.2 a
  stop_halts i k h x (p ∷ ps) y g (inl a) = one g.0 g.1 g.2
    where
      one : (z : Head Run D) → ServeStep reactor.stops (desk_out f o).serves i x p z → Goes (λ _. ServeStep reactor.stops (desk_out f o).serves i) (k + 1) z ps y → (h ≡ i + 1) × Halts y
      one z (inl s) more = absurd (let c : true ≡ false = sym a.0 ∙ s.0.1.2 in cc)
      one z (inr s) more =
          let turn = ap (λ (q : Piece). q.turn) s.4 in
          (sym a.1 ∙ ap (λ n. n + 1) turn, pieces_halt i (k + 1) z ps y more (told_halts x z s.0 s.2))

  -- it ends the run in its next turn, and not for a cause of the run's own
  stops_now : (n k : ℕ) (x : Head Run D) (t : ReactorTurn) (y : Head Run D) → Halts x → t.end ≡ None → ReactorStep reactor (desk_out f o) n k x t y → ⊥
  stops_now n k x t y h e s = elim s.1.1 [
    | inl l ↦ h (let went = l.1.1 in let free = (blames x.machine.machine x.machine.switches x.machine.known k t.states t.note).goes (sym went.end_is ∙ e) in free.0)
    | inr r ↦ let g = sym e ∙ r.3 in cc
  ]

  never_own : (n k : ℕ) (x : Head Run D) (t : ReactorTurn) (y : Head Run D) (c : Cause) → Told x → Halts x → t.end ≡ Some c → (c ≡ cause.Memory → ⊥) → ReactorStep reactor (desk_out f o) n k x t y → IsOwn c → ⊥
  never_own n k x t y c told h e other s own = elim s.1.1 [
    | inl l ↦ h (untold c x.machine.known.stopped own other told ((blames x.machine.machine x.machine.switches x.machine.known k t.states t.note).ends c (sym l.1.1.end_is ∙ e)))
    | inr r ↦ other (let g = sym e ∙ r.3 in cc)
  ]

  -- A piece that says that no more can be read is read in the turn before the one that ends the run, and this, where it is not for want of
  -- memory, not for a cause of its own; or it is the last one.
  pub stop_last : (n k h : ℕ) (x : Head Run D) (rs : List ReactorTurn) (t : ReactorTurn) (y : Head Run D) (c : Cause) → Told x → answered_ends rs ≡ [] → t.end ≡ Some c
      → Goes (ReactorStep reactor (desk_out f o) n) k x (rs ++ t ∷ []) y → AnyStops h (gather (λ z. z.pieces) (rs ++ t ∷ [])) → (k + length rs + 1 ≤ h) ⊎ ((h ≡ k + length rs) × ((c ≡ cause.Memory → ⊥) → IsOwn c → ⊥))
  stop_last n k h x [] t y c told none e g a =
      let Of : Option Cause → Type 0 = λ z. Served reactor (desk_out f o) k g.1.0 z t.pieces g.0 in
      let served = subst Of e g.1.2 in
      elim (split_stops h t.pieces [] a) [
        | inl s ↦ elim (subst (AnyStops h) served.0.1 s) [ inl z ↦ let turn = z.1 in inl (omega (arith, turn)) | inr z ↦ absurd z ]
        | inr s ↦ absurd s
      ]
  stop_last n k h x (u ∷ rs) t y c told none e g a =
      let here = none_first u.end (answered_ends rs) none in
      let Of : Option Cause → Type 0 = λ z. Served reactor (desk_out f o) k g.1.0 z u.pieces g.0 in
      elim (split_stops h u.pieces (gather (λ (z : ReactorTurn). z.pieces) (rs ++ t ∷ [])) a) [
        | inl s ↦
            let halt = stop_halts k 0 h g.1.0 u.pieces g.0 (subst Of here.0 g.1.2) s in
            inr (after rs here.1 g.0 g.2 halt (goes_on n k x u g.0 here.0 g.1))
        | inr s ↦ elim (stop_last n (k + 1) h g.0 rs t y c (goes_on n k x u g.0 here.0 g.1) here.1 e g.2 s) [
          | inl z ↦ inl (omega (arith, z))
          | inr z ↦ let at = z.0 in inr (omega (arith, at), z.1)
        ]
      ]
    where
      after : (ss : List ReactorTurn) → answered_ends ss ≡ [] → (z : Head Run D) → Goes (ReactorStep reactor (desk_out f o) n) (k + 1) z (ss ++ t ∷ []) y → (h ≡ k + 1) × Halts z → Told z → (h ≡ k + length (u ∷ ss)) × ((c ≡ cause.Memory → ⊥) → IsOwn c → ⊥)
      after [] unended z go halt faulty = let at = halt.0 in (omega (arith, at), λ other. never_own n (k + 1) z t go.0 c faulty halt.1 e other go.1)
      after (w ∷ ss) unended z go halt faulty = absurd (stops_now n (k + 1) z w go.0 halt.1 (none_first w.end (answered_ends ss) unended).0 go.1)

  module _ (m : Machine) (switches : List Switch) where
    abbrev Follows : List Came → Run → Type 0
    Follows before x = reacting.Follows (desk_out f o) m switches before x

    -- the turn that ends a run
    pub record Last (before : List Came) (n : ℕ) (t : ReactorTurn) (y : Head Run D) : Type 0 where
      pub k : ℕ
      pub number : k ≡ length before
      pub x : Head Run D
      pub follows : Follows before x.machine
      pub told : Told x
      pub step : ReactorStep reactor (desk_out f o) n k x t y

    none_in : (c : Option Cause) (cs : List Cause) → option_items c ++ cs ≡ [] → (c ≡ None) × (cs ≡ [])
    none_in None cs e = (refl, e)
    none_in (Some c) cs e = cc

    pub last : (n k : ℕ) (before : List Came) (x : Head Run D) (ts : List ReactorTurn) (t : ReactorTurn) (y : Head Run D) → n ≡ length m.boards → k ≡ length before → answered_ends ts ≡ []
        → Goes (ReactorStep reactor (desk_out f o) n) k x (ts ++ t ∷ []) y → Follows before x.machine → Told x → Last (came_from before ts) n t y
    last n k before x [] t y count number none g h told =
        let Step : Head Run D → Type 0 = λ z. ReactorStep reactor (desk_out f o) n k x t z in
        record { k = k; number = number; x = x; follows = h; told = told; step = subst Step g.2 g.1 }
    last n k before x (u ∷ ts) t y count number none g h told =
        let here = none_in u.end (answered_ends ts) none in
        let one = reacting.turn (desk_out f o) m switches n k before x u g.0 count number here.0 g.1 h in
        last n (k + 1) (came_in u ∷ before) g.0 ts t y count (let e = number in omega arith) here.1 g.2 one.1 (goes_on n k x u g.0 here.0 g.1)

    -- what it writes and why it ends is what its function gives, for all that came where the cause is its own
    pub record Ends (before : List Came) (t : ReactorTurn) (c : Cause) : Type 0 where
      pub row : IsRow (length m.boards) (length before) t.states t.note
      pub known : Known
      pub begun : known.begun ≡ (known_by m switches before).begun
      pub lines_are : t.lines ≡ (reacts m switches known (length before) t.states t.note).ordered.lines
      pub end_is : Some c ≡ (reacts m switches known (length before) t.states t.note).ordered.end
      pub own : IsOwn c → (known ≡ known_by m switches before) × (known.stopped ≡ None)

    pub ends_so : (n : ℕ) (before : List Came) (t : ReactorTurn) (c : Cause) (y : Head Run D) → n ≡ length m.boards → t.end ≡ Some c → (c ≡ cause.Memory → ⊥) → Last before n t y → Ends before t c
    ends_so n before t c y count e other l =
        let h = l.follows in
        elim l.step.1.1 [
          | inl w ↦
              let went = w.1.1 in
              let same : (l.x.machine.machine, l.x.machine.switches, l.k) ≡ (m, switches, length before) = (λ i. (h.machine i, h.switches_are i, l.number i)) in
              let equal = ap (λ (z : Machine × List Switch × ℕ). reacts z.0 z.1 l.x.machine.known z.2 t.states t.note) same in
              let Row : ℕ × ℕ → Type 0 = λ z. IsRow z.0 z.1 t.states t.note in
              let for = (blames l.x.machine.machine l.x.machine.switches l.x.machine.known l.k t.states t.note).ends c (sym went.end_is ∙ e) in
              record {
                row = subst Row (λ i. (count i, l.number i)) w.0;
                known = l.x.machine.known;
                begun = h.begun;
                lines_are = went.lines_are ∙ ap (λ z. z.ordered.lines) equal;
                end_is = sym e ∙ went.end_is ∙ ap (λ z. z.ordered.end) equal;
                own = λ own. let none = untold c l.x.machine.known.stopped own other l.told for in (h.known none, none);
              }
          | inr r ↦ absurd (other (let g = sym e ∙ r.3 in cc))
        ]
