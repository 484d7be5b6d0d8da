-- The turns of the reactor in a whole run are those of its function.
use Rattle.std.proofs.Common.{◌≡◌, ◌⊎◌, inl, inr, ℕ, ◌+◌, Bool, List, [], ◌∷◌, ◌++◌, Option, Some, None, length, suc, refl, sym, ap, ◌∙◌, subst, ⊎_elim, arith}
use Rattle.plan_types.specs.declared.cause.Cause.{Cause}
use Rattle.plan_types.specs.declared.cause.Cause.TheVariants as cause
use Rattle.plan_types.specs.declared.machine.Machine.{Machine}
use Rattle.msg_code.specs.declared.talk.Piece.{Piece}
use Rattle.report_text.specs.declared.line.ReportLine.{ReportLine}
use Rattle.wire_scene.specs.declared.scene.Switch.{Switch}
use Rattle.host_reactor.specs.declared.ordered.Known.{Known}
use Rattle.host_reactor.specs.Reactor.{Run, first_run, first_told, reacts}
use Rattle.host_reactor.specs.Runs.{Came, known_by}
use Rattle.host_reactor.proofs.Blames.{blames}
use Rattle.session_work.specs.declared.machines.Outside.{Ghosts as Out}
use Rattle.session_work.specs.declared.head.Head.{Head}
use Rattle.session_work.specs.declared.table.ReactorTurn.{ReactorTurn}
use Rattle.session_work.specs.Heads.{IsRow, Ordering, Served, ServeStep, ReactorStep, Wrote}
use Rattle.session_work.specs.Reactors.{answered_ends}
use Rattle.session_work.specs.Rows.{option_items}
use Rattle.session_work.specs.Turns.{Goes}
use Rattle.session_run.specs.Machines.{reactor}
use Rattle.session_run.specs.Boards.{AreReactorTurns, IsReactorTurn, came_from, came_in}

module _ {O : Type 0} (o : Out O) (m : Machine) (switches : List Switch) where
  -- the reactor knows what came, unless it is told to stop
  pub record Follows (before : List Came) (x : Run) : Type 0 where
    pub machine : x.machine ≡ m
    pub switches_are : x.switches ≡ switches
    pub known : x.known.stopped ≡ None → x.known ≡ known_by m switches before
    pub begun : x.known.begun ≡ (known_by m switches before).begun

  told-some : (k : Option Cause) (c : Cause) → first_told k c ≡ None → ⊥
  told-some None c e = cc
  told-some (Some d) c e = cc

  -- what is told to stop follows still
  stopped-follows : (before : List Came) (x y : Run) (c : Cause) → reactor.stops x c y → Follows before x → Follows before y
  stopped-follows before x y c s h = record {
    machine = ap (λ (r : Run). r.machine) s ∙ h.machine;
    switches_are = ap (λ (r : Run). r.switches) s ∙ h.switches_are;
    known = λ e. absurd (told-some x.known.stopped c (sym (ap (λ (r : Run). r.known.stopped) s) ∙ e));
    begun = ap (λ (r : Run). r.known.begun) s ∙ h.begun;
  }

  same-follows : (before : List Came) (x y : Run) → y ≡ x → Follows before x → Follows before y
  same-follows before x y e h = subst (Follows before) (sym e) h

  wrote : (before : List Came) (x : Run) (p : O) (stop : Bool) (lines : List ReportLine) (y : Head Run O) → Wrote reactor.stops o.writes (record { machine = x; outside = p; stopped = stop }) lines y → Follows before x → Follows before y.machine
  wrote before x p stop lines y w h = ⊎_elim (λ s. same-follows before x y.machine s.1 h) (λ s. stopped-follows before x y.machine cause.WriteFault s.1 h) w.1

  piece : (turn : ℕ) (before : List Came) (x : Head Run O) (q : Piece) (y : Head Run O) → ServeStep reactor.stops o.serves turn x q y → Follows before x.machine → Follows before y.machine
  piece turn before x q y s h = ⊎_elim (λ l. same-follows before x.machine y.machine l.2 h) (λ r. stopped-follows before x.machine y.machine r.0 r.2 h) s

  pieces : (turn : ℕ) (before : List Came) (k : ℕ) (x : Head Run O) (qs : List Piece) (y : Head Run O) → Goes (λ _. ServeStep reactor.stops o.serves turn) k x qs y → Follows before x.machine → Follows before y.machine
  pieces turn before k x [] y g h = subst (λ (z : Head Run O). Follows before z.machine) g h
  pieces turn before k x (q ∷ qs) y g h = pieces turn before (k + 1) g.0 qs y g.2 (piece turn before x q g.0 g.1 h)

  -- one turn that goes on
  pub turn : (n k : ℕ) (before : List Came) (x : Head Run O) (t : ReactorTurn) (y : Head Run O) → n ≡ length m.boards → k ≡ length before → t.end ≡ None → ReactorStep reactor o n k x t y → Follows before x.machine
      → IsReactorTurn m switches before t × Follows (came_in t ∷ before) y.machine
  turn n k before x t y count number e s h =
      let b = s.0 in
      let served = subst (λ c. Served reactor o k b c t.pieces y) e s.2 in
      ⊎_elim
      (λ l.
      let turned = l.1 in
      let went = turned.1 in
      let free = (blames x.machine.machine x.machine.switches x.machine.known k t.states t.note).goes (sym went.end_is ∙ e) in
      let same : (x.machine.machine, x.machine.switches, x.machine.known, k) ≡ (m, switches, known_by m switches before, length before) =
      (λ i. (h.machine i, h.switches_are i, h.known free.0 i, number i)) in
      let reacted : Machine × List Switch × Known × ℕ → _ = λ z. reacts z.0 z.1 z.2 z.3 t.states t.note in
      let equal = ap reacted same in
      let next : Follows (came_in t ∷ before) turned.0 = record {
        machine = ap (λ (r : Run). r.machine) went.becomes ∙ h.machine;
        switches_are = ap (λ (r : Run). r.switches) went.becomes ∙ h.switches_are;
        known = λ _. ap (λ (r : Run). r.known) went.becomes ∙ ap (λ z. z.known) equal;
        begun = ap (λ (r : Run). r.known.begun) went.becomes ∙ ap (λ z. z.known.begun) equal;
      } in (
        record {
          row = subst (λ (z : ℕ × ℕ). IsRow z.0 z.1 t.states t.note) (λ i. (count i, number i)) l.0;
          controls_are = went.controls_are ∙ ap (λ z. z.ordered.controls) equal;
          word_is = went.word_is ∙ ap (λ z. z.ordered.word) equal;
          lines_are = went.lines_are ∙ ap (λ z. z.ordered.lines) equal;
          goes_on = sym (ap (λ z. z.ordered.end) equal) ∙ sym went.end_is ∙ e;
        },
        pieces k (came_in t ∷ before) 0 b t.pieces y served (wrote (came_in t ∷ before) turned.0 x.outside x.stopped t.lines b turned.2 next),
      ))
      (λ r. absurd (let g = sym e ∙ r.3 in cc)) s.1.1

  none-in : (c : Option Cause) (cs : List Cause) → option_items c ++ cs ≡ [] → (c ≡ None) × (cs ≡ [])
  none-in None cs e = (refl, e)
  none-in (Some c) cs e = cc

  pub turns : (n k : ℕ) (before : List Came) (x : Head Run O) (ts us : List ReactorTurn) (y : Head Run O) → n ≡ length m.boards → k ≡ length before → answered_ends ts ≡ [] → Goes (ReactorStep reactor o n) k x (ts ++ us) y → Follows before x.machine
      → AreReactorTurns m switches before ts
  turns n k before x [] us y count number none g h = tt
  turns n k before x (t ∷ ts) us y count number none g h =
      let here = none-in t.end (answered_ends ts) none in
      let one = turn n k before x t g.0 count number here.0 g.1 h in
      (one.0, turns n (k + 1) (came_in t ∷ before) g.0 ts us y count (let e = number in omega arith) here.1 g.2 one.1)

  -- the turn that ends a run, and what the reactor knows before it
  pub record Last (before : List Came) (n : ℕ) (t : ReactorTurn) (y : Head Run O) : Type 0 where
    pub k : ℕ
    pub number : k ≡ length before
    pub x : Head Run O
    pub follows : Follows before x.machine
    pub step : ReactorStep reactor o n k x t y

  pub last : (n k : ℕ) (before : List Came) (x : Head Run O) (ts : List ReactorTurn) (t : ReactorTurn) (y : Head Run O) → n ≡ length m.boards → k ≡ length before → answered_ends ts ≡ []
      → Goes (ReactorStep reactor o n) k x (ts ++ t ∷ []) y → Follows before x.machine → Last (came_from before ts) n t y
  last n k before x [] t y count number none g h =
      record { k = k; number = number; x = x; follows = h; step = subst (λ (z : Head Run O). ReactorStep reactor o n k x t z) g.2 g.1 }
  last n k before x (u ∷ ts) t y count number none g h =
      let here = none-in u.end (answered_ends ts) none in
      let one = turn n k before x u g.0 count number here.0 g.1 h in
      last n (k + 1) (came_in u ∷ before) g.0 ts t y count (let e = number in omega arith) here.1 g.2 one.1

  -- what it writes is what its function gives, where the run does not end for want of memory
  pub record Ends (before : List Came) (t : ReactorTurn) : Type 0 where
    pub row : IsRow (length m.boards) (length before) t.states t.note
    pub known : Known
    pub begun : known.begun ≡ (known_by m switches before).begun
    pub lines_are : t.lines ≡ (reacts m switches known (length before) t.states t.note).ordered.lines
    pub end_is : t.end ≡ (reacts m switches known (length before) t.states t.note).ordered.end

  pub ends_so : (n : ℕ) (before : List Came) (t : ReactorTurn) (c : Cause) (y : Head Run O) → n ≡ length m.boards → t.end ≡ Some c → (c ≡ cause.Memory → ⊥) → Last before n t y → Ends before t
  ends_so n before t c y count e other l =
      let h = l.follows in
      ⊎_elim
      (λ w.
      let went = w.1.1 in
      let same : (l.x.machine.machine, l.x.machine.switches, l.k) ≡ (m, switches, length before) = (λ i. (h.machine i, h.switches_are i, l.number i)) in
      let equal = ap (λ (z : Machine × List Switch × ℕ). reacts z.0 z.1 l.x.machine.known z.2 t.states t.note) same in
      record {
        row = subst (λ (z : ℕ × ℕ). IsRow z.0 z.1 t.states t.note) (λ i. (count i, l.number i)) w.0;
        known = l.x.machine.known;
        begun = h.begun;
        lines_are = went.lines_are ∙ ap (λ z. z.ordered.lines) equal;
        end_is = went.end_is ∙ ap (λ z. z.ordered.end) equal;
      })
      (λ r. absurd (other (let g = sym e ∙ r.3 in cc))) l.step.1.1

  pub begins : Follows [] (first_run m switches)
  begins = record { machine = refl; switches_are = refl; known = λ _. refl; begun = refl }
