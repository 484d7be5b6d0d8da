-- A board in a whole run, from the logs of its lanes.
use Rattle.std.proofs.Common.{◌≡◌, ℕ, zero, suc, ◌+◌, ◌<◌, ◌≤◌, inl, inr, List, [], ◌∷◌, ◌++◌, map, length, refl, ap, sym, ◌∙◌, subst, arith, append_assoc, append-nil}
use Rattle.laws_board.proofs.Names.{length-map, BoardClock, Machine, Switch, orders, LinkState, Orders, State, Came, GoesOn, known_by, MotionTurn, ReactorTurn, gather, item}
use Rattle.link_work.specs.Stands.{SeenLink, StandsFor}
use Rattle.host_reactor.specs.Runs.{HaveStates}
use Rattle.laws_board.specs.turns.Turns.{BoardTurn}
use Rattle.laws_board.specs.clocks.Runs.{orders_in}
use Rattle.session_work.specs.declared.machines.LinkMachine.{Ghosts as Link}
use Rattle.session_work.specs.declared.machines.MotionMachine.{Ghosts as Motion}
use Rattle.session_work.specs.declared.machines.ReactorMachine.{Ghosts as Reactor}
use Rattle.session_work.specs.declared.machines.Outside.{Ghosts as Out}
use Rattle.session_work.specs.declared.head.Head.{Head}
use Rattle.session_lanes.specs.declared.near.LinkLog.{LinkLog}
use Rattle.session_work.specs.Heads.{IsRow, ReactorStep}
use Rattle.session_work.specs.Leads.{last_controls}
use Rattle.session_lanes.specs.Runs.{AreLogs, Carried, IsLog}
use Rattle.session_work.specs.Turns.{Goes}
use Rattle.session_work.proofs.Goes.{gather_on}
use Rattle.laws_run.specs.lanes.Boards.{IsInWhole, turns_behind, orders_of, states_of}
use Rattle.laws_board.specs.plans.Boards.{TookStates}
use Rattle.laws_run.specs.lanes.Turns.{AllGoOn, AllHaveControls, IsLastTurn, ShowsLink, came_before}
use Rattle.session_run.specs.Boards.{came_in}
use Rattle.laws_run.proofs.lanes.Items.{none_out}
use Rattle.laws_run.proofs.lanes.Walking.{walk, row_length}
use Rattle.laws_run.proofs.run_headline.Earlier.{states_long}
use Rattle.laws_run.proofs.run_lates.Unbegun.{gather_both}

put_is : {T : Type 0} → (s : List T × List T) (put taken : List T) (c : Carried s put taken) → put ≡ taken ++ c.2.0
put_is s put taken c = sym c.0 ∙ c.2.1 ∙ ap (λ l. l ++ c.2.0) c.1

-- the turns before the last one
goes_front : (m : Machine) (switches : List Switch) (before : List Came) (r : ReactorTurn) (more : List ReactorTurn) (end : ReactorTurn) → AllGoOn m switches before (r ∷ more) → GoesOn m switches before
    → GoesOn m switches (came_before before (r ∷ more ++ end ∷ []))
goes_front m switches before r [] end all g = (all.0.goes_on, g)
goes_front m switches before r (x ∷ more) end all g = goes_front m switches (came_in r ∷ before) x more end all.1 (all.0.goes_on, g)

states_next : (m : Machine) (before : List Came) (r : ReactorTurn) → IsRow (length m.boards) (length before) r.states r.note → HaveStates m before → HaveStates m (came_in r ∷ before)
states_next m [] r (inl row) h = row.1
states_next m [] r (inr row) h = let e = row.0 in absurd (omega arith)
states_next m (d ∷ before) r (inl row) h = let e = row.0 in absurd (omega arith)
states_next m (d ∷ before) r (inr row) h = (row.1, h)

states_front : (m : Machine) (switches : List Switch) (before : List Came) (r : ReactorTurn) (more : List ReactorTurn) (end : ReactorTurn) → AllGoOn m switches before (r ∷ more) → HaveStates m before
    → HaveStates m (came_before before (r ∷ more ++ end ∷ []))
states_front m switches before r [] end all h = states_next m before r all.0.row h
states_front m switches before r (x ∷ more) end all h = states_front m switches (came_in r ∷ before) x more end all.1 (states_next m before r all.0.row h)

first_none : (n : ℕ) (r : ReactorTurn) → IsRow n 0 r.states r.note → r.states ≡ []
first_none n r (inl row) = row.1
first_none n r (inr row) = let e = row.0 in absurd (omega arith)

-- the orders of turns behind others
orders_behind : (turns made : List BoardTurn) → orders_in (turns_behind turns made) ≡ orders_in turns ++ orders_of made
orders_behind turns [] = sym (append-nil (orders_in turns))
orders_behind turns (t ∷ made) = orders_behind (t ∷ turns) made ∙ append_assoc (orders_in turns) (orders t.control t.batch ∷ []) (orders_of made)

-- a list that begins as a longer one does is its front
pub front_of : {A : Type 0} (xs ys us vs : List A) → xs ++ us ≡ ys ++ vs → length xs ≤ length ys → (left : List A) × (xs ++ left ≡ ys)
front_of [] ys us vs e few = (ys, refl)
front_of (x ∷ xs) [] us vs e few = absurd (omega (arith, few))
front_of (x ∷ xs) (y ∷ ys) us vs e few =
    let first : x ≡ y = cc in
    let then : xs ++ us ≡ ys ++ vs = cc in
    let f = front_of xs ys us vs then (omega (arith, few)) in
    (f.0, ap (λ z. z ∷ (xs ++ f.0)) first ∙ ap (λ z. y ∷ z) f.1)

-- turns that go on, but the last
all_parts : (m : Machine) (switches : List Switch) (before : List Came) (rs : List ReactorTurn) (last : ReactorTurn) → AllGoOn m switches before (rs ++ last ∷ []) → AllGoOn m switches before rs
all_parts m switches before [] last all = tt
all_parts m switches before (r ∷ rs) last all = (all.0, all_parts m switches (came_in r ∷ before) rs last all.1)

last_turn_is : (m : Machine) (switches : List Switch) (before : List Came) (r : ReactorTurn) (rs : List ReactorTurn) (last : ReactorTurn) → AllGoOn m switches before (r ∷ (rs ++ last ∷ [])) → IsLastTurn m last
last_turn_is m switches before r [] last all = record {
  count = row_length (length m.boards) (length before) last all.1.0.row;
  in_memory = none_out m switches (known_by m switches (came_in r ∷ before)) (length (came_in r ∷ before)) last.states last.note all.1.0.goes_on;
}
last_turn_is m switches before r (x ∷ rs) last all = last_turn_is m switches (came_in r ∷ before) x rs last all.1

module _ {M L A O : Type 0} (mo : Motion M) (l : Link L) (a : Reactor A) (o : Out O) where
  from_log : (view : L → SeenLink) → ShowsLink l.turns view → (m : Machine) (switches : List Switch) (b : ℕ) (clock : BoardClock) (begin : LinkState) (ts : List MotionTurn) (first : ReactorTurn) (rest : List ReactorTurn) (end : ReactorTurn) (n : ℕ) (s : L) (x : LinkLog)
      → b < length m.boards → AllGoOn m switches [] (first ∷ rest) → IsLastTurn m end → IsLog mo l a o ts (first ∷ rest) end n b s x → StandsFor (view s) begin → (view s).clock ≡ clock → IsInWhole m switches b clock begin ts first (rest ++ end ∷ [])
  from_log view shows m switches b clock begin ts first rest end n s x board all ending log stands same =
      let us = log.0 in
      let last = log.1 in
      let rs = first ∷ rest in
      let none : first.states ≡ [] = first_none (length m.boards) first all.0.row in
      let empty : item b first.states ≡ [] = ap (item b) none in
      let controls_put = put_is _ _ _ log.3 in
      let controls : gather (λ t. item b t.controls) rs ++ last_controls (length rs) n ≡ gather (λ u. u.control ∷ []) us ++ (last ++ log.3.2.0) =
      controls_put ∙ append_assoc (gather (λ u. u.control ∷ []) us) last log.3.2.0 in
      let states_put = put_is _ _ _ log.5 in
      let states : gather (λ u. u.state ∷ []) us ≡ gather (λ t. item b t.states) (rest ++ end ∷ []) ++ log.5.2.0 =
      states_put ∙ ap (λ l. (l ++ gather (λ t. item b t.states) (rest ++ end ∷ [])) ++ log.5.2.0) empty in
      let w = walk l.turns view shows m switches b clock begin board [] [] s 0 first rest end us log.2.0 (last_controls (length rs) n) (last ++ log.3.2.0) log.5.2.0
      refl refl log.2.1 stands same all ending controls states empty tt tt in
      let batches_put = put_is _ _ _ log.4 in
      record {
        made = w.made;
        both = w.both;
        turns_are = w.are;
        goes_on = goes_front m switches [] first rest end all tt;
        have_states = states_front m switches [] first rest end all tt;
        in_range = w.in_range;
        few = w.few;
        in_order = orders_behind [] w.made;
        told = w.told;
        states = w.states;
        batches = (w.left ++ log.4.2.0, sym (append_assoc (map (λ o. o.batch) (orders_of w.made)) w.left log.4.2.0) ∙ ap (λ l. l ++ log.4.2.0) w.batches ∙ sym batches_put);
      }

  -- So it is up to a turn before the last one that goes on, of the planner's turns that the board had by then.
  from_front : (view : L → SeenLink) → ShowsLink l.turns view → (m : Machine) (switches : List Switch) (b : ℕ) (clock : BoardClock) (begin : LinkState) (ts front later : List MotionTurn) (first : ReactorTurn) (rest : List ReactorTurn) (last end : ReactorTurn) (n : ℕ) (s : L) (x : LinkLog)
      → b < length m.boards → AllGoOn m switches [] (first ∷ (rest ++ last ∷ [])) → IsLog mo l a o ts (first ∷ (rest ++ last ∷ [])) end n b s x → StandsFor (view s) begin → (view s).clock ≡ clock
      → ts ≡ front ++ later → length (rest ++ last ∷ []) ≤ length (gather (λ t. item b t.batches) front) → IsInWhole m switches b clock begin front first (rest ++ last ∷ [])
  from_front view shows m switches b clock begin ts front later first rest last end n s x board all log stands same cut long =
      let us = log.0 in
      let own = log.1 in
      let rs = first ∷ rest in
      let parts = all_parts m switches [] rs last all in
      let ending = last_turn_is m switches [] first rest last all in
      let none : first.states ≡ [] = first_none (length m.boards) first all.0.row in
      let empty : item b first.states ≡ [] = ap (item b) none in
      let controls_of = λ (t : ReactorTurn). item b t.controls in
      let states_of_board = λ (t : ReactorTurn). item b t.states in
      let put_on = item b last.controls ++ last_controls (length (first ∷ (rest ++ last ∷ []))) n in
      let controls : gather controls_of rs ++ put_on ≡ gather (λ u. u.control ∷ []) us ++ (own ++ log.3.2.0) =
      sym (append_assoc (gather controls_of rs) (item b last.controls) (last_controls (length (first ∷ (rest ++ last ∷ []))) n))
      ∙ ap (λ z. z ++ last_controls (length (first ∷ (rest ++ last ∷ []))) n) (sym (gather_on controls_of rs last))
      ∙ put_is _ _ _ log.3 ∙ append_assoc (gather (λ u. u.control ∷ []) us) own log.3.2.0 in
      let told_on = gather states_of_board (end ∷ []) ++ log.5.2.0 in
      let states : gather (λ u. u.state ∷ []) us ≡ gather states_of_board (rest ++ last ∷ []) ++ told_on =
      put_is _ _ _ log.5 ∙ ap (λ z. (z ++ gather states_of_board ((rest ++ last ∷ []) ++ end ∷ [])) ++ log.5.2.0) empty
      ∙ ap (λ z. z ++ log.5.2.0) (gather_both states_of_board (rest ++ last ∷ []) (end ∷ [])) ∙ append_assoc (gather states_of_board (rest ++ last ∷ [])) (gather states_of_board (end ∷ [])) log.5.2.0 in
      let w = walk l.turns view shows m switches b clock begin board [] [] s 0 first rest last us log.2.0 put_on (own ++ log.3.2.0) told_on
      refl refl log.2.1 stands same parts ending controls states empty tt tt in
      let taken = map (λ (z : Orders). z.batch) (orders_of w.made) in
      let batches_of = λ (t : MotionTurn). item b t.batches in
      let batches : taken ++ (w.left ++ log.4.2.0) ≡ gather batches_of front ++ gather batches_of later =
      sym (append_assoc taken w.left log.4.2.0) ∙ ap (λ z. z ++ log.4.2.0) w.batches ∙ sym (put_is _ _ _ log.4) ∙ ap (gather batches_of) cut ∙ gather_both batches_of front later in
      let few : length taken ≤ length (gather batches_of front) =
      (let many = states_long b (rest ++ last ∷ []) (states_of w.made) w.states in let a = length-map (orders_of w.made) (λ (z : Orders). z.batch) in let c = length-map w.made (λ (z : BoardTurn). orders z.control z.batch) in
      let d = length-map w.made (λ (z : BoardTurn). z.state) in omega (arith, many, a, c, d, long)) in
      let f = front_of taken (gather batches_of front) (w.left ++ log.4.2.0) (gather batches_of later) batches few in
      record {
        made = w.made;
        both = w.both;
        turns_are = w.are;
        goes_on = goes_front m switches [] first rest last parts tt;
        have_states = states_front m switches [] first rest last parts tt;
        in_range = w.in_range;
        few = w.few;
        in_order = orders_behind [] w.made;
        told = w.told;
        states = w.states;
        batches = f;
      }

  log_at : (ts : List MotionTurn) (rs : List ReactorTurn) (end : ReactorTurn) (n j b i : ℕ) (ss : List L) (xs : List LinkLog) (s : L) → AreLogs mo l a o ts rs end n j ss xs → j + b ≡ i → item b ss ≡ s ∷ []
      → (x : LinkLog) × IsLog mo l a o ts rs end n i s x
  log_at ts rs end n j b i [] xs s logs e at = absurd (nothing s at)
    where
      nothing : (s : L) → [] ≡ s ∷ [] → ⊥
      nothing s e = cc
  log_at ts rs end n j b i (y ∷ ss) [] s logs e at = absurd logs
  log_at ts rs end n j zero i (y ∷ ss) (x ∷ xs) s logs e at =
      let same : y ≡ s = first_is y s at in
      let place : j ≡ i = omega arith in
      (x, subst (λ (k : ℕ). IsLog mo l a o ts rs end n k s x) place (subst (λ (z : L). IsLog mo l a o ts rs end n j z x) same logs.0))
    where
      first_is : (y s : L) → y ∷ [] ≡ s ∷ [] → y ≡ s
      first_is y s e = cc
  log_at ts rs end n j (suc b) i (y ∷ ss) (x ∷ xs) s logs e at = log_at ts rs end n (j + 1) b i ss xs s logs.1 (omega arith) at

  pub in_whole : (view : L → SeenLink) → ShowsLink l.turns view → (m : Machine) (switches : List Switch) (b : ℕ) (clock : BoardClock) (begin : LinkState) (ts : List MotionTurn) (first : ReactorTurn) (rest : List ReactorTurn) (end : ReactorTurn) (n : ℕ) (links : List L) (logs : List LinkLog) (s : L)
      → b < length m.boards → AllGoOn m switches [] (first ∷ rest) → IsLastTurn m end → AreLogs mo l a o ts (first ∷ rest) end n 0 links logs → item b links ≡ s ∷ [] → StandsFor (view s) begin → (view s).clock ≡ clock
      → IsInWhole m switches b clock begin ts first (rest ++ end ∷ [])
  in_whole view shows m switches b clock begin ts first rest end n links logs s board all ending are at stands same =
      let log = log_at ts (first ∷ rest) end n 0 b b links logs s are (omega arith) at in
      from_log view shows m switches b clock begin ts first rest end n s log.0 board all ending log.1 stands same

  pub in_front : (view : L → SeenLink) → ShowsLink l.turns view → (m : Machine) (switches : List Switch) (b : ℕ) (clock : BoardClock) (begin : LinkState) (ts front later : List MotionTurn) (first : ReactorTurn) (rest : List ReactorTurn) (last end : ReactorTurn) (n : ℕ) (links : List L)
      (logs : List LinkLog) (s : L) → b < length m.boards → AllGoOn m switches [] (first ∷ (rest ++ last ∷ [])) → AreLogs mo l a o ts (first ∷ (rest ++ last ∷ [])) end n 0 links logs → item b links ≡ s ∷ [] → StandsFor (view s) begin → (view s).clock ≡ clock
      → ts ≡ front ++ later → length (rest ++ last ∷ []) ≤ length (gather (λ t. item b t.batches) front) → IsInWhole m switches b clock begin front first (rest ++ last ∷ [])
  in_front view shows m switches b clock begin ts front later first rest last end n links logs s board all are at stands same cut long =
      let log = log_at ts (first ∷ (rest ++ last ∷ [])) end n 0 b b links logs s are (omega arith) at in
      from_front view shows m switches b clock begin ts front later first rest last end n s log.0 board all log.1 stands same cut long

module _ {A O : Type 0} (a : Reactor A) (o : Out O) where
  pub have_controls : (n k : ℕ) (x : Head A O) (ts us : List ReactorTurn) (y : Head A O) → Goes (ReactorStep a o n) k x (ts ++ us) y → AllHaveControls n ts
  have_controls n k x [] us y g = tt
  have_controls n k x (t ∷ ts) us y g = (g.1.1.0, have_controls n (k + 1) g.0 ts us y g.2)
