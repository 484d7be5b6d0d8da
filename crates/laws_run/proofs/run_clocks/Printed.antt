-- The `board` lines of a report tell clock lines that follow the boards' clocks.
use Rattle.std.proofs.Common.{◌≡◌, ◌⊎◌, ℕ, zero, suc, ◌<◌, List, [], ◌∷◌, ◌++◌, length, refl, ap, sym, ◌∙◌, subst, arith, inl, inr, append_assoc, append-nil}
use Rattle.laws_board.proofs.Names.{Cause, Machine, Line, clock_of, Clocks, IsValidMachine, board_at, clocks_at, ReportLine, Scene, Switch, pins_of, Connecting, noted, Run, Came, known_by, last_reacted, MotionTurn, ReactorTurn, gather}
use Rattle.plan_types.specs.declared.cause.Cause.TheVariants as cause
use Rattle.plan_types.specs.Sections.{first_start}
use Rattle.io_core.specs.declared.traits.Files.{Ghosts as Files}
use Rattle.io_core.specs.declared.traits.Sink.{Ghosts as Sink}
use Rattle.host_reactor.specs.declared.ordered.Phase.TheVariants.{Running}
use Rattle.host_reactor.specs.Rows.{HasEachBoard}
use Rattle.host_reactor.proofs.Rowing.{rowed, whole-first}
use Rattle.laws_board.specs.clocks.Runs.{IsInRun}
use Rattle.laws_board.specs.clocks.Samples.{first_line}
use Rattle.laws_board.proofs.clocks.Lines.{known_lines, noted_phase}
use Rattle.session_lanes.specs.declared.near.Told as near
use Rattle.session_run.specs.declared.tell.Kept.{Kept}
use Rattle.session_run.specs.Boards.{AreReactorTurns, came_from, came_in}
use Rattle.session_run.specs.Runs.{RunsOver}
use Rattle.laws_run.specs.lanes.Boards.{turns_behind}
use Rattle.laws_run.specs.run_ends.Boards.{boards_of, lines_at}
use Rattle.laws_run.proofs.run_ends.Connecting.{Connects, after_boards, as_clocks, boards_append, both_none, end_none, tells_boards}
use Rattle.laws_run.specs.run_headline.Near.{FollowsClock}
use Rattle.laws_run.proofs.run_headline.Boarded.{came_cut, came_long, came_split, valid_at}
use Rattle.laws_run.proofs.run_headline.Facts.{turns_cut}
use Rattle.laws_run.proofs.run_headline.Fronts.{front_of}
use Rattle.laws_run.proofs.run_headline.Near.{follows_clock}
use Rattle.laws_run.proofs.run_headline.Runs.{run_ended}
use Rattle.laws_run.proofs.run_headline.Showing.{Ended, Facts}
use Rattle.laws_run.proofs.home_headline.Clocks.{clocks_on}
use Rattle.laws_run.specs.run_clocks.Printed.{TellKnownLines}
use Rattle.laws_run.proofs.run_lates.Unbegun.{gather_both}
use Rattle.laws_homing.proofs.clear_groups.Noted.{drift_small}

abbrev Lines : List ReactorTurn → List ReportLine
Lines turns = gather (λ (t : ReactorTurn). t.lines) turns

-- the turn of some that tells the boards, where there is one
record Told (m : Machine) (switches : List Switch) (before : List Came) (turns : List ReactorTurn) : Type 0 where
  past : List ReactorTurn
  turn : ReactorTurn
  later : List ReactorTurn
  are : turns ≡ past ++ turn ∷ later
  quiet : boards_of (Lines past) ≡ []
  tells : Connects (noted m turn.note (known_by m switches (came_from before past))) (length (came_from before past)) (last_reacted m switches (came_in turn) (came_from before past))

find : (m : Machine) (switches : List Switch) (before : List Came) (ts : List ReactorTurn) → AreReactorTurns m switches before ts → (boards_of (Lines ts) ≡ []) ⊎ Told m switches before ts
find m switches before [] h = inl refl
find m switches before (t ∷ ts) h = elim (tells_boards m switches (known_by m switches before) (length before) t.states t.note) [
  | inr x ↦ inr (record { past = []; turn = t; later = ts; are = refl; quiet = refl; tells = x })
  | inl n ↦
      let own = ap boards_of h.0.lines_are ∙ n.0 in
      elim (find m switches (came_in t ∷ before) ts h.1) [
        | inl e ↦ inl (both_none t.lines (Lines ts) own e)
        | inr f ↦ inr (record { past = t ∷ f.past; turn = f.turn; later = f.later; are = ap (λ z. t ∷ z) f.are; quiet = both_none t.lines (Lines f.past) own f.quiet; tells = f.tells })
      ]
]

-- a reactor knows a clock line for each board once connecting ended
known_whole : (m : Machine) (switches : List Switch) (came : List Came) → HasEachBoard m (known_by m switches came)
known_whole m switches [] = whole-first m
known_whole m switches (c ∷ before) = (rowed m switches (known_by m switches before) (length before) c.states c.note (known_whole m switches before)).whole

first_at : (b : ℕ) (clocks : List Clocks) (l : Line) → first_line b clocks ≡ l ∷ [] → (clocks_at clocks b).first ≡ l
first_at zero [] l e = cc
first_at (suc b) [] l e = cc
first_at zero (c ∷ clocks) l e = cc
first_at (suc b) (c ∷ clocks) l e = first_at b clocks l e

module _ (m : Machine) (v : IsValidMachine m) (s : Scene) (ts : List MotionTurn) (end : ReactorTurn) (c : Cause) where
  -- the clock line of a board that is known behind a turn follows its clock
  follow : (first : ReactorTurn) (rest : List ReactorTurn) → Facts m s ts (first ∷ rest) end c → (x : Told m s.switches [] (first ∷ rest)) → (b : ℕ) → b < length m.boards
      → FollowsClock (clock_of (board_at m b)) (clocks_at (known_by m s.switches (came_in x.turn ∷ came_from [] x.past)).clocks b).first
  follow first rest f x b h =
      let pins = pins_of (board_at m b) b s.switches in
      let clock = clock_of (board_at m b) in
      let w = f.boards b first rest h refl in
      let turns = turns_behind [] w.made in
      let came = came_in x.turn ∷ came_from [] x.past in
      let Run : List Came → Type 0 = λ z. IsInRun m s.switches pins s.entries b z turns in
      let run = subst Run (came_cut [] first rest end) (record { board = h; goes_on = w.goes_on; turns_are = w.turns_are; both = w.both; in_range = w.in_range }) in
      let front = front_of m v s.switches pins s.entries b came x.later turns (subst Run (ap (came_from []) x.are ∙ came_split [] x.past x.turn x.later) run) in
      let known = known_lines m s.switches pins s.entries b came front.front front.run (λ e. let g : Running ≡ Connecting = sym x.tells.after ∙ e in cc) in
      let valid = valid_at m.boards b h v.boards in
      let Follows : Line → Type 0 = λ z. FollowsClock clock z in
      subst Follows (sym (first_at b (known_by m s.switches came).clocks known.0 known.1)) (follows_clock clock front.front known.0 valid.freq.whole (drift_small (board_at m b).drift valid.drift_low valid.drift_high) known.2)

  told_lines : (rs : List ReactorTurn) → Ended m s ts rs end c → (boards_of (Lines (rs ++ end ∷ [])) ≡ []) ⊎ TellKnownLines m s.switches rs (Lines (rs ++ end ∷ []))
  told_lines rs e = by (find m s.switches [] rs e.facts.turns)
    where
      none_last : boards_of end.lines ≡ []
      none_last = ap boards_of e.facts.lines_are ∙ end_none m s.switches e.facts.known (length (came_from [] rs)) end.states end.note c (sym e.end_is)

      split : (xs ys : List ReactorTurn) → boards_of (Lines (xs ++ ys)) ≡ boards_of (Lines xs) ++ boards_of (Lines ys)
      split xs ys = ap boards_of (gather_both (λ (t : ReactorTurn). t.lines) xs ys) ∙ boards_append (Lines xs) (Lines ys)

      last_is : boards_of (Lines (end ∷ [])) ≡ []
      last_is = ap boards_of (append-nil end.lines) ∙ none_last

      follows : (turns : List ReactorTurn) → Facts m s ts turns end c → (x : Told m s.switches [] turns) → (b : ℕ) → b < length m.boards
          → FollowsClock (clock_of (board_at m b)) (clocks_at (known_by m s.switches (came_in x.turn ∷ came_from [] x.past)).clocks b).first
      follows [] f x b h = absurd (none x.past x.turn x.later x.are)
        where
          none : (past : List ReactorTurn) (turn : ReactorTurn) (later : List ReactorTurn) → [] ≡ past ++ turn ∷ later → ⊥
          none [] turn later e = cc
          none (y ∷ past) turn later e = cc
      follows (first ∷ rest) f x b h = follow first rest f x b h

      by : (boards_of (Lines rs) ≡ []) ⊎ Told m s.switches [] rs → (boards_of (Lines (rs ++ end ∷ [])) ≡ []) ⊎ TellKnownLines m s.switches rs (Lines (rs ++ end ∷ []))
      by (inl none) = inl (split rs (end ∷ []) ∙ ap (λ z. z ++ boards_of (Lines (end ∷ []))) none ∙ last_is)
      by (inr x) =
          let before = came_from [] x.past in
          let came = came_in x.turn ∷ before in
          let Turns : List ReactorTurn → Type 0 = λ z. AreReactorTurns m s.switches [] z in
          let parts = turns_cut m s.switches [] x.past (x.turn ∷ x.later) (subst Turns x.are e.facts.turns) in
          let phase = sym (noted_phase m x.turn.note (known_by m s.switches before)) ∙ x.tells.before in
          let clocks = (known_by m s.switches came).clocks in
          let known = clocks_on m s.switches (came_in x.turn) before x.tells.lines parts.1.0.goes_on phase x.tells.after x.tells.news in
          let size = came_long [] x.past in
          let k = length x.past in
          let here : length before ≡ k = omega (arith, size) in
          let own : boards_of x.turn.lines ≡ lines_at (first_start k) 0 clocks =
          ap boards_of parts.1.0.lines_are ∙ x.tells.boards ∙ as_clocks (length before) 0 x.tells.lines ∙ ap (lines_at (first_start (length before)) 0) (sym known) ∙ ap (λ i. lines_at (first_start i) 0 clocks) here in
          let on : (known_by m s.switches came).phase ≡ Connecting → ⊥ = λ q. let g : Running ≡ Connecting = sym x.tells.after ∙ q in cc in
          let after = after_boards m s.switches came x.later parts.1.1 on in
          let behind_it : boards_of (Lines (x.later ++ end ∷ [])) ≡ [] = split x.later (end ∷ []) ∙ ap (λ z. z ++ boards_of (Lines (end ∷ []))) after ∙ last_is in
          let whole : rs ++ end ∷ [] ≡ x.past ++ x.turn ∷ (x.later ++ end ∷ []) = ap (λ z. z ++ end ∷ []) x.are ∙ append_assoc x.past (x.turn ∷ x.later) (end ∷ []) in
          inr (record {
            connected = k;
            ends = record { past = x.past; turn = x.turn; later = x.later; are = x.are; number = refl; before = phase; behind = x.tells.after };
            clocks = clocks;
            count = elim (known_whole m s.switches came).clocks [ inl q ↦ absurd (on q) | inr q ↦ q ];
            follow = follows rs e.facts x;
            told = ap (λ z. boards_of (Lines z)) whole ∙ split x.past (x.turn ∷ (x.later ++ end ∷ [])) ∙ ap (λ z. z ++ boards_of (x.turn.lines ++ Lines (x.later ++ end ∷ []))) x.quiet ∙ boards_append x.turn.lines (Lines (x.later ++ end ∷ []))
                ∙ ap (λ z. boards_of x.turn.lines ++ z) behind_it ∙ append-nil (boards_of x.turn.lines) ∙ own;
          })

pub run_printed : {F S : Type 0} (f : Files F) (o : Sink S) (m : Machine) (s : Scene) (name : List ℕ) (files files' : F) (out out' : S) (kept kept' : Kept) (t : near.Told Run) (r : RunsOver f o m s name files out kept t files' out' kept') → IsValidMachine m
    → (t.cause ≡ cause.Memory → ⊥) → (boards_of (Lines (r.runs.1 ++ r.runs.2 ∷ [])) ≡ []) ⊎ TellKnownLines m s.switches r.runs.1 (Lines (r.runs.1 ++ r.runs.2 ∷ []))
run_printed f o m s name files files' out out' kept kept' t r v other = told_lines m v s r.runs.0 r.runs.2 t.cause r.runs.1 (run_ended f o m s name files files' out out' kept kept' t r other)
