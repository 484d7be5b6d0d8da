-- What the boards' states tell of their triggers, in the turns of a run before its last one.
use Rattle.std.proofs.Common.{◌≡◌, ℕ, ◌<◌, List, [], ◌∷◌, ◌++◌, length, Option, refl, ap, sym, ◌∙◌, subst, arith, inl, inr, rules}
use Rattle.laws_board.proofs.Names.{Level, Machine, board_at, Note, State, Entry, Scene, Switch, pins_of, Run, Came, ReactorTurn, item}
use Rattle.io_core.specs.declared.traits.Files.{Ghosts as Files}
use Rattle.io_core.specs.declared.traits.Sink.{Ghosts as Sink}
use Rattle.laws_board.specs.turns.Turns.{BoardTurn, latest_state}
use Rattle.session_lanes.specs.declared.near.Told.{Told}
use Rattle.session_work.specs.Heads.{IsRow}
use Rattle.session_run.specs.declared.tell.Kept.{Kept}
use Rattle.session_run.specs.Boards.{came_from, came_in}
use Rattle.session_run.specs.Runs.{RunsOver}
use Rattle.laws_board.specs.clocks.Runs.{IsInRun}
use Rattle.laws_board.proofs.clocks.Lines.{run_before}
use Rattle.laws_run.specs.lanes.Boards.{turns_behind, states_of}
use Rattle.laws_board.specs.plans.Boards.{TookStates}
use Rattle.laws_run.proofs.run_headline.Boarded.{came_cut, came_split}
use Rattle.laws_run.proofs.run_headline.Cutting.{run_front}
use Rattle.laws_homing.specs.switch_runs.Reading.{AllTellTrue, TellTrue}
use Rattle.laws_homing.specs.switch_runs.Runs.{IsReadInRun}
use Rattle.laws_homing.proofs.switch_runs.Ordering.{run_tells}
use Rattle.laws_run.specs.home_headline.Reports.{TellOfReadings}
use Rattle.laws_homing.proofs.missed_groups.Told.{same_state}

-- what the latest state tells
latest_tells : (F : ℕ → Type 0) (turns : List BoardTurn) (state : State) → AllTellTrue F turns → latest_state turns ≡ state ∷ [] → TellTrue F state.news
latest_tells F [] state all e = cc
latest_tells F (t ∷ before) state all e = let same : t.state ≡ state = cc in subst (λ (s : State). TellTrue F s.news) same all.0

-- so the states of one board in some turns of the reactor
abbrev Tell : Machine → List Switch → List (List Level) → ℕ → List Came → Type 0
Tell m switches pins b [] = Unit {0}
Tell m switches pins b (c ∷ before) = ((state : State) → item b c.states ≡ state ∷ [] → TellTrue (IsReadInRun m switches pins b before) state.news) × Tell m switches pins b before

one_tells : (m : Machine) (switches : List Switch) (pins : List (List Level)) (entries : List Entry) (b : ℕ) (c : Came) (before : List Came) (turns : List BoardTurn) → IsInRun m switches pins entries b before turns → item b c.states ≡ latest_state turns
    → (state : State) → item b c.states ≡ state ∷ [] → TellTrue (IsReadInRun m switches pins b before) state.news
one_tells m switches pins entries b c before turns run latest state is = latest_tells (IsReadInRun m switches pins b before) turns state (run_tells m switches pins entries b before turns run) (sym latest ∙ is)

all_tell : (m : Machine) (switches : List Switch) (pins : List (List Level)) (entries : List Entry) (b : ℕ) (came : List Came) (turns : List BoardTurn) → IsInRun m switches pins entries b came turns → Tell m switches pins b came
all_tell m switches pins entries b [] turns run = tt
all_tell m switches pins entries b (c ∷ before) [] run = absurd run.both
all_tell m switches pins entries b (c ∷ before) (t ∷ turns) run =
    let rest = run_before m switches pins entries b c before t turns run in
    (one_tells m switches pins entries b c before turns rest (sym (same_state b c.states) ∙ run.both.0), all_tell m switches pins entries b before turns rest)

-- and those of all boards
boards_tell : (m : Machine) (switches : List Switch) (came : List Came) → ((b : ℕ) → b < length m.boards → Tell m switches (pins_of (board_at m b) b switches) b came) → TellOfReadings m switches came
boards_tell m switches [] all = tt
boards_tell m switches (c ∷ before) all = (λ b state low is. (all b low).0 state is, boards_tell m switches before (λ b low. (all b low).1))

-- in the last of some turns the reactor took what the board told in its latest one
took_latest : (b : ℕ) (rest : List ReactorTurn) (last : ReactorTurn) (made turns : List BoardTurn) → TookStates b (rest ++ last ∷ []) (states_of made) → item b last.states ≡ latest_state (turns_behind turns made)
took_latest b [] last [] turns took = absurd took
took_latest b [] last (t ∷ []) turns took = took.0
took_latest b [] last (t ∷ u ∷ made) turns took = let no = took.1 in cc
took_latest b (x ∷ rest) last [] turns took = absurd took
took_latest b (x ∷ rest) last (t ∷ made) turns took = took_latest b rest last made (t ∷ turns) took.1

-- the last of some turns
last_of : (t : ReactorTurn) (ts : List ReactorTurn) → (front : List ReactorTurn) × (last : ReactorTurn) × (t ∷ ts ≡ front ++ last ∷ [])
last_of t [] = ([], t, refl)
last_of t (x ∷ ts) = let r = last_of x ts in (t ∷ r.0, r.1, ap (λ z. t ∷ z) r.2)

-- in the first turn no state comes
none_came : (n : ℕ) (states : List State) (taken : Option Note) (b : ℕ) (state : State) → IsRow n 0 states taken → item b states ≡ state ∷ [] → ⊥
none_came n states taken b state row is = search (rules, item)

module _ {F S : Type 0} (f : Files F) (o : Sink S) (m : Machine) (s : Scene) (name : List ℕ) (files files' : F) (out out' : S) (kept kept' : Kept) (t : Told Run) (r : RunsOver f o m s name files out kept t files' out' kept') where
  front_tells : (front : List ReactorTurn) (last : ReactorTurn) → r.runs.1 ≡ front ++ last ∷ [] → TellOfReadings m s.switches (came_in last ∷ came_from [] front)
  front_tells [] last cut =
      let part = run_front f o m s name files files' out out' kept kept' t r [] last cut in
      (λ b state low is. absurd (none_came (length m.boards) last.states last.note b state part.facts.row is), tt)
  front_tells (first ∷ rest) last cut =
      let part = run_front f o m s name files files' out out' kept kept' t r (first ∷ rest) last cut in
      boards_tell m s.switches (came_in last ∷ came_from [] (first ∷ rest)) (λ b low.
      let pins = pins_of (board_at m b) b s.switches in
      let w = part.facts.boards b first rest low refl in
      let turns = turns_behind [] w.made in
      let Run : List Came → Type 0 = λ came. IsInRun m s.switches pins s.entries b came turns in
      let run = subst Run (came_cut [] first rest last) (record { board = low; goes_on = w.goes_on; turns_are = w.turns_are; both = w.both; in_range = w.in_range }) in (
        one_tells m s.switches pins s.entries b (came_in last) (came_from [] (first ∷ rest)) turns run (took_latest b rest last w.made [] w.states),
        all_tell m s.switches pins s.entries b (came_from [] (first ∷ rest)) turns run,
      ))

  turns_tell : (turns : List ReactorTurn) → r.runs.1 ≡ turns → TellOfReadings m s.switches (came_from [] turns)
  turns_tell [] are = tt
  turns_tell (first ∷ rest) are =
      let x = last_of first rest in
      let At : List Came → Type 0 = λ came. TellOfReadings m s.switches came in
      subst At (sym (ap (came_from []) x.2 ∙ came_split [] x.0 x.1 [])) (front_tells x.0 x.1 (are ∙ x.2))

pub run_reads : {F S : Type 0} (f : Files F) (o : Sink S) (m : Machine) (s : Scene) (name : List ℕ) (files files' : F) (out out' : S) (kept kept' : Kept) (t : Told Run) (r : RunsOver f o m s name files out kept t files' out' kept')
    → TellOfReadings m s.switches (came_from [] r.runs.1)
run_reads f o m s name files files' out out' kept kept' t r = turns_tell f o m s name files files' out out' kept kept' t r r.runs.1 refl
