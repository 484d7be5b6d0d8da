-- Which lines stand in the report of a whole run in which axes home.
use Rattle.std.proofs.Common.{◌≡◌, ◌≢◌, ℕ, ◌+◌, List, [], ◌∷◌, ◌++◌}
use Rattle.laws_board.proofs.Names.{Cause, Machine, Clocks, ReportLine, ReactorTurn, gather}
use Rattle.laws_board.specs.plans.Lines.{heads_of}
use Rattle.laws_board.specs.plans.Planned.{PlannerInput}
use Rattle.laws_run.specs.run_headline.Further.{TellFurther}
use Rattle.laws_run.specs.run_headline.Timely.{AreSound}
use Rattle.laws_run.proofs.run_lines.Further.{Reach, further_front}
use Rattle.laws_run.specs.run_lines.Due.{BoardsHave, StandApart}
use Rattle.laws_run.proofs.run_lines.Heads.{ShowStarts, boards_first, heads_first, heads_whole, some_first, starts_apart}
use Rattle.laws_run.specs.home_headline.Follow.{HaveBegunLines, ShowBegun, ShowHomes}

starts : (m : Machine) (seen : PlannerInput) (clocks : List Clocks) (ready : ℕ) (c : Cause) (first : ReactorTurn) (rest : List ReactorTurn) → ShowHomes m seen clocks ready c first rest → ShowStarts m seen clocks ready first rest
starts m seen clocks ready c first rest h = record { late = h.late; started = h.started; boards = h.boards; lines = h.lines; early = h.early }

-- what does not ask for its pulses
pub show_begun : (m : Machine) (seen : PlannerInput) (clocks : List Clocks) (ready : ℕ) (c : Cause) (first : ReactorTurn) (rest : List ReactorTurn) → ShowHomes m seen clocks ready c first rest → ShowBegun m seen clocks ready c first rest
show_begun m seen clocks ready c first rest h = record { of_text = h.of_text; late = h.late; started = h.started; boards = h.boards; lines = h.lines; through = h.through; counts = h.counts; sound = h.sound; further = h.further }

pub begun_heads : (m : Machine) (seen : PlannerInput) (clocks : List Clocks) (ready : ℕ) (c : Cause) (first : ReactorTurn) (rest : List ReactorTurn) → ShowBegun m seen clocks ready c first rest → HaveBegunLines m seen.text clocks ready c (gather (λ t. t.lines) (first ∷ rest))
begun_heads m seen clocks ready c first rest h = record {
  begun = seen.begun;
  of_text = h.of_text;
  started = h.started;
  front = heads_first m clocks ready seen.begun (first ∷ rest) h.late h.started h.lines;
  all = λ g. let t = h.through g in (t.all, heads_whole m clocks ready seen.begun first rest h.late h.started h.lines t.over);
}

pub home_boards : (m : Machine) (seen : PlannerInput) (clocks : List Clocks) (ready : ℕ) (c : Cause) (first : ReactorTurn) (rest : List ReactorTurn) (said more : List ReportLine) → ShowBegun m seen clocks ready c first rest
    → gather (λ t. t.lines) (first ∷ rest) ≡ said ++ more → heads_of said ≢ [] → BoardsHave clocks ready said
home_boards m seen clocks ready c first rest said more h are some = boards_first m clocks ready seen.begun (first ∷ rest) said more h.late h.started h.lines h.boards are some

pub homes_apart : (m : Machine) (seen : PlannerInput) (clocks : List Clocks) (ready : ℕ) (c : Cause) (first : ReactorTurn) (rest : List ReactorTurn) → ShowHomes m seen clocks ready c first rest
    → (said more : List ReportLine) → gather (λ t. t.lines) (first ∷ rest) ≡ said ++ more → heads_of said ≢ [] → StandApart m clocks ready said
homes_apart m seen clocks ready c first rest h said more are some = starts_apart m seen clocks ready first rest (starts m seen clocks ready c first rest h) said more are some

-- where a section has its line, one was begun
pub homes_sound : (m : Machine) (seen : PlannerInput) (clocks : List Clocks) (ready : ℕ) (c : Cause) (first : ReactorTurn) (rest : List ReactorTurn) (said more : List ReportLine) → ShowBegun m seen clocks ready c first rest
    → gather (λ t. t.lines) (first ∷ rest) ≡ said ++ more → heads_of said ≢ [] → AreSound m clocks ready
homes_sound m seen clocks ready c first rest said more h are some = h.sound (some_first m clocks ready seen.begun (first ∷ rest) said more h.late h.started h.lines are some)

pub homes_further : (m : Machine) (seen : PlannerInput) (clocks : List Clocks) (ready : ℕ) (c : Cause) (first : ReactorTurn) (rest : List ReactorTurn) (said more : List ReportLine) → ShowBegun m seen clocks ready c first rest
    → gather (λ t. t.lines) (first ∷ rest) ≡ said ++ more → (r : Reach (first ∷ rest) said more) → heads_of said ≢ [] → TellFurther m clocks (r.n + 271) said
homes_further m seen clocks ready c first rest said more h are r some =
    further_front m clocks (first ∷ rest) said more r are (h.further (some_first m clocks ready seen.begun (first ∷ rest) said more h.late h.started h.lines are some))
