-- What a whole run shows, whatever threads it went in.
use Rattle.std.proofs.Common.{◌≡◌, ◌⊎◌, ℕ, ◌<◌, List, [], ◌∷◌, length, Some, refl, sym, ◌∙◌, subst, arith, inl, inr}
use Rattle.laws_board.proofs.Names.{Cause, Machine, clock_of, board_at, Scene, Run, MotionTurn, ReactorTurn, gather, Known, noted, IsOwn, known_by}
use Rattle.plan_types.specs.declared.cause.Cause.TheVariants as cause
use Rattle.io_core.specs.declared.traits.Files.{Ghosts as Files}
use Rattle.io_core.specs.declared.traits.Sink.{Ghosts as Sink}
use Rattle.link_work.specs.Stands.{SeenLink as LinkSeen}
use Rattle.host_reactor.specs.Reactor.{first_run}
use Rattle.session_lanes.specs.declared.near.Told.{Told}
use Rattle.session_work.specs.Heads.{IsRow}
use Rattle.session_work.specs.Motions.{MotionStep, seated}
use Rattle.session_lanes.specs.Runs.{AreLogs, head_at, ran_at}
use Rattle.session_work.specs.Turns.{Goes}
use Rattle.session_run.specs.declared.tell.Kept.{Kept}
use Rattle.session_run.specs.Desks.{desk_out}
use Rattle.session_run.specs.Boards.{AreReactorTurns, came_from}
use Rattle.session_run.specs.Machines.{link, planner, reactor}
use Rattle.session_run.specs.Runs.{RunsOver}
use Rattle.session_run.proofs.First.{count}
use Rattle.session_run.proofs.Reacting as reacting
use Rattle.laws_run.specs.lanes.Turns.{AllGoOn, AllHaveControls}
use Rattle.laws_run.proofs.lanes.Items.{in_memory}
use Rattle.laws_run.proofs.lanes.Whole.{have_controls, in_whole}
use Rattle.laws_board.specs.plans.Planned.{AnyStops}
use Rattle.laws_run.specs.run_ends.Ends.{EndsSo, order}
use Rattle.laws_run.proofs.run_ends.Coming.{first_comes, none_comes}
use Rattle.laws_run.proofs.run_ends.Ending.{ends_so}
use Rattle.laws_run.specs.run_headline.Made.{IsNamed, NoneSo}
use Rattle.laws_run.specs.run_headline.Timely.{link_of}
use Rattle.laws_run.proofs.run_headline.Faults as faults
use Rattle.laws_run.proofs.run_headline.Heard.{stops_left}
use Rattle.laws_run.proofs.run_headline.Making.{put_is, run_turns}
use Rattle.laws_run.proofs.run_headline.Showing.{Ended, Facts, came_long, ends_own, first_at, go_on, shows_link, turns_cut}

pub row_full : (n k : ℕ) (t : ReactorTurn) → 0 < k → IsRow n k t.states t.note → length t.states ≡ n
row_full n k t h (inl a) = absurd (omega (arith, h, a.0))
row_full n k t h (inr a) = a.1

module _ {F S : Type 0} (f : Files F) (o : Sink S) (m : Machine) (s : Scene) (name : List ℕ) (files files' : F) (out out' : S) (kept kept' : Kept) (t : Told Run) (r : RunsOver f o m s name files out kept t files' out' kept') where
  pub run_ended : (t.cause ≡ cause.Memory → ⊥) → Ended m s r.runs.0 r.runs.1 r.runs.2 t.cause
  run_ended other =
      let (ts, rs, end, n, x, y, met, logs, happened, has, has') = r.runs in
      let many : length r.links ≡ length m.boards = count s 0 m.boards r.links r.first in
      let head = head_at (first_run m s.switches) x in
      let turns = reacting.turns (desk_out f o) m s.switches (length r.links) 0 [] head rs (end ∷ []) _ many refl met.2 met.1 (reacting.begins (desk_out f o) m s.switches) in
      let last = faults.last f o m s.switches (length r.links) 0 [] head rs end (ran_at t y).head many refl met.2 met.1 (reacting.begins (desk_out f o) m s.switches) tt in
      let ends = faults.ends_so f o m s.switches (length r.links) (came_from [] rs) end t.cause (ran_at t y).head many met.3 other last in
      let clear = in_memory m s.switches ends.known (length (came_from [] rs)) end.states end.note (λ e. other (let g : Some t.cause ≡ Some cause.Memory = ends.end_is ∙ e in cc)) in
      let has_controls = have_controls reactor (desk_out f o) (length r.links) 0 head rs (end ∷ []) (ran_at t y).head met.1 in
      let Controls : ℕ → Type 0 = λ i. AllHaveControls i rs in
      let all = go_on m s.switches [] rs turns (subst Controls many has_controls) in
      let Steps : ℕ → Type 0 = λ i. Goes (MotionStep planner i) 0 (seated planner r.planning) ts met.0.0 in
      let whole : Facts m s ts rs end t.cause = record {
        turns = turns;
        known = ends.known;
        begun = ends.begun;
        lines_are = ends.lines_are;
        other = other;
        own = ends.own;
        last = inl ends.end_is;
        row = ends.row;
        clear = clear.0;
        ahead = n;
        words_left = met.4.2.0;
        words = put_is _ _ _ met.4;
        notes_left = met.5.2.0;
        notes = put_is _ _ _ met.5;
        from = seated planner r.planning;
        to = met.0.0;
        fresh = refl;
        goes = subst Steps many met.0.1;
        stops = λ heard a.
            let pieces = put_is _ _ _ met.6 in
            let all = subst (AnyStops heard) (sym pieces) (stops_left heard (gather (λ (z : MotionTurn). z.pieces) ts) met.6.2.0 a) in
            elim (faults.stop_last f o (length r.links) 0 heard head rs end (ran_at t y).head t.cause tt met.2 met.3 met.1 all) [
              | inl h ↦ inl (omega (arith, h))
              | inr h ↦ let at = h.0 in inr (omega (arith, at), h.1 other)
            ];
        boards = λ b first rest low cut.
            let l = first_at s 0 b b m.boards r.links r.first (omega arith) low in
            let Turns : List ReactorTurn → Type 0 = λ z. AllGoOn m s.switches [] z in
            let Logs : List ReactorTurn → Type 0 = λ z. AreLogs planner link reactor (desk_out f o) ts z end n 0 r.links t.links.items in
            let Row : List ReactorTurn → Type 0 = λ z. IsRow (length m.boards) (length (came_from [] z)) end.states end.note in
            let long = came_long [] (first ∷ rest) in
            let full = row_full (length m.boards) (length (came_from [] (first ∷ rest))) end (omega (arith, long)) (subst Row cut ends.row) in
            in_whole planner link reactor (desk_out f o) (λ (z : LinkSeen). z) shows_link m s.switches b (clock_of (board_at m b)) (link_of m s b) ts first rest end n r.links t.links.items l.0 low
            (subst Turns cut all) (record { count = full; in_memory = clear.1 }) (subst Logs cut logs) l.1 l.2.stands l.2.clock;
      } in
      record { facts = whole; end_is = ends.end_is }

  pub facts : (t.cause ≡ cause.Memory → ⊥) → Facts m s r.runs.0 r.runs.1 r.runs.2 t.cause
  facts other = (run_ended other).facts

  -- it ends for a cause that is so, and for the first
  pub run_names : IsOwn t.cause → (t.cause ≡ cause.Memory → ⊥) → IsNamed m s r.runs.1 r.runs.2 t.cause
  run_names own other =
      let f = facts other in
      let end = r.runs.2 in
      let came = came_from [] r.runs.1 in
      let o = f.own own in
      let At : Known → Type 0 = λ k. EndsSo m (noted m end.note k) (length came) end.states t.cause in
      let First : Known → Type 0 = λ k. (d : Cause) → EndsSo m (noted m end.note k) (length came) end.states d → (d ≡ t.cause) ⊎ (order t.cause < order d) in
      record {
        so = subst At o.0 (ends_so m s.switches f.known (length came) end.states end.note t.cause o.1 other (sym (ends_own m s r.runs.0 r.runs.1 end t.cause f own)));
        first = subst First o.0 (first_comes m s.switches f.known (length came) end.states end.note t.cause o.1 (sym (ends_own m s r.runs.0 r.runs.1 end t.cause f own)));
      }

  -- no cause came before
  pub run_none : NoneSo m s r.runs.1
  run_none past turn later cut c so =
      let Turns : List ReactorTurn → Type 0 = λ z. AreReactorTurns m s.switches [] z in
      let parts = turns_cut m s.switches [] past (turn ∷ later) (subst Turns cut (run_turns f o m s name files files' out out' kept kept' t r)) in
      none_comes m s.switches (known_by m s.switches (came_from [] past)) (length (came_from [] past)) turn.states turn.note parts.1.0.goes_on c so
