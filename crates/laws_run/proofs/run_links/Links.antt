-- What the lanes of a run's boards carried.
use Rattle.std.proofs.Common.{◌≡◌, ℕ, zero, suc, ◌+◌, ◌<◌, List, [], ◌∷◌, ◌++◌, get_or, length, Some, refl, ap, sym, ◌∙◌, subst, arith, inl, inr, append-nil}
use Rattle.laws_board.proofs.Names.{∥∥₁_map, BoardDef, Machine, Scene, Run, state_at, MotionTurn, ReactorTurn, gather, item}
use Rattle.io_core.specs.declared.traits.Files.{Ghosts as Files}
use Rattle.io_core.specs.declared.traits.Sink.{Ghosts as Sink}
use Rattle.plan_types.specs.declared.cause.Cause.TheVariants as cause
use Rattle.plan_types.specs.Machines.{no_board}
use Rattle.link_work.specs.Stands.{SeenLink as LinkSeen}
use Rattle.host_reactor.specs.Reactor.{first_run}
use Rattle.session_lanes.specs.declared.near.LinkLog.{LinkLog}
use Rattle.session_lanes.specs.declared.near.Told.{Told}
use Rattle.session_lanes.specs.Runs.{AreLogs, IsLog, head_at, ran_at}
use Rattle.session_work.specs.declared.machines.Outside.{Ghosts as Out}
use Rattle.session_work.specs.Leads.{last_controls}
use Rattle.session_work.proofs.Goes.{gather_on}
use Rattle.session_run.specs.declared.tell.Kept.{Kept}
use Rattle.session_run.specs.Desks.{desk_out, reported_lines}
use Rattle.session_run.specs.Boards.{AreReactorTurns, came_from}
use Rattle.session_run.specs.Machines.{link, planner, reactor}
use Rattle.session_run.specs.Runs.{AreFirstLinks, IsFirstLink, RunsOver}
use Rattle.session_run.proofs.First.{count}
use Rattle.session_run.proofs.Reacting as reacting
use Rattle.laws_board.specs.plans.Planned.{AreBare}
use Rattle.laws_board.proofs.plans.Running.{all_sent, started_in}
use Rattle.laws_run.specs.run_headline.Made.{IsMade}
use Rattle.laws_run.specs.run_links.Links.{AreLinksIn, IsLinkIn, lines_for, ordered_for, pulses_on, states_from}
use Rattle.laws_run.specs.run_links.Units.{AreBatchesOf}
use Rattle.laws_run.proofs.run_headline.Boarded.{came_long}
use Rattle.laws_run.proofs.run_headline.Making.{run_made, run_turns}
use Rattle.laws_run.proofs.run_links.Boards.{makes_turns}
use Rattle.laws_run.proofs.run_links.Orders.{controls_are, have_next, have_states, states_are}
use Rattle.laws_run.proofs.run_links.Pulses.{lines_append, pulses_append, turn_pulses, turns_pulses}
use Rattle.laws_run.proofs.run_links.Units.{batches_put, parts_are}
use Rattle.laws_homing.proofs.missed_groups.Told.{same_state}

-- the lines of some turns and of one behind them
lines_on : (rs : List ReactorTurn) (end : ReactorTurn) → reported_lines (rs ++ end ∷ []) ≡ reported_lines rs ++ end.lines
lines_on rs end = gather_on (λ (t : ReactorTurn). t.lines) rs end

module _ {O : Type 0} (o : Out O) (ts : List MotionTurn) (rs : List ReactorTurn) (end : ReactorTurn) (n : ℕ) where
  -- the log of a board, with the link that it began with
  log_at : (s : Scene) (i b j : ℕ) (boards : List BoardDef) (ls : List LinkSeen) (xs : List LinkLog) (x : LinkLog) → AreFirstLinks s i boards ls → AreLogs planner link reactor o ts rs end n i ls xs → i + b ≡ j → item b xs ≡ x ∷ []
      → (b < length boards) × ((l : LinkSeen) × IsFirstLink s j (get_or boards b no_board) l × IsLog planner link reactor o ts rs end n j l x)
  log_at s i b j [] [] [] x first logs e at = absurd (let f : [] ≡ x ∷ [] = at in cc)
  log_at s i b j [] [] (y ∷ xs) x first logs e at = absurd logs
  log_at s i b j [] (l ∷ ls) xs x first logs e at = absurd first
  log_at s i b j (d ∷ boards) [] xs x first logs e at = absurd first
  log_at s i b j (d ∷ boards) (l ∷ ls) [] x first logs e at = absurd logs
  log_at s i zero j (d ∷ boards) (l ∷ ls) (y ∷ xs) x first logs e at =
      let place : i ≡ j = omega (arith, e) in
      let same : y ≡ x = (let f : y ∷ [] ≡ x ∷ [] = at in cc) in
      (omega arith, (l, subst (λ (k : ℕ). IsFirstLink s k d l) place first.0, subst (λ (z : ℕ × LinkLog). IsLog planner link reactor o ts rs end n z.0 l z.1) (λ k. (place k, same k)) logs.0))
  log_at s i (suc b) j (d ∷ boards) (l ∷ ls) (y ∷ xs) x first logs e at =
      let rest = log_at s (i + 1) b j boards ls xs x first.1 logs.1 (omega (arith, e)) at in
      let low = rest.0 in
      (omega (arith, low), rest.1)

  -- there are as many logs as links
  many_logs : (i : ℕ) (ls : List LinkSeen) (xs : List LinkLog) → AreLogs planner link reactor o ts rs end n i ls xs → length xs ≡ length ls
  many_logs i [] [] h = refl
  many_logs i [] (x ∷ xs) h = absurd h
  many_logs i (l ∷ ls) [] h = absurd h
  many_logs i (l ∷ ls) (x ∷ xs) h = ap suc (many_logs (i + 1) ls xs h.1)

-- the pulses of a board that its lines tell are those of its states
module _ (m : Machine) (s : Scene) (b : ℕ) (rs : List ReactorTurn) (end : ReactorTurn) where
  all_pulses : AreReactorTurns m s.switches [] rs → pulses_on b end.lines ≡ lines_for m b (item b end.states) → pulses_on b (reported_lines (rs ++ end ∷ [])) ≡ lines_for m b (gather (λ t. item b t.states) (rs ++ end ∷ []))
  all_pulses turns last =
      let states = gather (λ (t : ReactorTurn). item b t.states) rs in
      ap (pulses_on b) (lines_on rs end) ∙ pulses_append b (reported_lines rs) end.lines ∙ ap (λ x. x ++ pulses_on b end.lines) (turns_pulses m s.switches b [] rs turns)
      ∙ ap (λ x. lines_for m b states ++ x) last ∙ sym (lines_append m b states (item b end.states)) ∙ ap (lines_for m b) (sym (gather_on (λ (t : ReactorTurn). item b t.states) rs end))

  front_pulses : AreReactorTurns m s.switches [] rs → end.lines ≡ [] → pulses_on b (reported_lines (rs ++ end ∷ [])) ≡ lines_for m b (states_from b (came_from [] rs))
  front_pulses turns none =
      ap (pulses_on b) (lines_on rs end ∙ ap (λ x. reported_lines rs ++ x) none ∙ append-nil (reported_lines rs)) ∙ turns_pulses m s.switches b [] rs turns ∙ ap (lines_for m b) (states_are b [] rs)

module _ {F S : Type 0} (f : Files F) (o : Sink S) (m : Machine) (s : Scene) (name : List ℕ) (files files' : F) (out out' : S) (kept kept' : Kept) (t : Told Run) (r : RunsOver f o m s name files out kept t files' out' kept') where
  many : length r.links ≡ length m.boards
  many = count s 0 m.boards r.links r.first

  -- the last turn
  last_turn : reacting.Last (desk_out f o) m s.switches (came_from [] r.runs.1) (length r.links) r.runs.2 (ran_at t r.runs.5).head
  last_turn =
      let (ts, rs, end, n, x, y, met, logs, happened, has, has') = r.runs in
      reacting.last (desk_out f o) m s.switches (length r.links) 0 [] (head_at (first_run m s.switches) x) rs end (ran_at t y).head many refl met.2 met.1 (reacting.begins (desk_out f o) m s.switches)

  last_ends : (t.cause ≡ cause.Memory → ⊥) → reacting.Ends (desk_out f o) m s.switches (came_from [] r.runs.1) r.runs.2
  last_ends other =
      let (ts, rs, end, n, x, y, met, logs, happened, has, has') = r.runs in
      reacting.ends_so (desk_out f o) m s.switches (length r.links) (came_from [] rs) end t.cause (ran_at t y).head many met.3 other last_turn

  last_pulses : (b : ℕ) → (t.cause ≡ cause.Memory → ⊥) → pulses_on b r.runs.2.lines ≡ lines_for m b (item b r.runs.2.states)
  last_pulses b other =
      let e = last_ends other in
      ap (pulses_on b) e.lines_are ∙ turn_pulses m s.switches b e.known (length (came_from [] r.runs.1)) r.runs.2.states r.runs.2.note

  -- which has no lines where it wants memory
  no_lines : t.cause ≡ cause.Memory → r.runs.2.lines ≡ []
  no_lines out =
      let (ts, rs, end, n, x, y, met, logs, happened, has, has') = r.runs in
      elim last_turn.step.1.1 [ inl w ↦ absurd (w.1.3 (met.3 ∙ ap Some out)) | inr w ↦ w.2 ]

  one_link : (made : IsMade m s r.runs.0 r.runs.1) (b : ℕ) (x : LinkLog) → item b t.links.items ≡ x ∷ []
      → IsLinkIn m s made.plans.seen (length made.plans.made) (came_from [] r.runs.1) (state_at b r.runs.2.states) (reported_lines (r.runs.1 ++ r.runs.2 ∷ [])) t.cause b x
  one_link made b x at =
      let (ts, rs, end, n, from, to, met, logs, happened, has, has') = r.runs in
      let found = log_at (desk_out f o) ts rs end n s 0 b b m.boards r.links t.links.items x r.first logs (omega arith) at in
      let low = found.0 in
      let first = found.1.1 in
      let log = found.1.2 in
      let (us, last, went, controls, batches, states) = log in
      let turns = run_turns f o m s name files files' out out' kept kept' t r in
      let p = made.plans in
      let size : 0 + length p.made ≡ length p.made = omega arith in
      let put = batches_put m p.seen.text p.seen.begun b (length p.made) 0 p.made p.bare low size p.put (subst (λ i. AreBare (length m.boards) i p.bare) size p.are_bare) in
      let own : gather (λ (z : MotionTurn). item b z.batches) (p.made ++ p.bare) ≡ x.batches.0 = ap (gather (λ (z : MotionTurn). item b z.batches)) (sym p.are) ∙ sym batches.0 in
      let taken : gather (λ (z : ReactorTurn). item b z.states) (rs ++ end ∷ []) ≡ x.states.1 = sym states.1 in
      let many_put = put.many in
      record {
        batches = subst (λ z. AreBatchesOf b p.seen.begun (length p.made) 0 z) own put.are;
        all_sent = omega (arith, many_put, ap length own);
        parts = λ known e. parts_are m known.clocks known.first (length p.made) b p.seen.begun low (started_in m ts p known e) (all_sent m (length m.boards) ts p known e);
        batches_taken = batches.2;
        controls_taken = controls.2;
        states_taken = states.2;
        ahead = n;
        controls = controls.0 ∙ ap (λ z. z ++ last_controls (length rs) n) (controls_are m s.switches b [] rs turns) ∙ ap (λ k. ordered_for m s.switches b (came_from [] rs) ++ last_controls k n) (omega (arith, came_long [] rs));
        board = makes_turns m s b x found.1.0 us went.0 last went.1 first.stands first.clock controls.1 batches.1 states.0;
        states = states.1 ∙ gather_on (λ (z : ReactorTurn). item b z.states) rs end ∙ ap (λ z. z ++ item b end.states) (states_are b [] rs) ∙ ap (λ z. states_from b (came_from [] rs) ++ z) (sym (same_state b end.states));
        pulses = λ other. all_pulses m s b rs end turns (last_pulses b other) ∙ ap (lines_for m b) taken;
        pulses_before = λ out. front_pulses m s b rs end turns (no_lines out);
      }

  pub run_links : (text : List ℕ) → f.told files name ≡ Some text → kept.at ≡ 0 → ∥ AreLinksIn m s text t.cause r.runs.0 r.runs.1 r.runs.2 t.links.items ∥₁
  run_links text told at =
      let (ts, rs, end, n, x, y, met, logs, happened, has, has') = r.runs in
      let rows = have_states m s.switches [] rs (run_turns f o m s name files files' out out' kept kept' t r) tt in
      ∥∥₁_map (run_made f o m s name files files' out out' kept kept' t r text told at) (λ w. record {
        made = w.0;
        of_text = w.1;
        rows = rows;
        last_row = λ other. have_next m (came_from [] rs) end (last_ends other).row rows;
        count = many_logs (desk_out f o) ts rs end n 0 r.links t.links.items logs ∙ many;
        each = λ b z e. one_link w.0 b z e;
      })
