-- The turns of a run.
use Rattle.std.proofs.Common.{◌≡◌, ℕ, ◌+◌, List, [], ◌∷◌, ◌++◌, length, Some, refl, ap, sym, ◌∙◌, subst, append_assoc}
use Rattle.laws_board.proofs.Names.{∥∥₁_map, Machine, Scene, Run, MotionTurn, ReactorTurn, gather}
use Rattle.io_core.specs.declared.traits.Files.{Ghosts as Files}
use Rattle.io_core.specs.declared.traits.Sink.{Ghosts as Sink}
use Rattle.host_reactor.specs.Reactor.{first_run}
use Rattle.session_lanes.specs.declared.near.Told.{Told}
use Rattle.session_work.specs.Motions.{MotionStep, seated}
use Rattle.session_work.specs.Rows.{option_items}
use Rattle.session_work.specs.Turns.{Goes}
use Rattle.session_lanes.specs.Runs.{Carried, head_at, ran_at}
use Rattle.session_work.proofs.Goes.{gather_on}
use Rattle.session_run.specs.declared.tell.Kept.{Kept}
use Rattle.session_run.specs.Desks.{desk_out}
use Rattle.session_run.specs.declared.motion.Planning.{Planning}
use Rattle.session_run.specs.Boards.{AreReactorTurns}
use Rattle.session_run.specs.Machines.{planner}
use Rattle.session_run.specs.Runs.{RunsOver}
use Rattle.session_run.proofs.First.{count}
use Rattle.session_run.proofs.Reacting as reacting
use Rattle.laws_board.specs.plans.Planned.{AreReadInOrder, IsPlanning, Plans, ReadText, nothing_read}
use Rattle.laws_board.proofs.plans.Planning.{plans}
use Rattle.laws_run.specs.run_headline.Made.{IsMade}
use Rattle.laws_run.proofs.run_headline.Reading as reading
use Rattle.laws_run.proofs.run_headline.Reading.{read_in}

pub put_is : {T : Type 0} (s : List T × List T) (put taken : List T) (c : Carried s put taken) → put ≡ taken ++ c.2.0
put_is s put taken c = sym c.0 ∙ c.2.1 ∙ ap (λ l. l ++ c.2.0) c.1

shows_planner : IsPlanning planner (λ (x : Planning). x.motion)
shows_planner = record { wants = λ x k. refl; hungry = λ x k. refl; hears = λ x y w h. h; reads = λ x y p h. h; turns = λ x y k bs note h. h }

-- a machine's turns up to one
pub goes_cut : {S T : Type 0} (Step : ℕ → S → T → S → Type 0) (k : ℕ) (s e : S) (xs ys : List T) → Goes Step k s (xs ++ ys) e → (m : S) × Goes Step k s xs m
goes_cut Step k s e [] ys g = (s, refl)
goes_cut Step k s e (x ∷ xs) ys g = let r = goes_cut Step (k + 1) g.0 e xs ys g.2 in (r.0, (g.0, g.1, r.1))

module _ {F S : Type 0} (f : Files F) (o : Sink S) (m : Machine) (s : Scene) (name : List ℕ) (files files' : F) (out out' : S) (kept kept' : Kept) (t : Told Run) (r : RunsOver f o m s name files out kept t files' out' kept') where
  -- the reactor's turns before the last one
  pub run_turns : AreReactorTurns m s.switches [] r.runs.1
  run_turns =
      let (ts, rs, end, n, x, y, met, logs, happened, has, has') = r.runs in
      let many : length r.links ≡ length m.boards = count s 0 m.boards r.links r.first in
      reacting.turns (desk_out f o) m s.switches (length r.links) 0 [] (head_at (first_run m s.switches) x) rs (end ∷ []) _ many refl met.2 met.1 (reacting.begins (desk_out f o) m s.switches)

  -- the pieces that the planner took are the first ones that were read, so they are the beginning of the file's text
  text_read : (text : List ℕ) → f.told files name ≡ Some text → kept.at ≡ 0 → AreReadInOrder nothing_read r.runs.0 text
  text_read text told at front rest cut =
      let (ts, rs, end, n, x, y, met, logs, happened, has, has') = r.runs in
      let head = head_at (first_run m s.switches) x in
      let pieces_of = gather (λ (z : MotionTurn). z.pieces) in
      let Told_in : F → Type 0 = λ z. f.told z name ≡ Some text in
      let so = reading.begins f o name text x has.3 (subst Told_in (sym has.0) told) (ap (λ (k : Kept). k.at) has.2 ∙ at) in
      let put = put_is _ _ _ met.6 in
      let parts : gather (λ (z : ReactorTurn). z.pieces) (rs ++ end ∷ []) ≡ pieces_of front ++ (pieces_of rest ++ met.6.2.0) =
      put ∙ ap (λ z. pieces_of z ++ met.6.2.0) cut ∙ ap (λ z. z ++ met.6.2.0) (pieces_both front rest) ∙ append_assoc (pieces_of front) (pieces_of rest) met.6.2.0 in
      let Ends : ReadText → Type 0 = λ z. reading.Ends f o name text z in
      subst Ends (sym (read_in nothing_read front))
      (reading.turns f o name text (length r.links) 0 nothing_read head (rs ++ end ∷ []) (ran_at t y).head (pieces_of front) (pieces_of rest ++ met.6.2.0) met.1 so parts)
    where
      pieces_both : (xs ys : List MotionTurn) → gather (λ t. t.pieces) (xs ++ ys) ≡ gather (λ t. t.pieces) xs ++ gather (λ t. t.pieces) ys
      pieces_both [] ys = refl
      pieces_both (z ∷ xs) ys = ap (λ q. z.pieces ++ q) (pieces_both xs ys) ∙ sym (append_assoc z.pieces (gather (λ (q : MotionTurn). q.pieces) xs) (gather (λ (q : MotionTurn). q.pieces) ys))

  -- the turns of the planner up to one are those of a planner too
  pub front_made : (text : List ℕ) → f.told files name ≡ Some text → kept.at ≡ 0 → (front later : List MotionTurn) → r.runs.0 ≡ front ++ later → ∥ ((p : Plans m (length m.boards) front) × (p.seen.text ≡ text)) ∥₁
  front_made text told at front later cut =
      let (ts, rs, end, n, x, y, met, logs, happened, has, has') = r.runs in
      let many : length r.links ≡ length m.boards = count s 0 m.boards r.links r.first in
      let Run : List MotionTurn → Type 0 = λ z. Goes (MotionStep planner (length r.links)) 0 (seated planner r.planning) z met.0.0 in
      let g = goes_cut (MotionStep planner (length r.links)) 0 (seated planner r.planning) met.0.0 front later (subst Run cut met.0.1) in
      let read : AreReadInOrder nothing_read front text = λ a b e. text_read text told at a (b ++ later) (cut ∙ ap (λ z. z ++ later) e ∙ append_assoc a b later) in
      let made = plans Planning planner (λ (z : Planning). z.motion) (length r.links) r.planning front g.0 text shows_planner r.fresh g.1 read in
      let Of : Machine → ℕ → Type 0 = λ z i. (p : Plans z i front) × (p.seen.text ≡ text) in
      ∥∥₁_map made (λ w. subst (Of m) many (subst (λ z. Of z (length r.links)) r.printer w))

  pub run_made : (text : List ℕ) → f.told files name ≡ Some text → kept.at ≡ 0 → ∥ ((made : IsMade m s r.runs.0 r.runs.1) × (made.plans.seen.text ≡ text)) ∥₁
  run_made text told at =
      let (ts, rs, end, n, x, y, met, logs, happened, has, has') = r.runs in
      let many : length r.links ≡ length m.boards = count s 0 m.boards r.links r.first in
      let made = plans Planning planner (λ (z : Planning). z.motion) (length r.links) r.planning ts met.0.0 text shows_planner r.fresh met.0.1 (text_read text told at) in
      let Of : Machine → ℕ → Type 0 = λ z i. (p : Plans z i ts) × (p.seen.text ≡ text) in
      let taken = met.5 in
      ∥∥₁_map made (λ w.
      let p = subst (Of m) many (subst (λ z. Of z (length r.links)) r.printer w) in (
        record {
          plans = p.0;
          turns = run_turns;
          left = option_items end.note ++ taken.2.0;
          notes = sym taken.0 ∙ taken.2.1 ∙ ap (λ z. z ++ taken.2.0) (taken.1 ∙ gather_on (λ (z : ReactorTurn). option_items z.note) rs end)
              ∙ append_assoc (gather (λ (z : ReactorTurn). option_items z.note) rs) (option_items end.note) taken.2.0;
        },
        p.1,
      ))
