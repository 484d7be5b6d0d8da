-- What is known of a run before its last turn, whatever ended it.
use Rattle.std.proofs.Common.{◌≡◌, ℕ, zero, suc, ◌+◌, ◌≤◌, List, [], ◌∷◌, ◌++◌, length, Some, None, refl, ap, sym, ◌∙◌, subst, arith, inl, inr, append_assoc, append-nil, length-append}
use Rattle.plan_types.specs.declared.cause.Cause.TheVariants as cause
use Rattle.laws_board.proofs.Names.{Machine, clock_of, board_at, Scene, Run, known_by, MotionTurn, ReactorTurn, gather, item}
use Rattle.io_core.specs.declared.traits.Files.{Ghosts as Files}
use Rattle.io_core.specs.declared.traits.Sink.{Ghosts as Sink}
use Rattle.link_work.specs.Stands.{SeenLink as LinkSeen}
use Rattle.host_reactor.specs.Reactor.{first_run}
use Rattle.session_lanes.specs.declared.near.Told.{Told}
use Rattle.session_work.specs.declared.seat.Seat.{Seat}
use Rattle.session_work.specs.Leads.{last_words}
use Rattle.session_work.specs.Motions.{MotionStep, seated}
use Rattle.session_work.specs.Rows.{option_items}
use Rattle.session_work.specs.Turns.{Goes}
use Rattle.session_work.proofs.Goes.{gather_each, gather_ones}
use Rattle.session_lanes.specs.Runs.{AreLogs, head_at, ran_at}
use Rattle.session_run.specs.declared.tell.Kept.{Kept}
use Rattle.session_run.specs.Desks.{desk_out}
use Rattle.session_run.specs.declared.motion.Planning.{Planning}
use Rattle.session_run.specs.Boards.{AreReactorTurns, came_from, came_in}
use Rattle.session_run.specs.Machines.{link, planner, reactor}
use Rattle.session_run.specs.Runs.{RunsOver}
use Rattle.session_run.proofs.First.{count}
use Rattle.session_run.proofs.Reacting as reacting
use Rattle.laws_run.specs.lanes.Turns.{AllGoOn, AllHaveControls}
use Rattle.laws_run.proofs.lanes.Items.{in_memory, item_some}
use Rattle.laws_run.proofs.lanes.Whole.{front_of, have_controls, in_front}
use Rattle.laws_board.specs.plans.Planned.{AnyStops}
use Rattle.laws_run.specs.run_headline.Timely.{link_of}
use Rattle.laws_run.proofs.run_headline.Faults as faults
use Rattle.laws_run.proofs.run_headline.Heard.{stops_left, turns_few, words_of as words_long}
use Rattle.laws_run.proofs.run_headline.Joining.{row_none}
use Rattle.laws_run.proofs.run_headline.Making.{goes_cut, put_is}
use Rattle.laws_run.proofs.run_headline.Showing.{EachNoted, Facts, first_at, go_on, goes_noted, none_out, notes_of, shows_link, turns_cut}
use Rattle.laws_run.proofs.run_lates.Unbegun.{gather_both}

-- a list up to a place in it
pub cut_at : {A : Type 0} (k : ℕ) (xs : List A) → k ≤ length xs → (front : List A) × (later : List A) × (xs ≡ front ++ later) × (length front ≡ k)
cut_at zero xs h = ([], xs, refl, refl)
cut_at (suc k) [] h = absurd (omega (arith, h))
cut_at (suc k) (x ∷ xs) h = let r = cut_at k xs (omega (arith, h)) in (x ∷ r.0, r.1, ap (λ z. x ∷ z) r.2, ap suc r.3)

-- fronts of one list that are as long
pub same_front : {A : Type 0} (xs ys us vs : List A) → xs ++ us ≡ ys ++ vs → length xs ≡ length ys → xs ≡ ys
same_front [] [] us vs e l = refl
same_front [] (y ∷ ys) us vs e l = absurd (omega (arith, l))
same_front (x ∷ xs) [] us vs e l = absurd (omega (arith, l))
same_front (x ∷ xs) (y ∷ ys) us vs e l =
    let first : x ≡ y = cc in
    let then : xs ++ us ≡ ys ++ vs = cc in
    ap (λ z. z ∷ xs) first ∙ ap (λ z. y ∷ z) (same_front xs ys us vs then (omega (arith, l)))

-- some turns of the reactor took as many notes as there are turns behind the first
notes_long : (m : Machine) (s : Scene) (rs : List ReactorTurn) (last : ReactorTurn) → AreReactorTurns m s.switches [] (rs ++ last ∷ []) → length (notes_of (rs ++ last ∷ [])) ≡ length rs
notes_long m s [] last turns = ap (λ o. length (option_items o ++ [])) (row_none (length m.boards) last turns.0.row)
notes_long m s (first ∷ rest) last turns =
    let more = rest ++ last ∷ [] in
    let each = subst EachNoted (append-nil more) (goes_noted m s.switches (came_in first ∷ []) more [] (omega arith) turns.1 tt) in
    let all = none_out more each in
    ap (λ o. length (option_items o ++ notes_of more)) (row_none (length m.boards) first turns.0.row) ∙ all.1 ∙ (let e = length-append rest (last ∷ []) in omega (arith, e))

module _ {F S : Type 0} (f : Files F) (o : Sink S) (m : Machine) (s : Scene) (name : List ℕ) (files files' : F) (out out' : S) (kept kept' : Kept) (t : Told Run) (r : RunsOver f o m s name files out kept t files' out' kept') where
  -- the turns before the last one, as if a read failed in the latest of them; and the planner's turns by then
  pub record Front (rs : List ReactorTurn) (last : ReactorTurn) : Type 0 where
    pub planned : List MotionTurn
    pub later : List MotionTurn
    pub are : r.runs.0 ≡ planned ++ later
    pub long : length planned ≡ length rs
    pub facts : Facts m s planned rs last cause.ReadFault

  pub run_front : (rs : List ReactorTurn) (last : ReactorTurn) → r.runs.1 ≡ rs ++ last ∷ [] → Front rs last
  run_front cs last cut =
      let (ts, rs, end, n, x, y, met, logs, happened, has, has') = r.runs in
      let many : length r.links ≡ length m.boards = count s 0 m.boards r.links r.first in
      let head = head_at (first_run m s.switches) x in
      let turns = reacting.turns (desk_out f o) m s.switches (length r.links) 0 [] head rs (end ∷ []) _ many refl met.2 met.1 (reacting.begins (desk_out f o) m s.switches) in
      let Turns : List ReactorTurn → Type 0 = λ z. AreReactorTurns m s.switches [] z in
      let rs_are : rs ≡ cs ++ last ∷ [] = cut in
      let all_turns = subst Turns rs_are turns in
      let parts = turns_cut m s.switches [] cs (last ∷ []) all_turns in
      let note_of = λ (z : MotionTurn). z.note ∷ [] in
      let words_of = λ (z : MotionTurn). z.words in
      let pieces_of = λ (z : MotionTurn). z.pieces in
      let notes = put_is _ _ _ met.5 in
      let few = notes_long m s cs last all_turns in
      let noted : gather note_of ts ≡ notes_of (cs ++ last ∷ []) ++ (notes_of (end ∷ []) ++ met.5.2.0) =
      notes ∙ ap (λ z. z ++ met.5.2.0) (gather_both (λ (z : ReactorTurn). option_items z.note) rs (end ∷ [])) ∙ ap (λ z. (notes_of z ++ notes_of (end ∷ [])) ++ met.5.2.0) rs_are
      ∙ append_assoc (notes_of (cs ++ last ∷ [])) (notes_of (end ∷ [])) met.5.2.0 in
      let reach : length cs ≤ length ts =
      (let a = gather_ones (λ (z : MotionTurn). z.note) ts in let b = ap length noted in let c = length-append (notes_of (cs ++ last ∷ [])) (notes_of (end ∷ []) ++ met.5.2.0) in omega (arith, a, b, c, few)) in
      let p = cut_at (length cs) ts reach in
      let planned = p.0 in
      let later = p.1 in
      let Steps : ℕ → Type 0 = λ i. Goes (MotionStep planner i) 0 (seated planner r.planning) ts met.0.0 in
      let Run_of : List MotionTurn → Type 0 = λ z. Goes (MotionStep planner (length m.boards)) 0 (seated planner r.planning) z met.0.0 in
      let g = goes_cut (MotionStep planner (length m.boards)) 0 (seated planner r.planning) met.0.0 planned later (subst Run_of p.2 (subst Steps many met.0.1)) in
      let own_notes : gather note_of planned ≡ notes_of (cs ++ last ∷ []) =
      (let a = gather_ones (λ (z : MotionTurn). z.note) planned in let size = p.3 in
      same_front (gather note_of planned) (notes_of (cs ++ last ∷ [])) (gather note_of later) (notes_of (end ∷ []) ++ met.5.2.0) (sym (gather_both note_of planned later) ∙ ap (gather note_of) (sym p.2) ∙ noted) (omega (arith, a, size, few))) in
      let said = λ (z : ReactorTurn). z.word ∷ [] in
      let words = put_is _ _ _ met.4 in
      let lead = last_words (length rs) n in
      let spoken : gather words_of planned ++ (gather words_of later ++ met.4.2.0) ≡ gather said cs ++ (gather said (last ∷ []) ++ lead) =
      sym (append_assoc (gather words_of planned) (gather words_of later) met.4.2.0) ∙ ap (λ z. z ++ met.4.2.0) (sym (gather_both words_of planned later) ∙ ap (gather words_of) (sym p.2)) ∙ sym words
      ∙ ap (λ z. gather said z ++ lead) rs_are ∙ ap (λ z. z ++ lead) (gather_both said cs (last ∷ [])) ∙ append_assoc (gather said cs) (gather said (last ∷ [])) lead in
      let unheard : (seated planner r.planning).heard ≡ 0 = refl in
      let soon = turns_few (length m.boards) 0 planned (seated planner r.planning) g.0 (omega (arith, unheard)) g.1 in
      let w = front_of (gather words_of planned) (gather said cs) (gather words_of later ++ met.4.2.0) (gather said (last ∷ []) ++ lead) spoken (let size = p.3 in let long = words_long cs in omega (arith, soon, size, long, unheard)) in
      let facts : Facts m s planned cs last cause.ReadFault = record {
        turns = parts.0;
        known = known_by m s.switches (came_from [] cs);
        begun = refl;
        lines_are = parts.1.0.lines_are;
        other = λ e. (let h : cause.ReadFault ≡ cause.Memory = e in cc);
        own = λ own. absurd own;
        last = inr (all_turns, λ own. own);
        row = parts.1.0.row;
        clear = (in_memory m s.switches (known_by m s.switches (came_from [] cs)) (length (came_from [] cs)) last.states last.note (λ e. let h : Some cause.Memory ≡ None = sym e ∙ parts.1.0.goes_on in cc)).0;
        ahead = 0;
        words_left = w.0 ++ last_words (length cs) 0;
        words = ap (λ z. z ++ last_words (length cs) 0) (sym w.1) ∙ append_assoc (gather words_of planned) w.0 (last_words (length cs) 0);
        notes_left = [];
        notes = own_notes ∙ sym (append-nil (notes_of (cs ++ last ∷ [])));
        from = seated planner r.planning;
        to = g.0;
        fresh = refl;
        goes = g.1;
        stops = λ heard a.
            let pieces = put_is _ _ _ met.6 in
            let Stops_in : List MotionTurn → Type 0 = λ z. AnyStops heard (gather pieces_of z) in
            let in_ts = subst Stops_in (sym p.2) (subst (AnyStops heard) (sym (gather_both pieces_of planned later)) (stops_left heard (gather pieces_of planned) (gather pieces_of later) a)) in
            let all = subst (AnyStops heard) (sym pieces) (stops_left heard (gather pieces_of ts) met.6.2.0 in_ts) in
            let size : length rs ≡ length cs + length (last ∷ []) = ap length rs_are ∙ length-append cs (last ∷ []) in
            elim (faults.stop_last f o (length r.links) 0 heard head rs end (ran_at t y).head t.cause tt met.2 met.3 met.1 all) [
              | inl h ↦ inl (omega (arith, h, size))
              | inr h ↦ let at = h.0 in inl (omega (arith, at, size))
            ];
        boards = λ b first rest low is.
            let l = first_at s 0 b b m.boards r.links r.first (omega arith) low in
            let has_controls = have_controls reactor (desk_out f o) (length r.links) 0 head rs (end ∷ []) (ran_at t y).head met.1 in
            let Controls : ℕ → Type 0 = λ i. AllHaveControls i rs in
            let all = go_on m s.switches [] rs turns (subst Controls many has_controls) in
            let on : rs ≡ first ∷ (rest ++ last ∷ []) = rs_are ∙ ap (λ z. z ++ last ∷ []) is in
            let On : List ReactorTurn → Type 0 = λ z. AllGoOn m s.switches [] z in
            let Logs : List ReactorTurn → Type 0 = λ z. AreLogs planner link reactor (desk_out f o) ts z end n 0 r.links t.links.items in
            let one : (k : ℕ) (a : Seat Planning) (z : MotionTurn) (c : Seat Planning) → MotionStep planner (length m.boards) k a z c → length (item b z.batches) ≡ 1 = λ k a z c step.
            (let count = step.6.2 in ap length (item_some b z.batches (omega (arith, count, low))).1) in
            let full = gather_each (MotionStep planner (length m.boards)) (λ (z : MotionTurn). item b z.batches) one 0 (seated planner r.planning) g.0 planned g.1 in
            let long : length (rest ++ last ∷ []) ≤ length (gather (λ (z : MotionTurn). item b z.batches) planned) =
            (let size = length-append rest (last ∷ []) in let turns_by = p.3 in let same = ap length is in omega (arith, size, turns_by, same, full)) in
            in_front planner link reactor (desk_out f o) (λ (z : LinkSeen). z) shows_link m s.switches b (clock_of (board_at m b)) (link_of m s b) ts planned later first rest last end n r.links t.links.items l.0 low
            (subst On on all) (subst Logs on logs) l.1 l.2.stands l.2.clock p.2 long;
      } in
      record { planned = planned; later = later; are = p.2; long = p.3; facts = facts }

  -- a run that ends for want of memory writes nothing in its last turn
  pub run_silent : t.cause ≡ cause.Memory → r.runs.2.lines ≡ []
  run_silent memory =
      let (ts, rs, end, n, x, y, met, logs, happened, has, has') = r.runs in
      let many : length r.links ≡ length m.boards = count s 0 m.boards r.links r.first in
      let head = head_at (first_run m s.switches) x in
      let l = faults.last f o m s.switches (length r.links) 0 [] head rs end (ran_at t y).head many refl met.2 met.1 (reacting.begins (desk_out f o) m s.switches) tt in
      elim l.step.1.1 [ inl w ↦ absurd (w.1.3 (met.3 ∙ ap Some memory)) | inr q ↦ q.2 ]
