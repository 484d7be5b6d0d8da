-- The reactor on one thread.
use Rattle.std.proofs.Common.{◌≡◌, ℕ, ◌+◌, ◌<◌, List, [], ◌∷◌, ◌++◌, length, get_or, Option, Some, None, IfSome, refl, sym, ap, ◌∙◌, subst, arith, append-nil, length-append}
use mathlib.Core.Logic.{inl, inr}
use Rattle.std.specs.Global.{Vec}
use Rattle.lane_queue.specs.declared.ends.Lane.{Lane}
use Rattle.session_work.specs.declared.ends.Lanes.{Lanes}
use Rattle.lane_queue.specs.declared.passes.SendPass.{SendPass}
use Rattle.lane_queue.specs.declared.passes.TakePass.{TakePass}
use Rattle.lane_queue.specs.Ends.{taken, take_first, next_take}
use Rattle.session_work.specs.declared.machines.ReactorMachine.{Ghosts as Reactor}
use Rattle.session_work.specs.declared.machines.Outside.{Ghosts as Out}
use Rattle.msg_code.specs.declared.unit.Control.{Control}
use Rattle.msg_code.specs.declared.talk.State.{State}
use Rattle.msg_code.specs.declared.talk.WordMsg.{WordMsg}
use Rattle.msg_code.specs.declared.talk.Note.{Note}
use Rattle.msg_code.specs.declared.talk.Ask.{Ask}
use Rattle.msg_code.specs.declared.talk.Piece.{Piece}
use Rattle.session_work.specs.declared.head.Found.{Found}
use Rattle.session_work.specs.declared.head.Head.{Head}
use Rattle.session_work.specs.declared.reactor.ReactorDone.{ReactorDone}
use Rattle.session_work.specs.declared.table.ReactorTurn.{ReactorTurn}
use Rattle.session_work.specs.Heads.{Ordering}
use Rattle.session_work.specs.Alone.{IsFound, OwesTurn, with_takes, with_controls}
use Rattle.session_work.specs.Rows.{AreOf, gather, item, option_items, CanTake, PutMore, RowPut, RowTaken, TookMore}
use Rattle.session_work.specs.Reactors.{IsReactorAt, IsServing}
use Rattle.session_work.specs.Leads.{still_control, still_word}
use Rattle.session_work.proofs.Leads.{first_said}
use Rattle.session_work.proofs.Goes.{put_more, next_taken}
use Rattle.session_work.proofs.Columns.{can_take, row_none, row_put}
use Rattle.session_work.proofs.Reactors.{length_item, Takes, renewed, on_with}
use Rattle.plan_types.proofs.Facts.{none_long}

-- a row was taken of lanes whose next message was number k
pub took_row : {T : Type 0} (k : ℕ) (ls : List (Lane T)) (old new : List (TakePass T)) (xs : List T) → CanTake k ls old → RowTaken ls old new xs → length xs ≡ length old → CanTake (k + 1) ls new
took_row k ls old new xs can row many j l p low =
    let s = row.0 in let was = can j l p (omega arith) in let now = row.1 j l p p low in
    let f = now.1 in let more = ap length now.2 in let sum = length-append (taken (get_or old j p)) (item j xs) in let one = length_item xs j (omega arith) in let n = was.1 in
    (now.0, omega arith)

module _ {A O : Type 0} (a : Reactor A) (o : Out O) (lanes : Lanes) where
  -- no end was ordered in turn k, and nothing is put ahead
  pub here_with : (k : ℕ) (s : Head A O) (d : ReactorDone A O) (t : ReactorTurn) (head : Head A O) (wp : SendPass WordMsg) (np : TakePass Note) (cps : Vec (SendPass Control)) (sps : Vec (TakePass State))
      → IsReactorAt a o lanes k s d → d.next ≡ k → t.end ≡ None → t.pieces ≡ []
      → Ordering a o (length lanes.controls.now) k d.head t head → Takes a o lanes t.states t.note d np sps.items
      → PutMore (t.word ∷ []) lanes.words.now d.word_pass wp → RowPut lanes.controls.now d.control_passes.items cps.items t.controls
      → a.boards head.machine ≡ a.boards d.head.machine
      → IsServing a o lanes k s (renewed a o lanes d head d.served (k + 1) wp np d.piece_pass cps sps)
  here_with k s d t head wp np cps sps h next none bare ordering takes word row boards =
      let w = h.4.3 in let x = h.4.1 in let here : h.4.0 ≡ 0 = omega (arith, x, next) in
      on_with a o lanes k s d t head (k + 1) 0 wp np cps sps h none bare ordering takes (omega arith) (inl refl) (
        row_put _ _ lanes.controls.now _ _ t.controls w.0 row (λ j. first_said (λ (u : ReactorTurn). item j u.controls) still_control h.0 t k h.4.0 here),
        put_more _ (t.word ∷ []) _ _ _ _ w.2 word.0 word.1 word.2 (first_said (λ (u : ReactorTurn). u.word ∷ []) still_word h.0 t k h.4.0 here),
      )
      boards

  -- nothing is found in turn 0
  pub first_found : (s : Head A O) (d : ReactorDone A O) (f : Found) → f.states.items ≡ [] → f.note ≡ None → IsReactorAt a o lanes 0 s d → d.next ≡ 0
      → IsFound a o lanes 0 s f d
  first_found s d f none bare h next =
      let w = h.4.3 in let no = none_long h.0 h.1 in (
        d.note_pass,
        d.state_passes,
        h,
        row_none lanes.states.now d.state_passes.items f.states.items (λ j l p low. (w.1.1 j l p low).0) none,
        (w.3.0, refl, sym (append-nil (taken d.note_pass)) ∙ ap (λ n. taken d.note_pass ++ option_items n) (sym bare)),
        inl (refl, none, bare),
        (λ j x low. absurd (let e = ap length none in omega (arith, low))),
        subst (λ n. IfSome n (λ x. x.turn + 1 ≡ 0)) (sym bare) tt,
        next,
        (
          can_take (λ j. gather (λ (t : ReactorTurn). item j t.states) h.0) 0 lanes.states.now d.state_passes.items w.1 (λ j low. ap (λ ts. length (gather (λ (t : ReactorTurn). item j t.states) ts)) no),
          w.1.0,
          w.3.0,
          next_taken _ 0 lanes.notes.now _ w.3 (ap (λ ts. length (gather (λ (t : ReactorTurn). option_items t.note) ts)) no),
        ),
      )

  -- the controls of turn k were put, and its states and its note taken
  pub next_found : (k : ℕ) (s : Head A O) (made : List Control) (d : ReactorDone A O) (cps : Vec (SendPass Control)) (sps : Vec (TakePass State)) (np : TakePass Note) (f : Found) (note : Note)
      → OwesTurn a o lanes k s made d → RowPut lanes.controls.now d.control_passes.items cps.items made → RowTaken lanes.states.now d.state_passes.items sps.items f.states.items
      → TookMore (note ∷ []) lanes.notes.now d.note_pass np → f.note ≡ Some note → length f.states.items ≡ length lanes.states.now → AreOf (λ x. x.turn) k f.states.items → note.turn ≡ k
      → IsFound a o lanes (k + 1) s f (with_takes (with_controls d cps) np sps)
  next_found k s made d cps sps np f note owes put row took is many numbers turn =
      let t = owes.takes in let size = t.1 in let at = t.3 in let first = took.1 in let more = ap length took.2 in let sum = length-append (taken d.note_pass) (note ∷ []) in (
        d.note_pass,
        d.state_passes,
        owes.behind cps put,
        row,
        (took.0, took.1, took.2 ∙ ap (λ n. taken d.note_pass ++ option_items n) (sym is)),
        inr (omega arith, many, (note, is)),
        (λ j x low. ap (λ n. n + 1) (numbers j x low)),
        subst (λ n. IfSome n (λ x. x.turn + 1 ≡ k + 1)) (sym is) (ap (λ n. n + 1) turn),
        owes.next,
        (took_row k lanes.states.now _ _ f.states.items t.0 row (many ∙ sym size), row.0 ∙ size, took.0, omega arith),
      )
