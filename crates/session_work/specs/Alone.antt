-- A run on one thread.
use Rattle.std.specs.Prelude.{◌≡◌, ℕ, ◌+◌, ◌<◌, List, [], ◌∷◌, length, get_or, IfSome}
use Rattle.std.specs.Global.{Global, Vec}
use Rattle.std.specs.declared.collections.VecDeque.{VecDeque}
use Rattle.session_work.specs.declared.ends.Lanes.{Lanes}
use Rattle.lane_queue.specs.declared.passes.SendPass.{SendPass}
use Rattle.lane_queue.specs.declared.passes.TakePass.{TakePass}
use Rattle.lane_queue.specs.Ends.{IsSendOf, IsTakeOf, next_put, next_take}
use Rattle.session_work.specs.declared.head.Found.{Found}
use Rattle.session_work.specs.declared.head.Head.{Head}
use Rattle.session_work.specs.declared.reactor.ReactorDone.{ReactorDone}
use Rattle.session_work.specs.declared.machines.ReactorMachine.{Ghosts as Reactor}
use Rattle.session_work.specs.declared.machines.Outside.{Ghosts as Out}
use Rattle.msg_code.specs.declared.talk.WordMsg.{WordMsg}
use Rattle.msg_code.specs.declared.talk.Note.{Note}
use Rattle.session_work.specs.Heads.{IsRow}
use Rattle.session_work.specs.Reactors.{IsReactorAt, IsServing}
use Rattle.session_work.specs.Rows.{AreOf, CanPut, CanTake, PutMore, RowPut, RowTaken, TookMore, option_items}
use Rattle.session_work.specs.declared.hands.Hand.{Hand}
use Rattle.session_work.specs.declared.late.Late.{Late}
use Rattle.session_work.specs.declared.motion.MotionDone.{MotionDone}
use Rattle.session_work.specs.declared.machines.LinkMachine.{Ghosts as Link}
use Rattle.msg_code.specs.declared.unit.Batch.{Batch}
use Rattle.msg_code.specs.declared.unit.Control.{Control}
use Rattle.msg_code.specs.declared.talk.State.{State}
use Rattle.session_work.specs.Links.{IsLinkAt}

module _ {L : Type 0} (l : Link L) where
  -- the link of board j made k turns from its machine
  abbrev pub IsHandAt : ℕ → Lanes → ℕ → Hand L → Type 0
  IsHandAt k lanes j h = IsLinkAt l.turns k lanes j h.start.value h.done

  -- each of these links made k turns
  abbrev pub AreHands : ℕ → Lanes → List (Hand L) → Type 0
  AreHands k lanes hs = (j : ℕ) (h : Hand L) → j < length hs → IsHandAt k lanes j (get_or hs j h)

module _ {M : Type 0} where
  -- the motion worker with these passes for its batches and notes, and these turns that wait
  abbrev pub with_puts : MotionDone M → Vec (SendPass Batch) → SendPass Note → VecDeque Late Global → MotionDone M
  with_puts d bps np late =
      record {
        seat = d.seat;
        asks = d.asks;
        closed = d.closed;
        sated = d.sated;
        word_pass = d.word_pass;
        note_pass = np;
        ask_pass = d.ask_pass;
        piece_pass = d.piece_pass;
        batch_passes = bps;
        late = late;
      }

module _ {A O : Type 0} where
  -- the reactor with these passes for what it takes
  abbrev pub with_takes : ReactorDone A O → TakePass Note → Vec (TakePass State) → ReactorDone A O
  with_takes d np sps =
      record {
        head = d.head;
        served = d.served;
        next = d.next;
        closed = d.closed;
        sated = d.sated;
        word_pass = d.word_pass;
        note_pass = np;
        ask_pass = d.ask_pass;
        piece_pass = d.piece_pass;
        control_passes = d.control_passes;
        state_passes = sps;
      }

  -- the reactor with these passes for its controls
  abbrev pub with_controls : ReactorDone A O → Vec (SendPass Control) → ReactorDone A O
  with_controls d cps =
      record {
        head = d.head;
        served = d.served;
        next = d.next;
        closed = d.closed;
        sated = d.sated;
        word_pass = d.word_pass;
        note_pass = d.note_pass;
        ask_pass = d.ask_pass;
        piece_pass = d.piece_pass;
        control_passes = cps;
        state_passes = d.state_passes;
      }

  -- the reactor with this pass for its words
  abbrev pub with_words : ReactorDone A O → SendPass WordMsg → ReactorDone A O
  with_words d wp =
      record {
        head = d.head;
        served = d.served;
        next = d.next;
        closed = d.closed;
        sated = d.sated;
        word_pass = wp;
        note_pass = d.note_pass;
        ask_pass = d.ask_pass;
        piece_pass = d.piece_pass;
        control_passes = d.control_passes;
        state_passes = d.state_passes;
      }

  module _ (a : Reactor A) (o : Out O) (lanes : Lanes) where
    -- what is taken next of the states and notes is that of turn k
    abbrev pub IsTaking : ℕ → ReactorDone A O → Type 0
    IsTaking k d =
        CanTake k lanes.states.now d.state_passes.items × (length d.state_passes.items ≡ length lanes.states.now)
        × IsTakeOf lanes.notes.now d.note_pass × (next_take d.note_pass ≡ k)

    -- the states and the note of the turn before were taken, which turn k begins with
    abbrev pub IsFound : ℕ → Head A O → Found → ReactorDone A O → Type 0
    IsFound k s f d =
        (np : TakePass Note) × (sps : Vec (TakePass State)) × IsReactorAt a o lanes k s (with_takes d np sps)
        × RowTaken lanes.states.now sps.items d.state_passes.items f.states.items
        × TookMore (option_items f.note) lanes.notes.now np d.note_pass
        × IsRow (length lanes.states.now) k f.states.items f.note × AreOf (λ x. x.turn + 1) k f.states.items
        × IfSome f.note (λ x. x.turn + 1 ≡ k) × (d.next ≡ k) × IsTaking k d

    -- P will hold of the reactor once these controls of turn k are put
    pub record Owes (P : ReactorDone A O → Type 0) (k : ℕ) (made : List Control) (d : ReactorDone A O) : Type 0 where
      pub many : (length made ≡ length lanes.controls.now) × (length d.control_passes.items ≡ length lanes.controls.now)
          × (length lanes.states.now ≡ length lanes.controls.now)
      pub numbers : AreOf (λ c. c.turn) k made
      pub puts : CanPut k lanes.controls.now d.control_passes.items
      pub takes : IsTaking k d
      pub piece : IsSendOf lanes.pieces.now d.piece_pass × (next_put d.piece_pass ≡ d.served)
      pub next : d.next ≡ k + 1
      pub behind : (cps : Vec (SendPass Control)) → RowPut lanes.controls.now d.control_passes.items cps.items made →
          P (with_controls d cps)

    -- turn k orders no end, but its controls are still to be put
    abbrev pub OwesServing : ℕ → Head A O → List Control → ReactorDone A O → Type 0
    OwesServing k s made d = Owes (IsServing a o lanes k s) k made d

    -- and its word too
    pub record OwesWord (k : ℕ) (s : Head A O) (made : List Control) (word : WordMsg) (d : ReactorDone A O)
        : Type 0 where
      pub number : word.turn ≡ k
      pub can : IsSendOf lanes.words.now d.word_pass × (next_put d.word_pass ≡ k)
      pub behind : (wp : SendPass WordMsg) → PutMore (word ∷ []) lanes.words.now d.word_pass wp →
          OwesServing k s made (with_words d wp)

    -- turn k is made, but its controls are still to be put
    abbrev pub OwesTurn : ℕ → Head A O → List Control → ReactorDone A O → Type 0
    OwesTurn k s made d = Owes (IsReactorAt a o lanes (k + 1) s) k made d
