-- What the reactor's thread took and put.
use Rattle.std.specs.Prelude.{◌≡◌, ◌⊎◌, ℕ, ◌+◌, Option, Some, None, List, [], ◌∷◌, ◌++◌, length}
use Rattle.plan_types.specs.declared.cause.Cause.{Cause}
use Rattle.session_work.specs.declared.ends.Lanes.{Lanes}
use Rattle.lane_queue.specs.Ends.{IsTakeOf, next_put}
use Rattle.session_work.specs.declared.machines.ReactorMachine.{Ghosts as Reactor}
use Rattle.session_work.specs.declared.machines.Outside.{Ghosts as Out}
use Rattle.msg_code.specs.declared.unit.Control.{Control}
use Rattle.msg_code.specs.declared.talk.WordMsg.{WordMsg}
use Rattle.msg_code.specs.declared.talk.Piece.{Piece}
use Rattle.session_work.specs.declared.head.Head.{Head}
use Rattle.session_work.specs.declared.reactor.ReactorDone.{ReactorDone}
use Rattle.session_work.specs.declared.table.ReactorTurn.{ReactorTurn}
use Rattle.session_work.specs.Heads.{Ordering, ServeStep, ReactorStep}
use Rattle.session_work.specs.Rows.{gather, item, option_items, HasPut, HasTaken, HavePut, HaveTaken}
use Rattle.session_work.specs.Leads.{each_turn, still_control, still_word, last_controls, last_words}
use Rattle.session_work.specs.Turns.{Goes}

-- the ends that turns answered
abbrev pub answered_ends : List ReactorTurn → List Cause
answered_ends ts = gather (λ t. option_items t.end) ts

-- a turn behind whose word these pieces were read so far
abbrev pub with_pieces : ReactorTurn → List Piece → ReactorTurn
with_pieces t ps =
    record {
      states = t.states;
      note = t.note;
      controls = t.controls;
      word = t.word;
      lines = t.lines;
      end = t.end;
      pieces = ps;
    }

module _ {A O : Type 0} (a : Reactor A) (o : Out O) where
  module _ (lanes : Lanes) where
    -- These turns were made. The controls and words of those were put, and behind them these for all boards.
    abbrev pub ReactorWent : List ReactorTurn → List ReactorTurn → List Control → List WordMsg → ReactorDone A O →
        Type 0
    ReactorWent ts said cs ws d =
        HavePut (λ j. gather (λ t. item j t.controls) said ++ cs) lanes.controls.now d.control_passes.items
        × HaveTaken (λ j. gather (λ t. item j t.states) ts) lanes.states.now d.state_passes.items
        × HasPut (gather (λ t. t.word ∷ []) said ++ ws) lanes.words.now d.word_pass
        × HasTaken (gather (λ t. option_items t.note) ts) lanes.notes.now d.note_pass
        × HasPut (gather (λ t. t.pieces) ts) lanes.pieces.now d.piece_pass
        × (next_put d.piece_pass ≡ d.served)
        × IsTakeOf lanes.asks.now d.ask_pass
        × (a.boards d.head.machine ≡ length lanes.controls.now)
        × (length lanes.states.now ≡ length lanes.controls.now)

    -- From turn k on bare controls and words were put for n turns, in which the machine says nothing.
    abbrev pub Ahead : ℕ → List ReactorTurn → ReactorDone A O → Type 0
    Ahead k ts d =
        (n : ℕ) × (d.next ≡ k + n) × ((n ≡ 0) ⊎ a.free d.head.machine k n)
        × ReactorWent ts ts (each_turn still_control k n) (each_turn still_word k n) d

    -- so many turns were made, and none of them ended the run
    abbrev pub IsReactorAt : ℕ → Head A O → ReactorDone A O → Type 0
    IsReactorAt k s d =
        (ts : List ReactorTurn) × (length ts ≡ k) × (answered_ends ts ≡ [])
        × Goes (ReactorStep a o (length lanes.controls.now)) 0 s ts d.head × Ahead k ts d

    -- turn k orders no end, and these pieces were read behind it so far
    abbrev pub IsServing : ℕ → Head A O → ReactorDone A O → Type 0
    IsServing k s d =
        (ts : List ReactorTurn) × (t : ReactorTurn) × (ps : List Piece) × (x : Head A O) × (b : Head A O)
        × (length ts ≡ k) × (answered_ends ts ≡ []) × Goes (ReactorStep a o (length lanes.controls.now)) 0 s ts x
        × (t.end ≡ None) × Ordering a o (length lanes.controls.now) k x t b
        × Goes (λ _. ServeStep a.stops o.serves k) 0 b ps d.head
        × Ahead (k + 1) (ts ++ with_pieces t ps ∷ []) d

    -- these turns were made, and then one that ended the run
    abbrev pub IsReactorDone : Cause → Head A O → ReactorDone A O → Type 0
    IsReactorDone c s d =
        (ts : List ReactorTurn) × (last : ReactorTurn) × (n : ℕ) × (answered_ends ts ≡ []) × (last.end ≡ Some c)
        × Goes (ReactorStep a o (length lanes.controls.now)) 0 s (ts ++ last ∷ []) d.head
        × ReactorWent (ts ++ last ∷ []) ts (last_controls (length ts) n) (last_words (length ts) n) d
