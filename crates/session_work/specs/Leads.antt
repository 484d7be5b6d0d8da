-- What the reactor puts ahead of what it took.
use Rattle.std.specs.Prelude.{◌≡◌, ◌⊎◌, ℕ, zero, suc, ◌+◌, ◌<◌, true, false, List, [], ◌∷◌, ◌++◌, length, get_or}
use Rattle.lane_queue.specs.declared.ends.Lane.{Lane}
use Rattle.lane_queue.specs.declared.passes.SendPass.{SendPass}
use Rattle.session_work.specs.declared.ends.Lanes.{Lanes}
use Rattle.lane_queue.specs.Ends.{IsSendOf, next_put, put, put_first}
use Rattle.msg_code.specs.declared.unit.Control.{Control}
use Rattle.msg_code.specs.declared.talk.WordMsg.{WordMsg}
use Rattle.session_work.specs.declared.reactor.ReactorDone.{ReactorDone}
use Rattle.session_work.specs.Bares.{bare_control, bare_word, stop_piece}
use Rattle.session_work.specs.Rows.{PutMore, RowPut, copies}

-- what there is for each of n turns from turn k on
abbrev pub each_turn : {T : Type 0} → (ℕ → T) → ℕ → ℕ → List T
each_turn f k zero = []
each_turn f k (suc n) = f k ∷ each_turn f (k + 1) n

-- no commands, and the run goes on
abbrev pub still_control : ℕ → Control
still_control k = bare_control k false

-- no news, and the run goes on
abbrev pub still_word : ℕ → WordMsg
still_word k = bare_word k false

-- behind what was said before turn k: bare controls for n turns, and the end
abbrev pub last_controls : ℕ → ℕ → List Control
last_controls k n = each_turn still_control k n ++ bare_control (k + n) true ∷ []

-- behind what was said before turn k: bare words for n turns, and the end
abbrev pub last_words : ℕ → ℕ → List WordMsg
last_words k n = each_turn still_word k n ++ bare_word (k + n) true ∷ []

-- these messages more were put, all of them on each lane
abbrev pub RowsPut : {T : Type 0} → List (Lane T) → List (SendPass T) → List (SendPass T) → List T → Type 0
RowsPut {T} ls old new xs =
    (length new ≡ length old)
    × ((j : ℕ) (l : Lane T) (p q : SendPass T) → j < length new →
    PutMore xs (get_or ls j l) (get_or old j p) (get_or new j q))

module _ (lanes : Lanes) where
  -- bare controls and words were put for n turns from turn k on
  abbrev pub HasLed : ℕ → ℕ → SendPass WordMsg → SendPass WordMsg → List (SendPass Control) → List (SendPass Control) →
      Type 0
  HasLed k n wp wq cps cqs =
      RowsPut lanes.controls.now cps cqs (each_turn still_control k n)
      × PutMore (each_turn still_word k n) lanes.words.now wp wq

  -- the controls and the word of turn k were put, or they were put before
  abbrev pub HasSaid : ℕ → WordMsg → List Control → ℕ → ℕ → SendPass WordMsg → SendPass WordMsg →
      List (SendPass Control) → List (SendPass Control) → Type 0
  HasSaid k word made next after wp wq cps cqs =
      ((next ≡ k) × (after ≡ k + 1) × RowPut lanes.controls.now cps cqs made
      × PutMore (word ∷ []) lanes.words.now wp wq)
      ⊎ ((k < next) × (after ≡ next) × (wp ≡ wq) × (cps ≡ cqs))

  -- the end was put behind what was put ahead, and in turn k a piece that says that nothing comes
  abbrev pub HasEnded : {A O : Type 0} → ℕ → ReactorDone A O → ReactorDone A O → Type 0
  HasEnded k d e =
      RowPut lanes.controls.now d.control_passes.items e.control_passes.items
      (copies (length lanes.controls.now) (bare_control d.next true))
      × PutMore (bare_word d.next true ∷ []) lanes.words.now d.word_pass e.word_pass
      × PutMore (stop_piece k d.served ∷ []) lanes.pieces.now d.piece_pass e.piece_pass
      × (next_put e.piece_pass ≡ e.served) × (e.head ≡ d.head) × (e.note_pass ≡ d.note_pass)
      × (e.ask_pass ≡ d.ask_pass) × (e.state_passes ≡ d.state_passes)
