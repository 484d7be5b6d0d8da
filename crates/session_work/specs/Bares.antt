-- Messages that say nothing but a flag.
use Rattle.std.specs.Prelude.{ℕ, Bool, true, false, [], None}
use Rattle.msg_code.specs.declared.unit.Batch.{Batch}
use Rattle.msg_code.specs.declared.unit.Control.{Control}
use Rattle.msg_code.specs.declared.talk.State.{State}
use Rattle.msg_code.specs.declared.talk.WordMsg.{WordMsg}
use Rattle.msg_code.specs.declared.talk.Note.{Note}
use Rattle.msg_code.specs.declared.talk.Piece.{Piece}

-- no units; whether nothing follows
abbrev pub bare_batch : ℕ → Bool → Batch
bare_batch k end = record { turn = k; units = []; end = end }

-- no commands, as they are once connecting ended; whether nothing follows
abbrev pub bare_control : ℕ → Bool → Control
bare_control k end = record { turn = k; commands = []; connected = true; end = end }

-- nothing found; whether memory was wanted
abbrev pub bare_state : ℕ → Bool → State
bare_state k out = record { turn = k; news = []; pulses = []; asked = []; shut = None; idle = false; out = out }

-- nothing told; whether nothing follows
abbrev pub bare_word : ℕ → Bool → WordMsg
bare_word k end = record { turn = k; news = []; end = end }

-- nothing told; whether memory was wanted
abbrev pub bare_note : ℕ → Bool → Note
bare_note k out = record { turn = k; news = []; clear = 0; out = out }

-- a piece that could not be read in turn k
abbrev pub stop_piece : ℕ → ℕ → Piece
stop_piece k n = record { number = n; turn = k; bytes = []; end = false; stop = true }
