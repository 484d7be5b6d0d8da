use Rattle.motion_stream.proofs.Clearing.{clear_is}
use Rattle.motion_stream.proofs.Keeping.{text_clear, turn_clear, word_clear}
use Rattle.motion_stream.proofs.laws.notes_keep_clear.Goals as goal

pub returns : goal.returns
returns c = record { note = clear_is; text = text_clear; word = word_clear; turn = turn_clear }
