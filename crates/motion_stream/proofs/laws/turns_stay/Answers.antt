use Rattle.motion_stream.proofs.Laying.{none_put, text_put, turn_put, word_put}
use Rattle.motion_stream.proofs.laws.turns_stay.Goals as goal

pub returns : goal.returns
returns c = record { none = none_put; text = text_put; word = word_put; turn = turn_put }
