-- What holds of a board's asking at every turn.
use Rattle.std.specs.Prelude.{◌^◌, ◌<◌, Option, Some, None}
use Rattle.clock_line.specs.declared.sample.Sample.{Sample}
use Rattle.board_asking.specs.declared.asking.Put.{Put}
use Rattle.board_asking.specs.declared.asking.Asking.{Asking}

-- the turn in which a block was put is below 2^59
abbrev pub IsPutEarly : Option Put → Type 0
IsPutEarly None = Unit {0}
IsPutEarly (Some put) = put.turn < 2 ^ 59

-- the turn in which a sample was sent is below 2^59
abbrev pub IsSampleEarly : Option Sample → Type 0
IsSampleEarly None = Unit {0}
IsSampleEarly (Some s) = s.sent < 2 ^ 59

-- the turns of which a board's asking knows are below 2^59, as all turns of a run are
pub record IsEarly (a : Asking) : Type 0 where
  pub put : IsPutEarly a.put
  pub best : IsSampleEarly a.best
