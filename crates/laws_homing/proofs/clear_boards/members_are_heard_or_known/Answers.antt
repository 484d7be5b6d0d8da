use Rattle.laws_homing.proofs.clear_boards.Stepping.{goes_on}
use Rattle.laws_homing.proofs.clear_boards.members_are_heard_or_known.Goals as goal

pub returns : goal.returns
returns c = λ b pins place entries t before all states h oid base every ready sent next rests are ticks k few is together begins early low soon start next_soon in_run small rises goes far near most oid_small triggers at runs behind relays sets limited sound a heard known.
    goes_on b pins place entries t before rests are all states h oid base every ready sent next ticks k few is together begins early low soon start next_soon in_run small rises goes far near most oid_small triggers at runs behind relays sets limited sound a heard known
