-- The reasons and clocks of what a board tells of its triggers fit.
use Rattle.std.proofs.Common.{◌≡◌, ℕ, ◌^◌, ◌<◌, List, [], ◌∷◌, ◌++◌, length, Option, Some, None, refl, arith, rules}
use Rattle.std.specs.Prelude.{if◌then◌else◌}
use Rattle.laws_board.proofs.Names.{Level, Sampling, Happening, Nothing, Expires, Switches, Reports, Cmd, Rig, Slot, passes, takes_all, says}
use Rattle.board_trig.specs.Trigger as trig
use Rattle.msg_code.specs.declared.cmd.Cmd.TheVariants as cmd
use Rattle.laws_board.proofs.clocks.Answers.{Each, each_both}
use Rattle.laws_homing.specs.clear_boards.Firing.{AllSmall, AreSmall, HasSmall, IsSmall}
use Rattle.laws_homing.specs.clear_boards.Turned.{AreSentBehind, IsSentBehind}
use Rattle.laws_homing.proofs.clear_boards.Firing.{read_reason}
use Rattle.laws_homing.proofs.clear_boards.Slots.{Follows, Lasts, Tells, all_both, clock_small, levels_at, says_both, with_trigger}
use Rattle.laws_homing.proofs.home_runs.Saying.{IsOther}

other_small : (c : Cmd) → IsOther c → IsSmall c
other_small (cmd.TrsyncState oid can reason clock) o = absurd o
other_small c o = tt

-- what happens to a trigger
reason_small : (o : Option Sampling) → ((y : Sampling) → o ≡ Some y → y.reason < 2 ^ 8) → trig.reason_of o < 2 ^ 8
reason_small None k = omega arith
reason_small (Some y) k = k y refl

happened_small : (levels : List Level) (until : ℕ) (e : Happening) (s : Slot) → HasSmall s → HasSmall (with_trigger s (trig.happened levels until e s.trigger).trigger)
happened_small levels until e s p4 = search (rules, read_reason, reason_small)

-- and to all of a board
abbrev Small : List (List Level) → ℕ → Slot → Type 0
Small pins oid s = HasSmall s

lasts_small : (until : ℕ) → Lasts Small until
lasts_small until = record { comes = λ pins oid s e next k. happened_small (levels_at pins s) until e s k; says = λ pins oid s n e k. record { reason = k.reason; expire = k.expire; sampled = k.sampled } }

follows_small : (oid clock : ℕ) → Follows Small (λ now c. IsSentBehind oid clock c)
follows_small oid clock = search (rules, says)

tells_small : (room : ℕ) → Tells Small room IsSmall
tells_small room = record { own = λ pins oid n s l k. (k.reason, clock_small (if s.trigger.can then n else s.trigger.tick)); other = other_small }

behind_each : (oid clock : ℕ) (cs : List Cmd) → AreSentBehind oid clock cs → Each (IsSentBehind oid clock) cs
behind_each oid clock [] k = tt
behind_each oid clock (c ∷ cs) k = (k.0, behind_each oid clock cs k.1)

each_small : (cs : List Cmd) → Each IsSmall cs → AreSmall cs
each_small [] k = tt
each_small (c ∷ cs) k = (k.0, each_small cs k.1)

-- a turn
pub turn_small : (oid clock until : ℕ) (r : Rig) (cs : List Cmd) → AreSentBehind oid clock cs → AllSmall r → AllSmall (passes (takes_all r cs).rig until).rig × AreSmall ((takes_all r cs).answers ++ says (takes_all r cs).rig until)
turn_small oid clock until r cs k all =
    let q = (takes_all r cs).rig in
    let one = all_both Small (length r.triggers) IsSmall (tells_small _) (λ now c. IsSentBehind oid clock c) (follows_small oid clock) r cs (omega arith) (behind_each oid clock cs k) all in
    let two = says_both Small (length q.triggers) IsSmall (tells_small _) until (lasts_small until) q (omega arith) one.0 in
    (two.0, each_small ((takes_all r cs).answers ++ says q until) (each_both IsSmall (takes_all r cs).answers (says q until) one.2 two.2))
