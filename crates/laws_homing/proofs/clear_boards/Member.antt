-- A board of a homing group over a turn of a clear link.
use Rattle.std.proofs.Common.{◌≡◌, ℕ, ◌<◌, ◌≤◌, List, [], ◌∷◌, ◌++◌, length, Option, Some, None, ap, sym, ◌∙◌, subst, arith, rules}
use Rattle.std.specs.Prelude.{nat_lt}
use Rattle.laws_board.proofs.Names.{BoardState, Running, nearest, Cmd, Trigger, Rig, Slot, acts, acts_running, expires_at_once, passes, set_timeout, slot_at, takes, takes_all, AllSound, says}
use Rattle.msg_code.specs.declared.cmd.Cmd.TheVariants as cmd
use Rattle.board_trig.specs.Trigger as trig
use Rattle.board_sim.specs.Board.{takes as board_takes}
use Rattle.board_sim.specs.Turn.{says_shut}
use Rattle.board_sim.proofs.RigTicks.{takes_rig_tick}
use Rattle.board_sim.proofs.Sound.{takes_sound}
use Rattle.board_world.specs.World.{shut_before}
use Rattle.laws_board.proofs.clocks.Answers.{Each, each_both}
use Rattle.laws_homing.specs.home_runs.Guards.{HasFired, IsSole}
use Rattle.laws_homing.proofs.home_runs.Guarding.{passes_next}
use Rattle.laws_homing.proofs.home_runs.Saying.{IsOther, Says, all_later, all_say, board_tells, shut_other, time_says}
use Rattle.laws_homing.specs.clear_boards.Alive.{RelayNone}
use Rattle.laws_homing.specs.clear_boards.Firing.{AreNumbered, AreSpoken, IsNumbered, IsSpoken}
use Rattle.laws_homing.specs.clear_boards.Turned.{AreSentBehind, IsSentBehind, Relays}
use Rattle.laws_homing.proofs.clear_boards.Alive.{one_left, timed_is, with_timeout}
use Rattle.laws_homing.proofs.clear_boards.Bridging.{IsOff}
use Rattle.laws_homing.proofs.clear_boards.Firing.{small_both}
use Rattle.laws_homing.proofs.clear_boards.Turned.{above, calm_all, ran}
use Rattle.plan_types.proofs.Facts.{is_less}

other_spoken : (base limit until : ℕ) (c : Cmd) → IsOther c → IsSpoken base limit until c
other_spoken base limit until (cmd.TrsyncState oid can reason clock) o = absurd o
other_spoken base limit until c o = tt

others_spoken : (base limit until : ℕ) (cs : List Cmd) → Each IsOther cs → AreSpoken base limit until cs
others_spoken base limit until [] k = tt
others_spoken base limit until (c ∷ cs) k = (other_spoken base limit until c k.0, others_spoken base limit until cs k.1)

-- a command that doesn't trigger tells of no trigger
once_spoken : (base limit until : ℕ) (o : Option ℕ) (r : Rig) (oid : ℕ) (s : Slot) (t : Trigger) → o ≡ None → AreSpoken base limit until (expires_at_once r oid s t o).answers
once_spoken base limit until None r oid s t e = tt
once_spoken base limit until (Some n) r oid s t e = absurd (cc)

timeout_spoken : (base limit until oid clock : ℕ) (r : Rig) (s : Slot) → s.trigger.untold ≡ None → r.controller.tick < nearest r.controller.tick clock → AreSpoken base limit until (set_timeout r oid (Some s) clock).answers
timeout_spoken base limit until oid clock r s told ahead = search (rules, nearest, timed_is, nat_lt, is_less, once_spoken)

acts_spoken : (base limit until oid clock : ℕ) (r : Rig) (c : Cmd) (s : Slot) → slot_at r oid ≡ Some s → s.trigger.untold ≡ None → r.controller.tick < nearest r.controller.tick clock → IsSentBehind oid clock c → (Relays c → ⊥) → AreSpoken base limit until (acts r c).answers
acts_spoken base limit until oid clock r c s p8 p9 p10 p11 p12 = search (rules, set_timeout, slot_at, nearest, timeout_spoken, others_spoken, board_tells)

pub takes_spoken : (base limit until oid clock now : ℕ) (r : Rig) (cs : List Cmd) (s : Slot) → (takes_all r cs).rig.controller.state ≡ Running → slot_at r oid ≡ Some s → s.trigger.untold ≡ None → r.controller.tick ≡ now → now < nearest now clock → AreSentBehind oid clock cs
    → RelayNone cs → AreSpoken base limit until (takes_all r cs).answers
takes_spoken base limit until oid clock now r [] s runs there told at ahead k none = tt
takes_spoken base limit until oid clock now r (c ∷ cs) s runs there told at ahead k none =
    let later : r.controller.tick < nearest r.controller.tick clock = subst (λ (n : ℕ). n < nearest n clock) (sym at) ahead in
    let running = ran r (c ∷ cs) runs in
    let Runs : BoardState → Type 0 = λ o. AreSpoken base limit until (acts_running o r c).answers in
    let one = subst Runs (sym running) (acts_spoken base limit until oid clock r c s there told later k.0 none.0) in
    let left = one_left oid clock r c s running there told later k.0 none.0 in
    let rest = takes_spoken base limit until oid clock now (takes r c).rig cs (with_timeout s left.0.0) runs left.0.1 told (takes_rig_tick r c ∙ at) ahead k.1 none.1 in
    small_both base limit until (takes r c).answers (takes_all (takes r c).rig cs).answers one rest

-- all that it answers in the turn
pub turn_spoken : (base limit until : ℕ) (r : Rig) (cs : List Cmd) → AreSpoken base limit until (takes_all r cs).answers → AreSpoken base limit until (passes (takes_all r cs).rig until).answers
    → AreSpoken base limit until ((takes_all r cs).answers ++ says (takes_all r cs).rig until)
turn_spoken base limit until r cs k l =
    let q = (takes_all r cs).rig in
    let shut = says_shut (shut_before q.controller.state q.controller.tick) q.controller.tick until in
    small_both base limit until (takes_all r cs).answers (says q until) k (small_both base limit until (passes q until).answers shut l (others_spoken base limit until shut (shut_other (shut_before q.controller.state q.controller.tick) q.controller.tick until)))

one_numbered : (j : ℕ) (q : Rig) (c : Cmd) → Says ⊥ j q c → IsNumbered c
one_numbered j q (cmd.TrsyncState oid can reason clock) s = (s.0, s.1)
one_numbered j q c s = tt

each_numbered : (j : ℕ) (q : Rig) (cs : List Cmd) → Each (Says ⊥ j q) cs → AreNumbered cs
each_numbered j q [] k = tt
each_numbered j q (c ∷ cs) k = (one_numbered j q c k.0, each_numbered j q cs k.1)

numbered_both : (xs ys : List Cmd) → AreNumbered xs → AreNumbered ys → AreNumbered (xs ++ ys)
numbered_both [] ys k l = l
numbered_both (x ∷ xs) ys k l = (k.0, numbered_both xs ys k.1 l)

pub turn_numbered : (oid clock until : ℕ) (r : Rig) (cs : List Cmd) → length r.triggers ≤ 256 → length (takes_all r cs).rig.triggers ≤ 256 → IsSole oid r → IsSole oid (takes_all r cs).rig → AreSentBehind oid clock cs
    → AreNumbered ((takes_all r cs).answers ++ says (takes_all r cs).rig until)
turn_numbered oid clock until r cs few still sole sole_still k =
    let q = (takes_all r cs).rig in
    numbered_both (takes_all r cs).answers (says q until) (each_numbered oid q (takes_all r cs).answers (all_say ⊥ (above cs) oid r cs few sole (λ none. absurd none) (calm_all (above cs) oid clock cs (omega arith) k)))
    (each_numbered oid (passes q until).rig (says q until) (time_says ⊥ (above cs) oid q until still sole_still (λ none. absurd none)))

pub all_sound : (r : Rig) (cs : List Cmd) → AllSound r → AllSound (takes_all r cs).rig
all_sound r [] k = k
all_sound r (c ∷ cs) k = all_sound (takes r c).rig cs (takes_sound r c k)

-- where a board's trigger can trigger behind a turn, it told of none that can't
off_not : (j : ℕ) (q : Rig) (c : Cmd) → Says ⊥ j q c → IsOff c → HasFired j q
off_not j q (cmd.TrsyncState oid can reason clock) s off = s.3 (off s.0 s.1)
off_not j q c s off = absurd off

each_off : (j : ℕ) (q : Rig) (cs : List Cmd) → Each (Says ⊥ j q) cs → Each (λ c. IsOff c → HasFired j q) cs
each_off j q [] k = tt
each_off j q (c ∷ cs) k = (λ off. off_not j q c k.0 off, each_off j q cs k.1)

pub turn_off : (oid clock until : ℕ) (r : Rig) (cs : List Cmd) → length r.triggers ≤ 256 → length (takes_all r cs).rig.triggers ≤ 256 → IsSole oid r → IsSole oid (takes_all r cs).rig → AreSentBehind oid clock cs
    → Each (λ c. IsOff c → HasFired oid (passes (takes_all r cs).rig until).rig) ((takes_all r cs).answers ++ says (takes_all r cs).rig until)
turn_off oid clock until r cs few still sole sole_still k =
    let q = (takes_all r cs).rig in
    let i = above cs in
    let end = (passes q until).rig in
    let first = all_say ⊥ i oid r cs few sole (λ none. absurd none) (calm_all i oid clock cs (omega arith) k) in
    each_off oid end ((takes_all r cs).answers ++ says q until)
    (each_both (Says ⊥ oid end) (takes_all r cs).answers (says q until) (all_later ⊥ ⊥ i oid q end (takes_all r cs).answers (λ none. none) (passes_next i oid q until) first) (time_says ⊥ i oid q until still sole_still (λ none. absurd none)))
