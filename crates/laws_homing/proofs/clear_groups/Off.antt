-- A board whose triggers can't trigger stays so over a turn in which none is started.
use Rattle.std.proofs.Common.{◌≡◌, ℕ, false, List, [], ◌∷◌, Option, refl}
use Rattle.laws_board.proofs.Names.{Level, BoardState, Trigger, Happening, Nothing, Expires, Switches, Reports, Cmd, Rig, Slot, acts_running, happens_to, passes, slot_at, takes_all}
use Rattle.board_trig.specs.Trigger as trig
use Rattle.laws_board.proofs.clocks.Answers.{Each}
use Rattle.laws_homing.proofs.clear_boards.Slots.{Follows, Lasts, happens_each, passes_each, running_each, takes_each}
use Rattle.laws_homing.specs.clear_groups.Resting.{EachTame, IsTame}
use Rattle.laws_homing.specs.clear_boards.Limited.{AllFired}

abbrev Off_one : List (List Level) → ℕ → Slot → Type 0
Off_one pins oid s = s.trigger.can ≡ false

abbrev pub Tame : ℕ → Cmd → Type 0
Tame now c = IsTame c

happened_off : (levels : List Level) (until : ℕ) (e : Happening) (t : Trigger) → t.can ≡ false → (trig.happened levels until e t).trigger.can ≡ false
happened_off levels until (Expires at) t k = refl
happened_off levels until (Switches at) t k = refl
happened_off levels until c t k = k

lasts_off : (until : ℕ) → Lasts Off_one until
lasts_off until = record { comes = λ pins oid s e next k. happened_off _ until e s.trigger k; says = λ pins oid s n e k. k }

follows_off : Follows Off_one Tame
follows_off = record {
  made = λ pins now oid fit. refl;
  starts = λ pins now oid s clock every reason fit k. absurd fit;
  limits = λ pins now oid s clock fit can ahead k. k;
  expires = λ pins now oid s clock fit can past k. refl;
  says = λ pins oid s n e k. k;
  fires = λ pins now oid s reason fit can k. refl;
  binds = λ pins now oid s i fit k. k;
  homes = λ pins now oid s i pin g fit k. k;
}

pub tame_each : (now : ℕ) (cs : List Cmd) → EachTame cs → Each (Tame now) cs
tame_each now [] k = tt
tame_each now (c ∷ cs) k = (k.0, tame_each now cs k.1)

pub running_off : (o : BoardState) (r : Rig) (c : Cmd) → IsTame c → AllFired r → AllFired (acts_running o r c).rig
running_off o r c k all = running_each Off_one Tame follows_off o r c k all

pub happens_off : (until oid : ℕ) (r : Rig) (o : Option Slot) → slot_at r oid ≡ o → AllFired r → AllFired (happens_to r until oid o).rig
happens_off until oid r o e all = happens_each Off_one until (lasts_off until) oid r o e all

pub passes_off : (until : ℕ) (r : Rig) → AllFired r → AllFired (passes r until).rig
passes_off until r all = passes_each Off_one until (lasts_off until) r all

pub turn_off : (until : ℕ) (r : Rig) (cs : List Cmd) → EachTame cs → AllFired r → AllFired (passes (takes_all r cs).rig until).rig
turn_off until r cs k all = passes_off until (takes_all r cs).rig (takes_each Off_one Tame follows_off r cs (tame_each r.controller.tick cs k) all)
