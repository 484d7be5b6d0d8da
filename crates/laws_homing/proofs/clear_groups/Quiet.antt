-- A board stays quiet over a turn in which it is let read no switch.
use Rattle.std.proofs.Common.{◌≡◌, ℕ, true, false, List, [], ◌∷◌, Option, Some, None, refl, ap, sym, ◌∙◌, subst}
use Rattle.laws_board.proofs.Names.{Level, Sampling, Trigger, Happening, Nothing, Expires, Switches, Reports, Cmd, Rig, Slot, passes, slot_at, takes_all, one_slot}
use Rattle.board_trig.specs.Trigger as trig
use Rattle.laws_board.proofs.clocks.Answers.{Each}
use Rattle.laws_homing.proofs.clear_boards.Slots.{Follows, Lasts, passes_each, takes_each}
use Rattle.laws_homing.specs.clear_groups.Quiet.{EachBlind, ReadsNoSwitch}
use Rattle.laws_homing.specs.switch_runs.Taken.{IsBlind}
use Rattle.laws_homing.specs.clear_groups.SetUp.{HoldsOf, IsArmed}

abbrev Blank : Trigger → Type 0
Blank t = t.can ≡ false → t.sampling ≡ None

abbrev Quiet_one : List (List Level) → ℕ → Slot → Type 0
Quiet_one pins oid s = Blank s.trigger

none_read : (o : Option Sampling) (levels : List Level) (until : ℕ) → o ≡ None → trig.read_to levels until o ≡ None
none_read None levels until e = refl
none_read (Some s) levels until e = cc

happened_quiet : (levels : List Level) (until : ℕ) (e : Happening) (t : Trigger) → Blank t → Blank (trig.happened levels until e t).trigger
happened_quiet levels until Nothing t k = λ off. none_read t.sampling levels until (k off)
happened_quiet levels until (Reports at) t k = k
happened_quiet levels until c t k = λ off. refl

lasts_quiet : (until : ℕ) → Lasts Quiet_one until
lasts_quiet until = record { comes = λ pins oid s e next k. happened_quiet _ until e s.trigger k; says = λ pins oid s n e k. k }

follows_quiet : Follows Quiet_one (λ now c. IsBlind c)
follows_quiet = record {
  made = λ pins now oid fit off. refl;
  starts = λ pins now oid s clock every reason fit k off. absurd (let bad : true ≡ false = off in cc);
  limits = λ pins now oid s clock fit can ahead k. k;
  expires = λ pins now oid s clock fit can past k off. refl;
  says = λ pins oid s n e k. k;
  fires = λ pins now oid s reason fit can k off. refl;
  binds = λ pins now oid s i fit k. k;
  homes = λ pins now oid s i pin g fit k. absurd fit;
}

blind_each : (cs : List Cmd) → EachBlind cs → Each IsBlind cs
blind_each [] k = tt
blind_each (c ∷ cs) k = (k.0, blind_each cs k.1)

pub turn_quiet : (until : ℕ) (r : Rig) (cs : List Cmd) → EachBlind cs → ReadsNoSwitch r → ReadsNoSwitch (passes (takes_all r cs).rig until).rig
turn_quiet until r cs k all =
    passes_each Quiet_one until (lasts_quiet until) (takes_all r cs).rig (takes_each Quiet_one (λ now c. IsBlind c) follows_quiet r cs (blind_each cs k) all)

-- a board whose one trigger can trigger
pub armed_quiet : (oid base every : ℕ) (limit : Option ℕ) (r : Rig) → HoldsOf oid (λ pins s. IsArmed base every limit pins s) r → ReadsNoSwitch r
armed_quiet oid base every limit r h i s at off =
    let here : slot_at r oid ≡ Some s = subst (λ (n : ℕ). slot_at r n ≡ Some s) (h.sole i s at) at in
    let same = one_slot (slot_at r oid) h.slot s h.is here in
    absurd (let bad : true ≡ false = sym h.so.can ∙ ap (λ (x : Slot). x.trigger.can) same ∙ off in cc)
