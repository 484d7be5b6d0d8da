-- What a board tells of triggers that can trigger is of ticks that it comes to.
use Rattle.std.specs.Prelude.{◌≡◌, ◌<◌, ◌≤◌, ◌%◌, ◌^◌, ℕ, List, [], ◌∷◌, Some, None}
use Rattle.board_trig.specs.Kept.{MovesOn}
use Rattle.msg_code.specs.declared.cmd.Cmd.{Cmd}
use Rattle.msg_code.specs.declared.cmd.Cmd.TheVariants as cmd
use Rattle.board_sim.specs.Rig.{Rig, Slot, slot_at}
use Rattle.trigger_group.specs.declared.seen.Seen.{Seen}
use Rattle.trigger_group.specs.Group.{heard_of}

-- an answer that tells of a trigger that it can trigger tells of a tick from one on and before another
abbrev pub TellsBetween : ℕ → ℕ → Cmd → Type 0
TellsBetween from until (cmd.TrsyncState oid can reason clock) =
    (can ≡ 0 → ⊥) → (at : ℕ) × (from ≤ at) × (at < until) × (clock ≡ at % 2 ^ 32)
TellsBetween from until answer = Unit {0}

-- so some answers
abbrev pub AreEarly : ℕ → ℕ → List Cmd → Type 0
AreEarly from until [] = Unit {0}
AreEarly from until (c ∷ cs) = TellsBetween from until c × AreEarly from until cs

-- of a trigger all is told, its readings move on, and its next report is at a tick or later
pub record IsReportDue (from : ℕ) (s : Slot) : Type 0 where
  pub told : s.trigger.untold ≡ None
  pub moves : MovesOn s.trigger.sampling
  pub due : (x : ℕ) → s.trigger.report ≡ Some x → from ≤ x

-- so all triggers of a board
abbrev pub AllDue : ℕ → Rig → Type 0
AllDue from r = (oid : ℕ) (s : Slot) → slot_at r oid ≡ Some s → IsReportDue from s

-- the members of a board were heard of as able to trigger in no turn behind this one
abbrev pub HeardUntil : ℕ → ℕ → ℕ → List Seen → Type 0
HeardUntil start b most [] = Unit {0}
HeardUntil start b most (x ∷ xs) = (x.member.board ≡ b → heard_of start x.heard ≤ most) × HeardUntil start b most xs
