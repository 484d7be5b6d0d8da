-- What a halt leaves of the steps that are meant, and what a command makes of them.
use Rattle.std.specs.Prelude.{◌≡◌, ℕ, ◌==◌, Bool, false, List, [], ◌∷◌, ◌++◌, Option, Some, None, if◌then◌else◌}
use Rattle.plan_types.specs.declared.plan.BoardState.{BoardState}
use Rattle.plan_types.specs.declared.plan.BoardState.TheVariants.{Running, Shut}
use Rattle.plan_types.specs.declared.plan.Pulse.{Pulse}
use Rattle.board_step.specs.Steps.{Pending}
use Rattle.msg_code.specs.declared.cmd.Cmd.{Cmd}
use Rattle.msg_code.specs.declared.cmd.Cmd.TheVariants as cmd
use Rattle.board_sim.specs.Board.{Controller, stepper_at}
use Rattle.board_sim.specs.Rig.{Rig, takes}
use Rattle.board_sim.specs.Fair.{Meant, meant_running, only, IsCut, IsFairSofar}

-- the pulses of all other steppers
abbrev pub without : ℕ → List Pulse → List Pulse
without oid [] = []
without oid (p ∷ ps) = if p.stepper == oid then without oid ps else p ∷ without oid ps

-- of one stepper, and of some, what was made; of the others all that is meant
abbrev pub cut_at : ℕ → List Pulse → List Pulse → List Pulse
cut_at oid made meant = only oid made ++ without oid meant

-- of one stepper, and of some, what was made; of the others all that is meant
abbrev pub cut_all : List ℕ → List Pulse → List Pulse → List Pulse
cut_all [] made meant = meant
cut_all (i ∷ is) made meant = cut_all is made (cut_at i made meant)

-- a stepper stands here, and is halted
abbrev pub is_halted : Option Pending → Bool
is_halted None = false
is_halted (Some q) = q.halted

-- where the clock of a halted stepper is set, what it hadn't made is left out
abbrev pub meant_left : Controller → List Pulse → List Pulse → Cmd → List Pulse
meant_left b made meant (cmd.ResetStepClock oid clock) =
    if is_halted (stepper_at b oid) then cut_at oid made meant else meant
meant_left b made meant _ = meant

-- so it is while the board runs; a board that shut down takes nothing
abbrev pub left_running : BoardState → Controller → List Pulse → List Pulse → Cmd → List Pulse
left_running Running b made meant c = meant_left b made meant c
left_running (Shut reason tick first) b made meant c = meant

-- the steps that are meant behind commands: those of the triples that are taken come to them; and of a
-- stepper that was halted, the rest of those before its next reset is left out
abbrev pub meant_next : Controller → List Pulse → List Pulse → Meant → List Pulse
meant_next b made meant m = left_running b.state b made meant m.command ++ meant_running b.state b m.command m.ticks

-- the steps that are meant behind a command, and behind some: those of the triples that are taken come to them; of a
-- stepper that was halted, the rest of those before its next reset is left out
abbrev pub meant_behind : Rig → List Pulse → List Pulse → List Meant → List Pulse
meant_behind r made meant [] = meant
meant_behind r made meant (m ∷ ms) = meant_behind (takes r m.command).rig made (meant_next r.controller made meant m) ms

-- of the steps that are meant some are kept, of each stepper a prefix, and of one that isn't halted all; and
-- of those that are kept, each is made or pends
pub record KeptPart (b : Controller) (made meant : List Pulse) : Type 0 where
  pub kept : List Pulse
  pub is : IsFairSofar b made kept
  pub cut : IsCut kept meant
  pub free : b.state ≡ Running → (oid : ℕ) → is_halted (stepper_at b oid) ≡ false → only oid kept ≡ only oid meant
