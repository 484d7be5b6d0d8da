-- When a world stands for a state of a board and its link.
use Rattle.std.specs.Prelude.{◌≡◌, ◌↔◌, ℕ, ◌+◌, ◌++◌, ◌%◌, ◌^◌, ◌<◌, ◌≤◌, List, [], ◌∷◌, length, take, map, slice_index_or, Option, Some, None}
use Rattle.arrayvec.specs.ArrayVec.{ArrayVec}
use Rattle.block_frame.specs.Block.{block_text}
use Rattle.block_frame.specs.declared.Found.{Found}
use Rattle.block_frame.specs.declared.Found.TheVariants.{Block, Skip, NeedMore, Bad}
use Rattle.plan_types.specs.Clock.{tick_limit}
use Rattle.plan_types.specs.declared.plan.BoardState.TheVariants.{Running}
use Rattle.plan_types.specs.declared.plan.Pulse.{Pulse}
use Rattle.link_core.specs.Core.{Command, Reply, InStep, queued}
use Rattle.link_core.specs.Host.{Host, content_of}
use Rattle.link_core.specs.Stands.{host_of}
use Rattle.msg_dict.specs.Own.{own_formats}
use Rattle.msg_code.specs.Text.{IsText}
use Rattle.msg_code.specs.declared.cmd.Cmd.{Cmd}
use Rattle.board_sim.specs.Turn.{Station}
use Rattle.board_sim.specs.Asleep.{AllSleep}
use Rattle.board_sim.specs.Rig.{Rig}
use Rattle.board_sim.specs.RigRuns.{AllSound}
use Rattle.board_sim.specs.Fair.{Meant}
use Rattle.board_world.specs.declared.event.Event.{Event}
use Rattle.board_world.specs.declared.event.Event.TheVariants.{Send, Arrive, Garble, Repeat, Pass}
use Rattle.wire_scene.specs.declared.scene.Way.{Way}
use Rattle.wire_scene.specs.declared.scene.Way.TheVariants.{Down, Up}
use Rattle.board_world.specs.World.{Core, wire_text, on_wire}

-- what contracts see of a world: the host's end, the board with the number that it expects on the wire, the blocks
-- under way both ways, the pulses of the last time that the board was run on
pub record SeenWorld : Type 0 where
  pub host : Host
  -- the board, with the number that it expects, of those on the wire
  pub station : Station
  -- the blocks under way, the oldest first
  pub down : List (List ℕ)
  pub up : List (List ℕ)
  -- the pulses of the last time that the board was run on
  pub pulses : List Pulse

-- the bytes of some blocks
abbrev pub texts : List (ArrayVec ℕ) → List (List ℕ)
texts [] = []
texts (b ∷ bs) = b.items ∷ texts bs

-- block n on the wire
abbrev pub text_at : List (List Command) → ℕ → List ℕ
text_at blocks n = block_text (n % 16) (content_of (slice_index_or blocks n []))

-- a reply on the wire
abbrev pub reply_text : Reply → List ℕ
reply_text r = block_text (r.number % 16) r.answer

-- the link carries the commands that were queued, and the board took the first of them; and its triggers are sound
pub record IsOrdered (h : Core) : Type 0 where
  pub sound : AllSound h.board
  pub carried : queued h.link ≡ map on_wire h.queued
  pub first : h.taken ≡ take (length h.link.taken) h.queued
  pub in_step : InStep h.link

-- commands are read from their bytes
abbrev pub AreRead : List Meant → Type 0
AreRead [] = Unit {0}
AreRead (m ∷ ms) = IsText own_formats m.command (wire_text m.command) × AreRead ms

-- a world stands for a state
pub record WorldStandsFor (s : SeenWorld) (h : Core) : Type 0 where
  pub host : s.host ≡ host_of h.link
  pub station : s.station ≡ record { rig = h.board; expected = h.link.accepted % 16; told = h.spoilt }
  pub down : s.down ≡ map (text_at h.link.blocks) h.link.down
  pub up : s.up ≡ map reply_text h.link.up
  pub pulses : s.pulses ≡ h.last
  pub ordered : IsOrdered h
  pub read : AreRead h.queued

-- the answer in a reply, where it is a command's bytes
abbrev pub IsAnswer : Reply → Option Cmd → Type 0
IsAnswer r o = (c : Cmd) → (o ≡ Some c) ↔ IsText own_formats c r.answer

-- the answer in the first reply, where there is one
abbrev pub IsFirstAnswer : List Reply → Option Cmd → Type 0
IsFirstAnswer [] o = o ≡ None
IsFirstAnswer (r ∷ rs) o = IsAnswer r o

-- the host's end with more commands waiting
abbrev pub with_waiting : Host → List Meant → Host
with_waiting host ms = record host { waiting = host.waiting ++ map on_wire ms }

-- the blocks of some contents, numbered from n on
abbrev pub blocks_from : ℕ → List (List ℕ) → List (List ℕ)
blocks_from n [] = []
blocks_from n (c ∷ cs) = block_text (n % 16) c ∷ blocks_from (n + 1) cs

-- the host's end once all outstanding blocks are put again
abbrev pub all_put_again : Host → Host
all_put_again host = record host { puts = map (λ put. host.turn) host.puts }

-- what is found in a block's bytes is the block of this number and content
abbrev pub IsFound : Found → ℕ → List ℕ → Type 0
IsFound (Block number content) n bytes = (number ≡ n) × (content.items ≡ bytes)
IsFound Skip n bytes = ⊥
IsFound NeedMore n bytes = ⊥
IsFound Bad n bytes = ⊥

-- the number of a block that was found is below 16
abbrev pub IsSmall : Found → Type 0
IsSmall (Block number content) = number < 16
IsSmall Skip = Unit {0}
IsSmall NeedMore = Unit {0}
IsSmall Bad = Unit {0}

-- what a caller sees to: a board's ticks and the number of blocks are in range
abbrev pub CanHappen : SeenWorld → Event → Type 0
CanHappen s (Pass t) = t < tick_limit
CanHappen s Send = s.host.sent < 2 ^ 63
CanHappen s Arrive = s.station.rig.controller.tick < tick_limit
CanHappen s Repeat = s.station.rig.controller.tick < tick_limit
CanHappen s Garble = s.station.rig.controller.tick < tick_limit
CanHappen s _ = Unit {0}

-- a board tells nothing up to a tick, which isn't behind it: it runs, and all its triggers sleep
pub record IsStill (r : Rig) (until : ℕ) : Type 0 where
  pub later : r.controller.tick ≤ until
  pub runs : r.controller.state ≡ Running
  pub asleep : AllSleep until r.triggers

-- the blocks under way, one way
abbrev pub under_way : Way → SeenWorld → List (List ℕ)
under_way Down s = s.down
under_way Up s = s.up

-- the blocks under way in a state, one way
abbrev pub blocks_of : Way → Core → List (List ℕ)
blocks_of Down h = map (text_at h.link.blocks) h.link.down
blocks_of Up h = map reply_text h.link.up
