-- What a reader knows of the entries that it has read.
use Rattle.std.specs.Prelude.{◌+◌, ◌≤◌, length}
use Rattle.wire_scene.specs.declared.scene.Entry.{Entry}
use Rattle.wire_scene.specs.declared.scene.Switch.{Switch}
use Rattle.wire_scene.specs.declared.read.Reader.{Reader}
use Rattle.wire_scene.specs.Scenes.{is_on, is_of}
use Rattle.wire_scene.specs.Marks.{Remember}

-- it has the last number on each line and the last tick of each pin; and they are few
pub record IsInStep (r : Reader) : Type 0 where
  pub numbers : Remember is_on (λ (e : Entry). e.number) r.numbers r.scene.entries
  pub ticks : Remember is_of (λ (s : Switch). s.tick) r.ticks r.scene.switches
  pub few : length r.scene.entries + length r.scene.switches ≤ 100_000
