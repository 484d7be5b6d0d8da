-- Whether a turn's orders for homing leave room for an asking of the clock.
use Rattle.std.specs.Prelude.{◌≤◌, ◌<◌, ◌⊎◌, ◌+◌, ℕ, List, [], ◌∷◌, length}
use Rattle.plan_types.specs.declared.machine.Machine.{Machine}
use Rattle.plan_types.specs.Sections.{clocks_at}
use Rattle.msg_code.specs.declared.talk.NoteNews.{NoteNews}
use Rattle.msg_code.specs.declared.talk.NoteNews.TheVariants as news
use Rattle.wire_scene.specs.declared.scene.Switch.{Switch}
use Rattle.board_asking.specs.Drift.{bytes_of}
use Rattle.board_asking.specs.Machine.{control_bytes}
use Rattle.axis_homing.specs.Homing.{homing_turn}
use Rattle.host_reactor.specs.Notes.{news_of, noted}
use Rattle.host_reactor.specs.Reactor.{homing_commands}
use Rattle.host_reactor.specs.Runs.{Came, known_by}

-- in a turn the orders to a board for homing have fewer bytes than a control may have
abbrev pub HasOrderRoom : Machine → List Switch → ℕ → Came → List Came → Type 0
HasOrderRoom m switches b c before =
    let r = noted m c.note (known_by m switches before) in
    bytes_of (homing_commands m (homing_turn r.clocks (length before) c.states r.homing) (clocks_at r.clocks b) b)
    < control_bytes

-- so in one of any three turns in a row
abbrev pub HaveRoom : Machine → List Switch → ℕ → List Came → Type 0
HaveRoom m switches b (c ∷ (d ∷ (e ∷ before))) =
    (HasOrderRoom m switches b c (d ∷ (e ∷ before)) ⊎ (HasOrderRoom m switches b d (e ∷ before)
    ⊎ HasOrderRoom m switches b e before))
    × HaveRoom m switches b (d ∷ (e ∷ before))
HaveRoom m switches b came = Unit {0}

-- every section that news of a turn begin starts 255 turns behind it or later
abbrev pub StartFar : ℕ → List NoteNews → Type 0
StartFar k [] = Unit {0}
StartFar k (news.Start section kind turn last moving ∷ ns) = (k + 255 ≤ turn) × StartFar k ns
StartFar k (n ∷ ns) = StartFar k ns

-- so does every section that a note of some turns begins
abbrev pub BeginFar : List Came → Type 0
BeginFar [] = Unit {0}
BeginFar (c ∷ before) = StartFar (length before) (news_of c.note) × BeginFar before
