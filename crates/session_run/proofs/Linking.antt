-- A link that made a turn stands for a state still.
use Rattle.std.proofs.Common.{◌≡◌, ℕ}
use Rattle.msg_code.specs.declared.unit.Batch.{Batch}
use Rattle.msg_code.specs.declared.unit.Control.{Control}
use Rattle.msg_code.specs.declared.talk.State.{State}
use Rattle.link_work.specs.Stands.{IsKnown, SeenLink}
use Rattle.session_run.specs.Links.{TurnsLink}

pub known : (x : SeenLink) (k : ℕ) (c : Control) (b : Batch) (s : State) (y : SeenLink) → IsKnown x → TurnsLink x k c b s y → IsKnown y
known x k c b s y h t = let m = t.turned h.0 h.1 in (m.0, m.2)
