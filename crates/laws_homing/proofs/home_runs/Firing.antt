-- What a link's replies under way tell of a board's trigger: behind any event it stands as they tell it.
use Rattle.std.proofs.Common.{◌≡◌, ℕ, ◌<◌, ◌≤◌, ◌^◌, List, [], ◌∷◌, ◌++◌, length, map, drop, ap, sym, ◌∙◌, arith, append_assoc}
use Rattle.laws_board.proofs.Names.{append_cancel_left, take-append-drop, own_formats, Cmd, IsText, Reply, Meant, commands_of, Rig, Event, IsOrdered, Core, does, after_event, takes_in, wire_text}
use Rattle.msg_dict.specs.declared.row.Row.TheVariants as row
use Rattle.msg_code.specs.declared.cmd.Cmd.TheVariants as cmd
use Rattle.msg_code.specs.Table.{row_of}
use Rattle.link_core.specs.Core.{numbered}
use Rattle.board_world.specs.declared.event.Event.TheVariants as event
use Rattle.board_world.specs.World.{orders_of}
use Rattle.laws_board.proofs.clocks.Answers.{Each}
use Rattle.laws_board.proofs.clocks.Replies.{AllUp, up_by, up_more}
use Rattle.laws_board.proofs.clocks.Uptimes.{none_said}
use Rattle.laws_homing.specs.home_runs.Guards.{AreCalm, HasNoTimeout, IsSole, StandsFired}
use Rattle.laws_homing.proofs.home_runs.Guarding.{Next, next_same, passes_next, stands_next}
use Rattle.laws_homing.proofs.home_runs.Saying.{EachCalm, Says, all_next, all_say, time_says}
use Rattle.laws_homing.proofs.home_runs.Spelled.{same_kind, state_is, state_told}

-- the trigger stands as an answer's bytes tell of it, where its reason fits the field in which it is told
pub record StandsRead (j reason clock : ℕ) (q : Rig) : Type 0 where
  pub own_reason : ℕ
  pub own_clock : ℕ
  pub stands : StandsFired j own_reason own_clock q
  pub read : own_reason < 2 ^ 8 → (reason ≡ own_reason) × (clock ≡ own_clock)

-- a reply that tells of a trigger that it can't trigger tells of this one as it stands
abbrev pub Fires : ℕ → Rig → Reply → Type 0
Fires j q r = (oid reason clock : ℕ) → IsText own_formats (cmd.TrsyncState oid 0 reason clock) r.answer → StandsRead j reason clock q

abbrev pub EachFires : ℕ → Rig → List Reply → Type 0
EachFires j q rs = AllUp (Fires j q) rs

pub fires_next : (i j : ℕ) (r q : Rig) (rs : List Reply) → Next i j r q → EachFires j r rs → EachFires j q rs
fires_next i j r q rs x k =
    up_more (Fires j r) (Fires j q) rs
    (λ reply fires oid reason clock t. (
    let s = fires oid reason clock t in
    record { own_reason = s.own_reason; own_clock = s.own_clock; stands = stands_next i j s.own_reason s.own_clock r q x s.stands; read = s.read })) k

-- an answer of the board
by_row : (P : Type 0) (j oid reason clock : ℕ) (q : Rig) (c : Cmd) → P → Says P j q c → row.TrsyncState ≡ row_of c → IsText own_formats (cmd.TrsyncState oid 0 reason clock) (wire_text c) → StandsRead j reason clock q
by_row P j oid reason clock q (cmd.TrsyncState a b r k) given s e t =
    let stands = s.4 (state_is a b r k oid reason clock s.0 s.1 t).1 given in
    let small : k < 2 ^ 32 = let is = stands.clock_is in omega (arith, is) in
    record { own_reason = r; own_clock = k; stands = stands; read = λ fits. (let same = state_told a b r k oid 0 reason clock s.0 s.1 fits small t in (same.2, same.3)) }
by_row P j oid reason clock q c given s e t = cc

fires_answers : (P : Type 0) (j : ℕ) (q : Rig) (n : ℕ) (cs : List Cmd) → P → Each (Says P j q) cs → EachFires j q (numbered n (map wire_text cs))
fires_answers P j q n [] given k = tt
fires_answers P j q n (c ∷ cs) given k = (λ oid reason clock t. by_row P j oid reason clock q c given k.0 (same_kind c (cmd.TrsyncState oid 0 reason clock) t) t, fires_answers P j q n cs given k.1)

-- the replies behind an event
pub fires_by : (P : Type 0) (j : ℕ) (q : Rig) (h : Core) (e : Event) → P → Each (Says P j q) (does h e).answers → EachFires j q h.link.up → EachFires j q (after_event h e).link.up
fires_by P j q h e given t k =
    up_by (Fires j q) h e (λ n oid reason clock none. absurd (none_said (cmd.TrsyncState oid 0 reason clock) none)) (λ n is. fires_answers P j q n (does h e).answers given t) k

-- what the board does
pub next_by : (i j : ℕ) (h : Core) (e : Event) → EachCalm i j (commands_of (takes_in h e)) → Next i j h.board (does h e).board
next_by i j h (event.Pass t) b = passes_next i j h.board t
next_by i j h event.Arrive b = all_next i j h.board (commands_of (takes_in h event.Arrive)) b
next_by i j h event.Repeat b = all_next i j h.board (commands_of (takes_in h event.Repeat)) b
next_by i j h c b = next_same i j h.board

pub says_by : (i j : ℕ) (h : Core) (e : Event) → EachCalm i j (commands_of (takes_in h e)) → length h.board.triggers ≤ 256 → IsSole j h.board → Each (Says (HasNoTimeout j h.board) j (does h e).board) (does h e).answers
says_by i j h (event.Pass t) b few sole = time_says (HasNoTimeout j h.board) i j h.board t few sole (λ quiet. quiet)
says_by i j h event.Arrive b few sole = all_say (HasNoTimeout j h.board) i j h.board (commands_of (takes_in h event.Arrive)) few sole (λ quiet. quiet) b
says_by i j h event.Repeat b few sole = all_say (HasNoTimeout j h.board) i j h.board (commands_of (takes_in h event.Repeat)) few sole (λ quiet. quiet) b
says_by i j h c b few sole = tt

-- commands that are calm
pub calm_both : (i j : ℕ) (xs ys : List Meant) → AreCalm i j xs → AreCalm i j ys → AreCalm i j (xs ++ ys)
calm_both i j [] ys a b = b
calm_both i j (x ∷ xs) ys a b = (a.0, calm_both i j xs ys a.1 b)

pub calm_parts : (i j : ℕ) (xs ys : List Meant) → AreCalm i j (xs ++ ys) → AreCalm i j xs × AreCalm i j ys
calm_parts i j [] ys a = (tt, a)
calm_parts i j (x ∷ xs) ys a = let p = calm_parts i j xs ys a.1 in ((a.0, p.0), p.1)

pub calm_each : (i j : ℕ) (xs : List Meant) → AreCalm i j xs → EachCalm i j (commands_of xs)
calm_each i j [] a = tt
calm_each i j (x ∷ xs) a = (a.0, calm_each i j xs a.1)

-- the commands that are left behind an event
pub left_by : (h : Core) (e : Event) (left : List Meant) → IsOrdered (after_event h e) → h.taken ++ left ≡ h.queued → (more : List Meant) × (takes_in h e ++ more ≡ left ++ orders_of e) × ((h.taken ++ takes_in h e) ++ more ≡ h.queued ++ orders_of e)
left_by h e left o rest =
    let g = after_event h e in
    let n = length g.link.taken in
    let all : (h.taken ++ takes_in h e) ++ drop n g.queued ≡ h.queued ++ orders_of e = ap (λ (x : List Meant). x ++ drop n g.queued) o.first ∙ take-append-drop n g.queued in (
      drop n g.queued,
      append_cancel_left h.taken (takes_in h e ++ drop n g.queued) (left ++ orders_of e)
          (sym (append_assoc h.taken (takes_in h e) (drop n g.queued)) ∙ all ∙ ap (λ (x : List Meant). x ++ orders_of e) (sym rest) ∙ append_assoc h.taken left (orders_of e)),
      all,
    )
