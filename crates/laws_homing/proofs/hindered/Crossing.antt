-- The turn in which a board takes a command, and what holds from there on over turns in which it takes commands of a kind.
use Rattle.std.proofs.Common.{◌≡◌, ◌⊎◌, inl, inr, ℕ, ◌+◌, ◌<◌, ◌≤◌, List, [], ◌∷◌, ◌++◌, length, ap, sym, ◌∙◌, subst, arith, append_assoc, length-append}
use Rattle.laws_board.proofs.Names.{leb_tells, BoardClock, board_tick, Cmd, Meant, commands_of, Rig, passes, takes_all, LinkState, cons_same}
use Rattle.laws_board.specs.turns.Turns.{AreBoardTurns, BoardTurn, stands_after}
use Rattle.laws_board.proofs.sections.Lists.{cuts}
use Rattle.laws_homing.specs.home_runs.Sections.{queued_in_turns}
use Rattle.laws_homing.specs.clear_groups.Resting.{EachTame, IsTame}
use Rattle.laws_homing.proofs.fired_runs.Rested.{queue_later}
use Rattle.laws_homing.proofs.missed_runs.Boarded.{turned}
use Rattle.laws_homing.proofs.missed_runs.Meek.{AllSo, AreSo, so_both, so_parts, so_queue}

-- commands that start no trigger
pub tame_so : (ms : List Meant) → EachTame (commands_of ms) → AllSo IsTame ms
tame_so [] k = tt
tame_so (x ∷ ms) k = (k.0, tame_so ms k.1)

pub so_tame : (ms : List Meant) → AllSo IsTame ms → EachTame (commands_of ms)
so_tame [] k = tt
so_tame (x ∷ ms) k = (k.0, so_tame ms k.1)

-- from a command on those that the board takes are of a kind, and its turns are such ones
module _ (clock : BoardClock) (first : LinkState) (C : Cmd → Type 0) (Past : List BoardTurn → Type 0) (back : (t : BoardTurn) (z : List BoardTurn) → Past (t ∷ z) → Past z) (P : ℕ → Rig → Type 0) (front : List Meant) (begin : Meant) (least most : ℕ)
    (enters : (t : BoardTurn) (z : List BoardTurn) → AreBoardTurns clock first (t ∷ z) → Past (t ∷ z) → least ≤ length z → length z < most → (fr mo : List Meant) → (stands_after first z).core.taken ++ fr ≡ front → AllSo C mo
    → t.after.core.board ≡ (passes (takes_all (stands_after first z).core.board (commands_of (fr ++ begin ∷ mo))).rig (board_tick clock (length z + 1))).rig → P (length (t ∷ z)) t.after.core.board)
    (keeps : (t : BoardTurn) (z : List BoardTurn) → AreBoardTurns clock first (t ∷ z) → (took : List Meant) → AllSo C took
    → t.after.core.board ≡ (passes (takes_all (stands_after first z).core.board (commands_of took)).rig (board_tick clock (length z + 1))).rig → P (length z) (stands_after first z).core.board → P (length (t ∷ z)) t.after.core.board)
    (lefts : (z : List BoardTurn) → AreBoardTurns clock first z → (left : List Meant) × ((stands_after first z).core.taken ++ left ≡ queued_in_turns z)) where
  abbrev Taken : List BoardTurn → List Meant
  Taken z = (stands_after first z).core.taken

  abbrev Are : List BoardTurn → Type 0
  Are z = AreBoardTurns clock first z

  -- it has taken the command, and this holds
  abbrev pub Since : List BoardTurn → Type 0
  Since z = (length front < length (Taken z)) × P (length z) (stands_after first z).core.board

  abbrev pub State : List BoardTurn → Type 0
  State z = (length (Taken z) ≤ length front) ⊎ Since z

  step_on : (t : BoardTurn) (z : List BoardTurn) → Are (t ∷ z) → (left more : List Meant) → Taken (t ∷ z) ++ left ≡ front ++ begin ∷ more → AllSo C more → Since z → Since (t ∷ z)
  step_on t z are left more e so s =
      let u = turned clock first t z are in
      let whole : Taken z ++ (u.took ++ left) ≡ front ++ begin ∷ more = sym (append_assoc (Taken z) u.took left) ∙ ap (λ (x : List Meant). x ++ left) (sym u.taken) ∙ e in
      let size = ap length u.taken ∙ length-append (Taken z) u.took in
      let low = s.0 in
      elim (cuts (Taken z) (u.took ++ left) front (begin ∷ more) whole) [
        | inl p ↦ absurd (let n = ap length p.1 ∙ length-append (Taken z) p.0 in omega (arith, n, low))
        | inr p ↦
            let heads = cons_same begin p.0 more (p.1 ++ (u.took ++ left)) p.3 in
            let parts = so_parts C p.1 (u.took ++ left) (subst (λ (x : List Meant). AllSo C x) heads.1 so) in
            let own = so_parts C u.took left parts.1 in
            (omega (arith, size, low), keeps t z are u.took own.0 u.board s.1)
      ]

  step : (t : BoardTurn) (z : List BoardTurn) → Are (t ∷ z) → Past (t ∷ z) → least ≤ length z → length z < most → (left more : List Meant) → Taken (t ∷ z) ++ left ≡ front ++ begin ∷ more → AllSo C more → State z → State (t ∷ z)
  step t z are past from low left more e so (inr s) = inr (step_on t z are left more e so s)
  step t z are past from low left more e so (inl few) = elim (leb_tells (length (Taken (t ∷ z))) (length front)) [
    | inl p ↦ inl p.1
    | inr p ↦
        let high = p.1 in
        let u = turned clock first t z are in
        let whole : Taken z ++ (u.took ++ left) ≡ front ++ begin ∷ more = sym (append_assoc (Taken z) u.took left) ∙ ap (λ (x : List Meant). x ++ left) (sym u.taken) ∙ e in
        let size = ap length u.taken ∙ length-append (Taken z) u.took in
        elim (cuts (Taken z) (u.took ++ left) front (begin ∷ more) whole) [
          | inr q ↦ absurd (let n = ap length q.2 ∙ length-append front (q.0 ∷ q.1) in omega (arith, n, few))
          | inl q ↦ elim (cuts u.took left q.0 (begin ∷ more) q.2) [
            | inl a ↦ absurd (let n = ap length q.1 ∙ length-append (Taken z) q.0 in let k = ap length a.1 ∙ length-append u.took a.0 in omega (arith, n, k, size, high))
            | inr a ↦
                let heads = cons_same begin a.0 more (a.1 ++ left) a.3 in
                let own = so_parts C a.1 left (subst (λ (x : List Meant). AllSo C x) heads.1 so) in
                let took : u.took ≡ q.0 ++ begin ∷ a.1 = a.2 ∙ ap (λ (x : Meant). q.0 ++ x ∷ a.1) (sym heads.0) in
                let Board : List Meant → Type 0 = λ ms. t.after.core.board ≡ (passes (takes_all (stands_after first z).core.board (commands_of ms)).rig (board_tick clock (length z + 1))).rig in
                inr (omega (arith, high), enters t z are past from low q.0 a.1 (sym q.1) own.0 (subst Board took u.board))
          ]
        ]
  ]

  -- over the turns behind some in which the command was queued, with others
  module _ (y : List BoardTurn) (rest : List Meant) (queue : queued_in_turns y ≡ front ++ begin ∷ rest) (rest_so : AllSo C rest) (long : least ≤ length y) where
    coming : (w : List BoardTurn) → Are (w ++ y) → (left : List Meant) × (Taken (w ++ y) ++ left ≡ front ++ begin ∷ (rest ++ (queue_later w y).0))
    coming w are =
        let left = lefts (w ++ y) are in
        let q = queue_later w y in
        (left.0, left.1 ∙ q.1 ∙ ap (λ (x : List Meant). x ++ q.0) queue ∙ append_assoc front (begin ∷ rest) q.0)

    pub along : (w : List BoardTurn) → Are (w ++ y) → Past (w ++ y) → AreSo C w → length (w ++ y) ≤ most → State y → State (w ++ y)
    along [] are past so low s = s
    along (t ∷ w) are past so low s =
        let c = coming (t ∷ w) are in
        let size = length-append w y in
        step t (w ++ y) are past (omega (arith, size, long)) (omega (arith, low)) c.0 (rest ++ (queue_later (t ∷ w) y).0) c.1 (so_both C rest (queue_later (t ∷ w) y).0 rest_so (so_queue C (t ∷ w) y so))
        (along w are.1 (back t (w ++ y) past) so.1 (omega (arith, low)) s)

    pub along_on : (k w : List BoardTurn) → Are ((k ++ w) ++ y) → AreSo C (k ++ w) → Since (w ++ y) → Since ((k ++ w) ++ y)
    along_on [] w are so s = s
    along_on (t ∷ k) w are so s =
        let later = t ∷ (k ++ w) in
        let c = coming later are in
        step_on t ((k ++ w) ++ y) are c.0 (rest ++ (queue_later later y).0) c.1 (so_both C rest (queue_later later y).0 rest_so (so_queue C later y so)) (along_on k w are.1 so.1 s)

  -- it is queued in a turn
  pub entered : (t : BoardTurn) (early : List BoardTurn) (rest : List Meant) → Are (t ∷ early) → Past (t ∷ early) → least ≤ length early → length early < most → queued_in_turns (t ∷ early) ≡ front ++ begin ∷ rest → AllSo C rest
      → length (queued_in_turns early) ≤ length front → State (t ∷ early)
  entered t early rest are past from low queue so few =
      let left = lefts (t ∷ early) are in
      let old = lefts early are.1 in
      let size = sym (ap length old.1) ∙ length-append (Taken early) old.0 in
      step t early are past from low left.0 rest (left.1 ∙ queue) so (inl (omega (arith, size, few)))
