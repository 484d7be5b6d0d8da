-- A board in the turns of a run before the last one.
use Rattle.std.proofs.Common.{◌≡◌, ℕ, suc, ◌+◌, ◌≤◌, List, [], ◌∷◌, ◌++◌, All, drop, length, take, ap, sym, ◌∙◌, arith, append_assoc, append-nil, length-append, rules}
use Rattle.std.specs.Prelude.{◌-◌}
use Rattle.std.proofs.lemmas.List.{drop-append-le, length-drop, take-append-le, take_all}
use Rattle.laws_board.proofs.Names.{All-head, All-tail, Machine, Clocks, State, ReportLine, AreStarted, Started, ReactorTurn, gather}
use Rattle.std.proofs.Math.Seq.{drop-append_seam}
use Rattle.motion_work.proofs.Turning.{planned_late}
use Rattle.laws_board.specs.sections.Boards.{AreEnded, NextStart, Times}
use Rattle.laws_board.specs.plans.Boards.{TookStates, lines_between, times_of}

pub states_long : (b : ℕ) (rs : List ReactorTurn) (states : List State) → TookStates b rs states → length states ≡ length rs
states_long b [] states t = ap length t
states_long b (r ∷ rs) [] t = absurd t
states_long b (r ∷ rs) (s ∷ states) t = ap suc (states_long b rs states t.1)

-- the lines of turns before the last one, and its own
lines_then : (rs : List ReactorTurn) (end : ReactorTurn) → gather (λ t. t.lines) (rs ++ end ∷ []) ≡ gather (λ t. t.lines) rs ++ end.lines
lines_then [] end = append-nil end.lines
lines_then (x ∷ rs) end = ap (λ (z : List ReportLine). x.lines ++ z) (lines_then rs end) ∙ sym (append_assoc x.lines (gather (λ (t : ReactorTurn). t.lines) rs) end.lines)

pub lines_before : (from to : ℕ) (rs : List ReactorTurn) (end : ReactorTurn) → from ≤ to → to ≤ length rs → lines_between from to (rs ++ end ∷ []) ≡ lines_between from to rs
lines_before from to rs end order within = search (rules, gather, length-drop, drop-append-le, take-append-le)

pub lines_up_to : (from to : ℕ) (rs : List ReactorTurn) (end : ReactorTurn) → from ≤ length rs → to ≡ length rs + 1 → lines_between from to (rs ++ end ∷ []) ≡ lines_between from (length rs) rs ++ end.lines
lines_up_to from to rs end order last = search (rules, gather, length-drop, length-append, drop-append-le, take_all, lines_then)

pub lines_last : (to : ℕ) (rs : List ReactorTurn) (end : ReactorTurn) → to ≡ length rs + 1 → lines_between (length rs) to (rs ++ end ∷ []) ≡ end.lines
lines_last to rs end last = search (rules, gather, drop-append_seam, append-nil)

-- sections that ended before
pub ended_all : (n : ℕ) (ss : List Started) → All (λ s. s.end + 5 ≤ n) ss → AreEnded n (times_of ss)
ended_all n [] a = tt
ended_all n (s ∷ ss) a = (All-head (λ (x : Started). x.end + 5 ≤ n) s ss a, ended_all n ss (All-tail (λ (x : Started). x.end + 5 ≤ n) s ss a))

pub next_sooner : (n k : ℕ) (ts : List Times) → n ≤ k → NextStart k ts → NextStart n ts
next_sooner n k [] e h = tt
next_sooner n k (t ∷ ts) e h = omega (arith, e, h)

pub over_at : (n : ℕ) (past : List Started) (s : Started) (later : List Started) → All (λ x. x.end + 5 ≤ n) (past ++ s ∷ later) → s.end + 5 ≤ n
over_at n [] s later a = All-head (λ (x : Started). x.end + 5 ≤ n) s later a
over_at n (x ∷ past) s later a = over_at n past s later (All-tail (λ (y : Started). y.end + 5 ≤ n) x (past ++ s ∷ later) a)

pub ends_late : (m : Machine) (clocks : List Clocks) (ready : ℕ) (past : List Started) (s : Started) (later : List Started) → AreStarted m clocks ready (past ++ s ∷ later) → s.start ≤ s.end
ends_late m clocks ready [] s later h = planned_late s.section.kind m clocks s h.0.planned
ends_late m clocks ready (x ∷ past) s later h = ends_late m clocks (x.end + 260) past s later h.1
