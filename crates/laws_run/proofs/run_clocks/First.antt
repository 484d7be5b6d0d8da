-- The first clock line of a board is taken at once where nothing disturbed its link while connecting.
use Rattle.std.proofs.Common.{◌≡◌, ℕ, suc, ◌<◌, true, cond, pos, List, [], ◌∷◌, ◌++◌, length, Some, refl, ap, sym, ◌∙◌, subst, arith, inl, inr, length-append}
use Rattle.std.specs.List.{All}
use Rattle.laws_board.proofs.Names.{leb_tells, All-head, Machine, Line, clock_of, Clocks, IsValidMachine, board_at, clocks_at, Cause, Scene, Down, Up, pins_of, Run, Came, Told, MotionTurn, ReactorTurn}
use Rattle.plan_types.specs.declared.cause.Cause.TheVariants as cause
use Rattle.io_core.specs.declared.traits.Files.{Ghosts as Files}
use Rattle.io_core.specs.declared.traits.Sink.{Ghosts as Sink}
use Rattle.msg_code.specs.declared.talk.WordNews.{WordNews}
use Rattle.wire_scene.specs.Wire.{entries_of}
use Rattle.laws_board.specs.turns.Turns.{BoardTurn, stands_after}
use Rattle.laws_board.specs.clocks.Near.{IsExact, IsUndisturbed}
use Rattle.laws_board.specs.clocks.Runs.{IsInRun}
use Rattle.laws_board.specs.clocks.Samples.{IsSampledAtOnce, lines_told}
use Rattle.laws_board.proofs.clocks.Exact.{lines_exact, none_disturbs}
use Rattle.laws_board.proofs.clocks.Lines.{as_long}
use Rattle.laws_board.specs.causes.Causes.{before_turn}
use Rattle.session_lanes.specs.declared.near.Told as near
use Rattle.session_run.specs.declared.tell.Kept.{Kept}
use Rattle.session_run.specs.Boards.{came_from, came_in}
use Rattle.session_run.specs.Runs.{RunsOver}
use Rattle.laws_run.specs.lanes.Boards.{IsInWhole, turns_behind}
use Rattle.laws_board.specs.plans.Planned.{Plans}
use Rattle.laws_run.specs.run_headline.Made.{IsMade}
use Rattle.laws_run.specs.run_headline.Timely.{link_of}
use Rattle.laws_run.proofs.run_headline.Boarded.{Ready, came_long, first_same, ready, run_of, valid_at}
use Rattle.laws_run.proofs.run_headline.Fronts.{front_of, one_less}
use Rattle.laws_run.proofs.run_headline.Runs.{facts}
use Rattle.laws_run.proofs.run_headline.Showing.{Facts, none_told}
use Rattle.laws_run.proofs.run_headline.Words.{line_is}
use Rattle.laws_run.proofs.run_headline.Near.{sample_follows}
use Rattle.laws_run.specs.run_clocks.First.{AreFirstTaken, IsTakenAtOnce}
use Rattle.laws_homing.proofs.clear_groups.Noted.{drift_small}

-- those of some turns that come before one of them
before_cut : (later : List BoardTurn) (t : BoardTurn) (turns : List BoardTurn) → before_turn (length turns) (later ++ t ∷ turns) ≡ turns
before_cut (u ∷ later) t turns = elim (leb_tells (length turns) (length (later ++ t ∷ turns))) [
  | inl q ↦ ap (λ b. cond b (before_turn (length turns) (later ++ t ∷ turns)) (u ∷ (later ++ t ∷ turns))) q.0 ∙ before_cut later t turns
  | inr q ↦ absurd (let far = q.1 in let size = length-append later (t ∷ turns) in omega (arith, far, size))
]
before_cut [] t turns = elim (leb_tells (length turns) (length turns)) [
  | inl q ↦ ap (λ b. cond b (before_turn (length turns) turns) (t ∷ turns)) q.0 ∙ all turns
  | inr q ↦ absurd (let far = q.1 in omega (arith, far))
]
  where
    all : (turns : List BoardTurn) → before_turn (length turns) turns ≡ turns
    all [] = refl
    all (x ∷ turns) = elim (leb_tells (suc (length turns)) (length turns)) [
      | inl q ↦ absurd (let far = q.1 in omega (arith, far))
      | inr q ↦ ap (λ b. cond b (before_turn (suc (length turns)) turns) (x ∷ turns)) q.0
    ]

module _ (m : Machine) (v : IsValidMachine m) (s : Scene) (ts : List MotionTurn) (p : Plans m (length m.boards) ts) (t : Told) (first : ReactorTurn) (rest : List ReactorTurn) (end : ReactorTurn) (told : p.seen.told ≡ Some t)
    (r : Ready m v s ts p t first rest end told) where
  -- a board in the turn in which connecting ended
  record At (b : ℕ) (all : List BoardTurn) : Type 0 where
    turn : BoardTurn
    turns : List BoardTurn
    run : IsInRun m s.switches (pins_of (board_at m b) b s.switches) s.entries b (came_in r.turn ∷ came_from [] r.past) (turn ∷ turns)
    before : IsInRun m s.switches (pins_of (board_at m b) b s.switches) s.entries b (came_from [] r.past) turns
    is : before_turn (length r.past) all ≡ turns

  at : (b : ℕ) (w : IsInWhole m s.switches b (clock_of (board_at m b)) (link_of m s b) ts first (rest ++ end ∷ [])) → b < length m.boards → At b (turns_behind [] w.made)
  at b w h =
      let pins = pins_of (board_at m b) b s.switches in
      let turns = turns_behind [] w.made in
      let past = came_from [] r.past in
      let Run : List Came → Type 0 = λ c. IsInRun m s.switches pins s.entries b c turns in
      let f = front_of m v s.switches pins s.entries b (came_in r.turn ∷ past) r.later turns (subst Run r.came_is (run_of m v s ts p t first rest end told b w h)) in
      let l = one_less m v s.switches pins s.entries b (came_in r.turn) past f.front f.run in
      let long = as_long m s.switches b past l.1 l.4.both in
      let size = came_long [] r.past in
      let count : length r.past ≡ length l.1 = omega (arith, long, size) in
      let cut : turns ≡ f.later ++ l.0 ∷ l.1 = f.cut ∙ ap (λ y. f.later ++ y) l.2 in
      record { turn = l.0; turns = l.1; run = l.3; before = l.4; is = ap (λ n. before_turn n turns) count ∙ ap (before_turn (length l.1)) cut ∙ before_cut f.later l.0 l.1 }

  bare : (b : ℕ) (w : IsInWhole m s.switches b (clock_of (board_at m b)) (link_of m s b) ts first (rest ++ end ∷ [])) → b < length m.boards → entries_of b Down true s.entries ≡ [] → entries_of b Up true s.entries ≡ []
      → IsUndisturbed (stands_after (link_of m s b) (before_turn (length r.past) (turns_behind [] w.made)))
  bare b w h d u =
      let x = at b w h in
      let Still : List BoardTurn → Type 0 = λ z. IsUndisturbed (stands_after (link_of m s b) z) in
      subst Still (sym x.is) (none_disturbs m s.switches (pins_of (board_at m b) b s.switches) s.entries b (came_from [] r.past) x.turns x.before r.is.phase d u)

  taken : (b : ℕ) (w : IsInWhole m s.switches b (clock_of (board_at m b)) (link_of m s b) ts first (rest ++ end ∷ [])) → b < length m.boards → IsUndisturbed (stands_after (link_of m s b) (before_turn (length r.past) (turns_behind [] w.made)))
      → IsTakenAtOnce (clock_of (board_at m b)) (clocks_at t.clocks b).first
  taken b w h still =
      let x = at b w h in
      let clock = clock_of (board_at m b) in
      let past = came_from [] r.past in
      let Good : Line → Type 0 = λ z. IsSampledAtOnce clock x.turns z × ((board_at m b).drift ≡ pos 0 → IsExact clock z) in
      let Still : List BoardTurn → Type 0 = λ z. IsUndisturbed (stands_after (link_of m s b) z) in
      let valid = valid_at m.boards b h v.boards in
      let all = lines_exact m s.switches (pins_of (board_at m b) b s.switches) s.entries b (came_in r.turn) past x.turn x.turns x.run r.is.phase (subst Still x.is still) valid.freq.whole in
      let l = line_is (length past) b m.boards r.is.lines r.is.fit h in
      let Lines : List Line → Type 0 = λ ls. All Good ls in
      let News : List WordNews → Type 0 = λ ns. All Good (lines_told b ns) in
      let some = subst Lines (ap (λ ls. ls ++ []) l.1) (subst News r.is.news all) in
      let first_is : l.0 ≡ (clocks_at r.heard.clocks b).first = ap (λ (c : Clocks). c.first) (sym l.2 ∙ ap (λ cs. clocks_at cs b) (sym r.is.clocks_are)) in
      let one = (All-head Good l.0 [] some).0 in
      let At : Line → Type 0 = λ z. IsTakenAtOnce clock z in
      let here = sample_follows clock x.turns one.0 valid.freq.whole (drift_small (board_at m b).drift valid.drift_low valid.drift_high) one.1 in
      subst At (sym one.2 ∙ first_is ∙ sym (first_same m v s ts p t first rest end told b r h)) (here, one.3)

first_of : (m : Machine) (v : IsValidMachine m) (s : Scene) (ts : List MotionTurn) (p : Plans m (length m.boards) ts) (t : Told) (end : ReactorTurn) (c : Cause) (rs : List ReactorTurn) → p.seen.told ≡ Some t → Facts m s ts rs end c
    → AreFirstTaken m s ts rs end t.clocks
first_of m v s ts p t end c [] told f = absurd (none_told m v s ts p end c t told f)
first_of m v s ts p t end c (first ∷ rest) told f =
    let r = ready m v s ts p t first rest end told f.ahead f.words_left f.turns f.words in
    let whole = λ (b : ℕ) (h : b < length m.boards). f.boards b first rest h refl in
    record {
      connected = length r.past;
      ends = record { past = r.past; turn = r.turn; later = r.later; are = r.are; number = refl; before = r.is.phase; behind = r.is.then };
      unused = λ b h d u w. bare m v s ts p t first rest end told r b w h d u;
      taken = λ b h still. taken m v s ts p t first rest end told r b (whole b h) h (still (whole b h));
    }

pub run_first : {F S : Type 0} (f : Files F) (o : Sink S) (m : Machine) (s : Scene) (name : List ℕ) (files files' : F) (out out' : S) (kept kept' : Kept) (t : near.Told Run) (r : RunsOver f o m s name files out kept t files' out' kept') → IsValidMachine m
    → (t.cause ≡ cause.Memory → ⊥) → (made : IsMade m s r.runs.0 r.runs.1) → (heard : Told) → made.plans.seen.told ≡ Some heard → AreFirstTaken m s r.runs.0 r.runs.1 r.runs.2 heard.clocks
run_first f o m s name files files' out out' kept kept' t r v other made heard told =
    first_of m v s r.runs.0 made.plans heard r.runs.2 t.cause r.runs.1 told (facts f o m s name files files' out out' kept kept' t r other)
