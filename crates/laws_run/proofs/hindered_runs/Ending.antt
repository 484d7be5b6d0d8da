-- A whole run that ends as a board expired had a hindered link, whatever threads it went in.
use Rattle.std.proofs.Common.{◌≡◌, ℕ, zero, suc, ◌+◌, ◌<◌, ◌≤◌, Bool, true, false, cond, List, [], ◌∷◌, ◌++◌, length, map, Option, Some, None, refl, inl, inr, ap, sym, ◌∙◌, subst, arith}
use Rattle.std.specs.Prelude.{◌≢◌, ◌||◌}
use Rattle.laws_board.proofs.Names.{∥∥₁_map, eq-eqb, Cause, Machine, IsValidMachine, ShutNews, State, Scene, Member, Homing, Known, Connecting, Stopping, is_out, noted, Run, reacts, IsOwn, Came, GoesOn, known_by, Told, MotionTurn, ReactorTurn, item}
use Rattle.io_core.specs.declared.traits.Files.{Ghosts as Files}
use Rattle.io_core.specs.declared.traits.Sink.{Ghosts as Sink}
use Rattle.plan_types.specs.declared.cause.Cause.TheVariants as cause
use Rattle.host_reactor.specs.declared.ordered.Phase.TheVariants.{Running}
use Rattle.host_reactor.specs.Running.{any_out, late, late_of, or_cause}
use Rattle.host_reactor.specs.Runs.{HaveStates}
use Rattle.laws_board.proofs.clocks.Lines.{noted_phase}
use Rattle.laws_board.specs.causes.Short.{HaveShortDictionaries}
use Rattle.laws_board.specs.plans.Lines.{TookNotes}
use Rattle.laws_board.specs.plans.Planned.{Plans}
use Rattle.session_lanes.specs.declared.near.Told as near
use Rattle.session_run.specs.declared.tell.Kept.{Kept}
use Rattle.session_run.specs.Boards.{came_from, came_in}
use Rattle.session_run.specs.Runs.{RunsOver}
use Rattle.laws_homing.specs.home_plans.Notes.{CameNotes, WasBegun}
use Rattle.laws_homing.proofs.home_plans.Knowing.{now_was}
use Rattle.laws_homing.specs.home_runs.Told.{IsMember}
use Rattle.laws_run.specs.clear_homes.First.{IsFirstExpired}
use Rattle.laws_run.specs.hindered_runs.Hindered.{HasHinderedLink}
use Rattle.laws_run.specs.home_headline.Near.{AllReadAsTold, AllTakeNear}
use Rattle.laws_run.proofs.home_headline.Held.{near_keeps}
use Rattle.laws_run.specs.run_ends.Ends.{EndsSo, order}
use Rattle.laws_run.specs.run_headline.Made.{IsMade}
use Rattle.laws_run.proofs.clear_homes.Expired.{ended_so}
use Rattle.laws_run.proofs.clear_homes.First.{run_first}
use Rattle.laws_run.proofs.clear_runs.Bare.{have_more}
use Rattle.laws_run.proofs.clear_runs.Through.{first_none}
use Rattle.laws_run.proofs.home_headline.Planned.{all_notes}
use Rattle.laws_run.proofs.hindered_runs.Whole.{hindered_in}
use Rattle.laws_run.proofs.run_headline.Boarded.{came_cut, came_split}
use Rattle.laws_run.proofs.run_headline.Making.{run_made}
use Rattle.laws_run.proofs.run_headline.Runs.{facts, row_full}
use Rattle.laws_run.proofs.run_headline.Showing.{Facts, came_long, ends_own, in_none, long_own, not_told, took_notes}
use Rattle.laws_run.proofs.run_headline.Going.{or_none}

-- a board among some members
member_in : (b : ℕ) (ahead : List Member) (x : Member) (behind : List Member) → x.board ≡ b → IsMember b (ahead ++ x ∷ behind)
member_in b [] x behind e = inl e
member_in b (y ∷ ahead) x behind e = inr (member_in b ahead x behind e)

late_none : (out : Bool) (stopped l : Option Cause) → cond out (Some cause.Memory) (or_cause stopped l) ≡ None → l ≡ None
late_none true stopped l e = absurd (let bad : Some cause.Memory ≡ None = e in cc)
late_none false stopped l e = (or_none stopped l e).1

none_late : (i : ℕ) (states : List State) (b : ℕ) (state : State) (n : ShutNews) → item b states ≡ state ∷ [] → state.shut ≡ Some n → n.reason ≡ 1 → late i states ≡ None → ⊥
none_late i [] b state n at shut one none = absurd (let bad : [] ≡ state ∷ [] = at in cc)
none_late i (x ∷ states) zero state n at shut one none =
    let same : x ≡ state = cc in
    let is : late_of i x.shut ≡ late_of i (Some n) = ap (late_of i) (ap (λ (z : State). z.shut) same ∙ shut) in
    let hit : late_of i (Some n) ≡ Some (cause.Late i n.first n.tick n.spoiled n.spill) = ap (λ (q : Bool). cond q (Some (cause.Late i n.first n.tick n.spoiled n.spill)) None) (eq-eqb n.reason 1 one) in
    let bad : Some (cause.Late i n.first n.tick n.spoiled n.spill) ≡ None = sym (is ∙ hit) ∙ (or_none (late_of i x.shut) (late (i + 1) states) none).0 in
    cc
none_late i (x ∷ states) (suc b) state n at shut one none = none_late (i + 1) states b state n at shut one (or_none (late_of i x.shut) (late (i + 1) states) none).1

module _ (m : Machine) (v : IsValidMachine m) (short : HaveShortDictionaries m) (s : Scene) (ts : List MotionTurn) (p : Plans m (length m.boards) ts) (end : ReactorTurn) (c : Cause) (board turn : ℕ) (is_expired : c ≡ cause.Expired board turn) where
  own : IsOwn c
  own = subst IsOwn (sym is_expired) tt

  high : 2 < order c
  high = let o = ap order is_expired in omega (arith, o)

  module _ (first : ReactorTurn) (rest : List ReactorTurn) (f : Facts m s ts (first ∷ rest) end c) (so : EndsSo m (noted m end.note (known_by m s.switches (came_from [] (first ∷ rest)))) (length (came_from [] (first ∷ rest))) end.states (cause.Expired board turn))
      (near : AllTakeNear m s p.seen.text ts (first ∷ (rest ++ end ∷ []))) (reads : AllReadAsTold m s ts (first ∷ rest) end) (first_is : IsFirstExpired m s.switches board turn (first ∷ rest) end) where
    abbrev All_came : List Came
    All_came = came_from [] (first ∷ rest)

    abbrev Now : Known
    Now = noted m end.note (known_by m s.switches All_came)

    ended : (reacts m s.switches (known_by m s.switches All_came) (length All_came) end.states end.note).ordered.end ≡ Some c
    ended =
        let Ends : Known → Type 0 = λ r. (reacts m s.switches r (length All_came) end.states end.note).ordered.end ≡ Some c in
        subst Ends (f.own own).0 (sym (ends_own m s ts (first ∷ rest) end c f own))

    untold : (known_by m s.switches All_came).stopped ≡ None
    untold = ap (λ (r : Known). r.stopped) (sym (f.own own).0) ∙ (f.own own).1

    some_came : 0 < length All_came
    some_came = let e = came_long [] (first ∷ rest) in omega (arith, e)

    long : length (rest ++ end ∷ []) ≤ length p.made
    long = long_own m v s ts p end c first rest f own

    notes : TookNotes (map (λ (d : MotionTurn). d.note) p.made) (first ∷ (rest ++ end ∷ []))
    notes = took_notes m v s ts p end c first rest f long

    in_time : (b : ℕ) → b < length m.boards → (state : State) (n : ShutNews) → item b end.states ≡ state ∷ [] → state.shut ≡ Some n → n.reason ≡ 1 → ⊥
    in_time b low state n at shut one =
        none_late 0 end.states b state n at shut one
        (late_none (is_out end.note || any_out end.states) Now.stopped (late 0 end.states) (first_none m s.switches (known_by m s.switches All_came) (length All_came) end.states end.note c high untold ended))

    stop : (line : ℕ) → (known_by m s.switches All_came).phase ≡ Stopping line → ⊥
    stop line e = let bad : Stopping line ≡ Running = sym e ∙ sym (noted_phase m end.note (known_by m s.switches All_came)) ∙ so.0 in cc

    have : HaveStates m (came_in end ∷ All_came)
    have =
        let x = f.boards 0 first rest v.boards_some refl in
        let Have : List Came → Type 0 = λ z. HaveStates m z in
        have_more m (came_in end) All_came some_came (row_full (length m.boards) (length All_came) end some_came f.row) (subst Have (came_cut [] first rest end) x.have_states)

    notes_came : CameNotes p.seen.begun (came_in end ∷ All_came)
    notes_came =
        let Notes : List Came → Type 0 = λ z. CameNotes p.seen.begun z in
        subst Notes (came_split [] (first ∷ rest) end []) (all_notes m p.seen.text p.seen.begun p.made first (rest ++ end ∷ []) p.put notes)

    pub hindered_own : HasHinderedLink m s board turn ts (first ∷ rest) end
    hindered_own = by p.seen.told refl
      where
        by : (o : Option Told) → p.seen.told ≡ o → HasHinderedLink m s board turn ts (first ∷ rest) end
        by o e =
            let h = first_is.homing in
            let goes = (f.boards 0 first rest v.boards_some refl).goes_on in
            let Goes : List Came → Type 0 = λ z. GoesOn m s.switches z in
            let was : WasBegun p.seen.begun (Some h) = subst (λ (z : Option Homing). WasBegun p.seen.begun z) first_is.known (now_was m s.switches p.seen.begun (came_in end) All_came (subst Goes (came_cut [] first rest end) goes) notes_came) in
            of o e (λ none. in_none was.0 was.1 was.2 p.seen.begun none was.4)
          where
            of : (o : Option Told) → p.seen.told ≡ o → p.seen.begun ≢ [] → HasHinderedLink m s board turn ts (first ∷ rest) end
            of None none some = absurd (some (not_told m v s ts p end c none))
            of (Some t) known some =
                let x = first_is.first in
                hindered_in m v s ts p t first rest end c known f long short (λ b low w. near_keeps m s p.seen.text ts (first ∷ (rest ++ end ∷ [])) near p b refl some low w) stop have in_time notes reads first_is.homing first_is.known board turn x.tick
                (subst (IsMember board) (sym x.are) (member_in board x.ahead x.at x.behind x.board_is)) x.early x.told

  -- the run had no turn before it, or some
  pub hindered_by : (rs : List ReactorTurn) → Facts m s ts rs end c → EndsSo m (noted m end.note (known_by m s.switches (came_from [] rs))) (length (came_from [] rs)) end.states (cause.Expired board turn)
      → AllTakeNear m s p.seen.text ts (rs ++ end ∷ []) → AllReadAsTold m s ts rs end → IsFirstExpired m s.switches board turn rs end → HasHinderedLink m s board turn ts rs end
  hindered_by [] f so near reads first_is = let bad : Connecting ≡ Running = sym (noted_phase m end.note (known_by m s.switches [])) ∙ so.0 in cc
  hindered_by (first ∷ rest) f so near reads first_is = hindered_own first rest f so near reads first_is

pub run_hindered : {F S : Type 0} (f : Files F) (o : Sink S) (m : Machine) (s : Scene) (name : List ℕ) (files files' : F) (out out' : S) (kept kept' : Kept) (t : near.Told Run) (r : RunsOver f o m s name files out kept t files' out' kept') → IsValidMachine m → HaveShortDictionaries m → (text : List ℕ)
    → f.told files name ≡ Some text → kept.at ≡ 0 → (board turn : ℕ) → t.cause ≡ cause.Expired board turn → AllTakeNear m s text r.runs.0 (r.runs.1 ++ r.runs.2 ∷ []) → AllReadAsTold m s r.runs.0 r.runs.1 r.runs.2
    → ∥ HasHinderedLink m s board turn r.runs.0 r.runs.1 r.runs.2 ∥₁
run_hindered f o m s name files files' out out' kept kept' t r v short text told at board turn e near reads =
    let other : t.cause ≡ cause.Memory → ⊥ = λ g. (let bad : cause.Expired board turn ≡ cause.Memory = sym e ∙ g in cc) in
    let so = ended_so f o m s name files files' out out' kept kept' t r (cause.Expired board turn) e (λ g. (let bad : cause.Expired board turn ≡ cause.Memory = g in cc)) tt in
    ∥∥₁_map (run_made f o m s name files files' out out' kept kept' t r text told at)
    (λ (w : (made : IsMade m s r.runs.0 r.runs.1) × (made.plans.seen.text ≡ text)).
    hindered_by m v short s r.runs.0 w.0.plans r.runs.2 t.cause board turn e r.runs.1 (facts f o m s name files files' out out' kept kept' t r other) so
    (subst (λ (z : List ℕ). AllTakeNear m s z r.runs.0 (r.runs.1 ++ r.runs.2 ∷ [])) (sym w.1) near) reads (run_first f o m s name files files' out out' kept kept' t r board turn e))
