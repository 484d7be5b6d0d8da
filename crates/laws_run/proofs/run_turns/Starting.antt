-- The first section of a run starts behind connecting.
use Rattle.std.proofs.Common.{◌≡◌, ◌+◌, ◌∷◌, List, [], length, Some, refl, ap, sym, ◌∙◌, subst, arith}
use Rattle.plan_types.specs.Sections.{first_start}
use Rattle.laws_board.proofs.Names.{Machine, IsValidMachine, WordMsg, Scene, AreStarted, Started, Told, MotionTurn, ReactorTurn, gather}
use Rattle.session_run.specs.Boards.{came_from}
use Rattle.laws_board.specs.plans.Planned.{Plans}
use Rattle.laws_board.proofs.plans.Running.{started_in}
use Rattle.laws_run.proofs.run_headline.Boarded.{among_turn, came_long, ready}
use Rattle.laws_run.proofs.run_headline.Words.{Among, among_left, gather_words, last_tells, made_numbered, turns_tell}
use Rattle.laws_run.specs.run_turns.Starts.{StartsBehindConnecting}
use Rattle.laws_run.proofs.run_turns.Words.{Taken}

pub starts : (m : Machine) (v : IsValidMachine m) (s : Scene) (ts : List MotionTurn) (p : Plans m (length m.boards) ts) (t : Told) (end : ReactorTurn) → p.seen.told ≡ Some t → (rs : List ReactorTurn) → Taken m s rs ts
    → StartsBehindConnecting m s.switches rs t.first p.seen.begun
starts m v s ts p t end told [] x =
    let h = turns_tell m 0 0 p.made t (omega arith) p.in_time p.in_range p.ahead (made_numbered m s.switches x.ahead [] ts p.made p.bare x.left p.are tt x.words) (sym p.told_is ∙ told) in
    let w = h.word in
    let In : List WordMsg → Type 0 = λ ws. Among w ws in
    let in_made = among_left w (gather (λ (x : MotionTurn). x.words) p.made) (gather (λ (x : MotionTurn). x.words) p.bare) (among_turn w h.past h.turn h.later p.made h.are h.among) in
    let in_ts = subst In (ap (gather (λ (x : MotionTurn). x.words)) (sym p.are)) (subst In (sym (gather_words p.made p.bare)) in_made) in
    let in_put = subst In (sym x.words) (among_left w (gather (λ (x : MotionTurn). x.words) ts) x.left in_ts) in
    absurd (last_tells m h.clocks t.first 0 x.ahead w h.tells in_put)
starts m v s ts p t end told (first ∷ rest) x =
    let r = ready m v s ts p t first rest end told x.ahead x.left x.turns x.words in
    let long = came_long [] r.past in
    let k = length r.past in
    let same : length (came_from [] r.past) ≡ k = omega (arith, long) in
    let from : t.first ≡ first_start k = r.first_is ∙ ap first_start same in
    record {
      connected = k;
      ends = record { past = r.past; turn = r.turn; later = r.later; are = r.are; number = refl; before = r.is.phase; behind = r.is.then };
      ready_is = from;
      first = λ y later cut.
          let Starts : List Started → Type 0 = λ z. AreStarted m t.clocks t.first z in
          (subst Starts cut (started_in m ts p t told)).0.start ∙ ap (λ i. i + y.section.dwell) from;
    }
