-- The clocks of the steppers that move in a homing section are set in time.
use Rattle.std.proofs.Common.{◌≡◌, ℕ, ◌+◌, ◌-◌, ◌≤◌, List, [], ◌∷◌, ◌++◌, length, append_assoc, Some, refl, sym, ◌∙◌, subst, arith}
use Rattle.laws_board.proofs.Names.{Level, Machine, Home, axis_at, stepper_at, Entry, Switch, members_from, Came, Started, Told, MotionTurn}
use Rattle.laws_board.specs.turns.Turns.{BoardTurn}
use Rattle.laws_board.specs.clocks.Runs.{IsInRun, orders_in}
use Rattle.laws_board.proofs.clocks.Lines.{as_long, run_before}
use Rattle.laws_board.proofs.clocks.Orders.{order_length}
use Rattle.laws_board.specs.sections.Homes.{AreSet, SetsIn}
use Rattle.laws_board.specs.plans.Planned.{Plans}
use Rattle.laws_homing.proofs.home_runs.Clocking.{clocks_set}
use Rattle.laws_homing.proofs.home_runs.Joining.{homes_later}
use Rattle.laws_homing.proofs.home_runs.Knowing.{homing_known}
use Rattle.laws_board.specs.plans.Rows.{AreInARow}
use Rattle.laws_homing.specs.home_parts.Answers.{ArePastConnecting, IsPlannedBy, MayHome}
use Rattle.laws_homing.specs.home_parts.Cuts.{cut_on, cuts_on}
use Rattle.laws_homing.specs.home_parts.Movers.{HaveMovers, IsMover}
use Rattle.laws_homing.proofs.home_parts.Told.{begun_by, in_row, split_at}
use Rattle.laws_board.proofs.plans.Rows.{row_from}
use Rattle.laws_board.proofs.plans.Answering.{home_axis}

module _ (m : Machine) (switches : List Switch) (pins : List (List Level)) (entries : List Entry) (b : ℕ) (ts : List MotionTurn) (p : Plans m (length m.boards) ts) (t : Told) (ready : ℕ) (came : List Came) (by : IsPlannedBy m switches (length m.boards) ts p came)
    (told : p.seen.told ≡ Some t) (early : ready + 260 ≤ t.first) (past : ArePastConnecting m switches ready came) (may : MayHome m p.seen.begun) (turns : List BoardTurn) (run : IsInRun m switches pins entries b came turns) where
  one_set : (until : ℕ) (xs : List Started) (s : Started) (later : List Started) (axis oid : ℕ) → p.seen.begun ≡ xs ++ s ∷ later → s.section.kind ≡ Home axis → IsMover m b s axis oid → s.start ≤ 0 + length (orders_in turns) + 250
      → SetsIn oid (cut_on m t.clocks until b s).section 0 (orders_in turns)
  one_set until xs s later axis oid cut home mover soon =
      let Row : List Started → Type 0 = λ ss. AreInARow t.first ss in
      let order = row_from t.first xs s later (subst Row cut (in_row m switches pins entries b ts p t ready came by told early past may)) in
      let start = order.0 in
      let far = order.1 in
      let long = order_length turns in
      let both = as_long m switches b came turns run.both in
      let f = split_at m switches pins entries b (s.start - 251) came turns run (omega (arith, soon, long, both, start, early)) in
      let at = f.at in
      let here : came ≡ (f.ahead ++ f.c ∷ []) ++ f.before = f.came_is ∙ sym (append_assoc f.ahead (f.c ∷ []) f.before) in
      let turns_are : turns ≡ (f.later ++ f.t ∷ []) ++ f.past = f.turns_is ∙ sym (append_assoc f.later (f.t ∷ []) f.past) in
      let from = s.start - 259 in
      let begin : from + 259 ≡ s.start = omega (arith, start, early) in
      let ms = members_from m (axis_at m axis) s.moving 0 m.boards in
      let r = run_before m switches pins entries b f.c f.before f.t f.past f.run in
      let known = homing_known m switches from s.start ms f.before r.goes_on (begun_by m switches pins entries b ts p t ready came by told early past may xs s later axis from (f.ahead ++ f.c ∷ []) f.before cut home begin here (omega (arith, at, far)) (let most = by.long in omega (arith, at, soon, long, both, most, start, early))) in
      let homes = homes_later m switches from (s.start - 254) s.start ms f.before (omega arith) known in
      let behind = as_long m switches b f.before f.past r.both in
      let section = (cut_on m t.clocks until b s).section in
      let set = clocks_set m switches pins entries b mover.stepper (s.start - 254) s.start ms section f.before (f.later ++ f.t ∷ []) f.past r homes (omega (arith, start, early)) refl mover.moves (omega (arith, behind, at)) in
      let At : List BoardTurn → Type 0 = λ z. SetsIn (stepper_at m mover.stepper).oid section 0 (orders_in z) in
      let Of : ℕ → Type 0 = λ n. SetsIn n section 0 (orders_in turns) in
      subst Of mover.oid_is (subst At (sym turns_are) set)

  sets : (until oid : ℕ) (xs rest : List Started) → p.seen.begun ≡ xs ++ rest → HaveMovers m t.clocks until b rest → AreSet oid (cuts_on m t.clocks until rest b) 0 (orders_in turns)
  sets until oid xs [] cut have = tt
  sets until oid xs (s ∷ rest) cut have = (
    λ homes some soon. let kind = home_axis s.section.kind homes in one_set until xs s rest kind.0 oid cut kind.1 (have.0 kind.0 oid kind.1 some) soon,
    sets until oid (xs ++ s ∷ []) rest (cut ∙ sym (append_assoc xs (s ∷ []) rest)) have.1,
  )

pub all_set : (m : Machine) (switches : List Switch) (pins : List (List Level)) (entries : List Entry) (b ready until : ℕ) (ts : List MotionTurn) (p : Plans m (length m.boards) ts) (t : Told) (came : List Came) (turns : List BoardTurn)
    → IsPlannedBy m switches (length m.boards) ts p came → p.seen.told ≡ Some t → ready + 260 ≤ t.first → ArePastConnecting m switches ready came → MayHome m p.seen.begun → IsInRun m switches pins entries b came turns
    → HaveMovers m t.clocks until b p.seen.begun → (oid : ℕ) → AreSet oid (cuts_on m t.clocks until p.seen.begun b) 0 (orders_in turns)
all_set m switches pins entries b ready until ts p t came turns by told early past may run have oid = sets m switches pins entries b ts p t ready came by told early past may turns run until oid [] p.seen.begun refl have
