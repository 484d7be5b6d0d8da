-- A board that a unit reached too late names that unit.
use Rattle.std.proofs.Common.{◌≡◌, ℕ, ◌<◌, List, [], ◌∷◌, ◌++◌, Option, Some, None, ap, sym, ◌∙◌, subst, arith, inl, inr, append_assoc, append-nil, rules}
use Rattle.std.specs.Prelude.{slice_index}
use Rattle.link_work.specs.Late.{IsSteps}
use Rattle.laws_board.proofs.Names.{BoardState, Pending, Cmd, Controller, Rig, takes, takes_all, Meant, commands_of, Core, Step, Do, Turn, takes_in, after_event, in_turn, run_world}
use Rattle.plan_types.specs.declared.plan.Triple.{Triple}
use Rattle.board_step.proofs.Whole.{whole}
use Rattle.msg_code.specs.declared.cmd.Cmd.TheVariants as cmd
use Rattle.board_sim.specs.Board.{stepper_at}
use Rattle.board_sim.specs.Fair.{IsFairOn, IsFairCommand, IsFairRunning, AreFair}
use Rattle.board_world.specs.Shut.{IsRefused, Shuts, ShutBy, WasShut}
use Rattle.board_world.specs.World.{AllFair}
use Rattle.laws_board.specs.sections.Late.{IsIn}

-- the command that shut the board down was fair
fair_at : (r : Rig) (xs : List Meant) (m : Meant) (ys : List Meant) → AreFair r (xs ++ m ∷ ys)
    → IsFairRunning (takes_all r (commands_of xs)).rig.controller.state (takes_all r (commands_of xs)).rig.controller m.command m.ticks
fair_at r [] m ys f = f.0
fair_at r (x ∷ xs) m ys f = fair_at (takes r x.command).rig xs m ys f.1

not_one : (n : ℕ) → 1 < n → 1 ≡ n → ⊥
not_one n h e = omega (arith, h, e)

-- a triple that came too late
late_first : (now : ℕ) (o : Option Pending) (t : Triple) (first : ℕ) (ticks : List ℕ) → IsRefused now o t 1 first → IsFairOn now o t ticks → (slice_index ticks 0 ≡ first) × (first < now)
late_first now o t first ticks p5 p6 = search (rules, not_one, slice_index, whole)

-- what shut the board down is a triple with this first tick
abbrev Names : Meant → ℕ → ℕ → Type 0
Names m now first = IsSteps m.command × (slice_index m.ticks 0 ≡ first) × (first < now)

one_names : (b : Controller) (c : Cmd) (ticks : List ℕ) (first : ℕ) → Shuts b c 1 first → IsFairCommand b c ticks → IsSteps c × (slice_index ticks 0 ≡ first) × (first < b.tick)
one_names b c ticks first p4 p5 = search (rules, late_first, not_one)

shut_names : (r : Rig) (ms : List Meant) (tick first : ℕ) (s : ShutBy r ms 1 tick first) → AreFair r ms → (m : Meant) × IsIn m ms × Names m tick first
shut_names r ms tick first s f = search (rules, takes_all, commands_of, fair_at, one_names)

pub in_more : {X : Type 0} (x : X) (xs ys zs : List X) → IsIn x ys → IsIn x ((xs ++ ys) ++ zs)
in_more x xs ys zs (before, behind, are) = (
  xs ++ before,
  behind ++ zs,
  ap (λ t. (xs ++ t) ++ zs) are ∙ ap (λ t. t ++ zs) (sym (append_assoc xs before (x ∷ behind))) ∙ append_assoc (xs ++ before) (x ∷ behind) zs,
)

-- what was taken stays taken
unfoldable pub taken_more : (steps : List Step) (h : Core) → (more : List Meant) × ((run_world steps h).taken ≡ h.taken ++ more)
taken_more [] h = ([], sym (append-nil h.taken))
taken_more (Do e ∷ steps) h =
    let rest = taken_more steps (after_event h e) in
    (takes_in h e ++ rest.0, rest.1 ∙ append_assoc h.taken (takes_in h e) rest.0)
taken_more (Turn turn ∷ steps) h = let rest = taken_more steps (in_turn h turn) in (rest.0, rest.1)

pub late_names : (steps : List Step) (h : Core) (tick first : ℕ) → WasShut h steps 1 tick first → AllFair h steps → (m : Meant) × IsIn m (run_world steps h).taken × Names m tick first
late_names [] h tick first w f = absurd w
late_names (Do e ∷ steps) h tick first (inl s) f =
    let n = shut_names h.board (takes_in h e) tick first s f.0 in
    let rest = taken_more steps (after_event h e) in
    let At : List Meant → Type 0 = λ x. IsIn n.0 x in
    (n.0, subst At (sym rest.1) (in_more n.0 h.taken (takes_in h e) rest.0 n.1), n.2)
late_names (Turn turn ∷ steps) h tick first (inl s) f = absurd s
late_names (Do e ∷ steps) h tick first (inr w) f = late_names steps (after_event h e) tick first w f.1
late_names (Turn turn ∷ steps) h tick first (inr w) f = late_names steps (in_turn h turn) tick first w f.1
