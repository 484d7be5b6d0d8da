-- A board that takes the commands of connecting runs, and is configured once it took their end.
use Rattle.std.proofs.Common.{◌≡◌, ℕ, zero, suc, ◌+◌, ◌/◌, inl, inr, Bool, true, false, not, List, [], ◌∷◌, ◌++◌, Option, Some, None, refl, ap, sym, ◌∙◌, subst, append_assoc, append-nil, rules}
use Rattle.std.specs.Prelude.{◌&&◌, ◌||◌, ◌%◌, ◌^◌, slice_index_or}
use Rattle.laws_board.proofs.Names.{leb_tells, BoardState, Running, Shut, Pending, Cmd, Controller, Meant, commands_of, Passed, Rig, Slot, acts, acts_running, all_left, at_of, earliest_moment, goes_on, happens_to, pass, passes, passes_by, rests_to, runs_to, slot_at, takes, takes_all}
use Rattle.msg_code.specs.Units.{bit}
use Rattle.board_trig.specs.Trigger as trig
use Rattle.msg_code.specs.declared.cmd.Cmd.TheVariants as cmd
use Rattle.board_sim.specs.Board.{make_stepper, stepper_at}
use Rattle.board_sim.specs.Board as board
use Rattle.board_sim.specs.Rig.{halts, happens_at, levels_of, make_endstop, make_trigger}
use Rattle.board_sim.proofs.RigStates.{passes_state}

-- what time and triggers keep of a board
pub record Same (x y : Controller) : Type 0 where
  pub complete : x.complete ≡ y.complete
  pub crc : x.crc ≡ y.crc
  pub dictionary : x.dictionary ≡ y.dictionary

same_both : (x y z : Controller) → Same x y → Same y z → Same x z
same_both x y z a b = record { complete = a.complete ∙ b.complete; crc = a.crc ∙ b.crc; dictionary = a.dictionary ∙ b.dictionary }

on_same : (s : BoardState) (b : Controller) (t : ℕ) → Same (board.passes_on s b t).board b
on_same Running b t = record { complete = refl; crc = refl; dictionary = refl }
on_same (Shut reason tick first) b t = record { complete = refl; crc = refl; dictionary = refl }

run_same : (b : Controller) (t : ℕ) → Same (board.passes b t).board b
run_same b t = elim (leb_tells b.tick t) [ inl p ↦ rw p.0 (on_same b.state b t) | inr p ↦ rw p.0 (record { complete = refl; crc = refl; dictionary = refl }) ]

pub halts_same : (h : Bool) (bound : List ℕ) (b : Controller) → Same (halts h bound b) b
halts_same true bound b = record { complete = refl; crc = refl; dictionary = refl }
halts_same false bound b = record { complete = refl; crc = refl; dictionary = refl }

happens_same : (r : Rig) (t oid : ℕ) (o : Option Slot) → Same (happens_to r t oid o).rig.controller r.controller
happens_same r t oid None = record { complete = refl; crc = refl; dictionary = refl }
happens_same r t oid (Some s) = halts_same (s.trigger.can && not (trig.advanced (levels_of r s.pin) t s.trigger).trigger.can) s.bound r.controller

goes_same : (o : Option (ℕ × ℕ)) (r : Rig) (t : ℕ) (rest : Passed) → Same rest.rig.controller (happens_at r t (at_of o)).rig.controller
    → Same (goes_on o (rests_to r t) (passes_by (happens_at r t (at_of o)) rest)).rig.controller r.controller
goes_same o r t rest p4 = search (rules, run_same, runs_to, same_both, happens_same, slot_at)

steps_same : (n : ℕ) (r : Rig) (t : ℕ) → Same (pass n r t).rig.controller r.controller
steps_same zero r t = record { complete = refl; crc = refl; dictionary = refl }
steps_same (suc n) r t =
    let first = happens_at r t (at_of (earliest_moment r t 0 r.triggers)) in
    goes_same (earliest_moment r t 0 r.triggers) r t (pass n first.rig t) (steps_same n first.rig t)

pub passes_same : (r : Rig) (t : ℕ) → Same (passes r t).rig.controller r.controller
passes_same r t = elim (leb_tells r.controller.tick t) [ inl p ↦ rw p.0 (steps_same (all_left t r.triggers + 1) r t) | inr p ↦ rw p.0 (record { complete = refl; crc = refl; dictionary = refl }) ]

-- the commands of connecting
abbrev pub MayTake : Cmd → Type 0
MayTake (cmd.Identify offset count) = Unit {0}
MayTake cmd.GetUptime = Unit {0}
MayTake cmd.GetConfig = Unit {0}
MayTake (cmd.AllocateOids count) = Unit {0}
MayTake (cmd.ConfigStepper oid step dir invert width) = Unit {0}
MayTake (cmd.ConfigTrsync oid) = Unit {0}
MayTake (cmd.ConfigEndstop oid pin pull) = Unit {0}
MayTake (cmd.FinalizeConfig crc) = crc ≡ 0
MayTake c = ⊥

abbrev pub AllMay : List Meant → Type 0
AllMay [] = Unit {0}
AllMay (m ∷ ms) = MayTake m.command × AllMay ms

pub may_first : (xs ys : List Meant) → AllMay (xs ++ ys) → AllMay xs
may_first [] ys k = tt
may_first (x ∷ xs) ys k = (k.0, may_first xs ys k.1)

pub may_rest : (xs ys : List Meant) → AllMay (xs ++ ys) → AllMay ys
may_rest [] ys k = k
may_rest (x ∷ xs) ys k = may_rest xs ys k.1

pub may_both : (xs ys : List Meant) → AllMay xs → AllMay ys → AllMay (xs ++ ys)
may_both [] ys k l = l
may_both (x ∷ xs) ys k l = (k.0, may_both xs ys k.1 l)

abbrev pub ends_config : Cmd → Bool
ends_config (cmd.FinalizeConfig crc) = true
ends_config c = false

-- the end of the configuration is among some commands
abbrev pub finished : List Meant → Bool
finished [] = false
finished (m ∷ ms) = ends_config m.command || finished ms

pub or_true : (b : Bool) → (b || true) ≡ true
or_true true = refl
or_true false = refl

or_assoc : (a b c : Bool) → ((a || b) || c) ≡ (a || (b || c))
or_assoc true b c = refl
or_assoc false b c = refl

pub finished_both : (xs ys : List Meant) → finished (xs ++ ys) ≡ (finished xs || finished ys)
finished_both [] ys = refl
finished_both (x ∷ xs) ys = ap (λ (b : Bool). ends_config x.command || b) (finished_both xs ys) ∙ sym (or_assoc (ends_config x.command) (finished xs) (finished ys))

-- a board that took such commands
pub record Ready (taken : List Meant) (b : Controller) : Type 0 where
  pub running : b.state ≡ Running
  pub crc : b.crc ≡ 0
  pub complete : finished taken ≡ true → b.complete ≡ true

-- what a command makes of it
record Steps (x b : Controller) (ends : Bool) : Type 0 where
  pub running : x.state ≡ Running
  pub crc : x.crc ≡ 0
  pub complete : (ends ≡ true) → x.complete ≡ true
  pub still : b.complete ≡ true → x.complete ≡ true

by_make : (b : Controller) (oid : ℕ) (o : Option Pending) → b.state ≡ Running → b.crc ≡ 0 → Steps (make_stepper b oid o).board b false
by_make b oid None e f = record { running = e; crc = f; complete = λ g. cc; still = λ g. g }
by_make b oid (Some q) e f = record { running = e; crc = f; complete = λ g. cc; still = λ g. g }

pub made_same : (r : Rig) (oid : ℕ) (o : Option Slot) → (make_trigger r oid o).controller ≡ r.controller
made_same r oid None = refl
made_same r oid (Some s) = refl

pub endstop_same : (r : Rig) (oid pin : ℕ) (o : Option ℕ) → (make_endstop r oid pin o).controller ≡ r.controller
endstop_same r oid pin None = refl
endstop_same r oid pin (Some p) = refl

unchanged : (x b : Controller) → x ≡ b → b.state ≡ Running → b.crc ≡ 0 → Steps x b false
unchanged x b s e f = record { running = ap (λ (y : Controller). y.state) s ∙ e; crc = ap (λ (y : Controller). y.crc) s ∙ f; complete = λ g. cc; still = λ g. ap (λ (y : Controller). y.complete) s ∙ g }

by_board : (b : Controller) (c : Cmd) → b.state ≡ Running → b.crc ≡ 0 → Steps (board.acts b c).board b (ends_config c) → (board.takes b c).board ≡ (board.acts_running b.state b c).board → Steps (board.takes b c).board b (ends_config c)
by_board b c e f s same =
    let is : (board.takes b c).board ≡ (board.acts b c).board = same ∙ ap (λ (s : BoardState). (board.acts_running s b c).board) e in
    subst (λ (x : Controller). Steps x b (ends_config c)) (sym is) s

acts_so : (r : Rig) (c : Cmd) → MayTake c → r.controller.state ≡ Running → r.controller.crc ≡ 0 → Steps (acts r c).rig.controller r.controller (ends_config c)
acts_so r c p2 p3 p4 = search (rules, unchanged, by_board, by_make, made_same, slot_at, endstop_same, slice_index_or)

takes_so : (r : Rig) (c : Cmd) → MayTake c → r.controller.state ≡ Running → r.controller.crc ≡ 0 → Steps (takes r c).rig.controller r.controller (ends_config c)
takes_so r c k e f = subst (λ (s : BoardState). Steps (acts_running s r c).rig.controller r.controller (ends_config c)) (sym e) (acts_so r c k e f)

pub either_true : (a b : Bool) (A : Type 0) → (a || b) ≡ true → (a ≡ true → A) → (b ≡ true → A) → A
either_true true b A e f g = f refl
either_true false b A e f g = g e

ready_one : (taken : List Meant) (r : Rig) (m : Meant) → MayTake m.command → Ready taken r.controller → Ready (taken ++ m ∷ []) (takes r m.command).rig.controller
ready_one taken r m k d = search (rules, takes_so, either_true, finished_both)

pub ready_all : (taken : List Meant) (r : Rig) (ms : List Meant) → AllMay ms → Ready taken r.controller → Ready (taken ++ ms) (takes_all r (commands_of ms)).rig.controller
ready_all taken r [] k d = subst (λ (l : List Meant). Ready l r.controller) (sym (append-nil taken)) d
ready_all taken r (m ∷ ms) k d =
    subst (λ (l : List Meant). Ready l (takes_all (takes r m.command).rig (commands_of ms)).rig.controller) (append_assoc taken (m ∷ []) ms)
    (ready_all (taken ++ m ∷ []) (takes r m.command).rig ms k.1 (ready_one taken r m k.0 d))

pub ready_passes : (taken : List Meant) (r : Rig) (t : ℕ) → Ready taken r.controller → Ready taken (passes r t).rig.controller
ready_passes taken r t d =
    let s = passes_same r t in
    record { running = passes_state r t ∙ d.running; crc = s.crc ∙ d.crc; complete = λ e. s.complete ∙ d.complete e }

-- such a board answers that it is configured
pub config_by : (r : Rig) (taken : List Meant) → Ready taken r.controller → finished taken ≡ true → (takes r cmd.GetConfig).answers ≡ cmd.Config 1 0 0 (r.controller.slots % 2 ^ 16) ∷ []
config_by r taken d e = search (rules, acts_running)
