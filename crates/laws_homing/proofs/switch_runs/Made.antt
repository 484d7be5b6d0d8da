-- What stands on a board by the commands that it took: no other trigger, and the endstops that they make.
use Rattle.std.proofs.Common.{◌≡◌, ℕ, ◌<◌, ◌⊎◌, inl, inr, List, [], ◌∷◌, ◌++◌, length, Option, Some, None, refl, ap, sym, ◌∙◌, subst, arith, append-nil}
use Rattle.std.specs.Prelude.{slice_index_or}
use Rattle.laws_board.proofs.Names.{get_or-set_same, Level, BoardDef, BoardState, Running, clock_of, Cmd, Entry, Meant, commands_of, Rig, acts, acts_running, passes, takes, takes_all, Event, Core, Step, Do, Turn, world_after, after_event, takes_in, first_state}
use Rattle.std.proofs.lemmas.List.{get_or-set_other, length-set}
use Rattle.msg_code.specs.declared.cmd.Cmd.TheVariants as cmd
use Rattle.board_sim.specs.Rig.{make_endstop, new_rig, trigger}
use Rattle.board_sim.proofs.Enough.{none_at}
use Rattle.board_sim.proofs.RigStates.{passes_state}
use Rattle.board_world.specs.declared.event.Event.TheVariants as event
use Rattle.laws_board.specs.turns.Turns.{AreBoardTurns, BoardTurn, stands_after}
use Rattle.laws_homing.specs.home_runs.Guards.{IsSole}
use Rattle.laws_homing.proofs.clear_boards.Slots.{MakesNone, MakesOnly, passes_beside, running_beside, running_sole}
use Rattle.laws_homing.proofs.home_runs.Guarding.{passes_next}
use Rattle.laws_homing.proofs.home_runs.Staging.{commands_both}
use Rattle.laws_homing.proofs.home_runs.Whole.{OneOnly, Only}
use Rattle.laws_homing.proofs.clear_boards.Turned.{ran}
use Rattle.laws_homing.specs.switch_runs.Reading.{BringFit}
use Rattle.laws_homing.specs.switch_runs.Made.{MakesEndstop}
use Rattle.laws_homing.proofs.switch_runs.Telling.{Brings, Keeps, keeps_by, keeps_turn, start_keeps, turn_keeps}
use Rattle.laws_homing.proofs.switch_runs.Homes.{makes_either}

-- any tick
abbrev pub AnyTick : ℕ → Type 0
AnyTick tick = Unit {0}

-- no other trigger stands behind a command that makes none
makes_only : (j : ℕ) (c : Cmd) → OneOnly j c → MakesOnly j c
makes_only j (cmd.ConfigTrsync oid) only = only
makes_only j c only = tt

takes_sole : (r : Rig) (j : ℕ) (c : Cmd) → OneOnly j c → IsSole j r → IsSole j (takes r c).rig
takes_sole r j c only sole = running_sole r.controller.state r j c (makes_only j c only) sole

-- the endstops behind a command that makes none
pub acts_ends : (r : Rig) (c : Cmd) → MakesNone c → (acts r c).rig.endstops ≡ r.endstops
acts_ends r c none = (running_beside Running r c).2 none

-- an endstop stands at a place, once it is made
abbrev pub HasEnd : ℕ → List (Option ℕ) → Type 0
HasEnd endstop xs = (pin : ℕ) × (slice_index_or xs endstop None ≡ Some pin)

new_end : (r : Rig) (e pin : ℕ) (o : Option ℕ) → slice_index_or r.endstops e None ≡ o → e < length r.endstops → HasEnd e (make_endstop r e pin o).endstops
new_end r e pin None at few = (pin, get_or-set_same r.endstops e (Some pin) None few)
new_end r e pin (Some p) at few = (p, at)

old_end : (r : Rig) (e oid pin : ℕ) (o : Option ℕ) → slice_index_or r.endstops oid None ≡ o → HasEnd e r.endstops → HasEnd e (make_endstop r oid pin o).endstops
old_end r e oid pin None at h = (h.0, get_or-set_other r.endstops oid e (Some pin) None (λ same. (let bad : None ≡ Some h.0 = sym at ∙ ap (λ (i : ℕ). slice_index_or r.endstops i None) (sym same) ∙ h.1 in cc)) ∙ h.1)
old_end r e oid pin (Some p) at h = h

end_places : (r : Rig) (oid pin : ℕ) (o : Option ℕ) → length (make_endstop r oid pin o).endstops ≡ length r.endstops
end_places r oid pin None = length-set r.endstops oid (Some pin)
end_places r oid pin (Some p) = refl

end_made : (r : Rig) (e oid pin pull : ℕ) (cs : List Cmd) → e < length r.endstops → HasEnd e r.endstops ⊎ MakesEndstop e (cmd.ConfigEndstop oid pin pull ∷ cs)
    → HasEnd e (make_endstop r oid pin (slice_index_or r.endstops oid None)).endstops ⊎ MakesEndstop e cs
end_made r e oid pin pull cs few (inl h) = inl (old_end r e oid pin (slice_index_or r.endstops oid None) refl h)
end_made r e oid pin pull cs few (inr (inl same)) =
    inl (subst (λ (i : ℕ). HasEnd e (make_endstop r i pin (slice_index_or r.endstops i None)).endstops) (sym same) (new_end r e pin (slice_index_or r.endstops e None) refl few))
end_made r e oid pin pull cs few (inr (inr m)) = inr m

-- What stands on a board: no other trigger; and the endstop, or some commands are left that make it, where P is so.
pub record Stood (endstop trigger : ℕ) (P : Type 0) (cs : List Cmd) (r : Rig) : Type 0 where
  pub sole : IsSole trigger r
  pub room : endstop < length r.endstops
  pub made : P → HasEnd endstop r.endstops ⊎ MakesEndstop endstop cs

one_stood : (e j : ℕ) (P : Type 0) (r : Rig) (c : Cmd) (cs : List Cmd) → r.controller.state ≡ Running → OneOnly j c → Stood e j P (c ∷ cs) r → Stood e j P cs (takes r c).rig
one_stood e j P r (cmd.ConfigEndstop oid pin pull) cs runs only k =
    let c = cmd.ConfigEndstop oid pin pull in
    record {
      sole = takes_sole r j c only k.sole;
      room = subst (λ (o : BoardState). e < length (acts_running o r c).rig.endstops) (sym runs)
          (let few = k.room in let same = end_places r oid pin (slice_index_or r.endstops oid None) in omega (arith, few, same));
      made = λ p. subst (λ (o : BoardState). HasEnd e (acts_running o r c).rig.endstops ⊎ MakesEndstop e cs) (sym runs) (end_made r e oid pin pull cs k.room (k.made p));
    }
one_stood e j P r c cs runs only k =
    let same : (takes r c).rig.endstops ≡ r.endstops = subst (λ (o : BoardState). (acts_running o r c).rig.endstops ≡ r.endstops) (sym runs) (acts_ends r c tt) in
    record {
      sole = takes_sole r j c only k.sole;
      room = subst (λ (xs : List (Option ℕ)). e < length xs) (sym same) k.room;
      made = λ p. subst (λ (xs : List (Option ℕ)). HasEnd e xs ⊎ MakesEndstop e cs) (sym same) (k.made p);
    }

all_stood : (e j : ℕ) (P : Type 0) (r : Rig) (cs : List Cmd) → (takes_all r cs).rig.controller.state ≡ Running → Only j cs → Stood e j P cs r → Stood e j P [] (takes_all r cs).rig
all_stood e j P r [] runs only k = k
all_stood e j P r (c ∷ cs) runs only k = all_stood e j P (takes r c).rig cs runs only.1 (one_stood e j P r c cs (ran r (c ∷ cs) runs) only.0 k)

-- as time passes
passes_ends : (r : Rig) (t : ℕ) → (passes r t).rig.endstops ≡ r.endstops
passes_ends r t = (passes_beside t r).2 tt

time_stood : (e j : ℕ) (P : Type 0) (r : Rig) (t : ℕ) → Stood e j P [] r → Stood e j P [] (passes r t).rig
time_stood e j P r t k = record {
  sole = (passes_next 0 j r t).sole k.sole;
  room = subst (λ (xs : List (Option ℕ)). e < length xs) (sym (passes_ends r t)) k.room;
  made = λ p. subst (λ (xs : List (Option ℕ)). HasEnd e xs ⊎ MakesEndstop e []) (sym (passes_ends r t)) (k.made p);
}

-- commands in two parts
pub only_parts : (j : ℕ) (xs ys : List Meant) → Only j (commands_of (xs ++ ys)) → Only j (commands_of xs) × Only j (commands_of ys)
only_parts j [] ys a = (tt, a)
only_parts j (x ∷ xs) ys a = let p = only_parts j xs ys a.1 in ((a.0, p.0), p.1)

-- so on a board that runs and took these commands, which make no other trigger
abbrev pub IsStanding : ℕ → ℕ → List Meant → Rig → Type 0
IsStanding endstop trigger taken r = r.controller.state ≡ Running → Only trigger (commands_of taken) → Stood endstop trigger (MakesEndstop endstop (commands_of taken)) [] r

-- the endstop stands, or is made by the commands that come
made_so : (e j : ℕ) (taken ms : List Meant) (r : Rig) → Stood e j (MakesEndstop e (commands_of taken)) [] r → MakesEndstop e (commands_of (taken ++ ms)) → HasEnd e r.endstops ⊎ MakesEndstop e (commands_of ms)
made_so e j taken ms r k m =
    let Makes : List Cmd → Type 0 = λ cs. MakesEndstop e cs in
    elim (makes_either e (commands_of taken) (commands_of ms) (subst Makes (commands_both taken ms) m)) [ inl old ↦ elim (k.made old) [ inl h ↦ inl h | inr none ↦ absurd none ] | inr new ↦ inr new ]

pub took_standing : (e j : ℕ) (taken ms : List Meant) (r : Rig) → IsStanding e j taken r → IsStanding e j (taken ++ ms) (takes_all r (commands_of ms)).rig
took_standing e j taken ms r old runs only =
    let both = only_parts j taken ms only in
    let k = old (ran r (commands_of ms) runs) both.0 in
    all_stood e j (MakesEndstop e (commands_of (taken ++ ms))) r (commands_of ms) runs both.1 (record { sole = k.sole; room = k.room; made = λ m. made_so e j taken ms r k m })

-- time
time_standing : (e j : ℕ) (taken : List Meant) (r : Rig) (t : ℕ) → IsStanding e j taken r → IsStanding e j (taken ++ []) (passes r t).rig
time_standing e j taken r t old =
    subst (λ (ms : List Meant). IsStanding e j ms (passes r t).rig) (sym (append-nil taken)) (λ runs only. time_stood e j (MakesEndstop e (commands_of taken)) r t (old (sym (passes_state r t) ∙ runs) only))

standing_by : (e j : ℕ) (h : Core) (v : Event) → IsStanding e j h.taken h.board → IsStanding e j (after_event h v).taken (after_event h v).board
standing_by e j h (event.Pass t) k = time_standing e j h.taken h.board t k
standing_by e j h v k = took_standing e j h.taken (takes_in h v) h.board k

-- over steps and turns
abbrev pub Whole : (ℕ → (ℕ → Type 0)) → List (List Level) → ℕ → ℕ → Core → Type 0
Whole E pins e j h = Keeps E AnyTick AnyTick pins h × IsStanding e j h.taken h.board

whole_step : (E : ℕ → (ℕ → Type 0)) (pins : List (List Level)) (e j : ℕ) (h : Core) (s : Step) → Brings E AnyTick AnyTick pins s → Whole E pins e j h → Whole E pins e j (world_after h s)
whole_step E pins e j h (Do v) b k = ((keeps_by E AnyTick AnyTick pins h v b k.0).0, standing_by e j h v k.1)
whole_step E pins e j h (Turn turn) b k = (keeps_turn E AnyTick AnyTick pins h turn k.0, k.1)

start_standing : (e j : ℕ) (b : BoardDef) (pins : List (List Level)) → e < 256 → IsStanding e j [] (new_rig b pins)
start_standing e j b pins few runs only = record { sole = λ oid s is. (let none : None ≡ Some s = sym (none_at 256 oid) ∙ is in absurd (cc)); room = few; made = λ m. absurd m }

-- behind all turns of a board that bring fit commands
pub whole_after : (E : ℕ → (ℕ → Type 0)) (b : BoardDef) (pins : List (List Level)) (board : ℕ) (entries : List Entry) (turns : List BoardTurn) (e j : ℕ) → AreBoardTurns (clock_of b) (first_state b pins board entries) turns → e < 256
    → BringFit E (λ now. AnyTick) pins turns → Whole E pins e j (stands_after (first_state b pins board entries) turns).core
whole_after E b pins board entries [] e j are few fit = (start_keeps E AnyTick AnyTick b pins, start_standing e j b pins few)
whole_after E b pins board entries (t ∷ before) e j are few fit =
    let old = whole_after E b pins board entries before e j are.1 few fit.1 in
    (turn_keeps E AnyTick AnyTick pins (Whole E pins e j) (whole_step E pins e j) (clock_of b) (first_state b pins board entries) t before are.0 (λ x early any. tt) fit.0 old).1
