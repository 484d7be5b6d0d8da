-- A trigger that can't trigger stays as it is over commands of which none starts one.
use Rattle.std.proofs.Common.{◌≡◌, ℕ, ◌<◌, Bool, true, false, List, [], ◌∷◌, ◌++◌, length, Some, None, refl, ap, sym, ◌∙◌, subst, arith, append_assoc, rules}
use Rattle.laws_board.proofs.Names.{append_cancel_left, BoardClock, Level, Trigger, Happening, Nothing, Expires, Switches, Reports, Cmd, Meant, commands_of, Rig, Slot, passes, slot_at, takes_all, Event, Core, Step, Do, Turn, does, in_turn, run_world, takes_in, orders, LinkState, turns_are_steps, no_both}
use Rattle.board_trig.specs.Trigger as trig
use Rattle.board_world.specs.declared.event.Event.TheVariants as event
use Rattle.board_world.specs.World as world
use Rattle.laws_board.specs.turns.Turns.{AreBoardTurns, BoardTurn, stands_after}
use Rattle.laws_homing.proofs.clear_boards.Slots.{Follows, Lasts, Next, OfEach, passes_each, takes_each}
use Rattle.laws_homing.proofs.clear_groups.Off.{Tame, tame_each}
use Rattle.laws_homing.proofs.home_runs.Staying.{taken_later}
use Rattle.laws_homing.specs.clear_groups.Resting.{EachTame}
use Rattle.laws_board.proofs.sections.Naming.{taken_more}

-- a trigger can't trigger, since a tick before this one, and has no timeout
pub record Old (most : ℕ) (t : Trigger) : Type 0 where
  pub off : t.can ≡ false
  pub idle : t.timeout ≡ None
  pub before : t.tick < most

-- so the trigger with this object id
abbrev pub OldAt : ℕ → ℕ → Rig → Type 0
OldAt j most r = (oid : ℕ) (s : Slot) → oid ≡ j → slot_at r oid ≡ Some s → Old most s.trigger

pub happened_old : (most : ℕ) (levels : List Level) (until : ℕ) (e : Happening) (t : Trigger) → Next levels until t e → Old most t → Old most (trig.happened levels until e t).trigger
happened_old most levels until (Expires at) t next k = absurd (let bad : None ≡ Some at = sym k.idle ∙ next.comes.0 in cc)
happened_old most levels until (Switches at) t next k = absurd (no_both t.can next.comes.0.1 k.off)
happened_old most levels until c t next k = record { off = k.off; idle = k.idle; before = k.before }

abbrev One : ℕ → ℕ → (List (List Level) → ℕ → Slot → Type 0)
One j most pins oid s = oid ≡ j → Old most s.trigger

same_old : (most : ℕ) (t u : Trigger) → u.can ≡ t.can → u.timeout ≡ t.timeout → u.tick ≡ t.tick → Old most t → Old most u
same_old most t u can timeout tick k = record { off = can ∙ k.off; idle = timeout ∙ k.idle; before = (let l = k.before in omega (arith, l, tick)) }

lasts_old : (j most until : ℕ) → Lasts (One j most) until
lasts_old j most until = search (rules, happened_old, same_old)

follows_old : (j most : ℕ) → 0 < most → Follows (One j most) Tame
follows_old j most some = search (rules, no_both, same_old)

each_old : (j most : ℕ) (r : Rig) → OldAt j most r → OfEach (One j most) r
each_old j most r all oid s at own = all oid s own at

pub passes_old : (j most : ℕ) (r : Rig) (t : ℕ) → OldAt j most r → OldAt j most (passes r t).rig
passes_old j most r t all oid s own at = passes_each (One j most) t (lasts_old j most t) r (each_old j most r all) oid s at own

pub takes_old : (j most : ℕ) (r : Rig) (cs : List Cmd) → 0 < most → EachTame cs → OldAt j most r → OldAt j most (takes_all r cs).rig
takes_old j most r cs some k all oid s own at = takes_each (One j most) Tame (follows_old j most some) r cs (tame_each r.controller.tick cs k) (each_old j most r all) oid s at own

-- commands in two parts
pub tame_both : (xs ys : List Meant) → EachTame (commands_of xs) → EachTame (commands_of ys) → EachTame (commands_of (xs ++ ys))
tame_both [] ys k l = l
tame_both (x ∷ xs) ys k l = (k.0, tame_both xs ys k.1 l)

pub tame_parts : (xs ys : List Meant) → EachTame (commands_of (xs ++ ys)) → EachTame (commands_of xs) × EachTame (commands_of ys)
tame_parts [] ys k = (tt, k)
tame_parts (x ∷ xs) ys k = let p = tame_parts xs ys k.1 in ((k.0, p.0), p.1)

-- over steps
old_by : (j most : ℕ) (h : Core) (e : Event) → 0 < most → EachTame (commands_of (takes_in h e)) → OldAt j most h.board → OldAt j most (does h e).board
old_by j most h (event.Pass t) some k all = passes_old j most h.board t all
old_by j most h event.Arrive some k all = takes_old j most h.board (commands_of (takes_in h event.Arrive)) some k all
old_by j most h event.Repeat some k all = takes_old j most h.board (commands_of (takes_in h event.Repeat)) some k all
old_by j most h c some k all = all

steps_old : (j most : ℕ) (steps : List Step) (h : Core) (ms : List Meant) → 0 < most → (run_world steps h).taken ≡ h.taken ++ ms → EachTame (commands_of ms) → OldAt j most h.board → OldAt j most (run_world steps h).board
steps_old j most [] h ms some e k all = all
steps_old j most (Do v ∷ steps) h ms some e k all =
    let rest = taken_more steps (world.after_event h v) in
    let same : takes_in h v ++ rest.0 ≡ ms = append_cancel_left h.taken (takes_in h v ++ rest.0) ms (sym (append_assoc h.taken (takes_in h v) rest.0) ∙ sym rest.1 ∙ e) in
    let both = tame_parts (takes_in h v) rest.0 (subst (λ (x : List Meant). EachTame (commands_of x)) (sym same) k) in
    steps_old j most steps (world.after_event h v) rest.0 some rest.1 both.1 (old_by j most h v some both.0 all)
steps_old j most (Turn turn ∷ steps) h ms some e k all = steps_old j most steps (in_turn h turn) ms some e k all

-- and turns in which the board takes these commands
pub turns_old : (j most : ℕ) (clock : BoardClock) (first : LinkState) (later past : List BoardTurn) (ms : List Meant) → 0 < most → AreBoardTurns clock first (later ++ past)
    → (stands_after first (later ++ past)).core.taken ≡ (stands_after first past).core.taken ++ ms → EachTame (commands_of ms) → OldAt j most (stands_after first past).core.board → OldAt j most (stands_after first (later ++ past)).core.board
turns_old j most clock first [] past ms some are e k all = all
turns_old j most clock first (t ∷ later) past ms some are e k all =
    let before = later ++ past in
    let l = stands_after first before in
    let steps = turns_are_steps clock (length before) (orders t.control t.batch ∷ []) l t.after (t.after, are.0.0, refl) in
    let took = taken_more steps.0 l.core in
    let rest = taken_later clock first later past are.1 in
    let h = (stands_after first past).core in
    let whole : h.taken ++ (rest.0 ++ took.0) ≡ h.taken ++ ms =
    sym (append_assoc h.taken rest.0 took.0) ∙ ap (λ (x : List Meant). x ++ took.0) (sym rest.1) ∙ sym took.1 ∙ ap (λ (g : Core). g.taken) (sym steps.1) ∙ e in
    let both = tame_parts rest.0 took.0 (subst (λ (x : List Meant). EachTame (commands_of x)) (sym (append_cancel_left h.taken (rest.0 ++ took.0) ms whole)) k) in
    let old = turns_old j most clock first later past rest.0 some are.1 rest.1 both.0 all in
    subst (λ (g : Core). OldAt j most g.board) (sym steps.1) (steps_old j most steps.0 l.core took.0 some took.1 both.1 old)
