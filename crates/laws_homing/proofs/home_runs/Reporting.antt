-- What comes to the host of triggers that can trigger, over a line that may lose, repeat, delay and garble blocks and replies.
use Rattle.std.proofs.Common.{◌≡◌, ℕ, ◌+◌, ◌%◌, ◌^◌, ◌≤◌, Bool, true, false, cond, List, [], ◌∷◌, ◌++◌, length, map, Option, Some, None, refl, ap, sym, ◌∙◌, subst, arith, inl, inr}
use Rattle.std.specs.Prelude.{nat_lt}
use Rattle.laws_board.proofs.Names.{leb_tells, Level, BoardDef, BoardState, Running, Shut, board_tick, clock_of, own_formats, Cmd, News, IsText, Entry, Up, Reply, Meant, commands_of, Passed, Rig, all_left, pass, slot_at, takes, takes_all, AllSound, Event, Core, Do, Step, Turn, world_after, does, after_event, run_world, takes_in, wire_text, first_state, orders, LinkState, come, turns_are_steps}
use Rattle.msg_dict.specs.declared.row.Row.TheVariants as row
use Rattle.msg_code.specs.declared.cmd.Cmd.TheVariants as cmd
use Rattle.msg_code.specs.Table.{row_of}
use Rattle.link_core.specs.Core.{numbered}
use Rattle.board_sim.specs.Rig.{new_rig}
use Rattle.board_sim.specs.Turn.{says_shut}
use Rattle.board_sim.proofs.Passing.{finishes}
use Rattle.board_sim.proofs.RigStates.{all_tick}
use Rattle.board_sim.proofs.Sound.{passes_sound, sound_regular, takes_sound}
use Rattle.board_world.specs.declared.event.Event.TheVariants as event
use Rattle.board_world.specs.Stands.{IsAnswer}
use Rattle.board_world.specs.World.{Deed, obeys, board_runs, shut_before}
use Rattle.link_work.specs.Told.{AreNews, before_replies, news_of}
use Rattle.laws_board.specs.turns.Turns.{AreBoardTurns, BoardTurn, stands_after}
use Rattle.laws_board.proofs.clocks.Answers.{Each, each_both}
use Rattle.laws_board.proofs.clocks.Replies.{AllUp, up_by, up_come, up_more}
use Rattle.laws_board.proofs.clocks.Uptimes.{none_said}
use Rattle.laws_homing.specs.home_runs.Moments.{CouldAt}
use Rattle.laws_homing.specs.home_runs.Windows.{HasAnswer}
use Rattle.laws_homing.specs.clear_groups.Early.{AreEarly, TellsBetween}
use Rattle.laws_homing.specs.switch_runs.Reading.{BringFit}
use Rattle.laws_homing.proofs.clear_boards.Standing.{tick_is}
use Rattle.laws_homing.proofs.clear_groups.Early.{TellsAll, takes_early}
use Rattle.laws_homing.proofs.clear_groups.Plain.{none_at, none_some}
use Rattle.laws_homing.proofs.home_runs.Moments.{AllDueNow, IsMoment, pass_could, pass_due, pass_tells, takes_could, takes_due}
use Rattle.laws_homing.proofs.home_runs.Spelled.{same_kind, state_told}
use Rattle.laws_homing.proofs.switch_runs.Firing.{Says}
use Rattle.laws_homing.proofs.switch_runs.Telling.{Brings, Keeps, keeps_by, keeps_turn, start_keeps, turn_keeps}

-- what a deed makes of a board, and what is told in it
record Does (r : Rig) (d : Deed) : Type 0 where
  could : (o x : ℕ) → CouldAt o x r → CouldAt o x d.board
  due : AllDueNow d.board
  grows : r.controller.tick ≤ d.board.controller.tick
  tells : Each (IsMoment (λ o x. (r.controller.tick ≤ x) × CouldAt o x d.board)) d.answers

-- commands tell of no trigger that can trigger
early_none : (P : ℕ → ℕ → Type 0) (cs : List Cmd) → AreEarly 0 0 cs → Each (IsMoment P) cs
early_none P [] k = tt
early_none P (c ∷ cs) k = (one c k.0, early_none P cs k.1)
  where
    one : (c : Cmd) → TellsBetween 0 0 c → IsMoment P c
    one (cmd.TrsyncState oid can reason clock) m = λ able. let x = m able in absurd (let l = x.2 in omega (arith, l))
    one c m = tt

all_tells : (r : Rig) (cs : List Cmd) → AllSound r → TellsAll r cs
all_tells r [] sound = tt
all_tells r (c ∷ cs) sound = (λ oid s at. (sound oid s at).told, all_tells (takes r c).rig cs (takes_sound r c sound))

all_could : (o x : ℕ) (r : Rig) (cs : List Cmd) → CouldAt o x r → CouldAt o x (takes_all r cs).rig
all_could o x r [] k = k
all_could o x r (c ∷ cs) k = all_could o x (takes r c).rig cs (takes_could o x r c k)

all_due : (r : Rig) (cs : List Cmd) → AllDueNow r → AllDueNow (takes_all r cs).rig
all_due r [] k = k
all_due r (c ∷ cs) k = all_due (takes r c).rig cs (takes_due r c k)

obeys_does : (r : Rig) (ms : List Meant) → AllSound r → AllDueNow r → Does r (obeys r ms)
obeys_does r ms sound due =
    let cs = commands_of ms in
    let tick = all_tick r cs in
    record {
      could = λ o x k. all_could o x r cs k;
      due = all_due r cs due;
      grows = omega (arith, tick);
      tells = early_none (λ o x. (r.controller.tick ≤ x) × CouldAt o x (takes_all r cs).rig) (takes_all r cs).answers (takes_early 0 0 r cs (all_tells r cs sound));
    }

shut_moments : (P : ℕ → ℕ → Type 0) (s : BoardState) (from to : ℕ) → Each (IsMoment P) (says_shut s from to)
shut_moments P Running from to = tt
shut_moments P (Shut reason tick first) from to = by (nat_lt from to)
  where
    by : (b : Bool) → Each (IsMoment P) (cond b (cmd.IsShutdown reason ∷ []) [])
    by true = (tt, tt)
    by false = tt

runs_does : (r : Rig) (t : ℕ) → AllSound r → AllDueNow r → Does r (board_runs r t)
runs_does r t sound due =
    let shut = says_shut (shut_before r.controller.state r.controller.tick) r.controller.tick t in
    let n = all_left t r.triggers + 1 in
    let At : Passed → Type 0 = λ p. Does r (record { board = p.rig; answers = p.answers ++ shut; pulses = p.pulses }) in
    let Told : Rig → ℕ → ℕ → Type 0 = λ q o x. (r.controller.tick ≤ x) × CouldAt o x q in
    let last : (q : Rig) → Each (IsMoment (Told q)) shut = λ q. shut_moments (Told q) (shut_before r.controller.state r.controller.tick) r.controller.tick t in
    let By : Bool → Type 0 = λ b. At (cond b (pass n r t) (record { rig = r; pulses = []; answers = [] })) in
    elim (leb_tells r.controller.tick t) [
      | inl p ↦
          let could : (o x : ℕ) → CouldAt o x r → CouldAt o x (pass n r t).rig = λ o x k. pass_could n o x t r sound p.1 (omega arith) k in
          let tells = pass_tells n t r sound due p.1 (omega arith) in
          let tick = finishes n r t (sound_regular r sound) p.1 (omega arith) in
          subst By (sym p.0) (record {
            could = could;
            due = pass_due n t r sound p.1 (omega arith);
            grows = (let l = p.1 in omega (arith, tick, l));
            tells = each_both (IsMoment (Told (pass n r t).rig)) (pass n r t).answers shut tells (last (pass n r t).rig);
          })
      | inr p ↦ subst By (sym p.0) (record { could = λ o x k. k; due = due; grows = omega arith; tells = last r })
    ]

event_does : (h : Core) (e : Event) → AllSound h.board → AllDueNow h.board → Does h.board (does h e)
event_does h (event.Pass t) sound due = runs_does h.board t sound due
event_does h e sound due = obeys_does h.board (takes_in h e) sound due

-- a reply that tells of a trigger that it can trigger
abbrev pub TellsAble : ℕ → Rig → Reply → Type 0
TellsAble low r reply =
    (oid can reason clock : ℕ) → IsText own_formats (cmd.TrsyncState oid can reason clock) reply.answer → (can ≡ 0 → ⊥)
    → (x : ℕ) × (low ≤ x) × CouldAt oid x r × (clock ≡ x % 2 ^ 32)

able_row : (F : ℕ → Type 0) (P : ℕ → ℕ → Type 0) (oid can reason clock : ℕ) (c : Cmd) → Says F c → IsMoment P c
    → row.TrsyncState ≡ row_of c
    → IsText own_formats (cmd.TrsyncState oid can reason clock) (wire_text c) → (can ≡ 0 → ⊥)
    → (x : ℕ) × P oid x × (clock ≡ x % 2 ^ 32)
able_row F P oid can reason clock (cmd.TrsyncState a b r k) s m e t able =
    let same = state_told a b r k oid can reason clock s.0 s.1 s.2 s.3 t in
    let y = m (λ none. able (same.1 ∙ none)) in
    (y.0, subst (λ (n : ℕ). P n y.0) (sym same.0) y.1, same.3 ∙ y.2)
able_row F P oid can reason clock c s m e t able = absurd (cc)

able_answers : (F : ℕ → Type 0) (low now : ℕ) (r : Rig) (n : ℕ) (cs : List Cmd) → low ≤ now → Each (Says F) cs
    → Each (IsMoment (λ o x. (now ≤ x) × CouldAt o x r)) cs
    → AllUp (TellsAble low r) (numbered n (map wire_text cs))
able_answers F low now r n [] l s k = tt
able_answers F low now r n (c ∷ cs) l s k = (
  λ oid can reason clock t able. (
      let x = able_row F (λ o x. (now ≤ x) × CouldAt o x r) oid can reason clock c s.0 k.0 (same_kind c (cmd.TrsyncState oid can reason clock) t) t able in
      let far = x.1.0 in (x.0, omega (arith, far, l), x.1.1, x.2)),
  able_answers F low now r n cs l s.1 k.1,
)

-- a link on which all that is under way tells so
pub record Hears (E : ℕ → (ℕ → Type 0)) (F : ℕ → Type 0) (pins : List (List Level)) (low : ℕ) (h : Core) : Type 0 where
  pub keeps : Keeps E F F pins h
  pub due : AllDueNow h.board
  pub low_so : low ≤ h.board.controller.tick
  pub told : AllUp (TellsAble low h.board) h.link.up

hears_step : (E : ℕ → (ℕ → Type 0)) (F : ℕ → Type 0) (pins : List (List Level)) (low : ℕ) (h : Core) (s : Step)
    → Brings E F F pins s → Hears E F pins low h → Hears E F pins low (world_after h s)
hears_step E F pins low h (Do e) b k =
    let one = keeps_by E F F pins h e b k.keeps in
    let d = event_does h e k.keeps.ordered.sound k.due in
    let q = (does h e).board in
    let l = k.low_so in
    let g = d.grows in
    record {
      keeps = one.0;
      due = d.due;
      low_so = omega (arith, l, g);
      told = up_by (TellsAble low q) h e (λ n oid can reason clock none able. absurd (none_said (cmd.TrsyncState oid can reason clock) none))
          (λ n is. able_answers F low h.board.controller.tick q n (does h e).answers l one.2 d.tells)
          (up_more (TellsAble low h.board) (TellsAble low q) h.link.up (λ r t oid can reason clock text able. let x = t oid can reason clock text able in (x.0, x.1, d.could oid x.0 x.2, x.3)) k.told);
    }
hears_step E F pins low h (Turn turn) b k = record { keeps = keeps_turn E F F pins h turn k.keeps; due = k.due; low_so = k.low_so; told = k.told }

-- a moment stays one
record Stays (o x : ℕ) (h : Core) : Type 0 where
  sound : AllSound h.board
  due : AllDueNow h.board
  could : CouldAt o x h.board

stays_sound : (h : Core) (e : Event) → AllSound h.board → AllSound (does h e).board
stays_sound h (event.Pass t) sound = elim (leb_tells h.board.controller.tick t) [
  | inl p ↦ passes_sound h.board t sound p.1
  | inr p ↦ subst (λ (b : Bool). AllSound (cond b (pass (all_left t h.board.triggers + 1) h.board t) (record { rig = h.board; pulses = []; answers = [] })).rig) (sym p.0) sound
]
stays_sound h e sound = all_sound h.board (commands_of (takes_in h e)) sound
  where
    all_sound : (r : Rig) (cs : List Cmd) → AllSound r → AllSound (takes_all r cs).rig
    all_sound r [] k = k
    all_sound r (c ∷ cs) k = all_sound (takes r c).rig cs (takes_sound r c k)

stays_along : (o x : ℕ) (steps : List Step) (h : Core) → Stays o x h → Stays o x (run_world steps h)
stays_along o x [] h k = k
stays_along o x (Do e ∷ steps) h k =
    let d = event_does h e k.sound k.due in
    stays_along o x steps (after_event h e) (record { sound = stays_sound h e k.sound; due = d.due; could = d.could o x k.could })
stays_along o x (Turn turn ∷ steps) h k = stays_along o x steps (world_after h (Turn turn)) (record { sound = k.sound; due = k.due; could = k.could })

-- the news of replies
first_able : (low : ℕ) (q : Rig) (r : Reply) (o : Option Cmd) (rest : List News) (oid can reason clock : ℕ)
    → TellsAble low q r → IsAnswer r o → (can ≡ 0 → ⊥)
    → (HasAnswer (cmd.TrsyncState oid can reason clock) rest → (x : ℕ) × (low ≤ x) × CouldAt oid x q × (clock ≡ x % 2 ^ 32))
    → HasAnswer (cmd.TrsyncState oid can reason clock) (news_of r o ++ rest)
    → (x : ℕ) × (low ≤ x) × CouldAt oid x q × (clock ≡ x % 2 ^ 32)
first_able low q r None rest oid can reason clock k a able more has = more has
first_able low q r (Some c) rest oid can reason clock k a able more (inl e) =
    k oid can reason clock (subst (λ (d : Cmd). IsText own_formats d r.answer) e ((a c).0 refl)) able
first_able low q r (Some c) rest oid can reason clock k a able more (inr has) = more has

able_news : (low : ℕ) (q : Rig) (rs : List Reply) (news : List News) (oid can reason clock : ℕ) → AreNews rs news
    → AllUp (TellsAble low q) rs → (can ≡ 0 → ⊥)
    → HasAnswer (cmd.TrsyncState oid can reason clock) news
    → (x : ℕ) × (low ≤ x) × CouldAt oid x q × (clock ≡ x % 2 ^ 32)
able_news low q [] news oid can reason clock are k able has = absurd (subst (HasAnswer (cmd.TrsyncState oid can reason clock)) are has)
able_news low q (r ∷ rs) news oid can reason clock are k able has =
    first_able low q r are.0 are.1 oid can reason clock k.0 are.2 able (λ later. able_news low q rs are.1 oid can reason clock are.3 k.1 able later)
    (subst (HasAnswer (cmd.TrsyncState oid can reason clock)) are.4 has)

module _ (E : ℕ → (ℕ → Type 0)) (F : ℕ → Type 0) (b : BoardDef) (pins : List (List Level)) (place : ℕ) (entries : List Entry) where
  abbrev First : LinkState
  First = first_state b pins place entries

  turn_hears : (low : ℕ) (t : BoardTurn) (before : List BoardTurn) → AreBoardTurns (clock_of b) First (t ∷ before)
      → BringFit E (λ (n : ℕ). F) pins (t ∷ before)
      → Hears E F pins low (stands_after First before).core
      → (k : Hears E F pins low t.after.core)
      × ((oid can reason clock : ℕ) → HasAnswer (cmd.TrsyncState oid can reason clock) t.state.news → (can ≡ 0 → ⊥) → (x : ℕ) × (low ≤ x) × CouldAt oid x t.after.core.board × (clock ≡ x % 2 ^ 32))
  turn_hears low t before are fit k =
      let clock = clock_of b in
      let turn = length before in
      let l2 = before_replies clock turn (orders t.control t.batch) are.0.0.resent (stands_after First before) in
      let done = turn_keeps E F F pins (Hears E F pins low) (hears_step E F pins low) clock First t before are.0 (λ x early complete. complete) fit.0 k in
      let came : t.after.core ≡ run_world (come Up turn l2.up.copies) l2.core = ap (λ (x : LinkState). x.core) are.0.0.becomes in (
        done.1,
        λ oid can reason at has able.
            let x = able_news low l2.core.board _ t.state.news oid can reason at are.0.1.news (up_come (TellsAble low l2.core.board) turn l2.up.copies l2.core done.0.told).0 able has in
            let stays = stays_along oid x.0 (come Up turn l2.up.copies) l2.core (record { sound = done.0.keeps.ordered.sound; due = done.0.due; could = x.2 }) in
            (x.0, x.1, subst (λ (y : Core). CouldAt oid x.0 y.board) (sym came) stays.could, x.3),
      )

  all_hear : (turns : List BoardTurn) → AreBoardTurns (clock_of b) First turns → BringFit E (λ (n : ℕ). F) pins turns
      → Hears E F pins 0 (stands_after First turns).core
  all_hear [] are fit = record { keeps = start_keeps E F F b pins; due = λ oid s at. absurd (none_some (slot_at (new_rig b pins) oid) s (none_at 256 oid) at); low_so = omega arith; told = tt }
  all_hear (t ∷ before) are fit = (turn_hears 0 t before are fit (all_hear before are.1 fit.1)).0

  -- from a turn on as which begins nothing is under way
  later_hear : (later past : List BoardTurn) → AreBoardTurns (clock_of b) First (later ++ past)
      → BringFit E (λ (n : ℕ). F) pins (later ++ past) → (stands_after First past).core.link.up ≡ []
      → Hears E F pins (board_tick (clock_of b) (length past)) (stands_after First (later ++ past)).core
  later_hear [] past are fit none =
      let old = all_hear past are fit in
      let tick = tick_is b pins place entries past are in
      record { keeps = old.keeps; due = old.due; low_so = omega (arith, tick); told = subst (AllUp (TellsAble (board_tick (clock_of b) (length past)) (stands_after First past).core.board)) (sym none) tt }
  later_hear (t ∷ later) past are fit none = (turn_hears (board_tick (clock_of b) (length past)) t (later ++ past) are fit (later_hear later past are.1 fit.1 none)).0

  still_could : (o x : ℕ) (later past : List BoardTurn) → AreBoardTurns (clock_of b) First (later ++ past)
      → BringFit E (λ (n : ℕ). F) pins (later ++ past) → CouldAt o x (stands_after First past).core.board
      → CouldAt o x (stands_after First (later ++ past)).core.board
  still_could o x [] past are fit k = k
  still_could o x (t ∷ later) past are fit k =
      let old = later ++ past in
      let l = stands_after First old in
      let here = still_could o x later past are.1 fit.1 k in
      let hears = all_hear old are.1 fit.1 in
      let steps = turns_are_steps (clock_of b) (length old) (orders t.control t.batch ∷ []) l t.after (t.after, are.0.0, refl) in
      subst (λ (y : Core). CouldAt o x y.board) (sym steps.1) (stays_along o x steps.0 l.core (record { sound = hears.keeps.ordered.sound; due = hears.due; could = here })).could

  -- A report that a trigger could trigger is of a moment when it could, which is not before a turn as which began nothing was under way.
  pub reports_moments : (later : List BoardTurn) (t : BoardTurn) (middle past : List BoardTurn)
      (oid can reason clock : ℕ) → AreBoardTurns (clock_of b) First (later ++ t ∷ (middle ++ past))
      → BringFit E (λ (n : ℕ). F) pins (later ++ t ∷ (middle ++ past))
      → (stands_after First past).core.link.up ≡ [] → HasAnswer (cmd.TrsyncState oid can reason clock) t.state.news
      → (can ≡ 0 → ⊥)
      → (x : ℕ) × (board_tick (clock_of b) (length past) ≤ x) × CouldAt oid x (stands_after First (later ++ t ∷ (middle ++ past))).core.board × (clock ≡ x % 2 ^ 32)
  reports_moments later t middle past oid can reason clock are fit none has able =
      let old = middle ++ past in
      let cut = cut_turns later (t ∷ old) are fit in
      let x = (turn_hears (board_tick (clock_of b) (length past)) t old cut.0 cut.1 (later_hear middle past cut.0.1 cut.1.1 none)).1 oid can reason clock has able in
      (x.0, x.1, still_could oid x.0 later (t ∷ old) are fit x.2, x.3)
    where
      cut_turns : (later past : List BoardTurn) → AreBoardTurns (clock_of b) First (later ++ past)
          → BringFit E (λ (n : ℕ). F) pins (later ++ past) → AreBoardTurns (clock_of b) First past × BringFit E (λ (n : ℕ). F) pins past
      cut_turns [] past are fit = (are, fit)
      cut_turns (u ∷ later) past are fit = cut_turns later past are.1 fit.1
