-- Between a board's homing sections its trigger reads nothing; and where a group answers that the switch of its section closed, the section's own readings triggered it.
use Rattle.std.proofs.Common.{◌≡◌, ℕ, ◌+◌, ◌-◌, ◌<◌, ◌≤◌, ◌⊎◌, inl, inr, List, [], ◌∷◌, ◌++◌, length, map, Option, Some, None, refl, ap, sym, ◌∙◌, subst, arith, append_assoc, append-nil, length-append}
use Rattle.laws_board.proofs.Names.{eqb_tells, append_cancel_left, Level, Machine, board_tick, clock_of, Clocks, IsValidMachine, axis_at, board_at, clocks_at, Sampling, Cmd, Entry, Switch, Meant, Rig, Slot, slot_at, one_slot, plain, units_orders, queued_in, first_state, orders, LinkState, trigger_of, End, Member, Fired, Homing, answer_in, by_answer, hears_all, homing_turn, members_of, Phase, Connecting, noted, Came, known_by, last_reacted, state_at, cons_same}
use Rattle.msg_code.specs.declared.cmd.Cmd.TheVariants as cmd
use Rattle.trigger_group.specs.declared.order.End.TheVariants as end
use Rattle.laws_board.specs.turns.Turns.{AreBoardTurns, BoardTurn, latest_state, stands_after}
use Rattle.laws_board.specs.clocks.Runs.{IsInRun}
use Rattle.laws_board.proofs.clocks.Lines.{as_long, noted_phase, run_before, turn_of}
use Rattle.laws_board.proofs.clocks.Turning.{goes}
use Rattle.laws_board.proofs.sections.Lists.{cuts}
use Rattle.laws_homing.specs.home_runs.Sections.{HomesFrom, IsOf, queued_in_turns}
use Rattle.laws_homing.proofs.home_runs.Knowing.{noted_none, running_now, turn_end}
use Rattle.laws_homing.proofs.home_runs.Staying.{taken_later}
use Rattle.laws_homing.specs.switch_runs.Reading.{AreFit, BringFit}
use Rattle.laws_homing.specs.switch_runs.Reports.{WasReported}
use Rattle.laws_homing.specs.switch_runs.Runs.{IsEndstop, IsReadAt}
use Rattle.laws_homing.specs.switch_runs.Taken.{AreBlind, IsBlind, IsTriggerOf}
use Rattle.laws_homing.proofs.clear_boards.Standing.{tick_is}
use Rattle.laws_homing.proofs.switch_runs.Firing.{AllTrue}
use Rattle.laws_homing.proofs.switch_runs.Ordering.{Reads, bring_fit, control_fit, fit_both, plain_fit, units_fit}
use Rattle.laws_homing.proofs.switch_runs.Made.{AnyTick, whole_after}
use Rattle.laws_homing.proofs.switch_runs.Telling.{fit_parts}
use Rattle.laws_homing.proofs.clear_groups.Known.{behind_turn}
use Rattle.laws_homing.proofs.clear_groups.Plain.{none_at, none_some}
use Rattle.laws_homing.proofs.clear_groups.Resting.{clash, next_of, some_same}
use Rattle.laws_homing.specs.missed_groups.Ticks.{IsReader}
use Rattle.laws_homing.proofs.missed_groups.Axes.{of_axis}
use Rattle.laws_homing.specs.fired_runs.Since.{AreNotAhead, AreSoInTurns, BeginsApart, IsFiredAt, ReadsSwitchTrue}
use Rattle.laws_homing.proofs.fired_runs.Blind.{NoTick, OwnAt, ReadOnce, Stands, Upon, blind_fits, blind_parts, fits_more, turns_stage}
use Rattle.laws_homing.proofs.fired_runs.Reported.{answer_told}
use Rattle.laws_homing.proofs.fired_runs.Rested.{Heard, answered_over, earlier_reads, goes_to, group_start, grows, left_of, none_stays, queue_later, rest_of, rises, run_at, same_members, same_start, switch_read, was_at}
use Rattle.laws_homing.proofs.fired_runs.Sight.{blind_both, blind_once, read_behind, read_front, reader_or_not, reads_either}
use Rattle.laws_homing.proofs.fired_runs.Under.{under_after}
use Rattle.host_reactor.proofs.Idle.{not-yet}
use Rattle.laws_homing.proofs.home_parts.Known.{answer_late}

-- a turn that goes on answers that a switch closed, if at all
closes : (k : ℕ) (h : Homing) (o : Option End) (e : End) → o ≡ Some e → (by_answer k h o).end ≡ None → (tick : ℕ) × (e ≡ end.Endstop tick)
closes k h None e is none = cc
closes k h (Some (end.Endstop tick)) e is none = (tick, cc)
closes k h (Some end.NoSwitch) e is none = cc
closes k h (Some (end.Expired board turn)) e is none = cc

-- what reads nothing
none_read : (o : Option Sampling) → ((y : Sampling) → o ≡ Some y → ⊥) → o ≡ None
none_read None f = refl
none_read (Some y) f = absurd (f y refl)

no_reading : (o : Option Sampling) (y : Sampling) → o ≡ None → o ≡ Some y → ⊥
no_reading None y e f = cc
no_reading (Some z) y e f = cc

-- all that is queued is fit
pub queued_fit : (E F : ℕ → (ℕ → Type 0)) (pins : List (List Level)) (turns : List BoardTurn) → BringFit E F pins turns → AreFit E F pins (queued_in_turns turns)
queued_fit E F pins [] fit = tt
queued_fit E F pins (t ∷ turns) fit = fit_both E F pins (queued_in_turns turns) (queued_in (orders t.control t.batch)) (queued_fit E F pins turns fit.1) fit.0

-- a command of some that begins readings stands behind what begins none, and where one at most does, between such
blind_or : (c : Cmd) → IsBlind c ⊎ (IsBlind c → ⊥)
blind_or (cmd.EndstopHome oid clock sample count rest value other reason) = inr (λ x. x)
blind_or c = inl tt

record Reads_in (ms : List Meant) : Type 0 where
  front : List Meant
  home : Meant
  rest : List Meant
  are : ms ≡ front ++ home ∷ rest
  reads : IsBlind home.command → ⊥

reads_in : (ms : List Meant) → AreBlind ms ⊎ Reads_in ms
reads_in [] = inl tt
reads_in (m ∷ ms) = elim (blind_or m.command) [
  | inr reads ↦ inr (record { front = []; home = m; rest = ms; are = refl; reads = reads })
  | inl blind ↦ elim (reads_in ms) [
    | inl all ↦ inl (blind, all)
    | inr x ↦ inr (record { front = m ∷ x.front; home = x.home; rest = x.rest; are = ap (λ (z : List Meant). m ∷ z) x.are; reads = x.reads })
  ]
]

behind_blind : (left queue xs : List Meant) (h : Meant) (ys : List Meant) → AreBlind left → (IsBlind h.command → ⊥) → left ++ queue ≡ xs ++ h ∷ ys → (q : List Meant) × (xs ≡ left ++ q) × (queue ≡ q ++ h ∷ ys)
behind_blind [] queue xs h ys blind reads e = (xs, refl, e)
behind_blind (l ∷ left) queue [] h ys blind reads e = absurd (reads (subst (λ (z : Meant). IsBlind z.command) (cons_same l h (left ++ queue) ys e).0 blind.0))
behind_blind (l ∷ left) queue (x ∷ xs) h ys blind reads e =
    let same = cons_same l x (left ++ queue) (xs ++ h ∷ ys) e in
    let more = behind_blind left queue xs h ys blind.1 reads same.1 in
    (more.0, ap (λ (z : Meant). z ∷ xs) (sym same.0) ∙ ap (λ (z : List Meant). l ∷ z) more.1, more.2)

sole_once : (xs : List Meant) (h : Meant) (ys : List Meant) → (IsBlind h.command → ⊥) → ReadOnce (xs ++ h ∷ ys) → AreBlind xs × AreBlind ys
sole_once [] h ys reads (inl blind) = (tt, blind)
sole_once [] h ys reads (inr k) = absurd (reads k.0)
sole_once (x ∷ xs) h ys reads (inl blind) = absurd (reads (blind_parts xs (h ∷ ys) blind).1.0)
sole_once (x ∷ xs) h ys reads (inr k) = let more = sole_once xs h ys reads k.1 in ((k.0, more.0), more.1)

in_front : (new others q : List Meant) (h : Meant) (rest : List Meant) → AreBlind others → (IsBlind h.command → ⊥) → new ++ others ≡ q ++ h ∷ rest → length q < length new
in_front [] others q h rest blind reads e = absurd (reads (blind_parts q (h ∷ rest) (subst AreBlind e blind)).1.0)
in_front (n ∷ new) others [] h rest blind reads e = omega arith
in_front (n ∷ new) others (x ∷ q) h rest blind reads e = let more = in_front new others q h rest blind reads (cons_same n x (new ++ others) (q ++ h ∷ rest) e).1 in omega (arith, more)

-- what comes to a board in a turn in which a section is known is fit for the section's readings
turn_fit : (m : Machine) (switches : List Switch) (pins : List (List Level)) (entries : List Entry) (b : ℕ) (c : Came) (before : List Came) (t : BoardTurn) (turns : List BoardTurn) (h : Homing) → IsInRun m switches pins entries b (c ∷ before) (t ∷ turns)
    → (noted m c.note (known_by m switches before)).homing ≡ Some h → h.start ≡ length before + 250 → AreFit (IsEndstop m b) (IsReadAt m switches pins b (h.start - 250) h.start h.axis (c ∷ before)) pins (queued_in (orders t.control t.batch))
turn_fit m switches pins entries b c before t turns h r is at =
    let x = turn_of m switches pins entries b c before t turns r in
    let known = noted m c.note (known_by m switches before) in
    let E = IsEndstop m b in
    let G : ℕ → (ℕ → Type 0) = IsReadAt m switches pins b (h.start - 250) h.start h.axis (c ∷ before) in
    let own : Clocks → Homing → Type 0 = λ lines g. Reads m pins b G lines g.start (axis_at m g.axis) in
    let reads : (g : Homing) (lines : Clocks) → known.homing ≡ Some g → lines ≡ clocks_at known.clocks b → own lines g = λ g lines is_so is_lines.
    subst (own lines) (some_same h g (sym is ∙ is_so)) (λ now tick complete. record { lines = lines; knew = inl (omega (arith, at), record { homing = h; known = is; start_is = refl; axis_is = refl; lines_are = is_lines }); complete = complete }) in
    fit_both E G pins (map plain t.control.commands) (units_orders t.batch.units)
    (plain_fit E G pins t.control.commands (control_fit m pins b (length before) G known c.states x.a (last_reacted m switches c before) t.control x.turned reads)) (units_fit E G pins t.batch.units)

module _ (m : Machine) (v : IsValidMachine m) (switches : List Switch) (pins : List (List Level)) (entries : List Entry) (b : ℕ) where
  abbrev First : LinkState
  First = first_state (board_at m b) pins b entries

  abbrev Board : List BoardTurn → Rig
  Board turns = (stands_after First turns).core.board

  abbrev Taken : List BoardTurn → List Meant
  Taken turns = (stands_after First turns).core.taken

  abbrev Oid : ℕ
  Oid = trigger_of m b

  abbrev Own : ℕ → ℕ
  Own k = board_tick (clock_of (board_at m b)) k

  abbrev Run : List Came → List BoardTurn → Type 0
  Run before turns = IsInRun m switches pins entries b before turns

  abbrev Turns : List BoardTurn → Type 0
  Turns turns = AreBoardTurns (clock_of (board_at m b)) First turns

  abbrev E : ℕ → (ℕ → Type 0)
  E = IsEndstop m b

  -- what the commands of a section have the board read, by the tick at which it takes them; and the section's trigger tick
  abbrev G : ℕ → ℕ → List Came → (ℕ → (ℕ → Type 0))
  G start axis came now tick = IsReadAt m switches pins b (start - 250) start axis came now tick

  abbrev Triggers : ℕ → ℕ → List Came → List BoardTurn → (ℕ → Type 0)
  Triggers start axis came turns tick = IsTriggerOf m switches pins entries b start axis came turns tick

  abbrev Any : ℕ → (ℕ → Type 0)
  Any now tick = Unit {0}

  abbrev None_at : ℕ → (ℕ → Type 0)
  None_at now tick = ⊥

  ticks : (turns : List BoardTurn) → Turns turns → (Board turns).controller.tick ≡ Own (length turns)
  ticks turns are = tick_is (board_at m b) pins b entries turns are

  abbrev Dark : ℕ → List BoardTurn → Type 0
  Dark n turns = OwnAt ⊥ NoTick n pins Oid (Board turns)

  -- the board's trigger reads nothing, and no command is left that has it read
  record Unread (turns : List BoardTurn) : Type 0 where
    none : (s : Slot) → slot_at (Board turns) Oid ≡ Some s → s.trigger.sampling ≡ None
    left : List Meant
    rest : Taken turns ++ left ≡ queued_in_turns turns
    blind : AreBlind left

  bring : (before : List Came) (turns : List BoardTurn) → Run before turns → BringFit E Any pins turns
  bring before turns r = bring_fit m switches pins entries b Any before turns r (λ tick k. tt)

  true_at : (before : List Came) (turns : List BoardTurn) → Run before turns → AllTrue E AnyTick AnyTick pins (Board turns)
  true_at before turns r = (whole_after E (board_at m b) pins b entries turns 0 Oid r.turns_are (omega arith) (bring before turns r)).0.board

  dark_at : (before : List Came) (turns : List BoardTurn) (n : ℕ) → Run before turns → Own (length turns) < n → ((s : Slot) → slot_at (Board turns) Oid ≡ Some s → s.trigger.sampling ≡ None) → Dark n turns
  dark_at before turns n r low none = (
    all.pins_are,
    λ oid s own at. record {
      other = (all.slots oid s at).other;
      fired = λ off one. inl (let under = under_after m switches pins entries b before turns r oid s at in omega (arith, under, low));
      sampled = λ y is. absurd (no_reading s.trigger.sampling y (none s (subst (λ (k : ℕ). slot_at (Board turns) k ≡ Some s) own at)) is);
    },
  )
    where
      all : AllTrue E AnyTick AnyTick pins (Board turns)
      all = true_at before turns r

  -- so over turns that bring no such command
  unread_on : (came : List Came) (later past : List BoardTurn) (q : List Meant) → Run came (later ++ past) → queued_in_turns (later ++ past) ≡ queued_in_turns past ++ q → AreBlind q → Unread past → Unread (later ++ past)
  unread_on came later past q r e blind k =
      let clock = clock_of (board_at m b) in
      let are = r.turns_are in
      let old = run_at m switches pins entries b came later past r in
      let took = taken_later clock First later past are in
      let now = left_of m v switches pins entries b (later ++ past) are in
      let both : took.0 ++ now.0 ≡ k.left ++ q =
      append_cancel_left (Taken past) (took.0 ++ now.0) (k.left ++ q)
      (sym (append_assoc (Taken past) took.0 now.0) ∙ ap (λ (x : List Meant). x ++ now.0) (sym took.1) ∙ now.1 ∙ e ∙ ap (λ (x : List Meant). x ++ q) (sym k.rest) ∙ append_assoc (Taken past) k.left q) in
      let all = subst AreBlind (sym both) (blind_both k.left q k.blind blind) in
      let parts = blind_parts took.0 now.0 all in
      let whole : queued_in_turns (later ++ past) ≡ Taken past ++ (took.0 ++ now.0) = sym now.1 ∙ ap (λ (x : List Meant). x ++ now.0) took.1 ∙ append_assoc (Taken past) took.0 now.0 in
      let Fits : List Meant → Type 0 = AreFit E Any pins in
      let fit = (fit_parts E Any pins took.0 now.0 (fit_parts E Any pins (Taken past) (took.0 ++ now.0) (subst Fits whole (queued_fit E Any pins (later ++ past) (bring came (later ++ past) r)))).1).0 in
      let most = Own (length past) + 1 in
      let none_reads : Upon ⊥ E None_at NoTick most pins Oid clock First later past took.0 = λ l u e front taken back cut is a c.
      inl (blind_parts taken back (blind_parts front (taken ++ back) (subst AreBlind is parts.0)).1).0 in
      let stands = turns_stage ⊥ E None_at NoTick most pins Oid clock First later past took.0 now.0 ticks are took.1 none_reads (blind_fits E Any None_at pins took.0 parts.0 fit)
      (true_at old.0 past old.1, inl (all, dark_at old.0 past most old.1 (omega arith) k.none)) in
      record {
        none = λ s at. elim stands.1 [ inl x ↦ none_read s.trigger.sampling (λ y is. ((x.1.1 Oid s refl at).sampled y is).0) | inr x ↦ absurd x.0 ];
        left = now.0;
        rest = now.1;
        blind = parts.1;
      }

  -- a section that has the board read, from the turn on in which that is ordered
  record Window (before : List Came) (o : Option Homing) (turns : List BoardTurn) : Type 0 where
    homing : Homing
    known : o ≡ Some homing
    together : homing.group.start ≡ homing.start
    soon : homing.start ≤ length before + 249
    reads : IsReader b (members_of homing.group)
    later : List BoardTurn
    early : List BoardTurn
    are : turns ≡ later ++ early
    at : length early + 250 ≡ homing.start
    unread : Unread early
    up : List BoardTurn
    order : BoardTurn
    later_is : later ≡ up ++ order ∷ []
    queue : List Meant
    queue_is : queued_in_turns turns ≡ queued_in_turns early ++ queue
    others : List Meant
    others_are : queue ≡ queued_in (orders order.control order.batch) ++ others
    blind : AreBlind others
    once : ReadOnce queue
    fit : AreFit E (G homing.start homing.axis before) pins queue
    since : HomesFrom m switches (length early) homing.start (members_of homing.group) before

  -- the turn in which readings had triggered the trigger
  module _ (before : List Came) (o : Option Homing) (turns : List BoardTurn) (r : Run before turns) (u : Window before o turns) (tick : ℕ) (late : Own (u.homing.start - 1) ≤ tick) (l x : List BoardTurn) (same : turns ≡ l ++ x)
      (f : IsFiredAt Oid 1 tick (Board x)) where
    abbrev N : ℕ
    N = Own (u.homing.start - 1)

    abbrev F : ℕ → (ℕ → Type 0)
    F = G u.homing.start u.homing.axis before

    abbrev Here : ℕ → Type 0
    Here = Triggers u.homing.start u.homing.axis before turns

    first_early : Own (length u.early) < N
    first_early =
        let at = u.at in
        let up = rises m v switches pins entries b r.board (length u.early) in
        let on = grows m v switches pins entries b (length u.early + 1) (u.homing.start - 1) (omega (arith, at)) in
        omega (arith, up, on)

    run_x : Run before (l ++ x)
    run_x = subst (Run before) same r

    own_x : (came : List Came) × Run came x
    own_x = run_at m switches pins entries b before l x run_x

    run_early : (came : List Came) × Run came u.early
    run_early = run_at m switches pins entries b before u.later u.early (subst (Run before) u.are r)

    not_early : (k : List BoardTurn) → u.early ≡ k ++ x → ⊥
    not_early k e =
        let low = under_after m switches pins entries b own_x.0 x own_x.1 Oid f.slot f.is in
        let size : length u.early ≡ length (k ++ x) = ap (λ (z : List BoardTurn). length z) e in
        let more = longer k x in
        let on = grows m v switches pins entries b (length x) (length u.early) (omega (arith, size, more)) in
        let up = first_early in
        let at = f.at in
        omega (arith, low, on, up, at, late)
      where
        longer : (xs ys : List BoardTurn) → length ys ≤ length (xs ++ ys)
        longer [] ys = omega arith
        longer (y ∷ xs) ys = let e = longer xs ys in omega (arith, e)

    module _ (w : List BoardTurn) (x_is : x ≡ w ++ u.early) where
      are_x : Turns (w ++ u.early)
      are_x = subst Turns x_is own_x.1.turns_are

      q1 : (q : List Meant) × (queued_in_turns (l ++ x) ≡ queued_in_turns x ++ q)
      q1 = queue_later l x

      lx : (left : List Meant) × (Taken x ++ left ≡ queued_in_turns x)
      lx = left_of m v switches pins entries b x own_x.1.turns_are

      ms : (ms : List Meant) × (Taken (w ++ u.early) ≡ Taken u.early ++ ms)
      ms = taken_later (clock_of (board_at m b)) First w u.early are_x

      abbrev Behind : List Meant
      Behind = lx.0 ++ q1.0

      both : ms.0 ++ Behind ≡ u.unread.left ++ u.queue
      both =
          append_cancel_left (Taken u.early) (ms.0 ++ Behind) (u.unread.left ++ u.queue)
          (sym (append_assoc (Taken u.early) ms.0 Behind) ∙ ap (λ (z : List Meant). z ++ Behind) (sym ms.1) ∙ ap (λ (z : List BoardTurn). Taken z ++ Behind) (sym x_is) ∙ sym (append_assoc (Taken x) lx.0 q1.0)
          ∙ ap (λ (z : List Meant). z ++ q1.0) lx.1 ∙ sym q1.1 ∙ ap queued_in_turns (sym same) ∙ u.queue_is ∙ ap (λ (z : List Meant). z ++ u.queue) (sym u.unread.rest) ∙ append_assoc (Taken u.early) u.unread.left u.queue)

      fit_left : AreFit E F pins u.unread.left
      fit_left =
          let Fits : List Meant → Type 0 = AreFit E Any pins in
          blind_fits E Any F pins u.unread.left u.unread.blind
          (fit_parts E Any pins (Taken u.early) u.unread.left (subst Fits (sym u.unread.rest) (queued_fit E Any pins u.early (bring run_early.0 u.early run_early.1)))).1

      fit_all : AreFit E F pins (ms.0 ++ Behind)
      fit_all = subst (λ (z : List Meant). AreFit E F pins z) (sym both) (fit_both E F pins u.unread.left u.queue fit_left u.fit)

      -- where the board takes the command in a turn it does so as that begins
      upon : Upon (Unit {0}) E F Here N pins Oid (clock_of (board_at m b)) First w u.early ms.0
      upon l2 t e front took back cut is was_taken now_taken = elim (reads_in took) [
        | inl blind ↦ inl blind
        | inr k ↦
            let rest = k.rest ++ (back ++ Behind) in
            let past = e ++ u.early in
            let whole : u.unread.left ++ u.queue ≡ (front ++ k.front) ++ k.home ∷ rest =
            sym both ∙ ap (λ (z : List Meant). z ++ Behind) is ∙ append_assoc front (took ++ back) Behind
            ∙ ap (λ (z : List Meant). front ++ z) (append_assoc took back Behind ∙ ap (λ (z : List Meant). z ++ (back ++ Behind)) k.are ∙ append_assoc k.front (k.home ∷ k.rest) (back ++ Behind))
            ∙ sym (append_assoc front k.front (k.home ∷ rest)) in
            let q = behind_blind u.unread.left u.queue (front ++ k.front) k.home rest u.unread.blind k.reads whole in
            let sole = sole_once q.0 k.home rest k.reads (subst ReadOnce q.2 u.once) in
            let n_old = ap length was_taken ∙ length-append (Taken u.early) front in
            let n_new = ap length now_taken ∙ length-append (Taken past) took in
            let n_took = ap length k.are ∙ length-append k.front (k.home ∷ k.rest) in
            let n_front = sym (length-append front k.front) ∙ ap length q.1 ∙ length-append u.unread.left q.0 in
            let n_queue = length-append (queued_in_turns u.early) q.0 in
            let n_early = ap length (sym u.unread.rest) ∙ length-append (Taken u.early) u.unread.left in
            let new = queued_in (orders u.order.control u.order.batch) in
            let n_new_front = in_front new u.others q.0 k.home rest u.blind k.reads (sym u.others_are ∙ q.2) in
            let n_ordered = length-append (queued_in_turns u.early) new in
            inr (λ y read. record {
              turn = length past;
              took = record {
                up = u.up;
                order = u.order;
                early = u.early;
                ordered_in = u.are ∙ ap (λ (z : List BoardTurn). z ++ u.early) u.later_is ∙ append_assoc u.up (u.order ∷ []) u.early;
                set_up = u.at;
                front = q.0;
                home = k.home;
                rest = rest;
                queue = u.queue_is ∙ ap (λ (z : List Meant). queued_in_turns u.early ++ z) q.2;
                ordered = omega (arith, n_new_front, n_ordered, n_queue);
                reads = k.reads;
                sole = sole;
                later = l ++ l2;
                took = t;
                since = e;
                taken_in = same ∙ ap (λ (z : List BoardTurn). l ++ z) (x_is ∙ ap (λ (z : List BoardTurn). z ++ u.early) cut ∙ append_assoc l2 (t ∷ e) u.early) ∙ sym (append_assoc l l2 (t ∷ past));
                at = refl;
                not_yet = omega (arith, n_old, n_front, n_queue, n_early);
                taken = omega (arith, n_old, n_new, n_took, n_front, n_queue, n_early);
              };
              read = read;
            })
      ]

      stands : Stands (Unit {0}) E F Here N pins Oid Behind (Board x)
      stands =
          subst (λ (z : List BoardTurn). Stands (Unit {0}) E F Here N pins Oid Behind (Board z)) (sym x_is)
          (turns_stage (Unit {0}) E F Here N pins Oid (clock_of (board_at m b)) First w u.early ms.0 Behind ticks are_x ms.1 upon (fit_parts E F pins ms.0 Behind fit_all).0
          (true_at run_early.0 u.early run_early.1, inr (tt, (subst ReadOnce (sym both) (read_behind u.unread.left u.queue u.unread.blind u.once), dark_at run_early.0 u.early N run_early.1 first_early u.unread.none))))

      own_here : (AreBlind Behind × (f.slot.trigger.sampling ≡ None)) × Here tick
      own_here = elim stands.1 [
        | inl k ↦
            let at = f.at in
            elim ((k.1.1 Oid f.slot refl f.is).fired f.fired f.why) [ inl early ↦ absurd (omega (arith, early, at, late)) | inr own ↦ ((k.0, own.0), subst Here f.at own.1) ]
        | inr k ↦
            let at = f.at in
            elim ((k.1.1.1 Oid f.slot refl f.is).fired f.fired f.why) [ inl early ↦ absurd (omega (arith, early, at, late)) | inr none ↦ absurd none.1 ]
      ]

      unread_here : Unread turns
      unread_here =
          let parts = blind_parts lx.0 q1.0 own_here.0.0 in
          let here : Unread x = record {
            none = λ s at. subst (λ (z : Slot). z.trigger.sampling ≡ None) (one_slot (slot_at (Board x) Oid) f.slot s f.is at) own_here.0.1;
            left = lx.0;
            rest = lx.1;
            blind = parts.0;
          } in
          subst Unread (sym same) (unread_on before l x q1.0 run_x q1.1 parts.1 here)

    own_reading : Unread turns × Here tick
    own_reading = elim (cuts u.later u.early l x (sym u.are ∙ same)) [
      | inl p ↦ absurd (not_early p.0 p.2)
      | inr p ↦ (unread_here (p.0 ∷ p.1) p.3, (own_here (p.0 ∷ p.1) p.3).1)
    ]

  -- the section that is known has not begun to have the board read
  abbrev Ahead : ℕ → Phase → Option Homing → Type 0
  Ahead turn p o = (h : Homing) → o ≡ Some h → (p ≡ Connecting → ⊥) × (IsReader b (members_of h.group) → turn + 250 ≤ h.start)

  abbrev Way : List Came → List BoardTurn → Type 0
  Way before turns =
      (Unread turns × Ahead (length before) (known_by m switches before).phase (known_by m switches before).homing)
      ⊎ (((known_by m switches before).phase ≡ Connecting → ⊥) × Window before (known_by m switches before).homing turns)

  -- a section that is known answers that its switch closed
  answers_read : (c : Came) (before : List Came) (turns : List BoardTurn) → Run before turns → state_at b c.states ≡ latest_state turns → AreSoInTurns (ReadsSwitchTrue m switches b) (c ∷ before) turns → AreNotAhead m switches b (c ∷ before)
      → ((noted m c.note (known_by m switches before)).phase ≡ Connecting → ⊥) → (u : Window before (known_by m switches before).homing turns) → (noted m c.note (known_by m switches before)).homing ≡ Some u.homing → (tick : ℕ)
      → answer_in (length before) u.homing.start (hears_all (noted m c.note (known_by m switches before)).clocks c.states u.homing).group ≡ Some (end.Endstop tick) → Unread turns × Triggers u.homing.start u.homing.axis before turns tick
  answers_read c before turns r latest reads behind open_it u still tick ends =
      let h = u.homing in
      let ms = members_of h.group in
      let told = answer_told m switches c before h tick r.goes_on still ends in
      let f : Fired = record { reason = 1; tick = tick; turn = told.0 } in
      let board = (of_axis m switches c before r.goes_on h still).0 b u.reads in
      let open_past : (known_by m switches before).phase ≡ Connecting → ⊥ = λ p. open_it (noted_phase m c.note (known_by m switches before) ∙ p) in
      let now : IsOf h.start ms (noted m c.note (known_by m switches before)).homing = subst (λ (o : Option Homing). IsOf h.start ms o) (sym still) (refl, u.together, refl) in
      let homes : HomesFrom m switches (length u.early) h.start ms (c ∷ before) = (λ l. (open_past, now), u.since) in
      let at = u.at in
      let read = switch_read m switches pins entries b (length u.early) h.start ms f c before turns r latest homes (omega (arith, at)) u.reads refl reads behind (subst (λ (k : ℕ). WasReported m switches k h.start f (c ∷ before)) board told.1) in
      let x = was_at First Oid 1 tick turns read.was in
      own_reading before (known_by m switches before).homing turns r u tick read.late x.0 x.1 x.2 x.3

  module _ (d : Came) (past : List Came) (t : BoardTurn) (turns : List BoardTurn) (now : Run (d ∷ past) (t ∷ turns)) (apart : BeginsApart m switches (d ∷ past)) where
    abbrev K : ℕ
    K = length past

    abbrev New : List Meant
    New = queued_in (orders t.control t.batch)

    abbrev Hears : Homing → Homing
    Hears h = Heard m v switches pins entries b d past t turns now apart h

    was : Run past turns
    was = run_before m switches pins entries b d past t turns now

    long : K ≡ length turns
    long = as_long m switches b past turns was.both

    rest_unread : AreBlind New → Unread turns → Unread (t ∷ turns)
    rest_unread blind k = unread_on (d ∷ past) (t ∷ []) turns New now refl blind k

    grown : (start axis now tick : ℕ) → G start axis past now tick → G start axis (d ∷ past) now tick
    grown start axis now tick k = record { lines = k.lines; knew = inr k.knew; complete = k.complete }

    -- under way, where it is known and doesn't answer
    goes_way : (h : Homing) → (noted m d.note (known_by m switches past)).homing ≡ Some h → ((noted m d.note (known_by m switches past)).phase ≡ Connecting → ⊥) → h.group.start ≡ h.start → h.start ≤ K + 250 → IsReader b (members_of h.group)
        → (later early : List BoardTurn) → t ∷ turns ≡ later ++ early → length early + 250 ≡ h.start → Unread early → (up : List BoardTurn) (order : BoardTurn) → later ≡ up ++ order ∷ []
        → (q : List Meant) → queued_in_turns (t ∷ turns) ≡ queued_in_turns early ++ q → (others : List Meant) → q ≡ queued_in (orders order.control order.batch) ++ others → AreBlind others → ReadOnce q → AreFit E (G h.start h.axis (d ∷ past)) pins q
        → HomesFrom m switches (length early) h.start (members_of h.group) past → answer_in K h.start (Hears h).group ≡ None → Way (d ∷ past) (t ∷ turns)
    goes_way h is open_it together soon reads later early are at unread up order later_is q queue others others_are blind once fit since none =
        let n = noted m d.note (known_by m switches past) in
        let ms = members_of h.group in
        let members = same_members m v switches pins entries b d past t turns now apart h in
        let open_past : (known_by m switches past).phase ≡ Connecting → ⊥ = λ e. open_it (noted_phase m d.note (known_by m switches past) ∙ e) in
        let here : IsOf h.start ms n.homing = subst (λ (o : Option Homing). IsOf h.start ms o) (sym is) (refl, together, refl) in
        let homes : HomesFrom m switches (length early) h.start ms (d ∷ past) = (λ l. (open_past, here), since) in
        inr (
          (next_of m switches d past now.goes_on open_it).phase,
          record {
            homing = behind_turn (Hears h) K;
            known = goes_to m v switches pins entries b d past t turns now apart h is open_it none;
            together = same_start m v switches pins entries b d past t turns now apart h together;
            soon = omega (arith, soon);
            reads = subst (IsReader b) (sym members) reads;
            later = later;
            early = early;
            are = are;
            at = at;
            unread = unread;
            up = up;
            order = order;
            later_is = later_is;
            queue = q;
            queue_is = queue;
            others = others;
            others_are = others_are;
            blind = blind;
            once = once;
            fit = fit;
            since = subst (λ (l : List Member). HomesFrom m switches (length early) h.start l (d ∷ past)) (sym members) homes;
          },
        )

    -- where no reading begins
    blind_new : ((h : Homing) → (noted m d.note (known_by m switches past)).homing ≡ Some h → IsReader b (members_of h.group) → h.start ≡ K + 250 → ⊥) → AreBlind New
    blind_new none = elim (reads_either m switches pins entries b d past t turns now) [
      | inl blind ↦ blind
      | inr x ↦ absurd (let s = x.1.1 in let begins = group_start m v switches pins entries b d past t turns now apart s.homing s.known in let at = s.at in none s.homing s.known s.reads (omega (arith, begins, at)))
    ]

    ahead_on : ((h : Homing) → (noted m d.note (known_by m switches past)).homing ≡ Some h → IsReader b (members_of h.group) → h.start ≡ K + 250 → ⊥)
        → Ahead K (noted m d.note (known_by m switches past)).phase (noted m d.note (known_by m switches past)).homing → Ahead (length (d ∷ past)) (known_by m switches (d ∷ past)).phase (known_by m switches (d ∷ past)).homing
    ahead_on none ahead g is = by (noted m d.note (known_by m switches past)).homing refl
      where
        by : (o : Option Homing) → (noted m d.note (known_by m switches past)).homing ≡ o
            → ((known_by m switches (d ∷ past)).phase ≡ Connecting → ⊥) × (IsReader b (members_of g.group) → length (d ∷ past) + 250 ≤ g.start)
        by None e = absurd (clash (known_by m switches (d ∷ past)).homing g (none_stays m v switches pins entries b d past t turns now apart e) is)
        by (Some h) e = go (answer_in K h.start (Hears h).group) refl
          where
            open_it : (noted m d.note (known_by m switches past)).phase ≡ Connecting → ⊥
            open_it = (ahead h e).0

            go : (o : Option End) → answer_in K h.start (Hears h).group ≡ o
                → ((known_by m switches (d ∷ past)).phase ≡ Connecting → ⊥) × (IsReader b (members_of g.group) → length (d ∷ past) + 250 ≤ g.start)
            go None ends =
                let same : behind_turn (Hears h) K ≡ g = some_same (behind_turn (Hears h) K) g (sym (goes_to m v switches pins entries b d past t turns now apart h e open_it ends) ∙ is) in (
                  (next_of m switches d past now.goes_on open_it).phase,
                  λ reads.
                      (let own : IsReader b (members_of h.group) = subst (IsReader b) (ap (λ (z : Homing). members_of z.group) (sym same) ∙ same_members m v switches pins entries b d past t turns now apart h) reads in
                      let far = (ahead h e).1 own in
                      let start : h.start ≡ g.start = ap (λ (z : Homing). z.start) same in
                      elim (eqb_tells h.start (K + 250)) [ inl p ↦ absurd (none h e own p.1) | inr p ↦ let other = p.1 in grind (arith, other, far, start) ]),
                )
            go (Some e2) ends = absurd (clash (known_by m switches (d ∷ past)).homing g (answered_over m v switches pins entries b d past t turns now apart h e open_it e2 ends) is)

    idle_way : Unread turns → Ahead K (noted m d.note (known_by m switches past)).phase (noted m d.note (known_by m switches past)).homing
        → ((h : Homing) → (noted m d.note (known_by m switches past)).homing ≡ Some h → IsReader b (members_of h.group) → h.start ≡ K + 250 → ⊥) → Way (d ∷ past) (t ∷ turns)
    idle_way rest ahead none = inl (rest_unread (blind_new none) rest, ahead_on none ahead)

    -- where it begins
    start_way : Unread turns → (h : Homing) → (noted m d.note (known_by m switches past)).homing ≡ Some h → ((noted m d.note (known_by m switches past)).phase ≡ Connecting → ⊥) → IsReader b (members_of h.group) → h.start ≡ K + 250
        → Way (d ∷ past) (t ∷ turns)
    start_way rest h is open_it reads at =
        let together = group_start m v switches pins entries b d past t turns now apart h is in
        let size = long in
        let once : ReadOnce New = elim (reads_either m switches pins entries b d past t turns now) [ inl blind ↦ blind_once New blind | inr x ↦ x.0 ] in
        let fit = turn_fit m switches pins entries b d past t turns h now is at in
        goes_way h is open_it together (omega (arith, at)) reads (t ∷ []) turns refl (omega (arith, at, size)) rest [] t refl New refl [] (sym (append-nil New)) tt once fit (homes_none past (omega (arith, size))) (not-yet K h.start (Hears h).group (omega (arith, at)))
      where
        homes_none : (came : List Came) → length came ≤ length turns → HomesFrom m switches (length turns) h.start (members_of h.group) came
        homes_none [] l = tt
        homes_none (c ∷ before) l = (λ late. absurd (omega (arith, l, late)), homes_none before (omega (arith, l)))

    step : AreSoInTurns (ReadsSwitchTrue m switches b) (d ∷ past) turns → AreNotAhead m switches b (d ∷ past) → Way past turns → Way (d ∷ past) (t ∷ turns)
    step reads behind (inl (rest, ahead)) =
        let known = known_by m switches past in
        let n = noted m d.note known in
        let ahead_now : Ahead K n.phase n.homing = λ h is. elim apart.0 [
          | inl none ↦ (let x = ahead h (sym (noted_none m d.note known none) ∙ is) in (λ e. x.0 (sym (noted_phase m d.note known) ∙ e), x.1))
          | inr x ↦ (let y = x.1 h is in let far = y.1 in (λ e. y.0 (sym (noted_phase m d.note known) ∙ e), λ reads_so. omega (arith, far)))
        ] in
        by n.homing refl ahead_now
      where
        by : (o : Option Homing) → (noted m d.note (known_by m switches past)).homing ≡ o → Ahead K (noted m d.note (known_by m switches past)).phase (noted m d.note (known_by m switches past)).homing → Way (d ∷ past) (t ∷ turns)
        by None e now_ahead = idle_way rest now_ahead (λ h is. absurd (clash (noted m d.note (known_by m switches past)).homing h e is))
        by (Some h) e now_ahead =
            let same = λ (g : Homing). λ (is : (noted m d.note (known_by m switches past)).homing ≡ Some g). some_same g h (sym is ∙ e) in
            elim (reader_or_not b (members_of h.group)) [
              | inl own ↦ elim (eqb_tells h.start (K + 250)) [
                | inl p ↦ start_way rest h e (now_ahead h e).0 own p.1
                | inr p ↦ idle_way rest now_ahead (λ g is other at. p.1 (ap (λ (z : Homing). z.start) (sym (same g is)) ∙ at))
              ]
              | inr not_own ↦ idle_way rest now_ahead (λ g is other at. not_own (subst (λ (z : Homing). IsReader b (members_of z.group)) (same g is) other))
            ]
    step reads behind (inr (open_past, u)) =
        let known = known_by m switches past in
        let n = noted m d.note known in
        let h = u.homing in
        let still : n.homing ≡ Some h = elim apart.0 [ inl none ↦ noted_none m d.note known none ∙ u.known | inr begun_now ↦ absurd (clash known.homing h begun_now.0 u.known) ] in
        let open_it : n.phase ≡ Connecting → ⊥ = λ e. open_past (sym (noted_phase m d.note known) ∙ e) in
        let soon = u.soon in
        let blind = blind_new (λ g is own at. (let same = some_same g h (sym is ∙ still) in let e : h.start ≡ K + 250 = ap (λ (z : Homing). z.start) (sym same) ∙ at in omega (arith, e, soon))) in
        by blind still open_it (answer_in K h.start (Hears h).group) refl
      where
        by : AreBlind New → (noted m d.note (known_by m switches past)).homing ≡ Some u.homing → ((noted m d.note (known_by m switches past)).phase ≡ Connecting → ⊥) → (o : Option End)
            → answer_in K u.homing.start (Hears u.homing).group ≡ o → Way (d ∷ past) (t ∷ turns)
        by blind still open_it None e =
            let soon = u.soon in
            let h = u.homing in
            let fresh = blind_fits E Any (G h.start h.axis (d ∷ past)) pins New blind (bring (d ∷ past) (t ∷ turns) now).0 in
            goes_way h still open_it u.together (omega (arith, soon)) u.reads (t ∷ u.later) u.early (ap (λ (z : List BoardTurn). t ∷ z) u.are) u.at u.unread (t ∷ u.up) u.order (ap (λ (z : List BoardTurn). t ∷ z) u.later_is) (u.queue ++ New)
            (ap (λ (z : List Meant). z ++ New) u.queue_is ∙ append_assoc (queued_in_turns u.early) u.queue New) (u.others ++ New)
            (ap (λ (z : List Meant). z ++ New) u.others_are ∙ append_assoc (queued_in (orders u.order.control u.order.batch)) u.others New) (blind_both u.others New u.blind blind) (read_front u.queue New u.once blind)
            (fit_both E (G h.start h.axis (d ∷ past)) pins u.queue New (fits_more E (G h.start h.axis past) (G h.start h.axis (d ∷ past)) pins (grown h.start h.axis) u.queue u.fit) fresh) u.since e
        by blind still open_it (Some e) ends =
            let known = known_by m switches past in
            let n = noted m d.note known in
            let g = running_now m n K d.states (last_reacted m switches d past) (goes m switches known K d.states d.note now.goes_on.0) open_it in
            let over = turn_end m switches known K d.states d.note g.phase now.goes_on.0 in
            let heard = hears_all n.clocks d.states u.homing in
            let close = closes K heard (answer_in K heard.start heard.group) e ends (subst (λ (o : Option Homing). (homing_turn n.clocks K d.states o).end ≡ None) still over) in
            let done = answers_read d past turns was now.both.0 reads behind open_it u still close.0 (ends ∙ ap Some close.1) in
            inl (rest_unread blind done.0, λ h is. absurd (clash (known_by m switches (d ∷ past)).homing h (answered_over m v switches pins entries b d past t turns now apart u.homing still open_it e ends) is))

  -- a whole run
  first_unread : Unread []
  first_unread = record { none = λ s at. absurd (none_some (slot_at (Board []) Oid) s (none_at 256 Oid) at); left = []; rest = refl; blind = tt }

  first_ahead : Ahead 0 (known_by m switches []).phase (known_by m switches []).homing
  first_ahead h is = absurd (clash (known_by m switches []).homing h refl is)

  all_way : (before : List Came) (turns : List BoardTurn) → Run before turns → BeginsApart m switches before → AreSoInTurns (ReadsSwitchTrue m switches b) before (rest_of m v switches pins entries b turns) → AreNotAhead m switches b before → Way before turns
  all_way [] [] r apart reads behind = inl (first_unread, first_ahead)
  all_way [] (t ∷ turns) r apart reads behind = absurd r.both
  all_way (d ∷ past) [] r apart reads behind = absurd r.both
  all_way (d ∷ past) (t ∷ turns) r apart reads behind =
      let was_so = run_before m switches pins entries b d past t turns r in
      step d past t turns r apart reads behind (all_way past turns was_so apart.1 (earlier_reads m v switches pins entries b (ReadsSwitchTrue m switches b) d past turns was_so reads) behind.1)

  pub answered_read : (c : Came) (before : List Came) (turns : List BoardTurn) (h : Homing) (tick : ℕ) → Run before turns → state_at b c.states ≡ latest_state turns → BeginsApart m switches (c ∷ before) → AreSoInTurns (ReadsSwitchTrue m switches b) (c ∷ before) turns
      → AreNotAhead m switches b (c ∷ before) → (noted m c.note (known_by m switches before)).homing ≡ Some h → (axis_at m h.axis).board ≡ b
      → answer_in (length before) h.start (hears_all (noted m c.note (known_by m switches before)).clocks c.states h).group ≡ Some (end.Endstop tick) → IsTriggerOf m switches pins entries b h.start h.axis before turns tick
  answered_read c before turns h tick r latest apart reads behind is on ends =
      let known = known_by m switches before in
      let n = noted m c.note known in
      let late = answer_late (length before) h.start (hears_all n.clocks c.states h).group (end.Endstop tick) ends in
      let own : IsReader b (members_of h.group) = subst (λ (k : ℕ). IsReader k (members_of h.group)) on ((of_axis m switches c before r.goes_on h is).1 (subst (λ (k : ℕ). k < length m.boards) (sym on) r.board)) in
      elim (all_way before turns r apart.1 (earlier_reads m v switches pins entries b (ReadsSwitchTrue m switches b) c before turns r reads) behind.1) [
        | inl x ↦ elim apart.0 [
          | inl none ↦ (let far = (x.1 h (sym (noted_none m c.note known none) ∙ is)).1 own in absurd (omega (arith, far, late)))
          | inr begun_now ↦ (let far = (begun_now.1 h is).1 in absurd (omega (arith, far, late)))
        ]
        | inr x ↦
            let u = x.1 in
            let still : n.homing ≡ Some u.homing = elim apart.0 [ inl none ↦ noted_none m c.note known none ∙ u.known | inr begun_now ↦ absurd (clash known.homing u.homing begun_now.0 u.known) ] in
            let same : u.homing ≡ h = some_same u.homing h (sym still ∙ is) in
            let own_ends : answer_in (length before) u.homing.start (hears_all n.clocks c.states u.homing).group ≡ Some (end.Endstop tick) =
            subst (λ (g : Homing). answer_in (length before) g.start (hears_all n.clocks c.states g).group ≡ Some (end.Endstop tick)) (sym same) ends in
            subst (λ (g : Homing). IsTriggerOf m switches pins entries b g.start g.axis before turns tick) same
            (answers_read c before turns r latest reads behind (λ p. x.0 (sym (noted_phase m c.note known) ∙ p)) u still tick own_ends).1
      ]

  -- in a turn by which a section that is known has begun no readings its trigger reads nothing, and no command is left that has it read
  pub unread_before : (c : Came) (before : List Came) (turns : List BoardTurn) (h : Homing) → Run before turns → BeginsApart m switches (c ∷ before) → AreSoInTurns (ReadsSwitchTrue m switches b) before (rest_of m v switches pins entries b turns)
      → AreNotAhead m switches b before → (noted m c.note (known_by m switches before)).homing ≡ Some h → length before + 250 ≤ h.start
      → ((s : Slot) → slot_at (Board turns) Oid ≡ Some s → s.trigger.sampling ≡ None) × ((left : List Meant) × (Taken turns ++ left ≡ queued_in_turns turns) × AreBlind left)
  unread_before c before turns h r apart reads behind is far = elim (all_way before turns r apart.1 reads behind) [
    | inl x ↦ (let u = x.0 in (u.none, (u.left, u.rest, u.blind)))
    | inr x ↦
        let known = known_by m switches before in
        let u = x.1 in
        let still : (noted m c.note known).homing ≡ Some u.homing = elim apart.0 [ inl none ↦ noted_none m c.note known none ∙ u.known | inr begun_now ↦ absurd (clash known.homing u.homing begun_now.0 u.known) ] in
        let same = ap (λ (z : Homing). z.start) (some_same u.homing h (sym still ∙ is)) in
        let soon = u.soon in
        absurd (omega (arith, same, soon, far))
  ]
