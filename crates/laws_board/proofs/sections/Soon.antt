-- Units that are taken soon are taken in time for the 32-bit clock.
use Rattle.std.proofs.Common.{◌≡◌, ℕ, ◌≤◌, List, [], ◌∷◌, ◌++◌, length, drop, refl, ap, sym, ◌∙◌, subst, arith, append_assoc, append-nil, rules}
use Rattle.laws_board.proofs.Names.{take-append-drop, append_cancel_left, Cmd, Meant, Event, IsOrdered, Core, Step, Do, Turn, takes_in, after_event, in_turn, run_world}
use Rattle.msg_code.specs.declared.cmd.Cmd.TheVariants as cmd
use Rattle.board_world.specs.declared.event.Event.TheVariants.{Put, Control, Arrive, Repeat, Pass}
use Rattle.board_world.specs.World.{orders_of}
use Rattle.board_world.proofs.Runs.{ordered_by, ordered_turn}
use Rattle.link_work.proofs.Steps.{tick_held}
use Rattle.laws_board.specs.sections.Events.{AreQuiet}
use Rattle.laws_board.specs.sections.Timely.{AreTimely, IsTimely, AllTimely}

-- what is timely at a tick was so before, and so are parts of it
pub one_before : (now t : ℕ) (c : Cmd) (ticks : List ℕ) → now ≤ t → IsTimely t c ticks → IsTimely now c ticks
one_before now t (cmd.QueueStep oid interval count add) ticks h a = omega (arith, h, a)
one_before now t _ ticks h a = tt

pub all_before : (now t : ℕ) (ms : List Meant) → now ≤ t → AreTimely t ms → AreTimely now ms
all_before now t [] h a = tt
all_before now t (m ∷ ms) h a = (one_before now t m.command m.ticks h a.0, all_before now t ms h a.1)

pub timely_append : (t : ℕ) (ms ns : List Meant) → AreTimely t ms → AreTimely t ns → AreTimely t (ms ++ ns)
timely_append t [] ns a b = b
timely_append t (m ∷ ms) ns a b = (a.0, timely_append t ms ns a.1 b)

pub part_front : (t : ℕ) (ms ns : List Meant) → AreTimely t (ms ++ ns) → AreTimely t ms
part_front t [] ns a = tt
part_front t (m ∷ ms) ns a = (a.0, part_front t ms ns a.1)

part_behind : (t : ℕ) (ms ns : List Meant) → AreTimely t (ms ++ ns) → AreTimely t ns
part_behind t [] ns a = a
part_behind t (m ∷ ms) ns a = part_behind t ms ns a.1

-- A board that took the first commands, of all that is queued by the end of a turn, where the others are timely up to a tick.
pub record IsSoon (t : ℕ) (first all : List Meant) (h : Core) : Type 0 where
  pub ordered : IsOrdered h
  pub more : List Meant
  pub took : h.taken ≡ first ++ more
  pub rest : List Meant
  pub all_is : h.queued ++ rest ≡ all
  pub tick : h.board.controller.tick ≤ t

-- the commands that are taken next are among the others
next_timely : (t : ℕ) (first others all : List Meant) (h : Core) (e : Event) → IsSoon t first all h → all ≡ first ++ others → AreTimely t others → orders_of e ≡ [] → AreTimely h.board.controller.tick (takes_in h e)
next_timely t first others all h e k cut timely none =
    let g = after_event h e in
    let o = ordered_by h e k.ordered in
    let n = length g.link.taken in
    let later = drop n g.queued in
    let same : g.queued ≡ h.queued = ap (λ x. h.queued ++ x) none ∙ append-nil h.queued in
    let whole : (h.taken ++ takes_in h e) ++ later ≡ h.queued = ap (λ x. x ++ later) o.first ∙ take-append-drop n g.queued ∙ same in
    let inside : first ++ (k.more ++ (takes_in h e ++ (later ++ k.rest))) ≡ first ++ others =
    sym (append_assoc first k.more (takes_in h e ++ (later ++ k.rest))) ∙ ap (λ x. x ++ (takes_in h e ++ (later ++ k.rest))) (sym k.took)
    ∙ sym (append_assoc h.taken (takes_in h e) (later ++ k.rest)) ∙ sym (append_assoc (h.taken ++ takes_in h e) later k.rest) ∙ ap (λ x. x ++ k.rest) whole ∙ k.all_is ∙ cut in
    let is = append_cancel_left first (k.more ++ (takes_in h e ++ (later ++ k.rest))) others inside in
    let At : List Meant → Type 0 = λ x. AreTimely t x in
    all_before h.board.controller.tick t (takes_in h e) k.tick (part_front t (takes_in h e) (later ++ k.rest) (part_behind t k.more (takes_in h e ++ (later ++ k.rest)) (subst At (sym is) timely)))

-- a step that queues nothing and lets no time pass keeps this
event_soon : (t : ℕ) (first all : List Meant) (h : Core) (e : Event) → IsSoon t first all h → orders_of e ≡ [] → (after_event h e).board.controller.tick ≡ h.board.controller.tick → IsSoon t first all (after_event h e)
event_soon t first all h e k none tick = search (rules, ordered_by, takes_in, append_assoc, append-nil)

pub quiet_soon : (t : ℕ) (first others all : List Meant) (steps : List Step) (h : Core) → AreQuiet steps → IsSoon t first all h → all ≡ first ++ others → AreTimely t others
    → AllTimely h steps × IsSoon t first all (run_world steps h)
quiet_soon t first others all [] h q k cut timely = (tt, k)
quiet_soon t first others all (Turn n ∷ steps) h q k cut timely =
    let next : IsSoon t first all (in_turn h n) = record { ordered = ordered_turn h n k.ordered; more = k.more; took = k.took; rest = k.rest; all_is = k.all_is; tick = k.tick } in
    let r = quiet_soon t first others all steps (in_turn h n) q.1 next cut timely in
    ((tt, r.0), r.1)
quiet_soon t first others all (Do (Put b) ∷ steps) h q k cut timely = absurd q.0
quiet_soon t first others all (Do (Control c) ∷ steps) h q k cut timely = absurd q.0
quiet_soon t first others all (Do (Pass u) ∷ steps) h q k cut timely = absurd q.0
quiet_soon t first others all (Do Arrive ∷ steps) h q k cut timely =
    let r = quiet_soon t first others all steps (after_event h Arrive) q.1 (event_soon t first all h Arrive k refl (tick_held (Do Arrive ∷ []) h (tt, tt))) cut timely in
    ((λ on. next_timely t first others all h Arrive k cut timely refl, r.0), r.1)
quiet_soon t first others all (Do Repeat ∷ steps) h q k cut timely =
    let r = quiet_soon t first others all steps (after_event h Repeat) q.1 (event_soon t first all h Repeat k refl (tick_held (Do Repeat ∷ []) h (tt, tt))) cut timely in
    ((λ on. next_timely t first others all h Repeat k cut timely refl, r.0), r.1)
quiet_soon t first others all (Do e ∷ steps) h q k cut timely =
    let r = quiet_soon t first others all steps (after_event h e) q.1 (event_soon t first all h e k refl refl) cut timely in
    ((λ on. tt, r.0), r.1)
