-- What stands in the lines of a turn of the reactor beside sections and pulses.
use Rattle.std.proofs.Common.{◌≡◌, ℕ, ◌+◌, Bool, true, false, List, [], ◌∷◌, ◌++◌, Option, Some, None, refl, sym, ◌∙◌, append_assoc, append-nil, rules}
use Rattle.std.specs.Prelude.{if◌then◌else◌}
use Rattle.laws_board.proofs.Names.{Cause, AxisDef, Machine, Line, ReadStop, axis_at, Note, State, ReportLine, Switch, Asking, listen_all, ready_all, giving_up, all_connected, stale, HomingTurn, homing_turn, Known, Phase, Connecting, Stopping, noted, news_of, is_out, Reacted, by_phase, cut_line, reacts, unless_ended, unless_stale, first_lines, first_cause, stop_of}
use Rattle.plan_types.specs.declared.plan.ReadStop.TheVariants as read
use Rattle.report_text.specs.declared.line.ReportLine.TheVariants as report
use Rattle.board_asking.specs.Connecting.{board_lines, connected_lines}
use Rattle.host_reactor.specs.declared.ordered.Phase.TheVariants.{Running}
use Rattle.host_reactor.specs.declared.ordered.Reading.{Reading}
use Rattle.host_reactor.specs.Reactor.{after_homing, asks_boards, carries_on, ends, finishes, homes, is_connected_now, unless_given_up, unless_homing_ends, unless_late_stale}
use Rattle.host_reactor.specs.Report.{count_lines}
use Rattle.host_reactor.specs.Running.{is_finished}

-- a line that begins no section and tells no pulse
abbrev pub IsPlain : ReportLine → Type 0
IsPlain (report.Section section turn kind) = ⊥
IsPlain (report.Pulse board stepper tick up) = ⊥
IsPlain _ = Unit {0}

abbrev pub ArePlain : List ReportLine → Type 0
ArePlain [] = Unit {0}
ArePlain (l ∷ lines) = IsPlain l × ArePlain lines

plain_append : (xs ys : List ReportLine) → ArePlain xs → ArePlain ys → ArePlain (xs ++ ys)
plain_append [] ys a b = b
plain_append (x ∷ xs) ys a b = (a.0, plain_append xs ys a.1 b)

-- what a turn gives: some lines and plain ones behind them; and it leaves what was begun
pub record Shaped (lines : List ReportLine) (r : Known) (x : Reacted) : Type 0 where
  pub extra : List ReportLine
  pub are : x.ordered.lines ≡ lines ++ extra
  pub plain : ArePlain extra
  pub begun : x.known.begun ≡ r.begun

ended : (m : Machine) (r : Known) (k : ℕ) (lines : List ReportLine) (cause : Cause) → Shaped lines r (ends m r k lines cause)
ended m r k lines cause = record { extra = []; are = sym (append-nil lines); plain = tt; begun = refl }

one_of : (b : Bool) (lines : List ReportLine) (r : Known) (x y : Reacted) → Shaped lines r x → Shaped lines r y → Shaped lines r (if b then x else y)
one_of true lines r x y a b = a
one_of false lines r x y a b = b

plain_boards : (k b : ℕ) (ls : List Line) → ArePlain (connected_lines k b ls)
plain_boards k b [] = tt
plain_boards k b (l ∷ ls) = (tt, plain_boards k (b + 1) ls)

connecting : (o : Option Cause) (m : Machine) (r : Known) (k : ℕ) (lines : List ReportLine) (askings : List Asking) → Shaped lines r (unless_given_up o m r k lines askings)
connecting o m r k lines askings = search (rules, ended, one_of, all_connected, plain_boards, append-nil)

plain_count : (o : Option Reading) → ArePlain (count_lines o)
plain_count None = tt
plain_count (Some r) = (tt, tt)

plain_cut : (m : Machine) (switches : List Switch) (section : ℕ) (axis : AxisDef) (o : Option ℕ) → ArePlain (cut_line m switches section axis o)
plain_cut m switches section axis None = tt
plain_cut m switches section axis (Some tick) = (tt, tt)

goes_on : (m : Machine) (r : Known) (k : ℕ) (lines cut : List ReportLine) (askings : List Asking) (turn : HomingTurn) (stop : Option ℕ) → ArePlain cut → Shaped lines r (carries_on m r k (lines ++ cut) askings turn stop)
goes_on m r k lines cut askings turn stop p = record { extra = cut; are = refl; plain = p; begun = refl }

finishing : (s : ReadStop) (m : Machine) (r : Known) (k : ℕ) (lines cut : List ReportLine) (askings : List Asking) (turn : HomingTurn) → ArePlain cut → Shaped lines r (finishes s m r k (lines ++ cut) askings turn)
finishing s m r k lines cut askings turn p8 = search (rules, goes_on, append_assoc, plain_append, plain_count)

homing : (o : Option Cause) (m : Machine) (r : Known) (k : ℕ) (states : List State) (lines cut : List ReportLine) (askings : List Asking) (turn : HomingTurn) → ArePlain cut
    → Shaped lines r (unless_homing_ends o m r k states lines cut askings turn)
homing o m r k states lines cut askings turn p9 = search (rules, ended, one_of, stop_of, finishing, goes_on)

as_known : (lines : List ReportLine) (r s : Known) (x : Reacted) → s.begun ≡ r.begun → Shaped lines s x → Shaped lines r x
as_known lines r s x e h = record { extra = h.extra; are = h.are; plain = h.plain; begun = h.begun ∙ e }

running : (o : Option Cause) (m : Machine) (switches : List Switch) (r : Known) (k : ℕ) (states : List State) (lines : List ReportLine) (askings : List Asking)
    → Shaped lines r (unless_stale o m switches r k states lines askings)
running (Some cause) m switches r k states lines askings = ended m r k lines cause
running None m switches r k states lines askings =
    let turn = homing_turn r.clocks k states r.homing in
    let s = after_homing r k states in
    as_known lines r s (homes m switches s k states lines askings turn) refl
    (homing turn.end m s k states lines (cut_line m switches turn.section (axis_at m turn.axis) turn.cut) askings turn (plain_cut m switches turn.section (axis_at m turn.axis) turn.cut))

stopping : (o : Option Cause) (m : Machine) (r : Known) (k : ℕ) (lines : List ReportLine) (line : ℕ) → Shaped lines r (unless_late_stale o m r k lines line)
stopping (Some cause) m r k lines line = ended m r k lines cause
stopping None m r k lines line = record { extra = count_lines r.reading; are = refl; plain = plain_count r.reading; begun = refl }

phases : (p : Phase) (m : Machine) (switches : List Switch) (r : Known) (k : ℕ) (states : List State) (lines : List ReportLine) → Shaped lines r (by_phase p m switches r k states lines)
phases p m switches r k states lines = search (rules, ready_all, listen_all, connecting, giving_up, running, stale, stopping)

unless : (o : Option Cause) (m : Machine) (switches : List Switch) (r : Known) (k : ℕ) (states : List State) (lines : List ReportLine) → Shaped lines r (unless_ended o m switches r k states lines)
unless (Some cause) m switches r k states lines = ended m r k lines cause
unless None m switches r k states lines = phases r.phase m switches r k states lines

-- a turn of the reactor
pub shaped : (m : Machine) (switches : List Switch) (r : Known) (k : ℕ) (states : List State) (note : Option Note)
    → Shaped (first_lines m (noted m note r) k (news_of note) states) (noted m note r) (reacts m switches r k states note)
shaped m switches r k states note =
    let s = noted m note r in
    unless (first_cause (is_out note) s.stopped states) m switches s k states (first_lines m s k (news_of note) states)
