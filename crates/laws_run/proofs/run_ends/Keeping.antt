-- What a turn of the reactor leaves of what the notes told.
use Rattle.std.proofs.Common.{◌≡◌, ◌⊎◌, ℕ, Bool, true, false, List, ◌++◌, Option, Some, None, refl, inl, inr, rules}
use Rattle.std.specs.Prelude.{if◌then◌else◌}
use Rattle.laws_board.proofs.Names.{Cause, Machine, ReadStop, axis_at, Note, State, ReportLine, Switch, Asking, all_connected, giving_up, listen_all, ready_all, stale, HomingTurn, homing_turn, Known, Phase, Connecting, Stopping, noted, news_of, is_out, Reacted, by_phase, cut_line, reacts, unless_ended, unless_stale, first_lines, first_cause, stop_of}
use Rattle.plan_types.specs.declared.plan.ReadStop.TheVariants as read
use Rattle.host_reactor.specs.declared.ordered.Phase.TheVariants.{Running}
use Rattle.host_reactor.specs.Reactor.{after_homing, asks_boards, carries_on, finishes, is_connected_now, unless_given_up, unless_homing_ends, unless_late_stale}
use Rattle.host_reactor.specs.Running.{is_finished}

-- the sections that ended and how the text was read stay as they were; the last end may be that of connecting
pub record Keeps (r : Known) (k : ℕ) (x : Reacted) : Type 0 where
  pub done : x.known.done ≡ r.done
  pub reading : x.known.reading ≡ r.reading
  pub ended : (x.known.ended ≡ r.ended) ⊎ (x.known.ended ≡ k)

either : (b : Bool) (r : Known) (k : ℕ) (x y : Reacted) → Keeps r k x → Keeps r k y → Keeps r k (if b then x else y)
either true r k x y a b = a
either false r k x y a b = b

connecting : (o : Option Cause) (m : Machine) (r : Known) (k : ℕ) (lines : List ReportLine) (askings : List Asking) → Keeps r k (unless_given_up o m r k lines askings)
connecting (Some c) m r k lines askings = record { done = refl; reading = refl; ended = inl refl }
connecting None m r k lines askings =
    either (all_connected askings) r k (is_connected_now m r k lines askings) (asks_boards m r k lines askings) (record { done = refl; reading = refl; ended = inr refl }) (record { done = refl; reading = refl; ended = inl refl })

finishing : (s : ReadStop) (m : Machine) (r : Known) (k : ℕ) (lines : List ReportLine) (askings : List Asking) (turn : HomingTurn) → Keeps r k (finishes s m r k lines askings turn)
finishing (read.Stop line) m r k lines askings turn = record { done = refl; reading = refl; ended = inl refl }
finishing c m r k lines askings turn = record { done = refl; reading = refl; ended = inl refl }

homing : (o : Option Cause) (m : Machine) (r : Known) (k : ℕ) (states : List State) (lines cut : List ReportLine) (askings : List Asking) (turn : HomingTurn) → Keeps r k (unless_homing_ends o m r k states lines cut askings turn)
homing o m r k states lines cut askings turn = search (rules, either, stop_of, finishing)

running : (o : Option Cause) (m : Machine) (switches : List Switch) (r : Known) (k : ℕ) (states : List State) (lines : List ReportLine) (askings : List Asking) → Keeps r k (unless_stale o m switches r k states lines askings)
running o m switches r k states lines askings = search (rules, homing_turn, homing, cut_line, axis_at)

stopping : (o : Option Cause) (m : Machine) (r : Known) (k : ℕ) (lines : List ReportLine) (line : ℕ) → Keeps r k (unless_late_stale o m r k lines line)
stopping (Some c) m r k lines line = record { done = refl; reading = refl; ended = inl refl }
stopping None m r k lines line = record { done = refl; reading = refl; ended = inl refl }

phases : (p : Phase) (m : Machine) (switches : List Switch) (r : Known) (k : ℕ) (states : List State) (lines : List ReportLine) → Keeps r k (by_phase p m switches r k states lines)
phases Connecting m switches r k states lines = let askings = ready_all m 0 (listen_all r.askings.items states) in connecting (giving_up k 0 askings) m r k lines askings
phases Running m switches r k states lines = let askings = listen_all r.askings.items states in running (stale k 0 askings) m switches r k states lines askings
phases (Stopping line) m switches r k states lines = stopping (stale k 0 (listen_all r.askings.items states)) m r k lines line

unless : (o : Option Cause) (m : Machine) (switches : List Switch) (r : Known) (k : ℕ) (states : List State) (lines : List ReportLine) → Keeps r k (unless_ended o m switches r k states lines)
unless (Some c) m switches r k states lines = record { done = refl; reading = refl; ended = inl refl }
unless None m switches r k states lines = phases r.phase m switches r k states lines

pub keeps : (m : Machine) (switches : List Switch) (r : Known) (k : ℕ) (states : List State) (note : Option Note) → Keeps (noted m note r) k (reacts m switches r k states note)
keeps m switches r k states note =
    let s = noted m note r in
    unless (first_cause (is_out note) s.stopped states) m switches s k states (first_lines m s k (news_of note) states)
