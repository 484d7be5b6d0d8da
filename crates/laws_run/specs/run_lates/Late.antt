-- The steps that came too late to a board, in a whole run that ends for it, and which shutdowns a run's
-- states may tell of.
use Rattle.std.specs.Prelude.{◌≡◌, ◌+◌, ◌-◌, ◌<◌, ℕ, All, List, [], ◌∷◌, ◌++◌, Some, length}
use Rattle.plan_types.specs.declared.machine.Machine.{Machine}
use Rattle.plan_types.specs.declared.plan.BoardState.TheVariants.{Running, Shut}
use Rattle.plan_types.specs.Clock.{board_tick, clock_of}
use Rattle.plan_types.specs.Lines.{Clocks}
use Rattle.plan_types.specs.Machines.{board_at}
use Rattle.msg_code.specs.declared.talk.ShutNews.{ShutNews}
use Rattle.msg_code.specs.declared.talk.State.{State}
use Rattle.step_feed.specs.Pacing.{Release}
use Rattle.section_units.specs.Sections.{BoardSection}
use Rattle.wire_scene.specs.declared.scene.Scene.{Scene}
use Rattle.board_sim.specs.Board.{timer_too_close}
use Rattle.board_world.specs.Shut.{WasShut}
use Rattle.link_work.specs.declared.held.HeldUnit.{HeldUnit}
use Rattle.link_work.specs.Ends.{is_quiet, spoiled_turns}
use Rattle.link_work.specs.Held.{counted_to, held_in, hold, late_by, lead_of, spoiled_with}
use Rattle.link_work.specs.Stands.{orders}
use Rattle.link_work.specs.Turn.{IsTurn}
use Rattle.laws_board.specs.turns.Turns.{BoardTurn, stands_after}
use Rattle.laws_board.specs.clocks.Runs.{UnitsFit, ends_in, orders_in}
use Rattle.motion_work.specs.Boards.{parts_on}
use Rattle.motion_work.specs.Seen.{Started}
use Rattle.session_work.specs.declared.table.MotionTurn.{MotionTurn}
use Rattle.session_work.specs.declared.table.ReactorTurn.{ReactorTurn}
use Rattle.laws_board.specs.sections.Ends.{MayEnd}
use Rattle.laws_board.specs.sections.Late.{IsIn}
use Rattle.laws_board.specs.sections.Links.{steps_of_turn}
use Rattle.laws_run.specs.lanes.Boards.{IsInWhole, turns_behind}
use Rattle.laws_run.specs.run_headline.Timely.{link_of}

-- the turns of the busy stretch that were spoiled, up to a turn of a board behind others, and this one where it was
abbrev pub spoiled_by : List BoardTurn → BoardTurn → List ℕ
spoiled_by past t =
    spoiled_with (spoiled_turns (ends_in past)) (length past) (is_quiet (record { turn = length past; link = t.after }))

-- the units that were queued in the busy stretch, up to a turn of a board behind others
abbrev pub held_by : List BoardTurn → BoardTurn → List HeldUnit
held_by past t = hold (held_in (orders_in past) (ends_in past)) (length past) t.batch.units

-- Steps came too late to a board of a whole run, in the last turn of its link. It ran before this turn. As
-- the turn began, at the tick of the arrival, it took a command that shut it down: steps of which the first
-- one was due at an earlier tick, while none of their stepper pended. The spoiled turns and the spill are
-- those of the first unit of the busy stretch with this first tick for which they are more than the lead
-- together, and 0 where there is none.
pub record ComesLate (m : Machine) (s : Scene) (b first arrival spoiled spill : ℕ) (planned : List MotionTurn)
    (begin : ReactorTurn) (rest : List ReactorTurn) : Type 0 where
  pub there : b < length m.boards
  pub w : IsInWhole m s.switches b (clock_of (board_at m b)) (link_of m s b) planned begin rest
  -- its last turn, and those before, of which the latest stands first
  pub turn : BoardTurn
  pub past : List BoardTurn
  pub are : turns_behind [] w.made ≡ turn ∷ past
  pub is : IsTurn (clock_of (board_at m b)) (length past) (orders turn.control turn.batch)
      (stands_after (link_of m s b) past) turn.after
  pub ran : (stands_after (link_of m s b) past).core.board.controller.state ≡ Running
  pub shut : turn.after.core.board.controller.state ≡ Shut timer_too_close arrival first
  pub began : arrival ≡ board_tick (clock_of (board_at m b)) (length past)
  pub late : first < arrival
  pub took : WasShut (stands_after (link_of m s b) past).core (steps_of_turn (clock_of (board_at m b)) (length past)
      (orders turn.control turn.batch) is.resent (stands_after (link_of m s b) past))
      timer_too_close arrival first
  pub counted : (spoiled, spill)
      ≡ late_by (lead_of (board_at m b).drift) (spoiled_by past turn) first (held_by past turn)

-- so in a run, by the planner's turns, the reactor's turns before its last one, and this one
abbrev pub ComesLateIn : Machine → Scene → ℕ → ℕ → ℕ → ℕ → ℕ → List MotionTurn → List ReactorTurn → ReactorTurn → Type 0
ComesLateIn m s b first arrival spoiled spill planned [] last = ⊥
ComesLateIn m s b first arrival spoiled spill planned (begin ∷ rest) last =
    ComesLate m s b first arrival spoiled spill planned begin (rest ++ last ∷ [])

-- A unit of one of the late board's sections has this first tick. So many turns of the busy stretch were
-- spoiled up to the turn in which it is due, and its spill is the one that is told. Together they are more
-- than the lead: 250 turns, and 249 for a board whose clock is off.
pub record HasLateUnit (m : Machine) (s : Scene) (b first arrival spoiled spill : ℕ) (planned : List MotionTurn)
    (begin : ReactorTurn) (rest : List ReactorTurn) (clocks : List Clocks) (begun : List Started)
    (c : ComesLate m s b first arrival spoiled spill planned begin rest) : Type 0 where
  pub section : BoardSection
  pub release : Release
  pub among : IsIn section (parts_on m clocks begun b)
  pub within : IsIn release section.releases
  pub first_is : release.unit.first ≡ first
  pub spoiled_is : spoiled ≡ counted_to release.unit.due (spoiled_by c.past c.turn)
  pub spill_is : spill ≡ release.turn + 250 - release.unit.due
  pub disturbed : lead_of (board_at m b).drift < spoiled + spill

-- so in a run, by its turns
abbrev pub HasLateUnitIn : (m : Machine) (s : Scene) (b first arrival spoiled spill : ℕ) (planned : List MotionTurn)
    (turns : List ReactorTurn) (last : ReactorTurn) → List Clocks → List Started →
    ComesLateIn m s b first arrival spoiled spill planned turns last → Type 0
HasLateUnitIn m s b first arrival spoiled spill planned [] last clocks begun c = ⊥
HasLateUnitIn m s b first arrival spoiled spill planned (begin ∷ rest) last clocks begun c =
    HasLateUnit m s b first arrival spoiled spill planned begin (rest ++ last ∷ []) clocks begun c

-- the units of each turn of the late board have at most 210 bytes
abbrev pub HasFewUnits : (m : Machine) (s : Scene) (b first arrival spoiled spill : ℕ) (planned : List MotionTurn)
    (turns : List ReactorTurn) (last : ReactorTurn) → ComesLateIn m s b first arrival spoiled spill planned turns last →
    Type 0
HasFewUnits m s b first arrival spoiled spill planned [] last c = ⊥
HasFewUnits m s b first arrival spoiled spill planned (begin ∷ rest) last c = UnitsFit (turns_behind [] c.w.made)

-- a state tells of a shutdown only for steps that came too late or for the order to stop
abbrev pub MayTell : State → Type 0
MayTell s = (n : ShutNews) → s.shut ≡ Some n → MayEnd n.reason

-- so do all states that came in some turns of the reactor
abbrev pub AllMayTell : List ReactorTurn → Type 0
AllMayTell turns = All (λ t. All (λ s. MayTell s) t.states) turns
