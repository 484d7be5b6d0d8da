-- The names of the crates below that proofs of the laws cite most, passed on from one place. Declares nothing.
pub use Rattle.std.proofs.Math.Logic.{∥∥₁_map}
pub use Rattle.std.proofs.lemmas.Bool.Decides.{eqb_tells, leb_tells, nat_tests}
pub use Rattle.std.proofs.lemmas.Bool.{and_from, eq-eqb, eqb-true}
pub use Rattle.std.proofs.lemmas.Grind.{flat_map-append}
pub use Rattle.std.proofs.lemmas.List.Elements.{All-cons, All-head, All-nil, All-tail}
pub use Rattle.std.proofs.lemmas.List.{append_cancel_left, get_or-set_same, length-map, map-append, take-append-drop}
pub use Rattle.std.specs.List.{flat_map}
pub use Rattle.axis_homing.proofs.Rises.{states-kept}
pub use Rattle.axis_homing.specs.Homing.{answer_in, by_answer, command_to, commands_to, goes_on_homing, hears_all, homing_after, homing_turn, low, members_from, order_command}
pub use Rattle.axis_homing.specs.Rising.{members_of}
pub use Rattle.axis_homing.specs.declared.homing.Homing.{Homing}
pub use Rattle.axis_homing.specs.declared.homing.HomingTurn.{HomingTurn}
pub use Rattle.board_asking.specs.Asking.{is_question_due, ready}
pub use Rattle.board_asking.specs.Connecting.{all_connected, giving_up, listen_all, ready_all}
pub use Rattle.board_asking.specs.Drift.{asks_now, clock_question, drifts, stale, waits_in}
unfoldable pub use Rattle.board_asking.specs.Machine.{configuration}
pub use Rattle.board_asking.specs.Machine.{trigger_of}
pub use Rattle.board_asking.specs.declared.asking.Asking.{Asking}
pub use Rattle.board_asking.specs.declared.asking.Stage.TheVariants.{Config, Configure, Connected, Identify, Uptime}
pub use Rattle.board_asking.specs.declared.asking.Stage.{Stage}
pub use Rattle.board_asking.specs.declared.setup.Setup.{Setup}
pub use Rattle.board_sim.proofs.Bound.{one_slot, slot_range}
pub use Rattle.board_sim.specs.Board.{Controller, is_shut}
pub use Rattle.board_sim.specs.Fair.{Meant, commands_of, only}
pub use Rattle.board_sim.specs.Rig.{Passed, Rig, Slot, acts, acts_running, all_left, at_of, becomes, earliest_moment, expires_at_once, goes_on, happens_to, pass, passes, passes_by, rests_to, runs_to, set_timeout, slot_at, takes, takes_all}
pub use Rattle.board_sim.specs.RigRuns.{AllSound}
pub use Rattle.board_step.specs.Steps.{Pending}
pub use Rattle.board_trig.specs.declared.sampling.Sampling.{Sampling}
pub use Rattle.board_trig.specs.declared.trigger.Happening.TheVariants.{Expires, Nothing, Reports, Switches}
pub use Rattle.board_trig.specs.declared.trigger.Happening.{Happening}
pub use Rattle.board_trig.specs.declared.trigger.Trigger.{Trigger}
pub use Rattle.board_world.specs.Orders.{plain, unit_orders, units_orders}
pub use Rattle.board_world.specs.Stands.{IsOrdered}
pub use Rattle.board_world.specs.World.{Core, Do, Step, Turn, after_event, does, in_turn, new_world, run_world, says, takes_in, wire_text, world_after}
pub use Rattle.board_world.specs.declared.event.Event.{Event}
pub use Rattle.clock_line.specs.Early.{turn_in_run, turn_tick}
pub use Rattle.clock_line.specs.Kept.{AreKept}
pub use Rattle.host_reactor.specs.Notes.{is_out, known_behind, news_of, noted, told_all}
pub use Rattle.host_reactor.specs.Reactor.{Reacted, Run, by_phase, cut_line, homing_commands, reacts, stop_command, stops, unless_ended, unless_stale}
pub use Rattle.host_reactor.specs.Report.{first_lines, machine_line}
pub use Rattle.host_reactor.specs.Rows.{IsOwn}
pub use Rattle.host_reactor.specs.Running.{first_cause, stop_of}
pub use Rattle.host_reactor.specs.Runs.{Came, GoesOn, known_by, last_reacted, state_at}
pub use Rattle.host_reactor.specs.declared.ordered.Known.{Known}
pub use Rattle.host_reactor.specs.declared.ordered.Phase.TheVariants.{Connecting, Stopping}
pub use Rattle.host_reactor.specs.declared.ordered.Phase.{Phase}
pub use Rattle.link_core.specs.Core.{Reply}
pub use Rattle.link_work.proofs.Sending.{run_append}
pub use Rattle.link_work.proofs.Turns.{turns_are_steps}
pub use Rattle.link_work.specs.Limits.{AllKeepLimits}
pub use Rattle.link_work.specs.Runs.{AreTurns, queued_in}
pub use Rattle.link_work.specs.Stands.{first_state, orders}
pub use Rattle.link_work.specs.Switches.{pins_of}
pub use Rattle.link_work.specs.Turn.{IsTurn, LinkState, Orders, after_board, after_host, come}
pub use Rattle.motion_work.specs.Boards.{parts_on}
pub use Rattle.motion_work.specs.Seen.{AreStarted, Started}
pub use Rattle.motion_work.specs.Told.{Told}
pub use Rattle.msg_code.specs.Text.{IsText}
pub use Rattle.msg_code.specs.Units.{dir_commands, reset_commands, step_command}
pub use Rattle.msg_code.specs.declared.cmd.Cmd.{Cmd}
pub use Rattle.msg_code.specs.declared.talk.News.{News}
pub use Rattle.msg_code.specs.declared.talk.Note.{Note}
pub use Rattle.msg_code.specs.declared.talk.NoteNews.{NoteNews}
pub use Rattle.msg_code.specs.declared.talk.ShutNews.{ShutNews}
pub use Rattle.msg_code.specs.declared.talk.State.{State}
pub use Rattle.msg_code.specs.declared.talk.WordMsg.{WordMsg}
pub use Rattle.msg_code.specs.declared.unit.Control.{Control}
pub use Rattle.msg_code.specs.declared.unit.Unit.{Unit}
pub use Rattle.msg_dict.specs.Own.{own_formats}
pub use Rattle.plan_types.proofs.Facts.{both_parts, cons_same, no_both}
pub use Rattle.plan_types.specs.Board.{nearest}
pub use Rattle.plan_types.specs.Clock.{board_tick, clock_of, tick, turn_ns}
pub use Rattle.plan_types.specs.Lines.{Clocks, lines_tick, one_line}
pub use Rattle.plan_types.specs.Machines.{IsValidMachine, axis_at, board_at, stepper_at}
pub use Rattle.plan_types.specs.Plan.{Fits}
pub use Rattle.plan_types.specs.Sections.{clocks_at, stepper_plan}
pub use Rattle.plan_types.specs.declared.cause.Cause.{Cause}
pub use Rattle.plan_types.specs.declared.clock.BoardClock.{BoardClock}
pub use Rattle.plan_types.specs.declared.levels.Level.{Level}
pub use Rattle.plan_types.specs.declared.machine.AxisDef.{AxisDef}
pub use Rattle.plan_types.specs.declared.machine.BoardDef.{BoardDef}
pub use Rattle.plan_types.specs.declared.machine.Machine.{Machine}
pub use Rattle.plan_types.specs.declared.plan.BoardState.TheVariants.{Running, Shut}
pub use Rattle.plan_types.specs.declared.plan.BoardState.{BoardState}
pub use Rattle.plan_types.specs.declared.plan.Held.{Held}
pub use Rattle.plan_types.specs.declared.plan.Line.{Line}
pub use Rattle.plan_types.specs.declared.plan.Move.{Move}
pub use Rattle.plan_types.specs.declared.plan.Planned.{Planned}
pub use Rattle.plan_types.specs.declared.plan.Pulse.{Pulse}
pub use Rattle.plan_types.specs.declared.plan.ReadStop.{ReadStop}
pub use Rattle.plan_types.specs.declared.plan.Section.{Section}
pub use Rattle.plan_types.specs.declared.plan.SectionKind.TheVariants.{Home, Moves}
pub use Rattle.plan_types.specs.declared.plan.SectionKind.{SectionKind}
pub use Rattle.report_text.specs.declared.line.ReportLine.{ReportLine}
pub use Rattle.section_units.specs.Sections.{AreBefore, BoardSection, base_of, of_stepper, section_steps}
pub use Rattle.session_work.specs.Rows.{gather, item}
pub use Rattle.session_work.specs.declared.table.MotionTurn.{MotionTurn}
pub use Rattle.session_work.specs.declared.table.ReactorTurn.{ReactorTurn}
pub use Rattle.step_feed.specs.Pacing.{Release, batch_at, units_of}
pub use Rattle.step_feed.specs.Units.{StepUnit}
pub use Rattle.trigger_group.specs.Group.{GroupState, all_fired, first_timeout, phase, relay_in, relays_in, round_of, turned_group, unseen}
unfoldable pub use Rattle.trigger_group.specs.Group.{steppers}
pub use Rattle.trigger_group.specs.declared.order.Ctl.{Ctl}
pub use Rattle.trigger_group.specs.declared.order.End.{End}
pub use Rattle.trigger_group.specs.declared.order.Member.{Member}
pub use Rattle.trigger_group.specs.declared.order.Order.{Order}
pub use Rattle.trigger_group.specs.declared.round.Phase.TheVariants.{Goes, Rests, Sends}
pub use Rattle.trigger_group.specs.declared.round.Round.TheVariants.{Homes, Starts}
pub use Rattle.trigger_group.specs.declared.seen.Fired.{Fired}
pub use Rattle.trigger_group.specs.declared.seen.Seen.{Seen}
pub use Rattle.wire_scene.specs.declared.scene.Entry.{Entry}
pub use Rattle.wire_scene.specs.declared.scene.Scene.{Scene}
pub use Rattle.wire_scene.specs.declared.scene.Switch.{Switch}
pub use Rattle.wire_scene.specs.declared.scene.Way.TheVariants.{Down, Up}
