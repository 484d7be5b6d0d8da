use Rattle.std.proofs.Common.{Option, inl, map, sym, subst}
use Rattle.std.specs.Prelude.{string_bytes}
use Rattle.command_words.specs.Forms.{Asked}
use Rattle.io_core.specs.contracts.sure.SureSinkSink.TheImpl.{ghosts as sink_ghosts}
use Rattle.generated_load.specs.contracts.load_file.LoadFilesFiles.TheImpl.{ghosts as load_ghosts}
use Rattle.host_cli.specs.Asks.{Answers}
use Rattle.host_cli.proofs.Asked.{ends-both, unread}
use Rattle.host_cli.proofs.Few.{few-moves}
use Rattle.host_cli.proofs.top.host_main.Goals as goal

pub returns-in-Ok-Run-clause-answers : goal.returns-in-Ok-Run-clause-answers
returns-in-Ok-Run-clause-answers g c =
    let form = rw c.in-Ok-Run.field-0-is at c.in-Ok-Run.ensures.form in
    let A : Option Asked → Type 0 = λ x. Answers g.F.Files g.S.Sink load_ghosts sink_ghosts c.args.files.now c.run_plain.new.files c.args.out.now c.run_plain.new.out c.run_plain.result x in
    subst A (sym form) (λ printer told. record { read = λ m is. c.run_plain.ensures.shows printer m told is; fault = λ line kind is. c.run_plain.ensures.config printer line kind told is })

pub returns-in-Ok-Scene-clause-answers : goal.returns-in-Ok-Scene-clause-answers
returns-in-Ok-Scene-clause-answers g c =
    let form = rw c.in-Ok-Scene.field-0-is at c.in-Ok-Scene.ensures.form in
    let A : Option Asked → Type 0 = λ x. Answers g.F.Files g.S.Sink load_ghosts sink_ghosts c.args.files.now c.run_scene.new.files c.args.out.now c.run_scene.new.out c.run_scene.result x in
    subst A (sym form) (λ printer told. record { read = λ m is text seen. record { read = λ s read. c.run_scene.ensures.shows printer text m s told seen is read; fault = λ line kind read. c.run_scene.ensures.scene printer text m line kind told seen is read }; fault = λ line kind is. c.run_scene.ensures.config printer line kind told is })

pub run_load-requires-clause-few : goal.run_load-requires-clause-few
run_load-requires-clause-few g c = λ _ _. few-moves (map string_bytes c.args.words.now) c.in-Ok-Make.seed c.in-Ok-Make.moves (rw c.in-Ok-Make.field-0-is at c.in-Ok-Make.ensures.form)

pub returns-in-Ok-Make-clause-answers : goal.returns-in-Ok-Make-clause-answers
returns-in-Ok-Make-clause-answers g c =
    let form = rw c.in-Ok-Make.field-0-is at c.in-Ok-Make.ensures.form in
    let A : Option Asked → Type 0 = λ x. Answers g.F.Files g.S.Sink load_ghosts sink_ghosts c.args.files.now c.args.files.now c.args.out.now c.run_load.new.out c.run_load.result x in
    subst A (sym form) (c.run_load.ensures.shows)

pub returns-in-Ok-Fan-clause-answers : goal.returns-in-Ok-Fan-clause-answers
returns-in-Ok-Fan-clause-answers g c =
    let form = rw c.in-Ok-Fan.field-0-is at c.in-Ok-Fan.ensures.form in
    let A : Option Asked → Type 0 = λ x. Answers g.F.Files g.S.Sink load_ghosts sink_ghosts c.args.files.now c.run_fan.new.files c.args.out.now c.run_fan.new.out c.run_fan.result x in
    subst A (sym form) (λ printer told. record { read = λ m is. record { there = λ d has text seen small. c.run_fan.ensures.shows printer text m d told is has seen small; none = λ none. c.run_fan.ensures.no_fan printer m told is none }; fault = λ line kind is. c.run_fan.ensures.config printer line kind told is })

pub returns-in-Ok-Check-clause-answers : goal.returns-in-Ok-Check-clause-answers
returns-in-Ok-Check-clause-answers g c =
    let form = rw c.in-Ok-Check.field-0-is at c.in-Ok-Check.ensures.form in
    let A : Option Asked → Type 0 = λ x. Answers g.F.Files g.S.Sink load_ghosts sink_ghosts c.args.files.now c.run_check.new.files c.args.out.now c.run_check.new.out c.run_check.result x in
    subst A (sym form) (λ printer told. record { read = λ m is text seen small log heard few. c.run_check.ensures.shows printer text log m told is seen small heard few; fault = λ line kind is. c.run_check.ensures.config printer line kind told is })

pub returns-in-Ok-Dump-clause-answers : goal.returns-in-Ok-Dump-clause-answers
returns-in-Ok-Dump-clause-answers g c =
    let form = rw c.in-Ok-Dump.field-0-is at c.in-Ok-Dump.ensures.form in
    let A : Option Asked → Type 0 = λ x. Answers g.F.Files g.S.Sink load_ghosts sink_ghosts c.args.files.now c.run_traffic.new.files c.args.out.now c.run_traffic.new.out c.run_traffic.result x in
    subst A (sym form) (λ printer told. record { read = λ m is. record { there = λ b has text seen. record { read = λ turns read. c.run_traffic.ensures.shows printer m b text turns told is has seen read; fault = λ line kind read. c.run_traffic.ensures.trace printer m b text line kind told is has seen read }; none = λ none. c.run_traffic.ensures.no_board printer m told is none }; fault = λ line kind is. c.run_traffic.ensures.config printer line kind told is })

pub returns-in-Ok-Replay-clause-answers : goal.returns-in-Ok-Replay-clause-answers
returns-in-Ok-Replay-clause-answers g c =
    let form = rw c.in-Ok-Replay.field-0-is at c.in-Ok-Replay.ensures.form in
    let A : Option Asked → Type 0 = λ x. Answers g.F.Files g.S.Sink load_ghosts sink_ghosts c.args.files.now c.run_traffic-in-Ok-Replay.new.files c.args.out.now c.run_traffic-in-Ok-Replay.new.out c.run_traffic-in-Ok-Replay.result x in
    subst A (sym form) (λ printer told. record { read = λ m is. record { there = λ b has text seen. record { read = λ turns read. c.run_traffic-in-Ok-Replay.ensures.shows printer m b text turns told is has seen read; fault = λ line kind read. c.run_traffic-in-Ok-Replay.ensures.trace printer m b text line kind told is has seen read }; none = λ none. c.run_traffic-in-Ok-Replay.ensures.no_board printer m told is none }; fault = λ line kind is. c.run_traffic-in-Ok-Replay.ensures.config printer line kind told is })

pub returns-in-Ok-Mesh-clause-answers : goal.returns-in-Ok-Mesh-clause-answers
returns-in-Ok-Mesh-clause-answers g c =
    let form = rw c.in-Ok-Mesh.field-0-is at c.in-Ok-Mesh.ensures.form in
    let A : Option Asked → Type 0 = λ x. Answers g.F.Files g.S.Sink load_ghosts sink_ghosts c.args.files.now c.run_mesh.new.files c.args.out.now c.run_mesh.new.out c.run_mesh.result x in
    subst A (sym form) (λ printer told. record { read = λ m is rows seen. record { read = λ t read text heard small. inl (c.run_mesh.ensures.shows printer rows text m t told is seen read heard small); fault = λ line kind read. inl (c.run_mesh.ensures.table printer rows m line kind told is seen read) }; fault = λ line kind is. inl (c.run_mesh.ensures.config printer line kind told is) })

pub returns-in-Err-Usage-clause-answers : goal.returns-in-Err-Usage-clause-answers
returns-in-Err-Usage-clause-answers g c =
    let A : Option Asked → Type 0 = λ x. Answers g.F.Files g.S.Sink load_ghosts sink_ghosts c.args.files.now c.args.files.now c.args.out.now c.refuse.new.out c.refuse.result x in
    subst A (sym (c.in-Err-Usage.ensures.usage c.in-Err-Usage.field-0-is)) c.refuse.ensures.refused

pub returns-in-Err-Memory-clause-answers : goal.returns-in-Err-Memory-clause-answers
returns-in-Err-Memory-clause-answers g c =
    unread g.F.Files g.S.Sink load_ghosts sink_ghosts c.args.files.now c.args.files.now c.args.out.now c.refuse-in-Err-Memory.new.out c.refuse-in-Err-Memory.result _
    (ends-both _ _ _ _ c.refuse-in-Err-Memory.ensures.refused)
