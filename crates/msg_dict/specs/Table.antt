-- The table of commands.
use Rattle.std.specs.Prelude.{ℕ, ◌==◌, ◌||◌, List, [], ◌∷◌, take, drop, codes, Option, Some, None, if◌then◌else◌}
use Rattle.std.specs.Str.{bytes_eq}
use Rattle.msg_dict.specs.declared.row.Row.{Row}
use Rattle.msg_dict.specs.declared.row.Row.TheVariants as row
use Rattle.msg_dict.specs.declared.row.Kind.{Kind}
use Rattle.msg_dict.specs.declared.row.Kind.TheVariants as kind
use Rattle.msg_dict.specs.Dictionary.{Named}

-- a name with its number
abbrev pub named : List ℕ → ℕ → Named
named text n = record { name = text; number = n }

-- the table: of each row its format, and its identifier in the boards' own dictionary
abbrev pub own_format : Row → Named
own_format row.Identify = named (codes "identify offset=%u count=%c") 1
own_format row.AllocateOids = named (codes "allocate_oids count=%c") 2
own_format row.GetConfig = named (codes "get_config") 3
own_format row.FinalizeConfig = named (codes "finalize_config crc=%u") 4
own_format row.GetUptime = named (codes "get_uptime") 5
own_format row.EmergencyStop = named (codes "emergency_stop") 6
own_format row.ConfigStepper = named (codes "config_stepper oid=%c step_pin=%c dir_pin=%c invert_step=%c step_pulse_ticks=%u") 7
own_format row.QueueStep = named (codes "queue_step oid=%c interval=%u count=%hu add=%hi") 8
own_format row.SetNextStepDir = named (codes "set_next_step_dir oid=%c dir=%c") 9
own_format row.ResetStepClock = named (codes "reset_step_clock oid=%c clock=%u") 10
own_format row.ConfigTrsync = named (codes "config_trsync oid=%c") 11
own_format row.TrsyncStart = named (codes "trsync_start oid=%c report_clock=%u report_ticks=%u expire_reason=%c") 12
own_format row.TrsyncSetTimeout = named (codes "trsync_set_timeout oid=%c clock=%u") 13
own_format row.TrsyncTrigger = named (codes "trsync_trigger oid=%c reason=%c") 14
own_format row.StepperStopOnTrigger = named (codes "stepper_stop_on_trigger oid=%c trsync_oid=%c") 15
own_format row.ConfigEndstop = named (codes "config_endstop oid=%c pin=%c pull_up=%c") 16
own_format row.EndstopHome =
    named (codes "endstop_home oid=%c clock=%u sample_ticks=%u sample_count=%c rest_ticks=%u pin_value=%c trsync_oid=%c trigger_reason=%c") 17
own_format row.IdentifyResponse = named (codes "identify_response offset=%u data=%.*s") 0
own_format row.Config = named (codes "config is_config=%c crc=%u is_shutdown=%c move_count=%hu") 32
own_format row.Uptime = named (codes "uptime high=%u clock=%u") 33
own_format row.TrsyncState = named (codes "trsync_state oid=%c can_trigger=%c trigger_reason=%c clock=%u") 34
own_format row.Shutdown = named (codes "shutdown clock=%u static_string_id=%hu") 35
own_format row.IsShutdown = named (codes "is_shutdown static_string_id=%hu") 36

-- the format of a row, as text
abbrev pub format_text : Row → List ℕ
format_text r = (own_format r).name

-- the identifier of a row in the boards' own dictionary
abbrev pub own_id : Row → ℕ
own_id r = (own_format r).number

-- the kind of a parameter by what follows `%` in the format: bytes for `%s`, `%*s` and `%.*s`, else a number
abbrev pub kind_behind : List ℕ → Kind
kind_behind [] = kind.Number
kind_behind (b ∷ bs) = if b == 115 || (b == 42 || b == 46) then kind.Bytes else kind.Number

-- the kinds of a format's parameters
abbrev pub kinds_in : List ℕ → List Kind
kinds_in [] = []
kinds_in (b ∷ bs) = if b == 37 then kind_behind bs ∷ kinds_in bs else kinds_in bs

-- the kinds of a row's parameters
abbrev pub kinds : Row → List Kind
kinds r = kinds_in (format_text r)

-- the rows of the table: those of commands, and then those of answers
abbrev pub all_rows : List Row
all_rows =
    row.Identify ∷ row.AllocateOids ∷ row.GetConfig ∷ row.FinalizeConfig ∷ row.GetUptime ∷ row.EmergencyStop
    ∷ row.ConfigStepper ∷ row.QueueStep ∷ row.SetNextStepDir ∷ row.ResetStepClock ∷ row.ConfigTrsync ∷ row.TrsyncStart
    ∷ row.TrsyncSetTimeout ∷ row.TrsyncTrigger ∷ row.StepperStopOnTrigger ∷ row.ConfigEndstop ∷ row.EndstopHome
    ∷ row.IdentifyResponse ∷ row.Config ∷ row.Uptime ∷ row.TrsyncState ∷ row.Shutdown ∷ row.IsShutdown ∷ []

-- the rows of commands
abbrev pub command_rows : List Row
command_rows = take 17 all_rows

-- the rows of answers
abbrev pub answer_rows : List Row
answer_rows = drop 17 all_rows

-- the first of some rows that has a format
abbrev pub row_among : List ℕ → List Row → Option Row
row_among format [] = None
row_among format (r ∷ rs) = if bytes_eq (format_text r) format then Some r else row_among format rs

-- the row of a format
unfoldable pub row_named : List ℕ → Option Row
row_named format = row_among format all_rows

-- the first of some rows that has an identifier
abbrev pub row_with : ℕ → List Row → Option Row
row_with id [] = None
row_with id (r ∷ rs) = if own_id r == id then Some r else row_with id rs

-- the row of an identifier of the boards' own dictionary
unfoldable pub row_numbered : ℕ → Option Row
row_numbered id = row_with id all_rows

-- the row of a format that may be there; the inner one is None where the format is no row of the table
abbrev pub row_of_format : Option (List ℕ) → Option (Option Row)
row_of_format None = None
row_of_format (Some format) = Some (row_named format)
