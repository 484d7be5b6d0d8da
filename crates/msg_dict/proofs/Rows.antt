-- Each row is the row of its format, has its identifier among the boards' formats, and that is small.
use Rattle.std.proofs.Common.{◌≡◌, ◌<◌, true, Some, nat_lt, refl}
use Rattle.std.proofs.lemmas.Bool.{ltb-true}
use Rattle.msg_dict.specs.declared.row.Row.{Row}
use Rattle.msg_dict.specs.declared.row.Row.TheVariants as row
use Rattle.msg_dict.specs.Table.{format_text, own_id, row_named}
use Rattle.msg_dict.specs.Dictionary.{number_named}
use Rattle.msg_dict.specs.Own.{own_formats}

each : (r : Row) → (row_named (format_text r) ≡ Some r) × (number_named (format_text r) own_formats ≡ Some (own_id r)) × (nat_lt (own_id r) 96 ≡ true)
unfolding row_named own_formats
each row.IdentifyResponse = (refl, refl, refl)
each row.Identify = (refl, refl, refl)
each row.AllocateOids = (refl, refl, refl)
each row.GetConfig = (refl, refl, refl)
each row.FinalizeConfig = (refl, refl, refl)
each row.GetUptime = (refl, refl, refl)
each row.EmergencyStop = (refl, refl, refl)
each row.ConfigStepper = (refl, refl, refl)
each row.QueueStep = (refl, refl, refl)
each row.SetNextStepDir = (refl, refl, refl)
each row.ResetStepClock = (refl, refl, refl)
each row.ConfigTrsync = (refl, refl, refl)
each row.TrsyncStart = (refl, refl, refl)
each row.TrsyncSetTimeout = (refl, refl, refl)
each row.TrsyncTrigger = (refl, refl, refl)
each row.StepperStopOnTrigger = (refl, refl, refl)
each row.ConfigEndstop = (refl, refl, refl)
each row.EndstopHome = (refl, refl, refl)
each row.Config = (refl, refl, refl)
each row.Uptime = (refl, refl, refl)
each row.TrsyncState = (refl, refl, refl)
each row.Shutdown = (refl, refl, refl)
each row.IsShutdown = (refl, refl, refl)

pub named_back : (r : Row) → row_named (format_text r) ≡ Some r
named_back r = (each r).0

pub own_number : (r : Row) → number_named (format_text r) own_formats ≡ Some (own_id r)
own_number r = (each r).1

pub own_small : (r : Row) → own_id r < 96
own_small r = ltb-true (own_id r) 96 (each r).2
