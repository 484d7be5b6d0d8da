-- The command as the words are parsed by it: its subcommands and their operands.
use Rattle.std.specs.Prelude.{Bool, true, false, codes, Some}
use Rattle.clap.specs.Words.{App, Rule, Text, new_app, new_rule, with_rule, with_subcommand}
use Rattle.clap.specs.Simple.{on_top}
use Rattle.clap.specs.declared.builder.action.ArgAction.TheVariants.{Set}

-- an operand, which must be there or may be left out
abbrev pub operand : Bool → Text → Rule
operand needed id = record (new_rule id) { required = needed; action = Some Set }

-- a subcommand with two operands
abbrev pub of_two : Text → App
of_two name = with_rule (with_rule (new_app name) (operand true (codes "first"))) (operand true (codes "second"))

-- a subcommand with three operands, of which the third may be left out
abbrev pub of_three : Text → App
of_three name = with_rule (of_two name) (operand false (codes "third"))

-- a subcommand with three operands, all of which must be there
abbrev pub of_all_three : Text → App
of_all_three name = with_rule (of_two name) (operand true (codes "third"))

-- a command that has subcommands alone: no flag, no help
abbrev pub bare : App
bare =
    on_top (λ s. record s {
      no_binary_name = true;
      disable_help_flag = true;
      disable_help_subcommand = true;
      disable_version_flag = true;
      subcommand_required = true;
    })
    (new_app (codes "luqhabu"))

-- the subcommands that plan a G-code: `run` has two or three operands, `make` and `fan` two
abbrev pub planning_commands : App
planning_commands =
    with_subcommand (with_subcommand (with_subcommand bare (of_three (codes "run")).top) (of_two (codes "make")).top)
    (of_two (codes "fan")).top

-- behind these, `check` has three operands
abbrev pub checks : App
checks = with_subcommand planning_commands (of_all_three (codes "check")).top

-- the program's command: behind these, `dump`, `replay` and `mesh` have three operands
abbrev pub program : App
program =
    with_subcommand
    (with_subcommand (with_subcommand checks (of_all_three (codes "dump")).top) (of_all_three (codes "replay")).top)
    (of_all_three (codes "mesh")).top
