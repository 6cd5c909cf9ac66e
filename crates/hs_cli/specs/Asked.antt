-- What a command's value asks.
use Rattle.hs_cli.specs.declared.command.Command.{Command}
use Rattle.hs_cli.specs.declared.command.Command.TheVariants.{Print}
use Rattle.hs_cli.specs.Command as words

abbrev pub asked_by : Command → words.Command
asked_by (Print dialect module_name file) = words.AsksPrint (record { dialect = dialect; module_name = module_name.now; file = file.now })
