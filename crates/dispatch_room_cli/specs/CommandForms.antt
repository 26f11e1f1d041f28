-- The program as clap has it: its commands, each with its words.
use Rattle.std.specs.Prelude.{List, Some, [], codes, false, fold, map, true, ◌≡◌, ◌∷◌, ⊤}
use Rattle.clap.specs.Simple.{App, Shape, app_of, is_simple, new_app, new_rule, new_shape, shape_of}
use Rattle.clap.specs.Simple.{with_subcommand}
use Rattle.clap.specs.Walk.{Rule, rule_of, texts}
use Rattle.clap.specs.declared.builder.action.ArgAction.TheVariants.{SetTrue}
use Rattle.clap.specs.declared.builder.arg.Arg.{Arg}
use Rattle.clap.specs.declared.builder.command.Command.{Command}
use Rattle.clap.specs.declared.builder.command.Command.TheViews.{out-Command}
use Rattle.dispatch_room_cli.specs.CommandLines.{command_lines, line_of}
use Rattle.dispatch_room_cli.specs.declared.command_options.CommandForm.{CommandForm}
use Rattle.dispatch_room_cli.specs.declared.command_options.Word.{Word}
use Rattle.dispatch_room_cli.specs.declared.command_options.WordKind.{WordKind}
use Rattle.dispatch_room_cli.specs.declared.command_options.WordKind.TheVariants.{Flag, Named}
use Rattle.dispatch_room_cli.specs.declared.command_options.WordKind.TheVariants.{Needed, Optional}
use Rattle.dispatch_room_cli.specs.declared.command_options.WordKind.TheVariants.{Placed}

-- what clap reads of an argument of this name, by how it is given: at its place, always or not, or
-- behind two hyphens and its name
abbrev pub rule_by : Rule → WordKind → Rule
rule_by bare (Placed parser) = record bare { required = true; parser = Some parser }
rule_by bare (Optional parser) = record bare { parser = Some parser }
rule_by bare Flag = record bare { long = Some bare.id; action = Some SetTrue }
rule_by bare (Needed value parser) =
    record bare { long = Some bare.id; value_names = 1; parser = Some parser; required = true }
rule_by bare (Named value parser default) =
    record bare {
      long = Some bare.id;
      value_names = 1;
      parser = Some parser;
      defaults = texts default.now;
    }

abbrev pub rule_of_word : Word → Rule
rule_of_word word = rule_by (new_rule word.name.now) word.kind

-- an argument that clap reads by this rule, of one command only
pub record IsArg (wanted : Rule) (arg : Arg) : Type 0 where
  pub rule : rule_of arg ≡ wanted
  pub local : arg.global ≡ false

abbrev pub AreLocal : List Arg → Type 0
AreLocal [] = ⊤
AreLocal (arg ∷ rest) = (arg.global ≡ false) × AreLocal rest

-- an argument for each word
pub record AreArgs (words : List Word) (args : List Arg) : Type 0 where
  pub rules : map rule_of args ≡ map rule_of_word words
  pub local : AreLocal args

-- a command with its words
abbrev pub shape_of_form : CommandForm → Shape
shape_of_form form = record (new_shape form.name.now) { rules = map rule_of_word form.words.now }

-- no argument of the command is one of others too
abbrev pub HasNoGlobals : Command → Type 0
HasNoGlobals command = (out-Command command).has_globals ≡ false

pub record IsCommandOf (form : CommandForm) (command : Command) : Type 0 where
  pub shape : shape_of command ≡ shape_of_form form
  pub local : HasNoGlobals command

abbrev pub HaveNoGlobals : List Command → Type 0
HaveNoGlobals [] = ⊤
HaveNoGlobals (command ∷ rest) = HasNoGlobals command × HaveNoGlobals rest

-- a command for each form
pub record AreCommands (forms : List CommandForm) (commands : List Command) : Type 0 where
  pub shapes : map shape_of commands ≡ map shape_of_form forms
  pub local : HaveNoGlobals commands

-- the program before it has commands: its words have to name one
abbrev pub bare_program : App
bare_program = record (new_app (codes "dispatch_room")) {
  top = record (new_shape (codes "dispatch_room")) {
    has_version = true;
    subcommand_required = true;
  };
}

-- the program with these commands
abbrev pub program_of : List CommandForm → App
program_of forms = fold with_subcommand bare_program (map shape_of_form forms)

-- the forms of the program's commands: those of its command line
pub record AreForms (forms : List CommandForm) : Type 0 where
  pub lines : map line_of forms ≡ command_lines
  pub simple : is_simple (program_of forms) ≡ true

-- a command for each form of the program
pub record AreAllCommands (commands : List Command) : Type 0 where
  pub forms : List CommandForm
  pub are_forms : AreForms forms
  pub made : AreCommands forms commands

-- the command is that program
pub record IsProgram (command : Command) : Type 0 where
  pub forms : List CommandForm
  pub app : app_of command ≡ program_of forms
  pub are_forms : AreForms forms
