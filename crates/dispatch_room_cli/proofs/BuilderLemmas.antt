-- What clap has after arguments and commands were added in turn.
use Rattle.std.proofs.Common.{Bool, List, [], ap, append-nil, append_assoc, false, get_or, length}
use Rattle.std.proofs.Common.{map, refl, subst, rules, sym, take, true, ℕ, ◌+◌, ◌++◌, ◌<◌, ◌∙◌, ◌∷◌}
use Rattle.std.proofs.Common.{◌≡◌, ◌||◌}
use Rattle.std.specs.Prelude.{fold}
use Rattle.std.proofs.lemmas.List.{map-append, map_more}
use Rattle.clap.specs.Words.{AddsArg, AddsInTurn, AddsSubcommand}
use Rattle.clap.specs.Walk.{Rule, rule_of}
use Rattle.clap.specs.Simple.{App, app_of, new_app, shape_of, with_subcommand}
use Rattle.clap.specs.declared.builder.arg.Arg.{Arg}
use Rattle.clap.specs.declared.builder.command.Command.{Command}
use Rattle.clap.specs.declared.builder.command.Command.TheViews.{out-Command}
use Rattle.dispatch_room_cli.specs.CommandForms.{AreAllCommands, AreArgs, AreCommands, AreLocal}
use Rattle.dispatch_room_cli.specs.CommandForms.{HasNoGlobals, HaveNoGlobals, IsArg, IsCommandOf}
use Rattle.dispatch_room_cli.specs.CommandForms.{IsProgram, bare_program, rule_of_word}
use Rattle.dispatch_room_cli.specs.CommandForms.{shape_of_form}
use Rattle.dispatch_room_cli.specs.declared.command_options.CommandForm.{CommandForm}
use Rattle.dispatch_room_cli.specs.declared.command_options.Word.{Word}

-- ---- one more
mapped : {X Y Z : Type 0} (f : X → Z) (g : Y → Z) (xs : List X) (ys : List Y) (i : ℕ) (d : X) (y : Y) → i < length xs
    → map g ys ≡ map f (take i xs) → g y ≡ f (get_or xs i d) → map g (ys ++ y ∷ []) ≡ map f (take (i + 1) xs)
mapped f g xs ys i d y within before here =
    map-append g ys (y ∷ []) ∙ (ap (λ t. t ++ g y ∷ []) before
    ∙ (ap (λ z. map f (take i xs) ++ z ∷ []) here ∙ sym (map_more f xs i d within)))

local_more : (args : List Arg) (arg : Arg) → AreLocal args → arg.global ≡ false → AreLocal (args ++ arg ∷ [])
local_more [] arg all is = (is, tt)
local_more (x ∷ args) arg all is = (all.0, local_more args arg all.1 is)

none_more : (commands : List Command) (command : Command) → HaveNoGlobals commands → HasNoGlobals command
    → HaveNoGlobals (commands ++ command ∷ [])
none_more [] command all is = (is, tt)
none_more (x ∷ commands) command all is = (all.0, none_more commands command all.1 is)

pub no_args : (args : List Arg) → args ≡ [] → AreArgs [] args
no_args args none = subst (AreArgs []) (sym none) (record { rules = refl; local = tt })

pub no_commands : (commands : List Command) → commands ≡ [] → AreCommands [] commands
no_commands commands none = subst (AreCommands []) (sym none) (record { shapes = refl; local = tt })

pub args_more : (words : List Word) (args : List Arg) (i : ℕ) (word : Word) (arg : Arg) → i < length words
    → AreArgs (take i words) args → IsArg (rule_of_word (get_or words i word)) arg
    → AreArgs (take (i + 1) words) (args ++ arg ∷ [])
args_more words args i word arg within before is = record {
  rules = mapped rule_of_word rule_of words args i word arg within before.rules is.rule;
  local = local_more args arg before.local is.local;
}

pub commands_more : (forms : List CommandForm) (commands : List Command) (i : ℕ) (form : CommandForm)
    (command : Command)
    → i < length forms → AreCommands (take i forms) commands → IsCommandOf (get_or forms i form) command
    → AreCommands (take (i + 1) forms) (commands ++ command ∷ [])
commands_more forms commands i form command within before is = record {
  shapes = mapped shape_of_form shape_of forms commands i form command within before.shapes is.shape;
  local = none_more commands command before.local is.local;
}

-- ---- in turn
abbrev with_rules : App → List Rule → App
with_rules app added = record app { top = record app.top { rules = app.top.rules ++ added } }

with_none : (app : App) → app ≡ with_rules app []
with_none app =
    ap (λ (rules : List Rule). record app { top = record app.top { rules = rules } }) (sym (append-nil app.top.rules))

or_false : (a b : Bool) → b ≡ false → (a || b) ≡ a
or_false true b is = refl
or_false false b is = is

args_added : (args : List Arg) (old new : Command) → AreLocal args → AddsInTurn AddsArg old args new
    → (app_of new ≡ with_rules (app_of old) (map rule_of args))
    × ((out-Command new).has_globals ≡ (out-Command old).has_globals)
args_added [] old new local same =
    (ap app_of (sym same) ∙ with_none (app_of old), ap (λ c. (out-Command c).has_globals) (sym same))
args_added (arg ∷ args) old new local added =
    let step = added.1 in
    let rest = args_added args added.0 new local.1 added.2 in
    let app = app_of old in (
      rest.0 ∙ (ap (λ a. with_rules a (map rule_of args)) (step.shape local.0)
          ∙ ap (λ (rules : List Rule). record app { top = record app.top { rules = rules } })
          (append_assoc app.top.rules (rule_of arg ∷ []) (map rule_of args))),
      rest.1 ∙ (step.globals ∙ or_false _ arg.global local.0),
    )

pub is_command : (form : CommandForm) (start : Command) (args : List Arg) (new : Command)
    → app_of start ≡ new_app form.name.now → HasNoGlobals start → AreArgs form.words.now args
    → AddsInTurn AddsArg start args new → IsCommandOf form new
is_command form start args new begins none are added =
    let both = args_added args start new are.local added in
    record {
      shape = ap (λ (a : App). a.top) (both.0 ∙ (ap (λ a. with_rules a (map rule_of args)) begins
          ∙ ap (with_rules (new_app form.name.now)) are.rules));
      local = both.1 ∙ none;
    }

commands_added : (commands : List Command) (old new : Command) → HaveNoGlobals commands
    → AddsInTurn AddsSubcommand old commands new
    → app_of new ≡ fold with_subcommand (app_of old) (map shape_of commands)
commands_added [] old new none same = ap app_of (sym same)
commands_added (command ∷ commands) old new none added =
    let step = added.1 in
    commands_added commands added.0 new none.1 added.2
    ∙ ap (λ a. fold with_subcommand a (map shape_of commands)) (step.shape none.0)

pub is_program : (start : Command) (commands : List Command) (new : Command) → app_of start ≡ bare_program
    → AreAllCommands commands → AddsInTurn AddsSubcommand start commands new → IsProgram new
is_program start commands new begins all added = record {
  forms = all.forms;
  app = commands_added commands start new all.made.local added
      ∙ (ap (λ a. fold with_subcommand a (map shape_of commands)) begins
      ∙ ap (fold with_subcommand bare_program) all.made.shapes);
  are_forms = all.are_forms;
}
