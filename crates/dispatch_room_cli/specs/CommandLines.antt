-- The command line of the program: the words of each of its commands.
use Rattle.std.specs.Prelude.{List, [], codes, map, pos, ℕ, ◌∷◌}
use Rattle.clap.specs.Walk.{Text, texts}
use Rattle.clap.specs.declared.builder.value_parser.ValueParser.{ValueParser}
use Rattle.clap.specs.declared.builder.value_parser.ValueParser.TheVariants as parser
use Rattle.dispatch_room_cli.specs.declared.command_options.CommandForm.{CommandForm}
use Rattle.dispatch_room_cli.specs.declared.command_options.Word.{Word}
use Rattle.dispatch_room_cli.specs.declared.command_options.WordKind.{WordKind}
use Rattle.dispatch_room_cli.specs.declared.command_options.WordKind.TheVariants.{Flag, Named}
use Rattle.dispatch_room_cli.specs.declared.command_options.WordKind.TheVariants.{Needed, Optional}
use Rattle.dispatch_room_cli.specs.declared.command_options.WordKind.TheVariants.{Placed}

-- what a word may be: any text, a number from the least to the greatest, or one of some texts
pub data Values : Type 0 where
  any : Values
  number : ℕ → ℕ → Values
  among : List Text → Values
  others : Values

-- how a word is given: at its place, always or not; by its name only; or behind its name, always, or
-- with default values where it is not
pub data Manner : Type 0 where
  placed : Values → Manner
  optional : Values → Manner
  flag : Manner
  needed : Values → Manner
  named : Values → List Text → Manner

-- the name of a command, and its words by their names
abbrev pub Line : Type 0
Line = Text × List (Text × Manner)

abbrev pub values_of : ValueParser → Values
values_of parser.String = any
values_of (parser.Signed (pos least) (pos greatest)) = number least greatest
values_of (parser.Unsigned least greatest) = number least greatest
values_of (parser.Names names) = among (texts names.now)
values_of _ = others

abbrev pub manner_of : WordKind → Manner
manner_of (Placed parser) = placed (values_of parser)
manner_of (Optional parser) = optional (values_of parser)
manner_of Flag = flag
manner_of (Needed value parser) = needed (values_of parser)
manner_of (Named value parser default) = named (values_of parser) (texts default.now)

abbrev pub line_of : CommandForm → Line
line_of form =
    (form.name.now, map (λ (word : Word). (word.name.now, manner_of word.kind)) form.words.now)

-- a word at its place that may be any text, an option that may, and the option that explains a
-- failure
abbrev text : Text → Text × Manner
text name = (name, placed any)

abbrev option : Text → Text × Manner
option name = (name, named any [])

abbrev switch : Text → Text × Manner
switch name = (name, flag)

abbrev limit : Text → ℕ → ℕ → List Text → Text × Manner
limit name least greatest default = (name, named (number least greatest) default)

abbrev choice : Text → List Text → Text → Text × Manner
choice name names default = (name, named (among names) (default ∷ []))

abbrev explain : Text × Manner
explain = switch (codes "explain")

abbrev patience : Text × Manner
patience = limit (codes "patience") 1 3600 (codes "2" ∷ [])

abbrev serve_words : List (Text × Manner)
serve_words = text (codes "FILE") ∷ text (codes "ADDRESS")
    ∷ limit (codes "connections") 1 18446744073709551615 []
    ∷ limit (codes "idle") 1 60000 (codes "200" ∷ [])
    ∷ limit (codes "keep") 1 3600 (codes "75" ∷ [])
    ∷ patience ∷ switch (codes "history") ∷ switch (codes "log") ∷ option (codes "journal")
    ∷ choice (codes "journal-of") (codes "all" ∷ codes "changes" ∷ []) (codes "all")
    ∷ choice (codes "journal-sync") (codes "always" ∷ codes "system" ∷ []) (codes "system")
    ∷ explain ∷ []

abbrev replay_words : List (Text × Manner)
replay_words = text (codes "FILE") ∷ limit (codes "until") 0 4102444799 []
    ∷ switch (codes "answers") ∷ switch (codes "history") ∷ switch (codes "open") ∷ switch (codes "digest") ∷ explain
    ∷ []

abbrev board_words : List (Text × Manner)
board_words = text (codes "ADDRESS") ∷ (codes "TOKEN", optional any) ∷ option (codes "token")
    ∷ switch (codes "plain") ∷ limit (codes "incident") 1 2147483647 [] ∷ patience
    ∷ choice (codes "color") (codes "auto" ∷ codes "always" ∷ codes "never" ∷ []) (codes "auto")
    ∷ explain ∷ []

abbrev divisions : Values
divisions = among (codes "1" ∷ codes "2" ∷ codes "3" ∷ codes "4" ∷ codes "5" ∷ codes "6"
    ∷ codes "7" ∷ codes "8" ∷ codes "9" ∷ [])

-- all commands
abbrev pub command_lines : List Line
command_lines = (codes "init", text (codes "FILE") ∷ text (codes "PLAN") ∷ explain ∷ [])
    ∷ (
      codes "import",
      text (codes "FILE") ∷ text (codes "FLEET") ∷ option (codes "journal") ∷ explain ∷ [],
    )
    ∷ (
      codes "terminals",
      text (codes "FILE") ∷ option (codes "new") ∷ option (codes "revoke")
          ∷ option (codes "from") ∷ option (codes "journal") ∷ explain ∷ [],
    )
    ∷ (
      codes "replan",
      text (codes "FILE") ∷ text (codes "PLAN") ∷ option (codes "journal") ∷ explain ∷ [],
    )
    ∷ (codes "migrate", text (codes "FILE") ∷ explain ∷ [])
    ∷ (codes "check", text (codes "FILE") ∷ explain ∷ [])
    ∷ (codes "digest", text (codes "FILE") ∷ explain ∷ [])
    ∷ (codes "restore", text (codes "COPY") ∷ text (codes "FILE") ∷ explain ∷ [])
    ∷ (codes "serve", serve_words)
    ∷ (codes "replay", replay_words)
    ∷ (codes "verify", text (codes "LIST") ∷ explain ∷ [])
    ∷ (
      codes "renew",
      text (codes "OLD") ∷ text (codes "NEW") ∷ (codes "since", needed any) ∷ explain ∷ [],
    )
    ∷ (codes "board", board_words)
    ∷ (
      codes "times",
      text (codes "FILE") ∷ (codes "DIVISION", placed divisions) ∷ text (codes "DAY")
          ∷ option (codes "and") ∷ explain ∷ [],
    ) ∷ []
