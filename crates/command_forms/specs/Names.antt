-- The names of commands.
use Rattle.std.specs.Prelude.{ℕ, List, [], ◌∷◌, Option, Some, None, codes}
use Rattle.command_forms.specs.declared.names.CommandName.{CommandName}
use Rattle.command_forms.specs.declared.names.CommandName.TheVariants as name
use Rattle.command_forms.specs.Lookup.{Row, row, looked_up}

-- the whole names
abbrev pub full_names : List (Row CommandName)
full_names =
    row (codes "edit") name.Edit
    ∷ row (codes "write") name.Write
    ∷ row (codes "write-quit") name.WriteQuit
    ∷ row (codes "quit") name.Quit
    ∷ row (codes "quit!") name.QuitForced
    ∷ row (codes "buffer") name.Buffer
    ∷ row (codes "delete-buffer") name.Delete
    ∷ row (codes "delete-buffer!") name.DeleteForced
    ∷ row (codes "declare-option") name.Declare
    ∷ row (codes "set-option") name.Set
    ∷ row (codes "unset-option") name.Unset
    ∷ row (codes "set-register") name.SetRegister
    ∷ row (codes "select") name.Select
    ∷ row (codes "echo") name.Echo
    ∷ row (codes "fail") name.Fail
    ∷ row (codes "nop") name.Nop
    ∷ row (codes "info") name.Info
    ∷ row (codes "set-face") name.SetFace
    ∷ row (codes "unset-face") name.UnsetFace
    ∷ row (codes "add-highlighter") name.AddHighlighter
    ∷ row (codes "remove-highlighter") name.RemoveHighlighter
    ∷ row (codes "map") name.Map
    ∷ row (codes "unmap") name.Unmap
    ∷ row (codes "alias") name.Alias
    ∷ row (codes "unalias") name.Unalias
    ∷ row (codes "define-command") name.Define
    ∷ row (codes "hook") name.Hook
    ∷ row (codes "remove-hooks") name.RemoveHooks
    ∷ row (codes "execute-keys") name.ExecuteKeys
    ∷ row (codes "evaluate-commands") name.Evaluate
    ∷ row (codes "try") name.Try
    ∷ []

-- the short names
abbrev pub short_names : List (Row CommandName)
short_names =
    row (codes "e") name.Edit
    ∷ row (codes "w") name.Write
    ∷ row (codes "wq") name.WriteQuit
    ∷ row (codes "q") name.Quit
    ∷ row (codes "q!") name.QuitForced
    ∷ row (codes "b") name.Buffer
    ∷ row (codes "db") name.Delete
    ∷ row (codes "db!") name.DeleteForced
    ∷ row (codes "decl") name.Declare
    ∷ row (codes "set") name.Set
    ∷ row (codes "unset") name.Unset
    ∷ row (codes "reg") name.SetRegister
    ∷ row (codes "face") name.SetFace
    ∷ row (codes "addhl") name.AddHighlighter
    ∷ row (codes "rmhl") name.RemoveHighlighter
    ∷ row (codes "def") name.Define
    ∷ row (codes "rmhooks") name.RemoveHooks
    ∷ row (codes "exec") name.ExecuteKeys
    ∷ row (codes "eval") name.Evaluate
    ∷ []

-- the command of a whole name, and of a short one
abbrev pub full_name : List ℕ → Option CommandName
full_name word = looked_up word full_names

abbrev pub alias_of : List ℕ → Option CommandName
alias_of word = looked_up word short_names

-- a command by its whole name, if there is one, or else by its short name
abbrev pub or_alias : List ℕ → Option CommandName → Option CommandName
or_alias word (Some name) = Some name
or_alias word None = alias_of word

-- the command that a word names
abbrev pub named : List ℕ → Option CommandName
named word = or_alias word (full_name word)
