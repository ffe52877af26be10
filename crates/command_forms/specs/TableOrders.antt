-- Maps, aliases, defined commands and hooks, as commands order them.
use Rattle.std.specs.Prelude.{ℕ, List, option_and_then, unwrap_or, Result}
use Rattle.command_forms.specs.declared.parameters.Allowed.{Allowed}
use Rattle.command_forms.specs.declared.switches.Given.{Given}
use Rattle.command_forms.specs.declared.switches.Switch.TheVariants.{Params, Group, Once}
use Rattle.command_forms.specs.declared.table_orders.TableOrder.{TableOrder}
use Rattle.command_forms.specs.declared.table_orders.TableOrder.TheVariants as order
use Rattle.command_forms.specs.declared.error.OrderError.{OrderError}
use Rattle.command_forms.specs.Results.{then_as, then_with}
use Rattle.command_forms.specs.Arguments.{Paired, no_words, one_word, paired}
use Rattle.command_forms.specs.Parameters.{allowed, allowed_of}
use Rattle.command_forms.specs.Switches.{is_given, word_given, word_or_empty}

-- mapping takes a scope, a mode, a key and keys
abbrev pub mapping : List (List ℕ) → Result TableOrder OrderError
mapping ws =
    then_with (λ (p : Paired). then_with (λ (q : Paired). no_words (order.Map (record { scope = p.first; mode = p.second; key = q.first; keys = q.second })) q.more) (paired p.more)) (paired ws)

-- unmapping takes a scope, a mode and a key
abbrev pub unmapping : List (List ℕ) → Result TableOrder OrderError
unmapping ws =
    then_with (λ (p : Paired). then_as (λ key. order.Unmap (record { scope = p.first; mode = p.second; key = key })) (one_word p.more)) (paired ws)

-- an alias takes a scope, a word and a command
abbrev pub aliasing : List (List ℕ) → Result TableOrder OrderError
aliasing ws =
    then_with (λ (p : Paired). then_as (λ command. order.Alias (record { scope = p.first; word = p.second; command = command })) (one_word p.more)) (paired ws)

-- taking an alias away takes a scope and a word
abbrev pub unaliasing : List (List ℕ) → Result TableOrder OrderError
unaliasing ws = then_with (λ (p : Paired). no_words (order.Unalias (record { scope = p.first; word = p.second })) p.more) (paired ws)

-- the numbers of parameters that switches say: no parameter where none does
abbrev pub allowed_given : List Given → Allowed
allowed_given given = unwrap_or (option_and_then allowed_of (word_given Params given)) (allowed 0 0)

-- defining takes a name and commands
abbrev pub defining : List Given → List (List ℕ) → Result TableOrder OrderError
defining given ws =
    then_with (λ (p : Paired). no_words (order.Define (record { name = p.first; allowed = allowed_given given; commands = p.second })) p.more) (paired ws)

-- a hook by its scope and name, and by its pattern and commands
abbrev pub hook_of : List Given → Paired → Paired → TableOrder
hook_of given p q =
    order.Hook (record { scope = p.first; name = p.second; pattern = q.first; commands = q.second; group = word_or_empty Group given; once = is_given Once given })

-- a hook takes a scope, the name of its event, a pattern and commands
abbrev pub hooking : List Given → List (List ℕ) → Result TableOrder OrderError
hooking given ws =
    then_with (λ (p : Paired). then_with (λ (q : Paired). no_words (hook_of given p q) q.more) (paired p.more)) (paired ws)

-- removing hooks takes a scope and a group
abbrev pub hooks_removed : List (List ℕ) → Result TableOrder OrderError
hooks_removed ws = then_with (λ (p : Paired). no_words (order.RemoveHooks (record { scope = p.first; group = p.second })) p.more) (paired ws)
