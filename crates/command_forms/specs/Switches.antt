-- The switches of commands, and of highlighters that number lines: words before all others that begin with a dash.
use Rattle.std.specs.Prelude.{◌≡◌, ℕ, ◌==◌, not, Bool, true, false, List, [], ◌∷◌, ◌++◌, if◌then◌else◌, Option, Some, None, is_some, unwrap_or, Result, Ok, Err, slice_index, codes}
use Rattle.std.specs.List.{list_any}
use Rattle.std.specs.Option.{option_or}
use Rattle.std.specs.Str.{bytes_eq}
use Rattle.command_forms.specs.declared.names.CommandName.{CommandName}
use Rattle.command_forms.specs.declared.names.CommandName.TheVariants as name
use Rattle.command_forms.specs.declared.switches.Switch.{Switch}
use Rattle.command_forms.specs.declared.switches.Switch.TheVariants as switch
use Rattle.command_forms.specs.declared.switches.Owner.{Owner}
use Rattle.command_forms.specs.declared.switches.Owner.TheVariants as owner
use Rattle.command_forms.specs.declared.switches.Given.{Given}
use Rattle.command_forms.specs.declared.error.OrderError.{OrderError}
use Rattle.command_forms.specs.declared.error.OrderError.TheVariants.{UnknownSwitch, WrongArgumentCount, BadValue}
use Rattle.command_forms.specs.Lookup.{Row, row, looked_up}
use Rattle.command_forms.specs.Parameters.{allowed_of}
use Rattle.command_forms.specs.Results.{then_as}

-- whether a word begins with a dash (45)
abbrev pub begins_dash : List ℕ → Bool
begins_dash word = slice_index word 0 == 45

-- the switches of the command that declares options
abbrev pub declare_switch : List ℕ → Option Switch
declare_switch word = looked_up word (row (codes "-hidden") switch.Hidden ∷ row (codes "-docstring") switch.Docstring ∷ [])

-- of the one that defines commands
abbrev pub define_switch : List ℕ → Option Switch
define_switch word =
    looked_up word
    (row (codes "-override") switch.Override ∷ row (codes "-hidden") switch.Hidden ∷ row (codes "-docstring") switch.Docstring
    ∷ row (codes "-params") switch.Params ∷ [])

-- of the one that adds hooks
abbrev pub hook_switch : List ℕ → Option Switch
hook_switch word =
    looked_up word (row (codes "-group") switch.Group ∷ row (codes "-once") switch.Once ∷ row (codes "-always") switch.Always ∷ [])

-- of the one that runs keys
abbrev pub keys_switch : List ℕ → Option Switch
keys_switch word =
    looked_up word
    (row (codes "-with-hooks") switch.WithHooks
    ∷ row (codes "-with-maps") switch.WithMaps ∷ [])

-- of highlighters that number lines
abbrev pub number_switch : List ℕ → Option Switch
number_switch word = looked_up word (row (codes "-hlcursor") switch.HlCursor ∷ row (codes "-separator") switch.Separator ∷ [])

-- the switch that a word is for a command, if it has that one
abbrev pub command_switch : CommandName → List ℕ → Option Switch
command_switch name.Declare word = declare_switch word
command_switch name.Define word = define_switch word
command_switch name.Hook word = hook_switch word
command_switch name.ExecuteKeys word = keys_switch word
command_switch name.Set word = looked_up word (row (codes "-add") switch.Add ∷ [])
command_switch name.Select word = looked_up word (row (codes "-codepoint") switch.Codepoint ∷ [])
command_switch name.Info word = looked_up word (row (codes "-title") switch.Title ∷ [])
command_switch name.AddHighlighter word = looked_up word (row (codes "-override") switch.Override ∷ [])
command_switch name.Map word = looked_up word (row (codes "-docstring") switch.Docstring ∷ [])
command_switch _ word = None

-- the switch that a word is, if there is that one
abbrev pub switch_named : Owner → List ℕ → Option Switch
switch_named (owner.Command name) word = command_switch name word
switch_named owner.NumberLines word = number_switch word

-- whether a word goes with a switch
abbrev pub takes_word : Switch → Bool
takes_word switch.Docstring = true
takes_word switch.Title = true
takes_word switch.Separator = true
takes_word switch.Group = true
takes_word switch.Params = true
takes_word _ = false

-- whether a word may go with a switch: as numbers of parameters, only what says some
abbrev pub is_good : Switch → List ℕ → Bool
is_good switch.Params word = is_some (allowed_of word)
is_good _ word = true

-- the number of a switch
abbrev pub switch_number : Switch → ℕ
switch_number switch.Hidden = 0
switch_number switch.Docstring = 1
switch_number switch.Add = 2
switch_number switch.Codepoint = 3
switch_number switch.Title = 4
switch_number switch.Override = 5
switch_number switch.HlCursor = 6
switch_number switch.Separator = 7
switch_number switch.Group = 8
switch_number switch.Once = 9
switch_number switch.Always = 10
switch_number switch.Params = 11
switch_number switch.WithHooks = 12
switch_number switch.WithMaps = 13

-- whether two switches are one
abbrev pub is_same_switch : Switch → Switch → Bool
is_same_switch a b = switch_number a == switch_number b

-- whether a switch is among those that were given
abbrev pub is_given : Switch → List Given → Bool
is_given switch given = list_any (λ (g : Given). is_same_switch g.switch switch) given

-- the word that went with a switch where it was given last
abbrev pub word_given : Switch → List Given → Option (List ℕ)
word_given switch [] = None
word_given switch (g ∷ gs) = option_or (word_given switch gs) (if is_same_switch g.switch switch then Some g.word else None)

-- the same, or an empty word where the switch wasn't given
abbrev pub word_or_empty : Switch → List Given → List ℕ
word_or_empty switch given = unwrap_or (word_given switch given) []

-- the switches that were given, and the words behind them
pub record TakenSwitches : Type 0 where
  pub given : List Given
  pub words : List (List ℕ)

-- with more switches before the others
abbrev pub behind_switches : List Given → TakenSwitches → TakenSwitches
behind_switches given taken = record { given = given ++ taken.given; words = taken.words }

-- with one more switch before the others, if they were taken
abbrev pub after_one_switch : Given → Result TakenSwitches OrderError → Result TakenSwitches OrderError
after_one_switch given rest = then_as (behind_switches (given ∷ [])) rest

-- what follows a word that is a switch, or isn't one: the switch waits for the word that goes with it, or the next one is
-- taken
abbrev pub by_switch : Option Switch → List ℕ → (Option Switch → Result TakenSwitches OrderError) → Result TakenSwitches OrderError
by_switch None word next = Err (UnknownSwitch word)
by_switch (Some switch) word next =
    if takes_word switch then next (Some switch) else after_one_switch (record { switch = switch; word = [] }) (next None)

-- takes the switches off words; `waiting` is a switch whose word comes next. The word `--` ends them
abbrev pub taken : Owner → Option Switch → List (List ℕ) → Result TakenSwitches OrderError
taken owner None [] = Ok (record { given = []; words = [] })
taken owner (Some switch) [] = Err WrongArgumentCount
taken owner (Some switch) (w ∷ ws) =
    if is_good switch w then after_one_switch (record { switch = switch; word = w }) (taken owner None ws) else Err BadValue
taken owner None (w ∷ ws) =
    if not (begins_dash w) then Ok (record { given = []; words = w ∷ ws }) else
    (if bytes_eq w (codes "--") then Ok (record { given = []; words = ws }) else
    by_switch (switch_named owner w) w (λ waiting. taken owner waiting ws))

-- these are the switches that words give, and the words behind them
abbrev pub AreSwitchesTaken : Owner → List (List ℕ) → List Given → List (List ℕ) → Type 0
AreSwitchesTaken owner ws given words = taken owner None ws ≡ Ok (record { given = given; words = words })
