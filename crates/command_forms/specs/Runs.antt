-- Keys and texts that are run, as commands order them.
use Rattle.std.specs.Prelude.{ℕ, List, [], ◌∷◌, if◌then◌else◌, Result, Ok, Err, codes}
use Rattle.std.specs.Str.{bytes_eq}
use Rattle.command_forms.specs.declared.switches.Given.{Given}
use Rattle.command_forms.specs.declared.switches.Switch.TheVariants.{WithHooks, WithMaps}
use Rattle.command_forms.specs.declared.order.Order.{Order}
use Rattle.command_forms.specs.declared.order.Order.TheVariants.{Play, Try}
use Rattle.command_forms.specs.declared.error.OrderError.{OrderError}
use Rattle.command_forms.specs.declared.error.OrderError.TheVariants.{WrongArgumentCount}
use Rattle.command_forms.specs.Results.{then_as, then_with}
use Rattle.command_forms.specs.Arguments.{Headed, Paired, headed, no_words, one_word, paired}
use Rattle.command_forms.specs.Switches.{is_given}

-- the order to run keys
abbrev pub play : List Given → List ℕ → Order
play given keys =
    Play (record { keys = keys; hooks = is_given WithHooks given; maps = is_given WithMaps given })

-- running keys takes them
abbrev pub playing : List Given → List (List ℕ) → Result Order OrderError
playing given ws = then_as (play given) (one_word ws)

-- what is tried, by the first text and the words behind it: the word `catch`, and the text that is run where the first fails
abbrev pub caught : List ℕ → List (List ℕ) → Result Order OrderError
caught first ws =
    then_with (λ (p : Paired). if bytes_eq p.first (codes "catch") then no_words (Try (record { first = first; catching = p.second })) p.more else Err WrongArgumentCount) (paired ws)

-- a text that nothing stands behind is tried alone
abbrev pub trying_more : List ℕ → List (List ℕ) → Result Order OrderError
trying_more first [] = Ok (Try (record { first = first; catching = [] }))
trying_more first (w ∷ ws) = caught first (w ∷ ws)

abbrev pub trying : List (List ℕ) → Result Order OrderError
trying ws = then_with (λ (h : Headed). trying_more h.head h.more) (headed ws)
