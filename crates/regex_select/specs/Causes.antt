-- What a refusal tells of the selections that there would be.
use Rattle.std.specs.Prelude.{◌≡◌, ℕ, ◌<◌, ◌≤◌, List, [], length}
use Rattle.text_model.specs.declared.TheConstants.{MAX_SELECTIONS}
use Rattle.list_model.specs.Ranges.{Range}
use Rattle.regex_select.specs.declared.error.SelectError.{SelectError}
use Rattle.regex_select.specs.declared.error.SelectError.TheVariants.{NoMatch, TooMany, NoMemory}

-- nothing would be selected; too much never is
abbrev pub IsForNone : SelectError → List Range → Type 0
IsForNone NoMatch rs = rs ≡ []
IsForNone TooMany rs = ⊥
IsForNone NoMemory rs = Unit {0}

-- nothing would be selected, or too much
abbrev pub IsCause : SelectError → List Range → Type 0
IsCause NoMatch rs = rs ≡ []
IsCause TooMany rs = MAX_SELECTIONS < length rs
IsCause NoMemory rs = Unit {0}

-- so many would be too many
abbrev pub IsForRoom : SelectError → ℕ → Type 0
IsForRoom NoMatch n = ⊥
IsForRoom TooMany n = MAX_SELECTIONS < n
IsForRoom NoMemory n = Unit {0}

-- there is no match, or there is one and no room for it beside so many selections
abbrev pub IsForOneMore : SelectError → List Range → ℕ → Type 0
IsForOneMore NoMatch ms n = ms ≡ []
IsForOneMore TooMany ms n = (0 < length ms) × (MAX_SELECTIONS ≤ n)
IsForOneMore NoMemory ms n = Unit {0}
