-- Loading and saving.
use Rattle.std.specs.Prelude.{◌≡◌, ℕ, true, List, Ok}
use Rattle.text_model.specs.Texts.{ends_in_newline}
use Rattle.text_coding.specs.declared.form.Loaded.{Loaded}
use Rattle.text_coding.specs.Coding.{loaded, saved}

-- saving what a file's bytes load as gives these bytes, where they load and end in a newline
abbrev pub SavingIsInverse : Type 0
SavingIsInverse = (bytes : List ℕ) (l : Loaded) → loaded bytes ≡ Ok l → ends_in_newline bytes ≡ true → saved l.text l.eol l.bom ≡ bytes
