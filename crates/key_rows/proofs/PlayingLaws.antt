-- A macro leaves the world: what it does is only asked for.
use Rattle.std.proofs.Common.{◌≡◌, ℕ, List, [], refl}
use Rattle.std.specs.Prelude.{Ok, Err, Some, None, slice_index_or}
use Rattle.std.specs.declared.option.Option.{Option}
use Rattle.std.specs.declared.result.Result.{Result}
use Rattle.std.specs.Str.{chars}
use Rattle.key_names.specs.declared.key.Key.{Key}
use Rattle.kak_world.specs.declared.playing.Macro.{Macro}
use Rattle.kak_world.specs.Flat.{Flat}
use Rattle.key_rows.specs.Playing.{keys_asked, text_played, run_further, strings_played, row_macro}
use Rattle.key_rows.specs.Reading.{strings_read}

asked-stays : (read : Result (List Key) ℕ) (again : Option Macro) (flat : Flat) → (keys_asked read again flat).world ≡ flat
asked-stays (Ok keys) again flat = refl
asked-stays (Err at) again flat = refl

pub text_stays : (text : List ℕ) (again : Option Macro) (flat : Flat) → (text_played text again flat).world ≡ flat
text_stays text again flat = asked-stays _ again flat

strings-stay : (strings : Option (List (List ℕ))) (again : Macro) (flat : Flat) → (strings_played strings again flat).world ≡ flat
strings-stay None again flat = refl
strings-stay (Some strings) again flat = text_stays (chars (slice_index_or strings 0 [])) (run_further again.register again.further) flat

pub macro_stays : (again : Macro) (who : ℕ) (flat : Flat) → (row_macro again who flat).world ≡ flat
unfolding row_macro
macro_stays again who flat = strings-stay (strings_read again.register who flat) again flat
