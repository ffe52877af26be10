-- What words of highlighters and key texts are refused by is told as a status text.
use Rattle.std.proofs.Common.{◌≡◌, ℕ, List, [], ◌∷◌, refl, ap, subst}
use Rattle.std.specs.Prelude.{Some, None, Ok, Err, IfSome}
use Rattle.std.specs.declared.option.Option.{Option}
use Rattle.std.specs.declared.result.Result.{Result}
use Rattle.command_forms.specs.Numbers.{whole_number}
use Rattle.command_forms.specs.Parting.{Parts, parted}
use Rattle.command_forms.specs.Results.{then_as, then_with}
use Rattle.face_texts.specs.declared.text.FaceText.{FaceText}
use Rattle.face_texts.specs.declared.rows.NamedFace.{NamedFace}
use Rattle.face_texts.specs.Tables.{word_text}
use Rattle.highlight_paint.specs.declared.painter.GroupFace.{GroupFace}
use Rattle.std.specs.Str.{chars}
use Rattle.key_names.specs.declared.key.Key.{Key}
use Rattle.key_names.specs.Reading.{read_text}
use Rattle.kak_world.specs.declared.ask.EditError.{EditError}
use Rattle.kak_world.specs.declared.ask.EditError.TheVariants as error
use Rattle.kak_world.specs.declared.command_error.CommandError.TheVariants.{BadFace, BadKey, BadValue}
use Rattle.kak_world.specs.Flat.{Flat}
use Rattle.kak_world.specs.Rows.{RowEnd, row_of}
use Rattle.command_set.specs.Painters.{face_told, number_told, group_parted, group_told, groups_told}
use Rattle.command_set.specs.Painting.{told_row}
use Rattle.command_set.specs.Tables.{keys_told, only_key, key_told}

-- a refusal by which the step isn't given up
abbrev IsPlain : EditError → Type 0
IsPlain error.BudgetSpent = ⊥
IsPlain _ = Unit {0}

abbrev pub ArePlain : {A : Type 0} → Result A EditError → Type 0
ArePlain r = (e : EditError) → r ≡ Err e → IsPlain e

plain-face : (r : Result FaceText ℕ) → ArePlain (face_told r)
plain-face (Ok text) e h = absurd (let no : Ok text ≡ Err e = h in cc)
plain-face (Err at) e h =
    let same : error.Command (BadFace at) ≡ e = cc in
    subst IsPlain same tt

plain-number : (o : Option ℕ) → ArePlain (number_told o)
plain-number (Some n) e h = absurd (let no : Ok n ≡ Err e = h in cc)
plain-number None e h =
    let same : error.Command BadValue ≡ e = cc in
    subst IsPlain same tt

plain-as : {A B : Type 0} (f : A → B) (r : Result A EditError) → ArePlain r → ArePlain (then_as f r)
plain-as f (Ok x) p e h = absurd (let no : Ok (f x) ≡ Err e = h in cc)
plain-as f (Err d) p e h =
    let same : d ≡ e = cc in
    subst IsPlain same (p d refl)

plain-with : {A B : Type 0} (f : A → Result B EditError) (r : Result A EditError) → ArePlain r → ((x : A) → ArePlain (f x)) → ArePlain (then_with f r)
plain-with f (Ok x) p q e h = q x e h
plain-with f (Err d) p q e h =
    let same : d ≡ e = cc in
    subst IsPlain same (p d refl)

abbrev group_face : ℕ → FaceText → GroupFace
group_face n face = record { group = n; face = face }

plain-group : (faces : List NamedFace) (o : Option Parts) → ArePlain (group_parted faces o)
plain-group faces (Some p) e h =
    let read : Result FaceText EditError = face_told (word_text faces p.behind) in
    plain-with (λ n. then_as (group_face n) read) (number_told (whole_number p.before)) (plain-number (whole_number p.before)) (λ n. plain-as (group_face n) read (plain-face (word_text faces p.behind))) e h
plain-group faces None e h =
    let same : error.Command BadValue ≡ e = cc in
    subst IsPlain same tt

pub plain-groups : (faces : List NamedFace) (words : List (List ℕ)) → ArePlain (groups_told faces words)
plain-groups faces [] e h = absurd (let no : Ok [] ≡ Err e = h in cc)
plain-groups faces (w ∷ ws) e h =
    plain-with (λ g. then_as (λ gs. g ∷ gs) (groups_told faces ws)) (group_told faces w) (plain-group faces (parted 58 w)) (λ g. plain-as (λ gs. g ∷ gs) (groups_told faces ws) (plain-groups faces ws)) e h

pub plain-keys : (r : Result (List Key) ℕ) → ArePlain (keys_told r)
plain-keys (Ok keys) e h = absurd (let no : Ok keys ≡ Err e = h in cc)
plain-keys (Err at) e h =
    let same : error.Command (BadKey at) ≡ e = cc in
    subst IsPlain same tt

plain-only : (r : Result (List Key) EditError) → ArePlain r → ArePlain (only_key r)
plain-only (Ok []) p e h =
    let same : error.Command (BadKey 0) ≡ e = cc in
    subst IsPlain same tt
plain-only (Ok (k ∷ [])) p e h = absurd (let no : Ok k ≡ Err e = h in cc)
plain-only (Ok (k ∷ l ∷ ks)) p e h =
    let same : error.Command (BadKey 0) ≡ e = cc in
    subst IsPlain same tt
plain-only (Err d) p e h =
    let same : d ≡ e = cc in
    subst IsPlain same (p d refl)

pub plain-key : (word : List ℕ) → ArePlain (key_told word)
plain-key word = plain-only (keys_told (read_text (chars word))) (plain-keys (read_text (chars word)))

-- what wasn't told is the row's refusal
module _ {A : Type 0} (row : A → RowEnd) (flat : Flat) (r : Result A EditError) where
  abbrev IsRefused : EditError → Type 0
  IsRefused e = IfSome (row_of e) (λ x. told_row row flat r ≡ record { world = flat; row = x })

  pub told-refused : (e : EditError) → ArePlain r → IfSome (row_of e) (λ x. r ≡ Err e) → IsRefused e
  told-refused error.NoMemory p h = tt
  told-refused error.BudgetSpent p h = absurd (p error.BudgetSpent h)
  told-refused e p h = ap (told_row row flat) h
