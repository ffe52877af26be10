-- What names are set to after one was set or unset.
use Rattle.std.proofs.Common.{◌≡◌, ℕ, List, [], ◌∷◌, Bool, true, false, cond, not, Some, None, Ok, Err, refl, ap, sym, ◌∙◌}
use Rattle.std.specs.Prelude.{find, filter, option_map}
use Rattle.std.specs.Str.{bytes_eq}
use Rattle.std.proofs.lemmas.Slice.Eq.{bytes_eq-Decides}
use Rattle.tables.specs.Tables.{put_where}
use Rattle.tables.proofs.TableLemmas.{by_test, find-put_same, find-put_other}
use Rattle.kak_faces.specs.declared.standard.StandardFace.{StandardFace}
use Rattle.kak_faces.specs.declared.standard.StandardFace.TheVariants as name
use Rattle.kak_faces.specs.Standard.{standard_face}
use Rattle.face_texts.specs.declared.text.FaceText.{FaceText}
use Rattle.face_texts.specs.declared.rows.NamedFace.{NamedFace}
use Rattle.face_texts.specs.Tables.{is_named, text_named, comes_back, named_row, seen_named, face_set_in, face_unset_in}
use Rattle.face_texts.specs.Given.{standard_name, given}
use Rattle.face_texts.specs.Palettes.{palette_of, palette_face}

-- a name that may be set is put
set-is : (name : List ℕ) (text : FaceText) (rows new : List NamedFace) → face_set_in name text rows ≡ Ok new → new ≡ put_where (is_named name) (named_row name text) rows
set-is name text rows new done =
    by_test (λ b. cond b (Err name) (Ok (put_where (is_named name) (named_row name text) rows)) ≡ Ok new → new ≡ put_where (is_named name) (named_row name text) rows) (comes_back rows name text)
    (λ _ same. absurd (let different : Err name ≡ Ok new = same in cc))
    (λ _ made. let same : Ok (put_where (is_named name) (named_row name text) rows) ≡ Ok new = made in cc)
    done

-- rows of two names are apart
apart : (name other : List ℕ) → bytes_eq name other ≡ false → (row : NamedFace) → is_named name row ≡ true → is_named other row ≡ false
apart name other differ row here = ap (λ n. bytes_eq n other) ((bytes_eq-Decides row.name name).0 here) ∙ differ

pub set-same : (name : List ℕ) (text : FaceText) (rows new : List NamedFace) → face_set_in name text rows ≡ Ok new → text_named new name ≡ Some text
set-same name text rows new done =
    ap (λ all. text_named all name) (set-is name text rows new done)
    ∙ ap (option_map (λ (r : NamedFace). r.text)) (find-put_same (is_named name) (named_row name text) rows ((bytes_eq-Decides name name).1 refl))

pub set-other : (name other : List ℕ) (text : FaceText) (rows new : List NamedFace) → face_set_in name text rows ≡ Ok new → bytes_eq name other ≡ false → text_named new other ≡ text_named rows other
set-other name other text rows new done differ =
    ap (λ all. text_named all other) (set-is name text rows new done)
    ∙ ap (option_map (λ (r : NamedFace). r.text)) (find-put_other (is_named name) (is_named other) (named_row name text) rows (apart name other differ) differ)

-- rows that are left when those that pass a test are taken out
find-gone : {A : Type 0} (p : A → Bool) (xs : List A) → find p (filter (λ x. not (p x)) xs) ≡ None
find-gone p [] = refl
find-gone p (x ∷ xs) =
    by_test (λ b. b ≡ p x → find p (cond (not b) (x ∷ filter (λ y. not (p y)) xs) (filter (λ y. not (p y)) xs)) ≡ None) (p x)
    (λ _ _. find-gone p xs)
    (λ _ e. ap (λ b. cond b (Some x) (find p (filter (λ y. not (p y)) xs))) (sym e) ∙ find-gone p xs)
    refl

find-left : {A : Type 0} (p q : A → Bool) (xs : List A) → ((x : A) → p x ≡ true → q x ≡ false) → find q (filter (λ x. not (p x)) xs) ≡ find q xs
find-left p q [] apart = refl
find-left p q (x ∷ xs) apart =
    by_test (λ b. b ≡ p x → find q (cond (not b) (x ∷ filter (λ y. not (p y)) xs) (filter (λ y. not (p y)) xs)) ≡ cond (q x) (Some x) (find q xs)) (p x)
    (λ _ e. find-left p q xs apart ∙ ap (λ b. cond b (Some x) (find q xs)) (sym (apart x (sym e))))
    (λ _ _. ap (λ rest. cond (q x) (Some x) rest) (find-left p q xs apart))
    refl

pub unset-same : (name : List ℕ) (rows : List NamedFace) → text_named (face_unset_in name rows) name ≡ None
unset-same name rows = ap (option_map (λ (r : NamedFace). r.text)) (find-gone (is_named name) rows)

pub unset-other : (name other : List ℕ) (rows : List NamedFace) → bytes_eq name other ≡ false → text_named (face_unset_in name rows) other ≡ text_named rows other
unset-other name other rows differ = ap (option_map (λ (r : NamedFace). r.text)) (find-left (is_named name) (is_named other) rows (apart name other differ))

-- a palette, name by name
pub palette-each : (rows : List NamedFace) (face : StandardFace) → palette_face (palette_of rows) face ≡ seen_named rows (standard_name face)
unfolding palette_of
palette-each rows name.Default = refl
palette-each rows name.BufferPadding = refl
palette-each rows name.PrimarySelection = refl
palette-each rows name.SecondarySelection = refl
palette-each rows name.PrimaryCursor = refl
palette-each rows name.SecondaryCursor = refl
palette-each rows name.PrimaryCursorEol = refl
palette-each rows name.SecondaryCursorEol = refl
palette-each rows name.StatusLine = refl
palette-each rows name.StatusCursor = refl
palette-each rows name.Prompt = refl
palette-each rows name.Error = refl
palette-each rows name.Information = refl
palette-each rows name.LineNumbers = refl
palette-each rows name.LineNumberCursor = refl
palette-each rows name.Whitespace = refl

pub palette-start : (face : StandardFace) → palette_face (palette_of given) face ≡ standard_face face
unfolding palette_of
palette-start name.Default = refl
palette-start name.BufferPadding = refl
palette-start name.PrimarySelection = refl
palette-start name.SecondarySelection = refl
palette-start name.PrimaryCursor = refl
palette-start name.SecondaryCursor = refl
palette-start name.PrimaryCursorEol = refl
palette-start name.SecondaryCursorEol = refl
palette-start name.StatusLine = refl
palette-start name.StatusCursor = refl
palette-start name.Prompt = refl
palette-start name.Error = refl
palette-start name.Information = refl
palette-start name.LineNumbers = refl
palette-start name.LineNumberCursor = refl
palette-start name.Whitespace = refl
