-- Names of files, and the rows that they find.
use Rattle.std.proofs.Common.{◌≡◌, ◌≢◌, ℕ, Bool, true, false, List, ◌∷◌, cond, refl, ap}
use Rattle.std.specs.Str.{bytes_eq}
use Rattle.std.proofs.lemmas.Slice.Eq.{bytes_eq-Decides}
use Rattle.kak_files.specs.Files.{Content, FileRow, content_of}

pub names-same : (name : List ℕ) → bytes_eq name name ≡ true
names-same name = (bytes_eq-Decides name name).1 refl

differ : (b : Bool) (a c : List ℕ) → (b ≡ true → a ≡ c) → a ≢ c → b ≡ false
differ false a c same apart = refl
differ true a c same apart = absurd (apart (same refl))

pub names-apart : (one other : List ℕ) → one ≢ other → bytes_eq one other ≡ false
names-apart one other apart = differ (bytes_eq one other) one other (bytes_eq-Decides one other).0 apart

-- a row that is put in front is found by its name
pub content-first : (name : List ℕ) (content : Content) (rows : List FileRow) → content_of name (record { name = name; content = content } ∷ rows) ≡ content
content-first name content rows = ap (λ b. cond b content (content_of name rows)) (names-same name)

-- and by no other name
pub content-other : (name other : List ℕ) (content : Content) (rows : List FileRow) → name ≢ other → content_of other (record { name = name; content = content } ∷ rows) ≡ content_of other rows
content-other name other content rows apart = ap (λ b. cond b content (content_of other rows)) (names-apart name other apart)
