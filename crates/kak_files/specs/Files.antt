-- What files hold, and what a read or a write of one answers and leaves.
use Rattle.std.specs.Prelude.{◌≡◌, ◌≢◌, ℕ, zero, suc, ◌+◌, ◌-◌, ◌^◌, ◌<◌, ◌≤◌, min, Bool, true, false, List, [], ◌∷◌, length, if◌then◌else◌, Some, None}
use Rattle.std.specs.Str.{bytes_eq}
use Rattle.std.specs.declared.option.Option.{Option}
use Rattle.kak_ports.specs.declared.sink.Put.{Put}
use Rattle.kak_ports.specs.declared.sink.Put.TheVariants.{Done, Failed as PutFailed}
use Rattle.kak_files.specs.declared.files.FileRead.{FileRead}
use Rattle.kak_files.specs.declared.files.FileRead.TheVariants.{Bytes, NotThere, TooBig, Failed as ReadFailed}

-- What a name stands for: no file, a file that holds some bytes, or something of which nothing is told any more.
pub data Content : Type 0 where
  Missing : Content
  Holds : List ℕ → Content
  Lost : Content

-- a name, as its bytes in UTF-8, and what it stands for
pub record FileRow : Type 0 where
  pub name : List ℕ
  pub content : Content

-- what a name stands for: the content of the first row of that name; without one there is no such file
abbrev pub content_of : List ℕ → List FileRow → Content
content_of name [] = Missing
content_of name (row ∷ rows) = if bytes_eq row.name name then row.content else content_of name rows

-- What files tell that tell what they hold.
pub record ToldFiles : Type 0 where
  -- what they held when they were made
  pub opening : List FileRow
  -- what they hold
  pub held : List FileRow
  -- whether a write that fails leaves the file as it was; if not, nothing is told of it until it is written again
  pub spare : Bool

-- What files are seen as.
pub record Shelf : Type 0 where
  -- what they hold, where they tell it
  pub told : Option ToldFiles
  -- how often a read or a write failed
  pub faults : ℕ

-- A read of at most `max` bytes may answer this where the name stands for this content. A failed read tells nothing of
-- it, and what was lost may be answered by anything.
abbrev pub IsAnswer : FileRead → ℕ → Content → Type 0
IsAnswer ReadFailed max content = Unit {0}
IsAnswer answer max Lost = Unit {0}
IsAnswer (Bytes bytes) max (Holds held) = (bytes ≡ held) × (length held ≤ max)
IsAnswer (Bytes bytes) max Missing = ⊥
IsAnswer NotThere max (Holds held) = ⊥
IsAnswer NotThere max Missing = Unit {0}
IsAnswer TooBig max (Holds held) = max < length held
IsAnswer TooBig max Missing = ⊥

-- a read answers what the name stands for, where that is told
abbrev pub Reads : FileRead → List ℕ → ℕ → Option ToldFiles → Type 0
Reads answer name max None = Unit {0}
Reads answer name max (Some told) = IsAnswer answer max (content_of name told.held)

-- a read gives no more bytes than were asked for
abbrev pub IsWithin : ℕ → FileRead → Type 0
IsWithin max (Bytes bytes) = length bytes ≤ max
IsWithin max answer = Unit {0}

-- one more than a count; at the end of its range it stands still
abbrev pub one_more : ℕ → ℕ
one_more count = min (count + 1) (2 ^ 64 - 1)

-- a count that rose so often
abbrev pub raised : ℕ → ℕ → ℕ
raised zero count = count
raised (suc times) count = raised times (one_more count)

-- the count of faults rises by one where a read fails, and only there
abbrev pub ReadIsCounted : FileRead → ℕ → ℕ → Type 0
ReadIsCounted ReadFailed before now = now ≡ one_more before
ReadIsCounted answer before now = now ≡ before

-- what stands under a name after a failed write, by whether it spares what stood there
abbrev pub content_left : Bool → Content → Content
content_left true before = before
content_left false before = Lost

-- what stands under a name after a write of some bytes
abbrev pub content_left_by : Put → List ℕ → Bool → Content → Content
content_left_by Done bytes spare before = Holds bytes
content_left_by PutFailed bytes spare before = content_left spare before

-- One name stands for this content, and each other name for what it stood for. All else stays.
pub record ChangesOnly (name : List ℕ) (content : Content) (old new : ToldFiles) : Type 0 where
  pub this : content_of name new.held ≡ content
  pub others : (other : List ℕ) → other ≢ name → content_of other new.held ≡ content_of other old.held
  pub opening : new.opening ≡ old.opening
  pub spare : new.spare ≡ old.spare

-- a write leaves its bytes under its name, or fails, and all else is as it was, where what is held is told
abbrev pub Writes : Put → List ℕ → List ℕ → Option ToldFiles → Option ToldFiles → Type 0
Writes answer name bytes None None = Unit {0}
Writes answer name bytes (Some old) (Some new) = ChangesOnly name (content_left_by answer bytes old.spare (content_of name old.held)) old new
Writes answer name bytes old new = ⊥

-- the count of faults rises by one where a write fails, and only there
abbrev pub WriteIsCounted : Put → ℕ → ℕ → Type 0
WriteIsCounted PutFailed before now = now ≡ one_more before
WriteIsCounted Done before now = now ≡ before
