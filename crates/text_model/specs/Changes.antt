-- Single changes of a text, what is really put in and taken out, and how a shift of the code describes a change.
use Rattle.std.specs.Prelude.{◌≡◌, ℕ, ◌+◌, ◌-◌, ◌≤◌, Bool, true, false, not, ◌==◌, nat_lt, ◌&&◌, if◌then◌else◌, List, [], ◌∷◌, ◌++◌, length, take, drop, slice_index}
use Rattle.text_model.specs.declared.coords.Shift.{Shift}
use Rattle.text_model.specs.Texts.{ends_in_newline, coord_at, last_place}

-- characters with a newline at their end, which is put there where it lacks
abbrev pub ended : List ℕ → List ℕ
ended s = if ends_in_newline s then s else s ++ 10 ∷ []

-- what is really put in at an offset: at the end of the text, characters get a newline at their end
abbrev pub put_in : List ℕ → ℕ → List ℕ → List ℕ
put_in text p [] = []
put_in text p (c ∷ cs) = if p == length text then ended (c ∷ cs) else c ∷ cs

-- the text after an insertion at an offset
abbrev pub inserted : List ℕ → ℕ → List ℕ → List ℕ
inserted text p s = take p text ++ (put_in text p s ++ drop p text)

-- whether a line begins at an offset behind the first
abbrev pub begins_line : List ℕ → ℕ → Bool
begins_line text p = nat_lt 0 p && (slice_index text (p - 1) == 10)

-- where the range that is really taken ends: the last newline of the text stays, unless whole lines are taken behind another
abbrev pub taken_end : List ℕ → ℕ → ℕ → ℕ
taken_end text p q = if q == length text && not (begins_line text p) then q - 1 else q

-- the text after the range from p to before q is erased
abbrev pub erased : List ℕ → ℕ → ℕ → List ℕ
erased text p q = take p text ++ drop (taken_end text p q) text

-- one single change: characters put in at an offset, or the range from an offset to before another taken out
pub data Change : Type 0 where
  Insertion : ℕ → List ℕ → Change
  Erasure : ℕ → ℕ → Change

-- the text after a single change
abbrev pub changed : List ℕ → Change → List ℕ
changed text (Insertion p s) = take p text ++ (s ++ drop p text)
changed text (Erasure p q) = take p text ++ drop q text

-- the change that takes a change of the text back
abbrev pub inverse : List ℕ → Change → Change
inverse text (Insertion p s) = Erasure p (p + length s)
inverse text (Erasure p q) = Insertion p (take (q - p) (drop p text))

-- the change lies inside the text
abbrev pub IsChangeInside : List ℕ → Change → Type 0
IsChangeInside text (Insertion p s) = p ≤ length text
IsChangeInside text (Erasure p q) = (p ≤ q) × (q ≤ length text)

-- the text after changes, one after another
abbrev pub all_changed : List ℕ → List Change → List ℕ
all_changed text [] = text
all_changed text (c ∷ cs) = all_changed (changed text c) cs

-- an insertion of these characters, or none where there are none
abbrev pub insertion_of : ℕ → List ℕ → List Change
insertion_of p [] = []
insertion_of p (c ∷ cs) = Insertion p (c ∷ cs) ∷ []

-- an insertion at an offset as none or one change
abbrev pub insertion : List ℕ → ℕ → List ℕ → List Change
insertion text p s = insertion_of p (put_in text p s)

-- an erasure of the range from p to before q as none or one change
abbrev pub erasure : List ℕ → ℕ → ℕ → List Change
erasure text p q = if nat_lt p (taken_end text p q) then Erasure p (taken_end text p q) ∷ [] else []

-- characters without the last one
abbrev pub front : List ℕ → List ℕ
front s = take (length s - 1) s

-- an erasure and then an insertion at its place
abbrev pub exchange : List ℕ → ℕ → ℕ → List ℕ → List Change
exchange text p q s = erasure text p q ++ insertion (erased text p q) p s

-- a range replaced by characters, as none, one or two changes: where the text's last newline would be taken
-- and another put in its place, it stays instead
abbrev pub replacement : List ℕ → ℕ → ℕ → List ℕ → List Change
replacement text p q s =
    if nat_lt p q && (q == length text && ends_in_newline s) then exchange text p (q - 1) (front s) else exchange text p q s

-- a change by its offsets: what kind it is, the range put in or taken out, and the last character's place after it
pub record Move : Type 0 where
  pub insert : Bool
  pub begin : ℕ
  pub «end» : ℕ
  pub last : ℕ

-- the offsets of a change of a text
abbrev pub move_of : List ℕ → Change → Move
move_of text (Insertion p s) = record { insert = true; begin = p; end = p + length s; last = last_place (changed text (Insertion p s)) }
move_of text (Erasure p q) = record { insert = false; begin = p; end = q; last = last_place (changed text (Erasure p q)) }

-- the short list is the long one without the range from b to before e
pub record IsCut (long short : List ℕ) (b e : ℕ) : Type 0 where
  pub ordered : b ≤ e
  pub within : e ≤ length long
  pub short_is : short ≡ take b long ++ drop e long

-- the new text is the old one with the range put in (true) or taken out (false)
abbrev pub IsChange : Bool → List ℕ → List ℕ → ℕ → ℕ → Type 0
IsChange true old new b e = IsCut new old b e
IsChange false old new b e = IsCut old new b e

-- of the text before a change and the text after it, the one that holds the range
abbrev pub holder : Bool → List ℕ → List ℕ → List ℕ
holder insert old new = if insert then new else old

-- a shift describes the change between two texts, whose offsets are those of the move
pub record IsShift (old new : List ℕ) (s : Shift) (m : Move) : Type 0 where
  pub insert_is : s.insert ≡ m.insert
  pub change : IsChange m.insert old new m.begin m.end
  pub begin_is : s.begin ≡ coord_at (holder m.insert old new) m.begin
  pub end_is : s.end ≡ coord_at (holder m.insert old new) m.end
  pub last_offset : m.last ≡ last_place new
  pub last_is : s.last ≡ coord_at new m.last

-- a shift describes the change between two texts
abbrev pub IsShiftOf : List ℕ → List ℕ → Shift → Type 0
IsShiftOf old new s = (m : Move) × IsShift old new s m
