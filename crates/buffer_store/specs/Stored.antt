-- Changes as a buffer keeps them: by coordinates and with their characters, so that each can be made and taken back.
use Rattle.std.specs.Prelude.{◌≡◌, ℕ, ◌+◌, Bool, not, if◌then◌else◌, List, [], ◌∷◌, ◌++◌, length, ⊤, MatchOption}
use Rattle.std.specs.declared.option.Option.{Option}
use Rattle.text_model.specs.declared.coords.Shift.{Shift}
use Rattle.text_model.specs.Texts.{IsStored, offset, coord_at}
use Rattle.text_model.specs.Changes.{Change, Insertion, Erasure, changed, inverse, move_of, all_changed, holder, IsShift}
use Rattle.change_list.specs.declared.change.Change.{Change as Kept}
use Rattle.undo_model.specs.Steps.{IsStep}

-- characters put in at an offset, or taken out from it on
abbrev pub turn : Bool → ℕ → List ℕ → Change
turn insert p chars = if insert then Insertion p chars else Erasure p (p + length chars)

-- a kept change of a text, by offsets
abbrev pub flat : List ℕ → Kept → Change
flat text k = turn k.shift.insert (offset text k.shift.begin) k.chars

-- what takes a kept change back, of the text behind it
abbrev pub flat_back : List ℕ → Kept → Change
flat_back text k = turn (not k.shift.insert) (offset text k.shift.begin) k.chars

-- the shift of a change of a text
abbrev pub shift_of : List ℕ → Change → Shift
shift_of text c = record {
  insert = (move_of text c).insert;
  begin = coord_at (holder (move_of text c).insert text (changed text c)) (move_of text c).begin;
  «end» = coord_at (holder (move_of text c).insert text (changed text c)) (move_of text c).end;
  last = coord_at (changed text c) (move_of text c).last;
}

-- the shifts of changes of a text, one after another
abbrev pub change_shifts : List ℕ → List Change → List Shift
change_shifts text [] = []
change_shifts text (c ∷ cs) = shift_of text c ∷ change_shifts (changed text c) cs

-- a kept change fits a text that can be kept: it is a step of it, with that step's shift, and has the characters that go in or out
pub record KeptFits (text : List ℕ) (k : Kept) : Type 0 where
  pub stored : IsStored text
  pub step : IsStep text (flat text k)
  pub shift : IsShift text (changed text (flat text k)) k.shift (move_of text (flat text k))
  pub chars : inverse text (flat text k) ≡ turn (not k.shift.insert) (offset text k.shift.begin) k.chars

-- kept changes fit a text, one after another
abbrev pub AllFit : List ℕ → List Kept → Type 0
AllFit text [] = ⊤
AllFit text (k ∷ ks) = KeptFits text k × AllFit (changed text (flat text k)) ks

-- kept changes of a text, by offsets
abbrev pub flats : List ℕ → List Kept → List Change
flats text [] = []
flats text (k ∷ ks) = flat text k ∷ flats (changed text (flat text k)) ks

-- the text behind kept changes
abbrev pub made : List ℕ → List Kept → List ℕ
made text [] = text
made text (k ∷ ks) = made (changed text (flat text k)) ks

-- what takes kept changes of a text back, by offsets, from the last to the first
abbrev pub backs : List ℕ → List Kept → List Change
backs text [] = []
backs text (k ∷ ks) = backs text ks ++ flat_back (all_changed text (backs text ks)) k ∷ []

-- a text behind kept changes that fit the text before them
pub record IsMade (text : List ℕ) (ks : List Kept) : Type 0 where
  pub before : List ℕ
  pub fit : AllFit before ks
  pub is_made : text ≡ made before ks

-- a kept change of a text is the only one of a list, and leads to the new text
pub record IsKeptAlone (old new : List ℕ) (cs : List Change) (k : Kept) : Type 0 where
  pub fits : KeptFits old k
  pub is_change : cs ≡ flat old k ∷ []
  pub leads : new ≡ changed old (flat old k)
  pub made : IsMade new (k ∷ [])

-- what is kept of at most one change of a text: none where there is none
abbrev pub IsKeptStep : List ℕ → List ℕ → List Change → Option Kept → Type 0
IsKeptStep old new cs kept = MatchOption kept ((cs ≡ []) × (new ≡ old)) (IsKeptAlone old new cs)
