-- What a row, which is one key or one command, gives: the new world, and what comes next.
use Rattle.std.specs.Prelude.{◌≡◌, ℕ, suc, Bool, if◌then◌else◌, List, [], ◌∷◌, ◌++◌, codes, IfSome}
use Rattle.std.specs.declared.option.Option.{Option}
use Rattle.std.specs.Prelude.{Some, None}
use Rattle.std.specs.declared.result.Result.{Result}
use Rattle.std.specs.Prelude.{Ok, Err}
use Rattle.kak_world.specs.declared.ask.Ask.{Ask}
use Rattle.kak_world.specs.declared.ask.Ask.TheVariants.{Nothing, Make, Read, Write, Then}
use Rattle.kak_world.specs.declared.ask.Later.TheVariants as later
use Rattle.kak_world.specs.declared.ask.EditError.{EditError}
use Rattle.kak_world.specs.declared.ask.EditError.TheVariants.{TextFull, UndoFull, NothingToUndo, NothingToRedo, NoSuchNode, NoSuchRegister, ReadOnlyRegister, RegisterFull, SharedLine, Command, BadPattern, NothingSelected, TooManySelections, BudgetSpent, NoMemory}
use Rattle.kak_world.specs.CommandErrors.{command_text}
use Rattle.kak_world.specs.Flat.{Flat}

-- What comes after a row: it asks for something, it fails with a status text, or the whole step is given up.
pub data Row : Type 0 where
  Asks : Ask → Row
  Fails : List ℕ → Row
  GivesUp : Row

-- the world after a row, and what comes next
pub record RowEnd : Type 0 where
  pub world : Flat
  pub row : Row

-- how many more rows may come behind a write without a unit being taken: one that notes it, and one by which the client may leave
abbrev pub stages_of_write : Bool → ℕ
stages_of_write quits = if quits then 2 else 1

-- and behind any row: those that go on with what the outside answered, and behind the hooks of what was done
abbrev pub stages_of : Row → ℕ
stages_of (Asks (Make wanted)) = 1
stages_of (Asks (Read name)) = 1
stages_of (Asks (Write saving)) = stages_of_write saving.quits
stages_of (Asks (Then (later.Write saving))) = suc (stages_of_write saving.quits)
stages_of (Asks (Then later.Quit)) = 1
stages_of (Asks (Then (later.Drop dropping))) = 1
stages_of _ = 0

-- a row that did something, and asks for nothing more
abbrev pub does : Flat → RowEnd
does flat = record { world = flat; row = Asks Nothing }

-- the status text of a refusal; want of memory has none
abbrev pub error_text : EditError → List ℕ
error_text TextFull = codes "text is full"
error_text UndoFull = codes "undo tree full"
error_text NothingToUndo = codes "nothing to undo"
error_text NothingToRedo = codes "nothing to redo"
error_text NoSuchNode = codes "no such undo node"
error_text (NoSuchRegister name) = codes "no such register: " ++ name ∷ []
error_text (ReadOnlyRegister name) = codes "register is read only: " ++ name ∷ []
error_text RegisterFull = codes "register is full"
error_text SharedLine = codes "align needs one selection per line"
error_text (Command error) = command_text error
error_text BadPattern = codes "bad pattern"
error_text NothingSelected = codes "nothing selected"
error_text TooManySelections = codes "too many selections"
error_text BudgetSpent = codes "given up: budget spent"
error_text NoMemory = []

-- a row that fails, and leaves the world as it is
abbrev pub fails : EditError → Flat → RowEnd
fails error flat = record { world = flat; row = Fails (error_text error) }

-- what comes after a row that was refused: its status text, or that the step is given up; want of memory has no row
abbrev pub row_of : EditError → Option Row
row_of NoMemory = None
row_of BudgetSpent = Some GivesUp
row_of error = Some (Fails (error_text error))

-- what a row's code answered, over the world that it left, is what the row gives, unless memory was wanting
abbrev pub GivesRow : Result Ask EditError → Flat → RowEnd → Type 0
GivesRow (Ok ask) new end = end ≡ record { world = new; row = Asks ask }
GivesRow (Err error) new end = IfSome (row_of error) (λ row. end ≡ record { world = new; row = row })

-- the same for code that asks for nothing: the row is a change of the world, or a refusal
abbrev pub Answers : {T : Type 0} → Result T EditError → Flat → RowEnd → Type 0
Answers (Ok done) new end = end ≡ does new
Answers (Err error) new end = IfSome (row_of error) (λ row. end ≡ record { world = new; row = row })
