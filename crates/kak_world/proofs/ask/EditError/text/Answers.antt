use Rattle.std.specs.Str.{chars}
use Rattle.kak_world.proofs.ask.EditError.text.Goals as goal

pub returns-in-TextFull-clause-text : goal.returns-in-TextFull-clause-text
unfolding chars
returns-in-TextFull-clause-text c = rw c.in-TextFull.is c.from_str.ensures

pub returns-in-BadPattern-clause-text : goal.returns-in-BadPattern-clause-text
unfolding chars
returns-in-BadPattern-clause-text c = rw c.in-BadPattern.is c.from_str-in-BadPattern.ensures

pub returns-in-NothingSelected-clause-text : goal.returns-in-NothingSelected-clause-text
unfolding chars
returns-in-NothingSelected-clause-text c = rw c.in-NothingSelected.is c.from_str-in-NothingSelected.ensures

pub returns-in-TooManySelections-clause-text : goal.returns-in-TooManySelections-clause-text
unfolding chars
returns-in-TooManySelections-clause-text c = rw c.in-TooManySelections.is c.from_str-in-TooManySelections.ensures

pub returns-in-BudgetSpent-clause-text : goal.returns-in-BudgetSpent-clause-text
unfolding chars
returns-in-BudgetSpent-clause-text c = rw c.in-BudgetSpent.is c.from_str-in-BudgetSpent.ensures

pub returns-in-UndoFull-clause-text : goal.returns-in-UndoFull-clause-text
unfolding chars
returns-in-UndoFull-clause-text c = rw c.in-UndoFull.is c.from_str-in-UndoFull.ensures

pub returns-in-NothingToUndo-clause-text : goal.returns-in-NothingToUndo-clause-text
unfolding chars
returns-in-NothingToUndo-clause-text c = rw c.in-NothingToUndo.is c.from_str-in-NothingToUndo.ensures

pub returns-in-NothingToRedo-clause-text : goal.returns-in-NothingToRedo-clause-text
unfolding chars
returns-in-NothingToRedo-clause-text c = rw c.in-NothingToRedo.is c.from_str-in-NothingToRedo.ensures

pub returns-in-NoSuchNode-clause-text : goal.returns-in-NoSuchNode-clause-text
unfolding chars
returns-in-NoSuchNode-clause-text c = rw c.in-NoSuchNode.is c.from_str-in-NoSuchNode.ensures

pub returns-in-RegisterFull-clause-text : goal.returns-in-RegisterFull-clause-text
unfolding chars
returns-in-RegisterFull-clause-text c = rw c.in-RegisterFull.is c.from_str-in-RegisterFull.ensures

pub returns-in-SharedLine-clause-text : goal.returns-in-SharedLine-clause-text
unfolding chars
returns-in-SharedLine-clause-text c = rw c.in-SharedLine.is c.from_str-in-SharedLine.ensures

pub returns-in-NoSuchRegister-clause-text : goal.returns-in-NoSuchRegister-clause-text
unfolding chars
returns-in-NoSuchRegister-clause-text c = rw c.in-NoSuchRegister.is c.with_name.ensures

pub returns-in-ReadOnlyRegister-clause-text : goal.returns-in-ReadOnlyRegister-clause-text
unfolding chars
returns-in-ReadOnlyRegister-clause-text c = rw c.in-ReadOnlyRegister.is c.with_name-in-ReadOnlyRegister.ensures
